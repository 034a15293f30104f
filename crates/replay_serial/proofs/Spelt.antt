-- A field's bytes in a room: as many as are counted, at its front.
use Prim.Native.Nat.{ℕ, ◌+◌, ◌-◌}
use native.Mathlib.Omega.{arith}
use mathlib.Core.Path.{◌≡◌, refl, sym, ap, ap₂, ◌∙◌}
use mathlib.Core.Bool.{cond}
use mathlib.Core.List.{List}
use lib.ListN.{length, take, drop}
use lib.Seq.{sets, sets-eq, take_at}
use Rattle.std.specs.Prelude.{Option, Some, None, is_some}
use Rattle.serial_rules.specs.Feed.{feed}
use Rattle.serial_rules.specs.declared.Listener.{Listener}
use Rattle.script.specs.Hex.{hex_count, hex_bytes}
use Rattle.script.proofs.Pairs.{counted}

pub spelt_front : (field before : List ℕ) (n : ℕ) → hex_count (length before) field ≡ Some n
    → take n (sets before 0 (hex_bytes (length before) field)) ≡ hex_bytes (length before) field
spelt_front field before n is =
    let bytes : List ℕ = hex_bytes (length before) field in
    let h = counted (length before) field n is in
    ap (take n) (sets-eq bytes before 0 (omega (arith, h))) ∙ take_at bytes (drop (0 + length bytes) before) n h.0

-- a field that spells nothing leaves the listener; one that spells bytes is fed
module _ (l : Listener) (field whole before : List ℕ) (same : field ≡ whole) (room : 40960 ≡ length before) where
  count_whole : (count : Option ℕ) → count ≡ hex_count (length before) field → hex_count 40960 whole ≡ count
  count_whole count is = ap₂ hex_count room (sym same) ∙ sym is

  pub unread : (other : Listener) → None ≡ hex_count (length before) field → l ≡ cond (is_some (hex_count 40960 whole)) other l
  unread other none = rw (count_whole None none) refl

  pub read : (n : ℕ) → Some n ≡ hex_count (length before) field → (filled : List ℕ) → filled ≡ sets before 0 (hex_bytes (length before) field)
      → (after : Listener) → after ≡ (feed l (take (n - 0) (drop 0 filled))).listener
      → after ≡ cond (is_some (hex_count 40960 whole)) (feed l (hex_bytes 40960 whole)).listener l
  read n some filled put after is =
      let all : n - 0 ≡ n = omega arith in
      rw (count_whole (Some n) some)
      (is
      ∙ ap₂ (λ (k : ℕ) (bs : List ℕ). (feed l (take k bs)).listener) all put
      ∙ ap (λ (bs : List ℕ). (feed l bs).listener) (spelt_front field before n (sym some) ∙ ap₂ hex_bytes (sym room) same))
