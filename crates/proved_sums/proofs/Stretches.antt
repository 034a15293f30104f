-- Bytes that don't go round the data region's end stand in one stretch of the buffer: the first half of what the double mapping shows (`bytes_mapped`).
use Prim.Native.Nat.{ℕ, ◌+◌, ◌-◌, ◌%◌, ◌≤◌, ◌<◌}
use native.Mathlib.Omega.{arith}
use mathlib.Core.Path.{◌≡◌, sym, ap, ◌∙◌}
use mathlib.Core.List.{List}
use lib.ListN.{length, take, drop, length-drop}
use lib.Seq.{take-append-le, drop-append-le, drop-drop}
use Rattle.region_rules.specs.Region.{bytes_at}
use Rattle.region_rules.proofs.Bytes.{bytes_take, bytes_drop}
use Rattle.region_rules.proofs.Mapped.{mapped, bytes_mapped}

module _ (r : List ℕ) (c : ℕ) (long : length r ≡ 8192 + c) (some : 0 < c) where
  pub stretch : (p n : ℕ) → p % c + n ≤ c → bytes_at r c p n ≡ take n (drop (8192 + p % c) r)
  unfolding mapped
  stretch p n fits =
      let once : List ℕ = drop 8192 r in
      let size : length once ≡ c = length-drop 8192 r ∙ omega arith in
      bytes_mapped r c p n long some (omega arith)
      ∙ ap (take n) (drop-append-le (p % c) once once (omega arith))
      ∙ take-append-le n (drop (p % c) once) once (omega (arith, length-drop (p % c) once))
      ∙ ap (take n) (drop-drop (p % c) 8192 r)

  -- m + n bytes of which the first m reach the end, and the others go on at the beginning
  pub stretches : (p m n : ℕ) (bytes : List ℕ) → bytes_at r c p (m + n) ≡ bytes → p % c + m ≤ c → (p + m) % c + n ≤ c
      → (take m (drop (8192 + p % c) r) ≡ take m bytes) × (take n (drop (8192 + (p + m) % c) r) ≡ drop m bytes)
  stretches p m n bytes are first second =
      let left : m + n - m ≡ n = omega arith in (
        sym (stretch p m first) ∙ sym (bytes_take r c m p (m + n) (omega arith)) ∙ ap (take m) are,
        sym (stretch (p + m) n second)
            ∙ ap (bytes_at r c (p + m)) (sym left)
            ∙ sym (bytes_drop r c m p (m + n) (omega arith))
            ∙ ap (drop m) are,
      )
