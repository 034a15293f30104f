-- Writers one after the other are one writer (`put_then`, by `sets_append`), and what is put at 0 is the front of the buffer (`put_front`).
use Prim.Native.Nat.{ℕ, ◌+◌, ◌≤◌}
use mathlib.Core.Path.{◌≡◌, refl, sym, ◌∙◌}
use mathlib.Core.List.{List, [], ◌∷◌, ◌++◌}
use native.Mathlib.Omega.{arith}
use lib.ListN.{length, set, take, drop, length-append}
use lib.Seq.{length-sets, sets-eq, take_at, drop_at}
use Rattle.word.proofs.Runs.{sets_append}
use Rattle.text.specs.Put.{Put, Front}

pub put_none : (l : List ℕ) (at : ℕ) → Put l at [] l at
put_none l at = record { bytes = refl; place = omega arith }

pub put_one : (l : List ℕ) (at byte : ℕ) → Put l at (byte ∷ []) (set l at byte) (at + 1)
put_one l at byte = record { bytes = refl; place = refl }

pub put_then : {l : List ℕ} {at : ℕ} {a m : List ℕ} {p : ℕ} {b k : List ℕ} {q : ℕ} → Put l at a m p → Put m p b k q → Put l at (a ++ b) k q
put_then {l} {at} {a} {m} {p} {b} {k} {q} f g =
    record { bytes = g.bytes ∙ rw (f.bytes, f.place) (sym (sets_append a b l at)); place = rw length-append (omega arith) }

pub put_length : {l : List ℕ} {at : ℕ} {a m : List ℕ} {p : ℕ} → Put l at a m p → length m ≡ length l
put_length {l} {at} {a} f = rw f.bytes (length-sets l at a)

pub put_front : {l text m : List ℕ} {r : ℕ} → Put l 0 text m r → length text ≤ length l → Front l text m r
put_front {l} {text} {m} {r} f room =
    let whole : m ≡ text ++ drop (0 + length text) l = f.bytes ∙ sets-eq text l 0 (omega arith) in
    let first : take r m ≡ text = rw whole (take_at text (drop (0 + length text) l) r (omega arith)) in
    record {
      within = omega (arith, put_length f);
      counted = rw first (omega arith);
      first = first;
      rest = rw (whole, drop_at text (drop (0 + length text) l) r (omega arith)) (cc f.place);
    }
