-- A payload of n bytes cut to n bytes is itself: the sums speak of every payload of the lengths that they give.
use Prim.Native.Nat.{ℕ, zero, suc, ◌+◌, ◌≤◌}
use native.Mathlib.Omega.{arith}
use mathlib.Core.Path.{◌≡◌, refl, sym, ap, ◌∙◌}
use mathlib.Core.List.{List, ◌∷◌}
use lib.ListN.{length, take, drop, get_or}
use lib.Seq.{take-length, drop-cons}
use Rattle.promise.specs.Bytes.{Event}
use Rattle.proved_sums.specs.Lives.{cut, paid}

cut_part : (at n : ℕ) (l : List ℕ) → at + n ≤ length l → cut at n l ≡ take n (drop at l)
unfolding cut
cut_part at zero l within = refl
cut_part at (suc n) l within =
    ap (λ (r : List ℕ). get_or l at 0 ∷ r) (cut_part (suc at) n l (omega arith))
    ∙ sym (ap (take (suc n)) (drop-cons l at 0 (omega arith)))

pub paid_same : (e : Event) → paid (length e.payload) e ≡ e
paid_same e = λ i. record {
  timestamp = e.timestamp;
  type = e.type;
  class = e.class;
  payload = (cut_part 0 (length e.payload) e.payload (omega arith) ∙ take-length e.payload) i;
  timestamp_fits = e.timestamp_fits;
  type_fits = e.type_fits;
  class_fits = e.class_fits;
}
