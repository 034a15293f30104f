-- A buffer made zero byte by byte, which is what `fill` of the library leaves: one byte more at each turn, and in the end all of them.
use Prim.Native.Nat.{ℕ, suc, ◌+◌, ◌<◌}
use native.Mathlib.Numerals.{add-one}
use mathlib.Core.Path.{◌≡◌, sym, ap, ◌∙◌}
use mathlib.Core.List.{List, ◌++◌, append-nil}
use lib.ListN.{length, drop, get_or, set, replicate, length-replicate, replicate-append-replicate}
use lib.Seq.{drop-cons, set_at, append_snoc, drop-length}

pub zeros_more : (s : List ℕ) (i : ℕ) → i < length s → set (replicate i 0 ++ drop i s) i 0 ≡ replicate (i + 1) 0 ++ drop (i + 1) s
zeros_more s i h =
    rw (drop-cons s i 0 h, add-one)
    (set_at (replicate i 0) (get_or s i 0) (drop (suc i) s) 0 i (length-replicate i 0)
    ∙ sym (append_snoc (replicate i 0) 0 (drop (suc i) s))
    ∙ ap (λ (l : List ℕ). l ++ drop (suc i) s) (replicate-append-replicate i 1 0 ∙ ap (λ (n : ℕ). replicate n 0) (add-one i)))

-- all of them are
pub zeros_done : (s : List ℕ) (i : ℕ) → i ≡ length s → replicate i 0 ++ drop i s ≡ replicate (length s) 0
zeros_done s i e = rw e (rw (drop-length s) (append-nil (replicate (length s) 0)))
