-- A loop that writes: putting now what is left gives what putting the whole at first would have given.
use Prim.Native.Nat.{ℕ, ◌+◌}
use mathlib.Core.Path.{◌≡◌, refl, ◌∙◌}
use mathlib.Core.List.{List, [], ◌++◌}
use native.Mathlib.Omega.{arith}
use lib.ListN.{length, length-append}
use lib.Seq.{sets}
use Rattle.text.specs.Put.{Put}
use Rattle.word.proofs.Runs.{sets_append}
use Rattle.text.proofs.Writing.{put_length}

-- The invariant: whole was to be put into l at `at`; the buffer is m now, the place is q, and `rest` is left.
-- The last fact follows from the first; a turn's need of room finds it here.
pub record Left (l : List ℕ) (at : ℕ) (whole m : List ℕ) (q : ℕ) (rest : List ℕ) : Type 0 where
  pub bytes : sets m q rest ≡ sets l at whole
  pub place : q + length rest ≡ at + length whole
  pub room : length m ≡ length l

pub put_whole : (l : List ℕ) (at : ℕ) (whole : List ℕ) → Left l at whole l at whole
put_whole l at whole = record { bytes = refl; place = refl; room = refl }

-- of what is left a turn puts the first part
pub put_rest : {l : List ℕ} {at : ℕ} {whole m : List ℕ} {q : ℕ} {a b k : List ℕ} {p : ℕ} → Left l at whole m q (a ++ b) → Put m q a k p → Left l at whole k p b
put_rest {l} {at} {whole} {m} {q} {a} {b} {k} {p} left turn =
    record {
      bytes = rw (turn.bytes, turn.place, ← sets_append a b m q) left.bytes;
      place = omega (arith, rw length-append at left.place);
      room = put_length turn ∙ left.room;
    }

pub put_done : {l : List ℕ} {at : ℕ} {whole m : List ℕ} {q : ℕ} → Left l at whole m q [] → Put l at whole m q
put_done left = record { bytes = left.bytes; place = omega arith }
