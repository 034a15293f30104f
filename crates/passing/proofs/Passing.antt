-- On a ring that inspection passes the answer is the first difference (`compares_whole`), whose meaning is `first_difference_lem`. That the recording is what
-- record writes and a new reader is handed is `one_ring` and `new_reader`.
use Prim.Native.Nat.{ℕ}
use native.Mathlib.Nat.{add-zero}
use mathlib.Core.Path.{◌≡◌, sym, ap, ◌∙◌}
use mathlib.Core.List.{List, [], ◌∷◌}
use lib.ListN.{length, take, replicate, length-replicate}
use lib.Seq.{take-length}
use Rattle.std.specs.Prelude.{Option, Ok}
use Rattle.inspect_rules.specs.Inspect.{inspected}
use Rattle.inspect_rules.specs.declared.Summary.{Summary}
use Rattle.recording_rules.specs.Recording.{recording_of}
use Rattle.difference_rules.specs.Difference.{first_difference}
use Rattle.difference_rules.proofs.First.{first_difference_lem}
use Rattle.verification_rules.specs.Verify.{verified}
use Rattle.verification_rules.proofs.Cases.{refuses_too, refused_there, compares_whole}
use Rattle.comparison.specs.Emptying.{Consumer}
use Rattle.recordings.specs.Pieces.{Lending, pieces}
use Rattle.recordings.proofs.OneRing.{one_ring}
use Rattle.recordings.proofs.NewReader.{new_reader}
use Rattle.passing.specs.Passing.{Passes, Passing, WhatPasses}

-- a consumer that has written nothing but zeros
idle : Consumer
idle = record { page = replicate 4096 0; whole = length-replicate {A = ℕ} 4096 0 }

module _ (s : List ℕ) (found : Summary) (whole : inspected s ≡ Ok found) where
  compared : (file : List ℕ) → verified s file ≡ Ok (first_difference (recording_of s) file)
  compared file = compares_whole s file whole

  told : (file : List ℕ) {d : (Option ℕ)} → verified s file ≡ Ok d → first_difference (recording_of s) file ≡ d
  told file e = let both = sym (compared file) ∙ e in cc both

  tells : (file : List ℕ) {d : (Option ℕ)} → first_difference (recording_of s) file ≡ d → verified s file ≡ Ok d
  tells file e = compared file ∙ ap Ok e

  equal_passes : (file : List ℕ) → recording_of s ≡ file → Passes s file
  equal_passes file e = tells file ((first_difference_lem (recording_of s) file).same.1 e)

  passes_equal : (file : List ℕ) → Passes s file → recording_of s ≡ file
  passes_equal file e = (first_difference_lem (recording_of s) file).same.0 (told file e)

  -- one buffer as long as the recording
  abbrev at_once : List Lending
  at_once = record { consumer = idle; out = recording_of s } ∷ []

  at_once_writes : pieces s 0 at_once ≡ recording_of s
  at_once_writes =
      (one_ring s found whole).beginning at_once
      ∙ ap (λ (n : ℕ). take n (recording_of s)) (add-zero (length (recording_of s)))
      ∙ take-length (recording_of s)

  passing : Passing s
  passing = record {
    written = λ ls all. equal_passes (pieces s 0 ls) (sym ((one_ring s found whole).whole ls all));
    only = λ file e. (at_once, ap length at_once_writes, sym (passes_equal file e) ∙ sym at_once_writes);
    handed = λ any events end emptied file.
        let is = (new_reader s found whole any).recording events end emptied in
        (λ e. sym (passes_equal file e) ∙ is, λ e. equal_passes file (is ∙ sym e));
    differs = λ file place.
        let means = (first_difference_lem (recording_of s) file).differs place in
        (λ e. means.0 (told file e), λ h. tells file (means.1 h));
  }

pub what_passes : WhatPasses
what_passes s = record {
  refused = λ file r. (refused_there s file, refuses_too s file);
  whole = λ found e. passing s found e;
}
