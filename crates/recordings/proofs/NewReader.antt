-- Reading a ring that passes until EMPTY hands out the events that inspection passes; there is no other emptying (`one_end`); and these events and their
-- counts are what the recording is made of.
use Prim.Native.Nat.{ℕ, ◌+◌}
use native.Mathlib.Omega.{arith}
use mathlib.Core.Path.{◌≡◌, refl, sym, ap, ap₂, ◌∙◌, subst}
use mathlib.Core.List.{List, [], ◌++◌}
use lib.ListN.{length}
use Rattle.run_rules.specs.Runs.{last_of}
use Rattle.run_rules.proofs.Rising.{rising_length}
use Rattle.page_rules.specs.Page.{page_of}
use Rattle.page_rules.specs.declared.Page.{Page}
use Rattle.page_rules.proofs.Facts.{Sound}
use Rattle.event_rules.specs.Event.{sequence}
use Rattle.event_rules.specs.Run.{joined}
use Rattle.inspect_rules.specs.Inspect.{walked, surveyed}
use Rattle.inspect_rules.proofs.Surveys.{walked_whole, whole_live}
use Rattle.inspect_rules.proofs.Answers.{whole_inspected}
use Rattle.reader_rules.specs.Reader.{reader_with}
use Rattle.reader_rules.specs.Attach.{attached}
use Rattle.reader_rules.specs.Read.{read_out}
use Rattle.reader_rules.specs.declared.Reader.{Reader}
use Rattle.reader_rules.proofs.Attaching.{attach_done}
use Rattle.reader_rules.proofs.Life.{says_with, attached_says}
use Rattle.format_rules.specs.Format.{opening, closing, recording}
use Rattle.recording_rules.specs.Recording.{recording_of}
use Rattle.comparison.specs.Emptying.{Empties}
use Rattle.comparison.proofs.UntilEmpty.{until_empty}
use Rattle.comparison.proofs.Ends.{one_end}
use Rattle.recordings.specs.Handed.{file_of, Handed, NewReader}
use Rattle.reader_rules.specs.declared.Answered.{Answered}

-- a recording ends alike where its counts are the same
same_counts : (bytes : List ℕ) {handed missed count rest : ℕ} → handed ≡ count → missed ≡ rest → bytes ++ closing handed missed ≡ bytes ++ closing count rest
same_counts bytes h m = ap₂ (λ (x y : ℕ). bytes ++ closing x y) h m

module _ (s : List ℕ) (sound : Sound s (page_of s)) (reaches : (surveyed s (page_of s)).stop ≡ (page_of s).write_pos) where
  abbrev p : Page
  p = page_of s

  abbrev events : List (List ℕ)
  events = walked s p

  abbrev first : Reader
  first = reader_with p.tail_pos 0 0 p.generation

  abbrev end : Reader
  end = reader_with p.write_pos (last_of sequence 0 events) (0 + length events) p.generation

  until : Empties read_out s first events end
  unfolding joined
  until =
      until_empty s p sound events (whole_live s p sound.order reaches).0 (walked_whole s p).0 events first []
      (record {
        cut = refl;
        stands = omega arith;
        right = record { counted = omega arith; behind = sound.order };
        rises = (walked_whole s p).1;
        known = refl;
      })

  file : recording_of s ≡ file_of p.cpu_id events end
  unfolding recording_of recording
  file = same_counts (opening p.cpu_id ++ joined events) (omega arith) (omega arith)

  handed : (any : Reader) → Handed s any
  handed any =
      let attaches = attach_done s any p sound in
      let here : first ≡ (attached s any).reader = sym (ap (λ (a : Answered (Unit {0})). a.reader) attaches ∙ says_with (attached_says p)) in
      let all : Empties read_out s (attached s any).reader events end = subst (λ (r : Reader). Empties read_out s r events end) here until in
      record {
        attaches = ap (λ (a : Answered (Unit {0})). a.answer) attaches;
        events = events;
        end = end;
        empties = all;
        counted = omega (arith, rising_length sequence 0 events (walked_whole s p).1);
        recording = λ others left emptying.
            let same = one_end read_out s (attached s any).reader events others end left all emptying in
            file ∙ ap₂ (file_of p.cpu_id) same.0 same.1;
      }

pub new_reader : NewReader
new_reader s found whole any = let passes = whole_inspected s found whole in handed s passes.0 passes.1 any
