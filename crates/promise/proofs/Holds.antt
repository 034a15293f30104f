-- What is told of bytes and a record that hold a ring: the capacity is in its range, and inspection finds the kept events.
use Prim.Native.Nat.{ℕ, ◌≤◌}
use native.Mathlib.Omega.{arith}
use mathlib.Core.Path.{◌≡◌, sym, ap, ◌∙◌, subst}
use mathlib.Core.List.{List, map}
use lib.ListN.{length, length-map}
use Rattle.std.specs.Prelude.{Ok}
use Rattle.run_rules.specs.Runs.{last_of, first_of}
use Rattle.capacity_rules.proofs.Laws.{allowed_range}
use Rattle.page_rules.specs.Page.{page_of}
use Rattle.event_rules.specs.Event.{sequence}
use Rattle.event_rules.proofs.Facts.{Whole}
use Rattle.writer_rules.specs.declared.Writer.{Writer}
use Rattle.inspect_rules.specs.Inspect.{walked, surveyed, summary, inspected}
use Rattle.inspect_rules.specs.declared.Survey.{Survey}
use Rattle.inspect_rules.proofs.Surveys.{walked_all, survey_all}
use Rattle.inspect_rules.proofs.Answers.{inspected_whole}
use Rattle.history.specs.Ring.{sequence_of, Ring}
use Rattle.promise.specs.Bytes.{Event, encode}
use Rattle.promise.specs.Holds.{Holds}
use Rattle.promise.proofs.Opened.{sound_of}
use Rattle.promise.proofs.Encoding.{encode_whole, encode_first}

module _ (cpu capacity : ℕ) (s : List ℕ) (w : Writer) (ring : Ring Event) (h : Holds cpu capacity s w ring) where
  pub holds_range : (256 ≤ capacity) × (capacity ≤ 1048576)
  holds_range = let r = allowed_range (page_of s).capacity (sound_of h).fit in (omega (arith, r.0, h.sized), omega (arith, r.1, h.sized))

  pub holds_whole : Whole cpu 0 (map (encode cpu) ring.kept) × (last_of sequence 0 (map (encode cpu) ring.kept) ≡ last_of sequence_of 0 ring.kept)
  holds_whole =
      encode_whole cpu h.narrow 0 ring.kept (omega (arith, h.holding.fits, holds_range)) h.holding.rising
      (omega (arith, h.holding.known, h.holding.spendable))

  -- the events that an inspection passes are those kept
  abbrev events : List (List ℕ)
  events = map (encode cpu) ring.kept

  whole : Whole (page_of s).cpu_id 0 events
  whole = subst (λ (n : ℕ). Whole n 0 events) (sym h.named) holds_whole.0

  pub walked_kept : walked s (page_of s) ≡ map (encode cpu) ring.kept
  walked_kept = walked_all s (page_of s) (sound_of h).order events h.bytes_are whole

  pub holds_surveyed : surveyed s (page_of s)
      ≡ record {
        stop = (page_of s).write_pos;
        count = length ring.kept;
        first = first_of sequence_of ring.kept;
        last = last_of sequence_of 0 ring.kept;
      }
  holds_surveyed =
      let first : first_of sequence events ≡ first_of sequence_of ring.kept =
      encode_first cpu h.narrow ring.kept (omega (arith, h.holding.fits, holds_range)) h.holding.rising
      (omega (arith, h.holding.known, h.holding.spendable)) in
      let count : length events ≡ length ring.kept = length-map ring.kept (encode cpu) in
      survey_all s (page_of s) (sound_of h).order events h.bytes_are whole
      ∙ (λ i. record { stop = (page_of s).write_pos; count = count i; first = first i; last = holds_whole.1 i })

  pub holds_inspected : inspected s
      ≡ Ok (record { count = length ring.kept; first = first_of sequence_of ring.kept; last = last_of sequence_of 0 ring.kept })
  holds_inspected =
      inspected_whole s (page_of s) (sound_of h) (ap (λ (v : Survey). v.stop) holds_surveyed)
      ∙ ap (λ (v : Survey). Ok (summary v)) holds_surveyed
