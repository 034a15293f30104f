-- Each example computes, from the definitions down to the bytes. To unfold a theorem is to unfold all that it unfolds.
use Prim.Native.Nat.{ℕ, ◌-◌}
use mathlib.Core.Path.{◌≡◌, refl, ap, ◌∙◌}
use mathlib.Core.Bool.{false, not}
use lib.ListN.{length}
use Rattle.run_rules.specs.Runs.{latest, older}
use Rattle.table_rules.specs.Table.{first, any, first_from}
use Rattle.word_rules.specs.Number.{number, byte_of, put}
use Rattle.word_rules.specs.Fields.{put_all}
use Rattle.capacity_rules.specs.Capacity.{power_among, allowed}
use Rattle.page_rules.specs.Page.{page_of, too_short, differs, wrong_mark, wrong_version, filled, spoiled, wrong_layout}
use Rattle.page_rules.specs.Page.{wrong_length, wrong_position, page_rows, on_ring, opened}
use Rattle.page_rules.specs.Wake.{wakes, raised, notified}
use Rattle.page_rules.specs.Fresh.{blank}
use Rattle.region_rules.specs.Region.{bytes_at, store_at}
use Rattle.event_rules.specs.Event.{faults, well_formed, reason_of, header_of, event_bytes}
use Rattle.event_rules.specs.Run.{joined, passable, reason_after, run_up_to, sound_run}
use Rattle.event_rules.specs.Walk.{walk_up_to, walk_from}
use Rattle.look_rules.specs.Live.{rest, live}
use Rattle.writer_rules.specs.Writer.{one_dropped, one_accepted, some_discarded, outstanding, wrong_writer}
use Rattle.create_rules.specs.Create.{wrong_size}
use Rattle.create_rules.proofs.Laws.{size_passed}
use Rattle.emit_rules.specs.Emit.{writer_rows, too_large, dropped, too_far, disagrees, event_of, stored, acceptance, placed, emitted_on, emission}
use Rattle.inspect_rules.specs.Inspect.{walked, surveyed, damaged, damage_found, inspected_on, inspected}
use Rattle.reader_rules.specs.Reader.{miscounted, ahead, wrong_reader, at_tail, moved_to, handed_one}
use Rattle.reader_rules.specs.Attach.{attached}
use Rattle.reader_rules.specs.Read.{ending, event_rows, next_at, next_opened, read_out}
use Rattle.swap_rules.specs.Swap.{last_generation, count_differs, swap_rows, new_ring}
use Rattle.swap_rules.specs.Swap.{retired, carried_over, exchange_on, exchange}
use Rattle.format_rules.specs.Format.{opening, closing, recording}
use Rattle.recording_rules.specs.Recording.{recording_of, beyond_end, recording_rows, recorded_on, recorded}
use Rattle.worked_bytes.specs.Worked.{page_bytes, laid, header_bytes, WorkedPages, WorkedEmissions, WorkedReads, WorkedSwaps, WorkedRecordings, Worked}

pages : WorkedPages
unfolding on_ring opened page_rows page_of too_short differs wrong_mark wrong_version wrong_layout filled spoiled wrong_length wrong_position
    first any number allowed power_among wrong_size blank put_all put byte_of page_bytes laid header_bytes
pages =
    record {
      creates = λ buffer long.
          let size : length buffer - 8192 ≡ 256 = ap (λ (n : ℕ). n - 8192) long in
          let passes : wrong_size buffer ≡ false = ap (λ (n : ℕ). not (allowed n)) size in
          ((size_passed 3 buffer passes).0, (size_passed 3 buffer passes).1 ∙ ap (λ (n : ℕ). blank 3 n 1) size);
      opens = refl;
      in_order = (refl, refl, refl, refl, refl, refl);
      zeros_asked = refl;
      next_unasked = refl;
    }

reads : WorkedReads
unfolding pages inspected inspected_on damaged damage_found surveyed walked sound_run run_up_to passable reason_after reason_of first_from well_formed faults live rest bytes_at joined
    at_tail moved_to handed_one attached read_out next_opened wrong_reader miscounted ahead ending next_at event_rows
reads =
    record {
      inspects_none = refl;
      inspects_one = refl;
      attaches = λ old. refl;
      attaches_at_tail = λ old. refl;
      hands_out = refl;
      then_empty = refl;
    }

emissions : WorkedEmissions
unfolding reads emission emitted_on writer_rows wrong_writer too_large dropped one_dropped too_far placed walk_from walk_up_to
    event_of event_bytes header_of disagrees acceptance one_accepted stored store_at wakes raised notified
emissions = record { need_wake_0 = refl; need_wake_1 = refl; need_wake_2 = refl; need_wake_255 = refl; drop_unheard = refl; damaged_second = refl }

swaps : WorkedSwaps
unfolding emissions exchange exchange_on swap_rows last_generation damaged count_differs outstanding carried_over some_discarded older latest new_ring retired
swaps = record { unwatched = refl; watched = refl; watched_255 = refl }

recordings : WorkedRecordings
unfolding reads recorded recorded_on recording_rows beyond_end recording_of recording opening closing
recordings =
    record {
      of_none = refl;
      wrapped = refl;
      between = refl;
      above_the_end = refl;
      damaged_first = refl;
    }

pub worked : Worked
worked = record { pages = pages; emissions = emissions; reads = reads; swaps = swaps; recordings = recordings }
