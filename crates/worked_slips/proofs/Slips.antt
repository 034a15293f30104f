-- Each example computes, from the definitions down to the bytes.
use mathlib.Core.Path.{refl}
use Rattle.table_rules.specs.Table.{first, any}
use Rattle.word_rules.specs.Number.{number, byte_of, put}
use Rattle.word_rules.specs.Fields.{put_all}
use Rattle.capacity_rules.specs.Capacity.{power_among, allowed}
use Rattle.page_rules.specs.Page.{page_of, too_short, differs, wrong_mark, wrong_version, filled, spoiled, wrong_layout}
use Rattle.page_rules.specs.Page.{wrong_length, wrong_position, page_rows, on_ring}
use Rattle.page_rules.specs.Wake.{wakes, raised, notified}
use Rattle.region_rules.specs.Region.{bytes_at, store_at}
use Rattle.event_rules.specs.Event.{faults, well_formed, header_of, event_bytes}
use Rattle.event_rules.specs.Run.{passable}
use Rattle.event_rules.specs.Walk.{walk_up_to, walk_from}
use Rattle.look_rules.specs.Live.{rest, live}
use Rattle.writer_rules.specs.Writer.{one_accepted, wrong_writer}
use Rattle.emit_rules.specs.Emit.{writer_rows, too_large, too_far, disagrees, event_of, stored, acceptance, placed, emitted_on, emission}
use Rattle.reader_rules.specs.Reader.{miscounted, ahead, wrong_reader, moved_to, handed_one}
use Rattle.reader_rules.specs.Read.{event_rows, next_at, next_opened}
use Rattle.slip_rules.specs.Copy.{copy_ending, copy_out}
use Rattle.slip_rules.specs.Confirm.{wrong_slip, gone, confirm_opened, confirmed}
use Rattle.worked_bytes.specs.Worked.{page_bytes, laid, header_bytes}
use Rattle.worked_slips.specs.Slips.{WorkedSlips}

pub worked_slips : WorkedSlips
unfolding first any number byte_of put put_all power_among allowed page_bytes laid header_bytes
    page_of too_short differs wrong_mark wrong_version filled spoiled wrong_layout wrong_length wrong_position page_rows on_ring wakes raised notified
    bytes_at store_at faults well_formed header_of event_bytes passable walk_up_to walk_from rest live
    one_accepted wrong_writer writer_rows too_large too_far disagrees event_of stored acceptance placed emitted_on emission
    miscounted ahead wrong_reader moved_to handed_one event_rows next_at next_opened copy_ending copy_out wrong_slip gone confirm_opened confirmed
worked_slips =
    record {
      copies_lapped = refl;
      copies_none = refl;
      copies_moved = refl;
      confirms = refl;
      starts_over = refl;
      above_the_position = refl;
      above_the_tail_seen = refl;
      above_both = refl;
      slips_refused = refl;
      past_the_word = refl;
      first_place = refl;
      last_place = refl;
      encloses = refl;
      copies_enclosed = refl;
      confirms_enclosed = refl;
    }
