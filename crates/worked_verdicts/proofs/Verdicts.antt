-- Each example computes, from the definitions down to the bytes.
use mathlib.Core.Path.{refl}
use Rattle.table_rules.specs.Table.{first, first_from, any}
use Rattle.word_rules.specs.Number.{number, byte_of, put}
use Rattle.word_rules.specs.Fields.{put_all}
use Rattle.capacity_rules.specs.Capacity.{power_among, allowed}
use Rattle.page_rules.specs.Page.{page_of, too_short, differs, wrong_mark, wrong_version, filled, spoiled, wrong_layout}
use Rattle.page_rules.specs.Page.{wrong_length, wrong_position, page_rows, on_ring}
use Rattle.region_rules.specs.Region.{bytes_at}
use Rattle.event_rules.specs.Event.{faults, well_formed, reason_of}
use Rattle.event_rules.specs.Run.{joined, passable, reason_after, run_up_to, sound_run}
use Rattle.look_rules.specs.Live.{rest, live}
use Rattle.inspect_rules.specs.Inspect.{walked, surveyed, damaged, damage_found}
use Rattle.format_rules.specs.Format.{opening, closing, recording}
use Rattle.recording_rules.specs.Recording.{recording_of}
use Rattle.difference_rules.specs.Difference.{first_difference}
use Rattle.verification_rules.specs.Verify.{verified_on, verified}
use Rattle.worked_bytes.specs.Worked.{page_bytes, laid, header_bytes}
use Rattle.worked_verdicts.specs.Verdicts.{WorkedVerdicts}

pub worked_verdicts : WorkedVerdicts
unfolding first first_from any number byte_of put put_all power_among allowed page_bytes laid header_bytes
    page_of too_short differs wrong_mark wrong_version filled spoiled wrong_layout wrong_length wrong_position page_rows on_ring
    bytes_at faults well_formed reason_of joined passable reason_after run_up_to sound_run rest live
    walked surveyed damaged damage_found opening closing recording recording_of first_difference verified_on verified
worked_verdicts =
    record {
      passes = refl;
      passes_empty = refl;
      in_the_opening = refl;
      behind_the_datas_end = refl;
      in_the_payload = refl;
      other_count = refl;
      first_of_two = refl;
      no_byte = refl;
      no_closing = refl;
      one_more = refl;
      damaged = refl;
    }
