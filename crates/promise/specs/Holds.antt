-- RULES 4.4: a ring's bytes and its writer's record that stand for a ring without bytes: any such may be the beginning of a history.
use Rattle.std.specs.Prelude.{ℕ, ◌^◌, ◌<◌, Ok}
use mathlib.Core.{Path.◌≡◌, Bool.false, List.List, List.map}
use lib.{ListN.get_or}
use Rattle.page_rules.specs.{Page.page_of, Page.opened}
use Rattle.event_rules.specs.{Run.joined}
use Rattle.look_rules.specs.{Live.live}
use Rattle.writer_rules.specs.{Writer.wrong_writer, declared.Writer.Writer}
use Rattle.history.specs.{Ring.Ring, Ring.write, Holding.Holding}
use Rattle.promise.specs.{Bytes.Event, Bytes.size, Bytes.encode}

pub record Holds (cpu capacity : ℕ) (s : List ℕ) (w : Writer) (ring : Ring Event) : Type 0 where
  pub narrow : cpu < 2 ^ 16
  pub opens : opened s ≡ Ok (page_of s)
  -- the first page is of bytes
  pub bytewise : (i : ℕ) → i < 4096 → get_or s i 0 < 256
  pub named : (page_of s).cpu_id ≡ cpu
  pub sized : (page_of s).capacity ≡ capacity
  pub tail_is : (page_of s).tail_pos ≡ ring.tail
  pub write_is : (page_of s).write_pos ≡ write size ring
  pub bytes_are : live s (page_of s) ≡ joined (map (encode cpu) ring.kept)
  pub last_is : w.last ≡ ring.last
  pub dropped_is : w.dropped ≡ ring.dropped
  pub overwritten_is : w.overwritten ≡ ring.overwritten
  -- 7 doesn't meet the record
  pub right : wrong_writer w ≡ false
  -- the kept events fit, their sequences rise from above 0 to at most last, last = kept + dropped + overwritten
  pub holding : Holding size capacity ring
