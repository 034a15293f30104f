-- RULES 5.5, 3.6: the place and the reason that 10 bears are the first bad event's, on any ring that passes 1 to 6, whoever made it.
use Rattle.std.specs.Prelude.{ℕ, ◌+◌, ◌-◌, ◌<◌, Ok, Err}
use mathlib.Core.{Path.◌≡◌, Logic.◌↔◌, Bool.false, List.List, List.◌++◌}
use lib.{ListN.length}
use Rattle.run_rules.specs.{Runs.Rising, Runs.last_of}
use Rattle.table_rules.specs.{declared.Damage.Damage, declared.Refusal.TheVariants.Damaged}
use Rattle.page_rules.specs.{Page.opened, declared.Page.Page}
use Rattle.event_rules.specs.{Event.sequence, Event.well_formed, Event.reason_of, Run.joined, Run.passable, Run.reason_after, Run.Each}
use Rattle.look_rules.specs.{Live.rest, Live.live}
use Rattle.writer_rules.specs.{Writer.wrong_writer, declared.Writer.Writer}
use Rattle.emit_rules.specs.{Emit.emission, declared.Label.Label}
use Rattle.inspect_rules.specs.{Inspect.inspected}
use Rattle.reader_rules.specs.{Read.reading_place, Read.read_out, declared.Reader.Reader}
use Rattle.slip_rules.specs.{Copy.copy_out}
use Rattle.follow_rules.specs.{Follow.followed}
use Rattle.swap_rules.specs.{Swap.exchange}
use Rattle.recording_rules.specs.{Recording.recorded}
use Rattle.verification_rules.specs.{Verify.verified}
use Rattle.promise.specs.{Demand2.Acceptable}

-- well-formed events lie from tail up to a place below write_pos
pub record UpTo (s : List ℕ) (p : Page) (events : List (List ℕ)) (at : ℕ) : Type 0 where
  pub split : live s p ≡ joined events ++ rest s p at
  pub each : Each p.cpu_id events
  pub below : at < p.write_pos

pub record PlaceOf (s : List ℕ) (p : Page) (d : Damage) : Type 0 where
  -- 6.9: sound events lie before the place, and the one there isn't well formed or its sequence doesn't rise, which the reason tells
  pub inspect : (inspected s ≡ Err (Damaged d))
      ↔ ((events : List (List ℕ)) × UpTo s p events d.position × Rising sequence 0 events
      × (passable p.cpu_id (last_of sequence 0 events) (rest s p d.position) ≡ false)
      × (d.reason ≡ reason_after p.cpu_id (last_of sequence 0 events) (rest s p d.position)))
  -- 7.8, 7.6, 10.4, 10.8: by a whole inspection
  pub swap : (t : List ℕ) (w : Writer) → (exchange s t w).answer.outcome ≡ Err (Damaged d) → inspected s ≡ Err (Damaged d)
  pub follow : (reader : Reader) → (followed s reader).answer ≡ Err (Damaged d) → inspected s ≡ Err (Damaged d)
  pub recording : (placed : ℕ) (out : List ℕ) → (recorded s placed out).answer ≡ Err (Damaged d) → inspected s ≡ Err (Damaged d)
  pub verify : (file : List ℕ) → verified s file ≡ Err (Damaged d) → inspected s ≡ Err (Damaged d)
  -- 6.5: the walk comes to the place with still too little room, and no sequence counts
  pub emit : (w : Writer) (label : Label) (payload : List ℕ) → ((emission s w label payload).answer.outcome ≡ Err (Damaged d))
      ↔ ((wrong_writer w ≡ false) × Acceptable p.capacity w.last p.write_pos (32 + length payload)
      × (events : List (List ℕ)) × UpTo s p events d.position × (p.capacity < p.write_pos + (32 + length payload) - d.position)
      × (well_formed p.cpu_id (rest s p d.position) ≡ false)
      × (d.reason ≡ reason_of p.cpu_id (p.write_pos - d.position) (rest s p d.position)))
  -- 7.4: the event read isn't well formed, or it isn't later than the reader's last
  pub read : (reader : Reader) (out : List ℕ) → (read_out s reader out).answered.answer ≡ Err (Damaged d)
      → (d.position ≡ reading_place p reader) × (passable p.cpu_id reader.last (rest s p d.position) ≡ false)
      × (d.reason ≡ reason_after p.cpu_id reader.last (rest s p d.position))
  -- 7.13: exactly where reading gives it, with reading's place and reason
  pub copy : (reader : Reader) (out : List ℕ)
      → ((copy_out s reader out).copied.answer ≡ Err (Damaged d)) ↔ ((read_out s reader out).answered.answer ≡ Err (Damaged d))

abbrev pub Places : Type 0
Places = (s : List ℕ) (p : Page) → opened s ≡ Ok p → (d : Damage) → PlaceOf s p d
