-- The second demand as the firmware's programmer is promised it: of the numbers answered, and of the bytes that each call leaves to the next.
use Rattle.std.specs.Prelude.{ℕ, ◌+◌, ◌^◌, ◌<◌, Result, Ok, Err}
use Rattle.table_rules.specs.declared.Refusal.{Refusal}
use mathlib.Core.{Path.◌≡◌, Bool.true, Bool.cond, List.List, List.[], List.◌∷◌}
use lib.{ListN.length, ListN.replicate, Dec.eqb}
use Rattle.table_rules.specs.{declared.Refusal.TheVariants.Spent, declared.Refusal.TheVariants.Far, declared.Refusal.TheVariants.Record}
use Rattle.capacity_rules.specs.{Capacity.allowed}
use Rattle.create_rules.specs.{Create.created, Create.after_create}
use Rattle.emit_rules.specs.{Emit.AfterEmit, declared.Outcome.Outcome}
use Rattle.emit_rules.specs.declared.Outcome.TheVariants.{Done, Wake, Dropped}
use Rattle.console_rules.specs.{Console.answered_number, Console.record_of, Console.bytes_of, Console.Called, Console.emit_call}
use Rattle.history.specs.{Ring.fresh}
use Rattle.promise.specs.{Bytes.consumed, Bytes.Turn, Bytes.uncalled, Bytes.left, Bytes.Made, Demand2.Promise}

-- 8.3: what a number answered says; the promise shuts out any refusal but 8 and 9
abbrev pub means : ℕ → Result Outcome Refusal
means n = cond (eqb n 0) (Ok Done) (cond (eqb n 20) (Ok Dropped) (cond (eqb n 21) (Ok Wake)
    (cond (eqb n 8) (Err Spent) (cond (eqb n 9) (Err Far) (Err Record)))))

-- what C sees that a call left, in the words of `Promise`
abbrev pub as_seen : Called → AfterEmit
as_seen c = record { answer = record { outcome = means c.answer; writer = record_of c.kept }; ring = c.ring }

-- creation, and 24 zero bytes for the record
abbrev pub set_up : ℕ → List ℕ → Called
set_up cpu buffer = record { answer = answered_number (created buffer); ring = after_create cpu buffer; kept = replicate 24 0 }

-- the next call, on what the call before left, once the consumer has written
abbrev pub recalled : Called → Turn → Called
recalled c t = emit_call (consumed c.ring t.page) c.kept t.event.timestamp t.event.type t.event.class t.event.payload

-- the calls of a history as C saw them, and what the last one left
unfoldable pub seen_calls : Called → List Turn → List Made
seen_calls c [] = []
seen_calls c (t ∷ ts) = record { turn = t; answer = (as_seen (recalled c t)).answer } ∷ seen_calls (recalled c t) ts

unfoldable pub last_call : Called → List Turn → Called
last_call c [] = c
last_call c (t ∷ ts) = last_call (recalled c t) ts

-- creation answers 0, the promise of a fresh ring is kept, and the record's 24 bytes hold the record and nothing else
abbrev pub Firmware2 : Type 0
Firmware2 =
    (cpu capacity : ℕ) → cpu < 2 ^ 16 → allowed capacity ≡ true → (buffer : List ℕ) → length buffer ≡ 8192 + capacity → (turns : List Turn) →
    let end = last_call (set_up cpu buffer) turns in
    ((set_up cpu buffer).answer ≡ 0)
    × Promise cpu capacity fresh (uncalled (after_create cpu buffer) turns) (seen_calls (set_up cpu buffer) turns) (left (as_seen end))
    × (end.kept ≡ bytes_of (record_of end.kept))
