-- RULES 5.1, 5.2, 6.3, 10.4, 10.8: demand 1, of any bytes and any numbers: a refusal comes in its turn, where its condition holds and nowhere else, and changes
-- nothing. A table holds an operation's questions in their order, each with its answer, and in the last row what is left to answer.
use Rattle.std.specs.Prelude.{ℕ, ◌+◌, ◌-◌, ◌^◌, Ok, Err}
use mathlib.Core.{Path.◌≡◌, Logic.◌↔◌, Bool.Bool, Bool.true, Bool.not, Bool.◌&&◌, List.List, List.[], List.◌∷◌, List.◌++◌}
use lib.{ListN.length, Dec.eqb, Dec.leb, Dec.ltb}
use Rattle.table_rules.specs.{Table.Stops, Refusals.paper_name, declared.Damage.Damage, declared.Refusal.Refusal}
use Rattle.page_rules.specs.{Page.page_of, Page.too_short, Page.wrong_mark, Page.wrong_version, Page.wrong_layout, Page.wrong_length, Page.wrong_position, Wake.need_wake, Wake.wakes}
use Rattle.event_rules.specs.{Event.event_size, Run.passable, Run.damage_after, Walk.Walk}
use Rattle.event_rules.specs.Walk as walks
use Rattle.look_rules.specs.{Live.rest}
use Rattle.writer_rules.specs.{Writer.wrong_writer, declared.Writer.Writer}
use Rattle.create_rules.specs.{Create.wrong_size, Create.created, Create.after_create}
use Rattle.emit_rules.specs.{Emit.too_large, Emit.too_far, Emit.disagrees, Emit.walk_end, Emit.emission, declared.Label.Label}
use Rattle.emit_rules.specs.declared.Outcome.TheVariants as emits
use Rattle.inspect_rules.specs.{Inspect.surveyed, Inspect.summary, Inspect.damaged, Inspect.damage_found, Inspect.inspected}
use Rattle.reader_rules.specs.{Reader.miscounted, Reader.wrong_reader, Attach.attached, Read.reading_place, Read.read_out, declared.Reader.Reader}
use Rattle.reader_rules.specs.declared.Reading.TheVariants as reads
use Rattle.slip_rules.specs.{Copy.slip_of, Copy.copy_out, Confirm.wrong_slip, Confirm.gone, Confirm.confirmed, declared.Slip.Slip}
use Rattle.slip_rules.specs.declared.Copying.TheVariants as copies
use Rattle.slip_rules.specs.declared.Confirming.TheVariants.{Done as confirmsDone, Again as confirmsAgain}
use Rattle.follow_rules.specs.{Follow.followed}
use Rattle.swap_rules.specs.{Swap.last_generation, Swap.count_differs, Swap.exchange}
use Rattle.swap_rules.specs.declared.SwapOutcome.TheVariants as swaps
use Rattle.recording_rules.specs.{Recording.recording_of, Recording.piece, Recording.recorded}
use Rattle.difference_rules.specs.{Difference.first_difference}
use Rattle.verification_rules.specs.{Verify.verified}
use Rattle.console_rules.specs.{Console.call_number, Console.answered_number, Console.record_of, Console.emit_call}

-- of a call: `refused` is its answer to a refusal, 10 bearing `damage`; `unchanged` says that all it was lent to change is as it came
pub record Asked {A : Type 0} (refused : Refusal → A) (damage : Damage) (table : (ℕ → A) → List (Bool × A)) (answer : A) (unchanged : Type 0) : Type 0 where
  -- an answer is given exactly where its row is the first that holds, and so every answer is one of the table's
  pub exact : (a : A) → (answer ≡ a) ↔ ((turn : ℕ) × Stops turn (table (λ n. refused (paper_name damage n))) a)
  pub kept : (r : Refusal) → answer ≡ refused r → unchanged

-- 1 to 6, which all but creation ask first
abbrev pub page_table : {A : Type 0} → List ℕ → (ℕ → A) → List (Bool × A)
page_table s refusal =
    (too_short s, refusal 1) ∷ (wrong_mark s, refusal 2) ∷ (wrong_version s, refusal 3) ∷ (wrong_layout s, refusal 4)
    ∷ (wrong_length s, refusal 5) ∷ (wrong_position (page_of s), refusal 6) ∷ []

-- how an emission's walk ended: the rows, and what 10 bears
abbrev pub walk_table : {A : Type 0} → Writer → Walk → (ℕ → A) → List (Bool × A)
walk_table w (walks.Damaged damage) refusal = (true, refusal 10) ∷ []
walk_table w (walks.Room tail passed) refusal = (disagrees w passed, refusal 11) ∷ []

-- for a call that doesn't give 10
abbrev pub no_damage : Damage
no_damage = record { position = 0; reason = 0 }

abbrev pub walk_damage : Walk → Damage
walk_damage (walks.Damaged damage) = damage
walk_damage (walks.Room tail passed) = no_damage

abbrev pub emit_table : {A : Type 0} → List ℕ → Writer → ℕ → A → A → A → (ℕ → A) → List (Bool × A)
emit_table s w size dropped wake done refusal =
    let p = page_of s in
    page_table s refusal
    ++ ((wrong_writer w, refusal 7) ∷ (eqb w.last (2 ^ 64 - 1), refusal 8) ∷ (too_large p size, dropped) ∷ (too_far p size, refusal 9) ∷ [])
    ++ walk_table w (walk_end s p size) refusal
    ++ ((wakes (need_wake s), wake) ∷ (true, done) ∷ [])

abbrev pub inspect_table : {A : Type 0} → List ℕ → A → (ℕ → A) → List (Bool × A)
inspect_table s whole refusal = page_table s refusal ++ ((damaged s (page_of s), refusal 10) ∷ (true, whole) ∷ [])

-- all but creation, emission and swap are lent the ring to be read only; an inspection is lent nothing else, and a check nothing but a file to be read
pub record Demand1 : Type 0 where
  pub create : (cpu : ℕ) (s : List ℕ)
      → Asked Err no_damage (λ refusal. (wrong_size s, refusal 16) ∷ (true, (Ok tt)) ∷ []) (created s) (after_create cpu s ≡ s)
  pub emit : (s : List ℕ) (w : Writer) (label : Label) (payload : List ℕ)
      → let size = 32 + length payload in
      let after = emission s w label payload in
      Asked Err (walk_damage (walk_end s (page_of s) size)) (emit_table s w size (Ok emits.Dropped) (Ok emits.Wake) (Ok emits.Done))
      after.answer.outcome ((after.ring ≡ s) × (after.answer.writer ≡ w))
  pub inspect : (s : List ℕ)
      → let p = page_of s in
      Asked Err (damage_found s p) (inspect_table s (Ok (summary (surveyed s p)))) (inspected s) (Unit {0})
  pub attach : (s : List ℕ) (reader : Reader)
      → let after = attached s reader in
      Asked Err no_damage (λ refusal. page_table s refusal ++ ((true, (Ok tt)) ∷ [])) after.answer (after.reader ≡ reader)
  pub read : (s : List ℕ) (reader : Reader) (out : List ℕ)
      → let p = page_of s in
      let at = reading_place p reader in
      let same = eqb p.generation reader.generation in
      let after = read_out s reader out in
      Asked Err (damage_after p.cpu_id reader.last at (rest s p at))
      (λ refusal.
      page_table s refusal
      ++ ((wrong_reader p reader, refusal 13)
      ∷ (eqb reader.read_pos p.write_pos && same, (Ok reads.Empty)) ∷ (eqb reader.read_pos p.write_pos, (Ok reads.Moved))
      ∷ (eqb at p.write_pos && same, (Ok reads.Empty)) ∷ (eqb at p.write_pos, (Ok reads.Moved))
      ∷ (not (passable p.cpu_id reader.last (rest s p at)), refusal 10)
      ∷ (ltb (length out) (event_size (rest s p at)), refusal 14)
      ∷ (true, (Ok (reads.Event (event_size (rest s p at))))) ∷ []))
      after.answered.answer ((after.answered.reader ≡ reader) × (after.out ≡ out))
  pub copy : (s : List ℕ) (reader : Reader) (out : List ℕ)
      → let p = page_of s in
      let at = reading_place p reader in
      let bs = rest s p at in
      let same = eqb p.generation reader.generation in
      let after = copy_out s reader out in
      Asked Err (damage_after p.cpu_id reader.last at bs)
      (λ refusal.
      page_table s refusal
      ++ ((wrong_reader p reader, refusal 13)
      ∷ (eqb reader.read_pos p.write_pos && same, (Ok copies.Empty)) ∷ (eqb reader.read_pos p.write_pos, (Ok copies.Moved))
      ∷ (eqb at p.write_pos && same, (Ok copies.Empty)) ∷ (eqb at p.write_pos, (Ok copies.Moved))
      ∷ (not (passable p.cpu_id reader.last bs), refusal 10) ∷ (ltb (length out) (event_size bs), refusal 14)
      ∷ (true, (Ok (copies.Event (slip_of p at bs)))) ∷ []))
      after.copied.answer ((after.copied.reader ≡ reader) × (after.out ≡ out))
  -- 13 of the record, then of the slip
  pub confirm : (s : List ℕ) (reader : Reader) (slip : Slip)
      → let p = page_of s in
      let after = confirmed s reader slip in
      Asked Err no_damage
      (λ refusal.
      page_table s refusal
      ++ ((wrong_reader p reader, refusal 13) ∷ (wrong_slip p reader slip, refusal 13) ∷ (gone p slip, (Ok confirmsAgain)) ∷ (true, (Ok confirmsDone)) ∷ []))
      after.answer (after.reader ≡ reader)
  pub follow : (s : List ℕ) (reader : Reader)
      → let p = page_of s in
      let after = followed s reader in
      Asked Err (damage_found s p)
      (λ refusal.
      page_table s refusal
      ++ ((miscounted reader, refusal 13) ∷ (leb p.generation reader.generation, refusal 15) ∷ (damaged s p, refusal 10)
      ∷ (true, (Ok tt)) ∷ []))
      after.answer (after.reader ≡ reader)
  pub swap : (s t : List ℕ) (w : Writer)
      → let p = page_of s in
      let after = exchange s t w in
      Asked Err (damage_found s p)
      (λ refusal.
      page_table s refusal
      ++ ((wrong_writer w, refusal 7) ∷ (wrong_size t, refusal 16) ∷ (last_generation p, refusal 15) ∷ (damaged s p, refusal 10)
      ∷ (count_differs s p w, refusal 11) ∷ (wakes (need_wake s), (Ok swaps.Wake)) ∷ (true, (Ok swaps.Done)) ∷ []))
      after.answer.outcome ((after.old ≡ s) × (after.new ≡ t) × (after.answer.writer ≡ w))
  pub recording : (s : List ℕ) (placed : ℕ) (out : List ℕ)
      → let p = page_of s in
      let after = recorded s placed out in
      Asked Err (damage_found s p)
      (λ refusal.
      page_table s refusal
      ++ ((damaged s p, refusal 10) ∷ (ltb (length (recording_of s)) placed, refusal 13)
      ∷ (true, Ok (length (piece (recording_of s) placed (length out)))) ∷ []))
      after.answer (after.out ≡ out)
  pub verify : (s file : List ℕ)
      → Asked Err (damage_found s (page_of s)) (inspect_table s (Ok (first_difference (recording_of s) file))) (verified s file) (Unit {0})
  -- the calls of C, answered by number
  pub create_call : (cpu : ℕ) (s : List ℕ)
      → Asked call_number no_damage (λ refusal. (wrong_size s, refusal 16) ∷ (true, 0) ∷ []) (answered_number (created s)) (after_create cpu s ≡ s)
  pub emit_call_lem : (s bytes : List ℕ) (timestamp type class : ℕ) (payload : List ℕ)
      → let after = emit_call s bytes timestamp type class payload in
      Asked call_number (walk_damage (walk_end s (page_of s) (32 + length payload)))
      (λ refusal. (not (eqb (length bytes) 24), refusal 17) ∷ emit_table s (record_of bytes) (32 + length payload) 20 21 0 refusal)
      after.answer ((after.ring ≡ s) × (after.kept ≡ bytes))
  pub inspect_call : (s : List ℕ) → Asked call_number (damage_found s (page_of s)) (inspect_table s 0) (answered_number (inspected s)) (Unit {0})
