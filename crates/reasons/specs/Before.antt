-- RULES 5.5: the operations that can give 10 as they were before it bore a reason, each written out again, and that no answer but the reason has changed.
use Rattle.std.specs.Prelude.{ℕ, zero, suc, ◌+◌, Result, Ok, Err}
use Rattle.inspect_rules.specs.declared.Summary.{Summary}
use mathlib.Core.{Path.◌≡◌, Logic.◌⊎◌, Bool.not, Bool.cond, List.List, List.[], List.◌∷◌}
use lib.{ListN.length, ListN.drop, Dec.eqb, Dec.leb, Dec.ltb}
use Rattle.table_rules.specs.{Table.first, declared.Damage.Damage, declared.Refusal.Refusal}
use Rattle.table_rules.specs.declared.Refusal.TheVariants as refusal
use Rattle.page_rules.specs.{Page.on_ring}
use Rattle.event_rules.specs.{Event.event_size, Event.well_formed, Run.passable, Walk.Aim, Walk.Walk}
use Rattle.event_rules.specs.Walk as walks
use Rattle.look_rules.specs.{Live.rest, Live.live}
use Rattle.writer_rules.specs.{Writer.wrong_writer, declared.Writer.Writer}
use Rattle.create_rules.specs.{Create.wrong_size}
use Rattle.emit_rules.specs.{Emit.AfterEmit, Emit.refuse, Emit.writer_rows, Emit.too_large, Emit.dropped, Emit.too_far, Emit.event_of, Emit.ended, Emit.emission, declared.Label.Label}
use Rattle.inspect_rules.specs.{Inspect.surveyed, Inspect.summary, Inspect.damaged, Inspect.inspected}
use Rattle.reader_rules.specs.{Reader.wrong_reader, Reader.miscounted, Reader.taken_to, Attach.not_attached, declared.Reader.Reader}
use Rattle.reader_rules.specs.{Read.AfterRead, Read.untouched, Read.reading_place, Read.at_end, Read.handed_out, Read.read_out}
use Rattle.follow_rules.specs.{Follow.onward, Follow.followed}
use Rattle.swap_rules.specs.{Swap.AfterSwap, Swap.refuse_swap, Swap.last_generation, Swap.count_differs, Swap.carried_over, Swap.exchange}
use Rattle.recording_rules.specs.{Recording.AfterRecord, Recording.recording_of, Recording.beyond_end, Recording.piece, Recording.not_recorded, Recording.put_in_front, Recording.recorded}
use Rattle.reader_rules.specs.declared.Answered.{Answered}

-- what 10 bore then: a place, and nothing in the reason's stead
abbrev pub place_alone : ℕ → Damage
place_alone place = record { position = place; reason = 0 }

unfoldable pub inspected_before : List ℕ → Result Summary Refusal
inspected_before s =
    on_ring s Err (λ p. first ((damaged s p, refusal.Damaged (place_alone (surveyed s p).stop)) ∷ []) Err (Ok (summary (surveyed s p))))

unfoldable pub followed_before : List ℕ → Reader → Answered (Unit {0})
followed_before s reader =
    on_ring s (not_attached reader)
    (λ p.
    first
    ((miscounted reader, refusal.Reader)
    ∷ (leb p.generation reader.generation, refusal.Generation)
    ∷ (damaged s p, refusal.Damaged (place_alone (surveyed s p).stop))
    ∷ [])
    (not_attached reader) (record { answer = Ok tt; reader = taken_to (onward s p reader.last) p.generation reader }))

unfoldable pub exchange_before : List ℕ → List ℕ → Writer → AfterSwap
exchange_before s t w =
    on_ring s (refuse_swap s t w)
    (λ p.
    first
    ((wrong_writer w, refusal.Writer)
    ∷ (wrong_size t, refusal.Size)
    ∷ (last_generation p, refusal.Generation)
    ∷ (damaged s p, refusal.Damaged (place_alone (surveyed s p).stop))
    ∷ (count_differs s p w, refusal.Disagree)
    ∷ [])
    (refuse_swap s t w) (carried_over s p t w))

unfoldable pub recorded_before : List ℕ → ℕ → List ℕ → AfterRecord
recorded_before s placed out =
    on_ring s (not_recorded out)
    (λ p.
    first ((damaged s p, refusal.Damaged (place_alone (surveyed s p).stop)) ∷ (beyond_end s placed, refusal.Reader) ∷ [])
    (not_recorded out) (put_in_front (piece (recording_of s) placed (length out)) out))

unfoldable pub read_before : List ℕ → Reader → List ℕ → AfterRead
read_before s reader out =
    on_ring s (untouched reader out)
    (λ p.
    let at = reading_place p reader in
    let bs = rest s p at in
    first ((wrong_reader p reader, refusal.Reader) ∷ []) (untouched reader out)
    (cond (eqb reader.read_pos p.write_pos) (at_end p reader.read_pos reader out)
    (cond (eqb at p.write_pos) (at_end p at reader out)
    (first
    ((not (passable p.cpu_id reader.last bs), refusal.Damaged (place_alone at)) ∷ (ltb (length out) (event_size bs), refusal.Out) ∷ [])
    (untouched reader out) (handed_out reader out at bs)))))

unfoldable pub walk_before : ℕ → Aim → List ℕ → ℕ → ℕ → Walk
walk_before zero aim bs tail passed = cond (leb (length bs + aim.size) aim.capacity) (walks.Room tail passed) (walks.Damaged (place_alone tail))
walk_before (suc bytes) aim bs tail passed =
    let next = walk_before bytes aim (drop (event_size bs) bs) (tail + event_size bs) (passed + 1) in
    cond (leb (length bs + aim.size) aim.capacity) (walks.Room tail passed)
    (cond (well_formed aim.cpu bs) next (walks.Damaged (place_alone tail)))

unfoldable pub emission_before : List ℕ → Writer → Label → List ℕ → AfterEmit
emission_before s w label payload =
    on_ring s (refuse s w)
    (λ p.
    let size = 32 + length payload in
    let aim : Aim = record { cpu = p.cpu_id; capacity = p.capacity; size = size } in
    first (writer_rows w) (refuse s w)
    (cond (too_large p size) (dropped s w label)
    (first ((too_far p size, refusal.Far) ∷ []) (refuse s w)
    (ended s p w (event_of p w label payload) (walk_before (length (live s p)) aim (live s p) p.tail_pos 0)))))

-- what a call leaves now and what it left then are the same, or both are refusal 10 at one place
abbrev pub ButForReason : {A : Type 0} → (Refusal → A) → A → A → Type 0
ButForReason refused now before =
    (now ≡ before) ⊎ ((damage : Damage) × (now ≡ refused (refusal.Damaged damage)) × (before ≡ refused (refusal.Damaged (place_alone damage.position))))

-- of any bytes and any numbers: the answer, the record handed back, and each byte of each buffer
pub record WhenTen : Type 0 where
  pub emit : (s : List ℕ) (w : Writer) (label : Label) (payload : List ℕ)
      → ButForReason (refuse s w) (emission s w label payload) (emission_before s w label payload)
  pub inspect : (s : List ℕ) → ButForReason Err (inspected s) (inspected_before s)
  pub read : (s : List ℕ) (reader : Reader) (out : List ℕ) → ButForReason (untouched reader out) (read_out s reader out) (read_before s reader out)
  pub follow : (s : List ℕ) (reader : Reader) → ButForReason (not_attached reader) (followed s reader) (followed_before s reader)
  pub swap : (s t : List ℕ) (w : Writer) → ButForReason (refuse_swap s t w) (exchange s t w) (exchange_before s t w)
  pub recording : (s : List ℕ) (placed : ℕ) (out : List ℕ) → ButForReason (not_recorded out) (recorded s placed out) (recorded_before s placed out)
