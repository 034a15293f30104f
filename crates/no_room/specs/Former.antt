-- RULES 5.6: the walk and the emission as they were while the table had refusal 12, NO ROOM: "the walk has come to write and the event still has no
-- room". They stand here alone, so that what is said of that refusal can still be read and checked.
use Rattle.std.specs.Prelude.{ℕ, zero, suc, ◌+◌}
use mathlib.Core.{Bool.cond, List.List, List.[], List.◌∷◌}
use lib.{ListN.length, ListN.drop, Dec.leb, Dec.eqb}
use Rattle.table_rules.specs.{Table.first, declared.Refusal.Refusal, declared.Refusal.TheVariants.Far}
use Rattle.page_rules.specs.{Page.on_ring, declared.Page.Page}
use Rattle.event_rules.specs.{Event.event_size, Event.well_formed, Walk.Aim, Walk.ill_at, Walk.Walk, Walk.Room}
use Rattle.look_rules.specs.{Live.live}
use Rattle.writer_rules.specs.{declared.Writer.Writer}
use Rattle.emit_rules.specs.{Emit.AfterEmit, Emit.refuse, Emit.writer_rows, Emit.too_large, Emit.dropped, Emit.too_far, Emit.event_of, Emit.ended, declared.Label.Label}

-- how that walk ended: as one ends today, or with no event left to pass
pub data FormerWalk : Type 0 where
  ends : Walk → FormerWalk
  no_room : FormerWalk

-- of at most `bytes` bytes
unfoldable pub former_up_to : ℕ → Aim → List ℕ → ℕ → ℕ → FormerWalk
former_up_to zero aim bs tail passed = cond (leb (length bs + aim.size) aim.capacity) (ends (Room tail passed)) no_room
former_up_to (suc bytes) aim bs tail passed =
    let next = former_up_to bytes aim (drop (event_size bs) bs) (tail + event_size bs) (passed + 1) in
    cond (leb (length bs + aim.size) aim.capacity) (ends (Room tail passed))
    (cond (eqb (length bs) 0) no_room (cond (well_formed aim.cpu bs) next (ends (ill_at aim.cpu tail bs))))

unfoldable pub former_walk : Aim → List ℕ → ℕ → ℕ → FormerWalk
former_walk aim bs tail passed = former_up_to (length bs) aim bs tail passed

-- all that an emission left: what one leaves today, or 12, with ring and record as they came
pub data FormerEmission : Type 0 where
  leaves : AfterEmit → FormerEmission
  refused12 : List ℕ → Writer → FormerEmission

abbrev pub former_end : List ℕ → Page → Writer → List ℕ → FormerWalk → FormerEmission
former_end s p w event no_room = refused12 s w
former_end s p w event (ends end) = leaves (ended s p w event end)

-- the questions in their order: 1 to 6, 7, 8, the drop, 9, and the walk
unfoldable pub former_emission : List ℕ → Writer → Label → List ℕ → FormerEmission
former_emission s w label payload =
    let refused : Refusal → FormerEmission = λ r. leaves (refuse s w r) in
    let size = 32 + length payload in
    on_ring s refused
    (λ p.
    let aim : Aim = record { cpu = p.cpu_id; capacity = p.capacity; size = size } in
    first (writer_rows w) refused
    (cond (too_large p size) (leaves (dropped s w label))
    (first ((too_far p size, Far) ∷ []) refused (former_end s p w (event_of p w label payload) (former_walk aim (live s p) p.tail_pos 0)))))
