-- Both emissions ask the same tests, so that they are split at once; what each end writes is the same.
use Prim.Native.Nat.{ℕ, ◌+◌}
use mathlib.Core.Path.{◌≡◌, refl}
use mathlib.Core.List.{List, [], ◌∷◌}
use lib.ListN.{length}
use Rattle.table_rules.specs.declared.Refusal.{Refusal}
use Rattle.table_rules.specs.declared.Refusal.TheVariants as refusal
use Rattle.table_rules.proofs.Laws.{cond_both, answers_both}
use Rattle.page_rules.specs.Page.{page_of, page_rows, on_ring, positions}
use Rattle.page_rules.specs.declared.Page.{Page}
use Rattle.region_rules.specs.Region.{store_at}
use Rattle.event_rules.specs.Walk.{Walk, walk_from}
use Rattle.event_rules.specs.Walk as walks
use Rattle.look_rules.specs.Live.{live}
use Rattle.writer_rules.specs.declared.Writer.{Writer}
use Rattle.emit_rules.specs.Emit.{AfterEmit, refuse, writer_rows, too_large, dropped, too_far, disagrees, event_of}
use Rattle.emit_rules.specs.Emit.{stored, acceptance, ended, placed, emitted_on, emission}
use Rattle.emit_rules.specs.declared.Label.{Label}
use Rattle.looked_at.specs.LookedAt.{Agree, AgreeStill}
use Rattle.looked_at.proofs.Writes.{unwritten, and_then, as_long, agree_still, all_still, store_still, flag_same, notified_still}
use Rattle.looked_at.proofs.Looks.{page_same, rows_same, live_same}

module _ {s t : List ℕ} (g : Agree s t) (w : Writer) where
  abbrev Agreeing : AfterEmit → AfterEmit → Type 0
  Agreeing a b = (b.answer ≡ a.answer) × AgreeStill s t a.ring b.ring

  refuse_agree : (r : Refusal) → Agreeing (refuse s w r) (refuse t w r)
  refuse_agree r = (refl, unwritten s t)

  stored_still : (p : Page) (event : List ℕ) (tail : ℕ) → AgreeStill s t (stored s p event tail) (stored t p event tail)
  unfolding stored
  stored_still p event tail =
      let one = store_still s t p.capacity p.write_pos event g.long in
      and_then one
      (all_still (store_at s p.capacity p.write_pos event) (store_at t p.capacity p.write_pos event)
      (positions (p.write_pos + length event) tail) (as_long one g.long))

  acceptance_agree : (p : Page) (event : List ℕ) (tail passed : ℕ)
      → Agreeing (acceptance s p w event tail passed) (acceptance t p w event tail passed)
  unfolding acceptance
  acceptance_agree p event tail passed =
      let one = stored_still p event tail in
      (rw (flag_same g), and_then one (notified_still (agree_still one g)))

  ended_agree : (p : Page) (event : List ℕ) (end : Walk) → Agreeing (ended s p w event end) (ended t p w event end)
  ended_agree p event (walks.Damaged damage) = refuse_agree (refusal.Damaged damage)
  ended_agree p event (walks.Room tail passed) =
      cond_both Agreeing (disagrees w passed) (refuse_agree refusal.Disagree) (acceptance_agree p event tail passed)

  module _ (label : Label) (payload : List ℕ) where
    placed_agree : (p : Page) → Agreeing (placed s p w label payload) (placed t p w label payload)
    unfolding placed
    placed_agree p =
        rw (live_same g p)
        (ended_agree p (event_of p w label payload)
        (walk_from (record { cpu = p.cpu_id; capacity = p.capacity; size = 32 + length payload }) (live s p) p.tail_pos 0))

    on_agree : (p : Page) → Agreeing (emitted_on s p w label payload) (emitted_on t p w label payload)
    unfolding emitted_on dropped
    on_agree p =
        answers_both Agreeing (refuse s w) (refuse t w) _ _ refuse_agree
        (cond_both Agreeing (too_large p (32 + length payload)) (refl, unwritten s t)
        (answers_both Agreeing (refuse s w) (refuse t w) _ _ refuse_agree (placed_agree p) ((too_far p (32 + length payload), refusal.Far) ∷ [])))
        (writer_rows w)

    pub emission_agree : Agreeing (emission s w label payload) (emission t w label payload)
    unfolding on_ring emission
    emission_agree =
        rw (rows_same g, page_same g)
        (answers_both Agreeing (refuse s w) (refuse t w) _ _ refuse_agree (on_agree (page_of s)) (page_rows s))
