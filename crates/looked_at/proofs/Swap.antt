-- Both swaps ask the same tests, so that they are split at once; the old rings are written alike, and the new one is made of what agrees.
use Prim.Native.Nat.{ℕ, ◌+◌}
use mathlib.Core.Path.{◌≡◌, refl}
use mathlib.Core.Logic.{inl, inr}
use mathlib.Core.List.{List}
use lib.ListN.{length}
use Rattle.table_rules.specs.declared.Refusal.{Refusal}
use Rattle.table_rules.proofs.Laws.{answers_both}
use Rattle.page_rules.specs.Page.{page_of, page_rows, on_ring}
use Rattle.page_rules.specs.declared.Page.{Page}
use Rattle.writer_rules.specs.declared.Writer.{Writer}
use Rattle.create_rules.specs.Create.{wrong_size}
use Rattle.inspect_rules.specs.Inspect.{damaged}
use Rattle.swap_rules.specs.Swap.{AfterSwap, refused_swap, refuse_swap, count_differs, swap_rows, retired, carried_over, exchange_on, exchange}
use Rattle.looked_at.specs.LookedAt.{Agree, AgreeStill, MadeAlike}
use Rattle.looked_at.proofs.Writes.{unwritten, and_then, agree_still, put_still, flag_same, notified_still}
use Rattle.looked_at.proofs.Looks.{page_same, rows_same, walked_same, surveyed_same, damage_same}

module _ {s t : List ℕ} (g : Agree s t) (new new' : List ℕ) (long : length new' ≡ length new) (w : Writer) where
  abbrev Agreeing : AfterSwap → AfterSwap → Type 0
  Agreeing a b =
      (b.answer ≡ a.answer) × AgreeStill s t a.old b.old × MadeAlike (λ r. a.answer ≡ refused_swap r w) new new' a.new b.new

  refuse_agree : (r : Refusal) → Agreeing (refuse_swap s new w r) (refuse_swap t new' w r)
  refuse_agree r = (refl, unwritten s t, inr (r, refl, refl, refl))

  swap_rows_same : (p : Page) → swap_rows t p new' w ≡ swap_rows s p new w
  unfolding swap_rows wrong_size damaged count_differs
  swap_rows_same p = rw (long, surveyed_same g p, damage_same g p)

  retired_still : (p : Page) → AgreeStill s t (retired s p) (retired t p)
  unfolding retired
  retired_still p =
      let one = put_still s t 32 8 (p.generation + 1) g.long in
      and_then one (notified_still (agree_still one g))

  carried_agree : (p : Page) → Agreeing (carried_over s p new w) (carried_over t p new' w)
  unfolding carried_over
  carried_agree p = (rw (flag_same g, long, walked_same g p), retired_still p, inl (rw (long, walked_same g p)))

  on_agree : (p : Page) → Agreeing (exchange_on s p new w) (exchange_on t p new' w)
  unfolding exchange_on
  on_agree p =
      rw (swap_rows_same p)
      (answers_both Agreeing (refuse_swap s new w) (refuse_swap t new' w) _ _ refuse_agree (carried_agree p) (swap_rows s p new w))

  pub exchange_agree : Agreeing (exchange s new w) (exchange t new' w)
  unfolding on_ring exchange
  exchange_agree =
      rw (rows_same g, page_same g) (answers_both Agreeing (refuse_swap s new w) (refuse_swap t new' w) _ _ refuse_agree (on_agree (page_of s)) (page_rows s))
