-- The pair at once, by the answer of opening: a refusal is the two calls' own, and with a page the pair with the page in hand is reading (`pair_opened_lem`).
-- An answer with an event tells what was found there (`took`), so that confirming moves on (`moves_on`).
use Prim.Native.Nat.{ℕ}
use native.Mathlib.Omega.{arith}
use mathlib.Core.Path.{◌≡◌, refl, sym, ap, ◌∙◌, subst}
use mathlib.Core.List.{List}
use Rattle.std.specs.Prelude.{Result, Ok, Err}
use Rattle.table_rules.specs.declared.Refusal.{Refusal}
use Rattle.page_rules.specs.Page.{opened}
use Rattle.page_rules.specs.declared.Page.{Page}
use Rattle.page_rules.proofs.Facts.{Sound}
use Rattle.page_rules.proofs.Rows.{ring_refused, ring_sound}
use Rattle.reader_rules.specs.Read.{untouched, read_out}
use Rattle.reader_rules.specs.declared.Reader.{Reader}
use Rattle.reader_rules.proofs.Cases.{on_sound}
use Rattle.slip_rules.specs.Copy.{AfterCopy, nothing_copied, copy_opened, copy_out}
use Rattle.slip_rules.specs.Confirm.{confirm_opened, confirmed}
use Rattle.slip_rules.specs.AtOnce.{settled_after, pair_out}
use Rattle.slip_rules.specs.declared.Slip.{Slip}
use Rattle.slip_rules.specs.declared.Copying.TheVariants.{Event}
use Rattle.slip_rules.specs.declared.Confirming.TheVariants.{Done}
use Rattle.slip_rules.proofs.Cases.{copy_on_sound, confirm_on_sound}
use Rattle.slip_rules.proofs.Taking.{Took, took, events}
use Rattle.slip_rules.proofs.AtOnce.{moves_on, pair_opened_lem}
use Rattle.comparison.specs.Emptying.{Read}
use Rattle.comparison.specs.Comparison.{Half, Promise3, DemandBy3}
use Rattle.comparison.proofs.Demand3.{demand3}
use Rattle.beside.specs.AtOnce.{AtOnce, PairDemand3, TailSeen}
use Rattle.reader_rules.specs.declared.Answered.{Answered}
use Rattle.slip_rules.specs.declared.Confirming.{Confirming}

module _ (s : List ℕ) (reader : Reader) (out : List ℕ) where
  -- ---- a ring that 1 to 6 refuse

  module _ (r : Refusal) (is : opened s ≡ Err r) where
    copy_refused : copy_out s reader out ≡ nothing_copied reader out r
    unfolding copy_out
    copy_refused = ring_refused _ _ s refl is

    read_refused : read_out s reader out ≡ untouched reader out r
    unfolding read_out
    read_refused = ring_refused _ _ s refl is

  -- ---- a sound one

  module _ (p : Page) (sound : Sound s p) where
    confirms : confirmed s ≡ confirm_opened p
    confirms = λ i reader slip. confirm_on_sound s reader slip p sound i

    same_opened : pair_out s reader out ≡ read_out s reader out
    same_opened =
        ap (λ (a : AfterCopy). settled_after (confirmed s) a) (copy_on_sound s reader out p sound)
        ∙ ap (λ (confirm : Reader → Slip → Answered Confirming). settled_after confirm (copy_opened s p reader out)) confirms
        ∙ pair_opened_lem s p reader out sound.order
        ∙ sym (on_sound s reader out p sound)

    took_there : (slip : Slip) → (copy_out s reader out).copied.answer ≡ Ok (Event slip) → Took s p reader out slip
    took_there slip told =
        took s p reader out sound.order slip (sym (ap (λ (a : AfterCopy). a.copied.answer) (copy_on_sound s reader out p sound)) ∙ told)

    done_opened : (slip : Slip) → (copy_out s reader out).copied.answer ≡ Ok (Event slip) → (confirmed s reader slip).answer ≡ Ok Done
    done_opened slip told =
        let t = took_there slip told in
        ap (λ (c : Answered Confirming). c.answer)
        (confirm_on_sound s reader slip p sound
        ∙ ap (confirm_opened p reader) t.slip_is
        ∙ moves_on s p reader out t.fits _ (omega arith) (omega arith) t.well t.above)

  -- ---- both

  -- with the page, where copying has answered with an event
  pub opened_for : (slip : Slip) → (copy_out s reader out).copied.answer ≡ Ok (Event slip) → (p : Page) × Sound s p
  opened_for slip told = by (opened s) refl
    where
      by : (answer : Result Page Refusal) → opened s ≡ answer → (p : Page) × Sound s p
      by (Err r) e = absurd (omega (arith, ap (λ (a : AfterCopy). events a.copied.answer) (copy_refused r e), ap events told))
      by (Ok p) e = (p, ring_sound s refl e)

  same : pair_out s reader out ≡ read_out s reader out
  same = by (opened s) refl
    where
      by : (answer : Result Page Refusal) → opened s ≡ answer → pair_out s reader out ≡ read_out s reader out
      by (Err r) e = ap (λ (a : AfterCopy). settled_after (confirmed s) a) (copy_refused r e) ∙ sym (read_refused r e)
      by (Ok p) e = same_opened p (ring_sound s refl e)

pub at_once : AtOnce
at_once s reader out = record {
  same = same s reader out;
  done = λ slip told. let h = opened_for s reader out slip told in done_opened s reader out h.0 h.1 slip told;
}

pub pair_demand3 : PairDemand3
pair_demand3 = subst (λ (read : Read). DemandBy3 read Half Promise3) (λ i s reader out. sym (at_once s reader out).same i) demand3

pub tail_seen : TailSeen
tail_seen s reader out slip told =
    let h = opened_for s reader out slip told in
    let is = (took_there s reader out h.0 h.1 slip told).slip_is in
    omega (arith, ap (λ (slip : Slip). slip.position) is, ap (λ (slip : Slip). slip.tail_seen) is)
