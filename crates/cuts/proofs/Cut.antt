-- Pieces one after the other: each is fed as its laws say (`feed_good`), so the rest of the file is what is left to be read, by induction on the pieces.
use Prim.Native.Nat.{ℕ, ◌+◌, ◌^◌, ◌≤◌, ◌<◌}
use native.Mathlib.Omega.{arith}
use mathlib.Core.Path.{◌≡◌, refl, sym, ap, subst, ◌∙◌}
use mathlib.Core.Logic.{⊎_elim, ◌≢◌}
use mathlib.Core.Bool.{true, false}
use mathlib.Core.List.{List, [], ◌∷◌, ◌++◌, append-nil}
use lib.ListN.{length, length-append}
use Rattle.std.specs.Prelude.{None}
use Rattle.table_rules.proofs.Tests.{le_or_lt, either}
use Rattle.event_rules.specs.Run.{joined}
use Rattle.reading_rules.specs.Account.{Told, Account, account_of}
use Rattle.reading_rules.specs.Faultless.{NoFault, Faultless}
use Rattle.serial_rules.specs.Step.{fresh_listener, arrived, possible, stepped, ended_at, ended_listener}
use Rattle.serial_rules.specs.Feed.{Fed, feed_up_to, feed, feed_all}
use Rattle.serial_rules.specs.declared.Listener.{Listener}
use Rattle.serial_rules.specs.declared.Step.{Step}
use Rattle.serial_rules.specs.declared.Report.TheVariants.{Refused as tellsRefused}
use Rattle.serial_rules.specs.declared.Stage.{Stage}
use Rattle.serial_rules.specs.declared.Stage.TheVariants as stage
use Rattle.serial_rules.proofs.Faults.{Agrees, Faults, opening≢, after≢, faults_none, faults_then, feed_faults, touching_parts, touching_both}
use Rattle.serial_rules.proofs.Facts.{Sound}
use Rattle.serial_rules.proofs.Touch.{onto, made_one}
use Rattle.serial_rules.proofs.Settled.{whole_settled}
use Rattle.serial_rules.proofs.Rest.{rest}
use Rattle.serial_rules.proofs.Moves.{stepped_never, stepped_far, stepped_none, refused_only}
use Rattle.serial_rules.proofs.Feeding.{Fine, nothing_fed, fed_then, feed_good, feed_empty, feed_stuck, ended_is, end_is}
use Rattle.cuts.specs.Cut.{Taken, told_in_all, HoweverCut, GoodEnd, NoBytes, Refusals, RefusedLate}

-- ---- refusal

pub refusals : Refusals
refusals l piece =
    record {
      given = stepped_far l piece;
      only = refused_only l piece;
      nothing =
          λ e.
          let far = refused_only l piece e in
          feed_stuck l piece (stepped_far l piece far.0 far.1);
    }

near : (l : Listener) (piece : List ℕ) → Sound l → (stepped l piece).report ≢ tellsRefused → arrived l + length piece ≤ 2 ^ 62
near l piece sound taken =
    ⊎_elim (λ (h : arrived l + length piece ≤ 2 ^ 62). h)
    (λ (far : 2 ^ 62 < arrived l + length piece). absurd (taken (ap (λ (s : Step). s.report) (stepped_far l piece sound.possible_is far))))
    (le_or_lt (arrived l + length piece) (2 ^ 62))

pub no_bytes : NoBytes
no_bytes l = (feed_empty l [] refl, ⊎_elim can (λ (e : possible l ≡ false). ap (λ (s : Step). s.listener) (stepped_never l [] e)) (either (possible l)))
  where
    can : possible l ≡ true → (stepped l []).listener ≡ l
    can e =
        ⊎_elim
        (λ (h : arrived l + 0 ≤ 2 ^ 62). ap (λ (s : Step). s.listener) (stepped_none l [] e h refl))
        (λ (far : 2 ^ 62 < arrived l + 0). ap (λ (s : Step). s.listener) (stepped_far l [] e far))
        (le_or_lt (arrived l + 0) (2 ^ 62))

-- ---- all pieces

piece_fed : (l : Listener) (piece more : List ℕ) → Sound l → arrived l + length piece ≤ 2 ^ 62 → Fine l piece more (feed l piece)
unfolding feed
piece_fed l piece more sound close = feed_good (length piece) l piece more (omega arith) sound close

record Done (l : Listener) (pieces : List (List ℕ)) (more : List ℕ) : Type 0 where
  fine : Fine l (joined pieces) more (feed_all l pieces)
  within : arrived l + length (joined pieces) ≤ 2 ^ 62

all_good : (l : Listener) (pieces : List (List ℕ)) (more : List ℕ) → Sound l → arrived l ≤ 2 ^ 62 → Taken l pieces → Done l pieces more
unfolding feed_all joined
all_good l [] more sound here taken = record { fine = nothing_fed l more sound; within = omega arith }
all_good l (piece ∷ pieces) more sound here taken =
    let all : length (piece ++ joined pieces) ≡ length piece + length (joined pieces) = length-append piece (joined pieces) in
    let one : Fine l piece (joined pieces ++ more) (feed l piece) = piece_fed l piece (joined pieces ++ more) sound (near l piece sound taken.0) in
    let later : Done (feed l piece).listener pieces more =
    all_good (feed l piece).listener pieces more one.sound (omega (arith, one.counts, near l piece sound taken.0)) taken.1 in
    record {
      fine = fed_then l piece (joined pieces) more (feed l piece) (feed_all (feed l piece).listener pieces) one later.fine;
      within = omega (arith, later.within, one.counts);
    }

takes : (l : Listener) (pieces : List (List ℕ)) → Sound l → arrived l + length (joined pieces) ≤ 2 ^ 62 → Taken l pieces
unfolding joined
takes l [] sound here = tt
takes l (piece ∷ pieces) sound here =
    let all : length (piece ++ joined pieces) ≡ length piece + length (joined pieces) = length-append piece (joined pieces) in
    let one : Fine l piece [] (feed l piece) = piece_fed l piece [] sound (omega arith) in (
      λ e. let far : 2 ^ 62 < arrived l + length piece = (refused_only l piece e).1 in omega arith,
      takes (feed l piece).listener pieces one.sound (omega (arith, one.counts)),
    )

-- ---- from the beginning

pub fresh_sound : Sound fresh_listener
unfolding fresh_listener possible
fresh_sound = record { possible_is = refl; kept_is = refl }

fresh_reads : (file : List ℕ) → rest fresh_listener file ≡ account_of file
unfolding fresh_listener account_of
fresh_reads file = refl

fresh_stage : fresh_listener.course.stage ≡ stage.Opening
unfolding fresh_listener
fresh_stage = refl

fresh_arrived : arrived fresh_listener ≡ 0
unfolding fresh_listener
fresh_arrived = refl

pub however_cut : HoweverCut
however_cut pieces taken =
    let file : List ℕ = joined pieces in
    let fed : Fed = feed_all fresh_listener pieces in
    let done : Done fresh_listener pieces [] = all_good fresh_listener pieces [] fresh_sound (omega (arith, fresh_arrived)) taken in
    let fine : Fine fresh_listener file [] fed = done.fine in
    let at_end_lem : onto fed.reports (rest fed.listener []) ≡ record { reports = fed.reports; end = ended_listener fed.listener } =
    ap (onto fed.reports) (end_is fed.listener fine.sound (omega (arith, fine.counts, done.within)))
    ∙ ap (λ (reports : List Told). record { reports = reports; end = ended_listener fed.listener }) (append-nil fed.reports) in
    sym (ap made_one at_end_lem)
    ∙ sym fine.same
    ∙ ap (λ (bs : List ℕ). made_one (rest fresh_listener bs)) (append-nil file)
    ∙ ap made_one (fresh_reads file)
    ∙ whole_settled file

all_faults : (l : Listener) (pieces : List (List ℕ)) → Sound l → arrived l ≤ 2 ^ 62 → Taken l pieces → Faults l (feed_all l pieces)
unfolding feed_all feed
all_faults l [] sound here taken = faults_none l
all_faults l (piece ∷ pieces) sound here taken =
    let close : arrived l + length piece ≤ 2 ^ 62 = near l piece sound taken.0 in
    let one : Fine l piece [] (feed_up_to (length piece) l piece) = feed_good (length piece) l piece [] (omega arith) sound close in
    let now : Fed = feed_up_to (length piece) l piece in
    faults_then l now.reports now.listener (feed_all now.listener pieces) (feed_faults (length piece) l piece (omega arith) sound close)
    (all_faults now.listener pieces one.sound (omega (arith, one.counts)) taken.1)

-- where the end says nothing, the closing was whole or a fault was told
silent_at : (g : Stage) (l : Listener) → ended_at g l ≡ None → g ≢ stage.Stopped → g ≡ stage.After
silent_at stage.Opening l e on = let z : ◌≡◌ {A = ℕ} 0 1 = cc in absurd (omega arith)
silent_at stage.Events l e on = let z : ◌≡◌ {A = ℕ} 0 1 = cc in absurd (omega arith)
silent_at stage.After l e on = refl
silent_at stage.Stopped l e on = absurd (on refl)

pub good_end : GoodEnd
good_end pieces taken = (faultless, closed)
  where
    fed : Fed
    fed = feed_all fresh_listener pieces

    g : Stage
    g = fed.listener.course.stage

    whole : told_in_all pieces ≡ account_of (joined pieces)
    whole = however_cut pieces taken

    agrees : Agrees fed.reports g
    agrees =
        (all_faults fresh_listener pieces fresh_sound (omega (arith, fresh_arrived)) taken).going
        (λ (e : fresh_listener.course.stage ≡ stage.Stopped). opening≢ (sym fresh_stage ∙ e))

    at_end_lem : ended_listener fed.listener ≡ ended_at g fed.listener
    at_end_lem =
        let done : Done fresh_listener pieces [] = all_good fresh_listener pieces [] fresh_sound (omega (arith, fresh_arrived)) taken in
        ended_is fed.listener done.fine.sound (omega (arith, done.fine.counts, done.within))

    faultless : g ≡ stage.After → Faultless (joined pieces)
    faultless e =
        record {
          no_fault =
              subst (λ (a : Account). NoFault a.reports) whole
              (touching_both fed.reports
              (⊎_elim (λ (ok : NoFault fed.reports × (g ≢ stage.Stopped)). ok.0)
              (λ (bad : (NoFault fed.reports → ⊥) × (g ≡ stage.Stopped)). absurd (after≢ (sym e ∙ bad.1))) agrees));
          ends_well = ap (λ (a : Account). a.end) (sym whole) ∙ at_end_lem ∙ ap (λ (h : Stage). ended_at h fed.listener) e;
        }

    closed : Faultless (joined pieces) → g ≡ stage.After
    closed ok =
        let none : NoFault fed.reports = touching_parts fed.reports (subst (λ (a : Account). NoFault a.reports) (sym whole) ok.no_fault) in
        let silent : ended_at g fed.listener ≡ None = sym at_end_lem ∙ ap (λ (a : Account). a.end) whole ∙ ok.ends_well in
        silent_at g fed.listener silent
        (⊎_elim (λ (x : NoFault fed.reports × (g ≢ stage.Stopped)). x.1)
        (λ (x : (NoFault fed.reports → ⊥) × (g ≡ stage.Stopped)). absurd (x.0 none)) agrees)

pub refused_late : RefusedLate
refused_late pieces = (
  λ taken. omega (arith, (all_good fresh_listener pieces [] fresh_sound (omega (arith, fresh_arrived)) taken).within, fresh_arrived),
  λ within. takes fresh_listener pieces fresh_sound (omega (arith, fresh_arrived)),
)
