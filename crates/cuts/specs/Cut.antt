-- RULES 11.8, 11.10: however a file was cut, what is told of its pieces and at its end is what is told of it read whole; and refusal 9.
use Rattle.std.specs.Prelude.{ℕ, ◌+◌, ◌^◌, ◌≤◌, ◌<◌}
use mathlib.Core.{Path.◌≡◌, Logic.◌≢◌, Logic.◌↔◌, Bool.true, List.List, List.[], List.◌∷◌}
use lib.{ListN.length}
use Rattle.event_rules.specs.{Run.joined}
use Rattle.reading_rules.specs.{Account.Account, Account.account_of, Faultless.Faultless}
use Rattle.serial_rules.specs.{Step.fresh_listener, Step.arrived, Step.possible, Step.refused_step, Step.stepped, Step.ended_listener}
use Rattle.serial_rules.specs.{Feed.Fed, Feed.feed, Feed.feed_all, Feed.touching, declared.Listener.Listener}
use Rattle.serial_rules.specs.declared.Report.TheVariants.{Refused as tellsRefused}
use Rattle.serial_rules.specs.declared.Stage.TheVariants.{After as behindClosing}

-- no call is refused
abbrev pub Taken : Listener → List (List ℕ) → Type 0
Taken l [] = Unit {0}
Taken l (piece ∷ pieces) = ((stepped l piece).report ≢ tellsRefused) × Taken (feed l piece).listener pieces

-- the reports of all pieces, stretches that touch made one, and what the end says
abbrev pub told_in_all : List (List ℕ) → Account
told_in_all pieces =
    let fed = feed_all fresh_listener pieces in
    record { reports = touching fed.reports; end = ended_listener fed.listener }

abbrev pub HoweverCut : Type 0
HoweverCut = (pieces : List (List ℕ)) → Taken fresh_listener pieces → told_in_all pieces ≡ account_of (joined pieces)

-- a listener stands behind the closing exactly if all that arrived is a faultless file: by this a program tells its status
abbrev pub GoodEnd : Type 0
GoodEnd = (pieces : List (List ℕ)) → Taken fresh_listener pieces
    → ((feed_all fresh_listener pieces).listener.course.stage ≡ behindClosing) ↔ Faultless (joined pieces)

-- nothing is told, and the listener is as it was
abbrev pub unheard : Listener → Fed
unheard l = record { reports = []; listener = l }

-- a piece of no bytes changes nothing, whatever the state
abbrev pub NoBytes : Type 0
NoBytes = (l : Listener) → (feed l [] ≡ unheard l) × ((stepped l []).listener ≡ l)

-- refusal 9 of any state: given where the file would pass 2^62, only there, and it changes nothing
pub record RefusalNine (l : Listener) (piece : List ℕ) : Type 0 where
  pub given : possible l ≡ true → 2 ^ 62 < arrived l + length piece → stepped l piece ≡ refused_step l
  pub only : (stepped l piece).report ≡ tellsRefused → (possible l ≡ true) × (2 ^ 62 < arrived l + length piece)
  pub nothing : (stepped l piece).report ≡ tellsRefused → feed l piece ≡ unheard l

abbrev pub Refusals : Type 0
Refusals = (l : Listener) (piece : List ℕ) → RefusalNine l piece

-- so no call is refused exactly if the file has at most 2^62 bytes; what has been told by then doesn't matter
abbrev pub RefusedLate : Type 0
RefusedLate = (pieces : List (List ℕ)) → Taken fresh_listener pieces ↔ (length (joined pieces) ≤ 2 ^ 62)
