-- RULES 11.4, 11.5: at most one fault is told, as the last of the reports; the part that it lies in decides it, and an early end is the end of the file.
use Rattle.std.specs.Prelude.{ℕ, ◌+◌, ◌≤◌, Some, None}
use mathlib.Core.{Path.◌≡◌, Bool.cond, List.List, List.[], List.◌∷◌, List.◌++◌}
use lib.{ListN.length, ListN.take, Dec.eqb}
use Rattle.reading_rules.specs.{Account.Told, Account.Faulty, Account.account_of, declared.Fault.Fault}
use Rattle.reading_rules.specs.declared.Fault.TheVariants as fault

-- a fault is among the reports
pub record FaultAmong (reports : List Told) (kind : Fault) (place : ℕ) : Type 0 where
  pub before : List Told
  pub behind : List Told
  pub is : reports ≡ before ++ (Faulty kind place ∷ behind)

-- it is the last report, so there is one at most, and the end then says nothing
abbrev pub OneFault : Type 0
OneFault = (file : List ℕ) (kind : Fault) (place : ℕ) (told : FaultAmong (account_of file).reports kind place)
    → (told.behind ≡ []) × ((account_of file).end ≡ None)

-- how many bytes the part has that the fault lies in: an opening, which begins the file, a header, a closing, the one byte behind a closing.
-- The early end is no report
abbrev pub extent : Fault → ℕ → ℕ
extent fault.Mark place = 8
extent fault.Version place = 8
extent fault.Spare place = cond (eqb place 0) 8 24
extent fault.Header place = 32
extent fault.Sequence place = 32
extent fault.Counts place = 24
extent fault.After place = 1
extent fault.Early place = 0

pub record DecidedBy (file : List ℕ) (size : ℕ) : Type 0 where
  pub there : size ≤ length file
  -- whatever follows, the same is told
  pub alone : (more : List ℕ) → account_of (take size file ++ more) ≡ account_of file

abbrev pub FaultAlone : Type 0
FaultAlone = (file : List ℕ) (kind : Fault) (place : ℕ) → FaultAmong (account_of file).reports kind place → DecidedBy file (place + extent kind place)

abbrev pub EarlyEnd : Type 0
EarlyEnd = (file : List ℕ) (place : ℕ) → (account_of file).end ≡ Some place → place ≡ length file
