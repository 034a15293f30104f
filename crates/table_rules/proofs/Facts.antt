-- What laws say of conditions of which none is met, of the first one that is, and of a table in which no row holds.
use Prim.Native.Nat.{ℕ, zero, suc}
use mathlib.Core.{Path.◌≡◌, Bool.Bool, Bool.true, Bool.false, List.List, List.[], List.◌∷◌}

-- none of the conditions is met
abbrev pub NoneMet : List Bool → Type 0
NoneMet [] = Unit {0}
NoneMet (test ∷ tests) = (test ≡ false) × NoneMet tests

-- the condition at `turn`, counted from 0, is met, and none before it
abbrev pub FirstMet : ℕ → List Bool → Type 0
FirstMet turn [] = ⊥
FirstMet zero (test ∷ tests) = test ≡ true
FirstMet (suc turn) (test ∷ tests) = (test ≡ false) × FirstMet turn tests

-- no row's test holds
abbrev pub Passes : {R : Type 0} → List (Bool × R) → Type 0
Passes [] = Unit {0}
Passes (row ∷ rows) = (row.0 ≡ false) × Passes rows
