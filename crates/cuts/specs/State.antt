-- RULES 11.9, 11.11: which states come about, what the others do; and the stride, which is a step.
use Rattle.std.specs.Prelude.{ℕ, ◌+◌, ◌^◌, ◌≤◌, ◌<◌, None}
use mathlib.Core.{Path.◌≡◌, Bool.true, Bool.false, List.List}
use lib.{ListN.length}
use Rattle.serial_rules.specs.{Step.fresh_listener, Step.arrived, Step.possible, Step.passing, Step.taking, Step.stepped, Step.strode, Step.ended_listener, declared.Listener.Listener}

-- 32 bytes are kept, as the array's type has it
abbrev pub Keeps : Listener → Type 0
Keeps l = length l.kept ≡ 32

-- a fresh listener is possible, and a step over any piece leads from a possible one to a possible one
abbrev pub StaysPossible : Type 0
StaysPossible = (possible fresh_listener ≡ true) × Keeps fresh_listener
    × ((l : Listener) (piece : List ℕ) → Keeps l → possible l ≡ true → (possible (stepped l piece).listener ≡ true) × Keeps (stepped l piece).listener)

-- an impossible one tells nothing, uses the piece up and stays; nor does its end say anything
abbrev pub Impossible : Type 0
Impossible = (l : Listener) → possible l ≡ false → ((piece : List ℕ) → stepped l piece ≡ passing l (length piece)) × (ended_listener l ≡ None)

-- every step over bytes that isn't refused uses one of them at least, and no more than there are: stepping ends
abbrev pub StepsEnd : Type 0
StepsEnd = (l : Listener) (piece : List ℕ) → Keeps l → 0 < length piece → arrived l + length piece ≤ 2 ^ 62
    → (0 < (stepped l piece).used) × ((stepped l piece).used ≤ length piece)

-- where nothing is kept, a stride that uses bytes is the step, and what is kept stays
abbrev pub StrideIsStep : Type 0
StrideIsStep = (l : Listener) (piece : List ℕ) → l.held ≡ 0 → possible l ≡ true → arrived l + length piece ≤ 2 ^ 62 → 0 < length piece
    → 0 < (strode l.course piece).used → stepped l piece ≡ taking 0 l.kept (strode l.course piece)
