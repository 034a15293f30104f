-- One refusal bears values and the others none (`bearing`), so code that has asked for that one knows the number and the values of what is left.
use Prim.Native.Nat.{ℕ}
use native.Mathlib.Omega.{arith}
use mathlib.Core.Path.{◌≡◌, refl}
use mathlib.Core.List.{List, [], ◌∷◌}
use denote.Enum.Declared.{tag_of}
use types.Run.{OneOf, miss}
use Rattle.table_rules.specs.Refusals.{paper_number, paper_values}
use Rattle.table_rules.specs.declared.Damage.{Damage}
use Rattle.table_rules.specs.declared.Refusal.{Refusal}
use Rattle.table_rules.specs.declared.Refusal.TheVariants.{Short, Magic, Version, Layout, Length, Position, Writer, Spent, Far, Damaged}
use Rattle.table_rules.specs.declared.Refusal.TheVariants.{Disagree, Reader, Out, Generation, Size, Record}
use Rattle.table_rules.specs.contracts.Refusal as refusal

pub record Alone (r : Refusal) : Type 0 where
  pub bears : paper_values r ≡ []
  pub not_ten : paper_number r ≡ 10 → ⊥

data Bearing : Refusal → Type 0 where
  alone : (r : Refusal) → Alone r → Bearing r
  damaged : (damage : Damage) → Bearing (Damaged damage)

bearing : (r : Refusal) → Bearing r
bearing (Damaged damage) = damaged damage
bearing Short = alone Short (record { bears = refl; not_ten = λ e. omega arith })
bearing Magic = alone Magic (record { bears = refl; not_ten = λ e. omega arith })
bearing Version = alone Version (record { bears = refl; not_ten = λ e. omega arith })
bearing Layout = alone Layout (record { bears = refl; not_ten = λ e. omega arith })
bearing Length = alone Length (record { bears = refl; not_ten = λ e. omega arith })
bearing Position = alone Position (record { bears = refl; not_ten = λ e. omega arith })
bearing Writer = alone Writer (record { bears = refl; not_ten = λ e. omega arith })
bearing Spent = alone Spent (record { bears = refl; not_ten = λ e. omega arith })
bearing Far = alone Far (record { bears = refl; not_ten = λ e. omega arith })
bearing Disagree = alone Disagree (record { bears = refl; not_ten = λ e. omega arith })
bearing Reader = alone Reader (record { bears = refl; not_ten = λ e. omega arith })
bearing Out = alone Out (record { bears = refl; not_ten = λ e. omega arith })
bearing Generation = alone Generation (record { bears = refl; not_ten = λ e. omega arith })
bearing Size = alone Size (record { bears = refl; not_ten = λ e. omega arith })
bearing Record = alone Record (record { bears = refl; not_ten = λ e. omega arith })

-- what the code's `else` knows: the variant isn't the tenth
abbrev pub others : List ℕ
others = 0 ∷ 1 ∷ 2 ∷ 3 ∷ 4 ∷ 5 ∷ 6 ∷ 7 ∷ 8 ∷ 10 ∷ 11 ∷ 12 ∷ 13 ∷ 14 ∷ 15 ∷ []

pub other_alone : (r : Refusal) → OneOf others (tag_of refusal.the_type r) → Alone r
other_alone r other = by (bearing r) other
  where
    by : {r : Refusal} → Bearing r → OneOf others (tag_of refusal.the_type r) → Alone r
    by (alone r is) other = is
    by (damaged damage) other = absurd (miss others 9 tt other)
