-- The numbers that the calls answer are the header's, each by computing; a refusal's is that of its name, unless that is 10.
use Prim.Native.Nat.{ℕ, ◌+◌}
use native.Mathlib.Omega.{arith}
use mathlib.Core.Path.{◌≡◌, refl, ap, ◌∙◌}
use mathlib.Core.Bool.{Bool, true, false, cond}
use lib.ListN.{get_or}
use lib.Dec.{eqb}
use borrow.Author.Tests.{eqb-false, ne_eqb}
use Rattle.table_rules.specs.Refusals.{paper_number, paper_values, paper_name}
use Rattle.table_rules.specs.declared.Damage.{Damage}
use Rattle.table_rules.specs.declared.Refusal.{Refusal}
use Rattle.table_rules.specs.declared.Refusal.TheVariants.{Damaged}
use Rattle.table_rules.proofs.Numbers.{named_number, never_twelve}
use Rattle.console_rules.specs.Console.{call_number, HeaderNumbers}

-- in place of 10, 100 and the reason
told_reason : (damage : Damage) → call_number (Damaged damage) ≡ 100 + damage.reason
unfolding call_number
told_reason damage = refl

-- the number itself, unless it is 10, and else one from 100 on
pub told_by_number : (r : Refusal) → (paper_number r ≡ 10 → ⊥) → call_number r ≡ paper_number r
unfolding call_number
told_by_number r other = ap (λ (b : Bool). cond b (100 + get_or (paper_values r) 1 0) (paper_number r)) (ne_eqb (paper_number r) 10 other)

-- what holds of both holds of what C is told
pub told_by_lem : (P : ℕ → Type 0) (r : Refusal) → ((n : ℕ) → P (100 + n)) → ((paper_number r ≡ 10 → ⊥) → P (paper_number r)) → P (call_number r)
unfolding call_number
told_by_lem P r high low = by (eqb (paper_number r) 10) refl
  where
    by : (b : Bool) → eqb (paper_number r) 10 ≡ b → P (cond b (100 + get_or (paper_values r) 1 0) (paper_number r))
    by true e = high (get_or (paper_values r) 1 0)
    by false e = low (eqb-false (paper_number r) 10 e)

pub header_numbers : HeaderNumbers
unfolding call_number
header_numbers =
    record {
      done = (refl, λ counts. refl, refl);
      dropped = refl;
      wake = refl;
      refused =
          λ damage n low high not_ten not-twelve.
          let named = named_number damage n low high not-twelve in
          let told : call_number (paper_name damage n) ≡ n = told_by_number (paper_name damage n) (λ e. not_ten (omega (arith, named, e))) ∙ named in
          (told, told, told);
      damaged = λ damage. (told_reason damage, told_reason damage);
      never_ten = λ r. told_by_lem (λ n. n ≡ 10 → ⊥) r (λ n e. omega arith) (λ other. other);
      never_twelve = λ r. told_by_lem (λ n. n ≡ 12 → ⊥) r (λ n e. omega arith) (λ other. never_twelve r);
    }
