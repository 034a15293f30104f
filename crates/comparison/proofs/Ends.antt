-- An emptying ends in one way: what its reads leave tells what they hand out.
use Prim.Native.Nat.{ℕ, ◌+◌, ◌≤◌}
use native.Mathlib.Omega.{arith}
use mathlib.Core.Path.{◌≡◌, refl, sym, ap, ap₂, ◌∙◌, subst}
use mathlib.Core.List.{List, [], ◌∷◌}
use lib.ListN.{length, take, drop, replicate, length-replicate}
use lib.Seq.{take-append_seam}
use Rattle.std.specs.Prelude.{Result, Ok, Err}
use Rattle.table_rules.specs.declared.Refusal.{Refusal}
use Rattle.reader_rules.specs.Read.{AfterRead}
use Rattle.reader_rules.specs.declared.Reader.{Reader}
use Rattle.reader_rules.specs.declared.Reading.{Reading}
use Rattle.reader_rules.specs.declared.Reading.TheVariants.{Event, Empty, Moved}
use Rattle.comparison.specs.Emptying.{Consumer, Empties, OneEnd}

-- some consumer, and an output buffer of any length
pub consumer : Consumer
consumer = record { page = replicate 4096 0; whole = length-replicate {A = ℕ} 4096 0 }

abbrev pub lent : ℕ → List ℕ
lent n = replicate n 0

pub enough : (m n : ℕ) → m ≤ n → m ≤ length (lent n)
enough m n h = omega (arith, length-replicate {A = ℕ} n 0)

abbrev size_in : Result Reading Refusal → ℕ
size_in (Ok (Event n)) = n
size_in (Ok Empty) = 0
size_in (Ok Moved) = 0
size_in (Err r) = 0

abbrev pub events_in : Result Reading Refusal → ℕ
events_in (Ok (Event n)) = 1
events_in (Ok Empty) = 0
events_in (Ok Moved) = 0
events_in (Err r) = 0

abbrev pub count : AfterRead → ℕ
count o = events_in o.answered.answer

-- the bytes that the answer points to
abbrev handed : AfterRead → List ℕ
handed o = take (size_in o.answered.answer) o.out

pub one_end : OneEnd
one_end read s reader [] [] one other a b =
    (refl, ap (λ (o : AfterRead). o.answered.reader) (sym (a consumer []) ∙ b consumer []))
one_end read s reader [] (y ∷ ys) one other a b =
    let out : List ℕ = lent (length y) in
    absurd (omega (arith, ap count (sym (a consumer out) ∙ b.1 consumer out (enough (length y) (length y) (omega arith)))))
one_end read s reader (x ∷ xs) [] one other a b =
    let out : List ℕ = lent (length x) in
    absurd (omega (arith, ap count (sym (a.1 consumer out (enough (length x) (length x) (omega arith))) ∙ b consumer out)))
one_end read s reader (x ∷ xs) (y ∷ ys) one other a b =
    let n : ℕ = length x + length y in
    let out : List ℕ = lent n in
    let same = sym (a.1 consumer out (enough (length x) n (omega arith))) ∙ b.1 consumer out (enough (length y) n (omega arith)) in
    let next : a.0 ≡ b.0 = ap (λ (o : AfterRead). o.answered.reader) same in
    let event : x ≡ y =
    sym (take-append_seam x (drop (length x) out)) ∙ ap handed same ∙ take-append_seam y (drop (length y) out) in
    let rest = one_end read s b.0 xs ys one other (subst (λ (r : Reader). Empties read s r xs one) next a.2) b.2 in
    (ap₂ (λ (z : List ℕ) (zs : List (List ℕ)). z ∷ zs) event rest.0, rest.1)
