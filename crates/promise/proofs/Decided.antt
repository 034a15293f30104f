-- The second demand of the bytes leaves no choice: call by call the same outcome (`exact_one`), so the same events are accepted, kept and stored.
use Prim.Native.Nat.{ℕ, ◌+◌}
use native.Mathlib.Omega.{arith}
use mathlib.Core.Path.{◌≡◌, refl, sym, ap, ap₂, ◌∙◌, subst, subst₂}
use mathlib.Core.List.{List, [], ◌∷◌, ◌++◌, map, tail}
use lib.ListN.{length, get_or}
use Rattle.std.specs.Prelude.{Result}
use Rattle.table_rules.specs.declared.Refusal.{Refusal}
use Rattle.page_rules.specs.Page.{page_of}
use Rattle.page_rules.specs.Wake.{futex_counter}
use Rattle.event_rules.specs.Run.{joined}
use Rattle.emit_rules.specs.declared.Outcome.{Outcome}
use Rattle.run_rules.specs.Runs.{total, latest}
use Rattle.writer_rules.proofs.Laws.{same_writer}
use Rattle.history.specs.Ring.{Numbered, Ring, write}
use Rattle.history.specs.Calls.{Call, uses, used, dropped_of, accepted}
use Rattle.run_rules.proofs.Runs.{longest_latest}
use Rattle.promise.specs.Bytes.{Event, size, taken, encode, State, Turn, Made, answer_of, call_of, accepted_of, raises, outcomes_of}
use Rattle.promise.specs.Demand2.{Given, waiting, Exact, Promise, Alike}
use Rattle.promise.proofs.Layers.{layer}

abbrev turn_of : Made → Turn
turn_of m = m.turn

-- the same outcomes, and so the same calls
exact_one : (capacity last w : ℕ) (ms js : List Made) → map turn_of ms ≡ map turn_of js → Exact capacity last w ms → Exact capacity last w js
    → (outcomes_of ms ≡ outcomes_of js) × (map call_of ms ≡ map call_of js)
exact_one capacity last w [] [] e a b = (refl, refl)
exact_one capacity last w [] (j ∷ js) e a b = absurd (omega (arith, ap length e))
exact_one capacity last w (m ∷ ms) [] e a b = absurd (omega (arith, ap length e))
exact_one capacity last w (m ∷ ms) (j ∷ js) e a b =
    let turn : m.turn ≡ j.turn = ap (λ (l : List Turn). get_or l 0 m.turn) e in
    let outcome : m.answer.outcome ≡ j.answer.outcome =
    sym
    ((b.0 m.answer.outcome).1
    (subst (λ (t : Turn). Given capacity last w (size t.event) (waiting t) m.answer.outcome) turn ((a.0 m.answer.outcome).0 refl))) in
    let number : m.answer.writer.last ≡ j.answer.writer.last = a.1 ∙ ap (λ (o : Result Outcome Refusal). last + uses (answer_of o)) outcome ∙ sym b.1 in
    let call : call_of m ≡ call_of j = λ i. record { event = (turn i).event; answer = answer_of (outcome i); sequence = number i } in
    let on : w + taken (accepted_of (j ∷ [])) ≡ w + taken (accepted_of (m ∷ [])) = ap (λ (k : Call Event). w + taken (accepted (k ∷ []))) (sym call) in
    let rest = exact_one capacity m.answer.writer.last (w + taken (accepted_of (m ∷ []))) ms js (ap tail e) a.2
    (subst₂ (λ (n v : ℕ). Exact capacity n v js) (sym number) on b.2) in (
      ap₂ (λ (x : Result Outcome Refusal) (l : List (Result Outcome Refusal)). x ∷ l) outcome rest.0,
      ap₂ (λ (x : Call Event) (l : List (Call Event)). x ∷ l) call rest.1,
    )

-- whatever meets the promise twice, with the same consumer and the same events, is alike
abbrev pub Decided2 : Type 0
Decided2 =
    (cpu capacity : ℕ) (beginning : Ring Event) (without : List ℕ) (calls others : List Made) (one other : State) →
    map (λ (m : Made). m.turn) calls ≡ map (λ (m : Made). m.turn) others →
    Promise cpu capacity beginning without calls one → Promise cpu capacity beginning without others other →
    Alike calls one others other

pub decided2 : Decided2
decided2 cpu capacity beginning without calls others one other e p q =
    let same = exact_one capacity beginning.last (write size beginning) calls others e p.exact q.exact in
    let length_of : Numbered Event → ℕ = λ (x : Numbered Event). length (encode cpu x) in
    let all : beginning.kept ++ accepted_of calls ≡ beginning.kept ++ accepted_of others =
    ap (λ (ks : List (Call Event)). beginning.kept ++ accepted ks) same.1 in
    let kept : p.kept ≡ q.kept =
    longest_latest length_of capacity (beginning.kept ++ accepted_of calls) p.kept p.longest
    ∙ ap (latest length_of capacity) all
    ∙ sym (longest_latest length_of capacity (beginning.kept ++ accepted_of others) q.kept q.longest) in
    let drops : dropped_of (map call_of calls) ≡ dropped_of (map call_of others) = ap dropped_of same.1 in
    let writer : one.writer ≡ other.writer =
    same_writer one.writer other.writer (record {
      last_is = omega (arith, p.last, q.last, ap used same.1);
      dropped_is = omega (arith, p.dropped, q.dropped);
      overwritten_is = omega (arith, p.counts, q.counts, p.last, q.last, p.dropped, q.dropped, ap used same.1, ap length kept);
    }) in
    let far : (page_of one.ring).write_pos ≡ (page_of other.ring).write_pos =
    p.written ∙ ap (λ (ks : List (Call Event)). write size beginning + taken (accepted ks)) same.1 ∙ sym q.written in
    let near : (page_of one.ring).tail_pos ≡ (page_of other.ring).tail_pos = omega (arith, p.holds.write_is, q.holds.write_is, ap taken kept) in
    let events : joined (map (encode cpu) (accepted_of calls)) ≡ joined (map (encode cpu) (accepted_of others)) =
    ap (λ (ks : List (Call Event)). joined (map (encode cpu) (accepted ks))) same.1 in
    let ring : one.ring ≡ other.ring =
    p.ring
    ∙ (λ i. layer capacity (write size beginning) without (events i) (far i) (near i) (futex_counter without + total raises (same.0 i)))
    ∙ sym q.ring in (
      same.0,
      λ i. record { ring = ring i; writer = writer i },
    )
