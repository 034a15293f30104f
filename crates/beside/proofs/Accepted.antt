-- The events accepted in a history of calls: by induction on the calls, each of which was answered exactly as it had to be (`Exact`).
use Prim.Native.Nat.{ℕ, ◌+◌, ◌≤◌, ◌<◌}
use native.Mathlib.Omega.{arith}
use mathlib.Core.Path.{◌≡◌, refl, ap, ◌∙◌}
use mathlib.Core.List.{List, [], ◌∷◌, ◌++◌, map}
use lib.ListN.{length}
use Rattle.std.specs.Prelude.{Result, Ok, Err}
use Rattle.table_rules.specs.declared.Refusal.{Refusal}
use Rattle.run_rules.specs.Runs.{Rising, EndPart, total}
use Rattle.run_rules.proofs.Rising.{rising_lower}
use Rattle.emit_rules.specs.declared.Outcome.{Outcome}
use Rattle.emit_rules.specs.declared.Outcome.TheVariants as outcome
use Rattle.history.specs.Ring.{sequence_of, Numbered, Answer, Done, Dropped, Refused, bytes}
use Rattle.history.specs.Calls.{uses, accepts, accepted}
use Rattle.history.proofs.Demand2.{accepted_append}
use Rattle.promise.specs.Bytes.{Event, size, State, Turn, Made, made_by, made, after_by, after, answer_of, call_of, accepted_of}
use Rattle.promise.specs.Demand2.{Given, waiting, Exact}
use Rattle.promise.proofs.Encoding.{map_append}

-- ---- one history behind another

pub after_more : (ts us : List Turn) (s : State) → after s (ts ++ us) ≡ after (after s ts) us
unfolding after_by
after_more [] us s = refl
after_more (t ∷ ts) us s = after_more ts us (after s (t ∷ []))

pub made_more : (ts us : List Turn) (s : State) → made s (ts ++ us) ≡ made s ts ++ made (after s ts) us
unfolding made_by after_by
made_more [] us s = refl
made_more (t ∷ ts) us s = ap (λ (ms : List Made). made s (t ∷ []) ++ ms) (made_more ts us (after s (t ∷ [])))

pub accepted_more : (ms ns : List Made) → accepted_of (ms ++ ns) ≡ accepted_of ms ++ accepted_of ns
accepted_more ms ns = ap accepted (map_append call_of ms ns) ∙ accepted_append (map call_of ms) (map call_of ns)

-- ---- their sequences rise

rises_one : (a : Answer) (x : Numbered Event) (last : ℕ) (more : List (Numbered Event)) → x.sequence ≡ last + uses a → Rising sequence_of x.sequence more
    → Rising sequence_of last (accepts a x ++ more)
rises_one Done x last more is r = (omega (arith, is), r)
rises_one Dropped x last more is r = rising_lower sequence_of last x.sequence more (omega (arith, is)) r
rises_one (Refused n) x last more is r = rising_lower sequence_of last x.sequence more (omega (arith, is)) r

pub accepted_rising : (capacity last w : ℕ) (ms : List Made) → Exact capacity last w ms → Rising sequence_of last (accepted_of ms)
accepted_rising capacity last w [] exact = tt
accepted_rising capacity last w (m ∷ ms) exact =
    rises_one (answer_of m.answer.outcome) (record { sequence = m.answer.writer.last; event = m.turn.event }) last (accepted_of ms) exact.1
    (accepted_rising capacity m.answer.writer.last _ ms exact.2)

-- ---- none is above half the capacity, so the last one always fits

abbrev pub Small : ℕ → List (Numbered Event) → Type 0
Small capacity [] = Unit {0}
Small capacity (x ∷ xs) = (size x.event ≤ capacity) × Small capacity xs

small_one : (capacity last w : ℕ) (t : Turn) (o : Result Outcome Refusal) (n : ℕ) (more : List (Numbered Event)) → Given capacity last w (size t.event) (waiting t) o
    → Small capacity more → Small capacity (accepts (answer_of o) (record { sequence = n; event = t.event }) ++ more)
small_one capacity last w t (Ok outcome.Done) n more g h = (omega (arith, g.1.1), h)
small_one capacity last w t (Ok outcome.Wake) n more g h = (omega (arith, g.1.1), h)
small_one capacity last w t (Ok outcome.Dropped) n more g h = h
small_one capacity last w t (Err r) n more g h = h

pub accepted_small : (capacity last w : ℕ) (ms : List Made) → Exact capacity last w ms → Small capacity (accepted_of ms)
accepted_small capacity last w [] exact = tt
accepted_small capacity last w (m ∷ ms) exact =
    small_one capacity last w m.turn m.answer.outcome m.answer.writer.last (accepted_of ms) ((exact.0 m.answer.outcome).0 refl)
    (accepted_small capacity m.answer.writer.last _ ms exact.2)

pub last_fits : (capacity : ℕ) (x : Numbered Event) (xs : List (Numbered Event)) → Small capacity (x ∷ xs)
    → (part : List (Numbered Event)) × EndPart part (x ∷ xs) × (0 < length part) × (total (bytes size) part ≤ capacity)
last_fits capacity x [] h = (x ∷ [], record { front = []; split = refl }, omega arith, omega (arith, h.0))
last_fits capacity x (y ∷ ys) h =
    let rest = last_fits capacity y ys h.1 in (
      rest.0,
      record { front = x ∷ rest.1.front; split = ap (λ (l : List (Numbered Event)). x ∷ l) rest.1.split },
      rest.2,
      rest.3,
    )
