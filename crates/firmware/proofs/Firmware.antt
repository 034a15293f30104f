-- The firmware's history is the core's, call by call, so the promise of a fresh ring is its own.
use Prim.Native.Nat.{ℕ}
use mathlib.Core.Path.{◌≡◌, refl, sym, ap, ◌∙◌, subst₂}
use mathlib.Core.List.{List, [], ◌∷◌}
use lib.ListN.{replicate}
use Rattle.word_rules.specs.Number.{byte_of, put}
use Rattle.word_rules.specs.Fields.{put_all}
use Rattle.writer_rules.specs.Writer.{zeros}
use Rattle.create_rules.specs.Create.{created}
use Rattle.console_rules.specs.Console.{answered_number, emitted_number, record_of, bytes_of, Called}
use Rattle.history.specs.Ring.{Ring, fresh, write}
use Rattle.history.proofs.Ideal.{emit}
use Rattle.promise.specs.Bytes.{Event, size, State, Turn, uncalled, left, Made, made_by, made, after_by, after}
use Rattle.promise.proofs.Opened.{emitted}
use Rattle.promise.specs.Holds.{Holds}
use Rattle.promise.specs.Demand2.{waiting, shown, created_state, Promise}
use Rattle.promise.proofs.Demand2.{turn_step}
use Rattle.promise.proofs.Created.{created_done, created_holds, fresh2}
use Rattle.firmware.specs.Firmware.{as_seen, set_up, seen_calls, last_call, Firmware2}
use Rattle.firmware.proofs.Calls.{holds_read, held, seen_back, recalled_is}

module _ (cpu capacity : ℕ) where
  abbrev next : Ring Event → Turn → Ring Event
  next ring t = (emit size capacity ring t.event).next

  same_history : (turns : List Turn) (s : State) (ring : Ring Event) (n : ℕ) → Holds cpu capacity s.ring s.writer ring
      → (seen_calls (held n s) turns ≡ made s turns) × ((m : ℕ) × (last_call (held n s) turns ≡ held m (after s turns)))
  unfolding seen_calls last_call made_by after_by
  same_history [] s ring n h = (refl, (n, refl))
  same_history (t ∷ ts) s ring n h =
      let a = turn_step cpu capacity s ring t h in
      let e = recalled_is cpu capacity s ring h t n in
      let number : ℕ = emitted_number (emitted s t).answer.outcome in
      let seen : as_seen (held number (left (emitted s t))) ≡ emitted s t =
      seen_back cpu capacity ring.last (write size ring) (size t.event) (waiting t) (emitted s t) (next ring t) a.given a.holds in
      let rest = same_history ts (left (emitted s t)) (next ring t) number a.holds in (
        ap (λ (c : Called). record { turn = t; answer = (as_seen c).answer } ∷ seen_calls c ts) e
            ∙ (λ i. record { turn = t; answer = (seen i).answer } ∷ rest.0 i),
        (rest.1.0, ap (λ (c : Called). last_call c ts) e ∙ rest.1.1),
      )

-- the record that goes with a fresh ring is of zero bytes
zero_bytes : replicate 24 0 ≡ bytes_of zeros
unfolding bytes_of put_all put byte_of zeros
zero_bytes = refl

pub firmware2 : Firmware2
firmware2 cpu capacity narrow fit buffer long turns =
    let s : State = created_state cpu buffer in
    let number : ℕ = answered_number (created buffer) in
    let start : set_up cpu buffer ≡ held number s = ap (λ (b : List ℕ). record { answer = number; ring = s.ring; kept = b }) zero_bytes in
    let same = same_history cpu capacity turns s fresh number (created_holds cpu capacity narrow fit buffer long) in
    let calls : seen_calls (set_up cpu buffer) turns ≡ made s turns = ap (λ (c : Called). seen_calls c turns) start ∙ same.0 in
    let last : last_call (set_up cpu buffer) turns ≡ held same.1.0 (after s turns) = ap (λ (c : Called). last_call c turns) start ∙ same.1.1 in
    let promise = (fresh2 cpu capacity narrow fit buffer long turns).1 in
    let end : State = after s turns in
    let read : record_of (bytes_of end.writer) ≡ end.writer =
    holds_read cpu capacity end.ring end.writer (shown promise.kept end) promise.holds in
    let state : left (as_seen (last_call (set_up cpu buffer) turns)) ≡ end =
    ap (λ (c : Called). left (as_seen c)) last ∙ (λ i. record { ring = end.ring; writer = read i }) in (
      ap answered_number (created_done cpu capacity narrow fit buffer long),
      subst₂ (λ (ms : List Made) (e : State). Promise cpu capacity fresh (uncalled s.ring turns) ms e) (sym calls) (sym state) promise,
      ap (λ (c : Called). c.kept) last ∙ ap (λ (e : State). bytes_of e.writer) (sym state),
    )
