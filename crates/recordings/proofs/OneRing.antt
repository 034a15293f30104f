-- A call puts what comes next of the ring's own recording, whatever the consumer wrote (`call_puts`); so calls one after the other, from any place in the
-- recording, put what stands there as far as the buffers go (`pieces_are`): by induction on the calls.
use Prim.Native.Nat.{ℕ, zero, suc, ◌+◌, ◌≤◌}
use native.Mathlib.Omega.{arith}
use mathlib.Core.Path.{◌≡◌, refl, sym, ap, ap₂, ◌∙◌}
use mathlib.Core.Logic.{◌≢◌}
use mathlib.Core.List.{List, [], ◌∷◌, ◌++◌}
use lib.ListN.{length, take, drop, length-take, length-drop}
use lib.Seq.{take-length, drop-drop, take-add, take-append_seam}
use Rattle.std.specs.Prelude.{Ok, Err}
use Rattle.table_rules.specs.declared.Refusal.{Refusal}
use Rattle.page_rules.specs.Page.{page_of}
use Rattle.page_rules.proofs.Facts.{Sound}
use Rattle.inspect_rules.specs.Inspect.{surveyed}
use Rattle.inspect_rules.proofs.Answers.{whole_inspected}
use Rattle.recording_rules.specs.Recording.{AfterRecord, recording_of, piece, put_in_front}
use Rattle.recording_rules.proofs.Cases.{recorded_on_lem, places}
use Rattle.promise.specs.Bytes.{consumed}
use Rattle.recordings.specs.Pieces.{Lending, recorded_now, placed_by, put_by, pieces, AllPlaced, lent_bytes, OneRing}
use Rattle.promise.proofs.Consumer.{consumed_sound}
use Rattle.recordings.proofs.Consumed.{consumed_stop, consumed_recording}

-- what lies behind a piece, whether or not there was as much as was asked for
drop_taken : {A : Type 0} (n : ℕ) (l : List A) → drop (length (take n l)) l ≡ drop n l
drop_taken zero l = refl
drop_taken (suc n) [] = refl
drop_taken (suc n) (x ∷ l) = drop_taken n l

take_taken : {A : Type 0} (n : ℕ) (l : List A) → take n l ≡ take (length (take n l)) l
take_taken zero l = refl
take_taken (suc n) [] = refl
take_taken {A} (suc n) (x ∷ l) = ap (λ (r : List A). x ∷ r) (take_taken n l)

never : (n : ℕ) (r : Refusal) → Ok n ≢ Err r
never n r e = let z : ◌≡◌ {A = ℕ} 0 1 = cc in omega arith

module _ (s : List ℕ) (sound : Sound s (page_of s)) (reaches : (surveyed s (page_of s)).stop ≡ (page_of s).write_pos) where
  abbrev whole : List ℕ
  whole = recording_of s

  call_puts : (placed : ℕ) (l : Lending) → placed ≤ length whole → recorded_now s placed l ≡ put_in_front (piece whole placed (length l.out)) l.out
  call_puts placed l within =
      let now : List ℕ = consumed s l.consumer.page in
      let same : recording_of now ≡ whole = consumed_recording s (page_of s) sound l.consumer in
      recorded_on_lem now placed l.out (page_of s) (consumed_sound s (page_of s) sound l.consumer.page l.consumer.whole)
      ∙ places now placed l.out (page_of s) (consumed_stop s (page_of s) sound l.consumer ∙ reaches) (omega (arith, within, ap length same))
      ∙ ap (λ (bytes : List ℕ). put_in_front (piece bytes placed (length l.out)) l.out) same

  -- so placed grows by the piece's length, and stays within the recording
  call_places : (placed : ℕ) (l : Lending) → placed ≤ length whole
      → (placed_by (recorded_now s placed l).answer ≡ length (piece whole placed (length l.out)))
      × (placed + length (piece whole placed (length l.out)) ≤ length whole)
  call_places placed l within = (
    ap (λ (after : AfterRecord). placed_by after.answer) (call_puts placed l within),
    omega (arith, length-take (length l.out) (drop placed whole), length-drop placed whole),
  )

  -- a piece, and behind it what the later calls put from its end on
  joins : (placed next : ℕ) (l : Lending) (ls : List Lending) (put : List ℕ) → put ≡ piece whole placed (length l.out)
      → next ≡ placed + length (piece whole placed (length l.out)) → pieces s next ls ≡ take (lent_bytes ls) (drop next whole)
      → put ++ pieces s next ls ≡ take (length l.out + lent_bytes ls) (drop placed whole)
  joins placed next l ls put is goes later =
      let room : ℕ = length l.out in
      let behind : drop next whole ≡ drop room (drop placed whole) =
      ap (λ (n : ℕ). drop n whole) goes ∙ sym (drop-drop (length (piece whole placed room)) placed whole) ∙ drop_taken room (drop placed whole) in
      ap₂ (λ (x y : List ℕ). x ++ y) is (later ∙ ap (take (lent_bytes ls)) behind)
      ∙ sym (take-add room (lent_bytes ls) (drop placed whole))

  pieces_are : (ls : List Lending) (placed : ℕ) → placed ≤ length whole → pieces s placed ls ≡ take (lent_bytes ls) (drop placed whole)
  unfolding pieces
  pieces_are [] placed within = refl
  pieces_are (l ∷ ls) placed within =
      let bytes : List ℕ = piece whole placed (length l.out) in
      let put : put_by (recorded_now s placed l) ≡ bytes = ap put_by (call_puts placed l within) ∙ take-append_seam bytes (drop (length bytes) l.out) in
      let grows = call_places placed l within in
      joins placed _ l ls _ put (omega (arith, grows.0)) (pieces_are ls _ (omega (arith, grows.0, grows.1)))

  all_placed : (ls : List Lending) (placed : ℕ) → placed ≤ length whole → AllPlaced s placed ls
  all_placed [] placed within = tt
  all_placed (l ∷ ls) placed within =
      let put = ap (λ (after : AfterRecord). after.answer) (call_puts placed l within) in
      let grows = call_places placed l within in
      (λ r refused. never _ r (sym put ∙ refused), all_placed ls _ (omega (arith, grows.0, grows.1)))

  -- how much was put tells what
  told : (ls : List Lending) → pieces s 0 ls ≡ take (length (pieces s 0 ls)) whole
  told ls =
      let all = pieces_are ls 0 (omega arith) in
      all ∙ take_taken (lent_bytes ls) whole ∙ ap (λ (bytes : List ℕ). take (length bytes) whole) (sym all)

pub one_ring : OneRing
one_ring s found whole =
    let passes = whole_inspected s found whole in
    let as_told = told s passes.0 passes.1 in
    record {
      answered = λ ls. all_placed s passes.0 passes.1 ls 0 (omega arith);
      beginning = λ ls. pieces_are s passes.0 passes.1 ls 0 (omega arith);
      whole = λ ls long. as_told ls ∙ ap (λ (n : ℕ). take n (recording_of s)) long ∙ take-length (recording_of s);
      same = λ ls others long. as_told ls ∙ ap (λ (n : ℕ). take n (recording_of s)) long ∙ sym (as_told others);
    }
