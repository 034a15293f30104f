-- A file that is read without fault is a recording: each part's rows have passed, so it says what the format says and is no other bytes (`Unique`); the events are
-- cut off one after the other (`items_only`, by induction on the bytes left), and none of them is cut short, since that would be an early end.
use Prim.Native.Nat.{ℕ, zero, suc, ◌+◌, ◌-◌, ◌^◌, ◌≤◌, ◌<◌}
use native.Mathlib.Nat.{not-suc-le-zero}
use native.Mathlib.Omega.{arith}
use mathlib.Core.Path.{◌≡◌, sym, ap, ap₂, subst, ◌∙◌}
use mathlib.Core.Logic.{⊎_elim}
use mathlib.Core.Bool.{Bool, true, false}
use mathlib.Core.List.{List, [], ◌∷◌, ◌++◌, append_assoc}
use lib.ListN.{length, get_or, take, drop, length-drop, length-take, take-append-drop}
use lib.Seq.{drop-drop, length-take-le}
use lib.Dec.{eqb}
use borrow.Author.Tests.{eqb-true, eqb-false}
use Rattle.table_rules.specs.Table.{first}
use Rattle.table_rules.proofs.Facts.{Passes}
use Rattle.table_rules.proofs.Tests.{either}
use Rattle.word_rules.proofs.Reading.{number_bound, number_take}
use Rattle.run_rules.specs.Runs.{last_of}
use Rattle.run_rules.proofs.Runs.{by_le}
use Rattle.event_rules.specs.Event.{event_size, sequence, well_formed}
use Rattle.event_rules.specs.Run.{joined}
use Rattle.event_rules.proofs.Facts.{Whole, Well}
use Rattle.event_rules.proofs.Faults.{well_test}
use Rattle.event_rules.proofs.Front.{one_in, sequence_in}
use Rattle.format_rules.specs.Format.{opening, closing, recording}
use Rattle.reading_rules.specs.Parts.{opening_cpu, opening_rows, header_rows, closing_rows}
use Rattle.reading_rules.specs.Account.{Account, fault_at, early, stretch, read_after, read_closing, read_payload, read_items, account_of}
use Rattle.reading_rules.specs.declared.Fault.{Fault}
use Rattle.reading_rules.proofs.Cases.{by_test, by_rows}
use Rattle.reading_rules.proofs.Items.{read_event, items_short, items_closing, items_cut, items_header}
use Rattle.reading_rules.proofs.Steps.{opening_short, opening_whole, payload_cut, payload_all, closing_short, closing_whole, after_some}
use Rattle.reading_rules.proofs.Passing.{opening_front, opening_said, closing_said, header_said}
use Rattle.reading_rules.proofs.Unique.{opening_unique, closing_unique}
use Rattle.faultless.specs.Sound.{recording_told}
use Rattle.faultless.specs.Only.{IsRecording, OnlyRecordings, FaultlessMeans}
use Rattle.faultless.proofs.Fitting.{Bytes, drop_bytes, take_bytes, sizes_more}
use Rattle.faultless.proofs.Recordings.{sound_recordings}
use Rattle.faultless.proofs.Rings.{Clean, recording_faultless}

never_early : {A : Type 0} (at : ℕ) (bs : List ℕ) → Clean (early at bs) → A
never_early at bs c = let z : ◌≡◌ {A = ℕ} 0 1 = cc in absurd (omega arith)

-- rows that end in no fault have passed
clean_rows : (at : ℕ) (rows : List (Bool × Fault)) (next : Account) → Clean (first rows (fault_at at) next) → Passes rows × Clean next
clean_rows at rows next =
    let f : Fault → Account = fault_at at in
    by_rows (λ (a b : Account). Clean b → Passes rows × Clean next) rows f next f next (λ k c. absurd c.0) (λ passes c. (passes, c))

-- ---- the closing

after_only : (at : ℕ) (bs : List ℕ) → Clean (read_after at bs) → length bs ≡ 0
after_only at bs c =
    ⊎_elim (λ (t : eqb (length bs) 0 ≡ true). eqb-true (length bs) 0 t)
    (λ (t : eqb (length bs) 0 ≡ false). absurd (subst Clean (after_some at bs (eqb-false (length bs) 0 t)) c).0)
    (either (eqb (length bs) 0))

closing_only : (at count last : ℕ) (bs : List ℕ) → Bytes bs → Clean (read_closing at count last bs) → bs ≡ closing count (last - count)
closing_only at count last bs small c =
    by_le 24 (length bs)
    (λ enough.
    let goes = clean_rows at (closing_rows count last bs) _ (subst Clean (closing_whole at bs count last enough) c) in
    let none : length (drop 24 bs) ≡ 0 = after_only (at + 24) (drop 24 bs) goes.1 in
    closing_unique bs small count (last - count) (closing_said bs count last (omega (arith, length-drop 24 bs)) goes.0))
    (λ few. never_early at bs (subst Clean (closing_short at bs count last few) c))

-- ---- an event

payload_only : (at left : ℕ) (bs : List ℕ) (next : Account) → Clean (read_payload at left bs next) → (left ≤ length bs) × Clean next
payload_only at left bs next c =
    by_le left (length bs)
    (λ all. (all, unstretched left next (subst Clean (payload_all at bs left next all) c)))
    (λ few. never_early at bs (unstretched (length bs) (early at bs) (subst Clean (payload_cut at bs left next few) c)))
  where
    unstretched : (size : ℕ) (x : Account) → Clean (stretch at size x) → Clean x
    unstretched size x = by_test (λ (y : Account). Clean y → Clean x) (eqb size 0) (λ t w. w) (λ t w. w)

record Front (cpu last : ℕ) (bs : List ℕ) (next : Account) : Type 0 where
  well : Well cpu bs
  above : last < sequence bs
  clean : Clean next

event_only : (cpu at last : ℕ) (bs : List ℕ) (next : Account) → 32 ≤ length bs → Clean (read_event cpu at last bs next) → Front cpu last bs next
event_only cpu at last bs next long c =
    let goes = clean_rows at (header_rows cpu last bs) _ c in
    let rest = payload_only (at + 32) (event_size bs - 32) (drop 32 bs) next goes.1 in
    let said = header_said cpu last bs long (omega (arith, rest.0, length-drop 32 bs)) goes.0 in
    record { well = said.0; above = said.1; clean = rest.1 }

-- ---- all items

record Items (cpu count last : ℕ) (bs : List ℕ) : Type 0 where
  events : List (List ℕ)
  whole : Whole cpu last events
  last_fits : last_of sequence last events < 2 ^ 64
  sizes_fit : (i : ℕ) → length (get_or events i []) < 2 ^ 32
  is : bs ≡ joined events ++ closing (count + length events) (last_of sequence last events - (count + length events))

no_items : (cpu count last : ℕ) (bs : List ℕ) → last < 2 ^ 64 → bs ≡ closing count (last - count) → Items cpu count last bs
unfolding joined
no_items cpu count last bs low e =
    let number : count ≡ count + 0 = omega arith in
    record {
      events = [];
      whole = (tt, tt);
      last_fits = low;
      sizes_fit = λ i. omega arith;
      is = e ∙ ap (λ (k : ℕ). closing k (last - k)) number;
    }

-- one event more in front
more_items : (cpu count last : ℕ) (bs : List ℕ) → Bytes bs → well_formed cpu bs ≡ true → last < sequence bs
    → Items cpu (count + 1) (sequence bs) (drop (event_size bs) bs) → Items cpu count last bs
unfolding joined
more_items cpu count last bs small well above rest =
    let size : ℕ = event_size bs in
    let event : List ℕ = take size bs in
    let es : List (List ℕ) = rest.events in
    let same : sequence event ≡ sequence bs = sequence_in cpu bs well in
    let number : count + 1 + length es ≡ count + suc (length es) = omega arith in
    let short : length event < 2 ^ 32 = omega (arith, length-take size bs, number_bound bs 0 4 small) in
    record {
      events = event ∷ es;
      whole = ((one_in cpu bs well, rest.whole.0), (omega arith, rw (sym same) at rest.whole.1));
      last_fits = rw same rest.last_fits;
      sizes_fit = sizes_more event es short rest.sizes_fit;
      is =
          sym (take-append-drop size bs)
          ∙ ap (λ (l : List ℕ). event ++ l)
          (rest.is ∙ ap₂ (λ (k s : ℕ). joined es ++ closing k (last_of sequence s es - k)) number (sym same))
          ∙ sym (append_assoc event (joined es) (closing (count + suc (length es)) (last_of sequence (sequence event) es - (count + suc (length es)))));
    }

items_only : (fuel cpu at count last : ℕ) (bs : List ℕ) → length bs < fuel → Bytes bs → last < 2 ^ 64 → Clean (read_items cpu at count last bs)
    → Items cpu count last bs
items_only zero cpu at count last bs h small low c = absurd (not-suc-le-zero h)
items_only (suc fuel) cpu at count last bs h small low c =
    by_le 4 (length bs)
    (λ four.
    ⊎_elim
    (λ (t : eqb (event_size bs) 0 ≡ true).
    let z : event_size bs ≡ 0 = eqb-true (event_size bs) 0 t in
    no_items cpu count last bs low (closing_only at count last bs small (subst Clean (items_closing cpu at count last bs four z) c)))
    (λ (t : eqb (event_size bs) 0 ≡ false).
    let some : event_size bs ≡ 0 → ⊥ = eqb-false (event_size bs) 0 t in
    by_le 32 (length bs)
    (λ long.
    let left : ℕ = event_size bs - 32 in
    let behind : List ℕ = drop left (drop 32 bs) in
    let next : Account = read_items cpu (at + 32 + left) (count + 1) (sequence bs) behind in
    let front : Front cpu last bs next = event_only cpu at last bs next long (subst Clean (items_header cpu at count last bs long some) c) in
    let sum : 32 + left ≡ event_size bs = omega (arith, front.well.least) in
    let is : behind ≡ drop (event_size bs) bs = drop-drop left 32 bs ∙ ap (λ (k : ℕ). drop k bs) sum in
    more_items cpu count last bs small (well_test cpu bs front.well) front.above
    (subst (Items cpu (count + 1) (sequence bs)) is
    (items_only fuel cpu (at + 32 + left) (count + 1) (sequence bs) behind
    (simp length-drop (omega arith)) (drop_bytes left (drop 32 bs) (drop_bytes 32 bs small)) (number_bound bs 8 8 small) front.clean)))
    (λ short. never_early at bs (subst Clean (items_cut cpu at count last bs four short some) c)))
    (either (eqb (event_size bs) 0)))
    (λ few. never_early at bs (subst Clean (items_short cpu at count last bs few) c))

-- ---- the whole file

record Opened (file : List ℕ) : Type 0 where
  cpu : ℕ
  cpu_fits : cpu < 2 ^ 16
  starts : take 8 file ≡ opening cpu
  clean : Clean (read_items cpu 8 0 0 (drop 8 file))

opening_only : (file : List ℕ) → Bytes file → Clean (account_of file) → Opened file
unfolding account_of
opening_only file small c =
    by_le 8 (length file)
    (λ enough.
    let front : List ℕ = take 8 file in
    let long : length front ≡ 8 = length-take-le 8 file enough in
    let goes = clean_rows 0 (opening_rows file) _ (subst Clean (opening_whole 0 file enough) c) in
    let same : opening_rows file ≡ opening_rows front =
    ap opening_rows (sym (take-append-drop 8 file)) ∙ opening_front front (drop 8 file) (omega arith) in
    let named : opening_cpu front ≡ opening_cpu file = number_take file 8 5 2 (omega arith) in
    record {
      cpu = opening_cpu file;
      cpu_fits = number_bound file 5 2 small;
      starts =
          opening_unique front (take_bytes 8 file small) (opening_cpu front) (opening_said front long (subst Passes same goes.0))
          ∙ ap opening named;
      clean = goes.1;
    })
    (λ few. never_early 0 file (subst Clean (opening_short 0 file few) c))

is_recording : (file : List ℕ) → Bytes file → Clean (account_of file) → IsRecording file
unfolding recording
is_recording file small c =
    let o : Opened file = opening_only file small c in
    let items : Items o.cpu 0 0 (drop 8 file) =
    items_only (suc (length (drop 8 file))) o.cpu 8 0 0 (drop 8 file) (omega arith) (drop_bytes 8 file small) (omega arith) o.clean in
    let es : List (List ℕ) = items.events in
    let end : ℕ → List ℕ = λ k. closing k (last_of sequence 0 es - k) in
    let none : 0 + length es ≡ length es = omega arith in
    record {
      cpu = o.cpu;
      events = es;
      fits =
          record {
            each = items.whole.0;
            rising = items.whole.1;
            cpu_fits = o.cpu_fits;
            last_fits = items.last_fits;
            sizes_fit = items.sizes_fit;
          };
      is =
          sym (take-append-drop 8 file)
          ∙ ap₂ (λ (x y : List ℕ). x ++ y) o.starts (items.is ∙ ap (λ (k : ℕ). joined es ++ end k) none)
          ∙ sym (append_assoc (opening o.cpu) (joined es) (end (length es)));
    }

told : (file : List ℕ) (is : IsRecording file) → account_of file ≡ recording_told is.events
told file is = ap account_of is.is ∙ sound_recordings is.cpu is.events is.fits

pub only_recordings : OnlyRecordings
only_recordings file small f = let is : IsRecording file = is_recording file small (f.no_fault, f.ends_well) in (is, told file is)

pub faultless_means : FaultlessMeans
faultless_means file small = (λ f. (only_recordings file small f).0, λ is. recording_faultless file is.events (told file is))
