-- A recording is read without fault: the opening's rows pass, then each event is told in turn (`events_read`, by induction on the events), then the closing's rows pass.
use Prim.Native.Nat.{ℕ, suc, ◌+◌, ◌-◌, ◌^◌, ◌≤◌, ◌<◌}
use native.Mathlib.Omega.{arith}
use mathlib.Core.Path.{◌≡◌, ap, ap₂, ◌∙◌}
use mathlib.Core.List.{List, [], ◌∷◌, ◌++◌, append_assoc}
use lib.ListN.{length, get_or, take, drop, length-append, length-drop}
use lib.Seq.{take-append-le, drop-append-le, drop_at}
use Rattle.table_rules.proofs.Facts.{Passes}
use Rattle.table_rules.proofs.Laws.{passes}
use Rattle.word_rules.proofs.Reading.{number_split, number_front}
use Rattle.run_rules.specs.Runs.{last_of}
use Rattle.run_rules.proofs.Rising.{rising_length}
use Rattle.event_rules.specs.Event.{event_size, sequence}
use Rattle.event_rules.specs.Run.{joined, One}
use Rattle.event_rules.proofs.Facts.{Whole}
use Rattle.event_rules.proofs.Front.{one_long, size_front, sequence_front}
use Rattle.format_rules.specs.Format.{opening, closing, missed_of, recording}
use Rattle.format_rules.proofs.Facts.{OpeningSays, ClosingSays}
use Rattle.format_rules.proofs.Parts.{opening_says, closing_says}
use Rattle.reading_rules.specs.Parts.{opening_rows, header_rows, closing_rows}
use Rattle.reading_rules.specs.Account.{Head, Counts, Account, say, silence, fault_at, stretch, read_items, account_of}
use Rattle.reading_rules.proofs.Items.{items_closing, items_header}
use Rattle.reading_rules.proofs.Steps.{opening_whole, payload_all, closing_whole, after_none}
use Rattle.reading_rules.proofs.Passing.{opening_front, header_front, opening_passes, closing_passes, header_passes}
use Rattle.faultless.specs.Sound.{events_told, recording_told, SoundRecordings}

closing_read : (cpu at events last : ℕ) → events < 2 ^ 64 → last - events < 2 ^ 64
    → read_items cpu at events last (closing events (last - events)) ≡ say (Counts events (last - events)) silence
closing_read cpu at events last few less =
    let missed : ℕ = last - events in
    let bs : List ℕ = closing events missed in
    let says : ClosingSays events missed bs = closing_says events missed few less in
    items_closing cpu at events last bs (omega (arith, says.long)) (omega (arith, says.spare_is, number_split bs 0 4 4))
    ∙ closing_whole at bs events last (omega (arith, says.long))
    ∙ passes (fault_at at) _ (closing_rows events last bs) (closing_passes bs events last says)
    ∙ rw (says.handed_is, says.missed_is, after_none (at + 24) (drop 24 bs) (length-drop 24 bs ∙ omega (arith, says.long)))

-- an event in front
module _ (cpu at count last : ℕ) (event rest : List ℕ) (one : One cpu event) (above : last < sequence event) (fits : length event < 2 ^ 32) where
  abbrev bytes : List ℕ
  bytes = event ++ rest

  event_read : read_items cpu at count last bytes
      ≡ say (Head (take 32 event)) (stretch (at + 32) (length event - 32) (read_items cpu (at + length event) (count + 1) (sequence event) rest))
  event_read =
      let long : 32 ≤ length event = one_long cpu event one rest in
      let all : length bytes ≡ length event + length rest = length-append event rest in
      let size : event_size bytes ≡ length event = size_front cpu event one rest in
      let rows : Passes (header_rows cpu last bytes) = rw (header_front event rest cpu last long) (header_passes cpu last event one above (omega arith)) in
      let left : ℕ = length event - 32 in
      let behind : drop 32 bytes ≡ drop 32 event ++ rest = drop-append-le 32 event rest long in
      let payload : length (drop 32 event) ≡ left = length-drop 32 event in
      let gone : drop left (drop 32 event ++ rest) ≡ rest = drop_at (drop 32 event) rest left payload in
      let place : at + 32 + left ≡ at + length event = omega arith in
      let enough : left ≤ length (drop 32 event ++ rest) = omega (arith, length-append (drop 32 event) rest) in
      items_header cpu at count last bytes (omega arith) (λ (z : event_size bytes ≡ 0). omega arith)
      ∙ passes (fault_at at) _ (header_rows cpu last bytes) rows
      ∙ rw (size, sequence_front cpu event one rest, take-append-le 32 event rest long, behind, gone, place)
      (ap (say (Head (take 32 event))) (payload_all (at + 32) (drop 32 event ++ rest) left _ enough))

-- events in front of other bytes
events_read : (cpu at count last : ℕ) (events : List (List ℕ)) (rest : List ℕ) → Whole cpu last events → ((i : ℕ) → length (get_or events i []) < 2 ^ 32)
    → read_items cpu at count last (joined events ++ rest)
    ≡ events_told at events (read_items cpu (at + length (joined events)) (count + length events) (last_of sequence last events) rest)
unfolding joined events_told
events_read cpu at count last [] rest whole fit =
    let place : at ≡ at + 0 = omega arith in
    let number : count ≡ count + 0 = omega arith in
    ap₂ (λ (x y : ℕ). read_items cpu x y last rest) place number
events_read cpu at count last (e ∷ es) rest whole fit =
    let place : at + length e + length (joined es) ≡ at + length (e ++ joined es) = omega (arith, length-append e (joined es)) in
    let number : count + 1 + length es ≡ count + suc (length es) = omega arith in
    ap (read_items cpu at count last) (append_assoc e (joined es) rest)
    ∙ event_read cpu at count last e (joined es ++ rest) whole.0.0 whole.1.0 (fit 0)
    ∙ ap (λ (x : Account). say (Head (take 32 e)) (stretch (at + 32) (length e - 32) x))
    (events_read cpu (at + length e) (count + 1) (sequence e) es rest (whole.0.1, whole.1.1) (λ i. fit (suc i))
    ∙ ap (events_told (at + length e) es) (ap₂ (λ (x y : ℕ). read_items cpu x y (last_of sequence (sequence e) es) rest) place number))

opening_read : (cpu : ℕ) (rest : List ℕ) → cpu < 2 ^ 16 → account_of (opening cpu ++ rest) ≡ read_items cpu 8 0 0 rest
unfolding account_of
opening_read cpu rest small =
    let bs : List ℕ = opening cpu in
    let says : OpeningSays cpu bs = opening_says cpu small in
    let long : 8 ≤ length bs = omega (arith, says.long) in
    let rows : Passes (opening_rows (bs ++ rest)) = rw (opening_front bs rest long) (opening_passes bs cpu says) in
    opening_whole 0 (bs ++ rest) (omega (arith, length-append bs rest))
    ∙ passes (fault_at 0) _ (opening_rows (bs ++ rest)) rows
    ∙ rw (number_front bs rest 5 2 (omega arith), says.cpu_is, drop_at bs rest 8 says.long)

pub sound_recordings : SoundRecordings
unfolding recording recording_told
sound_recordings cpu events fit =
    let n : ℕ = length events in
    let last : ℕ = last_of sequence 0 events in
    let most : 0 + n ≤ last = rising_length sequence 0 events fit.rising in
    let end : List ℕ = closing n (missed_of events) in
    let none : 0 + n ≡ n = omega arith in
    ap account_of (append_assoc (opening cpu) (joined events) end)
    ∙ opening_read cpu (joined events ++ end) (omega (arith, fit.cpu_fits))
    ∙ events_read cpu 8 0 0 events end (fit.each, fit.rising) fit.sizes_fit
    ∙ ap (λ (k : ℕ). events_told 8 events (read_items cpu (8 + length (joined events)) k last end)) none
    ∙ ap (events_told 8 events)
    (closing_read cpu (8 + length (joined events)) n last (omega (arith, fit.last_fits)) (omega (arith, fit.last_fits)))
