-- The bytes up to the end of the part that a fault lies in decide all that is told. A part either stops at one of its rows, and then its own bytes decide
-- (`table_part`), or the fault lies further on, and then it is the same question for what is read behind the part (`behind`). Items go by induction on the bytes left.
use Prim.Native.Nat.{ℕ, zero, suc, ◌+◌, ◌-◌, ◌≤◌, ◌<◌}
use native.Mathlib.Nat.{not-suc-le-zero}
use native.Mathlib.Omega.{arith}
use mathlib.Core.Path.{◌≡◌, refl, sym, ap, ap₂, subst, ◌∙◌}
use mathlib.Core.Logic.{◌⊎◌, inl, inr, ⊎_elim}
use mathlib.Core.Bool.{Bool, true, false, cond}
use mathlib.Core.List.{List, [], ◌∷◌, ◌++◌, append-nil}
use lib.ListN.{length, take, drop, length-append, length-drop, take-append-drop}
use lib.Seq.{take-append-le, drop-append-le, drop-drop, length-take-le}
use lib.Dec.{eqb}
use borrow.Author.Tests.{eqb-true, eqb-false, ne_eqb}
use Rattle.std.specs.Prelude.{Option}
use Rattle.table_rules.specs.Table.{first}
use Rattle.table_rules.proofs.Facts.{Passes}
use Rattle.table_rules.proofs.Laws.{passes}
use Rattle.table_rules.proofs.Tests.{either}
use Rattle.word_rules.proofs.Reading.{number_front}
use Rattle.run_rules.proofs.Runs.{by_le}
use Rattle.event_rules.specs.Event.{event_size, sequence}
use Rattle.reading_rules.specs.Parts.{opening_cpu, closing_handed, closing_missed, opening_rows, header_rows, closing_rows}
use Rattle.reading_rules.specs.Account.{Told, Head, Stretch, Counts, Faulty, Account, say, fault_at, early, stretch, read_after, read_closing, read_payload, read_items, account_of}
use Rattle.reading_rules.specs.declared.Fault.{Fault}
use Rattle.reading_rules.specs.declared.Fault.TheVariants as fault
use Rattle.reading_rules.proofs.Cases.{by_test}
use Rattle.reading_rules.proofs.Items.{items_short, items_closing, items_cut, items_header}
use Rattle.reading_rules.proofs.Steps.{opening_short, opening_whole, payload_cut, payload_all, closing_short, closing_whole, after_none, after_some}
use Rattle.reading_rules.proofs.Passing.{opening_front, header_front, closing_front}
use Rattle.faultless.specs.Fault.{extent, FaultAlone}
use Rattle.faultless.proofs.Ends.{LastFault, nothing_left, last_fault}

-- ---- rows

-- each row's fault has this
abbrev All : (Fault → Type 0) → List (Bool × Fault) → Type 0
All Q [] = Unit {0}
All Q (row ∷ rows) = Q row.1 × All Q rows

-- a row stops the table, whatever would follow
record Stopped (Q : Fault → Type 0) (rows : List (Bool × Fault)) : Type 0 where
  kind : Fault
  has : Q kind
  stops : (f : Fault → Account) (next : Account) → first rows f next ≡ f kind

stopped_or_passed : (Q : Fault → Type 0) (rows : List (Bool × Fault)) → All Q rows → Stopped Q rows ⊎ Passes rows
unfolding first
stopped_or_passed Q [] all = inr tt
stopped_or_passed Q ((true, r) ∷ rows) all = inl (record { kind = r; has = all.0; stops = λ f next. refl })
stopped_or_passed Q ((false, r) ∷ rows) all =
    ⊎_elim (λ (s : Stopped Q rows). inl (record { kind = s.kind; has = s.has; stops = s.stops })) (λ (p : Passes rows). inr (refl, p))
    (stopped_or_passed Q rows all.1)

-- ---- one fault, wherever it is told

module _ (kind : Fault) (place : ℕ) where
  abbrev FaultOf : List Told → Type 0
  FaultOf [] = ⊥
  FaultOf (Head h ∷ rest) = FaultOf rest
  FaultOf (Stretch at size ∷ rest) = FaultOf rest
  FaultOf (Counts handed missed ∷ rest) = FaultOf rest
  FaultOf (Faulty k p ∷ rest) = (k ≡ kind) × (p ≡ place)

  abbrev Shows : Account → Type 0
  Shows x = FaultOf x.reports

  -- where the part ends
  abbrev end : ℕ
  end = place + extent kind place

  -- bytes from the place `at` on, where the fault lies at `least` or further on: those of them up to `end` decide what `read` tells
  record Part (at least : ℕ) (read : List ℕ → Account) (bs : List ℕ) : Type 0 where
    from : least ≤ place
    inside : end ≤ at + length bs
    alone : (front rest : List ℕ) → bs ≡ front ++ rest → at + length front ≡ end → (more : List ℕ) → read (front ++ more) ≡ read bs

  -- what is told of the `k` bytes in front is the same, and then comes what is read behind them
  behind : (at k there : ℕ) → there ≡ at + k → (f : Account → Account) (read next : List ℕ → Account) (bs : List ℕ) → k ≤ length bs
      → ((front rest : List ℕ) → bs ≡ front ++ rest → k ≤ length front → (more : List ℕ) → next (front ++ more) ≡ f (read (drop k front ++ more)))
      → Part there there read (drop k bs) → Part at there next bs
  behind at k there is f read next bs enough same part =
      record {
        from = part.from;
        inside = omega (arith, part.inside, length-drop k bs);
        alone =
            λ front rest split long more.
            let in_front : k ≤ length front = omega (arith, part.from) in
            let cut : drop k bs ≡ drop k front ++ rest = ap (drop k) split ∙ drop-append-le k front rest in_front in
            same front rest split in_front more
            ∙ ap f (part.alone (drop k front) rest cut (omega (arith, length-drop k front)) more ∙ ap read cut)
            ∙ sym (ap next split ∙ same front rest split in_front rest);
      }

  -- rows over the first `size` bytes, and then what is read further on
  table_part : (at size there : ℕ) (rows : List (Bool × Fault)) (read next : List ℕ → Account) (bs : List ℕ)
      → size ≤ length bs → at + size ≤ there → All (λ (k : Fault). extent k at ≡ size) rows
      → ((front rest : List ℕ) → bs ≡ front ++ rest → size ≤ length front → (more : List ℕ) → read (front ++ more) ≡ first rows (fault_at at) (next (front ++ more)))
      → (Shows (next bs) → Part at there next bs) → Shows (read bs) → Part at at read bs
  table_part at size there rows read next bs enough further sizes reads then shows = ⊎_elim stop pass (stopped_or_passed (λ (k : Fault). extent k at ≡ size) rows sizes)
    where
      own : read bs ≡ first rows (fault_at at) (next bs)
      own = rw append-nil at (reads bs [] (sym (append-nil bs)) enough [])

      stop : Stopped (λ (k : Fault). extent k at ≡ size) rows → Part at at read bs
      stop s =
          let is : read bs ≡ fault_at at s.kind = own ∙ s.stops (fault_at at) (next bs) in
          let found : (s.kind ≡ kind) × (at ≡ place) = subst Shows is shows in
          let long : extent kind place ≡ size = sym (ap₂ extent found.0 found.1) ∙ s.has in
          record {
            from = omega (arith, found.1);
            inside = omega (arith, found.1);
            alone =
                λ front rest split here more.
                reads front rest split (omega (arith, found.1)) more ∙ s.stops (fault_at at) (next (front ++ more)) ∙ sym is;
          }

      pass : Passes rows → Part at at read bs
      pass p =
          let is : read bs ≡ next bs = own ∙ passes (fault_at at) (next bs) rows p in
          let part : Part at there next bs = then (subst Shows is shows) in
          record {
            from = omega (arith, part.from);
            inside = part.inside;
            alone =
                λ front rest split here more.
                reads front rest split (omega (arith, part.from)) more
                ∙ passes (fault_at at) (next (front ++ more)) rows p
                ∙ part.alone front rest split here more
                ∙ sym is;
          }

  -- ---- the parts of a file

  after_part : (at : ℕ) (bs : List ℕ) → Shows (read_after at bs) → Part at at (read_after at) bs
  after_part at bs shows =
      by_le 1 (length bs)
      (λ some.
      let is : read_after at bs ≡ fault_at at fault.After = after_some at bs (λ (z : length bs ≡ 0). omega arith) in
      let found : (fault.After ≡ kind) × (at ≡ place) = subst Shows is shows in
      let long : extent kind place ≡ 1 = sym (ap (λ (k : Fault). extent k place) found.0) in
      record {
        from = omega (arith, found.1);
        inside = omega (arith, found.1);
        alone =
            λ front rest split here more.
            after_some at (front ++ more) (λ (z : length (front ++ more) ≡ 0). omega (arith, found.1, length-append front more)) ∙ sym is;
      })
      (λ few. absurd (subst Shows (after_none at bs (omega arith)) shows))

  module _ (at count last : ℕ) (begun : 8 ≤ at) where
    closing_part : (read : List ℕ → Account) (bs : List ℕ) → 24 ≤ length bs
        → ((front rest : List ℕ) → bs ≡ front ++ rest → 24 ≤ length front → (more : List ℕ) → read (front ++ more) ≡ read_closing at count last (front ++ more))
        → Shows (read bs) → Part at at read bs
    unfolding closing_rows
    closing_part read bs long reads =
        let counts : List ℕ → Told = λ cs. Counts (closing_handed cs) (closing_missed cs) in
        let next : List ℕ → Account = λ cs. say (counts cs) (read_after (at + 24) (drop 24 cs)) in
        let spare : extent fault.Spare at ≡ 24 = ap (λ (begins : Bool). cond begins 8 24) (ne_eqb at 0 (λ (z : at ≡ 0). omega arith)) in
        table_part at 24 (at + 24) (closing_rows count last bs) read next bs long (omega arith) (spare, (refl, tt))
        (λ front rest split here more.
        let same : closing_rows count last (front ++ more) ≡ closing_rows count last bs =
        closing_front front more count last here ∙ sym (ap (closing_rows count last) split ∙ closing_front front rest count last here) in
        reads front rest split here more
        ∙ closing_whole at (front ++ more) count last (omega (arith, length-append front more))
        ∙ ap (λ (rows : List (Bool × Fault)). first rows (fault_at at) (next (front ++ more))) same)
        (λ shown.
        behind at 24 (at + 24) refl (say (counts bs)) (read_after (at + 24)) next bs long
        (λ front rest split here more.
        ap₂ (λ (c : Told) (l : List ℕ). say c (read_after (at + 24) l))
        (ap₂ Counts
        (number_front front more 8 8 (omega arith) ∙ sym (ap closing_handed split ∙ number_front front rest 8 8 (omega arith)))
        (number_front front more 16 8 (omega arith) ∙ sym (ap closing_missed split ∙ number_front front rest 16 8 (omega arith))))
        (drop-append-le 24 front more here))
        (after_part (at + 24) (drop 24 bs) shown))

  -- a payload that is cut off shows no fault
  payload_shows : (at left : ℕ) (bs : List ℕ) (next : Account) → Shows (read_payload at left bs next) → (left ≤ length bs) × Shows next
  payload_shows at left bs next shows =
      by_le left (length bs)
      (λ all. (all, unstretched left next (subst Shows (payload_all at bs left next all) shows)))
      (λ few. absurd (unstretched (length bs) (early at bs) (subst Shows (payload_cut at bs left next few) shows)))
    where
      unstretched : (size : ℕ) (x : Account) → Shows (stretch at size x) → Shows x
      unstretched size x = by_test (λ (y : Account). Shows y → Shows x) (eqb size 0) (λ t s. s) (λ t s. s)

  module _ (cpu at count last : ℕ) (bs : List ℕ) (long : 32 ≤ length bs) (some : event_size bs ≡ 0 → ⊥) where
    abbrev left : ℕ
    left = event_size bs - 32

    -- what is read behind the event
    abbrev later : List ℕ → Account
    later = read_items cpu (at + 32 + left) (count + 1) (sequence bs)

    -- what is told of an event that begins these bytes, by its size and its sequence
    abbrev event : ℕ → ℕ → List ℕ → Account
    event size sequence cs =
        say (Head (take 32 cs))
        (read_payload (at + 32) (size - 32) (drop 32 cs) (read_items cpu (at + 32 + (size - 32)) (count + 1) sequence (drop (size - 32) (drop 32 cs))))

    module _ (front rest : List ℕ) (split : bs ≡ front ++ rest) (here : 32 ≤ length front) (more : List ℕ) where
      size_same : event_size (front ++ more) ≡ event_size bs
      size_same = number_front front more 0 4 (omega arith) ∙ sym (ap event_size split ∙ number_front front rest 0 4 (omega arith))

      sequence_same : sequence (front ++ more) ≡ sequence bs
      sequence_same = number_front front more 8 8 (omega arith) ∙ sym (ap sequence split ∙ number_front front rest 8 8 (omega arith))

      event_told : read_items cpu at count last (front ++ more) ≡ first (header_rows cpu last bs) (fault_at at) (event (event_size bs) (sequence bs) (front ++ more))
      event_told =
          let rows : header_rows cpu last (front ++ more) ≡ header_rows cpu last bs =
          header_front front more cpu last here ∙ sym (ap (header_rows cpu last) split ∙ header_front front rest cpu last here) in
          items_header cpu at count last (front ++ more) (omega (arith, length-append front more)) (λ (z : event_size (front ++ more) ≡ 0). some (sym size_same ∙ z))
          ∙ rw (rows, size_same, sequence_same)

      -- its payload is there too
      event_behind : 32 + left ≤ length front
          → event (event_size bs) (sequence bs) (front ++ more) ≡ say (Head (take 32 bs)) (stretch (at + 32) left (later (drop (32 + left) front ++ more)))
      event_behind all =
          let head : take 32 (front ++ more) ≡ take 32 bs = take-append-le 32 front more here ∙ sym (ap (take 32) split ∙ take-append-le 32 front rest here) in
          let payload : List ℕ = drop 32 front in
          let enough : left ≤ length payload = omega (arith, length-drop 32 front) in
          let gone : drop left (payload ++ more) ≡ drop (32 + left) front ++ more =
          drop-append-le left payload more enough ∙ ap (λ (l : List ℕ). l ++ more) (drop-drop left 32 front) in
          rw (head, drop-append-le 32 front more here)
          (ap (say (Head (take 32 bs)))
          (payload_all (at + 32) (payload ++ more) left (later (drop left (payload ++ more))) (omega (arith, length-append payload more))
          ∙ ap (λ (l : List ℕ). stretch (at + 32) left (later l)) gone))

    header_part : (Shows (later (drop (32 + left) bs)) → Part (at + 32 + left) (at + 32 + left) later (drop (32 + left) bs))
        → Shows (read_items cpu at count last bs) → Part at at (read_items cpu at count last) bs
    unfolding header_rows
    header_part again =
        let next : List ℕ → Account = event (event_size bs) (sequence bs) in
        let there : ℕ = at + 32 + left in
        let told : Account → Account = λ x. say (Head (take 32 bs)) (stretch (at + 32) left x) in
        table_part at 32 there (header_rows cpu last bs) (read_items cpu at count last) next bs long (omega arith) (refl, (refl, tt)) event_told
        (λ shown.
        let whole = payload_shows (at + 32) left (drop 32 bs) (later (drop left (drop 32 bs))) shown in
        let enough : 32 + left ≤ length bs = omega (arith, whole.0, length-drop 32 bs) in
        behind at (32 + left) there (omega arith) told later next bs enough
        (λ front rest split here more. event_behind front rest split (omega arith) more here)
        (again (subst (λ (l : List ℕ). Shows (later l)) (drop-drop left 32 bs) whole.1)))

  items_part : (fuel cpu at count last : ℕ) (bs : List ℕ) → length bs < fuel → 8 ≤ at → Shows (read_items cpu at count last bs)
      → Part at at (read_items cpu at count last) bs
  items_part zero cpu at count last bs h begun shows = absurd (not-suc-le-zero h)
  items_part (suc fuel) cpu at count last bs h begun shows =
      by_le 4 (length bs)
      (λ four.
      ⊎_elim
      (λ (t : eqb (event_size bs) 0 ≡ true).
      let z : event_size bs ≡ 0 = eqb-true (event_size bs) 0 t in
      let is : read_items cpu at count last bs ≡ read_closing at count last bs = items_closing cpu at count last bs four z in
      by_le 24 (length bs)
      (λ long.
      closing_part at count last begun (read_items cpu at count last) bs long
      (λ front rest split here more.
      let size : event_size (front ++ more) ≡ 0 =
      number_front front more 0 4 (omega arith) ∙ sym (ap event_size split ∙ number_front front rest 0 4 (omega arith)) ∙ z in
      items_closing cpu at count last (front ++ more) (omega (arith, length-append front more)) size)
      shows)
      (λ few. absurd (subst Shows (is ∙ closing_short at bs count last few) shows)))
      (λ (t : eqb (event_size bs) 0 ≡ false).
      let some : event_size bs ≡ 0 → ⊥ = eqb-false (event_size bs) 0 t in
      by_le 32 (length bs)
      (λ long.
      let size : ℕ = event_size bs - 32 in
      header_part cpu at count last bs long some
      (λ shown. items_part fuel cpu (at + 32 + size) (count + 1) (sequence bs) (drop (32 + size) bs) (simp length-drop (omega arith)) (omega arith) shown)
      shows)
      (λ short. absurd (subst Shows (items_cut cpu at count last bs four short some) shows)))
      (either (eqb (event_size bs) 0)))
      (λ few. absurd (subst Shows (items_short cpu at count last bs few) shows))

  file_part : (file : List ℕ) → Shows (account_of file) → Part 0 0 account_of file
  unfolding account_of opening_rows
  file_part file shows =
      by_le 8 (length file)
      (λ long.
      let next : List ℕ → Account = λ cs. read_items (opening_cpu cs) 8 0 0 (drop 8 cs) in
      table_part 0 8 8 (opening_rows file) account_of next file long (omega arith) (refl, (refl, (refl, tt)))
      (λ front rest split here more.
      let same : opening_rows (front ++ more) ≡ opening_rows file =
      opening_front front more here ∙ sym (ap opening_rows split ∙ opening_front front rest here) in
      opening_whole 0 (front ++ more) (omega (arith, length-append front more))
      ∙ ap (λ (rows : List (Bool × Fault)). first rows (fault_at 0) (next (front ++ more))) same)
      (λ shown.
      behind 0 8 8 refl (λ (x : Account). x) (read_items (opening_cpu file) 8 0 0) next file long
      (λ front rest split here more.
      ap₂ (λ (cpu : ℕ) (l : List ℕ). read_items cpu 8 0 0 l)
      (number_front front more 5 2 (omega arith) ∙ sym (ap opening_cpu split ∙ number_front front rest 5 2 (omega arith)))
      (drop-append-le 8 front more here))
      (items_part (suc (length (drop 8 file))) (opening_cpu file) 8 0 0 (drop 8 file) (omega arith) (omega arith) shown))
      shows)
      (λ few. absurd (subst Shows (opening_short 0 file few) shows))

  -- the fault that is among the reports is the first of them, since nothing is told behind a fault
  first_fault : (before rest : List Told) (ending : Option ℕ) → LastFault (before ++ (Faulty kind place ∷ rest)) ending → FaultOf (before ++ (Faulty kind place ∷ rest))
  first_fault [] rest ending last = (refl, refl)
  first_fault (Head h ∷ before) rest ending last = first_fault before rest ending last
  first_fault (Stretch at size ∷ before) rest ending last = first_fault before rest ending last
  first_fault (Counts handed missed ∷ before) rest ending last = first_fault before rest ending last
  first_fault (Faulty k p ∷ before) rest ending last = nothing_left before rest (Faulty kind place) last.0

pub fault_alone : FaultAlone
fault_alone file kind place told =
    let size : ℕ = place + extent kind place in
    let last : LastFault (told.before ++ (Faulty kind place ∷ told.behind)) (account_of file).end =
    subst (λ (reports : List Told). LastFault reports (account_of file).end) told.is (last_fault file) in
    let shows : Shows kind place (account_of file) =
    subst (FaultOf kind place) (sym told.is) (first_fault kind place told.before told.behind (account_of file).end last) in
    let part : Part kind place 0 0 account_of file = file_part kind place file shows in
    let there : size ≤ length file = omega (arith, part.inside) in
    record {
      there = there;
      alone = part.alone (take size file) (drop size file) (sym (take-append-drop size file)) (omega (arith, length-take-le size file there));
    }
