-- Numbers of reports. A header is told where it stands only if the piece holds it, by the tests of a step and of a stride; sums go on modulo 2^64.
use Rattle.std.proofs.Common.{◌≡◌, ℕ, ◌+◌, ◌%◌, ◌^◌, ◌<◌, ◌≤◌, min, ◌&&◌, eqb, ltb, leb, List, [], ◌∷◌, ◌++◌, length, take, drop, sym, refl, ap, ◌∙◌, mod-eq_of_lt, arith, length-drop, leb-true}
use native.Mathlib.Nat.{mod-add-mod, add-mod-mod}
use Rattle.table_rules.proofs.Laws.{answers}
use Rattle.word_rules.proofs.Reading.{number_take}
use Rattle.event_rules.specs.Event.{event_size, sequence}
use Rattle.reading_rules.specs.Account.{Told}
use Rattle.reading_rules.specs.Parts.{fault_number, opening_rows, header_rows, closing_rows}
use Rattle.reading_rules.specs.declared.Fault.{Fault}
use Rattle.reading_rules.proofs.Cases.{by_test, both}
use Rattle.serial_rules.specs.Step.{arrived, awaited, possible, gathered, faulted, staying, opening_stride, header_stride, closing_stride, item_stride, payload_stride}
use Rattle.serial_rules.specs.Step.{among, goes_on, strode, step_opening, step_gathered, step_item, step_at, stepped}
use Rattle.serial_rules.specs.Feed.{told_by}
use Rattle.serial_rules.specs.declared.Stage.{Stage}
use Rattle.serial_rules.specs.declared.Stage.TheVariants as stage
use Rattle.serial_rules.specs.declared.Report.{Report}
use Rattle.serial_rules.specs.declared.Report.TheVariants as report
use Rattle.serial_rules.specs.declared.Course.{Course}
use Rattle.serial_rules.specs.declared.Listener.{Listener}
use Rattle.serial_rules.specs.declared.Stride.{Stride}
use Rattle.serial_rules.specs.declared.Step.{Step}
use Rattle.serial_rules.proofs.Strode.{onward}
use Rattle.bench_serial.specs.Listened.{sum_of, stride_number}

-- ---- sums, and a list's end

pub drop_all : (n : ℕ) (bs : List ℕ) → length bs ≤ n → drop n bs ≡ []
drop_all n bs h = by (drop n bs) (omega (arith, length-drop n bs))
  where
    by : (xs : List ℕ) → length xs ≡ 0 → xs ≡ []
    by [] e = refl
    by (x ∷ xs) e = absurd (omega arith)

pub sum_append : (xs ys : List Told) → sum_of (xs ++ ys) ≡ sum_of xs + sum_of ys
unfolding sum_of
sum_append [] ys = omega arith
sum_append (x ∷ xs) ys =
    let later : sum_of (xs ++ ys) ≡ sum_of xs + sum_of ys = sum_append xs ys in
    omega arith

-- a number that is added and cut to 64 bits, and then others
pub wraps_on : (sum a b : ℕ) → ((sum + a % 2 ^ 64) % 2 ^ 64 + b) % 2 ^ 64 ≡ (sum + (a + b)) % 2 ^ 64
wraps_on sum a b =
    mod-add-mod (sum + a % 2 ^ 64) (2 ^ 64) b
    ∙ ap (λ (n : ℕ). n % 2 ^ 64) (regroup sum (a % 2 ^ 64) b)
    ∙ add-mod-mod (sum + b) a (2 ^ 64)
    ∙ ap (λ (n : ℕ). n % 2 ^ 64) (regroup' sum a b)
  where
    regroup : (x y z : ℕ) → x + y + z ≡ x + z + y
    regroup x y z = omega arith

    regroup' : (x y z : ℕ) → x + z + y ≡ x + (y + z)
    regroup' x y z = omega arith

-- ---- the number of one report, as it is matched

module _ (r : Report) (piece kept : List ℕ) (n : ℕ) where
  abbrev Is : Type 0
  Is = n ≡ sum_of (told_by r piece kept) % 2 ^ 64

  matched : (q : Report) → r ≡ q → n ≡ sum_of (told_by q piece kept) % 2 ^ 64 → Is
  matched q e is = is ∙ ap (λ (x : Report). sum_of (told_by x piece kept) % 2 ^ 64) (sym e)

  pub nothing_number : r ≡ report.Nothing → n ≡ 0 → Is
  unfolding sum_of
  nothing_number e is = matched report.Nothing e is

  pub refused_number : r ≡ report.Refused → n ≡ 0 → Is
  unfolding sum_of
  refused_number e is = matched report.Refused e is

  one : (q : Report) (m : ℕ) → sum_of (told_by q piece kept) ≡ m + 0 → r ≡ q → n ≡ m % 2 ^ 64 → Is
  one q m made e is =
      let same : sum_of (told_by q piece kept) ≡ m = omega arith in
      matched q e (is ∙ ap (λ (x : ℕ). x % 2 ^ 64) (sym same))

  pub head_number : r ≡ report.Head → n < 2 ^ 64 → n ≡ sequence piece → Is
  unfolding sum_of
  head_number e fits is =
      one report.Head (sequence (take 32 piece)) refl e
      (sym (mod-eq_of_lt fits) ∙ ap (λ (x : ℕ). x % 2 ^ 64) (is ∙ sym (number_take piece 32 8 8 (omega arith))))

  pub kept_number : r ≡ report.KeptHead → n < 2 ^ 64 → n ≡ sequence kept → Is
  unfolding sum_of
  kept_number e fits is = one report.KeptHead (sequence kept) refl e (sym (mod-eq_of_lt fits) ∙ ap (λ (x : ℕ). x % 2 ^ 64) is)

  pub stretch_number : (at size : ℕ) → r ≡ report.Stretch at size → n ≡ (at + size) % 2 ^ 64 → Is
  unfolding sum_of
  stretch_number at size e is = one (report.Stretch at size) (at + size) refl e is

  pub counts_number : (handed missed : ℕ) → r ≡ report.Counts handed missed → n ≡ (handed + missed) % 2 ^ 64 → Is
  unfolding sum_of
  counts_number handed missed e is = one (report.Counts handed missed) (handed + missed) refl e is

  pub fault_number_lem : (kind : Fault) (place : ℕ) → r ≡ report.Fault kind place → n ≡ (fault_number kind + place) % 2 ^ 64 → Is
  unfolding sum_of
  fault_number_lem kind place e is = one (report.Fault kind place) (fault_number kind + place) refl e is

-- ---- a header that is told where it stands

abbrev Whole : List ℕ → Report → Type 0
Whole piece r = r ≡ report.Head → 32 ≤ length piece

nothing_whole : (piece : List ℕ) → Whole piece report.Nothing
nothing_whole piece e = let z : ◌≡◌ {A = ℕ} 0 1 = cc in omega arith

refused_whole : (piece : List ℕ) → Whole piece report.Refused
refused_whole piece e = let z : ◌≡◌ {A = ℕ} 0 1 = cc in omega arith

kept_whole : (piece : List ℕ) → Whole piece report.KeptHead
kept_whole piece e = let z : ◌≡◌ {A = ℕ} 0 1 = cc in omega arith

stretch_whole : (piece : List ℕ) (at n : ℕ) → Whole piece (report.Stretch at n)
stretch_whole piece at n e = let z : ◌≡◌ {A = ℕ} 0 1 = cc in omega arith

counts_whole : (piece : List ℕ) (h m : ℕ) → Whole piece (report.Counts h m)
counts_whole piece h m e = let z : ◌≡◌ {A = ℕ} 0 1 = cc in omega arith

fault_whole : (piece : List ℕ) (k : Fault) (at : ℕ) → Whole piece (report.Fault k at)
fault_whole piece k at e = let z : ◌≡◌ {A = ℕ} 0 1 = cc in omega arith

item_whole : (piece : List ℕ) (head : Report) (c : Course) (bs : List ℕ) → Whole piece head → Whole piece (item_stride head c bs).report
unfolding item_stride closing_stride header_stride
item_whole piece head c bs whole =
    let P : Stride → Type 0 = λ s. Whole piece s.report in
    by_test P (eqb (event_size bs) 0)
    (λ z. answers P (faulted c 24) _ (λ k. fault_whole piece k c.place) (counts_whole piece _ _) (closing_rows c.events c.last bs))
    (λ z. answers P (faulted c 32) _ (λ k. fault_whole piece k c.place) whole (header_rows c.cpu_id c.last bs))

step_whole_at : (g : Stage) (l : Listener) (piece : List ℕ) → Whole piece (step_at g l piece).report
unfolding step_opening step_gathered step_item opening_stride payload_stride
step_whole_at stage.Opening l piece =
    by_test (λ (s : Step). Whole piece s.report) (ltb (l.held + length piece) 8) (λ e. nothing_whole piece)
    (λ e.
    answers (λ (s : Stride). Whole piece s.report) (faulted l.course 8) _ (λ k. fault_whole piece k l.course.place) (nothing_whole piece)
    (opening_rows (gathered l piece)))
step_whole_at stage.Events l piece =
    let P : Step → Type 0 = λ s. Whole piece s.report in
    let bs : List ℕ = gathered l piece in
    by_test P (eqb l.course.left 0)
    (λ e. by_test P (eqb l.held 0 && leb 32 (length piece))
    (λ d. item_whole piece report.Head l.course piece (λ h. leb-true 32 (length piece) (both (eqb l.held 0) (leb 32 (length piece)) d).1))
    (λ d. by_test P (ltb (l.held + length piece) (awaited (l.held + length piece) bs)) (λ t. nothing_whole piece)
    (λ t. item_whole piece report.KeptHead l.course bs (kept_whole piece))))
    (λ e. stretch_whole piece l.course.place (min l.course.left (length piece)))
step_whole_at stage.After l piece = fault_whole piece Rattle.reading_rules.specs.declared.Fault.TheVariants.After l.course.place
step_whole_at stage.Stopped l piece = nothing_whole piece

pub step_whole : (l : Listener) (piece : List ℕ) → (stepped l piece).report ≡ report.Head → 32 ≤ length piece
unfolding stepped
step_whole l piece =
    let P : Step → Type 0 = λ s. Whole piece s.report in
    by_test P (possible l)
    (λ can. by_test P (ltb (2 ^ 62) (arrived l + length piece)) (λ t. refused_whole piece)
    (λ t. by_test P (eqb (length piece) 0) (λ z. nothing_whole piece) (λ z. step_whole_at l.course.stage l piece)))
    (λ can. nothing_whole piece)

-- ---- a stride

-- what is known of a stride
pub record Striding (c : Course) (piece : List ℕ) (s : Stride) : Type 0 where
  pub number_is : (kept : List ℕ) → stride_number s.report piece ≡ sum_of (told_by s.report piece kept)
  pub whole : s.report ≡ report.Head → 32 ≤ length piece
  pub rising : s.course.events ≤ s.course.last
  pub place_is : s.course.place ≡ c.place + s.used
  pub within : s.used ≤ length piece

pub striding : (c : Course) (piece : List ℕ) → c.events ≤ c.last → Striding c piece (strode c piece)
unfolding strode payload_stride sum_of
striding c piece rising =
    let stays : Striding c piece (staying c) =
    record { number_is = λ kept. refl; whole = nothing_whole piece; rising = rising; place_is = omega arith; within = omega arith } in
    by_test (Striding c piece) (among c.stage)
    (λ t. by_test (Striding c piece) (eqb c.left 0)
    (λ z. by_test (Striding c piece) (goes_on c piece)
    (λ on.
    let known = onward c piece on in
    record {
      number_is = λ kept. let front : sequence (take 32 piece) ≡ sequence piece = number_take piece 32 8 8 (omega arith) in omega arith;
      whole = λ e. known.long;
      rising = omega (arith, known.above);
      place_is = refl;
      within = known.long;
    })
    (λ off. stays))
    (λ z.
    record {
      number_is = λ kept. omega arith;
      whole = stretch_whole piece c.place (min c.left (length piece));
      rising = rising;
      place_is = refl;
      within = omega arith;
    }))
    (λ t. stays)
