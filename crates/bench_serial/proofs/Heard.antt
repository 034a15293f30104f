-- A piece heard from where a step or a stride has come: feeding goes on there (`feed_on`), and the sum has what was told.
use Rattle.std.proofs.Common.{◌≡◌, ℕ, ◌+◌, ◌-◌, ◌%◌, ◌^◌, ◌<◌, ◌≤◌, Bool, true, false, cond, eqb, ltb, List, [], ◌∷◌, length, take, drop, sym, refl, ap, ◌∙◌}
use Rattle.std.proofs.Common.{⊎_elim, mod-lt, mod-eq_of_lt, arith, length-drop, take_all, drop-drop, le-leb}
use Rattle.reading_rules.specs.Account.{Told}
use Rattle.reading_rules.proofs.Cases.{by_test}
use Rattle.serial_rules.specs.Step.{arrived, possible_at, possible, refused_step, taking, strode, stepped}
use Rattle.serial_rules.specs.Feed.{told, Fed, feed}
use Rattle.serial_rules.specs.declared.Stage.{Stage}
use Rattle.serial_rules.specs.declared.Stage.TheVariants as stage
use Rattle.serial_rules.specs.declared.Report.TheVariants as report
use Rattle.serial_rules.specs.declared.Course.{Course}
use Rattle.serial_rules.specs.declared.Listener.{Listener}
use Rattle.serial_rules.specs.declared.Step.{Step}
use Rattle.serial_rules.specs.declared.Stride.{Stride}
use Rattle.serial_rules.proofs.Moves.{Moves, moves}
use Rattle.serial_rules.proofs.Strode.{stride_is_step}
use Rattle.serial_rules.proofs.Feeding.{before, feed_empty, feed_stuck, feed_on}
use Rattle.bench_serial.specs.Listened.{sum_of, heard, resting, SameRest, stride_number}
use Rattle.bench_serial.specs.declared.Hearing.{Hearing}
use Rattle.bench_serial.proofs.Numbers.{sum_append, wraps_on, drop_all, step_whole, Striding, striding}

abbrev hearing : ℕ → Fed → Hearing
hearing sum fed = record { listener = fed.listener; sum = (sum + sum_of fed.reports) % 2 ^ 64 }

abbrev left : Listener → ℕ → Hearing
left l sum = record { listener = l; sum = sum }

-- reports in front of what is fed are in the sum before it
hearing_before : (sum : ℕ) (reports : List Told) (fed : Fed) → hearing sum (before reports fed) ≡ hearing ((sum + sum_of reports % 2 ^ 64) % 2 ^ 64) fed
hearing_before sum reports fed =
    ap (λ (n : ℕ). left fed.listener ((sum + n) % 2 ^ 64)) (sum_append reports fed.reports)
    ∙ ap (left fed.listener) (sym (wraps_on sum (sum_of reports) (sum_of fed.reports)))

nothing_more : (l : Listener) (sum : ℕ) → sum < 2 ^ 64 → hearing sum (record { reports = []; listener = l }) ≡ left l sum
unfolding sum_of
nothing_more l sum fits =
    let all : sum + 0 ≡ sum = omega arith in
    ap (left l) (ap (λ (n : ℕ). n % 2 ^ 64) all ∙ mod-eq_of_lt fits)

pub heard_end : (l : Listener) (sum : ℕ) → sum < 2 ^ 64 → heard l [] sum ≡ left l sum
unfolding heard
heard_end l sum fits = ap (hearing sum) (feed_empty l [] refl) ∙ nothing_more l sum fits

module _ (l : Listener) (piece : List ℕ) (sum : ℕ) (long : length l.kept ≡ 32) where
  -- nothing is left, or a step is refused
  pub heard_stuck : sum < 2 ^ 64 → (stepped l piece).used ≡ 0 → heard l piece sum ≡ left l sum
  unfolding heard
  heard_stuck fits none = by piece refl
    where
      by : (bs : List ℕ) → piece ≡ bs → heard l piece sum ≡ left l sum
      by [] e = ap (λ (bs : List ℕ). heard l bs sum) e ∙ heard_end l sum fits
      by (b ∷ bs) e =
          ⊎_elim
          (λ (far : stepped l piece ≡ refused_step l). ap (hearing sum) (feed_stuck l piece far) ∙ nothing_more l sum fits)
          (λ (moved : Moves piece (stepped l piece)). absurd (omega (arith, moved.uses)))
          (moves l piece long (omega (arith, ap length e)))

  heard_on : 0 < length piece → 0 < (stepped l piece).used
      → heard l piece sum
      ≡ heard (stepped l piece).listener (drop (stepped l piece).used piece) ((sum + sum_of (told piece (stepped l piece)) % 2 ^ 64) % 2 ^ 64)
  unfolding heard
  heard_on some used =
      ⊎_elim
      (λ (e : stepped l piece ≡ refused_step l). absurd (omega (arith, ap (λ (s : Step). s.used) e)))
      (λ (moved : Moves piece (stepped l piece)).
      ap (hearing sum) (feed_on l piece long some moved)
      ∙ hearing_before sum (told piece (stepped l piece)) (feed (stepped l piece).listener (drop (stepped l piece).used piece)))
      (moves l piece long some)

  -- a step, whose report's number is added
  pub heard_step : 0 < length piece → (s : Step) (number total : ℕ) → s ≡ stepped l piece → 0 < s.used → number ≡ sum_of (told piece s) % 2 ^ 64
      → total ≡ (sum + number) % 2 ^ 64 → heard l piece sum ≡ heard s.listener (drop s.used piece) total
  heard_step some s number total is used told_is total-is =
      heard_on some (omega (arith, ap (λ (x : Step). x.used) is))
      ∙ ap (λ (x : Step). heard x.listener (drop x.used piece) ((sum + sum_of (told piece x) % 2 ^ 64) % 2 ^ 64)) (sym is)
      ∙ ap (heard s.listener (drop s.used piece)) (ap (λ (n : ℕ). (sum + n) % 2 ^ 64) (sym told_is) ∙ sym total-is)

pos : (n : ℕ) → (n ≡ 0 → ⊥) → 0 < n
pos n h = omega arith

-- a step uses no more than there is
step_none : (l : Listener) → (stepped l []).used ≡ 0
unfolding stepped
step_none l =
    let P : Step → Type 0 = λ s. s.used ≡ 0 in
    by_test P (possible l) (λ e. by_test P (ltb (2 ^ 62) (arrived l + 0)) (λ far. refl) (λ near. refl)) (λ e. refl)

step_within : (l : Listener) (piece : List ℕ) → length l.kept ≡ 32 → (stepped l piece).used ≤ length piece
step_within l [] long = omega (arith, step_none l)
step_within l (b ∷ bs) long =
    ⊎_elim
    (λ (far : stepped l (b ∷ bs) ≡ refused_step l). omega (arith, ap (λ (s : Step). s.used) far))
    (λ (moved : Moves (b ∷ bs) (stepped l (b ∷ bs))). moved.within)
    (moves l (b ∷ bs) long (omega arith))

kept_length : (l : Listener) (piece : List ℕ) → length l.kept ≡ 32 → length (stepped l piece).listener.kept ≡ 32
unfolding stepped
kept_length l [] long =
    let P : Step → Type 0 = λ s. length s.listener.kept ≡ 32 in
    by_test P (possible l) (λ e. by_test P (ltb (2 ^ 62) (arrived l + 0)) (λ far. long) (λ near. long)) (λ e. long)
kept_length l (b ∷ bs) long =
    ⊎_elim
    (λ (far : stepped l (b ∷ bs) ≡ refused_step l). ap (λ (s : Step). length s.listener.kept) far ∙ long)
    (λ (moved : Moves (b ∷ bs) (stepped l (b ∷ bs))). moved.kept_is)
    (moves l (b ∷ bs) long (omega arith))

-- the rest of a piece as it is lent
rest_is : (at : ℕ) (piece : List ℕ) → take (length piece - at) (drop at piece) ≡ drop at piece
rest_is at piece = take_all (length piece - at) (drop at piece) (omega (arith, length-drop at piece))

-- ---- what holds at each turn of the loop of steps: the rest heard now gives the whole's result

pub record Hears (l₀ : Listener) (piece : List ℕ) (sum₀ : ℕ) (l : Listener) (at sum : ℕ) : Type 0 where
  pub within : at ≤ length piece
  pub long : length l.kept ≡ 32
  pub fits : sum < 2 ^ 64
  pub same : heard l₀ piece sum₀ ≡ heard l (drop at piece) sum

pub hears_start : (l : Listener) (piece : List ℕ) (sum : ℕ) → length l.kept ≡ 32 → sum < 2 ^ 64 → Hears l piece sum l 0 sum
hears_start l piece sum long fits = record { within = omega arith; long = long; fits = fits; same = refl }

module _ (l₀ : Listener) (piece : List ℕ) (sum₀ : ℕ) (l : Listener) (at sum : ℕ) (hears : Hears l₀ piece sum₀ l at sum) where
  pub hears_end : length piece ≤ at → left l sum ≡ heard l₀ piece sum₀
  hears_end all =
      let none : drop at piece ≡ [] = drop_all at piece all in
      sym (hears.same ∙ ap (λ (bs : List ℕ). heard l bs sum) none ∙ heard_end l sum hears.fits)

  module _ (s : Step) (is : s ≡ stepped l (take (length piece - at) (drop at piece))) where
    step_is : s ≡ stepped l (drop at piece)
    step_is = is ∙ ap (stepped l) (rest_is at piece)

    pub hears_within : at + s.used ≤ length piece
    hears_within =
        omega (arith, ap (λ (x : Step). x.used) step_is, step_within l (drop at piece) hears.long, length-drop at piece, hears.within)

    pub hears_stuck : s.used ≡ 0 → left l sum ≡ heard l₀ piece sum₀
    hears_stuck none =
        sym (hears.same ∙ heard_stuck l (drop at piece) sum hears.long hears.fits (sym (ap (λ (x : Step). x.used) step_is) ∙ none))

    pub hears_whole : s.report ≡ report.Head → 32 ≤ length (take (length piece - at) (drop at piece))
    hears_whole e = step_whole l (take (length piece - at) (drop at piece)) (sym (ap (λ (x : Step). x.report) is) ∙ e)

    pub hears_on : (number total : ℕ) → (s.used ≡ 0 → ⊥) → number ≡ sum_of (told (take (length piece - at) (drop at piece)) s) % 2 ^ 64
        → total ≡ (sum + number) % 2 ^ 64 → Hears l₀ piece sum₀ s.listener (at + s.used) total
    hears_on number total uses number_is total-is =
        let some : 0 < length (drop at piece) =
        omega (arith, pos s.used uses, ap (λ (x : Step). x.used) step_is, step_within l (drop at piece) hears.long) in
        record {
          within = hears_within;
          long = step_kept;
          fits = omega (arith, mod-lt (sum + number) {m = 2 ^ 64} (omega arith));
          same =
              hears.same
              ∙ heard_step l (drop at piece) sum hears.long some s number total step_is (pos s.used uses)
              (number_is ∙ ap (λ (bs : List ℕ). sum_of (told bs s) % 2 ^ 64) (rest_is at piece)) total-is
              ∙ ap (λ (bs : List ℕ). heard s.listener bs total) (drop-drop s.used at piece);
        }
      where
        step_kept : length s.listener.kept ≡ 32
        step_kept = ap (λ (x : Step). length x.listener.kept) step_is ∙ kept_length l (drop at piece) hears.long

-- a listener that keeps nothing can be, where no sequence was below its number
resting_possible : (c : Course) (kept : List ℕ) → c.events ≤ c.last → possible (resting c kept) ≡ true
unfolding possible
resting_possible c kept rising = by c.stage
  where
    by : (g : Stage) → possible_at g (resting c kept) ≡ true
    by stage.Opening = refl
    by stage.Events = rw (le-leb c.events c.last rising) (awaits (eqb c.left 0))
      where
        awaits : (t : Bool) → cond t true true ≡ true
        awaits true = refl
        awaits false = refl
    by stage.After = refl
    by stage.Stopped = refl

-- a stride, whose report's number is added
pub heard_stride : (c : Course) (piece : List ℕ) (sum : ℕ) (s : Stride) (number total : ℕ) → c.events ≤ c.last → c.place + length piece ≤ 2 ^ 62
    → 0 < length piece → s ≡ strode c piece → 0 < s.used → number ≡ stride_number s.report piece % 2 ^ 64 → total ≡ (sum + number) % 2 ^ 64
    → (kept : List ℕ) → length kept ≡ 32 → heard (resting c kept) piece sum ≡ heard (resting s.course kept) (drop s.used piece) total
heard_stride c piece sum s number total rising near some is used number_is total-is kept long =
    let known : Striding c piece s = mathlib.Core.Path.subst (Striding c piece) (sym is) (striding c piece rising) in
    let step_is : stepped (resting c kept) piece ≡ taking 0 kept s =
    stride_is_step (resting c kept) piece refl (resting_possible c kept rising) (omega arith) some (omega (arith, ap (λ (x : Stride). x.used) is))
    ∙ ap (taking 0 kept) (sym is) in
    let all : s.used - 0 ≡ s.used = omega arith in
    heard_step (resting c kept) piece sum long some (taking 0 kept s) number total (sym step_is) (omega arith)
    (number_is ∙ ap (λ (n : ℕ). n % 2 ^ 64) (known.number_is kept)) total-is
    ∙ ap (λ (n : ℕ). heard (resting s.course kept) (drop n piece) total) all

-- ---- what holds at each turn of the loop of strides

pub record Runs (c₀ : Course) (piece : List ℕ) (from sum₀ : ℕ) (c : Course) (at sum : ℕ) : Type 0 where
  pub onward : from ≤ at
  pub within : at ≤ length piece
  pub rising : c.events ≤ c.last
  pub near : c.place + (length piece - at) ≤ 2 ^ 62
  pub same : SameRest c₀ (drop from piece) sum₀ c (drop at piece) sum

pub runs_start : (c : Course) (piece : List ℕ) (from sum : ℕ) → from ≤ length piece → c.events ≤ c.last → c.place + (length piece - from) ≤ 2 ^ 62
    → Runs c piece from sum c from sum
runs_start c piece from sum within rising near = record { onward = omega arith; within = within; rising = rising; near = near; same = λ kept long. refl }

module _ (c₀ : Course) (piece : List ℕ) (from sum₀ : ℕ) (c : Course) (at sum : ℕ) (runs : Runs c₀ piece from sum₀ c at sum) where
  pub runs_near : c.place + length (take (length piece - at) (drop at piece)) ≤ 2 ^ 62
  runs_near = rw (rest_is at piece) (omega (arith, runs.near, length-drop at piece))

  module _ (s : Stride) (is : s ≡ strode c (take (length piece - at) (drop at piece))) where
    stride_known : Striding c (drop at piece) s
    stride_known =
        mathlib.Core.Path.subst (Striding c (drop at piece)) (sym (is ∙ ap (strode c) (rest_is at piece))) (striding c (drop at piece) runs.rising)

    pub runs_within : at + s.used ≤ length piece
    runs_within = omega (arith, stride_known.within, length-drop at piece, runs.within)

    pub runs_whole : s.report ≡ report.Head → 32 ≤ length (take (length piece - at) (drop at piece))
    runs_whole e = rw (rest_is at piece) (stride_known.whole e)

    pub runs_on : (number total : ℕ) → at < length piece → (s.used ≡ 0 → ⊥)
        → number ≡ stride_number s.report (take (length piece - at) (drop at piece)) % 2 ^ 64 → total ≡ (sum + number) % 2 ^ 64
        → Runs c₀ piece from sum₀ s.course (at + s.used) total
    runs_on number total more uses number_is total-is =
        let size : length (drop at piece) ≡ length piece - at = length-drop at piece in
        let within : at + s.used ≤ length piece = runs_within in
        record {
          onward = omega (arith, runs.onward);
          within = within;
          rising = stride_known.rising;
          near = omega (arith, stride_known.place_is, runs.near);
          same =
              λ kept long.
              runs.same kept long
              ∙ heard_stride c (drop at piece) sum s number total runs.rising (omega (arith, runs.near)) (omega arith) (is ∙ ap (strode c) (rest_is at piece))
              (pos s.used uses) (number_is ∙ ap (λ (bs : List ℕ). stride_number s.report bs % 2 ^ 64) (rest_is at piece)) total-is kept long
              ∙ ap (λ (bs : List ℕ). heard (resting s.course kept) bs total) (drop-drop s.used at piece);
        }
