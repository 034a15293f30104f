-- A file listened to in pieces of one size: everything that is told of it, by the rules of the listener (RULES 11.10), as one number.
use Rattle.std.specs.Prelude.{ℕ, zero, suc, ◌+◌, ◌%◌, ◌^◌, Option, Some, None}
use mathlib.Core.{Path.◌≡◌, Bool.cond, List.List, List.[], List.◌∷◌}
use lib.{ListN.length, ListN.take, ListN.drop, Dec.eqb}
use Rattle.event_rules.specs.{Event.sequence}
use Rattle.reading_rules.specs.{Parts.fault_number, Account.Told, Account.Head, Account.Stretch, Account.Counts, Account.Faulty}
use Rattle.serial_rules.specs.{Step.fresh_listener, Step.ended_listener, Feed.Fed, Feed.feed, Feed.feed_all, declared.Course.Course, declared.Listener.Listener, declared.Report.Report}
use Rattle.serial_rules.specs.declared.Report.TheVariants as report
use Rattle.bench_serial.specs.{declared.Hearing.Hearing}

abbrev pub number_of : Told → ℕ
number_of (Head header) = sequence header
number_of (Stretch at size) = at + size
number_of (Counts handed missed) = handed + missed
number_of (Faulty kind at) = fault_number kind + at

unfoldable pub sum_of : List Told → ℕ
sum_of [] = 0
sum_of (report ∷ reports) = number_of report + sum_of reports

abbrev pub end_number : Option ℕ → ℕ
end_number None = 0
end_number (Some size) = 8 + size

-- ---- a file in pieces

-- at most `fuel` of them; the last one is what is left
unfoldable pub cut_up_to : ℕ → ℕ → List ℕ → List (List ℕ)
cut_up_to zero size file = []
cut_up_to (suc fuel) size [] = []
cut_up_to (suc fuel) size (b ∷ bs) = take size (b ∷ bs) ∷ cut_up_to fuel size (drop size (b ∷ bs))

-- no size means the whole file
abbrev pub piece_size : ℕ → ℕ → ℕ
piece_size size all = cond (eqb size 0) all size

unfoldable pub in_pieces : ℕ → List ℕ → List (List ℕ)
in_pieces size file = cut_up_to (length file) (piece_size size (length file)) file

-- ---- the whole

abbrev pub summed : Fed → ℕ
summed fed = (sum_of fed.reports + end_number (ended_listener fed.listener)) % 2 ^ 64

unfoldable pub listened : ℕ → List ℕ → ℕ
listened size file = summed (feed_all fresh_listener (in_pieces size file))

-- ---- one piece, behind what makes `sum`

unfoldable pub heard : Listener → List ℕ → ℕ → Hearing
heard l piece sum =
    let fed = feed l piece in
    record { listener = fed.listener; sum = (sum + sum_of fed.reports) % 2 ^ 64 }

-- a listener that keeps nothing: `kept` is no part of a file
abbrev pub resting : Course → List ℕ → Listener
resting course kept = record { course = course; held = 0; kept = kept }

-- whatever bytes lie there: a piece heard behind one sum leaves what its rest leaves, heard from another course behind another sum
abbrev pub SameRest : Course → List ℕ → ℕ → Course → List ℕ → ℕ → Type 0
SameRest course piece sum onward rest total = (kept : List ℕ) → length kept ≡ 32 → heard (resting course kept) piece sum ≡ heard (resting onward kept) rest total

-- what a stride's report adds; a stride tells nothing else
abbrev pub stride_number : Report → List ℕ → ℕ
stride_number report.Nothing piece = 0
stride_number report.Head piece = sequence piece
stride_number report.KeptHead piece = 0
stride_number (report.Stretch at size) piece = at + size
stride_number (report.Counts handed missed) piece = 0
stride_number (report.Fault kind place) piece = 0
stride_number report.Refused piece = 0
