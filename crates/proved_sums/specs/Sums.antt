-- RULES 9.1: lines 1 to 10 of the sums, one table over the operations' definitions on bytes.
use Rattle.std.specs.Prelude.{ℕ, ◌+◌, ◌≤◌, Result, Ok}
use Rattle.table_rules.specs.declared.Refusal.{Refusal}
use mathlib.Core.{Path.◌≡◌, List.List, List.[], List.◌∷◌, List.◌++◌}
use lib.{ListN.length, ListN.take, ListN.drop}
use Rattle.page_rules.specs.{Page.page_of}
use Rattle.writer_rules.specs.{Writer.Numbers, declared.Writer.Writer}
use Rattle.create_rules.specs.{Create.after_create}
use Rattle.reader_rules.specs.{Reader.missed, Reader.reader_with, Attach.attached, Read.AfterRead, Read.read_out}
use Rattle.reader_rules.specs.{declared.Reader.Reader, declared.Reading.Reading}
use Rattle.reader_rules.specs.declared.Reading.TheVariants.{Empty as readingEmpty, Event as readingEvent}
use Rattle.run_rules.specs.{Runs.EndPart}
use Rattle.history.specs.{Ring.Done, Ring.Dropped}
use Rattle.promise.specs.{Bytes.Event, Bytes.encode, Bytes.Turn, Swaps.swap, Swaps.swapped}
use Rattle.comparison.specs.{Comparison.DemandBy3}
use Rattle.proved_sums.specs.{Lives.paid, Lives.lived, Lives.answers, Lives.Shows}

abbrev pub one : List ℕ
one = 32 ∷ 32 ∷ 32 ∷ 32 ∷ []

abbrev pub two : List ℕ
two = one ++ (0 ∷ [])

abbrev pub three : List ℕ
three = two ++ (96 ∷ [])

abbrev pub four : List ℕ
four = three ++ (96 ∷ [])

abbrev pub five : List ℕ
five = four ++ (97 ∷ [])

-- line 10's sizes 32, 32, 256, 256 less 32 bytes of header
abbrev pub ten : List ℕ
ten = 0 ∷ 0 ∷ 224 ∷ 224 ∷ []

abbrev pub counted : ℕ → ℕ → ℕ → Writer → Type 0
counted last dropped overwritten w = Numbers w last dropped overwritten

abbrev pub standing : ℕ → ℕ → ℕ → Reader
standing place last handed = reader_with place last handed 1

abbrev pub answering : Result Reading Refusal → Reader → List ℕ → AfterRead
answering answer reader out = record { answered = record { answer = answer; reader = reader }; out = out }

-- three reads one after the other, each with the record and the output buffer that the one before left: the answer, the record and every byte
pub record Reads (ring out six seven : List ℕ) : Type 0 where
  pub first : read_out ring (standing 0 0 0) out ≡ answering (Ok (readingEvent 128)) (standing 416 6 1) (six ++ drop 128 out)
  pub first_missed : missed (read_out ring (standing 0 0 0) out).answered.reader ≡ 5
  pub second : read_out ring (standing 416 6 1) (six ++ drop 128 out) ≡ answering (Ok (readingEvent 128)) (standing 544 7 2) (seven ++ drop 128 out)
  pub second_missed : missed (read_out ring (standing 416 6 1) (six ++ drop 128 out)).answered.reader ≡ 5
  pub third : read_out ring (standing 544 7 2) (seven ++ drop 128 out) ≡ answering (Ok readingEmpty) (standing 544 7 2) (seven ++ drop 128 out)

-- no premise on size
abbrev pub AnySize : ℕ → Event → Type 0
AnySize c e = Unit {0}

module _ (given : ℕ → Turn) where
  -- the bytes of the event that was given this sequence, with a payload of 96 bytes
  abbrev pub numbered_bytes : ℕ → List ℕ
  numbered_bytes n = encode 3 (record { sequence = n; event = paid 96 (given n).event })

  pub record Sums (buffer : ℕ → List ℕ) : Type 0 where
    -- four payloads of 32 fill the ring
    pub line1 : Shows (lived given buffer 256 one) 256 0 256 (1 ∷ 2 ∷ 3 ∷ 4 ∷ []) (counted 4 0 0)
    -- a payload of 0: one event goes
    pub line2 : Shows (lived given buffer 256 two) 256 64 288 (2 ∷ 3 ∷ 4 ∷ 5 ∷ []) (counted 5 0 1)
    -- a payload of 96: two more go
    pub line3 : Shows (lived given buffer 256 three) 256 192 416 (4 ∷ 5 ∷ 6 ∷ []) (counted 6 0 3)
    -- a payload of 96: two more go, and event 7 lies in two stretches
    pub line4 : Shows (lived given buffer 256 four) 256 288 544 (6 ∷ 7 ∷ []) (counted 7 0 5)
        × (take 96 (drop (8192 + 160) (lived given buffer 256 four).ring) ≡ take 96 (numbered_bytes 7))
        × (take 32 (drop 8192 (lived given buffer 256 four).ring) ≡ drop 96 (numbered_bytes 7))
    -- a payload of 97 is one byte too many: kept, dropped and overwritten make up last
    pub line5 : (answers given buffer 256 five ≡ Done ∷ Done ∷ Done ∷ Done ∷ Done ∷ Done ∷ Done ∷ Dropped ∷ [])
        × Shows (lived given buffer 256 five) 256 288 544 (6 ∷ 7 ∷ []) (counted (2 + 1 + 5) 1 5)
    -- three reads by a reader attached before line 1
    pub line6 : ((old : Reader) → attached (after_create 3 (buffer 256)) old ≡ record { answer = Ok tt; reader = standing 0 0 0 })
        × ((out : List ℕ) → 128 ≤ length out → Reads (lived given buffer 256 five).ring out (numbered_bytes 6) (numbered_bytes 7))
    -- a swap to 512: nothing is lost, and both rings show generation 2
    pub line7 : Shows (swapped (lived given buffer 256 five) (buffer 512)) 512 0 256 (6 ∷ 7 ∷ []) (counted 8 1 5)
        × ((page_of (swap (lived given buffer 256 five) (buffer 512)).new).generation ≡ 2)
        × ((page_of (swap (lived given buffer 256 five) (buffer 512)).old).generation ≡ 2)
    -- a ring of 512, sizes 32 and 256, a swap to 256: the second alone fits
    pub line8 : Shows (swapped (lived given buffer 512 (0 ∷ 224 ∷ [])) (buffer 256)) 256 0 256 (2 ∷ []) (counted 2 0 1)
    -- a ring of 1,024, one size of 512, a swap to 256: nothing fits
    pub line9 : Shows (swapped (lived given buffer 1024 (480 ∷ [])) (buffer 256)) 256 0 0 [] (counted 1 0 1)
    -- sizes 32, 32, 256, 256 into 256 and into 512: the third demand needs its premise on size
    pub line10 : Shows (lived given buffer 256 ten) 256 0 64 (1 ∷ 2 ∷ []) (counted 4 2 0)
        × Shows (lived given buffer 512 ten) 512 64 576 (3 ∷ 4 ∷ []) (counted 4 0 2)
        -- without it each emptying still ends with the longest run handed out, but the smaller's isn't always the end part of the larger's
        × DemandBy3 read_out AnySize (λ less more small large. Unit {0})
        × (DemandBy3 read_out AnySize (λ less more small large. EndPart less more) → ⊥)

-- for all of that, as long as each buffer has its length
abbrev pub AllSums : Type 0
AllSums = (given : ℕ → Turn) (buffer : ℕ → List ℕ) → ((capacity : ℕ) → length (buffer capacity) ≡ 8192 + capacity) → Sums given buffer
