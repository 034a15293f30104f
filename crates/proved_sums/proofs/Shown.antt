-- What bytes and a record that hold a ring show: the page's numbers as they stand, and the events as inspection walks over them (`walked_kept`).
use Prim.Native.Nat.{ℕ, ◌^◌, ◌<◌}
use native.Mathlib.Omega.{arith}
use mathlib.Core.Path.{◌≡◌, refl, sym, ap, ap₂, ◌∙◌}
use mathlib.Core.List.{List, [], ◌∷◌, map}
use lib.ListN.{length-map}
use Rattle.std.specs.Prelude.{Ok}
use Rattle.event_rules.specs.Event.{sequence}
use Rattle.run_rules.specs.Runs.{Rising, last_of, first_of, total}
use Rattle.history.specs.Ring.{sequence_of, Numbered, Ring, bytes, write}
use Rattle.run_rules.proofs.Rising.{rising_length}
use Rattle.promise.specs.Bytes.{Event, size, encode, State}
use Rattle.promise.specs.Holds.{Holds}
use Rattle.promise.proofs.Encoding.{encode_sequence}
use Rattle.promise.proofs.Holds.{holds_range, walked_kept, holds_inspected}
use Rattle.proved_sums.specs.Lives.{summary_of, Shows}
use Rattle.proved_sums.specs.Sums.{counted}

abbrev pub numbers : List (Numbered Event) → List ℕ
numbers kept = map (λ (x : Numbered Event). x.sequence) kept

-- what a ring without bytes counts
abbrev pub Counting : Ring Event → ℕ → ℕ → ℕ → Type 0
Counting ring last dropped overwritten = (ring.last ≡ last) × ((ring.dropped ≡ dropped) × (ring.overwritten ≡ overwritten))

oldest_number : (xs : List (Numbered Event)) → first_of sequence_of xs ≡ first_of (λ (n : ℕ). n) (numbers xs)
oldest_number [] = refl
oldest_number (x ∷ xs) = refl

newest_number : (low : ℕ) (xs : List (Numbered Event)) → last_of sequence_of low xs ≡ last_of (λ (n : ℕ). n) low (numbers xs)
newest_number low [] = refl
newest_number low (x ∷ xs) = newest_number x.sequence xs

-- the sequences stand in the bytes
sequences : (cpu : ℕ) → cpu < 2 ^ 16 → (low : ℕ) (xs : List (Numbered Event)) → total (bytes size) xs < 2 ^ 32
    → Rising sequence_of low xs → last_of sequence_of low xs < 2 ^ 64
    → map sequence (map (encode cpu) xs) ≡ numbers xs
sequences cpu narrow low [] small rise known = refl
sequences cpu narrow low (x ∷ xs) small rise known =
    ap₂ (λ (n : ℕ) (l : List ℕ). n ∷ l)
    (encode_sequence cpu narrow x (omega arith) (omega (arith, rising_length sequence_of x.sequence xs rise.1)))
    (sequences cpu narrow x.sequence xs (omega arith) rise.1 known)

-- so a line of the table is a fact on the ring without bytes
module _ (capacity : ℕ) (s : State) (ring : Ring Event) (h : Holds 3 capacity s.ring s.writer ring) where
  pub shows : {tail far last dropped overwritten : ℕ} {kept : List ℕ} → ring.tail ≡ tail → write size ring ≡ far → numbers ring.kept ≡ kept
      → Counting ring last dropped overwritten
      → Shows s capacity tail far kept (counted last dropped overwritten)
  shows at to are counts = record {
    cpu_is = h.named;
    capacity_is = h.sized;
    tail_is = h.tail_is ∙ at;
    write_is = h.write_is ∙ to;
    inspection = holds_inspected 3 capacity s.ring s.writer ring h
        ∙ (λ i. Ok (record {
          count = sym (length-map ring.kept (λ (x : Numbered Event). x.sequence)) i;
          first = oldest_number ring.kept i;
          last = newest_number 0 ring.kept i;
        }))
        ∙ ap (λ (l : List ℕ). Ok (summary_of l)) are;
    kept_are = ap (map sequence) (walked_kept 3 capacity s.ring s.writer ring h)
        ∙ sequences 3 h.narrow 0 ring.kept (omega (arith, h.holding.fits, holds_range 3 capacity s.ring s.writer ring h)) h.holding.rising
        (omega (arith, h.holding.known, h.holding.spendable))
        ∙ are;
    counts_are =
        record { last_is = h.last_is ∙ counts.0; dropped_is = h.dropped_is ∙ counts.1.0; overwritten_is = h.overwritten_is ∙ counts.1.1 };
  }
