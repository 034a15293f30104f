-- Kept events as bytes: as long as they should be, whole, and passed by the walk as the ring without bytes passes them.
use Prim.Native.Nat.{ℕ, ◌+◌, ◌-◌, ◌^◌, ◌≤◌, ◌<◌}
use native.Mathlib.Omega.{arith}
use mathlib.Core.Path.{◌≡◌, refl, sym, ap, ap₂, ◌∙◌, subst}
use mathlib.Core.List.{List, [], ◌∷◌, ◌++◌, map}
use lib.ListN.{length, drop, length-map}
use lib.Seq.{drop_at}
use Rattle.event_rules.specs.Event.{sequence}
use Rattle.event_rules.specs.Run.{joined, Each}
use Rattle.event_rules.proofs.Facts.{Whole}
use Rattle.event_rules.specs.Walk.{Room, walk_from}
use Rattle.event_rules.proofs.Made.{made_length, made_says}
use Rattle.event_rules.proofs.Front.{made_one, length_joined, joined_append, joined_more}
use Rattle.event_rules.proofs.Walks.{walk_whole}
use Rattle.event_rules.proofs.Facts.{Fit, aimed, heading}
use Rattle.run_rules.specs.Runs.{Rising, last_of, first_of, total, latest, older}
use Rattle.history.specs.Ring.{sequence_of, Numbered, bytes}
use Rattle.run_rules.proofs.Runs.{older_latest, latest_map, older_map}
use Rattle.run_rules.proofs.Rising.{rising_length}
use Rattle.promise.specs.Bytes.{Event, size, encode}

pub map_append : {A B : Type 0} (f : A → B) (xs ys : List A) → map f (xs ++ ys) ≡ map f xs ++ map f ys
map_append f [] ys = refl
map_append {B = B} f (x ∷ xs) ys = ap (λ (l : List B). f x ∷ l) (map_append f xs ys)

module _ (cpu : ℕ) where
  pub encode_length : (x : Numbered Event) → length (encode cpu x) ≡ size x.event
  unfolding encode
  encode_length x = made_length cpu x.sequence x.event.timestamp x.event.type x.event.class x.event.payload

  -- so a size may be read off the bytes
  pub encode_lengths : (λ (x : Numbered Event). length (encode cpu x)) ≡ bytes size
  encode_lengths = λ i x. encode_length x i

  pub joined_length : (xs : List (Numbered Event)) → length (joined (map (encode cpu) xs)) ≡ total (bytes size) xs
  unfolding joined
  joined_length [] = refl
  joined_length (x ∷ xs) = omega (arith, length_joined (encode cpu x) (map (encode cpu) xs), encode_length x, joined_length xs)

  pub joined_both : (xs ys : List (Numbered Event))
      → joined (map (encode cpu) (xs ++ ys)) ≡ joined (map (encode cpu) xs) ++ joined (map (encode cpu) ys)
  joined_both xs ys = ap joined (map_append (encode cpu) xs ys) ∙ joined_append (map (encode cpu) xs) (map (encode cpu) ys)

  -- one event more
  pub joined_one : (xs : List (Numbered Event)) (x : Numbered Event) → joined (map (encode cpu) (xs ++ (x ∷ []))) ≡ joined (map (encode cpu) xs) ++ encode cpu x
  joined_one xs x = ap joined (map_append (encode cpu) xs (x ∷ [])) ∙ joined_more (map (encode cpu) xs) (encode cpu x)

  -- ---- whole events

  fit : cpu < 2 ^ 16 → (x : Numbered Event) → size x.event < 2 ^ 32 → x.sequence < 2 ^ 64
      → Fit (32 + length x.event.payload) (heading cpu x.sequence x.event.timestamp x.event.type x.event.class)
  fit narrow x small given = record {
    size_fits = small;
    cpu_fits = narrow;
    sequence_fits = given;
    timestamp_fits = x.event.timestamp_fits;
    type_fits = x.event.type_fits;
    class_fits = x.event.class_fits;
  }

  module _ (narrow : cpu < 2 ^ 16) where
    pub encode_sequence : (x : Numbered Event) → size x.event < 2 ^ 32 → x.sequence < 2 ^ 64 → sequence (encode cpu x) ≡ x.sequence
    unfolding encode
    encode_sequence x small given =
        (made_says cpu x.sequence x.event.timestamp x.event.type x.event.class x.event.payload (fit narrow x small given)).sequence_is

    pub encode_whole : (low : ℕ) (xs : List (Numbered Event)) → total (bytes size) xs < 2 ^ 32 → Rising sequence_of low xs → last_of sequence_of low xs < 2 ^ 64
        → Whole cpu low (map (encode cpu) xs) × (last_of sequence low (map (encode cpu) xs) ≡ last_of sequence_of low xs)
    unfolding encode
    encode_whole low [] small rise known = ((tt, tt), refl)
    encode_whole low (x ∷ xs) small rise known =
        let given : x.sequence < 2 ^ 64 = omega (arith, rising_length sequence_of x.sequence xs rise.1) in
        let rest = encode_whole x.sequence xs (omega arith) rise.1 known in
        let same : sequence (encode cpu x) ≡ x.sequence = encode_sequence x (omega arith) given in (
          (
            (
              made_one cpu x.sequence x.event.timestamp x.event.type x.event.class x.event.payload (fit narrow x (omega arith) given),
              rest.0.0,
            ),
            (omega (arith, rise.0), subst (λ (n : ℕ). Rising sequence n (map (encode cpu) xs)) (sym same) rest.0.1),
          ),
          ap (λ (n : ℕ). last_of sequence n (map (encode cpu) xs)) same ∙ rest.1,
        )

    pub encode_first : (xs : List (Numbered Event)) → total (bytes size) xs < 2 ^ 32 → Rising sequence_of 0 xs → last_of sequence_of 0 xs < 2 ^ 64
        → first_of sequence (map (encode cpu) xs) ≡ first_of sequence_of xs
    encode_first [] small rise known = refl
    encode_first (x ∷ xs) small rise known = encode_sequence x (omega arith) (omega (arith, rising_length sequence_of x.sequence xs rise.1))

  -- ---- the walk

  -- the events that go from the bytes are those that go from the list, and so are those that stay
  pub encode_older : (room : ℕ) (xs : List (Numbered Event)) → older length room (map (encode cpu) xs) ≡ map (encode cpu) (older (bytes size) room xs)
  encode_older room xs =
      older_map (encode cpu) length room xs
      ∙ ap (λ (f : Numbered Event → ℕ). map (encode cpu) (older f room xs)) encode_lengths

  pub encode_latest : (room : ℕ) (xs : List (Numbered Event))
      → latest length room (map (encode cpu) xs) ≡ map (encode cpu) (latest (bytes size) room xs)
  encode_latest room xs =
      latest_map (encode cpu) length room xs
      ∙ ap (λ (f : Numbered Event → ℕ). map (encode cpu) (latest f room xs)) encode_lengths

  module _ (capacity room : ℕ) (within : room ≤ capacity) (xs : List (Numbered Event)) where
    abbrev gone : List (Numbered Event)
    gone = older (bytes size) (capacity - room) xs

    abbrev rest : List (Numbered Event)
    rest = latest (bytes size) (capacity - room) xs

    -- what is left when these have gone
    pub drop_older : drop (total (bytes size) gone) (joined (map (encode cpu) xs)) ≡ joined (map (encode cpu) rest)
    drop_older =
        ap (λ (l : List (Numbered Event)). drop (total (bytes size) gone) (joined (map (encode cpu) l)))
        (older_latest (bytes size) (capacity - room) xs)
        ∙ ap (λ (l : List (List ℕ)). drop (total (bytes size) gone) (joined l)) (map_append (encode cpu) gone rest)
        ∙ ap (drop (total (bytes size) gone)) (joined_append (map (encode cpu) gone) (map (encode cpu) rest))
        ∙ drop_at (joined (map (encode cpu) gone)) (joined (map (encode cpu) rest)) (total (bytes size) gone) (joined_length gone)

    pub walk_older : Each cpu (map (encode cpu) xs) → (tail : ℕ)
        → walk_from (aimed cpu capacity room) (joined (map (encode cpu) xs)) tail 0 ≡ Room (tail + total (bytes size) gone) (length gone)
    walk_older each tail =
        let there : tail + length (joined (map (encode cpu) gone)) ≡ tail + total (bytes size) gone = ap (λ (n : ℕ). tail + n) (joined_length gone) in
        let passed : 0 + length (map (encode cpu) gone) ≡ length gone = omega (arith, length-map gone (encode cpu)) in
        walk_whole cpu capacity room within (map (encode cpu) xs) each tail 0
        ∙ ap (λ (l : List (List ℕ)). Room (tail + length (joined l)) (0 + length l)) (encode_older (capacity - room) xs)
        ∙ ap₂ Room there passed
