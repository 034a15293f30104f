-- Writing the same bytes to the same places makes two lists of one length differ nowhere else: byte by byte, then by induction.
use Prim.Native.Nat.{ℕ, zero, suc, ◌+◌, ◌%◌, ◌^◌}
use native.Mathlib.Omega.{arith}
use mathlib.Core.Path.{◌≡◌, refl, sym, ◌∙◌}
use mathlib.Core.Logic.{inl, inr}
use mathlib.Core.List.{List, [], ◌∷◌}
use lib.ListN.{length, get_or, set, length-set}
use Rattle.table_rules.proofs.Laws.{cond_both}
use Rattle.word_rules.specs.Number.{number, byte_of, put}
use Rattle.word_rules.specs.Fields.{Field, put_all}
use Rattle.word_rules.proofs.Reading.{number_same, number_one}
use Rattle.page_rules.specs.Wake.{wakes, raised, notified}
use Rattle.region_rules.specs.Region.{place, store_at}
use Rattle.looked_at.specs.LookedAt.{Agree, AgreeStill}

pub unwritten : (s t : List ℕ) → AgreeStill s t s t
unwritten s t = record { long = refl; long' = refl; bytes = λ i e. e }

module _ {s t s' t' : List ℕ} (a : AgreeStill s t s' t') where
  pub and_then : {s'' t'' : List ℕ} → AgreeStill s' t' s'' t'' → AgreeStill s t s'' t''
  and_then b = record { long = b.long ∙ a.long; long' = b.long' ∙ a.long'; bytes = λ i e. b.bytes i (a.bytes i e) }

  pub as_long : length t ≡ length s → length t' ≡ length s'
  as_long e = a.long' ∙ e ∙ sym a.long

  pub agree_still : Agree s t → Agree s' t'
  agree_still g = record { long = as_long g.long; bytes = λ i counts. a.bytes i (g.bytes i counts) }

-- ---- one write

set_byte : (s t : List ℕ) (at v : ℕ) → length t ≡ length s
    → (i : ℕ) → get_or t i 0 ≡ get_or s i 0 → get_or (set t at v) i 0 ≡ get_or (set s at v) i 0
set_byte [] [] at v long i e = e
set_byte [] (y ∷ t) at v long i e = absurd (omega arith)
set_byte (x ∷ s) [] at v long i e = absurd (omega arith)
set_byte (x ∷ s) (y ∷ t) zero v long zero e = refl
set_byte (x ∷ s) (y ∷ t) zero v long (suc i) e = e
set_byte (x ∷ s) (y ∷ t) (suc at) v long zero e = e
set_byte (x ∷ s) (y ∷ t) (suc at) v long (suc i) e = set_byte s t at v (omega arith) i e

set_still : (s t : List ℕ) (at v : ℕ) → length t ≡ length s → AgreeStill s t (set s at v) (set t at v)
set_still s t at v long = record { long = length-set s at v; long' = length-set t at v; bytes = set_byte s t at v long }

-- ---- several

pub put_still : (s t : List ℕ) (at n v : ℕ) → length t ≡ length s → AgreeStill s t (put s at n v) (put t at n v)
unfolding put
put_still s t at zero v long = unwritten s t
put_still s t at (suc n) v long =
    let lower = put_still s t at n v long in
    and_then lower (set_still (put s at n v) (put t at n v) (at + n) (byte_of v n) (as_long lower long))

pub all_still : (s t : List ℕ) (fs : List Field) → length t ≡ length s → AgreeStill s t (put_all s fs) (put_all t fs)
unfolding put_all
all_still s t [] long = unwritten s t
all_still s t (f ∷ fs) long =
    let one = put_still s t f.offset f.size f.content long in
    and_then one (all_still (put s f.offset f.size f.content) (put t f.offset f.size f.content) fs (as_long one long))

pub store_still : (s t : List ℕ) (c p : ℕ) (vs : List ℕ) → length t ≡ length s → AgreeStill s t (store_at s c p vs) (store_at t c p vs)
unfolding store_at
store_still s t c p [] long = unwritten s t
store_still s t c p (v ∷ vs) long =
    let one = set_still s t (place c p) v long in
    and_then one (store_still (set s (place c p) v) (set t (place c p) v) c (suc p) vs (as_long one long))

-- ---- the wake, by the flag and the counter

module _ {s t : List ℕ} (g : Agree s t) where
  pub flag_same : number t 4096 1 ≡ number s 4096 1
  flag_same = number_one t 4096 ∙ g.bytes 4096 (inr (inl (omega arith))) ∙ sym (number_one s 4096)

  counter_same : number t 128 4 ≡ number s 128 4
  counter_same = number_same t s 128 128 4 (λ i l. g.bytes (128 + i) (inl (omega arith)))

  pub notified_still : AgreeStill s t (notified s) (notified t)
  unfolding notified raised
  notified_still =
      rw (flag_same, counter_same)
      (cond_both (AgreeStill s t) (wakes (number s 4096 1)) (put_still s t 128 4 ((number s 128 4 + 1) % 2 ^ 32) g.long) (unwritten s t))
