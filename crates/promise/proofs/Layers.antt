-- What emission changes of a ring: data stored from a position on, and then the two positions and futex_counter. Byte by byte, such a change over
-- another is one change, the consumer's page stays apart from it, and one of nothing leaves a page of bytes as it was.
use Prim.Native.Nat.{ℕ, zero, suc, ◌+◌, ◌-◌, ◌/◌, ◌%◌, ◌^◌, ◌≤◌, ◌<◌}
use native.Mathlib.Nat.{mod-lt}
use native.Mathlib.Omega.{arith}
use mathlib.Core.Path.{◌≡◌, refl, sym, ap, ap₂, ◌∙◌, subst}
use mathlib.Core.Logic.{◌⊎◌, inl, inr, ⊎_elim}
use mathlib.Core.Bool.{true, false}
use mathlib.Core.List.{List, [], ◌∷◌, ◌++◌}
use lib.ListN.{length, take, get_or, set, replicate, length-set}
use lib.Seq.{get_or-set_same, get_or-set_other, set-get_or, get_or-take, ext_get_or}
use lib.Dec.{T, eqb, lit<}
use borrow.Author.Tests.{eqb-true, eqb-false}
use Rattle.table_rules.proofs.Laws.{cond_both}
use Rattle.table_rules.proofs.Tests.{either, le_or_lt}
use Rattle.word_rules.specs.Number.{number, byte_of, put}
use Rattle.word_rules.specs.Fields.{Field, put_all}
use Rattle.word_rules.proofs.Facts.{clear_of}
use Rattle.word_rules.proofs.Reading.{number_byte, number_bound, number_take, number_zeros, number_one}
use Rattle.word_rules.proofs.Writing.{length_put, put_other, put_byte}
use Rattle.word_rules.proofs.Fields.{length_all, beside, within}
use Rattle.page_rules.specs.Page.{page_of, positions}
use Rattle.page_rules.specs.Fresh.{first_page, blank}
use Rattle.page_rules.specs.Wake.{futex_counter, need_wake, wakes, raised, notified}
use Rattle.region_rules.specs.Region.{place, store_at}
use Rattle.region_rules.proofs.Storing.{store_length, store_append, store_below, store_number}
use Rattle.promise.specs.Bytes.{Turn, consumed, uncalled}
use Rattle.promise.proofs.Consumer.{Elsewhere, elsewhere_number, consumed_elsewhere, consumed_page}

-- ---- one byte of two lists, as a write goes on

module _ (x y : List ℕ) (same : length x ≡ length y) (i : ℕ) (inside : i < length x) where
  set_local : (k v : ℕ) → get_or x i 0 ≡ get_or y i 0 → get_or (set x k v) i 0 ≡ get_or (set y k v) i 0
  set_local k v e =
      ⊎_elim
      (λ (h : eqb i k ≡ true).
      let here : i ≡ k = eqb-true i k h in
      ap (λ (j : ℕ). get_or (set x k v) j 0) here ∙ get_or-set_same x k v 0 (omega arith)
      ∙ sym (ap (λ (j : ℕ). get_or (set y k v) j 0) here ∙ get_or-set_same y k v 0 (omega arith)))
      (λ (h : eqb i k ≡ false). get_or-set_other x k i v 0 (eqb-false i k h) ∙ e ∙ sym (get_or-set_other y k i v 0 (eqb-false i k h)))
      (either (eqb i k))

  put_local : (at n v : ℕ) → at + n ≤ length x
      → ((i < at) ⊎ (at + n ≤ i) → get_or x i 0 ≡ get_or y i 0) → get_or (put x at n v) i 0 ≡ get_or (put y at n v) i 0
  put_local at n v room e =
      ⊎_elim
      (λ (low : at ≤ i).
      ⊎_elim
      (λ (high : at + n ≤ i). put_other x at n v i (λ k l h. omega arith) ∙ e (inr high) ∙ sym (put_other y at n v i (λ k l h. omega arith)))
      (λ (here : i < at + n).
      let there : i ≡ at + (i - at) = omega arith in
      ap (λ (j : ℕ). get_or (put x at n v) j 0) there ∙ put_byte x at n v (i - at) room (omega arith)
      ∙ sym (ap (λ (j : ℕ). get_or (put y at n v) j 0) there ∙ put_byte y at n v (i - at) (omega arith) (omega arith)))
      (le_or_lt (at + n) i))
      (λ (before : i < at). put_other x at n v i (λ k l h. omega arith) ∙ e (inl before) ∙ sym (put_other y at n v i (λ k l h. omega arith)))
      (le_or_lt at i)

store_local : (bytes x y : List ℕ) (c p : ℕ) → length x ≡ length y → (i : ℕ) → i < length x → get_or x i 0 ≡ get_or y i 0
    → get_or (store_at x c p bytes) i 0 ≡ get_or (store_at y c p bytes) i 0
unfolding store_at
store_local [] x y c p same i inside e = e
store_local (b ∷ bytes) x y c p same i inside e =
    store_local bytes (set x (place c p) b) (set y (place c p) b) c (suc p) (length-set x (place c p) b ∙ same ∙ sym (length-set y (place c p) b)) i
    (omega (arith, length-set x (place c p) b)) (set_local x y same i inside (place c p) b e)

-- ---- bytes stay bytes

set_small : (x : List ℕ) (k v i : ℕ) → v < 256 → get_or x i 0 < 256 → get_or (set x k v) i 0 < 256
set_small [] k v i new old = old
set_small (b ∷ x) zero v zero new old = new
set_small (b ∷ x) zero v (suc i) new old = old
set_small (b ∷ x) (suc k) v zero new old = old
set_small (b ∷ x) (suc k) v (suc i) new old = set_small x k v i new old

pub put_small : (s : List ℕ) (at n v i : ℕ) → get_or s i 0 < 256 → get_or (put s at n v) i 0 < 256
unfolding put byte_of
put_small s at zero v i small = small
put_small s at (suc n) v i small =
    set_small (put s at n v) (at + n) (v / 256 ^ n % 256) i (mod-lt (v / 256 ^ n) {m = 256} (lit< tt)) (put_small s at n v i small)

pub all_small : (s : List ℕ) (fs : List Field) (i : ℕ) → get_or s i 0 < 256 → get_or (put_all s fs) i 0 < 256
unfolding put_all
all_small s [] i small = small
all_small s (f ∷ fs) i small =
    all_small (put s f.offset f.size f.content) fs i (put_small s f.offset f.size f.content i small)

pub notified_small : (s : List ℕ) (i : ℕ) → get_or s i 0 < 256 → get_or (notified s) i 0 < 256
unfolding notified raised
notified_small s i small =
    cond_both (λ (r q : List ℕ). get_or r i 0 < 256) (wakes (need_wake s)) {z = s} {w = s} (put_small s 128 4 _ i small) small

pub blank_small : (cpu capacity generation i : ℕ) → get_or (blank cpu capacity generation) i 0 < 256
unfolding blank
blank_small cpu capacity generation i =
    let zeros : List ℕ = replicate (8192 + capacity) 0 in
    all_small zeros (first_page cpu capacity generation) i (omega (arith, number_one zeros i, number_zeros (8192 + capacity) i 1))

-- the bytes there written again change nothing
put_same : (s : List ℕ) (at n v : ℕ) → ((k : ℕ) → k < n → v / 256 ^ k % 256 ≡ get_or s (at + k) 0) → put s at n v ≡ s
unfolding put byte_of
put_same s at zero v e = refl
put_same s at (suc n) v e =
    ap₂ (λ (x : List ℕ) (b : ℕ). set x (at + n) b) (put_same s at n v (λ k l. e k (omega arith))) (e n (omega arith)) ∙ set-get_or s (at + n) 0

take_small : (n : ℕ) (s : List ℕ) (k : ℕ) → (k < n → get_or s k 0 < 256) → get_or (take n s) k 0 < 256
take_small zero s k small = lit< tt
take_small (suc n) [] k small = lit< tt
take_small (suc n) (b ∷ s) zero small = small (omega arith)
take_small (suc n) (b ∷ s) (suc k) small = take_small n s k (λ l. small (omega arith))

-- ---- a page of bytes

abbrev pub Bytewise : List ℕ → Type 0
Bytewise s = (i : ℕ) → i < 4096 → get_or s i 0 < 256

module _ (s : List ℕ) (small : Bytewise s) (at n : ℕ) (low : at + n ≤ 4096) where
  abbrev page : List ℕ
  page = take 4096 s

  page_small : (k : ℕ) → get_or page k 0 < 256
  page_small k = take_small 4096 s k (small k)

  pub put_own : put s at n (number s at n) ≡ s
  put_own =
      put_same s at n (number s at n)
      (λ k l.
      ap (λ (v : ℕ). v / 256 ^ k % 256) (sym (number_take s 4096 at n low))
      ∙ number_byte page at n k page_small l
      ∙ get_or-take 4096 s (at + k) 0 (omega arith))

  pub number_small : number s at n < 256 ^ n
  number_small = subst (λ (v : ℕ). v < 256 ^ n) (number_take s 4096 at n low) (number_bound page at n page_small)

-- ---- the change

-- in the first page
abbrev fields : ℕ → ℕ → ℕ → List Field
fields w t n = positions w t ++ (record { offset = 128; size = 4; content = n } ∷ [])

-- `bytes` stored from the position `from` on, and then these fields
abbrev pub layer : ℕ → ℕ → List ℕ → List ℕ → ℕ → ℕ → ℕ → List ℕ
layer capacity from s bytes w t n = put_all (store_at s capacity from bytes) (fields w t (n % 2 ^ 32))

-- no field's byte
abbrev Aside : ℕ → Type 0
Aside i = ((i < 64) ⊎ (72 ≤ i)) × ((i < 72) ⊎ (80 ≤ i)) × ((i < 128) ⊎ (132 ≤ i))

module _ (w t n : ℕ) where
  fields_aside : (s : List ℕ) (i : ℕ) → Aside i → get_or (put_all s (fields w t n)) i 0 ≡ get_or s i 0
  unfolding put_all
  fields_aside s i h =
      put_other (put (put s 64 8 w) 72 8 t) 128 4 n i (λ k l e. ⊎_elim (λ a. omega arith) (λ a. omega arith) h.2)
      ∙ put_other (put s 64 8 w) 72 8 t i (λ k l e. ⊎_elim (λ a. omega arith) (λ a. omega arith) h.1)
      ∙ put_other s 64 8 w i (λ k l e. ⊎_elim (λ a. omega arith) (λ a. omega arith) h.0)

  -- what they are written over is seen beside them alone
  fields_over : (x y : List ℕ) → length x ≡ length y → 8192 ≤ length x → (i : ℕ) → i < length x → (Aside i → get_or x i 0 ≡ get_or y i 0)
      → get_or (put_all x (fields w t n)) i 0 ≡ get_or (put_all y (fields w t n)) i 0
  unfolding put_all
  fields_over x y same long i inside e =
      let x₁ : List ℕ = put x 64 8 w in
      let y₁ : List ℕ = put y 64 8 w in
      let long₁ : length x₁ ≡ length x = length_put x 64 8 w in
      let long₂ : length (put x₁ 72 8 t) ≡ length x₁ = length_put x₁ 72 8 t in
      let same₁ : length x₁ ≡ length y₁ = long₁ ∙ same ∙ sym (length_put y 64 8 w) in
      put_local (put x₁ 72 8 t) (put y₁ 72 8 t) (long₂ ∙ same₁ ∙ sym (length_put y₁ 72 8 t)) i (omega arith) 128 4 n (omega arith)
      (λ a. put_local x₁ y₁ same₁ i (omega arith) 72 8 t (omega arith) (λ b. put_local x y same i inside 64 8 w (omega arith) (λ d. e (d, b, a))))

module _ (capacity from : ℕ) (s bytes : List ℕ) (w t n : ℕ) where
  abbrev changed : List ℕ
  changed = layer capacity from s bytes w t n

  pub layer_length : length changed ≡ length s
  layer_length = length_all (store_at s capacity from bytes) (fields w t (n % 2 ^ 32)) ∙ store_length bytes s capacity from

  pub layer_number : (at k : ℕ) → T (clear_of (fields w t (n % 2 ^ 32)) at k) → at + k ≤ 4096 → number changed at k ≡ number s at k
  layer_number at k clear low =
      beside (store_at s capacity from bytes) (fields w t (n % 2 ^ 32)) at k clear ∙ store_number bytes s capacity from at k (omega arith)

  pub layer_counter : 8192 ≤ length s → futex_counter changed ≡ n % 2 ^ 32
  layer_counter long =
      within (store_at s capacity from bytes) (fields w t (n % 2 ^ 32)) 2 _ refl tt (omega (arith, store_length bytes s capacity from)) ∙ omega arith

  -- over another it is one
  pub layer_again : (more : List ℕ) (there w' t' n' : ℕ) → 8192 ≤ length s → there ≡ from + length bytes
      → layer capacity there changed more w' t' n' ≡ layer capacity from s (bytes ++ more) w' t' n'
  layer_again more there w' t' n' long behind =
      let below : List ℕ = store_at s capacity from bytes in
      let over : List ℕ = store_at changed capacity there more in
      let plain : List ℕ = store_at below capacity there more in
      let all : List Field = fields w' t' (n' % 2 ^ 32) in
      let same : length changed ≡ length below = length_all below (fields w t (n % 2 ^ 32)) in
      let grown : length over ≡ length changed = store_length more changed capacity there in
      let alike : length over ≡ length plain = grown ∙ same ∙ sym (store_length more below capacity there) in
      ext_get_or 0 (put_all over all) (put_all plain all) (length_all over all ∙ alike ∙ sym (length_all plain all))
      (λ i l.
      let inside : i < length changed = omega (arith, length_all over all) in
      fields_over w' t' (n' % 2 ^ 32) over plain alike (omega (arith, layer_length)) i (omega arith)
      (λ aside. store_local more changed below capacity there same i inside (fields_aside w t (n % 2 ^ 32) below i aside)))
      ∙ ap (λ (r : List ℕ). put_all r all) (ap (λ (k : ℕ). store_at below capacity k more) behind ∙ sym (store_append bytes more s capacity from))

  -- the consumer's page lies apart from it
  pub layer_consumed : (page : List ℕ) → 8192 ≤ length s → length page ≡ 4096
      → consumed changed page ≡ layer capacity from (consumed s page) bytes w t n
  layer_consumed page long whole =
      let there : Elsewhere s (consumed s page) = consumed_elsewhere s page whole long in
      let enough : 8192 ≤ length changed = omega (arith, layer_length) in
      let here : Elsewhere changed (consumed changed page) = consumed_elsewhere changed page whole enough in
      let stored : List ℕ = store_at s capacity from bytes in
      let again : List ℕ = store_at (consumed s page) capacity from bytes in
      let all : List Field = fields w t (n % 2 ^ 32) in
      let kept : length stored ≡ length s = store_length bytes s capacity from in
      let alike : length stored ≡ length again = kept ∙ sym (store_length bytes (consumed s page) capacity from ∙ there.long) in
      let outside : (i : ℕ) → i < length s → get_or (consumed s page) i 0 ≡ get_or s i 0 → get_or changed i 0 ≡ get_or (put_all again all) i 0 =
      λ i inside e.
      fields_over w t (n % 2 ^ 32) stored again alike (omega arith) i (omega arith)
      (λ aside. store_local bytes s (consumed s page) capacity from (sym there.long) i inside (sym e)) in
      ext_get_or 0 (consumed changed page) (put_all again all)
      (here.long ∙ length_all stored all ∙ alike ∙ sym (length_all again all))
      (λ i l.
      let inside : i < length s = omega (arith, here.long, layer_length) in
      ⊎_elim
      (λ (high : 8192 ≤ i). here.beyond i high ∙ outside i inside (there.beyond i high))
      (λ (low : i < 8192).
      ⊎_elim
      (λ (its : 4096 ≤ i).
      consumed_page changed page whole enough i its low
      ∙ sym
      (fields_aside w t (n % 2 ^ 32) again i (inr (omega arith), inr (omega arith), inr (omega arith))
      ∙ store_below bytes (consumed s page) capacity from i low
      ∙ consumed_page s page whole long i its low))
      (λ (first : i < 4096). here.below i first ∙ outside i inside (there.below i first))
      (le_or_lt 4096 i))
      (le_or_lt 8192 i))

-- a change of nothing
pub layer_none : (capacity from : ℕ) (s : List ℕ) → Bytewise s
    → s ≡ layer capacity from s [] (page_of s).write_pos (page_of s).tail_pos (futex_counter s + 0)
unfolding put_all store_at page_of
layer_none capacity from s small =
    let counter : (futex_counter s + 0) % 2 ^ 32 ≡ futex_counter s = omega (arith, number_small s small 128 4 (omega arith)) in
    sym
    (ap₂ (λ (r : List ℕ) (v : ℕ). put (put r 72 8 (number s 72 8)) 128 4 v) (put_own s small 64 8 (omega arith)) counter
    ∙ ap (λ (r : List ℕ). put r 128 4 (number s 128 4)) (put_own s small 72 8 (omega arith))
    ∙ put_own s small 128 4 (omega arith))

-- ---- what the consumer alone writes

pub uncalled_length : (turns : List Turn) (s : List ℕ) → 8192 ≤ length s → length (uncalled s turns) ≡ length s
unfolding uncalled
uncalled_length [] s long = refl
uncalled_length (t ∷ ts) s long =
    let same : length (consumed s t.page) ≡ length s = (consumed_elsewhere s t.page t.whole long).long in
    uncalled_length ts (consumed s t.page) (omega arith) ∙ same

pub uncalled_number : (turns : List Turn) (s : List ℕ) → 8192 ≤ length s → (at n : ℕ) → at + n ≤ 4096 → number (uncalled s turns) at n ≡ number s at n
unfolding uncalled
uncalled_number [] s long at n low = refl
uncalled_number (t ∷ ts) s long at n low =
    let e : Elsewhere s (consumed s t.page) = consumed_elsewhere s t.page t.whole long in
    uncalled_number ts (consumed s t.page) (omega (arith, e.long)) at n low
    ∙ elsewhere_number s (consumed s t.page) e at n low

uncalled_layer : (turns : List Turn) (capacity from : ℕ) (s bytes : List ℕ) (w t n : ℕ) → 8192 ≤ length s
    → uncalled (layer capacity from s bytes w t n) turns ≡ layer capacity from (uncalled s turns) bytes w t n
unfolding uncalled
uncalled_layer [] capacity from s bytes w t n long = refl
uncalled_layer (u ∷ us) capacity from s bytes w t n long =
    ap (λ (r : List ℕ). uncalled r us) (layer_consumed capacity from s bytes w t n u.page long u.whole)
    ∙ uncalled_layer us capacity from (consumed s u.page) bytes w t n (omega (arith, (consumed_elsewhere s u.page u.whole long).long))

-- what a call changed, and then later ones: the counter goes up by both
pub layers : (turns : List Turn) (capacity from there : ℕ) (s bytes more : List ℕ) (w t n w' t' m : ℕ) → 8192 ≤ length s → there ≡ from + length bytes
    → (now end : List ℕ) → now ≡ layer capacity from s bytes w t (futex_counter s + n)
    → end ≡ layer capacity there (uncalled now turns) more w' t' (futex_counter (uncalled now turns) + m)
    → end ≡ layer capacity from (uncalled s turns) (bytes ++ more) w' t' (futex_counter (uncalled s turns) + (n + m))
layers turns capacity from there s bytes more w t n w' t' m long behind now end first later =
    let base : List ℕ = uncalled s turns in
    let enough : 8192 ≤ length base = omega (arith, uncalled_length turns s long) in
    let lies : uncalled now turns ≡ layer capacity from base bytes w t (futex_counter s + n) =
    ap (λ (r : List ℕ). uncalled r turns) first ∙ uncalled_layer turns capacity from s bytes w t (futex_counter s + n) long in
    let counted : (futex_counter (uncalled now turns) + m) % 2 ^ 32 ≡ (futex_counter base + (n + m)) % 2 ^ 32 =
    omega (
      arith,
      ap futex_counter lies ∙ layer_counter capacity from base bytes w t (futex_counter s + n) enough,
      uncalled_number turns s long 128 4 (omega arith),
    ) in
    later
    ∙ ap₂ (λ (r : List ℕ) (v : ℕ). put_all (store_at r capacity there more) (fields w' t' v)) lies counted
    ∙ layer_again capacity from base bytes w t (futex_counter s + n) more there w' t' (futex_counter base + (n + m)) enough behind
