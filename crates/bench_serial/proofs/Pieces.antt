-- The pieces of a file one by one: what is told in all is told of the first piece and of the rest, by `feed_all`; with enough fuel the pieces are the same.
use Rattle.std.specs.Prelude.{Option}
use Rattle.std.proofs.Common.{◌≡◌, ℕ, zero, suc, ◌+◌, ◌-◌, ◌%◌, ◌^◌, ◌<◌, ◌≤◌, min, eqb, List, [], ◌∷◌, length, take, drop, sym, refl, ap, ◌∙◌, ⊎_elim}
use Rattle.std.proofs.Common.{not-suc-le-zero, zero-add, arith, length-drop, take_all, drop-drop}
use native.Mathlib.Nat.{mod-add-mod, add-mod-mod}
use Rattle.table_rules.proofs.Tests.{le_or_lt, above_zero}
use Rattle.reading_rules.proofs.Cases.{by_test}
use Rattle.serial_rules.specs.Step.{fresh_listener, ended_listener}
use Rattle.serial_rules.specs.Feed.{Fed, feed, feed_all}
use Rattle.serial_rules.specs.declared.Listener.{Listener}
use Rattle.bench_serial.specs.Listened.{sum_of, end_number, cut_up_to, in_pieces, piece_size, listened, heard}
use Rattle.bench_serial.specs.declared.Hearing.{Hearing}
use Rattle.bench_serial.proofs.Numbers.{sum_append, drop_all}

fuel_enough : (k m size : ℕ) (bs : List ℕ) → 0 < size → length bs ≤ k → length bs ≤ m → cut_up_to k size bs ≡ cut_up_to m size bs
unfolding cut_up_to
fuel_enough zero zero size bs pos h g = refl
fuel_enough zero (suc m) size [] pos h g = refl
fuel_enough zero (suc m) size (b ∷ bs) pos h g = absurd (not-suc-le-zero h)
fuel_enough (suc k) zero size [] pos h g = refl
fuel_enough (suc k) zero size (b ∷ bs) pos h g = absurd (not-suc-le-zero g)
fuel_enough (suc k) (suc m) size [] pos h g = refl
fuel_enough (suc k) (suc m) size (b ∷ bs) pos h g =
    let n : length (drop size (b ∷ bs)) ≡ length (b ∷ bs) - size = length-drop size (b ∷ bs) in
    ap (λ (pieces : List (List ℕ)). take size (b ∷ bs) ∷ pieces) (fuel_enough k m size (drop size (b ∷ bs)) pos (omega arith) (omega arith))

-- what follows in pieces of one size
unfoldable pub pieces : ℕ → List ℕ → List (List ℕ)
pieces size bs = cut_up_to (length bs) size bs

pieces_on : (size : ℕ) (bs : List ℕ) → 0 < size → 0 < length bs → pieces size bs ≡ take size bs ∷ pieces size (drop size bs)
unfolding pieces cut_up_to
pieces_on size [] pos some = absurd (not-suc-le-zero some)
pieces_on size (b ∷ bs) pos some =
    let n : length (drop size (b ∷ bs)) ≡ length (b ∷ bs) - size = length-drop size (b ∷ bs) in
    ap (λ (later : List (List ℕ)). take size (b ∷ bs) ∷ later)
    (fuel_enough (length bs) (length (drop size (b ∷ bs))) size (drop size (b ∷ bs)) pos (omega arith) (omega arith))

-- ---- what is told in all, behind what makes `sum`

abbrev closed : ℕ → Fed → ℕ
closed sum fed = (sum + sum_of fed.reports + end_number (ended_listener fed.listener)) % 2 ^ 64

unfoldable pub whole : ℕ → Listener → List ℕ → ℕ → ℕ
whole size l bs sum = closed sum (feed_all l (pieces size bs))

pub listened_is : (size : ℕ) (file : List ℕ) → listened size file ≡ whole (piece_size size (length file)) fresh_listener file 0
unfolding listened whole in_pieces pieces
listened_is size file =
    let fed : Fed = feed_all fresh_listener (pieces (piece_size size (length file)) file) in
    ap (λ (n : ℕ). (n + end_number (ended_listener fed.listener)) % 2 ^ 64) (sym (zero-add (sum_of fed.reports)))

pub whole_end : (size : ℕ) (l : Listener) (sum : ℕ) → whole size l [] sum ≡ (sum + end_number (ended_listener l)) % 2 ^ 64
unfolding whole pieces cut_up_to feed_all sum_of
whole_end size l sum = ap (λ (n : ℕ). n % 2 ^ 64) (no_more sum (end_number (ended_listener l)))
  where
    no_more : (x y : ℕ) → x + 0 + y ≡ x + y
    no_more x y = omega arith

whole_on : (size : ℕ) (l : Listener) (bs : List ℕ) (sum : ℕ) → 0 < size → 0 < length bs
    → whole size l bs sum ≡ whole size (heard l (take size bs) sum).listener (drop size bs) (heard l (take size bs) sum).sum
unfolding whole feed_all heard
whole_on size l bs sum pos some =
    let now : Fed = feed l (take size bs) in
    let later : Fed = feed_all now.listener (pieces size (drop size bs)) in
    let a : ℕ = sum_of now.reports in
    let b : ℕ = sum_of later.reports in
    let e : ℕ = end_number (ended_listener later.listener) in
    ap (λ (all : List (List ℕ)). closed sum (feed_all l all)) (pieces_on size bs pos some)
    ∙ ap (λ (n : ℕ). (sum + n + e) % 2 ^ 64) (sum_append now.reports later.reports)
    ∙ ap (λ (n : ℕ). n % 2 ^ 64) (regroup sum a b e)
    ∙ sym (mod-add-mod (sum + a) (2 ^ 64) (b + e))
    ∙ ap (λ (n : ℕ). n % 2 ^ 64) (regroup' ((sum + a) % 2 ^ 64) b e)
  where
    regroup : (w x y z : ℕ) → w + (x + y) + z ≡ w + x + (y + z)
    regroup w x y z = omega arith

    regroup' : (x y z : ℕ) → x + (y + z) ≡ x + y + z
    regroup' x y z = omega arith

-- the next piece: so many bytes, or what is left
pub whole_piece : (size : ℕ) (l : Listener) (bs : List ℕ) (sum n : ℕ) (h : Hearing) → 0 < size → 0 < length bs → n ≡ min size (length bs)
    → h ≡ heard l (take n bs) sum → whole size l bs sum ≡ whole size h.listener (drop n bs) h.sum
whole_piece size l bs sum n h pos some n-is is =
    whole_on size l bs sum pos some
    ∙ ap (λ (p : List ℕ). whole size (heard l p sum).listener (drop size bs) (heard l p sum).sum) (sym front.0)
    ∙ ap (λ (x : Hearing). whole size x.listener (drop size bs) x.sum) (sym is)
    ∙ ap (λ (p : List ℕ). whole size h.listener p h.sum) (sym front.1)
  where
    front : (take n bs ≡ take size bs) × (drop n bs ≡ drop size bs)
    front =
        ⊎_elim
        (λ (e : size ≤ length bs). let same : n ≡ size = omega arith in (ap (λ (k : ℕ). take k bs) same, ap (λ (k : ℕ). drop k bs) same))
        (λ (e : length bs < size). (
          take_all n bs (omega arith) ∙ sym (take_all size bs (omega arith)),
          drop_all n bs (omega arith) ∙ sym (drop_all size bs (omega arith)),
        ))
        (le_or_lt size (length bs))

pub piece_some : (size all : ℕ) → 0 < all → 0 < piece_size size all
piece_some size all some =
    by_test (λ (n : ℕ). 0 < n) (eqb size 0) (λ e. some) (λ e. above_zero size e)

-- ---- what holds at each turn of the loop of pieces: the rest listened to now gives the whole's result

pub record Listens (size : ℕ) (file : List ℕ) (most : ℕ) (l : Listener) (sum at : ℕ) : Type 0 where
  pub within : at ≤ length file
  pub same : listened size file ≡ whole most l (drop at file) sum

pub listens_start : (size : ℕ) (file : List ℕ) (most : ℕ) (l : Listener) → most ≡ piece_size size (length file) → l ≡ fresh_listener → Listens size file most l 0 0
listens_start size file most l most-is state_is =
    record {
      within = omega arith;
      same =
          listened_is size file
          ∙ ap (λ (n : ℕ). whole n fresh_listener file 0) (sym most-is)
          ∙ ap (λ (x : Listener). whole most x file 0) (sym state_is);
    }

module _ (size : ℕ) (file : List ℕ) (most : ℕ) (l : Listener) (sum at : ℕ) (listens : Listens size file most l sum at) where
  pub listens_some : (n : ℕ) → most ≡ piece_size size (length file) → at < length file → n ≡ min most (length file - at) → 0 < n
  listens_some n most-is more n-is = omega (arith, piece_some size (length file) (omega arith))

  pub listens_on : (n : ℕ) (h : Hearing) → most ≡ piece_size size (length file) → at < length file → n ≡ min most (length file - at)
      → h ≡ heard l (take (at + n - at) (drop at file)) sum → Listens size file most h.listener h.sum (at + n)
  listens_on n h most-is more n-is is =
      let left : length (drop at file) ≡ length file - at = length-drop at file in
      let all : at + n - at ≡ n = omega arith in
      let some : 0 < most = omega (arith, piece_some size (length file) (omega arith)) in
      record {
        within = omega arith;
        same =
            listens.same
            ∙ whole_piece most l (drop at file) sum n h some (omega arith) (omega arith) (is ∙ ap (λ (k : ℕ). heard l (take k (drop at file)) sum) all)
            ∙ ap (λ (bs : List ℕ). whole most h.listener bs h.sum) (drop-drop n at file);
      }

  pub listens_end : (e : Option ℕ) (n r : ℕ) → length file ≤ at → e ≡ ended_listener l → n ≡ end_number e % 2 ^ 64 → r ≡ (sum + n) % 2 ^ 64 → r ≡ listened size file
  listens_end e n r all end_is n-is is =
      is
      ∙ ap (λ (k : ℕ). (sum + k) % 2 ^ 64) (n-is ∙ ap (λ (x : Option ℕ). end_number x % 2 ^ 64) end_is)
      ∙ add-mod-mod sum (end_number (ended_listener l)) (2 ^ 64)
      ∙ sym (listens.same ∙ ap (λ (bs : List ℕ). whole most l bs sum) (drop_all at file all) ∙ whole_end most l sum)
