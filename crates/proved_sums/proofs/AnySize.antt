-- Without a premise on size each emptying ends as it should. But line 10's events, given to both rings, are handed out as 1 and 2 by the smaller, and
-- as 3 and 4 by the larger.
use Prim.Native.Nat.{ℕ, ◌+◌}
use native.Mathlib.Omega.{arith}
use mathlib.Core.Path.{◌≡◌, refl, ap, subst₂}
use mathlib.Core.Bool.{true}
use mathlib.Core.List.{List, [], ◌∷◌, map}
use lib.ListN.{length}
use Rattle.capacity_rules.specs.Capacity.{allowed, power_among}
use Rattle.reader_rules.specs.Reader.{reader_with}
use Rattle.reader_rules.specs.Read.{read_out}
use Rattle.reader_rules.specs.declared.Reader.{Reader}
use Rattle.run_rules.specs.Runs.{EndPart, total, latest, older}
use Rattle.run_rules.proofs.Runs.{same_end}
use Rattle.history.specs.Ring.{Numbered, bytes, fresh}
use Rattle.history.proofs.Ideal.{emit}
use Rattle.history.proofs.IdealServed.{Ideal, start, ideal_emission}
use Rattle.history.proofs.Served.{Attended, attended_start, attended_emission, attended_emptying}
use Rattle.promise.specs.Bytes.{Event, size, encode, Turn, made_by, after_by, made}
use Rattle.promise.specs.Demand2.{NoneRefused}
use Rattle.promise.proofs.Encoding.{encode_length}
use Rattle.promise.proofs.Unrefused.{unrefused2}
use Rattle.comparison.specs.Emptying.{Consumer, Watched, started, watched_emission, Emptied}
use Rattle.comparison.specs.Comparison.{Step, Emission, Emptying, NoLess, DemandBy3}
use Rattle.comparison.proofs.NewlyAttached.{positive}
use Rattle.comparison.proofs.Following.{Follows, follows_start, follows_emission, hands_latest}
use Rattle.comparison.proofs.Histories.{no_less}
use Rattle.proved_sums.specs.Lives.{cut, paid, turns}
use Rattle.proved_sums.specs.Sums.{ten, AnySize}

-- every event passes
no_premise : (c : ℕ) (e : Event) → AnySize c e
no_premise c e = tt

pub any_size_ends : DemandBy3 read_out AnySize (λ less more small large. Unit {0})
any_size_ends cpu c C narrow fit fits order buffer larger long longer any other steps =
    no_less cpu c C AnySize (λ less more small large. Unit {0}) (λ (w W : Ideal Event). Attended size c w × Attended size C W)
    (λ w W i. i.0) (λ w W i. i.1)
    (λ w W e fair smaller larger i. (attended_emission size c w e i.0, attended_emission size C W e i.1))
    (λ w W i. (attended_emptying size positive c w i.0, attended_emptying size positive C W i.1))
    (λ w W i one two. tt)
    steps (started cpu buffer any) (started cpu larger other) start start
    (follows_start cpu c narrow fit buffer long any) (follows_start cpu C narrow fits larger longer other) (attended_start size c, attended_start size C)

-- ---- the same turns on both rings, and then both are emptied

abbrev consumer : Turn → Consumer
consumer t = record { page = t.page; whole = t.whole }

abbrev steps : List Turn → List Step
steps [] = Emptying ∷ []
steps (t ∷ ts) = Emission t.event (consumer t) (consumer t) ∷ steps ts

abbrev along : Watched → List Turn → Watched
along b [] = b
along b (t ∷ ts) = along (watched_emission b t) ts

abbrev ideal_along : ℕ → Ideal Event → List Turn → Ideal Event
ideal_along capacity w [] = w
ideal_along capacity w (t ∷ ts) = ideal_along capacity (ideal_emission size capacity w t.event) ts

follows_along : (cpu capacity : ℕ) (ts : List Turn) (b : Watched) (w : Ideal Event) → Follows cpu capacity b w
    → Follows cpu capacity (along b ts) (ideal_along capacity w ts)
follows_along cpu capacity [] b w i = i
follows_along cpu capacity (t ∷ ts) b w i =
    follows_along cpu capacity ts (watched_emission b t) (ideal_emission size capacity w t.event) (follows_emission cpu capacity b w t i)

module _ (cpu c C : ℕ) where
  -- what is said then, if no call is refused
  said : (ts : List Turn) (small large : Watched) → NoneRefused (made small.state ts) → NoneRefused (made large.state ts)
      → NoLess read_out AnySize (λ less more one other. EndPart less more) cpu c C small large (steps ts)
      → (less : Emptied read_out cpu c (along small ts))
      × (more : Emptied read_out cpu C (along large ts))
      × EndPart (map (encode cpu) less.events) (map (encode cpu) more.events)
  unfolding made_by after_by
  said [] small large h H n = (n.0, n.1, n.2)
  said (t ∷ ts) small large h H n =
      said ts (watched_emission small t) (watched_emission large t) h.1 H.1 (n (no_premise c t.event) (h.0, tt) (H.0, tt))

module _ (given : ℕ → Turn) (buffer : ℕ → List ℕ) (sized : (capacity : ℕ) → length (buffer capacity) ≡ 8192 + capacity) where
  abbrev ts : List Turn
  ts = turns given 1 ten

  abbrev any : Reader
  any = reader_with 0 0 0 0

  abbrev begun : ℕ → Watched
  begun capacity = started 3 (buffer capacity) any

  module _ (capacity : ℕ) (fit : allowed capacity ≡ true) where
    begins : Follows 3 capacity (begun capacity) start
    begins = follows_start 3 capacity (omega arith) fit (buffer capacity) (sized capacity) any

    unrefused : NoneRefused (made (begun capacity).state ts)
    unfolding cut
    unrefused = unrefused2 3 capacity fresh (begun capacity).state begins.holds ts (omega arith) (omega arith)

    hands : (o : Emptied read_out 3 capacity (along (begun capacity) ts))
        → o.events ≡ latest (bytes size) capacity (ideal_along capacity start ts).since
    hands o =
        hands_latest 3 capacity read_out (along (begun capacity) ts) (ideal_along capacity start ts)
        (follows_along 3 capacity ts (begun capacity) start begins) o

  -- the event given this sequence, with a payload of n bytes
  abbrev event : ℕ → ℕ → Numbered Event
  event k n = record { sequence = k; event = paid n (given k).event }

  abbrev one_two : List (Numbered Event)
  one_two = event 1 0 ∷ event 2 0 ∷ []

  abbrev three_four : List (Numbered Event)
  three_four = event 3 224 ∷ event 4 224 ∷ []

  pub any_size_fails : DemandBy3 read_out AnySize (λ less more small large. EndPart less more) → ⊥
  unfolding allowed power_among emit latest older cut
  any_size_fails meets =
      let found = said 3 256 512 ts (begun 256) (begun 512) (unrefused 256 refl) (unrefused 512 refl)
      (meets 3 256 512 (omega arith) refl refl (omega arith) (buffer 256) (buffer 512) (sized 256) (sized 512) any any (steps ts)) in
      let end : EndPart (map (encode 3) one_two) (map (encode 3) three_four) =
      subst₂ (λ (xs ys : List (Numbered Event)). EndPart (map (encode 3) xs) (map (encode 3) ys))
      (hands 256 refl found.0) (hands 512 refl found.1) found.2 in
      let same = same_end [] end.front (map (encode 3) three_four) (map (encode 3) one_two) end.split refl in
      omega (
        arith,
        ap (total length) same,
        encode_length 3 (event 1 0),
        encode_length 3 (event 2 0),
        encode_length 3 (event 3 224),
        encode_length 3 (event 4 224),
      )
