-- One ring's bytes with its reader follow the ring without bytes: through an emission, and through an emptying.
use Prim.Native.Nat.{ℕ, ◌+◌, ◌^◌, ◌<◌}
use native.Mathlib.Omega.{arith}
use mathlib.Core.Path.{◌≡◌, refl, sym, ap, ap₂, ◌∙◌, subst, subst₂}
use mathlib.Core.Bool.{true}
use mathlib.Core.List.{List, [], ◌∷◌, ◌++◌, map}
use lib.ListN.{length}
use Rattle.capacity_rules.specs.Capacity.{allowed}
use Rattle.page_rules.specs.Page.{page_of}
use Rattle.create_rules.specs.Create.{after_create}
use Rattle.reader_rules.specs.Read.{read_out}
use Rattle.reader_rules.specs.declared.Reader.{Reader}
use Rattle.run_rules.specs.Runs.{last_of, LongestRun, latest}
use Rattle.run_rules.proofs.Runs.{longest_iff, longest_latest}
use Rattle.writer_rules.specs.Writer.{zeros}
use Rattle.history.specs.Ring.{sequence_of, Numbered, bytes, fresh}
use Rattle.history.specs.Calls.{Call, accepted}
use Rattle.history.proofs.Ideal.{calls, after as afterCalls}
use Rattle.history.proofs.IdealReading.{AllRead, unread}
use Rattle.history.proofs.IdealServed.{Ideal, start, ideal_emission, ideal_emptying}
use Rattle.history.proofs.Emptying.{finished, following_finished}
use Rattle.history.proofs.Served.{Attended, done_is}
use Rattle.promise.specs.Bytes.{Event, size, encode, Turn}
use Rattle.promise.specs.Holds.{Holds}
use Rattle.promise.proofs.Encoding.{encode_lengths}
use Rattle.promise.proofs.Created.{created_holds}
use Rattle.promise.proofs.Demand2.{same_calls}
use Rattle.promise.proofs.Generation.{generation_stays}
use Rattle.promise.proofs.Reading.{record_of, attaches}
use Rattle.comparison.specs.Emptying.{Watched, started, watched_emission, Read, Empties, Emptied, emptying}
use Rattle.comparison.proofs.NewlyAttached.{positive, empties}
use Rattle.reader_rules.specs.declared.Answered.{Answered}

module _ (cpu capacity : ℕ) where
  pub record Follows (b : Watched) (w : Ideal Event) : Type 0 where
    pub holds : Holds cpu capacity b.state.ring b.state.writer w.ring
    pub reader_is : b.reader ≡ record_of (page_of b.state.ring).generation w.reader
    pub since_is : b.since ≡ w.since

  pub follows_start : cpu < 2 ^ 16 → allowed capacity ≡ true → (buffer : List ℕ) → length buffer ≡ 8192 + capacity → (any : Reader)
      → Follows (started cpu buffer any) start
  follows_start narrow fit buffer long any =
      let h : Holds cpu capacity (after_create cpu buffer) zeros fresh = created_holds cpu capacity narrow fit buffer long in
      record {
        holds = h;
        reader_is = ap (λ (a : Answered (Unit {0})). a.reader) (attaches cpu capacity (after_create cpu buffer) zeros fresh h any);
        since_is = refl;
      }

  pub follows_emission : (b : Watched) (w : Ideal Event) (t : Turn) → Follows b w → Follows (watched_emission b t) (ideal_emission size capacity w t.event)
  unfolding calls afterCalls
  follows_emission b w t i =
      let same = same_calls cpu capacity (t ∷ []) b.state w.ring i.holds in
      record {
        holds = same.1;
        reader_is = i.reader_is
            ∙ ap (λ (n : ℕ). record_of n w.reader) (sym (generation_stays cpu capacity b.state w.ring i.holds (t ∷ [])));
        since_is = ap₂ (λ (l : List (Numbered Event)) (ks : List (Call Event)). l ++ accepted ks) i.since_is same.0;
      }

  -- ---- an emptying

  -- whatever reads, it hands out the latest that fit
  pub hands_latest : (read : Read) (b : Watched) (w : Ideal Event) → Follows b w → (o : Emptied read cpu capacity b)
      → o.events ≡ latest (bytes size) capacity w.since
  hands_latest read b w i o =
      longest_latest (bytes size) capacity w.since o.events
      (subst₂ (λ (f : Numbered Event → ℕ) (all : List (Numbered Event)). LongestRun f capacity all o.events)
      (encode_lengths cpu) i.since_is o.longest)

  module _ (b : Watched) (w : Ideal Event) (i : Follows b w) (a : Attended size capacity w) where
    abbrev left : List (Numbered Event)
    left = unread size w.ring w.reader

    abbrev pub end_of : Reader
    end_of = record_of (page_of b.state.ring).generation (finished size w.ring w.reader (unread size w.ring w.reader))

    pub ended : Empties read_out b.state.ring b.reader (map (encode cpu) left) end_of
    ended =
        subst (λ (r : Reader). Empties read_out b.state.ring r (map (encode cpu) left) end_of) (sym i.reader_is)
        (empties cpu capacity b.state.ring b.state.writer w.ring i.holds w.reader a.following)

    pub longest : LongestRun (λ (x : Numbered Event). length (encode cpu x)) capacity b.since left
    longest =
        subst₂ (λ (f : Numbered Event → ℕ) (all : List (Numbered Event)). LongestRun f capacity all left)
        (sym (encode_lengths cpu)) (sym i.since_is)
        ((longest_iff (bytes size) capacity w.since left).1 a.left)

    abbrev pub emptied : Emptied read_out cpu capacity b
    emptied = record {
      events = left;
      end = end_of;
      ended = ended;
      longest = longest;
      last = ap (λ (r : Reader). last_of sequence_of r.last left) (sym i.reader_is);
      handed = omega (arith, ap (λ (r : Reader). r.handed) i.reader_is);
      counted = (following_finished size positive w.ring w.reader a.following).handed;
    }

    pub follows_emptying : Follows (emptying b end_of) (ideal_emptying size w)
    follows_emptying = record {
      holds = i.holds;
      reader_is = ap (λ (e : AllRead Event). record_of (page_of b.state.ring).generation e.reader) (sym (done_is size positive capacity w a));
      since_is = refl;
    }
