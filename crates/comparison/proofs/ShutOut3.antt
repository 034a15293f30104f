-- One event given to a ring of 256 bytes tells of a read that never hands out an event, and of attaching behind it.
use Prim.Native.Nat.{ℕ, ◌+◌}
use native.Mathlib.Omega.{arith}
use mathlib.Core.Path.{◌≡◌, refl, sym, ap, ◌∙◌, subst}
use mathlib.Core.List.{List, [], ◌∷◌, map}
use lib.ListN.{length, replicate, length-replicate}
use Rattle.reader_rules.specs.Reader.{reader_with}
use Rattle.reader_rules.specs.declared.Reader.{Reader}
use Rattle.run_rules.specs.Runs.{latest, older}
use Rattle.history.specs.Ring.{Numbered, Ring, fresh}
use Rattle.history.proofs.Ideal.{emit}
use Rattle.history.proofs.IdealServed.{start, ideal_emission}
use Rattle.promise.specs.Bytes.{Event, size, encode, consumed, made}
use Rattle.promise.specs.Holds.{Holds}
use Rattle.promise.proofs.Opened.{sound_of}
use Rattle.promise.specs.Demand2.{NoneRefused}
use Rattle.promise.proofs.Encoding.{encode_length}
use Rattle.promise.proofs.Consumer.{consumed_holds}
use Rattle.promise.proofs.Generation.{consumed_generation}
use Rattle.promise.proofs.Reading.{reads_empty}
use Rattle.promise.proofs.Unrefused.{unrefused2}
use Rattle.promise.proofs.ShutOut2.{fit, early, event}
use Rattle.comparison.specs.Emptying.{Watched, started, watched_emission, Read, Empties, Emptied, NewlyAttachedBy}
use Rattle.comparison.specs.Comparison.{turn, Emission, Emptying, Half, Promise3, DemandBy3}
use Rattle.comparison.proofs.WrongReads.{idle, refusing_read, at_write, ShutOut3}
use Rattle.comparison.proofs.Ends.{consumer, lent, enough, count}
use Rattle.comparison.proofs.Following.{Follows, follows_start, follows_emission, hands_latest}

module _ (buffer : List ℕ) (long : length buffer ≡ 8192 + 256) (any : Reader) where
  abbrev begun : Watched
  begun = started 0 buffer any

  abbrev given : Event
  given = event 0 early

  abbrev stands : Watched
  stands = watched_emission begun (turn given consumer)

  begins : Follows 0 256 begun start
  begins = follows_start 0 256 (omega arith) fit buffer long any

  follows : Follows 0 256 stands (ideal_emission size 256 start given)
  follows = follows_emission 0 256 begun start (turn given consumer) begins

  unrefused : NoneRefused (made begun.state (turn given consumer ∷ []))
  unrefused = unrefused2 0 256 fresh begun.state begins.holds (turn given consumer ∷ []) (omega arith) (omega arith)

  -- the one event kept
  abbrev kept : Numbered Event
  kept = record { sequence = 1; event = given }

  module _ (read : Read) (never : (s : List ℕ) (reader : Reader) (out : List ℕ) → count (read s reader out) ≡ 0)
      (meets : DemandBy3 read Half Promise3) where
    one : Emptied read 0 256 stands
    one =
        (meets 0 256 256 (omega arith) fit fit (omega arith) buffer buffer long long any any (Emission given consumer consumer ∷ Emptying ∷ [])
        (omega arith) unrefused unrefused).0

    -- it has to hand out that event
    due : one.events ≡ kept ∷ []
    unfolding emit latest older
    due = hands_latest 0 256 read stands (ideal_emission size 256 start given) follows one ∙ refl

    shut : ⊥
    shut =
        let ended : Empties read stands.state.ring stands.reader (map (encode 0) (kept ∷ [])) one.end =
        subst (λ (l : List (Numbered Event)). Empties read stands.state.ring stands.reader (map (encode 0) l) one.end) due one.ended in
        let out : List ℕ = lent 32 in
        omega (
          arith,
          ap count (ended.1 consumer out (enough (length (encode 0 kept)) 32 (omega (arith, encode_length 0 kept)))),
          never (consumed stands.state.ring consumer.page) stands.reader out,
        )

  -- a reader attached at the write position is told EMPTY
  at_write_shut : NewlyAttachedBy at_write → ⊥
  unfolding emit latest older
  at_write_shut meets =
      let s : List ℕ = stands.state.ring in
      let ring : Ring Event = (ideal_emission size 256 start given).ring in
      let t : List ℕ = consumed s consumer.page in
      let h : Holds 0 256 t stands.state.writer ring =
      consumed_holds 0 256 s consumer.page stands.state.writer ring consumer.whole follows.holds in
      let reader : Reader = (at_write s any).reader in
      let out : List ℕ = lent 32 in
      let handed = (meets 0 256 s stands.state.writer ring follows.holds any).1.1 consumer out
      (enough (length (encode 0 kept)) 32 (omega (arith, encode_length 0 kept))) in
      let none = reads_empty 0 256 t stands.state.writer ring h reader out (omega (arith, follows.holds.write_is, h.tail_is))
      (omega (arith, follows.holds.write_is)) (omega arith) (consumed_generation s consumer.page consumer.whole (sound_of follows.holds)) in
      omega (arith, ap count (sym handed ∙ none))

pub shut_out3 : ShutOut3
shut_out3 = record {
  answers_empty = shut buffer long any idle (λ s reader out. refl);
  refuses = λ r. shut buffer long any (refusing_read r) (λ s reader out. refl);
  attaches_at_the_end = at_write_shut buffer long any;
}
  where
    buffer : List ℕ
    buffer = replicate 8448 0

    long : length buffer ≡ 8192 + 256
    long = length-replicate {A = ℕ} 8448 0

    any : Reader
    any = reader_with 0 0 0 0
