-- Reading bytes that hold a ring until EMPTY, from any place that a reader without bytes has come to: its unread events as bytes are what such a reader has
-- before it (`until_empty`). A newly attached one has all before it.
use Prim.Native.Nat.{ℕ, ◌+◌, ◌<◌}
use native.Mathlib.Nat.{le_refl, zero-add}
use native.Mathlib.Omega.{arith}
use mathlib.Core.Path.{◌≡◌, refl, sym, ap, ◌∙◌, subst, subst₂}
use mathlib.Core.List.{List, map}
use lib.ListN.{length, length-map}
use Rattle.page_rules.specs.Page.{page_of}
use Rattle.event_rules.specs.Event.{sequence}
use Rattle.event_rules.specs.Run.{Each}
use Rattle.writer_rules.specs.declared.Writer.{Writer}
use Rattle.reader_rules.specs.Reader.{reader_with}
use Rattle.reader_rules.specs.Read.{read_out}
use Rattle.reader_rules.specs.declared.Reader.{Reader}
use Rattle.run_rules.specs.Runs.{last_of, total}
use Rattle.run_rules.proofs.Runs.{total_append}
use Rattle.history.specs.Ring.{sequence_of, Numbered, Ring, bytes}
use Rattle.history.proofs.IdealReading.{Place, attach_at, Following, unread}
use Rattle.history.proofs.Reading.{from_lapped, following_splits}
use Rattle.history.proofs.Emptying.{finished, attach_follows}
use Rattle.promise.specs.Bytes.{Event, size, encode}
use Rattle.promise.specs.Holds.{Holds}
use Rattle.promise.proofs.Opened.{sound_of}
use Rattle.promise.proofs.Encoding.{map_append, joined_length, encode_whole}
use Rattle.promise.proofs.Holds.{holds_range, holds_whole}
use Rattle.promise.proofs.Reading.{record_of, attaches}
use Rattle.comparison.specs.Emptying.{Empties, NewlyAttached}
use Rattle.comparison.proofs.UntilEmpty.{until_empty}
use Rattle.reader_rules.specs.declared.Answered.{Answered}

-- an event has a header
pub positive : (e : Event) → 0 < size e
positive e = omega arith

module _ (cpu capacity : ℕ) (s : List ℕ) (w : Writer) (ring : Ring Event) (h : Holds cpu capacity s w ring) where
  abbrev generation : ℕ
  generation = (page_of s).generation

  -- what is unread, one event at each read, and then EMPTY
  pub empties : (r : Place) → Following size ring r → let u = unread size ring r in
      Empties read_out s (record_of (page_of s).generation r) (map (encode cpu) u) (record_of (page_of s).generation (finished size ring r u))
  empties r f =
      let u : List (Numbered Event) = unread size ring r in
      let here = following_splits size ring r f in
      let sizes : total (bytes size) ring.kept ≡ total (bytes size) here.0 + total (bytes size) u =
      ap (total (bytes size)) here.1 ∙ total_append (bytes size) here.0 u in
      let told = encode_whole cpu h.narrow r.last u (omega (arith, sizes, h.holding.fits, holds_range cpu capacity s w ring h)) f.unseen
      (omega (arith, f.known, h.holding.spendable)) in
      let count : r.handed + length (map (encode cpu) u) ≡ r.handed + length u = ap (λ (n : ℕ). r.handed + n) (length-map u (encode cpu)) in
      let end : reader_with (page_of s).write_pos (last_of sequence r.last (map (encode cpu) u)) (r.handed + length (map (encode cpu) u)) generation
      ≡ record_of generation (finished size ring r u) =
      λ i. reader_with (h.write_is i) (told.1 i) (count i) generation in
      subst (λ (q : Reader). Empties read_out s (record_of generation r) (map (encode cpu) u) q) end
      (until_empty s (page_of s) (sound_of h) (map (encode cpu) ring.kept) h.bytes_are
      (subst (λ (n : ℕ). Each n (map (encode cpu) ring.kept)) (sym h.named) (holds_whole cpu capacity s w ring h).0.0)
      (map (encode cpu) u) (record_of generation r) (map (encode cpu) here.0)
      (record {
        cut = ap (map (encode cpu)) here.1 ∙ map_append (encode cpu) here.0 u;
        stands = omega (arith, here.2, h.tail_is, joined_length cpu here.0);
        right = record { counted = f.handed; behind = omega (arith, f.placed, h.write_is) };
        rises = told.0.1;
        known = refl;
      }))

pub newly_attached : NewlyAttached
newly_attached cpu capacity s w ring h any =
    let here = attaches cpu capacity s w ring h any in
    let all : unread size ring (attach_at ring) ≡ ring.kept = from_lapped size ring.tail ring.tail ring.kept (le_refl ring.tail) in
    let last = last_of sequence_of 0 ring.kept in
    let end : record_of (page_of s).generation (finished size ring (attach_at ring) ring.kept)
    ≡ reader_with (page_of s).write_pos last (length ring.kept) (page_of s).generation =
    λ i. reader_with (sym h.write_is i) last (zero-add (length ring.kept) i) (page_of s).generation in (
      ap (λ (a : Answered (Unit {0})). a.answer) here,
      subst₂ (λ (r e : Reader). Empties read_out s r (map (encode cpu) ring.kept) e) (sym (ap (λ (a : Answered (Unit {0})). a.reader) here)) end
          (subst (λ (u : List (Numbered Event)). Empties read_out s (record_of (page_of s).generation (attach_at ring)) (map (encode cpu) u)
          (record_of (page_of s).generation (finished size ring (attach_at ring) u)))
          all (empties cpu capacity s w ring h (attach_at ring) (attach_follows size capacity ring h.holding))),
    )
