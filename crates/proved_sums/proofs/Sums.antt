-- The table: each line is computed on the ring without bytes, and the promises carry it to the bytes.
use Prim.Native.Nat.{ℕ, ◌+◌, ◌≤◌}
use native.Mathlib.Omega.{arith}
use mathlib.Core.Path.{◌≡◌, refl, ap, ap₂, ◌∙◌}
use mathlib.Core.Bool.{true}
use mathlib.Core.List.{List, [], ◌∷◌, ◌++◌}
use lib.ListN.{length, take, drop, length-append}
use lib.Seq.{drop_at}
use Rattle.std.specs.Prelude.{Ok}
use Rattle.capacity_rules.specs.Capacity.{allowed, power_among}
use Rattle.page_rules.specs.Page.{page_of}
use Rattle.create_rules.specs.Create.{after_create}
use Rattle.reader_rules.specs.Reader.{missed, reader_with}
use Rattle.reader_rules.specs.Attach.{attached}
use Rattle.reader_rules.specs.Read.{AfterRead, read_out}
use Rattle.reader_rules.specs.declared.Reader.{Reader}
use Rattle.reader_rules.specs.declared.Reading.TheVariants as reading
use Rattle.reader_rules.proofs.Life.{says_with, moved_nowhere, handed_says}
use Rattle.writer_rules.specs.Writer.{zeros}
use Rattle.writer_rules.specs.declared.Writer.{Writer}
use Rattle.run_rules.specs.Runs.{latest, older}
use Rattle.history.specs.Ring.{Numbered, Ring, fresh, write}
use Rattle.history.proofs.Ideal.{emit, swap as idealSwap}
use Rattle.history.proofs.Ideal.{calls, after}
use Rattle.promise.specs.Bytes.{Event, size, Turn}
use Rattle.promise.specs.Holds.{Holds}
use Rattle.promise.proofs.Opened.{sound_of}
use Rattle.promise.specs.Swaps.{swap, swapped}
use Rattle.promise.proofs.Swaps.{swapped_holds, new_generation, old_generation}
use Rattle.promise.proofs.Reading.{attaches as attach-held, event_at, reads_event, reads_empty}
use Rattle.promise.proofs.Encoding.{encode_length}
use Rattle.proved_sums.specs.Lives.{cut, paid, lived, Shows}
use Rattle.proved_sums.specs.Sums.{one, two, three, four, five, ten, counted, standing, answering, Reads, numbered_bytes, AllSums}
use Rattle.proved_sums.proofs.Shown.{numbers, Counting, shows}
use Rattle.proved_sums.proofs.Lived.{reached, begins, first_generation, lived_holds, lived_shows, lived_answers, lived_generation}
use Rattle.proved_sums.proofs.Stretches.{stretches}
use Rattle.proved_sums.proofs.AnySize.{any_size_ends, any_size_fails}

module _ (given : ℕ → Turn) (buffer : ℕ → List ℕ) (sized : (capacity : ℕ) → length (buffer capacity) ≡ 8192 + capacity) where
  -- ---- line 4: where event 7 lies

  abbrev event : ℕ → Numbered Event
  event n = record { sequence = n; event = paid 96 (given n).event }

  wraps : (take 96 (drop (8192 + 160) (lived given buffer 256 four).ring) ≡ take 96 (numbered_bytes given 7))
      × (take 32 (drop 8192 (lived given buffer 256 four).ring) ≡ drop 96 (numbered_bytes given 7))
  unfolding allowed power_among emit latest older after cut
  wraps =
      let s : List ℕ = (lived given buffer 256 four).ring in
      let h = lived_holds given buffer sized 256 refl four in
      let long : length s ≡ 8192 + 256 = (sound_of h).long ∙ ap (λ (c : ℕ). 8192 + c) h.sized in
      let seven = event_at 3 256 s (lived given buffer 256 four).writer (reached given buffer sized 256 four) h (event 6 ∷ []) (event 7) [] refl in
      stretches s 256 long (omega arith) 416 96 32 (numbered_bytes given 7) seven (omega arith) (omega arith)

  -- ---- line 6

  attaches : (old : Reader) → attached (after_create 3 (buffer 256)) old ≡ record { answer = Ok tt; reader = standing 0 0 0 }
  unfolding allowed power_among
  attaches old =
      attach-held 3 256 (after_create 3 (buffer 256)) zeros fresh (begins given buffer sized 256 refl) old
      ∙ ap (λ (n : ℕ). record { answer = Ok tt; reader = reader_with 0 0 0 n }) (first_generation given buffer sized 256 refl)

  reads : (out : List ℕ) → 128 ≤ length out → Reads (lived given buffer 256 five).ring out (numbered_bytes given 6) (numbered_bytes given 7)
  unfolding allowed power_among emit latest older after cut
  reads out long =
      let s : List ℕ = (lived given buffer 256 five).ring in
      let w : Writer = (lived given buffer 256 five).writer in
      let ring : Ring Event = reached given buffer sized 256 five in
      let h : Holds 3 256 s w ring = lived_holds given buffer sized 256 refl five in
      let tail : (page_of s).tail_pos ≡ 288 = h.tail_is in
      let six : length (numbered_bytes given 6) ≡ 128 = encode_length 3 (event 6) in
      let next : List ℕ = numbered_bytes given 6 ++ drop 128 out in
      let reads_six = reads_event 3 256 s w ring h [] (event 6) (event 7 ∷ []) refl (omega arith) in
      let reads_seven = reads_event 3 256 s w ring h (event 6 ∷ []) (event 7) [] refl (omega arith) in
      let first : read_out s (standing 0 0 0) out ≡ answering (Ok (reading.Event 128)) (standing 416 6 1) next =
      reads_six (standing 0 0 0) out (omega arith) (omega arith) (omega arith) (omega arith) long
      ∙ ap (λ (r : Reader). answering (Ok (reading.Event 128)) r next) (says_with (handed_says 416 6 (standing 0 0 0))) in
      let second : read_out s (standing 416 6 1) next ≡ answering (Ok (reading.Event 128)) (standing 544 7 2) (numbered_bytes given 7 ++ drop 128 out) =
      reads_seven (standing 416 6 1) next (omega arith) (omega arith) (omega arith) (omega arith)
      (omega (arith, length-append (numbered_bytes given 6) (drop 128 out), six))
      ∙ ap₂ (λ (r : Reader) (l : List ℕ). answering (Ok (reading.Event 128)) r (numbered_bytes given 7 ++ l))
      (says_with (handed_says 544 7 (standing 416 6 1))) (drop_at (numbered_bytes given 6) (drop 128 out) 128 six) in
      record {
        first = first;
        first_missed = ap (λ (o : AfterRead). missed o.answered.reader) first ∙ refl;
        second = second;
        second_missed = ap (λ (o : AfterRead). missed o.answered.reader) second ∙ refl;
        third = reads_empty 3 256 s w ring h (standing 544 7 2) (numbered_bytes given 7 ++ drop 128 out) (omega arith) (omega arith) (omega arith)
            (lived_generation given buffer sized 256 refl five)
            ∙ ap (λ (r : Reader). answering (Ok reading.Empty) r (numbered_bytes given 7 ++ drop 128 out)) (moved_nowhere 544 (standing 544 7 2) refl);
      }

  -- ---- lines 7 to 9

  module _ (before capacity : ℕ) (old : allowed before ≡ true) (fit : allowed capacity ≡ true) (lengths : List ℕ) where
    abbrev ring : Ring Event
    ring = reached given buffer sized before lengths

    generation : (page_of (lived given buffer before lengths).ring).generation ≡ 1
    generation = lived_generation given buffer sized before old lengths

    swap_shows : {tail far last dropped overwritten : ℕ} {kept : List ℕ} → (idealSwap size capacity ring).tail ≡ tail
        → write size (idealSwap size capacity ring) ≡ far → numbers (idealSwap size capacity ring).kept ≡ kept
        → Counting (idealSwap size capacity ring) last dropped overwritten
        → Shows (swapped (lived given buffer before lengths) (buffer capacity)) capacity tail far kept (counted last dropped overwritten)
    swap_shows =
        shows capacity (swapped (lived given buffer before lengths) (buffer capacity)) (idealSwap size capacity ring)
        (swapped_holds 3 before (lived given buffer before lengths) ring (lived_holds given buffer sized before old lengths)
        (buffer capacity) capacity (sized capacity) fit (omega (arith, generation)))

    second_generation : ((page_of (swap (lived given buffer before lengths) (buffer capacity)).new).generation ≡ 2)
        × ((page_of (swap (lived given buffer before lengths) (buffer capacity)).old).generation ≡ 2)
    second_generation =
        let h = lived_holds given buffer sized before old lengths in
        let s = lived given buffer before lengths in (
          omega (arith, generation, new_generation 3 before s ring h (buffer capacity) capacity (sized capacity) fit (omega (arith, generation))),
          omega (arith, generation, old_generation 3 before s ring h (buffer capacity) capacity (sized capacity) fit (omega (arith, generation))),
        )

pub sums : AllSums
unfolding allowed power_among emit latest older after calls cut
sums given buffer sized = record {
  line1 = lived_shows given buffer sized 256 refl one refl refl refl (refl, (refl, refl));
  line2 = lived_shows given buffer sized 256 refl two refl refl refl (refl, (refl, refl));
  line3 = lived_shows given buffer sized 256 refl three refl refl refl (refl, (refl, refl));
  line4 = (lived_shows given buffer sized 256 refl four refl refl refl (refl, (refl, refl)), (wraps given buffer sized).0, (wraps given buffer sized).1);
  line5 = (lived_answers given buffer sized 256 refl five ∙ refl, lived_shows given buffer sized 256 refl five refl refl refl (refl, (refl, refl)));
  line6 = (attaches given buffer sized, reads given buffer sized);
  line7 = (
    swap_shows given buffer sized 256 512 refl refl five refl refl refl (refl, (refl, refl)),
    (second_generation given buffer sized 256 512 refl refl five).0,
    (second_generation given buffer sized 256 512 refl refl five).1,
  );
  line8 = swap_shows given buffer sized 512 256 refl refl (0 ∷ 224 ∷ []) refl refl refl (refl, (refl, refl));
  line9 = swap_shows given buffer sized 1024 256 refl refl (480 ∷ []) refl refl refl (refl, (refl, refl));
  line10 = (
    lived_shows given buffer sized 256 refl ten refl refl refl (refl, (refl, refl)),
    lived_shows given buffer sized 512 refl ten refl refl refl (refl, (refl, refl)),
    any_size_ends,
    any_size_fails given buffer sized,
  );
}
