-- What the consumer writes into bytes 4096 to 8191 is seen through need_wake alone.
use Prim.Native.Nat.{ℕ, ◌+◌, ◌-◌, ◌≤◌, ◌<◌}
use native.Mathlib.Omega.{arith}
use mathlib.Core.Path.{◌≡◌, ap, ◌∙◌}
use mathlib.Core.List.{List, ◌++◌}
use lib.ListN.{length, take, drop, get_or, length-append, length-drop, get_or-append}
use lib.Seq.{length-take-le, get_or-take, get_or-drop, get_or-append-add}
use Rattle.word_rules.specs.Number.{number}
use Rattle.word_rules.proofs.Reading.{number_same, number_one}
use Rattle.page_rules.specs.Page.{page_of}
use Rattle.page_rules.specs.declared.Page.{Page}
use Rattle.page_rules.proofs.Facts.{Sound}
use Rattle.page_rules.proofs.Sound.{opens_sound, sound_length}
use Rattle.page_rules.proofs.Same.{page_same, sound_same}
use Rattle.look_rules.proofs.Laws.{live_same}
use Rattle.writer_rules.specs.declared.Writer.{Writer}
use Rattle.history.specs.Ring.{Ring}
use Rattle.promise.specs.Bytes.{Event, consumed}
use Rattle.promise.specs.Holds.{Holds}
use Rattle.promise.proofs.Opened.{sound_of}

-- two rings that agree outside bytes 4096 to 8191
pub record Elsewhere (s t : List ℕ) : Type 0 where
  pub long : length t ≡ length s
  pub below : (i : ℕ) → i < 4096 → get_or t i 0 ≡ get_or s i 0
  pub beyond : (i : ℕ) → 8192 ≤ i → get_or t i 0 ≡ get_or s i 0

module _ (s t : List ℕ) (same : Elsewhere s t) where
  pub elsewhere_page : page_of t ≡ page_of s
  elsewhere_page = page_same s t same.long (λ i l. same.below i (omega arith))

  pub elsewhere_sound : (p : Page) → Sound s p → Sound t p
  elsewhere_sound = sound_same s t same.long (λ i l. same.below i (omega arith))

  pub elsewhere_number : (at n : ℕ) → at + n ≤ 4096 → number t at n ≡ number s at n
  elsewhere_number at n low = number_same t s at at n (λ i l. same.below (at + i) (omega arith))

  -- whatever the ring holds, it holds still
  elsewhere_holds : (cpu capacity : ℕ) (w : Writer) (ring : Ring Event) → Holds cpu capacity s w ring → Holds cpu capacity t w ring
  elsewhere_holds cpu capacity w ring h = record {
    narrow = h.narrow;
    opens = opens_sound _ _ (rw elsewhere_page (elsewhere_sound (page_of s) (sound_of h)));
    bytewise = λ i low. omega (arith, same.below i low, h.bytewise i low);
    named = rw elsewhere_page h.named;
    sized = rw elsewhere_page h.sized;
    tail_is = rw elsewhere_page h.tail_is;
    write_is = rw elsewhere_page h.write_is;
    bytes_are = rw elsewhere_page (live_same s t same.beyond (page_of s) ∙ h.bytes_are);
    last_is = h.last_is;
    dropped_is = h.dropped_is;
    overwritten_is = h.overwritten_is;
    right = h.right;
    holding = h.holding;
  }

-- ---- the consumer's page put over the ring

module _ (s page : List ℕ) (whole : length page ≡ 4096) (long : 8192 ≤ length s) where
  front : length (take 4096 s) ≡ 4096
  front = length-take-le 4096 s (omega arith)

  pub consumed_elsewhere : Elsewhere s (consumed s page)
  unfolding consumed
  consumed_elsewhere = record {
    long = omega (arith, length-append (take 4096 s) (page ++ drop 8192 s), length-append page (drop 8192 s), length-drop 8192 s, front);
    below = λ i l. get_or-append (take 4096 s) (page ++ drop 8192 s) 0 i (omega (arith, front)) ∙ get_or-take 4096 s i 0 l;
    beyond = λ i l.
        let there : i ≡ length (take 4096 s) + (length page + (i - 8192)) = omega (arith, front) in
        let back : 8192 + (i - 8192) ≡ i = omega arith in
        ap (λ (k : ℕ). get_or (take 4096 s ++ (page ++ drop 8192 s)) k 0) there
        ∙ get_or-append-add (take 4096 s) (page ++ drop 8192 s) (length page + (i - 8192)) 0
        ∙ get_or-append-add page (drop 8192 s) (i - 8192) 0
        ∙ get_or-drop 8192 s (i - 8192) 0
        ∙ ap (λ (k : ℕ). get_or s k 0) back;
  }

  pub consumed_page : (i : ℕ) → 4096 ≤ i → i < 8192 → get_or (consumed s page) i 0 ≡ get_or page (i - 4096) 0
  unfolding consumed
  consumed_page i low high =
      let there : i ≡ length (take 4096 s) + (i - 4096) = omega (arith, front) in
      ap (λ (k : ℕ). get_or (take 4096 s ++ (page ++ drop 8192 s)) k 0) there
      ∙ get_or-append-add (take 4096 s) (page ++ drop 8192 s) (i - 4096) 0
      ∙ get_or-append page (drop 8192 s) 0 (i - 4096) (omega arith)

  -- need_wake is the page's first byte
  pub consumed_wake : number (consumed s page) 4096 1 ≡ get_or page 0 0
  consumed_wake = number_one (consumed s page) 4096 ∙ consumed_page 4096 (omega arith) (omega arith)

-- of a ring that passes
module _ (s : List ℕ) (p : Page) (h : Sound s p) (page : List ℕ) (whole : length page ≡ 4096) where
  pub sound_elsewhere : Elsewhere s (consumed s page)
  sound_elsewhere = consumed_elsewhere s page whole (omega (arith, sound_length s p h))

  pub consumed_sound : Sound (consumed s page) p
  consumed_sound = elsewhere_sound s (consumed s page) sound_elsewhere p h

pub consumed_holds : (cpu capacity : ℕ) (s page : List ℕ) (w : Writer) (ring : Ring Event) → length page ≡ 4096
    → Holds cpu capacity s w ring → Holds cpu capacity (consumed s page) w ring
consumed_holds cpu capacity s page w ring whole h =
    elsewhere_holds s (consumed s page) (sound_elsewhere s (page_of s) (sound_of h) page whole) cpu capacity w ring h
