-- No call changes the page's generation, nor does the consumer: it isn't among what a call changes of the bytes.
use Prim.Native.Nat.{ℕ}
use native.Mathlib.Omega.{arith}
use mathlib.Core.Path.{◌≡◌, ap, ◌∙◌}
use mathlib.Core.List.{List}
use lib.ListN.{length}
use Rattle.word_rules.specs.Number.{number}
use Rattle.page_rules.specs.Page.{page_of}
use Rattle.page_rules.proofs.Facts.{Sound}
use Rattle.page_rules.specs.declared.Page.{Page}
use Rattle.page_rules.proofs.Sound.{sound_length}
use Rattle.history.specs.Ring.{Ring}
use Rattle.promise.specs.Bytes.{Event, State, Turn, consumed, after}
use Rattle.promise.specs.Holds.{Holds}
use Rattle.promise.proofs.Opened.{sound_of}
use Rattle.promise.proofs.Consumer.{elsewhere_page, sound_elsewhere}
use Rattle.promise.proofs.Layers.{layer_number, uncalled_number}
use Rattle.promise.proofs.Demand2.{same_calls}

pub consumed_generation : (s page : List ℕ) → length page ≡ 4096 → Sound s (page_of s) → (page_of (consumed s page)).generation ≡ (page_of s).generation
consumed_generation s page whole h =
    ap (λ (p : Page). p.generation)
    (elsewhere_page s (consumed s page) (sound_elsewhere s (page_of s) h page whole))

module _ (cpu capacity : ℕ) (s : State) (ring : Ring Event) (h : Holds cpu capacity s.ring s.writer ring) where
  -- so it stands through a history, whatever the consumer writes
  pub generation_stays : (turns : List Turn) → (page_of (after s turns).ring).generation ≡ (page_of s.ring).generation
  unfolding page_of
  generation_stays turns =
      ap (λ (r : List ℕ). number r 32 8) (same_calls cpu capacity turns s ring h).2
      ∙ layer_number _ _ _ _ _ _ _ 32 8 tt (omega arith)
      ∙ uncalled_number turns s.ring (omega (arith, sound_length s.ring (page_of s.ring) (sound_of h))) 32 8 (omega arith)
