-- What the consumer writes into its page changes neither what the ring's page says, nor its events, nor its recording: other bytes decide.
use Prim.Native.Nat.{ℕ}
use mathlib.Core.Path.{◌≡◌, sym, ap, ◌∙◌}
use mathlib.Core.List.{List}
use Rattle.page_rules.specs.declared.Page.{Page}
use Rattle.page_rules.proofs.Facts.{Sound}
use Rattle.event_rules.specs.Run.{sound_run}
use Rattle.look_rules.proofs.Laws.{live_same}
use Rattle.inspect_rules.specs.Inspect.{walked, survey_of, surveyed}
use Rattle.format_rules.specs.Format.{recording}
use Rattle.recording_rules.specs.Recording.{recording_of}
use Rattle.recording_rules.proofs.Whole.{by_page}
use Rattle.promise.specs.Bytes.{consumed}
use Rattle.promise.proofs.Consumer.{sound_elsewhere, consumed_sound}
use Rattle.comparison.specs.Emptying.{Consumer}

module _ (s : List ℕ) (p : Page) (h : Sound s p) (consumer : Consumer) where
  abbrev now : List ℕ
  now = consumed s consumer.page

  consumed_walked : walked now p ≡ walked s p
  unfolding walked
  consumed_walked = ap (sound_run p.cpu_id 0) (live_same s now (sound_elsewhere s p h consumer.page consumer.whole).beyond p)

  pub consumed_stop : (surveyed (consumed s consumer.page) p).stop ≡ (surveyed s p).stop
  unfolding surveyed
  consumed_stop = ap (λ (events : List (List ℕ)). (survey_of p.tail_pos events).stop) consumed_walked

  pub consumed_recording : recording_of (consumed s consumer.page) ≡ recording_of s
  consumed_recording =
      by_page now p (consumed_sound s p h consumer.page consumer.whole)
      ∙ ap (recording p.cpu_id) consumed_walked
      ∙ sym (by_page s p h)
