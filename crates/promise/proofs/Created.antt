-- A created ring with a record of zeros holds the fresh ring, so the second demand begins there.
use Prim.Native.Nat.{ℕ, ◌+◌, ◌-◌, ◌^◌, ◌<◌}
use native.Mathlib.Omega.{arith}
use mathlib.Core.Path.{◌≡◌, refl, sym, ap, ◌∙◌, subst}
use mathlib.Core.Bool.{true, not}
use mathlib.Core.List.{List, [], map}
use lib.ListN.{length}
use Rattle.std.specs.Prelude.{Ok}
use Rattle.capacity_rules.specs.Capacity.{allowed}
use Rattle.page_rules.specs.Page.{page_of}
use Rattle.page_rules.proofs.Facts.{Sound}
use Rattle.page_rules.specs.Fresh.{blank}
use Rattle.page_rules.specs.declared.Page.{Page}
use Rattle.page_rules.proofs.Fresh.{blank_sound}
use Rattle.page_rules.proofs.Sound.{opens_sound}
use Rattle.region_rules.specs.Region.{bytes_at}
use Rattle.event_rules.specs.Run.{joined}
use Rattle.look_rules.specs.Live.{rest, live}
use Rattle.writer_rules.specs.Writer.{zeros}
use Rattle.writer_rules.proofs.Laws.{zeros_numbers, zeros_right}
use Rattle.create_rules.specs.Create.{wrong_size, created, after_create}
use Rattle.create_rules.proofs.Laws.{size_passed}
use Rattle.history.specs.Ring.{fresh}
use Rattle.history.proofs.Emission.{fresh_holds}
use Rattle.promise.specs.Bytes.{size, encode}
use Rattle.promise.specs.Holds.{Holds}
use Rattle.promise.specs.Demand2.{created_state, Fresh2}
use Rattle.promise.proofs.Layers.{blank_small}
use Rattle.promise.proofs.Demand2.{demand2}

module _ (cpu capacity : ℕ) (narrow : cpu < 2 ^ 16) (fit : allowed capacity ≡ true) where
  abbrev clean : List ℕ
  clean = blank cpu capacity 1

  abbrev page : Page
  page = record { cpu_id = cpu; capacity = capacity; generation = 1; write_pos = 0; tail_pos = 0 }

  blank_opens : Sound clean page
  blank_opens = blank_sound cpu capacity 1 narrow fit (omega arith) (omega arith)

  says : page ≡ page_of clean
  says = blank_opens.says

  nothing_live : live clean page ≡ joined (map (encode cpu) [])
  unfolding live rest bytes_at joined
  nothing_live = refl

  pub blank_holds : Holds cpu capacity (blank cpu capacity 1) zeros fresh
  blank_holds = record {
    narrow = narrow;
    opens = opens_sound _ _ (subst (Sound clean) says blank_opens);
    bytewise = λ i low. blank_small cpu capacity 1 i;
    named = sym (ap (λ (p : Page). p.cpu_id) says);
    sized = sym (ap (λ (p : Page). p.capacity) says);
    tail_is = sym (ap (λ (p : Page). p.tail_pos) says);
    write_is = sym (ap (λ (p : Page). p.write_pos) says);
    bytes_are = ap (live clean) (sym says) ∙ nothing_live;
    last_is = zeros_numbers.last_is;
    dropped_is = zeros_numbers.dropped_is;
    overwritten_is = zeros_numbers.overwritten_is;
    right = zeros_right;
    holding = fresh_holds size capacity;
  }

  module _ (buffer : List ℕ) (long : length buffer ≡ 8192 + capacity) where
    made_new : (created buffer ≡ Ok tt) × (after_create cpu buffer ≡ blank cpu capacity 1)
    unfolding wrong_size
    made_new =
        let rest : length buffer - 8192 ≡ capacity = omega arith in
        let passed = size_passed cpu buffer (ap not (ap allowed rest ∙ fit)) in
        (passed.0, passed.1 ∙ ap (λ (n : ℕ). blank cpu n 1) rest)

    pub created_done : created buffer ≡ Ok tt
    created_done = made_new.0

    pub created_blank : after_create cpu buffer ≡ blank cpu capacity 1
    created_blank = made_new.1

    pub created_holds : Holds cpu capacity (after_create cpu buffer) zeros fresh
    created_holds = subst (λ (s : List ℕ). Holds cpu capacity s zeros fresh) (sym created_blank) blank_holds

pub fresh2 : Fresh2
fresh2 cpu capacity narrow fit buffer long turns = (
  created_done cpu capacity narrow fit buffer long,
  demand2 cpu capacity fresh (created_state cpu buffer) (created_holds cpu capacity narrow fit buffer long) turns,
)
