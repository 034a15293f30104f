-- RULES 5.6: refusal 12 was never given; no emission is answered otherwise now that it has gone; and its number is none's.
use Rattle.std.specs.Prelude.{ℕ, ◌-◌, Ok}
use mathlib.Core.{Path.◌≡◌, Bool.false, List.List}
use lib.{ListN.length}
use Rattle.table_rules.specs.{Refusals.paper_number, Refusals.paper_values, declared.Refusal.Refusal}
use Rattle.page_rules.specs.{Page.opened, declared.Page.Page}
use Rattle.look_rules.specs.{Live.live}
use Rattle.writer_rules.specs.{declared.Writer.Writer}
use Rattle.emit_rules.specs.{Emit.too_large, Emit.emission, declared.Label.Label}
use Rattle.no_room.specs.{Former.no_room, Former.former_walk, Former.leaves, Former.former_emission}

-- of every ring that passes 1 to 6
pub record NoRoomNever : Type 0 where
  -- and every event that isn't dropped: the walk of its emission
  pub emit : (s : List ℕ) (p : Page) → opened s ≡ Ok p → (size : ℕ) → too_large p size ≡ false
      → former_walk (record { cpu = p.cpu_id; capacity = p.capacity; size = size }) (live s p) p.tail_pos 0 ≡ no_room → ⊥
  -- and every buffer for a new ring: the walk of a swap to it, which asks for room for nothing
  pub swap : (s : List ℕ) (p : Page) → opened s ≡ Ok p → (new : List ℕ)
      → former_walk (record { cpu = p.cpu_id; capacity = length new - 8192; size = 0 }) (live s p) p.tail_pos 0 ≡ no_room → ⊥

-- of any bytes and any numbers: the answer, the record handed back, and each byte of the ring
abbrev pub SameEmission : Type 0
SameEmission = (s : List ℕ) (w : Writer) (label : Label) (payload : List ℕ) → former_emission s w label payload ≡ leaves (emission s w label payload)

-- 5.3: no number is used again, and different refusals still differ in number or values
pub record TwelveUnused : Type 0 where
  pub unused : (r : Refusal) → paper_number r ≡ 12 → ⊥
  pub apart : (r t : Refusal) → paper_number r ≡ paper_number t → paper_values r ≡ paper_values t → r ≡ t
