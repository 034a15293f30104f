-- RULES 2.3, 2.4: two rings that differ only in bytes that don't count get the same answers. Of any bytes s and t, a ring or not.
use Rattle.std.specs.Prelude.{ℕ, ◌≤◌, ◌<◌, Err}
use mathlib.Core.{Path.◌≡◌, Logic.◌⊎◌, Logic.◌↔◌, List.List}
use lib.{ListN.length, ListN.get_or}
use Rattle.table_rules.specs.{declared.Refusal.Refusal}
use Rattle.page_rules.specs.{Page.page_of}
use Rattle.writer_rules.specs.{declared.Writer.Writer}
use Rattle.create_rules.specs.{Create.created, Create.after_create}
use Rattle.emit_rules.specs.{Emit.emission, declared.Label.Label}
use Rattle.inspect_rules.specs.{Inspect.inspected}
use Rattle.reader_rules.specs.{Attach.attached, Read.read_out, declared.Reader.Reader}
use Rattle.slip_rules.specs.{Copy.copy_out, Confirm.confirmed, declared.Slip.Slip}
use Rattle.follow_rules.specs.{Follow.followed}
use Rattle.swap_rules.specs.{Swap.refused_swap, Swap.exchange}
use Rattle.recording_rules.specs.{Recording.recorded}
use Rattle.verification_rules.specs.{Verify.verified}
use Rattle.console_rules.specs.{Console.emit_call}

-- 2.3, 2.4: the bytes that count: the first 192, need_wake, and the data
abbrev pub Counts : ℕ → Type 0
Counts i = (i < 192) ⊎ ((i ≡ 4096) ⊎ (8192 ≤ i))

pub record Agree (s t : List ℕ) : Type 0 where
  pub long : length t ≡ length s
  pub bytes : (i : ℕ) → Counts i → get_or t i 0 ≡ get_or s i 0

-- 7.14: the page alone, and of the generation no more than that 0 is refused with the layout
pub record AgreeButGeneration (s t : List ℕ) : Type 0 where
  pub long : length t ≡ length s
  pub bytes : (i : ℕ) → (i < 32) ⊎ ((40 ≤ i) × (i < 192)) → get_or t i 0 ≡ get_or s i 0
  pub zero : ((page_of t).generation ≡ 0) ↔ ((page_of s).generation ≡ 0)

-- what is left of them, s' and t', differs at most where they did, so that two that agreed agree still
pub record AgreeStill (s t s' t' : List ℕ) : Type 0 where
  pub long : length s' ≡ length s
  pub long' : length t' ≡ length t
  pub bytes : (i : ℕ) → get_or t i 0 ≡ get_or s i 0 → get_or t' i 0 ≡ get_or s' i 0

-- both are made the same ring, or a refusal leaves both as they came
abbrev pub MadeAlike : (Refusal → Type 0) → List ℕ → List ℕ → List ℕ → List ℕ → Type 0
MadeAlike refused s t s' t' = (t' ≡ s') ⊎ ((r : Refusal) × refused r × (s' ≡ s) × (t' ≡ t))

pub record LookedAt (s t : List ℕ) : Type 0 where
  -- of a buffer to be made a ring the length alone
  pub create : length t ≡ length s → (cpu : ℕ)
      → (created t ≡ created s) × MadeAlike (λ r. created s ≡ Err r) s t (after_create cpu s) (after_create cpu t)
  pub emit : Agree s t → (w : Writer) (label : Label) (payload : List ℕ)
      → ((emission t w label payload).answer ≡ (emission s w label payload).answer)
      × AgreeStill s t (emission s w label payload).ring (emission t w label payload).ring
  pub inspect : Agree s t → inspected t ≡ inspected s
  pub attach : Agree s t → (reader : Reader) → attached t reader ≡ attached s reader
  -- the output buffer too
  pub read : Agree s t → (reader : Reader) (out : List ℕ) → read_out t reader out ≡ read_out s reader out
  -- the output buffer too
  pub copy : Agree s t → (reader : Reader) (out : List ℕ) → copy_out t reader out ≡ copy_out s reader out
  -- neither need_wake nor a byte of the data
  pub confirm : AgreeButGeneration s t → (reader : Reader) (slip : Slip) → confirmed t reader slip ≡ confirmed s reader slip
  pub follow : Agree s t → (reader : Reader) → followed t reader ≡ followed s reader
  pub swap : Agree s t → (new new' : List ℕ) → length new' ≡ length new → (w : Writer)
      → ((exchange t new' w).answer ≡ (exchange s new w).answer)
      × AgreeStill s t (exchange s new w).old (exchange t new' w).old
      × MadeAlike (λ r. (exchange s new w).answer ≡ refused_swap r w) new new' (exchange s new w).new (exchange t new' w).new
  -- the output buffer too
  pub recording : Agree s t → (placed : ℕ) (out : List ℕ) → recorded t placed out ≡ recorded s placed out
  pub verify : Agree s t → (file : List ℕ) → verified t file ≡ verified s file
  -- of C calls; those for create and inspect give the numbers of the answers above
  pub emit_c : Agree s t → (bytes : List ℕ) (timestamp type class : ℕ) (payload : List ℕ)
      → ((emit_call t bytes timestamp type class payload).answer ≡ (emit_call s bytes timestamp type class payload).answer)
      × ((emit_call t bytes timestamp type class payload).kept ≡ (emit_call s bytes timestamp type class payload).kept)
      × AgreeStill s t (emit_call s bytes timestamp type class payload).ring (emit_call t bytes timestamp type class payload).ring
