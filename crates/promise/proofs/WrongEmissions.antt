-- Wrong emissions by name, and that none of them meets the second demand as a statement: `Only2` says it of all that differ after some history.
use Prim.Native.Nat.{ℕ, ◌+◌, ◌<◌}
use mathlib.Core.{Bool.cond}
use lib.{ListN.length, ListN.set, Dec.eqb}
use Rattle.table_rules.specs.{declared.Refusal.Refusal}
use Rattle.word_rules.specs.{Number.put, Fields.put_all}
use Rattle.page_rules.specs.{Page.page_of, Page.positions, Wake.futex_counter}
use Rattle.writer_rules.specs.{Writer.writer_with}
use Rattle.emit_rules.specs.{Emit.refuse, Emit.dropped, Emit.emission}
use Rattle.promise.specs.{Bytes.Emission, Demand2.FreshBy2}

-- refuses everything
abbrev pub refusing_emission : Refusal → Emission
refusing_emission r s w label payload = refuse s w r

-- always answers DROPPED
abbrev pub dropping : Emission
dropping s w label payload = dropped s w label

-- answers as it should, and writes nothing
abbrev pub silent : Emission
silent s w label payload = record { answer = (emission s w label payload).answer; ring = s }

-- moves the write position, and stores no event
abbrev pub moving : Emission
moving s w label payload = record {
  answer = (emission s w label payload).answer;
  ring = put_all s (positions ((page_of s).write_pos + (32 + length payload)) (page_of s).tail_pos);
}

-- stores the first event, and only moves the position later
abbrev pub storing_first : Emission
storing_first s w label payload = cond (eqb w.last 0) (emission s w label payload) (moving s w label payload)

-- does all as it should, and counts too many as dropped or overwritten
abbrev pub inventing : ℕ → ℕ → Emission
inventing drops overwrites s w label payload = record {
  answer = record {
    outcome = (emission s w label payload).answer.outcome;
    writer =
        let right = (emission s w label payload).answer.writer in
        writer_with right.last (right.dropped + drops) (right.overwritten + overwrites);
  };
  ring = (emission s w label payload).ring;
}

-- answers as it should, and never raises futex_counter
abbrev pub unraising : Emission
unraising s w label payload = record {
  answer = (emission s w label payload).answer;
  ring = put (emission s w label payload).ring 128 4 (futex_counter s);
}

-- does all as it should, and writes a byte of the first page that nobody looks at
abbrev pub scribbling : Emission
scribbling s w label payload = record { answer = (emission s w label payload).answer; ring = set (emission s w label payload).ring 192 1 }

pub record ShutOut2 : Type 0 where
  pub refuses : (r : Refusal) → FreshBy2 (refusing_emission r) → ⊥
  pub drops : FreshBy2 dropping → ⊥
  pub writes_nothing : FreshBy2 silent → ⊥
  pub only_moves : FreshBy2 moving → ⊥
  pub stores_first : FreshBy2 storing_first → ⊥
  pub invents : (drops overwrites : ℕ) → 0 < drops + overwrites → FreshBy2 (inventing drops overwrites) → ⊥
  pub never_raises : FreshBy2 unraising → ⊥
  pub scribbles : FreshBy2 scribbling → ⊥
