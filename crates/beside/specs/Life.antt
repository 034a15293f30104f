-- RULES 7.17, 4.4, 2.4: one ring with its one writer, and a reader that copies and confirms beside it. Emissions, copies and confirms come in any order,
-- each the operation's own definition, applied to the bytes and to the record that the call before handed back. Before each call the consumer writes
-- what it likes into bytes 4096 to 8191.
use Rattle.std.specs.Prelude.{ℕ, Result, Ok, Err}
use Rattle.table_rules.specs.declared.Refusal.{Refusal}
use mathlib.Core.{List.List, List.[], List.◌∷◌, List.◌++◌}
use lib.{ListN.take, ListN.drop}
use Rattle.reader_rules.specs.{Attach.attached, declared.Reader.Reader}
use Rattle.slip_rules.specs.{Copy.AfterCopy, Copy.copy_out, Confirm.confirmed}
use Rattle.slip_rules.specs.{declared.Slip.Slip, declared.Copying.Copying, declared.Confirming.Confirming}
use Rattle.slip_rules.specs.declared.Copying.TheVariants as copying
use Rattle.slip_rules.specs.declared.Confirming.TheVariants as confirming
use Rattle.promise.specs.{Bytes.State, Bytes.consumed, Bytes.Turn, Bytes.Made, Bytes.made, Bytes.after, Demand2.created_state}
use Rattle.comparison.specs.{Emptying.Consumer}
use Rattle.reader_rules.specs.declared.Answered.{Answered}

-- what a copy that answered with an event has left: its slip, and the front of the output buffer
pub record Held : Type 0 where
  pub slip : Slip
  pub front : List ℕ

pub record Life : Type 0 where
  pub state : State
  -- every emission since the ring was fresh
  pub calls : List Made
  pub reader : Reader
  -- what copies have left, the latest first
  pub held : List Held
  -- what was confirmed, in order, each as the bytes that its copy had left
  pub events : List (List ℕ)

-- a buffer is lent to a copy; a confirm is of the latest slip but so many, be it an old one or one that was confirmed before
pub data Act : Type 0 where
  Emit : Turn → Act
  Copy : Consumer → List ℕ → Act
  Confirm : Consumer → ℕ → Act

-- ---- the calls

abbrev pub copy_now : Life → Consumer → List ℕ → AfterCopy
copy_now l c out = copy_out (consumed l.state.ring c.page) l.reader out

abbrev pub confirm_now : State → Consumer → Reader → Slip → Answered Confirming
confirm_now s c reader slip = confirmed (consumed s.ring c.page) reader slip

-- ---- what each leaves

abbrev pub held_after : Result Copying Refusal → List ℕ → List Held → List Held
held_after (Ok (copying.Event slip)) out held = record { slip = slip; front = take slip.size out } ∷ held
held_after (Ok copying.Empty) out held = held
held_after (Ok copying.Moved) out held = held
held_after (Err r) out held = held

abbrev pub events_after : Result Confirming Refusal → List ℕ → List (List ℕ) → List (List ℕ)
events_after (Ok confirming.Done) front events = events ++ (front ∷ [])
events_after (Ok confirming.Again) front events = events
events_after (Err r) front events = events

abbrev pub after_emissions : Life → List Turn → Life
after_emissions l turns = record {
  state = after l.state turns;
  calls = l.calls ++ made l.state turns;
  reader = l.reader;
  held = l.held;
  events = l.events;
}

abbrev pub after_copying : Life → AfterCopy → Life
after_copying l a = record {
  state = l.state;
  calls = l.calls;
  reader = a.copied.reader;
  held = held_after a.copied.answer a.out l.held;
  events = l.events;
}

abbrev pub after_confirming : Life → List ℕ → Answered Confirming → Life
after_confirming l front a = record {
  state = l.state;
  calls = l.calls;
  reader = a.reader;
  held = l.held;
  events = events_after a.answer front l.events;
}

-- of the first of some slips; where there is none no call is made
abbrev pub confirm_first : Life → Consumer → List Held → Life
confirm_first l c [] = l
confirm_first l c (h ∷ others) = after_confirming l h.front (confirm_now l.state c l.reader h.slip)

abbrev pub acted : Life → Act → Life
acted l (Emit t) = after_emissions l (t ∷ [])
acted l (Copy c out) = after_copying l (copy_now l c out)
acted l (Confirm c n) = confirm_first l c (drop n l.held)

unfoldable pub through_acts : Life → List Act → Life
through_acts l [] = l
through_acts l (a ∷ acts) = through_acts (acted l a) acts

-- a fresh ring and any emissions, and then the reader is attached; `any` is the record that attaching was given
abbrev pub attached_after : ℕ → List ℕ → List Turn → Consumer → Reader → Life
attached_after cpu buffer turns c any = record {
  state = after (created_state cpu buffer) turns;
  calls = made (created_state cpu buffer) turns;
  reader = (attached (consumed (after (created_state cpu buffer) turns).ring c.page) any).reader;
  held = [];
  events = [];
}
