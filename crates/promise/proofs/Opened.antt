-- What histories start from: a ring that holds together is opened, so its numbers are sound; and one call of the operation's own.
use Prim.Native.Nat.{ℕ}
use mathlib.Core.List.{List}
use Rattle.page_rules.specs.Page.{page_of}
use Rattle.page_rules.proofs.Facts.{Sound}
use Rattle.page_rules.proofs.Sound.{sound}
use Rattle.writer_rules.specs.declared.Writer.{Writer}
use Rattle.history.specs.Ring.{Ring}
use Rattle.emit_rules.specs.Emit.{AfterEmit}
use Rattle.promise.specs.Bytes.{Event, State, Turn, called, operation}
use Rattle.promise.specs.Holds.{Holds}

pub sound_of : {cpu capacity : ℕ} {s : List ℕ} {w : Writer} {ring : Ring Event} → Holds cpu capacity s w ring → Sound s (page_of s)
sound_of {s = s} h = sound s (page_of s) h.opens

abbrev pub emitted : State → Turn → AfterEmit
emitted = called operation
