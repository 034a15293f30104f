-- RULES 8.10: what a program writes, and whether it is what was asked for.
use Rattle.std.specs.Prelude.{ℕ}
use mathlib.Core.{Path.◌≡◌, List.List}
use Rattle.text.specs.{Put.Front}
use Rattle.refusal_text.specs.{declared.Kind.Kind, declared.Replied.Replied}
use Rattle.refusal_text.specs.declared.Kind.TheVariants.{Wanted, Other, Hindrance}

pub record Reply : Type 0 where
  pub kind : Kind
  pub bytes : List ℕ

abbrev pub wanted : List ℕ → Reply
wanted bytes = record { kind = Wanted; bytes = bytes }

abbrev pub other : List ℕ → Reply
other bytes = record { kind = Other; bytes = bytes }

abbrev pub hindrance : List ℕ → Reply
hindrance line = record { kind = Hindrance; bytes = line }

-- a buffer was l and is m: the reply's bytes stand at its front, and r says their number and the kind
pub record Stands (l : List ℕ) (reply : Reply) (m : List ℕ) (r : Replied) : Type 0 where
  pub kind : r.kind ≡ reply.kind
  pub front : Front l reply.bytes m r.count
