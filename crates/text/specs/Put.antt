-- Text put into a buffer. Definitions alone: nothing is assumed.
use Rattle.std.specs.Prelude.{ℕ, ◌+◌, ◌≤◌}
use mathlib.Core.{Path.◌≡◌, List.List}
use lib.{ListN.length, ListN.take, ListN.drop, Seq.sets}

-- text, put into l from the place `at` on, leaves m; no other byte changes, and `next` is the place behind it
pub record Put (l : List ℕ) (at : ℕ) (text m : List ℕ) (next : ℕ) : Type 0 where
  pub bytes : m ≡ sets l at text
  pub place : next ≡ at + length text

-- The first r bytes of m are text, and behind them m is as l. `counted` follows from `within`; lending `&m[..r]` asks for both.
pub record Front (l text m : List ℕ) (r : ℕ) : Type 0 where
  pub within : r ≤ length m
  pub counted : r ≡ length (take r m)
  pub first : take r m ≡ text
  pub rest : drop r m ≡ drop r l
