-- The buffer has room for a line, so a view that goes on has used a byte (`says_moves`).
use Prim.Native.Nat.{ℕ}
use native.Mathlib.Omega.{arith}
use mathlib.Core.Path.{◌≡◌}
use mathlib.Core.Bool.{true, false}
use lib.ListN.{length}
use Rattle.events_text.proofs.Turns.{says_moves}
use borrow.Author.Rules.{rules}
use Rattle.events.proofs.write_some.Goals.{After-shared_slice_known-1}
use Rattle.events.proofs.write_some.Goals as goal

apart : false ≡ true → ⊥
apart e = let z : ◌≡◌ {A = ℕ} 0 1 = cc in omega arith

-- what the listener keeps has 32 bytes, as its type says
long-at : (c : After-shared_slice_known-1) → length c.args.showing.listener.kept ≡ 32
long-at c = search rules

pub returns-then-write_all : goal.returns-then-write_all
returns-then-write_all c = let a = c.args in
    let says = c.show-shown.ensures.says in
    record {
      used_in_bounds = c.show-shown.ensures.used_in_bounds;
      used_nonzero =
          λ on some. says_moves _ a.showing a.piece.now c.show-shown.result says (long-at (goal.at.returns-then-write_all c).After-shared_slice_known-1) (omega arith) on some;
    }
