-- What the functions that compare are told, and tell each other.
use Prim.Native.Nat.{ℕ, ◌≤◌, ◌<◌}
use mathlib.Core.Path.{◌≡◌}
use mathlib.Core.List.{List}
use lib.ListN.{length, get_or}

-- both have these first elements, and each is the other's
pub record Alike (xs ys : List ℕ) (n : ℕ) : Type 0 where
  pub within : n ≤ length xs
  pub within' : n ≤ length ys
  pub each : (k : ℕ) → k < n → get_or xs k 0 ≡ get_or ys k 0
