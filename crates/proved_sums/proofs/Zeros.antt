-- The premises can be met: payloads, buffers and the consumer's page of zero bytes.
use Prim.Native.Nat.{ℕ, ◌+◌}
use native.Mathlib.Omega.{arith}
use mathlib.Core.List.{List, []}
use lib.ListN.{replicate, length-replicate}
use Rattle.promise.specs.Bytes.{Turn}
use Rattle.proved_sums.specs.Sums.{Sums}
use Rattle.proved_sums.proofs.Sums.{sums}

abbrev plain : ℕ → Turn
plain k = record {
  page = replicate 4096 0;
  whole = length-replicate {A = ℕ} 4096 0;
  event = record {
    timestamp = 0;
    type = 1;
    class = 0;
    payload = [];
    timestamp_fits = omega arith;
    type_fits = omega arith;
    class_fits = omega arith;
  };
}

abbrev empty : ℕ → List ℕ
empty capacity = replicate (8192 + capacity) 0

pub zero_sums : Sums plain empty
zero_sums = sums plain empty (λ capacity. length-replicate {A = ℕ} (8192 + capacity) 0)
