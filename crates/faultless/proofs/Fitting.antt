-- Events of bytes fit a recording: event_size and sequence are numbers of four and of eight bytes, so each event in turn is small enough.
use Prim.Native.Nat.{ℕ, zero, suc, ◌+◌, ◌^◌, ◌<◌}
use native.Mathlib.Omega.{arith}
use mathlib.Core.Path.{sym, subst}
use mathlib.Core.List.{List, [], ◌∷◌, ◌++◌}
use lib.ListN.{length, get_or, take, drop}
use lib.Seq.{get_or-drop, drop-append_seam}
use Rattle.word_rules.proofs.Reading.{number_bound}
use Rattle.run_rules.specs.Runs.{last_of}
use Rattle.event_rules.specs.Event.{sequence}
use Rattle.event_rules.specs.Run.{joined, Each}
use Rattle.event_rules.proofs.Front.{size_front, sequence_front}

-- each element is a byte
abbrev pub Bytes : List ℕ → Type 0
Bytes bs = (i : ℕ) → get_or bs i 0 < 256

pub drop_bytes : (k : ℕ) (bs : List ℕ) → Bytes bs → Bytes (drop k bs)
drop_bytes k bs small i = subst (λ (n : ℕ). n < 256) (sym (get_or-drop k bs i 0)) (small (k + i))

pub take_bytes : (k : ℕ) (bs : List ℕ) → Bytes bs → Bytes (take k bs)
take_bytes zero bs small i = omega arith
take_bytes (suc k) [] small i = small i
take_bytes (suc k) (x ∷ xs) small zero = small 0
take_bytes (suc k) (x ∷ xs) small (suc i) = take_bytes k xs (λ j. small (suc j)) i

pub sizes_more : (event : List ℕ) (events : List (List ℕ)) → length event < 2 ^ 32 → ((i : ℕ) → length (get_or events i []) < 2 ^ 32)
    → (i : ℕ) → length (get_or (event ∷ events) i []) < 2 ^ 32
sizes_more event events one rest zero = one
sizes_more event events one rest (suc i) = rest i

pub events_fit : (cpu last : ℕ) (events : List (List ℕ)) → Each cpu events → Bytes (joined events) → last < 2 ^ 64
    → (last_of sequence last events < 2 ^ 64) × ((i : ℕ) → length (get_or events i []) < 2 ^ 32)
unfolding joined
events_fit cpu last [] each small low = (low, λ i. omega arith)
events_fit cpu last (e ∷ es) each small low =
    let bs : List ℕ = e ++ joined es in
    let rest : Bytes (joined es) = subst Bytes (drop-append_seam e (joined es)) (drop_bytes (length e) bs small) in
    let size : length e < 2 ^ 32 = omega (arith, size_front cpu e each.0 (joined es), number_bound bs 0 4 small) in
    let above : sequence e < 2 ^ 64 = omega (arith, sequence_front cpu e each.0 (joined es), number_bound bs 8 8 small) in
    let later = events_fit cpu (sequence e) es each.1 rest above in
    (later.0, sizes_more e es size later.1)
