-- Operations that write nothing to the ring are functions of its rows, its page and the bytes from a position.
use Prim.Native.Nat.{ℕ, ◌≤◌, ◌<◌}
use native.Mathlib.Omega.{arith}
use mathlib.Core.Path.{◌≡◌, ap}
use mathlib.Core.Logic.{inl, inr}
use mathlib.Core.List.{List}
use lib.ListN.{get_or}
use Rattle.page_rules.specs.Page.{page_of, page_rows, on_ring}
use Rattle.page_rules.specs.declared.Page.{Page}
use Rattle.page_rules.proofs.Same as pages
use Rattle.look_rules.specs.Live.{live}
use Rattle.look_rules.proofs.Laws as looks
use Rattle.event_rules.specs.Run.{sound_run}
use Rattle.inspect_rules.specs.Inspect.{walked, surveyed, damaged, damage_found, inspected_on, inspected}
use Rattle.reader_rules.specs.Attach.{attached}
use Rattle.reader_rules.specs.Read.{next_at, next_opened, read_out}
use Rattle.reader_rules.specs.declared.Reader.{Reader}
use Rattle.slip_rules.specs.Copy.{copy_out}
use Rattle.follow_rules.specs.Follow.{onward, follow_rows, followed_on, followed}
use Rattle.recording_rules.specs.Recording.{recording_of, beyond_end, recording_rows, recorded_on, recorded}
use Rattle.verification_rules.specs.Verify.{verified_on, verified}
use Rattle.looked_at.specs.LookedAt.{Agree}

module _ {s t : List ℕ} (g : Agree s t) where
  front_same : (i : ℕ) → i < 192 → get_or t i 0 ≡ get_or s i 0
  front_same i below = g.bytes i (inl (omega arith))

  data_same : (i : ℕ) → 8192 ≤ i → get_or t i 0 ≡ get_or s i 0
  data_same i beyond = g.bytes i (inr (inr (omega arith)))

  pub page_same : page_of t ≡ page_of s
  page_same = pages.page_same s t g.long front_same

  pub rows_same : page_rows t ≡ page_rows s
  rows_same = pages.rows_same s t g.long front_same

  pub live_same : (p : Page) → live t p ≡ live s p
  live_same = looks.live_same s t data_same

  pub walked_same : (p : Page) → walked t p ≡ walked s p
  unfolding walked
  walked_same p = ap (sound_run p.cpu_id 0) (live_same p)

  pub surveyed_same : (p : Page) → surveyed t p ≡ surveyed s p
  unfolding surveyed
  surveyed_same p = rw (walked_same p)

  pub damage_same : (p : Page) → damage_found t p ≡ damage_found s p
  unfolding damage_found
  damage_same p = rw (surveyed_same p, looks.rest_same s t data_same p)

  pub inspected_same : inspected t ≡ inspected s
  unfolding on_ring inspected inspected_on damaged
  inspected_same = rw (rows_same, page_same, surveyed_same (page_of s), damage_same (page_of s))

  pub attached_same : (reader : Reader) → attached t reader ≡ attached s reader
  unfolding on_ring attached
  attached_same reader = rw (rows_same, page_same)

  pub read_same : (reader : Reader) (out : List ℕ) → read_out t reader out ≡ read_out s reader out
  unfolding on_ring read_out next_opened next_at
  read_same reader out = rw (rows_same, page_same, looks.rest_same s t data_same (page_of s))

  pub copied_same : (reader : Reader) (out : List ℕ) → copy_out t reader out ≡ copy_out s reader out
  unfolding on_ring copy_out next_opened next_at
  copied_same reader out = rw (rows_same, page_same, looks.rest_same s t data_same (page_of s))

  pub followed_same : (reader : Reader) → followed t reader ≡ followed s reader
  unfolding on_ring followed followed_on follow_rows onward damaged
  followed_same reader = rw (rows_same, page_same, surveyed_same (page_of s), damage_same (page_of s), walked_same (page_of s))

  pub recording_same : recording_of t ≡ recording_of s
  unfolding recording_of
  recording_same = rw (page_same, walked_same (page_of s))

  pub recorded_same : (placed : ℕ) (out : List ℕ) → recorded t placed out ≡ recorded s placed out
  unfolding on_ring recorded recorded_on recording_rows beyond_end damaged
  recorded_same placed out = rw (rows_same, page_same, surveyed_same (page_of s), damage_same (page_of s), recording_same)

  pub verified_same : (file : List ℕ) → verified t file ≡ verified s file
  unfolding on_ring verified verified_on damaged
  verified_same file = rw (rows_same, page_same, surveyed_same (page_of s), damage_same (page_of s), recording_same)
