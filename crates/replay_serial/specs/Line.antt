-- What a script's line leaves of the listener (tests/second/README.md, "A script"): `serial` and `end` begin another file, `feed` feeds the bytes that its
-- field spells, and leaves the listener where it spells none.
use Rattle.std.specs.Prelude.{ℕ, is_some}
use mathlib.Core.{Bool.cond, List.List}
use Rattle.script.specs.{Field.field_of, Hex.hex_count, Hex.hex_bytes}
use Rattle.serial_rules.specs.{Step.fresh_listener, Feed.feed, declared.Listener.Listener}
use Rattle.replay_words.specs.{declared.Serial.Serial}
use Rattle.replay_words.specs.declared.Serial.TheVariants as serial

abbrev pub fed_line : List ℕ → Listener → Listener
fed_line line l =
    let field = field_of 1 line in
    cond (is_some (hex_count 40960 field)) (feed l (hex_bytes 40960 field)).listener l

abbrev pub heard_line : Serial → List ℕ → Listener → Listener
heard_line serial.Fresh line l = fresh_listener
heard_line serial.Feed line l = fed_line line l
heard_line serial.End line l = fresh_listener
