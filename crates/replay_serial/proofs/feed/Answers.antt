-- What a field spells stands at the room's front, as many bytes as are counted (`spelt_front`); a field that spells none leaves the listener.
use Rattle.replay_serial.proofs.Spelt.{read, unread}
use Rattle.replay_serial.proofs.feed.Goals as goal

pub returns-in_default : goal.returns-in_default
returns-in_default c = unread _ _ _ c.buffer_room-bytes.result c.field.ensures c.buffer_room-bytes.ensures _ c.in_default.ensures.count

pub returns : goal.returns
returns c = read _ _ _ c.buffer_room-bytes.result c.field.ensures c.buffer_room-bytes.ensures _ c.in-Some.ensures.count _ c.hex.ensures.bytes _ c.answer-next.ensures
