-- `free_slots::putting::put` meets its contract: where it is accepted, the row is a room.
use Rattle.free_slots.proofs.PutLaws.{put_placed}
use Rattle.free_slots.proofs.putting.put.Goals as goal

pub new-room-requires : goal.new-room-requires
new-room-requires c = (put_placed _ _ _ _ _ _ _ c.judge_put.ensures c.in_ok-record.was).row
