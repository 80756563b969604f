-- `room::Partial::has_room` meets its contract: `all` asks every group.
use lib.Dec.{leb}
use Rattle.std.proofs.Common.{rules, tests}
use Rattle.room.specs.Room.{no_room, lacks, room_by}
use Rattle.room.proofs.Rooms.{counted_words, first_long, first_enough}
use Rattle.room.proofs.Slices.{all_slice}
use Rattle.room.proofs.Partial.has_room.Goals as goal

pub returns : goal.returns
unfolding room_by
returns c =
    let counted = counted_words _ _ _ _ _ _ c.words_of-met.ensures c.rooms-rooms.ensures in
    all_slice _ _ _ _ (λ x. leb (lacks x.lots x.slots) c.args.left) _ no_room _ _ c.iter.ensures.rest (first_long counted c.requires)
    (first_enough counted c.requires c.args.left) (λ x b q k. search (rules, tests)) c.all.ensures.ran
