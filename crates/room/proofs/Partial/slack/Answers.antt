-- `room::Partial::slack` meets its contract: `fold` keeps the least slack of the groups passed.
use mathlib.Core.Path.{◌≡◌, subst}
use Prim.Native.Nat.{min}
use lib.ListN.{length}
use Rattle.std.proofs.Common.{rules}
use Rattle.std.proofs.lemmas.Fn.{fold_over, slice_gives, fronts}
use Rattle.room.specs.Room.{slack_of, least_of, slack_by}
use Rattle.room.proofs.Rooms.{slack_in, least_none, least_more, first_least}
use Rattle.room.proofs.Partial.slack.Goals as goal

pub returns : goal.returns
unfolding slack_by
returns c =
    first_least c.rooms-rooms.ensures c.requires _
    (subst (λ l. c.fold.result ≡ least_of (slack_in l) (length l)) c.iter.ensures.rest
    (fold_over fronts (λ y. y.now) _ (λ ys a. a ≡ least_of (slack_in ys) (length ys)) _
    (λ ys a x b f' j k. let e : b ≡ min a (slack_of x.now.lots x.now.slots) = search rules in (least_more ys x.now a b j e, search rules))
    _ _ _ _ (slice_gives c.iter.result) least_none c.fold.ensures.ran))
