-- What is known of lists.
use Rattle.model_kept.specs.Keeping.{HasOnePlaces, IsStanding}
use Rattle.r9_locate.specs.declared.locate.lists.Lists.{Lists}
use Rattle.r9_locate.specs.locate.Lists.{IsNearby}
use Rattle.r9_locate.specs.locate.Table.{shape}

pub lists_standing : (lists : Lists) → IsStanding (shape lists)
unfolding shape
lists_standing lists = lists.standing

pub lists_places : (lists : Lists) → HasOnePlaces (shape lists)
unfolding shape
lists_places lists = lists.places

pub lists_near : (lists : Lists) → IsNearby (shape lists)
unfolding shape
lists_near lists = lists.near
