use Rattle.std.proofs.Common.{◌≡◌, List, Some, subst}
use Rattle.model_forest.specs.declared.Window.{Window}
use Rattle.model_forest.specs.World.{parent_of}
use Rattle.r9_locate.specs.locate.Table.{shape}
use Rattle.r9_forest.specs.Images.{world}
use Rattle.r9_forest.specs.Replaced.{IsLater}
use Rattle.r9_forest.proofs.Exchanged.{stands_at}
use Rattle.r9_forest.proofs.images.Images.prepare.Goals as goal
use Rattle.r9_forest.proofs.images.Images.prepare.Goals.{Start}

stands : (c : Start) → parent_of (world c.args.self.now) c.args.old ≡ Some c.args.left.parent
stands c = stands_at (world c.args.self.now) c.args.old c.args.left c.requires.left

pub room_left-requires : goal.room_left-requires
room_left-requires c = stands (goal.at.room_left-requires c).Start

pub later-requires : goal.later-requires
later-requires c = stands (goal.at.later-requires c).Start

pub returns-clause-later : goal.returns-clause-later
returns-clause-later c =
    subst (λ (ws : List Window). IsLater (shape c.args.self.now.lists) c.args.old c.args.left.parent c.args.parent ws c.in_ok-later.later.items) c.deref.ensures.value c.in_ok-later.ensures
