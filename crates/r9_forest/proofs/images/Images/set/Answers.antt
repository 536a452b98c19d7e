use Rattle.std.proofs.Common.{◌∙◌, ap, arith}
use Rattle.model_forest.specs.Steps.{after_set}
use Rattle.model_forest.specs.World.{World}
use Rattle.model_kept.specs.Keeping.{with_kept}
use Rattle.r9_pixels.specs.Kept.{kept_at}
use Rattle.r9_forest.specs.Images.{numbers, world}
use Rattle.r9_forest.specs.Numbered.{numbers_of}
use Rattle.r9_relist.proofs.arrive.Canvases.{bare_canvas}
use Rattle.r9_forest.proofs.Setting.{set_shown, set_sound}
use Rattle.r9_locate.specs.locate.Table.{shape}
use Rattle.r9_forest.proofs.Roomy.{fills_same, fills_set}
use Rattle.r9_forest.proofs.images.Images.set.Goals as goal

pub set-requires : goal.set-requires
unfolding world
set-requires c = (bare_canvas (shape c.args.self.now.lists) (kept_at c.args.self.now.pixels)).live c.args.i ∙ c.requires.live

pub invariant_of-self : goal.invariant_of-self
unfolding world
invariant_of-self c =
    let was = c.args.self.now in
    record {
      sound = set_sound was.lists c.set.new.self was.pixels was.spare.items c.args.i c.args.repl c.args.clipr c.requires.live c.requires.points c.requires.near c.set.ensures.world c.set.ensures.made was.sound;
      back = omega (arith, c.set.ensures.made, was.back);
      fills =
          fills_same (after_set (shape was.lists) c.args.i c.args.repl c.args.clipr) (shape c.set.new.self) was.room.len c.set.ensures.world
          (fills_set (shape was.lists) was.room.len c.args.i c.args.repl c.args.clipr was.fills);
    }

pub returns-clause-world : goal.returns-clause-world
unfolding world
returns-clause-world c =
    let was = c.args.self.now in
    ap (λ (w : World). with_kept w (kept_at was.pixels)) c.set.ensures.world
    ∙ set_shown was.lists was.pixels was.spare.items c.args.i c.args.repl c.args.clipr c.requires.live

pub returns-clause-numbers : goal.returns-clause-numbers
unfolding numbers
returns-clause-numbers c = λ j. numbers_of (c.set.ensures.made j) c.args.self.now.spare.items
