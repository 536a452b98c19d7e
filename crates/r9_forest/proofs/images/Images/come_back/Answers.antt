use Rattle.std.proofs.Common.{ℕ, ap, arith}
use Rattle.std.proofs.lemmas.Nat.{pow_pos}
use Rattle.r9_geom.specs.Geometry.{area_of}
use Rattle.r9_locate.specs.locate.Forms.{bits_in}
use Rattle.r9_locate.specs.locate.Table.{shape}
use Rattle.r9_pixels.specs.Kept.{form_at, kept_at}
use Rattle.r9_forest.specs.Images.{numbers, world}
use Rattle.r9_forest.specs.Numbered.{numbers_of}
use Rattle.r9_relist.proofs.arrive.Canvases.{bare_canvas}
use Rattle.r9_forest.proofs.Placing.{moves_change, moves_fills, moves_sound, stood_forest}
use Rattle.r9_forest.proofs.images.Images.come_back.Goals as goal

pub unhide-requires-clause-change : goal.unhide-requires-clause-change
unfolding world
unhide-requires-clause-change g c =
    let was = c.args.self.now in
    moves_change was.lists was.pixels was.spare.items c.args.i c.args.standing was.sound c.requires.stands c.args.list.items c.requires.list c.requires.forest

pub unhide-requires-clause-before : goal.unhide-requires-clause-before
unfolding world
unhide-requires-clause-before g c =
    let was = c.args.self.now in
    stood_forest was.lists was.pixels was.spare.items c.args.i c.args.standing was.sound c.requires.stands

pub unhide-requires-clause-forms : goal.unhide-requires-clause-forms
unhide-requires-clause-forms g c = c.args.self.now.sound.forms

pub unhide-requires-clause-cells : goal.unhide-requires-clause-cells
unhide-requires-clause-cells g c = c.args.self.now.sound.cells

pub unhide-requires-clause-fill : goal.unhide-requires-clause-fill
unhide-requires-clause-fill g c z = pow_pos (bits_in (form_at c.args.self.now.pixels) c.args.standing.parent)

pub invariant_of-self : goal.invariant_of-self
unfolding world
invariant_of-self g c =
    let was = c.args.self.now in
    let made = c.unhide.ensures in
    record {
      sound =
          moves_sound was.lists was.pixels was.spare.items c.args.i c.args.standing was.sound c.requires.stands c.args.list.items c.requires.list c.requires.forest c.unhide.new.lists c.unhide.new.pixels made.lists made.made made.world made.cells made.forms;
      back = omega (arith, made.made, was.back);
      fills = moves_fills was.lists was.pixels was.spare.items c.args.i c.args.standing was.sound c.requires.stands c.args.list.items c.requires.list c.requires.forest c.unhide.new.lists was.room.len made.lists was.fills;
    }

pub returns-clause-world : goal.returns-clause-world
unfolding world
returns-clause-world g c = c.unhide.ensures.world

pub returns-clause-numbers : goal.returns-clause-numbers
unfolding numbers
returns-clause-numbers g c = ap (λ (n : ℕ). numbers_of n c.args.self.now.spare.items) c.unhide.ensures.made

pub returns-clause-steps : goal.returns-clause-steps
unfolding world
returns-clause-steps g c =
    let was = c.args.self.now in
    let window = ap area_of ((bare_canvas (shape was.lists) (kept_at was.pixels)).r c.args.i) in
    omega (arith, window, c.unhide.ensures.steps)
