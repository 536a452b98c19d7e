use Rattle.std.proofs.Common.{◌≡◌, ◌∙◌, ℕ, Option, refl, sym, ap}
use Rattle.std.specs.Prelude.{is_some}
use Rattle.model_kept.specs.Keeping.{with_kept}
use Rattle.r9_locate.specs.watched.Moments.{Moment}
use Rattle.r9_locate.specs.locate.Table.{shape}
use Rattle.r9_pixels.specs.Kept.{moment, moment_now}
use Rattle.r9_forest.specs.Images.{numbers, world}
use Rattle.r9_forest.proofs.Looking.{looked_sound, moment-here, moment-other, moment_is, moment_there}
use Rattle.r9_forest.proofs.images.Images.look.Goals as goal
use Rattle.r9_forest.proofs.images.Images.look.Goals.{After-look}

here : (c : After-look) → moment c.look.new.self c.args.i ≡ moment_now c.args.self.now.pixels c.args.i
here c =
    ap (λ (moments : ℕ → Option Moment). moments c.args.i) c.look.ensures.moment
    ∙ moment-here c.args.i (moment_now c.args.self.now.pixels c.args.i) (moment c.args.self.now.pixels)

pub invariant_of-self : goal.invariant_of-self
invariant_of-self c =
    let was = c.args.self.now in
    record {
      sound = looked_sound was.lists was.pixels c.look.new.self was.spare.items c.look.ensures.kept c.look.ensures.has c.look.ensures.forms was.sound;
      back = was.back;
      fills = was.fills;
    }

pub returns-clause-world : goal.returns-clause-world
unfolding world
returns-clause-world c = ap (with_kept (shape c.args.self.now.lists)) c.look.ensures.kept

pub returns-clause-numbers : goal.returns-clause-numbers
unfolding numbers
returns-clause-numbers c = refl

pub returns-clause-here : goal.returns-clause-here
unfolding world
returns-clause-here c was is =
    let now = c.args.self.now in
    moment_is now.lists now.pixels now.spare.items c.args.i now.sound c.requires.live was (sym (here (goal.at.returns-clause-here c).After-look) ∙ is)

pub returns-clause-nowhere : goal.returns-clause-nowhere
unfolding world
returns-clause-nowhere c nowhere =
    let now = c.args.self.now in
    ap is_some (here (goal.at.returns-clause-nowhere c).After-look) ∙ moment_there now.lists now.pixels now.spare.items c.args.i now.sound c.requires.live nowhere

pub returns-clause-elsewhere : goal.returns-clause-elsewhere
returns-clause-elsewhere c j other =
    ap (λ (moments : ℕ → Option Moment). moments j) c.look.ensures.moment
    ∙ moment-other c.args.i j (moment_now c.args.self.now.pixels c.args.i) (moment c.args.self.now.pixels) other

pub returns-clause-marks : goal.returns-clause-marks
returns-clause-marks c = c.look.ensures.marks

pub returns-clause-count : goal.returns-clause-count
returns-clause-count c = c.look.ensures.count

pub returns-clause-writes : goal.returns-clause-writes
returns-clause-writes c = c.look.ensures.writes
