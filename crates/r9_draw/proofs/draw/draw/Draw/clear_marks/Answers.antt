use Rattle.r9_device.specs.device.Forest.{world}
use Rattle.r9_device.proofs.device.Kept.{kept-same}
use Rattle.r9_device.proofs.device.Lookups.{display-lives}
use Rattle.r9_draw.proofs.draw.draw.Draw.clear_marks.Goals as goal

pub clear_marks-requires : goal.clear_marks-requires
clear_marks-requires c =
    let device = c.args.self.now.device in
    record { live = display-lives (world device.forest) device.book.book device.kept }

pub invariant_of-self-clause-kept : goal.invariant_of-self-clause-kept
invariant_of-self-clause-kept c =
    let device = c.args.self.now.device in
    kept-same (world device.forest) (world c.clear_marks.new.self) device.book.book device.kept c.clear_marks.ensures.world
