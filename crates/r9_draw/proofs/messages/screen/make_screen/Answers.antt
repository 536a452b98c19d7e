use Rattle.r9_layers.specs.Forest.{world}
use Rattle.r9_draw.proofs.messages.Screened.{kept-made_screen, spare-made_screen}
use Rattle.r9_device.proofs.device.Ties.{ties-made_screen}
use Rattle.r9_draw.proofs.messages.screen.make_screen.Goals as goal

pub invariant_of-device-clause-kept : goal.invariant_of-device-clause-kept
invariant_of-device-clause-kept c =
    let before = c.args.device.now in
    kept-made_screen c.new_screen.result (world before.forest) before.book.book c.new_screen.new.self.book c.args.client c.args.screening.now before.kept before.spare c.requires.image c.requires.fill c.new_screen.ensures.made c.new_screen.ensures.kept

pub invariant_of-device-clause-spare : goal.invariant_of-device-clause-spare
invariant_of-device-clause-spare c =
    let before = c.args.device.now in
    spare-made_screen c.new_screen.result before.book.book c.new_screen.new.self.book c.args.client c.args.screening.now before.spare c.new_screen.ensures.made c.new_screen.ensures.kept

pub invariant_of-device-clause-ties : goal.invariant_of-device-clause-ties
invariant_of-device-clause-ties c =
    let before = c.args.device.now in
    let s = c.args.screening.now in
    ties-made_screen c.new_screen.result before.book.book c.new_screen.new.self.book c.args.client s.id s.public s.image.0 s.fill.0 before.ties c.new_screen.ensures.made c.new_screen.ensures.kept
