use Rattle.std.specs.Prelude.{false}
use Rattle.r9_layers.specs.Forest.{world}
use Rattle.r9_draw.proofs.messages.Screened.{kept-shared_screen, spare-shared_screen}
use Rattle.r9_device.proofs.device.Ties.{ties-shared_screen}
use Rattle.r9_draw.proofs.messages.screen.share_screen.Goals as goal

pub invariant_of-device-clause-kept : goal.invariant_of-device-clause-kept
invariant_of-device-clause-kept c =
    let before = c.args.device.now in
    kept-shared_screen c.add_screen.result (world before.forest) before.book.book c.add_screen.new.self.book c.args.client c.args.id c.args.screen before.kept c.requires c.add_screen.ensures.made c.add_screen.ensures.kept

pub invariant_of-device-clause-spare : goal.invariant_of-device-clause-spare
invariant_of-device-clause-spare c =
    let before = c.args.device.now in
    spare-shared_screen c.add_screen.result before.book.book c.add_screen.new.self.book c.args.client c.args.id c.args.screen before.spare c.add_screen.ensures.made c.add_screen.ensures.kept

pub invariant_of-device-clause-ties : goal.invariant_of-device-clause-ties
invariant_of-device-clause-ties c =
    let before = c.args.device.now in
    ties-shared_screen c.add_screen.result before.book.book c.add_screen.new.self.book c.args.client c.args.id c.args.screen false before.ties c.add_screen.ensures.made c.add_screen.ensures.kept
