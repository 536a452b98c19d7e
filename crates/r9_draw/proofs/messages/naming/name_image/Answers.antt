use Rattle.r9_layers.specs.Forest.{world}
use Rattle.r9_device.proofs.device.Named.{kept-tied, kept-untied, spare-tied, spare-untied}
use Rattle.r9_device.proofs.device.Ties.{ties-tied, ties-untied}
use Rattle.r9_draw.proofs.messages.naming.name_image.Goals as goal

pub invariant_of-device-clause-kept : goal.invariant_of-device-clause-kept
invariant_of-device-clause-kept c =
    let before = c.args.device.now in
    kept-tied c.tie-named.result (world before.forest) before.book.book c.tie-named.new.self.book c.args.client c.args.asked.now.id c.args.asked.now.name.now before.kept c.tie-named.ensures.made c.tie-named.ensures.kept

pub invariant_of-device-clause-spare : goal.invariant_of-device-clause-spare
invariant_of-device-clause-spare c =
    let before = c.args.device.now in
    spare-tied c.tie-named.result before.book.book c.tie-named.new.self.book c.args.client c.args.asked.now.id c.args.asked.now.name.now before.spare c.tie-named.ensures.made c.tie-named.ensures.kept

pub invariant_of-device-clause-ties : goal.invariant_of-device-clause-ties
invariant_of-device-clause-ties c =
    let before = c.args.device.now in
    ties-tied c.tie-named.result before.book.book c.tie-named.new.self.book c.args.client c.args.asked.now.id c.args.asked.now.name.now before.ties c.tie-named.ensures.made c.tie-named.ensures.kept

pub invariant_of-device-else-asked-ne0-clause-kept : goal.invariant_of-device-else-asked-ne0-clause-kept
invariant_of-device-else-asked-ne0-clause-kept c =
    let before = c.args.device.now in
    kept-untied c.untie-named.result (world before.forest) before.book.book c.untie-named.new.self.book c.args.client c.args.asked.now.id c.args.asked.now.name.now before.kept c.untie-named.ensures.made c.untie-named.ensures.kept

pub invariant_of-device-else-asked-ne0-clause-spare : goal.invariant_of-device-else-asked-ne0-clause-spare
invariant_of-device-else-asked-ne0-clause-spare c =
    let before = c.args.device.now in
    spare-untied c.untie-named.result before.book.book c.untie-named.new.self.book c.args.client c.args.asked.now.id c.args.asked.now.name.now before.spare c.untie-named.ensures.made c.untie-named.ensures.kept

pub invariant_of-device-else-asked-ne0-clause-ties : goal.invariant_of-device-else-asked-ne0-clause-ties
invariant_of-device-else-asked-ne0-clause-ties c =
    let before = c.args.device.now in
    ties-untied c.untie-named.result before.book.book c.untie-named.new.self.book c.args.client c.args.asked.now.id c.args.asked.now.name.now before.ties c.untie-named.ensures.made c.untie-named.ensures.kept
