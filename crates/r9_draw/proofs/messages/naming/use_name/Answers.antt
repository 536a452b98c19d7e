use Rattle.std.proofs.Common.{ℕ, List, ap, ◌∙◌}
use Rattle.model_text.specs.text.Map.{lookup}
use Rattle.model_draw.specs.draw.World.{Client}
use Rattle.r9_layers.specs.Forest.{world}
use Rattle.r9_device.proofs.device.Manager.{manager-with, not_manager}
use Rattle.r9_device.proofs.device.Named.{kept-named, spare-named}
use Rattle.r9_device.proofs.device.Ties.{ties-named}
use Rattle.r9_draw.proofs.messages.naming.use_name.Goals as goal

pub invariant_of-device-2-clause-kept : goal.invariant_of-device-2-clause-kept
invariant_of-device-2-clause-kept c =
    let before = c.args.device.now in
    kept-named c.add_named.result (world before.forest) before.book.book c.add_named.new.self.book c.args.client c.args.asked.now.id c.args.asked.now.name.now before.kept before.ties
    (not_manager before.clients.entries c.args.client c.requires.live before.manager) c.add_named.ensures.made c.add_named.ensures.kept

pub invariant_of-device-2-clause-spare : goal.invariant_of-device-2-clause-spare
invariant_of-device-2-clause-spare c =
    let before = c.args.device.now in
    spare-named c.add_named.result before.book.book c.add_named.new.self.book c.args.client c.args.asked.now.id c.args.asked.now.name.now before.spare c.add_named.ensures.made c.add_named.ensures.kept

pub invariant_of-device-2-clause-ties : goal.invariant_of-device-2-clause-ties
invariant_of-device-2-clause-ties c =
    let before = c.args.device.now in
    ties-named c.add_named.result before.book.book c.add_named.new.self.book c.args.client c.args.asked.now.id c.args.asked.now.name.now before.ties c.add_named.ensures.made c.add_named.ensures.kept

pub invariant_of-device-2-clause-manager : goal.invariant_of-device-2-clause-manager
invariant_of-device-2-clause-manager c =
    let before = c.args.device.now in
    ap (λ (es : List (ℕ × Client)). lookup es 0) c.describe.ensures ∙ manager-with before.clients.entries c.args.client _ c.requires.live before.manager
