use Rattle.std.proofs.Common.{ℕ, List, refl, ap, ◌∙◌}
use Rattle.model_text.specs.text.Map.{lookup}
use Rattle.model_forest.specs.Numbers.{next_number}
use Rattle.model_draw.specs.draw.World.{Client}
use Rattle.r9_layers.specs.Forest.{numbers, world}
use Rattle.r9_device.specs.device.World.{world_of}
use Rattle.r9_draw.proofs.messages.Made.{keeps, kept-made, makes}
use Rattle.r9_device.proofs.device.Lookups.{display-lives}
use Rattle.r9_device.proofs.device.Manager.{manager-with, not_manager}
use Rattle.r9_device.proofs.device.Spare.{spare-added}
use Rattle.r9_device.proofs.device.Ties.{ties-made}
use Rattle.r9_draw.proofs.messages.image.make_image.Goals as goal

pub invariant_of-device-clause-kept : goal.invariant_of-device-clause-kept
invariant_of-device-clause-kept g c =
    let before = c.args.device.now in
    let ready = c.requires.ready in
    kept-made c.make_for.result (world before.forest) (world c.make_for.new.forest) before.book.book c.make_for.new.book.book c.args.client (next_number (numbers before.forest)) c.args.making.now before.kept ready.points ready.near ready.clip
    (not_manager before.clients.entries c.args.client c.requires.live before.manager) ready.screen c.make_for.ensures.free c.make_for.ensures.images c.make_for.ensures.book c.make_for.ensures.kept_images c.make_for.ensures.kept_book

pub invariant_of-device-clause-manager : goal.invariant_of-device-clause-manager
invariant_of-device-clause-manager g c =
    let owner = c.make_for.ensures.clients in
    ap (λ (es : List (ℕ × Client)). lookup es 0) owner.1 ∙ manager-with c.args.device.now.clients.entries c.args.client owner.0 c.requires.live c.args.device.now.manager

pub returns-clause-made : goal.returns-clause-made
returns-clause-made g c =
    let owner = c.make_for.ensures.clients in
    makes c.make_for.result (world_of c.args.device.now) _ c.args.client c.args.making.now owner.0 c.make_for.ensures.images c.make_for.ensures.numbers c.make_for.ensures.book owner.2 owner.1 refl

pub returns-clause-kept : goal.returns-clause-kept
returns-clause-kept g c =
    let owner = c.make_for.ensures.clients in
    keeps c.make_for.result (world_of c.args.device.now) _ c.args.client owner.0 c.requires.live c.make_for.ensures.kept_images c.make_for.ensures.kept_numbers c.make_for.ensures.kept_book owner.3 owner.1 refl

pub invariant_of-device-clause-spare : goal.invariant_of-device-clause-spare
invariant_of-device-clause-spare g c =
    let before = c.args.device.now in
    spare-added c.make_for.result before.book.book c.make_for.new.book.book c.args.client c.args.making.now.id (next_number (numbers before.forest)) c.args.making.now.screen before.spare c.make_for.ensures.book c.make_for.ensures.kept_book

pub invariant_of-device-clause-ties : goal.invariant_of-device-clause-ties
invariant_of-device-clause-ties g c =
    let before = c.args.device.now in
    ties-made c.make_for.result before.book.book c.make_for.new.book.book c.args.client c.args.making.now.id (next_number (numbers before.forest)) c.args.making.now.screen before.ties c.make_for.ensures.book c.make_for.ensures.kept_book

pub returns-clause-moment : goal.returns-clause-moment
returns-clause-moment g c =
    let before = c.args.device.now in
    c.make_for.ensures.moment 0 (display-lives (world before.forest) before.book.book before.kept)
