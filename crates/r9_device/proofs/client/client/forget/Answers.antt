use Rattle.std.proofs.Common.{◌≡◌, rules, Some, sym, ap, ◌∙◌}
use Rattle.r9_chan.specs.Op.{number}
use Rattle.model_text.specs.text.Map.{lookup, with}
use Rattle.model_text.proofs.map.Keys.{with-written, without_at}
use Rattle.model_draw.specs.draw.World.{Client}
use Rattle.model_draw.specs.draw.Making.{forget_id}
use Rattle.r9_device.proofs.client.Owners.{owner_is, forgotten}
use Rattle.r9_device.proofs.client.client.forget.Goals as goal

pub returns-in-Some : goal.returns-in-Some
returns-in-Some c =
    let clients = c.args.clients.now.entries in
    let inside = c.owner.inside in
    let found : lookup clients c.args.client ≡ Some c.in-Some.owner.now = search rules in
    let before : Client = record { op = number inside.op; described = inside.described; pending = inside.pending; sizes = inside.sizes.entries; fonts = inside.fonts.entries } in
    let left : Client = record before { sizes = c.forget.new.self.entries; fonts = c.remove.new.self.entries } in
    let is = c.owner.view_is ∙ sym (owner_is clients c.args.client c.in-Some.owner.now found) in
    with-written clients _ c.args.client left (c.get_mut.follows.holds left).0
    ∙ ap (λ (o : Client). with clients c.args.client o)
    (forgotten before c.args.id _ _ c.forget.ensures (c.remove.ensures.entries ∙ without_at inside.fonts.entries c.args.id) ∙ ap (λ (o : Client). forget_id o c.args.id) is)
