use Rattle.std.proofs.Common.{◌≡◌, rules, Some, ap, ◌∙◌}
use Rattle.r9_chan.specs.Op.{number}
use Rattle.model_text.specs.text.Map.{lookup, with}
use Rattle.model_text.proofs.map.Keys.{with-written}
use Rattle.model_text.proofs.map.Maps.{with-same}
use Rattle.model_draw.specs.draw.World.{Client}
use Rattle.r9_device.proofs.client.Owners.{on_err}
use Rattle.r9_device.proofs.client.client.put_font.Goals as goal

pub returns-in_err-insert-clause-kept : goal.returns-in_err-insert-clause-kept
returns-in_err-insert-clause-kept c =
    let clients = c.args.clients.now.entries in
    let inside = c.owner.inside in
    let found : lookup clients c.args.client ≡ Some c.in-Some.owner.now = search rules in
    let left : Client = record { op = number inside.op; described = inside.described; pending = inside.pending; sizes = inside.sizes.entries; fonts = c.insert.new.self.entries } in
    let kept : left ≡ c.in-Some.owner.now = (λ i. record left { fonts = c.in_err-insert.ensures.err i }) ∙ c.owner.view_is in
    on_err c.from_residual.result
    (with-written clients _ c.args.client left (c.get_mut.follows.holds left).0 ∙ ap (λ (o : Client). with clients c.args.client o) kept ∙ with-same clients c.args.client c.in-Some.owner.now found)
