use Rattle.std.proofs.Common.{◌≡◌, true, rules, Some, IsSome, sym, ap, subst, ◌∙◌}
use Rattle.r9_chan.specs.Op.{number}
use Rattle.model_text.specs.text.Map.{lookup, with}
use Rattle.model_text.proofs.map.Keys.{with-written}
use Rattle.model_text.proofs.map.Maps.{with-same}
use Rattle.model_draw_parts.specs.fonts.Font.{has_index}
use Rattle.model_draw.specs.draw.World.{Client}
use Rattle.r9_device.specs.client.Fonts.{font_at}
use Rattle.r9_device.proofs.client.Owners.{on_err, owner_is}
use Rattle.r9_device.proofs.client.client.set_cell.Goals as goal

pub set_character-requires-clause-font : goal.set_character-requires-clause-font
set_character-requires-clause-font c =
    let found : lookup c.args.clients.now.entries c.args.client ≡ Some c.in-Some.owner.now = search rules in
    let is = c.owner.view_is ∙ sym (owner_is c.args.clients.now.entries c.args.client c.in-Some.owner.now found) in
    subst (λ (o : Client). IsSome (lookup o.fonts c.args.id)) (sym is) c.requires.font

pub set_character-requires-clause-index : goal.set_character-requires-clause-index
set_character-requires-clause-index c =
    let found : lookup c.args.clients.now.entries c.args.client ≡ Some c.in-Some.owner.now = search rules in
    let is = c.owner.view_is ∙ sym (owner_is c.args.clients.now.entries c.args.client c.in-Some.owner.now found) in
    subst (λ (o : Client). has_index (font_at o.fonts c.args.id) c.args.index ≡ true) (sym is) c.requires.index

pub returns-in_err-set_character-clause-kept : goal.returns-in_err-set_character-clause-kept
returns-in_err-set_character-clause-kept c =
    let clients = c.args.clients.now.entries in
    let inside = c.owner.inside in
    let found : lookup clients c.args.client ≡ Some c.in-Some.owner.now = search rules in
    let left : Client = record { op = number inside.op; described = inside.described; pending = inside.pending; sizes = inside.sizes.entries; fonts = c.set_character.new.fonts.entries } in
    let kept : left ≡ c.in-Some.owner.now = (λ i. record left { fonts = c.in_err-set_character.ensures.kept i }) ∙ c.owner.view_is in
    on_err c.from_residual.result
    (with-written clients _ c.args.client left (c.get_mut.follows.holds left).0 ∙ ap (λ (o : Client). with clients c.args.client o) kept ∙ with-same clients c.args.client c.in-Some.owner.now found)
