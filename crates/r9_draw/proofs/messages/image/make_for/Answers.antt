use Rattle.std.proofs.Common.{◌≡◌, ◌≤◌, Option, Some, rules, sym, ap, subst, ◌∙◌}
use Rattle.std.specs.Prelude.{◌+◌, ◌^◌}
use Rattle.std.specs.Option.{option_copied_mut, option_map_or}
use Rattle.std.specs.List.{sum_by}
use Rattle.model_text.specs.text.Map.{lookup, with}
use Rattle.model_text.proofs.map.Keys.{lookup_at, with-written}
use Rattle.model_draw.specs.draw.World.{Client, new_client}
use Rattle.model_draw.specs.draw.Making.{overhead}
use Rattle.r9_device.specs.client.Clients.{entry_of}
use Rattle.r9_draw.proofs.messages.Made.{owner_ok, owner_err}
use Rattle.r9_draw.proofs.messages.image.make_for.Goals as goal

pub make-requires-clause-fits : goal.make-requires-clause-fits
make-requires-clause-fits g c =
    let found : lookup c.args.clients.now.entries c.args.client ≡ Some c.in-Some.owner.now = search rules in
    let is : entry_of c.args.clients.now.entries c.args.client ≡ c.in-Some.owner.now = ap (λ (o : Option Client). option_map_or (λ x. x) o new_client) found in
    let P : Client → Type 0 = λ o. sum_by (λ e. e.1) o.sizes + c.args.making.now.len + overhead ≤ 2 ^ 25 in
    subst P is c.requires.fits

pub returns-clause-clients : goal.returns-clause-clients
returns-clause-clients g c =
    let found : lookup c.args.clients.now.entries c.args.client ≡ Some c.in-Some.owner.now = sym (lookup_at c.args.clients.now.entries c.args.client) ∙ sym c.get_mut.ensures.value ∙ ap option_copied_mut c.in-Some.is in
    let is : c.in-Some.owner.now ≡ entry_of c.args.clients.now.entries c.args.client = sym (ap (λ (o : Option Client). option_map_or (λ x. x) o new_client) found) in
    let written : (c.get_mut.follows.lender c.make.new.owner).entries ≡ with c.args.clients.now.entries c.args.client c.make.new.owner = with-written c.args.clients.now.entries _ c.args.client c.make.new.owner (c.get_mut.follows.holds c.make.new.owner).0 in
    (c.make.new.owner, written, owner_ok c.make.result _ _ c.make.new.owner c.args.making.now.id c.args.making.now.len is c.make.ensures.owner, owner_err c.make.result _ _ c.make.new.owner is c.make.ensures.kept_owner)
