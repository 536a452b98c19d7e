use Rattle.std.proofs.Common.{◌≡◌, rules, Some, true, ap, subst, ◌∙◌}
use Rattle.std.specs.Map.{keys_of}
use Rattle.model_text.specs.text.Map.{lookup, with}
use Rattle.model_text.proofs.map.Keys.{with-written}
use Rattle.model_text.proofs.map.Maps.{with-same}
use Rattle.model_text.proofs.map.Ascending.{ascend-from_sorted}
use Rattle.model_draw_parts.specs.fonts.Font.{Font, has_index}
use Rattle.r9_device.proofs.client.Characters.{font_is, character_written}
use Rattle.r9_device.proofs.client.Owners.{on_err_too, on_ok_too}
use Rattle.r9_device.proofs.client.fonts.set_character.Goals as goal

pub set-requires-clause-index : goal.set-requires-clause-index
set-requires-clause-index c =
    let found : lookup c.args.fonts.now.entries c.args.id ≡ Some c.in-Some.font.now = search rules in
    subst (λ (f : Font). has_index f c.args.index ≡ true) (font_is c.args.fonts.now.entries c.args.id c.in-Some.font.now found) c.requires.index

pub returns-clause-set : goal.returns-clause-set
returns-clause-set c =
    let fonts = c.args.fonts.now.entries in
    let found : lookup fonts c.args.id ≡ Some c.in-Some.font.now = search rules in
    let written : (c.get_mut.follows.lender c.set.new.self).entries ≡ with fonts c.args.id c.set.new.self = with-written fonts _ c.args.id c.set.new.self (c.get_mut.follows.holds c.set.new.self).0 in
    on_ok_too c.set.result
    (λ set. character_written fonts _ c.args.id c.args.index c.args.cell c.in-Some.font.now c.set.new.self (ascend-from_sorted (keys_of fonts) c.get_mut.ensures.ordered) found set written)
    c.set.ensures.set

pub returns-clause-kept : goal.returns-clause-kept
returns-clause-kept c =
    let fonts = c.args.fonts.now.entries in
    let found : lookup fonts c.args.id ≡ Some c.in-Some.font.now = search rules in
    let written : (c.get_mut.follows.lender c.set.new.self).entries ≡ with fonts c.args.id c.set.new.self = with-written fonts _ c.args.id c.set.new.self (c.get_mut.follows.holds c.set.new.self).0 in
    on_err_too c.set.result
    (λ kept. written ∙ ap (λ (f : Font). with fonts c.args.id f) kept ∙ with-same fonts c.args.id c.in-Some.font.now found)
    c.set.ensures.kept
