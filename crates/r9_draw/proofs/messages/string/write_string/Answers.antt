use Rattle.std.proofs.Common.{ℕ, ◌/◌, ◌≡◌, ◌≤◌, List, Option, Some, Ok, length, sym, ap, subst, ◌∙◌, arith}
use Rattle.std.specs.Int.{w16}
use Rattle.std.specs.List.{sum_by}
use Rattle.std.specs.Option.{option_map, option_map_or}
use Rattle.std.specs.Prelude.{◌+◌}
use Rattle.model_text.specs.text.Map.{lookup}
use Rattle.model_text.specs.text.Outcome.{Outcome}
use Rattle.model_draw_parts.specs.fonts.Font.{Font, new_font}
use Rattle.model_forest.specs.Draw.{Drawing}
use Rattle.model_draw.specs.cost.Cost.{drawing_cost, of_found}
use Rattle.model_draw.specs.draw.World.{Client, client_of}
use Rattle.model_draw.specs.draw.Writing.{string_drawings}
use Rattle.r9_dmsg.specs.Listed.{indices_of, writing_in}
use Rattle.r9_draw.specs.strings.Drawings.{drawings}
use Rattle.r9_device.specs.device.World.{world_of}
use Rattle.r9_draw.specs.messages.Fonts.{font_of_id}
use Rattle.r9_draw.specs.messages.Strings.{background_of}
use Rattle.r9_layers.specs.Forest.{world}
use Rattle.model_draw_parts.proofs.dmsg.Rest.{length-numbers_of}
use Rattle.r9_device.proofs.device.Manager.{manager-with}
use Rattle.r9_draw.proofs.messages.Strings.{kept-lettered}
use Rattle.r9_draw.proofs.messages.string.write_string.Goals as goal

pub draw_string-requires-clause-few : goal.draw_string-requires-clause-few
draw_string-requires-clause-few g c =
    let many : length (indices_of c.args.asked.now) ≡ length c.args.asked.now.indices.now / 2 = length-numbers_of w16 _ c.args.asked.now.indices.now in
    let same = ap length (c.deref.ensures.value ∙ c.in_ok-indices.ensures) in
    let few = c.requires.few in
    omega (arith, many, same, few)

pub invariant_of-device-2-clause-kept : goal.invariant_of-device-2-clause-kept
invariant_of-device-2-clause-kept g c =
    let before = c.args.device.now in
    kept-lettered c.draw_string.result (world before.forest) (world c.draw_string.new.forest) before.book.book c.in-Some.font.now c.in-Ok.lettering c.deref.result.now before.kept c.in-Ok.ensures.ready.dst c.draw_string.ensures.drawn c.draw_string.ensures.kept

pub invariant_of-device-2-clause-manager : goal.invariant_of-device-2-clause-manager
invariant_of-device-2-clause-manager g c =
    let before = c.args.device.now in
    ap (λ (es : List (ℕ × Client)). lookup es 0) c.set_op.ensures ∙ manager-with before.clients.entries c.args.client _ c.requires.live before.manager

pub returns-clause-steps : goal.returns-clause-steps
returns-clause-steps g c =
    let w = world_of c.args.device.now in
    let k = c.args.client in
    let asked = c.args.asked.now in
    let found : lookup (client_of w k).fonts asked.fontid ≡ Some c.in-Some.font.now = sym c.font_of.ensures.found ∙ ap (λ o. option_map (λ f. f.now) o) c.in-Some.is in
    let font : font_of_id w k asked.fontid ≡ c.in-Some.font.now = ap (λ (o : Option Font). option_map_or (λ f. f) o (new_font 0 0)) found in
    let indices : c.deref.result.now ≡ indices_of asked = c.deref.ensures.value ∙ c.in_ok-indices.ensures in
    let drawn : string_drawings k w (writing_in asked) (background_of asked) ≡ Ok (drawings w.images c.in-Some.font.now c.in-Ok.lettering c.deref.result.now) =
    c.in-Ok.ensures.drawn ∙ (λ i. Ok (drawings w.images (font i) c.in-Ok.lettering (sym indices i))) in
    subst (λ (o : Outcome (List Drawing)). c.draw_string.new.steps ≤ c.args.steps.now + of_found (sum_by (drawing_cost w.images)) o) (sym drawn) c.draw_string.ensures.steps
