use Rattle.std.proofs.Common.{◌≡◌, Option, Some, Ok, refl, sym, ap, ◌∙◌}
use Rattle.std.specs.Option.{option_map, option_map_or}
use Rattle.std.specs.List.{list_all}
use Rattle.model_text.specs.text.Map.{lookup}
use Rattle.model_text.specs.text.Outcome.{value_or_refuse}
use Rattle.model_draw_parts.specs.fonts.Font.{Font, has_index, new_font}
use Rattle.model_draw.specs.draw.World.{client_of}
use Rattle.r9_dmsg.specs.Listed.{indices_of, writing_in}
use Rattle.r9_draw.specs.declared.strings.lettering.Lettering.{Lettering}
use Rattle.r9_draw.proofs.strings.Strings.{IsAsked, string_drawings-asked, write_string-refused}
use Rattle.r9_draw.specs.messages.Fonts.{font_of_id}
use Rattle.r9_draw.specs.messages.Strings.{background_of}
use Rattle.r9_device.specs.device.World.{world_of}
use Rattle.r9_draw.proofs.messages.string.lettering.Goals as goal

pub returns-then-not-has_all-clause-refused : goal.returns-then-not-has_all-clause-refused
returns-then-not-has_all-clause-refused c =
    let w = world_of c.args.device.now in
    let k = c.args.client in
    let found : lookup (client_of w k).fonts c.args.asked.now.fontid ≡ Some c.in-Some.font.now = sym c.font_of.ensures.found ∙ ap (λ o. option_map (λ f. f.now) o) c.in-Some.is in
    let l : Lettering = record {
      dst = c.in_ok-dst.dst;
      src = c.in_ok-src.src;
      font_image = c.in_ok-font_image.font_image;
      background = c.in_ok-background.background;
      p = c.args.asked.now.p;
      clipr = c.args.asked.now.clipr;
      sp = c.args.asked.now.sp;
      op = c.op_of.result;
    } in
    let asked : IsAsked k w (writing_in c.args.asked.now) (background_of c.args.asked.now) c.in-Some.font.now l = record {
      dst = c.in_ok-dst.ensures.found;
      src = c.in_ok-src.ensures.found;
      font_image = c.in_ok-font_image.ensures.found;
      font_is = ap (λ (o : Option Font). value_or_refuse o 14) found;
      background = c.in_ok-background.ensures.found;
      p = refl;
      clipr = refl;
      sp = refl;
      op = sym c.op_of.ensures;
    } in
    write_string-refused k w (writing_in c.args.asked.now) (background_of c.args.asked.now) c.in-Some.font.now l asked (sym c.has_all.ensures ∙ c.if-not-has_all.true)

pub returns-clause-drawn : goal.returns-clause-drawn
returns-clause-drawn c =
    let w = world_of c.args.device.now in
    let k = c.args.client in
    let found : lookup (client_of w k).fonts c.args.asked.now.fontid ≡ Some c.in-Some.font.now = sym c.font_of.ensures.found ∙ ap (λ o. option_map (λ f. f.now) o) c.in-Some.is in
    let font : font_of_id w k c.args.asked.now.fontid ≡ c.in-Some.font.now = ap (λ (o : Option Font). option_map_or (λ f. f) o (new_font 0 0)) found in
    let l : Lettering = record {
      dst = c.in_ok-dst.dst;
      src = c.in_ok-src.src;
      font_image = c.in_ok-font_image.font_image;
      background = c.in_ok-background.background;
      p = c.args.asked.now.p;
      clipr = c.args.asked.now.clipr;
      sp = c.args.asked.now.sp;
      op = c.op_of.result;
    } in
    let asked : IsAsked k w (writing_in c.args.asked.now) (background_of c.args.asked.now) (font_of_id w k c.args.asked.now.fontid) l = record {
      dst = c.in_ok-dst.ensures.found;
      src = c.in_ok-src.ensures.found;
      font_image = c.in_ok-font_image.ensures.found;
      font_is = ap (λ (o : Option Font). value_or_refuse o 14) found ∙ ap Ok (sym font);
      background = c.in_ok-background.ensures.found;
      p = refl;
      clipr = refl;
      sp = refl;
      op = sym c.op_of.ensures;
    } in
    let all = ap (λ (f : Font). list_all (has_index f) (indices_of c.args.asked.now)) font ∙ sym c.has_all.ensures ∙ c.if-not-has_all.false in
    string_drawings-asked k w (writing_in c.args.asked.now) (background_of c.args.asked.now) (font_of_id w k c.args.asked.now.fontid) l asked all
