use Rattle.std.proofs.Common.{◌==◌, ◌∷◌, [], ap, sym, ◌∙◌}
use Rattle.std.specs.Prelude.{find, option_map}
use Rattle.std.specs.Option.{option_map_or}
use Rattle.model_draw_parts.specs.declared.images.OnScreen.{OnScreen}
use Rattle.model_draw_parts.specs.declared.images.Thing.TheVariants.{Image, Screen}
use Rattle.model_draw_parts.specs.images.Release.{Freed, released}
use Rattle.r9_images.specs.uses.Freed.{freed_of}
use Rattle.r9_images.specs.uses.Windows.{Standing}
use Rattle.r9_images.proofs.uses.Parts.{le-trans}
use Rattle.r9_images.proofs.uses.Rooms.{image-taken, plain-stays, plain-goes}
use Rattle.r9_images.proofs.uses.uses.Uses.drop_plain.Goals as goal

pub returns-then-stays : goal.returns-then-stays
returns-then-stays c = record {
  more = c.take_image_id.ensures.more;
  freed = λ ties next_tie.
      let t = c.take_image_id.ensures in
      let taken = freed_of c.take_image_id.new.self ties next_tie in
      plain-stays taken (Image c.args.e.image) (sym (c.stays.ensures ties next_tie) ∙ c.if-stays.true)
      ∙ ap (λ (f : Freed). released f (Image c.args.e.image ∷ [])) (image-taken c.args.self.now c.take_image_id.new.self c.args.e t.ids t.screen_ids t.screens t.spare t.windows t.gone ties next_tie);
}

pub returns : goal.returns
returns c = record {
  more = le-trans _ _ _ c.take_image_id.ensures.more c.let_image_go.ensures.more;
  freed = λ ties next_tie.
      let t = c.take_image_id.ensures in
      let taken = freed_of c.take_image_id.new.self ties next_tie in
      let plain = ap (λ (w : Standing). find (λ (v : OnScreen). v.image == c.args.e.image) w.windows) t.windows ∙ c.requires.plain in
      plain-goes taken (freed_of c.let_image_go.new.self ties next_tie) (Image c.args.e.image) (sym (c.stays.ensures ties next_tie) ∙ c.if-stays.false) (c.let_image_go.ensures.freed ties next_tie)
      (ap (λ o. option_map_or (λ s. Screen s ∷ []) (option_map (λ (v : OnScreen). v.screen) o) []) plain)
      ∙ ap (λ (f : Freed). released f (Image c.args.e.image ∷ [])) (image-taken c.args.self.now c.take_image_id.new.self c.args.e t.ids t.screen_ids t.screens t.spare t.windows t.gone ties next_tie);
}
