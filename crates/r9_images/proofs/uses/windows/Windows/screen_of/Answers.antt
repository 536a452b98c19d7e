use Rattle.std.proofs.Common.{◌==◌, find, sym, ap, ◌∙◌}
use Rattle.std.specs.Prelude.{option_map}
use Rattle.model_draw_parts.specs.declared.images.OnScreen.{OnScreen}
use Rattle.r9_images.specs.uses.Windows.{Standing}
use Rattle.r9_images.proofs.uses.Making.{found-first, none-stands}
use Rattle.r9_images.proofs.uses.windows.Windows.screen_of.Goals as goal

pub returns-in-Some : goal.returns-in-Some
returns-in-Some c =
    ap (option_map (λ (w : OnScreen). w.screen))
    (sym (found-first c.self.inside.rows.rows c.self.inside.made c.self.invariant c.args.image c.in-Some.row (sym c.first_of.ensures.found ∙ c.in-Some.is))
    ∙ ap (λ (x : Standing). find (λ (w : OnScreen). w.image == c.args.image) x.windows) c.self.view_is)

pub returns-in-None : goal.returns-in-None
returns-in-None c =
    ap (option_map (λ (w : OnScreen). w.screen))
    (sym (none-stands c.self.inside.rows.rows c.self.inside.made c.self.invariant c.args.image (sym c.first_of.ensures.found ∙ c.in-None.is))
    ∙ ap (λ (x : Standing). find (λ (w : OnScreen). w.image == c.args.image) x.windows) c.self.view_is)
