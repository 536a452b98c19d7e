use Rattle.std.proofs.Common.{◌≡◌, ◌∙◌, false, Option, Some, None, refl, ap}
use Rattle.std.specs.Prelude.{is_some, not, option_map}
use Rattle.std.proofs.lemmas.Bool.{true≢false}
use Rattle.model_forest.specs.declared.Standing.{Standing}
use Rattle.model_forest.specs.World.{Image}
use Rattle.r9_locate.specs.locate.Table.{shape}
use Rattle.r9_locate.proofs.locate.Locating.{keeping-root}
use Rattle.r9_shown.proofs.viewing.keeps_all.Goals as goal

nowhere : (o : Option Standing) → is_some o ≡ false → option_map (λ (s : Standing). s.parent) o ≡ None
nowhere None h = refl
nowhere (Some s) h = absurd (true≢false h)

pub returns : goal.returns
returns c is p =
    keeping-root (shape c.args.lists.now) c.args.i p
    (ap (λ (im : Image). option_map (λ (s : Standing). s.parent) im.standing) c.get.ensures
    ∙ nowhere c.get.result.now.standing (c.is_none.ensures ∙ ap not is))
