use Rattle.std.proofs.Common.{◌≡◌, ◌∙◌, ℕ, Option, Some, None, sym, ap}
use Rattle.std.specs.Prelude.{option_map}
use Rattle.model_forest.specs.declared.Standing.{Standing}
use Rattle.model_forest.specs.World.{Image}
use Rattle.r9_locate.specs.watched.Moments.{Moment}
use Rattle.r9_locate.specs.locate.Table.{shape}
use Rattle.r9_pixels.specs.Kept.{kept_at}
use Rattle.r9_forest.specs.Images.{world}
use Rattle.r9_relist.proofs.arrive.Canvases.{bare_canvas}
use Rattle.r9_forest.proofs.images.Images.release.Goals as goal

pub get-requires : goal.get-requires
unfolding world
get-requires g c = (bare_canvas (shape c.args.self.now.lists) (kept_at c.args.self.now.pixels)).live c.args.i ∙ c.requires.live

pub take_out-requires-clause-stands : goal.take_out-requires-clause-stands
unfolding world
take_out-requires-clause-stands g c =
    sym ((bare_canvas (shape c.args.self.now.lists) (kept_at c.args.self.now.pixels)).standing c.args.i)
    ∙ ap (λ (image : Image). image.standing) c.get.ensures ∙ c.in-Some.is

pub take_root-requires-clause-nowhere : goal.take_root-requires-clause-nowhere
unfolding world
take_root-requires-clause-nowhere g c =
    ap (option_map (λ (s : Standing). s.parent))
    (sym ((bare_canvas (shape c.args.self.now.lists) (kept_at c.args.self.now.pixels)).standing c.args.i)
    ∙ ap (λ (image : Image). image.standing) c.get.ensures ∙ c.in-None.is)

no_parent : (p : ℕ) → Some p ≡ None → ⊥
no_parent p e = cc

-- a window stands somewhere
pub returns-in-Some-clause-bare : goal.returns-in-Some-clause-bare
unfolding world
returns-in-Some-clause-bare g c nowhere =
    absurd
    (no_parent c.in-Some.standing.parent
    (sym
    (ap (option_map (λ (s : Standing). s.parent))
    (sym ((bare_canvas (shape c.args.self.now.lists) (kept_at c.args.self.now.pixels)).standing c.args.i)
    ∙ ap (λ (image : Image). image.standing) c.get.ensures ∙ c.in-Some.is))
    ∙ nowhere))

pub returns-in-Some-clause-moment : goal.returns-in-Some-clause-moment
returns-in-Some-clause-moment g c j live = ap (λ (moments : ℕ → Option Moment). moments j) c.take_out.ensures.moment
