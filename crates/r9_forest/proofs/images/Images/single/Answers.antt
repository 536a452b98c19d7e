use Rattle.std.proofs.Common.{◌≡◌, ◌∙◌, true, sym, ap, subst}
use Rattle.std.specs.Prelude.{if◌then◌else◌}
use Rattle.r9_geom.specs.declared.Rect.{Rect}
use Rattle.r9_geom.specs.Geometry.{height, holds, reduced, width, IsOrdered}
use Rattle.model_forest.specs.View.{view}
use Rattle.model_forest.specs.World.{Image, image_at}
use Rattle.r9_locate.specs.locate.Table.{shape}
use Rattle.r9_pixels.specs.Kept.{kept_at}
use Rattle.r9_forest.specs.Images.{world}
use Rattle.r9_relist.proofs.arrive.Canvases.{bare_canvas}
use Rattle.r9_forest.proofs.Repeats.{reduced_single, single_point}
use Rattle.r9_forest.proofs.images.Images.single.Goals as goal
use Rattle.r9_forest.proofs.images.Images.single.Goals.{After-get-frame}

-- the rectangle of the image
rect : (c : After-get-frame) → c.get-frame.result.now.r ≡ (image_at (world c.args.self.now) c.args.i).r
unfolding world
rect c =
    let same = bare_canvas (shape c.args.self.now.lists) (kept_at c.args.self.now.pixels) in
    ap (λ (im : Image). im.r) (sym c.get-frame.ensures) ∙ same.r c.args.i

ordered : (c : After-get-frame) → IsOrdered c.get-frame.result.now.r
unfolding world
ordered c = subst IsOrdered (sym (rect c)) (c.args.self.now.sound.forest.images c.args.i c.requires).ordered

pub get-frame-requires : goal.get-frame-requires
unfolding world
get-frame-requires c = (bare_canvas (shape c.args.self.now.lists) (kept_at c.args.self.now.pixels)).live c.args.i ∙ c.requires

pub width-requires : goal.width-requires
width-requires c = ordered (goal.at.width-requires c).After-get-frame

pub height-requires : goal.height-requires
height-requires c = ordered (goal.at.height-requires c).After-get-frame

pub view-requires-clause-inside : goal.view-requires-clause-inside
view-requires-clause-inside c =
    let at = (goal.at.view-requires-clause-inside c).After-get-frame in
    let r = c.get-frame.result.now.r in
    ap (λ (s : Rect). holds s r.min) (sym (rect at))
    ∙ single_point r (ordered at) (sym c.width.ensures ∙ c.if-width-eq1.true) (sym c.height.ensures ∙ c.if-height-eq1.true)

pub returns-then-height-eq1 : goal.returns-then-height-eq1
unfolding world
returns-then-height-eq1 c p =
    let at = (goal.at.returns-then-height-eq1 c).After-get-frame in
    let here = world c.args.self.now in
    let i = c.args.i in
    let r = c.get-frame.result.now.r in
    let same = bare_canvas (shape c.args.self.now.lists) (kept_at c.args.self.now.pixels) in
    let repl : (image_at here i).repl ≡ true = sym (same.repl i) ∙ ap (λ (im : Image). im.repl) c.get-frame.ensures ∙ c.if-frame.true in
    let wide : width r ≡ 1 = sym c.width.ensures ∙ c.if-width-eq1.true in
    let tall : height r ≡ 1 = sym c.height.ensures ∙ c.if-height-eq1.true in
    (λ j. view here i (if repl j then reduced (sym (rect at) j) p else p))
    ∙ ap (view here i) (reduced_single r p wide tall)
    ∙ sym c.view.ensures.value
