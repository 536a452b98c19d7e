use Rattle.std.proofs.Common.{◌≡◌, ◌∙◌, ℕ, true, List, [], ◌∷◌, Option, Some, length, refl, sym, ap, subst, arith}
use Rattle.std.proofs.lemmas.Bool.{eqb-true}
use Rattle.std.specs.Prelude.{IfSome}
use Rattle.r9_geom.specs.Geometry.{is_empty, meet}
use Rattle.model_forest.specs.declared.Window.{Window}
use Rattle.model_forest.specs.Steps.{carried_rect, outside}
use Rattle.model_forest.specs.World.{Image, image_at}
use Rattle.r9_locate.specs.locate.Table.{shape}
use Rattle.r9_pixels.specs.Kept.{kept_at}
use Rattle.r9_relist.proofs.arrive.Canvases.{bare_canvas}
use Rattle.r9_forest.specs.Images.{world}
use Rattle.r9_forest.proofs.Exchanged.{stands_at}
use Rattle.r9_forest.proofs.Going.{fill_stands}
use Rattle.r9_forest.proofs.Groups.{stands-live}
use Rattle.r9_forest.proofs.Sounding.{sound_live}
use Rattle.r9_forest.proofs.images.Images.leaves_unseen.Goals as goal
use Rattle.r9_forest.proofs.images.Images.leaves_unseen.Goals.{In-Some}

-- where the window stands
stands : (c : In-Some) → (image_at (world c.args.self.now) c.args.old).standing ≡ Some c.in-Some.standing
unfolding world
stands c =
    sym ((bare_canvas (shape c.args.self.now.lists) (kept_at c.args.self.now.pixels)).standing c.args.old)
    ∙ ap (λ (image : Image). image.standing) c.get.ensures ∙ c.in-Some.is

pub get-requires : goal.get-requires
unfolding world
get-requires c =
    let now = c.args.self.now in
    sound_live now.lists (kept_at now.pixels) c.args.old (stands-live (world now) c.args.old c.requires)

pub get-requires-else-standing-p : goal.get-requires-else-standing-p
unfolding world
get-requires-else-standing-p c =
    let now = c.args.self.now in
    sound_live now.lists (kept_at now.pixels) c.in-Some.standing.fill (fill_stands (world now) c.args.old c.in-Some.standing now.sound.forest (stands (goal.at.get-requires-else-standing-p c).In-Some)).1

pub is_far_off-requires : goal.is_far_off-requires
is_far_off-requires c = stands_at (world c.args.self.now) c.args.old c.in-Some.standing (stands (goal.at.is_far_off-requires c).In-Some)

nil : (ws : List Window) → length ws ≡ 0 → ws ≡ []
nil [] e = refl
nil (w ∷ ws) e = absurd (omega (arith, e))

pub returns : goal.returns
unfolding world
returns c is =
    let at = goal.at.returns c in
    let now = c.args.self.now in
    let w = world now in
    let s = c.in-Some.standing in
    let same = bare_canvas (shape now.lists) (kept_at now.pixels) in
    let here = stands at.In-Some in
    let fill = (fill_stands w c.args.old s now.sound.forest here).0 in
    let none = eqb-true _ _ (sym c.is_empty.ensures ∙ c.if-not-is_empty.false) in
    let count = c.get-else-standing-p.result.now.windows.ok.0 in
    let bare : (image_at (shape now.lists) s.fill).windows ≡ [] =
    ap (λ (image : Image). image.windows) c.get-else-standing-p.ensures ∙ nil c.get-else-standing-p.result.now.windows.items (omega (arith, none, count)) in
    let own = same.r c.args.old in
    let below = same.r s.parent in
    let off : is_empty (meet (carried_rect (image_at w c.args.old).r (image_at w c.args.old).r.min outside) (image_at w s.parent).r) ≡ true =
    (λ j. is_empty (meet (carried_rect (sym own j) (sym own j).min outside) (sym below j))) ∙ c.is_far_off.ensures is in
    record {
      off = subst (λ (o : Option ℕ). IfSome o (λ q. is_empty (meet (carried_rect (image_at w c.args.old).r (image_at w c.args.old).r.min outside) (image_at w q).r) ≡ true)) (sym (stands_at w c.args.old s here)) off;
      bare = ap (λ n. (image_at w n).windows) fill ∙ sym (same.windows s.fill) ∙ bare;
      apart = λ e. c.if-standing-p.false (sym fill ∙ e);
    }
