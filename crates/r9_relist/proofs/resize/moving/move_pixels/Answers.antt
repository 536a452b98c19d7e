use Rattle.std.proofs.Common.{◌≡◌, ◌∙◌, ℕ, Option, Some, sym, subst, ap}
use Rattle.std.specs.Prelude.{◌&&◌, option_map}
use Rattle.std.proofs.lemmas.Bool.{and_from, and_parts, true≢false}
use Rattle.r9_geom.specs.declared.Point.{Point}
use Rattle.r9_geom.specs.declared.Rect.{Rect}
use Rattle.r9_geom.specs.Geometry.{holds, IsRectNear}
use Rattle.r9_plane.specs.Pixels.{pixel_at, rect_of}
use Rattle.model_forest.specs.World.{Image, image_at}
use Rattle.model_kept.specs.Keeping.{own, Place}
use Rattle.r9_locate.specs.locate.Forms.{Form}
use Rattle.r9_locate.specs.locate.Table.{shape}
use Rattle.r9_pixels.specs.Kept.{kept_at}
use Rattle.r9_relist.proofs.relist.Near.{nearby}
use Rattle.r9_relist.specs.resize.Moves.{IsMovedFor}
use Rattle.r9_relist.proofs.resize.Moved.{moved_all}
use Rattle.r9_relist.proofs.resize.Shapes.{form_chan, root_form}
use Rattle.r9_relist.proofs.resize.moving.move_pixels.Given.{Over}
use Rattle.r9_relist.proofs.resize.moving.move_pixels.Goals as goal
use Rattle.r9_relist.proofs.resize.moving.move_pixels.Goals.{After-common, After-get}

-- what both rectangles hold
both : (g : Over) (c : After-common g) (p : Point) → holds c.common.result p ≡ (holds (rect_of c.args.had.now) p && holds (image_at (shape c.args.lists.now) c.args.i).r p)
both g c p =
    c.common.ensures.points p
    ∙ (λ j. holds (c.rect-from.ensures.value j) p && holds (sym (ap (λ (im : Image). im.r) c.get.ensures) j) p)

-- the rectangle that the image has is near
near : (g : Over) (c : After-get g) → IsRectNear c.get.result.now.r
near g c =
    subst (λ (im : Image). IsRectNear im.r) c.get.ensures (nearby (shape c.args.lists.now) c.requires.forest c.args.i c.requires.live).0

pub common-requires-clause-also : goal.common-requires-clause-also
common-requires-clause-also g c = near g (goal.at.common-requires-clause-also g c).After-get

pub copy_whole-requires-clause-whole : goal.copy_whole-requires-clause-whole
copy_whole-requires-clause-whole g c =
    ap (λ (forms : ℕ → Option Form). option_map (λ (form : Form). form.is_window) (forms c.args.i)) c.requires.forms ∙ root_form (shape c.args.lists.now) c.args.i c.requires.live c.requires.nowhere

pub copy_whole-requires-clause-has : goal.copy_whole-requires-clause-has
copy_whole-requires-clause-has g c p h =
    c.requires.places.whole p (and_parts (holds (rect_of c.args.had.now) p) (holds (image_at (shape c.args.lists.now) c.args.i).r p) (sym (both g (goal.at.copy_whole-requires-clause-has g c).After-common p) ∙ h)).1

pub copy_whole-requires-clause-other : goal.copy_whole-requires-clause-other
copy_whole-requires-clause-other g c p h =
    (and_parts (holds (rect_of c.args.had.now) p) (holds (image_at (shape c.args.lists.now) c.args.i).r p) (sym (both g (goal.at.copy_whole-requires-clause-other g c).After-common p) ∙ h)).0

pub copy_whole-requires-clause-chan : goal.copy_whole-requires-clause-chan
copy_whole-requires-clause-chan g c =
    ap (λ (forms : ℕ → Option Form). option_map (λ (form : Form). form.chan) (forms c.args.i)) c.requires.forms
    ∙ form_chan (shape c.args.lists.now) c.args.i c.requires.live
    ∙ ap (λ n. Some n) (sym c.requires.chan)

pub move_area-requires-2-clause-near : goal.move_area-requires-2-clause-near
move_area-requires-2-clause-near g c = near g (goal.at.move_area-requires-2-clause-near g c).After-get

pub returns-clause-resized : goal.returns-clause-resized
returns-clause-resized g c before raw fresh was others =
    let at = goal.at.returns-clause-resized g c in
    let world = shape c.args.lists.now in
    let from = rect_of c.args.had.now in
    moved_all world c.args.i from (pixel_at c.args.had.now) c.requires.live c.requires.forest before (kept_at c.copy_whole.new.self) (kept_at c.move_area.new.pixels) (kept_at c.move_area-2.new.pixels) raw
    (λ q had here. c.copy_whole.ensures.at q (both g at.After-common q ∙ and_from (holds from q) (holds (image_at world c.args.i).r q) had here))
    (λ q missed here.
    c.copy_whole.ensures.others (own c.args.i q)
    (λ p h e.
    let there = and_parts (holds from p) (holds (image_at world c.args.i).r p) (sym (both g at.After-common p) ∙ h) in
    true≢false (sym there.0 ∙ ap (λ (k : Place). holds from k.at) (sym e) ∙ missed))
    ∙ fresh q here)
    (λ place other. c.copy_whole.ensures.others place (λ p h e. other (ap (λ (k : Place). k.image) e)) ∙ others place other)
    was
    (subst (λ (r : Rect). IsMovedFor world c.args.i from (pixel_at c.args.had.now) (kept_at c.copy_whole.new.self) (kept_at c.move_area.new.pixels) (holds r)) c.rect-from.ensures.value c.move_area.ensures.moved)
    (subst (λ (r : Rect). IsMovedFor world c.args.i from (pixel_at c.args.had.now) (kept_at c.move_area.new.pixels) (kept_at c.move_area-2.new.pixels) (holds r)) (sym (ap (λ (im : Image). im.r) c.get.ensures)) c.move_area-2.ensures.moved)
