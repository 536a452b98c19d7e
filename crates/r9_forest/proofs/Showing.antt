-- What images show is what is kept for the points that they show.
use Rattle.std.proofs.Common.{◌≡◌, ◌∙◌, ℕ, zero, suc, ◌+◌, ◌<◌, ◌≤◌, ◌^◌, true, Option, Some, None, refl, sym, ap, arith, List}
use Rattle.std.specs.Prelude.{◌&&◌, is_some, option_map, unwrap_or, if◌then◌else◌}
use Rattle.std.specs.Option.{option_map_or}
use Rattle.std.proofs.lemmas.Bool.{and_from, true≢false}
use Rattle.std.proofs.lemmas.Int.{ints}
use Rattle.std.proofs.lemmas.Nat.{pow_pos}
use Rattle.r9_geom.specs.declared.Point.{Point}
use Rattle.r9_geom.specs.declared.Rect.{Rect}
use Rattle.r9_geom.specs.Geometry.{carried, holds, strip, IsRectNearBy}
use Rattle.r9_geom.proofs.GeometryLemmas.{bounds_of}
use Rattle.model_pixel.specs.Channels.{depth}
use Rattle.model_forest.specs.declared.Standing.{Standing}
use Rattle.model_forest.specs.World.{Image, World, deepest, image_at, no_image, parent_of, IsForest, IsLive}
use Rattle.model_forest.specs.Paint.{paint}
use Rattle.model_forest.specs.View.{is_bare, view}
use Rattle.model_forest.proofs.Listed.{window_of}
use Rattle.model_forest.proofs.Views.{paint_within-is_view}
use Rattle.model_kept.specs.Keeping.{is_shown, is_top, keeping, keeping_within, outward, own, place_among, with_kept, HasKept, Place}
use Rattle.model_kept.proofs.Once.{places-forest}
use Rattle.model_kept.proofs.Storing.{step_of, view_within-kept}
use Rattle.model_kept.proofs.Worlds.{image_at-slot, pictured, standing-forest}
use Rattle.r9_plane.specs.Pixels.{along}
use Rattle.r9_plane.proofs.PlaneLemmas.{along_holds}
use Rattle.r9_locate.specs.declared.locate.lists.Lists.{Lists}
use Rattle.r9_locate.specs.locate.Forms.{bits_in, form_of, forms_of, Form, HasBits}
use Rattle.r9_locate.specs.locate.Table.{shape}
use Rattle.r9_pixels.specs.declared.keeping.KeptPixels.{KeptPixels}
use Rattle.r9_pixels.specs.Kept.{form_at, has_place, kept_at}
use Rattle.r9_forest.specs.Sound.{IsSound}
use Rattle.r9_relist.proofs.arrive.Canvases.{bare_canvas, IsForest-canvas}
use Rattle.r9_forest.proofs.Sounding.{shape_bare}
use Rattle.r9_relist.proofs.relist.Surfaces.{surface_has}

-- images that stand alike keep their pixels at the same places
pub keeping_alike : (old new : World) → ((n : ℕ) → (image_at new n).r ≡ (image_at old n).r) → ((n : ℕ) → (image_at new n).standing ≡ (image_at old n).standing) → ((n : ℕ) → (image_at new n).windows ≡ (image_at old n).windows) → (depth n : ℕ) (y : Point) → keeping_within depth new n y ≡ keeping_within depth old n y
keeping_alike old new r standing windows zero n y = refl
keeping_alike old new r standing windows (suc depth) n y =
    ap (λ (s : Option Standing). option_map_or (step_of depth new n y) (option_map (λ (s : Standing). s.parent) s) (own n y)) (standing n)
    ∙ by_parent (parent_of old n) (λ parent q. keeping_alike old new r standing windows depth parent q)
  where
    by_parent : (o : Option ℕ) → ((parent : ℕ) (q : Point) → keeping_within depth new parent q ≡ keeping_within depth old parent q) → option_map_or (step_of depth new n y) o (own n y) ≡ option_map_or (step_of depth old n y) o (own n y)
    by_parent None further = refl
    by_parent (Some parent) further =
        let out : outward new parent n y ≡ outward old parent n y = (λ j. carried y (r n j).min (place_among (windows parent j) n).min) in
        let shown : is_shown new parent n (outward new parent n y) ≡ is_shown old parent n (outward old parent n y) = (λ j. holds (r parent j) (out j) && is_top (windows parent j) n (out j)) in
        ap (λ b. if b then keeping_within depth new parent (outward new parent n y) else own n y) shown
        ∙ ap (λ k. if is_shown old parent n (outward old parent n y) then k else own n y) (further parent (outward new parent n y) ∙ ap (keeping_within depth old parent) out)

-- the pixels of a world are kept where its lists say
pub keeping_seen : (shape : World) (kept : Place → ℕ) (i : ℕ) (p : Point) → keeping (with_kept shape kept) i p ≡ keeping shape i p
keeping_seen shape kept i p =
    let same = bare_canvas shape kept in
    ap (λ n. keeping_within n (with_kept shape kept) i p) (sym (same.deep i))
    ∙ sym (keeping_alike (with_kept shape kept) shape same.r same.standing same.windows (image_at shape i).depth i p)

pub kept_held : (shape : World) (kept : Place → ℕ) → HasKept (with_kept shape kept) kept
kept_held shape kept i p live inside bare = at (shape i) refl
  where
    at : (o : Option Image) → shape i ≡ o → (image_at (with_kept shape kept) i).canvas p ≡ kept (keeping (with_kept shape kept) i p)
    at None e = absurd (true≢false (sym live ∙ ap (λ (o : Option Image). is_some (option_map {T = Image} (pictured shape kept i) o)) e))
    at (Some image) e =
        let there : image_at (with_kept shape kept) i ≡ pictured shape kept i image = image_at-slot (with_kept shape kept) i (pictured shape kept i image) (ap (option_map {T = Image} (pictured shape kept i)) e) in
        ap (λ (im : Image). im.canvas p) there
        ∙ ap (λ b. if b then kept (keeping shape i p) else 0)
        (and_from (holds image.r p) (is_bare image.windows p) (sym (ap (λ (im : Image). holds im.r p) there) ∙ inside) (sym (ap (λ (im : Image). is_bare im.windows p) there) ∙ bare))
        ∙ ap kept (sym (keeping_seen shape kept i p))

-- so what an image shows at a point of it is what is kept for that
pub shown_kept : (shape : World) (kept : Place → ℕ) (i : ℕ) (p : Point) → IsForest (with_kept shape kept) → IsLive (with_kept shape kept) i → holds (image_at (with_kept shape kept) i).r p ≡ true → view (with_kept shape kept) i p ≡ kept (keeping shape i p)
unfolding view
shown_kept shape kept i p ok live inside =
    let world = with_kept shape kept in
    let enough : deepest < suc deepest + (image_at world i).depth = omega arith in
    view_within-kept world (standing-forest world ok) (places-forest world ok) kept (kept_held shape kept) (suc deepest) i p live inside enough
    ∙ ap kept (keeping_seen shape kept i p)

-- lists are a world of images too
pub shape_forest : (lists : Lists) (kept : Place → ℕ) → IsForest (with_kept (shape lists) kept) → IsForest (shape lists)
shape_forest lists kept ok =
    IsForest-canvas (with_kept (shape lists) kept) (shape lists) (bare_canvas (shape lists) kept)
    (λ n p live. let none = shape_bare lists n p in let some = pow_pos (depth (image_at (shape lists) n).chan) in omega (arith, none, some))
    ok

-- how many bits the pixels of an image have
pub bits_live : (world : World) (i : ℕ) → IsLive world i → bits_in (forms_of world) i ≡ depth (image_at world i).chan
bits_live world i live = at (world i) live
  where
    at : (o : Option Image) → is_some o ≡ true → option_map_or (λ (form : Form). depth form.chan) (option_map form_of o) 0 ≡ depth (unwrap_or o no_image).chan
    at None e = absurd (true≢false (sym e))
    at (Some image) e = refl

pub bits_sound : (lists : Lists) (pixels : KeptPixels) (spare : List ℕ) → IsSound lists pixels spare → HasBits (shape lists) (form_at pixels)
bits_sound lists pixels spare sound i p live stands =
    let world = shape lists in
    let ok = shape_forest lists (kept_at pixels) sound.forest in
    let found = window_of world ok i p stands in
    let chan : (image_at world i).chan ≡ (image_at world p).chan = ap (λ n. (image_at world n).chan) (sym found.1) ∙ found.2.chan in
    ap (λ forms. bits_in forms i) sound.forms ∙ bits_live world i live ∙ ap depth chan
    ∙ sym (bits_live world p (ok.parents i p live stands)) ∙ ap (λ forms. bits_in forms p) (sym sound.forms)

pub bits_of : (lists : Lists) (pixels : KeptPixels) (spare : List ℕ) (i : ℕ) → IsSound lists pixels spare → IsLive (with_kept (shape lists) (kept_at pixels)) i → bits_in (form_at pixels) i ≡ depth (image_at (with_kept (shape lists) (kept_at pixels)) i).chan
bits_of lists pixels spare i sound live =
    let same = bare_canvas (shape lists) (kept_at pixels) in
    ap (λ forms. bits_in forms i) sound.forms ∙ bits_live (shape lists) i (same.live i ∙ live) ∙ ap depth (same.chan i)

-- there is a place for each point of an image
pub point_has : (lists : Lists) (pixels : KeptPixels) (spare : List ℕ) (i : ℕ) (p : Point) → IsSound lists pixels spare → IsLive (shape lists) i → holds (image_at (shape lists) i).r p ≡ true → has_place pixels (keeping (shape lists) i p) ≡ true
point_has lists pixels spare i p sound live inside =
    surface_has pixels (shape lists) (shape_forest lists (kept_at pixels) sound.forest) sound.forms sound.cells (image_at (shape lists) i).depth i p refl live inside

-- a row within a rectangle is not wide
pub row_width : (r : Rect) (at : Point) (n : ℕ) → IsRectNearBy (2 ^ 36) r → ((p : Point) → holds (strip at n) p ≡ true → holds r p ≡ true) → n ≤ 2 ^ 38
row_width r at zero near inside = omega arith
row_width r at (suc n) near inside =
    let first = bounds_of r (along at 0) (inside (along at 0) (along_holds at (suc n) 0 (omega arith))) in
    let last = bounds_of r (along at n) (inside (along at n) (along_holds at (suc n) n (omega arith))) in
    omega (arith, ints, first.left, last.right, near.min.left, near.max.right)

-- what is painted from back to front is what it shows
pub view-painted : (world : World) → IsForest world → (i : ℕ) (p : Point) → IsLive world i → holds (image_at world i).r p ≡ true → view world i p ≡ paint world i p
unfolding view paint
view-painted world ok i p live inside = sym (paint_within-is_view world ok (suc deepest) i p live inside)
