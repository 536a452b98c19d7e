-- The marks of images, and what an image that stands nowhere is at a moment.
use Rattle.std.proofs.Common.{◌≡◌, ◌≢◌, ◌∙◌, ℕ, ◌^◌, ◌<◌, true, false, List, Option, Some, None, refl, sym, ap, subst, eq-eqb}
use Rattle.std.specs.Prelude.{is_some, option_and_then, option_map, unwrap_or, if◌then◌else◌}
use Rattle.std.specs.Option.{option_map_or}
use Rattle.std.proofs.lemmas.Bool.{ne_eqb, true≢false}
use Rattle.r9_geom.specs.declared.Point.{Point}
use Rattle.r9_geom.specs.declared.Rect.{Rect}
use Rattle.r9_geom.specs.Geometry.{height, point_at, width}
use Rattle.r9_geom.proofs.GeometryLemmas.{point_holds}
use Rattle.model_pixel.specs.Channels.{depth}
use Rattle.model_forest.specs.World.{World, image_at, no_rect, parent_of, with_image, IsForest, IsLive}
use Rattle.model_forest.proofs.Changes.{with_image-at}
use Rattle.model_kept.specs.Keeping.{own, with_kept, Place}
use Rattle.r9_plane.specs.declared.plane.Plane.{Plane}
use Rattle.r9_plane.specs.Marks as marks
use Rattle.r9_plane.specs.Marks.{marked_at}
use Rattle.r9_plane.specs.Pixels.{pixel_at, rect_of}
use Rattle.r9_locate.specs.watched.Moments.{moment_at, pixel_in, with_moment, IsSince, Moment}
use Rattle.r9_locate.specs.declared.locate.lists.Lists.{Lists}
use Rattle.r9_locate.specs.locate.Forms.{bits_in, form_of, Form}
use Rattle.r9_locate.specs.locate.Table.{shape}
use Rattle.r9_locate.proofs.locate.Locating.{keeping-root}
use Rattle.r9_pixels.specs.declared.keeping.KeptPixels.{KeptPixels}
use Rattle.r9_pixels.specs.declared.own.Own.{Own}
use Rattle.r9_pixels.specs.declared.own.Own.TheVariants.{Whole, Hidden}
use Rattle.r9_pixels.specs.Kept.{form_at, has_place, kept_at, mark_count, marked, moment, moment_now, plane_at, rect_at, writes}
use Rattle.r9_pixels.specs.Owns.{form_in, kept_in, moment_in, own_at, plane_form, plane_in}
use Rattle.r9_pixels.specs.Places.{HasCells}
use Rattle.r9_put.proofs.put.Forms.{form_live, nowhere_none, standing_nowhere}
use Rattle.r9_relist.proofs.arrive.Canvases.{bare_canvas, parent_same}
use Rattle.r9_forest.specs.Marks.{shown_in, IsMoment}
use Rattle.r9_forest.specs.Sound.{IsSound}
use Rattle.r9_forest.proofs.Showing.{bits_of, shown_kept}

-- the moment of one image is another
pub moment-here : (i : ℕ) (was : Option Moment) (moments : ℕ → Option Moment) → with_moment i was moments i ≡ was
moment-here i was moments = ap (λ b. if b then was else moments i) (eq-eqb i i refl)

pub moment-other : (i j : ℕ) (was : Option Moment) (moments : ℕ → Option Moment) → j ≢ i → with_moment i was moments j ≡ moments j
moment-other i j was moments other = ap (λ b. if b then was else moments j) (ne_eqb j i other)

-- an image that is not there is another than one that is
pub live-other : (world : World) (i j : ℕ) → world i ≡ None → IsLive world j → j ≢ i
live-other world i j none live here = true≢false (sym live ∙ ap is_some (ap world here ∙ none))

pub gone-other : (world : World) (i j : ℕ) → IsLive (with_image world i None) j → j ≢ i
gone-other world i j live = live-other (with_image world i None) i j (with_image-at world i None) live

-- the same is kept at the same places
pub looked_sound : (lists : Lists) (pixels new : KeptPixels) (spare : List ℕ) → kept_at new ≡ kept_at pixels → has_place new ≡ has_place pixels → form_at new ≡ form_at pixels → IsSound lists pixels spare → IsSound lists new spare
looked_sound lists pixels new spare kept has forms sound = record {
  forest = subst (λ (kept : Place → ℕ). IsForest (with_kept (shape lists) kept)) (sym kept) sound.forest;
  forms = forms ∙ sound.forms;
  cells = subst (HasCells (shape lists)) (sym has) sound.cells;
  numbers = sound.numbers;
}

-- what a plane has is what its image keeps
planed_form : (pixels : KeptPixels) (i : ℕ) (plane : Plane) → plane_at pixels i ≡ Some plane → form_at pixels i ≡ Some (plane_form plane)
planed_form pixels i plane = at (own_at pixels.owns.items i)
  where
    at : (o : Option Own) → option_and_then plane_in o ≡ Some plane → option_map form_in o ≡ Some (plane_form plane)
    at None e = absurd (true≢false (sym (ap is_some e)))
    at (Some (Hidden extent)) e = absurd (true≢false (sym (ap is_some e)))
    at (Some (Whole watched)) e = ap (λ (plane : Plane). Some (plane_form plane)) (ap (λ (o : Option Plane). unwrap_or o plane) e)

planed_pixel : (pixels : KeptPixels) (i : ℕ) (plane : Plane) (p : Point) → plane_at pixels i ≡ Some plane → kept_at pixels (own i p) ≡ pixel_at plane p
planed_pixel pixels i plane p = at (own_at pixels.owns.items i)
  where
    at : (o : Option Own) → option_and_then plane_in o ≡ Some plane → option_map_or (kept_in pixels.cells i p) o 0 ≡ pixel_at plane p
    at None e = absurd (true≢false (sym (ap is_some e)))
    at (Some (Hidden extent)) e = absurd (true≢false (sym (ap is_some e)))
    at (Some (Whole watched)) e = ap (λ (plane : Plane). pixel_at plane p) (ap (λ (o : Option Plane). unwrap_or o plane) e)

-- an image with a moment has a plane
momented : (pixels : KeptPixels) (i : ℕ) (was : Moment) → moment pixels i ≡ Some was → option_map (λ (form : Form). form.is_window) (form_at pixels i) ≡ Some false
momented pixels i was = at (own_at pixels.owns.items i)
  where
    at : (o : Option Own) → option_and_then moment_in o ≡ Some was → option_map (λ (form : Form). form.is_window) (option_map form_in o) ≡ Some false
    at None e = absurd (true≢false (sym (ap is_some e)))
    at (Some (Hidden extent)) e = absurd (true≢false (sym (ap is_some e)))
    at (Some (Whole watched)) e = refl

module _ (lists : Lists) (pixels : KeptPixels) (spare : List ℕ) (i : ℕ) (sound : IsSound lists pixels spare) (live : IsLive (with_kept (shape lists) (kept_at pixels)) i) where
  abbrev world : World
  world = with_kept (shape lists) (kept_at pixels)

  formed : form_at pixels i ≡ Some (form_of (image_at (shape lists) i))
  formed = ap (λ (forms : ℕ → Option Form). forms i) sound.forms ∙ form_live (shape lists) i ((bare_canvas (shape lists) (kept_at pixels)).live i ∙ live)

  -- its rectangle is that of what it has for its pixels
  pub rect_live : rect_at pixels i ≡ (image_at world i).r
  rect_live = ap (λ (o : Option Form). option_map_or (λ (form : Form). form.r) o no_rect) formed ∙ (bare_canvas (shape lists) (kept_at pixels)).r i

  -- what has a plane stands nowhere
  rooted : option_map (λ (form : Form). form.is_window) (form_at pixels i) ≡ Some false → parent_of (shape lists) i ≡ None
  rooted is =
      nowhere_none (image_at (shape lists) i).standing
      (ap (λ (o : Option Form). option_map_or (λ (form : Form). form.is_window) o false) (sym formed) ∙ read (form_at pixels i) is)
    where
      read : (o : Option Form) → option_map (λ (form : Form). form.is_window) o ≡ Some false → option_map_or (λ (form : Form). form.is_window) o false ≡ false
      read None e = refl
      read (Some form) e = ap (λ o. unwrap_or o false) e

  -- and shows at each point of it what it keeps there
  root_shown : (column row : ℕ) → option_map (λ (form : Form). form.is_window) (form_at pixels i) ≡ Some false → column < width (image_at world i).r → row < height (image_at world i).r → kept_at pixels (own i (point_at (image_at world i).r column row)) ≡ shown_in world i column row
  root_shown column row is right below =
      let p = point_at (image_at world i).r column row in
      ap (kept_at pixels) (sym (keeping-root (shape lists) i p (rooted is)))
      ∙ sym (shown_kept (shape lists) (kept_at pixels) i p sound.forest live (point_holds (image_at world i).r column row right below))

  plane_shown : (plane : Plane) (column row : ℕ) → plane_at pixels i ≡ Some plane → column < width (image_at world i).r → row < height (image_at world i).r → pixel_in plane column row ≡ shown_in world i column row
  plane_shown plane column row is right below =
      let form = planed_form pixels i plane is in
      let rect : rect_of plane ≡ (image_at world i).r = ap (λ (o : Option Form). option_map_or (λ (form : Form). form.r) o no_rect) (sym form) ∙ rect_live in
      ap (λ (r : Rect). pixel_at plane (point_at r column row)) rect
      ∙ sym (planed_pixel pixels i plane (point_at (image_at world i).r column row) is)
      ∙ root_shown column row (ap (option_map (λ (form : Form). form.is_window)) form) right below

  -- so the moment at which its plane is as it is is that at which it shows what it does
  pub moment_is : (was : Moment) → moment_now pixels i ≡ Some was → IsMoment was (image_at world i).r (shown_in world i) (marked pixels i) (mark_count pixels i) (writes pixels)
  moment_is was = at (plane_at pixels i) refl
    where
      at : (o : Option Plane) → plane_at pixels i ≡ o → option_map (λ (plane : Plane). moment_at plane (writes pixels)) o ≡ Some was → IsMoment was (image_at world i).r (shown_in world i) (marked pixels i) (mark_count pixels i) (writes pixels)
      at None e none = absurd (true≢false (sym (ap is_some none)))
      at (Some plane) e is =
          let same : moment_at plane (writes pixels) ≡ was = ap (λ (o : Option Moment). unwrap_or o was) is in
          record {
            pixels = λ column row right below. ap (λ (m : Moment). m.pixels column row) (sym same) ∙ plane_shown plane column row e right below;
            marked = ap (λ (m : Moment). m.marked) (sym same) ∙ (λ j column row. option_map_or (λ (plane : Plane). marked_at plane column row) (sym e j) false);
            count = ap (λ (m : Moment). m.count) (sym same) ∙ ap (λ (o : Option Plane). option_map_or marks.mark_count o 0) (sym e);
            writes = ap (λ (m : Moment). m.writes) (sym same);
          }

  -- an image that stands nowhere has a moment
  pub moment_there : parent_of world i ≡ None → is_some (moment_now pixels i) ≡ true
  moment_there nowhere =
      at (own_at pixels.owns.items i)
      (ap (λ (o : Option Form). option_map (λ (form : Form). form.is_window) o) formed
      ∙ ap (λ b. Some b) (standing_nowhere (image_at (shape lists) i).standing (parent_same world (shape lists) (bare_canvas (shape lists) (kept_at pixels)) i ∙ nowhere)))
    where
      at : (o : Option Own) → option_map (λ (form : Form). form.is_window) (option_map form_in o) ≡ Some false → is_some (option_map (λ (plane : Plane). moment_at plane (writes pixels)) (option_and_then plane_in o)) ≡ true
      at None e = absurd (true≢false (sym (ap is_some e)))
      at (Some (Hidden extent)) e = absurd (true≢false (ap (λ o. unwrap_or o true) e))
      at (Some (Whole watched)) e = refl

  pub moment_kept : parent_of world i ≡ None → is_some (moment pixels i) ≡ true
  moment_kept nowhere = same (own_at pixels.owns.items i) ∙ moment_there nowhere
    where
      same : (o : Option Own) → is_some (option_and_then moment_in o) ≡ is_some (option_map (λ (plane : Plane). moment_at plane (writes pixels)) (option_and_then plane_in o))
      same None = refl
      same (Some (Hidden extent)) = refl
      same (Some (Whole watched)) = refl

  -- what it shows fits its channels
  pub shown_fits : (was : Moment) → moment pixels i ≡ Some was → ((p : Point) → kept_at pixels (own i p) < 2 ^ bits_in (form_at pixels) i)
      → (column row : ℕ) → column < width (image_at world i).r → row < height (image_at world i).r → shown_in world i column row < 2 ^ depth (image_at world i).chan
  shown_fits was is fits column row right below =
      let p = point_at (image_at world i).r column row in
      subst (λ (n : ℕ). n < 2 ^ depth (image_at world i).chan) (root_shown column row (momented pixels i was is) right below)
      (subst (λ (bits : ℕ). kept_at pixels (own i p) < 2 ^ bits) (bits_of lists pixels spare i sound live) (fits p))

  -- and what has changed of it since then is what it shows otherwise
  pub since_shown : (was : Moment) → moment pixels i ≡ Some was → IsSince was (rect_at pixels i) (λ column row. kept_at pixels (own i (point_at (rect_at pixels i) column row))) (marked pixels i) → IsSince was (image_at world i).r (shown_in world i) (marked pixels i)
  since_shown was is since =
      let root = momented pixels i was is in
      let there : IsSince was (image_at world i).r (λ column row. kept_at pixels (own i (point_at (image_at world i).r column row))) (marked pixels i) =
      subst (λ (r : Rect). IsSince was r (λ column row. kept_at pixels (own i (point_at r column row))) (marked pixels i)) rect_live since in
      record {
        unmarked = λ column row right below none. sym (root_shown column row root right below) ∙ there.unmarked column row right below none;
        kept = there.kept;
      }
