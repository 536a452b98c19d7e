-- There is a place for each pixel that an image shows.
use Rattle.std.proofs.Common.{◌≡◌, ◌∙◌, ℕ, zero, suc, Bool, true, false, Option, Some, None, refl, sym, ap, arith}
use Rattle.std.specs.Prelude.{◌&&◌, is_some, option_map, unwrap_or, if◌then◌else◌}
use Rattle.std.specs.Option.{option_map_or}
use Rattle.std.proofs.lemmas.Bool.{and_parts, true≢false}
use Rattle.r9_geom.specs.declared.Point.{Point}
use Rattle.r9_geom.specs.Geometry.{holds}
use Rattle.model_forest.specs.declared.Standing.{Standing}
use Rattle.model_forest.specs.World.{Image, World, image_at, no_image, parent_of, IsForest, IsLive}
use Rattle.model_forest.proofs.Changes.{World-same}
use Rattle.model_kept.specs.Keeping.{is_shown, is_top, keeping, outward, own, with_kept, Place}
use Rattle.model_kept.proofs.Worlds.{image_at-slot, live-slot, pictured, seen-same, standing-forest}
use Rattle.r9_locate.specs.locate.Forms.{form_of, forms_of, Form}
use Rattle.r9_locate.proofs.locate.Locating.{keeping-root, keeping-up}
use Rattle.r9_pixels.specs.declared.keeping.KeptPixels.{KeptPixels}
use Rattle.r9_pixels.specs.declared.own.Own.{Own}
use Rattle.r9_pixels.specs.declared.own.Own.TheVariants.{Whole, Hidden}
use Rattle.r9_pixels.specs.Kept.{form_at, has_place, kept_at}
use Rattle.r9_pixels.specs.Owns.{form_in, has_in, own_at, plane_form, window_form}
use Rattle.r9_pixels.specs.Places.{HasCells}
use Rattle.r9_pixels.proofs.Points.{hidden_has}

-- what stands nowhere has a plane
nowhere : (s : Option Standing) → option_map (λ (s : Standing). s.parent) s ≡ None → is_some s ≡ false
nowhere None e = refl
nowhere (Some s) e = cc

same_rect : (a b : Form) → Some a ≡ Some b → a.r ≡ b.r
same_rect a b e = cc

same_kind : (a b : Form) → Some a ≡ Some b → a.is_window ≡ b.is_window
same_kind a b e = cc

whole_has : (pixels : KeptPixels) (world : World) (i : ℕ) (x : Point) → form_at pixels ≡ forms_of world → IsLive world i → parent_of world i ≡ None → has_place pixels (own i x) ≡ holds (image_at world i).r x
whole_has pixels world i x same live root = by_image (world i) refl
  where
    by_own : (image : Image) → is_some image.standing ≡ false → (o : Option Own) → option_map form_in o ≡ Some (form_of image) → option_map_or (has_in pixels.cells i x) o false ≡ holds image.r x
    by_own image none None e = cc
    by_own image none (Some (Whole watched)) e = ap (λ r. holds r x) (same_rect (plane_form watched.plane) (form_of image) e)
    by_own image none (Some (Hidden extent)) e =
        absurd (true≢false (same_kind (window_form extent) (form_of image) e ∙ none))

    by_image : (o : Option Image) → world i ≡ o → has_place pixels (own i x) ≡ holds (image_at world i).r x
    by_image None e = absurd (true≢false (sym live ∙ ap is_some e))
    by_image (Some image) e =
        let at_i : image_at world i ≡ image = ap (λ o. unwrap_or o no_image) e in
        let stands : option_map (λ (s : Standing). s.parent) image.standing ≡ None = ap (λ (im : Image). option_map (λ (s : Standing). s.parent) im.standing) (sym at_i) ∙ root in
        by_own image (nowhere image.standing stands) (own_at pixels.owns.items i) (ap (λ (forms : ℕ → Option Form). forms i) same ∙ ap (option_map form_of) e)
        ∙ ap (λ (im : Image). holds im.r x) (sym at_i)

-- one level up
surface_step : (pixels : KeptPixels) (world : World) (i : ℕ) (x : Point) → IsForest world → form_at pixels ≡ forms_of world → HasCells world (has_place pixels) → IsLive world i → holds (image_at world i).r x ≡ true → ((parent : ℕ) → parent_of world i ≡ Some parent → holds (image_at world parent).r (outward world parent i x) ≡ true → has_place pixels (keeping world parent (outward world parent i x)) ≡ true) → has_place pixels (keeping world i x) ≡ true
surface_step pixels world i x ok same cells live inside up = by_parent (parent_of world i) refl
  where
    has : Place → Bool
    has = has_place pixels

    by_shown : (parent : ℕ) → parent_of world i ≡ Some parent → (b : Bool) → is_shown world parent i (outward world parent i x) ≡ b → has (if b then keeping world parent (outward world parent i x) else own i x) ≡ true
    by_shown parent stands false e =
        hidden_has world has i x ok cells inside (ap (λ o. option_map_or (λ (n : ℕ). if is_shown world n i (outward world n i x) then false else true) o false) stands ∙ ap (λ b. if b then false else true) e)
    by_shown parent stands true e =
        up parent stands (and_parts (holds (image_at world parent).r (outward world parent i x)) (is_top (image_at world parent).windows i (outward world parent i x)) e).0

    by_parent : (o : Option ℕ) → parent_of world i ≡ o → has (keeping world i x) ≡ true
    by_parent None root = ap has (keeping-root world i x root) ∙ whole_has pixels world i x same live root ∙ inside
    by_parent (Some parent) stands =
        ap has (keeping-up world (standing-forest world ok) i parent x live stands)
        ∙ by_shown parent stands (is_shown world parent i (outward world parent i x)) refl

pub surface_has : (pixels : KeptPixels) (world : World) → IsForest world → form_at pixels ≡ forms_of world → HasCells world (has_place pixels) → (depth i : ℕ) (x : Point) → (image_at world i).depth ≡ depth → IsLive world i → holds (image_at world i).r x ≡ true → has_place pixels (keeping world i x) ≡ true
surface_has pixels world ok same cells zero i x deep live inside =
    surface_step pixels world i x ok same cells live inside
    (λ parent stands within. let above = (standing-forest world ok).above i parent live stands in absurd (omega (arith, above, deep)))
surface_has pixels world ok same cells (suc depth) i x deep live inside =
    surface_step pixels world i x ok same cells live inside
    (λ parent stands within.
    let above = (standing-forest world ok).above i parent live stands in
    surface_has pixels world ok same cells depth parent (outward world parent i x) (omega (arith, above, deep)) (ok.parents i parent live stands) within)

-- worlds in which the same is kept for each pixel are one
pub kept_alike : (world : World) (a b : Place → ℕ) → ((n : ℕ) (x : Point) → IsLive world n → holds (image_at world n).r x ≡ true → a (keeping world n x) ≡ b (keeping world n x)) → with_kept world a ≡ with_kept world b
kept_alike world a b agree = World-same (with_kept world a) (with_kept world b) (λ n. at n (world n) refl)
  where
    at : (n : ℕ) (o : Option Image) → world n ≡ o → with_kept world a n ≡ with_kept world b n
    at n None e = ap (option_map {T = Image} (pictured world a n)) e ∙ sym (ap (option_map {T = Image} (pictured world b n)) e)
    at n (Some image) e =
        let at_n : image_at world n ≡ image = image_at-slot world n image e in
        ap (option_map {T = Image} (pictured world a n)) e
        ∙ ap (λ c. Some (record image { canvas = c }))
        (seen-same image.r image.windows (λ x. a (keeping world n x)) (λ x. b (keeping world n x))
        (λ x inside bare. agree n x (live-slot world n image e) (ap (λ (im : Image). holds im.r x) at_n ∙ inside)))
        ∙ sym (ap (option_map {T = Image} (pictured world b n)) e)

-- nothing is asked of what is kept where there is no place
pub placed_alike : (pixels : KeptPixels) (world : World) (kept : Place → ℕ) → IsForest world → form_at pixels ≡ forms_of world → HasCells world (has_place pixels) → ((place : Place) → has_place pixels place ≡ true → kept_at pixels place ≡ kept place) → with_kept world (kept_at pixels) ≡ with_kept world kept
placed_alike pixels world kept ok forms cells same =
    kept_alike world (kept_at pixels) kept
    (λ n x live inside. same (keeping world n x) (surface_has pixels world ok forms cells (image_at world n).depth n x refl live inside))

-- and for each point of a window at which it is not the topmost one
pub unshown_has : (world : World) (has : Place → Bool) (i p : ℕ) (x : Point) → IsForest world → HasCells world has → parent_of world i ≡ Some p → holds (image_at world i).r x ≡ true → is_top (image_at world p).windows i (outward world p i x) ≡ false → has (own i x) ≡ true
unshown_has world has i p x ok cells stands inside none =
    hidden_has world has i x ok cells inside
    (ap (λ o. option_map_or (λ (m : ℕ). if is_shown world m i (outward world m i x) then false else true) o false) stands
    ∙ ap (λ b. if holds (image_at world p).r (outward world p i x) && b then false else true) none
    ∙ ap (λ b. if b then false else true) (neither (holds (image_at world p).r (outward world p i x))))
  where
    neither : (b : Bool) → (b && false) ≡ false
    neither true = refl
    neither false = refl
