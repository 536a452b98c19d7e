-- The windows of an image in a table whose forms are those of its world.
use Rattle.std.proofs.Common.{◌≡◌, ◌≢◌, ◌∙◌, ℕ, Bool, true, false, List, [], ◌∷◌, Option, Some, None, refl, sym, ap, subst}
use Rattle.std.specs.Prelude.{◌==◌, ◌||◌, All, is_some, option_map, unwrap_or}
use Rattle.std.specs.List.{list_any, AllByRecursion}
use Rattle.std.proofs.lemmas.Bool.{and_parts, false_from_ne_true, false≢true}
use Rattle.std.proofs.lemmas.Bool.Decides.{Decides-eqb}
use Rattle.std.proofs.lemmas.List.Elements.{recursion_from_All}
use Rattle.model_forest.specs.declared.Standing.{Standing}
use Rattle.model_forest.specs.declared.Window.{Window}
use Rattle.model_forest.specs.World.{Image, World, image_at, no_image, parent_of}
use Rattle.model_forest.proofs.Changes.{live-standing}
use Rattle.r9_locate.specs.locate.Forms.{form_of, forms_of, Form}
use Rattle.r9_cells.specs.Fitting.{hides_of, shows_of, IsCelled, IsWindowed}
use Rattle.r9_pixels.specs.declared.own.Extent.{Extent}
use Rattle.r9_pixels.specs.declared.own.Own.{Own}
use Rattle.r9_pixels.specs.declared.own.Own.TheVariants.{Whole, Hidden}
use Rattle.r9_pixels.specs.Owns.{form_in, own_at, plane_form, window_form, IsTabled}
use Rattle.r9_pixels.specs.Places.{StandsOn}
use Rattle.r9_pixels.proofs.Owning.{IsNoWindow}

-- the slots have the forms of the images
abbrev pub IsFormed : List (Option Own) → World → Type 0
IsFormed owns world = (λ i. option_map form_in (own_at owns i)) ≡ forms_of world

-- what a window has
stands_some : (s : Option Standing) (p : ℕ) → option_map (λ (s : Standing). s.parent) s ≡ Some p → is_some s ≡ true
stands_some None p e = cc
stands_some (Some s) p e = refl

form_window : (slot : Option Own) (image : Image) → option_map form_in slot ≡ Some (form_of image) → is_some image.standing ≡ true → (extent : Extent) × (slot ≡ Some (Hidden extent)) × (extent.r ≡ image.r)
form_window None image e window = cc
form_window (Some (Whole watched)) image e window =
    let same : false ≡ is_some image.standing = some_same (plane_form watched.plane) (form_of image) e in
    absurd (false≢true (same ∙ window))
  where
    some_same : (a b : Form) → Some a ≡ Some b → a.is_window ≡ b.is_window
    some_same a b e = cc
form_window (Some (Hidden extent)) image e window = (extent, refl, some_same (window_form extent) (form_of image) e)
  where
    some_same : (a b : Form) → Some a ≡ Some b → a.r ≡ b.r
    some_same a b e = cc

pub window_own : (owns : List (Option Own)) (world : World) (i p : ℕ) → IsFormed owns world → parent_of world i ≡ Some p → (extent : Extent) × (own_at owns i ≡ Some (Hidden extent)) × (extent.r ≡ (image_at world i).r)
window_own owns world i p formed stands = by_image (world i) refl
  where
    by_image : (o : Option Image) → world i ≡ o → (extent : Extent) × (own_at owns i ≡ Some (Hidden extent)) × (extent.r ≡ (image_at world i).r)
    by_image None none =
        let nowhere : None ≡ Some p = sym (ap (λ (o : Option Image). option_map (λ (s : Standing). s.parent) (unwrap_or o no_image).standing) none) ∙ stands in cc
    by_image (Some image) some =
        let form : option_map form_in (own_at owns i) ≡ Some (form_of image) = ap (λ (forms : ℕ → Option Form). forms i) formed ∙ ap (option_map form_of) some in
        let window = stands_some image.standing p (sym (ap (λ (o : Option Image). option_map (λ (s : Standing). s.parent) (unwrap_or o no_image).standing) some) ∙ stands) in
        let found = form_window (own_at owns i) image form window in
        (found.0, found.1, found.2 ∙ sym (ap (λ (o : Option Image). (unwrap_or o no_image).r) some))

-- and the rectangle of what is hidden
pub hidden_rect : (owns : List (Option Own)) (world : World) (i : ℕ) (extent : Extent) → IsFormed owns world → own_at owns i ≡ Some (Hidden extent) → extent.r ≡ (image_at world i).r
hidden_rect owns world i extent formed is = by_image (world i) refl
  where
    form : (o : Option Image) → world i ≡ o → option_map form_of o ≡ Some (window_form extent)
    form o e = ap (option_map form_of) (sym e) ∙ sym (ap (λ (forms : ℕ → Option Form). forms i) formed) ∙ ap (option_map form_in) is

    some_same : (a b : Form) → Some a ≡ Some b → a.r ≡ b.r
    some_same a b e = cc

    by_image : (o : Option Image) → world i ≡ o → extent.r ≡ (image_at world i).r
    by_image None none = let nothing : None ≡ Some (window_form extent) = form None none in cc
    by_image (Some image) some =
        sym (some_same (form_of image) (window_form extent) (form (Some image) some)) ∙ sym (ap (λ (o : Option Image). (unwrap_or o no_image).r) some)

-- and what is hidden stands on an image
stands_on : (s : Option Standing) → is_some s ≡ true → (p : ℕ) × (option_map (λ (s : Standing). s.parent) s ≡ Some p)
stands_on None e = absurd cc
stands_on (Some s) e = (s.parent, refl)

pub hidden_stands : (owns : List (Option Own)) (world : World) (i : ℕ) (extent : Extent) → IsFormed owns world → own_at owns i ≡ Some (Hidden extent) → (p : ℕ) × (parent_of world i ≡ Some p)
hidden_stands owns world i extent formed is = by_image (world i) refl
  where
    form : (o : Option Image) → world i ≡ o → option_map form_of o ≡ Some (window_form extent)
    form o e = ap (option_map form_of) (sym e) ∙ sym (ap (λ (forms : ℕ → Option Form). forms i) formed) ∙ ap (option_map form_in) is

    same_kind : (a b : Form) → Some a ≡ Some b → a.is_window ≡ b.is_window
    same_kind a b e = cc

    by_image : (o : Option Image) → world i ≡ o → (p : ℕ) × (parent_of world i ≡ Some p)
    by_image None none = let nothing : None ≡ Some (window_form extent) = form None none in absurd cc
    by_image (Some image) some =
        let found = stands_on image.standing (same_kind (form_of image) (window_form extent) (form (Some image) some)) in
        (found.0, ap (λ (o : Option Image). option_map (λ (s : Standing). s.parent) (unwrap_or o no_image).standing) some ∙ found.1)

-- each window of the list has its cells
pub windowed : (owns : List (Option Own)) (rows : List (List (Option ℕ))) (world : World) (p : ℕ) (windows : List Window) → IsFormed owns world → IsTabled owns rows → All (StandsOn world p) windows → All (IsWindowed rows world) windows
windowed owns rows world p windows formed tabled all = λ k d lt. each _ (all k d lt)
  where
    each : (w : Window) → StandsOn world p w → IsWindowed rows world w
    each w on =
        let found = window_own owns world w.image p formed on.stands in
        record {
          live = live-standing world w.image p on.stands;
          place = on.near;
          size = on.size;
          cells = subst (IsCelled rows w.image) found.2 (tabled.windows w.image found.0 found.1);
        }

-- no window of the list is an image that is none
pub none_of : (world : World) (p : ℕ) (windows : List Window) (j : ℕ) (test : Window → Bool) → ((w : Window) → test w ≡ true → j ≡ w.image) → (parent_of world j ≢ Some p) → All (StandsOn world p) windows → list_any test windows ≡ false
none_of world p windows j test named none all = by_recursion windows (recursion_from_All (StandsOn world p) windows all)
  where
    by_recursion : (ws : List Window) → AllByRecursion (StandsOn world p) ws → list_any test ws ≡ false
    by_recursion [] all = refl
    by_recursion (w ∷ ws) all =
        let not_it : test w ≡ false = false_from_ne_true (test w) (λ e. none (ap (parent_of world) (named w e) ∙ all.0.stands)) in
        ap (λ b. b || list_any test ws) not_it ∙ by_recursion ws all.1

-- an image of the table that is no window stands on none
pub stands_not : (owns : List (Option Own)) (world : World) (p j : ℕ) → IsFormed owns world → IsNoWindow (own_at owns j) → parent_of world j ≢ Some p
stands_not owns world p j formed none stands =
    let found = window_own owns world j p formed stands in none found.0 found.1

hides_named : (world : World) (p : ℕ) (windows : List Window) (j l : ℕ) (w : Window) → hides_of world p windows j l w ≡ true → j ≡ w.image
hides_named world p windows j l w e = (Decides-eqb j w.image).0 (and_parts (j == w.image) _ e).0

shows_named : (world : World) (p : ℕ) (windows : List Window) (j l : ℕ) (w : Window) → shows_of world p windows j l w ≡ true → j ≡ w.image
shows_named world p windows j l w e = (Decides-eqb j w.image).0 (and_parts (j == w.image) _ e).0

pub hides_none : (owns : List (Option Own)) (world : World) (p : ℕ) (windows : List Window) (j l : ℕ) → IsFormed owns world → IsNoWindow (own_at owns j) → All (StandsOn world p) windows → list_any (hides_of world p windows j l) windows ≡ false
hides_none owns world p windows j l formed none all =
    none_of world p windows j (hides_of world p windows j l) (hides_named world p windows j l) (stands_not owns world p j formed none) all

pub shows_none : (owns : List (Option Own)) (world : World) (p : ℕ) (windows : List Window) (j l : ℕ) → IsFormed owns world → IsNoWindow (own_at owns j) → All (StandsOn world p) windows → list_any (shows_of world p windows j l) windows ≡ false
shows_none owns world p windows j l formed none all =
    none_of world p windows j (shows_of world p windows j l) (shows_named world p windows j l) (stands_not owns world p j formed none) all
