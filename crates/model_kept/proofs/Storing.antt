-- A world whose bare points are kept once shows at each point what is kept for it.
use Rattle.std.proofs.Common.{List, Bool, sym, ◌≡◌, ℕ, zero, suc, ◌+◌, ◌<◌, ◌≤◌, true, false, Option, Some, None, refl, ◌∙◌, ap, arith, eq-eqb, add-one}
use Rattle.std.specs.Prelude.{◌&&◌, ◌==◌, is_none, if◌then◌else◌}
use Rattle.std.specs.Option.{option_map_or}
use Rattle.std.proofs.lemmas.Int.{ints}
use Rattle.r9_geom.specs.declared.Point.{Point}
use Rattle.r9_geom.specs.declared.Rect.{Rect}
use Rattle.r9_geom.specs.Geometry.{holds, carried}
use Rattle.std.proofs.lemmas.Bool.{and_parts, false≢true}
use Rattle.std.proofs.lemmas.Bool.Decides.{Decides-eqb}
use Rattle.r9_geom.proofs.GeometryLemmas.{same_point}
use Rattle.model_forest.specs.declared.Window.{Window}
use Rattle.model_forest.specs.World.{parent_of, World, image_at, deepest, IsLive, IsWindowOf}
use Rattle.model_forest.specs.View.{is_bare, top_window, inward, view_within}
use Rattle.model_forest.proofs.Views.{All-top_window, holds-carried, holds-top_window}
use Rattle.model_kept.specs.Keeping.{Place, own, place_among, outward, is_top, is_shown, keeping_within, keeping, HasOnePlaces, HasKept, IsStanding}

-- the bare pixel that an image shows at a point, at most so many windows deep
abbrev pub shown_within : ℕ → World → ℕ → Point → Place
shown_within zero world i p = own i p
shown_within (suc depth) world i p =
    option_map_or (λ w. shown_within depth world w.image (inward world w p))
    (top_window (image_at world i).windows p)
    (own i p)

-- the image, and the point of it, whose own pixel an image shows at a point
abbrev pub shown : World → ℕ → Point → Place
shown world i p = shown_within (suc deepest) world i p

-- what the topmost window at a point is
pub window-at : (world : World) → IsStanding world → (i : ℕ) (p : Point) (w : Window) → IsLive world i → top_window (image_at world i).windows p ≡ Some w → IsWindowOf world i w
window-at world ok i p w live e = All-top_window (IsWindowOf world i) (image_at world i).windows p w (ok.windows i live) e

-- and the point of it that stands there is one of its own
pub inward-inside : (world : World) → IsStanding world → (i : ℕ) (p : Point) (w : Window) → IsLive world i → top_window (image_at world i).windows p ≡ Some w → holds (image_at world w.image).r (inward world w p) ≡ true
inward-inside world ok i p w live e =
    let is : IsWindowOf world i w = window-at world ok i p w live e in
    sym (holds-carried w.place (image_at world w.image).r p is.size) ∙ holds-top_window (image_at world i).windows p w e

same_at : {A : Type 0} (f g : Window → A) (o : Option Window) (d : A) → ((w : Window) → o ≡ Some w → f w ≡ g w) → option_map_or f o d ≡ option_map_or g o d
same_at f g None d agree = refl
same_at f g (Some w) d agree = agree w refl

pub carried-back : (p from to : Point) → carried (carried p from to) to from ≡ p
carried-back p from to = same_point (carried (carried p from to) to from) p (omega (arith, ints)) (omega (arith, ints))

-- what one level up gives
abbrev pub step_of : ℕ → World → ℕ → Point → ℕ → Place
step_of depth world i p parent = if is_shown world parent i (outward world parent i p) then keeping_within depth world parent (outward world parent i p) else own i p

-- the way back from a point that a window stands at
pub outward-inward : (world : World) → HasOnePlaces world → (i : ℕ) (p : Point) (w : Window) → IsLive world i → top_window (image_at world i).windows p ≡ Some w → outward world i w.image (inward world w p) ≡ p
outward-inward world places i p w live top =
    let place : place_among (image_at world i).windows w.image ≡ w.place = All-top_window (λ v. place_among (image_at world i).windows v.image ≡ v.place) (image_at world i).windows p w (places i live) top in
    ap (λ (r : Rect). carried (inward world w p) (image_at world w.image).r.min r.min) place ∙ carried-back p w.place.min (image_at world w.image).r.min

-- the topmost window is shown
pub is_shown-top : (world : World) (i : ℕ) (p : Point) (w : Window) → holds (image_at world i).r p ≡ true → top_window (image_at world i).windows p ≡ Some w → is_shown world i w.image p ≡ true
is_shown-top world i p w inside top =
    let itself : (w.image == w.image) ≡ true = eq-eqb w.image w.image refl in
    let topmost : is_top (image_at world i).windows w.image p ≡ true = ap (λ o. option_map_or (λ (v : Window). v.image == w.image) o false) top ∙ itself in
    ap (λ b. b && is_top (image_at world i).windows w.image p) inside ∙ topmost

-- a point that a window shows is kept where its parent keeps it
pub keeping-inward : (world : World) → IsStanding world → HasOnePlaces world → (i : ℕ) (p : Point) (w : Window) → IsLive world i → holds (image_at world i).r p ≡ true → top_window (image_at world i).windows p ≡ Some w → keeping world w.image (inward world w p) ≡ keeping world i p
keeping-inward world ok places i p w live inside top =
    let is : IsWindowOf world i w = window-at world ok i p w live top in
    let back : outward world i w.image (inward world w p) ≡ p = outward-inward world places i p w live top in
    ap (λ n. keeping_within n world w.image (inward world w p)) (is.above ∙ add-one (image_at world i).depth)
    ∙ ap (λ o. option_map_or (step_of (image_at world i).depth world w.image (inward world w p)) o (own w.image (inward world w p))) is.stands
    ∙ ap (λ q. if is_shown world i w.image q then keeping_within (image_at world i).depth world i q else own w.image (inward world w p)) back
    ∙ ap (λ b. if b then keeping world i p else own w.image (inward world w p)) (is_shown-top world i p w inside top)

-- the view of each image at each of its points is what is kept for that point
pub view_within-kept : (world : World) → IsStanding world → HasOnePlaces world → (kept : Place → ℕ) → HasKept world kept → (depth i : ℕ) (p : Point) → IsLive world i → holds (image_at world i).r p ≡ true → deepest < depth + (image_at world i).depth → view_within depth world i p ≡ kept (keeping world i p)
view_within-kept world ok places kept has zero i p live inside enough =
    let few : (image_at world i).depth ≤ deepest = ok.shallow i live in absurd (omega arith)
view_within-kept world ok places kept has (suc depth) i p live inside enough =
    by_top (top_window (image_at world i).windows p) refl
    (λ w top is still. view_within-kept world ok places kept has depth w.image (inward world w p) is.live (inward-inside world ok i p w live top) still)
  where
    by_top : (o : Option Window) → top_window (image_at world i).windows p ≡ o → ((w : Window) → top_window (image_at world i).windows p ≡ Some w → IsWindowOf world i w → deepest < depth + (image_at world w.image).depth → view_within depth world w.image (inward world w p) ≡ kept (keeping world w.image (inward world w p))) → option_map_or (λ w. view_within depth world w.image (inward world w p)) (top_window (image_at world i).windows p) ((image_at world i).canvas p) ≡ kept (keeping world i p)
    by_top None top further =
        ap (λ o. option_map_or (λ w. view_within depth world w.image (inward world w p)) o ((image_at world i).canvas p)) top
        ∙ has i p live inside (ap is_none top)
    by_top (Some w) top further =
        let is : IsWindowOf world i w = window-at world ok i p w live top in
        let above = is.above in
        let still : deepest < depth + (image_at world w.image).depth = omega arith in
        ap (λ o. option_map_or (λ v. view_within depth world v.image (inward world v p)) o ((image_at world i).canvas p)) top
        ∙ further w top is still
        ∙ ap kept (keeping-inward world ok places i p w live inside top)

-- one more level of depth changes nothing, where there is depth enough
shown_within-more : (world : World) → IsStanding world → (depth i : ℕ) (p : Point) → IsLive world i → deepest < depth + (image_at world i).depth → shown_within depth world i p ≡ shown_within (suc depth) world i p
shown_within-more world ok zero i p live enough =
    let few : (image_at world i).depth ≤ deepest = ok.shallow i live in absurd (omega arith)
shown_within-more world ok (suc depth) i p live enough =
    same_at (λ w. shown_within depth world w.image (inward world w p)) (λ w. shown_within (suc depth) world w.image (inward world w p)) (top_window (image_at world i).windows p) (own i p)
    (λ w e.
    let is : IsWindowOf world i w = window-at world ok i p w live e in
    let deeper = is.above in
    let still : deepest < depth + (image_at world w.image).depth = omega arith in
    shown_within-more world ok depth w.image (inward world w p) is.live still)

-- what an image shows under its topmost window
pub shown-inward : (world : World) → IsStanding world → (i : ℕ) (p : Point) (w : Window) → IsLive world i → top_window (image_at world i).windows p ≡ Some w → shown world i p ≡ shown world w.image (inward world w p)
shown-inward world ok i p w live top =
    let is : IsWindowOf world i w = window-at world ok i p w live top in
    let deeper = is.above in
    let enough : deepest < deepest + (image_at world w.image).depth = omega arith in
    ap (λ o. option_map_or (λ v. shown_within deepest world v.image (inward world v p)) o (own i p)) top
    ∙ shown_within-more world ok deepest w.image (inward world w p) is.live enough

-- what a bare point shows is its own pixel
pub shown-bare : (world : World) (i : ℕ) (p : Point) → is_bare (image_at world i).windows p ≡ true → shown world i p ≡ own i p
shown-bare world i p bare = by_top (top_window (image_at world i).windows p) bare
  where
    by_top : (o : Option Window) → is_none o ≡ true → option_map_or (λ w. shown_within deepest world w.image (inward world w p)) o (own i p) ≡ own i p
    by_top None none = refl
    by_top (Some w) none = cc

-- a window that its parent shows is the topmost one there
pub shown_by : (windows : List Window) (i : ℕ) (q : Point) (o : Option Window) → top_window windows q ≡ o → option_map_or (λ w. w.image == i) o false ≡ true → (w : Window) × (top_window windows q ≡ Some w) × (w.image ≡ i)
shown_by windows i q None top same = absurd (false≢true same)
shown_by windows i q (Some w) top same = (w, top, (Decides-eqb w.image i).0 same)

-- the window that is shown at a point where one of its points stands, and that point
pub record IsShownBy (world : World) (parent i : ℕ) (p : Point) (w : Window) : Type 0 where
  pub inside : holds (image_at world parent).r (outward world parent i p) ≡ true
  pub top : top_window (image_at world parent).windows (outward world parent i p) ≡ Some w
  pub image : w.image ≡ i
  pub back : inward world w (outward world parent i p) ≡ p

pub shown_there : (world : World) → HasOnePlaces world → (parent i : ℕ) (p : Point) → IsLive world parent → is_shown world parent i (outward world parent i p) ≡ true → (w : Window) × IsShownBy world parent i p w
shown_there world places parent i p live is =
    let ws = (image_at world parent).windows in
    let q : Point = outward world parent i p in
    let parts = and_parts (holds (image_at world parent).r q) (is_top ws i q) is in
    let top = shown_by ws i q (top_window ws q) refl parts.1 in
    let place : place_among ws top.0.image ≡ top.0.place = All-top_window (λ v. place_among ws v.image ≡ v.place) ws q top.0 (places parent live) top.1 in
    let at_i : place_among ws i ≡ top.0.place = ap (λ n. place_among ws n) (sym top.2) ∙ place in (
      top.0,
      record {
        inside = parts.0;
        top = top.1;
        image = top.2;
        back =
            ap (λ n. carried q top.0.place.min (image_at world n).r.min) top.2
            ∙ ap (λ (r : Rect). carried q r.min (image_at world i).r.min) (sym at_i)
            ∙ carried-back p (image_at world i).r.min (place_among ws i).min;
      },
    )

-- at the place of a pixel the bare pixel is kept that the image shows there
pub shown-keeping : (world : World) → IsStanding world → HasOnePlaces world → (depth i : ℕ) (p : Point) → IsLive world i → shown world (keeping_within depth world i p).image (keeping_within depth world i p).at ≡ shown world i p
shown-keeping world ok places zero i p live = refl
shown-keeping world ok places (suc depth) i p live =
    by_parent (parent_of world i) refl (λ parent parent_live. shown-keeping world ok places depth parent (outward world parent i p) parent_live)
  where
    looked : Place → Place
    looked k = shown world k.image k.at

    by_parent : (o : Option ℕ) → parent_of world i ≡ o → ((parent : ℕ) → IsLive world parent → looked (keeping_within depth world parent (outward world parent i p)) ≡ shown world parent (outward world parent i p)) → looked (option_map_or (step_of depth world i p) (parent_of world i) (own i p)) ≡ shown world i p
    by_parent None stands above = ap (λ o. looked (option_map_or (step_of depth world i p) o (own i p))) stands
    by_parent (Some parent) stands above =
        ap (λ o. looked (option_map_or (step_of depth world i p) o (own i p))) stands ∙ by_test (is_shown world parent i (outward world parent i p)) refl
      where
        parent_live : IsLive world parent
        parent_live = ok.parents i parent live stands

        by_test : (b : Bool) → is_shown world parent i (outward world parent i p) ≡ b → looked (if b then keeping_within depth world parent (outward world parent i p) else own i p) ≡ shown world i p
        by_test false not_shown = refl
        by_test true is_there =
            let by = shown_there world places parent i p parent_live is_there in
            let q : Point = outward world parent i p in
            above parent parent_live
            ∙ shown-inward world ok parent q by.0 parent_live by.1.top
            ∙ ap (λ n. shown world n (inward world by.0 q)) by.1.image
            ∙ ap (shown world i) by.1.back

-- so two bare pixels that are kept at one place are one
pub same_from_keeping : (world : World) → IsStanding world → HasOnePlaces world → (i j : ℕ) (p q : Point) → IsLive world i → IsLive world j → is_bare (image_at world i).windows p ≡ true → is_bare (image_at world j).windows q ≡ true → keeping world i p ≡ keeping world j q → (i ≡ j) × (p ≡ q)
same_from_keeping world ok places i j p q i_live j_live i_bare j_bare same =
    let e : own i p ≡ own j q =
    sym (shown-bare world i p i_bare) ∙ sym (shown-keeping world ok places (image_at world i).depth i p i_live)
    ∙ ap (λ (k : Place). shown world k.image k.at) same
    ∙ shown-keeping world ok places (image_at world j).depth j q j_live ∙ shown-bare world j q j_bare in
    (ap (λ (x : Place). x.image) e, ap (λ (x : Place). x.at) e)

-- where a pixel is kept is a point of the image that keeps it
pub keeping-inside : (world : World) → (depth i : ℕ) (p : Point) → holds (image_at world i).r p ≡ true → holds (image_at world (keeping_within depth world i p).image).r (keeping_within depth world i p).at ≡ true
keeping-inside world zero i p inside = inside
keeping-inside world (suc depth) i p inside =
    by_parent (parent_of world i) (λ parent inside. keeping-inside world depth parent (outward world parent i p) inside)
  where
    is_in : Place → Bool
    is_in k = holds (image_at world k.image).r k.at

    by_parent : (o : Option ℕ) → ((parent : ℕ) → holds (image_at world parent).r (outward world parent i p) ≡ true → is_in (keeping_within depth world parent (outward world parent i p)) ≡ true) → is_in (option_map_or (step_of depth world i p) o (own i p)) ≡ true
    by_parent None above = inside
    by_parent (Some parent) above = by_test (is_shown world parent i (outward world parent i p)) refl
      where
        by_test : (b : Bool) → is_shown world parent i (outward world parent i p) ≡ b → is_in (if b then keeping_within depth world parent (outward world parent i p) else own i p) ≡ true
        by_test false e = inside
        by_test true e = above parent (and_parts (holds (image_at world parent).r (outward world parent i p)) (is_top (image_at world parent).windows i (outward world parent i p)) e).0
