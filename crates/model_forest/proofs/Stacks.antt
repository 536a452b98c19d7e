-- Lists of windows: what their change leaves to see, and that new ones stand.
use Rattle.std.proofs.Common.{◌≡◌, ℕ, ℤ, pos, ◌+◌, ◌<◌, ◌≤◌, ◌≤ℤ◌, ◌^◌, Bool, true, false, Option, Some, None, List, [], ◌∷◌, length, length-append, lit≤, refl, sym, ◌∙◌, ap, cond, arith}
use Rattle.std.specs.Prelude.{◌&&◌, neg_ℤ, not, All, filter, is_none, if◌then◌else◌}
use Rattle.std.proofs.lemmas.Bool.{false≢true}
use Rattle.std.proofs.lemmas.Int.{ints}
use Rattle.std.proofs.lemmas.Nat.{pow_pos}
use Rattle.std.proofs.lemmas.List.Elements.{All-append, All-filter}
use Rattle.std.proofs.lemmas.List.Filters.{length-filter_both}
use Rattle.r9_geom.specs.declared.Point.{Point}
use Rattle.r9_geom.specs.declared.Rect.{Rect}
use Rattle.r9_geom.specs.Geometry.{distance, holds, IsNearBy, IsOrdered, IsRectNearBy}
use Rattle.r9_geom.proofs.GeometryLemmas.{distance_is, near_wider}
use Rattle.model_pixel.specs.Channels as channels
use Rattle.model_pixel.specs.Channels.{is_descriptor}
use Rattle.model_forest.specs.declared.Window.{Window}
use Rattle.model_forest.specs.declared.Standing.{Standing}
use Rattle.model_forest.specs.World.{Image, World, deepest, image_at, with_image, IsImage, IsLive, IsWindowOf, SameSize}
use Rattle.model_forest.specs.View.{is_bare, top_window}
use Rattle.model_forest.specs.Stack.{is_in, lowered, raised, seen, with_windows}
use Rattle.model_forest.proofs.Changes.{with_image-at, with_image-free}

pub All-raised : (P : Window → Type 0) (group : List ℕ) (ws : List Window) → All P ws → All P (raised group ws)
All-raised P group ws all =
    All-append P (filter (is_in group) ws) (filter (λ w. not (is_in group w)) ws) (All-filter (is_in group) P ws all) (All-filter (λ w. not (is_in group w)) P ws all)

pub All-lowered : (P : Window → Type 0) (group : List ℕ) (ws : List Window) → All P ws → All P (lowered group ws)
All-lowered P group ws all =
    All-append P (filter (λ w. not (is_in group w)) ws) (filter (is_in group) ws) (All-filter (λ w. not (is_in group w)) P ws all) (All-filter (is_in group) P ws all)

pub length-raised : (group : List ℕ) (ws : List Window) → length (raised group ws) ≡ length ws
length-raised group ws = length-append (filter (is_in group) ws) (filter (λ w. not (is_in group w)) ws) ∙ length-filter_both (is_in group) (λ w. not (is_in group w)) (λ w. refl) ws

pub length-lowered : (group : List ℕ) (ws : List Window) → length (lowered group ws) ≡ length ws
length-lowered group ws =
    let both = length-filter_both (is_in group) (λ w. not (is_in group w)) (λ w. refl) ws in
    let sum = length-append (filter (λ w. not (is_in group w)) ws) (filter (is_in group) ws) in
    omega arith

-- what is seen after fills were written and the list changed
pub seen-uncovered : (r : Rect) (before after : List Window) (old new filled : Point → ℕ) (touched : Point → Bool) → ((q : Point) → new q ≡ (if touched q then filled q else old q)) → ((q : Point) → touched q ≡ (holds r q && (is_bare after q && not (is_bare before q)))) → ((q : Point) → is_bare before q ≡ true → filled q ≡ seen r before old q) → seen r after new ≡ seen r after filled
seen-uncovered r before after old new filled touched is test kept = λ i q. at q (holds r q) (is_bare after q) (is_bare before q) refl refl refl i
  where
    at : (q : Point) (inside bare was_bare : Bool) → holds r q ≡ inside → is_bare after q ≡ bare → is_bare before q ≡ was_bare → seen r after new q ≡ seen r after filled q
    at q true true true e f g =
        let untouched : touched q ≡ false = test q ∙ ap (λ b. b && (is_bare after q && not (is_bare before q))) e ∙ ap (λ b. b && not (is_bare before q)) f ∙ ap (λ b. not b) g in
        let now : new q ≡ old q = is q ∙ ap (λ b. if b then filled q else old q) untouched in
        let was : filled q ≡ old q = kept q g ∙ ap (λ b. if b then old q else 0) (ap (λ b. b && is_bare before q) e ∙ g) in
        ap (λ n. if holds r q && is_bare after q then n else 0) (now ∙ sym was)
    at q true true false e f g =
        let reached : touched q ≡ true = test q ∙ ap (λ b. b && (is_bare after q && not (is_bare before q))) e ∙ ap (λ b. b && not (is_bare before q)) f ∙ ap (λ b. not b) g in
        ap (λ n. if holds r q && is_bare after q then n else 0) (is q ∙ ap (λ b. if b then filled q else old q) reached)
    at q true false was_bare e f g = rw (e, f) refl
    at q false bare was_bare e f g = rw e refl

-- what is seen of pixels that fit, fits
pub seen_below : (r : Rect) (ws : List Window) (canvas : Point → ℕ) (bits : ℕ) (p : Point) → (is_bare ws p ≡ true → canvas p < 2 ^ bits) → seen r ws canvas p < 2 ^ bits
seen_below r ws canvas bits p fits = by_cases (holds r p) (is_bare ws p) refl
  where
    by_cases : (inside bare : Bool) → is_bare ws p ≡ bare → (if inside && bare then canvas p else 0) < 2 ^ bits
    by_cases true true e = fits e
    by_cases true false e = pow_pos bits
    by_cases false bare e = pow_pos bits

-- an image on which nothing stands, whose clip rectangle is all of it
abbrev pub made : Rect → ℕ → Option Standing → ℕ → (Point → ℕ) → Image
made r chan standing depth canvas = record {
  r = r;
  clipr = r;
  repl = false;
  chan = chan;
  standing = standing;
  depth = depth;
  canvas = seen r [] canvas;
  windows = [];
}

distance_near : (a b : ℤ) → a ≤ℤ b → neg_ℤ (pos (2 ^ 34)) ≤ℤ a → b ≤ℤ pos (2 ^ 34) → distance a b ≤ 2 ^ 35
distance_near a b order low high = let sum = distance_is a b order in omega (arith, ints, sum)

pub IsImage-made : (r : Rect) (chan : ℕ) (standing : Option Standing) (depth : ℕ) (canvas : Point → ℕ) → depth ≤ deepest → is_descriptor chan ≡ true → ((p : Point) → canvas p < 2 ^ channels.depth chan) → IsRectNearBy (2 ^ 34) r → IsOrdered r → IsImage (made r chan standing depth canvas)
IsImage-made r chan standing depth canvas shallow lawful fits near ordered = record {
  shallow = shallow;
  ordered = ordered;
  near_min = near.min;
  near_max = near_wider (2 ^ 34) (2 ^ 36) r.max (lit≤ tt) near.max;
  columns = distance_near r.min.x r.max.x ordered.across near.min.left near.max.right;
  rows = distance_near r.min.y r.max.y ordered.down near.min.top near.max.bottom;
  clip = near;
  few = omega arith;
  chan = lawful;
  raws = λ p. seen_below r [] canvas (channels.depth chan) p (λ bare. fits p);
  repeats = λ repeats. absurd (false≢true repeats);
}

-- an image that is made to stand on another, one level above it
abbrev pub made_on : World → (parent fill : ℕ) → Rect → (Point → ℕ) → Image
made_on world parent fill r canvas =
    made r (image_at world parent).chan (Some (record { parent = parent; fill = fill })) ((image_at world parent).depth + 1) canvas

pub IsImage-made_on : (world : World) (parent fill : ℕ) (r : Rect) (canvas : Point → ℕ) → (image_at world parent).depth + 1 < 2 ^ 32 → is_descriptor (image_at world parent).chan ≡ true → ((p : Point) → canvas p < 2 ^ channels.depth (image_at world parent).chan) → IsRectNearBy (2 ^ 34) r → IsOrdered r → IsImage (made_on world parent fill r canvas)
unfolding deepest
IsImage-made_on world parent fill r canvas depth lawful fits near ordered =
    IsImage-made r (image_at world parent).chan (Some (record { parent = parent; fill = fill })) ((image_at world parent).depth + 1) canvas (omega arith) lawful fits near ordered

-- it is a window of that one at any place of its size
pub IsWindowOf-made_on : (world : World) (i parent fill : ℕ) (r place : Rect) (canvas : Point → ℕ) → world i ≡ None → IsLive world parent → IsLive world fill → SameSize place r → IsNearBy (2 ^ 34) place.min → IsImage (image_at world parent) → IsWindowOf (with_image world i (Some (made_on world parent fill r canvas))) parent (record { image = i; place = place })
IsWindowOf-made_on world i parent fill r place canvas free live fill_live size near below =
    let W : World = with_image world i (Some (made_on world parent fill r canvas)) in
    let here : W i ≡ Some (made_on world parent fill r canvas) = with_image-at world i (Some (made_on world parent fill r canvas)) in
    let there : W parent ≡ world parent = with_image-free world i parent (Some (made_on world parent fill r canvas)) free live in
    let filled : W fill ≡ world fill = with_image-free world i fill (Some (made_on world parent fill r canvas)) free fill_live in
    let min = below.near_min in
    record {
      live = rw here refl;
      stands = rw here refl;
      fill = rw (here, filled) fill_live;
      above = rw (here, there) refl;
      chan = rw (here, there) refl;
      size = rw here size;
      reach = rw there (record {
        left = omega (arith, ints, near.left, min.right);
        right = omega (arith, ints, near.right, min.left);
        top = omega (arith, ints, near.top, min.bottom);
        bottom = omega (arith, ints, near.bottom, min.top);
      });
    }

-- the world in which it came under number i, topmost
abbrev pub on_top : World → (i parent fill : ℕ) → (r place : Rect) → (Point → ℕ) → World
on_top world i parent fill r place canvas =
    with_windows (with_image world i (Some (made_on world parent fill r canvas))) parent
    (record { image = i; place = place } ∷ (image_at world parent).windows)

-- what a new window needs
pub record IsTopmost (world : World) (parent fill : ℕ) (r place : Rect) (canvas : Point → ℕ) : Type 0 where
  pub live : IsLive world parent
  pub fill_live : IsLive world fill
  pub shallow : (image_at world parent).depth + 1 < 2 ^ 32
  pub few : length (image_at world parent).windows + 1 < 2 ^ 32
  pub fits : (p : Point) → canvas p < 2 ^ channels.depth (image_at world parent).chan
  pub near : IsRectNearBy (2 ^ 34) r
  pub ordered : IsOrdered r
  pub size : SameSize place r
  pub corner : IsNearBy (2 ^ 34) place.min

-- one more window uncovers nothing
pub covers-more : (inside : Bool) (w : Window) (ws : List Window) (q : Point) → false ≡ (inside && (is_bare (w ∷ ws) q && not (is_bare ws q)))
covers-more false w ws q = refl
covers-more true w ws q =
    elim (holds w.place q) as (λ b. false ≡ (is_none (cond b (Some w) (top_window ws q)) && not (is_bare ws q))) [
      | true ↦ refl
      | false ↦ neither (is_bare ws q)
    ]
  where
    neither : (b : Bool) → false ≡ (b && not b)
    neither true = refl
    neither false = refl
