-- What each world of images keeps, through changes of one image.
use Rattle.std.proofs.Common.{◌≡◌, ◌≢◌, ℕ, zero, suc, ◌<◌, ◌≤◌, ◌^◌, Bool, true, false, List, [], Option, Some, None, length, refl, sym, ◌∙◌, ap, subst, eq-eqb, arith}
use Rattle.std.specs.Prelude.{is_some, option_map, unwrap_or, ◌==◌, All, IsTrue}
use Rattle.std.specs.List.{list_any, count_by}
use Rattle.std.specs.Option.{option_map_or}
use Rattle.std.proofs.lemmas.Bool.{true≢false, false≢true}
use Rattle.std.proofs.lemmas.Bool.Decides.{Decides-eqb}
use Rattle.std.proofs.lemmas.List.Elements.{All-weaker}
use Rattle.std.proofs.lemmas.Nat.{pow_pos}
use Rattle.r9_geom.specs.declared.Point.{Point}
use Rattle.r9_geom.specs.declared.Rect.{Rect}
use Rattle.r9_geom.specs.Geometry.{carried, HasPoints, IsNearBy, IsRectNearBy}
use Rattle.model_pixel.specs.Channels as channels
use Rattle.model_forest.specs.declared.Window.{Window}
use Rattle.model_forest.specs.World.{Image, World, deepest, image_at, no_image, origin_point, with_image, parent_of, fill_of, IsLive, IsImage, IsWindowOf, IsForest, SameSize}
use Rattle.model_forest.specs.View.{inward, top_window, view, view_within}
use Rattle.model_forest.proofs.Changes.{with_image-at, with_image-each, with_image-free, with_image-other}
use Rattle.model_forest.proofs.Views.{window-at}

-- a window of this image is in the list
abbrev pub is_listed : List Window → ℕ → Bool
is_listed ws n = list_any (λ w. w.image == n) ws

-- how often an image stands in a list
abbrev pub times : List Window → ℕ → ℕ
times ws n = count_by (λ w. w.image == n) ws

-- what the windows of a world rest on, of an image after and before
pub record SameStand (new old : Image) : Type 0 where
  pub standing : new.standing ≡ old.standing
  pub depth : new.depth ≡ old.depth
  pub chan : new.chan ≡ old.chan
  pub size : SameSize new.r old.r

pub SameStand-itself : (image : Image) → SameStand image image
SameStand-itself image = record { standing = refl; depth = refl; chan = refl; size = record { width = refl; height = refl } }

-- an image of the same rectangle, channels and depth
pub IsImage-like : (image : Image) (repl : Bool) (clipr : Rect) (canvas : Point → ℕ) (ws : List Window) → (repl ≡ true → HasPoints image.r) → IsRectNearBy (2 ^ 34) clipr → length ws < 2 ^ 32 → ((p : Point) → canvas p < 2 ^ channels.depth image.chan) → IsImage image → IsImage (record image { repl = repl; clipr = clipr; canvas = canvas; windows = ws })
IsImage-like image repl clipr canvas ws repeats clip few raws is = record {
  shallow = is.shallow;
  ordered = is.ordered;
  near_min = is.near_min;
  near_max = is.near_max;
  columns = is.columns;
  rows = is.rows;
  clip = clip;
  few = few;
  chan = is.chan;
  raws = raws;
  repeats = repeats;
}

-- each image stays, and stands as it stood
pub record IsStill (old new : World) : Type 0 where
  pub live : (n : ℕ) → is_some (new n) ≡ is_some (old n)
  pub same : (n : ℕ) → SameStand (image_at new n) (image_at old n)

pub IsStill-with_image : (world : World) (i : ℕ) (image : Image) → IsLive world i → SameStand image (image_at world i) → IsStill world (with_image world i (Some image))
IsStill-with_image world i image live same = record {
  live = with_image-each world i (Some image) (λ n slot. is_some slot ≡ is_some (world n)) (sym live) (λ n other. refl);
  same = with_image-each world i (Some image) (λ n slot. SameStand (unwrap_or slot no_image) (image_at world n)) same (λ n other. SameStand-itself (image_at world n));
}

-- a window still stands, at a place of the same size that reaches as far
pub IsWindowOf-placed : (old new : World) (i : ℕ) (w : Window) (place : Rect) → IsStill old new → SameSize place w.place → IsNearBy (2 ^ 36) (carried place.min (image_at new i).r.min origin_point) → IsWindowOf old i w → IsWindowOf new i (record { image = w.image; place = place })
IsWindowOf-placed old new i w place still size reach is =
    let own = still.same w.image in
    let below = still.same i in
    record {
      live = still.live w.image ∙ is.live;
      stands = rw own.standing is.stands;
      fill = rw own.standing (still.live (fill_of old w.image) ∙ is.fill);
      above = rw (own.depth, below.depth) is.above;
      chan = rw (own.chan, below.chan) is.chan;
      size = record { width = size.width ∙ is.size.width ∙ sym own.size.width; height = size.height ∙ is.size.height ∙ sym own.size.height };
      reach = reach;
    }

-- and on an image whose min is the same, where it stood
pub IsWindowOf-still : (old new : World) (i : ℕ) (w : Window) → IsStill old new → (image_at new i).r.min ≡ (image_at old i).r.min → IsWindowOf old i w → IsWindowOf new i w
IsWindowOf-still old new i w still min is =
    IsWindowOf-placed old new i w w.place still (record { width = refl; height = refl }) (rw min is.reach) is

-- a forest, where one image need not be in its parent's list
pub record IsForestBut (out : Option ℕ) (world : World) : Type 0 where
  pub images : (n : ℕ) → IsLive world n → IsImage (image_at world n)
  pub windows : (n : ℕ) → IsLive world n → All (IsWindowOf world n) (image_at world n).windows
  pub parents : (n p : ℕ) → IsLive world n → parent_of world n ≡ Some p → IsLive world p
  pub listed : (n p : ℕ) → out ≢ Some n → IsLive world n → parent_of world n ≡ Some p → IsTrue (is_listed (image_at world p).windows n)
  pub once : (i n : ℕ) → IsLive world i → times (image_at world i).windows n ≤ 1

pub IsForestBut-any : (out : Option ℕ) (world : World) → IsForest world → IsForestBut out world
IsForestBut-any out world ok = record {
  images = ok.images;
  windows = ok.windows;
  parents = ok.parents;
  listed = λ n p apart. ok.listed n p;
  once = ok.once;
}

pub none_or_some : (n : ℕ) → None ≢ Some n
none_or_some n same = false≢true (ap {A = Option ℕ} is_some same)

pub some_same : (a b : ℕ) → Some a ≡ Some b → a ≡ b
some_same a b same = ap (λ (o : Option ℕ). unwrap_or o a) same

pub IsForest-all : (world : World) → IsForestBut None world → IsForest world
IsForest-all world ok = record {
  images = ok.images;
  windows = ok.windows;
  parents = ok.parents;
  listed = λ n p. ok.listed n p (none_or_some n);
  once = ok.once;
}

-- once that one is in its parent's list
pub IsForest-listed : (world : World) (i : ℕ) → ((p : ℕ) → parent_of world i ≡ Some p → IsTrue (is_listed (image_at world p).windows i)) → IsForestBut (Some i) world → IsForest world
IsForest-listed world i listed ok = record {
  images = ok.images;
  windows = ok.windows;
  parents = ok.parents;
  listed = λ n p. by_cases n p (n == i) refl;
  once = ok.once;
}
  where
    by_cases : (n p : ℕ) (b : Bool) → (n == i) ≡ b → IsLive world n → parent_of world n ≡ Some p → IsTrue (is_listed (image_at world p).windows n)
    by_cases n p true e live stands =
        let same : n ≡ i = (Decides-eqb n i).0 e in
        subst (λ k. IsTrue (is_listed (image_at world p).windows k)) (sym same) (listed p (subst (λ k. parent_of world k ≡ Some p) same stands))
    by_cases n p false e live stands =
        ok.listed n p
        (λ same. let both : (n == i) ≡ true = eq-eqb n i (sym (some_same i n same)) in true≢false (sym both ∙ e))
        live stands

-- a world whose images stand as they stood
pub IsForestBut-still : (old new : World) (out : Option ℕ) → IsStill old new → ((n : ℕ) → IsLive old n → IsImage (image_at new n)) → ((n : ℕ) → IsLive old n → All (IsWindowOf new n) (image_at new n).windows) → ((p n : ℕ) → out ≢ Some n → IsTrue (is_listed (image_at old p).windows n) → IsTrue (is_listed (image_at new p).windows n)) → ((i n : ℕ) → IsLive old i → times (image_at new i).windows n ≤ 1) → IsForestBut out old → IsForestBut out new
IsForestBut-still old new out still images windows listed once ok = record {
  images = λ n now. images n (sym (still.live n) ∙ now);
  windows = λ n now. windows n (sym (still.live n) ∙ now);
  parents = λ n p now stands. still.live p ∙ ok.parents n p (sym (still.live n) ∙ now) (rw (still.same n).standing at stands);
  listed = λ n p apart now stands. listed p n apart (ok.listed n p apart (sym (still.live n) ∙ now) (rw (still.same n).standing at stands));
  once = λ i n now. once i n (sym (still.live i) ∙ now);
}

-- one image changes and stands as it stood
pub IsForestBut-with_image : (world : World) (out : Option ℕ) (i : ℕ) (image : Image) → IsLive world i → SameStand image (image_at world i) → IsImage image → All (IsWindowOf (with_image world i (Some image)) i) image.windows → ((n : ℕ) → out ≢ Some n → IsTrue (is_listed (image_at world i).windows n) → IsTrue (is_listed image.windows n)) → ((n : ℕ) → times image.windows n ≤ 1) → IsForestBut out world → IsForestBut out (with_image world i (Some image))
IsForestBut-with_image world out i image live same is stand listed once ok =
    let new : World = with_image world i (Some image) in
    let still : IsStill world new = IsStill-with_image world i image live same in
    IsForestBut-still world new out still
    (with_image-each world i (Some image) (λ n slot. IsLive world n → IsImage (unwrap_or slot no_image)) (λ was. is) (λ n other was. ok.images n was))
    (with_image-each world i (Some image) (λ n slot. IsLive world n → All (IsWindowOf new n) (unwrap_or slot no_image).windows) (λ was. stand)
    (λ n other was.
    let min : (image_at new n).r.min ≡ (image_at world n).r.min = ap (λ (slot : Option Image). (unwrap_or slot no_image).r.min) (with_image-other world i n (Some image) other) in
    All-weaker (IsWindowOf world n) (IsWindowOf new n) (λ w. IsWindowOf-still world new n w still min) (image_at world n).windows (ok.windows n was)))
    (with_image-each world i (Some image) (λ p slot. (n : ℕ) → out ≢ Some n → IsTrue (is_listed (image_at world p).windows n) → IsTrue (is_listed (unwrap_or slot no_image).windows n)) listed (λ p other n apart was. was))
    (with_image-each world i (Some image) (λ p slot. (n : ℕ) → IsLive world p → times (unwrap_or slot no_image).windows n ≤ 1) (λ n was. once n) (λ p other n was. ok.once p n was))
    ok

-- an image gets another list of windows, each of which stands on it
pub IsForestBut-with_list : (world : World) (out : Option ℕ) (i : ℕ) (image : Image) → IsLive world i → SameStand image (image_at world i) → image.r.min ≡ (image_at world i).r.min → IsImage image → All (IsWindowOf world i) image.windows → ((n : ℕ) → out ≢ Some n → IsTrue (is_listed (image_at world i).windows n) → IsTrue (is_listed image.windows n)) → ((n : ℕ) → times image.windows n ≤ 1) → IsForestBut out world → IsForestBut out (with_image world i (Some image))
IsForestBut-with_list world out i image live same min is stand listed once ok =
    let new : World = with_image world i (Some image) in
    let still : IsStill world new = IsStill-with_image world i image live same in
    let here : (image_at new i).r.min ≡ (image_at world i).r.min = ap (λ (slot : Option Image). (unwrap_or slot no_image).r.min) (with_image-at world i (Some image)) ∙ min in
    IsForestBut-with_image world out i image live same is
    (All-weaker (IsWindowOf world i) (IsWindowOf new i) (λ w. IsWindowOf-still world new i w still here) image.windows stand)
    listed once ok

-- one image gets other contents, and its windows stay
pub IsForest-with_image : (world : World) (i : ℕ) (image : Image) → IsLive world i → SameStand image (image_at world i) → image.r.min ≡ (image_at world i).r.min → image.windows ≡ (image_at world i).windows → IsImage image → IsForest world → IsForest (with_image world i (Some image))
IsForest-with_image world i image live same min windows is ok =
    IsForest-all (with_image world i (Some image))
    (IsForestBut-with_list world None i image live same min is
    (rw windows (ok.windows i live))
    (λ n apart was. rw windows was)
    (λ n. rw windows (ok.once i n live))
    (IsForestBut-any None world ok))

-- the windows of an image still stand where another comes
pub IsWindowOf-new_image : (world : World) (i : ℕ) (image : Image) → world i ≡ None → (parent : ℕ) (w : Window) → IsLive world parent → IsWindowOf world parent w → IsWindowOf (with_image world i (Some image)) parent w
IsWindowOf-new_image world i image free parent w live was =
    let other : (n : ℕ) → IsLive world n → with_image world i (Some image) n ≡ world n = λ n. with_image-free world i n (Some image) free in
    record {
      live = rw (other w.image was.live) was.live;
      stands = rw (other w.image was.live) was.stands;
      fill = rw (other w.image was.live, other (fill_of world w.image) was.fill) was.fill;
      above = rw (other w.image was.live, other parent live) was.above;
      chan = rw (other w.image was.live, other parent live) was.chan;
      size = rw (other w.image was.live) was.size;
      reach = rw (other parent live) was.reach;
    }

-- an image with no windows comes under a number that was free
pub IsForestBut-new_image : (world : World) (i : ℕ) (image : Image) → world i ≡ None → IsImage image → image.windows ≡ [] → ((p : ℕ) → option_map (λ s. s.parent) image.standing ≡ Some p → IsLive world p) → IsForest world → IsForestBut (Some i) (with_image world i (Some image))
IsForestBut-new_image world i image free is none stands_on ok =
    let new : World = with_image world i (Some image) in
    record {
      images = with_image-each world i (Some image) (λ n slot. is_some slot ≡ true → IsImage (unwrap_or slot no_image)) (λ now. is) (λ n other. ok.images n);
      windows = with_image-each world i (Some image) (λ n slot. is_some slot ≡ true → All (IsWindowOf new n) (unwrap_or slot no_image).windows)
          (λ now. rw none (λ k d lt. absurd (omega arith)))
          (λ n other live. All-weaker (IsWindowOf world n) (IsWindowOf new n) (λ w. IsWindowOf-new_image world i image free n w live) (image_at world n).windows (ok.windows n live));
      parents = λ n p now stands. kept p (was_live n p now stands);
      listed = λ n p apart now stands.
          let differs : n ≢ i = λ same. apart (ap (λ (k : ℕ). Some k) (sym same)) in
          let same : new n ≡ world n = with_image-other world i n (Some image) differs in
          let live : IsLive world n = rw same at now in
          let stood : parent_of world n ≡ Some p = rw same at stands in
          rw (with_image-free world i p (Some image) free (ok.parents n p live stood)) (ok.listed n p live stood);
      once = with_image-each world i (Some image) (λ p slot. (n : ℕ) → is_some slot ≡ true → times (unwrap_or slot no_image).windows n ≤ 1) (λ n now. rw none (omega arith)) (λ p other. ok.once p);
    }
  where
    kept : (p : ℕ) → IsLive world p → IsLive (with_image world i (Some image)) p
    kept p live = rw (with_image-free world i p (Some image) free live) live

    was_live : (n p : ℕ) → IsLive (with_image world i (Some image)) n → parent_of (with_image world i (Some image)) n ≡ Some p → IsLive world p
    was_live n p =
        with_image-each world i (Some image) (λ n slot. is_some slot ≡ true → option_map (λ s. s.parent) (unwrap_or slot no_image).standing ≡ Some p → IsLive world p)
        (λ now. stands_on p) (λ n other. ok.parents n p) n

-- what an image shows fits its channels, however deep it stands in windows
pub view_within-below : (world : World) → IsForest world → (depth i : ℕ) (p : Point) → IsLive world i → view_within depth world i p < 2 ^ channels.depth (image_at world i).chan
view_within-below world ok zero i p live = pow_pos (channels.depth (image_at world i).chan)
view_within-below world ok (suc depth) i p live =
    by_top (λ w is. view_within-below world ok depth w.image (inward world w p) is.live) (top_window (image_at world i).windows p) refl
  where
    by_top : ((w : Window) → IsWindowOf world i w → view_within depth world w.image (inward world w p) < 2 ^ channels.depth (image_at world w.image).chan) → (top : Option Window) → top_window (image_at world i).windows p ≡ top → option_map_or (λ w. view_within depth world w.image (inward world w p)) top ((image_at world i).canvas p) < 2 ^ channels.depth (image_at world i).chan
    by_top below None e = (ok.images i live).raws p
    by_top below (Some w) e =
        let is : IsWindowOf world i w = window-at world ok i p w live e in
        subst (λ n. view_within depth world w.image (inward world w p) < 2 ^ channels.depth n) is.chan (below w is)

pub view-below : (world : World) → IsForest world → (i : ℕ) (p : Point) → IsLive world i → view world i p < 2 ^ channels.depth (image_at world i).chan
unfolding view
view-below world ok i p live = view_within-below world ok (suc deepest) i p live
