-- Pixels that are put on the bare points of an image, part by part.
use Rattle.std.proofs.Common.{◌≡◌, ◌≢◌, ◌*◌, ◌∙◌, ℕ, zero, suc, ◌+◌, ◌<◌, ◌≤◌, ◌^◌, Bool, true, false, List, Option, None, Some, refl, sym, ap, subst, arith, take, drop, get_or, lit≤, pos, ◌+ℤ◌}
use Rattle.std.specs.Prelude.{◌||◌, is_none, is_some}
use Rattle.std.proofs.lemmas.Bool.{false≢true, or_left, or_right, true≢false}
use Rattle.std.proofs.lemmas.Int.{ints}
use Rattle.r9_geom.specs.declared.Point.{Point}
use Rattle.r9_geom.specs.declared.Rect.{Rect}
use Rattle.r9_geom.specs.Geometry.{distance, holds, strip, width, IsNear}
use Rattle.r9_geom.proofs.GeometryLemmas.{bounds_of, cell_of, distance_is, near_point, near_wider, strip_distance}
use Rattle.model_forest.specs.declared.Window.{Window}
use Rattle.model_forest.specs.World.{World, image_at, IsForest, IsLive}
use Rattle.model_forest.specs.View.{is_bare, top_window}
use Rattle.model_kept.specs.Keeping.{keeping, HasOnePlaces, IsStanding, Place}
use Rattle.model_kept.specs.Restack.{IsPut}
use Rattle.model_kept.proofs.Storing.{same_from_keeping}
use Rattle.r9_plane.specs.Blocks.{number_in, HasRows}
use Rattle.r9_plane.specs.Pixels.{along, number_of}
use Rattle.r9_plane.proofs.PlaneLemmas.{along_holds, start_in}
use Rattle.r9_locate.specs.locate.Forms.{HasBits}
use Rattle.r9_locate.specs.locate.Table.{shape}
use Rattle.r9_locate.proofs.locate.Locating.{strip_at}
use Rattle.r9_locate.proofs.locate.Parts.{get_or-part}
use Rattle.r9_pixels.specs.declared.keeping.KeptPixels.{KeptPixels}
use Rattle.r9_pixels.specs.Kept.{form_at, has_place, kept_at, moment}
use Rattle.r9_shown.specs.Shown.{block}
use Rattle.r9_put.specs.put.Written.{IsStored, IsWritten}
use Rattle.r9_put.proofs.put.Forms.{image_near}

-- two parts are put as one
pub put_more : (shape : World) (i : ℕ) (a b c : Point → Bool) (f g h : Point → ℕ) (first mid last : Place → ℕ) → IsStanding shape → HasOnePlaces shape → IsLive shape i → ((p : Point) → c p ≡ (b p || a p)) → ((p : Point) → a p ≡ true → f p ≡ h p) → ((p : Point) → b p ≡ true → g p ≡ h p) → IsPut shape i a f first mid → IsPut shape i b g mid last → IsPut shape i c h first last
put_more shape i a b c f g h first mid last ok places live both same_a same_b before now = record {
  put = λ p inside in_c bare. by_b p inside in_c bare (b p) refl;
  others = λ place apart.
      now.others place (λ p inside in_b bare. apart p inside (both p ∙ or_left (b p) (a p) in_b) bare)
      ∙ before.others place (λ p inside in_a bare. apart p inside (both p ∙ or_right (b p) (a p) in_a) bare);
}
  where
    by_b : (p : Point) → holds (image_at shape i).r p ≡ true → c p ≡ true → is_bare (image_at shape i).windows p ≡ true → (t : Bool) → b p ≡ t → last (keeping shape i p) ≡ h p
    by_b p inside in_c bare true e = now.put p inside e bare ∙ same_b p e
    by_b p inside in_c bare false e =
        let in_a : a p ≡ true = sym (ap (λ t. t || a p) e) ∙ sym (both p) ∙ in_c in
        now.others (keeping shape i p)
        (λ q within in_b q_bare is.
        let same = same_from_keeping shape ok places i i p q live live bare q_bare is in
        true≢false (sym in_b ∙ ap b (sym same.1) ∙ e))
        ∙ before.put p inside in_a bare ∙ same_a p in_a

-- and so with all that is known of the pixels
pub written_more : (shape : World) (i : ℕ) (a b c : Point → Bool) (f g h : Point → ℕ) (first mid last : KeptPixels) → IsStanding shape → HasOnePlaces shape → IsLive shape i → ((p : Point) → c p ≡ (b p || a p)) → ((p : Point) → a p ≡ true → f p ≡ h p) → ((p : Point) → b p ≡ true → g p ≡ h p) → IsWritten shape i a f first mid → IsWritten shape i b g mid last → IsWritten shape i c h first last
written_more shape i a b c f g h first mid last ok places live both same_a same_b before now = record {
  put = put_more shape i a b c f g h _ _ _ ok places live both same_a same_b before.put now.put;
  has = now.has ∙ before.has;
  forms = now.forms ∙ before.forms;
  moment = now.moment ∙ before.moment;
}

pub written_none : (shape : World) (i : ℕ) (a : Point → Bool) (f : Point → ℕ) (pixels : KeptPixels) → ((p : Point) → a p ≡ false) → IsWritten shape i a f pixels pixels
written_none shape i a f pixels none = record {
  put = record {
    put = λ p inside in_a bare. absurd (true≢false (sym in_a ∙ none p));
    others = λ place apart. refl;
  };
  has = refl;
  forms = refl;
  moment = refl;
}

-- of a part that is all
pub written_all : (shape : World) (i : ℕ) (a b : Point → Bool) (f : Point → ℕ) (old new : KeptPixels) → ((p : Point) → b p ≡ a p) → IsWritten shape i a f old new → IsWritten shape i b f old new
written_all shape i a b f old new same is = subst (λ (area : Point → Bool). IsWritten shape i area f old new) (λ j p. sym (same p) j) is

pub stored_more : (shape : World) (i : ℕ) (a : Point → Bool) (f : Point → ℕ) (old new : KeptPixels) → IsWritten shape i a f old new → IsStored shape old → IsStored shape new
stored_more shape i a f old new is stored = record {
  has = λ n p live inside. ap (λ (has : Place → Bool). has (keeping shape n p)) is.has ∙ stored.has n p live inside;
  bits = subst (HasBits shape) (sym is.forms) stored.bits;
  forest = stored.forest;
}

-- a row within a rectangle is as wide as that at most
pub row_narrow : (r : Rect) (at : Point) (n : ℕ) → ((p : Point) → holds (strip at n) p ≡ true → holds r p ≡ true) → n ≤ width r
row_narrow r at zero inside = omega arith
row_narrow r at (suc n) inside =
    let first = bounds_of r (along at 0) (inside (along at 0) (along_holds at (suc n) 0 (omega arith))) in
    let last = bounds_of r (along at n) (inside (along at n) (along_holds at (suc n) n (omega arith))) in
    let across = distance_is r.min.x r.max.x (omega (arith, ints, first.left, first.right)) in
    omega (arith, ints, first.left, last.right, across)

-- the pixels of a part of a row are those of the row
pub part_pixel : (raws : List ℕ) (at : Point) (d n : ℕ) (p : Point) → holds (strip (along at d) n) p ≡ true → get_or (take n (drop d raws)) (distance (along at d).x p.x) 0 ≡ get_or raws (distance at.x p.x) 0
part_pixel raws at d n p h =
    let found = strip_at (along at d) p n h in
    let x : p.x ≡ (along at d).x +ℤ pos found.0 = ap (λ (q : Point). q.x) found.2 in
    let j : distance (along at d).x p.x ≡ found.0 = strip_distance (along at d) p found.0 x in
    ap (λ k. get_or (take n (drop d raws)) k 0) j
    ∙ get_or-part raws d n found.0 found.1
    ∙ ap (λ k. get_or raws k 0) (sym (strip_distance at p (d + found.0) (omega (arith, ints, x))))

-- the points of a row of an image are near
pub row_near : (shape : World) (i : ℕ) (at : Point) (n : ℕ) → IsForest shape → IsLive shape i → 0 < n → ((p : Point) → holds (strip at n) p ≡ true → holds (image_at shape i).r p ≡ true) → IsNear at
row_near shape i at n ok live some inside =
    near_wider (2 ^ 36) (2 ^ 40) at (lit≤ tt) (near_point (2 ^ 36) (image_at shape i).r at (image_near shape i ok live) (start_in (image_at shape i).r at n some inside))

-- where no window is topmost, nothing stands
pub none_bare : (ws : List Window) (p : Point) → is_some (top_window ws p) ≡ false → is_bare ws p ≡ true
none_bare ws p none = at (top_window ws p) none
  where
    at : (o : Option Window) → is_some o ≡ false → is_none o ≡ true
    at None e = refl
    at (Some w) e = absurd (true≢false e)

pub some_covered : (ws : List Window) (p : Point) → is_some (top_window ws p) ≡ true → is_bare ws p ≡ true → ⊥
some_covered ws p some bare = at (top_window ws p) some bare
  where
    at : (o : Option Window) → is_some o ≡ true → is_none o ≡ true → ⊥
    at None e none = false≢true e
    at (Some w) e none = false≢true none

-- of a part that is all, with pixels that are the same there
pub written_same : (shape : World) (i : ℕ) (a b : Point → Bool) (f g : Point → ℕ) (old new : KeptPixels) → ((p : Point) → b p ≡ a p) → ((p : Point) → b p ≡ true → f p ≡ g p) → IsWritten shape i a f old new → IsWritten shape i b g old new
written_same shape i a b f g old new area same is =
    let all = written_all shape i a b f old new area is in
    record {
      put = record {
        put = λ p inside in_area bare. all.put.put p inside in_area bare ∙ same p in_area;
        others = all.put.others;
      };
      has = all.has;
      forms = all.forms;
      moment = all.moment;
    }

-- what is written where all of a bare rectangle is kept is put on it
pub area_written : (shape : World) (i : ℕ) (r : Rect) (f : Point → ℕ) (old new : KeptPixels) → ((p : Point) → holds r p ≡ true → holds (image_at shape i).r p ≡ true) → ((p : Point) → holds r p ≡ true → is_bare (image_at shape i).windows p ≡ true) → ((p : Point) → holds r p ≡ true → kept_at new (keeping shape i p) ≡ f p) → ((place : Place) → ((p : Point) → holds r p ≡ true → place ≢ keeping shape i p) → kept_at new place ≡ kept_at old place) → has_place new ≡ has_place old → form_at new ≡ form_at old → moment new ≡ moment old → IsWritten shape i (holds r) f old new
area_written shape i r f old new inside bare at others has forms moments = record {
  put = record {
    put = λ p within in_r none. at p in_r;
    others = λ place apart. others place (λ p in_r same. apart p (inside p in_r) in_r (bare p in_r) same);
  };
  has = has;
  forms = forms;
  moment = moments;
}

-- the pixels of a rectangle are among these rows
pub among_below : (r : Rect) (p : Point) (first across count : ℕ) → HasRows r first across count → holds r p ≡ true → number_in r first across p < count
among_below r p first across count among h =
    let at = cell_of r p h in
    omega (arith, among.fits (distance r.min.y p.y) at.row, at.column)

-- the number of a point counted from a column of it on
pub number_along : (at p : Point) (columns done len rows first across : ℕ) → holds (block (along at done) len rows) p ≡ true → number_in (block (along at done) len rows) (first + done) across p ≡ number_in (block at columns rows) first across p
number_along at p columns done len rows first across h =
    let b = bounds_of (block (along at done) len rows) p h in
    let here = distance_is (along at done).x p.x b.left in
    let there = distance_is at.x p.x (omega (arith, ints, b.left)) in
    let column : distance at.x p.x ≡ done + distance (along at done).x p.x = omega (arith, ints, here, there) in
    omega (arith, column)

-- and from a row of it on
pub number_down : (r : Rect) (at p : Point) (row rows : ℕ) → at.x ≡ r.min.x → at.y ≡ r.min.y +ℤ pos row → holds (block at (width r) rows) p ≡ true → number_in (block at (width r) rows) (row * width r) (width r) p ≡ number_of r p
number_down r at p row rows left top h =
    let b = bounds_of (block at (width r) rows) p h in
    let here = distance_is at.y p.y b.top in
    let there = distance_is r.min.y p.y (omega (arith, ints, b.top, top)) in
    let line : distance r.min.y p.y ≡ row + distance at.y p.y = omega (arith, ints, here, there, top) in
    let column : distance at.x p.x ≡ distance r.min.x p.x = ap (λ x. distance x p.x) left in
    let size : distance r.min.y p.y * width r ≡ row * width r + distance at.y p.y * width r = ap (λ n. n * width r) line ∙ grind arith in
    omega (arith, size, column)
