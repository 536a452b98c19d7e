-- Where a window that is put shows on the image below.
use Rattle.std.proofs.Common.{◌≡◌, ◌≢◌, ◌∙◌, ℕ, Bool, true, false, Option, Some, None, refl, sym, ap}
use Rattle.std.specs.Prelude.{◌==◌, ◌&&◌, All, is_some, if◌then◌else◌}
use Rattle.std.specs.Option.{option_map_or}
use Rattle.std.proofs.lemmas.Bool.{true≢false}
use Rattle.r9_geom.specs.declared.Point.{Point}
use Rattle.r9_geom.specs.declared.Rect.{Rect}
use Rattle.r9_geom.specs.Geometry.{holds}
use Rattle.model_forest.specs.View.{top_window}
use Rattle.r9_restack.specs.declared.placing.Shown.{Shown}
use Rattle.r9_restack.specs.declared.stacks.Stacks.{Stacks}
use Rattle.r9_restack.specs.declared.stacks.Tops.{Tops}
use Rattle.r9_restack.specs.Placing.{shows}
use Rattle.r9_restack.specs.Showing.{shown_at, shows_in}
use Rattle.r9_restack.specs.Stacks.{after_of, tops_at}
use Rattle.r9_restack.proofs.Stacked.{tops_show}

if_none : {A : Type 0} (b : Bool) (a : A) → b ≡ false → (if b then Some a else None) ≡ None
if_none true a e = absurd (true≢false e)
if_none false a e = refl

if_some : {A : Type 0} (b : Bool) (a : A) → b ≡ true → (if b then Some a else None) ≡ Some a
if_some true a e = refl
if_some false a e = absurd (true≢false (sym e))

-- where it does not show
pub shown_none : (below area : Rect) (s : Stacks) (w : ℕ) (z : Point) → shows below (after_of s) w z ≡ false → shown_at below area s w z ≡ None
unfolding shown_at
shown_none below area s w z hid = if_none {A = Shown} (shows below (after_of s) w z) (record { done = holds area z; tops = tops_at s z }) hid

-- and where it does
pub shown_some : (below area : Rect) (s : Stacks) (w : ℕ) (z : Point) → shows below (after_of s) w z ≡ true → shown_at below area s w z ≡ Some (record { done = holds area z; tops = tops_at s z })
unfolding shown_at
shown_some below area s w z here = if_some {A = Shown} (shows below (after_of s) w z) (record { done = holds area z; tops = tops_at s z }) here

pub unshown : (below area : Rect) (s : Stacks) (w : ℕ) (z : Point) → shown_at below area s w z ≡ None → shows below (after_of s) w z ≡ false
unshown below area s w z none = by_test (shows below (after_of s) w z) refl
  where
    by_test : (b : Bool) → shows below (after_of s) w z ≡ b → shows below (after_of s) w z ≡ false
    by_test true e = absurd (true≢false (ap {A = Option Shown} is_some (sym (shown_some below area s w z e) ∙ none)))
    by_test false e = e

-- what is told there
pub record IsSeen (below area : Rect) (s : Stacks) (w : ℕ) (z : Point) (t : Shown) : Type 0 where
  pub visible : shows below (after_of s) w z ≡ true
  pub done : holds area z ≡ t.done
  pub tops : tops_at s z ≡ t.tops

pub seen : (below area : Rect) (s : Stacks) (w : ℕ) (z : Point) (t : Shown) → shown_at below area s w z ≡ Some t → IsSeen below area s w z t
seen below area s w z t is = by_test (shows below (after_of s) w z) refl
  where
    by_test : (b : Bool) → shows below (after_of s) w z ≡ b → IsSeen below area s w z t
    by_test true e =
        let same = sym (shown_some below area s w z e) ∙ is in
        record {
          visible = e;
          done = ap (λ o. option_map_or (λ (u : Shown). u.done) o false) same;
          tops = ap (λ o. option_map_or (λ (u : Shown). u.tops) o None) same;
        }
    by_test false e = absurd (true≢false (ap {A = Option Shown} is_some (sym is ∙ shown_none below area s w z e)))

-- it shows where the image below has the point and it is topmost after
pub shows_is : (below : Rect) (s : Stacks) (w : ℕ) (z : Point) (tops : Option Tops) → All (λ v. v.image ≢ w) s.front.now → tops_at s z ≡ tops → shows below (after_of s) w z ≡ (holds below z && shows_in tops w)
shows_is below s w z tops apart is =
    ap (λ b. holds below z && b) (tops_show s w z apart ∙ ap (λ o. shows_in o w) is)

pub out_of : (below : Rect) (s : Stacks) (w : ℕ) (z : Point) → holds below z ≡ false → shows below (after_of s) w z ≡ false
out_of below s w z out = ap (λ b. b && option_map_or (λ v. v.image == w) (top_window (after_of s) z) false) out

-- lists with the same windows topmost at a point show the same there
pub shown_same : (below area : Rect) (s t : Stacks) (w : ℕ) (z : Point) → All (λ v. v.image ≢ w) s.front.now → All (λ v. v.image ≢ w) t.front.now → tops_at s z ≡ tops_at t z → shown_at below area s w z ≡ shown_at below area t w z
unfolding shown_at
shown_same below area s t w z apart_s apart_t same =
    let visible : shows below (after_of s) w z ≡ shows below (after_of t) w z =
    shows_is below s w z (tops_at t z) apart_s same ∙ sym (shows_is below t w z (tops_at t z) apart_t refl) in
    λ j. if visible j then Some (record { done = holds area z; tops = same j }) else None
