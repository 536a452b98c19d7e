-- Pixels side by side, or of a rectangle, that are copied from where one image keeps them to where another one does.
use Rattle.std.specs.Prelude.{◌≡◌, ◌≢◌, ◌<◌, ℕ, true}
use Rattle.r9_geom.specs.declared.Point.{Point}
use Rattle.r9_geom.specs.declared.Rect.{Rect}
use Rattle.r9_geom.specs.Geometry.{carried, holds}
use Rattle.r9_plane.specs.Pixels.{along}
use Rattle.model_kept.specs.Keeping.{own, Place}
use Rattle.r9_locate.specs.locate.Forms.{bits_in}
use Rattle.r9_pixels.specs.declared.keeping.KeptPixels.{KeptPixels}
use Rattle.r9_pixels.specs.Kept.{form_at, has_place, kept_at, moment, spare_in}

-- there are places for them, of as many bits
pub record CanCarry (kept : KeptPixels) (from : ℕ) (at : Point) (to : ℕ) (p : Point) (n : ℕ) : Type 0 where
  pub apart : from ≢ to
  pub had : (k : ℕ) → k < n → has_place kept (own from (along at k)) ≡ true
  pub has : (k : ℕ) → k < n → has_place kept (own to (along p k)) ≡ true
  pub bits : bits_in (form_at kept) from ≡ bits_in (form_at kept) to

-- they are there, and nothing else has changed
pub record IsCarried (old new : KeptPixels) (from : ℕ) (at : Point) (to : ℕ) (p : Point) (n : ℕ) : Type 0 where
  pub pixels : (k : ℕ) → k < n → kept_at new (own to (along p k)) ≡ kept_at old (own from (along at k))
  pub others : (place : Place) → ((k : ℕ) → k < n → place ≢ own to (along p k)) → kept_at new place ≡ kept_at old place
  pub has : has_place new ≡ has_place old
  pub forms : form_at new ≡ form_at old
  pub moment : moment new ≡ moment old
  pub spare : spare_in new ≡ spare_in old

-- the same of the pixels of a rectangle, which come to stand from p on
pub record CanCarryBlock (kept : KeptPixels) (from : ℕ) (r : Rect) (to : ℕ) (p : Point) : Type 0 where
  pub apart : from ≢ to
  pub had : (q : Point) → holds r q ≡ true → has_place kept (own from q) ≡ true
  pub has : (q : Point) → holds r q ≡ true → has_place kept (own to (carried q r.min p)) ≡ true
  pub bits : bits_in (form_at kept) from ≡ bits_in (form_at kept) to

pub record IsCarriedBlock (old new : KeptPixels) (from : ℕ) (r : Rect) (to : ℕ) (p : Point) : Type 0 where
  pub pixels : (q : Point) → holds r q ≡ true → kept_at new (own to (carried q r.min p)) ≡ kept_at old (own from q)
  pub others : (place : Place) → ((q : Point) → holds r q ≡ true → place ≢ own to (carried q r.min p)) → kept_at new place ≡ kept_at old place
  pub has : has_place new ≡ has_place old
  pub forms : form_at new ≡ form_at old
  pub moment : moment new ≡ moment old
  pub spare : spare_in new ≡ spare_in old
