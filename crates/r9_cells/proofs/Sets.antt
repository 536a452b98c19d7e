-- What is written for the points of a rectangle, part by part.
use Rattle.std.proofs.Common.{◌≡◌, ◌≢◌, ◌∙◌, ℕ, Bool, true, false, refl, sym, ap}
use Rattle.std.specs.Prelude.{◌||◌, if◌then◌else◌}
use Rattle.std.proofs.lemmas.Bool.{both_ways, or_left, or_right}
use Rattle.r9_geom.specs.declared.Point.{Point}
use Rattle.r9_geom.specs.declared.Rect.{Rect}
use Rattle.r9_geom.specs.Geometry.{holds}
use Rattle.r9_cells.proofs.Bands.{IsNext}

-- at the place of each point there is its value then, and elsewhere all is as it was
pub record IsSet (P : Type 0) (block : Rect) (at : Point → P) (value : Point → ℕ) (old new : P → ℕ) : Type 0 where
  pub written : (p : Point) → holds block p ≡ true → new (at p) ≡ value p
  pub others : (place : P) → ((p : Point) → holds block p ≡ true → place ≢ at p) → new place ≡ old place

pub set_none : (P : Type 0) (block : Rect) (at : Point → P) (value : Point → ℕ) (old : P → ℕ) → ((p : Point) → holds block p ≡ false) → IsSet P block at value old old
set_none P block at value old none = record { written = λ p h. absurd (both_ways (holds block p) (none p) h); others = λ place apart. refl }

-- the places of points of some rectangle are apart
abbrev pub AreApart : (P : Type 0) → Rect → (Point → P) → Type 0
AreApart P whole at = (p q : Point) → holds whole p ≡ true → holds whole q ≡ true → at p ≡ at q → p ≡ q

-- the next part of it, which may be told of in other words
pub set_more : (P : Type 0) (done next more whole : Rect) (at beside : Point → P) (value given : Point → ℕ) (old mid new : P → ℕ) → IsNext done next more → ((p : Point) → holds more p ≡ true → holds whole p ≡ true) → AreApart P whole at → ((p : Point) → holds next p ≡ true → beside p ≡ at p) → ((p : Point) → holds next p ≡ true → given p ≡ value p) → IsSet P done at value old mid → IsSet P next beside given mid new → IsSet P more at value old new
set_more P done next more whole at beside value given old mid new is inside apart same_place same_value first second = record {
  written = λ p h. by_next p h (holds next p) refl;
  others = λ place off.
      second.others place (λ p h e. off p (of_next p h) (e ∙ same_place p h))
      ∙ first.others place (λ p h. off p (of_done p h));
}
  where
    of_next : (p : Point) → holds next p ≡ true → holds more p ≡ true
    of_next p h = is.split p ∙ or_left (holds next p) (holds done p) h

    of_done : (p : Point) → holds done p ≡ true → holds more p ≡ true
    of_done p h = is.split p ∙ or_right (holds next p) (holds done p) h

    by_next : (p : Point) → holds more p ≡ true → (b : Bool) → holds next p ≡ b → new (at p) ≡ value p
    by_next p h true e = ap new (sym (same_place p e)) ∙ second.written p e ∙ same_value p e
    by_next p h false e =
        let early : holds done p ≡ true = sym (is.split p ∙ ap (λ b. b || holds done p) e) ∙ h in
        second.others (at p)
        (λ q late same.
        let one : p ≡ q = apart p q (inside p h) (inside q (of_next q late)) (same ∙ same_place q late) in
        both_ways (holds next p) e (ap (holds next) one ∙ late))
        ∙ first.written p early

-- what a plane shows, where a part of a rectangle was put into it, and then the next one
pub shown_more : (done next more : Rect) (p : Point) (old mid new value : ℕ) → IsNext done next more → mid ≡ (if holds done p then value else old) → new ≡ (if holds next p then value else mid) → new ≡ (if holds more p then value else old)
shown_more done next more p old mid new value is first second =
    second ∙ ap (λ m. if holds next p then value else m) first ∙ both (holds next p) (holds done p) ∙ sym (ap (λ b. if b then value else old) (is.split p))
  where
    both : (late early : Bool) → (if late then value else (if early then value else old)) ≡ (if late || early then value else old)
    both true early = refl
    both false early = refl

pub if_same : (b : Bool) (x y old : ℕ) → (b ≡ true → x ≡ y) → (if b then x else old) ≡ (if b then y else old)
if_same true x y old same = same refl
if_same false x y old same = refl
