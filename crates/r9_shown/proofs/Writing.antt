-- What is written at the points of a rectangle, piece by piece.
use Rattle.std.proofs.Common.{◌≡◌, ◌≢◌, ◌∙◌, ℕ, Bool, true, false, refl, sym, ap}
use Rattle.std.specs.Prelude.{◌||◌}
use Rattle.std.proofs.lemmas.Bool.{both_ways, or_left, or_right}
use Rattle.r9_geom.specs.declared.Point.{Point}
use Rattle.r9_geom.specs.declared.Rect.{Rect}
use Rattle.r9_geom.specs.Geometry.{carried, holds}
use Rattle.r9_shown.specs.Shown.{block}
use Rattle.r9_shown.proofs.Keepers.{block_carried, carried_through}
use Rattle.r9_shown.proofs.Carried.{carried-self}

-- what stands for a point of the rectangle is its value then, and nothing else changes
pub record IsFilled (T : Type 0) (target : Point → T) (value : Point → ℕ) (before after : T → ℕ) (r : Rect) : Type 0 where
  pub at : (p : Point) → holds r p ≡ true → after (target p) ≡ value p
  pub others : (t : T) → ((p : Point) → holds r p ≡ true → t ≢ target p) → after t ≡ before t

pub filled_none : (T : Type 0) (target : Point → T) (value : Point → ℕ) (before : T → ℕ) (r : Rect) → ((p : Point) → holds r p ≡ false) → IsFilled T target value before before r
filled_none T target value before r none = record { at = λ p h. absurd (both_ways (holds r p) (none p) h); others = λ t apart. refl }

-- one rectangle after the other
pub filled_more : (T : Type 0) (target : Point → T) (value : Point → ℕ) (before mid after : T → ℕ) (whole a b c : Rect) → ((p q : Point) → holds whole p ≡ true → holds whole q ≡ true → target p ≡ target q → p ≡ q) → ((p : Point) → holds c p ≡ true → holds whole p ≡ true) → ((p : Point) → holds c p ≡ (holds b p || holds a p)) → IsFilled T target value before mid a → IsFilled T target value mid after b → IsFilled T target value before after c
filled_more T target value before mid after whole a b c injective inside split first second = record {
  at = λ p h. by_last p h (holds b p) refl;
  others = λ t apart. second.others t (λ p h. apart p (of_last p h)) ∙ first.others t (λ p h. apart p (of_first p h));
}
  where
    of_last : (p : Point) → holds b p ≡ true → holds c p ≡ true
    of_last p h = split p ∙ or_left (holds b p) (holds a p) h

    of_first : (p : Point) → holds a p ≡ true → holds c p ≡ true
    of_first p h = split p ∙ or_right (holds b p) (holds a p) h

    by_last : (p : Point) → holds c p ≡ true → (t : Bool) → holds b p ≡ t → after (target p) ≡ value p
    by_last p h true e = second.at p e
    by_last p h false e =
        let early : holds a p ≡ true = sym (split p ∙ ap (λ t. t || holds a p) e) ∙ h in
        second.others (target p)
        (λ q late same.
        let one : p ≡ q = injective p q (inside p h) (inside q (of_last q late)) same in
        both_ways (holds b p) e (ap (holds b) one ∙ late))
        ∙ first.at p early

-- the same points as another rectangle, and the same values there
pub filled_same : (T : Type 0) (target : Point → T) (value other : Point → ℕ) (before after : T → ℕ) (r s : Rect) → ((p : Point) → holds r p ≡ holds s p) → ((p : Point) → holds s p ≡ true → value p ≡ other p) → IsFilled T target value before after r → IsFilled T target other before after s
filled_same T target value other before after r s same alike is = record {
  at = λ p h. is.at p (same p ∙ h) ∙ alike p h;
  others = λ t apart. is.others t (λ p h. apart p (sym (same p) ∙ h));
}

-- a block is written where it stands elsewhere
pub filled_block : (T : Type 0) (target there : Point → T) (value source : Point → ℕ) (before after : T → ℕ) (q at : Point) (n rows : ℕ) → ((p : Point) → holds (block q n rows) p ≡ true → target p ≡ there (carried p q at)) → ((p : Point) → holds (block q n rows) p ≡ true → source (carried p q at) ≡ value p) → ((x : Point) → holds (block at n rows) x ≡ true → after (there x) ≡ source x) → ((t : T) → ((x : Point) → holds (block at n rows) x ≡ true → t ≢ there x) → after t ≡ before t) → IsFilled T target value before after (block q n rows)
filled_block T target there value source before after q at n rows place same put other = record {
  at = λ p h. ap after (place p h) ∙ put (carried p q at) (block_carried q at p n rows h) ∙ same p h;
  others = λ t apart.
      other t
      (λ x h e.
      let back = block_carried at q x n rows h in
      apart (carried x at q) back (e ∙ sym (place (carried x at q) back ∙ ap there (carried_through x at q at ∙ carried-self x at))));
}
