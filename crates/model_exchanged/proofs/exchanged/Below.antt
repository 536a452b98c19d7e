-- A list into which a window comes directly below another.
use Rattle.std.proofs.Common.{◌≡◌, ◌∙◌, ℕ, ◌+◌, ◌≤◌, Bool, true, false, List, [], ◌∷◌, Option, Some, length, refl, sym, ap, cond, arith, eq-eqb}
use Rattle.std.specs.Prelude.{◌==◌, ◌||◌, not, is_none, All, IsTrue, if◌then◌else◌}
use Rattle.std.proofs.lemmas.Bool.{or_right, true≢false}
use Rattle.std.proofs.lemmas.List.Elements.{All-cons, All-head, All-tail}
use Rattle.std.proofs.lemmas.List.Sums.{sum_by-cons}
use Rattle.r9_geom.specs.declared.Point.{Point}
use Rattle.r9_geom.specs.Geometry.{holds}
use Rattle.model_forest.specs.declared.Window.{Window}
use Rattle.model_forest.specs.Stack.{without}
use Rattle.model_forest.specs.Steps.{put_above}
use Rattle.model_forest.specs.View.{is_bare, top_window}
use Rattle.model_forest.proofs.Listed.{once-new}
use Rattle.model_forest.proofs.Sound.{is_listed, times}
use Rattle.model_forest.proofs.Uncovers.{CoversMore}
use Rattle.model_exchanged.specs.exchanged.Exchanged.{put_below}

-- it covers more
pub CoversMore-put_below : (w : Window) (old : ℕ) (ws : List Window) → CoversMore ws (put_below w old ws)
CoversMore-put_below w old ws = record { bare = bare ws }
  where
    behind : (h : Bool) (rest : Option Window) → is_none (cond h (Some w) rest) ≡ true → is_none rest ≡ true
    behind true rest e = cc
    behind false rest e = e

    bare : (ws : List Window) (q : Point) → is_bare (put_below w old ws) q ≡ true → is_bare ws q ≡ true
    bare [] q e = refl
    bare (v ∷ ws) q e =
        elim (v.image == old) as (λ b. is_bare (if b then v ∷ w ∷ ws else v ∷ put_below w old ws) q ≡ true → is_bare (v ∷ ws) q ≡ true) [
          | true ↦ λ same.
              elim (holds v.place q) as (λ h. is_none (cond h (Some v) (top_window (w ∷ ws) q)) ≡ true → is_none (cond h (Some v) (top_window ws q)) ≡ true) [
                | true ↦ λ none. none
                | false ↦ λ none. behind (holds w.place q) (top_window ws q) none
              ] same
          | false ↦ λ same.
              elim (holds v.place q) as (λ h. is_none (cond h (Some v) (top_window (put_below w old ws) q)) ≡ true → is_none (cond h (Some v) (top_window ws q)) ≡ true) [
                | true ↦ λ none. none
                | false ↦ λ none. bare ws q none
              ] same
        ] e

-- the others are there as they were
pub listed-put_below : (w : Window) (old : ℕ) (ws : List Window) (n : ℕ) → IsTrue (is_listed ws n) → IsTrue (is_listed (put_below w old ws) n)
listed-put_below w old [] n listed = listed
listed-put_below w old (v ∷ ws) n listed =
    elim (v.image == old) as (λ b. is_listed (if b then v ∷ w ∷ ws else v ∷ put_below w old ws) n ≡ true) [
      | true ↦ elim (v.image == n) as (λ b. (b || is_listed ws n) ≡ true → (b || is_listed (w ∷ ws) n) ≡ true) [
        | true ↦ λ _. refl
        | false ↦ λ rest. or_right (w.image == n) _ rest
      ] listed
      | false ↦ elim (v.image == n) as (λ b. (b || is_listed ws n) ≡ true → (b || is_listed (put_below w old ws) n) ≡ true) [
        | true ↦ λ _. refl
        | false ↦ λ rest. listed-put_below w old ws n rest
      ] listed
    ]

-- and the window is, where the other was
pub listed-put_below_new : (w : Window) (old : ℕ) (ws : List Window) → IsTrue (is_listed ws old) → IsTrue (is_listed (put_below w old ws) w.image)
listed-put_below_new w old [] listed = absurd (true≢false (sym listed))
listed-put_below_new w old (v ∷ ws) listed =
    elim (v.image == old) as (λ b. (b || is_listed ws old) ≡ true → is_listed (if b then v ∷ w ∷ ws else v ∷ put_below w old ws) w.image ≡ true) [
      | true ↦ λ _. or_right (v.image == w.image) _ (rw (eq-eqb w.image w.image refl) refl)
      | false ↦ λ rest. or_right (v.image == w.image) _ (listed-put_below_new w old ws rest)
    ] listed

pub All-put_below : (P : Window → Type 0) (w : Window) (old : ℕ) (ws : List Window) → P w → All P ws → All P (put_below w old ws)
All-put_below P w old [] one all = all
All-put_below P w old (v ∷ ws) one all =
    elim (v.image == old) as (λ b. All P (if b then v ∷ w ∷ ws else v ∷ put_below w old ws)) [
      | true ↦ All-cons P v (w ∷ ws) (All-head P v ws all) (All-cons P w ws one (All-tail P v ws all))
      | false ↦ All-cons P v (put_below w old ws) (All-head P v ws all) (All-put_below P w old ws one (All-tail P v ws all))
    ]

pub length-put_below : (w : Window) (old : ℕ) (ws : List Window) → length (put_below w old ws) ≤ length ws + 1
length-put_below w old [] = omega arith
length-put_below w old (v ∷ ws) =
    elim (v.image == old) as (λ b. length (if b then v ∷ w ∷ ws else v ∷ put_below w old ws) ≤ length (v ∷ ws) + 1) [
      | true ↦ omega arith
      | false ↦ let rest = length-put_below w old ws in omega (arith, rest)
    ]

-- ---- how often an image stands in it

times-first : (w : Window) (ws : List Window) (n : ℕ) → times (w ∷ ws) n ≡ cond (w.image == n) 1 0 + times ws n
times-first w ws n = sum_by-cons (λ (v : Window). cond (v.image == n) 1 0) w ws

pub times-put_below : (w : Window) (old : ℕ) (ws : List Window) (n : ℕ) → times (put_below w old ws) n ≤ times (w ∷ ws) n
times-put_below w old [] n = let first = times-first w [] n in omega (arith, first)
times-put_below w old (v ∷ ws) n =
    let most = times-first w (v ∷ ws) n in
    let was = times-first v ws n in
    elim (v.image == old) as (λ b. times (if b then v ∷ w ∷ ws else v ∷ put_below w old ws) n ≤ times (w ∷ v ∷ ws) n) [
      | true ↦
          let both = times-first v (w ∷ ws) n in
          let new = times-first w ws n in
          omega (arith, most, was, both, new)
      | false ↦
          let rest = times-put_below w old ws n in
          let first = times-first v (put_below w old ws) n in
          let new = times-first w ws n in
          omega (arith, most, was, rest, first, new)
    ]

-- one more that the list has not
pub once-put_below : (w : Window) (old : ℕ) (ws : List Window) → is_listed ws w.image ≡ false → ((n : ℕ) → times ws n ≤ 1) → (n : ℕ) → times (put_below w old ws) n ≤ 1
once-put_below w old ws none once n =
    let most = times-put_below w old ws n in
    let new = once-new w ws none once n in
    omega (arith, most, new)

-- ---- beside a window directly above the other

-- both cover the same points
pub bare-put_below : (w : Window) (old : ℕ) (ws : List Window) (q : Point) → is_bare (put_above w old ws) q ≡ is_bare (put_below w old ws) q
bare-put_below w old [] q = refl
bare-put_below w old (v ∷ ws) q =
    elim (v.image == old) as (λ b. is_bare (if b then w ∷ v ∷ ws else v ∷ put_above w old ws) q ≡ is_bare (if b then v ∷ w ∷ ws else v ∷ put_below w old ws) q) [
      | true ↦ swapped (holds w.place q) (holds v.place q) (top_window ws q)
      | false ↦ elim (holds v.place q) as (λ h. is_none (cond h (Some v) (top_window (put_above w old ws) q)) ≡ is_none (cond h (Some v) (top_window (put_below w old ws) q))) [
        | true ↦ refl
        | false ↦ bare-put_below w old ws q
      ]
    ]
  where
    swapped : (a b : Bool) (rest : Option Window) → is_none (cond a (Some w) (cond b (Some v) rest)) ≡ is_none (cond b (Some v) (cond a (Some w) rest))
    swapped true true rest = refl
    swapped true false rest = refl
    swapped false b rest = refl

-- and are one list once the other has gone
pub without-put_below : (w : Window) (old : ℕ) (ws : List Window) → without old (put_below w old ws) ≡ without old (put_above w old ws)
without-put_below w old [] = refl
without-put_below w old (v ∷ ws) = by_image (v.image == old) refl (without-put_below w old ws)
  where
    taken : Bool → Window → List Window → List Window
    taken b u us = cond (not b) (u ∷ us) us

    by_image : (b : Bool) → (v.image == old) ≡ b → without old (put_below w old ws) ≡ without old (put_above w old ws) → without old (if b then v ∷ w ∷ ws else v ∷ put_below w old ws) ≡ without old (if b then w ∷ v ∷ ws else v ∷ put_above w old ws)
    by_image true e rest =
        ap (λ b. taken b v (taken (w.image == old) w (without old ws))) e ∙ ap (λ b. taken (w.image == old) w (taken b v (without old ws))) (sym e)
    by_image false e rest = ap (taken (v.image == old) v) rest
