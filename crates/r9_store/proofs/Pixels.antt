-- The pixels of tiles after one tile has changed.
use Rattle.std.proofs.Common.{◌≡◌, ◌≢◌, ◌∙◌, ℕ, ◌<◌, pos, Bool, true, false, ◌&&◌, List, [], set, length, get_or, replicate, Option, Some, None, ⊎_elim, arith, refl, ap, sym}
use Rattle.std.specs.Prelude.{if◌then◌else◌, ◌==◌, slice_index}
use Rattle.std.specs.Option.{unwrap_or}
use Rattle.std.proofs.lemmas.Bool.{cases_Bool, cases_lt, both_ways}
use Rattle.std.proofs.lemmas.Bool.Decides.{Decides-eqb}
use Rattle.std.proofs.lemmas.Int.{ints}
use Rattle.std.proofs.lemmas.List.{get_or-replicate, get_or-set_other, get_or-set_same, get_or_past}
use Rattle.r9_geom.specs.declared.Point.{Point}
use Rattle.r9_geom.specs.Geometry.{distance, holds, is_point}
use Rattle.r9_geom.proofs.GeometryLemmas.{cell_of, is_point_true, same_point, true_is_point}
use Rattle.r9_store.specs.Tiles.{cell, place_of}

-- the pixel at a point of what stands under a number
abbrev pub shown : Option (List ℕ) → Point → ℕ
shown slot p = if holds cell p then slice_index (unwrap_or slot []) (place_of p) else 0

nothing : (inside : Bool) → let none : ℕ = 0 in (if inside then none else none) ≡ none
nothing true = refl
nothing false = refl

pub shown-none : (p : Point) → shown None p ≡ 0
shown-none p = nothing (holds cell p)

pub place_below : (p : Point) → holds cell p ≡ true → place_of p < 1024
place_below p h = let at = cell_of cell p h in omega (arith, at.column, at.row)

pub shown-blank : (p : Point) → shown (Some (replicate 1024 0)) p ≡ 0
shown-blank p =
    ⊎_elim
    (λ (h : holds cell p ≡ true).
    rw h (get_or-replicate 1024 (place_of p) 0 0 (place_below p h)))
    (λ (h : holds cell p ≡ false). rw h refl)
    (cases_Bool (holds cell p))

-- a tile has one place for each point
pub place_is : (p q : Point) → holds cell p ≡ true → holds cell q ≡ true → place_of p ≡ place_of q → p ≡ q
place_is p q h k e =
    let at = cell_of cell p h in
    let there = cell_of cell q k in
    let across : distance (pos 0) p.x ≡ distance (pos 0) q.x = omega (arith, at.column, there.column, e) in
    let down : distance (pos 0) p.y ≡ distance (pos 0) q.y = omega (arith, at.row, there.row, e) in
    same_point p q (omega (arith, ints, at.left, there.left, across)) (omega (arith, ints, at.top, there.top, down))

put_here : (pixels : List ℕ) (p q : Point) (raw : ℕ) → length pixels ≡ 1024 → holds cell p ≡ true → (is_same : Bool) → is_point q p ≡ is_same → shown (Some (set pixels (place_of p) raw)) q ≡ (if is_same then raw else shown (Some pixels) q)
put_here pixels p q raw long h true e =
    let same = is_point_true q p e in
    ap (λ v. shown (Some (set pixels (place_of p) raw)) v) same
    ∙ rw h (get_or-set_same pixels (place_of p) raw 0 (omega (arith, place_below p h, long)))
put_here pixels p q raw long h false e =
    ⊎_elim
    (λ (k : holds cell q ≡ true).
    rw k (get_or-set_other pixels (place_of p) (place_of q) raw 0 (λ same. both_ways _ e (true_is_point q p (place_is q p k h same)))))
    (λ (k : holds cell q ≡ false). rw k refl)
    (cases_Bool (holds cell q))

put_at : (slots : List (Option (List ℕ))) (t : ℕ) (pixels : List ℕ) (p : Point) (raw : ℕ) → get_or slots t None ≡ Some pixels → t < length slots → length pixels ≡ 1024 → holds cell p ≡ true → (u : ℕ) (q : Point) (is_there : Bool) → (u == t) ≡ is_there → shown (get_or (set slots t (Some (set pixels (place_of p) raw))) u None) q ≡ (if is_there && is_point q p then raw else shown (get_or slots u None) q)
put_at slots t pixels p raw held below long h u q true e =
    let same = (Decides-eqb u t).0 e in
    rw (same, get_or-set_same slots t (Some (set pixels (place_of p) raw)) None below, held) (put_here pixels p q raw long h (is_point q p) refl)
put_at slots t pixels p raw held below long h u q false e =
    ap (λ slot. shown slot q) (get_or-set_other slots t u (Some (set pixels (place_of p) raw)) None (λ same. both_ways _ e ((Decides-eqb u t).1 same)))

pub is_below : (slots : List (Option (List ℕ))) (t : ℕ) (pixels : List ℕ) → get_or slots t None ≡ Some pixels → t < length slots
is_below slots t pixels e = ⊎_elim (λ below. below) (λ past. let none = get_or_past slots t None past in absurd (cc)) (cases_lt t (length slots))

-- one pixel of one tile has changed
pub shown-put : (slots : List (Option (List ℕ))) (t : ℕ) (pixels : List ℕ) (p : Point) (raw : ℕ) → get_or slots t None ≡ Some pixels → length pixels ≡ 1024 → holds cell p ≡ true → (u : ℕ) (q : Point) → shown (get_or (set slots t (Some (set pixels (place_of p) raw))) u None) q ≡ (if (u == t) && is_point q p then raw else shown (get_or slots u None) q)
shown-put slots t pixels p raw held long h u q = put_at slots t pixels p raw held (is_below slots t pixels held) long h u q (u == t) refl

-- a tile that was not held is blank, and the others are as before
pub shown-taken : (old new : ℕ → Option (List ℕ)) (t : ℕ) → old t ≡ None → new t ≡ Some (replicate 1024 0) → ((u : ℕ) → u ≢ t → new u ≡ old u) → (u : ℕ) (p : Point) → shown (new u) p ≡ shown (old u) p
shown-taken old new t free blank others u p =
    ⊎_elim
    (λ (e : (u == t) ≡ true).
    let same = (Decides-eqb u t).0 e in
    rw (same, free, blank) (shown-blank p ∙ sym (shown-none p)))
    (λ (e : (u == t) ≡ false). ap (λ slot. shown slot p) (others u (λ same. both_ways _ e ((Decides-eqb u t).1 same))))
    (cases_Bool (u == t))
