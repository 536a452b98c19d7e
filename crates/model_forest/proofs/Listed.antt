-- Which images have a window in a list that was changed.
use Rattle.std.proofs.Common.{◌≡◌, ◌≢◌, ℕ, ◌+◌, ◌<◌, ◌≤◌, Bool, true, false, Option, None, Some, List, [], ◌∷◌, length, refl, sym, ◌∙◌, ap, subst, eq-eqb, cond, arith}
use Rattle.std.specs.Prelude.{◌==◌, ◌||◌, not, is_some, unwrap_or, All, IsSome, IsTrue, filter, map, if◌then◌else◌}
use Rattle.std.specs.List.{list_any}
use Rattle.std.proofs.lemmas.Bool.{false_from_ne_true, ne_eqb, or_parts, or_right, true≢false}
use Rattle.std.proofs.lemmas.Bool.Decides.{Decides-eqb}
use Rattle.std.proofs.lemmas.List.Elements.{All-cons, All-head, All-nil, All-tail}
use Rattle.std.proofs.lemmas.List.Filters.{length-filter_both, sum_by-filter_both}
use Rattle.std.proofs.lemmas.List.Folds.{list_any-append}
use Rattle.std.proofs.lemmas.List.Sums.{sum_by-append, sum_by-cons}
use Rattle.std.proofs.lemmas.Map.Views.{any-filter_same}
use Rattle.r9_geom.specs.declared.Rect.{Rect}
use Rattle.model_forest.specs.declared.Window.{Window}
use Rattle.model_forest.specs.World.{World, image_at, parent_of, IsForest, IsLive, IsWindowOf}
use Rattle.model_forest.specs.Stack.{is_in, lowered, moved, moved_window, raised, without}
use Rattle.model_forest.specs.Steps.{put_above}
use Rattle.model_forest.proofs.Changes.{live-standing}
use Rattle.model_forest.proofs.Sound.{is_listed, times}

or_assoc : (a b c : Bool) → ((a || b) || c) ≡ (a || (b || c))
or_assoc true b c = refl
or_assoc false b c = refl

or_swapped : (a b c : Bool) → (a || (b || c)) ≡ (b || (a || c))
or_swapped true true c = refl
or_swapped true false c = refl
or_swapped false b c = refl

or_turned : (a b : Bool) → (a || b) ≡ (b || a)
or_turned true true = refl
or_turned true false = refl
or_turned false true = refl
or_turned false false = refl

-- what passes one test and what does not are all
any-halves : (p test : Window → Bool) (ws : List Window) → (list_any test (filter p ws) || list_any test (filter (λ w. not (p w)) ws)) ≡ list_any test ws
any-halves p test [] = refl
any-halves p test (w ∷ ws) =
    elim (p w) as (λ b. (list_any test (cond b (w ∷ filter p ws) (filter p ws)) || list_any test (cond (not b) (w ∷ filter (λ w. not (p w)) ws) (filter (λ w. not (p w)) ws))) ≡ (test w || list_any test ws)) [
      | true ↦ or_assoc (test w) _ _ ∙ ap (λ b. test w || b) (any-halves p test ws)
      | false ↦ or_swapped (list_any test (filter p ws)) (test w) _ ∙ ap (λ b. test w || b) (any-halves p test ws)
    ]

pub listed-raised : (group : List ℕ) (ws : List Window) (n : ℕ) → is_listed (raised group ws) n ≡ is_listed ws n
listed-raised group ws n =
    list_any-append (λ w. w.image == n) (filter (is_in group) ws) (filter (λ w. not (is_in group w)) ws) ∙ any-halves (is_in group) (λ w. w.image == n) ws

pub listed-lowered : (group : List ℕ) (ws : List Window) (n : ℕ) → is_listed (lowered group ws) n ≡ is_listed ws n
listed-lowered group ws n =
    list_any-append (λ w. w.image == n) (filter (λ w. not (is_in group w)) ws) (filter (is_in group) ws)
    ∙ or_turned (is_listed (filter (λ w. not (is_in group w)) ws) n) (is_listed (filter (is_in group) ws) n)
    ∙ any-halves (is_in group) (λ w. w.image == n) ws

image-moved_window : (i : ℕ) (place : Rect) (w : Window) → (moved_window i place w).image ≡ w.image
image-moved_window i place w = by_cases (w.image == i) refl
  where
    by_cases : (b : Bool) → (w.image == i) ≡ b → (if b then record { image = i; place = place } else w).image ≡ w.image
    by_cases true e = sym ((Decides-eqb w.image i).0 e)
    by_cases false e = refl

pub listed-moved : (i : ℕ) (place : Rect) (ws : List Window) (n : ℕ) → is_listed (moved i place ws) n ≡ is_listed ws n
listed-moved i place [] n = refl
listed-moved i place (w ∷ ws) n =
    ap (λ k. (k == n) || is_listed (moved i place ws) n) (image-moved_window i place w) ∙ ap (λ b. (w.image == n) || b) (listed-moved i place ws n)

pub listed-without_other : (i : ℕ) (ws : List Window) (n : ℕ) → n ≢ i → is_listed (without i ws) n ≡ is_listed ws n
listed-without_other i ws n apart =
    any-filter_same (λ w. w.image == n) (λ w. not (w.image == i)) true
    (λ w same.
    let is : w.image ≡ n = (Decides-eqb w.image n).0 same in
    let differs : (w.image == i) ≡ false = ne_eqb w.image i (λ other. apart (sym is ∙ other)) in
    rw differs refl) ws

pub listed-without : (i : ℕ) (ws : List Window) → is_listed (without i ws) i ≡ false
listed-without i ws = any-filter_same (λ w. w.image == i) (λ w. not (w.image == i)) false (λ w same. rw same refl) ws

pub listed-put_above : (w : Window) (old : ℕ) (ws : List Window) (n : ℕ) → IsTrue (is_listed ws n) → IsTrue (is_listed (put_above w old ws) n)
listed-put_above w old [] n listed = listed
listed-put_above w old (v ∷ ws) n listed =
    elim (v.image == old) as (λ b. is_listed (if b then w ∷ v ∷ ws else v ∷ put_above w old ws) n ≡ true) [
      | true ↦ or_right (w.image == n) _ listed
      | false ↦ elim (v.image == n) as (λ b. (b || is_listed ws n) ≡ true → (b || is_listed (put_above w old ws) n) ≡ true) [
        | true ↦ λ _. refl
        | false ↦ λ rest. listed-put_above w old ws n rest
      ] listed
    ]

-- the window is there then, where the other was
pub listed-put_above_new : (w : Window) (old : ℕ) (ws : List Window) → IsTrue (is_listed ws old) → IsTrue (is_listed (put_above w old ws) w.image)
listed-put_above_new w old [] listed = absurd (true≢false (sym listed))
listed-put_above_new w old (v ∷ ws) listed =
    elim (v.image == old) as (λ b. (b || is_listed ws old) ≡ true → is_listed (if b then w ∷ v ∷ ws else v ∷ put_above w old ws) w.image ≡ true) [
      | true ↦ λ _. rw (eq-eqb w.image w.image refl) refl
      | false ↦ λ rest. or_right (v.image == w.image) _ (listed-put_above_new w old ws rest)
    ] listed

pub All-put_above : (P : Window → Type 0) (w : Window) (old : ℕ) (ws : List Window) → P w → All P ws → All P (put_above w old ws)
All-put_above P w old [] one all = all
All-put_above P w old (v ∷ ws) one all =
    elim (v.image == old) as (λ b. All P (if b then w ∷ v ∷ ws else v ∷ put_above w old ws)) [
      | true ↦ All-cons P w (v ∷ ws) one all
      | false ↦ All-cons P v (put_above w old ws) (All-head P v ws all) (All-put_above P w old ws one (All-tail P v ws all))
    ]

pub length-put_above : (w : Window) (old : ℕ) (ws : List Window) → length (put_above w old ws) ≤ length ws + 1
length-put_above w old [] = omega arith
length-put_above w old (v ∷ ws) =
    elim (v.image == old) as (λ b. length (if b then w ∷ v ∷ ws else v ∷ put_above w old ws) ≤ length (v ∷ ws) + 1) [
      | true ↦ omega arith
      | false ↦ let rest = length-put_above w old ws in omega (arith, rest)
    ]

-- a window of an image that the list has
pub All-listed : (P : Window → Type 0) (ws : List Window) (i : ℕ) → All P ws → IsTrue (is_listed ws i) → (w : Window) × (w.image ≡ i) × P w
All-listed P [] i all here = absurd (true≢false (sym here))
All-listed P (w ∷ ws) i all here =
    by_cases (All-listed P ws i (All-tail P w ws all)) (w.image == i) refl here
  where
    by_cases : (IsTrue (is_listed ws i) → (w : Window) × (w.image ≡ i) × P w) → (b : Bool) → (w.image == i) ≡ b → (b || is_listed ws i) ≡ true → (v : Window) × (v.image ≡ i) × P v
    by_cases rest true e h = (w, (Decides-eqb w.image i).0 e, All-head P w ws all)
    by_cases rest false e h = rest h

-- what follows of each window but those of an image that the list has not
pub All-unlisted : (P Q : Window → Type 0) (ws : List Window) (i : ℕ) → ((w : Window) → w.image ≢ i → P w → Q w) → is_listed ws i ≡ false → All P ws → All Q ws
All-unlisted P Q [] i give none all = All-nil Q
All-unlisted P Q (w ∷ ws) i give none all =
    let parts = or_parts (w.image == i) (is_listed ws i) none in
    All-cons Q w ws
    (give w (λ same. true≢false (sym (eq-eqb w.image i same) ∙ parts.0)) (All-head P w ws all))
    (All-unlisted P Q ws i give parts.1 (All-tail P w ws all))

-- other places leave the images
pub listed-placed : (place : Window → Rect) (ws : List Window) (n : ℕ) → is_listed (map (λ w. record { image = w.image; place = place w }) ws) n ≡ is_listed ws n
listed-placed place [] n = refl
listed-placed place (w ∷ ws) n = ap (λ b. (w.image == n) || b) (listed-placed place ws n)

-- ---- how often an image stands in a list

abbrev is_of : ℕ → Window → ℕ
is_of n w = cond (w.image == n) 1 0

times-cons : (w : Window) (ws : List Window) (n : ℕ) → times (w ∷ ws) n ≡ is_of n w + times ws n
times-cons w ws n = sum_by-cons (is_of n) w ws

twice_not : (b : Bool) → b ≡ not (not b)
twice_not true = refl
twice_not false = refl

pub times-raised : (group : List ℕ) (ws : List Window) (n : ℕ) → times (raised group ws) n ≡ times ws n
times-raised group ws n =
    sum_by-append (is_of n) (filter (is_in group) ws) (filter (λ w. not (is_in group w)) ws)
    ∙ sum_by-filter_both (is_in group) (λ w. not (is_in group w)) (λ w. refl) (is_of n) ws

pub times-lowered : (group : List ℕ) (ws : List Window) (n : ℕ) → times (lowered group ws) n ≡ times ws n
times-lowered group ws n =
    sum_by-append (is_of n) (filter (λ w. not (is_in group w)) ws) (filter (is_in group) ws)
    ∙ sum_by-filter_both (λ w. not (is_in group w)) (is_in group) (λ w. twice_not (is_in group w)) (is_of n) ws

pub times-moved : (i : ℕ) (place : Rect) (ws : List Window) (n : ℕ) → times (moved i place ws) n ≡ times ws n
times-moved i place [] n = refl
times-moved i place (w ∷ ws) n =
    times-cons (moved_window i place w) (moved i place ws) n ∙ ap (λ k. cond (k == n) 1 0 + times (moved i place ws) n) (image-moved_window i place w)
    ∙ ap (λ m. is_of n w + m) (times-moved i place ws n) ∙ sym (times-cons w ws n)

pub times-placed : (place : Window → Rect) (ws : List Window) (n : ℕ) → times (map (λ w. record { image = w.image; place = place w }) ws) n ≡ times ws n
times-placed place [] n = refl
times-placed place (w ∷ ws) n =
    times-cons (record { image = w.image; place = place w }) (map (λ w. record { image = w.image; place = place w }) ws) n
    ∙ ap (λ m. is_of n w + m) (times-placed place ws n) ∙ sym (times-cons w ws n)

pub times-without : (i : ℕ) (ws : List Window) (n : ℕ) → times (without i ws) n ≤ times ws n
times-without i ws n =
    let both = sum_by-filter_both (λ w. w.image == i) (λ w. not (w.image == i)) (λ w. refl) (is_of n) ws in
    omega (arith, both)

times-put_above : (w : Window) (old : ℕ) (ws : List Window) (n : ℕ) → times (put_above w old ws) n ≤ is_of n w + times ws n
times-put_above w old [] n = omega arith
times-put_above w old (v ∷ ws) n =
    elim (v.image == old) as (λ b. times (if b then w ∷ v ∷ ws else v ∷ put_above w old ws) n ≤ is_of n w + times (v ∷ ws) n) [
      | true ↦ (let new = times-cons w (v ∷ ws) n in omega (arith, new))
      | false ↦
          let rest = times-put_above w old ws n in
          let new = times-cons v (put_above w old ws) n in
          let was = times-cons v ws n in
          omega (arith, rest, new, was)
    ]

times-unlisted : (ws : List Window) (n : ℕ) → is_listed ws n ≡ false → times ws n ≡ 0
times-unlisted [] n none = refl
times-unlisted (w ∷ ws) n none =
    let parts = or_parts (w.image == n) (is_listed ws n) none in
    let rest = times-unlisted ws n parts.1 in
    times-cons w ws n ∙ ap (λ b. cond b 1 0 + times ws n) parts.0 ∙ (let none : 0 + times ws n ≡ 0 = omega (arith, rest) in none)

-- one more that the list has not
pub once-new : (w : Window) (ws : List Window) → is_listed ws w.image ≡ false → ((n : ℕ) → times ws n ≤ 1) → (n : ℕ) → times (w ∷ ws) n ≤ 1
once-new w ws none once n = subst (λ k. k ≤ 1) (sym (times-cons w ws n)) (by_cases (w.image == n) refl)
  where
    by_cases : (b : Bool) → (w.image == n) ≡ b → cond b 1 0 + times ws n ≤ 1
    by_cases true e =
        let same : w.image ≡ n = (Decides-eqb w.image n).0 e in
        let gone : times ws n ≡ 0 = times-unlisted ws n (subst (λ k. is_listed ws k ≡ false) same none) in
        omega (arith, gone)
    by_cases false e = let most = once n in omega (arith, most)

pub once-put_above : (w : Window) (old : ℕ) (ws : List Window) → is_listed ws w.image ≡ false → ((n : ℕ) → times ws n ≤ 1) → (n : ℕ) → times (put_above w old ws) n ≤ 1
once-put_above w old ws none once n =
    let most = times-put_above w old ws n in
    let new = once-new w ws none once n in
    let is = times-cons w ws n in
    omega (arith, most, new, is)

-- an image in the list of another is a window of it
pub stands_on : (world : World) → IsForest world → (n i : ℕ) → IsLive world n → IsTrue (is_listed (image_at world n).windows i) → parent_of world i ≡ Some n
stands_on world ok n i live here =
    let found = All-listed (IsWindowOf world n) (image_at world n).windows i (ok.windows n live) here in
    subst (λ k. parent_of world k ≡ Some n) found.1 found.2.stands

-- what a window is of its parent
pub window_of : (world : World) → IsForest world → (i p : ℕ) → parent_of world i ≡ Some p → (w : Window) × (w.image ≡ i) × IsWindowOf world p w
window_of world ok i p stands =
    let live : IsLive world i = live-standing world i p stands in
    All-listed (IsWindowOf world p) (image_at world p).windows i (ok.windows p (ok.parents i p live stands)) (ok.listed i p live stands)

-- what stands on an image is another
pub parent-apart : (world : World) → IsForest world → (i p : ℕ) → parent_of world i ≡ Some p → i ≢ p
parent-apart world ok i p stands same =
    let window = window_of world ok i p stands in
    let own : (image_at world i).depth ≡ (image_at world p).depth + 1 = subst (λ k. (image_at world k).depth ≡ (image_at world p).depth + 1) window.1 window.2.above in
    let both : (image_at world i).depth ≡ (image_at world p).depth = ap (λ (k : ℕ). (image_at world k).depth) same in
    absurd (omega (arith, own, both))

-- no list has what stands nowhere
pub unlisted : (world : World) → IsForest world → (n i : ℕ) → IsLive world n → parent_of world i ≢ Some n → is_listed (image_at world n).windows i ≡ false
unlisted world ok n i live apart = false_from_ne_true _ (λ here. apart (stands_on world ok n i live here))

pub length-without : (i : ℕ) (ws : List Window) (most : ℕ) → length ws < most → length (without i ws) < most
length-without i ws most few =
    let both = length-filter_both (λ w. w.image == i) (λ w. not (w.image == i)) (λ w. refl) ws in
    omega (arith, both)

-- the image that windows of a group stand on
pub group_parent : (world : World) (i : ℕ) (rest : List ℕ) → All (λ n. IsSome (parent_of world n)) (i ∷ rest) → IsForest world → IsLive world (unwrap_or (parent_of world i) 0)
group_parent world i rest are ok = by_parent (parent_of world i) refl (All-head (λ n. IsSome (parent_of world n)) i rest are)
  where
    by_parent : (parent : Option ℕ) → parent_of world i ≡ parent → IsSome parent → IsLive world (unwrap_or parent 0)
    by_parent None e some = absurd (true≢false (sym some))
    by_parent (Some p) e some = ok.parents i p (live-standing world i p e) e

-- a number that is free stands in no list
pub unlisted-free : (world : World) → IsForest world → (n i : ℕ) → IsLive world n → world i ≡ None → is_listed (image_at world n).windows i ≡ false
unlisted-free world ok n i live free =
    unlisted world ok n i live
    (λ stands. true≢false (sym (live-standing world i n stands) ∙ ap is_some free))
