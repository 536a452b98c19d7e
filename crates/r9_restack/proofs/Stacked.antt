-- The topmost window of a list, one window after the other, and of the lists of before and after.
use Rattle.std.proofs.Common.{◌≡◌, ◌≢◌, ◌∙◌, ℕ, suc, zero, ◌+◌, ◌<◌, ◌≤◌, ◌++◌, Bool, true, false, List, [], ◌∷◌, Option, Some, None, cond, drop, get_or, length, take, refl, sym, ap, subst, arith}
use Rattle.std.specs.Prelude.{◌==◌, ◌&&◌, not, All, is_none, is_some, if◌then◌else◌}
use Rattle.std.specs.Option.{option_map_or, option_or}
use Rattle.std.specs.List.{AllByRecursion}
use Rattle.std.proofs.lemmas.Bool.{and_parts, false≢true, ne_eqb, true≢false}
use Rattle.std.proofs.lemmas.Bool.Decides.{Decides-eqb}
use Rattle.std.proofs.lemmas.List.{get_or-drop, get_or-take, length-drop, length-take, take-append-drop}
use Rattle.std.proofs.lemmas.List.Elements.{recursion_from_All}
use Rattle.std.proofs.lemmas.List.Folds.{find-append}
use Rattle.r9_geom.specs.declared.Point.{Point}
use Rattle.r9_geom.specs.Geometry.{holds, is_point}
use Rattle.r9_geom.proofs.GeometryLemmas.{is_point_true}
use Rattle.model_forest.specs.declared.Window.{Window}
use Rattle.model_forest.specs.Stack.{without}
use Rattle.model_forest.specs.World.{World, image_at}
use Rattle.model_forest.specs.View.{is_bare, top_window}
use Rattle.model_forest.proofs.Views.{All-top_window}
use Rattle.r9_restack.specs.declared.stacks.Stacks.{Stacks}
use Rattle.r9_restack.specs.declared.stacks.Tops.{Tops}
use Rattle.r9_restack.specs.Changing.{StaysTop}
use Rattle.r9_restack.specs.Stacks.{after_of, before_of, is_window, tops_at, IsStacked}

-- what a negated test tells
pub from_not : (b : Bool) → not b ≡ true → b ≡ false
from_not true e = absurd (false≢true e)
from_not false e = refl

pub from_not_false : (b : Bool) → not b ≡ false → b ≡ true
from_not_false true e = refl
from_not_false false e = absurd (true≢false e)

-- ---- a list

-- no window of it stands at a point
pub top_none : (ws : List Window) (z : Point) → All (λ w. holds w.place z ≡ false) ws → top_window ws z ≡ None
top_none ws z all = by_recursion ws (recursion_from_All (λ w. holds w.place z ≡ false) ws all)
  where
    by_recursion : (ws : List Window) → AllByRecursion (λ w. holds w.place z ≡ false) ws → top_window ws z ≡ None
    by_recursion [] all = refl
    by_recursion (w ∷ ws) all = ap (λ b. cond b (Some w) (top_window ws z)) all.0 ∙ by_recursion ws all.1

-- where one stands it is not bare
pub not_bare : (ws : List Window) (z : Point) (i : ℕ) (d : Window) → i < length ws → holds (get_or ws i d).place z ≡ true → is_bare ws z ≡ false
not_bare [] z i d lt is = absurd (omega arith)
not_bare (w ∷ ws) z zero d lt is = ap (λ b. is_none (cond b (Some w) (top_window ws z))) is
not_bare (w ∷ ws) z (suc i) d lt is = by_first (holds w.place z) (not_bare ws z i d (omega arith) is)
  where
    by_first : (b : Bool) → is_bare ws z ≡ false → is_none (cond b (Some w) (top_window ws z)) ≡ false
    by_first true rest = refl
    by_first false rest = rest

pub bare_none : (o : Option Window) → is_none o ≡ true → o ≡ None
bare_none None e = refl
bare_none (Some w) e = absurd (false≢true e)

-- a list in two parts
pub top_two : (upper lower : List Window) (z : Point) → top_window (upper ++ lower) z ≡ option_or (top_window upper z) (top_window lower z)
top_two upper lower z = find-append (λ w. holds w.place z) upper lower

-- where the first part is bare
pub top_later : (upper lower : List Window) (z : Point) → is_bare upper z ≡ true → top_window (upper ++ lower) z ≡ top_window lower z
top_later upper lower z bare =
    top_two upper lower z ∙ ap (λ o. option_or o (top_window lower z)) (bare_none (top_window upper z) bare)

-- and where it is not
pub top_earlier : (upper lower more : List Window) (z : Point) → is_bare upper z ≡ false → top_window (upper ++ lower) z ≡ top_window (upper ++ more) z
top_earlier upper lower more z not_bare =
    top_two upper lower z ∙ by_top (top_window upper z) not_bare ∙ sym (top_two upper more z)
  where
    by_top : (o : Option Window) → is_none o ≡ false → option_or o (top_window lower z) ≡ option_or o (top_window more z)
    by_top None e = absurd (true≢false e)
    by_top (Some w) e = refl

pub top_in_first : (upper lower : List Window) (z : Point) → is_bare upper z ≡ false → top_window (upper ++ lower) z ≡ top_window upper z
top_in_first upper lower z not_bare = top_two upper lower z ∙ by_top (top_window upper z) not_bare
  where
    by_top : (o : Option Window) → is_none o ≡ false → option_or o (top_window lower z) ≡ o
    by_top None e = absurd (true≢false e)
    by_top (Some w) e = refl

-- the windows after some that do not stand at a point
pub top_drop : (ws : List Window) (n : ℕ) (z : Point) → is_bare (take n ws) z ≡ true → top_window (drop n ws) z ≡ top_window ws z
top_drop ws n z bare = sym (top_later (take n ws) (drop n ws) z bare) ∙ ap (λ l. top_window l z) (take-append-drop n ws)

-- and those before some that do not
pub top_take : (ws : List Window) (n : ℕ) (z : Point) → is_bare (drop n ws) z ≡ true → top_window (take n ws) z ≡ top_window ws z
top_take ws n z bare =
    sym (or_nothing (top_window (take n ws) z))
    ∙ ap (option_or (top_window (take n ws) z)) (sym (bare_none (top_window (drop n ws) z) bare))
    ∙ sym (top_two (take n ws) (drop n ws) z)
    ∙ ap (λ l. top_window l z) (take-append-drop n ws)
  where
    or_nothing : (o : Option Window) → option_or o None ≡ o
    or_nothing None = refl
    or_nothing (Some w) = refl

-- where none of the first windows stands
pub bare_until : (ws : List Window) (n : ℕ) (z : Point) → ((j : ℕ) (d : Window) → j < n → holds (get_or ws j d).place z ≡ false) → is_bare (take n ws) z ≡ true
bare_until ws n z none =
    ap is_none
    (top_none (take n ws) z
    (λ j d below.
    let long = length-take n ws in
    let early : j < n = grind arith in
    ap (λ (w : Window). holds w.place z) (get_or-take n ws j d early) ∙ none j d early))

-- where none of the windows from one on stands
pub bare_from : (ws : List Window) (n : ℕ) (z : Point) → ((j : ℕ) (d : Window) → n ≤ j → j < length ws → holds (get_or ws j d).place z ≡ false) → is_bare (drop n ws) z ≡ true
bare_from ws n z none =
    ap is_none
    (top_none (drop n ws) z
    (λ j d below.
    let long = length-drop n ws in
    ap (λ (w : Window). holds w.place z) (get_or-drop n ws j d) ∙ none (n + j) d (omega arith) (omega (arith, below, long))))

-- a part of a list
pub all_part : (P : Window → Type 0) (ws : List Window) (n off : ℕ) → All P ws → All P (drop off (take n ws))
all_part P ws n off all k d below =
    let long = length-drop off (take n ws) in
    let short = length-take n ws in
    let early : off + k < n = grind arith in
    let there : off + k < length ws = grind arith in
    subst P (sym (get_or-drop off (take n ws) k d ∙ get_or-take n ws (off + k) d early)) (all (off + k) d there)

-- the first of two lists that has one
pub some_first : (o p : Option Window) → is_some o ≡ true → option_or o p ≡ o
some_first None p e = absurd (false≢true e)
some_first (Some w) p e = refl

pub none_first : (o p : Option Window) → is_some o ≡ false → option_or o p ≡ p
none_first None p e = refl
none_first (Some w) p e = absurd (true≢false e)

-- windows that are one
pub same_window : (a b : Window) → is_window a b ≡ true → a ≡ b
same_window a b h =
    let parts = and_parts (a.image == b.image && is_point a.place.min b.place.min) (is_point a.place.max b.place.max) h in
    let first = and_parts (a.image == b.image) (is_point a.place.min b.place.min) parts.0 in
    let min = is_point_true a.place.min b.place.min first.1 in
    let max = is_point_true a.place.max b.place.max parts.1 in
    let image = (Decides-eqb a.image b.image).0 first.0 in
    λ i. record { image = image i; place = record { min = min i; max = max i } }

-- ---- what is told of a point

abbrev tops_there : Stacks → Point → Tops
tops_there s z = record { before = top_window s.old.now z; after = top_window (s.upper.now ++ s.lower.now) z }

pub tops_bare : (s : Stacks) (z : Point) → is_bare s.front.now z ≡ true → tops_at s z ≡ Some (tops_there s z)
unfolding tops_at
tops_bare s z bare =
    ap (λ b. if b then Some (tops_there s z) else None) bare

pub tops_covered : (s : Stacks) (z : Point) → is_bare s.front.now z ≡ false → tops_at s z ≡ None
unfolding tops_at
tops_covered s z covered =
    ap (λ b. if b then Some (tops_there s z) else None) covered

-- with the same windows topmost in each list the same is told
pub tops_same : (s t : Stacks) (z : Point) → top_window s.front.now z ≡ top_window t.front.now z → top_window s.old.now z ≡ top_window t.old.now z → top_window s.upper.now z ≡ top_window t.upper.now z → top_window s.lower.now z ≡ top_window t.lower.now z → tops_at s z ≡ tops_at t z
unfolding tops_at
tops_same s t z front old upper lower =
    let after : top_window (s.upper.now ++ s.lower.now) z ≡ top_window (t.upper.now ++ t.lower.now) z =
    top_two s.upper.now s.lower.now z ∙ (λ j. option_or (upper j) (lower j)) ∙ sym (top_two t.upper.now t.lower.now z) in
    λ j. if is_none (front j) then Some (record { before = old j; after = after j }) else None

pub before_bare : (s : Stacks) (z : Point) → is_bare s.front.now z ≡ true → top_window (before_of s) z ≡ top_window s.old.now z
unfolding before_of
before_bare s z bare = top_later s.front.now s.old.now z bare

pub after_bare : (s : Stacks) (z : Point) → is_bare s.front.now z ≡ true → top_window (after_of s) z ≡ top_window (s.upper.now ++ s.lower.now) z
unfolding after_of
after_bare s z bare = top_later s.front.now (s.upper.now ++ s.lower.now) z bare

pub covered_alike : (s : Stacks) (z : Point) → is_bare s.front.now z ≡ false → top_window (after_of s) z ≡ top_window (before_of s) z
unfolding before_of after_of
covered_alike s z covered = top_earlier s.front.now (s.upper.now ++ s.lower.now) s.old.now z covered

pub covered_front : (s : Stacks) (z : Point) → is_bare s.front.now z ≡ false → top_window (after_of s) z ≡ top_window s.front.now z
unfolding after_of
covered_front s z covered = top_in_first s.front.now (s.upper.now ++ s.lower.now) z covered

-- what is topmost where something is told
pub record Told (s : Stacks) (z : Point) (t : Tops) : Type 0 where
  pub before : top_window (before_of s) z ≡ t.before
  pub after : top_window (after_of s) z ≡ t.after

pub told : (s : Stacks) (z : Point) (t : Tops) → tops_at s z ≡ Some t → Told s z t
told s z t is = by_front (is_bare s.front.now z) refl
  where
    by_front : (b : Bool) → is_bare s.front.now z ≡ b → Told s z t
    by_front true bare =
        let same : Some (tops_there s z) ≡ Some t = sym (tops_bare s z bare) ∙ is in
        record {
          before = before_bare s z bare ∙ ap (λ o. option_map_or (λ (u : Tops). u.before) o None) same;
          after = after_bare s z bare ∙ ap (λ o. option_map_or (λ (u : Tops). u.after) o None) same;
        }
    by_front false covered = absurd (false≢true (ap {A = Option Tops} is_some (sym (tops_covered s z covered) ∙ is)))

-- and where nothing is told the same window is topmost before and after, which is not w
pub untold : (s : Stacks) (z : Point) → tops_at s z ≡ None → is_bare s.front.now z ≡ false
untold s z is = by_front (is_bare s.front.now z) refl
  where
    by_front : (b : Bool) → is_bare s.front.now z ≡ b → is_bare s.front.now z ≡ false
    by_front true bare =
        let both = sym (tops_bare s z bare) ∙ is in absurd (true≢false (ap {A = Option Tops} is_some both))
    by_front false covered = covered

-- where w is topmost after
pub tops_show : (s : Stacks) (w : ℕ) (z : Point) → All (λ v. v.image ≢ w) s.front.now → option_map_or (λ v. v.image == w) (top_window (after_of s) z) false ≡ option_map_or (λ t. option_map_or (λ v. v.image == w) t.after false) (tops_at s z) false
tops_show s w z apart = by_front (is_bare s.front.now z) refl
  where
    other : (o : Option Window) → top_window s.front.now z ≡ o → option_map_or (λ (v : Window). v.image == w) o false ≡ false
    other None e = refl
    other (Some v) e = ne_eqb v.image w (All-top_window (λ u. u.image ≢ w) s.front.now z v apart e)

    by_front : (b : Bool) → is_bare s.front.now z ≡ b → option_map_or (λ v. v.image == w) (top_window (after_of s) z) false ≡ option_map_or (λ t. option_map_or (λ v. v.image == w) t.after false) (tops_at s z) false
    by_front true bare =
        ap (λ o. option_map_or (λ (v : Window). v.image == w) o false) (after_bare s z bare)
        ∙ sym (ap (λ o. option_map_or (λ (t : Tops). option_map_or (λ (v : Window). v.image == w) t.after false) o false) (tops_bare s z bare))
    by_front false covered =
        ap (λ o. option_map_or (λ (v : Window). v.image == w) o false) (covered_front s z covered)
        ∙ other (top_window s.front.now z) refl
        ∙ sym (ap (λ o. option_map_or (λ (t : Tops). option_map_or (λ (v : Window). v.image == w) t.after false) o false) (tops_covered s z covered))

-- ---- what is told of a block

-- what is told at each of its points is topmost there, before and after
pub block_before : (world : World) (p w : ℕ) (s : Stacks) (t : Tops) (z : Point) → IsStacked world p w s → tops_at s z ≡ Some t → top_window (image_at world p).windows z ≡ t.before
block_before world p w s t z is tops = ap (λ ws. top_window ws z) is.before ∙ (told s z t tops).before

-- where nothing is told the topmost window stays
pub untold_stays : (world : World) (p w : ℕ) (s : Stacks) (z : Point) → IsStacked world p w s → tops_at s z ≡ None → StaysTop world p (after_of s) w z
untold_stays world p w s z is none =
    let covered = untold s z none in
    let same : top_window (after_of s) z ≡ top_window (image_at world p).windows z = covered_alike s z covered ∙ sym (ap (λ ws. top_window ws z) is.before) in
    record {
      tops = λ i. ap (λ o. option_map_or (λ (v : Window). v.image == i) o false) same;
      apart = λ v top. All-top_window (λ u. u.image ≢ w) s.front.now z v is.apart (sym (covered_front s z covered) ∙ top);
      bare = ap is_none same;
    }

-- ---- lists that are the same but for one image

kept : (w : ℕ) (v : Window) (vs : List Window) → v.image ≢ w → without w (v ∷ vs) ≡ v ∷ without w vs
kept w v vs apart = ap (λ b. cond (not b) (v ∷ without w vs) (without w vs)) (ne_eqb v.image w apart)

-- they begin alike, before that
pub front_same : (n : ℕ) (old new : List Window) (w : ℕ) → n ≤ length old → n ≤ length new → without w new ≡ without w old → All (λ v. v.image ≢ w) (take n old) → All (λ v. v.image ≢ w) (take n new) → take n old ≡ take n new
front_same zero old new w in_old in_new same apart_old apart_new = refl
front_same (suc n) [] new w in_old in_new same apart_old apart_new = absurd (omega (arith, in_old))
front_same (suc n) (a ∷ more) [] w in_old in_new same apart_old apart_new = absurd (omega (arith, in_new))
front_same (suc n) (a ∷ more) (b ∷ others) w in_old in_new same apart_old apart_new =
    let both : (a ∷ without w more) ≡ (b ∷ without w others) =
    sym (kept w a more (apart_old 0 a (omega arith))) ∙ sym same ∙ kept w b others (apart_new 0 b (omega arith)) in
    let first : a ≡ b = ap (λ l. get_or l 0 a) both in
    let left : without w others ≡ without w more = sym (ap tail both) in
    let rest = front_same n more others w (omega (arith, in_old)) (omega (arith, in_new)) left (λ k d below. apart_old (suc k) d (omega (arith, below))) (λ k d below. apart_new (suc k) d (omega (arith, below))) in
    λ j. first j ∷ rest j
  where
    tail : List Window → List Window
    tail [] = []
    tail (v ∷ vs) = vs
