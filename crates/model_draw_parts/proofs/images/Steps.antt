-- A release ends, and what it leaves is what is computed.
use Rattle.std.proofs.Common.{◌≡◌, ℕ, zero, suc, ◌+◌, ◌*◌, ◌≤◌, ◌<◌, Bool, true, false, cond, List, [], ◌∷◌, ◌++◌, length, Option, Some, None, refl, sym, ap, subst, ◌∙◌, arith}
use Rattle.std.specs.Prelude.{◌==◌, ◌||◌, ◌↔◌, not, filter, find, option_map}
use Rattle.std.specs.Option.{option_map_or}
use Rattle.model_draw_parts.specs.declared.images.OnScreen.{OnScreen}
use Rattle.model_draw_parts.specs.declared.images.Thing.{Thing}
use Rattle.model_draw_parts.specs.declared.images.Thing.TheVariants.{Image, Screen}
use Rattle.model_draw_parts.specs.images.Book.{Book}
use Rattle.model_draw_parts.specs.images.Release.{Freed, Releases, none_left, stays, goes, has_gone, is_used, references, released, settled, steps_for, with_gone, without}

-- how many things are still to be looked at at most: a screen has two images, and a window has a screen
abbrev pub weight : List Thing → ℕ
weight [] = 0
weight (Image i ∷ things) = 1 + weight things
weight (Screen s ∷ things) = 3 + weight things

abbrev pub left_of : Book → List Thing → ℕ
left_of book things = weight things + 3 * length book.windows

length-filter : (p : OnScreen → Bool) (ws : List OnScreen) → length (filter p ws) ≤ length ws
length-filter p [] = omega arith
length-filter p (w ∷ ws) = by (length-filter p ws) (p w)
  where
    by : length (filter p ws) ≤ length ws → (b : Bool) → length (cond b (w ∷ filter p ws) (filter p ws)) ≤ suc (length ws)
    by more true = omega arith
    by more false = omega arith

-- fewer stay where one is found that goes
length-found : (p : OnScreen → Bool) (ws : List OnScreen) (w : OnScreen) → find p ws ≡ Some w → length (filter (λ v. not (p v)) ws) < length ws
length-found p [] w e = absurd cc
length-found p (v ∷ ws) w e = by (λ e. length-found p ws w e) (length-filter (λ v. not (p v)) ws) (p v) e
  where
    by : (find p ws ≡ Some w → length (filter (λ v. not (p v)) ws) < length ws) → length (filter (λ v. not (p v)) ws) ≤ length ws
        → (b : Bool) → cond b (Some v) (find p ws) ≡ Some w → length (cond (not b) (v ∷ filter (λ v. not (p v)) ws) (filter (λ v. not (p v)) ws)) < suc (length ws)
    by more all true e = omega arith
    by more all false e = let fewer = more e in omega arith

-- fewer are left once a thing has gone
pub falls : (book : Book) (thing : Thing) (things : List Thing) → left_of (without book thing) (references book thing ++ things) < left_of book (thing ∷ things)
falls book (Screen s) things = omega arith
falls book (Image i) things = by (find (λ w. w.image == i) book.windows) refl
  where
    by : (o : Option OnScreen) → find (λ w. w.image == i) book.windows ≡ o
        → weight (option_map_or (λ s. Screen s ∷ []) (option_map (λ w. w.screen) o) [] ++ things) + 3 * length (filter (λ w. not (w.image == i)) book.windows) < weight (Image i ∷ things) + 3 * length book.windows
    by None e = let fewer = length-filter (λ w. not (w.image == i)) book.windows in omega arith
    by (Some w) e = let fewer = length-found (λ w. w.image == i) book.windows w e in omega arith

-- fewer are left once a thing has been looked at that stays
pub falls-stays : (book : Book) (thing : Thing) (things : List Thing) → left_of book things < left_of book (thing ∷ things)
falls-stays book (Image i) things = omega arith
falls-stays book (Screen s) things = omega arith

pub settled-none : (steps : ℕ) (freed : Freed) → settled steps freed [] ≡ freed
settled-none zero freed = refl
settled-none (suc steps) freed = refl

-- any two counts that are enough give the same
pub settled-same : (steps more : ℕ) (freed : Freed) (things : List Thing) → left_of freed.book things ≤ steps → left_of freed.book things ≤ more → settled steps freed things ≡ settled more freed things
settled-same steps more freed [] h k = settled-none steps freed ∙ sym (settled-none more freed)
settled-same zero more freed (t ∷ ts) h k = let fewer = falls-stays freed.book t ts in absurd (omega arith)
settled-same (suc steps) zero freed (t ∷ ts) h k = let fewer = falls-stays freed.book t ts in absurd (omega arith)
settled-same (suc steps) (suc more) freed (t ∷ ts) h k = by (settled-same steps more) (is_used freed.book t || has_gone freed t)
  where
    by : ((next : Freed) (things : List Thing) → left_of next.book things ≤ steps → left_of next.book things ≤ more → settled steps next things ≡ settled more next things) → (b : Bool)
        → ◌≡◌ {A = Freed} (elim b [ true ↦ settled steps freed ts | false ↦ settled steps (with_gone freed t) (references freed.book t ++ ts) ])
        (elim b [ true ↦ settled more freed ts | false ↦ settled more (with_gone freed t) (references freed.book t ++ ts) ])
    by same true = let fewer = falls-stays freed.book t ts in same freed ts (omega arith) (omega arith)
    by same false = let fewer = falls freed.book t ts in same (with_gone freed t) (references freed.book t ++ ts) (omega arith) (omega arith)

pub enough : (book : Book) (things : List Thing) → left_of book things ≤ steps_for book things
enough book things = let most = weighs things in omega arith
  where
    weighs : (things : List Thing) → weight things ≤ 3 * length things
    weighs [] = omega arith
    weighs (Image i ∷ things) = let most = weighs things in omega arith
    weighs (Screen s ∷ things) = let most = weighs things in omega arith

-- ---- step by step

pub released-none : (freed : Freed) → released freed [] ≡ freed
released-none freed = settled-none (steps_for freed.book []) freed

pub released-stays : (freed : Freed) (thing : Thing) (things : List Thing) → (is_used freed.book thing || has_gone freed thing) ≡ true → released freed (thing ∷ things) ≡ released freed things
released-stays freed t ts h =
    let fewer = falls-stays freed.book t ts in
    let all = enough freed.book (t ∷ ts) in
    settled-same (steps_for freed.book (t ∷ ts)) (suc (steps_for freed.book (t ∷ ts))) freed (t ∷ ts) all (omega arith)
    ∙ ap (λ (b : Bool). elim b [ true ↦ settled (steps_for freed.book (t ∷ ts)) freed ts | false ↦ settled (steps_for freed.book (t ∷ ts)) (with_gone freed t) (references freed.book t ++ ts) ]) h
    ∙ settled-same (steps_for freed.book (t ∷ ts)) (steps_for freed.book ts) freed ts (omega arith) (enough freed.book ts)

pub released-goes : (freed : Freed) (thing : Thing) (things : List Thing) → (is_used freed.book thing || has_gone freed thing) ≡ false → released freed (thing ∷ things) ≡ released (with_gone freed thing) (references freed.book thing ++ things)
released-goes freed t ts h =
    let fewer = falls freed.book t ts in
    let all = enough freed.book (t ∷ ts) in
    settled-same (steps_for freed.book (t ∷ ts)) (suc (steps_for freed.book (t ∷ ts))) freed (t ∷ ts) all (omega arith)
    ∙ ap (λ (b : Bool). elim b [ true ↦ settled (steps_for freed.book (t ∷ ts)) freed ts | false ↦ settled (steps_for freed.book (t ∷ ts)) (with_gone freed t) (references freed.book t ++ ts) ]) h
    ∙ settled-same (steps_for freed.book (t ∷ ts)) (steps_for (without freed.book t) (references freed.book t ++ ts)) (with_gone freed t) (references freed.book t ++ ts) (omega arith) (enough (without freed.book t) (references freed.book t ++ ts))

-- ---- what is computed is what is left

settled-releases : (steps : ℕ) (freed : Freed) (things : List Thing) → left_of freed.book things ≤ steps → Releases (settled steps freed things) freed things
settled-releases steps freed [] h = subst (λ (after : Freed). Releases after freed []) (sym (settled-none steps freed)) none_left
settled-releases zero freed (t ∷ ts) h = let fewer = falls-stays freed.book t ts in absurd (omega arith)
settled-releases (suc steps) freed (t ∷ ts) h = by (settled-releases steps) (is_used freed.book t || has_gone freed t) refl
  where
    by : ((next : Freed) (things : List Thing) → left_of next.book things ≤ steps → Releases (settled steps next things) next things) → (b : Bool) → (is_used freed.book t || has_gone freed t) ≡ b
        → Releases (elim b [ true ↦ settled steps freed ts | false ↦ settled steps (with_gone freed t) (references freed.book t ++ ts) ]) freed (t ∷ ts)
    by more true e = let fewer = falls-stays freed.book t ts in stays freed t ts e (more freed ts (omega arith))
    by more false e = let fewer = falls freed.book t ts in goes freed t ts e (more (with_gone freed t) (references freed.book t ++ ts) (omega arith))

only : (after freed : Freed) (things : List Thing) → Releases after freed things → after ≡ released freed things
only after freed things none_left = sym (released-none after)
only after freed things (stays f t ts e more) = only after f ts more ∙ sym (released-stays f t ts e)
only after freed things (goes f t ts e more) = only after (with_gone f t) (references f.book t ++ ts) more ∙ sym (released-goes f t ts e)

pub released-exactly : (after freed : Freed) (things : List Thing) → Releases after freed things ↔ after ≡ released freed things
released-exactly after freed things = (only after freed things, λ e. subst (λ (f : Freed). Releases f freed things) (sym e) (settled-releases (steps_for freed.book things) freed things (enough freed.book things)))
