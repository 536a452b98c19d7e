-- One step of a release: less is left, and there is room for what is left.
use Rattle.std.proofs.Common.{◌≡◌, ℕ, ◌+◌, ◌<◌, ◌≤◌, true, false, List, [], ◌∷◌, ◌++◌, Option, Some, None, length, vec_capacity, refl, sym, ap, subst, ◌∙◌, arith, length-append}
use Rattle.std.specs.Prelude.{◌||◌, All}
use Rattle.std.specs.Option.{option_map_or}
use Rattle.std.proofs.lemmas.List.Elements.{All-append}
use Rattle.model_draw_parts.specs.declared.images.Thing.{Thing}
use Rattle.model_draw_parts.specs.declared.images.Thing.TheVariants.{Image, Screen}
use Rattle.model_draw_parts.specs.images.Book.{screen_of}
use Rattle.model_draw_parts.specs.images.Release.{Freed, references, is_used, has_gone, with_gone, released, without}
use Rattle.model_draw_parts.proofs.images.Steps as model
use Rattle.r9_images.specs.declared.uses.uses.Uses.{Uses}
use Rattle.r9_images.specs.uses.Freed.{freed_of, book_of, IsKnown, weight, left_of, HasRoom}
use Rattle.r9_images.proofs.uses.Used.{all-one, window-counted, counted-known}

weight-same : (things : List Thing) → weight things ≡ model.weight things
weight-same [] = refl
weight-same (Image i ∷ things) = ap (λ (n : ℕ). 1 + n) (weight-same things)
weight-same (Screen s ∷ things) = ap (λ (n : ℕ). 3 + n) (weight-same things)

pub length-weight : (things : List Thing) → length things ≤ weight things
length-weight [] = omega arith
length-weight (Image i ∷ things) = let more = length-weight things in omega arith
length-weight (Screen s ∷ things) = let more = length-weight things in omega arith

pub stayed : (freed : Freed) (thing : Thing) (things : List Thing) → (is_used freed.book thing || has_gone freed thing) ≡ true → released freed things ≡ released freed (thing ∷ things)
stayed freed thing things h = sym (model.released-stays freed thing things h)

pub went : (freed new : Freed) (thing : Thing) (things more : List Thing) → (is_used freed.book thing || has_gone freed thing) ≡ false → new ≡ with_gone freed thing
    → more ≡ references freed.book thing ++ things → released new more ≡ released freed (thing ∷ things)
went freed new thing things more h n m = (λ i. released (n i) (m i)) ∙ sym (model.released-goes freed thing things h)

-- less is left
pub fallen : (old new : Uses) (thing : Thing) (things more : List Thing) → freed_of new [] 0 ≡ with_gone (freed_of old [] 0) thing → more ≡ references (book_of old) thing ++ things
    → left_of new more < left_of old (thing ∷ things)
fallen old new thing things more h is =
    let f = model.falls (book_of old) thing things in
    let windows : length new.windows.windows ≡ length (without (book_of old) thing).windows = ap (λ (x : Freed). length x.book.windows) h in
    let weighs : weight more ≡ model.weight (references (book_of old) thing ++ things) = ap weight is ∙ weight-same (references (book_of old) thing ++ things) in
    let before = weight-same (thing ∷ things) in
    omega (arith, f, windows, weighs, before)

-- what it refers to fits
pub fits : (old : Uses) (thing : Thing) (things : List Thing) (most : ℕ) → left_of old (thing ∷ things) ≤ most → length (references (book_of old) thing) + length things ≤ most
fits old thing things most h =
    let f = model.falls (book_of old) thing things in
    let weighs = weight-same (references (book_of old) thing ++ things) in
    let before = weight-same (thing ∷ things) in
    let long = length-weight (references (book_of old) thing ++ things) in
    let both = length-append (references (book_of old) thing) things in
    omega (arith, f, weighs, before, long, both, h)

spare-grows : (old : Uses) (thing : Thing) → length (without (book_of old) thing).spare ≤ length old.spare.items + 1
spare-grows old (Image i) = omega arith
spare-grows old (Screen s) = let one = length-append old.spare.items (s ∷ []) in omega (arith, one)

-- there is room for what is left
pub roomy : (old new : Uses) (thing : Thing) (things more : List Thing) → freed_of new [] 0 ≡ with_gone (freed_of old [] 0) thing → more ≡ references (book_of old) thing ++ things
    → vec_capacity new.gone ≡ vec_capacity old.gone → vec_capacity new.spare ≡ vec_capacity old.spare → ((t : Thing) → IsKnown old t → IsKnown new t)
    → (rest : ℕ) → HasRoom old (left_of old (thing ∷ things) + rest) → HasRoom new (left_of new more + rest)
roomy old new thing things more h is g s known rest r =
    let less = fallen old new thing things more h is in
    let gone : length new.gone.items ≡ length (old.gone.items ++ thing ∷ []) = ap (λ (x : Freed). length x.gone) h in
    let one = length-append old.gone.items (thing ∷ []) in
    let spare : length new.spare.items ≡ length (without (book_of old) thing).spare = ap (λ (x : Freed). length x.book.spare) h in
    let grows = spare-grows old thing in
    record {
      gone = omega (arith, less, gone, one, g, r.gone);
      spare = omega (arith, less, spare, grows, s, r.spare);
      image = known (Image 0) r.image;
    }

all-of : (P Q : Thing → Type 0) (things : List Thing) → ((t : Thing) → P t → Q t) → All P things → All Q things
all-of P Q things h all k d l = h _ (all k d l)

-- what is left is known
pub all-known : (old new : Uses) (thing : Thing) (things more : List Thing) → more ≡ references (book_of old) thing ++ things → ((t : Thing) → IsKnown old t → IsKnown new t)
    → All (IsKnown old) (references (book_of old) thing) → All (IsKnown old) things → All (IsKnown new) more
all-known old new thing things more is known first rest =
    subst (λ (ts : List Thing). All (IsKnown new) ts) (sym is)
    (all-of (IsKnown old) (IsKnown new) _ known (All-append (IsKnown old) (references (book_of old) thing) things first rest))

-- what an image refers to is known
pub refers-known : (u : Uses) (i : ℕ) → All (IsKnown u) (references (book_of u) (Image i))
refers-known u i = by (screen_of (book_of u) i) refl
  where
    by : (o : Option ℕ) → screen_of (book_of u) i ≡ o → All (IsKnown u) (option_map_or (λ s. Screen s ∷ []) o [])
    by None is = λ k d l. absurd (omega (arith, l))
    by (Some s) is =
        let some = window-counted i s u.windows.windows is in
        all-one (IsKnown u) s (Some s) refl (counted-known u.numbers.uses s (omega (arith, some, u.screens_counted s)))

-- the same of its screen, where that is told
pub screen-first : (u : Uses) (i : ℕ) (o : Option ℕ) (things : List Thing) → o ≡ screen_of (book_of u) i → option_map_or (λ s. Screen s ∷ []) o [] ++ things ≡ references (book_of u) (Image i) ++ things
screen-first u i o things is = ap (λ (s : Option ℕ). option_map_or (λ n. Screen n ∷ []) s [] ++ things) is
