-- Room for what goes, from one call to the next, and ids that go one after the other.
use Rattle.std.proofs.Common.{◌≡◌, ℕ, suc, ◌<◌, ◌≤◌, Bool, true, false, cond, List, [], ◌∷◌, ◌++◌, length, Some, None, vec_capacity, refl, sym, ap, ◌∙◌, arith}
use Rattle.std.specs.Prelude.{◌||◌, not, find, filter, Result, Ok, Err, OnErr}
use Rattle.std.specs.List.{fold}
use Rattle.model_draw_parts.specs.declared.images.ImageId.{ImageId}
use Rattle.model_draw_parts.specs.declared.images.Thing.{Thing}
use Rattle.model_draw_parts.specs.declared.images.Thing.TheVariants.{Image}
use Rattle.model_draw_parts.specs.declared.images.Tie.{Tie}
use Rattle.model_draw_parts.specs.images.Release.{Freed, references, is_used, has_gone, with_gone, released, is_image_id, without_image_id}
use Rattle.model_draw_parts.proofs.images.Steps as model
use Rattle.r9_images.specs.declared.uses.uses.Uses.{Uses}
use Rattle.r9_images.specs.uses.Freed.{freed_of, given, IsKnown, HasRoom}

pub less-room : (u : Uses) (n m : ℕ) → n ≤ m → HasRoom u m → HasRoom u n
less-room u n m l r = record { gone = omega (arith, l, r.gone); spare = omega (arith, l, r.spare); image = r.image }

-- the same room in a book in which as much has gone
pub same-room : (old new : Uses) (n m : ℕ) → new.gone ≡ old.gone → new.spare ≡ old.spare → (IsKnown old (Image 0) → IsKnown new (Image 0)) → n ≤ m → HasRoom old m → HasRoom new n
same-room old new n m g s k l r =
    let gone : length new.gone.items ≡ length old.gone.items = ap (λ v. length v.items) g in
    let spare : length new.spare.items ≡ length old.spare.items = ap (λ v. length v.items) s in
    let gone_most = ap vec_capacity g in
    let spare_most = ap vec_capacity s in
    record { gone = omega (arith, l, r.gone, gone, gone_most); spare = omega (arith, l, r.spare, spare, spare_most); image = k r.image }

-- ---- a thing that refers to nothing

pub plain-stays : (freed : Freed) (thing : Thing) → (is_used freed.book thing || has_gone freed thing) ≡ true → freed ≡ released freed (thing ∷ [])
plain-stays freed thing h = sym (model.released-stays freed thing [] h ∙ model.released-none freed)

pub plain-goes : (freed new : Freed) (thing : Thing) → (is_used freed.book thing || has_gone freed thing) ≡ false → new ≡ with_gone freed thing → references freed.book thing ≡ []
    → new ≡ released freed (thing ∷ [])
plain-goes freed new thing h n none =
    n ∙ sym
    (model.released-goes freed thing [] h ∙ ap (λ (ts : List Thing). released (with_gone freed thing) (ts ++ [])) none ∙ model.released-none (with_gone freed thing))

-- ---- an id that went

pub image-taken : (old new : Uses) (e : ImageId) → new.image_ids.ids ≡ filter (λ x. not (is_image_id e.client e.id x)) old.image_ids.ids
    → new.screen_ids ≡ old.screen_ids → new.screens ≡ old.screens → new.spare ≡ old.spare → new.windows ≡ old.windows → new.gone ≡ old.gone
    → (ties : List Tie) (next_tie : ℕ) → freed_of new ties next_tie ≡ record (freed_of old ties next_tie) { book = without_image_id (freed_of old ties next_tie).book e.client e.id }
image-taken old new e ids others screens spare windows gone ties next_tie = λ i. record {
  book =
      record {
        image_ids = ids i;
        screen_ids = (others i).ids;
        ties = ties;
        screens = (screens i).screens;
        spare = (spare i).items;
        windows = (windows i).windows;
        next_tie = next_tie;
      };
  gone = (gone i).items;
}

-- ---- the ids of a connection

pub fewer-left : {X : Type 0} (p : X → Bool) (x : X) (xs : List X) → find p xs ≡ Some x → length (filter (λ y. not (p y)) xs) < length xs
fewer-left p x [] h = absurd cc
fewer-left p x (y ∷ ys) h = by (fewer-left p x ys) (at_most ys) (p y) h
  where
    at_most : (zs : List _) → length (filter (λ z. not (p z)) zs) ≤ length zs
    at_most [] = omega arith
    at_most (z ∷ zs) = some (p z) (at_most zs)
      where
        some : (t : Bool) → length (filter (λ u. not (p u)) zs) ≤ length zs → length (cond (not t) (z ∷ filter (λ u. not (p u)) zs) (filter (λ u. not (p u)) zs)) ≤ suc (length zs)
        some true more = omega (arith, more)
        some false more = omega (arith, more)

    by : (find p ys ≡ Some x → length (filter (λ z. not (p z)) ys) < length ys) → length (filter (λ z. not (p z)) ys) ≤ length ys → (t : Bool) → cond t (Some y) (find p ys) ≡ Some x
        → length (cond (not t) (y ∷ filter (λ z. not (p z)) ys) (filter (λ z. not (p z)) ys)) < suc (length ys)
    by more all true h = omega (arith, all)
    by more all false h = let less = more h in omega (arith, less)

pub none-own : {X : Type 0} (p : X → Bool) (xs : List X) → None ≡ find p xs → filter p xs ≡ []
none-own p [] h = refl
none-own p (x ∷ xs) h = by (none-own p xs) (p x) h
  where
    by : (None ≡ find p xs → filter p xs ≡ []) → (t : Bool) → None ≡ cond t (Some x) (find p xs) → cond t (x ∷ filter p xs) (filter p xs) ≡ []
    by more true h = absurd cc
    by more false h = more h

-- one more id goes
pub fold-one : {A B : Type 0} (f : B → A → B) (now new : B) (x : A) (xs ys zs : List A) → new ≡ f now x → zs ≡ ys → xs ≡ x ∷ ys → fold f new zs ≡ fold f now xs
fold-one f now new x xs ys zs n e is = (λ i. fold f (n i) (e i)) ∙ ap (fold f now) (sym is)

pub fold-none : {A B : Type 0} (f : B → A → B) (now : B) (xs : List A) → xs ≡ [] → now ≡ fold f now xs
fold-none f now xs e = sym (ap (fold f now) e)

-- ---- what has gone, given

pub all-given : (new dropped : Uses) (gone : List Thing) (freed : Freed) (ties : List Tie) (next_tie : ℕ) → given new gone ties next_tie ≡ given dropped gone ties next_tie
    → gone ≡ dropped.gone.items → freed_of dropped ties next_tie ≡ freed → given new gone ties next_tie ≡ freed
all-given new dropped gone freed ties next_tie k g h = k ∙ ap (λ (ts : List Thing). given dropped ts ties next_tie) g ∙ h

pub on_err : {X E : Type 0} (r : Result X E) (P : Type 0) → P → OnErr r P
on_err (Ok x) P p = tt
on_err (Err e) P p = p
