-- What the window manager frees leaves it the display, and the screens of its rios their ids.
use Rattle.std.proofs.Common.{◌≡◌, ℕ, zero, suc, Bool, true, false, cond, List, [], ◌∷◌, ◌++◌, Option, Some, None, Ok, refl, sym, ap, ◌∙◌, arith}
use Rattle.std.specs.Prelude.{◌==◌, ◌||◌, ◌&&◌, filter, find, not, if◌then◌else◌}
use Rattle.std.proofs.lemmas.Bool.Decides.{nat_tests}
use Rattle.model_text.specs.text.Outcome.{◌>>=◌, value_or_refuse}
use Rattle.model_draw_parts.specs.declared.images.ImageId.{ImageId}
use Rattle.model_draw_parts.specs.declared.images.ScreenId.{ScreenId}
use Rattle.model_draw_parts.specs.declared.images.Thing.{Thing}
use Rattle.model_draw_parts.specs.declared.images.Thing.TheVariants.{Image, Screen}
use Rattle.model_draw_parts.specs.images.Book.{Book, image_id, screen_id}
use Rattle.model_draw_parts.specs.images.Release.{Freed, free_id, free_screen, freed_image_id, freed_screen_id, has_gone, is_image_id, is_screen_id, is_tied_by, is_used, nothing_freed, own_image_id, references, settled, steps_for, with_gone, with_ties_ended, without, without_image_id, without_screen_id}

-- what no thing that goes changes
settled_part : {A : Type 0} (part : Book → A) → ((book : Book) (t : Thing) → part (without book t) ≡ part book) → (steps : ℕ) (freed : Freed) (things : List Thing) → part (settled steps freed things).book ≡ part freed.book
settled_part part same zero freed things = refl
settled_part part same (suc steps) freed [] = refl
settled_part part same (suc steps) freed (t ∷ ts) = by (settled_part part same steps) (is_used freed.book t || has_gone freed t)
  where
    by : ((next : Freed) (things : List Thing) → part (settled steps next things).book ≡ part next.book) → (b : Bool)
        → (let next : Freed = elim b [ true ↦ settled steps freed ts | false ↦ settled steps (with_gone freed t) (references freed.book t ++ ts) ] in part next.book) ≡ part freed.book
    by more true = more freed ts
    by more false = more (with_gone freed t) (references freed.book t ++ ts) ∙ same freed.book t

image_ids_stay : (book : Book) (t : Thing) → (without book t).image_ids ≡ book.image_ids
image_ids_stay book (Image i) = refl
image_ids_stay book (Screen s) = refl

screen_ids_stay : (book : Book) (t : Thing) → (without book t).screen_ids ≡ book.screen_ids
screen_ids_stay book (Image i) = refl
screen_ids_stay book (Screen s) = refl

-- no image id goes with a screen id
pub free_screen-image_ids : (book : Book) (client id : ℕ) (freed : Freed) → free_screen book client id ≡ Ok freed → freed.book.image_ids ≡ book.image_ids
unfolding free_screen
free_screen-image_ids book client id freed e = by (screen_id book client id) e
  where
    by : (o : Option ScreenId) → (value_or_refuse o 5 >>= λ e. Ok (freed_screen_id (nothing_freed book) e)) ≡ Ok freed → freed.book.image_ids ≡ book.image_ids
    by None e = absurd cc
    by (Some x) e =
        let same : freed_screen_id (nothing_freed book) x ≡ freed = cc in
        ap (λ (f : Freed). f.book.image_ids) (sym same)
        ∙ settled_part (λ b. b.image_ids) image_ids_stay (steps_for (without_screen_id book x.client x.id) (Screen x.screen ∷ [])) (record (nothing_freed book) { book = without_screen_id book x.client x.id }) (Screen x.screen ∷ [])

-- and no screen id with an image id
pub free_id-screen_ids : (book : Book) (client id : ℕ) (freed : Freed) → free_id book client id ≡ Ok freed → freed.book.screen_ids ≡ book.screen_ids
unfolding free_id
free_id-screen_ids book client id freed e = by (own_image_id book client id) e
  where
    by : (o : Option ImageId) → (value_or_refuse o 4 >>= λ e. Ok (with_ties_ended (is_tied_by client id) (freed_image_id (nothing_freed book) e))) ≡ Ok freed → freed.book.screen_ids ≡ book.screen_ids
    by None e = absurd cc
    by (Some x) e =
        let same : with_ties_ended (is_tied_by client id) (freed_image_id (nothing_freed book) x) ≡ freed = cc in
        ap (λ (f : Freed). f.book.screen_ids) (sym same)
        ∙ settled_part (λ b. b.screen_ids) screen_ids_stay (steps_for (without_image_id book x.client x.id) (Image x.image ∷ [])) (record (nothing_freed book) { book = without_image_id book x.client x.id }) (Image x.image ∷ [])

-- ---- the display

find_filter : {X : Type 0} (p q : X → Bool) (xs : List X) → ((x : X) → p x ≡ true → q x ≡ true) → find p (filter q xs) ≡ find p xs
find_filter p q [] h = refl
find_filter p q (x ∷ xs) h = by (find_filter p q xs h) (q x) refl (p x) refl
  where
    by : find p (filter q xs) ≡ find p xs → (a : Bool) → q x ≡ a → (b : Bool) → p x ≡ b → find p (cond a (x ∷ filter q xs) (filter q xs)) ≡ cond b (Some x) (find p xs)
    by more true passes b is = λ i. cond (is i) (Some x) (more i)
    by more false fails true is = absurd (let one = h x is in cc)
    by more false fails false is = more

found : {X : Type 0} (p : X → Bool) (xs : List X) (e : X) → find p xs ≡ Some e → p e ≡ true
found p [] e k = absurd cc
found p (x ∷ xs) e k = by (found p xs e) (p x) refl k
  where
    by : (find p xs ≡ Some e → p e ≡ true) → (b : Bool) → p x ≡ b → cond b (Some x) (find p xs) ≡ Some e → p e ≡ true
    by more true is k = let same : x ≡ e = cc in ap p (sym same) ∙ is
    by more false is k = more k

-- another id of the manager's is not that of the display
not_display : (client id : ℕ) (x e : ImageId) → (id == 0) ≡ false → ((x.client == client) && (x.id == id)) ≡ true → ((e.client == 0) && (e.id == 0)) ≡ true → not (is_image_id x.client x.id e) ≡ true
not_display client id x e other is at = grind (arith, nat_tests)

pub free_id-display : (book : Book) (id : ℕ) (freed : Freed) → (id == 0) ≡ false → free_id book 0 id ≡ Ok freed → image_id freed.book 0 0 ≡ image_id book 0 0
unfolding free_id
free_id-display book id freed other e = by (own_image_id book 0 id) refl e
  where
    own : own_image_id book 0 id ≡ find (λ e. (e.client == 0) && (e.id == id)) book.image_ids
    own = ap (λ (b : Bool). if b && not (0 == 0) then None else find (λ e. (e.client == (if b then 0 else 0)) && (e.id == id)) book.image_ids) other

    by : (o : Option ImageId) → own_image_id book 0 id ≡ o → (value_or_refuse o 4 >>= λ e. Ok (with_ties_ended (is_tied_by 0 id) (freed_image_id (nothing_freed book) e))) ≡ Ok freed
        → image_id freed.book 0 0 ≡ image_id book 0 0
    by None at e = absurd cc
    by (Some x) at e =
        let same : with_ties_ended (is_tied_by 0 id) (freed_image_id (nothing_freed book) x) ≡ freed = cc in
        let is : ((x.client == 0) && (x.id == id)) ≡ true = found (λ e. (e.client == 0) && (e.id == id)) book.image_ids x (sym own ∙ at) in
        ap (λ (f : Freed). image_id f.book 0 0) (sym same)
        ∙ ap (λ (ids : List ImageId). find (λ e. (e.client == 0) && (e.id == 0)) ids)
        (settled_part (λ b. b.image_ids) image_ids_stay (steps_for (without_image_id book x.client x.id) (Image x.image ∷ [])) (record (nothing_freed book) { book = without_image_id book x.client x.id }) (Image x.image ∷ []))
        ∙ find_filter _ _ book.image_ids (λ e at. not_display 0 id x e other is at)

-- ---- the root rio's screen

-- another screen id of the manager's is not that of the root rio
not_root : (id : ℕ) (x e : ScreenId) → (id == 0) ≡ false → ((x.client == 0) && (x.id == id)) ≡ true → ((e.client == 0) && (e.id == 0)) ≡ true → not (is_screen_id x.client x.id e) ≡ true
not_root id x e other is at = grind (arith, nat_tests)

pub free_screen-root : (book : Book) (id : ℕ) (freed : Freed) → (id == 0) ≡ false → free_screen book 0 id ≡ Ok freed → screen_id freed.book 0 0 ≡ screen_id book 0 0
unfolding free_screen
free_screen-root book id freed other e = by (screen_id book 0 id) refl e
  where
    by : (o : Option ScreenId) → screen_id book 0 id ≡ o → (value_or_refuse o 5 >>= λ e. Ok (freed_screen_id (nothing_freed book) e)) ≡ Ok freed → screen_id freed.book 0 0 ≡ screen_id book 0 0
    by None at e = absurd cc
    by (Some x) at e =
        let same : freed_screen_id (nothing_freed book) x ≡ freed = cc in
        let is : ((x.client == 0) && (x.id == id)) ≡ true = found (λ e. (e.client == 0) && (e.id == id)) book.screen_ids x at in
        ap (λ (f : Freed). screen_id f.book 0 0) (sym same)
        ∙ ap (λ (ids : List ScreenId). find (λ e. (e.client == 0) && (e.id == 0)) ids)
        (settled_part (λ b. b.screen_ids) screen_ids_stay (steps_for (without_screen_id book x.client x.id) (Screen x.screen ∷ [])) (record (nothing_freed book) { book = without_screen_id book x.client x.id }) (Screen x.screen ∷ []))
        ∙ find_filter _ _ book.screen_ids (λ e at. not_root id x e other is at)

-- ---- the id that was freed

find_none : (p q : ImageId → Bool) (xs : List ImageId) → ((x : ImageId) → p x ≡ true → q x ≡ false) → find p (filter q xs) ≡ None
find_none p q [] h = refl
find_none p q (x ∷ xs) h = by (find_none p q xs h) (q x) refl (p x) refl
  where
    by : find p (filter q xs) ≡ None → (a : Bool) → q x ≡ a → (b : Bool) → p x ≡ b → find p (cond a (x ∷ filter q xs) (filter q xs)) ≡ None
    by more true passes true is = absurd (let none = h x is in cc)
    by more true passes false is = ap (λ b. cond b (Some x) (find p (filter q xs))) is ∙ more
    by more false fails b is = more

freed_is : (id : ℕ) (x e : ImageId) → ((x.client == 0) && (x.id == id)) ≡ true → ((e.client == 0) && (e.id == id)) ≡ true → not (is_image_id x.client x.id e) ≡ false
freed_is id x e is at = grind (arith, nat_tests)

-- is free again
pub free_id-unknown : (book : Book) (id : ℕ) (freed : Freed) → (id == 0) ≡ false → free_id book 0 id ≡ Ok freed → find (λ e. (e.client == 0) && (e.id == id)) freed.book.image_ids ≡ None
unfolding free_id
free_id-unknown book id freed other e = by (own_image_id book 0 id) refl e
  where
    own : own_image_id book 0 id ≡ find (λ e. (e.client == 0) && (e.id == id)) book.image_ids
    own = ap (λ (b : Bool). if b && not (0 == 0) then None else find (λ e. (e.client == (if b then 0 else 0)) && (e.id == id)) book.image_ids) other

    by : (o : Option ImageId) → own_image_id book 0 id ≡ o → (value_or_refuse o 4 >>= λ e. Ok (with_ties_ended (is_tied_by 0 id) (freed_image_id (nothing_freed book) e))) ≡ Ok freed
        → find (λ e. (e.client == 0) && (e.id == id)) freed.book.image_ids ≡ None
    by None at e = absurd cc
    by (Some x) at e =
        let same : with_ties_ended (is_tied_by 0 id) (freed_image_id (nothing_freed book) x) ≡ freed = cc in
        let is : ((x.client == 0) && (x.id == id)) ≡ true = found (λ e. (e.client == 0) && (e.id == id)) book.image_ids x (sym own ∙ at) in
        ap (λ (f : Freed). find (λ e. (e.client == 0) && (e.id == id)) f.book.image_ids) (sym same)
        ∙ ap (λ (ids : List ImageId). find (λ e. (e.client == 0) && (e.id == id)) ids)
        (settled_part (λ b. b.image_ids) image_ids_stay (steps_for (without_image_id book x.client x.id) (Image x.image ∷ [])) (record (nothing_freed book) { book = without_image_id book x.client x.id }) (Image x.image ∷ []))
        ∙ find_none _ _ book.image_ids (λ e at. freed_is id x e is at)
