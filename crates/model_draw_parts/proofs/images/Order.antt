-- A thing goes after all that refer to it, and the windows and the screens that have not gone stay.
use Rattle.std.proofs.Common.{◌≡◌, ℕ, zero, suc, Bool, true, false, cond, List, [], ◌∷◌, ◌++◌, Option, Some, None, Ok, ◌⊎◌, inl, inr, refl, sym, ap, subst, ◌∙◌}
use Rattle.std.specs.Prelude.{◌==◌, ◌||◌, ◌&&◌, not, filter, slice_index_or, slice_set, if◌then◌else◌}
use Rattle.std.specs.List.{list_any, fold}
use Rattle.std.proofs.lemmas.Bool.{and_parts, both_ways, cases_Bool, eqb-true, or_cases, or_parts, or_right}
use Rattle.std.proofs.Math.Bool.{or-false, or-true}
use Rattle.model_text.specs.text.Outcome.{value_or_refuse, ◌>>=◌}
use Rattle.model_draw_parts.specs.declared.images.ImageId.{ImageId}
use Rattle.model_draw_parts.specs.declared.images.ScreenId.{ScreenId}
use Rattle.model_draw_parts.specs.declared.images.OnScreen.{OnScreen}
use Rattle.model_draw_parts.specs.declared.images.Screen.{Screen as Filled}
use Rattle.model_draw_parts.specs.declared.images.Thing.{Thing}
use Rattle.model_draw_parts.specs.declared.images.Thing.TheVariants.{Image, Screen}
use Rattle.model_draw_parts.specs.images.Book.{Book, screen_id, screen_numbered}
use Rattle.model_draw_parts.specs.images.Release.{Freed, IsInOrder, KeepsRest, free_id, free_screen, freed_image_id, freed_screen_id, has_gone, is_tied_by, is_used, leave, nothing_freed, own_image_id, references, refers, refers_to, same_thing, settled, steps_for, with_gone, with_ties_ended, without, without_image_id, without_screen_id}
use Rattle.model_draw_parts.proofs.images.Freed.{any-at, other_screen, gone_more, same-is}

-- ---- lists

filter-same : {X : Type 0} (q r : X → Bool) (xs : List X) → ((x : X) → q x ≡ r x) → filter q xs ≡ filter r xs
filter-same q r [] h = refl
filter-same q r (x ∷ xs) h = rw (h x) (ap (λ ys. cond (r x) (x ∷ ys) ys) (filter-same q r xs h))

filter-twice : {X : Type 0} (p q : X → Bool) (xs : List X) → filter p (filter q xs) ≡ filter (λ x. q x && p x) xs
filter-twice p q [] = refl
filter-twice {X = X} p q (x ∷ xs) = by (filter-twice p q xs) (q x)
  where
    by : filter p (filter q xs) ≡ filter (λ x. q x && p x) xs → (b : Bool) → filter p (cond b (x ∷ filter q xs) (filter q xs)) ≡ cond (b && p x) (x ∷ filter (λ x. q x && p x) xs) (filter (λ x. q x && p x) xs)
    by more true = ap (λ ys. cond (p x) (x ∷ ys) ys) more
    by more false = more

-- what passes one test passes a second, by which it is kept, and a third
any-kept : {X : Type 0} (p q r : X → Bool) (xs : List X) → ((x : X) → p x ≡ true → q x ≡ true) → ((x : X) → p x ≡ true → r x ≡ true) → list_any p xs ≡ true → list_any r (filter q xs) ≡ true
any-kept p q r [] kept passes h = h
any-kept {X = X} p q r (x ∷ xs) kept passes h = by (any-kept p q r xs kept passes) (q x) refl (or_cases (p x) _ h)
  where
    by : (list_any p xs ≡ true → list_any r (filter q xs) ≡ true) → (b : Bool) → q x ≡ b → (p x ≡ true) ⊎ (list_any p xs ≡ true) → list_any r (cond b (x ∷ filter q xs) (filter q xs)) ≡ true
    by more true e (inl here) = rw (passes x here) refl
    by more true e (inr there) = or_right (r x) _ (more there)
    by more false e (inl here) = absurd (both_ways (q x) e (kept x here))
    by more false e (inr there) = more there

neither : (a b : Bool) → (not a && not b) ≡ not (a || b)
neither true b = refl
neither false b = refl

-- ---- the windows and the screens that have not gone

gone_screen : (book : Book) (s : ℕ) → screen_numbered (without book (Screen s)) s ≡ None
gone_screen book s = at book.screens s
  where
    at : (xs : List (Option Filled)) (s : ℕ) → slice_index_or (slice_set xs s None) s None ≡ None
    at [] s = refl
    at (x ∷ xs) zero = refl
    at (x ∷ xs) (suc s) = at xs s

windows_stay : (book : Book) (freed : Freed) (thing : Thing) → KeepsRest book freed → (without freed.book thing).windows ≡ filter (λ w. not (has_gone (with_gone freed thing) (Image w.image))) book.windows
windows_stay book freed (Image i) k =
    ap (λ (ws : List OnScreen). filter (λ w. not (w.image == i)) ws) k.windows
    ∙ filter-twice (λ (w : OnScreen). not (w.image == i)) (λ w. not (has_gone freed (Image w.image))) book.windows
    ∙ filter-same _ _ book.windows (λ w. neither (has_gone freed (Image w.image)) (w.image == i) ∙ ap not (sym (gone_more freed (Image i) (Image w.image))))
windows_stay book freed (Screen s) k =
    k.windows ∙ filter-same _ _ book.windows (λ w. ap not (sym (gone_more freed (Screen s) (Image w.image) ∙ or-false (has_gone freed (Image w.image)))))

screens_stay : (book : Book) (freed : Freed) (thing : Thing) → KeepsRest book freed → (s : ℕ) → screen_numbered (without freed.book thing) s ≡ (if has_gone (with_gone freed thing) (Screen s) then None else screen_numbered book s)
screens_stay book freed thing k s = rw (gone_more freed thing (Screen s)) (elim (cases_Bool (same_thing (Screen s) thing)) [
  | inl now ↦ let P : Thing → Type 0 = λ t. screen_numbered (without freed.book t) s ≡ None in rw now (rw (or-true (has_gone freed (Screen s))) (subst P (same-is (Screen s) thing now) (gone_screen freed.book s)))
  | inr apart ↦ rw apart (rw (or-false (has_gone freed (Screen s))) (other_screen freed.book thing s apart ∙ k.screens s))
])

-- ---- the order

-- what would be so without it holds, where that is not so
else_true : (a b : Bool) → (a ≡ false → b ≡ true) → b ≡ false → a ≡ true
else_true true b h k = refl
else_true false b h k = absurd (both_ways b k (h refl))

-- a window that has not gone refers to its screen
window_refers : (book : Book) (freed : Freed) (w s : ℕ) → KeepsRest book freed → refers book (Image w) (Screen s) ≡ true → has_gone freed (Image w) ≡ false → list_any (λ e. e.screen == s) freed.book.windows ≡ true
window_refers book freed w s k h stays =
    let stay : (e : OnScreen) → ((e.image == w) && (e.screen == s)) ≡ true → not (has_gone freed (Image e.image)) ≡ true = λ e at.
    ap (λ i. not (has_gone freed (Image i))) (eqb-true e.image w ((and_parts (e.image == w) _ at).0)) ∙ ap not stays in
    ap (λ (ws : List OnScreen). list_any (λ e. e.screen == s) ws) k.windows
    ∙ any-kept _ _ _ book.windows stay (λ e at. (and_parts (e.image == w) _ at).1) h

-- a screen that has not gone refers to its image and to its fill
screen_refers : (book : Book) (freed : Freed) (s i : ℕ) → KeepsRest book freed → refers book (Screen s) (Image i) ≡ true → has_gone freed (Screen s) ≡ false → list_any (refers_to i) freed.book.screens ≡ true
screen_refers book freed s i k h stays =
    let same : screen_numbered freed.book s ≡ screen_numbered book s = k.screens s ∙ ap (λ b. if b then None else screen_numbered book s) stays in
    any-at (refers_to i) freed.book.screens s None refl (ap (refers_to i) same ∙ h)

-- what referred to a thing has gone, where nothing refers to it any more
referring_gone : (book : Book) (freed : Freed) (thing other : Thing) → KeepsRest book freed → is_used freed.book thing ≡ false → refers book other thing ≡ true → has_gone freed other ≡ true
referring_gone book freed (Image i) (Image j) k unused h = absurd cc
referring_gone book freed (Screen s) (Screen t) k unused h = absurd cc
referring_gone book freed (Screen s) (Image w) k unused h =
    else_true _ _ (window_refers book freed w s k h) ((or_parts (list_any (λ e. e.screen == s) freed.book.screen_ids) _ unused).1)
referring_gone book freed (Image i) (Screen s) k unused h =
    else_true _ _ (screen_refers book freed s i k h) ((or_parts (list_any (λ e. e.image == i) freed.book.image_ids) _ unused).1)

order-append : (book : Book) (before things : List Thing) (thing : Thing) → IsInOrder book before things
    → ((other : Thing) → refers book other thing ≡ true → (list_any (same_thing other) before || list_any (same_thing other) things) ≡ true) → IsInOrder book before (things ++ thing ∷ [])
order-append book before [] thing g h = (λ other r. sym (or-false (list_any (same_thing other) before)) ∙ h other r, tt)
order-append book before (t ∷ ts) thing g h = (g.0, order-append book (t ∷ before) ts thing g.1 (λ other r. moved (list_any (same_thing other) before) (same_thing other t) _ ∙ h other r))
  where
    moved : (a b c : Bool) → ((b || a) || c) ≡ (a || (b || c))
    moved true true c = refl
    moved true false c = refl
    moved false true c = refl
    moved false false c = refl

-- ---- a release

-- what is kept while a release goes on
record Stays (book : Book) (freed : Freed) : Type 0 where
  rest : KeepsRest book freed
  order : IsInOrder book [] freed.gone

stays-on : (book : Book) (freed : Freed) (thing : Thing) → Stays book freed → is_used freed.book thing ≡ false → Stays book (with_gone freed thing)
stays-on book freed thing g unused = record {
  rest = record { windows = windows_stay book freed thing g.rest; screens = screens_stay book freed thing g.rest };
  order = order-append book [] freed.gone thing g.order (λ other r. referring_gone book freed thing other g.rest unused r);
}

settled_stays : (steps : ℕ) (book : Book) (freed : Freed) (things : List Thing) → Stays book freed → Stays book (settled steps freed things)
settled_stays zero book freed things g = g
settled_stays (suc steps) book freed [] g = g
settled_stays (suc steps) book freed (t ∷ ts) g = by (settled_stays steps book) (is_used freed.book t || has_gone freed t) refl
  where
    by : ((next : Freed) (things : List Thing) → Stays book next → Stays book (settled steps next things)) → (b : Bool) → (is_used freed.book t || has_gone freed t) ≡ b
        → Stays book (elim b [ true ↦ settled steps freed ts | false ↦ settled steps (with_gone freed t) (references freed.book t ++ ts) ])
    by more true e = more freed ts g
    by more false e = more (with_gone freed t) _ (stays-on book freed t g ((or_parts (is_used freed.book t) _ e).0))

-- ---- freeing

-- the ids and the ties may change
abbrev HasSameRest : Book → Book → Type 0
HasSameRest before after = (after.windows ≡ before.windows) × (after.screens ≡ before.screens)

stays : (book : Book) (freed : Freed) (after : Book) → Stays book freed → HasSameRest freed.book after → Stays book (record freed { book = after })
stays book freed after g same = record {
  rest = record {
    windows = same.0 ∙ g.rest.windows;
    screens = λ s. ap (λ (xs : List (Option Filled)). slice_index_or xs s None) same.1 ∙ g.rest.screens s;
  };
  order = g.order;
}

freed_image_id_stays : (book : Book) (freed : Freed) (e : ImageId) → Stays book freed → Stays book (freed_image_id freed e)
freed_image_id_stays book freed e g =
    let after : Book = without_image_id freed.book e.client e.id in
    settled_stays (steps_for after (Image e.image ∷ [])) book _ (Image e.image ∷ []) (stays book freed after g (refl, refl))

freed_screen_id_stays : (book : Book) (freed : Freed) (e : ScreenId) → Stays book freed → Stays book (freed_screen_id freed e)
freed_screen_id_stays book freed e g =
    let after : Book = without_screen_id freed.book e.client e.id in
    settled_stays (steps_for after (Screen e.screen ∷ [])) book _ (Screen e.screen ∷ []) (stays book freed after g (refl, refl))

begins : (book : Book) → Stays book (nothing_freed book)
begins book = record { rest = record { windows = sym (all book.windows); screens = λ s. refl }; order = tt }
  where
    all : (ws : List OnScreen) → filter (λ _. true) ws ≡ ws
    all [] = refl
    all (w ∷ ws) = ap (λ vs. w ∷ vs) (all ws)

free_id_stays : (book : Book) (client id : ℕ) (freed : Freed) → free_id book client id ≡ Ok freed → Stays book freed
unfolding free_id
free_id_stays book client id freed e = by (own_image_id book client id) e
  where
    by : (o : Option ImageId)
        → (value_or_refuse o 4 >>= λ e. Ok (with_ties_ended (is_tied_by client id) (freed_image_id (nothing_freed book) e))) ≡ Ok freed → Stays book freed
    by None e = absurd cc
    by (Some x) e =
        let same : with_ties_ended (is_tied_by client id) (freed_image_id (nothing_freed book) x) ≡ freed = cc in
        subst (Stays book) same (stays book _ _ (freed_image_id_stays book _ x (begins book)) (refl, refl))

free_screen_stays : (book : Book) (client id : ℕ) (freed : Freed) → free_screen book client id ≡ Ok freed → Stays book freed
unfolding free_screen
free_screen_stays book client id freed e = by (screen_id book client id) e
  where
    by : (o : Option ScreenId) → (value_or_refuse o 5 >>= λ e. Ok (freed_screen_id (nothing_freed book) e)) ≡ Ok freed → Stays book freed
    by None e = absurd cc
    by (Some x) e =
        let same : freed_screen_id (nothing_freed book) x ≡ freed = cc in
        subst (Stays book) same (freed_screen_id_stays book _ x (begins book))

images_stay : (book : Book) (es : List ImageId) (freed : Freed) → Stays book freed → Stays book (fold freed_image_id freed es)
images_stay book [] freed g = g
images_stay book (e ∷ es) freed g = images_stay book es _ (freed_image_id_stays book freed e g)

screen_ids_stay : (book : Book) (es : List ScreenId) (freed : Freed) → Stays book freed → Stays book (fold freed_screen_id freed es)
screen_ids_stay book [] freed g = g
screen_ids_stay book (e ∷ es) freed g = screen_ids_stay book es _ (freed_screen_id_stays book freed e g)

leave_stays : (book : Book) (client : ℕ) → Stays book (leave book client)
unfolding leave
leave_stays book client =
    stays book _ _
    (screen_ids_stay book (filter (λ e. e.client == client) book.screen_ids) _
    (images_stay book (filter (λ e. e.client == client) book.image_ids) _ (begins book)))
    (refl, refl)

pub free_id-order : (book : Book) (client id : ℕ) (freed : Freed) → free_id book client id ≡ Ok freed → IsInOrder book [] freed.gone
free_id-order book client id freed e = let g : Stays book freed = free_id_stays book client id freed e in g.order

pub free_id-rest : (book : Book) (client id : ℕ) (freed : Freed) → free_id book client id ≡ Ok freed → KeepsRest book freed
free_id-rest book client id freed e = let g : Stays book freed = free_id_stays book client id freed e in g.rest

pub free_screen-order : (book : Book) (client id : ℕ) (freed : Freed) → free_screen book client id ≡ Ok freed → IsInOrder book [] freed.gone
free_screen-order book client id freed e = let g : Stays book freed = free_screen_stays book client id freed e in g.order

pub free_screen-rest : (book : Book) (client id : ℕ) (freed : Freed) → free_screen book client id ≡ Ok freed → KeepsRest book freed
free_screen-rest book client id freed e = let g : Stays book freed = free_screen_stays book client id freed e in g.rest

pub leave-order : (book : Book) (client : ℕ) → IsInOrder book [] (leave book client).gone
leave-order book client = let g : Stays book (leave book client) = leave_stays book client in g.order

pub leave-rest : (book : Book) (client : ℕ) → KeepsRest book (leave book client)
leave-rest book client = let g : Stays book (leave book client) = leave_stays book client in g.rest
