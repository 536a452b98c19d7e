-- What goes was used, is used no longer, and goes once; the image ids of other connections stay.
use Rattle.std.proofs.Common.{◌≡◌, ℕ, zero, suc, Bool, true, false, cond, List, [], ◌∷◌, ◌++◌, Option, Some, None, Ok, ◌⊎◌, inl, inr, refl, sym, ap, subst, ◌∙◌, arith}
use Rattle.std.specs.Prelude.{◌==◌, ◌||◌, ◌&&◌, not, filter, find, is_some, option_map, slice_index_or, slice_set, if◌then◌else◌}
use Rattle.std.specs.Option.{option_map_or}
use Rattle.std.specs.List.{list_any, fold}
use Rattle.std.proofs.lemmas.Bool.{eqb-true}
use Rattle.std.proofs.lemmas.Bool.Decides.{nat_tests}
use Rattle.model_text.specs.text.Outcome.{value_or_refuse, ◌>>=◌}
use Rattle.model_draw_parts.specs.declared.images.ImageId.{ImageId}
use Rattle.model_draw_parts.specs.declared.images.ScreenId.{ScreenId}
use Rattle.model_draw_parts.specs.declared.images.OnScreen.{OnScreen}
use Rattle.model_draw_parts.specs.declared.images.Screen.{Screen as Filled}
use Rattle.model_draw_parts.specs.declared.images.Tie.{Tie}
use Rattle.model_draw_parts.specs.declared.images.Thing.{Thing}
use Rattle.model_draw_parts.specs.declared.images.Thing.TheVariants.{Image, Screen}
use Rattle.model_draw_parts.specs.images.Book.{Book, owner, image_id, screen_id, screen_numbered}
use Rattle.model_draw_parts.specs.images.Release.{Freed, HasScreens, IsFreed, IsOnce, KeepsOthers, free_id, free_screen, freed_image_id, freed_screen_id, has_gone, is_used, leave, nothing_freed, own_image_id, references, refers_to, same_thing, settled, steps_for, with_gone, with_ties_ended, without, without_image_id, without_screen_id, is_image_id, is_tied_by}

-- ---- tests

true_or_false : (b : Bool) → (b ≡ true) ⊎ (b ≡ false)
true_or_false true = inl refl
true_or_false false = inr refl

either_true : (a b : Bool) → (a || b) ≡ true → (a ≡ true) ⊎ (b ≡ true)
either_true true b h = inl refl
either_true false b h = inr h

first_true : (a b : Bool) → a ≡ true → (a || b) ≡ true
first_true true b h = refl
first_true false b h = absurd cc

second_true : (a b : Bool) → b ≡ true → (a || b) ≡ true
second_true true b h = refl
second_true false b h = h

first_false : (a b : Bool) → (a || b) ≡ false → a ≡ false
first_false true b h = absurd cc
first_false false b h = refl

second_false : (a b : Bool) → (a || b) ≡ false → b ≡ false
second_false true b h = absurd cc
second_false false b h = h

both_false : (a b : Bool) → a ≡ false → b ≡ false → (a || b) ≡ false
both_false true b h k = absurd cc
both_false false b h k = k

not_both : (b : Bool) → b ≡ true → b ≡ false → ⊥
not_both true h k = cc
not_both false h k = cc

-- what does not hold of more does not hold of less
less_false : (a b : Bool) → (a ≡ true → b ≡ true) → b ≡ false → a ≡ false
less_false true b h k = absurd (not_both b (h refl) k)
less_false false b h k = refl

-- ---- lists

any-filter : {X : Type 0} (p q : X → Bool) (xs : List X) → list_any p (filter q xs) ≡ true → list_any p xs ≡ true
any-filter p q [] h = h
any-filter {X = X} p q (x ∷ xs) h = by (any-filter p q xs) (q x) h
  where
    by : (list_any p (filter q xs) ≡ true → list_any p xs ≡ true) → (b : Bool) → list_any p (cond b (x ∷ filter q xs) (filter q xs)) ≡ true → list_any p (x ∷ xs) ≡ true
    by more true k = elim (either_true (p x) _ k) [
      | inl here ↦ first_true (p x) _ here
      | inr there ↦ second_true (p x) _ (more there)
    ]
    by more false k = second_true (p x) _ (more k)

any-set : {X : Type 0} (p : X → Bool) (y : X) (xs : List X) (n : ℕ) → p y ≡ false → list_any p (slice_set xs n y) ≡ true → list_any p xs ≡ true
any-set p y [] n none h = h
any-set p y (x ∷ xs) zero none h = elim (either_true (p y) _ h) [
  | inl here ↦ absurd (not_both (p y) here none)
  | inr there ↦ second_true (p x) _ there
]
any-set p y (x ∷ xs) (suc n) none h = elim (either_true (p x) _ h) [
  | inl here ↦ first_true (p x) _ here
  | inr there ↦ second_true (p x) _ (any-set p y xs n none there)
]

pub any-at : {X : Type 0} (p : X → Bool) (xs : List X) (n : ℕ) (d : X) → p d ≡ false → p (slice_index_or xs n d) ≡ true → list_any p xs ≡ true
any-at p [] n d none h = absurd (not_both (p d) h none)
any-at p (x ∷ xs) zero d none h = first_true (p x) _ h
any-at p (x ∷ xs) (suc n) d none h = second_true (p x) _ (any-at p xs n d none h)

any-append : {X : Type 0} (p : X → Bool) (xs : List X) (y : X) → list_any p (xs ++ y ∷ []) ≡ (list_any p xs || p y)
any-append p [] y = by (p y)
  where
    by : (b : Bool) → (b || false) ≡ (false || b)
    by true = refl
    by false = refl
any-append p (x ∷ xs) y = ap (λ b. p x || b) (any-append p xs y) ∙ by (p x) (list_any p xs) (p y)
  where
    by : (a b c : Bool) → (a || (b || c)) ≡ ((a || b) || c)
    by true b c = refl
    by false b c = refl

find-any : {X : Type 0} (p q : X → Bool) (xs : List X) (x : X) → find p xs ≡ Some x → q x ≡ true → list_any q xs ≡ true
find-any p q [] x h k = absurd cc
find-any {X = X} p q (y ∷ ys) x h k = by (λ e. find-any p q ys x e k) (p y) h
  where
    by : (find p ys ≡ Some x → list_any q ys ≡ true) → (b : Bool) → cond b (Some y) (find p ys) ≡ Some x → list_any q (y ∷ ys) ≡ true
    by more true e = let same : y ≡ x = cc in first_true (q y) _ (ap q same ∙ k)
    by more false e = second_true (q y) _ (more e)

find-filter : {X : Type 0} (p q : X → Bool) (xs : List X) → ((x : X) → p x ≡ true → q x ≡ true) → find p (filter q xs) ≡ find p xs
find-filter p q [] h = refl
find-filter {X = X} p q (x ∷ xs) h = by (find-filter p q xs h) (q x) refl (p x) refl
  where
    by : find p (filter q xs) ≡ find p xs → (b : Bool) → q x ≡ b → (a : Bool) → p x ≡ a → find p (cond b (x ∷ filter q xs) (filter q xs)) ≡ cond a (Some x) (find p xs)
    by more true e true d = rw d refl
    by more true e false d = rw d more
    by more false e true d = absurd (not_both (q x) (h x d) e)
    by more false e false d = more

-- ---- things

pub same-is : (t u : Thing) → same_thing t u ≡ true → t ≡ u
same-is (Image i) (Image j) h = ap Image (eqb-true i j h)
same-is (Screen i) (Screen j) h = ap Screen (eqb-true i j h)
same-is (Image i) (Screen j) h = absurd cc
same-is (Screen i) (Image j) h = absurd cc

eqb_comm : (i j : ℕ) → (i == j) ≡ (j == i)
eqb_comm i j = grind (arith, nat_tests)

same_comm : (t u : Thing) → same_thing t u ≡ same_thing u t
same_comm (Image i) (Image j) = eqb_comm i j
same_comm (Screen i) (Screen j) = eqb_comm i j
same_comm (Image i) (Screen j) = refl
same_comm (Screen i) (Image j) = refl

once-append : (ts : List Thing) (t : Thing) → IsOnce ts → list_any (same_thing t) ts ≡ false → IsOnce (ts ++ t ∷ [])
once-append [] t h none = (refl, tt)
once-append (u ∷ us) t h none = (
  any-append (same_thing u) us t ∙ both_false _ _ h.0 (same_comm u t ∙ first_false (same_thing t u) _ none),
  once-append us t h.1 (second_false (same_thing t u) _ none),
)

-- nothing refers to more once a thing has gone
without-used : (book : Book) (thing t : Thing) → is_used (without book thing) t ≡ true → is_used book t ≡ true
without-used book (Image i) (Image j) h = h
without-used book (Image i) (Screen s) h = elim (either_true (list_any (λ e. e.screen == s) book.screen_ids) _ h) [
  | inl here ↦ first_true _ _ here
  | inr there ↦ second_true (list_any (λ e. e.screen == s) book.screen_ids) _ (any-filter _ _ book.windows there)
]
without-used book (Screen s) (Image j) h = elim (either_true (list_any (λ e. e.image == j) book.image_ids) _ h) [
  | inl here ↦ first_true _ _ here
  | inr there ↦ second_true (list_any (λ e. e.image == j) book.image_ids) _ (any-set (refers_to j) None book.screens s refl there)
]
without-used book (Screen s) (Screen t) h = h

-- ---- a release

-- a list of things, each of which was used
abbrev AllUsed : Book → List Thing → Type 0
AllUsed book [] = Unit {0}
AllUsed book (t ∷ ts) = (is_used book t ≡ true) × AllUsed book ts

all_used-append : (book : Book) (ts us : List Thing) → AllUsed book ts → AllUsed book us → AllUsed book (ts ++ us)
all_used-append book [] us h k = k
all_used-append book (t ∷ ts) us h k = (h.0, all_used-append book ts us h.1 k)

-- what is kept while a release goes on
record Goes (book : Book) (freed : Freed) : Type 0 where
  used : (t : Thing) → is_used freed.book t ≡ true → is_used book t ≡ true
  gone_used : (t : Thing) → has_gone freed t ≡ true → is_used book t ≡ true
  gone_unused : (t : Thing) → has_gone freed t ≡ true → is_used freed.book t ≡ false
  once : IsOnce freed.gone
  -- a screen that was used is there until it goes
  there : (s : ℕ) → is_used book (Screen s) ≡ true → has_gone freed (Screen s) ≡ false → is_some (screen_numbered freed.book s) ≡ true

-- a reference goes, and no screen
record Loses (before after : Book) : Type 0 where
  used : (t : Thing) → is_used after t ≡ true → is_used before t ≡ true
  screens : after.screens ≡ before.screens

loses : (book : Book) (freed : Freed) (after : Book) → Goes book freed → Loses freed.book after → Goes book (record freed { book = after })
loses book freed after g l = record {
  used = λ t h. g.used t (l.used t h);
  gone_used = g.gone_used;
  gone_unused = λ t h. less_false _ _ (l.used t) (g.gone_unused t h);
  once = g.once;
  there = λ s h k. ap (λ (xs : List (Option Filled)). is_some (slice_index_or xs s None)) l.screens ∙ g.there s h k;
}

pub other_screen : (book : Book) (thing : Thing) (s : ℕ) → same_thing (Screen s) thing ≡ false → screen_numbered (without book thing) s ≡ screen_numbered book s
other_screen book (Image i) s h = refl
other_screen book (Screen t) s h = kept book.screens t s h
  where
    kept : (xs : List (Option Filled)) (t s : ℕ) → (s == t) ≡ false → slice_index_or (slice_set xs t None) s None ≡ slice_index_or xs s None
    kept [] t s h = refl
    kept (x ∷ xs) zero zero h = absurd cc
    kept (x ∷ xs) zero (suc s) h = refl
    kept (x ∷ xs) (suc t) zero h = refl
    kept (x ∷ xs) (suc t) (suc s) h = kept xs t s (grind (arith, nat_tests))

pub gone_more : (freed : Freed) (thing t : Thing) → has_gone (with_gone freed thing) t ≡ (has_gone freed t || same_thing t thing)
gone_more freed thing t = any-append (same_thing t) freed.gone thing

goes-on : (book : Book) (freed : Freed) (thing : Thing) → Goes book freed → is_used book thing ≡ true → is_used freed.book thing ≡ false → has_gone freed thing ≡ false → Goes book (with_gone freed thing)
goes-on book freed thing g was is new = record {
  used = λ t h. g.used t (without-used freed.book thing t h);
  gone_used = λ t h. elim (either_true (has_gone freed t) _ (sym (gone_more freed thing t) ∙ h)) [
    | inl before ↦ g.gone_used t before
    | inr now ↦ let P : Thing → Type 0 = λ u. is_used book u ≡ true in subst P (sym (same-is t thing now)) was
  ];
  gone_unused = λ t h. less_false _ _ (without-used freed.book thing t) (elim (either_true (has_gone freed t) _ (sym (gone_more freed thing t) ∙ h)) [
    | inl before ↦ g.gone_unused t before
    | inr now ↦ let P : Thing → Type 0 = λ u. is_used freed.book u ≡ false in subst P (sym (same-is t thing now)) is
  ]);
  once = once-append freed.gone thing g.once new;
  there = λ s h k.
      let apart = sym (gone_more freed thing (Screen s)) ∙ k in
      ap is_some (other_screen freed.book thing s (second_false (has_gone freed (Screen s)) _ apart)) ∙ g.there s h (first_false (has_gone freed (Screen s)) _ apart);
}

-- what a thing refers to was used, where it was itself and has not gone
references_used : (book : Book) (freed : Freed) (thing : Thing) → Goes book freed → is_used book thing ≡ true → has_gone freed thing ≡ false → AllUsed book (references freed.book thing)
references_used book freed (Image i) g was new = by (find (λ w. w.image == i) freed.book.windows) refl
  where
    by : (o : Option OnScreen) → find (λ w. w.image == i) freed.book.windows ≡ o → AllUsed book (option_map_or (λ s. Screen s ∷ []) (option_map (λ w. w.screen) o) [])
    by None e = tt
    by (Some w) e =
        (g.used (Screen w.screen) (second_true (list_any (λ e. e.screen == w.screen) freed.book.screen_ids) _ (find-any _ (λ v. v.screen == w.screen) freed.book.windows w e (grind (arith, nat_tests)))), tt)
references_used book freed (Screen s) g was new = by (screen_numbered freed.book s) refl (g.there s was new)
  where
    by : (o : Option Filled) → screen_numbered freed.book s ≡ o → is_some o ≡ true → AllUsed book (Image (option_map_or (λ (e : Filled). e.image) o 0) ∷ Image (option_map_or (λ (e : Filled). e.fill) o 0) ∷ [])
    by None e h = absurd cc
    by (Some x) e h = (
      g.used (Image x.image) (second_true (list_any (λ e. e.image == x.image) freed.book.image_ids) _ (any-at (refers_to x.image) freed.book.screens s None refl (ap (refers_to x.image) e ∙ first_true (x.image == x.image) _ (grind (arith, nat_tests))))),
      (g.used (Image x.fill) (second_true (list_any (λ e. e.image == x.fill) freed.book.image_ids) _ (any-at (refers_to x.fill) freed.book.screens s None refl (ap (refers_to x.fill) e ∙ second_true (x.image == x.fill) _ (grind (arith, nat_tests))))), tt),
    )

settled_goes : (steps : ℕ) (book : Book) (freed : Freed) (things : List Thing) → Goes book freed → AllUsed book things → Goes book (settled steps freed things)
settled_goes zero book freed things g h = g
settled_goes (suc steps) book freed [] g h = g
settled_goes (suc steps) book freed (t ∷ ts) g h = by (settled_goes steps book) (is_used freed.book t || has_gone freed t) refl
  where
    by : ((next : Freed) (things : List Thing) → Goes book next → AllUsed book things → Goes book (settled steps next things)) → (b : Bool) → (is_used freed.book t || has_gone freed t) ≡ b
        → Goes book (elim b [ true ↦ settled steps freed ts | false ↦ settled steps (with_gone freed t) (references freed.book t ++ ts) ])
    by more true e = more freed ts g h.1
    by more false e =
        let unused = first_false (is_used freed.book t) _ e in
        let new = second_false (is_used freed.book t) _ e in
        more (with_gone freed t) (references freed.book t ++ ts) (goes-on book freed t g h.0 unused new)
        (all_used-append book _ ts (references_used book freed t g h.0 new) h.1)

-- ---- freeing

without_image_id_loses : (book : Book) (client id : ℕ) → Loses book (without_image_id book client id)
without_image_id_loses book client id = record { used = used; screens = refl }
  where
    used : (t : Thing) → is_used (without_image_id book client id) t ≡ true → is_used book t ≡ true
    used (Image i) h = elim (either_true (list_any (λ e. e.image == i) (without_image_id book client id).image_ids) _ h) [
      | inl here ↦ first_true _ _ (any-filter _ _ book.image_ids here)
      | inr there ↦ second_true (list_any (λ e. e.image == i) book.image_ids) _ there
    ]
    used (Screen s) h = h

without_screen_id_loses : (book : Book) (client id : ℕ) → Loses book (without_screen_id book client id)
without_screen_id_loses book client id = record { used = used; screens = refl }
  where
    used : (t : Thing) → is_used (without_screen_id book client id) t ≡ true → is_used book t ≡ true
    used (Image i) h = h
    used (Screen s) h = elim (either_true (list_any (λ e. e.screen == s) (without_screen_id book client id).screen_ids) _ h) [
      | inl here ↦ first_true _ _ (any-filter _ _ book.screen_ids here)
      | inr there ↦ second_true (list_any (λ e. e.screen == s) book.screen_ids) _ there
    ]

freed_image_id_goes : (book : Book) (freed : Freed) (e : ImageId) → Goes book freed → is_used book (Image e.image) ≡ true → Goes book (freed_image_id freed e)
freed_image_id_goes book freed e g was =
    settled_goes _ book _ (Image e.image ∷ []) (loses book freed _ g (without_image_id_loses freed.book e.client e.id)) (was, tt)

freed_screen_id_goes : (book : Book) (freed : Freed) (e : ScreenId) → Goes book freed → is_used book (Screen e.screen) ≡ true → Goes book (freed_screen_id freed e)
freed_screen_id_goes book freed e g was =
    settled_goes _ book _ (Screen e.screen ∷ []) (loses book freed _ g (without_screen_id_loses freed.book e.client e.id)) (was, tt)

begins : (book : Book) → HasScreens book → Goes book (nothing_freed book)
begins book h = record {
  used = λ t k. k;
  gone_used = λ t k. absurd cc;
  gone_unused = λ t k. absurd cc;
  once = tt;
  there = λ s k n. h s k;
}

ends : (book : Book) (freed : Freed) → Goes book freed → IsFreed book freed
ends book freed g = record {
  used = g.used;
  gone_used = g.gone_used;
  gone_unused = g.gone_unused;
  once = g.once;
  screens = λ s h. g.there s (g.used (Screen s) h) (less_false _ _ (λ k. absurd (not_both _ h (g.gone_unused (Screen s) k))) refl);
}

ties_ended : (book : Book) (freed : Freed) (test : Tie → Bool) → Goes book freed → Goes book (with_ties_ended test freed)
ties_ended book freed test g = loses book freed _ g (record { used = used; screens = refl })
  where
    used : (t : Thing) → is_used (with_ties_ended test freed).book t ≡ true → is_used freed.book t ≡ true
    used (Image i) h = h
    used (Screen s) h = h

owned : (book : Book) (client id : ℕ) (e : ImageId) → own_image_id book client id ≡ Some e → is_used book (Image e.image) ≡ true
owned book client id e h = by ((id == 0) && not (client == 0)) h
  where
    by : (b : Bool) → (if b then None else image_id book client id) ≡ Some e → is_used book (Image e.image) ≡ true
    by true k = absurd cc
    by false k = first_true _ _ (find-any _ (λ x. x.image == e.image) book.image_ids e k (grind (arith, nat_tests)))

pub free_id-frees : (book : Book) (client id : ℕ) (freed : Freed) → HasScreens book → free_id book client id ≡ Ok freed → IsFreed book freed
unfolding free_id
free_id-frees book client id freed h e = by (own_image_id book client id) refl e
  where
    by : (o : Option ImageId) → own_image_id book client id ≡ o
        → (value_or_refuse o 4 >>= λ e. Ok (with_ties_ended (is_tied_by client id) (freed_image_id (nothing_freed book) e))) ≡ Ok freed → IsFreed book freed
    by None k e = absurd cc
    by (Some x) k e =
        let same : with_ties_ended (is_tied_by client id) (freed_image_id (nothing_freed book) x) ≡ freed = cc in
        subst (IsFreed book) same (ends book _ (ties_ended book _ _ (freed_image_id_goes book _ x (begins book h) (owned book client id x k))))

pub free_screen-frees : (book : Book) (client id : ℕ) (freed : Freed) → HasScreens book → free_screen book client id ≡ Ok freed → IsFreed book freed
unfolding free_screen
free_screen-frees book client id freed h e = by (screen_id book client id) refl e
  where
    by : (o : Option ScreenId) → screen_id book client id ≡ o
        → (value_or_refuse o 5 >>= λ e. Ok (freed_screen_id (nothing_freed book) e)) ≡ Ok freed → IsFreed book freed
    by None k e = absurd cc
    by (Some x) k e =
        let same : freed_screen_id (nothing_freed book) x ≡ freed = cc in
        subst (IsFreed book) same (ends book _ (freed_screen_id_goes book _ x (begins book h) (first_true _ _ (find-any _ (λ y. y.screen == x.screen) book.screen_ids x k (grind (arith, nat_tests))))))

-- ---- the end of a connection

abbrev ImagesUsed : Book → List ImageId → Type 0
ImagesUsed book [] = Unit {0}
ImagesUsed book (e ∷ es) = (is_used book (Image e.image) ≡ true) × ImagesUsed book es

abbrev ScreensUsed : Book → List ScreenId → Type 0
ScreensUsed book [] = Unit {0}
ScreensUsed book (e ∷ es) = (is_used book (Screen e.screen) ≡ true) × ScreensUsed book es

images_go : (book : Book) (es : List ImageId) (freed : Freed) → Goes book freed → ImagesUsed book es → Goes book (fold freed_image_id freed es)
images_go book [] freed g h = g
images_go book (e ∷ es) freed g h = images_go book es _ (freed_image_id_goes book freed e g h.0) h.1

screens_go : (book : Book) (es : List ScreenId) (freed : Freed) → Goes book freed → ScreensUsed book es → Goes book (fold freed_screen_id freed es)
screens_go book [] freed g h = g
screens_go book (e ∷ es) freed g h = screens_go book es _ (freed_screen_id_goes book freed e g h.0) h.1

images_used : (book : Book) (test : ImageId → Bool) (es : List ImageId) → ((i : ℕ) → list_any (λ e. e.image == i) es ≡ true → is_used book (Image i) ≡ true) → ImagesUsed book (filter test es)
images_used book test [] h = tt
images_used book test (e ∷ es) h =
    by (h e.image (first_true (e.image == e.image) _ (grind (arith, nat_tests)))) (images_used book test es (λ i k. h i (second_true (e.image == i) _ k))) (test e)
  where
    by : is_used book (Image e.image) ≡ true → ImagesUsed book (filter test es) → (b : Bool) → ImagesUsed book (cond b (e ∷ filter test es) (filter test es))
    by here rest true = (here, rest)
    by here rest false = rest

screens_used : (book : Book) (test : ScreenId → Bool) (es : List ScreenId) → ((s : ℕ) → list_any (λ e. e.screen == s) es ≡ true → is_used book (Screen s) ≡ true) → ScreensUsed book (filter test es)
screens_used book test [] h = tt
screens_used book test (e ∷ es) h =
    by (h e.screen (first_true (e.screen == e.screen) _ (grind (arith, nat_tests)))) (screens_used book test es (λ i k. h i (second_true (e.screen == i) _ k))) (test e)
  where
    by : is_used book (Screen e.screen) ≡ true → ScreensUsed book (filter test es) → (b : Bool) → ScreensUsed book (cond b (e ∷ filter test es) (filter test es))
    by here rest true = (here, rest)
    by here rest false = rest

pub leave-frees : (book : Book) (client : ℕ) → HasScreens book → IsFreed book (leave book client)
unfolding leave
leave-frees book client h =
    ends book _ (ties_ended book _ _
    (screens_go book (filter (λ e. e.client == client) book.screen_ids) _
    (images_go book (filter (λ e. e.client == client) book.image_ids) _ (begins book h) (images_used book _ book.image_ids (λ i k. first_true _ _ k)))
    (screens_used book _ book.screen_ids (λ s k. first_true _ _ k))))

-- ---- the ids of others

without-ids : (book : Book) (t : Thing) → (without book t).image_ids ≡ book.image_ids
without-ids book (Image i) = refl
without-ids book (Screen s) = refl

settled-ids : (steps : ℕ) (freed : Freed) (things : List Thing) → (settled steps freed things).book.image_ids ≡ freed.book.image_ids
settled-ids zero freed things = refl
settled-ids (suc steps) freed [] = refl
settled-ids (suc steps) freed (t ∷ ts) = by (settled-ids steps) (is_used freed.book t || has_gone freed t)
  where
    by : ((next : Freed) (things : List Thing) → (settled steps next things).book.image_ids ≡ next.book.image_ids) → (b : Bool)
        → (let next : Freed = elim b [ true ↦ settled steps freed ts | false ↦ settled steps (with_gone freed t) (references freed.book t ++ ts) ] in next.book.image_ids) ≡ freed.book.image_ids
    by more true = more freed ts
    by more false = more (with_gone freed t) (references freed.book t ++ ts) ∙ without-ids freed.book t

apart : (client id other other_id : ℕ) → (owner other other_id == client) ≡ false → (e : ImageId) → ((e.client == owner other other_id) && (e.id == other_id)) ≡ true → not (is_image_id client id e) ≡ true
apart client id other other_id h e k = grind (arith, nat_tests)

freed_image_id-others : (client other other_id : ℕ) → (owner other other_id == client) ≡ false → (freed : Freed) (e : ImageId) → e.client ≡ client → image_id (freed_image_id freed e).book other other_id ≡ image_id freed.book other other_id
freed_image_id-others client other other_id h freed e is =
    ap (λ (ids : List ImageId). find (λ x. (x.client == owner other other_id) && (x.id == other_id)) ids) (settled-ids _ _ (Image e.image ∷ []))
    ∙ find-filter _ _ freed.book.image_ids (apart e.client e.id other other_id (ap (λ c. owner other other_id == c) is ∙ h))

freed_screen_id-others : (other other_id : ℕ) (freed : Freed) (e : ScreenId) → image_id (freed_screen_id freed e).book other other_id ≡ image_id freed.book other other_id
freed_screen_id-others other other_id freed e =
    ap (λ (ids : List ImageId). find (λ x. (x.client == owner other other_id) && (x.id == other_id)) ids)
    (settled-ids (steps_for (without_screen_id freed.book e.client e.id) (Screen e.screen ∷ [])) (record freed { book = without_screen_id freed.book e.client e.id }) (Screen e.screen ∷ []))

own_client : (book : Book) (client id : ℕ) (e : ImageId) → own_image_id book client id ≡ Some e → e.client ≡ client
own_client book client id e h = by (id == 0) (client == 0) refl refl h
  where
    found : (p : ImageId → Bool) (xs : List ImageId) → find p xs ≡ Some e → p e ≡ true
    found p [] k = absurd cc
    found p (x ∷ xs) k = here (found p xs) (p x) refl k
      where
        here : (find p xs ≡ Some e → p e ≡ true) → (b : Bool) → p x ≡ b → cond b (Some x) (find p xs) ≡ Some e → p e ≡ true
        here more true is k = let same : x ≡ e = cc in ap p (sym same) ∙ is
        here more false is k = more k

    by : (a b : Bool) → (id == 0) ≡ a → (client == 0) ≡ b → (if a && not b then None else find (λ x. (x.client == (if a then 0 else client)) && (x.id == id)) book.image_ids) ≡ Some e → e.client ≡ client
    by true true p q k =
        let at : ((e.client == 0) && (e.id == id)) ≡ true = found (λ x. (x.client == 0) && (x.id == id)) book.image_ids k in
        let zero_client : client ≡ 0 = eqb-true client 0 q in
        grind (arith, nat_tests)
    by true false p q k = absurd cc
    by false b p q k =
        let at : ((e.client == client) && (e.id == id)) ≡ true = found (λ x. (x.client == client) && (x.id == id)) book.image_ids k in
        grind (arith, nat_tests)

pub free_id-others : (book : Book) (client id : ℕ) (freed : Freed) → free_id book client id ≡ Ok freed → KeepsOthers book client freed.book
unfolding free_id
free_id-others book client id freed e other other_id h = by (own_image_id book client id) refl e
  where
    by : (o : Option ImageId) → own_image_id book client id ≡ o
        → (value_or_refuse o 4 >>= λ e. Ok (with_ties_ended (is_tied_by client id) (freed_image_id (nothing_freed book) e))) ≡ Ok freed → image_id freed.book other other_id ≡ image_id book other other_id
    by None k e = absurd cc
    by (Some x) k e =
        let same : with_ties_ended (is_tied_by client id) (freed_image_id (nothing_freed book) x) ≡ freed = cc in
        ap (λ (f : Freed). image_id f.book other other_id) (sym same) ∙ freed_image_id-others client other other_id h (nothing_freed book) x (own_client book client id x k)

pub free_screen-others : (book : Book) (client id : ℕ) (freed : Freed) → free_screen book client id ≡ Ok freed → KeepsOthers book client freed.book
unfolding free_screen
free_screen-others book client id freed e other other_id h = by (screen_id book client id) e
  where
    by : (o : Option ScreenId)
        → (value_or_refuse o 5 >>= λ e. Ok (freed_screen_id (nothing_freed book) e)) ≡ Ok freed → image_id freed.book other other_id ≡ image_id book other other_id
    by None e = absurd cc
    by (Some x) e =
        let same : freed_screen_id (nothing_freed book) x ≡ freed = cc in
        ap (λ (f : Freed). image_id f.book other other_id) (sym same) ∙ freed_screen_id-others other other_id (nothing_freed book) x

-- the ids are those of a connection
abbrev AllOf : ℕ → List ImageId → Type 0
AllOf client [] = Unit {0}
AllOf client (e ∷ es) = (e.client ≡ client) × AllOf client es

images-others : (client other other_id : ℕ) → (owner other other_id == client) ≡ false → (es : List ImageId) (freed : Freed) → AllOf client es → image_id (fold freed_image_id freed es).book other other_id ≡ image_id freed.book other other_id
images-others client other other_id h [] freed of = refl
images-others client other other_id h (e ∷ es) freed of = images-others client other other_id h es _ of.1 ∙ freed_image_id-others client other other_id h freed e of.0

screens-others : (other other_id : ℕ) (es : List ScreenId) (freed : Freed) → image_id (fold freed_screen_id freed es).book other other_id ≡ image_id freed.book other other_id
screens-others other other_id [] freed = refl
screens-others other other_id (e ∷ es) freed = screens-others other other_id es _ ∙ freed_screen_id-others other other_id freed e

filter-of : (client : ℕ) (es : List ImageId) → AllOf client (filter (λ e. e.client == client) es)
filter-of client [] = tt
filter-of client (e ∷ es) = by (filter-of client es) (e.client == client) refl
  where
    by : AllOf client (filter (λ e. e.client == client) es) → (b : Bool) → (e.client == client) ≡ b → AllOf client (cond b (e ∷ filter (λ e. e.client == client) es) (filter (λ e. e.client == client) es))
    by more true k = (eqb-true e.client client k, more)
    by more false k = more

pub leave-others : (book : Book) (client : ℕ) → KeepsOthers book client (leave book client).book
unfolding leave
leave-others book client other other_id h =
    screens-others other other_id (filter (λ e. e.client == client) book.screen_ids) _
    ∙ images-others client other other_id h (filter (λ e. e.client == client) book.image_ids) (nothing_freed book) (filter-of client book.image_ids)
