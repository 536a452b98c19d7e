-- What was used and is used no longer has gone, and each id and each window stands once.
use Rattle.std.proofs.Common.{◌≡◌, ℕ, zero, suc, Bool, true, false, cond, List, [], ◌∷◌, ◌++◌, Option, Some, None, Ok, ◌⊎◌, inl, inr, refl, sym, ap, subst, ◌∙◌, arith}
use Rattle.std.specs.Prelude.{◌==◌, ◌||◌, ◌&&◌, not, All, filter, find, option_map, slice_index_or, slice_set, if◌then◌else◌}
use Rattle.std.specs.Option.{option_map_or}
use Rattle.std.specs.List.{list_any, fold}
use Rattle.std.proofs.lemmas.Bool.{and_parts, both_ways, cases_Bool, eqb-true, or_cases, or_left, or_parts, or_right}
use Rattle.std.proofs.lemmas.Bool.Decides.{nat_tests}
use Rattle.std.proofs.lemmas.List.Elements.{All-filter, All-head, All-same, All-tail, filter_passes}
use Rattle.model_text.specs.text.Outcome.{◌>>=◌, value_or_refuse}
use Rattle.model_draw_parts.specs.declared.images.ImageId.{ImageId}
use Rattle.model_draw_parts.specs.declared.images.ScreenId.{ScreenId}
use Rattle.model_draw_parts.specs.declared.images.OnScreen.{OnScreen}
use Rattle.model_draw_parts.specs.declared.images.Screen.{Screen as Filled}
use Rattle.model_draw_parts.specs.declared.images.Tie.{Tie}
use Rattle.model_draw_parts.specs.declared.images.Thing.{Thing}
use Rattle.model_draw_parts.specs.declared.images.Thing.TheVariants.{Image, Screen}
use Rattle.model_draw_parts.specs.images.Book.{Book, image_id, screen_id, screen_numbered}
use Rattle.model_draw_parts.specs.images.Release.{Freed, Releases, none_left, stays, goes, FindsAll, IsComplete, free_id, free_screen, freed_image_id, freed_screen_id, has_gone, is_image_id, is_screen_id, is_used, leave, nothing_freed, own_image_id, references, refers_to, released, same_thing, with_gone, with_ties_ended, without, without_image_id, without_screen_id, is_tied_by}
use Rattle.model_draw_parts.proofs.images.Freed.{gone_more, same-is}
use Rattle.model_draw_parts.proofs.images.Steps.{released-exactly}

-- ---- lists

-- one that passes a test, among those of which all is known
any-all : {X : Type 0} (P : X → Type 0) (C : Type 0) (p : X → Bool) (xs : List X) → All P xs → list_any p xs ≡ true → ((x : X) → P x → p x ≡ true → C) → C
any-all P C p [] all h next = absurd cc
any-all P C p (x ∷ xs) all h next = elim (or_cases (p x) _ h) [
  | inl here ↦ next x (All-head P x xs all) here
  | inr there ↦ any-all P C p xs (All-tail P x xs all) there next
]

-- what a filter loses, among those of which all is known
any-lost : {X : Type 0} (P : X → Type 0) (C : Type 0) (p q : X → Bool) (xs : List X) → All P xs → list_any p xs ≡ true → list_any p (filter q xs) ≡ false → ((x : X) → P x → p x ≡ true → q x ≡ false → C) → C
any-lost P C p q [] all h k next = absurd cc
any-lost {X = X} P C p q (x ∷ xs) all h k next = by (λ there k. any-lost P C p q xs (All-tail P x xs all) there k next) (q x) refl k
  where
    by : (list_any p xs ≡ true → list_any p (filter q xs) ≡ false → C) → (b : Bool) → q x ≡ b → list_any p (cond b (x ∷ filter q xs) (filter q xs)) ≡ false → C
    by more true e k =
        let parts = or_parts (p x) _ k in
        elim (or_cases (p x) _ h) [ inl here ↦ absurd (both_ways (p x) parts.0 here) | inr there ↦ more there parts.1 ]
    by more false e k = elim (or_cases (p x) _ h) [ inl here ↦ next x (All-head P x xs all) here e | inr there ↦ more there k ]

-- what a slot had that is emptied
slot-lost : (p : Option Filled → Bool) (xs : List (Option Filled)) (n : ℕ) → list_any p xs ≡ true → list_any p (slice_set xs n None) ≡ false → p (slice_index_or xs n None) ≡ true
slot-lost p [] n h k = absurd cc
slot-lost p (x ∷ xs) zero h k = elim (or_cases (p x) _ h) [ inl here ↦ here | inr there ↦ absurd (both_ways (list_any p xs) ((or_parts (p None) _ k).1) there) ]
slot-lost p (x ∷ xs) (suc n) h k =
    let parts = or_parts (p x) _ k in
    elim (or_cases (p x) _ h) [ inl here ↦ absurd (both_ways (p x) parts.0 here) | inr there ↦ slot-lost p xs n there parts.1 ]

any-append : {X : Type 0} (p : X → Bool) (xs ys : List X) → list_any p (xs ++ ys) ≡ (list_any p xs || list_any p ys)
any-append p [] ys = refl
any-append p (x ∷ xs) ys = ap (λ b. p x || b) (any-append p xs ys) ∙ by (p x)
  where
    by : (a : Bool) → (a || (list_any p xs || list_any p ys)) ≡ ((a || list_any p xs) || list_any p ys)
    by true = refl
    by false = refl

-- what a filter keeps is found as before
find-filter : {X : Type 0} (p q : X → Bool) (xs : List X) → ((x : X) → p x ≡ true → q x ≡ true) → find p (filter q xs) ≡ find p xs
find-filter p q [] h = refl
find-filter {X = X} p q (x ∷ xs) h = by (find-filter p q xs h) (q x) refl (cases_Bool (p x))
  where
    by : find p (filter q xs) ≡ find p xs → (b : Bool) → q x ≡ b → (p x ≡ true) ⊎ (p x ≡ false) → find p (cond b (x ∷ filter q xs) (filter q xs)) ≡ find p (x ∷ xs)
    by more true e at = ap (λ o. cond (p x) (Some x) o) more
    by more false e (inl here) = absurd (both_ways (q x) e (h x here))
    by more false e (inr apart) = rw apart more

-- each of those that a filter keeps is found as before, where it keeps all that are alike
all-found : {X : Type 0} (alike : X → X → Bool) (q : X → Bool) (xs : List X) → ((x y : X) → q x ≡ true → alike x y ≡ true → q y ≡ true)
    → All (λ x. find (alike x) xs ≡ Some x) xs → All (λ x. find (alike x) (filter q xs) ≡ Some x) (filter q xs)
all-found {X = X} alike q xs h all =
    let P : X → Type 0 = λ x. find (alike x) xs ≡ Some x in
    let kept : All P (filter q xs) = All-filter q P xs all in
    let passes : All (λ x. q x ≡ true) (filter q xs) = filter_passes q xs in
    λ k d less. find-filter (alike (slice_index_or (filter q xs) k d)) q xs (λ y. h (slice_index_or (filter q xs) k d) y (passes k d less)) ∙ kept k d less

-- ---- what goes

-- what a thing that has gone referred to
lost : (book : Book) (thing t : Thing) → All (λ w. find (λ v. v.image == w.image) book.windows ≡ Some w) book.windows → is_used book t ≡ true → is_used (without book thing) t ≡ false → list_any (same_thing t) (references book thing) ≡ true
lost book (Image i) (Image j) finds h k = absurd (both_ways (is_used book (Image j)) k h)
lost book (Screen s) (Screen t) finds h k = absurd (both_ways (is_used book (Screen t)) k h)
lost book (Image i) (Screen s) finds h k =
    let parts = or_parts (list_any (λ e. e.screen == s) book.screen_ids) _ k in
    let there : list_any (λ w. w.screen == s) book.windows ≡ true = elim (or_cases (list_any (λ e. e.screen == s) book.screen_ids) _ h) [
      | inl here ↦ absurd (both_ways (list_any (λ e. e.screen == s) book.screen_ids) parts.0 here)
      | inr there ↦ there
    ] in
    any-lost (λ w. find (λ v. v.image == w.image) book.windows ≡ Some w) _ (λ w. w.screen == s) (λ w. not (w.image == i)) book.windows finds there parts.1 by
  where
    none : (b : Bool) → not b ≡ false → b ≡ true
    none true e = refl
    none false e = absurd cc

    same : (n : ℕ) → (n == n) ≡ true
    same n = grind (arith, nat_tests)

    by : (w : OnScreen) → find (λ v. v.image == w.image) book.windows ≡ Some w → (w.screen == s) ≡ true → not (w.image == i) ≡ false → list_any (same_thing (Screen s)) (references book (Image i)) ≡ true
    by w found at gone =
        let image : w.image ≡ i = eqb-true w.image i (none (w.image == i) gone) in
        let screen : w.screen ≡ s = eqb-true w.screen s at in
        let here : find (λ v. v.image == i) book.windows ≡ Some w = ap (λ (n : ℕ). find (λ (v : OnScreen). v.image == n) book.windows) (sym image) ∙ found in
        ap (λ (o : Option OnScreen). list_any (same_thing (Screen s)) (option_map_or (λ n. Screen n ∷ []) (option_map (λ v. v.screen) o) [])) here
        ∙ or_left (s == w.screen) false (ap (λ n. s == n) screen ∙ same s)
lost book (Screen s) (Image j) finds h k =
    let parts = or_parts (list_any (λ e. e.image == j) book.image_ids) _ k in
    let there : list_any (refers_to j) book.screens ≡ true = elim (or_cases (list_any (λ e. e.image == j) book.image_ids) _ h) [
      | inl here ↦ absurd (both_ways (list_any (λ e. e.image == j) book.image_ids) parts.0 here)
      | inr there ↦ there
    ] in
    by (screen_numbered book s) (slot-lost (refers_to j) book.screens s there parts.1)
  where
    turned : (a b c d : ℕ) → ((a == c) || (b == c)) ≡ true → ((c == a) || ((c == b) || false)) ≡ true
    turned a b c d h = grind (arith, nat_tests)

    by : (o : Option Filled) → refers_to j o ≡ true → list_any (same_thing (Image j)) (Image (option_map_or (λ (e : Filled). e.image) o 0) ∷ Image (option_map_or (λ (e : Filled). e.fill) o 0) ∷ []) ≡ true
    by None e = absurd cc
    by (Some x) e = turned x.image x.fill j 0 e

-- what was used and is used no longer has gone, or has yet to be looked at
abbrev Looks : Book → Freed → List Thing → Type 0
Looks book freed things = (t : Thing) → is_used book t ≡ true → is_used freed.book t ≡ false → (has_gone freed t || list_any (same_thing t) things) ≡ true

abbrev FindsWindows : Book → Type 0
FindsWindows book = All (λ w. find (λ v. v.image == w.image) book.windows ≡ Some w) book.windows

finds-without : (book : Book) (thing : Thing) → FindsWindows book → FindsWindows (without book thing)
finds-without book (Screen s) finds = finds
finds-without book (Image i) finds = all-found (λ w v. v.image == w.image) (λ w. not (w.image == i)) book.windows (λ w v here same. grind (arith, nat_tests)) finds

looks-stays : (book : Book) (freed : Freed) (thing : Thing) (things : List Thing) → Looks book freed (thing ∷ things) → (is_used freed.book thing || has_gone freed thing) ≡ true → Looks book freed things
looks-stays book freed thing things looks remains t was is = elim (or_cases (has_gone freed t) _ (looks t was is)) [
  | inl gone ↦ or_left (has_gone freed t) _ gone
  | inr more ↦ elim (or_cases (same_thing t thing) _ more) [
    | inl now ↦
        let P : Thing → Type 0 = λ u. (is_used freed.book u || has_gone freed u) ≡ true in
        or_left (has_gone freed t) _ (sym (ap (λ b. b || has_gone freed t) is) ∙ subst P (sym (same-is t thing now)) remains)
    | inr later ↦ or_right (has_gone freed t) _ later
  ]
]

looks-goes : (book : Book) (freed : Freed) (thing : Thing) (things : List Thing) → FindsWindows freed.book → Looks book freed (thing ∷ things) → Looks book (with_gone freed thing) (references freed.book thing ++ things)
looks-goes book freed thing things finds looks t was is = rw (gone_more freed thing t, any-append (same_thing t) (references freed.book thing) things) (elim (cases_Bool (is_used freed.book t)) [
  | inl used ↦ or_right _ _ (or_left _ _ (lost freed.book thing t finds used is))
  | inr unused ↦ elim (or_cases (has_gone freed t) _ (looks t was unused)) [
    | inl gone ↦ or_left _ _ (or_left _ _ gone)
    | inr more ↦ elim (or_cases (same_thing t thing) _ more) [
      | inl now ↦ or_left _ _ (or_right (has_gone freed t) _ now)
      | inr later ↦ or_right _ _ (or_right (list_any (same_thing t) (references freed.book thing)) _ later)
    ]
  ]
])

-- what a release leaves
record Ends (book : Book) (freed after : Freed) : Type 0 where
  complete : IsComplete book after
  windows : FindsWindows after.book
  image_ids : after.book.image_ids ≡ freed.book.image_ids
  screen_ids : after.book.screen_ids ≡ freed.book.screen_ids

without-ids : (book : Book) (thing : Thing) → ((without book thing).image_ids ≡ book.image_ids) × ((without book thing).screen_ids ≡ book.screen_ids)
without-ids book (Image i) = (refl, refl)
without-ids book (Screen s) = (refl, refl)

releases-ends : (book : Book) (after freed : Freed) (things : List Thing) → Releases after freed things → FindsWindows freed.book → Looks book freed things → Ends book freed after
releases-ends book after freed things none_left finds looks = record {
  complete = λ t was is. elim (or_cases (has_gone after t) _ (looks t was is)) [ inl gone ↦ gone | inr none ↦ absurd cc ];
  windows = finds;
  image_ids = refl;
  screen_ids = refl;
}
releases-ends book after freed things (stays f t ts e more) finds looks = releases-ends book after f ts more finds (looks-stays book f t ts looks e)
releases-ends book after freed things (goes f t ts e more) finds looks =
    let end = releases-ends book after (with_gone f t) (references f.book t ++ ts) more (finds-without f.book t finds) (looks-goes book f t ts finds looks) in
    let ids = without-ids f.book t in
    record { complete = end.complete; windows = end.windows; image_ids = end.image_ids ∙ ids.0; screen_ids = end.screen_ids ∙ ids.1 }

released-ends : (book : Book) (freed : Freed) (things : List Thing) → FindsWindows freed.book → Looks book freed things → Ends book freed (released freed things)
released-ends book freed things finds looks = releases-ends book (released freed things) freed things ((released-exactly (released freed things) freed things).1 refl) finds looks

-- ---- freeing

-- an id is found in a book
abbrev IsImageOf : Book → ImageId → Type 0
IsImageOf book e = find (is_image_id e.client e.id) book.image_ids ≡ Some e

abbrev IsScreenOf : Book → ScreenId → Type 0
IsScreenOf book e = find (is_screen_id e.client e.id) book.screen_ids ≡ Some e

-- what is kept from one release to the next
record Completes (book : Book) (freed : Freed) : Type 0 where
  complete : IsComplete book freed
  finds : FindsAll freed.book
  images : All (IsImageOf book) freed.book.image_ids
  screens : All (IsScreenOf book) freed.book.screen_ids

begins : (book : Book) → FindsAll book → Completes book (nothing_freed book)
begins book finds = record {
  complete = λ t was is. absurd (both_ways (is_used book t) is was);
  finds = finds;
  images = finds.image_ids;
  screens = finds.screen_ids;
}

negated : (b : Bool) → not b ≡ false → b ≡ true
negated true e = refl
negated false e = absurd cc

-- two ids that are found by one are one
one_image : (book : Book) (x e : ImageId) → IsImageOf book x → IsImageOf book e → is_image_id e.client e.id x ≡ true → x ≡ e
one_image book x e known own same =
    let parts = and_parts (x.client == e.client) (x.id == e.id) same in
    let found : ◌≡◌ {A = Option ImageId} (Some x) (Some e) = sym known ∙ (λ i. find (is_image_id (eqb-true x.client e.client parts.0 i) (eqb-true x.id e.id parts.1 i)) book.image_ids) ∙ own in
    cc

one_screen : (book : Book) (x e : ScreenId) → IsScreenOf book x → IsScreenOf book e → is_screen_id e.client e.id x ≡ true → x ≡ e
one_screen book x e known own same =
    let parts = and_parts (x.client == e.client) (x.id == e.id) same in
    let found : ◌≡◌ {A = Option ScreenId} (Some x) (Some e) = sym known ∙ (λ i. find (is_screen_id (eqb-true x.client e.client parts.0 i) (eqb-true x.id e.id parts.1 i)) book.screen_ids) ∙ own in
    cc

turned : (i j : ℕ) → (i == j) ≡ true → ((j == i) || false) ≡ true
turned i j h = grind (arith, nat_tests)

image_looked : (book : Book) (freed : Freed) (e : ImageId) → Completes book freed → IsImageOf book e → Looks book (record freed { book = without_image_id freed.book e.client e.id }) (Image e.image ∷ [])
image_looked book freed e g own (Screen s) was is = or_left _ _ (g.complete (Screen s) was is)
image_looked book freed e g own (Image i) was is = elim (cases_Bool (is_used freed.book (Image i))) [
  | inr unused ↦ or_left _ _ (g.complete (Image i) was unused)
  | inl used ↦
      let parts = or_parts (list_any (λ x. x.image == i) (filter (λ x. not (is_image_id e.client e.id x)) freed.book.image_ids)) _ is in
      let there : list_any (λ x. x.image == i) freed.book.image_ids ≡ true = elim (or_cases (list_any (λ x. x.image == i) freed.book.image_ids) _ used) [
        | inl here ↦ here
        | inr there ↦ absurd (both_ways (list_any (refers_to i) freed.book.screens) parts.1 there)
      ] in
      or_right (has_gone freed (Image i)) _
      (any-lost (IsImageOf book) _ (λ x. x.image == i) (λ x. not (is_image_id e.client e.id x)) freed.book.image_ids g.images there parts.0
      (λ x known at gone. let same : x ≡ e = one_image book x e known own (negated (is_image_id e.client e.id x) gone) in turned e.image i (ap (λ (y : ImageId). y.image == i) (sym same) ∙ at)))
]

screen_looked : (book : Book) (freed : Freed) (e : ScreenId) → Completes book freed → IsScreenOf book e → Looks book (record freed { book = without_screen_id freed.book e.client e.id }) (Screen e.screen ∷ [])
screen_looked book freed e g own (Image i) was is = or_left _ _ (g.complete (Image i) was is)
screen_looked book freed e g own (Screen s) was is = elim (cases_Bool (is_used freed.book (Screen s))) [
  | inr unused ↦ or_left _ _ (g.complete (Screen s) was unused)
  | inl used ↦
      let parts = or_parts (list_any (λ x. x.screen == s) (filter (λ x. not (is_screen_id e.client e.id x)) freed.book.screen_ids)) _ is in
      let there : list_any (λ x. x.screen == s) freed.book.screen_ids ≡ true = elim (or_cases (list_any (λ x. x.screen == s) freed.book.screen_ids) _ used) [
        | inl here ↦ here
        | inr there ↦ absurd (both_ways (list_any (λ w. w.screen == s) freed.book.windows) parts.1 there)
      ] in
      or_right (has_gone freed (Screen s)) _
      (any-lost (IsScreenOf book) _ (λ x. x.screen == s) (λ x. not (is_screen_id e.client e.id x)) freed.book.screen_ids g.screens there parts.0
      (λ x known at gone. let same : x ≡ e = one_screen book x e known own (negated (is_screen_id e.client e.id x) gone) in turned e.screen s (ap (λ (y : ScreenId). y.screen == s) (sym same) ∙ at)))
]

-- ids that are alike both stay or both go
alike : (c d a b x y : ℕ) → not ((c == x) && (d == y)) ≡ true → ((a == c) && (b == d)) ≡ true → not ((a == x) && (b == y)) ≡ true
alike c d a b x y h k = grind (arith, nat_tests)

freed_image_id-completes : (book : Book) (freed : Freed) (e : ImageId) → Completes book freed → IsImageOf book e → Completes book (freed_image_id freed e)
freed_image_id-completes book freed e g own =
    let after : Book = without_image_id freed.book e.client e.id in
    let finds = g.finds in
    let end = released-ends book (record freed { book = after }) (Image e.image ∷ []) finds.windows (image_looked book freed e g own) in
    let images : All (λ (x : ImageId). find (is_image_id x.client x.id) after.image_ids ≡ Some x) after.image_ids =
    all-found (λ (x y : ImageId). is_image_id x.client x.id y) (λ (x : ImageId). not (is_image_id e.client e.id x)) freed.book.image_ids (λ x y. alike x.client x.id y.client y.id e.client e.id) finds.image_ids in
    let last : Freed = freed_image_id freed e in
    record {
      complete = end.complete;
      finds = record {
        image_ids = subst (λ (es : List ImageId). All (λ x. find (is_image_id x.client x.id) es ≡ Some x) es) (sym end.image_ids) images;
        screen_ids = subst (λ (es : List ScreenId). All (λ x. find (is_screen_id x.client x.id) es ≡ Some x) es) (sym end.screen_ids) finds.screen_ids;
        windows = end.windows;
      };
      images = All-same (IsImageOf book) last.book.image_ids after.image_ids end.image_ids (All-filter (λ (x : ImageId). not (is_image_id e.client e.id x)) (IsImageOf book) freed.book.image_ids g.images);
      screens = All-same (IsScreenOf book) last.book.screen_ids freed.book.screen_ids end.screen_ids g.screens;
    }

freed_screen_id-completes : (book : Book) (freed : Freed) (e : ScreenId) → Completes book freed → IsScreenOf book e → Completes book (freed_screen_id freed e)
freed_screen_id-completes book freed e g own =
    let after : Book = without_screen_id freed.book e.client e.id in
    let finds = g.finds in
    let end = released-ends book (record freed { book = after }) (Screen e.screen ∷ []) finds.windows (screen_looked book freed e g own) in
    let screens : All (λ (x : ScreenId). find (is_screen_id x.client x.id) after.screen_ids ≡ Some x) after.screen_ids =
    all-found (λ (x y : ScreenId). is_screen_id x.client x.id y) (λ (x : ScreenId). not (is_screen_id e.client e.id x)) freed.book.screen_ids (λ x y. alike x.client x.id y.client y.id e.client e.id) finds.screen_ids in
    let last : Freed = freed_screen_id freed e in
    record {
      complete = end.complete;
      finds = record {
        image_ids = subst (λ (es : List ImageId). All (λ x. find (is_image_id x.client x.id) es ≡ Some x) es) (sym end.image_ids) finds.image_ids;
        screen_ids = subst (λ (es : List ScreenId). All (λ x. find (is_screen_id x.client x.id) es ≡ Some x) es) (sym end.screen_ids) screens;
        windows = end.windows;
      };
      images = All-same (IsImageOf book) last.book.image_ids freed.book.image_ids end.image_ids g.images;
      screens = All-same (IsScreenOf book) last.book.screen_ids after.screen_ids end.screen_ids (All-filter (λ (x : ScreenId). not (is_screen_id e.client e.id x)) (IsScreenOf book) freed.book.screen_ids g.screens);
    }

ties-complete : (book : Book) (freed : Freed) (test : Tie → Bool) → Completes book freed → IsComplete book (with_ties_ended test freed) × FindsAll (with_ties_ended test freed).book
ties-complete book freed test g = (complete, record { image_ids = g.finds.image_ids; screen_ids = g.finds.screen_ids; windows = g.finds.windows })
  where
    complete : IsComplete book (with_ties_ended test freed)
    complete (Image i) was is = g.complete (Image i) was is
    complete (Screen s) was is = g.complete (Screen s) was is

-- what holds of all holds of what is found
all-one : {X : Type 0} (P : X → Type 0) (p : X → Bool) (xs : List X) (x : X) → All P xs → find p xs ≡ Some x → P x
all-one P p [] x h e = absurd cc
all-one {X = X} P p (y ∷ ys) x h e = by (λ e. all-one P p ys x (All-tail P y ys h) e) (p y) e
  where
    by : (find p ys ≡ Some x → P x) → (b : Bool) → cond b (Some y) (find p ys) ≡ Some x → P x
    by more true e = let same : y ≡ x = cc in subst P same (All-head P y ys h)
    by more false e = more e

owned : (book : Book) (client id : ℕ) (e : ImageId) → FindsAll book → own_image_id book client id ≡ Some e → IsImageOf book e
owned book client id e finds h = by ((id == 0) && not (client == 0)) h
  where
    by : (b : Bool) → (if b then None else image_id book client id) ≡ Some e → IsImageOf book e
    by true k = absurd cc
    by false k = all-one (IsImageOf book) _ book.image_ids e finds.image_ids k

-- a free leaves nothing that is unused, and each id and each window once
abbrev pub LeavesNone : Book → Freed → Type 0
LeavesNone book freed = IsComplete book freed × FindsAll freed.book

pub free_id-complete : (book : Book) (client id : ℕ) (freed : Freed) → FindsAll book → free_id book client id ≡ Ok freed → LeavesNone book freed
unfolding free_id
free_id-complete book client id freed finds e = by (own_image_id book client id) refl e
  where
    by : (o : Option ImageId) → own_image_id book client id ≡ o
        → (value_or_refuse o 4 >>= λ e. Ok (with_ties_ended (is_tied_by client id) (freed_image_id (nothing_freed book) e))) ≡ Ok freed → LeavesNone book freed
    by None k e = absurd cc
    by (Some x) k e =
        let same : with_ties_ended (is_tied_by client id) (freed_image_id (nothing_freed book) x) ≡ freed = cc in
        subst (LeavesNone book) same (ties-complete book _ (is_tied_by client id) (freed_image_id-completes book _ x (begins book finds) (owned book client id x finds k)))

pub free_screen-complete : (book : Book) (client id : ℕ) (freed : Freed) → FindsAll book → free_screen book client id ≡ Ok freed → LeavesNone book freed
unfolding free_screen
free_screen-complete book client id freed finds e = by (screen_id book client id) refl e
  where
    by : (o : Option ScreenId) → screen_id book client id ≡ o
        → (value_or_refuse o 5 >>= λ e. Ok (freed_screen_id (nothing_freed book) e)) ≡ Ok freed → LeavesNone book freed
    by None k e = absurd cc
    by (Some x) k e =
        let same : freed_screen_id (nothing_freed book) x ≡ freed = cc in
        let g = freed_screen_id-completes book _ x (begins book finds) (all-one (IsScreenOf book) _ book.screen_ids x finds.screen_ids k) in
        subst (LeavesNone book) same (g.complete, g.finds)

images-complete : (book : Book) (es : List ImageId) (freed : Freed) → Completes book freed → All (IsImageOf book) es → Completes book (fold freed_image_id freed es)
images-complete book [] freed g h = g
images-complete book (e ∷ es) freed g h = images-complete book es _ (freed_image_id-completes book freed e g (All-head (IsImageOf book) e es h)) (All-tail (IsImageOf book) e es h)

screens-complete : (book : Book) (es : List ScreenId) (freed : Freed) → Completes book freed → All (IsScreenOf book) es → Completes book (fold freed_screen_id freed es)
screens-complete book [] freed g h = g
screens-complete book (e ∷ es) freed g h = screens-complete book es _ (freed_screen_id-completes book freed e g (All-head (IsScreenOf book) e es h)) (All-tail (IsScreenOf book) e es h)

pub leave-complete : (book : Book) (client : ℕ) → FindsAll book → LeavesNone book (leave book client)
unfolding leave
leave-complete book client finds =
    ties-complete book _ (λ t. t.client == client)
    (screens-complete book (filter (λ e. e.client == client) book.screen_ids) _
    (images-complete book (filter (λ e. e.client == client) book.image_ids) _ (begins book finds) (All-filter (λ (e : ImageId). e.client == client) (IsImageOf book) book.image_ids finds.image_ids))
    (All-filter (λ (e : ScreenId). e.client == client) (IsScreenOf book) book.screen_ids finds.screen_ids))
