-- The image of each tie is that which the id shows that made it, from the empty book on.
use Rattle.std.proofs.Common.{◌≡◌, ℕ, zero, suc, Bool, true, false, cond, List, [], ◌∷◌, ◌++◌, Option, Some, None, Ok, Err, ◌⊎◌, inl, inr, refl, sym, ap, subst, ◌∙◌, arith}
use Rattle.std.specs.Prelude.{◌==◌, ◌||◌, ◌&&◌, not, filter, find, is_some, option_map, All, if◌then◌else◌}
use Rattle.std.specs.List.{list_any, fold}
use Rattle.std.proofs.lemmas.Bool.{and_parts, both_ways, cases_Bool, eqb-true, or_left, or_parts, or_right}
use Rattle.std.proofs.lemmas.Bool.Decides.{nat_tests}
use Rattle.std.proofs.lemmas.List.Elements.{All-filter, All-head, All-nil, All-push, All-same, All-tail, All-weaker, filter_passes}
use Rattle.model_text.specs.text.Outcome.{Outcome, ◌>>=◌, refuse_if, value_or_refuse}
use Rattle.model_draw_parts.specs.declared.images.ImageId.{ImageId}
use Rattle.model_draw_parts.specs.declared.images.ScreenId.{ScreenId}
use Rattle.model_draw_parts.specs.declared.images.Tie.{Tie}
use Rattle.model_draw_parts.specs.declared.images.Thing.{Thing}
use Rattle.model_draw_parts.specs.declared.images.Thing.TheVariants.{Image, Screen}
use Rattle.model_draw_parts.specs.images.Book.{Book, add_id, add_named, add_screen, comes_before, empty_book, image, image_id, is_image_id_taken, is_kept_name, is_screen_id_taken, is_stale, named, new_screen, owner, put_image_id, screen_id, tie, tie_of, untie}
use Rattle.model_draw_parts.specs.images.Release.{Freed, free_id, free_screen, freed_image_id, freed_screen_id, has_gone, is_image_id, is_tied_by, is_used, leave, nothing_freed, own_image_id, references, refers_to, settled, steps_for, with_gone, with_ties_ended, without, without_image_id, without_screen_id}
use Rattle.model_draw_parts.specs.images.Ties.{HasTies, shown_by}
use Rattle.model_draw_parts.proofs.images.Freed.{leave-others}

-- ---- lists

-- what finds no new id finds what it found
pub find-put : (p : ImageId → Bool) (e : ImageId) (xs : List ImageId) → p e ≡ false → find p (put_image_id e xs) ≡ find p xs
find-put p e [] other = rw other refl
find-put p e (x ∷ xs) other = by (find-put p e xs other) (comes_before e.client e.id x.client x.id)
  where
    by : find p (put_image_id e xs) ≡ find p xs → (b : Bool) → find p (if b then e ∷ x ∷ xs else x ∷ put_image_id e xs) ≡ find p (x ∷ xs)
    by more true = rw other refl
    by more false = ap (λ o. cond (p x) (Some x) o) more

pub any-put : (p : ImageId → Bool) (e : ImageId) (xs : List ImageId) → list_any p (put_image_id e xs) ≡ (p e || list_any p xs)
any-put p e [] = refl
any-put p e (x ∷ xs) = by (any-put p e xs) (comes_before e.client e.id x.client x.id)
  where
    swapped : (a b c : Bool) → (a || (b || c)) ≡ (b || (a || c))
    swapped true true c = refl
    swapped true false c = refl
    swapped false b c = refl

    by : list_any p (put_image_id e xs) ≡ (p e || list_any p xs) → (b : Bool) → list_any p (if b then e ∷ x ∷ xs else x ∷ put_image_id e xs) ≡ (p e || list_any p (x ∷ xs))
    by more true = refl
    by more false = ap (λ b. p x || b) more ∙ swapped (p x) (p e) (list_any p xs)

-- the same is found among those that a filter keeps, where it keeps all that is looked for
find-filter : {X : Type 0} (p q : X → Bool) (xs : List X) → ((x : X) → p x ≡ true → q x ≡ true) → find p (filter q xs) ≡ find p xs
find-filter p q [] h = refl
find-filter {X = X} p q (x ∷ xs) h = by (find-filter p q xs h) (q x) refl (cases_Bool (p x))
  where
    by : find p (filter q xs) ≡ find p xs → (b : Bool) → q x ≡ b → (p x ≡ true) ⊎ (p x ≡ false) → find p (cond b (x ∷ filter q xs) (filter q xs)) ≡ find p (x ∷ xs)
    by more true e at = ap (λ o. cond (p x) (Some x) o) more
    by more false e (inl here) = absurd (both_ways (q x) e (h x here))
    by more false e (inr apart) = rw apart more

-- one that is found and passes a test is one that passes it
any-found : {X : Type 0} (p q : X → Bool) (xs : List X) (x : X) → find p xs ≡ Some x → q x ≡ true → list_any q xs ≡ true
any-found p q [] x h k = absurd cc
any-found {X = X} p q (y ∷ ys) x h k = by (λ e. any-found p q ys x e k) (p y) h
  where
    by : (find p ys ≡ Some x → list_any q ys ≡ true) → (b : Bool) → cond b (Some y) (find p ys) ≡ Some x → list_any q (y ∷ ys) ≡ true
    by more true e = let same : y ≡ x = cc in or_left (q y) _ (ap q same ∙ k)
    by more false e = or_right (q y) _ (more e)

-- what holds of all holds of what is found
pub All-found : {X : Type 0} (P : X → Type 0) (p : X → Bool) (xs : List X) (x : X) → All P xs → find p xs ≡ Some x → P x
All-found P p [] x h e = absurd cc
All-found {X = X} P p (y ∷ ys) x h e = by (λ e. All-found P p ys x (All-tail P y ys h) e) (p y) e
  where
    by : (find p ys ≡ Some x → P x) → (b : Bool) → cond b (Some y) (find p ys) ≡ Some x → P x
    by more true e = let same : y ≡ x = cc in subst P same (All-head P y ys h)
    by more false e = more e

-- ---- changes of a book

-- the tie's image is that which its id shows
abbrev IsShown : Book → Tie → Type 0
IsShown book t = shown_by book t.client t.id ≡ Some t.image

-- each tie stays whose id shows what it showed
HasTies-kept : (before after : Book) → after.ties ≡ before.ties → ((t : Tie) → IsShown before t → IsShown after t) → HasTies before → HasTies after
HasTies-kept before after same kept has = record { shown = All-same (IsShown after) after.ties before.ties same (All-weaker (IsShown before) (IsShown after) kept before.ties has.shown) }

-- some ties end, and each other stays whose id shows what it showed
HasTies-ended : (before after : Book) (ended : Tie → Bool) → after.ties ≡ filter (λ t. not (ended t)) before.ties → ((t : Tie) → not (ended t) ≡ true → IsShown before t → IsShown after t) → HasTies before → HasTies after
HasTies-ended before after ended ties kept has =
    let left : List Tie = filter (λ t. not (ended t)) before.ties in
    let last : All (λ t. not (ended t) ≡ true) left = filter_passes (λ t. not (ended t)) before.ties in
    let shown : All (IsShown before) left = All-filter (λ t. not (ended t)) (IsShown before) before.ties has.shown in
    record { shown = All-same (IsShown after) after.ties left ties (λ k d h. kept _ (last k d h) (shown k d h)) }

-- image ids and ties stay
pub HasTies-same : (before after : Book) → after.image_ids ≡ before.image_ids → after.ties ≡ before.ties → HasTies before → HasTies after
HasTies-same before after ids ties has = HasTies-kept before after ties (λ t is. ap (λ (es : List ImageId). option_map (λ e. e.image) (find (λ e. (e.client == owner t.client t.id) && (e.id == t.id)) es)) ids ∙ is) has

pub HasTies-empty : HasTies empty_book
HasTies-empty = record { shown = All-nil (IsShown empty_book) }

-- ---- adding

own_owner : (client id : ℕ) → ((id == 0) && not (client == 0)) ≡ false → owner client id ≡ client
own_owner client id own = grind (arith, nat_tests)

-- an id of which none is found shows nothing
found-apart : (ids : List ImageId) (c d i j n : ℕ) → c ≡ d → i ≡ j → is_some (find (λ e. (e.client == c) && (e.id == i)) ids) ≡ false → option_map (λ e. e.image) (find (λ e. (e.client == d) && (e.id == j)) ids) ≡ Some n → ⊥
found-apart ids c d i j n clients same none some =
    let none : is_some (find (λ (e : ImageId). (e.client == d) && (e.id == j)) ids) ≡ false = rw (← clients, ← same) none in
    by (find (λ e. (e.client == d) && (e.id == j)) ids) none some
  where
    by : (o : Option ImageId) → is_some o ≡ false → option_map (λ e. e.image) o ≡ Some n → ⊥
    by None h k = cc
    by (Some e) h k = cc

-- an id that is not taken made no tie
untaken-apart : (book : Book) (e : ImageId) (t : Tie) → is_image_id_taken book e.client e.id ≡ false → IsShown book t → ((e.client == owner t.client t.id) && (e.id == t.id)) ≡ false
untaken-apart book e t free is = elim (cases_Bool ((e.client == owner t.client t.id) && (e.id == t.id))) [
  | inl at ↦
      let parts = and_parts (e.client == owner t.client t.id) (e.id == t.id) at in
      let untaken = or_parts ((e.id == 0) && not (e.client == 0)) (is_some (image_id book e.client e.id)) free in
      absurd (found-apart book.image_ids (owner e.client e.id) (owner t.client t.id) e.id t.id t.image
      (own_owner e.client e.id untaken.0 ∙ eqb-true e.client (owner t.client t.id) parts.0) (eqb-true e.id t.id parts.1) untaken.1 is)
  | inr apart ↦ apart
]

-- an id is added that was not taken
HasTies-added : (before after : Book) (e : ImageId) → is_image_id_taken before e.client e.id ≡ false → after.image_ids ≡ put_image_id e before.image_ids → after.ties ≡ before.ties → HasTies before → HasTies after
HasTies-added before after e free ids ties has =
    HasTies-kept before after ties
    (λ t is.
    let p : ImageId → Bool = λ x. (x.client == owner t.client t.id) && (x.id == t.id) in
    ap (λ (es : List ImageId). option_map (λ x. x.image) (find p es)) ids
    ∙ ap (λ (o : Option ImageId). option_map (λ x. x.image) o) (find-put p e before.image_ids (untaken-apart before e t free is)) ∙ is)
    has

-- what came of a step that was not refused
went_on : {A B : Type 0} (o : Outcome A) (next : A → Outcome B) (y : B) → (o >>= next) ≡ Ok y → (x : A) × (o ≡ Ok x) × (next x ≡ Ok y)
went_on (Ok x) next y e = (x, refl, e)
went_on (Err n) next y e = absurd cc

was_there : {A : Type 0} (o : Option A) (n : ℕ) (x : A) → value_or_refuse o n ≡ Ok x → o ≡ Some x
was_there None n x e = absurd cc
was_there (Some y) n x e = cc

was_false : (b : Bool) (n : ℕ) (u : Unit {0}) → refuse_if b n ≡ Ok u → b ≡ false
was_false true n u e = absurd cc
was_false false n u e = refl

is_value : {A : Type 0} (x y : A) → ◌≡◌ {A = Outcome A} (Ok x) (Ok y) → x ≡ y
is_value x y e = cc

pub HasTies-add_id : (book next : Book) (client id image : ℕ) (screen : Option ℕ) → HasTies book → add_id book client id image screen ≡ Ok next → HasTies next
unfolding add_id
HasTies-add_id book next client id image screen has made =
    let step = went_on (refuse_if (is_image_id_taken book client id) 6) _ next made in
    subst HasTies (is_value _ next step.2)
    (HasTies-added book _ (record { client = client; id = id; image = image; tie = None }) (was_false _ 6 _ step.1) refl refl has)

pub HasTies-add_named : (book next : Book) (client id : ℕ) (name : List ℕ) → HasTies book → add_named book client id name ≡ Ok next → HasTies next
unfolding add_named
HasTies-add_named book next client id name has made =
    let step = went_on (refuse_if (is_image_id_taken book client id) 6) _ next made in
    let named = went_on (value_or_refuse (tie_of book name) 17) _ next step.2 in
    subst HasTies (is_value _ next named.2)
    (HasTies-added book _ (record { client = client; id = id; image = named.0.image; tie = Some named.0.number }) (was_false _ 6 _ step.1) refl refl has)

pub HasTies-new_screen : (book next : Book) (client id : ℕ) (public : Bool) (image fill : ℕ) → HasTies book → new_screen book client id public image fill ≡ Ok next → HasTies next
unfolding new_screen
HasTies-new_screen book next client id public image fill has made =
    let step = went_on (refuse_if (is_screen_id_taken book client id public) 7) _ next made in
    subst HasTies (is_value _ next step.2) (HasTies-same book _ refl refl has)

pub HasTies-add_screen : (book next : Book) (client id screen : ℕ) (public : Bool) → HasTies book → add_screen book client id screen public ≡ Ok next → HasTies next
unfolding add_screen
HasTies-add_screen book next client id screen public has made =
    let step = went_on (refuse_if (is_screen_id_taken book client id public) 7) _ next made in
    subst HasTies (is_value _ next step.2) (HasTies-same book _ refl refl has)

-- ---- names

-- an id shows the image that is looked up by it
image-shown : (book : Book) (client id i : ℕ) → image book client id ≡ Ok i → shown_by book client id ≡ Some i
unfolding image
image-shown book client id i e =
    let found = went_on (value_or_refuse (image_id book client id) 4) _ i e in
    let fresh = went_on (refuse_if (is_stale book found.0) 18) _ i found.2 in
    ap (λ (o : Option ImageId). option_map (λ x. x.image) o) (was_there _ 4 found.0 found.1) ∙ ap (λ (n : ℕ). Some n) (is_value found.0.image i fresh.2)

pub HasTies-tie : (book next : Book) (client id : ℕ) (name : List ℕ) → HasTies book → tie book client id name ≡ Ok next → HasTies next
unfolding tie
HasTies-tie book next client id name has made =
    let looked = went_on (image book client id) _ next made in
    let free = went_on (refuse_if (is_some (tie_of book name) || is_kept_name client name) 16) _ next looked.2 in
    subst HasTies (is_value _ next free.2)
    (record { shown = All-push (IsShown book) book.ties _ has.shown (image-shown book client id looked.0 looked.1) })

pub HasTies-untie : (book next : Book) (client id : ℕ) (name : List ℕ) → HasTies book → untie book client id name ≡ Ok next → HasTies next
unfolding untie
HasTies-untie book next client id name has made =
    let looked = went_on (image book client id) _ next made in
    let tied = went_on (value_or_refuse (tie_of book name) 17) _ next looked.2 in
    let right = went_on (refuse_if (is_kept_name client name || not (tied.0.image == looked.0)) 19) _ next tied.2 in
    subst HasTies (is_value _ next right.2)
    (record { shown = All-filter (λ (t : Tie). not (t.number == tied.0.number)) (IsShown book) book.ties has.shown })

-- ---- what goes

-- image ids and ties stay
record SameTies (before after : Book) : Type 0 where
  ids : after.image_ids ≡ before.image_ids
  ties : after.ties ≡ before.ties

without-same : (book : Book) (thing : Thing) → SameTies book (without book thing)
without-same book (Image i) = record { ids = refl; ties = refl }
without-same book (Screen s) = record { ids = refl; ties = refl }

settled-same : (steps : ℕ) (freed : Freed) (things : List Thing) → SameTies freed.book (settled steps freed things).book
settled-same zero freed things = record { ids = refl; ties = refl }
settled-same (suc steps) freed [] = record { ids = refl; ties = refl }
settled-same (suc steps) freed (t ∷ ts) = by (settled-same steps) (is_used freed.book t || has_gone freed t)
  where
    by : ((next : Freed) (things : List Thing) → SameTies next.book (settled steps next things).book) → (b : Bool)
        → (let next : Freed = elim b [ true ↦ settled steps freed ts | false ↦ settled steps (with_gone freed t) (references freed.book t ++ ts) ] in SameTies freed.book next.book)
    by more true = more freed ts
    by more false =
        let one : SameTies freed.book (without freed.book t) = without-same freed.book t in
        let rest : SameTies (without freed.book t) (settled steps (with_gone freed t) (references freed.book t ++ ts)).book = more (with_gone freed t) (references freed.book t ++ ts) in
        record { ids = rest.ids ∙ one.ids; ties = rest.ties ∙ one.ties }

freed_image_id-same : (freed : Freed) (e : ImageId) → SameTies (without_image_id freed.book e.client e.id) (freed_image_id freed e).book
freed_image_id-same freed e =
    let after : Book = without_image_id freed.book e.client e.id in
    settled-same (steps_for after (Image e.image ∷ [])) (record freed { book = after }) (Image e.image ∷ [])

freed_screen_id-same : (freed : Freed) (e : ScreenId) → SameTies freed.book (freed_screen_id freed e).book
freed_screen_id-same freed e =
    let after : Book = without_screen_id freed.book e.client e.id in
    let same : SameTies after (freed_screen_id freed e).book = settled-same (steps_for after (Screen e.screen ∷ [])) (record freed { book = after }) (Screen e.screen ∷ []) in
    record { ids = same.ids; ties = same.ties }

found-passes : {X : Type 0} (p : X → Bool) (xs : List X) (x : X) → find p xs ≡ Some x → p x ≡ true
found-passes p [] x e = absurd cc
found-passes {X = X} p (y ∷ ys) x e = by (λ k. found-passes p ys x k) (p y) refl e
  where
    by : (find p ys ≡ Some x → p x ≡ true) → (b : Bool) → p y ≡ b → cond b (Some y) (find p ys) ≡ Some x → p x ≡ true
    by more true is e = let same : y ≡ x = cc in ap p (sym same) ∙ is
    by more false is e = more e

-- an id of a connection's own, which is not 0, is of that connection and that id
own-is : (book : Book) (client id : ℕ) (e : ImageId) → (id == 0) ≡ false → own_image_id book client id ≡ Some e → ((e.client == client) && (e.id == id)) ≡ true
own-is book client id e other own =
    let looked : find (λ (x : ImageId). (x.client == client) && (x.id == id)) book.image_ids ≡ Some e = rw other at own in
    found-passes (λ x. (x.client == client) && (x.id == id)) book.image_ids e looked

-- an id that another id than the freed one looks for stays
stays-apart : (client id : ℕ) (e x : ImageId) (t : Tie) → (id == 0) ≡ false → ((e.client == client) && (e.id == id)) ≡ true → not (is_tied_by client id t) ≡ true
    → ((x.client == owner t.client t.id) && (x.id == t.id)) ≡ true → not (is_image_id e.client e.id x) ≡ true
stays-apart client id e x t other is lasts at = grind (arith, nat_tests)

-- 0 is the display for all, and its ties end with their connections
pub HasTies-free_id : (book : Book) (client id : ℕ) (freed : Freed) → (id == 0) ≡ false → HasTies book → free_id book client id ≡ Ok freed → HasTies freed.book
unfolding free_id
HasTies-free_id book client id freed other has made =
    let own = went_on (value_or_refuse (own_image_id book client id) 4) _ freed made in
    let e : ImageId = own.0 in
    let left : Freed = with_ties_ended (is_tied_by client id) (freed_image_id (nothing_freed book) e) in
    let same : SameTies (without_image_id book e.client e.id) (freed_image_id (nothing_freed book) e).book = freed_image_id-same (nothing_freed book) e in
    let at : ((e.client == client) && (e.id == id)) ≡ true = own-is book client id e other (was_there _ 4 e own.1) in
    let kept : HasTies left.book =
    HasTies-ended book left.book (is_tied_by client id) (ap (λ (ts : List Tie). filter (λ t. not (is_tied_by client id t)) ts) same.ties)
    (λ t lasts is.
    let p : ImageId → Bool = λ x. (x.client == owner t.client t.id) && (x.id == t.id) in
    ap (λ (es : List ImageId). option_map (λ x. x.image) (find p es)) same.ids
    ∙ ap (λ (o : Option ImageId). option_map (λ x. x.image) o) (find-filter p (λ x. not (is_image_id e.client e.id x)) book.image_ids (λ x. stays-apart client id e x t other at lasts)) ∙ is)
    has in
    subst (λ (f : Freed). HasTies f.book) (is_value left freed own.2) kept

pub HasTies-free_screen : (book : Book) (client id : ℕ) (freed : Freed) → HasTies book → free_screen book client id ≡ Ok freed → HasTies freed.book
unfolding free_screen
HasTies-free_screen book client id freed has made =
    let own = went_on (value_or_refuse (screen_id book client id) 5) _ freed made in
    let same : SameTies book (freed_screen_id (nothing_freed book) own.0).book = freed_screen_id-same (nothing_freed book) own.0 in
    subst (λ (f : Freed). HasTies f.book) (is_value _ freed own.2) (HasTies-same book _ same.ids same.ties has)

images-ties : (es : List ImageId) (freed : Freed) → (fold freed_image_id freed es).book.ties ≡ freed.book.ties
images-ties [] freed = refl
images-ties (e ∷ es) freed =
    let same : SameTies (without_image_id freed.book e.client e.id) (freed_image_id freed e).book = freed_image_id-same freed e in
    images-ties es (freed_image_id freed e) ∙ same.ties

screens-ties : (es : List ScreenId) (freed : Freed) → (fold freed_screen_id freed es).book.ties ≡ freed.book.ties
screens-ties [] freed = refl
screens-ties (e ∷ es) freed =
    let same : SameTies freed.book (freed_screen_id freed e).book = freed_screen_id-same freed e in
    screens-ties es (freed_screen_id freed e) ∙ same.ties

-- a tie that another connection made was made by another connection's id, or by that of the display
owner-apart : (client : ℕ) (t : Tie) → (client == 0) ≡ false → not (t.client == client) ≡ true → (owner t.client t.id == client) ≡ false
owner-apart client t other lasts = grind (arith, nat_tests)

leave-ties : (book : Book) (client : ℕ) → (leave book client).book.ties ≡ filter (λ t. not (t.client == client)) book.ties
unfolding leave
leave-ties book client =
    ap (λ (ts : List Tie). filter (λ t. not (t.client == client)) ts)
    (screens-ties (filter (λ e. e.client == client) book.screen_ids) _ ∙ images-ties (filter (λ e. e.client == client) book.image_ids) (nothing_freed book))

-- the connection is not the manager's
pub HasTies-leave : (book : Book) (client : ℕ) → (client == 0) ≡ false → HasTies book → HasTies (leave book client).book
HasTies-leave book client other has =
    HasTies-ended book (leave book client).book (λ t. t.client == client) (leave-ties book client)
    (λ t lasts is. ap (λ (o : Option ImageId). option_map (λ x. x.image) o) (leave-others book client t.client t.id (owner-apart client t other lasts)) ∙ is)
    has

-- ---- what a name gives

-- an id that shows an image uses it
shown-used : (book : Book) (client id i : ℕ) → shown_by book client id ≡ Some i → is_used book (Image i) ≡ true
shown-used book client id i is = by (image_id book client id) refl is
  where
    by : (o : Option ImageId) → image_id book client id ≡ o → option_map (λ x. x.image) o ≡ Some i → is_used book (Image i) ≡ true
    by None found k = absurd cc
    by (Some e) found k =
        let same : e.image ≡ i = cc in
        or_left _ _ (any-found _ (λ x. x.image == i) book.image_ids e found (grind (arith, nat_tests)))

-- each image that has a name is used
pub tied_is_shown : (book : Book) → HasTies book → All (λ t. is_used book (Image t.image) ≡ true) book.ties
tied_is_shown book has = All-weaker (IsShown book) _ (λ t is. shown-used book t.client t.id t.image is) book.ties has.shown

pub tie_of-shown : (book : Book) (name : List ℕ) (t : Tie) → HasTies book → tie_of book name ≡ Some t → is_used book (Image t.image) ≡ true
tie_of-shown book name t has found = All-found (λ t. is_used book (Image t.image) ≡ true) _ book.ties t (tied_is_shown book has) found

pub named-shown : (book : Book) (name : List ℕ) (i : ℕ) → HasTies book → named book name ≡ Ok i → is_used book (Image i) ≡ true
unfolding named
named-shown book name i has found = by (tie_of book name) refl (was_there _ 17 i found)
  where
    by : (o : Option Tie) → tie_of book name ≡ o → option_map (λ t. t.image) o ≡ Some i → is_used book (Image i) ≡ true
    by None is k = absurd cc
    by (Some t) is k = let same : t.image ≡ i = cc in subst (λ (n : ℕ). is_used book (Image n) ≡ true) same (tie_of-shown book name t has is)

absorbed : (a b c : Bool) → (a ≡ true → (b || c) ≡ true) → ((a || b) || c) ≡ (b || c)
absorbed true b c h = sym (h refl)
absorbed false b c h = refl

-- an id that a name makes uses nothing that was not used
pub add_named-used : (book next : Book) (client id : ℕ) (name : List ℕ) → HasTies book → add_named book client id name ≡ Ok next → (thing : Thing) → is_used next thing ≡ is_used book thing
unfolding add_named
add_named-used book next client id name has made thing =
    let free = went_on (refuse_if (is_image_id_taken book client id) 6) _ next made in
    let found = went_on (value_or_refuse (tie_of book name) 17) _ next free.2 in
    let t : Tie = found.0 in
    let e : ImageId = record { client = client; id = id; image = t.image; tie = Some t.number } in
    subst (λ (b : Book). is_used b thing ≡ is_used book thing) (is_value _ next found.2)
    (by e (λ i same. subst (λ (n : ℕ). is_used book (Image n) ≡ true) (eqb-true t.image i same) (tie_of-shown book name t has (was_there _ 17 t found.1))) thing)
  where
    by : (e : ImageId) → ((i : ℕ) → (e.image == i) ≡ true → is_used book (Image i) ≡ true) → (thing : Thing) → is_used (record book { image_ids = put_image_id e book.image_ids }) thing ≡ is_used book thing
    by e used (Screen s) = refl
    by e used (Image i) =
        ap (λ b. b || list_any (refers_to i) book.screens) (any-put (λ x. x.image == i) e book.image_ids)
        ∙ absorbed (e.image == i) (list_any (λ x. x.image == i) book.image_ids) (list_any (refers_to i) book.screens) (used i)

-- a tie changes nothing but the ties
pub tie-rest : (book next : Book) (client id : ℕ) (name : List ℕ) → tie book client id name ≡ Ok next → next ≡ record book { ties = next.ties; next_tie = next.next_tie }
unfolding tie
tie-rest book next client id name made =
    let looked = went_on (image book client id) _ next made in
    let free = went_on (refuse_if (is_some (tie_of book name) || is_kept_name client name) 16) _ next looked.2 in
    subst (λ (b : Book). b ≡ record book { ties = b.ties; next_tie = b.next_tie }) (is_value _ next free.2) refl

pub untie-rest : (book next : Book) (client id : ℕ) (name : List ℕ) → untie book client id name ≡ Ok next → next ≡ record book { ties = next.ties }
unfolding untie
untie-rest book next client id name made =
    let looked = went_on (image book client id) _ next made in
    let tied = went_on (value_or_refuse (tie_of book name) 17) _ next looked.2 in
    let right = went_on (refuse_if (is_kept_name client name || not (tied.0.image == looked.0)) 19) _ next tied.2 in
    subst (λ (b : Book). b ≡ record book { ties = b.ties }) (is_value _ next right.2) refl
