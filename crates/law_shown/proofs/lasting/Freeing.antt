-- What a device keeps where ids are freed.
use Rattle.std.proofs.Common.{◌≡◌, ℕ, zero, suc, Bool, true, false, List, [], ◌∷◌, ◌++◌, Option, Some, None, Ok, refl, sym, ap, subst, ◌∙◌, arith}
use Rattle.std.specs.Prelude.{◌==◌, ◌||◌, ◌&&◌, filter, find, not, is_some, option_map, if◌then◌else◌}
use Rattle.std.specs.List.{fold}
use Rattle.std.proofs.lemmas.Bool.{eqb-true}
use Rattle.std.proofs.lemmas.Bool.Decides.{nat_tests}
use Rattle.model_text.specs.text.Outcome.{◌>>=◌, value_or_refuse}
use Rattle.model_draw_parts.specs.declared.images.ImageId.{ImageId}
use Rattle.model_draw_parts.specs.declared.images.OnScreen.{OnScreen}
use Rattle.model_draw_parts.specs.declared.images.ScreenId.{ScreenId}
use Rattle.model_draw_parts.specs.declared.images.Thing.{Thing}
use Rattle.model_draw_parts.specs.declared.images.Thing.TheVariants.{Image, Screen}
use Rattle.model_draw_parts.specs.images.Book.{Book, image_id, owner, screen_id, screen_numbered}
use Rattle.model_draw_parts.specs.images.Release.{Freed, HasScreens, IsFreed, KeepsRest, free_id, free_screen, freed_image_id, freed_screen_id, has_gone, is_image_id, is_screen_id, is_tied_by, is_used, leave, nothing_freed, own_image_id, references, settled, steps_for, with_gone, with_ties_ended, without, without_image_id, without_screen_id}
use Rattle.model_draw_parts.specs.images.Ties.{HasTies}
use Rattle.model_draw_parts.proofs.images.Freed.{free_id-frees, free_id-others, free_screen-frees, leave-frees, leave-others}
use Rattle.model_draw_parts.proofs.images.Order.{free_id-rest, free_screen-rest, leave-rest}
use Rattle.model_draw_parts.proofs.images.Spare.{GivesBack, free_id-gives, free_screen-gives, leave-gives}
use Rattle.model_draw_parts.proofs.images.Ties.{HasTies-free_id, HasTies-free_screen, HasTies-leave}
use Rattle.model_draw.specs.draw.World.{World, after_freed, at_number, with_book}
use Rattle.model_draw.specs.draw.Orders.{manager}
use Rattle.law_shown.specs.shown.Showing.{AreFree, IsOrderly}
use Rattle.law_shown.proofs.shown.Tests.{find-filter, find-none, find-passes, not-true, not_both, split}
use Rattle.law_shown.proofs.shown.Spare.{spare-freed}
use Rattle.law_shown.proofs.shown.Numbers.{gone-book, gone-frames, gone-opening, gone-out, gone-spare}
use Rattle.law_shown.proofs.shown.Frames.{framed}
use Rattle.law_shown.proofs.shown.Following.{Follows, KeepsBook, follows, none, only}

-- what is used has not gone
used_stays : (book : Book) (freed : Freed) (t : Thing) → IsFreed book freed → is_used freed.book t ≡ true → has_gone freed t ≡ false
used_stays book freed t f used = not-true (has_gone freed t) (λ went. not_both (is_used freed.book t) used (f.gone_unused t went))

freed_keeps : (gone closed : ℕ → Bool) (book : Book) (freed : Freed) → IsFreed book freed → KeepsRest book freed
    → ((serial : ℕ) → gone serial ≡ false → image_id freed.book manager serial ≡ image_id book manager serial)
    → ((host : ℕ) → closed host ≡ false → screen_id freed.book manager host ≡ screen_id book manager host) → KeepsBook gone closed book freed.book
freed_keeps gone closed book freed f rest images screens = record {
  image_ids = images;
  screen_ids = screens;
  stands = λ i was now on.
      let here = used_stays book freed (Image i) f now in
      ap (λ (ws : List OnScreen). is_some (option_map (λ w. w.screen) (find (λ w. w.image == i) ws))) rest.windows
      ∙ ap (λ (o : Option OnScreen). is_some (option_map (λ w. w.screen) o))
      (find-filter (λ (w : OnScreen). w.image == i) (λ w. not (has_gone freed (Image w.image))) book.windows (λ w at. ap not (ap (λ (n : ℕ). has_gone freed (Image n)) (eqb-true w.image i at) ∙ here)))
      ∙ on;
  numbered = λ s was now. rest.screens s ∙ ap (λ (b : Bool). if b then None else screen_numbered book s) (used_stays book freed (Screen s) f now);
}

freed_orderly : (w : World) (freed : Freed) → IsOrderly w → IsFreed w.book freed → KeepsRest w.book freed → GivesBack w.book freed → HasTies freed.book → IsOrderly (after_freed w freed)
freed_orderly w freed o f rest gives ties =
    let left : World = with_book w freed.book in
    let is = gone-book freed.gone left in
    record {
      ties = subst HasTies (sym is) ties;
      images = λ i used.
          let now : is_used freed.book (Image i) ≡ true = ap (λ (b : Book). is_used b (Image i)) (sym is) ∙ used in
          gone-out freed.gone left i (o.images i (f.used (Image i) now)) (used_stays w.book freed (Image i) f now);
      numbers = gone-spare freed.gone left o.numbers (λ i there. o.images i (f.gone_used (Image i) there)) f.once;
      screens = subst HasScreens (sym is) f.screens;
      spare = subst (λ (b : Book). AreFree b.screens b.spare) (sym is) (spare-freed w.book freed o.spare o.screens f rest gives);
    }

pub freed_follows : (gone closed : ℕ → Bool) (w : World) (freed : Freed) → IsOrderly w → IsFreed w.book freed → KeepsRest w.book freed → GivesBack w.book freed → HasTies freed.book
    → ((serial : ℕ) → gone serial ≡ false → image_id freed.book manager serial ≡ image_id w.book manager serial)
    → ((host : ℕ) → closed host ≡ false → screen_id freed.book manager host ≡ screen_id w.book manager host) → Follows gone closed w (after_freed w freed)
freed_follows gone closed w freed o f rest gives ties images screens =
    let left : World = with_book w freed.book in
    let is = gone-book freed.gone left in
    follows gone closed w (after_freed w freed) (gone-opening freed.gone left) (subst (KeepsBook gone closed w.book) (sym is) (freed_keeps gone closed w.book freed f rest images screens))
    (λ i was now. framed (at_number w i) (at_number (after_freed w freed) i) (gone-frames freed.gone left i (used_stays w.book freed (Image i) f (ap (λ (b : Book). is_used b (Image i)) (sym is) ∙ now))))
    (freed_orderly w freed o f rest gives ties)

-- an image that nothing uses has not gone, and its number is out still
pub freed_beside : (w : World) (freed : Freed) (i : ℕ) → IsFreed w.book freed → is_used w.book (Image i) ≡ false → has_gone freed (Image i) ≡ false
freed_beside w freed i f unused = not-true (has_gone freed (Image i)) (λ went. not_both (is_used w.book (Image i)) (f.gone_used (Image i) went) unused)

-- ---- ids that stay

settled_part : {A : Type 0} (part : Book → A) → ((book : Book) (t : Thing) → part (without book t) ≡ part book) → (steps : ℕ) (freed : Freed) (things : List Thing) → part (settled steps freed things).book ≡ part freed.book
settled_part part like zero freed things = refl
settled_part part like (suc steps) freed [] = refl
settled_part part like (suc steps) freed (t ∷ ts) = by (settled_part part like steps) (is_used freed.book t || has_gone freed t)
  where
    by : ((next : Freed) (things : List Thing) → part (settled steps next things).book ≡ part next.book) → (b : Bool)
        → (let next : Freed = elim b [ true ↦ settled steps freed ts | false ↦ settled steps (with_gone freed t) (references freed.book t ++ ts) ] in part next.book) ≡ part freed.book
    by more true = more freed ts
    by more false = more (with_gone freed t) (references freed.book t ++ ts) ∙ like freed.book t

image_ids_stay : (book : Book) (t : Thing) → (without book t).image_ids ≡ book.image_ids
image_ids_stay book (Image i) = refl
image_ids_stay book (Screen s) = refl

screen_ids_stay : (book : Book) (t : Thing) → (without book t).screen_ids ≡ book.screen_ids
screen_ids_stay book (Image i) = refl
screen_ids_stay book (Screen s) = refl

-- an image id goes with no screen id, and a screen id with no image id
image-screens : (freed : Freed) (e : ImageId) → (freed_image_id freed e).book.screen_ids ≡ freed.book.screen_ids
image-screens freed e = settled_part (λ b. b.screen_ids) screen_ids_stay (steps_for (without_image_id freed.book e.client e.id) (Image e.image ∷ [])) (record freed { book = without_image_id freed.book e.client e.id }) (Image e.image ∷ [])

pub image-images : (freed : Freed) (e : ImageId) → (freed_image_id freed e).book.image_ids ≡ filter (λ x. not (is_image_id e.client e.id x)) freed.book.image_ids
image-images freed e = settled_part (λ b. b.image_ids) image_ids_stay (steps_for (without_image_id freed.book e.client e.id) (Image e.image ∷ [])) (record freed { book = without_image_id freed.book e.client e.id }) (Image e.image ∷ [])

screen-images : (freed : Freed) (e : ScreenId) → (freed_screen_id freed e).book.image_ids ≡ freed.book.image_ids
screen-images freed e = settled_part (λ b. b.image_ids) image_ids_stay (steps_for (without_screen_id freed.book e.client e.id) (Screen e.screen ∷ [])) (record freed { book = without_screen_id freed.book e.client e.id }) (Screen e.screen ∷ [])

screen-screens : (freed : Freed) (e : ScreenId) → (freed_screen_id freed e).book.screen_ids ≡ filter (λ x. not (is_screen_id e.client e.id x)) freed.book.screen_ids
screen-screens freed e = settled_part (λ b. b.screen_ids) screen_ids_stay (steps_for (without_screen_id freed.book e.client e.id) (Screen e.screen ∷ [])) (record freed { book = without_screen_id freed.book e.client e.id }) (Screen e.screen ∷ [])

-- the manager's screen ids stay where another's goes, or one of another host
screen-other : (freed : Freed) (e : ScreenId) (host : ℕ) → ((manager == e.client) && (host == e.id)) ≡ false → screen_id (freed_screen_id freed e).book manager host ≡ screen_id freed.book manager host
screen-other freed e host apart =
    ap (λ (ids : List ScreenId). find (λ x. (x.client == manager) && (x.id == host)) ids) (screen-screens freed e)
    ∙ find-filter (λ (x : ScreenId). (x.client == manager) && (x.id == host)) (λ x. not (is_screen_id e.client e.id x)) freed.book.screen_ids (λ x at. other x at)
  where
    other : (x : ScreenId) → ((x.client == manager) && (x.id == host)) ≡ true → not ((x.client == e.client) && (x.id == e.id)) ≡ true
    other x at =
        let one = split _ _ at in
        ap (λ (n : ℕ). not ((n == e.client) && (x.id == e.id))) (eqb-true x.client manager one.0) ∙ ap (λ (n : ℕ). not ((manager == e.client) && (n == e.id))) (eqb-true x.id host one.1) ∙ ap not apart

-- ---- the owner of an id

pub owner_manager : (id : ℕ) → owner manager id ≡ 0
owner_manager id = by (id == 0)
  where
    by : (b : Bool) → (let n : ℕ = if b then 0 else 0 in n ≡ 0)
    by true = refl
    by false = refl

pub not_manager : (k id : ℕ) → (k == 0) ≡ false → (owner manager id == k) ≡ false
not_manager k id other = ap (λ (n : ℕ). n == k) (owner_manager id) ∙ grind (arith, nat_tests)

-- ---- what a session frees

pub free_id-screen_ids : (book : Book) (client id : ℕ) (freed : Freed) → free_id book client id ≡ Ok freed → freed.book.screen_ids ≡ book.screen_ids
unfolding free_id
free_id-screen_ids book client id freed e = by (own_image_id book client id) e
  where
    by : (o : Option ImageId) → (value_or_refuse o 4 >>= λ e. Ok (with_ties_ended (is_tied_by client id) (freed_image_id (nothing_freed book) e))) ≡ Ok freed → freed.book.screen_ids ≡ book.screen_ids
    by None e = absurd cc
    by (Some x) e =
        let is : with_ties_ended (is_tied_by client id) (freed_image_id (nothing_freed book) x) ≡ freed = cc in
        ap (λ (f : Freed). f.book.screen_ids) (sym is) ∙ image-screens (nothing_freed book) x

pub free_id_follows : (w : World) (k id : ℕ) (freed : Freed) → IsOrderly w → (k == 0) ≡ false → (id == 0) ≡ false → free_id w.book k id ≡ Ok freed → Follows none none w (after_freed w freed)
free_id_follows w k id freed o other own e =
    freed_follows none none w freed o (free_id-frees w.book k id freed o.screens e) (free_id-rest w.book k id freed e) (free_id-gives w.book k id freed e) (HasTies-free_id w.book k id freed own o.ties e)
    (λ serial at. free_id-others w.book k id freed e manager serial (not_manager k serial other)) (λ host at. ap (λ (ids : List ScreenId). find (λ x. (x.client == manager) && (x.id == host)) ids) (free_id-screen_ids w.book k id freed e))

-- the screen that is freed is that of an id
screen-freed : (book : Book) (client id : ℕ) (freed : Freed) → free_screen book client id ≡ Ok freed → (e : ScreenId) × (screen_id book client id ≡ Some e) × (freed_screen_id (nothing_freed book) e ≡ freed)
unfolding free_screen
screen-freed book client id freed e = by (screen_id book client id) refl e
  where
    by : (o : Option ScreenId) → screen_id book client id ≡ o → (value_or_refuse o 5 >>= λ e. Ok (freed_screen_id (nothing_freed book) e)) ≡ Ok freed
        → (e : ScreenId) × (screen_id book client id ≡ Some e) × (freed_screen_id (nothing_freed book) e ≡ freed)
    by None at e = absurd cc
    by (Some x) at e = (x, at, cc)

pub free_screen-image_ids : (book : Book) (client id : ℕ) (freed : Freed) → free_screen book client id ≡ Ok freed → freed.book.image_ids ≡ book.image_ids
free_screen-image_ids book client id freed e =
    let it = screen-freed book client id freed e in
    ap (λ (f : Freed). f.book.image_ids) (sym it.2) ∙ screen-images (nothing_freed book) it.0

-- the manager's screen ids stay but for the one that is freed
pub free_screen-screen_ids : (book : Book) (client id : ℕ) (freed : Freed) → free_screen book client id ≡ Ok freed → (host : ℕ) → ((manager == client) && (host == id)) ≡ false → screen_id freed.book manager host ≡ screen_id book manager host
free_screen-screen_ids book client id freed e host apart =
    let it = screen-freed book client id freed e in
    let is = split _ _ (find-passes (λ (x : ScreenId). (x.client == client) && (x.id == id)) book.screen_ids it.0 it.1) in
    ap (λ (f : Freed). screen_id f.book manager host) (sym it.2)
    ∙ screen-other (nothing_freed book) it.0 host (ap (λ (n : ℕ). (manager == n) && (host == it.0.id)) (eqb-true it.0.client client is.0) ∙ ap (λ (n : ℕ). (manager == client) && (host == n)) (eqb-true it.0.id id is.1) ∙ apart)

-- and that one is free
pub free_screen-unknown : (book : Book) (id : ℕ) (freed : Freed) → free_screen book manager id ≡ Ok freed → screen_id freed.book manager id ≡ None
free_screen-unknown book id freed e =
    let it = screen-freed book manager id freed e in
    let is = split _ _ (find-passes (λ (x : ScreenId). (x.client == manager) && (x.id == id)) book.screen_ids it.0 it.1) in
    ap (λ (f : Freed). screen_id f.book manager id) (sym it.2)
    ∙ ap (λ (ids : List ScreenId). find (λ x. (x.client == manager) && (x.id == id)) ids) (screen-screens (nothing_freed book) it.0)
    ∙ find-none (λ (x : ScreenId). (x.client == manager) && (x.id == id)) (λ x. not (is_screen_id it.0.client it.0.id x)) book.screen_ids (λ x at. away x it.0 at is)
  where
    away : (x e : ScreenId) → ((x.client == manager) && (x.id == id)) ≡ true → ((e.client == manager) ≡ true) × ((e.id == id) ≡ true) → not ((x.client == e.client) && (x.id == e.id)) ≡ false
    away x e at is = let one = split (x.client == manager) (x.id == id) at in let a = one.0 in let b = one.1 in let c = is.0 in let d = is.1 in grind (arith, nat_tests)

pub free_screen_follows : (closed : ℕ → Bool) (w : World) (k id : ℕ) (freed : Freed) → IsOrderly w → free_screen w.book k id ≡ Ok freed
    → ((host : ℕ) → closed host ≡ false → ((manager == k) && (host == id)) ≡ false) → Follows none closed w (after_freed w freed)
free_screen_follows closed w k id freed o e apart =
    freed_follows none closed w freed o (free_screen-frees w.book k id freed o.screens e) (free_screen-rest w.book k id freed e) (free_screen-gives w.book k id freed e) (HasTies-free_screen w.book k id freed o.ties e)
    (λ serial at. ap (λ (ids : List ImageId). find (λ x. (x.client == owner manager serial) && (x.id == serial)) ids) (free_screen-image_ids w.book k id freed e))
    (λ host at. free_screen-screen_ids w.book k id freed e host (apart host at))

-- ---- a connection that ends

images-screens : (es : List ImageId) (freed : Freed) → (fold freed_image_id freed es).book.screen_ids ≡ freed.book.screen_ids
images-screens [] freed = refl
images-screens (e ∷ es) freed = images-screens es (freed_image_id freed e) ∙ image-screens freed e

another : (n : ℕ) → (n == 0) ≡ false → (manager == n) ≡ false
another n h = grind (arith, nat_tests)

screens-others : (k : ℕ) → (k == 0) ≡ false → (es : List ScreenId) (freed : Freed) (host : ℕ) → screen_id (fold freed_screen_id freed (filter (λ e. e.client == k) es)).book manager host ≡ screen_id freed.book manager host
screens-others k other [] freed host = refl
screens-others k other (e ∷ es) freed host = by (λ f. screens-others k other es f host) (e.client == k) refl
  where
    by : ((f : Freed) → screen_id (fold freed_screen_id f (filter (λ e. e.client == k) es)).book manager host ≡ screen_id f.book manager host)
        → (b : Bool) → (e.client == k) ≡ b → screen_id (fold freed_screen_id freed (if b then e ∷ filter (λ e. e.client == k) es else filter (λ e. e.client == k) es)).book manager host ≡ screen_id freed.book manager host
    by rest true is = rest (freed_screen_id freed e) ∙ screen-other freed e host (ap (λ (n : ℕ). (manager == n) && (host == e.id)) (eqb-true e.client k is) ∙ ap (λ (b : Bool). b && (host == e.id)) (another k other))
    by rest false is = rest freed

pub leave_follows : (w : World) (k : ℕ) → IsOrderly w → (k == 0) ≡ false → Follows none none w (after_freed w (leave w.book k))
unfolding leave
leave_follows w k o other =
    freed_follows none none w (leave w.book k) o (leave-frees w.book k o.screens) (leave-rest w.book k) (leave-gives w.book k) (HasTies-leave w.book k other o.ties)
    (λ serial at. leave-others w.book k manager serial (not_manager k serial other))
    (λ host at.
    let images = fold freed_image_id (nothing_freed w.book) (filter (λ e. e.client == k) w.book.image_ids) in
    screens-others k other w.book.screen_ids images host ∙ ap (λ (ids : List ScreenId). find (λ x. (x.client == manager) && (x.id == host)) ids) (images-screens (filter (λ e. e.client == k) w.book.image_ids) (nothing_freed w.book)))

-- ---- the image of a window

-- another image id of the manager's
image-other : (freed : Freed) (e : ImageId) (serial : ℕ) → (serial == e.id) ≡ false → image_id (freed_image_id freed e).book manager serial ≡ image_id freed.book manager serial
image-other freed e serial apart =
    ap (λ (ids : List ImageId). find (λ x. (x.client == owner manager serial) && (x.id == serial)) ids) (image-images freed e)
    ∙ find-filter (λ (x : ImageId). (x.client == owner manager serial) && (x.id == serial)) (λ x. not (is_image_id e.client e.id x)) freed.book.image_ids (λ x at. other x at)
  where
    away : (a b : Bool) → b ≡ false → not (a && b) ≡ true
    away true b h = ap not h
    away false b h = refl

    other : (x : ImageId) → ((x.client == owner manager serial) && (x.id == serial)) ≡ true → not ((x.client == e.client) && (x.id == e.id)) ≡ true
    other x at = away (x.client == e.client) (x.id == e.id) (ap (λ (n : ℕ). n == e.id) (eqb-true x.id serial (split (x.client == owner manager serial) (x.id == serial) at).1) ∙ apart)

pub image-freed : (book : Book) (window : ℕ) (freed : Freed) → (window == 0) ≡ false → free_id book manager window ≡ Ok freed
    → (e : ImageId) × (image_id book manager window ≡ Some e) × (with_ties_ended (is_tied_by manager window) (freed_image_id (nothing_freed book) e) ≡ freed)
unfolding free_id
image-freed book window freed counted e = by (image_id book manager window) refl (sym own ∙ e)
  where
    own : (value_or_refuse (own_image_id book manager window) 4 >>= λ e. Ok (with_ties_ended (is_tied_by manager window) (freed_image_id (nothing_freed book) e)))
        ≡ (value_or_refuse (image_id book manager window) 4 >>= λ e. Ok (with_ties_ended (is_tied_by manager window) (freed_image_id (nothing_freed book) e)))
    own = ap (λ (b : Bool). value_or_refuse (if b && not (manager == 0) then None else image_id book manager window) 4 >>= λ e. Ok (with_ties_ended (is_tied_by manager window) (freed_image_id (nothing_freed book) e))) counted

    by : (o : Option ImageId) → image_id book manager window ≡ o → (value_or_refuse o 4 >>= λ e. Ok (with_ties_ended (is_tied_by manager window) (freed_image_id (nothing_freed book) e))) ≡ Ok freed
        → (e : ImageId) × (image_id book manager window ≡ Some e) × (with_ties_ended (is_tied_by manager window) (freed_image_id (nothing_freed book) e) ≡ freed)
    by None at e = absurd cc
    by (Some x) at e = (x, at, cc)

-- it can be freed
pub free_id-there : (book : Book) (window : ℕ) (e : ImageId) → (window == 0) ≡ false → image_id book manager window ≡ Some e → (freed : Freed) × (free_id book manager window ≡ Ok freed)
unfolding free_id
free_id-there book window e counted found = (
  with_ties_ended (is_tied_by manager window) (freed_image_id (nothing_freed book) e),
  ap (λ (b : Bool). value_or_refuse (if b && not (manager == 0) then None else image_id book manager window) 4 >>= λ e. Ok (with_ties_ended (is_tied_by manager window) (freed_image_id (nothing_freed book) e))) counted
      ∙ ap (λ (o : Option ImageId). value_or_refuse o 4 >>= λ e. Ok (with_ties_ended (is_tied_by manager window) (freed_image_id (nothing_freed book) e))) found,
)

is_id : (book : Book) (window : ℕ) (e : ImageId) → image_id book manager window ≡ Some e → (e.client ≡ 0) × (e.id ≡ window)
is_id book window e found =
    let is = split _ _ (find-passes (λ (x : ImageId). (x.client == owner manager window) && (x.id == window)) book.image_ids e found) in
    (eqb-true e.client (owner manager window) is.0 ∙ owner_manager window, eqb-true e.id window is.1)

-- which leaves the other windows
pub window_freed : (w : World) (window : ℕ) (freed : Freed) → IsOrderly w → (window == 0) ≡ false → free_id w.book manager window ≡ Ok freed → Follows (only window) none w (after_freed w freed)
window_freed w window freed o counted e =
    let it = image-freed w.book window freed counted e in
    let is = is_id w.book window it.0 it.1 in
    freed_follows (only window) none w freed o (free_id-frees w.book manager window freed o.screens e) (free_id-rest w.book manager window freed e) (free_id-gives w.book manager window freed e) (HasTies-free_id w.book manager window freed counted o.ties e)
    (λ serial at. ap (λ (f : Freed). image_id f.book manager serial) (sym it.2) ∙ image-other (nothing_freed w.book) it.0 serial (ap (λ (n : ℕ). serial == n) is.1 ∙ at))
    (λ host at. ap (λ (ids : List ScreenId). find (λ x. (x.client == manager) && (x.id == host)) ids) (free_id-screen_ids w.book manager window freed e))

-- and its id is free
pub window_unknown : (book : Book) (window : ℕ) (freed : Freed) → (window == 0) ≡ false → free_id book manager window ≡ Ok freed → image_id freed.book manager window ≡ None
window_unknown book window freed counted e =
    let it = image-freed book window freed counted e in
    let is = is_id book window it.0 it.1 in
    ap (λ (f : Freed). image_id f.book manager window) (sym it.2)
    ∙ ap (λ (ids : List ImageId). find (λ x. (x.client == owner manager window) && (x.id == window)) ids) (image-images (nothing_freed book) it.0)
    ∙ find-none (λ (x : ImageId). (x.client == owner manager window) && (x.id == window)) (λ x. not (is_image_id it.0.client it.0.id x)) book.image_ids (λ x at. away x it.0 is at)
  where
    away : (x e : ImageId) → (e.client ≡ 0) × (e.id ≡ window) → ((x.client == owner manager window) && (x.id == window)) ≡ true → not ((x.client == e.client) && (x.id == e.id)) ≡ false
    away x e is at =
        let one = split _ _ at in
        let a : x.client ≡ 0 = eqb-true x.client (owner manager window) one.0 ∙ owner_manager window in
        let b : x.id ≡ window = eqb-true x.id window one.1 in
        let c = is.0 in
        let d = is.1 in
        grind (arith, nat_tests)
