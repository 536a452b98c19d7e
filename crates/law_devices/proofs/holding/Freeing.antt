-- A window keeps its image, its screen and its name's tie where a connection frees ids that made no ties, or ends.
use Rattle.std.proofs.Common.{◌≡◌, ℕ, zero, suc, Bool, true, false, List, [], ◌∷◌, ◌++◌, Option, Some, Ok, refl, sym, ap, subst, ◌∙◌}
use Rattle.std.specs.Prelude.{◌==◌, ◌&&◌, ◌||◌, All, filter, find, not, option_map}
use Rattle.std.specs.List.{fold}
use Rattle.std.proofs.lemmas.Bool.{eqb-true, eqb-false}
use Rattle.std.proofs.lemmas.List.Elements.{All-weaker}
use Rattle.model_forest.specs.Steps.{clamped_rect}
use Rattle.model_draw_parts.specs.declared.images.ImageId.{ImageId}
use Rattle.model_draw_parts.specs.declared.images.OnScreen.{OnScreen}
use Rattle.model_draw_parts.specs.declared.images.ScreenId.{ScreenId}
use Rattle.model_draw_parts.specs.declared.images.Thing.{Thing}
use Rattle.model_draw_parts.specs.declared.images.Thing.TheVariants.{Image, Screen}
use Rattle.model_draw_parts.specs.declared.images.Tie.{Tie}
use Rattle.model_draw_parts.specs.images.Book.{Book, image_id, owner, screen_id, screen_of}
use Rattle.model_draw_parts.specs.images.Release.{Freed, IsFreed, KeepsRest, free_id, free_screen, freed_image_id, freed_screen_id, has_gone, is_tied_by, is_used, leave, nothing_freed, own_image_id, references, settled, steps_for, with_gone, with_ties_ended, without_image_id, without_screen_id}
use Rattle.model_draw_parts.proofs.images.Freed.{free_id-frees, free_id-others, free_screen-frees, free_screen-others, leave-frees, leave-others}
use Rattle.model_draw_parts.proofs.images.Order.{free_id-rest, free_screen-rest, leave-rest}
use Rattle.model_draw.specs.draw.World.{World, after_freed, after_leave, at_number, with_book, without_thing}
use Rattle.model_draw.specs.draw.Orders.{manager}
use Rattle.law_shown.specs.shown.Showing.{IsOrderly}
use Rattle.law_shown.proofs.shown.Following.{shown_used}
use Rattle.law_shown.proofs.shown.Numbers.{gone-book}
use Rattle.law_shown.proofs.shown.Tests.{find-filter, first_false, not-true, not_both, second_false, turned, value_ok}
use Rattle.law_likeness.proofs.likeness.Ids.{owner_manager}
use Rattle.law_likeness.proofs.likeness.Shapes.{Keeps, keeps_itself, keeps_release, keeps_then}
use Rattle.law_likeness.proofs.freeing.Freeing.{none_ended}

-- the clip rectangle of an image has coordinates of 32 bits
abbrev pub IsNear : World → ℕ → Type 0
IsNear w i = clamped_rect (at_number w i).clipr ≡ (at_number w i).clipr

-- What a window's image keeps: its id and its screen, and that its clip rectangle is near. All ties are as they were.
pub record Minds (serial i : ℕ) (old new : World) : Type 0 where
  pub id : image_id new.book manager serial ≡ image_id old.book manager serial
  pub ties : new.book.ties ≡ old.book.ties
  pub place : screen_of new.book i ≡ screen_of old.book i
  pub near : IsNear old i → IsNear new i

-- an image of the same shape is as near
pub near_kept : (w next : World) (i : ℕ) → Keeps w.images next.images i → IsNear w i → IsNear next i
near_kept w next i keeps near = ap clamped_rect keeps.shape.clipr ∙ near ∙ sym keeps.shape.clipr

-- ---- what a release leaves

settled_ties : (steps : ℕ) (freed : Freed) (things : List Thing) → (settled steps freed things).book.ties ≡ freed.book.ties
settled_ties zero freed things = refl
settled_ties (suc steps) freed [] = refl
settled_ties (suc steps) freed (t ∷ ts) = by (settled_ties steps) (is_used freed.book t || has_gone freed t)
  where
    gone : (t : Thing) → (with_gone freed t).book.ties ≡ freed.book.ties
    gone (Image i) = refl
    gone (Screen s) = refl

    by : ((next : Freed) (things : List Thing) → (settled steps next things).book.ties ≡ next.book.ties) → (b : Bool)
        → (let next : Freed = elim b [ true ↦ settled steps freed ts | false ↦ settled steps (with_gone freed t) (references freed.book t ++ ts) ] in next.book.ties) ≡ freed.book.ties
    by more true = more freed ts
    by more false = more (with_gone freed t) (references freed.book t ++ ts) ∙ gone t

image_ties : (freed : Freed) (e : ImageId) → (freed_image_id freed e).book.ties ≡ freed.book.ties
image_ties freed e =
    settled_ties (steps_for (without_image_id freed.book e.client e.id) (Image e.image ∷ [])) (record freed { book = without_image_id freed.book e.client e.id }) (Image e.image ∷ [])

screen_ties : (freed : Freed) (e : ScreenId) → (freed_screen_id freed e).book.ties ≡ freed.book.ties
screen_ties freed e =
    settled_ties (steps_for (without_screen_id freed.book e.client e.id) (Screen e.screen ∷ [])) (record freed { book = without_screen_id freed.book e.client e.id }) (Screen e.screen ∷ [])

images_ties : (es : List ImageId) (freed : Freed) → (fold freed_image_id freed es).book.ties ≡ freed.book.ties
images_ties [] freed = refl
images_ties (e ∷ es) freed = images_ties es (freed_image_id freed e) ∙ image_ties freed e

screens_ties : (es : List ScreenId) (freed : Freed) → (fold freed_screen_id freed es).book.ties ≡ freed.book.ties
screens_ties [] freed = refl
screens_ties (e ∷ es) freed = screens_ties es (freed_screen_id freed e) ∙ screen_ties freed e

-- ties of others do not end
ended_ties : (book : Book) (ends : Tie → Bool) (freed : Freed) → freed.book.ties ≡ book.ties → All (λ t. ends t ≡ false) book.ties → (with_ties_ended ends freed).book.ties ≡ book.ties
ended_ties book ends freed same none =
    ap (λ (f : Freed). f.book.ties) (none_ended ends freed (subst (λ (ts : List Tie). All (λ t. ends t ≡ false) ts) (sym same) none)) ∙ same

gone_keeps : (things : List Thing) (w : World) (i : ℕ) → has_gone (record { book = w.book; gone = things }) (Image i) ≡ false → Keeps w.images (fold without_thing w things).images i
gone_keeps [] w i apart = keeps_itself w.images i
gone_keeps (Image j ∷ things) w i apart =
    keeps_then w.images (without_thing w (Image j)).images (fold without_thing (without_thing w (Image j)) things).images i
    (keeps_release w.images j i (eqb-false i j (first_false (i == j) _ apart))) (gone_keeps things (without_thing w (Image j)) i (second_false (i == j) _ apart))
gone_keeps (Screen s ∷ things) w i apart = gone_keeps things w i apart

module _ (k : ℕ) (w : World) (serial : ℕ) (e : ImageId) (found : image_id w.book manager serial ≡ Some e) where
  freed_minds : (freed : Freed) → image_id freed.book manager serial ≡ image_id w.book manager serial → freed.book.ties ≡ w.book.ties → IsFreed w.book freed → KeepsRest w.book freed
      → Minds serial e.image w (after_freed w freed)
  freed_minds freed id ties f rest =
      let left : World = with_book w freed.book in
      let is = gone-book freed.gone left in
      record {
        id = ap (λ (b : Book). image_id b manager serial) is ∙ id;
        ties = ap (λ (b : Book). b.ties) is ∙ ties;
        place = ap (λ (b : Book). screen_of b e.image) is ∙ ap (λ (ws : List OnScreen). option_map (λ w. w.screen) (find (λ w. w.image == e.image) ws)) rest.windows
            ∙ ap (λ (o : Option OnScreen). option_map (λ w. w.screen) o)
            (find-filter (λ (v : OnScreen). v.image == e.image) (λ v. not (has_gone freed (Image v.image))) w.book.windows (λ v at. ap not (ap (λ (n : ℕ). has_gone freed (Image n)) (eqb-true v.image e.image at) ∙ here)));
        near = near_kept w (after_freed w freed) e.image (gone_keeps freed.gone left e.image here);
      }
    where
      here : has_gone freed (Image e.image) ≡ false
      here =
          not-true (has_gone freed (Image e.image)) (λ went.
          not_both (is_used freed.book (Image e.image)) (shown_used freed.book manager serial e (id ∙ found)) (f.gone_unused (Image e.image) went))

  module _ (other : (k == manager) ≡ false) (orderly : IsOrderly w) (untied : All (λ t. (t.client == k) ≡ false) w.book.ties) where
    apart : (owner manager serial == k) ≡ false
    apart = ap (λ (n : ℕ). n == k) (owner_manager serial) ∙ turned manager k ∙ other

    not_by : (id : ℕ) → All (λ t. is_tied_by k id t ≡ false) w.book.ties
    not_by id = All-weaker (λ t. (t.client == k) ≡ false) (λ t. is_tied_by k id t ≡ false) (λ t is. ap (λ (b : Bool). b && (t.id == id)) is) w.book.ties untied

    pub id_minds : (id : ℕ) (freed : Freed) → free_id w.book k id ≡ Ok freed → Minds serial e.image w (after_freed w freed)
    unfolding free_id
    id_minds id freed made =
        let own = value_ok (own_image_id w.book k id) 4 _ freed made in
        let f : Freed = freed_image_id (nothing_freed w.book) own.0 in
        let is : with_ties_ended (is_tied_by k id) f ≡ freed = cc in
        freed_minds freed (free_id-others w.book k id freed made manager serial apart)
        (ap (λ (x : Freed). x.book.ties) (sym is) ∙ ended_ties w.book (is_tied_by k id) f (image_ties (nothing_freed w.book) own.0) (not_by id)) (free_id-frees w.book k id freed orderly.screens made)
        (free_id-rest w.book k id freed made)

    pub screen_minds : (id : ℕ) (freed : Freed) → free_screen w.book k id ≡ Ok freed → Minds serial e.image w (after_freed w freed)
    unfolding free_screen
    screen_minds id freed made =
        let own = value_ok (screen_id w.book k id) 5 _ freed made in
        let f : Freed = freed_screen_id (nothing_freed w.book) own.0 in
        let is : f ≡ freed = cc in
        freed_minds freed (free_screen-others w.book k id freed made manager serial apart)
        (ap (λ (x : Freed). x.book.ties) (sym is) ∙ screen_ties (nothing_freed w.book) own.0) (free_screen-frees w.book k id freed orderly.screens made) (free_screen-rest w.book k id freed made)

    left_ties : (leave w.book k).book.ties ≡ w.book.ties
    unfolding leave
    left_ties =
        let es = filter (λ (x : ImageId). x.client == k) w.book.image_ids in
        let ss = filter (λ (x : ScreenId). x.client == k) w.book.screen_ids in
        let one : Freed = fold freed_image_id (nothing_freed w.book) es in
        let two : Freed = fold freed_screen_id one ss in
        ended_ties w.book (λ t. t.client == k) two (screens_ties ss one ∙ images_ties es (nothing_freed w.book)) untied

    pub leave_minds : Minds serial e.image w (after_leave w k)
    leave_minds =
        let one = freed_minds (leave w.book k) (leave-others w.book k manager serial apart) left_ties (leave-frees w.book k orderly.screens) (leave-rest w.book k) in
        record { id = one.id; ties = one.ties; place = one.place; near = one.near }
