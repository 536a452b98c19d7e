-- The numbers of the screens that go come back, behind those that did before.
use Rattle.std.proofs.Common.{◌≡◌, ℕ, zero, suc, Bool, true, false, List, [], ◌∷◌, ◌++◌, length, Option, Some, None, Ok, refl, sym, ap, subst, ◌∙◌, append_assoc}
use Rattle.std.specs.Prelude.{◌==◌, ◌||◌, filter, slice_set}
use Rattle.std.specs.List.{fold}
use Rattle.model_text.specs.text.Outcome.{value_or_refuse, ◌>>=◌}
use Rattle.model_draw_parts.specs.declared.images.ImageId.{ImageId}
use Rattle.model_draw_parts.specs.declared.images.ScreenId.{ScreenId}
use Rattle.model_draw_parts.specs.declared.images.Screen.{Screen as Filled}
use Rattle.model_draw_parts.specs.declared.images.Thing.{Thing}
use Rattle.model_draw_parts.specs.declared.images.Thing.TheVariants.{Image, Screen}
use Rattle.model_draw_parts.specs.images.Book.{Book, screen_id}
use Rattle.model_draw_parts.specs.images.Release.{Freed, free_id, free_screen, freed_image_id, freed_screen_id, has_gone, is_tied_by, is_used, leave, nothing_freed, own_image_id, references, settled, steps_for, with_gone, with_ties_ended, without_image_id, without_screen_id}

-- the screens among things
abbrev pub screens_in : List Thing → List ℕ
screens_in [] = []
screens_in (Image i ∷ things) = screens_in things
screens_in (Screen s ∷ things) = s ∷ screens_in things

screens_in-append : (things more : List Thing) → screens_in (things ++ more) ≡ screens_in things ++ screens_in more
screens_in-append [] more = refl
screens_in-append (Image i ∷ things) more = screens_in-append things more
screens_in-append (Screen s ∷ things) more = ap (λ ss. s ∷ ss) (screens_in-append things more)

-- the numbers that a release gives back
pub record GivesBack (book : Book) (freed : Freed) : Type 0 where
  pub spare : freed.book.spare ≡ book.spare ++ screens_in freed.gone
  pub made : length freed.book.screens ≡ length book.screens

length-set : (xs : List (Option Filled)) (n : ℕ) (x : Option Filled) → length (slice_set xs n x) ≡ length xs
length-set [] n x = refl
length-set (y ∷ xs) zero x = refl
length-set (y ∷ xs) (suc n) x = ap suc (length-set xs n x)

gives-on : (book : Book) (freed : Freed) (thing : Thing) → GivesBack book freed → GivesBack book (with_gone freed thing)
gives-on book freed (Image i) g = record {
  spare = g.spare ∙ ap (λ ss. book.spare ++ ss) (sym (screens_in-append freed.gone (Image i ∷ []) ∙ none (screens_in freed.gone)));
  made = g.made;
}
  where
    none : (ss : List ℕ) → ss ++ [] ≡ ss
    none [] = refl
    none (s ∷ ss) = ap (λ ts. s ∷ ts) (none ss)
gives-on book freed (Screen s) g = record {
  spare =
      ap (λ ss. ss ++ s ∷ []) g.spare ∙ append_assoc book.spare (screens_in freed.gone) (s ∷ [])
      ∙ ap (λ ss. book.spare ++ ss) (sym (screens_in-append freed.gone (Screen s ∷ [])));
  made = length-set freed.book.screens s None ∙ g.made;
}

settled_gives : (steps : ℕ) (book : Book) (freed : Freed) (things : List Thing) → GivesBack book freed → GivesBack book (settled steps freed things)
settled_gives zero book freed things g = g
settled_gives (suc steps) book freed [] g = g
settled_gives (suc steps) book freed (t ∷ ts) g = by (settled_gives steps book) (is_used freed.book t || has_gone freed t)
  where
    by : ((next : Freed) (things : List Thing) → GivesBack book next → GivesBack book (settled steps next things)) → (b : Bool)
        → GivesBack book (elim b [ true ↦ settled steps freed ts | false ↦ settled steps (with_gone freed t) (references freed.book t ++ ts) ])
    by more true = more freed ts g
    by more false = more (with_gone freed t) _ (gives-on book freed t g)

freed_image_id_gives : (book : Book) (freed : Freed) (e : ImageId) → GivesBack book freed → GivesBack book (freed_image_id freed e)
freed_image_id_gives book freed e g =
    let after : Book = without_image_id freed.book e.client e.id in
    settled_gives (steps_for after (Image e.image ∷ [])) book _ (Image e.image ∷ []) (record { spare = g.spare; made = g.made })

freed_screen_id_gives : (book : Book) (freed : Freed) (e : ScreenId) → GivesBack book freed → GivesBack book (freed_screen_id freed e)
freed_screen_id_gives book freed e g =
    let after : Book = without_screen_id freed.book e.client e.id in
    settled_gives (steps_for after (Screen e.screen ∷ [])) book _ (Screen e.screen ∷ []) (record { spare = g.spare; made = g.made })

begins : (book : Book) → GivesBack book (nothing_freed book)
begins book = record { spare = sym (none book.spare); made = refl }
  where
    none : (ss : List ℕ) → ss ++ [] ≡ ss
    none [] = refl
    none (s ∷ ss) = ap (λ ts. s ∷ ts) (none ss)

pub free_id-gives : (book : Book) (client id : ℕ) (freed : Freed) → free_id book client id ≡ Ok freed → GivesBack book freed
unfolding free_id
free_id-gives book client id freed e = by (own_image_id book client id) e
  where
    by : (o : Option ImageId)
        → (value_or_refuse o 4 >>= λ e. Ok (with_ties_ended (is_tied_by client id) (freed_image_id (nothing_freed book) e))) ≡ Ok freed → GivesBack book freed
    by None e = absurd cc
    by (Some x) e =
        let same : with_ties_ended (is_tied_by client id) (freed_image_id (nothing_freed book) x) ≡ freed = cc in
        let g = freed_image_id_gives book _ x (begins book) in
        subst (GivesBack book) same (record { spare = g.spare; made = g.made })

pub free_screen-gives : (book : Book) (client id : ℕ) (freed : Freed) → free_screen book client id ≡ Ok freed → GivesBack book freed
unfolding free_screen
free_screen-gives book client id freed e = by (screen_id book client id) e
  where
    by : (o : Option ScreenId) → (value_or_refuse o 5 >>= λ e. Ok (freed_screen_id (nothing_freed book) e)) ≡ Ok freed → GivesBack book freed
    by None e = absurd cc
    by (Some x) e =
        let same : freed_screen_id (nothing_freed book) x ≡ freed = cc in
        subst (GivesBack book) same (freed_screen_id_gives book _ x (begins book))

images_give : (book : Book) (es : List ImageId) (freed : Freed) → GivesBack book freed → GivesBack book (fold freed_image_id freed es)
images_give book [] freed g = g
images_give book (e ∷ es) freed g = images_give book es _ (freed_image_id_gives book freed e g)

screen_ids_give : (book : Book) (es : List ScreenId) (freed : Freed) → GivesBack book freed → GivesBack book (fold freed_screen_id freed es)
screen_ids_give book [] freed g = g
screen_ids_give book (e ∷ es) freed g = screen_ids_give book es _ (freed_screen_id_gives book freed e g)

pub leave-gives : (book : Book) (client : ℕ) → GivesBack book (leave book client)
unfolding leave
leave-gives book client =
    let g =
    screen_ids_give book (filter (λ e. e.client == client) book.screen_ids) _
    (images_give book (filter (λ e. e.client == client) book.image_ids) _ (begins book)) in
    record { spare = g.spare; made = g.made }
