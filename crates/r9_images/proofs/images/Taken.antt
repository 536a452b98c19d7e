-- An id that is not taken is none of the connection's.
use Rattle.std.proofs.Common.{◌≡◌, ℕ, Bool, true, false, cond, Option, Some, None, refl, sym, ap, ◌∙◌, arith}
use Rattle.std.specs.Prelude.{◌==◌, ◌&&◌, ◌||◌, not, find, is_some, List, [], ◌∷◌}
use Rattle.std.specs.List.{list_any}
use Rattle.std.proofs.lemmas.Bool.Decides.{nat_tests}
use Rattle.model_draw_parts.specs.images.Book.{Book, owner, image_id, screen_id, is_image_id_taken, is_screen_id_taken}
use Rattle.model_draw_parts.specs.images.Release.{is_image_id, is_screen_id}

own_owner : (client id : ℕ) → ((id == 0) && not (client == 0)) ≡ false → owner client id ≡ client
own_owner client id own = grind (arith, nat_tests)

first_false : (a b : Bool) → (a || b) ≡ false → a ≡ false
first_false true b h = absurd cc
first_false false b h = refl

second_false : (a b : Bool) → (a || b) ≡ false → b ≡ false
second_false true b h = absurd cc
second_false false b h = h

is_none : {X : Type 0} (o : Option X) → is_some o ≡ false → o ≡ None
is_none None h = refl
is_none (Some x) h = absurd cc

pub untaken : (book : Book) (client id : ℕ) (taken : Bool) → taken ≡ is_image_id_taken book client id → taken ≡ false → find (is_image_id client id) book.image_ids ≡ None
untaken book client id taken is not_taken =
    let free : is_image_id_taken book client id ≡ false = sym is ∙ not_taken in
    let own : owner client id ≡ client = own_owner client id (first_false _ _ free) in
    sym (ap (λ (c : ℕ). find (is_image_id c id) book.image_ids) own) ∙ is_none (image_id book client id) (second_false ((id == 0) && not (client == 0)) _ free)

pub untaken_screen : (book : Book) (client id : ℕ) (public taken : Bool) → taken ≡ is_screen_id_taken book client id public → taken ≡ false → find (is_screen_id client id) book.screen_ids ≡ None
untaken_screen book client id public taken is not_taken = is_none (screen_id book client id) (first_false _ _ (sym is ∙ not_taken))

pub find_any : {X : Type 0} (p : X → Bool) (xs : List X) → is_some (find p xs) ≡ list_any p xs
find_any p [] = refl
find_any p (x ∷ xs) = by (find_any p xs) (p x)
  where
    by : is_some (find p xs) ≡ list_any p xs → (t : Bool) → is_some (cond t (Some x) (find p xs)) ≡ (t || list_any p xs)
    by more true = refl
    by more false = more

pub first-none : {X : Type 0} (o : Option X) (b : Bool) → (is_some o || b) ≡ false → o ≡ None
first-none o b h = is_none o (first_false _ _ h)
