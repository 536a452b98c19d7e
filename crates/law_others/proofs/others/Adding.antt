-- Ids, screens and names that a connection outside a part adds and takes away, and images that it makes.
use Rattle.std.proofs.Common.{◌≡◌, ◌≢◌, ◌||◌, ℕ, Bool, true, false, List, Option, Some, None, Ok, inl, inr, refl, sym, ap, subst, ◌∙◌}
use Rattle.std.specs.Prelude.{◌==◌, find, is_some, not, slice_index_or}
use Rattle.std.specs.Str.{bytes_eq}
use Rattle.std.proofs.lemmas.Bool.{eqb-true}
use Rattle.std.proofs.lemmas.Slice.Eq.{bytes_eq-Decides}
use Rattle.r9_geom.specs.declared.Rect.{Rect}
use Rattle.model_draw_parts.specs.declared.images.ImageId.{ImageId}
use Rattle.model_draw_parts.specs.declared.images.ScreenId.{ScreenId}
use Rattle.model_draw_parts.specs.declared.images.Tie.{Tie}
use Rattle.model_draw_parts.specs.images.Book.{Book, add_id, add_named, add_screen, fill_of, image, image_of, is_image_id_taken, is_kept_name, is_screen_id_taken, new_screen, next_screen, put_image_id, put_screen_id, screen_numbered, tie, tie_of, untie, with_window}
use Rattle.model_draw.specs.draw.World.{World, next_image}
use Rattle.model_draw.specs.draw.Making.{with_new_image, with_one_pixel}
use Rattle.law_shown.specs.shown.Showing.{AreFree}
use Rattle.law_shown.proofs.shown.Tests.{find-passes, not-true, not_both, refuse_ok, same_Ok, same_Some, second_false, then_ok, value_ok}
use Rattle.law_shown.proofs.shown.Numbers.{next_in}
use Rattle.law_shown.proofs.shown.Spare.{next-free}
use Rattle.law_likeness.specs.likeness.Likeness.{AreNumbered}
use Rattle.law_likeness.proofs.likeness.Shapes.{Keeps, keeps_image, keeps_set, keeps_then, keeps_window}
use Rattle.law_likeness.proofs.making.Entries.{all_found, numbered_named, numbered_plain}
use Rattle.law_others.specs.apart.Apart.{IsApart, IsApartBook, IsHeld, IsOther, IsOtherScreen, IsOutside, IsTied, Part, StaysInBook, StaysInImages}
use Rattle.law_others.proofs.apart.Books.{book_then, id_put, screen_id_put, slot_put, tie_put, ties_dropped, window_put}
use Rattle.law_others.proofs.apart.Looking.{ground_beside, image_beside, tie_beside}
use Rattle.law_others.proofs.apart.Numbering.{numbered_still, numbered_tied, numbered_ties_dropped}
use Rattle.law_others.proofs.apart.Worlds.{image_stays, images_then, set_stays, window_stays}

module _ (part : Part) where
  -- The part stays in a book, and ties have numbers of their own still.
  pub record Adds (old new : Book) : Type 0 where
    pub book : StaysInBook part old new
    pub numbers : AreNumbered new

  -- ---- a new number

  pub next_beside : (w : World) → IsApart part w → IsHeld part (next_image w) → ⊥
  next_beside w apart held = next_in w.numbers (apart.out (next_image w) held)

  pub next_screen_beside : (b : Book) → IsApartBook part b → AreFree b.screens b.spare → part.screen (next_screen b) → ⊥
  next_screen_beside b apart free is = not_both (is_some (screen_numbered b (next_screen b))) (apart.there (next_screen b) is) (ap is_some (next-free b free).0.empty)

  -- ---- a new image

  pixel_stays : (w : World) (s : Option ℕ) (r : Rect) (chan raw : ℕ) → IsApart part w → ((t : ℕ) → s ≡ Some t → part.screen t → ⊥) → StaysInImages part w.images (with_one_pixel w s r chan raw)
  pixel_stays w None r chan raw apart none = image_stays part w.images (next_image w) r chan raw (λ is. next_beside w apart (inl is))
  pixel_stays w (Some t) r chan raw apart none =
      window_stays part w.images (next_image w) (image_of w.book t) (fill_of w.book t) r raw (λ is. next_beside w apart (inl is)) (ground_beside part w.book t apart.book (none t refl)).0

  pub new_stays : (w : World) (s : Option ℕ) (r : Rect) (chan raw : ℕ) (repl : Bool) (clipr : Rect) → IsApart part w → ((t : ℕ) → s ≡ Some t → part.screen t → ⊥)
      → StaysInImages part w.images (with_new_image w s r chan raw repl clipr)
  new_stays w s r chan raw repl clipr apart none =
      images_then part w.images (with_one_pixel w s r chan raw) _ (pixel_stays w s r chan raw apart none)
      (set_stays part (with_one_pixel w s r chan raw) (next_image w) repl clipr (λ is. next_beside w apart (inl is)))

  pub new_keeps : (w : World) (s : Option ℕ) (r : Rect) (chan raw : ℕ) (repl : Bool) (clipr : Rect) → IsApart part w → Keeps w.images (with_new_image w s r chan raw repl clipr) 0
  new_keeps w s r chan raw repl clipr apart = keeps_then w.images (with_one_pixel w s r chan raw) _ 0 (by s) (keeps_set (with_one_pixel w s r chan raw) (next_image w) repl clipr 0 other)
    where
      other : 0 ≢ next_image w
      other at = next_beside w apart (inr (sym at))

      by : (s : Option ℕ) → Keeps w.images (with_one_pixel w s r chan raw) 0
      by None = keeps_image w.images (next_image w) r chan raw 0 other
      by (Some t) = keeps_window w.images (next_image w) (image_of w.book t) (fill_of w.book t) r raw 0 other

  -- ---- ids, screens and names under an id that is not in the part

  pub id_adds : (k id : ℕ) → IsOther part k id → (b next : Book) (m : ℕ) (s : Option ℕ) → AreNumbered b → (IsHeld part m → ⊥) → ((t : ℕ) → s ≡ Some t → part.screen t → ⊥) → add_id b k id m s ≡ Ok next → Adds b next
  unfolding add_id
  id_adds k id apart_id b next m s numbers none other added =
      let e : ImageId = record { client = k; id = id; image = m; tie = None } in
      let one : Book = record b { image_ids = put_image_id e b.image_ids } in
      let two : Book = record one { windows = with_window m s b.windows } in
      let is : two ≡ next = same_Ok two next (refuse_ok (is_image_id_taken b k id) 6 (λ _. Ok two) next added).1 in
      subst (Adds b) is (record {
        book = book_then part b one two (id_put part b e apart_id (λ is. none (inl is))) (window_put part one m s none other);
        numbers = numbered_plain b two e refl refl refl refl numbers;
      })

  pub screen_adds : (k id : ℕ) → IsOtherScreen part k id → (b next : Book) (public : Bool) (i fill : ℕ) → IsApartBook part b → AreNumbered b → AreFree b.screens b.spare → (part.image i → ⊥) → (part.image fill → ⊥)
      → new_screen b k id public i fill ≡ Ok next → Adds b next
  unfolding new_screen
  screen_adds k id apart_id b next public i fill apart numbers free none nor added =
      let e : ScreenId = record { client = k; id = id; screen = next_screen b; public = public } in
      let made = refuse_ok (is_screen_id_taken b k id public) 7 _ next added in
      let slot = slot_put part b i fill apart free none nor in
      let entry = screen_id_put part _ e apart_id (next_screen_beside b apart free) in
      subst (Adds b) (same_Ok _ next made.1) (record { book = book_then part b _ _ slot entry; numbers = numbered_still b _ refl refl refl numbers })

  pub tie_adds : (k id : ℕ) → (part.id k id → ⊥) → (part.client k → ⊥) → (b next : Book) (name : List ℕ) → AreNumbered b → ((i : ℕ) → image b k id ≡ Ok i → part.image i → ⊥)
      → ((is_some (tie_of b name) || is_kept_name k name) ≡ false → part.name name → ⊥) → tie b k id name ≡ Ok next → Adds b next
  unfolding tie
  tie_adds k id none_id none_client b next name numbers beside free_name tied =
      let looked = then_ok (image b k id) _ next tied in
      let free = refuse_ok (is_some (tie_of b name) || is_kept_name k name) 16 _ next looked.2 in
      let t : Tie = record { name = name; number = b.next_tie; image = looked.0; client = k; id = id } in
      subst (Adds b) (same_Ok _ next free.1) (record {
        book = tie_put part b t numbers refl (other t refl refl (beside looked.0 looked.1))
            (free_name free.0);
        numbers = numbered_tied b t refl numbers;
      })
    where
      other : (t : Tie) → t.client ≡ k → t.id ≡ id → (part.image t.image → ⊥) → IsTied part t → ⊥
      other t client at none (IsTied.of_image is) = none is
      other t client at none (IsTied.by_id is) = none_id (subst (λ (n : ℕ). part.id n id) client (subst (λ (n : ℕ). part.id t.client n) at is))
      other t client at none (IsTied.by_client is) = none_client (subst part.client client is)

module _ (part : Part) (k : ℕ) (outside : IsOutside part k) where
  -- ---- what a connection outside it adds and takes away

  pub name_adds : (b next : Book) (id : ℕ) (name : List ℕ) → IsApartBook part b → AreNumbered b → (part.name name → ⊥) → add_named b k id name ≡ Ok next → Adds part b next
  unfolding add_named
  name_adds b next id name apart numbers none added =
      let free = refuse_ok (is_image_id_taken b k id) 6 _ next added in
      let found = value_ok (tie_of b name) 17 _ next free.1 in
      let t = found.0 in
      let e : ImageId = record { client = k; id = id; image = t.image; tie = Some t.number } in
      let one : Book = record b { image_ids = put_image_id e b.image_ids } in
      let same : t.name ≡ name = (bytes_eq-Decides t.name name).0 (find-passes (λ (u : Tie). bytes_eq u.name name) b.ties t found.1) in
      subst (Adds part b) (same_Ok one next found.2) (record {
        book = id_put part b e (outside.ids id) (tie_beside part k outside b name t apart (λ is. none (subst part.name same is)) found.1);
        numbers = numbered_named b one e t (λ u. bytes_eq u.name name) found.1 refl refl refl refl refl numbers;
      })

  pub share_adds : (b next : Book) (id s : ℕ) (public : Bool) → AreNumbered b → (part.screen s → ⊥) → add_screen b k id s public ≡ Ok next → Adds part b next
  unfolding add_screen
  share_adds b next id s public numbers none added =
      let e : ScreenId = record { client = k; id = id; screen = s; public = public } in
      let one : Book = record b { screen_ids = put_screen_id e b.screen_ids } in
      let is = same_Ok one next (refuse_ok (is_screen_id_taken b k id public) 7 (λ _. Ok one) next added).1 in
      subst (Adds part b) is (record { book = screen_id_put part b e (outside.screen_ids id) none; numbers = numbered_still b one refl refl refl numbers })

  pub untie_adds : (b next : Book) (id : ℕ) (name : List ℕ) → IsApartBook part b → AreNumbered b → untie b k id name ≡ Ok next → Adds part b next
  unfolding untie
  untie_adds b next id name apart numbers untied =
      let looked = then_ok (image b k id) _ next untied in
      let found = value_ok (tie_of b name) 17 _ next looked.2 in
      let t = found.0 in
      let checked = refuse_ok (is_kept_name k name || not (t.image == looked.0)) 19 _ next found.2 in
      let at : t.image ≡ looked.0 = eqb-true t.image looked.0 (not_not (t.image == looked.0) (second_false (is_kept_name k name) _ checked.0)) in
      let own = all_found (λ (u : Tie). find (λ v. v.number == u.number) b.ties ≡ Some u) _ b.ties t numbers.once found.1 in
      subst (Adds part b) (same_Ok _ next checked.1) (record {
        book = ties_dropped part b (λ u. u.number == t.number) apart numbers
            (λ n d h is. not-true ((slice_index_or b.ties n d).number == t.number) (λ same.
            image_beside part k outside b id looked.0 apart looked.1 (subst part.image (ap (λ (u : Tie). u.image) (one (slice_index_or b.ties n d) t (numbers.once n d h) own (eqb-true (slice_index_or b.ties n d).number t.number same)) ∙ at) is)));
        numbers = numbered_ties_dropped b (λ u. not (u.number == t.number)) numbers;
      })
    where
      not_not : (x : Bool) → not x ≡ false → x ≡ true
      not_not true h = refl
      not_not false h = absurd cc

      one : (u t : Tie) → find (λ v. v.number == u.number) b.ties ≡ Some u → find (λ v. v.number == t.number) b.ties ≡ Some t → u.number ≡ t.number → u ≡ t
      one u t here there same = same_Some u t (sym here ∙ ap (λ (n : ℕ). find (λ v. v.number == n) b.ties) same ∙ there)
