-- What a connection looks up in two devices that are like, and changes beside the book.
use Rattle.std.proofs.Common.{◌≡◌, ◌<◌, ◌^◌, ℕ, Bool, true, false, eqb, List, [], ◌∷◌, Option, Some, None, Ok, refl, sym, ap, subst, ◌∙◌, arith}
use Rattle.std.specs.Prelude.{◌==◌, is_some, option_map}
use Rattle.std.specs.Option.{option_map_or}
use Rattle.std.proofs.lemmas.Bool.{eqb-true, eqb-false, false_from_ne_true}
use Rattle.model_text.specs.text.Map.{lookup, with}
use Rattle.model_text.specs.text.Outcome.{◌>>=◌, refuse_if, value_or_refuse}
use Rattle.model_text.proofs.map.Maps.{with-others}
use Rattle.model_draw_parts.specs.declared.images.ImageId.{ImageId}
use Rattle.model_draw_parts.specs.images.Book.{by_name, image, image_id, is_stale, screen_of}
use Rattle.model_forest.specs.World.{World as Images}
use Rattle.model_draw.specs.draw.World.{Client, World, client_of, is_display, look, new_client, with_client, with_images}
use Rattle.law_likeness.specs.renamed.Renamed.{AreRenamed}
use Rattle.model_world.specs.Whole.{client}
use Rattle.law_likeness.specs.agreement.Agreement.{SameOption, SameOutcome}
use Rattle.law_likeness.proofs.agreement.Relations.{equal_alike}
use Rattle.law_likeness.specs.likeness.Likeness.{AreLike, SameDisplay, SameId, SamePlace}
use Rattle.law_likeness.proofs.likeness.Shapes.{Keeps, look_kept}

-- a key that is there gets the value, and one that is not is not there still
with_at : {A : Type 0} (es : List (ℕ × A)) (key : ℕ) (value : A) → lookup (with es key value) key ≡ option_map (λ _. value) (lookup es key)
with_at [] key value = refl
with_at (e ∷ es) key value = by (eqb e.0 key) refl (with_at es key value)
  where
    by : (x : Bool) → eqb e.0 key ≡ x → lookup (with es key value) key ≡ option_map (λ _. value) (lookup es key)
        → lookup (with (e ∷ es) key value) key ≡ option_map (λ _. value) (lookup (e ∷ es) key)
    by true at more = rw at (rw at refl)
    by false at more = rw at (rw at more)

pub client_is : (c n m : ℕ) → client c n ≡ client c m → n ≡ m
client_is c n m same = omega (arith, same)

module _ (Same SameScreen : ℕ → ℕ → Type 0) (c : ℕ) (window : Option (ℕ × List ℕ)) (a b : World) (like : AreLike Same SameScreen c window a b) (n : ℕ) (few : n < 2 ^ 26) where
  pub client_same : client_of a (client c n) ≡ client_of b (client 1 n)
  client_same = ap (λ (o : Option Client). option_map_or (λ x. x) o new_client) (like.clients n few)

  looked_by : (o q : Option ImageId) → SameOption (SameId Same a.book b.book) o q
      → SameOutcome Same (value_or_refuse o 4 >>= λ e. refuse_if (is_stale a.book e) 18 >>= λ _. Ok e.image)
      (value_or_refuse q 4 >>= λ e. refuse_if (is_stale b.book e) 18 >>= λ _. Ok e.image)
  looked_by (Some e) (Some f) one =
      equal_alike Same (refuse_if (is_stale a.book e) 18) (refuse_if (is_stale b.book f) 18) _ _ (ap (λ (x : Bool). refuse_if x 18) one.stale) (λ _. one.image)
  looked_by None None one = refl
  looked_by (Some e) None one = absurd one
  looked_by None (Some f) one = absurd one

  -- the session finds the same image under an id, or is refused by the same number
  pub look_same : (id : ℕ) → (id == 0) ≡ false → SameOutcome Same (look a (client c n) id) (look b (client 1 n) id)
  unfolding image
  look_same id other = looked_by (image_id a.book (client c n) id) (image_id b.book (client 1 n) id) (like.books.ids n id few other)

  -- whether an id was made by a name
  pub by_name_same : (id : ℕ) → (id == 0) ≡ false → by_name a.book (client c n) id ≡ by_name b.book (client 1 n) id
  by_name_same id other = by (image_id a.book (client c n) id) (image_id b.book (client 1 n) id) (like.books.ids n id few other)
    where
      by : (o q : Option ImageId) → SameOption (SameId Same a.book b.book) o q → option_map_or (λ e. is_some e.tie) o false ≡ option_map_or (λ e. is_some e.tie) q false
      by (Some e) (Some f) one = one.tied
      by None None one = refl
      by (Some e) None one = absurd one
      by None (Some f) one = absurd one

  -- ---- the display

  pub left_other : (i j : ℕ) → Same i j → is_display a i ≡ false
  left_other i j is =
      ap (λ (o : Option ImageId). option_map_or (λ e. e.image == i) o false) like.display.named
      ∙ false_from_ne_true (0 == i) (λ at. like.display.left i j is (sym (eqb-true 0 i at)))

  pub right_other : (i j : ℕ) → Same i j → is_display b j ≡ false
  right_other i j is =
      ap (λ (o : Option ImageId). option_map_or (λ e. e.image == j) o false) like.display.named_alone
      ∙ false_from_ne_true (0 == j) (λ at. like.display.right i j is (sym (eqb-true 0 j at)))

  -- ---- windows and screens

  windows_both : (o q : Option ℕ) → SameOption (SamePlace SameScreen a.book b.book) o q → is_some o ≡ is_some q
  windows_both (Some s) (Some t) both = refl
  windows_both None None both = refl
  windows_both (Some s) None both = absurd both
  windows_both None (Some t) both = absurd both

  pub window_same : (i j : ℕ) → Same i j → is_some (screen_of a.book i) ≡ is_some (screen_of b.book j)
  window_same i j is = windows_both (screen_of a.book i) (screen_of b.book j) (like.books.windows i j is)

  -- ---- changes beside the book

  -- the display stays as it is
  pub display_kept : (x y : Images) → Keeps a.images x 0 → Keeps b.images y 0 → SameDisplay Same (with_images a x) (with_images b y)
  display_kept x y left right = record {
    named = like.display.named;
    named_alone = like.display.named_alone;
    look = look_kept _ _ _ _ left.shape like.display.look right.shape;
    live_left = left.live like.display.live_left;
    live_right = right.live like.display.live_right;
    left = like.display.left;
    right = like.display.right;
  }

  pub with_images_like : (x y : Images) → AreRenamed Same x y → Keeps a.images x 0 → Keeps b.images y 0
      → AreLike Same SameScreen c window (with_images a x) (with_images b y)
  with_images_like x y renamed left right = record {
    counted = like.counted;
    images = renamed;
    books = like.books;
    display = display_kept x y left right;
    clients = like.clients;
  }

  clients_with : (x : Client) (m : ℕ) → m < 2 ^ 26
      → lookup (with a.clients (client c n) x) (client c m) ≡ lookup (with b.clients (client 1 n) x) (client 1 m)
  clients_with x m small = by (eqb m n) refl
    where
      by : (here : Bool) → eqb m n ≡ here → lookup (with a.clients (client c n) x) (client c m) ≡ lookup (with b.clients (client 1 n) x) (client 1 m)
      by true at =
          subst (λ (k : ℕ). lookup (with a.clients (client c n) x) (client c k) ≡ lookup (with b.clients (client 1 n) x) (client 1 k)) (sym (eqb-true m n at))
          (with_at a.clients (client c n) x ∙ ap (option_map (λ _. x)) (like.clients n few) ∙ sym (with_at b.clients (client 1 n) x))
      by false at =
          with-others a.clients (client c n) (client c m) x (λ is. eqb-false m n at (client_is c m n is)) ∙ like.clients m small
          ∙ sym (with-others b.clients (client 1 n) (client 1 m) x (λ is. eqb-false m n at (client_is 1 m n is)))

  pub with_client_like : (x y : Client) → x ≡ y → AreLike Same SameScreen c window (with_client a (client c n) x) (with_client b (client 1 n) y)
  with_client_like x y is = subst (λ (z : Client). AreLike Same SameScreen c window (with_client a (client c n) x) (with_client b (client 1 n) z)) is (record {
    counted = like.counted;
    images = like.images;
    books = like.books;
    display = record {
      named = like.display.named;
      named_alone = like.display.named_alone;
      look = like.display.look;
      live_left = like.display.live_left;
      live_right = like.display.live_right;
      left = like.display.left;
      right = like.display.right;
    };
    clients = clients_with x;
  })
