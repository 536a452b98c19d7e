-- Devices that change beside a part.
use Rattle.std.proofs.Common.{◌≡◌, ◌≢◌, ℕ, List, [], ◌∷◌, inl, inr, refl, sym, subst, ◌∙◌}
use Rattle.std.specs.Prelude.{◌==◌}
use Rattle.std.specs.List.{fold}
use Rattle.std.proofs.lemmas.Bool.{eqb-true}
use Rattle.model_text.specs.text.Map.{lookup, with}
use Rattle.model_text.proofs.map.Maps.{with-others}
use Rattle.model_draw_parts.specs.declared.images.Thing.{Thing}
use Rattle.model_draw_parts.specs.declared.images.Thing.TheVariants.{Image, Screen}
use Rattle.model_draw_parts.specs.images.Book.{Book}
use Rattle.model_draw_parts.specs.images.Release.{Freed, nothing_freed}
use Rattle.model_forest.specs.World.{World as Images}
use Rattle.model_forest.specs.Numbers.{Numbers, given_back}
use Rattle.model_draw.specs.draw.World.{Client, World, after_freed, with_book, with_client, with_images, without_thing}
use Rattle.model_draw.specs.draw.Making.{with_made}
use Rattle.law_shown.specs.shown.Showing.{IsOut}
use Rattle.law_shown.proofs.shown.Tests.{neither, not-true}
use Rattle.law_shown.proofs.shown.Numbers.{out_taken}
use Rattle.law_likeness.specs.likeness.Likeness.{AreNumbered}
use Rattle.law_likeness.proofs.likeness.Shapes.{Keeps, keeps_itself, keeps_release, shape_then}
use Rattle.law_others.specs.apart.Apart.{IsApart, IsHeld, Part, Stays, StaysInBook, StaysInImages}
use Rattle.law_others.proofs.apart.Books.{book_apart, book_itself, book_then}
use Rattle.law_others.proofs.apart.Releasing.{Goes, MayAllGo, MayGo}
use Rattle.law_others.proofs.apart.Worlds.{AreTogether, images_itself, images_then, release_stays}

module _ (part : Part) where
  pub stays_itself : (w : World) → Stays part w w
  stays_itself w = record {
    book = book_itself part w.book;
    numbers = λ n. n;
    images = images_itself part w.images;
    out = λ i held out. out;
    shape = (keeps_itself w.images 0).shape;
    live = λ is. is;
    clients = λ k is. refl;
  }

  pub stays_then : (a b c : World) → Stays part a b → Stays part b c → Stays part a c
  stays_then a b c one two = record {
    book = book_then part a.book b.book c.book one.book two.book;
    numbers = λ n. two.numbers (one.numbers n);
    images = images_then part a.images b.images c.images one.images two.images;
    out = λ i held out. two.out i held (one.out i held out);
    shape = shape_then _ _ _ two.shape one.shape;
    live = λ is. two.live (one.live is);
    clients = λ k is. two.clients k is ∙ one.clients k is;
  }

  -- the part is apart still
  pub stays_apart : (a b : World) → IsApart part a → Stays part a b → IsApart part b
  stays_apart a b apart stays = record {
    book = book_apart part a.book b.book apart.book stays.book;
    stands = λ i p is stands. apart.stands i p is (stays.images.stands i p is stands);
    out = λ i held. stays.out i held (apart.out i held);
  }

  -- ---- what changes in one place

  pub books_stay : (w : World) (b : Book) → StaysInBook part w.book b → (AreNumbered w.book → AreNumbered b) → Stays part w (with_book w b)
  books_stay w b stays numbers = record {
    book = stays;
    numbers = numbers;
    images = images_itself part w.images;
    out = λ i held out. out;
    shape = (keeps_itself w.images 0).shape;
    live = λ is. is;
    clients = λ k is. refl;
  }

  pub images_stay : (w : World) (images : Images) → StaysInImages part w.images images → Keeps w.images images 0 → Stays part w (with_images w images)
  images_stay w images stays keeps = record {
    book = book_itself part w.book;
    numbers = λ n. n;
    images = stays;
    out = λ i held out. out;
    shape = keeps.shape;
    live = keeps.live;
    clients = λ k is. refl;
  }

  pub clients_stay : (w : World) (cs : List (ℕ × Client)) → ((k : ℕ) → part.client k → lookup cs k ≡ lookup w.clients k) → Stays part w (record w { clients = cs })
  clients_stay w cs same = record {
    book = book_itself part w.book;
    numbers = λ n. n;
    images = images_itself part w.images;
    out = λ i held out. out;
    shape = (keeps_itself w.images 0).shape;
    live = λ is. is;
    clients = same;
  }

  pub client_stays : (w : World) (k : ℕ) (c : Client) → (part.client k → ⊥) → Stays part w (with_client w k c)
  client_stays w k c none = clients_stay w (with w.clients k c) (λ j is. with-others w.clients k j c (λ at. none (subst part.client at is)))

  -- a number is taken by an image that comes
  pub made_stays : (w : World) (images : Images) → StaysInImages part w.images images → Keeps w.images images 0 → Stays part w (with_made w images w.book)
  made_stays w images stays keeps = record {
    book = book_itself part w.book;
    numbers = λ n. n;
    images = stays;
    out = λ i held out. out_taken w.numbers i out;
    shape = keeps.shape;
    live = keeps.live;
    clients = λ k is. refl;
  }

  -- ---- what goes

  out_given : (numbers : Numbers) (m i : ℕ) → (m ≢ i) → IsOut numbers i → IsOut (given_back numbers m) i
  out_given numbers m i other out = record { made = out.made; kept = neither (m == i) _ (not-true (m == i) (λ at. other (eqb-true m i at))) out.kept }

  thing_stays : (w : World) (thing : Thing) → AreTogether part w.images → MayGo part thing → Stays part w (without_thing w thing)
  thing_stays w (Image m) together may =
      let keeps = keeps_release w.images m 0 (λ at. may (inr (sym at))) in
      record {
        book = book_itself part w.book;
        numbers = λ n. n;
        images = release_stays part w.images m together (λ is. may (inl is));
        out = λ i held out. out_given w.numbers m i (λ at. may (subst (IsHeld part) (sym at) held)) out;
        shape = keeps.shape;
        live = keeps.live;
        clients = λ k is. refl;
      }
  thing_stays w (Screen s) together may = stays_itself w

  things_stay : (things : List Thing) (w : World) → AreTogether part w.images → MayAllGo part things → Stays part w (fold without_thing w things)
  things_stay [] w together may = stays_itself w
  things_stay (thing ∷ things) w together may =
      let one = thing_stays w thing together may.0 in
      stays_then w (without_thing w thing) _ one (things_stay things (without_thing w thing) (λ i p is stands. together i p is (one.images.stands i p is stands)) may.1)

  pub freed_stays : (w : World) (freed : Freed) → IsApart part w → Goes part (nothing_freed w.book) freed → Stays part w (after_freed w freed)
  freed_stays w freed apart goes =
      stays_then w (with_book w freed.book) (after_freed w freed) (books_stay w freed.book goes.book (λ _. goes.numbers)) (things_stay freed.gone (with_book w freed.book) apart.stands goes.gone)
