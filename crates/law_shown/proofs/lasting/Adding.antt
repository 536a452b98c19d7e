-- What a device keeps where ids, screens and names come.
use Rattle.std.proofs.Common.{◌≡◌, ℕ, Bool, true, false, cond, List, [], ◌∷◌, length, take, Option, Some, None, Ok, ◌⊎◌, inl, inr, refl, sym, ap, subst, ◌∙◌}
use Rattle.std.specs.Prelude.{◌-◌, ◌==◌, ◌&&◌, find, is_some, option_map}
use Rattle.std.specs.Option.{option_or}
use Rattle.std.specs.List.{list_any}
use Rattle.std.proofs.lemmas.Bool.{eqb-true}
use Rattle.std.proofs.lemmas.List.Folds.{find-append, list_any-append}
use Rattle.model_draw_parts.specs.declared.images.OnScreen.{OnScreen}
use Rattle.model_draw_parts.specs.declared.images.ScreenId.{ScreenId}
use Rattle.model_draw_parts.specs.declared.images.Thing.TheVariants.{Image, Screen}
use Rattle.model_draw_parts.specs.images.Book.{Book, add_id, add_named, add_screen, image_id, is_image_id_taken, is_screen_id_taken, new_screen, next_screen, owner, put_image_id, put_screen_id, screen_id, screen_numbered, screen_of, tie, tie_of, untie, with_screen, with_window}
use Rattle.model_draw_parts.specs.declared.images.Tie.{Tie}
use Rattle.model_draw_parts.specs.images.Release.{is_used, refers_to}
use Rattle.model_draw_parts.specs.images.Ties.{HasTies}
use Rattle.model_draw_parts.proofs.images.Finds.{any-put_screen, find-screen, new-image, new-screen}
use Rattle.model_draw_parts.proofs.images.Ties.{HasTies-add_id, HasTies-add_named, HasTies-add_screen, HasTies-new_screen, HasTies-tie, HasTies-untie, add_named-used, any-put, find-put, tie-rest, untie-rest}
use Rattle.model_draw.specs.draw.World.{World, at_number, with_book}
use Rattle.model_draw.specs.draw.Orders.{manager}
use Rattle.law_shown.specs.shown.Showing.{AreFree, IsOrderly, IsOut}
use Rattle.law_shown.proofs.shown.Tests.{either_true, first_true, not-true, not_both, refuse_ok, same, same_Ok, second_true, value_ok}
use Rattle.law_shown.proofs.shown.Spare.{has-new, next-free, spare-taken}
use Rattle.law_shown.proofs.shown.Frames.{framed, itself}
use Rattle.law_shown.proofs.shown.Following.{Follows, KeepsBook, follows, none}
use Rattle.law_shown.proofs.lasting.Freeing.{owner_manager}

-- a book in place of another, where the images are the same
pub book_follows : (gone closed : ℕ → Bool) (w : World) (book : Book) → KeepsBook gone closed w.book book → IsOrderly (with_book w book) → Follows gone closed w (with_book w book)
book_follows gone closed w book keeps orderly = follows gone closed w (with_book w book) refl keeps (λ i was now. framed (at_number w i) (at_number w i) (itself (at_number w i))) orderly

-- ---- an id for an image

abbrev entered : Book → (k id image : ℕ) → Option ℕ → Book
entered book k id image screen = record book {
  image_ids = put_image_id (record { client = k; id = id; image = image; tie = None }) book.image_ids;
  windows = with_window image screen book.windows;
}

entered-is : (book added : Book) (k id image : ℕ) (screen : Option ℕ) → add_id book k id image screen ≡ Ok added → (is_image_id_taken book k id ≡ false) × (entered book k id image screen ≡ added)
unfolding add_id
entered-is book added k id image screen e =
    let free = refuse_ok (is_image_id_taken book k id) 6 (λ _. Ok (entered book k id image screen)) added e in
    (free.0, same_Ok (entered book k id image screen) added free.1)

-- a window more
window-more : (p : OnScreen → Bool) (image : ℕ) (screen : Option ℕ) (ws : List OnScreen) → is_some (option_map (λ w. w.screen) (find p ws)) ≡ true → is_some (option_map (λ w. w.screen) (find p (with_window image screen ws))) ≡ true
window-more p image None ws on = on
window-more p image (Some s) ws on = ap (λ (o : Option OnScreen). is_some (option_map (λ w. w.screen) o)) (find-append p ws (record { image = image; screen = s } ∷ [])) ∙ by (find p ws) on
  where
    by : (o : Option OnScreen) → is_some (option_map (λ w. w.screen) o) ≡ true → is_some (option_map (λ w. w.screen) (option_or o (find p (record { image = image; screen = s } ∷ [])))) ≡ true
    by (Some w) on = refl
    by None on = absurd cc

-- the new image stands on its screen
window-new : (image s : ℕ) (ws : List OnScreen) → is_some (option_map (λ w. w.screen) (find (λ w. w.image == image) (with_window image (Some s) ws))) ≡ true
window-new image s ws =
    ap (λ (o : Option OnScreen). is_some (option_map (λ w. w.screen) o)) (find-append (λ (w : OnScreen). w.image == image) ws (record { image = image; screen = s } ∷ [])) ∙ by (find (λ w. w.image == image) ws)
  where
    by : (o : Option OnScreen) → is_some (option_map (λ w. w.screen) (option_or o (cond (image == image) (Some (record { image = image; screen = s })) None))) ≡ true
    by (Some w) = refl
    by None = ap (λ (b : Bool). is_some (option_map (λ (w : OnScreen). w.screen) (cond b (Some (record { image = image; screen = s })) None))) (same image)

pub window-used : (image s : ℕ) (screen : Option ℕ) (ws : List OnScreen) → list_any (λ w. w.screen == s) (with_window image screen ws) ≡ true → (screen ≡ Some s) ⊎ (list_any (λ w. w.screen == s) ws ≡ true)
window-used image s None ws h = inr h
window-used image s (Some t) ws h = elim (either_true (list_any (λ w. w.screen == s) ws) _ (sym (list_any-append (λ w. w.screen == s) ws (record { image = image; screen = t } ∷ [])) ∙ h)) [
  | inl old ↦ inr old
  | inr new ↦ inl (ap Some (eqb-true t s (elim (either_true (t == s) false new) [ inl a ↦ a | inr b ↦ absurd cc ])))
]

abbrev IsThere : Book → Option ℕ → Type 0
IsThere book screen = (s : ℕ) → screen ≡ Some s → is_some (screen_numbered book s) ≡ true

added-orderly : (w : World) (added : Book) (k id image : ℕ) (screen : Option ℕ) → IsOrderly w → IsOut w.numbers image → IsThere w.book screen → add_id w.book k id image screen ≡ Ok added → IsOrderly (with_book w added)
added-orderly w added k id image screen o out there e =
    let is = entered-is w.book added k id image screen e in
    record {
      ties = HasTies-add_id w.book added k id image screen o.ties e;
      images = λ i used. images i (ap (λ (b : Book). is_used b (Image i)) is.1 ∙ used);
      numbers = o.numbers;
      screens = λ s used. ap (λ (b : Book). is_some (screen_numbered b s)) (sym is.1) ∙ screens s (ap (λ (b : Book). is_used b (Screen s)) is.1 ∙ used);
      spare = subst (λ (b : Book). AreFree b.screens b.spare) is.1 o.spare;
    }
  where
    images : (i : ℕ) → is_used (entered w.book k id image screen) (Image i) ≡ true → IsOut w.numbers i
    images i used = elim (either_true (list_any (λ e. e.image == i) (put_image_id (record { client = k; id = id; image = image; tie = None }) w.book.image_ids)) _ used) [
      | inl here ↦ elim (either_true (image == i) _ (sym (any-put (λ e. e.image == i) (record { client = k; id = id; image = image; tie = None }) w.book.image_ids) ∙ here)) [
        | inl new ↦ subst (IsOut w.numbers) (eqb-true image i new) out
        | inr old ↦ o.images i (first_true _ _ old)
      ]
      | inr there ↦ o.images i (second_true (list_any (λ e. e.image == i) w.book.image_ids) _ there)
    ]

    screens : (s : ℕ) → is_used (entered w.book k id image screen) (Screen s) ≡ true → is_some (screen_numbered w.book s) ≡ true
    screens s used = elim (either_true (list_any (λ e. e.screen == s) w.book.screen_ids) _ used) [
      | inl here ↦ o.screens s (first_true _ _ here)
      | inr on ↦ elim (window-used image s screen w.book.windows on) [
        | inl new ↦ there s new
        | inr old ↦ o.screens s (second_true (list_any (λ e. e.screen == s) w.book.screen_ids) _ old)
      ]
    ]

pub added_follows : (gone : ℕ → Bool) (w : World) (added : Book) (k id image : ℕ) (screen : Option ℕ) → IsOrderly w → IsOut w.numbers image → IsThere w.book screen → add_id w.book k id image screen ≡ Ok added
    → ((serial : ℕ) → gone serial ≡ false → ((k == manager) && (id == serial)) ≡ false) → Follows gone none w (with_book w added)
added_follows gone w added k id image screen o out there e apart =
    let is = entered-is w.book added k id image screen e in
    book_follows gone none w added
    (subst (KeepsBook gone none w.book) is.1
    (record {
      image_ids = λ serial at. find-put (λ e. (e.client == owner manager serial) && (e.id == serial)) (record { client = k; id = id; image = image; tie = None }) w.book.image_ids (ap (λ (n : ℕ). (k == n) && (id == serial)) (owner_manager serial) ∙ apart serial at);
      screen_ids = λ host at. refl;
      stands = λ i was now on. window-more (λ v. v.image == i) image screen w.book.windows on;
      numbered = λ s was now. refl;
    }))
    (added-orderly w added k id image screen o out there e)

-- the new id is found, and its image stands on the screen
pub added_found : (book added : Book) (window image s : ℕ) → image_id book manager window ≡ None → add_id book manager window image (Some s) ≡ Ok added
    → (image_id added manager window ≡ Some (record { client = manager; id = window; image = image; tie = None })) × (is_some (screen_of added image) ≡ true)
added_found book added window image s free e =
    let is = entered-is book added manager window image (Some s) e in (
      ap (λ (b : Book). image_id b manager window) (sym is.1)
          ∙ new-image (λ e. (e.client == owner manager window) && (e.id == window)) (record { client = manager; id = window; image = image; tie = None }) book.image_ids free
          (ap (λ (n : ℕ). (manager == n) && (window == window)) (owner_manager window) ∙ same window),
      ap (λ (b : Book). is_some (screen_of b image)) (sym is.1) ∙ window-new image s book.windows,
    )

-- ---- names

ties-keep : (w : World) (next : Book) → next ≡ record w.book { ties = next.ties; next_tie = next.next_tie } → KeepsBook none none w.book next
ties-keep w next is = subst (KeepsBook none none w.book) (sym is) (record { image_ids = λ serial at. refl; screen_ids = λ host at. refl; stands = λ i was now on. on; numbered = λ s was now. refl })

tied_orderly : (w : World) (next : Book) → next ≡ record w.book { ties = next.ties; next_tie = next.next_tie } → HasTies next → IsOrderly w → IsOrderly (with_book w next)
tied_orderly w next is ties o = record {
  ties = ties;
  images = λ i used. o.images i (ap (λ (b : Book). is_used b (Image i)) (sym is) ∙ used);
  numbers = o.numbers;
  screens = λ s used. ap (λ (b : Book). is_some (screen_numbered b s)) is ∙ o.screens s (ap (λ (b : Book). is_used b (Screen s)) (sym is) ∙ used);
  spare = subst (λ (b : Book). AreFree b.screens b.spare) (sym is) o.spare;
}

ties_follows : (w : World) (next : Book) → next ≡ record w.book { ties = next.ties; next_tie = next.next_tie } → HasTies next → IsOrderly w → Follows none none w (with_book w next)
ties_follows w next is ties o = book_follows none none w next (ties-keep w next is) (tied_orderly w next is ties o)

pub tie_follows : (w : World) (k id : ℕ) (name : List ℕ) (next : Book) → IsOrderly w → tie w.book k id name ≡ Ok next → Follows none none w (with_book w next)
tie_follows w k id name next o e = ties_follows w next (tie-rest w.book next k id name e) (HasTies-tie w.book next k id name o.ties e) o

pub untie_follows : (w : World) (k id : ℕ) (name : List ℕ) (next : Book) → IsOrderly w → untie w.book k id name ≡ Ok next → Follows none none w (with_book w next)
untie_follows w k id name next o e =
    let is = untie-rest w.book next k id name e in
    ties_follows w next (is ∙ sym (ap (λ (b : Book). record w.book { ties = next.ties; next_tie = b.next_tie }) is)) (HasTies-untie w.book next k id name o.ties e) o

named-is : (book next : Book) (k id : ℕ) (name : List ℕ) → add_named book k id name ≡ Ok next → (t : Tie) × (next ≡ record book { image_ids = put_image_id (record { client = k; id = id; image = t.image; tie = Some t.number }) book.image_ids })
unfolding add_named
named-is book next k id name e =
    let free = refuse_ok (is_image_id_taken book k id) 6 _ next e in
    let found = value_ok (tie_of book name) 17 _ next free.1 in
    (found.0, sym (same_Ok _ next found.2))

-- an id that a session makes by a name
pub named_follows : (w : World) (k id : ℕ) (name : List ℕ) (next : Book) → IsOrderly w → (k == 0) ≡ false → add_named w.book k id name ≡ Ok next → Follows none none w (with_book w next)
named_follows w k id name next o other e =
    let is = named-is w.book next k id name e in
    let like = add_named-used w.book next k id name o.ties e in
    book_follows none none w next
    (subst (KeepsBook none none w.book) (sym is.1)
    (record {
      image_ids = λ serial at. find-put (λ e. (e.client == owner manager serial) && (e.id == serial)) (record { client = k; id = id; image = is.0.image; tie = Some is.0.number }) w.book.image_ids
          (ap (λ (n : ℕ). (k == n) && (id == serial)) (owner_manager serial) ∙ ap (λ (b : Bool). b && (id == serial)) other);
      screen_ids = λ host at. refl;
      stands = λ i was now on. on;
      numbered = λ s was now. refl;
    }))
    (record {
      ties = HasTies-add_named w.book next k id name o.ties e;
      images = λ i used. o.images i (sym (like (Image i)) ∙ used);
      numbers = o.numbers;
      screens = λ s used. ap (λ (b : Book). is_some (screen_numbered b s)) is.1 ∙ o.screens s (sym (like (Screen s)) ∙ used);
      spare = subst (λ (b : Book). AreFree b.screens b.spare) (sym is.1) o.spare;
    })

-- ---- screens

screen-put : (s : ℕ) (e : ScreenId) (xs : List ScreenId) → list_any (λ x. x.screen == s) (put_screen_id e xs) ≡ true → ((e.screen == s) ≡ true) ⊎ (list_any (λ x. x.screen == s) xs ≡ true)
screen-put s e xs h = either_true (e.screen == s) _ (sym (any-put_screen (λ x. x.screen == s) e xs) ∙ h)

-- one more id for a screen that is there
pub shared_follows : (w : World) (k id screen : ℕ) (public : Bool) (next : Book) → IsOrderly w → (k == 0) ≡ false → is_some (screen_numbered w.book screen) ≡ true → add_screen w.book k id screen public ≡ Ok next
    → Follows none none w (with_book w next)
unfolding add_screen
shared_follows w k id screen public next o other there e =
    let entry : ScreenId = record { client = k; id = id; screen = screen; public = public } in
    let with_entry : Book = record w.book { screen_ids = put_screen_id entry w.book.screen_ids } in
    let is = same_Ok with_entry next (refuse_ok (is_screen_id_taken w.book k id public) 7 (λ _. Ok with_entry) next e).1 in
    subst (λ (b : Book). Follows none none w (with_book w b)) is
    (book_follows none none w with_entry
    (record {
      image_ids = λ serial at. refl;
      screen_ids = λ host at. find-screen (λ e. (e.client == manager) && (e.id == host)) entry w.book.screen_ids (ap (λ (b : Bool). b && (id == host)) other);
      stands = λ i was now on. on;
      numbered = λ s was now. refl;
    })
    (record {
      ties = HasTies-add_screen w.book with_entry k id screen public o.ties (e ∙ ap Ok (sym is));
      images = λ i used. o.images i used;
      numbers = o.numbers;
      screens = λ s used. elim (either_true (list_any (λ e. e.screen == s) (put_screen_id entry w.book.screen_ids)) _ used) [
        | inl here ↦ elim (screen-put s entry w.book.screen_ids here) [
          | inl new ↦ ap (λ (n : ℕ). is_some (screen_numbered w.book n)) (sym (eqb-true screen s new)) ∙ there
          | inr old ↦ o.screens s (first_true _ _ old)
        ]
        | inr on ↦ o.screens s (second_true (list_any (λ e. e.screen == s) w.book.screen_ids) _ on)
      ];
      spare = o.spare;
    }))

abbrev screened : Book → (k id : ℕ) → Bool → (image fill : ℕ) → Book
screened book k id public image fill = record book {
  screen_ids = put_screen_id (record { client = k; id = id; screen = next_screen book; public = public }) book.screen_ids;
  screens = with_screen book.screens (next_screen book) (record { image = image; fill = fill });
  spare = take (length book.spare - 1) book.spare;
}

screened-is : (book made : Book) (k id : ℕ) (public : Bool) (image fill : ℕ) → new_screen book k id public image fill ≡ Ok made → (is_screen_id_taken book k id public ≡ false) × (screened book k id public image fill ≡ made)
unfolding new_screen
screened-is book made k id public image fill e =
    let free = refuse_ok (is_screen_id_taken book k id public) 7 (λ _. Ok (screened book k id public image fill)) made e in
    (free.0, same_Ok (screened book k id public image fill) made free.1)

referred : (image fill j : ℕ) → refers_to j (Some (record { image = image; fill = fill })) ≡ true → (image ≡ j) ⊎ (fill ≡ j)
referred image fill j h = elim (either_true (image == j) _ h) [ inl at ↦ inl (eqb-true image j at) | inr at ↦ inr (eqb-true fill j at) ]

-- a screen that is used has another number than the next
other-screen : (book : Book) (s : ℕ) → AreFree book.screens book.spare → is_some (screen_numbered book s) ≡ true → (s == next_screen book) ≡ false
other-screen book s spare there =
    not-true (s == next_screen book) (λ is. not_both (is_some (screen_numbered book s)) there (ap (λ (n : ℕ). is_some (screen_numbered book n)) (eqb-true s (next_screen book) is) ∙ ap is_some (next-free book spare).0.empty))

pub screened_follows : (closed : ℕ → Bool) (w : World) (k id : ℕ) (public : Bool) (image fill : ℕ) (made : Book) → IsOrderly w → is_used w.book (Image image) ≡ true → is_used w.book (Image fill) ≡ true
    → new_screen w.book k id public image fill ≡ Ok made → ((host : ℕ) → closed host ≡ false → ((k == manager) && (id == host)) ≡ false) → Follows none closed w (with_book w made)
screened_follows closed w k id public image fill made o used filled e apart =
    let is = screened-is w.book made k id public image fill e in
    let next = screened w.book k id public image fill in
    let entry : ScreenId = record { client = k; id = id; screen = next_screen w.book; public = public } in
    let new = has-new w.book.screens (next_screen w.book) (record { image = image; fill = fill }) (next-free w.book o.spare).0 in
    subst (λ (b : Book). Follows none closed w (with_book w b)) is.1
    (book_follows none closed w next
    (record {
      image_ids = λ serial at. refl;
      screen_ids = λ host at. find-screen (λ e. (e.client == manager) && (e.id == host)) entry w.book.screen_ids (apart host at);
      stands = λ i was now on. on;
      numbered = λ s was now. new.others s (other-screen w.book s o.spare (o.screens s was));
    })
    (record {
      ties = HasTies-new_screen w.book next k id public image fill o.ties (e ∙ ap Ok (sym is.1));
      images = λ i now. elim (either_true (list_any (λ e. e.image == i) w.book.image_ids) _ now) [
        | inl here ↦ o.images i (first_true _ _ here)
        | inr on ↦ elim (new.any (refers_to i) on) [
          | inl at ↦ elim (referred image fill i at) [
            | inl same ↦ o.images i (subst (λ (n : ℕ). is_used w.book (Image n) ≡ true) same used)
            | inr same ↦ o.images i (subst (λ (n : ℕ). is_used w.book (Image n) ≡ true) same filled)
          ]
          | inr old ↦ o.images i (second_true (list_any (λ e. e.image == i) w.book.image_ids) _ old)
        ]
      ];
      numbers = o.numbers;
      screens = λ s now. elim (either_true (list_any (λ e. e.screen == s) (put_screen_id entry w.book.screen_ids)) _ now) [
        | inl here ↦ elim (screen-put s entry w.book.screen_ids here) [
          | inl at ↦ ap (λ (n : ℕ). is_some (screen_numbered next n)) (sym (eqb-true (next_screen w.book) s at)) ∙ ap is_some new.at
          | inr old ↦ still s (o.screens s (first_true _ _ old))
        ]
        | inr on ↦ still s (o.screens s (second_true (list_any (λ e. e.screen == s) w.book.screen_ids) _ on))
      ];
      spare = spare-taken w.book (record { image = image; fill = fill }) o.spare;
    }))
  where
    still : (s : ℕ) → is_some (screen_numbered w.book s) ≡ true → is_some (screen_numbered (screened w.book k id public image fill) s) ≡ true
    still s there =
        ap is_some ((has-new w.book.screens (next_screen w.book) (record { image = image; fill = fill }) (next-free w.book o.spare).0).others s (other-screen w.book s o.spare there)) ∙ there

-- the new screen is found under its id
pub screened_found : (book made : Book) (host image fill : ℕ) → AreFree book.screens book.spare → screen_id book manager host ≡ None → new_screen book manager host false image fill ≡ Ok made
    → (screen_id made manager host ≡ Some (record { client = manager; id = host; screen = next_screen book; public = false })) × (screen_numbered made (next_screen book) ≡ Some (record { image = image; fill = fill }))
screened_found book made host image fill spare free e =
    let is = screened-is book made manager host false image fill e in (
      ap (λ (b : Book). screen_id b manager host) (sym is.1) ∙ new-screen (λ e. (e.client == manager) && (e.id == host)) (record { client = manager; id = host; screen = next_screen book; public = false }) book.screen_ids free (same host),
      ap (λ (b : Book). screen_numbered b (next_screen book)) (sym is.1) ∙ (has-new book.screens (next_screen book) (record { image = image; fill = fill }) (next-free book spare).0).at,
    )
