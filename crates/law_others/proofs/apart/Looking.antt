-- What a connection outside a part looks up is not in it.
use Rattle.std.proofs.Common.{◌≡◌, ◌&&◌, ◌||◌, ℕ, Bool, true, false, List, [], ◌∷◌, Option, Some, None, Ok, refl, sym, ap, subst, ◌∙◌}
use Rattle.std.specs.Prelude.{◌==◌, find, is_some, not, option_map, if◌then◌else◌}
use Rattle.std.specs.Option.{option_map_or}
use Rattle.std.proofs.lemmas.Bool.{eqb-true}
use Rattle.model_text.specs.text.Outcome.{◌>>=◌, refuse_if, value_or_refuse}
use Rattle.model_draw_parts.specs.declared.images.ImageId.{ImageId}
use Rattle.model_draw_parts.specs.declared.images.ScreenId.{ScreenId}
use Rattle.model_draw_parts.specs.declared.images.Screen.{Screen as Filled}
use Rattle.model_draw_parts.specs.declared.images.Tie.{Tie}
use Rattle.model_draw_parts.specs.images.Book.{Book, by_name, fill_of, image, image_id, image_of, is_stale, owner, public, screen, screen_id, screen_numbered, tie_of}
use Rattle.model_draw_parts.specs.images.Release.{refers_to}
use Rattle.model_draw.specs.draw.World.{World, is_display, look}
use Rattle.model_draw.specs.draw.Making.{is_window, screen_named}
use Rattle.model_draw.specs.draw.Moving.{look_window, look_windows}
use Rattle.model_draw.specs.draw.Orders.{manager}
use Rattle.law_shown.proofs.shown.Tests.{find-passes, first_false, first_true, not_both, refuse_ok, same, same_Ok, same_Some, second_true, split, then_ok, value_ok}
use Rattle.law_likeness.specs.likeness.Likeness.{display_id}
use Rattle.law_likeness.proofs.making.Entries.{all_found}
use Rattle.law_others.specs.apart.Apart.{IsApartBook, IsOutside, Part}

module _ (part : Part) where
  -- an id that is not in the part, nor that of the display, shows no image of the part
  pub own_beside : (k id : ℕ) → (id == 0) ≡ false → (part.id k id → ⊥) → (b : Book) (e : ImageId) → IsApartBook part b → image_id b k id ≡ Some e → part.image e.image → ⊥
  own_beside k id counted none b e apart found is =
      let passes = split _ _ (find-passes (λ (x : ImageId). (x.client == owner k id) && (x.id == id)) b.image_ids e found) in
      let own : owner k id ≡ k = rw counted refl in
      let client : e.client ≡ k = eqb-true e.client (owner k id) passes.0 ∙ own in
      let at : e.id ≡ id = eqb-true e.id id passes.1 in
      none (subst (λ (n : ℕ). part.id n id) client (subst (λ (n : ℕ). part.id e.client n) at (all_found (λ (x : ImageId). part.image x.image → part.id x.client x.id) _ b.image_ids e apart.ids found is)))

module _ (part : Part) (k : ℕ) (outside : IsOutside part k) where
  -- an id shows no image of the part
  shown_beside : (b : Book) (id : ℕ) (e : ImageId) → IsApartBook part b → image_id b k id ≡ Some e → part.image e.image → ⊥
  shown_beside b id e apart found is = by (id == 0) refl
    where
      by : (zero : Bool) → (id == 0) ≡ zero → ⊥
      by true at =
          let here : image_id b manager 0 ≡ Some e = sym (ap (λ (n : ℕ). image_id b k n) (eqb-true id 0 at)) ∙ found in
          apart.display (subst (λ (x : ImageId). part.image x.image) (same_Some e display_id (sym here ∙ apart.named)) is)
      by false at = own_beside part k id at (outside.none id) b e apart found is

  stale_or : (b : Bool) (i j : ℕ) → (refuse_if b 18 >>= λ _. Ok j) ≡ Ok i → j ≡ i
  stale_or true i j h = absurd cc
  stale_or false i j h = cc

  pub image_beside : (b : Book) (id i : ℕ) → IsApartBook part b → image b k id ≡ Ok i → part.image i → ⊥
  unfolding image
  image_beside b id i apart looked is =
      let found = value_ok (image_id b k id) 4 _ i looked in
      shown_beside b id found.0 apart found.1 (subst part.image (sym (stale_or (is_stale b found.0) i found.0.image found.2)) is)

  screen_of_id : (o : Option ScreenId) (s : ℕ) → value_or_refuse (option_map (λ e. e.screen) o) 5 ≡ Ok s → (e : ScreenId) × (o ≡ Some e) × (e.screen ≡ s)
  screen_of_id (Some e) s h = (e, refl, same_Ok e.screen s h)
  screen_of_id None s h = absurd cc

  -- an id is of no screen of the part
  pub screen_beside : (b : Book) (id s : ℕ) → IsApartBook part b → screen b k id ≡ Ok s → part.screen s → ⊥
  unfolding screen
  screen_beside b id s apart looked is =
      let found = screen_of_id (screen_id b k id) s looked in
      let e = found.0 in
      let at = split _ _ (find-passes (λ (x : ScreenId). (x.client == k) && (x.id == id)) b.screen_ids e found.1) in
      let key = (all_found (λ (x : ScreenId). part.screen x.screen → part.screen_id x.client x.id × (x.public ≡ false)) _ b.screen_ids e apart.screen_ids found.1 (subst part.screen (sym found.2) is)).0 in
      let own : part.screen_id k e.id = subst (λ (n : ℕ). part.screen_id n e.id) (eqb-true e.client k at.0) key in
      not_both ((k == k) && (e.id == e.id)) (both_same k e.id) ((outside.screen_ids e.id).ids k e.id own)
    where
      both_same : (m n : ℕ) → ((m == m) && (n == n)) ≡ true
      both_same m n = rw (same m, same n) refl

  -- and a public one is none of the part
  pub public_beside : (b : Book) (id s : ℕ) → IsApartBook part b → public b id ≡ Ok s → part.screen s → ⊥
  unfolding public
  public_beside b id s apart looked is =
      let found = screen_of_id (find (λ e. e.public && (e.id == id)) b.screen_ids) s looked in
      let e = found.0 in
      let at = split _ _ (find-passes (λ (x : ScreenId). x.public && (x.id == id)) b.screen_ids e found.1) in
      not_both e.public at.0
      (all_found (λ (x : ScreenId). part.screen x.screen → part.screen_id x.client x.id × (x.public ≡ false)) _ b.screen_ids e apart.screen_ids found.1 (subst part.screen (sym found.2) is)).1

  pub named_beside : (w : World) (id : ℕ) (s : Option ℕ) → IsApartBook part w.book → screen_named w k id ≡ Ok s → (t : ℕ) → s ≡ Some t → part.screen t → ⊥
  named_beside w id s apart e t at = by (id == 0) e
    where
      by : (zero : Bool) → (if zero then Ok None else screen w.book k id >>= λ s. Ok (Some s)) ≡ Ok s → part.screen t → ⊥
      by true e = absurd (let two : ◌≡◌ {A = Option ℕ} None (Some t) = same_Ok None s e ∙ at in cc)
      by false e =
          let found = then_ok (screen w.book k id) (λ s. Ok (Some s)) s e in
          let same : found.0 ≡ t = same_Some found.0 t (same_Ok (Some found.0) s found.2 ∙ at) in
          screen_beside w.book id t apart (found.1 ∙ ap Ok same)

  -- the image of a name that is none of the part's
  pub tie_beside : (b : Book) (name : List ℕ) (t : Tie) → IsApartBook part b → (part.name t.name → ⊥) → tie_of b name ≡ Some t → part.image t.image → ⊥
  tie_beside b name t apart none found is = none (all_found (λ (u : Tie). part.image u.image → part.name u.name × part.id u.client u.id) _ b.ties t apart.ties found is).0

  -- ---- windows

  not_not : (b : Bool) → not b ≡ false → b ≡ true
  not_not true h = refl
  not_not false h = absurd cc

  pub window_looked : (w : World) (id i : ℕ) → look_window w k id ≡ Ok i → (look w k id ≡ Ok i) × (is_window w i ≡ true)
  window_looked w id i e =
      let found = then_ok (look w k id) (λ j. refuse_if (not (is_window w j) || by_name w.book k id) 20 >>= λ _. Ok j) i e in
      let checked = refuse_ok (not (is_window w found.0) || by_name w.book k id) 20 (λ _. Ok found.0) i found.2 in
      let same : found.0 ≡ i = same_Ok found.0 i checked.1 in
      (found.1 ∙ ap Ok same, ap (is_window w) (sym same) ∙ not_not (is_window w found.0) (first_false (not (is_window w found.0)) _ checked.0))

  pub window_beside : (w : World) (id i : ℕ) → IsApartBook part w.book → look_window w k id ≡ Ok i → part.image i → ⊥
  window_beside w id i apart e = image_beside w.book id i apart (window_looked w id i e).0

  pub windows_beside : (w : World) (ids group : List ℕ) → IsApartBook part w.book → look_windows w k ids ≡ Ok group → (i : ℕ) (rest : List ℕ) → group ≡ i ∷ rest → part.image i → ⊥
  windows_beside w [] group apart e i rest is = absurd (let none : ◌≡◌ {A = List ℕ} [] (i ∷ rest) = same_Ok [] group e ∙ is in cc)
  windows_beside w (id ∷ ids) group apart e i rest is =
      let found = then_ok (look_window w k id) _ group e in
      let more = then_ok (look_windows w k ids) _ group found.2 in
      let at : ◌≡◌ {A = List ℕ} (found.0 ∷ more.0) (i ∷ rest) = same_Ok (found.0 ∷ more.0) group more.2 ∙ is in
      let first : found.0 ≡ i = cc in
      window_beside w id i apart (found.1 ∙ ap Ok first)

module _ (part : Part) where
  -- the image and the fill of a screen that is none of the part
  pub ground_beside : (b : Book) (s : ℕ) → IsApartBook part b → (part.screen s → ⊥) → (part.image (image_of b s) → ⊥) × (part.image (fill_of b s) → ⊥)
  ground_beside b s apart none = by (screen_numbered b s) refl
    where
      by : (o : Option Filled) → screen_numbered b s ≡ o → (part.image (option_map_or (λ (e : Filled). e.image) o 0) → ⊥) × (part.image (option_map_or (λ (e : Filled). e.fill) o 0) → ⊥)
      by None found = (apart.display, apart.display)
      by (Some e) found = (
        (λ is. none (apart.screens e.image s is (ap (refers_to e.image) found ∙ first_true (e.image == e.image) _ (same e.image)))),
        (λ is. none (apart.screens e.fill s is (ap (refers_to e.fill) found ∙ second_true (e.image == e.fill) _ (same e.fill)))),
      )

  -- a display that is looked for is image 0
  pub not_display : (w : World) (i : ℕ) → IsApartBook part w.book → is_display w i ≡ false → i ≡ 0 → ⊥
  not_display w i apart none at =
      let here : is_display w i ≡ true = ap (λ (o : Option ImageId). option_map_or (λ e. e.image == i) o false) apart.named ∙ ap (λ (n : ℕ). 0 == n) at in
      not_both (is_display w i) here none

  -- the display is no window
  pub not_bare : (w : World) (i : ℕ) → IsApartBook part w.book → is_window w i ≡ true → i ≡ 0 → ⊥
  not_bare w i apart is at = absurd (let none : is_window w i ≡ false = ap (λ (n : ℕ). is_window w n) at ∙ ap (λ (o : Option ℕ). is_some o) apart.bare in not_both (is_window w i) is none)
