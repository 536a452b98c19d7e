-- A world of the session's own stays so where the window manager gives its window an image and takes it away.
use Rattle.std.proofs.Common.{◌≡◌, ◌&&◌, ℕ, Bool, true, false, List, [], Option, Some, None, refl, sym, ap, subst, ◌∙◌, arith, eq-eqb}
use Rattle.std.specs.Prelude.{◌==◌, All, codes, get_or, not}
use Rattle.std.specs.List.{starts_with}
use Rattle.std.specs.Option.{option_map_or}
use Rattle.std.proofs.lemmas.Bool.{eqb-true, false_from_ne_true}
use Rattle.std.proofs.lemmas.Bool.Decides.{nat_tests}
use Rattle.std.proofs.lemmas.List.Elements.{All-filter, All-push, filter_passes}
use Rattle.r9_event.specs.declared.event.rio.Order.{Order}
use Rattle.model_draw_parts.specs.declared.images.ImageId.{ImageId}
use Rattle.model_draw_parts.specs.declared.images.Tie.{Tie}
use Rattle.model_draw_parts.specs.declared.images.Thing.TheVariants.{Image}
use Rattle.model_draw_parts.specs.images.Book.{Book, image_id, owner}
use Rattle.model_draw_parts.specs.images.Release.{is_tied_by, without}
use Rattle.model_draw_parts.proofs.images.Ties.{find-put}
use Rattle.model_draw.specs.draw.World.{World, with_book}
use Rattle.model_draw.specs.draw.Orders.{after_order, fits, manager, ordered}
use Rattle.law_shown.proofs.shown.Tests.{not_both}
use Rattle.law_likeness.proofs.likeness.Ids.{owner_manager}
use Rattle.law_likeness.proofs.making.Making.{entry}
use Rattle.law_likeness.proofs.losing.Forgetting.{other_image}
use Rattle.law_others.specs.others.Others.{HasKeptName}
use Rattle.law_devices.proofs.granted.Untying.{bereft, none_bereft}
use Rattle.law_devices.proofs.granted.Granting.{granted, new_tie}
use Rattle.law_devices.specs.assembled.Assembled.{IsAlone}

pub ordered_is : (w : World) (order : Order) → fits w order ≡ true → ordered w order ≡ after_order w order
ordered_is w order fit = rw fit refl

-- ---- a world of the session's own

pub same_serial : (m n : ℕ) (name other : List ℕ) → ◌≡◌ {A = Option (ℕ × List ℕ)} (Some (m, name)) (Some (n, other)) → m ≡ n
same_serial m n name other is = ap (λ (o : Option (ℕ × List ℕ)). option_map_or (λ w. w.0) o 0) is

fails : (b : Bool) → not b ≡ true → b ≡ false
fails true passes = absurd cc
fails false passes = refl

-- only the book matters
abbrev pub BookAlone : (window : Option (ℕ × List ℕ)) → World → Book → Type 0
BookAlone window w book = IsAlone window (with_book w book)

pub book_alone : (window : Option (ℕ × List ℕ)) (w v : World) → BookAlone window w v.book → IsAlone window v
book_alone window w v old = record { ids = old.ids; screens = old.screens; ties = old.ties }

-- the ties are the window's
pub alone_tied : (serial : ℕ) (name : List ℕ) (w : World) → IsAlone (Some (serial, name)) w → All (λ t. is_tied_by manager serial t ≡ true) w.book.ties
alone_tied serial name w alone k d lt =
    let t : Tie = get_or w.book.ties k d in
    let mine = alone.ties k d lt in
    rw (eq-eqb t.client manager mine.0, eq-eqb t.id serial (sym (same_serial serial t.id name mine.1.0 mine.1.1))) refl

module _ (w : World) (serial : ℕ) (name : List ℕ) (counted : (serial == 0) ≡ false) where
  pub bereft_alone : IsAlone (Some (serial, name)) w → BookAlone None w (bereft w.book serial)
  bereft_alone alone = record { ids = λ id other apart. by id other (id == serial) refl; screens = alone.screens; ties = none }
    where
      not_it : (id : ℕ) → (id == serial) ≡ false → ((owner manager id == manager) && (id == serial)) ≡ false
      not_it id is = grind (arith, nat_tests, owner_manager)

      by : (id : ℕ) → (id == 0) ≡ false → (same : Bool) → (id == serial) ≡ same → image_id (bereft w.book serial) manager id ≡ None
      by id other true is = subst (λ (n : ℕ). image_id (bereft w.book serial) manager n ≡ None) (sym (eqb-true id serial is)) (none_bereft w.book serial counted)
      by id other false is =
          other_image w.book.image_ids manager serial (owner manager id) id (not_it id is) ∙ alone.ids id other (λ n at. not_both (id == serial) (eq-eqb id serial (sym (same_serial serial id name n at))) is)

      none : All (λ t. (t.client ≡ manager) × ((n : List ℕ) × (◌≡◌ {A = Option (ℕ × List ℕ)} None (Some (t.id, n))))) (bereft w.book serial).ties
      none k d lt =
          let t : Tie = get_or (bereft w.book serial).ties k d in
          absurd (not_both (is_tied_by manager serial t) (All-filter (λ t. not (is_tied_by manager serial t)) (λ t. is_tied_by manager serial t ≡ true) w.book.ties (alone_tied serial name w alone) k d lt)
          (fails (is_tied_by manager serial t) (filter_passes (λ (t : Tie). not (is_tied_by manager serial t)) w.book.ties k d lt)))

pub without_alone : (w : World) (book : Book) (i : ℕ) → BookAlone None w book → BookAlone None w (without book (Image i))
without_alone w book i alone = record { ids = alone.ids; screens = alone.screens; ties = alone.ties }

pub granted_alone : (w : World) (book : Book) (serial i s : ℕ) (name : List ℕ) → BookAlone None w book → BookAlone (Some (serial, name)) w (granted book serial i s name)
granted_alone w book serial i s name alone = record {
  ids = λ id other apart.
      find-put (λ (e : ImageId). (e.client == owner manager id) && (e.id == id)) (entry manager serial i) book.image_ids
      (not_it id (false_from_ne_true (serial == id) (λ at. apart name (ap (λ (n : ℕ). let o : Option (ℕ × List ℕ) = Some (n, name) in o) (eqb-true serial id at)))))
      ∙ alone.ids id other (λ n at. absurd cc);
  screens = alone.screens;
  ties = All-push (λ t. (t.client ≡ manager) × ((n : List ℕ) × (window ≡ Some (t.id, n)))) book.ties (new_tie book serial i name) old (refl, (name, refl));
}
  where
    window : Option (ℕ × List ℕ)
    window = Some (serial, name)

    not_it : (id : ℕ) → (serial == id) ≡ false → ((manager == owner manager id) && (serial == id)) ≡ false
    not_it id is = grind (arith, nat_tests, owner_manager)

    old : All (λ t. (t.client ≡ manager) × ((n : List ℕ) × (window ≡ Some (t.id, n)))) book.ties
    old k d lt = absurd (let mine = alone.ties k d lt in let no : ◌≡◌ {A = Option (ℕ × List ℕ)} None (Some ((get_or book.ties k d).id, mine.1.0)) = mine.1.1 in cc)

pub kept_name : (serial : ℕ) (name : List ℕ) → starts_with ◌==◌ name (codes "window.") ≡ true → HasKeptName (Some (serial, name))
kept_name serial name kept n other is = subst (λ (o : Option (ℕ × List ℕ)). starts_with ◌==◌ (option_map_or (λ v. v.1) o []) (codes "window.") ≡ true) is kept
