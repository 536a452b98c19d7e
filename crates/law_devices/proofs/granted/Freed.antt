-- The window manager frees its image id of the session's window on two devices that are like.
use Rattle.std.proofs.Common.{◌≡◌, ◌||◌, ◌&&◌, ℕ, zero, suc, Bool, true, false, List, [], ◌∷◌, ◌++◌, Option, Some, None, Ok, refl, sym, ap, subst, ◌∙◌}
use Rattle.std.specs.Prelude.{◌==◌, is_some, not, if◌then◌else◌}
use Rattle.std.specs.Option.{option_map_or}
use Rattle.std.specs.Result.{result_unwrap_or}
use Rattle.std.proofs.lemmas.Bool.{eqb-true}
use Rattle.model_text.specs.text.Outcome.{Outcome, ◌>>=◌, value_or_refuse}
use Rattle.model_draw_parts.specs.declared.images.ImageId.{ImageId}
use Rattle.model_draw_parts.specs.declared.images.Thing.{Thing}
use Rattle.model_draw_parts.specs.declared.images.Thing.TheVariants.{Image, Screen}
use Rattle.model_draw_parts.specs.declared.images.Tie.{Tie}
use Rattle.model_draw_parts.specs.images.Book.{Book, image_id, owner}
use Rattle.model_draw_parts.specs.images.Release.{Freed, free_id, freed_image_id, has_gone, is_tied_by, is_used, nothing_freed, references, released, settled, steps_for, with_gone, with_ties_ended, without_image_id}
use Rattle.model_draw_parts.specs.images.Ties.{HasTies}
use Rattle.model_draw_parts.proofs.images.Steps.{released-exactly}
use Rattle.model_draw.specs.draw.World.{World, after_freed, with_book}
use Rattle.model_draw.specs.draw.Orders.{image_freed, image_shown, manager}
use Rattle.law_likeness.specs.agreement.Agreement.{SameOption}
use Rattle.law_shown.proofs.shown.Tests.{find-passes, split}
use Rattle.law_likeness.specs.likeness.Likeness.{AreLike, SameHold, SameId, is_root}
use Rattle.law_likeness.proofs.likeness.Ids.{owner_manager}
use Rattle.law_likeness.specs.making.Likes.{IsLike, Matched}
use Rattle.law_likeness.specs.making.Standing.{IsStanding, IsWhole}
use Rattle.law_likeness.proofs.freeing.Stages.{IsAt, after_staged, releases_at, staged}
use Rattle.law_likeness.proofs.whole.Freeing.{begins, image_id_goes}
use Rattle.law_devices.proofs.granted.Untying.{bereft, kept_display, ties_bereft, window_lost}

-- ---- ties end before things go as they end after

abbrev going : (Freed → List Thing → Freed) → Freed → Thing → List Thing → Bool → Freed
going more freed t ts true = more freed ts
going more freed t ts false = more (with_gone freed t) (references freed.book t ++ ts)

settled_untied : (ends : Tie → Bool) (steps : ℕ) (freed : Freed) (things : List Thing) → settled steps (with_ties_ended ends freed) things ≡ with_ties_ended ends (settled steps freed things)
settled_untied ends zero freed things = refl
settled_untied ends (suc steps) freed [] = refl
settled_untied ends (suc steps) freed (Image i ∷ ts) = by (settled_untied ends steps) (is_used freed.book (Image i) || has_gone freed (Image i))
  where
    by : ((f : Freed) (things : List Thing) → settled steps (with_ties_ended ends f) things ≡ with_ties_ended ends (settled steps f things)) → (b : Bool)
        → going (settled steps) (with_ties_ended ends freed) (Image i) ts b ≡ with_ties_ended ends (going (settled steps) freed (Image i) ts b)
    by more true = more freed ts
    by more false = more (with_gone freed (Image i)) (references freed.book (Image i) ++ ts)
settled_untied ends (suc steps) freed (Screen s ∷ ts) = by (settled_untied ends steps) (is_used freed.book (Screen s) || has_gone freed (Screen s))
  where
    by : ((f : Freed) (things : List Thing) → settled steps (with_ties_ended ends f) things ≡ with_ties_ended ends (settled steps f things)) → (b : Bool)
        → going (settled steps) (with_ties_ended ends freed) (Screen s) ts b ≡ with_ties_ended ends (going (settled steps) freed (Screen s) ts b)
    by more true = more freed ts
    by more false = more (with_gone freed (Screen s)) (references freed.book (Screen s) ++ ts)

settled_ties : (steps : ℕ) (freed : Freed) (things : List Thing) → (settled steps freed things).book.ties ≡ freed.book.ties
settled_ties zero freed things = refl
settled_ties (suc steps) freed [] = refl
settled_ties (suc steps) freed (t ∷ ts) = by (settled_ties steps) (is_used freed.book t || has_gone freed t)
  where
    gone : (t : Thing) → (with_gone freed t).book.ties ≡ freed.book.ties
    gone (Image i) = refl
    gone (Screen s) = refl

    by : ((next : Freed) (things : List Thing) → (settled steps next things).book.ties ≡ next.book.ties) → (b : Bool) → (going (settled steps) freed t ts b).book.ties ≡ freed.book.ties
    by more true = more freed ts
    by more false = more (with_gone freed t) (references freed.book t ++ ts) ∙ gone t

-- ---- one device

module _ (book : Book) (serial : ℕ) (counted : (serial == 0) ≡ false) (e : ImageId) (found : image_id book manager serial ≡ Some e) where
  key : ((e.client == owner manager serial) ≡ true) × ((e.id == serial) ≡ true)
  key = split (e.client == owner manager serial) (e.id == serial) (find-passes (λ (z : ImageId). (z.client == owner manager serial) && (z.id == serial)) book.image_ids e found)

  freed_by : free_id book manager serial ≡ Ok (with_ties_ended (is_tied_by manager serial) (freed_image_id (nothing_freed book) e))
  unfolding free_id
  freed_by =
      ap (λ (o : Option ImageId). value_or_refuse o 4 >>= λ e. Ok (with_ties_ended (is_tied_by manager serial) (freed_image_id (nothing_freed book) e)))
      (ap (λ (zero : Bool). if zero && not (manager == 0) then None else image_id book manager serial) counted ∙ found)

  -- what goes is what goes from the book without the id
  pub freed_is : image_freed book serial ≡ released (nothing_freed (bereft book serial)) (Image e.image ∷ [])
  freed_is =
      ap (λ (o : Outcome Freed). result_unwrap_or o (nothing_freed book)) freed_by
      ∙ ap (λ (k : ℕ). with_ties_ended (is_tied_by manager serial) (released (record { book = without_image_id book k e.id; gone = [] }) (Image e.image ∷ [])))
      (eqb-true e.client (owner manager serial) key.0 ∙ owner_manager serial)
      ∙ ap (λ (k : ℕ). with_ties_ended (is_tied_by manager serial) (released (record { book = without_image_id book manager k; gone = [] }) (Image e.image ∷ []))) (eqb-true e.id serial key.1)
      ∙ sym (settled_untied (is_tied_by manager serial) (steps_for (without_image_id book manager serial) (Image e.image ∷ [])) (record { book = without_image_id book manager serial; gone = [] }) (Image e.image ∷ []))

  -- the ties are left that the id did not make
  pub freed_ties : (image_freed book serial).book.ties ≡ (bereft book serial).ties
  freed_ties = ap (λ (f : Freed). f.book.ties) freed_is ∙ settled_ties (steps_for (bereft book serial) (Image e.image ∷ [])) (nothing_freed (bereft book serial)) (Image e.image ∷ [])

pub standing_bereft : (w : World) (serial : ℕ) → IsWhole w → IsStanding (with_book w (bereft w.book serial))
standing_bereft w serial whole =
    let goes = image_id_goes w (nothing_freed w.book) (begins w whole) manager serial in
    let old : IsStanding (staged w (record (nothing_freed w.book) { book = without_image_id w.book manager serial })) = goes.standing in
    record {
      live = λ i used. old.live i used;
      screens = λ s used. old.screens s used;
      stands = old.stands;
      windows = old.windows;
      placed = old.placed;
      finds = record { image_ids = old.finds.image_ids; screen_ids = old.finds.screen_ids; windows = old.finds.windows };
    }

-- ---- both devices

-- the ids that the manager has of the window's image, which is the same
pub record AreKnown (Same : ℕ → ℕ → Type 0) (a b : Book) (serial : ℕ) : Type 0 where
  pub left : ImageId
  pub right : ImageId
  pub found : image_id a manager serial ≡ Some left
  pub there : image_id b manager serial ≡ Some right
  pub same : Same left.image right.image

pub are_known : (Same : ℕ → ℕ → Type 0) (a b : Book) (serial : ℕ) (name : List ℕ) → SameHold Same a b serial name → is_some (image_id a manager serial) ≡ true → AreKnown Same a b serial
are_known Same a b serial name hold some = by (image_id a manager serial) (image_id b manager serial) refl refl hold.id some
  where
    by : (o q : Option ImageId) → image_id a manager serial ≡ o → image_id b manager serial ≡ q → SameOption (SameId Same a b) o q → is_some o ≡ true → AreKnown Same a b serial
    by (Some e) (Some f) found there one has = record { left = e; right = f; found = found; there = there; same = one.image }
    by (Some e) None found there one has = absurd one
    by None q found there one has = absurd cc

pub both_shown : (Same : ℕ → ℕ → Type 0) (a b : World) (serial : ℕ) → AreKnown Same a.book b.book serial → Same (image_shown a serial) (image_shown b serial)
both_shown Same a b serial known =
    subst (λ (o : Option ImageId). Same (option_map_or (λ (e : ImageId). e.image) o 0) (image_shown b serial)) (sym known.found)
    (subst (λ (o : Option ImageId). Same known.left.image (option_map_or (λ (e : ImageId). e.image) o 0)) (sym known.there) known.same)

module _ (c serial : ℕ) (name : List ℕ) (a b : World) (is : IsLike c (Some (serial, name)) a b) (whole_a : IsWhole a) (whole_b : IsWhole b) (ties_a : HasTies a.book) (ties_b : HasTies b.book) (counted : (serial == 0) ≡ false)
    (known : AreKnown (Matched is.images) a.book b.book serial) where
  abbrev S : ℕ → ℕ → Type 0
  S i j = Matched is.images i j

  abbrev T : ℕ → ℕ → Type 0
  T s t = Matched is.screens s t

  abbrev left : World
  left = with_book a (bereft a.book serial)

  abbrev right : World
  right = with_book b (bereft b.book serial)

  without_id : AreLike S T c None left right
  without_id = record {
    counted = is.like.counted;
    images = is.like.images;
    books = window_lost S T c serial name a.book b.book is.like.books is.like.counted counted ties_a ties_b;
    display = record {
      named = kept_display a.book serial counted ∙ is.like.display.named;
      named_alone = kept_display b.book serial counted ∙ is.like.display.named_alone;
      look = is.like.display.look;
      live_left = is.like.display.live_left;
      live_right = is.like.display.live_right;
      left = is.like.display.left;
      right = is.like.display.right;
    };
    clients = is.like.clients;
  }

  abbrev At : Freed → Freed → Type 0
  At f g = IsAt S T c None left right (is_root a.book) (is_root b.book) f g

  begun : At (nothing_freed left.book) (nothing_freed right.book)
  begun = record {
    is = record { images = is.images; screens = is.screens; like = without_id };
    left = standing_bereft a serial whole_a;
    right = standing_bereft b serial whole_b;
    ties_left = ties_bereft a.book serial counted ties_a;
    ties_right = ties_bereft b.book serial counted ties_b;
    images = λ i j same. refl;
    screens = λ s t same. refl;
    still = λ i j same kept. same;
    still_screens = λ s t same kept. same;
    first = λ i j same. same;
    first_screens = λ s t same. same;
    root_left = λ s. refl;
    root_right = λ s. refl;
  }

  abbrev pub gone_left : Freed
  gone_left = released (nothing_freed left.book) (Image known.left.image ∷ [])

  abbrev pub gone_right : Freed
  gone_right = released (nothing_freed right.book) (Image known.right.image ∷ [])

  pub gone_at : At gone_left gone_right
  gone_at =
      releases_at S T c None left right (is_root a.book) (is_root b.book) is.like.images.once is.like.images.alone is.like.books.once is.like.books.alone gone_left gone_right
      (nothing_freed left.book) (nothing_freed right.book) (Image known.left.image ∷ []) (Image known.right.image ∷ []) ((released-exactly _ _ _).1 refl) ((released-exactly _ _ _).1 refl) begun (known.same, tt)

  after_left : after_freed a (image_freed a.book serial) ≡ staged left gone_left
  after_left = ap (after_freed a) (freed_is a.book serial counted known.left known.found) ∙ after_staged left gone_left

  after_right : after_freed b (image_freed b.book serial) ≡ staged right gone_right
  after_right = ap (after_freed b) (freed_is b.book serial counted known.right known.there) ∙ after_staged right gone_right

  -- the devices are like by what has not gone, and the session has no window
  pub freed_like : IsLike c None (after_freed a (image_freed a.book serial)) (after_freed b (image_freed b.book serial))
  freed_like =
      subst (λ (w : World). IsLike c None w (after_freed b (image_freed b.book serial))) (sym after_left)
      (subst (λ (w : World). IsLike c None (staged left gone_left) w) (sym after_right) gone_at.is)
