-- What goes while a new image has no id yet, which gets one then.
use Rattle.std.proofs.Common.{◌≡◌, ℕ, Bool, true, false, List, [], ◌∷◌, ◌++◌, Option, Some, None, Result, Ok, Err, OnOk, OnErr, inl, inr, refl, sym, ap, subst, ◌∙◌}
use Rattle.std.specs.Prelude.{◌^◌, ◌==◌, ◌&&◌, ◌||◌, find, is_some, option_map}
use Rattle.std.specs.List.{fold, list_any}
use Rattle.std.proofs.lemmas.Bool.{eqb-true}
use Rattle.std.proofs.lemmas.List.Folds.{list_any-append}
use Rattle.r9_geom.specs.Geometry.{HasPoints, IsRectNearBy}
use Rattle.model_forest.specs.World.{Image, World, image_at, no_image, parent_of}
use Rattle.model_forest.proofs.Releasing.{SameFrame, Stays, frame-same, stays-after}
use Rattle.model_draw_parts.specs.declared.images.OnScreen.{OnScreen}
use Rattle.model_draw_parts.specs.declared.images.Thing.{Thing}
use Rattle.model_draw_parts.specs.declared.images.Thing.TheVariants.{Image as Shown, Screen}
use Rattle.model_draw_parts.specs.images.Book.{Book, add_id, image_id, screen_numbered, screen_of}
use Rattle.model_draw_parts.specs.images.Release.{Freed, IsFreed, IsInOrder, KeepsRest, has_gone, is_used, refers, same_thing}
use Rattle.model_draw_parts.proofs.images.Complete.{LeavesNone}
use Rattle.r9_device.specs.device.Kept.{IsKept, standing_on}
use Rattle.r9_device.specs.device.Gone.{CanRelease, images_without}
use Rattle.r9_device.proofs.device.Lookups.{first_true, second_true}
use Rattle.r9_device.proofs.device.Rects.{first_false, second_false}
use Rattle.r9_device.proofs.device.Going.{IsGoing, either_true, fold-gone, fold-stays, going-begins, not-true, not_both}
use Rattle.r9_device.proofs.device.Kept.{Grows, any-window, can-release, find-new_window, find-window, kept-added, kept-freed, no-screen, none-at, standing-kept}

-- the book in which a new image stands on a screen
abbrev pub with_pending : Book → (i s : ℕ) → Book
with_pending book i s = record book { windows = book.windows ++ record { image = i; screen = s } ∷ [] }

-- what refers to another screen than its own did so before
refers-before : (book : Book) (i s : ℕ) (other thing : Thing) → same_thing (Screen s) thing ≡ false → refers (with_pending book i s) other thing ≡ true → refers book other thing ≡ true
refers-before book i s (Shown w) (Screen t) apart h = elim (either_true (list_any (λ e. (e.image == w) && (e.screen == t)) book.windows) _ (sym (list_any-append (λ e. (e.image == w) && (e.screen == t)) book.windows (record { image = i; screen = s } ∷ [])) ∙ h)) [
  | inl old ↦ old
  | inr new ↦ absurd (none (i == w) (s == t) apart new)
]
  where
    none : (a b : Bool) → b ≡ false → ((a && b) || false) ≡ true → ⊥
    none true true e h = cc
    none true false e h = cc
    none false b e h = cc
refers-before book i s (Screen t) (Shown n) apart h = h
refers-before book i s (Shown w) (Shown n) apart h = h
refers-before book i s (Screen t) (Screen u) apart h = h

order-beside : (book : Book) (i s : ℕ) (things before : List Thing) → list_any (same_thing (Screen s)) things ≡ false → IsInOrder book before things → IsInOrder (with_pending book i s) before things
order-beside book i s [] before none order = tt
order-beside book i s (t ∷ ts) before none order = (
  λ other h. order.0 other (refers-before book i s other t (first_false (same_thing (Screen s) t) _ none) h),
  order-beside book i s ts (t ∷ before) (second_false (same_thing (Screen s) t) _ none) order.1,
)

-- what has no image has none that stands on a screen
screen_none : (o : Option OnScreen) → option_map (λ w. w.screen) o ≡ None → o ≡ None
screen_none None e = refl
screen_none (Some w) e = absurd cc

pub can-release-beside : (images next : World) (book : Book) (freed : Freed) (i s : ℕ) → IsKept images book → Grows images next book i (Some s) → is_some (screen_numbered book s) ≡ true
    → has_gone freed (Screen s) ≡ false → IsFreed book freed → IsInOrder book [] freed.gone → CanRelease next (with_pending book i s) freed.gone
can-release-beside images next book freed i s kept g there stays f order = record {
  stands = λ n. stands n (n == i) refl;
  screens = λ t h. elim (either_true (list_any (λ e. e.screen == t) book.screen_ids) _ h) [
    | inl here ↦ kept.screens t (first_true _ _ here)
    | inr on ↦ elim (any-window i t (Some s) book.windows on) [
      | inl is ↦ let same : s ≡ t = cc in ap (λ n. is_some (screen_numbered book n)) (sym same) ∙ there
      | inr old ↦ kept.screens t (second_true (list_any (λ e. e.screen == t) book.screen_ids) _ old)
    ]
  ];
  live = λ n h. live n (n == i) refl (kept.live n (f.gone_used (Shown n) h));
  once = f.once;
  order = order-beside book i s freed.gone [] stays order;
}
  where
    live : (n : ℕ) (b : Bool) → (n == i) ≡ b → is_some (images n) ≡ true → is_some (next n) ≡ true
    live n true e h = ap (λ m. is_some (next m)) (eqb-true n i e) ∙ g.live
    live n false e h = (g.others n e).live ∙ h

    stands : (n : ℕ) (b : Bool) → (n == i) ≡ b → (image_at next n).standing ≡ option_map (standing_on (with_pending book i s)) (screen_of (with_pending book i s) n)
    stands n true e =
        let P : ℕ → Type 0 = λ m. (image_at next m).standing ≡ option_map (standing_on (with_pending book i s)) (screen_of (with_pending book i s) m) in
        let new : screen_of (with_pending book i s) i ≡ Some s = find-new_window i (Some s) book.windows (screen_none (find (λ w. w.image == i) book.windows) (no-screen images book i kept g.free)) in
        subst P (sym (eqb-true n i e)) (g.stands ∙ ap (λ (o : Option ℕ). option_map (standing_on book) o) (sym new))
    stands n false e =
        (g.others n e).frame.standing ∙ (kept.placed n).stands
        ∙ ap (λ (o : Option OnScreen). option_map (standing_on book) (option_map (λ w. w.screen) o)) (sym (find-window i n (Some s) book.windows e))

-- ---- both worlds once the things have gone

frame_back : (a b : Image) → SameFrame a b → SameFrame b a
frame_back a b f = record { r = sym f.r; clipr = sym f.clipr; repl = sym f.repl; chan = sym f.chan; standing = sym f.standing; depth = sym f.depth }

stays_back : (a b : World) (n : ℕ) → Stays a b n → Stays b a n
stays_back a b n s = record { live = sym s.live; frame = frame_back _ _ s.frame }

both_gone : (a b : World) (n : ℕ) → is_some (a n) ≡ false → is_some (b n) ≡ false → Stays a b n
both_gone a b n h k = record {
  live = k ∙ sym h;
  frame = (let P : Image → Type 0 = λ x. SameFrame x (image_at b n) in let Q : Image → Type 0 = λ x. SameFrame no_image x in subst P (sym (none-at a n h)) (subst Q (sym (none-at b n k)) (frame-same no_image)));
}

is_none-of : (o : Option Image) → is_some o ≡ false → o ≡ None
is_none-of None h = refl
is_none-of (Some x) h = absurd cc

abbrev pub Parents : World → Type 0
Parents images = (n p : ℕ) → is_some (images n) ≡ true → parent_of images n ≡ Some p → is_some (images p) ≡ true

-- the new image beside what is left
grows-left : (images next : World) (book : Book) (freed : Freed) (i s : ℕ) → IsKept images book → Parents images → Parents next → Grows images next book i (Some s) → is_used freed.book (Screen s) ≡ true
    → IsFreed book freed → IsInOrder book [] freed.gone → KeepsRest book freed → Grows (fold images_without images freed.gone) (fold images_without next freed.gone) freed.book i (Some s)
grows-left images next book freed i s kept parents parents_next g used f order rest =
    let f_i = (after i new_stays).frame in
    record {
      free = is_none-of _ ((before i new_stays).live ∙ ap is_some g.free);
      others = λ n e. others n e (has_gone freed (Shown n)) refl;
      live = (after i new_stays).live ∙ g.live;
      stands = f_i.standing ∙ g.stands ∙ ap Some (sym (standing-kept book freed s rest f used));
      points = subst HasPoints (sym f_i.r) g.points;
      near = subst (IsRectNearBy (2 ^ 32)) (sym f_i.r) g.near;
      clip = subst (IsRectNearBy (2 ^ 33)) (sym f_i.clipr) g.clip;
    }
  where
    there : is_some (screen_numbered book s) ≡ true
    there = kept.screens s (f.used (Screen s) used)

    screen_stays : has_gone freed (Screen s) ≡ false
    screen_stays = not-true (has_gone freed (Screen s)) (λ h. not_both (is_used freed.book (Screen s)) used (f.gone_unused (Screen s) h))

    new_stays : has_gone freed (Shown i) ≡ false
    new_stays = not-true (has_gone freed (Shown i)) (λ h. not_both (is_some (images i)) (kept.live i (f.gone_used (Shown i) h)) (ap is_some g.free))

    going : IsGoing (with_pending book i s) next [] freed.gone
    going = going-begins next (with_pending book i s) freed.gone (can-release-beside images next book freed i s kept g there screen_stays f order) parents_next

    went : IsGoing book images [] freed.gone
    went = going-begins images book freed.gone (can-release images book freed kept f order) parents

    after : (n : ℕ) → has_gone freed (Shown n) ≡ false → Stays next (fold images_without next freed.gone) n
    after n h = fold-stays freed.gone [] (with_pending book i s) next n going h

    before : (n : ℕ) → has_gone freed (Shown n) ≡ false → Stays images (fold images_without images freed.gone) n
    before n h = fold-stays freed.gone [] book images n went h

    others : (n : ℕ) → (n == i) ≡ false → (b : Bool) → has_gone freed (Shown n) ≡ b → Stays (fold images_without images freed.gone) (fold images_without next freed.gone) n
    others n e true h = both_gone _ _ n (fold-gone freed.gone book images n went h) (fold-gone freed.gone (with_pending book i s) next n going h)
    others n e false h = stays-after _ images _ n (stays_back _ _ n (before n h)) (stays-after images next _ n (g.others n e) (after n h))

screen-stays : (images : World) (book : Book) (freed : Freed) (s : ℕ) → is_used freed.book (Screen s) ≡ true → IsFreed book freed → has_gone freed (Screen s) ≡ false
screen-stays images book freed s used f = not-true (has_gone freed (Screen s)) (λ h. not_both (is_used freed.book (Screen s)) used (f.gone_unused (Screen s) h))

-- what goes may go, whether the new image has come or not
pub can-release-next : {A E : Type 0} (o : Result A E) (images next : World) (book : Book) (freed : Freed) (i s : ℕ) → IsKept images book → OnOk o (Grows images next book i (Some s)) → OnErr o (next ≡ images)
    → is_used freed.book (Screen s) ≡ true → IsFreed book freed → IsInOrder book [] freed.gone → (b : Book) × CanRelease next b freed.gone
can-release-next (Ok x) images next book freed i s kept g same used f order =
    (with_pending book i s, can-release-beside images next book freed i s kept g (kept.screens s (f.used (Screen s) used)) (screen-stays images book freed s used f) f order)
can-release-next (Err x) images next book freed i s kept g same used f order =
    (book, subst (λ (w : World). CanRelease w book freed.gone) (sym same) (can-release images book freed kept f order))

pub kept-renewed : (images next last : World) (book added : Book) (freed : Freed) (id i s : ℕ) → IsKept images book → Parents images → Parents next
    → Grows images next book i (Some s) → is_used freed.book (Screen s) ≡ true → IsFreed book freed → LeavesNone book freed → IsInOrder book [] freed.gone → KeepsRest book freed → image_id freed.book 0 0 ≡ image_id book 0 0
    → last ≡ fold images_without next freed.gone → add_id freed.book 0 id i (Some s) ≡ Ok added → (id == 0) ≡ false → IsKept last added
kept-renewed images next last book added freed id i s kept parents parents_next g used f none order rest display is e other =
    let P : World → Type 0 = λ w. IsKept w added in
    subst P (sym is)
    (kept-added (fold images_without images freed.gone) (fold images_without next freed.gone) freed.book added 0 id i (Some s) (kept-freed images book freed kept parents f none order rest display)
    (grows-left images next book freed i s kept parents parents_next g used f order rest) e other (f.screens s used))
