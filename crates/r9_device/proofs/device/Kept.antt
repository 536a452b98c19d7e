-- What the images and the book keep together stays so in each change of the images.
use Rattle.std.proofs.Common.{◌≡◌, ℕ, Bool, true, false, cond, List, [], ◌∷◌, Option, Some, None, Result, Ok, Err, OnOk, OnErr, refl, sym, ap, subst, ◌∙◌, arith, ◌⊎◌, inl, inr}
use Rattle.std.specs.Prelude.{filter, find, IfSome, ◌^◌, ◌==◌, ◌&&◌, ◌||◌, is_some, not, option_map, unwrap_or, if◌then◌else◌}
use Rattle.std.specs.Option.{option_map_or, option_or}
use Rattle.std.specs.List.{list_any, fold}
use Rattle.std.proofs.lemmas.Bool.{eqb-true}
use Rattle.std.proofs.lemmas.Bool.Decides.{nat_tests}
use Rattle.std.proofs.lemmas.Int.{ints}
use Rattle.std.proofs.lemmas.List.Folds.{find-append, list_any-append}
use Rattle.r9_geom.specs.declared.Point.{Point}
use Rattle.r9_geom.specs.declared.Rect.{Rect}
use Rattle.r9_geom.specs.Geometry.{HasPoints, IsOrdered, IsRectNearBy}
use Rattle.model_text.specs.text.Outcome.{◌>>=◌, refuse_if}
use Rattle.model_forest.specs.declared.Standing.{Standing}
use Rattle.model_forest.specs.World.{Image, World, image_at, no_image, parent_of, with_image}
use Rattle.model_forest.specs.Draw.{Drawing, after_draw, after_load}
use Rattle.model_forest.specs.Steps.{after_set}
use Rattle.model_forest.proofs.Releasing.{SameFrame, Stays}
use Rattle.model_draw_parts.specs.declared.images.Thing.{Thing}
use Rattle.model_draw_parts.specs.declared.images.Thing.TheVariants.{Image as Shown, Screen}
use Rattle.model_draw_parts.specs.declared.images.ImageId.{ImageId}
use Rattle.model_draw_parts.specs.declared.images.OnScreen.{OnScreen}
use Rattle.model_draw_parts.specs.declared.images.Screen.{Screen as Filled}
use Rattle.model_draw_parts.specs.images.Book.{Book, add_id, image_id, is_image_id_taken, put_image_id, screen_numbered, screen_of, with_window}
use Rattle.model_draw_parts.proofs.images.Ties.{any-put, find-put}
use Rattle.model_draw_parts.specs.images.Release.{Freed, IsFreed, IsInOrder, KeepsRest, has_gone, is_used, refers_to}
use Rattle.model_draw_parts.proofs.images.Complete.{LeavesNone}
use Rattle.model_draw_parts.proofs.images.Finds.{put-image, put-window}
use Rattle.r9_device.specs.device.Kept.{IsKept, IsPlaced, standing_on}
use Rattle.r9_device.specs.device.Gone.{CanRelease, images_without}
use Rattle.r9_device.proofs.device.Lookups.{first_true, second_true}
use Rattle.r9_device.proofs.device.Rects.{ordered-of}
use Rattle.r9_device.proofs.device.Going.{either_true, fold-gone, fold-stays, going-begins, not-true, not_both, on-used}

pub and_false : (a b : Bool) → a ≡ false → (a && b) ≡ false
and_false true b h = absurd cc
and_false false b h = refl

same : (n : ℕ) → (n == n) ≡ true
same n = grind (arith, nat_tests)

pub eqb_comm : (i j : ℕ) → (i == j) ≡ (j == i)
eqb_comm i j = grind (arith, nat_tests)

not-false : (b : Bool) → (b ≡ false → ⊥) → b ≡ true
not-false true h = refl
not-false false h = absurd (h refl)

-- ---- images that stand alike

pub placed-framed : (book : Book) (i : ℕ) (old new : Image) → SameFrame old new → IsPlaced book i old → IsPlaced book i new
placed-framed book i old new f p = record {
  stands = f.standing ∙ p.stands;
  ordered = subst IsOrdered (sym f.r) p.ordered;
  near = subst (IsRectNearBy (2 ^ 32)) (sym f.r) p.near;
  clip = subst (IsRectNearBy (2 ^ 33)) (sym f.clipr) p.clip;
}

-- where no image is, none stands on a screen
pub nowhere-placed : (book : Book) (i : ℕ) → screen_of book i ≡ None → IsPlaced book i no_image
nowhere-placed book i e = record {
  stands = sym (ap (λ (o : Option ℕ). option_map (standing_on book) o) e);
  ordered = record { across = omega (arith, ints); down = omega (arith, ints) };
  near = record { min = record { left = omega (arith, ints); right = omega (arith, ints); top = omega (arith, ints); bottom = omega (arith, ints) }; max = record { left = omega (arith, ints); right = omega (arith, ints); top = omega (arith, ints); bottom = omega (arith, ints) } };
  clip = record { min = record { left = omega (arith, ints); right = omega (arith, ints); top = omega (arith, ints); bottom = omega (arith, ints) }; max = record { left = omega (arith, ints); right = omega (arith, ints); top = omega (arith, ints); bottom = omega (arith, ints) } };
}

map_none : {A B : Type 0} (f : A → B) (o : Option A) → None ≡ option_map f o → o ≡ None
map_none f None e = refl
map_none f (Some x) e = absurd cc

pub no-screen : (images : World) (book : Book) (i : ℕ) → IsKept images book → images i ≡ None → screen_of book i ≡ None
no-screen images book i k e =
    map_none (standing_on book) (screen_of book i) (sym (ap (λ (o : Option Image). (unwrap_or o no_image).standing) e) ∙ (k.placed i).stands)

-- an image in the place of another
pub kept-replaced : (images : World) (book : Book) (i : ℕ) (x : Image) → IsKept images book → is_some (images i) ≡ true → IsPlaced book i x → ((i == 0) ≡ false → HasPoints x.r) → IsKept (with_image images i (Some x)) book
kept-replaced images book i x k lives placed points = record {
  live = λ j h. live (j == i) j h;
  placed = λ j. all_placed (j == i) j refl;
  screens = k.screens;
  display = k.display;
  points = λ j h n. all_points (j == i) j refl h n;
  used = λ j h. all_used (j == i) j refl h;
  screens_used = k.screens_used;
  finds = k.finds;
}
  where
    all_used : (b : Bool) (j : ℕ) → (j == i) ≡ b → is_some (if b then Some x else images j) ≡ true → is_used book (Shown j) ≡ true
    all_used true j e h = let P : ℕ → Type 0 = λ n. is_used book (Shown n) ≡ true in subst P (sym (eqb-true j i e)) (k.used i lives)
    all_used false j e h = k.used j h

    live : (b : Bool) (j : ℕ) → is_used book (Shown j) ≡ true → is_some (if b then Some x else images j) ≡ true
    live true j h = refl
    live false j h = k.live j h

    all_placed : (b : Bool) (j : ℕ) → (j == i) ≡ b → IsPlaced book j (unwrap_or (if b then Some x else images j) no_image)
    all_placed true j e = let P : ℕ → Type 0 = λ n. IsPlaced book n x in subst P (sym (eqb-true j i e)) placed
    all_placed false j e = k.placed j

    all_points : (b : Bool) (j : ℕ) → (j == i) ≡ b → is_some (if b then Some x else images j) ≡ true → (j == 0) ≡ false → HasPoints (unwrap_or (if b then Some x else images j) no_image).r
    all_points true j e h n = points (ap (λ m. m == 0) (sym (eqb-true j i e)) ∙ n)
    all_points false j e h n = k.points j h n

pub kept-set : (images : World) (book : Book) (i : ℕ) (repl : Bool) (clipr : Rect) → IsKept images book → is_some (images i) ≡ true → IsRectNearBy (2 ^ 33) clipr → IsKept (after_set images i repl clipr) book
unfolding after_set
kept-set images book i repl clipr k live near =
    let p = k.placed i in
    kept-replaced images book i _ k live (record { stands = p.stands; ordered = p.ordered; near = p.near; clip = near }) (k.points i live)

canvas_placed : (book : Book) (i : ℕ) (x : Image) (canvas : Point → ℕ) → IsPlaced book i x → IsPlaced book i (record x { canvas = canvas })
canvas_placed book i x canvas p = record { stands = p.stands; ordered = p.ordered; near = p.near; clip = p.clip }

pub kept-draw : (images : World) (book : Book) (d : Drawing) → IsKept images book → is_some (images d.dst) ≡ true → IsKept (after_draw images d) book
unfolding after_draw
kept-draw images book d k live = kept-replaced images book d.dst _ k live (canvas_placed book d.dst _ _ (k.placed d.dst)) (k.points d.dst live)

pub kept-load : (images : World) (book : Book) (i : ℕ) (r : Rect) (raws : Point → ℕ) → IsKept images book → is_some (images i) ≡ true → IsKept (after_load images i r raws) book
unfolding after_load
kept-load images book i r raws k live = kept-replaced images book i _ k live (canvas_placed book i _ _ (k.placed i)) (k.points i live)

-- ---- what comes

pub any-window : (i s : ℕ) (screen : Option ℕ) (ws : List OnScreen) → list_any (λ w. w.screen == s) (with_window i screen ws) ≡ true → (screen ≡ Some s) ⊎ (list_any (λ w. w.screen == s) ws ≡ true)
any-window i s None ws h = inr h
any-window i s (Some t) ws h = elim (either_true (list_any (λ w. w.screen == s) ws) _ (sym (list_any-append (λ w. w.screen == s) ws (record { image = i; screen = t } ∷ [])) ∙ h)) [
  | inl old ↦ inr old
  | inr new ↦ inl (ap Some (eqb-true t s (elim (either_true (t == s) false new) [ inl a ↦ a | inr b ↦ absurd cc ])))
]

any-window_stays : (p : OnScreen → Bool) (i : ℕ) (screen : Option ℕ) (ws : List OnScreen) → list_any p ws ≡ true → list_any p (with_window i screen ws) ≡ true
any-window_stays p i None ws h = h
any-window_stays p i (Some s) ws h = list_any-append p ws (record { image = i; screen = s } ∷ []) ∙ first_true (list_any p ws) _ h

or_none : {A : Type 0} (o : Option A) → option_or o None ≡ o
or_none None = refl
or_none (Some x) = refl

-- the other windows stay on their screens
pub find-window : (i n : ℕ) (screen : Option ℕ) (ws : List OnScreen) → (n == i) ≡ false → find (λ w. w.image == n) (with_window i screen ws) ≡ find (λ w. w.image == n) ws
find-window i n None ws e = refl
find-window i n (Some s) ws e =
    let new : OnScreen = record { image = i; screen = s } in
    find-append (λ (w : OnScreen). w.image == n) ws (new ∷ [])
    ∙ ap (λ b. option_or (find (λ w. w.image == n) ws) (cond b (Some new) None)) (eqb_comm i n ∙ e) ∙ or_none (find (λ w. w.image == n) ws)

-- and the new one is on its own
pub find-new_window : (i : ℕ) (screen : Option ℕ) (ws : List OnScreen) → find (λ w. w.image == i) ws ≡ None → option_map (λ w. w.screen) (find (λ w. w.image == i) (with_window i screen ws)) ≡ screen
find-new_window i None ws e = ap (λ (o : Option OnScreen). option_map (λ w. w.screen) o) e
find-new_window i (Some s) ws e =
    let new : OnScreen = record { image = i; screen = s } in
    ap (λ (o : Option OnScreen). option_map (λ w. w.screen) o) (find-append (λ (w : OnScreen). w.image == i) ws (new ∷ []) ∙ ap (λ (o : Option OnScreen). option_or o (cond (i == i) (Some new) None)) e)
    ∙ ap (λ b. option_map (λ w. w.screen) (option_or None (cond b (Some new) None))) (same i)

screen_none : (o : Option OnScreen) → option_map (λ w. w.screen) o ≡ None → o ≡ None
screen_none None e = refl
screen_none (Some w) e = absurd cc

-- Image i is new, on its screen where it has one, and the others stay.
pub record Grows (images next : World) (book : Book) (i : ℕ) (screen : Option ℕ) : Type 0 where
  pub free : images i ≡ None
  pub others : (n : ℕ) → (n == i) ≡ false → Stays images next n
  pub live : is_some (next i) ≡ true
  pub stands : (image_at next i).standing ≡ option_map (standing_on book) screen
  pub points : HasPoints (image_at next i).r
  pub near : IsRectNearBy (2 ^ 32) (image_at next i).r
  pub clip : IsRectNearBy (2 ^ 33) (image_at next i).clipr

pub kept-added : (images next : World) (book added : Book) (k id i : ℕ) (screen : Option ℕ) → IsKept images book → Grows images next book i screen → add_id book k id i screen ≡ Ok added
    → ((k == 0) && (id == 0)) ≡ false → IfSome screen (λ s. is_some (screen_numbered book s) ≡ true) → IsKept next added
unfolding add_id
kept-added images next book added k id i screen kept g e own stands = by (is_image_id_taken book k id) refl e
  where
    still_live : (j : ℕ) (b : Bool) → (j == i) ≡ b → is_some (images j) ≡ true → is_some (next j) ≡ true
    still_live j true at h = ap (λ n. is_some (next n)) (eqb-true j i at) ∙ g.live
    still_live j false at h = (g.others j at).live ∙ h

    all_points : (j : ℕ) (b : Bool) → (j == i) ≡ b → is_some (next j) ≡ true → (j == 0) ≡ false → HasPoints (image_at next j).r
    all_points j true at h n = let P : ℕ → Type 0 = λ m. HasPoints (image_at next m).r in subst P (sym (eqb-true j i at)) g.points
    all_points j false at h n = subst HasPoints (sym (g.others j at).frame.r) (kept.points j (sym (g.others j at).live ∙ h) n)

    entered : (j : ℕ) (b : Bool) → (j == i) ≡ b → is_some (next j) ≡ true
        → (list_any (λ e. e.image == j) (put_image_id (record { client = k; id = id; image = i; tie = None }) book.image_ids) || list_any (refers_to j) book.screens) ≡ true
    entered j true at h = first_true _ _ (any-put (λ e. e.image == j) (record { client = k; id = id; image = i; tie = None }) book.image_ids ∙ first_true (i == j) _ (eqb_comm i j ∙ at))
    entered j false at h = elim (either_true (list_any (λ e. e.image == j) book.image_ids) _ (kept.used j (sym (g.others j at).live ∙ h))) [
      | inl here ↦ first_true _ _ (any-put (λ e. e.image == j) (record { client = k; id = id; image = i; tie = None }) book.image_ids ∙ second_true (i == j) _ here)
      | inr there ↦ second_true (list_any (λ e. e.image == j) (put_image_id (record { client = k; id = id; image = i; tie = None }) book.image_ids)) _ there
    ]

    by : (b : Bool) → is_image_id_taken book k id ≡ b → (refuse_if b 6 >>= λ _. Ok (record book { image_ids = put_image_id (record { client = k; id = id; image = i; tie = None }) book.image_ids; windows = with_window i screen book.windows })) ≡ Ok added → IsKept next added
    by true free e = absurd cc
    by false free e =
        let entry : ImageId = record { client = k; id = id; image = i; tie = None } in
        let with_entry : Book = record book { image_ids = put_image_id entry book.image_ids; windows = with_window i screen book.windows } in
        let same : with_entry ≡ added = cc in
        let other_placed : (j : ℕ) → (j == i) ≡ false → IsPlaced with_entry j (image_at next j) = λ j at.
        let p = kept.placed j in
        let f = (g.others j at).frame in
        record {
          stands = f.standing ∙ p.stands ∙ ap (λ (o : Option OnScreen). option_map (standing_on book) (option_map (λ w. w.screen) o)) (sym (find-window i j screen book.windows at));
          ordered = subst IsOrdered (sym f.r) p.ordered;
          near = subst (IsRectNearBy (2 ^ 32)) (sym f.r) p.near;
          clip = subst (IsRectNearBy (2 ^ 33)) (sym f.clipr) p.clip;
        } in
        let new_placed : IsPlaced with_entry i (image_at next i) = record {
          stands = g.stands ∙ ap (λ (o : Option ℕ). option_map (standing_on book) o) (sym (find-new_window i screen book.windows (screen_none (find (λ w. w.image == i) book.windows) (no-screen images book i kept g.free))));
          ordered = ordered-of (image_at next i).r g.points;
          near = g.near;
          clip = g.clip;
        } in
        let all_placed : (j : ℕ) (b : Bool) → (j == i) ≡ b → IsPlaced with_entry j (image_at next j) = λ j b.
        elim b as (λ c. (j == i) ≡ c → IsPlaced with_entry j (image_at next j)) [
          | true ↦ λ at. let P : ℕ → Type 0 = λ n. IsPlaced with_entry n (image_at next n) in subst P (sym (eqb-true j i at)) new_placed
          | false ↦ λ at. other_placed j at
        ] in
        let finds = kept.finds in
        subst (IsKept next) same
        (record {
          live = λ j h. elim (either_true (list_any (λ e. e.image == j) (put_image_id entry book.image_ids)) _ h) [
            | inl here ↦ elim (either_true (i == j) _ (sym (any-put (λ e. e.image == j) entry book.image_ids) ∙ here)) [
              | inl new ↦ ap (λ n. is_some (next n)) (sym (eqb-true i j new)) ∙ g.live
              | inr old ↦ still_live j (j == i) refl (kept.live j (first_true _ _ old))
            ]
            | inr there ↦ still_live j (j == i) refl (kept.live j (second_true (list_any (λ e. e.image == j) book.image_ids) _ there))
          ];
          placed = λ j. all_placed j (j == i) refl;
          screens = λ s h. elim (either_true (list_any (λ e. e.screen == s) book.screen_ids) _ h) [
            | inl here ↦ kept.screens s (first_true _ _ here)
            | inr there ↦ elim (any-window i s screen book.windows there) [
              | inl is ↦ let P : Option ℕ → Type 0 = λ o. IfSome o (λ t. is_some (screen_numbered book t) ≡ true) in subst P is stands
              | inr old ↦ kept.screens s (second_true (list_any (λ e. e.screen == s) book.screen_ids) _ old)
            ]
          ];
          display = ap (λ (o : Option ImageId). option_map (λ e. e.image) o) (find-put (λ e. (e.client == 0) && (e.id == 0)) entry book.image_ids own) ∙ kept.display;
          points = λ j h n. all_points j (j == i) refl h n;
          used = λ j h. entered j (j == i) refl h;
          screens_used = λ s h. elim (either_true (list_any (λ e. e.screen == s) book.screen_ids) _ (kept.screens_used s h)) [
            | inl here ↦ first_true _ _ here
            | inr there ↦ second_true (list_any (λ e. e.screen == s) book.screen_ids) _ (any-window_stays (λ w. w.screen == s) i screen book.windows there)
          ];
          finds = record {
            image_ids = put-image book entry free finds.image_ids;
            screen_ids = finds.screen_ids;
            windows = put-window i screen book.windows (screen_none (find (λ w. w.image == i) book.windows) (no-screen images book i kept g.free)) finds.windows;
          };
        })

-- ---- what goes

-- the windows that have not gone are on their screens
find-kept : (n : ℕ) (goes : ℕ → Bool) (ws : List OnScreen) → goes n ≡ false → find (λ w. w.image == n) (filter (λ w. not (goes w.image)) ws) ≡ find (λ w. w.image == n) ws
find-kept n goes [] h = refl
find-kept n goes (w ∷ ws) h = by (find-kept n goes ws h) (goes w.image) refl (w.image == n) refl
  where
    by : find (λ w. w.image == n) (filter (λ w. not (goes w.image)) ws) ≡ find (λ w. w.image == n) ws
        → (b : Bool) → goes w.image ≡ b → (a : Bool) → (w.image == n) ≡ a
        → find (λ w. w.image == n) (cond (not b) (w ∷ filter (λ w. not (goes w.image)) ws) (filter (λ w. not (goes w.image)) ws)) ≡ cond a (Some w) (find (λ w. w.image == n) ws)
    by more true e true d = absurd (not_both (goes n) (ap goes (sym (eqb-true w.image n d)) ∙ e) h)
    by more true e false d = more
    by more false e true d = ap (λ b. cond b (Some w) (find (λ w. w.image == n) (filter (λ w. not (goes w.image)) ws))) d
    by more false e false d = ap (λ b. cond b (Some w) (find (λ w. w.image == n) (filter (λ w. not (goes w.image)) ws))) d ∙ more

-- and what has gone is on none
find-lost : (n : ℕ) (goes : ℕ → Bool) (ws : List OnScreen) → goes n ≡ true → find (λ w. w.image == n) (filter (λ w. not (goes w.image)) ws) ≡ None
find-lost n goes [] h = refl
find-lost n goes (w ∷ ws) h = by (find-lost n goes ws h) (goes w.image) refl
  where
    by : find (λ w. w.image == n) (filter (λ w. not (goes w.image)) ws) ≡ None
        → (b : Bool) → goes w.image ≡ b → find (λ w. w.image == n) (cond (not b) (w ∷ filter (λ w. not (goes w.image)) ws) (filter (λ w. not (goes w.image)) ws)) ≡ None
    by more true e = more
    by more false e =
        let other : (w.image == n) ≡ false = not-true (w.image == n) (λ at. not_both (goes n) h (ap goes (sym (eqb-true w.image n at)) ∙ e)) in
        ap (λ b. cond b (Some w) (find (λ w. w.image == n) (filter (λ w. not (goes w.image)) ws))) other ∙ more

abbrev goes_from : Freed → ℕ → Bool
goes_from freed i = has_gone freed (Shown i)

pub screen-kept : (book : Book) (freed : Freed) (n : ℕ) → KeepsRest book freed → has_gone freed (Shown n) ≡ false → screen_of freed.book n ≡ screen_of book n
screen-kept book freed n rest h =
    ap (λ (ws : List OnScreen). option_map (λ w. w.screen) (find (λ w. w.image == n) ws)) rest.windows ∙ ap (λ (o : Option OnScreen). option_map (λ w. w.screen) o) (find-kept n (goes_from freed) book.windows h)

pub screen-lost : (book : Book) (freed : Freed) (n : ℕ) → KeepsRest book freed → has_gone freed (Shown n) ≡ true → screen_of freed.book n ≡ None
screen-lost book freed n rest h =
    ap (λ (ws : List OnScreen). option_map (λ w. w.screen) (find (λ w. w.image == n) ws)) rest.windows ∙ ap (λ (o : Option OnScreen). option_map (λ w. w.screen) o) (find-lost n (goes_from freed) book.windows h)

-- a screen that is used still has its image and its fill
pub standing-kept : (book : Book) (freed : Freed) (s : ℕ) → KeepsRest book freed → IsFreed book freed → is_used freed.book (Screen s) ≡ true → standing_on freed.book s ≡ standing_on book s
standing-kept book freed s rest f used =
    let here : has_gone freed (Screen s) ≡ false = not-true (has_gone freed (Screen s)) (λ g. not_both (is_used freed.book (Screen s)) used (f.gone_unused (Screen s) g)) in
    let numbered : screen_numbered freed.book s ≡ screen_numbered book s = rest.screens s ∙ ap (λ (b : Bool). if b then None else screen_numbered book s) here in
    let stand : Option Filled → Standing = λ o. record { parent = option_map_or (λ (e : Filled). e.image) o 0; fill = option_map_or (λ (e : Filled). e.fill) o 0 } in
    ap stand numbered

stands-kept : (book : Book) (freed : Freed) (n : ℕ) → KeepsRest book freed → IsFreed book freed → has_gone freed (Shown n) ≡ false
    → option_map (standing_on book) (screen_of book n) ≡ option_map (standing_on freed.book) (screen_of freed.book n)
stands-kept book freed n rest f h = ap (λ (o : Option ℕ). option_map (standing_on book) o) (sym (screen-kept book freed n rest h)) ∙ by (screen_of freed.book n) refl
  where
    by : (o : Option ℕ) → screen_of freed.book n ≡ o → option_map (standing_on book) o ≡ option_map (standing_on freed.book) o
    by None e = refl
    by (Some s) e = ap Some (sym (standing-kept book freed s rest f (on-used freed.book n s e)))

-- all that a release wants of the images and of the book before
pub can-release : (images : World) (book : Book) (freed : Freed) → IsKept images book → IsFreed book freed → IsInOrder book [] freed.gone → CanRelease images book freed.gone
can-release images book freed k f order = record {
  stands = λ i. (k.placed i).stands;
  screens = k.screens;
  live = λ i h. k.live i (f.gone_used (Shown i) h);
  once = f.once;
  order = order;
}

pub none-at : (images : World) (n : ℕ) → is_some (images n) ≡ false → image_at images n ≡ no_image
none-at images n h = by (images n) h
  where
    by : (o : Option Image) → is_some o ≡ false → unwrap_or o no_image ≡ no_image
    by None e = refl
    by (Some x) e = absurd cc

pub kept-freed : (images : World) (book : Book) (freed : Freed) → IsKept images book → ((n p : ℕ) → is_some (images n) ≡ true → parent_of images n ≡ Some p → is_some (images p) ≡ true)
    → IsFreed book freed → LeavesNone book freed → IsInOrder book [] freed.gone → KeepsRest book freed → image_id freed.book 0 0 ≡ image_id book 0 0 → IsKept (fold images_without images freed.gone) freed.book
kept-freed images book freed k parents f none order rest shown = record {
  live = λ i h.
      let here = not-true (has_gone freed (Shown i)) (λ g. not_both _ h (f.gone_unused (Shown i) g)) in
      (stays i here).live ∙ k.live i (f.used (Shown i) h);
  placed = λ i. placed i (has_gone freed (Shown i)) refl;
  screens = f.screens;
  display = ap (λ (o : Option ImageId). option_map (λ e. e.image) o) shown ∙ k.display;
  points = λ i h n.
      let here = not-true (has_gone freed (Shown i)) (λ g. not_both (is_some (fold images_without images freed.gone i)) h (dead i g)) in
      subst HasPoints (sym (stays i here).frame.r) (k.points i (sym (stays i here).live ∙ h) n);
  used = λ i h.
      let here = not-true (has_gone freed (Shown i)) (λ g. not_both (is_some (fold images_without images freed.gone i)) h (dead i g)) in
      still_used (Shown i) here (k.used i (sym (stays i here).live ∙ h));
  screens_used = λ s h. screen_used s (has_gone freed (Screen s)) refl (ap is_some (sym (rest.screens s)) ∙ h);
  finds = none.1;
}
  where
    still_used : (t : Thing) → has_gone freed t ≡ false → is_used book t ≡ true → is_used freed.book t ≡ true
    still_used t here was = not-false (is_used freed.book t) (λ is. not_both (has_gone freed t) (none.0 t was is) here)

    screen_used : (s : ℕ) (b : Bool) → has_gone freed (Screen s) ≡ b → is_some (if b then None else screen_numbered book s) ≡ true → is_used freed.book (Screen s) ≡ true
    screen_used s true here h = absurd cc
    screen_used s false here h = still_used (Screen s) here (k.screens_used s h)

    stays : (n : ℕ) → has_gone freed (Shown n) ≡ false → Stays images (fold images_without images freed.gone) n
    stays n h = fold-stays freed.gone [] book images n (going-begins images book freed.gone (can-release images book freed k f order) parents) h

    dead : (n : ℕ) → has_gone freed (Shown n) ≡ true → is_some (fold images_without images freed.gone n) ≡ false
    dead n h = fold-gone freed.gone book images n (going-begins images book freed.gone (can-release images book freed k f order) parents) h

    placed : (n : ℕ) (b : Bool) → has_gone freed (Shown n) ≡ b → IsPlaced freed.book n (image_at (fold images_without images freed.gone) n)
    placed n true h = subst (IsPlaced freed.book n) (sym (none-at (fold images_without images freed.gone) n (dead n h))) (nowhere-placed freed.book n (screen-lost book freed n rest h))
    placed n false h =
        let old = k.placed n in
        placed-framed freed.book n (image_at images n) (image_at (fold images_without images freed.gone) n) (stays n h).frame
        (record { stands = old.stands ∙ stands-kept book freed n rest f h; ordered = old.ordered; near = old.near; clip = old.clip })

-- ---- by the calls

pub kept-same : (images next : World) (book : Book) → IsKept images book → next ≡ images → IsKept next book
kept-same images next book k e = let P : World → Type 0 = λ w. IsKept w book in subst P (sym e) k

pub kept-cleared : (images next : World) (book : Book) (i : ℕ) (repl : Bool) (clipr : Rect) → IsKept images book → is_some (images i) ≡ true → IsRectNearBy (2 ^ 33) clipr
    → next ≡ after_set images i repl clipr → IsKept next book
kept-cleared images next book i repl clipr k live near e = kept-same _ next book (kept-set images book i repl clipr k live near) e

pub kept-drawn : (images next : World) (book : Book) (d : Drawing) → IsKept images book → is_some (images d.dst) ≡ true → next ≡ after_draw images d → IsKept next book
kept-drawn images next book d k live e = kept-same _ next book (kept-draw images book d k live) e

-- a drawing that may want memory, on images that show what the ones before do
pub kept-drew : {A E : Type 0} (o : Result A E) (images between next : World) (book : Book) (d : Drawing) → IsKept images book → is_some (images d.dst) ≡ true → between ≡ images
    → OnOk o (next ≡ after_draw between d) → OnErr o (next ≡ between) → IsKept next book
kept-drew (Ok x) images between next book d kept live same ok err = kept-drawn images next book d kept live (ok ∙ ap (λ (w : World). after_draw w d) same)
kept-drew (Err e) images between next book d kept live same ok err = kept-same images next book kept (err ∙ same)

pub kept-loaded : {A E : Type 0} (o : Result A E) (images next : World) (book : Book) (i : ℕ) (r : Rect) (raws : Point → ℕ) → IsKept images book → is_some (images i) ≡ true
    → OnOk o (next ≡ after_load images i r raws) → OnErr o (next ≡ images) → IsKept next book
kept-loaded (Ok x) images next book i r raws k live ok err = kept-same _ next book (kept-load images book i r raws k live) ok
kept-loaded (Err x) images next book i r raws k live ok err = kept-same images next book k err
