-- What the images and the book keep together stays so where a screen comes, or gets one more id.
use Rattle.std.proofs.Common.{◌≡◌, ℕ, Bool, true, false, List, length, take, Option, Some, None, Ok, ◌⊎◌, inl, inr, refl, sym, ap, subst, ◌∙◌}
use Rattle.std.specs.Prelude.{◌-◌, ◌==◌, ◌||◌, is_some, slice_index_or, option_map}
use Rattle.std.specs.Option.{option_map_or}
use Rattle.std.specs.List.{list_any}
use Rattle.std.proofs.lemmas.Bool.{eqb-true}
use Rattle.model_text.specs.text.Outcome.{◌>>=◌, refuse_if}
use Rattle.model_forest.specs.declared.Standing.{Standing}
use Rattle.model_forest.specs.World.{World}
use Rattle.model_draw_parts.specs.declared.images.Screen.{Screen as Filled}
use Rattle.model_draw_parts.specs.declared.images.ScreenId.{ScreenId}
use Rattle.model_draw_parts.specs.images.Book.{Book, add_screen, is_screen_id_taken, new_screen, next_screen, put_screen_id, screen_numbered, screen_of, with_screen}
use Rattle.model_draw_parts.specs.images.Release.{refers_to}
use Rattle.model_draw_parts.proofs.images.Finds.{any-put_screen, put-screen}
use Rattle.r9_device.specs.device.Kept.{IsKept, standing_on}
use Rattle.r9_device.specs.device.Spare.{AreSpare}
use Rattle.r9_device.proofs.device.Lookups.{first_true, second_true}
use Rattle.r9_device.proofs.device.Kept.{eqb_comm}
use Rattle.r9_device.proofs.device.Going.{either_true, not-true, not_both, on-used}
use Rattle.r9_device.proofs.device.Spare.{HasNew, has-new, next-free, spare-taken}

any-put : (p : ScreenId → Bool) (e : ScreenId) (xs : List ScreenId) → list_any p (put_screen_id e xs) ≡ true → (p e ≡ true) ⊎ (list_any p xs ≡ true)
any-put p e xs h = either_true (p e) _ (sym (any-put_screen p e xs) ∙ h)

-- ---- one more id

pub kept-shared : (images : World) (book added : Book) (k id screen : ℕ) (public : Bool) → IsKept images book → add_screen book k id screen public ≡ Ok added
    → is_some (screen_numbered book screen) ≡ true → IsKept images added
unfolding add_screen
kept-shared images book added k id screen public kept e there = by (is_screen_id_taken book k id public) refl e
  where
    by : (b : Bool) → is_screen_id_taken book k id public ≡ b → (refuse_if b 7 >>= λ _. Ok (record book { screen_ids = put_screen_id (record { client = k; id = id; screen = screen; public = public }) book.screen_ids })) ≡ Ok added → IsKept images added
    by true free e = absurd cc
    by false free e =
        let entry : ScreenId = record { client = k; id = id; screen = screen; public = public } in
        let with_entry : Book = record book { screen_ids = put_screen_id entry book.screen_ids } in
        let same : with_entry ≡ added = cc in
        subst (IsKept images) same
        (record {
          live = kept.live;
          placed = λ i. let p = kept.placed i in record { stands = p.stands; ordered = p.ordered; near = p.near; clip = p.clip };
          screens = λ s h. elim (either_true (list_any (λ e. e.screen == s) (put_screen_id entry book.screen_ids)) _ h) [
            | inl here ↦ elim (any-put (λ e. e.screen == s) entry book.screen_ids here) [
              | inl new ↦ ap (λ n. is_some (screen_numbered book n)) (sym (eqb-true screen s new)) ∙ there
              | inr old ↦ kept.screens s (first_true _ _ old)
            ]
            | inr there ↦ kept.screens s (second_true (list_any (λ e. e.screen == s) book.screen_ids) _ there)
          ];
          display = kept.display;
          points = kept.points;
          used = kept.used;
          screens_used = λ s h. elim (either_true (list_any (λ e. e.screen == s) book.screen_ids) _ (kept.screens_used s h)) [
            | inl here ↦ first_true _ _ (any-put_screen (λ e. e.screen == s) entry book.screen_ids ∙ second_true (screen == s) _ here)
            | inr there ↦ second_true (list_any (λ e. e.screen == s) (put_screen_id entry book.screen_ids)) _ there
          ];
          finds = record { image_ids = kept.finds.image_ids; screen_ids = put-screen book entry public free kept.finds.screen_ids; windows = kept.finds.windows };
        })

pub spare-shared : (book added : Book) (k id screen : ℕ) (public : Bool) → AreSpare book → add_screen book k id screen public ≡ Ok added → AreSpare added
unfolding add_screen
spare-shared book added k id screen public spare e = by (is_screen_id_taken book k id public) e
  where
    by : (b : Bool) → (refuse_if b 7 >>= λ _. Ok (record book { screen_ids = put_screen_id (record { client = k; id = id; screen = screen; public = public }) book.screen_ids })) ≡ Ok added → AreSpare added
    by true e = absurd cc
    by false e =
        let with_entry : Book = record book { screen_ids = put_screen_id (record { client = k; id = id; screen = screen; public = public }) book.screen_ids } in
        let same : with_entry ≡ added = cc in
        subst AreSpare same spare

-- ---- a new screen

abbrev made_by : Book → (k id : ℕ) → Bool → (image fill : ℕ) → Book
made_by book k id public image fill = record book {
  screen_ids = put_screen_id (record { client = k; id = id; screen = next_screen book; public = public }) book.screen_ids;
  screens = with_screen book.screens (next_screen book) (record { image = image; fill = fill });
  spare = take (length book.spare - 1) book.spare;
}

made-is : (book made : Book) (k id : ℕ) (public : Bool) (image fill : ℕ) → new_screen book k id public image fill ≡ Ok made → made_by book k id public image fill ≡ made
unfolding new_screen
made-is book made k id public image fill e = by (is_screen_id_taken book k id public) e
  where
    by : (b : Bool) → (refuse_if b 7 >>= λ _. Ok (made_by book k id public image fill)) ≡ Ok made → made_by book k id public image fill ≡ made
    by true e = absurd cc
    by false e = cc

made-free : (book made : Book) (k id : ℕ) (public : Bool) (image fill : ℕ) → new_screen book k id public image fill ≡ Ok made → is_screen_id_taken book k id public ≡ false
unfolding new_screen
made-free book made k id public image fill e = by (is_screen_id_taken book k id public) e
  where
    by : (b : Bool) → (refuse_if b 7 >>= λ _. Ok (made_by book k id public image fill)) ≡ Ok made → b ≡ false
    by true e = absurd cc
    by false e = refl

refers_live : (images : World) (image fill j : ℕ) → is_some (images image) ≡ true → is_some (images fill) ≡ true → refers_to j (Some (record { image = image; fill = fill })) ≡ true → is_some (images j) ≡ true
refers_live images image fill j live fill_live h = elim (either_true (image == j) _ h) [
  | inl at ↦ ap (λ n. is_some (images n)) (sym (eqb-true image j at)) ∙ live
  | inr at ↦ ap (λ n. is_some (images n)) (sym (eqb-true fill j at)) ∙ fill_live
]

-- a screen that is there has another number
other-number : (book : Book) (s : ℕ) → slice_index_or book.screens (next_screen book) None ≡ None → is_some (screen_numbered book s) ≡ true → (s == next_screen book) ≡ false
other-number book s none there = not-true (s == next_screen book) (λ e. not_both (is_some (screen_numbered book s)) there (ap (λ n. is_some (screen_numbered book n)) (eqb-true s (next_screen book) e) ∙ ap is_some none))

pub kept-screened : (images : World) (book made : Book) (k id : ℕ) (public : Bool) (image fill : ℕ) → IsKept images book → AreSpare book → new_screen book k id public image fill ≡ Ok made
    → is_some (images image) ≡ true → is_some (images fill) ≡ true → IsKept images made
kept-screened images book made k id public image fill kept spare e live fill_live =
    subst (IsKept images) (made-is book made k id public image fill e)
    (record {
      live = λ j h. elim (either_true (list_any (λ e. e.image == j) book.image_ids) _ h) [
        | inl here ↦ kept.live j (first_true _ _ here)
        | inr there ↦ elim (new.any (refers_to j) there) [
          | inl now ↦ refers_live images image fill j live fill_live now
          | inr old ↦ kept.live j (second_true (list_any (λ e. e.image == j) book.image_ids) _ old)
        ]
      ];
      placed = λ i. let p = kept.placed i in record { stands = p.stands ∙ stands i (screen_of book i) refl; ordered = p.ordered; near = p.near; clip = p.clip };
      screens = λ s h. elim (either_true (list_any (λ e. e.screen == s) (put_screen_id entry book.screen_ids)) _ h) [
        | inl here ↦ elim (any-put (λ e. e.screen == s) entry book.screen_ids here) [
          | inl now ↦ ap (λ n. is_some (screen_numbered next n)) (sym (eqb-true (next_screen book) s now)) ∙ ap is_some new.at
          | inr old ↦ still s (kept.screens s (first_true _ _ old))
        ]
        | inr there ↦ still s (kept.screens s (second_true (list_any (λ e. e.screen == s) book.screen_ids) _ there))
      ];
      display = kept.display;
      points = kept.points;
      used = λ j h. elim (either_true (list_any (λ e. e.image == j) book.image_ids) _ (kept.used j h)) [
        | inl here ↦ first_true _ _ here
        | inr there ↦ second_true (list_any (λ e. e.image == j) book.image_ids) _ (new.old (refers_to j) refl there)
      ];
      screens_used = λ s h. now_used s (s == next_screen book) refl h;
      finds = record { image_ids = kept.finds.image_ids; screen_ids = put-screen book entry public (made-free book made k id public image fill e) kept.finds.screen_ids; windows = kept.finds.windows };
    })
  where
    next : Book
    next = made_by book k id public image fill

    entry : ScreenId
    entry = record { client = k; id = id; screen = next_screen book; public = public }

    free : slice_index_or book.screens (next_screen book) None ≡ None
    free = (next-free book spare).0.empty

    new : HasNew book.screens (with_screen book.screens (next_screen book) (record { image = image; fill = fill })) (next_screen book) (record { image = image; fill = fill })
    new = has-new book.screens (next_screen book) (record { image = image; fill = fill }) (next-free book spare).0

    now_used : (s : ℕ) (b : Bool) → (s == next_screen book) ≡ b → is_some (screen_numbered (made_by book k id public image fill) s) ≡ true
        → (list_any (λ e. e.screen == s) (put_screen_id (record { client = k; id = id; screen = next_screen book; public = public }) book.screen_ids) || list_any (λ w. w.screen == s) book.windows) ≡ true
    now_used s true at h = first_true _ _ (any-put_screen (λ e. e.screen == s) (record { client = k; id = id; screen = next_screen book; public = public }) book.screen_ids ∙ first_true (next_screen book == s) _ (eqb_comm (next_screen book) s ∙ at))
    now_used s false at h = elim (either_true (list_any (λ e. e.screen == s) book.screen_ids) _ (kept.screens_used s (ap is_some (sym (new.others s at)) ∙ h))) [
      | inl here ↦ first_true _ _ (any-put_screen (λ e. e.screen == s) (record { client = k; id = id; screen = next_screen book; public = public }) book.screen_ids ∙ second_true (next_screen book == s) _ here)
      | inr there ↦ second_true (list_any (λ e. e.screen == s) (put_screen_id (record { client = k; id = id; screen = next_screen book; public = public }) book.screen_ids)) _ there
    ]

    still : (s : ℕ) → is_some (screen_numbered book s) ≡ true → is_some (screen_numbered (made_by book k id public image fill) s) ≡ true
    still s there = ap is_some (new.others s (other-number book s free there)) ∙ there

    stands : (i : ℕ) (o : Option ℕ) → screen_of book i ≡ o → option_map (standing_on book) o ≡ option_map (standing_on (made_by book k id public image fill)) o
    stands i None at = refl
    stands i (Some s) at =
        let stand : Option Filled → Standing = λ o. record { parent = option_map_or (λ (e : Filled). e.image) o 0; fill = option_map_or (λ (e : Filled). e.fill) o 0 } in
        ap Some (ap stand (sym (new.others s (other-number book s free (kept.screens s (on-used book i s at))))))

pub spare-screened : (book made : Book) (k id : ℕ) (public : Bool) (image fill : ℕ) → AreSpare book → new_screen book k id public image fill ≡ Ok made → AreSpare made
spare-screened book made k id public image fill spare e =
    subst AreSpare (made-is book made k id public image fill e) (spare-taken book (record { image = image; fill = fill }) spare)
