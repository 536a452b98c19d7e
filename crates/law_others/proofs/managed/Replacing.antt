-- A draw device is whole still after a window has got another image.
use Rattle.std.proofs.Common.{◌≡◌, ◌||◌, ◌++◌, ◌+◌, ℕ, Bool, true, false, List, [], ◌∷◌, Option, Some, None, inl, inr, refl, sym, ap, subst, ◌∙◌}
use Rattle.std.specs.Prelude.{◌==◌, All, filter, is_some, not, option_map, unwrap_or, if◌then◌else◌}
use Rattle.std.specs.List.{list_any}
use Rattle.std.specs.Option.{option_map_or}
use Rattle.std.proofs.lemmas.Bool.{eqb-true, false_from_ne_true, or_parts}
use Rattle.std.proofs.lemmas.List.Elements.{All-append, All-cons, All-head, All-tail, filter-append}
use Rattle.std.proofs.lemmas.List.Folds.{list_any-append}
use Rattle.r9_geom.specs.declared.Point.{Point}
use Rattle.r9_geom.specs.declared.Rect.{Rect}
use Rattle.r9_geom.specs.Geometry.{carried}
use Rattle.model_forest.specs.declared.Standing.{Standing as Stood}
use Rattle.model_forest.specs.declared.Window.{Window}
use Rattle.model_forest.specs.World.{Image as ImageState, World as Images, IsLive, no_image, parent_of, with_image}
use Rattle.model_forest.specs.View.{view}
use Rattle.model_forest.specs.Stack.{moved, seen, with_windows}
use Rattle.model_forest.specs.Steps.{after_list, after_replace, after_replace_on, carried_rect, outside, put_above}
use Rattle.model_forest.proofs.Releasing.{changed-other}
use Rattle.model_draw_parts.specs.declared.images.OnScreen.{OnScreen}
use Rattle.model_draw_parts.specs.declared.images.ScreenId.{ScreenId}
use Rattle.model_draw_parts.proofs.images.Ties.{any-put}
use Rattle.model_draw_parts.specs.declared.images.Thing.{Thing}
use Rattle.model_draw_parts.specs.declared.images.Thing.TheVariants.{Image, Screen}
use Rattle.model_draw_parts.specs.images.Book.{fill_of, image_of, screen_numbered, screen_of}
use Rattle.model_draw_parts.specs.images.Release.{Freed, Releases, goes, has_gone, is_used, none_left, references, refers_to, stays, with_gone}
use Rattle.model_draw.specs.draw.World.{World, at_number, next_image}
use Rattle.model_draw.specs.draw.Orders.{bordered, corner, manager, next_white, stands_on, white}
use Rattle.law_shown.specs.shown.Showing.{IsOrderly}
use Rattle.law_shown.proofs.shown.Tests.{either_true, first_false, first_true, neither, not_both, second_false, second_true}
use Rattle.law_likeness.specs.making.Standing.{IsWhole, standing_on}
use Rattle.law_likeness.proofs.making.Fresh.{placed_other}
use Rattle.law_likeness.proofs.making.Making.{entered, entry}
use Rattle.law_likeness.proofs.making.Standing.{parent_lives}
use Rattle.law_likeness.proofs.whole.Resting.{GroundLives, list_rests, moved_each}
use Rattle.law_likeness.proofs.whole.Joining.{Joins, above_each, joins_then, listed_joins, put_joins, relisted_joins}
use Rattle.law_likeness.proofs.whole.Adding.{image_used_still, screen_used_still}
use Rattle.law_likeness.proofs.whole.Freeing.{Goes, WasThere, references_there, thing_goes}
use Rattle.law_likeness.proofs.whole.Messages.{ground_apart, ground_lives}
use Rattle.law_others.proofs.managed.Ordering.{bordered_rests}

-- ---- the images

module _ (w : World) (whole : IsWhole w) (orderly : IsOrderly w) (old s : ℕ) (live : IsLive w.images old) (there : is_some (screen_numbered w.book s) ≡ true) where
  abbrev m : ℕ
  m = next_image w

  -- what the old one stands on, once the new one has come
  old_ground : (v : Images) (at : Option Stood) → Joins w.images v m at → GroundLives v old
  old_ground v at joins p stands =
      let was : parent_of w.images old ≡ Some p = sym (ap (option_map (λ (x : Stood). x.parent)) (joins.stand old (ground_apart w whole orderly old live))) ∙ stands in
      let alive = parent_lives w whole.standing old p live was in
      joins.others p (ground_apart w whole orderly p alive) ∙ alive

  -- and then the old one moves
  away_joins : (v : Images) (at : Option Stood) (place : Rect) → Joins w.images v m at → Joins w.images (after_list v old (moved old place)) m at
  away_joins v at place joins =
      joins_then w.images v (after_list v old (moved old place)) m at joins (list_rests v old (moved old place) (old_ground v at joins) (λ P ws all. moved_each old place P ws all))

  replace_joins : (r : Rect) (at : Point) (raw : ℕ) (keep : Bool) → Joins w.images (after_replace w.images m old r at raw keep) m (at_number w old).standing
  unfolding after_replace
  replace_joins r at raw keep =
      let image = at_number w old in
      let pixel : Point → ℕ = λ p. if keep then view w.images old (carried p r.min image.r.min) else raw in
      let x : ImageState = record { r = r; clipr = r; repl = false; chan = image.chan; standing = image.standing; depth = image.depth; canvas = seen r [] pixel; windows = [] } in
      let first : Window = record { image = m; place = carried_rect r r.min at } in
      let put : Images = with_image w.images m (Some x) in
      away_joins (after_list put old (put_above first old)) image.standing (carried_rect image.r image.r.min outside)
      (relisted_joins w.images put m old image.standing (put_above first old) (put_joins w.images m x refl)
      (λ p stands.
      let was : parent_of w.images old ≡ Some p = sym (ap (λ (o : Option ImageState). option_map (λ (x : Stood). x.parent) (unwrap_or o no_image).standing) (changed-other w.images m old (Some x) (ground_apart w whole orderly old live))) ∙ stands in
      let alive = parent_lives w whole.standing old p live was in
      (was, ground_apart w whole orderly p alive, alive))
      (λ P ws one all. above_each P first old ws one all))

  replace_on_joins : (r : Rect) (at : Point) (raw : ℕ) (keep : Bool) → Joins w.images (after_replace_on w.images m old (image_of w.book s) (fill_of w.book s) r at raw keep) m (Some (standing_on w.book s))
  unfolding after_replace_on
  replace_on_joins r at raw keep =
      let image = at_number w old in
      let parent = image_of w.book s in
      let pixel : Point → ℕ = λ p. if keep then view w.images old (carried p r.min image.r.min) else raw in
      let x : ImageState = record {
        r = r;
        clipr = r;
        repl = false;
        chan = (at_number w parent).chan;
        standing = Some (standing_on w.book s);
        depth = (at_number w parent).depth + 1;
        canvas = seen r [] pixel;
        windows = [];
      } in
      let first : Window = record { image = m; place = carried_rect r r.min at } in
      let put : Images = with_image w.images m (Some x) in
      let alive = ground_lives w whole s there in
      away_joins (with_windows put parent (first ∷ (at_number w parent).windows)) (Some (standing_on w.book s)) (carried_rect image.r image.r.min outside)
      (listed_joins w.images put m parent (Some (standing_on w.book s)) (first ∷ (at_number w parent).windows) (put_joins w.images m x refl) refl (ground_apart w whole orderly parent alive) alive
      (λ P one all. All-cons (λ (v : Window). P v.image) first (at_number w parent).windows one all))

  -- it stands on the screen where the old one did, and else comes there
  next_joins : (r : Rect) (keep hidden : Bool) → Joins w.images (next_white w old s r keep hidden) m (Some (standing_on w.book s))
  next_joins r keep hidden = by (stands_on w.book old s) refl
    where
      stood : (o : Option ℕ) → screen_of w.book old ≡ o → option_map_or (λ t. t == s) o false ≡ true → (at_number w old).standing ≡ Some (standing_on w.book s)
      stood None on is = absurd cc
      stood (Some t) on is = whole.standing.stands old live ∙ ap (option_map (standing_on w.book)) (on ∙ ap Some (eqb-true t s is))

      by : (b : Bool) → stands_on w.book old s ≡ b → Joins w.images (next_white w old s r keep hidden) m (Some (standing_on w.book s))
      by true is =
          rw is
          (subst (Joins w.images (after_replace w.images m old r (corner r hidden) (white (at_number w old).chan) keep) m) (stood (screen_of w.book old) refl is)
          (replace_joins r (corner r hidden) (white (at_number w old).chan) keep))
      by false is = rw is (replace_on_joins r (corner r hidden) (white (at_number w (image_of w.book s)).chan) keep)

  pub replaced_joins : (r : Rect) (keep hidden : Bool) → (let new = next_white w old s r keep hidden in Joins w.images (if keep then new else bordered new m) m (Some (standing_on w.book s)))
  replaced_joins r keep hidden = by keep (next_white w old s r keep hidden) (next_joins r keep hidden)
    where
      by : (b : Bool) (new : Images) → Joins w.images new m (Some (standing_on w.book s)) → Joins w.images (if b then new else bordered new m) m (Some (standing_on w.book s))
      by true new joins = joins
      by false new joins = joins_then w.images new (bordered new m) m (Some (standing_on w.book s)) joins (bordered_rests new m joins.live)

-- ---- what goes, goes as it would without the new image

module _ (w : World) (m window s : ℕ) (dead : w.images m ≡ None) (held : list_any (λ e. e.screen == s) w.book.screen_ids ≡ true) where
  abbrev more : Freed → Freed
  more f = record f { book = entered f.book manager window m (Some s) }

  -- the thing is another
  abbrev IsApart : Thing → Type 0
  IsApart (Image j) = (m == j) ≡ false
  IsApart (Screen t) = (s == t) ≡ false

  thing_apart : (f : Freed) (t : Thing) → f.book.screen_ids ≡ w.book.screen_ids → WasThere w t → is_used f.book t ≡ false → IsApart t
  thing_apart f (Image j) ids there unused = false_from_ne_true (m == j) (λ at. not_both (is_some (w.images j)) there (ap (λ (n : ℕ). is_some (w.images n)) (sym (eqb-true m j at)) ∙ ap is_some dead))
  thing_apart f (Screen t) ids there unused =
      false_from_ne_true (s == t) (λ at.
      not_both (is_used f.book (Screen t)) (first_true _ _ (ap (λ (es : List ScreenId). list_any (λ e. e.screen == t) es) ids ∙ ap (λ (n : ℕ). list_any (λ e. e.screen == n) w.book.screen_ids) (sym (eqb-true s t at)) ∙ held)) unused)

  used_more : (f : Freed) (t : Thing) → is_used f.book t ≡ true → is_used (more f).book t ≡ true
  used_more f (Image j) used = image_used_still f.book manager window m (Some s) j used
  used_more f (Screen t) used = screen_used_still f.book manager window m (Some s) t used

  unused_more : (f : Freed) (t : Thing) → IsApart t → is_used f.book t ≡ false → is_used (more f).book t ≡ false
  unused_more f (Image j) apart unused =
      let parts = or_parts (list_any (λ e. e.image == j) f.book.image_ids) (list_any (refers_to j) f.book.screens) unused in
      neither _ _ (any-put (λ e. e.image == j) (entry manager window m) f.book.image_ids ∙ neither (m == j) _ apart parts.0) parts.1
  unused_more f (Screen t) apart unused =
      let parts = or_parts (list_any (λ e. e.screen == t) f.book.screen_ids) (list_any (λ v. v.screen == t) f.book.windows) unused in
      neither _ _ parts.0 (list_any-append (λ v. v.screen == t) f.book.windows (record { image = m; screen = s } ∷ []) ∙ neither _ _ parts.1 (neither (s == t) false apart refl))

  stays_more : (f : Freed) (t : Thing) → (is_used f.book t || has_gone f t) ≡ true → (is_used (more f).book t || has_gone f t) ≡ true
  stays_more f t test = elim (either_true (is_used f.book t) (has_gone f t) test) [
    | inl used ↦ first_true _ _ (used_more f t used)
    | inr gone ↦ second_true (is_used (more f).book t) _ gone
  ]

  gone_with : (f : Freed) (t : Thing) → IsApart t → with_gone (more f) t ≡ more (with_gone f t)
  gone_with f (Image j) apart = λ k. record (more (with_gone f (Image j))) { book = record (more (with_gone f (Image j))).book { windows = kept k } }
    where
      kept : filter (λ v. not (v.image == j)) (f.book.windows ++ record { image = m; screen = s } ∷ []) ≡ filter (λ v. not (v.image == j)) f.book.windows ++ record { image = m; screen = s } ∷ []
      kept =
          filter-append (λ (v : OnScreen). not (v.image == j)) f.book.windows (record { image = m; screen = s } ∷ [])
          ∙ ap (λ (b : Bool). filter (λ (v : OnScreen). not (v.image == j)) f.book.windows ++ (if b then record { image = m; screen = s } ∷ [] else [])) (ap not apart)
  gone_with f (Screen t) apart = refl

  same_references : (f : Freed) (t : Thing) → IsApart t → references (more f).book t ≡ references f.book t
  same_references f (Image j) apart = ap (λ (o : Option ℕ). option_map_or (λ t. Screen t ∷ []) o []) (placed_other m j (Some s) f.book.windows apart)
  same_references f (Screen t) apart = refl

  same_ids : (f : Freed) (t : Thing) → (with_gone f t).book.screen_ids ≡ f.book.screen_ids
  same_ids f (Image j) = refl
  same_ids f (Screen t) = refl

  pub releases_more : (after f : Freed) (things : List Thing) → Releases after f things → Goes w f → f.book.screen_ids ≡ w.book.screen_ids → All (WasThere w) things → Releases (more after) (more f) things
  releases_more after f things none_left at ids there = none_left
  releases_more after f things (stays h t rest test further) at ids there =
      stays (more h) t rest (stays_more h t test) (releases_more after h rest further at ids (All-tail (WasThere w) t rest there))
  releases_more after f things (goes h t rest test further) at ids there =
      let one : WasThere w t = All-head (WasThere w) t rest there in
      let unused = first_false (is_used h.book t) _ test in
      let kept = second_false (is_used h.book t) _ test in
      let apart = thing_apart h t ids one unused in
      goes (more h) t rest (neither _ _ (unused_more h t apart unused) kept)
      (subst (λ (g : Freed). Releases (more after) g (references (more h).book t ++ rest)) (sym (gone_with h t apart))
      (subst (λ (ts : List Thing). Releases (more after) (more (with_gone h t)) (ts ++ rest)) (sym (same_references h t apart))
      (releases_more after (with_gone h t) (references h.book t ++ rest) further (thing_goes w h at t one kept unused) (same_ids h t ∙ ids)
      (All-append (WasThere w) (references h.book t) rest (references_there w h at t one kept) (All-tail (WasThere w) t rest there)))))
