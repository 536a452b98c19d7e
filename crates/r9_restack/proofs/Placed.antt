-- A window that is put where it stands: pixels of it that are written with it are told apart from those that are moved.
use Rattle.std.proofs.Common.{◌≡◌, ◌≢◌, ◌∙◌, ℕ, ◌+◌, ◌≤◌, Bool, true, false, List, Option, Some, None, eq-eqb, refl, sym, ap}
use Rattle.std.specs.Prelude.{◌==◌, ◌&&◌, ◌||◌, not, if◌then◌else◌}
use Rattle.std.specs.Option.{option_map_or}
use Rattle.std.proofs.lemmas.Bool.{and_parts, false_from_ne_true, false≢true, ne_eqb, true≢false}
use Rattle.std.proofs.lemmas.Bool.Decides.{Decides-eqb}
use Rattle.r9_geom.specs.declared.Point.{Point}
use Rattle.r9_geom.specs.declared.Rect.{Rect}
use Rattle.r9_geom.specs.Geometry.{carried, holds}
use Rattle.r9_plane.specs.Pixels.{along}
use Rattle.model_forest.specs.declared.Window.{Window}
use Rattle.model_forest.specs.World.{World, image_at, parent_of}
use Rattle.model_forest.specs.View.{inward, is_bare, top_window}
use Rattle.model_forest.proofs.Views.{All-top_window}
use Rattle.model_kept.specs.Keeping.{is_top, keeping, outward, own, place_among, Place}
use Rattle.model_kept.specs.Restack.{with_own}
use Rattle.r9_shown.specs.Shown.{block}
use Rattle.r9_shown.proofs.Pieces.{block_part, block_split}
use Rattle.r9_restack.specs.Moving.{more_in}
use Rattle.r9_restack.specs.Changing.{IsChange, IsChanged}
use Rattle.r9_restack.specs.Placing.{comes, shows, with_coming, IsComing, IsPlaced}
use Rattle.r9_restack.proofs.Changes.{inside_w, not_with, not_with_other, stood_new, IsChanging}
use Rattle.r9_restack.proofs.Orders.{or_cases, top_is}
use Rattle.r9_restack.proofs.Blocked.{fresh_right}

-- ---- pixels of one image over others

pub own_over : (w : ℕ) (pixels : Point → ℕ) (kept : Place → ℕ) (x : Point) → with_own w pixels kept (own w x) ≡ pixels x
own_over w pixels kept x = ap (λ b. if b then pixels x else kept (own w x)) (eq-eqb w w refl)

pub own_under : (w : ℕ) (pixels : Point → ℕ) (kept : Place → ℕ) (place : Place) → place.image ≢ w → with_own w pixels kept place ≡ kept place
own_under w pixels kept place other = ap (λ b. if b then pixels place.at else kept place) (ne_eqb place.image w other)

-- ---- what changes with w alone says nothing of what was moved

module _ (world : World) (p : ℕ) (ws : List Window) (w : ℕ) (given fill : Point → ℕ) (s : IsChanging world p ws w) (stands : parent_of world w ≡ Some p) where
  pub changed-rebased : (was before old now : Place → ℕ) (done : Point → Bool) → ((place : Place) → place.image ≢ w → before place ≡ was place) → ((place : Place) → place.image ≢ w → now place ≡ old place) → ((x : Point) → now (own w x) ≡ before (own w x)) → IsChanged world p ws w given fill was old done → IsChanged world p ws w given fill before now done
  changed-rebased was before old now done same_before same_now owns m = record {
    covered = λ q v d top apart. surface q ∙ m.covered q v d top apart ∙ sym (other v.image (inward world v q) (stood_new world p ws w s q v top) apart);
    of_w = λ q v d top is. surface q ∙ m.of_w q v d top is;
    bare = λ q d top. surface q ∙ m.bare q d top ∙ ap (λ n. if is_bare (image_at world p).windows q then n else fill q) (sym (same_before (keeping world p q) (above q)));
    hidden = λ i x apart up d no. same_now (own i x) apart ∙ m.hidden i x apart up d no ∙ sym (other i x up apart);
    others = λ place apart own_apart. by_image (place.image == w) place refl apart own_apart;
  }
    where
      above : (q : Point) → (keeping world p q).image ≢ w
      above q = not_with world s.standing p w q s.change.live stands

      surface : (q : Point) → now (keeping world p q) ≡ old (keeping world p q)
      surface q = same_now (keeping world p q) (above q)

      other : (i : ℕ) (x : Point) → parent_of world i ≡ Some p → i ≢ w → before (keeping world i x) ≡ was (keeping world i x)
      other i x up apart = same_before (keeping world i x) (not_with_other world s.standing p w i x s.change.live stands up apart)

      by_image : (b : Bool) (place : Place) → (place.image == w) ≡ b → ((q : Point) → done q ≡ true → place ≢ keeping world p q) → ((i : ℕ) (x : Point) → i ≢ w → parent_of world i ≡ Some p → done (outward world p i x) ≡ true → place ≢ own i x) → now place ≡ before place
      by_image true place e apart own_apart =
          let is : place ≡ own w place.at = λ j. record { image = (Decides-eqb place.image w).0 e j; at = place.at } in
          ap now is ∙ owns place.at ∙ ap before (sym is)
      by_image false place e apart own_apart =
          let ne : place.image ≢ w = λ same. true≢false (sym (eq-eqb place.image w same) ∙ e) in
          same_now place ne ∙ m.others place apart own_apart ∙ sym (same_before place ne)

  -- with w nothing is changed where the pixels are moved
  pub own-stays : (before now : Place → ℕ) (done : Point → Bool) (z : Point) → IsChanged world p ws w given fill before now done → now (own w z) ≡ before (own w z)
  own-stays before now done z m =
      m.others (own w z)
      (λ q d e. not_with world s.standing p w q s.change.live stands (sym (ap (λ (k : Place). k.image) e)))
      (λ i x apart up d e. apart (sym (ap (λ (k : Place). k.image) e)))

  -- pixels that are moved are put besides those of w
  pub placed_from : (before now : Place → ℕ) (done : Point → Bool) → IsChanged world p ws w given fill before now done → IsPlaced world p ws w given fill before now done
  placed_from before now done m =
      changed-rebased before (with_own w (λ x. now (own w x)) before) now now done
      (λ place other. own_under w (λ x. now (own w x)) before place other)
      (λ place other. refl)
      (λ x. sym (own_over w (λ y. now (own w y)) before x))
      m

  -- and so are others of w
  pub placed_own : (before old now : Place → ℕ) (done : Point → Bool) → ((place : Place) → place.image ≢ w → now place ≡ old place) → IsPlaced world p ws w given fill before old done → IsPlaced world p ws w given fill before now done
  placed_own before old now done same m =
      changed-rebased (with_own w (λ x. old (own w x)) before) (with_own w (λ x. now (own w x)) before) old now done
      (λ place other. own_under w (λ x. now (own w x)) before place other ∙ sym (own_under w (λ x. old (own w x)) before place other))
      same
      (λ x. sym (own_over w (λ y. now (own w y)) before x))
      m

  -- a part that is moved
  pub placed_more : (before old now : Place → ℕ) (done more_done : Point → Bool) → (IsPlaced world p ws w given fill before old done → IsChanged world p ws w given fill (with_own w (λ x. old (own w x)) before) now more_done) → IsPlaced world p ws w given fill before old done → IsPlaced world p ws w given fill before now more_done
  placed_more before old now done more_done moved m =
      changed-rebased (with_own w (λ x. old (own w x)) before) (with_own w (λ x. now (own w x)) before) now now more_done
      (λ place other. own_under w (λ x. now (own w x)) before place other ∙ sym (own_under w (λ x. old (own w x)) before place other))
      (λ place other. refl)
      (λ x. sym (own_over w (λ y. now (own w y)) before x))
      (moved m)

-- ---- the points at which it comes

-- at none of a rectangle
pub coming_none : (r : Rect) (coming done : Point → Bool) → ((z : Point) → holds r z ≡ true → coming z ≡ false) → (z : Point) → with_coming r coming done z ≡ done z
coming_none r coming done none z = by_test (holds r z) refl
  where
    by_test : (b : Bool) → holds r z ≡ b → ((b && coming z) || done z) ≡ done z
    by_test true e = ap (λ b. b || done z) (none z e)
    by_test false e = refl

-- at all of it
pub coming_all : (r : Rect) (coming done : Point → Bool) → ((z : Point) → holds r z ≡ true → coming z ≡ true) → (z : Point) → with_coming r coming done z ≡ more_in r done z
coming_all r coming done all z = by_test (holds r z) refl
  where
    by_test : (b : Bool) → holds r z ≡ b → ((b && coming z) || done z) ≡ (b || done z)
    by_test true e = ap (λ b. b || done z) (all z e)
    by_test false e = refl

or_two : (a b c d : Bool) → (((a || b) && c) || d) ≡ ((a && c) || ((b && c) || d))
or_two true true true d = refl
or_two true true false d = refl
or_two true false true d = refl
or_two true false false d = refl
or_two false true c d = refl
or_two false false c d = refl

-- a block of two parts
pub coming_two : (at : Point) (d n rows : ℕ) (coming done : Point → Bool) (z : Point) → with_coming (block at (d + n) rows) coming done z ≡ with_coming (block (along at d) n rows) coming (with_coming (block at d rows) coming done) z
coming_two at d n rows coming done z =
    ap (λ b. (b && coming z) || done z) (block_split at d n rows z)
    ∙ or_two (holds (block (along at d) n rows) z) (holds (block at d rows) z) (coming z) (done z)

-- what comes after in the block is not done
pub coming_part : (at : Point) (d n columns rows : ℕ) (coming done : Point → Bool) → d + n ≤ columns → IsComing (block at columns rows) coming done → IsComing (block (along at d) n rows) coming (with_coming (block at d rows) coming done)
coming_part at d n columns rows coming done fits is z here seen =
    let before : holds (block at d rows) z ≡ false = or_first (holds (block at d rows) z) (fresh_right at d n columns rows (λ _. false) fits (λ y h. refl) z here) in
    let after : done z ≡ false = is z (block_part at d n columns rows z fits here) seen in
    λ j. (before j && coming z) || after j
  where
    or_first : (a : Bool) → (a || false) ≡ false → a ≡ false
    or_first true e = e
    or_first false e = refl

-- rows more of points that are told by others
pub coming_rows : (rows above coming area : Bool) → (((rows || above) && coming) || area) ≡ ((rows && coming) || ((above && coming) || area))
coming_rows rows above coming area = or_two rows above coming area

-- ---- where w is topmost then

-- it is a point of it
pub top_inside : (world : World) (p : ℕ) (ws : List Window) (w : ℕ) → IsChange world p ws w → (q : Point) → is_top ws w q ≡ true → holds (image_at world w).r (carried q (place_among ws w).min (image_at world w).r.min) ≡ true
top_inside world p ws w change q seen = by_top (top_window ws q) refl
  where
    by_top : (o : Option Window) → top_window ws q ≡ o → holds (image_at world w).r (carried q (place_among ws w).min (image_at world w).r.min) ≡ true
    by_top None e = absurd (false≢true (sym (ap (λ o. option_map_or (λ (u : Window). u.image == w) o false) e) ∙ seen))
    by_top (Some v) e =
        let is : v.image ≡ w = (Decides-eqb v.image w).0 (sym (top_is ws w q v e) ∙ seen) in
        let place : place_among ws w ≡ v.place = ap (place_among ws) (sym is) ∙ All-top_window (λ t. place_among ws t.image ≡ t.place) ws q v change.one e in
        (λ j. holds (image_at world w).r (carried q (place j).min (image_at world (sym is j)).r.min))
        ∙ inside_w world p ws w change q v e is

-- the points that are done in the end are points of the image below, and at the others it is not topmost
module _ (world : World) (p : ℕ) (ws : List Window) (w : ℕ) (change : IsChange world p ws w) (area r : Rect) (corner : Point) (own_r : r ≡ (image_at world w).r) (at : corner ≡ (place_among ws w).min) where
  abbrev pub done_last : Point → Bool
  done_last z = (holds r (carried z corner r.min) && comes (image_at world p).r area ws w z) || holds area z

  pub done_inside : ((z : Point) → holds area z ≡ true → holds (image_at world p).r z ≡ true) → (q : Point) → done_last q ≡ true → holds (image_at world p).r q ≡ true
  done_inside inside q d =
      or_cases (holds r (carried q corner r.min) && comes (image_at world p).r area ws w q) (holds area q) d
      (λ h. (and_parts (holds (image_at world p).r q) (is_top ws w q) (and_parts (shows (image_at world p).r ws w q) (not (holds area q)) (and_parts (holds r (carried q corner r.min)) (comes (image_at world p).r area ws w q) h).1).0).0)
      (inside q)

  pub done_outside : (q : Point) → holds (image_at world p).r q ≡ true → done_last q ≡ false → (holds area q ≡ false) × (is_top ws w q ≡ false)
  done_outside q here none = (away, not_top)
    where
      away : holds area q ≡ false
      away = or_second (holds r (carried q corner r.min) && comes (image_at world p).r area ws w q) (holds area q) none
        where
          or_second : (a b : Bool) → (a || b) ≡ false → b ≡ false
          or_second true b e = absurd (true≢false e)
          or_second false b e = e

      not_top : is_top ws w q ≡ false
      not_top =
          false_from_ne_true (is_top ws w q)
          (λ top.
          let within : holds r (carried q corner r.min) ≡ true =
          (λ j. holds (own_r j) (carried q (at j) (own_r j).min)) ∙ top_inside world p ws w change q top in
          true≢false (sym (λ j. (within j && ((here j && top j) && not (away j))) || holds area q) ∙ none))
