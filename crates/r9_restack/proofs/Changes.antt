-- Pixels that are moved when a window comes, goes or moves.
use Rattle.std.proofs.Common.{◌≡◌, ◌≢◌, ◌∙◌, ℕ, ◌<◌, ◌^◌, Bool, true, false, List, Option, Some, None, refl, sym, ap, subst, eq-eqb, ⊎_elim, ◌⊎◌, arith}
use Rattle.std.specs.Prelude.{◌==◌, ◌&&◌, All, is_none, unwrap_or, if◌then◌else◌}
use Rattle.std.specs.Option.{option_map_or}
use Rattle.std.proofs.lemmas.Bool.{and_parts, false_from_ne_true, ne_eqb, true≢false, false≢true, or_left, or_right}
use Rattle.std.proofs.lemmas.Bool.Decides.{Decides-eqb}
use Rattle.r9_geom.specs.declared.Point.{Point}
use Rattle.r9_geom.specs.declared.Rect.{Rect}
use Rattle.r9_geom.specs.Geometry.{carried, holds, strip}
use Rattle.r9_plane.specs.Pixels.{along}
use Rattle.model_forest.specs.declared.Window.{Window}
use Rattle.model_forest.specs.World.{Image, World, image_at, no_image, parent_of, IsLive, IsWindowOf}
use Rattle.model_forest.specs.View.{inward, is_bare, top_window}
use Rattle.model_forest.proofs.Changes.{live-standing, with_image-at}
use Rattle.model_forest.proofs.Views.{All-top_window, holds-carried, holds-top_window}
use Rattle.model_kept.specs.Keeping.{own, outward, is_top, is_shown, keeping, place_among, IsStanding, Place, HasOnePlaces}
use Rattle.model_kept.specs.Restack.{with_list, IsRestacked, SameButList}
use Rattle.model_kept.proofs.Relisting.{parent_of-same}
use Rattle.model_kept.proofs.Worlds.{with_list-same}
use Rattle.model_kept.proofs.Storing.{carried-back, keeping-inward, outward-inward}
use Rattle.r9_geom.specs.Geometry.{IsNear, IsRectNearBy}
use Rattle.model_kept.proofs.Storing.{inward-inside}
use Rattle.r9_locate.specs.declared.locate.lists.Lists.{Lists}
use Rattle.r9_locate.specs.locate.Table.{shape}
use Rattle.r9_restack.specs.Moving.{more, more_in, IsFresh, IsFreshIn}
use Rattle.r9_restack.specs.Changing.{IsChange, IsChanged, IsGiven, IsShownAnew, IsUnseen, StaysTop, HasPlacesBut, IsOther, StaysAs}
use Rattle.r9_locate.proofs.locate.Locating.{keeping-up, strip_at}
use Rattle.r9_locate.proofs.locate.Apart.{keeping-depth, keeping-injective, own-apart}
use Rattle.r9_restack.proofs.Orders.{or_cases, top_is, unshown-own}

-- what is known of the lists in a change
pub record IsChanging (world : World) (p : ℕ) (ws : List Window) (w : ℕ) : Type 0 where
  pub standing : IsStanding world
  pub places : HasOnePlaces world
  pub change : IsChange world p ws w

-- the same window is topmost at all points of a rectangle, or none
abbrev pub IsTopOver : List Window → Rect → Option Window → Type 0
IsTopOver ws r o = (z : Point) → holds r z ≡ true → top_window ws z ≡ o

-- ---- the lists

-- the image of a window that shows then stands where it stood, or was not seen there
pub place_then : (world : World) (p : ℕ) (ws : List Window) (w : ℕ) → IsChanging world p ws w → (z : Point) (v : Window) → holds (image_at world p).r z ≡ true → top_window ws z ≡ Some v → v.image ≢ w → (place_among ws v.image ≡ place_among (image_at world p).windows v.image) ⊎ IsUnseen world p ws v.image
place_then world p ws w s z v inside top apart = s.change.places v.image z apart inside (top_is ws v.image z v top ∙ eq-eqb v.image v.image refl)

pub out_new : (world : World) (p : ℕ) (ws : List Window) (w : ℕ) → IsChanging world p ws w → (z : Point) (v : Window) → top_window ws z ≡ Some v → place_among ws v.image ≡ place_among (image_at world p).windows v.image → outward world p v.image (inward world v z) ≡ z
out_new world p ws w s z v top same =
    let one : place_among ws v.image ≡ v.place = All-top_window (λ u. place_among ws u.image ≡ u.place) ws z v s.change.one top in
    let place : place_among (image_at world p).windows v.image ≡ v.place = sym same ∙ one in
    ap (λ (r : Rect). carried (inward world v z) (image_at world v.image).r.min r.min) place ∙ carried-back z v.place.min (image_at world v.image).r.min

pub out_old : (world : World) (p : ℕ) (ws : List Window) (w : ℕ) → IsChanging world p ws w → (z : Point) (v : Window) → top_window (image_at world p).windows z ≡ Some v → outward world p v.image (inward world v z) ≡ z
out_old world p ws w s z v top = outward-inward world s.places p z v s.change.live top

pub in_old : (world : World) (p : ℕ) (ws : List Window) (w : ℕ) → IsChanging world p ws w → (z x : Point) (v : Window) → top_window (image_at world p).windows z ≡ Some v → outward world p v.image x ≡ z → x ≡ inward world v z
in_old world p ws w s z x v top out =
    let from = (image_at world v.image).r.min in
    let to = (place_among (image_at world p).windows v.image).min in
    sym (carried-back x from to) ∙ ap (λ q. carried q to from) (out ∙ sym (out_old world p ws w s z v top)) ∙ carried-back (inward world v z) from to

pub stood_old : (world : World) (p : ℕ) (ws : List Window) (w : ℕ) → IsChanging world p ws w → (z : Point) (v : Window) → top_window (image_at world p).windows z ≡ Some v → parent_of world v.image ≡ Some p
stood_old world p ws w s z v top =
    let is : IsWindowOf world p v = All-top_window (IsWindowOf world p) (image_at world p).windows z v (s.standing.windows p s.change.live) top in
    is.stands

pub stood_new : (world : World) (p : ℕ) (ws : List Window) (w : ℕ) → IsChanging world p ws w → (z : Point) (v : Window) → top_window ws z ≡ Some v → parent_of world v.image ≡ Some p
stood_new world p ws w s z v top =
    let is : IsWindowOf world p v = All-top_window (IsWindowOf world p) ws z v s.change.stand top in
    is.stands

-- where a window shows then is a point of it
pub inside_new : (world : World) (p : ℕ) (ws : List Window) (w : ℕ) → IsChange world p ws w → (q : Point) (v : Window) → top_window ws q ≡ Some v → holds (image_at world v.image).r (inward world v q) ≡ true
inside_new world p ws w change q v top =
    let is : IsWindowOf world p v = All-top_window (IsWindowOf world p) ws q v change.stand top in
    sym (holds-carried v.place (image_at world v.image).r q is.size) ∙ holds-top_window ws q v top

-- an image that was not seen was topmost nowhere
pub unseen-hidden : (world : World) (p : ℕ) (ws : List Window) (w : ℕ) → IsChanging world p ws w → (i : ℕ) → IsUnseen world p ws i → (z : Point) → holds (image_at world p).r z ≡ true → is_top (image_at world p).windows i z ≡ false
unseen-hidden world p ws w s i unseen z inside = by_top (top_window (image_at world p).windows z) refl
  where
    named : Option Window → Bool
    named o = option_map_or (λ (v : Window). v.image == i) o false

    seen : (u : Window) → top_window (image_at world p).windows z ≡ Some u → is_shown world p u.image (outward world p u.image (inward world u z)) ≡ true
    seen u e =
        ap (is_shown world p u.image) (out_old world p ws w s z u e)
        ∙ ap (λ b. b && is_top (image_at world p).windows u.image z) inside
        ∙ top_is (image_at world p).windows u.image z u e ∙ eq-eqb u.image u.image refl

    unshown : (u : Window) → top_window (image_at world p).windows z ≡ Some u → u.image ≡ i → is_shown world p u.image (outward world p u.image (inward world u z)) ≡ false
    unshown u e is =
        let F : ℕ → Type 0 = λ n. holds (image_at world n).r (inward world u z) ≡ true → is_shown world p n (outward world p n (inward world u z)) ≡ false in
        subst F (sym is) (unseen.before (inward world u z)) (inward-inside world s.standing p z u s.change.live e)

    by_top : (o : Option Window) → top_window (image_at world p).windows z ≡ o → is_top (image_at world p).windows i z ≡ false
    by_top None e = ap named e
    by_top (Some u) e = ap named e ∙ ne_eqb u.image i (λ is. true≢false (sym (seen u e) ∙ unshown u e is))

and_false : (a b : Bool) → b ≡ false → (a && b) ≡ false
and_false true b e = e
and_false false b e = refl

-- what is not topmost is kept with the window
pub hidden-kept : (world : World) (p : ℕ) (ws : List Window) (w : ℕ) → IsChanging world p ws w → (i : ℕ) (x : Point) → parent_of world i ≡ Some p → is_top (image_at world p).windows i (outward world p i x) ≡ false → keeping world i x ≡ own i x
hidden-kept world p ws w s i x stands none =
    unshown-own world s.standing p i x stands (and_false (holds (image_at world p).r (outward world p i x)) (is_top (image_at world p).windows i (outward world p i x)) none)

-- ---- what was not touched

pub surface-was : (world : World) (p : ℕ) (ws : List Window) (w : ℕ) (given fill : Point → ℕ) (before now : Place → ℕ) (done : Point → Bool) → IsChanging world p ws w → IsChanged world p ws w given fill before now done → (z : Point) → done z ≡ false → now (keeping world p z) ≡ before (keeping world p z)
surface-was world p ws w given fill before now done s m z not_done =
    m.others (keeping world p z)
    (λ y d e. let same = keeping-injective world s.standing (image_at world p).depth p z y s.change.live e in true≢false (sym d ∙ ap done (sym same) ∙ not_done))
    (λ i x apart stands d e. own-apart world s.standing p i x z s.change.live stands (sym e))

pub own-was : (world : World) (p : ℕ) (ws : List Window) (w : ℕ) (given fill : Point → ℕ) (before now : Place → ℕ) (done : Point → Bool) → IsChanging world p ws w → IsChanged world p ws w given fill before now done → (i : ℕ) (x : Point) → parent_of world i ≡ Some p → done (outward world p i x) ≡ false → now (own i x) ≡ before (own i x)
own-was world p ws w given fill before now done s m i x stands not_done =
    m.others (own i x)
    (λ y d e. own-apart world s.standing p i x y s.change.live stands e)
    (λ j y apart other d e.
    let same : outward world p j y ≡ outward world p i x = ap (λ (k : Place). outward world p k.image k.at) (sym e) in
    true≢false (sym d ∙ ap done same ∙ not_done))

-- what was not seen is kept with the window before and then
pub unseen-kept : (world : World) (p : ℕ) (ws : List Window) (w : ℕ) (given fill : Point → ℕ) (before now : Place → ℕ) (done : Point → Bool) → IsChanging world p ws w → IsChanged world p ws w given fill before now done → (i : ℕ) (x : Point) → i ≢ w → parent_of world i ≡ Some p → IsUnseen world p ws i → holds (image_at world i).r x ≡ true → now (own i x) ≡ before (keeping world i x)
unseen-kept world p ws w given fill before now done s m i x apart stands unseen inside = by_done (done (outward world p i x)) refl
  where
    by_done : (d : Bool) → done (outward world p i x) ≡ d → now (own i x) ≡ before (keeping world i x)
    by_done true d = m.hidden i x apart stands d (unseen.after x inside)
    by_done false d =
        own-was world p ws w given fill before now done s m i x stands d
        ∙ ap before (sym (unshown-own world s.standing p i x stands (unseen.before x inside)))

-- ---- a run over which the topmost window stays, and is not w

pub stays-kept : (world : World) (p : ℕ) (ws : List Window) (w : ℕ) → IsChanging world p ws w → (z : Point) (v : Window) → holds (image_at world p).r z ≡ true → StaysTop world p ws w z → top_window ws z ≡ Some v → keeping world p z ≡ keeping world v.image (inward world v z)
stays-kept world p ws w s z v inside same top = by_old (top_window (image_at world p).windows z) refl
  where
    seen : is_top (image_at world p).windows v.image z ≡ true
    seen = sym (same.tops v.image) ∙ top_is ws v.image z v top ∙ eq-eqb v.image v.image refl

    stood : place_among ws v.image ≡ place_among (image_at world p).windows v.image
    stood =
        ⊎_elim
        (λ (kept : place_among ws v.image ≡ place_among (image_at world p).windows v.image). kept)
        (λ (unseen : IsUnseen world p ws v.image). absurd (false≢true (sym (unseen-hidden world p ws w s v.image unseen z inside) ∙ seen)))
        (place_then world p ws w s z v inside top (same.apart v top))

    by_old : (o : Option Window) → top_window (image_at world p).windows z ≡ o → keeping world p z ≡ keeping world v.image (inward world v z)
    by_old None e = absurd (false≢true (sym (ap (λ o. option_map_or (λ (u : Window). u.image == v.image) o false) e) ∙ seen))
    by_old (Some u) e =
        let image : u.image ≡ v.image = (Decides-eqb u.image v.image).0 (sym (top_is (image_at world p).windows v.image z u e) ∙ seen) in
        let new_place : place_among ws v.image ≡ v.place = All-top_window (λ t. place_among ws t.image ≡ t.place) ws z v s.change.one top in
        let old_place : place_among (image_at world p).windows u.image ≡ u.place = All-top_window (λ t. place_among (image_at world p).windows t.image ≡ t.place) (image_at world p).windows z u (s.places p s.change.live) e in
        let place : u.place ≡ v.place = sym old_place ∙ ap (λ n. place_among (image_at world p).windows n) image ∙ sym stood ∙ new_place in
        sym (keeping-inward world s.standing s.places p z u s.change.live inside e)
        ∙ ap (λ n. keeping world n (carried z u.place.min (image_at world n).r.min)) image
        ∙ ap (λ (r : Rect). keeping world v.image (carried z r.min (image_at world v.image).r.min)) place

pub changed-skip : (world : World) (p : ℕ) (ws : List Window) (w : ℕ) (given fill : Point → ℕ) (before now : Place → ℕ) (done : Point → Bool) (q : Point) (n : ℕ) → IsChanging world p ws w → ((k : ℕ) → k < n → holds (image_at world p).r (along q k) ≡ true) → ((k : ℕ) → k < n → StaysTop world p ws w (along q k)) → IsFresh q n done → IsChanged world p ws w given fill before now done → IsChanged world p ws w given fill before now (more q n done)
changed-skip world p ws w given fill before now done q n s inside same fresh m = record {
  covered = λ z v d top apart.
      or_cases (holds (strip q n) z) (done z) d
      (λ h.
      let at = strip_at q z n h in
      surface-was world p ws w given fill before now done s m z (ap done at.2 ∙ fresh at.0 at.1)
      ∙ ap before (stays-kept world p ws w s z v (ap (λ y. holds (image_at world p).r y) at.2 ∙ inside at.0 at.1) (subst (StaysTop world p ws w) (sym at.2) (same at.0 at.1)) top))
      (λ d. m.covered z v d top apart);
  of_w = λ z v d top is_w.
      or_cases (holds (strip q n) z) (done z) d
      (λ h. let at = strip_at q z n h in absurd ((subst (StaysTop world p ws w) (sym at.2) (same at.0 at.1)).apart v top is_w))
      (λ d. m.of_w z v d top is_w);
  bare = λ z d top.
      or_cases (holds (strip q n) z) (done z) d
      (λ h.
      let at = strip_at q z n h in
      let was : is_bare (image_at world p).windows z ≡ true = sym ((subst (StaysTop world p ws w) (sym at.2) (same at.0 at.1)).bare) ∙ ap is_none top in
      surface-was world p ws w given fill before now done s m z (ap done at.2 ∙ fresh at.0 at.1)
      ∙ sym (ap (λ b. if b then before (keeping world p z) else fill z) was))
      (λ d. m.bare z d top);
  hidden = λ i x apart stands d none.
      let z : Point = outward world p i x in
      or_cases (holds (strip q n) z) (done z) d
      (λ h.
      let at = strip_at q z n h in
      let was : is_top (image_at world p).windows i z ≡ false = sym ((subst (StaysTop world p ws w) (sym at.2) (same at.0 at.1)).tops i) ∙ none in
      own-was world p ws w given fill before now done s m i x stands (ap done at.2 ∙ fresh at.0 at.1)
      ∙ ap before (sym (hidden-kept world p ws w s i x stands was)))
      (λ d. m.hidden i x apart stands d none);
  others = λ place apart own_apart.
      m.others place (λ y d. apart y (or_right (holds (strip q n) y) (done y) d))
      (λ i x other stands d. own_apart i x other stands (or_right (holds (strip q n) (outward world p i x)) (done (outward world p i x)) d));
}

-- ---- a rectangle over which another window shows, or w, or the fill

pub some_same : (u v : Window) → Some u ≡ Some v → u ≡ v
some_same u v e = cc

pub changed-in : (world : World) (p : ℕ) (ws : List Window) (w : ℕ) (given fill : Point → ℕ) (before old new : Place → ℕ) (done : Point → Bool) (a b : Option Window) (r : Rect) → IsChanging world p ws w → ((z : Point) → holds r z ≡ true → holds (image_at world p).r z ≡ true) → IsTopOver (image_at world p).windows r a → IsTopOver ws r b → ((u v : Window) → a ≡ Some u → b ≡ Some v → v.image ≢ w → u.image ≢ v.image) → (b ≡ None → is_none a ≡ false) → IsFreshIn r done → IsChanged world p ws w given fill before old done → IsShownAnew world p w a b given fill r old new → IsChanged world p ws w given fill before new (more_in r done)
changed-in world p ws w given fill before old new done a b r s inside olds news differ uncovers fresh m is = record {
  covered = λ z v d top apart.
      or_cases (holds r z) (done z) d
      (λ h. now_covered z v h top apart)
      (λ d. surface_stays z d ∙ m.covered z v d top apart);
  of_w = λ z v d top is_w.
      or_cases (holds r z) (done z) d
      (λ h. is.of_w v (sym (news z h) ∙ top) is_w z h)
      (λ d. surface_stays z d ∙ m.of_w z v d top is_w);
  bare = λ z d top.
      or_cases (holds r z) (done z) d
      (λ h.
      let b_is : b ≡ None = sym (news z h) ∙ top in
      let was : is_bare (image_at world p).windows z ≡ false = ap is_none (olds z h) ∙ uncovers b_is in
      is.none b_is z h ∙ sym (ap (λ c. if c then before (keeping world p z) else fill z) was))
      (λ d. surface_stays z d ∙ m.bare z d top);
  hidden = λ i x apart stands d none.
      or_cases (holds r (outward world p i x)) (done (outward world p i x)) d
      (λ h. now_hidden i x apart stands h none a refl)
      (λ d. own_stays i x apart stands d ∙ m.hidden i x apart stands d none);
  others = λ place apart own_apart.
      is.others place
      (λ z h. apart z (or_left (holds r z) (done z) h))
      (λ v a_is other z h.
      let out = out_old world p ws w s z v (olds z h ∙ a_is) in
      own_apart v.image (inward world v z) other (stood_old world p ws w s z v (olds z h ∙ a_is))
      (or_left (holds r (outward world p v.image (inward world v z))) (done (outward world p v.image (inward world v z))) (ap (holds r) out ∙ h)))
      ∙ m.others place (λ y d. apart y (or_right (holds r y) (done y) d))
      (λ i x other stands d. own_apart i x other stands (or_right (holds r (outward world p i x)) (done (outward world p i x)) d));
}
  where
    apart_from_done : (y : Point) → done y ≡ true → (z : Point) → holds r z ≡ true → y ≢ z
    apart_from_done y d z h e = true≢false (sym d ∙ ap done e ∙ fresh z h)

    surface_stays : (y : Point) → done y ≡ true → new (keeping world p y) ≡ old (keeping world p y)
    surface_stays y d =
        is.others (keeping world p y)
        (λ z h e. apart_from_done y d z h (keeping-injective world s.standing (image_at world p).depth p y z s.change.live e))
        (λ v a_is other z h e. own-apart world s.standing p v.image (inward world v z) y s.change.live (stood_old world p ws w s z v (olds z h ∙ a_is)) (sym e))

    own_stays : (i : ℕ) (x : Point) → i ≢ w → parent_of world i ≡ Some p → done (outward world p i x) ≡ true → new (own i x) ≡ old (own i x)
    own_stays i x apart stands d =
        is.others (own i x)
        (λ z h e. own-apart world s.standing p i x z s.change.live stands e)
        (λ v a_is other z h e.
        let out : outward world p i x ≡ z = ap (λ (l : Place). outward world p l.image l.at) e ∙ out_old world p ws w s z v (olds z h ∙ a_is) in
        apart_from_done (outward world p i x) d z h out)

    not_top : (z : Point) (v : Window) → holds r z ≡ true → b ≡ Some v → v.image ≢ w → (o : Option Window) → a ≡ o → is_top (image_at world p).windows v.image z ≡ false
    not_top z v h b_is apart None a_is = ap (λ o. option_map_or (λ (u : Window). u.image == v.image) o false) (olds z h ∙ a_is)
    not_top z v h b_is apart (Some u) a_is = top_is (image_at world p).windows v.image z u (olds z h ∙ a_is) ∙ ne_eqb u.image v.image (differ u v a_is b_is apart)

    now_covered : (z : Point) (v : Window) → holds r z ≡ true → top_window ws z ≡ Some v → v.image ≢ w → new (keeping world p z) ≡ before (keeping world v.image (inward world v z))
    now_covered z v h top apart =
        let b_is : b ≡ Some v = sym (news z h) ∙ top in
        let x = inward world v z in
        let stands : parent_of world v.image ≡ Some p = stood_new world p ws w s z v top in
        is.owned v b_is apart z h
        ∙ ⊎_elim
        (λ (kept : place_among ws v.image ≡ place_among (image_at world p).windows v.image).
        let out : outward world p v.image x ≡ z = out_new world p ws w s z v top kept in
        let hid : is_top (image_at world p).windows v.image (outward world p v.image x) ≡ false =
        ap (is_top (image_at world p).windows v.image) out ∙ not_top z v h b_is apart a refl in
        own-was world p ws w given fill before old done s m v.image x stands (ap done out ∙ fresh z h)
        ∙ ap before (sym (hidden-kept world p ws w s v.image x stands hid)))
        (λ (unseen : IsUnseen world p ws v.image).
        unseen-kept world p ws w given fill before old done s m v.image x apart stands unseen (inside_new world p ws w s.change z v top))
        (place_then world p ws w s z v (inside z h) top apart)

    own_unsaved : (i : ℕ) (x : Point) → parent_of world i ≡ Some p → holds r (outward world p i x) ≡ true → ((v : Window) → a ≡ Some v → v.image ≢ i) → is_top (image_at world p).windows i (outward world p i x) ≡ false → new (own i x) ≡ before (keeping world i x)
    own_unsaved i x stands h other was =
        is.others (own i x)
        (λ y lower same. own-apart world s.standing p i x y s.change.live stands same)
        (λ v a_is apart y lower same. other v a_is (sym (ap (λ (m : Place). m.image) same)))
        ∙ own-was world p ws w given fill before old done s m i x stands (fresh (outward world p i x) h)
        ∙ ap before (sym (hidden-kept world p ws w s i x stands was))

    now_hidden : (i : ℕ) (x : Point) → i ≢ w → parent_of world i ≡ Some p → holds r (outward world p i x) ≡ true → is_top ws i (outward world p i x) ≡ false → (o : Option Window) → a ≡ o → new (own i x) ≡ before (keeping world i x)
    now_hidden i x apart stands h none None a_is =
        own_unsaved i x stands h (λ v v_is. let both : None ≡ Some v = sym a_is ∙ v_is in cc)
        (ap (λ o. option_map_or (λ (u : Window). u.image == i) o false) (olds (outward world p i x) h ∙ a_is))
    now_hidden i x apart stands h none (Some u) a_is = by_image (u.image == i) refl
      where
        z : Point
        z = outward world p i x

        by_image : (t : Bool) → (u.image == i) ≡ t → new (own i x) ≡ before (keeping world i x)
        by_image true e =
            let image : u.image ≡ i = (Decides-eqb u.image i).0 e in
            let top = olds z h ∙ a_is in
            let x_is : x ≡ inward world u z = in_old world p ws w s z x u top (ap (λ j. outward world p j x) image) in
            let place : own i x ≡ own u.image (inward world u z) = (λ j. own (sym image j) (x_is j)) in
            ap new place
            ∙ is.saved u a_is (λ is_w. apart (sym image ∙ is_w)) z h
            ∙ surface-was world p ws w given fill before old done s m z (fresh z h)
            ∙ ap before (sym (keeping-inward world s.standing s.places p z u s.change.live (inside z h) top))
            ∙ ap (λ y. before (keeping world u.image y)) (sym x_is)
            ∙ ap (λ j. before (keeping world j x)) image
        by_image false e =
            own_unsaved i x stands h
            (λ v v_is same.
            let u_is : u ≡ v = some_same u v (sym a_is ∙ v_is) in
            true≢false (sym (eq-eqb u.image i (ap (λ (t : Window). t.image) u_is ∙ same)) ∙ e))
            (top_is (image_at world p).windows i z u (olds z h ∙ a_is) ∙ e)

-- ---- the whole

pub inside_w : (world : World) (p : ℕ) (ws : List Window) (w : ℕ) → IsChange world p ws w → (q : Point) (v : Window) → top_window ws q ≡ Some v → v.image ≡ w → holds (image_at world w).r (inward world v q) ≡ true
inside_w world p ws w change q v top is_w =
    ap (λ n. holds (image_at world n).r (inward world v q)) (sym is_w) ∙ inside_new world p ws w change q v top

-- p keeps nothing with a window that stands on it
pub not_with : (world : World) → IsStanding world → (p w : ℕ) (q : Point) → IsLive world p → parent_of world w ≡ Some p → (keeping world p q).image ≢ w
not_with world ok p w q live stands same =
    let low = keeping-depth world ok (image_at world p).depth p q live in
    let depths : (image_at world (keeping world p q).image).depth ≡ (image_at world w).depth = ap (λ (k : ℕ). (image_at world k).depth) same in
    let higher = ok.above w p (live-standing world w p stands) stands in
    absurd (omega (arith, low, depths, higher))

-- nor does another window
pub not_with_other : (world : World) → IsStanding world → (p w i : ℕ) (x : Point) → IsLive world p → parent_of world w ≡ Some p → parent_of world i ≡ Some p → i ≢ w → (keeping world i x).image ≢ w
not_with_other world ok p w i x live w_stands stands apart same =
    by_shown (is_shown world p i (outward world p i x)) refl
  where
    up : keeping world i x ≡ (if is_shown world p i (outward world p i x) then keeping world p (outward world p i x) else own i x)
    up = keeping-up world ok i p x (live-standing world i p stands) stands

    by_shown : (b : Bool) → is_shown world p i (outward world p i x) ≡ b → ⊥
    by_shown true e =
        not_with world ok p w (outward world p i x) live w_stands
        (sym (ap (λ (k : Place). k.image) (up ∙ ap (λ b. if b then keeping world p (outward world p i x) else own i x) e)) ∙ same)
    by_shown false e =
        apart (sym (ap (λ (k : Place). k.image) (up ∙ ap (λ b. if b then keeping world p (outward world p i x) else own i x) e)) ∙ same)

pub changed-all : (world : World) (p : ℕ) (ws : List Window) (w : ℕ) (given fill : Point → ℕ) (before now as_before as_after : Place → ℕ) (done : Point → Bool) → IsChanging world p ws w → parent_of world w ≡ Some p → ((q : Point) → done q ≡ true → holds (image_at world p).r q ≡ true) → ((q : Point) → holds (image_at world p).r q ≡ true → done q ≡ false → StaysTop world p ws w q) → IsChanged world p ws w given fill before now done → IsGiven world p ws w given before now as_before as_after → IsRestacked world (with_list world p ws) p as_before as_after fill
changed-all world p ws w given fill before now as_before as_after done s w_stands inside same m g = record {
  covered = λ q v h top. covered_at q v (sym (ap (λ (r : Rect). holds r q) (still.r p)) ∙ h) (sym (ap (λ l. top_window l q) list_is) ∙ top) (v.image == w) refl (done q) refl;
  bare = λ q h bare.
      bare_at q (sym (ap (λ (r : Rect). holds r q) (still.r p)) ∙ h) (top_window ws q) refl (sym (ap (λ l. is_bare l q) list_is) ∙ bare) (done q) refl;
  hidden = λ i x stands h none.
      hidden_at i x (sym (parent_of-same world new p still i) ∙ stands) (sym (ap (λ (r : Rect). holds r x) (still.r i)) ∙ h) none (i == w) refl;
  others = λ place apart own_apart. others_at place apart own_apart (place.image == w) refl;
}
  where
    new : World
    new = with_list world p ws

    still : SameButList world new p
    still = with_list-same world p ws s.change.live

    list_is : (image_at new p).windows ≡ ws
    list_is = ap (λ (o : Option Image). (unwrap_or o no_image).windows) (with_image-at world p (Some (record (image_at world p) { windows = ws })))

    in_is : (v : Window) (q : Point) → inward new v q ≡ inward world v q
    in_is v q = ap (λ (r : Rect). carried q v.place.min r.min) (still.r v.image)

    seen_after : (q : Point) → as_after (keeping world p q) ≡ now (keeping world p q)
    seen_after q = g.now_same (keeping world p q) (not_with world s.standing p w q s.change.live w_stands)

    seen_before : (q : Point) → as_before (keeping world p q) ≡ before (keeping world p q)
    seen_before q = g.was_same (keeping world p q) (not_with world s.standing p w q s.change.live w_stands)

    own_before : (i : ℕ) (x : Point) → parent_of world i ≡ Some p → i ≢ w → as_before (keeping world i x) ≡ before (keeping world i x)
    own_before i x stands apart = g.was_same (keeping world i x) (not_with_other world s.standing p w i x s.change.live w_stands stands apart)

    covered_at : (q : Point) (v : Window) → holds (image_at world p).r q ≡ true → top_window ws q ≡ Some v → (t : Bool) → (v.image == w) ≡ t → (d : Bool) → done q ≡ d → as_after (keeping world p q) ≡ as_before (keeping world v.image (inward new v q))
    covered_at q v h top true e true d =
        let is_w : v.image ≡ w = (Decides-eqb v.image w).0 e in
        seen_after q ∙ m.of_w q v d top is_w ∙ sym (g.pixels q v h top is_w)
        ∙ ap (λ n. as_before (keeping world n (inward world v q))) (sym is_w)
        ∙ ap (λ y. as_before (keeping world v.image y)) (sym (in_is v q))
    covered_at q v h top true e false d = absurd ((same q h d).apart v top ((Decides-eqb v.image w).0 e))
    covered_at q v h top false e true d =
        let apart : v.image ≢ w = λ is. true≢false (sym (eq-eqb v.image w is) ∙ e) in
        seen_after q ∙ m.covered q v d top apart
        ∙ sym (own_before v.image (inward world v q) (stood_new world p ws w s q v top) apart)
        ∙ ap (λ y. as_before (keeping world v.image y)) (sym (in_is v q))
    covered_at q v h top false e false d =
        let apart : v.image ≢ w = λ is. true≢false (sym (eq-eqb v.image w is) ∙ e) in
        seen_after q ∙ surface-was world p ws w given fill before now done s m q d
        ∙ ap before (stays-kept world p ws w s q v h (same q h d) top)
        ∙ sym (own_before v.image (inward world v q) (stood_new world p ws w s q v top) apart)
        ∙ ap (λ y. as_before (keeping world v.image y)) (sym (in_is v q))

    bare_at : (q : Point) → holds (image_at world p).r q ≡ true → (o : Option Window) → top_window ws q ≡ o → is_bare ws q ≡ true → (d : Bool) → done q ≡ d → as_after (keeping world p q) ≡ (if is_bare (image_at world p).windows q then as_before (keeping world p q) else fill q)
    bare_at q h (Some v) e bare d is = absurd (true≢false (sym bare ∙ ap is_none e))
    bare_at q h None e bare true d =
        seen_after q ∙ m.bare q d e ∙ ap (λ n. if is_bare (image_at world p).windows q then n else fill q) (sym (seen_before q))
    bare_at q h None e bare false d =
        let was : is_bare (image_at world p).windows q ≡ true = sym ((same q h d).bare) ∙ bare in
        seen_after q ∙ surface-was world p ws w given fill before now done s m q d ∙ sym (seen_before q)
        ∙ sym (ap (λ b. if b then as_before (keeping world p q) else fill q) was)

    hidden_at : (i : ℕ) (x : Point) → parent_of world i ≡ Some p → holds (image_at world i).r x ≡ true → is_shown new p i (outward new p i x) ≡ false → (t : Bool) → (i == w) ≡ t → as_after (own i x) ≡ as_before (keeping world i x)
    hidden_at i x stands h none true e =
        let is_w : i ≡ w = (Decides-eqb i w).0 e in
        let F : ℕ → Type 0 = λ n. holds (image_at world n).r x ≡ true → is_shown new p n (outward new p n x) ≡ false → as_after (own n x) ≡ as_before (keeping world n x) in
        subst F (sym is_w) (λ h none. g.hidden x h none) h none
    hidden_at i x stands h none false e =
        g.now_same (own i x) apart ∙ by_done (done (outward world p i x)) refl ∙ sym (own_before i x stands apart)
      where
        apart : i ≢ w
        apart is = true≢false (sym (eq-eqb i w is) ∙ e)

        out_is : place_among ws i ≡ place_among (image_at world p).windows i → outward new p i x ≡ outward world p i x
        out_is place =
            ap (λ (r : Rect). carried x r.min (place_among (image_at new p).windows i).min) (still.r i)
            ∙ ap (λ l. carried x (image_at world i).r.min (place_among l i).min) list_is
            ∙ ap (λ (r : Rect). carried x (image_at world i).r.min r.min) place

        unshown_at : place_among ws i ≡ place_among (image_at world p).windows i → (holds (image_at world p).r (outward world p i x) && is_top ws i (outward world p i x)) ≡ false
        unshown_at place =
            sym (ap (is_shown new p i) (out_is place)
            ∙ ap (λ (r : Rect). holds r (outward world p i x) && is_top (image_at new p).windows i (outward world p i x)) (still.r p)
            ∙ ap (λ l. holds (image_at world p).r (outward world p i x) && is_top l i (outward world p i x)) list_is) ∙ none

        -- an image that showed there then would stand where it stood
        unshown_new : (holds (image_at world p).r (outward world p i x) && is_top ws i (outward world p i x)) ≡ false
        unshown_new =
            false_from_ne_true (holds (image_at world p).r (outward world p i x) && is_top ws i (outward world p i x))
            (λ e.
            let parts = and_parts (holds (image_at world p).r (outward world p i x)) (is_top ws i (outward world p i x)) e in
            ⊎_elim
            (λ (kept : place_among ws i ≡ place_among (image_at world p).windows i). false≢true (sym (unshown_at kept) ∙ e))
            (λ (unseen : IsUnseen world p ws i). true≢false (sym parts.1 ∙ unseen.after x h))
            (s.change.places i (outward world p i x) apart parts.0 parts.1))

        by_done : (d : Bool) → done (outward world p i x) ≡ d → now (own i x) ≡ before (keeping world i x)
        by_done true d = m.hidden i x apart stands d (sym (ap (λ b. b && is_top ws i (outward world p i x)) (inside (outward world p i x) d)) ∙ unshown_new)
        by_done false d =
            own-was world p ws w given fill before now done s m i x stands d
            ∙ ap before (sym (unshown-own world s.standing p i x stands (was (holds (image_at world p).r (outward world p i x)) refl)))
          where
            was : (b : Bool) → holds (image_at world p).r (outward world p i x) ≡ b → is_shown world p i (outward world p i x) ≡ false
            was true h = ap (λ b. holds (image_at world p).r (outward world p i x) && b) (sym ((same (outward world p i x) h d).tops i)) ∙ unshown_new
            was false h = ap (λ b. b && is_top (image_at world p).windows i (outward world p i x)) h

    others_at : (place : Place) → ((q : Point) → holds (image_at new p).r q ≡ true → place ≢ keeping world p q) → ((i : ℕ) (x : Point) → parent_of new i ≡ Some p → place ≢ own i x) → (t : Bool) → (place.image == w) ≡ t → as_after place ≡ as_before place
    others_at place apart own_apart true e =
        let is_w : place.image ≡ w = (Decides-eqb place.image w).0 e in
        absurd (own_apart w place.at (parent_of-same world new p still w ∙ w_stands) (λ j. own (is_w j) place.at))
    others_at place apart own_apart false e =
        let other : place.image ≢ w = λ is. true≢false (sym (eq-eqb place.image w is) ∙ e) in
        g.now_same place other
        ∙ m.others place (λ q d. apart q (ap (λ (r : Rect). holds r q) (still.r p) ∙ inside q d)) (λ i x i_apart stands d. own_apart i x (parent_of-same world new p still i ∙ stands))
        ∙ sym (g.was_same place other)

pub changed-none : (world : World) (p : ℕ) (ws : List Window) (w : ℕ) (given fill : Point → ℕ) (before : Place → ℕ) (done : Point → Bool) → ((q : Point) → done q ≡ false) → IsChanged world p ws w given fill before before done
changed-none world p ws w given fill before done none = record {
  covered = λ q v d top apart. absurd (true≢false (sym d ∙ none q));
  of_w = λ q v d top is. absurd (true≢false (sym d ∙ none q));
  bare = λ q d top. absurd (true≢false (sym d ∙ none q));
  hidden = λ i x apart stands d no. absurd (true≢false (sym d ∙ none (outward world p i x)));
  others = λ place apart own_apart. refl;
}

pub changed-same : (world : World) (p : ℕ) (ws : List Window) (w : ℕ) (given fill : Point → ℕ) (before now : Place → ℕ) (done also : Point → Bool) → ((q : Point) → also q ≡ done q) → IsChanged world p ws w given fill before now done → IsChanged world p ws w given fill before now also
changed-same world p ws w given fill before now done also same m = record {
  covered = λ q v d top apart. m.covered q v (sym (same q) ∙ d) top apart;
  of_w = λ q v d top is. m.of_w q v (sym (same q) ∙ d) top is;
  bare = λ q d top. m.bare q (sym (same q) ∙ d) top;
  hidden = λ i x apart stands d no. m.hidden i x apart stands (sym (same (outward world p i x)) ∙ d) no;
  others = λ place apart own_apart. m.others place (λ q d. apart q (same q ∙ d)) (λ i x other stands d. own_apart i x other stands (same (outward world p i x) ∙ d));
}

-- ---- what a part of a row asks for

pub changing : (lists : Lists) (p : ℕ) (ws : List Window) (w : ℕ) → IsChange (shape lists) p ws w → IsChanging (shape lists) p ws w
unfolding shape
changing lists p ws w change = record { standing = lists.standing; places = lists.places; change = change }

pub has_old : (world : World) (p : ℕ) (ws : List Window) (w : ℕ) (has : Place → Bool) → IsChanging world p ws w → HasPlacesBut world p ws w has → (a b : Option Window) (r : Rect) → IsTopOver (image_at world p).windows r a → IsTopOver ws r b → IsOther a b w → (v : Window) → a ≡ Some v → v.image ≢ w → (z : Point) → holds r z ≡ true → has (own v.image (inward world v z)) ≡ true
has_old world p ws w has s h a b r olds news other v a_is apart z here =
    let top = olds z here ∙ a_is in
    let out = out_old world p ws w s z v top in
    let inside = inward-inside world s.standing p z v s.change.live top in
    h.new_own v.image (inward world v z) apart (stood_old world p ws w s z v top) inside (ap (is_top ws v.image) out ∙ not_then b refl)
  where
    not_then : (o : Option Window) → b ≡ o → is_top ws v.image z ≡ false
    not_then None b_is = ap (λ o. option_map_or (λ (u : Window). u.image == v.image) o false) (news z here ∙ b_is)
    not_then (Some u) b_is = top_is ws v.image z u (news z here ∙ b_is) ∙ ne_eqb u.image v.image (λ same. other.differs v u a_is b_is (λ is. apart (sym same ∙ is)) (sym same))

pub has_new : (world : World) (p : ℕ) (ws : List Window) (w : ℕ) (has : Place → Bool) → IsChanging world p ws w → HasPlacesBut world p ws w has → (a b : Option Window) (r : Rect) → ((z : Point) → holds r z ≡ true → holds (image_at world p).r z ≡ true) → IsTopOver (image_at world p).windows r a → IsTopOver ws r b → IsOther a b w → (v : Window) → b ≡ Some v → v.image ≢ w → (z : Point) → holds r z ≡ true → has (own v.image (inward world v z)) ≡ true
has_new world p ws w has s h a b r within olds news other v b_is apart z here =
    let top = news z here ∙ b_is in
    let is : IsWindowOf world p v = All-top_window (IsWindowOf world p) ws z v s.change.stand top in
    let inside : holds (image_at world v.image).r (inward world v z) ≡ true = sym (holds-carried v.place (image_at world v.image).r z is.size) ∙ holds-top_window ws z v top in
    ⊎_elim
    (λ (kept : place_among ws v.image ≡ place_among (image_at world p).windows v.image).
    h.old_own v.image (inward world v z) apart is.stands inside (ap (is_top (image_at world p).windows v.image) (out_new world p ws w s z v top kept) ∙ not_before a refl))
    (λ (unseen : IsUnseen world p ws v.image). h.new_own v.image (inward world v z) apart is.stands inside (unseen.after (inward world v z) inside))
    (place_then world p ws w s z v (within z here) top apart)
  where
    not_before : (o : Option Window) → a ≡ o → is_top (image_at world p).windows v.image z ≡ false
    not_before None a_is = ap (λ o. option_map_or (λ (u : Window). u.image == v.image) o false) (olds z here ∙ a_is)
    not_before (Some u) a_is = top_is (image_at world p).windows v.image z u (olds z here ∙ a_is) ∙ ne_eqb u.image v.image (other.differs u v a_is b_is apart)

pub stays_top : (world : World) (p : ℕ) (ws : List Window) (w : ℕ) (a b : Option Window) (z : Point) → top_window (image_at world p).windows z ≡ a → top_window ws z ≡ b → StaysAs a b w → StaysTop world p ws w z
stays_top world p ws w a b z old new st = by_b b refl
  where
    by_b : (o : Option Window) → b ≡ o → StaysTop world p ws w z
    by_b None b_is =
        let then_none : top_window ws z ≡ None = new ∙ b_is in
        let was_none : top_window (image_at world p).windows z ≡ None = old ∙ st.none b_is in
        record {
          tops = λ i. ap (λ o. option_map_or (λ (v : Window). v.image == i) o false) (then_none ∙ sym was_none);
          apart = λ v top. let both : None ≡ Some v = sym then_none ∙ top in cc;
          bare = ap is_none (then_none ∙ sym was_none);
        }
    by_b (Some v) b_is =
        let was = st.some v b_is in
        let now_top : top_window ws z ≡ Some v = new ∙ b_is in
        let old_top : top_window (image_at world p).windows z ≡ Some was.0 = old ∙ was.1 in
        record {
          tops = λ i. top_is ws i z v now_top ∙ ap (λ n. n == i) (sym was.2) ∙ sym (top_is (image_at world p).windows i z was.0 old_top);
          apart = λ u top is. was.3 (ap (λ (t : Window). t.image) (some_same v u (sym now_top ∙ top)) ∙ is);
          bare = ap is_none now_top ∙ sym (ap is_none old_top);
        }

pub near_of_new : (ws : List Window) (z : Point) (v : Window) → All (λ u. IsNear u.place.min) ws → top_window ws z ≡ Some v → IsNear v.place.min
near_of_new ws z v all top = All-top_window (λ u. IsNear u.place.min) ws z v all top

pub near_of_old : (lists : Lists) (p : ℕ) → IsLive (shape lists) p → (z : Point) (v : Window) → top_window (image_at (shape lists) p).windows z ≡ Some v → IsNear v.place.min
unfolding shape
near_of_old lists p live z v top =
    let is : IsRectNearBy (2 ^ 40) v.place = All-top_window (λ u. IsRectNearBy (2 ^ 40) u.place) (image_at (shape lists) p).windows z v (lists.near p live).1 top in
    is.min

-- what the image shows of a window of its new list
pub shown_then : (world : World) (p : ℕ) (ws : List Window) (w : ℕ) (x : Point) → IsLive world p → is_shown (with_list world p ws) p w (outward (with_list world p ws) p w x) ≡ (holds (image_at world p).r (carried x (image_at world w).r.min (place_among ws w).min) && is_top ws w (carried x (image_at world w).r.min (place_among ws w).min))
shown_then world p ws w x live =
    let new : World = with_list world p ws in
    let still : SameButList world new p = with_list-same world p ws live in
    let list_is : (image_at new p).windows ≡ ws = ap (λ (o : Option Image). (unwrap_or o no_image).windows) (with_image-at world p (Some (record (image_at world p) { windows = ws }))) in
    let out : outward new p w x ≡ carried x (image_at world w).r.min (place_among ws w).min = (λ j. carried x (still.r w j).min (place_among (list_is j) w).min) in
    (λ j. holds (still.r p j) (out j) && is_top (list_is j) w (out j))
