-- Windows that come in place of others, which then go.
use Rattle.std.proofs.Common.{◌≡◌, ◌≢◌, ◌∙◌, ℕ, Bool, true, false, List, [], ◌∷◌, Option, Some, None, refl, sym, ap, subst}
use Rattle.std.specs.Prelude.{◌+◌, ◌==◌, is_some, IfSome, IsSome, option_map, unwrap_or, if◌then◌else◌}
use Rattle.std.specs.Option.{option_map_or}
use Rattle.std.specs.List.{list_any}
use Rattle.std.proofs.lemmas.Bool.{and_from, false_from_ne_true, false≢true}
use Rattle.r9_geom.specs.declared.Point.{Point}
use Rattle.r9_geom.specs.declared.Rect.{Rect}
use Rattle.r9_geom.specs.Geometry.{carried, holds, is_empty, meet}
use Rattle.r9_geom.proofs.GeometryLemmas.{empty_holds, holds-meet}
use Rattle.model_forest.specs.declared.Standing.{Standing}
use Rattle.model_forest.specs.declared.Window.{Window}
use Rattle.model_forest.specs.Draw.{with_canvas}
use Rattle.model_forest.specs.Stack.{moved, seen, uncovered, with_windows, without}
use Rattle.model_forest.specs.Steps.{after_list, after_release, after_replace, after_replace_on, carried_rect, outside, put_above}
use Rattle.model_forest.specs.View.{is_bare, view}
use Rattle.model_forest.specs.World.{Image, World, fill_of, image_at, no_image, parent_of, with_image, IsForest, IsLive}
use Rattle.model_forest.proofs.Changes.{live-apart, live-standing, with_image-at, with_image-free, World-changed}
use Rattle.model_forest.proofs.Listed.{parent-apart, window_of}
use Rattle.model_forest.proofs.Uncovers.{CoversMore, CoversMore-same, seen-covers_more}
use Rattle.model_forest.proofs.Windows.{parent_of-with_windows, rect-with_windows, windows-with_windows, with_windows-other, IsStill-with_windows}
use Rattle.model_exchanged.specs.exchanged.Exchanged.{after_put_on, after_put_under, put_below, LeavesUnseen}
use Rattle.model_exchanged.proofs.exchanged.Below.{bare-put_below, without-put_below}
use Rattle.model_exchanged.proofs.exchanged.InPlace.{bare-moved, gone_drawn, without-moved}

-- an image on which nothing is drawn is as it was
undrawn : (world : World) (i : ℕ) (image : Image) → world i ≡ Some image → with_canvas world i (λ _. false) (λ _. 0) ≡ world
undrawn world i image there =
    sym (World-changed world world i (Some (image_at world i)) (there ∙ ap (λ (im : Image). Some im) (sym (ap (λ (o : Option Image). unwrap_or o no_image) there))) (λ n other. refl))

-- the list of a window's parent after a change
pub listed_at : (world : World) (old q : ℕ) (change : List Window → List Window) → parent_of world old ≡ Some q → after_list world old change ≡ with_windows world q (change (image_at world q).windows)
listed_at world old q change stands = ap (λ (o : Option ℕ). option_map_or (λ p. with_windows world p (change (image_at world p).windows)) o world) stands

-- a list that comes after another counts alone where it covers what that covered
relisted : (world : World) (q : ℕ) (us ws : List Window) → CoversMore us ws → with_windows (with_windows world q us) q ws ≡ with_windows world q ws
relisted world q us ws more =
    World-changed world (with_windows first q ws) q (Some (record (image_at world q) { windows = ws; canvas = seen (image_at world q).r ws plane }))
    (with_image-at first q (Some (record (image_at first q) { windows = ws; canvas = seen (image_at first q).r ws (uncovered first q) }))
    ∙ (λ j. Some (record (there j) { windows = ws; canvas = canvas j })))
    (λ n away. with_windows-other first q ws n away ∙ with_windows-other world q us n away)
  where
    first : World
    first = with_windows world q us

    plane : Point → ℕ
    plane = uncovered world q

    listed : Image
    listed = record (image_at world q) { windows = us; canvas = seen (image_at world q).r us plane }

    there : image_at first q ≡ listed
    there = ap (λ (o : Option Image). unwrap_or o no_image) (with_image-at world q (Some listed))

    canvas : seen (image_at first q).r ws (uncovered first q) ≡ seen (image_at world q).r ws plane
    canvas =
        sym (seen-covers_more first q ws plane
        (ap (λ (im : Image). im.canvas) there ∙ ap (λ (im : Image). seen im.r im.windows plane) (sym there))
        (subst (λ (vs : List Window). CoversMore vs ws) (sym (windows-with_windows world q us)) more))
        ∙ ap (λ (im : Image). seen im.r ws plane) there

module _ (world : World) (i old q t : ℕ) (window : Image) (ws : List Window) (far : Rect) (ok : IsForest world) (free : world i ≡ None) (stands : parent_of world old ≡ Some q) (target : IsLive world t) where
  abbrev pub one : World
  one = with_image world i (Some window)

  abbrev pub come : World
  come = with_windows one t ws

  abbrev pub left : World
  left = with_windows come q (moved old far (image_at come q).windows)

  old_live : IsLive world old
  old_live = live-standing world old q stands

  below_live : IsLive world q
  below_live = ok.parents old q old_live stands

  fill_live : IsLive world (fill_of world old)
  fill_live = let found = window_of world ok old q stands in subst (λ n. IsLive world n) (ap (fill_of world) found.1) found.2.fill

  kept : (n : ℕ) → IsLive world n → one n ≡ world n
  kept n live = with_image-free world i n (Some window) free live

  one_live : IsLive one t
  one_live = ap is_some (kept t target) ∙ target

  pub come_stands : parent_of come old ≡ Some q
  come_stands = parent_of-with_windows one t ws old one_live ∙ ap (λ (o : Option Image). option_map (λ s. s.parent) (unwrap_or o no_image).standing) (kept old old_live) ∙ stands

  come_fill : fill_of come old ≡ fill_of world old
  come_fill =
      ap (λ (s : Option Standing). option_map_or (λ s. s.fill) s 0) ((IsStill-with_windows one t ws one_live).same old).standing
      ∙ ap (λ (o : Option Image). option_map_or (λ s. s.fill) (unwrap_or o no_image).standing 0) (kept old old_live)

  apart : i ≢ q
  apart e = live-apart world i q free below_live (sym e)

  other : i ≢ old
  other e = live-apart world i old free old_live (sym e)

  aside : i ≢ t
  aside e = live-apart world i t free target (sym e)

  come_there : come i ≡ Some window
  come_there = with_windows-other one t ws i aside ∙ with_image-at world i (Some window)

  -- the image that came is the same
  pub same_image : left i ≡ come i
  same_image = with_windows-other come q (moved old far (image_at come q).windows) i apart

  module _ (bare : (image_at world (fill_of world old)).windows ≡ []) (away : fill_of world old ≢ t) where
    bare_there : (image_at come (fill_of come old)).windows ≡ []
    bare_there =
        ap (λ n. (image_at come n).windows) come_fill
        ∙ ap (λ (o : Option Image). (unwrap_or o no_image).windows) (with_windows-other one t ws (fill_of world old) away ∙ kept (fill_of world old) fill_live)
        ∙ bare

    fills : fill_of come old ≢ i
    fills e = live-apart world i (fill_of world old) free fill_live (sym come_fill ∙ e)

    -- the other goes from where it stands as from elsewhere in a list that covers no more where the others leave
    module _ (us : List Window) (rest : without old us ≡ without old (image_at come q).windows) (leaves : (z : Point) → holds (image_at come q).r z ≡ true → is_bare (without old (image_at come q).windows) z ≡ true → is_bare (image_at come q).windows z ≡ true → is_bare us z ≡ true) where
      pub elsewhere_drawn : (area : Point → Bool) (new : Point → ℕ) → after_release (with_canvas (with_windows come q us) i area new) old ≡ after_release (with_canvas come i area new) old
      elsewhere_drawn area new = gone_drawn come q old i us area new come_stands (parent-apart world ok old q stands) apart other bare_there fills rest leaves

      pub elsewhere : after_release (with_windows come q us) old ≡ after_release come old
      elsewhere =
          ap (λ (w : World). after_release w old) (sym (undrawn (with_windows come q us) i window (with_windows-other come q us i apart ∙ come_there)))
          ∙ elsewhere_drawn (λ _. false) (λ _. 0)
          ∙ ap (λ (w : World). after_release w old) (undrawn come i window come_there)

    -- and as from far outside
    module _ (off : is_empty (meet far (image_at world q).r) ≡ true) where
      off_there : (z : Point) → holds (image_at come q).r z ≡ true → holds far z ≡ false
      off_there z inside =
          let rect : (image_at come q).r ≡ (image_at world q).r = rect-with_windows one t ws q ∙ ap (λ (o : Option Image). (unwrap_or o no_image).r) (kept q below_live) in
          false_from_ne_true (holds far z)
          (λ over.
          false≢true
          (sym (empty_holds (meet far (image_at world q).r) z off) ∙ holds-meet far (image_at world q).r z
          ∙ and_from (holds far z) (holds (image_at world q).r z) over (ap (λ (r : Rect). holds r z) (sym rect) ∙ inside)))

      far_bare : (z : Point) → holds (image_at come q).r z ≡ true → is_bare (without old (image_at come q).windows) z ≡ true → is_bare (moved old far (image_at come q).windows) z ≡ true
      far_bare z inside = bare-moved old far z (image_at come q).windows (off_there z inside)

      pub in_place_drawn : (area : Point → Bool) (new : Point → ℕ) → after_release (with_canvas come i area new) old ≡ after_release (with_canvas left i area new) old
      in_place_drawn area new =
          sym (elsewhere_drawn (moved old far (image_at come q).windows) (without-moved old far (image_at come q).windows) (λ z inside others was. far_bare z inside others) area new)

      pub in_place : after_release come old ≡ after_release left old
      in_place =
          sym (elsewhere (moved old far (image_at come q).windows) (without-moved old far (image_at come q).windows) (λ z inside others was. far_bare z inside others))

-- ---- the parent that a window has

parented : (o : Option ℕ) → IsSome o → (q : ℕ) × (o ≡ Some q)
parented None some = absurd (false≢true some)
parented (Some q) some = (q, refl)

off_of : (world : World) (old q : ℕ) → parent_of world old ≡ Some q → IfSome (parent_of world old) (λ p. is_empty (meet (carried_rect (image_at world old).r (image_at world old).r.min outside) (image_at world p).r) ≡ true) → is_empty (meet (carried_rect (image_at world old).r (image_at world old).r.min outside) (image_at world q).r) ≡ true
off_of world old q stands off =
    subst (λ (o : Option ℕ). IfSome o (λ p. is_empty (meet (carried_rect (image_at world old).r (image_at world old).r.min outside) (image_at world p).r) ≡ true)) stands off

-- what fills for a window is not what that stands on, where no window stands on it
fill_away : (world : World) (old q : ℕ) → IsForest world → parent_of world old ≡ Some q → (image_at world (fill_of world old)).windows ≡ [] → fill_of world old ≢ q
fill_away world old q ok stands bare e =
    false≢true
    (sym (ap (list_any (λ (w : Window). w.image == old)) (sym (ap (λ n. (image_at world n).windows) e) ∙ bare))
    ∙ ok.listed old q (live-standing world old q stands) stands)

module _ (world : World) (i old : ℕ) (r : Rect) (corner : Point) (raw : ℕ) (keep : Bool) (ok : IsForest world) (free : world i ≡ None) (some : IsSome (parent_of world old)) where
  abbrev q : ℕ
  q = (parented (parent_of world old) some).0

  stands : parent_of world old ≡ Some q
  stands = (parented (parent_of world old) some).1

  live : IsLive world q
  live = ok.parents old q (live-standing world old q stands) stands

  abbrev first : Window
  first = record { image = i; place = carried_rect r r.min corner }

  abbrev far : Rect
  far = carried_rect (image_at world old).r (image_at world old).r.min outside

  abbrev pixel : Point → ℕ
  pixel p = if keep then view world old (carried p r.min (image_at world old).r.min) else raw

  -- ---- directly below the other

  abbrev window : Image
  window = record {
    r = r;
    clipr = r;
    repl = false;
    chan = (image_at world old).chan;
    standing = (image_at world old).standing;
    depth = (image_at world old).depth;
    canvas = seen r [] pixel;
    windows = [];
  }

  abbrev others : List Window
  others = (image_at (with_image world i (Some window)) q).windows

  -- one directly above it, which replaces it
  abbrev above : List Window
  above = put_above first old others

  abbrev below : List Window
  below = put_below first old others

  abbrev over : World
  over = come world i old q q window above far ok free stands live

  new_stands : parent_of (with_image world i (Some window)) old ≡ Some q
  new_stands =
      ap (λ (o : Option Image). option_map (λ s. s.parent) (unwrap_or o no_image).standing) (with_image-free world i old (Some window) free (live-standing world old q stands)) ∙ stands

  over_left : after_replace world i old r corner raw keep ≡ left world i old q q window above far ok free stands live
  unfolding after_replace
  over_left =
      ap (λ (w : World). after_list w old (moved old far)) (listed_at (with_image world i (Some window)) old q (put_above first old) new_stands)
      ∙ listed_at over old q (moved old far) (come_stands world i old q q window above far ok free stands live)

  covered : (z : Point) → is_bare below z ≡ is_bare above z
  covered z = sym (bare-put_below first old others z)

  under_come : after_put_under world i old r corner raw keep ≡ with_windows over q below
  unfolding after_put_under
  under_come =
      listed_at (with_image world i (Some window)) old q (put_below first old) new_stands
      ∙ sym (relisted (with_image world i (Some window)) q above below (CoversMore-same above below covered))

  pub under_same : after_put_under world i old r corner raw keep i ≡ after_replace world i old r corner raw keep i
  under_same =
      ap (λ (w : World). w i) under_come
      ∙ with_windows-other over q below i (apart world i old q q window above far ok free stands live)
      ∙ sym (same_image world i old q q window above far ok free stands live)
      ∙ ap (λ (w : World). w i) (sym over_left)

  at_over : (image_at over q).windows ≡ above
  at_over = windows-with_windows (with_image world i (Some window)) q above

  rest : without old below ≡ without old (image_at over q).windows
  rest = without-put_below first old others ∙ ap (without old) (sym at_over)

  leaves : (z : Point) → holds (image_at over q).r z ≡ true → is_bare (without old (image_at over q).windows) z ≡ true → is_bare (image_at over q).windows z ≡ true → is_bare below z ≡ true
  leaves z inside bare was = covered z ∙ ap (λ (vs : List Window). is_bare vs z) (sym at_over) ∙ was

  pub under_goes : (p : ℕ) → LeavesUnseen world old p → after_release (after_put_under world i old r corner raw keep) old ≡ after_release (after_replace world i old r corner raw keep) old
  under_goes p is =
      let away = fill_away world old q ok stands is.bare in
      ap (λ (w : World). after_release w old) under_come
      ∙ elsewhere world i old q q window above far ok free stands live is.bare away below rest leaves
      ∙ in_place world i old q q window above far ok free stands live is.bare away (off_of world old q stands is.off)
      ∙ ap (λ (w : World). after_release w old) (sym over_left)

  pub under_goes_drawn : (p : ℕ) (area : Point → Bool) (new : Point → ℕ) → LeavesUnseen world old p → after_release (with_canvas (after_put_under world i old r corner raw keep) i area new) old ≡ after_release (with_canvas (after_replace world i old r corner raw keep) i area new) old
  under_goes_drawn p area new is =
      let away = fill_away world old q ok stands is.bare in
      ap (λ (w : World). after_release (with_canvas w i area new) old) under_come
      ∙ elsewhere_drawn world i old q q window above far ok free stands live is.bare away below rest leaves area new
      ∙ in_place_drawn world i old q q window above far ok free stands live is.bare away (off_of world old q stands is.off) area new
      ∙ ap (λ (w : World). after_release (with_canvas w i area new) old) (sym over_left)

  -- ---- topmost on another image

  module _ (p fill : ℕ) (target : IsLive world p) where
    abbrev upper : Image
    upper = record {
      r = r;
      clipr = r;
      repl = false;
      chan = (image_at world p).chan;
      standing = Some (record { parent = p; fill = fill });
      depth = (image_at world p).depth + 1;
      canvas = seen r [] pixel;
      windows = [];
    }

    abbrev topmost : List Window
    topmost = first ∷ (image_at world p).windows

    on_come : after_put_on world i old p fill r corner raw keep ≡ come world i old q p upper topmost far ok free stands target
    unfolding after_put_on
    on_come = refl

    on_left : after_replace_on world i old p fill r corner raw keep ≡ left world i old q p upper topmost far ok free stands target
    unfolding after_replace_on
    on_left = listed_at (come world i old q p upper topmost far ok free stands target) old q (moved old far) (come_stands world i old q p upper topmost far ok free stands target)

    pub on_same : after_put_on world i old p fill r corner raw keep i ≡ after_replace_on world i old p fill r corner raw keep i
    on_same = ap (λ (w : World). w i) on_come ∙ sym (same_image world i old q p upper topmost far ok free stands target) ∙ ap (λ (w : World). w i) (sym on_left)

    pub on_goes : LeavesUnseen world old p → after_release (after_put_on world i old p fill r corner raw keep) old ≡ after_release (after_replace_on world i old p fill r corner raw keep) old
    on_goes is =
        ap (λ (w : World). after_release w old) on_come
        ∙ in_place world i old q p upper topmost far ok free stands target is.bare is.apart (off_of world old q stands is.off)
        ∙ ap (λ (w : World). after_release w old) (sym on_left)

    pub on_goes_drawn : (area : Point → Bool) (new : Point → ℕ) → LeavesUnseen world old p → after_release (with_canvas (after_put_on world i old p fill r corner raw keep) i area new) old ≡ after_release (with_canvas (after_replace_on world i old p fill r corner raw keep) i area new) old
    on_goes_drawn area new is =
        ap (λ (w : World). after_release (with_canvas w i area new) old) on_come
        ∙ in_place_drawn world i old q p upper topmost far ok free stands target is.bare is.apart (off_of world old q stands is.off) area new
        ∙ ap (λ (w : World). after_release (with_canvas w i area new) old) (sym on_left)
