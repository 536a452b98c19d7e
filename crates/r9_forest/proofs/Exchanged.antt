-- A window comes with what another shows, and the other moves far outside.
use Rattle.std.proofs.Common.{◌≡◌, ◌≢◌, ◌∙◌, ℕ, ◌+◌, ◌*◌, ◌<◌, ◌≤◌, ◌^◌, ◌+ℤ◌, ◌-ℤ◌, Bool, true, false, List, [], ◌∷◌, Option, Some, None, Result, Ok, Err, cond, find, get_or, length, refl, sym, ap, subst, arith, ⊎_elim, eq-eqb}
use Rattle.std.specs.List.{list_any}
use Rattle.std.specs.Prelude.{◌==◌, ◌||◌, is_some, All, IfOk, IfSome, IsTrue, option_map, unwrap_or, if◌then◌else◌}
use Rattle.std.specs.Option.{option_map_or}
use Rattle.std.proofs.lemmas.Bool.{cases_eq, false_from_ne_true, false≢true, ne_eqb, or_parts}
use Rattle.std.proofs.lemmas.Bool.Decides.{Decides-eqb}
use Rattle.std.proofs.lemmas.Int.{ints}
use Rattle.std.proofs.lemmas.List.Elements.{All-head, All-tail}
use Rattle.std.proofs.lemmas.Nat.{pow_pos}
use Rattle.r9_geom.specs.declared.Point.{Point}
use Rattle.r9_geom.specs.declared.Rect.{Rect}
use Rattle.r9_geom.specs.Geometry.{carried, holds, natural, IsNearBy}
use Rattle.r9_geom.proofs.GeometryLemmas.{bounds_of, holds_from}
use Rattle.model_pixel.specs.Channels as channels
use Rattle.model_forest.specs.declared.Standing.{Standing}
use Rattle.model_forest.specs.declared.Window.{Window}
use Rattle.model_forest.specs.Stack.{moved, seen, with_windows}
use Rattle.model_forest.specs.Steps.{after_list, after_replace, after_replace_on, carried_rect, outside, put_above}
use Rattle.model_exchanged.specs.exchanged.Exchanged.{after_put_on, after_put_under, put_below}
use Rattle.model_exchanged.proofs.exchanged.Below.{listed-put_below, listed-put_below_new, times-put_below, All-put_below, length-put_below}
use Rattle.model_forest.specs.View.{view}
use Rattle.model_forest.specs.World.{Image, World, image_at, no_image, no_rect, parent_of, with_image, IsForest, IsLive, IsWindowOf, SameSize}
use Rattle.model_forest.proofs.Changes.{live-standing, with_image-free}
use Rattle.model_forest.proofs.Listed.{stands_on, window_of}
use Rattle.model_forest.proofs.Sound.{is_listed, times, view-below}
use Rattle.model_forest.proofs.Steps.{replacement, IsForest-carried_over, IsForest-moved_to, IsForest-replacement}
use Rattle.model_forest.proofs.Uncovers.{seen-same}
use Rattle.model_forest.proofs.Windows.{lives-with_windows, rect-with_windows, windows-with_windows, with_windows-other, IsForest-with_windows, IsStill-with_windows}
use Rattle.model_kept.specs.Keeping.{is_top, place_among, with_kept, Place}
use Rattle.r9_plane.specs.Pixels.{number_of}
use Rattle.r9_cells.specs.Fitting.{AreOne}
use Rattle.r9_relist.proofs.relist.Front.{are_one}
use Rattle.r9_relist.specs.arrive.Arriving.{after_coming, bare_window, coming_window, IsComing, IsLeft, IsLeftOf}
use Rattle.r9_relist.proofs.arrive.Canvases.{bare_canvas}
use Rattle.r9_relist.proofs.arrive.Coming.{on_top_comes, put_above_comes}
use Rattle.r9_forest.specs.Groups.{IsMoved}
use Rattle.r9_forest.specs.declared.coming.Given.TheVariants.{Plain, Read}
use Rattle.r9_forest.specs.declared.ranking.Rank.{Rank}
use Rattle.r9_forest.specs.declared.ranking.Rank.TheVariants.{Top, Above, Below}
use Rattle.r9_forest.specs.Given.{given_at}
use Rattle.r9_forest.specs.Replaced.{moved_out, neighbour, put_in, replaced, taken_over, IsFarOff, IsLater, IsReplacing}
use Rattle.r9_forest.proofs.Beneath.{beneath_covers, beneath_stands, put_below_comes, with_windows-again}
use Rattle.r9_forest.proofs.Leftover.{hidden_top, later_left, later_left_own}

-- ---- pixels of one rectangle as those of another of its size

number_carried : (r own : Rect) (p : Point) → SameSize r own → number_of own (carried p r.min own.min) ≡ number_of r p
number_carried r own p size =
    let across : (p.x -ℤ r.min.x +ℤ own.min.x) -ℤ own.min.x ≡ p.x -ℤ r.min.x = omega (arith, ints) in
    let down : (p.y -ℤ r.min.y +ℤ own.min.y) -ℤ own.min.y ≡ p.y -ℤ r.min.y = omega (arith, ints) in
    λ j. natural (down j) * natural (sym size.width j) + natural (across j)

holds_carried : (r own : Rect) (p : Point) → SameSize r own → holds r p ≡ true → holds own (carried p r.min own.min) ≡ true
holds_carried r own p size h =
    let b = bounds_of r p h in
    holds_from own (carried p r.min own.min) (record {
      left = omega (arith, ints, b.left);
      right = omega (arith, ints, b.right, size.width);
      top = omega (arith, ints, b.top);
      bottom = omega (arith, ints, b.bottom, size.height);
    })

-- what a window comes with is what the other shows, or one raw pixel
module _ (world : World) (old : ℕ) (r : Rect) (raw : ℕ) (keep : Bool) (items : List ℕ) (given : Point → ℕ) (told : (p : Point) → given p ≡ (if keep then (if holds r p then get_or items (number_of r p) 0 else 0) else raw)) (size : keep ≡ true → SameSize r (image_at world old).r) (shown : keep ≡ true → (p : Point) → holds (image_at world old).r p ≡ true → get_or items (number_of (image_at world old).r p) 0 ≡ view world old p) where
  given_is : (p : Point) → holds r p ≡ true → given p ≡ taken_over world old r raw keep p
  given_is p h = told p ∙ by_keep keep refl
    where
      own : Rect
      own = (image_at world old).r

      by_keep : (b : Bool) → keep ≡ b → (if b then (if holds r p then get_or items (number_of r p) 0 else 0) else raw) ≡ (if b then view world old (carried p r.min own.min) else raw)
      by_keep false e = refl
      by_keep true e =
          ap (λ b. if b then get_or items (number_of r p) 0 else 0) h
          ∙ ap (λ n. get_or items n 0) (sym (number_carried r own p (size e)))
          ∙ shown e (carried p r.min own.min) (holds_carried r own p (size e) h)

  pub given_comes : (i parent fill : ℕ) (ws : List Window) → after_coming world i parent fill r given ws ≡ after_coming world i parent fill r (taken_over world old r raw keep) ws
  given_comes i parent fill ws =
      ap (λ (canvas : Point → ℕ). with_windows (with_image world i (Some (record (bare_window world parent fill r) { canvas = canvas }))) parent ws)
      (seen-same r [] (taken_over world old r raw keep) given (λ q inside bare. given_is q inside))

  pub given_fits : (chan : ℕ) → IsForest world → IsLive world old → (keep ≡ true → chan ≡ (image_at world old).chan) → raw < 2 ^ channels.depth chan → (p : Point) → given p < 2 ^ channels.depth chan
  given_fits chan ok live same fits p = subst (λ (n : ℕ). n < 2 ^ channels.depth chan) (sym (told p)) (by_keep keep refl)
    where
      by_inside : (b : Bool) → holds r p ≡ b → keep ≡ true → (if b then get_or items (number_of r p) 0 else 0) < 2 ^ channels.depth chan
      by_inside false h e = pow_pos (channels.depth chan)
      by_inside true h e =
          let own = (image_at world old).r in
          let from = carried p r.min own.min in
          let is : get_or items (number_of r p) 0 ≡ view world old from = ap (λ n. get_or items n 0) (sym (number_carried r own p (size e))) ∙ shown e from (holds_carried r own p (size e) h) in
          subst (λ (n : ℕ). n < 2 ^ channels.depth chan) (sym is) (subst (λ (c : ℕ). view world old from < 2 ^ channels.depth c) (sym (same e)) (view-below world ok old from live))

      by_keep : (b : Bool) → keep ≡ b → (if b then (if holds r p then get_or items (number_of r p) 0 else 0) else raw) < 2 ^ channels.depth chan
      by_keep false e = fits
      by_keep true e = by_inside (holds r p) refl e

-- ---- the world when the window came

pub stands_at : (world : World) (i : ℕ) (s : Standing) → (image_at world i).standing ≡ Some s → parent_of world i ≡ Some s.parent
stands_at world i s stands = ap (option_map (λ (t : Standing). t.parent)) stands

-- what was there stands as it stood, in the rectangle that it had
module _ (world : World) (i parent fill : ℕ) (r : Rect) (pixels : Point → ℕ) (ws : List Window) (free : world i ≡ None) (live : IsLive world parent) where
  abbrev fresh : Image
  fresh = coming_window world parent fill r pixels

  abbrev one : World
  one = with_image world i (Some fresh)

  abbrev two : World
  two = after_coming world i parent fill r pixels ws

  one_at : (n : ℕ) → IsLive world n → one n ≡ world n
  one_at n alive = with_image-free world i n (Some fresh) free alive

  live_one : IsLive one parent
  live_one = ap is_some (one_at parent live) ∙ live

  pub standing_still : (n : ℕ) → IsLive world n → (image_at two n).standing ≡ (image_at world n).standing
  standing_still n alive =
      ((IsStill-with_windows one parent ws live_one).same n).standing ∙ ap (λ (o : Option Image). (unwrap_or o no_image).standing) (one_at n alive)

  pub rect_still : (n : ℕ) → IsLive world n → (image_at two n).r ≡ (image_at world n).r
  rect_still n alive = rect-with_windows one parent ws n ∙ ap (λ (o : Option Image). (unwrap_or o no_image).r) (one_at n alive)

  pub live_still : (n : ℕ) → IsLive world n → IsLive two n
  live_still n alive = (IsStill-with_windows one parent ws live_one).live n ∙ ap is_some (one_at n alive) ∙ alive

  pub windows_still : (n : ℕ) → IsLive world n → n ≢ parent → (image_at two n).windows ≡ (image_at world n).windows
  windows_still n alive other =
      ap (λ (o : Option Image). (unwrap_or o no_image).windows) (with_windows-other one parent ws n other ∙ one_at n alive)

  pub windows_then : (image_at two parent).windows ≡ ws
  windows_then = windows-with_windows one parent ws

-- the channels of a window are those of the image on which it stands
pub left_chan : (world : World) (old : ℕ) (left : Standing) → IsForest world → (image_at world old).standing ≡ Some left → (image_at world old).chan ≡ (image_at world left.parent).chan
left_chan world old left ok stands =
    let found = window_of world ok old left.parent (stands_at world old left stands) in
    ap (λ n. (image_at world n).chan) (sym found.1) ∙ found.2.chan

-- directly above another it has what that has
replacement_is : (world : World) (old : ℕ) (left : Standing) (r : Rect) (raw : ℕ) (keep : Bool) → IsForest world → (image_at world old).standing ≡ Some left → replacement world old r raw keep ≡ coming_window world left.parent left.fill r (taken_over world old r raw keep)
replacement_is world old left r raw keep ok stands =
    let found = window_of world ok old left.parent (stands_at world old left stands) in
    let chan = left_chan world old left ok stands in
    let deep : (image_at world old).depth ≡ (image_at world left.parent).depth + 1 = ap (λ n. (image_at world n).depth) (sym found.1) ∙ found.2.above in
    λ j. record {
      r = r;
      clipr = r;
      repl = false;
      chan = chan j;
      standing = stands j;
      depth = deep j;
      canvas = seen r [] (taken_over world old r raw keep);
      windows = [];
    }

-- what stood in a list with a window on top stands in the one with that beneath another
listed_beneath : (w : Window) (old : ℕ) (ws : List Window) → IsTrue (is_listed ws old) → (n : ℕ) → IsTrue (is_listed (w ∷ ws) n) → IsTrue (is_listed (put_below w old ws) n)
listed_beneath w old ws there n = by_image (w.image == n) refl
  where
    by_image : (b : Bool) → (w.image == n) ≡ b → (b || is_listed ws n) ≡ true → is_listed (put_below w old ws) n ≡ true
    by_image true e some = subst (λ m. is_listed (put_below w old ws) m ≡ true) ((Decides-eqb w.image n).0 e) (listed-put_below_new w old ws there)
    by_image false e some = listed-put_below w old ws n some

at_most_once : (us ws : List Window) (n : ℕ) → times us n ≤ times ws n → times ws n ≤ 1 → times us n ≤ 1
at_most_once us ws n most once = omega (arith, most, once)

module _ (world : World) (i old : ℕ) (left standing : Standing) (rank : Rank) (r : Rect) (corner : Point) (raw : ℕ) (keep : Bool) (ok : IsForest world) (is : IsReplacing world i old left standing rank r corner raw keep) where
  abbrev when_come : World
  when_come = replaced world i old standing rank r corner raw keep

  abbrev own : Rect
  own = (image_at world old).r

  pub old_live : IsLive world old
  old_live = live-standing world old left.parent (stands_at world old left is.left_at)

  pub left_live : IsLive world left.parent
  left_live = ok.parents old left.parent old_live (stands_at world old left is.left_at)

  -- it is a world of images
  on_top_forest : IsForest (replaced world i old standing Top r corner raw keep)
  on_top_forest =
      IsForest-carried_over world i old standing.parent standing.fill r corner raw keep is.free
      (record {
        live = old_live;
        parent_live = is.parent_live;
        fill_live = is.fill_live;
        shallow = is.shallow;
        few = is.few;
        near = is.near;
        ordered = is.ordered;
        near_corner = is.near_corner;
        fits = is.fits;
        chan = is.chan;
      })
      ok

  above_forest : standing ≡ left → IsForest (replaced world i old standing (Above old) r corner raw keep)
  above_forest same =
      let p = left.parent in
      let first : Window = record { image = i; place = carried_rect r r.min corner } in
      let image = replacement_is world old left r raw keep ok is.left_at in
      let at_p : (image_at (with_image world i (Some (replacement world old r raw keep))) p).windows ≡ (image_at world p).windows =
      ap (λ (o : Option Image). (unwrap_or o no_image).windows) (with_image-free world i p (Some (replacement world old r raw keep)) is.free left_live) in
      let room : length (image_at world p).windows + 1 < 2 ^ 32 = subst (λ (s : Standing). length (image_at world s.parent).windows + 1 < 2 ^ 32) same is.few in
      let fits : raw < 2 ^ channels.depth (image_at world old).chan = subst (λ (c : ℕ). raw < 2 ^ channels.depth c) (ap (λ (s : Standing). (image_at world s.parent).chan) same ∙ sym (left_chan world old left ok is.left_at)) is.fits in
      subst (λ (s : Standing). IsForest (replaced world i old s (Above old) r corner raw keep)) (sym same)
      (subst (λ (im : Image). IsForest (with_windows (with_image world i (Some im)) p (put_above first old (image_at world p).windows))) image
      (subst (λ (us : List Window). IsForest (with_windows (with_image world i (Some (replacement world old r raw keep))) p (put_above first old us))) at_p
      (IsForest-replacement world i old p r corner raw keep is.free (stands_at world old left is.left_at) room is.near is.ordered is.near_corner fits ok)))

  below_forest : standing ≡ left → IsForest (replaced world i old standing (Below old) r corner raw keep)
  below_forest same =
      let p = standing.parent in
      let first : Window = record { image = i; place = carried_rect r r.min corner } in
      let windows = (image_at world p).windows in
      let pixels = taken_over world old r raw keep in
      let top : World = replaced world i old standing Top r corner raw keep in
      let lists : (image_at top p).windows ≡ first ∷ windows = windows_then world i p standing.fill r pixels (first ∷ windows) is.free is.parent_live in
      let live : IsLive top p = live_still world i p standing.fill r pixels (first ∷ windows) is.free is.parent_live p is.parent_live in
      let there : IsTrue (is_listed windows old) = subst (λ (s : Standing). IsTrue (is_listed (image_at world s.parent).windows old)) (sym same) (ok.listed old left.parent old_live (stands_at world old left is.left_at)) in
      let most = length-put_below first old windows in
      let few : length (put_below first old windows) < 2 ^ 32 = omega (arith, most, is.few) in
      let stand : All (IsWindowOf top p) (first ∷ windows) = subst (All (IsWindowOf top p)) lists (on_top_forest.windows p live) in
      let once : (n : ℕ) → times (put_below first old windows) n ≤ 1 =
      λ n. at_most_once (put_below first old windows) (first ∷ windows) n (times-put_below first old windows n) (subst (λ (us : List Window). times us n ≤ 1) lists (on_top_forest.once p n live)) in
      subst IsForest (with_windows-again (with_image world i (Some (coming_window world p standing.fill r pixels))) p (first ∷ windows) (put_below first old windows) (beneath_covers first old windows there))
      (IsForest-with_windows top p (put_below first old windows) live few
      (All-put_below (IsWindowOf top p) first old windows (All-head (IsWindowOf top p) first windows stand) (All-tail (IsWindowOf top p) first windows stand))
      (λ n listed. listed_beneath first old windows there n (ap (λ (us : List Window). is_listed us n) (sym lists) ∙ listed)) once on_top_forest)

  pub replaced_forest : IsForest when_come
  replaced_forest = by_rank rank refl
    where
      by_rank : (o : Rank) → rank ≡ o → IsForest (replaced world i old standing o r corner raw keep)
      by_rank Top e = on_top_forest
      by_rank (Above n) e =
          let both = is.beside n (ap neighbour e) in
          subst (λ (m : ℕ). IsForest (replaced world i old standing (Above m) r corner raw keep)) (sym both.0) (above_forest both.1)
      by_rank (Below n) e =
          let both = is.beside n (ap neighbour e) in
          subst (λ (m : ℕ). IsForest (replaced world i old standing (Below m) r corner raw keep)) (sym both.0) (below_forest both.1)

  abbrev ws : List Window
  ws = put_in rank (record { image = i; place = carried_rect r r.min corner }) (image_at world standing.parent).windows

  pub old_stands : (image_at when_come old).standing ≡ Some left
  old_stands = standing_still world i standing.parent standing.fill r (taken_over world old r raw keep) ws is.free is.parent_live old old_live ∙ is.left_at

  pub old_rect : (image_at when_come old).r ≡ own
  old_rect = rect_still world i standing.parent standing.fill r (taken_over world old r raw keep) ws is.free is.parent_live old old_live

  pub left_then : IsLive when_come left.parent
  left_then = live_still world i standing.parent standing.fill r (taken_over world old r raw keep) ws is.free is.parent_live left.parent left_live

  -- the list of the image on which the other stands
  pub list_then : (list windows : List Window) → list ≡ ws → windows ≡ (image_at world left.parent).windows → (left.parent ≡ standing.parent → (image_at when_come left.parent).windows ≡ list) × (left.parent ≢ standing.parent → (image_at when_come left.parent).windows ≡ windows)
  list_then list windows list_is windows_is = (
    λ same. ap (λ n. (image_at when_come n).windows) same ∙ windows_then world i standing.parent standing.fill r (taken_over world old r raw keep) ws is.free is.parent_live ∙ sym list_is,
    λ other. windows_still world i standing.parent standing.fill r (taken_over world old r raw keep) ws is.free is.parent_live left.parent left_live other ∙ sym windows_is,
  )

  -- and once the other moved it is one still
  pub moved_forest : IsForest (moved_out when_come left.parent old own)
  moved_forest =
      let near : IsNearBy (2 ^ 34) outside = record { left = omega (arith, ints); right = omega (arith, ints); top = omega (arith, ints); bottom = omega (arith, ints) } in
      subst (λ (s : Rect). IsForest (moved_out when_come left.parent old s)) old_rect
      (IsForest-moved_to when_come replaced_forest old left.parent outside left_then near)

-- ---- the world once the other moved

listed_at : (world : World) (i : ℕ) (s : Standing) (change : List Window → List Window) → (image_at world i).standing ≡ Some s → after_list world i change ≡ with_windows world s.parent (change (image_at world s.parent).windows)
listed_at world i s change stands =
    ap (λ (o : Option ℕ). option_map_or (λ parent. with_windows world parent (change (image_at world parent).windows)) o world) (stands_at world i s stands)

-- a window that comes in the list in which another stands, which stays
beside_world : (world : World) (i old : ℕ) (left : Standing) (rank : Rank) (r : Rect) (corner : Point) (raw : ℕ) (keep : Bool) → IsForest world → IsReplacing world i old left left rank r corner raw keep → replaced world i old left rank r corner raw keep ≡ after_list (with_image world i (Some (replacement world old r raw keep))) old (put_in rank (record { image = i; place = carried_rect r r.min corner }))
beside_world world i old left rank r corner raw keep ok is =
    let p = left.parent in
    let first : Window = record { image = i; place = carried_rect r r.min corner } in
    let image = replacement_is world old left r raw keep ok is.left_at in
    let live = old_live world i old left left rank r corner raw keep ok is in
    let below = left_live world i old left left rank r corner raw keep ok is in
    let one = with_image world i (Some (replacement world old r raw keep)) in
    let stands_one : (image_at one old).standing ≡ Some left = ap (λ (o : Option Image). (unwrap_or o no_image).standing) (with_image-free world i old (Some (replacement world old r raw keep)) is.free live) ∙ is.left_at in
    let at_p : (image_at one p).windows ≡ (image_at world p).windows = ap (λ (o : Option Image). (unwrap_or o no_image).windows) (with_image-free world i p (Some (replacement world old r raw keep)) is.free below) in
    sym
    (listed_at one old left (put_in rank first) stands_one
    ∙ ap (λ (us : List Window). with_windows one p (put_in rank first us)) at_p
    ∙ ap (λ (im : Image). with_windows (with_image world i (Some im)) p (put_in rank first (image_at world p).windows)) image)

-- directly below the other
pub put_under_world : (world : World) (i old : ℕ) (left : Standing) (r : Rect) (corner : Point) (raw : ℕ) (keep : Bool) → IsForest world → IsReplacing world i old left left (Below old) r corner raw keep → replaced world i old left (Below old) r corner raw keep ≡ after_put_under world i old r corner raw keep
unfolding after_put_under
put_under_world world i old left r corner raw keep ok is = beside_world world i old left (Below old) r corner raw keep ok is

-- and directly above it, once that moves far outside
pub replace_world : (world : World) (i old : ℕ) (left : Standing) (r : Rect) (corner : Point) (raw : ℕ) (keep : Bool) → IsForest world → IsReplacing world i old left left (Above old) r corner raw keep → moved_out (replaced world i old left (Above old) r corner raw keep) left.parent old (image_at world old).r ≡ after_replace world i old r corner raw keep
unfolding after_replace
replace_world world i old left r corner raw keep ok is =
    let change = moved old (carried_rect (image_at world old).r (image_at world old).r.min outside) in
    sym
    (ap (λ (v : World). after_list v old change) (sym (beside_world world i old left (Above old) r corner raw keep ok is))
    ∙ listed_at (replaced world i old left (Above old) r corner raw keep) old left change (old_stands world i old left left (Above old) r corner raw keep ok is))

-- the same topmost on another image
pub put_on_world : (world : World) (i old : ℕ) (left standing : Standing) (r : Rect) (corner : Point) (raw : ℕ) (keep : Bool) → IsForest world → IsReplacing world i old left standing Top r corner raw keep → replaced world i old standing Top r corner raw keep ≡ after_put_on world i old standing.parent standing.fill r corner raw keep
unfolding after_put_on
put_on_world world i old left standing r corner raw keep ok is = refl

pub replace_on_world : (world : World) (i old : ℕ) (left standing : Standing) (r : Rect) (corner : Point) (raw : ℕ) (keep : Bool) → IsForest world → IsReplacing world i old left standing Top r corner raw keep → moved_out (replaced world i old standing Top r corner raw keep) left.parent old (image_at world old).r ≡ after_replace_on world i old standing.parent standing.fill r corner raw keep
unfolding after_replace_on
replace_on_world world i old left standing r corner raw keep ok is =
    sym
    (listed_at (replaced world i old standing Top r corner raw keep) old left (moved old (carried_rect (image_at world old).r (image_at world old).r.min outside))
    (old_stands world i old left standing Top r corner raw keep ok is))

-- what follows from two facts of what a call gives
pub if_ok_both : {T E : Type 0} (P Q R : T → Type 0) (r : Result T E) → IfOk r P → IfOk r Q → ((x : T) → P x → Q x → R x) → IfOk r R
if_ok_both P Q R (Ok x) p q follows = follows x p q
if_ok_both P Q R (Err e) p q follows = tt

-- directly above another that stands there, a window that stood nowhere has its place
put_stands : (w : Window) (old : ℕ) (ws : List Window) → list_any (λ (v : Window). v.image == w.image) ws ≡ false → list_any (λ (v : Window). v.image == old) ws ≡ true → place_among (put_above w old ws) w.image ≡ w.place
put_stands w old [] alone some = absurd (false≢true some)
put_stands w old (v ∷ vs) alone some = by_image (v.image == old) (put_stands w old vs) some
  where
    parts : ((v.image == w.image) ≡ false) × (list_any (λ (u : Window). u.image == w.image) vs ≡ false)
    parts = or_parts (v.image == w.image) (list_any (λ (u : Window). u.image == w.image) vs) alone

    at : Bool → Window → List Window → Rect
    at b u us = option_map_or (λ (t : Window). t.place) (cond b (Some u) (find (λ (t : Window). t.image == w.image) us)) no_rect

    by_image : (b : Bool) → (list_any (λ (u : Window). u.image == w.image) vs ≡ false → list_any (λ (u : Window). u.image == old) vs ≡ true → place_among (put_above w old vs) w.image ≡ w.place) → (b || list_any (λ (u : Window). u.image == old) vs) ≡ true → place_among (if b then w ∷ v ∷ vs else v ∷ put_above w old vs) w.image ≡ w.place
    by_image true rest some = ap (λ b. at b w (v ∷ vs)) (eq-eqb w.image w.image refl)
    by_image false rest some = ap (λ b. at b v (put_above w old vs)) parts.0 ∙ rest parts.1 some

-- what a window comes with, read or plain
pub given_keeps : (keep : Bool) (raw : ℕ) (r : Rect) (room : List ℕ) (p : Point) → given_at (if keep then Read else Plain raw) r room p ≡ (if keep then (if holds r p then get_or room (number_of r p) 0 else 0) else raw)
given_keeps true raw r room p = refl
given_keeps false raw r room p = refl

pub if_some_more : {T : Type 0} (o : Option T) (P Q : T → Type 0) → ((x : T) → P x → Q x) → IfSome o P → IfSome o Q
if_some_more None P Q more h = tt
if_some_more (Some x) P Q more h = more x h

-- ---- over lists and kept pixels

module _ (shape : World) (kept : Place → ℕ) (w : Window) (old : ℕ) (left standing : Standing) (rank : Rank) (r : Rect) (corner : Point) (raw : ℕ) (keep : Bool) (ok : IsForest (with_kept shape kept)) (is : IsReplacing (with_kept shape kept) w.image old left standing rank r corner raw keep) (placed : w.place ≡ carried_rect r r.min corner) (list : List Window) (listed : list ≡ put_in rank w (image_at shape standing.parent).windows) where
  abbrev shown_world : World
  shown_world = with_kept shape kept

  abbrev comes_then : World
  comes_then = replaced shown_world w.image old standing rank r corner raw keep

  list_is : list ≡ put_in rank (record { image = w.image; place = carried_rect r r.min corner }) (image_at shown_world standing.parent).windows
  list_is = listed ∙ (λ j. put_in rank (record { image = w.image; place = placed j }) ((bare_canvas shape kept).windows standing.parent j))

  -- the list with the window is one in which it comes
  pub list_comes : IsComing shape standing.parent w list
  list_comes = subst (IsComing shape standing.parent w) (sym listed) (by_rank rank)
    where
      by_rank : (o : Rank) → IsComing shape standing.parent w (put_in o w (image_at shape standing.parent).windows)
      by_rank Top = on_top_comes shape standing.parent w
      by_rank (Above n) = put_above_comes shape standing.parent w n
      by_rank (Below n) = put_below_comes shape standing.parent w n

  -- the list in which the other moves
  pub later_is : (later : List Window) → IsLater shape old left.parent standing.parent list later → later ≡ moved old (carried_rect (image_at shown_world old).r (image_at shown_world old).r.min outside) (image_at comes_then left.parent).windows
  later_is later told =
      let same = bare_canvas shape kept in
      let found = list_then shown_world w.image old left standing rank r corner raw keep ok is list (image_at shape left.parent).windows list_is (same.windows left.parent) in
      told
      ∙ ap (λ (own : Rect). moved old (carried_rect own own.min outside) (if left.parent == standing.parent then list else (image_at shape left.parent).windows)) (same.r old)
      ∙ ap (moved old (carried_rect (image_at shown_world old).r (image_at shown_world old).r.min outside))
      (⊎_elim
      (λ (here : left.parent ≡ standing.parent). ap (λ b. if b then list else (image_at shape left.parent).windows) (eq-eqb left.parent standing.parent here) ∙ sym (found.0 here))
      (λ (other : left.parent ≢ standing.parent). ap (λ b. if b then list else (image_at shape left.parent).windows) (ne_eqb left.parent standing.parent other) ∙ sym (found.1 other))
      (cases_eq left.parent standing.parent))

  -- the world with what the window comes with
  pub came : (given : Point → ℕ) → after_coming shown_world w.image standing.parent standing.fill r given list ≡ after_coming shown_world w.image standing.parent standing.fill r (taken_over shown_world old r raw keep) list → after_coming shown_world w.image standing.parent standing.fill r given list ≡ comes_then
  came given same = same ∙ ap (after_coming shown_world w.image standing.parent standing.fill r (taken_over shown_world old r raw keep)) list_is

  pub came_forest : (given : Point → ℕ) → after_coming shown_world w.image standing.parent standing.fill r given list ≡ comes_then → IsForest (after_coming shown_world w.image standing.parent standing.fill r given list)
  came_forest given same = subst IsForest (sym same) (replaced_forest shown_world w.image old left standing rank r corner raw keep ok is)

  -- and once the other moved
  pub left_forest : (world : World) (later : List Window) → world ≡ comes_then → IsLater shape old left.parent standing.parent list later → IsForest (with_windows world left.parent later)
  left_forest world later same told =
      subst IsForest (sym (λ j. with_windows (same j) left.parent (later_is later told j))) (moved_forest shown_world w.image old left standing rank r corner raw keep ok is)

  pub left_world : (world : World) (later : List Window) → world ≡ comes_then → IsLater shape old left.parent standing.parent list later → with_windows world left.parent later ≡ moved_out comes_then left.parent old (image_at shown_world old).r
  left_world world later same told = λ j. with_windows (same j) left.parent (later_is later told j)

  pub left_moved : (world : World) (later : List Window) → world ≡ comes_then → IsLater shape old left.parent standing.parent list later → IsMoved world left.parent old later
  left_moved world later same told = (
    carried_rect (image_at shown_world old).r (image_at shown_world old).r.min outside,
    later_is later told ∙ ap (λ (v : World). moved old (carried_rect (image_at shown_world old).r (image_at shown_world old).r.min outside) (image_at v left.parent).windows) (sym same),
  )

  -- the window stands where it is said to in the list
  pub first_stands : place_among list w.image ≡ w.place
  first_stands = ap (λ (ws : List Window). place_among ws w.image) listed ∙ by_rank rank refl
    where
      windows : (p : ℕ) → List Window
      windows p = (image_at shape p).windows

      fresh : list_any (λ (v : Window). v.image == w.image) (windows standing.parent) ≡ false
      fresh =
          false_from_ne_true (list_any (λ (v : Window). v.image == w.image) (windows standing.parent))
          (λ here.
          let stands : parent_of shown_world w.image ≡ Some standing.parent = stands_on shown_world ok standing.parent w.image is.parent_live (sym (ap (list_any (λ (v : Window). v.image == w.image)) ((bare_canvas shape kept).windows standing.parent)) ∙ here) in
          let none : parent_of shown_world w.image ≡ None = ap (λ (o : Option Image). option_map (λ (t : Standing). t.parent) (unwrap_or o no_image).standing) is.free in
          let clash : None ≡ Some standing.parent = sym none ∙ stands in
          absurd (cc))

      there : (n : ℕ) → neighbour rank ≡ Some n → list_any (λ (v : Window). v.image == n) (windows standing.parent) ≡ true
      there n e =
          let both = is.beside n e in
          let stands : list_any (λ (v : Window). v.image == old) (image_at shown_world left.parent).windows ≡ true =
          ok.listed old left.parent (old_live shown_world w.image old left standing rank r corner raw keep ok is) (stands_at shown_world old left is.left_at) in
          (λ j. list_any (λ (v : Window). v.image == both.0 j) ((bare_canvas shape kept).windows (both.1 j).parent j)) ∙ stands

      by_rank : (o : Rank) → rank ≡ o → place_among (put_in o w (windows standing.parent)) w.image ≡ w.place
      by_rank Top e = ap (λ b. option_map_or (λ (v : Window). v.place) (cond b (Some w) (find (λ (v : Window). v.image == w.image) (windows standing.parent))) no_rect) (eq-eqb w.image w.image refl)
      by_rank (Above n) e = put_stands w n (windows standing.parent) fresh (there n (ap neighbour e))
      by_rank (Below n) e = beneath_stands w n (windows standing.parent) fresh (there n (ap neighbour e))

  -- each image has one window in the later list
  pub left_ones : (world : World) (later : List Window) → world ≡ comes_then → IsLater shape old left.parent standing.parent list later → AreOne later
  left_ones world later same told =
      let below : IsLive world left.parent = subst (λ (v : World). IsLive v left.parent) (sym same) (left_then shown_world w.image old left standing rank r corner raw keep ok is) in
      are_one later
      (λ n.
      subst (λ (ws : List Window). times ws n ≤ 1) (windows-with_windows world left.parent later)
      ((left_forest world later same told).once left.parent n (lives-with_windows world left.parent later left.parent below ∙ below)))

  -- what it hides was hidden, or is by the list with the window, or lies where the other moves
  pub left_cells : (later : List Window) → IsForest shape → IsLater shape old left.parent standing.parent list later → IsLeft shape standing.parent list left.parent later (place_among later old ∷ [])
  left_cells later lists told =
      let same = bare_canvas shape kept in
      let own = (image_at shape old).r in
      let alive : IsLive shape old = same.live old ∙ old_live shown_world w.image old left standing rank r corner raw keep ok is in
      let below : IsLive shape left.parent = same.live left.parent ∙ left_live shown_world w.image old left standing rank r corner raw keep ok is in
      later_left shape standing.parent left.parent old list later (carried_rect own own.min outside) lists below
      (record { width = omega (arith, ints); height = omega (arith, ints) }) (lists.images old alive).ordered told

  pub left_own : (later : List Window) → IsForest shape → IsLater shape old left.parent standing.parent list later → IsLeftOf shape standing.parent list left.parent later (place_among later old ∷ []) w.image r
  left_own later lists told =
      let same = bare_canvas shape kept in
      let own = (image_at shape old).r in
      let alive : IsLive shape old = same.live old ∙ old_live shown_world w.image old left standing rank r corner raw keep ok is in
      let below : IsLive shape left.parent = same.live left.parent ∙ left_live shown_world w.image old left standing rank r corner raw keep ok is in
      let free : is_some (shape w.image) ≡ false = same.live w.image ∙ ap is_some is.free in
      later_left_own shape standing.parent left.parent old list later (carried_rect own own.min outside) lists below
      (record { width = omega (arith, ints); height = omega (arith, ints) }) (lists.images old alive).ordered told w.image r free
      (λ e. false≢true (sym free ∙ ap (λ n. is_some (shape n)) e ∙ alive))

  -- and where that has no points, nothing of it shows
  pub left_hidden : (world : World) (later : List Window) → world ≡ comes_then → IsLater shape old left.parent standing.parent list later → IsFarOff shape old left.parent → (z : Point) → holds (image_at world left.parent).r z ≡ true → is_top later old z ≡ false
  left_hidden world later same told off z inside =
      let own = (image_at shape old).r in
      let below = (image_at shape left.parent).r in
      let rect : below ≡ (image_at world left.parent).r =
      (bare_canvas shape kept).r left.parent
      ∙ sym (rect_still shown_world w.image standing.parent standing.fill r (taken_over shown_world old r raw keep) (put_in rank (record { image = w.image; place = carried_rect r r.min corner }) (image_at shown_world standing.parent).windows) is.free is.parent_live left.parent (left_live shown_world w.image old left standing rank r corner raw keep ok is))
      ∙ ap (λ (v : World). (image_at v left.parent).r) (sym same) in
      hidden_top old (carried_rect own own.min outside) below (if left.parent == standing.parent then list else (image_at shape left.parent).windows) later told off z (ap (λ (s : Rect). holds s z) rect ∙ inside)
