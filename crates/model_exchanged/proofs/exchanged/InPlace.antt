-- A window goes from where it stands as it would from elsewhere in the list of its parent, or from far outside.
use Rattle.std.proofs.Common.{◌≡◌, ◌≢◌, ◌∙◌, ℕ, Bool, true, false, List, [], ◌∷◌, Option, Some, None, cond, refl, sym, ap, eq-eqb}
use Rattle.std.specs.Prelude.{◌&&◌, ◌==◌, not, is_none, option_map, unwrap_or, if◌then◌else◌}
use Rattle.std.specs.Option.{option_map_or}
use Rattle.std.proofs.lemmas.Bool.{eqb-true, false_from_ne_true, false≢true}
use Rattle.r9_geom.specs.declared.Point.{Point}
use Rattle.r9_geom.specs.declared.Rect.{Rect}
use Rattle.r9_geom.specs.Geometry.{holds, reduced}
use Rattle.model_pixel.specs.Channels.{expand, pack}
use Rattle.model_forest.specs.declared.Window.{Window}
use Rattle.model_forest.specs.Draw.{reaches, with_canvas}
use Rattle.model_forest.specs.Stack.{filled, moved, seen, uncovered, with_windows, without}
use Rattle.model_forest.specs.Steps.{after_release}
use Rattle.model_forest.specs.View.{at, inward, is_bare, top_window, view, view_within}
use Rattle.model_forest.specs.World.{Image, World, deepest, fill_of, image_at, no_image, parent_of, with_image}
use Rattle.model_forest.proofs.Changes.{World-same, with_image-at, with_image-other}
use Rattle.model_forest.proofs.Uncovers.{bare-none, covered-some, seen-same, Uncovers-without}
use Rattle.model_forest.proofs.Views.{option_map_or-same}
use Rattle.model_forest.proofs.Windows.{with_windows-other}

-- the others stay as they are where a window moves
pub without-moved : (i : ℕ) (place : Rect) (ws : List Window) → without i (moved i place ws) ≡ without i ws
without-moved i place [] = refl
without-moved i place (w ∷ ws) = by_image (w.image == i) refl (without-moved i place ws)
  where
    there : Window
    there = record { image = i; place = place }

    taken : Bool → Window → List Window → List Window
    taken b v vs = cond (not b) (v ∷ without i vs) (without i vs)

    by_image : (b : Bool) → (w.image == i) ≡ b → without i (moved i place ws) ≡ without i ws → taken ((if b then there else w).image == i) (if b then there else w) (moved i place ws) ≡ taken (w.image == i) w ws
    by_image true e rest = ap (λ b. taken b there (moved i place ws)) (eq-eqb i i refl) ∙ rest ∙ sym (ap (λ b. taken b w ws) e)
    by_image false e rest = ap (λ b. taken b w (moved i place ws)) e ∙ ap (λ (vs : List Window). w ∷ vs) rest ∙ sym (ap (λ b. taken b w ws) e)

-- and a point that they leave is bare, where the window moved elsewhere
pub bare-moved : (i : ℕ) (place : Rect) (z : Point) (ws : List Window) → holds place z ≡ false → is_bare (without i ws) z ≡ true → is_bare (moved i place ws) z ≡ true
bare-moved i place z [] off bare = refl
bare-moved i place z (w ∷ ws) off bare = by_image (w.image == i) (bare-moved i place z ws off) bare
  where
    there : Window
    there = record { image = i; place = place }

    by_place : (b : Bool) → (is_bare (without i ws) z ≡ true → is_bare (moved i place ws) z ≡ true) → is_none (cond b (Some w) (top_window (without i ws) z)) ≡ true → is_none (cond b (Some w) (top_window (moved i place ws) z)) ≡ true
    by_place true rest bare = bare
    by_place false rest bare = rest bare

    by_image : (b : Bool) → (is_bare (without i ws) z ≡ true → is_bare (moved i place ws) z ≡ true) → is_bare (cond (not b) (w ∷ without i ws) (without i ws)) z ≡ true → is_bare ((if b then there else w) ∷ moved i place ws) z ≡ true
    by_image true rest bare = ap (λ h. is_none (cond h (Some there) (top_window (moved i place ws) z))) off ∙ rest bare
    by_image false rest bare = by_place (holds w.place z) rest bare

-- an image on which nothing stands shows its canvas
view-bare : (world : World) (n : ℕ) (p : Point) → (image_at world n).windows ≡ [] → view world n p ≡ (image_at world n).canvas p
unfolding view
view-bare world n p bare =
    ap (λ (ws : List Window). option_map_or (λ w. view_within deepest world w.image (inward world w p)) (top_window ws p) ((image_at world n).canvas p)) bare

-- and so what it fills with
abbrev fills_with : ℕ → Point → Image → ℕ
fills_with chan z image = if reaches image z then pack chan (expand image.chan (image.canvas (if image.repl then reduced image.r z else z))) else 0

-- what the fill of an image gives
abbrev filled_by : World → ℕ → Point → ℕ → ℕ
filled_by world chan z n =
    if reaches (image_at world (fill_of world n)) z then pack chan (expand (image_at world (fill_of world n)).chan (at world (fill_of world n) z)) else 0

filled-bare : (world : World) (chan : ℕ) (z : Point) (n : ℕ) → (image_at world (fill_of world n)).windows ≡ [] → filled_by world chan z n ≡ fills_with chan z (image_at world (fill_of world n))
filled-bare world chan z n bare =
    let fill = image_at world (fill_of world n) in
    ap (λ raw. if reaches fill z then pack chan (expand fill.chan raw) else 0) (view-bare world (fill_of world n) (if fill.repl then reduced fill.r z else z) bare)

released : (world : World) (old q : ℕ) → parent_of world old ≡ Some q → after_release world old ≡ with_image (with_windows world q (without old (image_at world q).windows)) old None
unfolding after_release
released world old q stands = ap (λ (o : Option ℕ). with_image (option_map_or (λ p. with_windows world p (without old (image_at world p).windows)) o world) old None) stands

-- the parent's list is another, with the same others, which leaves bare what was bare where they leave it
module _ (world : World) (q old i : ℕ) (us : List Window) (area : Point → Bool) (new : Point → ℕ) (stands : parent_of world old ≡ Some q) (above : old ≢ q) (apart : i ≢ q) (other : i ≢ old) (bare : (image_at world (fill_of world old)).windows ≡ []) (fills : fill_of world old ≢ i) (rest : without old us ≡ without old (image_at world q).windows) (leaves : (z : Point) → holds (image_at world q).r z ≡ true → is_bare (without old (image_at world q).windows) z ≡ true → is_bare (image_at world q).windows z ≡ true → is_bare us z ≡ true) where
  abbrev pub changed : World
  changed = with_windows world q us

  abbrev pub drawn : World → World
  drawn w = with_canvas w i area new

  drawn-other : (w : World) (n : ℕ) → n ≢ i → drawn w n ≡ w n
  drawn-other w n away = with_image-other w i n _ away

  others : (n : ℕ) → n ≢ q → changed n ≡ world n
  others n away = with_windows-other world q us n away

  -- what was drawn is the same in both
  drawn-same : (n : ℕ) → n ≢ q → drawn changed n ≡ drawn world n
  drawn-same n away = λ j.
      let image : Image = unwrap_or (others i apart j) no_image in
      if n == i then Some (record image { canvas = λ p. if area p && is_bare image.windows p then new p else image.canvas p }) else others n away j

  q_apart : q ≢ i
  q_apart e = apart (sym e)

  old_apart : old ≢ i
  old_apart e = other (sym e)

  -- the parent with that list
  abbrev listed : Image
  listed = record (image_at world q) { windows = us; canvas = seen (image_at world q).r us (uncovered world q) }

  at_changed : image_at (drawn changed) q ≡ listed
  at_changed = ap (λ (o : Option Image). unwrap_or o no_image) (drawn-other changed q q_apart ∙ with_image-at world q (Some listed))

  at_still : image_at (drawn world) q ≡ image_at world q
  at_still = ap (λ (o : Option Image). unwrap_or o no_image) (drawn-other world q q_apart)

  -- the fill is the same once something was drawn
  fill_same : (w : World) (chan : ℕ) (z : Point) → w old ≡ world old → w (fill_of world old) ≡ world (fill_of world old) → filled_by world chan z old ≡ filled_by (drawn w) chan z old
  fill_same w chan z own there =
      let stays : fill_of (drawn w) old ≡ fill_of world old =
      ap (λ (o : Option Image). option_map_or (λ s. s.fill) (unwrap_or o no_image).standing 0) (drawn-other w old old_apart ∙ own) in
      let fill : image_at (drawn w) (fill_of (drawn w) old) ≡ image_at world (fill_of world old) =
      ap (image_at (drawn w)) stays ∙ ap (λ (o : Option Image). unwrap_or o no_image) (drawn-other w (fill_of world old) fills ∙ there) in
      filled-bare world chan z old bare
      ∙ ap (fills_with chan z) (sym fill)
      ∙ sym (filled-bare (drawn w) chan z old (ap (λ (image : Image). image.windows) fill ∙ bare))

  abbrev shown_by : World → Image → Point → ℕ
  shown_by w image z = option_map_or (λ v. filled w image.chan v z) (top_window image.windows z) (image.canvas z)

  abbrev relisted : World → Image → Image
  relisted w image = record image { windows = without old image.windows; canvas = seen image.r (without old image.windows) (shown_by w image) }

  agree : (z : Point) → holds (image_at world q).r z ≡ true → is_bare (without old (image_at world q).windows) z ≡ true → shown_by (drawn changed) listed z ≡ shown_by (drawn world) (image_at world q) z
  agree z inside left = by (is_bare us z) refl
    where
      ws : List Window
      ws = (image_at world q).windows

      chan : ℕ
      chan = (image_at world q).chan

      canvas : Point → ℕ
      canvas = seen (image_at world q).r us (uncovered world q)

      by : (b : Bool) → is_bare us z ≡ b → shown_by (drawn changed) listed z ≡ shown_by (drawn world) (image_at world q) z
      by true there =
          ap (λ (o : Option Window). option_map_or (λ v. filled (drawn changed) chan v z) o (canvas z)) (bare-none us z there)
          ∙ (λ j. if inside j && there j then uncovered world q z else 0)
          ∙ option_map_or-same (λ v. filled world chan v z) (λ v. filled (drawn world) chan v z) (top_window ws z) ((image_at world q).canvas z)
          (λ v top.
          let is : v.image ≡ old = (Uncovers-without old ws).only z v left top in
          ap (filled_by world chan z) is ∙ fill_same world chan z refl refl ∙ ap (filled_by (drawn world) chan z) (sym is))
      by false covered =
          let was : is_bare ws z ≡ false = false_from_ne_true (is_bare ws z) (λ was. false≢true (sym covered ∙ leaves z inside left was)) in
          let there = covered-some us z covered in
          let here = covered-some ws z was in
          let own : there.0.image ≡ old = (Uncovers-without old us).only z there.0 (ap (λ (vs : List Window). is_bare vs z) rest ∙ left) there.1 in
          let is : here.0.image ≡ old = (Uncovers-without old ws).only z here.0 left here.1 in
          let away : fill_of world old ≢ q = λ e. false≢true (sym was ∙ ap (λ (vs : List Window). is_bare vs z) (ap (λ n. (image_at world n).windows) (sym e) ∙ bare)) in
          ap (λ (o : Option Window). option_map_or (λ v. filled (drawn changed) chan v z) o (canvas z)) there.1
          ∙ ap (filled_by (drawn changed) chan z) own
          ∙ sym (fill_same changed chan z (others old above) (others (fill_of world old) away))
          ∙ fill_same world chan z refl refl
          ∙ ap (filled_by (drawn world) chan z) (sym is)
          ∙ sym (ap (λ (o : Option Window). option_map_or (λ v. filled (drawn world) chan v z) o ((image_at world q).canvas z)) here.1)

  -- the list without it
  relisted-same : relisted (drawn changed) listed ≡ relisted (drawn world) (image_at world q)
  relisted-same = λ j.
      record (image_at world q) {
        windows = rest j;
        canvas =
            (ap (λ (vs : List Window). seen (image_at world q).r vs (shown_by (drawn changed) listed)) rest
            ∙ seen-same (image_at world q).r (without old (image_at world q).windows) (shown_by (drawn world) (image_at world q)) (shown_by (drawn changed) listed) agree) j;
      }

  left_same : with_windows (drawn changed) q (without old (image_at (drawn changed) q).windows) ≡ with_windows (drawn world) q (without old (image_at (drawn world) q).windows)
  left_same = World-same _ _ (λ n. by (n == q) n refl)
    where
      list : World → List Window
      list w = without old (image_at w q).windows

      at_q : with_windows (drawn changed) q (list (drawn changed)) q ≡ with_windows (drawn world) q (list (drawn world)) q
      at_q =
          with_image-at (drawn changed) q (Some (relisted (drawn changed) (image_at (drawn changed) q)))
          ∙ ap (λ (image : Image). Some (relisted (drawn changed) image)) at_changed
          ∙ ap (λ (image : Image). Some image) relisted-same
          ∙ ap (λ (image : Image). Some (relisted (drawn world) image)) (sym at_still)
          ∙ sym (with_image-at (drawn world) q (Some (relisted (drawn world) (image_at (drawn world) q))))

      elsewhere : (n : ℕ) → n ≢ q → with_windows (drawn changed) q (list (drawn changed)) n ≡ with_windows (drawn world) q (list (drawn world)) n
      elsewhere n away =
          with_windows-other (drawn changed) q (list (drawn changed)) n away ∙ drawn-same n away ∙ sym (with_windows-other (drawn world) q (list (drawn world)) n away)

      by : (b : Bool) (n : ℕ) → (n == q) ≡ b → with_windows (drawn changed) q (list (drawn changed)) n ≡ with_windows (drawn world) q (list (drawn world)) n
      by true n e =
          let is : n ≡ q = eqb-true n q e in
          ap (with_windows (drawn changed) q (list (drawn changed))) is ∙ at_q ∙ sym (ap (with_windows (drawn world) q (list (drawn world))) is)
      by false n e = elsewhere n (λ is. false≢true (sym e ∙ eq-eqb n q is))

  -- the window leaves then what it leaves where it goes from its place
  pub gone_drawn : after_release (drawn changed) old ≡ after_release (drawn world) old
  gone_drawn =
      let still : parent_of (drawn world) old ≡ Some q = ap (λ (o : Option Image). option_map (λ s. s.parent) (unwrap_or o no_image).standing) (drawn-other world old old_apart) ∙ stands in
      let out : parent_of (drawn changed) old ≡ Some q = ap (λ (o : Option Image). option_map (λ s. s.parent) (unwrap_or o no_image).standing) (drawn-same old above) ∙ still in
      released (drawn changed) old q out ∙ ap (λ (w : World). with_image w old None) left_same ∙ sym (released (drawn world) old q still)
