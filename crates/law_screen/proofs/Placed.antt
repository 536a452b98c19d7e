-- Windows that stand where they are listed and fill their places there, and that each change of images keeps them so.
use Rattle.std.proofs.Common.{◌≡◌, ℕ, Bool, true, false, List, [], ◌∷◌, Option, Some, None, eq-eqb, refl, sym, ap, subst, ◌∙◌}
use Rattle.std.specs.Prelude.{◌==◌, All, map, not, option_map, unwrap_or, if◌then◌else◌}
use Rattle.std.specs.List.{fold}
use Rattle.std.specs.Option.{option_map_or}
use Rattle.std.proofs.lemmas.Bool.{eqb-true, false_from_ne_true, true≢false}
use Rattle.std.proofs.lemmas.List.Elements.{All-cons, All-filter, All-map, All-nil, All-weaker, filter_passes}
use Rattle.r9_geom.specs.declared.Point.{Point}
use Rattle.r9_geom.specs.declared.Rect.{Rect}
use Rattle.model_forest.specs.declared.Standing.{Standing}
use Rattle.model_forest.specs.declared.Window.{Window}
use Rattle.model_forest.specs.World.{Image, SameSize, World, image_at, no_image, parent_of, with_image}
use Rattle.model_forest.specs.Draw.{Drawing, after_draw, after_fill, after_load, with_canvas}
use Rattle.model_forest.specs.Stack.{after_lower, after_raise, after_restack, after_window, lowered, moved, moved_window, new_window, raised, seen, uncovered, with_windows, without}
use Rattle.model_forest.specs.Steps.{after_image, after_list, after_origin, after_release, after_set, carried_rect, new_image, shifted_image}
use Rattle.model_forest.proofs.Placed.{SameSize-carried}
use Rattle.model_forest.proofs.Releasing.{changed-at, changed-other}
use Rattle.model_forest.proofs.Stacks.{All-lowered, All-raised}

-- the window stands on image i, at a place of its size
pub record IsPlaced (images : World) (i : ℕ) (w : Window) : Type 0 where
  pub stands : parent_of images w.image ≡ Some i
  pub size : SameSize w.place (image_at images w.image).r

-- each window stands on the image in whose list it is
abbrev pub ArePlaced : World → Type 0
ArePlaced images = (i : ℕ) → All (IsPlaced images i) (image_at images i).windows

-- ---- sizes

size_itself : (r : Rect) → SameSize r r
size_itself r = record { width = refl; height = refl }

pub size_back : (a b : Rect) → SameSize a b → SameSize b a
size_back a b same = record { width = sym same.width; height = sym same.height }

pub size_then : (a b c : Rect) → SameSize a b → SameSize b c → SameSize a c
size_then a b c one two = record { width = one.width ∙ two.width; height = one.height ∙ two.height }

-- ---- images that stay

-- the image of a number stands where it stood, and is as large as it was
pub record Remains (old new : World) (i : ℕ) : Type 0 where
  pub parent : parent_of new i ≡ parent_of old i
  pub size : SameSize (image_at new i).r (image_at old i).r

remains_same : (old new : World) (i : ℕ) → new i ≡ old i → Remains old new i
remains_same old new i is = record {
  parent = ap (λ (o : Option Image). option_map (λ (s : Standing). s.parent) (unwrap_or o no_image).standing) is;
  size = subst (λ (o : Option Image). SameSize (unwrap_or o no_image).r (image_at old i).r) (sym is) (size_itself (image_at old i).r);
}

remains_then : (a b c : World) (i : ℕ) → Remains a b i → Remains b c i → Remains a c i
remains_then a b c i one two = record { parent = two.parent ∙ one.parent; size = size_then _ _ _ two.size one.size }

placed_still : (old new : World) (i : ℕ) (w : Window) → Remains old new w.image → IsPlaced old i w → IsPlaced new i w
placed_still old new i w stays is = record {
  stands = stays.parent ∙ is.stands;
  size = size_then _ _ _ is.size (size_back _ _ stays.size);
}

-- Each image stays so, and each window in a list was placed there before.
pub record Follows (old new : World) : Type 0 where
  pub stays : (i : ℕ) → Remains old new i
  pub listed : (i : ℕ) → All (IsPlaced old i) (image_at new i).windows

pub follows_itself : (w : World) → ArePlaced w → Follows w w
follows_itself w placed = record { stays = λ i. remains_same w w i refl; listed = placed }

pub follows_placed : (old new : World) → Follows old new → ArePlaced new
follows_placed old new follows i =
    All-weaker (IsPlaced old i) (IsPlaced new i) (λ w is. placed_still old new i w (follows.stays w.image) is) (image_at new i).windows (follows.listed i)

-- one image changes
put_follows : (w v : World) (n : ℕ) (x : Image) → Follows w v → option_map (λ (s : Standing). s.parent) x.standing ≡ parent_of w n → SameSize x.r (image_at w n).r → All (IsPlaced w n) x.windows
    → Follows w (with_image v n (Some x))
put_follows w v n x follows parent size listed = record { stays = λ i. stays i (i == n) refl; listed = λ i. lists i (i == n) refl }
  where
    new : World
    new = with_image v n (Some x)

    here : Remains w new n
    here = record {
      parent = ap (λ (o : Option Image). option_map (λ (s : Standing). s.parent) (unwrap_or o no_image).standing) (changed-at v n (Some x)) ∙ parent;
      size = subst (λ (o : Option Image). SameSize (unwrap_or o no_image).r (image_at w n).r) (sym (changed-at v n (Some x))) size;
    }

    own : All (IsPlaced w n) (image_at new n).windows
    own = subst (λ (o : Option Image). All (IsPlaced w n) (unwrap_or o no_image).windows) (sym (changed-at v n (Some x))) listed

    stays : (i : ℕ) (b : Bool) → (i == n) ≡ b → Remains w new i
    stays i true is = subst (λ (k : ℕ). Remains w new k) (sym (eqb-true i n is)) here
    stays i false is = remains_then w v new i (follows.stays i) (remains_same v new i (changed-other v n i (Some x) is))

    lists : (i : ℕ) (b : Bool) → (i == n) ≡ b → All (IsPlaced w i) (image_at new i).windows
    lists i true is = subst (λ (k : ℕ). All (IsPlaced w k) (image_at new k).windows) (sym (eqb-true i n is)) own
    lists i false is = subst (λ (o : Option Image). All (IsPlaced w i) (unwrap_or o no_image).windows) (sym (changed-other v n i (Some x) is)) (follows.listed i)

windows_follow : (w v : World) (p : ℕ) (ws : List Window) → Follows w v → All (IsPlaced w p) ws → Follows w (with_windows v p ws)
windows_follow w v p ws follows listed = (let stays = follows.stays p in put_follows w v p _ follows stays.parent stays.size listed)

pub list_follows : (w v : World) (i : ℕ) (change : List Window → List Window) → Follows w v → ((p : ℕ) → parent_of v i ≡ Some p → All (IsPlaced w p) (change (image_at v p).windows)) → Follows w (after_list v i change)
list_follows w v i change follows listed = by (parent_of v i) listed
  where
    by : (o : Option ℕ) → ((p : ℕ) → o ≡ Some p → All (IsPlaced w p) (change (image_at v p).windows)) → Follows w (option_map_or (λ p. with_windows v p (change (image_at v p).windows)) o v)
    by None listed = follows
    by (Some p) listed = windows_follow w v p (change (image_at v p).windows) follows (listed p refl)

-- ---- drawing

pub canvas_placed : (w : World) (n : ℕ) (area : Point → Bool) (new : Point → ℕ) → ArePlaced w → ArePlaced (with_canvas w n area new)
canvas_placed w n area new placed = follows_placed w _ (put_follows w w n _ (follows_itself w placed) refl (size_itself (image_at w n).r) (placed n))

pub draw_placed : (w : World) (d : Drawing) → ArePlaced w → ArePlaced (after_draw w d)
unfolding after_draw
draw_placed w d placed = canvas_placed w d.dst _ _ placed

pub draws_placed : (ds : List Drawing) (w : World) → ArePlaced w → ArePlaced (fold after_draw w ds)
draws_placed [] w placed = placed
draws_placed (d ∷ ds) w placed = draws_placed ds (after_draw w d) (draw_placed w d placed)

pub load_placed : (w : World) (n : ℕ) (r : Rect) (raws : Point → ℕ) → ArePlaced w → ArePlaced (after_load w n r raws)
unfolding after_load
load_placed w n r raws placed = canvas_placed w n _ _ placed

pub fill_placed : (w : World) (n : ℕ) (r : Rect) (raw : ℕ) → ArePlaced w → ArePlaced (after_fill w n r raw)
unfolding after_fill
fill_placed w n r raw placed = canvas_placed w n _ _ placed

pub set_placed : (w : World) (n : ℕ) (repl : Bool) (clipr : Rect) → ArePlaced w → ArePlaced (after_set w n repl clipr)
unfolding after_set
set_placed w n repl clipr placed = follows_placed w _ (put_follows w w n _ (follows_itself w placed) refl (size_itself (image_at w n).r) (placed n))

-- ---- windows that move

restack_placed : (order : List Window → List Window) → ((P : Window → Type 0) (ws : List Window) → All P ws → All P (order ws)) → (w : World) (group : List ℕ) → ArePlaced w → ArePlaced (after_restack order w group)
restack_placed order same w [] placed = placed
restack_placed order same w (i ∷ rest) placed =
    let p = unwrap_or (parent_of w i) 0 in
    follows_placed w _ (windows_follow w w p (order (image_at w p).windows) (follows_itself w placed) (same (IsPlaced w p) (image_at w p).windows (placed p)))

pub raise_placed : (w : World) (group : List ℕ) → ArePlaced w → ArePlaced (after_raise w group)
unfolding after_raise
raise_placed w group placed = restack_placed (raised group) (λ P ws all. All-raised P group ws all) w group placed

pub lower_placed : (w : World) (group : List ℕ) → ArePlaced w → ArePlaced (after_lower w group)
unfolding after_lower
lower_placed w group placed = restack_placed (lowered group) (λ P ws all. All-lowered P group ws all) w group placed

-- one window of a list at another place
pub moved_placed : (w : World) (i p : ℕ) (place : Rect) (ws : List Window) → SameSize place (image_at w i).r → All (IsPlaced w p) ws → All (IsPlaced w p) (moved i place ws)
moved_placed w i p place ws size all = All-map (IsPlaced w p) (moved_window i place) ws (All-weaker (IsPlaced w p) (λ v. IsPlaced w p (moved_window i place v)) one ws all)
  where
    one : (v : Window) → IsPlaced w p v → IsPlaced w p (moved_window i place v)
    one v is = by (v.image == i) refl
      where
        by : (b : Bool) → (v.image == i) ≡ b → IsPlaced w p (if b then record { image = i; place = place } else v)
        by true at = record { stands = subst (λ (k : ℕ). parent_of w k ≡ Some p) (eqb-true v.image i at) is.stands; size = size }
        by false at = is

-- all windows of a list at places of their sizes
abbrev at_carried : Point → Point → Window → Window
at_carried from to v = record { image = v.image; place = carried_rect v.place from to }

carried_placed : (w : World) (p : ℕ) (from to : Point) (ws : List Window) → All (IsPlaced w p) ws → All (IsPlaced w p) (map (at_carried from to) ws)
carried_placed w p from to ws all =
    All-map (IsPlaced w p) (at_carried from to) ws
    (All-weaker (IsPlaced w p) (λ v. IsPlaced w p (at_carried from to v))
    (λ v is. record { stands = is.stands; size = size_then _ _ _ (SameSize-carried v.place from to) is.size }) ws all)

pub origin_placed : (w : World) (i : ℕ) (min corner : Point) → ArePlaced w → ArePlaced (after_origin w i min corner)
unfolding after_origin
origin_placed w i min corner placed =
    let image = image_at w i in
    let place = carried_rect image.r image.r.min corner in
    let listed : World = after_list w i (moved i place) in
    follows_placed w _
    (put_follows w listed i (shifted_image image min)
    (list_follows w w i (moved i place) (follows_itself w placed) (λ p stands. moved_placed w i p place (image_at w p).windows (SameSize-carried image.r image.r.min corner) (placed p)))
    refl (SameSize-carried image.r image.r.min min) (carried_placed w i image.r.min min image.windows (placed i)))

-- ---- images that come and go

-- placed, and none of image n's
abbrev pub Beside : World → (n i : ℕ) → Window → Type 0
Beside w n i v = IsPlaced w i v × ((v.image == n) ≡ false)

-- a window in a list is no image that stands nowhere
beside : (w : World) (n i : ℕ) (v : Window) → parent_of w n ≡ None → IsPlaced w i v → Beside w n i v
beside w n i v nowhere is = (is, false_from_ne_true (v.image == n) (λ at. both (sym nowhere ∙ ap (parent_of w) (sym (eqb-true v.image n at)) ∙ is.stands)))
  where
    both : ◌≡◌ {A = Option ℕ} None (Some i) → ⊥
    both e = cc

-- another image, or none, under a number that no window has
slot_placed : (w v : World) (n : ℕ) (slot : Option Image) → ((i : ℕ) → Remains w v i) → ((i : ℕ) → (i == n) ≡ false → All (Beside w n i) (image_at v i).windows) → All (Beside w n n) (unwrap_or slot no_image).windows
    → ArePlaced (with_image v n slot)
slot_placed w v n slot stays others own i =
    All-weaker (Beside w n i) (IsPlaced new i) (λ u one. placed_still w new i u (remains_then w v new u.image (stays u.image) (remains_same v new u.image (changed-other v n u.image slot one.1))) one.0)
    (image_at new i).windows (by (i == n) refl)
  where
    new : World
    new = with_image v n slot

    here : All (Beside w n n) (image_at new n).windows
    here = subst (λ (o : Option Image). All (Beside w n n) (unwrap_or o no_image).windows) (sym (changed-at v n slot)) own

    by : (b : Bool) → (i == n) ≡ b → All (Beside w n i) (image_at new i).windows
    by true is = subst (λ (k : ℕ). All (Beside w n k) (image_at new k).windows) (sym (eqb-true i n is)) here
    by false is = subst (λ (o : Option Image). All (Beside w n i) (unwrap_or o no_image).windows) (sym (changed-other v n i slot is)) (others i is)

pub all_beside : (w : World) (n i : ℕ) → parent_of w n ≡ None → ArePlaced w → All (Beside w n i) (image_at w i).windows
all_beside w n i nowhere placed = All-weaker (IsPlaced w i) (Beside w n i) (λ v is. beside w n i v nowhere is) (image_at w i).windows (placed i)

-- an image that stands nowhere changes
pub ground_placed : (w : World) (n : ℕ) (x : Image) → parent_of w n ≡ None → x.windows ≡ (image_at w n).windows → ArePlaced w → ArePlaced (with_image w n (Some x))
ground_placed w n x nowhere windows placed =
    slot_placed w w n (Some x) (λ i. remains_same w w i refl) (λ i other. all_beside w n i nowhere placed) (subst (λ (ws : List Window). All (Beside w n n) ws) (sym windows) (all_beside w n n nowhere placed))

-- there is no image
pub none_nowhere : (w : World) (n : ℕ) → w n ≡ None → parent_of w n ≡ None
none_nowhere w n free = ap (λ (o : Option Image). option_map (λ (s : Standing). s.parent) (unwrap_or o no_image).standing) free

-- one comes, with nothing on it
pub new_placed : (w : World) (n : ℕ) (x : Image) → w n ≡ None → x.windows ≡ [] → ArePlaced w → ArePlaced (with_image w n (Some x))
new_placed w n x free bare placed = ground_placed w n x (none_nowhere w n free) (bare ∙ sym (ap (λ (o : Option Image). (unwrap_or o no_image).windows) free)) placed

-- and the others are placed still
pub placed_beside : (w : World) (n : ℕ) (slot : Option Image) (i : ℕ) → w n ≡ None → ArePlaced w → All (IsPlaced (with_image w n slot) i) (image_at w i).windows
placed_beside w n slot i free placed =
    All-weaker (Beside w n i) (IsPlaced (with_image w n slot) i) (λ v one. placed_still w (with_image w n slot) i v (remains_same w (with_image w n slot) v.image (changed-other w n v.image slot one.1)) one.0)
    (image_at w i).windows (all_beside w n i (none_nowhere w n free) placed)

pub image_placed : (w : World) (n : ℕ) (r : Rect) (chan raw : ℕ) → w n ≡ None → ArePlaced w → ArePlaced (after_image w n r chan raw)
unfolding after_image
image_placed w n r chan raw free placed = new_placed w n (new_image r chan raw) free refl placed

-- a new image is placed where it stands
pub first_placed : (w : World) (n p : ℕ) (x : Image) (place : Rect) → option_map (λ (s : Standing). s.parent) x.standing ≡ Some p → SameSize place x.r → IsPlaced (with_image w n (Some x)) p (record { image = n; place = place })
first_placed w n p x place stands size = record {
  stands = ap (λ (o : Option Image). option_map (λ (s : Standing). s.parent) (unwrap_or o no_image).standing) (changed-at w n (Some x)) ∙ stands;
  size = subst (λ (o : Option Image). SameSize place (unwrap_or o no_image).r) (sym (changed-at w n (Some x))) size;
}

-- topmost on another
pub topmost_follows : (w : World) (n p : ℕ) (x : Image) (place : Rect) → w n ≡ None → x.windows ≡ [] → option_map (λ (s : Standing). s.parent) x.standing ≡ Some p → SameSize place x.r → ArePlaced w
    → Follows (with_image w n (Some x)) (with_windows (with_image w n (Some x)) p (record { image = n; place = place } ∷ (image_at w p).windows))
topmost_follows w n p x place free bare stands size placed =
    let more : World = with_image w n (Some x) in
    let first : Window = record { image = n; place = place } in
    windows_follow more more p (first ∷ (image_at w p).windows) (follows_itself more (new_placed w n x free bare placed))
    (All-cons (IsPlaced more p) first (image_at w p).windows (first_placed w n p x place stands size) (placed_beside w n (Some x) p free placed))

pub window_placed : (w : World) (n parent fill : ℕ) (r : Rect) (raw : ℕ) → w n ≡ None → ArePlaced w → ArePlaced (after_window w n parent fill r raw)
unfolding after_window
window_placed w n parent fill r raw free placed =
    follows_placed _ _ (topmost_follows w n parent (new_window w parent fill r raw) r free refl refl (size_itself r) placed)

-- an image goes, and from the list of what it stood on
pub release_placed : (w : World) (n : ℕ) → ArePlaced w → ArePlaced (after_release w n)
unfolding after_release
release_placed w n placed = slot_placed w (listed (parent_of w n)) n None (λ i. (follows (parent_of w n)).stays i) (λ i other. by (parent_of w n) refl i) (All-nil (Beside w n n))
  where
    listed : Option ℕ → World
    listed o = option_map_or (λ p. with_windows w p (without n (image_at w p).windows)) o w

    follows : (o : Option ℕ) → Follows w (listed o)
    follows None = follows_itself w placed
    follows (Some p) = windows_follow w w p (without n (image_at w p).windows) (follows_itself w placed) (All-filter (λ v. not (v.image == n)) (IsPlaced w p) (image_at w p).windows (placed p))

    fails : (b : Bool) → not b ≡ true → b ≡ false
    fails true passes = absurd cc
    fails false passes = refl

    apart : (p i : ℕ) → parent_of w n ≡ Some p → (i == p) ≡ false → (v : Window) → IsPlaced w i v → Beside w n i v
    apart p i stands other v is = (is, false_from_ne_true (v.image == n) (λ at. clash (sym stands ∙ ap (parent_of w) (sym (eqb-true v.image n at)) ∙ is.stands)))
      where
        clash : ◌≡◌ {A = Option ℕ} (Some p) (Some i) → ⊥
        clash e = let same : p ≡ i = cc in let at : (i == p) ≡ true = eq-eqb i p (sym same) in true≢false (sym at ∙ other)

    kept : (p : ℕ) → All (Beside w n p) (without n (image_at w p).windows)
    kept p k d lt =
        (All-filter (λ v. not (v.image == n)) (IsPlaced w p) (image_at w p).windows (placed p) k d lt, fails _ (filter_passes (λ (v : Window). not (v.image == n)) (image_at w p).windows k d lt))

    by : (o : Option ℕ) → parent_of w n ≡ o → (i : ℕ) → All (Beside w n i) (image_at (listed o) i).windows
    by None at i = all_beside w n i at placed
    by (Some p) at i = lists (i == p) refl
      where
        slot : Option Image
        slot = Some (record (image_at w p) { windows = without n (image_at w p).windows; canvas = seen (image_at w p).r (without n (image_at w p).windows) (uncovered w p) })

        lists : (b : Bool) → (i == p) ≡ b → All (Beside w n i) (image_at (listed (Some p)) i).windows
        lists true is =
            subst (λ (k : ℕ). All (Beside w n k) (image_at (listed (Some p)) k).windows) (sym (eqb-true i p is))
            (subst (λ (o : Option Image). All (Beside w n p) (unwrap_or o no_image).windows) (sym (changed-at w p slot)) (kept p))
        lists false is =
            subst (λ (o : Option Image). All (Beside w n i) (unwrap_or o no_image).windows) (sym (changed-other w p i slot is))
            (All-weaker (IsPlaced w i) (Beside w n i) (apart p i at is) (image_at w i).windows (placed i))
