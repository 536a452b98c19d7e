-- Images that stand on others, each once in the list of the other and one level above it, and that each change of images keeps them so.
use Rattle.std.proofs.Common.{◌≡◌, ◌≤◌, ◌+◌, ℕ, Bool, true, false, List, [], ◌∷◌, Option, Some, None, refl, sym, ap, subst, ◌∙◌, arith}
use Rattle.std.specs.Prelude.{◌==◌, option_map, unwrap_or}
use Rattle.std.specs.List.{fold}
use Rattle.std.specs.Option.{option_map_or}
use Rattle.std.proofs.lemmas.Bool.{eqb-true, false_from_ne_true}
use Rattle.r9_geom.specs.declared.Point.{Point}
use Rattle.r9_geom.specs.declared.Rect.{Rect}
use Rattle.model_forest.specs.declared.Standing.{Standing}
use Rattle.model_forest.specs.declared.Window.{Window}
use Rattle.model_forest.specs.World.{Image, World, image_at, no_image, parent_of, with_image}
use Rattle.model_forest.specs.Draw.{Drawing, after_draw, after_fill, after_load, with_canvas}
use Rattle.model_forest.specs.Stack.{after_lower, after_raise, after_restack, lowered, moved, raised, with_windows}
use Rattle.model_forest.specs.Steps.{after_list, after_origin, after_set, carried_rect, shifted_image}
use Rattle.model_forest.proofs.Listed.{listed-lowered, listed-moved, listed-placed, listed-raised, times-lowered, times-moved, times-placed, times-raised}
use Rattle.model_forest.proofs.Releasing.{changed-at, changed-other}
use Rattle.model_forest.proofs.Sound.{is_listed, times}

-- the number of the image that one stands on
abbrev pub ground_of : Image → Option ℕ
ground_of x = option_map (λ (s : Standing). s.parent) x.standing

-- how deep an image stands, and its channels
abbrev pub kind_of : Image → ℕ × ℕ
kind_of x = (x.depth, x.chan)

-- those of what stands on one of these
abbrev pub one_above : ℕ × ℕ → ℕ × ℕ
one_above kind = (kind.0 + 1, kind.1)

pub record AreGrown (images : World) : Type 0 where
  pub above : (i p : ℕ) → parent_of images i ≡ Some p → kind_of (image_at images i) ≡ one_above (kind_of (image_at images p))
  pub listed : (i p : ℕ) → parent_of images i ≡ Some p → is_listed (image_at images p).windows i ≡ true
  pub once : (p i : ℕ) → times (image_at images p).windows i ≤ 1

-- ---- images that stay

-- the image stands where it stood, of its kind, and all that its list had is there
pub record Keeps (old new : Image) : Type 0 where
  pub ground : ground_of new ≡ ground_of old
  pub kind : kind_of new ≡ kind_of old
  pub listed : (m : ℕ) → is_listed old.windows m ≡ true → is_listed new.windows m ≡ true

-- and no more often than it was
pub record KeepsOnce (old new : Image) : Type 0 where
  pub all : Keeps old new
  pub times : (m : ℕ) → times new.windows m ≤ times old.windows m

abbrev pub AllKeep : World → World → Type 0
AllKeep old new = (i : ℕ) → KeepsOnce (image_at old i) (image_at new i)

at_most : (n m : ℕ) → n ≡ m → n ≤ m
at_most n m same = omega (arith, same)

keeps_itself : (x : Image) → Keeps x x
keeps_itself x = record { ground = refl; kind = refl; listed = λ m is. is }

once_itself : (x : Image) → KeepsOnce x x
once_itself x = record { all = keeps_itself x; times = λ m. at_most _ _ refl }

all_itself : (w : World) → AllKeep w w
all_itself w i = once_itself (image_at w i)

pub grown_still : (old new : World) → AllKeep old new → AreGrown old → AreGrown new
grown_still old new keep grown = record {
  above = λ i p stands. (keep i).all.kind ∙ grown.above i p (sym (keep i).all.ground ∙ stands) ∙ ap one_above (sym (keep p).all.kind);
  listed = λ i p stands. (keep p).all.listed i (grown.listed i p (sym (keep i).all.ground ∙ stands));
  once = λ p i. (let more = (keep p).times i in let one = grown.once p i in omega (arith, more, one));
}

-- the image of a number, and of another
pub at_number : (w : World) (n : ℕ) (slot : Option Image) → image_at (with_image w n slot) n ≡ unwrap_or slot no_image
at_number w n slot = ap (λ (o : Option Image). unwrap_or o no_image) (changed-at w n slot)

pub at_other : (w : World) (n i : ℕ) (slot : Option Image) → (i == n) ≡ false → image_at (with_image w n slot) i ≡ image_at w i
at_other w n i slot other = ap (λ (o : Option Image). unwrap_or o no_image) (changed-other w n i slot other)

-- what is so of a new image, and of the others as they were, is so of each
pub put_each : (w : World) (n : ℕ) (slot : Option Image) (P : ℕ → Image → Type 0) → P n (unwrap_or slot no_image) → ((i : ℕ) → (i == n) ≡ false → P i (image_at w i)) → (i : ℕ) → P i (image_at (with_image w n slot) i)
put_each w n slot P one others i = by (i == n) refl
  where
    here : P n (image_at (with_image w n slot) n)
    here = subst (λ (x : Image). P n x) (sym (at_number w n slot)) one

    by : (b : Bool) → (i == n) ≡ b → P i (image_at (with_image w n slot) i)
    by true is = subst (λ (k : ℕ). P k (image_at (with_image w n slot) k)) (sym (eqb-true i n is)) here
    by false is = subst (λ (x : Image). P i x) (sym (at_other w n i slot is)) (others i is)

put_keeps : (w v : World) (n : ℕ) (x : Image) → AllKeep w v → KeepsOnce (image_at w n) x → AllKeep w (with_image v n (Some x))
put_keeps w v n x keep one = put_each v n (Some x) (λ i y. KeepsOnce (image_at w i) y) one (λ i other. keep i)

-- the list of one changes, in its order or its places
windows_keep : (w v : World) (p : ℕ) (ws : List Window) → AllKeep w v → ((m : ℕ) → is_listed (image_at v p).windows m ≡ true → is_listed ws m ≡ true) → ((m : ℕ) → times ws m ≤ times (image_at v p).windows m)
    → AllKeep w (with_windows v p ws)
windows_keep w v p ws keep listed fewer =
    put_keeps w v p _ keep
    (record {
      all = record { ground = (keep p).all.ground; kind = (keep p).all.kind; listed = λ m is. listed m ((keep p).all.listed m is) };
      times = λ m. (let less = fewer m in let before = (keep p).times m in omega (arith, less, before));
    })

-- a change of lists that leaves to each what it has
record LeavesLists (change : List Window → List Window) : Type 0 where
  listed : (ws : List Window) (m : ℕ) → is_listed (change ws) m ≡ is_listed ws m
  times : (ws : List Window) (m : ℕ) → times (change ws) m ≡ times ws m

changed_keep : (w : World) (p : ℕ) (change : List Window → List Window) → LeavesLists change → AllKeep w (with_windows w p (change (image_at w p).windows))
changed_keep w p change leaves =
    let ws = (image_at w p).windows in
    windows_keep w w p (change ws) (all_itself w) (λ m is. leaves.listed ws m ∙ is) (λ m. at_most _ _ (leaves.times ws m))

list_keeps : (w : World) (i : ℕ) (change : List Window → List Window) → LeavesLists change → AllKeep w (after_list w i change)
list_keeps w i change leaves = by (parent_of w i)
  where
    by : (o : Option ℕ) → AllKeep w (option_map_or (λ p. with_windows w p (change (image_at w p).windows)) o w)
    by None = all_itself w
    by (Some p) = changed_keep w p change leaves

restack_keeps : (order : List Window → List Window) → LeavesLists order → (w : World) (group : List ℕ) → AllKeep w (after_restack order w group)
restack_keeps order leaves w [] = all_itself w
restack_keeps order leaves w (i ∷ rest) = changed_keep w (unwrap_or (parent_of w i) 0) order leaves

-- an image with its list
pub image_grown : (w : World) (n : ℕ) (x : Image) → ground_of x ≡ parent_of w n → kind_of x ≡ kind_of (image_at w n) → x.windows ≡ (image_at w n).windows → AreGrown w → AreGrown (with_image w n (Some x))
image_grown w n x ground kind windows grown =
    grown_still w _
    (put_keeps w w n x (all_itself w)
    (record {
      all = record { ground = ground; kind = kind; listed = λ m is. ap (λ (ws : List Window). is_listed ws m) windows ∙ is };
      times = λ m. at_most _ _ (ap (λ (ws : List Window). times ws m) windows);
    })) grown

-- ---- drawing

pub canvas_grown : (w : World) (n : ℕ) (area : Point → Bool) (new : Point → ℕ) → AreGrown w → AreGrown (with_canvas w n area new)
canvas_grown w n area new grown = image_grown w n _ refl refl refl grown

pub draws_grown : (ds : List Drawing) (w : World) → AreGrown w → AreGrown (fold after_draw w ds)
unfolding after_draw
draws_grown [] w grown = grown
draws_grown (d ∷ ds) w grown = draws_grown ds (after_draw w d) (canvas_grown w d.dst _ _ grown)

pub load_grown : (w : World) (n : ℕ) (r : Rect) (raws : Point → ℕ) → AreGrown w → AreGrown (after_load w n r raws)
unfolding after_load
load_grown w n r raws grown = canvas_grown w n _ _ grown

pub fill_grown : (w : World) (n : ℕ) (r : Rect) (raw : ℕ) → AreGrown w → AreGrown (after_fill w n r raw)
unfolding after_fill
fill_grown w n r raw grown = canvas_grown w n _ _ grown

pub set_grown : (w : World) (n : ℕ) (repl : Bool) (clipr : Rect) → AreGrown w → AreGrown (after_set w n repl clipr)
unfolding after_set
set_grown w n repl clipr grown = image_grown w n _ refl refl refl grown

-- ---- windows that move

pub raise_grown : (w : World) (group : List ℕ) → AreGrown w → AreGrown (after_raise w group)
unfolding after_raise
raise_grown w group grown = grown_still w _ (restack_keeps (raised group) (record { listed = listed-raised group; times = times-raised group }) w group) grown

pub lower_grown : (w : World) (group : List ℕ) → AreGrown w → AreGrown (after_lower w group)
unfolding after_lower
lower_grown w group grown = grown_still w _ (restack_keeps (lowered group) (record { listed = listed-lowered group; times = times-lowered group }) w group) grown

moved_leaves : (i : ℕ) (place : Rect) → LeavesLists (moved i place)
moved_leaves i place = record { listed = listed-moved i place; times = times-moved i place }

pub moved_grown : (w : World) (i : ℕ) (place : Rect) → AreGrown w → AreGrown (after_list w i (moved i place))
moved_grown w i place grown = grown_still w _ (list_keeps w i (moved i place) (moved_leaves i place)) grown

pub origin_grown : (w : World) (i : ℕ) (min corner : Point) → AreGrown w → AreGrown (after_origin w i min corner)
unfolding after_origin
origin_grown w i min corner grown =
    let image = image_at w i in
    let place = carried_rect image.r image.r.min corner in
    let there : Window → Rect = λ v. carried_rect v.place image.r.min min in
    grown_still w _
    (put_keeps w (after_list w i (moved i place)) i (shifted_image image min) (list_keeps w i (moved i place) (moved_leaves i place))
    (record {
      all = record { ground = refl; kind = refl; listed = λ m is. listed-placed there image.windows m ∙ is };
      times = λ m. at_most _ _ (times-placed there image.windows m);
    })) grown

-- ---- an image that comes

-- nothing stands on what is not there
abbrev pub NobodyOn : World → ℕ → Type 0
NobodyOn w n = (i : ℕ) → parent_of w i ≡ Some n → ⊥

-- Image n comes, on what is said. The others stand where they stood, with all that their lists had, and no list has one twice.
record Grows (old new : World) (n : ℕ) (x : Image) : Type 0 where
  ground : parent_of new n ≡ ground_of x
  kind : kind_of (image_at new n) ≡ kind_of x
  others : (i : ℕ) → (i == n) ≡ false → Keeps (image_at old i) (image_at new i)
  once : (i m : ℕ) → times (image_at new i).windows m ≤ 1

put_grows : (w : World) (n : ℕ) (x : Image) → x.windows ≡ [] → AreGrown w → Grows w (with_image w n (Some x)) n x
put_grows w n x bare grown = record {
  ground = ap ground_of (at_number w n (Some x));
  kind = ap kind_of (at_number w n (Some x));
  others = λ i other. subst (λ (y : Image). Keeps (image_at w i) y) (sym (at_other w n i (Some x) other)) (keeps_itself (image_at w i));
  once = λ i m. put_each w n (Some x) (λ i y. times y.windows m ≤ 1) (subst (λ (ws : List Window). times ws m ≤ 1) (sym bare) (omega arith)) (λ i other. grown.once i m) i;
}

-- and into the list of what it stands on
list_grows : (w v : World) (n p : ℕ) (x : Image) (ws : List Window) → Grows w v n x → ((m : ℕ) → is_listed (image_at v p).windows m ≡ true → is_listed ws m ≡ true) → ((m : ℕ) → times ws m ≤ 1)
    → Grows w (with_windows v p ws) n x
list_grows w v n p x ws grows listed once = record {
  ground = (keep n).ground ∙ grows.ground;
  kind = (keep n).kind ∙ grows.kind;
  others = λ i other.
      let before = grows.others i other in
      record { ground = (keep i).ground ∙ before.ground; kind = (keep i).kind ∙ before.kind; listed = λ m is. (keep i).listed m (before.listed m is) };
  once = λ i m. put_each v p _ (λ i y. times y.windows m ≤ 1) (once m) (λ i other. grows.once i m) i;
}
  where
    keep : (i : ℕ) → Keeps (image_at v i) (image_at (with_windows v p ws) i)
    keep i = put_each v p _ (λ i y. Keeps (image_at v i) y) (record { ground = refl; kind = refl; listed = listed }) (λ i other. keeps_itself (image_at v i)) i

-- where it stands, it is listed
record IsListed (old new : World) (n : ℕ) (x : Image) (p : ℕ) : Type 0 where
  apart : (p == n) ≡ false
  above : kind_of x ≡ one_above (kind_of (image_at old p))
  listed : is_listed (image_at new p).windows n ≡ true

grown_more : (old new : World) (n : ℕ) (x : Image) → AreGrown old → NobodyOn old n → Grows old new n x → ((p : ℕ) → ground_of x ≡ Some p → IsListed old new n x p) → AreGrown new
grown_more old new n x grown nobody grows placed = record {
  above = λ i p stands. above i p stands (i == n) refl;
  listed = λ i p stands. listed i p stands (i == n) refl;
  once = grows.once;
}
  where
    was : (i p : ℕ) → (i == n) ≡ false → parent_of new i ≡ Some p → parent_of old i ≡ Some p
    was i p other stands = sym (grows.others i other).ground ∙ stands

    ground_other : (i p : ℕ) → parent_of old i ≡ Some p → (p == n) ≡ false
    ground_other i p stands = false_from_ne_true (p == n) (λ at. nobody i (stands ∙ ap (λ (k : ℕ). Some k) (eqb-true p n at)))

    on : (i p : ℕ) → (i == n) ≡ true → parent_of new i ≡ Some p → ground_of x ≡ Some p
    on i p is stands = sym grows.ground ∙ subst (λ (k : ℕ). parent_of new k ≡ Some p) (eqb-true i n is) stands

    above : (i p : ℕ) → parent_of new i ≡ Some p → (b : Bool) → (i == n) ≡ b → kind_of (image_at new i) ≡ one_above (kind_of (image_at new p))
    above i p stands true is =
        let at = placed p (on i p is stands) in
        ap (λ (k : ℕ). kind_of (image_at new k)) (eqb-true i n is) ∙ grows.kind ∙ at.above ∙ ap one_above (sym (grows.others p at.apart).kind)
    above i p stands false is =
        let before = was i p is stands in
        (grows.others i is).kind ∙ grown.above i p before ∙ ap one_above (sym (grows.others p (ground_other i p before)).kind)

    listed : (i p : ℕ) → parent_of new i ≡ Some p → (b : Bool) → (i == n) ≡ b → is_listed (image_at new p).windows i ≡ true
    listed i p stands true is = (let at = placed p (on i p is stands) in subst (λ (k : ℕ). is_listed (image_at new p).windows k ≡ true) (sym (eqb-true i n is)) at.listed)
    listed i p stands false is =
        let before = was i p is stands in
        (grows.others p (ground_other i p before)).listed i (grown.listed i p before)

-- one that stands nowhere
pub nowhere_grown : (w : World) (n : ℕ) (x : Image) → x.windows ≡ [] → ground_of x ≡ None → NobodyOn w n → AreGrown w → AreGrown (with_image w n (Some x))
nowhere_grown w n x bare ground nobody grown =
    grown_more w _ n x grown nobody (put_grows w n x bare grown) (λ p on. absurd (let both : ◌≡◌ {A = Option ℕ} None (Some p) = sym ground ∙ on in cc))

-- one that comes into the list of another
pub standing_grown : (w : World) (n p : ℕ) (x : Image) (ws : List Window) → x.windows ≡ [] → ground_of x ≡ Some p → (p == n) ≡ false → kind_of x ≡ one_above (kind_of (image_at w p))
    → ((m : ℕ) → is_listed (image_at w p).windows m ≡ true → is_listed ws m ≡ true) → is_listed ws n ≡ true → ((m : ℕ) → times ws m ≤ 1) → NobodyOn w n → AreGrown w
    → AreGrown (with_windows (with_image w n (Some x)) p ws)
standing_grown w n p x ws bare ground apart above kept new once nobody grown =
    grown_more w _ n x grown nobody
    (list_grows w more n p x ws (put_grows w n x bare grown) (λ m is. kept m (sym (ap (λ (y : Image). is_listed y.windows m) (at_other w n p (Some x) apart)) ∙ is)) once)
    (λ q on.
    let same : p ≡ q = one (sym ground ∙ on) in
    subst (λ (k : ℕ). IsListed w (with_windows more p ws) n x k) same (record {
      apart = apart;
      above = above;
      listed = ap (λ (y : Image). is_listed y.windows n) (at_number more p _) ∙ new;
    }))
  where
    more : World
    more = with_image w n (Some x)

    one : {q : ℕ} → ◌≡◌ {A = Option ℕ} (Some p) (Some q) → p ≡ q
    one e = cc
