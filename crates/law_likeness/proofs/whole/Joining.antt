-- An image that comes under a number that none had, and the others, which stand where they stood.
use Rattle.std.proofs.Common.{◌≡◌, ℕ, Bool, true, false, List, [], ◌∷◌, Option, Some, None, refl, sym, ap, subst, ◌∙◌}
use Rattle.std.specs.Prelude.{◌==◌, is_some, option_map, unwrap_or, if◌then◌else◌}
use Rattle.std.specs.Option.{option_map_or}
use Rattle.std.proofs.lemmas.Bool.{eqb-true}
use Rattle.std.proofs.lemmas.List.Elements.{All-cons, All-head, All-nil, All-tail}
use Rattle.r9_geom.specs.declared.Rect.{Rect}
use Rattle.model_forest.specs.declared.Standing.{Standing as Stood}
use Rattle.model_forest.specs.declared.Window.{Window}
use Rattle.model_forest.specs.World.{Image as ImageState, World as Images, IsLive, image_at, no_image, parent_of, with_image}
use Rattle.model_forest.specs.Stack.{after_window, new_window, with_windows}
use Rattle.model_forest.specs.Steps.{after_image, after_list, new_image, put_above}
use Rattle.model_forest.proofs.Releasing.{changed-at, changed-other, windows-frame, windows-live}
use Rattle.law_shown.proofs.shown.Tests.{turned}
use Rattle.law_likeness.proofs.whole.Resting.{AllRest, Each}

-- The image of number m is there and stands so, with nothing in its list. Of the others each lives as before, stands where it stood,
-- and has nothing more in its list but m, where m stands on it.
pub record Joins (old new : Images) (m : ℕ) (at : Option Stood) : Type 1 where
  pub live : IsLive new m
  pub standing : (image_at new m).standing ≡ at
  pub bare : (P : ℕ → Type 0) → Each P (image_at new m).windows
  pub others : (i : ℕ) → (i == m) ≡ false → is_some (new i) ≡ is_some (old i)
  pub stand : (i : ℕ) → (i == m) ≡ false → (image_at new i).standing ≡ (image_at old i).standing
  pub listed : (i : ℕ) → (i == m) ≡ false → (P : ℕ → Type 0) → (option_map (λ s. s.parent) at ≡ Some i → P m) → Each P (image_at old i).windows → Each P (image_at new i).windows

abbrev at_slot : Option ImageState → ImageState
at_slot o = unwrap_or o no_image

pub put_joins : (w : Images) (m : ℕ) (x : ImageState) → x.windows ≡ [] → Joins w (with_image w m (Some x)) m x.standing
put_joins w m x none = record {
  live = ap is_some here;
  standing = ap (λ (o : Option ImageState). (at_slot o).standing) here;
  bare = λ P.
      subst (λ (o : Option ImageState). Each P (at_slot o).windows) (sym here) (subst (λ (ws : List Window). Each P ws) (sym none) (All-nil (λ (v : Window). P v.image)));
  others = λ i other. ap is_some (there i other);
  stand = λ i other. ap (λ (o : Option ImageState). (at_slot o).standing) (there i other);
  listed = λ i other P on all. subst (λ (o : Option ImageState). Each P (at_slot o).windows) (sym (there i other)) all;
}
  where
    here : with_image w m (Some x) m ≡ Some x
    here = changed-at w m (Some x)

    there : (i : ℕ) → (i == m) ≡ false → with_image w m (Some x) i ≡ w i
    there i other = changed-other w m i (Some x) other

pub joins_then : (a b c : Images) (m : ℕ) (at : Option Stood) → Joins a b m at → AllRest b c → Joins a c m at
joins_then a b c m at joins rest = record {
  live = (rest m).live ∙ joins.live;
  standing = (rest m).standing ∙ joins.standing;
  bare = λ P. (rest m).listed P (joins.bare P);
  others = λ i other. (rest i).live ∙ joins.others i other;
  stand = λ i other. (rest i).standing ∙ joins.stand i other;
  listed = λ i other P on all. (rest i).listed P (joins.listed i other P on all);
}

-- it comes into the list of what it stands on
pub listed_joins : (w v : Images) (m p : ℕ) (at : Option Stood) (ws : List Window) → Joins w v m at → option_map (λ s. s.parent) at ≡ Some p → (p == m) ≡ false → IsLive w p
    → ((P : ℕ → Type 0) → P m → Each P (image_at w p).windows → Each P ws) → Joins w (with_windows v p ws) m at
listed_joins w v m p at ws joins on apart live listed = record {
  live = alive m ∙ joins.live;
  standing = (windows-frame v p m ws).standing ∙ joins.standing;
  bare = λ P. subst (λ (o : Option ImageState). Each P (at_slot o).windows) (sym (same m (turned m p ∙ apart))) (joins.bare P);
  others = λ i other. alive i ∙ joins.others i other;
  stand = λ i other. (windows-frame v p i ws).standing ∙ joins.stand i other;
  listed = λ i other P there all. by i other P there all (i == p) refl;
}
  where
    alive : (i : ℕ) → is_some (with_windows v p ws i) ≡ is_some (v i)
    alive i = windows-live v p i ws (joins.others p apart ∙ live)

    same : (i : ℕ) → (i == p) ≡ false → with_windows v p ws i ≡ v i
    same i other = changed-other v p i _ other

    here : (P : ℕ → Type 0) → Each P ws → Each P (image_at (with_windows v p ws) p).windows
    here P all = subst (λ (o : Option ImageState). Each P (at_slot o).windows) (sym (changed-at v p _)) all

    by : (i : ℕ) → (i == m) ≡ false → (P : ℕ → Type 0) → (option_map (λ s. s.parent) at ≡ Some i → P m) → Each P (image_at w i).windows
        → (is : Bool) → (i == p) ≡ is → Each P (image_at (with_windows v p ws) i).windows
    by i other P there all true is =
        let at_p : i ≡ p = eqb-true i p is in
        subst (λ (k : ℕ). Each P (image_at (with_windows v p ws) k).windows) (sym at_p)
        (here P (listed P (there (on ∙ ap Some (sym at_p))) (subst (λ (k : ℕ). Each P (image_at w k).windows) at_p all)))
    by i other P there all false is =
        subst (λ (o : Option ImageState). Each P (at_slot o).windows) (sym (same i is)) (joins.listed i other P there all)

-- ---- new images

pub image_joins : (w : Images) (m : ℕ) (r : Rect) (chan raw : ℕ) → Joins w (after_image w m r chan raw) m None
unfolding after_image
image_joins w m r chan raw = put_joins w m (new_image r chan raw) refl

-- topmost on another
pub window_joins : (w : Images) (m parent fill : ℕ) (r : Rect) (raw : ℕ) → IsLive w parent → (parent == m) ≡ false → Joins w (after_window w m parent fill r raw) m (Some (record { parent = parent; fill = fill }))
unfolding after_window
window_joins w m parent fill r raw live apart =
    listed_joins w (with_image w m (Some (new_window w parent fill r raw))) m parent (Some (record { parent = parent; fill = fill })) (record { image = m; place = r } ∷ (image_at w parent).windows)
    (put_joins w m (new_window w parent fill r raw) refl) refl apart live
    (λ P one all. All-cons (λ (v : Window). P v.image) (record { image = m; place = r }) (image_at w parent).windows one all)

-- directly above another
pub above_each : (P : ℕ → Type 0) (first : Window) (old : ℕ) (ws : List Window) → P first.image → Each P ws → Each P (put_above first old ws)
above_each P first old [] one all = All-nil (λ (v : Window). P v.image)
above_each P first old (v ∷ ws) one all = by (v.image == old) (above_each P first old ws one (All-tail (λ (v : Window). P v.image) v ws all))
  where
    by : (b : Bool) → Each P (put_above first old ws) → Each P (if b then first ∷ v ∷ ws else v ∷ put_above first old ws)
    by true more = All-cons (λ (v : Window). P v.image) first (v ∷ ws) one all
    by false more = All-cons (λ (v : Window). P v.image) v (put_above first old ws) (All-head (λ (v : Window). P v.image) v ws all) more

-- the list of what it stands on changes, with it at most
pub relisted_joins : (w v : Images) (m i : ℕ) (at : Option Stood) (change : List Window → List Window) → Joins w v m at → ((p : ℕ) → parent_of v i ≡ Some p → (option_map (λ s. s.parent) at ≡ Some p) × ((p == m) ≡ false) × IsLive w p)
    → ((P : ℕ → Type 0) (ws : List Window) → P m → Each P ws → Each P (change ws)) → Joins w (after_list v i change) m at
relisted_joins w v m i at change joins ground listed = by (parent_of v i) ground
  where
    by : (o : Option ℕ) → ((p : ℕ) → o ≡ Some p → (option_map (λ s. s.parent) at ≡ Some p) × ((p == m) ≡ false) × IsLive w p)
        → Joins w (option_map_or (λ p. with_windows v p (change (image_at v p).windows)) o v) m at
    by None ground = joins
    by (Some p) ground =
        let on = ground p refl in
        listed_joins w v m p at (change (image_at v p).windows) joins on.0 on.1 on.2 (λ P one all. listed P (image_at v p).windows one (joins.listed p on.1 P (λ _. one) all))
