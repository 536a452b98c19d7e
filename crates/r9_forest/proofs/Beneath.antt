-- Lists with a window directly below another.
use Rattle.std.proofs.Common.{◌≡◌, ◌≢◌, ◌∙◌, ℕ, zero, suc, ◌+◌, ◌<◌, ◌≤◌, Bool, true, false, List, [], ◌∷◌, ◌++◌, Option, Some, cond, find, get_or, length, take, drop, refl, sym, ap, arith, add-one, eq-eqb}
use Rattle.std.specs.List.{list_any}
use Rattle.std.specs.Option.{option_map_or}
use Rattle.std.specs.Prelude.{◌==◌, ◌||◌, insert, is_none, not, unwrap_or, IsTrue, if◌then◌else◌}
use Rattle.std.proofs.lemmas.Bool.{and_from, false≢true, ne_eqb, or_parts, or_right}
use Rattle.std.proofs.lemmas.Bool.Decides.{Decides-eqb}
use Rattle.r9_geom.specs.declared.Point.{Point}
use Rattle.r9_geom.specs.declared.Rect.{Rect}
use Rattle.r9_geom.specs.Geometry.{holds}
use Rattle.model_forest.specs.declared.Window.{Window}
use Rattle.model_forest.specs.Stack.{seen, uncovered, with_windows, without}
use Rattle.model_forest.specs.View.{is_bare, top_window}
use Rattle.model_forest.specs.World.{Image, World, image_at, no_image, no_rect}
use Rattle.model_forest.proofs.Changes.{with_image-at, World-changed}
use Rattle.model_forest.proofs.Uncovers.{seen-same, uncovered-bare, CoversMore}
use Rattle.model_forest.proofs.Windows.{with_windows-other}
use Rattle.model_exchanged.specs.exchanged.Exchanged.{put_below}
use Rattle.model_exchanged.proofs.exchanged.Below.{CoversMore-put_below}
use Rattle.model_kept.specs.Cells.{above}
use Rattle.model_kept.specs.Keeping.{place_among}
use Rattle.r9_relist.specs.arrive.Arriving.{IsComing}

-- ---- where the other is found

-- the list with a window below another, where none before k is that other
abbrev pub split_below : Window → ℕ → ℕ → List Window → List Window
split_below w old k ws = take k ws ++ put_below w old (drop k ws)

split_more : (w : Window) (old : ℕ) (ws : List Window) (k : ℕ) (d : Window) → k < length ws → ((get_or ws k d).image == old) ≡ false → split_below w old k ws ≡ split_below w old (suc k) ws
split_more w old [] k d lt other = absurd (omega arith)
split_more w old (v ∷ ws) zero d lt other = rw other refl
split_more w old (v ∷ ws) (suc k) d lt other = ap (λ ys. v ∷ ys) (split_more w old ws k d (omega arith) other)

pub split_past : (w : Window) (old : ℕ) (ws : List Window) (k : ℕ) (v : Window) → k < length ws → v ≡ get_or ws k v → (v.image ≡ old → ⊥) → split_below w old k ws ≡ split_below w old (k + 1) ws
split_past w old ws k v lt is apart =
    split_more w old ws k v lt (ap (λ (u : Window). u.image == old) (sym is) ∙ ne_eqb v.image old apart) ∙ ap (λ n. split_below w old n ws) (sym (add-one k))

split_at : (w : Window) (old : ℕ) (ws : List Window) (k : ℕ) (d : Window) → k < length ws → ((get_or ws k d).image == old) ≡ true → split_below w old k ws ≡ insert ws (suc k) w
split_at w old [] k d lt is = absurd (omega arith)
split_at w old (v ∷ ws) zero d lt is = rw is refl
split_at w old (v ∷ ws) (suc k) d lt is = ap (λ ys. v ∷ ys) (split_at w old ws k d (omega arith) is)

pub split_found : (w : Window) (old : ℕ) (ws : List Window) (k : ℕ) (v : Window) → k < length ws → v ≡ get_or ws k v → v.image ≡ old → split_below w old k ws ≡ insert ws (k + 1) w
split_found w old ws k v lt is same =
    split_at w old ws k v lt (ap (λ (u : Window). u.image == old) (sym is) ∙ (Decides-eqb v.image old).1 same) ∙ ap (λ n. insert ws n w) (sym (add-one k))

pub split_none : (w : Window) (old : ℕ) (ws : List Window) (k : ℕ) → length ws ≤ k → split_below w old k ws ≡ ws
split_none w old [] zero le = refl
split_none w old [] (suc k) le = refl
split_none w old (v ∷ ws) zero le = absurd (omega arith)
split_none w old (v ∷ ws) (suc k) le = ap (λ ys. v ∷ ys) (split_none w old ws k (omega arith))

-- ---- what is found in lists with the same first window

abbrev place_of : Option Window → Rect
place_of o = option_map_or (λ (v : Window). v.place) o no_rect

place_past : (v : Window) (vs : List Window) (n : ℕ) → (v.image == n) ≡ false → place_among (v ∷ vs) n ≡ place_among vs n
place_past v vs n e = ap (λ b. place_of (cond b (Some v) (find (λ (u : Window). u.image == n) vs))) e

place_same : (v : Window) (xs ys : List Window) (n : ℕ) → place_among xs n ≡ place_among ys n → place_among (v ∷ xs) n ≡ place_among (v ∷ ys) n
place_same v xs ys n same = by_found (v.image == n)
  where
    by_found : (b : Bool) → place_of (cond b (Some v) (find (λ (u : Window). u.image == n) xs)) ≡ place_of (cond b (Some v) (find (λ (u : Window). u.image == n) ys))
    by_found true = refl
    by_found false = same

above_more : (test : Window → Bool) (v : Window) (xs ys : List Window) (n : ℕ) → (list_any test (above n xs) ≡ true → list_any test (above n ys) ≡ true) → list_any test (above n (v ∷ xs)) ≡ true → list_any test (above n (v ∷ ys)) ≡ true
above_more test v xs ys n more = by_found (v.image == n)
  where
    by_test : (b : Bool) → (b || list_any test (above n xs)) ≡ true → (b || list_any test (above n ys)) ≡ true
    by_test true some = refl
    by_test false some = more some

    by_found : (b : Bool) → list_any test (if b then [] else v ∷ above n xs) ≡ true → list_any test (if b then [] else v ∷ above n ys) ≡ true
    by_found true some = some
    by_found false some = by_test (test v) some

-- ---- a window that comes directly below another

module _ (w : Window) (old : ℕ) where
  abbrev put : List Window → List Window
  put ws = put_below w old ws

  put_places : (ws : List Window) (n : ℕ) → n ≢ w.image → place_among (put ws) n ≡ place_among ws n
  put_places [] n other = refl
  put_places (v ∷ vs) n other =
      elim (v.image == old) as (λ b. place_among (if b then v ∷ w ∷ vs else v ∷ put vs) n ≡ place_among (v ∷ vs) n) [
        | true ↦ place_same v (w ∷ vs) vs n (place_past w vs n (ne_eqb w.image n (λ e. other (sym e))))
        | false ↦ place_same v (put vs) vs n (put_places vs n other)
      ]

  put_others : (ws : List Window) → without w.image (put ws) ≡ without w.image ws
  put_others [] = refl
  put_others (v ∷ vs) =
      elim (v.image == old) as (λ b. without w.image (if b then v ∷ w ∷ vs else v ∷ put vs) ≡ without w.image (v ∷ vs)) [
        | true ↦ ap (λ us. cond (not (v.image == w.image)) (v ∷ us) us) (ap (λ b. cond (not b) (w ∷ without w.image vs) (without w.image vs)) (eq-eqb w.image w.image refl))
        | false ↦ ap (λ us. cond (not (v.image == w.image)) (v ∷ us) us) (put_others vs)
      ]

  put_covered : (ws : List Window) (n : ℕ) (test : Window → Bool) → n ≢ w.image → list_any test (above n ws) ≡ true → list_any test (above n (put ws)) ≡ true
  put_covered [] n test other some = some
  put_covered (v ∷ vs) n test other some =
      elim (v.image == old) as (λ b. list_any test (above n (if b then v ∷ w ∷ vs else v ∷ put vs)) ≡ true) [
        | true ↦ above_more test v vs (w ∷ vs) n
            (λ any.
            ap (λ b. list_any test (if b then [] else w ∷ above n vs)) (ne_eqb w.image n (λ e. other (sym e)))
            ∙ or_right (test w) (list_any test (above n vs)) any) some
        | false ↦ above_more test v vs (put vs) n (put_covered vs n test other) some
      ]

  -- a window that stood nowhere has its place there
  pub beneath_stands : (ws : List Window) → list_any (λ (v : Window). v.image == w.image) ws ≡ false → list_any (λ (v : Window). v.image == old) ws ≡ true → place_among (put ws) w.image ≡ w.place
  beneath_stands [] alone some = absurd (false≢true some)
  beneath_stands (v ∷ vs) alone some =
      let parts = or_parts (v.image == w.image) (list_any (λ (u : Window). u.image == w.image) vs) alone in
      elim (v.image == old) as (λ b. (b || list_any (λ (u : Window). u.image == old) vs) ≡ true → place_among (if b then v ∷ w ∷ vs else v ∷ put vs) w.image ≡ w.place) [
        | true ↦ λ here.
            place_past v (w ∷ vs) w.image parts.0
            ∙ ap (λ b. place_of (cond b (Some w) (find (λ (u : Window). u.image == w.image) vs))) (eq-eqb w.image w.image refl)
        | false ↦ λ rest. place_past v (put vs) w.image parts.0 ∙ beneath_stands vs parts.1 rest
      ] some

  -- and covers what it would on top
  pub beneath_covers : (ws : List Window) → IsTrue (list_any (λ (v : Window). v.image == old) ws) → CoversMore (w ∷ ws) (put ws)
  beneath_covers ws there = record { bare = bare ws there }
    where
      swapped : (v : Window) (a b : Bool) (rest : Option Window) → is_none (cond a (Some v) (cond b (Some w) rest)) ≡ true → is_none (cond b (Some w) (cond a (Some v) rest)) ≡ true
      swapped v true b rest none = absurd (false≢true none)
      swapped v false b rest none = none

      past : (v : Window) (a b : Bool) (new rest : Option Window) → (is_none new ≡ true → is_none (cond b (Some w) rest) ≡ true) → is_none (cond a (Some v) new) ≡ true → is_none (cond b (Some w) (cond a (Some v) rest)) ≡ true
      past v true b new rest more none = absurd (false≢true none)
      past v false b new rest more none = more none

      bare : (ws : List Window) → list_any (λ (v : Window). v.image == old) ws ≡ true → (q : Point) → is_bare (put ws) q ≡ true → is_bare (w ∷ ws) q ≡ true
      bare [] some q = absurd (false≢true some)
      bare (v ∷ vs) some q =
          elim (v.image == old) as (λ b. (b || list_any (λ (u : Window). u.image == old) vs) ≡ true → is_bare (if b then v ∷ w ∷ vs else v ∷ put vs) q ≡ true → is_bare (w ∷ v ∷ vs) q ≡ true) [
            | true ↦ λ here none. swapped v (holds v.place q) (holds w.place q) (top_window vs q) none
            | false ↦ λ rest none. past v (holds v.place q) (holds w.place q) (top_window (put vs) q) (top_window vs q) (bare vs rest q) none
          ] some

pub put_below_comes : (world : World) (p : ℕ) (w : Window) (old : ℕ) → IsComing world p w (put_below w old (image_at world p).windows)
put_below_comes world p w old =
    let ws = (image_at world p).windows in
    record {
      others = put_others w old ws;
      places = put_places w old ws;
      covered = put_covered w old ws;
      bare = (CoversMore-put_below w old ws).bare;
    }

-- ---- an image gets one list after another

-- one that covers more than the list before it leaves what it leaves without that
pub with_windows-again : (world : World) (p : ℕ) (first later : List Window) → CoversMore first later → with_windows (with_windows world p first) p later ≡ with_windows world p later
with_windows-again world p first later more =
    World-changed world (with_windows one p later) p (Some (changed later (uncovered world p))) (with_image-at one p (Some (record (image_at one p) { windows = later; canvas = seen (image_at one p).r later (uncovered one p) })) ∙ ap (λ (im : Image). Some im) image)
    (λ n other. with_windows-other one p later n other ∙ with_windows-other world p first n other)
  where
    one : World
    one = with_windows world p first

    changed : List Window → (Point → ℕ) → Image
    changed ws canvas = record (image_at world p) { windows = ws; canvas = seen (image_at world p).r ws canvas }

    at_p : image_at one p ≡ changed first (uncovered world p)
    at_p = ap (λ (o : Option Image). unwrap_or o no_image) (with_image-at world p (Some (changed first (uncovered world p))))

    pixels : (q : Point) → holds (image_at world p).r q ≡ true → is_bare later q ≡ true → uncovered one p q ≡ uncovered world p q
    pixels q inside bare =
        let before : is_bare first q ≡ true = more.bare q bare in
        uncovered-bare one p q (ap (λ (im : Image). is_bare im.windows q) at_p ∙ before)
        ∙ ap (λ (im : Image). im.canvas q) at_p
        ∙ ap (λ b. if b then uncovered world p q else 0) (and_from (holds (image_at world p).r q) (is_bare first q) inside before)

    image : record (image_at one p) { windows = later; canvas = seen (image_at one p).r later (uncovered one p) } ≡ changed later (uncovered world p)
    image =
        ap (λ (im : Image). record im { windows = later; canvas = seen im.r later (uncovered one p) }) at_p
        ∙ ap (λ (canvas : Point → ℕ). record (image_at world p) { windows = later; canvas = canvas }) (seen-same (image_at world p).r later (uncovered world p) (uncovered one p) pixels)
