-- Lists with a window more: on top, or directly above another.
use Rattle.std.proofs.Common.{◌≡◌, ◌≢◌, ◌∙◌, ℕ, Bool, true, false, List, [], ◌∷◌, Option, Some, cond, find, refl, sym, ap, eq-eqb}
use Rattle.std.specs.Prelude.{◌==◌, ◌||◌, not, if◌then◌else◌}
use Rattle.std.specs.Option.{option_map_or}
use Rattle.std.specs.List.{list_any}
use Rattle.std.proofs.lemmas.Bool.{ne_eqb, or_right, true≢false}
use Rattle.r9_geom.specs.declared.Rect.{Rect}
use Rattle.model_forest.specs.declared.Window.{Window}
use Rattle.model_forest.specs.Stack.{without}
use Rattle.model_forest.specs.Steps.{put_above}
use Rattle.model_forest.specs.World.{World, image_at, no_rect}
use Rattle.model_forest.proofs.Uncovers.{CoversMore-cons, CoversMore-put_above}
use Rattle.model_kept.specs.Cells.{above}
use Rattle.model_kept.specs.Keeping.{place_among}
use Rattle.r9_relist.specs.arrive.Arriving.{IsComing}

abbrev place_of : Option Window → Rect
place_of o = option_map_or (λ (v : Window). v.place) o no_rect

-- what is found in a list, and above what
place_here : (v : Window) (vs : List Window) (n : ℕ) → (v.image == n) ≡ true → place_among (v ∷ vs) n ≡ v.place
place_here v vs n e = ap (λ b. place_of (cond b (Some v) (find (λ (u : Window). u.image == n) vs))) e

place_next : (v : Window) (vs : List Window) (n : ℕ) → (v.image == n) ≡ false → place_among (v ∷ vs) n ≡ place_among vs n
place_next v vs n e = ap (λ b. place_of (cond b (Some v) (find (λ (u : Window). u.image == n) vs))) e

above_here : (test : Window → Bool) (v : Window) (vs : List Window) (n : ℕ) → (v.image == n) ≡ true → list_any test (above n (v ∷ vs)) ≡ false
above_here test v vs n e = ap (λ b. list_any test (if b then [] else v ∷ above n vs)) e

above_next : (test : Window → Bool) (v : Window) (vs : List Window) (n : ℕ) → (v.image == n) ≡ false → list_any test (above n (v ∷ vs)) ≡ (test v || list_any test (above n vs))
above_next test v vs n e = ap (λ b. list_any test (if b then [] else v ∷ above n vs)) e

covered_more : (test : Window → Bool) (w : Window) (ws : List Window) (n : ℕ) → n ≢ w.image → list_any test (above n ws) ≡ true → list_any test (above n (w ∷ ws)) ≡ true
covered_more test w ws n other some =
    above_next test w ws n (ne_eqb w.image n (λ e. other (sym e))) ∙ or_right (test w) (list_any test (above n ws)) some

-- on top
pub on_top_comes : (world : World) (p : ℕ) (w : Window) → IsComing world p w (w ∷ (image_at world p).windows)
on_top_comes world p w =
    let ws = (image_at world p).windows in
    record {
      others = ap (λ b. cond (not b) (w ∷ without w.image ws) (without w.image ws)) (eq-eqb w.image w.image refl);
      places = λ n other. place_next w ws n (ne_eqb w.image n (λ e. other (sym e)));
      covered = λ n test other some. covered_more test w ws n other some;
      bare = (CoversMore-cons w ws).bare;
    }

-- ---- directly above another

module _ (w : Window) (old : ℕ) where
  abbrev put : List Window → List Window
  put ws = put_above w old ws

  put_step : {A : Type 0} (tell : List Window → A) (v : Window) (vs : List Window) (b : Bool) → (v.image == old) ≡ b → tell (put (v ∷ vs)) ≡ tell (if b then w ∷ v ∷ vs else v ∷ put vs)
  put_step tell v vs b e = ap (λ c. tell (if c then w ∷ v ∷ vs else v ∷ put vs)) e

  put_places : (ws : List Window) (n : ℕ) → n ≢ w.image → place_among (put ws) n ≡ place_among ws n
  put_places [] n other = refl
  put_places (v ∷ vs) n other = by_old (v.image == old) refl (put_places vs n other)
    where
      by_old : (b : Bool) → (v.image == old) ≡ b → place_among (put vs) n ≡ place_among vs n → place_among (put (v ∷ vs)) n ≡ place_among (v ∷ vs) n
      by_old true e rest =
          put_step (λ ws. place_among ws n) v vs true e ∙ place_next w (v ∷ vs) n (ne_eqb w.image n (λ same. other (sym same)))
      by_old false e rest =
          put_step (λ ws. place_among ws n) v vs false e ∙ by_found (v.image == n) refl
        where
          by_found : (b : Bool) → (v.image == n) ≡ b → place_among (v ∷ put vs) n ≡ place_among (v ∷ vs) n
          by_found true here = place_here v (put vs) n here ∙ sym (place_here v vs n here)
          by_found false there = place_next v (put vs) n there ∙ rest ∙ sym (place_next v vs n there)

  without_w : (ws : List Window) → without w.image (w ∷ ws) ≡ without w.image ws
  without_w ws = ap (λ b. cond (not b) (w ∷ without w.image ws) (without w.image ws)) (eq-eqb w.image w.image refl)

  put_others : (ws : List Window) → without w.image (put ws) ≡ without w.image ws
  put_others [] = refl
  put_others (v ∷ vs) = by_old (v.image == old) refl (put_others vs)
    where
      by_old : (b : Bool) → (v.image == old) ≡ b → without w.image (put vs) ≡ without w.image vs → without w.image (put (v ∷ vs)) ≡ without w.image (v ∷ vs)
      by_old true e rest = put_step (without w.image) v vs true e ∙ without_w (v ∷ vs)
      by_old false e rest = put_step (without w.image) v vs false e ∙ ap (λ us. cond (not (v.image == w.image)) (v ∷ us) us) rest

  put_covered : (ws : List Window) (n : ℕ) (test : Window → Bool) → n ≢ w.image → list_any test (above n ws) ≡ true → list_any test (above n (put ws)) ≡ true
  put_covered [] n test other some = some
  put_covered (v ∷ vs) n test other some = by_old (v.image == old) refl (put_covered vs n test other)
    where
      by_old : (b : Bool) → (v.image == old) ≡ b → (list_any test (above n vs) ≡ true → list_any test (above n (put vs)) ≡ true) → list_any test (above n (put (v ∷ vs))) ≡ true
      by_old true e rest = put_step (λ ws. list_any test (above n ws)) v vs true e ∙ covered_more test w (v ∷ vs) n other some
      by_old false e rest = put_step (λ ws. list_any test (above n ws)) v vs false e ∙ by_found (v.image == n) refl
        where
          by_test : (b : Bool) → (b || list_any test (above n vs)) ≡ true → (b || list_any test (above n (put vs))) ≡ true
          by_test true any = refl
          by_test false any = rest any

          by_found : (b : Bool) → (v.image == n) ≡ b → list_any test (above n (v ∷ put vs)) ≡ true
          by_found true here = absurd (true≢false (sym some ∙ above_here test v vs n here))
          by_found false there = above_next test v (put vs) n there ∙ by_test (test v) (sym (above_next test v vs n there) ∙ some)

pub put_above_comes : (world : World) (p : ℕ) (w : Window) (old : ℕ) → IsComing world p w (put_above w old (image_at world p).windows)
put_above_comes world p w old =
    let ws = (image_at world p).windows in
    record {
      others = put_others w old ws;
      places = put_places w old ws;
      covered = put_covered w old ws;
      bare = (CoversMore-put_above w old ws).bare;
    }
