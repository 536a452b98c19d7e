-- A list in which no image stands twice has one place for each.
use Rattle.std.proofs.Common.{◌≡◌, ◌∙◌, ℕ, zero, suc, ◌+◌, ◌<◌, ◌≤◌, Bool, true, false, List, [], ◌∷◌, Some, get_or, length, cond, refl, ap, eq-eqb, arith}
use Rattle.std.specs.Prelude.{◌==◌, find}
use Rattle.std.specs.Option.{option_map_or}
use Rattle.std.proofs.lemmas.List.Sums.{sum_by-cons}
use Rattle.r9_geom.specs.declared.Rect.{Rect}
use Rattle.model_forest.specs.declared.Window.{Window}
use Rattle.model_forest.specs.World.{World, no_rect, IsForest}
use Rattle.model_forest.proofs.Sound.{times}
use Rattle.model_kept.specs.Keeping.{place_among, HasOnePlaces}

times-more : (w : Window) (ws : List Window) (n : ℕ) → times (w ∷ ws) n ≡ cond (w.image == n) 1 0 + times ws n
times-more w ws n = sum_by-cons (λ (v : Window). cond (v.image == n) 1 0) w ws

-- what stands in a list stands in it once at least
times-some : (ws : List Window) (k : ℕ) (d : Window) → k < length ws → 1 ≤ times ws (get_or ws k d).image
times-some [] k d below = absurd (omega arith)
times-some (w ∷ ws) zero d below =
    let more = times-more w ws w.image ∙ ap (λ b. cond b 1 0 + times ws w.image) (eq-eqb w.image w.image refl) in
    omega (arith, more)
times-some (w ∷ ws) (suc k) d below =
    let more = times-more w ws (get_or ws k d).image in
    let rest = times-some ws k d (omega arith) in
    omega (arith, more, rest)

place-once : (ws : List Window) → ((n : ℕ) → times ws n ≤ 1) → (k : ℕ) (d : Window) → k < length ws → place_among ws (get_or ws k d).image ≡ (get_or ws k d).place
place-once [] once k d below = absurd (omega arith)
place-once (w ∷ ws) once zero d below =
    ap (λ b. option_map_or (λ (v : Window). v.place) (cond b (Some w) (find (λ (v : Window). v.image == w.image) ws)) no_rect) (eq-eqb w.image w.image refl)
place-once (w ∷ ws) once (suc k) d below =
    by_test
    (place-once ws (λ m. let more = times-more w ws m in let most = once m in omega (arith, more, most)) k d (omega arith))
    (w.image == (get_or ws k d).image) refl
  where
    n : ℕ
    n = (get_or ws k d).image

    place_in : Bool → Rect
    place_in b = option_map_or (λ (v : Window). v.place) (cond b (Some w) (find (λ (v : Window). v.image == n) ws)) no_rect

    by_test : place_among ws n ≡ (get_or ws k d).place → (b : Bool) → (w.image == n) ≡ b → place_in (w.image == n) ≡ (get_or ws k d).place
    by_test rest true e =
        let more = times-more w ws n ∙ ap (λ b. cond b 1 0 + times ws n) e in
        let some = times-some ws k d (omega arith) in
        let most = once n in
        absurd (omega (arith, more, some, most))
    by_test rest false e = ap place_in e ∙ rest

-- each world of images has one place for each window
pub places-forest : (world : World) → IsForest world → HasOnePlaces world
places-forest world ok i live = λ k d below. place-once _ (λ n. ok.once i n live) k d below
