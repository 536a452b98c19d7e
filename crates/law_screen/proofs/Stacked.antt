-- Windows that fill their places, each once in its list, and what keeps them so, of images alone.
use Rattle.std.proofs.Common.{◌≡◌, ◌≤◌, ◌+◌, ℕ, Bool, true, false, List, [], ◌∷◌, Some, refl, ap, ◌∙◌, arith}
use Rattle.std.specs.Prelude.{◌==◌, cond}
use Rattle.std.specs.List.{fold}
use Rattle.std.proofs.lemmas.List.Sums.{sum_by-cons}
use Rattle.r9_geom.specs.declared.Point.{Point}
use Rattle.r9_geom.specs.declared.Rect.{Rect}
use Rattle.model_forest.specs.declared.Window.{Window}
use Rattle.model_forest.specs.World.{IsLive, World, fill_of, image_at, parent_of}
use Rattle.model_forest.specs.Draw.{Drawing, after_draw, after_fill, after_load, with_canvas}
use Rattle.model_forest.specs.Stack.{after_lower, after_raise}
use Rattle.model_forest.specs.Steps.{after_origin, after_set}
use Rattle.model_forest.proofs.Sound.{is_listed, times}
use Rattle.law_screen.specs.Trees.{AreTrees}
use Rattle.law_screen.proofs.Placed.{ArePlaced, canvas_placed, draws_placed, fill_placed, load_placed, lower_placed, origin_placed, raise_placed, set_placed}
use Rattle.law_screen.proofs.Growing.{AreGrown, canvas_grown, draws_grown, fill_grown, load_grown, lower_grown, origin_grown, raise_grown, set_grown}

pub record AreStacked (images : World) : Type 0 where
  pub placed : ArePlaced images
  pub grown : AreGrown images

pub canvas_stacked : (w : World) (n : ℕ) (area : Point → Bool) (new : Point → ℕ) → AreStacked w → AreStacked (with_canvas w n area new)
canvas_stacked w n area new is = record { placed = canvas_placed w n area new is.placed; grown = canvas_grown w n area new is.grown }

pub draws_stacked : (ds : List Drawing) (w : World) → AreStacked w → AreStacked (fold after_draw w ds)
draws_stacked ds w is = record { placed = draws_placed ds w is.placed; grown = draws_grown ds w is.grown }

pub load_stacked : (w : World) (n : ℕ) (r : Rect) (raws : Point → ℕ) → AreStacked w → AreStacked (after_load w n r raws)
load_stacked w n r raws is = record { placed = load_placed w n r raws is.placed; grown = load_grown w n r raws is.grown }

pub fill_stacked : (w : World) (n : ℕ) (r : Rect) (raw : ℕ) → AreStacked w → AreStacked (after_fill w n r raw)
fill_stacked w n r raw is = record { placed = fill_placed w n r raw is.placed; grown = fill_grown w n r raw is.grown }

pub set_stacked : (w : World) (n : ℕ) (repl : Bool) (clipr : Rect) → AreStacked w → AreStacked (after_set w n repl clipr)
set_stacked w n repl clipr is = record { placed = set_placed w n repl clipr is.placed; grown = set_grown w n repl clipr is.grown }

pub raise_stacked : (w : World) (group : List ℕ) → AreStacked w → AreStacked (after_raise w group)
raise_stacked w group is = record { placed = raise_placed w group is.placed; grown = raise_grown w group is.grown }

pub lower_stacked : (w : World) (group : List ℕ) → AreStacked w → AreStacked (after_lower w group)
lower_stacked w group is = record { placed = lower_placed w group is.placed; grown = lower_grown w group is.grown }

pub origin_stacked : (w : World) (i : ℕ) (min corner : Point) → AreStacked w → AreStacked (after_origin w i min corner)
origin_stacked w i min corner is = record { placed = origin_placed w i min corner is.placed; grown = origin_grown w i min corner is.grown }

-- ---- what that says

listed_times : (ws : List Window) (n : ℕ) → is_listed ws n ≡ true → 1 ≤ times ws n
listed_times [] n here = absurd cc
listed_times (v ∷ ws) n here = by (v.image == n) refl here (listed_times ws n)
  where
    count : times (v ∷ ws) n ≡ cond (v.image == n) 1 0 + times ws n
    count = sum_by-cons (λ (u : Window). cond (u.image == n) 1 0) v ws

    by : (b : Bool) → (v.image == n) ≡ b → is_listed (v ∷ ws) n ≡ true → (is_listed ws n ≡ true → 1 ≤ times ws n) → 1 ≤ times (v ∷ ws) n
    by true at here more = (let all = count ∙ ap (λ (b : Bool). cond b 1 0 + times ws n) at in omega (arith, all))
    by false at here more =
        let all = count ∙ ap (λ (b : Bool). cond b 1 0 + times ws n) at in
        let rest : is_listed ws n ≡ true = rw at at here in
        let one = more rest in
        omega (arith, all, one)

pub stacked_trees : (images : World) → ((i p : ℕ) → parent_of images i ≡ Some p → IsLive images p × IsLive images (fill_of images i)) → AreStacked images → AreTrees images
stacked_trees images live is = record {
  lives = λ i p stands. (live i p stands).0;
  fills = λ i p stands. (live i p stands).1;
  listed = λ i p stands.
      let some = listed_times (image_at images p).windows i (is.grown.listed i p stands) in
      let most = is.grown.once p i in
      omega (arith, some, most);
  above = λ i p stands. ap (λ (kind : ℕ × ℕ). kind.0) (is.grown.above i p stands);
  chan = λ i p stands. ap (λ (kind : ℕ × ℕ). kind.1) (is.grown.above i p stands);
  places = λ i k d lt. let one = is.placed i k d lt in (one.stands, one.size);
}
