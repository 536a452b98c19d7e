-- Rectangles that move along with one another.
use Rattle.std.proofs.Common.{◌≡◌, ◌∙◌, ℕ, ◌+◌, ◌*◌, ◌/◌, ◌%◌, pos, ◌+ℤ◌, Bool, true, false, List, [], ◌∷◌, map, refl, sym, ap, arith}
use Rattle.std.specs.Prelude.{◌==◌, ◌&&◌, ◌||◌, not, if◌then◌else◌}
use Rattle.std.specs.List.{list_any}
use Rattle.std.proofs.lemmas.Int.{ints, clamps}
use Rattle.r9_geom.specs.declared.Point.{Point}
use Rattle.r9_geom.specs.declared.Rect.{Rect}
use Rattle.r9_geom.specs.Geometry.{at_min, carried, holds, is_empty, is_inside, meet}
use Rattle.r9_geom.proofs.GeometryLemmas.{empty_holds, empty_since, holds-meet, inside_tells, same_rect, same_tests}
use Rattle.model_forest.specs.declared.Window.{Window}
use Rattle.model_forest.specs.Steps.{carried_rect}
use Rattle.model_forest.proofs.Placed.{width-carried}
use Rattle.model_kept.specs.Cells.{above, cell_part, cells_across, hides_under}
use Rattle.model_kept.specs.Keeping.{place_among}
use Rattle.model_kept.proofs.Hiding.{holds-carried_both}
use Rattle.model_kept.proofs.Shifting.{along_with, place-along}
use Rattle.model_kept.proofs.Storing.{carried-back}

pub at_min-carried : (r : Rect) (min : Point) → at_min r min ≡ carried_rect r r.min min
at_min-carried r min = same_rect (at_min r min) (carried_rect r r.min min) (omega (arith, ints)) (omega (arith, ints)) refl refl

module _ (from to : Point) where
  pub holds-along : (r : Rect) (p : Point) → holds (carried_rect r from to) p ≡ holds r (carried p to from)
  holds-along r p = ap (holds (carried_rect r from to)) (sym (carried-back p to from)) ∙ holds-carried_both r from to (carried p to from)

  inside-along : (a b : Rect) → is_inside (carried_rect a from to) (carried_rect b from to) ≡ is_inside a b
  inside-along a b =
      let c : Rect = carried_rect a from to in
      let d : Rect = carried_rect b from to in
      same_tests (is_inside c d) (is_inside a b)
      (λ e. (inside_tells a b (is_inside a b) refl).1 (λ p h. sym (holds-carried_both b from to p) ∙ (inside_tells c d (is_inside c d) refl).0 e (carried p from to) (holds-carried_both a from to p ∙ h)))
      (λ e. (inside_tells c d (is_inside c d) refl).1 (λ p h. holds-along b p ∙ (inside_tells a b (is_inside a b) refl).0 e (carried p to from) (sym (holds-along a p) ∙ h)))

  empty-along : (a b : Rect) → is_empty (meet (carried_rect a from to) (carried_rect b from to)) ≡ is_empty (meet a b)
  empty-along a b =
      let c : Rect = carried_rect a from to in
      let d : Rect = carried_rect b from to in
      same_tests (is_empty (meet c d)) (is_empty (meet a b))
      (λ e.
      empty_since (meet a b)
      (λ p.
      holds-meet a b p
      ∙ sym (λ j. holds-carried_both a from to p j && holds-carried_both b from to p j)
      ∙ sym (holds-meet c d (carried p from to))
      ∙ empty_holds (meet c d) (carried p from to) e))
      (λ e.
      empty_since (meet c d)
      (λ p.
      holds-meet c d p
      ∙ (λ j. holds-along a p j && holds-along b p j)
      ∙ sym (holds-meet a b (carried p to from))
      ∙ empty_holds (meet a b) (carried p to from) e))

  above-along : (n : ℕ) (ws : List Window) → above n (map (along_with from to) ws) ≡ map (along_with from to) (above n ws)
  above-along n [] = refl
  above-along n (w ∷ ws) =
      elim (w.image == n) as (λ b. (if b then [] else (along_with from to w ∷ above n (map (along_with from to) ws))) ≡ map (along_with from to) (if b then [] else (w ∷ above n ws))) [
        | true ↦ refl
        | false ↦ ap (λ (vs : List Window). along_with from to w ∷ vs) (above-along n ws)
      ]

  meets-along : (out : Rect) (ws : List Window) → list_any (λ w. not (is_empty (meet w.place (carried_rect out from to)))) (map (along_with from to) ws) ≡ list_any (λ w. not (is_empty (meet w.place out))) ws
  meets-along out [] = refl
  meets-along out (w ∷ ws) = λ j. not (empty-along w.place out j) || meets-along out ws j

  -- ---- what hides a part

  abbrev out_at : Rect → Rect → Point → Rect
  out_at r part place = record { min = carried part.min r.min place; max = carried part.max r.min place }

  abbrev hides_out : Rect → List Window → ℕ → Rect → Bool
  hides_out below ws n out = not (is_inside out below) || list_any (λ w. not (is_empty (meet w.place out))) (above n ws)

  -- an image moves, with its windows
  pub under-along : (below : Rect) (ws : List Window) (n : ℕ) (r part : Rect) → list_any (λ w. w.image == n) ws ≡ true → hides_under (carried_rect below from to) (map (along_with from to) ws) n r part ≡ hides_under below ws n r part
  under-along below ws n r part listed =
      let place : Point = (place_among ws n).min in
      let out : Rect = out_at r part place in
      ap (λ (s : Rect). hides_out (carried_rect below from to) (map (along_with from to) ws) n (out_at r part s.min)) (place-along ws from to n listed)
      ∙ ap (hides_out (carried_rect below from to) (map (along_with from to) ws) n)
      (same_rect (out_at r part (carried place from to)) (carried_rect out from to) (omega (arith, ints)) (omega (arith, ints)) (omega (arith, ints)) (omega (arith, ints)))
      ∙ (λ j. not (inside-along out below j) || list_any (λ (w : Window). not (is_empty (meet w.place (carried_rect out from to)))) (above-along n ws j))
      ∙ ap (λ b. not (is_inside out below) || b) (meets-along out (above n ws))

  -- a window moves in its own coordinates
  pub under-own : (below : Rect) (ws : List Window) (n : ℕ) (r part : Rect) → hides_under below ws n (carried_rect r from to) (carried_rect part from to) ≡ hides_under below ws n r part
  under-own below ws n r part =
      let place : Point = (place_among ws n).min in
      ap (hides_out below ws n)
      (same_rect (out_at (carried_rect r from to) (carried_rect part from to) place) (out_at r part place) (omega (arith, ints)) (omega (arith, ints)) (omega (arith, ints)) (omega (arith, ints)))

  -- ---- cells move along

  abbrev square : Rect → ℕ → ℕ → Rect
  square r column row =
      let x = r.min.x +ℤ pos (32 * column) in
      let y = r.min.y +ℤ pos (32 * row) in
      meet r (record { min = record { x = x; y = y }; max = record { x = x +ℤ pos 32; y = y +ℤ pos 32 } })

  pub across-along : (r : Rect) → cells_across (carried_rect r from to) ≡ cells_across r
  across-along r = ap (λ n. (n + 31) / 32) (width-carried r from to)

  pub cell-along : (r : Rect) (k : ℕ) → cell_part (carried_rect r from to) k ≡ carried_rect (cell_part r k) from to
  cell-along r k =
      let column = k % cells_across r in
      let row = k / cells_across r in
      (λ j. square (carried_rect r from to) (k % across-along r j) (k / across-along r j))
      ∙ same_rect (square (carried_rect r from to) column row) (carried_rect (square r column row) from to) (omega (arith, ints, clamps)) (omega (arith, ints, clamps)) (omega (arith, ints, clamps)) (omega (arith, ints, clamps))
