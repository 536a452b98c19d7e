-- What messages cost that are not refused.
use Rattle.std.proofs.Common.{◌≡◌, ℕ, true, ◌≤◌, List, [], ◌∷◌, Option, Some, None, Ok, Err, refl, sym, ap, subst, ◌∙◌, arith}
use Rattle.std.specs.Prelude.{◌+◌, ◌*◌, is_ok}
use Rattle.std.specs.List.{sum_by}
use Rattle.std.specs.Option.{option_map, option_map_or}
use Rattle.std.specs.Result.{result_unwrap_or}
use Rattle.std.proofs.lemmas.List.Sums.{sum_by-cons}
use Rattle.r9_geom.specs.Geometry.{area_of}
use Rattle.model_text.specs.text.Outcome.{Outcome}
use Rattle.model_forest.specs.World.{image_at}
use Rattle.model_draw_parts.specs.images.Release.{Freed, free_id, free_screen, nothing_freed}
use Rattle.model_draw_parts.specs.dmsg.Message.{LowS, LowX}
use Rattle.model_draw.specs.cost.Cost.{drawing_cost, going_all, message_cost, of_found, window_moved}
use Rattle.model_draw.specs.draw.World.{World}
use Rattle.model_draw.specs.draw.Moving.{look_windows}
use Rattle.model_draw.specs.draw.Writing.{string_drawings}
use Rattle.r9_dmsg.specs.declared.writing.Background.{Background}
use Rattle.r9_dmsg.specs.declared.writing.Writing.{Writing}
use Rattle.r9_dmsg.specs.Listed.{writing_in, writing_message}
use Rattle.r9_draw.specs.messages.Plans.{freed_by, screen_freed_by}
use Rattle.r9_draw.specs.messages.Strings.{background_of}

-- what is found costs
pub found-cost : {A : Type 0} (cost : A → ℕ) (o : Outcome A) (other : A) → is_ok o ≡ true → of_found cost o ≡ cost (result_unwrap_or o other)
found-cost cost (Ok a) other h = refl
found-cost cost (Err n) other h = absurd cc

-- ---- what goes

pub freed-cost : (w : World) (k id : ℕ) (f : Freed) → free_id w.book k id ≡ Ok f → going_all w.images f.gone ≡ going_all w.images (freed_by w k id).gone
freed-cost w k id f e = ap (λ (o : Outcome Freed). going_all w.images (result_unwrap_or o (nothing_freed w.book)).gone) (sym e)

pub screen-freed-cost : (w : World) (k id : ℕ) (f : Freed) → free_screen w.book k id ≡ Ok f → going_all w.images f.gone ≡ going_all w.images (screen_freed_by w k id).gone
screen-freed-cost w k id f e = ap (λ (o : Outcome Freed). going_all w.images (result_unwrap_or o (nothing_freed w.book)).gone) (sym e)

-- ---- windows

four-times : (f : ℕ → ℕ) (xs : List ℕ) → sum_by (λ i. 4 * f i) xs ≡ 4 * sum_by f xs
four-times f [] = refl
four-times f (x ∷ xs) =
    let first = sum_by-cons (λ i. 4 * f i) x xs in
    let second = sum_by-cons f x xs in
    let rest = four-times f xs in
    omega (arith, first, second, rest)

-- each window of a group that goes to the top, or to the bottom, is moved
pub group-cost : (k : ℕ) (w : World) (ids group : List ℕ) (was now : ℕ) → is_ok (look_windows w k ids) ≡ true → group ≡ result_unwrap_or (look_windows w k ids) []
    → now ≤ was + 2 * sum_by (λ i. area_of (image_at w.images i).r) group → now ≤ was + of_found (sum_by (window_moved w)) (look_windows w k ids)
group-cost k w ids group was now h is most =
    let found : of_found (sum_by (window_moved w)) (look_windows w k ids) ≡ sum_by (window_moved w) group = found-cost (sum_by (window_moved w)) (look_windows w k ids) [] h ∙ ap (sum_by (window_moved w)) (sym is) in
    let four : sum_by (window_moved w) group ≡ 4 * sum_by (λ i. area_of (image_at w.images i).r) group = four-times (λ i. area_of (image_at w.images i).r) group in
    subst (λ n. now ≤ was + n) (sym (found ∙ four)) (omega (arith, most))

-- ---- strings

pub writing-cost : (k : ℕ) (w : World) (asked : Writing)
    → message_cost k w (writing_message asked) ≡ of_found (sum_by (drawing_cost w.images)) (string_drawings k w (writing_in asked) (background_of asked))
unfolding message_cost
writing-cost k w asked = by asked.background
  where
    by : (b : Option Background)
        → message_cost k w (option_map_or (λ b. LowX (writing_in asked) b.id b.p) b (LowS (writing_in asked))) ≡ of_found (sum_by (drawing_cost w.images)) (string_drawings k w (writing_in asked) (option_map (λ b. (b.id, b.p)) b))
    by None = refl
    by (Some b) = refl
