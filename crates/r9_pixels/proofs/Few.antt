-- Since its moment no more cells of a plane were marked than pixels were written, when more are written.
use Rattle.std.proofs.Common.{◌≡◌, ◌≢◌, ◌∙◌, ℕ, ◌+◌, ◌<◌, ◌≤◌, List, length, set, Option, Some, None, ⊎_elim, sym, subst, ap, arith}
use Rattle.std.proofs.lemmas.Bool.{cases_eq}
use Rattle.r9_locate.specs.declared.watched.Watched.{Watched}
use Rattle.r9_locate.specs.watched.Moments.{IsFew, Moment}
use Rattle.r9_locate.specs.watched.Watched.{count_of, moment_of}
use Rattle.r9_pixels.specs.declared.own.Extent.{Extent}
use Rattle.r9_pixels.specs.declared.own.Own.{Own}
use Rattle.r9_pixels.specs.declared.own.Own.TheVariants.{Whole, Hidden}
use Rattle.r9_pixels.specs.Owns.{own_at, AreFew}
use Rattle.r9_pixels.proofs.Owning.{own_other, own_same, whole_is}

-- the same planes, or fewer
pub few_same : (owns new : List (Option Own)) (writes more : ℕ) → writes ≤ more → ((j : ℕ) (watched : Watched) → own_at new j ≡ Some (Whole watched) → own_at owns j ≡ Some (Whole watched)) → AreFew writes owns → AreFew more new
few_same owns new writes more grown was few j watched is = omega (arith, grown, few j watched (was j watched is))

-- one slot changes
pub few_set : (owns : List (Option Own)) (i : ℕ) (slot : Option Own) (writes more : ℕ) → i < length owns → writes ≤ more → ((watched : Watched) → slot ≡ Some (Whole watched) → IsFew (moment_of watched) (count_of watched) more) → AreFew writes owns → AreFew more (set owns i slot)
few_set owns i slot writes more below grown here few j watched is =
    ⊎_elim
    (λ (same : j ≡ i). here watched (sym (own_same owns i slot below) ∙ ap (own_at (set owns i slot)) (sym same) ∙ is))
    (λ (other : j ≢ i). omega (arith, grown, few j watched (sym (own_other owns i j slot other) ∙ is)))
    (cases_eq j i)

-- to a plane, or to a window or none
pub few_plane : (owns : List (Option Own)) (i : ℕ) (watched : Watched) (writes more : ℕ) → i < length owns → writes ≤ more → IsFew (moment_of watched) (count_of watched) more → AreFew writes owns → AreFew more (set owns i (Some (Whole watched)))
few_plane owns i watched writes more below grown here few =
    few_set owns i (Some (Whole watched)) writes more below grown
    (λ other is. subst (λ (w : Watched). IsFew (moment_of w) (count_of w) more) (whole_is watched other is) here)
    few

pub few_window : (owns : List (Option Own)) (i : ℕ) (extent : Extent) (writes : ℕ) → i < length owns → AreFew writes owns → AreFew writes (set owns i (Some (Hidden extent)))
few_window owns i extent writes below few = few_set owns i (Some (Hidden extent)) writes writes below (omega arith) (λ watched is. absurd cc) few

pub few_gone : (owns : List (Option Own)) (i : ℕ) (writes : ℕ) → i < length owns → AreFew writes owns → AreFew writes (set owns i None)
few_gone owns i writes below few = few_set owns i None writes writes below (omega arith) (λ watched is. absurd cc) few

-- of a plane at most as many cells more are marked as pixels were written
pub few_written : (owns : List (Option Own)) (i : ℕ) (old new : Watched) (writes more n : ℕ) → i < length owns → own_at owns i ≡ Some (Whole old) → moment_of new ≡ moment_of old → count_of new ≤ count_of old + n → more ≡ writes + n → AreFew writes owns → AreFew more (set owns i (Some (Whole new)))
few_written owns i old new writes more n below was moment count grown few =
    few_plane owns i new writes more below (omega (arith, grown))
    (omega (arith, few i old was, count, grown, ap (λ (m : Moment). m.count) moment, ap (λ (m : Moment). m.writes) moment))
    few
