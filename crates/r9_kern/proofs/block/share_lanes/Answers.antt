use Rattle.std.proofs.Common.{◌≡◌, Bool, true, false, List, ℕ, sym, subst, ◌∙◌, arith}
use lib.Lanes.{zip2}
use Rattle.model_pixel.specs.Composition.{share}
use Rattle.r9_kern.proofs.LaneLemmas.{Bytes, all_kept, none_kept_is, outside_kept_is, rests_small, shares-small}
use Rattle.r9_kern.proofs.block.share_lanes.Goals as goal
use Rattle.r9_kern.proofs.block.share_lanes.Goals.{in-true-true, in-true-false, in-false-true, in-false-false}

told : (inside outside inside' outside' : Bool) (xs ys zs : List ℕ) → inside ≡ inside' → outside ≡ outside' → zs ≡ zip2 (share inside' outside') xs ys → zs ≡ zip2 (share inside outside) xs ys
told inside outside inside' outside' xs ys zs e f is = is ∙ (λ i. zip2 (share (sym e i) (sym f i)) xs ys)

pub mul_lanes-requires-in-false-true-clause-right : goal.mul_lanes-requires-in-false-true-clause-right
mul_lanes-requires-in-false-true-clause-right c = rests_small c.args.alpha c.requires.alphas

pub returns : goal.returns
returns c =
    let v = c.args.value in
    let a = c.args.alpha in
    let is : c.if-inside.result ≡ zip2 (share c.args.inside c.args.outside) v a =
    elim c.if-inside.branch [
      | in-true-true w ↦ told _ _ true true v a _ w.in-true-true.is-0 w.in-true-true.is-1 (w.result-is ∙ all_kept v a (omega (arith, c.fits-value.0, c.fits-alpha.0)))
      | in-true-false w ↦ told _ _ true false v a _ w.in-true-false.is-0 w.in-true-false.is-1 (w.result-is ∙ w.mul_lanes.ensures.value)
      | in-false-true w ↦ told _ _ false true v a _ w.in-false-true.is-0 w.in-false-true.is-1 (w.result-is ∙ w.mul_lanes-in-false-true.ensures.value ∙ outside_kept_is 8 v a c.fits-value.0 c.requires.alphas)
      | in-false-false w ↦ told _ _ false false v a _ w.in-false-false.is-0 w.in-false-false.is-1 (w.result-is ∙ none_kept_is 8 v a c.fits-value.0 c.fits-alpha.0)
    ]
    in record {
      value = is;
      range = subst Bytes (sym is) (shares-small c.args.inside c.args.outside v a c.requires.values c.requires.alphas);
    }
