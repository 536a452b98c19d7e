use Rattle.std.proofs.Common.{◌≡◌, ◌≢◌, ◌∙◌, ◌<◌, ◌^◌, ℕ, get_or, slice_set, sym, ap, subst, arith, below_more}
use Rattle.std.proofs.lemmas.List.{get_or-set_same, get_or-set_other}
use Rattle.model_pixel.specs.Channels.{depth, expand, pack}
use Rattle.r9_put.proofs.fills.converting.convert.Goals as goal
use Rattle.r9_put.proofs.fills.converting.convert.Goals.{then-raws-k, else-raws-k}

pub loop-k-preserved : goal.loop-k-preserved
loop-k-preserved c =
    let raws = c.loop-k.raws in
    let k = c.loop-k.k in
    let to = c.args.to.now in
    let from = c.args.from.now in
    let last = c.if-raws-k.last in
    let value = c.if-raws-k.value in
    let is : last ≡ get_or raws k 0 = elim c.if-raws-k.branch [ then-raws-k w ↦ w.last-is | else-raws-k w ↦ omega (arith, w.last-is, w.if-raws-k.false) ] in
    let kept : value ≡ pack to (expand from last) =
    elim c.if-raws-k.branch [
      | then-raws-k w ↦ w.value-is ∙ w.converted-value-then-raws-k.ensures.value ∙ ap (λ n. pack to (expand from n)) (sym w.last-is)
      | else-raws-k w ↦ w.value-is ∙ c.loop-k.invariant.kept ∙ ap (λ n. pack to (expand from n)) (sym w.last-is)
    ] in
    let fits : value < 2 ^ depth to =
    elim c.if-raws-k.branch [
      | then-raws-k w ↦ subst (λ n. n < 2 ^ depth to) (sym w.value-is) w.converted-value-then-raws-k.ensures.range
      | else-raws-k w ↦ subst (λ n. n < 2 ^ depth to) (sym w.value-is) c.loop-k.invariant.fits
    ] in
    let new = slice_set raws k value in
    let here : get_or new k 0 ≡ value = get_or-set_same raws k value 0 (omega (arith, c.loop-k-test.true, c.loop-k.auto.raws)) in
    let other : (j : ℕ) → j ≢ k → get_or new j 0 ≡ get_or raws j 0 = λ j apart. get_or-set_other raws k j value 0 apart in
    record {
      value = below_more _ _ (λ j below. other j (omega (arith, below)) ∙ c.loop-k.invariant.value j below)
          (here ∙ kept ∙ ap (λ n. pack to (expand from n)) (is ∙ c.loop-k.invariant.left k (omega arith)));
      range = below_more _ _ (λ j below. subst (λ n. n < 2 ^ depth to) (sym (other j (omega (arith, below)))) (c.loop-k.invariant.range j below))
          (subst (λ n. n < 2 ^ depth to) (sym here) fits);
      left = λ j above. other j (omega (arith, above)) ∙ c.loop-k.invariant.left j (omega (arith, above));
      kept = kept;
      fits = fits;
    }
