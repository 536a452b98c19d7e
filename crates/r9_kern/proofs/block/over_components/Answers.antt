use Rattle.std.proofs.Common.{◌≡◌, ℕ, List, ◌+◌, ◌-◌, ◌*◌, ◌<◌, min, true, false, get_or, sym, ap, subst, ◌∙◌, arith, w8}
use Rattle.std.proofs.lemmas.Simd.{get_or-zip2, Each1-get_or, below_from_Fits}
use Rattle.model_pixel.specs.Composition.{mul, share}
use Rattle.r9_kern.proofs.LaneLemmas.{mul-small, of_two, saturated_at}
use Rattle.r9_kern.proofs.block.over_components.Goals as goal

pub returns : goal.returns
returns c j k less small =
    let s = c.args.s in
    let d = c.args.d in
    let kept = c.joined.result in
    let alpha = get_or c.args.alphas j 0 in
    let moved : (l : List ℕ) (n k : ℕ) → n ≡ k → get_or l n 0 ≡ get_or l k 0 = λ l n k e. ap (λ n. get_or l n 0) e in
    let even : get_or kept (2 * j + 0) 0 ≡ mul (get_or d (2 * j + 0) 0) (255 - alpha) =
    moved kept (2 * j + 0) (2 * j) (omega arith)
    ∙ c.joined.ensures.even j less
    ∙ ap (λ (l : List ℕ). get_or l j 0) c.share_lanes-even.ensures.value
    ∙ get_or-zip2 (share false true) c.even.result c.args.alphas j 0 0 0 (omega (arith, c.even.type_inv)) (omega (arith, c.fits-alphas.0))
    ∙ ap (λ (x : ℕ). mul x (255 - alpha)) (c.even.ensures.value j less ∙ moved d (2 * j) (2 * j + 0) (omega arith))
    in
    let odd : get_or kept (2 * j + 1) 0 ≡ mul (get_or d (2 * j + 1) 0) (255 - alpha) =
    c.joined.ensures.odd j less
    ∙ ap (λ (l : List ℕ). get_or l j 0) c.share_lanes-odd.ensures.value
    ∙ get_or-zip2 (share false true) c.odd.result c.args.alphas j 0 0 0 (omega (arith, c.odd.type_inv)) (omega (arith, c.fits-alphas.0))
    ∙ ap (λ (x : ℕ). mul x (255 - alpha)) (c.odd.ensures.value j less)
    in
    let n = 2 * j + k in
    let here : get_or kept n 0 ≡ mul (get_or d n 0) (255 - alpha) = of_two (λ k. get_or kept (2 * j + k) 0 ≡ mul (get_or d (2 * j + k) 0) (255 - alpha)) even odd k small in
    let source : get_or s n 0 < 256 = Each1-get_or (λ x. x < 256) s n 0 (omega (arith, c.fits-s.0)) (below_from_Fits w8 s c.fits-s.1) in
    let destination : get_or d n 0 < 256 = Each1-get_or (λ x. x < 256) d n 0 (omega (arith, c.fits-d.0)) (below_from_Fits w8 d c.fits-d.1) in
    let few : get_or kept n 0 < 256 = subst (λ (v : ℕ). v < 256) (sym here) (mul-small (get_or d n 0) (255 - alpha) destination (omega arith)) in
    saturated_at s kept n (omega (arith, c.fits-s.0)) (omega (arith, c.joined.type_inv)) source few
    ∙ ap (λ (v : ℕ). min 255 (get_or s n 0 + v)) here
