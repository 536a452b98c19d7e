use Rattle.std.proofs.Common.{◌≡◌, ℕ, List, ◌+◌, ◌/◌, ◌%◌, min, ◌==◌, get_or, ap, ◌∙◌, arith}
use Rattle.std.proofs.lemmas.Simd.{get_or-zip2}
use Rattle.model_pixel.specs.Composition.{share, composed, has_bit}
use Rattle.r9_kern.proofs.block.comp_lanes.Goals as goal

pub returns-clause-value : goal.returns-clause-value
unfolding composed
returns-clause-value c j less =
    let op = c.args.op in
    let at = λ (l : List ℕ). get_or l j 0 in
    let low : op % 2 ≡ op / 1 % 2 = omega arith in
    let source = ap at c.share_lanes-source.ensures.value
    ∙ get_or-zip2 (share (has_bit op 3) (has_bit op 1)) c.args.s c.args.da j 0 0 0 (omega (arith, c.fits-s.0)) (omega (arith, c.fits-da.0)) in
    let destination = ap at c.share_lanes-destination.ensures.value
    ∙ get_or-zip2 (share (has_bit op 2) (op % 2 == 1)) c.args.d c.args.sa j 0 0 0 (omega (arith, c.fits-d.0)) (omega (arith, c.fits-sa.0))
    ∙ (λ i. share (has_bit op 2) (low i == 1) (get_or c.args.d j 0) (get_or c.args.sa j 0)) in
    ap at c.add_lanes.ensures.value
    ∙ get_or-zip2 (λ x y. min 255 (x + y)) c.share_lanes-source.result c.share_lanes-destination.result j 0 0 0 (omega (arith, c.share_lanes-source.type_inv)) (omega (arith, c.share_lanes-destination.type_inv))
    ∙ (λ i. min 255 (source i + destination i))
