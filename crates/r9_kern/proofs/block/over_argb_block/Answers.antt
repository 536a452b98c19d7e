use Rattle.std.proofs.Common.{◌≡◌, ℕ, List, ◌+◌, ◌-◌, ◌*◌, ◌<◌, min, get_or, ap, ◌∙◌, arith}
use Rattle.model_pixel.specs.Composition.{mul}
use Rattle.r9_kern.proofs.OverLemmas.{byte, kept, Has, argb_is, xrgb_is}
use Rattle.r9_kern.proofs.block.over_argb_block.Goals as goal

-- the bytes of each pixel
has : (c : goal.After-pixels) (i : ℕ) → i < 4 → Has (get_or c.pixels.result i 0) (get_or c.args.s i 0) (get_or c.args.d i 0)
has c i less =
    let s = get_or c.args.s i 0 in
    let d = get_or c.args.d i 0 in
    let moved : (l : List ℕ) (n k : ℕ) → n ≡ k → get_or l n 0 ≡ get_or l k 0 = λ l n k e. ap (λ n. get_or l n 0) e in
    let alpha : (h : ℕ) → h < 2 → get_or c.highest-alphas.result (2 * i + h) 0 ≡ byte 3 s = λ h small.
    c.highest-alphas.ensures.value i h less small
    ∙ c.odd.ensures.value (2 * i + 1) (omega arith)
    ∙ moved c.components-s.result _ (4 * i + 3) (omega arith)
    ∙ c.components-s.ensures i 3 less (omega arith)
    in
    let at : (h k : ℕ) → h < 2 → k < 2 → get_or c.over_components.result (4 * i + (2 * h + k)) 0 ≡ kept s d (2 * h + k) = λ h k small below.
    let source = moved c.components-s.result (2 * (2 * i + h) + k) (4 * i + (2 * h + k)) (omega arith) ∙ c.components-s.ensures i (2 * h + k) less (omega arith) in
    let destination = moved c.components.result (2 * (2 * i + h) + k) (4 * i + (2 * h + k)) (omega arith) ∙ c.components.ensures i (2 * h + k) less (omega arith) in
    moved c.over_components.result _ (2 * (2 * i + h) + k) (omega arith)
    ∙ c.over_components.ensures (2 * i + h) k (omega arith) below
    ∙ (λ j. min 255 (source j + mul (destination j) (255 - alpha h small j)))
    in
    let r = moved c.over_components.result (4 * i + 3) _ (omega arith) ∙ at 1 1 (omega arith) (omega arith) in
    let g = moved c.over_components.result (4 * i + 2) _ (omega arith) ∙ at 1 0 (omega arith) (omega arith) in
    let b = moved c.over_components.result (4 * i + 1) _ (omega arith) ∙ at 0 1 (omega arith) (omega arith) in
    let a = moved c.over_components.result (4 * i) _ (omega arith) ∙ at 0 0 (omega arith) (omega arith) in
    c.pixels.ensures.value i less ∙ (λ j. record { r = r j; g = g j; b = b j; a = a j })

pub returns-clause-argb : goal.returns-clause-argb
returns-clause-argb c i less =
    argb_is (get_or c.pixels.result i 0) (get_or c.args.s i 0) (get_or c.args.d i 0) (c.pixels.ensures.range i) (has c i less)

pub returns-clause-xrgb : goal.returns-clause-xrgb
returns-clause-xrgb c i less = xrgb_is (get_or c.pixels.result i 0) (get_or c.args.s i 0) (get_or c.args.d i 0) (has c i less)
