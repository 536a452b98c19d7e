use Rattle.std.proofs.Common.{◌≡◌, ℕ, List, ◌+◌, ◌-◌, ◌*◌, ◌/◌, ◌%◌, ◌^◌, ◌<◌, min, get_or, ap, ◌∙◌, arith}
use Rattle.model_pixel.specs.Composition.{mul, composed, comp}
use Rattle.r9_kern.proofs.LaneLemmas.{over_is}
use Rattle.r9_kern.proofs.block.over_block.Goals as goal

pub returns : goal.returns
unfolding comp
returns c i less =
    let s = λ (k : ℕ). get_or c.args.s i 0 / 256 ^ k % 256 in
    let d = λ (k : ℕ). get_or c.args.d i 0 / 256 ^ k % 256 in
    let moved : (l : List ℕ) (n k : ℕ) → n ≡ k → get_or l n 0 ≡ get_or l k 0 = λ l n k e. ap (λ n. get_or l n 0) e in
    let alpha : (h : ℕ) → h < 2 → get_or c.alphas-alphas.result (2 * i + h) 0 ≡ s 0 = λ h small.
    c.alphas-alphas.ensures.value i h less small
    ∙ c.even.ensures.value (2 * i) (omega arith)
    ∙ moved c.components-s.result _ (4 * i + 0) (omega arith)
    ∙ c.components-s.ensures i 0 less (omega arith)
    in
    let byte : (h k : ℕ) → h < 2 → k < 2 → get_or c.over_components.result (4 * i + (2 * h + k)) 0 ≡ composed 11 (mul (s (2 * h + k)) 255) (mul (s 0) 255) (d (2 * h + k)) (d 0) = λ h k small below.
    let source = moved c.components-s.result (2 * (2 * i + h) + k) (4 * i + (2 * h + k)) (omega arith) ∙ c.components-s.ensures i (2 * h + k) less (omega arith) in
    let destination = moved c.components.result (2 * (2 * i + h) + k) (4 * i + (2 * h + k)) (omega arith) ∙ c.components.ensures i (2 * h + k) less (omega arith) in
    moved c.over_components.result _ (2 * (2 * i + h) + k) (omega arith)
    ∙ c.over_components.ensures (2 * i + h) k (omega arith) below
    ∙ (λ j. min 255 (source j + mul (destination j) (255 - alpha h small j)))
    ∙ over_is (s (2 * h + k)) (s 0) (d (2 * h + k)) (d 0)
    in
    let r = moved c.over_components.result (4 * i + 3) _ (omega arith) ∙ byte 1 1 (omega arith) (omega arith) in
    let g = moved c.over_components.result (4 * i + 2) _ (omega arith) ∙ byte 1 0 (omega arith) (omega arith) in
    let b = moved c.over_components.result (4 * i + 1) _ (omega arith) ∙ byte 0 1 (omega arith) (omega arith) in
    let a = moved c.over_components.result (4 * i) _ (omega arith) ∙ byte 0 0 (omega arith) (omega arith) in
    let s0 : s 0 ≡ get_or c.args.s i 0 % 256 = omega arith in
    let d0 : d 0 ≡ get_or c.args.d i 0 % 256 = omega arith in
    c.pixels.ensures.value i less
    ∙ (λ j. record { r = r j; g = g j; b = b j; a = a j })
    ∙ (λ j. record {
      r = composed 11 (mul (s 3) 255) (mul (s0 j) 255) (d 3) (d0 j);
      g = composed 11 (mul (s 2) 255) (mul (s0 j) 255) (d 2) (d0 j);
      b = composed 11 (mul (s 1) 255) (mul (s0 j) 255) (d 1) (d0 j);
      a = composed 11 (mul (s0 j) 255) (mul (s0 j) 255) (d0 j) (d0 j);
    })
