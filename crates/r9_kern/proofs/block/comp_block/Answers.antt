use Rattle.std.proofs.Common.{◌≡◌, ℕ, List, ◌+◌, ◌*◌, ◌/◌, ◌%◌, ◌^◌, ◌<◌, get_or, ap, ◌∙◌, arith}
use Rattle.std.proofs.lemmas.Simd.{get_or-zip2}
use Rattle.model_pixel.specs.Composition.{mul, composed, comp}
use Rattle.r9_kern.proofs.block.comp_block.Goals as goal

pub returns : goal.returns
unfolding comp
returns c i less =
    let op = c.args.op in
    let m = get_or c.args.m i 0 in
    let s = λ (k : ℕ). get_or c.args.s i 0 / 256 ^ k % 256 in
    let d = λ (k : ℕ). get_or c.args.d i 0 / 256 ^ k % 256 in
    let place = λ (l : List ℕ) (h : ℕ). get_or l (2 * i + h) 0 in
    let lane : (h : ℕ) → h < 2 → 2 * i + h < 8 = λ h small. omega arith in
    let moved : (l : List ℕ) (n k : ℕ) → n ≡ k → get_or l n 0 ≡ get_or l k 0 = λ l n k e. ap (λ n. get_or l n 0) e in
    let s_even : (h : ℕ) → h < 2 → place c.mul_lanes-s_even.result h ≡ mul (s (2 * h)) m = λ h small.
    ap (λ (l : List ℕ). place l h) c.mul_lanes-s_even.ensures.value
    ∙ get_or-zip2 mul c.even.result c.spread-masks.result (2 * i + h) 0 0 0 (omega (arith, c.even.type_inv)) (omega (arith, c.spread-masks.type_inv))
    ∙ (λ j. mul ((c.even.ensures.value (2 * i + h) (lane h small) ∙ moved c.components-s.result _ (4 * i + 2 * h) (omega arith) ∙ c.components-s.ensures i (2 * h) less (omega arith)) j) (c.spread-masks.ensures.value i h less small j))
    in
    let s_odd : (h : ℕ) → h < 2 → place c.mul_lanes-s_odd.result h ≡ mul (s (2 * h + 1)) m = λ h small.
    ap (λ (l : List ℕ). place l h) c.mul_lanes-s_odd.ensures.value
    ∙ get_or-zip2 mul c.odd.result c.spread-masks.result (2 * i + h) 0 0 0 (omega (arith, c.odd.type_inv)) (omega (arith, c.spread-masks.type_inv))
    ∙ (λ j. mul ((c.odd.ensures.value (2 * i + h) (lane h small) ∙ moved c.components-s.result _ (4 * i + (2 * h + 1)) (omega arith) ∙ c.components-s.ensures i (2 * h + 1) less (omega arith)) j) (c.spread-masks.ensures.value i h less small j))
    in
    let d_even : (h : ℕ) → h < 2 → place c.even-d_even.result h ≡ d (2 * h) = λ h small.
    c.even-d_even.ensures.value (2 * i + h) (lane h small) ∙ moved c.components-d.result _ (4 * i + 2 * h) (omega arith) ∙ c.components-d.ensures i (2 * h) less (omega arith)
    in
    let d_odd : (h : ℕ) → h < 2 → place c.odd-d_odd.result h ≡ d (2 * h + 1) = λ h small.
    c.odd-d_odd.ensures.value (2 * i + h) (lane h small) ∙ moved c.components-d.result _ (4 * i + (2 * h + 1)) (omega arith) ∙ c.components-d.ensures i (2 * h + 1) less (omega arith)
    in
    let sa : (h : ℕ) → h < 2 → place c.alphas-sa.result h ≡ mul (s 0) m = λ h small.
    c.alphas-sa.ensures.value i h less small ∙ moved c.mul_lanes-s_even.result (2 * i) (2 * i + 0) (omega arith) ∙ s_even 0 (omega arith)
    in
    let da : (h : ℕ) → h < 2 → place c.alphas-da.result h ≡ d 0 = λ h small.
    c.alphas-da.ensures.value i h less small ∙ moved c.even-d_even.result (2 * i) (2 * i + 0) (omega arith) ∙ d_even 0 (omega arith)
    in
    let even : (h : ℕ) → h < 2 → place c.comp_lanes-even.result h ≡ composed op (mul (s (2 * h)) m) (mul (s 0) m) (d (2 * h)) (d 0) = λ h small.
    c.comp_lanes-even.ensures.value (2 * i + h) (lane h small) ∙ (λ j. composed op (s_even h small j) (sa h small j) (d_even h small j) (da h small j))
    in
    let odd : (h : ℕ) → h < 2 → place c.comp_lanes-odd.result h ≡ composed op (mul (s (2 * h + 1)) m) (mul (s 0) m) (d (2 * h + 1)) (d 0) = λ h small.
    c.comp_lanes-odd.ensures.value (2 * i + h) (lane h small) ∙ (λ j. composed op (s_odd h small j) (sa h small j) (d_odd h small j) (da h small j))
    in
    let r = moved c.joined.result (4 * i + 3) _ (omega arith) ∙ c.joined.ensures.odd (2 * i + 1) (lane 1 (omega arith)) ∙ odd 1 (omega arith) in
    let g = moved c.joined.result (4 * i + 2) _ (omega arith) ∙ c.joined.ensures.even (2 * i + 1) (lane 1 (omega arith)) ∙ even 1 (omega arith) in
    let b = moved c.joined.result (4 * i + 1) _ (omega arith) ∙ c.joined.ensures.odd (2 * i + 0) (lane 0 (omega arith)) ∙ odd 0 (omega arith) in
    let a = moved c.joined.result (4 * i) _ (omega arith) ∙ c.joined.ensures.even (2 * i + 0) (lane 0 (omega arith)) ∙ even 0 (omega arith) in
    let s0 : s 0 ≡ get_or c.args.s i 0 % 256 = omega arith in
    let d0 : d 0 ≡ get_or c.args.d i 0 % 256 = omega arith in
    c.pixels.ensures.value i less
    ∙ (λ j. record { r = r j; g = g j; b = b j; a = a j })
    ∙ (λ j. record {
      r = composed op (mul (s 3) m) (mul (s0 j) m) (d 3) (d0 j);
      g = composed op (mul (s 2) m) (mul (s0 j) m) (d 2) (d0 j);
      b = composed op (mul (s 1) m) (mul (s0 j) m) (d 1) (d0 j);
      a = composed op (mul (s0 j) m) (mul (s0 j) m) (d0 j) (d0 j);
    })
