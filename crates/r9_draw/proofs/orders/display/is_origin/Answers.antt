use Rattle.std.proofs.Common.{◌≡◌, ◌∙◌, ℤ, neg_ℤ, ◌≤ℤ◌, pos, of_z, w64, true, false, sym, arith}
use Rattle.std.specs.Prelude.{◌==◌, ◌&&◌, ◌^◌}
use Rattle.std.specs.Ordering.{int_eq}
use Rattle.std.proofs.lemmas.Bool.{false_from_ne_true}
use Rattle.std.proofs.lemmas.Bool.Decides.{Decides-eqb}
use Rattle.std.proofs.lemmas.Int.{ints}
use Rattle.r9_draw.proofs.orders.Hosting.{alike}
use Rattle.r9_draw.proofs.orders.display.is_origin.Goals as goal

is_zero : (x : ℤ) → neg_ℤ (pos (2 ^ 33)) ≤ℤ x → x ≤ℤ pos (2 ^ 33) → (of_z w64 x == of_z w64 (pos 0)) ≡ int_eq x (pos 0)
is_zero x low high = alike x (pos 0) (omega (arith, ints)) (omega (arith, ints)) (omega (arith, ints)) (omega (arith, ints))

pub returns-then-p-eq0 : goal.returns-then-p-eq0
returns-then-p-eq0 c =
    let p = c.args.p in
    let x : true ≡ int_eq p.x (pos 0) = sym ((Decides-eqb (of_z w64 p.x) (of_z w64 (pos 0))).1 c.if-p-eq0.true) ∙ is_zero p.x c.requires.left c.requires.right in
    is_zero p.y c.requires.top c.requires.bottom ∙ (λ i. x i && int_eq p.y (pos 0))

pub returns-else-p-eq0 : goal.returns-else-p-eq0
returns-else-p-eq0 c =
    let p = c.args.p in
    let apart : (of_z w64 p.x == of_z w64 (pos 0)) ≡ false = false_from_ne_true _ (λ h. c.if-p-eq0.false ((Decides-eqb (of_z w64 p.x) (of_z w64 (pos 0))).0 h)) in
    let x : false ≡ int_eq p.x (pos 0) = sym apart ∙ is_zero p.x c.requires.left c.requires.right in
    apart ∙ (λ i. x i && int_eq p.y (pos 0))
