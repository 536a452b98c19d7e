use Rattle.std.proofs.Common.{◌≡◌, ◌^◌, ℕ, List, None, nat_cmp, sym, ap, subst}
use Rattle.std.specs.Map.{lookup}
use Rattle.std.specs.BTreeMap.{get, is_at}
use Rattle.model_draw_parts.specs.declared.fonts.Cell.{Cell}
use Rattle.model_draw_parts.specs.fonts.Font.{Font, AreWithin}
use Rattle.model_draw_parts.proofs.fonts.Within.{within-new}
use Rattle.r9_fonts.proofs.Kept.{new-kept}
use Rattle.r9_fonts.proofs.font.Font.new.Goals as goal

pub returns : goal.returns
returns c =
    let none : (i : ℕ) → get nat_cmp c.new.result i ≡ None = λ i. ap (λ (es : List (ℕ × Cell)). lookup (is_at (nat_cmp i)) es) c.new.ensures.empty in
    new-kept c.args.ascent c.args.n (get nat_cmp c.new.result) none

pub invariant_of-result : goal.invariant_of-result
invariant_of-result c = subst (AreWithin (2 ^ 33)) (sym (ap (λ (f : Font). f.cells) (returns c))) (within-new (2 ^ 33) c.args.n c.args.ascent)
