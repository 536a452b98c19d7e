use Rattle.std.proofs.Common.{ℕ, ◌+◌, ◌*◌, ◌/◌, ◌%◌, ◌^◌, ◌<◌, ap, sym, subst, ◌∙◌, arith, pow_mono}
use Rattle.std.proofs.lemmas.Nat.{one_shl}
use Rattle.r9_mem.specs.Fields.{value}
use Rattle.r9_mem.proofs.FieldLemmas.{masked, bits-below}
use Rattle.r9_mem.proofs.field.product.Goals as goal

pub returns-clause-value : goal.returns-clause-value
unfolding value
returns-clause-value c raw =
    let x = raw / 2 ^ c.args.low in
    let kept = ap (λ (v : ℕ). v * c.args.times / 2 ^ c.args.cut + 0) (masked x c.args.bits (omega arith)) in
    kept ∙ omega arith

pub returns-clause-field : goal.returns-clause-field
returns-clause-field c =
    let most = pow_mono c.requires.bits in
    let one = one_shl c.args.bits 32 (omega arith) in
    record {
      low = c.requires.low;
      ones = omega (arith, most, one);
      times = c.requires.times;
      cut = c.requires.cut;
      base = omega arith;
      below = λ raw.
          let x = raw / 2 ^ c.args.low in
          subst (λ (n : ℕ). n < 256) (sym (returns-clause-value c raw)) (c.requires.below (x % 2 ^ c.args.bits) (bits-below x c.args.bits));
    }
