use Rattle.std.proofs.Common.{◌≡◌, ℕ, ◌-◌, ◌*◌, ◌/◌, ◌%◌, ◌^◌, ap, sym, ◌∙◌, arith}
use Rattle.std.specs.Int.Bits.{bit_and}
use Rattle.model_pixel.specs.Channels.{colour_of}
use Rattle.r9_mem.specs.Fields.{part}
use Rattle.r9_mem.specs.Packing.{shown}
use Rattle.r9_mem.proofs.FieldLemmas.{and_none}
use Rattle.r9_mem.proofs.PackingLemmas.{top_bits, none_shifted, shown-below}
use Rattle.r9_mem.proofs.place.place_of.Goals as goal

pub returns-in-Some-clause-value : goal.returns-in-Some-clause-value
unfolding part
returns-in-Some-clause-value c word =
    ap (λ (n : ℕ). n * 2 ^ c.args.to) (top_bits word c.in-Some.start (c.args.byte % 16) _ c.requires.bits (c.in-Some.ensures.some.1 word))

-- a place of no bits gives 0, and so does what starts nowhere
nothing : (x value to : ℕ) → value ≡ 0 → bit_and x 0 * 1 ≡ value * 2 ^ to
nothing x value to none =
    ap (λ (n : ℕ). n * 1) (and_none x) ∙ sym (ap (λ (n : ℕ). n * 2 ^ to) none ∙ omega arith)

pub returns-in_default-clause-value : goal.returns-in_default-clause-value
unfolding part
returns-in_default-clause-value c word =
    let value = shown (colour_of word) (c.args.byte / 16) in
    let small = shown-below word (c.args.byte / 16) in
    let bits : 8 - c.args.byte % 16 ≡ 8 = omega arith in
    let none : value / 256 ≡ 0 = omega (arith, small) in
    nothing (word / 1) _ c.args.to (ap (λ (n : ℕ). value / 2 ^ n) bits ∙ none)

pub returns-in_default-2-clause-value : goal.returns-in_default-2-clause-value
unfolding part
returns-in_default-2-clause-value c word =
    nothing (word / 1) _ c.args.to (none_shifted _ (8 - c.args.byte % 16) (c.in_default.ensures.none word))
