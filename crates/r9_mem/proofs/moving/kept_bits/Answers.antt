use Rattle.std.proofs.Common.{◌≡◌, ◌∙◌, ℕ, true, sym, subst, ap}
use Rattle.std.specs.Int.Bits.{bit_and}
use Rattle.std.proofs.lemmas.Bool.{eqb-true}
use Rattle.model_pixel.specs.Channels.{expand, is_descriptor, pack}
use Rattle.r9_mem.proofs.MovingLemmas.{moved}
use Rattle.r9_mem.proofs.moving.kept_bits.Goals as goal

pub returns-then-eq : goal.returns-then-eq
returns-then-eq c s =
    let src = c.args.src.now in
    let is : is_descriptor src ≡ true = subst (λ (w : ℕ). is_descriptor w ≡ true) c.word.ensures.value c.word.ensures.descriptor in
    let same : src ≡ c.args.dst.now = sym (eqb-true _ _ (sym c.eq.ensures ∙ c.if-eq.true)) in
    ap (bit_and s) (c.pack.ensures.value ∙ ap (pack src) c.of_word-white.ensures)
    ∙ moved src s is
    ∙ ap (λ (w : ℕ). pack w (expand src s)) same
