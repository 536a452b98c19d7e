use Rattle.std.proofs.Common.{◌≡◌, ℕ, length, take, eqb, eq-eqb, sym, ap, arith}
use Rattle.std.specs.List.{position_or_len}
use Rattle.std.proofs.lemmas.List.{take_all}
use Rattle.std.proofs.lemmas.List.Sums.{position_or_len_is}
use Rattle.r9_session.proofs.answer.before_period.Goals as goal

pub returns-then-byte-eq46 : goal.returns-then-byte-eq46
returns-then-byte-eq46 c =
    let text = c.args.text.now in
    let first : position_or_len (λ byte. eqb byte 46) text ≡ c.loop-at.at =
    position_or_len_is (λ byte. eqb byte 46) text c.loop-at.at 0 (omega arith) c.loop-at.invariant (λ within. eq-eqb _ _ c.if-byte-eq46.true) in
    ap (λ (n : ℕ). take n text) (sym first)

pub returns : goal.returns
returns c =
    let text = c.args.text.now in
    let none : position_or_len (λ byte. eqb byte 46) text ≡ length text =
    position_or_len_is (λ byte. eqb byte 46) text (length text) 0 (omega arith) (λ k lt. c.loop-at.invariant k (omega arith)) (λ past. absurd (omega arith)) in
    sym (take_all _ text (omega arith))
