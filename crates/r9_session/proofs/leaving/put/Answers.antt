use Rattle.std.proofs.Common.{◌∙◌, ℕ, List, length, ap, arith}
use Rattle.std.specs.Prelude.{nat_le}
use Rattle.std.specs.List.{position_or_len}
use Rattle.r9_session.proofs.Gone.{put_before, put_last, put_there}
use Rattle.r9_session.proofs.leaving.put.Goals as goal
use Rattle.r9_session.proofs.leaving.put.Goals.{else-place-len-via-then-place-len+else-index-number, else-place-len-via-else-place-len}

pub returns-then-index-number : goal.returns-then-index-number
returns-then-index-number c =
    put_there c.args.number c.place_of-place.result c.index.result.now c.args.numbers.now.items (c.place_of-place.ensures.place ∙ ap (λ (ms : List ℕ). position_or_len (λ other. nat_le c.args.number other) ms) c.deref.ensures.value) (omega (arith, c.if-place-len.true, c.len.ensures, ap length c.deref.ensures.value)) c.index.ensures c.if-index-number.true

pub returns : goal.returns
returns c = elim c.else-place-len.branch [
  | else-place-len-via-then-place-len+else-index-number w ↦ c.in_ok-insert.ensures.items ∙ put_before c.args.number c.place_of-place.result w.index.result.now c.args.numbers.now.items (c.place_of-place.ensures.place ∙ ap (λ (ms : List ℕ). position_or_len (λ other. nat_le c.args.number other) ms) c.deref.ensures.value) w.index.ensures w.if-index-number.false
  | else-place-len-via-else-place-len w ↦ c.in_ok-insert.ensures.items ∙ put_last c.args.number c.place_of-place.result c.args.numbers.now.items (c.place_of-place.ensures.place ∙ ap (λ (ms : List ℕ). position_or_len (λ other. nat_le c.args.number other) ms) c.deref.ensures.value) (omega (arith, w.if-place-len.false, c.len.ensures))
]
