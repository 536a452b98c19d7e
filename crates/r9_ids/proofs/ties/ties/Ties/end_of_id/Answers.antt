use Rattle.std.proofs.Common.{true, length, find, ap, sym, ◌∙◌, arith}
use Rattle.std.specs.Prelude.{◌==◌, not, filter}
use Rattle.model_draw_parts.specs.declared.images.Tie.{Tie}
use Rattle.model_draw_parts.specs.images.Release.{is_tied_by}
use Rattle.r9_ids.proofs.ties.Lists.{filter-twice, length-fewer}
use Rattle.r9_ids.proofs.ties.Keeping.{some-and, same-told, none-left}
use Rattle.r9_ids.proofs.ties.ties.Ties.end_of_id.Goals as goal

pub ending-smaller : goal.ending-smaller
ending-smaller c =
    let found = some-and (find (λ t. t.number == c.in-Some.number) c.ending.self.ties) _ c.in-Some.ensures.first in
    let fewer = length-fewer (λ (t : Tie). t.number == c.in-Some.number) c.ending.self.ties found.0 found.1 in
    let same = ap length c.end.ensures.ties in
    omega (arith, fewer, same)

pub ending-preserved : goal.ending-preserved
ending-preserved c =
    let found = some-and (find (λ t. t.number == c.in-Some.number) c.ending.self.ties) _ c.in-Some.ensures.first in
    record {
      rest =
          ap (filter (λ t. not ((is_tied_by c.args.client c.args.id) t))) c.end.ensures.ties
          ∙ filter-twice (is_tied_by c.args.client c.args.id) (λ (t : Tie). t.number == c.in-Some.number) c.ending.self.ties (same-told (is_tied_by c.args.client c.args.id) true c.in-Some.number found.0 c.ending.self.ties c.in-Some.ensures.once found.1 found.2)
          ∙ c.ending.invariant.rest;
      same = c.end.ensures.next ∙ c.ending.invariant.same;
      room = omega (arith, c.end.ensures.room, c.ending.invariant.room);
    }

pub returns-clause-ties : goal.returns-clause-ties
returns-clause-ties c = sym (none-left (is_tied_by c.args.client c.args.id) c.ending.self.ties c.in_default.ensures.first) ∙ c.ending.invariant.rest
