use Rattle.std.proofs.Common.{◌+◌, List, sym, ap, subst, ◌∙◌, arith}
use Rattle.std.proofs.lemmas.List.Elements.{All-rest}
use Rattle.model_draw_parts.specs.declared.images.Thing.{Thing}
use Rattle.model_draw_parts.specs.images.Release.{released}
use Rattle.model_draw_parts.proofs.images.Steps.{released-none}
use Rattle.r9_images.specs.uses.Freed.{freed_of, IsKnown, left_of, HasRoom}
use Rattle.r9_images.proofs.uses.uses.Uses.settle.Goals as goal

pub look-requires-clause-all : goal.look-requires-clause-all
look-requires-clause-all c = All-rest (IsKnown c.settling.self) c.in-Some.thing c.pop.new.self.things c.settling.pending.things c.in-Some.ensures.next c.settling.invariant.all

pub settling-preserved : goal.settling-preserved
settling-preserved c =
    let now = c.settling.self in
    let next = c.in-Some.ensures.next in
    record {
      step = λ ties next_tie.
          c.look.ensures.step ties next_tie ∙ ap (λ (ts : List Thing). released (freed_of now ties next_tie) ts) (sym next) ∙ c.settling.invariant.step ties next_tie;
      room = λ more h.
          let P : List Thing → Type 0 = λ ts. HasRoom now (left_of now ts + more) in
          c.look.ensures.room more (subst P next (c.settling.invariant.room more h));
      fewer = let same = ap (λ (ts : List Thing). left_of now ts) next in omega (arith, c.look.ensures.less, c.settling.invariant.fewer, same);
      all = c.look.ensures.all;
      more = omega (arith, c.look.ensures.more, c.settling.invariant.more);
      most = c.look.ensures.most ∙ c.pop.ensures.room ∙ c.settling.invariant.most;
      image_ids = c.look.ensures.image_ids ∙ c.settling.invariant.image_ids;
      screen_ids = c.look.ensures.screen_ids ∙ c.settling.invariant.screen_ids;
    }

pub returns-clause-freed : goal.returns-clause-freed
returns-clause-freed c = λ ties next_tie.
    let now = freed_of c.settling.self ties next_tie in
    sym (released-none now) ∙ ap (λ (ts : List Thing). released now ts) (sym c.in_default.ensures.none) ∙ c.settling.invariant.step ties next_tie

pub returns-clause-room : goal.returns-clause-room
returns-clause-room c = λ more h.
    let now = c.settling.self in
    let P : List Thing → Type 0 = λ ts. HasRoom now (left_of now ts + more) in
    subst P c.in_default.ensures.none (c.settling.invariant.room more h)

pub returns-clause-fewer : goal.returns-clause-fewer
returns-clause-fewer c =
    let same = ap (λ (ts : List Thing). left_of c.settling.self ts) c.in_default.ensures.none in
    omega (arith, same, c.settling.invariant.fewer)
