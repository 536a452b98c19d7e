use Rattle.std.proofs.Common.{◌≡◌, ◌++◌, ◌-◌, ◌∙◌, ℕ, suc, Option, sym, ap, subst, arith}
use Rattle.std.specs.List.{flat_map}
use Rattle.model_alone.specs.alone.Uses.{look_used}
use Rattle.model_draw.specs.looked.Again.{messages_read}
use Rattle.r9_used.specs.declared.looked.first.First.{First}
use Rattle.r9_used.specs.looked.Firsts.{IsFirst, IsLooked}
use Rattle.r9_used.proofs.looked.Reading.{reads_first}
use Rattle.r9_used.proofs.looked.again.look_within.Goals as goal

pub messages-preserved : goal.messages-preserved
messages-preserved c =
    let panes = c.args.panes.now.entries in
    let left = c.messages.left - 1 in
    let some = c.messages-test.true in
    let more : c.messages.left ≡ suc left = omega (arith, some) in
    let looked : IsLooked panes c.messages.bytes.now c.messages.uses c.in-Some.first c.look_first.new.uses =
    subst (λ (first : Option First). IsFirst panes c.messages.bytes.now c.messages.uses first c.look_first.new.uses) c.in-Some.is c.in_ok-first.ensures in
    c.messages.invariant ∙ ap (λ (n : ℕ). c.messages.uses ++ flat_map (look_used panes) (messages_read n c.messages.rows.now c.messages.bytes.now)) more
    ∙ reads_first panes left c.messages.rows.now c.messages.bytes.now c.messages.uses c.look_first.new.uses c.in-Some.first looked
    ∙ λ i. c.look_first.new.uses ++ flat_map (look_used panes) (messages_read left (sym (c.behind_first.ensures.rows looked.message looked.write) i) (sym (c.behind_first.ensures.bytes looked.message looked.write) i))
