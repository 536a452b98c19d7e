use Rattle.std.proofs.Common.{rules, ◌≡◌, ◌∙◌, true, Some, sym, ap, subst}
use Rattle.model_text.specs.text.Map.{lookup}
use Rattle.model_files.specs.tree.Node.{Node, writes}
use Rattle.model_world.specs.Reading.{is_open_for}
use Rattle.model_draw.specs.draw.Act.{no_memory}
use Rattle.model_world.specs.Refusal.{Refuses}
use Rattle.r9_wire.specs.declared.message.Rmsg.{Rmsg}
use Rattle.r9_wire.specs.View.{r_of}
use Rattle.r9_tree.specs.View.{node_of}
use Rattle.r9_session.proofs.Opened.{cut_of}
use Rattle.r9_files.specs.around.Words.{mark_after}
use Rattle.r9_session.proofs.Telling.{told_of}
use Rattle.r9_session.proofs.Told.{write_tells}
use Rattle.r9_session.proofs.session.Session.write.Goals as goal
use Rattle.r9_session.proofs.session.Session.write.Goals.{in-Some-refusal+in_ok-reply-in-Some-refusal, in-None}

pub returns-clause-told : goal.returns-clause-told
returns-clause-told g c = elim c.match-written.branch [
  | in-Some-refusal+in_ok-reply-in-Some-refusal w ↦ write_tells c.args.tag w.in-Some-refusal.number (r_of c.match-written.reply) c.in_ok-written.written.refusal c.in_ok-written.written.short
      (ap r_of w.reply-is ∙ w.in_ok-reply-in-Some-refusal.ensures.reply) w.in-Some-refusal.is c.in_ok-written.ensures.refused
  | in-None w ↦ λ wants. absurd (subst (λ (reply : Rmsg). Refuses no_memory (r_of reply)) w.reply-is wants)
]

pub returns-clause-cause : goal.returns-clause-cause
returns-clause-cause g c =
    let session = c.args.self.now in
    let found = c.in-Some.found.now in
    let at : lookup session.fids c.args.fid ≡ Some found = search rules in
    let mode_is : is_open_for writes found ≡ true = search rules in
    let same : node_of c.node-node.result ≡ found.node = search rules in
    let node = node_of c.node-node.result in
    cut_of (g.O.Outside.wants c.args.number) session (g.O.Outside.state c.args.outside.now) c.args.fid c.args.bytes.now c.args.mark _ found node node.kind at mode_is same (ap (λ (n : Node). n.kind) (sym same)) c.in_ok-written.ensures.cause

pub returns-clause-messages : goal.returns-clause-messages
returns-clause-messages g c =
    let session = c.args.self.now in
    let found = c.in-Some.found.now in
    let at : lookup session.fids c.args.fid ≡ Some found = search rules in
    let same : node_of c.node-node.result ≡ found.node = search rules in
    told_of (g.O.Outside.tells c.args.number) session (g.O.Outside.state c.args.outside.now) c.args.fid c.args.bytes.now (mark_after c.args.mark c.in_ok-written.written.short) c.in_ok-written.written.told found
    (node_of c.node-node.result) at same c.in_ok-written.ensures.told
