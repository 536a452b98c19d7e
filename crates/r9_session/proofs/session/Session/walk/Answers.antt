use Rattle.std.proofs.Common.{rules, ◌≡◌, ◌∙◌, ◌++◌, ℕ, false, length, map, Option, Some, arith, eq-eqb, sym, ap, subst}
use Rattle.std.specs.Prelude.{◌==◌, is_some}
use Rattle.std.proofs.lemmas.Bool.{false≢true}
use Rattle.model_text.specs.text.Map.{lookup}
use Rattle.model_text.specs.text.Outcome.{Outcome}
use Rattle.model_files.specs.tree.Node.{qid}
use Rattle.model_world.specs.Fids.{Done, is_bound, is_full}
use Rattle.model_world.specs.Walking.{last, walk_ended, walked}
use Rattle.r9_tree.specs.View.{node_of}
use Rattle.r9_session.specs.Answers.{IsAnswer}
use Rattle.r9_session.proofs.Walks.{few_qids, walk_is}
use Rattle.r9_session.proofs.session.Session.walk.Goals as goal
use Rattle.r9_session.proofs.session.Session.walk.Goals.{then-newfid-fid+in_ok-check_free, else-newfid-fid}

pub end_walk-requires-clause-few : goal.end_walk-requires-clause-few
end_walk-requires-clause-few g c =
    few_qids _ _ _ _ _ c.new-qids.ensures (c.in_ok-walked.ensures.qids 0) (omega (arith, c.requires, ap length c.as_slice.ensures))

pub returns : goal.returns
returns g c = λ number.
    let session = c.args.self.now in
    let rest = g.O.Outside.state c.args.outside.now in
    let found = c.in-Some.found.now in
    let view = (g.O.Outside.outside number).view rest session.connections in
    let at : lookup session.fids c.args.fid ≡ Some found = search rules in
    let closed : is_some found.mode ≡ false = search rules in
    let free : (c.args.newfid == c.args.fid) ≡ false → is_bound session c.args.newfid ≡ false = λ apart. elim c.if-newfid-fid.branch [
      | then-newfid-fid+in_ok-check_free w ↦ w.in_ok-check_free.ensures.0
      | else-newfid-fid w ↦ absurd (false≢true (sym apart ∙ eq-eqb _ _ w.if-newfid-fid.false))
    ] in
    let room : (c.args.newfid == c.args.fid) ≡ false → is_full session ≡ false = λ apart. elim c.if-newfid-fid.branch [
      | then-newfid-fid+in_ok-check_free w ↦ w.in_ok-check_free.ensures.1
      | else-newfid-fid w ↦ absurd (false≢true (sym apart ∙ eq-eqb _ _ w.if-newfid-fid.false))
    ] in
    let way : walked view (node_of c.node-from.result) c.as_slice.result.now ≡ walked view found.node c.args.names.now = λ j. walked view (c.node-from.ensures.node j) (c.as_slice.ensures j) in
    let nodes = (walked view found.node c.args.names.now).0 in
    let qids : c.walk_names.new.qids ≡ map qid nodes = c.in_ok-walked.ensures.qids number ∙ (λ j. c.new-qids.ensures j ++ map qid (way j).0) in
    let end : node_of c.in_ok-walked.walked.node ≡ last found.node nodes = c.in_ok-walked.ensures.node number ∙ (λ j. last (c.node-from.ensures.node j) (way j).0) in
    let refusal : c.in_ok-walked.walked.refusal ≡ (walked view found.node c.args.names.now).1 = c.in_ok-walked.ensures.refusal number ∙ (λ j. (way j).1) in
    subst (λ (o : Outcome Done). IsAnswer session c.end_walk.result c.end_walk.new.self o) (sym (walk_is (g.O.Outside.outside number) session rest c.args.tag c.args.fid c.args.newfid c.args.names.now found at closed free room))
    (subst (λ (r : Option ℕ). IsAnswer session c.end_walk.result c.end_walk.new.self (walk_ended session c.args.tag c.args.fid c.args.newfid found.node (nodes, r))) refusal (c.end_walk.ensures found.node nodes qids end))
