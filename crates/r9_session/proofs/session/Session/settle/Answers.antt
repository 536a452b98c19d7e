use Rattle.std.proofs.Common.{rules, ◌≡◌, ◌∙◌, inl, inr, ℕ, List, true, false, not, Some, sym, ap, subst}
use Rattle.std.specs.Prelude.{◌==◌, filter}
use Rattle.std.specs.List.{fold}
use Rattle.std.proofs.lemmas.Result.{on_ok_weaker}
use Rattle.model_text.specs.text.Map.{lookup}
use Rattle.model_files.specs.tree.Node.{Node}
use Rattle.model_world.specs.Session.{Session}
use Rattle.model_world.specs.Fids.{is_kept, keeps}
use Rattle.r9_session.specs.Clients.{without_fid}
use Rattle.r9_session.specs.SessionView.{AreKept}
use Rattle.r9_session.proofs.Keeping.{all_left, others_left}
use Rattle.r9_session.proofs.session.Session.settle.Goals as goal

pub returns-then-not-keeps-clause-session : goal.returns-then-not-keeps-clause-session
returns-then-not-keeps-clause-session g c =
    let session = c.args.self.now in
    let found = c.in-Some.found.now in
    let at : lookup session.fids c.args.fid ≡ Some found = search rules in
    let kept : AreKept session.fids session.connections = subst (λ (s : Session). AreKept s.fids s.connections) c.self.view_is c.self.invariant.kept in
    let own = ap (λ (node : Node). node.connection) c.node-connection.ensures.node in
    let fails : keeps found.node.connection found ≡ false = ap (λ (n : ℕ). keeps n found) (sym own) ∙ sym c.keeps.ensures ∙ c.if-not-keeps.true in
    let left = all_left session c.args.fid found at kept (inl fails) in
    λ j. record session { connections = sym left.0 j }

pub returns-then-not-keeps-clause-outside : goal.returns-then-not-keeps-clause-outside
returns-then-not-keeps-clause-outside g c =
    let session = c.args.self.now in
    let found = c.in-Some.found.now in
    let at : lookup session.fids c.args.fid ≡ Some found = search rules in
    let kept : AreKept session.fids session.connections = subst (λ (s : Session). AreKept s.fids s.connections) c.self.view_is c.self.invariant.kept in
    let own = ap (λ (node : Node). node.connection) c.node-connection.ensures.node in
    let fails : keeps found.node.connection found ≡ false = ap (λ (n : ℕ). keeps n found) (sym own) ∙ sym c.keeps.ensures ∙ c.if-not-keeps.true in
    let left = all_left session c.args.fid found at kept (inl fails) in
    ap (λ (ns : List ℕ). fold (g.O.Outside.outside c.args.number).leave (g.O.Outside.state c.args.outside.now) ns) (sym left.1)

pub returns-then-is_kept_beside-clause-session : goal.returns-then-is_kept_beside-clause-session
returns-then-is_kept_beside-clause-session g c =
    let session = c.args.self.now in
    let found = c.in-Some.found.now in
    let at : lookup session.fids c.args.fid ≡ Some found = search rules in
    let kept : AreKept session.fids session.connections = subst (λ (s : Session). AreKept s.fids s.connections) c.self.view_is c.self.invariant.kept in
    let own = ap (λ (node : Node). node.connection) c.node-connection.ensures.node in
    let more : is_kept (without_fid session c.args.fid) found.node.connection ≡ true = ap (is_kept (without_fid session c.args.fid)) (sym own) ∙ sym c.is_kept_beside.ensures ∙ c.if-is_kept_beside.true in
    let left = all_left session c.args.fid found at kept (inr more) in
    λ j. record session { connections = sym left.0 j }

pub returns-then-is_kept_beside-clause-outside : goal.returns-then-is_kept_beside-clause-outside
returns-then-is_kept_beside-clause-outside g c =
    let session = c.args.self.now in
    let found = c.in-Some.found.now in
    let at : lookup session.fids c.args.fid ≡ Some found = search rules in
    let kept : AreKept session.fids session.connections = subst (λ (s : Session). AreKept s.fids s.connections) c.self.view_is c.self.invariant.kept in
    let own = ap (λ (node : Node). node.connection) c.node-connection.ensures.node in
    let more : is_kept (without_fid session c.args.fid) found.node.connection ≡ true = ap (is_kept (without_fid session c.args.fid)) (sym own) ∙ sym c.is_kept_beside.ensures ∙ c.if-is_kept_beside.true in
    let left = all_left session c.args.fid found at kept (inr more) in
    ap (λ (ns : List ℕ). fold (g.O.Outside.outside c.args.number).leave (g.O.Outside.state c.args.outside.now) ns) (sym left.1)

pub returns-clause-session : goal.returns-clause-session
returns-clause-session g c =
    let session = c.args.self.now in
    let found = c.in-Some.found.now in
    let at : lookup session.fids c.args.fid ≡ Some found = search rules in
    let kept : AreKept session.fids session.connections = subst (λ (s : Session). AreKept s.fids s.connections) c.self.view_is c.self.invariant.kept in
    let own = ap (λ (node : Node). node.connection) c.node-connection.ensures.node in
    let gone : is_kept (without_fid session c.args.fid) found.node.connection ≡ false = ap (is_kept (without_fid session c.args.fid)) (sym own) ∙ sym c.is_kept_beside.ensures ∙ c.if-is_kept_beside.false in
    let left = others_left session c.args.fid found at kept gone in
    on_ok_weaker c.end.result
    (λ (is : c.end.new.self ≡ record session { connections = filter (λ n. not (n == c.node-connection.result.connection)) session.connections }).
    is ∙ (λ j. record session { connections = filter (λ n. not (n == own j)) session.connections }) ∙ (λ j. record session { connections = sym left.0 j }))
    c.end.ensures.session

pub returns-clause-outside : goal.returns-clause-outside
returns-clause-outside g c =
    let session = c.args.self.now in
    let found = c.in-Some.found.now in
    let at : lookup session.fids c.args.fid ≡ Some found = search rules in
    let kept : AreKept session.fids session.connections = subst (λ (s : Session). AreKept s.fids s.connections) c.self.view_is c.self.invariant.kept in
    let own = ap (λ (node : Node). node.connection) c.node-connection.ensures.node in
    let gone : is_kept (without_fid session c.args.fid) found.node.connection ≡ false = ap (is_kept (without_fid session c.args.fid)) (sym own) ∙ sym c.is_kept_beside.ensures ∙ c.if-is_kept_beside.false in
    let left = others_left session c.args.fid found at kept gone in
    on_ok_weaker c.end.result
    (λ (is : (g.O.Outside.state c.end.new.outside) ≡ fold (g.O.Outside.outside c.args.number).leave (g.O.Outside.state c.args.outside.now) (filter (λ n. n == c.node-connection.result.connection) session.connections)).
    is ∙ ap (λ (ns : List ℕ). fold (g.O.Outside.outside c.args.number).leave (g.O.Outside.state c.args.outside.now) ns) ((λ j. filter (λ n. n == own j) session.connections) ∙ sym left.1))
    c.end.ensures.outside
