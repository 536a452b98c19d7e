use Rattle.std.proofs.Common.{◌≡◌, ◌∙◌, ℕ, List, not, sym, ap, subst}
use Rattle.std.specs.Prelude.{◌==◌, filter}
use Rattle.model_world.specs.Session.{Session}
use Rattle.model_world.specs.Links.{AreWithin}
use Rattle.model_world.proofs.Links.{within_filter}
use Rattle.r9_tree.specs.View.{most_connections}
use Rattle.r9_session.specs.SessionView.{AreKept}
use Rattle.r9_session.specs.Clients.{MayLeave}
use Rattle.r9_session.proofs.Clients.{some_may_leave}
use Rattle.r9_session.proofs.Keeping.{kept_filter}
use Rattle.r9_session.proofs.session.Session.end.Goals as goal

pub leave_all-requires : goal.leave_all-requires
leave_all-requires g c =
    let session = c.args.self.now in
    let rest = g.O.Outside.state c.args.outside.now in
    subst (λ (ns : List ℕ). MayLeave (g.O.Outside.outside c.args.number) (g.O.Outside.has c.args.number) ns rest) (sym (c.as_slice.ensures ∙ c.in_ok-ended.ensures))
    (some_may_leave (g.O.Outside.outside c.args.number) (g.O.Outside.has c.args.number) (g.met.O.Outside.leave_leaves c.args.number) (λ n. n == c.args.connection) session.made session.connections rest
    (g.met.O.Outside.linked_counts c.args.number session.made session.connections rest c.requires) (λ n few. g.met.O.Outside.linked_has c.args.number session.made session.connections rest n c.requires few))

pub invariant_of-self : goal.invariant_of-self
invariant_of-self g c =
    let others = λ (n : ℕ). not (n == c.args.connection) in
    let is : c.in_ok-others.others ≡ filter others c.self.inside.connections = c.in_ok-others.ensures ∙ ap (λ (s : Session). filter others s.connections) (sym c.self.view_is) in
    record {
      within = subst (λ (ns : List ℕ). AreWithin most_connections ns) (sym is) (within_filter others most_connections c.self.inside.connections c.self.invariant.within);
      kept = subst (λ (ns : List ℕ). AreKept c.self.inside.fids ns) (sym is) (kept_filter others c.self.inside.fids c.self.inside.connections c.self.invariant.kept);
      covered = c.self.invariant.covered;
    }
