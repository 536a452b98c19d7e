use Rattle.std.proofs.Common.{◌≡◌, ℕ, ◌+◌, List, true, sym, ap, subst, ◌∙◌, arith}
use Rattle.std.specs.List.{list_any}
use Rattle.model_text.proofs.map.Keys.{eqb-same}
use Rattle.model_files.specs.declared.tree.Kind.TheVariants.{Ctl}
use Rattle.model_files.specs.tree.Node.{Node, row}
use Rattle.model_world.specs.Session.{Session, fid_at}
use Rattle.model_world.specs.Fids.{is_kept, is_kind, keeps}
use Rattle.model_world.specs.Links.{AreWithin}
use Rattle.model_world.specs.Sleeping.{has_place}
use Rattle.r9_tree.specs.View.{most_connections, node_of}
use Rattle.r9_session.specs.SessionView.{AreKept}
use Rattle.r9_session.proofs.Clients.{free_client, within_push}
use Rattle.r9_session.proofs.Bound.{kept_push, opened_kept}
use Rattle.r9_session.proofs.session.Session.open_new.Goals as goal

pub connect-requires-clause-fresh : goal.connect-requires-clause-fresh
connect-requires-clause-fresh g c =
    let session = c.args.self.now in
    let rest = g.O.Outside.state c.args.outside.now in
    ap (λ (s : Session). g.O.Outside.has c.args.number (s.made + 1) rest) c.self.view_is
    ∙ g.met.O.Outside.linked_has c.args.number session.made session.connections rest (session.made + 1) c.requires.linked (omega (arith, c.requires.room))
    ∙ free_client session.made session.connections (g.met.O.Outside.linked_counts c.args.number session.made session.connections rest c.requires.linked)

pub open_as-requires-clause-nowhere : goal.open_as-requires-clause-nowhere
open_as-requires-clause-nowhere g c = ap (λ (node : Node). has_place (fid_at node)) c.ctl_of-ctl.ensures.ctl

pub invariant_of-self-2 : goal.invariant_of-self-2
invariant_of-self-2 g c =
    let connection = c.self.inside.made + 1 in
    let ctl = node_of c.ctl_of-ctl.result in
    let own : ctl.connection ≡ connection = ap (λ (node : Node). node.connection) c.ctl_of-ctl.ensures.ctl in
    let is_ctl : is_kind Ctl ctl.kind ≡ true = ap (λ (node : Node). is_kind Ctl node.kind) c.ctl_of-ctl.ensures.ctl ∙ eqb-same (row Ctl).number in
    let here : list_any (λ e. keeps connection e.1) c.self-2.inside.fids ≡ true =
    (λ j. is_kept (c.self-2.view_is j) (sym own j)) ∙ opened_kept c.args.self.now c.open_as.new.self c.args.fid ctl c.args.mode c.requires.closed c.open_as.ensures is_ctl in
    record {
      within = subst (λ (ns : List ℕ). AreWithin most_connections ns) (sym c.in_ok-push.ensures.ok)
          (within_push most_connections _ c.self-2.inside.connections c.self-2.invariant.within (omega (arith, ap (λ (s : Session). s.made) c.self.view_is)));
      kept = subst (λ (ns : List ℕ). AreKept c.self-2.inside.fids ns) (sym c.in_ok-push.ensures.ok) (kept_push c.self-2.inside.fids c.self-2.inside.connections connection here c.self-2.invariant.kept);
      covered = c.self-2.invariant.covered;
    }
