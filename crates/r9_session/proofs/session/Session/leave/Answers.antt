use Rattle.std.proofs.Common.{◌≡◌, ◌∙◌, ℕ, List, [], map, sym, ap, subst}
use Rattle.std.specs.List.{fold}
use Rattle.std.proofs.lemmas.Result.{on_ok_weaker}
use Rattle.model_world.specs.Session.{Session}
use Rattle.model_world.specs.Fids.{let_go}
use Rattle.model_world.proofs.Links.{cleared_is}
use Rattle.r9_session.specs.Clients.{MayLeave}
use Rattle.r9_session.proofs.Clients.{all_may_leave}
use Rattle.r9_session.proofs.session.Session.leave.Goals as goal

pub leave_all-requires : goal.leave_all-requires
leave_all-requires g c =
    let session = c.args.self.now in
    let rest = g.O.Outside.state c.args.outside.now in
    subst (λ (ns : List ℕ). MayLeave (g.O.Outside.outside c.args.number) (g.O.Outside.has c.args.number) ns rest) (sym (c.as_slice.ensures ∙ ap (λ (s : Session). s.connections) c.self.view_is))
    (all_may_leave (g.O.Outside.outside c.args.number) (g.O.Outside.has c.args.number) (g.met.O.Outside.leave_leaves c.args.number) session.made session.connections rest
    (g.met.O.Outside.linked_counts c.args.number session.made session.connections rest c.requires) (λ n few. g.met.O.Outside.linked_has c.args.number session.made session.connections rest n c.requires few))

pub returns-clause-outside : goal.returns-clause-outside
returns-clause-outside g c =
    let session = c.args.self.now in
    let before = g.O.Outside.state c.args.outside.now in
    let own : c.as_slice.result.now ≡ session.connections = c.as_slice.ensures ∙ ap (λ (s : Session). s.connections) c.self.view_is in
    let ended : g.O.Outside.state c.leave_all.new.outside ≡ fold (g.O.Outside.outside c.args.number).leave before session.connections =
    c.in_ok-leave_all.ensures ∙ ap (λ (ns : List ℕ). fold (g.O.Outside.outside c.args.number).leave before ns) own in
    let gone : g.O.Outside.state c.let_all_go.new.outside ≡ fold (let_go (g.O.Outside.outside c.args.number)) (fold (g.O.Outside.outside c.args.number).leave before session.connections) (map (λ entry. entry.1) session.fids) =
    c.let_all_go.ensures c.args.number ∙ ap (λ (d : g.O.Outside.State). fold (let_go (g.O.Outside.outside c.args.number)) d (map (λ entry. entry.1) session.fids)) ended in
    on_ok_weaker c.left.result
    (λ (is : g.O.Outside.state c.left.new.self ≡ (g.O.Outside.outside c.args.number).left (g.O.Outside.state c.let_all_go.new.outside) c.in_ok-windows.windows).
    is ∙ (λ j. (g.O.Outside.outside c.args.number).left (gone j) (c.in_ok-windows.ensures j)) ∙ sym (ap (λ (after : Session × g.O.Outside.State). after.1) (cleared_is (g.O.Outside.outside c.args.number) session before)))
    c.left.ensures

pub returns-clause-linked : goal.returns-clause-linked
returns-clause-linked g c =
    on_ok_weaker c.left.result
    (λ is. subst (λ (rest : g.O.Outside.State). g.O.Outside.linked c.args.number c.args.self.now.made [] rest) (sym is) (g.met.O.Outside.cleared_links c.args.number c.args.self.now (g.O.Outside.state c.args.outside.now) c.requires).0)
    (returns-clause-outside g c)

pub returns-clause-others : goal.returns-clause-others
returns-clause-others g c =
    on_ok_weaker c.left.result
    (λ is. subst (λ (rest : g.O.Outside.State). g.O.Outside.others c.args.number (g.O.Outside.state c.args.outside.now) rest) (sym is) (g.met.O.Outside.cleared_links c.args.number c.args.self.now (g.O.Outside.state c.args.outside.now) c.requires).1)
    (returns-clause-outside g c)
