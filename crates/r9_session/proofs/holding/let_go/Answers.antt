use Rattle.std.proofs.Common.{rules, ◌≡◌, ◌∙◌, Bool, true, false, cond, sym, ap}
use Rattle.std.specs.Prelude.{is_some}
use Rattle.model_files.specs.tree.Node.{Node}
use Rattle.model_world.specs.Fids.{with_held}
use Rattle.r9_session.proofs.holding.let_go.Goals as goal

pub returns-then-is_some : goal.returns-then-is_some
returns-then-is_some g c number =
    let gone = c.args.gone.now in
    let before = g.O.Outside.state c.args.outside.now in
    let opened : is_some gone.mode ≡ true = search rules in
    c.hold.ensures number
    ∙ ap (λ (node : Node). with_held (g.O.Outside.outside number) false before node) c.node.ensures.node
    ∙ ap (λ (b : Bool). cond b (with_held (g.O.Outside.outside number) false before gone.node) before) (sym opened)
