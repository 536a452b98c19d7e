use Rattle.std.proofs.Common.{◌++◌, ◌∷◌, [], ℕ, List, codes, refl, arith}
use Rattle.law_text.specs.client.Saying.{greeted}
use Rattle.law_text.proofs.client.May.{may_walk_mousein, may_walk_wctl}
use Rattle.r9_clients.specs.saying.Lines.{IsSaid, opens}
use Rattle.r9_clients.proofs.saying.Fits.{walk_said}
use Rattle.r9_clients.proofs.saying.Said.{on_ok_then, said_more, said_opens_as}
use Rattle.r9_clients.proofs.pointing.opening.push_rio.Goals as goal

abbrev mousein : List (List ℕ)
mousein = codes "mousein" ∷ []

abbrev wctl : List (List ℕ)
wctl = codes "wctl" ∷ []

pub push_opens-requires : goal.push_opens-requires
push_opens-requires c = walk_said 1 c.in_ok-mousein.mousein mousein c.in_ok-mousein.ensures (may_walk_mousein greeted 0 1 refl (omega arith) (omega arith))

pub push_opens-requires-2 : goal.push_opens-requires-2
push_opens-requires-2 c = walk_said 2 c.in_ok-wctl.wctl wctl c.in_ok-wctl.ensures (may_walk_wctl greeted 0 2 refl (omega arith) (omega arith))

pub returns : goal.returns
returns c =
    let before = c.args.out.now in
    let between = c.push_opens.new.out in
    let after = c.push_opens-2.new.out in
    let first = said_opens_as c.in_ok-mousein.mousein mousein 1 1 before between c.in_ok-mousein.ensures c.in_ok-push_opens.ensures in
    on_ok_then c.push_opens-2.result (IsSaid between after (opens c.in_ok-wctl.wctl 2 1)) (IsSaid before after (opens mousein 1 1 ++ opens wctl 2 1))
    (λ said. said_more (opens mousein 1 1) (opens wctl 2 1) before between after first (said_opens_as c.in_ok-wctl.wctl wctl 2 1 between after c.in_ok-wctl.ensures said))
    c.push_opens-2.ensures
