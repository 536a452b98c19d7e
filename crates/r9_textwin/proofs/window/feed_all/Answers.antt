use Rattle.std.proofs.Common.{◌++◌, List, [], refl, subst, sym, take}
use Rattle.model_client.specs.declared.textwin.Move.{Move}
use Rattle.r9_textwin.specs.Steps.{Brings}
use Rattle.r9_textwin.proofs.Pages.{nothing_brings, rest_cut}
use Rattle.r9_textwin.proofs.window.feed_all.Goals as goal

pub loop-rest-init : goal.loop-rest-init
loop-rest-init c =
    let place = c.args.place in
    ([], refl, subst (λ (moves : List Move). Brings place [] moves place) (sym c.new-moves.ensures) (nothing_brings place c.requires))

pub loop-rest-preserved : goal.loop-rest-preserved
loop-rest-preserved c =
    let front = c.loop-rest.invariant.0 in
    let rest = c.loop-rest.rest.now in
    let n = c.in_ok-behind.len in (
      front ++ take n rest,
      rest_cut front rest c.args.piece.now n c.loop-rest.invariant.1,
      c.in_ok-behind.ensures.brings c.args.place front c.loop-rest.invariant.2,
    )
