use Rattle.std.proofs.Common.{◌≡◌, ◌∷◌, Option, List, IfSome, ◌++◌, ap, subst, ◌∙◌}
use Rattle.r9_event.specs.declared.event.event.Event.{Event}
use Rattle.r9_event.specs.declared.event.event.Reply.{Reply}
use Rattle.model_world.specs.World.{World}
use Rattle.model_world.specs.Replay.{replies_from, world_from}
use Rattle.r9_hall.specs.hall.WorldView.{world_in}
use Rattle.r9_serve.proofs.replay.Replaying.{first_next, first_whole, goes_on, may_start, replies_after, world_after}
use Rattle.r9_serve.proofs.replay.replay.replayed.Goals as goal

pub events-init : goal.events-init
events-init g c = record {
  replies = ap (λ (log : List Reply). log ++ replies_from (world_in c.in_ok-world.world) c.args.left) c.new-log.ensures ∙ ap (λ (w : World). replies_from w c.args.left) c.in_ok-world.ensures.first.world;
  world = ap (λ (w : World). world_from w c.args.left) c.in_ok-world.ensures.first.world;
  may = may_start c.args.opening _ c.args.left c.in_ok-world.ensures.first c.requires.legal;
}

pub events-preserved : goal.events-preserved
events-preserved g c =
    let so_far = c.events.invariant in
    let ran = c.in_ok-run_event.ensures in
    let first = subst (λ (found : Option Event). IfSome found (λ event. c.events.left ≡ event ∷ c.pop_first.new.self)) c.in-Some.is c.in_ok-event.ensures.first in
    record {
      replies = replies_after _ _ _ _ _ _ _ _ first ran.world.world ran.replies so_far.replies;
      world = world_after _ _ _ _ _ _ first ran.world.world so_far.world;
      may = goes_on _ _ _ _ _ first ran.world so_far.may;
    }

pub run_event-requires-clause-whole : goal.run_event-requires-clause-whole
run_event-requires-clause-whole g c =
    let first = subst (λ (found : Option Event). IfSome found (λ event. c.events.left ≡ event ∷ c.pop_first.new.self)) c.in-Some.is c.in_ok-event.ensures.first in
    first_whole _ _ _ _ first c.events.invariant.may

pub run_event-requires-clause-next : goal.run_event-requires-clause-next
run_event-requires-clause-next g c =
    let first = subst (λ (found : Option Event). IfSome found (λ event. c.events.left ≡ event ∷ c.pop_first.new.self)) c.in-Some.is c.in_ok-event.ensures.first in
    first_next _ _ _ _ first c.events.invariant.may

pub run_event-requires-clause-going : goal.run_event-requires-clause-going
run_event-requires-clause-going g c = c.events.invariant.may.going
