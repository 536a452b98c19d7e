use Rattle.std.proofs.Common.{◌+◌, List, length, ap, ◌∙◌, arith}
use Rattle.r9_event.specs.declared.event.event.Event.{Event}
use Rattle.r9_event.specs.declared.event.event.Reply.{Reply}
use Rattle.model_world.specs.World.{World}
use Rattle.model_world.specs.Replay.{costs_from, replies_from, world_from}
use Rattle.r9_serve.proofs.replay.Replaying.{count_after, first_next, goes_on, may_start, world_after}
use Rattle.r9_serve.specs.declared.serve.generate.Counts.{Counts}
use Rattle.r9_serve.proofs.serve.Making.{costs_after, costs_end, most_after, most_end, most_first, tiles_end}
use Rattle.r9_serve.proofs.serve.generate.run_counted.Goals as goal

pub events-init : goal.events-init
events-init g c =
    let first = c.in_ok-world.ensures.first.world in
    let none = c.no_counts-counts.ensures in
    record {
      events = omega (arith, ap (λ (n : Counts). n.events) none);
      replies = omega (arith, ap (λ (n : Counts). n.replies) none, ap (λ (w : World). length (replies_from w c.args.left)) first);
      pixels = omega (arith, c.new-pixels.ensures, ap (λ (w : World). costs_from w c.args.left) first);
      world = ap (λ (w : World). world_from w c.args.left) first;
      most = most_first _ _ c.args.left _ (ap (λ (n : Counts). n.most) none) first;
      may = may_start c.args.opening _ c.args.left c.in_ok-world.ensures.first c.requires.legal;
    }

pub events-preserved : goal.events-preserved
events-preserved g c =
    let so_far = c.events.invariant in
    let ran = c.in_ok-given.ensures in
    let first = c.in-Some.ensures.first in
    let counted = c.in_ok-counts.ensures in
    record {
      events = omega (arith, so_far.events, counted.events, ap (λ (es : List Event). length es) first);
      replies =
          count_after _ _ _ _ _ _ _ _ _ first ran.world.world
          (ap (λ (rs : List Reply). length rs) (c.as_slice.ensures ∙ ran.replies)) counted.replies so_far.replies;
      pixels = costs_after _ _ _ _ _ _ _ _ first ran.world.world ran.pixels so_far.pixels;
      world = world_after _ _ _ _ _ _ first ran.world.world so_far.world;
      most = most_after _ _ _ _ _ _ _ _ _ first ran.world.world c.tiles.ensures counted.most so_far.most;
      may = goes_on _ _ _ _ _ first ran.world so_far.may;
    }

pub make_event-requires-clause-next : goal.make_event-requires-clause-next
make_event-requires-clause-next g c = first_next _ _ _ _ c.in-Some.ensures.first c.events.invariant.may

pub returns-clause-pixels : goal.returns-clause-pixels
returns-clause-pixels g c = costs_end _ _ _ _ _ c.in_default.ensures.none (omega (arith, c.count.ensures)) c.events.invariant.pixels

pub returns-clause-tiles : goal.returns-clause-tiles
returns-clause-tiles g c = tiles_end _ _ _ _ c.in_default.ensures.none c.tiles-2.ensures c.events.invariant.world

pub returns-clause-most : goal.returns-clause-most
returns-clause-most g c = most_end _ _ _ _ c.in_default.ensures.none c.events.invariant.most
