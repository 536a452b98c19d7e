use Rattle.std.proofs.Common.{◌∙◌, ◌+◌, ◌<◌, ◌^◌, ℕ, Option, List, take, refl, sym, ap, subst, arith}
use Rattle.std.specs.Prelude.{sum_by}
use Rattle.std.proofs.lemmas.List.{take_all}
use Rattle.r9_geom.specs.declared.Rect.{Rect}
use Rattle.r9_geom.specs.Geometry.{area_of}
use Rattle.r9_region.specs.Region.{covers}
use Rattle.r9_locate.specs.locate.Forms.{bits_in, Form, HasBits}
use Rattle.r9_locate.specs.locate.Table.{shape}
use Rattle.r9_restack.specs.Stacks.{after_of}
use Rattle.r9_restack.specs.Changing.{IsChanged}
use Rattle.r9_restack.proofs.Areas.{areas_grown, covers_at, covers_more, fresh_area}
use Rattle.r9_restack.proofs.Changes.{changed-none, changed-same}
use Rattle.r9_restack.proofs.changing.change_areas.Goals as goal

pub loop-area-init : goal.loop-area-init
loop-area-init g c = record {
  moved = changed-none (shape c.args.lists.now) c.args.p (after_of c.args.stacks.now) c.args.w (g.S.Source.given c.args.source.now) (g.S.Source.fill c.args.source.now) (g.P.Pixels.kept c.args.pixels.now) (covers (take 0 c.args.areas.now)) (λ z. refl);
  has = refl;
  forms = refl;
  moment = refl;
  spare = refl;
  steps = omega arith;
  writes = refl;
}

pub change_within-requires-clause-near : goal.change_within-requires-clause-near
change_within-requires-clause-near g c = c.requires.areas.near c.loop-area.area-index _ c.loop-area-test.true

pub change_within-requires-clause-ordered : goal.change_within-requires-clause-ordered
change_within-requires-clause-ordered g c = c.requires.areas.ordered c.loop-area.area-index _ c.loop-area-test.true

pub change_within-requires-clause-inside : goal.change_within-requires-clause-inside
change_within-requires-clause-inside g c z h = c.requires.areas.inside z (covers_at c.args.areas.now c.loop-area.area-index _ z c.loop-area-test.true h)

pub change_within-requires-clause-bits : goal.change_within-requires-clause-bits
change_within-requires-clause-bits g c = subst (HasBits (shape c.args.lists.now)) (sym c.loop-area.invariant.forms) c.requires.bits

pub change_within-requires-clause-given : goal.change_within-requires-clause-given
change_within-requires-clause-given g c stands x = subst (λ (forms : ℕ → Option Form). g.S.Source.given c.args.source.now x < 2 ^ bits_in forms c.args.p) (sym c.loop-area.invariant.forms) (c.requires.given stands x)

pub change_within-requires-clause-fill : goal.change_within-requires-clause-fill
change_within-requires-clause-fill g c z = subst (λ (forms : ℕ → Option Form). g.S.Source.fill c.args.source.now z < 2 ^ bits_in forms c.args.p) (sym c.loop-area.invariant.forms) (c.requires.fill z)

pub loop-area-preserved : goal.loop-area-preserved
loop-area-preserved g c =
    let kept = g.P.Pixels.kept in
    let areas = c.args.areas.now in
    let k = c.loop-area.area-index in
    record {
      moved =
          changed-same (shape c.args.lists.now) c.args.p (after_of c.args.stacks.now) c.args.w (g.S.Source.given c.args.source.now) (g.S.Source.fill c.args.source.now) (kept c.args.pixels.now) (kept c.change_within.new.pixels) _ (covers (take (k + 1) areas))
          (λ z. covers_more areas k _ z c.loop-area-test.true)
          (c.change_within.ensures.moved (kept c.args.pixels.now) (covers (take k areas)) (λ z h. fresh_area areas k _ z (c.requires.areas.apart z) c.loop-area-test.true h) c.loop-area.invariant.moved);
      has = c.change_within.ensures.has ∙ c.loop-area.invariant.has;
      forms = c.change_within.ensures.forms ∙ c.loop-area.invariant.forms;
      moment = c.change_within.ensures.moment ∙ c.loop-area.invariant.moment;
      spare = c.change_within.ensures.spare ∙ c.loop-area.invariant.spare;
      steps = areas_grown _ _ _ areas k _ c.loop-area-test.true c.change_within.ensures.steps c.loop-area.invariant.steps;
      writes = omega (arith, c.change_within.ensures.writes, c.loop-area.invariant.writes);
    }

pub returns-clause-moved : goal.returns-clause-moved
returns-clause-moved g c =
    subst (λ (areas : List Rect). IsChanged (shape c.args.lists.now) c.args.p (after_of c.args.stacks.now) c.args.w (g.S.Source.given c.args.source.now) (g.S.Source.fill c.args.source.now) (g.P.Pixels.kept c.args.pixels.now) (g.P.Pixels.kept c.loop-area.pixels) (covers areas))
    (take_all c.loop-area.area-index c.args.areas.now c.loop-area-test.false) c.loop-area.invariant.moved

pub returns-clause-steps : goal.returns-clause-steps
returns-clause-steps g c =
    omega (arith, c.loop-area.invariant.steps, ap (sum_by area_of) (take_all c.loop-area.area-index c.args.areas.now c.loop-area-test.false))
