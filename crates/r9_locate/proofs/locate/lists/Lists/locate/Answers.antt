use Rattle.std.proofs.Common.{◌≡◌, ◌∙◌, ◌^◌, true, false, Some, lit≤, refl, sym, ap, subst, arith}
use Rattle.r9_geom.specs.declared.Rect.{Rect}
use Rattle.r9_geom.specs.Geometry.{carried, holds, IsNearBy}
use Rattle.r9_geom.proofs.GeometryLemmas.{near_point, near_wider}
use Rattle.r9_plane.specs.Pixels.{along}
use Rattle.r9_plane.proofs.PlaneLemmas.{along_holds}
use Rattle.model_forest.specs.World.{Image, image_at, parent_of}
use Rattle.model_kept.specs.Keeping.{outward, place_among}
use Rattle.r9_locate.specs.locate.Table.{shape}
use Rattle.r9_locate.proofs.locate.Locating.{along_none, not_is, not_not, keeping-root, located-step, no_rect_near, place_near, shows_inside, stands_nowhere, stands_where}
use Rattle.r9_locate.proofs.locate.lists.Lists.locate.Goals as goal
use Rattle.r9_locate.proofs.locate.lists.Lists.locate.Goals.{After-shown_run-shown}

-- the image stands there
stands : (c : After-shown_run-shown) → parent_of (shape c.args.self.now) c.loop-standing.run.image ≡ Some c.in-Some.standing.parent
stands c = stands_where (shape c.args.self.now) c.loop-standing.run.image c.get.result.now c.in-Some.standing c.get.ensures c.in-Some.is

-- the point of the parent
there : (c : After-shown_run-shown) → c.carried-q.result ≡ outward (shape c.args.self.now) c.in-Some.standing.parent c.loop-standing.run.image c.loop-standing.run.at
there c =
    let w = shape c.args.self.now in
    let at = c.loop-standing.run.at in
    c.carried-q.ensures
    ∙ ap (λ (r : Rect). carried at c.get-in-Some.result.now.r.min r.min) (c.place_among.ensures ∙ ap (λ ws. place_among ws c.loop-standing.run.image) c.deref.ensures.value)
    ∙ ap (λ (im : Image). carried at im.r.min (place_among c.get-below.result.now.windows.items c.loop-standing.run.image).min) (sym c.get-in-Some.ensures)
    ∙ ap (λ (im : Image). carried at (image_at w c.loop-standing.run.image).r.min (place_among im.windows c.loop-standing.run.image).min) (sym c.get-below.ensures)

pub loop-standing-init : goal.loop-standing-init
loop-standing-init c = record {
  live = c.requires.live;
  some = c.requires.some;
  most = omega arith;
  inside = λ k below. c.requires.inside (along c.args.at k) (along_holds c.args.at c.args.n k below);
  kept = λ k below. refl;
}

pub get-below-requires : goal.get-below-requires
unfolding shape
get-below-requires c =
    c.args.self.now.standing.parents c.loop-standing.run.image c.in-Some.standing.parent c.loop-standing.invariant.live
    (stands_where (shape c.args.self.now) c.loop-standing.run.image c.get.result.now c.in-Some.standing c.get.ensures c.in-Some.is)

pub carried-q-requires-clause-point : goal.carried-q-requires-clause-point
unfolding shape
carried-q-requires-clause-point c =
    let near = c.args.self.now.near c.loop-standing.run.image c.loop-standing.invariant.live in
    let first : along c.loop-standing.run.at 0 ≡ c.loop-standing.run.at = along_none c.loop-standing.run.at in
    let inside = ap (λ p. holds (image_at (shape c.args.self.now) c.loop-standing.run.image).r p) (sym first) ∙ c.loop-standing.invariant.inside 0 c.loop-standing.invariant.some in
    near_wider (2 ^ 40) (2 ^ 41) _ (lit≤ tt) (near_point (2 ^ 40) (image_at (shape c.args.self.now) c.loop-standing.run.image).r c.loop-standing.run.at near.0 inside)

pub carried-q-requires-clause-from : goal.carried-q-requires-clause-from
unfolding shape
carried-q-requires-clause-from c =
    let near = c.args.self.now.near c.loop-standing.run.image c.loop-standing.invariant.live in
    near_wider (2 ^ 40) (2 ^ 41) _ (lit≤ tt) (subst (λ (im : Image). IsNearBy (2 ^ 40) im.r.min) c.get-in-Some.ensures near.0.min)

pub carried-q-requires-clause-to : goal.carried-q-requires-clause-to
unfolding shape
carried-q-requires-clause-to c =
    let w = shape c.args.self.now in
    let live = c.args.self.now.standing.parents c.loop-standing.run.image c.in-Some.standing.parent c.loop-standing.invariant.live
    (stands_where w c.loop-standing.run.image c.get.result.now c.in-Some.standing c.get.ensures c.in-Some.is) in
    let near = c.args.self.now.near c.in-Some.standing.parent live in
    let place : c.place_among.result ≡ place_among (image_at w c.in-Some.standing.parent).windows c.loop-standing.run.image =
    c.place_among.ensures ∙ ap (λ ws. place_among ws c.loop-standing.run.image) (c.deref.ensures.value ∙ sym (ap (λ (im : Image). im.windows) c.get-below.ensures)) in
    subst (λ (r : Rect). IsNearBy (2 ^ 41) r.min) (sym place)
    (near_wider (2 ^ 40) (2 ^ 41) _ (lit≤ tt) (place_near (2 ^ 40) (image_at w c.in-Some.standing.parent).windows c.loop-standing.run.image near.1 (no_rect_near (2 ^ 40))))

pub returns-then-not-shown-clause-kept : goal.returns-then-not-shown-clause-kept
unfolding shape
returns-then-not-shown-clause-kept c k below =
    let now = (goal.at.returns-then-not-shown-clause-kept c).After-shown_run-shown in
    let w = shape c.args.self.now in
    c.loop-standing.invariant.kept k (omega (arith, below, c.shown_run-shown.ensures.most))
    ∙ located-step w c.args.self.now.standing c.loop-standing.run.image c.in-Some.standing.parent c.loop-standing.run.at c.carried-q.result c.get-below.result.now k false
    c.loop-standing.invariant.live (stands now) c.get-below.ensures (there now) (c.shown_run-shown.ensures.same k below ∙ not_is c.shown_run-shown.result.is c.if-not-shown.true)

pub loop-standing-smaller : goal.loop-standing-smaller
unfolding shape
loop-standing-smaller c =
    let now = (goal.at.loop-standing-smaller c).After-shown_run-shown in
    let above = c.args.self.now.standing.above c.loop-standing.run.image c.in-Some.standing.parent c.loop-standing.invariant.live (stands now) in
    omega (arith, above)

pub loop-standing-preserved : goal.loop-standing-preserved
unfolding shape
loop-standing-preserved c =
    let now = (goal.at.loop-standing-preserved c).After-shown_run-shown in
    let w = shape c.args.self.now in
    let is : c.shown_run-shown.result.is ≡ true = not_not c.shown_run-shown.result.is c.if-not-shown.false in
    record {
      live = c.args.self.now.standing.parents c.loop-standing.run.image c.in-Some.standing.parent c.loop-standing.invariant.live (stands now);
      some = c.shown_run-shown.ensures.some;
      most = omega (arith, c.shown_run-shown.ensures.most, c.loop-standing.invariant.most);
      inside = λ k below. shows_inside c.get-below.result.now w c.in-Some.standing.parent c.loop-standing.run.image (along c.carried-q.result k) c.get-below.ensures (c.shown_run-shown.ensures.same k below ∙ is);
      kept = λ k below.
          c.loop-standing.invariant.kept k (omega (arith, below, c.shown_run-shown.ensures.most))
          ∙ located-step w c.args.self.now.standing c.loop-standing.run.image c.in-Some.standing.parent c.loop-standing.run.at c.carried-q.result c.get-below.result.now k true
          c.loop-standing.invariant.live (stands now) c.get-below.ensures (there now) (c.shown_run-shown.ensures.same k below ∙ is);
    }

pub returns-clause-kept : goal.returns-clause-kept
returns-clause-kept c k below =
    c.loop-standing.invariant.kept k below
    ∙ keeping-root (shape c.args.self.now) c.loop-standing.run.image (along c.loop-standing.run.at k)
    (stands_nowhere (shape c.args.self.now) c.loop-standing.run.image c.get.result.now c.get.ensures c.in_default.is)
