use Rattle.std.proofs.Common.{◌∙◌, Bool, ◌≤◌, sym, subst, ap, arith}
use Rattle.std.specs.Prelude.{if◌then◌else◌}
use Rattle.r9_geom.specs.declared.Rect.{Rect}
use Rattle.r9_geom.specs.Geometry.{area_of, is_empty, meet, IsRectNear}
use Rattle.r9_geom.proofs.GeometryLemmas.{empty_holds}
use Rattle.r9_relist.proofs.relist.Meeting.{corner_area, corner_none, corner_of, meet_fewer, meet_near}
use Rattle.r9_relist.proofs.relist.relisting.common.Goals as goal

pub returns-then-is_empty-clause-points : goal.returns-then-is_empty-clause-points
returns-then-is_empty-clause-points c p =
    corner_none c.args.a.now p
    ∙ sym (empty_holds c.meet-both.result p (sym c.is_empty.ensures.exact ∙ c.if-is_empty.true))
    ∙ c.meet-both.ensures.points p

pub returns-then-is_empty-clause-fewer : goal.returns-then-is_empty-clause-fewer
returns-then-is_empty-clause-fewer c ordered = let none = corner_area c.args.a.now in omega (arith, none)

pub returns-then-is_empty-clause-value : goal.returns-then-is_empty-clause-value
returns-then-is_empty-clause-value c =
    sym (ap (λ (b : Bool). if b then corner_of c.args.a.now else meet c.args.a.now c.args.b.now) (ap is_empty (sym c.meet-both.ensures.exact) ∙ sym c.is_empty.ensures.exact ∙ c.if-is_empty.true))

pub returns-clause-value : goal.returns-clause-value
returns-clause-value c =
    c.meet-both.ensures.exact
    ∙ sym (ap (λ (b : Bool). if b then corner_of c.args.a.now else meet c.args.a.now c.args.b.now) (ap is_empty (sym c.meet-both.ensures.exact) ∙ sym c.is_empty.ensures.exact ∙ c.if-is_empty.false))

pub returns-clause-near : goal.returns-clause-near
returns-clause-near c = subst IsRectNear (sym c.meet-both.ensures.exact) (meet_near c.args.a.now c.args.b.now c.requires.near c.requires.also)

pub returns-clause-fewer : goal.returns-clause-fewer
returns-clause-fewer c ordered =
    let same = c.meet-both.ensures.exact in
    subst (λ (r : Rect). area_of r ≤ area_of c.args.a.now) (sym same)
    (meet_fewer c.args.a.now c.args.b.now ordered (ap is_empty (sym same) ∙ sym c.is_empty.ensures.exact ∙ c.if-is_empty.false))
