use Rattle.std.proofs.Common.{◌≡◌, ◌||◌, Bool, true, false, refl}
use Rattle.r9_geom.specs.Geometry.{holds}
use Rattle.r9_locate.specs.locate.Table.{shape}
use Rattle.r9_restack.specs.Stacks.{after_of}
use Rattle.r9_restack.proofs.Changes.{changed-none, changed-same}
use Rattle.r9_restack.proofs.changing.change_area.Goals as goal

or_none : (b : Bool) → b ≡ (b || false)
or_none true = refl
or_none false = refl

pub returns-clause-moved : goal.returns-clause-moved
returns-clause-moved g c =
    let kept = g.P.Pixels.kept in
    let area = c.args.area.now in
    changed-same (shape c.args.lists.now) c.args.p (after_of c.args.stacks.now) c.args.w (g.S.Source.given c.args.source.now) (g.S.Source.fill c.args.source.now) (kept c.args.pixels.now) (kept c.change_within.new.pixels) (λ z. holds area z || false) (holds area)
    (λ z. or_none (holds area z))
    (c.change_within.ensures.moved (kept c.args.pixels.now) (λ z. false) (λ z h. refl)
    (changed-none (shape c.args.lists.now) c.args.p (after_of c.args.stacks.now) c.args.w (g.S.Source.given c.args.source.now) (g.S.Source.fill c.args.source.now) (kept c.args.pixels.now) (λ z. false) (λ z. refl)))
