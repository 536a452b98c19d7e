use Rattle.std.proofs.Common.{◌≡◌, ◌∙◌, ◌*◌, ◌^◌, true, sym, subst, ap, arith}
use Rattle.r9_geom.specs.declared.Point.{Point}
use Rattle.r9_geom.specs.declared.Rect.{Rect}
use Rattle.r9_geom.specs.Geometry.{area_of, holds, IsOrdered}
use Rattle.r9_geom.proofs.GeometryLemmas.{near_point}
use Rattle.model_forest.specs.World.{image_at}
use Rattle.model_forest.specs.View.{inward}
use Rattle.model_forest.proofs.Changes.{live-standing}
use Rattle.model_kept.proofs.Storing.{inward-inside}
use Rattle.r9_locate.specs.locate.Table.{shape}
use Rattle.r9_shown.specs.Shown.{block}
use Rattle.r9_shown.proofs.Carried.{near_part}
use Rattle.r9_shown.proofs.Pieces.{block_area, block_ordered, corner_in}
use Rattle.r9_restack.specs.Stacks.{after_of}
use Rattle.r9_restack.specs.Moving.{more_in}
use Rattle.r9_restack.proofs.Changes.{changed-in, changed-same, changing, has_new, has_old, inside_new, near_of_new, near_of_old, stays_top, stood_new, stood_old, IsTopOver}
use Rattle.r9_restack.proofs.Parting.{nearby}
use Rattle.r9_restack.proofs.Stacked.{block_before, told, untold_stays}
use Rattle.r9_restack.proofs.Blocked.{changed_skip_block}
use Rattle.r9_restack.proofs.changing.change_block.Given.{Over}
use Rattle.r9_restack.proofs.changing.change_block.Goals as goal
use Rattle.r9_restack.proofs.changing.change_block.Goals.{After-block-r}

-- where nothing is told, or the same window stays topmost, nothing is moved
pub returns-in_default-clause-moved : goal.returns-in_default-clause-moved
returns-in_default-clause-moved g c before done fresh m =
    changed_skip_block (shape c.args.lists.now) c.args.p (after_of c.args.stacks.now) c.args.w (g.S.Source.given c.args.source.now) (g.S.Source.fill c.args.source.now) before (g.P.Pixels.kept c.args.pixels.now) done c.args.q c.args.columns c.args.rows
    (changing c.args.lists.now c.args.p (after_of c.args.stacks.now) c.args.w c.requires.change)
    c.requires.inside
    (λ z h. untold_stays (shape c.args.lists.now) c.args.p c.args.w c.args.stacks.now z c.requires.stacks (c.requires.tops z h ∙ c.in_default.is))
    fresh m

pub returns-then-stays-clause-moved : goal.returns-then-stays-clause-moved
returns-then-stays-clause-moved g c before done fresh m =
    changed_skip_block (shape c.args.lists.now) c.args.p (after_of c.args.stacks.now) c.args.w (g.S.Source.given c.args.source.now) (g.S.Source.fill c.args.source.now) before (g.P.Pixels.kept c.args.pixels.now) done c.args.q c.args.columns c.args.rows
    (changing c.args.lists.now c.args.p (after_of c.args.stacks.now) c.args.w c.requires.change)
    c.requires.inside
    (λ z h.
    let tops_is = c.requires.tops z h ∙ c.in-Some.is in
    stays_top (shape c.args.lists.now) c.args.p (after_of c.args.stacks.now) c.args.w c.in-Some.tops.before c.in-Some.tops.after z
    (block_before (shape c.args.lists.now) c.args.p c.args.w c.args.stacks.now c.in-Some.tops z c.requires.stacks tops_is)
    (told c.args.stacks.now z c.in-Some.tops tops_is).after
    (c.stays.ensures.yes c.if-stays.true))
    fresh m

-- a point of the rectangle is one of the block
here : (g : Over) (c : After-block-r g) (z : Point) → holds c.block-r.result z ≡ true → holds (block c.args.q c.args.columns c.args.rows) z ≡ true
here g c z h = ap (λ (r : Rect). holds r z) (sym c.block-r.ensures) ∙ h

first : (g : Over) (c : After-block-r g) → holds c.block-r.result c.block-r.result.min ≡ true
first g c = subst (λ (r : Rect). holds r r.min ≡ true) (sym c.block-r.ensures) (corner_in c.args.q c.args.columns c.args.rows c.requires.some c.requires.some_rows)

within : (g : Over) (c : After-block-r g) (z : Point) → holds c.block-r.result z ≡ true → holds (image_at (shape c.args.lists.now) c.args.p).r z ≡ true
within g c z h = c.requires.inside z (here g c z h)

-- what was topmost at its points, and what is then
olds : (g : Over) (c : After-block-r g) → IsTopOver (image_at (shape c.args.lists.now) c.args.p).windows c.block-r.result c.in-Some.tops.before
olds g c z h =
    block_before (shape c.args.lists.now) c.args.p c.args.w c.args.stacks.now c.in-Some.tops z c.requires.stacks (c.requires.tops z (here g c z h) ∙ c.in-Some.is)

news : (g : Over) (c : After-block-r g) → IsTopOver (after_of c.args.stacks.now) c.block-r.result c.in-Some.tops.after
news g c z h = (told c.args.stacks.now z c.in-Some.tops (c.requires.tops z (here g c z h) ∙ c.in-Some.is)).after

pub show-requires-clause-near : goal.show-requires-clause-near
show-requires-clause-near g c =
    let now = (goal.at.show-requires-clause-near g c).After-block-r in
    near_part c.block-r.result (image_at (shape c.args.lists.now) c.args.p).r c.block-r.result.min (nearby c.args.lists.now c.args.p c.requires.change.live).0 (first g now) (within g now)

pub show-requires-clause-ordered : goal.show-requires-clause-ordered
show-requires-clause-ordered g c = subst IsOrdered (sym c.block-r.ensures) (block_ordered c.args.q c.args.columns c.args.rows)

pub show-requires-clause-inside : goal.show-requires-clause-inside
show-requires-clause-inside g c = within g (goal.at.show-requires-clause-inside g c).After-block-r

pub show-requires-clause-surface : goal.show-requires-clause-surface
show-requires-clause-surface g c z h = c.requires.places.surface z (within g (goal.at.show-requires-clause-surface g c).After-block-r z h)

pub show-requires-clause-a_stands : goal.show-requires-clause-a_stands
show-requires-clause-a_stands g c v a_is =
    let now = (goal.at.show-requires-clause-a_stands g c).After-block-r in
    stood_old (shape c.args.lists.now) c.args.p (after_of c.args.stacks.now) c.args.w (changing c.args.lists.now c.args.p (after_of c.args.stacks.now) c.args.w c.requires.change) c.block-r.result.min v (olds g now c.block-r.result.min (first g now) ∙ a_is)

pub show-requires-clause-a_live : goal.show-requires-clause-a_live
show-requires-clause-a_live g c v a_is =
    let now = (goal.at.show-requires-clause-a_live g c).After-block-r in
    live-standing (shape c.args.lists.now) v.image c.args.p
    (stood_old (shape c.args.lists.now) c.args.p (after_of c.args.stacks.now) c.args.w (changing c.args.lists.now c.args.p (after_of c.args.stacks.now) c.args.w c.requires.change) c.block-r.result.min v (olds g now c.block-r.result.min (first g now) ∙ a_is))

pub show-requires-clause-a_place : goal.show-requires-clause-a_place
show-requires-clause-a_place g c v a_is =
    let now = (goal.at.show-requires-clause-a_place g c).After-block-r in
    near_of_old c.args.lists.now c.args.p c.requires.change.live c.block-r.result.min v (olds g now c.block-r.result.min (first g now) ∙ a_is)

pub show-requires-clause-a_there : goal.show-requires-clause-a_there
show-requires-clause-a_there g c v a_is =
    let now = (goal.at.show-requires-clause-a_there g c).After-block-r in
    let world = shape c.args.lists.now in
    let z = c.block-r.result.min in
    let top = olds g now z (first g now) ∙ a_is in
    let s = changing c.args.lists.now c.args.p (after_of c.args.stacks.now) c.args.w c.requires.change in
    let live = live-standing world v.image c.args.p (stood_old world c.args.p (after_of c.args.stacks.now) c.args.w s z v top) in
    near_point (2 ^ 40) (image_at world v.image).r (inward world v z) (nearby c.args.lists.now v.image live).0 (inward-inside world s.standing c.args.p z v c.requires.change.live top)

pub show-requires-clause-a_has : goal.show-requires-clause-a_has
show-requires-clause-a_has g c v a_is apart z h =
    let now = (goal.at.show-requires-clause-a_has g c).After-block-r in
    has_old (shape c.args.lists.now) c.args.p (after_of c.args.stacks.now) c.args.w (g.P.Pixels.has c.args.pixels.now) (changing c.args.lists.now c.args.p (after_of c.args.stacks.now) c.args.w c.requires.change) c.requires.places c.in-Some.tops.before c.in-Some.tops.after c.block-r.result
    (olds g now) (news g now) (c.stays.ensures.no c.if-stays.false) v a_is apart z h

pub show-requires-clause-b_stands : goal.show-requires-clause-b_stands
show-requires-clause-b_stands g c v b_is =
    let now = (goal.at.show-requires-clause-b_stands g c).After-block-r in
    stood_new (shape c.args.lists.now) c.args.p (after_of c.args.stacks.now) c.args.w (changing c.args.lists.now c.args.p (after_of c.args.stacks.now) c.args.w c.requires.change) c.block-r.result.min v (news g now c.block-r.result.min (first g now) ∙ b_is)

pub show-requires-clause-b_live : goal.show-requires-clause-b_live
show-requires-clause-b_live g c v b_is =
    let now = (goal.at.show-requires-clause-b_live g c).After-block-r in
    live-standing (shape c.args.lists.now) v.image c.args.p
    (stood_new (shape c.args.lists.now) c.args.p (after_of c.args.stacks.now) c.args.w (changing c.args.lists.now c.args.p (after_of c.args.stacks.now) c.args.w c.requires.change) c.block-r.result.min v (news g now c.block-r.result.min (first g now) ∙ b_is))

pub show-requires-clause-b_place : goal.show-requires-clause-b_place
show-requires-clause-b_place g c v b_is =
    let now = (goal.at.show-requires-clause-b_place g c).After-block-r in
    near_of_new (after_of c.args.stacks.now) c.block-r.result.min v c.requires.near_new (news g now c.block-r.result.min (first g now) ∙ b_is)

pub show-requires-clause-b_there : goal.show-requires-clause-b_there
show-requires-clause-b_there g c v b_is =
    let now = (goal.at.show-requires-clause-b_there g c).After-block-r in
    let world = shape c.args.lists.now in
    let z = c.block-r.result.min in
    let top = news g now z (first g now) ∙ b_is in
    let s = changing c.args.lists.now c.args.p (after_of c.args.stacks.now) c.args.w c.requires.change in
    let live = live-standing world v.image c.args.p (stood_new world c.args.p (after_of c.args.stacks.now) c.args.w s z v top) in
    near_point (2 ^ 40) (image_at world v.image).r (inward world v z) (nearby c.args.lists.now v.image live).0 (inside_new world c.args.p (after_of c.args.stacks.now) c.args.w c.requires.change z v top)

pub show-requires-clause-b_within : goal.show-requires-clause-b_within
show-requires-clause-b_within g c v b_is z h =
    let now = (goal.at.show-requires-clause-b_within g c).After-block-r in
    inside_new (shape c.args.lists.now) c.args.p (after_of c.args.stacks.now) c.args.w c.requires.change z v (news g now z h ∙ b_is)

pub show-requires-clause-b_has : goal.show-requires-clause-b_has
show-requires-clause-b_has g c v b_is apart z h =
    let now = (goal.at.show-requires-clause-b_has g c).After-block-r in
    has_new (shape c.args.lists.now) c.args.p (after_of c.args.stacks.now) c.args.w (g.P.Pixels.has c.args.pixels.now) (changing c.args.lists.now c.args.p (after_of c.args.stacks.now) c.args.w c.requires.change) c.requires.places c.in-Some.tops.before c.in-Some.tops.after c.block-r.result
    (within g now) (olds g now) (news g now) (c.stays.ensures.no c.if-stays.false) v b_is apart z h

pub show-requires-clause-apart : goal.show-requires-clause-apart
show-requires-clause-apart g c u v a_is b_is apart = (c.stays.ensures.no c.if-stays.false).differs u v a_is b_is apart

pub returns-clause-moved : goal.returns-clause-moved
returns-clause-moved g c before done fresh m =
    let now = (goal.at.returns-clause-moved g c).After-block-r in
    let other = c.stays.ensures.no c.if-stays.false in
    let r = c.block-r.result in
    let block_is = block c.args.q c.args.columns c.args.rows in
    changed-same (shape c.args.lists.now) c.args.p (after_of c.args.stacks.now) c.args.w (g.S.Source.given c.args.source.now) (g.S.Source.fill c.args.source.now) before (g.P.Pixels.kept c.show.new.pixels) (more_in r done) (more_in block_is done)
    (λ z. ap (λ (s : Rect). more_in s done z) (sym c.block-r.ensures))
    (changed-in (shape c.args.lists.now) c.args.p (after_of c.args.stacks.now) c.args.w (g.S.Source.given c.args.source.now) (g.S.Source.fill c.args.source.now) before (g.P.Pixels.kept c.args.pixels.now) (g.P.Pixels.kept c.show.new.pixels) done c.in-Some.tops.before c.in-Some.tops.after r
    (changing c.args.lists.now c.args.p (after_of c.args.stacks.now) c.args.w c.requires.change)
    (within g now) (olds g now) (news g now) other.differs other.uncovers (λ z h. fresh z (here g now z h)) m c.show.ensures.shown)

pub returns-clause-steps : goal.returns-clause-steps
returns-clause-steps g c =
    let area : area_of c.block-r.result ≡ c.args.columns * c.args.rows = ap area_of c.block-r.ensures ∙ block_area c.args.q c.args.columns c.args.rows in
    omega (arith, c.show.ensures.steps, area)
