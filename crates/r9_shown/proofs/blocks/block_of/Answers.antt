use Rattle.std.proofs.Common.{◌≡◌, ◌∙◌, ◌<◌, ◌^◌, true, get_or, length, take, Some, None, lit≤, sym, ap, subst, arith}
use Rattle.std.specs.Prelude.{◌==◌, if◌then◌else◌}
use Rattle.std.specs.List.{position}
use Rattle.std.proofs.lemmas.Bool.{and_parts}
use Rattle.r9_geom.specs.declared.Point.{Point}
use Rattle.r9_geom.specs.Geometry.{carried, holds, IsNearBy, IsRectNearBy}
use Rattle.r9_geom.proofs.GeometryLemmas.{near_point, near_wider}
use Rattle.model_forest.specs.declared.Window.{Window}
use Rattle.model_forest.specs.View.{is_bare}
use Rattle.model_forest.specs.World.{Image, image_at, parent_of}
use Rattle.model_kept.specs.Keeping.{keeping, own}
use Rattle.r9_locate.specs.locate.Table.{shape}
use Rattle.r9_locate.proofs.locate.Locating.{keeping-root, not_is, not_not, stands_nowhere, stands_where}
use Rattle.r9_shown.specs.Shown.{block}
use Rattle.r9_shown.proofs.Carried.{carried-self}
use Rattle.r9_shown.proofs.Keepers.{block_carried, block_within, carried_through, lone_kept, window_kept}
use Rattle.r9_shown.proofs.Pieces.{corner_in}
use Rattle.r9_shown.proofs.blocks.block_of.Goals as goal
use Rattle.r9_shown.proofs.blocks.block_of.Goals.{After-shown_over-shown}

-- the image stands there
stands : (c : After-shown_over-shown) → parent_of (shape c.args.lists.now) c.loop-standing.block.image ≡ Some c.in-Some.standing.parent
stands c = stands_where (shape c.args.lists.now) c.loop-standing.block.image c.get.result.now c.in-Some.standing c.get.ensures c.in-Some.is

-- where a point of the part that is shown alike is kept
step : (c : After-shown_over-shown) (p : Point) → holds (block c.loop-standing.block.at c.shown_over-shown.result.extent.columns c.shown_over-shown.result.extent.rows) p ≡ true → keeping (shape c.args.lists.now) c.loop-standing.block.image p ≡ (if c.shown_over-shown.result.bare then keeping (shape c.args.lists.now) c.in-Some.standing.parent (carried p c.loop-standing.block.at c.carried-q.result) else own c.loop-standing.block.image p)
unfolding shape
step c p h =
    let w = shape c.args.lists.now in
    let i = c.loop-standing.block.image in
    let at = c.loop-standing.block.at in
    let q = c.carried-q.result in
    let frame = c.get-below.result.now in
    let ws = frame.windows.items in
    let k = c.in-Some-place_in.k in
    let d = c.index.result.now in
    let shown = c.shown_over-shown.result in
    let found : position (λ (v : Window). v.image == i) ws ≡ Some k =
    ap (position (λ (v : Window). v.image == i)) (sym c.deref.ensures.value) ∙ sym c.place_in.ensures.first ∙ c.in-Some-place_in.is in
    let q_is : q ≡ carried at (image_at w i).r.min (get_or ws k d).place.min =
    c.carried-q.ensures
    ∙ ap (λ (im : Image). carried at im.r.min d.place.min) (sym c.get-in-Some.ensures)
    ∙ ap (λ (v : Window). carried at (image_at w i).r.min v.place.min) c.index.ensures in
    window_kept w c.args.lists.now.standing i c.in-Some.standing.parent frame k d p at q shown.bare c.loop-standing.invariant.live (stands c) c.get-below.ensures found q_is
    (c.loop-standing.invariant.inside p (block_within at p shown.extent.columns shown.extent.rows c.loop-standing.block.extent.columns c.loop-standing.block.extent.rows c.shown_over-shown.ensures.most c.shown_over-shown.ensures.most_rows h))
    (c.shown_over-shown.ensures.same (carried p at q) (block_carried at q p shown.extent.columns shown.extent.rows h))

pub loop-standing-init : goal.loop-standing-init
loop-standing-init c = record {
  live = c.requires.live;
  some = c.requires.columns;
  some_rows = c.requires.rows;
  few = omega arith;
  few_rows = omega arith;
  inside = c.requires.inside;
  kept = λ p h. ap (keeping (shape c.args.lists.now) c.args.i) (sym (carried-self p c.args.at));
}

pub get-below-requires : goal.get-below-requires
unfolding shape
get-below-requires c =
    c.args.lists.now.standing.parents c.loop-standing.block.image c.in-Some.standing.parent c.loop-standing.invariant.live
    (stands_where (shape c.args.lists.now) c.loop-standing.block.image c.get.result.now c.in-Some.standing c.get.ensures c.in-Some.is)

pub carried-q-requires-clause-point : goal.carried-q-requires-clause-point
unfolding shape
carried-q-requires-clause-point c =
    let at = c.loop-standing.block.at in
    let near = c.args.lists.now.near c.loop-standing.block.image c.loop-standing.invariant.live in
    near_wider (2 ^ 40) (2 ^ 41) at (lit≤ tt)
    (near_point (2 ^ 40) (image_at (shape c.args.lists.now) c.loop-standing.block.image).r at near.0
    (c.loop-standing.invariant.inside at (corner_in at c.loop-standing.block.extent.columns c.loop-standing.block.extent.rows c.loop-standing.invariant.some c.loop-standing.invariant.some_rows)))

pub carried-q-requires-clause-from : goal.carried-q-requires-clause-from
unfolding shape
carried-q-requires-clause-from c =
    let near = c.args.lists.now.near c.loop-standing.block.image c.loop-standing.invariant.live in
    near_wider (2 ^ 40) (2 ^ 41) _ (lit≤ tt) (subst (λ (im : Image). IsNearBy (2 ^ 40) im.r.min) c.get-in-Some.ensures near.0.min)

pub carried-q-requires-clause-to : goal.carried-q-requires-clause-to
unfolding shape
carried-q-requires-clause-to c =
    let w = shape c.args.lists.now in
    let parent = c.in-Some.standing.parent in
    let stood = stands_where w c.loop-standing.block.image c.get.result.now c.in-Some.standing c.get.ensures c.in-Some.is in
    let alive = c.args.lists.now.standing.parents c.loop-standing.block.image parent c.loop-standing.invariant.live stood in
    let ws = c.get-below.result.now.windows.items in
    let k = c.in-Some-place_in.k in
    let d = c.index.result.now in
    let lists : (image_at w parent).windows ≡ ws = ap (λ (im : Image). im.windows) c.get-below.ensures in
    let below : k < length ws = omega (arith, c.in-Some-place_in.ensures.within, ap length c.deref.ensures.value) in
    let near : IsRectNearBy (2 ^ 40) (get_or ws k d).place =
    subst (λ us. IsRectNearBy (2 ^ 40) (get_or us k d).place) lists ((c.args.lists.now.near parent alive).1 k d (omega (arith, below, ap length lists))) in
    subst (λ (v : Window). IsNearBy (2 ^ 41) v.place.min) (sym c.index.ensures) (near_wider (2 ^ 40) (2 ^ 41) _ (lit≤ tt) near.min)

pub returns-in_default-place_in-clause-kept : goal.returns-in_default-place_in-clause-kept
unfolding shape
returns-in_default-place_in-clause-kept c p h =
    let w = shape c.args.lists.now in
    let i = c.loop-standing.block.image in
    let stood = stands_where w i c.get.result.now c.in-Some.standing c.get.ensures c.in-Some.is in
    let missing : position (λ (v : Window). v.image == i) c.get-below.result.now.windows.items ≡ None =
    ap (position (λ (v : Window). v.image == i)) (sym c.deref.ensures.value) ∙ sym c.place_in.ensures.first ∙ c.in_default-place_in.is in
    c.loop-standing.invariant.kept p h
    ∙ lone_kept w c.args.lists.now.standing i c.in-Some.standing.parent c.get-below.result.now (carried p c.args.at c.loop-standing.block.at) c.loop-standing.invariant.live stood c.get-below.ensures missing

pub returns-then-not-shown-clause-kept : goal.returns-then-not-shown-clause-kept
unfolding shape
returns-then-not-shown-clause-kept c p h =
    let now = (goal.at.returns-then-not-shown-clause-kept c).After-shown_over-shown in
    let at = c.loop-standing.block.at in
    let q = c.carried-q.result in
    let shown = c.shown_over-shown.result in
    let extent = c.loop-standing.block.extent in
    c.loop-standing.invariant.kept p (block_within c.args.at p shown.extent.columns shown.extent.rows extent.columns extent.rows c.shown_over-shown.ensures.most c.shown_over-shown.ensures.most_rows h)
    ∙ step now (carried p c.args.at at) (block_carried c.args.at at p shown.extent.columns shown.extent.rows h)
    ∙ ap (λ b. if b then keeping (shape c.args.lists.now) c.in-Some.standing.parent (carried (carried p c.args.at at) at q) else own c.loop-standing.block.image (carried p c.args.at at)) (not_is shown.bare c.if-not-shown.true)

pub loop-standing-smaller : goal.loop-standing-smaller
unfolding shape
loop-standing-smaller c =
    let now = (goal.at.loop-standing-smaller c).After-shown_over-shown in
    let above = c.args.lists.now.standing.above c.loop-standing.block.image c.in-Some.standing.parent c.loop-standing.invariant.live (stands now) in
    omega (arith, above)

pub loop-standing-preserved : goal.loop-standing-preserved
unfolding shape
loop-standing-preserved c =
    let now = (goal.at.loop-standing-preserved c).After-shown_over-shown in
    let w = shape c.args.lists.now in
    let at = c.loop-standing.block.at in
    let q = c.carried-q.result in
    let parent = c.in-Some.standing.parent in
    let frame = c.get-below.result.now in
    let shown = c.shown_over-shown.result in
    let extent = c.loop-standing.block.extent in
    let is : shown.bare ≡ true = not_not shown.bare c.if-not-shown.false in
    record {
      live = c.args.lists.now.standing.parents c.loop-standing.block.image parent c.loop-standing.invariant.live (stands now);
      some = c.shown_over-shown.ensures.some;
      some_rows = c.shown_over-shown.ensures.some_rows;
      few = omega (arith, c.shown_over-shown.ensures.most, c.loop-standing.invariant.few);
      few_rows = omega (arith, c.shown_over-shown.ensures.most_rows, c.loop-standing.invariant.few_rows);
      inside = λ z h.
          ap (λ (im : Image). holds im.r z) c.get-below.ensures
          ∙ (and_parts (holds frame.r z) (is_bare (take c.in-Some-place_in.k frame.windows.items) z) (c.shown_over-shown.ensures.same z h ∙ is)).0;
      kept = λ p h.
          c.loop-standing.invariant.kept p (block_within c.args.at p shown.extent.columns shown.extent.rows extent.columns extent.rows c.shown_over-shown.ensures.most c.shown_over-shown.ensures.most_rows h)
          ∙ step now (carried p c.args.at at) (block_carried c.args.at at p shown.extent.columns shown.extent.rows h)
          ∙ ap (λ b. if b then keeping w parent (carried (carried p c.args.at at) at q) else own c.loop-standing.block.image (carried p c.args.at at)) is
          ∙ ap (keeping w parent) (carried_through p c.args.at at q);
    }

pub returns-clause-kept : goal.returns-clause-kept
returns-clause-kept c p h =
    c.loop-standing.invariant.kept p h
    ∙ keeping-root (shape c.args.lists.now) c.loop-standing.block.image (carried p c.args.at c.loop-standing.block.at)
    (stands_nowhere (shape c.args.lists.now) c.loop-standing.block.image c.get.result.now c.get.ensures c.in_default.is)
