use Rattle.std.proofs.Common.{◌≡◌, ◌∙◌, ℕ, ◌+◌, ◌-◌, ◌*◌, ◌<◌, ◌≤◌, ◌^◌, lit≤, Bool, Option, None, true, false, refl, sym, subst, ap, arith}
use Rattle.std.specs.Prelude.{◌||◌}
use Rattle.std.proofs.lemmas.Bool.{false_from_ne_true, false≢true, true≢false}
use Rattle.std.proofs.lemmas.Int.{ints}
use Rattle.r9_geom.specs.declared.Point.{Point}
use Rattle.r9_geom.specs.Geometry.{carried, holds, strip, IsRectNear}
use Rattle.r9_geom.proofs.GeometryLemmas.{bounds_of, near_wider, same_point}
use Rattle.r9_plane.specs.Pixels.{along}
use Rattle.r9_plane.proofs.PlaneLemmas.{along_holds}
use Rattle.model_forest.specs.World.{Image, image_at}
use Rattle.model_kept.specs.Keeping.{own}
use Rattle.model_kept.specs.Restack.{with_own}
use Rattle.r9_locate.specs.locate.Forms.{bits_in, Form, HasBits}
use Rattle.r9_locate.specs.locate.Table.{shape}
use Rattle.r9_shown.specs.Shown.{block}
use Rattle.r9_shown.proofs.Pieces.{block_none, block_part, block_split, first_row}
use Rattle.r9_restack.specs.Placing.{comes, with_coming, IsComing, IsPlaced}
use Rattle.r9_restack.specs.Showing.{shown_at}
use Rattle.r9_restack.specs.Stacks.{after_of}
use Rattle.r9_restack.proofs.Carrying.{near_block}
use Rattle.r9_restack.proofs.Changes.{changed-same}
use Rattle.r9_restack.proofs.Orders.{or_cases}
use Rattle.r9_restack.proofs.Placed.{coming_none, coming_part, coming_two}
use Rattle.r9_restack.proofs.Blocked.{block_carried}
use Rattle.r9_restack.proofs.Showing.{shown_none, shown_same, unshown}
use Rattle.r9_restack.proofs.Steady.{steady_block}
use Rattle.r9_restack.proofs.placing.place_band.Given.{Over}
use Rattle.r9_restack.proofs.placing.place_band.Goals as goal
use Rattle.r9_restack.proofs.placing.place_band.Goals.{After-part_from-part}

pub loop-done-init : goal.loop-done-init
loop-done-init g c =
    let world = shape c.args.lists.now in
    let comings = comes (image_at world c.args.p).r c.args.area.now (after_of c.args.stacks.now) c.args.w in
    let kept = g.P.Pixels.kept c.args.pixels.now in
    record {
      within = omega arith;
      moved = λ before also coming m.
          changed-same world c.args.p (after_of c.args.stacks.now) c.args.w (g.S.Source.given c.args.source.now) (g.S.Source.fill c.args.source.now) (with_own c.args.w (λ x. kept (own c.args.w x)) before) kept also (with_coming (block c.args.q 0 c.args.rows) comings also)
          (coming_none (block c.args.q 0 c.args.rows) comings also (λ z h. absurd (false≢true (sym (block_none c.args.q c.args.rows z) ∙ h))))
          m;
      kept = λ z h hid. absurd (false≢true (sym (block_none c.args.x c.args.rows z) ∙ h));
      others = λ z apart. refl;
      has = refl;
      forms = refl;
      moment = refl;
      spare = refl;
      steps = omega arith;
      writes = refl;
    }

-- its columns are columns of the band
fits : (g : Over) (c : After-part_from-part g) → c.loop-done.done + c.part_from-part.result.extent.columns ≤ c.args.columns
fits g c = omega (arith, c.part_from-part.ensures.most, c.loop-done-test.true)

below_is : (g : Over) (c : After-part_from-part g) → (image_at (shape c.args.lists.now) c.args.p).r ≡ c.get.result.now.r
below_is g c = ap (λ (im : Image). im.r) c.get.ensures

-- what is told of its row is told of all of the block
all_shown : (g : Over) (c : After-part_from-part g) (z : Point) → holds (block c.along-from.result c.part_from-part.result.extent.columns c.args.rows) z ≡ true → shown_at (image_at (shape c.args.lists.now) c.args.p).r c.args.area.now c.args.stacks.now c.args.w z ≡ c.part_from-part.result.shown
all_shown g c =
    let at = shown_at (image_at (shape c.args.lists.now) c.args.p).r c.args.area.now c.args.stacks.now c.args.w in
    let part = c.part_from-part.result in
    let len = part.extent.columns in
    let from = c.along-from.result in
    steady_block at c.args.q from c.loop-done.done len c.args.columns c.args.rows part.shown c.along-from.ensures (fits g c)
    c.requires.shown
    (λ k below.
    let z = along from k in
    let here : holds (strip from len) z ≡ true = along_holds from len k below in
    let inside = block_part c.args.q c.loop-done.done len c.args.columns c.args.rows z (fits g c)
    (ap (λ p. holds (block p len c.args.rows) z) (sym c.along-from.ensures) ∙ first_row from len c.args.rows z c.requires.some here) in
    ap (λ r. shown_at r c.args.area.now c.args.stacks.now c.args.w z) (below_is g c)
    ∙ shown_same c.get.result.now.r c.args.area.now c.args.stacks.now c.args.near.now c.args.w z c.requires.stacks.apart c.requires.apart (sym (c.requires.same z inside))
    ∙ c.part_from-part.ensures.shown z here)

-- the block of the window stands at that of the image below
there : (g : Over) (c : After-part_from-part g) (z : Point) → holds (block c.along-from.result c.part_from-part.result.extent.columns c.args.rows) (carried z c.args.x c.args.q) ≡ holds (block (along c.args.x c.loop-done.done) c.part_from-part.result.extent.columns c.args.rows) z
there g c z =
    block_carried (along c.args.x c.loop-done.done) c.along-from.result c.args.x c.args.q z c.part_from-part.result.extent.columns c.args.rows
    (c.along-from.ensures ∙ same_point (along c.args.q c.loop-done.done) (carried (along c.args.x c.loop-done.done) c.args.x c.args.q) (omega (arith, ints)) (omega (arith, ints)))

pub along-requires-clause-near : goal.along-requires-clause-near
along-requires-clause-near g c =
    near_wider (2 ^ 40) (2 ^ 42) c.args.x (lit≤ tt) c.requires.near.min

pub part_from-part-requires-clause-apart : goal.part_from-part-requires-clause-apart
part_from-part-requires-clause-apart g c = c.requires.apart

-- the last part begins where so many columns are left as it has
pub part_from-part-requires-clause-last : goal.part_from-part-requires-clause-last
part_from-part-requires-clause-last g c same z h =
    let n = c.args.last.now.extent.columns in
    let start : c.args.columns - n ≡ c.loop-done.done = omega (arith, same, c.loop-done-test.true) in
    ap (λ r. shown_at r c.args.area.now c.args.near.now c.args.w z) (sym (ap (λ (im : Image). im.r) c.get.ensures))
    ∙ c.requires.last (omega (arith, same)) z
    (ap (λ m. holds (strip (along c.args.q m) n) z) start ∙ ap (λ p. holds (strip p n) z) (sym c.along-from.ensures) ∙ h)

pub place_block-requires-clause-near : goal.place_block-requires-clause-near
place_block-requires-clause-near g c =
    let now = (goal.at.place_block-requires-clause-near g c).After-part_from-part in
    let len = c.part_from-part.result.extent.columns in
    subst (λ p. IsRectNear (block p len c.args.rows)) (sym c.along.ensures)
    (near_block c.args.x c.loop-done.done len c.args.columns c.args.rows c.args.rows (fits g now) (omega arith) c.requires.near)

pub place_block-requires-clause-columns : goal.place_block-requires-clause-columns
place_block-requires-clause-columns g c = omega (arith, c.part_from-part.ensures.short)

pub place_block-requires-clause-shown : goal.place_block-requires-clause-shown
place_block-requires-clause-shown g c = all_shown g (goal.at.place_block-requires-clause-shown g c).After-part_from-part

pub place_block-requires-clause-bits : goal.place_block-requires-clause-bits
place_block-requires-clause-bits g c = subst (HasBits (shape c.args.lists.now)) (sym c.loop-done.invariant.forms) c.requires.bits

pub place_block-requires-clause-given : goal.place_block-requires-clause-given
place_block-requires-clause-given g c z = subst (λ (forms : ℕ → Option Form). g.S.Source.given c.args.source.now z < 2 ^ bits_in forms c.args.p) (sym c.loop-done.invariant.forms) (c.requires.given z)

pub place_block-requires-clause-fill : goal.place_block-requires-clause-fill
place_block-requires-clause-fill g c z = subst (λ (forms : ℕ → Option Form). g.S.Source.fill c.args.source.now z < 2 ^ bits_in forms c.args.p) (sym c.loop-done.invariant.forms) (c.requires.fill z)

pub place_block-requires-clause-own : goal.place_block-requires-clause-own
place_block-requires-clause-own g c hid z h =
    let now = (goal.at.place_block-requires-clause-own g c).After-part_from-part in
    let here : holds (block (along c.args.x c.loop-done.done) c.part_from-part.result.extent.columns c.args.rows) z ≡ true = ap (λ p. holds (block p c.part_from-part.result.extent.columns c.args.rows) z) (sym c.along.ensures) ∙ h in
    ap (λ h. h (own c.args.w z)) c.loop-done.invariant.has
    ∙ c.requires.own z (block_part c.args.x c.loop-done.done c.part_from-part.result.extent.columns c.args.columns c.args.rows z (fits g now) here)
    (unshown (image_at (shape c.args.lists.now) c.args.p).r c.args.area.now c.args.stacks.now c.args.w (carried z c.args.x c.args.q) (all_shown g now (carried z c.args.x c.args.q) (there g now z ∙ here) ∙ hid))

pub loop-done-preserved : goal.loop-done-preserved
loop-done-preserved g c =
    let now = (goal.at.loop-done-preserved g c).After-part_from-part in
    let world = shape c.args.lists.now in
    let new = after_of c.args.stacks.now in
    let w = c.args.w in
    let x = c.args.x in
    let q = c.args.q in
    let rows = c.args.rows in
    let done = c.loop-done.done in
    let len = c.part_from-part.result.extent.columns in
    let from = c.along-from.result in
    let kept = g.P.Pixels.kept c.place_block.new.pixels in
    let given = g.S.Source.given c.args.source.now in
    let comings = comes (image_at world c.args.p).r c.args.area.now new w in
    let more_steps : (done + len) * rows ≡ done * rows + len * rows = grind arith in
    record {
      within = fits g now;
      moved = λ before also coming m.
          let so_far = c.loop-done.invariant.moved before also coming m in
          let until = with_coming (block q done rows) comings also in
          let ready : IsComing (block from len rows) comings until = subst (λ (p : Point). IsComing (block p len rows) comings until) (sym c.along-from.ensures) (coming_part q done len c.args.columns rows comings also (fits g now) coming) in
          changed-same world c.args.p new w given (g.S.Source.fill c.args.source.now) (with_own w (λ y. kept (own w y)) before) kept (with_coming (block from len rows) comings until) (with_coming (block q (done + len) rows) comings also)
          (λ z. coming_two q done len rows comings also z ∙ ap (λ p. with_coming (block p len rows) comings until z) (sym c.along-from.ensures))
          (c.place_block.ensures.moved before until ready so_far);
      kept = λ z h hid.
          or_cases (holds (block (along x done) len rows) z) (holds (block x done rows) z) (sym (block_split x done len rows z) ∙ h)
          (λ here.
          let is : c.part_from-part.result.shown ≡ None = sym (all_shown g now (carried z x q) (there g now z ∙ here)) ∙ shown_none (image_at world c.args.p).r c.args.area.now c.args.stacks.now w (carried z x q) hid in
          c.place_block.ensures.kept is z (ap (λ p. holds (block p len rows) z) c.along.ensures ∙ here))
          (λ early.
          c.place_block.ensures.others z (ap (λ p. holds (block p len rows) z) c.along.ensures ∙ not_after x z done len rows early)
          ∙ c.loop-done.invariant.kept z early hid);
      others = λ z away.
          let none = or_none (holds (block (along x done) len rows) z) (holds (block x done rows) z) (sym (block_split x done len rows z) ∙ away) in
          c.place_block.ensures.others z (ap (λ p. holds (block p len rows) z) c.along.ensures ∙ none.0)
          ∙ c.loop-done.invariant.others z none.1;
      has = c.place_block.ensures.has ∙ c.loop-done.invariant.has;
      forms = c.place_block.ensures.forms ∙ c.loop-done.invariant.forms;
      moment = c.place_block.ensures.moment ∙ c.loop-done.invariant.moment;
      spare = c.place_block.ensures.spare ∙ c.loop-done.invariant.spare;
      steps = omega (arith, c.place_block.ensures.steps, c.loop-done.invariant.steps, more_steps);
      writes = omega (arith, c.place_block.ensures.writes, c.loop-done.invariant.writes);
    }
  where
    or_none : (a b : Bool) → (a || b) ≡ false → (a ≡ false) × (b ≡ false)
    or_none true b e = absurd (true≢false e)
    or_none false b e = (refl, e)

    not_after : (at z : Point) (d n m : ℕ) → holds (block at d m) z ≡ true → holds (block (along at d) n m) z ≡ false
    not_after at z d n m early =
        false_from_ne_true (holds (block (along at d) n m) z)
        (λ late.
        let a = bounds_of (block at d m) z early in
        let b = bounds_of (block (along at d) n m) z late in
        absurd (omega (arith, ints, a.right, b.left)))

pub returns-clause-moved : goal.returns-clause-moved
returns-clause-moved g c before also coming m =
    let world = shape c.args.lists.now in
    let end : c.loop-done.done ≡ c.args.columns = omega (arith, c.loop-done-test.false, c.loop-done.invariant.within) in
    subst (λ (n : ℕ). IsPlaced world c.args.p (after_of c.args.stacks.now) c.args.w (g.S.Source.given c.args.source.now) (g.S.Source.fill c.args.source.now) before (g.P.Pixels.kept c.loop-done.pixels) (with_coming (block c.args.q n c.args.rows) (comes (image_at world c.args.p).r c.args.area.now (after_of c.args.stacks.now) c.args.w) also)) end
    (c.loop-done.invariant.moved before also coming m)

pub returns-clause-kept : goal.returns-clause-kept
returns-clause-kept g c z h hid =
    let end : c.loop-done.done ≡ c.args.columns = omega (arith, c.loop-done-test.false, c.loop-done.invariant.within) in
    c.loop-done.invariant.kept z (ap (λ n. holds (block c.args.x n c.args.rows) z) end ∙ h) hid

pub returns-clause-others : goal.returns-clause-others
returns-clause-others g c z away =
    let end : c.loop-done.done ≡ c.args.columns = omega (arith, c.loop-done-test.false, c.loop-done.invariant.within) in
    c.loop-done.invariant.others z (ap (λ n. holds (block c.args.x n c.args.rows) z) end ∙ away)

pub returns-clause-steps : goal.returns-clause-steps
returns-clause-steps g c =
    let end : c.loop-done.done ≡ c.args.columns = omega (arith, c.loop-done-test.false, c.loop-done.invariant.within) in
    let all : c.loop-done.done * c.args.rows ≡ c.args.columns * c.args.rows = ap (λ n. n * c.args.rows) end in
    omega (arith, c.loop-done.invariant.steps, all)
