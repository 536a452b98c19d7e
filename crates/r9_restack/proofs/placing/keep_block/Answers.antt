use Rattle.std.proofs.Common.{◌≡◌, ◌∙◌, ℕ, ◌+◌, ◌*◌, ◌<◌, ◌^◌, Option, true, refl, sym, subst, ap, arith}
use Rattle.std.proofs.lemmas.Bool.{false≢true, or_left, or_right}
use Rattle.std.proofs.lemmas.Int.{ints}
use Rattle.r9_geom.specs.declared.Point.{Point}
use Rattle.r9_geom.specs.declared.Rect.{Rect}
use Rattle.r9_geom.specs.Geometry.{area_of, holds, strip, IsOrdered, IsRectNear}
use Rattle.r9_geom.proofs.GeometryLemmas.{bounds_of}
use Rattle.r9_plane.specs.Pixels.{along}
use Rattle.r9_plane.proofs.PlaneLemmas.{along_holds}
use Rattle.model_kept.specs.Keeping.{own, Place}
use Rattle.r9_locate.specs.locate.Forms.{bits_in, Form}
use Rattle.r9_locate.proofs.locate.Locating.{strip_at}
use Rattle.r9_shown.specs.Shown.{block, down}
use Rattle.r9_shown.proofs.Pieces.{block_area, block_ordered, corner_in}
use Rattle.r9_restack.proofs.Orders.{or_cases}
use Rattle.r9_restack.proofs.Blocked.{no_rows, one_row, row_in}
use Rattle.r9_restack.proofs.placing.keep_block.Given.{Over}
use Rattle.r9_restack.proofs.placing.keep_block.Goals as goal
use Rattle.r9_restack.proofs.placing.keep_block.Goals.{After-block-r}

-- a point of the rectangle is one of the block
of_block : (g : Over) (c : After-block-r g) (z : Point) → holds c.block-r.result z ≡ true → holds (block c.args.x c.args.columns c.args.rows) z ≡ true
of_block g c z h = ap (λ (r : Rect). holds r z) (sym c.block-r.ensures) ∙ h

to_block : (g : Over) (c : After-block-r g) (z : Point) → holds (block c.args.x c.args.columns c.args.rows) z ≡ true → holds c.block-r.result z ≡ true
to_block g c z h = ap (λ (r : Rect). holds r z) c.block-r.ensures ∙ h

area_is : (g : Over) (c : After-block-r g) → area_of c.block-r.result ≡ c.args.columns * c.args.rows
area_is g c = ap area_of c.block-r.ensures ∙ block_area c.args.x c.args.columns c.args.rows

-- ---- where one pixel is told

pub fill_block-requires-clause-near : goal.fill_block-requires-clause-near
fill_block-requires-clause-near g c = subst IsRectNear (sym c.block-r.ensures) c.requires.near

pub fill_block-requires-clause-ordered : goal.fill_block-requires-clause-ordered
fill_block-requires-clause-ordered g c = subst IsOrdered (sym c.block-r.ensures) (block_ordered c.args.x c.args.columns c.args.rows)

pub fill_block-requires-clause-has : goal.fill_block-requires-clause-has
fill_block-requires-clause-has g c z h = c.requires.has z (of_block g (goal.at.fill_block-requires-clause-has g c).After-block-r z h)

pub fill_block-requires-clause-below : goal.fill_block-requires-clause-below
fill_block-requires-clause-below g c =
    let x = c.args.x in
    let first = to_block g (goal.at.fill_block-requires-clause-below g c).After-block-r x (corner_in x c.args.columns c.args.rows c.requires.some c.requires.some_rows) in
    subst (λ (n : ℕ). n < 2 ^ bits_in (g.P.Pixels.forms c.args.pixels.now) c.args.w) (c.given_in.ensures.plain c.in-Plain.raw c.in-Plain.is x first) (c.requires.below x)

pub returns-in-Plain-clause-at : goal.returns-in-Plain-clause-at
returns-in-Plain-clause-at g c z h =
    let there = to_block g (goal.at.returns-in-Plain-clause-at g c).After-block-r z h in
    c.fill_block.ensures.at z there ∙ sym (c.given_in.ensures.plain c.in-Plain.raw c.in-Plain.is z there)

pub returns-in-Plain-clause-others : goal.returns-in-Plain-clause-others
returns-in-Plain-clause-others g c place apart =
    let now = (goal.at.returns-in-Plain-clause-others g c).After-block-r in
    c.fill_block.ensures.others place (λ z h. apart z (of_block g now z h))

pub returns-in-Plain-clause-steps : goal.returns-in-Plain-clause-steps
returns-in-Plain-clause-steps g c = omega (arith, c.fill_block.ensures.steps, area_is g (goal.at.returns-in-Plain-clause-steps g c).After-block-r)

-- ---- where rows are told

pub write_block-requires-clause-near : goal.write_block-requires-clause-near
write_block-requires-clause-near g c = subst IsRectNear (sym c.block-r.ensures) c.requires.near

pub write_block-requires-clause-ordered : goal.write_block-requires-clause-ordered
write_block-requires-clause-ordered g c = subst IsOrdered (sym c.block-r.ensures) (block_ordered c.args.x c.args.columns c.args.rows)

pub write_block-requires-clause-has : goal.write_block-requires-clause-has
write_block-requires-clause-has g c z h = c.requires.has z (of_block g (goal.at.write_block-requires-clause-has g c).After-block-r z h)

pub write_block-requires-clause-rows : goal.write_block-requires-clause-rows
write_block-requires-clause-rows g c = c.given_in.ensures.enough c.in-Rows.raws c.in-Rows.first c.in-Rows.width c.in-Rows.is

pub write_block-requires-clause-below : goal.write_block-requires-clause-below
write_block-requires-clause-below g c z h =
    subst (λ (n : ℕ). n < 2 ^ bits_in (g.P.Pixels.forms c.args.pixels.now) c.args.w) (c.given_in.ensures.rows c.in-Rows.raws c.in-Rows.first c.in-Rows.width c.in-Rows.is z h) (c.requires.below z)

pub returns-in-Rows-clause-at : goal.returns-in-Rows-clause-at
returns-in-Rows-clause-at g c z h =
    let there = to_block g (goal.at.returns-in-Rows-clause-at g c).After-block-r z h in
    c.write_block.ensures.at z there ∙ sym (c.given_in.ensures.rows c.in-Rows.raws c.in-Rows.first c.in-Rows.width c.in-Rows.is z there)

pub returns-in-Rows-clause-others : goal.returns-in-Rows-clause-others
returns-in-Rows-clause-others g c place apart =
    let now = (goal.at.returns-in-Rows-clause-others g c).After-block-r in
    c.write_block.ensures.others place (λ z h. apart z (of_block g now z h))

pub returns-in-Rows-clause-steps : goal.returns-in-Rows-clause-steps
returns-in-Rows-clause-steps g c = omega (arith, c.write_block.ensures.steps, area_is g (goal.at.returns-in-Rows-clause-steps g c).After-block-r)

-- ---- where nothing is told

pub loop-row-init : goal.loop-row-init
loop-row-init g c = record {
  at = λ z h. absurd (false≢true (sym (no_rows c.args.x c.args.columns z) ∙ h));
  others = λ place apart. refl;
  has = refl;
  forms = refl;
  moment = refl;
  spare = refl;
  steps = omega arith;
  writes = refl;
}

pub keep_strip-requires-clause-has : goal.keep_strip-requires-clause-has
keep_strip-requires-clause-has g c k below =
    let z = along c.down.result k in
    let here : holds (strip (down c.args.x c.loop-row.row) c.args.columns) z ≡ true = ap (λ p. holds (strip p c.args.columns) z) (sym c.down.ensures) ∙ along_holds c.down.result c.args.columns k below in
    ap (λ h. h (own c.args.w z)) c.loop-row.invariant.has
    ∙ c.requires.has z (row_in c.args.x c.args.columns c.loop-row.row c.args.rows z c.loop-row-test.true here)

pub keep_strip-requires-clause-below : goal.keep_strip-requires-clause-below
keep_strip-requires-clause-below g c z = subst (λ (forms : ℕ → Option Form). g.S.Source.given c.args.source.now z < 2 ^ bits_in forms c.args.w) (sym c.loop-row.invariant.forms) (c.requires.below z)

pub loop-row-preserved : goal.loop-row-preserved
loop-row-preserved g c =
    let w = c.args.w in
    let x = c.args.x in
    let n = c.args.columns in
    let row = c.loop-row.row in
    let at = c.down.result in
    let now = g.P.Pixels.kept c.keep_strip.new.pixels in
    let given = g.S.Source.given c.args.source.now in
    let more_steps : n * (row + 1) ≡ n * row + n = grind arith in
    record {
      at = λ z h.
          or_cases (holds (strip (down x row) n) z) (holds (block x n row) z) (sym (one_row x n row z) ∙ h)
          (λ here.
          let found = strip_at at z n (ap (λ p. holds (strip p n) z) c.down.ensures ∙ here) in
          ap (λ p. now (own w p)) found.2 ∙ c.keep_strip.ensures.at found.0 found.1 ∙ ap given (sym found.2))
          (λ above.
          c.keep_strip.ensures.others (own w z)
          (λ k lower same.
          let y = ap (λ (p : Point). p.y) (ap (λ (l : Place). l.at) same ∙ ap (λ p. along p k) c.down.ensures) in
          let b = bounds_of (block x n row) z above in
          absurd (omega (arith, ints, y, b.bottom)))
          ∙ c.loop-row.invariant.at z above);
      others = λ place apart.
          c.keep_strip.ensures.others place
          (λ k lower same.
          let z = along at k in
          apart z (one_row x n row z ∙ or_left (holds (strip (down x row) n) z) (holds (block x n row) z) (ap (λ p. holds (strip p n) z) (sym c.down.ensures) ∙ along_holds at n k lower)) same)
          ∙ c.loop-row.invariant.others place (λ z above. apart z (one_row x n row z ∙ or_right (holds (strip (down x row) n) z) (holds (block x n row) z) above));
      has = c.keep_strip.ensures.has ∙ c.loop-row.invariant.has;
      forms = c.keep_strip.ensures.forms ∙ c.loop-row.invariant.forms;
      moment = c.keep_strip.ensures.moment ∙ c.loop-row.invariant.moment;
      spare = c.keep_strip.ensures.spare ∙ c.loop-row.invariant.spare;
      steps = omega (arith, c.keep_strip.ensures.steps, c.loop-row.invariant.steps, more_steps);
      writes = omega (arith, c.keep_strip.ensures.writes, c.loop-row.invariant.writes);
    }

pub returns-after-loop-row-clause-at : goal.returns-after-loop-row-clause-at
returns-after-loop-row-clause-at g c z h =
    let end : c.loop-row.row ≡ c.args.rows = omega (arith, c.loop-row-test.false, c.loop-row.auto.row-end) in
    c.loop-row.invariant.at z (ap (λ rows. holds (block c.args.x c.args.columns rows) z) end ∙ h)

pub returns-after-loop-row-clause-others : goal.returns-after-loop-row-clause-others
returns-after-loop-row-clause-others g c place apart =
    let end : c.loop-row.row ≡ c.args.rows = omega (arith, c.loop-row-test.false, c.loop-row.auto.row-end) in
    c.loop-row.invariant.others place (λ z h. apart z (ap (λ rows. holds (block c.args.x c.args.columns rows) z) (sym end) ∙ h))

pub returns-after-loop-row-clause-steps : goal.returns-after-loop-row-clause-steps
returns-after-loop-row-clause-steps g c =
    let end : c.loop-row.row ≡ c.args.rows = omega (arith, c.loop-row-test.false, c.loop-row.auto.row-end) in
    let all : c.args.columns * c.loop-row.row ≡ c.args.columns * c.args.rows = ap (λ n. c.args.columns * n) end in
    omega (arith, c.loop-row.invariant.steps, all)
