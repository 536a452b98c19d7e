use Rattle.std.proofs.Common.{◌≡◌, ◌∙◌, ℕ, ◌+◌, ◌-◌, ◌<◌, ◌≤◌, ◌^◌, Option, length, length-append, length-drop, take, drop, ⊎_elim, refl, sym, subst, ap, arith}
use Rattle.std.proofs.lemmas.Bool.{cases_lt}
use Rattle.std.proofs.lemmas.List.{length-take-le}
use Rattle.r9_geom.specs.Geometry.{holds, strip, IsNear}
use Rattle.r9_geom.proofs.GeometryLemmas.{near_point}
use Rattle.r9_plane.specs.Pixels.{along}
use Rattle.r9_plane.proofs.PlaneLemmas.{along_holds}
use Rattle.model_forest.specs.World.{image_at}
use Rattle.model_kept.specs.Keeping.{keeping}
use Rattle.r9_locate.specs.locate.Forms.{bits_in, Form, HasBits}
use Rattle.r9_locate.specs.locate.Table.{shape}
use Rattle.r9_locate.proofs.locate.Apart.{keeping-injective}
use Rattle.r9_locate.proofs.locate.Locating.{along-along, along-apart, strip_at}
use Rattle.r9_restack.specs.Giving.{pixels_of}
use Rattle.r9_restack.proofs.Parting.{nearby}
use Rattle.r9_restack.proofs.giving.show_row.Given.{Over}
use Rattle.r9_restack.proofs.giving.show_row.Goals as goal
use Rattle.r9_restack.proofs.giving.show_row.Goals.{After-along-to}

-- so many pixels go through the block
long : (g : Over) (c : After-along-to g) → length (take c.min-len.result c.loop-done.block) ≡ c.min-len.result
long g c = length-take-le c.min-len.result c.loop-done.block (omega (arith, c.min-len.ensures, c.loop-done.invariant.long))

-- and to points of the row
to : (g : Over) (c : After-along-to g) (j : ℕ) → along c.along-to.result j ≡ along c.args.q (c.loop-done.done + j)
to g c j = ap (λ p. along p j) c.along-to.ensures ∙ along-along c.args.q c.loop-done.done j

from : (g : Over) (c : After-along-to g) (j : ℕ) → along c.along-from.result j ≡ along c.args.at (c.loop-done.done + j)
from g c j = ap (λ p. along p j) c.along-from.ensures ∙ along-along c.args.at c.loop-done.done j

pub loop-done-init : goal.loop-done-init
loop-done-init g c = record {
  within = omega arith;
  at = λ k below. absurd (omega (arith, below));
  others = λ place apart. refl;
  long = refl;
  has = refl;
  forms = refl;
  moment = refl;
  spare = refl;
  steps = omega arith;
  writes = refl;
}

pub show_block-requires-clause-near : goal.show_block-requires-clause-near
show_block-requires-clause-near g c =
    let w = shape c.args.lists.now in
    let q = along c.args.q c.loop-done.done in
    let inside = c.requires.inside q (along_holds c.args.q c.args.n c.loop-done.done c.loop-done-test.true) in
    subst IsNear (sym c.along-to.ensures) (near_point (2 ^ 40) (image_at w c.args.p).r q (nearby c.args.lists.now c.args.p c.requires.live).0 inside)

pub show_block-requires-clause-inside : goal.show_block-requires-clause-inside
show_block-requires-clause-inside g c z h =
    let now = (goal.at.show_block-requires-clause-inside g c).After-along-to in
    let found = strip_at c.along-to.result z (length (take c.min-len.result c.loop-done.block)) h in
    let fits : c.loop-done.done + found.0 < c.args.n = omega (arith, found.1, long g now, c.min-len.ensures) in
    c.requires.inside z (ap (holds (strip c.args.q c.args.n)) (found.2 ∙ to g now found.0) ∙ along_holds c.args.q c.args.n (c.loop-done.done + found.0) fits)

pub show_block-requires-clause-has : goal.show_block-requires-clause-has
show_block-requires-clause-has g c k below =
    let now = (goal.at.show_block-requires-clause-has g c).After-along-to in
    let w = shape c.args.lists.now in
    ap (λ h. h (keeping w c.args.p (along c.along-to.result k))) c.loop-done.invariant.has
    ∙ ap (λ z. g.P.Pixels.has c.args.pixels.now (keeping w c.args.p z)) (to g now k)
    ∙ c.requires.has (c.loop-done.done + k) (omega (arith, below, long g now, c.min-len.ensures, c.loop-done-test.true))

pub show_block-requires-clause-bits : goal.show_block-requires-clause-bits
show_block-requires-clause-bits g c = subst (HasBits (shape c.args.lists.now)) (sym c.loop-done.invariant.forms) c.requires.bits

pub show_block-requires-clause-below : goal.show_block-requires-clause-below
show_block-requires-clause-below g c z = subst (λ (forms : ℕ → Option Form). pixels_of (g.S.Source.given c.args.source.now) (g.S.Source.fill c.args.source.now) c.args.kind z < 2 ^ bits_in forms c.args.p) (sym c.loop-done.invariant.forms) (c.requires.below z)

pub loop-done-preserved : goal.loop-done-preserved
unfolding shape
loop-done-preserved g c =
    let now = (goal.at.loop-done-preserved g c).After-along-to in
    let w = shape c.args.lists.now in
    let p = c.args.p in
    let q = c.args.q in
    let done = c.loop-done.done in
    let len = c.min-len.result in
    let kept = g.P.Pixels.kept c.show_block.new.pixels in
    let pixels = pixels_of (g.S.Source.given c.args.source.now) (g.S.Source.fill c.args.source.now) c.args.kind in
    let size = long g now in
    record {
      within = omega (arith, c.min-len.ensures, c.loop-done.invariant.within);
      at = λ k below.
          ⊎_elim
          (λ (early : k < done).
          c.show_block.ensures.others (keeping w p (along q k))
          (λ j lower same.
          let points = keeping-injective w c.args.lists.now.standing (image_at w p).depth p (along q k) (along q (done + j)) c.requires.live (same ∙ ap (keeping w p) (to g now j)) in
          absurd (omega (arith, early, along-apart q k (done + j) points)))
          ∙ c.loop-done.invariant.at k early)
          (λ (late : done ≤ k).
          let j = k - done in
          let place : k ≡ done + j = omega arith in
          ap (λ z. kept (keeping w p z)) (ap (along q) place ∙ sym (to g now j))
          ∙ c.show_block.ensures.at j (omega (arith, below, late, size))
          ∙ ap pixels (from g now j ∙ ap (along c.args.at) (sym place)))
          (cases_lt k done);
      others = λ place apart.
          c.show_block.ensures.others place (λ j lower same. apart (done + j) (omega (arith, lower, size)) (same ∙ ap (keeping w p) (to g now j)))
          ∙ c.loop-done.invariant.others place (λ k lower. apart k (omega (arith, lower)));
      long = omega (arith, length-append c.show_block.new.raws (drop len c.loop-done.block), length-drop len c.loop-done.block, c.show_block.auto.raws, size, c.loop-done.invariant.long, c.min-len.ensures);
      has = c.show_block.ensures.has ∙ c.loop-done.invariant.has;
      forms = c.show_block.ensures.forms ∙ c.loop-done.invariant.forms;
      moment = c.show_block.ensures.moment ∙ c.loop-done.invariant.moment;
      spare = c.show_block.ensures.spare ∙ c.loop-done.invariant.spare;
      steps = omega (arith, c.show_block.ensures.steps, c.loop-done.invariant.steps, size);
      writes = omega (arith, c.show_block.ensures.writes, c.loop-done.invariant.writes);
    }

pub returns-clause-at : goal.returns-clause-at
returns-clause-at g c k below = c.loop-done.invariant.at k (omega (arith, below, c.loop-done-test.false))

pub returns-clause-others : goal.returns-clause-others
returns-clause-others g c place apart = c.loop-done.invariant.others place (λ k lower. apart k (omega (arith, lower, c.loop-done.invariant.within)))
