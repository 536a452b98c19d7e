use Rattle.std.proofs.Common.{◌≡◌, ◌∙◌, ℕ, ◌+◌, ◌-◌, ◌<◌, ◌≤◌, ◌^◌, Option, length, length-append, length-drop, take, drop, ⊎_elim, refl, sym, subst, ap, arith}
use Rattle.std.proofs.lemmas.Bool.{cases_lt}
use Rattle.std.proofs.lemmas.List.{length-take-le}
use Rattle.r9_plane.specs.Pixels.{along}
use Rattle.model_kept.specs.Keeping.{own, Place}
use Rattle.r9_locate.specs.locate.Forms.{bits_in, Form}
use Rattle.r9_locate.proofs.locate.Locating.{along-along, along-apart}
use Rattle.r9_restack.proofs.placing.keep_strip.Goals as goal

pub loop-done-init : goal.loop-done-init
loop-done-init g c = record {
  within = omega arith;
  at = λ k below. absurd (omega (arith, below));
  others = λ place apart. refl;
  long = refl;
  has = refl;
  forms = refl;
  moment = refl;
  spare = refl;
  steps = omega arith;
  writes = refl;
}

pub keep_run-requires-clause-has : goal.keep_run-requires-clause-has
keep_run-requires-clause-has g c k below =
    let done = c.loop-done.done in
    let len = c.min-len.result in
    let long : length (take len c.loop-done.raws) ≡ len = length-take-le len c.loop-done.raws (omega (arith, c.min-len.ensures, c.loop-done.invariant.long)) in
    let from : along c.along.result k ≡ along c.args.x (done + k) = ap (λ p. along p k) c.along.ensures ∙ along-along c.args.x done k in
    ap (λ h. h (own c.args.w (along c.along.result k))) c.loop-done.invariant.has
    ∙ ap (λ p. g.P.Pixels.has c.args.pixels.now (own c.args.w p)) from
    ∙ c.requires.has (done + k) (omega (arith, below, long, c.min-len.ensures, c.loop-done-test.true))

pub keep_run-requires-clause-below : goal.keep_run-requires-clause-below
keep_run-requires-clause-below g c z = subst (λ (forms : ℕ → Option Form). g.S.Source.given c.args.source.now z < 2 ^ bits_in forms c.args.w) (sym c.loop-done.invariant.forms) (c.requires.below z)

pub loop-done-preserved : goal.loop-done-preserved
loop-done-preserved g c =
    let w = c.args.w in
    let x = c.args.x in
    let done = c.loop-done.done in
    let len = c.min-len.result in
    let raws = c.loop-done.raws in
    let now = g.P.Pixels.kept c.keep_run.new.pixels in
    let given = g.S.Source.given c.args.source.now in
    let fits : done + len ≤ c.args.n = omega (arith, c.min-len.ensures, c.loop-done.invariant.within) in
    let long : length (take len raws) ≡ len = length-take-le len raws (omega (arith, c.min-len.ensures, c.loop-done.invariant.long)) in
    let from : (j : ℕ) → along c.along.result j ≡ along x (done + j) = λ j. ap (λ p. along p j) c.along.ensures ∙ along-along x done j in
    record {
      within = fits;
      at = λ k below.
          ⊎_elim
          (λ (early : k < done).
          c.keep_run.ensures.others (own w (along x k))
          (λ j lower same. absurd (omega (arith, early, along-apart x k (done + j) (ap (λ (l : Place). l.at) same ∙ from j))))
          ∙ c.loop-done.invariant.at k early)
          (λ (late : done ≤ k).
          let j = k - done in
          let place : k ≡ done + j = omega arith in
          let here : along x k ≡ along c.along.result j = ap (along x) place ∙ sym (from j) in
          ap (λ p. now (own w p)) here
          ∙ c.keep_run.ensures.at j (omega (arith, below, late, long))
          ∙ ap given (sym here))
          (cases_lt k done);
      others = λ place apart.
          c.keep_run.ensures.others place (λ j lower same. apart (done + j) (omega (arith, lower, long)) (same ∙ ap (own w) (from j)))
          ∙ c.loop-done.invariant.others place (λ k lower. apart k (omega (arith, lower)));
      long = omega (arith, length-append c.keep_run.new.raws (drop len raws), length-drop len raws, c.keep_run.auto.raws, long, c.loop-done.invariant.long, c.min-len.ensures);
      has = c.keep_run.ensures.has ∙ c.loop-done.invariant.has;
      forms = c.keep_run.ensures.forms ∙ c.loop-done.invariant.forms;
      moment = c.keep_run.ensures.moment ∙ c.loop-done.invariant.moment;
      spare = c.keep_run.ensures.spare ∙ c.loop-done.invariant.spare;
      steps = omega (arith, c.keep_run.ensures.steps, c.loop-done.invariant.steps, long);
      writes = omega (arith, c.keep_run.ensures.writes, c.loop-done.invariant.writes);
    }

pub returns-clause-at : goal.returns-clause-at
returns-clause-at g c k below = c.loop-done.invariant.at k (omega (arith, below, c.loop-done-test.false))

pub returns-clause-others : goal.returns-clause-others
returns-clause-others g c place apart = c.loop-done.invariant.others place (λ k lower. apart k (omega (arith, lower, c.loop-done.invariant.within)))
