use Rattle.std.proofs.Common.{◌≡◌, ◌∙◌, ℕ, ◌+◌, ◌-◌, ◌<◌, ◌≤◌, ⊎_elim, sym, ap, arith}
use Rattle.std.proofs.lemmas.Bool.{cases_lt}
use Rattle.r9_plane.specs.Pixels.{along}
use Rattle.model_forest.specs.World.{image_at}
use Rattle.model_forest.proofs.Changes.{live-standing}
use Rattle.model_kept.specs.Keeping.{keeping, own}
use Rattle.r9_locate.specs.locate.Forms.{bits_in}
use Rattle.r9_locate.specs.locate.Table.{shape}
use Rattle.r9_locate.proofs.locate.Locating.{along-along, along-apart, run_found}
use Rattle.r9_locate.proofs.locate.Apart.{keeping-injective, own-apart, run_bits}
use Rattle.r9_locate.proofs.locate.viewing.show_own.Goals as goal

pub carry-requires-clause-apart : goal.carry-requires-clause-apart
unfolding shape
carry-requires-clause-apart g c same =
    let w = shape c.args.lists.now in
    let run = c.locate-run.result in
    own-apart w c.args.lists.now.standing c.args.i c.args.from (along run.at 0) (along c.along.result 0) c.requires.live c.requires.stands
    (ap (λ i. own i (along run.at 0)) same ∙ sym (c.locate-run.ensures.kept 0 c.locate-run.ensures.some))

pub carry-requires-clause-has : goal.carry-requires-clause-has
carry-requires-clause-has g c k below =
    let w = shape c.args.lists.now in
    let done = c.loop-done.done in
    let run = c.locate-run.result in
    ap (λ h. h (own run.image (along run.at k))) c.loop-done.invariant.has
    ∙ ap (g.P.Pixels.has c.args.pixels.now) (sym (run_found w c.args.i run.image c.args.p run.at c.along.result done run.len c.along.ensures c.locate-run.ensures.kept k below))
    ∙ c.requires.has (done + k) (omega (arith, below, c.locate-run.ensures.most, c.loop-done.invariant.within))

pub carry-requires-clause-had : goal.carry-requires-clause-had
carry-requires-clause-had g c k below =
    let done = c.loop-done.done in
    ap (λ h. h (own c.args.from (along c.along-here.result k))) c.loop-done.invariant.has
    ∙ ap (λ q. g.P.Pixels.has c.args.pixels.now (own c.args.from q)) (ap (λ q. along q k) c.along-here.ensures ∙ along-along c.args.at done k)
    ∙ c.requires.had (done + k) (omega (arith, below, c.locate-run.ensures.most, c.loop-done.invariant.within))

pub carry-requires-clause-bits : goal.carry-requires-clause-bits
unfolding shape
carry-requires-clause-bits g c =
    let w = shape c.args.lists.now in
    let run = c.locate-run.result in
    let forms = g.P.Pixels.forms c.args.pixels.now in
    ap (λ forms. bits_in forms c.args.from) c.loop-done.invariant.forms
    ∙ c.requires.bits c.args.from c.args.i (live-standing w c.args.from c.args.i c.requires.stands) c.requires.stands
    ∙ sym (run_bits w c.args.lists.now.standing forms c.requires.bits c.args.i run.image c.along.result run.at run.len c.requires.live c.locate-run.ensures.some c.locate-run.ensures.kept)
    ∙ sym (ap (λ forms. bits_in forms run.image) c.loop-done.invariant.forms)

pub loop-done-preserved : goal.loop-done-preserved
unfolding shape
loop-done-preserved g c =
    let w = shape c.args.lists.now in
    let done = c.loop-done.done in
    let run = c.locate-run.result in
    let ok = c.args.lists.now.standing in
    let here : (j : ℕ) → own c.args.from (along c.along-here.result j) ≡ own c.args.from (along c.args.at (done + j)) = λ j. ap (λ q. own c.args.from (along q j)) c.along-here.ensures ∙ ap (own c.args.from) (along-along c.args.at done j) in
    let found = run_found w c.args.i run.image c.args.p run.at c.along.result done run.len c.along.ensures c.locate-run.ensures.kept in
    record {
      within = omega (arith, c.locate-run.ensures.most, c.loop-done.invariant.within);
      put = λ k below.
          ⊎_elim
          (λ (early : k < done).
          c.carry.ensures.others (keeping w c.args.i (along c.args.p k))
          (λ j lower same.
          let points = keeping-injective w ok (image_at w c.args.i).depth c.args.i (along c.args.p k) (along c.args.p (done + j)) c.requires.live (same ∙ sym (found j lower)) in
          absurd (omega (arith, early, along-apart c.args.p k (done + j) points)))
          ∙ c.loop-done.invariant.put k early)
          (λ (late : done ≤ k).
          let j = k - done in
          let place : k ≡ done + j = omega arith in
          let short : j < run.len = omega (arith, below, late) in
          ap (λ n. g.P.Pixels.kept c.carry.new.self (keeping w c.args.i (along c.args.p n))) place
          ∙ ap (g.P.Pixels.kept c.carry.new.self) (found j short)
          ∙ c.carry.ensures.at j short
          ∙ ap (g.P.Pixels.kept c.loop-done.pixels) (here j)
          ∙ c.loop-done.invariant.others (own c.args.from (along c.args.at (done + j))) (λ l lower same. own-apart w ok c.args.i c.args.from (along c.args.at (done + j)) (along c.args.p l) c.requires.live c.requires.stands same)
          ∙ ap (λ n. g.P.Pixels.kept c.args.pixels.now (own c.args.from (along c.args.at n))) (sym place))
          (cases_lt k done);
      others = λ place apart.
          c.carry.ensures.others place (λ j lower same. apart (done + j) (omega (arith, lower)) (same ∙ sym (found j lower)))
          ∙ c.loop-done.invariant.others place (λ k lower. apart k (omega (arith, lower)));
      has = c.carry.ensures.has ∙ c.loop-done.invariant.has;
      forms = c.carry.ensures.forms ∙ c.loop-done.invariant.forms;
      moment = c.carry.ensures.moment ∙ c.loop-done.invariant.moment;
      spare = c.carry.ensures.spare ∙ c.loop-done.invariant.spare;
      steps = omega (arith, c.carry.ensures.steps, c.loop-done.invariant.steps);
      writes = omega (arith, c.carry.ensures.writes, c.loop-done.invariant.writes);
    }
