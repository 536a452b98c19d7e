use Rattle.std.proofs.Common.{◌≡◌, ◌∙◌, ◌+◌, ◌-◌, ◌<◌, ◌≤◌, ◌^◌, length, get_or, take, drop, ⊎_elim, sym, ap, arith}
use Rattle.std.proofs.lemmas.Bool.{cases_lt}
use Rattle.r9_plane.specs.Pixels.{along}
use Rattle.model_forest.specs.World.{image_at}
use Rattle.model_kept.specs.Keeping.{keeping, own}
use Rattle.r9_locate.specs.locate.Forms.{bits_in}
use Rattle.r9_locate.specs.locate.Table.{shape}
use Rattle.r9_locate.proofs.locate.Locating.{along-apart, run_found}
use Rattle.r9_locate.proofs.locate.Apart.{keeping-injective, run_bits}
use Rattle.r9_locate.proofs.locate.Parts.{get_or-part, length-part}
use Rattle.r9_locate.proofs.locate.viewing.write_view.Goals as goal

pub write-requires-clause-has : goal.write-requires-clause-has
write-requires-clause-has g c k below =
    let w = shape c.args.lists.now in
    let done = c.loop-done.done in
    let run = c.locate-run.result in
    let size = length-part c.args.raws.now done (done + run.len - done) (omega (arith, c.locate-run.ensures.most, c.loop-done.invariant.within)) in
    let short : k < run.len = omega (arith, below, size) in
    ap (λ h. h (own run.image (along run.at k))) c.loop-done.invariant.has
    ∙ ap (g.P.Pixels.has c.args.pixels.now) (sym (run_found w c.args.i run.image c.args.at run.at c.along.result done run.len c.along.ensures c.locate-run.ensures.kept k short))
    ∙ c.requires.has (done + k) (omega (arith, short, c.locate-run.ensures.most, c.loop-done.invariant.within))

pub write-requires-clause-below : goal.write-requires-clause-below
unfolding shape
write-requires-clause-below g c k below =
    let w = shape c.args.lists.now in
    let raws = c.args.raws.now in
    let done = c.loop-done.done in
    let run = c.locate-run.result in
    let size = done + run.len - done in
    let fits : done + size ≤ length raws = omega (arith, c.locate-run.ensures.most, c.loop-done.invariant.within) in
    let long = length-part raws done size fits in
    let in_size : k < size = omega (arith, below, long) in
    let here : done + k < length raws = omega (arith, in_size, fits) in
    let same : 2 ^ bits_in (g.P.Pixels.forms c.loop-done.pixels) run.image ≡ 2 ^ bits_in (g.P.Pixels.forms c.args.pixels.now) run.image = ap (λ forms. 2 ^ bits_in forms run.image) c.loop-done.invariant.forms in
    let bits : 2 ^ bits_in (g.P.Pixels.forms c.args.pixels.now) run.image ≡ 2 ^ bits_in (g.P.Pixels.forms c.args.pixels.now) c.args.i = ap (λ n. 2 ^ n) (run_bits w c.args.lists.now.standing (g.P.Pixels.forms c.args.pixels.now) c.requires.bits c.args.i run.image c.along.result run.at run.len c.requires.live c.locate-run.ensures.some c.locate-run.ensures.kept) in
    omega (arith, get_or-part raws done size k in_size, c.requires.below (done + k) here, same, bits)

pub loop-done-preserved : goal.loop-done-preserved
unfolding shape
loop-done-preserved g c =
    let w = shape c.args.lists.now in
    let raws = c.args.raws.now in
    let done = c.loop-done.done in
    let run = c.locate-run.result in
    let size = done + run.len - done in
    let within : done ≤ length raws = c.loop-done.invariant.within in
    let fits : done + size ≤ length raws = omega (arith, c.locate-run.ensures.most, within) in
    let long = length-part raws done size fits in
    record {
      within = omega (arith, fits);
      put = λ k below.
          ⊎_elim
          (λ (early : k < done).
          c.write.ensures.others (keeping w c.args.i (along c.args.at k))
          (λ j lower same.
          let short : j < run.len = omega (arith, lower, long) in
          let both = same ∙ sym (run_found w c.args.i run.image c.args.at run.at c.along.result done run.len c.along.ensures c.locate-run.ensures.kept j short) in
          let points = keeping-injective w c.args.lists.now.standing (image_at w c.args.i).depth c.args.i (along c.args.at k) (along c.args.at (done + j)) c.requires.live both in
          absurd (omega (arith, early, along-apart c.args.at k (done + j) points)))
          ∙ c.loop-done.invariant.put k early)
          (λ (late : done ≤ k).
          let j = k - done in
          let place : k ≡ done + j = omega arith in
          let short : j < run.len = omega (arith, below, late) in
          let in_size : j < size = omega (arith, short) in
          let inside : j < length (take size (drop done raws)) = omega (arith, long, in_size) in
          ap (λ n. g.P.Pixels.kept c.write.new.self (keeping w c.args.i (along c.args.at n))) place
          ∙ ap (g.P.Pixels.kept c.write.new.self) (run_found w c.args.i run.image c.args.at run.at c.along.result done run.len c.along.ensures c.locate-run.ensures.kept j short)
          ∙ c.write.ensures.at j inside
          ∙ get_or-part raws done size j in_size
          ∙ ap (λ n. get_or raws n 0) (sym place))
          (cases_lt k done);
      others = λ place apart.
          c.write.ensures.others place
          (λ j lower same.
          let short : j < run.len = omega (arith, lower, long) in
          apart (done + j) (omega (arith, short)) (same ∙ sym (run_found w c.args.i run.image c.args.at run.at c.along.result done run.len c.along.ensures c.locate-run.ensures.kept j short)))
          ∙ c.loop-done.invariant.others place (λ k lower. apart k (omega (arith, lower)));
      has = c.write.ensures.has ∙ c.loop-done.invariant.has;
      forms = c.write.ensures.forms ∙ c.loop-done.invariant.forms;
      moment = c.write.ensures.moment ∙ c.loop-done.invariant.moment;
      spare = c.write.ensures.spare ∙ c.loop-done.invariant.spare;
      steps = omega (arith, c.write.ensures.steps, c.loop-done.invariant.steps, long);
      writes = omega (arith, c.write.ensures.writes, c.loop-done.invariant.writes);
    }
