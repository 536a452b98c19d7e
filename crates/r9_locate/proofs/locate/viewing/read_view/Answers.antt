use Rattle.std.proofs.Common.{◌≡◌, ◌∙◌, ◌+◌, ◌-◌, ◌<◌, ◌≤◌, ◌^◌, length, get_or, take, drop, ℕ, ⊎_elim, sym, subst, ap, arith}
use Rattle.std.proofs.lemmas.Bool.{cases_lt}
use Rattle.r9_plane.specs.Pixels.{along}
use Rattle.model_kept.specs.Keeping.{keeping}
use Rattle.r9_locate.specs.locate.Forms.{bits_in}
use Rattle.r9_locate.specs.locate.Table.{shape}
use Rattle.r9_locate.proofs.locate.Locating.{run_found}
use Rattle.r9_locate.proofs.locate.Apart.{run_bits}
use Rattle.r9_locate.proofs.locate.Parts.{length-part, length-put_mid, put_mid_before, put_mid_inside}
use borrow.Rule.Slice.PartMut.{put_mid}
use Rattle.r9_locate.proofs.locate.viewing.read_view.Goals as goal

pub read-requires : goal.read-requires
read-requires g c k below =
    let w = shape c.args.lists.now in
    let done = c.loop-done.done in
    let run = c.locate-run.result in
    let size = length-part c.loop-done.raws done (done + run.len - done) (omega (arith, c.locate-run.ensures.most, c.loop-done.invariant.within, c.loop-done.auto.raws)) in
    let short : k < run.len = omega (arith, below, size) in
    ap (g.P.Pixels.has c.args.pixels.now) (sym (run_found w c.args.i run.image c.args.from run.at c.along.result done run.len c.along.ensures c.locate-run.ensures.kept k short))
    ∙ c.requires.has (done + k) (omega (arith, short, c.locate-run.ensures.most, c.loop-done.invariant.within, c.loop-done.auto.raws))

pub loop-done-preserved : goal.loop-done-preserved
unfolding shape
loop-done-preserved g c =
    let w = shape c.args.lists.now in
    let raws = c.loop-done.raws in
    let done = c.loop-done.done in
    let run = c.locate-run.result in
    let size = done + run.len - done in
    let within : done ≤ length raws = c.loop-done.invariant.within in
    let fits : done + size ≤ length raws = omega (arith, c.locate-run.ensures.most, within) in
    let long : length c.read.new.raws ≡ size = c.read.auto.raws ∙ length-part raws done size fits in
    record {
      within = omega (arith, length-put_mid done size raws c.read.new.raws fits long, fits);
      read = λ k below.
          ⊎_elim
          (λ (early : k < done). put_mid_before done size raws c.read.new.raws k within early ∙ c.loop-done.invariant.read k early)
          (λ (late : done ≤ k).
          let j = k - done in
          let place : k ≡ done + j = omega arith in
          let short : j < run.len = omega (arith, below, late) in
          let in_size : j < size = omega (arith, short) in
          let inside : j < length (take size (drop done raws)) = omega (arith, length-part raws done size fits, in_size) in
          ap (λ n. get_or (put_mid done size raws c.read.new.raws) n 0) place
          ∙ put_mid_inside done size raws c.read.new.raws j within long in_size
          ∙ c.read.ensures.pixels j inside
          ∙ ap (g.P.Pixels.kept c.args.pixels.now) (sym (run_found w c.args.i run.image c.args.from run.at c.along.result done run.len c.along.ensures c.locate-run.ensures.kept j short))
          ∙ ap (λ n. g.P.Pixels.kept c.args.pixels.now (keeping w c.args.i (along c.args.from n))) (sym place))
          (cases_lt k done);
      below = λ k below.
          ⊎_elim
          (λ (early : k < done). subst (λ (raw : ℕ). raw < 2 ^ bits_in (g.P.Pixels.forms c.args.pixels.now) c.args.i) (sym (put_mid_before done size raws c.read.new.raws k within early)) (c.loop-done.invariant.below k early))
          (λ (late : done ≤ k).
          let j = k - done in
          let place : k ≡ done + j = omega arith in
          let in_size : j < size = omega (arith, below, late) in
          let inside : j < length (take size (drop done raws)) = omega (arith, length-part raws done size fits, in_size) in
          let is : get_or (put_mid done size raws c.read.new.raws) k 0 ≡ get_or c.read.new.raws j 0 = ap (λ n. get_or (put_mid done size raws c.read.new.raws) n 0) place ∙ put_mid_inside done size raws c.read.new.raws j within long in_size in
          let bits : 2 ^ bits_in (g.P.Pixels.forms c.args.pixels.now) run.image ≡ 2 ^ bits_in (g.P.Pixels.forms c.args.pixels.now) c.args.i = ap (λ n. 2 ^ n) (run_bits w c.args.lists.now.standing (g.P.Pixels.forms c.args.pixels.now) c.requires.bits c.args.i run.image c.along.result run.at run.len c.requires.live c.locate-run.ensures.some c.locate-run.ensures.kept) in
          omega (arith, is, bits, c.read.ensures.below j inside))
          (cases_lt k done);
    }
