use Rattle.std.proofs.Common.{◌%◌, arith, sym, ap, ◌∙◌}
use Rattle.std.proofs.lemmas.Nat.{one_shl}
use Rattle.model_pixel.specs.Channels.{promoted}
use Rattle.r9_chan.proofs.ChannelLemmas.{sound_of, level_hit, level_miss, level_none}
use Rattle.r9_chan.proofs.descriptor.level.Goals as goal

pub promoted-requires-clause-some : goal.promoted-requires-clause-some
promoted-requires-clause-some c =
    (sound_of c.loop-rest.rest c.loop-rest.auto.rest-fits.fits c.loop-rest-test.true c.loop-rest.invariant.sound).some

pub promoted-requires-clause-most : goal.promoted-requires-clause-most
promoted-requires-clause-most c =
    (sound_of c.loop-rest.rest c.loop-rest.auto.rest-fits.fits c.loop-rest-test.true c.loop-rest.invariant.sound).most

pub returns-then-rest-kind : goal.returns-then-rest-kind
returns-then-rest-kind c =
    let rest = c.loop-rest.rest in
    let fits = c.loop-rest.auto.rest-fits.fits in
    let most = (sound_of rest fits c.loop-rest-test.true c.loop-rest.invariant.sound).most in
    c.promoted.ensures
    ∙ ap (λ n. promoted (rest % 256 % 16) (c.loop-rest.bits_left % n)) (one_shl (rest % 256 % 16) 32 (omega arith))
    ∙ sym (level_hit c.args.kind c.args.default rest c.loop-rest.bits_left fits c.loop-rest-test.true c.if-rest-kind.true)
    ∙ c.loop-rest.invariant.same

pub loop-rest-preserved : goal.loop-rest-preserved
loop-rest-preserved c =
    let fits = c.loop-rest.auto.rest-fits.fits in
    record {
      same = sym (level_miss c.args.kind c.args.default c.loop-rest.rest c.loop-rest.bits_left fits c.loop-rest-test.true c.if-rest-kind.false) ∙ c.loop-rest.invariant.same;
      sound = (sound_of c.loop-rest.rest fits c.loop-rest-test.true c.loop-rest.invariant.sound).others;
    }

pub returns : goal.returns
returns c = sym (level_none c.args.kind c.args.default c.loop-rest.rest c.loop-rest.bits_left c.loop-rest-test.false) ∙ c.loop-rest.invariant.same
