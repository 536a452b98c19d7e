use Rattle.std.proofs.Common.{ℕ, ◌/◌, ◌%◌, ◌^◌, arith, sym, ap, ◌∙◌}
use Rattle.std.proofs.lemmas.Nat.{shr-shr}
use Rattle.model_pixel.specs.Channels.{channels, level}
use Rattle.r9_chan.proofs.ChannelLemmas.{sound_of, level_hit, level_miss, level_none, depth-step}
use Rattle.r9_mem.specs.Fields.{value}
use Rattle.r9_mem.proofs.field.field_of.Goals as goal

pub field_at-requires-clause-some : goal.field_at-requires-clause-some
field_at-requires-clause-some c =
    (sound_of c.loop-rest.rest c.loop-rest.auto.rest-fits.fits c.loop-rest-test.true c.loop-rest.invariant.sound).some

pub field_at-requires-clause-most : goal.field_at-requires-clause-most
field_at-requires-clause-most c =
    (sound_of c.loop-rest.rest c.loop-rest.auto.rest-fits.fits c.loop-rest-test.true c.loop-rest.invariant.sound).most

pub field_at-requires-clause-low : goal.field_at-requires-clause-low
field_at-requires-clause-low c =
    let rest = c.loop-rest.rest in
    let fits = c.loop-rest.auto.rest-fits.fits in
    let some = (sound_of rest fits c.loop-rest-test.true c.loop-rest.invariant.sound).some in
    omega (arith, some, depth-step rest fits c.loop-rest-test.true, c.loop-rest.invariant.room, c.requires.depth)

pub returns-then-rest-kind-clause-value : goal.returns-then-rest-kind-clause-value
returns-then-rest-kind-clause-value c raw =
    let n = value c.args.default raw in
    c.field_at.ensures.value raw
    ∙ sym (level_hit c.args.kind n c.loop-rest.rest (raw / 2 ^ c.loop-rest.low) c.loop-rest.auto.rest-fits.fits c.loop-rest-test.true c.if-rest-kind.true)
    ∙ c.loop-rest.invariant.same n raw

pub overflow_add-low : goal.overflow_add-low
overflow_add-low c =
    omega (arith, depth-step c.loop-rest.rest c.loop-rest.auto.rest-fits.fits c.loop-rest-test.true, c.loop-rest.invariant.room, c.requires.depth)

pub loop-rest-preserved : goal.loop-rest-preserved
loop-rest-preserved c =
    let rest = c.loop-rest.rest in
    let fits = c.loop-rest.auto.rest-fits.fits in
    let bits = rest % 256 % 16 in
    record {
      same = λ n raw.
          ap (λ (x : ℕ). level c.args.kind n (channels (rest / 256)) x) (sym (shr-shr raw c.loop-rest.low bits))
          ∙ sym (level_miss c.args.kind n rest (raw / 2 ^ c.loop-rest.low) fits c.loop-rest-test.true c.if-rest-kind.false)
          ∙ c.loop-rest.invariant.same n raw;
      room = omega (arith, depth-step rest fits c.loop-rest-test.true, c.loop-rest.invariant.room);
      sound = (sound_of rest fits c.loop-rest-test.true c.loop-rest.invariant.sound).others;
    }

pub returns-clause-value : goal.returns-clause-value
returns-clause-value c raw =
    let n = value c.args.default raw in
    sym (level_none c.args.kind n c.loop-rest.rest (raw / 2 ^ c.loop-rest.low) c.loop-rest-test.false)
    ∙ c.loop-rest.invariant.same n raw
