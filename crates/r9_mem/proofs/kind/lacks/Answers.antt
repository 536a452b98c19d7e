use Rattle.std.proofs.Common.{arith, sym, ap, ◌∙◌}
use Rattle.std.proofs.lemmas.Bool.{ne_eqb, eq-eqb}
use Rattle.model_pixel.specs.Channels.{count_of}
use Rattle.r9_chan.proofs.ChannelLemmas.{count_of_hit, count_of_miss, count_of_none}
use Rattle.r9_mem.proofs.kind.lacks.Goals as goal

pub loop-rest-preserved : goal.loop-rest-preserved
loop-rest-preserved c =
    sym (count_of_miss c.args.kind c.loop-rest.rest c.loop-rest.auto.rest-fits.fits c.loop-rest-test.true c.if-rest-kind.false) ∙ c.loop-rest.invariant

pub returns-then-rest-kind : goal.returns-then-rest-kind
returns-then-rest-kind c =
    let hit = count_of_hit c.args.kind c.loop-rest.rest c.loop-rest.auto.rest-fits.fits c.loop-rest-test.true c.if-rest-kind.true in
    let there = ap (count_of c.args.kind) (sym c.word-rest.ensures.value) ∙ sym c.loop-rest.invariant ∙ hit in
    sym (ne_eqb _ 0 (λ none. omega (arith, there, none)))

pub returns : goal.returns
returns c =
    let none = count_of_none c.args.kind c.loop-rest.rest c.loop-rest-test.false in
    sym (eq-eqb _ 0 (ap (count_of c.args.kind) (sym c.word-rest.ensures.value) ∙ sym c.loop-rest.invariant ∙ none))
