use Rattle.std.proofs.Common.{◌≡◌, ◌≢◌, ℕ, ◌≤◌, arith, sym, ap, ◌∙◌}
use Rattle.std.proofs.lemmas.Bool.{eqb-true, eqb-false}
use Rattle.model_pixel.specs.Channels.{channels, colour_of, count_of, pack}
use Rattle.r9_mem.specs.Packing.{packed_by, shown}
use Rattle.r9_mem.proofs.PackingLemmas.{colours_packed, greys_packed, occurs_of}
use Rattle.r9_mem.proofs.writing.writer_of.Goals as goal

pub returns-in-None-2-clause-value : goal.returns-in-None-2-clause-value
returns-in-None-2-clause-value c word =
    let none : count_of 3 c.args.chan.now ≡ 0 = eqb-true _ _ (sym c.lacks.ensures ∙ c.if-lacks.true) in
    c.places_of.ensures.value word
    ∙ ap (λ (w : ℕ). packed_by (shown (colour_of word)) (channels w)) c.word-in-None-2.ensures.value
    ∙ colours_packed c.args.chan.now word none

pub returns-in-None-3-clause-value : goal.returns-in-None-3-clause-value
returns-in-None-3-clause-value c word =
    let w = c.word-in-None-3.result in
    let some : count_of 3 c.args.chan.now ≢ 0 = eqb-false _ _ (sym c.lacks.ensures ∙ c.if-lacks.false) in
    let same = ap (count_of 3) c.word-in-None-3.ensures.value in
    let least : 1 ≤ count_of 3 w = omega (arith, some, same) in
    c.places_of-in-None-3.ensures.value _
    ∙ greys_packed w word ((occurs_of w c.word-in-None-3.ensures.descriptor).no_red least)
    ∙ ap (λ (w : ℕ). pack w (colour_of word)) c.word-in-None-3.ensures.value
