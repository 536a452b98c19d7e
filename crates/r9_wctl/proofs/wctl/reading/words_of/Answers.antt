use Rattle.std.proofs.Common.{◌≡◌, ◌∙◌, ap, ◌++◌, map, rules, tests, ◌==◌, not, length}
use Rattle.std.proofs.lemmas.Iterator.Consumers.{YieldsList-from_filter, YieldsList-at}
use Rattle.std.proofs.lemmas.Iterator.Splits.{YieldsList-from_slice_split}
use Rattle.model_text.specs.text.Word.{is_blank}
use Rattle.model_files.specs.wctl.Words.{words_of}
use Rattle.r9_wctl.proofs.wctl.Spelled.{few, map_from_extend}
use Rattle.r9_wctl.proofs.wctl.reading.words_of.Goals as goal

pub returns-clause-words : goal.returns-clause-words
unfolding words_of
returns-clause-words c =
    let all = map_from_extend {Q = map (λ word. word.now) c.extend.new.self.items ≡ words_of c.args.line.now} (λ word. word.now) c.extend.result c.extend.ensures.ran
    (YieldsList-from_filter _ (λ word. not (length word == 0))
    (YieldsList-at c.filter-all.ensures.source (YieldsList-from_slice_split _ is_blank c.args.line.now c.split.ensures.rest c.split.ensures.done c.split.ensures.closure (λ x r q k. search (rules, tests))))
    c.filter-all.ensures.closure (λ x r q k. search (rules, tests)))
    (λ xs e h. ap (map (λ word. word.now)) (h.0 ∙ ap (λ ws. ws ++ xs) c.in_ok-words.ensures.items) ∙ e) in
    search rules

pub returns-clause-few : goal.returns-clause-few
returns-clause-few c = few c.extend.new.self.items c.args.line.now (returns-clause-words c)
