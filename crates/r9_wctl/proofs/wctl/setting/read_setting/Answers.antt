use Rattle.std.proofs.Common.{◌∙◌, ap, sym, map}
use Rattle.model_files.specs.wctl.Reading.{setting}
use Rattle.r9_wctl.specs.wctl.Names.{key_word}
use Rattle.r9_wctl.proofs.wctl.Four.{setting_r}
use Rattle.r9_wctl.proofs.wctl.setting.read_setting.Goals as goal

pub returns-in-Some-clause-value : goal.returns-in-Some-clause-value
returns-in-Some-clause-value c = c.in-Some.ensures.value ∙ setting_r c.args.words.now ∙ ap (λ key. setting (record { name = key_word key; words = map (λ word. word.now) c.args.words.now })) (sym c.in-R.is)

pub returns-in-None-clause-value : goal.returns-in-None-clause-value
returns-in-None-clause-value c = c.in-None.ensures.value ∙ setting_r c.args.words.now ∙ ap (λ key. setting (record { name = key_word key; words = map (λ word. word.now) c.args.words.now })) (sym c.in-R.is)
