use Rattle.std.proofs.Common.{◌≡◌, Some, map}
use Rattle.model_text.specs.text.Field.{number}
use Rattle.model_files.specs.wctl.Words.{all_some}
use Rattle.r9_wctl.proofs.wctl.setting.read_path.Given as goal

abbrev pub invariant-loop-part : goal.invariant-loop-part
invariant-loop-part l = all_some (map (λ part. number 9 part.now) l.yielded) ≡ Some l.path
