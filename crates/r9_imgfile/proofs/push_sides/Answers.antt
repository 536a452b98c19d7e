use Rattle.std.proofs.Common.{◌≡◌, ℕ, List, ◌++◌, append_assoc}
use Rattle.model_text.specs.text.Field.{number_field}
use Rattle.r9_imgfile.proofs.FileLemmas.{kept}
use Rattle.r9_imgfile.proofs.push_sides.Goals as goal

regroup : (out a b c d : List ℕ) → (((out ++ a) ++ b) ++ c) ++ d ≡ out ++ (((a ++ b) ++ c) ++ d)
regroup out a b c d = simp append_assoc

pub returns-clause-ok : goal.returns-clause-ok
returns-clause-ok c =
    rw (
      c.in_ok-push_number-4.ensures.ok,
      c.in_ok-push_number-3.ensures.ok,
      c.in_ok-push_number-2.ensures.ok,
      c.in_ok-push_number.ensures.ok,
      kept c.args.r.min.x c.requires.min.left c.requires.min.right,
      kept c.args.r.min.y c.requires.min.top c.requires.min.bottom,
      kept c.args.r.max.x c.requires.max.left c.requires.max.right,
      kept c.args.r.max.y c.requires.max.top c.requires.max.bottom,
    )
    (regroup c.args.out.now (number_field c.args.r.min.x) (number_field c.args.r.min.y) (number_field c.args.r.max.x) (number_field c.args.r.max.y))
