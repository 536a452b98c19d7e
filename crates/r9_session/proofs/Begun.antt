-- A message that lacks neither its tag nor a version.
use Rattle.std.proofs.Common.{◌≡◌, ℕ, Bool, true, false, Option, refl, ◌∙◌}
use Rattle.model_text.specs.text.Outcome.{Outcome, ◌>>=◌, refuse_if}
use Rattle.model_files.specs.wire.Message.{T}
use Rattle.model_world.specs.Session.{Session}
use Rattle.model_world.specs.Outside.{Outside}
use Rattle.model_world.specs.Answer.{answer_read, answer_to}
use Rattle.r9_session.specs.Answers.{lacks_tag, lacks_version}

passed : {A : Type 0} (n : ℕ) (b : Bool) (r : Outcome A) → b ≡ false → (refuse_if b n >>= λ _. r) ≡ r
passed n true r is = absurd (cc is)
passed n false r is = refl

-- it is answered by its kind
pub begun : {S : Type 0} (outside : Outside S) (session : Session) (rest : S) (mark : Option ℕ) (m : T) → lacks_tag m ≡ false → lacks_version session m ≡ false
    → answer_read outside session rest mark m ≡ answer_to outside session rest mark m
unfolding answer_read
begun outside session rest mark m tag version = passed 30 (lacks_tag m) _ tag ∙ passed 31 (lacks_version session m) _ version
