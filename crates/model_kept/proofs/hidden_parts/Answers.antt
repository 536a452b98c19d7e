use Rattle.model_forest.proofs.Changes.{live-standing}
use Rattle.model_kept.proofs.Hiding.{hidden_hides, hides_hidden, place-inside}
use Rattle.model_kept.proofs.Once.{places-forest}
use Rattle.model_kept.proofs.hidden_parts.Goals as goal

pub returns : goal.returns
returns c = λ world p i part ok stands inside. (
  hides_hidden world p i part stands,
  hidden_hides world p i part stands (ok.listed i p (live-standing world i p stands) stands) (λ x h. place-inside world ok (places-forest world ok) p i x stands (inside x h)),
)
