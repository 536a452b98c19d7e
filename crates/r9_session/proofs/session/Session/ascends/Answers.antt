use Rattle.std.proofs.Common.{subst}
use Rattle.std.specs.Map.{keys_of}
use Rattle.model_text.specs.map.Ascending.{Ascend}
use Rattle.model_text.proofs.map.Ascending.{ascend-from_sorted}
use Rattle.model_world.specs.Session.{Session}
use Rattle.r9_session.proofs.session.Session.ascends.Goals as goal

pub returns : goal.returns
returns c = subst (λ (s : Session). Ascend (keys_of s.fids)) c.self.view_is (ascend-from_sorted (keys_of c.self.inside.fids) c.iter.ensures.ascending)
