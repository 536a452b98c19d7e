-- Sessions of the code as those of the definitions.
use Rattle.std.specs.Prelude.{◌≡◌, ℕ, true, List}
use Rattle.std.specs.List.{list_any}
use Rattle.r9_session.specs.declared.session.Session.TheInside as session
use Rattle.r9_tree.specs.View.{most_connections}
use Rattle.model_world.specs.Session as model
use Rattle.model_world.specs.Fids.{keeps}
use Rattle.model_world.specs.Links.{AreWithin, is_among}
use Rattle.r9_session.specs.Places.{AreCovered}

abbrev pub session_of : session.Inside → model.Session
session_of s = record {
  msize = s.msize;
  agreed = s.agreed;
  closed = s.closed;
  fids = s.fids;
  waiting = s.waiting;
  connections = s.connections;
  made = s.made;
}

-- some fid keeps each of these connections alive
abbrev pub AreKept : List (ℕ × model.Fid) → List ℕ → Type 0
AreKept fids connections = (n : ℕ) → is_among connections n ≡ true → list_any (λ entry. keeps n entry.1) fids ≡ true

-- files name their connections by numbers that fit, a connection lives no longer than some fid keeps it alive, and places are
-- known where reads wait
pub record IsSession (s : session.Inside) : Type 0 where
  pub within : AreWithin most_connections s.connections
  pub kept : AreKept s.fids s.connections
  pub covered : AreCovered s.fids s.waiting s.places
