-- A client: the one session of a server, which has agreed on a version and has no read that waits; and what its messages leave
-- (intro(5)).
use Rattle.std.specs.Prelude.{ℕ, ◌≡◌, ◌≤◌, ◌==◌, true, false, List, [], ◌∷◌, length, map, None}
use Rattle.model_history.specs.event.Legal.{IsMessage}
use Rattle.model_files.specs.wire.Message.{T, R, no_tag, tag_of_t}
use Rattle.model_files.specs.wire.Spelling.{SpellsT, spelling_of_t, spelling_of_r}
use Rattle.model_draw.specs.draw.World as draw
use Rattle.model_draw.specs.draw.Act.{written}
use Rattle.model_draw.specs.cost.Cost.{messages_cost}
use Rattle.model_world.specs.Session.{Session, fresh}
use Rattle.model_world.specs.Desktop.{Desktop}
use Rattle.model_world.specs.Whole.{with_cost}
use Rattle.model_world.specs.World.{World}
use Rattle.model_world.specs.Replay.{Turn, replies_from, world_from}
use Rattle.model_clients.specs.client.Saying.{says}

pub record IsClient (world : World) (session : Session) : Type 0 where
  pub alone : world.sessions ≡ (1, session) ∷ []
  pub agreed : session.agreed ≡ true
  pub lives : session.closed ≡ None
  pub idle : session.waiting ≡ []

-- the message has a spelling, which is no longer than was agreed, and a tag
pub record MaySay (session : Session) (m : T) : Type 0 where
  pub spelled : SpellsT (spelling_of_t m) m
  pub tagged : (tag_of_t m == no_tag) ≡ false
  pub short : length (spelling_of_t m) ≤ session.msize

-- the world after a message that left this of the client and of the desktop
abbrev pub world_left : World → Session × Desktop → World
world_left world after = record world { desktop = record after.1 { notes = []; cost = 0 }; sessions = (1, after.0) ∷ [] }

-- the turn of a message that left this, and had this reply
abbrev pub answered : World → Session × Desktop → R → Turn
answered world after reply = record {
  world = world_left world after;
  replies = record { session = 1; bytes = spelling_of_r reply } ∷ [];
  notes = after.1.notes;
  closed = None;
  cost = after.1.cost;
}

-- the desktop after a write of draw messages of connection k, none of which is refused, that leaves this of the draw device
abbrev pub drawn : (k : ℕ) → Desktop → draw.World → List ℕ → Desktop
drawn k desktop after bytes = with_cost desktop after (messages_cost (written k desktop.device bytes None).done k desktop.device bytes)

-- ---- the beginning

-- what a client is once its first message is answered
abbrev pub greeted : Session
greeted = record fresh { agreed = true }

-- ---- several messages

-- the client's messages leave this world, and these are the replies
pub record AreAnswered (world : World) (messages : List T) (after : World) (replies : List R) : Type 0 where
  pub left : world_from world (map says messages) ≡ after
  pub said : replies_from world (map says messages) ≡ map (λ reply. record { session = 1; bytes = spelling_of_r reply }) replies

-- each is a whole message
abbrev pub AreMessages : List T → Type 0
AreMessages [] = Unit {0}
AreMessages (m ∷ messages) = IsMessage (spelling_of_t m) × AreMessages messages
