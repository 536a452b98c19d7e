-- What holds of each world that a history leaves.
use Rattle.std.specs.Prelude.{◌≡◌, ℕ, Bool, true, false, is_some, [], Some, None}
use Rattle.std.specs.Option.{option_map_or}
use Rattle.std.specs.Map.{keys_of}
use Rattle.model_text.specs.map.Ascending.{Ascend}
use Rattle.model_text.specs.text.Map.{lookup}
use Rattle.r9_event.specs.declared.event.event.Event.{Event}
use Rattle.r9_event.specs.declared.event.event.Event.TheVariants.{Msg}
use Rattle.r9_event.specs.declared.event.event.Reply.{Reply}
use Rattle.model_files.specs.wire.Message.{R, Rversion, Rattach, Rerror, Rflush, Rwalk, Ropen, Rread, Rwrite, Rclunk, Rstat}
use Rattle.model_files.specs.wire.Reading.{tag_of}
use Rattle.model_files.specs.wire.Spelling.{spelling_of_r}
use Rattle.model_world.specs.Session.{Session}
use Rattle.model_world.specs.Waiting.{waits_for}
use Rattle.model_world.specs.World.{World}
use Rattle.model_world.specs.Replay.{first_answered}

-- its sessions are in ascending order of their numbers
abbrev pub AreInOrder : World → Type 0
AreInOrder world = Ascend (keys_of world.sessions)

-- no read that waits can be answered
abbrev pub AllWaitOn : World → Type 0
AllWaitOn world = first_answered world world.sessions ≡ None

-- what is closed has no fid, no read that waits, and no connection
abbrev pub IsEmptied : Session → Type 0
IsEmptied session = is_some session.closed ≡ true → (session.fids ≡ []) × (session.waiting ≡ []) × (session.connections ≡ [])

abbrev pub AreEmptied : World → Type 0
AreEmptied world = (c : ℕ) (session : Session) → lookup world.sessions c ≡ Some session → IsEmptied session

-- ---- tags

-- the tag of a reply
abbrev pub tag_of_r : R → ℕ
tag_of_r (Rversion tag _ _) = tag
tag_of_r (Rattach tag _) = tag
tag_of_r (Rerror tag _) = tag
tag_of_r (Rflush tag) = tag
tag_of_r (Rwalk tag _) = tag
tag_of_r (Ropen tag _ _) = tag
tag_of_r (Rread tag _) = tag
tag_of_r (Rwrite tag _) = tag
tag_of_r (Rclunk tag) = tag
tag_of_r (Rstat tag _) = tag

-- a read of session c waits that has this tag
abbrev pub waits_in : World → (c tag : ℕ) → Bool
waits_in world c tag = option_map_or (λ session. waits_for session tag) (lookup world.sessions c) false

-- session c says nothing with this tag
abbrev pub IsNoMessage : (c tag : ℕ) → Event → Type 0
IsNoMessage c tag (Msg d bytes mark) = d ≡ c → tag_of bytes ≡ tag → ⊥
IsNoMessage c tag _ = Unit {0}

-- what it spells is no reply to session c with this tag
pub record IsNoReply (c tag : ℕ) (reply : Reply) : Type 0 where
  pub spelled : R
  pub is : reply.bytes ≡ spelling_of_r spelled
  pub other : reply.session ≡ c → tag_of_r spelled ≡ tag → ⊥
