-- What the step of a message of a client leaves, where the message is answered at once.
use Rattle.std.proofs.Common.{◌≡◌, ◌∙◌, ◌≤◌, ℕ, true, false, not, eqb, List, [], ◌∷◌, ◌++◌, length, map, None, Ok, refl, sym, ap, append_assoc, arith}
use Rattle.std.specs.Prelude.{codes}
use Rattle.std.specs.Char.{encode_utf8}
use Rattle.std.specs.Str.{chars, is_utf8}
use Rattle.std.proofs.lemmas.List.{map-append}
use Rattle.std.proofs.lemmas.Str.{IsUtf8-from_is_utf8}
use Rattle.r9_event.specs.declared.event.event.Event.{Event}
use Rattle.r9_event.specs.declared.event.event.Reply.{Reply}
use Rattle.std.proofs.lemmas.Bool.{and_right, le-ltb}
use Rattle.model_files.specs.wire.Message.{T, R, no_tag, tag_of_t}
use Rattle.model_files.specs.wire.Spelling.{SpellsT, message, sized, spelling_of_r, spelling_of_t}
use Rattle.model_files.specs.wire.Reading.{kind_of}
use Rattle.model_files.proofs.wire.Laws.{t_again}
use Rattle.model_world.specs.Session.{Session, fresh}
use Rattle.model_world.specs.Fids.{Left, fids_gone, left, settled as settled_fids}
use Rattle.model_world.specs.Answer.{Reads, answer, answer_read, answer_to, is_version, version_answer, taking}
use Rattle.model_world.specs.Desktop.{Desktop}
use Rattle.model_world.specs.Whole.{desktop_for}
use Rattle.model_world.specs.World.{World}
use Rattle.model_world.specs.Replay.{Turn, replies_from, settled, settled_within, step, waiting_in, world_from}
use Rattle.model_clients.specs.client.Saying.{hello, says, welcome}
use Rattle.law_text.specs.client.Saying.{AreAnswered, IsClient, MaySay, answered, greeted, world_left}

-- ---- how the message is taken

reads : (session : Session) (bytes : List ℕ) → session.closed ≡ None → session.waiting ≡ [] → length bytes ≤ session.msize → taking session bytes ≡ Reads
reads session bytes lives idle short =
    rw (
      lives,
      le-ltb session.msize (length bytes) short,
      idle,
      and_right (not (eqb (kind_of bytes) 100)) false refl,
    ) refl

-- ---- nothing waits

none_waits : (world : World) → waiting_in world ≡ 0 → settled world ≡ (world, [])
unfolding settled_within
none_waits world none = rw none refl

-- ---- the answer

agreed_read : (session : Session) (desktop : Desktop) (m : T) → eqb (tag_of_t m) no_tag ≡ false → session.agreed ≡ true
    → answer_read (desktop_for 1) session desktop None m ≡ answer_to (desktop_for 1) session desktop None m
unfolding answer_read
agreed_read session desktop m tagged agreed = rw (tagged, agreed, and_right (not (is_version m)) false refl) refl

answer_is : (session : Session) (desktop : Desktop) (m : T) (after : Left Desktop) → taking session (spelling_of_t m) ≡ Reads → SpellsT (spelling_of_t m) m
    → answer_read (desktop_for 1) session desktop None m ≡ Ok after → answer (desktop_for 1) session desktop (spelling_of_t m) None ≡ after
unfolding answer
answer_is session desktop m after took spelled given = rw (took, t_again (spelling_of_t m) m spelled, given) refl

-- ---- the step

step_is : (world : World) (session : Session) (m : T) (after : Session × Desktop) (reply : R) → world.sessions ≡ (1, session) ∷ [] → session.closed ≡ None → session.waiting ≡ [] → SpellsT (spelling_of_t m) m
    → length (spelling_of_t m) ≤ session.msize → answer_read (desktop_for 1) session world.desktop None m ≡ Ok (left after reply) → after.0.waiting ≡ [] → step world (says m) ≡ answered world after reply
step_is world session m after reply alone lives none spelled short given idle =
    let bytes : List ℕ = spelling_of_t m in
    let took : taking session bytes ≡ Reads = reads session bytes lives none short in
    let is : answer (desktop_for 1) session world.desktop bytes None ≡ left after reply = answer_is session world.desktop m (left after reply) took spelled given in
    let next : World = record world { desktop = after.1; sessions = (1, after.0) ∷ [] } in
    let quiet : waiting_in next ≡ 0 = rw idle refl in
    rw (alone, is, took, none_waits next quiet) refl

-- A message that is answered at once leaves what its answer leaves, and its reply is the only one.
pub said : (world : World) (session : Session) (m : T) (after : Session × Desktop) (reply : R) → IsClient world session → MaySay session m
    → answer_to (desktop_for 1) session world.desktop None m ≡ Ok (left after reply) → after.0.waiting ≡ [] → step world (says m) ≡ answered world after reply
said world session m after reply client may given idle =
    step_is world session m after reply client.alone client.lives client.idle may.spelled may.short (agreed_read session world.desktop m may.tagged client.agreed ∙ given) idle

-- and the client stays one
pub stays : (world : World) (after : Session × Desktop) → after.0.agreed ≡ true → after.0.closed ≡ None → after.0.waiting ≡ [] → IsClient (world_left world after) after.0
stays world after agreed lives idle = record { alone = refl; agreed = agreed; lives = lives; idle = idle }

-- ---- the beginning

version_spelled : SpellsT (spelling_of_t hello) hello
unfolding is_utf8 chars encode_utf8
version_spelled = record { sizes = (omega arith, omega arith); fits = (IsUtf8-from_is_utf8 (codes "9P2000") refl, omega arith); spelled = refl }

version_read : (desktop : Desktop) → answer_read (desktop_for 1) fresh desktop None hello ≡ Ok (left (greeted, desktop) welcome)
unfolding answer_read version_answer fids_gone settled_fids
version_read desktop = refl

-- the client's version is agreed on
pub agreed_on_version : (world : World) → world.sessions ≡ (1, fresh) ∷ [] → step world (says hello) ≡ answered world (greeted, world.desktop) welcome
unfolding message sized
agreed_on_version world alone = step_is world fresh hello (greeted, world.desktop) welcome alone refl refl version_spelled (omega arith) (version_read world.desktop) refl

-- ---- several messages

pub nothing_said : (world : World) → AreAnswered world [] world []
nothing_said world = record { left = refl; said = refl }

-- one message, and then others
pub then_said : (world end : World) (m : T) (messages : List T) (after : Session × Desktop) (reply : R) (replies : List R) → step world (says m) ≡ answered world after reply
    → AreAnswered (world_left world after) messages end replies → AreAnswered world (m ∷ messages) end (reply ∷ replies)
then_said world end m messages after reply replies first rest = record {
  left = ap (λ (turn : Turn). world_from turn.world (map says messages)) first ∙ rest.left;
  said = ap (λ (turn : Turn). turn.replies ++ replies_from turn.world (map says messages)) first
      ∙ ap (λ (more : List Reply). record { session = 1; bytes = spelling_of_r reply } ∷ more) rest.said;
}

world_after : (world : World) (events more : List Event) → world_from world (events ++ more) ≡ world_from (world_from world events) more
world_after world [] more = refl
world_after world (event ∷ events) more = world_after (step world event).world events more

replies_after : (world : World) (events more : List Event) → replies_from world (events ++ more) ≡ replies_from world events ++ replies_from (world_from world events) more
replies_after world [] more = refl
replies_after world (event ∷ events) more =
    ap (λ (rest : List Reply). (step world event).replies ++ rest) (replies_after (step world event).world events more)
    ∙ sym (append_assoc (step world event).replies (replies_from (step world event).world events) (replies_from (world_from (step world event).world events) more))

abbrev reply_of : R → Reply
reply_of reply = record { session = 1; bytes = spelling_of_r reply }

-- some messages, and then others
pub all_said : (world middle end : World) (first second : List T) (replies more : List R) → AreAnswered world first middle replies → AreAnswered middle second end more
    → AreAnswered world (first ++ second) end (replies ++ more)
all_said world middle end first second replies more one two = record {
  left = ap (world_from world) (map-append says first second) ∙ world_after world (map says first) (map says second)
      ∙ ap (λ (w : World). world_from w (map says second)) one.left ∙ two.left;
  said = ap (replies_from world) (map-append says first second) ∙ replies_after world (map says first) (map says second)
      ∙ ap (λ (w : World). replies_from world (map says first) ++ replies_from w (map says second)) one.left
      ∙ ap (λ (rs : List Reply). rs ++ replies_from middle (map says second)) one.said
      ∙ ap (λ (rs : List Reply). map reply_of replies ++ rs) two.said
      ∙ sym (map-append reply_of replies more);
}
