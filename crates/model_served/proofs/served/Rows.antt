-- What two sessions see of some histories, by computing.
use Rattle.std.specs.Prelude.{◌≡◌, refl, ℕ, ◌+◌, ◌*◌, List, [], ◌∷◌, ◌++◌, codes, Some, None}
use Rattle.std.specs.Fmt.{digits}
use Rattle.std.specs.Str.{is_utf8, chars}
use Rattle.r9_event.specs.declared.event.event.Event.{Event}
use Rattle.r9_event.specs.declared.event.event.Event.TheVariants.{Begin, Msg, Take, End}
use Rattle.r9_event.specs.declared.event.event.Opening.{Opening}
use Rattle.model_files.specs.wire.Message.{Qid, T, Tversion, Tattach, Tflush, Twalk, Topen, Tread, Rversion, Rattach, Rflush, Rwalk, Ropen, no_fid, no_tag}
use Rattle.model_files.specs.wire.Spelling.{spelling_of_t, spelling_of_r}
use Rattle.model_served.specs.session.Server.{Server, messages_of}
use Rattle.model_served.specs.served.Served.{served}
use Rattle.model_files.specs.wire.Reading as wire_reading
use Rattle.model_files.specs.wire.Spelling as wire_spelling
use Rattle.model_files.specs.tree.Attach as tree_attach
use Rattle.model_files.specs.tree.Node as tree_node
use Rattle.model_files.specs.tree.Tree as tree_tree
use Rattle.model_world.specs.Answer as world_answer
use Rattle.model_world.specs.Fids as world_fids
use Rattle.model_world.specs.Reading as world_reading
use Rattle.model_world.specs.Replay as world_replay
use Rattle.model_world.specs.Waiting as world_waiting
use Rattle.model_world.specs.Walking as world_walking
use Rattle.model_world.specs.Whole as world_whole

-- all definitions compute
everything : ℕ
unfolding digits is_utf8 chars wire_reading.counted_at wire_reading.string_at wire_reading.names_at wire_reading.t_version wire_reading.t_attach wire_reading.t_flush wire_reading.t_walk wire_reading.t_open wire_reading.t_read wire_reading.body_at wire_reading.message_of wire_spelling.sized wire_spelling.qid_bytes wire_spelling.message tree_attach.attach_of tree_node.row tree_node.qid tree_node.may tree_tree.kinds_in tree_tree.files tree_tree.check_live tree_tree.walk world_answer.version_answer world_answer.answer_read world_answer.answer world_fids.settled world_fids.fids_gone world_reading.read_answer world_replay.settled_within world_waiting.wait_answer world_waiting.first_of world_walking.attach_answer world_walking.walk_answer world_walking.open_answer world_whole.view_of world_whole.attached
everything = 0

-- the server on a display of 64 by 48 points of 32 bits
abbrev server : Server
server = let display : Opening = record { width = 64; height = 48; chan = 0x68081828 } in served display

abbrev say : ℕ → T → Event
say c m = Msg c (spelling_of_t m) None

-- the qid of a file of the device tree: 0x80 for a directory, the number of its kind, and its connection
abbrev file : (type number connection : ℕ) → Qid
file type number connection = record { kind = type; vers = 0; path = number + 64 * connection }

-- a session agrees on the smaller size; what is refused, too long, or no Tversion leaves it, and another protocol begins anew
sizes_are_agreed_on :
    (server.limit (spelling_of_t (Tversion no_tag 8192 (codes "9P2000")) ∷ []) ≡ 8192)
    × (server.limit (spelling_of_t (Tversion no_tag 300 (codes "9P2000.u")) ∷ spelling_of_t (Tversion no_tag 255 (codes "9P2000")) ∷ spelling_of_t (Tflush 1 1) ∷ []) ≡ 300)
    × (server.limit (spelling_of_t (Tversion no_tag 8192 (codes "9P2000")) ∷ spelling_of_t (Tversion no_tag 8192 (codes "9P1")) ∷ []) ≡ 65560)
unfolding everything lib.Utf8.encode
sizes_are_agreed_on = (refl, refl, refl)

-- two sessions, of which the first has taken what waited for it, and the second has ended
abbrev two_sessions : List Event
two_sessions =
    Begin 1 ∷
    say 1 (Tversion no_tag 8192 (codes "9P2000")) ∷
    Begin 2 ∷
    say 1 (Tattach 1 0 no_fid [] []) ∷
    say 2 (Tversion no_tag 65560 (codes "9P2000")) ∷
    Take 1 ∷
    say 1 (Tflush 3 2) ∷
    End 2 ∷ []

-- what was taken waits no longer, and what waits for a session that has ended may still be taken
what_was_taken_waits_no_longer :
    (server.limit (messages_of 1 two_sessions) ≡ 8192)
    × (server.replied two_sessions 1 ≡ spelling_of_r (Rversion no_tag 8192 (codes "9P2000")) ++ spelling_of_r (Rattach 1 (file 0x80 1 0)) ++ spelling_of_r (Rflush 3))
    × (server.outbox two_sessions 1 ≡ spelling_of_r (Rflush 3))
    × (server.outbox two_sessions 2 ≡ spelling_of_r (Rversion no_tag 65560 (codes "9P2000")))
    × (server.closed two_sessions 1 ≡ None)
unfolding everything lib.Utf8.encode
what_was_taken_waits_no_longer = (refl, refl, refl, refl, refl)

-- a session says something with the tag of its read of `refresh`, which waits, and then with another
abbrev a_tag_again : List Event
a_tag_again =
    Begin 1 ∷
    say 1 (Tversion no_tag 8192 (codes "9P2000")) ∷
    say 1 (Tattach 1 0 no_fid [] []) ∷
    say 1 (Twalk 1 0 1 (codes "draw" ∷ codes "new" ∷ [])) ∷
    say 1 (Topen 1 1 2) ∷
    say 1 (Twalk 1 0 2 (codes "draw" ∷ codes "1" ∷ codes "refresh" ∷ [])) ∷
    say 1 (Topen 1 2 0) ∷
    say 1 (Tread 7 2 0 100) ∷
    Take 1 ∷
    Begin 2 ∷
    say 2 (Tversion no_tag 65560 (codes "9P2000")) ∷
    say 1 (Tflush 7 7) ∷
    say 1 (Tflush 8 7) ∷ []

-- that closes it, and it alone
a_tag_that_comes_again_closes :
    (server.closed a_tag_again 1 ≡ Some 7)
    × (server.closed a_tag_again 2 ≡ None)
    × (server.outbox a_tag_again 1 ≡ [])
    × (server.replied a_tag_again 1
    ≡ spelling_of_r (Rversion no_tag 8192 (codes "9P2000"))
    ++ spelling_of_r (Rattach 1 (file 0x80 1 0))
    ++ spelling_of_r (Rwalk 1 (file 0x80 2 0 ∷ file 0x0 3 0 ∷ []))
    ++ spelling_of_r (Ropen 1 (file 0x0 5 1) 0)
    ++ spelling_of_r (Rwalk 1 (file 0x80 2 0 ∷ file 0x80 4 1 ∷ file 0x0 7 1 ∷ []))
    ++ spelling_of_r (Ropen 1 (file 0x0 7 1) 0))
    × (server.replied a_tag_again 2 ≡ spelling_of_r (Rversion no_tag 65560 (codes "9P2000")))
unfolding everything lib.Utf8.encode
a_tag_that_comes_again_closes = (refl, refl, refl, refl, refl)
