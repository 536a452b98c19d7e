-- Messages and replies of a session that have a tag (intro(5)).
use Rattle.std.specs.Prelude.{◌==◌, ◌&&◌, ℕ, Bool, false, count_by}
use Rattle.std.specs.Option.{option_map_or}
use Rattle.r9_event.specs.declared.event.event.Event.{Event}
use Rattle.r9_event.specs.declared.event.event.Event.TheVariants.{Msg}
use Rattle.r9_event.specs.declared.event.event.Reply.{Reply}
use Rattle.model_text.specs.text.Map.{lookup}
use Rattle.model_files.specs.wire.Reading.{tag_of}
use Rattle.model_world.specs.Session.{Session}
use Rattle.model_world.specs.World.{World}

-- session c sends a message with this tag
abbrev pub says : (c tag : ℕ) → Event → Bool
says c tag (Msg d bytes mark) = (d == c) && (tag_of bytes == tag)
says c tag _ = false

-- session c gets a reply with this tag
abbrev pub answers : (c tag : ℕ) → Reply → Bool
answers c tag reply = (reply.session == c) && (tag_of reply.bytes == tag)

-- how many reads of a session wait that have this tag
abbrev pub waiting_with : Session → (tag : ℕ) → ℕ
waiting_with session tag = count_by (λ read. read.0 == tag) session.waiting

-- how many of session c, none if it does not live
abbrev pub reads_waiting : World → (c tag : ℕ) → ℕ
reads_waiting world c tag = option_map_or (λ session. waiting_with session tag) (lookup world.sessions c) 0
