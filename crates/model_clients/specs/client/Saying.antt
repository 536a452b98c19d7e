-- What a client says, which is the one session of a server, and how it begins (intro(5)).
use Rattle.std.specs.Prelude.{codes, None}
use Rattle.r9_event.specs.declared.event.event.Event.{Event}
use Rattle.r9_event.specs.declared.event.event.Event.TheVariants.{Msg}
use Rattle.model_files.specs.wire.Message.{T, R, Rversion, Tversion, no_tag}
use Rattle.model_files.specs.wire.Spelling.{spelling_of_t}

-- the client is session 1
abbrev pub says : T → Event
says m = Msg 1 (spelling_of_t m) None

-- what a client says first, and how it is answered
abbrev pub hello : T
hello = Tversion no_tag 65560 (codes "9P2000")

abbrev pub welcome : R
welcome = Rversion no_tag 65560 (codes "9P2000")
