-- What the two ends of a session say of a history.
use Rattle.std.specs.Prelude.{◌≡◌, true, ◌≢◌, ◌≤◌, ◌^◌, ◌⊎◌, ℕ, List, [], ◌++◌, length, drop, Contains, Option, Some, None, IfSome, ◌∷◌}
use Rattle.std.specs.List.{concat}
use Rattle.r9_event.specs.declared.event.event.Event.{Event}
use Rattle.r9_event.specs.declared.event.event.Event.TheVariants as event
use Rattle.r9_event.specs.declared.event.event.Entry.{Entry}
use Rattle.atomic_table.specs.Seated.{TableId}
use Rattle.r9_lock.specs.Histories.{IsPrefix, numbered}
use Rattle.r9_lock.specs.Passes.{Known}
use Rattle.r9_outside.specs.outside.Sink.{Appends, AppendsPart}
use Rattle.model_files.specs.frame.Frame.{first}
use Rattle.model_files.specs.frame.Frame as cut
use Rattle.model_files.specs.frame.Stream.{messages}
use Rattle.model_history.specs.event.Legal.{IsLegal}
use Rattle.model_history.specs.event.Journal.{events_of}
use Rattle.model_served.specs.session.Server.{Server, messages_of, takes, IsOver, is_of, is_msg, is_take}
use Rattle.r9_attend.specs.attend.Passes.{made_since}
use Rattle.r9_attend.specs.declared.attend.ends.ReadEnd.{ReadEnd}
use Rattle.r9_attend.specs.declared.attend.ends.ReadEnd.TheVariants.{Ended, Cut, BadSize, Duplicate, ReadFault, Closed, Memory, Spent}
use Rattle.r9_attend.specs.declared.attend.ends.WriteEnd.{WriteEnd}
use Rattle.r9_attend.specs.declared.attend.ends.WriteEnd.TheVariants as written

-- ---- the reader

-- the bytes are the front of what a source had left, which is gone; nothing is said where it does not tell
abbrev pub Reads : (before : Option (List ℕ)) (bytes : List ℕ) (after : Option (List ℕ)) → Type 0
Reads None bytes after = Unit {0}
Reads (Some left) bytes after = (rest : List ℕ) × (left ≡ bytes ++ rest) × (after ≡ Some rest)

-- at these ends the source was at its end: all that it had left was read, where it tells
abbrev pub EndsAt : ReadEnd → (before : Option (List ℕ)) (bytes : List ℕ) → Type 0
EndsAt Ended before bytes = IfSome before (λ left. left ≡ bytes)
EndsAt (Cut n) before bytes = IfSome before (λ left. left ≡ bytes)
EndsAt _ before bytes = Unit {0}

-- the tag by which a session was closed
abbrev pub tag_of : ReadEnd → Option ℕ
tag_of (Duplicate tag) = Some tag
tag_of _ = None

-- the messages are all that the bytes are cut into
abbrev pub AllFrames : Server → (sent : List (List ℕ)) (bytes : List ℕ) → Type 0
AllFrames s sent bytes = messages s.limit [] bytes ≡ sent

-- they are the first of them
abbrev pub SomeFrames : Server → (sent : List (List ℕ)) (bytes : List ℕ) → Type 0
SomeFrames s sent bytes = IsPrefix sent (messages s.limit [] bytes)

-- Of the bytes that were read these messages were sent, by the reader's end. Ended: they are all the bytes. Cut: n bytes are
-- left, of a message that is not whole. BadSize: what is left begins with this size, which is bad. Else some messages may be left.
abbrev pub AreSent : Server → ReadEnd → (sent : List (List ℕ)) (bytes : List ℕ) → Type 0
AreSent s Ended sent bytes = AllFrames s sent bytes × (concat sent ≡ bytes)
AreSent s (Cut n) sent bytes = AllFrames s sent bytes × ((held : List ℕ) × (concat sent ++ held ≡ bytes) × (n ≡ length held) × (held ≢ []) × (first (s.limit sent) held ≡ cut.NeedMore))
AreSent s (BadSize size) sent bytes = AllFrames s sent bytes × ((held : List ℕ) × (concat sent ++ held ≡ bytes) × (first (s.limit sent) held ≡ cut.BadSize size))
AreSent s ReadFault sent bytes = AllFrames s sent bytes
AreSent s _ sent bytes = SomeFrames s sent bytes

-- at Duplicate the last of the messages is the one that closed the session
abbrev pub IsClosedByLast : Server → (c : ℕ) → ReadEnd → (history : List Event) → Type 0
IsClosedByLast s c (Duplicate tag) history = (before : List Event) × (last : List ℕ) × IsPrefix before history × (s.closed before c ≡ None) × (messages_of c history ≡ messages_of c before ++ last ∷ [])
IsClosedByLast s c _ history = Unit {0}

-- in a history the messages of session c are those that were sent of the bytes, and it was closed where the reader says so
pub record IsRead (s : Server) (c : ℕ) (end : ReadEnd) (bytes : List ℕ) (history : List Event) : Type 0 where
  pub sent : AreSent s end (messages_of c history) bytes
  pub closed : s.closed history c ≡ tag_of end
  pub last : IsClosedByLast s c end history

-- ---- where bytes lead

-- what is left of bytes behind their messages
abbrev pub rest_of : (limit : List (List ℕ) → ℕ) (bytes : List ℕ) → List ℕ
rest_of limit bytes = drop (length (concat (messages limit [] bytes))) bytes

-- the end of a reader to which these bytes are left, by what stands at their front
abbrev pub end_at : cut.Cut → (rest : List ℕ) → ReadEnd
end_at (cut.BadSize size) rest = BadSize size
end_at _ [] = Ended
end_at _ rest = Cut (length rest)

-- the end to which bytes lead: BadSize where a bad size stands behind their messages, Ended where nothing does, and else Cut
abbrev pub end_of : (limit : List (List ℕ) → ℕ) (bytes : List ℕ) → ReadEnd
end_of limit bytes = end_at (first (limit (messages limit [] bytes)) (rest_of limit bytes)) (rest_of limit bytes)

-- a reader's end with another cause than the bytes
abbrev pub IsOther : ReadEnd → Type 0
IsOther (Duplicate tag) = Unit {0}
IsOther ReadFault = Unit {0}
IsOther Closed = Unit {0}
IsOther Memory = Unit {0}
IsOther (Spent count) = Unit {0}
IsOther _ = ⊥

-- where a source tells its bytes, the reader's end is the one to which they lead, or it has another cause
abbrev pub IsExactEnd : Server → (left : Option (List ℕ)) → ReadEnd → Type 0
IsExactEnd s left end = IfSome left (λ bytes. (end ≡ end_of s.limit bytes) ⊎ IsOther end)

-- ---- the writer

-- in a history the bytes that a sink got are those that were taken for session c, or a front of them; at Done the session is
-- over, and they are all its replies
abbrev pub IsWritten : Server → (c : ℕ) → WriteEnd → (before after : Option (List ℕ)) → (history : List Event) → Type 0
IsWritten s c written.Done before after history = Appends before (takes s c history) after × IsOver s history c × (IsLegal history → s.replied history c ≡ takes s c history)
IsWritten s c (written.Spent n) before after history = Appends before (takes s c history) after
IsWritten s c written.WriteFault before after history = AppendsPart before (takes s c history) after
IsWritten s c written.Memory before after history = AppendsPart before (takes s c history) after
IsWritten s c _ before after history = ⊥

-- ---- both

-- a pass has seen the session's end or a stop, or there are no more turns
abbrev pub HasEnded : (c : ℕ) → Known Entry → Type 0
HasEnded c pass = Contains (events_of pass.seen) (event.End c) ⊎ Contains (events_of pass.seen) event.Stop ⊎ (2 ^ 61 ≤ pass.least)

-- what a reader of session c makes: its messages, and perhaps its end or a stop; once the session was ended its messages alone
abbrev pub IsReaders : (c : ℕ) → ℕ × Entry → Type 0
IsReaders c m = (is_msg c m.1.event ≡ true) ⊎ (m.1.event ≡ event.End c) ⊎ (m.1.event ≡ event.Stop)

-- what a writer makes: takes, and perhaps its end or a stop
abbrev pub IsWriters : (c : ℕ) → ℕ × Entry → Type 0
IsWriters c m = (is_take c m.1.event ≡ true) ⊎ (m.1.event ≡ event.End c) ⊎ (m.1.event ≡ event.Stop)

-- a reader's pass is of the lock and has seen the session's begin
pub record IsReady (id : TableId) (c : ℕ) (pass : Known Entry) : Type 0 where
  pub lock : pass.lock ≡ id
  pub begun : Contains (events_of pass.seen) (event.Begin c)

-- an entry of session c, or a stop
abbrev pub IsSessions : (c : ℕ) → ℕ × Entry → Type 0
IsSessions c m = (is_of c m.1.event ≡ true) ⊎ (m.1.event ≡ event.Stop)

-- this event is among those that were made
abbrev pub IsMade : List (ℕ × Entry) → Event → Type 0
IsMade made event = (m : ℕ × Entry) × Contains made m × (m.1.event ≡ event)

-- a history that goes on from all that both passes of session c have seen, and has of its entries only those that they made
pub record IsTheirs (c : ℕ) (reader_old reader writer_old writer : Known Entry) (history : List Entry) : Type 0 where
  pub reader_seen : IsPrefix reader.seen history
  pub writer_seen : IsPrefix writer.seen history
  pub theirs : (m : ℕ × Entry) → Contains (numbered 1 history) m → is_of c m.1.event ≡ true → Contains (made_since reader_old reader ++ made_since writer_old writer) m

-- ---- without a fault

-- in a history a source told bytes that are whole messages of lawful sizes, none of which had the tag of a read that waited
pub record IsPlain (s : Server) (c : ℕ) (left : Option (List ℕ)) (history : List Event) : Type 0 where
  pub bytes : List ℕ
  pub told : left ≡ Some bytes
  pub whole : concat (messages s.limit [] bytes) ≡ bytes
  pub unclosed : s.closed history c ≡ None

-- there was no memory, or there are no more turns
abbrev pub RanOut : ReadEnd → Type 0
RanOut Memory = Unit {0}
RanOut (Spent count) = Unit {0}
RanOut _ = ⊥

abbrev pub RanOutWriting : WriteEnd → Type 0
RanOutWriting written.Memory = Unit {0}
RanOutWriting (written.Spent count) = Unit {0}
RanOutWriting _ = ⊥

-- the writer is done, or it met a fault, or memory or the turns ran out
abbrev pub IsExactWriteEnd : WriteEnd → Type 0
IsExactWriteEnd end = (end ≡ written.Done) ⊎ (end ≡ written.WriteFault) ⊎ RanOutWriting end

-- the source ended behind a whole message and all replies went out, or memory or the turns ran out
abbrev pub EndsPlainly : ReadEnd → WriteEnd → Type 0
EndsPlainly read write = ((read ≡ Ended) × (write ≡ written.Done)) ⊎ RanOut read ⊎ RanOutWriting write
