-- What one session sees of a server, whatever the server answers.
use Rattle.std.specs.Prelude.{◌≡◌, ◌≤◌, ◌==◌, ◌⊎◌, ℕ, Bool, true, false, List, [], ◌∷◌, ◌++◌, Contains, Option, Some, None, if◌then◌else◌}
use Rattle.std.specs.List.{flat_map}
use Rattle.r9_event.specs.declared.event.event.Event.{Event}
use Rattle.r9_event.specs.declared.event.event.Event.TheVariants.{Begin, Msg, Take, End, Stop}
use Rattle.model_history.specs.event.Legal.{IsLegal}

-- a server, by what its sessions see of it. `limit`: the greatest size of a session's next message, by its messages so far.
-- The rest are functions of a history. `replied`: the bytes of all replies to a session, joined; `outbox`: those of them that
-- no Take has handed out; `closed`: the tag by which one of its messages has closed a session; `cut`: that want of memory may stop a
-- message to a session behind so many of its draw messages.
pub record Server : Type 1 where
  pub limit : (messages : List (List ℕ)) → ℕ
  pub replied : List Event → (c : ℕ) → List ℕ
  pub outbox : List Event → (c : ℕ) → List ℕ
  pub closed : List Event → (c : ℕ) → Option ℕ
  pub cut : List Event → (c : ℕ) (bytes : List ℕ) (k : ℕ) → Type 0

-- ---- the messages and the takes of session c

abbrev pub message_in : (c : ℕ) → Event → List (List ℕ)
message_in c (Msg d bytes mark) = if d == c then bytes ∷ [] else []
message_in c _ = []

-- its messages, in order
abbrev pub messages_of : (c : ℕ) → List Event → List (List ℕ)
messages_of c events = flat_map (message_in c) events

-- what an event hands out to it, in the history before
abbrev pub handed : Server → (c : ℕ) → (before : List Event) → Event → List ℕ
handed s c before (Take d) = if d == c then s.outbox before c else []
handed s c before _ = []

abbrev pub takes_from : Server → (c : ℕ) → (before events : List Event) → List ℕ
takes_from s c before [] = []
takes_from s c before (event ∷ events) = handed s c before event ++ takes_from s c (before ++ event ∷ []) events

-- what the Takes of a history hand out to it, joined
abbrev pub takes : Server → (c : ℕ) → List Event → List ℕ
takes s c events = takes_from s c [] events

-- ---- whose events are whose

abbrev pub is_of : (c : ℕ) → Event → Bool
is_of c (Begin d) = d == c
is_of c (Msg d bytes mark) = d == c
is_of c (Take d) = d == c
is_of c (End d) = d == c
is_of c Stop = false

abbrev pub is_msg : (c : ℕ) → Event → Bool
is_msg c (Msg d bytes mark) = d == c
is_msg c _ = false

abbrev pub is_take : (c : ℕ) → Event → Bool
is_take c (Take d) = d == c
is_take c _ = false

-- ---- the laws of servers

-- the session has ended, or one of its messages has closed it
abbrev pub IsOver : Server → List Event → (c : ℕ) → Type 0
IsOver s events c = Contains events (End c) ⊎ ((tag : ℕ) × (s.closed events c ≡ Some tag))

-- No message may have more than 65,560 bytes. All that was replied was handed out or waits. A session is closed by its own
-- messages alone, and stays so. After its end, or once it is closed, it gets no reply.
pub record IsServer (s : Server) : Type 0 where
  pub limited : (messages : List (List ℕ)) → s.limit messages ≤ 65560
  pub first_limit : s.limit [] ≡ 65560
  pub all : (events : List Event) (c : ℕ) → s.replied events c ≡ takes s c events ++ s.outbox events c
  pub open_first : (c : ℕ) → s.closed [] c ≡ None
  pub kept : (events : List Event) (event : Event) (c : ℕ) → is_msg c event ≡ false → s.closed (events ++ event ∷ []) c ≡ s.closed events c
  pub stays : (events : List Event) (event : Event) (c tag : ℕ) → s.closed events c ≡ Some tag → s.closed (events ++ event ∷ []) c ≡ Some tag
  pub quiet : (events : List Event) (event : Event) (c : ℕ) → IsLegal (events ++ event ∷ []) → IsOver s events c
      → s.replied (events ++ event ∷ []) c ≡ s.replied events c
