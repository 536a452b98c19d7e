-- A whole stream of 9P cut into messages, and a reader to which it comes in pieces (intro(5)). The limit of each message
-- is settled by the messages before it, as a server's is.
use Rattle.std.specs.Prelude.{ℕ, zero, suc, List, [], ◌∷◌, ◌++◌, length, drop, None}
use Rattle.std.specs.List.{fold}
use Rattle.model_files.specs.frame.Frame.{Cut, Frame, first, Framing, given, left}

-- at most so many messages at the front of bytes, behind those before
abbrev pub messages_within : ℕ → (limits : List (List ℕ) → ℕ) (before : List (List ℕ)) (bytes : List ℕ) → List (List ℕ)
messages_within zero limits before bytes = []
messages_within (suc most) limits before bytes =
    elim (first (limits before) bytes) [
      | Frame frame ↦ frame ∷ messages_within most limits (before ++ frame ∷ []) (drop (length frame) bytes)
      | _ ↦ []
    ]

-- the messages at the front of bytes, up to where none stands; each has more than one byte
unfoldable pub messages : (limits : List (List ℕ) → ℕ) (before : List (List ℕ)) (bytes : List ℕ) → List (List ℕ)
messages limits before bytes = messages_within (length bytes) limits before bytes

-- the messages that begin with this cut of the bytes
abbrev pub messages_from : (limits : List (List ℕ) → ℕ) (before : List (List ℕ)) (bytes : List ℕ) → Cut → List (List ℕ)
messages_from limits before bytes (Frame frame) =
    frame ∷ messages limits (before ++ frame ∷ []) (drop (length frame) bytes)
messages_from limits before bytes _ = []

-- the messages that were given to a reader, in order, and what its framing holds
pub record Reader : Type 0 where
  pub read : List (List ℕ)
  pub framing : Framing

abbrev pub nothing_read : (limits : List (List ℕ) → ℕ) → Reader
nothing_read limits = record { read = []; framing = record { held = []; limit = limits []; bad = None } }

-- the framing, with the limit of the next message set
abbrev pub ready : (limits : List (List ℕ) → ℕ) → Reader → Framing
ready limits r = record r.framing { limit = limits r.read }

-- the messages read, with the one that a cut gives
abbrev pub with_given : List (List ℕ) → Cut → List (List ℕ)
with_given read (Frame frame) = read ++ frame ∷ []
with_given read _ = read

-- the limit is set and what is given next is taken
abbrev pub taken_one : (limits : List (List ℕ) → ℕ) → Reader → Reader
taken_one limits r = let s = ready limits r in record { read = with_given r.read (given s); framing = left s }

-- this is taken at most so many times, until no message is given
abbrev pub taken_within : ℕ → (limits : List (List ℕ) → ℕ) → Reader → Reader
taken_within zero limits r = r
taken_within (suc most) limits r =
    elim (given (ready limits r)) [
      | Frame frame ↦ taken_within most limits (taken_one limits r)
      | _ ↦ taken_one limits r
    ]

-- all messages are taken that are given; one time more shows that there is none
unfoldable pub all_taken : (limits : List (List ℕ) → ℕ) → Reader → Reader
all_taken limits r = taken_within (suc (length r.framing.held)) limits r

-- all that is taken from where this is given next
abbrev pub all_taken_from : (limits : List (List ℕ) → ℕ) → Reader → Cut → Reader
all_taken_from limits r (Frame frame) = all_taken limits (taken_one limits r)
all_taken_from limits r _ = taken_one limits r

-- a piece of the stream is added
abbrev pub fed : List ℕ → Reader → Reader
fed piece r = record r { framing = record r.framing { held = r.framing.held ++ piece } }

-- a reader that takes all messages after each piece
abbrev pub read_in_pieces : (limits : List (List ℕ) → ℕ) → List (List ℕ) → Reader
read_in_pieces limits pieces = fold (λ r piece. all_taken limits (fed piece r)) (nothing_read limits) pieces

-- what happens to a reader: a piece comes, or the next message is taken
pub data Step : Type 0 where
  Piece : (piece : List ℕ) → Step
  Take : Step

abbrev pub stepped : (limits : List (List ℕ) → ℕ) → Reader → Step → Reader
stepped limits r (Piece piece) = fed piece r
stepped limits r Take = taken_one limits r

-- the reader after all that happened
abbrev pub read_by : (limits : List (List ℕ) → ℕ) → List Step → Reader
read_by limits steps = fold (stepped limits) (nothing_read limits) steps

-- the pieces that came
abbrev pub pieces_of : List Step → List (List ℕ)
pieces_of [] = []
pieces_of (Piece piece ∷ steps) = piece ∷ pieces_of steps
pieces_of (Take ∷ steps) = pieces_of steps
