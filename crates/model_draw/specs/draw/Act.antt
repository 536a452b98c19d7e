-- One message of a connection, and one write of messages (draw(3)).
use Rattle.std.specs.Prelude.{ℕ, zero, suc, ◌==◌, ◌+◌, Bool, false, List, [], ◌∷◌, length, drop, Option, Some, None, Ok, Err}
use Rattle.std.specs.Result.{result_ok}
use Rattle.std.specs.Option.{option_map_or}
use Rattle.model_draw_parts.specs.dmsg.Message.{Message, LowB, UpA, LowC, LowD, UpD, LowF, UpF, LowI, LowL, UpN, LowN, LowO, UpO, LowR, LowS, UpS, LowT, LowV, LowX, LowY}
use Rattle.model_draw_parts.specs.dmsg.Reading.{First, IsMessage, IsShort, IsUnknown, IsUnsupported, first_message}
use Rattle.model_text.specs.text.Outcome.{Outcome, ◌>>=◌, refuse_if}
use Rattle.model_draw.specs.imgfile.ImageFile.{rows_len}
use Rattle.model_draw.specs.draw.World.{World, look, at_number}
use Rattle.model_draw.specs.draw.Making.{flag, allocate, make_screen, share_screen, set_clip, free_image, free_screen_id}
use Rattle.model_draw.specs.draw.Moving.{move_window, restack}
use Rattle.model_draw.specs.draw.Drawing.{draw, set_operator, read_pixels, write_pixels}
use Rattle.model_draw.specs.draw.Naming.{name_image, use_name}
use Rattle.model_draw.specs.draw.Writing.{make_font, load_cell, write_string}

-- The world after a message of connection k, or the first refusal of the message. The rows of a `y` stand first in the bytes
-- behind it.
unfoldable pub act : ℕ → World → Message → List ℕ → Outcome World
act k world (LowB id screenid refresh chan repl r clipr color) rest =
    allocate k world id screenid refresh chan (flag repl) r clipr color
act k world (UpA id imageid fillid public) rest = make_screen k world id imageid fillid (flag public)
act k world (LowC dstid repl clipr) rest = set_clip k world dstid (flag repl) clipr
act k world (LowD dstid srcid maskid dstr srcp maskp) rest = draw k world dstid srcid maskid dstr srcp maskp
act k world (UpD debug) rest = Ok world
act k world (LowF id) rest = free_image k world id
act k world (UpF id) rest = free_screen_id k world id
act k world (LowI id n ascent) rest = make_font k world id n ascent
act k world (LowL cacheid srcid index r sp left width) rest = load_cell k world cacheid srcid index r sp left width
act k world (UpN id tied name) rest = name_image k world id (flag tied) name
act k world (LowN id name) rest = use_name k world id name
act k world (LowO id rmin scr) rest = move_window k world id rmin scr
act k world (UpO op) rest = set_operator k world op
act k world (LowR id r) rest = read_pixels k world id r
act k world (LowS writing) rest = write_string k world writing None
act k world (UpS id chan) rest = share_screen k world id chan
act k world (LowT top ids) rest = restack k world (flag top) ids
act k world LowV rest = Ok world
act k world (LowX writing bgid bgp) rest = write_string k world writing (Some (bgid, bgp))
act k world (LowY id r) rest = write_pixels k world id r rest

-- the bytes behind a message that was not refused: behind the rows of a `y`
unfoldable pub behind : ℕ → World → Message → List ℕ → List ℕ
behind k world (LowY id r) rest =
    drop (option_map_or (λ i. rows_len (at_number world i).chan r) (result_ok (look world k id)) 0) rest
behind k world m rest = rest

-- the first message of bytes and what is behind it, or the refusal of bytes that begin with no message
abbrev pub spelled : First → Outcome (Message × List ℕ)
spelled (IsMessage m rest) = Ok (m, rest)
spelled IsShort = Err 1
spelled IsUnknown = Err 2
spelled IsUnsupported = Err 3

-- the refusal where memory ran out
abbrev pub no_memory : ℕ
no_memory = 24

-- memory ran out after so many messages
abbrev pub is_marked : Option ℕ → ℕ → Bool
is_marked mark done = option_map_or (λ n. n == done) mark false

-- One message of a write, the first of the bytes: the world after it and the bytes behind it, or its refusal. A mark takes
-- effect at a message that is not refused.
unfoldable pub one_message : ℕ → World → Option ℕ → ℕ → List ℕ → Outcome (World × List ℕ)
one_message k world mark done bytes = do
  m ← spelled (first_message bytes)
  next ← act k world m.0 m.1
  _ ← refuse_if (is_marked mark done) no_memory
  Ok (next, behind k world m.0 m.1)

-- how a write ended: the world, how many messages were done, and the refusal that stopped it
pub record Written : Type 0 where
  pub world : World
  pub done : ℕ
  pub refusal : Option ℕ

-- The messages that the bytes spell, one after the other, up to the first refusal or the end.
abbrev pub written_within : ℕ → ℕ → World → Option ℕ → ℕ → List ℕ → Written
written_within zero k world mark done bytes = record { world = world; done = done; refusal = None }
written_within (suc steps) k world mark done [] = record { world = world; done = done; refusal = None }
written_within (suc steps) k world mark done (byte ∷ bytes) =
    elim (one_message k world mark done (byte ∷ bytes)) [
      | Ok next ↦ written_within steps k next.0 mark (done + 1) next.1
      | Err refusal ↦ record { world = world; done = done; refusal = Some refusal }
    ]

-- a write of a connection, perhaps with a mark; each message has a byte at least
unfoldable pub written : ℕ → World → List ℕ → Option ℕ → Written
written k world bytes mark = written_within (length bytes) k world mark 0 bytes
