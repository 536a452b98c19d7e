-- Messages of the code as those of the definitions, and what reading answers.
use Rattle.std.specs.Prelude.{◌≡◌, ◌^◌, true, Option, Some, None, Result, Ok, Err}
use Rattle.std.specs.Option.{option_map}
use Rattle.r9_geom.specs.Geometry.{IsNearBy, IsRectNearBy}
use Rattle.model_draw_parts.specs.dmsg.Message as model
use Rattle.model_draw_parts.specs.dmsg.Reading.{First, IsMessage, IsShort, IsUnknown, IsUnsupported}
use Rattle.r9_dmsg.specs.declared.message.Dmsg.{Dmsg}
use Rattle.r9_dmsg.specs.declared.message.Dmsg.TheVariants as d
use Rattle.r9_dmsg.specs.declared.message.DmsgFault.{DmsgFault}
use Rattle.r9_dmsg.specs.declared.message.DmsgFault.TheVariants as fault
use Rattle.r9_dmsg.specs.Listed.{has_list}

abbrev pub message_of : Dmsg → model.Message
message_of (d.LowB id screenid refresh chan repl r clipr color) = model.LowB id screenid refresh chan repl r clipr color
message_of (d.UpA id imageid fillid public) = model.UpA id imageid fillid public
message_of (d.LowC dstid repl clipr) = model.LowC dstid repl clipr
message_of (d.LowD dstid srcid maskid dstr srcp maskp) = model.LowD dstid srcid maskid dstr srcp maskp
message_of (d.UpD debug) = model.UpD debug
message_of (d.LowF id) = model.LowF id
message_of (d.UpF id) = model.UpF id
message_of (d.LowI id n ascent) = model.LowI id n ascent
message_of (d.LowL cacheid srcid index r sp left width) = model.LowL cacheid srcid index r sp left width
message_of (d.UpN id tied name) = model.UpN id tied name
message_of (d.LowN id name) = model.LowN id name
message_of (d.LowO id rmin scr) = model.LowO id rmin scr
message_of (d.UpO op) = model.UpO op
message_of (d.LowR id r) = model.LowR id r
message_of (d.LowS dstid srcid fontid p clipr sp indices) =
    model.LowS (record { dstid = dstid; srcid = srcid; fontid = fontid; p = p; clipr = clipr; sp = sp; indices = indices })
message_of (d.UpS id chan) = model.UpS id chan
message_of (d.LowT top ids) = model.LowT top ids
message_of d.LowV = model.LowV
message_of (d.LowX dstid srcid fontid p clipr sp bgid bgp indices) =
    model.LowX (record { dstid = dstid; srcid = srcid; fontid = fontid; p = p; clipr = clipr; sp = sp; indices = indices }) bgid bgp
message_of (d.LowY id r) = model.LowY id r

abbrev pub message_in : First → Option model.Message
message_in (IsMessage m rest) = Some m
message_in _ = None

-- What reading answers where this stands first. Want of memory comes only for a whole message with a list.
abbrev pub Tells : Result Dmsg DmsgFault → First → Type 0
Tells (Ok m) first = message_in first ≡ Some (message_of m)
Tells (Err fault.Short) first = first ≡ IsShort
Tells (Err fault.Unknown) first = first ≡ IsUnknown
Tells (Err fault.Unsupported) first = first ≡ IsUnsupported
Tells (Err fault.Memory) first = option_map has_list (message_in first) ≡ Some true

-- the numbers of its rectangles and points are of 32 bits
abbrev pub IsNearMessage : Dmsg → Type 0
IsNearMessage (d.LowB id screenid refresh chan repl r clipr color) = IsRectNearBy (2 ^ 31) r × IsRectNearBy (2 ^ 31) clipr
IsNearMessage (d.LowC dstid repl clipr) = IsRectNearBy (2 ^ 31) clipr
IsNearMessage (d.LowD dstid srcid maskid dstr srcp maskp) = IsRectNearBy (2 ^ 31) dstr × IsNearBy (2 ^ 31) srcp × IsNearBy (2 ^ 31) maskp
IsNearMessage (d.LowL cacheid srcid index r sp left width) = IsRectNearBy (2 ^ 31) r × IsNearBy (2 ^ 31) sp
IsNearMessage (d.LowR id r) = IsRectNearBy (2 ^ 31) r
IsNearMessage (d.LowY id r) = IsRectNearBy (2 ^ 31) r
IsNearMessage _ = Unit {0}
