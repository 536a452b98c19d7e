-- What a message with a list asks for, as a message of the definitions, and the facts of it.
use Rattle.std.specs.Prelude.{◌≡◌, ◌≤◌, ◌^◌, ◌+◌, ◌/◌, ◌%◌, ℕ, List, length, Bool, true, false, if◌then◌else◌, Option, Some, None, IfSome}
use Rattle.std.specs.Int.{w16, w32}
use Rattle.std.specs.Option.{option_map_or}
use Rattle.r9_geom.specs.Geometry.{IsNearBy, IsRectNearBy}
use Rattle.model_draw_parts.specs.dmsg.Message as model
use Rattle.model_draw_parts.specs.dmsg.Message.{Message, LowN, LowS, LowT, LowX, UpN}
use Rattle.model_draw_parts.specs.dmsg.Reading.{First, IsMessage, numbers_of}
use Rattle.r9_dmsg.specs.declared.writing.Writing.{Writing}
use Rattle.r9_dmsg.specs.declared.listed.Listed.{Listed}
use Rattle.r9_dmsg.specs.declared.listed.Listed.TheVariants.{Name, Restack, UseName, Write}
use Rattle.r9_dmsg.specs.declared.naming.NameUse.{NameUse}
use Rattle.r9_dmsg.specs.declared.naming.Naming.{Naming}
use Rattle.r9_dmsg.specs.declared.restacking.Restacking.{Restacking}

-- a message with a list: N, n, s, t and x
abbrev pub has_list : Message → Bool
has_list (UpN id tied name) = true
has_list (LowN id name) = true
has_list (LowS writing) = true
has_list (LowT top ids) = true
has_list (LowX writing bgid bgp) = true
has_list _ = false

-- the message that stands first, where it has a list
abbrev pub listed_in : First → Option Message
listed_in (IsMessage m rest) = if has_list m then Some m else None
listed_in _ = None

-- ---- the messages

abbrev pub restacking_message : Restacking → Message
restacking_message t = LowT t.top (numbers_of w32 (length t.ids.now / 4) t.ids.now)

abbrev pub naming_message : Naming → Message
naming_message n = UpN n.id n.tied n.name.now

abbrev pub name_use_message : NameUse → Message
name_use_message n = LowN n.id n.name.now

abbrev pub indices_of : Writing → List ℕ
indices_of l = numbers_of w16 (length l.indices.now / 2) l.indices.now

abbrev pub writing_in : Writing → model.Writing
writing_in l = record {
  dstid = l.dstid;
  srcid = l.srcid;
  fontid = l.fontid;
  p = l.p;
  clipr = l.clipr;
  sp = l.sp;
  indices = indices_of l;
}

abbrev pub writing_message : Writing → Message
writing_message l = option_map_or (λ b. LowX (writing_in l) b.id b.p) l.background (LowS (writing_in l))

abbrev pub listed_message : Listed → Message
listed_message (Restack t) = restacking_message t
listed_message (Name n) = naming_message n
listed_message (UseName n) = name_use_message n
listed_message (Write l) = writing_message l

-- how many bytes spell it
abbrev pub writing_len : Writing → ℕ
writing_len l = option_map_or (λ _. 59) l.background 47 + length l.indices.now

abbrev pub listed_len : Listed → ℕ
listed_len (Restack t) = 4 + length t.ids.now
listed_len (Name n) = 7 + length n.name.now
listed_len (UseName n) = 6 + length n.name.now
listed_len (Write l) = writing_len l

-- ---- the facts

-- its ids, or its indices, are whole: four bytes each, or two
abbrev pub IsWhole : Listed → Type 0
IsWhole (Restack t) = length t.ids.now % 4 ≡ 0
IsWhole (Write l) = length l.indices.now % 2 ≡ 0
IsWhole _ = Unit {0}

-- the numbers of its points and of its rectangle are of 32 bits
pub record IsNearWriting (l : Writing) : Type 0 where
  pub p : IsNearBy (2 ^ 31) l.p
  pub clipr : IsRectNearBy (2 ^ 31) l.clipr
  pub sp : IsNearBy (2 ^ 31) l.sp
  pub background : IfSome l.background (λ b. IsNearBy (2 ^ 31) b.p)

abbrev pub IsNearListed : Listed → Type 0
IsNearListed (Write l) = IsNearWriting l
IsNearListed _ = Unit {0}

-- no longer than its count can say, which is a byte for a name, and else two
abbrev pub HasShortList : Listed → Type 0
HasShortList (Restack t) = length t.ids.now / 4 ≤ 65535
HasShortList (Name n) = length n.name.now ≤ 255
HasShortList (UseName n) = length n.name.now ≤ 255
HasShortList (Write l) = length l.indices.now / 2 ≤ 65535
