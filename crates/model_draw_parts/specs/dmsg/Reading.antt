-- The message that stands first in bytes (draw(3)): a letter, and the fields behind it. Numbers have their low byte first.
use Rattle.std.specs.Prelude.{ℕ, ◌*◌, ◌==◌, ℤ, Bool, List, [], ◌∷◌, length, take, drop, zero, suc, nat_lt, if◌then◌else◌, Option, Some, None}
use Rattle.std.specs.Int.{Width, w8, w16, w32, byte_len, cast_signed, from_le_bytes}
use Rattle.std.specs.List.{list_any}
use Rattle.std.specs.Option.{option_map_or}
use Rattle.model_text.specs.text.Reading.{◌>>=◌, ◌&◌, number_at}
use Rattle.r9_geom.specs.declared.Point.{Point}
use Rattle.r9_geom.specs.declared.Rect.{Rect}
use Rattle.model_draw_parts.specs.dmsg.Message.{Message, Writing, LowB, UpA, LowC, LowD, UpD, LowF, UpF, LowI, LowL, UpN, LowN, LowO, UpO, LowR, LowS, UpS, LowT, LowV, LowX, LowY}

-- a field read otherwise
abbrev pub read_as : {A B : Type 0} → (List ℕ → Option (A × List ℕ)) → (A → B) → List ℕ → Option (B × List ℕ)
read_as field make bytes = field bytes >>= λ x. Some (make x.0, x.1)

-- ---- fields

unfoldable pub byte : List ℕ → Option (ℕ × List ℕ)
byte bytes = number_at w8 bytes

unfoldable pub short : List ℕ → Option (ℕ × List ℕ)
short bytes = number_at w16 bytes

unfoldable pub long : List ℕ → Option (ℕ × List ℕ)
long bytes = number_at w32 bytes

unfoldable pub signed_byte : List ℕ → Option (ℤ × List ℕ)
signed_byte bytes = read_as byte (cast_signed w8) bytes

unfoldable pub coordinate : List ℕ → Option (ℤ × List ℕ)
coordinate bytes = read_as long (cast_signed w32) bytes

unfoldable pub point : List ℕ → Option (Point × List ℕ)
point bytes = read_as (coordinate & coordinate) (λ (x, y). record { x = x; y = y }) bytes

unfoldable pub rect : List ℕ → Option (Rect × List ℕ)
rect bytes = read_as (point & point) (λ (min, max). record { min = min; max = max }) bytes

-- the numbers of a size that the first bytes spell
unfoldable pub numbers_of : Width → ℕ → List ℕ → List ℕ
numbers_of w zero bytes = []
numbers_of w (suc n) bytes = from_le_bytes w (take (byte_len w) bytes) ∷ numbers_of w n (drop (byte_len w) bytes)

-- so many numbers of a size
unfoldable pub numbers : Width → ℕ → List ℕ → Option (List ℕ × List ℕ)
numbers w n bytes =
    if nat_lt (length bytes) (n * byte_len w) then None
    else Some (numbers_of w n bytes, drop (n * byte_len w) bytes)

-- so many bytes as they are
unfoldable pub some_bytes : ℕ → List ℕ → Option (List ℕ × List ℕ)
some_bytes n bytes = if nat_lt (length bytes) n then None else Some (take n bytes, drop n bytes)

-- a byte that counts, and then so many bytes
unfoldable pub name : List ℕ → Option (List ℕ × List ℕ)
name bytes = byte bytes >>= λ n. some_bytes n.0 n.1

-- a count, and then so many numbers of a size
unfoldable pub counted : Width → List ℕ → Option (List ℕ × List ℕ)
counted w bytes = short bytes >>= λ n. numbers w n.0 n.1

-- a count, another field, and then so many numbers of two bytes
unfoldable pub counted_around : {A : Type 0} → (List ℕ → Option (A × List ℕ)) → List ℕ → Option ((A × List ℕ) × List ℕ)
counted_around field bytes = short bytes >>= λ n. (field & numbers w16 n.0) n.1

-- a string's target, source and font, its place, its clip rectangle and the source's point
unfoldable pub string_head : List ℕ → Option ((ℕ × (ℕ × (ℕ × (Point × (Rect × Point))))) × List ℕ)
string_head bytes = (long & (long & (long & (point & (rect & point))))) bytes

abbrev pub writing_of : ℕ × (ℕ × (ℕ × (Point × (Rect × Point)))) → List ℕ → Writing
writing_of head indices = record {
  dstid = head.0;
  srcid = head.1.0;
  fontid = head.1.1.0;
  p = head.1.1.1.0;
  clipr = head.1.1.1.1.0;
  sp = head.1.1.1.1.1;
  indices = indices;
}

-- ---- the fields behind each letter

abbrev pub Fields : Type 0
Fields = List ℕ → Option (Message × List ℕ)

unfoldable pub low_b : Fields
low_b bytes =
    read_as
    (long & (long & (byte & (long & (byte & (rect & (rect & long)))))))
    (λ (id, (screenid, (refresh, (chan, (repl, (r, (clipr, color))))))). LowB id screenid refresh chan repl r clipr color)
    bytes

unfoldable pub up_a : Fields
up_a bytes =
    read_as
    (long & (long & (long & byte)))
    (λ (id, (imageid, (fillid, public))). UpA id imageid fillid public)
    bytes

unfoldable pub low_c : Fields
low_c bytes = read_as (long & (byte & rect)) (λ (dstid, (repl, clipr)). LowC dstid repl clipr) bytes

unfoldable pub low_d : Fields
low_d bytes =
    read_as
    (long & (long & (long & (rect & (point & point)))))
    (λ (dstid, (srcid, (maskid, (dstr, (srcp, maskp))))). LowD dstid srcid maskid dstr srcp maskp)
    bytes

unfoldable pub up_d : Fields
up_d bytes = read_as byte UpD bytes

unfoldable pub low_f : Fields
low_f bytes = read_as long LowF bytes

unfoldable pub up_f : Fields
up_f bytes = read_as long UpF bytes

unfoldable pub low_i : Fields
low_i bytes = read_as (long & (long & byte)) (λ (id, (n, ascent)). LowI id n ascent) bytes

unfoldable pub low_l : Fields
low_l bytes =
    read_as
    (long & (long & (short & (rect & (point & (signed_byte & byte))))))
    (λ (cacheid, (srcid, (index, (r, (sp, (left, width)))))). LowL cacheid srcid index r sp left width)
    bytes

unfoldable pub up_n : Fields
up_n bytes = read_as (long & (byte & name)) (λ (id, (tied, name)). UpN id tied name) bytes

unfoldable pub low_n : Fields
low_n bytes = read_as (long & name) (λ (id, name). LowN id name) bytes

unfoldable pub low_o : Fields
low_o bytes = read_as (long & (point & point)) (λ (id, (rmin, scr)). LowO id rmin scr) bytes

unfoldable pub up_o : Fields
up_o bytes = read_as byte UpO bytes

unfoldable pub low_r : Fields
low_r bytes = read_as (long & rect) (λ (id, r). LowR id r) bytes

unfoldable pub low_s : Fields
low_s bytes = read_as (string_head & counted w16) (λ (head, indices). LowS (writing_of head indices)) bytes

unfoldable pub up_s : Fields
up_s bytes = read_as (long & long) (λ (id, chan). UpS id chan) bytes

unfoldable pub low_t : Fields
low_t bytes = read_as (byte & counted w32) (λ (top, ids). LowT top ids) bytes

unfoldable pub low_v : Fields
low_v bytes = Some (LowV, bytes)

unfoldable pub low_x : Fields
low_x bytes =
    read_as
    (string_head & counted_around (long & point))
    (λ (head, ((bgid, bgp), indices)). LowX (writing_of head indices) bgid bgp)
    bytes

unfoldable pub low_y : Fields
low_y bytes = read_as (long & rect) (λ (id, r). LowY id r) bytes

-- the letters, b A c d D f F i l N n o O r s S t v x y, and the fields behind them
abbrev pub table : List (ℕ × Fields)
table =
    (98, low_b) ∷
    (65, up_a) ∷
    (99, low_c) ∷
    (100, low_d) ∷
    (68, up_d) ∷
    (102, low_f) ∷
    (70, up_f) ∷
    (105, low_i) ∷
    (108, low_l) ∷
    (78, up_n) ∷
    (110, low_n) ∷
    (111, low_o) ∷
    (79, up_o) ∷
    (114, low_r) ∷
    (115, low_s) ∷
    (83, up_s) ∷
    (116, low_t) ∷
    (118, low_v) ∷
    (120, low_x) ∷
    (121, low_y) ∷
    []

abbrev pub fields_in : List (ℕ × Fields) → ℕ → Option Fields
fields_in [] letter = None
fields_in (row ∷ rows) letter = if row.0 == letter then Some row.1 else fields_in rows letter

-- the letters Y L e E p P, whose messages this profile leaves out
abbrev pub is_left_out : ℕ → Bool
is_left_out letter = list_any (λ c. c == letter) (89 ∷ 76 ∷ 101 ∷ 69 ∷ 112 ∷ 80 ∷ [])

-- what stands first in bytes
pub data First : Type 0 where
  -- a message, and the bytes behind it
  IsMessage : Message → List ℕ → First
  -- the bytes end within a message
  IsShort : First
  -- no message begins so
  IsUnknown : First
  -- a message that this profile leaves out
  IsUnsupported : First

abbrev pub spelled_by : Fields → List ℕ → First
spelled_by fields bytes = option_map_or (λ x. IsMessage x.0 x.1) (fields bytes) IsShort

-- a letter without a row
abbrev pub rowless : ℕ → First
rowless letter = if is_left_out letter then IsUnsupported else IsUnknown

-- the fields of a letter, and else why there are none
unfoldable pub behind : ℕ → List ℕ → First
behind letter bytes = option_map_or (λ fields. spelled_by fields bytes) (fields_in table letter) (rowless letter)

unfoldable pub first_message : List ℕ → First
first_message [] = IsShort
first_message (letter ∷ bytes) = behind letter bytes
