-- The draw messages that a client sends, as bytes (draw(3)). Numbers have their low byte first.
use Rattle.std.specs.Prelude.{ℕ, ℤ, List, [], ◌∷◌, ◌++◌, length}
use Rattle.std.specs.Int.{w32, cast_unsigned}
use Rattle.std.specs.List.{flat_map}
use Rattle.r9_geom.specs.declared.Point.{Point}
use Rattle.r9_geom.specs.declared.Rect.{Rect}
use Rattle.model_text.specs.text.Number.{two_bytes, four_bytes}
use Rattle.model_draw_parts.specs.dmsg.Message.{Writing}

abbrev pub coordinate : ℤ → List ℕ
coordinate z = four_bytes (cast_unsigned w32 z)

abbrev pub point : Point → List ℕ
point p = coordinate p.x ++ coordinate p.y

abbrev pub rect : Rect → List ℕ
rect r = point r.min ++ point r.max

-- b: an image that stands on no screen
unfoldable pub image : (id chan repl : ℕ) (r clipr : Rect) (color : ℕ) → List ℕ
image id chan repl r clipr color =
    98 ∷ [] ++ four_bytes id ++ four_bytes 0 ++ 0 ∷ [] ++ four_bytes chan ++ repl ∷ [] ++ rect r ++ rect clipr ++ four_bytes color

-- d: a drawing
unfoldable pub drawing : (dst src mask : ℕ) (r : Rect) (sp mp : Point) → List ℕ
drawing dst src mask r sp mp = 100 ∷ [] ++ four_bytes dst ++ four_bytes src ++ four_bytes mask ++ rect r ++ point sp ++ point mp

-- i: an image becomes a font
unfoldable pub font : (id n ascent : ℕ) → List ℕ
font id n ascent = 105 ∷ [] ++ four_bytes id ++ four_bytes n ++ ascent ∷ []

-- l: a character of a font, whose left is 0
unfoldable pub character : (font src index : ℕ) (r : Rect) (sp : Point) (width : ℕ) → List ℕ
character font src index r sp width =
    108 ∷ [] ++ four_bytes font ++ four_bytes src ++ two_bytes index ++ rect r ++ point sp ++ 0 ∷ width ∷ []

-- n: an id for the image with a name
unfoldable pub named : (id : ℕ) (name : List ℕ) → List ℕ
named id name = 110 ∷ [] ++ four_bytes id ++ (length name ∷ name)

-- s: a string
unfoldable pub string : Writing → List ℕ
string w =
    115 ∷ [] ++ four_bytes w.dstid ++ four_bytes w.srcid ++ four_bytes w.fontid ++ point w.p ++ rect w.clipr ++ point w.sp
    ++ (two_bytes (length w.indices) ++ flat_map two_bytes w.indices)

-- y: rows of pixels
unfoldable pub rows : (id : ℕ) (r : Rect) (bytes : List ℕ) → List ℕ
rows id r bytes = 121 ∷ [] ++ four_bytes id ++ rect r ++ bytes
