-- The messages that make fonts and write strings (draw(3)). Each gives the world after it, or its first refusal.
use Rattle.std.specs.Prelude.{ℕ, ◌==◌, ℤ, pos, ◌+ℤ◌, ◌-ℤ◌, int_lt, Bool, not, ◌||◌, nat_lt, List, [], ◌∷◌, ◌++◌, map, Option, Some, None, Ok}
use Rattle.std.specs.List.{fold}
use Rattle.r9_geom.specs.declared.Point.{Point}
use Rattle.r9_geom.specs.declared.Rect.{Rect}
use Rattle.r9_geom.specs.Geometry.{is_inside}
use Rattle.model_text.specs.text.Map.{lookup, and}
use Rattle.model_text.specs.text.Outcome.{Outcome, ◌>>=◌, refuse_if, value_or_refuse}
use Rattle.model_draw_parts.specs.dmsg.Message.{Writing}
use Rattle.model_draw_parts.specs.declared.fonts.Piece.{Piece}
use Rattle.model_draw_parts.specs.fonts.Font.{Font, new_font, no_point, with_cell, layout}
use Rattle.model_draw_parts.specs.images.Book.{by_name}
use Rattle.model_forest.specs.Draw.{Drawing, after_draw}
use Rattle.model_draw.specs.draw.World.{World, client_of, with_client, with_images, look, at_number, s_over_d}
use Rattle.model_draw.specs.draw.Making.{is_window}
use Rattle.model_draw.specs.draw.Drawing.{with_operator}

-- ---- fonts

-- the font of an image id: 14 where it is none
abbrev pub font_of : World → ℕ → (id : ℕ) → Outcome Font
font_of world k id = value_or_refuse (lookup (client_of world k).fonts id) 14

-- an image id with a font, which takes the place of an earlier one
abbrev pub with_font : World → ℕ → (id : ℕ) → Font → World
with_font world k id font =
    with_client world k (record (client_of world k) { fonts = and (client_of world k).fonts id font })

-- most characters of a font
abbrev pub most_cells : ℕ
most_cells = 4096

-- `i`: make an image id a font of empty characters
unfoldable pub make_font : ℕ → World → (id n ascent : ℕ) → Outcome World
make_font k world id n ascent = do
  i ← look world k id
  _ ← refuse_if ((id == 0) || is_window world i || by_name world.book k id) 23
  _ ← refuse_if ((n == 0) || nat_lt most_cells n) 23
  Ok (with_font world k id (new_font n ascent))

-- the operator S, which puts the source in the target's place
abbrev pub s_alone : ℕ
s_alone = 10

-- a drawing with a full mask, which shows all of the source
abbrev pub unmasked : (dst : ℕ) → (clip r : Rect) → (src : ℕ) → Point → (op : ℕ) → Drawing
unmasked dst clip r src sp op = record {
  dst = dst;
  clip = clip;
  r = r;
  src = src;
  sp = sp;
  mask = None;
  mp = no_point;
  op = op;
}

-- max is below min
abbrev pub is_turned : Rect → Bool
is_turned r = int_lt r.max.x r.min.x || int_lt r.max.y r.min.y

-- `l`: a character goes from an image into a font's image, and its cell into the font; the operator of the next drawing stays
unfoldable pub load_cell : ℕ → World → (cacheid srcid index : ℕ) → Rect → Point → (left : ℤ) → (width : ℕ) → Outcome World
load_cell k world cacheid srcid index r sp left width = do
  cache ← look world k cacheid
  font ← font_of world k cacheid
  src ← look world k srcid
  loaded ← with_cell font index (record { r = r; left = left; width = width })
  _ ← refuse_if (is_turned r || not (is_inside r (at_number world cache).r)) 9
  Ok (with_font (with_images world (after_draw world.images (unmasked cache r r src sp s_alone))) k cacheid loaded)

-- ---- strings

-- the image and the point of it under a string, where the string has a background
abbrev pub look_background : World → ℕ → Option (ℕ × Point) → Outcome (Option (ℕ × Point))
look_background world k None = Ok None
look_background world k (Some bg) = look world k bg.0 >>= λ i. Ok (Some (i, bg.1))

-- What a background fills, from the pen's place at the beginning to that at the end: it is as high as the font's image, and
-- the writing line is the ascent below its upper edge.
abbrev pub background_rect : (p end : Point) → (ascent : ℕ) → (font_r : Rect) → Rect
background_rect p end ascent font_r = record {
  min = record { x = p.x; y = p.y -ℤ pos ascent };
  max = record { x = end.x; y = p.y -ℤ pos ascent +ℤ (font_r.max.y -ℤ font_r.min.y) };
}

abbrev pub background_drawing : (dst : ℕ) → (clip r : Rect) → (op : ℕ) → Option (ℕ × Point) → List Drawing
background_drawing dst clip r op None = []
background_drawing dst clip r op (Some bg) = unmasked dst clip r bg.0 bg.1 op ∷ []

-- a character is the source, seen through the font's image
abbrev pub character : (dst : ℕ) → (clip : Rect) → (src font_image op : ℕ) → Piece → Drawing
character dst clip src font_image op piece = record {
  dst = dst;
  clip = clip;
  r = piece.r;
  src = src;
  sp = piece.sp;
  mask = Some font_image;
  mp = piece.mp;
  op = op;
}

-- what is drawn for a string: its background, where it has one, and then its characters
unfoldable pub string_drawings : ℕ → World → Writing → (background : Option (ℕ × Point)) → Outcome (List Drawing)
string_drawings k world w background = do
  dst ← look world k w.dstid
  src ← look world k w.srcid
  font_image ← look world k w.fontid
  font ← font_of world k w.fontid
  under ← look_background world k background
  laid ← layout font w.p w.sp w.indices
  let op = (client_of world k).op in
      let r = background_rect w.p laid.end font.ascent (at_number world font_image).r in
      Ok (background_drawing dst w.clipr r op under ++ map (character dst w.clipr src font_image op) laid.pieces)

-- `s`, and on a background `x`: one drawing after the other, so that each sees those before it
unfoldable pub write_string : ℕ → World → Writing → (background : Option (ℕ × Point)) → Outcome World
write_string k world w background = do
  drawings ← string_drawings k world w background
  Ok (with_operator (with_images world (fold after_draw world.images drawings)) k s_over_d)
