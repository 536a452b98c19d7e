-- What is drawn for a string (draw(3)): its background, where it has one, and then its characters.
use Rattle.std.specs.Prelude.{ℕ, List, ◌++◌, map, Option}
use Rattle.std.specs.Option.{option_map}
use Rattle.std.specs.List.{sum_by}
use Rattle.r9_geom.specs.declared.Point.{Point}
use Rattle.r9_geom.specs.declared.Rect.{Rect}
use Rattle.r9_chan.specs.Op.{number}
use Rattle.model_draw_parts.specs.declared.fonts.Piece.{Piece}
use Rattle.model_draw_parts.specs.fonts.Font.{Font, Layout, advanced, cell, pieces}
use Rattle.model_forest.specs.World.{World, image_at}
use Rattle.model_forest.specs.Draw.{Drawing}
use Rattle.model_draw.specs.draw.Writing.{background_drawing, background_rect, character}
use Rattle.r9_draw.specs.declared.strings.lettering.Lettering.{Lettering}

-- the characters of a string that the font has, and where the pen ends
abbrev pub laid_out : Font → (p sp : Point) → List ℕ → Layout
laid_out font p sp indices =
    let cells = map (cell font.cells) indices in
    record { pieces = pieces font.ascent p sp cells; end = advanced p (sum_by (λ c. c.width) cells) }

-- the image under a string, and its point at the upper left corner
abbrev pub under : Lettering → Option (ℕ × Point)
under l = option_map (λ b. (b.image.0, b.p)) l.background

abbrev pub background : Lettering → Rect → List Drawing
background l r = background_drawing l.dst.0 l.clipr r (number l.op) (under l)

abbrev pub letter : Lettering → Piece → Drawing
letter l piece = character l.dst.0 l.clipr l.src.0 l.font_image.0 (number l.op) piece

abbrev pub characters : Lettering → List Piece → List Drawing
characters l pieces = map (letter l) pieces

-- all of them, in their order
unfoldable pub drawings : World → Font → Lettering → List ℕ → List Drawing
drawings images font l indices =
    let laid = laid_out font l.p l.sp indices in
    let r = background_rect l.p laid.end font.ascent (image_at images l.font_image.0).r in
    background l r ++ characters l laid.pieces
