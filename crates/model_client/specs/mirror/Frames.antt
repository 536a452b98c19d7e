-- The picture that frames make, and the place of the first line that does not fit.
use Rattle.std.specs.Prelude.{ℕ, zero, suc, ◌+◌, ◌*◌, ◌==◌, not, Bool, nat_le, nat_lt, List, length, take, drop, codes, Option, Some, None, Ok, Err, if◌then◌else◌}
use Rattle.std.specs.List.{prefix_len, slice_split}
use Rattle.std.specs.Str.{bytes_eq}
use Rattle.r9_geom.specs.declared.Rect.{Rect}
use Rattle.r9_geom.specs.Geometry.{height}
use Rattle.model_text.specs.text.Outcome.{Outcome, ◌>>=◌, value_or_refuse, refuse_if}
use Rattle.model_pixel.specs.Channels.{depth}
use Rattle.model_pixel.specs.Rows.{row_bytes}
use Rattle.model_client.specs.mirror.Picture.{Picture, with_rows}
use Rattle.model_client.specs.mirror.Lines.{frame_in, size_in, cell_in}

-- the words of the line that begins at a place, and the place behind its newline; the line's place where it has none
abbrev pub line_at : List ℕ → ℕ → Outcome (List (List ℕ) × ℕ)
line_at text at =
    let len = prefix_len (λ byte. not (byte == 10)) (drop at text) in
    if nat_lt (at + len) (length text) then Ok (slice_split (λ byte. byte == 32) (take len (drop at text)), at + len + 1) else Err at

-- the picture with a cell's rows, which stand at a place, and the place behind them; the line's place where they are cut
abbrev pub with_cell : (chan : ℕ) → List ℕ → (line at : ℕ) → Picture → Rect → Outcome (Picture × ℕ)
with_cell chan text line at picture r =
    let len = row_bytes r (depth chan) * height r in
    if nat_le (at + len) (length text) then Ok (with_rows chan r (take len (drop at text)) picture, at + len) else Err line

-- so many cells from a place on, none of them before one in the order of cells
abbrev pub cells : (count chan first : ℕ) → Picture → List ℕ → ℕ → Outcome (Picture × ℕ)
cells zero chan first picture text at = Ok (picture, at)
cells (suc n) chan first picture text at =
    line_at text at >>= λ line. value_or_refuse (cell_in picture line.0) at >>= λ cell. refuse_if (nat_lt cell.order first) at
    >>= λ _. with_cell chan text at line.1 picture cell.r >>= λ next. cells n chan (cell.order + 1) next.0 text next.1

-- the same where there may be no picture yet
abbrev pub cells_on : (count chan : ℕ) → Option Picture → List ℕ → ℕ → Outcome (Option Picture × ℕ)
cells_on n chan (Some picture) text at = cells n chan 0 picture text at >>= λ next. Ok (Some next.0, next.1)
cells_on zero chan None text at = Ok (None, at)
cells_on (suc n) chan None text at = Err at

-- the picture of the line `Z W H` that stands at a place, or the one before where there is none and none is needed; and
-- the place behind
abbrev pub sized_at : (needed : Bool) → Option Picture → List ℕ → ℕ → Outcome (Option Picture × ℕ)
sized_at needed picture text at =
    if bytes_eq (take 2 (drop at text)) (codes "Z ")
    then (line_at text at >>= λ line. value_or_refuse (size_in line.0) at >>= λ blank. Ok (Some blank, line.1))
    else (refuse_if needed at >>= λ _. Ok (picture, at))

-- one frame: a line `F K N`, a line `Z W H`, without which only a frame does that has another K than 0, and N cells
abbrev pub frame_at : (chan : ℕ) → Option Picture → List ℕ → ℕ → Outcome (Option Picture × ℕ)
frame_at chan picture text at =
    line_at text at >>= λ line. value_or_refuse (frame_in line.0) at
    >>= λ frame. sized_at (frame.0 == 0) picture text line.1 >>= λ sized. cells_on frame.1 chan sized.0 text sized.1

-- frames to the end of the text, at most so many
abbrev pub frames : (most chan : ℕ) → Option Picture → List ℕ → ℕ → Outcome (Option Picture)
frames zero chan picture text at = Ok picture
frames (suc most) chan picture text at =
    if at == length text then Ok picture else (frame_at chan picture text at >>= λ next. frames most chan next.0 text next.1)

-- The picture after frames, from the one before them, or the place of the first line that does not fit. Each frame has a
-- byte or more.
unfoldable pub viewed : (chan : ℕ) → Option Picture → List ℕ → Outcome (Option Picture)
viewed chan picture text = frames (length text) chan picture text 0

-- the picture that frames make from none
abbrev pub viewer : (chan : ℕ) → List ℕ → Outcome (Option Picture)
viewer chan text = viewed chan None text
