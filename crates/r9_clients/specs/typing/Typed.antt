-- The lines that show a text.
use Rattle.std.specs.Prelude.{◌≡◌, ℕ, List, map}
use Rattle.std.specs.List.{flat_map}
use Rattle.r9_event.specs.declared.event.event.Event.{Event}
use Rattle.model_history.specs.records.Record.{record_of}
use Rattle.model_client.specs.textwin.Moves.{put_codes, screen}
use Rattle.model_client.specs.textwin.Pieces.{pieces}
use Rattle.model_client.specs.textwin.Wrap.{Page, characters}
use Rattle.model_clients.specs.page.Text.{Shape, moves_bytes, write}
use Rattle.law_text.specs.typed.Typing.{AllFit, Piece}
use Rattle.model_clients.specs.typed.Shown.{IsShown}
use Rattle.law_text.specs.typed.Shown.{pages}
use Rattle.r9_clients.specs.saying.Lines.{IsSaid}

-- The lines of a text's pieces came behind what was there before. The pieces' moves lead from a page on to the pages after them, and put
-- the characters of the text.
pub record IsTyped (shape : Shape) (page : Page) (text before after : List ℕ) : Type 0 where
  pub all : List Piece
  pub fit : AllFit shape (screen shape.rows page) all
  pub shown : map (λ piece. piece.1) all ≡ pages shape page (pieces text)
  pub codes : flat_map (λ piece. put_codes piece.0) all ≡ characters text
  pub said : IsSaid before after (map (λ piece. write (moves_bytes shape piece.0)) all)

-- the lines are the record of a history that shows the text with a font of these pixels
pub record IsRecordOf (shape : Shape) (pixels text lines : List ℕ) : Type 0 where
  pub history : List Event
  pub shown : IsShown shape pixels text history
  pub is_record : lines ≡ record_of history
