-- When the world shows a page of the text that a client shows (draw(3), rio(4)).
use Rattle.std.specs.Prelude.{◌≡◌, ◌≤◌, ◌<◌, ℕ, true, is_some, List, [], ◌∷◌, ◌++◌, length, map, replicate, Some, None, All}
use Rattle.r9_event.specs.declared.event.event.Event.{Event}
use Rattle.r9_event.specs.declared.event.event.Event.TheVariants.{Begin}
use Rattle.model_files.specs.wire.Message.{Rwrite, T}
use Rattle.model_files.specs.wire.Spelling.{spelling_of_r}
use Rattle.model_client.specs.declared.textwin.Move.{Move}
use Rattle.model_client.specs.textwin.Moves.{all_moved, put_codes}
use Rattle.model_rio.specs.rio.Table.{window_of}
use Rattle.model_files.specs.declared.tree.Kind.TheVariants.{Ctl, Data, Window}
use Rattle.model_world.specs.Session.{Session, fid_at, fresh}
use Rattle.model_world.specs.Desktop.{Desktop, first_desktop}
use Rattle.model_world.specs.Whole.{client}
use Rattle.model_world.specs.World.{World, display_of}
use Rattle.model_world.specs.Replay.{replay, replies, step}
use Rattle.model_clients.specs.client.Files.{file, own_file}
use Rattle.law_text.specs.client.Files.{open_on}
use Rattle.model_clients.specs.client.Saying.{says}
use Rattle.law_text.specs.client.Saying.{IsClient}
use Rattle.model_clients.specs.page.Text.{Shape, cells, moves_bytes, opening, write}
use Rattle.law_text.specs.page.Page.{Numbers}
use Rattle.law_text.specs.page.Device.{ShowsTo}
use Rattle.model_clients.specs.typed.Typing.{display, opening_replies}

-- The client has the tree of its window, and the files of its one connection that it opened.
abbrev pub typist : Session
typist = record {
  msize = 65560;
  agreed = true;
  closed = None;
  fids = (0, fid_at (own_file 1 Window)) ∷ (1, open_on (file 1 Ctl 1) 2) ∷ (2, open_on (file 1 Data 1) 2) ∷ [];
  waiting = [];
  connections = 1 ∷ [];
  made = 1;
}

-- its window lives, and shows the page
pub record ShowsPage (shape : Shape) (pixels : List ℕ) (n : Numbers) (rows : List (List ℕ)) (world : World) : Type 0 where
  pub alone : IsClient world typist
  pub lives : is_some (window_of world.desktop.table 1) ≡ true
  pub device : ShowsTo (client 1 1) shape pixels n rows world.desktop.device

-- the numbers of the images that the client draws with and in
abbrev pub numbers : Numbers
numbers = record { white = 3; black = 4; letters = 5; window = 2 }

-- ---- the opening

-- the desktop that a server begins with, and the world when the client has begun
abbrev pub first : Desktop
first = first_desktop (display_of display)

abbrev pub begun_world : World
begun_world = record { opening = display; desktop = first; sessions = (1, fresh) ∷ [] }

-- ---- the pieces

-- the moves of a piece, and the rows of the page after it
abbrev pub Piece : Type 0
Piece = List Move × List (List ℕ)

-- the moves lead from the rows before the piece to those after it, put characters of the font, and fit into one message
pub record Fits (shape : Shape) (rows : List (List ℕ)) (piece : Piece) : Type 0 where
  pub moved : all_moved shape.columns piece.0 rows ≡ Some piece.1
  pub codes : All (λ code. code < cells) (put_codes piece.0)
  pub short : length (moves_bytes shape piece.0) ≤ 65537

abbrev pub AllFit : Shape → (rows : List (List ℕ)) → List Piece → Type 0
AllFit shape rows [] = Unit {0}
AllFit shape rows (piece ∷ pieces) = Fits shape rows piece × AllFit shape piece.1 pieces

-- what the client says of a piece
abbrev pub typing : Shape → Piece → Event
typing shape piece = says (write (moves_bytes shape piece.0))

-- Each piece is answered by the number of its bytes, and after it the page shows.
abbrev pub ShowsAll : Shape → (pixels : List ℕ) → World → List Piece → Type 0
ShowsAll shape pixels world [] = Unit {0}
ShowsAll shape pixels world (piece ∷ pieces) =
    ((step world (typing shape piece)).replies ≡ record { session = 1; bytes = spelling_of_r (Rwrite 1 (length (moves_bytes shape piece.0))) } ∷ [])
    × ShowsPage shape pixels numbers piece.1 (step world (typing shape piece)).world
    × ShowsAll shape pixels (step world (typing shape piece)).world pieces

-- what the client says to show a text, and the history in which it does
abbrev pub text_messages : Shape → (pixels : List ℕ) → List Piece → List T
text_messages shape pixels pieces = opening shape pixels ++ map (λ piece. write (moves_bytes shape piece.0)) pieces

abbrev pub text_history : Shape → (pixels : List ℕ) → List Piece → List Event
text_history shape pixels pieces = Begin 1 ∷ map says (text_messages shape pixels pieces)

-- The history shows a text: before the pieces all is answered without an error and an empty page shows, and each piece does what it
-- should.
pub record ShowsText (shape : Shape) (pixels : List ℕ) (pieces : List Piece) : Type 0 where
  pub before : World
  pub left : replay display (Begin 1 ∷ map says (opening shape pixels)) ≡ before
  pub said : replies display (Begin 1 ∷ map says (opening shape pixels)) ≡ map (λ reply. record { session = 1; bytes = spelling_of_r reply }) (opening_replies shape pixels)
  pub empty : ShowsPage shape pixels numbers (replicate shape.rows []) before
  pub each : ShowsAll shape pixels before pieces
