-- What a history does that shows a text (rio(4), draw(3)).
use Rattle.std.specs.Prelude.{◌≡◌, ◌≤◌, ℕ, ◌+◌, true, List, ◌∷◌, ◌++◌, length, map, take}
use Rattle.std.specs.List.{flat_map}
use Rattle.r9_geom.specs.declared.Point.{Point}
use Rattle.r9_geom.specs.Geometry.{holds}
use Rattle.r9_event.specs.declared.event.event.Event.{Event}
use Rattle.r9_event.specs.declared.event.event.Event.TheVariants.{Begin}
use Rattle.model_history.specs.event.Legal.{IsLegal}
use Rattle.model_files.specs.wire.Message.{Rwrite}
use Rattle.model_files.specs.wire.Spelling.{spelling_of_r}
use Rattle.model_forest.specs.World.{image_at}
use Rattle.model_forest.specs.View.{view}
use Rattle.model_draw.specs.draw.Orders.{image_shown}
use Rattle.model_client.specs.declared.textwin.Move.{Move}
use Rattle.model_client.specs.textwin.Moves.{put_codes, screen}
use Rattle.model_client.specs.textwin.Pieces.{pieces}
use Rattle.model_client.specs.textwin.Wrap.{blank, characters, wrapped}
use Rattle.model_world.specs.World.{World}
use Rattle.model_world.specs.Replay.{replay, replies}
use Rattle.model_clients.specs.client.Saying.{says}
use Rattle.model_clients.specs.page.Text.{Shape, moves_bytes, opening, page_rect, write}
use Rattle.model_clients.specs.page.Page.{page}
use Rattle.model_clients.specs.typed.Typing.{display, opening_replies}

-- the rows of the page after a text
abbrev pub rows_after : Shape → (text : List ℕ) → List (List ℕ)
rows_after shape text = screen shape.rows (wrapped shape.columns blank text)

-- window 1 stands where the page does, and shows the page of a text
pub record ShowsPageOf (shape : Shape) (pixels text : List ℕ) (world : World) : Type 0 where
  pub placed : (image_at world.desktop.device.images (image_shown world.desktop.device 1)).r ≡ page_rect shape
  pub viewed : (p : Point) → holds (page_rect shape) p ≡ true → view world.desktop.device.images (image_shown world.desktop.device 1) p ≡ page shape pixels (rows_after shape text) p

-- The history of one session, which does not end, that shows a text: it first opens the window, and then writes the moves of each piece
-- in one message; the moves put each character of the text once, and in order. It is legal, and no reply is an error. Before the first
-- piece the window shows an empty page, and after each piece the page of the pieces so far.
pub record IsShown (shape : Shape) (pixels text : List ℕ) (history : List Event) : Type 0 where
  -- the moves of each piece
  pub moves : List (List Move)
  -- all that is said: the opening, and then one write for the moves of each piece
  pub said : history ≡ Begin 1 ∷ map says (opening shape pixels ++ map (λ piece. write (moves_bytes shape piece)) moves)
  -- there are as many lists of moves as the text has pieces
  pub each : length moves ≡ length (pieces text)
  -- the characters that the moves put, joined, are those of the text in order
  pub put : flat_map put_codes moves ≡ characters text
  pub legal : IsLegal history
  -- each message is answered without an error, the write of a piece by the number of its bytes
  pub answered : replies display history ≡ map (λ reply. record { session = 1; bytes = spelling_of_r reply }) (opening_replies shape pixels ++ map (λ piece. Rwrite 1 (length (moves_bytes shape piece))) moves)
  -- after the opening and so many pieces the window shows the page of these
  pub shown : (k : ℕ) → k ≤ length moves → ShowsPageOf shape pixels (flat_map (λ piece. piece) (take k (pieces text))) (replay display (take (8 + k) history))
