-- A whole text.
use Rattle.std.proofs.Common.{◌≡◌, ◌∙◌, ◌*◌, ℕ, true, List, [], ◌∷◌, length, replicate, refl, ap}
use Rattle.r9_geom.specs.declared.Point.{Point}
use Rattle.r9_geom.specs.Geometry.{holds}
use Rattle.model_history.specs.event.Legal.{IsLegal}
use Rattle.model_forest.specs.View.{view}
use Rattle.model_draw.specs.draw.Orders.{image_shown}
use Rattle.law_text.specs.client.Saying.{AreMessages}
use Rattle.law_text.proofs.client.Legal.{legal}
use Rattle.law_text.proofs.page.Painting.{sheet_view}
use Rattle.model_text.specs.text.Number.{AreBytes}
use Rattle.model_world.specs.World.{World}
use Rattle.model_world.specs.Replay.{Turn}
use Rattle.model_clients.specs.page.Text.{Shape, cells, page_rect, rgb24}
use Rattle.model_clients.specs.page.Page.{page}
use Rattle.law_text.specs.page.Page.{AreApart, IsShape, Numbers}
use Rattle.law_text.specs.typed.Typing.{AllFit, Piece, ShowsAll, ShowsPage, ShowsText, numbers, text_history, text_messages}
use Rattle.law_text.proofs.typed.Opening.{opened_text}
use Rattle.law_text.proofs.typed.Typing.{typed}

apart : AreApart numbers
apart = record { white = refl; black = refl; letters = refl }

pieces_shown : (shape : Shape) (pixels : List ℕ) (rows : List (List ℕ)) (world : World) (pieces : List Piece) → IsShape shape → AreBytes pixels → ShowsPage shape pixels numbers rows world → AllFit shape rows pieces
    → ShowsAll shape pixels world pieces
pieces_shown shape pixels rows world [] is are shows fit = tt
pieces_shown shape pixels rows world (piece ∷ pieces) is are shows fit =
    let one = typed shape pixels numbers rows piece.1 world piece.0 is apart are shows fit.0.moved fit.0.codes fit.0.short in
    (ap (λ (turn : Turn). turn.replies) one.is, one.shows, pieces_shown shape pixels piece.1 _ pieces is are one.shows fit.1)

pub text_shown : (shape : Shape) (pixels : List ℕ) (pieces : List Piece) → IsShape shape → AreBytes pixels → length pixels ≡ shape.height * (cells * shape.width) → AllFit shape (replicate shape.rows []) pieces
    → ShowsText shape pixels pieces
text_shown shape pixels pieces is are all fit =
    let opened = opened_text shape pixels is all in
    record {
      before = opened.after;
      left = opened.answers.left;
      said = opened.answers.said;
      empty = opened.shows;
      each = pieces_shown shape pixels (replicate shape.rows []) opened.after pieces is are opened.shows fit;
    }

-- what shows is what the window's image shows
pub page_viewed : (shape : Shape) (pixels : List ℕ) (n : Numbers) (rows : List (List ℕ)) (world : World) (p : Point) → ShowsPage shape pixels n rows world → holds (page_rect shape) p ≡ true
    → view world.desktop.device.images (image_shown world.desktop.device 1) p ≡ page shape pixels rows p
page_viewed shape pixels n rows world p shows held =
    ap (λ (i : ℕ). view world.desktop.device.images i p) shows.device.managed
    ∙ sheet_view world.desktop.device.images n.window (page_rect shape) rgb24 (page shape pixels rows) p shows.device.shows.window held

-- the history is legal, where each message is whole
pub text_legal : (shape : Shape) (pixels : List ℕ) (pieces : List Piece) → AreMessages (text_messages shape pixels pieces) → IsLegal (text_history shape pixels pieces)
text_legal shape pixels pieces whole = legal (text_messages shape pixels pieces) whole
