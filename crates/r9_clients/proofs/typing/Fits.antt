-- The messages that the client says fit into bytes.
use Rattle.std.proofs.Common.{◌≡◌, ◌≤◌, ◌*◌, ℕ, List, [], length, sym, subst}
use Rattle.model_files.specs.wire.Message.{Tattach, no_fid}
use Rattle.model_clients.specs.page.Text.{Shape, asked, cells, making}
use Rattle.law_text.specs.page.Page.{IsShape}
use Rattle.law_text.proofs.typed.Opening.{attach_may, making_few}
use Rattle.r9_clients.specs.saying.Lines.{CanSay}
use Rattle.r9_clients.proofs.saying.Fits.{attach_said}

pub window_said : (shape : Shape) (name : List ℕ) → IsShape shape → name ≡ asked shape → CanSay (Tattach 1 0 no_fid [] name)
window_said shape name is e = attach_said name (asked shape) e (attach_may shape is)

pub few : (bytes all : List ℕ) → bytes ≡ all → length all ≤ 65537 → length bytes ≤ 65537
few bytes all e short = subst (λ (bs : List ℕ). length bs ≤ 65537) (sym e) short

pub making_short : (shape : Shape) (pixels bytes : List ℕ) → IsShape shape → length pixels ≡ shape.height * (cells * shape.width) → bytes ≡ making shape pixels → length bytes ≤ 65537
making_short shape pixels bytes is all e = few bytes (making shape pixels) e (making_few shape pixels is all)
