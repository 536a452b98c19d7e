-- What rows hold fits the bits of a pixel.
use Rattle.std.proofs.Common.{◌≡◌, ℕ, ◌+◌, ◌*◌, ◌<◌, ◌^◌, true, List, get_or, drop, sym, subst}
use Rattle.std.proofs.lemmas.List.{get_or-drop}
use Rattle.r9_geom.specs.declared.Point.{Point}
use Rattle.r9_geom.specs.declared.Rect.{Rect}
use Rattle.r9_geom.specs.Geometry.{distance}
use Rattle.model_pixel.specs.Channels.{depth, is_descriptor}
use Rattle.model_pixel.specs.Rows.{row_bytes, row_pixel, skip}
use Rattle.r9_chan.proofs.ChannelLemmas.{is_depth_of}
use Rattle.r9_plane.proofs.Fitting.{raw_at_below}

pub row_pixel_below : (r : Rect) (chan : ℕ) (rows : List ℕ) (p : Point) → is_descriptor chan ≡ true → ((j : ℕ) → get_or rows j 0 < 256) → row_pixel r (depth chan) rows p < 2 ^ depth chan
row_pixel_below r chan rows p is each =
    let start = distance r.min.y p.y * row_bytes r (depth chan) in
    raw_at_below (depth chan) (drop start rows) (skip r (depth chan) + distance r.min.x p.x) (is_depth_of chan is)
    (λ j. subst (λ n. n < 256) (sym (get_or-drop start rows j 0)) (each (start + j)))
