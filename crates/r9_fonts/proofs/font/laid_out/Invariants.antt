use Rattle.std.proofs.Common.{◌≡◌, ℕ, ◌+◌, ◌*◌, ◌^◌, ◌≤◌, ◌++◌, map}
use Rattle.std.specs.Prelude.{All}
use Rattle.std.specs.List.{sum_by}
use Rattle.r9_geom.specs.Geometry.{IsNearBy}
use Rattle.model_draw_parts.specs.declared.fonts.Cell.{Cell}
use Rattle.model_draw_parts.specs.fonts.Font.{cell, pieces, advanced, AreWithin}
use Rattle.r9_fonts.specs.Near.{IsPieceNearBy}
use Rattle.r9_fonts.proofs.Strings.{from}
use Rattle.r9_fonts.proofs.font.laid_out.Given as goal

abbrev pub invariant-loop-index : goal.invariant-loop-index
invariant-loop-index l = record {
  pen : (n : ℕ) → IsNearBy n l.fn.p → IsNearBy (n + 255 * l.index-index) l.pen;
  source : (n : ℕ) → IsNearBy n l.fn.sp → IsNearBy (n + 255 * l.index-index) l.source;
  line : l.pen.y ≡ l.fn.p.y;
  near : (n m : ℕ) → 3 * n + 2 ^ 25 ≤ m → IsNearBy n l.fn.p → IsNearBy n l.fn.sp → AreWithin n l.font.cells → All (IsPieceNearBy m) l.pieces.items;
  laid : l.pieces.items ++ pieces l.font.ascent l.pen l.source (from l.font.cells l.indices l.index-index) ≡ pieces l.font.ascent l.fn.p l.fn.sp (map (cell l.font.cells) l.indices);
  end : advanced l.pen (sum_by (λ (c : Cell). c.width) (from l.font.cells l.indices l.index-index)) ≡ advanced l.fn.p (sum_by (λ (c : Cell). c.width) (map (cell l.font.cells) l.indices));
}
