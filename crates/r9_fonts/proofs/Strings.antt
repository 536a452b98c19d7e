-- One character more of a string.
use Rattle.std.proofs.Common.{◌≡◌, ℕ, suc, ◌+◌, ◌*◌, ◌^◌, ◌<◌, ◌≤◌, ℤ, pos, neg_ℤ, ◌+ℤ◌, ◌≤ℤ◌, List, [], ◌∷◌, ◌++◌, length, get_or, drop, map, refl, sym, ap, subst, ◌∙◌, append_assoc, append-nil, arith}
use Rattle.std.specs.Prelude.{Bool, true, false, Ok, Err}
use Rattle.std.specs.List.{sum_by, list_all}
use borrow.Author.Tests.{ltb-true}
use Rattle.std.proofs.Math.Seq.{drop-cons}
use Rattle.std.proofs.lemmas.Int.{ints}
use Rattle.std.proofs.lemmas.List.{drop_all}
use Rattle.std.proofs.lemmas.List.Sums.{sum_by-cons, AllPass-from_list_all}
use Rattle.r9_geom.specs.declared.Point.{Point}
use Rattle.model_draw_parts.specs.declared.fonts.Cell.{Cell}
use Rattle.model_draw_parts.specs.declared.fonts.Piece.{Piece}
use Rattle.r9_geom.specs.Geometry.{IsNearBy, IsRectNearBy}
use Rattle.model_draw_parts.specs.fonts.Font.{AreWithin, Font, Layout, advanced, cell, empty_cell, has_index, layout, piece, pieces}
use Rattle.r9_fonts.specs.Near.{IsPieceNearBy}

-- the characters of the indices from one on
abbrev pub from : List Cell → List ℕ → ℕ → List Cell
from cells indices i = map (cell cells) (drop i indices)

from-step : (cells : List Cell) (indices : List ℕ) (i : ℕ) → i < length indices → from cells indices i ≡ cell cells (get_or indices i 0) ∷ from cells indices (i + 1)
from-step cells indices i h =
    let e : suc i ≡ i + 1 = omega arith in
    ap (map (cell cells)) (drop-cons indices i 0 h) ∙ ap (λ j. cell cells (get_or indices i 0) ∷ map (cell cells) (drop j indices)) e

pub one_more : (ascent : ℕ) (cells : List Cell) (indices : List ℕ) (i : ℕ) (pen source : Point) (so_far whole : List Piece) → i < length indices
    → so_far ++ pieces ascent pen source (from cells indices i) ≡ whole
    → let c : Cell = cell cells (get_or indices i 0) in
    (so_far ++ piece ascent pen source c ∷ []) ++ pieces ascent (advanced pen c.width) (advanced source c.width) (from cells indices (i + 1)) ≡ whole
unfolding pieces
one_more ascent cells indices i pen source so_far whole h e =
    append_assoc so_far _ _ ∙ ap (λ cs. so_far ++ pieces ascent pen source cs) (sym (from-step cells indices i h)) ∙ e

pub no_more : (ascent : ℕ) (cells : List Cell) (indices : List ℕ) (i : ℕ) (pen source : Point) (so_far whole : List Piece) → length indices ≤ i
    → so_far ++ pieces ascent pen source (from cells indices i) ≡ whole → so_far ≡ whole
unfolding pieces
no_more ascent cells indices i pen source so_far whole h e =
    sym (append-nil so_far) ∙ ap (λ ys. so_far ++ pieces ascent pen source (map (cell cells) ys)) (sym (drop_all i indices h)) ∙ e

pub same_point : (p q : Point) → p.x ≡ q.x → p.y ≡ q.y → p ≡ q
same_point p q x y = λ i. record { x = x i; y = y i }

pub same_piece : (a b : Piece) → a.r ≡ b.r → a.sp ≡ b.sp → a.mp ≡ b.mp → a ≡ b
same_piece a b r sp mp = λ i. record { r = r i; sp = sp i; mp = mp i }

pub nearer : (n m : ℕ) (p : Point) → n ≤ m → IsNearBy n p → IsNearBy m p
nearer n m p h k = record {
  left = omega (arith, ints, k.left);
  right = omega (arith, ints, k.right);
  top = omega (arith, ints, k.top);
  bottom = omega (arith, ints, k.bottom);
}

-- what is drawn of a character is near, where the pen and the source's point are
pub piece_near : (ascent : ℕ) (p sp : Point) (c : Cell) (n m : ℕ) → ascent ≤ 255 → neg_ℤ (pos 128) ≤ℤ c.left → c.left ≤ℤ pos 127 → 3 * n + 2 ^ 25 ≤ m
    → IsNearBy (n + 2 ^ 24) p → IsNearBy (n + 2 ^ 24) sp → IsRectNearBy n c.r → IsPieceNearBy m (piece ascent p sp c)
piece_near ascent p sp c n m high low_left high_left wide pen source cell = record {
  r = record {
    min = record {
      left = omega (arith, ints, pen.left);
      right = omega (arith, ints, pen.right);
      top = omega (arith, ints, pen.top, cell.min.top);
      bottom = omega (arith, ints, pen.bottom, cell.min.bottom);
    };
    max = record {
      left = omega (arith, ints, pen.left, cell.min.right, cell.max.left);
      right = omega (arith, ints, pen.right, cell.min.left, cell.max.right);
      top = omega (arith, ints, pen.top, cell.max.top);
      bottom = omega (arith, ints, pen.bottom, cell.max.bottom);
    };
  };
  sp = record {
    left = omega (arith, ints, source.left);
    right = omega (arith, ints, source.right);
    top = omega (arith, ints, source.top, cell.min.top);
    bottom = omega (arith, ints, source.bottom, cell.min.bottom);
  };
  mp = nearer n m c.r.min (omega arith) cell.min;
}

widths : (cells : List Cell) (indices : List ℕ) (i : ℕ) → i < length indices
    → sum_by (λ (c : Cell). c.width) (from cells indices i) ≡ (cell cells (get_or indices i 0)).width + sum_by (λ (c : Cell). c.width) (from cells indices (i + 1))
widths cells indices i h = ap (sum_by (λ (c : Cell). c.width)) (from-step cells indices i h) ∙ sum_by-cons (λ (c : Cell). c.width) (cell cells (get_or indices i 0)) (from cells indices (i + 1))

further : (x : ℤ) (width rest all : ℕ) → all ≡ width + rest → (x +ℤ pos width) +ℤ pos rest ≡ x +ℤ pos all
further x width rest all e = omega (arith, ints)

no_further : (x : ℤ) (n : ℕ) → n ≡ 0 → x ≡ x +ℤ pos n
no_further x n e = omega (arith, ints)

pub moved_on : (cells : List Cell) (indices : List ℕ) (i : ℕ) (pen end : Point) → i < length indices
    → advanced pen (sum_by (λ (c : Cell). c.width) (from cells indices i)) ≡ end
    → advanced (advanced pen (cell cells (get_or indices i 0)).width) (sum_by (λ (c : Cell). c.width) (from cells indices (i + 1))) ≡ end
moved_on cells indices i pen end h e =
    same_point _ _ (further pen.x _ _ _ (widths cells indices i h)) refl ∙ e

pub arrived : (cells : List Cell) (indices : List ℕ) (i : ℕ) (pen end : Point) → length indices ≤ i
    → advanced pen (sum_by (λ (c : Cell). c.width) (from cells indices i)) ≡ end → pen ≡ end
arrived cells indices i pen end h e =
    same_point _ _ (no_further pen.x _ (ap (λ (ys : List ℕ). sum_by (λ (c : Cell). c.width) (map (cell cells) ys)) (drop_all i indices h))) refl ∙ e

pub next_laid : (ascent : ℕ) (cells : List Cell) (indices : List ℕ) (i : ℕ) (pen source : Point) (so_far whole : List Piece) (c : Cell) (grown : List Piece) (one : Piece) (pen' source' : Point)
    → i < length indices → c ≡ cell cells (get_or indices i 0) → grown ≡ so_far ++ one ∷ [] → one ≡ piece ascent pen source c
    → pen' ≡ advanced pen c.width → source' ≡ advanced source c.width
    → so_far ++ pieces ascent pen source (from cells indices i) ≡ whole → grown ++ pieces ascent pen' source' (from cells indices (i + 1)) ≡ whole
next_laid ascent cells indices i pen source so_far whole c grown one pen' source' h at grows is pen_is source_is e =
    rw (grows, is, pen_is, source_is, at) (one_more ascent cells indices i pen source so_far whole h e)

pub next_end : (cells : List Cell) (indices : List ℕ) (i : ℕ) (pen end : Point) (c : Cell) (pen' : Point) → i < length indices → c ≡ cell cells (get_or indices i 0) → pen' ≡ advanced pen c.width
    → advanced pen (sum_by (λ (c : Cell). c.width) (from cells indices i)) ≡ end → advanced pen' (sum_by (λ (c : Cell). c.width) (from cells indices (i + 1))) ≡ end
next_end cells indices i pen end c pen' h at pen_is e = rw (pen_is, at) (moved_on cells indices i pen end h e)

-- one of a string's characters is one of the font's
pub has_one : (font : Font) (indices : List ℕ) (i k : ℕ) → i < length indices → k ≡ get_or indices i 0 → list_all (has_index font) indices ≡ true → has_index font k ≡ true
has_one font indices i k h at all = ap (has_index font) at ∙ AllPass-from_list_all (has_index font) indices all i 0 h

-- and near, where they are
pub near_one : (n : ℕ) (font : Font) (index : ℕ) (c : Cell) → has_index font index ≡ true → c ≡ cell font.cells index → AreWithin n font.cells → IsRectNearBy n c.r
near_one n font index c has is near =
    let lt : index < length font.cells = omega (arith, ltb-true) in
    subst (λ (x : Cell). IsRectNearBy n x.r) (sym is) (near index empty_cell lt)

pub same_layout : (a b : Layout) → a.pieces ≡ b.pieces → a.end ≡ b.end → a ≡ b
same_layout a b pieces end = λ i. record { pieces = pieces i; end = end i }

pub refused_by : (font : Font) (b : Bool) (p sp : Point) (indices : List ℕ) → b ≡ list_all (has_index font) indices → b ≡ false → layout font p sp indices ≡ Err 15
unfolding layout
refused_by font b p sp indices told lacks = let e : list_all (has_index font) indices ≡ false = sym told ∙ lacks in rw e refl

pub laid_by : (font : Font) (b : Bool) (p sp : Point) (indices : List ℕ) (l : Layout) → b ≡ list_all (has_index font) indices → b ≡ true
    → l ≡ record { pieces = pieces font.ascent p sp (map (cell font.cells) indices); end = advanced p (sum_by (λ (c : Cell). c.width) (map (cell font.cells) indices)) }
    → layout font p sp indices ≡ Ok l
unfolding layout
laid_by font b p sp indices l told has_all is = let e : list_all (has_index font) indices ≡ true = sym told ∙ has_all in rw (e, is) refl
