use borrow.Rule.Slice.PartMut.{put_mid}
use Rattle.std.proofs.Common.{true, ◌+◌, ◌-◌, ◌*◌, ◌/◌, ◌^◌, subst, length, take, drop, arith, refl, ◌≡◌, ◌<◌, ◌≤◌, ap, ◌∙◌, sym, ℕ, ⊎_elim, get_or}
use Rattle.std.proofs.lemmas.Bool.{cases_lt}
use Rattle.std.proofs.lemmas.Nat.{le-div, mul-le, row-Below, row_below_turned}
use Rattle.std.proofs.lemmas.List.FromFn.{fill_by_all}
use Rattle.r9_geom.specs.Geometry.{height}
use Rattle.model_pixel.specs.Channels.{colour_of, depth, is_depth, pack}
use Rattle.model_pixel.specs.Rows.{row_bytes}
use Rattle.model_client.specs.cursor.Cursor.{black, white}
use Rattle.model_client.specs.cursor.Rows.{over_byte}
use Rattle.r9_plane.proofs.Rectangles.{get_or-part, length-part}
use Rattle.r9_plane.proofs.RunLemmas.{stretch_put}
use Rattle.r9_cursor.proofs.Bytes.{row_over, row_same}
use Rattle.r9_cursor.proofs.Shown.{shown_is}
use Rattle.r9_cursor.proofs.over.Goals.{After-loop-row}
use Rattle.r9_cursor.proofs.over.Goals as goal

some_line : (line count j : ℕ) → j < line * count → 0 < line
some_line line count j h =
    ⊎_elim
    (λ (some : 0 < line). some)
    (λ (none : line ≤ 0).
    let zero_line : line ≡ 0 = omega (arith, none) in
    let no_bytes : line * count ≡ 0 = ap (λ n. n * count) zero_line ∙ omega arith in
    absurd (omega (arith, h, no_bytes)))
    (cases_lt 0 line)

pub loop-row-init : goal.loop-row-init
loop-row-init c =
    let cursor = c.new-cursor.result in
    let line = c.row_bytes-line_len.result in
    let line_is : line ≡ row_bytes c.args.r (depth c.args.chan) = c.row_bytes-line_len.ensures.value ∙ ap (row_bytes c.args.r) c.depth.ensures.value in
    let first = c.rows-first.result.0 in
    record {
      done = λ j h.
          row_same c.args.r cursor.r c.args.chan cursor.chan c.args.at cursor.at cursor.depth line j c.args.rows.now c.new-cursor.ensures.rect c.new-cursor.ensures.chan c.new-cursor.ensures.at cursor.depth_is line_is cursor.lawful (λ i. (c.type_inv.rows i).fits)
          (λ n. c.rows-first.ensures.above (j / line) n (row_below_turned j line first line h (omega arith)).1);
      rest = λ j h. refl;
      bytes = λ j. (c.type_inv.rows j).fits;
    }

-- the rows from one of them on
rows_left : (row count line size : ℕ) → row < count → size ≡ line * count → row * line + line ≤ size
rows_left row count line size below is = omega (arith, is, mul-le (row + 1) line count line (omega (arith, below)) (omega arith))

pub over_row-requires-clause-line : goal.over_row-requires-clause-line
over_row-requires-clause-line c =
    let cursor = c.new-cursor.result in
    let line = c.row_bytes-line_len.result in
    let line_is : line ≡ row_bytes c.args.r (depth c.args.chan) = c.row_bytes-line_len.ensures.value ∙ ap (row_bytes c.args.r) c.depth.ensures.value in
    let row = c.loop-row.row in
    let rows = c.loop-row.rows in
    let start = row * line in
    let below : row < height c.args.r = omega (arith, c.loop-row-test.true, c.rows-first.ensures.end, ap height c.new-cursor.ensures.rect) in
    let whole : length rows ≡ line * height c.args.r = c.loop-row.auto.rows ∙ c.requires.rows ∙ ap (λ n. n * height c.args.r) (sym line_is) in
    let left : start + line ≤ length rows = rows_left row (height c.args.r) line (length rows) below whole in
    length-part rows start (start + line) line refl left
    ∙ line_is ∙ (λ i. row_bytes (sym c.new-cursor.ensures.rect i) (depth (sym c.new-cursor.ensures.chan i))) ∙ ap (row_bytes cursor.r) (sym cursor.depth_is)

pub loop-row-preserved : goal.loop-row-preserved
loop-row-preserved c =
    let cursor = c.new-cursor.result in
    let line = c.row_bytes-line_len.result in
    let line_is : line ≡ row_bytes c.args.r (depth c.args.chan) = c.row_bytes-line_len.ensures.value ∙ ap (row_bytes c.args.r) c.depth.ensures.value in
    let row = c.loop-row.row in
    let rows = c.loop-row.rows in
    let start = row * line in
    let below : row < height c.args.r = omega (arith, c.loop-row-test.true, c.rows-first.ensures.end, ap height c.new-cursor.ensures.rect) in
    let whole : length rows ≡ line * height c.args.r = c.loop-row.auto.rows ∙ c.requires.rows ∙ ap (λ n. n * height c.args.r) (sym line_is) in
    let left : start + line ≤ length rows = rows_left row (height c.args.r) line (length rows) below whole in
    let len = start + line - start in
    let same : len ≡ line = omega arith in
    let size : length (take len (drop start rows)) ≡ line = length-part rows start (start + line) line refl left in
    let s = stretch_put rows c.over_row.new.line start len (c.over_row.auto.line ∙ size ∙ sym same) (omega (arith, left, same)) in
    record {
      done = λ j h.
          ⊎_elim
          (λ (e : j < start). s.before j e ∙ c.loop-row.invariant.done j e)
          (λ (e : start ≤ j).
          let i = j - start in
          let within : i < line = omega (arith, e, h) in
          let place : start + i ≡ j = omega (arith, e) in
          let first : 0 + i ≡ i = omega arith in
          let old : get_or (take len (drop start rows)) i 0 ≡ get_or c.args.rows.now (start + i) 0 =
          get_or-part rows start (start + line) line i refl within ∙ c.loop-row.invariant.rest (start + i) (omega arith) in
          subst (λ (n : ℕ). get_or (put_mid start len rows c.over_row.new.line) n 0 ≡ over_byte c.args.r c.args.chan c.args.at c.args.rows.now n) place
          (s.written i (omega (arith, within, same))
          ∙ ap (λ n. get_or c.over_row.new.line n 0) first
          ∙ c.over_row.ensures i (omega (arith, within, size))
          ∙ row_over c.args.r cursor.r c.args.chan cursor.chan c.args.at cursor.at cursor.depth line row i (get_or (take len (drop start rows)) i 0) c.args.rows.now c.new-cursor.ensures.rect c.new-cursor.ensures.chan c.new-cursor.ensures.at cursor.depth_is line_is within old cursor.lawful c.loop-row.invariant.bytes))
          (cases_lt j start);
      rest = λ j h. s.after j (omega (arith, h, same)) ∙ c.loop-row.invariant.rest j (omega (arith, h));
      bytes = c.loop-row.invariant.bytes;
    }

-- each byte, once the cursor's rows are gone over
all_done : (c : After-loop-row) (k : ℕ) → k < length c.args.rows.now → get_or c.loop-row.rows k 0 ≡ over_byte c.args.r c.args.chan c.args.at c.args.rows.now k
all_done c k within =
    let cursor = c.new-cursor.result in
    let line = c.row_bytes-line_len.result in
    let line_is : line ≡ row_bytes c.args.r (depth c.args.chan) = c.row_bytes-line_len.ensures.value ∙ ap (row_bytes c.args.r) c.depth.ensures.value in
    let row = c.loop-row.row in
    let whole : length c.args.rows.now ≡ line * height c.args.r = c.requires.rows ∙ ap (λ n. n * height c.args.r) (sym line_is) in
    let inner : k < line * height c.args.r = omega (arith, within, whole) in
    ⊎_elim
    (λ (h : k < row * line). c.loop-row.invariant.done k h)
    (λ (h : row * line ≤ k).
    let below : row ≤ k / line = le-div row k line (some_line line (height c.args.r) k inner) h in
    let last : k / line < height c.args.r = (row-Below k line line (height c.args.r) inner (omega arith)).1 in
    c.loop-row.invariant.rest k h
    ∙ row_same c.args.r cursor.r c.args.chan cursor.chan c.args.at cursor.at cursor.depth line k c.args.rows.now c.new-cursor.ensures.rect c.new-cursor.ensures.chan c.new-cursor.ensures.at cursor.depth_is line_is cursor.lawful c.loop-row.invariant.bytes
    (λ n. c.rows-first.ensures.below (k / line) n (omega (arith, below, c.loop-row-test.false)) (omega (arith, last, ap height c.new-cursor.ensures.rect))))
    (cases_lt k (row * line))

pub returns-clause-rows : goal.returns-clause-rows
returns-clause-rows c =
    fill_by_all (over_byte c.args.r c.args.chan c.args.at c.args.rows.now) c.loop-row.rows (length c.args.rows.now) 0
    (omega (arith, c.loop-row.auto.rows))
    (all_done c)

pub returns-clause-pixels : goal.returns-clause-pixels
returns-clause-pixels c = λ p inside.
    let chan = c.args.chan in
    let cursor = c.new-cursor.result in
    let chans : cursor.chan ≡ chan = c.new-cursor.ensures.chan in
    let bits : cursor.depth ≡ depth chan = cursor.depth_is ∙ ap depth chans in
    let is : is_depth (depth chan) ≡ true = subst (λ (n : ℕ). is_depth n ≡ true) bits cursor.lawful in
    let dark : pack chan (colour_of black) < 2 ^ depth chan =
    subst (λ (n : ℕ). n < 2 ^ depth chan) (cursor.black_is ∙ ap (λ (n : ℕ). pack n (colour_of black)) chans) (subst (λ (n : ℕ). cursor.black < 2 ^ n) bits cursor.black_fits) in
    let light : pack chan (colour_of white) < 2 ^ depth chan =
    subst (λ (n : ℕ). n < 2 ^ depth chan) (cursor.white_is ∙ ap (λ (n : ℕ). pack n (colour_of white)) chans) (subst (λ (n : ℕ). cursor.white < 2 ^ n) bits cursor.white_fits) in
    shown_is c.args.r chan c.args.at p c.args.rows.now c.loop-row.rows c.requires.near c.requires.ordered is c.requires.rows c.loop-row.invariant.bytes dark light
    (all_done c)
    inside
