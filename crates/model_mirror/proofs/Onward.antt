-- What was read of frames is read so where more stands behind them.
use Rattle.std.proofs.Common.{◌≡◌, ◌∙◌, ℕ, zero, suc, ◌+◌, ◌*◌, ◌<◌, ◌≤◌, ◌==◌, Bool, true, false, eqb, ltb, leb, codes, List, [], ◌∷◌, ◌++◌, length, take, drop, Option, Some, None, Ok, Err, refl, ap, arith}
use Rattle.std.specs.Prelude.{if◌then◌else◌}
use Rattle.std.specs.List.{prefix_len}
use Rattle.std.specs.Str.{bytes_eq}
use Rattle.std.proofs.lemmas.Bool.{cond-false, eqb-true, eqb-false, le-leb, leb-true, lt-ltb, ltb-true, ne_eqb}
use Rattle.std.proofs.lemmas.List.{drop-append-le, length-append, length-drop, take-append-le}
use Rattle.std.proofs.lemmas.List.Folds.{prefix_len-append}
use Rattle.r9_geom.specs.declared.Rect.{Rect}
use Rattle.r9_geom.specs.Geometry.{height}
use Rattle.model_text.specs.text.Outcome.{Outcome, ◌>>=◌, refuse_if, value_or_refuse}
use Rattle.model_pixel.specs.Channels.{depth}
use Rattle.model_pixel.specs.Rows.{row_bytes}
use Rattle.model_client.specs.mirror.Picture.{Picture, with_rows}
use Rattle.model_client.specs.mirror.Lines.{cell_in, frame_in, size_in, Cell}
use Rattle.model_client.specs.mirror.Frames.{cells, cells_on, frame_at, frames, line_at, sized_at, with_cell}
use Rattle.model_mirror.proofs.Numerals.{unlike}
use Rattle.model_mirror.proofs.Lines.{line_from, words}

-- ---- steps that were not refused

passed : {A B : Type 0} (o : Outcome A) (f : A → Outcome B) (y : B) → (o >>= f) ≡ Ok y → (x : A) × (o ≡ Ok x) × (f x ≡ Ok y)
passed (Ok x) f y h = (x, refl, h)
passed (Err n) f y h = absurd (cc h)

allowed : {A : Type 0} (b : Bool) (x y : A) (n : ℕ) → (if b then Ok x else Err n) ≡ Ok y → (b ≡ true) × (x ≡ y)
allowed true x y n h = (refl, cc)
allowed false x y n h = absurd (cc h)

abbrev ok : {A : Type 0} → A → Outcome A
ok x = Ok x

same_ok : {A : Type 0} (x y : A) → ok x ≡ ok y → x ≡ y
same_ok x y h = cc

-- a place further on in a text
abbrev IsFurther : (front : List ℕ) (at next : ℕ) → Type 0
IsFurther front at next = (at < next) × (next ≤ length front)

-- a place that is not before another
abbrev IsBehind : (front : List ℕ) (at next : ℕ) → Type 0
IsBehind front at next = (at ≤ next) × (next ≤ length front)

-- ---- lines and cells

line_on : (front more : List ℕ) (at : ℕ) (line : List (List ℕ) × ℕ) → line_at front at ≡ Ok line → (line_at (front ++ more) at ≡ Ok line) × IsFurther front at line.1
line_on front more at line h =
    let rest = drop at front in
    let len = prefix_len (unlike 10) rest in
    let total = length (front ++ more) in
    let found = allowed (ltb (at + len) (length front)) (words (take len rest), at + len + 1) line at h in
    let low : at + len < length front = ltb-true (at + len) (length front) found.0 in
    let few : len < length rest = omega (arith, length-drop at front, low) in
    let stands : drop at (front ++ more) ≡ rest ++ more = drop-append-le at front more (omega (arith, low)) in
    let same : prefix_len (unlike 10) (rest ++ more) ≡ len =
    prefix_len-append (unlike 10) rest more ∙ cond-false (eqb len (length rest)) (length rest + prefix_len (unlike 10) more) len (ne_eqb len (length rest) (λ e. omega (arith, e, few))) in
    let place : at + len + 1 ≡ line.1 = ap (λ (l : List (List ℕ) × ℕ). l.1) found.1 in (
      ap (λ (bytes : List ℕ). line_from at total bytes (prefix_len (unlike 10) bytes)) stands
          ∙ ap (line_from at total (rest ++ more)) same
          ∙ ap (λ (b : Bool). if b then Ok (words (take len (rest ++ more)), at + len + 1) else Err at) (lt-ltb (at + len) total (omega (arith, low, length-append front more)))
          ∙ ap (λ (bytes : List ℕ). Ok (words bytes, at + len + 1)) (take-append-le len rest more (omega (arith, few)))
          ∙ ap (λ (l : List (List ℕ) × ℕ). Ok l) found.1,
      (omega (arith, place), omega (arith, place, low)),
    )

abbrev cell_from : (chan line at total len : ℕ) → List ℕ → Picture → Rect → Bool → Outcome (Picture × ℕ)
cell_from chan line at total len rest picture r fits = if fits then Ok (with_rows chan r (take len rest) picture, at + len) else Err line

cell_on : (chan : ℕ) (front more : List ℕ) (line at : ℕ) (picture : Picture) (r : Rect) (next : Picture × ℕ) → with_cell chan front line at picture r ≡ Ok next
    → (with_cell chan (front ++ more) line at picture r ≡ Ok next) × IsBehind front at next.1
cell_on chan front more line at picture r next h =
    let len = row_bytes r (depth chan) * height r in
    let rest = drop at front in
    let found = allowed (leb (at + len) (length front)) (with_rows chan r (take len rest) picture, at + len) next line h in
    let low : at + len ≤ length front = leb-true (at + len) (length front) found.0 in
    let stands : drop at (front ++ more) ≡ rest ++ more = drop-append-le at front more (omega (arith, low)) in
    let cut : take len (drop at (front ++ more)) ≡ take len rest = ap (take len) stands ∙ take-append-le len rest more (omega (arith, low, length-drop at front)) in
    let place : at + len ≡ next.1 = ap (λ (n : Picture × ℕ). n.1) found.1 in (
      ap (λ (fits : Bool). if fits then Ok (with_rows chan r (take len (drop at (front ++ more))) picture, at + len) else Err line) (le-leb (at + len) (length (front ++ more)) (omega (arith, low, length-append front more)))
          ∙ ap (λ (rows : List ℕ). Ok (with_rows chan r rows picture, at + len)) cut
          ∙ ap (λ (n : Picture × ℕ). Ok n) found.1,
      (omega (arith, place), omega (arith, place, low)),
    )

-- what follows the line of a cell, and what follows its number
abbrev pub past_order : (n chan at start : ℕ) → List ℕ → Picture → Cell → Bool → Outcome (Picture × ℕ)
past_order n chan at start text picture cell early =
    refuse_if early at >>= λ _. with_cell chan text at start picture cell.r >>= λ next. cells n chan (cell.order + 1) next.0 text next.1

abbrev pub past_cell : (n chan first at start : ℕ) → List ℕ → Picture → Option Cell → Outcome (Picture × ℕ)
past_cell n chan first at start text picture cell = value_or_refuse cell at >>= λ cell. past_order n chan at start text picture cell (ltb cell.order first)

abbrev pub past_line : (n chan first at : ℕ) → List ℕ → Picture → Outcome (List (List ℕ) × ℕ) → Outcome (Picture × ℕ)
past_line n chan first at text picture line = line >>= λ line. past_cell n chan first at line.1 text picture (cell_in picture line.0)

cells_same : (n chan first : ℕ) (picture : Picture) (front more : List ℕ) (at : ℕ) (next : Picture × ℕ) → at ≤ length front → cells n chan first picture front at ≡ Ok next
    → (cells n chan first picture (front ++ more) at ≡ Ok next) × IsBehind front at next.1
cells_same zero chan first picture front more at next within h =
    let place : at ≡ next.1 = ap (λ (n : Picture × ℕ). n.1) (same_ok (picture, at) next h) in
    (h, (omega (arith, place), omega (arith, place, within)))
cells_same (suc n) chan first picture front more at next within h =
    let line = passed (line_at front at) (λ (line : List (List ℕ) × ℕ). past_cell n chan first at line.1 front picture (cell_in picture line.0)) next h in
    let cell = passed (value_or_refuse (cell_in picture line.0.0) at) (λ (cell : Cell). past_order n chan at line.0.1 front picture cell (ltb cell.order first)) next line.2 in
    let order = passed (refuse_if (ltb cell.0.order first) at) (λ _. with_cell chan front at line.0.1 picture cell.0.r >>= λ next. cells n chan (cell.0.order + 1) next.0 front next.1) next cell.2 in
    let rows = passed (with_cell chan front at line.0.1 picture cell.0.r) (λ (next : Picture × ℕ). cells n chan (cell.0.order + 1) next.0 front next.1) next order.2 in
    let on_line = line_on front more at line.0 line.1 in
    let on_cell = cell_on chan front more at line.0.1 picture cell.0.r rows.0 rows.1 in
    let on_rest = cells_same n chan (cell.0.order + 1) rows.0.0 front more rows.0.1 next on_cell.1.1 rows.2 in (
      ap (past_line n chan first at (front ++ more) picture) on_line.0
          ∙ ap (λ (o : Outcome Cell). o >>= λ (cell : Cell). past_order n chan at line.0.1 (front ++ more) picture cell (ltb cell.order first)) cell.1
          ∙ ap (λ (o : Outcome (Unit {0})). o >>= λ _. with_cell chan (front ++ more) at line.0.1 picture cell.0.r >>= λ next. cells n chan (cell.0.order + 1) next.0 (front ++ more) next.1) order.1
          ∙ ap (λ (o : Outcome (Picture × ℕ)). o >>= λ next. cells n chan (cell.0.order + 1) next.0 (front ++ more) next.1) on_cell.0
          ∙ on_rest.0,
      (omega (arith, on_line.1.0, on_cell.1.0, on_rest.1.0), on_rest.1.1),
    )

-- ---- frames

-- whether the line of a size stands at a place
abbrev pub has_size : List ℕ → ℕ → Bool
has_size text at = bytes_eq (take 2 (drop at text)) (codes "Z ")

-- behind a text there is none where a frame begins there
no_size_more : (rest more : List ℕ) → bytes_eq (take 2 (rest ++ 70 ∷ more)) (codes "Z ") ≡ bytes_eq (take 2 rest) (codes "Z ")
no_size_more [] more = refl
no_size_more (b ∷ []) more = refl
no_size_more (b ∷ c ∷ rest) more = refl

abbrev pub sized_by : Bool → (needed : Bool) → Option Picture → List ℕ → ℕ → Outcome (Option Picture × ℕ)
sized_by has needed picture text at =
    if has
    then (line_at text at >>= λ line. value_or_refuse (size_in line.0) at >>= λ blank. Ok (Some blank, line.1))
    else (refuse_if needed at >>= λ _. Ok (picture, at))

sized_more : (has needed : Bool) (picture : Option Picture) (front more : List ℕ) (at : ℕ) (next : Option Picture × ℕ) → at ≤ length front → sized_by has needed picture front at ≡ Ok next
    → (sized_by has needed picture (front ++ more) at ≡ Ok next) × IsBehind front at next.1
sized_more true needed picture front more at next within h =
    let line = passed (line_at front at) (λ (line : List (List ℕ) × ℕ). value_or_refuse (size_in line.0) at >>= λ (blank : Picture). ok (Some blank, line.1)) next h in
    let blank = passed (value_or_refuse (size_in line.0.0) at) (λ (blank : Picture). ok (Some blank, line.0.1)) next line.2 in
    let on_line = line_on front more at line.0 line.1 in
    let place : line.0.1 ≡ next.1 = ap (λ (n : Option Picture × ℕ). n.1) (same_ok (Some blank.0, line.0.1) next blank.2) in (
      ap (λ (o : Outcome (List (List ℕ) × ℕ)). o >>= λ line. value_or_refuse (size_in line.0) at >>= λ blank. Ok (Some blank, line.1)) on_line.0 ∙ line.2,
      (omega (arith, place, on_line.1.0), omega (arith, place, on_line.1.1)),
    )
sized_more false needed picture front more at next within h =
    let here = passed (refuse_if needed at) (λ _. ok (picture, at)) next h in
    let place : at ≡ next.1 = ap (λ (n : Option Picture × ℕ). n.1) (same_ok (picture, at) next here.2) in
    (h, (omega (arith, place), omega (arith, place, within)))

sized_on : (needed : Bool) (picture : Option Picture) (front more : List ℕ) (at : ℕ) (next : Option Picture × ℕ) → at ≤ length front → sized_at needed picture front at ≡ Ok next
    → (sized_at needed picture (front ++ 70 ∷ more) at ≡ Ok next) × IsBehind front at next.1
sized_on needed picture front more at next within h =
    let same : has_size (front ++ 70 ∷ more) at ≡ has_size front at =
    ap (λ (bytes : List ℕ). bytes_eq (take 2 bytes) (codes "Z ")) (drop-append-le at front (70 ∷ more) within) ∙ no_size_more (drop at front) more in
    let on = sized_more (has_size front at) needed picture front (70 ∷ more) at next within h in
    (ap (λ (has : Bool). sized_by has needed picture (front ++ 70 ∷ more) at) same ∙ on.0, on.1)

cells_on_same : (n chan : ℕ) (picture : Option Picture) (front more : List ℕ) (at : ℕ) (next : Option Picture × ℕ) → at ≤ length front → cells_on n chan picture front at ≡ Ok next
    → (cells_on n chan picture (front ++ more) at ≡ Ok next) × IsBehind front at next.1
cells_on_same n chan (Some picture) front more at next within h =
    let done = passed (cells n chan 0 picture front at) (λ (next : Picture × ℕ). ok (Some next.0, next.1)) next h in
    let on = cells_same n chan 0 picture front more at done.0 within done.1 in
    let place : done.0.1 ≡ next.1 = ap (λ (n : Option Picture × ℕ). n.1) (same_ok (Some done.0.0, done.0.1) next done.2) in (
      ap (λ (o : Outcome (Picture × ℕ)). o >>= λ next. Ok (Some next.0, next.1)) on.0 ∙ done.2,
      (omega (arith, place, on.1.0), omega (arith, place, on.1.1)),
    )
cells_on_same zero chan None front more at next within h =
    let place : at ≡ next.1 = ap (λ (n : Option Picture × ℕ). n.1) (same_ok (None, at) next h) in
    (h, (omega (arith, place), omega (arith, place, within)))
cells_on_same (suc n) chan None front more at next within h = absurd (cc h)

-- what follows the line of a frame
abbrev pub past_numbers : (chan : ℕ) → Option Picture → List ℕ → ℕ → ℕ × ℕ → Outcome (Option Picture × ℕ)
past_numbers chan picture text at frame = sized_at (frame.0 == 0) picture text at >>= λ sized. cells_on frame.1 chan sized.0 text sized.1

abbrev pub past_frame : (chan : ℕ) → Option Picture → List ℕ → (at start : ℕ) → Option (ℕ × ℕ) → Outcome (Option Picture × ℕ)
past_frame chan picture text at start numbers = value_or_refuse numbers at >>= λ frame. past_numbers chan picture text start frame

frame_on : (chan : ℕ) (picture : Option Picture) (front more : List ℕ) (at : ℕ) (next : Option Picture × ℕ) → frame_at chan picture front at ≡ Ok next
    → (frame_at chan picture (front ++ 70 ∷ more) at ≡ Ok next) × IsFurther front at next.1
frame_on chan picture front more at next h =
    let line = passed (line_at front at) (λ (line : List (List ℕ) × ℕ). past_frame chan picture front at line.1 (frame_in line.0)) next h in
    let frame = passed (value_or_refuse (frame_in line.0.0) at) (λ (frame : ℕ × ℕ). past_numbers chan picture front line.0.1 frame) next line.2 in
    let sized = passed (sized_at (frame.0.0 == 0) picture front line.0.1) (λ (sized : Option Picture × ℕ). cells_on frame.0.1 chan sized.0 front sized.1) next frame.2 in
    let on_line = line_on front (70 ∷ more) at line.0 line.1 in
    let on_size = sized_on (frame.0.0 == 0) picture front more line.0.1 sized.0 on_line.1.1 sized.1 in
    let on_cells = cells_on_same frame.0.1 chan sized.0.0 front (70 ∷ more) sized.0.1 next on_size.1.1 sized.2 in (
      ap (λ (o : Outcome (List (List ℕ) × ℕ)). o >>= λ line. past_frame chan picture (front ++ 70 ∷ more) at line.1 (frame_in line.0)) on_line.0
          ∙ ap (λ (o : Outcome (ℕ × ℕ)). o >>= λ frame. past_numbers chan picture (front ++ 70 ∷ more) line.0.1 frame) frame.1
          ∙ ap (λ (o : Outcome (Option Picture × ℕ)). o >>= λ sized. cells_on frame.0.1 chan sized.0 (front ++ 70 ∷ more) sized.1) on_size.0
          ∙ on_cells.0,
      (omega (arith, on_line.1.0, on_size.1.0, on_cells.1.0), on_cells.1.1),
    )

-- frames from a place on, of which the test of the end has been made
abbrev frames_by : Bool → (most chan : ℕ) → Option Picture → List ℕ → ℕ → Outcome (Option Picture)
frames_by ended most chan picture text at = if ended then Ok picture else (frame_at chan picture text at >>= λ next. frames most chan next.0 text next.1)

-- the frames that are read, and enough of those that may follow
abbrev pub ReadsOn : (most spare chan : ℕ) → (picture after : Option Picture) → (front more : List ℕ) → (at : ℕ) → Type 0
ReadsOn most spare chan picture after front more at =
    (left : ℕ) × (spare ≤ left) × (frames (most + spare) chan picture (front ++ 70 ∷ more) at ≡ frames left chan after (front ++ 70 ∷ more) (length front))

abbrev AllReadOn : (most spare chan : ℕ) → (after : Option Picture) → (front more : List ℕ) → Type 0
AllReadOn most spare chan after front more =
    (picture : Option Picture) (at : ℕ) → at ≤ length front → length front ≤ at + most → frames most chan picture front at ≡ Ok after → ReadsOn most spare chan picture after front more at

one_more : (ended : Bool) (most spare chan : ℕ) (picture after : Option Picture) (front more : List ℕ) (at : ℕ) → (at == length front) ≡ ended → at ≤ length front → length front ≤ at + suc most
    → frames_by ended most chan picture front at ≡ Ok after → AllReadOn most spare chan after front more → ReadsOn (suc most) spare chan picture after front more at
one_more true most spare chan picture after front more at e within enough h others =
    let text = front ++ 70 ∷ more in (
      suc most + spare,
      omega arith,
      ap (λ (p : Option Picture). frames (suc most + spare) chan p text at) (same_ok picture after h)
          ∙ ap (frames (suc most + spare) chan after text) (eqb-true at (length front) e),
    )
one_more false most spare chan picture after front more at e within enough h others =
    let text = front ++ 70 ∷ more in
    let frame = passed (frame_at chan picture front at) (λ (next : Option Picture × ℕ). frames most chan next.0 front next.1) after h in
    let on = frame_on chan picture front more at frame.0 frame.1 in
    let rest = others frame.0.0 frame.0.1 on.1.1 (omega (arith, enough, on.1.0)) frame.2 in
    let one : suc most + spare ≡ suc (most + spare) = omega arith in
    let going : (at == length text) ≡ false = ne_eqb at (length text) (λ end. eqb-false at (length front) e (omega (arith, end, within, length-append front (70 ∷ more)))) in (
      rest.0,
      rest.1,
      ap (λ (n : ℕ). frames n chan picture text at) one
          ∙ ap (λ (ended : Bool). frames_by ended (most + spare) chan picture text at) going
          ∙ ap (λ (o : Outcome (Option Picture × ℕ)). o >>= λ next. frames (most + spare) chan next.0 text next.1) on.0
          ∙ rest.2,
    )

pub frames_on : (most spare chan : ℕ) (after : Option Picture) (front more : List ℕ) → AllReadOn most spare chan after front more
frames_on zero spare chan after front more picture at within enough h =
    let text = front ++ 70 ∷ more in
    let end : at ≡ length front = omega (arith, within, enough) in
    let none : zero + spare ≡ spare = omega arith in (
      spare,
      omega arith,
      ap (λ (n : ℕ). frames n chan picture text at) none
          ∙ ap (λ (p : Option Picture). frames spare chan p text at) (same_ok picture after h)
          ∙ ap (frames spare chan after text) end,
    )
frames_on (suc most) spare chan after front more picture at within enough h =
    one_more (at == length front) most spare chan picture after front more at refl within enough h (frames_on most spare chan after front more)
