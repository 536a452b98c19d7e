-- What a step of reading tells of the outcome.
use Rattle.std.proofs.Common.{◌≡◌, ℕ, zero, suc, ◌+◌, ◌-◌, ◌<◌, ◌≤◌, ◌==◌, Bool, false, List, length, refl, sym, ap, ◌∙◌, arith, Option, Some, None}
use Rattle.std.specs.Prelude.{Ok, Err, if◌then◌else◌, nat_lt, take, drop, ◌*◌}
use Rattle.std.specs.Option.{option_map, option_or}
use Rattle.std.proofs.lemmas.Bool.{eq-eqb, ne_eqb, cond-true, cond-false, le-ltb, le-leb}
use Rattle.std.proofs.lemmas.Option.{none-some, same_Some}
use Rattle.model_text.specs.text.Outcome.{Outcome, ◌>>=◌, refuse_if, value_or_refuse}
use Rattle.model_client.specs.mirror.Picture.{Picture, with_rows}
use Rattle.model_client.specs.mirror.Lines.{Cell, cell_in}
use Rattle.r9_geom.specs.Geometry.{height}
use Rattle.model_pixel.specs.Channels.{depth}
use Rattle.model_pixel.specs.Rows.{row_bytes}
use Rattle.model_client.specs.mirror.Frames.{cells, cells_on, frame_at, frames, line_at, with_cell}
use Rattle.r9_mirror.specs.declared.lines.Size.{Size}
use Rattle.r9_mirror.specs.declared.place.Place.{Place}
use Rattle.r9_mirror.specs.Sizes.{size_of}
use Rattle.r9_mirror.specs.Left.{cells_left, or_blank, Leaves}

-- no cell is left
done : (chan : ℕ) (place : Place) (picture : Option Picture) (text : List ℕ) → place.left ≡ 0 → cells_left chan place picture text ≡ Ok (picture, place.at)
done chan place (Some picture) text none =
    ap (λ n. cells n chan place.first picture text place.at >>= λ next. Ok (Some next.0, next.1)) none
done chan place None text none = ap (λ n. if n == 0 then Ok (None, place.at) else Err place.at) none

pub cells_on_is : (chan count at : ℕ) (size : Option Size) (picture : Option Picture) (text : List ℕ)
    → cells_on count chan picture text at ≡ cells_left chan (record { at = at; left = count; first = 0; size = size }) picture text
cells_on_is chan count at size (Some picture) text = refl
cells_on_is chan zero at size None text = refl
cells_on_is chan (suc n) at size None text = sym (cond-false (suc n == 0) _ _ (ne_eqb (suc n) 0 (λ e. omega (arith, e))))

-- frames from a place before the end
next_frame : (most chan at : ℕ) (picture : Option Picture) (text : List ℕ) → length text ≤ at + most → at < length text
    → frames most chan picture text at ≡ (frame_at chan picture text at >>= λ next. frames (most - 1) chan next.0 text next.1)
next_frame zero chan at picture text enough within = absurd (omega (arith, enough, within))
next_frame (suc most) chan at picture text enough within =
    let less : suc most - 1 ≡ most = omega arith in
    rw less (cond-false (at == length text) _ _ (ne_eqb at (length text) (λ e. omega (arith, e, within))))

pub ends : (chan : ℕ) (text : List ℕ) (place : Place) (picture : Option Picture) (outcome : Outcome (Option Picture))
    → place.left ≡ 0 → place.at ≡ length text → Leaves chan text place picture outcome → outcome ≡ Ok picture
ends chan text place picture outcome none end l =
    sym l.left ∙ ap (λ o. o >>= λ next. frames l.most chan next.0 text next.1) (done chan place picture text none) ∙ stops l.most
  where
    stops : (most : ℕ) → frames most chan picture text place.at ≡ Ok picture
    stops zero = refl
    stops (suc most) = cond-true (place.at == length text) _ _ (eq-eqb place.at (length text) end)

abbrev behind : (chan : ℕ) → List ℕ → Place → Option Picture → (most : ℕ) → Outcome (Option Picture)
behind chan text place picture most = frame_at chan picture text place.at >>= λ next. frames (most - 1) chan next.0 text next.1

begun : (chan : ℕ) (text : List ℕ) (place : Place) (picture : Option Picture) (outcome : Outcome (Option Picture))
    → place.left ≡ 0 → place.at < length text → (l : Leaves chan text place picture outcome) → behind chan text place picture l.most ≡ outcome
begun chan text place picture outcome none within l =
    sym (next_frame l.most chan place.at picture text l.enough within)
    ∙ ap (λ o. o >>= λ next. frames l.most chan next.0 text next.1) (sym (done chan place picture text none)) ∙ l.left

pub front_leads : (chan : ℕ) (text : List ℕ) (place next : Place) (picture after : Option Picture) (outcome : Outcome (Option Picture))
    → place.left ≡ 0 → place.at < length text → place.at < next.at → option_map size_of after ≡ next.size
    → frame_at chan picture text place.at ≡ cells_left chan next after text → Leaves chan text place picture outcome → Leaves chan text next after outcome
front_leads chan text place next picture after outcome none within further size is l =
    record {
      size = size;
      most = l.most - 1;
      enough = omega (arith, l.enough, within, further);
      left = ap (λ o. o >>= λ next. frames (l.most - 1) chan next.0 text next.1) (sym is) ∙ begun chan text place picture outcome none within l;
    }

pub front_refused : (chan : ℕ) (text : List ℕ) (place : Place) (at : ℕ) (picture : Option Picture) (outcome : Outcome (Option Picture))
    → place.left ≡ 0 → place.at < length text → frame_at chan picture text place.at ≡ Err at → Leaves chan text place picture outcome → outcome ≡ Err at
front_refused chan text place at picture outcome none within is l =
    sym (begun chan text place picture outcome none within l) ∙ ap (λ o. o >>= λ next. frames (l.most - 1) chan next.0 text next.1) is

-- what stands behind cells
abbrev onto : (most chan : ℕ) → List ℕ → Outcome (Picture × ℕ) → Outcome (Option Picture)
onto most chan text o = frames_from (whole o)
  where
    whole : Outcome (Picture × ℕ) → Outcome (Option Picture × ℕ)
    whole p = p >>= λ next. Ok (Some next.0, next.1)

    frames_from : Outcome (Option Picture × ℕ) → Outcome (Option Picture)
    frames_from p = p >>= λ next. frames most chan next.0 text next.1

-- a cell, where there is a picture
pub cell_leads : (chan n order at : ℕ) (text : List ℕ) (place : Place) (picture after : Picture) (outcome : Outcome (Option Picture))
    → place.left ≡ suc n → place.at < at → size_of after ≡ size_of picture
    → cells (suc n) chan place.first picture text place.at ≡ cells n chan order after text at
    → Leaves chan text place (Some picture) outcome → Leaves chan text (record { at = at; left = n; first = order; size = place.size }) (Some after) outcome
cell_leads chan n order at text place picture after outcome left further size is l =
    record {
      size = ap (λ s. Some s) size ∙ l.size;
      most = l.most;
      enough = omega (arith, l.enough, further);
      left =
          ap (onto l.most chan text)
          (sym is ∙ sym (ap (λ k. cells k chan place.first picture text place.at) left))
          ∙ l.left;
    }

pub cell_refused : (chan n at : ℕ) (text : List ℕ) (place : Place) (picture : Picture) (outcome : Outcome (Option Picture))
    → place.left ≡ suc n → cells (suc n) chan place.first picture text place.at ≡ Err at
    → Leaves chan text place (Some picture) outcome → outcome ≡ Err at
cell_refused chan n at text place picture outcome left is l =
    sym l.left
    ∙ ap (onto l.most chan text)
    (ap (λ k. cells k chan place.first picture text place.at) left ∙ is)

-- a cell before any picture
pub no_picture : (chan : ℕ) (text : List ℕ) (place : Place) (picture : Option Picture) (outcome : Outcome (Option Picture))
    → 0 < place.left → place.size ≡ None → Leaves chan text place picture outcome → outcome ≡ Err place.at
no_picture chan text place None outcome some none l =
    sym l.left
    ∙ ap (λ o. o >>= λ next. frames l.most chan next.0 text next.1) (cond-false (place.left == 0) _ _ (ne_eqb place.left 0 (λ e. omega (arith, e, some))))
no_picture chan text place (Some picture) outcome some none l = absurd (none-some _ (sym (l.size ∙ none)))

-- the picture of a size
pub with_picture : {G : Type 0} (size : Size) (picture : Option Picture) → option_map size_of picture ≡ Some size → ((p : Picture) → size_of p ≡ size → picture ≡ Some p → G) → G
with_picture size None e read = absurd (none-some _ e)
with_picture size (Some p) e read = read p (same_Some _ _ e) refl

pub size_after : (blank : Option Size) (picture : Option Picture) (size : Option Size) → option_map size_of picture ≡ size → option_map size_of (or_blank blank picture) ≡ option_or blank size
size_after None picture size e = e
size_after (Some s) picture size e = refl

-- one cell more, from its line on
abbrev past_order : (n chan at start : ℕ) → List ℕ → Picture → Cell → Bool → Outcome (Picture × ℕ)
past_order n chan at start text picture cell early =
    refuse_if early at >>= λ _. with_cell chan text at start picture cell.r >>= λ next. cells n chan (cell.order + 1) next.0 text next.1

abbrev past_cell : (n chan first at start : ℕ) → List ℕ → Picture → Option Cell → Outcome (Picture × ℕ)
past_cell n chan first at start text picture cell = value_or_refuse cell at >>= λ cell. past_order n chan at start text picture cell (nat_lt cell.order first)

abbrev past_line : (n chan first at : ℕ) → List ℕ → Picture → Outcome (List (List ℕ) × ℕ) → Outcome (Picture × ℕ)
past_line n chan first at text picture line = line >>= λ line. past_cell n chan first at line.1 text picture (cell_in picture line.0)

cells_more : (n chan first at : ℕ) (text : List ℕ) (picture : Picture) → cells (suc n) chan first picture text at ≡ past_line n chan first at text picture (line_at text at)
cells_more n chan first at text picture = refl

rows_fit : (n chan at start : ℕ) (text : List ℕ) (picture : Picture) (cell : Cell) → start + row_bytes cell.r (depth chan) * height cell.r ≤ length text
    → past_order n chan at start text picture cell false
    ≡ cells n chan (cell.order + 1) (with_rows chan cell.r (take (row_bytes cell.r (depth chan) * height cell.r) (drop start text)) picture) text (start + row_bytes cell.r (depth chan) * height cell.r)
rows_fit n chan at start text picture cell room =
    let len = row_bytes cell.r (depth chan) * height cell.r in
    ap
    (λ (fits : Bool). (if fits then Ok (with_rows chan cell.r (take len (drop start text)) picture, start + len) else Err at) >>= λ (next : Picture × ℕ). cells n chan (cell.order + 1) next.0 text next.1)
    (le-leb (start + len) (length text) room)

pub one_cell : (n chan first at start : ℕ) (text : List ℕ) (words : List (List ℕ)) (picture : Picture) (cell : Cell)
    → line_at text at ≡ Ok (words, start) → cell_in picture words ≡ Some cell → first ≤ cell.order → start + row_bytes cell.r (depth chan) * height cell.r ≤ length text
    → cells (suc n) chan first picture text at
    ≡ cells n chan (cell.order + 1) (with_rows chan cell.r (take (row_bytes cell.r (depth chan) * height cell.r) (drop start text)) picture) text (start + row_bytes cell.r (depth chan) * height cell.r)
one_cell n chan first at start text words picture cell line is order room =
    cells_more n chan first at text picture
    ∙ ap (past_line n chan first at text picture) line
    ∙ ap (past_cell n chan first at start text picture) is
    ∙ ap (past_order n chan at start text picture cell) (le-ltb cell.order first order)
    ∙ rows_fit n chan at start text picture cell room
