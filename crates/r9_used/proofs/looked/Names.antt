-- Looking for a window by its name, and for the display among ids.
use Rattle.std.proofs.Common.{◌≡◌, ℕ, zero, suc, Bool, true, false, ◌==◌, ◌||◌, ◌<◌, cond, List, [], ◌∷◌, length, get_or, Option, Some, None, refl, ap, arith}
use Rattle.std.specs.Prelude.{find}
use Rattle.std.specs.List.{list_any}
use Rattle.std.specs.Option.{option_map, option_map_or}
use Rattle.std.specs.Str.{bytes_eq}
use Rattle.model_rio.specs.window.Pane.{Pane}
use Rattle.model_alone.specs.alone.Uses.{images_named, window_named}
use Rattle.r9_dmsg.specs.declared.writing.Writing.{Writing}
use Rattle.r9_dmsg.specs.declared.writing.Background.{Background}
use Rattle.r9_dmsg.specs.Listed.{writing_in, writing_message}
use Rattle.model_draw_parts.specs.dmsg.Message.{LowS, LowX}

-- ---- a window

pub window_passed : (name : List ℕ) (entry : ℕ × Pane) (rest : List (ℕ × Pane)) → bytes_eq entry.1.known.name name ≡ false → window_named (entry ∷ rest) name ≡ window_named rest name
window_passed name entry rest e = ap (λ b. option_map (λ (x : ℕ × Pane). x.0) (cond b (Some entry) (find (λ (x : ℕ × Pane). bytes_eq x.1.known.name name) rest))) e

pub window_found : (name : List ℕ) (entry : ℕ × Pane) (rest : List (ℕ × Pane)) → bytes_eq entry.1.known.name name ≡ true → window_named (entry ∷ rest) name ≡ Some entry.0
window_found name entry rest e = ap (λ b. option_map (λ (x : ℕ × Pane). x.0) (cond b (Some entry) (find (λ (x : ℕ × Pane). bytes_eq x.1.known.name name) rest))) e

-- ---- ids

pub some_here : (ids : List ℕ) (k : ℕ) → k < length ids → (get_or ids k 0 == 0) ≡ true → list_any (λ id. id == 0) ids ≡ true
some_here [] k within this = absurd (omega (arith, within))
some_here (id ∷ ids) zero within this = ap (λ b. b || list_any (λ id. id == 0) ids) this
some_here (id ∷ ids) (suc k) within this = by (id == 0) (some_here ids k (omega (arith, within)) this)
  where
    by : (b : Bool) → list_any (λ id. id == 0) ids ≡ true → (b || list_any (λ id. id == 0) ids) ≡ true
    by true e = refl
    by false e = e

-- the images that a string names
pub writing_named : (w : Writing) → list_any (λ id. id == 0) (images_named (writing_message w))
    ≡ ((w.dstid == 0) || ((w.srcid == 0) || ((w.fontid == 0) || option_map_or (λ b. b.id == 0) w.background false)))
writing_named w = by w.background
  where
    or_false : (b : Bool) → (b || false) ≡ b
    or_false true = refl
    or_false false = refl

    by : (b : Option Background) → list_any (λ id. id == 0) (images_named (option_map_or (λ b. LowX (writing_in w) b.id b.p) b (LowS (writing_in w))))
        ≡ ((w.dstid == 0) || ((w.srcid == 0) || ((w.fontid == 0) || option_map_or (λ b. b.id == 0) b false)))
    by None = refl
    by (Some b) = ap (λ x. (w.dstid == 0) || ((w.srcid == 0) || ((w.fontid == 0) || x))) (or_false (b.id == 0))
