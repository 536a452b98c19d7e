-- No name is tied yet that a window to come has first.
use Rattle.std.proofs.Common.{◌≡◌, ◌∙◌, ◌<◌, ◌+◌, ◌^◌, ℕ, ◌==◌, Bool, inl, inr, List, [], ◌∷◌, ◌++◌, drop, get_or, Option, Some, None, refl, sym, ap, append_assoc, arith}
use Rattle.std.specs.Prelude.{codes, option_map}
use Rattle.std.specs.Fmt.{decimal}
use Rattle.std.specs.List.{slice_split}
use Rattle.std.specs.Str.{bytes_eq}
use Rattle.std.proofs.lemmas.Bool.{cases_lt, ne_eqb}
use Rattle.std.proofs.lemmas.Fmt.{decimal_injective}
use Rattle.std.proofs.lemmas.List.{append-nil}
use Rattle.std.proofs.lemmas.List.Splits.{slice_split_at}
use Rattle.std.proofs.lemmas.Slice.Eq.{bytes_eq-Decides}
use Rattle.model_draw_parts.specs.declared.images.ImageId.{ImageId}
use Rattle.model_draw_parts.specs.declared.images.Tie.{Tie}
use Rattle.model_draw_parts.specs.images.Book.{tie_of}
use Rattle.model_draw_parts.specs.images.Ties.{shown_by}
use Rattle.model_draw_parts.proofs.images.Ties.{All-found}
use Rattle.model_draw.specs.draw.World.{World}
use Rattle.model_rio.specs.rio.Table.{Table, name_by}
use Rattle.law_shown.proofs.shown.Tests.{find-passes}
use Rattle.law_desk.proofs.piloted.Numbers.{decimal_is}
use Rattle.law_menus.specs.inked.Inked.{IsInked, IsWindowTie}

abbrev is_dot : ℕ → Bool
is_dot byte = byte == 46

abbrev first_of : List (List ℕ) → List ℕ
first_of [] = []
first_of (part ∷ parts) = part

-- the serial in the name of a window of the root rio
before_dot : (n : ℕ) (rest : List ℕ) → n < 2 ^ 64 → first_of (slice_split is_dot (decimal n ++ 46 ∷ rest)) ≡ decimal n
before_dot n rest small =
    ap first_of (slice_split_at is_dot (decimal n) 46 rest (λ k d lt. let digit = (decimal_is n small).are k d lt in ne_eqb (get_or (decimal n) k d) 46 (λ e. omega (arith, e, digit.0))) refl)

pub name_plain : (n generation : ℕ) → name_by (n ∷ []) generation ≡ codes "window." ++ decimal n ++ codes "." ++ decimal generation
unfolding name_by
name_plain n generation = ap (λ (digits : List ℕ). codes "window." ++ digits ++ codes "." ++ decimal generation) (append-nil (decimal n))

serial_of : (n generation : ℕ) → n < 2 ^ 64 → first_of (slice_split is_dot (drop 7 (name_by (n ∷ []) generation))) ≡ decimal n
serial_of n generation small =
    ap (λ (name : List ℕ). first_of (slice_split is_dot (drop 7 name))) (name_plain n generation)
    ∙ ap (λ (rest : List ℕ). first_of (slice_split is_dot rest)) (append_assoc (decimal n) (codes ".") (decimal generation)) ∙ before_dot n (decimal generation) small

names_apart : (m n g h : ℕ) → m < 2 ^ 64 → n < 2 ^ 64 → name_by (m ∷ []) g ≡ name_by (n ∷ []) h → m ≡ n
names_apart m n g h small few same =
    decimal_injective m n small few (sym (serial_of m g small) ∙ ap (λ (name : List ℕ). first_of (slice_split is_dot (drop 7 name))) same ∙ serial_of n h few)

pub untied : (device : World) (table : Table) → IsInked device table → table.serials + 1 < 2 ^ 64 → tie_of device.book (name_by ((table.serials + 1) ∷ []) 1) ≡ None
untied device table inked early = by (tie_of device.book (name_by ((table.serials + 1) ∷ []) 1)) refl
  where
    shown : (t : Tie) → IsWindowTie t → shown_by device.book t.client t.id ≡ Some t.image → table.serials < t.id → ⊥
    shown t is image late =
        let none : shown_by device.book t.client t.id ≡ None =
        ap (λ (k : ℕ). shown_by device.book k t.id) is.client ∙ ap (λ (o : Option ImageId). option_map (λ e. e.image) o) (inked.shows.fresh t.id late)
        in
        cc (sym image ∙ none)

    by : (o : Option Tie) → tie_of device.book (name_by ((table.serials + 1) ∷ []) 1) ≡ o → o ≡ None
    by None found = refl
    by (Some t) found =
        let is = All-found IsWindowTie _ device.book.ties t inked.ties found in
        let image = All-found (λ (u : Tie). shown_by device.book u.client u.id ≡ Some u.image) _ device.book.ties t inked.steady.orderly.ties.shown found in
        let named : t.name ≡ name_by ((table.serials + 1) ∷ []) 1 = (bytes_eq-Decides t.name (name_by ((table.serials + 1) ∷ []) 1)).0 (find-passes (λ (u : Tie). bytes_eq u.name (name_by ((table.serials + 1) ∷ []) 1)) device.book.ties t found) in
        elim (cases_lt table.serials t.id) [
          | inl late ↦ absurd (shown t is image late)
          | inr given ↦
              let same = names_apart t.id (table.serials + 1) is.name.0 1 (omega (arith, given, early)) early (sym is.name.1 ∙ named) in
              absurd (omega (arith, given, same))
        ]
