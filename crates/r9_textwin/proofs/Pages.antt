-- A new row, and characters that go to a row together, on the rows that are shown.
use Rattle.std.proofs.Common.{◌≡◌, ℕ, suc, ◌+◌, ◌-◌, ◌<◌, ◌≤◌, ◌==◌, Bool, true, false, List, [], ◌∷◌, ◌++◌, length, take, drop, replicate, refl, sym, ap, ◌∙◌, arith, append_assoc, append-nil, length-drop, length-append, cond, subst, eq-eqb, ⊎_elim}
use Rattle.std.proofs.lemmas.List.{drop-append-le, drop-drop, set_at, length-map, take_all, take-append-drop}
use Rattle.std.proofs.lemmas.List.{map-append}
use Rattle.std.proofs.lemmas.List.Sums.{fold-append}
use Rattle.std.proofs.lemmas.List.Elements.{filter-append, All-append, All-cons, All-nil}
use Rattle.std.proofs.lemmas.Bool.{cases_lt, lt-ltb, le-ltb, le-leb, lt-leb, ltb-true, ltb-false}
use Rattle.std.specs.Prelude.{nat_lt, ◌&&◌}
use Rattle.std.specs.Prelude.{slice_get, Option, Some, None, map, not, All}
use Rattle.std.specs.Option.{option_and_then}
use Rattle.std.specs.List.{fold, filter, list_all}
use Rattle.std.proofs.lemmas.List.Concat.{flat_map-append}
use Rattle.model_client.specs.declared.textwin.Move.TheVariants.{Scroll, Put}
use Rattle.model_client.specs.textwin.Wrap.{Page, rows, new_row, longer, with_byte, wrapped, code_of, characters}
use Rattle.model_client.specs.textwin.Moves.{screen, moved, all_moved, put_at, codes_of, put_codes}
use Rattle.model_client.specs.declared.textwin.Move.{Move}
use Rattle.r9_textwin.proofs.Lines.{IsLine}
use Rattle.r9_textwin.specs.Window.{Spot, IsSpot, IsBehind, IsWithin}
use Rattle.r9_textwin.specs.Steps.{Brings, put_moves, put_place, room_moves, room_place, row_moves, row_place}

row_count : (p : Page) → length (rows p) ≡ length p.above + 1
row_count p = length-append p.above (p.last ∷ [])

-- the last row, those above it that are shown, and the empty ones
pub screen_is : (count : ℕ) (p : Page) → 1 ≤ count → screen count p ≡ drop (length p.above + 1 - count) p.above ++ p.last ∷ replicate (count - (length p.above + 1)) []
screen_is count p some =
    (λ i. drop (row_count p i - count) (rows p) ++ replicate (count - row_count p i) [])
    ∙ ap (λ (xs : List (List ℕ)). xs ++ replicate (count - (length p.above + 1)) []) (drop-append-le (length p.above + 1 - count) p.above (p.last ∷ []) (omega arith))
    ∙ append_assoc (drop (length p.above + 1 - count) p.above) (p.last ∷ []) (replicate (count - (length p.above + 1)) [])

slice_get_seam : (above : List (List ℕ)) (last : List ℕ) (below : List (List ℕ)) → slice_get (above ++ last ∷ below) (length above) ≡ Some last
slice_get_seam [] last below = refl
slice_get_seam (first ∷ above) last below = slice_get_seam above last below

put_in_row : (above : List (List ℕ)) (last : List ℕ) (below : List (List ℕ)) (columns row column : ℕ) (codes : List ℕ) → length above ≡ row → column ≡ length last → column + length codes ≤ columns → put_at columns (above ++ last ∷ below) row column codes ≡ Some (above ++ (last ++ codes) ∷ below)
put_in_row above last below columns row column codes here end room =
    let got : slice_get (above ++ last ∷ below) row ≡ Some last = ap (λ n. slice_get (above ++ last ∷ below) n) (sym here) ∙ slice_get_seam above last below in
    let ends : (length last == column) ≡ true = eq-eqb (length last) column (sym end) in
    rw (got, ends, le-leb (column + length codes) columns room) (ap Some (set_at above last below (last ++ codes) row here))

-- characters at the end of the last row
abbrev lengthened : Page → List ℕ → Page
lengthened p codes = record p { last = p.last ++ codes }

put_shows : (s : Spot) (p : Page) (codes : List ℕ) → IsSpot s → IsBehind s p → s.column + length codes ≤ s.columns → all_moved s.columns (put_moves s codes) (screen s.rows p) ≡ Some (screen s.rows (lengthened p codes))
put_shows s p codes is behind room =
    let some : 1 ≤ s.rows = omega (arith, is.row) in
    let above = drop (length p.above + 1 - s.rows) p.above in
    let below : List (List ℕ) = replicate (s.rows - (length p.above + 1)) [] in
    let here : length above ≡ s.row = omega (arith, length-drop (length p.above + 1 - s.rows) p.above, behind.row) in
    ap (λ (xs : List (List ℕ)). all_moved s.columns (put_moves s codes) xs) (screen_is s.rows p some)
    ∙ rw (put_in_row above p.last below s.columns s.row s.column codes here behind.column room) (ap Some (sym (screen_is s.rows (lengthened p codes) some)))

all_moved-append : (columns : ℕ) (first later : List Move) (screen : List (List ℕ)) → all_moved columns (first ++ later) screen ≡ option_and_then (all_moved columns later) (all_moved columns first screen)
all_moved-append columns [] later screen = refl
all_moved-append columns (move ∷ first) later screen = from (all_moved-append columns first later) (moved columns move screen)
  where
    from : ((next : List (List ℕ)) → all_moved columns (first ++ later) next ≡ option_and_then (all_moved columns later) (all_moved columns first next)) → (next : Option (List (List ℕ))) → option_and_then (all_moved columns (first ++ later)) next ≡ option_and_then (all_moved columns later) (option_and_then (all_moved columns first) next)
    from same None = refl
    from same (Some next) = same next

-- moves that bring the shown rows of one page to those of another, and the place with them
record Step (s : Spot) (moves : List Move) (next : Spot) (p q : Page) : Type 0 where
  pub shown : all_moved s.columns moves (screen s.rows p) ≡ Some (screen s.rows q)
  pub behind : IsBehind next q

-- moves that go on from others, in a window of the same sides
both : (s : Spot) (moves more : List Move) (next last : Spot) (p q r : Page) → next.columns ≡ s.columns → next.rows ≡ s.rows → Step s moves next p q → Step next more last q r → Step s (moves ++ more) last p r
both s moves more next last p q r columns rows first second = record {
  shown =
      all_moved-append s.columns moves more (screen s.rows p)
      ∙ ap (λ (xs : Option (List (List ℕ))). option_and_then (all_moved s.columns more) xs) first.shown
      ∙ subst (λ (n : ℕ). all_moved n more (screen s.rows q) ≡ Some (screen s.rows r)) columns
      (subst (λ (n : ℕ). all_moved next.columns more (screen n q) ≡ Some (screen n r)) rows second.shown);
  behind = second.behind;
}

put_step : (s : Spot) (p : Page) (codes : List ℕ) → IsSpot s → IsBehind s p → s.column + length codes ≤ s.columns → Step s (put_moves s codes) (put_place s (length codes)) p (lengthened p codes)
put_step s p codes is behind room = record {
  shown = put_shows s p codes is behind room;
  behind = record { row = behind.row; column = omega (arith, behind.column, length-append p.last codes) };
}

-- a new row where there is room below
below_shows : (count : ℕ) (p : Page) → length p.above + 1 < count → screen count p ≡ screen count (new_row p)
below_shows count p room =
    let a = length p.above in
    let some : 1 ≤ count = omega (arith, room) in
    let none : a + 1 - count ≡ 0 = omega (arith, room) in
    let left : count - (a + 1) ≡ suc (count - (a + 2)) = omega (arith, room) in
    let none_then : length (rows p) + 1 - count ≡ 0 = omega (arith, room, row_count p) in
    let left_then : count - (length (rows p) + 1) ≡ count - (a + 2) = omega (arith, room, row_count p) in
    screen_is count p some
    ∙ (λ i. drop (none i) p.above ++ p.last ∷ replicate (left i) [])
    ∙ sym (append_assoc p.above (p.last ∷ []) ([] ∷ replicate (count - (a + 2)) []))
    ∙ sym (screen_is count (new_row p) some ∙ (λ i. drop (none_then i) (rows p) ++ [] ∷ replicate (left_then i) []))

-- the rows of a page that fills the window
tall : (count : ℕ) (p : Page) → count ≤ length (rows p) → screen count p ≡ drop (length (rows p) - count) (rows p)
tall count p full =
    let none : count - length (rows p) ≡ 0 = omega (arith, full) in
    ap (λ (n : ℕ). drop (length (rows p) - count) (rows p) ++ replicate n []) none ∙ append-nil (drop (length (rows p) - count) (rows p))

scroll_shows : (columns count : ℕ) (p : Page) → 1 ≤ count → count ≤ length p.above + 1 → all_moved columns (Scroll ∷ []) (screen count p) ≡ Some (screen count (new_row p))
scroll_shows columns count p some full =
    let n = length (rows p) - count in
    let all : count ≤ length (rows p) = omega (arith, full, row_count p) in
    let within : n + 1 ≤ length (rows p) = omega (arith, some, all) in
    let next : n + 1 ≡ length (rows (new_row p)) - count = omega (arith, all, row_count (new_row p)) in
    ap Some
    (ap (λ (xs : List (List ℕ)). drop 1 xs ++ [] ∷ []) (tall count p all)
    ∙ ap (λ (xs : List (List ℕ)). xs ++ [] ∷ []) (drop-drop 1 n (rows p))
    ∙ sym (drop-append-le (n + 1) (rows p) ([] ∷ []) within)
    ∙ ap (λ (k : ℕ). drop k (rows (new_row p))) next
    ∙ sym (tall count (new_row p) (omega (arith, all, row_count (new_row p)))))

row_step : (s : Spot) (p : Page) → IsSpot s → IsBehind s p → Step s (row_moves s) (row_place s) p (new_row p)
row_step s p is behind =
    ⊎_elim
    (λ (room : s.row + 1 < s.rows).
    rw (lt-ltb (s.row + 1) s.rows room)
    (record {
      shown = ap Some (below_shows s.rows p (omega (arith, behind.row, room)));
      behind = record { row = omega (arith, behind.row, room, row_count p); column = refl };
    }))
    (λ (full : s.rows ≤ s.row + 1).
    rw (le-ltb (s.row + 1) s.rows full)
    (record {
      shown = scroll_shows s.columns s.rows p (omega (arith, is.row)) (omega (arith, behind.row, full));
      behind = record { row = omega (arith, behind.row, full, row_count p); column = refl };
    }))
    (cases_lt (s.row + 1) s.rows)

row_is : (s : Spot) → IsSpot s → IsSpot (row_place s)
row_is s is = record { wide = is.wide; row = by (nat_lt (s.row + 1) s.rows) refl; column = omega arith }
  where
    by : (b : Bool) → nat_lt (s.row + 1) s.rows ≡ b → cond b (s.row + 1) s.row < s.rows
    by true room = ltb-true (s.row + 1) s.rows room
    by false full = is.row

-- ---- a newline

few_rows : (s : Spot) → length (row_moves s) ≤ 1
few_rows s = by (nat_lt (s.row + 1) s.rows)
  where
    by : (b : Bool) → length (cond b [] (Scroll ∷ [])) ≤ 1
    by true = omega arith
    by false = omega arith

no_codes : (s : Spot) → put_codes (row_moves s) ≡ []
no_codes s = by (nat_lt (s.row + 1) s.rows)
  where
    by : (b : Bool) → put_codes (cond b [] (Scroll ∷ [])) ≡ []
    by true = refl
    by false = refl

rows_within : (columns rows : ℕ) (s : Spot) → All (IsWithin columns rows) (row_moves s)
rows_within columns rows s = by (nat_lt (s.row + 1) s.rows)
  where
    by : (b : Bool) → All (IsWithin columns rows) (cond b [] (Scroll ∷ []))
    by true = All-nil (IsWithin columns rows)
    by false = All-cons (IsWithin columns rows) Scroll [] tt (All-nil (IsWithin columns rows))

pub newline_brings : (s : Spot) → IsSpot s → Brings s (10 ∷ []) (row_moves s) (row_place s)
unfolding wrapped
newline_brings s is = record {
  shown = λ p behind. (row_step s p is behind).shown;
  behind = λ p behind. (row_step s p is behind).behind;
  codes = no_codes s;
  few = omega (arith, few_rows s);
  within = rows_within s.columns s.rows s;
  is = row_is s is;
  same_columns = refl;
  same_rows = refl;
}

-- ---- characters that go to a row

abbrev is_character : ℕ → Bool
is_character byte = not (byte == 10)

first_and_more : (b c : Bool) → (not b && c) ≡ true → (b ≡ false) × (c ≡ true)
first_and_more true c e = absurd cc
first_and_more false c e = (refl, e)

line_wrapped : (columns : ℕ) (bytes : List ℕ) (p : Page) → list_all is_character bytes ≡ true → length p.last + length bytes ≤ columns → wrapped columns p bytes ≡ lengthened p (map code_of bytes)
unfolding wrapped
line_wrapped columns [] p all room = ap (λ (xs : List ℕ). record p { last = xs }) (sym (append-nil p.last))
line_wrapped columns (byte ∷ bytes) p all room =
    let are = first_and_more (byte == 10) (list_all is_character bytes) all in
    let next = longer p (code_of byte) in
    let first : with_byte columns p byte ≡ next = rw (are.0, lt-leb columns (length p.last) (omega (arith, room))) refl in
    ap (λ (q : Page). fold (with_byte columns) q bytes) first
    ∙ unfold wrapped in line_wrapped columns bytes next are.1 (omega (arith, room, length-append p.last (code_of byte ∷ [])))
    ∙ ap (λ (xs : List ℕ). record p { last = xs }) (append_assoc p.last (code_of byte ∷ []) (map code_of bytes))

-- a line that begins behind a full row begins a new one
full_wrapped : (columns : ℕ) (byte : ℕ) (bytes : List ℕ) (p : Page) → (byte == 10) ≡ false → 1 ≤ columns → columns ≤ length p.last → wrapped columns p (byte ∷ bytes) ≡ wrapped columns (new_row p) (byte ∷ bytes)
unfolding wrapped
full_wrapped columns byte bytes p is_other some full =
    ap (λ (q : Page). fold (with_byte columns) q bytes)
    (rw (is_other, le-leb columns (length p.last) full, lt-leb columns 0 some) refl)

line_characters : (bytes : List ℕ) → list_all is_character bytes ≡ true → characters bytes ≡ map code_of bytes
line_characters [] all = refl
line_characters (byte ∷ bytes) all =
    let are = first_and_more (byte == 10) (list_all is_character bytes) all in
    rw are.0 (ap (λ (xs : List ℕ). code_of byte ∷ xs) (line_characters bytes are.1))

line_step : (s : Spot) (bytes : List ℕ) (p : Page) → IsSpot s → IsBehind s p → list_all is_character bytes ≡ true → s.column + length bytes ≤ s.columns
    → Step s (put_moves s (map code_of bytes)) (put_place s (length (map code_of bytes))) p (wrapped s.columns p bytes)
line_step s bytes p is behind all room =
    subst (λ (q : Page). Step s (put_moves s (map code_of bytes)) (put_place s (length (map code_of bytes))) p q)
    (sym (line_wrapped s.columns bytes p all (omega (arith, room, behind.column))))
    (put_step s p (map code_of bytes) is behind (omega (arith, room, length-map bytes code_of)))

one_put : (columns rows row column : ℕ) (codes : List ℕ) → row < rows → column + length codes ≤ columns → 0 < length codes → All (IsWithin columns rows) (Put row column codes ∷ [])
one_put columns rows row column codes below beside some = All-cons (IsWithin columns rows) (Put row column codes) [] (below, beside, some) (All-nil (IsWithin columns rows))

pub line_brings : (s : Spot) (byte : ℕ) (bytes : List ℕ) → IsSpot s → list_all is_character (byte ∷ bytes) ≡ true → (room_place s).column + length (byte ∷ bytes) ≤ s.columns
    → Brings s (byte ∷ bytes) (room_moves s ++ put_moves (room_place s) (map code_of (byte ∷ bytes))) (put_place (room_place s) (length (map code_of (byte ∷ bytes))))
line_brings s byte bytes is all room = by (nat_lt s.column s.columns) refl room
  where
    line : List ℕ
    line = byte ∷ bytes

    line_codes : List ℕ
    line_codes = map code_of line

    as_many : length line_codes ≡ suc (length bytes)
    as_many = length-map line code_of

    is_other : (byte == 10) ≡ false
    is_other = (first_and_more (byte == 10) (list_all is_character bytes) all).0

    by : (b : Bool) → nat_lt s.column s.columns ≡ b → (cond b s (row_place s)).column + length line ≤ s.columns
        → Brings s line (cond b [] (row_moves s) ++ put_moves (cond b s (row_place s)) line_codes) (put_place (cond b s (row_place s)) (length line_codes))
    by true e room = record {
      shown = λ p behind. (line_step s line p is behind all room).shown;
      behind = λ p behind. (line_step s line p is behind all room).behind;
      codes = append-nil line_codes ∙ sym (line_characters line all);
      few = omega arith;
      within = one_put s.columns s.rows s.row s.column line_codes is.row (omega (arith, room, as_many)) (omega (arith, as_many));
      is = record { wide = is.wide; row = is.row; column = omega (arith, room, as_many) };
      same_columns = refl;
      same_rows = refl;
    }
    by false e room =
        let full : s.columns ≤ s.column = ltb-false s.column s.columns e in
        let next = row_place s in
        let next_is = row_is s is in
        let step : (p : Page) → IsBehind s p → Step s (row_moves s ++ put_moves next line_codes) (put_place next (length line_codes)) p (wrapped s.columns p line) =
        λ p behind.
        let first = row_step s p is behind in
        subst (λ (q : Page). Step s (row_moves s ++ put_moves next line_codes) (put_place next (length line_codes)) p q)
        (sym (full_wrapped s.columns byte bytes p is_other is.wide (omega (arith, full, behind.column))))
        (both s (row_moves s) (put_moves next line_codes) next (put_place next (length line_codes)) p (new_row p) (wrapped s.columns (new_row p) line) refl refl first
        (line_step next line (new_row p) next_is first.behind all room))
        in
        record {
          shown = λ p behind. (step p behind).shown;
          behind = λ p behind. (step p behind).behind;
          codes =
              flat_map-append codes_of (row_moves s) (put_moves next line_codes)
              ∙ ap (λ (xs : List ℕ). xs ++ (line_codes ++ [])) (no_codes s)
              ∙ append-nil line_codes
              ∙ sym (line_characters line all);
          few = omega (arith, few_rows s, length-append (row_moves s) (put_moves next line_codes));
          within =
              All-append (IsWithin s.columns s.rows) (row_moves s) (put_moves next line_codes) (rows_within s.columns s.rows s)
              (one_put s.columns s.rows next.row 0 line_codes next_is.row (omega (arith, room, as_many)) (omega (arith, as_many)));
          is = record { wide = is.wide; row = next_is.row; column = omega (arith, room, as_many) };
          same_columns = refl;
          same_rows = refl;
        }

-- ---- one after the other

wrapped-append : (columns : ℕ) (p : Page) (bytes more : List ℕ) → wrapped columns p (bytes ++ more) ≡ wrapped columns (wrapped columns p bytes) more
unfolding wrapped
wrapped-append columns p bytes more = fold-append (with_byte columns) p bytes more

characters-append : (bytes more : List ℕ) → characters (bytes ++ more) ≡ characters bytes ++ characters more
characters-append bytes more = ap (map code_of) (filter-append is_character bytes more) ∙ map-append code_of (filter is_character bytes) (filter is_character more)

pub nothing_brings : (s : Spot) → IsSpot s → Brings s [] [] s
unfolding wrapped
nothing_brings s is = record {
  shown = λ p behind. refl;
  behind = λ p behind. behind;
  codes = refl;
  few = omega arith;
  within = All-nil (IsWithin s.columns s.rows);
  is = is;
  same_columns = refl;
  same_rows = refl;
}

pub more_brings : (s next last : Spot) (bytes more : List ℕ) (moves later : List Move) → Brings s bytes moves next → Brings next more later last → Brings s (bytes ++ more) (moves ++ later) last
more_brings s next last bytes more moves later first second =
    let step : (p : Page) → IsBehind s p → Step s (moves ++ later) last p (wrapped s.columns p (bytes ++ more)) =
    λ p behind.
    let q = wrapped s.columns p bytes in
    let then_behind = first.behind p behind in
    let same : wrapped next.columns q more ≡ wrapped s.columns p (bytes ++ more) = ap (λ (n : ℕ). wrapped n q more) first.same_columns ∙ sym (wrapped-append s.columns p bytes more) in
    subst (λ (r : Page). Step s (moves ++ later) last p r) same
    (both s moves later next last p q (wrapped next.columns q more) first.same_columns first.same_rows
    (record { shown = first.shown p behind; behind = then_behind })
    (record { shown = second.shown q then_behind; behind = second.behind q then_behind }))
    in
    record {
      shown = λ p behind. (step p behind).shown;
      behind = λ p behind. (step p behind).behind;
      codes = flat_map-append codes_of moves later ∙ (λ i. first.codes i ++ second.codes i) ∙ sym (characters-append bytes more);
      few = omega (arith, first.few, second.few, length-append moves later, length-append bytes more);
      within =
          All-append (IsWithin s.columns s.rows) moves later first.within
          (subst (λ (n : ℕ). All (IsWithin n s.rows) later) first.same_columns (subst (λ (n : ℕ). All (IsWithin next.columns n) later) first.same_rows second.within));
      is = second.is;
      same_columns = second.same_columns ∙ first.same_columns;
      same_rows = second.same_rows ∙ first.same_rows;
    }

same_brings : (s : Spot) (bytes same : List ℕ) (moves alike : List Move) (next there : Spot) → bytes ≡ same → moves ≡ alike → next ≡ there → Brings s bytes moves next → Brings s same alike there
same_brings s bytes same moves alike next there bytes_are moves_are next_is brings =
    subst (λ (n : Spot). Brings s same alike n) next_is
    (subst (λ (ms : List Move). Brings s same ms next) moves_are (subst (λ (bs : List ℕ). Brings s bs moves next) bytes_are brings))

pub newline_fed : (s place next : Spot) (front bytes : List ℕ) (moves after : List Move) → take 1 bytes ≡ 10 ∷ [] → after ≡ moves ++ row_moves place → next ≡ row_place place
    → Brings s front moves place → Brings s (front ++ take 1 bytes) after next
newline_fed s place next front bytes moves after first after_is next_is brings =
    same_brings s (front ++ 10 ∷ []) (front ++ take 1 bytes) (moves ++ row_moves place) after (row_place place) next
    (ap (λ (xs : List ℕ). front ++ xs) (sym first)) (sym after_is) (sym next_is)
    (more_brings s place (row_place place) front (10 ∷ []) moves (row_moves place) brings (newline_brings place brings.is))

room_columns : (s : Spot) → (room_place s).columns ≡ s.columns
room_columns s = by (nat_lt s.column s.columns)
  where
    by : (b : Bool) → (cond b s (row_place s)).columns ≡ s.columns
    by true = refl
    by false = refl

pub room_left : (s : Spot) → IsSpot s → 0 < (room_place s).columns - (room_place s).column
room_left s is = by (nat_lt s.column s.columns) refl
  where
    by : (b : Bool) → nat_lt s.column s.columns ≡ b → 0 < (cond b s (row_place s)).columns - (cond b s (row_place s)).column
    by true room = omega (arith, ltb-true s.column s.columns room)
    by false full = omega (arith, is.wide)

pub line_fed : (s place roomy next : Spot) (front bytes line codes : List ℕ) (moves room after : List Move) → IsLine (roomy.columns - roomy.column) bytes line
    → roomy ≡ room_place place → room ≡ moves ++ room_moves place → codes ≡ map code_of line → after ≡ room ++ put_moves roomy codes → next ≡ put_place roomy (length codes)
    → Brings s front moves place → Brings s (front ++ take (length line) bytes) after next
line_fed s place roomy next front bytes line codes moves room after is roomy_is room_is codes_are after_is next_is brings =
    let text = is.first ∷ is.more in
    let there = room_place place in
    let put = put_moves there (map code_of text) in
    let columns : roomy.columns ≡ place.columns = ap (λ (t : Spot). t.columns) roomy_is ∙ room_columns place in
    let column : roomy.column ≡ there.column = ap (λ (t : Spot). t.column) roomy_is in
    let fits : there.column + length text ≤ place.columns = omega (arith, is.few, columns, column) in
    let codes_is : map code_of text ≡ codes = ap (map code_of) (sym is.is) ∙ sym codes_are in
    same_brings s (front ++ text) (front ++ take (length line) bytes) (moves ++ (room_moves place ++ put)) after (put_place there (length (map code_of text))) next
    (ap (λ (xs : List ℕ). front ++ xs) (sym is.front))
    (sym (append_assoc moves (room_moves place) put) ∙ (λ i. sym room_is i ++ put_moves (sym roomy_is i) (codes_is i)) ∙ sym after_is)
    ((λ i. put_place (sym roomy_is i) (length (codes_is i))) ∙ sym next_is)
    (more_brings s place (put_place there (length (map code_of text))) front text moves (room_moves place ++ put) brings
    (line_brings place is.first is.more brings.is is.all fits))

-- what has come and what is left are the piece
pub rest_cut : (front rest piece : List ℕ) (n : ℕ) → front ++ rest ≡ piece → (front ++ take n rest) ++ take (length rest - n) (drop n rest) ≡ piece
rest_cut front rest piece n parts =
    ap (λ (xs : List ℕ). (front ++ take n rest) ++ xs) (take_all (length rest - n) (drop n rest) (omega (arith, length-drop n rest)))
    ∙ append_assoc front (take n rest) (drop n rest)
    ∙ ap (λ (xs : List ℕ). front ++ xs) (take-append-drop n rest)
    ∙ parts
