-- The moves of a piece put characters of the font, and their draw messages fit into one message.
use Rattle.std.proofs.Common.{◌≡◌, ◌∙◌, ◌≤◌, ◌<◌, ◌+◌, ◌*◌, ◌==◌, ℕ, Bool, true, false, cond, not, List, [], ◌∷◌, ◌++◌, length, map, refl, sym, ap, subst, arith, length-append}
use Rattle.std.specs.List.{All, filter, flat_map}
use Rattle.std.proofs.lemmas.List.{length-map, map-append}
use Rattle.std.proofs.lemmas.List.Elements.{All-cons, All-nil, filter-append}
use Rattle.std.proofs.lemmas.Bool.Decides.{nat_tests}
use Rattle.model_text.specs.text.Number.{two_bytes}
use Rattle.model_clients.specs.client.Messages.{drawing, string}
use Rattle.model_client.specs.declared.textwin.Move.{Move}
use Rattle.model_client.specs.declared.textwin.Move.TheVariants.{Put, Scroll}
use Rattle.model_client.specs.textwin.Moves.{codes_of, put_codes}
use Rattle.model_client.specs.textwin.Wrap.{characters, code_of}
use Rattle.model_clients.specs.page.Text.{Shape, cells, move_bytes, moves_bytes}
use Rattle.r9_clients.specs.page.Shown.{IsWithin}
use Rattle.r9_textwin.specs.Window as win

-- ---- the characters of a text

code_few : (byte : ℕ) → code_of byte < cells
code_few byte = grind (arith, nat_tests)

codes_few : (bytes : List ℕ) → All (λ code. code < cells) (map code_of bytes)
codes_few [] = All-nil (λ code. code < cells)
codes_few (byte ∷ bytes) = All-cons (λ code. code < cells) (code_of byte) (map code_of bytes) (code_few byte) (codes_few bytes)

pub characters_few : (text codes : List ℕ) → codes ≡ characters text → All (λ code. code < cells) codes
characters_few text codes is = subst (All (λ code. code < cells)) (sym is) (codes_few (filter (λ byte. not (byte == 10)) text))

pub characters-append : (a b : List ℕ) → characters (a ++ b) ≡ characters a ++ characters b
characters-append a b =
    ap (map code_of) (filter-append (λ (byte : ℕ). not (byte == 10)) a b)
    ∙ map-append code_of (filter (λ byte. not (byte == 10)) a) (filter (λ byte. not (byte == 10)) b)

kept_few : (bytes : List ℕ) → length (filter (λ byte. not (byte == 10)) bytes) ≤ length bytes
kept_few [] = omega arith
kept_few (byte ∷ bytes) = by_test (not (byte == 10)) (kept_few bytes)
  where
    by_test : (b : Bool) → length (filter (λ byte. not (byte == 10)) bytes) ≤ length bytes
        → length (cond b (byte ∷ filter (λ byte. not (byte == 10)) bytes) (filter (λ byte. not (byte == 10)) bytes)) ≤ length (byte ∷ bytes)
    by_test true less = omega (arith, less)
    by_test false less = omega (arith, less)

characters_len : (text : List ℕ) → length (characters text) ≤ length text
characters_len text = omega (arith, length-map (filter (λ byte. not (byte == 10)) text) code_of, kept_few text)

-- ---- the bytes of moves

shorts_len : (numbers : List ℕ) → length (flat_map two_bytes numbers) ≡ 2 * length numbers
shorts_len [] = refl
shorts_len (n ∷ numbers) = omega (arith, shorts_len numbers)

move_len : (shape : Shape) (move : Move) → length (move_bytes shape move) ≤ 90 + 2 * length (codes_of move)
unfolding move_bytes drawing string
move_len shape Scroll = omega arith
move_len shape (Put row column codes) = omega (arith, shorts_len codes)

moves_len : (shape : Shape) (moves : List Move) → length (moves_bytes shape moves) ≤ 90 * length moves + 2 * length (put_codes moves)
moves_len shape [] = omega arith
moves_len shape (move ∷ moves) =
    let first = length-append (move_bytes shape move) (moves_bytes shape moves) in
    let codes = length-append (codes_of move) (put_codes moves) in
    omega (arith, first, codes, move_len shape move, moves_len shape moves)

-- at most two moves come of each byte of a piece
moves_short : (shape : Shape) (moves : List Move) (piece : List ℕ) → put_codes moves ≡ characters piece → length moves ≤ 2 * length piece → length piece ≤ 100 → length (moves_bytes shape moves) ≤ 65537
moves_short shape moves piece codes moves_few short =
    let put : length (put_codes moves) ≡ length (characters piece) = ap length codes in
    omega (arith, moves_len shape moves, put, characters_len piece, moves_few, short)

pub slice_short : (shape : Shape) (moves slice : List Move) (piece : List ℕ) → slice ≡ moves → put_codes moves ≡ characters piece → length moves ≤ 2 * length piece → length piece ≤ 100 → length (moves_bytes shape slice) ≤ 65537
slice_short shape moves slice piece e codes moves_few short =
    subst (λ (ms : List Move). length (moves_bytes shape ms) ≤ 65537) (sym e) (moves_short shape moves piece codes moves_few short)

-- ---- where moves put them

stays : (shape : Shape) (columns rows : ℕ) (move : Move) → columns ≡ shape.columns → rows ≡ shape.rows → win.IsWithin columns rows move → IsWithin shape move
stays shape columns rows Scroll c r within = tt
stays shape columns rows (Put row column codes) c r within = (subst (λ (n : ℕ). row < n) r within.0, subst (λ (n : ℕ). column + length codes ≤ n) c within.1)

-- in the window, which is of the shape
pub slice_stays : (shape : Shape) (columns rows : ℕ) (moves slice : List Move) → slice ≡ moves → columns ≡ shape.columns → rows ≡ shape.rows → All (win.IsWithin columns rows) moves → All (IsWithin shape) slice
slice_stays shape columns rows moves slice e c r within = subst (All (IsWithin shape)) (sym e) (λ k d lt. stays shape columns rows _ c r (within k d lt))
