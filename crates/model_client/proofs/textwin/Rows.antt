-- Rows, pieces and moves of some texts, by computing.
use Rattle.std.specs.Prelude.{◌≡◌, refl, ℕ, [], ◌∷◌, ◌++◌, map, length, replicate, Some, None}
use Rattle.model_client.specs.textwin.Wrap.{wrap, wrapped, characters, blank}
use Rattle.model_client.specs.textwin.Pieces.{pieces}
use Rattle.model_client.specs.textwin.Moves.{screen, all_moved, put_codes, Scroll, Put}

-- all that the cases compute with
everything : ℕ
unfolding wrapped pieces
everything = 0

-- a row of four is followed by a new one
five : wrap 4 (97 ∷ 98 ∷ 99 ∷ 100 ∷ 101 ∷ [])
    ≡ ((65 ∷ 66 ∷ 67 ∷ 68 ∷ []) ∷ (69 ∷ []) ∷ [])
unfolding everything
five = refl

-- each newline begins a row
newlines : wrap 4 (97 ∷ 10 ∷ 10 ∷ 10 ∷ 10 ∷ [])
    ≡ ((65 ∷ []) ∷ ([]) ∷ ([]) ∷ ([]) ∷ ([]) ∷ [])
unfolding everything
newlines = refl

-- a newline behind a full row begins one row
full : wrap 4 (97 ∷ 98 ∷ 99 ∷ 100 ∷ 10 ∷ 101 ∷ [])
    ≡ ((65 ∷ 66 ∷ 67 ∷ 68 ∷ []) ∷ (69 ∷ []) ∷ [])
unfolding everything
full = refl

-- bytes that are no characters
others : wrap 4 (97 ∷ 98 ∷ 9 ∷ 99 ∷ 127 ∷ 255 ∷ 126 ∷ 32 ∷ 10 ∷ 120 ∷ 121 ∷ 122 ∷ [])
    ≡ ((65 ∷ 66 ∷ 31 ∷ 67 ∷ []) ∷ (31 ∷ 31 ∷ 94 ∷ 0 ∷ []) ∷ (88 ∷ 89 ∷ 90 ∷ []) ∷ [])
unfolding everything
others = refl

others_are : characters (97 ∷ 10 ∷ 9 ∷ 255 ∷ 10 ∷ 126 ∷ 32 ∷ []) ≡ (65 ∷ 31 ∷ 31 ∷ 94 ∷ 0 ∷ [])
others_are = refl

-- a newline ends a piece, and so do 100 bytes without one
long : map length (pieces (replicate 103 120 ++ 10 ∷ 121 ∷ 10 ∷ 10 ∷ 122 ∷ 122 ∷ []))
    ≡ (100 ∷ 4 ∷ 2 ∷ 1 ∷ 2 ∷ [])
unfolding everything
long = refl

-- a newline as the 100th byte ends one piece, and as the 101st one of its own
edges : map length (pieces (replicate 99 120 ++ 10 ∷ replicate 100 120 ++ 10 ∷ []))
    ≡ (100 ∷ 100 ∷ 1 ∷ [])
unfolding everything
edges = refl

parts : pieces (97 ∷ 10 ∷ 10 ∷ 98 ∷ 99 ∷ [])
    ≡ ((97 ∷ 10 ∷ []) ∷ (10 ∷ []) ∷ (98 ∷ 99 ∷ []) ∷ [])
unfolding everything
parts = refl

-- characters behind others, and in an empty row
written : all_moved 4 (Put 1 2 (69 ∷ 70 ∷ []) ∷ Put 2 0 (71 ∷ 72 ∷ []) ∷ []) (screen 4 (wrapped 4 blank (97 ∷ 98 ∷ 10 ∷ 99 ∷ 100 ∷ [])))
    ≡ Some ((65 ∷ 66 ∷ []) ∷ (67 ∷ 68 ∷ 69 ∷ 70 ∷ []) ∷ (71 ∷ 72 ∷ []) ∷ ([]) ∷ [])
unfolding everything
written = refl

-- a scroll for each new row at the foot
scrolled : all_moved 4 (Put 2 1 (68 ∷ []) ∷ Scroll ∷ Put 2 0 (69 ∷ 70 ∷ 71 ∷ 72 ∷ []) ∷ Scroll ∷ Put 2 0 (73 ∷ []) ∷ []) (screen 3 (wrapped 4 blank (97 ∷ 10 ∷ 98 ∷ 10 ∷ 99 ∷ [])))
    ≡ Some ((67 ∷ 68 ∷ []) ∷ (69 ∷ 70 ∷ 71 ∷ 72 ∷ []) ∷ (73 ∷ []) ∷ [])
unfolding everything
scrolled = refl

-- characters that would stand over others, behind a gap, below the window, or beside it
over_others : all_moved 4 (Put 0 1 (68 ∷ []) ∷ []) ((65 ∷ 66 ∷ []) ∷ []) ≡ None
over_others = refl

behind_a_gap : all_moved 4 (Put 0 3 (68 ∷ []) ∷ []) ((65 ∷ 66 ∷ []) ∷ []) ≡ None
behind_a_gap = refl

below : all_moved 4 (Put 1 0 (68 ∷ []) ∷ []) ((65 ∷ 66 ∷ []) ∷ []) ≡ None
below = refl

beside : all_moved 4 (Put 0 2 (68 ∷ 69 ∷ 70 ∷ []) ∷ []) ((65 ∷ 66 ∷ []) ∷ []) ≡ None
beside = refl

-- the characters of moves, joined
joined : put_codes (Put 2 1 (68 ∷ []) ∷ Scroll ∷ Put 2 0 (69 ∷ 70 ∷ []) ∷ []) ≡ (68 ∷ 69 ∷ 70 ∷ [])
joined = refl
