-- The texts of the refusals, by their numbers.
use Rattle.std.specs.Prelude.{◌≡◌, ◌==◌, ℕ, nat_lt, List, [], ◌∷◌, codes, Option, Some, None, if◌then◌else◌}
use Rattle.model_files.specs.wire.Message.{R, Rerror}

abbrev pub text_in : List (ℕ × List ℕ) → ℕ → List ℕ
text_in [] n = []
text_in (row ∷ rows) n = if row.0 == n then row.1 else text_in rows n

-- those of the draw device
abbrev pub draw_texts : List (ℕ × List ℕ)
draw_texts =
    (1, codes "short draw message") ∷ (2, codes "unknown draw message") ∷ (3, codes "unsupported draw message")
    ∷ (4, codes "unknown id for draw image") ∷ (5, codes "unknown id for draw screen") ∷ (6, codes "image id in use")
    ∷ (7, codes "screen id in use") ∷ (8, codes "bad channel descriptor") ∷ (9, codes "bad rectangle") ∷ (10, codes "image too large")
    ∷ (11, codes "image parameters incompatible with screen") ∷ (12, codes "readimage outside image")
    ∷ (13, codes "writeimage outside image") ∷ (14, codes "image not a font") ∷ (15, codes "character index out of range")
    ∷ (16, codes "image name in use") ∷ (17, codes "no image with that name") ∷ (18, codes "named image no longer valid")
    ∷ (19, codes "wrong name for image")
    ∷ (20, codes "image not a window") ∷ (21, codes "bad compositing operator")
    ∷ (22, codes "images not on one screen") ∷ (23, codes "bad draw argument")
    ∷ (24, codes "image memory allocation failed") ∷ (25, codes "draw read too short") ∷ (26, codes "no draw data")
    ∷ (27, codes "unknown draw control request") ∷ []

-- those of files
abbrev pub file_texts : List (ℕ × List ℕ)
file_texts =
    (30, codes "bad message") ∷ (31, codes "version first") ∷ (32, codes "unknown fid") ∷ (33, codes "fid in use")
    ∷ (34, codes "file does not exist") ∷ (35, codes "not a directory") ∷ (36, codes "fid is open")
    ∷ (37, codes "fid not open") ∷ (38, codes "permission denied") ∷ (39, codes "bad offset")
    ∷ (40, codes "no authentication") ∷ (41, codes "unknown id in attach") ∷ (42, codes "window deleted")
    ∷ (43, codes "file in use") ∷ (44, codes "too many fids") ∷ (45, codes "too many blocked reads")
    ∷ (46, codes "read too short") ∷ (47, codes "bad wctl command") ∷ (48, codes "msize too small")
    ∷ (49, codes "too many windows") ∷ (50, codes "nested too deep") ∷ (51, codes "bad input record") ∷ []

unfoldable pub refusal_text : ℕ → List ℕ
refusal_text n = if nat_lt n 30 then text_in draw_texts n else text_in file_texts n

abbrev pub refusal : (tag number : ℕ) → R
refusal tag number = Rerror tag (refusal_text number)

-- the reply is the refusal of a number
abbrev pub Refuses : ℕ → R → Type 0
Refuses number (Rerror tag text) = text ≡ refusal_text number
Refuses number _ = ⊥

-- there is a reply, and it is that
abbrev pub IsRefused : ℕ → Option R → Type 0
IsRefused number (Some reply) = Refuses number reply
IsRefused number None = ⊥
