-- The text that an event writes (rio(4), mouse(3)).
use Rattle.std.specs.Prelude.{ℕ, ℤ, pos, int_lt, List, [], ◌∷◌, ◌++◌, codes, if◌then◌else◌}
use Rattle.std.specs.Fmt.{decimal, signed_decimal}
use Rattle.r9_geom.specs.declared.Point.{Point}
use Rattle.r9_geom.specs.declared.Rect.{Rect}
use Rattle.model_files.specs.declared.mouse.Mouse.{Mouse}
use Rattle.model_files.specs.mouse.Pointer as pointer
use Rattle.model_client.specs.desk.Table.{Act, Nothing, Pass, New, Resize, Move, Delete, Hide}
pub use Rattle.model_client.specs.declared.desk.Text.{Text}
pub use Rattle.model_client.specs.declared.desk.Text.TheVariants.{Wctl, Mousein}

-- a point's numbers, each after a blank
abbrev pub corner : Point → List ℕ
corner p = 32 ∷ signed_decimal p.x ++ 32 ∷ signed_decimal p.y

-- a rectangle's option
abbrev pub rect_words : Rect → List ℕ
rect_words r = codes " -r" ++ corner r.min ++ corner r.max

-- a window's option
abbrev pub id_words : ℕ → List ℕ
id_words window = codes " -id " ++ decimal window

-- a change, with a plus or a minus
abbrev pub change : ℤ → List ℕ
change n = if int_lt n (pos 0) then signed_decimal n else 43 ∷ signed_decimal n

-- the texts of what an event asks for: none or one
unfoldable pub spelled : Act → Mouse → List Text
spelled Nothing e = []
spelled (Pass raised) e = Mousein (pointer.text 109 e) ∷ []
spelled (New r) e = Wctl (codes "new" ++ rect_words r) ∷ []
spelled (Resize window r) e = Wctl (codes "resize" ++ rect_words r ++ id_words window) ∷ []
spelled (Move pane by) e = Wctl (codes "move -minx " ++ change by.x ++ codes " -miny " ++ change by.y ++ id_words pane.number) ∷ []
spelled (Delete window) e = Wctl (codes "delete" ++ id_words window) ∷ []
spelled (Hide pane) e = Wctl (codes "hide" ++ id_words pane.number) ∷ []
