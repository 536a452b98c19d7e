-- What reads of a window's files give after what happened, by computing.
use Rattle.std.specs.Prelude.{◌≡◌, refl, ℕ, true, false, pos, negsuc, List, [], ◌∷◌, ◌++◌, codes, Option, Some, None}
use Rattle.std.specs.Fmt.{digits}
use Rattle.r9_event.specs.declared.event.rio.Note.TheVariants as note
use Rattle.model_text.specs.text.Field.{field}
use Rattle.model_files.specs.wctl.Rectangle.{box}
use Rattle.model_files.specs.mouse.Pointer.{text}
use Rattle.model_files.specs.mouse.Queue.{fed, answer, answered}
use Rattle.model_files.specs.mouse.Happening.{queue_after}
use Rattle.model_files.specs.console.Console.{keyed, with_raw, read, after_read}
use Rattle.model_files.specs.console.Happening.{console_after}
use Rattle.model_rio.specs.window.Heard.{Heard, Noted, Raw, Written, MouseRead, ConsoleRead, Labelled, mouse_answer, console_answer, label_of, text_of, known_after, wctl_text}

-- all that the cases compute with
everything : ℕ
unfolding field text queue_after fed answer answered console_after keyed with_raw read after_read known_after wctl_text digits
everything = 0

-- what a test does with a window: something happens, or a file is read
data Try : Type 0 where
  Hear : (heard : Heard) → Try
  ReadMouse : Try
  ReadConsole : (count : ℕ) → Try
  ReadText : Try
  ReadWctl : Try
  ReadLabel : Try

abbrev step : List Heard → Option (List ℕ) → Heard → (List Heard → List (Option (List ℕ))) → List (Option (List ℕ))
step heard None read rest = None ∷ rest heard
step heard (Some bytes) read rest = Some bytes ∷ rest (heard ++ read ∷ [])

-- what the reads give
abbrev tried : List Heard → List Try → List (Option (List ℕ))
tried heard [] = []
tried heard (Hear h ∷ tries) = tried (heard ++ h ∷ []) tries
tried heard (ReadMouse ∷ tries) = step heard (mouse_answer heard) MouseRead (λ heard. tried heard tries)
tried heard (ReadConsole count ∷ tries) = step heard (console_answer count heard) (ConsoleRead count) (λ heard. tried heard tries)
tried heard (ReadText ∷ tries) = Some (text_of heard) ∷ tried heard tries
tried heard (ReadWctl ∷ tries) = Some (wctl_text (known_after heard)) ∷ tried heard tries
tried heard (ReadLabel ∷ tries) = Some (label_of heard) ∷ tried heard tries

-- a click and a release that nobody read wait, and then the read waits
drag : tried [] (
    Hear (Noted (note.Mouse (pos 5) (pos 5) 1 0)) ∷
    Hear (Noted (note.Mouse (pos 35) (pos 5) 0 1)) ∷
    ReadMouse ∷
    ReadMouse ∷
    ReadMouse ∷ [])
    ≡ (
    Some (codes "m          5           5           1           0 ") ∷
    Some (codes "m         35           5           0           1 ") ∷
    None ∷ [])
unfolding everything
drag = refl

-- the queue holds 16 clicks and drops its oldest
seventeen_clicks : tried [] (
    Hear (Noted (note.Mouse (pos 1) (pos 1) 1 1)) ∷
    Hear (Noted (note.Mouse (pos 1) (pos 1) 0 2)) ∷
    Hear (Noted (note.Mouse (pos 1) (pos 1) 1 3)) ∷
    Hear (Noted (note.Mouse (pos 1) (pos 1) 0 4)) ∷
    Hear (Noted (note.Mouse (pos 1) (pos 1) 1 5)) ∷
    Hear (Noted (note.Mouse (pos 1) (pos 1) 0 6)) ∷
    Hear (Noted (note.Mouse (pos 1) (pos 1) 1 7)) ∷
    Hear (Noted (note.Mouse (pos 1) (pos 1) 0 8)) ∷
    Hear (Noted (note.Mouse (pos 1) (pos 1) 1 9)) ∷
    Hear (Noted (note.Mouse (pos 1) (pos 1) 0 10)) ∷
    Hear (Noted (note.Mouse (pos 1) (pos 1) 1 11)) ∷
    Hear (Noted (note.Mouse (pos 1) (pos 1) 0 12)) ∷
    Hear (Noted (note.Mouse (pos 1) (pos 1) 1 13)) ∷
    Hear (Noted (note.Mouse (pos 1) (pos 1) 0 14)) ∷
    Hear (Noted (note.Mouse (pos 1) (pos 1) 1 15)) ∷
    Hear (Noted (note.Mouse (pos 1) (pos 1) 0 16)) ∷
    Hear (Noted (note.Mouse (pos 1) (pos 1) 1 17)) ∷
    ReadMouse ∷
    ReadMouse ∷
    ReadMouse ∷
    ReadMouse ∷
    ReadMouse ∷
    ReadMouse ∷
    ReadMouse ∷
    ReadMouse ∷
    ReadMouse ∷
    ReadMouse ∷
    ReadMouse ∷
    ReadMouse ∷
    ReadMouse ∷
    ReadMouse ∷
    ReadMouse ∷
    ReadMouse ∷
    ReadMouse ∷ [])
    ≡ (
    Some (codes "m          1           1           0           2 ") ∷
    Some (codes "m          1           1           1           3 ") ∷
    Some (codes "m          1           1           0           4 ") ∷
    Some (codes "m          1           1           1           5 ") ∷
    Some (codes "m          1           1           0           6 ") ∷
    Some (codes "m          1           1           1           7 ") ∷
    Some (codes "m          1           1           0           8 ") ∷
    Some (codes "m          1           1           1           9 ") ∷
    Some (codes "m          1           1           0          10 ") ∷
    Some (codes "m          1           1           1          11 ") ∷
    Some (codes "m          1           1           0          12 ") ∷
    Some (codes "m          1           1           1          13 ") ∷
    Some (codes "m          1           1           0          14 ") ∷
    Some (codes "m          1           1           1          15 ") ∷
    Some (codes "m          1           1           0          16 ") ∷
    Some (codes "m          1           1           1          17 ") ∷
    None ∷ [])
unfolding everything
seventeen_clicks = refl

-- a new image is told once, with the last event again
new_image : tried [] (
    ReadMouse ∷
    Hear (Noted (note.Moved [] (box (pos 0) (pos 0) (pos 9) (pos 9)))) ∷
    ReadMouse ∷
    ReadMouse ∷
    Hear (Noted (note.Mouse (pos 20) (pos 20) 0 100)) ∷
    ReadMouse ∷ [])
    ≡ (
    None ∷
    Some (codes "r          0           0           0           0 ") ∷
    None ∷
    Some (codes "m         20          20           0         100 ") ∷ [])
unfolding everything
new_image = refl

-- a line with a character taken back, and a raw key
keys : tried [] (
    Hear (Noted (note.Key (97 ∷ []))) ∷
    Hear (Noted (note.Key (98 ∷ []))) ∷
    Hear (Noted (note.Key (8 ∷ []))) ∷
    ReadConsole 100 ∷
    Hear (Noted (note.Key (99 ∷ []))) ∷
    Hear (Noted (note.Key (10 ∷ []))) ∷
    ReadConsole 100 ∷
    Hear (Raw true) ∷
    Hear (Noted (note.Key (120 ∷ []))) ∷
    ReadConsole 100 ∷
    ReadText ∷ [])
    ≡ (
    None ∷
    Some (codes "ac" ++ (10 ∷ [])) ∷
    Some (codes "x") ∷
    Some (codes "ac" ++ (10 ∷ [])) ∷ [])
unfolding everything
keys = refl

-- control-D ends a line, an empty one once; a short read leaves the rest
end_of_line : tried [] (
    Hear (Noted (note.Key (97 ∷ []))) ∷
    Hear (Noted (note.Key (98 ∷ []))) ∷
    Hear (Noted (note.Key (4 ∷ []))) ∷
    Hear (Noted (note.Key (4 ∷ []))) ∷
    ReadConsole 0 ∷
    ReadConsole 1 ∷
    ReadConsole 1 ∷
    ReadConsole 5 ∷
    ReadConsole 5 ∷ [])
    ≡ (
    Some [] ∷
    Some (codes "a") ∷
    Some (codes "b") ∷
    Some [] ∷
    None ∷ [])
unfolding everything
end_of_line = refl

-- events of all kinds among reads
events_and_reads : tried [] (
    Hear (Noted (note.Mouse (negsuc 6) (pos 32) 0 0)) ∷
    ReadMouse ∷
    ReadMouse ∷
    Hear (Noted (note.Key (21 ∷ []))) ∷
    Hear (Noted (note.Mouse (pos 6) (pos 3) 2 4)) ∷
    ReadMouse ∷
    Hear (Noted (note.Key (97 ∷ []))) ∷
    Hear (Noted (note.Key (195 ∷ 169 ∷ []))) ∷
    Hear (Noted (note.Key (98 ∷ []))) ∷
    Hear (Noted (note.Key (97 ∷ []))) ∷
    ReadConsole 0 ∷
    Hear (Noted (note.Mouse (pos 8) (pos 1) 2 11)) ∷
    Hear (Noted (note.Key (10 ∷ []))) ∷
    Hear (Noted (note.Key (4 ∷ []))) ∷
    Hear (Noted (note.Mouse (pos 5) (pos 63) 0 14)) ∷
    Hear (Noted (note.Mouse (negsuc 1) (pos 58) 1 15)) ∷
    ReadConsole 100 ∷
    Hear (Raw false) ∷
    Hear (Noted (note.Key (98 ∷ []))) ∷
    Hear (Noted (note.Key (8 ∷ []))) ∷
    Hear (Written (codes "w20")) ∷
    Hear (Noted (note.Mouse (pos 1) (pos 54) 0 21)) ∷
    Hear (Noted (note.Mouse (pos 6) (pos 50) 0 22)) ∷
    ReadMouse ∷
    Hear (Noted (note.Key (10 ∷ []))) ∷
    ReadMouse ∷
    Hear (Noted (note.Mouse (pos 8) (pos 47) 0 26)) ∷
    ReadMouse ∷
    Hear (Noted (note.Key (21 ∷ []))) ∷
    Hear (Noted (note.Mouse (pos 3) (pos 47) 2 29)) ∷
    Hear (Noted (note.Key (10 ∷ []))) ∷
    Hear (Noted (note.Mouse (pos 3) (pos 21) 0 31)) ∷
    Hear (Noted (note.Key (97 ∷ []))) ∷
    Hear (Noted (note.Key (4 ∷ []))) ∷
    ReadConsole 1 ∷
    ReadMouse ∷
    Hear (Noted (note.Mouse (pos 2) (pos 58) 1 36)) ∷
    Hear (Noted (note.Key (4 ∷ []))) ∷
    ReadConsole 0 ∷
    Hear (Noted (note.Moved [] (box (pos 0) (pos 0) (pos 9) (pos 9)))) ∷
    Hear (Written (codes "w40")) ∷
    ReadConsole 1 ∷
    Hear (Noted (note.Key (4 ∷ []))) ∷
    Hear (Noted (note.Mouse (negsuc 7) (pos 61) 1 43)) ∷
    Hear (Noted (note.Key (98 ∷ []))) ∷
    ReadConsole 100 ∷
    ReadMouse ∷
    Hear (Noted (note.Moved [] (box (pos 0) (pos 0) (pos 9) (pos 9)))) ∷
    Hear (Noted (note.Mouse (pos 8) (pos 42) 2 48)) ∷
    Hear (Noted (note.Key (21 ∷ []))) ∷
    Hear (Noted (note.Mouse (negsuc 3) (pos 23) 0 50)) ∷
    Hear (Noted (note.Key (21 ∷ []))) ∷
    Hear (Written (codes "w52")) ∷
    ReadConsole 0 ∷
    Hear (Raw false) ∷
    Hear (Noted (note.Mouse (negsuc 8) (pos 57) 0 55)) ∷
    Hear (Noted (note.Key (195 ∷ 169 ∷ []))) ∷
    Hear (Noted (note.Mouse (negsuc 5) (pos 23) 1 57)) ∷
    Hear (Noted (note.Mouse (negsuc 3) (pos 20) 1 58)) ∷
    Hear (Noted (note.Key (98 ∷ []))) ∷ [])
    ≡ (
    Some (codes "m         -7          32           0           0 ") ∷
    None ∷
    Some (codes "m          6           3           2           4 ") ∷
    Some [] ∷
    Some (codes "a" ++ (195 ∷ []) ++ (169 ∷ []) ++ codes "ba" ++ (10 ∷ [])) ∷
    Some (codes "m          5          63           0          14 ") ∷
    Some (codes "m         -2          58           1          15 ") ∷
    Some (codes "m          1          54           0          21 ") ∷
    Some [] ∷
    Some (codes "m          3          47           2          29 ") ∷
    Some [] ∷
    Some ((10 ∷ [])) ∷
    Some ((10 ∷ [])) ∷
    Some (codes "r          3          21           0          31 ") ∷
    Some [] ∷ [])
unfolding everything
events_and_reads = refl

-- the text of a window's wctl
told : tried [] (Hear (Noted (note.Made 1 1 (codes "window.1.1") (box (pos 10) (pos 10) (pos 50) (pos 40)) 1)) ∷ Hear (Noted (note.Current true)) ∷ ReadWctl ∷ [])
    ≡ Some (codes "         10          10          50          40 current visible ") ∷ []
unfolding everything
told = refl

-- a window that was moved, hidden and is no longer current
told_again : tried [] (Hear (Noted (note.Made 1 1 (codes "window.1.1") (box (pos 10) (pos 10) (pos 50) (pos 40)) 1)) ∷ Hear (Noted (note.Current true)) ∷ Hear (Noted (note.Moved (codes "window.1.2") (box (pos 20) (pos 12) (pos 60) (pos 42)))) ∷ Hear (Noted (note.Hidden true)) ∷ Hear (Noted (note.Current false)) ∷ ReadWctl ∷ [])
    ≡ Some (codes "         20          12          60          42 notcurrent hidden ") ∷ []
unfolding everything
told_again = refl

-- the label is empty at first, and each write replaces it
labels : tried [] (ReadLabel ∷ Hear (Labelled (codes "one")) ∷ Hear (Labelled (codes "two")) ∷ ReadLabel ∷ Hear (Labelled []) ∷ ReadLabel ∷ [])
    ≡ Some [] ∷ Some (codes "two") ∷ Some [] ∷ []
unfolding everything
labels = refl
