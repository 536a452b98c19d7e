-- What some acts do, by computing.
use Rattle.std.specs.Prelude.{◌≡◌, refl, replicate, Some, None, ℕ, ◌+◌, true, false, pos, neg_ℤ, List, [], ◌∷◌, codes, Ok, Err}
use Rattle.std.specs.List.{flat_map, last_or}
use Rattle.std.specs.Fmt.{digits}
use Rattle.std.specs.Str.{chars}
use Rattle.r9_geom.specs.declared.Rect.{Rect}
use Rattle.r9_event.specs.declared.event.rio.Note.{Note}
use Rattle.r9_event.specs.declared.event.rio.Note.TheVariants as note
use Rattle.r9_event.specs.declared.event.rio.Order.{Order}
use Rattle.r9_event.specs.declared.event.rio.Order.TheVariants as order
use Rattle.model_files.specs.declared.mouse.Mouse.{Mouse}
use Rattle.model_text.specs.text.Outcome.{Outcome}
use Rattle.model_files.specs.declared.wctl.Choice.TheVariants as choice
use Rattle.model_files.specs.declared.wctl.Amount.TheVariants as amount
use Rattle.model_files.specs.wctl.Command as wctl
use Rattle.model_files.specs.wctl.Rectangle.{applied, box}
use Rattle.model_rio.specs.rio.Table.{Table, opened, name_by, path_up, found, serials_of}
use Rattle.model_rio.specs.rio.Act.{Act}
use Rattle.model_rio.specs.rio.Act as act
use Rattle.model_rio.specs.rio.Step.{Step, with_current, retired}
use Rattle.model_rio.specs.rio.Moving.{replaced, moved, dropped, deleted}
use Rattle.model_rio.specs.rio.Routing.{moused, reacted, focus}
use Rattle.model_rio.specs.rio.Rio.{made, hidden, shown, new_in, hosted, moved_by, resized, command_to, rio}

-- the orders and notes of a step, or its refusal
abbrev Told : Type 0
Told = Outcome (List Order × List (ℕ × Note))

abbrev told : Table → Outcome Step → (Table → List Told) → List Told
told table (Ok step) rest = Ok (step.orders, step.notes) ∷ rest step.table
told table (Err n) rest = Err n ∷ rest table

-- what is told of acts, one after the other
abbrev told_all : Table → List Act → List Told
told_all table [] = []
told_all table (a ∷ acts) = told table (rio table a) (λ next. told_all next acts)

abbrev on : ℕ → ℕ → ℕ → ℕ → Rect
on x0 y0 x1 y1 = box (pos x0) (pos y0) (pos x1) (pos y1)

abbrev pointer : ℕ → ℕ → ℕ → ℕ → Mouse
pointer x y buttons msec = record { x = pos x; y = pos y; buttons = buttons; msec = msec }

abbrev display : Table
display = opened (on 0 0 64 48)

-- a window moves and gets the next name
a_window_moves : told_all display
    (
    act.New 0 (choice.R (on 10 10 50 40) ∷ []) false ∷
    act.Command 1 (wctl.Move (choice.Minx (amount.Is (pos 20)) ∷ choice.Miny (amount.Is (pos 12)) ∷ [])) ∷ [])
    ≡ (
    Ok ((order.Make 1 0 (on 10 10 50 40) (codes "window.1.1") false 1 ∷ []), ((1, note.Made 1 1 (codes "window.1.1") (on 10 10 50 40) 1) ∷ (1, note.Current true) ∷ [])) ∷
    Ok ((order.Replace 1 0 (on 20 12 60 42) (codes "window.1.2") true false ∷ []), ((1, note.Moved (codes "window.1.2") (on 20 12 60 42)) ∷ [])) ∷ [])
unfolding made new_in hosted moved_by command_to hidden shown moved replaced dropped deleted moused reacted focus with_current retired name_by path_up applied digits chars lib.Utf8.encode
a_window_moves = refl

-- a side has at least 12 points; a window that is not there is refused
a_side_is_at_least_twelve : told_all display
    (
    act.New 0 (choice.R (on 10 10 50 40) ∷ []) false ∷
    act.Command 1 (wctl.Resize (choice.R (on 0 0 11 40) ∷ [])) ∷
    act.Command 1 (wctl.Resize (choice.R (on 0 0 12 12) ∷ [])) ∷
    act.Command 9 wctl.Top ∷ [])
    ≡ (
    Ok ((order.Make 1 0 (on 10 10 50 40) (codes "window.1.1") false 1 ∷ []), ((1, note.Made 1 1 (codes "window.1.1") (on 10 10 50 40) 1) ∷ (1, note.Current true) ∷ [])) ∷
    Err 47 ∷
    Ok ((order.Replace 1 0 (on 0 0 12 12) (codes "window.1.2") false false ∷ []), ((1, note.Resized (codes "window.1.2") (on 0 0 12 12)) ∷ [])) ∷
    Err 42 ∷ [])
unfolding made new_in hosted moved_by command_to hidden shown moved replaced dropped deleted moused reacted focus with_current retired name_by path_up applied digits chars lib.Utf8.encode
a_side_is_at_least_twelve = refl

-- the windows of a rio in a window follow it, and go before it
a_rio_in_a_window : told_all display
    (
    act.New 0 (choice.R (on 10 10 50 40) ∷ []) false ∷
    act.Command 1 wctl.Host ∷
    act.New 1 (choice.R (on 20 20 40 36) ∷ []) false ∷
    act.Command 1 (wctl.Move (choice.Minx (amount.Is (pos 20)) ∷ [])) ∷
    act.Command 1 wctl.Host ∷
    act.Command 1 wctl.Delete ∷
    act.Command 2 wctl.Top ∷ [])
    ≡ (
    Ok ((order.Make 1 0 (on 10 10 50 40) (codes "window.1.1") false 1 ∷ []), ((1, note.Made 1 1 (codes "window.1.1") (on 10 10 50 40) 1) ∷ (1, note.Current true) ∷ [])) ∷
    Ok ((order.Host 1 true ∷ []), ([])) ∷
    Ok ((order.Make 2 1 (on 20 20 40 36) (codes "window.1/1.1") false 2 ∷ []), ((2, note.Made 1 2 (codes "window.1/1.1") (on 20 20 40 36) 2) ∷ (2, note.Current true) ∷ [])) ∷
    Ok ((order.Replace 1 0 (on 20 10 60 40) (codes "window.1.2") true false ∷ order.Host 1 false ∷ order.Replace 2 1 (on 30 20 50 36) (codes "window.1/1.2") true false ∷ []), ((1, note.Moved (codes "window.1.2") (on 20 10 60 40)) ∷ (2, note.Moved (codes "window.1/1.2") (on 30 20 50 36)) ∷ [])) ∷
    Err 47 ∷
    Ok ((order.Drop 2 ∷ order.Drop 1 ∷ []), ((2, note.Current false) ∷ (2, note.Deleted) ∷ (1, note.Current false) ∷ (1, note.Deleted) ∷ [])) ∷
    Err 42 ∷ [])
unfolding made new_in hosted moved_by command_to hidden shown moved replaced dropped deleted moused reacted focus with_current retired name_by path_up applied digits chars lib.Utf8.encode
a_rio_in_a_window = refl

-- a window that holds the mouse gets every event until its buttons are released
a_drag_goes_to_its_holder : told_all display
    (
    act.New 0 (choice.R (on 0 0 20 20) ∷ []) false ∷
    act.New 0 (choice.R (on 30 0 50 20) ∷ []) false ∷
    act.Mouse (pointer 5 5 1 0) ∷
    act.Mouse (pointer 35 5 1 1) ∷
    act.Mouse (pointer 35 5 0 2) ∷
    act.Mouse (pointer 35 5 0 3) ∷ [])
    ≡ (
    Ok ((order.Make 1 0 (on 0 0 20 20) (codes "window.1.1") false 1 ∷ []), ((1, note.Made 1 1 (codes "window.1.1") (on 0 0 20 20) 1) ∷ (1, note.Current true) ∷ [])) ∷
    Ok ((order.Make 2 0 (on 30 0 50 20) (codes "window.2.1") false 1 ∷ []), ((2, note.Made 2 2 (codes "window.2.1") (on 30 0 50 20) 1) ∷ (1, note.Current false) ∷ (2, note.Current true) ∷ [])) ∷
    Ok ((order.Raise 1 ∷ []), ((2, note.Current false) ∷ (1, note.Current true) ∷ (1, note.Mouse (pos 5) (pos 5) 1 0) ∷ [])) ∷
    Ok (([]), ((1, note.Mouse (pos 35) (pos 5) 1 1) ∷ [])) ∷
    Ok (([]), ((1, note.Mouse (pos 35) (pos 5) 0 2) ∷ [])) ∷
    Ok (([]), ([])) ∷ [])
unfolding made new_in hosted moved_by command_to hidden shown moved replaced dropped deleted moused reacted focus with_current retired name_by path_up applied digits chars lib.Utf8.encode
a_drag_goes_to_its_holder = refl

-- a hidden window gets nothing, and is shown where it becomes current
hidden_and_shown : told_all display
    (
    act.New 0 [] true ∷
    act.Command 1 (wctl.Move (choice.Minx (amount.Is (pos 30)) ∷ [])) ∷
    act.Keys (codes "a") ∷
    act.Command 1 wctl.Current ∷
    act.Keys (codes "ab") ∷
    act.Command 1 wctl.Hide ∷
    act.Command 1 wctl.Hide ∷
    act.Mouse (pointer 35 15 1 0) ∷
    act.Mouse (pointer 35 15 0 0) ∷ [])
    ≡ (
    Ok ((order.Make 1 0 (on 10 10 42 34) (codes "window.1.1") true 1 ∷ []), ((1, note.Made 1 1 (codes "window.1.1") (on 10 10 42 34) 1) ∷ (1, note.Hidden true) ∷ [])) ∷
    Ok ((order.Replace 1 0 (on 30 10 62 34) (codes "window.1.2") true true ∷ []), ((1, note.Moved (codes "window.1.2") (on 30 10 62 34)) ∷ [])) ∷
    Ok (([]), ([])) ∷
    Ok ((order.Place 1 (record { x = (pos 30); y = (pos 10) }) ∷ order.Raise 1 ∷ []), ((1, note.Hidden false) ∷ (1, note.Current true) ∷ [])) ∷
    Ok (([]), ((1, note.Key (97 ∷ [])) ∷ (1, note.Key (98 ∷ [])) ∷ [])) ∷
    Ok ((order.Place 1 (record { x = (pos 1048576); y = (pos 1048576) }) ∷ []), ((1, note.Hidden true) ∷ (1, note.Current false) ∷ [])) ∷
    Ok (([]), ([])) ∷
    Ok (([]), ([])) ∷
    Ok (([]), ([])) ∷ [])
unfolding made new_in hosted moved_by command_to hidden shown moved replaced dropped deleted moused reacted focus with_current retired name_by path_up applied digits chars lib.Utf8.encode
hidden_and_shown = refl

-- the sixty-fifth window
one_too_many : last_or None (told_all display (replicate 65 (act.New 0 [] true))) ≡ Some (Err 49)
unfolding made new_in with_current name_by path_up applied digits
one_too_many = refl

-- a rio in a window of a rio in a window, and so on: eight are nested in the root's
one_too_deep : last_or None (told_all display (flat_map (λ k. act.New k (choice.R (on 0 0 20 20) ∷ []) true ∷ act.Command (k + 1) wctl.Host ∷ [])
    (0 ∷ 1 ∷ 2 ∷ 3 ∷ 4 ∷ 5 ∷ 6 ∷ 7 ∷ 8 ∷ []))) ≡ Some (Err 50)
unfolding made new_in hosted command_to with_current name_by path_up applied digits
one_too_deep = refl

-- a press on a window that hosts a rio goes to a window of that rio, and the host is told that it is current alone; keys
-- go the same way
a_host_passes_on : told_all display
    (
    act.New 0 (choice.R (on 0 0 40 40) ∷ []) false ∷
    act.New 0 (choice.R (on 44 0 60 40) ∷ []) false ∷
    act.Command 1 wctl.Host ∷
    act.New 1 (choice.R (on 10 10 30 30) ∷ []) false ∷
    act.Mouse (pointer 15 15 1 7) ∷
    act.Mouse (pointer 15 15 0 8) ∷
    act.Mouse (pointer 2 2 1 9) ∷
    act.Mouse (pointer 15 15 1 10) ∷
    act.Keys (195 ∷ 169 ∷ 98 ∷ []) ∷ [])
    ≡ (
    Ok ((order.Make 1 0 (on 0 0 40 40) (codes "window.1.1") false 1 ∷ []), ((1, note.Made 1 1 (codes "window.1.1") (on 0 0 40 40) 1) ∷ (1, note.Current true) ∷ [])) ∷
    Ok ((order.Make 2 0 (on 44 0 60 40) (codes "window.2.1") false 1 ∷ []), ((2, note.Made 2 2 (codes "window.2.1") (on 44 0 60 40) 1) ∷ (1, note.Current false) ∷ (2, note.Current true) ∷ [])) ∷
    Ok ((order.Host 1 true ∷ []), ([])) ∷
    Ok ((order.Make 3 1 (on 10 10 30 30) (codes "window.1/1.1") false 2 ∷ []), ((3, note.Made 1 3 (codes "window.1/1.1") (on 10 10 30 30) 2) ∷ (3, note.Current true) ∷ [])) ∷
    Ok ((order.Raise 1 ∷ order.Raise 3 ∷ []), ((2, note.Current false) ∷ (1, note.Current true) ∷ (3, note.Mouse (pos 15) (pos 15) 1 7) ∷ [])) ∷
    Ok (([]), ((3, note.Mouse (pos 15) (pos 15) 0 8) ∷ [])) ∷
    Ok ((order.Raise 1 ∷ []), ([])) ∷
    Ok (([]), ([])) ∷
    Ok (([]), ((3, note.Key (195 ∷ 169 ∷ [])) ∷ (3, note.Key (98 ∷ [])) ∷ [])) ∷ [])
unfolding made new_in hosted moved_by command_to hidden shown moved replaced dropped deleted moused reacted focus with_current retired name_by path_up applied digits chars lib.Utf8.encode
a_host_passes_on = refl

-- a host that gets another size is filled anew and its windows keep theirs; where one of them would come too far out, the
-- whole act is refused
a_host_gets_another_size : told_all display
    (
    act.New 0 (choice.R (on 10 10 50 40) ∷ []) false ∷
    act.Command 1 wctl.Host ∷
    act.New 1 (choice.R (on 20 20 40 36) ∷ []) false ∷
    act.New 1 (choice.R (on 999900 0 1000000 90) ∷ []) true ∷
    act.Command 1 (wctl.Resize (choice.R (on 12 10 44 36) ∷ [])) ∷
    act.Command 1 (wctl.Move (choice.Minx (amount.Is (pos 100000)) ∷ [])) ∷
    act.Command 1 (wctl.Move (choice.Minx (amount.Is (pos 13)) ∷ [])) ∷ [])
    ≡ (
    Ok ((order.Make 1 0 (on 10 10 50 40) (codes "window.1.1") false 1 ∷ []), ((1, note.Made 1 1 (codes "window.1.1") (on 10 10 50 40) 1) ∷ (1, note.Current true) ∷ [])) ∷
    Ok ((order.Host 1 true ∷ []), ([])) ∷
    Ok ((order.Make 2 1 (on 20 20 40 36) (codes "window.1/1.1") false 2 ∷ []), ((2, note.Made 1 2 (codes "window.1/1.1") (on 20 20 40 36) 2) ∷ (2, note.Current true) ∷ [])) ∷
    Ok ((order.Make 3 1 (on 999900 0 1000000 90) (codes "window.1/2.1") true 2 ∷ []), ((3, note.Made 2 3 (codes "window.1/2.1") (on 999900 0 1000000 90) 2) ∷ (3, note.Hidden true) ∷ [])) ∷
    Ok ((order.Replace 1 0 (on 12 10 44 36) (codes "window.1.2") false false ∷ order.Host 1 true ∷ order.Replace 2 1 (on 22 20 42 36) (codes "window.1/1.2") true false ∷ order.Replace 3 1 (on 999902 0 1000002 90) (codes "window.1/2.2") true true ∷ []), ((1, note.Resized (codes "window.1.2") (on 12 10 44 36)) ∷ (2, note.Moved (codes "window.1/1.2") (on 22 20 42 36)) ∷ (3, note.Moved (codes "window.1/2.2") (on 999902 0 1000002 90)) ∷ [])) ∷
    Err 47 ∷
    Ok ((order.Replace 1 0 (on 13 10 45 36) (codes "window.1.3") true false ∷ order.Host 1 false ∷ order.Replace 2 1 (on 23 20 43 36) (codes "window.1/1.3") true false ∷ order.Replace 3 1 (on 999903 0 1000003 90) (codes "window.1/2.3") true true ∷ []), ((1, note.Moved (codes "window.1.3") (on 13 10 45 36)) ∷ (2, note.Moved (codes "window.1/1.3") (on 23 20 43 36)) ∷ (3, note.Moved (codes "window.1/2.3") (on 999903 0 1000003 90)) ∷ [])) ∷ [])
unfolding made new_in hosted moved_by command_to hidden shown moved replaced dropped deleted moused reacted focus with_current retired name_by path_up applied digits chars lib.Utf8.encode
a_host_gets_another_size = refl

-- a smaller display: the window that has no point of it moves to its corner; then the display is as it was
a_smaller_display : told_all display
    (
    act.New 0 (choice.R (on 10 10 50 40) ∷ []) false ∷
    act.New 0 (choice.R (on 40 30 60 46) ∷ []) false ∷
    act.Size 32 24 ∷
    act.Size 64 48 ∷ [])
    ≡ (
    Ok ((order.Make 1 0 (on 10 10 50 40) (codes "window.1.1") false 1 ∷ []), ((1, note.Made 1 1 (codes "window.1.1") (on 10 10 50 40) 1) ∷ (1, note.Current true) ∷ [])) ∷
    Ok ((order.Make 2 0 (on 40 30 60 46) (codes "window.2.1") false 1 ∷ []), ((2, note.Made 2 2 (codes "window.2.1") (on 40 30 60 46) 1) ∷ (1, note.Current false) ∷ (2, note.Current true) ∷ [])) ∷
    Ok ((order.Size 32 24 ∷ order.Replace 2 0 (on 0 0 20 16) (codes "window.2.2") true false ∷ []), ((2, note.Moved (codes "window.2.2") (on 0 0 20 16)) ∷ [])) ∷
    Ok ((order.Size 64 48 ∷ []), ([])) ∷ [])
unfolding made new_in hosted moved_by command_to hidden shown resized moved replaced dropped deleted moused reacted focus with_current retired name_by path_up applied digits chars lib.Utf8.encode
a_smaller_display = refl

-- Also where the display has that size already, windows move: the lowest first, a hidden one by its rectangle, and a window
-- with those in it. What only touches the display has no point of it.
windows_off_the_display : told_all display
    (
    act.New 0 (choice.R (on 64 0 80 20) ∷ []) false ∷
    act.New 0 (choice.R (on 70 10 90 30) ∷ []) true ∷
    act.New 0 (choice.R (on 63 47 80 60) ∷ []) false ∷
    act.Command 1 wctl.Host ∷
    act.New 1 (choice.R (on 66 2 78 14) ∷ []) false ∷
    act.Size 64 48 ∷
    act.New 0 [] true ∷ [])
    ≡ (
    Ok ((order.Make 1 0 (on 64 0 80 20) (codes "window.1.1") false 1 ∷ []), ((1, note.Made 1 1 (codes "window.1.1") (on 64 0 80 20) 1) ∷ (1, note.Current true) ∷ [])) ∷
    Ok ((order.Make 2 0 (on 70 10 90 30) (codes "window.2.1") true 1 ∷ []), ((2, note.Made 2 2 (codes "window.2.1") (on 70 10 90 30) 1) ∷ (2, note.Hidden true) ∷ [])) ∷
    Ok ((order.Make 3 0 (on 63 47 80 60) (codes "window.3.1") false 1 ∷ []), ((3, note.Made 3 3 (codes "window.3.1") (on 63 47 80 60) 1) ∷ (1, note.Current false) ∷ (3, note.Current true) ∷ [])) ∷
    Ok ((order.Host 1 true ∷ []), ([])) ∷
    Ok ((order.Make 4 1 (on 66 2 78 14) (codes "window.1/1.1") false 2 ∷ []), ((4, note.Made 1 4 (codes "window.1/1.1") (on 66 2 78 14) 2) ∷ (4, note.Current true) ∷ [])) ∷
    Ok ((order.Size 64 48 ∷ order.Replace 1 0 (on 0 0 16 20) (codes "window.1.2") true false ∷ order.Host 1 false ∷ order.Replace 4 1 (on 2 2 14 14) (codes "window.1/1.2") true false ∷ order.Replace 2 0 (on 0 0 20 20) (codes "window.2.2") true true ∷ []), ((1, note.Moved (codes "window.1.2") (on 0 0 16 20)) ∷ (4, note.Moved (codes "window.1/1.2") (on 2 2 14 14)) ∷ (2, note.Moved (codes "window.2.2") (on 0 0 20 20)) ∷ [])) ∷
    Ok ((order.Make 5 0 (on 10 10 42 34) (codes "window.4.1") true 1 ∷ []), ((5, note.Made 4 5 (codes "window.4.1") (on 10 10 42 34) 1) ∷ (5, note.Hidden true) ∷ [])) ∷ [])
unfolding made new_in hosted moved_by command_to hidden shown resized moved replaced dropped deleted moused reacted focus with_current retired name_by path_up applied digits chars lib.Utf8.encode
windows_off_the_display = refl

-- where a window in one that moves would come too far out, nothing changes
a_refused_size : told_all display
    (
    act.New 0 (choice.R (on 100 0 140 40) ∷ []) true ∷
    act.Command 1 wctl.Host ∷
    act.New 1 (choice.R (box (neg_ℤ (pos 1048500)) (pos 0) (neg_ℤ (pos 1048480)) (pos 20)) ∷ []) true ∷
    act.Size 32 24 ∷
    act.New 0 [] true ∷ [])
    ≡ (
    Ok ((order.Make 1 0 (on 100 0 140 40) (codes "window.1.1") true 1 ∷ []), ((1, note.Made 1 1 (codes "window.1.1") (on 100 0 140 40) 1) ∷ (1, note.Hidden true) ∷ [])) ∷
    Ok ((order.Host 1 true ∷ []), ([])) ∷
    Ok ((order.Make 2 1 (box (neg_ℤ (pos 1048500)) (pos 0) (neg_ℤ (pos 1048480)) (pos 20)) (codes "window.1/1.1") true 2 ∷ []), ((2, note.Made 1 2 (codes "window.1/1.1") (box (neg_ℤ (pos 1048500)) (pos 0) (neg_ℤ (pos 1048480)) (pos 20)) 2) ∷ (2, note.Hidden true) ∷ [])) ∷
    Err 47 ∷
    Ok ((order.Make 3 0 (on 10 10 42 34) (codes "window.2.1") true 1 ∷ []), ((3, note.Made 2 3 (codes "window.2.1") (on 10 10 42 34) 1) ∷ (3, note.Hidden true) ∷ [])) ∷ [])
unfolding made new_in hosted moved_by command_to hidden shown resized moved replaced dropped deleted moused reacted focus with_current retired name_by path_up applied digits chars lib.Utf8.encode
a_refused_size = refl

-- a press beside all windows holds the mouse for nobody, and so does a holder that goes; a number is given once
nobody_holds : told_all display
    (
    act.New 0 (choice.R (on 0 0 20 20) ∷ []) false ∷
    act.New 0 (choice.R (on 0 0 20 20) ∷ []) false ∷
    act.Mouse (pointer 40 40 1 0) ∷
    act.Mouse (pointer 5 5 1 1) ∷
    act.Mouse (pointer 5 5 0 2) ∷
    act.Mouse (pointer 5 5 0 3) ∷
    act.Command 2 wctl.Bottom ∷
    act.Mouse (pointer 5 5 0 4) ∷
    act.Mouse (pointer 5 5 2 5) ∷
    act.Gone 1 ∷
    act.Mouse (pointer 5 5 2 6) ∷
    act.Gone 1 ∷
    act.New 1 [] false ∷
    act.New 0 (choice.R (on 0 0 20 20) ∷ []) true ∷ [])
    ≡ (
    Ok ((order.Make 1 0 (on 0 0 20 20) (codes "window.1.1") false 1 ∷ []), ((1, note.Made 1 1 (codes "window.1.1") (on 0 0 20 20) 1) ∷ (1, note.Current true) ∷ [])) ∷
    Ok ((order.Make 2 0 (on 0 0 20 20) (codes "window.2.1") false 1 ∷ []), ((2, note.Made 2 2 (codes "window.2.1") (on 0 0 20 20) 1) ∷ (1, note.Current false) ∷ (2, note.Current true) ∷ [])) ∷
    Ok (([]), ([])) ∷
    Ok (([]), ([])) ∷
    Ok (([]), ([])) ∷
    Ok (([]), ((2, note.Mouse (pos 5) (pos 5) 0 3) ∷ [])) ∷
    Ok ((order.Lower 2 ∷ []), ([])) ∷
    Ok (([]), ([])) ∷
    Ok ((order.Raise 1 ∷ []), ((2, note.Current false) ∷ (1, note.Current true) ∷ (1, note.Mouse (pos 5) (pos 5) 2 5) ∷ [])) ∷
    Ok ((order.Drop 1 ∷ []), ((1, note.Current false) ∷ (1, note.Deleted) ∷ [])) ∷
    Ok (([]), ([])) ∷
    Err 42 ∷
    Err 42 ∷
    Ok ((order.Make 3 0 (on 0 0 20 20) (codes "window.3.1") true 1 ∷ []), ((3, note.Made 3 3 (codes "window.3.1") (on 0 0 20 20) 1) ∷ (3, note.Hidden true) ∷ [])) ∷ [])
unfolding made new_in hosted moved_by command_to hidden shown moved replaced dropped deleted moused reacted focus with_current retired name_by path_up applied digits chars lib.Utf8.encode
nobody_holds = refl

-- the table after acts, one after the other
abbrev table_of : Table → Outcome Step → Table
table_of table (Ok step) = step.table
table_of table (Err n) = table

abbrev after : Table → List Act → Table
after table [] = table
after table (a ∷ acts) = after (table_of table (rio table a)) acts

-- windows are found by the numbers on the way to them
windows_by_path :
    let table = after display (act.New 0 [] false ∷ act.New 0 [] false ∷ act.Command 2 wctl.Host ∷ act.New 2 (choice.R (on 0 0 20 20) ∷ []) false ∷ act.New 2 (choice.R (on 0 0 20 20) ∷ []) false ∷ act.Command 3 wctl.Bottom ∷ act.Gone 1 ∷ []) in
    (found table (2 ∷ 2 ∷ []) ≡ Some 4) × (found table (1 ∷ []) ≡ None) × (found table [] ≡ None) × (found table (2 ∷ []) ≡ Some 2) × (serials_of table 2 ≡ 3 ∷ 4 ∷ [])
unfolding made new_in hosted command_to dropped deleted with_current retired name_by path_up applied digits found serials_of
windows_by_path = (refl, refl, refl, refl, refl)
