-- What some lists of events give, by computing.
use Rattle.std.specs.Prelude.{◌≡◌, refl, ℕ, pos, negsuc, List, [], ◌∷◌, ◌++◌, map, codes, Some, None, replicate}
use Rattle.std.specs.Fmt.{digits}
use Rattle.model_files.specs.declared.mouse.Mouse.{Mouse}
use Rattle.model_files.specs.mouse.Pointer.{text, pointer_of}
use Rattle.model_files.specs.mouse.Queue.{fed, answer, answered}
use Rattle.model_files.specs.mouse.Happening.{Happening, Event, Image, Answer, queue_after}
use Rattle.model_text.specs.text.Field.{field, read_field}

abbrev at : ℕ → ℕ → ℕ → ℕ → Mouse
at x y buttons msec = record { x = pos x; y = pos y; buttons = buttons; msec = msec }

answers : map (λ (all : List Happening). answer (queue_after all))
    (
    [] ∷
    (Image ∷ []) ∷
    (Image ∷ Answer ∷ []) ∷
    (Event (at 20 20 0 100) ∷ []) ∷
    (Event (at 20 20 0 100) ∷ Event (at 21 20 0 101) ∷ []) ∷
    (Event (at 20 20 0 100) ∷ Answer ∷ []) ∷
    (Event (at 5 5 1 1) ∷ Event (at 35 5 0 3) ∷ []) ∷
    (Event (at 5 5 1 1) ∷ Event (at 35 5 0 3) ∷ Answer ∷ []) ∷
    (Event (at 5 5 1 1) ∷ Event (at 35 5 0 3) ∷ Answer ∷ Answer ∷ []) ∷
    (Event (at 1 1 0 1) ∷ Event (at 1 1 1 2) ∷ Answer ∷ []) ∷
    (Event (at 1 1 1 2) ∷ Event (at 2 1 1 3) ∷ Image ∷ []) ∷
    (Event (at 1 1 1 2) ∷ Event (at 2 1 1 3) ∷ Image ∷ Answer ∷ []) ∷
    (Event (at 1 1 1 2) ∷ Answer ∷ Image ∷ []) ∷ [])
    ≡ (
    None ∷
    Some (114, at 0 0 0 0) ∷
    None ∷
    Some (109, at 20 20 0 100) ∷
    Some (109, at 21 20 0 101) ∷
    None ∷
    Some (109, at 5 5 1 1) ∷
    Some (109, at 35 5 0 3) ∷
    None ∷
    None ∷
    Some (114, at 1 1 1 2) ∷
    Some (109, at 2 1 1 3) ∷
    Some (114, at 1 1 1 2) ∷ [])
unfolding queue_after fed answer answered
answers = refl

-- seventeen clicks, of which the first is gone, and sixteen reads
abbrev seventeen : List Happening
seventeen = map (λ (e : ℕ × ℕ). Event (at 5 5 e.0 e.1))
    ((1, 1) ∷ (0, 2) ∷ (1, 3) ∷ (0, 4) ∷ (1, 5) ∷ (0, 6) ∷ (1, 7) ∷ (0, 8) ∷ (1, 9) ∷ (0, 10) ∷ (1, 11) ∷ (0, 12) ∷ (1, 13) ∷ (0, 14) ∷ (1, 15) ∷ (0, 16) ∷ (1, 17) ∷ [])

overflown : map (λ reads. answer (queue_after (seventeen ++ replicate reads Answer))) (0 ∷ 15 ∷ 16 ∷ [])
    ≡ (Some (109, at 5 5 0 2) ∷ Some (109, at 5 5 1 17) ∷ None ∷ [])
unfolding queue_after fed answer answered
overflown = refl

texts : map pointer_of
    (
    codes "m         20          20           0         100 " ∷
    codes "m   -1048576     1048576          31  4294967295 " ∷
    codes "r         20          20           0         100 " ∷
    codes "m   -1048577          20           0         100 " ∷
    codes "m         20     1048577           0         100 " ∷
    codes "m         20          20          32         100 " ∷
    codes "m         20          20          -1         100 " ∷
    codes "m         20          20           0  4294967296 " ∷
    codes "m         20          20           0          -1 " ∷
    codes "m         20          20           0         100" ∷
    codes "m         20          20           0         100  " ∷
    codes "m         20          20           0         1 0 " ∷
    codes "m         +2          20           0         100 " ∷ [])
    ≡ (
    Some (at 20 20 0 100) ∷
    Some (record { x = negsuc 1048575; y = pos 1048576; buttons = 31; msec = 4294967295 }) ∷
    None ∷ None ∷ None ∷ None ∷ None ∷ None ∷ None ∷ None ∷ None ∷ None ∷ None ∷ [])
unfolding pointer_of read_field
texts = refl

written : text 114 (record { x = negsuc 6; y = pos 12345; buttons = 4; msec = 99 }) ≡ codes "r         -7       12345           4          99 "
unfolding text field digits
written = refl
