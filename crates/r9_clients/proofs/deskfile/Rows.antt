-- Inputs, and the places where bytes are none, by computing.
use Rattle.std.specs.Prelude.{◌≡◌, refl, ℕ, pos, List, [], ◌∷◌, ◌++◌, codes, take, drop, Ok, Err}
use Rattle.model_text.specs.text.Field.{read_field}
use Rattle.model_files.specs.declared.mouse.Mouse.{Mouse}
use Rattle.model_files.specs.mouse.Pointer.{pointer_of}
use Rattle.r9_clients.specs.deskfile.Events.{event_of, events_from, events_of}

-- all that the cases compute with
everything : ℕ
unfolding events_of events_from event_of pointer_of read_field
everything = 0

abbrev press : List ℕ
press = codes "m        100         100           4           0 "

abbrev release : List ℕ
release = codes "m        639         479           0          10 "

abbrev event : (x y buttons msec : ℕ) → Mouse
event x y buttons msec = record { x = pos x; y = pos y; buttons = buttons; msec = msec }

two : events_of (press ++ release) ≡ Ok (event 100 100 4 0 ∷ event 639 479 0 10 ∷ [])
unfolding everything
two = refl

empty : events_of [] ≡ Ok []
unfolding everything
empty = refl

-- 48 bytes
cut : events_of (take 48 press) ≡ Err 0
unfolding everything
cut = refl

second_cut : events_of (press ++ take 1 release) ≡ Err 49
unfolding everything
second_cut = refl

-- an event of a window that has another image
other_letter : events_of (press ++ press ++ 114 ∷ drop 1 press) ≡ Err 98
unfolding everything
other_letter = refl

right_of_the_display : events_of (press ++ codes "m        640           0           0           0 ") ≡ Err 49
unfolding everything
right_of_the_display = refl

below_the_display : events_of (codes "m          0         480           0           0 ") ≡ Err 0
unfolding everything
below_the_display = refl

left_of_the_display : events_of (codes "m         -1           0           0           0 ") ≡ Err 0
unfolding everything
left_of_the_display = refl

other_buttons : events_of (codes "m          0           0          32           0 ") ≡ Err 0
unfolding everything
other_buttons = refl
