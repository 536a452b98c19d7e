-- What some lists of events write, and the table that they leave, by computing.
use Rattle.std.specs.Prelude.{◌≡◌, refl, ℕ, pos, [], ◌∷◌, codes}
use Rattle.std.specs.Fmt.{digits}
use Rattle.model_text.specs.text.Field.{field}
use Rattle.model_files.specs.declared.mouse.Mouse.{Mouse}
use Rattle.model_files.specs.mouse.Pointer.{text}
use Rattle.model_client.specs.desk.Table.{Pane, Idle, done}
use Rattle.model_client.specs.desk.Asked.{asked}
use Rattle.model_client.specs.desk.Spelled.{Wctl, Mousein, spelled}
use Rattle.model_client.specs.desk.Pilot.{pilot, after_all, after, written}

-- all that the cases compute with
everything : ℕ
unfolding pilot after_all after written asked done spelled text field digits
everything = 0

abbrev at : ℕ → ℕ → ℕ → Mouse
at x y buttons = record { x = pos x; y = pos y; buttons = buttons; msec = 7 }

abbrev pane : ℕ → ℕ → ℕ → ℕ → ℕ → Pane
pane number left top right bottom = record { number = number; r = record { min = record { x = pos left; y = pos top }; max = record { x = pos right; y = pos bottom } } }

-- a window is swept
swept : pilot (at 100 100 4 ∷ at 110 110 0 ∷ at 200 200 1 ∷ at 300 280 0 ∷ [])
    ≡ (
    Wctl (codes "new -r 100 100 148 188") ∷
    Wctl (codes "delete -id 1") ∷
    Wctl (codes "new -r 200 200 300 280") ∷ [])
unfolding everything
swept = refl

swept_leaves : after_all (at 100 100 4 ∷ at 110 110 0 ∷ at 200 200 1 ∷ at 300 280 0 ∷ [])
    ≡ (record { visible = pane 2 200 200 300 280 ∷ []; hidden = []; next = 3; last = 0; mode = Idle })
unfolding everything
swept_leaves = refl

-- one side of the sweep is 11
too_small : pilot (at 100 100 4 ∷ at 110 110 0 ∷ at 200 200 1 ∷ at 211 280 0 ∷ [])
    ≡ (
    Wctl (codes "new -r 100 100 148 188") ∷
    Wctl (codes "delete -id 1") ∷ [])
unfolding everything
too_small = refl

too_small_leaves : after_all (at 100 100 4 ∷ at 110 110 0 ∷ at 200 200 1 ∷ at 211 280 0 ∷ [])
    ≡ (record { visible = []; hidden = []; next = 2; last = 0; mode = Idle })
unfolding everything
too_small_leaves = refl

-- the menu is left beside its items
beside : pilot (at 100 100 4 ∷ at 150 110 0 ∷ at 200 200 1 ∷ at 300 280 0 ∷ [])
    ≡ (
    Wctl (codes "new -r 100 100 148 188") ∷
    Wctl (codes "delete -id 1") ∷
    Mousein (codes "m        200         200           1           7 ") ∷
    Mousein (codes "m        300         280           0           7 ") ∷ [])
unfolding everything
beside = refl

beside_leaves : after_all (at 100 100 4 ∷ at 150 110 0 ∷ at 200 200 1 ∷ at 300 280 0 ∷ [])
    ≡ (record { visible = []; hidden = []; next = 2; last = 0; mode = Idle })
unfolding everything
beside_leaves = refl

-- two windows, of which a press raises the lower one; where both are, it is moved, to the left and not down
moved : pilot (at 0 0 4 ∷ at 10 10 0 ∷ at 100 100 1 ∷ at 200 200 0 ∷ at 0 0 4 ∷ at 10 10 0 ∷ at 150 150 1 ∷ at 300 250 0 ∷ at 110 110 1 ∷ at 110 110 0 ∷ at 0 0 4 ∷ at 10 42 0 ∷ at 160 160 1 ∷ at 159 300 1 ∷ at 150 160 0 ∷ [])
    ≡ (
    Wctl (codes "new -r 0 0 48 88") ∷
    Wctl (codes "delete -id 1") ∷
    Wctl (codes "new -r 100 100 200 200") ∷
    Wctl (codes "new -r 0 0 48 88") ∷
    Wctl (codes "delete -id 3") ∷
    Wctl (codes "new -r 150 150 300 250") ∷
    Mousein (codes "m        110         110           1           7 ") ∷
    Mousein (codes "m        110         110           0           7 ") ∷
    Wctl (codes "new -r 0 0 48 88") ∷
    Wctl (codes "delete -id 5") ∷
    Wctl (codes "move -minx -10 -miny +0 -id 2") ∷ [])
unfolding everything
moved = refl

moved_leaves : after_all (at 0 0 4 ∷ at 10 10 0 ∷ at 100 100 1 ∷ at 200 200 0 ∷ at 0 0 4 ∷ at 10 10 0 ∷ at 150 150 1 ∷ at 300 250 0 ∷ at 110 110 1 ∷ at 110 110 0 ∷ at 0 0 4 ∷ at 10 42 0 ∷ at 160 160 1 ∷ at 159 300 1 ∷ at 150 160 0 ∷ [])
    ≡ (record { visible = pane 2 90 100 190 200 ∷ pane 4 150 150 300 250 ∷ []; hidden = []; next = 6; last = 0; mode = Idle })
unfolding everything
moved_leaves = refl

-- the upper one is resized, and swept from right to left; the press that picks it is no part of the sweep
resized : pilot (at 0 0 4 ∷ at 10 10 0 ∷ at 100 100 1 ∷ at 200 200 0 ∷ at 0 0 4 ∷ at 10 10 0 ∷ at 150 150 1 ∷ at 300 250 0 ∷ at 0 0 4 ∷ at 10 26 0 ∷ at 160 160 1 ∷ at 0 0 0 ∷ at 400 90 2 ∷ at 20 10 2 ∷ at 30 40 0 ∷ [])
    ≡ (
    Wctl (codes "new -r 0 0 48 88") ∷
    Wctl (codes "delete -id 1") ∷
    Wctl (codes "new -r 100 100 200 200") ∷
    Wctl (codes "new -r 0 0 48 88") ∷
    Wctl (codes "delete -id 3") ∷
    Wctl (codes "new -r 150 150 300 250") ∷
    Wctl (codes "new -r 0 0 48 88") ∷
    Wctl (codes "delete -id 5") ∷
    Wctl (codes "resize -r 30 40 400 90 -id 4") ∷ [])
unfolding everything
resized = refl

resized_leaves : after_all (at 0 0 4 ∷ at 10 10 0 ∷ at 100 100 1 ∷ at 200 200 0 ∷ at 0 0 4 ∷ at 10 10 0 ∷ at 150 150 1 ∷ at 300 250 0 ∷ at 0 0 4 ∷ at 10 26 0 ∷ at 160 160 1 ∷ at 0 0 0 ∷ at 400 90 2 ∷ at 20 10 2 ∷ at 30 40 0 ∷ [])
    ≡ (record { visible = pane 4 30 40 400 90 ∷ pane 2 100 100 200 200 ∷ []; hidden = []; next = 6; last = 0; mode = Idle })
unfolding everything
resized_leaves = refl

-- one is hidden, and the other deleted; then there is none, and the press picks nothing
hidden : pilot (at 0 0 4 ∷ at 10 10 0 ∷ at 100 100 1 ∷ at 200 200 0 ∷ at 0 0 4 ∷ at 10 10 0 ∷ at 150 150 1 ∷ at 300 250 0 ∷ at 0 0 4 ∷ at 10 74 0 ∷ at 160 160 1 ∷ at 160 160 0 ∷ at 0 0 4 ∷ at 10 58 0 ∷ at 160 160 1 ∷ at 160 160 0 ∷ at 0 0 4 ∷ at 10 58 0 ∷ at 160 160 1 ∷ at 160 160 0 ∷ at 5 5 0 ∷ [])
    ≡ (
    Wctl (codes "new -r 0 0 48 88") ∷
    Wctl (codes "delete -id 1") ∷
    Wctl (codes "new -r 100 100 200 200") ∷
    Wctl (codes "new -r 0 0 48 88") ∷
    Wctl (codes "delete -id 3") ∷
    Wctl (codes "new -r 150 150 300 250") ∷
    Wctl (codes "new -r 0 0 48 88") ∷
    Wctl (codes "delete -id 5") ∷
    Wctl (codes "hide -id 4") ∷
    Wctl (codes "new -r 0 0 48 88") ∷
    Wctl (codes "delete -id 6") ∷
    Wctl (codes "delete -id 2") ∷
    Wctl (codes "new -r 0 0 48 88") ∷
    Wctl (codes "delete -id 7") ∷
    Mousein (codes "m          5           5           0           7 ") ∷ [])
unfolding everything
hidden = refl

hidden_leaves : after_all (at 0 0 4 ∷ at 10 10 0 ∷ at 100 100 1 ∷ at 200 200 0 ∷ at 0 0 4 ∷ at 10 10 0 ∷ at 150 150 1 ∷ at 300 250 0 ∷ at 0 0 4 ∷ at 10 74 0 ∷ at 160 160 1 ∷ at 160 160 0 ∷ at 0 0 4 ∷ at 10 58 0 ∷ at 160 160 1 ∷ at 160 160 0 ∷ at 0 0 4 ∷ at 10 58 0 ∷ at 160 160 1 ∷ at 160 160 0 ∷ at 5 5 0 ∷ [])
    ≡ (record { visible = []; hidden = pane 4 150 150 300 250 ∷ []; next = 8; last = 0; mode = Idle })
unfolding everything
hidden_leaves = refl
