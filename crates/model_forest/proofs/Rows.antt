-- Worked rows of the definitions, which the check computes: a line of four grey pixels on which windows come and go.
use Rattle.std.specs.Prelude.{◌≡◌, ℕ, pos, false, true, [], ◌∷◌, List, None, map, refl}
use Rattle.r9_geom.specs.declared.Rect.{Rect}
use Rattle.model_pixel.specs.Channels.{channels, expand, mask, pack, promoted}
use Rattle.model_pixel.specs.Composition.{comp, composed}
use Rattle.model_forest.specs.Cost.{area}
use Rattle.model_forest.specs.Draw.{Drawing, after_draw, after_fill, after_load}
use Rattle.model_forest.specs.Numbers.{given_back, next_number, no_numbers, taken}
use Rattle.model_forest.specs.Paint.{paint}
use Rattle.model_forest.specs.Stack.{after_lower, after_raise, after_window}
use Rattle.model_forest.specs.Steps.{after_image, after_origin, after_release, after_replace, after_replace_on, after_set}
use Rattle.model_forest.specs.View.{view}
use Rattle.model_forest.specs.World.{World, deepest}

everything : ℕ
unfolding channels expand mask pack promoted comp composed after_draw after_fill after_load paint after_lower after_raise after_window after_image after_origin after_release after_replace after_replace_on after_set view deepest
everything = 0

abbrev line : ℕ → ℕ → Rect
line left right = record { min = record { x = pos left; y = pos 0 }; max = record { x = pos right; y = pos 1 } }

-- what an image shows in the first four columns
abbrev shown : World → ℕ → List ℕ
shown world i = map (λ x. view world i (record { x = pos x; y = pos 0 })) (0 ∷ 1 ∷ 2 ∷ 3 ∷ [])

-- image 0 of four sevens, image 1 a nine that repeats, and a window 2 of fives on the two in the middle
abbrev plain : World
plain = after_set (after_image (after_image (λ _. None) 0 (line 0 4) 0x38 7) 1 (line 0 1) 0x38 9) 1 true (line 0 4)

abbrev covered : World
covered = after_window plain 2 0 1 (line 1 3) 5

-- and another window, of sixes, on the two to the right
abbrev twice : World
twice = after_window covered 3 0 1 (line 2 4) 6

-- image 0 from itself, one column to the right
abbrev scroll : Drawing
scroll = record {
  dst = 0;
  clip = line 0 4;
  r = line 1 4;
  src = 0;
  sp = record { x = pos 0; y = pos 0 };
  mask = None;
  mp = record { x = pos 0; y = pos 0 };
  op = 10;
}

a_window_hides : shown covered 0 ≡ 7 ∷ 5 ∷ 5 ∷ 7 ∷ []
unfolding everything
a_window_hides = refl

the_last_is_topmost : shown twice 0 ≡ 7 ∷ 5 ∷ 6 ∷ 6 ∷ []
unfolding everything
the_last_is_topmost = refl

raised_window : shown (after_raise twice (2 ∷ [])) 0 ≡ 7 ∷ 5 ∷ 5 ∷ 6 ∷ []
unfolding everything
raised_window = refl

lowered_window : shown (after_lower twice (3 ∷ [])) 0 ≡ 7 ∷ 5 ∷ 5 ∷ 6 ∷ []
unfolding everything
lowered_window = refl

the_fill_shows : shown (after_release covered 2) 0 ≡ 7 ∷ 9 ∷ 9 ∷ 7 ∷ []
unfolding everything
the_fill_shows = refl

what_is_below_shows : shown (after_release twice 3) 0 ≡ 7 ∷ 5 ∷ 5 ∷ 9 ∷ []
unfolding everything
what_is_below_shows = refl

moved_window : shown (after_origin covered 2 (record { x = pos 1; y = pos 0 }) (record { x = pos 2; y = pos 0 })) 0 ≡ 7 ∷ 9 ∷ 5 ∷ 5 ∷ []
unfolding everything
moved_window = refl

drawing_spares_windows : shown (after_draw covered scroll) 0 ≡ 7 ∷ 5 ∷ 5 ∷ 5 ∷ []
unfolding everything
drawing_spares_windows = refl

drawing_below_windows : shown (after_release (after_draw covered scroll) 2) 0 ≡ 7 ∷ 9 ∷ 9 ∷ 5 ∷ []
unfolding everything
drawing_below_windows = refl

a_filled_line_spares_windows : shown (after_fill covered 0 (line 0 3) 4) 0 ≡ 4 ∷ 5 ∷ 5 ∷ 7 ∷ []
unfolding everything
a_filled_line_spares_windows = refl

filled_below_windows : shown (after_release (after_fill covered 0 (line 0 3) 4) 2) 0 ≡ 4 ∷ 9 ∷ 9 ∷ 7 ∷ []
unfolding everything
filled_below_windows = refl

-- a window 3 of a six on that of fives
abbrev nested : World
nested = after_window covered 3 2 1 (line 2 3) 6

-- the fill shows where it stood
a_window_on_another_image : shown (after_replace_on nested 4 3 0 1 (line 2 3) (record { x = pos 0; y = pos 0 }) 8 true) 0 ≡ 6 ∷ 5 ∷ 9 ∷ 7 ∷ []
unfolding everything
a_window_on_another_image = refl

a_new_window_on_another_image : shown (after_replace_on nested 4 3 0 1 (line 5 7) (record { x = pos 2; y = pos 0 }) 8 false) 0 ≡ 7 ∷ 5 ∷ 8 ∷ 8 ∷ []
unfolding everything
a_new_window_on_another_image = refl

area_of_a_scroll : area covered scroll ≡ line 1 4
unfolding everything
area_of_a_scroll = refl

painted_is_shown : map (λ x. paint twice 0 (record { x = pos x; y = pos 0 })) (0 ∷ 1 ∷ 2 ∷ 3 ∷ []) ≡ shown twice 0
unfolding everything
painted_is_shown = refl

-- the number that came back last is the next one
numbers : next_number (given_back (given_back (taken (taken (taken no_numbers))) 0) 2) ≡ 2
numbers = refl

numbers_again : next_number (taken (taken (given_back (given_back (taken (taken (taken no_numbers))) 0) 2))) ≡ 3
numbers_again = refl
