-- Worked rows of the definition, which the check computes: a line of grey pixels that gets another size.
use Rattle.std.specs.Prelude.{◌≡◌, ℕ, pos, [], ◌∷◌, List, None, map, refl}
use Rattle.r9_geom.specs.declared.Rect.{Rect}
use Rattle.model_pixel.specs.Channels.{channels, expand, mask, pack, promoted}
use Rattle.model_pixel.specs.Composition.{comp, composed}
use Rattle.model_forest.specs.Draw.{after_fill}
use Rattle.model_forest.specs.Stack.{after_window}
use Rattle.model_forest.specs.Steps.{after_image}
use Rattle.model_forest.specs.View.{view}
use Rattle.model_forest.specs.World.{World, deepest, image_at}
use Rattle.model_exchanged.specs.resize.Resize.{after_resize}

everything : ℕ
unfolding channels expand mask pack promoted comp composed after_fill after_window after_image view deepest after_resize
everything = 0

abbrev line : ℕ → ℕ → Rect
line left right = record { min = record { x = pos left; y = pos 0 }; max = record { x = pos right; y = pos 1 } }

-- what an image shows in the first six columns
abbrev shown : World → ℕ → List ℕ
shown world i = map (λ x. view world i (record { x = pos x; y = pos 0 })) (0 ∷ 1 ∷ 2 ∷ 3 ∷ 4 ∷ 5 ∷ [])

-- image 0 of four sevens, an eight to the left, and a window 1 of fives over its last column and two beyond, with a six to
-- the right
abbrev plain : World
plain = after_fill (after_image (λ _. None) 0 (line 0 4) 0x38 7) 0 (line 0 1) 8

abbrev partly : World
partly = after_fill (after_window plain 1 0 0 (line 3 6) 5) 1 (line 5 6) 6

a_window_partly_outside : shown partly 0 ≡ 8 ∷ 7 ∷ 7 ∷ 5 ∷ 5 ∷ 6 ∷ []
unfolding everything
a_window_partly_outside = refl

grown_ground_is_raw : shown (after_resize plain 0 6 1 9) 0 ≡ 8 ∷ 7 ∷ 7 ∷ 7 ∷ 9 ∷ 9 ∷ []
unfolding everything
grown_ground_is_raw = refl

shrunk_ground_is_gone : shown (after_resize plain 0 2 1 9) 0 ≡ 8 ∷ 7 ∷ 0 ∷ 0 ∷ 0 ∷ 0 ∷ []
unfolding everything
shrunk_ground_is_gone = refl

shrunk_and_grown : shown (after_resize (after_resize plain 0 1 1 9) 0 6 1 9) 0 ≡ 8 ∷ 9 ∷ 9 ∷ 9 ∷ 9 ∷ 9 ∷ []
unfolding everything
shrunk_and_grown = refl

windows_keep_their_pixels : shown (after_resize (after_resize partly 0 2 1 9) 0 6 1 9) 0 ≡ 8 ∷ 7 ∷ 9 ∷ 5 ∷ 5 ∷ 6 ∷ []
unfolding everything
windows_keep_their_pixels = refl

windows_show_all : shown (after_resize partly 0 2 1 9) 1 ≡ 0 ∷ 0 ∷ 0 ∷ 5 ∷ 5 ∷ 6 ∷ []
unfolding everything
windows_show_all = refl

its_clip_rectangle_is_all_of_it : (image_at (after_resize partly 0 6 1 9) 0).clipr ≡ line 0 6
unfolding everything
its_clip_rectangle_is_all_of_it = refl
