-- Worked cases, which the check computes.
use Rattle.std.specs.Prelude.{◌≡◌, ℕ, true, false, List, [], ◌∷◌, Some, None, Ok, Err, codes, refl}
use Rattle.model_text.specs.text.Outcome.{Outcome, ◌>>=◌}
use Rattle.model_draw_parts.specs.declared.images.Thing.{Thing}
use Rattle.model_draw_parts.specs.declared.images.Thing.TheVariants.{Image, Screen}
use Rattle.model_draw_parts.specs.images.Book.{Book, empty_book, image, screen, public, named, has_screen, screen_of, by_name, next_screen, new_screen, add_screen, add_id, add_named, tie, untie}
use Rattle.model_draw_parts.specs.images.Release.{Freed, free_id, free_screen, leave}

everything : ℕ
unfolding image screen public named new_screen add_screen add_id add_named tie untie free_id free_screen leave
everything = 0

abbrev pic : List ℕ
pic = codes "pic"

-- a device whose display is image 0
abbrev device : Outcome Book
device = add_id empty_book 0 0 0 None

abbrev after_free : Outcome Freed → Outcome Book
after_free freed = freed >>= λ f. Ok f.book

abbrev gone : Outcome Freed → Outcome (List Thing)
gone freed = freed >>= λ f. Ok f.gone

-- ---- ids

display_of_each : (device >>= λ b. image b 7 0) ≡ Ok 0
unfolding everything
display_of_each = refl

unknown_image : (device >>= λ b. image b 1 1) ≡ Err 4
unfolding everything
unknown_image = refl

display_is_taken : (device >>= λ b. add_id b 1 0 1 None) ≡ Err 6
unfolding everything
display_is_taken = refl

id_is_taken : (device >>= λ b. add_id b 1 5 1 None >>= λ b. add_id b 1 5 2 None) ≡ Err 6
unfolding everything
id_is_taken = refl

-- each connection has ids of its own
ids_of_two : (device >>= λ b. add_id b 2 5 1 None >>= λ b. add_id b 1 5 2 None >>= λ b. image b 1 5) ≡ Ok 2
unfolding everything
ids_of_two = refl

-- ---- screens

abbrev two_screens : Outcome Book
two_screens = do
  book ← device
  book ← new_screen book 1 3 false 0 0
  new_screen book 2 3 false 0 0

screens_of_two : (two_screens >>= λ b. screen b 2 3) ≡ Ok 1
unfolding everything
screens_of_two = refl

screen_is_taken : (two_screens >>= λ b. new_screen b 1 3 false 0 0) ≡ Err 7
unfolding everything
screen_is_taken = refl

unknown_screen : (two_screens >>= λ b. screen b 1 4) ≡ Err 5
unfolding everything
unknown_screen = refl

not_public : (two_screens >>= λ b. public b 3) ≡ Err 5
unfolding everything
not_public = refl

abbrev public_screen : Outcome Book
public_screen = device >>= λ b. new_screen b 1 3 true 0 0

is_public : (public_screen >>= λ b. public b 3) ≡ Ok 0
unfolding everything
is_public = refl

-- another connection may not make a public screen of that id, but one of its own
public_is_taken : (public_screen >>= λ b. new_screen b 2 3 true 0 0) ≡ Err 7
unfolding everything
public_is_taken = refl

-- a shared screen lives as long as one of its ids
shared : gone (public_screen >>= λ b. add_screen b 2 3 0 false >>= λ b. free_screen b 1 3) ≡ Ok []
unfolding everything
shared = refl

number_comes_back : (two_screens >>= λ b. after_free (free_screen b 1 3) >>= λ b. Ok (next_screen b)) ≡ Ok 0
unfolding everything
number_comes_back = refl

-- ---- names

abbrev tied : Outcome Book
tied = do
  book ← device
  book ← add_id book 1 9 5 None
  book ← tie book 1 9 pic
  add_named book 2 1 pic

-- the name is tied anew, to another image
abbrev tied_anew : Outcome Book
tied_anew = do
  book ← tied
  book ← untie book 1 9 pic
  book ← add_id book 1 10 6 None
  tie book 1 10 pic

got_by_name : (tied >>= λ b. image b 2 1) ≡ Ok 5
unfolding everything
got_by_name = refl

made_by_name : (tied >>= λ b. Ok (by_name b 2 1)) ≡ Ok true
unfolding everything
made_by_name = refl

not_made_by_name : (tied >>= λ b. Ok (by_name b 1 9)) ≡ Ok false
unfolding everything
not_made_by_name = refl

-- an id refers to the tie and not to the name
stale : (tied_anew >>= λ b. image b 2 1) ≡ Err 18
unfolding everything
stale = refl

stale_is_freed : gone (tied_anew >>= λ b. free_id b 2 1) ≡ Ok []
unfolding everything
stale_is_freed = refl

got_anew : (tied_anew >>= λ b. after_free (free_id b 2 1) >>= λ b. add_named b 2 1 pic >>= λ b. image b 2 1) ≡ Ok 6
unfolding everything
got_anew = refl

-- a stale id keeps its image alive
stale_keeps : gone (tied_anew >>= λ b. free_id b 1 9) ≡ Ok []
unfolding everything
stale_keeps = refl

name_is_tied : (tied >>= λ b. tie b 1 9 pic) ≡ Err 16
unfolding everything
name_is_tied = refl

name_is_kept : (tied >>= λ b. tie b 1 9 (codes "window.1.1")) ≡ Err 16
unfolding everything
name_is_kept = refl

no_name : (tied >>= λ b. untie b 1 9 (codes "pi")) ≡ Err 17
unfolding everything
no_name = refl

no_such_name : (device >>= λ b. add_named b 2 1 pic) ≡ Err 17
unfolding everything
no_such_name = refl

another_image : (tied >>= λ b. add_id b 1 10 6 None >>= λ b. untie b 1 10 pic) ≡ Err 19
unfolding everything
another_image = refl

-- the tie ends with the id that tied it
tie_ends : (tied >>= λ b. after_free (free_id b 1 9) >>= λ b. named b pic) ≡ Err 17
unfolding everything
tie_ends = refl

-- ---- releases

-- image 1 fills what windows of screen 0 uncover, on the display, and image 2 is such a window
abbrev window : Outcome Book
window = do
  book ← device
  book ← add_id book 1 6 1 None
  book ← new_screen book 1 1 false 0 1
  add_id book 1 10 2 (Some 0)

on_screen : (window >>= λ b. Ok (screen_of b 2)) ≡ Ok (Some 0)
unfolding everything
on_screen = refl

has_one : (window >>= λ b. Ok (has_screen b 0)) ≡ Ok true
unfolding everything
has_one = refl

fill_is_kept : gone (window >>= λ b. free_id b 1 6) ≡ Ok []
unfolding everything
fill_is_kept = refl

-- the window, then its screen, and then the screen's image, which is the display, and its fill
in_order : gone (window >>= λ b. after_free (free_screen b 1 1) >>= λ b. after_free (free_id b 1 6) >>= λ b. free_id b 1 10) ≡ Ok (Image 2 ∷ Screen 0 ∷ Image 1 ∷ [])
unfolding everything
in_order = refl

-- a window in a window, of which only the inner one's id is left: both windows go, and both fills
abbrev nested : Outcome Book
nested = do
  book ← window
  book ← add_id book 1 7 3 None
  book ← new_screen book 1 2 false 2 3
  add_id book 1 11 4 (Some 1)

abbrev inner : Outcome Book
inner = do
  book ← nested
  book ← after_free (free_screen book 1 1)
  book ← after_free (free_screen book 1 2)
  book ← after_free (free_id book 1 6)
  book ← after_free (free_id book 1 7)
  after_free (free_id book 1 10)

both_fills : gone (inner >>= λ b. free_id b 1 11) ≡ Ok (Image 4 ∷ Screen 1 ∷ Image 2 ∷ Screen 0 ∷ Image 1 ∷ Image 3 ∷ [])
unfolding everything
both_fills = refl

-- a connection ends: image ids and then screen ids
left : (window >>= λ b. Ok (leave b 1).gone) ≡ Ok (Image 2 ∷ Screen 0 ∷ Image 1 ∷ [])
unfolding everything
left = refl

-- a screen whose image is its own fill: the image goes once
own_fill : (device >>= λ b. add_id b 1 4 3 None >>= λ b. new_screen b 1 1 false 3 3 >>= λ b. Ok (leave b 1).gone) ≡ Ok (Screen 0 ∷ Image 3 ∷ [])
unfolding everything
own_fill = refl

display_is_not_freed : gone (window >>= λ b. free_id b 1 0) ≡ Err 4
unfolding everything
display_is_not_freed = refl

-- a tie by id 0 ends with the connection
tied_display : (device >>= λ b. tie b 1 0 pic >>= λ b. named (leave b 1).book pic) ≡ Err 17
unfolding everything
tied_display = refl
