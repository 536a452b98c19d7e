-- Worked rows, which the check computes: two messages cut at every place, and limits that change between messages.
use Rattle.std.specs.Prelude.{◌≡◌, refl, ℕ, List, [], ◌∷◌, ◌++◌, map, take, drop, replicate, Some}
use Rattle.model_files.specs.frame.Frame.{first}
use Rattle.model_files.specs.frame.Stream.{Reader, all_taken, messages, read_in_pieces}

-- a message of 7 bytes and one of 8
abbrev short : List ℕ
short = 7 ∷ 0 ∷ 0 ∷ 0 ∷ 108 ∷ 1 ∷ 0 ∷ []

abbrev long : List ℕ
long = 8 ∷ 0 ∷ 0 ∷ 0 ∷ 109 ∷ 2 ∷ 0 ∷ 5 ∷ []

abbrev places : List ℕ
places = 0 ∷ 1 ∷ 2 ∷ 3 ∷ 4 ∷ 5 ∷ 6 ∷ 7 ∷ 8 ∷ 9 ∷ 10 ∷ 11 ∷ 12 ∷ 13 ∷ 14 ∷ 15 ∷ 16 ∷ 17 ∷ 18 ∷ []

-- what is read of both messages and three bytes more, cut there
abbrev cut_at : (limits : List (List ℕ) → ℕ) → ℕ → Reader
cut_at limits place =
    let bytes = short ++ long ++ 9 ∷ 0 ∷ 0 ∷ [] in
    read_in_pieces limits (take place bytes ∷ drop place bytes ∷ [])

both_are_read : map (λ place. (cut_at (λ _. 100) place).read) places ≡ replicate 19 (short ∷ long ∷ [])
unfolding first all_taken
both_are_read = refl

three_are_held : map (λ place. (cut_at (λ _. 100) place).framing.held) places ≡ replicate 19 (9 ∷ 0 ∷ 0 ∷ [])
unfolding first all_taken
three_are_held = refl

-- 8 bytes for the first message and 7 for each behind it
abbrev falling : List (List ℕ) → ℕ
falling [] = 8
falling (_ ∷ _) = 7

long_is_too_long : map (λ place. (cut_at falling place).framing.bad) places ≡ replicate 19 (Some 8)
unfolding first all_taken
long_is_too_long = refl

short_is_read : map (λ place. (cut_at falling place).read) places ≡ replicate 19 (short ∷ [])
unfolding first all_taken
short_is_read = refl

messages_of_both : messages falling [] (long ++ short ++ long) ≡ long ∷ short ∷ []
unfolding first messages
messages_of_both = refl
