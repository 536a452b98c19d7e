-- How often each number is referred to, and what has gone.
use Rattle.std.specs.Prelude.{ℕ, ◌-◌, Bool, false, nat_eq, is_some, min}
use Rattle.std.specs.Option.{option_map_or}
use Rattle.std.specs.HashMap.{get, HashMap, spare}
use Rattle.r9_images.specs.declared.uses.tally.Use.{Use}

module _ {S : Type 0} where
  -- how often a number is referred to
  abbrev pub count_of : HashMap ℕ Use S → ℕ → ℕ
  count_of uses number = option_map_or (λ u. u.count) (get nat_eq uses number) 0

  -- what has the number has gone
  abbrev pub gone_of : HashMap ℕ Use S → ℕ → Bool
  gone_of uses number = option_map_or (λ u. u.gone) (get nat_eq uses number) false

  -- the number has an entry, so that it can be marked
  abbrev pub knows : HashMap ℕ Use S → ℕ → Bool
  knows uses number = is_some (get nat_eq uses number)

  -- how many more references there is room for, of which so many were made
  abbrev pub room_of : HashMap ℕ Use S → (made : ℕ) → ℕ
  room_of uses made = min (spare uses) (18446744073709551615 - made)
