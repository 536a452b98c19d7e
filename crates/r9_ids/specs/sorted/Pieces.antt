-- Rows in pieces.
use Rattle.std.specs.Prelude.{◌≡◌, ℕ, zero, suc, ◌<◌, Bool, cond, List, [], ◌∷◌, length, Option, is_some, nat_lt, ◌&&◌, IfSome}
use Rattle.std.specs.List.{list_all, flat_map}
use Rattle.r9_ids.specs.declared.sorted.key.Key.{Key}
use Rattle.r9_ids.specs.declared.sorted.piece.TheConstants.{MOST}
use Rattle.r9_ids.specs.sorted.Rows.{is_before}

abbrev pub joined : {T : Type 0} → List (List T) → List T
joined pieces = flat_map (λ piece. piece) pieces

-- a piece among others: it is not empty, and has place for one more row
abbrev pub AreFilled : {T : Type 0} → List (List T) → Type 0
AreFilled [] = Unit {0}
AreFilled (p ∷ ps) = (0 < length p) × (length p < MOST) × AreFilled ps

-- how many pass a test, from the front on
abbrev pub leading : {X : Type 0} → (X → Bool) → List X → ℕ
leading test [] = zero
leading test (x ∷ xs) = cond (test x) (suc (leading test xs)) zero

module _ {T : Type 0} (key_of : T → Key) where
  -- the place of the first row whose key is not smaller, or how many rows there are
  abbrev pub place_in : Key → List T → ℕ
  place_in key rows = leading (is_before key_of key) rows

  -- the keys of all rows of the piece are smaller than this one
  abbrev pub ends_before : Key → List T → Bool
  ends_before key piece = list_all (is_before key_of key) piece

  -- the place of the first piece with a row whose key is not smaller, or how many pieces there are
  abbrev pub place : Key → List (List T) → ℕ
  place key pieces = leading (ends_before key) pieces

  -- the place of the piece into which a row with this key goes
  abbrev pub slot : Key → List (List T) → ℕ
  slot key [] = zero
  slot key (p ∷ []) = zero
  slot key (p ∷ q ∷ qs) = cond (ends_before key p) (suc (slot key (q ∷ qs))) zero

-- A piece is kept for when one splits, and its place in the list of pieces. The number of rows can still be told.
abbrev pub room_of : {T : Type 0} → Option (List T) → (pieces most_pieces count : ℕ) → ℕ
room_of spare pieces most_pieces count =
    cond (is_some spare && (nat_lt pieces most_pieces && nat_lt count 18446744073709551615)) 1 0

-- what holds of the pieces
pub record IsSound {T : Type 0} (pieces : List (List T)) (spare : Option (List T)) (count : ℕ) : Type 0 where
  pub filled : AreFilled pieces
  pub spare_empty : IfSome spare (λ p. p ≡ [])
  pub counted : count ≡ length (joined pieces)
