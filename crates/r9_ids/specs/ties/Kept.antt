-- What callers see of the ties, and how they are kept.
use Rattle.std.specs.Prelude.{◌≡◌, ℕ, ◌==◌, ◌<◌, ◌-◌, List, [], ◌∷◌, ◌++◌, map, find, min, nat_le, Option, None, if◌then◌else◌}
use Rattle.std.specs.Option.{option_map, option_to_list}
use Rattle.std.specs.Str.{bytes_eq}
use Rattle.std.specs.HashMap.{HashMap, get_by}
use Rattle.r9_ids.specs.declared.sorted.key.Key.{Key}
use Rattle.r9_ids.specs.sorted.Order.{is_key}
use Rattle.r9_ids.specs.sorted.Rows.{has_key}
use Rattle.model_draw_parts.specs.declared.images.Tie.{Tie}
use Rattle.r9_ids.specs.declared.ties.rows.Numbered.{Numbered}
use Rattle.r9_ids.specs.declared.ties.rows.Owned.{Owned}
use Rattle.r9_ids.specs.ties.Rows.{owned_key, numbered, owned}
use Rattle.std.specs.declared.vec.Vec.{Vec}

-- the ties in the order of their numbers, the number of the next one, and how many more go in, at least, without memory
pub record Tied : Type 0 where
  pub ties : List Tie
  pub next : ℕ
  pub room : ℕ

-- a fact about each of them
abbrev pub Each : {X : Type 0} → (X → Type 0) → List X → Type 0
Each P [] = Unit {0}
Each P (x ∷ xs) = P x × Each P xs

-- no number and no name stands twice
abbrev pub AreOnce : List Tie → Type 0
AreOnce [] = Unit {0}
AreOnce (t ∷ ts) =
    (find (λ e. e.number == t.number) ts ≡ None) × (find (λ e. bytes_eq e.name t.name) ts ≡ None) × AreOnce ts

-- ---- how they are kept

-- the ties in the order of the rows
abbrev pub gathered : (ℕ → Option Tie) → List Numbered → List Tie
gathered store [] = []
gathered store (row ∷ rows) = option_to_list (store row.number) ++ gathered store rows

-- what the table has under a name
abbrev pub named : {X Y S : Type 0} → HashMap (Vec ℕ Y) X S → List ℕ → Option X
named names name = get_by (λ k. bytes_eq name k.items) names

-- each way to a tie leads to the ties of the list, and to no other
pub record Holds (ties : List Tie) (order : List Numbered) (owners : List Owned) (store : ℕ → Option Tie) (names : List ℕ → Option ℕ) (next : ℕ) : Type 0 where
  pub in_order : order ≡ map numbered ties
  pub by_number : (number : ℕ) → store number ≡ find (λ t. t.number == number) ties
  pub by_name : (name : List ℕ) → names name ≡ option_map (λ t. t.number) (find (λ t. bytes_eq t.name name) ties)
  pub by_owner :
      (k : Key) → find (has_key owned_key k) owners ≡ option_map owned (find (λ t. is_key (owned_key (owned t)) k) ties)
  pub once : AreOnce ties
  pub below : Each (λ t. t.number < next) ties

-- the room where each part has so much, the texts of one more name have so many bytes, and so many ties were never numbered
abbrev pub room_of : (order owners store names text key_text next : ℕ) → ℕ
room_of order owners store names text key_text next =
    if nat_le 255 (min text key_text)
    then min order (min owners (min store (min names (18446744073709551615 - next))))
    else 0
