-- The rule of the lock's table, and what each step on it tells. The table has one word and one slot, where the value lies.
-- The word is twice the number of entries, and 1 more while a turn is held.
use Rattle.std.specs.Prelude.{◌≡◌, ◌≢◌, ℕ, ◌+◌, ◌-◌, ◌*◌, ◌/◌, ◌^◌, ◌≤◌, ◌<◌, Bool, true, false, cond, max, List, [], ◌∷◌, ◌++◌, length, sum_by, All, Contains, Option, Some}
use mathlib.Core.Option.{none, some}
use mathlib.Core.Option as maybe
use lib.ListN.{get_elem?}
use Rattle.atomic_table.specs.Table.{State, Me, Step}
use Rattle.atomic_table.specs.declared.shared.Seat.{Seat}
use Rattle.r9_lock.specs.Histories.{IsPrefix, numbered, longer, shorter}
use Rattle.r9_lock.specs.declared.view.View.{View}
use Rattle.r9_lock.specs.declared.shared.Tried.{Tried}
use Rattle.r9_lock.specs.declared.shared.Tried.TheVariants.{Taken, Spent, Held}

module _ {E : Type 0} where
  abbrev pub view : List E → List (ℕ × E) → List E → ℕ → ℕ → Bool → View E
  view seen made told least shares turn = record { seen = seen; made = made; told = told; least = least; shares = shares; turn = turn }

  -- what a join leaves behind
  abbrev pub spent : View E
  spent = view [] [] [] 0 0 false

  -- both views in one, which is told of the shorter list that was seen
  abbrev pub joined : View E → View E → View E
  joined v w = view (longer v.seen w.seen) (v.made ++ w.made) (shorter v.seen w.seen) (max v.least w.least) (v.shares + w.shares) v.turn

  abbrev pub turn_count : View E → ℕ
  turn_count v = cond v.turn 1 0

  -- how many views hold the turn
  abbrev pub turns : List (View E) → ℕ
  turns views = sum_by turn_count views

  abbrev pub all_shares : List (View E) → ℕ
  all_shares views = sum_by (λ (v : View E). v.shares) views

  -- the weights of the entries that the views made
  abbrev pub all_made : (ℕ × E → ℕ) → List (View E) → ℕ
  all_made weight views = sum_by (λ (v : View E). sum_by weight v.made) views

  -- what a view knows is true of the history
  pub record Knows (history : List E) (v : View E) : Type 0 where
    pub seen : IsPrefix v.seen history
    pub told : IsPrefix v.told history
    pub least : v.least ≤ length history
    pub turn : v.turn ≡ true → v.seen ≡ history
    pub spent : v.shares ≡ 0 → v ≡ spent

module _ {T E : Type 0} where
  -- between two calls a seat has a share, and neither the turn nor the value
  pub record Rests (m : Me T (View E)) : Type 0 where
    pub turn : m.0.turn ≡ false
    pub slot : m.1 ≡ []
    pub share : 0 < m.0.shares

  -- a pass counts what it has seen, and what it made is among that
  pub record IsPass (seen : ℕ) (m : Me T (View E)) : Type 0 where
    pub rests : Rests m
    pub counted : seen ≡ length m.0.seen
    pub made : All (Contains (numbered 1 m.0.seen)) m.0.made

  abbrev pub raised : Me T (View E) → ℕ → Me T (View E)
  raised m least = (view m.0.seen m.0.made m.0.told least m.0.shares m.0.turn, m.1)

  -- after some looks a seat knows at least as much of the count, and else the same
  pub record Looks (m n : Me T (View E)) : Type 0 where
    pub more : m.0.least ≤ n.0.least
    pub now : n ≡ raised m n.0.least

  abbrev pub IsSameSeat : Seat T (View E) → Seat T (View E) → Type 0
  IsSameSeat s t = (t.table_id ≡ s.table_id) × (t.id ≡ s.id)

  -- what a seat keeps, and what a new seat is given, where shares are split off
  abbrev pub left_me : Me T (View E) → ℕ → Me T (View E)
  left_me m shares = (view m.0.seen m.0.made m.0.told m.0.least (m.0.shares - shares) m.0.turn, m.1)

  abbrev pub given_me : Me T (View E) → ℕ → Me T (View E)
  given_me m shares = (view m.0.seen [] [] m.0.least shares false, [])

  abbrev pub looked : Step T → Me T (View E) → ℕ → Me T (View E) → Type 0
  looked st m r n = n ≡ raised m (max m.0.least (r / 2))

  -- a view learns that the list that it was told of begins the one that it has seen
  abbrev pub compared : Step T → Me T (View E) → ℕ → Me T (View E) → Type 0
  compared st m r n = (n ≡ m) × (length m.0.told ≤ length m.0.seen → IsPrefix m.0.told m.0.seen)

module _ {T E : Type 0} (stands : T → List E → Type 0) (first : T → ℕ) where
  -- the value is at home, and some view has seen all entries that it does not store
  pub record AtHome (history : List E) (homes : List (maybe.Option T)) (views : List (View E)) : Type 0 where
    pub value : T
    pub home : homes ≡ some value ∷ []
    pub fits : stands value history
    pub seat : ℕ
    pub knower : View E
    pub knows : get_elem? views seat ≡ some knower
    pub dropped : first value ≤ length knower.seen + 1

  pub record Kept (shares : ℕ) (s : State T (View E)) : Type 0 where
    pub history : List E
    pub word : s.words ≡ (2 * length history + turns s.views) ∷ []
    pub one_turn : turns s.views ≤ 1
    pub free : turns s.views ≡ 0 → AtHome history s.homes s.views
    pub taken : turns s.views ≡ 1 → s.homes ≡ none ∷ []
    pub each : (seat : ℕ) (v : View E) → get_elem? s.views seat ≡ some v → Knows history v
    -- what the views made is each entry of the history once, with its number: so says every way to weigh entries
    pub made : (weight : ℕ × E → ℕ) → all_made weight s.views ≡ sum_by weight (numbered 1 history)
    pub shared : all_shares s.views ≡ shares

-- the first number that the value in the slot stores is no smaller than that of the value that was there before
abbrev pub NeverFalls : {T E : Type 0} → (T → ℕ) → Me T (View E) → Me T (View E) → Type 0
NeverFalls {T} first m n = (old new : T) → m.1 ≡ (0, old) ∷ [] → n.1 ≡ (0, new) ∷ [] → first old ≤ first new

module _ {T E : Type 0} (stands : T → List E → Type 0) where
  -- a seat with the value, which stands for what the seat has seen
  pub record Carries (m : Me T (View E)) : Type 0 where
    pub value : T
    pub slot : m.1 ≡ (0, value) ∷ []
    pub fits : stands value m.0.seen

  -- the seat has taken the turn: it has the value, and has seen the whole history, which has all entries that it knows of
  pub record Takes (found : ℕ) (m n : Me T (View E)) : Type 0 where
    pub carries : Carries n
    pub begins : IsPrefix m.0.seen n.0.seen
    pub counted : 2 * length n.0.seen ≡ found
    pub more : m.0.least ≤ n.0.least
    pub known : n.0.least ≤ length n.0.seen
    pub now : n.0 ≡ view n.0.seen m.0.made m.0.told n.0.least m.0.shares true

  -- a try took the turn, found no more turns, or looked in vain
  abbrev pub IsTried : Me T (View E) → Me T (View E) → Tried → Type 0
  IsTried m n (Taken found) = (found < 2 ^ 62) × Takes found m n
  IsTried m n (Spent count) = Looks m n × (2 ^ 62 ≤ count) × (count / 2 ≤ n.0.least)
  IsTried m n Held = Looks m n

  abbrev pub took : Step T → Me T (View E) → ℕ → Me T (View E) → Type 0
  took st m r n = (r ≡ st.first → Takes r m n) × (r ≢ st.first → n ≡ m)

  module _ {K A : Type 0} (acts : List E → K → A → List E → Type 0) (ask : K) (answer : A) where
    -- the value was acted on, and stands for what the seat has seen and, where it entered, one entry
    pub record Acts (entered : Bool) (m : Me T (View E)) : Type 0 where
      pub entry : List E
      pub one : length entry ≡ cond entered 1 0
      pub acted : acts m.0.seen ask answer (m.0.seen ++ entry)
      pub value : T
      pub slot : m.1 ≡ (0, value) ∷ []
      pub fits : stands value (m.0.seen ++ entry)

    -- the turn is over, and its entry, or none, was added to what the seat had seen
    pub record Ends (m n : Me T (View E)) : Type 0 where
      pub entry : List E
      pub one : length entry ≤ 1
      pub acted : acts m.0.seen ask answer (m.0.seen ++ entry)
      pub value : T
      pub slot : m.1 ≡ (0, value) ∷ []
      pub fits : stands value (m.0.seen ++ entry)
      pub now : n ≡ (view (m.0.seen ++ entry) (m.0.made ++ numbered (length m.0.seen + 1) entry) m.0.told m.0.least m.0.shares false, [])

  abbrev pub ended : {K A : Type 0} → (List E → K → A → List E → Type 0) → Option (K × A) → Step T → Me T (View E) → ℕ → Me T (View E) → Type 0
  ended {K} {A} acts told st m r n = (ask : K) (answer : A) → told ≡ Some (ask, answer) → Ends acts ask answer m n × (2 * length n.0.seen ≡ st.first)
