-- What contracts see of a lock and of a pass.
use Rattle.std.specs.Prelude.{◌≡◌, ◌≢◌, ℕ, ◌+◌, ◌≤◌, ◌<◌, ◌-◌, ◌^◌, max, List, [], ◌++◌, length, sum_by, All, AllPairs, Contains}
use Rattle.atomic_table.specs.Seated.{TableId}
use Rattle.r9_lock.specs.Histories.{IsPrefix, numbered, longer}

-- a lock: which it is, and how many shares it was started with
pub record Lock : Type 0 where
  pub id : TableId
  pub shares : ℕ

-- a pass: its lock, a beginning of the history that it has seen, the entries that it made with their numbers,
-- a number of entries that the history has at least, and its shares of the lock
pub record Known (E : Type 0) : Type 0 where
  pub lock : TableId
  pub seen : List E
  pub made : List (ℕ × E)
  pub least : ℕ
  pub shares : ℕ

module _ {E : Type 0} where
  -- a pass with all shares of a lock, whose history is empty
  abbrev pub opening : TableId → ℕ → Known E
  opening lock shares = record { lock = lock; seen = []; made = []; least = 0; shares = shares }

  -- the same pass, where the history is known to have so many entries
  abbrev pub known_of : Known E → ℕ → Known E
  known_of p least = record p { least = least }

  -- the shares that are left, and those that are given, with what was seen
  abbrev pub left_of : Known E → ℕ → Known E
  left_of p shares = record p { shares = p.shares - shares }

  abbrev pub given_of : Known E → ℕ → Known E
  given_of p shares = record { lock = p.lock; seen = p.seen; made = []; least = p.least; shares = shares }

  -- two passes in one
  abbrev pub both_of : Known E → Known E → Known E
  both_of p q = record { lock = p.lock; seen = longer p.seen q.seen; made = p.made ++ q.made; least = max p.least q.least; shares = p.shares + q.shares }

-- a turn: the history before it begins with what the pass had seen, and has one entry more after it, or none, which the pass has made and seen.
-- The history before has all entries that the pass knew of, and fewer than 2^61. The entry comes after all that the pass made before,
-- and the number of the first entry that the value stores does not fall
pub record IsTurn {T K A E : Type 0} (stands : T → List E → Type 0) (first : T → ℕ) (acts : List E → K → A → List E → Type 0) (ask : K) (answer : A) (old new : Known E) : Type 0 where
  pub before : List E
  pub begins : IsPrefix old.seen before
  pub known : old.least ≤ length before
  pub few : length before < 2 ^ 61
  pub value : T
  pub fits : stands value before
  pub entry : List E
  pub one : length entry ≤ 1
  pub acted : acts before ask answer (before ++ entry)
  pub value_after : T
  pub fits_after : stands value_after (before ++ entry)
  pub first_kept : first value ≤ first value_after
  pub seen : new.seen ≡ before ++ entry
  pub made : new.made ≡ old.made ++ numbered (length before + 1) entry
  pub later : All (λ m. m.0 ≤ length before) old.made

-- the end of a lock: the history that the value stands for, and a pass that has all shares. It made each entry, with its
-- number, once: so says every way to weigh entries too
pub record IsWhole {T E : Type 0} (stands : T → List E → Type 0) (value : T) (history : List E) (pass : Known E) : Type 0 where
  pub fits : stands value history
  pub seen : IsPrefix pass.seen history
  pub least : pass.least ≤ length history
  pub made : All (Contains (numbered 1 history)) pass.made
  pub apart : AllPairs (λ x y. x.0 ≢ y.0) pass.made
  pub all_made : length pass.made ≡ length history
  pub weighed : (weight : ℕ × E → ℕ) → sum_by weight pass.made ≡ sum_by weight (numbered 1 history)
