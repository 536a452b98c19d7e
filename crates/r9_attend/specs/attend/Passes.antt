-- What a call leaves of a pass, and the histories that a session's passes speak of.
use Rattle.std.specs.Prelude.{◌≡◌, ℕ, ◌+◌, ◌/◌, ◌^◌, ◌≤◌, ◌<◌, Bool, true, List, ◌++◌, length, drop, All, Contains}
use Rattle.r9_event.specs.declared.event.event.Event.{Event}
use Rattle.r9_event.specs.declared.event.event.Entry.{Entry}
use Rattle.r9_event.specs.declared.event.ask.Ask.{Ask}
use Rattle.r9_event.specs.declared.event.ask.Answer.{Answer}
use Rattle.r9_lock.specs.Histories.{IsPrefix, numbered}
use Rattle.r9_lock.specs.Passes.{Known}
use Rattle.model_served.specs.session.Server.{Server}
use Rattle.model_served.specs.session.Acts.{May}

-- a pass has its lock and its shares, and has seen and made what it had, and perhaps more
pub record GoesOn (old new : Known Entry) : Type 0 where
  pub lock : new.lock ≡ old.lock
  pub shares : new.shares ≡ old.shares
  pub least : old.least ≤ new.least
  pub seen : IsPrefix old.seen new.seen
  pub made : IsPrefix old.made new.made

-- the entries, with their numbers, that a pass made in a call
abbrev pub made_since : (old new : Known Entry) → List (ℕ × Entry)
made_since old new = drop (length old.made) new.made

-- a history that goes on from what was seen, and has of such events only those that were made
pub record IsOwn (such : Event → Bool) (seen : List Entry) (made : List (ℕ × Entry)) (history : List Entry) : Type 0 where
  pub begins : IsPrefix seen history
  pub own : (m : ℕ × Entry) → Contains (numbered 1 history) m → such m.1.event ≡ true → Contains made m

-- a turn at a server: the history before it goes on from what the pass had seen, has all entries that the pass knew of and fewer than
-- 2^61, and has one entry more after it, or none
pub record Turned (s : Server) (ask : Ask) (answer : Answer) (old new : Known Entry) : Type 0 where
  pub before : List Entry
  pub begins : IsPrefix old.seen before
  pub known : old.least ≤ length before
  pub few : length before < 2 ^ 61
  pub entry : List Entry
  pub one : length entry ≤ 1
  pub may : May s before ask answer (before ++ entry)
  pub seen : new.seen ≡ before ++ entry
  pub made : new.made ≡ old.made ++ numbered (length before + 1) entry
  pub later : All (λ m. m.0 ≤ length before) old.made

-- there are no more turns
pub record NotTurned (count : ℕ) (old new : Known Entry) : Type 0 where
  pub large : 2 ^ 62 ≤ count
  pub least : count / 2 ≤ new.least
  pub seen : new.seen ≡ old.seen
  pub made : new.made ≡ old.made
