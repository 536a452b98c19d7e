-- A write of messages to two devices that are like.
use Rattle.std.proofs.Common.{◌≡◌, ◌<◌, ◌≤◌, ◌^◌, ◌+◌, ℕ, zero, suc, Bool, true, false, List, [], ◌∷◌, Option, Some, None, Ok, Err, refl, ap, subst, arith}
use Rattle.std.specs.Prelude.{◌==◌, drop}
use Rattle.std.specs.Option.{option_map_or}
use Rattle.std.specs.Result.{result_ok}
use Rattle.model_text.specs.text.Outcome.{Outcome, ◌>>=◌, refuse_if}
use Rattle.model_draw.specs.imgfile.ImageFile.{rows_len}
use Rattle.model_draw_parts.specs.dmsg.Message.{Message, LowB, UpA, LowC, LowD, UpD, LowF, UpF, LowI, LowL, UpN, LowN, LowO, UpO, LowR, LowS, UpS, LowT, LowV, LowX, LowY}
use Rattle.model_draw_parts.specs.dmsg.Reading.{first_message}
use Rattle.model_draw.specs.draw.World.{World, at_number, look}
use Rattle.model_draw.specs.draw.Act.{Written, act, behind, is_marked, no_memory, one_message, spelled, written_within}
use Rattle.model_world.specs.Whole.{client}
use Rattle.law_likeness.specs.agreement.Agreement.{SameOutcome}
use Rattle.law_shown.specs.shown.Showing.{IsOrderly}
use Rattle.law_likeness.proofs.likeness.Looking.{look_same}
use Rattle.law_likeness.specs.making.Likes.{IsLike, IsOwn, Matched}
use Rattle.law_likeness.specs.making.Standing.{IsWhole}
use Rattle.law_likeness.proofs.freeing.Acting.{act_like}

-- the rest of a write after a message
abbrev further : (World → List ℕ → Written) → World → ℕ → Outcome (World × List ℕ) → Written
further go w done (Ok next) = go next.0 next.1
further go w done (Err refusal) = record { world = w; done = done; refusal = Some refusal }

-- as many messages were done at least
grows : (steps k : ℕ) (w : World) (mark : Option ℕ) (done : ℕ) (bytes : List ℕ) → done ≤ (written_within steps k w mark done bytes).done
grows zero k w mark done bytes = omega arith
grows (suc steps) k w mark done [] = omega arith
grows (suc steps) k w mark done (byte ∷ bytes) = by (one_message k w mark done (byte ∷ bytes)) (λ next rest. grows steps k next mark (done + 1) rest)
  where
    by : (o : Outcome (World × List ℕ)) → ((next : World) (rest : List ℕ) → done + 1 ≤ (written_within steps k next mark (done + 1) rest).done)
        → done ≤ (further (λ next rest. written_within steps k next mark (done + 1) rest) w done o).done
    by (Ok next) more = let least = more next.0 next.1 in omega arith
    by (Err refusal) more = omega arith

-- memory ran out
abbrev pub ran_out : Option ℕ → Bool
ran_out refusal = option_map_or (λ r. r == no_memory) refusal false

-- as many were done, with the same refusal, and the devices are like
pub record SameWritten (c : ℕ) (window : Option (ℕ × List ℕ)) (x y : Written) : Type 0 where
  pub world : IsLike c window x.world y.world
  pub done : x.done ≡ y.done
  pub refusal : x.refusal ≡ y.refusal

-- as many were done, of the other write all, and the devices are like
pub record DoneAlike (c : ℕ) (window : Option (ℕ × List ℕ)) (x y : Written) : Type 0 where
  pub world : IsLike c window x.world y.world
  pub done : x.done ≡ y.done
  pub refusal : y.refusal ≡ None

-- `Kept` holds of both devices and each message keeps it. `Own` says that of the first messages each is the session's own.
module _ (c : ℕ) (window : Option (ℕ × List ℕ)) (n : ℕ) (few : n < 2 ^ 26) (Kept : World → Type 0) (whole : (w : World) → Kept w → IsWhole w) (orderly : (w : World) → Kept w → IsOrderly w)
    (keeps_left : (w next : World) (m : Message) (rest : List ℕ) → Kept w → act (client c n) w m rest ≡ Ok next → Kept next)
    (keeps_right : (w next : World) (m : Message) (rest : List ℕ) → Kept w → act (client 1 n) w m rest ≡ Ok next → Kept next)
    (Own : ℕ → World → List ℕ → Type 0)
    (own_first : (most : ℕ) (w : World) (bytes : List ℕ) (m : Message × List ℕ) → Own (suc most) w bytes → spelled (first_message bytes) ≡ Ok m → IsOwn window m.0)
    (own_next : (most : ℕ) (w next : World) (bytes : List ℕ) (m : Message × List ℕ) → Own (suc most) w bytes → spelled (first_message bytes) ≡ Ok m → act (client c n) w m.0 m.1 ≡ Ok next
    → Own most next (behind (client c n) w m.0 m.1)) where
  abbrev Same : Written → Written → Type 0
  Same x y = SameWritten c window x y

  -- the rows of a `y` are as long in both
  behind_same : (a b : World) → IsLike c window a b → (m : Message) (rest : List ℕ) → IsOwn window m → behind (client c n) a m rest ≡ behind (client 1 n) b m rest
  unfolding behind
  behind_same a b is (LowB id screenid refresh chan repl r clipr color) rest own = refl
  behind_same a b is (UpA id imageid fillid public) rest own = refl
  behind_same a b is (LowC dstid repl clipr) rest own = refl
  behind_same a b is (LowD dstid srcid maskid dstr srcp maskp) rest own = refl
  behind_same a b is (UpD debug) rest own = refl
  behind_same a b is (LowF id) rest own = refl
  behind_same a b is (UpF id) rest own = refl
  behind_same a b is (LowI id count ascent) rest own = refl
  behind_same a b is (LowL cacheid srcid index r sp left width) rest own = refl
  behind_same a b is (UpN id tied name) rest own = refl
  behind_same a b is (LowN id name) rest own = refl
  behind_same a b is (LowO id rmin scr) rest own = refl
  behind_same a b is (UpO op) rest own = refl
  behind_same a b is (LowR id r) rest own = refl
  behind_same a b is (LowS writing) rest own = refl
  behind_same a b is (UpS id chan) rest own = refl
  behind_same a b is (LowT top ids) rest own = refl
  behind_same a b is LowV rest own = refl
  behind_same a b is (LowX writing bgid bgp) rest own = refl
  behind_same a b is (LowY id r) rest own =
      by (look a (client c n) id) (look b (client 1 n) id) (look_same (Matched is.images) (Matched is.screens) c window a b is.like n few id own)
    where
      by : (x y : Outcome ℕ) → SameOutcome (Matched is.images) x y
          → drop (option_map_or (λ i. rows_len (at_number a i).chan r) (result_ok x) 0) rest ≡ drop (option_map_or (λ j. rows_len (at_number b j).chan r) (result_ok y) 0) rest
      by (Ok i) (Ok j) same = ap (λ (chan : ℕ). drop (rows_len chan r) rest) (is.like.images.faces i j same).chan
      by (Err p) (Err q) same = refl
      by (Ok i) (Err q) same = absurd same
      by (Err p) (Ok j) same = absurd same

  -- one message, and the rest behind it
  module _ (steps most : ℕ) (a b : World) (is : IsLike c window a b) (left : Kept a) (right : Kept b) (mark : Option ℕ) (done byte : ℕ) (bytes : List ℕ) (own : Own (suc most) a (byte ∷ bytes)) where
    abbrev More : Type 0
    More = (x y : World) → IsLike c window x y → Kept x → Kept y → (rest : List ℕ) → ran_out (written_within steps (client c n) x mark (done + 1) rest).refusal ≡ false
        → most + (done + 1) ≡ (written_within steps (client c n) x mark (done + 1) rest).done + 1 → Own most x rest
        → Same (written_within steps (client c n) x mark (done + 1) rest) (written_within steps (client 1 n) y None (done + 1) rest)

    abbrev go_left : World → List ℕ → Written
    go_left x rest = written_within steps (client c n) x mark (done + 1) rest

    abbrev go_right : World → List ℕ → Written
    go_right y rest = written_within steps (client 1 n) y None (done + 1) rest

    abbrev acted_left : (m : Message × List ℕ) → Outcome World → Bool → Outcome (World × List ℕ)
    acted_left m o marked = o >>= λ next. refuse_if marked no_memory >>= λ _. Ok (next, behind (client c n) a m.0 m.1)

    abbrev acted_right : (m : Message × List ℕ) → Outcome World → Outcome (World × List ℕ)
    acted_right m o = o >>= λ next. refuse_if false no_memory >>= λ _. Ok (next, behind (client 1 n) b m.0 m.1)

    by_acting : (m : Message × List ℕ) → spelled (first_message (byte ∷ bytes)) ≡ Ok m → (x y : Outcome World) → act (client c n) a m.0 m.1 ≡ x → act (client 1 n) b m.0 m.1 ≡ y
        → SameOutcome (IsLike c window) x y → (marked : Bool) → ran_out (further go_left a done (acted_left m x marked)).refusal ≡ false
        → suc most + done ≡ (further go_left a done (acted_left m x marked)).done + 1 → More
        → Same (further go_left a done (acted_left m x marked)) (further go_right b done (acted_right m y))
    by_acting m at (Ok x) (Ok y) one other like true went count more = absurd cc
    by_acting m at (Ok x) (Ok y) one other like false went count more =
        let mine : IsOwn window m.0 = own_first most a (byte ∷ bytes) m own at in
        subst (λ (rest : List ℕ). Same (go_left x (behind (client c n) a m.0 m.1)) (go_right y rest)) (behind_same a b is m.0 m.1 mine)
        (more x y like (keeps_left a x m.0 m.1 left one) (keeps_right b y m.0 m.1 right other) (behind (client c n) a m.0 m.1) went (omega (arith, count))
        (own_next most a x (byte ∷ bytes) m own at one))
    by_acting m at (Err p) (Err q) one other like marked went count more = record { world = is; done = refl; refusal = ap (λ (r : ℕ). Some r) like }
    by_acting m at (Ok x) (Err q) one other like marked went count more = absurd like
    by_acting m at (Err p) (Ok y) one other like marked went count more = absurd like

    by_spelling : (o : Outcome (Message × List ℕ)) → spelled (first_message (byte ∷ bytes)) ≡ o
        → ran_out (further go_left a done (o >>= λ m. acted_left m (act (client c n) a m.0 m.1) (is_marked mark done))).refusal ≡ false
        → suc most + done ≡ (further go_left a done (o >>= λ m. acted_left m (act (client c n) a m.0 m.1) (is_marked mark done))).done + 1 → More
        → Same (further go_left a done (o >>= λ m. acted_left m (act (client c n) a m.0 m.1) (is_marked mark done))) (further go_right b done (o >>= λ m. acted_right m (act (client 1 n) b m.0 m.1)))
    by_spelling (Ok m) at went count more =
        by_acting m at (act (client c n) a m.0 m.1) (act (client 1 n) b m.0 m.1) refl refl
        (act_like c window a b is n few (whole a left) (whole b right) (orderly a left) (orderly b right) m.0 m.1 (own_first most a (byte ∷ bytes) m own at)) (is_marked mark done) went count more
    by_spelling (Err r) at went count more = record { world = is; done = refl; refusal = refl }

  -- no mark took effect
  pub within_like : (steps most : ℕ) (a b : World) → IsLike c window a b → Kept a → Kept b → (mark : Option ℕ) (done : ℕ) (bytes : List ℕ)
      → ran_out (written_within steps (client c n) a mark done bytes).refusal ≡ false → most + done ≡ (written_within steps (client c n) a mark done bytes).done + 1 → Own most a bytes
      → Same (written_within steps (client c n) a mark done bytes) (written_within steps (client 1 n) b None done bytes)
  unfolding one_message
  within_like zero most a b is left right mark done bytes went count own = record { world = is; done = refl; refusal = refl }
  within_like (suc steps) most a b is left right mark done [] went count own = record { world = is; done = refl; refusal = refl }
  within_like (suc steps) zero a b is left right mark done (byte ∷ bytes) went count own =
      let least = grows (suc steps) (client c n) a mark done (byte ∷ bytes) in absurd (omega arith)
  within_like (suc steps) (suc most) a b is left right mark done (byte ∷ bytes) went count own =
      by_spelling steps most a b is left right mark done byte bytes own (spelled (first_message (byte ∷ bytes))) refl went count
      (λ x y like one other rest lasts so mine. within_like steps most x y like one other mark (done + 1) rest lasts so mine)

  abbrev Alike : Written → Written → Type 0
  Alike x y = DoneAlike c window x y

  module _ (steps most : ℕ) (a b : World) (is : IsLike c window a b) (left : Kept a) (right : Kept b) (mark : Option ℕ) (done byte : ℕ) (bytes : List ℕ) (own : Own (suc most) a (byte ∷ bytes)) where
    abbrev Next : Type 0
    Next = (x y : World) → IsLike c window x y → Kept x → Kept y → (rest : List ℕ) → ran_out (written_within steps (client c n) x mark (done + 1) rest).refusal ≡ true
        → most + (done + 1) ≡ (written_within steps (client c n) x mark (done + 1) rest).done → Own most x rest
        → Alike (written_within steps (client c n) x mark (done + 1) rest) (written_within most (client 1 n) y None (done + 1) rest)

    abbrev on_left : World → List ℕ → Written
    on_left x rest = written_within steps (client c n) x mark (done + 1) rest

    abbrev on_right : World → List ℕ → Written
    on_right y rest = written_within most (client 1 n) y None (done + 1) rest

    abbrev did_left : (m : Message × List ℕ) → Outcome World → Bool → Outcome (World × List ℕ)
    did_left m o marked = o >>= λ next. refuse_if marked no_memory >>= λ _. Ok (next, behind (client c n) a m.0 m.1)

    abbrev did_right : (m : Message × List ℕ) → Outcome World → Outcome (World × List ℕ)
    did_right m o = o >>= λ next. refuse_if false no_memory >>= λ _. Ok (next, behind (client 1 n) b m.0 m.1)

    by_doing : (m : Message × List ℕ) → spelled (first_message (byte ∷ bytes)) ≡ Ok m → (x y : Outcome World) → act (client c n) a m.0 m.1 ≡ x → act (client 1 n) b m.0 m.1 ≡ y
        → SameOutcome (IsLike c window) x y → (marked : Bool) → ran_out (further on_left a done (did_left m x marked)).refusal ≡ true
        → suc most + done ≡ (further on_left a done (did_left m x marked)).done → Next
        → Alike (further on_left a done (did_left m x marked)) (further on_right b done (did_right m y))
    by_doing m at (Ok x) (Ok y) one other like true went count more = absurd (omega (arith, count))
    by_doing m at (Ok x) (Ok y) one other like false went count more =
        let mine : IsOwn window m.0 = own_first most a (byte ∷ bytes) m own at in
        subst (λ (rest : List ℕ). Alike (on_left x (behind (client c n) a m.0 m.1)) (on_right y rest)) (behind_same a b is m.0 m.1 mine)
        (more x y like (keeps_left a x m.0 m.1 left one) (keeps_right b y m.0 m.1 right other) (behind (client c n) a m.0 m.1) went (omega (arith, count))
        (own_next most a x (byte ∷ bytes) m own at one))
    by_doing m at (Err p) (Err q) one other like marked went count more = absurd (omega (arith, count))
    by_doing m at (Ok x) (Err q) one other like marked went count more = absurd like
    by_doing m at (Err p) (Ok y) one other like marked went count more = absurd like

    by_reading : (o : Outcome (Message × List ℕ)) → spelled (first_message (byte ∷ bytes)) ≡ o
        → ran_out (further on_left a done (o >>= λ m. did_left m (act (client c n) a m.0 m.1) (is_marked mark done))).refusal ≡ true
        → suc most + done ≡ (further on_left a done (o >>= λ m. did_left m (act (client c n) a m.0 m.1) (is_marked mark done))).done → Next
        → Alike (further on_left a done (o >>= λ m. did_left m (act (client c n) a m.0 m.1) (is_marked mark done))) (further on_right b done (o >>= λ m. did_right m (act (client 1 n) b m.0 m.1)))
    by_reading (Ok m) at went count more =
        by_doing m at (act (client c n) a m.0 m.1) (act (client 1 n) b m.0 m.1) refl refl
        (act_like c window a b is n few (whole a left) (whole b right) (orderly a left) (orderly b right) m.0 m.1 (own_first most a (byte ∷ bytes) m own at)) (is_marked mark done) went count more
    by_reading (Err r) at went count more = absurd (omega (arith, count))

  -- Memory ran out: the other device does the messages before, and does not look at the next one.
  pub within_marked : (steps most : ℕ) (a b : World) → IsLike c window a b → Kept a → Kept b → (mark : Option ℕ) (done : ℕ) (bytes : List ℕ)
      → ran_out (written_within steps (client c n) a mark done bytes).refusal ≡ true → most + done ≡ (written_within steps (client c n) a mark done bytes).done → Own most a bytes
      → Alike (written_within steps (client c n) a mark done bytes) (written_within most (client 1 n) b None done bytes)
  unfolding one_message
  within_marked zero most a b is left right mark done bytes went count own = absurd cc
  within_marked (suc steps) most a b is left right mark done [] went count own = absurd cc
  within_marked (suc steps) zero a b is left right mark done (byte ∷ bytes) went count own = by (one_message (client c n) a mark done (byte ∷ bytes)) count (λ x rest. grows steps (client c n) x mark (done + 1) rest)
    where
      by : (o : Outcome (World × List ℕ)) → 0 + done ≡ (further (λ x rest. written_within steps (client c n) x mark (done + 1) rest) a done o).done
          → ((x : World) (rest : List ℕ) → done + 1 ≤ (written_within steps (client c n) x mark (done + 1) rest).done)
          → Alike (further (λ x rest. written_within steps (client c n) x mark (done + 1) rest) a done o) (record { world = b; done = done; refusal = None })
      by (Ok next) count more = let least = more next.0 next.1 in absurd (omega (arith, count))
      by (Err refusal) count more = record { world = is; done = refl; refusal = refl }
  within_marked (suc steps) (suc most) a b is left right mark done (byte ∷ bytes) went count own =
      by_reading steps most a b is left right mark done byte bytes own (spelled (first_message (byte ∷ bytes))) refl went count
      (λ x y like one other rest lasts so mine. within_marked steps most x y like one other mark (done + 1) rest lasts so mine)
