-- Reads that wait, by their places.
use Rattle.std.proofs.Common.{◌≡◌, ◌∙◌, ◌<◌, ◌≤◌, ◌+◌, ℕ, zero, suc, List, [], ◌∷◌, ◌++◌, length, get_or, take, drop, Option, None, Some, Result, Ok, Err, IfOk, IfSome, OnOk, refl, sym, ap, subst, arith, add-one}
use Rattle.std.specs.Prelude.{IfNone}
use Rattle.std.specs.List.{remove}
use Rattle.model_text.specs.text.Outcome.{Outcome}
use Rattle.model_files.specs.wire.Message.{R, Rread}
use Rattle.model_files.specs.wire.Spelling.{FitsR}
use Rattle.model_world.specs.Session.{Session, Wait}
use Rattle.model_world.specs.Fids.{Left}
use Rattle.model_world.specs.Reading.{Given, given_by}
use Rattle.model_world.specs.Refusal.{refusal}
use Rattle.model_world.specs.Waiting.{answered_or, first_of, late_reply, one_answered, wait_answer}
use Rattle.model_world.specs.Outside.{Outside}
use Rattle.r9_memory.specs.declared.Memory.{Memory}
use Rattle.r9_wire.specs.declared.message.Rmsg.{Rmsg}
use Rattle.r9_wire.specs.View.{r_of}
use Rattle.r9_files.specs.declared.files.fault.Fault.TheVariants.{Refused}
use Rattle.r9_session.specs.Reads.{IsAwaited, IsFirst}

-- a list at a place
split_at : {A : Type 0} (xs : List A) (i : ℕ) (d : A) → i < length xs → (drop i xs ≡ get_or xs i d ∷ drop (suc i) xs) × (take (suc i) xs ≡ take i xs ++ get_or xs i d ∷ [])
split_at [] i d within = absurd (omega (arith, within))
split_at (x ∷ xs) zero d within = (refl, refl)
split_at (x ∷ xs) (suc i) d within =
    let more = split_at xs i d (omega (arith, within)) in
    (more.0, ap (λ ys. x ∷ ys) more.1)

abbrev pub waiting_without : Session → (place : ℕ) → Session
waiting_without session place = record session { waiting = remove session.waiting place }

-- what the read at a place is answered, and what comes later
first_at : {S : Type 0} (outside : Outside S) (session : Session) (state : S) (before after : List (ℕ × Wait)) (tag : ℕ) (wait : Wait)
    → first_of outside session state before ((tag, wait) ∷ after)
    ≡ answered_or (record session { waiting = before ++ after }) state tag wait (wait_answer outside session state wait) (first_of outside session state (before ++ (tag, wait) ∷ []) after)
unfolding first_of
first_at outside session state before after tag wait = refl

abbrev pub first_from : {S : Type 0} → Outside S → Session → S → (place : ℕ) → Option (Left S)
first_from outside session state place = first_of outside session state (take place session.waiting) (drop place session.waiting)

pub first_is : {S : Type 0} (outside : Outside S) (session : Session) (state : S) (place tag : ℕ) (wait : Wait) (d : ℕ × Wait) → place < length session.waiting → get_or session.waiting place d ≡ (tag, wait)
    → first_from outside session state place
    ≡ answered_or (waiting_without session place) state tag wait (wait_answer outside session state wait) (first_from outside session state (place + 1))
first_is outside session state place tag wait d within at =
    let parts = split_at session.waiting place d within in
    let before = take place session.waiting in
    let after = drop (suc place) session.waiting in
    let here : drop place session.waiting ≡ (tag, wait) ∷ after = parts.0 ∙ ap (λ (read : ℕ × Wait). read ∷ after) at in
    let past : take (suc place) session.waiting ≡ before ++ (tag, wait) ∷ [] = parts.1 ∙ ap (λ (read : ℕ × Wait). before ++ read ∷ []) at in
    ap (first_of outside session state before) here
    ∙ first_at outside session state before after tag wait
    ∙ (λ j. answered_or (waiting_without session place) state tag wait (wait_answer outside session state wait) (first_of outside session state (sym past j) after))
    ∙ ap (λ (n : ℕ). answered_or (waiting_without session place) state tag wait (wait_answer outside session state wait) (first_from outside session state n)) (sym (add-one place))

-- none is left behind the last place
pub first_end : {S : Type 0} (outside : Outside S) (session : Session) (state : S) (place : ℕ) → length session.waiting ≤ place → first_from outside session state place ≡ None
unfolding first_of
first_end outside session state place past = ap (first_of outside session state (take place session.waiting)) (none_behind session.waiting place past)
  where
    none_behind : {A : Type 0} (xs : List A) (n : ℕ) → length xs ≤ n → drop n xs ≡ []
    none_behind [] zero past = refl
    none_behind [] (suc n) past = refl
    none_behind (x ∷ xs) zero past = absurd (omega (arith, past))
    none_behind (x ∷ xs) (suc n) past = none_behind xs n (omega (arith, past))

-- it waits on, or it is answered
pub waits_on : {S : Type 0} (outside : Outside S) (session : Session) (state : S) (place tag : ℕ) (wait : Wait) (d : ℕ × Wait) → place < length session.waiting → get_or session.waiting place d ≡ (tag, wait)
    → wait_answer outside session state wait ≡ None → first_from outside session state place ≡ first_from outside session state (place + 1)
waits_on {S} outside session state place tag wait d within at none =
    first_is outside session state place tag wait d within at
    ∙ ap (λ (o : Option (Outcome (Given S))). answered_or (waiting_without session place) state tag wait o (first_from outside session state (place + 1))) none

pub gets : {S : Type 0} (outside : Outside S) (session : Session) (state : S) (place tag : ℕ) (wait : Wait) (d : ℕ × Wait) (got : Outcome (Given S)) → place < length session.waiting
    → get_or session.waiting place d ≡ (tag, wait) → wait_answer outside session state wait ≡ Some got
    → first_from outside session state place ≡ Some (late_reply (waiting_without session place) state tag wait got)
gets {S} outside session state place tag wait d got within at some =
    first_is outside session state place tag wait d within at
    ∙ ap (λ (o : Option (Outcome (Given S))). answered_or (waiting_without session place) state tag wait o (first_from outside session state (place + 1))) some

abbrev pub waiting_read : ℕ → Wait → ℕ × Wait
waiting_read tag wait = (tag, wait)

pub gets_bytes : {S : Type 0} (outside : Outside S) (session mid new : Session) (state after : S) (place tag : ℕ) (wait : Wait) (d : ℕ × Wait) (bytes : List ℕ) (reply : R) → place < length session.waiting
    → get_or session.waiting place d ≡ (tag, wait) → IsAwaited session state wait.fid (Ok (Some bytes)) mid after (wait_answer outside session state wait)
    → new ≡ waiting_without mid place → reply ≡ Rread tag bytes → first_from outside session state place ≡ Some (record { session = new; rest = after; reply = Some reply })
gets_bytes outside session mid new state after place tag wait d bytes reply within at got left is =
    let own = ap (λ (s : Session). waiting_without s place) (sym got.2) ∙ sym left in
    gets outside session state place tag wait d (Ok (given_by got.0 after bytes)) within at got.1
    ∙ (λ j. Some (record { session = own j; rest = after; reply = Some (sym is j) }))

pub gets_refusal : {S : Type 0} (outside : Outside S) (session mid new : Session) (state after : S) (place tag : ℕ) (wait : Wait) (d : ℕ × Wait) (n : ℕ) (reply : R) → place < length session.waiting
    → get_or session.waiting place d ≡ (tag, wait) → IsAwaited session state wait.fid (Err (Refused n)) mid after (wait_answer outside session state wait)
    → new ≡ waiting_without mid place → reply ≡ refusal tag n → first_from outside session state place ≡ Some (record { session = new; rest = after; reply = Some reply })
gets_refusal outside session mid new state after place tag wait d n reply within at got left is =
    let own = ap (λ (s : Session). waiting_without s place) (sym got.1) ∙ sym left in
    gets outside session state place tag wait d (Err n) within at got.0
    ∙ (λ j. Some (record { session = own j; rest = sym got.2 j; reply = Some (sym is j) }))

-- ---- one after the other

abbrev pub IsFirstOf : {S : Type 0} → Session → S → Result (Option Rmsg) Memory → Session → S → (defined later : Option (Left S)) → Type 0
IsFirstOf session state r new after defined later = IfOk r (λ given. IsFirst session state given new after defined later)

pub first_then : {S : Type 0} (outside : Outside S) (session mid new : Session) (state rest after : S) (place : ℕ) (r : Result (Option Rmsg) Memory)
    → first_from outside session state place ≡ first_from outside session state (place + 1) → mid ≡ session → rest ≡ state
    → IsFirstOf mid rest r new after (first_from outside mid rest (place + 1)) None → IsFirstOf session state r new after (first_from outside session state place) None
first_then outside session mid new state rest after place (Ok (Some reply)) step same left is = (step ∙ (λ j. first_from outside (sym same j) (sym left j) (place + 1)) ∙ is.0, is.1)
first_then outside session mid new state rest after place (Ok None) step same left is =
    (step ∙ (λ j. first_from outside (sym same j) (sym left j) (place + 1)) ∙ is.0, is.1 ∙ same, is.2 ∙ left)
first_then outside session mid new state rest after place (Err e) step same left is = tt

-- ---- what is said of the earliest that can be answered

module _ {S : Type 0} (outside : Outside S) (session new : Session) (state after : S) where
  pub answered_of : (r : Result (Option Rmsg) Memory) → IsFirstOf session state r new after (one_answered outside session state) None
      → IfOk r (λ given. IfSome given (λ reply. one_answered outside session state ≡ Some (record { session = new; rest = after; reply = Some (r_of reply) })))
  answered_of (Ok (Some reply)) is = is.0
  answered_of (Ok None) is = tt
  answered_of (Err e) is = tt

  pub none_of : (r : Result (Option Rmsg) Memory) → IsFirstOf session state r new after (one_answered outside session state) None
      → IfOk r (λ given. IfNone given (one_answered outside session state ≡ None))
  none_of (Ok (Some reply)) is = tt
  none_of (Ok None) is = is.0
  none_of (Err e) is = tt

  pub kept_of : (r : Result (Option Rmsg) Memory) → IsFirstOf session state r new after (one_answered outside session state) None
      → IfOk r (λ given. IfNone given ((new ≡ session) × (after ≡ state)))
  kept_of (Ok (Some reply)) is = tt
  kept_of (Ok None) is = (is.1, is.2)
  kept_of (Err e) is = tt

  pub fits_of : (r : Result (Option Rmsg) Memory) → IsFirstOf session state r new after (one_answered outside session state) None
      → IfOk r (λ given. IfSome given (λ reply. FitsR (r_of reply)))
  fits_of (Ok (Some reply)) is = is.1
  fits_of (Ok None) is = tt
  fits_of (Err e) is = tt

  pub holds_of : (linked : (made : ℕ) → List ℕ → S → Type 0) (others : (before after : S) → Type 0) (r : Result (Option Rmsg) Memory) → linked session.made session.connections state → others state state
      → ((left : Left S) → one_answered outside session state ≡ Some left → linked left.session.made left.session.connections left.rest × others state left.rest)
      → IsFirstOf session state r new after (one_answered outside session state) None
      → OnOk r (linked new.made new.connections after × others state after)
  holds_of linked others (Ok (Some reply)) was stay late is = late _ is.0
  holds_of linked others (Ok None) was stay late is = (
    subst (λ (s : Session). linked s.made s.connections after) (sym is.1) (subst (λ (rest : S). linked session.made session.connections rest) (sym is.2) was),
    subst (λ (rest : S). others state rest) (sym is.2) stay,
  )
  holds_of linked others (Err e) was stay late is = tt
