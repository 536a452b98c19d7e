-- What the answer to a read that waited leaves of its session, and that its reply fits.
use Rattle.std.proofs.Common.{◌≡◌, ◌<◌, ◌≤◌, ◌+◌, ◌^◌, ℕ, List, [], ◌∷◌, ◌++◌, All, Option, Some, None, Ok, Err, refl, sym, ap, subst, arith}
use Rattle.std.specs.Prelude.{◌==◌, IfOk, IfSome, cond, count_by}
use Rattle.std.specs.Option.{option_map}
use Rattle.std.proofs.lemmas.List.Elements.{All-cons, All-head, All-tail}
use Rattle.std.proofs.lemmas.List.Sums.{sum_by-append, sum_by-cons}
use Rattle.model_text.specs.text.Outcome.{Outcome}
use Rattle.model_world.specs.Session.{Fid, Session, Wait}
use Rattle.model_world.specs.Outside.{Outside}
use Rattle.model_world.specs.Desktop.{Desktop}
use Rattle.model_world.specs.Whole.{desktop_for}
use Rattle.model_world.specs.Fids.{Left}
use Rattle.model_world.specs.Reading.{Given, given_now}
use Rattle.model_world.specs.Waiting.{answered_or, awaited, first_of, given_or_refused, one_answered, wait_answer}
use Rattle.model_world.specs.Standing.{tag_of_r}
use Rattle.law_replies.specs.Tags.{waiting_with}
use Rattle.law_replies.proofs.Lengths.{Fits, FitsRead, error_fits, read_fits}
use Rattle.law_replies.proofs.Given.{Tells, desktop_tells, now_fits}
use Rattle.law_replies.proofs.Sessions.{IsHeld, IsSized, one_if, replied_with}

-- the size stays, one read less waits, and the reply to it has its tag and fits
pub record IsLate {S : Type 0} (msize : ℕ) (reads : List (ℕ × Wait)) (after : Left S) : Type 0 where
  pub size : after.session.msize ≡ msize
  pub held : All (IsHeld msize) after.session.waiting
  pub owed : (t : ℕ) → replied_with t after.reply + waiting_with after.session t ≤ count_by (λ read. read.0 == t) reads
  pub fits : IfSome after.reply (λ r. (tag_of_r r < 2 ^ 16) × Fits msize r)

append_one : {A : Type 0} (xs ys : List A) (x : A) → (xs ++ x ∷ []) ++ ys ≡ xs ++ x ∷ ys
append_one [] ys x = refl
append_one (y ∷ xs) ys x = ap (λ (l : List _). y ∷ l) (append_one xs ys x)

middle_less : (before after : List (ℕ × Wait)) (read : ℕ × Wait) (t : ℕ) → one_if (read.0 == t) + count_by (λ (r : ℕ × Wait). r.0 == t) (before ++ after) ≤ count_by (λ (r : ℕ × Wait). r.0 == t) (before ++ read ∷ after)
middle_less before after read t =
    let f : ℕ × Wait → ℕ = λ r. cond (r.0 == t) 1 0 in
    omega (arith, sum_by-append f before after, sum_by-append f before (read ∷ after), sum_by-cons f read after)

-- what is given now fits
abbrev IsGivenFit : {S : Type 0} → ℕ → Outcome (Given S) → Type 0
IsGivenFit msize o = IfOk o (λ got. FitsRead msize got.bytes)

late_goes : {S : Type 0} (msize : ℕ) (reads before after : List (ℕ × Wait)) (session : Session) (rest : S) (tag : ℕ) (wait : Wait) (o : Option (Outcome (Given S))) (later : Option (Left S)) → 256 ≤ msize → session.msize ≡ msize
    → reads ≡ before ++ (tag, wait) ∷ after → session.waiting ≡ before ++ after → All (IsHeld msize) (before ++ after) → tag < 2 ^ 16 → IfSome o (IsGivenFit msize) → IfSome later (IsLate msize reads)
    → IfSome (answered_or session rest tag wait o later) (IsLate msize reads)
late_goes msize reads before after session rest tag wait None later least size whole same held small fits more = more
late_goes msize reads before after session rest tag wait (Some o) later least size whole same held small fits more = by o fits
  where
    kept : All (IsHeld msize) session.waiting
    kept = subst (λ (rs : List (ℕ × Wait)). All (IsHeld msize) rs) (sym same) held

    less : (t : ℕ) → one_if (tag == t) + count_by (λ (r : ℕ × Wait). r.0 == t) session.waiting ≤ count_by (λ (r : ℕ × Wait). r.0 == t) reads
    less t =
        subst (λ (rs : List (ℕ × Wait)). one_if (tag == t) + count_by (λ (r : ℕ × Wait). r.0 == t) session.waiting ≤ count_by (λ (r : ℕ × Wait). r.0 == t) rs) (sym whole)
        (subst (λ (rs : List (ℕ × Wait)). one_if (tag == t) + count_by (λ (r : ℕ × Wait). r.0 == t) rs ≤ count_by (λ (r : ℕ × Wait). r.0 == t) (before ++ (tag, wait) ∷ after)) (sym same) (middle_less before after (tag, wait) t))

    by : (o : Outcome (Given _)) → IsGivenFit msize o → IfSome (answered_or session rest tag wait (Some o) later) (IsLate msize reads)
    by (Err n) fits = record { size = size; held = kept; owed = less; fits = (small, error_fits msize tag n least) }
    by (Ok got) fits = record { size = size; held = kept; owed = less; fits = (small, read_fits msize tag got.bytes fits) }

wait_fits : {S : Type 0} (outside : Outside S) (tells : Tells outside) (session : Session) (rest : S) (msize : ℕ) (wait : Wait) → 256 ≤ msize → wait.count + 11 ≤ msize → IfSome (wait_answer outside session rest wait) (IsGivenFit msize)
unfolding wait_answer
wait_fits {S = S} outside tells session rest msize wait least room = by (awaited outside session rest wait)
  where
    given : (o : Option (Given S)) → IfSome o (λ got. FitsRead msize got.bytes) → IfSome (option_map Ok o) (IsGivenFit msize)
    given None fits = tt
    given (Some got) fits = fits

    by : (o : Outcome Fid) → IfSome (given_or_refused outside rest wait.count o) (IsGivenFit msize)
    by (Err n) = tt
    by (Ok fid) = given (given_now outside rest fid wait.count fid.node.kind) (now_fits outside tells msize least rest fid wait.count fid.node.kind room)

held_parts : (msize : ℕ) (before after : List (ℕ × Wait)) (read : ℕ × Wait) → All (IsHeld msize) (before ++ read ∷ after) → All (IsHeld msize) (before ++ after) × IsHeld msize read
held_parts msize [] after read all = (All-tail (IsHeld msize) read after all, All-head (IsHeld msize) read after all)
held_parts msize (first ∷ before) after read all =
    let more = held_parts msize before after read (All-tail (IsHeld msize) first (before ++ read ∷ after) all) in
    (push first (before ++ after) (All-head (IsHeld msize) first (before ++ read ∷ after) all) more.0, more.1)
  where
    push : (x : ℕ × Wait) (xs : List (ℕ × Wait)) → IsHeld msize x → All (IsHeld msize) xs → All (IsHeld msize) (x ∷ xs)
    push = All-cons (IsHeld msize)

first_goes : {S : Type 0} (outside : Outside S) (tells : Tells outside) (session : Session) (rest : S) (msize : ℕ) (before after : List (ℕ × Wait)) → 256 ≤ msize → session.msize ≡ msize → All (IsHeld msize) (before ++ after)
    → IfSome (first_of outside session rest before after) (IsLate msize (before ++ after))
unfolding first_of
first_goes outside tells session rest msize before [] least size all = tt
first_goes {S = S} outside tells session rest msize before ((tag, wait) ∷ after) least size all =
    let later = first_of outside session rest (before ++ (tag, wait) ∷ []) after in
    let parts = held_parts msize before after (tag, wait) all in
    late_goes msize (before ++ (tag, wait) ∷ after) before after (record session { waiting = before ++ after }) rest tag wait (wait_answer outside session rest wait) later least size refl refl parts.0 parts.1.tag
    (wait_fits outside tells session rest msize wait least parts.1.room)
    (subst (λ (reads : List (ℕ × Wait)). IfSome later (IsLate msize reads)) (append_one before after (tag, wait))
    (first_goes outside tells session rest msize (before ++ (tag, wait) ∷ []) after least size (subst (λ (reads : List (ℕ × Wait)). All (IsHeld msize) reads) (sym (append_one before after (tag, wait))) all)))

-- the answer to a read that waited
pub one_goes : (c : ℕ) (session : Session) (desktop : Desktop) (after : Left Desktop) → IsSized session → one_answered (desktop_for c) session desktop ≡ Some after → IsLate session.msize session.waiting after
one_goes c session desktop after is at =
    let P : Option (Left Desktop) → Type 0 = λ o. IfSome o (IsLate session.msize session.waiting) in
    subst P at (first_goes (desktop_for c) (desktop_tells c) session desktop session.msize [] session.waiting is.least refl is.held)
