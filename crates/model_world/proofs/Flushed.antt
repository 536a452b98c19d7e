-- A flushed read waits no longer, and only a read that waits has a late reply.
use Rattle.std.proofs.Common.{◌≡◌, ℕ, Bool, true, false, not, List, [], ◌∷◌, ◌++◌, Option, Some, None, Ok, Err, refl, ap, subst, ◌∙◌}
use Rattle.std.specs.Prelude.{◌==◌, ◌||◌}
use Rattle.std.specs.List.{list_any}
use Rattle.std.proofs.lemmas.List.Folds.{list_any-append}
use Rattle.std.proofs.lemmas.Map.Views.{any-filter_same}
use Rattle.model_text.proofs.map.Keys.{eqb-same}
use Rattle.model_text.specs.text.Outcome.{Outcome, ◌>>=◌, refuse_if}
use Rattle.model_files.specs.wire.Message.{T, Tflush, R, Rflush}
use Rattle.model_files.specs.wire.Reading.{message_of, tag_of}
use Rattle.model_world.specs.Session.{Session, Wait}
use Rattle.model_world.specs.Outside.{Outside}
use Rattle.model_world.specs.Fids.{Left}
use Rattle.model_world.specs.Reading.{Given}
use Rattle.model_world.specs.Waiting.{answered_or, first_of, flushed, one_answered, wait_answer, waits_for}
use Rattle.model_world.specs.Answer.{Taking, Ignored, TooLong, Closes, Reads, answer, answer_read, read_or_not, replied, taken, taking}
use Rattle.model_world.specs.Standing.{tag_of_r}
use Rattle.model_world.proofs.Others.{some_is}

-- ---- what a flush leaves

flushed_gone : (session : Session) (tag : ℕ) → waits_for (flushed session tag) tag ≡ false
flushed_gone session tag =
    any-filter_same (λ (read : ℕ × Wait). read.0 == tag) (λ read. not (read.0 == tag)) false (λ read at. ap not at) session.waiting

abbrev Flushes : {S : Type 0} → (tag oldtag : ℕ) → Left S → Type 0
Flushes tag oldtag after = after.reply ≡ Some (Rflush tag) → waits_for after.session oldtag ≡ false

flush_read : {S : Type 0} (outside : Outside S) (session : Session) (rest : S) (mark : Option ℕ) (bytes : List ℕ) (tag oldtag : ℕ) (o : Option T) → o ≡ Some (Tflush tag oldtag)
    → Flushes tag oldtag (replied session rest (tag_of bytes) (read_or_not outside session rest mark o))
unfolding answer_read
flush_read {S = S} outside session rest mark bytes tag oldtag o is = rw is (guarded (refuse_if _ 30) (refuse_if _ 31))
  where
    guarded : (a b : Outcome (Unit {0})) → Flushes {S = S} tag oldtag (replied session rest (tag_of bytes) (a >>= λ _. b >>= λ _. Ok (record { session = flushed session oldtag; rest = rest; reply = Some (Rflush tag) })))
    guarded (Ok _) (Ok _) = λ _. flushed_gone session oldtag
    guarded (Ok _) (Err n) = λ at. absurd (cc at)
    guarded (Err n) b = λ at. absurd (cc at)

pub flushed-waits : {S : Type 0} (outside : Outside S) (session : Session) (rest : S) (bytes : List ℕ) (mark : Option ℕ) (tag oldtag : ℕ) → message_of bytes ≡ Some (Tflush tag oldtag)
    → (answer outside session rest bytes mark).reply ≡ Some (Rflush tag) → waits_for (answer outside session rest bytes mark).session oldtag ≡ false
unfolding answer
flushed-waits outside session rest bytes mark tag oldtag is = by (taking session bytes)
  where
    by : (t : Taking) → Flushes tag oldtag (taken outside session rest bytes mark t)
    by Ignored = λ at. absurd (cc at)
    by TooLong = λ at. absurd (cc at)
    by Closes = λ at. absurd (cc at)
    by Reads = flush_read outside session rest mark bytes tag oldtag (message_of bytes) is

-- ---- late replies

abbrev IsAmong : List (ℕ × Wait) → (tag : ℕ) → Bool
IsAmong reads tag = list_any (λ read. read.0 == tag) reads

abbrev AnswersOne : {S : Type 0} → List (ℕ × Wait) → Option (Left S) → Type 0
AnswersOne reads None = Unit {0}
AnswersOne reads (Some after) = (reply : R) → after.reply ≡ Some reply → IsAmong reads (tag_of_r reply) ≡ true

late_answers : {S : Type 0} (session : Session) (rest : S) (tag : ℕ) (wait : Wait) (reads : List (ℕ × Wait)) (o : Option (Outcome (Given S))) (later : Option (Left S)) → IsAmong reads tag ≡ true → AnswersOne reads later
    → AnswersOne reads (answered_or session rest tag wait o later)
late_answers session rest tag wait reads None later among one = one
late_answers session rest tag wait reads (Some (Err n)) later among one = λ reply at. subst (λ (r : R). IsAmong reads (tag_of_r r) ≡ true) (some_is _ reply at) among
late_answers session rest tag wait reads (Some (Ok got)) later among one = λ reply at. subst (λ (r : R). IsAmong reads (tag_of_r r) ≡ true) (some_is _ reply at) among

among_middle : (before after : List (ℕ × Wait)) (tag : ℕ) (wait : Wait) → IsAmong (before ++ (tag, wait) ∷ after) tag ≡ true
among_middle before after tag wait =
    list_any-append (λ read. read.0 == tag) before ((tag, wait) ∷ after)
    ∙ ap (λ (b : Bool). IsAmong before tag || (b || IsAmong after tag)) (eqb-same tag) ∙ or_true (IsAmong before tag)
  where
    or_true : (b : Bool) → (b || true) ≡ true
    or_true true = refl
    or_true false = refl

pub append_one : {A : Type 0} (xs ys : List A) (x : A) → (xs ++ x ∷ []) ++ ys ≡ xs ++ x ∷ ys
append_one [] ys x = refl
append_one (y ∷ xs) ys x = ap (λ (l : List _). y ∷ l) (append_one xs ys x)

first_answers : {S : Type 0} (outside : Outside S) (session : Session) (rest : S) (before after : List (ℕ × Wait)) → AnswersOne (before ++ after) (first_of outside session rest before after)
unfolding first_of
first_answers outside session rest before [] = tt
first_answers outside session rest before ((tag, wait) ∷ after) =
    let later = first_of outside session rest (before ++ (tag, wait) ∷ []) after in
    late_answers (record session { waiting = before ++ after }) rest tag wait (before ++ (tag, wait) ∷ after) (wait_answer outside session rest wait) later (among_middle before after tag wait)
    (subst (λ (reads : List (ℕ × Wait)). AnswersOne reads later) (append_one before after (tag, wait)) (first_answers outside session rest (before ++ (tag, wait) ∷ []) after))

pub late-waits : {S : Type 0} (outside : Outside S) (session : Session) (rest : S) (after : Left S) (reply : R) → one_answered outside session rest ≡ Some after → after.reply ≡ Some reply
    → waits_for session (tag_of_r reply) ≡ true
late-waits {S = S} outside session rest after reply is at =
    let P : Option (Left S) → Type 0 = λ o. AnswersOne session.waiting o in subst P is (first_answers outside session rest [] session.waiting) reply at
