-- Calls of a desktop, as what a write leaves of it.
use Rattle.std.proofs.Common.{◌≡◌, ℕ, true, List, Option, Some, Result, Ok, Err, OnOk, OnErr, refl, sym, ap, subst}
use Rattle.std.specs.Prelude.{IfErr, IfOk}
use Rattle.model_text.specs.text.Outcome.{Outcome}
use Rattle.model_files.specs.declared.tree.Kind.{Kind}
use Rattle.model_files.specs.declared.tree.Kind.TheVariants.{Ctl, Data}
use Rattle.model_files.specs.tree.Node.{row}
use Rattle.model_files.specs.tree.Tree.{is_of_connection}
use Rattle.model_history.specs.declared.words.Size.{Size}
use Rattle.model_history.specs.words.Values.{sides_of}
use Rattle.model_world.specs.Outside.{Outside}
use Rattle.r9_files.specs.declared.files.fault.Fault.{Fault}
use Rattle.r9_files.specs.declared.files.fault.Fault.TheVariants as fault
use Rattle.r9_files.specs.around.Words.{IfRefused}
use Rattle.model_world.specs.Writing.{line_of, whole_or_refused}
use Rattle.r9_files.specs.declared.around.wrote.Wrote.{Wrote}
use Rattle.r9_files.specs.access.Writes.{IsDone, IsWritten, size_left, whole_of}

pub done_of : {S : Type 0} (r : Result (Unit {0}) Fault) (before after : S) (defined : ℕ → Outcome S) (c : ℕ) → OnOk r ((c : ℕ) → defined c ≡ Ok after)
    → IfErr r (λ f. IfRefused f (λ n. (c : ℕ) → defined c ≡ Err n)) → IfErr r (λ f. IfRefused f (λ n. after ≡ before)) → IsDone before r after (defined c)
done_of (Ok done) before after defined c is refused kept = is c
done_of (Err (fault.Refused n)) before after defined c is refused kept = (refused c, kept)
done_of (Err fault.Memory) before after defined c is refused kept = tt

-- where a refusal is said to leave all
pub done_if : {S : Type 0} (r : Result (Unit {0}) Fault) (before after : S) (defined : Outcome S) → OnOk r (defined ≡ Ok after) → IfErr r (λ f. IfRefused f (λ n. defined ≡ Err n))
    → OnErr r (after ≡ before) → IsDone before r after defined
done_if (Ok done) before after defined is refused kept = is
done_if (Err (fault.Refused n)) before after defined is refused kept = (refused, kept)
done_if (Err fault.Memory) before after defined is refused kept = tt

-- another size of the display, which a text spells
pub size_done : {S : Type 0} (outside : ℕ → Outside S) (bytes : List ℕ) (size : Size) (r : Result (Unit {0}) Fault) (before after : S) → sides_of (line_of bytes) ≡ Some size
    → OnOk r ((c : ℕ) → (outside c).with_size before size ≡ Ok after) → IfErr r (λ f. IfRefused f (λ n. (c : ℕ) → (outside c).with_size before size ≡ Err n))
    → IfErr r (λ f. IfRefused f (λ n. after ≡ before)) → (c : ℕ) → IsDone before r after (size_left (outside c) before bytes)
size_done outside bytes size r before after spelled is refused kept c =
    rw spelled (done_of r before after (λ s. (outside s).with_size before size) c is refused kept)

-- as a write that left nothing undone
pub whole_written : {S : Type 0} (mark : Option ℕ) (r : Result (Unit {0}) Fault) (found : Result Wrote Fault) (before after : S) (defined : Outcome S) → found ≡ whole_of r → IsDone before r after defined
    → IsWritten mark before found after (λ m. whole_or_refused defined)
whole_written {S} mark r found before after defined is done =
    subst (λ (w : Result Wrote Fault). IsWritten mark before w after (λ m. whole_or_refused defined)) (sym is) (by r done)
  where
    by : (r : Result (Unit {0}) Fault) → IsDone before r after defined → IsWritten mark before (whole_of r) after (λ m. whole_or_refused defined)
    by (Ok _) is = ap (λ (o : Outcome S). whole_or_refused o) is
    by (Err (fault.Refused n)) is = (ap (λ (o : Outcome S). whole_or_refused o) is.0, is.1)
    by (Err fault.Memory) is = tt

-- ctl and data are files of a connection
pub of_ctl : is_of_connection Ctl ≡ true
unfolding row
of_ctl = refl

pub of_data : is_of_connection Data ≡ true
unfolding row
of_data = refl

-- ---- what is told of a data write

-- a write of another file tells nothing
pub other_told : (P : Wrote → Type 0) (result : Result Wrote Fault) (kind : Kind) → (kind ≡ Data → ⊥) → IfOk result (λ w. kind ≡ Data → P w)
other_told P (Ok w) kind other = λ same. absurd (other same)
other_told P (Err f) kind other = tt
