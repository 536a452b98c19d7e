-- A session that has only what is its own has only that after a read that waited was answered.
use Rattle.std.proofs.Common.{◌≡◌, ℕ, Bool, true, false, List, [], ◌∷◌, ◌++◌, Option, Some, None, Ok, Err, subst}
use Rattle.std.specs.Prelude.{All, IfOk, IfSome, if◌then◌else◌}
use Rattle.std.specs.Option.{option_map}
use Rattle.std.proofs.lemmas.List.Elements.{All-cons, All-head, All-tail}
use Rattle.std.proofs.lemmas.Map.Entries.{All-lookup}
use Rattle.model_text.specs.text.Map.{is_key, lookup, with}
use Rattle.model_text.specs.text.Outcome.{Outcome, ◌>>=◌, value_or_refuse}
use Rattle.model_files.specs.mouse.Queue.{answer_text}
use Rattle.model_files.specs.console.Console as console
use Rattle.model_rio.specs.window.Heard.{wctl_answer, wctl_text}
use Rattle.model_files.specs.declared.tree.Kind.{Kind}
use Rattle.model_files.specs.declared.tree.Kind.TheVariants as kind
use Rattle.model_files.specs.tree.Tree.{check_live}
use Rattle.model_world.specs.Session.{Fid, Session, Wait}
use Rattle.model_world.specs.Outside.{Outside}
use Rattle.model_world.specs.Fids.{Left}
use Rattle.model_world.specs.Reading.{Given, given_now}
use Rattle.model_world.specs.Waiting.{answered_or, awaited, first_of, given_or_refused, one_answered, wait_answer}
use Rattle.law_likeness.specs.agreement.Agreement.{IsOwnFid, KeepsToItself}

-- what holds of each entry's value and of a new value holds of each in the map with it
pub all-with : {A : Type 0} (P : A → Type 0) (es : List (ℕ × A)) (key : ℕ) (value : A) → All (λ (e : ℕ × A). P e.1) es → P value → All (λ (e : ℕ × A). P e.1) (with es key value)
all-with P [] key value all is = all
all-with {A = A} P (e ∷ es) key value all is = by (is_key key e.0) (all-with P es key value rest is)
  where
    rest : All (λ (e : ℕ × A). P e.1) es
    rest = All-tail (λ (e : ℕ × A). P e.1) e es all

    by : (here : Bool) → All (λ (e : ℕ × A). P e.1) (with es key value) → All (λ (e : ℕ × A). P e.1) (if here then (e.0, value) ∷ es else e ∷ with es key value)
    by true more = All-cons (λ (e : ℕ × A). P e.1) (e.0, value) es is rest
    by false more = All-cons (λ (e : ℕ × A). P e.1) e (with es key value) (All-head (λ (e : ℕ × A). P e.1) e es all) more

module _ {S : Type 0} (outside : Outside S) (HasWindow HasConnection : ℕ → Type 0) where
  abbrev Own : Fid → Type 0
  Own fid = IsOwnFid HasWindow HasConnection fid

  abbrev Keeps : Session → Type 0
  Keeps session = KeepsToItself HasWindow HasConnection session

  -- a read of a fid leaves it the session's own
  mapped_own : {A : Type 0} (f : A → Given S) (o : Option A) → ((x : A) → Own (f x).fid) → IfSome (option_map f o) (λ got. Own got.fid)
  mapped_own f None each = tt
  mapped_own f (Some x) each = each x

  given_own : (rest : S) (fid : Fid) (count : ℕ) (of : Kind) → Own fid → IfSome (given_now outside rest fid count of) (λ got. Own got.fid)
  given_own rest fid count kind.Mouse own = mapped_own _ (answer_text (outside.pane rest fid.node.serial).mouse) (λ text. own)
  given_own rest fid count kind.Cons own = mapped_own _ (console.read count (outside.pane rest fid.node.serial).console) (λ text. own)
  given_own rest fid count kind.Wctl own =
      mapped_own _ (wctl_answer fid.told (wctl_text (outside.pane rest fid.node.serial).known)) (λ text. record { plain = own.plain; own = own.own })
  given_own rest fid count _ own = tt

  abbrev GivesOwn : Option (Outcome (Given S)) → Type 0
  GivesOwn o = IfSome o (λ given. IfOk given (λ got. Own got.fid))

  ok_own : (o : Option (Given S)) → IfSome o (λ got. Own got.fid) → GivesOwn (option_map Ok o)
  ok_own None own = tt
  ok_own (Some got) own = own

  refused_own : (rest : S) (count : ℕ) (fid : Outcome Fid) → IfOk fid Own → GivesOwn (given_or_refused outside rest count fid)
  refused_own rest count (Err n) own = tt
  refused_own rest count (Ok fid) own = ok_own (given_now outside rest fid count fid.node.kind) (given_own rest fid count fid.node.kind own)

  awaited_own : (session : Session) (rest : S) (wait : Wait) → Keeps session → IfOk (awaited outside session rest wait) Own
  awaited_own session rest wait keeps = by (lookup session.fids wait.fid) (All-lookup Own (is_key wait.fid) session.fids keeps.fids)
    where
      live : (fid : Fid) (checked : Outcome (Unit {0})) → Own fid → IfOk (checked >>= λ _. Ok fid) Own
      live fid (Ok u) own = own
      live fid (Err n) own = tt

      by : (o : Option Fid) → IfSome o Own → IfOk (value_or_refuse o 32 >>= λ fid. check_live (outside.view rest session.connections fid.node) fid.node >>= λ _. Ok fid) Own
      by None own = tt
      by (Some fid) own = live fid (check_live (outside.view rest session.connections fid.node) fid.node) own

  wait_own : (session : Session) (rest : S) (wait : Wait) → Keeps session → GivesOwn (wait_answer outside session rest wait)
  unfolding wait_answer
  wait_own session rest wait keeps = refused_own rest wait.count (awaited outside session rest wait) (awaited_own session rest wait keeps)

  late_keeps : (session : Session) (rest : S) (tag : ℕ) (wait : Wait) (o : Option (Outcome (Given S))) (later : Option (Left S)) → Keeps session → GivesOwn o
      → IfSome later (λ left. Keeps left.session) → IfSome (answered_or session rest tag wait o later) (λ left. Keeps left.session)
  late_keeps session rest tag wait None later keeps own more = more
  late_keeps session rest tag wait (Some (Err n)) later keeps own more = keeps
  late_keeps session rest tag wait (Some (Ok got)) later keeps own more =
      record { fids = all-with Own session.fids wait.fid got.fid keeps.fids own; connections = keeps.connections }

  first_keeps : (session : Session) (rest : S) (before after : List (ℕ × Wait)) → Keeps session → IfSome (first_of outside session rest before after) (λ left. Keeps left.session)
  unfolding first_of
  first_keeps session rest before [] keeps = tt
  first_keeps session rest before ((tag, wait) ∷ after) keeps =
      late_keeps (record session { waiting = before ++ after }) rest tag wait (wait_answer outside session rest wait) _
      (record { fids = keeps.fids; connections = keeps.connections }) (wait_own session rest wait keeps) (first_keeps session rest (before ++ (tag, wait) ∷ []) after keeps)

  pub one_keeps : (session : Session) (rest : S) (left : Left S) → Keeps session → one_answered outside session rest ≡ Some left → Keeps left.session
  one_keeps session rest left keeps is =
      subst (λ (o : Option (Left S)). IfSome o (λ left. Keeps left.session)) is (first_keeps session rest [] session.waiting keeps)
