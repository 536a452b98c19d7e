-- What reads of open files give.
use Rattle.std.specs.Prelude.{is_none, IfOk, IfSome, IfNone}
use Rattle.std.specs.Str.{bytes_eq}
use Rattle.std.specs.Option.{option_map}
use Rattle.std.proofs.Common.{◌≡◌, ℕ, Bool, true, false, cond, List, Option, None, Some, Result, Ok, Err, refl, sym, ap, ◌∙◌}
use Rattle.model_files.specs.mouse.Queue.{answer_text}
use Rattle.model_files.specs.console.Console as console
use Rattle.model_rio.specs.window.Heard.{MouseRead, ConsoleRead, wctl_answer, wctl_text}
use Rattle.model_files.specs.declared.tree.Kind.TheVariants.{Cons, Mouse, Wctl}
use Rattle.model_world.specs.Session.{Fid}
use Rattle.model_world.specs.Outside.{Outside}
use Rattle.model_world.specs.Reading.{given_by, given_now}
use Rattle.r9_memory.specs.declared.Memory.{Memory}
use Rattle.r9_files.specs.access.Reads.{IsGivenNow}

-- ---- files that a read leaves as they are

pub mouse_now : {S : Type 0} (outside : ℕ → Outside S) (c : ℕ) (before after : S) (fid : Fid) (serial count : ℕ) (r : Result (Option (List ℕ)) Memory) → serial ≡ fid.node.serial
    → IfOk r (λ given. (s : ℕ) → given ≡ answer_text ((outside s).pane before serial).mouse)
    → IfOk r (λ given. IfSome given (λ _. (s : ℕ) → after ≡ (outside s).hear before serial MouseRead)) → IfOk r (λ given. IfNone given (after ≡ before))
    → IsGivenNow fid before r fid after (given_now (outside c) before fid count Mouse)
mouse_now outside c before after fid serial count (Ok (Some bytes)) same gives takes leaves =
    λ i. option_map (given_by fid ((ap (λ (s : ℕ). (outside c).hear before s MouseRead) (sym same) ∙ sym (takes c)) i))
    ((ap (λ (s : ℕ). answer_text ((outside c).pane before s).mouse) (sym same) ∙ sym (gives c)) i)
mouse_now outside c before after fid serial count (Ok None) same gives takes leaves = (
  ap (option_map (given_by fid ((outside c).hear before fid.node.serial MouseRead))) (ap (λ (s : ℕ). answer_text ((outside c).pane before s).mouse) (sym same) ∙ sym (gives c)),
  refl,
  leaves,
)
mouse_now outside c before after fid serial count (Err e) same gives takes leaves = tt

pub console_now : {S : Type 0} (outside : ℕ → Outside S) (c : ℕ) (before after : S) (fid : Fid) (serial count : ℕ) (r : Result (Option (List ℕ)) Memory) → serial ≡ fid.node.serial
    → IfOk r (λ given. (s : ℕ) → given ≡ console.read count ((outside s).pane before serial).console)
    → IfOk r (λ given. IfSome given (λ _. (s : ℕ) → after ≡ (outside s).hear before serial (ConsoleRead count))) → IfOk r (λ given. IfNone given (after ≡ before))
    → IsGivenNow fid before r fid after (given_now (outside c) before fid count Cons)
console_now outside c before after fid serial count (Ok (Some bytes)) same gives takes leaves =
    λ i. option_map (given_by fid ((ap (λ (s : ℕ). (outside c).hear before s (ConsoleRead count)) (sym same) ∙ sym (takes c)) i))
    ((ap (λ (s : ℕ). console.read count ((outside c).pane before s).console) (sym same) ∙ sym (gives c)) i)
console_now outside c before after fid serial count (Ok None) same gives takes leaves = (
  ap (option_map (given_by fid ((outside c).hear before fid.node.serial (ConsoleRead count)))) (ap (λ (s : ℕ). console.read count ((outside c).pane before s).console) (sym same) ∙ sym (gives c)),
  refl,
  leaves,
)
console_now outside c before after fid serial count (Err e) same gives takes leaves = tt

-- ---- wctl

answer_none : (told : Option (List ℕ)) (text : List ℕ) → is_none (wctl_answer told text) ≡ true → wctl_answer told text ≡ None
answer_none None text is = cc is
answer_none (Some last) text is = by (bytes_eq last text) is
  where
    by : (b : Bool) → is_none (cond b None (Some text)) ≡ true → cond b None (Some text) ≡ None
    by true e = refl
    by false e = cc e

answer_some : (told : Option (List ℕ)) (text : List ℕ) → is_none (wctl_answer told text) ≡ false → wctl_answer told text ≡ Some text
answer_some None text is = refl
answer_some (Some last) text is = by (bytes_eq last text) is
  where
    by : (b : Bool) → is_none (cond b None (Some text)) ≡ false → cond b None (Some text) ≡ Some text
    by true e = cc e
    by false e = refl

pub wctl_gives : {S : Type 0} (outside : Outside S) (rest : S) (fid : Fid) (count serial : ℕ) (text : List ℕ) → serial ≡ fid.node.serial → text ≡ wctl_text (outside.pane rest serial).known
    → is_none (wctl_answer fid.told text) ≡ false → given_now outside rest fid count Wctl ≡ Some (given_by (record fid { told = Some text }) rest text)
wctl_gives outside rest fid count serial text same is new =
    ap (λ (o : Option (List ℕ)). option_map (λ t. given_by (record fid { told = Some t }) rest t) o)
    (ap (wctl_answer fid.told) (ap (λ (s : ℕ). wctl_text (outside.pane rest s).known) (sym same) ∙ sym is) ∙ answer_some fid.told text new)

pub wctl_waits : {S : Type 0} (outside : Outside S) (rest : S) (fid : Fid) (count serial : ℕ) (text : List ℕ) → serial ≡ fid.node.serial → text ≡ wctl_text (outside.pane rest serial).known
    → is_none (wctl_answer fid.told text) ≡ true → given_now outside rest fid count Wctl ≡ None
wctl_waits outside rest fid count serial text same is old =
    ap (λ (o : Option (List ℕ)). option_map (λ t. given_by (record fid { told = Some t }) rest t) o)
    (ap (wctl_answer fid.told) (ap (λ (s : ℕ). wctl_text (outside.pane rest s).known) (sym same) ∙ sym is) ∙ answer_none fid.told text old)
