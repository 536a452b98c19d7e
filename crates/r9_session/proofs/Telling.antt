-- What is told of the messages of data writes.
use Rattle.std.proofs.Common.{◌≡◌, ℕ, Bool, true, false, List, Option, Some, None, Result, Ok, Err, IfOk, sym, ap, subst, ◌∙◌}
use Rattle.model_text.specs.text.Map.{lookup}
use Rattle.model_files.specs.wire.Message.{T, Twrite}
use Rattle.model_files.specs.declared.tree.Kind.TheVariants.{Data}
use Rattle.model_files.specs.tree.Node.{Node}
use Rattle.model_world.specs.Session.{Fid, Session}
use Rattle.r9_files.specs.declared.around.wrote.Told.{Told}
use Rattle.r9_files.specs.around.Words.{AreTold, Tells, mark_after}
use Rattle.r9_session.specs.declared.writing.Answered.{Answered}
use Rattle.r9_session.specs.Answers.{uses_file}
use Rattle.r9_session.specs.Telling.{IsToldOf, IsToldWrite}

-- what is told of a write of a file is told of the fid's
pub told_of : {S : Type 0} (tells : Tells S) (session : Session) (rest : S) (number : ℕ) (bytes : List ℕ) (mark : Option ℕ) (told : Option Told) (found : Fid) (node : Node)
    → lookup session.fids number ≡ Some found → node ≡ found.node → (node.kind ≡ Data → AreTold told (tells node.connection rest bytes mark)) → IsToldWrite tells session rest number bytes mark told
told_of tells session rest number bytes mark told found node at same is = λ fid also kind_is.
    let one : Some found ≡ Some fid = sym at ∙ also in
    let it : found ≡ fid = cc in
    let its : node ≡ fid.node = same ∙ ap (λ (f : Fid). f.node) it in
    subst (λ (n : Node). AreTold told (tells n.connection rest bytes mark)) its (is (ap (λ (n : Node). n.kind) its ∙ kind_is))

-- nothing has to be told of a message that writes no file
pub no_data : {S : Type 0} (tells : Tells S) (session : Session) (rest : S) (mark : Option ℕ) (told : Option Told) (m : T) → uses_file m ≡ false → IsToldOf tells session rest mark told m
no_data tells session rest mark told (Twrite tag fid offset bytes) other = absurd cc
no_data tells session rest mark told _ other = tt

-- nor of one that is refused
pub refused_data : {E : Type 0} (result : Result Answered E) (mark : Option ℕ) (accepted : Option ℕ → Bool) (P : Answered → Type 0) → accepted mark ≡ false → IfOk result (λ a. a.short ≡ None)
    → IfOk result (λ a. accepted (mark_after mark a.short) ≡ true → P a)
refused_data (Ok a) mark accepted P not whole = λ yes. let both : true ≡ false = sym yes ∙ ap (λ (short : Option ℕ). accepted (mark_after mark short)) whole ∙ not in absurd cc
refused_data (Err e) mark accepted P not whole = tt

-- nor where something is not so
pub never_data : {E : Type 0} (result : Result Answered E) (C : Type 0) (P : Answered → Type 0) → (C → ⊥) → IfOk result (λ a. C → P a)
never_data (Ok a) C P never = λ so. absurd (never so)
never_data (Err e) C P never = tt
