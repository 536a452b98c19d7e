-- A reply that is the refusal of want of memory, and the mark that is told with it.
use Rattle.std.proofs.Common.{◌≡◌, ℕ, true, false, List, Option, Some, Result, Ok, Err, IfOk, IfSome, IsSome, sym, ap, subst, ◌∙◌}
use Rattle.std.specs.Prelude.{◌↔◌}
use Rattle.std.specs.Option.{option_map}
use Rattle.model_files.specs.wire.Message.{T, Tread, Twrite, R}
use Rattle.model_files.specs.wire.Spelling.{FitsR}
use Rattle.model_draw.specs.draw.Act.{no_memory}
use Rattle.model_world.specs.Refusal.{IsRefused, Refuses, refusal}
use Rattle.model_world.proofs.Wanting.{not_wanting, only_wanting}
use Rattle.r9_wire.specs.View.{r_of}
use Rattle.r9_session.specs.Answers.{uses_file}
use Rattle.r9_session.specs.declared.writing.Answered.{Answered}

-- the refusal of another number tells no mark
pub refused_other : {E : Type 0} (result : Result Answered E) (tag n : ℕ) → (n ≡ no_memory → ⊥) → IfOk result (λ a. (option_map r_of a.reply ≡ Some (refusal tag n)) × IfSome a.reply (λ reply. FitsR (r_of reply)))
    → IfOk result (λ a. IsRefused no_memory (option_map r_of a.reply) → IsSome a.short)
refused_other (Ok a) tag n other is = λ wants. absurd (not_wanting tag n other (subst (λ (reply : Option R). IsRefused no_memory reply) is.0 wants))
refused_other (Err e) tag n other is = tt

-- a write that is refused for want of memory tells one
pub write_tells : (tag number : ℕ) (reply : R) (refused short : Option ℕ) → reply ≡ refusal tag number → refused ≡ Some number → IsSome short ↔ (refused ≡ Some no_memory)
    → Refuses no_memory reply → IsSome short
write_tells tag number reply refused short is stopped told wants =
    told.1 (stopped ∙ ap (λ (n : ℕ). Some n) (only_wanting number (subst (λ (r : R). Refuses no_memory r) is wants)))

-- a message that neither reads nor writes writes not
pub no_write : (m : T) → uses_file m ≡ false → (tag fid offset : ℕ) (bytes : List ℕ) → m ≡ Twrite tag fid offset bytes → ⊥
no_write m other tag fid offset bytes is = let both : false ≡ true = sym other ∙ ap uses_file is in cc both

-- nor does that to a read tell one
pub no_read : (read_tag read_fid read_offset count tag fid offset : ℕ) (bytes : List ℕ) → Tread read_tag read_fid read_offset count ≡ Twrite tag fid offset bytes → ⊥
no_read read_tag read_fid read_offset count tag fid offset bytes is = cc is
