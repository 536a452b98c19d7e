-- The screen that is put behind the lines of replies.
use Rattle.std.proofs.Common.{◌≡◌, ℕ, Bool, true, List, ◌++◌, length, Option, sym, subst, ◌∙◌}
use Rattle.std.specs.Prelude.{codes}
use Rattle.std.specs.Fmt.{decimal}
use Rattle.r9_outside.specs.outside.Sink.{Appends, AppendsPart}
use Rattle.r9_event.specs.declared.event.event.Reply.{Reply}
use Rattle.model_draw.specs.draw.Files.{screen_file}
use Rattle.model_history.specs.records.Line.{line, reply_lines}
use Rattle.model_world.specs.World.{World}
use Rattle.r9_serve.specs.replay.Replays.{screen_lines}
use Rattle.r9_serve.specs.replay.Replayed.{output}
use Rattle.r9_serve.proofs.replay.Lines.{first_part, second_part}

abbrev len_line : List ℕ → List ℕ
len_line file = line (codes "S " ++ decimal (length file))

-- a front of the line was put
pub line_part : (before after : Option (List ℕ)) (file text shown : List ℕ) → shown ≡ text → text ≡ len_line file → AppendsPart before shown after → AppendsPart before (screen_lines file) after
line_part before after file text shown same is part =
    first_part before (len_line file) file after (subst (λ (t : List ℕ). AppendsPart before t after) (same ∙ is) part)

-- the line was put, and a front of the file
pub file_part : (before mid after last : Option (List ℕ)) (file text shown : List ℕ) → shown ≡ text → text ≡ len_line file → Appends before shown mid → AppendsPart mid file after → last ≡ after
    → AppendsPart before (screen_lines file) last
file_part before mid after last file text shown same is appended part end =
    subst (λ (o : Option (List ℕ)). AppendsPart before (screen_lines file) o) (sym end)
    (second_part before (len_line file) file mid after (subst (λ (t : List ℕ). Appends before t mid) (same ∙ is) appended) part)

-- the reply lines were put, and a front of the screen
pub output_part : (before mid after : Option (List ℕ)) (screen : Bool) (given : List Reply) (world : World) → screen ≡ true → Appends before (reply_lines given) mid
    → AppendsPart mid (screen_lines (screen_file world.desktop.device)) after → AppendsPart before (output screen given world) after
output_part before mid after screen given world is appended part =
    subst (λ (b : Bool). AppendsPart before (output b given world) after) (sym is)
    (second_part before (reply_lines given) (screen_lines (screen_file world.desktop.device)) mid after appended part)
