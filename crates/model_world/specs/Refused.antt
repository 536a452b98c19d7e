-- What a refusal leaves.
use Rattle.std.specs.Prelude.{ℕ, Bool, true, false, is_some, List}
use Rattle.std.specs.Option.{option_map_or}
use Rattle.model_text.specs.text.Map.{lookup}
use Rattle.model_files.specs.wire.Message.{T, Twrite, Tremove, R, Rerror}
use Rattle.model_files.specs.wire.Reading.{message_of}
use Rattle.model_files.specs.declared.tree.Kind.TheVariants.{Data}
use Rattle.model_world.specs.Session.{Session}
use Rattle.model_world.specs.Fids.{is_kind}

abbrev pub is_error : R → Bool
is_error (Rerror tag text) = true
is_error _ = false

-- The message may leave something although it is refused: a remove of a fid, which goes (remove(5)), and a write to `data`,
-- whose draw messages stand that came before the one that is refused (draw(3)).
abbrev pub may_leave : Session → T → Bool
may_leave session (Tremove tag fid) = is_some (lookup session.fids fid)
may_leave session (Twrite tag fid offset bytes) = option_map_or (λ f. is_kind Data f.node.kind) (lookup session.fids fid) false
may_leave session _ = false

abbrev pub may_leave_of : Session → List ℕ → Bool
may_leave_of session bytes = option_map_or (may_leave session) (message_of bytes) false
