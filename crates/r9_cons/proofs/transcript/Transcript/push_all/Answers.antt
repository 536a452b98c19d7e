use Rattle.std.proofs.Common.{ℕ, List, ◌++◌, sym, ap, ◌∙◌}
use Rattle.model_files.specs.console.Console.{last_of}
use Rattle.model_files.proofs.console.Ends.{last_of-append, last_of-append-last_of}
use Rattle.r9_cons.proofs.transcript.Transcript.push_all.Goals as goal

pub returns-clause-ok : goal.returns-clause-ok
returns-clause-ok c =
    let text : List ℕ = c.self.inside.bytes.items in
    let piece : List ℕ = c.args.piece.now in
    rw (c.in_ok-extend_from_slice.ensures.items, c.end_of-end.ensures.end)
    (last_of-append-last_of 65536 text piece ∙ sym (last_of-append 65536 text piece)
    ∙ ap (λ (xs : List ℕ). last_of 65536 (xs ++ piece)) (c.self.view_is ∙ c.make_room.ensures))
