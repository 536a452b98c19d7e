use Rattle.std.proofs.Common.{◌+◌, ℕ, List, [], ◌∷◌, ◌++◌, drop, sym, ap, ◌∙◌, arith, append_assoc}
use Rattle.std.proofs.lemmas.List.{append-nil, drop_more}
use Rattle.std.proofs.Math.ListN.{drop_of_length-le}
use Rattle.r9_event.specs.declared.event.rio.Note.{Note}
use Rattle.model_world.specs.Sleeping.{told_windows}
use Rattle.r9_hall.proofs.hall.settling.stirred.Goals as goal

pub loop-window-init : goal.loop-window-init
loop-window-init c = ap (λ (l : List ℕ). l ++ told_windows c.args.notes.now) (c.in_ok-push.ensures.items ∙ ap (λ (l : List ℕ). l ++ c.args.wrote ∷ []) c.new-windows.ensures.items)

pub loop-window-preserved : goal.loop-window-preserved
loop-window-preserved c =
    let notes = c.args.notes.now in
    let there = c.loop-window.windows.items in
    let later = drop (c.loop-window.window-index + 1) notes in
    ap (λ (l : List ℕ). l ++ told_windows later) c.in_ok-push-2.ensures.items
    ∙ append_assoc there _ (told_windows later)
    ∙ ap (λ (l : List (ℕ × Note)). there ++ told_windows l) (ap (λ (told : ℕ × Note). told ∷ later) c.loop-window-item.is ∙ sym (drop_more notes c.loop-window.window-index c.loop-window-item.result c.loop-window-test.true))
    ∙ c.loop-window.invariant

pub returns : goal.returns
returns c =
    sym (append-nil c.loop-window.windows.items)
    ∙ ap (λ (l : List (ℕ × Note)). c.loop-window.windows.items ++ told_windows l) (sym (drop_of_length-le c.args.notes.now (omega (arith, c.loop-window-test.false))))
    ∙ c.loop-window.invariant
