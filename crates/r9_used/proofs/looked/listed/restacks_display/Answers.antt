use Rattle.std.proofs.Common.{◌==◌, ◌≤◌, ◌/◌, ◌∙◌, ℕ, List, length, sym, ap, arith}
use Rattle.std.proofs.lemmas.List.{take_all}
use Rattle.std.specs.Int.{w32}
use Rattle.std.specs.List.{list_any}
use Rattle.model_draw_parts.specs.dmsg.Reading.{numbers_of}
use Rattle.model_draw_parts.proofs.dmsg.Rest.{length-numbers_of}
use Rattle.r9_used.proofs.looked.Names.{some_here}
use Rattle.r9_used.proofs.looked.listed.restacks_display.Goals as goal

pub returns-then-id-eq-DISPLAY : goal.returns-then-id-eq-DISPLAY
returns-then-id-eq-DISPLAY c =
    let n = length c.args.asked.now.ids.now / 4 in
    let size = length-numbers_of w32 n c.args.asked.now.ids.now in
    let end = c.len-k-end.ensures in
    let test = c.loop-k-test.true in
    sym (some_here (numbers_of w32 n c.args.asked.now.ids.now) c.loop-k.k (omega (arith, size, end, test)) (ap (λ (id : ℕ). id == 0) (sym c.id.ensures ∙ c.if-id-eq-DISPLAY.true)))

pub returns : goal.returns
returns c =
    let n = length c.args.asked.now.ids.now / 4 in
    let ids = numbers_of w32 n c.args.asked.now.ids.now in
    let size = length-numbers_of w32 n c.args.asked.now.ids.now in
    let end = c.len-k-end.ensures in
    let test = c.loop-k-test.false in
    let all : length ids ≤ c.loop-k.k = omega (arith, size, end, test) in
    sym (ap (λ (l : List ℕ). list_any (λ id. id == 0) l) (sym (take_all c.loop-k.k ids all)) ∙ c.loop-k.invariant)
