use Rattle.std.proofs.Common.{◌≡◌, ◌∙◌, ◌+◌, ◌-◌, ◌*◌, ◌++◌, take, drop, sym, ap, arith}
use Rattle.std.proofs.lemmas.List.{append-nil, append_assoc}
use Rattle.r9_plane.specs.Lines.{lines_of}
use Rattle.r9_plane.proofs.Reading.{lines_step}
use Rattle.r9_plane.proofs.plane.reading.append_lines.Goals as goal

pub loop-n-init : goal.loop-n-init
loop-n-init c = sym (append-nil c.args.front.items)

pub overflow_mul-start : goal.overflow_mul-start
overflow_mul-start c = omega (arith, c.requires c.loop-n.n (omega (arith, c.loop-n-test.true)))

pub overflow_add-start : goal.overflow_add-start
overflow_add-start c = omega (arith, c.requires c.loop-n.n (omega (arith, c.loop-n-test.true)))

pub overflow_add-start-in-loop-n : goal.overflow_add-start-in-loop-n
overflow_add-start-in-loop-n c = omega (arith, c.requires c.loop-n.n (omega (arith, c.loop-n-test.true)))

pub slice_bounds-extend_from_slice-end : goal.slice_bounds-extend_from_slice-end
slice_bounds-extend_from_slice-end c = omega (arith, c.requires c.loop-n.n (omega (arith, c.loop-n-test.true)))

pub loop-n-preserved : goal.loop-n-preserved
loop-n-preserved c =
    let bytes = c.args.bytes.now in
    let front = c.args.front.items in
    let n = c.loop-n.n in
    let line = c.args.line in
    let start = c.args.first + n * c.args.across in
    let so_far = lines_of bytes c.args.first c.args.across line n in
    let size : start + line - start ≡ line = omega arith in
    c.in_ok-extend_from_slice.ensures.items
    ∙ (λ t. c.loop-n.invariant t ++ take (size t) (drop start bytes))
    ∙ append_assoc front so_far (take line (drop start bytes))
    ∙ ap (λ xs. front ++ xs) (sym (lines_step bytes c.args.first c.args.across line n))

pub returns-clause-items : goal.returns-clause-items
returns-clause-items c =
    let end : c.loop-n.n ≡ c.args.count = omega arith in
    c.loop-n.invariant ∙ ap (λ n. c.args.front.items ++ lines_of c.args.bytes.now c.args.first c.args.across c.args.line n) end

pub returns-clause-range : goal.returns-clause-range
returns-clause-range c = λ i. (c.type_inv.bytes i).fits
