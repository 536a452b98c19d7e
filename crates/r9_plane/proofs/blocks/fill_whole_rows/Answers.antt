use Rattle.std.proofs.Common.{◌≡◌, ◌∙◌, ◌+◌, ◌-◌, ◌*◌, ◌<◌, ◌≤◌, length, take, drop, get_or, ⊎_elim, ap, arith}
use Rattle.std.proofs.lemmas.Bool.{cases_lt}
use Rattle.std.proofs.lemmas.List.{get_or-replicate}
use Rattle.r9_plane.proofs.Rectangles.{length-part}
use Rattle.r9_plane.proofs.RunLemmas.{stretch_put}
use Rattle.r9_plane.proofs.blocks.fill_whole_rows.Goals as goal

pub returns-clause-written : goal.returns-clause-written
returns-clause-written c i early =
    let raws = c.args.raws.now in
    let first = c.args.first in
    let line = c.fill.new.self in
    let size = first + c.args.rows * c.args.width - first in
    let long : length line ≡ size = c.fill.auto.self ∙ length-part raws first (first + c.args.rows * c.args.width) size (omega arith) (omega (arith, c.requires)) in
    let here : 0 + i ≡ i = omega arith in
    (stretch_put raws line first size long (omega (arith, c.requires))).written i (omega (arith, early))
    ∙ ap (λ n. get_or line n 0) here
    ∙ ap (λ xs. get_or xs i 0) (c.fill.ensures.after (λ y h. h))
    ∙ get_or-replicate (length (take (first + c.args.rows * c.args.width - first) (drop first raws))) i c.args.raw 0 (omega (arith, early, long, c.fill.auto.self))

pub returns-clause-others : goal.returns-clause-others
returns-clause-others c n apart =
    let raws = c.args.raws.now in
    let first = c.args.first in
    let line = c.fill.new.self in
    let size = first + c.args.rows * c.args.width - first in
    let long : length line ≡ size = c.fill.auto.self ∙ length-part raws first (first + c.args.rows * c.args.width) size (omega arith) (omega (arith, c.requires)) in
    let put = stretch_put raws line first size long (omega (arith, c.requires)) in
    ⊎_elim
    (λ (h : n < first). put.before n h)
    (λ (h : first ≤ n).
    ⊎_elim
    (λ (early : n < first + c.args.rows * c.args.width). absurd (apart (n - first) (omega (arith, early, h)) (omega (arith, h))))
    (λ (late : first + c.args.rows * c.args.width ≤ n). put.after n (omega (arith, late)))
    (cases_lt n (first + c.args.rows * c.args.width)))
    (cases_lt n first)
