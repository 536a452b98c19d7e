use Rattle.std.proofs.Common.{◌≡◌, ◌+◌, ◌-◌, arith}
use Rattle.r9_locate.proofs.locate.Parts.{length-part}
use Rattle.r9_put.proofs.fills.Lent.{holds_between, lent_pixel, numbers_along}
use Rattle.r9_put.proofs.fills.gathered.Picture.run.Goals as goal
use Rattle.r9_put.proofs.fills.gathered.Picture.run.Goals.{In_ok-last}

-- the last one is so many behind the first
ends : (c : In_ok-last) → c.in_ok-last.last + 1 ≡ c.in_ok-first.first + c.args.count
ends c =
    let number = numbers_along c.args.self.now.r c.args.q (c.args.count - 1) c.in_ok-first.first c.in_ok-first.ensures.inside c.in_ok-first.ensures.value in
    omega (arith, number, c.in_ok-last.ensures.value, c.requires)

pub returns-clause-len : goal.returns-clause-len
returns-clause-len c =
    let is = ends (goal.at.returns-clause-len c).In_ok-last in
    let first = c.in_ok-first.first in
    let size = c.in_ok-last.last + 1 - first in
    let long = length-part c.args.self.now.raws.now first size (omega (arith, is, c.in_ok-last.ensures.within, c.requires)) in
    omega (arith, long, is)

pub returns-clause-pixels : goal.returns-clause-pixels
returns-clause-pixels c k below =
    let is = ends (goal.at.returns-clause-pixels c).In_ok-last in
    let r = c.args.self.now.r in
    lent_pixel r c.args.self.now.raws.now c.args.q c.in_ok-first.first c.in_ok-last.last c.args.count k is below
    (holds_between r c.args.q k (c.args.count - 1) (omega (arith, below)) c.in_ok-first.ensures.inside c.in_ok-last.ensures.inside)
    (numbers_along r c.args.q k c.in_ok-first.first c.in_ok-first.ensures.inside c.in_ok-first.ensures.value)
