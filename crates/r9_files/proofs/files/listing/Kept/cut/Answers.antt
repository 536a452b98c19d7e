use Rattle.std.proofs.Common.{◌≡◌, ◌++◌, ◌∷◌, [], ℕ, List, take, ap, ◌∙◌}
use Rattle.model_world.specs.Session.{Kept}
use Rattle.r9_files.proofs.files.Listings.{cut_more, cut_whole, rest_is}
use Rattle.r9_files.proofs.files.listing.Kept.cut.Goals as goal

pub loop-len-preserved : goal.loop-len-preserved
loop-len-preserved c =
    let stats = c.loop-len.stats.items in
    let rest = c.loop-len.rest.now in
    let len = c.in-Some.len in
    let more = cut_more _ stats rest len c.loop-len.invariant c.in-Some.ensures.within.0 c.in-Some.ensures.within.1 c.in-Some.ensures.sized in
    let stat : c.in_ok-stat.stat ≡ take len rest = c.in_ok-stat.ensures in
    let pushed : c.push.new.self.items ≡ stats ++ take len rest ∷ [] = c.in_ok-push.ensures.items ∙ ap (λ (s : List ℕ). stats ++ s ∷ []) stat in
    rw (pushed, rest_is rest len) more

pub returns : goal.returns
returns c = λ pieces all whole.
    ap (λ (left : List (List ℕ)). let kept : Kept = record { left = left; next = 0 } in kept) (cut_whole _ _ _ c.loop-len.invariant c.in_default.ensures.sized pieces all whole)
