use Rattle.std.proofs.Common.{◌∙◌, ◌++◌, take, drop, sym, ap}
use Rattle.r9_desktop.specs.Words.{in_front}
use Rattle.r9_desktop.proofs.Placing.{put_at}
use Rattle.r9_desktop.proofs.using.put.Goals as goal

pub returns : goal.returns
returns c =
    let n = c.args.n in
    let numbers = c.args.numbers.now in
    c.in_ok-push_before.ensures ∙ (λ i. (c.in_ok-all.ensures ∙ c.split_at.ensures.front) i ++ in_front n (c.split_at.ensures.back i))
    ∙ ap (λ place. take place numbers ++ in_front n (drop place numbers)) c.place_of.ensures.place ∙ sym (put_at n numbers)
