use Rattle.std.proofs.Common.{◌≡◌, ◌∙◌, ap, ◌++◌, ◌<◌, ℕ, length, arith, sym, take}
use Rattle.std.proofs.lemmas.List.{take_all}
use Rattle.std.specs.List.{flat_map, zip}
use Rattle.model_files.specs.wire.Spelling.{stat_bytes}
use Rattle.model_files.specs.tree.Tree.{stat_named}
use Rattle.r9_tree.specs.Stats.{window_stat, numbered_stat}
use Rattle.r9_tree.specs.View.{node_of}
use Rattle.r9_tree.proofs.Listed.{zip_at, zip_length}
use Rattle.r9_tree.proofs.Put.{put_more}
use Rattle.r9_tree.proofs.stats.put_windows.Goals as goal

pub loop-i-preserved : goal.loop-i-preserved
unfolding numbered_stat
loop-i-preserved c =
    let name = c.in_ok-name.ensures.name in
    let file = c.window_at.ensures.file in
    let windows = zip c.args.numbers.now c.args.serials.now in
    let same = zip_length c.args.numbers.now c.args.serials.now c.requires in
    let inside : c.loop-i.i < length windows = omega (arith, same) in
    let there = zip_at c.args.numbers.now c.args.serials.now c.loop-i.i (omega arith) c.requires in
    c.in_ok-put_stat.ensures
    ∙ ap (λ piece. c.loop-i.out ++ piece) (λ i. stat_bytes (stat_named (name i) (file i)))
    ∙ ap (λ (w : ℕ × ℕ). c.loop-i.out ++ window_stat (node_of c.args.node.now) w) (sym there)
    ∙ put_more (window_stat (node_of c.args.node.now)) windows c.loop-i.i (0, 0) c.args.out.now c.loop-i.out inside c.loop-i.invariant

pub returns : goal.returns
returns c =
    let windows = zip c.args.numbers.now c.args.serials.now in
    let same = zip_length c.args.numbers.now c.args.serials.now c.requires in
    let whole : take c.loop-i.i windows ≡ windows = take_all c.loop-i.i windows (omega (arith, same)) in
    c.loop-i.invariant ∙ ap (λ ws. c.args.out.now ++ flat_map (window_stat (node_of c.args.node.now)) ws) whole
