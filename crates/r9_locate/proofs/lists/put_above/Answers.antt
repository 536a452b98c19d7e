use Rattle.std.proofs.Common.{◌≡◌, ◌∙◌, ◌<◌, true, length, sym, ap, arith}
use Rattle.std.specs.Prelude.{insert, if◌then◌else◌}
use Rattle.std.specs.Result.{is_ok}
use Rattle.model_forest.specs.Steps.{put_above}
use Rattle.r9_locate.proofs.lists.Ordered.{split_found, split_past, split_none}
use Rattle.r9_locate.proofs.lists.put_above.Goals as goal

pub loop-k-preserved : goal.loop-k-preserved
loop-k-preserved c =
    let ws = c.loop-k.windows.items in
    let lt : c.loop-k.k < length ws = omega (arith, c.loop-k.windows.ok.0, c.loop-k-test.true) in
    record {
      same = c.loop-k.invariant.same;
      room = c.loop-k.invariant.room;
      len = c.loop-k.invariant.len;
      above =
          c.loop-k.invariant.above
          ∙ split_past c.args.w c.args.old ws c.loop-k.k c.index.result.now lt c.index.ensures c.if-index-old.false;
    }

pub returns-then-index-old-clause-items : goal.returns-then-index-old-clause-items
returns-then-index-old-clause-items c =
    let ws = c.loop-k.windows.items in
    let lt : c.loop-k.k < length ws = omega (arith, c.loop-k.windows.ok.0, c.loop-k-test.true) in
    let ok : is_ok c.insert.result ≡ true = c.insert.ensures.succeeds c.loop-k.invariant.room in
    c.insert.ensures.items
    ∙ ap (λ b. if b then insert ws c.loop-k.k c.args.w else ws) ok
    ∙ sym (split_found c.args.w c.args.old ws c.loop-k.k c.index.result.now lt c.index.ensures c.if-index-old.true)
    ∙ sym c.loop-k.invariant.above
    ∙ ap (put_above c.args.w c.args.old) c.loop-k.invariant.same

pub returns-clause-items : goal.returns-clause-items
returns-clause-items c =
    let ws = c.loop-k.windows.items in
    sym (c.loop-k.invariant.above ∙ split_none c.args.w c.args.old ws c.loop-k.k (omega (arith, c.loop-k.windows.ok.0, c.loop-k-test.false)))
    ∙ ap (put_above c.args.w c.args.old) c.loop-k.invariant.same
