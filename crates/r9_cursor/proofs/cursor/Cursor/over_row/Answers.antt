use Rattle.std.proofs.Common.{◌≡◌, ◌≢◌, ◌∙◌, ◌<◌, ◌≤◌, ℕ, ap, sym, refl, arith, length, set, get_or, get_or-set_same, get_or-set_other, ⊎_elim}
use Rattle.std.proofs.lemmas.Bool.{cases_eq, cases_lt}
use Rattle.model_client.specs.cursor.Rows.{put_in}
use Rattle.r9_cursor.specs.Bytes.{byte_under}
use Rattle.r9_cursor.proofs.cursor.Cursor.over_row.Goals as goal

pub loop-k-init : goal.loop-k-init
loop-k-init c = record {
  done = λ j h. sym (c.bytes-first.ensures.left c.args.row j (get_or c.args.line.now j 0) (c.type_inv.line j).fits h);
  rest = λ j h. refl;
  bytes = λ j. (c.type_inv.line j).fits;
}

pub loop-k-preserved : goal.loop-k-preserved
loop-k-preserved c =
    let cursor = c.args.self.now in
    let k = c.loop-k.k in
    let line = c.loop-k.line in
    let new = c.row_byte.result in
    let put = put_in cursor.r cursor.chan cursor.at c.args.row in
    let within : k < length line = omega (arith, c.loop-k-test.true, c.loop-k.auto.line, c.bytes-first.ensures.end, c.requires.line) in
    let here : get_or (set line k new) k 0 ≡ new = get_or-set_same line k new 0 within in
    let there = λ (j : ℕ) (other : j ≢ k). get_or-set_other line k j new 0 other in
    let byte : new ≡ byte_under cursor.depth put k (get_or c.args.line.now k 0) = c.row_byte.ensures ∙ ap (byte_under cursor.depth put k) (c.loop-k.invariant.rest k (omega arith)) in
    record {
      done = λ j h.
          ⊎_elim
          (λ (e : j ≡ k). ap (λ n. get_or (set line k new) n 0) e ∙ here ∙ byte ∙ ap (λ n. byte_under cursor.depth put n (get_or c.args.line.now n 0)) (sym e))
          (λ (e : j ≢ k). there j e ∙ c.loop-k.invariant.done j (omega (arith, h, e)))
          (cases_eq j k);
      rest = λ j h. there j (λ e. omega (arith, h, e)) ∙ c.loop-k.invariant.rest j (omega (arith, h));
      bytes = c.loop-k.invariant.bytes;
    }

pub returns : goal.returns
returns c = λ j within.
    ⊎_elim
    (λ (h : j < c.loop-k.k). c.loop-k.invariant.done j h)
    (λ (h : c.loop-k.k ≤ j).
    c.loop-k.invariant.rest j h
    ∙ sym (c.bytes-first.ensures.right c.args.row j (get_or c.args.line.now j 0) (c.loop-k.invariant.bytes j) (omega (arith, h, c.loop-k-test.false))))
    (cases_lt j c.loop-k.k)
