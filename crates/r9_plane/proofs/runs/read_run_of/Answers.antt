use Rattle.std.proofs.Common.{length, arith, ◌≡◌, ◌≢◌, ◌+◌, ◌<◌, ◌^◌, ap, ◌∙◌, sym, subst, ℕ, ⊎_elim, get_or, set, get_or-set_same, get_or-set_other}
use Rattle.std.proofs.lemmas.Bool.{cases_eq}
use Rattle.std.proofs.lemmas.Nat.{mul-le}
use Rattle.model_pixel.specs.Rows.{raw_at}
use Rattle.r9_plane.proofs.runs.read_run_of.Goals as goal

pub overflow_add-first : goal.overflow_add-first
overflow_add-first g c = omega (arith, c.requires.numbers)

pub read-requires-clause-within : goal.read-requires-clause-within
read-requires-clause-within g c =
    let most = mul-le (c.args.first + c.loop-i.i + 1) g.row.DEPTH (c.args.first + length c.args.raws.now) g.row.DEPTH (omega (arith, c.loop-i-test.true)) (omega arith) in
    omega (arith, most, c.requires.within)

pub loop-i-preserved : goal.loop-i-preserved
loop-i-preserved g c =
    let i = c.loop-i.i in
    let raws = c.loop-i.raws in
    let within : i < length raws = omega (arith, c.loop-i-test.true, c.loop-i.auto.raws) in
    let here : get_or (set raws i c.read.result) i 0 ≡ c.read.result = get_or-set_same raws i c.read.result 0 within in
    let there = λ (j : ℕ) (other : j ≢ i). get_or-set_other raws i j c.read.result 0 other in
    record {
      value = λ j h.
          ⊎_elim
          (λ (e : j ≡ i). ap (λ n. get_or (set raws i c.read.result) n 0) e ∙ here ∙ c.read.ensures.value ∙ ap (λ n. raw_at g.row.DEPTH c.args.bytes.now (c.args.first + n)) (sym e))
          (λ (e : j ≢ i). there j e ∙ c.loop-i.invariant.value j (omega arith))
          (cases_eq j i);
      range = λ j h.
          ⊎_elim
          (λ (e : j ≡ i). subst (λ (v : ℕ). v < 2 ^ g.row.DEPTH) (sym (ap (λ n. get_or (set raws i c.read.result) n 0) e ∙ here)) c.read.ensures.range)
          (λ (e : j ≢ i). subst (λ (v : ℕ). v < 2 ^ g.row.DEPTH) (sym (there j e)) (c.loop-i.invariant.range j (omega arith)))
          (cases_eq j i);
    }
