use Rattle.std.proofs.Common.{◌≡◌, ◌≢◌, ◌+◌, ◌*◌, ap, sym, ◌∙◌, arith, ⊎_elim}
use Rattle.std.proofs.lemmas.Bool.{cases_eq}
use Rattle.model_pixel.specs.Rows.{raw_at}
use Rattle.r9_kern.specs.Over.{over_raw}
use Rattle.r9_kern.specs.Layouts.{chan_of}
use Rattle.r9_kern.proofs.ByteLemmas.{same_raw}
use Rattle.r9_kern.proofs.bytes.over_bytes.Goals as goal

pub loop-n-init : goal.loop-n-init
loop-n-init c = record {
  within = omega arith;
  done = record {
    made = λ n less. c.over_blocks_by.ensures.blocks n (omega arith);
    left = λ k late. c.over_blocks_by.ensures.rest k (omega arith);
  };
}

pub loop-n-preserved : goal.loop-n-preserved
loop-n-preserved c =
    let n = c.loop-n.n in
    let d = c.loop-n.d in
    let new = c.over_pixel.new.d in
    let s = c.args.s.now in
    let old = c.args.d.now in
    let done = c.loop-n.invariant.done in
    let composed = over_raw (chan_of c.args.over.dst) (chan_of c.args.over.src) in
    record {
      within = omega arith;
      done = record {
        made = λ m less.
            ⊎_elim
            (λ (h : m ≡ n). ap (raw_at 32 new) h ∙ c.over_pixel.ensures.pixel ∙ ap (composed (raw_at 32 s n)) (same_raw d old n n (λ k small. done.left (4 * n + k) (omega arith))) ∙ ap (λ m. composed (raw_at 32 s m) (raw_at 32 old m)) (sym h))
            (λ (h : m ≢ n). c.over_pixel.ensures.others m h ∙ done.made m (omega arith))
            (cases_eq m n);
        left = λ k late. c.over_pixel.ensures.rest k (omega arith) ∙ done.left k (omega arith);
      };
    }

pub returns-clause-pixels : goal.returns-clause-pixels
returns-clause-pixels c n room = c.loop-n.invariant.done.made n (omega arith)

pub returns-clause-rest : goal.returns-clause-rest
returns-clause-rest c k late = c.loop-n.invariant.done.left k (omega (arith, c.loop-n.invariant.within))
