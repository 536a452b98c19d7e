use Rattle.std.proofs.Common.{◌≡◌, ◌+◌, ◌*◌, ◌/◌, length, get_or, ap, sym, ◌∙◌, arith, inl, inr}
use Rattle.std.proofs.lemmas.Bool.{cases_lt}
use Rattle.model_pixel.specs.Rows.{raw_at}
use Rattle.r9_kern.specs.Over.{over_raw}
use Rattle.r9_kern.specs.Layouts.{chan_of}
use Rattle.r9_kern.proofs.ByteLemmas.{digits_raw, le_digit, puts, same_raw, Puts}
use lib.Lanes.{put_chunk}
use Rattle.r9_kern.proofs.bytes.over_pixel.Goals as goal
use Rattle.r9_kern.proofs.bytes.over_pixel.Goals.{After-to_le_bytes}

size : (c : After-to_le_bytes) → length c.to_le_bytes.result ≡ 4
size c = ap length c.to_le_bytes.ensures

put : (c : After-to_le_bytes) → Puts c.args.d.now (put_chunk (4 * c.args.n) c.args.d.now c.to_le_bytes.result) c.to_le_bytes.result (4 * c.args.n)
put c =
    puts c.args.d.now c.to_le_bytes.result (4 * c.args.n) (omega arith) (omega (arith, size c)) (omega (arith, size c, c.requires.room))

pub returns-clause-pixel : goal.returns-clause-pixel
returns-clause-pixel c =
    let new = put_chunk (4 * c.args.n) c.args.d.now c.to_le_bytes.result in
    let bs = c.to_le_bytes.result in
    let raw = c.over_raw_pixel-raw.result in
    let here : 4 * c.args.n / 4 + 0 ≡ c.args.n = omega arith in
    ap (raw_at 32 new) (sym here)
    ∙ (put c).here 0 (omega (arith, size c))
    ∙ digits_raw bs 0 raw c.over_raw_pixel-raw.type_inv (λ k small. ap (λ k. get_or bs k 0) (omega arith) ∙ ap (λ xs. get_or xs k 0) c.to_le_bytes.ensures ∙ le_digit raw k small)
    ∙ c.over_raw_pixel-raw.ensures
    ∙ (λ i. over_raw (chan_of c.args.dst) (chan_of c.args.src) (c.word_at-source.ensures i) (c.word_at-target.ensures i))

pub returns-clause-others : goal.returns-clause-others
returns-clause-others c m other =
    elim (cases_lt m c.args.n) [
      | inl early ↦ (put c).before m (omega arith)
      | inr late ↦
          same_raw (put_chunk (4 * c.args.n) c.args.d.now c.to_le_bytes.result) c.args.d.now m m (λ k small. (put c).after (4 * m + k) (omega (arith, size c)))
    ]

pub returns-clause-rest : goal.returns-clause-rest
returns-clause-rest c k late = (put c).after k (omega (arith, size c))
