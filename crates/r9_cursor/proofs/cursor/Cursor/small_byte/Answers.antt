use Rattle.std.proofs.Common.{◌≡◌, ℕ, ◌+◌, ◌*◌, ◌/◌, ◌^◌, ◌<◌, arith, refl, ap, ◌∙◌, sym, subst}
use Rattle.std.specs.Option.{unwrap_or}
use Rattle.std.proofs.lemmas.Nat.{pow_pos}
use Rattle.model_pixel.specs.Rows.{joined}
use Rattle.model_client.specs.cursor.Rows.{put_in}
use Rattle.r9_cursor.specs.Bytes.{old_bits}
use Rattle.r9_cursor.proofs.Bytes.{filled, joined_more, under_small}
use Rattle.r9_cursor.proofs.cursor.Cursor.small_byte.Goals as goal

pub loop-i-init : goal.loop-i-init
loop-i-init c = record { value = refl; range = pow_pos (c.args.self.now.depth * 0) }

pub with_pixel-byte-requires-clause-byte : goal.with_pixel-byte-requires-clause-byte
with_pixel-byte-requires-clause-byte c = c.loop-i.invariant.range

pub loop-i-preserved : goal.loop-i-preserved
loop-i-preserved c =
    let depth = c.args.self.now.depth in
    let pixel = λ (n : ℕ). unwrap_or (put_in c.args.self.now.r c.args.self.now.chan c.args.self.now.at c.args.row n) (old_bits depth c.args.old n) in
    let place : c.args.k * c.from.result + c.from-in-loop-i.result ≡ c.args.k * (8 / depth) + c.loop-i.i = λ j. c.args.k * c.from.ensures j + c.from-in-loop-i.ensures j in
    record {
      value = joined_more depth pixel (c.args.k * (8 / depth)) c.loop-i.i c.loop-i.byte c.small_pixel-raw.result c.with_pixel-byte.result c.loop-i.invariant.value (c.small_pixel-raw.ensures.value ∙ ap pixel place) c.with_pixel-byte.ensures.value;
      range = c.with_pixel-byte.ensures.range;
    }

pub overflow_cast-result : goal.overflow_cast-result
overflow_cast-result c =
    let depth = c.args.self.now.depth in
    let end : c.loop-i.i ≡ 8 / depth = omega (arith, c.loop-i.auto.i-end, c.loop-i-test.false) in
    let eight : depth * c.loop-i.i ≡ 8 = ap (λ n. depth * n) end ∙ filled depth c.args.self.now.lawful c.requires.small in
    omega (arith, subst (λ (n : ℕ). c.loop-i.byte < 2 ^ n) eight c.loop-i.invariant.range)

pub returns : goal.returns
returns c =
    let depth = c.args.self.now.depth in
    let put = put_in c.args.self.now.r c.args.self.now.chan c.args.self.now.at c.args.row in
    let end : c.loop-i.i ≡ 8 / depth = omega (arith, c.loop-i.auto.i-end, c.loop-i-test.false) in
    c.loop-i.invariant.value
    ∙ ap (joined depth (λ (n : ℕ). unwrap_or (put n) (old_bits depth c.args.old n)) (c.args.k * (8 / depth))) end
    ∙ sym (under_small depth put c.args.k c.args.old c.requires.small)
