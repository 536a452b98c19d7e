use Rattle.std.proofs.Common.{◌<◌, ◌+◌, ◌/◌, ◌%◌, ◌^◌, arith, pow_mono, ◌∙◌}
use Rattle.model_pixel.specs.Channels.{channels, colour_of, depth}
use Rattle.r9_mem.specs.Packing.{packed_by, shown}
use Rattle.r9_mem.proofs.PackingLemmas.{bits_of, packed_bytes, packed_small, shown-below}
use Rattle.r9_mem.proofs.place.places_of.Goals as goal

pub place_of-requires-clause-bits : goal.place_of-requires-clause-bits
place_of-requires-clause-bits c = (bits_of c.args.word c.ranges.word.fits c.requires.sound).first

pub place_of-requires-2-clause-bits : goal.place_of-requires-2-clause-bits
place_of-requires-2-clause-bits c = (bits_of c.args.word c.ranges.word.fits c.requires.sound).second

pub place_of-requires-3-clause-bits : goal.place_of-requires-3-clause-bits
place_of-requires-3-clause-bits c = (bits_of c.args.word c.ranges.word.fits c.requires.sound).third

pub place_of-requires-3-clause-room : goal.place_of-requires-3-clause-room
place_of-requires-3-clause-room c =
    let bits = bits_of c.args.word c.ranges.word.fits c.requires.sound in
    let sum = bits.sum in
    omega (arith, sum, c.requires.depth)

pub place_of-requires-4-clause-bits : goal.place_of-requires-4-clause-bits
place_of-requires-4-clause-bits c = (bits_of c.args.word c.ranges.word.fits c.requires.sound).fourth

pub place_of-requires-4-clause-room : goal.place_of-requires-4-clause-room
place_of-requires-4-clause-room c =
    let bits = bits_of c.args.word c.ranges.word.fits c.requires.sound in
    let sum = bits.sum in
    omega (arith, sum, c.requires.depth)

pub returns-clause-value : goal.returns-clause-value
returns-clause-value c word =
    let w = c.args.word in
    let first = c.place_of.ensures.value word in
    let second = c.place_of-2.ensures.value word in
    let third = c.place_of-3.ensures.value word in
    let fourth = c.place_of-4.ensures.value word in
    (λ i. first i + second i + third i + fourth i)
    ∙ packed_bytes (shown (colour_of word)) (shown-below word 0) w c.ranges.word.fits (w % 256) (w / 256 % 256) (w / 65536 % 256) (w / 16777216) (omega arith) (omega arith) (omega arith) (omega arith)

pub returns-clause-places : goal.returns-clause-places
returns-clause-places c = record {
  first = c.place_of.ensures.small;
  second = c.place_of-2.ensures.small;
  third = c.place_of-3.ensures.small;
  fourth = c.place_of-4.ensures.small;
  below = λ word.
      let f = shown (colour_of word) in
      let small : packed_by f (channels c.args.word) < 2 ^ depth c.args.word = packed_small f (shown-below word) (channels c.args.word) c.requires.sound in
      let most = pow_mono c.requires.depth in
      let is = returns-clause-value c word in
      omega (arith, small, most, is);
}
