use Rattle.std.proofs.Common.{◌≡◌, ◌≤◌, ◌*◌, length}
use Rattle.r9_clients.proofs.textfile.Sizes.{answered}
use Rattle.r9_clients.proofs.textfile.input.read_input.Goals as goal

pub returns-clause-some_width : goal.returns-clause-some_width
returns-clause-some_width c = answered c.args.bytes.now c.placed.result (λ input. 1 ≤ input.width) (λ input is. is.some_width) c.placed.ensures

pub returns-clause-most_width : goal.returns-clause-most_width
returns-clause-most_width c = answered c.args.bytes.now c.placed.result (λ input. input.width ≤ 8) (λ input is. is.most_width) c.placed.ensures

pub returns-clause-some_height : goal.returns-clause-some_height
returns-clause-some_height c = answered c.args.bytes.now c.placed.result (λ input. 1 ≤ input.height) (λ input is. is.some_height) c.placed.ensures

pub returns-clause-most_height : goal.returns-clause-most_height
returns-clause-most_height c = answered c.args.bytes.now c.placed.result (λ input. input.height ≤ 16) (λ input is. is.most_height) c.placed.ensures

pub returns-clause-whole : goal.returns-clause-whole
returns-clause-whole c = answered c.args.bytes.now c.placed.result (λ input. length input.pixels.now ≡ input.height * (95 * input.width)) (λ input is. is.whole) c.placed.ensures
