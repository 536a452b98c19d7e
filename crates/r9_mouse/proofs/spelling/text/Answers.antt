use Rattle.std.proofs.Common.{rules, ◌≡◌, length, arith}
use Rattle.r9_mouse.proofs.Lengths.{longer}
use Rattle.r9_mouse.proofs.spelling.text.Goals as goal

pub returns-clause-len : goal.returns-clause-len
returns-clause-len c =
    let first : length c.push_all.new.self ≡ 1 = search rules in
    let x = longer c.push_all.new.self c.push_number.new.out c.into.result (search rules) (search rules) (search rules) in
    let y = longer c.push_number.new.out c.push_number-2.new.out c.into-2.result (search rules) (search rules) (search rules) in
    let buttons = longer c.push_number-2.new.out c.push_number-3.new.out c.into-3.result (search rules) (search rules) (search rules) in
    let msec = longer c.push_number-3.new.out c.push_number-4.new.out c.into-4.result (search rules) (search rules) (search rules) in
    omega (arith, first, x, y, buttons, msec)
