use Rattle.std.proofs.Common.{◌≡◌, ◌∙◌, length, Some, ap, arith}
use Rattle.r9_files.proofs.files.Listings.{long_enough, number_in_front}
use Rattle.r9_files.proofs.files.listing.first_len.Goals as goal

pub returns-in_default-clause-sized : goal.returns-in_default-clause-sized
returns-in_default-clause-sized c = λ piece rest sized e.
    let long = long_enough _ piece rest sized e in absurd (omega (arith, c.in_default.len_below, long.0, long.1))

pub returns-then-len-rest-clause-sized : goal.returns-then-len-rest-clause-sized
returns-then-len-rest-clause-sized c = λ piece rest sized e.
    let long = long_enough _ piece rest sized e in
    let number : c.from_le_bytes-len.result ≡ length sized.body = c.from_le_bytes-len.ensures ∙ number_in_front _ piece rest sized e in
    ap (λ n. Some n) (omega (arith, number, long.0))

pub returns-else-len-rest-clause-sized : goal.returns-else-len-rest-clause-sized
returns-else-len-rest-clause-sized c = λ piece rest sized e.
    let long = long_enough _ piece rest sized e in
    let number : c.from_le_bytes-len.result ≡ length sized.body = c.from_le_bytes-len.ensures ∙ number_in_front _ piece rest sized e in
    absurd (omega (arith, number, long.0, long.1, c.if-len-rest.false))
