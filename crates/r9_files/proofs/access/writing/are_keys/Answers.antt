use Rattle.std.proofs.Common.{rules, ◌≡◌, ◌∙◌, ◌&&◌, length, sym, ap}
use Rattle.std.specs.Prelude.{nat_le}
use Rattle.std.specs.Str.{IsUtf8, chars}
use Rattle.model_world.specs.Writing.{most_keys}
use Rattle.r9_files.proofs.access.Keys.{no_text, no_keys, keys_are}
use Rattle.r9_files.proofs.access.writing.are_keys.Goals as goal

pub returns-in_default : goal.returns-in_default
returns-in_default c =
    let other : IsUtf8 c.args.bytes.now → ⊥ = search rules in
    no_text c.args.bytes.now other

pub returns-then-are_few : goal.returns-then-are_few
returns-then-are_few c =
    let text : IsUtf8 c.args.bytes.now = search rules in
    let count : c.char_count.result ≡ length (chars c.args.bytes.now) = search rules in
    let few = ap (λ n. nat_le 1 n && nat_le n most_keys) (sym count) ∙ sym c.are_few.ensures ∙ c.if-are_few.true in
    keys_are c.args.bytes.now c.has_zero.result text few c.has_zero.ensures

pub returns-else-are_few : goal.returns-else-are_few
returns-else-are_few c =
    let count : c.char_count.result ≡ length (chars c.args.bytes.now) = search rules in
    c.if-are_few.false ∙ no_keys c.args.bytes.now (ap (λ n. nat_le 1 n && nat_le n most_keys) (sym count) ∙ sym c.are_few.ensures ∙ c.if-are_few.false)
