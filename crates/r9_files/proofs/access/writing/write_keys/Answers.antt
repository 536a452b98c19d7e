use Rattle.std.proofs.Common.{◌≡◌, true, rules, sym, subst}
use Rattle.std.specs.Str.{IsUtf8}
use Rattle.model_world.specs.Writing.{are_keys}
use Rattle.r9_files.proofs.access.Keys.{keys_utf8}
use Rattle.r9_files.proofs.access.writing.write_keys.Goals as goal

pub keys-requires : goal.keys-requires
keys-requires g c =
    let are : are_keys c.args.bytes.now ≡ true = search rules in
    subst IsUtf8 (sym c.in_ok-keys.ensures) (keys_utf8 c.args.bytes.now are)
