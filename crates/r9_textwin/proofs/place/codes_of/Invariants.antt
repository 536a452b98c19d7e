use Rattle.std.proofs.Common.{◌≡◌, ◌++◌, drop}
use Rattle.std.specs.Prelude.{map}
use Rattle.model_client.specs.textwin.Wrap.{code_of}
use Rattle.r9_textwin.proofs.place.codes_of.Given as goal

abbrev pub invariant-loop-byte : goal.invariant-loop-byte
invariant-loop-byte l = l.codes ++ map code_of (drop l.byte-index l.bytes) ≡ map code_of l.bytes
