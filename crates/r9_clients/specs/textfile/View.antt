-- What the code answers, as an outcome of the definitions.
use Rattle.std.specs.Prelude.{Result, Ok, Err}
use Rattle.model_text.specs.text.Outcome.{Outcome}
use Rattle.r9_clients.specs.declared.textfile.input.BadInput.{BadInput}
use Rattle.r9_clients.specs.declared.textfile.input.Input as code
use Rattle.r9_clients.specs.textfile.Input.{Input}

abbrev pub input_view : code.Input → Input
input_view input = record { width = input.width; height = input.height; pixels = input.pixels.now; text = input.text.now }

abbrev pub outcome_of : Result code.Input BadInput → Outcome Input
outcome_of (Ok input) = Ok (input_view input)
outcome_of (Err bad) = Err bad.place
