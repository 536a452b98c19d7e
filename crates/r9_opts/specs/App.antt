-- The commands as clap is told of them.
use Rattle.std.specs.Prelude.{ℕ, true, List, codes, Some}
use Rattle.clap.specs.Walk.{Rule}
use Rattle.clap.specs.Simple.{App, new_app, new_rule, with_rule, with_subcommand, on_top}
use Rattle.clap.specs.declared.builder.action.ArgAction.TheVariants.{Set, SetTrue}

-- an option with a value, a flag, and a word that is no option
abbrev pub valued_rule : List ℕ → Rule
valued_rule name = record (new_rule name) { long = Some name; action = Some Set }

abbrev pub flag_rule : List ℕ → Rule
flag_rule name = record (new_rule name) { long = Some name; action = Some SetTrue }

abbrev pub word_rule : List ℕ → Rule
word_rule name = record (new_rule name) { action = Some Set }

abbrev pub sized_app : List ℕ → App
sized_app name = with_rule (with_rule (new_app name) (valued_rule (codes "size"))) (valued_rule (codes "chan"))

abbrev pub replay_app : App
replay_app = with_rule (sized_app (codes "replay")) (flag_rule (codes "screen"))

abbrev pub mirror_app : App
mirror_app = sized_app (codes "mirror")

abbrev pub serve_app : App
serve_app =
    with_rule (with_rule (with_rule (sized_app (codes "serve")) (valued_rule (codes "listen"))) (valued_rule (codes "workers"))) (valued_rule (codes "conns"))

abbrev pub alone_app : App
alone_app = with_rule (sized_app (codes "alone")) (valued_rule (codes "conn"))

abbrev pub text_app : App
text_app = with_rule (with_rule (new_app (codes "text")) (valued_rule (codes "cols"))) (valued_rule (codes "rows"))

abbrev pub desk_app : App
desk_app = new_app (codes "desk")

abbrev pub gen_app : App
gen_app = with_rule (new_app (codes "gen")) (word_rule (codes "number"))

-- the words begin with a command; there is no help and no version
abbrev pub bare_app : App
bare_app = on_top (λ s. record s {
  no_binary_name = true;
  disable_help_flag = true;
  disable_help_subcommand = true;
  disable_version_flag = true;
}) (new_app (codes "rio9"))

abbrev pub answering_app : App
answering_app =
    with_subcommand (with_subcommand (with_subcommand (with_subcommand bare_app replay_app.top) mirror_app.top) serve_app.top) alone_app.top

abbrev pub rio9_app : App
rio9_app = with_subcommand (with_subcommand (with_subcommand answering_app text_app.top) desk_app.top) gen_app.top
