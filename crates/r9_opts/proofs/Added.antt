-- A command with one option or one command more.
use Rattle.std.proofs.Common.{◌≡◌, ◌∙◌, ◌||◌, Bool, false, ap, ap₂}
use Rattle.clap.specs.Walk.{Rule}
use Rattle.clap.specs.Words.{App, AddsArg, AddsSubcommand, app_of, rule_of, with_rule, with_subcommand}
use Rattle.clap.specs.declared.builder.arg.Arg.{Arg}
use Rattle.clap.specs.declared.builder.command.Command.{Command}
use Rattle.clap.specs.declared.builder.command.Command.TheViews.{out-Command}

pub ruled : (old : Command) (arg : Arg) (new : Command) (app : App) (rule : Rule) → AddsArg old arg new → app_of old ≡ app → rule_of arg ≡ rule → arg.global ≡ false → app_of new ≡ with_rule app rule
ruled old arg new app rule adds old_is arg_is local = adds.shape local ∙ ap₂ with_rule old_is arg_is

pub commanded : (old sub new : Command) (app sub_app : App) → AddsSubcommand old sub new → app_of old ≡ app → app_of sub ≡ sub_app → (out-Command sub).has_globals ≡ false
    → app_of new ≡ with_subcommand app sub_app.top
commanded old sub new app sub_app adds old_is sub_is local = adds.shape local ∙ ap₂ with_subcommand old_is (ap (λ (a : App). a.top) sub_is)

-- and no option of it holds in commands below
pub still_local : (old sub new : Command) → AddsSubcommand old sub new → (out-Command old).has_globals ≡ false → (out-Command sub).has_globals ≡ false → (out-Command new).has_globals ≡ false
still_local old sub new adds old_is sub_is = adds.globals ∙ ap₂ (λ (p q : Bool). p || q) old_is sub_is
