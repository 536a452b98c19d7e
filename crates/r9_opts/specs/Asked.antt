-- The job that words ask for, and the job that clap's matches give.
use Rattle.std.specs.Prelude.{◌≡◌, ℕ, List, codes, map, string_bytes}
use Rattle.std.specs.Borrow.{Bor}
use Rattle.clap.specs.Walk.{Row}
use Rattle.r9_opts.specs.declared.job.Job.{Job}
use Rattle.r9_opts.specs.declared.job.Job.TheVariants as job
use Rattle.r9_opts.specs.declared.job.OptsFault.{OptsFault}
use Rattle.r9_opts.specs.declared.job.OptsFault.TheVariants as fault
use Rattle.model_history.specs.words.Commands.{AsksForAlone, AsksForDesk, AsksForMirror, AsksForReplay, AsksForText, AsksToServe, AsksToGenerate}
use Rattle.r9_opts.specs.Rows.{IsAloneOf, IsDisplay, IsReplayOf, IsServeOf, IsTextOf, IsCountOf}

-- the bytes of words
abbrev pub texts_of : List (Bor (List ℕ)) → List (List ℕ)
texts_of words = map (λ word. word.now) words

-- the words ask for this job
abbrev pub AskFor : List (List ℕ) → Job → Type 0
AskFor words (job.Replay opening screen) = AsksForReplay words opening screen
AskFor words (job.Mirror opening) = AsksForMirror words opening
AskFor words (job.Serve opening listen workers conns) = AsksToServe words opening (string_bytes listen) workers conns
AskFor words (job.Alone opening session) = AsksForAlone words opening session
AskFor words (job.Text columns rows) = AsksForText words columns rows
AskFor words job.Desk = AsksForDesk words
AskFor words (job.Gen number) = AsksToGenerate words number

-- the matches of a command give this job
abbrev pub JobOf : (command : List ℕ) → List Row → Job → Type 0
JobOf command rows (job.Replay opening screen) = (command ≡ codes "replay") × IsReplayOf rows opening screen
JobOf command rows (job.Mirror opening) = (command ≡ codes "mirror") × IsDisplay rows opening
JobOf command rows (job.Serve opening listen workers conns) = (command ≡ codes "serve") × IsServeOf rows opening (string_bytes listen) workers conns
JobOf command rows (job.Alone opening session) = (command ≡ codes "alone") × IsAloneOf rows opening session
JobOf command rows (job.Text columns lines) = (command ≡ codes "text") × IsTextOf rows columns lines
JobOf command rows job.Desk = command ≡ codes "desk"
JobOf command rows (job.Gen number) = (command ≡ codes "gen") × IsCountOf rows (codes "number") 100000 number

-- this holds where the fault is that the words ask for nothing
abbrev pub IfUsage : OptsFault → Type 0 → Type 0
IfUsage fault.Usage P = P
IfUsage fault.Memory P = Unit {0}
