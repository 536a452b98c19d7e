-- What clap and the matches tell, as what the words ask for.
use Rattle.std.proofs.Common.{◌≡◌, ◌∙◌, ℕ, inl, inr, true, false, true≢false, refl, sym, ap, ap₂, subst, List, [], codes, Option, Some, None, Bor}
use Rattle.std.specs.Prelude.{Box}
use Rattle.std.specs.Box.{box_value}
use Rattle.std.specs.List.{list_all}
use Rattle.std.specs.Option.{option_map, is_some}
use Rattle.std.proofs.lemmas.List.Folds.{list_all-map}
use Rattle.clap.specs.Faults.{fault_of, is_simple_and_free}
use Rattle.clap.specs.Kinds.{HasKind, IsAmong}
use Rattle.clap.specs.Matches.{has_subcommand, subcommand_name_of}
use Rattle.clap.specs.Simple.{App, HasMatchesOf, is_simple, subcommand_of, subcommand_rows, subcommand_rows_of}
use Rattle.clap.specs.Values.{kind_of}
use Rattle.clap.specs.Walk.{Row, Text}
use Rattle.clap.specs.declared.error.Error.{Error}
use Rattle.clap.specs.declared.error.kind.ErrorKind.TheVariants as kind
use Rattle.clap.specs.declared.parser.matches.ArgMatches.{ArgMatches}
use Rattle.clap.specs.declared.parser.matches.ArgMatches.TheViews.{out-ArgMatches, out-SubCommand}
use Rattle.clap.specs.declared.parser.matches.SubCommand.{SubCommand}
use Rattle.r9_opts.specs.declared.job.Job.{Job}
use Rattle.r9_opts.specs.declared.job.Job.TheVariants.{Replay, Mirror, Serve, Alone, Text as Texts, Desk, Gen}
use Rattle.r9_opts.specs.declared.job.OptsFault.{OptsFault}
use Rattle.r9_opts.specs.declared.job.OptsFault.TheVariants.{Usage, Memory}
use Rattle.r9_opts.specs.App.{rio9_app}
use Rattle.r9_opts.specs.Asked.{AskFor, IfUsage, JobOf, texts_of}
use Rattle.r9_opts.specs.Fit.{is_fit}
use Rattle.r9_opts.specs.Rows.{IsCountOf, IsNumberOf}
use Rattle.r9_opts.proofs.Options.{none_some, some_inj}
use Rattle.r9_opts.proofs.Levels.{Command, replays, mirrors, serves, alones, texts, desks, generates, word_of}
use Rattle.r9_opts.proofs.Jobs.{AreOf, command_of, job_by, job_found, taken}

abbrev pub AskForNothing : List Text → Type 0
AskForNothing words = (job : Job) → AskFor words job → ⊥

-- ---- no number

-- what the matches of a command give, whatever the job
abbrev Given : Command → List Row → Type 0
Given replays rows = Unit {0}
Given mirrors rows = Unit {0}
Given serves rows = (conns : ℕ) × IsCountOf rows (codes "conns") 100000 conns
Given alones rows = (session : ℕ) × IsCountOf rows (codes "conn") 4294967295 session
Given texts rows = ((columns : ℕ) × IsNumberOf rows (codes "cols") 4 200 columns) × ((lines : ℕ) × IsNumberOf rows (codes "rows") 4 100 lines)
Given desks rows = Unit {0}
Given generates rows = (n : ℕ) × IsCountOf rows (codes "number") 100000 n

given_by : (rows : List Row) (job : Job) → AreOf rows job → Given (command_of job) rows
given_by rows (Replay opening screen) of = tt
given_by rows (Mirror opening) of = tt
given_by rows (Serve opening listen workers conns) of = (conns, of.connections)
given_by rows (Alone opening session) of = (session, of.chosen)
given_by rows (Texts columns lines) of = ((columns, of.wide), (lines, of.high))
given_by rows Desk of = tt
given_by rows (Gen n) of = (n, of)

given : (command : Command) (rows : List Row) (job : Job) → JobOf (word_of command) rows job → Given command rows
given command rows job of = let parts = job_by command rows job of in subst (λ c. Given c rows) (sym parts.0) (given_by rows job parts.1)

pub no_connections : (rows : List Row) → ((n : ℕ) → IsCountOf rows (codes "conns") 100000 n → ⊥) → (x : Job) → JobOf (codes "serve") rows x → ⊥
no_connections rows none job of = let got = given serves rows job of in none got.0 got.1

pub no_session : (rows : List Row) → ((n : ℕ) → IsCountOf rows (codes "conn") 4294967295 n → ⊥) → (x : Job) → JobOf (codes "alone") rows x → ⊥
no_session rows none job of = let got = given alones rows job of in none got.0 got.1

pub no_columns : (rows : List Row) → ((n : ℕ) → IsNumberOf rows (codes "cols") 4 200 n → ⊥) → (x : Job) → JobOf (codes "text") rows x → ⊥
no_columns rows none job of = let got = given texts rows job of in none got.0.0 got.0.1

pub no_lines : (rows : List Row) → ((n : ℕ) → IsNumberOf rows (codes "rows") 4 100 n → ⊥) → (x : Job) → JobOf (codes "text") rows x → ⊥
no_lines rows none job of = let got = given texts rows job of in none got.1.0 got.1.1

pub no_number : (rows : List Row) → ((n : ℕ) → IsCountOf rows (codes "number") 100000 n → ⊥) → (x : Job) → JobOf (codes "gen") rows x → ⊥
no_number rows none job of = let got = given generates rows job of in none got.0 got.1

-- ---- words that are not fit

fit_texts : (words : List (Bor Text)) → list_all is_fit (texts_of words) ≡ list_all (λ word. is_fit word.now) words
fit_texts words = list_all-map is_fit (λ word. word.now) words

pub unfit : (words : List (Bor Text)) → false ≡ list_all (λ word. is_fit word.now) words → AskForNothing (texts_of words)
unfit words e job asks = true≢false (sym (taken (texts_of words) job asks).fit ∙ fit_texts words ∙ sym e)

-- ---- words that clap refuses

no_kind : (words : List Text) (e : Error) → HasKind (fault_of rio9_app words) e → (kind_of e ≡ kind.OutOfMemory → ⊥) → AskForNothing words
no_kind words e (inl memory) other job asks = other memory
no_kind words e (inr among) other job asks = subst (IsAmong (kind_of e)) (taken words job asks).fault among

pub refused : (words : List Text) (app : App) (fault : OptsFault) (e : Error) → app ≡ rio9_app → (is_simple_and_free app ≡ true → HasKind (fault_of app words) e)
    → IfUsage fault (kind_of e ≡ kind.OutOfMemory → ⊥) → IfUsage fault (AskForNothing words)
refused words app Memory e is kinds other = tt
refused words app Usage e is kinds other = no_kind words e (subst (λ a. HasKind (fault_of a words) e) is (kinds (ap is_simple_and_free is))) other

-- ---- words that clap takes

module _ {Z : Type 0} where
  none_met : (met : Option (Box SubCommand Z)) → false ≡ is_some met → subcommand_rows met ≡ None
  none_met None e = refl
  none_met (Some b) e = absurd (true≢false (sym e))

  one_met : (met : Option (Box SubCommand Z)) (command : Text) (rows : List Row) → Some command ≡ option_map (λ b. (out-SubCommand (box_value b)).name.now) met
      → Some rows ≡ option_map (λ p. p.1) (subcommand_rows met) → subcommand_rows met ≡ Some (command, rows)
  one_met None command rows name is = none_some command (sym name)
  one_met (Some b) command rows name is = ap₂ (λ n r. Some (n, r)) (sym (some_inj name)) (sym (some_inj is))

module _ (words : List Text) (app : App) (m : ArgMatches) (is : app ≡ rio9_app) (has : HasMatchesOf app words m) where
  sub_is : subcommand_rows_of m ≡ subcommand_of rio9_app words
  sub_is = (has (ap is_simple is)).1 ∙ ap (λ a. subcommand_of a words) is

  pub no_command : false ≡ has_subcommand m → AskForNothing words
  no_command none job asks =
      let t = taken words job asks in none_some (t.name, t.rows) (sym (none_met _ none) ∙ sub_is ∙ t.sub)

  module _ (command : Text) (rows : List Row) (name : Some command ≡ subcommand_name_of m) (rows_are : Some rows ≡ option_map (λ p. p.1) (subcommand_rows (out-ArgMatches m).subcommand)) where
    met : subcommand_of rio9_app words ≡ Some (command, rows)
    met = sym sub_is ∙ one_met _ command rows name rows_are

    pub job_is : (job : Job) → list_all is_fit words ≡ true → (is_simple_and_free app ≡ true → fault_of app words ≡ []) → JobOf command rows job → AskFor words job
    job_is job fit none of = job_found words command rows job fit (sym (ap (λ a. fault_of a words) is) ∙ none (ap is_simple_and_free is)) met of

    pub no_job : ((job : Job) → JobOf command rows job → ⊥) → AskForNothing words
    no_job none job asks =
        let t = taken words job asks in
        let same = some_inj (sym t.sub ∙ met) in
        none job (subst (λ (p : Text × List Row). JobOf p.0 p.1 job) same t.gives)

pub fit_words : (words : List (Bor Text)) → true ≡ list_all (λ word. is_fit word.now) words → list_all is_fit (texts_of words) ≡ true
fit_words words e = fit_texts words ∙ sym e
