-- The words that ask for a job are those that clap takes, and whose matches give it.
use Rattle.std.proofs.Common.{◌≡◌, ◌∙◌, ℕ, ◌==◌, ◌&&◌, ◌||◌, Bool, true, false, not, refl, sym, ap, ap₂, subst, List, [], ◌∷◌, codes, length, Option, Some, None, cond, string_bytes}
use Rattle.std.specs.List.{list_all}
use Rattle.std.specs.Prelude.{if◌then◌else◌, nat_le, nat_lt}
use Rattle.std.proofs.lemmas.Bool.Decides.{Decides-eqb}
use Rattle.clap.specs.Simple.{subcommand_of}
use Rattle.clap.specs.Faults.{fault_of}
use Rattle.clap.specs.Walk.{Row, Text, first_of}
use Rattle.model_text.specs.text.Field.{value}
use Rattle.model_text.specs.text.Reading.{◌>>=◌}
use Rattle.model_history.specs.words.Options.{is_value}
use Rattle.model_history.specs.words.Values.{counted}
use Rattle.model_history.specs.words.Commands.{AsksToGenerate, alone_syntax, desk_syntax, mirror_syntax, replay_syntax, serve_syntax, text_syntax}
use Rattle.r9_opts.specs.declared.job.Job.{Job}
use Rattle.r9_opts.specs.declared.job.Job.TheVariants.{Replay, Mirror, Serve, Alone, Text as Texts, Desk, Gen}
use Rattle.r9_opts.specs.App.{rio9_app}
use Rattle.r9_opts.specs.Asked.{AskFor, JobOf}
use Rattle.r9_opts.specs.Fit.{is_fit}
use Rattle.r9_opts.specs.Rows.{IsAloneOf, IsCountOf, IsDisplay, IsReplayOf, IsServeOf, IsTextOf}
use Rattle.r9_opts.proofs.Options.{both, none_some, some_inj}
use Rattle.r9_opts.proofs.Given.{value_fits}
use Rattle.r9_opts.proofs.Levels.{Command, replays, mirrors, serves, alones, texts, desks, generates, Front, begins, other, fault_behind, fault_in, front, gen_rules, is_word, leaf_takes, leaf_took, rows_in, rules_of, sub_behind, word_of}
use Rattle.r9_opts.proofs.Tables.{alone_names, desk_names, gen_defaults, gen_optional, mirror_names, replay_names, serve_names, text_names}
use Rattle.r9_opts.proofs.Number.{alone as one_word, alone_fits, alone_run, number_rows}
use Rattle.r9_opts.proofs.Matched.{Matches, alone_asked, alone_found, desk_found, matched, matches, mirror_asked, mirror_found, replay_asked, replay_found, serve_asked, serve_found, text_asked, text_found}

-- ---- commands and jobs

abbrev pub command_of : Job → Command
command_of (Replay opening screen) = replays
command_of (Mirror opening) = mirrors
command_of (Serve opening listen workers conns) = serves
command_of (Alone opening session) = alones
command_of (Texts columns lines) = texts
command_of Desk = desks
command_of (Gen n) = generates

-- the matches give the job, whatever the command
abbrev pub AreOf : List Row → Job → Type 0
AreOf rows (Replay opening screen) = IsReplayOf rows opening screen
AreOf rows (Mirror opening) = IsDisplay rows opening
AreOf rows (Serve opening listen workers conns) = IsServeOf rows opening (string_bytes listen) workers conns
AreOf rows (Alone opening session) = IsAloneOf rows opening session
AreOf rows (Texts columns lines) = IsTextOf rows columns lines
AreOf rows Desk = Unit {0}
AreOf rows (Gen n) = IsCountOf rows (codes "number") 100000 n

job_of : (name : Text) (rows : List Row) (job : Job) → JobOf name rows job → (name ≡ word_of (command_of job)) × AreOf rows job
job_of name rows (Replay opening screen) of = of
job_of name rows (Mirror opening) of = of
job_of name rows (Serve opening listen workers conns) of = of
job_of name rows (Alone opening session) of = of
job_of name rows (Texts columns lines) of = of
job_of name rows Desk of = (of, tt)
job_of name rows (Gen n) of = of

abbrev command_by : Text → Option Command
command_by word =
    if is_word replays word then Some replays
    else if is_word mirrors word then Some mirrors
    else if is_word serves word then Some serves
    else if is_word alones word then Some alones
    else if is_word texts word then Some texts
    else if is_word desks word then Some desks
    else if is_word generates word then Some generates
    else None

known : (command : Command) → command_by (word_of command) ≡ Some command
known replays = refl
known mirrors = refl
known serves = refl
known alones = refl
known texts = refl
known desks = refl
known generates = refl

same_command : (a b : Command) → word_of a ≡ word_of b → a ≡ b
same_command a b e = some_inj (sym (known a) ∙ ap command_by e ∙ known b)

-- the matches of a command give a job of this command alone
pub job_by : (command : Command) (rows : List Row) (job : Job) → JobOf (word_of command) rows job → (command ≡ command_of job) × AreOf rows job
job_by command rows job of = let parts = job_of (word_of command) rows job of in (same_command command (command_of job) parts.0, parts.1)

-- ---- gen

no_digits : (p q : Bool) (n : ℕ) → cond ((p && false) && q) (Some n) None ≡ None
no_digits true q n = refl
no_digits false q n = refl

-- a number begins with no hyphen
counted_value : (most n : ℕ) (text : Text) → counted most text ≡ Some n → is_value text ≡ true
counted_value most n [] e = none_some n e
counted_value most n (x ∷ xs) e = go (x == 45) refl
  where
    go : (b : Bool) → (x == 45) ≡ b → not b ≡ true
    go false f = refl
    go true f =
        let hyphen : counted most (x ∷ xs) ≡ counted most (45 ∷ xs) = ap (λ (y : ℕ). counted most (y ∷ xs)) ((Decides-eqb x 45).0 f) in
        none_some n (sym (hyphen ∙ ap (λ (o : Option ℕ). o >>= λ m. cond (false || nat_lt most m) None (Some m)) (no_digits (nat_le 1 (length (45 ∷ xs))) (nat_le (length (45 ∷ xs)) 10) (value (45 ∷ xs)))) ∙ e)

gen_found : (rest : List Text) (rows : List Row) (n : ℕ) → list_all is_fit rest ≡ true → fault_in (codes "gen") gen_rules rest ≡ [] → rows ≡ rows_in gen_rules rest
    → IsCountOf rows (codes "number") 100000 n → AsksToGenerate (codes "gen" ∷ rest) n
gen_found rest rows n fit fault are of =
    let took = leaf_took (codes "gen") gen_rules gen_optional rest fault in
    let first : first_of (codes "number") took.0 ≡ Some of.text = ap (first_of (codes "number")) (sym (are ∙ took.2 ∙ gen_defaults took.0)) ∙ of.given in
    record { word = of.text; rest = rest; begins = refl; one = one_word of.text rest took.0 fit took.1 first; counts = of.counts }

-- ---- from clap's matches to the words

command_same : (a b : Text) (r s : List Row) → ◌≡◌ {A = Option (Text × List Row)} (Some (a, r)) (Some (b, s)) → (b ≡ a) × (s ≡ r)
command_same a b r s e = let same = some_inj e in (ap (λ (p : Text × List Row). p.0) (sym same), ap (λ (p : Text × List Row). p.1) (sym same))

-- the words behind a command are fit where all are
fit_behind : (command : Command) (rest : List Text) → list_all is_fit (word_of command ∷ rest) ≡ true → list_all is_fit rest ≡ true
fit_behind command rest fit = (both (is_fit (word_of command)) (list_all is_fit rest) fit).1

-- a command in front, and the job that its matches give
by_job : (rest : List Text) (rows : List Row) (job : Job) → list_all is_fit rest ≡ true → fault_in (word_of (command_of job)) (rules_of (command_of job)) rest ≡ []
    → rows ≡ rows_in (rules_of (command_of job)) rest → AreOf rows job → AskFor (word_of (command_of job) ∷ rest) job
by_job rest rows (Replay opening screen) fit fault are of =
    replay_found rest rows opening screen (subst (Matches replay_syntax rest) (sym are) (matches (codes "replay") replay_syntax replay_names rest fit fault)) of
by_job rest rows (Mirror opening) fit fault are of =
    mirror_found rest rows opening (subst (Matches mirror_syntax rest) (sym are) (matches (codes "mirror") mirror_syntax mirror_names rest fit fault)) of
by_job rest rows (Serve opening listen workers conns) fit fault are of =
    serve_found rest rows opening (string_bytes listen) workers conns (subst (Matches serve_syntax rest) (sym are) (matches (codes "serve") serve_syntax serve_names rest fit fault)) of
by_job rest rows (Alone opening session) fit fault are of =
    alone_found rest rows opening session (subst (Matches alone_syntax rest) (sym are) (matches (codes "alone") alone_syntax alone_names rest fit fault)) of
by_job rest rows (Texts columns lines) fit fault are of =
    text_found rest rows columns lines (subst (Matches text_syntax rest) (sym are) (matches (codes "text") text_syntax text_names rest fit fault)) of
by_job rest rows Desk fit fault are of = desk_found rest rows (subst (Matches desk_syntax rest) (sym are) (matches (codes "desk") desk_syntax desk_names rest fit fault))
by_job rest rows (Gen n) fit fault are of = gen_found rest rows n fit fault are of

by_command : (command : Command) (rest : List Text) (rows : List Row) (job : Job) → command ≡ command_of job → list_all is_fit rest ≡ true
    → fault_in (word_of command) (rules_of command) rest ≡ [] → rows ≡ rows_in (rules_of command) rest → AreOf rows job → AskFor (word_of command ∷ rest) job
by_command command rest rows job e fit fault are of =
    subst (λ (c : Command). fault_in (word_of c) (rules_of c) rest ≡ [] → rows ≡ rows_in (rules_of c) rest → AskFor (word_of c ∷ rest) job) (sym e)
    (λ fault are. by_job rest rows job fit fault are of) fault are

by_front : (words : List Text) (name : Text) (rows : List Row) (job : Job) → Front words → list_all is_fit words ≡ true → fault_of rio9_app words ≡ []
    → subcommand_of rio9_app words ≡ Some (name, rows) → JobOf name rows job → AskFor words job
by_front words name rows job (begins command rest) fit fault sub of =
    let same = command_same _ _ _ _ (sym (sub_behind command rest) ∙ sub) in
    let parts = job_of name rows job of in
    by_command command rest rows job (same_command command (command_of job) (sym same.0 ∙ parts.0)) (fit_behind command rest fit) (sym (fault_behind command rest) ∙ fault) same.1 parts.1
by_front words name rows job (other others nothing) fit fault sub of = absurd (nothing (name, rows) fault sub)

pub job_found : (words : List Text) (name : Text) (rows : List Row) (job : Job) → list_all is_fit words ≡ true → fault_of rio9_app words ≡ []
    → subcommand_of rio9_app words ≡ Some (name, rows) → JobOf name rows job → AskFor words job
job_found words name rows job fit fault sub of = by_front words name rows job (front words fit) fit fault sub of

-- ---- from the words to clap's matches

pub record IsTaken (words : List Text) (job : Job) : Type 0 where
  pub fit : list_all is_fit words ≡ true
  pub fault : fault_of rio9_app words ≡ []
  pub name : Text
  pub rows : List Row
  pub sub : subcommand_of rio9_app words ≡ Some (name, rows)
  pub gives : JobOf name rows job

word_fits : (command : Command) → is_fit (word_of command) ≡ true
word_fits replays = refl
word_fits mirrors = refl
word_fits serves = refl
word_fits alones = refl
word_fits texts = refl
word_fits desks = refl
word_fits generates = refl

fits_behind : (command : Command) (rest : List Text) → list_all is_fit rest ≡ true → list_all is_fit (word_of command ∷ rest) ≡ true
fits_behind command rest fit = ap₂ (λ a b. a && b) (word_fits command) fit

-- the words of a command that are taken
by_rest : (rest : List Text) (job : Job) → list_all is_fit rest ≡ true → fault_in (word_of (command_of job)) (rules_of (command_of job)) rest ≡ []
    → JobOf (word_of (command_of job)) (rows_in (rules_of (command_of job)) rest) job → IsTaken (word_of (command_of job) ∷ rest) job
by_rest rest job fit fault of = record {
  fit = fits_behind (command_of job) rest fit;
  fault = fault_behind (command_of job) rest ∙ fault;
  name = word_of (command_of job);
  rows = rows_in (rules_of (command_of job)) rest;
  sub = sub_behind (command_of job) rest;
  gives = of;
}

pub taken : (words : List Text) (job : Job) → AskFor words job → IsTaken words job
taken words (Replay opening screen) asks =
    let got = matched (codes "replay") replay_syntax replay_names asks.rest asks.given asks.gives in
    subst (λ w. IsTaken w (Replay opening screen)) (sym asks.begins)
    (by_rest asks.rest (Replay opening screen) got.0 got.1
    (refl, replay_asked asks.rest (rows_in (rules_of replays) asks.rest) asks.given opening screen asks.gives got.2 asks.opened asks.shown))
taken words (Mirror opening) asks =
    let got = matched (codes "mirror") mirror_syntax mirror_names asks.rest asks.given asks.gives in
    subst (λ w. IsTaken w (Mirror opening)) (sym asks.begins)
    (by_rest asks.rest (Mirror opening) got.0 got.1 (refl, mirror_asked words (rows_in (rules_of mirrors) asks.rest) opening asks got.2))
taken words (Serve opening listen workers conns) asks =
    let got = matched (codes "serve") serve_syntax serve_names asks.rest asks.given asks.gives in
    subst (λ w. IsTaken w (Serve opening listen workers conns)) (sym asks.begins)
    (by_rest asks.rest (Serve opening listen workers conns) got.0 got.1 (refl, serve_asked words (rows_in (rules_of serves) asks.rest) opening (string_bytes listen) workers conns asks got.2))
taken words (Alone opening session) asks =
    let got = matched (codes "alone") alone_syntax alone_names asks.rest asks.given asks.gives in
    subst (λ w. IsTaken w (Alone opening session)) (sym asks.begins)
    (by_rest asks.rest (Alone opening session) got.0 got.1 (refl, alone_asked words (rows_in (rules_of alones) asks.rest) opening session asks got.2))
taken words (Texts columns lines) asks =
    let got = matched (codes "text") text_syntax text_names asks.rest asks.given asks.gives in
    subst (λ w. IsTaken w (Texts columns lines)) (sym asks.begins)
    (by_rest asks.rest (Texts columns lines) got.0 got.1 (refl, text_asked words (rows_in (rules_of texts) asks.rest) columns lines asks got.2))
taken words Desk asks =
    let got = matched (codes "desk") desk_syntax desk_names asks.rest asks.given asks.gives in
    subst (λ w. IsTaken w Desk) (sym asks.begins) (by_rest asks.rest Desk got.0 got.1 refl)
taken words (Gen n) asks =
    let value = counted_value 100000 n asks.word asks.counts in
    let took = leaf_takes (codes "gen") gen_rules gen_optional asks.rest (number_rows asks.word) (alone_run asks.word asks.rest value asks.one) in
    subst (λ w. IsTaken w (Gen n)) (sym asks.begins)
    (by_rest asks.rest (Gen n) (alone_fits asks.word asks.rest (value_fits asks.word value) asks.one) took.0
    (refl, record { text = asks.word; given = ap (first_of (codes "number")) (took.1 ∙ gen_defaults (number_rows asks.word)); counts = asks.counts }))
