-- The program's words: the command in front, and the words that are left to it.
use Rattle.std.proofs.Common.{◌≡◌, ◌∙◌, ℕ, ◌==◌, ◌&&◌, Bool, true, false, true≢false, not, refl, sym, ap, ap₂, subst, List, [], ◌∷◌, ◌++◌, map, codes, Option, Some, None}
use Rattle.std.specs.Prelude.{if◌then◌else◌}
use Rattle.std.specs.List.{fold, list_all, list_any}
use Rattle.std.specs.Option.{is_some}
use Rattle.std.specs.Str.{bytes_eq}
use Rattle.std.proofs.lemmas.Slice.Eq.{bytes_eq-Decides}
use Rattle.clap.specs.Walk.{Held, Names, Row, Rule, Text, Walk, finished, idle, nothing_held, rows_after, settled, subcommand_met, subcommand_or_other, walked, with_default}
use Rattle.clap.specs.Simple.{App, Shape, built, entered, new_rule, subcommand_of, names_of}
use Rattle.clap.specs.Kinds.{Kinds, or_else}
use Rattle.clap.specs.Takes.{is_given}
use Rattle.clap.specs.Faults.{check_fault, defaults_fault, entered_fault, fault_of, level_fault, other_fault, settle_fault, step_fault, turn_fault, walk_fault}
use Rattle.clap.specs.declared.builder.action.ArgAction.TheVariants.{Set}
use Rattle.clap.specs.declared.builder.value_parser.ValueParser.TheVariants as parser
use Rattle.clap.proofs.WalkLemmas.{walk_stopped}
use Rattle.clap.proofs.FaultLemmas.{stopped_fault}
use Rattle.clap.specs.declared.error.kind.ErrorKind.TheVariants as kind
use Rattle.clap.specs.declared.error.kind.ErrorKind.{ErrorKind}
use Rattle.model_history.specs.words.Options.{Syntax, ending, dashed}
use Rattle.model_history.specs.words.Commands.{alone_syntax, desk_syntax, mirror_syntax, replay_syntax, serve_syntax, text_syntax}
use Rattle.r9_opts.specs.App.{rio9_app}
use Rattle.r9_opts.specs.Fit.{is_fit}
use Rattle.r9_opts.proofs.Walks.{View, ends, long, plain, view, at, built_flag, built_valued, goes_on, leaf, no_short, run}
use Rattle.r9_opts.proofs.Options.{both, none_some, some_inj}

-- ---- one command

goes_on_in_turn : {A : Type 0} (first second third : Kinds) (next : Option A) → goes_on first (goes_on (or_else second third) next) ≡ goes_on (or_else (or_else first second) third) next
goes_on_in_turn [] second third next = refl
goes_on_in_turn (k ∷ ks) second third next = refl

or_nothing : (kinds : Kinds) → or_else kinds [] ≡ kinds
or_nothing [] = refl
or_nothing (k ∷ ks) = refl

or_both : (first second : Kinds) → or_else first second ≡ [] → (first ≡ []) × (second ≡ [])
or_both [] second e = (refl, e)
or_both (k ∷ ks) second e = absurd (true≢false (ap (λ (ks : Kinds). elim ks as (λ _. Bool) [ [] ↦ false | ◌∷◌ _ _ ↦ true ]) e))

goes_on_some : {A : Type 0} (kinds : Kinds) (x y : A) → goes_on kinds (Some x) ≡ Some y → (kinds ≡ []) × (x ≡ y)
goes_on_some [] x y e = (refl, some_inj e)
goes_on_some (k ∷ ks) x y e = none_some y e

-- a run, as clap has it in two parts
run_is : (s : Shape) (w : Walk) (words : List Text)
    → run s w words ≡ goes_on (or_else (walk_fault s [] w words) (settle_fault s.rules s.args_override_self (fold (walked s.rules []) w words).held)) (Some (settled s.rules (fold (walked s.rules []) w words).held).rows)
unfolding run walk_fault
run_is s w [] = refl
run_is s w (word ∷ words) =
    ap (goes_on (turn_fault s [] w word)) (run_is s (walked s.rules [] w word) words)
    ∙ goes_on_in_turn (turn_fault s [] w word) (walk_fault s [] (walked s.rules [] w word) words) (settle_fault s.rules s.args_override_self (fold (walked s.rules []) (walked s.rules [] w word) words).held) (Some (settled s.rules (fold (walked s.rules []) (walked s.rules [] w word) words).held).rows)

-- the rules have defaults that pass, and none is required
pub record IsOptional (c : List Rule) : Type 0 where
  pub defaults : (rows : List Row) → defaults_fault rows c ≡ []
  pub free : (rows : List Row) → list_any (λ a. a.required && not (is_given a.id rows)) c ≡ false

abbrev pub start : Walk
start = at [] None idle false

abbrev pub run_of : Text → List Rule → List Text → Option (List Row)
run_of name c words = run (leaf name c) start words

abbrev pub fault_in : Text → List Rule → List Text → Kinds
fault_in name c words = level_fault (leaf name c) [] nothing_held words false []

abbrev pub rows_in : List Rule → List Text → List Row
rows_in c words = rows_after c [] words

abbrev pub with_defaults : List Rule → List Row → List Row
with_defaults c rows = fold with_default rows c

module _ (name : Text) (c : List Rule) (optional : IsOptional c) where
  abbrev end : List Text → Held
  end words = (fold (walked c []) start words).held

  abbrev faults : List Text → Kinds
  faults words = or_else (walk_fault (leaf name c) [] start words) (settle_fault c false (end words))

  level_is : (words : List Text) → fault_in name c words ≡ faults words
  level_is words =
      ap₂ (λ (d : Kinds) (b : Bool). or_else (walk_fault (leaf name c) [] start words) (or_else (settle_fault c false (end words)) (or_else d (if b then kind.MissingRequiredArgument ∷ [] else []))))
      (optional.defaults (settled c (end words)).rows) (optional.free (finished c (end words)))
      ∙ ap (or_else (walk_fault (leaf name c) [] start words)) (or_nothing (settle_fault c false (end words)))

  pub leaf_takes : (words : List Text) (rows : List Row) → run_of name c words ≡ Some rows → (fault_in name c words ≡ []) × (rows_in c words ≡ with_defaults c rows)
  leaf_takes words rows e =
      let two = goes_on_some (faults words) (settled c (end words)).rows rows (sym (run_is (leaf name c) start words) ∙ e) in
      (level_is words ∙ two.0, ap (with_defaults c) two.1)

  pub leaf_took : (words : List Text) → fault_in name c words ≡ [] → (rows : List Row) × (run_of name c words ≡ Some rows) × (rows_in c words ≡ with_defaults c rows)
  leaf_took words e =
      ((settled c (end words)).rows, run_is (leaf name c) start words ∙ ap (λ k. goes_on k (Some (settled c (end words)).rows)) (sym (level_is words) ∙ e), refl)

-- ---- the commands as they are built

abbrev pub built_word : Text → Rule
built_word name = record (new_rule name) {
  action = Some Set;
  index = Some 1;
  range = Some (record { start_inclusive = 1; end_inclusive = 1 });
  parser = Some parser.String;
}

-- the rules of the options that a command takes
abbrev pub rules_with : Syntax → List Rule
rules_with syntax = map built_valued syntax.valued ++ map built_flag syntax.flags

abbrev pub gen_rules : List Rule
gen_rules = built_word (codes "number") ∷ []

pub data Command : Type 0 where
  replays : Command
  mirrors : Command
  serves : Command
  alones : Command
  texts : Command
  desks : Command
  generates : Command

abbrev pub word_of : Command → Text
word_of replays = codes "replay"
word_of mirrors = codes "mirror"
word_of serves = codes "serve"
word_of alones = codes "alone"
word_of texts = codes "text"
word_of desks = codes "desk"
word_of generates = codes "gen"

abbrev pub rules_of : Command → List Rule
rules_of replays = rules_with replay_syntax
rules_of mirrors = rules_with mirror_syntax
rules_of serves = rules_with serve_syntax
rules_of alones = rules_with alone_syntax
rules_of texts = rules_with text_syntax
rules_of desks = rules_with desk_syntax
rules_of generates = gen_rules

abbrev leaf_of : Command → Shape
leaf_of command = leaf (word_of command) (rules_of command)

abbrev top : Shape
top = record (leaf (codes "rio9") []) { is_leaf = false }

abbrev built_app : App
built_app = record {
  top = top;
  subs = leaf_of replays ∷ leaf_of mirrors ∷ leaf_of serves ∷ leaf_of alones ∷ leaf_of texts ∷ leaf_of desks ∷ leaf_of generates ∷ [];
}

app_is : built rio9_app ≡ built_app
app_is = refl

-- ---- the first word

abbrev names : Names
names = names_of built_app

abbrev Stop : Type 0
Stop = Option (Text × List Text)

abbrev stopped : Text → List Text → Walk
stopped name words = record start { stopped = Some (name, words) }

-- the fault of words whose command was met
abbrev top_fault : Kinds → Walk → Kinds
top_fault walked_fault w =
    let stop = w.stopped in
    or_else walked_fault (or_else (entered_fault built_app stop) (or_else (settle_fault [] false w.held)
    (or_else (defaults_fault (settled [] w.held).rows []) (check_fault top (finished [] w.held) (is_some (entered built_app stop))))))

fault_is : (words : List Text) → fault_of rio9_app words ≡ top_fault (walk_fault top names start words) (fold (walked [] names) start words)
fault_is words = refl

sub_is : (words : List Text) → subcommand_of rio9_app words ≡ entered built_app (fold (walked [] names) start words).stopped
sub_is words = refl

entered_is : (command : Command) (rest : List Text) → top_fault [] (stopped (word_of command) rest) ≡ fault_in (word_of command) (rules_of command) rest
unfolding defaults_fault
entered_is replays rest = or_nothing (fault_in (word_of replays) (rules_of replays) rest)
entered_is mirrors rest = or_nothing (fault_in (word_of mirrors) (rules_of mirrors) rest)
entered_is serves rest = or_nothing (fault_in (word_of serves) (rules_of serves) rest)
entered_is alones rest = or_nothing (fault_in (word_of alones) (rules_of alones) rest)
entered_is texts rest = or_nothing (fault_in (word_of texts) (rules_of texts) rest)
entered_is desks rest = or_nothing (fault_in (word_of desks) (rules_of desks) rest)
entered_is generates rest = or_nothing (fault_in (word_of generates) (rules_of generates) rest)

rows_are : (command : Command) (rest : List Text) → entered built_app (Some (word_of command, rest)) ≡ Some (word_of command, rows_in (rules_of command) rest)
rows_are replays rest = refl
rows_are mirrors rest = refl
rows_are serves rest = refl
rows_are alones rest = refl
rows_are texts rest = refl
rows_are desks rest = refl
rows_are generates rest = refl

walked_is : (command : Command) → walked [] names start (word_of command) ≡ stopped (word_of command) []
unfolding walked
walked_is replays = refl
walked_is mirrors = refl
walked_is serves = refl
walked_is alones = refl
walked_is texts = refl
walked_is desks = refl
walked_is generates = refl

no_fault : (command : Command) → turn_fault top names start (word_of command) ≡ []
no_fault replays = refl
no_fault mirrors = refl
no_fault serves = refl
no_fault alones = refl
no_fault texts = refl
no_fault desks = refl
no_fault generates = refl

-- behind a command the walk only keeps the words
walk_behind : (command : Command) (rest : List Text)
    → (walk_fault top names start (word_of command ∷ rest) ≡ []) × (◌≡◌ {A = Walk} (fold (walked [] names) start (word_of command ∷ rest)) (stopped (word_of command) rest))
unfolding walk_fault
walk_behind command rest = (
  ap₂ (λ k w. or_else k (walk_fault top names w rest)) (no_fault command) (walked_is command) ∙ stopped_fault top names start (word_of command, []) rest,
  ap (λ w. fold (walked [] names) w rest) (walked_is command) ∙ sym (walk_stopped [] names start (word_of command) [] rest),
)

-- a command in front, and the words behind it
pub fault_behind : (command : Command) (rest : List Text) → fault_of rio9_app (word_of command ∷ rest) ≡ fault_in (word_of command) (rules_of command) rest
fault_behind command rest = let behind = walk_behind command rest in ap₂ top_fault behind.0 behind.1 ∙ entered_is command rest

pub sub_behind : (command : Command) (rest : List Text) → subcommand_of rio9_app (word_of command ∷ rest) ≡ Some (word_of command, rows_in (rules_of command) rest)
sub_behind command rest = ap (λ (w : Walk). entered built_app w.stopped) (walk_behind command rest).1 ∙ rows_are command rest

-- ---- words that begin with no command

-- clap refuses the words, or enters no command
abbrev pub IsNothing : List Text → Type 0
IsNothing words = (command : Text × List Row) → fault_of rio9_app words ≡ [] → subcommand_of rio9_app words ≡ Some command → ⊥

not_nothing : {A : Type 0} (k : ErrorKind) (ks : Kinds) → k ∷ ks ≡ [] → A
not_nothing k ks e = absurd (true≢false (ap (λ (ks : Kinds). elim ks as (λ _. Bool) [ [] ↦ false | ◌∷◌ _ _ ↦ true ]) e))

-- the words pass the walk where clap gives no fault
walk_passes : (words : List Text) → fault_of rio9_app words ≡ [] → walk_fault top names start words ≡ []
walk_passes words e = (or_both (walk_fault top names start words) _ (sym (fault_is words) ∙ e)).0

first_passes : (word : Text) (words : List Text) → fault_of rio9_app (word ∷ words) ≡ [] → turn_fault top names start word ≡ []
unfolding walk_fault
first_passes word words e = (or_both (turn_fault top names start word) _ (walk_passes (word ∷ words) e)).0

-- the turn of a first word, by whether it is met as a command
abbrev turn_by : Option Text → Text → Kinds
turn_by met word =
    or_else (other_fault top met word nothing_held) (step_fault top 1 (subcommand_or_other [] met idle 1 word nothing_held).0 (subcommand_or_other [] met idle 1 word nothing_held).1)

turn_is : (word : Text) (met : Option Text) → subcommand_met names idle word ≡ met → turn_fault top names start word ≡ turn_by met word
turn_is word met e = ap (λ m. turn_by m word) e

no_words : IsNothing []
no_words command fault sub = none_some command (sym (sub_is []) ∙ sub)

abbrev trailing : Walk
trailing = at [] None idle true

ending_first : (words : List Text) → IsNothing (ending ∷ words)
unfolding walk_fault walked
ending_first [] command fault sub = none_some command (sym (sub_is (ending ∷ [])) ∙ sub)
ending_first (word ∷ words) command fault sub =
    not_nothing _ _ (or_both (turn_fault top names trailing word) (walk_fault top names (walked [] names trailing word) words) (walk_passes (ending ∷ word ∷ words) fault)).0

long_first : (x : ℕ) (xs : Text) (words : List Text) → subcommand_met names idle (dashed (x ∷ xs)) ≡ None → IsNothing (dashed (x ∷ xs) ∷ words)
long_first x xs words unmet command fault sub = not_nothing _ _ (sym (turn_is (dashed (x ∷ xs)) None unmet) ∙ first_passes (dashed (x ∷ xs)) words fault)

plain_turn : (x : ℕ) (xs : Text) → (x == 45) ≡ false → turn_by None (x ∷ xs) ≡ kind.UnknownArgument ∷ kind.InvalidSubcommand ∷ []
plain_turn x xs none = rw none (rw (no_short x xs none) refl)

plain_first : (x : ℕ) (xs : Text) (words : List Text) → (x == 45) ≡ false → subcommand_met names idle (x ∷ xs) ≡ None → IsNothing ((x ∷ xs) ∷ words)
plain_first x xs words none unmet command fault sub = not_nothing _ _ (sym (turn_is (x ∷ xs) None unmet ∙ plain_turn x xs none) ∙ first_passes (x ∷ xs) words fault)

nothing_first : (word : Text) (words : List Text) → View word → subcommand_met names idle word ≡ None → IsNothing (word ∷ words)
nothing_first word words ends unmet = ending_first words
nothing_first word words (long x xs) unmet = long_first x xs words unmet
nothing_first word words (plain x xs none) unmet = plain_first x xs words none unmet

-- what words begin with
pub data Front : List Text → Type 0 where
  begins : (command : Command) (rest : List Text) → Front (word_of command ∷ rest)
  other : (words : List Text) → IsNothing words → Front words

abbrev pub is_word : Command → Text → Bool
is_word command word = bytes_eq (word_of command) word

pub front : (words : List Text) → list_all is_fit words ≡ true → Front words
front [] fit = other [] no_words
front (word ∷ rest) fit =
    go (is_word replays word) (is_word mirrors word) (is_word serves word) (is_word alones word) (is_word texts word) (is_word desks word) (is_word generates word)
    refl refl refl refl refl refl refl
  where
    same : (command : Command) → is_word command word ≡ true → Front (word ∷ rest)
    same command e = subst (λ (w : Text). Front (w ∷ rest)) ((bytes_eq-Decides (word_of command) word).0 e) (begins command rest)

    go : (p m q r s t u : Bool) → is_word replays word ≡ p → is_word mirrors word ≡ m → is_word serves word ≡ q → is_word alones word ≡ r → is_word texts word ≡ s → is_word desks word ≡ t
        → is_word generates word ≡ u → Front (word ∷ rest)
    go true m q r s t u e d f g h i j = same replays e
    go false true q r s t u e d f g h i j = same mirrors d
    go false false true r s t u e d f g h i j = same serves f
    go false false false true s t u e d f g h i j = same alones g
    go false false false false true t u e d f g h i j = same texts h
    go false false false false false true u e d f g h i j = same desks i
    go false false false false false false true e d f g h i j = same generates j
    go false false false false false false false e d f g h i j =
        other (word ∷ rest) (nothing_first word rest (view word (both _ _ fit).0) (rw e (rw d (rw f (rw g (rw h (rw i (rw j refl))))))))
