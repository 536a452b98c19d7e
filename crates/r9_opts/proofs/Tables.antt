-- The options of each command: their names, their rules and their defaults.
use Rattle.std.proofs.Common.{◌≡◌, ◌∙◌, ℕ, ◌&&◌, ◌||◌, Bool, true, false, true≢false, not, refl, sym, ap, ap₂, subst, List, [], ◌∷◌, ◌++◌, map, codes, Some, None, cond}
use Rattle.std.specs.Prelude.{option_and_then, slice_get}
use Rattle.std.specs.List.{find, list_any}
use Rattle.std.specs.Str.{bytes_eq}
use Rattle.std.proofs.lemmas.Slice.Eq.{bytes_eq-Decides}
use Rattle.clap.specs.Walk.{Row, Rule, Text, arg_by_id, arg_by_index, arg_by_long, first_of, has_row, one_of, with_default, with_values}
use Rattle.clap.specs.Faults.{default_fault, defaults_fault, given_default_fault}
use Rattle.clap.specs.Kinds.{or_else}
use Rattle.clap.specs.Takes.{is_given}
use Rattle.clap.specs.declared.builder.value_parser.Reading.TheVariants as reading
use Rattle.clap.specs.declared.parser.matches.ValueSource.TheVariants as source
use Rattle.model_history.specs.words.Options.{Syntax, is_among}
use Rattle.model_history.specs.words.Commands.{alone_syntax, desk_syntax, mirror_syntax, replay_syntax, serve_syntax, text_syntax}
use Rattle.r9_opts.proofs.Walks.{IsTable, built_flag, built_valued}
use Rattle.r9_opts.proofs.Options.{IsNamed, IsSyntax, has_sign, or_false}
use Rattle.r9_opts.proofs.Levels.{IsOptional, built_word, gen_rules, rules_with, with_defaults}

-- ---- names

abbrev pub EachOf : (Text → Type 0) → List Text → Type 0
EachOf P [] = Unit {0}
EachOf P (name ∷ names) = P name × EachOf P names

-- what holds of each name holds of one among them
pub each : (P : Text → Type 0) (names : List Text) → EachOf P names → (name : Text) → is_among name names ≡ true → P name
each P [] all name e = absurd (true≢false (sym e))
each P (first ∷ names) all name e = go (each P names all.1 name) (bytes_eq first name) refl e
  where
    go : (is_among name names ≡ true → P name) → (b : Bool) → bytes_eq first name ≡ b → (b || is_among name names) ≡ true → P name
    go rest true same e = subst P ((bytes_eq-Decides first name).0 same) all.0
    go rest false other e = rest e

named : (first : ℕ) (rest : Text) → has_sign (first ∷ rest) ≡ false → IsNamed (first ∷ rest)
named first rest none = record { first = first; rest = rest; is = refl; no_sign = none }

size : IsNamed (codes "size")
size = named _ _ refl

chan : IsNamed (codes "chan")
chan = named _ _ refl

screen : IsNamed (codes "screen")
screen = named _ _ refl

listen : IsNamed (codes "listen")
listen = named _ _ refl

workers : IsNamed (codes "workers")
workers = named _ _ refl

conns : IsNamed (codes "conns")
conns = named _ _ refl

conn : IsNamed (codes "conn")
conn = named _ _ refl

cols : IsNamed (codes "cols")
cols = named _ _ refl

lines : IsNamed (codes "rows")
lines = named _ _ refl

pub replay_names : IsSyntax replay_syntax
replay_names = record {
  apart = each (λ name. is_among name replay_syntax.flags ≡ false) replay_syntax.valued (refl, (refl, tt));
  flags = each IsNamed replay_syntax.flags (screen, tt);
  valued = each IsNamed replay_syntax.valued (size, (chan, tt));
}

pub serve_names : IsSyntax serve_syntax
serve_names = record {
  apart = λ name _. refl;
  flags = λ name e. absurd (true≢false (sym e));
  valued = each IsNamed serve_syntax.valued (size, (chan, (listen, (workers, (conns, tt)))));
}

pub mirror_names : IsSyntax mirror_syntax
mirror_names = record {
  apart = λ name _. refl;
  flags = λ name e. absurd (true≢false (sym e));
  valued = each IsNamed mirror_syntax.valued (size, (chan, tt));
}

pub alone_names : IsSyntax alone_syntax
alone_names = record {
  apart = λ name _. refl;
  flags = λ name e. absurd (true≢false (sym e));
  valued = each IsNamed alone_syntax.valued (size, (chan, (conn, tt)));
}

pub text_names : IsSyntax text_syntax
text_names = record {
  apart = λ name _. refl;
  flags = λ name e. absurd (true≢false (sym e));
  valued = each IsNamed text_syntax.valued (cols, (lines, tt));
}

pub desk_names : IsSyntax desk_syntax
desk_names = record {
  apart = λ name _. refl;
  flags = λ name e. absurd (true≢false (sym e));
  valued = λ name e. absurd (true≢false (sym e));
}

-- ---- rules

-- the rules of options with values, before others
abbrev before : List Text → List Rule → List Rule
before names c = map built_valued names ++ c

long_behind : (names : List Text) (c : List Rule) (name : Text) → is_among name names ≡ false → arg_by_long (before names c) name ≡ arg_by_long c name
long_behind [] c name none = refl
long_behind (first ∷ names) c name none = let two = or_false (bytes_eq first name) (is_among name names) none in rw two.0 (long_behind names c name two.1)

long_among : (names : List Text) (c : List Rule) (name : Text) → is_among name names ≡ true → arg_by_long (before names c) name ≡ Some (built_valued name)
long_among [] c name e = absurd (true≢false (sym e))
long_among (first ∷ names) c name e = go (long_among names c name) (bytes_eq first name) refl e
  where
    go : (is_among name names ≡ true → arg_by_long (before names c) name ≡ Some (built_valued name)) → (b : Bool) → bytes_eq first name ≡ b → (b || is_among name names) ≡ true → arg_by_long (before (first ∷ names) c) name ≡ Some (built_valued name)
    go rest true same e = rw same (ap (λ n. Some (built_valued n)) ((bytes_eq-Decides first name).0 same))
    go rest false other e = rw other (rest e)

id_among : (names : List Text) (c : List Rule) (name : Text) → is_among name names ≡ true → arg_by_id (before names c) name ≡ Some (built_valued name)
id_among [] c name e = absurd (true≢false (sym e))
id_among (first ∷ names) c name e = go (id_among names c name) (bytes_eq first name) refl e
  where
    go : (is_among name names ≡ true → arg_by_id (before names c) name ≡ Some (built_valued name)) → (b : Bool) → bytes_eq first name ≡ b → (b || is_among name names) ≡ true → arg_by_id (before (first ∷ names) c) name ≡ Some (built_valued name)
    go rest true same e = rw same (ap (λ n. Some (built_valued n)) ((bytes_eq-Decides first name).0 same))
    go rest false other e = rw other (rest e)

no_flag : (names : List Text) (name : Text) → is_among name names ≡ false → arg_by_long (map built_flag names) name ≡ None
no_flag [] name none = refl
no_flag (first ∷ names) name none = let two = or_false (bytes_eq first name) (is_among name names) none in rw two.0 (no_flag names name two.1)

flag_among : (names : List Text) (name : Text) → is_among name names ≡ true → arg_by_long (map built_flag names) name ≡ Some (built_flag name)
flag_among [] name e = absurd (true≢false (sym e))
flag_among (first ∷ names) name e = go (flag_among names name) (bytes_eq first name) refl e
  where
    go : (is_among name names ≡ true → arg_by_long (map built_flag names) name ≡ Some (built_flag name)) → (b : Bool) → bytes_eq first name ≡ b → (b || is_among name names) ≡ true → arg_by_long (map built_flag (first ∷ names)) name ≡ Some (built_flag name)
    go rest true same e = rw same (ap (λ n. Some (built_flag n)) ((bytes_eq-Decides first name).0 same))
    go rest false other e = rw other (rest e)

no_index : (valued flags : List Text) → arg_by_index (before valued (map built_flag flags)) 1 ≡ None
no_index [] [] = refl
no_index [] (name ∷ flags) = no_index [] flags
no_index (name ∷ valued) flags = no_index valued flags

-- a flag's name is that of no option with a value
not_valued : (syntax : Syntax) → IsSyntax syntax → (name : Text) → is_among name syntax.flags ≡ true → is_among name syntax.valued ≡ false
not_valued syntax is name flag = go (is_among name syntax.valued) refl
  where
    go : (b : Bool) → is_among name syntax.valued ≡ b → b ≡ false
    go true e = absurd (true≢false (sym flag ∙ is.apart name e))
    go false e = refl

pub table : (syntax : Syntax) → IsSyntax syntax → IsTable (rules_with syntax) syntax
table syntax is = record {
  flag = λ name e. long_behind syntax.valued (map built_flag syntax.flags) name (not_valued syntax is name e) ∙ flag_among syntax.flags name e;
  valued = λ name _ e. long_among syntax.valued (map built_flag syntax.flags) name e;
  other = λ name f v. long_behind syntax.valued (map built_flag syntax.flags) name v ∙ no_flag syntax.flags name f;
  by_id = λ name e. id_among syntax.valued (map built_flag syntax.flags) name e;
  no_index = no_index syntax.valued syntax.flags;
}

-- ---- defaults

no_default : (rows : List Row) (name : Text) → default_fault rows (built_valued name) ≡ []
no_default rows name = go (has_row name rows)
  where
    go : (b : Bool) → cond (b || true) [] (given_default_fault (built_valued name) []) ≡ []
    go true = refl
    go false = refl

flag_default : (rows : List Row) (name : Text) → default_fault rows (built_flag name) ≡ []
flag_default rows name = go (has_row name rows)
  where
    go : (b : Bool) → cond (b || false) [] (given_default_fault (built_flag name) (codes "false" ∷ [])) ≡ []
    go true = refl
    go false = refl

word_default : (rows : List Row) (name : Text) → default_fault rows (built_word name) ≡ []
word_default rows name = go (has_row name rows)
  where
    go : (b : Bool) → cond (b || true) [] (given_default_fault (built_word name) []) ≡ []
    go true = refl
    go false = refl

-- the defaults of these rules pass, whatever has been given
abbrev Passes : List Rule → Type 0
Passes c = (rows : List Row) → defaults_fault rows c ≡ []

no_rules : Passes []
unfolding defaults_fault
no_rules rows = refl

with_valued : (name : Text) (c : List Rule) → Passes c → Passes (built_valued name ∷ c)
unfolding defaults_fault
with_valued name c passes rows = ap₂ or_else (no_default rows name) (passes (with_default rows (built_valued name)))

with_one_flag : (name : Text) (c : List Rule) → Passes c → Passes (built_flag name ∷ c)
unfolding defaults_fault
with_one_flag name c passes rows = ap₂ or_else (flag_default rows name) (passes (with_default rows (built_flag name)))

with_word : (name : Text) (c : List Rule) → Passes c → Passes (built_word name ∷ c)
unfolding defaults_fault
with_word name c passes rows = ap₂ or_else (word_default rows name) (passes (with_default rows (built_word name)))

all_pass : (valued flags : List Text) → Passes (before valued (map built_flag flags))
all_pass [] [] = no_rules
all_pass [] (name ∷ flags) = with_one_flag name (map built_flag flags) (all_pass [] flags)
all_pass (name ∷ valued) flags = with_valued name (before valued (map built_flag flags)) (all_pass valued flags)

all_free : (rows : List Row) (valued flags : List Text) → list_any (λ a. a.required && not (is_given a.id rows)) (before valued (map built_flag flags)) ≡ false
all_free rows [] [] = refl
all_free rows [] (name ∷ flags) = all_free rows [] flags
all_free rows (name ∷ valued) flags = all_free rows valued flags

pub optional : (syntax : Syntax) → IsOptional (rules_with syntax)
optional syntax = record { defaults = all_pass syntax.valued syntax.flags; free = λ rows. all_free rows syntax.valued syntax.flags }

pub gen_optional : IsOptional gen_rules
gen_optional = record { defaults = with_word (codes "number") _ no_rules; free = λ rows. refl }

valued_kept : (rows : List Row) (name : Text) → with_default rows (built_valued name) ≡ rows
valued_kept rows name = go (has_row name rows)
  where
    go : (b : Bool) → cond b rows rows ≡ rows
    go true = refl
    go false = refl

word_kept : (rows : List Row) (name : Text) → with_default rows (built_word name) ≡ rows
word_kept rows name = go (has_row name rows)
  where
    go : (b : Bool) → cond b rows rows ≡ rows
    go true = refl
    go false = refl

abbrev pub with_flag : Text → List Row → List Row
with_flag name rows = with_default rows (built_flag name)

-- options with values have no default
pub defaults_behind : (names : List Text) (c : List Rule) (rows : List Row) → with_defaults (before names c) rows ≡ with_defaults c rows
defaults_behind [] c rows = refl
defaults_behind (name ∷ names) c rows = ap (with_defaults (before names c)) (valued_kept rows name) ∙ defaults_behind names c rows

pub gen_defaults : (rows : List Row) → with_defaults gen_rules rows ≡ rows
gen_defaults rows = word_kept rows (codes "number")

-- ---- a flag that was not given

abbrev unset : Text → Row
unset name = record { id = name; values = codes "false" ∷ []; count = None; source = Some source.DefaultValue; reading = reading.AsWritten }

added : (name : Text) (rows : List Row) → has_row name rows ≡ false → with_values name reading.AsWritten source.DefaultValue (codes "false" ∷ []) rows ≡ rows ++ unset name ∷ []
added name [] none = refl
added name (r ∷ rows) none =
    let two = or_false (bytes_eq r.id name) (has_row name rows) none in
    rw two.0 (ap (λ rs. r ∷ rs) (added name rows two.1))

pub flag_set : (name : Text) (rows : List Row) → has_row name rows ≡ true → with_flag name rows ≡ rows
flag_set name rows has = rw has refl

flag_unset : (name : Text) (rows : List Row) → has_row name rows ≡ false → with_flag name rows ≡ rows ++ unset name ∷ []
flag_unset name rows none = rw none (added name rows none)

-- it reads as false
pub unset_reads : (name : Text) (rows : List Row) → has_row name rows ≡ false → one_of name (with_flag name rows) ≡ Some (codes "false")
unset_reads name rows none = ap (one_of name) (flag_unset name rows none) ∙ go rows none
  where
    go : (rows : List Row) → has_row name rows ≡ false → one_of name (rows ++ unset name ∷ []) ≡ Some (codes "false")
    go [] none = let same : bytes_eq name name ≡ true = (bytes_eq-Decides name name).1 refl in rw same refl
    go (r ∷ rows) none = let two = or_false (bytes_eq r.id name) (has_row name rows) none in rw two.0 (go rows two.1)

-- and other options are as before
other_stays : (name other : Text) → bytes_eq other name ≡ false → (rows : List Row) → first_of name (rows ++ unset other ∷ []) ≡ first_of name rows
other_stays name other apart [] = rw apart refl
other_stays name other apart (r ∷ rows) = go (bytes_eq r.id name) (other_stays name other apart rows)
  where
    go : (b : Bool) → first_of name (rows ++ unset other ∷ []) ≡ first_of name rows
        → option_and_then (λ (r : Row). slice_get r.values 0) (cond b (Some r) (find (λ (r : Row). bytes_eq r.id name) (rows ++ unset other ∷ []))) ≡ option_and_then (λ (r : Row). slice_get r.values 0) (cond b (Some r) (find (λ (r : Row). bytes_eq r.id name) rows))
    go true rest = refl
    go false rest = rest

pub flag_apart : (name other : Text) → bytes_eq other name ≡ false → (rows : List Row) → first_of name (with_flag other rows) ≡ first_of name rows
flag_apart name other apart rows = go (has_row other rows) refl
  where
    go : (b : Bool) → has_row other rows ≡ b → first_of name (with_flag other rows) ≡ first_of name rows
    go true e = ap (first_of name) (flag_set other rows e)
    go false e = ap (first_of name) (flag_unset other rows e) ∙ other_stays name other apart rows
