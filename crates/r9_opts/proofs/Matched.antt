-- What the words of each command ask for, and what its matches give.
use Rattle.std.proofs.Common.{◌≡◌, ◌∙◌, ℕ, Bool, true, false, true≢false, refl, sym, ap, subst, List, [], ◌∷◌, map, codes, Option, Some}
use Rattle.std.specs.Prelude.{if◌then◌else◌}
use Rattle.std.specs.List.{list_all}
use Rattle.std.specs.Str.{bytes_eq}
use Rattle.clap.specs.Walk.{Row, Rule, Text, first_of, one_of}
use Rattle.r9_event.specs.declared.event.event.Opening.{Opening}
use Rattle.model_history.specs.words.Options.{Given, Syntax, GivesOptions, has_flag, is_allowed, is_among, or, value_of}
use Rattle.model_history.specs.words.Values.{IsOpening, counted}
use Rattle.model_history.specs.words.Commands.{AsksForAlone, AsksForDesk, AsksForMirror, AsksForOpening, AsksForReplay, AsksForText, AsksToServe, GivesNumber, alone_syntax, desk_syntax, mirror_syntax, replay_syntax, serve_syntax, text_syntax}
use Rattle.r9_opts.specs.Fit.{is_fit}
use Rattle.r9_opts.specs.Rows.{IsAloneOf, IsDisplay, IsNumberOf, IsReplayOf, IsServeOf, IsTextOf, Tells}
use Rattle.r9_opts.proofs.Walks.{built_flag, reads}
use Rattle.r9_opts.proofs.Options.{IsSyntax, gives, row_of, some_inj}
use Rattle.r9_opts.proofs.Given.{all_fit, all_fresh, different, flag_reads, flag_row, given_read, value_is}
use Rattle.r9_opts.proofs.Levels.{fault_in, leaf_takes, leaf_took, rows_in, rules_with, with_defaults}
use Rattle.r9_opts.proofs.Tables.{defaults_behind, each, flag_apart, flag_set, optional, table, unset_reads, with_flag}

-- ---- a command with options

-- the matches are those of the options that the words give
pub record Matches (syntax : Syntax) (words : List Text) (rows : List Row) : Type 0 where
  pub given : List Given
  pub gives : GivesOptions syntax given words
  pub are : rows ≡ with_defaults (rules_with syntax) (map row_of given)

module _ (name : Text) (syntax : Syntax) (is : IsSyntax syntax) where
  abbrev c : List Rule
  c = rules_with syntax

  -- where clap finds no fault the words give options
  pub matches : (words : List Text) → list_all is_fit words ≡ true → fault_in name c words ≡ [] → Matches syntax words (rows_in c words)
  matches words fit e =
      let took = leaf_took name c (optional syntax) words e in
      let found = gives syntax words fit in
      let got = found.0 [] took.0 (sym ((reads name c syntax (table syntax is) words fit).0 []) ∙ took.1) in
      record {
        given = got.given;
        gives = record { spelled = got.spelled; allowed = got.allowed; once = (different [] got.given got.fresh).0 };
        are = took.2 ∙ ap (with_defaults c) got.are;
      }

  -- and where words give options clap finds no fault
  pub matched : (words : List Text) (given : List Given) → GivesOptions syntax given words
      → (list_all is_fit words ≡ true) × (fault_in name c words ≡ []) × (rows_in c words ≡ with_defaults c (map row_of given))
  matched words given options =
      let fit = all_fit syntax is given words options.spelled options.allowed in
      let found = given_read syntax is [] given words options.spelled options.allowed (all_fresh given options.once) in
      let takes = leaf_takes name c (optional syntax) words (map row_of given) ((reads name c syntax (table syntax is) words fit).0 [] ∙ found) in
      (fit, takes.0, takes.1)

-- the syntax of options with values alone
abbrev valued_syntax : List Text → Syntax
valued_syntax names = record { flags = []; valued = names }

-- ---- replay

other_flag : (name other : Text) → bytes_eq (codes "screen") name ≡ false → is_among other replay_syntax.flags ≡ true → bytes_eq other name ≡ false
other_flag name other apart e = each (λ other. bytes_eq other name ≡ false) replay_syntax.flags (apart, tt) other e

abbrev screen_rule : List Rule
screen_rule = built_flag (codes "screen") ∷ []

replay_value : (name : Text) (given : List Given) (rows : List Row) → bytes_eq (codes "screen") name ≡ false → list_all (is_allowed replay_syntax) given ≡ true
    → rows ≡ with_defaults (rules_with replay_syntax) (map row_of given) → first_of name rows ≡ value_of name given
replay_value name given rows apart allowed e =
    ap (first_of name) (e ∙ defaults_behind replay_syntax.valued screen_rule (map row_of given)) ∙ flag_apart name (codes "screen") apart (map row_of given)
    ∙ value_is replay_syntax name (λ other. other_flag name other apart) given allowed

-- the display, by options or by matches
opened_as : (a b x y : Option Text) (opening : Opening) → a ≡ x → b ≡ y → IsOpening (or a (codes "640x480")) (or b (codes "x8r8g8b8")) opening → IsOpening (or x (codes "640x480")) (or y (codes "x8r8g8b8")) opening
opened_as a b x y opening e f is =
    subst (λ t. IsOpening (or x (codes "640x480")) (or t (codes "x8r8g8b8")) opening) f (subst (λ s. IsOpening (or s (codes "640x480")) (or b (codes "x8r8g8b8")) opening) e is)

not_both : {A : Type 0} → Some (codes "true") ≡ Some (codes "false") → A
not_both e = absurd (true≢false (ap (λ (t : Text). bytes_eq t (codes "true")) (some_inj e)))

-- what the flag reads as
screen_text : (given : List Given) → list_all (is_allowed replay_syntax) given ≡ true → (b : Bool) → has_flag (codes "screen") given ≡ b
    → one_of (codes "screen") (with_flag (codes "screen") (map row_of given)) ≡ Some (if b then codes "true" else codes "false")
screen_text given allowed true e =
    ap (one_of (codes "screen")) (flag_set (codes "screen") (map row_of given) (flag_row (codes "screen") given ∙ e))
    ∙ flag_reads replay_syntax (codes "screen") (each (λ other. bytes_eq other (codes "screen") ≡ false) replay_syntax.valued (refl, (refl, tt))) given allowed e
screen_text given allowed false e = unset_reads (codes "screen") (map row_of given) (flag_row (codes "screen") given ∙ e)

tells_same : (text : Option Text) (b flag : Bool) → text ≡ Some (if b then codes "true" else codes "false") → Tells text flag → flag ≡ b
tells_same text true flag e tells = tells.yes e
tells_same text false flag e tells = tells.not_so e

same_tells : (text : Option Text) (b : Bool) → text ≡ Some (if b then codes "true" else codes "false") → Tells text b
same_tells text true e = record { yes = λ _. refl; not_so = λ f. not_both (sym e ∙ f) }
same_tells text false e = record { yes = λ f. not_both (sym f ∙ e); not_so = λ _. refl }

pub replay_found : (rest : List Text) (rows : List Row) (opening : Opening) (screen : Bool) → Matches replay_syntax rest rows → IsReplayOf rows opening screen
    → AsksForReplay (codes "replay" ∷ rest) opening screen
replay_found rest rows opening screen got job =
    let allowed = got.gives.allowed in
    let shown = screen_text got.given allowed (has_flag (codes "screen") got.given) refl in
    record {
      given = got.given;
      rest = rest;
      begins = refl;
      gives = got.gives;
      opened = opened_as _ _ _ _ opening (replay_value (codes "size") got.given rows refl allowed got.are) (replay_value (codes "chan") got.given rows refl allowed got.are) job.opened;
      shown = tells_same _ _ screen (ap (one_of (codes "screen")) (got.are ∙ defaults_behind replay_syntax.valued screen_rule (map row_of got.given)) ∙ shown) job.shown;
    }

pub replay_asked : (rest : List Text) (rows : List Row) (given : List Given) (opening : Opening) (screen : Bool) → GivesOptions replay_syntax given rest
    → rows ≡ with_defaults (rules_with replay_syntax) (map row_of given) → AsksForOpening given opening → screen ≡ has_flag (codes "screen") given → IsReplayOf rows opening screen
replay_asked rest rows given opening screen gives are opened is =
    let allowed = gives.allowed in
    let shown = screen_text given allowed (has_flag (codes "screen") given) refl in
    record {
      opened = opened_as _ _ _ _ opening (sym (replay_value (codes "size") given rows refl allowed are)) (sym (replay_value (codes "chan") given rows refl allowed are)) opened;
      shown = subst (Tells (one_of (codes "screen") rows)) (sym is) (same_tells _ _ (ap (one_of (codes "screen")) (are ∙ defaults_behind replay_syntax.valued screen_rule (map row_of given)) ∙ shown));
    }

-- ---- commands whose options have values

only_value : (names : List Text) (name : Text) (given : List Given) (rows : List Row) → list_all (is_allowed (valued_syntax names)) given ≡ true
    → rows ≡ with_defaults (rules_with (valued_syntax names)) (map row_of given) → first_of name rows ≡ value_of name given
only_value names name given rows allowed e =
    ap (first_of name) (e ∙ defaults_behind names [] (map row_of given)) ∙ value_is (valued_syntax names) name (λ other e. absurd (true≢false (sym e))) given allowed

pub mirror_found : (rest : List Text) (rows : List Row) (opening : Opening) → Matches mirror_syntax rest rows → IsDisplay rows opening → AsksForMirror (codes "mirror" ∷ rest) opening
mirror_found rest rows opening got job =
    let value : (name : Text) → first_of name rows ≡ value_of name got.given = λ name. only_value mirror_syntax.valued name got.given rows got.gives.allowed got.are in
    record {
      given = got.given;
      rest = rest;
      begins = refl;
      gives = got.gives;
      opened = opened_as _ _ _ _ opening (value (codes "size")) (value (codes "chan")) job;
    }

pub mirror_asked : (words : List Text) (rows : List Row) (opening : Opening) → (asks : AsksForMirror words opening)
    → rows ≡ with_defaults (rules_with mirror_syntax) (map row_of asks.given) → IsDisplay rows opening
mirror_asked words rows opening asks are =
    let value : (name : Text) → first_of name rows ≡ value_of name asks.given = λ name. only_value mirror_syntax.valued name asks.given rows asks.gives.allowed are in
    opened_as _ _ _ _ opening (sym (value (codes "size"))) (sym (value (codes "chan"))) asks.opened

pub serve_found : (rest : List Text) (rows : List Row) (opening : Opening) (listen : Text) (workers conns : ℕ) → Matches serve_syntax rest rows → IsServeOf rows opening listen workers conns
    → AsksToServe (codes "serve" ∷ rest) opening listen workers conns
serve_found rest rows opening listen workers conns got job =
    let value : (name : Text) → first_of name rows ≡ value_of name got.given = λ name. only_value serve_syntax.valued name got.given rows got.gives.allowed got.are in
    record {
      given = got.given;
      rest = rest;
      begins = refl;
      gives = got.gives;
      opened = opened_as _ _ _ _ opening (value (codes "size")) (value (codes "chan")) job.opened;
      address = sym (value (codes "listen")) ∙ job.address.given;
      short = job.address.short;
      shared = ap (λ t. counted 16 (or t (codes "1"))) (sym (value (codes "workers"))) ∙ job.shared;
      count = job.connections.text;
      wanted = sym (value (codes "conns")) ∙ job.connections.given;
      connections = job.connections.counts;
    }

pub serve_asked : (words : List Text) (rows : List Row) (opening : Opening) (listen : Text) (workers conns : ℕ) → (asks : AsksToServe words opening listen workers conns)
    → rows ≡ with_defaults (rules_with serve_syntax) (map row_of asks.given) → IsServeOf rows opening listen workers conns
serve_asked words rows opening listen workers conns asks are =
    let value : (name : Text) → first_of name rows ≡ value_of name asks.given = λ name. only_value serve_syntax.valued name asks.given rows asks.gives.allowed are in
    record {
      opened = opened_as _ _ _ _ opening (sym (value (codes "size"))) (sym (value (codes "chan"))) asks.opened;
      address = record { given = value (codes "listen") ∙ asks.address; short = asks.short };
      shared = ap (λ t. counted 16 (or t (codes "1"))) (value (codes "workers")) ∙ asks.shared;
      connections = record { text = asks.count; given = value (codes "conns") ∙ asks.wanted; counts = asks.connections };
    }

pub alone_found : (rest : List Text) (rows : List Row) (opening : Opening) (session : ℕ) → Matches alone_syntax rest rows → IsAloneOf rows opening session
    → AsksForAlone (codes "alone" ∷ rest) opening session
alone_found rest rows opening session got job =
    let value : (name : Text) → first_of name rows ≡ value_of name got.given = λ name. only_value alone_syntax.valued name got.given rows got.gives.allowed got.are in
    record {
      given = got.given;
      rest = rest;
      begins = refl;
      gives = got.gives;
      opened = opened_as _ _ _ _ opening (value (codes "size")) (value (codes "chan")) job.opened;
      number = job.chosen.text;
      chosen = sym (value (codes "conn")) ∙ job.chosen.given;
      counts = job.chosen.counts;
    }

pub alone_asked : (words : List Text) (rows : List Row) (opening : Opening) (session : ℕ) → (asks : AsksForAlone words opening session)
    → rows ≡ with_defaults (rules_with alone_syntax) (map row_of asks.given) → IsAloneOf rows opening session
alone_asked words rows opening session asks are =
    let value : (name : Text) → first_of name rows ≡ value_of name asks.given = λ name. only_value alone_syntax.valued name asks.given rows asks.gives.allowed are in
    record {
      opened = opened_as _ _ _ _ opening (sym (value (codes "size"))) (sym (value (codes "chan"))) asks.opened;
      chosen = record { text = asks.number; given = value (codes "conn") ∙ asks.chosen; counts = asks.counts };
    }

-- ---- text

pub text_found : (rest : List Text) (rows : List Row) (columns lines : ℕ) → Matches text_syntax rest rows → IsTextOf rows columns lines → AsksForText (codes "text" ∷ rest) columns lines
text_found rest rows columns lines got job = record { given = got.given; rest = rest; begins = refl; gives = got.gives; wide = number _ _ _ _ job.wide; high = number _ _ _ _ job.high }
  where
    number : (name : Text) (least most n : ℕ) → IsNumberOf rows name least most n → GivesNumber got.given name least most n
    number name least most n is = record {
      text = is.count.text;
      valued = sym (only_value text_syntax.valued name got.given rows got.gives.allowed got.are) ∙ is.count.given;
      counts = is.count.counts;
      enough = is.enough;
    }

pub text_asked : (words : List Text) (rows : List Row) (columns lines : ℕ) → (asks : AsksForText words columns lines)
    → rows ≡ with_defaults (rules_with text_syntax) (map row_of asks.given) → IsTextOf rows columns lines
text_asked words rows columns lines asks are = record { wide = number _ _ _ _ asks.wide; high = number _ _ _ _ asks.high }
  where
    number : (name : Text) (least most n : ℕ) → GivesNumber asks.given name least most n → IsNumberOf rows name least most n
    number name least most n gives = record {
      count = record { text = gives.text; given = only_value text_syntax.valued name asks.given rows asks.gives.allowed are ∙ gives.valued; counts = gives.counts };
      enough = gives.enough;
    }

-- ---- desk

pub desk_found : (rest : List Text) (rows : List Row) → Matches desk_syntax rest rows → AsksForDesk (codes "desk" ∷ rest)
desk_found rest rows got = record { given = got.given; rest = rest; begins = refl; gives = got.gives }
