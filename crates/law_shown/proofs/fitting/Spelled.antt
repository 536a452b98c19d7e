-- A command to move that a text spells has no option but those that leave a rectangle's size.
use Rattle.std.proofs.Common.{◌≡◌, ℕ, Bool, true, false, List, [], ◌∷◌, ◌++◌, map, find, length, Option, Some, None, option_map, refl, sym, ap, subst, ◌∙◌}
use Rattle.std.specs.Prelude.{◌==◌, ◌||◌, ◌&&◌, codes, not, nat_le, slice_get, if◌then◌else◌}
use Rattle.std.specs.List.{filter_map, list_any}
use Rattle.std.specs.Option.{unwrap_or}
use Rattle.std.specs.Str.{bytes_eq}
use Rattle.std.proofs.lemmas.Slice.Eq.{bytes_eq-Decides}
use Rattle.model_text.specs.text.Reading.{◌>>=◌}
use Rattle.model_files.specs.declared.wctl.Amount.{Amount}
use Rattle.model_files.specs.declared.wctl.Choice.{Choice}
use Rattle.model_files.specs.declared.wctl.Choice.TheVariants.{Minx, Miny}
use Rattle.model_files.specs.wctl.Command.{Command, Wctl}
use Rattle.model_files.specs.wctl.Reading.{Choose, Hidden, Named, NoEffect, Part, Row, Setting, allowed, asked, choice_in, command_by, command_in, command_of, command_with, commands, flags, is_hidden, lengths, must_name, parts, path_in, setting}
use Rattle.model_files.specs.wctl.Words.{all_some, amount, line_of, path, words_of}
use Rattle.model_rio.specs.rio.Act as act
use Rattle.law_shown.specs.fitting.Fitting.{IsSpelled, IsWay}
use Rattle.law_shown.proofs.shown.Tests.{same_Some}
use Rattle.law_shown.proofs.fitting.Lists.{Each, all_of, each_found}

-- a setting that leaves a rectangle's size
abbrev IsMild : Setting → Type 0
IsMild (Choose choice) = IsWay choice
IsMild Hidden = Unit {0}
IsMild (Named path) = Unit {0}
IsMild NoEffect = Unit {0}

mild_ways : (settings : List Setting) → Each IsMild settings → Each IsWay (filter_map choice_in settings)
mild_ways [] each = tt
mild_ways (Choose choice ∷ settings) each = (each.0, mild_ways settings each.1)
mild_ways (Hidden ∷ settings) each = mild_ways settings each.1
mild_ways (Named path ∷ settings) each = mild_ways settings each.1
mild_ways (NoEffect ∷ settings) each = mild_ways settings each.1

all_mild : (f : Part → Option Setting) → ((part : Part) (s : Setting) → f part ≡ Some s → IsMild s) → (given : List Part) (settings : List Setting) → all_some (map f given) ≡ Some settings → Each IsMild settings
all_mild f mild [] settings e = subst (Each IsMild) (same_Some [] settings e) tt
all_mild f mild (part ∷ given) settings e = by (all_mild f mild given) (f part) refl (all_some (map f given)) refl e
  where
    by : ((more : List Setting) → all_some (map f given) ≡ Some more → Each IsMild more) → (o : Option Setting) → f part ≡ o → (rest : Option (List Setting)) → all_some (map f given) ≡ rest → all_some (o ∷ map f given) ≡ Some settings → Each IsMild settings
    by further None at rest is e = absurd cc
    by further (Some s) at None is e = absurd (let f : ◌≡◌ {A = Option (List Setting)} None (Some settings) = sym (ap (λ (o : Option (List Setting)). option_map (λ xs. s ∷ xs) o) is) ∙ e in cc)
    by further (Some s) at (Some more) is e =
        subst (Each IsMild) (same_Some (s ∷ more) settings (sym (ap (λ (o : Option (List Setting)). option_map (λ xs. s ∷ xs) o) is) ∙ e)) (mild part s at, further more is)

-- ---- the options of a command to move

mapped : {A : Type 0} (make : A → Setting) → ((x : A) → IsMild (make x)) → (o : Option A) (s : Setting) → option_map make o ≡ Some s → IsMild s
mapped make mild None s e = absurd cc
mapped make mild (Some x) s e = subst IsMild (same_Some (make x) s e) (mild x)

minx_mild : (words : List (List ℕ)) (s : Setting) → setting (record { name = codes "-minx"; words = words }) ≡ Some s → IsMild s
unfolding setting
minx_mild [] s e = absurd cc
minx_mild (word ∷ []) s e = mapped (λ (a : Amount). Choose (Minx a)) (λ a. tt) (amount word) s e
minx_mild (word ∷ more ∷ words) s e = absurd cc

miny_mild : (words : List (List ℕ)) (s : Setting) → setting (record { name = codes "-miny"; words = words }) ≡ Some s → IsMild s
unfolding setting
miny_mild [] s e = absurd cc
miny_mild (word ∷ []) s e = mapped (λ (a : Amount). Choose (Miny a)) (λ a. tt) (amount word) s e
miny_mild (word ∷ more ∷ words) s e = absurd cc

id_mild : (words : List (List ℕ)) (s : Setting) → setting (record { name = codes "-id"; words = words }) ≡ Some s → IsMild s
unfolding setting
id_mild [] s e = absurd cc
id_mild (word ∷ []) s e = mapped (λ (p : List ℕ). Named p) (λ p. tt) (path word) s e
id_mild (word ∷ more ∷ words) s e = absurd cc

abbrev move_options : List (List ℕ)
move_options = codes "-minx" ∷ codes "-miny" ∷ []

move_mild : (with_id : Bool) (part : Part) (s : Setting) → allowed with_id move_options part ≡ Some s → IsMild s
move_mild with_id part s e = by (bytes_eq part.name (codes "-minx")) refl (bytes_eq part.name (codes "-miny")) refl with_id (bytes_eq part.name (codes "-id")) refl e
  where
    is : (name : List ℕ) → bytes_eq part.name name ≡ true → setting part ≡ Some s → setting (record { name = name; words = part.words }) ≡ Some s
    is name same e = ap (λ (n : List ℕ). setting (record { name = n; words = part.words })) (sym ((bytes_eq-Decides part.name name).0 same)) ∙ e

    by : (a : Bool) → bytes_eq part.name (codes "-minx") ≡ a → (b : Bool) → bytes_eq part.name (codes "-miny") ≡ b → (i c : Bool) → bytes_eq part.name (codes "-id") ≡ c
        → (if (a || (b || false)) || (i && c) then setting part else None) ≡ Some s → IsMild s
    by true at b _ i c _ e = minx_mild part.words s (is (codes "-minx") at e)
    by false _ true at i c _ e = miny_mild part.words s (is (codes "-miny") at e)
    by false _ false _ true true at e = id_mild part.words s (is (codes "-id") at e)
    by false _ false _ true false _ e = absurd cc
    by false _ false _ false c _ e = absurd cc

-- ---- each command

what_is : (with_id : Bool) (name : List ℕ) (settings : List Setting) (command : Command) → command_with with_id name settings ≡ Some command → asked name (filter_map choice_in settings) (list_any is_hidden settings) ≡ command.what
what_is with_id name settings command e = by (nat_le (length (filter_map path_in settings)) 1 && not (must_name with_id name && (length (filter_map path_in settings) == 0))) e
  where
    by : (b : Bool) → (if b then Some (record { what = asked name (filter_map choice_in settings) (list_any is_hidden settings); id = unwrap_or (slice_get (filter_map path_in settings) 0) [] }) else None) ≡ Some command
        → asked name (filter_map choice_in settings) (list_any is_hidden settings) ≡ command.what
    by true e = ap (λ (c : Command). c.what) (same_Some _ command e)
    by false e = absurd cc

then_some : {A B : Type 0} (o : Option A) (next : A → Option B) (y : B) → (o >>= next) ≡ Some y → (x : A) × (o ≡ Some x) × (next x ≡ Some y)
then_some (Some x) next y e = (x, refl, e)
then_some None next y e = absurd cc

-- what a row of the table of commands spells
abbrev SpellsAct : Row → Type 0
SpellsAct row = (with_id : Bool) (given : List Part) (command : Command) (window : ℕ) → command_by with_id row given ≡ Some command → IsSpelled (act.Command window command.what)

plain_row : (row : Row) → ((options : List Choice) (hide : Bool) (window : ℕ) → IsSpelled (act.Command window (asked row.name options hide))) → SpellsAct row
plain_row row plain with_id given command window e =
    let found = then_some (all_some (map (allowed with_id row.options) given)) (command_with with_id row.name) command e in
    let is = what_is with_id row.name found.0 command found.2 in
    subst (λ (what : Wctl). IsSpelled (act.Command window what)) is (plain (filter_map choice_in found.0) (list_any is_hidden found.0) window)

move_row : SpellsAct (record { name = codes "move"; options = move_options })
unfolding asked
move_row with_id given command window e =
    let found = then_some (all_some (map (allowed with_id move_options) given)) (command_with with_id (codes "move")) command e in
    let is = what_is with_id (codes "move") found.0 command found.2 in
    subst (λ (what : Wctl). IsSpelled (act.Command window what)) is
    (all_of IsWay (filter_map choice_in found.0) (mild_ways found.0 (all_mild (allowed with_id move_options) (move_mild with_id) given found.0 found.1)))

-- a command with no options
bare_row : (name : List ℕ) → ((options : List Choice) (hide : Bool) (window : ℕ) → IsSpelled (act.Command window (asked name options hide))) → SpellsAct (record { name = name; options = [] })
bare_row name plain = plain_row (record { name = name; options = [] }) plain

bare_rows : Each SpellsAct (map (λ name. record { name = name; options = [] }) (codes "top" ∷ codes "bottom" ∷ codes "hide" ∷ codes "unhide" ∷ codes "current" ∷ codes "delete" ∷ codes "scroll" ∷ codes "noscroll" ∷ codes "host" ∷ []))
unfolding asked
bare_rows = (bare_row (codes "top") (λ options hide window. tt), (bare_row (codes "bottom") (λ options hide window. tt), (bare_row (codes "hide") (λ options hide window. tt), (bare_row (codes "unhide") (λ options hide window. tt), (bare_row (codes "current") (λ options hide window. tt), (bare_row (codes "delete") (λ options hide window. tt), (bare_row (codes "scroll") (λ options hide window. tt), (bare_row (codes "noscroll") (λ options hide window. tt), (bare_row (codes "host") (λ options hide window. tt), tt)))))))))

each_row : Each SpellsAct commands
unfolding asked
each_row = (
  plain_row (record { name = codes "new"; options = codes "-r" ∷ codes "-pid" ∷ codes "-cd" ∷ lengths ++ flags }) (λ options hide window. tt),
  (plain_row (record { name = codes "resize"; options = codes "-r" ∷ lengths }) (λ options hide window. tt), (move_row, (plain_row (record { name = codes "set"; options = codes "-pid" ∷ [] }) (λ options hide window. tt), bare_rows))),
)

in_spelled : (with_id : Bool) (words : List (List ℕ)) (command : Command) (window : ℕ) → command_in with_id words ≡ Some command → IsSpelled (act.Command window command.what)
in_spelled with_id [] command window e = absurd cc
in_spelled with_id (name ∷ words) command window e =
    let found = then_some (find (λ row. bytes_eq name row.name) commands) (λ row. command_by with_id row (parts 0 words)) command e in
    each_found SpellsAct (λ row. bytes_eq name row.name) commands found.0 each_row found.1 with_id (parts 0 words) command window found.2

pub command_spelled : (with_id : Bool) (text : List ℕ) (command : Command) (window : ℕ) → command_of with_id text ≡ Some command → IsSpelled (act.Command window command.what)
unfolding command_of
command_spelled with_id text command window e = by (nat_le (length text) 1024) e
  where
    by : (b : Bool) → (if b then line_of text >>= (λ line. command_in with_id (words_of line)) else None) ≡ Some command → IsSpelled (act.Command window command.what)
    by true e =
        let found = then_some (line_of text) (λ line. command_in with_id (words_of line)) command e in
        in_spelled with_id (words_of found.0) command window found.2
    by false e = absurd cc
