-- A text that asks for no window more and no rio spells no such command.
use Rattle.std.proofs.Common.{◌≡◌, ◌∙◌, ℕ, Bool, true, false, List, [], ◌∷◌, Option, Some, None, refl, sym, ap, subst}
use Rattle.std.specs.Option.{option_map_or, unwrap_or}
use Rattle.std.specs.Prelude.{slice_get, ◌||◌, ◌&&◌, ◌==◌, not, codes, length, map, nat_le, if◌then◌else◌}
use Rattle.std.specs.List.{filter_map, find, list_any}
use Rattle.std.specs.Str.{bytes_eq}
use Rattle.std.proofs.lemmas.Slice.Eq.{bytes_eq-Decides}
use Rattle.model_text.specs.text.Reading.{◌>>=◌}
use Rattle.model_files.specs.declared.wctl.Choice.{Choice}
use Rattle.model_files.specs.wctl.Command.{Command, Wctl}
use Rattle.model_files.specs.wctl.Command as wctl
use Rattle.model_files.specs.wctl.Reading.{Row, Setting, allowed, asked, choice_in, command_by, command_in, command_of, command_with, commands, is_hidden, must_name, parts, path_in}
use Rattle.model_files.specs.wctl.Words.{all_some, is_newline, line_of, without_last_newline, words_of}
use Rattle.law_shown.proofs.shown.Tests.{find-passes}
use Rattle.law_shown.proofs.fitting.Lists.{Each, each_found}
use Rattle.model_alone.specs.alone.Uses.{asks_for_windows}

-- a command for the window itself
abbrev pub IsOwnCommand : Wctl → Type 0
IsOwnCommand (wctl.New options hide) = ⊥
IsOwnCommand wctl.Host = ⊥
IsOwnCommand _ = Unit {0}

bind_some : {A B : Type 0} (o : Option A) (f : A → Option B) (x : B) → (o >>= f) ≡ Some x → (a : A) × (o ≡ Some a) × (f a ≡ Some x)
bind_some (Some a) f x e = (a, refl, e)
bind_some None f x e = absurd cc

-- each command's name but those of the two
abbrev IsOther : Row → Type 0
IsOther row = bytes_eq row.name (codes "new") ≡ false → bytes_eq row.name (codes "host") ≡ false → (options : List Choice) (hide : Bool) → IsOwnCommand (asked row.name options hide)

others : Each IsOther commands
unfolding asked
others = ((λ new host options hide. absurd cc), ((λ new host options hide. tt), ((λ new host options hide. tt), ((λ new host options hide. tt), ((λ new host options hide. tt), ((λ new host options hide. tt), ((λ new host options hide. tt), ((λ new host options hide. tt), ((λ new host options hide. tt), ((λ new host options hide. tt), ((λ new host options hide. tt), ((λ new host options hide. tt), ((λ new host options hide. absurd cc), tt)))))))))))))

or_parts : (a b : Bool) → (a || b) ≡ false → (a ≡ false) × (b ≡ false)
or_parts false b e = (refl, e)
or_parts true b e = absurd cc

with_is : (name : List ℕ) (settings : List Setting) (command : Command) → command_with false name settings ≡ Some command → (options : List Choice) × ((hide : Bool) × (command.what ≡ asked name options hide))
with_is name settings command e =
    (filter_map choice_in settings, (list_any is_hidden settings, by (nat_le (length paths) 1 && not (must_name false name && (length paths == 0))) (unwrap_or (slice_get paths 0) []) e))
  where
    paths : List (List ℕ)
    paths = filter_map path_in settings

    it : Wctl
    it = asked name (filter_map choice_in settings) (list_any is_hidden settings)

    by : (b : Bool) (id : List ℕ) → (if b then Some (record { what = it; id = id }) else None) ≡ Some command → command.what ≡ it
    by true id e = sym (ap (λ (o : Option Command). option_map_or (λ (x : Command). x.what) o it) e)
    by false id e = absurd cc

named_other : (name : List ℕ) (words : List (List ℕ)) (command : Command) → command_in false (name ∷ words) ≡ Some command → (bytes_eq name (codes "new") || bytes_eq name (codes "host")) ≡ false → IsOwnCommand command.what
named_other name words command e asks =
    let row = bind_some (find (λ row. bytes_eq name row.name) commands) (λ row. command_by false row (parts 0 words)) command e in
    let settings = bind_some (all_some (map (allowed false row.0.options) (parts 0 words))) (λ settings. command_with false row.0.name settings) command row.2 in
    let is = with_is row.0.name settings.0 command settings.2 in
    let same : name ≡ row.0.name = (bytes_eq-Decides name row.0.name).0 (find-passes (λ (r : Row). bytes_eq name r.name) commands row.0 row.1) in
    let two = or_parts (bytes_eq name (codes "new")) (bytes_eq name (codes "host")) asks in
    subst IsOwnCommand (sym is.1.1)
    (each_found IsOther (λ (r : Row). bytes_eq name r.name) commands row.0 others row.1
    (subst (λ (n : List ℕ). bytes_eq n (codes "new") ≡ false) same two.0) (subst (λ (n : List ℕ). bytes_eq n (codes "host") ≡ false) same two.1) is.0 is.1.0)

pub own_command : (text : List ℕ) (command : Command) → command_of false text ≡ Some command → asks_for_windows text ≡ false → IsOwnCommand command.what
unfolding command_of line_of
own_command text command e asks = by (nat_le (length text) 1024) e
  where
    words : (ws : List (List ℕ)) → words_of (without_last_newline text) ≡ ws → command_in false ws ≡ Some command → IsOwnCommand command.what
    words [] is e = absurd cc
    words (name ∷ ws) is e = named_other name ws command e (sym (ap (λ (all : List (List ℕ)). bytes_eq (word all) (codes "new") || bytes_eq (word all) (codes "host")) is) ∙ asks)
      where
        word : List (List ℕ) → List ℕ
        word all = unwrap_or (slice_get all 0) []

    line : (b : Bool) → ((if b then None else Some (without_last_newline text)) >>= (λ line. command_in false (words_of line))) ≡ Some command → IsOwnCommand command.what
    line true e = absurd cc
    line false e = words (words_of (without_last_newline text)) refl e

    by : (b : Bool) → (if b then line_of text >>= (λ line. command_in false (words_of line)) else None) ≡ Some command → IsOwnCommand command.what
    by true e = line (list_any is_newline (without_last_newline text)) e
    by false e = absurd cc
