-- What the options of a command say together, gathered from left to right.
use Rattle.std.specs.Prelude.{ℕ, Bool, true, false, not, ◌&&◌, List, [], ◌∷◌, ◌++◌, map, Option, Some, None, if◌then◌else◌}
use Rattle.std.specs.Option.{unwrap_or, is_some}
use Rattle.model_text.specs.text.Reading.{◌>>=◌}
use Rattle.model_files.specs.wctl.Command.{Command}
use Rattle.model_files.specs.wctl.Reading.{Setting, Choose, Hidden, Named, NoEffect, asked, must_name, allowed, parts}
use Rattle.r9_wctl.specs.declared.wctl.gathered.Gathered.{Gathered}
use Rattle.r9_wctl.specs.declared.wctl.verb.Verb.{Verb}
use Rattle.r9_wctl.specs.wctl.Names.{verb_word, options_of}

abbrev pub nothing : Gathered
nothing = record { options = []; hide = false; id = None }

-- a window is named once at most
abbrev pub with_path : Gathered → List ℕ → Option (List ℕ) → Option Gathered
with_path g path None = Some (record { options = g.options; hide = g.hide; id = Some path })
with_path g path (Some other) = None

abbrev pub add : Gathered → Setting → Option Gathered
add g (Choose choice) = Some (record { options = g.options ++ choice ∷ []; hide = g.hide; id = g.id })
add g Hidden = Some (record { options = g.options; hide = true; id = g.id })
add g (Named path) = with_path g path g.id
add g NoEffect = Some g

abbrev pub gather : Gathered → List (Option Setting) → Option Gathered
gather g [] = Some g
gather g (setting ∷ settings) = (setting >>= add g) >>= λ next. gather next settings

-- what the options of a command say, of which each is its name and words
abbrev pub gathered_from : Verb → Bool → Gathered → List (List ℕ) → Option Gathered
gathered_from verb with_id g words = gather g (map (allowed with_id (options_of verb)) (parts 0 words))

-- the command of this name, where it names a window if it must
abbrev pub finished : Verb → Bool → Gathered → Option Command
finished verb with_id g =
    if must_name with_id (verb_word verb) && not (is_some g.id) then None
    else Some (record { what = asked (verb_word verb) g.options g.hide; id = unwrap_or g.id [] })
