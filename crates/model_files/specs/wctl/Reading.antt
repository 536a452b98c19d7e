-- The command that a text spells (rio(4)), as a function of the text: a command's name, and options with their words.
use Rattle.std.specs.Prelude.{ℕ, zero, suc, ◌==◌, ◌++◌, ◌&&◌, ◌||◌, Bool, true, false, not, nat_le, List, [], ◌∷◌, length, map, take, codes, Option, Some, None, if◌then◌else◌, ℤ, slice_get}
use Rattle.std.specs.List.{list_any, find, filter_map}
use Rattle.std.specs.Option.{option_map, unwrap_or}
use Rattle.std.specs.Str.{bytes_eq}
use Rattle.model_text.specs.text.Reading.{◌>>=◌}
use Rattle.model_files.specs.wctl.Command.{Amount, Choice, R, Minx, Miny, Maxx, Maxy, Dx, Dy, Wctl, New, Resize, Move, Top, Bottom, Hide, Unhide, Current, Delete, Scroll, Set, Host, Command}
use Rattle.model_files.specs.wctl.Words.{words_of, line_of, signed, amount, path, all_some}

-- a command's name and the options that it takes
pub record Row : Type 0 where
  pub name : List ℕ
  pub options : List (List ℕ)

abbrev pub lengths : List (List ℕ)
lengths = codes "-minx" ∷ codes "-miny" ∷ codes "-maxx" ∷ codes "-maxy" ∷ codes "-dx" ∷ codes "-dy" ∷ []

-- options without a word
abbrev pub flags : List (List ℕ)
flags = codes "-hide" ∷ codes "-scroll" ∷ codes "-noscroll" ∷ []

-- the commands and their options, which may stand in any order and more than once
abbrev pub commands : List Row
commands =
    record { name = codes "new"; options = codes "-r" ∷ codes "-pid" ∷ codes "-cd" ∷ lengths ++ flags }
    ∷ record { name = codes "resize"; options = codes "-r" ∷ lengths }
    ∷ record { name = codes "move"; options = codes "-minx" ∷ codes "-miny" ∷ [] }
    ∷ record { name = codes "set"; options = codes "-pid" ∷ [] }
    ∷ map (λ name. record { name = name; options = [] })
    (codes "top" ∷ codes "bottom" ∷ codes "hide" ∷ codes "unhide" ∷ codes "current" ∷ codes "delete" ∷ codes "scroll" ∷ codes "noscroll" ∷ codes "host" ∷ [])

-- how many words follow an option's name
abbrev pub arity : List ℕ → ℕ
arity option = if bytes_eq option (codes "-r") then 4 else if list_any (bytes_eq option) flags then 0 else 1

-- an option's name and the words that follow it
pub record Part : Type 0 where
  pub name : List ℕ
  pub words : List (List ℕ)

-- the options that words make, after so many words that belong to an earlier one
unfoldable pub parts : ℕ → List (List ℕ) → List Part
parts skip [] = []
parts zero (word ∷ words) = record { name = word; words = take (arity word) words } ∷ parts (arity word) words
parts (suc skip) (word ∷ words) = parts skip words

-- what an option says
pub data Setting : Type 0 where
  Choose : (choice : Choice) → Setting
  Hidden : Setting
  Named : (path : List ℕ) → Setting
  NoEffect : Setting

-- four numbers make a rectangle
abbrev pub rectangle : Option (List ℤ) → Option Setting
rectangle (Some (x0 ∷ y0 ∷ x1 ∷ y1 ∷ [])) = Some (Choose (R (record { min = record { x = x0; y = y0 }; max = record { x = x1; y = y1 } })))
rectangle _ = None

-- an option with an amount; that of -pid has no effect
abbrev pub measured : List ℕ → Amount → Setting
measured name amount =
    if bytes_eq name (codes "-minx") then Choose (Minx amount)
    else if bytes_eq name (codes "-miny") then Choose (Miny amount)
    else if bytes_eq name (codes "-maxx") then Choose (Maxx amount)
    else if bytes_eq name (codes "-maxy") then Choose (Maxy amount)
    else if bytes_eq name (codes "-dx") then Choose (Dx amount)
    else if bytes_eq name (codes "-dy") then Choose (Dy amount)
    else NoEffect

-- an option with one word
abbrev pub valued : List ℕ → List (List ℕ) → Option Setting
valued name (word ∷ []) =
    if bytes_eq name (codes "-id") then option_map Named (path word)
    else if bytes_eq name (codes "-cd") then Some NoEffect
    else option_map (measured name) (amount word)
valued name _ = None

unfoldable pub setting : Part → Option Setting
setting part =
    if bytes_eq part.name (codes "-r") then rectangle (all_some (map signed part.words))
    else if list_any (bytes_eq part.name) flags then Some (if bytes_eq part.name (codes "-hide") then Hidden else NoEffect)
    else valued part.name part.words

-- the same, where the option is one of the command's, or names a window where windows are named
abbrev pub allowed : Bool → List (List ℕ) → Part → Option Setting
allowed with_id options part =
    if list_any (bytes_eq part.name) options || (with_id && bytes_eq part.name (codes "-id")) then setting part else None

abbrev pub choice_in : Setting → Option Choice
choice_in (Choose choice) = Some choice
choice_in _ = None

abbrev pub path_in : Setting → Option (List ℕ)
path_in (Named path) = Some path
path_in _ = None

abbrev pub is_hidden : Setting → Bool
is_hidden Hidden = true
is_hidden _ = false

-- what a command's name asks for, with these options, and hidden or not
unfoldable pub asked : List ℕ → List Choice → Bool → Wctl
asked name options hide =
    if bytes_eq name (codes "new") then New options hide
    else if bytes_eq name (codes "resize") then Resize options
    else if bytes_eq name (codes "move") then Move options
    else if bytes_eq name (codes "top") then Top
    else if bytes_eq name (codes "bottom") then Bottom
    else if bytes_eq name (codes "hide") then Hide
    else if bytes_eq name (codes "unhide") then Unhide
    else if bytes_eq name (codes "current") then Current
    else if bytes_eq name (codes "delete") then Delete
    else if bytes_eq name (codes "scroll") then Scroll true
    else if bytes_eq name (codes "noscroll") then Scroll false
    else if bytes_eq name (codes "set") then Set
    else Host

-- where windows are named, each command names one, but a new one need not
abbrev pub must_name : Bool → List ℕ → Bool
must_name with_id name = with_id && not (bytes_eq name (codes "new"))

-- the command of this name with these settings, which name one window at most
abbrev pub command_with : Bool → List ℕ → List Setting → Option Command
command_with with_id name settings =
    let paths = filter_map path_in settings in
    if nat_le (length paths) 1 && not (must_name with_id name && (length paths == 0))
    then Some (record { what = asked name (filter_map choice_in settings) (list_any is_hidden settings); id = unwrap_or (slice_get paths 0) [] })
    else None

abbrev pub command_by : Bool → Row → List Part → Option Command
command_by with_id row given = all_some (map (allowed with_id row.options) given) >>= λ settings. command_with with_id row.name settings

abbrev pub command_in : Bool → List (List ℕ) → Option Command
command_in with_id [] = None
command_in with_id (name ∷ words) =
    find (λ row. bytes_eq name row.name) commands >>= λ row. command_by with_id row (parts 0 words)

-- the command that a text of at most 1,024 bytes spells, or None where it spells none
unfoldable pub command_of : Bool → List ℕ → Option Command
command_of with_id text =
    if nat_le (length text) 1024 then line_of text >>= (λ line. command_in with_id (words_of line)) else None
