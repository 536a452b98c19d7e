-- The words of a command: its name, and the names of its options (rio(4)).
use Rattle.std.specs.Prelude.{ℕ, List, [], ◌∷◌, ◌++◌, codes, Bool, ◌||◌, ◌&&◌}
use Rattle.std.specs.List.{list_any}
use Rattle.std.specs.Str.{bytes_eq}
use Rattle.model_files.specs.wctl.Reading.{lengths, flags}
use Rattle.r9_wctl.specs.declared.wctl.verb.Verb.{Verb}
use Rattle.r9_wctl.specs.declared.wctl.verb.Verb.TheVariants as verb
use Rattle.r9_wctl.specs.declared.wctl.key.Key.{Key}
use Rattle.r9_wctl.specs.declared.wctl.key.Key.TheVariants as key

abbrev pub verb_word : Verb → List ℕ
verb_word verb.New = codes "new"
verb_word verb.Resize = codes "resize"
verb_word verb.Move = codes "move"
verb_word verb.Set = codes "set"
verb_word verb.Top = codes "top"
verb_word verb.Bottom = codes "bottom"
verb_word verb.Hide = codes "hide"
verb_word verb.Unhide = codes "unhide"
verb_word verb.Current = codes "current"
verb_word verb.Delete = codes "delete"
verb_word verb.Scroll = codes "scroll"
verb_word verb.Noscroll = codes "noscroll"
verb_word verb.Host = codes "host"

abbrev pub key_word : Key → List ℕ
key_word key.R = codes "-r"
key_word key.Minx = codes "-minx"
key_word key.Miny = codes "-miny"
key_word key.Maxx = codes "-maxx"
key_word key.Maxy = codes "-maxy"
key_word key.Dx = codes "-dx"
key_word key.Dy = codes "-dy"
key_word key.Pid = codes "-pid"
key_word key.Cd = codes "-cd"
key_word key.Id = codes "-id"
key_word key.Hide = codes "-hide"
key_word key.Scroll = codes "-scroll"
key_word key.Noscroll = codes "-noscroll"

-- the options that a command takes
abbrev pub options_of : Verb → List (List ℕ)
options_of verb.New = codes "-r" ∷ codes "-pid" ∷ codes "-cd" ∷ lengths ++ flags
options_of verb.Resize = codes "-r" ∷ lengths
options_of verb.Move = codes "-minx" ∷ codes "-miny" ∷ []
options_of verb.Set = codes "-pid" ∷ []
options_of _ = []

abbrev pub takes : Verb → Bool → List ℕ → Bool
takes verb with_id name = list_any (bytes_eq name) (options_of verb) || (with_id && bytes_eq name (codes "-id"))
