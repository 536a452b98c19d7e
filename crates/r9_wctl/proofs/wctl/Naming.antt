-- Names that are none of a command or an option.
use Rattle.std.proofs.Common.{◌≡◌, ℕ, Bool, true, false, List, codes, None, refl}
use Rattle.std.specs.List.{find}
use Rattle.std.specs.Str.{bytes_eq}
use Rattle.model_files.specs.wctl.Reading.{commands}
use Rattle.r9_wctl.specs.declared.wctl.verb.Verb.{Verb}
use Rattle.r9_wctl.specs.declared.wctl.verb.Verb.TheVariants as verb
use Rattle.r9_wctl.specs.wctl.Names.{takes}

pub unknown_verb : (name : List ℕ) → bytes_eq name (codes "new") ≡ false → bytes_eq name (codes "resize") ≡ false → bytes_eq name (codes "move") ≡ false → bytes_eq name (codes "set") ≡ false
    → bytes_eq name (codes "top") ≡ false → bytes_eq name (codes "bottom") ≡ false → bytes_eq name (codes "hide") ≡ false → bytes_eq name (codes "unhide") ≡ false → bytes_eq name (codes "current") ≡ false
    → bytes_eq name (codes "delete") ≡ false → bytes_eq name (codes "scroll") ≡ false → bytes_eq name (codes "noscroll") ≡ false → bytes_eq name (codes "host") ≡ false
    → find (λ row. bytes_eq name row.name) commands ≡ None
unknown_verb name a b c d e f g h i j k l m = simp (a, b, c, d, e, f, g, h, i, j, k, l, m)

pub unknown_key : (name : List ℕ) → bytes_eq name (codes "-r") ≡ false → bytes_eq name (codes "-minx") ≡ false → bytes_eq name (codes "-miny") ≡ false → bytes_eq name (codes "-maxx") ≡ false
    → bytes_eq name (codes "-maxy") ≡ false → bytes_eq name (codes "-dx") ≡ false → bytes_eq name (codes "-dy") ≡ false → bytes_eq name (codes "-pid") ≡ false → bytes_eq name (codes "-cd") ≡ false
    → bytes_eq name (codes "-id") ≡ false → bytes_eq name (codes "-hide") ≡ false → bytes_eq name (codes "-scroll") ≡ false → bytes_eq name (codes "-noscroll") ≡ false
    → (verb : Verb) (with_id : Bool) → takes verb with_id name ≡ false
unknown_key name a b c d e f g h i j k l m verb.New true = simp (a, b, c, d, e, f, g, h, i, j, k, l, m)
unknown_key name a b c d e f g h i j k l m verb.New false = simp (a, b, c, d, e, f, g, h, i, k, l, m)
unknown_key name a b c d e f g h i j k l m verb.Resize true = simp (a, b, c, d, e, f, g, j)
unknown_key name a b c d e f g h i j k l m verb.Resize false = simp (a, b, c, d, e, f, g)
unknown_key name a b c d e f g h i j k l m verb.Move true = simp (b, c, j)
unknown_key name a b c d e f g h i j k l m verb.Move false = simp (b, c)
unknown_key name a b c d e f g h i j k l m verb.Set true = simp (h, j)
unknown_key name a b c d e f g h i j k l m verb.Set false = simp h
unknown_key name a b c d e f g h i j k l m _ true = simp j
unknown_key name a b c d e f g h i j k l m _ false = refl
