-- The served tree, by computing.
use Rattle.std.specs.Prelude.{◌≡◌, ◌==◌, refl, ℕ, true, false, List, [], ◌∷◌, ◌++◌, map, codes, Ok, Err}
use Rattle.std.specs.List.{slice_split, concat}
use Rattle.std.specs.Fmt.{digits}
use Rattle.model_text.specs.text.Outcome.{Outcome}
use Rattle.model_text.specs.text.Hex.{hex}
use Rattle.model_files.specs.wire.Spelling.{sized, qid_bytes, stat_body}
use Rattle.model_files.specs.declared.tree.Kind.TheVariants.{Draw, Connection, Ctl, Snarf, Wsys, Listed, Label, Mousein, Picture, Hwsize}
use Rattle.model_files.specs.tree.Node.{Node, row, kinds, kind_numbered, qid, may}
use Rattle.model_files.specs.tree.Tree.{View, files, kinds_in, stat_named, name_of, walk, check_live, root_of}
use Rattle.model_files.specs.tree.Listing.{stats, fitting}
use Rattle.model_files.specs.tree.Attach.{Whole, Existing, Fresh, Unknown, attach_of}

-- a session with two connections, and the root rio with two windows
abbrev view : View
view = record { connections = 1 ∷ 3 ∷ []; host = 0; windows = (1, 1) ∷ (2, 4) ∷ []; live = true }

-- the rio in window 4
abbrev inner : View
inner = record { connections = []; host = 4; windows = (10, 7) ∷ []; live = true }

abbrev device : Node
device = root_of 0

numbers : map kind_numbered (map (λ kind. (row kind).number) kinds) ≡ kinds
unfolding kind_numbered row
numbers = refl

-- the first 65 bytes of the root hold one entry, draw, and 64 hold none
root : hex (concat (fitting 65 (stats view device)))
    ≡ codes "3f00000000000000800000000002000000000000006d01008000000000000000000000000000000000040064726177040072696f39040072696f39040072696f39"
unfolding stats files kinds_in stat_named qid row stat_body sized qid_bytes
root = refl

short : fitting 64 (stats view device) ≡ []
unfolding stats files kinds_in stat_named qid row stat_body sized qid_bytes
short = refl

-- the names in a directory, one after the other
abbrev names : View → Node → List (List ℕ)
names view node = map (λ file. file.0) (files view node)

words : List ℕ → List (List ℕ)
words text = slice_split (λ byte. byte == 32) text

tree : names view device ∷ names view (record { kind = Draw; connection = 0; serial = 0; root = 0 })
    ∷ names view (record { kind = Connection; connection = 3; serial = 0; root = 0 })
    ∷ names view (record { kind = Wsys; connection = 0; serial = 0; root = 0 })
    ∷ names inner (record { kind = Wsys; connection = 0; serial = 4; root = 4 }) ∷ names view (root_of 4)
    ∷ names view (record { kind = Listed; connection = 0; serial = 4; root = 0 }) ∷ names view (record { kind = Label; connection = 0; serial = 4; root = 0 }) ∷ []
    ≡ words (codes "draw hwsize kbdin mousein screen snarf wctl wsys") ∷ words (codes "new 1 3") ∷ words (codes "ctl data refresh")
    ∷ words (codes "1 2") ∷ words (codes "10")
    ∷ words (codes "cons consctl draw label mouse screen snarf text wctl winid winname window wsys")
    ∷ words (codes "cons consctl label mouse screen snarf text wctl winid winname window") ∷ [] ∷ []
unfolding words files kinds_in row digits
tree = refl

-- walks of several names, each from where the one before led
abbrev walked : View → Outcome Node → List (List ℕ) → Outcome Node
walked seen at [] = at
walked seen (Err n) (name ∷ rest) = Err n
walked seen (Ok node) (name ∷ rest) = walked seen (walk seen node name) rest

walks : map (λ text. walked view (Ok device) (words text))
    (codes "hwsize" ∷ codes "draw 3 ctl" ∷ codes "draw 2" ∷ codes "draw 03" ∷ codes "draw 3 ctl .." ∷ codes "draw 3 .. .." ∷ codes ".." ∷ codes "wsys 2 label"
    ∷ codes "wsys 2 draw" ∷ codes "wsys 2 .." ∷ codes "nope" ∷ codes "snarf x" ∷ [])
    ≡ Ok (record { kind = Hwsize; connection = 0; serial = 0; root = 0 }) ∷ Ok (record { kind = Ctl; connection = 3; serial = 0; root = 0 }) ∷ Err 34 ∷ Err 34 ∷ Err 35 ∷ Ok device ∷ Ok device
    ∷ Ok (record { kind = Label; connection = 0; serial = 4; root = 0 }) ∷ Err 34
    ∷ Ok (record { kind = Wsys; connection = 0; serial = 0; root = 0 }) ∷ Err 34 ∷ Err 35 ∷ []
unfolding words walk check_live files kinds_in row digits
walks = refl

-- in window 7, which stands in the rio of window 4
inner_walks : map (λ text. walked inner (Ok (root_of 7)) (words text)) (codes "window" ∷ codes "snarf" ∷ codes "wsys" ∷ codes "draw .." ∷ codes "wsys .." ∷ codes "wsys 10" ∷ [])
    ≡ Ok (record { kind = Picture; connection = 0; serial = 7; root = 7 }) ∷ Ok (record { kind = Snarf; connection = 0; serial = 4; root = 7 })
    ∷ Ok (record { kind = Wsys; connection = 0; serial = 4; root = 7 }) ∷ Ok (root_of 7) ∷ Ok (root_of 7)
    ∷ Ok (record { kind = Listed; connection = 0; serial = 7; root = 7 }) ∷ []
unfolding words walk check_live files kinds_in row digits
inner_walks = refl

-- a window that is gone is told before all else; what has no window leads back to the root even then
gone : walk (record view { live = false }) (root_of 4) (codes "..") ∷ walk (record view { live = false }) (record { kind = Draw; connection = 0; serial = 0; root = 4 }) (codes "..") ∷ []
    ≡ Err 42 ∷ Ok (root_of 4) ∷ []
unfolding walk check_live row
gone = refl

-- a connection that has ended, before what is no directory
ended : walk view (record { kind = Ctl; connection = 2; serial = 0; root = 0 }) (codes "x") ≡ Err 34
unfolding walk check_live row
ended = refl

-- a qid names a file within a session
qids : map qid (device ∷ record { kind = Hwsize; connection = 0; serial = 0; root = 0 } ∷ record { kind = Ctl; connection = 3; serial = 0; root = 0 } ∷ root_of 4 ∷ [])
    ≡ record { kind = 0x80; vers = 0; path = 1 } ∷ record { kind = 0; vers = 0; path = 25 } ∷ record { kind = 0; vers = 0; path = 197 } ∷ record { kind = 0x80; vers = 0; path = 0x4_0000_000e } ∷ []
unfolding qid row
qids = refl

-- a listed window is named by its number; both roots are /
titles : map (name_of view) (device ∷ root_of 4 ∷ record { kind = Listed; connection = 0; serial = 4; root = 0 } ∷ record { kind = Connection; connection = 3; serial = 0; root = 0 } ∷ [])
    ≡ codes "/" ∷ codes "/" ∷ codes "2" ∷ codes "3" ∷ []
unfolding name_of row digits
titles = refl

-- a directory is opened to be read; a file as its permissions say; 16 has no meaning, and other bits are no mode
modes : map (may device) (0 ∷ 1 ∷ 2 ∷ 16 ∷ 3 ∷ 17 ∷ 20 ∷ []) ++ map (may (record { kind = Mousein; connection = 0; serial = 0; root = 0 })) (0 ∷ 1 ∷ 17 ∷ 2 ∷ 33 ∷ []) ++ map (may (record { kind = Hwsize; connection = 0; serial = 0; root = 0 })) (0 ∷ 1 ∷ 18 ∷ [])
    ≡ true ∷ false ∷ false ∷ true ∷ false ∷ false ∷ false ∷ false ∷ true ∷ true ∷ false ∷ false ∷ true ∷ true ∷ true ∷ []
unfolding may row
modes = refl

attaches : map attach_of ([] ∷ codes "new" ∷ codes "new -r 10 10 50 40" ∷ codes "3/1/new -hide" ∷ codes "2" ∷ codes "1x" ∷ codes "/new" ∷ codes "newer" ∷ codes "03" ∷ (codes "new" ++ 10 ∷ []) ∷ [])
    ≡ Whole ∷ Fresh [] (codes "new") ∷ Fresh [] (codes "new -r 10 10 50 40") ∷ Fresh (3 ∷ 1 ∷ []) (codes "new -hide")
    ∷ Existing (2 ∷ []) ∷ Unknown ∷ Unknown ∷ Unknown ∷ Existing (3 ∷ []) ∷ Unknown ∷ []
unfolding attach_of
attaches = refl
