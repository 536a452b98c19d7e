-- The files that a client opens (draw(3), rio(4)).
use Rattle.std.specs.Prelude.{ℕ, List, [], ◌∷◌, codes}
use Rattle.model_files.specs.declared.tree.Kind.{Kind}
use Rattle.model_files.specs.declared.tree.Kind.TheVariants.{Draw, New, Connection, Data}
use Rattle.model_files.specs.tree.Node.{Node}

-- a file of which there is one for the session, or for a connection, in the tree of this root
abbrev pub file : (root : ℕ) → Kind → (connection : ℕ) → Node
file root kind connection = record { kind = kind; connection = connection; serial = 0; root = root }

-- a file of the window whose tree it is
abbrev pub own_file : (window : ℕ) → Kind → Node
own_file window kind = record { kind = kind; connection = 0; serial = window; root = window }

-- the names on the way to the file that makes a connection, and to the file that takes the draw messages of connection 1
abbrev pub to_new : List (List ℕ)
to_new = codes "draw" ∷ codes "new" ∷ []

abbrev pub to_data : List (List ℕ)
to_data = codes "draw" ∷ codes "1" ∷ codes "data" ∷ []

abbrev pub new_way : (root : ℕ) → List Node
new_way root = file root Draw 0 ∷ file root New 0 ∷ []

abbrev pub data_way : (root : ℕ) → List Node
data_way root = file root Draw 0 ∷ file root Connection 1 ∷ file root Data 1 ∷ []
