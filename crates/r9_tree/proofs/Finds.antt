-- Files found by their names.
use Rattle.std.proofs.Common.{◌≡◌, refl, sym, ap, ap₂, ◌∙◌, ◌+◌, ℕ, Bool, true, false, cond, List, [], ◌∷◌, ◌++◌, map, arith}
use native.Mathlib.Numerals.{unary_clauses}
use Rattle.std.specs.Prelude.{Option, Some, None, IfSome, Ok, codes, not, if◌then◌else◌}
use Rattle.std.specs.Fmt.{decimal}
use Rattle.std.specs.Str.{bytes_eq}
use Rattle.std.specs.List.{find, All}
use Rattle.std.specs.Map.{lookup}
use Rattle.std.specs.Option.{option_map, option_or}
use Rattle.model_text.specs.text.Outcome.{Outcome, ◌>>=◌, refuse_if, value_or_refuse}
use Rattle.model_files.specs.declared.tree.Kind.{Kind}
use Rattle.model_files.specs.declared.tree.Kind.TheVariants.{Draw, Wsys}
use Rattle.model_files.specs.tree.Node.{Node, row, is_directory}
use Rattle.model_files.specs.tree.Tree.{View, kinds_in, numbered_in, placed, connection_at, window_at, files, above, check_live, walk}
use Rattle.r9_tree.specs.declared.node.Node as code
use Rattle.r9_tree.specs.View.{node_of}

-- what was found is one of the list
pub found_has : {X : Type 0} (P : X → Type 0) (test : X → Bool) (xs : List X) → All P xs → IfSome (find test xs) P
found_has P test [] all = tt
found_has P test (x ∷ xs) all =
    elim (test x) as (λ b. IfSome (cond b (Some x) (find test xs)) P) [
      | true ↦ all 0 x (omega arith)
      | false ↦ found_has P test xs (λ k d h. simp unary_clauses at (all (k + 1) d (omega arith)))
    ]

-- a look-up among what is made of a list's items
pub lookup_map : {X K Y : Type 0} (name : X → K) (file : X → Y) (test : K → Bool) (xs : List X)
    → lookup test (map (λ x. (name x, file x)) xs) ≡ option_map file (find (λ x. test (name x)) xs)
lookup_map name file test [] = refl
lookup_map name file test (x ∷ xs) =
    elim (test (name x)) as (λ b. cond b (Some (file x)) (lookup test (map (λ x. (name x, file x)) xs)) ≡ option_map file (cond b (Some x) (find (λ x. test (name x)) xs))) [
      | true ↦ refl
      | false ↦ lookup_map name file test xs
    ]

pub lookup_append : {K X : Type 0} (test : K → Bool) (es fs : List (K × X)) → lookup test (es ++ fs) ≡ option_or (lookup test es) (lookup test fs)
lookup_append test [] fs = refl
lookup_append test (e ∷ es) fs =
    elim (test e.0) as (λ b. cond b (Some e.1) (lookup test (es ++ fs)) ≡ option_or (cond b (Some e.1) (lookup test es)) (lookup test fs)) [
      | true ↦ refl
      | false ↦ lookup_append test es fs
    ]

-- the files that are named by numbers
abbrev pub is_number : List ℕ → ℕ → Bool
is_number name n = bytes_eq name (decimal n)

pub found_connection : (view : View) (node : Node) (kind : Kind) (name : List ℕ) → kind ≡ Draw
    → lookup (is_number name) (numbered_in view node kind) ≡ option_map (connection_at node) (find (is_number name) view.connections)
found_connection view node kind name is = rw is (lookup_map (λ n. n) (connection_at node) (is_number name) view.connections)

pub found_window : (view : View) (node : Node) (kind : Kind) (name : List ℕ) → kind ≡ Wsys
    → lookup (is_number name) (numbered_in view node kind)
    ≡ option_map (λ w. window_at node w.1) (find (λ w. is_number name w.0) view.windows)
found_window view node kind name is = rw is (lookup_map (λ w. w.0) (λ w. window_at node w.1) (is_number name) view.windows)

-- a file is one that its directory always has, or one with a number
pub found_file : (view : View) (node : Node) (name : List ℕ)
    → lookup (bytes_eq name) (files view node)
    ≡ option_or (option_map (placed view node) (find (λ kind. bytes_eq name (row kind).name) (kinds_in node.kind)))
    (lookup (is_number name) (numbered_in view node node.kind))
unfolding files
found_file view node name =
    lookup_append (bytes_eq name) _ _
    ∙ ap₂ option_or (lookup_map (λ kind. (row kind).name) (placed view node) (bytes_eq name) (kinds_in node.kind)) (by_number (numbered_in view node node.kind))
  where
    by_number : (entries : List (ℕ × Node)) → lookup (bytes_eq name) (map (λ entry. (decimal entry.0, entry.1)) entries) ≡ lookup (is_number name) entries
    by_number [] = refl
    by_number (e ∷ es) = ap (cond (is_number name e.0) (Some e.1)) (by_number es)

-- a step to a file that its directory always has
pub walked_to : (view : View) (node : Node) (name : List ℕ) (kind : Kind) → is_directory node ≡ true → bytes_eq name (codes "..") ≡ false
    → find (λ kind. bytes_eq name (row kind).name) (kinds_in node.kind) ≡ Some kind → check_live view node ≡ Ok tt
    → walk view node name ≡ Ok (placed view node kind)
unfolding walk
walked_to view node name kind directory further there lives =
    let by : Outcome Node = if bytes_eq name (codes "..") then Ok (above view node node.kind) else value_or_refuse (lookup (bytes_eq name) (files view node)) 34 in
    ap (λ (o : Outcome (Unit {0})). o >>= λ _. refuse_if (not (is_directory node)) 35 >>= λ _. by) lives
    ∙ ap (λ b. refuse_if (not b) 35 >>= λ _. by) directory
    ∙ ap (λ b. if b then Ok (above view node node.kind) else value_or_refuse (lookup (bytes_eq name) (files view node)) 34) further
    ∙ ap (λ (o : Option Node). value_or_refuse o 34) (found_file view node name)
    ∙ ap (λ (o : Option Kind). value_or_refuse (option_or (option_map (placed view node) o) (lookup (is_number name) (numbered_in view node node.kind))) 34) there

-- the same of a file that no view tells
pub walked_without_view : (found : Option code.Node) (node : Node) (name : List ℕ) (kind : Kind) → is_directory node ≡ true → bytes_eq name (codes "..") ≡ false
    → find (λ kind. bytes_eq name (row kind).name) (kinds_in node.kind) ≡ Some kind
    → IfSome found (λ there. (view : View) → node_of there ≡ placed view node kind)
    → IfSome found (λ next. (view : View) → check_live view node ≡ Ok tt → walk view node name ≡ Ok (node_of next))
walked_without_view None node name kind directory further there is = tt
walked_without_view (Some next) node name kind directory further there is =
    λ view lives. walked_to view node name kind directory further there lives ∙ ap Ok (sym (is view))
