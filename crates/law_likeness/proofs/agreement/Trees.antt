-- What is seen of a plain node does not depend on the windows of a rio.
use Rattle.std.proofs.Common.{◌≡◌, ℕ, Bool, true, false, List, [], ◌∷◌, Option, Ok, Err, refl, ap, ◌∙◌}
use Rattle.std.specs.Prelude.{All, IsTrue, map, not, ◌==◌, ◌&&◌}
use Rattle.std.proofs.lemmas.List.Elements.{All-head, All-tail}
use Rattle.model_text.specs.text.Outcome.{Outcome, ◌>>=◌, refuse_if}
use Rattle.model_files.specs.wire.Spelling.{stat_bytes}
use Rattle.model_files.specs.declared.tree.Kind.{Kind}
use Rattle.model_files.specs.declared.tree.Kind.TheVariants as kind
use Rattle.model_files.specs.tree.Node.{Node}
use Rattle.model_files.specs.tree.Tree.{View, above, check_live, files, is_ended, name_of, stat, stat_named, walk}
use Rattle.model_files.specs.tree.Listing.{stats}
use Rattle.model_world.specs.Walking.{after_node, walk_on, walked}
use Rattle.law_likeness.specs.agreement.Agreement.{SameView, is_plain, IsPlain}

pub check_live_same : (v w : View) (node : Node) → SameView v w → check_live v node ≡ check_live w node
unfolding check_live
check_live_same v w node same = rw (same.live, same.connections) refl

-- a window that a node tells of lives where the node was not refused
pub lives_where_fine : (v : View) (node : Node) (u : Unit {0}) → (node.serial == 0) ≡ false → check_live v node ≡ Ok u → v.live ≡ true
unfolding check_live
lives_where_fine v node u some fine = by (node.serial == 0) v.live some fine
  where
    by : (none live : Bool) → none ≡ false → (refuse_if (not none && not live) 42 >>= λ _. refuse_if (is_ended v node) 34) ≡ Ok u → live ≡ true
    by none true some fine = refl
    by false false some fine = absurd cc
    by true false some fine = absurd cc

abbrev seen : List ℕ → ℕ → List (ℕ × ℕ) → Bool → View
seen c h ws l = record { connections = c; host = h; windows = ws; live = l }

abbrev node_of : Kind → (connection serial root : ℕ) → Node
node_of of connection serial root = record { kind = of; connection = connection; serial = serial; root = root }

files_by : (c : List ℕ) (h : ℕ) (ws vs : List (ℕ × ℕ)) (l : Bool) (of : Kind) (connection serial root : ℕ) → IsTrue (is_plain of)
    → files (seen c h ws l) (node_of of connection serial root) ≡ files (seen c h vs l) (node_of of connection serial root)
unfolding files
files_by c h ws vs l kind.Wsys connection serial root plain = absurd cc
files_by c h ws vs l _ connection serial root plain = refl

files_same : (v w : View) (node : Node) → SameView v w → IsTrue (is_plain node.kind) → files v node ≡ files w node
files_same v w node same plain =
    files_by v.connections v.host v.windows w.windows v.live node.kind node.connection node.serial node.root plain
    ∙ rw (same.connections, same.host, same.live) refl

above_by : (c : List ℕ) (h : ℕ) (ws vs : List (ℕ × ℕ)) (l : Bool) (of : Kind) (node : Node)
    → above (seen c h ws l) node of ≡ above (seen c h vs l) node of
above_by c h ws vs l of node = refl

above_same : (v w : View) (node : Node) → SameView v w → above v node node.kind ≡ above w node node.kind
above_same v w node same =
    above_by v.connections v.host v.windows w.windows v.live node.kind node ∙ rw (same.connections, same.host, same.live) refl

pub stats_same : (v w : View) (node : Node) → SameView v w → IsTrue (is_plain node.kind) → stats v node ≡ stats w node
unfolding stats
stats_same v w node same plain =
    ap (λ (all : List (List ℕ × Node)). map (λ file. stat_bytes (stat_named file.0 file.1)) all) (files_same v w node same plain)

stat_by : (c : List ℕ) (h : ℕ) (ws vs : List (ℕ × ℕ)) (l : Bool) (of : Kind) (connection serial root : ℕ) → IsTrue (is_plain of)
    → stat (seen c h ws l) (node_of of connection serial root) ≡ stat (seen c h vs l) (node_of of connection serial root)
unfolding stat name_of
stat_by c h ws vs l kind.Listed connection serial root plain = absurd cc
stat_by c h ws vs l _ connection serial root plain = refl

pub stat_same : (v w : View) (node : Node) → SameView v w → IsTrue (is_plain node.kind) → stat v node ≡ stat w node
stat_same v w node same plain =
    stat_by v.connections v.host v.windows w.windows v.live node.kind node.connection node.serial node.root plain
    ∙ rw (same.connections, same.host, same.live) refl

pub walk_same : (v w : View) (node : Node) (name : List ℕ) → SameView v w → IsTrue (is_plain node.kind) → walk v node name ≡ walk w node name
unfolding walk
walk_same v w node name same plain = rw (check_live_same v w node same, files_same v w node same plain, above_same v w node same) refl

module _ (HasWindow HasConnection : ℕ → Type 0) where
  on_same : (r : Outcome Node) (f g : Node → List Node × Option ℕ) → All (IsPlain HasWindow HasConnection) (walk_on r f).0
      → ((next : Node) → IsPlain HasWindow HasConnection next → All (IsPlain HasWindow HasConnection) (f next).0 → f next ≡ g next)
      → walk_on r f ≡ walk_on r g
  on_same (Err n) f g plain further = refl
  on_same (Ok next) f g plain further =
      ap (after_node next) (further next (All-head (IsPlain HasWindow HasConnection) next (f next).0 plain) (All-tail (IsPlain HasWindow HasConnection) next (f next).0 plain))

  -- a walk on plain nodes goes the same way where the same is seen of each
  pub walked_same : (v w : Node → View) → ((node : Node) → IsPlain HasWindow HasConnection node → SameView (v node) (w node))
      → (names : List (List ℕ)) (node : Node) → IsPlain HasWindow HasConnection node → All (IsPlain HasWindow HasConnection) (walked v node names).0
      → walked v node names ≡ walked w node names
  walked_same v w same [] node is plain = refl
  walked_same v w same (name ∷ names) node is plain =
      on_same (walk (v node) node name) (λ next. walked v next names) (λ next. walked w next names) plain (λ next next_is more. walked_same v w same names next next_is more)
      ∙ ap (λ (r : Outcome Node). walk_on r (λ next. walked w next names)) (walk_same (v node) (w node) node name (same node is) is.kind)
