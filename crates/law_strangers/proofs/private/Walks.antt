-- A session that is alone walks on what is its own alone.
use Rattle.std.proofs.Common.{◌≡◌, ℕ, ◌==◌, Bool, true, false, List, [], ◌∷◌, ◌++◌, Option, Some, None, Ok, Err, refl, sym, subst, arith, inl, inr}
use Rattle.std.specs.Prelude.{◌⊎◌, All, IfOk, IfSome, IsTrue, codes, map, not, if◌then◌else◌}
use Rattle.std.specs.List.{flat_map}
use Rattle.std.specs.Fmt.{decimal}
use Rattle.std.specs.Map as map
use Rattle.std.proofs.lemmas.Map.Entries.{All-lookup}
use Rattle.std.specs.Str.{bytes_eq}
use Rattle.std.proofs.lemmas.List.Elements.{All-cons, All-head, All-nil, All-tail}
use Rattle.r9_event.specs.declared.event.own.Use.TheVariants as uses
use Rattle.model_text.specs.text.Outcome.{Outcome, refuse_if, value_or_refuse}
use Rattle.model_files.specs.declared.tree.Kind.{Kind}
use Rattle.model_files.specs.declared.tree.Kind.TheVariants as kind
use Rattle.model_files.specs.tree.Node.{Node, Owner, OfSession, OfConnection, OfRio, OfWindow, is_directory, row}
use Rattle.model_files.specs.tree.Tree.{View, above, check_live, connection_at, files, kinds_in, numbered_in, owned, placed, root_of, walk}
use Rattle.model_world.specs.Walking.{walk_on, walked}
use Rattle.law_likeness.specs.agreement.Agreement.{IsPlain, TellsOf, is_plain}
use Rattle.model_alone.specs.alone.Own.{Watched, reasons_from}
use Rattle.model_alone.specs.alone.Uses.{node_used, step_used}
use Rattle.model_world.proofs.Others.{after_step}
use Rattle.law_strangers.specs.followed.Following.{HasConnection, HasWindow}
use Rattle.law_strangers.proofs.private.Reasons.{IsNoAttach, fine_parts}

-- a kind of nodes that a window's tree may have
abbrev pub is_inside : Kind → Bool
is_inside kind.Device = false
is_inside kind.Mousein = false
is_inside kind.Kbdin = false
is_inside kind.DeviceWctl = false
is_inside kind.Hwsize = false
is_inside _ = true

-- a node that is plain, of a tree to which an attach of the session's window led
pub record IsMine (own : Option ℕ) (node : Node) : Type 0 where
  pub plain : IsPlain (HasWindow own) HasConnection node
  pub inside : IsTrue (is_inside node.kind)
  pub root : own ≡ Some node.root
  pub counted : (node.root == 0) ≡ false

-- or it is the directory of windows, which is a reason not to be alone
abbrev pub IsNext : Option ℕ → Node → Type 0
IsNext own node = IsMine own node ⊎ (node.kind ≡ kind.Wsys)

abbrev node_of : Kind → (connection serial root : ℕ) → Node
node_of of connection serial root = record { kind = of; connection = connection; serial = serial; root = root }

module _ (own : Option ℕ) (view : View) (home : view.host ≡ 0) (connections : All HasConnection view.connections) where
  few_zero : HasConnection 0
  few_zero = omega arith

  -- a file of a directory, by what there is one such of
  owned_mine : (node : Node) → IsMine own node → (of : Kind) → IsTrue (is_plain of) → IsTrue (is_inside of) → (owner : Owner) → (row of).owner ≡ owner → (owner ≡ OfWindow → (node.serial == 0) ≡ false) → IsMine own (owned view node of owner)
  owned_mine node mine of plain inside OfSession is has = record {
    inside = inside;
    plain = record { kind = plain; window = inl refl; place = subst (λ (o : Owner). TellsOf o 0) (sym is) refl; connection = few_zero };
    root = mine.root;
    counted = mine.counted;
  }
  owned_mine node mine of plain inside OfConnection is has = record {
    inside = inside;
    plain = record { kind = plain; window = inl refl; place = subst (λ (o : Owner). TellsOf o 0) (sym is) refl; connection = mine.plain.connection };
    root = mine.root;
    counted = mine.counted;
  }
  owned_mine node mine of plain inside OfRio is has = record {
    inside = inside;
    plain = record { kind = plain; window = inl home; place = subst (λ (o : Owner). TellsOf o view.host) (sym is) home; connection = few_zero };
    root = mine.root;
    counted = mine.counted;
  }
  owned_mine node mine of plain inside OfWindow is has = record {
    inside = inside;
    plain = record { kind = plain; window = mine.plain.window; place = subst (λ (o : Owner). TellsOf o node.serial) (sym is) (has refl); connection = few_zero };
    root = mine.root;
    counted = mine.counted;
  }

  -- the root of the attach
  root_mine : (root : ℕ) → own ≡ Some root → (root == 0) ≡ false → IsMine own (root_of root)
  unfolding row
  root_mine root is counted = rw counted (record {
    plain = record { kind = refl; window = inr is; place = counted; connection = few_zero };
    inside = refl;
    root = is;
    counted = counted;
  })

  above_mine : (node : Node) (of : Kind) → IsTrue (is_plain of) → IsMine own node → IsMine own (above view node of)
  unfolding row
  above_mine node kind.Connection plain mine = owned_mine node mine kind.Draw refl refl OfSession refl (λ is. absurd cc)
  above_mine node kind.Listed plain mine = absurd cc
  above_mine node _ plain mine = root_mine node.root mine.root mine.counted

  -- ---- the files of a directory

  abbrev files_of : Node → Kind → List (List ℕ × Node)
  files_of node of = map (λ k. ((row k).name, placed view node k)) (kinds_in of) ++ map (λ (entry : ℕ × Node). (decimal entry.0, entry.1)) (numbered_in view node of)

  abbrev AllNext : List (List ℕ × Node) → Type 0
  AllNext fs = All (λ (f : List ℕ × Node). IsNext own f.1) fs

  module _ (node : Node) (mine : IsMine own node) where
    file : (of : Kind) → IsTrue (is_plain of) → IsTrue (is_inside of) → ((row of).owner ≡ OfWindow → (node.serial == 0) ≡ false) → IsNext own (placed view node of)
    file of plain inside has = inl (owned_mine node mine of plain inside (row of).owner refl has)

    wsys : IsNext own (placed view node kind.Wsys)
    unfolding row
    wsys = inr refl

    abbrev AreNext : List Kind → Type 0
    AreNext [] = Unit {0}
    AreNext (k ∷ ks) = IsNext own (placed view node k) × AreNext ks

    none : AllNext []
    none = All-nil (λ (f : List ℕ × Node). IsNext own f.1)

    kinds_next : (ks : List Kind) → AreNext ks → (fs : List (List ℕ × Node)) → AllNext fs → AllNext (map (λ k. ((row k).name, placed view node k)) ks ++ fs)
    kinds_next [] next fs all = all
    kinds_next (k ∷ ks) next fs all = All-cons (λ (f : List ℕ × Node). IsNext own f.1) ((row k).name, placed view node k) (map (λ j. ((row j).name, placed view node j)) ks ++ fs) next.0 (kinds_next ks next.1 fs all)

    connected : (ns : List ℕ) → All HasConnection ns → AllNext (map (λ (entry : ℕ × Node). (decimal entry.0, entry.1)) (map (λ n. (n, connection_at node n)) ns))
    unfolding row
    connected [] all = none
    connected (n ∷ ns) all =
        All-cons (λ (f : List ℕ × Node). IsNext own f.1) (decimal n, connection_at node n) _
        (inl (record { plain = record { kind = refl; window = inl refl; place = refl; connection = All-head HasConnection n ns all }; inside = refl; root = mine.root; counted = mine.counted })) (connected ns (All-tail HasConnection n ns all))

    all_next : (of : Kind) → IsTrue (is_inside of) → IsTrue (is_plain of) → TellsOf (row of).owner node.serial → AllNext (files_of node of)
    unfolding row kinds_in
    all_next kind.Device inside plain place = absurd cc
    all_next kind.Draw inside plain place = kinds_next (kinds_in kind.Draw) ((file kind.New refl refl (λ is. absurd cc)), tt) (map (λ (entry : ℕ × Node). (decimal entry.0, entry.1)) (numbered_in view node kind.Draw)) (connected view.connections connections)
    all_next kind.Connection inside plain place = kinds_next (kinds_in kind.Connection) ((file kind.Ctl refl refl (λ is. absurd cc)), ((file kind.Data refl refl (λ is. absurd cc)), ((file kind.Refresh refl refl (λ is. absurd cc)), tt))) [] none
    all_next kind.Window inside plain place = kinds_next (kinds_in kind.Window) ((file kind.Cons refl refl (λ _. place)), ((file kind.Consctl refl refl (λ _. place)), ((file kind.Draw refl refl (λ is. absurd cc)), ((file kind.Label refl refl (λ _. place)), ((file kind.Mouse refl refl (λ _. place)), ((file kind.Screen refl refl (λ is. absurd cc)), ((file kind.Snarf refl refl (λ is. absurd cc)), ((file kind.Text refl refl (λ _. place)), ((file kind.Wctl refl refl (λ _. place)), ((file kind.Winid refl refl (λ _. place)), ((file kind.Winname refl refl (λ _. place)), ((file kind.Picture refl refl (λ _. place)), (wsys, tt))))))))))))) [] none
    all_next kind.Listed inside plain place = absurd cc
    all_next kind.Wsys inside plain place = absurd cc
    all_next _ inside plain place = none

    -- ---- one step

    found_next : (o : Option Node) → IfSome o (IsNext own) → IfOk (value_or_refuse o 34) (IsNext own)
    found_next None found = tt
    found_next (Some next) found = found

    walk_next : (name : List ℕ) → IfOk (walk view node name) (IsNext own)
    unfolding walk files
    walk_next name =
        after_step (IsNext own) (check_live view node) _ (λ _ _.
        after_step (IsNext own) (refuse_if (not (is_directory node)) 35) _ (λ _ _.
        either (bytes_eq name (codes "..")) (inl (above_mine node node.kind mine.plain.kind mine))
        (found_next (map.lookup (bytes_eq name) (files_of node node.kind)) (All-lookup (IsNext own) (bytes_eq name) (files_of node node.kind) (all_next node.kind mine.inside mine.plain.kind mine.plain.place)))))
      where
        either : (b : Bool) → IsNext own (above view node node.kind) → IfOk (value_or_refuse (map.lookup (bytes_eq name) (files_of node node.kind)) 34) (IsNext own)
            → IfOk (if b then Ok (above view node node.kind) else value_or_refuse (map.lookup (bytes_eq name) (files_of node node.kind)) 34) (IsNext own)
        either true up down = up
        either false up down = down

-- ---- whole walks

quiet_step : (node : Node) (of : Kind) → All IsNoAttach (node_used node of)
quiet_step node kind.Wsys = All-cons IsNoAttach (uses.Own 6) [] tt (All-nil IsNoAttach)
quiet_step node kind.Listed = All-cons IsNoAttach (uses.Walk node.serial) [] tt (All-nil IsNoAttach)
quiet_step node _ = All-nil IsNoAttach

-- the directory of windows is a reason
no_wsys : (seen : Watched) (node : Node) → node.kind ≡ kind.Wsys → reasons_from true seen (step_used node) ≡ [] → ⊥
no_wsys seen node is fine = absurd (let two : reasons_from true seen (node_used node kind.Wsys) ≡ [] = subst (λ (k : Kind). reasons_from true seen (node_used node k) ≡ []) is fine in cc)

module _ (own : Option ℕ) (seen : Watched) (view : Node → View) (home : (node : Node) → IsMine own node → (view node).host ≡ 0) (connections : (node : Node) → All HasConnection (view node).connections) where
  pub walked_mine : (names : List (List ℕ)) (node : Node) → IsMine own node → reasons_from true seen (flat_map step_used (walked view node names).0) ≡ [] → All (IsMine own) (walked view node names).0
  walked_mine [] node mine fine = All-nil (IsMine own)
  walked_mine (name ∷ names) node mine fine = by (walk (view node) node name) (walk_next own (view node) (home node mine) (connections node) node mine name) (λ next is. walked_mine names next is) fine
    where
      by : (o : Outcome Node) → IfOk o (IsNext own) → ((next : Node) → IsMine own next → reasons_from true seen (flat_map step_used (walked view next names).0) ≡ [] → All (IsMine own) (walked view next names).0)
          → reasons_from true seen (flat_map step_used (walk_on o (λ next. walked view next names)).0) ≡ [] → All (IsMine own) (walk_on o (λ next. walked view next names)).0
      by (Err n) next_is more fine = All-nil (IsMine own)
      by (Ok next) next_is more fine = decide next_is
        where
          parts : (reasons_from true seen (step_used next) ≡ []) × (reasons_from true seen (flat_map step_used (walked view next names).0) ≡ [])
          parts = fine_parts true seen (step_used next) (flat_map step_used (walked view next names).0) (quiet_step next next.kind) fine

          decide : IsNext own next → All (IsMine own) (next ∷ (walked view next names).0)
          decide (inl is) = All-cons (IsMine own) next (walked view next names).0 is (more next is parts.1)
          decide (inr wsys) = absurd (no_wsys seen next wsys parts.0)
