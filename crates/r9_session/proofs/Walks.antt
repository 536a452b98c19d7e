-- Walks.
use Rattle.std.specs.Prelude.{◌==◌, ◌&&◌, is_some, not}
use Rattle.std.proofs.Common.{◌≡◌, ◌∙◌, ℕ, ◌+◌, ◌≤◌, Bool, true, false, Some, refl, List, [], ◌∷◌, ◌++◌, length, map, Option, Ok, Err, ap, arith}
use Rattle.std.proofs.lemmas.List.{length-append, length-map}
use Rattle.model_files.specs.wire.Message.{Qid}
use Rattle.model_text.specs.text.Outcome.{Outcome, ◌>>=◌, refuse_if, value_or_refuse}
use Rattle.model_text.specs.text.Map.{lookup}
use Rattle.model_files.specs.tree.Node.{Node, qid}
use Rattle.model_files.specs.tree.Tree.{View, walk}
use Rattle.model_world.specs.Walking.{walk_answer, walk_ended, walk_on, walked}
use Rattle.model_world.specs.Session.{Fid, Session}
use Rattle.model_world.specs.Fids.{is_bound, is_full}
use Rattle.model_world.specs.Outside.{Outside}

walk_on_few : (next : Outcome Node) (further : Node → List Node × Option ℕ) (n : ℕ) → ((node : Node) → length (further node).0 ≤ n) → length (walk_on next further).0 ≤ n + 1
walk_on_few (Err refusal) further n few = omega arith
walk_on_few (Ok node) further n few = omega (arith, few node)

-- no more files are on the way than the walk has names
pub walked_few : (view : Node → View) (node : Node) (names : List (List ℕ)) → length (walked view node names).0 ≤ length names
walked_few view node [] = omega arith
walked_few view node (name ∷ names) =
    omega (arith, walk_on_few (walk (view node) node name) (λ next. walked view next names) (length names) (λ next. walked_few view next names))

pub few_qids : (view : Node → View) (from : Node) (names : List (List ℕ)) (before after : List Qid) → before ≡ [] → after ≡ before ++ map qid (walked view from names).0 → length names ≤ 16
    → length after ≤ 16
few_qids view from names before after none is few =
    omega (arith, ap length is, length-append before (map qid (walked view from names).0), ap length none, length-map (walked view from names).0 qid, walked_few view from names)

passed : {A : Type 0} (n : ℕ) (b : Bool) (r : Outcome A) → b ≡ false → (refuse_if b n >>= λ _. r) ≡ r
passed n true r is = absurd (cc is)
passed n false r is = refl

free_or_same : (a b : Bool) → (a ≡ false → b ≡ false) → (not a && b) ≡ false
free_or_same true b free = refl
free_or_same false b free = free refl

-- a walk from a fid that is not open to one that is free, or the same
pub walk_is : {S : Type 0} (outside : Outside S) (session : Session) (rest : S) (tag fid newfid : ℕ) (names : List (List ℕ)) (from : Fid) → lookup session.fids fid ≡ Some from → is_some from.mode ≡ false
    → ((newfid == fid) ≡ false → is_bound session newfid ≡ false) → ((newfid == fid) ≡ false → is_full session ≡ false)
    → walk_answer outside session rest tag fid newfid names ≡ walk_ended session tag fid newfid from.node (walked (outside.view rest session.connections) from.node names)
unfolding walk_answer
walk_is outside session rest tag fid newfid names from at closed free room =
    ap (λ (o : Option Fid). value_or_refuse o 32 >>= λ f.
    refuse_if (is_some f.mode) 36 >>= λ _.
    refuse_if (not (newfid == fid) && is_bound session newfid) 33 >>= λ _.
    refuse_if (not (newfid == fid) && is_full session) 44 >>= λ _.
    walk_ended session tag fid newfid f.node (walked (outside.view rest session.connections) f.node names)) at
    ∙ passed 36 _ _ closed
    ∙ passed 33 _ _ (free_or_same (newfid == fid) (is_bound session newfid) free)
    ∙ passed 44 _ _ (free_or_same (newfid == fid) (is_full session) room)
