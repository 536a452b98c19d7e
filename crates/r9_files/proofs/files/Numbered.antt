-- Kinds of files by their numbers, and directories by their qids.
use Rattle.std.proofs.Common.{◌≡◌, ◌≤◌, ◌||◌, ℕ, Bool, true, false, cond, eqb, refl, ap, sym, ◌∙◌, arith}
use Rattle.std.proofs.lemmas.Bool.{agree_below_at, eqb-true}
use Rattle.model_text.proofs.map.Keys.{not_key}
use Rattle.model_files.specs.tree.Node.{Node, row, kind_numbered, qid, is_directory}

-- the kind of a number has that number
pub number_numbered : (n : ℕ) → 1 ≤ n → n ≤ 25 → (row (kind_numbered n)).number ≡ n
unfolding kind_numbered row
number_numbered n from to =
    let table = agree_below_at (λ k. eqb k 0 || eqb (row (kind_numbered k)).number k) (λ _. true) 26 n refl (omega arith) in
    let some : eqb n 0 ≡ false = not_key n 0 (λ is. omega (arith, is)) in
    eqb-true _ _ (sym (ap (λ (b : Bool). b || eqb (row (kind_numbered n)).number n) some) ∙ table)

kind_of : (b : Bool) → eqb (cond b 0x80 0) 0x80 ≡ b
kind_of true = refl
kind_of false = refl

-- a directory's qid has a kind of its own
pub qid_tells : (node : Node) → eqb (qid node).kind 0x80 ≡ is_directory node
unfolding qid
qid_tells node = kind_of (is_directory node)
