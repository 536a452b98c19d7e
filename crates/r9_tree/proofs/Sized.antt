-- Each stat of a listing begins with the length of what follows.
use Rattle.std.proofs.Common.{◌≡◌, refl, ◌+◌, ◌/◌, ◌%◌, ◌≤◌, ◌==◌, ℕ, true, false, cond, List, [], ◌∷◌, ◌++◌, map, length, zero, suc, arith}
use Rattle.std.specs.List.{All, AllByRecursion}
use Rattle.std.specs.Fmt.{decimal, digits, digits_onto, digit_glyph}
use Rattle.std.proofs.lemmas.List.Elements.{All-from_recursion}
use Rattle.model_files.specs.wire.Spelling.{stat_bytes, stat_body, sized}
use Rattle.model_files.specs.declared.tree.Kind.{Kind}
use Rattle.model_files.specs.tree.Node.{Node, row}
use Rattle.model_files.specs.tree.Tree.{View, kinds_in, numbered_in, placed, files, stat_named}
use Rattle.model_files.specs.tree.Listing.{stats, IsSized, first_length}
use Rattle.r9_tree.proofs.Named.{row_is_named, length_of_stat}

digits_short : (k n : ℕ) (acc : List ℕ) → length (digits_onto k 10 false n acc) ≤ k + length acc
digits_short zero n acc = omega arith
digits_short (suc k) n acc =
    let digit = digit_glyph false (n % 10) in
    elim (n / 10 == 0) as (λ b. length (cond b (digit ∷ acc) (digits_onto k 10 false (n / 10) (digit ∷ acc))) ≤ suc k + length acc) [
      | true ↦ omega arith
      | false ↦ omega (arith, digits_short k (n / 10) (digit ∷ acc))
    ]

decimal_short : (n : ℕ) → length (decimal n) ≤ 64
unfolding digits
decimal_short n = digits_short 64 n []

stat_is_sized : (name : List ℕ) (node : Node) → length name ≤ 64 → IsSized (stat_bytes (stat_named name node))
stat_is_sized name node short = record {
  body = stat_body (stat_named name node);
  fits = omega (arith, length_of_stat name node, short);
  spelled = refl;
}

stat_at : List ℕ × Node → List ℕ
stat_at file = stat_bytes (stat_named file.0 file.1)

numbers_are_sized : (entries : List (ℕ × Node)) → AllByRecursion IsSized (map stat_at (map (λ entry. (decimal entry.0, entry.1)) entries))
unfolding stat_at
numbers_are_sized [] = tt
numbers_are_sized (e ∷ es) = (stat_is_sized (decimal e.0) e.1 (decimal_short e.0), numbers_are_sized es)

files_are_sized : (view : View) (node : Node) (kinds : List Kind) (rest : List (List ℕ × Node)) → AllByRecursion IsSized (map stat_at rest)
    → AllByRecursion IsSized (map stat_at (map (λ kind. ((row kind).name, placed view node kind)) kinds ++ rest))
unfolding stat_at
files_are_sized view node [] rest all = all
files_are_sized view node (k ∷ ks) rest all =
    let short : length (row k).name ≤ 10 = (row_is_named k).short in
    (stat_is_sized (row k).name (placed view node k) (omega (arith, short)), files_are_sized view node ks rest all)

pub stats_are_sized : (view : View) (node : Node) → All IsSized (stats view node)
unfolding stats files stat_at
stats_are_sized view node =
    All-from_recursion IsSized _ (files_are_sized view node (kinds_in node.kind) _ (numbers_are_sized (numbered_in view node node.kind)))

pub first_length_is : (piece rest : List ℕ) → IsSized piece → first_length (piece ++ rest) ≡ length piece
unfolding sized
first_length_is piece rest is = rw is.spelled (omega (arith, is.fits))
