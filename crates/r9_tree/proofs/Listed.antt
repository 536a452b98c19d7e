-- A listing, from the stats of what a directory always has and of what has a number.
use Rattle.std.proofs.Common.{◌≡◌, ◌∙◌, refl, sym, ap, ◌<◌, ℕ, List, [], ◌∷◌, ◌++◌, map, length, zero, suc, arith}
use mathlib.Core.List.{append_assoc}
use Rattle.std.specs.List.{concat, flat_map, zip, slice_index_or}
use Rattle.std.specs.Fmt.{decimal}
use Rattle.std.proofs.lemmas.List.Concat.{flat_map-cons}
use Rattle.model_files.specs.wire.Spelling.{stat_bytes}
use Rattle.model_files.specs.declared.tree.Kind.{Kind}
use Rattle.model_files.specs.declared.tree.Kind.TheVariants.{Draw, Wsys}
use Rattle.model_files.specs.tree.Node.{Node, row}
use Rattle.model_files.specs.tree.Tree.{View, kinds_in, numbered_in, placed, connection_at, window_at, files, stat_named}
use Rattle.model_files.specs.tree.Listing.{stats, listing}
use Rattle.r9_tree.specs.Stats.{kind_stat, numbered_stat, connection_stat, window_stat}

pub flat_map_map : {X Y : Type 0} (f : Y → List ℕ) (g : X → Y) (xs : List X) → flat_map f (map g xs) ≡ flat_map (λ x. f (g x)) xs
flat_map_map f g [] = refl
flat_map_map f g (x ∷ xs) =
    flat_map-cons f (g x) (map g xs) ∙ ap (λ rest. f (g x) ++ rest) (flat_map_map f g xs) ∙ sym (flat_map-cons (λ x. f (g x)) x xs)

pub numbered_connections : (view : View) (node : Node) (kind : Kind) → kind ≡ Draw
    → flat_map (connection_stat node) view.connections ≡ flat_map numbered_stat (numbered_in view node kind)
numbered_connections view node kind is = rw is (sym (flat_map_map numbered_stat (λ n. (n, connection_at node n)) view.connections))

pub numbered_windows : (view : View) (node : Node) (kind : Kind) → kind ≡ Wsys
    → flat_map (window_stat node) view.windows ≡ flat_map numbered_stat (numbered_in view node kind)
numbered_windows view node kind is = rw is (sym (flat_map_map numbered_stat (λ w. (w.0, window_at node w.1)) view.windows))

-- the item of two lists side by side
pub zip_at : (xs ys : List ℕ) (i : ℕ) → i < length xs → length xs ≡ length ys
    → slice_index_or (zip xs ys) i (0, 0) ≡ (slice_index_or xs i 0, slice_index_or ys i 0)
zip_at [] ys i inside same = absurd (omega arith)
zip_at (x ∷ xs) [] i inside same = absurd (omega arith)
zip_at (x ∷ xs) (y ∷ ys) zero inside same = refl
zip_at (x ∷ xs) (y ∷ ys) (suc i) inside same = zip_at xs ys i (omega arith) (omega arith)

pub zip_length : (xs ys : List ℕ) → length xs ≡ length ys → length (zip xs ys) ≡ length xs
zip_length [] ys same = refl
zip_length (x ∷ xs) [] same = absurd (omega arith)
zip_length (x ∷ xs) (y ∷ ys) same = omega (arith, zip_length xs ys (omega arith))

stat_at : List ℕ × Node → List ℕ
stat_at file = stat_bytes (stat_named file.0 file.1)

joined : {X : Type 0} (name : X → List ℕ) (node : X → Node) (xs : List X) (fs : List (List ℕ × Node))
    → concat (map stat_at (map (λ x. (name x, node x)) xs ++ fs)) ≡ flat_map (λ x. stat_bytes (stat_named (name x) (node x))) xs ++ concat (map stat_at fs)
unfolding stat_at
joined name node [] fs = refl
joined {X = X} name node (x ∷ xs) fs =
    let f : X → List ℕ = λ x. stat_bytes (stat_named (name x) (node x)) in
    ap (λ rest. f x ++ rest) (joined name node xs fs) ∙ sym (append_assoc (f x) _ _) ∙ ap (λ front. front ++ concat (map stat_at fs)) (sym (flat_map-cons f x xs))

numbered_joined : (entries : List (ℕ × Node)) → concat (map stat_at (map (λ entry. (decimal entry.0, entry.1)) entries)) ≡ flat_map numbered_stat entries
unfolding stat_at numbered_stat
numbered_joined [] = refl
numbered_joined (e ∷ es) = ap (λ rest. numbered_stat e ++ rest) (numbered_joined es) ∙ sym (flat_map-cons numbered_stat e es)

pub listing_is : (view : View) (node : Node)
    → flat_map (kind_stat view node) (kinds_in node.kind) ++ flat_map numbered_stat (numbered_in view node node.kind) ≡ listing view node
unfolding listing stats files kind_stat stat_at
listing_is view node =
    sym (joined (λ kind. (row kind).name) (placed view node) (kinds_in node.kind) (map (λ entry. (decimal entry.0, entry.1)) (numbered_in view node node.kind))
    ∙ ap (λ rest. flat_map (kind_stat view node) (kinds_in node.kind) ++ rest) (numbered_joined (numbered_in view node node.kind)))
