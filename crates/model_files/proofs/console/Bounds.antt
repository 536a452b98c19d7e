-- How much waits in a console.
use Rattle.std.proofs.Common.{◌≡◌, eqb, ℕ, suc, zero, ◌+◌, ◌-◌, ◌≤◌, Bool, true, false, cond, ◌&&◌, not, min, List, [], ◌∷◌, ◌++◌, length, drop, refl, sym, ap, ◌∙◌, arith, length-append, length-drop, length-take}
use Rattle.std.proofs.lemmas.Bool.{leb-true}
use Rattle.std.proofs.Math.Dec.{leb}
use Rattle.std.proofs.lemmas.List.Sums.{sum_by-append, sum_by-cons, sum_by-take-le}
use Rattle.std.specs.List.{fold, concat, sum_by}
use Rattle.model_files.specs.console.Console.{Console, empty, held, has_room, is_key, keyed, raw_key, cooked_key, with_raw, with_line_ended, without_last, after_read, rest}
use Rattle.model_files.specs.console.Happening.{Happening, Key, Raw, Written, Answer, happened, console_after}

pub length-concat : (xs : List (List ℕ)) → length (concat xs) ≡ sum_by length xs
length-concat [] = refl
length-concat (x ∷ xs) =
    let f : List ℕ → ℕ = length in length-append x (concat xs) ∙ ap (λ n. length x + n) (length-concat xs) ∙ sym (sum_by-cons f x xs)

-- At most 8,192 bytes wait while there is a line, and one more where there is none.
pub record IsBounded (c : Console) : Type 0 where
  pub few : held c + min 1 (length c.line) ≤ 8193

bounded : (line ended : List (List ℕ)) (raw : Bool) (written : List ℕ) → sum_by (λ (l : List ℕ). length l + 1) ended + sum_by length line + min 1 (length line) ≤ 8193
    → IsBounded (record { line = line; ended = ended; raw = raw; written = written })
bounded line ended raw written few = record { few = few }

pick : (b : Bool) (x y : Console) → (b ≡ true → IsBounded x) → IsBounded y → IsBounded (cond b x y)
pick true x y small otherwise = small refl
pick false x y small otherwise = otherwise

pub one_more_ended : (ended : List (List ℕ)) (line : List ℕ) → sum_by (λ (l : List ℕ). length l + 1) (ended ++ line ∷ []) ≡ sum_by (λ (l : List ℕ). length l + 1) ended + (length line + 1)
one_more_ended ended line = let f : List ℕ → ℕ = λ l. length l + 1 in let e = sum_by-append f ended (line ∷ []) in omega arith

pub line-ended : (bytes : List ℕ) (raw : Bool) (c : Console) → held c + length bytes + 1 ≤ 8193 → IsBounded (record (with_line_ended bytes c) { raw = raw })
line-ended bytes raw c room =
    bounded [] (c.ended ++ (concat c.line ++ bytes) ∷ []) raw _
    (omega (arith, one_more_ended c.ended (concat c.line ++ bytes), length-append (concat c.line) bytes, length-concat c.line))

newline : (key : List ℕ) → is_key 10 key ≡ true → length key ≡ 1
newline [] e = absurd cc
newline (b ∷ []) e = refl
newline (b ∷ d ∷ key) e = absurd cc

typed : (key : List ℕ) (c : Console) → has_room (length key) c ≡ true → IsBounded (record c { line = c.line ++ key ∷ [] })
typed key c room =
    let le = leb-true (held c + length key) 8192 room in
    let f : List ℕ → ℕ = length in
    let more = sum_by-append f c.line (key ∷ []) in
    bounded (c.line ++ key ∷ []) c.ended c.raw c.written (omega arith)

pub cooked-bounded : (key : List ℕ) (c : Console) → IsBounded c → IsBounded (cooked_key key c)
cooked-bounded key c h =
    pick (is_key 8 key) _ _ (λ _. erased)
    (pick (is_key 21 key) _ _ (λ _. killed)
    (by_kind (is_key 4 key) refl (is_key 10 key) refl))
  where
    erased : IsBounded (record c { line = without_last c.line })
    erased = bounded (without_last c.line) c.ended c.raw c.written (omega (arith, h.few, sum_by-take-le length c.line (length c.line - 1), length-take (length c.line - 1) c.line))

    killed : IsBounded (record c { line = [] })
    killed = bounded [] c.ended c.raw c.written (omega (arith, h.few))

    added : IsBounded (cond (has_room (length key) c) (record c { line = c.line ++ key ∷ [] }) c)
    added = pick (has_room (length key) c) _ _ (typed key c) h

    by_kind : (ends : Bool) → ends ≡ is_key 4 key → (newlines : Bool) → newlines ≡ is_key 10 key
        → IsBounded (cond ends (cond (has_room 1 c) (with_line_ended [] c) c) (cond newlines (cond (has_room 2 c) (with_line_ended key c) c) (cond (has_room (length key) c) (record c { line = c.line ++ key ∷ [] }) c)))
    by_kind true e newlines f = pick (has_room 1 c) _ _ (λ room. line-ended [] c.raw c (omega (arith, leb-true (held c + 1) 8192 room))) h
    by_kind false e true f = pick (has_room 2 c) _ _ (λ room. line-ended key c.raw c (omega (arith, leb-true (held c + 2) 8192 room, newline key (sym f)))) h
    by_kind false e false f = added

pub keyed-bounded : (key : List ℕ) (c : Console) → IsBounded c → IsBounded (keyed key c)
unfolding keyed
keyed-bounded key c h =
    pick c.raw (raw_key key c) (cooked_key key c) (λ _. pick (has_room (length key + 1) c) _ _ raw h) (cooked-bounded key c h)
  where
    raw : has_room (length key + 1) c ≡ true → IsBounded (record c { ended = c.ended ++ key ∷ [] })
    raw room = bounded c.line (c.ended ++ key ∷ []) c.raw c.written (omega (arith, leb-true (held c + (length key + 1)) 8192 room, one_more_ended c.ended key))

pub with_raw-bounded : (raw : Bool) (c : Console) → IsBounded c → IsBounded (with_raw raw c)
unfolding with_raw
with_raw-bounded raw c h =
    pick (raw && not (eqb (length c.line) 0)) _ _ (λ both. line-ended [] raw c (omega (arith, h.few, some raw (length c.line) both)))
    (bounded c.line c.ended raw c.written h.few)
  where
    some : (b : Bool) (n : ℕ) → (b && not (eqb n 0)) ≡ true → 1 ≤ n
    some true (suc n) e = omega arith
    some true zero e = absurd cc
    some false n e = absurd cc

-- what a line counts for
abbrev counts : List ℕ → ℕ
counts line = length line + 1

less : (count : ℕ) (ended : List (List ℕ)) → sum_by counts (rest count ended) ≤ sum_by counts ended
less count [] = omega arith
less count (line ∷ lines) = by_length (leb (length line) count)
  where
    by_length : (b : Bool) → sum_by counts (cond b lines (drop count line ∷ lines)) ≤ sum_by counts (line ∷ lines)
    by_length true = let whole = sum_by-cons counts line lines in omega arith
    by_length false = let whole = sum_by-cons counts line lines in let part = sum_by-cons counts (drop count line) lines in omega (arith, length-drop count line)

pub after_read-bounded : (count : ℕ) (c : Console) → IsBounded c → IsBounded (after_read count c)
unfolding after_read
after_read-bounded count c h =
    pick (eqb count 0) _ _ (λ _. h) (bounded c.line (rest count c.ended) c.raw c.written (omega (arith, h.few, less count c.ended)))

step : (now : Happening) (c : Console) → IsBounded c → IsBounded (happened c now)
step (Key key) c h = keyed-bounded key c h
step (Raw raw) c h = with_raw-bounded raw c h
step (Written bytes) c h = bounded c.line c.ended c.raw _ h.few
step (Answer count) c h = after_read-bounded count c h

along : (all : List Happening) (c : Console) → IsBounded c → IsBounded (fold happened c all)
along [] c h = h
along (now ∷ all) c h = along all (happened c now) (step now c h)

pub few_wait : (all : List Happening) → held (console_after all) ≤ 8193
unfolding console_after
few_wait all = let h = along all empty (record { few = omega arith }) in omega (arith, h.few)
