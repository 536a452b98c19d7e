-- Characters that are added at the end, taken away there, and joined.
use Rattle.std.proofs.Common.{◌≡◌, ℕ, ◌+◌, ◌-◌, List, [], ◌∷◌, ◌++◌, length, take, drop, refl, sym, ap, ◌∙◌, arith, length-append, length-take, length-drop}
use Rattle.std.proofs.lemmas.List.{take-append-drop, take-append-le, drop-append-le, take_all}
use Rattle.std.proofs.lemmas.List.Sums.{sum_by-append, sum_by-cons}
use Rattle.std.specs.List.{sum_by, concat}
use Rattle.model_files.specs.console.Console.{without_last}
use Rattle.model_files.proofs.console.Bounds.{length-concat}
use Rattle.r9_cons.specs.Line.{cut, total}

total-cons : (len : ℕ) (lens : List ℕ) → total (len ∷ lens) ≡ len + total lens
total-cons len lens = sum_by-cons (λ n. n) len lens

total-push : (lens : List ℕ) (len : ℕ) → total (lens ++ len ∷ []) ≡ total lens + len
total-push lens len = let e = sum_by-append (λ (n : ℕ). n) lens (len ∷ []) in let f = total-cons len [] in omega arith

pub length-cut : (lens bytes : List ℕ) → length (cut lens bytes) ≡ length lens
length-cut [] bytes = refl
length-cut (len ∷ lens) bytes = let rest = length-cut lens (drop len bytes) in omega arith

pub concat-cut : (lens bytes : List ℕ) → total lens ≡ length bytes → concat (cut lens bytes) ≡ bytes
concat-cut [] bytes e = sym (none bytes e)
  where
    none : (xs : List ℕ) → 0 ≡ length xs → xs ≡ []
    none [] e = refl
    none (x ∷ xs) e = absurd (omega arith)
concat-cut (len ∷ lens) bytes e =
    let rest = concat-cut lens (drop len bytes) (omega (arith, total-cons len lens, length-drop len bytes)) in
    ap (λ xs. take len bytes ++ xs) rest ∙ take-append-drop len bytes

pub bytes-cut : (lens bytes : List ℕ) → total lens ≡ length bytes → length bytes ≡ sum_by length (cut lens bytes)
bytes-cut lens bytes e = sym (ap length (concat-cut lens bytes e)) ∙ length-concat (cut lens bytes)

pub cut-push : (lens bytes key : List ℕ) → total lens ≡ length bytes → cut (lens ++ length key ∷ []) (bytes ++ key) ≡ cut lens bytes ++ key ∷ []
cut-push [] [] key e = ap (λ (k : List ℕ). k ∷ []) (take_all (length key) key (omega arith))
cut-push [] (b ∷ bytes) key e = absurd (omega arith)
cut-push (len ∷ lens) bytes key e =
    let whole = total-cons len lens in
    let front : take len (bytes ++ key) ≡ take len bytes = take-append-le len bytes key (omega arith) in
    let behind : drop len (bytes ++ key) ≡ drop len bytes ++ key = drop-append-le len bytes key (omega arith) in
    let rest = cut-push lens (drop len bytes) key (omega (arith, length-drop len bytes)) in
    ap (λ (x : List ℕ). x ∷ cut (lens ++ length key ∷ []) (drop len (bytes ++ key))) front
    ∙ ap (λ (x : List ℕ). take len bytes ∷ cut (lens ++ length key ∷ []) x) behind
    ∙ ap (λ (xs : List (List ℕ)). take len bytes ∷ xs) rest

pub total-pushed : (lens bytes key : List ℕ) → total lens ≡ length bytes → total (lens ++ length key ∷ []) ≡ length (bytes ++ key)
total-pushed lens bytes key e = omega (arith, total-push lens (length key), length-append bytes key)

without_last-push : {A : Type 0} (xs : List A) (x : A) → without_last (xs ++ x ∷ []) ≡ xs
without_last-push xs x =
    let len : length (xs ++ x ∷ []) - 1 ≡ length xs = omega (arith, length-append xs (x ∷ [])) in
    ap (λ n. take n (xs ++ x ∷ [])) len ∙ take-append-le (length xs) xs (x ∷ []) (omega arith) ∙ take_all (length xs) xs (omega arith)

-- the last character is popped
pub cut-popped : (all lens bytes : List ℕ) (len : ℕ) → all ≡ lens ++ len ∷ [] → total all ≡ length bytes
    → (cut lens (take (length bytes - len) bytes) ≡ without_last (cut all bytes)) × (total lens ≡ length (take (length bytes - len) bytes))
cut-popped all lens bytes len is e = (popped, short)
  where
    k : ℕ
    k = length bytes - len

    sums : total all ≡ total lens + len
    sums = ap total is ∙ total-push lens len

    short : total lens ≡ length (take (length bytes - len) bytes)
    short = let s = sums in omega (arith, length-take (length bytes - len) bytes, e)

    same : len ≡ length (drop (length bytes - len) bytes)
    same = let s = sums in omega (arith, length-drop (length bytes - len) bytes, e)

    popped : cut lens (take (length bytes - len) bytes) ≡ without_last (cut all bytes)
    popped =
        sym (without_last-push (cut lens (take (length bytes - len) bytes)) (drop (length bytes - len) bytes))
        ∙ ap without_last (sym (cut-push lens (take (length bytes - len) bytes) (drop (length bytes - len) bytes) short))
        ∙ ap (λ (n : ℕ). without_last (cut (lens ++ n ∷ []) (take (length bytes - len) bytes ++ drop (length bytes - len) bytes))) (sym same)
        ∙ ap (λ (xs : List ℕ). without_last (cut (lens ++ len ∷ []) xs)) (take-append-drop (length bytes - len) bytes)
        ∙ ap (λ (ns : List ℕ). without_last (cut ns bytes)) (sym is)
