-- A line of numbers is read where it stands.
use Rattle.std.proofs.Common.{◌≡◌, ◌∙◌, ℕ, ◌+◌, ◌<◌, ◌==◌, Bool, true, false, cond, ltb, List, [], ◌∷◌, ◌++◌, length, take, drop, Ok, Err, refl, ap, append_assoc, arith}
use Rattle.std.specs.Prelude.{map, if◌then◌else◌}
use Rattle.std.specs.Fmt.{decimal}
use Rattle.std.specs.List.{flat_map, list_all, onto_first, prefix_len, slice_split}
use Rattle.std.proofs.Math.Seq.{drop-append_seam, take-append_seam}
use Rattle.std.proofs.lemmas.Bool.{and_from, and_parts, lt-ltb, not-true}
use Rattle.std.proofs.lemmas.List.{append-nil, length-append, length-drop}
use Rattle.std.proofs.lemmas.List.Folds.{list_all-append}
use Rattle.std.proofs.lemmas.List.Splits.{slice_split-cons_no}
use Rattle.model_text.specs.text.Outcome.{Outcome}
use Rattle.model_client.specs.mirror.Frames.{line_at}
use Rattle.model_mirror.specs.Frame.{numbers_line}
use Rattle.model_mirror.proofs.Numerals.{decimal_unlike, unlike, AreShort}

-- ---- words

-- the words of a text
abbrev pub words : List ℕ → List (List ℕ)
words text = slice_split (λ byte. byte == 32) text

word_first : (word rest : List ℕ) → list_all (unlike 32) word ≡ true → words (word ++ 32 ∷ rest) ≡ word ∷ words rest
word_first [] rest h = refl
word_first (c ∷ word) rest h =
    let parts = and_parts (unlike 32 c) (list_all (unlike 32) word) h in
    slice_split-cons_no (λ byte. byte == 32) c (word ++ 32 ∷ rest) (not-true (c == 32) parts.0) ∙ ap (onto_first c) (word_first word rest parts.1)

word_last : (word : List ℕ) → list_all (unlike 32) word ≡ true → words word ≡ word ∷ []
word_last [] h = refl
word_last (c ∷ word) h =
    let parts = and_parts (unlike 32 c) (list_all (unlike 32) word) h in
    slice_split-cons_no (λ byte. byte == 32) c word (not-true (c == 32) parts.0) ∙ ap (onto_first c) (word_last word parts.1)

-- numbers, each behind a blank
abbrev spaced : List ℕ → List ℕ
spaced ns = flat_map (λ n. 32 ∷ decimal n) ns

words_are : (word : List ℕ) (ns : List ℕ) → list_all (unlike 32) word ≡ true → AreShort ns → words (word ++ spaced ns) ≡ word ∷ map decimal ns
words_are word [] h short = ap words (append-nil word) ∙ word_last word h
words_are word (n ∷ ns) h short =
    word_first word (decimal n ++ spaced ns) h ∙ ap (λ (ws : List (List ℕ)). word ∷ ws) (words_are (decimal n) ns (decimal_unlike 32 n (omega arith) short.0) short.1)

spaced_unlike : (ns : List ℕ) → AreShort ns → list_all (unlike 10) (spaced ns) ≡ true
spaced_unlike [] short = refl
spaced_unlike (n ∷ ns) short =
    list_all-append (unlike 10) (decimal n) (spaced ns) ∙ and_from (list_all (unlike 10) (decimal n)) (list_all (unlike 10) (spaced ns)) (decimal_unlike 10 n (omega arith) short.0) (spaced_unlike ns short.1)

-- ---- lines

prefix_all : (p : ℕ → Bool) (xs ys : List ℕ) (y : ℕ) → list_all p xs ≡ true → p y ≡ false → prefix_len p (xs ++ y ∷ ys) ≡ length xs
prefix_all p [] ys y all stop = ap (λ (b : Bool). cond b (1 + prefix_len p ys) 0) stop
prefix_all p (x ∷ xs) ys y all stop =
    let parts = and_parts (p x) (list_all p xs) all in
    ap (λ (b : Bool). cond b (1 + prefix_len p (xs ++ y ∷ ys)) 0) parts.0 ∙ omega (arith, prefix_all p xs ys y parts.1 stop)

-- the line of which so many bytes stand before the newline, by what stands at its place
abbrev pub line_from : (at total : ℕ) → List ℕ → ℕ → Outcome (List (List ℕ) × ℕ)
line_from at total rest len = if ltb (at + len) total then Ok (words (take len rest), at + len + 1) else Err at

line_is : (text line rest : List ℕ) (at : ℕ) → drop at text ≡ line ++ 10 ∷ rest → list_all (unlike 10) line ≡ true → line_at text at ≡ Ok (words line, at + length line + 1)
line_is text line rest at stands all =
    let total = length text in
    let all_of = line ++ 10 ∷ rest in
    let room : at + length line < total = omega (arith, length-drop at text, ap length stands, length-append line (10 ∷ rest)) in
    ap (λ (bytes : List ℕ). line_from at total bytes (prefix_len (unlike 10) bytes)) stands
    ∙ ap (line_from at total all_of) (prefix_all (unlike 10) line rest 10 all refl)
    ∙ ap (λ (b : Bool). if b then Ok (words (take (length line) all_of), at + length line + 1) else Err at) (lt-ltb (at + length line) total room)
    ∙ ap (λ (bytes : List ℕ). Ok (words bytes, at + length line + 1)) (take-append_seam line (10 ∷ rest))

pub line_read : (front rest : List ℕ) (letter : ℕ) (ns : List ℕ) → unlike 32 letter ≡ true → unlike 10 letter ≡ true → AreShort ns
    → line_at (front ++ (numbers_line letter ns ++ rest)) (length front) ≡ Ok ((letter ∷ []) ∷ map decimal ns, length front + length (numbers_line letter ns))
line_read front rest letter ns word line short =
    let text = letter ∷ spaced ns in
    let stands : drop (length front) (front ++ (numbers_line letter ns ++ rest)) ≡ text ++ 10 ∷ rest =
    drop-append_seam front (numbers_line letter ns ++ rest) ∙ append_assoc text (10 ∷ []) rest in
    let all : list_all (unlike 10) text ≡ true = and_from (unlike 10 letter) (list_all (unlike 10) (spaced ns)) line (spaced_unlike ns short) in
    let first : list_all (unlike 32) (letter ∷ []) ≡ true = and_from (unlike 32 letter) true word refl in
    line_is (front ++ (numbers_line letter ns ++ rest)) text rest (length front) stands all
    ∙ ap (λ (ws : List (List ℕ)). Ok (ws, length front + length text + 1)) (words_are (letter ∷ []) ns first short)
    ∙ ap (λ (n : ℕ). Ok ((letter ∷ []) ∷ map decimal ns, n)) (omega (arith, length-append text (10 ∷ [])))
