-- What some lists of keys give, by computing.
use Rattle.std.specs.Prelude.{◌≡◌, refl, ℕ, true, false, List, [], ◌∷◌, ◌++◌, map, codes, Option, Some, None, replicate}
use Rattle.model_files.specs.console.Console.{Console, keyed, with_raw, read, after_read, text, held}
use Rattle.model_files.specs.console.Happening.{Happening, Key, Raw, Written, Answer, console_after}

-- keys of one byte each
abbrev keys : List ℕ → List Happening
keys bytes = map (λ byte. Key (byte ∷ [])) bytes

abbrev gives : ℕ → List Happening → Option (List ℕ)
gives count all = read count (console_after all)

reads : map (λ (row : ℕ × List Happening). gives row.0 row.1)
    (
    (100, []) ∷
    (0, []) ∷
    (100, keys (97 ∷ 98 ∷ [])) ∷
    (100, keys (97 ∷ 98 ∷ 8 ∷ 99 ∷ 10 ∷ [])) ∷
    (100, keys (97 ∷ 98 ∷ 21 ∷ 99 ∷ 10 ∷ [])) ∷
    (100, keys (8 ∷ 97 ∷ 8 ∷ 8 ∷ 98 ∷ 4 ∷ [])) ∷
    (100, keys (4 ∷ 97 ∷ 10 ∷ [])) ∷
    (100, keys (4 ∷ 97 ∷ 10 ∷ []) ++ Answer 100 ∷ []) ∷
    (2, keys (97 ∷ 98 ∷ 99 ∷ 10 ∷ [])) ∷
    (2, keys (97 ∷ 98 ∷ 99 ∷ 10 ∷ []) ++ Answer 2 ∷ []) ∷
    (2, keys (97 ∷ 98 ∷ 99 ∷ 10 ∷ []) ++ Answer 2 ∷ Answer 2 ∷ []) ∷
    (9, keys (97 ∷ 10 ∷ 98 ∷ 10 ∷ [])) ∷
    (9, keys (97 ∷ 10 ∷ 98 ∷ 10 ∷ []) ++ Answer 0 ∷ Answer 9 ∷ []) ∷
    (9, Key (97 ∷ []) ∷ Key (195 ∷ 169 ∷ []) ∷ Key (8 ∷ []) ∷ Key (10 ∷ []) ∷ []) ∷
    (9, Raw true ∷ keys (120 ∷ 121 ∷ [])) ∷
    (9, Raw true ∷ keys (120 ∷ 121 ∷ []) ++ Answer 9 ∷ []) ∷
    (9, Raw true ∷ keys (8 ∷ [])) ∷
    (9, keys (97 ∷ []) ++ Raw true ∷ []) ∷
    (9, keys (97 ∷ []) ++ Raw true ∷ Answer 9 ∷ []) ∷
    (9, Raw true ∷ Raw false ∷ keys (97 ∷ 10 ∷ [])) ∷ [])
    ≡ (
    None ∷
    Some [] ∷
    None ∷
    Some (97 ∷ 99 ∷ 10 ∷ []) ∷
    Some (99 ∷ 10 ∷ []) ∷
    Some (98 ∷ []) ∷
    Some [] ∷
    Some (97 ∷ 10 ∷ []) ∷
    Some (97 ∷ 98 ∷ []) ∷
    Some (99 ∷ 10 ∷ []) ∷
    None ∷
    Some (97 ∷ 10 ∷ []) ∷
    Some (98 ∷ 10 ∷ []) ∷
    Some (97 ∷ 10 ∷ []) ∷
    Some (120 ∷ []) ∷
    Some (121 ∷ []) ∷
    Some (8 ∷ []) ∷
    Some (97 ∷ []) ∷
    None ∷
    Some (97 ∷ 10 ∷ []) ∷ [])
unfolding console_after keyed with_raw read after_read
reads = refl

-- what is shown of what was written, of ended lines and of raw keys
texts : map (λ (all : List Happening). text (console_after all))
    (
    (Written (codes "one") ∷ keys (97 ∷ 98 ∷ [])) ∷
    (Written (codes "one") ∷ keys (97 ∷ 10 ∷ []) ++ Written (codes "two") ∷ []) ∷
    (keys (97 ∷ 4 ∷ []) ++ Raw true ∷ keys (120 ∷ [])) ∷
    (keys (97 ∷ []) ++ Raw true ∷ Answer 9 ∷ []) ∷ [])
    ≡ (codes "one" ∷ (codes "onea" ++ 10 ∷ codes "two") ∷ codes "a" ∷ codes "a" ∷ [])
unfolding console_after keyed with_raw after_read
texts = refl

-- a console in which so many bytes of one character wait
abbrev filled : ℕ → Console
filled n = record { line = replicate n 120 ∷ []; ended = []; raw = false; written = [] }

-- keys at the limit: a character of two bytes, a newline, the end of a file, a raw key, and raw mode itself
limits : map (λ c. held c)
    (keyed (195 ∷ 169 ∷ []) (filled 8190) ∷ keyed (195 ∷ 169 ∷ []) (filled 8191) ∷ keyed (10 ∷ []) (filled 8190) ∷ keyed (10 ∷ []) (filled 8191)
    ∷ keyed (4 ∷ []) (filled 8191) ∷ keyed (4 ∷ []) (filled 8192) ∷ with_raw true (filled 8192) ∷ keyed (120 ∷ []) (with_raw true (filled 8189))
    ∷ keyed (120 ∷ []) (with_raw true (filled 8190)) ∷ keyed (8 ∷ []) (filled 8192) ∷ [])
    ≡ (8192 ∷ 8191 ∷ 8192 ∷ 8191 ∷ 8192 ∷ 8192 ∷ 8193 ∷ 8192 ∷ 8191 ∷ 0 ∷ [])
unfolding keyed with_raw
limits = refl
