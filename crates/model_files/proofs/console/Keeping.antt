-- Forgetting the front of the text changes nothing else.
use Rattle.std.proofs.Common.{◌≡◌, eqb, ℕ, ◌+◌, ◌-◌, Bool, true, false, cond, ◌&&◌, not, List, [], ◌∷◌, ◌++◌, length, take, drop, Some, refl, sym, ap, ◌∙◌, append_assoc}
use Rattle.std.proofs.lemmas.List.{take-append-drop, take_all}
use Rattle.std.proofs.lemmas.Bool.{leb-true}
use Rattle.std.proofs.Math.Dec.{leb}
use Rattle.std.proofs.lemmas.List.Sums.{fold-append}
use Rattle.std.specs.List.{fold, concat}
use Rattle.std.specs.Option.{unwrap_or}
use Rattle.model_files.specs.console.Console.{Console, empty, last_of, text, remembered, keyed, cooked_key, with_raw, with_text, with_line_ended, without_last, is_key, has_room, read, given, after_read, rest}
use Rattle.model_files.proofs.console.Ends.{last_of-last_of, last_of-append}
use Rattle.model_files.specs.console.Happening.{Happening, Key, Raw, Written, Answer, happened, console_after, kept_after}

pub goes_on : (before : List Happening) (now : Happening) → console_after (before ++ now ∷ []) ≡ happened (console_after before) now
unfolding console_after
goes_on before now = fold-append happened empty before (now ∷ [])

-- ---- each step

-- a console, and another one whose text ends alike
record Alike (a b : Console) : Type 0 where
  same : remembered a ≡ remembered b

choice : (b : Bool) (x y x' y' : Console) → Alike x x' → Alike y y' → Alike (cond b x y) (cond b x' y')
choice true x y x' y' same same' = same
choice false x y x' y' same same' = same'

abbrev with_written : List (List ℕ) → List (List ℕ) → Bool → List ℕ → Console
with_written line ended raw written = record { line = line; ended = ended; raw = raw; written = written }

unchanged : (line ended : List (List ℕ)) (raw : Bool) (written : List ℕ) → Alike (with_written line ended raw (last_of 65536 written)) (with_written line ended raw written)
unchanged line ended raw written = record { same = ap (λ w. with_written line ended raw w) (last_of-last_of 65536 written) }

added : (line ended : List (List ℕ)) (raw : Bool) (written more : List ℕ) → Alike (with_written line ended raw (last_of 65536 written ++ more)) (with_written line ended raw (written ++ more))
added line ended raw written more = record { same = ap (λ w. with_written line ended raw w) (last_of-append 65536 written more) }

line_ended : (bytes : List ℕ) (raw : Bool) (c : Console) → Alike (record (with_line_ended bytes (remembered c)) { raw = raw }) (record (with_line_ended bytes c) { raw = raw })
line_ended bytes raw c = added [] (c.ended ++ (concat c.line ++ bytes) ∷ []) raw c.written (concat c.line ++ bytes)

cooked : (key : List ℕ) (c : Console) → Alike (cooked_key key (remembered c)) (cooked_key key c)
cooked key c =
    let same = λ (line : List (List ℕ)). unchanged line c.ended c.raw c.written in
    choice (is_key 8 key) _ _ _ _ (same (without_last c.line))
    (choice (is_key 21 key) _ _ _ _ (same [])
    (choice (is_key 4 key) _ _ _ _ (choice (has_room 1 c) _ _ _ _ (line_ended [] c.raw c) (same c.line))
    (choice (is_key 10 key) _ _ _ _ (choice (has_room 2 c) _ _ _ _ (line_ended key c.raw c) (same c.line))
    (choice (has_room (length key) c) _ _ _ _ (same (c.line ++ key ∷ [])) (same c.line)))))

pub keyed-alike : (key : List ℕ) (c : Console) → remembered (keyed key (remembered c)) ≡ remembered (keyed key c)
unfolding keyed
keyed-alike key c = alike.same
  where
    alike : Alike (keyed key (remembered c)) (keyed key c)
    alike =
        choice c.raw _ _ _ _
        (choice (has_room (length key + 1) c) _ _ _ _ (unchanged c.line (c.ended ++ key ∷ []) c.raw c.written) (unchanged c.line c.ended c.raw c.written))
        (cooked key c)

pub with_raw-alike : (raw : Bool) (c : Console) → remembered (with_raw raw (remembered c)) ≡ remembered (with_raw raw c)
unfolding with_raw
with_raw-alike raw c = alike.same
  where
    alike : Alike (with_raw raw (remembered c)) (with_raw raw c)
    alike = choice (raw && not (eqb (length c.line) 0)) _ _ _ _ (line_ended [] raw c) (unchanged c.line c.ended raw c.written)

pub after_read-alike : (count : ℕ) (c : Console) → remembered (after_read count (remembered c)) ≡ remembered (after_read count c)
unfolding after_read
after_read-alike count c = alike.same
  where
    alike : Alike (after_read count (remembered c)) (after_read count c)
    alike = choice (eqb count 0) _ _ _ _ (unchanged c.line c.ended c.raw c.written) (unchanged c.line (rest count c.ended) c.raw c.written)

pub step : (now : Happening) (c : Console) → remembered (happened (remembered c) now) ≡ remembered (happened c now)
step (Key key) c = keyed-alike key c
step (Raw raw) c = with_raw-alike raw c
step (Written bytes) c = let alike : Alike (with_text bytes (remembered c)) (with_text bytes c) = added c.line c.ended c.raw c.written bytes in alike.same
step (Answer count) c = after_read-alike count c

abbrev kept_step : Console → Happening → Console
kept_step c now = remembered (happened c now)

along : (all : List Happening) (c : Console) → fold kept_step (remembered c) all ≡ remembered (fold happened c all)
along [] c = refl
along (now ∷ all) c = ap (λ d. fold kept_step d all) (step now c) ∙ along all (happened c now)

pub kept : (all : List Happening) → kept_after all ≡ remembered (console_after all)
unfolding kept_after console_after
kept all = along all empty

pub same_text : (c : Console) → text (remembered c) ≡ text c
same_text c = last_of-last_of 65536 c.written

pub same_read : (count : ℕ) (c : Console) → read count (remembered c) ≡ read count c
unfolding read
same_read count c = refl

-- ---- reads

front_and_rest : (count : ℕ) (ended : List (List ℕ)) → unwrap_or (given count ended) [] ++ concat (rest count ended) ≡ concat ended
front_and_rest count [] = refl
front_and_rest count (line ∷ lines) = by_length (leb (length line) count) refl
  where
    by_length : (b : Bool) → b ≡ leb (length line) count → take count line ++ concat (cond b lines (drop count line ∷ lines)) ≡ line ++ concat lines
    by_length true e = ap (λ front. front ++ concat lines) (take_all count line (leb-true (length line) count (sym e)))
    by_length false e = sym (append_assoc (take count line) (drop count line) (concat lines)) ∙ ap (λ front. front ++ concat lines) (take-append-drop count line)

pub reads : (count : ℕ) (c : Console) → unwrap_or (read count c) [] ++ concat (after_read count c).ended ≡ concat c.ended
unfolding read after_read
reads count c = by_count (eqb count 0)
  where
    by_count : (b : Bool) → unwrap_or (cond b (Some []) (given count c.ended)) [] ++ concat (cond b c (record c { ended = rest count c.ended })).ended ≡ concat c.ended
    by_count true = refl
    by_count false = front_and_rest count c.ended
