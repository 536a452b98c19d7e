-- The command that a text spells, by its line and its words.
use Rattle.std.proofs.Common.{◌≡◌, ℕ, ◌+◌, ◌≤◌, not, ◌==◌, List, length, map, ap, arith, Bor, Option, Result, MatchResult, OnOk}
use Rattle.std.specs.List.{slice_split}
use Rattle.std.proofs.lemmas.List.Splits.{length-slice_split}
use Rattle.std.proofs.lemmas.List.Sums.{length-filter, count_by-le-length}
use Rattle.std.specs.Iterator.{Drains, Yields}
use Rattle.std.proofs.lemmas.Iterator.{YieldsList}
use Rattle.std.proofs.lemmas.Iterator.Adapters.{fact_from_extend}
use Rattle.std.proofs.lemmas.Iterator.Consumers.{YieldsList-at}
use Rattle.model_text.specs.text.Word.{is_blank}
use Rattle.model_files.specs.wctl.Words.{words_of}
use Rattle.r9_wctl.proofs.wctl.Four.{length_map}

few_words : (line : List ℕ) → length (words_of line) ≤ length line + 1
unfolding words_of
few_words line =
    omega (arith, length-filter (λ (word : List ℕ). not (length word == 0)) (slice_split is_blank line), count_by-le-length (λ (word : List ℕ). not (length word == 0)) (slice_split is_blank line), length-slice_split is_blank line, count_by-le-length is_blank line)

pub few : (words : List (Bor (List ℕ))) (line : List ℕ) → map (λ word. word.now) words ≡ words_of line → length words ≤ length line + 1
few words line e = omega (arith, few_words line, ap length e, length_map (λ (word : Bor (List ℕ)). word.now) words)

-- `extend` by a chain s, where v reads each item
pub map_from_extend : {T A C E Q : Type 0} {steps : T → Option A → T → Type 0} {all : List C} {P : List A → Type 0} {s : T} (v : A → C) (r : Result (Unit {0}) E)
    → ((it : T) × (xs : List A) × (it ≡ s) × P xs × MatchResult r (λ _. Drains steps it xs) (λ _. (t : T) × Yields steps it xs t))
    → YieldsList steps v s all → ((xs : List A) → map v xs ≡ all → P xs → Q) → OnOk r Q
map_from_extend v r ran road says = fact_from_extend v r ran (λ it b. YieldsList-at b road) says
