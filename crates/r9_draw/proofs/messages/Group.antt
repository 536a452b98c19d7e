-- What a `t` asks for, id by id, and where its windows stand.
use Rattle.std.proofs.Common.{◌≡◌, ℕ, zero, suc, ◌<◌, ◌≤◌, ◌+◌, ◌-◌, Bool, true, false, List, [], ◌∷◌, ◌++◌, length, get_or, map, take, drop, Option, Ok, Err, refl, sym, ap, ◌∙◌, arith}
use Rattle.std.specs.Prelude.{◌==◌, ◌&&◌, is_ok}
use Rattle.std.specs.List.{list_all}
use Rattle.std.specs.Result.{result_unwrap_or}
use Rattle.std.proofs.lemmas.Bool.{eqb-true}
use Rattle.std.proofs.lemmas.Bool.Decides.{nat_tests}
use Rattle.std.proofs.lemmas.List.{map_push, take_all, take_more}
use Rattle.std.proofs.lemmas.List.Folds.{list_all_at, list_all_more}
use Rattle.model_text.specs.text.Outcome.{Outcome, ◌>>=◌}
use Rattle.model_draw_parts.specs.images.Book.{Book, screen_of}
use Rattle.model_draw.specs.draw.World.{World}
use Rattle.model_draw.specs.draw.Moving.{are_on_one_screen, is_on_screen, look_window, look_windows}
use Rattle.r9_locate.specs.declared.info.ImageNo.{ImageNo}

-- each of the first so many shows a window
abbrev pub ShowFirst : ℕ → World → List ℕ → ℕ → Type 0
ShowFirst k w ids n = (j : ℕ) → j < n → is_ok (look_window w k (get_or ids j 0)) ≡ true

-- the windows of a first id and of the others
both : Outcome ℕ → Outcome (List ℕ) → Outcome (List ℕ)
both first others = first >>= λ i. others >>= λ rest. Ok (i ∷ rest)

both_ok : (first : Outcome ℕ) (others : Outcome (List ℕ)) → is_ok first ≡ true → is_ok others ≡ true → is_ok (both first others) ≡ true
unfolding both
both_ok (Ok i) (Ok rest) h g = refl
both_ok (Ok i) (Err n) h g = absurd cc
both_ok (Err n) others h g = absurd cc

both_refused : (first : Outcome ℕ) (others : Outcome (List ℕ)) (n : ℕ) → is_ok first ≡ true → others ≡ Err n → both first others ≡ Err n
unfolding both
both_refused (Ok i) others n h g = ap (λ (o : Outcome (List ℕ)). o >>= λ rest. Ok (i ∷ rest)) g
both_refused (Err m) others n h g = absurd cc

first_refused : (first : Outcome ℕ) (others : Outcome (List ℕ)) (n : ℕ) → first ≡ Err n → both first others ≡ Err n
unfolding both
first_refused first others n h = ap (λ (o : Outcome ℕ). o >>= λ i. others >>= λ rest. Ok (i ∷ rest)) h

first_at : (first : Outcome ℕ) (others : Outcome (List ℕ)) → is_ok (both first others) ≡ true → first ≡ Ok (get_or (result_unwrap_or (both first others) []) 0 0)
unfolding both
first_at (Ok i) (Ok rest) h = refl
first_at (Ok i) (Err n) h = absurd cc
first_at (Err n) others h = absurd cc

others_ok : (first : Outcome ℕ) (others : Outcome (List ℕ)) → is_ok (both first others) ≡ true → is_ok others ≡ true
unfolding both
others_ok (Ok i) (Ok rest) h = refl
others_ok (Ok i) (Err n) h = absurd cc
others_ok (Err n) others h = absurd cc

others_at : (first : Outcome ℕ) (others : Outcome (List ℕ)) (j : ℕ) → is_ok (both first others) ≡ true → get_or (result_unwrap_or others []) j 0 ≡ get_or (result_unwrap_or (both first others) []) (suc j) 0
unfolding both
others_at (Ok i) (Ok rest) j h = refl
others_at (Ok i) (Err n) j h = absurd cc
others_at (Err n) others j h = absurd cc

others_length : (first : Outcome ℕ) (others : Outcome (List ℕ)) → is_ok (both first others) ≡ true → length (result_unwrap_or (both first others) []) ≡ suc (length (result_unwrap_or others []))
unfolding both
others_length (Ok i) (Ok rest) h = refl
others_length (Ok i) (Err n) h = absurd cc
others_length (Err n) others h = absurd cc

-- one id more
pub show-further : (k : ℕ) (w : World) (ids : List ℕ) (n id i : ℕ) → id ≡ get_or ids n 0 → look_window w k id ≡ Ok i → ShowFirst k w ids n → ShowFirst k w ids (n + 1)
show-further k w ids n id i e there h j below = by (j == n) refl
  where
    by : (b : Bool) → (j == n) ≡ b → is_ok (look_window w k (get_or ids j 0)) ≡ true
    by true same = ap (λ m. is_ok (look_window w k (get_or ids m 0))) (eqb-true j n same) ∙ ap (λ m. is_ok (look_window w k m)) (sym e) ∙ ap is_ok there
    by false other = h j (grind (arith, nat_tests))

-- where each shows a window, these are the windows
pub show-all : (k : ℕ) (w : World) (ids : List ℕ) → ShowFirst k w ids (length ids) → is_ok (look_windows w k ids) ≡ true
unfolding both
show-all k w [] h = refl
show-all k w (id ∷ ids) h = both_ok (look_window w k id) (look_windows w k ids) (h 0 (omega arith)) (show-all k w ids (λ j below. h (suc j) (omega (arith, below))))

-- the first that shows none is refused
refused_at : (k : ℕ) (w : World) (ids : List ℕ) (j n : ℕ) → j < length ids → ShowFirst k w ids j → look_window w k (get_or ids j 0) ≡ Err n → look_windows w k ids ≡ Err n
unfolding both
refused_at k w [] j n below h e = absurd (omega (arith, below))
refused_at k w (id ∷ ids) zero n below h e = first_refused (look_window w k id) (look_windows w k ids) n e
refused_at k w (id ∷ ids) (suc j) n below h e =
    both_refused (look_window w k id) (look_windows w k ids) n (h 0 (omega arith))
    (refused_at k w ids j n (omega (arith, below)) (λ i less. h (suc i) (omega (arith, less))) e)

pub show-refused : (k : ℕ) (w : World) (ids : List ℕ) (j id n : ℕ) → j < length ids → id ≡ get_or ids j 0 → ShowFirst k w ids j → look_window w k id ≡ Err n → look_windows w k ids ≡ Err n
show-refused k w ids j id n below e h there = refused_at k w ids j n below h (ap (λ m. look_window w k m) (sym e) ∙ there)

-- the window of the id at a place stands there among the windows
pub shown-at : (k : ℕ) (w : World) (ids : List ℕ) (j : ℕ) → is_ok (look_windows w k ids) ≡ true → j < length ids → look_window w k (get_or ids j 0) ≡ Ok (get_or (result_unwrap_or (look_windows w k ids) []) j 0)
unfolding both
shown-at k w [] j h below = absurd (omega (arith, below))
shown-at k w (id ∷ ids) zero h below = first_at (look_window w k id) (look_windows w k ids) h
shown-at k w (id ∷ ids) (suc j) h below =
    let first = look_window w k id in
    let others = look_windows w k ids in
    shown-at k w ids j (others_ok first others h) (omega (arith, below)) ∙ ap Ok (others_at first others j h)

-- and there are as many
pub shown-length : (k : ℕ) (w : World) (ids : List ℕ) → is_ok (look_windows w k ids) ≡ true → length (result_unwrap_or (look_windows w k ids) []) ≡ length ids
unfolding both
shown-length k w [] h = refl
shown-length k w (id ∷ ids) h =
    let first = look_window w k id in
    let others = look_windows w k ids in
    others_length first others h ∙ ap suc (shown-length k w ids (others_ok first others h))

-- ---- on one screen

-- whether all stand on the screen of the first, by those behind it
pub one-screen : (book : Book) (group : List ℕ) (screen : Option ℕ) → 0 < length group → screen ≡ screen_of book (get_or group 0 0) → are_on_one_screen book group ≡ list_all (is_on_screen book screen) (drop 1 group)
one-screen book [] screen below e = absurd (omega (arith, below))
one-screen book (i ∷ is) screen below e = ap (λ (s : Option ℕ). list_all (is_on_screen book s) is) (sym e)

pub none-one : (book : Book) (group : List ℕ) → length group ≡ 0 → are_on_one_screen book group ≡ true
none-one book [] e = refl
none-one book (i ∷ is) e = absurd (omega (arith, e))

-- one window more behind the first
pub one-further : (p : ℕ → Bool) (group : List ℕ) (n : ℕ) → 1 ≤ n → n < length group → p (get_or group n 0) ≡ true → list_all p (take (n - 1) (drop 1 group)) ≡ true → list_all p (take (n + 1 - 1) (drop 1 group)) ≡ true
one-further p [] n some below here h = absurd (omega (arith, below))
one-further p (i ∷ is) zero some below here h = absurd (omega (arith, some))
one-further p (i ∷ is) (suc n) some below here h =
    let before : n ≡ suc n - 1 = omega arith in
    let after : suc n + 1 - 1 ≡ n + 1 = omega arith in
    let those : list_all p (take n is) ≡ true = ap (λ m. list_all p (take m is)) before ∙ h in
    ap (λ m. list_all p (take m is)) after ∙ list_all_more p is n 0 (omega (arith, below)) ∙ (λ k. those k && here k)

-- and one that stands elsewhere
pub one-elsewhere : (p : ℕ → Bool) (group : List ℕ) (n : ℕ) → 1 ≤ n → n < length group → p (get_or group n 0) ≡ false → list_all p (drop 1 group) ≡ false
one-elsewhere p [] n some below there = absurd (omega (arith, below))
one-elsewhere p (i ∷ is) zero some below there = absurd (omega (arith, some))
one-elsewhere p (i ∷ is) (suc n) some below there = list_all_at p is n 0 (omega (arith, below)) there

pub one-all : (p : ℕ → Bool) (group : List ℕ) (n : ℕ) → 1 ≤ n → length group ≤ n → list_all p (take (n - 1) (drop 1 group)) ≡ true → list_all p (drop 1 group) ≡ true
one-all p [] n some above h = refl
one-all p (i ∷ is) zero some above h = absurd (omega (arith, some))
one-all p (i ∷ is) (suc n) some above h =
    let before : n ≡ suc n - 1 = omega arith in
    ap (list_all p) (sym (take_all n is (omega (arith, above)))) ∙ ap (λ m. list_all p (take m is)) before ∙ h

-- ---- the numbers of images

pub numbers-further : (xs : List ImageNo) (group : List ℕ) (n : ℕ) (x : ImageNo) → n < length group → x.0 ≡ get_or group n 0 → map (λ i. i.0) xs ≡ take n group → map (λ i. i.0) (xs ++ x ∷ []) ≡ take (n + 1) group
numbers-further xs group n x below e h =
    map_push (λ (i : ImageNo). i.0) xs x ∙ (λ k. h k ++ e k ∷ []) ∙ sym (take_more group n 0 below)
