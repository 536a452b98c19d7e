-- A line's numbers, taken one by one from its front, are those of all its words.
use Rattle.std.proofs.Common.{◌≡◌, ℕ, ◌==◌, Bool, true, false, List, [], ◌∷◌, length, refl, sym, ◌∙◌, Option, Some, None, arith}
use Rattle.std.proofs.lemmas.Bool.{cond-false, ne_eqb}
use Rattle.std.specs.Prelude.{if◌then◌else◌}
use Rattle.model_text.specs.text.Reading.{◌>>=◌}
use Rattle.model_client.specs.mirror.Picture.{Picture}
use Rattle.model_client.specs.mirror.Lines.{plain, numbers, numbers_behind, frame_in, size_in, cell_in}
use Rattle.r9_mirror.specs.Words.{behind, number_in, pair_in, two_in}
use Rattle.r9_mirror.specs.Sizes.{blank_of, cut, size_of, sized}

assoc : {A B C : Type 0} (o : Option A) (f : A → Option B) (g : B → Option C) → ((o >>= f) >>= g) ≡ (o >>= λ x. f x >>= g)
assoc None f g = refl
assoc (Some x) f g = refl

same : {A B : Type 0} (o : Option A) (f g : A → Option B) → ((x : A) → f x ≡ g x) → (o >>= f) ≡ (o >>= g)
same None f g e = refl
same (Some x) f g e = e x

some_is : {A : Type 0} (o : Option A) → (o >>= λ x. Some x) ≡ o
some_is None = refl
some_is (Some x) = refl

-- one number more, where the word is one or is none
more : {X : Type 0} (o : Option ℕ) (rest : List (List ℕ)) (f : List ℕ → Option X) (g : ℕ × List (List ℕ) → Option X)
    → ((a : ℕ) → g (a, rest) ≡ (numbers rest >>= λ ns. f (a ∷ ns)))
    → ((o >>= λ n. Some (n, rest)) >>= g) ≡ ((o >>= λ n. numbers rest >>= λ ns. Some (n ∷ ns)) >>= f)
more None rest f g h = refl
more (Some a) rest f g h = h a ∙ sym (assoc (numbers rest) (λ ns. Some (a ∷ ns)) f)

one : {X : Type 0} (words : List (List ℕ)) (f : List ℕ → Option X) (g : ℕ × List (List ℕ) → Option X)
    → f [] ≡ None → ((a : ℕ) (rest : List (List ℕ)) → g (a, rest) ≡ (numbers rest >>= λ ns. f (a ∷ ns)))
    → (number_in words >>= g) ≡ (numbers words >>= f)
one [] f g none h = sym none
one (word ∷ words) f g none h = more (plain word) words f g (λ a. h a words)

twos : {X : Type 0} (words : List (List ℕ)) (f : List ℕ → Option X) (g : (ℕ × ℕ) × List (List ℕ) → Option X)
    → f [] ≡ None → ((a : ℕ) → f (a ∷ []) ≡ None) → ((a b : ℕ) (rest : List (List ℕ)) → g ((a, b), rest) ≡ (numbers rest >>= λ ns. f (a ∷ b ∷ ns)))
    → (two_in words >>= g) ≡ (numbers words >>= f)
twos words f g none single h =
    assoc (number_in words) _ g
    ∙ one words f _ none (λ a rest. assoc (number_in rest) _ g ∙ one rest (λ ns. f (a ∷ ns)) _ (single a) (λ b behind. h a b behind))

-- no word is left
last : {X : Type 0} (words : List (List ℕ)) (f : List ℕ → Option X) (x : Option X) → f [] ≡ x → ((a : ℕ) (ns : List ℕ) → f (a ∷ ns) ≡ None)
    → (if length words == 0 then x else None) ≡ (numbers words >>= f)
last [] f x none h = sym none
last (word ∷ words) f x none h =
    cond-false (length (word ∷ words) == 0) x None (ne_eqb (length (word ∷ words)) 0 (λ e. omega (arith, e))) ∙ sym (beyond (plain word) (numbers words))
  where
    beyond : (o : Option ℕ) (rest : Option (List ℕ)) → ((o >>= λ n. rest >>= λ ns. Some (n ∷ ns)) >>= f) ≡ None
    beyond None rest = refl
    beyond (Some a) None = refl
    beyond (Some a) (Some ns) = h a ns

pushed : {A B : Type 0} (b : Bool) (x : A) (g : A → Option B) → ((if b then Some x else None) >>= g) ≡ (if b then g x else None)
pushed true x g = refl
pushed false x g = refl

pairs : {X : Type 0} (words : List (List ℕ)) (f : List ℕ → Option X) (g : ℕ × ℕ → Option X)
    → f [] ≡ None → ((a : ℕ) → f (a ∷ []) ≡ None) → ((a b : ℕ) → f (a ∷ b ∷ []) ≡ g (a, b)) → ((a b c : ℕ) (ns : List ℕ) → f (a ∷ b ∷ c ∷ ns) ≡ None)
    → (pair_in words >>= g) ≡ (numbers words >>= f)
pairs words f g none single both three =
    assoc (two_in words) _ g
    ∙ twos words f _ none single
    (λ a b rest. pushed (length rest == 0) (a, b) g ∙ last rest (λ ns. f (a ∷ b ∷ ns)) (g (a, b)) (both a b) (three a b))

-- the words behind a letter
behind_is : {X : Type 0} (letter : ℕ) (words : List (List ℕ)) (f : List ℕ → Option X) (read : List (List ℕ) → Option X)
    → read [] ≡ None → ((rest : List (List ℕ)) → read rest ≡ (numbers rest >>= f)) → read (behind letter words) ≡ (numbers_behind letter words >>= f)
behind_is letter [] f read none h = none
behind_is letter ([] ∷ words) f read none h = none
behind_is letter ((first ∷ second ∷ more) ∷ words) f read none h = none
behind_is letter ((first ∷ []) ∷ words) f read none h = chosen (first == letter)
  where
    chosen : (b : Bool) → read (if b then words else []) ≡ ((if b then numbers words else None) >>= f)
    chosen true = h words
    chosen false = none

pub frame_is : (words : List (List ℕ)) → frame_in words ≡ pair_in (behind 70 words)
frame_is words =
    sym (behind_is 70 words _ pair_in refl
    (λ rest. sym (some_is (pair_in rest)) ∙ pairs rest _ (λ two. Some two) refl (λ a. refl) (λ a b. refl) (λ a b c ns. refl)))

pub size_is : (words : List (List ℕ)) → size_in words ≡ (pair_in (behind 90 words) >>= sized)
size_is words =
    sym (behind_is 90 words _ (λ ws. pair_in ws >>= sized) refl (λ rest. pairs rest _ sized refl (λ a. refl) (λ a b. refl) (λ a b c ns. refl)))

pub cell_is : (picture : Picture) (words : List (List ℕ)) → cell_in picture words ≡ (two_in (behind 67 words) >>= λ at. pair_in at.1 >>= cut picture at.0)
cell_is picture words =
    sym (behind_is 67 words _ (λ ws. two_in ws >>= λ at. pair_in at.1 >>= cut picture at.0) refl
    (λ rest. twos rest _ _ refl (λ a. refl)
    (λ x y sides. pairs sides _ (cut picture (x, y)) refl (λ a. refl) (λ a b. refl) (λ a b c ns. refl))))

-- a cell hangs on the picture's size alone
pub cell_same : (picture : Picture) (words : List (List ℕ)) → cell_in picture words ≡ cell_in (blank_of (size_of picture)) words
cell_same picture words = cell_is picture words ∙ sym (cell_is (blank_of (size_of picture)) words)
