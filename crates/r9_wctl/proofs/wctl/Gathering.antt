-- One option more is gathered.
use Rattle.std.proofs.Common.{◌≡◌, ℕ, ◌+◌, ◌-◌, ◌≤◌, ◌<◌, Bool, List, [], ◌∷◌, length, map, take, drop, get_or, Option, Some, None, refl, ap, sym, ◌∙◌, arith, suc, zero, Bor, min, subst, length-drop}
use Rattle.std.specs.Option.{option_map}
use Rattle.std.proofs.lemmas.List.{take_all}
use Rattle.model_text.specs.text.Reading.{◌>>=◌}
use Rattle.model_files.specs.wctl.Reading.{Setting, parts, allowed, arity, command_in}
use Rattle.r9_wctl.specs.declared.wctl.verb.Verb.{Verb}
use Rattle.r9_wctl.specs.declared.wctl.gathered.Gathered.{Gathered}
use Rattle.r9_wctl.specs.wctl.Names.{options_of, verb_word}
use Rattle.r9_wctl.specs.wctl.Gather.{nothing, add, gather, gathered_from, finished}
use Rattle.r9_wctl.specs.declared.wctl.setting.Setting as code
use Rattle.r9_wctl.specs.wctl.Values.{setting_of}
use Rattle.r9_wctl.proofs.wctl.Settled.{command_tie}

abbrev pub read : List (Bor (List ℕ)) → List (List ℕ)
read words = map (λ word. word.now) words

-- what is gathered and what is left
pub record IsSoFar (verb : Verb) (with_id : Bool) (g : Gathered) (rest words : List (Bor (List ℕ))) : Type 0 where
  pub same : gathered_from verb with_id g (read rest) ≡ gathered_from verb with_id nothing (read words)
  pub room : length g.options + length rest ≤ 1024

parts_after : (n : ℕ) (words : List (List ℕ)) → parts n words ≡ parts 0 (drop n words)
unfolding parts
parts_after zero words = refl
parts_after (suc n) [] = refl
parts_after (suc n) (word ∷ words) = parts_after n words

drop_read : (n : ℕ) (words : List (Bor (List ℕ))) → drop n (read words) ≡ read (drop n words)
drop_read zero words = refl
drop_read (suc n) [] = refl
drop_read (suc n) (word ∷ words) = drop_read n words

take_read : (n : ℕ) (words : List (Bor (List ℕ))) → take n (read words) ≡ read (take n words)
take_read zero words = refl
take_read (suc n) [] = refl
take_read (suc n) (word ∷ words) = ap (λ rest. word.now ∷ rest) (take_read n words)

drop_min : {A : Type 0} (n : ℕ) (xs : List A) → drop n xs ≡ drop (min n (length xs)) xs
drop_min zero xs = let e : 0 ≡ min 0 (length xs) = omega arith in ap (λ k. drop k xs) e
drop_min {A = A} (suc n) [] = let e : 0 ≡ min (suc n) 0 = omega arith in ap (λ (k : ℕ). drop {A = A} k []) e
drop_min (suc n) (x ∷ xs) = let e : suc (min n (length xs)) ≡ min (suc n) (length (x ∷ xs)) = omega arith in drop_min n xs ∙ ap (λ k. drop k (x ∷ xs)) e

-- the option in front
abbrev pub of_first : Bool → Verb → Bor (List ℕ) → List (Bor (List ℕ)) → Option Setting
of_first with_id verb word after = allowed with_id (options_of verb) (record { name = word.now; words = read (take (arity word.now) after) })

first : (verb : Verb) (with_id : Bool) (g : Gathered) (word : Bor (List ℕ)) (after : List (Bor (List ℕ)))
    → gathered_from verb with_id g (read (word ∷ after)) ≡ ((of_first with_id verb word after >>= add g) >>= λ next. gathered_from verb with_id next (read (drop (arity word.now) after)))
unfolding parts
first verb with_id g word after =
    ap (λ ws. (allowed with_id (options_of verb) (record { name = word.now; words = ws }) >>= add g) >>= λ next. gather next (map (allowed with_id (options_of verb)) (parts (arity word.now) (read after)))) (take_read (arity word.now) after)
    ∙ ap (λ ps. (of_first with_id verb word after >>= add g) >>= λ next. gather next (map (allowed with_id (options_of verb)) ps)) (parts_after (arity word.now) (read after) ∙ ap (parts 0) (drop_read (arity word.now) after))

front_of : (rest : List (Bor (List ℕ))) (d : Bor (List ℕ)) → 1 ≤ length rest → rest ≡ get_or rest 0 d ∷ take (length rest - 1) (drop 1 rest)
front_of [] d le = absurd (omega arith)
front_of (x ∷ rest) d le = ap (λ xs. x ∷ xs) (sym (take_all _ rest (omega arith)))

abbrev pub said_by : Option (code.Setting × ℕ) → Option Setting
said_by = option_map (λ s. setting_of s.0)

at_first : (verb : Verb) (with_id : Bool) (g : Gathered) (rest words : List (Bor (List ℕ))) (word : Bor (List ℕ)) (after : List (Bor (List ℕ))) (o : Option Setting) → rest ≡ word ∷ after → IsSoFar verb with_id g rest words
    → o ≡ of_first with_id verb word after → ((o >>= add g) >>= λ next. gathered_from verb with_id next (read (drop (arity word.now) after))) ≡ gathered_from verb with_id nothing (read words)
at_first verb with_id g rest words word after o split so_far e =
    ap (λ o. (o >>= add g) >>= λ next. gathered_from verb with_id next (read (drop (arity word.now) after))) e ∙ sym (first verb with_id g word after) ∙ ap (λ ws. gathered_from verb with_id g (read ws)) (sym split) ∙ so_far.same

pub stops_first : (verb : Verb) (with_id : Bool) (g : Gathered) (rest words : List (Bor (List ℕ))) (d : Bor (List ℕ)) (said : Option (code.Setting × ℕ)) → 1 ≤ length rest → IsSoFar verb with_id g rest words → said ≡ None
    → said_by said ≡ of_first with_id verb (get_or rest 0 d) (take (length rest - 1) (drop 1 rest)) → None ≡ gathered_from verb with_id nothing (read words)
stops_first verb with_id g rest words d said le so_far none e = at_first verb with_id g rest words _ _ None (front_of rest d le) so_far (ap said_by (sym none) ∙ e)

pub stops_second : (verb : Verb) (with_id : Bool) (g : Gathered) (rest words : List (Bor (List ℕ))) (d : Bor (List ℕ)) (said : Option (code.Setting × ℕ)) (s : code.Setting) (n : ℕ) → 1 ≤ length rest → IsSoFar verb with_id g rest words → said ≡ Some (s, n)
    → said_by said ≡ of_first with_id verb (get_or rest 0 d) (take (length rest - 1) (drop 1 rest)) → None ≡ add g (setting_of s) → None ≡ gathered_from verb with_id nothing (read words)
stops_second verb with_id g rest words d said s n le so_far some e none =
    ap (λ (o : Option Gathered). o >>= λ next. gathered_from verb with_id next (read (drop (arity (get_or rest 0 d).now) (take (length rest - 1) (drop 1 rest))))) none
    ∙ at_first verb with_id g rest words _ _ (Some (setting_of s)) (front_of rest d le) so_far (ap said_by (sym some) ∙ e)

pub goes_on : (verb : Verb) (with_id : Bool) (g next : Gathered) (rest words : List (Bor (List ℕ))) (d : Bor (List ℕ)) (said : Option (code.Setting × ℕ)) (s : code.Setting) (n : ℕ) → 1 ≤ length rest → IsSoFar verb with_id g rest words
    → said ≡ Some (s, n) → said_by said ≡ of_first with_id verb (get_or rest 0 d) (take (length rest - 1) (drop 1 rest)) → Some next ≡ add g (setting_of s) → length next.options ≤ length g.options + 1
    → n ≡ min (arity (get_or rest 0 d).now) (length (take (length rest - 1) (drop 1 rest)))
    → IsSoFar verb with_id next (take (length (take (length rest - 1) (drop 1 rest)) - n) (drop n (take (length rest - 1) (drop 1 rest)))) words
goes_on verb with_id g next rest words d said s n le so_far some e is few len =
    let split = front_of rest d le in
    let after = take (length rest - 1) (drop 1 rest) in
    let all : take (length after - n) (drop n after) ≡ drop n after = take_all _ (drop n after) (omega (arith, length-drop n after)) in
    let same : drop (arity (get_or rest 0 d).now) after ≡ drop n after = drop_min (arity (get_or rest 0 d).now) after ∙ ap (λ k. drop k after) (sym len) in
    let shorter : length rest ≡ suc (length after) = ap length split in
    subst (λ ws. IsSoFar verb with_id next ws words) (sym all) (record {
      same = ap (λ ws. gathered_from verb with_id next (read ws)) (sym same) ∙ ap (λ (o : Option Gathered). o >>= λ next. gathered_from verb with_id next (read (drop (arity (get_or rest 0 d).now) after))) is
          ∙ at_first verb with_id g rest words _ _ (Some (setting_of s)) split so_far (ap said_by (sym some) ∙ e);
      room = omega (arith, length-drop n after, so_far.room);
    })

pub ends : (verb : Verb) (with_id : Bool) (g : Gathered) (rest words : List (Bor (List ℕ))) → length rest < 1 → IsSoFar verb with_id g rest words → Some g ≡ gathered_from verb with_id nothing (read words)
unfolding parts
ends verb with_id g [] words short so_far = so_far.same
ends verb with_id g (x ∷ rest) words short so_far = absurd (omega arith)

pub command_after : (verb : Verb) (with_id : Bool) (words : List (Bor (List ℕ))) (d : Bor (List ℕ)) (o : Option Gathered) → 1 ≤ length words → (get_or words 0 d).now ≡ verb_word verb
    → o ≡ gathered_from verb with_id nothing (read (take (length words - 1) (drop 1 words))) → (o >>= finished verb with_id) ≡ command_in with_id (read words)
command_after verb with_id words d o le named e =
    ap (λ (o : Option Gathered). o >>= finished verb with_id) e ∙ command_tie verb with_id (get_or words 0 d).now (read (take (length words - 1) (drop 1 words))) named
    ∙ ap (λ ws. command_in with_id (read ws)) (sym (front_of words d le))
