-- The commands that a desk writes are read back (rio(4)).
use Rattle.std.proofs.Common.{◌≡◌, ◌∙◌, ◌<◌, ◌≤◌, ◌+◌, ◌-◌, ◌*◌, ◌^◌, ℕ, ℤ, pos, Bool, true, false, not, cond, ◌==◌, List, [], ◌∷◌, ◌++◌, length, filter, get_or, take, Some, None, refl, sym, ap, append_assoc, arith}
use Rattle.std.specs.Prelude.{codes}
use Rattle.std.specs.Fmt.{decimal}
use Rattle.std.specs.List.{All, list_any, slice_split}
use Rattle.std.proofs.lemmas.Bool.{le-leb, ne_eqb, or_from}
use Rattle.std.proofs.lemmas.Fmt.{decimal_nonempty, length-decimal-le}
use Rattle.std.proofs.lemmas.List.{length-append}
use Rattle.std.proofs.lemmas.List.Elements.{All-cons, All-nil}
use Rattle.std.proofs.lemmas.List.Folds.{list_any-append, list_any_at}
use Rattle.std.proofs.lemmas.List.Splits.{slice_split_at, slice_split_none}
use Rattle.model_text.specs.text.Word.{is_blank}
use Rattle.r9_geom.specs.declared.Rect.{Rect}
use Rattle.model_files.specs.declared.wctl.Choice.TheVariants as choice
use Rattle.model_files.specs.wctl.Command as wctl
use Rattle.model_files.specs.wctl.Reading as reading
use Rattle.model_files.specs.wctl.Reading.{command_in, command_of}
use Rattle.model_files.specs.wctl.Words.{is_newline, line_of, words_of}
use Rattle.law_text.proofs.client.Numbers.{no_blank, no_newline, signed_decimal_is}
use Rattle.model_client.specs.desk.Spelled.{change, id_words, rect_words}
use Rattle.law_desk.proofs.piloted.Numbers.{IsChange, path_again}
use Rattle.law_shown.proofs.shown.Tests.{first_false, second_false}
use Rattle.law_shown.proofs.fitting.Lists.{Each}

-- ---- words with blanks between them

abbrev pub joined : List ℕ → List (List ℕ) → List ℕ
joined first [] = first
joined first (word ∷ words) = first ++ 32 ∷ joined word words

pub record IsWord (word : List ℕ) : Type 0 where
  pub plain : All (λ byte. is_blank byte ≡ false) word
  pub line : list_any is_newline word ≡ false
  pub some : 0 < length word
  pub short : length word ≤ 16

all_plain : (word : List ℕ) → list_any is_blank word ≡ false → All (λ byte. is_blank byte ≡ false) word
all_plain [] none = All-nil (λ byte. is_blank byte ≡ false)
all_plain (byte ∷ word) none = All-cons (λ b. is_blank b ≡ false) byte word (first_false (is_blank byte) (list_any is_blank word) none) (all_plain word (second_false (is_blank byte) (list_any is_blank word) none))

pub is_word : (word : List ℕ) → list_any is_blank word ≡ false → list_any is_newline word ≡ false → 0 < length word → length word ≤ 16 → IsWord word
is_word word blanks line some short = record { plain = all_plain word blanks; line = line; some = some; short = short }

pub decimal_word : (n : ℕ) → n < 10 ^ 9 → IsWord (decimal n)
decimal_word n small =
    let fits : n < 2 ^ 64 = omega (arith, small) in
    let few = length-decimal-le 9 n (omega arith) small fits in
    record { plain = no_blank n fits; line = no_newline n fits; some = decimal_nonempty n fits; short = omega (arith, few) }

split_joined : (first : List ℕ) (words : List (List ℕ)) → IsWord first → Each IsWord words → slice_split is_blank (joined first words) ≡ first ∷ words
split_joined first [] one rest = slice_split_none is_blank first one.plain
split_joined first (word ∷ words) one rest = slice_split_at is_blank first 32 (joined word words) one.plain refl ∙ ap (λ (ws : List (List ℕ)). first ∷ ws) (split_joined word words rest.0 rest.1)

all_some : (words : List (List ℕ)) → Each IsWord words → filter (λ word. not (length word == 0)) words ≡ words
all_some [] rest = refl
all_some (word ∷ words) rest = rw (ne_eqb (length word) 0 (λ e. let some = rest.0.some in omega (arith, e, some))) (ap (λ (ws : List (List ℕ)). word ∷ ws) (all_some words rest.1))

one_line : (first : List ℕ) (words : List (List ℕ)) → IsWord first → Each IsWord words → list_any is_newline (joined first words) ≡ false
one_line first [] one rest = one.line
one_line first (word ∷ words) one rest = list_any-append is_newline first (32 ∷ joined word words) ∙ or_from _ _ one.line (one_line word words rest.0 rest.1)

joined_len : (first : List ℕ) (words : List (List ℕ)) → IsWord first → Each IsWord words → (0 < length (joined first words)) × (length (joined first words) ≤ 16 + 17 * length words)
joined_len first [] one rest = (one.some, let short = one.short in omega (arith, short))
joined_len first (word ∷ words) one rest =
    let more = joined_len word words rest.0 rest.1 in
    let short = one.short in
    let all = length-append first (32 ∷ joined word words) in
    (omega (arith, all), omega (arith, all, short, more.1))

-- a text without a newline is a line
plain_line : (text : List ℕ) → list_any is_newline text ≡ false → 0 < length text → line_of text ≡ Some text
unfolding line_of
plain_line text none some = by (is_newline (get_or text (length text - 1) 0)) refl
  where
    by : (b : Bool) → is_newline (get_or text (length text - 1) 0) ≡ b → cond (list_any is_newline (cond b (take (length text - 1) text) text)) None (Some (cond b (take (length text - 1) text) text)) ≡ Some text
    by true at = absurd (let both : false ≡ true = sym none ∙ list_any_at is_newline text (length text - 1) 0 (omega (arith, some)) at in cc both)
    by false at = rw none refl

-- the words of a command are read
pub command_joined : (first : List ℕ) (words : List (List ℕ)) → IsWord first → Each IsWord words → length words ≤ 20 → command_of true (joined first words) ≡ command_in true (first ∷ words)
unfolding command_of words_of
command_joined first words one rest few =
    let len = joined_len first words one rest in
    rw (
      le-leb (length (joined first words)) 1024 (omega (arith, len.1, few)),
      plain_line (joined first words) (one_line first words one rest) len.0,
      split_joined first words one rest,
      all_some (first ∷ words) (one, rest),
    ) refl

-- ---- each command

abbrev pub box : (left top right bottom : ℕ) → Rect
box left top right bottom = record { min = record { x = pos left; y = pos top }; max = record { x = pos right; y = pos bottom } }

option_id : IsWord (codes "-id")
option_id = is_word (codes "-id") refl refl (omega arith) (omega arith)

option_r : IsWord (codes "-r")
option_r = is_word (codes "-r") refl refl (omega arith) (omega arith)

coordinate : (n : ℕ) → n < 10 ^ 7 → IsWord (decimal n)
coordinate n small = decimal_word n (omega (arith, small))

pub delete_read : (n : ℕ) → n < 10 ^ 9 → command_of true (codes "delete" ++ id_words n) ≡ Some (record { what = wctl.Delete; id = n ∷ [] })
unfolding reading.parts reading.setting reading.asked
delete_read n small =
    command_joined (codes "delete") (codes "-id" ∷ decimal n ∷ []) (is_word (codes "delete") refl refl (omega arith) (omega arith)) (option_id, (decimal_word n small, tt)) (omega arith)
    ∙ rw (path_again n small) refl

pub hide_read : (n : ℕ) → n < 10 ^ 9 → command_of true (codes "hide" ++ id_words n) ≡ Some (record { what = wctl.Hide; id = n ∷ [] })
unfolding reading.parts reading.setting reading.asked
hide_read n small =
    command_joined (codes "hide") (codes "-id" ∷ decimal n ∷ []) (is_word (codes "hide") refl refl (omega arith) (omega arith)) (option_id, (decimal_word n small, tt)) (omega arith)
    ∙ rw (path_again n small) refl

-- four numbers, and what stands behind them
four : (a b c d rest : List ℕ) → ((a ++ 32 ∷ b) ++ (32 ∷ (c ++ 32 ∷ d))) ++ rest ≡ a ++ (32 ∷ (b ++ (32 ∷ (c ++ (32 ∷ (d ++ rest))))))
four a b c d rest =
    append_assoc (a ++ 32 ∷ b) (32 ∷ (c ++ 32 ∷ d)) rest ∙ append_assoc a (32 ∷ b) (32 ∷ ((c ++ 32 ∷ d) ++ rest))
    ∙ ap (λ (more : List ℕ). a ++ (32 ∷ (b ++ (32 ∷ more)))) (append_assoc c (32 ∷ d) rest)

pub new_read : (left top right bottom : ℕ) → left < 10 ^ 7 → top < 10 ^ 7 → right < 10 ^ 7 → bottom < 10 ^ 7
    → command_of true (codes "new" ++ rect_words (box left top right bottom)) ≡ Some (record { what = wctl.New (choice.R (box left top right bottom) ∷ []) false; id = [] })
unfolding reading.parts reading.setting reading.asked
new_read left top right bottom l t r b =
    ap (λ (more : List ℕ). command_of true (codes "new -r " ++ more)) (append_assoc (decimal left) (32 ∷ decimal top) (32 ∷ (decimal right ++ 32 ∷ decimal bottom)))
    ∙ command_joined (codes "new") (codes "-r" ∷ decimal left ∷ decimal top ∷ decimal right ∷ decimal bottom ∷ []) (is_word (codes "new") refl refl (omega arith) (omega arith))
    (option_r, (coordinate left l, (coordinate top t, (coordinate right r, (coordinate bottom b, tt))))) (omega arith)
    ∙ rw (signed_decimal_is left l, signed_decimal_is top t, signed_decimal_is right r, signed_decimal_is bottom b) refl

pub resize_read : (left top right bottom n : ℕ) → left < 10 ^ 7 → top < 10 ^ 7 → right < 10 ^ 7 → bottom < 10 ^ 7 → n < 10 ^ 9
    → command_of true (codes "resize" ++ rect_words (box left top right bottom) ++ id_words n) ≡ Some (record { what = wctl.Resize (choice.R (box left top right bottom) ∷ []); id = n ∷ [] })
unfolding reading.parts reading.setting reading.asked
resize_read left top right bottom n l t r b small =
    ap (λ (more : List ℕ). command_of true (codes "resize -r " ++ more)) (four (decimal left) (decimal top) (decimal right) (decimal bottom) (id_words n))
    ∙ command_joined (codes "resize") (codes "-r" ∷ decimal left ∷ decimal top ∷ decimal right ∷ decimal bottom ∷ codes "-id" ∷ decimal n ∷ []) (is_word (codes "resize") refl refl (omega arith) (omega arith))
    (option_r, (coordinate left l, (coordinate top t, (coordinate right r, (coordinate bottom b, (option_id, (decimal_word n small, tt))))))) (omega arith)
    ∙ rw (signed_decimal_is left l, signed_decimal_is top t, signed_decimal_is right r, signed_decimal_is bottom b, path_again n small) refl

-- two changes
between : (a b rest : List ℕ) → a ++ codes " -miny " ++ b ++ rest ≡ a ++ (32 ∷ (codes "-miny" ++ (32 ∷ (b ++ rest))))
between a b rest = append_assoc (a ++ codes " -miny ") b rest ∙ append_assoc a (codes " -miny ") (b ++ rest)

pub move_read : (dx dy : ℤ) (n : ℕ) (x : IsChange dx) (y : IsChange dy) → IsWord (change dx) → IsWord (change dy) → n < 10 ^ 9
    → command_of true (codes "move -minx " ++ change dx ++ codes " -miny " ++ change dy ++ id_words n) ≡ Some (record { what = wctl.Move (choice.Minx x.by ∷ choice.Miny y.by ∷ []); id = n ∷ [] })
unfolding reading.parts reading.setting reading.asked
move_read dx dy n x y one two small =
    ap (λ (more : List ℕ). command_of true (codes "move -minx " ++ more)) (between (change dx) (change dy) (id_words n))
    ∙ command_joined (codes "move") (codes "-minx" ∷ change dx ∷ codes "-miny" ∷ change dy ∷ codes "-id" ∷ decimal n ∷ []) (is_word (codes "move") refl refl (omega arith) (omega arith))
    (is_word (codes "-minx") refl refl (omega arith) (omega arith), (one, (is_word (codes "-miny") refl refl (omega arith) (omega arith), (two, (option_id, (decimal_word n small, tt)))))) (omega arith)
    ∙ rw (x.is, y.is, path_again n small) refl
