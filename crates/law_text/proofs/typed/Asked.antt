-- The name of the client's attach asks for a window with a rectangle (rio(4)).
use Rattle.std.proofs.Common.{◌≡◌, ◌∙◌, ◌<◌, ◌≤◌, ◌+◌, ◌-◌, ◌*◌, ◌^◌, ℕ, Bool, true, false, cond, List, [], ◌∷◌, ◌++◌, length, get_or, take, Some, None, refl, sym, append_assoc, arith}
use Rattle.std.specs.Prelude.{codes}
use Rattle.std.specs.Fmt.{decimal}
use Rattle.std.specs.List.{list_any}
use Rattle.std.proofs.lemmas.Bool.{le-leb, ne_eqb, or_from}
use Rattle.std.proofs.lemmas.Fmt.{decimal_nonempty, length-decimal-le}
use Rattle.std.proofs.lemmas.List.{length-append}
use Rattle.std.proofs.lemmas.List.Folds.{list_any-append, list_any_at}
use Rattle.std.proofs.lemmas.List.Splits.{slice_split_at, slice_split_none}
use Rattle.model_text.specs.text.Word.{is_blank}
use Rattle.model_files.specs.wctl.Command as wctl
use Rattle.model_files.specs.declared.wctl.Choice.TheVariants as choice
use Rattle.model_files.specs.wctl.Reading as reading
use Rattle.model_files.specs.wctl.Reading.{command_of}
use Rattle.model_files.specs.wctl.Words.{is_newline, line_of, words_of}
use Rattle.law_text.proofs.client.Numbers.{no_blank, no_newline, signed_decimal_is}
use Rattle.model_clients.specs.page.Text.{Shape, asked, page_rect}
use Rattle.law_text.specs.page.Page.{IsShape}
use Rattle.law_text.proofs.page.Scrolls.{high_few, wide_few}

-- a text without a newline is a line
plain_line : (text : List ℕ) → list_any is_newline text ≡ false → 0 < length text → line_of text ≡ Some text
unfolding line_of
plain_line text none some = by (is_newline (get_or text (length text - 1) 0)) refl
  where
    by : (b : Bool) → is_newline (get_or text (length text - 1) 0) ≡ b → cond (list_any is_newline (cond b (take (length text - 1) text) text)) None (Some (cond b (take (length text - 1) text) text)) ≡ Some text
    by true at = absurd (let both : false ≡ true = sym none ∙ list_any_at is_newline text (length text - 1) 0 (omega (arith, some)) at in cc both)
    by false at = rw none refl

module _ (shape : Shape) (is : IsShape shape) where
  abbrev across : List ℕ
  across = decimal (shape.columns * shape.width + 8)

  abbrev down : List ℕ
  down = decimal (shape.rows * shape.height + 8)

  abbrev front : List ℕ
  front = codes "new -r 0 0 "

  across_small : shape.columns * shape.width + 8 < 10 ^ 5
  across_small = let few = wide_few shape is in omega (arith, few)

  down_small : shape.rows * shape.height + 8 < 10 ^ 5
  down_small = let few = high_few shape is in omega (arith, few)

  across_some : 0 < length across
  across_some = decimal_nonempty (shape.columns * shape.width + 8) (omega (arith, across_small))

  down_some : 0 < length down
  down_some = decimal_nonempty (shape.rows * shape.height + 8) (omega (arith, down_small))

  asked_plain : list_any is_newline (asked shape) ≡ false
  unfolding asked
  asked_plain =
      list_any-append is_newline (front ++ across ++ codes " ") down
      ∙ or_from _ _
      (list_any-append is_newline (front ++ across) (codes " ")
      ∙ or_from _ _ (list_any-append is_newline front across ∙ or_from _ _ refl (no_newline (shape.columns * shape.width + 8) (omega (arith, across_small)))) refl)
      (no_newline (shape.rows * shape.height + 8) (omega (arith, down_small)))

  asked_length : length (asked shape) ≤ 1024
  unfolding asked
  asked_length =
      let wide = length-decimal-le 5 (shape.columns * shape.width + 8) (omega arith) across_small (omega (arith, across_small)) in
      let high = length-decimal-le 5 (shape.rows * shape.height + 8) (omega arith) down_small (omega (arith, down_small)) in
      let between = length-append across (codes " ") in
      let all = length-append (across ++ codes " ") down in
      omega (arith, wide, high, between, all)

  asked_some : 0 < length (asked shape)
  unfolding asked
  asked_some = omega arith

  asked_words : words_of (asked shape) ≡ codes "new" ∷ codes "-r" ∷ codes "0" ∷ codes "0" ∷ across ∷ down ∷ []
  unfolding words_of asked
  asked_words =
      rw (
        append_assoc across (32 ∷ []) down,
        slice_split_at is_blank across 32 down (no_blank (shape.columns * shape.width + 8) (omega (arith, across_small))) refl,
        slice_split_none is_blank down (no_blank (shape.rows * shape.height + 8) (omega (arith, down_small))),
        ne_eqb (length across) 0 (λ e. omega (arith, e, across_some)),
        ne_eqb (length down) 0 (λ e. omega (arith, e, down_some)),
      ) refl

  pub asks_for_page : command_of false (asked shape) ≡ Some (record { what = wctl.New (choice.R (page_rect shape) ∷ []) false; id = [] })
  unfolding command_of reading.parts reading.setting reading.asked
  asks_for_page =
      rw (
        le-leb (length (asked shape)) 1024 asked_length,
        plain_line (asked shape) asked_plain asked_some,
        asked_words,
        signed_decimal_is (shape.columns * shape.width + 8) (omega (arith, across_small)),
        signed_decimal_is (shape.rows * shape.height + 8) (omega (arith, down_small)),
      ) refl
