-- The font of an input is whole, and the input is short.
use Rattle.std.proofs.Common.{◌≡◌, ◌≤◌, ◌<◌, ◌+◌, ◌/◌, ◌%◌, ◌==◌, ℕ, ℤ, Bool, true, false, cond, List, length, take, drop, Option, Some, None, Result, Ok, Err, refl, sym, subst, arith}
use Rattle.std.specs.Prelude.{not, nat_le, nat_lt, ◌&&◌, IfOk}
use Rattle.std.specs.List.{starts_with}
use Rattle.std.proofs.lemmas.Bool.{leb-true, ltb-false, leb-false}
use Rattle.std.proofs.lemmas.List.{length-take, length-drop}
use Rattle.r9_geom.specs.Geometry.{natural}
use Rattle.model_text.specs.text.Field.{read_field}
use Rattle.model_text.specs.text.Outcome.{Outcome, ◌>>=◌, refuse_if, value_or_refuse}
use Rattle.r9_clients.specs.declared.textfile.input.BadInput.{BadInput}
use Rattle.r9_clients.specs.declared.textfile.input.Input as code
use Rattle.r9_clients.specs.textfile.View.{input_view, outcome_of}
use Rattle.r9_clients.specs.textfile.Input.{Input, IsFont, cells, channels, font_len, input_of, is_origin, limit, most_height, most_width, parts, placed, side, sized}

not_refused : {A : Type 0} (b : Bool) (place : ℕ) (next : Outcome A) (x : A) → (refuse_if b place >>= λ _. next) ≡ Ok x → (b ≡ false) × (next ≡ Ok x)
not_refused true place next x e = absurd cc
not_refused false place next x e = (refl, e)

given : {A B : Type 0} (o : Option A) (place : ℕ) (next : A → Outcome B) (x : B) → (value_or_refuse o place >>= next) ≡ Ok x → (y : A) × (o ≡ Some y) × (next y ≡ Ok x)
given (Some y) place next x e = (y, refl, e)
given None place next x e = absurd cc

-- what a test that let a number through says of it
tested : (b : Bool) (n : ℕ) (m : ℕ) → cond b (Some n) None ≡ Some m → (b ≡ true) × (n ≡ m)
tested true n m e = (refl, cc)
tested false n m e = absurd cc

both : (a b c : Bool) → (a && b && c) ≡ true → (b ≡ true) × (c ≡ true)
both true true true e = (refl, refl)
both true true false e = absurd cc
both true false c e = absurd cc
both false b c e = absurd cc

side_is : (unit most : ℕ) (field : Option ℤ) (n : ℕ) → side unit most field ≡ Some n → (1 ≤ n) × (n ≤ most)
unfolding side
side_is unit most None n e = absurd cc
side_is unit most (Some z) n e =
    let k = natural z / unit in
    let t = tested ((natural z % unit == 0) && nat_le 1 k && nat_le k most) k n e in
    let u = both (natural z % unit == 0) (nat_le 1 k) (nat_le k most) t.0 in
    (subst (λ (m : ℕ). 1 ≤ m) t.1 (leb-true 1 k u.0), subst (λ (m : ℕ). m ≤ most) t.1 (leb-true k most u.1))

-- the pixels that are cut off
parts_are : (width height : ℕ) (bytes : List ℕ) (input : Input) → 1 ≤ width → width ≤ most_width → 1 ≤ height → height ≤ most_height → parts width height bytes ≡ Ok input → IsFont input
unfolding parts
parts_are width height bytes input some_width few_wide some_height few_high e = by (nat_lt (length bytes) (60 + font_len width height)) refl e
  where
    made : Input
    made = record { width = width; height = height; pixels = take (font_len width height) (drop 60 bytes); text = drop (60 + font_len width height) bytes }

    by : (b : Bool) → nat_lt (length bytes) (60 + font_len width height) ≡ b → cond {A = Outcome Input} b (Err 60) (Ok made) ≡ Ok input → IsFont input
    by true is e = absurd cc
    by false is e =
        let long : 60 + font_len width height ≤ length bytes = ltb-false (length bytes) (60 + font_len width height) is in
        let same : made ≡ input = cc in
        subst IsFont same (record {
          some_width = some_width;
          most_width = few_wide;
          some_height = some_height;
          most_height = few_high;
          whole = omega (arith, long, length-take (font_len width height) (drop 60 bytes), length-drop 60 bytes);
        })

sized_is : (bytes : List ℕ) (input : Input) → sized bytes ≡ Ok input → IsFont input
unfolding sized
sized_is bytes input e =
    let next_height : ℕ → Outcome Input = λ width. value_or_refuse (side 1 most_height (read_field (drop 48 bytes))) 48 >>= λ height. parts width height bytes in
    let wide = given (side cells most_width (read_field (drop 36 bytes))) 36 next_height input e in
    let high = given (side 1 most_height (read_field (drop 48 bytes))) 48 (λ height. parts wide.0 height bytes) input wide.2 in
    let widths = side_is cells most_width (read_field (drop 36 bytes)) wide.0 wide.1 in
    let heights = side_is 1 most_height (read_field (drop 48 bytes)) high.0 high.1 in
    parts_are wide.0 high.0 bytes input widths.0 widths.1 heights.0 heights.1 high.2

pub placed_is : (bytes : List ℕ) (input : Input) → placed bytes ≡ Ok input → IsFont input
unfolding placed
placed_is bytes input e =
    let left = not_refused (not (is_origin (read_field (drop 12 bytes)))) 12 (refuse_if (not (is_origin (read_field (drop 24 bytes)))) 24 >>= λ _. sized bytes) input e in
    let upper = not_refused (not (is_origin (read_field (drop 24 bytes)))) 24 (sized bytes) input left.1 in
    sized_is bytes input upper.1

-- what the code answers
pub answered : (bytes : List ℕ) (r : Result code.Input BadInput) (P : code.Input → Type 0) → ((input : code.Input) → IsFont (input_view input) → P input) → outcome_of r ≡ placed bytes → IfOk r P
answered bytes (Ok input) P so e = so input (placed_is bytes (input_view input) (sym e))
answered bytes (Err bad) P so e = tt

-- what is an input is short, and its font is whole
pub input_is : (bytes : List ℕ) (input : Input) → input_of bytes ≡ Ok input → (length bytes < limit) × IsFont input
unfolding input_of
input_is bytes input e =
    let first = not_refused (nat_le limit (length bytes)) limit (refuse_if (not (starts_with ◌==◌ bytes channels)) 0 >>= λ _. placed bytes) input e in
    let second = not_refused (not (starts_with ◌==◌ bytes channels)) 0 (placed bytes) input first.1 in
    (leb-false limit (length bytes) first.0, placed_is bytes input second.1)
