-- The events of an input are on the display, and few.
use Rattle.std.proofs.Common.{◌≡◌, ◌∙◌, ◌≤◌, ◌<◌, ◌+◌, ◌/◌, ◌-◌, ◌^◌, ◌==◌, ◌&&◌, ℕ, ℤ, pos, negsuc, zero, suc, Bool, true, false, cond, List, [], ◌∷◌, length, drop, Option, Some, None, Ok, Err, refl, ap, subst, arith, leb-false}
use Rattle.std.specs.Prelude.{All, nat_abs, nat_le, slice_index, if◌then◌else◌}
use Rattle.std.specs.Option.{option_and_then}
use Rattle.std.proofs.lemmas.Int.{ints}
use Rattle.std.proofs.lemmas.List.Elements.{All-cons, All-nil}
use Rattle.law_shown.proofs.shown.Tests.{split}
use Rattle.model_text.specs.text.Field.{read_field}
use Rattle.model_text.specs.text.Reading as reading
use Rattle.model_text.specs.text.Outcome.{Outcome, ◌>>=◌, refuse_if, value_or_refuse}
use Rattle.model_files.specs.declared.mouse.Mouse.{Mouse}
use Rattle.model_files.specs.mouse.Pointer.{coordinate_in, is_within, natural_in, pointer_of}
use Rattle.model_files.specs.mouse.Pointer as pointer
use Rattle.law_desk.specs.piloted.Following.{IsEvent}
use Rattle.r9_clients.specs.deskfile.Events.{event_of, events_from, events_of, is_on_display, limit, texts_in, told}

-- ---- numbers that are read

record IsUpTo (most : ℕ) (z : ℤ) : Type 0 where
  n : ℕ
  is : z ≡ pos n
  few : n ≤ most

up_to : (most : ℕ) (z : ℤ) → is_within (pos 0) (pos most) z ≡ true → IsUpTo most z
up_to most (pos n) within = record { n = n; is = refl; few = grind (arith, ints) }
up_to most (negsuc n) within = absurd cc

-- the number of a test that let one through
natural_few : (most n : ℕ) (o : Option ℤ) → (reading.◌>>=◌ o (λ z. if is_within (pos 0) (pos most) z then Some (nat_abs z) else None)) ≡ Some n → n ≤ most
natural_few most n None e = absurd cc
natural_few most n (Some z) e = by (is_within (pos 0) (pos most) z) refl e
  where
    by : (b : Bool) → is_within (pos 0) (pos most) z ≡ b → cond b (Some (nat_abs z)) None ≡ Some n → n ≤ most
    by true within e =
        let up = up_to most z within in
        let few = up.few in
        let same : nat_abs z ≡ n = cc in
        let is : nat_abs z ≡ up.n = ap nat_abs up.is in
        omega (arith, few, same, is)
    by false within e = absurd cc

-- ---- the event that a text tells

-- four fields, each of which is there
record AreFour {A B C D : Type 0} (a : Option A) (b : Option B) (c : Option C) (d : Option D) (make : A → B → C → D → Mouse) (e : Mouse) : Type 0 where
  x : A
  y : B
  z : C
  w : D
  first : a ≡ Some x
  second : b ≡ Some y
  third : c ≡ Some z
  fourth : d ≡ Some w
  made : make x y z w ≡ e

four : {A B C D : Type 0} (a : Option A) (b : Option B) (c : Option C) (d : Option D) (make : A → B → C → D → Mouse) (e : Mouse)
    → reading.◌>>=◌ a (λ x. reading.◌>>=◌ b (λ y. reading.◌>>=◌ c (λ z. reading.◌>>=◌ d (λ w. Some (make x y z w))))) ≡ Some e → AreFour a b c d make e
four (Some x) (Some y) (Some z) (Some w) make e is = record { x = x; y = y; z = z; w = w; first = refl; second = refl; third = refl; fourth = refl; made = cc }
four (Some x) (Some y) (Some z) None make e is = absurd cc
four (Some x) (Some y) None d make e is = absurd cc
four (Some x) None c d make e is = absurd cc
four None b c d make e is = absurd cc

-- where it was told by a text, its buttons and its time are in range
record IsTold (e : Mouse) : Type 0 where
  buttons : e.buttons ≤ 31
  msec : e.msec < 2 ^ 32

pointer_told : (text : List ℕ) (e : Mouse) → pointer_of text ≡ Some e → IsTold e
unfolding pointer_of
pointer_told text e is = by ((length text == 49) && (slice_index text 0 == 109)) is
  where
    by : (b : Bool) → cond b (pointer.told text) None ≡ Some e → IsTold e
    by false f = absurd cc
    by true f =
        let fields =
        four (coordinate_in (drop 1 text)) (coordinate_in (drop 13 text)) (natural_in 31 (drop 25 text)) (natural_in (2 ^ 32 - 1) (drop 37 text)) (λ x y buttons msec. record { x = x; y = y; buttons = buttons; msec = msec }) e f
        in
        let pressed = natural_few 31 fields.z (read_field (drop 25 text)) fields.third in
        let when = natural_few (2 ^ 32 - 1) fields.w (read_field (drop 37 text)) fields.fourth in
        subst IsTold fields.made (record { buttons = pressed; msec = omega (arith, when) })

-- it is on the display
is_event : (e : Mouse) → IsTold e → is_on_display e ≡ true → IsEvent e
is_event e told on =
    let parts = split (is_within (pos 0) (pos 639) e.x) (is_within (pos 0) (pos 479) e.y) on in
    let x = up_to 639 e.x parts.0 in
    let y = up_to 479 e.y parts.1 in
    let wide = x.few in
    let high = y.few in
    record { left = x.n; x = x.is; wide = omega (arith, wide); top = y.n; y = y.is; high = omega (arith, high); buttons = told.buttons; msec = told.msec }

event_is : (text : List ℕ) (e : Mouse) → event_of text ≡ Some e → IsEvent e
unfolding event_of
event_is text e is = by (pointer_of text) refl is
  where
    by : (o : Option Mouse) → pointer_of text ≡ o → option_and_then (λ e. if is_on_display e then Some e else None) o ≡ Some e → IsEvent e
    by None was f = absurd cc
    by (Some p) was f = at (is_on_display p) refl f
      where
        at : (b : Bool) → is_on_display p ≡ b → cond b (Some p) None ≡ Some e → IsEvent e
        at true on g = let same : p ≡ e = cc in subst IsEvent same (is_event p (pointer_told text p was) on)
        at false off g = absurd cc

-- ---- the events of all texts

record AreTold (texts : List (List ℕ)) (events : List Mouse) : Type 0 where
  all : All IsEvent events
  many : length events ≡ length texts

texts_told : (place : ℕ) (texts : List (List ℕ)) (events : List Mouse) → told place texts ≡ Ok events → AreTold texts events
texts_told place [] events is = let none : [] ≡ events = cc in subst (AreTold []) none (record { all = All-nil IsEvent; many = refl })
texts_told place (text ∷ texts) events is = by (texts_told (place + 49) texts) (event_of text) refl is
  where
    by : ((more : List Mouse) → told (place + 49) texts ≡ Ok more → AreTold texts more)
        → (o : Option Mouse) → event_of text ≡ o → (value_or_refuse o place >>= λ e. told (place + 49) texts >>= λ more. Ok (e ∷ more)) ≡ Ok events → AreTold (text ∷ texts) events
    by others None was f = absurd cc
    by others (Some e) was f = at (told (place + 49) texts) refl f
      where
        at : (o : Outcome (List Mouse)) → told (place + 49) texts ≡ o → (o >>= λ more. Ok (e ∷ more)) ≡ Ok events → AreTold (text ∷ texts) events
        at (Err p) rest g = absurd cc
        at (Ok more) rest g =
            let are = others more rest in
            let same : e ∷ more ≡ events = cc in
            subst (AreTold (text ∷ texts)) same (record { all = All-cons IsEvent e more (event_is text e was) are.all; many = ap suc are.many })

texts_many : (count : ℕ) (bytes : List ℕ) → length (texts_in count bytes) ≡ count
texts_many zero bytes = refl
texts_many (suc count) bytes = ap suc (texts_many count (drop 49 bytes))

pub record AreGiven (events : List Mouse) : Type 0 where
  pub all : All IsEvent events
  pub few : length events ≤ 21400

pub given : (bytes : List ℕ) (events : List Mouse) → events_of bytes ≡ Ok events → AreGiven events
unfolding events_of events_from
given bytes events is = by (nat_le limit (length bytes)) refl is
  where
    by : (b : Bool) → nat_le limit (length bytes) ≡ b → (refuse_if b limit >>= λ _. told 0 (texts_in ((length bytes + 48) / 49) bytes)) ≡ Ok events → AreGiven events
    by true long f = absurd cc
    by false short f =
        let count = (length bytes + 48) / 49 in
        let are = texts_told 0 (texts_in count bytes) events f in
        let few : length bytes < 1048576 = leb-false limit (length bytes) short in
        let many : length events ≡ count = are.many ∙ texts_many count bytes in
        record { all = are.all; few = omega (arith, few, many) }
