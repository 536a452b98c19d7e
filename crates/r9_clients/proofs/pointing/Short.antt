-- The texts that a desk writes are short.
use Rattle.std.proofs.Common.{◌≡◌, ◌≤◌, ◌<◌, ◌^◌, ◌==◌, ℕ, Bool, true, false, List, [], ◌∷◌, ◌++◌, length, Option, Some, None, refl, sym, subst, arith, length-append, eqb-true}
use Rattle.std.specs.Prelude.{All, IsSome, codes}
use Rattle.std.specs.Fmt.{decimal}
use Rattle.std.proofs.lemmas.Fmt.{length-decimal-le}
use Rattle.std.proofs.lemmas.List.Elements.{All-cons, All-nil}
use Rattle.r9_geom.specs.declared.Rect.{Rect}
use Rattle.model_files.specs.declared.mouse.Mouse.{Mouse}
use Rattle.model_client.specs.declared.desk.Act.{Act}
use Rattle.model_client.specs.declared.desk.Act.TheVariants.{Delete, Hide, Move, New, Nothing, Pass, Resize}
use Rattle.model_client.specs.declared.desk.Pane.{Pane}
use Rattle.model_client.specs.declared.desk.Text.{Text}
use Rattle.model_client.specs.desk.Table.{Desk}
use Rattle.model_client.specs.desk.Asked.{asked}
use Rattle.model_client.specs.desk.Spelled.{change, id_words, rect_words, spelled}
use Rattle.model_client.specs.desk.Pilot.{written}
use Rattle.law_shown.proofs.shown.Tests.{find-passes}
use Rattle.model_clients.specs.piloted.Following.{pane_by}
use Rattle.law_desk.specs.piloted.Following.{IsEvent, is_over}
use Rattle.law_desk.proofs.piloted.Commands.{box}
use Rattle.law_desk.proofs.piloted.Events.{text_len}
use Rattle.law_desk.specs.ready.Ready.{ArePanes, IsReady, IsThere}
use Rattle.law_desk.proofs.ready.Fair.{MayDo}
use Rattle.law_desk.proofs.ready.Kept.{asks_fair}
use Rattle.law_desk.proofs.ready.Lists.{one_of}
use Rattle.law_desk.proofs.ready.Places.{IsBox, step_word}
use Rattle.r9_clients.specs.pointing.Said.{IsShort}

-- ---- numbers

few_digits : (n : ℕ) → n < 10 ^ 9 → length (decimal n) ≤ 9
few_digits n small = length-decimal-le 9 n (omega arith) small (omega (arith, small))

ids_len : (n : ℕ) → n < 10 ^ 9 → length (id_words n) ≤ 14
ids_len n small = omega (arith, few_digits n small)

corner_len : (x y : ℕ) → x < 1000 → y < 1000 → length (32 ∷ decimal x ++ 32 ∷ decimal y) ≤ 20
corner_len x y near low =
    omega (arith, length-append (decimal x) (32 ∷ decimal y), few_digits x (omega (arith, near)), few_digits y (omega (arith, low)))

rect_len : (left top right bottom : ℕ) → left < 1000 → top < 1000 → right < 1000 → bottom < 1000 → length (rect_words (box left top right bottom)) ≤ 43
rect_len left top right bottom l t r b =
    omega (arith, length-append (32 ∷ decimal left ++ 32 ∷ decimal top) (32 ∷ decimal right ++ 32 ∷ decimal bottom), corner_len left top l t, corner_len right bottom r b)

box_len : (r : Rect) → IsBox r → length (rect_words r) ≤ 43
box_len r is =
    let far = is.far in
    let low = is.low in
    let wide = is.wide in
    let high = is.high in
    subst (λ (place : Rect). length (rect_words place) ≤ 43) (sym is.is)
    (rect_len is.left is.top is.right is.bottom (omega (arith, far, wide)) (omega (arith, low, high)) far low)

-- ---- texts

one : (t : Text) → IsShort t → All IsShort (t ∷ [])
one t is = All-cons IsShort t [] is (All-nil IsShort)

new_len : (words : List ℕ) → length words ≤ 43 → length (codes "new" ++ words) ≤ 100
new_len words few = omega (arith, few)

resize_len : (words ids : List ℕ) → length words ≤ 43 → length ids ≤ 14 → length (codes "resize" ++ words ++ ids) ≤ 100
resize_len words ids few short = omega (arith, few, short, length-append words ids)

move_len : (x y ids : List ℕ) → length x ≤ 16 → length y ≤ 16 → length ids ≤ 14 → length (codes "move -minx " ++ x ++ codes " -miny " ++ y ++ ids) ≤ 100
move_len x y ids across down short =
    let first = codes "move -minx " ++ x in
    let second = first ++ codes " -miny " in
    omega (arith, across, down, short, length-append (second ++ y) ids, length-append second y, length-append first (codes " -miny "))

delete_len : (ids : List ℕ) → length ids ≤ 14 → length (codes "delete" ++ ids) ≤ 100
delete_len ids short = omega (arith, short)

hide_len : (ids : List ℕ) → length ids ≤ 14 → length (codes "hide" ++ ids) ≤ 100
hide_len ids short = omega (arith, short)

module _ (d : Desk) (e : Mouse) (panes : ArePanes d.next d.visible) (early : d.next < 10 ^ 9) (event : IsEvent e) where
  -- the number of a window that is there was given
  there_few : (n : ℕ) → IsThere n d.visible → n < 10 ^ 9
  there_few n there = by (pane_by n d.visible) refl there
    where
      by : (o : Option Pane) → pane_by n d.visible ≡ o → IsSome o → n < 10 ^ 9
      by (Some pane) is there =
          let number : pane.number ≡ n = eqb-true pane.number n (find-passes (λ (p : Pane). p.number == n) d.visible pane is) in
          let given = (one_of d.next (λ p. p.number == n) d.visible pane panes is).given in
          omega (arith, number, given, early)
      by None is there = absurd (let both : false ≡ true = there in cc both)

  texts_short : (over : Bool) (asks : Act) → MayDo over d asks → All IsShort (spelled asks e)
  unfolding spelled
  texts_short over Nothing may = All-nil IsShort
  texts_short over (Pass raised) may = one _ (omega (arith, text_len e event))
  texts_short over (New r) may = one _ (new_len (rect_words r) (box_len r may.0.box))
  texts_short over (Resize window r) may = one _ (resize_len (rect_words r) (id_words window) (box_len r may.1.box) (ids_len window (there_few window may.0)))
  texts_short over (Move pane by) may =
      let given = (one_of d.next (λ p. p.number == pane.number) d.visible pane panes may.here).given in
      one _ (move_len (change by.x) (change by.y) (id_words pane.number) (step_word by.x may.across).short (step_word by.y may.down).short (ids_len pane.number (omega (arith, given, early))))
  texts_short over (Delete window) may = one _ (delete_len (id_words window) (ids_len window (there_few window may.0)))
  texts_short over (Hide pane) may = let given = may.0.given in one _ (hide_len (id_words pane.number) (ids_len pane.number (omega (arith, given, early))))

-- the texts of an event
pub written_short : (k : ℕ) (d : Desk) (e : Mouse) → IsReady k d → IsEvent e → k ≤ 10 ^ 8 → All IsShort (written d e)
unfolding written
written_short k d e ready event soon =
    let few = ready.few in
    texts_short d e ready.panes (omega (arith, few, soon)) event (is_over d.mode d.last) (asked d e).act (asks_fair k d e ready event).does
