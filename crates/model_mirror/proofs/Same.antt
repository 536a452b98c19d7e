-- The picture after the cells that are sent is the one that they are of.
use Rattle.std.proofs.Common.{◌≡◌, ◌∙◌, ℕ, pos, ◌<◌, ◌/◌, ◌^◌, Bool, true, false, List, [], ◌∷◌, ◌++◌, ltb, Option, Some, Ok, ⊎_elim, append_assoc, refl, sym, ap, subst, arith}
use Rattle.std.specs.Prelude.{if◌then◌else◌}
use Rattle.std.proofs.lemmas.Bool.{both_ways, cases_Bool, cond-false, cond-true, ltb-false, ltb-true, true≢false, MatchBool-at_false, MatchBool-at_true}
use Rattle.std.proofs.lemmas.Int.{ints}
use Rattle.std.proofs.lemmas.List.{append-nil, nil_from_length}
use Rattle.r9_geom.specs.declared.Point.{Point}
use Rattle.r9_geom.specs.Geometry.{holds, natural}
use Rattle.r9_geom.proofs.GeometryLemmas.{bounds_of, natural_is, same_point}
use Rattle.model_client.specs.mirror.Picture.{Picture, area, blank}
use Rattle.model_client.specs.mirror.Frames.{viewer}
use Rattle.model_mirror.specs.Frame.{numbers_line, size_line, IsEntry, IsFrame}
use Rattle.model_mirror.specs.Pictures.{IsLawful, IsSameWhereUnsent}
use Rattle.model_mirror.specs.Sent.{sent_of}
use Rattle.model_mirror.proofs.Drawn.{HasSize, IsDrawn}
use Rattle.model_mirror.proofs.Listed.{covered, covers}
use Rattle.model_mirror.proofs.Whole.{count_is, sent_cells, sized_frame, unsized_frame, viewer_on, Makes}

-- a point that no sent cell has
unsent : (before target : Picture) (sent : (column row : ℕ) → Bool) (p : Point) → IsLawful target → IsSameWhereUnsent sent before target → covers target (sent_cells target sent) p ≡ false → before.pixel p ≡ target.pixel p
unsent before target sent p lawful same none =
    ⊎_elim inside
    (λ (out : holds (area 0 0 target.width target.height) p ≡ false).
    same.beside p ((λ i. holds (area 0 0 (sym same.width i) (sym same.height i)) p) ∙ out) ∙ sym (lawful.beside p out))
    (cases_Bool (holds (area 0 0 target.width target.height) p))
  where
    at : (x y : ℕ) → x < target.width → y < target.height → covers target (sent_cells target sent) (record { x = pos x; y = pos y }) ≡ false → before.pixel (record { x = pos x; y = pos y }) ≡ target.pixel (record { x = pos x; y = pos y })
    at x y across down none =
        ⊎_elim
        (λ (is : sent (x / 32) (y / 32) ≡ true). absurd (both_ways (covers target (sent_cells target sent) (record { x = pos x; y = pos y })) none (covered target sent x y across down is)))
        (λ (is : sent (x / 32) (y / 32) ≡ false). sym (same.pixels x y (omega (arith, across, same.width)) (omega (arith, down, same.height)) is))
        (cases_Bool (sent (x / 32) (y / 32)))

    inside : holds (area 0 0 target.width target.height) p ≡ true → before.pixel p ≡ target.pixel p
    inside h =
        let bounds = bounds_of (area 0 0 target.width target.height) p h in
        let x = natural p.x in
        let y = natural p.y in
        let across : pos x ≡ p.x = natural_is p.x bounds.left in
        let down : pos y ≡ p.y = natural_is p.y bounds.top in
        let same_as : record { x = pos x; y = pos y } ≡ p = same_point (record { x = pos x; y = pos y }) p across down in
        subst (λ (q : Point). before.pixel q ≡ target.pixel q) same_as
        (at x y (omega (arith, ints, across, bounds.right)) (omega (arith, ints, down, bounds.bottom)) (ap (covers target (sent_cells target sent)) same_as ∙ none))

pub drawn_is : (before after target : Picture) (sent : (column row : ℕ) → Bool) → IsLawful target → IsSameWhereUnsent sent before target → IsDrawn target (sent_cells target sent) before after → after ≡ target
drawn_is before after target sent lawful same drawn = λ i. record { width = drawn.size.width i; height = drawn.size.height i; pixel = λ p. pixels p i }
  where
    pixels : (p : Point) → after.pixel p ≡ target.pixel p
    pixels p =
        let has = covers target (sent_cells target sent) p in
        drawn.pixels p
        ∙ ⊎_elim
        (λ (h : has ≡ true). cond-true has (target.pixel p) (before.pixel p) h)
        (λ (h : has ≡ false). cond-false has (target.pixel p) (before.pixel p) h ∙ unsent before target sent p lawful same h)
        (cases_Bool has)

-- ---- the laws

shown : (chan : ℕ) (before : Option Picture) (empty target : Picture) (sent : (column row : ℕ) → Bool) (front more : List ℕ) → IsLawful target → IsSameWhereUnsent sent empty target
    → viewer chan front ≡ Ok before → Makes chan before target empty sent front (70 ∷ more) → viewer chan (front ++ 70 ∷ more) ≡ Ok (Some target)
shown chan before empty target sent front more lawful same read makes =
    viewer_on chan before (Some makes.0) front more read makes.2 ∙ ap (λ (p : Picture). Ok (Some p)) (drawn_is empty makes.0 target sent lawful same makes.1)

pub sized : (chan number : ℕ) (before : Option Picture) (picture : Picture) (frames frame : List ℕ) → IsLawful picture → number < 10 ^ 18 → viewer chan frames ≡ Ok before
    → IsFrame chan number true picture (λ column row. true) frame → viewer chan (frames ++ frame) ≡ Ok (Some picture)
sized chan number before picture frames frame lawful small read is =
    let all : (column row : ℕ) → Bool = λ column row. true in
    let empty = blank picture.width picture.height in
    let same : IsSameWhereUnsent all empty picture = record { width = refl; height = refl; beside = λ p h. refl; pixels = λ x y across down e. absurd (true≢false e) } in
    let line = numbers_line 70 (number ∷ sent_of picture all ∷ []) in
    ap (λ (bytes : List ℕ). viewer chan (frames ++ bytes)) (is.is_text ∙ append_assoc line (size_line picture) is.cells)
    ∙ shown chan before empty picture all frames _ lawful same read (sized_frame chan number before picture all frames is.cells lawful small is.are_cells)

size_of : (before after : Picture) (sent : (column row : ℕ) → Bool) → IsSameWhereUnsent sent before after → HasSize before after
size_of before after sent same = record { width = sym same.width; height = sym same.height }

put_out : (chan number : ℕ) (before after : Picture) (sent : (column row : ℕ) → Bool) (frames entry : List ℕ) → IsLawful after → IsSameWhereUnsent sent before after
    → 0 < number → number < 10 ^ 18 → 0 < sent_of after sent → viewer chan frames ≡ Ok (Some before) → IsFrame chan number false after sent entry → viewer chan (frames ++ entry) ≡ Ok (Some after)
put_out chan number before after sent frames entry lawful same later small some read is =
    let line = numbers_line 70 (number ∷ sent_of after sent ∷ []) in
    ap (λ (bytes : List ℕ). viewer chan (frames ++ bytes)) (is.is_text ∙ ap (λ (bytes : List ℕ). bytes ++ is.cells) (append-nil line))
    ∙ shown chan (Some before) before after sent frames _ lawful same read
    (unsized_frame chan number after before sent frames is.cells lawful (size_of before after sent same) later small some is.are_cells)

-- where no cell is sent nothing has changed
nothing_sent : (before after : Picture) (sent : (column row : ℕ) → Bool) → IsLawful after → IsSameWhereUnsent sent before after → (0 < sent_of after sent → ⊥) → before ≡ after
nothing_sent before after sent lawful same none =
    let empty : sent_cells after sent ≡ [] = nil_from_length (sent_cells after sent) (omega (arith, none, count_is after sent)) in
    drawn_is before before after sent lawful same
    (record {
      size = size_of before after sent same;
      pixels = λ p. sym (ap (λ (cells : List (ℕ × ℕ)). if covers after cells p then after.pixel p else before.pixel p) empty);
    })

pub changed : (chan number : ℕ) (before after : Picture) (sent : (column row : ℕ) → Bool) (frames entry : List ℕ) → IsLawful after → IsSameWhereUnsent sent before after
    → 0 < number → number < 10 ^ 18 → viewer chan frames ≡ Ok (Some before) → IsEntry chan number false after sent entry → viewer chan (frames ++ entry) ≡ Ok (Some after)
changed chan number before after sent frames entry lawful same later small read is =
    ⊎_elim
    (λ (some : ltb 0 (sent_of after sent) ≡ true).
    put_out chan number before after sent frames entry lawful same later small (ltb-true 0 (sent_of after sent) some) read
    (MatchBool-at_true (IsFrame chan number false after sent entry) (entry ≡ []) some is))
    (λ (none : ltb 0 (sent_of after sent) ≡ false).
    let nothing : entry ≡ [] = MatchBool-at_false (IsFrame chan number false after sent entry) (entry ≡ []) none is in
    let low = ltb-false 0 (sent_of after sent) none in
    ap (λ (bytes : List ℕ). viewer chan (frames ++ bytes)) nothing
    ∙ ap (viewer chan) (append-nil frames)
    ∙ read
    ∙ ap (λ (p : Picture). Ok (Some p)) (nothing_sent before after sent lawful same (λ some. omega (arith, some, low))))
    (cases_Bool (ltb 0 (sent_of after sent)))
