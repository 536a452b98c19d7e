-- Lines that are put piece by piece.
use Rattle.std.proofs.Common.{◌≡◌, ℕ, zero, suc, ◌+◌, ◌≤◌, List, [], ◌∷◌, ◌++◌, length, get_or, take, drop, drop-cons, ◌<◌, Option, Some, None, refl, sym, ap, subst, ◌∙◌, append_assoc, arith}
use Rattle.std.specs.Option.{option_map}
use Rattle.std.proofs.lemmas.List.{append-nil, length-append, length-take, take-append-drop, take-append-le, take_at, take_all, drop_all}
use Rattle.r9_outside.specs.outside.Sink.{Appends, AppendsPart}
use Rattle.r9_event.specs.declared.event.event.Reply.{Reply}
use Rattle.model_history.specs.records.Line.{reply_line, reply_lines}
use Rattle.r9_serve.specs.declared.replay.log.Mark.{Mark}
use Rattle.r9_serve.specs.replay.Log.{cut_replies, AreCut}

-- These lines wait, and others follow, which are all but those that were put.
pub record IsPut (before : Option (List ℕ)) (lines others : List ℕ) (after : Option (List ℕ)) (all : List ℕ) : Type 0 where
  pub put : List ℕ
  pub appended : Appends before put after
  pub are : put ++ (lines ++ others) ≡ all

pub appends_then : (before : Option (List ℕ)) (one : List ℕ) (mid : Option (List ℕ)) (two : List ℕ) (after : Option (List ℕ)) → Appends before one mid → Appends mid two after → Appends before (one ++ two) after
appends_then None one mid two after a b = b ∙ ap (λ (o : Option (List ℕ)). option_map (λ held. held ++ two) o) a
appends_then (Some held) one mid two after a b =
    b ∙ ap (λ (o : Option (List ℕ)). option_map (λ held. held ++ two) o) a ∙ ap (λ (h : List ℕ). Some h) (append_assoc held one two)

-- nothing was put
pub appends_nothing : (held : Option (List ℕ)) → Appends held [] held
appends_nothing None = refl
appends_nothing (Some held) = ap (λ (h : List ℕ). Some h) (sym (append-nil held))

-- what was put and a part of what came then are a part of all
pub part_of : (before : Option (List ℕ)) (put : List ℕ) (mid : Option (List ℕ)) (piece : List ℕ) (after : Option (List ℕ)) (others all : List ℕ) → Appends before put mid
    → AppendsPart mid piece after → put ++ (piece ++ others) ≡ all → AppendsPart before all after
part_of before put mid piece after others all appended part is =
    let n = part.0 in
    let cut : all ≡ (put ++ take n piece) ++ (drop n piece ++ others) =
    sym is ∙ ap (λ (p : List ℕ). put ++ (p ++ others)) (sym (take-append-drop n piece))
    ∙ ap (λ (t : List ℕ). put ++ t) (append_assoc (take n piece) (drop n piece) others)
    ∙ sym (append_assoc put (take n piece) (drop n piece ++ others)) in
    let len : length (put ++ take n piece) ≡ length put + n = omega (arith, length-append put (take n piece), length-take n piece, part.1) in
    let front : take (length put + n) all ≡ put ++ take n piece =
    ap (λ (t : List ℕ). take (length put + n) t) cut ∙ take_at (put ++ take n piece) (drop n piece ++ others) (length put + n) len in (
      length put + n,
      omega (arith, part.1, ap length is, length-append put (piece ++ others), length-append piece others),
      subst (λ (t : List ℕ). Appends before t after) (sym front) (appends_then before put mid (take n piece) after appended part.2),
    )

-- nothing more was put
pub part_so_far : (before : Option (List ℕ)) (put : List ℕ) (mid : Option (List ℕ)) (others all : List ℕ) → Appends before put mid → put ++ others ≡ all → AppendsPart before all mid
part_so_far before put mid others all appended is =
    part_of before put mid others mid [] all appended (0, omega arith, appends_nothing mid) (ap (λ (t : List ℕ). put ++ t) (append-nil others) ∙ is)

pub nothing_put : (before : Option (List ℕ)) (lines others all : List ℕ) → lines ≡ [] → others ≡ all → IsPut before lines others before all
nothing_put before lines others all none is =
    record { put = []; appended = appends_nothing before; are = ap (λ (l : List ℕ). l ++ others) none ∙ is }

-- ---- one line more

abbrev pub PutsLine : (mid : Option (List ℕ)) (lines more line : List ℕ) (after : Option (List ℕ)) → Type 0
PutsLine mid lines more line after = (put : List ℕ) × Appends mid put after × (put ++ more ≡ lines ++ line)

put_then : (before : Option (List ℕ)) (lines more line others : List ℕ) (mid after : Option (List ℕ)) (all : List ℕ) → IsPut before lines (line ++ others) mid all
    → PutsLine mid lines more line after → IsPut before more others after all
put_then before lines more line others mid after all so_far puts = record {
  put = so_far.put ++ puts.0;
  appended = appends_then before so_far.put mid puts.0 after so_far.appended puts.1;
  are =
      append_assoc so_far.put puts.0 (more ++ others)
      ∙ ap (λ (t : List ℕ). so_far.put ++ t) (sym (append_assoc puts.0 more others) ∙ ap (λ (t : List ℕ). t ++ others) puts.2 ∙ append_assoc lines line others)
      ∙ so_far.are;
}

-- the first reply that is left, and the others
first_left : (here marks : List Mark) (mark : Mark) (rest frame behind : List ℕ) → here ≡ mark ∷ marks → frame ≡ take mark.len rest → behind ≡ drop mark.len rest
    → reply_lines (cut_replies here rest) ≡ reply_line (record { session = mark.session; bytes = frame }) ++ reply_lines (cut_replies marks behind)
first_left here marks mark rest frame behind is front back =
    ap (λ (ms : List Mark). reply_lines (cut_replies ms rest)) is
    ∙ ap (λ (f : List ℕ). reply_line (record { session = mark.session; bytes = f }) ++ reply_lines (cut_replies marks (drop mark.len rest))) (sym front)
    ∙ ap (λ (b : List ℕ). reply_line (record { session = mark.session; bytes = frame }) ++ reply_lines (cut_replies marks b)) (sym back)

pub put_more : (before : Option (List ℕ)) (here marks : List Mark) (mark : Mark) (rest frame behind lines more : List ℕ) (mid after : Option (List ℕ)) (all : List ℕ)
    → here ≡ mark ∷ marks → frame ≡ take mark.len rest → behind ≡ drop mark.len rest → IsPut before lines (reply_lines (cut_replies here rest)) mid all
    → PutsLine mid lines more (reply_line (record { session = mark.session; bytes = frame })) after → IsPut before more (reply_lines (cut_replies marks behind)) after all
put_more before here marks mark rest frame behind lines more mid after all is front back so_far puts =
    put_then before lines more _ _ mid after all (subst (λ (o : List ℕ). IsPut before lines o mid all) (first_left here marks mark rest frame behind is front back) so_far) puts

pub part_more : (before : Option (List ℕ)) (here marks : List Mark) (mark : Mark) (rest frame behind lines : List ℕ) (mid after : Option (List ℕ)) (all : List ℕ)
    → here ≡ mark ∷ marks → frame ≡ take mark.len rest → behind ≡ drop mark.len rest → IsPut before lines (reply_lines (cut_replies here rest)) mid all
    → AppendsPart mid (lines ++ reply_line (record { session = mark.session; bytes = frame })) after → AppendsPart before all after
part_more before here marks mark rest frame behind lines mid after all is front back so_far part =
    let line = reply_line (record { session = mark.session; bytes = frame }) in
    let others = reply_lines (cut_replies marks behind) in
    let left : IsPut before lines (line ++ others) mid all = subst (λ (o : List ℕ). IsPut before lines o mid all) (first_left here marks mark rest frame behind is front back) so_far in
    part_of before left.put mid (lines ++ line) after others all left.appended part
    (ap (λ (t : List ℕ). left.put ++ t) (append_assoc lines line others) ∙ left.are)

pub cut_first : (here marks : List Mark) (mark : Mark) (rest behind : List ℕ) → here ≡ mark ∷ marks → behind ≡ drop mark.len rest → AreCut here rest → (mark.len ≤ length rest) × AreCut marks behind
cut_first here marks mark rest behind is back cut =
    let both = subst (λ (ms : List Mark). AreCut ms rest) is cut in
    (both.0, subst (λ (b : List ℕ). AreCut marks b) (sym back) both.1)

-- ---- one reply more

drop-append : (n : ℕ) (xs ys : List ℕ) → n ≤ length xs → drop n (xs ++ ys) ≡ drop n xs ++ ys
drop-append zero xs ys within = refl
drop-append (suc n) [] ys within = absurd (omega (arith, within))
drop-append (suc n) (x ∷ xs) ys within = drop-append n xs ys (omega (arith, within))

pub cut_push : (marks : List Mark) (bytes frame : List ℕ) (mark : Mark) → AreCut marks bytes → mark.len ≡ length frame → AreCut (marks ++ mark ∷ []) (bytes ++ frame)
cut_push [] bytes frame mark cut len =
    let same : bytes ++ frame ≡ frame = ap (λ (b : List ℕ). b ++ frame) cut in
    rw same (omega (arith, len), drop_all mark.len frame (omega (arith, len)))
cut_push (m ∷ marks) bytes frame mark cut len = (
  omega (arith, cut.0, length-append bytes frame),
  subst (λ (b : List ℕ). AreCut (marks ++ mark ∷ []) b) (sym (drop-append m.len bytes frame cut.0)) (cut_push marks (drop m.len bytes) frame mark cut.1 len),
)

pub replies_push : (marks : List Mark) (bytes frame : List ℕ) (mark : Mark) → AreCut marks bytes → mark.len ≡ length frame
    → cut_replies (marks ++ mark ∷ []) (bytes ++ frame) ≡ cut_replies marks bytes ++ record { session = mark.session; bytes = frame } ∷ []
replies_push [] bytes frame mark cut len =
    let same : bytes ++ frame ≡ frame = ap (λ (b : List ℕ). b ++ frame) cut in
    rw same (ap (λ (f : List ℕ). (let made : Reply = record { session = mark.session; bytes = f } in made ∷ [])) (take_all mark.len frame (omega (arith, len))))
replies_push (m ∷ marks) bytes frame mark cut len =
    let front : take m.len (bytes ++ frame) ≡ take m.len bytes = take-append-le m.len bytes frame cut.0 in
    rw (front, drop-append m.len bytes frame cut.0) (ap (λ (rs : List Reply). (let made : Reply = record { session = m.session; bytes = take m.len bytes } in made ∷ rs)) (replies_push marks (drop m.len bytes) frame mark cut.1 len))

pub cut_pushed : (marks more : List Mark) (bytes longer frame : List ℕ) (mark : Mark) → AreCut marks bytes → mark.len ≡ length frame → more ≡ marks ++ mark ∷ [] → longer ≡ bytes ++ frame → AreCut more longer
cut_pushed marks more bytes longer frame mark cut len is_more is_longer =
    subst (λ (ms : List Mark). AreCut ms longer) (sym is_more) (subst (λ (b : List ℕ). AreCut (marks ++ mark ∷ []) b) (sym is_longer) (cut_push marks bytes frame mark cut len))

pub replies_pushed : (marks more : List Mark) (bytes longer frame : List ℕ) (mark : Mark) (old : List Reply) → AreCut marks bytes → mark.len ≡ length frame → more ≡ marks ++ mark ∷ [] → longer ≡ bytes ++ frame
    → cut_replies marks bytes ≡ old → cut_replies more longer ≡ old ++ record { session = mark.session; bytes = frame } ∷ []
replies_pushed marks more bytes longer frame mark old cut len is_more is_longer is =
    ap (λ (ms : List Mark). cut_replies ms longer) is_more ∙ ap (λ (b : List ℕ). cut_replies (marks ++ mark ∷ []) b) is_longer
    ∙ replies_push marks bytes frame mark cut len
    ∙ ap (λ (rs : List Reply). rs ++ (let made : Reply = record { session = mark.session; bytes = frame } in made ∷ [])) is

-- ---- the last lines

pub last_part : (before : Option (List ℕ)) (put lines piece whole all : List ℕ) (mid after last : Option (List ℕ)) → Appends before put mid → put ++ lines ≡ whole → whole ≡ all → piece ≡ lines
    → AppendsPart mid piece after → last ≡ after → AppendsPart before all last
last_part before put lines piece whole all mid after last appended is same shown part end =
    subst (λ (o : Option (List ℕ)). AppendsPart before all o) (sym end)
    (part_of before put mid piece after [] all appended part (ap (λ (p : List ℕ). put ++ p) (append-nil piece ∙ shown) ∙ is ∙ same))

pub whole_lines : (shown marks : List Mark) (seen bytes : List ℕ) (all : List Reply) → shown ≡ marks → seen ≡ bytes → cut_replies marks bytes ≡ all → reply_lines (cut_replies shown seen) ≡ reply_lines all
whole_lines shown marks seen bytes all is_marks is_bytes is =
    ap (λ (rs : List Reply). reply_lines rs)
    (ap (λ (ms : List Mark). cut_replies ms seen) is_marks ∙ ap (λ (b : List ℕ). cut_replies marks b) is_bytes ∙ is)

-- the marks that are left, as the first of them and the others
pub marks_left : (marks : List Mark) (at : ℕ) (other : Mark) → at < length marks → drop at marks ≡ get_or marks at other ∷ drop (at + 1) marks
marks_left marks at other within =
    let next : suc at ≡ at + 1 = omega arith in drop-cons marks at other within ∙ ap (λ (n : ℕ). get_or marks at other ∷ drop n marks) next

-- ---- two pieces, one after the other

pub first_part : (before : Option (List ℕ)) (one two : List ℕ) (after : Option (List ℕ)) → AppendsPart before one after → AppendsPart before (one ++ two) after
first_part before one two after part = part_of before [] before one after two (one ++ two) (appends_nothing before) part refl

pub second_part : (before : Option (List ℕ)) (one two : List ℕ) (mid after : Option (List ℕ)) → Appends before one mid → AppendsPart mid two after → AppendsPart before (one ++ two) after
second_part before one two mid after appended part = part_of before one mid two after [] (one ++ two) appended part (ap (λ (t : List ℕ). one ++ t) (append-nil two))
