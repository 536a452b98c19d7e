-- A stream in pieces is cut as the whole.
use Rattle.std.proofs.Common.{◌≡◌, ℕ, zero, suc, ◌+◌, ◌<◌, ◌≤◌, List, [], ◌∷◌, ◌++◌, length, drop, append_assoc, refl, sym, ap, subst, ◌∙◌, arith}
use Rattle.std.specs.Prelude.{Option, Some, None}
use Rattle.std.specs.List.{concat, fold}
use Rattle.std.proofs.lemmas.List.{append-nil, append_cancel_left, drop-append-le, length-append, length-drop}
use Rattle.std.proofs.lemmas.List.Folds.{concat-append}
use Rattle.model_files.specs.frame.Frame.{Cut, Frame, NeedMore, BadSize, first, Framing, given, left_by}
use Rattle.model_files.specs.frame.Stream.{messages_within, messages, messages_from, Reader, nothing_read, ready, with_given, taken_one, taken_within, all_taken, all_taken_from, fed, read_in_pieces, Step, Piece, Take, stepped, read_by, pieces_of}
use Rattle.model_files.proofs.frame.Laws.{frame_stays, bad_stays, frame_parts, frame_lawful, frame_within}

-- what a limit, bytes and a bad size that was met give
abbrev framing : (limit : ℕ) (held : List ℕ) (bad : Option ℕ) → Framing
framing limit held bad = record { held = held; limit = limit; bad = bad }

record GivesFrame (limit : ℕ) (held : List ℕ) (bad : Option ℕ) (frame : List ℕ) : Type 0 where
  pub not_bad : bad ≡ None
  pub is_first : first limit held ≡ Frame frame

gives_frame : (limit : ℕ) (held : List ℕ) (bad : Option ℕ) (frame : List ℕ) → given (framing limit held bad) ≡ Frame frame → GivesFrame limit held bad frame
gives_frame limit held None frame e = record { not_bad = refl; is_first = e }
gives_frame limit held (Some size) frame e = absurd cc

frame_again : (limit : ℕ) (held more : List ℕ) (bad : Option ℕ) (frame : List ℕ) → given (framing limit held bad) ≡ Frame frame → given (framing limit (held ++ more) bad) ≡ Frame frame
frame_again limit held more None frame e = frame_stays limit held more frame e
frame_again limit held more (Some size) frame e = absurd cc

bad_again : (limit : ℕ) (held more : List ℕ) (bad : Option ℕ) (size : ℕ) → given (framing limit held bad) ≡ BadSize size → given (framing limit (held ++ more) bad) ≡ BadSize size
bad_again limit held more None size e = bad_stays limit size held more e
bad_again limit held more (Some other) size e = e

-- one step, by what is given
abbrev took : (limits : List (List ℕ) → ℕ) → Reader → Cut → Reader
took limits r cut = record { read = with_given r.read cut; framing = left_by (ready limits r) cut }

abbrev onward : (most : ℕ) (limits : List (List ℕ) → ℕ) → Reader → Cut → Reader
onward most limits new (Frame frame) = taken_within most limits new
onward most limits new _ = new

onward_is : (most : ℕ) (limits : List (List ℕ) → ℕ) (r : Reader) (cut : Cut) → given (ready limits r) ≡ cut → taken_within (suc most) limits r ≡ onward most limits (took limits r cut) cut
onward_is most limits r cut e = ap (λ (c : Cut). onward most limits (took limits r c) c) e

-- the reader behind the next message
abbrev next : (limits : List (List ℕ) → ℕ) → Reader → List ℕ → Reader
next limits r frame = took limits r (Frame frame)

record Shorter (limits : List (List ℕ) → ℕ) (r : Reader) (frame : List ℕ) : Type 0 where
  pub not_bad : r.framing.bad ≡ None
  pub is_first : first (limits r.read) r.framing.held ≡ Frame frame
  pub within : length frame ≤ length r.framing.held
  pub shorter : length (next limits r frame).framing.held < length r.framing.held
  pub length_is : length (next limits r frame).framing.held + length frame ≡ length r.framing.held

shorter : (limits : List (List ℕ) → ℕ) (r : Reader) (frame : List ℕ) → given (ready limits r) ≡ Frame frame → Shorter limits r frame
shorter limits r frame e =
    let g = gives_frame (limits r.read) r.framing.held r.framing.bad frame e in
    let lawful = frame_lawful (limits r.read) r.framing.held frame g.is_first in
    let within = frame_within (limits r.read) r.framing.held frame g.is_first in
    let cut = length-drop (length frame) r.framing.held in
    record {
      not_bad = g.not_bad;
      is_first = g.is_first;
      within = within;
      shorter = omega (arith, lawful.1);
      length_is = omega arith;
    }

-- any number of times above that of the bytes held is enough
enough_taken : (most more : ℕ) (limits : List (List ℕ) → ℕ) (r : Reader) → length r.framing.held < most → length r.framing.held < more
    → taken_within most limits r ≡ taken_within more limits r
enough_taken zero more limits r few fewer = absurd (omega (arith, few))
enough_taken (suc most) zero limits r few fewer = absurd (omega (arith, fewer))
enough_taken (suc most) (suc more) limits r few fewer = go (enough_taken most more limits) (given (ready limits r)) refl
  where
    go : ((n : Reader) → length n.framing.held < most → length n.framing.held < more → taken_within most limits n ≡ taken_within more limits n)
        → (cut : Cut) → given (ready limits r) ≡ cut → taken_within (suc most) limits r ≡ taken_within (suc more) limits r
    go later (Frame frame) e =
        let s = shorter limits r frame e in
        onward_is most limits r (Frame frame) e ∙ later (next limits r frame) (omega arith) (omega arith)
        ∙ sym (onward_is more limits r (Frame frame) e)
    go later NeedMore e = onward_is most limits r NeedMore e ∙ sym (onward_is more limits r NeedMore e)
    go later (BadSize size) e = onward_is most limits r (BadSize size) e ∙ sym (onward_is more limits r (BadSize size) e)

-- all that is taken, by what is given
pub all_onward : (limits : List (List ℕ) → ℕ) (r : Reader) (cut : Cut) → given (ready limits r) ≡ cut → all_taken limits r ≡ onward (length r.framing.held) limits (took limits r cut) cut
unfolding all_taken
all_onward limits r cut e = onward_is (length r.framing.held) limits r cut e

pub all_behind : (limits : List (List ℕ) → ℕ) (r : Reader) (frame : List ℕ) → given (ready limits r) ≡ Frame frame → all_taken limits r ≡ all_taken limits (next limits r frame)
unfolding all_taken
all_behind limits r frame e =
    let s = shorter limits r frame e in
    onward_is (length r.framing.held) limits r (Frame frame) e
    ∙ enough_taken (length r.framing.held) (suc (length (next limits r frame).framing.held)) limits (next limits r frame) s.shorter (omega arith)

-- the reader behind a message, and then more bytes
behind_fed : (limits : List (List ℕ) → ℕ) (r : Reader) (frame more : List ℕ) → length frame ≤ length r.framing.held → fed more (next limits r frame) ≡ next limits (fed more r) frame
behind_fed limits r frame more within = rw (drop-append-le (length frame) r.framing.held more within) refl

-- a limit that is set already changes nothing
same_ready : (limits : List (List ℕ) → ℕ) (r : Reader) → all_taken limits (record r { framing = ready limits r }) ≡ all_taken limits r
unfolding all_taken
same_ready limits r = refl

-- one that is taken before more bytes come changes nothing
one_before : (limits : List (List ℕ) → ℕ) (r : Reader) (more : List ℕ) → all_taken limits (fed more (taken_one limits r)) ≡ all_taken limits (fed more r)
one_before limits r more = go (given (ready limits r)) refl
  where
    go : (cut : Cut) → given (ready limits r) ≡ cut → all_taken limits (fed more (took limits r cut)) ≡ all_taken limits (fed more r)
    go (Frame frame) e =
        let s = shorter limits r frame e in
        ap (all_taken limits) (behind_fed limits r frame more s.within)
        ∙ sym (all_behind limits (fed more r) frame (frame_again (limits r.read) r.framing.held more r.framing.bad frame e))
    go NeedMore e = same_ready limits (fed more r)
    go (BadSize size) e =
        all_onward limits (fed more (took limits r (BadSize size))) (BadSize size) refl
        ∙ sym (all_onward limits (fed more r) (BadSize size) (bad_again (limits r.read) r.framing.held more r.framing.bad size e))

-- nor do those that are taken so many times
taken_before : (most : ℕ) (limits : List (List ℕ) → ℕ) (r : Reader) (more : List ℕ) → all_taken limits (fed more (taken_within most limits r)) ≡ all_taken limits (fed more r)
taken_before zero limits r more = refl
taken_before (suc most) limits r more = go (taken_before most limits (taken_one limits r) more) (given (ready limits r)) ∙ one_before limits r more
  where
    go : all_taken limits (fed more (taken_within most limits (taken_one limits r))) ≡ all_taken limits (fed more (taken_one limits r))
        → (cut : Cut) → all_taken limits (fed more (onward most limits (taken_one limits r) cut)) ≡ all_taken limits (fed more (taken_one limits r))
    go later (Frame frame) = later
    go later NeedMore = refl
    go later (BadSize size) = refl

pub all_before : (limits : List (List ℕ) → ℕ) (r : Reader) (more : List ℕ) → all_taken limits (fed more (all_taken limits r)) ≡ all_taken limits (fed more r)
unfolding all_taken
all_before limits r more = taken_before (suc (length r.framing.held)) limits r more

fed_twice : (r : Reader) (piece more : List ℕ) → fed more (fed piece r) ≡ fed (piece ++ more) r
fed_twice r piece more = rw (append_assoc r.framing.held piece more) refl

-- a piece and another piece are read as both in one
joined : (limits : List (List ℕ) → ℕ) (r : Reader) (piece more : List ℕ) → all_taken limits (fed more (all_taken limits (fed piece r))) ≡ all_taken limits (fed (piece ++ more) r)
joined limits r piece more = all_before limits (fed piece r) more ∙ ap (all_taken limits) (fed_twice r piece more)

-- how a reader goes on over more pieces
abbrev goes_on : (limits : List (List ℕ) → ℕ) → Reader → List (List ℕ) → Reader
goes_on limits r pieces = fold (λ r piece. all_taken limits (fed piece r)) r pieces

-- nothing more can be taken
abbrev Settled : (limits : List (List ℕ) → ℕ) → Reader → Type 0
Settled limits r = all_taken limits (fed [] r) ≡ r

settled_after : (limits : List (List ℕ) → ℕ) (r : Reader) (piece : List ℕ) → Settled limits (all_taken limits (fed piece r))
settled_after limits r piece = joined limits r piece [] ∙ ap (λ xs. all_taken limits (fed xs r)) (append-nil piece)

as_one_piece : (limits : List (List ℕ) → ℕ) (r : Reader) (pieces : List (List ℕ)) → Settled limits r → goes_on limits r pieces ≡ all_taken limits (fed (concat pieces) r)
as_one_piece limits r [] settled = sym settled
as_one_piece limits r (piece ∷ pieces) settled =
    as_one_piece limits (all_taken limits (fed piece r)) pieces (settled_after limits r piece) ∙ joined limits r piece (concat pieces)

settled_first : (limits : List (List ℕ) → ℕ) → Settled limits (nothing_read limits)
unfolding all_taken first
settled_first limits = refl

pub pieces_as_one : (limits : List (List ℕ) → ℕ) (pieces : List (List ℕ)) → read_in_pieces limits pieces ≡ all_taken limits (fed (concat pieces) (nothing_read limits))
pieces_as_one limits pieces = as_one_piece limits (nothing_read limits) pieces (settled_first limits)

pub same_run : (limits : List (List ℕ) → ℕ) (pieces : List (List ℕ)) → read_in_pieces limits pieces ≡ read_in_pieces limits (concat pieces ∷ [])
same_run limits pieces = pieces_as_one limits pieces

fed_nothing : (r : Reader) → fed [] r ≡ r
fed_nothing r = rw (append-nil r.framing.held) refl

-- the steps so far change nothing of what is read once all is taken
steps_as_one : (limits : List (List ℕ) → ℕ) (steps : List Step) (r : Reader) → all_taken limits (fold (stepped limits) r steps) ≡ all_taken limits (fed (concat (pieces_of steps)) r)
steps_as_one limits [] r = ap (all_taken limits) (sym (fed_nothing r))
steps_as_one limits (Piece piece ∷ steps) r = steps_as_one limits steps (fed piece r) ∙ ap (all_taken limits) (fed_twice r piece (concat (pieces_of steps)))
steps_as_one limits (Take ∷ steps) r = steps_as_one limits steps (taken_one limits r) ∙ one_before limits r (concat (pieces_of steps))

pub any_order : (limits : List (List ℕ) → ℕ) (steps : List Step) → all_taken limits (read_by limits steps) ≡ read_in_pieces limits (pieces_of steps)
any_order limits steps = steps_as_one limits steps (nothing_read limits) ∙ sym (pieces_as_one limits (pieces_of steps))

abbrev all_of : Reader → List ℕ
all_of r = concat r.read ++ r.framing.held

one_keeps : (limits : List (List ℕ) → ℕ) (r : Reader) → all_of (taken_one limits r) ≡ all_of r
one_keeps limits r = go (given (ready limits r)) refl
  where
    go : (cut : Cut) → given (ready limits r) ≡ cut → all_of (took limits r cut) ≡ all_of r
    go (Frame frame) e =
        let s = shorter limits r frame e in
        ap (λ (front : List ℕ). front ++ drop (length frame) r.framing.held) (concat-append r.read (frame ∷ []) ∙ ap (λ (end : List ℕ). concat r.read ++ end) (append-nil frame))
        ∙ append_assoc (concat r.read) frame (drop (length frame) r.framing.held)
        ∙ ap (λ (end : List ℕ). concat r.read ++ end) (sym (frame_parts (limits r.read) r.framing.held frame s.is_first))
    go NeedMore e = refl
    go (BadSize size) e = refl

fed_keeps : (r : Reader) (piece : List ℕ) → all_of (fed piece r) ≡ all_of r ++ piece
fed_keeps r piece = sym (append_assoc (concat r.read) r.framing.held piece)

steps_keep : (limits : List (List ℕ) → ℕ) (steps : List Step) (r : Reader) → all_of (fold (stepped limits) r steps) ≡ all_of r ++ concat (pieces_of steps)
steps_keep limits [] r = sym (append-nil (all_of r))
steps_keep limits (Piece piece ∷ steps) r =
    steps_keep limits steps (fed piece r) ∙ ap (λ (front : List ℕ). front ++ concat (pieces_of steps)) (fed_keeps r piece)
    ∙ append_assoc (all_of r) piece (concat (pieces_of steps))
steps_keep limits (Take ∷ steps) r = steps_keep limits steps (taken_one limits r) ∙ ap (λ (front : List ℕ). front ++ concat (pieces_of steps)) (one_keeps limits r)

-- messages read and bytes held are all bytes that came
pub steps_bytes : (limits : List (List ℕ) → ℕ) (steps : List Step) → all_of (read_by limits steps) ≡ concat (pieces_of steps)
steps_bytes limits steps = steps_keep limits steps (nothing_read limits)

bytes_stay : (most : ℕ) (limits : List (List ℕ) → ℕ) (r : Reader) → all_of (taken_within most limits r) ≡ all_of r
bytes_stay zero limits r = refl
bytes_stay (suc most) limits r = go (bytes_stay most limits (taken_one limits r)) (given (ready limits r)) ∙ one_keeps limits r
  where
    go : all_of (taken_within most limits (taken_one limits r)) ≡ all_of (taken_one limits r) → (cut : Cut) → all_of (onward most limits (taken_one limits r) cut) ≡ all_of (taken_one limits r)
    go later (Frame frame) = later
    go later NeedMore = refl
    go later (BadSize size) = refl

bytes_taken : (limits : List (List ℕ) → ℕ) (r : Reader) → all_of (all_taken limits r) ≡ all_of r
unfolding all_taken
bytes_taken limits r = bytes_stay (suc (length r.framing.held)) limits r

pub all_bytes : (limits : List (List ℕ) → ℕ) (pieces : List (List ℕ)) → all_of (read_in_pieces limits pieces) ≡ concat pieces
all_bytes limits pieces = ap all_of (pieces_as_one limits pieces) ∙ bytes_taken limits (fed (concat pieces) (nothing_read limits))

-- the messages, by the cut at the front
abbrev messages_onward : ℕ → (limits : List (List ℕ) → ℕ) (before : List (List ℕ)) (bytes : List ℕ) → Cut → List (List ℕ)
messages_onward most limits before bytes (Frame frame) = frame ∷ messages_within most limits (before ++ frame ∷ []) (drop (length frame) bytes)
messages_onward most limits before bytes _ = []

messages_are : (most : ℕ) (limits : List (List ℕ) → ℕ) (before : List (List ℕ)) (bytes : List ℕ) (cut : Cut) → first (limits before) bytes ≡ cut
    → messages_within (suc most) limits before bytes ≡ messages_onward most limits before bytes cut
messages_are most limits before bytes cut e = ap (λ (c : Cut). messages_onward most limits before bytes c) e

none_needing : (most : ℕ) (limits : List (List ℕ) → ℕ) (before : List (List ℕ)) (bytes : List ℕ) → first (limits before) bytes ≡ NeedMore → messages_within most limits before bytes ≡ []
none_needing zero limits before bytes e = refl
none_needing (suc most) limits before bytes e = messages_are most limits before bytes NeedMore e

none_bad : (most : ℕ) (limits : List (List ℕ) → ℕ) (before : List (List ℕ)) (bytes : List ℕ) (size : ℕ) → first (limits before) bytes ≡ BadSize size → messages_within most limits before bytes ≡ []
none_bad zero limits before bytes size e = refl
none_bad (suc most) limits before bytes size e = messages_are most limits before bytes (BadSize size) e

abbrev reader : (read : List (List ℕ)) (held : List ℕ) (limit : ℕ) → Reader
reader read held limit = record { read = read; framing = framing limit held None }

-- a reader reads the messages
messages_read : (most more : ℕ) (limits : List (List ℕ) → ℕ) (read : List (List ℕ)) (held : List ℕ) (limit : ℕ) → length held < most → length held ≤ more
    → (taken_within most limits (reader read held limit)).read ≡ read ++ messages_within more limits read held
messages_read zero more limits read held limit few fewer = absurd (omega (arith, few))
messages_read (suc most) more limits read held limit few fewer =
    go more fewer (λ k now bytes l. messages_read most k limits now bytes l) (first (limits read) held) refl
  where
    go : (more : ℕ) → length held ≤ more
        → ((k : ℕ) (now : List (List ℕ)) (bytes : List ℕ) (l : ℕ) → length bytes < most → length bytes ≤ k → (taken_within most limits (reader now bytes l)).read ≡ now ++ messages_within k limits now bytes)
        → (cut : Cut) → first (limits read) held ≡ cut → (taken_within (suc most) limits (reader read held limit)).read ≡ read ++ messages_within more limits read held
    go zero fewer later (Frame frame) e = let s = shorter limits (reader read held limit) frame e in absurd (omega arith)
    go (suc more) fewer later (Frame frame) e =
        let s = shorter limits (reader read held limit) frame e in
        ap (λ (r : Reader). r.read) (onward_is most limits (reader read held limit) (Frame frame) e)
        ∙ later more (read ++ frame ∷ []) (drop (length frame) held) (limits read) (omega arith) (omega arith)
        ∙ append_assoc read (frame ∷ []) (messages_within more limits (read ++ frame ∷ []) (drop (length frame) held))
        ∙ ap (λ (end : List (List ℕ)). read ++ end) (sym (messages_are more limits read held (Frame frame) e))
    go more fewer later NeedMore e =
        ap (λ (r : Reader). r.read) (onward_is most limits (reader read held limit) NeedMore e)
        ∙ sym (append-nil read) ∙ ap (λ (end : List (List ℕ)). read ++ end) (sym (none_needing more limits read held e))
    go more fewer later (BadSize size) e =
        ap (λ (r : Reader). r.read) (onward_is most limits (reader read held limit) (BadSize size) e)
        ∙ sym (append-nil read) ∙ ap (λ (end : List (List ℕ)). read ++ end) (sym (none_bad more limits read held size e))

pub read_messages : (limits : List (List ℕ) → ℕ) (pieces : List (List ℕ)) → (read_in_pieces limits pieces).read ≡ messages limits [] (concat pieces)
unfolding all_taken messages
read_messages limits pieces =
    ap (λ (r : Reader). r.read) (pieces_as_one limits pieces)
    ∙ messages_read (suc (length (concat pieces))) (length (concat pieces)) limits [] (concat pieces) (limits []) (omega arith) (omega arith)

-- any number from that of the bytes is enough
enough_messages : (most more : ℕ) (limits : List (List ℕ) → ℕ) (before : List (List ℕ)) (bytes : List ℕ) → length bytes ≤ most → length bytes ≤ more
    → messages_within most limits before bytes ≡ messages_within more limits before bytes
enough_messages most more limits before bytes few fewer =
    append_cancel_left before _ _
    (sym (messages_read (suc (length bytes)) most limits before bytes 0 (omega arith) few) ∙ messages_read (suc (length bytes)) more limits before bytes 0 (omega arith) fewer)

pub messages_begin : (limits : List (List ℕ) → ℕ) (before : List (List ℕ)) (bytes : List ℕ) → messages limits before bytes ≡ messages_from limits before bytes (first (limits before) bytes)
unfolding messages
messages_begin limits before bytes = go (first (limits before) bytes) refl
  where
    one_more : messages_within (length bytes) limits before bytes ≡ messages_within (suc (length bytes)) limits before bytes
    one_more = enough_messages (length bytes) (suc (length bytes)) limits before bytes (omega arith) (omega arith)

    go : (cut : Cut) → first (limits before) bytes ≡ cut → messages_within (length bytes) limits before bytes ≡ messages_from limits before bytes cut
    go (Frame frame) e =
        let s = shorter limits (reader before bytes 0) frame e in
        let behind : List ℕ = drop (length frame) bytes in
        one_more ∙ messages_are (length bytes) limits before bytes (Frame frame) e
        ∙ ap (λ (end : List (List ℕ)). frame ∷ end) (enough_messages (length bytes) (length behind) limits (before ++ frame ∷ []) behind (omega arith) (omega arith))
    go NeedMore e = none_needing (length bytes) limits before bytes e
    go (BadSize size) e = none_bad (length bytes) limits before bytes size e

-- what is read stays, and more comes behind it
abbrev Grows : Reader → Reader → Type 0
Grows r new = (rest : List (List ℕ)) × (new.read ≡ r.read ++ rest)

grows_none : (r : Reader) → Grows r r
grows_none r = ([], sym (append-nil r.read))

grows_on : (a b c : Reader) → Grows a b → Grows b c → Grows a c
grows_on a b c f g = (f.0 ++ g.0, g.1 ∙ ap (λ (front : List (List ℕ)). front ++ g.0) f.1 ∙ append_assoc a.read f.0 g.0)

grows_one : (limits : List (List ℕ) → ℕ) (r : Reader) → Grows r (taken_one limits r)
grows_one limits r = go (given (ready limits r))
  where
    go : (cut : Cut) → Grows r (took limits r cut)
    go (Frame frame) = (frame ∷ [], refl)
    go NeedMore = ([], sym (append-nil r.read))
    go (BadSize size) = ([], sym (append-nil r.read))

grows_within : (most : ℕ) (limits : List (List ℕ) → ℕ) (r : Reader) → Grows r (taken_within most limits r)
grows_within zero limits r = grows_none r
grows_within (suc most) limits r =
    grows_on r (taken_one limits r) (taken_within (suc most) limits r) (grows_one limits r) (go (grows_within most limits (taken_one limits r)) (given (ready limits r)))
  where
    go : Grows (taken_one limits r) (taken_within most limits (taken_one limits r)) → (cut : Cut) → Grows (taken_one limits r) (onward most limits (taken_one limits r) cut)
    go later (Frame frame) = later
    go later NeedMore = grows_none (taken_one limits r)
    go later (BadSize size) = grows_none (taken_one limits r)

grows_all : (limits : List (List ℕ) → ℕ) (r : Reader) → Grows r (all_taken limits r)
unfolding all_taken
grows_all limits r = grows_within (suc (length r.framing.held)) limits r

-- what is read at any time is a front of the messages
pub steps_front : (limits : List (List ℕ) → ℕ) (steps : List Step) → (rest : List (List ℕ)) × (messages limits [] (concat (pieces_of steps)) ≡ (read_by limits steps).read ++ rest)
steps_front limits steps =
    let g = grows_all limits (read_by limits steps) in
    (g.0, sym (read_messages limits (pieces_of steps)) ∙ ap (λ (r : Reader). r.read) (sym (any_order limits steps)) ∙ g.1)

-- the fuel of all that is taken is enough
pub all_taken_is : (limits : List (List ℕ) → ℕ) (r : Reader) → all_taken limits r ≡ all_taken_from limits r (given (ready limits r))
all_taken_is limits r = go (given (ready limits r)) refl
  where
    by_cut : (cut : Cut) → given (ready limits r) ≡ cut → taken_one limits r ≡ took limits r cut
    by_cut cut e = ap (took limits r) e

    go : (cut : Cut) → given (ready limits r) ≡ cut → all_taken limits r ≡ all_taken_from limits r cut
    go (Frame frame) e = all_behind limits r frame e ∙ ap (all_taken limits) (sym (by_cut (Frame frame) e))
    go NeedMore e = all_onward limits r NeedMore e ∙ sym (by_cut NeedMore e)
    go (BadSize size) e = all_onward limits r (BadSize size) e ∙ sym (by_cut (BadSize size) e)

-- what is given next is what stands at the front of the bytes held
abbrev pub Tells : (limits : List (List ℕ) → ℕ) → Reader → Type 0
Tells limits r = given (ready limits r) ≡ first (limits r.read) r.framing.held

tells_fed : (limits : List (List ℕ) → ℕ) (r : Reader) (more : List ℕ) → Tells limits r → Tells limits (fed more r)
tells_fed limits r more told = go r.framing.bad told
  where
    go : (bad : Option ℕ) → given (framing (limits r.read) r.framing.held bad) ≡ first (limits r.read) r.framing.held
        → given (framing (limits r.read) (r.framing.held ++ more) bad) ≡ first (limits r.read) (r.framing.held ++ more)
    go None t = refl
    go (Some size) t = sym (bad_stays (limits r.read) size r.framing.held more (sym t))

tells_one : (limits : List (List ℕ) → ℕ) (r : Reader) → Tells limits r → Tells limits (taken_one limits r)
tells_one limits r told = go (given (ready limits r)) refl
  where
    go : (cut : Cut) → given (ready limits r) ≡ cut → Tells limits (took limits r cut)
    go (Frame frame) e =
        let s = shorter limits r frame e in
        ap (λ (bad : Option ℕ). given (framing (limits (r.read ++ frame ∷ [])) (drop (length frame) r.framing.held) bad)) s.not_bad
    go NeedMore e = told
    go (BadSize size) e = sym e ∙ told

tells_within : (most : ℕ) (limits : List (List ℕ) → ℕ) (r : Reader) → Tells limits r → Tells limits (taken_within most limits r)
tells_within zero limits r told = told
tells_within (suc most) limits r told = go (tells_one limits r told) (tells_within most limits (taken_one limits r) (tells_one limits r told)) (given (ready limits r))
  where
    go : Tells limits (taken_one limits r) → Tells limits (taken_within most limits (taken_one limits r)) → (cut : Cut) → Tells limits (onward most limits (taken_one limits r) cut)
    go here later (Frame frame) = later
    go here later NeedMore = here
    go here later (BadSize size) = here

tells_all : (limits : List (List ℕ) → ℕ) (r : Reader) → Tells limits r → Tells limits (all_taken limits r)
unfolding all_taken
tells_all limits r told = tells_within (suc (length r.framing.held)) limits r told

tells_on : (limits : List (List ℕ) → ℕ) (steps : List Step) (r : Reader) → Tells limits r → Tells limits (fold (stepped limits) r steps)
tells_on limits [] r told = told
tells_on limits (Piece piece ∷ steps) r told = tells_on limits steps (fed piece r) (tells_fed limits r piece told)
tells_on limits (Take ∷ steps) r told = tells_on limits steps (taken_one limits r) (tells_one limits r told)

pub steps_tell : (limits : List (List ℕ) → ℕ) (steps : List Step) → Tells limits (read_by limits steps)
steps_tell limits steps = tells_on limits steps (nothing_read limits) refl

-- where nothing more can be taken no message stands
none_stands : (limits : List (List ℕ) → ℕ) (r : Reader) → Tells limits r → all_taken limits r ≡ r → messages limits r.read r.framing.held ≡ []
none_stands limits r told settled = messages_begin limits r.read r.framing.held ∙ go (first (limits r.read) r.framing.held) refl
  where
    go : (cut : Cut) → first (limits r.read) r.framing.held ≡ cut → messages_from limits r.read r.framing.held cut ≡ []
    go (Frame frame) e =
        let g = grows_all limits (next limits r frame) in
        let same : r.read ≡ (r.read ++ frame ∷ []) ++ g.0 = ap (λ (x : Reader). x.read) (sym settled ∙ all_behind limits r frame (told ∙ e)) ∙ g.1 in
        absurd (omega (arith, ap length same, length-append (r.read ++ frame ∷ []) g.0, length-append r.read (frame ∷ [])))
    go NeedMore e = refl
    go (BadSize size) e = refl

all_again : (limits : List (List ℕ) → ℕ) (r : Reader) → all_taken limits (all_taken limits r) ≡ all_taken limits r
all_again limits r = ap (all_taken limits) (sym (fed_nothing (all_taken limits r))) ∙ all_before limits r [] ∙ ap (all_taken limits) (fed_nothing r)

-- what stands behind the messages is no message, and is what the reader gives
pub record Ends (limits : List (List ℕ) → ℕ) (r : Reader) : Type 0 where
  pub none : messages limits r.read r.framing.held ≡ []
  pub told : Tells limits r

ends_of_all : (limits : List (List ℕ) → ℕ) (r : Reader) → Tells limits r → Ends limits (all_taken limits r)
ends_of_all limits r told =
    let t = tells_all limits r told in
    record { none = none_stands limits (all_taken limits r) t (all_again limits r); told = t }

pub ends : (limits : List (List ℕ) → ℕ) (pieces : List (List ℕ)) → Ends limits (read_in_pieces limits pieces)
ends limits pieces = subst (Ends limits) (sym (pieces_as_one limits pieces)) (ends_of_all limits (fed (concat pieces) (nothing_read limits)) refl)
