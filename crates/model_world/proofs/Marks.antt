-- A mark that is told has a history's size: an event that was allowed is allowed with it.
use Rattle.std.proofs.Common.{◌≡◌, ◌<◌, ◌≤◌, ◌+◌, ℕ, zero, suc, false, List, length, Option, Some, None, Ok, Err, inl, inr, refl, sym, ap, subst, arith, length-drop}
use Rattle.std.specs.Prelude.{IfSome}
use Rattle.std.specs.Result.{result_ok}
use Rattle.std.specs.Option.{option_map_or}
use Rattle.r9_event.specs.declared.event.event.Event.{Event}
use Rattle.r9_event.specs.declared.event.event.Event.TheVariants.{Begin, Msg, Take, End, Stop}
use Rattle.model_text.specs.text.Outcome.{Outcome, ◌>>=◌, refuse_if}
use Rattle.model_files.specs.wire.Message.{T, Twrite}
use Rattle.model_files.specs.wire.Spelling.{message, spelling_of_t}
use Rattle.model_files.specs.wire.Reading.{message_of}
use Rattle.model_files.proofs.wire.Laws.{t_takes}
use Rattle.model_draw_parts.specs.dmsg.Message.{Message, spelled_len, LowB, UpA, LowC, LowD, UpD, LowF, UpF, LowI, LowL, UpN, LowN, LowO, UpO, LowR, LowS, UpS, LowT, LowV, LowX, LowY}
use Rattle.model_draw_parts.specs.dmsg.Reading.{First, IsMessage, IsShort, IsUnknown, IsUnsupported, first_message}
use Rattle.model_draw_parts.proofs.dmsg.Rest.{first_message-rest, rest-shorter}
use Rattle.model_draw.specs.draw.World as draw
use Rattle.model_draw.specs.draw.Act.{act, behind, is_marked, no_memory, one_message, spelled}
use Rattle.model_draw.specs.draw.Memory.{MayRunOut, reached, takes_no_memory}
use Rattle.model_history.specs.event.Legal.{Roll, Allowed, IsMessage as IsWhole}
use Rattle.model_world.specs.Session.{Session}
use Rattle.model_world.specs.Desktop.{Desktop}
use Rattle.model_world.specs.Whole.{client}
use Rattle.model_world.specs.World.{World}
use Rattle.model_world.specs.Cut.{IsCut, IsCutEvent, IsCutWrite, wants_for}
use Rattle.model_world.specs.Replay.{marked}

-- ---- a write of draw messages

-- a message that may want memory has four bytes at least
wants_four : (k : ℕ) (world : draw.World) (m : Message) → takes_no_memory k world m ≡ false → 4 ≤ spelled_len m
wants_four k world (LowC dstid repl clipr) wants = absurd cc
wants_four k world (UpD debug) wants = absurd cc
wants_four k world (UpO op) wants = absurd cc
wants_four k world LowV wants = absurd cc
wants_four k world (LowD dstid srcid maskid dstr srcp maskp) wants = omega arith
wants_four k world (LowB id screenid refresh chan repl r clipr color) wants = omega arith
wants_four k world (UpA id imageid fillid public) wants = omega arith
wants_four k world (LowF id) wants = omega arith
wants_four k world (UpF id) wants = omega arith
wants_four k world (LowI id n ascent) wants = omega arith
wants_four k world (LowL cacheid srcid index r sp left width) wants = omega arith
wants_four k world (UpN id tied name) wants = omega arith
wants_four k world (LowN id name) wants = omega arith
wants_four k world (LowO id rmin scr) wants = omega arith
wants_four k world (LowR id r) wants = omega arith
wants_four k world (LowS writing) wants = omega arith
wants_four k world (UpS id chan) wants = omega arith
wants_four k world (LowT top ids) wants = omega arith
wants_four k world (LowX writing bgid bgp) wants = omega arith
wants_four k world (LowY id r) wants = omega arith

four_left : (k : ℕ) (world : draw.World) (rest : List ℕ) (f : First) (m : Message) (after : List ℕ) → first_message rest ≡ f → spelled f ≡ Ok (m, after) → takes_no_memory k world m ≡ false → 4 ≤ length rest
four_left k world rest (IsMessage n more) m after is e wants =
    let same : n ≡ m = ap (λ (o : Outcome (Message × List ℕ)). option_map_or (λ p. p.0) (result_ok o) n) e in
    let P : Message → Type 0 = λ x. takes_no_memory k world x ≡ false in
    let long : 4 ≤ spelled_len n = wants_four k world n (subst P (sym same) wants) in
    let fits : spelled_len n ≤ length rest = (first_message-rest rest more n is).fits in
    omega arith
four_left k world rest IsShort m after is e wants = absurd cc
four_left k world rest IsUnknown m after is e wants = absurd cc
four_left k world rest IsUnsupported m after is e wants = absurd cc

behind_within : (k : ℕ) (world : draw.World) (m : Message) (rest : List ℕ) → length (behind k world m rest) ≤ length rest
unfolding behind
behind_within k world (LowY id r) rest = omega (arith, length-drop {A = ℕ})
behind_within k world m rest = omega arith

done_within : (k : ℕ) (world : draw.World) (m : Message) (rest : List ℕ) (o : Outcome draw.World) (next : draw.World × List ℕ)
    → (o >>= λ v. refuse_if (is_marked None 0) no_memory >>= λ _. Ok (v, behind k world m rest)) ≡ Ok next → length next.1 ≤ length rest
done_within k world m rest (Ok v) next e =
    let same : behind k world m rest ≡ next.1 = ap (λ (o : Outcome (draw.World × List ℕ)). option_map_or (λ p. p.1) (result_ok o) rest) e in
    omega (arith, behind_within k world m rest, ap length same)
done_within k world m rest (Err n) next e = absurd cc

one_shorter : (k : ℕ) (world : draw.World) (bytes : List ℕ) (next : draw.World × List ℕ) → one_message k world None 0 bytes ≡ Ok next → length next.1 < length bytes
unfolding one_message
one_shorter k world bytes next e = by (first_message bytes) refl e
  where
    by : (f : First) → first_message bytes ≡ f
        → (spelled f >>= λ m. act k world m.0 m.1 >>= λ v. refuse_if (is_marked None 0) no_memory >>= λ _. Ok (v, behind k world m.0 m.1)) ≡ Ok next → length next.1 < length bytes
    by (IsMessage m rest) is e = omega (arith, done_within k world m rest (act k world m rest) next e, rest-shorter bytes rest m is)
    by IsShort is e = absurd cc
    by IsUnknown is e = absurd cc
    by IsUnsupported is e = absurd cc

reached_within : (n k : ℕ) (world at : draw.World) (bytes rest : List ℕ) → reached n k world bytes ≡ Some (at, rest) → n + length rest ≤ length bytes
reached_within zero k world at bytes rest e =
    let same : bytes ≡ rest = ap (λ (o : Option (draw.World × List ℕ)). option_map_or (λ p. p.1) o bytes) e in
    omega (arith, ap length same)
reached_within (suc n) k world at bytes rest e = by (λ v b. reached_within n k v at b rest) (one_message k world None 0 bytes) refl e
  where
    by : ((v : draw.World) (b : List ℕ) → reached n k v b ≡ Some (at, rest) → n + length rest ≤ length b)
        → (o : Outcome (draw.World × List ℕ)) → one_message k world None 0 bytes ≡ o
        → (let p : Option (draw.World × List ℕ) = elim o [ Ok x ↦ reached n k x.0 x.1 | Err refusal ↦ None ] in p) ≡ Some (at, rest)
        → suc n + length rest ≤ length bytes
    by more (Ok x) is e = omega (arith, more x.0 x.1 e, one_shorter k world bytes x is)
    by more (Err refusal) is e = absurd cc

runs_out_early : (k : ℕ) (world : draw.World) (bytes : List ℕ) (n : ℕ) → MayRunOut k world bytes n → n + 4 ≤ length bytes
runs_out_early k world bytes n out =
    let reaches = reached_within n k world out.at bytes out.rest out.reaches in
    let left = four_left k out.at out.rest (first_message out.rest) out.m out.behind refl out.spells out.wants in
    omega (arith, reaches, left)

-- ---- a message

write_len : (tag fid offset : ℕ) (bytes : List ℕ) → length (spelling_of_t (Twrite tag fid offset bytes)) ≡ 23 + length bytes
unfolding message
write_len tag fid offset bytes = omega arith

told_mark : (c : ℕ) (session : Session) (desktop : Desktop) (fid : ℕ) (bytes : List ℕ) (mark : Option ℕ) (k : ℕ) → length bytes ≤ 65537 → IfSome mark (λ n. n ≤ 65535)
    → IsCutWrite (wants_for c) session desktop fid bytes mark k → k ≤ 65535
told_mark c session desktop fid bytes mark k short fits cut = elim cut.cause [
  | inl own ↦ (let P : Option ℕ → Type 0 = λ o. IfSome o (λ n. n ≤ 65535) in subst P own fits)
  | inr out ↦ omega (arith, runs_out_early (client c cut.fid.node.connection) desktop.device bytes k out, short)
]

cut_mark : (c : ℕ) (session : Session) (desktop : Desktop) (frame : List ℕ) (mark : Option ℕ) (k : ℕ) (m : T) → IsWhole frame → message_of frame ≡ Some m → IfSome mark (λ n. n ≤ 65535)
    → IsCut (wants_for c) session desktop mark k m → k ≤ 65535
cut_mark c session desktop frame mark k (Twrite tag fid offset bytes) whole is fits cut =
    let spells = t_takes frame (Twrite tag fid offset bytes) whole.are_bytes is in
    let len = write_len tag fid offset bytes in
    told_mark c session desktop fid bytes mark k (omega (arith, whole.short, ap length spells.spelled, len)) fits cut
cut_mark c session desktop frame mark k _ whole is fits cut = absurd cut

-- an event that is allowed is allowed with the mark with which it stands in the history
pub marked_allowed : (world : World) (roll : Roll) (event : Event) (short : Option ℕ) → Allowed roll event → IfSome short (λ k. IsCutEvent world event k) → Allowed roll (marked event short)
marked_allowed world roll event None allowed told = allowed
marked_allowed world roll (Begin c) (Some k) allowed told = allowed
marked_allowed world roll (Msg c bytes mark) (Some k) allowed told =
    (allowed.0, (allowed.1.0, allowed.1.1, cut_mark c told.session world.desktop bytes mark k told.cut.spells.m allowed.1.1 told.cut.spells.spelled allowed.1.2 told.cut.spells.cut))
marked_allowed world roll (Take c) (Some k) allowed told = allowed
marked_allowed world roll (End c) (Some k) allowed told = allowed
marked_allowed world roll Stop (Some k) allowed told = allowed
