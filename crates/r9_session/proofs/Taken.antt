-- The tag of a read whose bytes are taken as what they spell.
use Rattle.std.proofs.Common.{◌≡◌, ◌∙◌, ◌++◌, ◌<◌, ◌^◌, ◌&&◌, ℕ, Bool, true, false, not, cond, List, refl, sym, ap, arith}
use Rattle.std.specs.Prelude.{◌==◌, is_some, length, nat_lt}
use Rattle.std.specs.Int.{w16, from_le_bytes, to_le_bytes}
use Rattle.std.proofs.lemmas.Nat.{from_le_bytes-to_le_bytes_2}
use Rattle.model_text.specs.text.Number.{eight_bytes, four_bytes}
use Rattle.model_files.specs.wire.Message.{T, Tread}
use Rattle.model_files.specs.wire.Reading.{kind_of, tag_of}
use Rattle.model_files.specs.wire.Spelling.{SpellsT, message}
use Rattle.model_world.specs.Session.{Session}
use Rattle.model_world.specs.Waiting.{waits_for}
use Rattle.model_world.specs.Answer.{Taking, Ignored, TooLong, Closes, Reads, taking}
use Rattle.r9_session.specs.Answers.{IsNewTag}

abbrev taken_by : (closed long closes : Bool) → Taking
taken_by closed long closes = cond closed Ignored (cond long TooLong (cond closes Closes Reads))

none_waits : (closed long version waits : Bool) → version ≡ false → taken_by closed long (not version && waits) ≡ Reads → waits ≡ false
none_waits closed long true waits other is = cc other
none_waits true long false waits other is = cc is
none_waits false true false waits other is = cc is
none_waits false false false true other is = cc is
none_waits false false false false other is = refl

abbrev body : (fid offset count : ℕ) → List ℕ
body fid offset count = four_bytes fid ++ eight_bytes offset ++ four_bytes count

kind_is : (tag fid offset count : ℕ) → (kind_of (message 116 tag (body fid offset count)) == 100) ≡ false
unfolding message
kind_is tag fid offset count = refl

tag_is : (tag fid offset count : ℕ) → tag < 2 ^ 16 → tag_of (message 116 tag (body fid offset count)) ≡ tag
unfolding message
tag_is tag fid offset count small =
    let again : from_le_bytes w16 (to_le_bytes w16 tag) ≡ tag = from_le_bytes-to_le_bytes_2 tag small in
    omega (arith, again)

pub new_tag : (session : Session) (bytes : List ℕ) (m : T) → SpellsT bytes m → taking session bytes ≡ Reads → IsNewTag session m
new_tag session bytes (Tread tag fid offset count) spells is =
    let other : (kind_of bytes == 100) ≡ false = ap (λ (b : List ℕ). kind_of b == 100) spells.spelled ∙ kind_is tag fid offset count in
    let own : tag_of bytes ≡ tag = ap tag_of spells.spelled ∙ tag_is tag fid offset count spells.sizes.0 in
    ap (waits_for session) (sym own)
    ∙ none_waits (is_some session.closed) (nat_lt session.msize (length bytes)) (kind_of bytes == 100) (waits_for session (tag_of bytes)) other is
new_tag session bytes m spells is = tt
