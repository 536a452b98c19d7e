-- What a session that is alone may ask of a draw device is its own.
use Rattle.std.proofs.Common.{◌≡◌, ℕ, suc, false, List, [], ◌∷◌, Option, Ok, Err, ap, subst}
use Rattle.std.specs.Prelude.{◌==◌, All}
use Rattle.std.specs.List.{list_any}
use Rattle.std.proofs.lemmas.Bool.{or_parts}
use Rattle.std.proofs.lemmas.List.Elements.{All-head, All-tail}
use Rattle.model_text.specs.text.Outcome.{Outcome}
use Rattle.model_draw_parts.specs.dmsg.Message.{Message, LowB, UpA, LowC, LowD, UpD, LowF, UpF, LowI, LowL, UpN, LowN, LowO, UpO, LowR, LowS, UpS, LowT, LowV, LowX, LowY}
use Rattle.model_draw_parts.specs.dmsg.Reading.{first_message}
use Rattle.model_draw.specs.draw.World.{World}
use Rattle.model_draw.specs.draw.Act.{act, behind, spelled}
use Rattle.model_alone.specs.alone.Uses.{messages_within}
use Rattle.law_likeness.specs.making.Likes.{AreOther, IsOther, IsOwn}
use Rattle.law_strangers.specs.followed.Devices.{KeepsWithin}

are_other : (ids : List ℕ) → list_any (λ id. id == 0) ids ≡ false → AreOther ids
are_other [] none = tt
are_other (id ∷ ids) none =
    let parts = or_parts (id == 0) (list_any (λ id. id == 0) ids) none in
    (parts.0, are_other ids parts.1)

one_other : (id : ℕ) → list_any (λ id. id == 0) (id ∷ []) ≡ false → IsOther id
one_other id none = (or_parts (id == 0) false none).0

pub own_of : (window : Option (ℕ × List ℕ)) (m : Message) → KeepsWithin window m → IsOwn window m
own_of window (LowB id screenid refresh chan repl r clipr color) keeps = tt
own_of window (UpA id imageid fillid public) keeps =
    let parts = or_parts (imageid == 0) (list_any (λ id. id == 0) (fillid ∷ [])) keeps.images in
    (parts.0, one_other fillid parts.1, keeps.names)
own_of window (LowC dstid repl clipr) keeps = one_other dstid keeps.images
own_of window (LowD dstid srcid maskid dstr srcp maskp) keeps =
    let parts = or_parts (dstid == 0) (list_any (λ id. id == 0) (srcid ∷ maskid ∷ [])) keeps.images in
    let more = or_parts (srcid == 0) (list_any (λ id. id == 0) (maskid ∷ [])) parts.1 in
    (parts.0, more.0, one_other maskid more.1)
own_of window (UpD debug) keeps = tt
own_of window (LowF id) keeps = one_other id keeps.images
own_of window (UpF id) keeps = tt
own_of window (LowI id n ascent) keeps = one_other id keeps.images
own_of window (LowL cacheid srcid index r sp left width) keeps =
    let parts = or_parts (cacheid == 0) (list_any (λ id. id == 0) (srcid ∷ [])) keeps.images in
    (parts.0, one_other srcid parts.1)
own_of window (UpN id tied name) keeps = keeps.names
own_of window (LowN id name) keeps = keeps.names
own_of window (LowO id rmin scr) keeps = one_other id keeps.images
own_of window (UpO op) keeps = tt
own_of window (LowR id r) keeps = one_other id keeps.images
own_of window (LowS writing) keeps =
    let parts = or_parts (writing.dstid == 0) (list_any (λ id. id == 0) (writing.srcid ∷ writing.fontid ∷ [])) keeps.images in
    let more = or_parts (writing.srcid == 0) (list_any (λ id. id == 0) (writing.fontid ∷ [])) parts.1 in
    (parts.0, more.0, one_other writing.fontid more.1)
own_of window (UpS id chan) keeps = keeps.names
own_of window (LowT top ids) keeps = are_other ids keeps.images
own_of window LowV keeps = tt
own_of window (LowX writing bgid bgp) keeps =
    let parts = or_parts (writing.dstid == 0) (list_any (λ id. id == 0) (writing.srcid ∷ writing.fontid ∷ bgid ∷ [])) keeps.images in
    let more = or_parts (writing.srcid == 0) (list_any (λ id. id == 0) (writing.fontid ∷ bgid ∷ [])) parts.1 in
    let last = or_parts (writing.fontid == 0) (list_any (λ id. id == 0) (bgid ∷ [])) more.1 in
    (parts.0, more.0, last.0, one_other bgid last.1)
own_of window (LowY id r) keeps = one_other id keeps.images

-- ---- the messages of a write that are looked at

-- the first ones keep within what is the session's
abbrev pub Own : (window : Option (ℕ × List ℕ)) → (k most : ℕ) → World → List ℕ → Type 0
Own window k most w bytes = All (KeepsWithin window) (messages_within most k w bytes)

-- what is looked at behind a message that was done
abbrev behind_one : (most k : ℕ) → World → (m : Message × List ℕ) → Outcome World → List Message
behind_one most k w m (Ok next) = messages_within most k next (behind k w m.0 m.1)
behind_one most k w m (Err refusal) = []

looked : (most k : ℕ) (w : World) (bytes : List ℕ) (m : Message × List ℕ) → spelled (first_message bytes) ≡ Ok m
    → messages_within (suc most) k w bytes ≡ m.0 ∷ behind_one most k w m (act k w m.0 m.1)
looked most k w bytes m spells =
    ap (λ (o : Outcome (Message × List ℕ)).
    let ms : List Message = elim o [ Ok m ↦ m.0 ∷ elim (act k w m.0 m.1) [ Ok next ↦ messages_within most k next (behind k w m.0 m.1) | Err refusal ↦ [] ] | Err refusal ↦ [] ] in ms) spells

pub own_first : (window : Option (ℕ × List ℕ)) (k most : ℕ) (w : World) (bytes : List ℕ) (m : Message × List ℕ) → Own window k (suc most) w bytes → spelled (first_message bytes) ≡ Ok m → IsOwn window m.0
own_first window k most w bytes m own spells =
    own_of window m.0
    (All-head (KeepsWithin window) m.0 (behind_one most k w m (act k w m.0 m.1)) (subst (λ (ms : List Message). All (KeepsWithin window) ms) (looked most k w bytes m spells) own))

pub own_next : (window : Option (ℕ × List ℕ)) (k most : ℕ) (w next : World) (bytes : List ℕ) (m : Message × List ℕ) → Own window k (suc most) w bytes → spelled (first_message bytes) ≡ Ok m
    → act k w m.0 m.1 ≡ Ok next → Own window k most next (behind k w m.0 m.1)
own_next window k most w next bytes m own spells acted =
    subst (λ (o : Outcome World). All (KeepsWithin window) (behind_one most k w m o)) acted
    (All-tail (KeepsWithin window) m.0 (behind_one most k w m (act k w m.0 m.1)) (subst (λ (ms : List Message). All (KeepsWithin window) ms) (looked most k w bytes m spells) own))
