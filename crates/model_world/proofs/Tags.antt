-- The tag that a message has stands behind its size and its kind.
use Rattle.std.proofs.Common.{◌≡◌, ℕ, Bool, true, false, List, length, take, drop, Option, Some, None, refl, sym, ap, ◌∙◌, arith, lit<, get_or-take, get_or-drop}
use Rattle.std.specs.Prelude.{◌==◌, nat_lt, if◌then◌else◌}
use Rattle.std.specs.Int.{w8, w16, w32, w64, from_le_bytes}
use Rattle.std.specs.Option.{option_map_or}
use Rattle.std.proofs.lemmas.Bool.{cond_both}
use Rattle.model_text.specs.text.Reading.{◌>>=◌, ◌&◌, all_of, number_at}
use Rattle.model_files.specs.wire.Message.{T, Tversion, Tauth, Tattach, Tflush, Twalk, Topen, Tcreate, Tread, Twrite, Tclunk, Tremove, Tstat, Twstat, tag_of_t}
use Rattle.model_files.specs.wire.Reading.{body_at, head_at, counted_at, string_at, names_at, message_of, tag_of, t_version, t_auth, t_attach, t_flush, t_walk, t_open, t_create, t_read, t_write, t_clunk, t_remove, t_stat, t_wstat}
use Rattle.model_world.proofs.Others.{some_is}

-- ---- where it stands

tag_there : (bytes : List ℕ) → from_le_bytes w16 (take 2 (drop 1 (drop 4 bytes))) ≡ tag_of bytes
tag_there bytes =
    let low = get_or-take 2 (drop 1 (drop 4 bytes)) 0 0 (lit< tt) ∙ get_or-drop 1 (drop 4 bytes) 0 0 ∙ get_or-drop 4 bytes 1 0 in
    let high = get_or-take 2 (drop 1 (drop 4 bytes)) 1 0 (lit< tt) ∙ get_or-drop 1 (drop 4 bytes) 1 0 ∙ get_or-drop 4 bytes 2 0 in
    omega (arith, low, high)

head_tag : (bytes : List ℕ) (head : (ℕ × (ℕ × ℕ)) × List ℕ) → head_at bytes ≡ Some head → head.0.1.1 ≡ tag_of bytes
head_tag bytes head is = at_size (nat_lt (length bytes) 4) is
  where
    size : ℕ
    size = from_le_bytes w32 (take 4 bytes)

    kind : ℕ
    kind = from_le_bytes w8 (take 1 (drop 4 bytes))

    tag : ℕ
    tag = from_le_bytes w16 (take 2 (drop 1 (drop 4 bytes)))

    at_tag : (b : Bool) → (((if b then None else Some (tag, drop 2 (drop 1 (drop 4 bytes)))) >>= λ (z : ℕ × List ℕ). Some ((kind, z.0), z.1)) >>= λ (y : (ℕ × ℕ) × List ℕ). Some ((size, y.0), y.1)) ≡ Some head → head.0.1.1 ≡ tag_of bytes
    at_tag true is = absurd (cc is)
    at_tag false is = sym (ap (λ (o : Option ((ℕ × (ℕ × ℕ)) × List ℕ)). option_map_or (λ h. h.0.1.1) o 0) is) ∙ tag_there bytes

    at_kind : (b : Bool) → (((if b then None else Some (kind, drop 1 (drop 4 bytes))) >>= λ (x : ℕ × List ℕ). number_at w16 x.1 >>= λ (z : ℕ × List ℕ). Some ((x.0, z.0), z.1)) >>= λ (y : (ℕ × ℕ) × List ℕ). Some ((size, y.0), y.1)) ≡ Some head
        → head.0.1.1 ≡ tag_of bytes
    at_kind true is = absurd (cc is)
    at_kind false is = at_tag (nat_lt (length (drop 1 (drop 4 bytes))) 2) is

    at_size : (b : Bool) → ((if b then None else Some (size, drop 4 bytes)) >>= λ (x : ℕ × List ℕ). (number_at w8 & number_at w16) x.1 >>= λ (y : (ℕ × ℕ) × List ℕ). Some ((x.0, y.0), y.1)) ≡ Some head → head.0.1.1 ≡ tag_of bytes
    at_size true is = absurd (cc is)
    at_size false is = at_kind (nat_lt (length (drop 4 bytes)) 1) is

-- ---- what is read of it

abbrev Tags : (ℕ → List ℕ → Option T) → Type 0
Tags read = (tag : ℕ) (body : List ℕ) (m : T) → read tag body ≡ Some m → tag_of_t m ≡ tag

all_tagged : {A : Type 0} (fields : List ℕ → Option (A × List ℕ)) (body : List ℕ) (make : A → T) (tag : ℕ) (m : T) → ((x : A) → tag_of_t (make x) ≡ tag) → all_of fields body make ≡ Some m → tag_of_t m ≡ tag
all_tagged {A = A} fields body make tag m each is = by (fields body) is
  where
    at_end : (x : A × List ℕ) (b : Bool) → (if b then Some (make x.0) else None) ≡ Some m → tag_of_t m ≡ tag
    at_end x true is = ap tag_of_t (sym (some_is (make x.0) m is)) ∙ each x.0
    at_end x false is = absurd (cc is)

    by : (o : Option (A × List ℕ)) → (o >>= λ x. if length x.1 == 0 then Some (make x.0) else None) ≡ Some m → tag_of_t m ≡ tag
    by None is = absurd (cc is)
    by (Some x) is = at_end x (length x.1 == 0) is

version_tagged : Tags t_version
unfolding t_version
version_tagged tag body m is = all_tagged (number_at w32 & string_at) body (λ (msize, version). Tversion tag msize version) tag m (λ _. refl) is

auth_tagged : Tags t_auth
unfolding t_auth
auth_tagged tag body m is = all_tagged (number_at w32 & (string_at & string_at)) body (λ (afid, (uname, aname)). Tauth tag afid uname aname) tag m (λ _. refl) is

attach_tagged : Tags t_attach
unfolding t_attach
attach_tagged tag body m is = all_tagged (number_at w32 & (number_at w32 & (string_at & string_at))) body (λ (fid, (afid, (uname, aname))). Tattach tag fid afid uname aname) tag m (λ _. refl) is

flush_tagged : Tags t_flush
unfolding t_flush
flush_tagged tag body m is = all_tagged (number_at w16) body (λ oldtag. Tflush tag oldtag) tag m (λ _. refl) is

walk_tagged : Tags t_walk
unfolding t_walk
walk_tagged tag body m is = all_tagged (number_at w32 & (number_at w32 & names_at)) body (λ (fid, (newfid, names)). Twalk tag fid newfid names) tag m (λ _. refl) is

open_tagged : Tags t_open
unfolding t_open
open_tagged tag body m is = all_tagged (number_at w32 & number_at w8) body (λ (fid, mode). Topen tag fid mode) tag m (λ _. refl) is

create_tagged : Tags t_create
unfolding t_create
create_tagged tag body m is = all_tagged (number_at w32 & (string_at & (number_at w32 & number_at w8))) body (λ (fid, (name, (perm, mode))). Tcreate tag fid name perm mode) tag m (λ _. refl) is

read_tagged : Tags t_read
unfolding t_read
read_tagged tag body m is = all_tagged (number_at w32 & (number_at w64 & number_at w32)) body (λ (fid, (offset, count)). Tread tag fid offset count) tag m (λ _. refl) is

write_tagged : Tags t_write
unfolding t_write
write_tagged tag body m is = all_tagged (number_at w32 & (number_at w64 & counted_at w32)) body (λ (fid, (offset, bytes)). Twrite tag fid offset bytes) tag m (λ _. refl) is

clunk_tagged : Tags t_clunk
unfolding t_clunk
clunk_tagged tag body m is = all_tagged (number_at w32) body (λ fid. Tclunk tag fid) tag m (λ _. refl) is

remove_tagged : Tags t_remove
unfolding t_remove
remove_tagged tag body m is = all_tagged (number_at w32) body (λ fid. Tremove tag fid) tag m (λ _. refl) is

stat_tagged : Tags t_stat
unfolding t_stat
stat_tagged tag body m is = all_tagged (number_at w32) body (λ fid. Tstat tag fid) tag m (λ _. refl) is

wstat_tagged : Tags t_wstat
unfolding t_wstat
wstat_tagged tag body m is = all_tagged (number_at w32 & counted_at w16) body (λ (fid, stat). Twstat tag fid stat) tag m (λ _. refl) is

body_tagged : (kind : ℕ) → Tags (body_at kind)
unfolding body_at
body_tagged kind =
    cond_both (kind == 100) t_version _ Tags (λ _. version_tagged) (λ _.
    cond_both (kind == 102) t_auth _ Tags (λ _. auth_tagged) (λ _.
    cond_both (kind == 104) t_attach _ Tags (λ _. attach_tagged) (λ _.
    cond_both (kind == 108) t_flush _ Tags (λ _. flush_tagged) (λ _.
    cond_both (kind == 110) t_walk _ Tags (λ _. walk_tagged) (λ _.
    cond_both (kind == 112) t_open _ Tags (λ _. open_tagged) (λ _.
    cond_both (kind == 114) t_create _ Tags (λ _. create_tagged) (λ _.
    cond_both (kind == 116) t_read _ Tags (λ _. read_tagged) (λ _.
    cond_both (kind == 118) t_write _ Tags (λ _. write_tagged) (λ _.
    cond_both (kind == 120) t_clunk _ Tags (λ _. clunk_tagged) (λ _.
    cond_both (kind == 122) t_remove _ Tags (λ _. remove_tagged) (λ _.
    cond_both (kind == 124) t_stat _ Tags (λ _. stat_tagged) (λ _.
    cond_both (kind == 126) t_wstat _ Tags (λ _. wstat_tagged) (λ _. λ tag body m is. absurd (cc is))))))))))))))

pub message_tag : (bytes : List ℕ) (m : T) → message_of bytes ≡ Some m → tag_of_t m ≡ tag_of bytes
unfolding message_of
message_tag bytes m is = by (head_at bytes) refl is
  where
    whole : (head : (ℕ × (ℕ × ℕ)) × List ℕ) (b : Bool) → head.0.1.1 ≡ tag_of bytes → (if b then body_at head.0.1.0 head.0.1.1 head.1 else None) ≡ Some m → tag_of_t m ≡ tag_of bytes
    whole head true at is = body_tagged head.0.1.0 head.0.1.1 head.1 m is ∙ at
    whole head false at is = absurd (cc is)

    by : (o : Option ((ℕ × (ℕ × ℕ)) × List ℕ)) → head_at bytes ≡ o → (o >>= λ head. if head.0.0 == length bytes then body_at head.0.1.0 head.0.1.1 head.1 else None) ≡ Some m → tag_of_t m ≡ tag_of bytes
    by None at is = absurd (cc is)
    by (Some head) at is = whole head (head.0.0 == length bytes) (head_tag bytes head at) is
