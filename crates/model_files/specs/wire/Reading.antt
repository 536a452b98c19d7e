-- The value that bytes spell, as a function of the bytes. The laws of this crate tie it to what spells what.
use Rattle.std.specs.Prelude.{◌==◌, ◌+◌, ◌*◌, ℕ, zero, suc, List, [], ◌∷◌, length, slice_index, take, drop, nat_lt, nat_le, if◌then◌else◌, Option, Some, None}
use Rattle.std.specs.Int.{Width, w8, w16, w32, w64}
use Rattle.std.specs.Str.{is_utf8}
use Rattle.model_text.specs.text.Reading.{◌>>=◌, ◌&◌, number_at, all_of}
use Rattle.model_files.specs.wire.Message.{Qid, Stat, T, Tversion, Tauth, Tattach, Tflush, Twalk, Topen, Tcreate, Tread, Twrite, Tclunk, Tremove, Tstat, Twstat, R, Rversion, Rattach, Rerror, Rflush, Rwalk, Ropen, Rread, Rwrite, Rclunk, Rstat}

-- ---- fields

-- a length of this size, and that many bytes
unfoldable pub counted_at : Width → List ℕ → Option (List ℕ × List ℕ)
counted_at w bytes = number_at w bytes >>= λ len.
    if nat_lt (length len.1) len.0 then None else Some (take len.0 len.1, drop len.0 len.1)

-- a string is UTF-8
unfoldable pub string_at : List ℕ → Option (List ℕ × List ℕ)
string_at bytes = counted_at w16 bytes >>= λ text. if is_utf8 text.0 then Some text else None

-- what is made of a field
abbrev pub made : {A B : Type 0} → (A → B) → (List ℕ → Option (A × List ℕ)) → List ℕ → Option (B × List ℕ)
made make field bytes = field bytes >>= λ x. Some (make x.0, x.1)

-- so many fields
abbrev pub so_many : {A : Type 0} → (List ℕ → Option (A × List ℕ)) → ℕ → List ℕ → Option (List A × List ℕ)
so_many field zero bytes = Some ([], bytes)
so_many field (suc n) bytes = field bytes >>= λ first. so_many field n first.1 >>= λ more. Some (first.0 ∷ more.0, more.1)

-- at most 16 fields, and their count before them
abbrev pub listed_at : {A : Type 0} → (List ℕ → Option (A × List ℕ)) → List ℕ → Option (List A × List ℕ)
listed_at field bytes = number_at w16 bytes >>= λ n. if nat_le n.0 16 then so_many field n.0 n.1 else None

-- a length of two bytes, and a field that takes that many
abbrev pub within : {A : Type 0} → (List ℕ → Option (A × List ℕ)) → List ℕ → Option (A × List ℕ)
within field bytes = counted_at w16 bytes >>= λ part. all_of field part.0 (λ x. x) >>= λ x. Some (x, part.1)

unfoldable pub names_at : List ℕ → Option (List (List ℕ) × List ℕ)
names_at = listed_at string_at

unfoldable pub qid_at : List ℕ → Option (Qid × List ℕ)
qid_at = made (λ (kind, (vers, path)). record { kind = kind; vers = vers; path = path }) (number_at w8 & (number_at w32 & number_at w64))

unfoldable pub qids_at : List ℕ → Option (List Qid × List ℕ)
qids_at = listed_at qid_at

unfoldable pub stat_body_at : List ℕ → Option (Stat × List ℕ)
stat_body_at = made
    (λ (kind, (dev, (qid, (mode, (atime, (mtime, (len, (name, (uid, (gid, muid)))))))))).
    record { kind = kind; dev = dev; qid = qid; mode = mode; atime = atime; mtime = mtime; length = len; name = name; uid = uid; gid = gid; muid = muid })
    (number_at w16 & (number_at w32 & (qid_at & (number_at w32 & (number_at w32 & (number_at w32 & (number_at w64 & (string_at & (string_at & (string_at & string_at))))))))))

-- a stat at the front of bytes, and what stands behind it
unfoldable pub stat_at : List ℕ → Option (Stat × List ℕ)
stat_at = within stat_body_at

-- ---- bodies of a client's messages

unfoldable pub t_version : ℕ → List ℕ → Option T
t_version tag body = all_of (number_at w32 & string_at) body (λ (msize, version). Tversion tag msize version)

unfoldable pub t_auth : ℕ → List ℕ → Option T
t_auth tag body = all_of (number_at w32 & (string_at & string_at)) body (λ (afid, (uname, aname)). Tauth tag afid uname aname)

unfoldable pub t_attach : ℕ → List ℕ → Option T
t_attach tag body = all_of (number_at w32 & (number_at w32 & (string_at & string_at))) body
    (λ (fid, (afid, (uname, aname))). Tattach tag fid afid uname aname)

unfoldable pub t_flush : ℕ → List ℕ → Option T
t_flush tag body = all_of (number_at w16) body (λ oldtag. Tflush tag oldtag)

unfoldable pub t_walk : ℕ → List ℕ → Option T
t_walk tag body = all_of (number_at w32 & (number_at w32 & names_at)) body (λ (fid, (newfid, names)). Twalk tag fid newfid names)

unfoldable pub t_open : ℕ → List ℕ → Option T
t_open tag body = all_of (number_at w32 & number_at w8) body (λ (fid, mode). Topen tag fid mode)

unfoldable pub t_create : ℕ → List ℕ → Option T
t_create tag body = all_of (number_at w32 & (string_at & (number_at w32 & number_at w8))) body
    (λ (fid, (name, (perm, mode))). Tcreate tag fid name perm mode)

unfoldable pub t_read : ℕ → List ℕ → Option T
t_read tag body = all_of (number_at w32 & (number_at w64 & number_at w32)) body (λ (fid, (offset, count)). Tread tag fid offset count)

unfoldable pub t_write : ℕ → List ℕ → Option T
t_write tag body = all_of (number_at w32 & (number_at w64 & counted_at w32)) body (λ (fid, (offset, bytes)). Twrite tag fid offset bytes)

unfoldable pub t_clunk : ℕ → List ℕ → Option T
t_clunk tag body = all_of (number_at w32) body (λ fid. Tclunk tag fid)

unfoldable pub t_remove : ℕ → List ℕ → Option T
t_remove tag body = all_of (number_at w32) body (λ fid. Tremove tag fid)

unfoldable pub t_stat : ℕ → List ℕ → Option T
t_stat tag body = all_of (number_at w32) body (λ fid. Tstat tag fid)

unfoldable pub t_wstat : ℕ → List ℕ → Option T
t_wstat tag body = all_of (number_at w32 & counted_at w16) body (λ (fid, stat). Twstat tag fid stat)

-- what reads the body of a client's message of this kind
unfoldable pub body_at : (kind tag : ℕ) → List ℕ → Option T
body_at kind =
    if kind == 100 then t_version
    else if kind == 102 then t_auth
    else if kind == 104 then t_attach
    else if kind == 108 then t_flush
    else if kind == 110 then t_walk
    else if kind == 112 then t_open
    else if kind == 114 then t_create
    else if kind == 116 then t_read
    else if kind == 118 then t_write
    else if kind == 120 then t_clunk
    else if kind == 122 then t_remove
    else if kind == 124 then t_stat
    else if kind == 126 then t_wstat
    else (λ tag body. None)

-- ---- bodies of replies

-- a body without a byte
abbrev pub nothing_at : List ℕ → Option (Unit {0} × List ℕ)
nothing_at bytes = Some (tt, bytes)

unfoldable pub r_version : ℕ → List ℕ → Option R
r_version tag body = all_of (number_at w32 & string_at) body (λ (msize, version). Rversion tag msize version)

unfoldable pub r_attach : ℕ → List ℕ → Option R
r_attach tag body = all_of qid_at body (λ qid. Rattach tag qid)

unfoldable pub r_error : ℕ → List ℕ → Option R
r_error tag body = all_of string_at body (λ ename. Rerror tag ename)

unfoldable pub r_flush : ℕ → List ℕ → Option R
r_flush tag body = all_of nothing_at body (λ _. Rflush tag)

unfoldable pub r_walk : ℕ → List ℕ → Option R
r_walk tag body = all_of qids_at body (λ qids. Rwalk tag qids)

unfoldable pub r_open : ℕ → List ℕ → Option R
r_open tag body = all_of (qid_at & number_at w32) body (λ (qid, iounit). Ropen tag qid iounit)

unfoldable pub r_read : ℕ → List ℕ → Option R
r_read tag body = all_of (counted_at w32) body (λ bytes. Rread tag bytes)

unfoldable pub r_write : ℕ → List ℕ → Option R
r_write tag body = all_of (number_at w32) body (λ count. Rwrite tag count)

unfoldable pub r_clunk : ℕ → List ℕ → Option R
r_clunk tag body = all_of nothing_at body (λ _. Rclunk tag)

unfoldable pub r_stat : ℕ → List ℕ → Option R
r_stat tag body = all_of (within stat_at) body (λ stat. Rstat tag stat)

-- what reads the body of a reply of this kind
unfoldable pub reply_body_at : (kind tag : ℕ) → List ℕ → Option R
reply_body_at kind =
    if kind == 101 then r_version
    else if kind == 105 then r_attach
    else if kind == 107 then r_error
    else if kind == 109 then r_flush
    else if kind == 111 then r_walk
    else if kind == 113 then r_open
    else if kind == 117 then r_read
    else if kind == 119 then r_write
    else if kind == 121 then r_clunk
    else if kind == 125 then r_stat
    else (λ tag body. None)

-- ---- whole messages

-- size, kind and tag
abbrev pub head_at : List ℕ → Option ((ℕ × (ℕ × ℕ)) × List ℕ)
head_at = number_at w32 & (number_at w8 & number_at w16)

-- the bytes are as many as the size says, and the rest is a body of this kind
abbrev pub whole_of : {M : Type 0} → (body : ℕ → ℕ → List ℕ → Option M) → List ℕ → Option M
whole_of body bytes = head_at bytes >>= λ head.
    if head.0.0 == length bytes then body head.0.1.0 head.0.1.1 head.1 else None

-- the client's message that bytes spell
unfoldable pub message_of : List ℕ → Option T
message_of = whole_of body_at

-- the reply that bytes spell
unfoldable pub reply_of : List ℕ → Option R
reply_of = whole_of reply_body_at

-- what stands at the front of bytes, as long as its size says, and the bytes behind it
abbrev pub front_of : {M : Type 0} → (List ℕ → Option M) → List ℕ → Option (M × List ℕ)
front_of whole bytes = number_at w32 bytes >>= λ size. whole (take size.0 bytes) >>= λ m. Some (m, drop size.0 bytes)

-- the kind and the tag, which stand behind the size in every message
abbrev pub kind_of : List ℕ → ℕ
kind_of bytes = slice_index bytes 4

abbrev pub tag_of : List ℕ → ℕ
tag_of bytes = slice_index bytes 5 + slice_index bytes 6 * 256
