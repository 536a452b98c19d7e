-- Worked rows: messages as section 5 of the manual lays them out, in hex.
use Rattle.std.proofs.Common.{◌≡◌, ℕ, List, [], ◌∷◌, codes, Option, Some, None, refl}
use Rattle.std.specs.Str.{is_utf8, chars}
use Rattle.model_text.specs.text.Hex.{hex, unhex}
use Rattle.model_text.specs.text.Reading.{◌>>=◌}
use Rattle.model_files.specs.wire.Message.{Qid, Stat, T, Tversion, Tattach, Twalk, Topen, Tcreate, Tread, Twrite, R, Rversion, Rattach, Rerror, Rwalk, Rstat, no_tag, no_fid}
use Rattle.model_files.specs.wire.Spelling.{sized, qid_bytes, stat_body, stat_bytes, message, spelling_of_r}
use Rattle.model_files.specs.wire.Reading.{counted_at, string_at, names_at, qid_at, stat_body_at, stat_at, t_version, t_attach, t_walk, t_open, t_create, t_read, t_write, body_at, r_stat, reply_body_at, message_of, reply_of}

abbrev t_in : List ℕ → Option T
t_in digits = unhex digits >>= message_of

abbrev r_in : List ℕ → Option R
r_in digits = unhex digits >>= reply_of

abbrev root : Qid
root = record { kind = 0x80; vers = 0; path = 1 }

abbrev draw : Stat
draw = record {
  kind = 0;
  dev = 0;
  qid = record { kind = 0x80; vers = 0; path = 2 };
  mode = 0x8000_016d;
  atime = 0;
  mtime = 0;
  length = 0;
  name = codes "draw";
  uid = codes "rio9";
  gid = codes "rio9";
  muid = codes "rio9";
}

version_read : t_in (codes "1300000064ffff180001000600395032303030") ≡ Some (Tversion no_tag 65560 (codes "9P2000"))
unfolding message_of body_at t_version string_at counted_at is_utf8 chars lib.Utf8.encode
version_read = refl

attach_read : t_in (codes "1400000068010000000000ffffffff0100750000") ≡ Some (Tattach 1 0 no_fid (codes "u") [])
unfolding message_of body_at t_attach string_at counted_at is_utf8 chars lib.Utf8.encode
attach_read = refl

walk_read : t_in (codes "1b0000006e01000000000001000000020004006472617702002e2e") ≡ Some (Twalk 1 0 1 (codes "draw" ∷ codes ".." ∷ []))
unfolding message_of body_at t_walk names_at string_at counted_at is_utf8 chars lib.Utf8.encode
walk_read = refl

seventeen_names : t_in (codes "330000006e01000000000001000000110000000000000000000000000000000000000000000000000000000000000000000000") ≡ None
unfolding message_of body_at t_walk names_at string_at counted_at is_utf8 chars lib.Utf8.encode
seventeen_names = refl

write_read : t_in (codes "180000007601000200000000000000000000000100000076") ≡ Some (Twrite 1 2 0 (codes "v"))
unfolding message_of body_at t_write counted_at
write_read = refl

open_read : t_in (codes "0c0000007001000100000010") ≡ Some (Topen 1 1 16)
unfolding message_of body_at t_open
open_read = refl

read_read : t_in (codes "1700000074010001000000050000000001000090000000") ≡ Some (Tread 1 1 0x100_0000_0005 144)
unfolding message_of body_at t_read
read_read = refl

create_read : t_in (codes "1300000072010000000000010061a401000001") ≡ Some (Tcreate 1 0 (codes "a") 0x1a4 1)
unfolding message_of body_at t_create string_at counted_at is_utf8 chars lib.Utf8.encode
create_read = refl

not_a_text : t_in (codes "1400000068010000000000ffffffff0100ff0000") ≡ None
unfolding message_of body_at t_attach string_at counted_at is_utf8 chars lib.Utf8.encode
not_a_text = refl

one_byte_more : t_in (codes "1400000064ffff18000100060039503230303021") ≡ None
unfolding message_of body_at t_version string_at counted_at is_utf8 chars lib.Utf8.encode
one_byte_more = refl

no_such_kind : t_in (codes "070000006a0100") ≡ None
unfolding message_of body_at
no_such_kind = refl

version_written : hex (spelling_of_r (Rversion no_tag 65560 (codes "9P2000"))) ≡ codes "1300000065ffff180001000600395032303030"
unfolding message sized
version_written = refl

attach_written : hex (spelling_of_r (Rattach 1 root)) ≡ codes "1400000069010080000000000100000000000000"
unfolding message qid_bytes
attach_written = refl

unknown_written : hex (spelling_of_r (Rversion no_tag 8192 (codes "unknown"))) ≡ codes "1400000065ffff002000000700756e6b6e6f776e"
unfolding message sized
unknown_written = refl

error_written : hex (spelling_of_r (Rerror no_tag (codes "msize too small"))) ≡ codes "180000006bffff0f006d73697a6520746f6f20736d616c6c"
unfolding message sized
error_written = refl

walk_written : hex (spelling_of_r (Rwalk 1 (record { kind = 0x80; vers = 0; path = 2 } ∷ []))) ≡ codes "160000006f0100010080000000000200000000000000"
unfolding message qid_bytes
walk_written = refl

stat_written : hex (stat_bytes draw)
    ≡ codes "3f00000000000000800000000002000000000000006d01008000000000000000000000000000000000040064726177040072696f39040072696f39040072696f39"
unfolding sized stat_body qid_bytes
stat_written = refl

stat_read_back : reply_of (spelling_of_r (Rstat 1 draw)) ≡ Some (Rstat 1 draw)
unfolding message sized stat_body qid_bytes reply_of reply_body_at r_stat stat_at stat_body_at qid_at string_at counted_at is_utf8 chars lib.Utf8.encode
stat_read_back = refl
