-- The bodies of a client's messages.
use Rattle.std.proofs.Common.{◌≡◌, ℕ, ◌*◌, ◌^◌, ◌<◌, ◌≤◌, cond, eqb, List, [], ◌∷◌, ◌++◌, length, Option, refl, ap, append_assoc, arith}
use Rattle.std.specs.Int.{w8, w16, w32, w64}
use Rattle.std.specs.List.{All, flat_map}
use Rattle.std.proofs.lemmas.List.{length-append}
use Rattle.std.proofs.lemmas.List.Elements.{All-head, All-tail}
use Rattle.model_text.specs.text.Number.{four_bytes, eight_bytes}
use Rattle.model_text.specs.text.Reading.{◌&◌, number_at}
use Rattle.model_text.proofs.text.Fields.{IsField, pair_field, wide32}
use Rattle.model_files.specs.wire.Message.{T, Tversion, Tauth, Tattach, Tflush, Twalk, Topen, Tcreate, Tread, Twrite, Tclunk, Tremove, Tstat, Twstat}
use Rattle.model_files.specs.wire.Spelling.{sized, string, IsString, names_bytes, message, spelling_of_t, SizesT, FitsT}
use Rattle.model_files.specs.wire.Reading.{counted_at, string_at, names_at, t_version, t_auth, t_attach, t_flush, t_walk, t_open, t_create, t_read, t_write, t_clunk, t_remove, t_stat, t_wstat, body_at}
use Rattle.model_files.proofs.wire.Parts.{field8, field16, field32, field64, counted_field, sized_field, length-sized, string_field, listed_field}
use Rattle.model_files.proofs.wire.Bodies.{HasBody, TakesBody, body_takes, body_again, or_else, none_taken}

-- ---- fields

names_field : IsField names_at names_bytes (λ names. (length names ≤ 16) × All IsString names)
unfolding names_at
names_field = listed_field string_at string IsString string_field

long_field : IsField (counted_at w32) (λ bytes. four_bytes (length bytes) ++ bytes) (λ bytes. length bytes < 2 ^ 32)
long_field = counted_field w32 (2 ^ 32) wide32

version_field : IsField (number_at w32 & string_at) (λ x. four_bytes x.0 ++ string x.1) (λ x. (x.0 < 2 ^ 32) × IsString x.1)
version_field = pair_field _ _ _ _ _ _ field32 string_field

two_strings : IsField (string_at & string_at) (λ x. string x.0 ++ string x.1) (λ x. IsString x.0 × IsString x.1)
two_strings = pair_field _ _ _ _ _ _ string_field string_field

auth_field : IsField (number_at w32 & (string_at & string_at)) (λ x. four_bytes x.0 ++ (string x.1.0 ++ string x.1.1)) (λ x. (x.0 < 2 ^ 32) × (IsString x.1.0 × IsString x.1.1))
auth_field = pair_field _ _ _ _ _ _ field32 two_strings

attach_field : IsField (number_at w32 & (number_at w32 & (string_at & string_at))) (λ x. four_bytes x.0 ++ (four_bytes x.1.0 ++ (string x.1.1.0 ++ string x.1.1.1)))
    (λ x. (x.0 < 2 ^ 32) × ((x.1.0 < 2 ^ 32) × (IsString x.1.1.0 × IsString x.1.1.1)))
attach_field = pair_field _ _ _ _ _ _ field32 auth_field

walk_field : IsField (number_at w32 & (number_at w32 & names_at)) (λ x. four_bytes x.0 ++ (four_bytes x.1.0 ++ names_bytes x.1.1))
    (λ x. (x.0 < 2 ^ 32) × ((x.1.0 < 2 ^ 32) × ((length x.1.1 ≤ 16) × All IsString x.1.1)))
walk_field = pair_field _ _ _ _ _ _ field32 (pair_field _ _ _ _ _ _ field32 names_field)

open_field : IsField (number_at w32 & number_at w8) (λ x. four_bytes x.0 ++ (x.1 ∷ [])) (λ x. (x.0 < 2 ^ 32) × (x.1 < 2 ^ 8))
open_field = pair_field _ _ _ _ _ _ field32 field8

create_field : IsField (number_at w32 & (string_at & (number_at w32 & number_at w8))) (λ x. four_bytes x.0 ++ (string x.1.0 ++ (four_bytes x.1.1.0 ++ (x.1.1.1 ∷ []))))
    (λ x. (x.0 < 2 ^ 32) × (IsString x.1.0 × ((x.1.1.0 < 2 ^ 32) × (x.1.1.1 < 2 ^ 8))))
create_field = pair_field _ _ _ _ _ _ field32 (pair_field _ _ _ _ _ _ string_field open_field)

read_field : IsField (number_at w32 & (number_at w64 & number_at w32)) (λ x. four_bytes x.0 ++ (eight_bytes x.1.0 ++ four_bytes x.1.1)) (λ x. (x.0 < 2 ^ 32) × ((x.1.0 < 2 ^ 64) × (x.1.1 < 2 ^ 32)))
read_field = pair_field _ _ _ _ _ _ field32 (pair_field _ _ _ _ _ _ field64 field32)

write_field : IsField (number_at w32 & (number_at w64 & counted_at w32)) (λ x. four_bytes x.0 ++ (eight_bytes x.1.0 ++ (four_bytes (length x.1.1) ++ x.1.1)))
    (λ x. (x.0 < 2 ^ 32) × ((x.1.0 < 2 ^ 64) × (length x.1.1 < 2 ^ 32)))
write_field = pair_field _ _ _ _ _ _ field32 (pair_field _ _ _ _ _ _ field64 long_field)

wstat_field : IsField (number_at w32 & counted_at w16) (λ x. four_bytes x.0 ++ sized x.1) (λ x. (x.0 < 2 ^ 32) × (length x.1 < 2 ^ 16))
wstat_field = pair_field _ _ _ _ _ _ field32 sized_field

-- ---- what is read

abbrev TakesT : (kind : ℕ) (read : ℕ → List ℕ → Option T) → Type 0
TakesT kind read = TakesBody spelling_of_t (λ m. SizesT m × FitsT m) kind read

version_takes : TakesT 100 t_version
unfolding t_version
version_takes tag body m lt are small e =
    body_takes spelling_of_t _ 100 tag _ _ _ (λ (x : ℕ × List ℕ). Tversion tag x.0 x.1) version_field (λ x. refl) (λ x f s. ((lt, f.0), f.1)) body m are small e

auth_takes : TakesT 102 t_auth
unfolding t_auth
auth_takes tag body m lt are small e =
    body_takes spelling_of_t _ 102 tag _ _ _ (λ (x : ℕ × (List ℕ × List ℕ)). Tauth tag x.0 x.1.0 x.1.1) auth_field (λ x. refl) (λ x f s. ((lt, f.0), f.1)) body m are small e

attach_takes : TakesT 104 t_attach
unfolding t_attach
attach_takes tag body m lt are small e =
    body_takes spelling_of_t _ 104 tag _ _ _ (λ (x : ℕ × (ℕ × (List ℕ × List ℕ))). Tattach tag x.0 x.1.0 x.1.1.0 x.1.1.1) attach_field (λ x. refl) (λ x f s. ((lt, f.0, f.1.0), f.1.1)) body m are small e

flush_takes : TakesT 108 t_flush
unfolding t_flush
flush_takes tag body m lt are small e =
    body_takes spelling_of_t _ 108 tag _ _ _ (λ (x : ℕ). Tflush tag x) field16 (λ x. refl) (λ x f s. ((lt, f), tt)) body m are small e

walk_takes : TakesT 110 t_walk
unfolding t_walk
walk_takes tag body m lt are small e =
    body_takes spelling_of_t _ 110 tag _ _ _ (λ (x : ℕ × (ℕ × List (List ℕ))). Twalk tag x.0 x.1.0 x.1.1) walk_field (λ x. refl) (λ x f s. ((lt, f.0, f.1.0), f.1.1)) body m are small e

open_takes : TakesT 112 t_open
unfolding t_open
open_takes tag body m lt are small e =
    body_takes spelling_of_t _ 112 tag _ _ _ (λ (x : ℕ × ℕ). Topen tag x.0 x.1) open_field (λ x. refl) (λ x f s. ((lt, f.0, f.1), tt)) body m are small e

create_spelled : (fid : ℕ) (name : List ℕ) (perm mode : ℕ) → four_bytes fid ++ string name ++ four_bytes perm ++ mode ∷ [] ≡ four_bytes fid ++ (string name ++ (four_bytes perm ++ (mode ∷ [])))
create_spelled fid name perm mode = ap (λ (text : List ℕ). four_bytes fid ++ text) (append_assoc (string name) (four_bytes perm) (mode ∷ []))

create_takes : TakesT 114 t_create
unfolding t_create
create_takes tag body m lt are small e =
    body_takes spelling_of_t _ 114 tag _ _ _ (λ (x : ℕ × (List ℕ × (ℕ × ℕ))). Tcreate tag x.0 x.1.0 x.1.1.0 x.1.1.1) create_field
    (λ x. ap (message 114 tag) (create_spelled x.0 x.1.0 x.1.1.0 x.1.1.1)) (λ x f s. ((lt, f.0, f.1.1.0, f.1.1.1), f.1.0)) body m are small e

read_takes : TakesT 116 t_read
unfolding t_read
read_takes tag body m lt are small e =
    body_takes spelling_of_t _ 116 tag _ _ _ (λ (x : ℕ × (ℕ × ℕ)). Tread tag x.0 x.1.0 x.1.1) read_field (λ x. refl) (λ x f s. ((lt, f.0, f.1.0, f.1.1), tt)) body m are small e

write_takes : TakesT 118 t_write
unfolding t_write
write_takes tag body m lt are small e =
    body_takes spelling_of_t _ 118 tag _ _ _ (λ (x : ℕ × (ℕ × List ℕ)). Twrite tag x.0 x.1.0 x.1.1) write_field (λ x. refl) (λ x f s. ((lt, f.0, f.1.0), omega (arith, s))) body m are small e

clunk_takes : TakesT 120 t_clunk
unfolding t_clunk
clunk_takes tag body m lt are small e =
    body_takes spelling_of_t _ 120 tag _ _ _ (λ (x : ℕ). Tclunk tag x) field32 (λ x. refl) (λ x f s. ((lt, f), tt)) body m are small e

remove_takes : TakesT 122 t_remove
unfolding t_remove
remove_takes tag body m lt are small e =
    body_takes spelling_of_t _ 122 tag _ _ _ (λ (x : ℕ). Tremove tag x) field32 (λ x. refl) (λ x f s. ((lt, f), tt)) body m are small e

stat_takes : TakesT 124 t_stat
unfolding t_stat
stat_takes tag body m lt are small e =
    body_takes spelling_of_t _ 124 tag _ _ _ (λ (x : ℕ). Tstat tag x) field32 (λ x. refl) (λ x f s. ((lt, f), tt)) body m are small e

wstat_takes : TakesT 126 t_wstat
unfolding t_wstat
wstat_takes tag body m lt are small e =
    body_takes spelling_of_t _ 126 tag _ _ _ (λ (x : ℕ × List ℕ). Twstat tag x.0 x.1) wstat_field (λ x. refl) (λ x f s. ((lt, f.0), f.1)) body m are small e

pub requests_take : (kind : ℕ) → TakesBody spelling_of_t (λ m. SizesT m × FitsT m) kind (body_at kind)
unfolding body_at
requests_take kind =
    or kind 100 version_takes (or kind 102 auth_takes (or kind 104 attach_takes (or kind 108 flush_takes (or kind 110 walk_takes (or kind 112 open_takes (or kind 114 create_takes
    (or kind 116 read_takes (or kind 118 write_takes (or kind 120 clunk_takes (or kind 122 remove_takes (or kind 124 stat_takes (or kind 126 wstat_takes (none_taken _ _ kind)))))))))))))
  where
    or : (kind one : ℕ) {first others : ℕ → List ℕ → Option T} → TakesT one first → TakesT kind others → TakesT kind (cond (eqb kind one) first others)
    or kind one {first} {others} takes_first takes_others = or_else spelling_of_t (λ m. SizesT m × FitsT m) kind one first others takes_first takes_others

-- ---- what is written

-- strings that are at most 16 are not long
names_short : (names : List (List ℕ)) → All IsString names → length (flat_map string names) ≤ 65538 * length names
names_short [] all = omega arith
names_short (name ∷ names) all =
    let first = All-head IsString name names all in
    let more : length (flat_map string names) ≤ 65538 * length names = names_short names (All-tail IsString name names all) in
    omega (arith, length-append (string name) (flat_map string names), length-sized name, first.1)

string_short : (text : List ℕ) → IsString text → length (string text) ≤ 65538
string_short text is = omega (arith, length-sized text, is.1)

pub requests_again : (m : T) → SizesT m → FitsT m → HasBody body_at spelling_of_t m
unfolding body_at t_version t_auth t_attach t_flush t_walk t_open t_create t_read t_write t_clunk t_remove t_stat t_wstat
requests_again (Tversion tag msize version) n f =
    body_again body_at spelling_of_t 100 tag _ _ _ (λ (x : ℕ × List ℕ). Tversion tag x.0 x.1) version_field (msize, version) (n.1, f)
    (omega arith) n.0 (omega (arith, string_short version f)) refl refl
requests_again (Tauth tag afid uname aname) n f =
    body_again body_at spelling_of_t 102 tag _ _ _ (λ (x : ℕ × (List ℕ × List ℕ)). Tauth tag x.0 x.1.0 x.1.1) auth_field (afid, (uname, aname)) (n.1, (f.0, f.1))
    (omega arith) n.0 (omega (arith, length-append (string uname) (string aname), string_short uname f.0, string_short aname f.1)) refl refl
requests_again (Tattach tag fid afid uname aname) n f =
    body_again body_at spelling_of_t 104 tag _ _ _ (λ (x : ℕ × (ℕ × (List ℕ × List ℕ))). Tattach tag x.0 x.1.0 x.1.1.0 x.1.1.1) attach_field (fid, (afid, (uname, aname))) (n.1, (n.2, (f.0, f.1)))
    (omega arith) n.0 (omega (arith, length-append (string uname) (string aname), string_short uname f.0, string_short aname f.1)) refl refl
requests_again (Tflush tag oldtag) n f =
    body_again body_at spelling_of_t 108 tag _ _ _ (λ (x : ℕ). Tflush tag x) field16 oldtag n.1 (omega arith) n.0 (omega arith) refl refl
requests_again (Twalk tag fid newfid names) n f =
    body_again body_at spelling_of_t 110 tag _ _ _ (λ (x : ℕ × (ℕ × List (List ℕ))). Twalk tag x.0 x.1.0 x.1.1) walk_field (fid, (newfid, names)) (n.1, (n.2, f))
    (omega arith) n.0 (omega (arith, names_short names f.1, f.0)) refl refl
requests_again (Topen tag fid mode) n f =
    body_again body_at spelling_of_t 112 tag _ _ _ (λ (x : ℕ × ℕ). Topen tag x.0 x.1) open_field (fid, mode) (n.1, n.2) (omega arith) n.0 (omega arith) refl refl
requests_again (Tcreate tag fid name perm mode) n f =
    body_again body_at spelling_of_t 114 tag _ _ _ (λ (x : ℕ × (List ℕ × (ℕ × ℕ))). Tcreate tag x.0 x.1.0 x.1.1.0 x.1.1.1) create_field (fid, (name, (perm, mode))) (n.1, (f, (n.2, n.3)))
    (omega arith) n.0 (omega (arith, length-append (string name) (four_bytes perm ++ (mode ∷ [])), string_short name f)) (ap (message 114 tag) (create_spelled fid name perm mode)) refl
requests_again (Tread tag fid offset count) n f =
    body_again body_at spelling_of_t 116 tag _ _ _ (λ (x : ℕ × (ℕ × ℕ)). Tread tag x.0 x.1.0 x.1.1) read_field (fid, (offset, count)) (n.1, (n.2, n.3)) (omega arith) n.0 (omega arith) refl refl
requests_again (Twrite tag fid offset bytes) n f =
    body_again body_at spelling_of_t 118 tag _ _ _ (λ (x : ℕ × (ℕ × List ℕ)). Twrite tag x.0 x.1.0 x.1.1) write_field (fid, (offset, bytes)) (n.1, (n.2, omega (arith, f)))
    (omega arith) n.0 (omega (arith, f)) refl refl
requests_again (Tclunk tag fid) n f =
    body_again body_at spelling_of_t 120 tag _ _ _ (λ (x : ℕ). Tclunk tag x) field32 fid n.1 (omega arith) n.0 (omega arith) refl refl
requests_again (Tremove tag fid) n f =
    body_again body_at spelling_of_t 122 tag _ _ _ (λ (x : ℕ). Tremove tag x) field32 fid n.1 (omega arith) n.0 (omega arith) refl refl
requests_again (Tstat tag fid) n f =
    body_again body_at spelling_of_t 124 tag _ _ _ (λ (x : ℕ). Tstat tag x) field32 fid n.1 (omega arith) n.0 (omega arith) refl refl
requests_again (Twstat tag fid stat) n f =
    body_again body_at spelling_of_t 126 tag _ _ _ (λ (x : ℕ × List ℕ). Twstat tag x.0 x.1) wstat_field (fid, stat) (n.1, f)
    (omega arith) n.0 (omega (arith, length-sized stat, f)) refl refl
