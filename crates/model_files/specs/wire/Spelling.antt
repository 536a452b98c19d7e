-- What spells a message (intro(5), and a page of section 5 for each): size[4] kind[1] tag[2] and a body. The size counts itself.
use Rattle.std.specs.Prelude.{◌≡◌, ◌<◌, ◌≤◌, ◌+◌, ◌^◌, ℕ, List, [], ◌∷◌, ◌++◌, length}
use Rattle.std.specs.List.{All, flat_map}
use Rattle.std.specs.Str.{IsUtf8}
use Rattle.model_text.specs.text.Number.{two_bytes, four_bytes, eight_bytes}
use Rattle.model_files.specs.wire.Message.{Qid, Stat, T, Tversion, Tauth, Tattach, Tflush, Twalk, Topen, Tcreate, Tread, Twrite, Tclunk, Tremove, Tstat, Twstat, R, Rversion, Rattach, Rerror, Rflush, Rwalk, Ropen, Rread, Rwrite, Rclunk, Rstat}

-- ---- fields

-- a length of two bytes, and that many bytes
unfoldable pub sized : List ℕ → List ℕ
sized bytes = two_bytes (length bytes) ++ bytes

-- a string, which is UTF-8
abbrev pub string : List ℕ → List ℕ
string text = sized text

abbrev pub IsString : List ℕ → Type 0
IsString text = IsUtf8 text × (length text < 2 ^ 16)

-- kind[1] vers[4] path[8]
unfoldable pub qid_bytes : Qid → List ℕ
qid_bytes qid = qid.kind ∷ four_bytes qid.vers ++ eight_bytes qid.path

abbrev pub IsQid : Qid → Type 0
IsQid qid = (qid.kind < 2 ^ 8) × (qid.vers < 2 ^ 32) × (qid.path < 2 ^ 64)

-- at most 16 names, or qids, and their count before them
abbrev pub names_bytes : List (List ℕ) → List ℕ
names_bytes names = two_bytes (length names) ++ flat_map string names

abbrev pub qids_bytes : List Qid → List ℕ
qids_bytes qids = two_bytes (length qids) ++ flat_map qid_bytes qids

-- what a stat says behind its size (stat(5))
unfoldable pub stat_body : Stat → List ℕ
stat_body s = two_bytes s.kind ++ four_bytes s.dev ++ qid_bytes s.qid ++ four_bytes s.mode ++ four_bytes s.atime
    ++ four_bytes s.mtime ++ eight_bytes s.length ++ string s.name ++ string s.uid ++ string s.gid ++ string s.muid

-- a stat, whose size does not count itself
abbrev pub stat_bytes : Stat → List ℕ
stat_bytes s = sized (stat_body s)

-- ---- messages

-- a size of four bytes, which counts itself, a kind, a tag, and a body
unfoldable pub message : (kind tag : ℕ) (body : List ℕ) → List ℕ
message kind tag body = four_bytes (7 + length body) ++ (kind ∷ (two_bytes tag ++ body))

abbrev pub spelling_of_t : T → List ℕ
spelling_of_t (Tversion tag msize version) = message 100 tag (four_bytes msize ++ string version)
spelling_of_t (Tauth tag afid uname aname) = message 102 tag (four_bytes afid ++ string uname ++ string aname)
spelling_of_t (Tattach tag fid afid uname aname) = message 104 tag (four_bytes fid ++ four_bytes afid ++ string uname ++ string aname)
spelling_of_t (Tflush tag oldtag) = message 108 tag (two_bytes oldtag)
spelling_of_t (Twalk tag fid newfid names) = message 110 tag (four_bytes fid ++ four_bytes newfid ++ names_bytes names)
spelling_of_t (Topen tag fid mode) = message 112 tag (four_bytes fid ++ mode ∷ [])
spelling_of_t (Tcreate tag fid name perm mode) = message 114 tag (four_bytes fid ++ string name ++ four_bytes perm ++ mode ∷ [])
spelling_of_t (Tread tag fid offset count) = message 116 tag (four_bytes fid ++ eight_bytes offset ++ four_bytes count)
spelling_of_t (Twrite tag fid offset bytes) = message 118 tag (four_bytes fid ++ eight_bytes offset ++ four_bytes (length bytes) ++ bytes)
spelling_of_t (Tclunk tag fid) = message 120 tag (four_bytes fid)
spelling_of_t (Tremove tag fid) = message 122 tag (four_bytes fid)
spelling_of_t (Tstat tag fid) = message 124 tag (four_bytes fid)
spelling_of_t (Twstat tag fid stat) = message 126 tag (four_bytes fid ++ sized stat)

abbrev pub spelling_of_r : R → List ℕ
spelling_of_r (Rversion tag msize version) = message 101 tag (four_bytes msize ++ string version)
spelling_of_r (Rattach tag qid) = message 105 tag (qid_bytes qid)
spelling_of_r (Rerror tag ename) = message 107 tag (string ename)
spelling_of_r (Rflush tag) = message 109 tag []
spelling_of_r (Rwalk tag qids) = message 111 tag (qids_bytes qids)
spelling_of_r (Ropen tag qid iounit) = message 113 tag (qid_bytes qid ++ four_bytes iounit)
spelling_of_r (Rread tag bytes) = message 117 tag (four_bytes (length bytes) ++ bytes)
spelling_of_r (Rwrite tag count) = message 119 tag (four_bytes count)
spelling_of_r (Rclunk tag) = message 121 tag []
spelling_of_r (Rstat tag stat) = message 125 tag (sized (stat_bytes stat))

-- ---- which values are spelled

-- the numbers have the sizes of their fields
abbrev pub SizesStat : Stat → Type 0
SizesStat s = (s.kind < 2 ^ 16) × (s.dev < 2 ^ 32) × IsQid s.qid × (s.mode < 2 ^ 32) × (s.atime < 2 ^ 32) × (s.mtime < 2 ^ 32) × (s.length < 2 ^ 64)

abbrev pub SizesT : T → Type 0
SizesT (Tversion tag msize version) = (tag < 2 ^ 16) × (msize < 2 ^ 32)
SizesT (Tauth tag afid uname aname) = (tag < 2 ^ 16) × (afid < 2 ^ 32)
SizesT (Tattach tag fid afid uname aname) = (tag < 2 ^ 16) × (fid < 2 ^ 32) × (afid < 2 ^ 32)
SizesT (Tflush tag oldtag) = (tag < 2 ^ 16) × (oldtag < 2 ^ 16)
SizesT (Twalk tag fid newfid names) = (tag < 2 ^ 16) × (fid < 2 ^ 32) × (newfid < 2 ^ 32)
SizesT (Topen tag fid mode) = (tag < 2 ^ 16) × (fid < 2 ^ 32) × (mode < 2 ^ 8)
SizesT (Tcreate tag fid name perm mode) = (tag < 2 ^ 16) × (fid < 2 ^ 32) × (perm < 2 ^ 32) × (mode < 2 ^ 8)
SizesT (Tread tag fid offset count) = (tag < 2 ^ 16) × (fid < 2 ^ 32) × (offset < 2 ^ 64) × (count < 2 ^ 32)
SizesT (Twrite tag fid offset bytes) = (tag < 2 ^ 16) × (fid < 2 ^ 32) × (offset < 2 ^ 64)
SizesT (Tclunk tag fid) = (tag < 2 ^ 16) × (fid < 2 ^ 32)
SizesT (Tremove tag fid) = (tag < 2 ^ 16) × (fid < 2 ^ 32)
SizesT (Tstat tag fid) = (tag < 2 ^ 16) × (fid < 2 ^ 32)
SizesT (Twstat tag fid stat) = (tag < 2 ^ 16) × (fid < 2 ^ 32)

abbrev pub SizesR : R → Type 0
SizesR (Rversion tag msize version) = (tag < 2 ^ 16) × (msize < 2 ^ 32)
SizesR (Rattach tag qid) = (tag < 2 ^ 16) × IsQid qid
SizesR (Rerror tag ename) = tag < 2 ^ 16
SizesR (Rflush tag) = tag < 2 ^ 16
SizesR (Rwalk tag qids) = (tag < 2 ^ 16) × All IsQid qids
SizesR (Ropen tag qid iounit) = (tag < 2 ^ 16) × IsQid qid × (iounit < 2 ^ 32)
SizesR (Rread tag bytes) = tag < 2 ^ 16
SizesR (Rwrite tag count) = (tag < 2 ^ 16) × (count < 2 ^ 32)
SizesR (Rclunk tag) = tag < 2 ^ 16
SizesR (Rstat tag stat) = (tag < 2 ^ 16) × SizesStat stat

-- A value fits where its texts are UTF-8, its list has at most 16 members, and every length fits its field.
abbrev pub FitsStat : Stat → Type 0
FitsStat s = IsString s.name × IsString s.uid × IsString s.gid × IsString s.muid × (length (stat_body s) < 2 ^ 16)

abbrev pub FitsT : T → Type 0
FitsT (Tversion tag msize version) = IsString version
FitsT (Tauth tag afid uname aname) = IsString uname × IsString aname
FitsT (Tattach tag fid afid uname aname) = IsString uname × IsString aname
FitsT (Tflush tag oldtag) = Unit {0}
FitsT (Twalk tag fid newfid names) = (length names ≤ 16) × All IsString names
FitsT (Topen tag fid mode) = Unit {0}
FitsT (Tcreate tag fid name perm mode) = IsString name
FitsT (Tread tag fid offset count) = Unit {0}
FitsT (Twrite tag fid offset bytes) = 23 + length bytes < 2 ^ 32
FitsT (Tclunk tag fid) = Unit {0}
FitsT (Tremove tag fid) = Unit {0}
FitsT (Tstat tag fid) = Unit {0}
FitsT (Twstat tag fid stat) = length stat < 2 ^ 16

abbrev pub FitsR : R → Type 0
FitsR (Rversion tag msize version) = IsString version
FitsR (Rattach tag qid) = Unit {0}
FitsR (Rerror tag ename) = IsString ename
FitsR (Rflush tag) = Unit {0}
FitsR (Rwalk tag qids) = length qids ≤ 16
FitsR (Ropen tag qid iounit) = Unit {0}
FitsR (Rread tag bytes) = 11 + length bytes < 2 ^ 32
FitsR (Rwrite tag count) = Unit {0}
FitsR (Rclunk tag) = Unit {0}
FitsR (Rstat tag stat) = FitsStat stat × (length (stat_bytes stat) < 2 ^ 16)

-- ---- what spells what

-- these bytes, all of them, spell the message
pub record SpellsT (bytes : List ℕ) (m : T) : Type 0 where
  pub sizes : SizesT m
  pub fits : FitsT m
  pub spelled : bytes ≡ spelling_of_t m

pub record SpellsR (bytes : List ℕ) (m : R) : Type 0 where
  pub sizes : SizesR m
  pub fits : FitsR m
  pub spelled : bytes ≡ spelling_of_r m

pub record SpellsStat (bytes : List ℕ) (s : Stat) : Type 0 where
  pub sizes : SizesStat s
  pub fits : FitsStat s
  pub spelled : bytes ≡ stat_bytes s
