-- The mark with which a session is told of its message is the one that took effect, and what is known of a message that gives no reason.
use Rattle.std.proofs.Common.{◌≡◌, ◌∙◌, ℕ, ◌==◌, ◌<◌, Bool, true, false, List, [], ◌++◌, drop, length, Option, Some, None, Ok, refl, sym, ap, subst, arith, eqb-true}
use Rattle.std.specs.Prelude.{not, is_none, ◌&&◌, if◌then◌else◌}
use Rattle.std.specs.List.{slice_index_or}
use Rattle.std.specs.Str.{bytes_eq}
use Rattle.std.proofs.lemmas.Bool.{eqb-false, false_from_ne_true}
use Rattle.std.proofs.lemmas.Slice.Eq.{bytes_eq-Decides}
use Rattle.r9_event.specs.declared.event.event.Reply.{Reply}
use Rattle.r9_event.specs.declared.event.own.Use.{Use}
use Rattle.model_rio.specs.window.Pane.{Pane}
use Rattle.model_files.specs.wire.Message.{T, Tattach, Twalk, Topen, Twrite, Tversion, Tauth, Tflush, Tcreate, Tread, Tclunk, Tremove, Tstat, Twstat, R, Rerror, Rwrite, no_tag, tag_of_t}
use Rattle.model_files.specs.wire.Spelling.{message, sized, spelling_of_r}
use Rattle.model_files.specs.wire.Reading.{message_of, tag_of}
use Rattle.model_rio.specs.rio.Table.{Table}
use Rattle.model_draw.specs.draw.World as draw
use Rattle.model_draw.specs.draw.Act.{no_memory, written}
use Rattle.model_files.specs.declared.tree.Kind.TheVariants as kind
use Rattle.model_files.specs.tree.Node.{writes}
use Rattle.model_files.specs.tree.Tree.{check_live}
use Rattle.model_world.specs.Session.{Fid, Session}
use Rattle.model_world.specs.Fids.{fid_of}
use Rattle.model_world.specs.Reading.{is_open_for}
use Rattle.model_world.specs.Refusal.{refusal, refusal_text}
use Rattle.model_world.specs.Writing.{write_answer, write_reply}
use Rattle.model_world.specs.Answer.{Taking, Reads, answer, answer_read, is_version, taking}
use Rattle.model_world.specs.Replay.{reply_to}
use Rattle.model_world.specs.Desktop.{Desktop}
use Rattle.model_world.specs.Whole as whole
use Rattle.model_world.specs.Whole.{client, desktop_for}
use Rattle.model_world.proofs.Tags.{message_tag}
use Rattle.model_world.proofs.Wanting.{only_wanting}
use Rattle.model_alone.specs.alone.Own.{Watched, effective, reasons_from}
use Rattle.model_alone.specs.alone.Uses.{bytes_used, message_used, read_used}
use Rattle.law_strangers.specs.followed.Devices.{AreNamesFree, IsDeviceLike, told_mark}
use Rattle.law_strangers.proofs.private.Privacy.{IsFine, IsNoFreshAttach, IsToldMark}
use Rattle.law_strangers.proofs.private.Own.{AreQuiet}

-- ---- replies to writes

-- the text of a refusal stands behind its first nine bytes, and the kind of a reply is its fifth
text_behind : (tag : ℕ) (text : List ℕ) → drop 9 (spelling_of_r (Rerror tag text)) ≡ text
unfolding message sized
text_behind tag text = refl

error_kind : (tag : ℕ) (text : List ℕ) → slice_index_or (spelling_of_r (Rerror tag text)) 4 0 ≡ 107
unfolding message sized
error_kind tag text = refl

write_kind : (tag count : ℕ) → slice_index_or (spelling_of_r (Rwrite tag count)) 4 0 ≡ 119
unfolding message sized
write_kind tag count = refl

same_bytes : (xs ys : List ℕ) → bytes_eq xs ys ≡ true → xs ≡ ys
same_bytes xs ys is = (bytes_eq-Decides xs ys).0 is

-- where the reply is the refusal of want of memory the mark took effect
wanting_reply : (tag count : ℕ) (o : Option ℕ) (mark : Option ℕ) → (if bytes_eq (spelling_of_r (write_reply tag count o)) (spelling_of_r (refusal tag no_memory)) then mark else None) ≡ told_mark mark o
wanting_reply tag count None mark = ap (λ (b : Bool). if b then mark else None) (false_from_ne_true (bytes_eq (spelling_of_r (Rwrite tag count)) (spelling_of_r (refusal tag no_memory))) other)
  where
    other : bytes_eq (spelling_of_r (Rwrite tag count)) (spelling_of_r (refusal tag no_memory)) ≡ true → ⊥
    other is =
        let same = ap (λ (bytes : List ℕ). slice_index_or bytes 4 0) (same_bytes (spelling_of_r (Rwrite tag count)) (spelling_of_r (refusal tag no_memory)) is) in
        let kinds : 119 ≡ 107 = sym (write_kind tag count) ∙ same ∙ error_kind tag (refusal_text no_memory) in
        omega (arith, kinds)
wanting_reply tag count (Some n) mark = by (n == no_memory) refl
  where
    by : (b : Bool) → (n == no_memory) ≡ b → (if bytes_eq (spelling_of_r (refusal tag n)) (spelling_of_r (refusal tag no_memory)) then mark else None) ≡ (if b then mark else None)
    by true is =
        let same : n ≡ no_memory = eqb-true n no_memory is in
        ap (λ (b : Bool). if b then mark else None) ((bytes_eq-Decides (spelling_of_r (refusal tag n)) (spelling_of_r (refusal tag no_memory))).1 (ap (λ (k : ℕ). spelling_of_r (refusal tag k)) same))
    by false is = ap (λ (b : Bool). if b then mark else None) (false_from_ne_true (bytes_eq (spelling_of_r (refusal tag n)) (spelling_of_r (refusal tag no_memory))) other)
      where
        other : bytes_eq (spelling_of_r (refusal tag n)) (spelling_of_r (refusal tag no_memory)) ≡ true → ⊥
        other same =
            eqb-false n no_memory is
            (only_wanting n (sym (text_behind tag (refusal_text n)) ∙ ap (drop 9) (same_bytes (spelling_of_r (refusal tag n)) (spelling_of_r (refusal tag no_memory)) same) ∙ text_behind tag (refusal_text no_memory)))

-- ---- what a write of draw messages is answered

write_answered : (c : ℕ) (session : Session) (s : Desktop) (bytes : List ℕ) (mark : Option ℕ) (tag fid offset : ℕ) (data_bytes : List ℕ) (f : Fid) → taking session bytes ≡ Reads → message_of bytes ≡ Some (Twrite tag fid offset data_bytes)
    → (tag == no_tag) ≡ false → session.agreed ≡ true → fid_of session fid ≡ Ok f → is_none f.mode ≡ false → is_open_for writes f ≡ true → check_live ((desktop_for c).view s session.connections f.node) f.node ≡ Ok tt → f.node.kind ≡ kind.Data
    → (answer (desktop_for c) session s bytes mark).reply ≡ Some (write_reply tag (length data_bytes) (written (client c f.node.connection) s.device data_bytes mark).refusal)
unfolding answer answer_read write_answer whole.written_data
write_answered c session s bytes mark tag fid offset data_bytes f reads spells tagged agreed is opened writing live of = rw (reads, spells, tagged, agreed, is, opened, writing, live, of) refl

module _ (c : ℕ) (begin : 0 < c) (Like : Option (ℕ × ℕ) → Option (ℕ × List ℕ) → draw.World → draw.World → Type 0) (Named : draw.World → Table → List (ℕ × Pane) → Type 0) (laws : IsDeviceLike c Like) (names : AreNamesFree Named) (seen : Watched) where
  -- the mark that the session is told
  abbrev pub told_of : Session → Desktop → List ℕ → (mark : Option ℕ) → List Reply → Option ℕ
  told_of session s bytes mark late = effective bytes mark (reply_to c (answer (desktop_for c) session s bytes mark).reply ++ late)

  effective_is : (bytes : List ℕ) (mark : Option ℕ) (tag count : ℕ) (o : Option ℕ) (reply : Option R) (late : List Reply) → tag ≡ tag_of bytes → reply ≡ Some (write_reply tag count o) → effective bytes mark (reply_to c reply ++ late) ≡ told_mark mark o
  effective_is bytes mark tag count o reply late same is =
      ap (λ (r : Option R). effective bytes mark (reply_to c r ++ late)) is
      ∙ ap (λ (k : ℕ). if bytes_eq (spelling_of_r (write_reply tag count o)) (spelling_of_r (refusal k no_memory)) then mark else None) (sym same) ∙ wanting_reply tag count o mark

  marks : (session : Session) (s : Desktop) (bytes : List ℕ) (mark : Option ℕ) (late : List Reply) (m : T) → taking session bytes ≡ Reads → message_of bytes ≡ Some m → (not (is_version m) && (tag_of_t m == no_tag)) ≡ false
      → (not (is_version m) && not session.agreed) ≡ false → IsToldMark c begin Like Named laws names seen session s mark (told_of session s bytes mark late) m
  marks session s bytes mark late (Twrite tag fid offset data_bytes) reads spells tagged agreed = λ f is opened writing live of.
      effective_is bytes mark tag (length data_bytes) (written (client c f.node.connection) s.device data_bytes mark).refusal (answer (desktop_for c) session s bytes mark).reply late (message_tag bytes (Twrite tag fid offset data_bytes) spells)
      (write_answered c session s bytes mark tag fid offset data_bytes f reads spells tagged (is_so session.agreed agreed) is opened writing live of)
    where
      is_so : (b : Bool) → not b ≡ false → b ≡ true
      is_so true off = refl
      is_so false off = absurd cc
  marks session s bytes mark late (Tattach tag fid afid uname aname) reads spells tagged agreed = tt
  marks session s bytes mark late (Twalk tag fid newfid walks) reads spells tagged agreed = tt
  marks session s bytes mark late (Topen tag fid mode) reads spells tagged agreed = tt
  marks session s bytes mark late (Tversion tag msize version) reads spells tagged agreed = tt
  marks session s bytes mark late (Tauth tag afid uname aname) reads spells tagged agreed = tt
  marks session s bytes mark late (Tflush tag oldtag) reads spells tagged agreed = tt
  marks session s bytes mark late (Tcreate tag fid name perm mode) reads spells tagged agreed = tt
  marks session s bytes mark late (Tread tag fid offset count) reads spells tagged agreed = tt
  marks session s bytes mark late (Tclunk tag fid) reads spells tagged agreed = tt
  marks session s bytes mark late (Tremove tag fid) reads spells tagged agreed = tt
  marks session s bytes mark late (Tstat tag fid) reads spells tagged agreed = tt
  marks session s bytes mark late (Twstat tag fid stat) reads spells tagged agreed = tt

  -- a version uses nothing, and any other message what its kind does
  fine_of : (session : Session) (s : Desktop) (after : Session) (table : Table) (mark : Option ℕ) (m : T) → (not (is_version m) && (tag_of_t m == no_tag)) ≡ false → (not (is_version m) && not session.agreed) ≡ false
      → reasons_from true seen (read_used c session s after table mark (Some m)) ≡ [] → IsFine c begin Like Named laws names seen session s after table mark m
  fine_of session s after table mark m tagged agreed fine = by (is_version m) refl tagged agreed
    where
      version_uses : (m : T) → is_version m ≡ true → message_used c session s after table mark m ≡ []
      version_uses (Tversion tag msize version) is = refl
      version_uses (Tattach tag fid afid uname aname) is = absurd cc
      version_uses (Twalk tag fid newfid walks) is = absurd cc
      version_uses (Topen tag fid mode) is = absurd cc
      version_uses (Twrite tag fid offset bytes) is = absurd cc
      version_uses (Tauth tag afid uname aname) is = absurd cc
      version_uses (Tflush tag oldtag) is = absurd cc
      version_uses (Tcreate tag fid name perm mode) is = absurd cc
      version_uses (Tread tag fid offset count) is = absurd cc
      version_uses (Tclunk tag fid) is = absurd cc
      version_uses (Tremove tag fid) is = absurd cc
      version_uses (Tstat tag fid) is = absurd cc
      version_uses (Twstat tag fid stat) is = absurd cc

      used : (a n : Bool) → not a ≡ false → n ≡ false → (xs : List Use) → reasons_from true seen (if a && not n then xs else []) ≡ [] → reasons_from true seen xs ≡ []
      used true false x y xs fine = fine
      used false n x y xs fine = absurd cc
      used true true x y xs fine = absurd cc

      by : (v : Bool) → is_version m ≡ v → (not v && (tag_of_t m == no_tag)) ≡ false → (not v && not session.agreed) ≡ false → IsFine c begin Like Named laws names seen session s after table mark m
      by true is tagged agreed = ap (reasons_from true seen) (version_uses m is)
      by false is tagged agreed = used session.agreed (tag_of_t m == no_tag) agreed tagged (message_used c session s after table mark m) fine

  -- What is known of bytes that give no reason.
  pub bytes_quiet : (session : Session) (s : Desktop) (after : Session) (table : Table) (bytes : List ℕ) (mark : Option ℕ) (late : List Reply)
      → (taking session bytes ≡ Reads → (m : T) → message_of bytes ≡ Some m → (not (is_version m) && (tag_of_t m == no_tag)) ≡ false → (not (is_version m) && not session.agreed) ≡ false
      → IsNoFreshAttach c begin Like Named laws names seen session m)
      → reasons_from true seen (bytes_used c session s after table mark bytes (taking session bytes)) ≡ [] → taking session bytes ≡ Reads
      → AreQuiet c begin Like Named laws names seen session s after table mark (told_of session s bytes mark late) (message_of bytes)
  bytes_quiet session s after table bytes mark late fresh fine reads =
      by (message_of bytes) refl (subst (λ (how : Taking). reasons_from true seen (bytes_used c session s after table mark bytes how) ≡ []) reads fine)
    where
      by : (o : Option T) → message_of bytes ≡ o → reasons_from true seen (read_used c session s after table mark o) ≡ [] → AreQuiet c begin Like Named laws names seen session s after table mark (told_of session s bytes mark late) o
      by None spells fine = tt
      by (Some m) spells fine = λ tagged agreed. record {
        fine = fine_of session s after table mark m tagged agreed fine;
        marked = marks session s bytes mark late m reads spells tagged agreed;
        fresh = fresh reads m spells tagged agreed;
      }
