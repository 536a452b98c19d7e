-- What each call of an outside keeps, each message of a session keeps, and each late answer.
use Rattle.std.proofs.Common.{◌≡◌, ℕ, ◌==◌, ◌+◌, Bool, true, false, List, [], ◌∷◌, ◌++◌, fold, length, map, Option, Some, None, is_some, Ok, Err, refl, subst}
use Rattle.std.specs.Prelude.{IfOk, IfSome, filter, is_none, nat_le, nat_lt, not, ◌&&◌}
use Rattle.std.specs.Option.{option_map}
use Rattle.std.proofs.lemmas.Bool.{cond_both}
use Rattle.model_text.specs.text.Outcome.{Outcome, ◌>>=◌, refuse_if, value_or_refuse}
use Rattle.model_text.specs.text.Map.{without}
use Rattle.model_files.specs.declared.mouse.Mouse.{Mouse as Pointer}
use Rattle.model_history.specs.declared.words.Size.{Size}
use Rattle.model_history.specs.words.Values.{sides_of}
use Rattle.model_files.specs.mouse.Pointer.{pointer_of}
use Rattle.model_files.specs.mouse.Queue.{answer_text}
use Rattle.model_files.specs.console.Console as console
use Rattle.model_rio.specs.window.Heard.{ConsctlHeld, ConsoleRead, Heard, Labelled, MouseHeld, MouseRead, Raw, Written, wctl_answer, wctl_text}
use Rattle.model_files.specs.wire.Message.{T, Tattach, Twalk, Topen, Twrite, Tversion, Tauth, Tflush, Tcreate, Tread, Tclunk, Tremove, Tstat, Twstat, R, Rclunk, no_fid, no_tag, tag_of_t}
use Rattle.model_files.specs.wire.Reading.{message_of, tag_of}
use Rattle.model_files.specs.declared.tree.Kind.{Kind}
use Rattle.model_files.specs.declared.tree.Kind.TheVariants as kind
use Rattle.model_files.specs.tree.Attach.{Attach, attach_of}
use Rattle.model_files.specs.tree.Listing.{stats}
use Rattle.model_files.specs.tree.Node.{Node, is_directory, may, reads, writes}
use Rattle.model_files.specs.tree.Tree.{check_live}
use Rattle.model_world.specs.Session.{Fid, Session, Wait}
use Rattle.model_world.specs.Outside.{Outside}
use Rattle.model_world.specs.Refusal.{refusal}
use Rattle.model_world.specs.Fids.{Done, Left, beside, cleared, fid_of, fids_gone, is_bound, is_full, is_kept, is_kind, left_by, let_go, settled, with_held}
use Rattle.model_world.specs.Walking.{attach_answer, is_taken, most_made, open_answer, opened, walk_answer}
use Rattle.model_world.specs.Reading.{Given, count_within, ctl_read, directory_read, file_read, given_in, given_now, is_open_for, most_waiting, mouse_len, node_read, read_answer, read_ended, wctl_len}
use Rattle.model_world.specs.Writing.{are_keys, file_written, line_of, raw_asked, snarf_written, whole_or_refused, with_raw_asked, write_answer}
use Rattle.model_world.specs.Waiting.{answered_or, awaited, first_of, given_or_refused, one_answered, wait_answer}
use Rattle.model_world.specs.Answer.{Taking, Ignored, TooLong, Closes, Reads, agreed_on, answer, answer_read, answer_to, asks_for_9p, clunk_answer, denied, is_version, read_or_not, replied, stat_answer, taken, taking, version_answer}
use Rattle.model_world.proofs.Others.{after_if, after_step}
use Rattle.law_likeness.proofs.agreement.Relations.{not_refused}
use Rattle.model_alone.specs.alone.Uses.{is_name_looked_at}

module _ {S : Type 0} (outside : Outside S) (P : S → Type 0) where
  -- each call keeps it, but for attaches
  pub record AllKeep : Type 0 where
    pub left : (s : S) (windows : List ℕ) → P s → P (outside.left s windows)
    pub hear : (s : S) (window : ℕ) (h : Heard) → P s → P (outside.hear s window h)
    pub command : (s : S) (window : ℕ) (text : List ℕ) → P s → IfOk (outside.command s window text) P
    pub device_command : (s : S) (text : List ℕ) → P s → IfOk (outside.device_command s text) P
    pub mouse : (s : S) (e : Pointer) → P s → P (outside.mouse s e)
    pub keys : (s : S) (typed : List ℕ) → P s → P (outside.keys s typed)
    pub with_size : (s : S) (size : Size) → P s → IfOk (outside.with_size s size) P
    pub with_snarf : (s : S) (host : ℕ) (bytes : List ℕ) → P s → P (outside.with_snarf s host bytes)
    pub connect : (s : S) (n : ℕ) → P s → P (outside.connect s n)
    pub leave : (s : S) (n : ℕ) → P s → P (outside.leave s n)
    pub write_data : (s : S) (n : ℕ) (bytes : List ℕ) (mark : Option ℕ) → P s → P (outside.write_data s n bytes mark).0
    pub read_data : (s : S) (n most : ℕ) → P s → IfOk (outside.read_data s n most) (λ got. P got.1)
    pub write_ctl : (s : S) (n : ℕ) (bytes : List ℕ) → P s → IfOk (outside.write_ctl s n bytes) P

  module _ (keep : AllKeep) where
    -- ---- fids that go

    held_keeps : (held : Bool) (s : S) (node : Node) → P s → P (with_held outside held s node)
    held_keeps held s node is =
        cond_both (is_kind kind.Mouse node.kind) (outside.hear s node.serial (MouseHeld held)) _ P (λ _. keep.hear s node.serial (MouseHeld held) is)
        (λ _. cond_both (is_kind kind.Consctl node.kind) (outside.hear s node.serial (ConsctlHeld held)) s P (λ _. keep.hear s node.serial (ConsctlHeld held) is) (λ _. is))

    let_go_keeps : (s : S) (fid : Fid) → P s → P (let_go outside s fid)
    let_go_keeps s fid is = cond_both (is_some fid.mode) (with_held outside false s fid.node) s P (λ _. held_keeps false s fid.node is) (λ _. is)

    pub all_let_go : (gone : List Fid) (s : S) → P s → P (fold (let_go outside) s gone)
    all_let_go [] s is = is
    all_let_go (fid ∷ gone) s is = all_let_go gone (let_go outside s fid) (let_go_keeps s fid is)

    pub all_leave : (gone : List ℕ) (s : S) → P s → P (fold outside.leave s gone)
    all_leave [] s is = is
    all_leave (n ∷ gone) s is = all_leave gone (outside.leave s n) (keep.leave s n is)

    gone_keeps : (session : Session) (s : S) (gone : List Fid) → P s → P (fids_gone outside session s gone).1
    unfolding fids_gone settled
    gone_keeps session s gone is =
        let ended : S = fold outside.leave s (filter (λ n. not (is_kept session n)) session.connections) in
        keep.left (fold (let_go outside) ended gone) (left_by (settled outside session s).0 gone)
        (all_let_go gone ended (all_leave (filter (λ n. not (is_kept session n)) session.connections) s is))

    pub cleared_keeps : (session : Session) (s : S) → P s → P (cleared outside session s).1
    cleared_keeps session s is = gone_keeps (record session { fids = []; waiting = [] }) s (map (λ entry. entry.1) session.fids) is

    abbrev KeepsLeft : Outcome (Left S) → Type 0
    KeepsLeft o = IfOk o (λ l. P l.rest)

    clunk_keeps : (session : Session) (s : S) (number : ℕ) (reply : R) → P s → KeepsLeft (clunk_answer outside session s number reply)
    unfolding clunk_answer
    clunk_keeps session s number reply is =
        after_step (λ l. P l.rest) (fid_of session number) _ (λ fid _. gone_keeps (record session { fids = without session.fids number }) s (fid ∷ []) is)

    version_keeps : (session : Session) (s : S) (tag msize : ℕ) (version : List ℕ) → P s → KeepsLeft (version_answer outside session s tag msize version)
    unfolding version_answer
    version_keeps session s tag msize version is = after_step (λ l. P l.rest) (refuse_if (nat_lt msize 256) 48) _ (λ _ _. by (asks_for_9p version) refl)
      where
        by : (b : Bool) → asks_for_9p version ≡ b → P (agreed_on tag msize version (cleared outside session s)).rest
        by true at = rw at (cleared_keeps session s is)
        by false at = rw at (cleared_keeps session s is)

    -- ---- attaches and opens

    -- an attach leaves it, where its name is looked at
    abbrev pub AttachKeeps : Session → S → (fid afid : ℕ) → List ℕ → Type 0
    AttachKeeps session s fid afid aname = is_name_looked_at session fid afid ≡ true → (root : S × ℕ) → outside.attached s (attach_of aname) ≡ Ok root → P root.0

    attach_keeps : (session : Session) (s : S) (tag fid afid : ℕ) (aname : List ℕ) → AttachKeeps session s fid afid aname → KeepsLeft (attach_answer outside session s tag fid afid aname)
    unfolding attach_answer
    attach_keeps session s tag fid afid aname leads =
        after_step (λ l. P l.rest) (refuse_if (not (afid == no_fid)) 40) _ (λ u unkeyed.
        after_step (λ l. P l.rest) (refuse_if (is_bound session fid) 33) _ (λ v free.
        after_step (λ l. P l.rest) (refuse_if (is_full session) 44) _ (λ w room.
        after_step (λ l. P l.rest) (outside.attached s (attach_of aname)) _ (λ root is.
        leads (looked (afid == no_fid) (is_bound session fid) (is_full session) (not_refused (not (afid == no_fid)) 40 u unkeyed) (not_refused (is_bound session fid) 33 v free) (not_refused (is_full session) 44 w room)) root is))))
      where
        looked : (a b c : Bool) → not a ≡ false → b ≡ false → c ≡ false → (a && not b && not c) ≡ true
        looked true false false x y z = refl
        looked false b c x y z = absurd cc
        looked true true c x y z = absurd cc
        looked true false true x y z = absurd cc

    opened_keeps : (session : Session) (s : S) (tag number mode : ℕ) (fid : Fid) → P s → P (opened outside session s tag number mode fid).rest
    opened_keeps session s tag number mode fid is = by (is_kind kind.New fid.node.kind) refl
      where
        by : (new : Bool) → is_kind kind.New fid.node.kind ≡ new → P (opened outside session s tag number mode fid).rest
        by true at = rw at (keep.connect s (session.made + 1) is)
        by false at = rw at (held_keeps true s fid.node is)

    open_keeps : (session : Session) (s : S) (tag number mode : ℕ) → P s → KeepsLeft (open_answer outside session s tag number mode)
    unfolding open_answer
    open_keeps session s tag number mode is =
        after_step (λ l. P l.rest) (fid_of session number) _ (λ fid _.
        after_step (λ l. P l.rest) (refuse_if (is_some fid.mode) 36) _ (λ _ _.
        after_step (λ l. P l.rest) (check_live (outside.view s session.connections fid.node) fid.node) _ (λ _ _.
        after_step (λ l. P l.rest) (refuse_if (not (may fid.node mode)) 38) _ (λ _ _.
        after_step (λ l. P l.rest) (refuse_if (is_taken outside session s fid.node) 43) _ (λ _ _.
        after_step (λ l. P l.rest) (refuse_if (is_kind kind.New fid.node.kind && nat_le most_made session.made) 44) _ (λ _ _.
        opened_keeps session s tag number mode fid is))))))

    -- ---- reads

    abbrev IfGiven : Option (Given S) → Type 0
    IfGiven o = IfSome o (λ got. P got.rest)

    mapped : (o : Option (List ℕ)) (f : List ℕ → Given S) → ((x : List ℕ) → P (f x).rest) → IfGiven (option_map f o)
    mapped None f each = tt
    mapped (Some x) f each = each x

    now_keeps : (s : S) (fid : Fid) (count : ℕ) (of : Kind) → P s → IfGiven (given_now outside s fid count of)
    now_keeps s fid count kind.Mouse is = mapped (answer_text (outside.pane s fid.node.serial).mouse) _ (λ text. keep.hear s fid.node.serial MouseRead is)
    now_keeps s fid count kind.Cons is = mapped (console.read count (outside.pane s fid.node.serial).console) _ (λ text. keep.hear s fid.node.serial (ConsoleRead count) is)
    now_keeps s fid count kind.Wctl is = mapped (wctl_answer fid.told (wctl_text (outside.pane s fid.node.serial).known)) _ (λ text. is)
    now_keeps s fid count _ is = tt

    in_keeps : (s : S) (fid : Fid) (least count : ℕ) (of : Kind) → P s → IfOk (given_in outside s fid least count of) IfGiven
    in_keeps s fid least count of is = after_step IfGiven (refuse_if (nat_lt count least) 46) _ (λ _ _. now_keeps s fid count of is)

    file_keeps : (s : S) (fid : Fid) (offset count : ℕ) (of : Kind) → P s → IfOk (file_read outside s fid offset count of) IfGiven
    file_keeps s fid offset count kind.Ctl is = after_step IfGiven (ctl_read outside s fid.node offset count) _ (λ _ _. is)
    file_keeps s fid offset count kind.Data is = after_if IfGiven (λ (got : List ℕ × S). P got.1) (outside.read_data s fid.node.connection count) _ (keep.read_data s fid.node.connection count is) (λ got kept. kept)
    file_keeps s fid offset count kind.Screen is = is
    file_keeps s fid offset count kind.Snarf is = is
    file_keeps s fid offset count kind.Hwsize is = is
    file_keeps s fid offset count kind.Label is = is
    file_keeps s fid offset count kind.Text is = is
    file_keeps s fid offset count kind.Winid is = is
    file_keeps s fid offset count kind.Winname is = is
    file_keeps s fid offset count kind.Picture is = is
    file_keeps s fid offset count kind.Mouse is = in_keeps s fid mouse_len count kind.Mouse is
    file_keeps s fid offset count kind.Wctl is = in_keeps s fid wctl_len count kind.Wctl is
    file_keeps s fid offset count kind.Cons is = now_keeps s fid count kind.Cons is
    file_keeps s fid offset count _ is = tt

    node_keeps : (connections : List ℕ) (s : S) (fid : Fid) (offset count : ℕ) → P s → IfOk (node_read outside connections s fid offset count) IfGiven
    node_keeps connections s fid offset count is =
        cond_both (is_directory fid.node) _ (file_read outside s fid offset count fid.node.kind) (λ o. IfOk o IfGiven)
        (λ _. after_step IfGiven (directory_read (stats (outside.view s connections fid.node) fid.node) fid offset count) _ (λ _ _. is))
        (λ _. file_keeps s fid offset count fid.node.kind is)

    end_keeps : (session : Session) (s : S) (tag number count : ℕ) (got : Option (Given S)) → P s → IfGiven got → KeepsLeft (read_ended session s tag number count got)
    end_keeps session s tag number count (Some got) is kept = kept
    end_keeps session s tag number count None is kept = after_step (λ l. P l.rest) (refuse_if (nat_le most_waiting (length session.waiting)) 45) _ (λ _ _. is)

    read_keeps : (session : Session) (s : S) (tag number offset count : ℕ) → P s → KeepsLeft (read_answer outside session s tag number offset count)
    unfolding read_answer
    read_keeps session s tag number offset count is =
        after_step (λ l. P l.rest) (fid_of session number) _ (λ fid _.
        after_step (λ l. P l.rest) (refuse_if (is_none fid.mode) 37) _ (λ _ _.
        after_step (λ l. P l.rest) (refuse_if (not (is_open_for reads fid)) 38) _ (λ _ _.
        after_step (λ l. P l.rest) (check_live (outside.view s session.connections fid.node) fid.node) _ (λ _ _.
        after_if (λ l. P l.rest) IfGiven (node_read outside session.connections s fid offset (count_within session count)) _
        (node_keeps session.connections s fid offset (count_within session count) is) (λ got kept. end_keeps session s tag number (count_within session count) got is kept)))))

    -- ---- writes

    abbrev IfAfter : S × Option ℕ → Type 0
    IfAfter after = P after.0

    whole_keeps : (o : Outcome S) → IfOk o P → IfOk (whole_or_refused o) IfAfter
    whole_keeps (Ok next) kept = kept
    whole_keeps (Err n) kept = tt

    raw_keeps : (s : S) (window : ℕ) (asked : Option Bool) → P s → P (with_raw_asked outside s window asked)
    raw_keeps s window None is = is
    raw_keeps s window (Some raw) is = keep.hear s window (Raw raw) is

    written_keeps : (s : S) (node : Node) (offset : ℕ) (bytes : List ℕ) (mark : Option ℕ) (of : Kind) → P s → IfOk (file_written outside s node offset bytes mark of) IfAfter
    written_keeps s node offset bytes mark kind.Ctl is = whole_keeps (outside.write_ctl s node.connection bytes) (keep.write_ctl s node.connection bytes is)
    written_keeps s node offset bytes mark kind.Data is = keep.write_data s node.connection bytes mark is
    written_keeps s node offset bytes mark kind.Mousein is =
        whole_keeps (value_or_refuse (pointer_of bytes) 51 >>= λ e. Ok (outside.mouse s e)) (after_step P (value_or_refuse (pointer_of bytes) 51) _ (λ e _. keep.mouse s e is))
    written_keeps s node offset bytes mark kind.Kbdin is =
        whole_keeps (refuse_if (not (are_keys bytes)) 51 >>= λ _. Ok (outside.keys s bytes)) (after_step P (refuse_if (not (are_keys bytes)) 51) _ (λ _ _. keep.keys s bytes is))
    written_keeps s node offset bytes mark kind.Hwsize is =
        whole_keeps (value_or_refuse (sides_of (line_of bytes)) 51 >>= λ size. outside.with_size s size) (after_step P (value_or_refuse (sides_of (line_of bytes)) 51) _ (λ size _. keep.with_size s size is))
    written_keeps s node offset bytes mark kind.Snarf is =
        let old = outside.snarf s node.serial in
        whole_keeps (snarf_written old offset bytes >>= λ new. Ok (outside.with_snarf s node.serial new)) (after_step P (snarf_written old offset bytes) _ (λ new _. keep.with_snarf s node.serial new is))
    written_keeps s node offset bytes mark kind.DeviceWctl is = whole_keeps (outside.device_command s bytes) (keep.device_command s bytes is)
    written_keeps s node offset bytes mark kind.Cons is = keep.hear s node.serial (Written bytes) is
    written_keeps s node offset bytes mark kind.Consctl is =
        whole_keeps (raw_asked (line_of bytes) >>= λ asked. Ok (with_raw_asked outside s node.serial asked)) (after_step P (raw_asked (line_of bytes)) _ (λ asked _. raw_keeps s node.serial asked is))
    written_keeps s node offset bytes mark kind.Mouse is = is
    written_keeps s node offset bytes mark kind.Label is = keep.hear s node.serial (Labelled bytes) is
    written_keeps s node offset bytes mark kind.Wctl is = whole_keeps (outside.command s node.serial bytes) (keep.command s node.serial bytes is)
    written_keeps s node offset bytes mark _ is = tt

    write_keeps : (session : Session) (s : S) (tag number offset : ℕ) (bytes : List ℕ) (mark : Option ℕ) → P s → KeepsLeft (write_answer outside session s tag number offset bytes mark)
    unfolding write_answer
    write_keeps session s tag number offset bytes mark is =
        after_step (λ l. P l.rest) (fid_of session number) _ (λ fid _.
        after_step (λ l. P l.rest) (refuse_if (is_none fid.mode) 37) _ (λ _ _.
        after_step (λ l. P l.rest) (refuse_if (not (is_open_for writes fid)) 38) _ (λ _ _.
        after_step (λ l. P l.rest) (check_live (outside.view s session.connections fid.node) fid.node) _ (λ _ _.
        after_if (λ l. P l.rest) IfAfter (file_written outside s fid.node offset bytes mark fid.node.kind) _
        (written_keeps s fid.node offset bytes mark fid.node.kind is) (λ after kept. kept)))))

    -- ---- each message

    -- what must be so of attaches
    abbrev pub MessageKeeps : Session → S → T → Type 0
    MessageKeeps session s (Tattach tag fid afid uname aname) = AttachKeeps session s fid afid aname
    MessageKeeps session s _ = Unit {0}

    beside_keeps : (s : S) (o : Outcome Done) → P s → KeepsLeft (beside s o)
    beside_keeps s (Ok done) is = is
    beside_keeps s (Err n) is = tt

    to_keeps : (session : Session) (s : S) (mark : Option ℕ) (m : T) → MessageKeeps session s m → P s → KeepsLeft (answer_to outside session s mark m)
    to_keeps session s mark (Tversion tag msize version) leads is = version_keeps session s tag msize version is
    to_keeps session s mark (Tauth tag afid uname aname) leads is = tt
    to_keeps session s mark (Tattach tag fid afid uname aname) leads is = attach_keeps session s tag fid afid aname leads
    to_keeps session s mark (Tflush tag oldtag) leads is = is
    to_keeps session s mark (Twalk tag fid newfid names) leads is = beside_keeps s (walk_answer outside session s tag fid newfid names) is
    to_keeps session s mark (Topen tag fid mode) leads is = open_keeps session s tag fid mode is
    to_keeps session s mark (Tcreate tag fid name perm mode) leads is = beside_keeps s (denied session fid) is
    to_keeps session s mark (Tread tag fid offset count) leads is = read_keeps session s tag fid offset count is
    to_keeps session s mark (Twrite tag fid offset bytes) leads is = write_keeps session s tag fid offset bytes mark is
    to_keeps session s mark (Tclunk tag fid) leads is = clunk_keeps session s fid (Rclunk tag) is
    to_keeps session s mark (Tremove tag fid) leads is = clunk_keeps session s fid (refusal tag 38) is
    to_keeps session s mark (Tstat tag fid) leads is = beside_keeps s (stat_answer outside session s tag fid) is
    to_keeps session s mark (Twstat tag fid stat) leads is = beside_keeps s (denied session fid) is

    replied_keeps : (session : Session) (s : S) (tag : ℕ) (o : Outcome (Left S)) → P s → KeepsLeft o → P (replied session s tag o).rest
    replied_keeps session s tag (Ok l) is kept = kept
    replied_keeps session s tag (Err n) is kept = is

    -- the same of what bytes spell, where they are read
    abbrev pub MessageKeepsIf : Session → S → Option T → Type 0
    MessageKeepsIf session s None = Unit {0}
    MessageKeepsIf session s (Some m) = (not (is_version m) && (tag_of_t m == no_tag)) ≡ false → (not (is_version m) && not session.agreed) ≡ false → MessageKeeps session s m

    or_keeps : (session : Session) (s : S) (mark : Option ℕ) (m : Option T) → MessageKeepsIf session s m → P s → KeepsLeft (read_or_not outside session s mark m)
    unfolding answer_read
    or_keeps session s mark None leads is = tt
    or_keeps session s mark (Some m) leads is =
        after_step (λ l. P l.rest) (refuse_if (not (is_version m) && (tag_of_t m == no_tag)) 30) _ (λ u tagged.
        after_step (λ l. P l.rest) (refuse_if (not (is_version m) && not session.agreed) 31) _ (λ v agreed.
        to_keeps session s mark m (leads (not_refused (not (is_version m) && (tag_of_t m == no_tag)) 30 u tagged) (not_refused (not (is_version m) && not session.agreed) 31 v agreed)) is))

    -- Each message of a session.
    pub answer_keeps : (session : Session) (s : S) (bytes : List ℕ) (mark : Option ℕ) → (taking session bytes ≡ Reads → MessageKeepsIf session s (message_of bytes)) → P s → P (answer outside session s bytes mark).rest
    unfolding answer
    answer_keeps session s bytes mark leads is = by (taking session bytes) leads
      where
        by : (how : Taking) → (how ≡ Reads → MessageKeepsIf session s (message_of bytes)) → P (taken outside session s bytes mark how).rest
        by Ignored leads = is
        by TooLong leads = is
        by Closes leads = cleared_keeps session s is
        by Reads leads = replied_keeps session s (tag_of bytes) (read_or_not outside session s mark (message_of bytes)) is (or_keeps session s mark (message_of bytes) (leads refl) is)

    -- where each attach keeps it
    module _ (attaches : (s : S) (asked : Attach) → P s → IfOk (outside.attached s asked) (λ root. P root.0)) where
      attached_keeps : (s : S) (asked : Attach) (root : S × ℕ) → outside.attached s asked ≡ Ok root → P s → P root.0
      attached_keeps s asked root is kept = subst (λ (o : Outcome (S × ℕ)). IfOk o (λ root. P root.0)) is (attaches s asked kept)

      each_leads : (session : Session) (s : S) (m : Option T) → P s → MessageKeepsIf session s m
      each_leads session s None is = tt
      each_leads session s (Some (Tattach tag fid afid uname aname)) is = λ tagged agreed looked root at. attached_keeps s (attach_of aname) root at is
      each_leads session s (Some (Twalk tag fid newfid names)) is = λ tagged agreed. tt
      each_leads session s (Some (Topen tag fid mode)) is = λ tagged agreed. tt
      each_leads session s (Some (Twrite tag fid offset bytes)) is = λ tagged agreed. tt
      each_leads session s (Some (Tversion tag msize version)) is = λ tagged agreed. tt
      each_leads session s (Some (Tauth tag afid uname aname)) is = λ tagged agreed. tt
      each_leads session s (Some (Tflush tag oldtag)) is = λ tagged agreed. tt
      each_leads session s (Some (Tcreate tag fid name perm mode)) is = λ tagged agreed. tt
      each_leads session s (Some (Tread tag fid offset count)) is = λ tagged agreed. tt
      each_leads session s (Some (Tclunk tag fid)) is = λ tagged agreed. tt
      each_leads session s (Some (Tremove tag fid)) is = λ tagged agreed. tt
      each_leads session s (Some (Tstat tag fid)) is = λ tagged agreed. tt
      each_leads session s (Some (Twstat tag fid stat)) is = λ tagged agreed. tt

      pub each_answer_keeps : (session : Session) (s : S) (bytes : List ℕ) (mark : Option ℕ) → P s → P (answer outside session s bytes mark).rest
      each_answer_keeps session s bytes mark is = answer_keeps session s bytes mark (λ _. each_leads session s (message_of bytes) is) is

    -- ---- reads that waited

    abbrev IfLeft : Option (Left S) → Type 0
    IfLeft o = IfSome o (λ l. P l.rest)

    late_keeps : (session : Session) (s : S) (tag : ℕ) (wait : Wait) (fid : Outcome Fid) (later : Option (Left S)) → P s → IfLeft later → IfLeft (answered_or session s tag wait (given_or_refused outside s wait.count fid) later)
    late_keeps session s tag wait (Err n) later is more = is
    late_keeps session s tag wait (Ok fid) later is more = by (given_now outside s fid wait.count fid.node.kind) (now_keeps s fid wait.count fid.node.kind is)
      where
        by : (o : Option (Given S)) → IfGiven o → IfLeft (answered_or session s tag wait (option_map Ok o) later)
        by None given = more
        by (Some got) given = given

    first_keeps : (session : Session) (s : S) (before after : List (ℕ × Wait)) → P s → IfLeft (first_of outside session s before after)
    unfolding first_of wait_answer
    first_keeps session s before [] is = tt
    first_keeps session s before ((tag, wait) ∷ after) is =
        late_keeps (record session { waiting = before ++ after }) s tag wait (awaited outside session s wait) _ is (first_keeps session s (before ++ (tag, wait) ∷ []) after is)

    -- Each late answer.
    pub one_keeps : (session : Session) (s : S) (after : Left S) → P s → one_answered outside session s ≡ Some after → P after.rest
    one_keeps session s after is e = subst IfLeft e (first_keeps session s [] session.waiting is)
