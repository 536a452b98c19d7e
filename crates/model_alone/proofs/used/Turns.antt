-- What is seen of a message in turn is what it used.
use Rattle.std.proofs.Common.{◌≡◌, ℕ, Bool, true, false, not, ◌&&◌, ◌||◌, ◌==◌, List, [], ◌∷◌, ◌++◌, flat_map, Option, Some, None, Ok, Err, is_some, nat_le, IfOk, unwrap_or, if◌then◌else◌, refl, sym, ap, ◌∙◌, append-nil}
use Rattle.std.specs.Option.{option_map_or}
use Rattle.r9_event.specs.declared.event.own.Use.{Use}
use Rattle.model_text.specs.text.Map.{lookup}
use Rattle.model_text.specs.text.Outcome.{Outcome, ◌>>=◌, refuse_if}
use Rattle.model_files.specs.wire.Message.{T, Tattach, Twalk, Topen, Tread, Twrite, R, no_fid, no_tag, tag_of_t}
use Rattle.model_files.specs.wire.Reading.{message_of, tag_of}
use Rattle.model_rio.specs.rio.Table.{Table}
use Rattle.model_files.specs.declared.tree.Kind.{Kind}
use Rattle.model_files.specs.declared.tree.Kind.TheVariants.{New}
use Rattle.model_files.specs.declared.tree.Kind.TheVariants as kind
use Rattle.model_files.specs.tree.Attach.{attach_of}
use Rattle.model_files.specs.tree.Node.{Node, may}
use Rattle.model_files.specs.tree.Tree.{check_live}
use Rattle.model_world.specs.Session.{Fid, Session}
use Rattle.model_world.specs.Fids.{Done, Left, beside, fid_of, is_bound, is_full, is_kind}
use Rattle.model_world.specs.Walking.{is_taken, most_made, open_answer, walk_answer, walk_ended, walked}
use Rattle.model_world.specs.Answer.{Taking, Reads, answer, answer_read, read_or_not, replied, taken, taking}
use Rattle.model_world.specs.Desktop.{Desktop}
use Rattle.model_world.specs.Whole.{desktop_for}
use Rattle.model_world.specs.World.{World}
use Rattle.model_world.proofs.Others.{after_step}
use Rattle.model_alone.specs.alone.Uses.{attach_used, bytes_used, file_used, if_bound, if_done, is_fresh, is_name_looked_at, message_used, open_used, reached_file, read_used, session_used, step_used, window_at, write_used}
use Rattle.model_alone.specs.used.Look.{Look, Uses, Attaches, is_refusal, look_at, look_at_file, look_at_message, look_at_read, look_at_taken, look_at_write, used_last, used_then, window_after}

-- ---- walks and opens, whose replies tell whether they are refused

abbrev IsPlain : Outcome (Left Desktop) → Type 0
IsPlain o = IfOk o (λ after. is_refusal after.reply ≡ false)

walk_plain : (session : Session) (desktop : Desktop) (tag fid newfid : ℕ) (node : Node) (nodes : List Node) (o : Option ℕ) → IsPlain (beside desktop (walk_ended session tag fid newfid node (nodes, o)))
walk_plain session desktop tag fid newfid node nodes None = refl
walk_plain session desktop tag fid newfid node [] (Some n) = tt
walk_plain session desktop tag fid newfid node (next ∷ nodes) (Some n) = refl

beside_step : {A : Type 0} (desktop : Desktop) (o : Outcome A) (next : A → Outcome Done) → ((x : A) → IsPlain (beside desktop (next x))) → IsPlain (beside desktop (o >>= next))
beside_step desktop (Ok x) next plain = plain x
beside_step desktop (Err n) next plain = tt

walks_plain : (c : ℕ) (session : Session) (desktop : Desktop) (tag fid newfid : ℕ) (names : List (List ℕ)) → IsPlain (beside desktop (walk_answer (desktop_for c) session desktop tag fid newfid names))
unfolding walk_answer
walks_plain c session desktop tag fid newfid names =
    beside_step desktop (fid_of session fid) _ (λ from.
    beside_step desktop (refuse_if (is_some from.mode) 36) _ (λ _.
    beside_step desktop (refuse_if (not (newfid == fid) && is_bound session newfid) 33) _ (λ _.
    beside_step desktop (refuse_if (not (newfid == fid) && is_full session) 44) _ (λ _.
    walk_plain session desktop tag fid newfid from.node (walked ((desktop_for c).view desktop session.connections) from.node names).0 (walked ((desktop_for c).view desktop session.connections) from.node names).1))))

either_plain : (b : Bool) (x y : Left Desktop) → is_refusal x.reply ≡ false → is_refusal y.reply ≡ false → (let z : Left Desktop = if b then x else y in is_refusal z.reply) ≡ false
either_plain true x y h k = h
either_plain false x y h k = k

opens_plain : (c : ℕ) (session : Session) (desktop : Desktop) (tag number mode : ℕ) → IsPlain (open_answer (desktop_for c) session desktop tag number mode)
unfolding open_answer
opens_plain c session desktop tag number mode =
    after_step _ (fid_of session number) _ (λ fid _.
    after_step _ (refuse_if (is_some fid.mode) 36) _ (λ _ _.
    after_step _ (check_live ((desktop_for c).view desktop session.connections fid.node) fid.node) _ (λ _ _.
    after_step _ (refuse_if (not (may fid.node mode)) 38) _ (λ _ _.
    after_step _ (refuse_if (is_taken (desktop_for c) session desktop fid.node) 43) _ (λ _ _.
    after_step _ (refuse_if (is_kind New fid.node.kind && nat_le most_made session.made) 44) _ (λ _ _. either_plain (is_kind New fid.node.kind) _ _ refl refl))))))

done_seen : (session : Session) (desktop : Desktop) (tag : ℕ) (o : Outcome (Left Desktop)) (used : List Use) → IsPlain o → if_done o used ≡ (if is_refusal (replied session desktop tag o).reply then [] else used)
done_seen session desktop tag (Ok after) used plain = sym (ap (λ (b : Bool). if b then [] else used) plain)
done_seen session desktop tag (Err n) used plain = refl

done_beside : (desktop : Desktop) (o : Outcome Done) (used : List Use) → if_done o used ≡ if_done (beside desktop o) used
done_beside desktop (Ok d) used = refl
done_beside desktop (Err n) used = refl

-- a message that has a tag, in a session that has agreed on a version
tells_walk : (c : ℕ) (session : Session) (desktop : Desktop) (mark : Option ℕ) (tag fid newfid : ℕ) (names : List (List ℕ)) → session.agreed ≡ true → (tag == no_tag) ≡ false
    → answer_read (desktop_for c) session desktop mark (Twalk tag fid newfid names) ≡ beside desktop (walk_answer (desktop_for c) session desktop tag fid newfid names)
unfolding answer_read
tells_walk c session desktop mark tag fid newfid names agreed tagged =
    let last = beside desktop (walk_answer (desktop_for c) session desktop tag fid newfid names) in
    ap (λ (b : Bool). refuse_if b 30 >>= λ _. refuse_if (not session.agreed) 31 >>= λ _. last) tagged ∙ ap (λ (b : Bool). refuse_if (not b) 31 >>= λ _. last) agreed

tells_open : (c : ℕ) (session : Session) (desktop : Desktop) (mark : Option ℕ) (tag fid mode : ℕ) → session.agreed ≡ true → (tag == no_tag) ≡ false
    → answer_read (desktop_for c) session desktop mark (Topen tag fid mode) ≡ open_answer (desktop_for c) session desktop tag fid mode
unfolding answer_read
tells_open c session desktop mark tag fid mode agreed tagged =
    let last = open_answer (desktop_for c) session desktop tag fid mode in
    ap (λ (b : Bool). refuse_if b 30 >>= λ _. refuse_if (not session.agreed) 31 >>= λ _. last) tagged ∙ ap (λ (b : Bool). refuse_if (not b) 31 >>= λ _. last) agreed

-- ---- attaches, whose fids are not bound before

unbound : (session : Session) (fid afid : ℕ) → is_name_looked_at session fid afid ≡ true → window_at session fid ≡ None
unbound session fid afid looked = by (afid == no_fid) (fid == no_fid) (lookup session.fids fid) looked
  where
    by : (free none : Bool) (o : Option Fid) → (free && not (none || is_some o) && not (is_full session)) ≡ true → option_map_or (λ (f : Fid). if f.node.root == 0 then None else Some f.node.root) o None ≡ None
    by free none None looked = refl
    by false none (Some fid) looked = absurd (cc looked)
    by true true (Some fid) looked = absurd (cc looked)
    by true false (Some fid) looked = absurd (cc looked)

attach_seen : (c : ℕ) (session : Session) (desktop : Desktop) (after : Option Session) (table : Table) (mark : Option ℕ) (reply : Option R) (tag fid afid : ℕ) (uname aname : List ℕ)
    → message_used c session desktop (unwrap_or after session) table mark (Tattach tag fid afid uname aname)
    ≡ used_then c desktop mark reply (look_at_message c session desktop (Tattach tag fid afid uname aname)) ++ used_last after table (look_at_message c session desktop (Tattach tag fid afid uname aname))
attach_seen c session desktop after table mark reply tag fid afid uname aname = by (is_name_looked_at session fid afid) refl
  where
    at : (o : Option Session) → window_at session fid ≡ None → window_at (unwrap_or o session) fid ≡ window_after o fid
    at None none = none
    at (Some s) none = refl

    look : Bool → Look
    look b = if b then Attaches fid (is_fresh (attach_of aname)) else Uses []

    by : (b : Bool) → is_name_looked_at session fid afid ≡ b → (if b then attach_used table aname (window_at (unwrap_or after session) fid) ∷ [] else []) ≡ used_then c desktop mark reply (look b) ++ used_last after table (look b)
    by true looked = ap (λ window. attach_used table aname window ∷ []) (at after (unbound session fid afid looked))
    by false looked = refl

-- ---- writes

file_seen : (c : ℕ) (desktop : Desktop) (after : Option Session) (table : Table) (mark : Option ℕ) (reply : Option R) (node : Node) (bytes : List ℕ) (k : Kind)
    → file_used c desktop node bytes mark k ≡ used_then c desktop mark reply (look_at_file node bytes k) ++ used_last after table (look_at_file node bytes k)
file_seen c desktop after table mark reply node bytes kind.Data = sym (append-nil _)
file_seen c desktop after table mark reply node bytes kind.Ctl = sym (append-nil _)
file_seen c desktop after table mark reply node bytes kind.Wctl = sym (append-nil _)
file_seen c desktop after table mark reply node bytes _ = refl

write_seen : (c : ℕ) (desktop : Desktop) (after : Option Session) (table : Table) (mark : Option ℕ) (reply : Option R) (bytes : List ℕ) (o : Outcome Node)
    → write_used c desktop bytes mark o ≡ used_then c desktop mark reply (look_at_write bytes o) ++ used_last after table (look_at_write bytes o)
write_seen c desktop after table mark reply bytes (Ok node) = file_seen c desktop after table mark reply node bytes node.kind
write_seen c desktop after table mark reply bytes (Err n) = refl

-- ---- messages

-- what is seen of a look is what was used
abbrev IsSeen : (c : ℕ) → Desktop → (after : Option Session) → Table → (mark : Option ℕ) → (reply : Option R) → Look → List Use → Type 0
IsSeen c desktop after table mark reply look used = used ≡ used_then c desktop mark reply look ++ used_last after table look

message_seen : (c : ℕ) (session : Session) (desktop : Desktop) (after : Option Session) (table : Table) (mark : Option ℕ) (tag : ℕ) (m : T) → session.agreed ≡ true → (tag_of_t m == no_tag) ≡ false
    → IsSeen c desktop after table mark (replied session desktop tag (answer_read (desktop_for c) session desktop mark m)).reply (look_at_message c session desktop m)
    (message_used c session desktop (unwrap_or after session) table mark m)
message_seen c session desktop after table mark at (Tattach tag fid afid uname aname) agreed tagged = attach_seen c session desktop after table mark _ tag fid afid uname aname
message_seen c session desktop after table mark at (Twalk tag fid newfid names) agreed tagged =
    let used = if_bound session fid (λ from. flat_map step_used (walked ((desktop_for c).view desktop session.connections) from.node names).0) in
    let o = beside desktop (walk_answer (desktop_for c) session desktop tag fid newfid names) in
    done_beside desktop (walk_answer (desktop_for c) session desktop tag fid newfid names) used
    ∙ done_seen session desktop at o used (walks_plain c session desktop tag fid newfid names)
    ∙ ap (λ (o : Outcome (Left Desktop)). if is_refusal (replied session desktop at o).reply then [] else used) (sym (tells_walk c session desktop mark tag fid newfid names agreed tagged))
    ∙ sym (append-nil _)
message_seen c session desktop after table mark at (Topen tag fid mode) agreed tagged =
    let used = if_bound session fid (λ f. open_used f.node.kind) in
    done_seen session desktop at (open_answer (desktop_for c) session desktop tag fid mode) used (opens_plain c session desktop tag fid mode)
    ∙ ap (λ (o : Outcome (Left Desktop)). if is_refusal (replied session desktop at o).reply then [] else used) (sym (tells_open c session desktop mark tag fid mode agreed tagged))
    ∙ sym (append-nil _)
message_seen c session desktop after table mark at (Tread tag fid offset count) agreed tagged = sym (append-nil _)
message_seen c session desktop after table mark at (Twrite tag fid offset bytes) agreed tagged = write_seen c desktop after table mark _ bytes (reached_file c session desktop fid)
message_seen c session desktop after table mark at m agreed tagged = refl

read_seen : (c : ℕ) (session : Session) (desktop : Desktop) (after : Option Session) (table : Table) (mark : Option ℕ) (tag : ℕ) (o : Option T)
    → IsSeen c desktop after table mark (replied session desktop tag (read_or_not (desktop_for c) session desktop mark o)).reply (look_at_read c session desktop o)
    (read_used c session desktop (unwrap_or after session) table mark o)
read_seen c session desktop after table mark tag None = refl
read_seen c session desktop after table mark tag (Some m) = by session.agreed (tag_of_t m == no_tag) (message_seen c session desktop after table mark tag m)
  where
    reply : Option R
    reply = (replied session desktop tag (answer_read (desktop_for c) session desktop mark m)).reply

    by : (a b : Bool) → (a ≡ true → b ≡ false → IsSeen c desktop after table mark reply (look_at_message c session desktop m) (message_used c session desktop (unwrap_or after session) table mark m))
        → IsSeen c desktop after table mark reply (if a && not b then look_at_message c session desktop m else Uses []) (if a && not b then message_used c session desktop (unwrap_or after session) table mark m else [])
    by true false seen = seen refl refl
    by true true seen = refl
    by false b seen = refl

pub seen_in_turn : (c : ℕ) (world next : World) (bytes : List ℕ) (mark : Option ℕ) (session : Session)
    → session_used c world next bytes mark (Some session)
    ≡ used_then c world.desktop mark (answer (desktop_for c) session world.desktop bytes mark).reply (look_at c session world.desktop bytes)
    ++ used_last (lookup next.sessions c) next.desktop.table (look_at c session world.desktop bytes)
unfolding answer look_at
seen_in_turn c world next bytes mark session = by (taking session bytes)
  where
    by : (t : Taking)
        → IsSeen c world.desktop (lookup next.sessions c) next.desktop.table mark (taken (desktop_for c) session world.desktop bytes mark t).reply (look_at_taken c session world.desktop bytes t)
        (bytes_used c session world.desktop (unwrap_or (lookup next.sessions c) session) next.desktop.table mark bytes t)
    by Reads = read_seen c session world.desktop (lookup next.sessions c) next.desktop.table mark (tag_of bytes) (message_of bytes)
    by _ = refl
