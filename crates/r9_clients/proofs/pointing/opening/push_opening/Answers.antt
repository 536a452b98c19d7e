use Rattle.std.proofs.Common.{◌++◌, ◌∷◌, [], ◌∙◌, ◌≤◌, ℕ, List, codes, length, refl, arith, sym, subst}
use Rattle.model_files.specs.wire.Message.{Tattach, Twrite, no_fid}
use Rattle.model_clients.specs.client.Files.{to_data, to_new}
use Rattle.model_clients.specs.client.Saying.{hello}
use Rattle.law_text.specs.client.Saying.{greeted}
use Rattle.law_text.proofs.client.May.{may_attach_device}
use Rattle.model_clients.specs.bands.Bands.{inks}
use Rattle.model_clients.specs.piloted.History.{opening}
use Rattle.r9_clients.specs.saying.Lines.{IsSaid, opens}
use Rattle.r9_clients.proofs.saying.Fits.{attach_said}
use Rattle.r9_clients.proofs.saying.Said.{on_ok_then, said_more, said_write_as}
use Rattle.r9_clients.proofs.pointing.Lengths.{inks_short}
use Rattle.r9_clients.proofs.pointing.opening.push_opening.Goals as goal

pub push_attach-requires : goal.push_attach-requires
push_attach-requires c = attach_said c.new.result [] c.new.ensures (may_attach_device greeted 0 refl (omega arith))

pub push_write-requires : goal.push_write-requires
push_write-requires c = subst (λ (bytes : List ℕ). length bytes ≤ 65537) (sym (c.as_slice.ensures ∙ c.in_ok-bytes.ensures)) inks_short

pub returns : goal.returns
returns c =
    let root = Tattach 1 0 no_fid [] [] in
    let rio = opens (codes "mousein" ∷ []) 1 1 ++ opens (codes "wctl" ∷ []) 2 1 in
    let connection = opens to_new 3 2 ++ opens to_data 4 2 in
    let made = Twrite 1 4 0 inks ∷ [] in
    let before = c.args.out.now in
    let greeted_ = c.push_hello.new.out in
    let attached = c.push_attach.new.out in
    let opened = c.push_rio.new.out in
    let connected = c.push_connection.new.out in
    let out = c.push_write.new.out in
    let bytes = c.as_slice.result.now in
    let roots = subst (λ (name : List ℕ). IsSaid greeted_ attached (Tattach 1 0 no_fid [] name ∷ [])) c.new.ensures c.in_ok-push_attach.ensures in
    on_ok_then c.push_write.result (IsSaid connected out (Twrite 1 4 0 bytes ∷ [])) (IsSaid before out opening)
    (λ said.
    said_more (hello ∷ []) (root ∷ (rio ++ connection ++ made)) before greeted_ out c.in_ok-push_hello.ensures
    (said_more (root ∷ []) (rio ++ connection ++ made) greeted_ attached out roots
    (said_more rio (connection ++ made) attached opened out c.in_ok-push_rio.ensures
    (said_more connection made opened connected out c.in_ok-push_connection.ensures (said_write_as 4 bytes inks connected out (c.as_slice.ensures ∙ c.in_ok-bytes.ensures) said)))))
    c.push_write.ensures
