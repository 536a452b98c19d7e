use Rattle.std.proofs.Common.{◌≡◌, ◌∙◌, ◌+◌, ◌-◌, ◌*◌, ◌++◌, length, take, drop, ap, sym, arith}
use Rattle.std.proofs.lemmas.List.{length-append, length-drop, length-take, with_items_is}
use Rattle.std.proofs.lemmas.Result.{IfOk-weaker}
use Rattle.model_pixel.specs.Channels.{depth}
use Rattle.model_pixel.specs.Rows.{row_bytes, rows_of}
use Rattle.r9_plane.specs.Pixels.{pixel_at}
use Rattle.r9_plane.proofs.Reading.{behind_put}
use Rattle.r9_plane.proofs.plane.Plane.with_rows.Goals as goal

pub with_whole-requires-clause-some : goal.with_whole-requires-clause-some
with_whole-requires-clause-some c = sym c.is_empty.ensures.exact ∙ c.if-not-is_empty.true

pub returns-then-not-is_empty : goal.returns-then-not-is_empty
returns-then-not-is_empty c =
    let plane = c.args.self.now in
    IfOk-weaker c.with_whole.result _ _
    (λ all is. is ∙ ap (λ xs. xs ++ rows_of c.args.r (depth plane.chan) (pixel_at plane)) c.in_ok-reserve.ensures.items)
    c.with_whole.ensures

pub overflow_add-len : goal.overflow_add-len
overflow_add-len c = omega (arith, c.len-len.ensures, c.in_ok-reserve.ensures.ok, c.reserve.new.self.small)

pub unload-requires-clause-rows : goal.unload-requires-clause-rows
unload-requires-clause-rows c =
    let items = c.deref_mut.result.now in
    let len = c.len-len.result in
    let size : length (take (length items - len) (drop len items)) ≡ c.row_bytes.result * c.height.result =
    omega (arith, length-take (length items - len) (drop len items), length-drop len items, c.deref_mut.ensures.len, c.in_ok-resize.ensures.len, c.in-Some.ensures) in
    size ∙ (λ t. (c.row_bytes.ensures.value ∙ ap (row_bytes c.args.r) c.args.self.now.depth_is) t * c.height.ensures t)

pub returns : goal.returns
returns c =
    let front = c.args.front in
    let items = c.deref_mut.result.now in
    let len = c.len-len.result in
    let rows = c.unload.new.rows in
    let long : length front.items ≡ len = omega (arith, front.ok.0, c.in_ok-reserve.ensures.len, c.len-len.ensures) in
    let put =
    behind_put front.items c.reserve.new.self.items items rows _ len (len + c.in-Some.size) (length items - len)
    c.in_ok-reserve.ensures.items long (omega arith) (c.deref_mut.ensures.value ∙ c.in_ok-resize.ensures.items) (omega arith) in
    let size : length rows ≡ length items - len =
    omega (arith, c.unload.auto.rows, length-take (length items - len) (drop len items), length-drop len items) in
    with_items_is c.resize.new.self _
    (omega (arith, ap length put, length-append front.items rows, long, size, c.deref_mut.ensures.len, c.in_ok-resize.ensures.len))
    ∙ put
    ∙ ap (λ xs. front.items ++ xs) c.unload.ensures
