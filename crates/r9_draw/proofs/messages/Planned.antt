-- What a plan is for a message, letter by letter; `D`, `l` and `v` prove themselves.
use Rattle.std.proofs.Common.{◌≡◌, ◌≤◌, ℕ, true, false, List, length, drop, take, Result, Ok, Err, IfErr, refl, sym, ap, subst, arith}
use Rattle.std.specs.Prelude.{◌==◌, if◌then◌else◌, nat_lt, IsErrAnd, is_ok, is_some}
use Rattle.r9_geom.specs.declared.Point.{Point}
use Rattle.r9_geom.specs.declared.Rect.{Rect}
use Rattle.r9_chan.specs.Op.{number}
use Rattle.r9_chan.specs.declared.operator.Op.{Op}
use Rattle.r9_locate.specs.declared.info.ImageNo.{ImageNo}
use Rattle.model_draw_parts.specs.fonts.Font.{new_font}
use Rattle.model_forest.specs.Steps.{after_origin, after_set}
use Rattle.model_draw_parts.specs.images.Book.{screen_numbered}
use Rattle.model_draw_parts.specs.images.Release.{Freed, free_id, free_screen, nothing_freed}
use Rattle.model_draw.specs.cost.Cost.{coming, drawing_cost, going_all, message_cost, of_found, window_moved}
use Rattle.model_draw.specs.draw.Act.{act, behind}
use Rattle.model_draw.specs.draw.Drawing as drawing
use Rattle.model_draw.specs.draw.Drawing.{drawing_of, with_rows}
use Rattle.model_draw.specs.draw.Making as making
use Rattle.model_draw.specs.draw.Making.{flag}
use Rattle.model_draw.specs.draw.Memory.{takes_no_memory}
use Rattle.model_draw.specs.draw.Moving.{look_window, move_window}
use Rattle.model_draw.specs.draw.World.{World, client_of, look, with_images}
use Rattle.model_draw.specs.draw.Writing.{make_font, with_font}
use Rattle.r9_dmsg.specs.declared.message.Dmsg.{Dmsg}
use Rattle.r9_dmsg.specs.declared.message.Dmsg.TheVariants as d
use Rattle.r9_dmsg.specs.View.{message_of}
use Rattle.r9_draw.specs.messages.Costs.{making_cost, plan_cost}
use Rattle.r9_draw.specs.messages.Plans.{CanDraw, CanMake, CanMove, CanScreen, CanSet, CanWrite, IsPart, IsReady, after, after_free, after_free_screen, after_make, after_make_screen, after_read, after_share, after_task, drawing_by, is_spare, rows_behind}
use Rattle.r9_draw.specs.declared.messages.plan.Making.{Making}
use Rattle.r9_draw.specs.declared.messages.plan.Screening.{Screening}
use Rattle.r9_draw.specs.declared.messages.plan.Task.{Task}
use Rattle.r9_draw.specs.declared.messages.plan.Plan.{Plan}
use Rattle.r9_draw.specs.declared.messages.plan.Plan.TheVariants as p
use Rattle.r9_draw.proofs.messages.Costs.{found-cost}

-- a plan is what the message asks for, where these bytes stand behind it
pub record Planned (k : ℕ) (w : World) (rest : List ℕ) (m : Dmsg) (plan : Plan) : Type 0 where
  pub acts : act k w (message_of m) rest ≡ Ok (after k w plan rest)
  pub left : behind k w (message_of m) rest ≡ drop (rows_behind plan) rest
  pub within : rows_behind plan ≤ length rest
  pub ready : IsReady k w plan rest
  pub spare : takes_no_memory k w (message_of m) ≡ is_spare w plan
  pub cost : plan_cost k w plan ≡ message_cost k w (message_of m)

-- it is refused for this
abbrev pub Refused : ℕ → World → List ℕ → Dmsg → ℕ → Type 0
Refused k w rest m n = act k w (message_of m) rest ≡ Err n

pub planned-at : (k : ℕ) (w : World) (rest : List ℕ) (m at : Dmsg) (plan : Plan) → m ≡ at → Planned k w rest at plan → Planned k w rest m plan
planned-at k w rest m at plan is h = subst (λ (m : Dmsg). Planned k w rest m plan) (sym is) h

-- what `?` hands on of a refusal
pub handed : {A : Type 0} (Q : ℕ → Type 0) (r : Result A ℕ) (n : ℕ) → IsErrAnd r (λ e. e ≡ n) → Q n → IfErr r Q
handed Q (Ok a) n h q = absurd h
handed Q (Err e) n h q = subst Q (sym h) q

pub refused-at : (k : ℕ) (w : World) (rest : List ℕ) (m at : Dmsg) (n : ℕ) → m ≡ at → Refused k w rest at n → Refused k w rest m n
refused-at k w rest m at n is h = subst (λ (m : Dmsg). Refused k w rest m n) (sym is) h

-- ---- letter by letter

pub b-planned : (k : ℕ) (w : World) (rest : List ℕ) (id screenid refresh chan repl : ℕ) (r clipr : Rect) (color : ℕ) (m : Making)
    → making.allocate k w id screenid refresh chan (flag repl) r clipr color ≡ Ok (after_make k w m)
    → CanMake k w m
    → making_cost m ≡ (if screenid == 0 then 0 else coming r)
    → Planned k w rest (d.LowB id screenid refresh chan repl r clipr color) (p.Make m)
unfolding act behind message_cost
b-planned k w rest id screenid refresh chan repl r clipr color m made ready cost = record {
  acts = made;
  left = refl;
  within = omega arith;
  ready = ready;
  spare = refl;
  cost = cost;
}

pub A-planned : (k : ℕ) (w : World) (rest : List ℕ) (id imageid fillid open_to_all : ℕ) (s : Screening)
    → making.make_screen k w id imageid fillid (flag open_to_all) ≡ Ok (after_make_screen k w s)
    → CanScreen w s
    → Planned k w rest (d.UpA id imageid fillid open_to_all) (p.MakeScreen s)
unfolding act behind message_cost
A-planned k w rest id imageid fillid open_to_all s made ready = record {
  acts = made;
  left = refl;
  within = omega arith;
  ready = ready;
  spare = refl;
  cost = refl;
}

pub c-planned : (k : ℕ) (w : World) (rest : List ℕ) (dstid repl : ℕ) (clipr : Rect) (i : ImageNo)
    → making.set_clip k w dstid (flag repl) clipr ≡ Ok (with_images w (after_set w.images i.0 (flag repl) clipr))
    → CanSet w i.0 (flag repl) clipr
    → Planned k w rest (d.LowC dstid repl clipr) (p.SetClip i (flag repl) clipr)
unfolding act behind message_cost
c-planned k w rest dstid repl clipr i made ready = record {
  acts = made;
  left = refl;
  within = omega arith;
  ready = ready;
  spare = refl;
  cost = refl;
}

pub d-planned : (k : ℕ) (w : World) (rest : List ℕ) (dstid srcid maskid : ℕ) (dstr : Rect) (srcp maskp : Point) (t : Task)
    → drawing.draw k w dstid srcid maskid dstr srcp maskp ≡ Ok (after_task k w t)
    → CanDraw w t
    → drawing_of k w dstid srcid maskid dstr srcp maskp ≡ Ok (drawing_by (client_of w k).op t)
    → look w k dstid ≡ Ok t.dst.0
    → t.r ≡ dstr
    → Planned k w rest (d.LowD dstid srcid maskid dstr srcp maskp) (p.Draw t)
unfolding act behind message_cost
d-planned k w rest dstid srcid maskid dstr srcp maskp t made ready told target rect = record {
  acts = made;
  left = refl;
  within = omega arith;
  ready = ready;
  spare = rw target (rw rect refl);
  cost = rw told refl;
}

pub f-planned : (k : ℕ) (w : World) (rest : List ℕ) (id : ℕ)
    → making.free_image k w id ≡ Ok (after_free k w id)
    → is_ok (free_id w.book k id) ≡ true
    → Planned k w rest (d.LowF id) (p.Free id)
unfolding act behind message_cost
f-planned k w rest id made ready = record {
  acts = made;
  left = refl;
  within = omega arith;
  ready = ready;
  spare = refl;
  cost = sym (found-cost (λ (freed : Freed). going_all w.images freed.gone) (free_id w.book k id) (nothing_freed w.book) ready);
}

pub F-planned : (k : ℕ) (w : World) (rest : List ℕ) (id : ℕ)
    → making.free_screen_id k w id ≡ Ok (after_free_screen k w id)
    → is_ok (free_screen w.book k id) ≡ true
    → Planned k w rest (d.UpF id) (p.FreeScreen id)
unfolding act behind message_cost
F-planned k w rest id made ready = record {
  acts = made;
  left = refl;
  within = omega arith;
  ready = ready;
  spare = refl;
  cost = sym (found-cost (λ (freed : Freed). going_all w.images freed.gone) (free_screen w.book k id) (nothing_freed w.book) ready);
}

pub i-planned : (k : ℕ) (w : World) (rest : List ℕ) (id n ascent : ℕ)
    → make_font k w id n ascent ≡ Ok (with_font w k id (new_font n ascent))
    → Planned k w rest (d.LowI id n ascent) (p.MakeFont id n ascent)
unfolding act behind message_cost
i-planned k w rest id n ascent made = record {
  acts = made;
  left = refl;
  within = omega arith;
  ready = tt;
  spare = refl;
  cost = refl;
}

pub o-planned : (k : ℕ) (w : World) (rest : List ℕ) (id : ℕ) (rmin scr : Point) (i : ImageNo)
    → move_window k w id rmin scr ≡ Ok (with_images w (after_origin w.images i.0 rmin scr))
    → look_window w k id ≡ Ok i.0
    → CanMove w i.0 rmin scr
    → Planned k w rest (d.LowO id rmin scr) (p.Move i rmin scr)
unfolding act behind message_cost
o-planned k w rest id rmin scr i made found ready = record {
  acts = made;
  left = refl;
  within = omega arith;
  ready = ready;
  spare = refl;
  cost = sym (ap (of_found (window_moved w)) found);
}

pub O-planned : (k : ℕ) (w : World) (rest : List ℕ) (byte : ℕ) (op : Op)
    → number op ≡ byte
    → nat_lt 11 byte ≡ false
    → Planned k w rest (d.UpO byte) (p.SetOperator op)
unfolding act behind message_cost drawing.set_operator
O-planned k w rest byte op is low = record {
  acts = rw is (rw low refl);
  left = refl;
  within = omega arith;
  ready = tt;
  spare = refl;
  cost = refl;
}

pub O-refused : (k : ℕ) (w : World) (rest : List ℕ) (byte : ℕ) → nat_lt 11 byte ≡ true → Refused k w rest (d.UpO byte) 21
unfolding act drawing.set_operator
O-refused k w rest byte high = rw high refl

pub r-planned : (k : ℕ) (w : World) (rest : List ℕ) (id : ℕ) (r : Rect) (i : ImageNo)
    → drawing.read_pixels k w id r ≡ Ok (after_read k w i.0 r)
    → IsPart w i.0 r
    → Planned k w rest (d.LowR id r) (p.Read i r)
unfolding act behind message_cost
r-planned k w rest id r i made ready = record {
  acts = made;
  left = refl;
  within = omega arith;
  ready = ready;
  spare = refl;
  cost = refl;
}

pub S-planned : (k : ℕ) (w : World) (rest : List ℕ) (id chan screen : ℕ)
    → making.share_screen k w id chan ≡ Ok (after_share k w id screen)
    → is_some (screen_numbered w.book screen) ≡ true
    → Planned k w rest (d.UpS id chan) (p.ShareScreen id screen)
unfolding act behind message_cost
S-planned k w rest id chan screen made ready = record {
  acts = made;
  left = refl;
  within = omega arith;
  ready = ready;
  spare = refl;
  cost = refl;
}

pub y-planned : (k : ℕ) (w : World) (rest : List ℕ) (id : ℕ) (r : Rect) (i : ImageNo) (len : ℕ)
    → drawing.write_pixels k w id r rest ≡ Ok (with_rows w i.0 r (take len rest))
    → look w k id ≡ Ok i.0
    → CanWrite w i.0 r len rest
    → Planned k w rest (d.LowY id r) (p.Write i r len)
unfolding act behind message_cost
y-planned k w rest id r i len made found ready = record {
  acts = made;
  left = rw found (ap (λ (n : ℕ). drop n rest) (sym ready.whole));
  within = ready.enough;
  ready = ready;
  spare = refl;
  cost = refl;
}
