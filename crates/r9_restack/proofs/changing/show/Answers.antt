use Rattle.std.proofs.Common.{◌∙◌, ℕ, ◌<◌, ◌^◌, Option, sym, subst, ap}
use Rattle.model_forest.specs.View.{inward}
use Rattle.model_kept.specs.Keeping.{own, Place}
use Rattle.r9_locate.specs.locate.Forms.{bits_in, Form, HasBits}
use Rattle.r9_locate.specs.locate.Table.{shape}
use Rattle.r9_locate.proofs.locate.Apart.{own-apart}
use Rattle.r9_restack.proofs.changing.show.Goals as goal

pub reveal-requires-clause-bits : goal.reveal-requires-clause-bits
reveal-requires-clause-bits g c = subst (HasBits (shape c.args.lists.now)) (sym c.save.ensures.forms) c.requires.bits

pub reveal-requires-clause-given : goal.reveal-requires-clause-given
reveal-requires-clause-given g c stands x = subst (λ (forms : ℕ → Option Form). g.S.Source.given c.args.source.now x < 2 ^ bits_in forms c.args.p) (sym c.save.ensures.forms) (c.requires.given stands x)

pub reveal-requires-clause-fill : goal.reveal-requires-clause-fill
reveal-requires-clause-fill g c z = subst (λ (forms : ℕ → Option Form). g.S.Source.fill c.args.source.now z < 2 ^ bits_in forms c.args.p) (sym c.save.ensures.forms) (c.requires.fill z)

pub returns-clause-shown : goal.returns-clause-shown
unfolding shape
returns-clause-shown g c =
    let w = shape c.args.lists.now in
    record {
      none = c.reveal.ensures.none;
      of_w = c.reveal.ensures.of_w;
      owned = λ v b_is apart z h.
          c.reveal.ensures.owned v b_is apart z h
          ∙ c.save.ensures.others (own v.image (inward w v z)) (λ u a_is other y lower same. c.requires.apart u v a_is b_is apart (sym (ap (λ (l : Place). l.image) same)));
      saved = λ v a_is apart z h.
          c.reveal.ensures.others (own v.image (inward w v z)) (λ y lower same. own-apart w c.args.lists.now.standing c.args.p v.image (inward w v z) y c.requires.live (c.requires.a_stands v a_is) same)
          ∙ c.save.ensures.saved v a_is apart z h;
      others = λ place apart own_apart. c.reveal.ensures.others place apart ∙ c.save.ensures.others place own_apart;
    }
