use Rattle.std.proofs.Common.{◌≡◌, ◌∙◌, ℕ, Option, Some, None, Ok, arith, ap, refl, subst, sym}
use Rattle.std.proofs.lemmas.Bool.{both_ways}
use Rattle.std.proofs.lemmas.Option.{same_Some}
use Rattle.std.specs.Result.{result_ok}
use Rattle.model_text.specs.text.Outcome.{Outcome}
use Rattle.std.specs.Option.{option_map}
use Rattle.r9_plane.specs.Pixels.{chan_of}
use Rattle.model_client.specs.mirror.Picture.{Picture}
use Rattle.model_client.specs.mirror.Frames.{viewed}
use Rattle.r9_mirror.specs.declared.lines.Size.{Size}
use Rattle.r9_mirror.specs.declared.place.Place.{Place}
use Rattle.r9_mirror.specs.Sizes.{size_of}
use Rattle.r9_mirror.specs.Left.{stepped, IsPlace, Keeps, Leaves}
use Rattle.r9_mirror.specs.Shown.{shown}
use Rattle.r9_mirror.proofs.Screens.{further_on, same_size, starts, told_on}
use Rattle.r9_mirror.proofs.viewer.put.Goals as goal

pub steps-init : goal.steps-init
steps-init g c =
    let chan = c.chan-chan.result in
    let text = c.args.text.now in
    record {
      place = subst (IsPlace text) (sym c.new-place.ensures) (record { within = omega arith; lawful = c.requires.size });
      rect = refl;
      channels = refl;
      left = λ before after same as_before fits. (
        before,
        subst (λ (place : Place). Leaves chan text place before (Ok after)) (sym c.new-place.ensures)
            (subst (λ (o : Outcome (Option Picture)). Leaves chan text (record { at = 0; left = 0; first = 0; size = c.args.size }) before o) fits (starts chan text c.args.size before same)),
        λ own. as_before (sym (ap (λ (place : Place). place.size) c.new-place.ensures) ∙ own),
      );
    }

pub show-requires-clause-keeps : goal.show-requires-clause-keeps
show-requires-clause-keeps g c =
    let chan = c.chan-chan.result in
    let text = c.args.text.now in
    let inv = c.steps.invariant in
    let plane = c.steps.plane in
    let step = c.in-Some.step in
    let further = further_on chan text c.steps.place c.step.result (c.in-Some.step, c.in-Some.next) c.step.ensures.further (sym c.unwrap_or.ensures ∙ c.in-Some.is) in
    let own : Some c.size_of.result ≡ Some (size_of (shown plane)) = ap (λ (size : Size). Some size) (c.size_of.ensures ∙ sym (same_size plane c.args.plane.now inv.rect)) in (
      c.steps.place.size,
      subst (λ (n : ℕ). Keeps n c.steps.place.size (Some (size_of (shown plane))) step) (c.chan-chan.ensures ∙ sym inv.channels)
          (subst (λ (size : Option Size). Keeps chan c.steps.place.size size step) (c.is_same.ensures.0 c.if-is_same.true ∙ own) further.keeps),
    )

pub steps-preserved-then-is_same : goal.steps-preserved-then-is_same
steps-preserved-then-is_same g c =
    let chan = c.chan-chan.result in
    let text = c.args.text.now in
    let inv = c.steps.invariant in
    let plane = c.steps.plane in
    let step = c.in-Some.step in
    let further = further_on chan text c.steps.place c.step.result (c.in-Some.step, c.in-Some.next) c.step.ensures.further (sym c.unwrap_or.ensures ∙ c.in-Some.is) in
    let own : Some c.size_of.result ≡ Some (size_of (shown plane)) = ap (λ (size : Size). Some size) (c.size_of.ensures ∙ sym (same_size plane c.args.plane.now inv.rect)) in
    let channels : chan ≡ chan_of plane = c.chan-chan.ensures ∙ sym inv.channels in
    let keeps : Keeps (chan_of plane) c.steps.place.size (Some (size_of (shown plane))) step =
    subst (λ (n : ℕ). Keeps n c.steps.place.size (Some (size_of (shown plane))) step) channels
    (subst (λ (size : Option Size). Keeps chan c.steps.place.size size step) (c.is_same.ensures.0 c.if-is_same.true ∙ own) further.keeps) in
    record {
      place = further.stands;
      rect = c.show.ensures.rect ∙ inv.rect;
      channels = c.show.ensures.chan ∙ inv.channels;
      left = λ before after same as_before fits.
          let was = inv.left before after same as_before fits in (
            stepped chan step was.0,
            told_on chan text was.0 after c.step.result (Some (c.in-Some.step, c.in-Some.next)) (c.step.ensures.tells was.0 (Ok after) was.1) (sym c.unwrap_or.ensures ∙ c.in-Some.is),
            λ _. ap (λ (n : ℕ). stepped n step was.0) channels ∙ c.show.ensures.shown c.steps.place.size was.0 keeps (λ e. was.2 (e ∙ sym own)),
          );
    }

pub steps-preserved : goal.steps-preserved
steps-preserved g c =
    let chan = c.chan-chan.result in
    let text = c.args.text.now in
    let inv = c.steps.invariant in
    let further = further_on chan text c.steps.place c.step.result (c.in-Some.step, c.in-Some.next) c.step.ensures.further (sym c.unwrap_or.ensures ∙ c.in-Some.is) in
    record {
      place = further.stands;
      rect = inv.rect;
      channels = inv.channels;
      left = λ before after same as_before fits.
          let was = inv.left before after same as_before fits in (
            stepped chan c.in-Some.step was.0,
            told_on chan text was.0 after c.step.result (Some (c.in-Some.step, c.in-Some.next)) (c.step.ensures.tells was.0 (Ok after) was.1) (sym c.unwrap_or.ensures ∙ c.in-Some.is),
            λ e. absurd (both_ways c.is_same.result c.if-is_same.false (c.is_same.ensures.1 e)),
          );
    }

pub returns-clause-shown : goal.returns-clause-shown
returns-clause-shown g c = λ before after same as_before fits sized.
    let chan = c.chan-chan.result in
    let text = c.args.text.now in
    let own = λ (e : c.args.size ≡ Some c.size_of.result). as_before (e ∙ ap (λ (size : Size). Some size) c.size_of.ensures) in
    let was = c.steps.invariant.left before after same own (ap (λ (n : ℕ). viewed n before text) c.chan-chan.ensures ∙ fits) in
    let end : Ok after ≡ Ok was.0 = told_on chan text was.0 after c.step.result None (c.step.ensures.tells was.0 (Ok after) was.1) (sym c.unwrap_or.ensures ∙ c.in_default.is) in
    let last : after ≡ was.0 = same_Some after was.0 (ap result_ok end) in
    last ∙ was.2 (sym was.1.size ∙ ap (option_map size_of) (sym last) ∙ sized ∙ ap (λ (size : Size). Some size) (sym c.size_of.ensures))
