-- A recorder of which nothing was put.
use Rattle.std.proofs.Common.{◌≡◌, ◌-◌, ℕ, false, List, [], drop, Option, refl, sym, ap, subst, inr, ◌∙◌, arith}
use Rattle.std.specs.Prelude.{min, ◌^◌}
use Rattle.r9_event.specs.declared.event.event.Entry.{Entry}
use Rattle.r9_outside.proofs.outside.Appended.{nothing_put}
use Rattle.r9_service.specs.recorder.Lines.{size_of}
use Rattle.r9_service.specs.recorder.Recording.{Records, IsPut}
use Rattle.r9_service.specs.declared.recorder.recorder.Recorder.{Recorder}

none_put : (held : Option (List ℕ)) → IsPut held 0 0 [] held
none_put held = record { reached = omega arith; within = omega arith; put = nothing_put held }

pub fresh_records : {H O : Type 0} (first : H → ℕ) (stands : H → List Entry → Type 0) (held : O → Option (List ℕ)) (faults : O → ℕ) (r : Recorder H O)
    → stands r.hall [] → first r.hall ≡ 1 → r.next ≡ 0 → r.part ≡ 0 → r.size ≡ 0 → r.failed ≡ false
    → Records first stands held faults (record { name = r.out.ghost_name; held = held r.out.now; faults = faults r.out.now }) r []
fresh_records first stands held faults r stood one next part size failed = record {
  named = refl;
  stood = stood;
  put = subst (λ (n : ℕ). IsPut (held r.out.now) n r.part [] (held r.out.now)) (sym next) (subst (λ (p : ℕ). IsPut (held r.out.now) 0 p [] (held r.out.now)) (sym part) (none_put (held r.out.now)));
  stored = inr one;
  size = size ∙ ap (λ (n : ℕ). min (size_of (drop (n - 1) [])) (2 ^ 64 - 1)) (sym one);
  counted = omega arith;
  failed = λ was. absurd cc;
}
