-- What a mirror has put out.
use Rattle.std.proofs.Common.{◌≡◌, ◌⊎◌, inl, inr, ℕ, List, Option, refl}
use Rattle.r9_event.specs.declared.event.event.Opening.{Opening}
use Rattle.r9_outside.specs.outside.Sink.{Appends}
use Rattle.r9_serve.specs.mirroring.Mirrored.{AreFrames, HasPutFirst}
use Rattle.r9_opts.specs.declared.job.Job.{Job}
use Rattle.r9_opts.specs.declared.job.Job.TheVariants.{Mirror}
use Rattle.r9_serve.specs.serve.Run.{Wrote, WrotePart}

-- with a fault that comes before any frame nothing is put
pub untouched : {A B C D : Type 0} → A ⊎ ((B ⊎ C) × D) → (B → ⊥) → (C → ⊥) → A
untouched (inl same) no_write no_memory = same
untouched (inr (inl write, put)) no_write no_memory = absurd (no_write write)
untouched (inr (inr memory, put)) no_write no_memory = absurd (no_memory memory)

module _ (opening : Opening) (left before after : Option (List ℕ)) where
  pub wrote_frames : ((frames : List ℕ) × AreFrames opening left frames × Appends before frames after) → Wrote (λ (job : Job). job ≡ Mirror opening) left before after
  wrote_frames (frames, are, appended) = record { job = Mirror opening; is_asked = refl; lines = frames; are_lines = are; appended = appended }

  pub wrote_first : HasPutFirst opening left before after → WrotePart (λ (job : Job). job ≡ Mirror opening) left before after
  wrote_first put = record { job = Mirror opening; is_asked = refl; lines = put.frames; are_lines = put.are; appended = put.appended }

  pub wrote_or_not : {B : Type 0} → (after ≡ before) ⊎ (B × HasPutFirst opening left before after) → (after ≡ before) ⊎ WrotePart (λ (job : Job). job ≡ Mirror opening) left before after
  wrote_or_not (inl same) = inl same
  wrote_or_not (inr (which, put)) = inr (wrote_first put)
