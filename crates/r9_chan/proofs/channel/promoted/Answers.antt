use Rattle.std.proofs.Common.{◌*◌, ◌/◌, refl, arith}
use Rattle.model_pixel.specs.Channels.{promoted}
use Rattle.r9_chan.proofs.PromotionLemmas.{promoted_by}
use Rattle.r9_chan.proofs.channel.promoted.Goals as goal
use Rattle.r9_chan.proofs.channel.promoted.Goals.{in-1, in-2, in-3, in-4, in-5, in-6, in-7, in_default}

pub returns : goal.returns
unfolding promoted
returns c =
    elim c.match-bits.branch [
      | in-1 w ↦ promoted_by 1 (λ v. v * 255) refl _ _ _ w.in-1.is c.requires.fits w.filled-is
      | in-2 w ↦ promoted_by 2 (λ v. v * 85) refl _ _ _ w.in-2.is c.requires.fits w.filled-is
      | in-3 w ↦ promoted_by 3 (λ v. v * 73 / 2) refl _ _ _ w.in-3.is c.requires.fits w.filled-is
      | in-4 w ↦ promoted_by 4 (λ v. v * 17) refl _ _ _ w.in-4.is c.requires.fits w.filled-is
      | in-5 w ↦ promoted_by 5 (λ v. v * 33 / 4) refl _ _ _ w.in-5.is c.requires.fits w.filled-is
      | in-6 w ↦ promoted_by 6 (λ v. v * 65 / 16) refl _ _ _ w.in-6.is c.requires.fits w.filled-is
      | in-7 w ↦ promoted_by 7 (λ v. v * 129 / 64) refl _ _ _ w.in-7.is c.requires.fits w.filled-is
      | in_default w ↦ promoted_by 8 (λ v. v) refl _ _ _ (omega arith) c.requires.fits w.filled-is
    ]
