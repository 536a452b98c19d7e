-- All that isolation asks of a relation between draw devices holds of this one.
use Rattle.std.proofs.Common.{◌≤◌, ℕ, refl, sym}
use Rattle.r9_geom.specs.Geometry.{height, width}
use Rattle.model_exchanged.specs.resize.Resize.{sized}
use Rattle.model_world.specs.World.{display_of}
use Rattle.law_others.proofs.sized.Acts.{box_height, box_width}
use Rattle.law_strangers.specs.followed.Devices.{IsDeviceLike}
use Rattle.law_devices.specs.assembled.Assembled.{AreAlike}
use Rattle.law_devices.proofs.lawful.Coming.{made_alike}
use Rattle.law_devices.proofs.lawful.Dropping.{dropped_alike}
use Rattle.law_devices.proofs.assembled.Ends.{leave_alike}
use Rattle.law_devices.proofs.assembled.Others.{beside_alike, others_choose, others_connect, others_leave, others_read, others_write}
use Rattle.law_devices.proofs.assembled.Own.{choose_alike, connect_alike, read_alike, tells_alike}
use Rattle.law_devices.proofs.lawful.Replacing.{replaced_alike}
use Rattle.law_devices.proofs.assembled.Sizes.{forgotten}
use Rattle.law_devices.proofs.assembled.Starting.{picture_alike, start_alike}
use Rattle.law_devices.proofs.assembled.Writing.{write_alike}

pub devices_alike : (c : ℕ) → 1 ≤ c → IsDeviceLike c (AreAlike c)
devices_alike c counted = record {
  start = λ opening.
      start_alike (display_of opening) refl c counted (width (display_of opening).r) (height (display_of opening).r)
      (λ i. sized (sym (box_width opening.width opening.height) i) (sym (box_height opening.width opening.height) i));
  forget = λ size window a b alike. forgotten c size window a b alike;
  connect = λ size window a b alike n few. connect_alike c size window a b alike n few;
  leave = λ size window a b alike n few. leave_alike c size window a b alike n few;
  write = λ size window a b alike n bytes mark few keeps. write_alike c size window a b alike n few bytes mark keeps;
  read = λ size window a b alike n most few. read_alike c size window a b alike n few most;
  tell = λ size window a b alike n few told. tells_alike c size window a b alike n few told;
  choose = λ size window a b alike n bytes few. choose_alike c size window a b alike n few bytes;
  picture = λ size serial name a b alike. picture_alike c size serial name a b alike;
  made = λ size a b alike serial depth name r hide nonzero fit free. made_alike c size a b alike serial depth name r hide nonzero fit free;
  replaced = λ size serial old a b alike name r keep hidden fit free. replaced_alike c size serial old a b alike name r keep hidden fit free;
  dropped = λ size serial name a b alike fit. dropped_alike c size serial name a b alike fit;
  beside = λ size window a b alike order may other known. beside_alike c size window a b alike order may other known;
  others_connect = λ size window a b alike d n least other few. others_connect c size window a b alike d n least other few;
  others_leave = λ size window a b alike d n least other few. others_leave c size window a b alike d n least other few;
  others_write = λ size window a b alike d n bytes mark least other few leaves. others_write c size window a b alike d n least other few bytes mark leaves;
  others_read = λ size window a b alike d n most least other few got is. others_read c size window a b alike d n least other few most got is;
  others_choose = λ size window a b alike d n bytes least other few next is. others_choose c size window a b alike d n least other few bytes next is;
}
