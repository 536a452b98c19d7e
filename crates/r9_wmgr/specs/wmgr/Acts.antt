-- What acts and faults stand for.
use Rattle.std.specs.Prelude.{ℕ}
use Rattle.std.specs.Str.{IsUtf8}
use Rattle.model_rio.specs.rio.Act as model
use Rattle.r9_wctl.specs.wctl.Values.{wctl_of}
use Rattle.r9_wmgr.specs.declared.wmgr.act.Act.{Act}
use Rattle.r9_wmgr.specs.declared.wmgr.act.Act.TheVariants as act
use Rattle.r9_wmgr.specs.declared.wmgr.act.ActFault.{ActFault}
use Rattle.r9_wmgr.specs.declared.wmgr.act.ActFault.TheVariants as fault

abbrev pub act_of : Act → model.Act
act_of (act.New rio options hide) = model.New rio options hide
act_of (act.Command window what) = model.Command window (wctl_of what)
act_of (act.Mouse pointer) = model.Mouse pointer
act_of (act.Keys bytes) = model.Keys bytes
act_of (act.Gone window) = model.Gone window
act_of (act.Size width height) = model.Size width height

-- keys are characters of UTF-8
abbrev pub AreKeys : Act → Type 0
AreKeys (act.Keys bytes) = IsUtf8 bytes
AreKeys _ = Unit {0}

-- a fact about the number of a refusal, where it is one
abbrev pub IfRefused : ActFault → (ℕ → Type 0) → Type 0
IfRefused (fault.Refused n) P = P n
IfRefused fault.Memory P = Unit {0}
