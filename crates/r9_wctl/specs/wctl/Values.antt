-- What the values of the code stand for.
use Rattle.model_files.specs.wctl.Command as model
use Rattle.model_files.specs.wctl.Reading as read
use Rattle.r9_wctl.specs.declared.wctl.command.Wctl.{Wctl}
use Rattle.r9_wctl.specs.declared.wctl.command.Wctl.TheVariants as code
use Rattle.r9_wctl.specs.declared.wctl.command.Command.{Command}
use Rattle.r9_wctl.specs.declared.wctl.setting.Setting.{Setting}
use Rattle.r9_wctl.specs.declared.wctl.setting.Setting.TheVariants as setting
use Rattle.r9_wctl.specs.wctl.Small.{IsSmallChoice}

abbrev pub wctl_of : Wctl → model.Wctl
wctl_of (code.New options hide) = model.New options hide
wctl_of (code.Resize options) = model.Resize options
wctl_of (code.Move options) = model.Move options
wctl_of code.Top = model.Top
wctl_of code.Bottom = model.Bottom
wctl_of code.Hide = model.Hide
wctl_of code.Unhide = model.Unhide
wctl_of code.Current = model.Current
wctl_of code.Delete = model.Delete
wctl_of (code.Scroll scrolls) = model.Scroll scrolls
wctl_of code.Set = model.Set
wctl_of code.Host = model.Host

abbrev pub command_of_code : Command → model.Command
command_of_code c = record { what = wctl_of c.what; id = c.id }

abbrev pub setting_of : Setting → read.Setting
setting_of (setting.Choose choice) = read.Choose choice
setting_of setting.Hidden = read.Hidden
setting_of (setting.Named path) = read.Named path
setting_of setting.NoEffect = read.NoEffect

abbrev pub IsSmallSetting : Setting → Type 0
IsSmallSetting (setting.Choose choice) = IsSmallChoice choice
IsSmallSetting setting.Hidden = Unit {0}
IsSmallSetting (setting.Named path) = Unit {0}
IsSmallSetting setting.NoEffect = Unit {0}
