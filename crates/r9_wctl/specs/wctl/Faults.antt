-- The two faults of a command, apart.
use Rattle.r9_wctl.specs.declared.wctl.command.WctlFault.{WctlFault}
use Rattle.r9_wctl.specs.declared.wctl.command.WctlFault.TheVariants.{Bad, Memory}

-- what holds where the text spells no command
abbrev pub IfBad : WctlFault → Type 0 → Type 0
IfBad Bad P = P
IfBad Memory P = Unit {0}
