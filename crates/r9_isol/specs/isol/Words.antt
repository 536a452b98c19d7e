-- What calls promise.
use Rattle.r9_draw.specs.declared.draw.fault.DrawFault.{DrawFault}
use Rattle.r9_draw.specs.declared.draw.fault.DrawFault.TheVariants as draw
use Rattle.r9_files.specs.declared.files.fault.Fault.{Fault}
use Rattle.r9_files.specs.declared.files.fault.Fault.TheVariants as fault

-- a fault of the draw device as one of a file
abbrev pub fault_of_draw : DrawFault → Fault
fault_of_draw (draw.Refused n) = fault.Refused n
fault_of_draw draw.Memory = fault.Memory
