-- the names of faults
use Rattle.std.specs.Prelude.{ℕ, List, codes}
use Rattle.rh_http.specs.declared.fault.HttpFault.{HttpFault}
use Rattle.rh_http.specs.declared.fault.HttpFault.TheVariants as faults

-- the name of the rule that a head breaks
abbrev pub fault_name : HttpFault → List ℕ
fault_name faults.TooLong = codes "TooLong"
fault_name faults.Syntax = codes "Syntax"
fault_name faults.Method = codes "Method"
fault_name faults.Path = codes "Path"
fault_name faults.Target = codes "Target"
fault_name faults.Length = codes "Length"
