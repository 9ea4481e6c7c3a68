-- which refusal answers a fault (profile)
use Rattle.rh_http.specs.declared.fault.HttpFault.{HttpFault}
use Rattle.rh_http.specs.declared.fault.HttpFault.TheVariants.{TooLong, Syntax, Method, Path, Target, Length}
use Rattle.rh_http.specs.declared.refusal.Refusal.{Refusal}
use Rattle.rh_http.specs.declared.refusal.Refusal.TheVariants.{Bad, Missing}

-- 404 answers another path, and 400 every other fault
abbrev pub refusal_of : HttpFault → Refusal
refusal_of TooLong = Bad
refusal_of Syntax = Bad
refusal_of Method = Bad
refusal_of Path = Missing
refusal_of Target = Bad
refusal_of Length = Bad
