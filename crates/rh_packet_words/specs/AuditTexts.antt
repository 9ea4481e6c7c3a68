-- the text of an audit: a line for each fault, and one for each direction (profile)
use Rattle.std.specs.Prelude.{ℕ, List, [], ◌∷◌, ◌++◌, codes}
use Rattle.std.specs.Fmt.{decimal}
use Rattle.rh_audit.specs.declared.fault.AuditFault.{AuditFault}
use Rattle.rh_audit.specs.declared.fault.AuditFault.TheVariants.{Broken, Unchained}
use Rattle.rh_audit.specs.declared.prefixed.Prefixed.{Prefixed}
use Rattle.rh_audit.specs.declared.prefixed.Prefixed.TheVariants.{Yes, No}
use Rattle.rh_audit.specs.Pipes.{pipe_word}

abbrev pub fault_text : AuditFault → List ℕ
fault_text (Broken tag pipe place) =
    codes "broken " ++ (decimal tag ++ (codes " " ++ (pipe_word pipe ++ (codes " "
    ++ (decimal place ++ codes "\n")))))
fault_text (Unchained tag) = codes "unchained " ++ (decimal tag ++ codes "\n")

abbrev pub faults_text : List AuditFault → List ℕ
faults_text [] = []
faults_text (fault ∷ faults) = fault_text fault ++ faults_text faults

-- behind the word for the direction
abbrev pub prefixed_text : Prefixed → List ℕ
prefixed_text (Yes far near) =
    codes " yes " ++ (decimal far ++ (codes " " ++ (decimal near ++ codes "\n")))
prefixed_text (No place) = codes " no " ++ (decimal place ++ codes "\n")

abbrev pub audit_text : List AuditFault → (up down : Prefixed) → List ℕ
audit_text faults up down =
    faults_text faults
    ++ ((codes "up" ++ prefixed_text up) ++ (codes "down" ++ prefixed_text down))
