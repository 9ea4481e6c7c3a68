-- packets by which a server is told of a successor of an IN channel (MS-RPCH 2.2.4; profile)
use Rattle.rh_sig.specs.declared.named.Named.{Named}
use Rattle.rh_sig.specs.declared.named.Named.TheVariants.{InR1A2, InR2A2}

-- IN_R1/A2 or IN_R2/A2
abbrev pub Announces : Named → Type 0
Announces (InR1A2 version connection predecessor successor window timeout) = Unit {0}
Announces (InR2A2 successor) = Unit {0}
Announces packet = ⊥
