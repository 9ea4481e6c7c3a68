-- the packet by which an in proxy hands its channel over to a successor (MS-RPCH 2.2.4; profile)
use Rattle.rh_sig.specs.declared.named.Named.{Named}
use Rattle.rh_sig.specs.declared.named.Named.TheVariants.{InR1A6}

-- IN_R1/A6
abbrev pub HandsOver : Named → Type 0
HandsOver (InR1A6 successor) = Unit {0}
HandsOver packet = ⊥
