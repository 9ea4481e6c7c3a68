-- what a server makes of a caller by its first bytes (profile)
use Rattle.rh_line.specs.declared.leg.LegKind.TheVariants.{InServer, OutServer}
use Rattle.rh_server.specs.declared.first_frame.FirstKind.{FirstKind}
use Rattle.rh_server.specs.declared.first_frame.FirstKind.TheVariants.{Need, In, Out, Stranger}
use Rattle.rh_keepers.specs.declared.server.Met.{Met}
use Rattle.rh_keepers.specs.declared.server.Met.TheVariants.{Unknown, Leg, Nobody}

-- a leg by its first frame; who sent another one is nobody
abbrev pub met_by : FirstKind → Met
met_by Need = Unknown
met_by In = Leg InServer
met_by Out = Leg OutServer
met_by Stranger = Nobody
