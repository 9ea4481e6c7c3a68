-- a world at rest: nothing goes on in it by itself (profile)
use Rattle.std.specs.Prelude.{◌≡◌, ℕ, List, [], true, false}
use Rattle.rh_text.specs.declared.ends.Dir.{Dir}
use Rattle.rh_text.specs.declared.ends.Side.{Side}
use Rattle.rh_line.specs.declared.leg.Leg.{Leg}
use Rattle.rh_line.specs.declared.leg.LegKind.TheVariants.{OutServer, InServer}
use Rattle.rh_record.specs.declared.answer.Answer.{Answer}
use Rattle.rh_wires.specs.Legs as legs
use Rattle.rh_company.specs.Company as company
use Rattle.rh_company.specs.Company.{Rulebook}
use Rattle.rh_nodes.specs.Breaking.{is_up}
use Rattle.rh_nodes.specs.Giving.{Deeds}
use Rattle.rh_nodes.specs.Opening.{Makers}
use Rattle.rh_nodes.specs.Settling.{leg_at, open_next, open_client_outs, open_client_ins, carry, take_one, end_one}
use Rattle.rh_nodes.specs.World.{World, at}

-- nothing is reported
abbrev pub IsSilent : {W : Type 0} → W × List Answer → Type 0
IsSilent did = did.1 ≡ []

-- the next leg of either kind of the client cannot be opened, nor can any leg of the server; none
-- carries a byte in either direction, and none ends; and no end takes a PDU, or is told for the
-- first time that no more come. So nothing is in flight on a leg that is up, and neither of its
-- ends has finished it
pub record IsAtRest {K C S I O : Type 0} (r : Rulebook C S I O) (m : Makers K I O)
    (d : Deeds C S) (w : World K C S I O) : Type 0 where
  pub client_outs : IsSilent (open_client_outs r m w)
  pub out_servers : (number : ℕ) → IsSilent (open_next r m (leg_at OutServer number) w)
  pub client_ins : IsSilent (open_client_ins r m w)
  pub in_servers : (number : ℕ) → IsSilent (open_next r m (leg_at InServer number) w)
  pub carries : (leg : Leg) (dir : Dir) → IsSilent (carry r leg dir w)
  pub takes : (end : Side) → IsSilent (take_one d end w)
  pub ends : (leg : Leg) → IsSilent (end_one r leg w)
  pub clear : (leg : Leg) (dir : Dir) → is_up w leg ≡ true → legs.is_clear leg dir w.legs ≡ true
  pub unfinished : (leg : Leg) (end : Side) → is_up w leg ≡ true
      → company.finished r w.company (at w leg end) leg ≡ false
