-- what the nodes put has bytes, and what is taken where none is there changes nothing (MS-RPCH 3.2;
-- profile)
use Rattle.std.specs.Prelude.{◌≡◌, ℕ, [], Some, false}
use Rattle.rh_line.specs.declared.leg.Leg.{Leg}
use Rattle.rh_shell.specs.NearEnds.{is_empty}
use Rattle.rh_shell.specs.Rules.{Acts, Message, Rules, spell}
use Rattle.rh_company.specs.declared.place.Place.{Place}
use Rattle.rh_company.specs.declared.place.Place.TheVariants.{Absent, Here, Gone}
use Rattle.rh_company.specs.Company.{Company, Rulebook}
use Rattle.rh_nodes.specs.Giving.{Deeds}
use Rattle.law_node_history.specs.Histories.{in_place, out_place}

-- a message that the role puts has a byte at least
abbrev pub PutsBytes : {S : Type 0} → Rules S → S → Type 0
PutsBytes {S} rules role =
    (leg : Leg) (put : S × Message) → rules.put role leg ≡ Some put
    → is_empty (spell put.1) ≡ false

-- of a proxy that is there
abbrev pub PutsBytesThere : {S : Type 0} → Rules S → Place S → Type 0
PutsBytesThere rules Absent = Unit {0}
PutsBytesThere rules (Here node legs) = PutsBytes rules node.role
PutsBytesThere rules (Gone now) = Unit {0}

-- a take leaves the role as it is where no PDU is there
abbrev pub TakesNothing : {S : Type 0} → Acts S → S → Type 0
TakesNothing acts role = (acts.line role).current.pdus ≡ [] → acts.take role ≡ role

-- so it is of all nodes, and of both ends
pub record AreSteady {C S I O : Type 0} (r : Rulebook C S I O) (d : Deeds C S)
    (c : Company C S I O) : Type 0 where
  pub client : PutsBytes r.client c.client.role
  pub server : PutsBytes r.server c.server.role
  pub ins : (n : ℕ) → PutsBytesThere r.in_proxy (in_place c n)
  pub outs : (n : ℕ) → PutsBytesThere r.out_proxy (out_place c n)
  pub client_takes : TakesNothing d.client c.client.role
  pub server_takes : TakesNothing d.server c.server.role
