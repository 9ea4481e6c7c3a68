-- a proxy that was let go (profile)
use Rattle.std.specs.Prelude.{Bool, true, false}
use Rattle.rh_record.specs.declared.answer.Who.{Who}
use Rattle.rh_record.specs.declared.answer.Who.TheVariants.{Client, Server, In, Out}
use Rattle.rh_company.specs.declared.place.Place.{Place}
use Rattle.rh_company.specs.declared.place.Place.TheVariants.{Absent, Here, Gone}
use Rattle.rh_company.specs.Company.{Company}
use Rattle.law_node_history.specs.Histories.{in_place, out_place}

abbrev pub is_gone : {S : Type 0} → Place S → Bool
is_gone Absent = false
is_gone (Here node legs) = false
is_gone (Gone now) = true

-- no other node is ever let go
abbrev pub was_let_go : {C S I O : Type 0} → Company C S I O → Who → Bool
was_let_go c Client = false
was_let_go c Server = false
was_let_go c (In number) = is_gone (in_place c number)
was_let_go c (Out number) = is_gone (out_place c number)
