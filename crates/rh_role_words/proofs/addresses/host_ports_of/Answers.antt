-- a text without these parts has no addresses
use Rattle.rh_role_words.proofs.Commas.{none_alone, none_behind, none_first}
use Rattle.rh_role_words.proofs.addresses.host_ports_of.Goals as goal

pub returns-in_default : goal.returns-in_default
returns-in_default c =
    none_first c.args.text.now c.in-Some.first.now c.in-Some.behind.now c.in-Some.ensures.some.0
    c.in-Some.ensures.some.1 c.in_default.ensures

pub returns-in-None-2 : goal.returns-in-None-2
returns-in-None-2 c =
    let none = rw c.in-None-2.is at c.in_ok-more-in-Some.ensures in
    none_behind c.args.text.now c.in-Some.first.now c.in-Some.behind.now c.in-Some.ensures.some.0
    c.in-Some.ensures.some.1 none

pub returns-in-None-host_port_of : goal.returns-in-None-host_port_of
returns-in-None-host_port_of c =
    none_alone c.args.text.now c.in-None.ensures.none c.in-None-host_port_of.ensures
