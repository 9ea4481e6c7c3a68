use Rattle.std.proofs.Common.{◌++◌, ◌-◌, List, take, drop, length, ap, ◌∙◌, subst, sym}
use Rattle.rh_audit.specs.declared.place.Place.{Place}
use Rattle.rh_audit.specs.Cursors.{all_left_at}
use Rattle.rh_audit.specs.Links.{legs_of}
use Rattle.rh_audit.specs.Places.{AreBehind}
use Rattle.rh_audit.specs.Walks.{all_pdus}
use Rattle.rh_audit.proofs.Places.{opened, walk_on}
use Rattle.rh_audit.proofs.walk.Walk.next_pdu.Goals as goal

pub returns-in-len1-up : goal.returns-in-len1-up
returns-in-len1-up c =
    let cursor = c.links.self-inside.cursor in
    let places = c.links.self-inside.places.now in
    let later = all_pdus (legs_of c.links.self-inside.links.now) in
    let first = opened places c.place-item.result _ c.place-item.is c.in-len1-up.len_at_least in
    walk_on cursor c.find.new.self c.place-item.result (take (length places - 1) (drop 1 places))
    later c.args.self.now.pdus
    (ap (λ (x : List Place). all_left_at cursor.at cursor.bytes x ++ later) (sym first)
    ∙ c.links.invariant.0)
    (subst (λ (x : List Place). AreBehind cursor.at x) first c.links.invariant.1)
    (c.in_ok-find.ensures.found)
