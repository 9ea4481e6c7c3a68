use Rattle.law_moves.proofs.Vocabulary.{all_moved, started}
use Rattle.law_role_inproxy.proofs.Vocabulary.{first, rules}
use Rattle.law_role_inproxy.proofs.Refusing.Channels.{channels_carry}
use Rattle.law_role_inproxy.proofs.Refusing.Keeps.{legs_are_known}
use Rattle.law_role_inproxy.proofs.Refusing.Naming.{names_channels}
use Rattle.law_role_inproxy.proofs.Refusing.Refusals.{refusals}
use Rattle.law_role_inproxy.proofs.Refusing.Telling.{is_told}
use Rattle.law_role_inproxy.proofs.refusals.what_an_in_proxy_refuses.Goals as goal

pub returns : goal.returns
returns c = λ config moves allowed.
    let p = all_moved rules (started (first config)) moves in
    let known = legs_are_known config moves in
    refusals config.number p known
    (channels_carry config.number p known (c.an_in_proxy_keeps_order.ensures config moves allowed))
    (is_told config moves) (names_channels config moves)
    (c.an_in_proxy_opens_and_hands_over_once.ensures config moves).passed
