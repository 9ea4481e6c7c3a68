use Rattle.law_role_client.proofs.Vocabulary.{client_moved}
use Rattle.law_role_windows.proofs.Acknowledging.ClientRoom.{client_room}
use Rattle.law_role_windows.proofs.acks.receivers.a_client_tells_within_its_window.Goals as goal

pub returns : goal.returns
returns c = λ config moves k is allowed first.
    let told = c.a_client_tells_what_its_windows_told.ensures in
    client_room config.window moves (client_moved config moves).passage
    (told.counted config moves is allowed)
    (c.what_a_client_holds.ensures.moves config moves is allowed)
    (told.acks config moves is allowed first) k
