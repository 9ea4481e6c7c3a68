use Rattle.law_moves.proofs.Leading.{leads_keep}
use Rattle.law_moves.proofs.Following.{event_follows, run_follows}
use Rattle.law_moves.proofs.Vocabulary.{started}
use Rattle.law_moves.proofs.moving.what_moves_keep_events_keep.Goals as goal

pub returns : goal.returns
returns g c =
    let rules = g.R.Role.rules in
    let P = g.R.Keeps.keeps in
    record {
      event = λ passage node event is held holds.
          let f = event_follows rules passage node event is held in
          record {
            follows = f;
            keeps = leads_keep rules P c.requires passage f.passage f.leads holds;
          };
      run = λ role rooms events holds.
          let f = run_follows rules role rooms events in
          record {
            follows = f;
            keeps = leads_keep rules P c.requires (started role) f.passage f.leads holds;
          };
    }
