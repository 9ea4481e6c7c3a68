use Rattle.law_node_causes.proofs.NodeMoments.{unheard_stays, moment_is, moment_later}
use Rattle.law_node_causes.proofs.Touches.{since_is}
use Rattle.law_node_causes.proofs.moments.a_leg_is_silent_since_it_was_heard.Goals as goal

pub returns : goal.returns
returns g c =
    let rules = g.R.Role.rules in
    record {
      since = since_is rules;
      unheard = unheard_stays rules;
      moment = moment_is rules;
      later = moment_later rules;
    }
