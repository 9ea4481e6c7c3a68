use Rattle.law_order.proofs.Vocabulary.{sym, subst}
use Rattle.rh_inproxy.specs.State.{InProxy}
use Rattle.rh_outproxy.specs.OutProxy.{OutProxy}
use Rattle.rh_client.specs.declared.state.ClientRole.{ClientRole}
use Rattle.rh_server.specs.States.{Server}
use Rattle.law_node_history.proofs.Vocabulary.{Makers, World, LegsComeUpOnce, Leads, after_turns, IsNew, nothing}
use Rattle.law_node_history.proofs.Lemmas.{cast_kept, leads_turns, changes_are_traced, traced_first}
use Rattle.law_node_traces.proofs.Traced.InTurn.{new_in_turn}
use Rattle.law_node_traces.proofs.Traced.Readers.{reached_read}
use Rattle.law_node_traces.proofs.Vocabulary.{rules, deeds, IsKnown}
use Rattle.law_node_traces.proofs.traces.recordings.a_recording_of_roles_is_known.Goals as goal

known : {K : Type 0} (m : Makers K InProxy OutProxy)
    (w v : World K ClientRole Server InProxy OutProxy) → IsNew w
    → LegsComeUpOnce rules m deeds w.company w.cast → (leads : Leads rules m deeds w v)
    → IsKnown m w v leads
known m w v new once leads = record {
  once = subst (LegsComeUpOnce rules m deeds w.company)
      (sym (cast_kept rules m deeds w v leads)) once;
  traced = changes_are_traced rules m deeds w.company w v nothing leads once
      (traced_first rules m deeds w new);
  in_turn = new_in_turn rules m deeds w v new once leads;
  read = reached_read rules m deeds w v new once leads;
}

pub returns : goal.returns
returns g c =
    let once = c.legs_of_roles_come_up_once.ensures in
    record {
      changes = λ m w v new ours leads. known m w v new (once m w.company w.cast ours) leads;
      turns = λ m w new ours turns.
          let leads = leads_turns rules m deeds turns w in (
            leads,
            known m w (after_turns rules m deeds w turns) new (once m w.company w.cast ours) leads,
          );
    }
