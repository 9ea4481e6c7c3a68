use Rattle.law_order.proofs.Vocabulary.{◌∙◌}
use Rattle.law_world_audited.proofs.whole_audits.audits.an_audit_of_a_recording_finds_nothing.Goals as goal

pub returns : goal.returns
returns c = λ behind told up down audit. record {
  faults = audit.faults_are
      ∙ c.an_audit_of_a_recording_tells_no_fault.ensures behind audit.tags audit.are_tags;
  up_yes = record {
    far = _;
    near = _;
    is = audit.up_is ∙ c.what_went_up_is_a_front.ensures behind audit.tags audit.are_tags;
  };
  down_yes = record {
    far = _;
    near = _;
    is = audit.down_is ∙ c.what_went_down_is_a_front.ensures behind audit.tags audit.are_tags;
  };
}
