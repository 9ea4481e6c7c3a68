use Rattle.law_world_ended.proofs.marks.ci_legs_end_behind_handover_marks.Goals as goal

pub returns : goal.returns
returns c = c.a_calm_recording_closes_no_node_unless_one_still_late.ensures.marked
