use Rattle.rh_made.proofs.Pdus as pdus
use Rattle.rh_made.proofs.laws.a_pdu_is_made.Goals as goal

pub returns-clause-sound : goal.returns-clause-sound
returns-clause-sound c = pdus.pdu_is

pub returns-clause-faultless : goal.returns-clause-faultless
returns-clause-faultless c = pdus.pdu_faultless

pub returns-clause-long : goal.returns-clause-long
returns-clause-long c = pdus.pdu_long
