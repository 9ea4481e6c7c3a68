-- what the word `audit` writes of the capture that came
use Rattle.std.specs.Prelude.{◌≡◌, ℕ, List}
use Rattle.rh_audit.specs.declared.fault.AuditFault.{AuditFault}
use Rattle.rh_audit.specs.declared.prefixed.Prefixed.{Prefixed}
use Rattle.rh_audit.specs.declared.seen.Seen.{Seen}
use Rattle.rh_audit.specs.Audits.{IsAudit}
use Rattle.rh_capture.specs.Reading.{IsCaptureOf}
use Rattle.rh_packet_words.specs.AuditTexts.{audit_text}

-- what came is a capture, and what was written is what its audit tells
pub record IsAudited (came written : List ℕ) : Type 0 where
  pub seen : List Seen
  pub is_text : IsCaptureOf came seen
  pub faults : List AuditFault
  pub up : Prefixed
  pub down : Prefixed
  pub told : IsAudit seen faults up down
  pub written_is : written ≡ audit_text faults up down
