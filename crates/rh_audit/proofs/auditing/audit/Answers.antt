use Rattle.std.proofs.Common.{List, ap, ◌∙◌, subst}
use Rattle.rh_audit.specs.declared.fault.AuditFault.{AuditFault}
use Rattle.rh_audit.specs.declared.pieces.Piece.{Piece}
use Rattle.rh_audit.specs.Captures.{of_tag}
use Rattle.rh_audit.specs.Pieces.{all_seen}
use Rattle.rh_audit.specs.Reads.{IsReading}
use Rattle.rh_audit.proofs.Audits.{SameTags, audited, legs_short, of_leg}
use Rattle.rh_audit.proofs.auditing.audit.Goals as goal

pub read_legs-requires-clause-legs : goal.read_legs-requires-clause-legs
read_legs-requires-clause-legs c =
    let sorted = all_seen c.as_slice.result.now in
    let same : SameTags sorted c.args.seen.now = λ tag.
    ap (λ (x : List Piece). of_tag tag (all_seen x)) c.as_slice.ensures.value
    ∙ c.in_ok-lines.ensures.tags tag in
    of_leg c.args.seen.now sorted c.requires same

pub audit_legs-requires : goal.audit_legs-requires
audit_legs-requires c =
    let sorted = all_seen c.as_slice.result.now in
    let same : SameTags sorted c.args.seen.now = λ tag.
    ap (λ (x : List Piece). of_tag tag (all_seen x)) c.as_slice.ensures.value
    ∙ c.in_ok-lines.ensures.tags tag in
    legs_short c.args.seen.now sorted c.in_ok-legs.legs c.read_legs.new.faults.items same
    (subst (λ (x : List AuditFault). IsReading sorted c.in_ok-legs.legs x
    c.read_legs.new.faults.items) c.new-faults.ensures.items c.in_ok-legs.ensures) c.requires

pub returns : goal.returns
returns c =
    let sorted = all_seen c.as_slice.result.now in
    let same : SameTags sorted c.args.seen.now = λ tag.
    ap (λ (x : List Piece). of_tag tag (all_seen x)) c.as_slice.ensures.value
    ∙ c.in_ok-lines.ensures.tags tag in
    audited c.args.seen.now sorted c.in_ok-legs.legs c.read_legs.new.faults.items same
    (subst (λ (x : List AuditFault). IsReading sorted c.in_ok-legs.legs x
    c.read_legs.new.faults.items) c.new-faults.ensures.items c.in_ok-legs.ensures) _ _ _
    c.in_ok-told.ensures
