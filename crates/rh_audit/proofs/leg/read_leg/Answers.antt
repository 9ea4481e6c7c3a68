use Rattle.std.proofs.Common.{◌++◌, sym, ap, ◌∙◌, subst}
use Rattle.std.specs.Prelude.{option_to_list}
use Rattle.std.proofs.lemmas.List.{append_assoc}
use Rattle.rh_sig.specs.declared.name.Pipe.{Pipe}
use Rattle.rh_audit.specs.declared.summary.Summary.{Summary}
use Rattle.rh_audit.specs.Audits.{broken_by}
use Rattle.rh_audit.specs.Chains.{leg_by, pdus_in, stream_in}
use Rattle.rh_audit.specs.Links.{told_behind}
use Rattle.rh_audit.specs.Pieces.{all_seen}
use Rattle.rh_audit.specs.Pipes.{first_pipe, pdu_pipe}
use Rattle.rh_audit.specs.Reads.{legs_read}
use Rattle.rh_audit.specs.Summaries.{IsStreamRead, summary}
use Rattle.rh_audit.proofs.LegLaws.{leg_any, told_all}
use Rattle.rh_audit.proofs.leg.read_leg.Goals as goal

pub read_carried-requires-clause-begun : goal.read_carried-requires-clause-begun
read_carried-requires-clause-begun c =
    subst (λ (pipe : Pipe). IsStreamRead pipe (all_seen c.args.lines.now) c.in_ok-begun.begun)
    c.first_pipe.ensures c.in_ok-begun.ensures.read

pub returns-clause-told : goal.returns-clause-told
returns-clause-told c =
    let lines = all_seen c.args.lines.now in
    let before = c.args.faults.now.items in
    c.in_ok-carried.ensures.told
    ∙ ap (λ x. x ++ told_behind c.args.tag c.args.kind lines) (c.in_ok-begun.ensures.told
    ∙ ap (λ (pipe : Pipe). before ++ broken_by c.args.tag pipe (stream_in pipe lines).broken)
    c.first_pipe.ensures)
    ∙ append_assoc before _ _
    ∙ ap (λ x. before ++ x) (sym (told_all c.args.tag c.args.kind lines c.requires.kind))

pub returns-clause-legs : goal.returns-clause-legs
returns-clause-legs c = λ any.
    let lines = all_seen c.args.lines.now in
    let kind = c.args.kind in
    let pdus = pdus_in (pdu_pipe kind) lines in
    let first = summary (first_pipe kind) (stream_in (first_pipe kind) lines) in
    let begun = c.in_ok-begun.ensures.read.says
    ∙ ap (λ (pipe : Pipe). summary pipe (stream_in pipe lines)) c.first_pipe.ensures in
    leg_any any kind c.args.tag lines (legs_read (option_to_list c.leg_read.result))
    c.requires.kind
    (c.leg_read.ensures
    ∙ ap (λ (s : Summary). leg_by c.args.tag s.anew c.in_ok-carried.carried.says.marked pdus
    s.first) begun
    ∙ ap (λ (s : Summary). leg_by c.args.tag first.anew s.marked pdus first.first)
    c.in_ok-carried.ensures.read.says)
