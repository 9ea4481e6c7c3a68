use Rattle.std.proofs.Common.{ℕ, false, sym, ap, ◌∙◌, subst}
use Rattle.std.specs.declared.option.Option.{Option}
use Rattle.rh_audit.specs.declared.summary.Summary.{Summary}
use Rattle.rh_audit.specs.Captures.{carried}
use Rattle.rh_audit.specs.Chains.{stream_in}
use Rattle.rh_audit.specs.Pieces.{all_seen}
use Rattle.rh_audit.specs.Streams.{Stream}
use Rattle.rh_audit.proofs.Places.{InRead, read_all, read_more}
use Rattle.rh_audit.proofs.summary.read_frames.Goals as goal

pub returns-in-End : goal.returns-in-End
returns-in-End c =
    let lines = all_seen c.args.lines.now in
    let found = c.frames.says in
    let h = c.frames.invariant in
    let all = read_all c.args.pipe (carried c.args.pipe lines) (stream_in c.args.pipe lines)
    c.frames.left c.frames.begins found c.frames.places.items h
    (ap (λ (s : Stream). s.frames) c.in-End.ensures) in
    record {
      says = ap (λ (b : Option ℕ). record found { broken = b })
          (h.unbroken ∙ sym (ap (λ (s : Stream). s.broken) c.in-End.ensures))
          ∙ all.0;
      places = record { rising = all.1; are = all.2 };
    }

pub returns-in-Broken : goal.returns-in-Broken
returns-in-Broken c =
    let lines = all_seen c.args.lines.now in
    let found = c.frames.says in
    let all = read_all c.args.pipe (carried c.args.pipe lines) (stream_in c.args.pipe lines)
    c.frames.left c.frames.begins found c.frames.places.items c.frames.invariant
    (ap (λ (s : Stream). s.frames) c.in-Broken.ensures) in
    record {
      says = ap (λ (b : Option ℕ). record found { broken = b })
          (sym (ap (λ (s : Stream). s.broken) c.in-Broken.ensures))
          ∙ all.0;
      places = record { rising = all.1; are = all.2 };
    }

pub frames-preserved : goal.frames-preserved
frames-preserved c =
    let lines = all_seen c.args.lines.now in
    let all = carried c.args.pipe lines in
    let is = stream_in c.args.pipe lines in
    let places = c.keep_pdu.new.places.items in
    subst (λ (s : Summary). InRead c.args.pipe all is c.next.new.self false s places)
    (sym c.with_met-says.ensures)
    (read_more c.args.pipe all is c.frames.left c.next.new.self c.frames.begins c.frames.says
    c.frames.places.items c.in-Frame.met c.in-Frame.place c.frames.invariant c.in-Frame.ensures
    places c.in_ok-keep_pdu-in-Frame.ensures)
