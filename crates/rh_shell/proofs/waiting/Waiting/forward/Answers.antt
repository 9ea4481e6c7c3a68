-- the packet is merged where the first stands that takes it, or stands behind all
use Rattle.std.proofs.Common.{Some, None, true, ap, subst, sym, ◌∙◌, ◌≡◌}
use Rattle.std.specs.Prelude.{position, slice_set}
use Rattle.rh_shell.specs.declared.due.Due.{Due}
use Rattle.rh_shell.specs.Waiting.{Waiting, takes, better, merged, forwarded, with_due, IsKept}
use Rattle.rh_shell.proofs.Passed.{found_in, merged_at}
use Rattle.rh_shell.proofs.Kept.{kept_merged, forward_merged, forward_full, forward_more}
use Rattle.rh_shell.proofs.waiting.Waiting.forward.Goals as goal

pub invariant_of-self : goal.invariant_of-self
invariant_of-self c =
    let items = c.self.inside.due.items in
    let packet = c.args.packet in
    let place = c.in-Some.place in
    let is : position (takes packet) items ≡ Some place =
    found_in (takes packet) c.deref.ensures.value c.place_to_merge.ensures c.in-Some.is in
    let same : slice_set items place c.better.result ≡ merged items packet =
    ap (slice_set items place)
    (c.better.ensures ∙ ap (λ (d : Due). better d packet) c.index.ensures)
    ∙ merged_at packet items place c.index.result.now is in (
      subst (IsKept c.self.inside.room) (sym same)
          (kept_merged c.self.inside.room items packet c.self.invariant.0 c.requires),
      c.self.invariant.1,
    )

pub returns-in-Some : goal.returns-in-Some
returns-in-Some c =
    let items = c.self.inside.due.items in
    let packet = c.args.packet in
    let w : Waiting = record { room = c.self.inside.room; due = items } in
    let is : position (takes packet) items ≡ Some c.in-Some.place =
    found_in (takes packet) c.deref.ensures.value c.place_to_merge.ensures c.in-Some.is in
    ap (λ (d : Due). (with_due w (slice_set items c.in-Some.place d), true)) c.better.ensures
    ∙ forward_merged w packet c.in-Some.place c.index.result.now is c.index.ensures
    ∙ ap (λ (w : Waiting). forwarded w packet) c.self.view_is

pub returns-then-is_full : goal.returns-then-is_full
returns-then-is_full c =
    let packet = c.args.packet in
    let is : position (takes packet) c.self.inside.due.items ≡ None =
    found_in (takes packet) c.deref.ensures.value c.place_to_merge.ensures c.in_default.is in
    forward_full c.args.self.now packet
    (ap (λ (w : Waiting). position (takes packet) w.due) (sym c.self.view_is) ∙ is)
    (sym c.is_full.ensures ∙ c.if-is_full.true)

pub returns : goal.returns
returns c =
    let packet = c.args.packet in
    let is : position (takes packet) c.self.inside.due.items ≡ None =
    found_in (takes packet) c.deref.ensures.value c.place_to_merge.ensures c.in_default.is in
    ap (λ (w : Waiting). (w, true)) c.push.ensures
    ∙ forward_more c.args.self.now packet
    (ap (λ (w : Waiting). position (takes packet) w.due) (sym c.self.view_is) ∙ is)
    (sym c.is_full.ensures ∙ c.if-is_full.false)
