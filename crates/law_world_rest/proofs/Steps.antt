-- each step of a round that reports nothing leaves the world as it was
use Rattle.law_order.proofs.Vocabulary.{◌≡◌, ℕ, List, [], ◌∷◌, Bool, true, false, ◌&&◌, if◌then◌else◌, Some, None, Option, refl, sym, ap, ◌∙◌, nat_lt, true≢false}
use Rattle.rh_line.specs.Lines as lines
use Rattle.rh_record.specs.declared.answer.TakeAnswer.TheVariants as takes
use Rattle.rh_record.specs.declared.answer.Who.TheVariants as who
use Rattle.rh_shell.specs.Ends as ends
use Rattle.rh_shell.specs.Shells as shell
use Rattle.rh_wires.specs.Legs as legs
use Rattle.rh_company.specs.Company as company
use Rattle.rh_nodes.specs.Opening as opening
use Rattle.law_moves.proofs.Vocabulary.{Cause, Dir, U, D, Side, Client, Server, Leg, LegKind, ClientOut, OutServer, ClientIn, InServer, NO_COOKIE, Acts, Shell, cause_of, with_role}
use Rattle.law_node_history.proofs.Vocabulary.{TakeAnswer, Rulebook, Deeds, Makers, World, at, connect, connect_client, end_one, end_where, ends_now, is_finished, is_up, is_wanted, may_make, may_open_same, open_by, open_in_to, open_leg, open_next, open_next_in, open_out_to, open_same, opened, opened_same, read_on, take_answer, take_from, take_one, taken_down, taken_up, took, with_in, with_out}
use Rattle.law_world_rest.proofs.Silences.{Leaves}
use Rattle.law_world_rest.specs.Rest.{IsSilent}
use Rattle.law_world_rest.specs.Steady.{AreSteady, TakesNothing}

-- ---- a leg is opened

module _ {K C S I O : Type 0} (w : World K C S I O) where
  -- where it is refused the world stays
  abbrev StaysRefused : World K C S I O × Bool → Type 0
  StaysRefused did = did.1 ≡ false → did.0 ≡ w

  refused_if : (test : Bool) (did : World K C S I O × Bool) → StaysRefused did
      → StaysRefused (if test then did else (w, false))
  refused_if true did stays = stays
  refused_if false did stays = λ refused. refl

  opened_stays : (v : World K C S I O) → StaysRefused (v, true)
  opened_stays v refused = absurd cc

  opened_leaves : (leg : Leg) (did : World K C S I O × Bool) → StaysRefused did
      → Leaves w (opened leg did)
  opened_leaves leg (v, true) stays silent = absurd cc
  opened_leaves leg (v, false) stays silent = stays refl

  opened_same_leaves : (leg : Leg) (did : World K C S I O × Bool) → StaysRefused did
      → Leaves w (opened_same leg did)
  opened_same_leaves leg (v, true) stays silent = absurd cc
  opened_same_leaves leg (v, false) stays silent = stays refl

module _ {K C S I O : Type 0} (r : Rulebook C S I O) (m : Makers K I O) (w : World K C S I O)
    (leg : Leg) where
  server_stays : StaysRefused w (opening.open_server r w leg)
  server_stays =
      refused_if w (nat_lt 0 leg.number && is_wanted r w leg) (connect r w leg NO_COOKIE, true)
      (opened_stays w (connect r w leg NO_COOKIE))

  out_stays : StaysRefused w (opening.open_client_out r m.out_proxy w leg)
  out_stays =
      let node = opening.at_moment r.out_proxy (m.out_proxy w.cast leg.number) w.now in
      let made = connect_client r (with_out w leg.number node) leg in
      refused_if w (may_make r w w.company.outs leg) (open_out_to r w leg node)
      (refused_if w (shell.may_up r.out_proxy node leg) (made, true) (opened_stays w made))

  in_stays : StaysRefused w (opening.open_client_in r m.in_proxy w leg)
  in_stays =
      let node = opening.at_moment r.in_proxy (m.in_proxy w.cast leg.number) w.now in
      let made = connect_client r (with_in w leg.number node) leg in
      refused_if w (may_make r w w.company.ins leg) (open_in_to r w leg node)
      (refused_if w (shell.may_up r.in_proxy node leg) (made, true) (opened_stays w made))

  open_stays : StaysRefused w (open_leg r m w leg)
  open_stays = by leg.kind
    where
      by : (kind : LegKind) → StaysRefused w (open_by r m w leg kind)
      by ClientOut = out_stays
      by OutServer = server_stays
      by ClientIn = in_stays
      by InServer = server_stays

  pub open_leaves : Leaves w (open_next r m leg w)
  open_leaves = opened_leaves w leg (open_leg r m w leg) open_stays

  same_leaves : Leaves w (opened_same leg (open_same r w leg))
  same_leaves =
      let next = connect_client r (read_on w leg.number) leg in
      opened_same_leaves w leg (open_same r w leg)
      (refused_if w (opening.is_client_in leg.kind && company.wants r w.company who.Client leg
      && may_open_same r w leg) (next, true) (opened_stays w next))

  pub open_in_leaves : Leaves w (open_next_in r m leg w)
  open_in_leaves = by (w.same && may_open_same r w leg)
    where
      by : (test : Bool) → Leaves w (if test then opened_same leg (open_same r w leg)
          else open_next r m leg w)
      by true = same_leaves
      by false = open_leaves

-- ---- an end takes

abbrev IsNoPdu : TakeAnswer → Type 0
IsNoPdu (takes.Pdu pdu) = ⊥
IsNoPdu takes.Empty = Unit {0}
IsNoPdu takes.Ended = Unit {0}
IsNoPdu (takes.Closed why) = Unit {0}

module _ {S : Type 0} (acts : Acts S) (node : Shell S) (still : TakesNothing acts node.role) where
  by_pdus : (pdus : List (List ℕ)) (over : Bool) → (acts.line node.role).current.pdus ≡ pdus
      → IsNoPdu (take_answer (ends.take_of (lines.take_of pdus over)) pdus)
      → with_role node (acts.take node.role) ≡ node
  by_pdus [] over is none = ap (with_role node) (still is)
  by_pdus (pdu ∷ pdus) over is none = absurd none

  by_cause : (cause : Option Cause)
      → IsNoPdu (take_answer (ends.take_answer_where acts node cause)
      (acts.line node.role).current.pdus)
      → ends.take_where acts node cause ≡ node
  by_cause (Some why) none = refl
  by_cause None none =
      let line = acts.line node.role in
      by_pdus line.current.pdus (lines.is_ended line) refl none

  -- the node that hands out no PDU stays
  node_stays : IsNoPdu (take_from acts node).1 → (take_from acts node).0 ≡ node
  node_stays none = by_cause (cause_of node.course) none

module _ {K C S I O : Type 0} (w : World K C S I O) where
  client_by : (next : Shell C) (one : TakeAnswer) (over : Bool) → w.client_ended ≡ over
      → (IsNoPdu one → next ≡ w.company.client)
      → Leaves w (took Client over (taken_down w (next, one)))
  client_by next (takes.Pdu pdu) over is stays silent = absurd cc
  client_by next takes.Empty over is stays silent =
      ap (λ (node : Shell C). record w { company = record (w.company) { client = node } })
      (stays tt)
  client_by next takes.Ended true is stays silent =
      ap (λ (node : Shell C).
      record w { company = record (w.company) { client = node }; client_ended = true }) (stays tt)
      ∙ ap (λ (over : Bool). record w { client_ended = over }) (sym is)
  client_by next takes.Ended false is stays silent = absurd cc
  client_by next (takes.Closed why) over is stays silent =
      ap (λ (node : Shell C). record w { company = record (w.company) { client = node } })
      (stays tt)

  server_by : (next : Shell S) (one : TakeAnswer) (over : Bool) → w.server_ended ≡ over
      → (IsNoPdu one → next ≡ w.company.server)
      → Leaves w (took Server over (taken_up w (next, one)))
  server_by next (takes.Pdu pdu) over is stays silent = absurd cc
  server_by next takes.Empty over is stays silent =
      ap (λ (node : Shell S). record w { company = record (w.company) { server = node } })
      (stays tt)
  server_by next takes.Ended true is stays silent =
      ap (λ (node : Shell S).
      record w { company = record (w.company) { server = node }; server_ended = true }) (stays tt)
      ∙ ap (λ (over : Bool). record w { server_ended = over }) (sym is)
  server_by next takes.Ended false is stays silent = absurd cc
  server_by next (takes.Closed why) over is stays silent =
      ap (λ (node : Shell S). record w { company = record (w.company) { server = node } })
      (stays tt)

  pub take_leaves : (r : Rulebook C S I O) (d : Deeds C S) → AreSteady r d w.company
      → (end : Side) → Leaves w (take_one d end w)
  take_leaves r d steady Client =
      let did = take_from d.client w.company.client in
      client_by did.0 did.1 w.client_ended refl
      (node_stays d.client w.company.client steady.client_takes)
  take_leaves r d steady Server =
      let did = take_from d.server w.company.server in
      server_by did.0 did.1 w.server_ended refl
      (node_stays d.server w.company.server steady.server_takes)

-- ---- a leg ends

pub end_leaves : {K C S I O : Type 0} (r : Rulebook C S I O) (w : World K C S I O) (leg : Leg)
    → Leaves w (end_one r leg w)
end_leaves r w leg = by (ends_now r leg w)
  where
    by : (o : Option Dir) → Leaves w (end_where r leg w o)
    by None silent = refl
    by (Some dir) silent = absurd cc

-- where it doesn't end and nothing is in flight, neither of its ends has finished it
module _ {K C S I O : Type 0} (r : Rulebook C S I O) (w : World K C S I O) (leg : Leg) where
  none_now : IsSilent (end_one r leg w) → ends_now r leg w ≡ None
  none_now = by (ends_now r leg w)
    where
      by : (o : Option Dir) → IsSilent (end_where r leg w o) → o ≡ None
      by None silent = refl
      by (Some dir) silent = absurd cc

  neither : (up client server : Bool)
      → (if up then (if client then Some U else (if server then Some D else None))
      else None) ≡ None → up ≡ true → (client ≡ false) × (server ≡ false)
  neither true true server none is = absurd cc
  neither true false true none is = absurd cc
  neither true false false none is = (refl, refl)
  neither false client server none is = absurd cc

  not_first : (a b : Bool) → (a && b) ≡ false → b ≡ true → a ≡ false
  not_first true b none is = absurd (true≢false (sym is ∙ none))
  not_first false b none is = refl

  pub is_unfinished : IsSilent (end_one r leg w) → is_up w leg ≡ true
      → ((dir : Dir) → legs.is_clear leg dir w.legs ≡ true) → (end : Side)
      → company.finished r w.company (at w leg end) leg ≡ false
  is_unfinished silent up clear = by
    where
      both : (is_finished r leg U w ≡ false) × (is_finished r leg D w ≡ false)
      both =
          neither (is_up w leg) (is_finished r leg U w) (is_finished r leg D w) (none_now silent)
          up

      by : (end : Side) → company.finished r w.company (at w leg end) leg ≡ false
      by Client =
          not_first (company.finished r w.company (at w leg Client) leg)
          (legs.is_clear leg U w.legs) both.0 (clear U)
      by Server =
          not_first (company.finished r w.company (at w leg Server) leg)
          (legs.is_clear leg D w.legs) both.1 (clear D)
