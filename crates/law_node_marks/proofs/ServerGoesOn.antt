-- the node of a server goes on where an is leg ends behind IN_R1/A6, or behind END both ways
use Rattle.law_order.proofs.Vocabulary.{◌≡◌, ◌&&◌, inl, inr, ℕ, Bool, true, false, true≢false, not, refl, sym, subst, Option, List, ◌⊎◌, has_end, has_handover}
use Rattle.rh_line.specs.declared.leg.LegKind.TheVariants.{InServer}
use Rattle.rh_server.specs.Servers as server
use Rattle.rh_server.specs.States.{is_put}
use Rattle.law_moves.proofs.Vocabulary.{EndPassage, Leg, Pipe, Rules, Shell, EndEvent, after_end_events, all_end_moved, end_started, ended, is_at_work}
use Rattle.law_role_server.proofs.Vocabulary.{Server, got, leg_at}
use Rattle.law_node_streams.specs.Streams.{EndStream}
use Rattle.law_role_marks.specs.Marking.{OnlyMarks}
use Rattle.law_node_marks.specs.Losing.{DrewAll, MayLose}
use Rattle.law_node_marks.proofs.GoesOn.{goes_on}

both : (a b : Bool) → a ≡ true → b ≡ false → a && not b ≡ true
both true false e f = refl
both true true e f = absurd (true≢false f)
both false b e f = absurd (true≢false (sym e))

may_lose : {S : Type 0} (rules : Rules S) (node : Shell S) (leg : Leg)
    → OnlyMarks rules node.role leg → (rules.is_done node.role leg ≡ true → DrewAll node leg)
    → MayLose rules node leg
may_lose rules node leg marks drew work = by (rules.is_done node.role leg) refl
  where
    by : (t : Bool) → rules.is_done node.role leg ≡ t
        → (rules.only_marks node.role leg ≡ true)
        ⊎ ((rules.is_done node.role leg ≡ true) × DrewAll node leg)
    by true e = inr (e, drew e)
    by false e =
        inl (marks (both (is_at_work rules node.role) (rules.is_done node.role leg) work e))

module _ (window : ℕ) (pipe : Leg → Option Pipe) (events : List EndEvent)
    (stream : EndStream server.rules server.acts (server.first window) server.rooms pipe events)
    (n : ℕ) where
  abbrev node : Shell Server
  node = after_end_events server.rules server.acts (server.new_server window) events

  abbrev is : Leg
  is = leg_at InServer n

  abbrev reached : EndPassage Server
  reached = all_end_moved server.rules server.acts (end_started (server.first window))
      stream.leads.moves

  goes_where : OnlyMarks server.rules stream.passage.passage.role is
      → (server.rules.is_done node.role is ≡ true → DrewAll node is)
      → (ended server.rules node is).0.course ≡ node.course
  goes_where marks drew =
      goes_on server.rules node is
      (may_lose server.rules node is
      (subst (λ (s : Server). OnlyMarks server.rules s is) stream.role marks) drew)

  pub goes_behind_a6 : (has_handover (got reached n) ≡ true
      → OnlyMarks server.rules reached.passage.role is)
      → has_handover (got stream.passage n) ≡ true
      → (server.rules.is_done node.role is ≡ true → DrewAll node is)
      → (ended server.rules node is).0.course ≡ node.course
  goes_behind_a6 law handed =
      goes_where (subst (λ (p : EndPassage Server). has_handover (got p n) ≡ true
      → OnlyMarks server.rules p.passage.role is) stream.leads.reached law handed)

  pub goes_behind_end : (has_end (got reached n) ≡ true
      → is_put reached.passage.role.end_mark ≡ true
      → OnlyMarks server.rules reached.passage.role is)
      → has_end (got stream.passage n) ≡ true
      → is_put stream.passage.passage.role.end_mark ≡ true
      → (server.rules.is_done node.role is ≡ true → DrewAll node is)
      → (ended server.rules node is).0.course ≡ node.course
  goes_behind_end law came put =
      goes_where (subst (λ (p : EndPassage Server). has_end (got p n) ≡ true
      → is_put p.passage.role.end_mark ≡ true
      → OnlyMarks server.rules p.passage.role is) stream.leads.reached law came put)
