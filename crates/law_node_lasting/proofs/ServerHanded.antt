-- a server may lose an is leg on which IN_R1/A6 came
use Rattle.law_order.proofs.Vocabulary.{◌≡◌, ℕ, ◌==◌, ◌&&◌, ◌||◌, Bool, true, false, not, List, Some, None, refl, ap, ◌∙◌, subst, IfSome, Option, has_handover}
use Rattle.rh_server.specs.Servers.{new_server, rooms}
use Rattle.law_moves.proofs.Vocabulary.{test_same, Leg, Pipe, InServer, EndPassage, all_end_moved, end_started, EndEvent, after_end_events}
use Rattle.law_role_server.proofs.Vocabulary.{InLeg, Server, stays, in_leg, in_place, acts, first, got, leg_at, rules as server_rules}
use Rattle.law_role_server.proofs.Numbered.{Once, once_at}
use Rattle.law_role_server_rows.proofs.InTurn.InKept.{number_of}
use Rattle.law_role_server_rows.proofs.InTurn.InPlaces.{Found, found_at}
use Rattle.law_role_server_rows.proofs.Putting.Each.{number_found}
use Rattle.law_role_marks.proofs.InMarks.{left_now_at}
use Rattle.law_node_streams.specs.Streams.{EndStream}
use Rattle.law_node_lasting.specs.Lasting.{in_stays, marks_left}

-- both say the same of the leg
abbrev Agrees : ℕ → Server → Type 0
Agrees n s = marks_left s (leg_at InServer n) ≡ server_rules.only_marks s (leg_at InServer n)

and_true : (b : Bool) → (b && true) ≡ b
and_true true = refl
and_true false = refl

agrees : (n : ℕ) (s : Server)
    → Once number_of n (λ (leg : InLeg). stays leg.leaving ≡ false) s.ins → Agrees n s
agrees n s left =
    ap (λ (b : Bool). server_rules.only_marks s (leg_at InServer n) && (not true || not b))
    (by (in_leg n s.ins) (found_at s.ins (in_place n s.ins))
    (number_found n s.ins (in_place n s.ins) refl))
    ∙ and_true (server_rules.only_marks s (leg_at InServer n))
  where
    by : (o : Option InLeg) → IfSome o (Found s.ins)
        → IfSome o (λ (leg : InLeg). leg.number ≡ n) → in_stays o ≡ false
    by None f number = refl
    by (Some leg) f number =
        once_at number_of n (λ (x : InLeg). stays x.leaving ≡ false) s.ins f.place leg f.at
        (ap (λ (k : ℕ). k == n) number ∙ test_same n) left

module _ (window : ℕ) (pipe : Leg → Option Pipe) (events : List EndEvent)
    (stream : EndStream server_rules acts (first window) rooms pipe events) (n : ℕ) where
  pub agrees_behind : has_handover (got stream.passage n) ≡ true
      → Agrees n (after_end_events server_rules acts (new_server window) events).role
  agrees_behind handed =
      subst (Agrees n) stream.role
      (subst (λ (p : EndPassage Server). has_handover (got p n) ≡ true → Agrees n p.passage.role)
      stream.leads.reached
      (λ came. agrees n
      (all_end_moved server_rules acts (end_started (first window)) stream.leads.moves).passage.role
      (left_now_at window stream.leads.moves stream.leads.allowed n came).1) handed)
