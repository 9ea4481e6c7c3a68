-- behind IN_R1/A6 an in proxy puts only Pings; so each message stands in its order
use Rattle.law_order.proofs.Vocabulary.{◌≡◌, ℕ, ◌&&◌, ◌||◌, Bool, true, false, true≢false, not, List, [], ◌∷◌, ◌++◌, Some, None, refl, sym, ap, ◌∙◌, subst, Option}
use Rattle.rh_sig.specs.declared.named.Named.TheVariants as named
use Rattle.rh_line.specs.Lines as line
use Rattle.rh_inproxy.specs.declared.state.Handover.TheVariants as handovers
use Rattle.law_moves.proofs.Vocabulary.{Ack, by_test, neither, Current, Due, Message, Packet, OnLeg}
use Rattle.law_role_inproxy.proofs.Vocabulary.{Handover, InProxyConfig, Opening, AwaitsClient, AwaitsPacket, WantsServer, Announces, Announced, Successor, Absent, Up, Joined, ack_by, current_ack, next_ack, put_acks, Pick, or_else, is_announced, put_end, settled, settled_pick, told_by as tells_by, put_in_r2_a2, mark_by, put_in_r1_a6, first_by, put_first, has_server, is_absent, next_pdu, put_pdu, next, waiting_by, put_waiting, put_control, put_early, put_stream, put_behind}
use Rattle.law_role_inproxy.proofs.Vocabulary.{put_mark, InProxy, has_a5, has_come, hands_over, put_ping}
use Rattle.law_role_inproxy.proofs.Putting.Fronts.{ping_more}
use Rattle.law_role_inproxy.proofs.Putting.Sounds.{seen, IsLeaving, IsQuiet, told, told_by, last, same_moves}
use Rattle.law_role_inproxy.proofs.Putting.Tests.{same_settled}
use Rattle.law_role_inproxy.proofs.Putting.Stands.{Stands, still, first_goes}
use Rattle.law_role_inproxy.proofs.Putting.Goes.{unmarked_goes}
use Rattle.law_role_inproxy.proofs.Putting.Stands as stands

first_two : (a b c : Bool) → a && b && c ≡ true → a && b ≡ true
first_two false b c e = absurd cc
first_two true false c e = absurd cc
first_two true true c e = refl

module _ (config : InProxyConfig) (came : List OnLeg) (ms : List Message) (s : InProxy)
    (h : Stands config came ms s) (announced : is_announced s.opening ≡ true)
    (is_passed : s.handover ≡ handovers.Passed) where
  abbrev Goes : Pick → Type 0
  Goes pick = stands.Goes config came ms s h pick

  abbrev n : ℕ
  n = s.current.number

  or_goes : (a b : Pick) → Goes a → (a ≡ None → Goes b) → Goes (or_else a b)
  or_goes a b = stands.or_stands config came ms s h a b

  absent : s.successor ≡ Absent
  absent =
      alone s.successor
      (subst (λ (x : Handover). IsLeaving came n x s.successor) is_passed h.sound.leaving)
    where
      alone : (z : Successor) → IsLeaving came n handovers.Passed z → z ≡ Absent
      alone Absent l = refl
      alone (Up number) l = absurd l
      alone (Joined leg stage) l = absurd l

  quiet : IsQuiet handovers.Passed s.waiting.due s.line.current.pdus s.line.current.ended
      s.end_put
  quiet =
      subst (λ (x : Handover). IsQuiet x s.waiting.due s.line.current.pdus
      s.line.current.ended s.end_put) is_passed h.sound.quiet

  over : hands_over s.successor s.handover ≡ true
  over =
      ap (λ (z : Successor). hands_over z s.handover) absent ∙ ap has_come is_passed

  no_ack : Goes (current_ack s)
  no_ack =
      by_test (λ (o : Option Ack). Goes (ack_by s Current s.current.cookie o))
      ((line.channel_of s.line Current).ended || has_a5 s Current) None
      (line.due s.line Current) (λ e. tt)
      (λ e. absurd (true≢false (sym over
      ∙ (neither (line.channel_of s.line Current).ended (has_a5 s Current) e).1)))

  ping_goes : Goes (put_ping s)
  ping_goes =
      let none : last (seen s) ≡ None =
      ap (λ (x : Handover). told_by n s.successor x) is_passed in
      by_test Goes s.ping_due (Some (record s { ping_due = false }, Packet named.Ping)) None
      (λ e. stands.more config came ms s h announced (record s { ping_due = false })
      (Packet named.Ping) h.sound announced
      (λ rest stands now.
      let both = ping_more came config.number rest (now ∙ none) stands in
      (both.0, both.1 ∙ sym none)))
      (λ e. tt)

  no_end : Goes (put_end s)
  no_end =
      by_test Goes (s.line.current.ended && not s.end_put && line.is_empty s.line.current.pdus)
      (Some (record s { end_put = true }, Packet named.EndA2)) None
      (λ e. absurd (true≢false (sym (first_two s.line.current.ended (not s.end_put)
      (line.is_empty s.line.current.pdus) e) ∙ quiet.2)))
      (λ e. tt)

  passed_goes : Goes (next s)
  passed_goes =
      or_goes (put_control s) (put_stream s)
      (or_goes (put_early s) (put_acks s)
      (or_goes (put_first s) (or_else (put_in_r2_a2 s) (put_waiting s))
      (stands.no_first config came ms s h announced s.opening announced)
      (λ e. or_goes (put_in_r2_a2 s) (put_waiting s)
      (subst (λ (z : Successor). Goes (tells_by s z)) (sym absent) tt)
      (λ f. subst (λ (dues : List Due). Goes (waiting_by s dues)) (sym quiet.0) tt)))
      (λ e. or_goes (current_ack s) (next_ack s s.successor) no_ack
      (λ f. subst (λ (z : Successor). Goes (next_ack s z)) (sym absent) tt)))
      (λ e. or_goes (put_pdu s) (put_behind s)
      (subst (λ (pdus : List (List ℕ)). Goes (next_pdu s pdus)) (sym quiet.1) tt)
      (λ f. or_goes (put_mark s) (put_ping s)
      (or_goes (put_end s) (put_in_r1_a6 s) no_end
      (λ g. by_test Goes (is_absent s.successor && line.is_empty s.line.current.pdus)
      (mark_by s s.handover) None
      (λ i. subst (λ (x : Handover). Goes (mark_by s x)) (sym is_passed) tt) (λ i. tt)))
      (λ g. ping_goes)))

module _ (config : InProxyConfig) (came : List OnLeg) (ms : List Message) (s : InProxy)
    (h : Stands config came ms s) where
  abbrev IsRight : Pick → Type 0
  IsRight pick = stands.Goes config came ms s h pick

  next_goes : is_announced s.opening ≡ true → IsRight (next s)
  next_goes announced = by s.handover refl
    where
      by : (x : Handover) → s.handover ≡ x → IsRight (next s)
      by handovers.Passed e = passed_goes config came ms s h announced e
      by handovers.Before e =
          unmarked_goes config came ms s h announced (told s.current.number s.successor)
          (ap (λ (x : Handover). told_by s.current.number s.successor x) e)
      by (handovers.Came cookie) e =
          unmarked_goes config came ms s h announced (told s.current.number s.successor)
          (ap (λ (x : Handover). told_by s.current.number s.successor x) e)

  -- once the leg is up
  up_goes : (o : Opening) → s.opening ≡ o → has_server o ≡ true → IsRight (next s)
  up_goes AwaitsClient e up = absurd cc
  up_goes AwaitsPacket e up = absurd cc
  up_goes (WantsServer o) e up = absurd cc
  up_goes (Announced o) e up = next_goes (ap is_announced e)
  up_goes (Announces o) e up =
      subst (λ (x : Opening). IsRight (or_else (or_else (or_else (first_by s x)
      (or_else (put_in_r2_a2 s) (put_waiting s))) (put_acks s)) (put_stream s)))
      (sym e) (first_goes config came ms s h o e)

  pub server_goes : has_server s.opening ≡ true
      → stands.Goes config came ms s h (settled_pick (next s))
  server_goes up = by (next s) (up_goes s.opening refl up)
    where
      by : (pick : Pick) → IsRight pick → IsRight (settled_pick pick)
      by None k = tt
      by (Some pick) k =
          still config came (ms ++ pick.1 ∷ []) pick.0 (settled pick.0)
          (same_moves config came pick.0 (settled pick.0) (same_settled pick.0) k.sound)
          k.stream k.at k.last
