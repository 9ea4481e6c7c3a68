-- what a server's is leg keeps that stays, where the server puts, and legs come up and are drawn
use Rattle.law_order.proofs.Vocabulary.{◌≡◌, ℕ, ◌==◌, Bool, true, false, true≢false, Some, None, refl, rules, sym, ap, ◌∙◌, IfSome, slice_get, Option}
use Rattle.rh_server.specs.declared.state.Leaving.TheVariants as leaving
use Rattle.rh_server.specs.declared.state.Greeting.TheVariants as greeting
use Rattle.rh_server.specs.declared.state.Tells.TheVariants as tells
use Rattle.law_moves.proofs.Vocabulary.{by_test, same_number, Cookie, Named, each_push, Leg, LegKind, ClientOut, OutServer, ClientIn, InServer, front_length, Due, Waiting, taken, Message}
use Rattle.law_role_server.proofs.Vocabulary.{InLeg, Leaving, OutLeg, Tells, Gate, lets, Server, has_left, in_leg, in_place, is_due, is_open, out_place, stays, without_in, in_leg_up, may_up, up, up_by, drawn_by, in_is_drawn, settled, Pick, or_else, put_in_greeting, put_tells_by, put_tells, told_by, was_current, put_b1_by, put_b1, put_ack, put_in_by, gate_at, next_out, out_greeting_at, pdu_by, put_by, put_end, put_open, put_out_at, put_out_greeting, put_pdu, put_pdu_or_end}
use Rattle.law_role_server.proofs.Vocabulary.{put_waiting, settled_pick, waiting_at, waiting_by, was_put}
use Rattle.law_node_ends.proofs.Passed.ServerLegs.{has_number, each_found, each_gone, found_number, IsFound, number_gone, number_more}
use Rattle.law_node_ends.proofs.Passed.ServerKept.{keeps_same, keeps_settled, with_stays}
use Rattle.law_node_ends.proofs.Passed.ServerKept as kept

module _ (n : ℕ) where
  abbrev IsStaying : InLeg → Type 0
  IsStaying = kept.IsStaying n

  abbrev Stays : Bool → Server → Type 0
  Stays = kept.Stays n

  abbrev Keeps : Server → Server → Type 0
  Keeps = kept.Keeps n

  abbrev Same : Server → Server → Type 0
  Same = kept.Same n

  module _ (has_come : Bool) where
    -- ---- what is put

    abbrev pub PutStays : Pick → Type 0
    PutStays pick = IfSome pick (λ (one : Server × Message). Stays has_come one.0)

    abbrev PutSame : Server → Pick → Type 0
    PutSame s pick = IfSome pick (λ (one : Server × Message). Same s one.0)

    same_put : (s : Server) (pick : Pick) → PutSame s pick → Stays has_come s → PutStays pick
    same_put s None same h = tt
    same_put s (Some one) same h = keeps_same n s one.0 same has_come h

    or_put : (a b : Pick) → PutStays a → PutStays b → PutStays (or_else a b)
    or_put None b h k = k
    or_put (Some pick) b h k = h

    same_told : (s : Server) (number : ℕ) → Same s (told_by s number)
    same_told s number = search rules

    tells_put : (s : Server) (leg : InLeg) (t : Tells) → IsStaying leg → Stays has_come s
        → PutStays (put_tells_by s leg t)
    tells_put s leg tells.Nothing is h = tt
    tells_put s leg tells.ConnB3 is h =
        by_test PutStays (is_open s.stage) _ None
        (λ t. with_stays n s (record leg { tells = tells.Nothing }) has_come is h) (λ t. tt)
    tells_put s leg tells.InR1B2 is h =
        by_test PutStays (was_current s leg) _ None
        (λ t. with_stays n (told_by s leg.number) (record leg { tells = tells.Nothing }) has_come is
        (keeps_same n s (told_by s leg.number) (same_told s leg.number) has_come h)) (λ t. tt)

    -- IN_R1/B1 goes on a leg that stays no more
    b1_put : (s : Server) (leg : InLeg) (x : Leaving) → leg.leaving ≡ x → IsStaying leg
        → Stays has_come s → PutStays (put_b1_by s leg x)
    b1_put s leg leaving.Stays same is h = tt
    b1_put s leg leaving.Left same is h = tt
    b1_put s leg leaving.Lost same is h = tt
    b1_put s leg leaving.InR1B1 same is h =
        with_stays n s (record leg { leaving = leaving.Left }) has_come
        (λ number. absurd (true≢false (sym (ap stays (is number).0) ∙ ap stays same))) h

    same_put_ack : (s : Server) (leg : InLeg) → PutSame s (put_ack s leg)
    same_put_ack s leg = search rules

    in_put : (s : Server) (o : Option InLeg) → IfSome o IsStaying → Stays has_come s
        → PutStays (put_in_by s o)
    in_put s None is h = tt
    in_put s (Some leg) is h =
        or_put (put_in_greeting s leg) _
        (by_test PutStays (is_due leg.greeting) _ None
        (λ t. with_stays n s (record leg { greeting = greeting.Put }) has_come is h) (λ t. tt))
        (or_put (put_tells s leg) _ (tells_put s leg leg.tells is h)
        (or_put (put_b1 s leg) (put_ack s leg) (b1_put s leg leg.leaving refl is h)
        (same_put s (put_ack s leg) (same_put_ack s leg) h)))

    same_out_greeting : (s : Server) (place : ℕ) (o : Option OutLeg)
        → PutSame s (out_greeting_at s place o)
    same_out_greeting s place o = search rules

    same_was_put : (s : Server) (place : ℕ) (m : Named) → Same s (was_put s place m)
    same_was_put s place m = search rules

    waiting_put : (s : Server) (place : ℕ) (o : Option Gate) → Stays has_come s
        → PutStays (waiting_at s place o)
    waiting_put s place None h = tt
    waiting_put s place (Some gate) h =
        found (taken (lets gate) s.waiting).0 (taken (lets gate) s.waiting).1
      where
        found : (w : Waiting) (o : Option Due) → PutStays (waiting_by s place (w, o))
        found w None = tt
        found w (Some due) =
            let t : Server = record s { waiting = w } in
            keeps_same n t (was_put t place due.packet) (same_was_put t place due.packet) has_come
            (record { each = h.each; there = h.there; work = h.work })

    same_put_pdu : (s : Server) (place : ℕ) (o : Option ℕ) → PutSame s (pdu_by s place o)
    same_put_pdu s place o = search rules

    same_put_end : (s : Server) (place : ℕ) → PutSame s (put_end s place)
    same_put_end s place = search rules

    settled_put : (pick : Pick) → PutStays pick → PutStays (settled_pick pick)
    settled_put None h = tt
    settled_put (Some pick) h = keeps_settled n pick.0 has_come h

    next_put : (s : Server) (place : ℕ) → Stays has_come s → PutStays (next_out s place)
    next_put s place h =
        or_put (put_waiting s place) (put_pdu_or_end s place)
        (waiting_put s place (gate_at s (slice_get s.outs place)) h)
        (or_put (put_pdu s place) (put_end s place)
        (same_put s (put_pdu s place) (same_put_pdu s place (front_length s.queue)) h)
        (same_put s (put_end s place) (same_put_end s place) h))

    out_put : (s : Server) (o : Option ℕ) → Stays has_come s → PutStays (put_out_at s o)
    out_put s None h = tt
    out_put s (Some place) h =
        or_put (put_out_greeting s place) (put_open s place)
        (same_put s (put_out_greeting s place)
        (same_out_greeting s place (slice_get s.outs place)) h)
        (by_test PutStays (is_open s.stage) (settled_pick (next_out s place)) None
        (λ t. settled_put (next_out s place) (next_put s place h)) (λ t. tt))

    pub put_stays : (s : Server) (number : ℕ) (k : LegKind) → Stays has_come s
        → PutStays (put_by s number k)
    put_stays s number InServer h =
        in_put s (in_leg number s.ins)
        (each_found IsStaying s.ins (in_place number s.ins) h.each) h
    put_stays s number OutServer h = out_put s (out_place number s.outs) h
    put_stays s number ClientIn h = tt
    put_stays s number ClientOut h = tt

  -- ---- legs come up, and are drawn to their ends

  pub keeps_up : (s : Server) (leg : Leg) (cookie : Cookie) → Keeps s (up s leg cookie)
  keeps_up s leg cookie has_come h =
      by_test (Stays has_come) (may_up s leg) (up_by s leg.number leg.kind) s (λ t. by leg.kind)
      (λ t. h)
    where
      by : (kind : LegKind) → Stays has_come (up_by s leg.number kind)
      by InServer = record {
        each = each_push IsStaying s.ins (in_leg_up leg.number) h.each (λ same. (refl, refl));
        there = λ e. number_more n s.ins (in_leg_up leg.number) (h.there e);
        work = h.work;
      }
      by OutServer = record { each = h.each; there = h.there; work = h.work }
      by ClientIn = h
      by ClientOut = h

  keeps_without : (s : Server) (number : ℕ) → in_is_drawn (in_leg number s.ins) ≡ true
      → Keeps s (without_in s number)
  keeps_without s number is_drawn has_come h = record {
    each = each_gone IsStaying s.ins (in_place number s.ins) h.each;
    there = λ e. by e (number == n) refl;
    work = h.work;
  }
    where
      stays_there : has_come ≡ true → number ≡ n → (o : Option InLeg)
          → IsFound number (has_number number s.ins) o → IfSome o IsStaying
          → in_is_drawn o ≡ true → ⊥
      stays_there e same None found is d =
          true≢false (sym (h.there e) ∙ ap (λ (k : ℕ). has_number k s.ins) (sym same) ∙ found)
      stays_there e same (Some leg) found is d =
          true≢false (sym d ∙ ap has_left (is (found ∙ same)).0)

      by : has_come ≡ true → (b : Bool) → number == n ≡ b
          → has_number n (without_in s number).ins ≡ true
      by e true same =
          absurd (stays_there e (same_number number n same) (in_leg number s.ins)
          (found_number number s.ins)
          (each_found IsStaying s.ins (in_place number s.ins) h.each) is_drawn)
      by e false other = number_gone n number s.ins other ∙ h.there e

  pub keeps_drawn : (s : Server) (number : ℕ) (k : LegKind) → Keeps s (drawn_by s number k)
  keeps_drawn s number InServer has_come h =
      by_test (Stays has_come) (in_is_drawn (in_leg number s.ins))
      (settled (without_in s number)) s
      (λ t. keeps_settled n (without_in s number) has_come (keeps_without s number t has_come h))
      (λ t. h)
  keeps_drawn s number OutServer has_come h = h
  keeps_drawn s number ClientIn has_come h = h
  keeps_drawn s number ClientOut has_come h = h
