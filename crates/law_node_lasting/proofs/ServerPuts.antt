-- what a server's is leg keeps, where the server puts, and legs come up and are drawn
use Rattle.law_order.proofs.Vocabulary.{◌≡◌, ◌⊎◌, inl, inr, ℕ, ◌==◌, Bool, true, false, true≢false, Some, None, refl, rules, sym, ap, ◌∙◌, subst, IfSome, slice_get, Option}
use Rattle.rh_server.specs.declared.state.Leaving.TheVariants as leaving
use Rattle.rh_server.specs.declared.state.Greeting.TheVariants as greeting
use Rattle.rh_server.specs.declared.state.Tells.TheVariants as tells
use Rattle.law_moves.proofs.Vocabulary.{by_test, same_number, test_same, Cookie, Named, InR1B1, each_push, Leg, LegKind, ClientOut, OutServer, ClientIn, InServer, front_length, Due, Waiting, taken, Message, Packet}
use Rattle.law_role_server.proofs.Vocabulary.{InLeg, Leaving, OutLeg, Tells, Gate, lets, Server, has_left, in_leg, in_place, is_due, is_open, out_place, without_in, in_leg_up, may_up, up, up_by, drawn_by, in_is_drawn, settled, Pick, or_else, put_in_greeting, put_tells_by, put_tells, told_by, was_current, put_b1_by, put_b1, put_ack, put_in_by, gate_at, next_out, out_greeting_at, pdu_by, put_by, put_end, put_open, put_out_at, put_out_greeting, put_pdu, put_pdu_or_end}
use Rattle.law_role_server.proofs.Vocabulary.{put_waiting, settled_pick, waiting_at, waiting_by, was_put}
use Rattle.law_node_lasting.proofs.ServerLegs.{has_number, each_found, each_gone, found_number, IsFound, number_gone, number_more}
use Rattle.law_node_lasting.proofs.ServerStays.{keeps_same, keeps_settled, with_stays}
use Rattle.law_node_lasting.proofs.ServerStays as kept

-- L: how the leg of this number may leave, where it neither left nor is lost
module _ (n : ℕ) (L : Leaving → Type 0) (kept_not : L leaving.Lost → ⊥)
    (left_not : L leaving.Left → ⊥) (new : L leaving.Stays) where
  abbrev IsStaying : InLeg → Type 0
  IsStaying = kept.IsStaying n L kept_not

  abbrev Stays : Bool → Server → Type 0
  Stays = kept.Stays n L kept_not

  abbrev Keeps : Server → Server → Type 0
  Keeps = kept.Keeps n L kept_not

  abbrev Same : Server → Server → Type 0
  Same = kept.Same n L kept_not

  module _ (has_come : Bool) where
    -- ---- what is put

    -- IN_R1/B1 is put on the leg
    abbrev pub PutsB1 : ℕ → Message → Type 0
    PutsB1 k message = (message ≡ Packet InR1B1) × (k ≡ n) × L leaving.InR1B1

    -- what is put on the leg of number k keeps it, or is IN_R1/B1
    abbrev pub PutStays : ℕ → Pick → Type 0
    PutStays k pick =
        IfSome pick (λ (one : Server × Message). Stays has_come one.0 ⊎ PutsB1 k one.1)

    abbrev PutSame : Server → Pick → Type 0
    PutSame s pick = IfSome pick (λ (one : Server × Message). Same s one.0)

    same_put : (k : ℕ) (s : Server) (pick : Pick) → PutSame s pick → Stays has_come s
        → PutStays k pick
    same_put k s None same h = tt
    same_put k s (Some one) same h = inl (keeps_same n L kept_not s one.0 same has_come h)

    or_put : (k : ℕ) (a b : Pick) → PutStays k a → PutStays k b → PutStays k (or_else a b)
    or_put k None b h other = other
    or_put k (Some pick) b h other = h

    same_told : (s : Server) (number : ℕ) → Same s (told_by s number)
    same_told s number = search rules

    module _ (s : Server) (leg : InLeg) (k : ℕ) (number : leg.number ≡ k) (is : IsStaying leg)
        (h : Stays has_come s) where
      tells_put : (t : Tells) → PutStays k (put_tells_by s leg t)
      tells_put tells.Nothing = tt
      tells_put tells.ConnB3 =
          by_test (PutStays k) (is_open s.stage) _ None
          (λ t. inl (with_stays n L kept_not s (record leg { tells = tells.Nothing }) has_come is
          h)) (λ t. tt)
      tells_put tells.InR1B2 =
          by_test (PutStays k) (was_current s leg) _ None
          (λ t. inl (with_stays n L kept_not (told_by s leg.number)
          (record leg { tells = tells.Nothing }) has_come is
          (keeps_same n L kept_not s (told_by s leg.number) (same_told s leg.number) has_come h)))
          (λ t. tt)

      b1_put : (x : Leaving) → leg.leaving ≡ x → PutStays k (put_b1_by s leg x)
      b1_put leaving.Stays same = tt
      b1_put leaving.Left same = tt
      b1_put leaving.Lost same = tt
      b1_put leaving.InR1B1 same = by (leg.number == n) refl
        where
          by : (b : Bool) → leg.number == n ≡ b → PutStays k (put_b1_by s leg leaving.InR1B1)
          by true e =
              let own = same_number leg.number n e in
              inr (refl, sym number ∙ own, subst L same (is own))
          by false e =
              inl (with_stays n L kept_not s (record leg { leaving = leaving.Left }) has_come
              (λ own. absurd (true≢false (sym (test_same n)
              ∙ ap (λ (j : ℕ). j == n) (sym own) ∙ e))) h)

      same_put_ack : PutSame s (put_ack s leg)
      same_put_ack = search rules

      leg_put : PutStays k (put_in_by s (Some leg))
      leg_put =
          or_put k (put_in_greeting s leg) _
          (by_test (PutStays k) (is_due leg.greeting) _ None
          (λ t. inl (with_stays n L kept_not s (record leg { greeting = greeting.Put }) has_come
          is h)) (λ t. tt))
          (or_put k (put_tells s leg) _ (tells_put leg.tells)
          (or_put k (put_b1 s leg) (put_ack s leg) (b1_put leg.leaving refl)
          (same_put k s (put_ack s leg) same_put_ack h)))

    in_put : (s : Server) (k : ℕ) (o : Option InLeg) → IsFound k (has_number k s.ins) o
        → IfSome o IsStaying → Stays has_come s → PutStays k (put_in_by s o)
    in_put s k None found is h = tt
    in_put s k (Some leg) found is h = leg_put s leg k found is h

    same_out_greeting : (s : Server) (place : ℕ) (o : Option OutLeg)
        → PutSame s (out_greeting_at s place o)
    same_out_greeting s place o = search rules

    same_was_put : (s : Server) (place : ℕ) (m : Named) → Same s (was_put s place m)
    same_was_put s place m = search rules

    waiting_put : (k : ℕ) (s : Server) (place : ℕ) (o : Option Gate) → Stays has_come s
        → PutStays k (waiting_at s place o)
    waiting_put k s place None h = tt
    waiting_put k s place (Some gate) h =
        found (taken (lets gate) s.waiting).0 (taken (lets gate) s.waiting).1
      where
        found : (w : Waiting) (o : Option Due) → PutStays k (waiting_by s place (w, o))
        found w None = tt
        found w (Some due) =
            let t : Server = record s { waiting = w } in
            inl (keeps_same n L kept_not t (was_put t place due.packet)
            (same_was_put t place due.packet) has_come
            (record { each = h.each; there = h.there; work = h.work }))

    same_put_pdu : (s : Server) (place : ℕ) (o : Option ℕ) → PutSame s (pdu_by s place o)
    same_put_pdu s place o = search rules

    same_put_end : (s : Server) (place : ℕ) → PutSame s (put_end s place)
    same_put_end s place = search rules

    settled_put : (k : ℕ) (pick : Pick) → PutStays k pick → PutStays k (settled_pick pick)
    settled_put k None h = tt
    settled_put k (Some pick) (inl h) = inl (keeps_settled n L kept_not pick.0 has_come h)
    settled_put k (Some pick) (inr b1) = inr b1

    next_put : (k : ℕ) (s : Server) (place : ℕ) → Stays has_come s
        → PutStays k (next_out s place)
    next_put k s place h =
        or_put k (put_waiting s place) (put_pdu_or_end s place)
        (waiting_put k s place (gate_at s (slice_get s.outs place)) h)
        (or_put k (put_pdu s place) (put_end s place)
        (same_put k s (put_pdu s place) (same_put_pdu s place (front_length s.queue)) h)
        (same_put k s (put_end s place) (same_put_end s place) h))

    out_put : (k : ℕ) (s : Server) (o : Option ℕ) → Stays has_come s
        → PutStays k (put_out_at s o)
    out_put k s None h = tt
    out_put k s (Some place) h =
        or_put k (put_out_greeting s place) (put_open s place)
        (same_put k s (put_out_greeting s place)
        (same_out_greeting s place (slice_get s.outs place)) h)
        (by_test (PutStays k) (is_open s.stage) (settled_pick (next_out s place)) None
        (λ t. settled_put k (next_out s place) (next_put k s place h)) (λ t. tt))

    pub put_stays : (s : Server) (number : ℕ) (k : LegKind) → Stays has_come s
        → PutStays number (put_by s number k)
    put_stays s number InServer h =
        in_put s number (in_leg number s.ins) (found_number number s.ins)
        (each_found IsStaying s.ins (in_place number s.ins) h.each) h
    put_stays s number OutServer h = out_put number s (out_place number s.outs) h
    put_stays s number ClientIn h = tt
    put_stays s number ClientOut h = tt

  -- ---- legs come up, and are drawn to their ends

  pub keeps_up : (s : Server) (leg : Leg) (cookie : Cookie) → Keeps s (up s leg cookie)
  keeps_up s leg cookie has_come h =
      by_test (Stays has_come) (may_up s leg) (up_by s leg.number leg.kind) s (λ t. by leg.kind)
      (λ t. h)
    where
      by : (kind : LegKind) → Stays has_come (up_by s leg.number kind)
      by InServer = record {
        each = each_push IsStaying s.ins (in_leg_up leg.number) h.each (λ same. new);
        there = λ e. number_more n s.ins (in_leg_up leg.number) (h.there e);
        work = h.work;
      }
      by OutServer = record { each = h.each; there = h.there; work = h.work }
      by ClientIn = h
      by ClientOut = h

  no_leaving : (x : Leaving) → L x → has_left x ≡ true → ⊥
  no_leaving leaving.Stays l e = true≢false (sym e)
  no_leaving leaving.InR1B1 l e = true≢false (sym e)
  no_leaving leaving.Left l e = left_not l
  no_leaving leaving.Lost l e = true≢false (sym e)

  keeps_without : (s : Server) (number : ℕ) → in_is_drawn (in_leg number s.ins) ≡ true
      → Keeps s (without_in s number)
  keeps_without s number is_drawn has_come h = record {
    each = each_gone IsStaying s.ins (in_place number s.ins) h.each;
    there = λ e. by e (number == n) refl;
    work = h.work;
  }
    where
      stays_there : has_come ≡ true → number ≡ n → (o : Option InLeg)
          → IsFound number (has_number number s.ins) o → IfSome o IsStaying
          → in_is_drawn o ≡ true → ⊥
      stays_there e same None found is d =
          true≢false (sym (h.there e) ∙ ap (λ (k : ℕ). has_number k s.ins) (sym same) ∙ found)
      stays_there e same (Some leg) found is d =
          no_leaving leg.leaving (is (found ∙ same)) d

      by : has_come ≡ true → (b : Bool) → number == n ≡ b
          → has_number n (without_in s number).ins ≡ true
      by e true same =
          absurd (stays_there e (same_number number n same) (in_leg number s.ins)
          (found_number number s.ins)
          (each_found IsStaying s.ins (in_place number s.ins) h.each) is_drawn)
      by e false other = number_gone n number s.ins other ∙ h.there e

  pub keeps_drawn : (s : Server) (number : ℕ) (k : LegKind) → Keeps s (drawn_by s number k)
  keeps_drawn s number InServer has_come h =
      by_test (Stays has_come) (in_is_drawn (in_leg number s.ins))
      (settled (without_in s number)) s
      (λ t. keeps_settled n L kept_not (without_in s number) has_come (keeps_without s number t has_come h))
      (λ t. h)
  keeps_drawn s number OutServer has_come h = h
  keeps_drawn s number ClientIn has_come h = h
  keeps_drawn s number ClientOut has_come h = h
