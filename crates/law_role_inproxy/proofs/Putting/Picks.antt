-- what is so of each message that an in proxy may put, kind by kind, is so of the one that it puts
use Rattle.law_order.proofs.Vocabulary.{ℕ, if◌then◌else◌, Some, None, IfSome}
use Rattle.law_moves.proofs.Vocabulary.{by_test, Leg, Message}
use Rattle.law_role_inproxy.proofs.Vocabulary.{current_ack, next_ack, put_acks, Pick, or_else, put_end, settled, settled_pick, put_in_r1_a6, put_in_r2_a2, put_echo, put_first, put_pdu, put as put_of, next, put_behind, put_control, put_early, put_mark, put_stream, put_waiting, InProxy, is_client_leg, is_server_leg, put_ping}

module _ (P : InProxy × Message → Type 0) where
  abbrev pub So : Pick → Type 0
  So pick = IfSome pick P

  or_so : (a b : Pick) → So a → So b → So (or_else a b)
  or_so None b one other = other
  or_so (Some pick) b one other = one

  pub record Each (s : InProxy) : Type 0 where
    pub first : So (put_first s)
    pub joining : So (put_in_r2_a2 s)
    pub waiting : So (put_waiting s)
    pub current : So (current_ack s)
    pub later : So (next_ack s s.successor)
    pub pdu : So (put_pdu s)
    pub ending : So (put_end s)
    pub leaving : So (put_in_r1_a6 s)
    pub ping : So (put_ping s)
    pub echo : (number : ℕ) → So (put_echo s number)
    -- the work may be done by it
    pub settling : (t : InProxy) (m : Message) → P (t, m) → P (settled t, m)

  module _ (s : InProxy) (each : Each s) where
    settled_so : (pick : Pick) → So pick → So (settled_pick pick)
    settled_so None h = tt
    settled_so (Some one) h = each.settling one.0 one.1 h

    next_so : So (next s)
    next_so =
        or_so (put_control s) (put_stream s)
        (or_so (put_early s) (put_acks s)
        (or_so (put_first s) _ each.first
        (or_so (put_in_r2_a2 s) (put_waiting s) each.joining each.waiting))
        (or_so (current_ack s) (next_ack s s.successor) each.current each.later))
        (or_so (put_pdu s) (put_behind s) each.pdu
        (or_so (put_mark s) (put_ping s)
        (or_so (put_end s) (put_in_r1_a6 s) each.ending each.leaving) each.ping))

    pub put_so : (leg : Leg) → So (put_of s leg)
    put_so leg =
        by_test So (is_client_leg leg) (put_echo s leg.number)
        (if is_server_leg s leg then settled_pick (next s) else None)
        (λ e. each.echo leg.number)
        (λ e. by_test So (is_server_leg s leg) (settled_pick (next s)) None
        (λ f. settled_so (next s) next_so) (λ f. tt))
