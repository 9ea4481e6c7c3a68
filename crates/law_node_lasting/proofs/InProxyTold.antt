-- an in proxy whose work is done was told so by IN_R1/B1, or lost its newest ci leg behind END
use Rattle.law_order.proofs.Vocabulary.{◌≡◌, ◌⊎◌, inl, inr, ◌&&◌, ◌∙◌, ℕ, Bool, true, false, true≢false, not, List, [], ◌∷◌, ◌++◌, Some, None, Ok, Err, refl, sym, ap, subst, and_parts, AllByRecursion, if◌then◌else◌, IfSome}
use Rattle.rh_sig.specs.declared.named.Named.TheVariants as packets
use Rattle.rh_inproxy.specs.declared.state.Opening.TheVariants as openings
use Rattle.rh_inproxy.specs.declared.state.Work.TheVariants as works
use Rattle.law_moves.proofs.Vocabulary.{by_test, test_same, Named, ConnB3, InR1B1, InR1B2, request_verdict, Leg, Count, is_ended, Message, Pdu, Packet, Row, same_leg, of_leg, put_by, taken_by, Has, AreAllowed, MayMove, Move, Up, HeadCame, PduCame, PacketCame, Puts, IsDrawn, Marks, Pings, Passage, started, moved, all_moved, is_at_work, is_in_use}
use Rattle.law_moves.proofs.Lemmas.{has_last, leg_is, leg_more}
use Rattle.law_role_inproxy.proofs.Vocabulary.{InProxyConfig, Opening, Work, Done, Pick, taken, unexpected, InProxy, first, has_come, has_passed, is_client_leg, is_server_leg, drawn, drawn_by, echo_by, is_newest, is_over, is_drained, newest_ended, phase_by, settled, settled_pick, on_ci, on_is, on_conn_b3, on_in_r1_b2, on_ack, pdu, packet, ping, put_echo, next, put as put_of, rules as proxy_rules, is_leg}
use Rattle.law_node_ends.specs.Passed.{AsksNoEcho, HeadsAre}
use Rattle.law_node_marks.proofs.InProxyRows.{IsUnderway, ci_kept, head_fine, next_kept, pdu_kept, same_ack, same_b2, same_conn_b3, same_kept, up_kept}
use Rattle.law_node_marks.proofs.InProxyRows as rows
use Rattle.law_node_lasting.specs.Lasting.{IsLostUnhanded}

-- IN_R1/B1 came on its is leg, behind IN_R1/A6
pub record IsTold (p : Passage InProxy) : Type 0 where
  pub passed : has_passed p.role.handover ≡ true
  pub told : Has InR1B1 (of_leg (is_leg p.role.config.number) p.came)

pub record IsOver (p : Passage InProxy) : Type 0 where
  pub done : p.role.work ≡ works.Done
  pub why : IsTold p ⊎ IsLostUnhanded p.role

-- the work goes on
abbrev Fine : InProxy → Type 0
Fine = rows.Fine ⊥

-- or is over
abbrev pub Goes : Passage InProxy → Type 0
Goes p = Fine p.role ⊎ IsOver p

underway : (s : InProxy) → s.work ≡ works.Underway → Fine s
underway s e = record { handed = λ none. absurd none; work = e }

at_work : (s : InProxy) → s.work ≡ works.Done → is_at_work proxy_rules s ≡ true → ⊥
at_work s e works_on =
    true≢false (sym works_on ∙ ap (λ (w : Work). not (is_ended (phase_by w s.opening))) e)

works_on : (s : InProxy) (leg : Leg) → is_in_use proxy_rules s leg ≡ true
    → is_at_work proxy_rules s ≡ true
works_on s leg used = (and_parts (is_at_work proxy_rules s) (not (proxy_rules.is_done s leg)) used).0

fine : (p : Passage InProxy) → is_at_work proxy_rules p.role ≡ true → Goes p → Fine p.role
fine p going (inl h) = h
fine p going (inr over) = absurd (at_work p.role over.done going)

-- ---- rows

row_fine : (p : Passage InProxy) (leg : Leg) (m : Message) (x : InProxy × Row) → Fine x.0
    → Goes (taken_by p leg m x)
row_fine p leg m (s, Ok taken) h = inl h
row_fine p leg m (s, Err refused) h = inl h

b1_came : (p : Passage InProxy) (leg : Leg) → is_server_leg p.role leg ≡ true
    → Has InR1B1 (of_leg (is_leg p.role.config.number) (p.came ++ (leg, Packet InR1B1) ∷ []))
b1_came p leg server =
    subst (Has InR1B1)
    (sym (leg_more own p.came (leg, Packet InR1B1)
    ∙ ap (λ (b : Bool). of_leg own p.came ++ (if b then Packet InR1B1 ∷ [] else [])) here))
    (has_last InR1B1 (of_leg own p.came))
  where
    own : Leg
    own = is_leg p.role.config.number

    here : same_leg leg own ≡ true
    here =
        subst (λ (l : Leg). same_leg l own ≡ true) (leg_is own leg server)
        (test_same p.role.config.number)

is_goes : (p : Passage InProxy) (leg : Leg) (m : Named) → is_server_leg p.role leg ≡ true
    → Fine p.role → Goes (taken_by p leg (Packet m) (on_is p.role m))
is_goes p leg (ConnB3 size version) server h =
    row_fine p leg (Packet (ConnB3 size version)) (on_conn_b3 p.role size)
    (same_kept ⊥ IsUnderway p.role (on_conn_b3 p.role size).0 (same_conn_b3 p.role size) h)
is_goes p leg (InR1B2 size) server h =
    row_fine p leg (Packet (InR1B2 size)) (on_in_r1_b2 p.role size)
    (same_kept ⊥ IsUnderway p.role (on_in_r1_b2 p.role size).0 (same_b2 p.role size) h)
is_goes p leg (packets.Ack received available channel) server h =
    row_fine p leg (Packet (packets.Ack received available channel))
    (on_ack p.role received available channel)
    (same_kept ⊥ IsUnderway p.role (on_ack p.role received available channel).0
    (same_ack p.role received available channel) h)
is_goes p leg InR1B1 server h =
    by_test (λ (x : Done). Goes (taken_by p leg (Packet InR1B1) x)) (has_passed p.role.handover)
    (taken (record (p.role) { work = works.Done })) (unexpected p.role)
    (λ e. inr (record {
      done = refl;
      why = inl (record { passed = e; told = b1_came p leg server });
    }))
    (λ e. inl h)
is_goes p leg m server h = inl h

packet_goes : (p : Passage InProxy) (leg : Leg) (count : Count) (m : Named) → Fine p.role
    → Goes (taken_by p leg (Packet m) (packet p.role leg count m))
packet_goes p leg count m h =
    by_test At (is_client_leg leg) (on_ci p.role leg.number m)
    (if is_server_leg p.role leg then on_is p.role m else unexpected p.role)
    (λ e. row_fine p leg (Packet m) (on_ci p.role leg.number m)
    (ci_kept ⊥ IsUnderway p.role leg.number m h))
    (λ e. by_test At (is_server_leg p.role leg) (on_is p.role m) (unexpected p.role)
    (λ f. is_goes p leg m f h) (λ f. inl h))
  where
    At : Done → Type 0
    At x = Goes (taken_by p leg (Packet m) x)

-- ---- the work is over where the newest ci leg is lost behind END

settled_goes : (p : Passage InProxy) (s : InProxy) → Fine s
    → Goes (record p { role = settled s })
settled_goes p s h =
    by_test (λ (t : InProxy). Goes (record p { role = t })) (is_over s)
    (record s { work = works.Done }) s
    (λ e. inr (record {
      done = refl;
      why = inr (unhanded s.newest_lost (newest_ended s s.successor) (has_come s.handover)
          (is_drained s) e);
    }))
    (λ e. inl h)
  where
    unhanded : (a b c d : Bool) → (a && b && not c && d) ≡ true
        → (a ≡ true) × (c ≡ false)
    unhanded true true false d e = (refl, refl)
    unhanded true true true d e = absurd (true≢false (sym e))
    unhanded true false c d e = absurd (true≢false (sym e))
    unhanded false b c d e = absurd (true≢false (sym e))

put_goes : (p : Passage InProxy) (leg : Leg) (pick : Pick) → Fine p.role
    → IfSome pick (λ (one : InProxy × Message). Fine one.0)
    → Goes (put_by p leg (settled_pick pick))
put_goes p leg None h goes = inl h
put_goes p leg (Some one) h goes = by (settled_goes p one.0 goes)
  where
    by : Goes (record p { role = settled one.0 })
        → Goes (put_by p leg (Some (settled one.0, one.1)))
    by (inl now) = inl now
    by (inr over) = inr (record { done = over.done; why = why over.why })
      where
        why : IsTold (record p { role = settled one.0 }) ⊎ IsLostUnhanded (settled one.0)
            → IsTold (put_by p leg (Some (settled one.0, one.1)))
            ⊎ IsLostUnhanded (settled one.0)
        why (inl t) = inl (record { passed = t.passed; told = t.told })
        why (inr lost) = inr lost

puts_go : (p : Passage InProxy) (leg : Leg) → Fine p.role
    → Goes (put_by p leg (put_of p.role leg))
puts_go p leg h =
    by_test At (is_client_leg leg) (put_echo p.role leg.number)
    (if is_server_leg p.role leg then settled_pick (next p.role) else None)
    (λ e. no_echo p.role.work h.work)
    (λ e. by_test At (is_server_leg p.role leg) (settled_pick (next p.role)) None
    (λ f. put_goes p leg (next p.role) h (next_kept ⊥ IsUnderway p.role h)) (λ f. inl h))
  where
    At : Pick → Type 0
    At pick = Goes (put_by p leg pick)

    no_echo : (w : Work) → w ≡ works.Underway → At (echo_by p.role w leg.number)
    no_echo works.Underway e = inl h
    no_echo (works.EchoDue asked_on) e = absurd cc
    no_echo (works.EchoPut asked_on) e = inl h
    no_echo works.Done e = inl h

-- ---- legs are drawn, and Pings become due

not_drawn : (s : InProxy) (leg : Leg) → ((k : ℕ) → s.work ≡ works.EchoPut k → ⊥)
    → drawn s leg ≡ s
not_drawn s leg none =
    by_test (λ (t : InProxy). t ≡ s) (is_client_leg leg) (drawn_by s s.work leg.number) s
    (λ e. by s.work refl) (λ e. refl)
  where
    by : (w : Work) → s.work ≡ w → drawn_by s w leg.number ≡ s
    by works.Underway e = refl
    by (works.EchoDue asked_on) e = refl
    by (works.EchoPut asked_on) e = absurd (none asked_on e)
    by works.Done e = refl

drawn_goes : (p : Passage InProxy) (leg : Leg) → Goes p
    → Goes (record p { role = drawn p.role leg })
drawn_goes p leg h =
    subst (λ (s : InProxy). Goes (record p { role = s })) (sym (not_drawn p.role leg (none h))) h
  where
    not_put : (k : ℕ) (w : Work) → w ≡ works.EchoPut k → w ≡ works.Underway → ⊥
    not_put k (works.EchoPut n) e f = absurd cc
    not_put k works.Underway e f = absurd cc
    not_put k (works.EchoDue n) e f = absurd cc
    not_put k works.Done e f = absurd cc

    not_done : (k : ℕ) (w : Work) → w ≡ works.EchoPut k → w ≡ works.Done → ⊥
    not_done k (works.EchoPut n) e f = absurd cc
    not_done k works.Underway e f = absurd cc
    not_done k (works.EchoDue n) e f = absurd cc
    not_done k works.Done e f = absurd cc

    none : Goes p → (k : ℕ) → p.role.work ≡ works.EchoPut k → ⊥
    none (inl going) k e = not_put k p.role.work e going.work
    none (inr over) k e = not_done k p.role.work e over.done

ping_goes : (p : Passage InProxy) (leg : Leg) → Goes p → Goes (record p { role = ping p.role leg })
ping_goes p leg h =
    by_test (λ (t : InProxy). Goes (record p { role = t })) (is_server_leg p.role leg)
    (record (p.role) { ping_due = true }) p.role (λ e. by h) (λ e. h)
  where
    by : Goes p → Goes (record p { role = record (p.role) { ping_due = true } })
    by (inl going) = inl (underway (record (p.role) { ping_due = true }) going.work)
    by (inr over) = inr (record { done = over.done; why = why over.why })
      where
        why : IsTold p ⊎ IsLostUnhanded p.role
            → IsTold (record p { role = record (p.role) { ping_due = true } })
            ⊎ IsLostUnhanded (record (p.role) { ping_due = true })
        why (inl t) = inl (record { passed = t.passed; told = t.told })
        why (inr lost) = inr (lost.0, lost.1)

-- ---- moves

move_goes : (p : Passage InProxy) (move : Move) → MayMove proxy_rules p.role move
    → HeadsAre (AsksNoEcho true) move → Goes p → Goes (moved proxy_rules p move)
move_goes p (Up leg cookie) may asks h =
    inl (up_kept ⊥ IsUnderway p.role leg (fine p may.0 h))
move_goes p (HeadCame leg text) may asks h =
    inl (head_fine ⊥ p.role leg.number (request_verdict true text) asks
    (fine p (works_on p.role leg may) h))
move_goes p (PduCame leg count bytes) may asks h =
    row_fine p leg (Pdu bytes) (pdu p.role leg count bytes)
    (pdu_kept ⊥ IsUnderway p.role leg count bytes (fine p (works_on p.role leg may.0) h))
move_goes p (PacketCame leg count m) may asks h =
    packet_goes p leg count m (fine p (works_on p.role leg may) h)
move_goes p (Puts leg) may asks h = puts_go p leg (fine p (works_on p.role leg may) h)
move_goes p (IsDrawn leg) may asks h = drawn_goes p leg h
move_goes p (Marks leg) may asks h =
    let going : Fine p.role = fine p may.0 h in
    settled_goes p (if is_newest p.role leg then record (p.role) { newest_lost = true } else p.role)
    (by_test Fine (is_newest p.role leg) (record (p.role) { newest_lost = true }) p.role
    (λ e. underway (record (p.role) { newest_lost = true }) going.work) (λ e. going))
move_goes p (Pings leg) may asks h = ping_goes p leg h

moves_go : (p : Passage InProxy) (moves : List Move) → AreAllowed proxy_rules p moves
    → AllByRecursion (HeadsAre (AsksNoEcho true)) moves → Goes p
    → Goes (all_moved proxy_rules p moves)
moves_go p [] may asks h = h
moves_go p (move ∷ moves) may asks h =
    moves_go (moved proxy_rules p move) moves may.1 asks.1 (move_goes p move may.0 asks.0 h)

pub over_why : (config : InProxyConfig) (moves : List Move)
    → AreAllowed proxy_rules (started (first config)) moves
    → AllByRecursion (HeadsAre (AsksNoEcho true)) moves
    → (let p = all_moved proxy_rules (started (first config)) moves in
    is_at_work proxy_rules p.role ≡ false → IsTold p ⊎ IsLostUnhanded p.role)
over_why config moves may asks over =
    by (moves_go (started (first config)) moves may asks (inl (underway (first config) refl)))
  where
    p : Passage InProxy
    p = all_moved proxy_rules (started (first config)) moves

    working : (o : Opening) → not (is_ended (phase_by works.Underway o)) ≡ true
    working openings.AwaitsClient = refl
    working openings.AwaitsPacket = refl
    working (openings.WantsServer opener) = refl
    working (openings.Announces opener) = refl
    working (openings.Announced opener) = refl

    by : Goes p → IsTold p ⊎ IsLostUnhanded p.role
    by (inr h) = h.why
    by (inl going) =
        absurd (true≢false (sym (ap (λ (w : Work). not (is_ended (phase_by w p.role.opening)))
        going.work ∙ working p.role.opening) ∙ over))
