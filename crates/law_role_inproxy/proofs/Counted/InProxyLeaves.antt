-- an in proxy takes IN_R1/B1 at most as often as it put IN_R1/A6
use Rattle.law_order.proofs.Vocabulary.{◌≡◌, ◌⊎◌, ℕ, ◌≤◌, Bool, true, false, not, inl, inr, if◌then◌else◌, List, [], ◌∷◌, ◌++◌, Some, None, Ok, Err, refl, sym, ap, ◌∙◌, subst, arith, and_parts, nat_le, Result}
use Rattle.rh_inproxy.specs.declared.state.Work.TheVariants as works
use Rattle.law_moves.proofs.Vocabulary.{by_test, Named, HttpFault, Asked, request_verdict, Leg, HeadRefused, HeadTaken, Pdu, Packet, one_if, is_ended, OnLeg, Move, Up, HeadCame, PduCame, PacketCame, Puts, IsDrawn, Marks, Pings, MayMove, AreAllowed, Passage, is_at_work, is_in_use, started, moved, all_moved, taken_by, put_by, of_leg, count_of, is_in_r1_a6, is_in_r1_b1}
use Rattle.law_moves.proofs.Lemmas.{count_append, leg_is, here_more, leg_rises, leg_at_most, one_counts}
use Rattle.law_role_inproxy.proofs.Vocabulary.{ECHO_LENGTH, InProxyConfig, Work, Done, Pick, InProxy, first, is_client_leg, is_server_leg, up, head, drawn, put_echo, head_by, phase_by, mark, settled_pick, has_passed, ping, put as put_of, next, pdu, packet, rules as proxy_rules, is_leg}
use Rattle.law_role_inproxy.proofs.Counted.InProxyFollows.{Same, Follows, done, same_follows, same_up, same_pdu, same_ping, drawn_follows, mark_follows, Leaves, packet_leaves, IsPut, Stays, settled_puts, echo_stays, server_puts}

-- ---- moves

at_work : (s : InProxy) → is_at_work proxy_rules s ≡ true → done s.work ≡ 0
at_work s = by s.work
  where
    by : (w : Work) → not (is_ended (phase_by w s.opening)) ≡ true → done w ≡ 0
    by works.Underway e = refl
    by (works.EchoDue asked_on) e = refl
    by (works.EchoPut asked_on) e = refl
    by works.Done e = absurd cc

in_use : (s : InProxy) (leg : Leg) → is_in_use proxy_rules s leg ≡ true → done s.work ≡ 0
in_use s leg e =
    at_work s (and_parts (is_at_work proxy_rules s) (not (proxy_rules.is_done s leg)) e).0

head_follows : (s : InProxy) (leg : Leg) (text : List ℕ) → done s.work ≡ 0
    → Follows s (head s leg text).0
head_follows s leg text none = by (request_verdict true text)
  where
    by : (v : Result Asked HttpFault) → Follows s (head_by s leg.number v).0
    by (Err fault) = same_follows s s refl
    by (Ok asked) =
        by_test (λ (x : InProxy × Result HeadTaken HeadRefused). Follows s x.0)
        (nat_le asked.length ECHO_LENGTH) _ _
        (λ e. record { config = refl; work = omega (arith, none); handover = λ f. f })
        (λ e. record { config = refl; work = omega arith; handover = λ f. f })

module _ (n : ℕ) where
  abbrev is : Leg
  is = is_leg n

  abbrev put_a6 : List OnLeg → ℕ
  put_a6 put = count_of is_in_r1_a6 (of_leg is put)

  abbrev came_b1 : List OnLeg → ℕ
  came_b1 came = count_of is_in_r1_b1 (of_leg is came)

  record Holds (p : Passage InProxy) : Type 0 where
    number : p.role.config.number ≡ n
    passed : has_passed p.role.handover ≡ true → 1 ≤ put_a6 p.put
    left : came_b1 p.came ≤ done p.role.work
    fewer : came_b1 p.came ≤ put_a6 p.put

  follow_holds : (p : Passage InProxy) (t : InProxy) → Follows p.role t → Holds p
      → Holds (record p { role = t })
  follow_holds p t f h =
      let left = h.left in let work = f.work in record {
        number = ap (λ (c : InProxyConfig). c.number) f.config ∙ h.number;
        passed = λ e. h.passed (f.handover e);
        left = omega (arith, left, work);
        fewer = h.fewer;
      }

  packet_holds : (p : Passage InProxy) (leg : Leg) (m : Named) (x : Done) → Leaves m p.role x
      → done p.role.work ≡ 0 → Holds p → Holds (taken_by p leg (Packet m) x)
  packet_holds p leg m (t, Err why) f none h = follow_holds p t f h
  packet_holds p leg m (t, Ok taken) f none h = by (is_in_r1_b1 m) refl
    where
      k : Holds (record p { role = t })
      k = follow_holds p t f.0 h

      by : (b : Bool) → is_in_r1_b1 m ≡ b → Holds (taken_by p leg (Packet m) (t, Ok taken))
      by true e =
          let more = leg_at_most is_in_r1_b1 is p.came (leg, Packet m) in
          let one = one_counts is_in_r1_b1 m in
          let worth = ap one_if e in
          let left = h.left in
          let ends = (f.1 e).1 in
          let some = h.passed (f.1 e).0 in record {
            number = k.number;
            passed = k.passed;
            left = omega (arith, more, one, worth, left, none, ends);
            fewer = omega (arith, more, one, worth, left, none, some);
          }
      by false e =
          let more = leg_at_most is_in_r1_b1 is p.came (leg, Packet m) in
          let one = one_counts is_in_r1_b1 m in
          let worth = ap one_if e in
          let left = k.left in
          let fewer = k.fewer in record {
            number = k.number;
            passed = k.passed;
            left = omega (arith, more, one, worth, left);
            fewer = omega (arith, more, one, worth, fewer);
          }

  pdu_holds : (p : Passage InProxy) (leg : Leg) (bytes : List ℕ) (x : Done) → Same p.role x.0
      → Holds p → Holds (taken_by p leg (Pdu bytes) x)
  pdu_holds p leg bytes (t, Err why) same h = follow_holds p t (same_follows p.role t same) h
  pdu_holds p leg bytes (t, Ok taken) same h =
      let k = follow_holds p t (same_follows p.role t same) h in
      let more = leg_at_most is_in_r1_b1 is p.came (leg, Pdu bytes) in
      let left = k.left in
      let fewer = k.fewer in record {
        number = k.number;
        passed = k.passed;
        left = omega (arith, more, left);
        fewer = omega (arith, more, fewer);
      }

  stay_holds : (p : Passage InProxy) (leg : Leg) (pick : Pick) → Stays p.role pick → Holds p
      → Holds (put_by p leg pick)
  stay_holds p leg None f h = h
  stay_holds p leg (Some one) f h =
      let k = follow_holds p one.0 f h in
      let more = leg_rises is_in_r1_a6 is p.put (leg, one.1) in
      let fewer = k.fewer in record {
        number = k.number;
        passed = λ e. let before = k.passed e in omega (arith, more, before);
        left = k.left;
        fewer = omega (arith, more, fewer);
      }

  put_holds : (p : Passage InProxy) (pick : Pick) → IsPut p.role pick → Holds p
      → Holds (put_by p is pick)
  put_holds p None f h = h
  put_holds p (Some one) f h =
      let more = leg_rises is_in_r1_a6 is p.put (is, one.1) in
      let fewer = h.fewer in
      let left = h.left in
      let work = f.work in record {
        number = ap (λ (c : InProxyConfig). c.number) f.config ∙ h.number;
        passed = λ e. by (f.handover e);
        left = omega (arith, left, work);
        fewer = omega (arith, more, fewer);
      }
    where
      by : (has_passed p.role.handover ≡ true) ⊎ (count_of is_in_r1_a6 (one.1 ∷ []) ≡ 1)
          → 1 ≤ put_a6 (p.put ++ (is, one.1) ∷ [])
      by (inl before) =
          let some = h.passed before in
          let more = leg_rises is_in_r1_a6 is p.put (is, one.1) in omega (arith, some, more)
      by (inr now) =
          let all = ap (count_of is_in_r1_a6) (here_more is p.put one.1) in
          let both = count_append is_in_r1_a6 (of_leg is p.put) (one.1 ∷ []) in
          omega (arith, all, both, now)

  puts_hold : (p : Passage InProxy) (leg : Leg) → Holds p → Holds (put_by p leg (put_of p.role leg))
  puts_hold p leg h =
      by_test (λ (pick : Pick). Holds (put_by p leg pick)) (is_client_leg leg)
      (put_echo p.role leg.number)
      (if is_server_leg p.role leg then settled_pick (next p.role) else None)
      (λ e. stay_holds p leg (put_echo p.role leg.number) (echo_stays p.role leg.number) h)
      (λ e. by_test (λ (pick : Pick). Holds (put_by p leg pick)) (is_server_leg p.role leg)
      (settled_pick (next p.role)) None
      (λ f. subst (λ (l : Leg). Holds (put_by p l (settled_pick (next p.role))))
      (ap is_leg (sym h.number) ∙ leg_is (is_leg p.role.config.number) leg f)
      (put_holds p (settled_pick (next p.role))
      (settled_puts p.role (next p.role) (server_puts p.role)) h))
      (λ f. h))

  move_holds : (p : Passage InProxy) (move : Move) → MayMove proxy_rules p.role move → Holds p
      → Holds (moved proxy_rules p move)
  move_holds p (Up leg cookie) may h =
      follow_holds p (up p.role leg) (same_follows p.role _ (same_up p.role leg)) h
  move_holds p (HeadCame leg text) may h =
      follow_holds p (head p.role leg text).0
      (head_follows p.role leg text (in_use p.role leg may)) h
  move_holds p (PduCame leg count bytes) may h =
      pdu_holds p leg bytes (pdu p.role leg count bytes) (same_pdu p.role leg count bytes) h
  move_holds p (PacketCame leg count m) may h =
      packet_holds p leg m (packet p.role leg count m) (packet_leaves p.role leg count m)
      (in_use p.role leg may) h
  move_holds p (Puts leg) may h = puts_hold p leg h
  move_holds p (IsDrawn leg) may h =
      follow_holds p (drawn p.role leg) (drawn_follows p.role leg) h
  move_holds p (Marks leg) may h = follow_holds p (mark p.role leg) (mark_follows p.role leg) h
  move_holds p (Pings leg) may h =
      follow_holds p (ping p.role leg) (same_follows p.role _ (same_ping p.role leg)) h

  moves_hold : (p : Passage InProxy) (moves : List Move) → AreAllowed proxy_rules p moves
      → Holds p → Holds (all_moved proxy_rules p moves)
  moves_hold p [] allowed h = h
  moves_hold p (move ∷ moves) allowed h =
      moves_hold (moved proxy_rules p move) moves allowed.1 (move_holds p move allowed.0 h)

pub in_proxy_leaves : (config : InProxyConfig) (moves : List Move)
    → AreAllowed proxy_rules (started (first config)) moves
    → (let p = all_moved proxy_rules (started (first config)) moves in
    count_of is_in_r1_b1 (of_leg (is_leg config.number) p.came)
    ≤ count_of is_in_r1_a6 (of_leg (is_leg config.number) p.put))
in_proxy_leaves config moves allowed =
    (moves_hold config.number (started (first config)) moves allowed
    (record {
      number = refl;
      passed = λ e. absurd cc;
      left = omega arith;
      fewer = omega arith;
    })).fewer
