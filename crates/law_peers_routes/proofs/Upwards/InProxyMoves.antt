-- which ci legs came up at an in proxy by its moves, and how often it told the server of one
use Rattle.law_order.proofs.Vocabulary.{◌≡◌, ℕ, ◌+◌, ◌==◌, ◌<◌, ◌≤◌, ◌&&◌, ◌||◌, List, [], ◌∷◌, ◌++◌, Bool, true, false, not, nat_le, Some, None, Ok, Err, refl, sym, ap, ◌∙◌, subst, arith, append-nil, append_assoc, or_left, or_right, if◌then◌else◌}
use Rattle.rh_inproxy.specs.declared.state.Successor.TheVariants as successors
use Rattle.law_moves.proofs.Vocabulary.{by_test, same_number, other_number, Leg, LegKind, ClientOut, OutServer, ClientIn, InServer, Message, Pdu, Packet, same_leg, Move, Up, HeadCame, PduCame, PacketCame, Puts, IsDrawn, Marks, Pings, Passage, MayMove, AreAllowed, moved, all_moved, started, taken_by, put_by}
use Rattle.law_role_inproxy.proofs.Vocabulary.{GREATEST_LENGTHS, Handover, Before, Came, Passed, InProxyConfig, Opening, AwaitsClient, AwaitsPacket, WantsServer, Announces, Announced, Successor, Absent, Joined, Done, Pick, mark, has_passed, packet, pdu, rules as proxy_rules, is_absent, accepts, accepts_later, may_accept, accepted, connected, up, wants, wants_server, head, drawn, put, InProxy, first, has_come, ping}
use Rattle.law_node_streams.specs.Streams.{is_up_on}
use Rattle.law_node_begins.specs.ProxiesBegin.Pipes.{ci as client_leg, is as server_leg}
use Rattle.law_peers_routes.proofs.Upwards.Rising.{or_nothing, rose, rose_more}
use Rattle.law_peers_routes.proofs.Upwards.Told.{tells, told_more, carried}
use Rattle.law_peers_routes.proofs.Upwards.InProxySteps.{seen, top, untold, AreQuiet, IsLast, Goes, Later, same_later, same_pdu, same_head, same_drawn, same_mark, same_ping, packet_later, PickGoes, put_goes}

-- u: the ci legs that came up. They are those behind the first up to the newest one, and the first
-- perhaps; the server was told of each of them at most once; and behind IN_R1/A6 the newest one is
-- the current one
pub record Holds (number : ℕ) (u : ℕ → Bool) (p : Passage InProxy) : Type 0 where
  pub all : (n : ℕ) → number < n → n ≤ top p.role.current.number p.role.successor
      → u n ≡ true
  pub most : (n : ℕ) → u n ≡ true → n ≤ top p.role.current.number p.role.successor
  pub above : p.role.current.number ≤ top p.role.current.number p.role.successor
  pub told : number + carried p.put number + untold p.role.successor
      ≤ top p.role.current.number p.role.successor
  pub last : IsLast (seen p.role)
  pub quiet : AreQuiet p.role.waiting.due

module _ (number : ℕ) where
  -- no ci leg came up
  goes_on : (u v : ℕ → Bool) (p q : Passage InProxy) (count : ℕ)
      → ((n : ℕ) → v n ≡ u n || false) → carried q.put number ≤ carried p.put number + count
      → Goes (seen p.role) count (seen q.role) → Holds number u p → Holds number v q
  goes_on u v p q count ups counts g h = record {
    all = λ n a b. let t = g.newest in
        ups n ∙ or_nothing (u n) ∙ h.all n a (omega (arith, b, t));
    most = λ n e. let t = g.newest in
        let r = h.most n (sym (or_nothing (u n)) ∙ sym (ups n) ∙ e) in omega (arith, r, t);
    above = g.above h.above;
    told = let t = g.newest in let r = h.told in let w = g.untold in
        omega (arith, r, t, w, counts);
    last = g.last h.last;
    quiet = g.quiet h.quiet;
  }

  -- and nothing was put
  role_goes : (u v : ℕ → Bool) (p q : Passage InProxy) → ((n : ℕ) → v n ≡ u n || false)
      → q.put ≡ p.put → Later p.role q.role → Holds number u p → Holds number v q
  role_goes u v p q ups same g h =
      goes_on u v p q 0 ups
      (subst (λ log. carried log number ≤ carried p.put number + 0) (sym same) (omega arith)) g h

  row_goes : (u v : ℕ → Bool) (p : Passage InProxy) (leg : Leg) (message : Message) (d : Done)
      → ((n : ℕ) → v n ≡ u n || false) → Later p.role d.0 → Holds number u p
      → Holds number v (taken_by p leg message d)
  row_goes u v p leg message (t, Ok taken) ups g h =
      role_goes u v p (taken_by p leg message (t, Ok taken)) ups refl g h
  row_goes u v p leg message (t, Err why) ups g h =
      role_goes u v p (taken_by p leg message (t, Err why)) ups refl g h

  put_holds : (u v : ℕ → Bool) (p : Passage InProxy) (leg : Leg) (pick : Pick)
      → ((n : ℕ) → v n ≡ u n || false) → PickGoes p.role pick → Holds number u p
      → Holds number v (put_by p leg pick)
  put_holds u v p leg None ups g h =
      role_goes u v p p ups refl (same_later p.role p.role refl) h
  put_holds u v p leg (Some pick) ups g h =
      goes_on u v p (put_by p leg (Some pick)) (tells pick.1) ups
      (let e = told_more (server_leg number) p.put (leg, pick.1) in
      let w = most (same_leg leg (server_leg number)) in omega (arith, e, w))
      g h
    where
      most : (b : Bool) → (if b then tells pick.1 else 0) ≤ tells pick.1
      most true = omega arith
      most false = omega arith

  -- ---- a ci leg comes up

  four : (a b c d : Bool) → a && b && c && d ≡ true
      → (a ≡ true) × (b ≡ true) × (d ≡ true)
  four false b c d e = absurd cc
  four true false c d e = absurd cc
  four true true false d e = absurd cc
  four true true true false e = absurd cc
  four true true true true e = (refl, refl, refl)

  -- where no IN_R1/A5 came on the newest ci leg, no IN_R1/A6 was put
  not_passed : (h : Handover) → not (has_come h) ≡ true → has_passed h ≡ true → ⊥
  not_passed Before e f = absurd cc
  not_passed (Came cookie) e f = absurd cc
  not_passed Passed e f = absurd cc

  grown : (u v : ℕ → Bool) (n : ℕ) → ((k : ℕ) → v k ≡ u k || (n == k)) → (k : ℕ) → u k ≡ true
      → v k ≡ true
  grown u v n ups k e = ups k ∙ or_left (u k) (n == k) e

  -- a leg that is up now was up, or has this number
  was_or_is : (u v : ℕ → Bool) (n most : ℕ) → ((k : ℕ) → v k ≡ u k || (n == k)) → n ≤ most
      → ((k : ℕ) → u k ≡ true → k ≤ most) → (k : ℕ) → v k ≡ true → k ≤ most
  was_or_is u v n most ups least low k e =
      by (u k) (n == k) refl refl (sym (ups k) ∙ e)
    where
      by : (a b : Bool) → u k ≡ a → (n == k) ≡ b → a || b ≡ true → k ≤ most
      by true b p q e = low k p
      by false true p q e = let same = same_number n k q in omega (arith, same, least)
      by false false p q e = absurd cc

  first_up : (u v : ℕ → Bool) (p : Passage InProxy) (n : ℕ) → p.role.current.number ≡ n
      → ((k : ℕ) → v k ≡ u k || (n == k)) → Holds number u p
      → Holds number v (record p { role = record (p.role) { opening = AwaitsPacket } })
  first_up u v p n same ups h = record {
    all = λ k a b. grown u v n ups k (h.all k a b);
    most = was_or_is u v n (top p.role.current.number p.role.successor) ups
        (let r = h.above in omega (arith, r, same)) h.most;
    above = h.above;
    told = h.told;
    last = h.last;
    quiet = h.quiet;
  }

  later_up : (u v : ℕ → Bool) (p : Passage InProxy) (n : ℕ) (z : Successor)
      → p.role.successor ≡ z → accepts_later p.role n ≡ true
      → ((k : ℕ) → v k ≡ u k || (n == k)) → Holds number u p
      → Holds number v (record p {
        role = record (p.role) { successor = successors.Up n; newest_lost = false };
      })
  later_up u v p n z is may ups h = by z is
    where
      parts : ((n == p.role.current.number + 1) ≡ true) × (is_absent p.role.successor ≡ true)
          × (not (has_come p.role.handover) ≡ true)
      parts = four (n == p.role.current.number + 1) (is_absent p.role.successor)
          (nat_le p.role.lengths GREATEST_LENGTHS) (not (has_come p.role.handover)) may

      next : n ≡ p.role.current.number + 1
      next = same_number n (p.role.current.number + 1) parts.0

      by : (x : Successor) → p.role.successor ≡ x
          → Holds number v (record p {
            role = record (p.role) { successor = successors.Up n; newest_lost = false };
          })
      by (successors.Up other) e =
          absurd (let f = sym (ap is_absent e) ∙ parts.1 in cc)
      by (Joined leg stage) e = absurd (let f = sym (ap is_absent e) ∙ parts.1 in cc)
      by Absent e = record {
        all = λ k a b. up_to k (n == k) refl a b;
        most = was_or_is u v n n ups (omega arith)
            (λ k f. let r = old.most k f in omega (arith, r, next));
        above = omega (arith, next);
        told = let r = old.told in omega (arith, r, next);
        last = λ f. absurd (not_passed p.role.handover parts.2 f);
        quiet = h.quiet;
      }
        where
          old : Holds number u (record p { role = record (p.role) { successor = Absent } })
          old = subst (λ (x : Successor).
              Holds number u (record p { role = record (p.role) { successor = x } })) e h

          up_to : (k : ℕ) (b : Bool) → (n == k) ≡ b → number < k → k ≤ n → v k ≡ true
          up_to k true q a b = ups k ∙ or_right (u k) (n == k) q
          up_to k false q a b =
              let other = other_number n k q in
              grown u v n ups k (old.all k a (omega (arith, b, next, other)))

  accepted_up : (u v : ℕ → Bool) (p : Passage InProxy) (n : ℕ) (o : Opening)
      → accepts p.role o n ≡ true → ((k : ℕ) → v k ≡ u k || (n == k)) → Holds number u p
      → Holds number v (record p { role = accepted p.role o n })
  accepted_up u v p n AwaitsClient may ups h =
      first_up u v p n (same_number p.role.current.number n may) ups h
  accepted_up u v p n AwaitsPacket may ups h = absurd cc
  accepted_up u v p n (WantsServer opener) may ups h =
      later_up u v p n p.role.successor refl may ups h
  accepted_up u v p n (Announces opener) may ups h =
      later_up u v p n p.role.successor refl may ups h
  accepted_up u v p n (Announced opener) may ups h =
      later_up u v p n p.role.successor refl may ups h

  connected_later : (s : InProxy) (o : Opening) → Later s (connected s o)
  connected_later s AwaitsClient = same_later s s refl
  connected_later s AwaitsPacket = same_later s s refl
  connected_later s (WantsServer opener) =
      same_later s (record s { opening = Announces opener }) refl
  connected_later s (Announces opener) = same_later s s refl
  connected_later s (Announced opener) = same_later s s refl

  up_holds : (u v : ℕ → Bool) (p : Passage InProxy) (kind : LegKind) (n : ℕ)
      → (wants p.role (record { kind = kind; number = n })
      || may_accept p.role (record { kind = kind; number = n })) ≡ true
      → ((k : ℕ) → v k ≡ u k || same_leg (record { kind = kind; number = n }) (client_leg k))
      → Holds number u p
      → Holds number v (record p { role = up p.role (record { kind = kind; number = n }) })
  up_holds u v p ClientIn n may ups h =
      by_test (λ (t : InProxy). Holds number v (record p { role = t }))
      (accepts p.role p.role.opening n) (accepted p.role p.role.opening n) p.role
      (λ e. accepted_up u v p n p.role.opening e ups h)
      (λ e. absurd (let f = sym may ∙ e in cc))
  up_holds u v p InServer n may ups h =
      by_test (λ (t : InProxy). Holds number v (record p { role = t }))
      ((p.role.config.number == n) && wants_server p.role.opening)
      (connected p.role p.role.opening) p.role
      (λ e. role_goes u v p (record p { role = connected p.role p.role.opening }) ups refl
      (connected_later p.role p.role.opening) h)
      (λ e. role_goes u v p p ups refl (same_later p.role p.role refl) h)
  up_holds u v p ClientOut n may ups h =
      role_goes u v p p ups refl (same_later p.role p.role refl) h
  up_holds u v p OutServer n may ups h =
      role_goes u v p p ups refl (same_later p.role p.role refl) h

  -- ---- moves

  move_holds : (u v : ℕ → Bool) (p : Passage InProxy) (move : Move)
      → MayMove proxy_rules p.role move
      → ((k : ℕ) → v k ≡ u k || is_up_on (client_leg k) move) → Holds number u p
      → Holds number v (moved proxy_rules p move)
  move_holds u v p (Up leg cookie) may ups h = up_holds u v p leg.kind leg.number may.1 ups h
  move_holds u v p (HeadCame leg text) may ups h =
      role_goes u v p (record p { role = (head p.role leg text).0 }) ups refl
      (same_later p.role (head p.role leg text).0 (same_head p.role leg text)) h
  move_holds u v p (PduCame leg count bytes) may ups h =
      row_goes u v p leg (Pdu bytes) (pdu p.role leg count bytes) ups
      (same_later p.role (pdu p.role leg count bytes).0 (same_pdu p.role leg count bytes)) h
  move_holds u v p (PacketCame leg count named) may ups h =
      row_goes u v p leg (Packet named) (packet p.role leg count named) ups
      (packet_later p.role leg count named) h
  move_holds u v p (Puts leg) may ups h =
      put_holds u v p leg (put p.role leg) ups (put_goes p.role leg h.quiet) h
  move_holds u v p (IsDrawn leg) may ups h =
      role_goes u v p (record p { role = drawn p.role leg }) ups refl
      (same_later p.role (drawn p.role leg) (same_drawn p.role leg)) h
  move_holds u v p (Marks leg) may ups h =
      role_goes u v p (record p { role = mark p.role leg }) ups refl
      (same_later p.role (mark p.role leg) (same_mark p.role leg)) h
  move_holds u v p (Pings leg) may ups h =
      role_goes u v p (record p { role = ping p.role leg }) ups refl
      (same_later p.role (ping p.role leg) (same_ping p.role leg)) h

  abbrev rose_ci : List Move → ℕ → Bool
  rose_ci moves k = rose (client_leg k) moves

  moves_hold : (before : List Move) (p : Passage InProxy) (moves : List Move)
      → AreAllowed proxy_rules p moves → Holds number (rose_ci before) p
      → Holds number (rose_ci (before ++ moves)) (all_moved proxy_rules p moves)
  moves_hold before p [] allowed h =
      subst (λ all. Holds number (rose_ci all) p) (sym (append-nil before)) h
  moves_hold before p (move ∷ moves) allowed h =
      subst (λ all. Holds number (rose_ci all)
      (all_moved proxy_rules (moved proxy_rules p move) moves))
      (append_assoc before (move ∷ []) moves)
      (moves_hold (before ++ move ∷ []) (moved proxy_rules p move) moves allowed.1
      (move_holds (rose_ci before) (rose_ci (before ++ move ∷ [])) p move allowed.0
      (λ k. rose_more (client_leg k) before move) h))

-- whatever moves an in proxy makes
pub in_proxy_holds : (config : InProxyConfig) (moves : List Move)
    → AreAllowed proxy_rules (started (first config)) moves
    → Holds config.number (λ n. rose (client_leg n) moves)
    (all_moved proxy_rules (started (first config)) moves)
in_proxy_holds config moves allowed =
    moves_hold config.number [] (started (first config)) moves allowed (record {
      all = λ n a b. absurd (omega (arith, a, b));
      most = λ n e. absurd cc;
      above = omega arith;
      told = omega arith;
      last = λ e. absurd cc;
      quiet = tt;
    })
