-- what a server's moves do to its is legs, and which numbers they give
use Rattle.law_order.proofs.Vocabulary.{◌≡◌, ℕ, ◌+◌, ◌≤◌, ◌==◌, ◌&&◌, ◌||◌, List, [], ◌∷◌, ◌++◌, length, Bool, true, false, not, nat_eq, Some, None, Ok, Err, refl, sym, ap, ◌∙◌, subst, rules, arith, and_parts, or_left, or_right, append-nil, append_assoc, IfSome, if◌then◌else◌, nat_le, Option, Result}
use Rattle.rh_sig.specs.declared.named.Named.TheVariants as named
use Rattle.rh_shell.specs.declared.end_role.GiveRefused.TheVariants as give_refused
use Rattle.law_moves.proofs.Vocabulary.{by_test, same_number, test_same, test_other, pdu_fault, PduFault, Cookie, Named, total, queue_bytes, Leg, LegKind, ClientOut, OutServer, ClientIn, InServer, Count, GiveRefused, Pdu, Packet, same_leg, Move, Up, HeadCame, PduCame, PacketCame, Puts, IsDrawn, Marks, Pings, Passage, OnLeg, MayMove, moved, taken_by, put_by, EndMove, Moves, Gives, Takes, Closes, Recycles, EndPassage, MayEndMove, AreAllowedAtEnd, end_moved, all_end_moved}
use Rattle.law_moves.proofs.Vocabulary.{end_now_at, given_by, with_first, is_at_work}
use Rattle.law_role_server.proofs.Vocabulary.{InLeg, Server, is_closing, in_leg, Done, in_leg_up, has_room, may_up, may_up_by, up, up_by, give, give_by, in_is_done, is_done, is_done_by, drawn, mark, take, recycle, Pick, put, packet, packet_by, pdu, rules as server_rules, acts as server_acts, is_up, came_up}
use Rattle.law_role_server.proofs.Takes.{or_again as or_assoc}
use Rattle.law_node_begins.specs.ProxiesBegin.Pipes.{is as server_leg}
use Rattle.law_peers_routes.proofs.Upwards.Told.{tells, told_more, carried, carried_less, spoke, spoke_more, spoke_last}
use Rattle.law_peers_routes.proofs.Upwards.Counts.{AreRead, Counted, same_counted, risen_counted, carried_counted}
use Rattle.law_peers_routes.proofs.Upwards.Rising.{or_nothing}
use Rattle.law_peers_routes.proofs.Upwards.ServerLegs.{Stands, Kept, Same, same_kept, more_kept, number_found, found_up, each_pushed, take_kept, KeptRow, packet_row, pdu_kept, drawn_kept, mark_kept}
use Rattle.law_peers_routes.proofs.Upwards.ServerPuts.{PickKept, put_kept}

-- ---- calls that leave the legs

same_give : (s : Server) (bytes : List ℕ) → Same s (give s bytes).0
same_give s bytes =
    by_test (λ (x : Server × Result (Unit {0}) GiveRefused). Same s x.0) (is_closing s.giving)
    (s, Err give_refused.Closing) (give_by s bytes (pdu_fault bytes)) (λ e. refl)
    (λ e. by (pdu_fault bytes))
  where
    by : (o : Option PduFault) → Same s (give_by s bytes o).0
    by (Some fault) = refl
    by None =
        by_test (λ (x : Server × Result (Unit {0}) GiveRefused). Same s x.0)
        (nat_le (total s.queue + length bytes) queue_bytes)
        (record s { queue = s.queue ++ bytes ∷ [] }, Ok tt)
        (s, Err (give_refused.Full (total s.queue) (length bytes))) (λ e. refl) (λ e. refl)

same_recycle : (s : Server) → Same s (recycle s).0
same_recycle s = search rules

-- ---- what holds behind moves

renewed : (u x : ℕ → Bool) (n : ℕ) (s : Server) → Kept u x n s → Kept u x s.newest_in s
renewed u x n s k =
    record { ins = k.ins; current = k.current; next = k.next; newest = refl }

-- a leg in use came up
in_use_up : (u x : ℕ → Bool) (newest : ℕ) (s : Server) (n : ℕ) → Kept u x newest s
    → (is_at_work server_rules s && not (in_is_done (in_leg n s.ins))) ≡ true → u n ≡ true
in_use_up u x newest s n k may =
    by (in_leg n s.ins) (number_found n s.ins) (found_up u x newest s n k)
    (and_parts (is_at_work server_rules s) (not (in_is_done (in_leg n s.ins))) may).1
  where
    by : (o : Option InLeg) → IfSome o (λ (leg : InLeg). leg.number ≡ n) → IfSome o (Stands u x)
        → not (in_is_done o) ≡ true → u n ≡ true
    by None same up e = absurd cc
    by (Some leg) same up e = subst (λ k. u k ≡ true) same up.0

module _ (made : ℕ → Bool) (reader : ℕ → ℕ) (reads : ℕ → ℕ → Bool) (final : ℕ → ℕ)
    (are : AreRead made reader reads final) where
  -- u: the is legs that came up; and numbers were given as they were told, if in proxies told no
  -- more than they did
  pub record Holds (u : ℕ → Bool) (p : Passage Server) : Type 0 where
    pub kept : Kept u (spoke p.came) p.role.newest_in p.role
    pub counted : ((n : ℕ) → carried p.came n ≤ final n)
        → Counted made reader reads final are u (carried p.came) p.role.newest_in

  -- nothing that counts was taken, and no number was given
  quiet : (u v : ℕ → Bool) (p q : Passage Server) → ((n : ℕ) → v n ≡ u n)
      → ((n : ℕ) → carried q.came n ≡ carried p.came n)
      → Kept u (spoke q.came) p.role.newest_in q.role → Holds u p → Holds v q
  quiet u v p q ups counts k h = record {
    kept = renewed v (spoke q.came) p.role.newest_in q.role
        (more_kept u v (spoke q.came) (spoke q.came) p.role.newest_in q.role (λ n e. ups n ∙ e)
        (λ n e. e) k);
    counted = λ within.
        same_counted made reader reads final are u v (carried p.came) (carried q.came)
        p.role.newest_in q.role.newest_in ups counts k.newest
        (h.counted (λ n. let e = counts n in let w = within n in omega (arith, e, w)));
  }

  -- no leg came up
  not_up : (u v : ℕ → Bool) → ((n : ℕ) → v n ≡ u n || false) → (n : ℕ) → v n ≡ u n
  not_up u v ups n = ups n ∙ or_nothing (u n)

  -- ---- rows

  pdu_holds : (u : ℕ → Bool) (p : Passage Server) (leg : Leg) (bytes : List ℕ) (d : Done)
      → Kept u (spoke p.came) p.role.newest_in d.0 → Holds u p
      → Holds u (taken_by p leg (Pdu bytes) d)
  pdu_holds u p leg bytes (t, Ok taken) k h =
      quiet u u p (taken_by p leg (Pdu bytes) (t, Ok taken)) (λ n. refl)
      (λ n. told_more (server_leg n) p.came (leg, Pdu bytes) ∙ none n (same_leg leg (server_leg n)))
      (more_kept u u (spoke p.came) (spoke (p.came ++ (leg, Pdu bytes) ∷ [])) p.role.newest_in t
      (λ n e. e) (spoke_more p.came (leg, Pdu bytes)) k)
      h
    where
      none : (n : ℕ) (b : Bool) → carried p.came n + (if b then 0 else 0) ≡ carried p.came n
      none n true = omega arith
      none n false = omega arith
  pdu_holds u p leg bytes (t, Err why) k h =
      quiet u u p (taken_by p leg (Pdu bytes) (t, Err why)) (λ n. refl) (λ n. refl) k h

  -- a packet that tells of no channel
  -- the message came, with others
  spoken : (p : Passage Server) (leg : Leg) (packet : Named) (n : ℕ) → spoke p.came n ≡ true
      → spoke (p.came ++ (leg, Packet packet) ∷ []) n ≡ true
  spoken p leg packet = spoke_more p.came (leg, Packet packet)

  abbrev RowOf : (ℕ → Bool) → Passage Server → Leg → Named → Done → Type 0
  RowOf u p leg packet d =
      KeptRow u (spoke p.came) (spoke (p.came ++ (leg, Packet packet) ∷ [])) p.role.newest_in
      (spoken p leg packet) packet d

  other_holds : (u : ℕ → Bool) (p : Passage Server) (leg : Leg) (packet : Named) (d : Done)
      → tells (Packet packet) ≡ 0 → RowOf u p leg packet d → Holds u p
      → Holds u (taken_by p leg (Packet packet) d)
  other_holds u p leg packet (t, Ok taken) zero k h =
      quiet u u p (taken_by p leg (Packet packet) (t, Ok taken)) (λ n. refl)
      (λ n. told_more (server_leg n) p.came (leg, Packet packet)
      ∙ none n (same_leg leg (server_leg n)))
      (record {
        ins = k.ins;
        current = k.current;
        next = k.next;
        newest = let e = k.newest in omega (arith, e, zero);
      })
      h
    where
      none : (n : ℕ) (b : Bool)
          → carried p.came n + (if b then tells (Packet packet) else 0) ≡ carried p.came n
      none n true = omega (arith, zero)
      none n false = omega arith
  other_holds u p leg packet (t, Err why) zero k h =
      quiet u u p (taken_by p leg (Packet packet) (t, Err why)) (λ n. refl) (λ n. refl) k h

  -- IN_R2/A2 on a leg that came up
  told_holds : (u : ℕ → Bool) (p : Passage Server) (n : ℕ) (cookie : Cookie) (d : Done)
      → u n ≡ true → RowOf u p (server_leg n) (named.InR2A2 cookie) d → Holds u p
      → Holds u (taken_by p (server_leg n) (Packet (named.InR2A2 cookie)) d)
  told_holds u p n cookie (t, Err why) up k h =
      quiet u u p (taken_by p (server_leg n) (Packet (named.InR2A2 cookie)) (t, Err why))
      (λ n. refl) (λ n. refl) k h
  told_holds u p n cookie (t, Ok taken) up k h = record {
    kept = renewed u (spoke (p.came ++ one ∷ [])) (p.role.newest_in + 1) t k;
    counted = λ within.
        subst (Counted made reader reads final are u (carried (p.came ++ one ∷ [])))
        (sym k.newest)
        (carried_counted made reader reads final are u (carried p.came)
        (carried (p.came ++ one ∷ [])) p.role.newest_in n up
        (more n ∙ ap (λ b. carried p.came n + (if b then 1 else 0)) (test_same n))
        (λ m o. more m
        ∙ ap (λ b. carried p.came m + (if b then 1 else 0))
        (test_other n m (λ e. o (sym e))) ∙ nothing m)
        (within n)
        (h.counted (λ m. let e = carried_less p.came one m in let w = within m in
        omega (arith, e, w))));
  }
    where
      one : OnLeg
      one = (server_leg n, Packet (named.InR2A2 cookie))

      more : (m : ℕ) → carried (p.came ++ one ∷ []) m
          ≡ carried p.came m + (if nat_eq n m then 1 else 0)
      more m = told_more (server_leg m) p.came one

      nothing : (m : ℕ) → carried p.came m + 0 ≡ carried p.came m
      nothing m = omega arith

  packet_holds : (u : ℕ → Bool) (p : Passage Server) (leg : Leg) (count : Count) (packet : Named)
      → (is_at_work server_rules p.role && not (is_done p.role leg)) ≡ true → Holds u p
      → Holds u (taken_by p leg (Packet packet) (packet_by p.role leg.number count packet leg.kind))
  packet_holds u p leg count packet may h = by packet
    where
      came : (x : Named) → leg.kind ≡ InServer
          → spoke (p.came ++ (leg, Packet x) ∷ []) leg.number ≡ true
      came x e =
          spoke_last p.came (leg, Packet x) leg.number
          (ap (λ (kind : LegKind). same_leg (record { kind = kind; number = leg.number })
          (server_leg leg.number)) e ∙ test_same leg.number)

      row : (x : Named) → RowOf u p leg x (packet_by p.role leg.number count x leg.kind)
      row x =
          packet_row u (spoke p.came) (spoke (p.came ++ (leg, Packet x) ∷ [])) p.role.newest_in
          (spoken p leg x) p.role leg count x (came x) h.kept

      by_kind : (kind : LegKind) (n : ℕ) (cookie : Cookie)
          → (is_at_work server_rules p.role && not (is_done_by p.role n kind)) ≡ true
          → RowOf u p (record { kind = kind; number = n }) (named.InR2A2 cookie)
          (packet_by p.role n count (named.InR2A2 cookie) kind)
          → Holds u (taken_by p (record { kind = kind; number = n })
          (Packet (named.InR2A2 cookie)) (packet_by p.role n count (named.InR2A2 cookie) kind))
      by_kind InServer n cookie e k =
          told_holds u p n cookie (packet_by p.role n count (named.InR2A2 cookie) InServer)
          (in_use_up u (spoke p.came) p.role.newest_in p.role n h.kept e) k h
      by_kind OutServer n cookie e k = h
      by_kind ClientIn n cookie e k = h
      by_kind ClientOut n cookie e k = h

      by : (x : Named)
          → Holds u (taken_by p leg (Packet x) (packet_by p.role leg.number count x leg.kind))
      by (named.InR2A2 cookie) =
          by_kind leg.kind leg.number cookie may (row (named.InR2A2 cookie))
      by x = other_holds u p leg x (packet_by p.role leg.number count x leg.kind) refl (row x) h

  -- ---- legs come up

  in_up : (u v : ℕ → Bool) (p : Passage Server) (n : ℕ)
      → ((n == p.role.newest_in + 1) && has_room p.role.ins) ≡ true
      → ((k : ℕ) → v k ≡ u k || nat_eq k n) → Holds u p
      → Holds v (record p { role = up_by p.role n InServer })
  in_up u v p n may ups h = record {
    kept = record {
      ins = each_pushed (Stands v (spoke p.came)) p.role.ins (in_leg_up n) later.ins
          (ups n ∙ or_right (u n) (nat_eq n n) (test_same n), refl);
      current = later.current;
      next = later.next;
      newest = refl;
    };
    counted = λ within.
        risen_counted made reader reads final are u v (carried p.came) p.role.newest_in n next ups
        (h.counted within);
  }
    where
      next : n ≡ p.role.newest_in + 1
      next = same_number n (p.role.newest_in + 1)
          (and_parts (n == p.role.newest_in + 1) (has_room p.role.ins) may).0

      more : (k : ℕ) → u k ≡ true → v k ≡ true
      more k e = ups k ∙ or_left (u k) (nat_eq k n) e

      later : Kept v (spoke p.came) p.role.newest_in p.role
      later =
          more_kept u v (spoke p.came) (spoke p.came) p.role.newest_in p.role more (λ k e. e) h.kept

  up_holds : (u v : ℕ → Bool) (p : Passage Server) (leg : Leg) (cookie : Cookie)
      → may_up p.role leg ≡ true
      → ((k : ℕ) → v k ≡ u k || is_up k (Moves (Up leg cookie))) → Holds u p
      → Holds v (record p { role = up p.role leg cookie })
  up_holds u v p leg cookie may ups h =
      by_test (λ (t : Server). Holds v (record p { role = t })) (may_up p.role leg)
      (up_by p.role leg.number leg.kind) p.role (λ e. by leg.kind leg.number e ups)
      (λ e. absurd (let f = sym may ∙ e in cc))
    where
      by : (kind : LegKind) (n : ℕ) → may_up_by p.role n kind ≡ true
          → ((k : ℕ) → v k
          ≡ u k || is_up k (Moves (Up (record { kind = kind; number = n }) cookie)))
          → Holds v (record p { role = up_by p.role n kind })
      by InServer n e grown = in_up u v p n e grown h
      by OutServer n e grown =
          quiet u v p (record p { role = up_by p.role n OutServer }) (not_up u v grown)
          (λ n. refl)
          (record {
            ins = h.kept.ins;
            current = h.kept.current;
            next = h.kept.next;
            newest = refl;
          })
          h
      by ClientIn n e grown = absurd cc
      by ClientOut n e grown = absurd cc

  -- ---- moves

  put_holds : (u : ℕ → Bool) (p : Passage Server) (leg : Leg) (pick : Pick)
      → PickKept u (spoke p.came) p.role.newest_in pick → Holds u p → Holds u (put_by p leg pick)
  put_holds u p leg None k h = h
  put_holds u p leg (Some pick) k h =
      quiet u u p (put_by p leg (Some pick)) (λ n. refl) (λ n. refl) k h

  move_holds : (u v : ℕ → Bool) (p : Passage Server) (move : Move)
      → MayMove server_rules p.role move → ((k : ℕ) → v k ≡ u k || is_up k (Moves move))
      → Holds u p → Holds v (moved server_rules p move)
  move_holds u v p (Up leg cookie) may ups h = up_holds u v p leg cookie may.1 ups h
  move_holds u v p (HeadCame leg text) may ups h =
      quiet u v p p (not_up u v ups) (λ n. refl) h.kept h
  move_holds u v p (PduCame leg count bytes) may ups h =
      let q = taken_by p leg (Pdu bytes) (pdu p.role leg count bytes) in
      let held : Holds u q =
      pdu_holds u p leg bytes (pdu p.role leg count bytes)
      (pdu_kept u (spoke p.came) p.role.newest_in p.role leg bytes h.kept) h in
      quiet u v q q (not_up u v ups) (λ n. refl) held.kept held
  move_holds u v p (PacketCame leg count packet) may ups h =
      let q = taken_by p leg (Packet packet) (packet_by p.role leg.number count packet leg.kind) in
      let held : Holds u q = packet_holds u p leg count packet may h in
      quiet u v q q (not_up u v ups) (λ n. refl) held.kept held
  move_holds u v p (Puts leg) may ups h =
      let q = put_by p leg (put p.role leg) in
      let held : Holds u q =
      put_holds u p leg (put p.role leg)
      (put_kept u (spoke p.came) p.role.newest_in p.role leg h.kept) h in
      quiet u v q q (not_up u v ups) (λ n. refl) held.kept held
  move_holds u v p (IsDrawn leg) may ups h =
      quiet u v p (record p { role = drawn p.role leg }) (not_up u v ups) (λ n. refl)
      (drawn_kept u (spoke p.came) p.role.newest_in p.role leg h.kept) h
  move_holds u v p (Marks leg) may ups h =
      quiet u v p (record p { role = mark p.role leg }) (not_up u v ups) (λ n. refl)
      (mark_kept u (spoke p.came) p.role.newest_in p.role leg h.kept) h
  move_holds u v p (Pings leg) may ups h =
      quiet u v p p (not_up u v ups) (λ n. refl) h.kept h

  -- ---- calls

  given_holds : (u v : ℕ → Bool) (p : EndPassage Server) (pdu : List ℕ)
      (x : Server × Result (Unit {0}) GiveRefused) → ((k : ℕ) → v k ≡ u k || false)
      → Kept u (spoke p.passage.came) p.passage.role.newest_in x.0 → Holds u p.passage
      → Holds v (given_by p pdu x).passage
  given_holds u v p pdu (t, Ok accepted) ups k h =
      quiet u v p.passage (record (p.passage) { role = t }) (not_up u v ups) (λ n. refl) k h
  given_holds u v p pdu (t, Err why) ups k h =
      quiet u v p.passage (record (p.passage) { role = t }) (not_up u v ups) (λ n. refl) k h

  taken_holds : (v : ℕ → Bool) (p : EndPassage Server) (pdus : List (List ℕ))
      → Holds v p.passage → Holds v (with_first p pdus).passage
  taken_holds v p [] h = h
  taken_holds v p (pdu ∷ pdus) h = h

  end_move_holds : (u v : ℕ → Bool) (p : EndPassage Server) (move : EndMove)
      → MayEndMove server_rules p.passage.role move → ((k : ℕ) → v k ≡ u k || is_up k move)
      → Holds u p.passage → Holds v (end_moved server_rules server_acts p move).passage
  end_move_holds u v p (Moves move) may ups h = move_holds u v p.passage move may ups h
  end_move_holds u v p (Gives bytes) may ups h =
      given_holds u v p bytes (give p.passage.role bytes) ups
      (same_kept u (spoke p.passage.came) p.passage.role.newest_in p.passage.role
      (give p.passage.role bytes).0 (same_give p.passage.role bytes) h.kept) h
  end_move_holds u v p Takes may ups h =
      taken_holds v (end_now_at p (take p.passage.role)) p.passage.role.line.current.pdus
      (quiet u v p.passage (record (p.passage) { role = take p.passage.role }) (not_up u v ups)
      (λ n. refl)
      (take_kept u (spoke p.passage.came) p.passage.role.newest_in p.passage.role h.kept) h)
  end_move_holds u v p Closes may ups h =
      quiet u v p.passage (end_moved server_rules server_acts p Closes).passage (not_up u v ups)
      (λ n. refl)
      (record { ins = h.kept.ins; current = h.kept.current; next = h.kept.next; newest = refl }) h
  end_move_holds u v p Recycles may ups h =
      quiet u v p.passage (record (p.passage) { role = (recycle p.passage.role).0 })
      (not_up u v ups) (λ n. refl)
      (same_kept u (spoke p.passage.came) p.passage.role.newest_in p.passage.role
      (recycle p.passage.role).0 (same_recycle p.passage.role) h.kept) h

  -- ---- all moves

  came_more : (before : List EndMove) (move : EndMove) (k : ℕ)
      → came_up (before ++ move ∷ []) k ≡ came_up before k || is_up k move
  came_more [] move k = or_nothing (is_up k move)
  came_more (first ∷ before) move k =
      ap (λ b. is_up k first || b) (came_more before move k)
      ∙ sym (or_assoc (is_up k first) (came_up before k) (is_up k move))

  pub moves_hold : (before : List EndMove) (p : EndPassage Server) (moves : List EndMove)
      → AreAllowedAtEnd server_rules server_acts p moves → Holds (came_up before) p.passage
      → Holds (came_up (before ++ moves)) (all_end_moved server_rules server_acts p moves).passage
  moves_hold before p [] allowed h =
      subst (λ all. Holds (came_up all) p.passage) (sym (append-nil before)) h
  moves_hold before p (move ∷ moves) allowed h =
      subst (λ all. Holds (came_up all)
      (all_end_moved server_rules server_acts (end_moved server_rules server_acts p move)
      moves).passage)
      (append_assoc before (move ∷ []) moves)
      (moves_hold (before ++ move ∷ []) (end_moved server_rules server_acts p move) moves allowed.1
      (end_move_holds (came_up before) (came_up (before ++ move ∷ [])) p move allowed.0
      (came_more before move) h))
