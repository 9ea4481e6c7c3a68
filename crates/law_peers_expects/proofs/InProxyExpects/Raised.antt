-- each ci leg of an in proxy that was up came up by one of its moves
use Rattle.law_order.proofs.Vocabulary.{◌≡◌, ◌⊎◌, ℕ, suc, ◌≤◌, ◌==◌, ◌||◌, Bool, true, false, if◌then◌else◌, List, [], ◌∷◌, Some, None, Ok, Err, inl, inr, refl, sym, ap, subst, arith, and_parts, nat_tests, list_any, Option}
use Rattle.rh_inproxy.specs.declared.state.Opening.TheVariants as openings
use Rattle.law_moves.proofs.Vocabulary.{by_test, Leg, Message, Pdu, Packet, same_leg, Move, Up, HeadCame, PduCame, PacketCame, Puts, IsDrawn, Marks, Pings, OnLeg, Passage, all_moved, moved, put_by, started, taken_by}
use Rattle.law_moves.proofs.Lemmas.{moves_keep}
use Rattle.law_role_inproxy.proofs.Vocabulary.{InProxyConfig, Opener, Opening, Successor, Absent, Up as IsUp, Joined, Done, Pick, mark, up, may_accept, accepts, accepts_later, accepted, wants, connected, drawn, had_client, head, is_absent, newest_by, opener_of, put as put_of, InProxy, first, is_client_leg, ping, packet, pdu, rules}
use Rattle.law_role_client.proofs.Vocabulary.{ci}
use Rattle.law_node_streams.specs.Streams.{is_up_on}
use Rattle.law_peers_expects.proofs.InProxyExpects.Announces.{Holds, starts, steps}
use Rattle.law_peers_expects.proofs.InProxyExpects.Newest.{Seen, Same, same_drawn, same_head, same_mark, same_packet, same_pdu, same_ping, put_goes, seen}
use Rattle.law_peers_expects.proofs.InProxyExpects.Known as known
use Rattle.law_peers_expects.proofs.InProxyExpects.Newest as newest
use Rattle.law_peers_expects.specs.InProxyExpects.Expected.{CameUpByMoves}

-- ---- a ci leg that was up

-- from the first one to the newest
abbrev WasUp : ℕ → ℕ → Seen → Type 0
WasUp first n x = (x.had ≡ true) × (first ≤ n) × (n ≤ x.newest)

module _ (first n : ℕ) where
  abbrev Gains : InProxy → InProxy → Bool → Type 0
  Gains s t here = WasUp first n (seen t) → WasUp first n (seen s) ⊎ (here ≡ true)

  same_gains : (s t : InProxy) (here : Bool) → Same s t → Gains s t here
  same_gains s t here same up = inl (subst (WasUp first n) same up)

  module _ (s : InProxy) (came : List OnLeg) (h : known.Knows first (known.seen s) came) where
    abbrev Comes : Leg → InProxy → Type 0
    Comes leg t = Gains s t (same_leg leg (ci n))

    here_is : (leg : Leg) → is_client_leg leg ≡ true → leg.number ≡ n
        → same_leg leg (ci n) ≡ true
    here_is leg kind number = grind (arith, nat_tests, kind, number)

    -- the first one is alone
    at_first : opener_of s.opening ≡ None
        → (s.current.number ≡ first) × (is_absent s.successor ≡ true)
    at_first none =
        subst (λ (o : Option Opener). known.Opened first o s.current.number (is_absent s.successor)
        came) none h.opened

    absent_newest : (z : Successor) → is_absent z ≡ true → newest_by s.current z ≡ s.current.number
    absent_newest Absent e = refl
    absent_newest (IsUp number) e = absurd cc
    absent_newest (Joined leg stage) e = absurd cc

    later_gains : (leg : Leg) → is_client_leg leg ≡ true → had_client s.opening ≡ true
        → accepts_later s leg.number ≡ true
        → Comes leg (record s { successor = IsUp leg.number; newest_lost = false })
    later_gains leg kind had e was = by (n == leg.number) refl
      where
        number : leg.number ≡ suc s.current.number
        number = grind (arith, nat_tests, e)

        absent : is_absent s.successor ≡ true
        absent = grind (arith, nat_tests, e)

        by : (b : Bool) → (n == leg.number) ≡ b
            → WasUp first n (seen s) ⊎ (same_leg leg (ci n) ≡ true)
        by true f =
            let same : leg.number ≡ n = grind (arith, nat_tests, f) in
            inr (here_is leg kind same)
        by false f =
            let most = was.2 in
            let last = absent_newest s.successor absent in
            let apart : n ≡ leg.number → ⊥ = grind (arith, nat_tests, f) in
            inl (had, was.1, omega (arith, number, most, last, apart))

    accept_gains : (leg : Leg) (o : Opening) → s.opening ≡ o → is_client_leg leg ≡ true
        → accepts s o leg.number ≡ true → Comes leg (accepted s o leg.number)
    accept_gains leg openings.AwaitsClient e kind may = λ was.
        let alone = at_first (ap opener_of e) in
        let last = absent_newest s.successor alone.1 in
        let at = alone.0 in
        let most = was.2 in
        let least = was.1 in
        let is : leg.number ≡ s.current.number = grind (arith, nat_tests, may) in
        inr (here_is leg kind (omega (arith, at, last, most, least, is)))
    accept_gains leg openings.AwaitsPacket e kind may = absurd cc
    accept_gains leg (openings.WantsServer o) e kind may =
        later_gains leg kind (ap had_client e) may
    accept_gains leg (openings.Announces o) e kind may =
        later_gains leg kind (ap had_client e) may
    accept_gains leg (openings.Announced o) e kind may =
        later_gains leg kind (ap had_client e) may

    connect_same : (o : Opening) → s.opening ≡ o → Same s (connected s o)
    connect_same (openings.WantsServer o) e =
        ap (λ (p : Opening). let x : Seen = record {
          newest = newest_by s.current s.successor;
          had = had_client p;
        } in x) (sym e)
    connect_same openings.AwaitsClient e = refl
    connect_same openings.AwaitsPacket e = refl
    connect_same (openings.Announces o) e = refl
    connect_same (openings.Announced o) e = refl

    up_gains : (leg : Leg) → Comes leg (up s leg)
    up_gains leg =
        by_test (Comes leg) (may_accept s leg) (accepted s s.opening leg.number)
        (if wants s leg then connected s s.opening else s)
        (λ e. let parts = and_parts (is_client_leg leg) (accepts s s.opening leg.number) e in
        accept_gains leg s.opening refl parts.0 parts.1)
        (λ e. by_test (Comes leg) (wants s leg) (connected s s.opening) s
        (λ f. same_gains s (connected s s.opening) (same_leg leg (ci n))
        (connect_same s.opening refl))
        (λ f. same_gains s s (same_leg leg (ci n)) refl))

  -- ---- a move

  taken_same : (p : Passage InProxy) (leg : Leg) (m : Message) (x : Done) → Same p.role x.0
      → Same p.role (taken_by p leg m x).role
  taken_same p leg m (t, Ok taken) same = same
  taken_same p leg m (t, Err why) same = same

  put_same : (p : Passage InProxy) (leg : Leg) (pick : Pick) → newest.Goes p.role pick
      → Same p.role (put_by p leg pick).role
  put_same p leg None same = refl
  put_same p leg (Some one) same = same

  move_gains : (p : Passage InProxy) (move : Move) → Holds first p.role p.came p.put
      → Gains p.role (moved rules p move).role (is_up_on (ci n) move)
  move_gains p (Up leg cookie) h = up_gains p.role p.came h.knows leg
  move_gains p (HeadCame leg text) h =
      same_gains p.role (head p.role leg text).0 false (same_head p.role leg text)
  move_gains p (PduCame leg count bytes) h =
      same_gains p.role (taken_by p leg (Pdu bytes) (pdu p.role leg count bytes)).role false
      (taken_same p leg (Pdu bytes) (pdu p.role leg count bytes)
      (same_pdu p.role leg count bytes))
  move_gains p (PacketCame leg count m) h =
      same_gains p.role (taken_by p leg (Packet m) (packet p.role leg count m)).role false
      (taken_same p leg (Packet m) (packet p.role leg count m) (same_packet p.role leg count m))
  move_gains p (Puts leg) h =
      same_gains p.role (put_by p leg (put_of p.role leg)).role false
      (put_same p leg (put_of p.role leg) (put_goes p.role leg))
  move_gains p (IsDrawn leg) h =
      same_gains p.role (drawn p.role leg) false (same_drawn p.role leg)
  move_gains p (Marks leg) h = same_gains p.role (mark p.role leg) false (same_mark p.role leg)
  move_gains p (Pings leg) h = same_gains p.role (ping p.role leg) false (same_ping p.role leg)

  -- ---- all moves

  moves_gain : (p : Passage InProxy) (moves : List Move) → Holds first p.role p.came p.put
      → Gains p.role (all_moved rules p moves).role (list_any (is_up_on (ci n)) moves)
  moves_gain p [] h up = inl up
  moves_gain p (move ∷ moves) h up =
      by (moves_gain (moved rules p move) moves
      (moves_keep rules (Holds first) (steps first) p (move ∷ []) h) up)
    where
      any_first : (a b : Bool) → a ≡ true → (a || b) ≡ true
      any_first true b e = refl
      any_first false b e = absurd cc

      any_later : (a b : Bool) → b ≡ true → (a || b) ≡ true
      any_later true b e = refl
      any_later false b e = e

      by : WasUp first n (seen (moved rules p move).role)
          ⊎ (list_any (is_up_on (ci n)) moves ≡ true)
          → WasUp first n (seen p.role) ⊎ (list_any (is_up_on (ci n)) (move ∷ moves) ≡ true)
      by (inr later) =
          inr (any_later (is_up_on (ci n) move) (list_any (is_up_on (ci n)) moves) later)
      by (inl then_up) = here (move_gains p move h then_up)
        where
          here : WasUp first n (seen p.role) ⊎ (is_up_on (ci n) move ≡ true)
              → WasUp first n (seen p.role)
              ⊎ (list_any (is_up_on (ci n)) (move ∷ moves) ≡ true)
          here (inl before) = inl before
          here (inr now) =
              inr (any_first (is_up_on (ci n) move) (list_any (is_up_on (ci n)) moves) now)

-- ---- the law

was_up_is : (first n : ℕ) (s : InProxy) → s.config.number ≡ first
    → rules.was_up s (ci n) ≡ true → WasUp first n (seen s)
was_up_is first n s number e = (
  grind (arith, nat_tests, e),
  grind (arith, nat_tests, e, number),
  grind (arith, nat_tests, e),
)

pub came_up_by_moves : (config : InProxyConfig) (moves : List Move)
    → CameUpByMoves moves (all_moved rules (started (first config)) moves)
came_up_by_moves config moves n was_up =
    let p = all_moved rules (started (first config)) moves in
    let known = moves_keep rules (Holds config.number) (steps config.number)
    (started (first config)) moves (starts config) in
    by (moves_gain config.number n (started (first config)) moves (starts config)
    (was_up_is config.number n p.role known.knows.number was_up))
  where
    by : WasUp config.number n (seen (first config))
        ⊎ (list_any (is_up_on (ci n)) moves ≡ true) → list_any (is_up_on (ci n)) moves ≡ true
    by (inl up) = absurd (let had = up.0 in cc)
    by (inr is) = is
