-- an is leg that came up at the server of a world of lines is that of a channel of its number
use Rattle.law_order.proofs.Vocabulary.{◌≡◌, ◌≤◌, ◌⊎◌, ◌&&◌, ◌||◌, ℕ, zero, suc, Bool, true, false, not, List, [], ◌∷◌, inl, inr, arith, refl, sym, ap, ◌∙◌, subst, nat_eq, list_all, list_any, true≢false, eqb-true}
use Rattle.law_moves.proofs.Vocabulary.{Leg, LegKind, ClientIn, ClientOut, InServer, OutServer, is_of, same_leg, EndMove, Moves, Gives, Takes, Closes, Recycles, Up, HeadCame, PduCame, PacketCame, Puts, IsDrawn, Marks, Pings, WasUp}
use Rattle.law_role_inproxy.proofs.Vocabulary.{InProxy}
use Rattle.law_role_client.proofs.Vocabulary.{ClientRole, ci}
use Rattle.law_role_server.proofs.Vocabulary.{Server, came_up, is_up}
use Rattle.law_node_history.proofs.Vocabulary.{reader_of, is_absent, Makers, leg_at, World, Leads, of_line, History}
use Rattle.law_node_history.proofs.Lemmas.{or_right, cases_leg, same_itself}
use Rattle.law_role_outproxy.proofs.Vocabulary.{OutProxy}
use Rattle.law_node_streams.specs.Streams.{is_end_up_on}
use Rattle.law_node_traces.proofs.Traced.ByChanges.{lines_by_changes}
use Rattle.law_node_traces.proofs.Vocabulary.{ByChanges, ComeUpByLines, is_made, AreOurs, deeds, rules, IsKnown, history_at}
use Rattle.law_peers_in_channels.specs.InSuccessors.Connected.{AreConnected}
use Rattle.law_world_order.proofs.Vocabulary.{IsFlowing, numbers_of, moves_of}
use Rattle.law_world_windows.specs.Hops.{is_leg}
use Rattle.law_world_expected.specs.Roles.{IsByLines}

-- ---- legs that come up by the moves of an end

-- under some cookie
was_up : (leg : Leg) (moves : List EndMove) → list_any (is_end_up_on leg) moves ≡ true
    → WasUp moves leg
was_up leg [] up = absurd (true≢false (sym up))
was_up leg (move ∷ moves) up =
    here move up
    (λ later. let rest = was_up leg moves later in (rest.0, inr rest.1))
  where
    here : (one : EndMove) → (is_end_up_on leg one || list_any (is_end_up_on leg) moves) ≡ true
        → (list_any (is_end_up_on leg) moves ≡ true → WasUp (one ∷ moves) leg)
        → WasUp (one ∷ moves) leg
    here (Moves (Up other cookie)) rose behind = by (cases_leg other leg)
      where
        by : (other ≡ leg) ⊎ (same_leg other leg ≡ false)
            → WasUp (Moves (Up other cookie) ∷ moves) leg
        by (inl same) = (cookie, inl (ap (λ (l : Leg). Moves (Up l cookie)) same))
        by (inr apart) =
            behind (ap (λ (b : Bool). b || list_any (is_end_up_on leg) moves) (sym apart) ∙ rose)
    here (Moves (HeadCame other text)) rose behind = behind rose
    here (Moves (PduCame other count pdu)) rose behind = behind rose
    here (Moves (PacketCame other count named)) rose behind = behind rose
    here (Moves (Puts other)) rose behind = behind rose
    here (Moves (IsDrawn other)) rose behind = behind rose
    here (Moves (Marks other)) rose behind = behind rose
    here (Moves (Pings other)) rose behind = behind rose
    here (Gives pdu) rose behind = behind rose
    here Takes rose behind = behind rose
    here Closes rose behind = behind rose
    here Recycles rose behind = behind rose

-- an is leg as a server sees it
rose_there : (n : ℕ) (moves : List EndMove) → came_up moves n ≡ true
    → list_any (is_end_up_on (is_leg n)) moves ≡ true
rose_there n [] up = up
rose_there n (move ∷ moves) up = by (is_up n move) refl (rose_there n moves) up
  where
    same : (kind : LegKind) (k : ℕ) → (is_of InServer (leg_at kind k) && nat_eq n k) ≡ true
        → leg_at kind k ≡ is_leg n
    same InServer k is = ap (λ (j : ℕ). is_leg j) (sym (eqb-true n k is))
    same ClientIn k is = absurd (true≢false (sym is))
    same ClientOut k is = absurd (true≢false (sym is))
    same OutServer k is = absurd (true≢false (sym is))

    one : (move : EndMove) → is_up n move ≡ true → is_end_up_on (is_leg n) move ≡ true
    one (Moves (Up leg cookie)) is =
        subst (λ (l : Leg). same_leg l (is_leg n) ≡ true) (sym (same leg.kind leg.number is))
        (same_itself (is_leg n))
    one move is = absurd cc

    by : (b : Bool) → is_up n move ≡ b
        → (came_up moves n ≡ true → list_any (is_end_up_on (is_leg n)) moves ≡ true)
        → (b || came_up moves n) ≡ true
        → (is_end_up_on (is_leg n) move || list_any (is_end_up_on (is_leg n)) moves) ≡ true
    by true is behind rose =
        ap (λ (b : Bool). b || list_any (is_end_up_on (is_leg n)) moves) (one move is)
    by false is behind rose =
        or_right (is_end_up_on (is_leg n) move) (list_any (is_end_up_on (is_leg n)) moves)
        (behind rose)

-- ---- in a world of lines

module _ {K : Type 0} (m : Makers K InProxy OutProxy)
    (w v : World K ClientRole Server InProxy OutProxy) (ours : AreOurs m w.company w.cast)
    (leads : Leads rules m deeds w v) where
  abbrev h : History
  h = history_at m w v leads

  module _ (known : IsKnown m w v leads) (lines : ComeUpByLines v h)
      (f : IsFlowing (numbers_of ours) w v h) where
    -- there is no in proxy 0
    positive : (n : ℕ) → is_made v.company n ≡ true → 1 ≤ n
    positive zero made =
        absurd (true≢false (sym made ∙ ap (λ p. not (is_absent p)) known.traced.zero))
    positive (suc k) made = omega arith

    pub are_connected : AreConnected (reader_of v.readers) (moves_of f)
    are_connected n up =
        let made = lines.joined n
        (sym (f.flows.server.ups (is_leg n)) ∙ rose_there n f.flows.server.leads.moves up) in
        let above = positive n made in
        let own = known.read.own n made in
        record {
          positive = above;
          read = own;
          opened = was_up (ci n) f.flows.client.leads.moves
              (f.flows.client.ups (ci n)
              ∙ known.traced.carried.first n (λ none. omega (arith, above, own, none)));
        }

  -- the changes of lines may be others with the same history
  pub connected_by : (so : IsByLines m w v h)
      → ((by : ByChanges rules m deeds w v) → list_all of_line by.leads.changes ≡ true
      → (f : IsFlowing (numbers_of ours) w v (history_at m w v by.leads))
      → AreConnected (reader_of v.readers) (moves_of f))
      → (f : IsFlowing (numbers_of ours) w v h) → AreConnected (reader_of v.readers) (moves_of f)
  connected_by so law =
      subst (λ (past : History). (f : IsFlowing (numbers_of ours) w v past)
      → AreConnected (reader_of v.readers) (moves_of f)) so.same
      (law (lines_by_changes rules m deeds w v so.lines) so.lines.work)
