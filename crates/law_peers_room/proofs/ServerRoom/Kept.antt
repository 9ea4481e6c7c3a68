-- an in proxy acknowledges in order, whatever happens
use Rattle.law_order.proofs.Vocabulary.{◌≡◌, inl, inr, ℕ, suc, ◌==◌, true, false, List, [], ◌∷◌, ◌++◌, Some, None, Ok, Err, refl, sym, ap, ◌∙◌, subst, arith, append-nil}
use Rattle.rh_sig.specs.declared.named.Named.TheVariants as named
use Rattle.rh_inproxy.specs.declared.state.Work.TheVariants as works
use Rattle.rh_inproxy.specs.Putting as putting
use Rattle.law_moves.proofs.Vocabulary.{by_test, same_number, test_same, Cookie, Leg, LegKind, ClientOut, OutServer, ClientIn, InServer, Message, Text, Pdu, Packet, OnLeg, Move, all_moved, started, of_leg}
use Rattle.law_moves.proofs.Lemmas.{PutKeeps, RowKeeps, StepsKeep, moves_keep}
use Rattle.law_role_inproxy.proofs.Vocabulary.{InProxyConfig, Work, Done, Pick, mark, settled_pick, pdu, packet, rules as proxy_rules, drawn, echo_answer, echo_by, head, up, next, InProxy, first, is_server_leg, ping, ci}
use Rattle.law_role_inproxy.proofs.Putting.Laws.{more_by, here_came, pdu_came}
use Rattle.law_role_inproxy.specs.Putting.Puts.{is_leg}
use Rattle.law_peers_room.proofs.ServerRoom.Channels.{seen, known_stays, same_moves, used_stays}
use Rattle.law_peers_room.proofs.ServerRoom.Rows.{Row, pdu_row, packet_row, same_drawn, same_head, same_mark, same_ping, up_moves}
use Rattle.law_peers_room.proofs.ServerRoom.Puts.{Stands, Goes, server_goes, still}
use Rattle.law_peers_room.specs.ServerRoom.Acks.{AcknowledgesInOrder, Acknowledge, IsOfTwo}

-- ---- one more came

module _ (came : List OnLeg) (one : OnLeg) where
  abbrev later : List OnLeg
  later = came ++ one ∷ []

  two_stays : (n : ℕ) (channel : Cookie) → IsOfTwo came n channel → IsOfTwo later n channel
  two_stays n channel (inl used) = inl (used_stays n channel came one used)
  two_stays n channel (inr of) = inr (of.0, of.1, used_stays of.0 channel came one of.2)

  acks_stay : (n : ℕ) (ms : List Message) → Acknowledge came n ms → Acknowledge later n ms
  acks_stay n [] h = tt
  acks_stay n (Packet (named.InR2A2 successor) ∷ ms) h = acks_stay (suc n) ms h
  acks_stay n (Packet (named.AckTo to received available channel) ∷ ms) h =
      (λ e. two_stays n channel (h.0 e), acks_stay n ms h.1)
  acks_stay n (other ∷ ms) h = acks_stay n ms h

-- ---- a message more

module _ (config : InProxyConfig) where
  abbrev on : List OnLeg → List Message
  on put = of_leg (is_leg config.number) put

  abbrev Holds : InProxy → List OnLeg → List OnLeg → Type 0
  Holds s came put = Stands config came (on put) s

  row_keeps : (s : InProxy) (leg : Leg) (m : Message) (came put : List OnLeg) (x : Done)
      → (h : Holds s came put)
      → Row config came (came ++ (leg, m) ∷ []) s h.known
      (known_stays config came (leg, m) (seen s) h.known) x
      → RowKeeps Holds (leg, m) came put x
  row_keeps s leg m came put (t, Err why) h moves = still config came (on put) s t moves h
  row_keeps s leg m came put (t, Ok taken) h moves =
      still config (came ++ (leg, m) ∷ []) (on put) s t moves (record {
        known = known_stays config came (leg, m) (seen s) h.known;
        last = h.last;
        stream = acks_stay came (leg, m) config.number (on put) h.stream;
      })

  echo_keeps : (s : InProxy) (n : ℕ) (came put : List OnLeg) (w : Work) → Holds s came put
      → PutKeeps Holds (ci n) came put (echo_by s w n)
  echo_keeps s n came put works.Underway h = tt
  echo_keeps s n came put (works.EchoPut asked_on) h = tt
  echo_keeps s n came put works.Done h = tt
  echo_keeps s n came put (works.EchoDue asked_on) h =
      by_test (PutKeeps Holds (ci n) came put) (asked_on == n)
      (Some (record s { work = works.EchoPut asked_on }, Text echo_answer)) None
      (λ e. subst (λ (ms : List Message). Stands config came ms
      (record s { work = works.EchoPut asked_on }))
      (sym (more_by (is_leg config.number) put (ci n, Text echo_answer) false refl
      ∙ append-nil (on put)))
      (still config came (on put) s (record s { work = works.EchoPut asked_on })
      (same_moves config came s (record s { work = works.EchoPut asked_on }) refl h.known) h))
      (λ e. tt)

  server_keeps : (s : InProxy) (n : ℕ) (came put : List OnLeg) → config.number ≡ n
      → (pick : Pick) → (h : Holds s came put) → Goes config came (on put) s h pick
      → PutKeeps Holds (is_leg n) came put pick
  server_keeps s n came put e None h goes = tt
  server_keeps s n came put e (Some one) h goes =
      subst (λ (k : ℕ). Holds one.0 came (put ++ (is_leg k, one.1) ∷ [])) e
      (subst (λ (ms : List Message). Stands config came ms one.0)
      (sym (more_by (is_leg config.number) put (is_leg config.number, one.1) true
      (test_same config.number))) goes)

  put_keeps : (s : InProxy) (n : ℕ) (kind : LegKind) (came put : List OnLeg) → Holds s came put
      → PutKeeps Holds (record { kind = kind; number = n }) came put
      (putting.put s (record { kind = kind; number = n }))
  put_keeps s n ClientIn came put h = echo_keeps s n came put s.work h
  put_keeps s n ClientOut came put h = tt
  put_keeps s n OutServer came put h = tt
  put_keeps s n InServer came put h =
      by_test (PutKeeps Holds (is_leg n) came put) (is_server_leg s (is_leg n))
      (settled_pick (next s)) None
      (λ e. server_keeps s n came put
      (sym (ap (λ (c : InProxyConfig). c.number) h.known.same) ∙ same_number s.config.number n e)
      (settled_pick (next s)) h (server_goes config came (on put) s h))
      (λ e. tt)

  steps : StepsKeep proxy_rules Holds
  steps = record {
    up = λ s leg cookie came put h.
        still config came (on put) s (up s leg) (up_moves config came s h.known leg) h;
    head = λ s leg text came put h.
        still config came (on put) s (head s leg text).0
        (same_moves config came s (head s leg text).0 (same_head s leg text) h.known) h;
    pdu = λ s leg count bytes came put h.
        row_keeps s leg (Pdu bytes) came put (pdu s leg count bytes) h
        (pdu_row config came (came ++ (leg, Pdu bytes) ∷ []) s h.known
        (known_stays config came (leg, Pdu bytes) (seen s) h.known) leg count bytes
        (pdu_came leg.number leg.kind came bytes));
    packet = λ s leg count m came put h.
        row_keeps s leg (Packet m) came put (packet s leg count m) h
        (packet_row config came (came ++ (leg, Packet m) ∷ []) s h.known
        (known_stays config came (leg, Packet m) (seen s) h.known) leg count m
        (here_came leg.number leg.kind came m));
    put = λ s leg came put h. put_keeps s leg.number leg.kind came put h;
    drawn = λ s leg came put h.
        still config came (on put) s (drawn s leg)
        (same_moves config came s (drawn s leg) (same_drawn s leg) h.known) h;
    mark = λ s leg came put h.
        still config came (on put) s (mark s leg)
        (same_moves config came s (mark s leg) (same_mark s leg) h.known) h;
    ping = λ s leg came put h.
        still config came (on put) s (ping s leg)
        (same_moves config came s (ping s leg) (same_ping s leg) h.known) h;
  }

  starts : Stands config [] [] (first config)
  starts = record {
    known = record {
      same = refl;
      joined = refl;
      finished = refl;
      begun = λ e. absurd cc;
      now = inr (record { none = refl; released = refl; told = omega arith });
      later = tt;
      waits = tt;
      behind = tt;
    };
    last = omega arith;
    stream = tt;
  }

pub acknowledges_in_order : (config : InProxyConfig) (moves : List Move)
    → AcknowledgesInOrder config (all_moved proxy_rules (started (first config)) moves)
acknowledges_in_order config moves =
    (moves_keep proxy_rules (Holds config) (steps config) (started (first config)) moves
    (starts config)).stream
