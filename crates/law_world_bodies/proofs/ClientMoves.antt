-- what a client put keeps to the lengths that its requests tell, whatever moves came
use Rattle.law_order.proofs.Vocabulary.{◌≡◌, ℕ, Bool, true, false, List, [], ◌∷◌, ◌++◌, Some, None, Ok, Err, inl, inr, arith, refl, sym, ap, ◌∙◌, subst, AllByRecursion, if◌then◌else◌, nat_eq, Option, nat_tests, append-nil, fun_ext, more}
use Rattle.rh_client.specs.Putting as putting
use Rattle.law_moves.proofs.Vocabulary.{Pipe, CiU, CoU, ClientConfig, Leg, LegKind, ClientOut, OutServer, ClientIn, InServer, Row, Message, Text, Pdu, Packet, same_leg, OnLeg, Passage, EndPassage, EndMove, Up, HeadCame, PduCame, PacketCame, Puts, IsDrawn, Marks, Pings, Moves, Gives, Takes, Closes, Recycles, taken_by, given_by, with_first, end_moved, all_end_moved, of_leg, AllMayGo, MayGoOn}
use Rattle.law_moves.proofs.Lemmas.{other_more as of_other, leg_more as one_more}
use Rattle.law_moves.specs.Moves as moves
use Rattle.law_role_client.proofs.Vocabulary.{OUT_R1_A3_C1_LEN, ClientRole, ci, co, Given, give, take, Pick, rules as client_rules, acts, packet, pdu, pipe_put, client_started, client_moved, AreAllowedMoves}
use Rattle.law_node_streams.proofs.Streams.LegLogs.{on_leg}
use Rattle.law_node_begins.proofs.EndsBegin.Stands.{NumberLogs}
use Rattle.law_node_begins.specs.EndsBegin.{BeginsLegs}
use Rattle.law_world_bodies.proofs.Sizes.{spelled_total}
use Rattle.law_world_bodies.proofs.Rooms.{Fits, each_fits}
use Rattle.law_world_bodies.proofs.ClientRooms.{Keeps, Legs, TellsIn, TellsOut, drawn_keeps, fronts, give_keeps, packet_keeps, pdu_keeps, ping_keeps, recycle_keeps, take_keeps, up_keeps}
use Rattle.law_world_bodies.proofs.ClientPuts.{IsPicked, grown, puts_by}
use Rattle.law_world_bodies.specs.Bodies.{KeepsLength, RequestTells}

-- ---- what stands on the legs

-- on those of a kind, by their numbers
abbrev of_kind : (ℕ → Leg) → List OnLeg → NumberLogs
of_kind leg_of put = λ k. of_leg (leg_of k) put

abbrev legs : List OnLeg → Legs
legs put = record { ins = of_kind ci put; outs = of_kind co put }

-- one message more on a leg of a kind
on_kind : (leg_of : ℕ → Leg) → ((a b : ℕ) → same_leg (leg_of a) (leg_of b) ≡ nat_eq b a)
    → (put : List OnLeg) (n : ℕ) (m : Message)
    → of_kind leg_of (put ++ (leg_of n, m) ∷ []) ≡ more n (m ∷ []) (of_kind leg_of put)
on_kind leg_of same put n m =
    fun_ext (λ k. one_more (leg_of k) put (leg_of n, m)
    ∙ ap (λ (t : Bool). of_leg (leg_of k) put ++ (if t then m ∷ [] else [])) (same n k)
    ∙ by (nat_eq k n) (of_leg (leg_of k) put))
  where
    by : (t : Bool) (ms : List Message)
        → ms ++ (if t then m ∷ [] else []) ≡ (if t then ms ++ m ∷ [] else ms)
    by true ms = refl
    by false ms = append-nil ms

-- and on a leg of another kind
off_kind : (leg_of : ℕ → Leg) (put : List OnLeg) (one : OnLeg)
    → ((n : ℕ) → same_leg one.0 (leg_of n) ≡ false)
    → of_kind leg_of (put ++ one ∷ []) ≡ of_kind leg_of put
off_kind leg_of put one apart = fun_ext (λ k. of_other (leg_of k) put one (apart k))

turned : (a b : ℕ) → nat_eq a b ≡ nat_eq b a
turned a b = grind (arith, nat_tests)

both : (a b c d : NumberLogs) → a ≡ c → b ≡ d
    → ◌≡◌ {A = Legs} (record { ins = a; outs = b }) (record { ins = c; outs = d })
both a b c d e f =
    ap (λ (x : NumberLogs). record { ins = x; outs = b }) e
    ∙ ap (λ (x : NumberLogs). record { ins = c; outs = x }) f

more_stands : (put : List OnLeg) (kind : LegKind) (n : ℕ) (m : Message)
    → legs (put ++ (record { kind = kind; number = n }, m) ∷ []) ≡ grown kind n m (legs put)
more_stands put ClientIn n m =
    both _ _ _ _ (on_kind ci turned put n m) (off_kind co put (ci n, m) (λ k. refl))
more_stands put ClientOut n m =
    both _ _ _ _ (off_kind ci put (co n, m) (λ k. refl)) (on_kind co turned put n m)
more_stands put OutServer n m =
    both _ _ _ _
    (off_kind ci put (record { kind = OutServer; number = n }, m) (λ k. refl))
    (off_kind co put (record { kind = OutServer; number = n }, m) (λ k. refl))
more_stands put InServer n m =
    both _ _ _ _
    (off_kind ci put (record { kind = InServer; number = n }, m) (λ k. refl))
    (off_kind co put (record { kind = InServer; number = n }, m) (λ k. refl))

-- ---- moves

module _ (config : ClientConfig) where
  abbrev Holds : Passage ClientRole → Type 0
  Holds p = Keeps config (legs p.put) p.role

  taken_holds : (p : Passage ClientRole) (leg : Leg) (m : Message) (row : ClientRole × Row)
      → Keeps config (legs p.put) row.0 → Holds (taken_by p leg m row)
  taken_holds p leg m (role, Ok took) h = h
  taken_holds p leg m (role, Err refused) h = h

  put_holds : (p : Passage ClientRole) (leg : Leg) (pick : Pick)
      → IsPicked config (legs p.put) leg.kind leg.number pick → Holds p
      → Holds (moves.put_by p leg pick)
  put_holds p leg None picked h = h
  put_holds p leg (Some pick) picked h =
      subst (λ (logs : Legs). Keeps config logs pick.0)
      (sym (more_stands p.put leg.kind leg.number pick.1)) picked

  move_holds : (p : Passage ClientRole) (move : moves.Move)
      → moves.MayMove client_rules p.role move → Holds p
      → Holds (moves.moved client_rules p move)
  move_holds p (Up leg cookie) may h =
      up_keeps config (legs p.put) p.role leg.number cookie leg.kind may.1 h
  move_holds p (HeadCame leg text) may h = h
  move_holds p (PduCame leg count bytes) may h =
      taken_holds p leg (Pdu bytes) (pdu p.role leg count bytes)
      (pdu_keeps config (legs p.put) p.role leg.number bytes leg.kind h)
  move_holds p (PacketCame leg count named) may h =
      taken_holds p leg (Packet named) (packet p.role leg count named)
      (packet_keeps config (legs p.put) p.role leg.number count named leg.kind h)
  move_holds p (Puts leg) may h =
      put_holds p leg (putting.put p.role leg)
      (puts_by config (legs p.put) p.role leg.number leg.kind h) h
  move_holds p (IsDrawn leg) may h =
      drawn_keeps config (legs p.put) p.role leg.number leg.kind h
  move_holds p (Marks leg) may h = h
  move_holds p (Pings leg) may h = ping_keeps config (legs p.put) p.role leg.number leg.kind h

  given_holds : (p : EndPassage ClientRole) (bytes : List ℕ) (x : Given)
      → Keeps config (legs p.passage.put) x.0 → Holds (given_by p bytes x).passage
  given_holds p bytes (role, Ok accepted) h = h
  given_holds p bytes (role, Err refused) h = h

  first_holds : (p : EndPassage ClientRole) (pdus : List (List ℕ)) → Holds p.passage
      → Holds (with_first p pdus).passage
  first_holds p [] h = h
  first_holds p (pdu ∷ pdus) h = h

  end_holds : (p : EndPassage ClientRole) (move : EndMove)
      → moves.MayEndMove client_rules p.passage.role move → Holds p.passage
      → Holds (end_moved client_rules acts p move).passage
  end_holds p (Moves move) may h = move_holds p.passage move may h
  end_holds p (Gives bytes) may h =
      given_holds p bytes (give p.passage.role bytes)
      (give_keeps config (legs p.passage.put) p.passage.role bytes h)
  end_holds p Takes may h =
      first_holds (moves.end_now_at p (take p.passage.role)) p.passage.role.line.current.pdus
      (take_keeps config (legs p.passage.put) p.passage.role h)
  end_holds p Closes may h = h
  end_holds p Recycles may h =
      recycle_keeps config (legs p.passage.put) p.passage.role p.passage.role.replacement refl h

  all_hold : (p : EndPassage ClientRole) (all : List EndMove)
      → moves.AreAllowedAtEnd client_rules acts p all → Holds p.passage
      → Holds (all_end_moved client_rules acts p all).passage
  all_hold p [] may h = h
  all_hold p (move ∷ all) may h =
      all_hold (end_moved client_rules acts p move) all may.1 (end_holds p move may.0 h)

  starts : Holds (client_started config).passage
  starts = record {
    config_stays = refl;
    ins = (
      record { stands = (refl, omega arith); below = λ k under. inl refl },
      λ k above. refl,
    );
    outs = (
      record { stands = (refl, omega arith); below = λ k under. inl refl },
      λ k above. refl,
    );
  }

  -- ---- what was put on each leg

  by_size : (kind : LegKind) (pipe : Option Pipe) (put : List Message) (most : ℕ)
      → AllByRecursion (MayGoOn pipe) put → Fits (RequestTells config kind) most put
      → KeepsLength (RequestTells config kind) put
  by_size kind pipe [] most may h = tt
  by_size kind pipe (Text text ∷ put) most may (inr h) =
      let same = spelled_total pipe put may.1 in
      (h.0, h.1, omega (arith, h.2, same))
  by_size kind pipe (Pdu pdu ∷ put) most may (inr h) = absurd h
  by_size kind pipe (Packet named ∷ put) most may (inr h) = absurd h
  by_size kind pipe (m ∷ put) most may (inl none) = absurd (cc)

  nothing_put : (kind : LegKind) (put : List Message) → put ≡ []
      → KeepsLength (RequestTells config kind) put
  nothing_put kind [] none = tt
  nothing_put kind (m ∷ put) none = absurd (cc)

  pub keeps_length : (all : List EndMove) → AreAllowedMoves config all
      → BeginsLegs pipe_put (client_moved config all).passage.put
      → AllMayGo pipe_put (client_moved config all).passage.put → (leg : Leg)
      → KeepsLength (RequestTells config leg.kind)
      (of_leg leg (client_moved config all).passage.put)
  keeps_length all allowed begins may leg = by leg.kind leg.number
    where
      put : List OnLeg
      put = (client_moved config all).passage.put

      holds : Holds (client_moved config all).passage
      holds = all_hold (client_started config) all allowed starts

      by : (kind : LegKind) (n : ℕ)
          → KeepsLength (RequestTells config kind) (of_leg (record { kind = kind; number = n }) put)
      by ClientIn n =
          by_size ClientIn (Some CiU) (of_leg (ci n) put) config.lifetime
          (on_leg pipe_put MayGoOn (ci n) put may)
          (each_fits (TellsIn config) config.lifetime
          (fronts (client_moved config all).passage.role).ins (legs put).ins
          holds.ins n)
      by ClientOut n =
          by_size ClientOut (Some CoU) (of_leg (co n) put) OUT_R1_A3_C1_LEN
          (on_leg pipe_put MayGoOn (co n) put may)
          (each_fits (TellsOut config) OUT_R1_A3_C1_LEN
          (fronts (client_moved config all).passage.role).outs (legs put).outs
          holds.outs n)
      by OutServer n =
          nothing_put OutServer (of_leg (record { kind = OutServer; number = n }) put)
          (begins.nothing (record { kind = OutServer; number = n }) refl)
      by InServer n =
          nothing_put InServer (of_leg (record { kind = InServer; number = n }) put)
          (begins.nothing (record { kind = InServer; number = n }) refl)
