-- what an in proxy puts on its is leg, whatever happens
use Rattle.law_order.proofs.Vocabulary.{◌≡◌, ℕ, ◌==◌, Bool, true, false, true≢false, if◌then◌else◌, List, [], ◌∷◌, ◌++◌, Some, None, Ok, Err, refl, sym, ap, ◌∙◌, subst, and_parts, append-nil}
use Rattle.rh_inproxy.specs.declared.state.Work.TheVariants as works
use Rattle.rh_inproxy.specs.Putting as putting
use Rattle.law_moves.proofs.Vocabulary.{by_test, same_number, test_same, Named, Leg, LegKind, ClientOut, OutServer, ClientIn, InServer, Message, Text, Pdu, Packet, same_leg, OnLeg, Move, Up, HeadCame, PduCame, PacketCame, Puts, IsDrawn, Marks, Pings, Passage, started, moved, all_moved, taken_by, put_by, of_leg, HasOne}
use Rattle.law_moves.proofs.Lemmas.{PutKeeps, leg_more, last_one_so}
use Rattle.law_role_inproxy.proofs.Vocabulary.{InProxyConfig, Work, Done, Pick, unexpected, mark, settled_pick, up, head, drawn, was_up, echo_by, echo_answer, has_server, is_absent, next, InProxy, channel_of, first, has_opened, is_client_leg, is_server_leg, ping, pdu, pdu_by, packet, on_ci, on_is, rules as proxy_rules, ci, CameFirst, CameOn, HasPdu, IsFront, IsPutUp, ArePutUp, PutsInOrder}
use Rattle.law_role_inproxy.proofs.Putting.Fronts.{last_pdu, stream_stays}
use Rattle.law_role_inproxy.proofs.Putting.Sounds.{seen, Moves, sound_stays, same_moves}
use Rattle.law_role_inproxy.proofs.Putting.Ups.{up_moves, head_moves, drawn_moves, mark_moves, ping_moves}
use Rattle.law_role_inproxy.proofs.Putting.Rows.{Row, pdu_row, packet_row}
use Rattle.law_role_inproxy.proofs.Putting.Stands.{Stands, Goes, still}
use Rattle.law_role_inproxy.proofs.Putting.Behind.{server_goes}
use Rattle.law_role_inproxy.proofs.Putting.Fresh.{Takes, new_alone, new_nothing, pdu_takes, ci_takes}
use Rattle.law_role_inproxy.specs.Putting.Puts.{is_leg}

-- ---- a message more

pub more_by : (leg : Leg) (log : List OnLeg) (one : OnLeg) (b : Bool) → same_leg one.0 leg ≡ b
    → of_leg leg (log ++ one ∷ []) ≡ of_leg leg log ++ (if b then one.1 ∷ [] else [])
more_by leg log one b e =
    leg_more leg log one
    ∙ ap (λ (t : Bool). of_leg leg log ++ (if t then one.1 ∷ [] else [])) e

pub here_came : (n : ℕ) (kind : LegKind) (log : List OnLeg) (m : Named)
    → is_client_leg (record { kind = kind; number = n }) ≡ true → (Is : Named → Type 0) → Is m
    → CameOn n Is (log ++ (record { kind = kind; number = n }, Packet m) ∷ [])
here_came n ClientIn log m e Is is =
    subst (HasOne Is) (sym (more_by (ci n) log (ci n, Packet m) true (test_same n)))
    (last_one_so Is (of_leg (ci n) log) m is)
here_came n ClientOut log m e Is is = absurd cc
here_came n OutServer log m e Is is = absurd cc
here_came n InServer log m e Is is = absurd cc

pub front_came : (n k : ℕ) (kind : LegKind) (log : List OnLeg) (m : Named)
    → is_client_leg (record { kind = kind; number = n }) ≡ true → of_leg (ci k) log ≡ []
    → n ≡ k → (Is : Named → Type 0) → Is m
    → CameFirst k Is (log ++ (record { kind = kind; number = n }, Packet m) ∷ [])
front_came n k ClientIn log m e none same Is is =
    let before : of_leg (ci n) log ≡ [] =
    subst (λ (j : ℕ). of_leg (ci j) log ≡ []) (sym same) none in
    subst (λ (j : ℕ). CameFirst j Is (log ++ (ci n, Packet m) ∷ [])) same
    (subst (IsFront Is) (sym (more_by (ci n) log (ci n, Packet m) true (test_same n)
    ∙ ap (λ (ms : List Message). ms ++ Packet m ∷ []) before)) is)
front_came n k ClientOut log m e none same Is is = absurd cc
front_came n k OutServer log m e none same Is is = absurd cc
front_came n k InServer log m e none same Is is = absurd cc

pub other_leg : (n k : ℕ) (kind : LegKind)
    → is_client_leg (record { kind = kind; number = n }) ≡ false
    → same_leg (record { kind = kind; number = n }) (ci k) ≡ false
other_leg n k ClientIn e = absurd cc
other_leg n k ClientOut e = refl
other_leg n k OutServer e = refl
other_leg n k InServer e = refl

pub pdu_came : (n : ℕ) (kind : LegKind) (log : List OnLeg) (pdu : List ℕ)
    → is_client_leg (record { kind = kind; number = n }) ≡ true
    → HasPdu pdu (of_leg (ci n) (log ++ (record { kind = kind; number = n }, Pdu pdu) ∷ []))
pdu_came n ClientIn log pdu e =
    subst (HasPdu pdu) (sym (more_by (ci n) log (ci n, Pdu pdu) true (test_same n)))
    (last_pdu pdu (of_leg (ci n) log))
pdu_came n ClientOut log pdu e = absurd cc
pdu_came n OutServer log pdu e = absurd cc
pdu_came n InServer log pdu e = absurd cc

module _ (config : InProxyConfig) where
  abbrev on : List OnLeg → List Message
  on put = of_leg (is_leg config.number) put

  -- before the first packet nothing came on the lowest ci leg
  abbrev IsFresh : InProxy → List OnLeg → Type 0
  IsFresh s came = has_opened s.opening ≡ false → of_leg (ci config.number) came ≡ []

  abbrev Holds : InProxy → List OnLeg → List OnLeg → Type 0
  Holds s came put = Stands config came (on put) s × IsFresh s came

  abbrev HoldsAt : Passage InProxy → Type 0
  HoldsAt p = Holds p.role p.came p.put

  goes_on : (s t : InProxy) (came put : List OnLeg) → Holds s came put → Moves config came s t
      → Holds t came put
  goes_on s t came put h moves = (
    still config came (on put) s t moves h.0.stream h.0.at h.0.last,
    λ e. h.1 (moves.opened e),
  )

  -- ---- what comes

  alone : (p : Passage InProxy) → HoldsAt p → has_opened p.role.opening ≡ false
      → is_absent p.role.successor ≡ true
  alone p h new =
      new_alone config p.came p.role.current p.role.successor p.role.opening new
      h.0.sound.opening

  row_kept : (p : Passage InProxy) (leg : Leg) (m : Message) (x : Done) (h : HoldsAt p)
      → Row config p.came (p.came ++ (leg, m) ∷ []) p.role h.0.sound
      (sound_stays config p.came (leg, m) (seen p.role) h.0.sound) x
      → (is_client_leg leg ≡ true → has_opened p.role.opening ≡ false → Takes x)
      → HoldsAt (taken_by p leg m x)
  row_kept p leg m (t, Err why) h moves takes = goes_on p.role t p.came p.put h moves
  row_kept p leg m (t, Ok taken) h moves takes = (
    still config (p.came ++ (leg, m) ∷ []) (on p.put) p.role t moves
        (stream_stays p.came (leg, m) config (on p.put) h.0.stream) h.0.at h.0.last,
    λ e. by (is_client_leg leg) refl e,
  )
    where
      by : (b : Bool) → is_client_leg leg ≡ b → has_opened t.opening ≡ false
          → of_leg (ci config.number) (p.came ++ (leg, m) ∷ []) ≡ []
      by true c e = absurd (true≢false (sym (takes c (moves.opened e)) ∙ e))
      by false c e =
          more_by (ci config.number) p.came (leg, m) false
          (other_leg leg.number config.number leg.kind c)
          ∙ append-nil (of_leg (ci config.number) p.came) ∙ h.1 (moves.opened e)

  -- ---- what is put

  echo_kept : (s : InProxy) (n : ℕ) (came put : List OnLeg) (w : Work) → Holds s came put
      → PutKeeps Holds (ci n) came put (echo_by s w n)
  echo_kept s n came put works.Underway h = tt
  echo_kept s n came put (works.EchoPut asked_on) h = tt
  echo_kept s n came put works.Done h = tt
  echo_kept s n came put (works.EchoDue asked_on) h =
      by_test (PutKeeps Holds (ci n) came put) (asked_on == n)
      (Some (record s { work = works.EchoPut asked_on }, Text echo_answer)) None
      (λ e. (
        subst (λ (ms : List Message). Stands config came ms
            (record s { work = works.EchoPut asked_on }))
            (sym (more_by (is_leg config.number) put (ci n, Text echo_answer) false refl
            ∙ append-nil (on put)))
            (goes_on s (record s { work = works.EchoPut asked_on }) came put h
            (same_moves config came s (record s { work = works.EchoPut asked_on }) refl
            h.0.sound)).0,
        h.1,
      ))
      (λ e. tt)

  server_kept : (s : InProxy) (n : ℕ) (came put : List OnLeg) → config.number ≡ n
      → (pick : Pick) → (h : Holds s came put) → Goes config came (on put) s h.0 pick
      → PutKeeps Holds (is_leg n) came put pick
  server_kept s n came put e None h goes = tt
  server_kept s n came put e (Some one) h goes =
      subst (λ (k : ℕ). Holds one.0 came (put ++ (is_leg k, one.1) ∷ [])) e (
        subst (λ (ms : List Message). Stands config came ms one.0)
            (sym (more_by (is_leg config.number) put (is_leg config.number, one.1) true
            (test_same config.number))) goes,
        λ f. absurd (new_nothing one.0.opening (on put) one.1 f goes.at),
      )

  put_kept : (s : InProxy) (n : ℕ) (kind : LegKind) (came put : List OnLeg)
      → was_up s (record { kind = kind; number = n }) ≡ true → Holds s came put
      → PutKeeps Holds (record { kind = kind; number = n }) came put
      (putting.put s (record { kind = kind; number = n }))
  put_kept s n ClientIn came put up h = echo_kept s n came put s.work h
  put_kept s n ClientOut came put up h = tt
  put_kept s n OutServer came put up h = tt
  put_kept s n InServer came put up h =
      by_test (PutKeeps Holds (is_leg n) came put) (is_server_leg s (is_leg n))
      (settled_pick (next s)) None
      (λ e. server_kept s n came put
      (sym (ap (λ (c : InProxyConfig). c.number) h.0.sound.same) ∙ same_number s.config.number n e)
      (settled_pick (next s)) h
      (server_goes config came (on put) s h.0
      (and_parts (is_server_leg s (is_leg n)) (has_server s.opening) up).1))
      (λ e. tt)

  -- ---- moves

  by_put : (p : Passage InProxy) (leg : Leg) (pick : Pick) → HoldsAt p
      → PutKeeps Holds leg p.came p.put pick → HoldsAt (put_by p leg pick)
  by_put p leg None h goes = h
  by_put p leg (Some one) h goes = goes

  move_kept : (p : Passage InProxy) (move : Move) → IsPutUp proxy_rules p.role move → HoldsAt p
      → HoldsAt (moved proxy_rules p move)
  move_kept p (Up leg cookie) may h =
      goes_on p.role (up p.role leg) p.came p.put h (up_moves config p.came p.role h.0.sound leg)
  move_kept p (HeadCame leg text) may h =
      goes_on p.role (head p.role leg text).0 p.came p.put h
      (head_moves config p.came p.role h.0.sound leg text)
  move_kept p (PduCame leg count bytes) may h =
      row_kept p leg (Pdu bytes) (pdu p.role leg count bytes) h
      (pdu_row config p.came (p.came ++ (leg, Pdu bytes) ∷ []) p.role h.0.sound
      (sound_stays config p.came (leg, Pdu bytes) (seen p.role) h.0.sound) leg count bytes
      (pdu_came leg.number leg.kind p.came bytes))
      (λ c new. by_test Takes (is_client_leg leg)
      (pdu_by p.role (channel_of p.role leg.number) bytes) (unexpected p.role)
      (λ e. pdu_takes p.role new (alone p h new) leg.number bytes) (λ e. tt))
  move_kept p (PacketCame leg count m) may h =
      row_kept p leg (Packet m) (packet p.role leg count m) h
      (packet_row config p.came (p.came ++ (leg, Packet m) ∷ []) p.role h.0.sound
      (sound_stays config p.came (leg, Packet m) (seen p.role) h.0.sound) leg count m
      (here_came leg.number leg.kind p.came m)
      (λ c new. front_came leg.number config.number leg.kind p.came m c (h.1 new)))
      (λ c new. by_test Takes (is_client_leg leg) (on_ci p.role leg.number m)
      (if is_server_leg p.role leg then on_is p.role m else unexpected p.role)
      (λ e. ci_takes p.role new (alone p h new) leg.number m)
      (λ e. absurd (true≢false (sym c ∙ e))))
  move_kept p (Puts leg) may h =
      by_put p leg (putting.put p.role leg) h
      (put_kept p.role leg.number leg.kind p.came p.put may h)
  move_kept p (IsDrawn leg) may h =
      goes_on p.role (drawn p.role leg) p.came p.put h
      (drawn_moves config p.came p.role h.0.sound leg)
  move_kept p (Marks leg) may h =
      goes_on p.role (mark p.role leg) p.came p.put h
      (mark_moves config p.came p.role h.0.sound leg)
  move_kept p (Pings leg) may h =
      goes_on p.role (ping p.role leg) p.came p.put h
      (ping_moves config p.came p.role h.0.sound leg)

  moves_kept : (p : Passage InProxy) (moves : List Move) → ArePutUp proxy_rules p moves
      → HoldsAt p → HoldsAt (all_moved proxy_rules p moves)
  moves_kept p [] may h = h
  moves_kept p (move ∷ moves) may h =
      moves_kept (moved proxy_rules p move) moves may.1 (move_kept p move may.0 h)

  starts : HoldsAt (started (first config))
  starts = (
    record {
      sound = record {
        same = refl;
        joined = refl;
        finished = refl;
        opening = (refl, refl);
        next = tt;
        leaving = tt;
        waits = tt;
        held = tt;
        held_next = tt;
        quiet = tt;
      };
      at = refl;
      stream = tt;
      last = refl;
    },
    λ e. refl,
  )

pub puts_in_order : (config : InProxyConfig) (moves : List Move)
    → ArePutUp proxy_rules (started (first config)) moves
    → PutsInOrder config (all_moved proxy_rules (started (first config)) moves)
puts_in_order config moves may =
    (moves_kept config (started (first config)) moves may (starts config)).0.stream
