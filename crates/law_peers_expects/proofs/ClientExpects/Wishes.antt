-- OUT_R1/A2 comes at the client once on each OUT channel from the first on
use Rattle.law_order.proofs.Vocabulary.{◌≡◌, ℕ, ◌+◌, ◌≤◌, Bool, true, false, if◌then◌else◌, List, [], ◌∷◌, ◌++◌, Some, None, Ok, Err, refl, sym, ap, ◌∙◌, subst, arith, Option, Result}
use Rattle.law_moves.proofs.Vocabulary.{Named, Leg, LegKind, ClientOut, OutServer, ClientIn, InServer, Count, GiveRefused, Message, Row, Text, Pdu, Packet, EndMove, EndPassage, Passage, OnLeg, Moves, Gives, Takes, Closes, Recycles, Up, HeadCame, PduCame, PacketCame, Puts, IsDrawn, Marks, Pings, taken_by, put_by, given_by, with_first, end_moved, end_now_at, of_leg, count_of, count_on}
use Rattle.law_moves.proofs.Lemmas.{count_append, here_more}
use Rattle.law_role_client.proofs.Vocabulary.{ClientRole, Done, co, acts, rules, packet_by, packet_on, pdu_by, on_pdu, StandsOnEach, is_out_r1_a2, out_asked, out_wanted}
use Rattle.law_role_client.proofs.Counted.Standing.{passes, stands_next, stands_on, stands_stays}
use Rattle.law_role_server.proofs.Vocabulary.{Server, IsOnEachFrom, is_out_r1_a1, out_put}
use Rattle.law_peers_expects.proofs.ClientExpects.InTurn.{is_behind}

-- ---- what a move of the client adds to what came: at most one, on an OUT channel

pub data Brings (p q : EndPassage ClientRole) : Type 0 where
  BringsNone : q.passage.came ≡ p.passage.came → Brings p q
  BringsOne : (n : ℕ) (m : Message) → q.passage.came ≡ p.passage.came ++ (co n, m) ∷ []
      → q.passage.put ≡ p.passage.put → Brings p q

-- a row takes something only there
abbrev IsTakenOn : LegKind → ClientRole × Row → Type 0
IsTakenOn kind (s, Ok taken) = kind ≡ ClientOut
IsTakenOn kind (s, Err refused) = Unit {0}

taken_there : (row : Done) → IsTakenOn ClientOut row
taken_there (s, Ok taken) = refl
taken_there (s, Err refused) = tt

packet_taken : (s : ClientRole) (n : ℕ) (count : Count) (named : Named) (kind : LegKind)
    → IsTakenOn kind (packet_by s n count named kind)
packet_taken s n count named ClientOut = taken_there (packet_on s n count named)
packet_taken s n count named OutServer = tt
packet_taken s n count named ClientIn = tt
packet_taken s n count named InServer = tt

pdu_taken : (s : ClientRole) (n : ℕ) (bytes : List ℕ) (kind : LegKind)
    → IsTakenOn kind (pdu_by s n bytes kind)
pdu_taken s n bytes ClientOut = taken_there (on_pdu s n bytes)
pdu_taken s n bytes OutServer = tt
pdu_taken s n bytes ClientIn = tt
pdu_taken s n bytes InServer = tt

module _ (p : EndPassage ClientRole) where
  by_row : (leg : Leg) (m : Message) (row : ClientRole × Row) → IsTakenOn leg.kind row
      → Brings p (record p { passage = taken_by p.passage leg m row })
  by_row leg m (s, Ok taken) there =
      BringsOne leg.number m
      (ap (λ (kind : LegKind).
      p.passage.came ++ (record { kind = kind; number = leg.number }, m) ∷ []) there) refl
  by_row leg m (s, Err refused) there = BringsNone refl

  by_put : (leg : Leg) (pick : Option (ClientRole × Message))
      → Brings p (record p { passage = put_by p.passage leg pick })
  by_put leg None = BringsNone refl
  by_put leg (Some one) = BringsNone refl

  by_given : (pdu : List ℕ) (x : ClientRole × Result (Unit {0}) GiveRefused)
      → Brings p (given_by p pdu x)
  by_given pdu (s, Ok given) = BringsNone refl
  by_given pdu (s, Err refused) = BringsNone refl

  by_first : (s : ClientRole) (pdus : List (List ℕ))
      → Brings p (with_first (end_now_at p s) pdus)
  by_first s [] = BringsNone refl
  by_first s (pdu ∷ pdus) = BringsNone refl

  pub brings : (move : EndMove) → Brings p (end_moved rules acts p move)
  brings (Moves (Up leg cookie)) = BringsNone refl
  brings (Moves (HeadCame leg text)) = BringsNone refl
  brings (Moves (PduCame leg count bytes)) =
      by_row leg (Pdu bytes) (rules.pdu p.passage.role leg count bytes)
      (pdu_taken p.passage.role leg.number bytes leg.kind)
  brings (Moves (PacketCame leg count named)) =
      by_row leg (Packet named) (rules.packet p.passage.role leg count named)
      (packet_taken p.passage.role leg.number count named leg.kind)
  brings (Moves (Puts leg)) = by_put leg (rules.put p.passage.role leg)
  brings (Moves (IsDrawn leg)) = BringsNone refl
  brings (Moves (Marks leg)) = BringsNone refl
  brings (Moves (Pings leg)) = BringsNone refl
  brings (Gives pdu) = by_given pdu (acts.give p.passage.role pdu)
  brings Takes =
      by_first (acts.take p.passage.role) (acts.line p.passage.role).current.pdus
  brings Closes = BringsNone refl
  brings Recycles = BringsNone refl

-- ---- a move more

one_passes : (test : Named → Bool) (m : Message) → passes test m ≡ true
    → count_of test (m ∷ []) ≡ 1
one_passes test (Text bytes) e = absurd cc
one_passes test (Pdu pdu) e = absurd cc
one_passes test (Packet named) e =
    let is : test named ≡ true = e in
    subst (λ (b : Bool). ◌≡◌ {A = ℕ} (if b then 1 else 0) 1) (sym is) refl

-- as many came on each channel as the server put there at most, and it put no more than one more
-- than the client asked for
pub record AreAsked (c : Passage ClientRole) (s : Passage Server) : Type 0 where
  pub on : (n : ℕ) → count_on is_out_r1_a2 ClientOut c.came n
      ≤ count_on is_out_r1_a1 OutServer s.put n
  pub each : IsOnEachFrom 1 is_out_r1_a1 OutServer s.put
  pub one : out_put is_out_r1_a1 s ≤ out_asked c + 1

module _ (p q : EndPassage ClientRole) (s : Passage Server) (asked : AreAsked q.passage s)
    (wanted : out_asked p.passage ≤ out_wanted p.passage)
    (stands : StandsOnEach is_out_r1_a2 ClientOut 1 p.passage.came) where
  abbrev Now : List OnLeg → Type 0
  Now log = StandsOnEach is_out_r1_a2 ClientOut 1 log

  next_number : (n : ℕ) (m : Message) → q.passage.came ≡ p.passage.came ++ (co n, m) ∷ []
      → q.passage.put ≡ p.passage.put → passes is_out_r1_a2 m ≡ true
      → n ≡ 1 + out_wanted p.passage
  next_number n m came put is =
      let more : count_on is_out_r1_a2 ClientOut q.passage.came n
      ≡ count_of is_out_r1_a2 (of_leg (co n) p.passage.came ++ m ∷ []) =
      ap (λ (log : List OnLeg). count_of is_out_r1_a2 (of_leg (co n) log)) came
      ∙ ap (count_of is_out_r1_a2) (here_more (co n) p.passage.came m) in
      let both = count_append is_out_r1_a2 (of_leg (co n) p.passage.came) (m ∷ []) in
      let one = one_passes is_out_r1_a2 m is in
      let on = asked.on n in
      let behind = is_behind is_out_r1_a2 is_out_r1_a1 p.passage.came s.put stands asked.each n
      (omega (arith, more, both, one, on)) in
      let those = behind.those in
      let within = behind.within in
      let most : out_put is_out_r1_a1 s ≤ out_asked p.passage + 1 =
      subst (λ (log : List OnLeg). out_put is_out_r1_a1 s
      ≤ out_asked (record (p.passage) { put = log }) + 1) put asked.one in
      omega (arith, those, within, most, wanted)

  one_brought : (n : ℕ) (m : Message) → q.passage.came ≡ p.passage.came ++ (co n, m) ∷ []
      → q.passage.put ≡ p.passage.put → (b : Bool) → passes is_out_r1_a2 m ≡ b
      → Now (p.passage.came ++ (co n, m) ∷ [])
  one_brought n m came put false other =
      stands_on is_out_r1_a2 ClientOut 1 (out_wanted p.passage)
      (p.passage.came ++ (co n, m) ∷ [])
      (stands_stays is_out_r1_a2 ClientOut 1 (out_wanted p.passage) p.passage.came (co n, m)
      other (record { all = refl; each = stands }))
  one_brought n m came put true is =
      stands_on is_out_r1_a2 ClientOut 1 (out_wanted p.passage + 1)
      (p.passage.came ++ (co n, m) ∷ [])
      (stands_next is_out_r1_a2 ClientOut 1 (out_wanted p.passage) p.passage.came (co n, m) is
      refl (next_number n m came put is) (record { all = refl; each = stands }))

  pub brought : Brings p q → Now q.passage.came
  brought (BringsNone same) = subst Now (sym same) stands
  brought (BringsOne n m came put) =
      subst Now (sym came) (one_brought n m came put (passes is_out_r1_a2 m) refl)
