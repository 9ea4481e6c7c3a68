-- a move by which an acknowledgement to the client comes makes no answer due
use Rattle.law_order.proofs.Vocabulary.{◌≡◌, ◌⊎◌, inl, inr, ℕ, ◌+◌, ◌<◌, ◌≤◌, List, [], ◌∷◌, ◌++◌, Some, None, Ok, Err, refl, ap, ◌∙◌, arith, Option, Result}
use Rattle.rh_sig.specs.declared.named.Named.TheVariants as named
use Rattle.law_moves.proofs.Vocabulary.{Cookie, Named, Leg, LegKind, ClientOut, OutServer, ClientIn, InServer, Count, GiveRefused, Message, Packet, Pdu, count_of, of_kind, OnLeg, Move, Up, HeadCame, PduCame, PacketCame, Puts, IsDrawn, Marks, Pings, Passage, moved, taken_by, put_by, EndMove, Moves, Gives, Takes, Closes, Recycles, EndPassage, end_moved, end_now_at, given_by, with_first}
use Rattle.law_moves.proofs.Lemmas.{count_append, kind_more}
use Rattle.law_role_server.proofs.Vocabulary.{on_ack_to, Done, acts, packet_by, rules, Server, is_in_r1_a3, is_in_r2_a3, leg_at, often}
use Rattle.law_role_server.proofs.Counted.Adding.{ack_to_adds}
use Rattle.law_role_server.proofs.Counted.Connecting.{ack_alone}
use Rattle.law_peers_moments.specs.GoingRound.{taken_in}
use Rattle.law_peers_room.specs.ServerRoom.Overtaking.{is_ack_for}
use Rattle.law_peers_forwarding.specs.ServerFull.Oldest.{due_in}

ack_same : (s : Server) (count : Count) (to received window : ℕ) (cookie : Cookie)
    → due_in (on_ack_to s count to received window cookie).0 ≡ due_in s
ack_same s count to received window cookie =
    let adds = ack_to_adds s count to received window cookie in
    let first = adds.counts is_in_r1_a3 ack_alone.in_r1_a3 in
    let later = adds.counts is_in_r2_a3 ack_alone.in_r2_a3 in omega (arith, first, later)

module _ (channel : Cookie) where
  abbrev acks : List OnLeg → ℕ
  acks came = often (is_ack_for channel) InServer came

  -- one came, and no answer
  abbrev Quiet : Passage Server → Passage Server → Type 0
  Quiet p q = acks p.came < acks q.came
      → taken_in q + due_in q.role ≤ taken_in p + due_in p.role

  same_quiet : (p q : Passage Server) → q.came ≡ p.came → Quiet p q
  same_quiet p q same more = let none = ap acks same in absurd (omega (arith, more, none))

  abbrev one_comes : OnLeg → ℕ
  one_comes one = count_of (is_ack_for channel) (of_kind InServer (one ∷ []))

  row_quiet : (p : Passage Server) (leg : Leg) (m : Message) (x : Done)
      → (one_comes (leg, m) ≡ 0) ⊎ (due_in x.0 ≡ due_in p.role) → Quiet p (taken_by p leg m x)
  row_quiet p leg m (t, Ok taken) (inl none) more =
      let came : acks (p.came ++ (leg, m) ∷ []) ≡ acks p.came + one_comes (leg, m) =
      ap (count_of (is_ack_for channel)) (kind_more InServer p.came (leg, m))
      ∙ count_append (is_ack_for channel) (of_kind InServer p.came)
      (of_kind InServer ((leg, m) ∷ [])) in
      absurd (omega (arith, more, came, none))
  row_quiet p leg m (t, Ok taken) (inr same) more = omega (arith, same)
  row_quiet p leg m (t, Err why) either more = absurd (omega (arith, more))

  pdu_none : (k : LegKind) (n : ℕ) (bytes : List ℕ) → one_comes (leg_at k n, Pdu bytes) ≡ 0
  pdu_none InServer n bytes = refl
  pdu_none OutServer n bytes = refl
  pdu_none ClientIn n bytes = refl
  pdu_none ClientOut n bytes = refl

  packet_so : (s : Server) (n : ℕ) (count : Count) (m : Named) (k : LegKind)
      → (one_comes (leg_at k n, Packet m) ≡ 0)
      ⊎ (due_in (packet_by s n count m k).0 ≡ due_in s)
  packet_so s n count (named.AckTo to received window cookie) InServer =
      inr (ack_same s count to received window cookie)
  packet_so s n count m InServer = inl refl
  packet_so s n count m OutServer = inl refl
  packet_so s n count m ClientIn = inl refl
  packet_so s n count m ClientOut = inl refl

  put_same : (p : Passage Server) (leg : Leg) (pick : Option (Server × Message))
      → (put_by p leg pick).came ≡ p.came
  put_same p leg None = refl
  put_same p leg (Some one) = refl

  move_quiet : (p : Passage Server) (move : Move) → Quiet p (moved rules p move)
  move_quiet p (Up leg cookie) = same_quiet p (moved rules p (Up leg cookie)) refl
  move_quiet p (HeadCame leg text) = same_quiet p (moved rules p (HeadCame leg text)) refl
  move_quiet p (PduCame leg count bytes) =
      row_quiet p leg (Pdu bytes) (rules.pdu p.role leg count bytes)
      (inl (pdu_none leg.kind leg.number bytes))
  move_quiet p (PacketCame leg count m) =
      row_quiet p leg (Packet m) (rules.packet p.role leg count m)
      (packet_so p.role leg.number count m leg.kind)
  move_quiet p (Puts leg) =
      same_quiet p (moved rules p (Puts leg)) (put_same p leg (rules.put p.role leg))
  move_quiet p (IsDrawn leg) = same_quiet p (moved rules p (IsDrawn leg)) refl
  move_quiet p (Marks leg) = same_quiet p (moved rules p (Marks leg)) refl
  move_quiet p (Pings leg) = same_quiet p (moved rules p (Pings leg)) refl

  given_same : (p : EndPassage Server) (bytes : List ℕ)
      (x : Server × Result (Unit {0}) GiveRefused)
      → (given_by p bytes x).passage.came ≡ p.passage.came
  given_same p bytes (s, Ok accepted) = refl
  given_same p bytes (s, Err why) = refl

  first_same : (p : EndPassage Server) (pdus : List (List ℕ))
      → (with_first p pdus).passage.came ≡ p.passage.came
  first_same p [] = refl
  first_same p (pdu ∷ pdus) = refl

  pub quiet_by : (p : EndPassage Server) (move : EndMove)
      → acks p.passage.came < acks (end_moved rules acts p move).passage.came
      → taken_in (end_moved rules acts p move).passage
      + due_in (end_moved rules acts p move).passage.role
      ≤ taken_in p.passage + due_in p.passage.role
  quiet_by p (Moves move) = move_quiet p.passage move
  quiet_by p (Gives bytes) =
      same_quiet p.passage (end_moved rules acts p (Gives bytes)).passage
      (given_same p bytes (acts.give p.passage.role bytes))
  quiet_by p Takes =
      same_quiet p.passage (end_moved rules acts p Takes).passage
      (first_same (end_now_at p (acts.take p.passage.role))
      (acts.line p.passage.role).current.pdus)
  quiet_by p Closes = same_quiet p.passage (end_moved rules acts p Closes).passage refl
  quiet_by p Recycles = same_quiet p.passage (end_moved rules acts p Recycles).passage refl
