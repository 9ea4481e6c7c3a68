-- a role that puts no more packets of some kind than came of another: what it owes is paid by what
-- came, and what it puts pays it
use Rattle.law_order.proofs.Vocabulary.{ℕ, ◌+◌, ◌≤◌, Bool, IsTrue, List, [], ◌∷◌, ◌++◌, Some, None, Ok, Err, arith, IfSome, Option}
use Rattle.law_moves.proofs.Vocabulary.{Cookie, Named, Leg, Count, Rules, Row, Message, Pdu, Packet, OnLeg, Move, Up, HeadCame, PduCame, PacketCame, Puts, IsDrawn, Marks, Pings, Passage, MayMove, AreAllowed, moved, all_moved, taken_by, put_by, of_leg, count_of}
use Rattle.law_moves.proofs.PacketKinds.Counts.{leg_at_most}

-- ---- steps

-- what is known of the role, and what it owes
module _ {S : Type 0} (Known : S → Type 0) (owes : S → ℕ) where
  -- no more than so much
  abbrev pub Owes : ℕ → S → Type 0
  Owes limit t = Known t × (owes t ≤ limit)

  -- behind a row that takes what is worth so much, or refuses it
  abbrev pub Gains : ℕ → S → S × Row → Type 0
  Gains worth s (t, Ok taken) = Owes (owes s + worth) t
  Gains worth s (t, Err refused) = Owes (owes s) t

  -- behind a put, which pays for what passes the test
  abbrev pub Spends : (Named → Bool) → S → Option (S × Message) → Type 0
  Spends test s pick =
      IfSome pick (λ (one : S × Message).
      Known one.0 × (owes one.0 + count_of test (one.1 ∷ []) ≤ owes s))

-- which ups may be, what a packet is worth, and what is counted of those that are put
pub record StepsPay {S : Type 0} (rules : Rules S) (MayUp : S → Leg → Type 0)
    (Known : S → Type 0) (owes : S → ℕ) (worth : S → Leg → Named → ℕ) (test : Named → Bool)
    : Type 0 where
  pub up : (s : S) (leg : Leg) (cookie : Cookie) → Known s → MayUp s leg
      → Owes Known owes (owes s) (rules.up s leg cookie)
  pub head : (s : S) (leg : Leg) (text : List ℕ) → Known s
      → Owes Known owes (owes s) (rules.head s leg text).0
  pub pdu : (s : S) (leg : Leg) (count : Count) (bytes : List ℕ) → Known s
      → Gains Known owes 0 s (rules.pdu s leg count bytes)
  pub packet : (s : S) (leg : Leg) (count : Count) (named : Named) → Known s
      → Gains Known owes (worth s leg named) s (rules.packet s leg count named)
  pub put : (s : S) (leg : Leg) → Known s → Spends Known owes test s (rules.put s leg)
  pub drawn : (s : S) (leg : Leg) → Known s → Owes Known owes (owes s) (rules.drawn s leg)
  pub mark : (s : S) (leg : Leg) → Known s → Owes Known owes (owes s) (rules.mark s leg)
  pub ping : (s : S) (leg : Leg) → Known s → Owes Known owes (owes s) (rules.ping s leg)

-- ---- moves

module _ {S : Type 0} (rules : Rules S) (MayUp : S → Leg → Type 0) where
  abbrev pub MayRise : S → Move → Type 0
  MayRise s (Up leg cookie) = MayUp s leg
  MayRise s move = Unit {0}

  -- each leg comes up where it may
  abbrev pub Rise : Passage S → List Move → Type 0
  Rise p [] = Unit {0}
  Rise p (move ∷ moves) = MayRise p.role move × Rise (moved rules p move) moves

pub allowed_rise : {S : Type 0} (rules : Rules S) (MayUp : S → Leg → Type 0)
    → ((s : S) (leg : Leg) → IsTrue (rules.may_up s leg) → MayUp s leg) → (p : Passage S)
    (moves : List Move) → AreAllowed rules p moves → Rise rules MayUp p moves
allowed_rise rules MayUp so p [] allowed = tt
allowed_rise rules MayUp so p (move ∷ moves) allowed =
    (by move allowed.0, allowed_rise rules MayUp so (moved rules p move) moves allowed.1)
  where
    by : (m : Move) → MayMove rules p.role m → MayRise rules MayUp p.role m
    by (Up leg cookie) may = so p.role leg may.1
    by m may = tt

pub any_rise : {S : Type 0} (rules : Rules S) (MayUp : S → Leg → Type 0)
    → ((s : S) (leg : Leg) → MayUp s leg) → (p : Passage S) (moves : List Move)
    → Rise rules MayUp p moves
any_rise rules MayUp may p [] = tt
any_rise {S} rules MayUp may p (move ∷ moves) =
    (by move, any_rise rules MayUp may (moved rules p move) moves)
  where
    by : (m : Move) → MayRise rules MayUp p.role m
    by (Up leg cookie) = may p.role leg
    by m = tt

-- came is counted so that a packet more is worth what it is
module _ {S : Type 0} (rules : Rules S) (MayUp : S → Leg → Type 0) (Known : S → Type 0)
    (owes : S → ℕ) (worth : S → Leg → Named → ℕ) (test : Named → Bool)
    (pay : StepsPay rules MayUp Known owes worth test) (to : Leg) (counted : List OnLeg → ℕ)
    (rises : (came : List OnLeg) (one : OnLeg) → counted came ≤ counted (came ++ one ∷ []))
    (here : (s : S) (came : List OnLeg) (leg : Leg) (named : Named) → Known s
    → counted came + worth s leg named ≤ counted (came ++ (leg, Packet named) ∷ [])) where
  abbrev pub Pays : Passage S → Type 0
  Pays p = Known p.role × (count_of test (of_leg to p.put) + owes p.role ≤ counted p.came)

  less : (p : Passage S) (t : S) → Pays p → Owes Known owes (owes p.role) t
      → Pays (record p { role = t })
  less p t h goes = let before = h.1 in let less = goes.1 in (goes.0, omega (arith, before, less))

  row : (p : Passage S) (leg : Leg) (m : Message) (k : ℕ) (x : S × Row)
      → counted p.came + k ≤ counted (p.came ++ (leg, m) ∷ []) → Pays p
      → Gains Known owes k p.role x → Pays (taken_by p leg m x)
  row p leg m k (t, Ok taken) more h goes =
      let before = h.1 in let less = goes.1 in (goes.0, omega (arith, more, before, less))
  row p leg m k (t, Err refused) more h goes = less p t h goes

  put_pays : (p : Passage S) (leg : Leg) (pick : Option (S × Message)) → Pays p
      → Spends Known owes test p.role pick → Pays (put_by p leg pick)
  put_pays p leg None h goes = h
  put_pays p leg (Some one) h goes =
      let before = h.1 in
      let less = goes.1 in
      let more = leg_at_most test to p.put (leg, one.1) in
      (goes.0, omega (arith, before, less, more))

  move_pays : (p : Passage S) (move : Move) → MayRise rules MayUp p.role move → Pays p
      → Pays (moved rules p move)
  move_pays p (Up leg cookie) may h =
      less p (rules.up p.role leg cookie) h (pay.up p.role leg cookie h.0 may)
  move_pays p (HeadCame leg text) may h =
      less p (rules.head p.role leg text).0 h (pay.head p.role leg text h.0)
  move_pays p (PduCame leg count bytes) may h =
      let more = rises p.came (leg, Pdu bytes) in
      row p leg (Pdu bytes) 0 (rules.pdu p.role leg count bytes) (omega (arith, more)) h
      (pay.pdu p.role leg count bytes h.0)
  move_pays p (PacketCame leg count named) may h =
      row p leg (Packet named) (worth p.role leg named) (rules.packet p.role leg count named)
      (here p.role p.came leg named h.0) h (pay.packet p.role leg count named h.0)
  move_pays p (Puts leg) may h = put_pays p leg (rules.put p.role leg) h (pay.put p.role leg h.0)
  move_pays p (IsDrawn leg) may h = less p (rules.drawn p.role leg) h (pay.drawn p.role leg h.0)
  move_pays p (Marks leg) may h = less p (rules.mark p.role leg) h (pay.mark p.role leg h.0)
  move_pays p (Pings leg) may h = less p (rules.ping p.role leg) h (pay.ping p.role leg h.0)

  pub moves_pay : (p : Passage S) (moves : List Move) → Rise rules MayUp p moves → Pays p
      → Pays (all_moved rules p moves)
  moves_pay p [] may h = h
  moves_pay p (move ∷ moves) may h =
      moves_pay (moved rules p move) moves may.1 (move_pays p move may.0 h)
