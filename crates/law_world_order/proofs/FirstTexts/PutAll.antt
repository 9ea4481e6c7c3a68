-- what holds of each message that a node picks for a leg holds of all that it puts there
use Rattle.law_order.proofs.Vocabulary.{◌≡◌, List, [], ◌∷◌, ◌++◌, Bool, true, false, Some, None, Ok, Err, sym, subst, if◌then◌else◌, AllByRecursion, Option}
use Rattle.law_moves.proofs.Vocabulary.{by_test, Leg, Message, Row, Rules, Pdu, Packet, same_leg, Move, Up, HeadCame, PduCame, PacketCame, Puts, IsDrawn, Marks, Pings, OnLeg, Passage, started, moved, put_by, taken_by, Leads, of_leg}
use Rattle.law_moves.proofs.Lemmas.{leads_keep, leg_is}

-- a message that is picked has this
abbrev pub Picked : {S : Type 0} → (Message → Type 0) → Option (S × Message) → Type 0
Picked Has None = Unit {0}
Picked Has (Some pick) = Has pick.1

module _ {S : Type 0} (rules : Rules S) (leg : Leg) (Has : Message → Type 0) (Kept : S → Type 0)
    (keeps : (p : Passage S) (move : Move) → Kept p.role → Kept (moved rules p move).role)
    (picks : (s : S) → Kept s → Picked Has (rules.put s leg)) where
  abbrev AllHave : List OnLeg → Type 0
  AllHave log = AllByRecursion Has (of_leg leg log)

  more : (log : List OnLeg) (one : OnLeg) → AllHave log
      → (same_leg one.0 leg ≡ true → Has one.1) → AllHave (log ++ one ∷ [])
  more [] one all s =
      by_test (AllByRecursion Has) (same_leg one.0 leg) (one.1 ∷ []) [] (λ e. (s e, tt)) (λ e. tt)
  more (x ∷ log) one all s = by (same_leg x.0 leg) all (λ a. more log one a s)
    where
      by : (t : Bool)
          → AllByRecursion Has (if t then x.1 ∷ of_leg leg log else of_leg leg log)
          → (AllHave log → AllHave (log ++ one ∷ []))
          → AllByRecursion Has (if t then x.1 ∷ of_leg leg (log ++ one ∷ [])
          else of_leg leg (log ++ one ∷ []))
      by true a next = (a.0, next a.1)
      by false a next = next a

  taken_all : (p : Passage S) (other : Leg) (message : Message) (x : S × Row) → AllHave p.put
      → AllHave (taken_by p other message x).put
  taken_all p other message (role, Ok taken) all = all
  taken_all p other message (role, Err refused) all = all

  put_all : (p : Passage S) (other : Leg) (pick : Option (S × Message))
      → (same_leg other leg ≡ true → Picked Has pick) → AllHave p.put
      → AllHave (put_by p other pick).put
  put_all p other None picked all = all
  put_all p other (Some pick) picked all = more p.put (other, pick.1) all picked

  move_all : (p : Passage S) (move : Move) → Kept p.role → AllHave p.put
      → AllHave (moved rules p move).put
  move_all p (Up other cookie) k all = all
  move_all p (HeadCame other text) k all = all
  move_all p (PduCame other count bytes) k all =
      taken_all p other (Pdu bytes) (rules.pdu p.role other count bytes) all
  move_all p (PacketCame other count named) k all =
      taken_all p other (Packet named) (rules.packet p.role other count named) all
  move_all p (Puts other) k all =
      put_all p other (rules.put p.role other)
      (λ e. subst (λ (l : Leg). Picked Has (rules.put p.role l)) (sym (leg_is other leg e))
      (picks p.role k)) all
  move_all p (IsDrawn other) k all = all
  move_all p (Marks other) k all = all
  move_all p (Pings other) k all = all

  pub all_put : (first : S) (q : Passage S) → Kept first → Leads rules (started first) q
      → AllByRecursion Has (of_leg leg q.put)
  all_put first q kept leads =
      (leads_keep rules (λ (p : Passage S). Kept p.role × AllHave p.put)
      (λ p move k may. (keeps p move k.0, move_all p move k.0 k.1)) (started first) q leads
      (kept, tt)).1
