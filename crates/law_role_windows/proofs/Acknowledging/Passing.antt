-- what a role passes on: what its state has from what came, and what was put
use Rattle.law_order.proofs.Vocabulary.{◌≡◌, List, [], ◌∷◌, ◌++◌, Some, None, Ok, Err, sym, subst, IfSome, AllByRecursion, Option}
use Rattle.law_moves.proofs.Vocabulary.{Named, each_push, Leg, Due, Message, Text, Pdu, Packet, Row, OnLeg}
use Rattle.law_moves.proofs.Lemmas.{RowKeeps, PutKeeps, each_so}
use Rattle.law_role_windows.proofs.Acknowledging.Waiting.{EachIs}
use Rattle.law_role_windows.specs.Acknowledging.Acks.{OfPacket}

-- a fact of what came, and of something else
abbrev pub Of : Type 0 → Type 1
Of X = List OnLeg → X → Type 0

-- which more that comes leaves
abbrev pub Stays : {X : Type 0} → Of X → Type 0
Stays {X} Is =
    (came : List OnLeg) (one : OnLeg) (x : X) → Is came x → Is (came ++ one ∷ []) x

-- each packet that waits is so
pub each_stays : (Is : Of Named) → Stays Is → (came : List OnLeg) (one : OnLeg)
    (dues : List Due) → EachIs (Is came) dues → EachIs (Is (came ++ one ∷ [])) dues
each_stays Is stays came one dues h =
    each_so (λ (due : Due). Is came due.packet) (λ (due : Due). Is (came ++ one ∷ []) due.packet)
    (λ due. stays came one due.packet) dues h

-- what is so of each packet of a log
pub packets_so : (P Q : Named → Type 0) → ((named : Named) → P named → Q named)
    → (log : List OnLeg) → AllByRecursion (OfPacket P) log → AllByRecursion (OfPacket Q) log
packets_so P Q so log all = each_so (OfPacket P) (OfPacket Q) of_one log all
  where
    of_one : (one : OnLeg) → OfPacket P one → OfPacket Q one
    of_one (leg, Text bytes) is = tt
    of_one (leg, Pdu pdu) is = tt
    of_one (leg, Packet named) is = so named is

-- ---- a role

-- what is seen of a state is sound, and each packet that was put is so
module _ {S V : Type 0} (seen : S → V) (Is : Of Named) (Sound : Of V) where
  abbrev pub Holds : S → List OnLeg → List OnLeg → Type 0
  Holds s came put = Sound came (seen s) × AllByRecursion (OfPacket (Is came)) put

  abbrev pub Same : S → S → Type 0
  Same s t = seen t ≡ seen s

  -- where the one is sound, so is the other
  abbrev pub Keeps : S → S → Type 0
  Keeps s t = (came : List OnLeg) → Sound came (seen s) → Sound came (seen t)

  pub keeps_same : (s t : S) → Same s t → Keeps s t
  keeps_same s t same came h = subst (Sound came) (sym same) h

  pub keeps_holds : (s t : S) (came put : List OnLeg) → Keeps s t → Holds s came put
      → Holds t came put
  keeps_holds s t came put keeps h = (keeps came h.0, h.1)

  pub same_holds : (s t : S) (came put : List OnLeg) → Same s t → Holds s came put
      → Holds t came put
  same_holds s t came put same h = keeps_holds s t came put (keeps_same s t same) h

  -- ---- rows

  module _ (stays : Stays Is) (sound_stays : Stays Sound) where
    pub came_one : (s : S) (one : OnLeg) (came put : List OnLeg) → Holds s came put
        → Holds s (came ++ one ∷ []) put
    came_one s one came put h = (
      sound_stays came one (seen s) h.0,
      packets_so (Is came) (Is (came ++ one ∷ [])) (stays came one) put h.1,
    )

    pub keep_row : (s : S) (one : OnLeg) (came put : List OnLeg) → Holds s came put
        → (x : S × Row) → Keeps s x.0 → RowKeeps Holds one came put x
    keep_row s one came put h (t, Ok taken) keeps =
        keeps_holds s t (came ++ one ∷ []) put keeps (came_one s one came put h)
    keep_row s one came put h (t, Err why) keeps = keeps_holds s t came put keeps h

    pub same_row : (s : S) (one : OnLeg) (came put : List OnLeg) → Holds s came put
        → (x : S × Row) → Same s x.0 → RowKeeps Holds one came put x
    same_row s one came put h x same = keep_row s one came put h x (keeps_same s x.0 same)

  -- ---- what is put

  pub put_one : (s : S) (came put : List OnLeg) (one : OnLeg) → OfPacket (Is came) one
      → Holds s came put → Holds s came (put ++ one ∷ [])
  put_one s came put one is h = (h.0, each_push (OfPacket (Is came)) put one h.1 is)

  -- it leaves the state alone
  abbrev pub Quiet : List OnLeg → Leg → S → Option (S × Message) → Type 0
  Quiet came leg s pick =
      IfSome pick (λ (one : S × Message). Same s one.0 × OfPacket (Is came) (leg, one.1))

  pub quiet_put : (leg : Leg) (came put : List OnLeg) (s : S) (pick : Option (S × Message))
      → Quiet came leg s pick → Holds s came put → PutKeeps Holds leg came put pick
  quiet_put leg came put s None quiet h = tt
  quiet_put leg came put s (Some one) quiet h =
      put_one one.0 came put (leg, one.1) quiet.1 (same_holds s one.0 came put quiet.0 h)
