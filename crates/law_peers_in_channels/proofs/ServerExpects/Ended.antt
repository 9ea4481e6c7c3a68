-- what doesn't follow END/A2
use Rattle.law_order.proofs.Vocabulary.{◌≡◌, List, [], ◌∷◌, ◌++◌, refl, AllByRecursion}
use Rattle.law_moves.proofs.Vocabulary.{EndA2, Message, Text, Pdu, Packet, count_of}
use Rattle.law_role_inproxy.proofs.Vocabulary.{EndsLast, MayFollowEnd}
use Rattle.law_role_server.proofs.Vocabulary.{is_end_a2}

module _ (m : Message) (later : List Message) (barred : MayFollowEnd m → ⊥) where
  none_follows : (ms : List Message) → AllByRecursion MayFollowEnd (ms ++ m ∷ later) → ⊥
  none_follows [] h = barred h.0
  none_follows (x ∷ ms) h = none_follows ms h.1

  -- no END/A2 stands before it
  pub none_ended : (before : List Message) → EndsLast (before ++ m ∷ later)
      → count_of is_end_a2 before ≡ 0
  none_ended [] h = refl
  none_ended (Text bytes ∷ before) h = none_ended before h
  none_ended (Pdu pdu ∷ before) h = none_ended before h
  none_ended (Packet EndA2 ∷ before) h = absurd (none_follows before h)
  none_ended (Packet packet ∷ before) h = none_ended before h
