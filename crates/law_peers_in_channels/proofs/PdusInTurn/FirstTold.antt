-- CONN/B3 stands on a server's first is leg alone
use Rattle.law_order.proofs.Vocabulary.{◌≡◌, ℕ, ◌≤◌, List, [], ◌∷◌, inl, inr, refl, sym, subst, arith}
use Rattle.rh_sig.specs.declared.named.Named.TheVariants as named
use Rattle.law_moves.proofs.Vocabulary.{Message, Text, Pdu, Packet, OnLeg, count_of}
use Rattle.law_role_server.proofs.Vocabulary.{is_conn_b3}
use Rattle.law_role_server_rows.specs.InTurn.Answers.{AcksOn, AnswersOn, TellsOn}

module _ (n : ℕ) (came : List OnLeg) where
  none_behind : (ms : List Message) → AcksOn n came ms → count_of is_conn_b3 ms ≡ 0
  none_behind [] h = refl
  none_behind (Packet (named.Ack received window cookie) ∷ ms) (inl h) = none_behind ms h.1
  none_behind (Packet named.InR1B1 ∷ ms) (inr h) =
      subst (λ (rest : List Message). count_of is_conn_b3 rest ≡ 0) (sym h.1) refl
  none_behind (m ∷ ms) (inl h) = absurd h.0
  none_behind (m ∷ ms) (inr h) = absurd h.0

  tells_first : (ms : List Message) → TellsOn n came ms → 1 ≤ count_of is_conn_b3 ms → n ≡ 1
  tells_first [] h some = absurd (omega (arith, some))
  tells_first (Packet (named.ConnB3 size version) ∷ ms) h some = h.0.0
  tells_first (Packet (named.InR1B2 size) ∷ ms) h some =
      let none = none_behind ms h.1 in absurd (omega (arith, none, some))
  tells_first (m ∷ ms) h some = absurd h.0

  pub on_first : (ms : List Message) → AnswersOn n came ms → 1 ≤ count_of is_conn_b3 ms → n ≡ 1
  on_first [] h some = absurd (omega (arith, some))
  on_first (Text bytes ∷ ms) h some = tells_first ms h.1 some
  on_first (Pdu pdu ∷ ms) h some = absurd (let e = h.0 in cc)
  on_first (Packet m ∷ ms) h some = absurd (let e = h.0 in cc)
