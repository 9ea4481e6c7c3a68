-- where IN_R1/A6 didn't come, by the law of what is taken in order
use Rattle.law_order.proofs.Vocabulary.{◌≡◌, ℕ, ◌&&◌, nat_eq, Bool, true, false, if◌then◌else◌, List, [], ◌∷◌, ◌++◌, refl, sym, ◌∙◌, subst, true≢false, Item, has_handover, TakerLaw}
use Rattle.rh_sig.specs.declared.named.Named.TheVariants as named
use Rattle.law_moves.proofs.Vocabulary.{InServer, Message, Text, Pdu, Packet, is_of, count_of, EndPassage, OnLeg, of_leg}
use Rattle.law_role_server.proofs.Vocabulary.{Server, got, in_items, items_if, items_on, taker_of, is_in_r1_a6, leg_at, often_at}
use Rattle.law_role_server.proofs.Counted.EndMarks.{same_bool}

-- where no handover mark came, no IN_R1/A6 did
none_left : (n : ℕ) (log : List OnLeg) → has_handover (items_on in_items InServer log n) ≡ false
    → often_at is_in_r1_a6 InServer n log ≡ 0
none_left n [] e = refl
none_left n ((leg, m) ∷ log) e =
    subst (λ (b : Bool). count_of is_in_r1_a6 (if b then m ∷ rest else rest) ≡ 0)
    (sym (same_bool leg.kind leg.number n))
    (by (is_of InServer leg && nat_eq n leg.number) m e (none_left n log))
  where
    rest : List Message
    rest = of_leg (leg_at InServer n) log

    items : List Item
    items = items_on in_items InServer log n

    by : (b : Bool) (x : Message) → has_handover (items_if b (in_items x) ++ items) ≡ false
        → (has_handover items ≡ false → count_of is_in_r1_a6 rest ≡ 0)
        → count_of is_in_r1_a6 (if b then x ∷ rest else rest) ≡ 0
    by false x none so = so none
    by true (Text bytes) none so = so none
    by true (Pdu pdu) none so = so none
    by true (Packet (named.InR1A6 successor)) none so = absurd (true≢false none)
    by true (Packet named.EndA2) none so = so none
    by true (Packet packet) none so = so none

-- where the current channel isn't finished, no IN_R1/A6 came on its leg
pub unleft : (p : EndPassage Server) (legs : ℕ → Bool)
    → TakerLaw (taker_of p.taken p.passage.role) legs (got p)
    → p.passage.role.line.finished ≡ false
    → often_at is_in_r1_a6 InServer p.passage.role.current.leg p.passage.came ≡ 0
unleft p legs law e =
    none_left p.passage.role.current.leg p.passage.came (sym law.holds.finished ∙ e)
