-- whatever comes next at a client on an OUT channel, it refuses nothing of it as unexpected
use Rattle.law_order.proofs.Vocabulary.{◌≡◌, inl, inr, ℕ, ◌<◌, ◌≤◌, List, [], Err, refl, sym, subst, arith, IsTrue, Piece, Stop}
use Rattle.rh_sig.specs.declared.named.Named.TheVariants as named
use Rattle.rh_shell.specs.declared.answers.Refused.TheVariants as refused
use Rattle.law_moves.proofs.Vocabulary.{Named, ClientOut, Count, Refused, Message, Pdu, Packet, Passage, is_in_use, of_leg, all_read_of, Tells, packets, count_of}
use Rattle.law_role_client.proofs.Vocabulary.{ClientRole, rules, co, opened}
use Rattle.law_role_outproxy.proofs.Vocabulary.{OpensClient, co_leg, os_leg}
use Rattle.law_role_client_rows.specs.Refusing.{Refuses, UnexpectedOn, UnexpectedPduBy, is_conn_a3}
use Rattle.law_peers_moments.specs.Expecting.{Expects, IsAmiss}
use Rattle.law_peers_moments.specs.Moments.{IsJoined, IsMoment, Moves, Numbers, Passages, passages}
use Rattle.law_peers_expects.proofs.ClientExpects.Facts.{IsNext, answers_in_r1, answers_in_r2, answers_out, ends, finishes_out, is_first, is_open, is_unopened, switched_to, wants_out}
use Rattle.law_peers_expects.proofs.ClientExpects.Known.{Laws, puts_at}
use Rattle.law_peers_expects.proofs.ClientExpects.Next.{Next, OpeningNext, Passes, PassingNext, TimeoutNext, next_of}

module _ (laws : Laws) (numbers : Numbers) (reader : ℕ → ℕ) (moves : Moves)
    (moment : IsMoment numbers reader moves) where
  abbrev all : Passages
  all = passages numbers moves

  abbrev c : Passage ClientRole
  c = all.client

  abbrev now : IsJoined numbers reader moves
  now = moment.now

  refuses : Refuses c
  refuses = laws.refuses numbers.client moves.client now.made.client

  module _ (n : ℕ) where
    abbrev came : List Message
    came = of_leg (co n) c.came

    abbrev asked : List Message
    asked = of_leg (co_leg n) (all.outs n).came

    abbrev os : List Message
    os = of_leg (os_leg n) (all.outs n).came

    abbrev Comes : Message → Type 0
    Comes m = IsNext laws numbers reader moves now n m

    next_here : (m : Message) → Comes m → Next asked os came m
    next_here m ahead =
        next_of (numbers.outs n) asked os (of_leg (co_leg n) (all.outs n).put) came m
        (puts_at laws numbers reader moves now n) ahead

    -- ---- what passes an open channel

    passing : (packet : Named) → Passes os (Packet packet) → (opened c ≡ 0 → ⊥)
        → Comes (Packet packet) → UnexpectedOn c n packet → ⊥
    passing (named.AckTo to received available of) passes is_open ahead (inl other) =
        other passes.0.0
    passing (named.AckTo to received available of) passes is_open ahead (inr none) =
        is_open none
    passing (named.InR1A4 to version window timeout) passes is_open ahead (inl other) =
        other passes.0.0
    passing (named.InR1A4 to version window timeout) passes is_open ahead (inr same) =
        answers_in_r1 laws numbers reader moves now n (named.InR1A4 to version window timeout)
        refl ahead same
    passing (named.InR2A4 to) passes is_open ahead (inl other) = other passes.0.0
    passing (named.InR2A4 to) passes is_open ahead (inr same) =
        answers_in_r2 laws numbers reader moves now n (named.InR2A4 to) refl ahead same
    passing (named.OutR1A2 to) passes is_open ahead (inl other) = other passes.0.0
    passing (named.OutR1A2 to) passes is_open ahead (inr (inl none)) = is_open none
    passing (named.OutR1A2 to) passes is_open ahead (inr (inr late)) =
        let wants = wants_out laws numbers reader moves now n
        (laws.wanted numbers reader moves moment) (named.OutR1A2 to) refl ahead in
        let behind = wants.behind in
        elim late [
          | inl last ↦ wants.numbered last
          | inr other ↦ elim other [
            | inl less ↦ wants.alone less
            | inr at ↦ let here = at.0 in let same = at.1 in omega (arith, behind, here, same)
          ]
        ]
    passing (named.OutR1A6 to version timeout) passes is_open ahead (inl other) =
        other passes.0.0
    passing (named.OutR1A6 to version timeout) passes is_open ahead (inr (inl same)) =
        (answers_out laws numbers reader moves now n (named.OutR1A6 to version timeout) refl
        ahead).asked_for same
    passing (named.OutR1A6 to version timeout) passes is_open ahead (inr (inr other)) =
        other (answers_out laws numbers reader moves now n (named.OutR1A6 to version timeout) refl
        ahead).here
    passing named.OutR1A10 passes is_open ahead (inl same) =
        (finishes_out laws numbers reader moves now n named.OutR1A10 refl ahead).switched_to same
    passing named.OutR1A10 passes is_open ahead (inr other) =
        other (finishes_out laws numbers reader moves now n named.OutR1A10 refl ahead).here
    passing named.EndB2 passes is_open ahead (inl none) = is_open none
    passing named.EndB2 passes is_open ahead (inr has) =
        ends laws numbers reader moves now n (Packet named.EndB2) Stop refl ahead has
    passing named.Ping passes is_open ahead why = passes.1 refl
    passing packet passes is_open ahead why = absurd passes.0

    -- ---- CONN/C2 and CONN/A3

    opening : (packet : Named) → OpensClient os packet → n ≡ 1
        → 1 ≤ count_of is_conn_a3 came → Comes (Packet packet) → UnexpectedOn c n packet → ⊥
    opening (named.ConnC2 version window timeout) opens first told ahead (inl other) = other first
    opening (named.ConnC2 version window timeout) opens first told ahead (inr (inl one)) =
        is_unopened laws numbers reader moves now n (named.ConnC2 version window timeout) refl
        ahead one
    opening (named.ConnC2 version window timeout) opens first told ahead (inr (inr none)) =
        omega (arith, told, none)
    opening packet opens first told ahead why = absurd opens

    timeout_first : (timeout : ℕ) → n ≡ 1 → came ≡ []
        → UnexpectedOn c n (named.ConnA3 timeout) → ⊥
    timeout_first timeout first none (inl other) = other first
    timeout_first timeout first none (inr more) =
        let nothing : 0 < packets [] =
        subst (λ (ms : List Message). 0 < packets ms) none more in omega (arith, nothing)

    packet_expected : (packet : Named) → Comes (Packet packet) → UnexpectedOn c n packet → ⊥
    packet_expected packet ahead why = by (next_here (Packet packet) ahead)
      where
        by : Next asked os came (Packet packet) → ⊥
        by (TimeoutNext new none timeout is) =
            let same : packet ≡ named.ConnA3 timeout = cc in
            timeout_first timeout (is_first laws numbers reader moves now n new) none
            (subst (UnexpectedOn c n) same why)
        by (OpeningNext new timeout told opens) =
            opening packet opens (is_first laws numbers reader moves now n new)
            (subst (λ (ms : List Message). 1 ≤ count_of is_conn_a3 ms) (sym told) (omega arith))
            ahead why
        by (PassingNext open' passes) =
            passing packet passes (is_open laws numbers reader moves now n open') ahead why

    -- ---- RPC PDUs

    pdu_expected : (pdu : List ℕ) → Comes (Pdu pdu) → UnexpectedPduBy c n ClientOut → ⊥
    pdu_expected pdu ahead why = by (next_here (Pdu pdu) ahead) why
      where
        by : Next asked os came (Pdu pdu) → UnexpectedPduBy c n ClientOut → ⊥
        by (TimeoutNext new none timeout is) why = absurd cc
        by (OpeningNext new timeout told opens) why = opens
        by (PassingNext open' passes) (inl none) =
            is_open laws numbers reader moves now n open' none
        by (PassingNext open' passes) (inr (inl has)) =
            ends laws numbers reader moves now n (Pdu pdu) (Piece pdu) refl ahead has
        by (PassingNext open' passes) (inr (inr at)) =
            switched_to laws numbers reader moves now n pdu ahead at.0 at.1

    -- ---- no row refuses it

    packet_taken : (count : Count) (packet : Named) (why : Refused)
        → IsTrue (is_in_use rules c.role (co n)) → IsTrue (rules.was_up c.role (co n))
        → Tells count (packets came) → Comes (Packet packet)
        → (rules.packet c.role (co n) count packet).1 ≡ Err why → IsAmiss why → ⊥
    packet_taken count packet refused.Unexpected used up tells ahead e amiss =
        packet_expected packet ahead (refuses.packet (co n) count packet used up tells e)
    packet_taken count packet (refused.Cookie expected got) used up tells ahead e amiss =
        refuses.cookie (co n) count packet expected got e
    packet_taken count packet why used up tells ahead e amiss = absurd amiss

    pdu_taken : (count : Count) (pdu : List ℕ) (why : Refused)
        → IsTrue (is_in_use rules c.role (co n)) → IsTrue (rules.was_up c.role (co n))
        → Comes (Pdu pdu) → (rules.pdu c.role (co n) count pdu).1 ≡ Err why → IsAmiss why → ⊥
    pdu_taken count pdu refused.Unexpected used up ahead e amiss =
        pdu_expected pdu ahead (refuses.pdu (co n) count pdu used up e)
    pdu_taken count pdu (refused.Cookie expected got) used up ahead e amiss =
        refuses.pdu_cookie (co n) count pdu expected got e
    pdu_taken count pdu why used up ahead e amiss = absurd amiss

    pub expects : Expects rules c (co n) (all_read_of (of_leg (co n) (all.outs n).put))
    expects = record { packet = packet_taken; pdu = pdu_taken }
