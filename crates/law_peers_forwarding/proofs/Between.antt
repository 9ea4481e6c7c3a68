-- what a server wrote on OUT channels while one was the writing channel stands on the leg of that
use Rattle.law_order.proofs.Vocabulary.{◌≡◌, ℕ, suc, ◌+◌, ◌≤◌, ◌==◌, Bool, true, false, if◌then◌else◌, List, [], ◌∷◌, ◌++◌, append_assoc, refl, sym, ap, ◌∙◌, arith}
use Rattle.law_moves.proofs.Vocabulary.{test_same, Named, LegKind, ClientOut, OutServer, ClientIn, InServer, Message, Text, Pdu, Packet, OnLeg, Passage, of_leg, count_of, of_kind}
use Rattle.law_moves.proofs.Lemmas.{count_append}
use Rattle.law_role_server.proofs.Vocabulary.{Server, is_ack_to, is_out_r1_a9, leg_at, often}
use Rattle.law_role_outproxy.proofs.Vocabulary.{os_leg}
use Rattle.law_role_server_rows.proofs.InTurn.Splits.{kind_append}
use Rattle.law_role_server_rows.specs.InTurn.Channels.{WritesOnBegun}

pub often_append : (test : Named → Bool) (a b : List OnLeg)
    → often test OutServer (a ++ b) ≡ often test OutServer a + often test OutServer b
often_append test a b =
    ap (count_of test) (kind_append OutServer a b)
    ∙ count_append test (of_kind OutServer a) (of_kind OutServer b)

-- with a message more, on this leg or on another
more_on : (test : Named → Bool) (b : Bool) (m : Message) (ms : List Message)
    → count_of test ms ≤ count_of test (if b then m ∷ ms else ms)
more_on test true m ms = let all = count_append test (m ∷ []) ms in omega (arith, all)
more_on test false m ms = omega arith

module _ (p : Passage Server) (writes : WritesOnBegun p) (n : ℕ) (test : Named → Bool)
    (written : (m : Named) → test m ≡ true → is_ack_to 3 m ≡ false) where
  abbrev here : List OnLeg → ℕ
  here log = count_of test (of_leg (os_leg n) log)

  abbrev Stands : List OnLeg → Type 0
  Stands log = often test OutServer log ≤ here log

  stands_more : (front : List OnLeg) (k : ℕ) (kind : LegKind) (m : Message) (mid rest : List OnLeg)
      → p.put ≡ front ++ (leg_at kind k, m) ∷ (mid ++ rest)
      → n ≡ suc (often is_out_r1_a9 OutServer front) → Stands mid
      → Stands ((leg_at kind k, m) ∷ mid)
  stands_more front k InServer m mid rest e turn h = h
  stands_more front k ClientOut m mid rest e turn h = h
  stands_more front k ClientIn m mid rest e turn h = h
  stands_more front k OutServer (Text bytes) mid rest e turn h =
      let more = more_on test (k == n) (Text bytes) (of_leg (os_leg n) mid) in
      omega (arith, h, more)
  stands_more front k OutServer (Pdu pdu) mid rest e turn h =
      let more = more_on test (k == n) (Pdu pdu) (of_leg (os_leg n) mid) in
      omega (arith, h, more)
  stands_more front k OutServer (Packet m) mid rest e turn h = by (test m) refl
    where
      by : (b : Bool) → test m ≡ b → Stands ((leg_at OutServer k, Packet m) ∷ mid)
      by true is =
          let same : k ≡ n =
          writes.in_turn k (Packet m) front (mid ++ rest) e (written m is) ∙ sym turn in
          let all : often test OutServer ((leg_at OutServer k, Packet m) ∷ mid)
          ≡ suc (often test OutServer mid) =
          ap (λ (t : Bool). if t then suc (often test OutServer mid)
          else often test OutServer mid) is in
          let one : here ((leg_at OutServer k, Packet m) ∷ mid) ≡ suc (here mid) =
          ap (λ (t : Bool). count_of test (if t then Packet m ∷ of_leg (os_leg n) mid
          else of_leg (os_leg n) mid)) (ap (λ (i : ℕ). i == n) same ∙ test_same n)
          ∙ ap (λ (t : Bool). if t then suc (here mid) else here mid) is in
          omega (arith, h, all, one)
      by false is =
          let all : often test OutServer ((leg_at OutServer k, Packet m) ∷ mid)
          ≡ often test OutServer mid =
          ap (λ (t : Bool). if t then suc (often test OutServer mid)
          else often test OutServer mid) is in
          let more = more_on test (k == n) (Packet m) (of_leg (os_leg n) mid) in
          omega (arith, h, all, more)

  -- where no OUT_R1/A9 stands between
  pub stand_here : (front mid rest : List OnLeg) → p.put ≡ front ++ (mid ++ rest)
      → n ≡ suc (often is_out_r1_a9 OutServer front) → often is_out_r1_a9 OutServer mid ≡ 0
      → Stands mid
  stand_here front [] rest e turn none = omega arith
  stand_here front (one ∷ mid) rest e turn none =
      let parts = often_append is_out_r1_a9 (one ∷ []) mid in
      let more = often_append is_out_r1_a9 front (one ∷ []) in
      stands_more front one.0.number one.0.kind one.1 mid rest e turn
      (stand_here (front ++ one ∷ []) mid rest
      (e ∙ sym (append_assoc front (one ∷ []) (mid ++ rest)))
      (omega (arith, turn, none, parts, more)) (omega (arith, none, parts)))
