-- a send window, and the messages of its leg
use Rattle.law_order.proofs.Vocabulary.{◌≡◌, ◌⊎◌, ℕ, ◌+◌, ◌≤◌, ◌<◌, nat_lt, Bool, true, false, inl, inr, if◌then◌else◌, List, [], ◌∷◌, ◌++◌, length, Ok, Err, arith, refl, sym, ◌∙◌, subst, rules, max, is_ok, Result, nat_tests}
use Rattle.rh_sig.specs.declared.named.Named.TheVariants.{Ack}
use Rattle.law_moves.proofs.Vocabulary.{Sender, unsent, may_send, after_sent, bad_ack, ack_verdict, after_acked, BadAck, GREATEST_WINDOW, Cookie, Named, Message, Pdu, Packet}
use Rattle.law_moves.proofs.Lemmas.{bytes_append}
use Rattle.law_world_windows.proofs.Counts.{edges_rise, edge_last}
use Rattle.law_world_windows.specs.Hops.{pdu_bytes, greatest_edge, edge_told}

-- it counts what was put, and knows of no edge that did not come
pub record Sends (w : Sender) (came put : List Message) : Type 0 where
  pub within : w.sent ≤ w.edge
  pub counted : w.sent ≡ pdu_bytes put
  pub told : w.edge ≤ greatest_edge came

pub unsent_sends : (came put : List Message) → pdu_bytes put ≡ 0 → Sends (unsent 0) came put
unsent_sends came put none = record {
  within = omega arith;
  counted = sym none;
  told = omega arith;
}

-- what came else, and what was put that is no PDU
pub heard_more : (w : Sender) (came put more : List Message) → Sends w came put
    → Sends w (came ++ more) put
heard_more w came put more h = record {
  within = h.within;
  counted = h.counted;
  told = let rise = edges_rise came more in let told = h.told in omega (arith, rise, told);
}

pub put_more : (w : Sender) (came put more : List Message) → pdu_bytes more ≡ 0
    → Sends w came put → Sends w came (put ++ more)
put_more w came put more none h = record {
  within = h.within;
  counted =
      let all = bytes_append put more in let before = h.counted in
      omega (arith, none, all, before);
  told = h.told;
}

-- a packet tells the window of a hop on which no byte was sent
pub opens_sends : (came put : List Message) (named : Named) (size : ℕ)
    → edge_told named ≡ size → pdu_bytes put ≡ 0
    → Sends (unsent size) (came ++ Packet named ∷ []) put
opens_sends came put named size is none = record {
  within = omega arith;
  counted = sym none;
  told = let last = edge_last came (Packet named) in omega (arith, last, is);
}

acked_sent : (w : Sender) (received available : ℕ)
    → (after_acked w received available).sent ≡ w.sent
acked_sent w received available = search rules

-- its edge is the one before, or that of the acknowledgement
acked_edge : (w : Sender) (received available : ℕ)
    → (after_acked w received available).edge ≤ max w.edge (received + available)
acked_edge w received available = search rules

acked_rises : (w : Sender) (received available : ℕ)
    → w.edge ≤ (after_acked w received available).edge
acked_rises w received available = search rules

pub acked_sends : (w : Sender) (came put : List Message) (received available : ℕ)
    (channel : Cookie) → Sends w came put
    → Sends (after_acked w received available)
    (came ++ Packet (Ack received available channel) ∷ []) put
acked_sends w came put received available channel h =
    let m : Message = Packet (Ack received available channel) in
    let sent = acked_sent w received available in
    let more = acked_rises w received available in
    let edge = acked_edge w received available in
    let last = edge_last came m in
    let rise = edges_rise came (m ∷ []) in
    let within = h.within in
    let told = h.told in
    record {
      within = omega (arith, sent, more, within);
      counted = sent ∙ h.counted;
      told = grind (arith, nat_tests, edge, last, rise, told);
    }

-- one that is refused changes nothing
pub refused_sends : (w : Sender) (came put : List Message) (received available : ℕ) (bad : BadAck)
    → ack_verdict w received available ≡ Err bad → Sends w came put
    → Sends (after_acked w received available) came put
refused_sends w came put received available bad e h =
    subst (λ (v : Result (Unit {0}) BadAck). Sends
    (if is_ok v then record w { edge = max w.edge (received + available) } else w) came put)
    (sym e) h

-- what is put is within the edge
pub sent_sends : (w : Sender) (came put : List Message) (pdu : List ℕ)
    → may_send w (length pdu) ≡ true → Sends w came put
    → Sends (after_sent w (length pdu)) came (put ++ Pdu pdu ∷ [])
sent_sends w came put pdu may h =
    let all = bytes_append put (Pdu pdu ∷ []) in
    let before = h.counted in
    record {
      within = grind (arith, nat_tests, may);
      counted = omega (arith, all, before);
      told = h.told;
    }

pub sends_within : (w : Sender) (came put : List Message) → Sends w came put
    → pdu_bytes put ≤ greatest_edge came
sends_within w came put h =
    let within = h.within in
    let counted = h.counted in
    let told = h.told in omega (arith, within, counted, told)

-- ---- what is refused

abbrev pub IsFalse : ℕ → ℕ → ℕ → Result (Unit {0}) BadAck → Type 0
IsFalse sent received available (Ok acked) = Unit {0}
IsFalse sent received available (Err bad) = (sent < received) ⊎ (GREATEST_WINDOW < available)

pub verdict_false : (w : Sender) (came put : List Message) (received available : ℕ)
    → Sends w came put
    → IsFalse (pdu_bytes put) received available (ack_verdict w received available)
verdict_false w came put received available h =
    by (nat_lt w.sent received) refl
  where
    greater : (b : Bool) → nat_lt GREATEST_WINDOW available ≡ b
        → IsFalse (pdu_bytes put) received available
        (if b then Err (bad_ack available) else Ok tt)
    greater true e = inr (grind (arith, nat_tests, e))
    greater false e = tt

    by : (b : Bool) → nat_lt w.sent received ≡ b
        → IsFalse (pdu_bytes put) received available (if b then Err (bad_ack received)
        else (if nat_lt GREATEST_WINDOW available then Err (bad_ack available) else Ok tt))
    by true e = let counted = h.counted in inl (grind (arith, nat_tests, e, counted))
    by false e = greater (nat_lt GREATEST_WINDOW available) refl
