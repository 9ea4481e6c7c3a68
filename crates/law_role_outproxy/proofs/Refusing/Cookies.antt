-- where an out proxy refuses a packet for its cookie, it is an acknowledgement for the proxy
use Rattle.law_order.proofs.Vocabulary.{◌≡◌, ℕ, ◌≤◌, ◌==◌, if◌then◌else◌, List, Some, Ok, Err, sym, ap, ◌∙◌, subst, rules, Result}
use Rattle.rh_sig.specs.declared.named.Named.TheVariants as named
use Rattle.rh_shell.specs.declared.answers.Refused.TheVariants as refused
use Rattle.rh_outproxy.specs.Acknowledging.{ack_by}
use Rattle.rh_outproxy.specs.declared.state.Channel.TheVariants as channels
use Rattle.law_moves.proofs.Vocabulary.{BadAck, ack_verdict, by_test, Cookie, TO_OUT_PROXY, Named, Leg, Count, Row, Passage, count_of, HasBegunOut, opens_client}
use Rattle.law_role_outproxy.proofs.Vocabulary.{Channel, OutProxy, joined, Done, is_co, is_os, same_cookie, refuse, unexpected, passed_on, conn_c1_by, on_ack, acked, ack_row, on_ack_to, on_end_b1, on_out_r1_a9, pdu, packet, on_co, on_os, from_client, MismatchFromServer, Mismatch}
use Rattle.law_role_outproxy.proofs.Refusing.Told.{seen, Told, IsBegun}
use Rattle.law_role_outproxy.proofs.Refusing.MovesKeep.{is_server}
use Rattle.law_role_outproxy.proofs.Refusing.Refusals.{same_number, other_cookie}
use Rattle.law_role_outproxy.proofs.Refusing.OneCookie.{one_begun}

-- the row refuses nothing for its cookie
abbrev IsNoCookie : Row → Type 0
IsNoCookie (Err (refused.Cookie expected got)) = ⊥
IsNoCookie row = Unit {0}

client_none : (s : OutProxy) (number : Count) (m : Named) → IsNoCookie (on_co s number m).1
client_none s number m = search rules

passed_none : (s : OutProxy) (to : ℕ) (m : Named) → IsNoCookie (passed_on s to m).1
passed_none s to m = search rules

c1_none : (s : OutProxy) (c : Channel) (version size timeout : ℕ)
    → IsNoCookie (conn_c1_by c s version size timeout).1
c1_none s c version size timeout = search rules

handover_none : (s : OutProxy) → IsNoCookie (on_out_r1_a9 s).1
handover_none s = search rules

end_none : (s : OutProxy) → IsNoCookie (on_end_b1 s).1
end_none s = search rules

pdu_none : (s : OutProxy) (leg : Leg) (number : Count) (bytes : List ℕ)
    → IsNoCookie (pdu s leg number bytes).1
pdu_none s leg number bytes = search rules

-- the cookies of a refusal
abbrev expected_in : Cookie → Row → Cookie
expected_in other (Err (refused.Cookie expected got)) = expected
expected_in other row = other

abbrev got_in : Cookie → Row → Cookie
got_in other (Err (refused.Cookie expected got)) = got
got_in other row = other

module _ (expected got : Cookie) where
  -- where the row refuses for these cookies, this is so
  abbrev Says : Type 0 → Done → Type 0
  Says Q x = x.1 ≡ Err (refused.Cookie expected got) → Q

  never : {Q : Type 0} (x : Done) → IsNoCookie x.1 → Says Q x
  never x none e = absurd (subst IsNoCookie e none)

  pub pdu_never : (s : OutProxy) (leg : Leg) (number : Count) (bytes : List ℕ)
      → Says ⊥ (pdu s leg number bytes)
  pdu_never s leg number bytes = never (pdu s leg number bytes) (pdu_none s leg number bytes)

  module _ (n : ℕ) (p : Passage OutProxy) (h : Told n (seen p.role) p.came)
      (once : count_of opens_client (from_client n p) ≤ 1) where
    abbrev s : OutProxy
    s = p.role

    module _ (to received available : ℕ) (of : Cookie) where
      abbrev Mismatched : Type 0
      Mismatched =
          (got ≡ of) × HasBegunOut expected (from_client n p)
          × (HasBegunOut got (from_client n p) → ⊥)

      acked_never : {Q : Type 0} (r : Result (Unit {0}) BadAck)
          → ack_row r ≡ Err (refused.Cookie expected got) → Q
      acked_never (Ok taken) f = absurd cc
      acked_never (Err bad) f = absurd cc

      cookie_says : (cookie : Cookie) → HasBegunOut cookie (from_client n p)
          → Says Mismatched (ack_by (Some cookie) s received available of)
      cookie_says cookie begun =
          by_test (Says Mismatched) (same_cookie cookie of) (acked s received available)
          (refuse s (refused.Cookie cookie of))
          (λ e. acked_never (ack_verdict s.window received available))
          (λ e f.
          let mine : cookie ≡ expected = ap (expected_in cookie) f in
          let other : of ≡ got = ap (got_in of) f in (
            sym other,
            subst (λ (c : Cookie). HasBegunOut c (from_client n p)) mine begun,
            λ too. other_cookie cookie of e
                (one_begun cookie got (from_client n p) once begun too ∙ sym other),
          ))

      own_says : (c : Channel) → IsBegun c (from_client n p)
          → Says Mismatched (ack_by (joined c) s received available of)
      own_says channels.Unknown begun = λ f. absurd cc
      own_says (channels.New connection cookie) begun = λ f. absurd cc
      own_says (channels.Joined connection cookie) begun = cookie_says cookie begun
      own_says (channels.Successor connection predecessor cookie) begun = cookie_says cookie begun

      ack_says : Says (MismatchFromServer n p expected got (named.AckTo to received available of))
          (on_ack_to s to received available of)
      ack_says =
          by_test (Says (MismatchFromServer n p expected got
          (named.AckTo to received available of))) (to == TO_OUT_PROXY)
          (on_ack s received available of) (passed_on s to (named.AckTo 0 received available of))
          (λ e f. let k = own_says s.channel h.begun f in
          (same_number to TO_OUT_PROXY e, k.0, k.1, k.2))
          (λ e. never (passed_on s to (named.AckTo 0 received available of))
          (passed_none s to (named.AckTo 0 received available of)))

    server_says : (m : Named) → Says (MismatchFromServer n p expected got m) (on_os s m)
    server_says (named.ConnC1 version size timeout) =
        never (conn_c1_by s.channel s version size timeout)
        (c1_none s s.channel version size timeout)
    server_says (named.AckTo to received available of) = ack_says to received available of
    server_says (named.InR1A3 to version size timeout) =
        never (passed_on s to (named.InR1A4 0 version size timeout))
        (passed_none s to (named.InR1A4 0 version size timeout))
    server_says (named.InR2A3 to) =
        never (passed_on s to (named.InR2A4 0)) (passed_none s to (named.InR2A4 0))
    server_says (named.OutR1A1 to) =
        never (passed_on s to (named.OutR1A2 0)) (passed_none s to (named.OutR1A2 0))
    server_says (named.OutR1A5 to version timeout) =
        never (passed_on s to (named.OutR1A6 0 version timeout))
        (passed_none s to (named.OutR1A6 0 version timeout))
    server_says named.OutR1A9 = never (on_out_r1_a9 s) (handover_none s)
    server_says named.EndB1 = never (on_end_b1 s) (end_none s)
    server_says m = never (unexpected s) tt

    pub packet_says : (leg : Leg) (number : Count) (m : Named)
        → Says (Mismatch n p leg m expected got) (packet s leg number m)
    packet_says leg number m =
        by_test (Says (Mismatch n p leg m expected got)) (is_co s leg) (on_co s number m)
        (if is_os s leg then on_os s m else unexpected s)
        (λ e. never (on_co s number m) (client_none s number m))
        (λ e. by_test (Says (Mismatch n p leg m expected got)) (is_os s leg) (on_os s m)
        (unexpected s)
        (λ f. subst (λ (l : Leg). Says (Mismatch n p l m expected got) (on_os s m))
        (is_server n s leg h.is f) (server_says m))
        (λ f. never (unexpected s) tt))
