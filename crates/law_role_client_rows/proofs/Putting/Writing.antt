-- what a client puts on the writing channel, behind what that begins with
use Rattle.law_order.proofs.Vocabulary.{◌≡◌, ℕ, suc, ◌&&◌, Bool, List, [], ◌∷◌, ◌++◌, Some, None, refl, subst, Option}
use Rattle.rh_sig.specs.declared.named.Named.TheVariants as named
use Rattle.rh_client.specs.Putting.{pdu_by}
use Rattle.rh_client.specs.declared.replacement.InStage.TheVariants as in_stage
use Rattle.rh_client.specs.declared.replacement.OutStage.TheVariants as out_stage
use Rattle.law_moves.proofs.Vocabulary.{Ack, may_put, fits, by_test, Cookie, IN_R1_A5_LEN, OUT_R1_A7_LEN, END_A1_LEN, ACK_TO_LEN, PING_LEN, ClientConfig, after_told, front_length, Leg, Which, Current, Next, first_of, Message, Pdu, Packet, OnLeg}
use Rattle.law_moves.proofs.Lemmas.{PutKeeps, all_append}
use Rattle.law_role_client.proofs.Vocabulary.{Put, Replacement, NoneUnderWay, In, Out, ClientRole, metered, ci, co, ack_due, cookie_of, handed_over, Pick, with_end_put, without_ping, due_by, put_due, ack_by, put_ack_of, put_ack, lets_pdu, put_pdu, is_end_due, put_end, put_ping, put_next, or_else}
use Rattle.law_role_client.proofs.Sending.Facts.{SeenOut as Channel}
use Rattle.law_role_client.proofs.Receiving.Rows.{asked_up}
use Rattle.law_role_client_rows.proofs.Putting.Channels.{puts_elsewhere}
use Rattle.law_role_client_rows.proofs.Putting.Openings.{more_now, next_comes}
use Rattle.law_role_client_rows.proofs.Putting.Facts.{AreIns, IsPlain, switch_more, in_put}
use Rattle.law_role_client_rows.proofs.Putting.Changes.{Holds, turned, at, handed_kept}
use Rattle.law_role_client_rows.specs.Putting.{in_way, out_way, IsBehind}

module _ (config : ClientConfig) (Comes : Leg → Cookie → Type 0) (Early : Leg → Type 0) where
  abbrev pub Puts : Leg → List OnLeg → List OnLeg → Pick → Type 0
  Puts leg came put pick = PutKeeps (Holds config Comes Early) leg came put pick

  or_put : (leg : Leg) (came put : List OnLeg) (a b : Pick) → Puts leg came put a
      → Puts leg came put b → Puts leg came put (or_else a b)
  or_put leg came put None b h k = k
  or_put leg came put (Some one) b h k = h

  -- one more behind what an IN channel begins with
  behind_more : {x y : Channel} {replaces answered : Bool} {put : List OnLeg}
      (h : AreIns config Comes Early x y replaces answered put) (m : Message)
      → x.opening ≡ Put → IsBehind (λ (c : Cookie). Comes (ci (suc (suc h.legs.below))) c) m
      → AreIns config Comes Early x y replaces answered (put ++ (ci x.number, m) ∷ [])
  behind_more h m e behind =
      more_now (in_way config Comes) Comes Early h m e
      (λ rest all. all_append
      (IsBehind (λ (c : Cookie). Comes (ci (suc (suc h.legs.below))) c)) rest (m ∷ []) all
      (behind, tt))

  writing_more : (s : ClientRole) (m : Message) (came put : List OnLeg)
      (h : Holds config Comes Early s came put) → s.writing.opening ≡ Put
      → IsBehind (λ (c : Cookie). Comes (ci (suc (suc h.ins.legs.below))) c) m
      → IsPlain config Comes Early m
      → Holds config Comes Early s came (put ++ (ci s.writing.number, m) ∷ [])
  writing_more s m came put h e behind plain =
      in_put config Comes Early h s.writing.number m plain (behind_more h.ins m e behind)

  due_put : (s : ClientRole) (came put : List OnLeg) → s.writing.opening ≡ Put
      → Holds config Comes Early s came put
      → Puts (ci s.writing.number) came put (put_due s)
  unfolding put_due
  due_put s came put o h = by s.replacement refl
    where
      by : (r : Replacement) → s.replacement ≡ r
          → Puts (ci s.writing.number) came put (due_by s r)
      by NoneUnderWay e = tt
      by (In in_stage.Asked out_waits) e = tt
      by (In in_stage.Answered out_waits) e =
          let packet = named.InR1A5 s.in_successor.cookie in
          by_test (Puts (ci s.writing.number) came put) (fits s.writing.meter IN_R1_A5_LEN)
          (Some (handed_over s out_waits, Packet packet)) None
          (λ f.
          let here = at config Comes Early s (In in_stage.Answered out_waits) came put e h in
          handed_kept config Comes Early s out_waits came
          (put ++ (ci s.writing.number, Packet packet) ∷ [])
          (writing_more (turned s (In in_stage.Answered out_waits)) (Packet packet) came put
          here o
          (next_comes (in_way config Comes) Comes Early here.ins refl
          (asked_up s.in_successor.opening (here.ins.asked refl)))
          (λ k. (tt, refl))))
          (λ f. tt)
      by (Out out_stage.Asked waiting) e = tt
      by (Out out_stage.Answered waiting) e =
          let packet = named.OutR1A7 2 s.out_successor.cookie in
          by_test (Puts (ci s.writing.number) came put) (fits s.writing.meter OUT_R1_A7_LEN)
          (Some (
            record s {
              writing = metered s.writing OUT_R1_A7_LEN;
              replacement = Out out_stage.Switched waiting;
            },
            Packet packet,
          )) None
          (λ f.
          let here = at config Comes Early s (Out out_stage.Answered waiting) came put e h in
          record {
            same = here.same;
            opens = here.opens;
            under_way = here.under_way;
            ins = behind_more here.ins (Packet packet) o refl;
            outs = puts_elsewhere (out_way config) Comes Early here.outs
                (ci s.writing.number, Packet packet) (λ k. refl);
            switches = switch_more config Comes Early s.current.number put s.writing.number 2
                s.out_successor.cookie
                (subst (λ (n : ℕ). Comes (co n) s.out_successor.cookie)
                (here.outs.legs.next refl)
                (here.outs.next_up
                (asked_up s.out_successor.opening (here.outs.asked refl)))) here.switches;
          })
          (λ f. tt)
      by (Out out_stage.Switched waiting) e = tt
      by (Out out_stage.Finished waiting) e = tt

  ack_put : (s : ClientRole) (which : Which) (o : Option Ack) (came put : List OnLeg)
      → s.writing.opening ≡ Put → Holds config Comes Early s came put
      → Puts (ci s.writing.number) came put (ack_by s which o)
  ack_put s which None came put e h = tt
  ack_put s which (Some ack) came put e h =
      let packet = named.AckTo 3 ack.received ack.available (cookie_of s which) in
      by_test (Puts (ci s.writing.number) came put) (may_put s.writing.meter ACK_TO_LEN)
      (Some (
        record s {
          line = after_told s.line which ack;
          writing = metered s.writing ACK_TO_LEN;
        },
        Packet packet,
      )) None
      (λ f. writing_more s (Packet packet) came put h e refl (λ k. (tt, refl)))
      (λ f. tt)

  acks_put : (s : ClientRole) (came put : List OnLeg) → s.writing.opening ≡ Put
      → Holds config Comes Early s came put → Puts (ci s.writing.number) came put (put_ack s)
  unfolding put_ack put_ack_of
  acks_put s came put e h =
      or_put (ci s.writing.number) came put (ack_by s Current (ack_due s Current))
      (ack_by s Next (ack_due s Next)) (ack_put s Current (ack_due s Current) came put e h)
      (ack_put s Next (ack_due s Next) came put e h)

  pdu_put : (s : ClientRole) (came put : List OnLeg) → s.writing.opening ≡ Put
      → Holds config Comes Early s came put → Puts (ci s.writing.number) came put (put_pdu s)
  unfolding put_pdu
  pdu_put s came put e h = by (front_length s.queue)
    where
      by : (o : Option ℕ) → Puts (ci s.writing.number) came put (pdu_by s o)
      by None = tt
      by (Some len) =
          by_test (Puts (ci s.writing.number) came put) (lets_pdu s len) _ None
          (λ f. writing_more s (Pdu (first_of s.queue)) came put h e tt (λ k. (tt, refl)))
          (λ f. tt)

  end_put : (s : ClientRole) (came put : List OnLeg) → s.writing.opening ≡ Put
      → Holds config Comes Early s came put → Puts (ci s.writing.number) came put (put_end s)
  unfolding put_end
  end_put s came put e h =
      by_test (Puts (ci s.writing.number) came put)
      (is_end_due s && fits s.writing.meter END_A1_LEN)
      (Some (
        record s { writing = with_end_put (metered s.writing END_A1_LEN) },
        Packet named.EndA1,
      )) None
      (λ f. writing_more s (Packet named.EndA1) came put h e tt (λ k. (tt, refl)))
      (λ f. tt)

  ping_put : (s : ClientRole) (came put : List OnLeg) → s.writing.opening ≡ Put
      → Holds config Comes Early s came put → Puts (ci s.writing.number) came put (put_ping s)
  unfolding put_ping
  ping_put s came put e h =
      by_test (Puts (ci s.writing.number) came put)
      (s.writing.is_ping_due && may_put s.writing.meter PING_LEN)
      (Some (
        record s { writing = without_ping (metered s.writing PING_LEN) },
        Packet named.Ping,
      )) None
      (λ f. writing_more s (Packet named.Ping) came put h e tt (λ k. (tt, refl)))
      (λ f. tt)

  pub next_put : (s : ClientRole) (came put : List OnLeg) → s.writing.opening ≡ Put
      → Holds config Comes Early s came put → Puts (ci s.writing.number) came put (put_next s)
  unfolding put_next
  next_put s came put e h =
      let leg = ci s.writing.number in
      or_put leg came put (put_due s)
      (or_else (put_ack s) (or_else (put_pdu s) (or_else (put_end s) (put_ping s))))
      (due_put s came put e h)
      (or_put leg came put (put_ack s)
      (or_else (put_pdu s) (or_else (put_end s) (put_ping s))) (acks_put s came put e h)
      (or_put leg came put (put_pdu s) (or_else (put_end s) (put_ping s))
      (pdu_put s came put e h)
      (or_put leg came put (put_end s) (put_ping s) (end_put s came put e h)
      (ping_put s came put e h))))
