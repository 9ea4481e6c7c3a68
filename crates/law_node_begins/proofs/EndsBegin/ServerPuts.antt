-- what a server puts: a greeting goes first on each leg, and no other text
use Rattle.law_order.proofs.Vocabulary.{◌≡◌, ℕ, ◌==◌, ◌&&◌, Bool, true, false, if◌then◌else◌, List, Some, None, refl, sym, subst, ap, slice_get, IfSome, Option}
use Rattle.rh_sig.specs.declared.named.Named.TheVariants as named
use Rattle.rh_server.specs.declared.state.EndMark.TheVariants as end_mark
use Rattle.rh_server.specs.declared.state.Greeting.TheVariants as greeting
use Rattle.rh_server.specs.declared.state.Tells.TheVariants as tells
use Rattle.rh_server.specs.declared.state.Leaving.TheVariants as leaving
use Rattle.law_moves.proofs.Vocabulary.{Ack, by_test, same_number, after_told, front_length, Leg, LegKind, ClientOut, OutServer, ClientIn, InServer, Current, Due, greeting as greeting_text, first_of, Message, Text, Pdu, Packet, Waiting, taken, IsNoText}
use Rattle.law_role_server.proofs.Vocabulary.{Greeting, Tells, Leaving, InLeg, OutLeg, went, Gate, lets, Server, is_open, is_due, is_shut, in_place, in_at, with_in, set_at, out_place, Pick, or_else, put, put_by, told_by, was_current, put_tells_by, put_tells, put_b1_by, put_b1, ack_due, put_ack_by, put_ack, next_in, put_in_by, with_out, out_greeting_at, gate_at, was_put, waiting_by, waiting_at, put_waiting, may_go_at, went_at, goes, pdu_by, put_pdu, counts, is_end_due}
use Rattle.law_role_server.proofs.Vocabulary.{may_end_at, put_end, put_pdu_or_end, next_out, settled_pick, put_open, put_out_place, put_out_at}
use Rattle.law_node_begins.proofs.EndsBegin.Stands.{Logs, grown, grown_at, NumberLogs, GoesBehind, text_behind}
use Rattle.law_node_begins.proofs.EndsBegin.KeptLegs.{AreBegun, spots, found, kept_put, kept_more}
use Rattle.law_node_begins.proofs.EndsBegin.ServerRows.{has_begun, in_spot, out_spot, seen, Kept, Keeps, is_leg, os_leg, outs_seen, counts_seen, put_seen, spots_with, settled_keeps}

not_begun : (g : Greeting) → is_due g ≡ true → has_begun g ≡ false
not_begun greeting.Due e = refl
not_begun greeting.Put e = absurd (cc)

begun : (g : Greeting) → is_due g ≡ false → has_begun g ≡ true
begun greeting.Due e = absurd (cc)
begun greeting.Put e = refl

module _ (IsFirst : List ℕ → Type 0) (first : IsFirst greeting_text) where
  -- what is picked for a leg stands behind what is there
  abbrev pub IsPicked : Logs → Leg → Pick → Type 0
  IsPicked logs leg pick =
      IfSome pick (λ (put : Server × Message). Keeps IsFirst (grown leg put.1 logs) put.0)

  or_picked : (logs : Logs) (leg : Leg) (p q : Pick) → IsPicked logs leg p
      → IsPicked logs leg q → IsPicked logs leg (or_else p q)
  or_picked logs leg None q a b = b
  or_picked logs leg (Some pick) q a b = a

  -- the greeting, and what may go behind it
  greets_or : (logs : Logs) (leg : Leg) (due : Bool) (pick : Server × Message) (rest : Pick)
      → (due ≡ true → IsPicked logs leg (Some pick)) → (due ≡ false → IsPicked logs leg rest)
      → IsPicked logs leg (or_else (if due then Some pick else None) rest)
  greets_or logs leg true pick rest a b = a refl
  greets_or logs leg false pick rest a b = b refl

  greets : (g : Greeting) → is_due g ≡ true
      → GoesBehind IsFirst (has_begun g) (Text greeting_text) true
  greets g due =
      subst (λ b. GoesBehind IsFirst b (Text greeting_text) true) (sym (not_begun g due))
      (text_behind IsFirst greeting_text first)

  -- ---- on an is leg that is kept

  module _ (logs : Logs) (s : Server) (place : ℕ) (leg : InLeg)
      (there : slice_get s.ins place ≡ Some leg)
      (at : in_place leg.number s.ins ≡ Some place) (k : Keeps IsFirst logs s) where
    abbrev Here : Pick → Type 0
    Here pick = IsPicked logs (is_leg leg.number) pick

    in_greets : is_due leg.greeting ≡ true
        → Here (Some (with_in s (record leg { greeting = greeting.Put }), Text greeting_text))
    in_greets due =
        let other : InLeg = record leg { greeting = greeting.Put } in
        let text = Text greeting_text in
        let on : NumberLogs = λ j. logs (is_leg j) in
        record {
          ins =
              subst (λ o. AreBegun IsFirst s.newest_in (spots in_spot (set_at s.ins other o))
              (grown_at leg.number text on)) (sym at)
              (kept_put IsFirst in_spot on s.newest_in s.ins place leg other text there refl
              (greets leg.greeting due) k.ins);
          outs = k.outs;
          apart = k.apart;
        }

    in_more : (f : Server) (m : Message) → is_due leg.greeting ≡ false → IsNoText m
        → seen f ≡ seen s → Here (Some (f, m))
    in_more f m due is e =
        subst (λ d. Kept IsFirst (grown (is_leg leg.number) m logs) d) (sym e) (record {
          ins = kept_more IsFirst in_spot (λ j. logs (is_leg j)) s.newest_in s.ins place leg m
              there (begun leg.greeting due) is k.ins;
          outs = k.outs;
          apart = k.apart;
        })

    with_seen : (other : InLeg) → in_spot other ≡ in_spot leg → seen (with_in s other) ≡ seen s
    with_seen other is =
        ap (λ ins. record (seen s) { ins = ins })
        (spots_with IsFirst logs s (Some place) leg other there is k)

    told_seen : seen (with_in (told_by s leg.number) (record leg { tells = tells.Nothing }))
        ≡ seen s
    told_seen =
        by_test (λ t. seen (with_in t (record leg { tells = tells.Nothing })) ≡ seen s)
        ((leg.number == s.current.leg) && is_shut s.edge) _ s
        (λ e. with_seen (record leg { tells = tells.Nothing }) refl)
        (λ e. with_seen (record leg { tells = tells.Nothing }) refl)

    tells_picked : (t : Tells) → is_due leg.greeting ≡ false → Here (put_tells_by s leg t)
    tells_picked tells.Nothing due = tt
    tells_picked tells.ConnB3 due =
        let m = Packet (named.ConnB3 s.line.size 1) in
        let f = with_in s (record leg { tells = tells.Nothing }) in
        by_test Here (is_open s.stage) (Some (f, m)) None
        (λ e. in_more f m due tt (with_seen (record leg { tells = tells.Nothing }) refl))
        (λ e. tt)
    tells_picked tells.InR1B2 due =
        let m = Packet (named.InR1B2 s.line.size) in
        let f = with_in (told_by s leg.number) (record leg { tells = tells.Nothing }) in
        by_test Here (was_current s leg) (Some (f, m)) None
        (λ e. in_more f m due tt told_seen) (λ e. tt)

    b1_picked : (l : Leaving) → is_due leg.greeting ≡ false → Here (put_b1_by s leg l)
    b1_picked leaving.Stays due = tt
    b1_picked leaving.InR1B1 due =
        in_more (with_in s (record leg { leaving = leaving.Left })) (Packet named.InR1B1) due tt
        (with_seen (record leg { leaving = leaving.Left }) refl)
    b1_picked leaving.Left due = tt
    b1_picked leaving.Lost due = tt

    ack_picked : (ack : Option Ack) → is_due leg.greeting ≡ false → Here (put_ack_by s ack)
    ack_picked None due = tt
    ack_picked (Some ack) due =
        in_more (record s { line = after_told s.line Current ack })
        (Packet (named.Ack ack.received ack.available s.current.cookie)) due tt refl

    leg_picked : Here (next_in s leg)
    leg_picked =
        let there = is_leg leg.number in
        greets_or logs there (is_due leg.greeting) _ _ in_greets (λ due.
        or_picked logs there (put_tells s leg) _ (tells_picked leg.tells due)
        (or_picked logs there (put_b1 s leg) (put_ack s leg) (b1_picked leg.leaving due)
        (ack_picked (ack_due s leg) due)))

  in_picked : (logs : Logs) (s : Server) (n : ℕ) (o : Option ℕ) → in_place n s.ins ≡ o
      → Keeps IsFirst logs s → IsPicked logs (is_leg n) (put_in_by s (in_at s.ins o))
  in_picked logs s n None at k = tt
  in_picked logs s n (Some place) at k =
      let f = found (λ (leg : InLeg). leg.number == n) s.ins place at in
      let is = same_number f.0.number n f.2 in
      subst (λ leg. IsPicked logs (is_leg n) (put_in_by s leg)) (sym f.1)
      (subst (λ j. IsPicked logs (is_leg j) (next_in s f.0)) is
      (leg_picked logs s place f.0 f.1 (subst (λ j. in_place j s.ins ≡ Some place) (sym is) at) k))

  -- ---- on an os leg that is kept

  module _ (logs : Logs) (s : Server) (place : ℕ) (leg : OutLeg)
      (there : slice_get s.outs place ≡ Some leg) (k : Keeps IsFirst logs s) where
    abbrev There : Pick → Type 0
    There pick = IsPicked logs (os_leg leg.number) pick

    out_greets : is_due leg.greeting ≡ true
        → There (Some (
          with_out s place (record leg { greeting = greeting.Put }),
          Text greeting_text,
        ))
    out_greets due = record {
      ins = k.ins;
      outs =
          kept_put IsFirst out_spot (λ j. logs (os_leg j)) s.newest_out s.outs place leg
          (record leg { greeting = greeting.Put }) (Text greeting_text) there refl
          (greets leg.greeting due) k.outs;
      apart = k.apart;
    }

    out_more : (f : Server) (m : Message) → is_due leg.greeting ≡ false → IsNoText m
        → seen f ≡ seen s → There (Some (f, m))
    out_more f m due is e =
        subst (λ d. Kept IsFirst (grown (os_leg leg.number) m logs) d) (sym e) (record {
          ins = k.ins;
          outs = kept_more IsFirst out_spot (λ j. logs (os_leg j)) s.newest_out s.outs place leg m
              there (begun leg.greeting due) is k.outs;
          apart = k.apart;
        })

    found_picked : is_due leg.greeting ≡ false → (x : Waiting × Option Due)
        → There (waiting_by s place x)
    found_picked due (waiting, None) = tt
    found_picked due (waiting, Some it) =
        out_more (was_put (record s { waiting = waiting }) place it.packet) (Packet it.packet) due
        tt (put_seen (record s { waiting = waiting }) place it.packet)

    gate_picked : is_due leg.greeting ≡ false → (gate : Option Gate)
        → There (waiting_at s place gate)
    gate_picked due None = tt
    gate_picked due (Some gate) = found_picked due (taken (lets gate) s.waiting)

    goes_seen : (len : ℕ) → seen (goes s place len) ≡ seen s
    goes_seen len =
        subst (λ o. seen (record s { outs = went_at s place len o }) ≡ seen s) (sym there)
        (outs_seen s place leg (went leg len) there refl)

    pdu_picked : is_due leg.greeting ≡ false → (len : Option ℕ) → There (pdu_by s place len)
    pdu_picked due None = tt
    pdu_picked due (Some len) =
        by_test There (may_go_at s len (slice_get s.outs place))
        (Some (goes s place len, Pdu (first_of s.queue))) None
        (λ e. out_more (goes s place len) (Pdu (first_of s.queue)) due tt (goes_seen len))
        (λ e. tt)

    end_picked : is_due leg.greeting ≡ false → There (put_end s place)
    end_picked due =
        let f : Server = record (counts s place 24) { end_mark = end_mark.Put } in
        by_test There (is_end_due s && may_end_at s (slice_get s.outs place))
        (Some (f, Packet named.EndB1)) None
        (λ e. out_more f (Packet named.EndB1) due tt (counts_seen s place 24)) (λ e. tt)

    settled_picked : (pick : Pick) → There pick → There (settled_pick pick)
    settled_picked None h = tt
    settled_picked (Some pick) h =
        settled_keeps IsFirst (grown (os_leg leg.number) pick.1 logs) pick.0 h

    open_picked : is_due leg.greeting ≡ false → There (put_open s place)
    open_picked due =
        let here = os_leg leg.number in
        by_test There (is_open s.stage) (settled_pick (next_out s place)) None
        (λ e. settled_picked (next_out s place)
        (or_picked logs here (put_waiting s place) (put_pdu_or_end s place)
        (gate_picked due (gate_at s (slice_get s.outs place)))
        (or_picked logs here (put_pdu s place) (put_end s place)
        (pdu_picked due (front_length s.queue)) (end_picked due))))
        (λ e. tt)

    place_picked : There (put_out_place s place)
    place_picked =
        subst (λ o. There (or_else (out_greeting_at s place o) (put_open s place))) (sym there)
        (greets_or logs (os_leg leg.number) (is_due leg.greeting) _ _ out_greets open_picked)

  out_picked : (logs : Logs) (s : Server) (n : ℕ) (o : Option ℕ) → out_place n s.outs ≡ o
      → Keeps IsFirst logs s → IsPicked logs (os_leg n) (put_out_at s o)
  out_picked logs s n None at k = tt
  out_picked logs s n (Some place) at k =
      let f = found (λ (leg : OutLeg). leg.number == n) s.outs place at in
      subst (λ j. IsPicked logs (os_leg j) (put_out_place s place))
      (same_number f.0.number n f.2) (place_picked logs s place f.0 f.1 k)

  -- ---- on any leg

  puts_by : (logs : Logs) (s : Server) (n : ℕ) (kind : LegKind) → Keeps IsFirst logs s
      → IsPicked logs (record { kind = kind; number = n }) (put_by s n kind)
  puts_by logs s n InServer k = in_picked logs s n (in_place n s.ins) refl k
  puts_by logs s n OutServer k = out_picked logs s n (out_place n s.outs) refl k
  puts_by logs s n ClientIn k = tt
  puts_by logs s n ClientOut k = tt

  pub puts : (logs : Logs) (s : Server) (leg : Leg) → Keeps IsFirst logs s
      → IsPicked logs leg (put s leg)
  puts logs s leg k = puts_by logs s leg.number leg.kind k
