-- what a server puts on os legs, by the steps of which a put is made
use Rattle.law_order.proofs.Vocabulary.{◌≡◌, ℕ, ◌+◌, ◌≤◌, ◌==◌, ◌&&◌, Bool, true, false, true≢false, nat_lt, List, Some, None, refl, sym, ap, ◌∙◌, subst, and_parts, false≢true, IfSome, find, slice_get, slice_set, Option}
use Rattle.rh_sig.specs.declared.named.Named.TheVariants as named
use Rattle.rh_server.specs.declared.state.EndMark.TheVariants as end_mark
use Rattle.rh_server.specs.declared.state.Replacement.TheVariants as replacement
use Rattle.law_moves.proofs.Vocabulary.{after_put, fits, may_put, by_test, same_number, test_same, Cookie, Named, front_length, Due, greeting as greeting_text, first_of, Message, Text, Pdu, Packet, with_due, without_first}
use Rattle.law_role_server.proofs.Vocabulary.{Put, OutLeg, counted, went, length_of, lets, lets_packet, handed, last_number, Server, is_confirmed, is_due, is_open, out_place, settled, Pick, or_else, counts, counts_at, gate, gate_at, is_end_due, may_end_at, may_go_at, next_out, out_greeting_at, pdu_by, put_end, put_open, put_out_at, put_out_greeting, put_pdu, put_pdu_or_end, put_waiting, settled_pick, waiting_at, waiting_by, was_put, went_at, is_out_r1_a9}
use Rattle.law_role_server.proofs.Counted.Dues.{found_may}
use Rattle.law_role_server.proofs.Gives.{found as number_found}
use Rattle.law_peers_room.proofs.ServerRoom.Lets.{IsLet, fits_so, leaves_so, let_of}
use Rattle.law_peers_room.proofs.ServerRoom.Views.{View, view}

-- ---- the steps

-- what doesn't wait
abbrev pub is_beside : Message → Bool
is_beside (Text bytes) = false
is_beside (Pdu pdu) = true
is_beside (Packet named.EndB1) = true
is_beside (Packet packet) = false

module _ (s : Server) where
  abbrev pub rest : OutLeg → List Due
  rest leg = without_first (lets (gate s leg)) s.waiting.due

-- the leg at a place has the number
pub record IsAt (n : ℕ) (s : Server) (place : ℕ) (leg : OutLeg) : Type 0 where
  pub at : slice_get s.outs place ≡ Some leg
  pub number : leg.number ≡ n

-- and this one is the first that may go there
pub record IsFirst (s : Server) (leg : OutLeg) (due : Due) : Type 0 where
  pub running : is_open s.stage ≡ true
  pub found : find (lets (gate s leg)) s.waiting.due ≡ Some due

-- each step of a put: behind all but greetings the server settles
pub record ArePut (n : ℕ) (s : Server) (W G : Message → View → Type 0) : Type 0 where
  pub greets : (place : ℕ) (leg new : OutLeg) → IsAt n s place leg
      → new.number ≡ leg.number → new.meter ≡ leg.meter → new.cookie ≡ leg.cookie
      → G (Text greeting_text) (record (view s) { legs = slice_set s.outs place new })
  -- an acknowledgement to an out proxy isn't counted
  pub alone : (place : ℕ) (leg : OutLeg) → IsAt n s place leg → (due : Due)
      → IsFirst s leg due → (received window : ℕ) (cookie : Cookie)
      → due.packet ≡ named.AckTo 3 received window cookie
      → W (Packet due.packet) (record (view s) { dues = rest s leg })
  pub counts_it : (place : ℕ) (leg : OutLeg) → IsAt n s place leg → (due : Due)
      → IsFirst s leg due → IsLet (gate s leg) due.packet → is_out_r1_a9 due.packet ≡ false
      → W (Packet due.packet) (record (view s) {
        legs = slice_set s.outs place (counted leg (length_of due.packet));
        dues = rest s leg;
      })
  pub hands : (place : ℕ) (leg : OutLeg) → IsAt n s place leg → (due : Due)
      → IsFirst s leg due → IsLet (gate s leg) due.packet → due.packet ≡ named.OutR1A9
      → is_confirmed s.replacement ≡ true → nat_lt s.writing last_number ≡ true
      → W (Packet named.OutR1A9) (record (view s) {
        how = replacement.Steady;
        writing = s.writing + 1;
        legs = slice_set s.outs place (counted leg 24);
        dues = rest s leg;
      })
  pub beside : (place : ℕ) (leg new : OutLeg) (len : ℕ) (m : Message) → IsAt n s place leg
      → is_open s.stage ≡ true → find (lets (gate s leg)) s.waiting.due ≡ None
      → leg.number ≡ s.writing → new.number ≡ leg.number
      → new.meter ≡ after_put leg.meter len → new.cookie ≡ leg.cookie
      → leg.meter.count + len ≤ leg.meter.length
      → is_beside m ≡ true → W m (record (view s) { legs = slice_set s.outs place new })
  pub settles : (m : Message) (t : Server) → is_open s.stage ≡ true → W m (view t)
      → G m (view (settled t))

-- ---- a put

module _ (n : ℕ) (s : Server) (W G : Message → View → Type 0) (puts : ArePut n s W G) where
  abbrev pub Goes : Pick → Type 0
  Goes pick = IfSome pick (λ (one : Server × Message). G one.1 (view one.0))

  abbrev Weak : Pick → Type 0
  Weak pick = IfSome pick (λ (one : Server × Message). W one.1 (view one.0))

  or_goes : (a b : Pick) → Goes a → (a ≡ None → Goes b) → Goes (or_else a b)
  or_goes None b one other = other refl
  or_goes (Some pick) b one other = one

  or_weak : (a b : Pick) → Weak a → (a ≡ None → Weak b) → Weak (or_else a b)
  or_weak None b one other = other refl
  or_weak (Some pick) b one other = one

  settled_goes : (pick : Pick) → is_open s.stage ≡ true → Weak pick
      → Goes (settled_pick pick)
  settled_goes None running h = tt
  settled_goes (Some one) running h = puts.settles one.1 one.0 running h

  -- ---- the greeting

  greets : (place : ℕ) (o : Option OutLeg) → slice_get s.outs place ≡ o
      → ((leg : OutLeg) → slice_get s.outs place ≡ Some leg → leg.number ≡ n)
      → Goes (out_greeting_at s place o)
  greets place None at named_n = tt
  greets place (Some leg) at named_n =
      by_test Goes (is_due leg.greeting) _ None
      (λ e. puts.greets place leg (record leg { greeting = Put })
      (record { at = at; number = named_n leg at }) refl refl refl)
      (λ e. tt)

  module _ (running : is_open s.stage ≡ true) (place : ℕ) (leg : OutLeg)
      (is_at : IsAt n s place leg) where
    abbrev others : List Due
    others = without_first (lets (gate s leg)) s.waiting.due

    abbrev without : Server
    without = record s { waiting = with_due s.waiting others }

    -- nothing that waits may go on the leg
    none_found : put_waiting s place ≡ None → find (lets (gate s leg)) s.waiting.due ≡ None
    none_found none =
        by (find (lets (gate s leg)) s.waiting.due)
        (subst (λ (o : Option OutLeg). waiting_at s place (gate_at s o) ≡ None) is_at.at none)
      where
        by : (o : Option Due)
            → waiting_by s place
            (with_due s.waiting (without_first (lets (gate s leg)) s.waiting.due), o) ≡ None
            → o ≡ None
        by None e = refl
        by (Some due) e = absurd cc

    -- ---- what waits

    counts_is : (t : Server) (len : ℕ) → t.outs ≡ s.outs
        → counts t place len ≡ counts_at t place len (Some leg)
    counts_is t len same =
        ap (counts_at t place len)
        (ap (λ (legs : List OutLeg). slice_get legs place) same ∙ is_at.at)

    counted_weak : (due : Due) → IsFirst s leg due → (packet : Named) → due.packet ≡ packet
        → IsLet (gate s leg) packet → is_out_r1_a9 packet ≡ false
        → W (Packet packet) (view (counts without place (length_of packet)))
    counted_weak due is packet same is_let_go apart =
        subst (λ (t : Server). W (Packet packet) (view t))
        (sym (counts_is without (length_of packet) refl))
        (subst (λ (p : Named). W (Packet p)
        (view (counts_at without place (length_of p) (Some leg)))) same
        (puts.counts_it place leg is_at due is (subst (IsLet (gate s leg)) (sym same) is_let_go)
        (ap is_out_r1_a9 same ∙ apart)))

    let_weak : (due : Due) → IsFirst s leg due → (packet : Named) → due.packet ≡ packet
        → lets_packet (gate s leg) packet ≡ true
        → W (Packet packet) (view (was_put without place packet))
    let_weak due is (named.AckTo to received window cookie) same e =
        by_test (λ (t : Server). W (Packet (named.AckTo to received window cookie)) (view t))
        (to == 3) without (counts without place 56)
        (λ f. subst (λ (p : Named). W (Packet p) (view without)) same
        (puts.alone place leg is_at due is received window cookie
        (same ∙ ap (λ (k : ℕ). named.AckTo k received window cookie) (same_number to 3 f))))
        (λ f. counted_weak due is (named.AckTo to received window cookie) same
        (let_of (gate s leg) (named.AckTo to received window cookie)
        (λ to_there a b c other three. true≢false (sym (test_same 3)
        ∙ sym (ap (λ (k : ℕ). k == 3)
        (to_is to to_there received a window b cookie c other ∙ three))
        ∙ f)) e) refl)
      where
        to_of : Named → ℕ
        to_of (named.AckTo to received window cookie) = to
        to_of packet = 0

        to_is : (a b c d e f : ℕ) (g h : Cookie)
            → named.AckTo a c e g ≡ named.AckTo b d f h → a ≡ b
        to_is a b c d e f g h same = ap to_of same
    let_weak due is named.OutR1A9 same e =
        let over = and_parts (is_confirmed s.replacement) (nat_lt s.writing last_number)
        (and_parts (is_confirmed s.replacement && nat_lt s.writing last_number)
        (fits leg.meter 24) (and_parts (leg.number == s.writing) _ e).1).0 in
        subst (λ (t : Server). W (Packet named.OutR1A9) (view (handed t)))
        (sym (counts_is without 24 refl))
        (puts.hands place leg is_at due is (subst (IsLet (gate s leg)) (sym same)
        (let_of (gate s leg) named.OutR1A9 (λ a b c d other three. absurd cc) e)) same
        over.0 over.1)
    let_weak due is packet same e =
        counted_weak due is packet same
        (let_of (gate s leg) packet (λ a b c d other three. absurd cc) e) refl

    waiting_weak : Weak (waiting_at s place (Some (gate s leg)))
    waiting_weak =
        by (find (lets (gate s leg)) s.waiting.due) refl
        (found_may (lets (gate s leg)) s.waiting.due)
      where
        by : (o : Option Due) → find (lets (gate s leg)) s.waiting.due ≡ o
            → IfSome o (λ (due : Due). lets (gate s leg) due ≡ true)
            → Weak (waiting_by s place (with_due s.waiting others, o))
        by None is may = tt
        by (Some due) is may =
            let_weak due (record { running = running; found = is }) due.packet refl may

    -- ---- the rest

    pdu_weak : put_waiting s place ≡ None → (len : Option ℕ) → Weak (pdu_by s place len)
    pdu_weak none None = tt
    pdu_weak none (Some len) =
        by_test Weak (may_go_at s len (slice_get s.outs place)) _ None
        (λ e. let may = subst (λ (o : Option OutLeg). may_go_at s len o ≡ true) is_at.at e in
        let parts = and_parts (leg.number == s.writing) _ may in
        let fits_it = (and_parts _ (may_put leg.meter len) parts.1).1 in
        subst (λ (o : Option OutLeg). W (Pdu (first_of s.queue))
        (record (view s) { legs = went_at s place len o })) (sym is_at.at)
        (puts.beside place leg (went leg len) len (Pdu (first_of s.queue)) is_at running
        (none_found none) (same_number leg.number s.writing parts.0) refl refl refl
        (leaves_so leg.meter len fits_it) refl))
        (λ e. tt)

    end_weak : put_waiting s place ≡ None → Weak (put_end s place)
    end_weak none =
        by_test Weak (is_end_due s && may_end_at s (slice_get s.outs place)) _ None
        (λ e. let may = subst (λ (o : Option OutLeg). may_end_at s o ≡ true) is_at.at
        (and_parts (is_end_due s) (may_end_at s (slice_get s.outs place)) e).1 in
        let parts = and_parts (leg.number == s.writing) (fits leg.meter 24) may in
        subst (λ (t : Server). W (Packet named.EndB1)
        (view (record t { end_mark = end_mark.Put }))) (sym (counts_is s 24 refl))
        (puts.beside place leg (counted leg 24) 24 (Packet named.EndB1) is_at running
        (none_found none) (same_number leg.number s.writing parts.0) refl refl refl
        (fits_so leg.meter 24 parts.1) refl))
        (λ e. tt)

    out_weak : Weak (next_out s place)
    out_weak =
        or_weak (put_waiting s place) (put_pdu_or_end s place)
        (subst (λ (o : Option OutLeg). Weak (waiting_at s place (gate_at s o))) (sym is_at.at)
        waiting_weak)
        (λ none. or_weak (put_pdu s place) (put_end s place)
        (pdu_weak none (front_length s.queue)) (λ no_pdu. end_weak none))

  -- where there is no leg at the place
  nothing_weak : (place : ℕ) → slice_get s.outs place ≡ None → Weak (next_out s place)
  nothing_weak place at =
      or_weak (put_waiting s place) (put_pdu_or_end s place)
      (subst (λ (o : Option OutLeg). Weak (waiting_at s place (gate_at s o))) (sym at) tt)
      (λ none. or_weak (put_pdu s place) (put_end s place) (by (front_length s.queue))
      (λ no_pdu. by_test Weak (is_end_due s && may_end_at s (slice_get s.outs place)) _ None
      (λ e. absurd (false≢true (subst (λ (o : Option OutLeg). may_end_at s o ≡ true) at
      (and_parts (is_end_due s) (may_end_at s (slice_get s.outs place)) e).1)))
      (λ e. tt)))
    where
      by : (len : Option ℕ) → Weak (pdu_by s place len)
      by None = tt
      by (Some len) =
          by_test Weak (may_go_at s len (slice_get s.outs place)) _ None
          (λ e. absurd (false≢true
          (subst (λ (o : Option OutLeg). may_go_at s len o ≡ true) at e)))
          (λ e. tt)

  pub os_goes : (place : Option ℕ) → out_place n s.outs ≡ place → Goes (put_out_at s place)
  os_goes None is = tt
  os_goes (Some place) is =
      or_goes (put_out_greeting s place) (put_open s place)
      (greets place (slice_get s.outs place) refl numbered)
      (λ none. by_test Goes (is_open s.stage) (settled_pick (next_out s place)) None
      (λ e. settled_goes (next_out s place) e (by e (slice_get s.outs place) refl)) (λ e. tt))
    where
      numbered : (leg : OutLeg) → slice_get s.outs place ≡ Some leg → leg.number ≡ n
      numbered leg at = number_found n s.outs place leg is at

      by : is_open s.stage ≡ true → (o : Option OutLeg) → slice_get s.outs place ≡ o
          → Weak (next_out s place)
      by e None at = nothing_weak place at
      by e (Some leg) at =
          out_weak e place leg (record { at = at; number = numbered leg at })
