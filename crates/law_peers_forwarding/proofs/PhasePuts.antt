-- what a server puts on os legs keeps how far an acknowledgement to the client has come that waits
use Rattle.law_order.proofs.Vocabulary.{◌≡◌, ◌⊎◌, inl, inr, ℕ, suc, ◌+◌, ◌*◌, ◌≤◌, ◌==◌, Bool, true, false, nat_lt, if◌then◌else◌, List, [], ◌∷◌, Some, None, refl, sym, ap, ◌∙◌, subst, arith, nat_tests, IfSome, find, slice_set}
use Rattle.rh_sig.specs.declared.named.Named.TheVariants as named
use Rattle.rh_server.specs.declared.state.Replacement.TheVariants as replacement
use Rattle.law_moves.proofs.Vocabulary.{Meter, after_put, fits, may_put, same_number, test_same, Cookie, Named, Due, Message, Text, Pdu, Packet, count_of}
use Rattle.law_role_client.proofs.Counted.Behind.{both_true}
use Rattle.law_role_server.proofs.Vocabulary.{OutLeg, Replacement, counted, length_of, lets, lets_packet, last_number, gate, Server, is_confirmed, is_open, is_steady, is_out_r1_a1}
use Rattle.law_role_server.proofs.TakesKept.{falsely as not_true}
use Rattle.law_role_server.proofs.Each.{each_got}
use Rattle.law_peers_room.proofs.ServerRoom.Legs.{others_so}
use Rattle.law_peers_room.proofs.ServerRoom.Meters.{Base, IsBase, is_answered, is_begun, seen}
use Rattle.law_peers_room.proofs.ServerRoom.Lets.{IsLet, confirmed_answered, is_acked, open_begun, short_of, short_so}
use Rattle.law_peers_room.proofs.ServerRoom.ViewPuts.{ArePut, IsAt, IsFirst, is_beside, rest}
use Rattle.law_peers_room.proofs.ServerRoom.ViewRows.{settled_serves}
use Rattle.law_peers_room.proofs.ServerRoom.Views.{View, view}
use Rattle.law_peers_room.proofs.ServerRoom.Ahead as ahead
use Rattle.law_peers_room.specs.OutRoom.Waits.{is_in_a3}
use Rattle.law_peers_room.specs.ServerRoom.Overtaking.{is_ack_for}
use Rattle.law_peers_forwarding.proofs.Phases.{Phase, Early, Asking, Wished, Late, Over, AreSo, HasRoom, IsHeld, IsPhase, IsShort, IsSo, Moved, Stands, dues_stand, legs_stand, rise_stand, set_so, so_kept, other_way}
use Rattle.law_peers_forwarding.proofs.Ready.{AreReady, IsReadyAt, IsShut, IsWide, open_has, under}
use Rattle.law_peers_forwarding.proofs.Spans.{ack_span, answer_span, answer_wish, is_for, is_wish, less_ack, less_span, span, there_gone}

-- ---- tests

fits_then : (m : Meter) (len : ℕ) → m.count + len ≤ m.length → fits m len ≡ true
fits_then m len h = grind (arith, nat_tests)

pub wide_so : (m : Meter) → may_put m 56 ≡ true → m.count + 312 ≤ m.length
wide_so m e = grind (arith, nat_tests)

long_answer : (packet : Named) → is_in_a3 packet ≡ true → 28 ≤ length_of packet
long_answer (named.InR1A3 to version window timeout) e = omega arith
long_answer (named.InR2A3 to) e = omega arith
long_answer packet e = absurd cc

abbrev pub answers : Message → ℕ
answers m = count_of is_in_a3 (m ∷ [])

abbrev pub is_wish_in : Message → Bool
is_wish_in (Text bytes) = false
is_wish_in (Pdu pdu) = false
is_wish_in (Packet packet) = is_out_r1_a1 packet

beside_none : (m : Message) → is_beside m ≡ true → answers m ≡ 0
beside_none (Text bytes) e = absurd cc
beside_none (Pdu pdu) e = refl
beside_none (Packet named.EndB1) e = refl
beside_none (Packet packet) e = absurd cc

answers_one : (packet : Named) → is_in_a3 packet ≡ true → answers (Packet packet) ≡ 1
answers_one packet e = ap (λ (b : Bool). if b then suc 0 else 0) e

answers_none : (packet : Named) → is_in_a3 packet ≡ false → answers (Packet packet) ≡ 0
answers_none packet e = ap (λ (b : Bool). if b then suc 0 else 0) e

confirmed_steady : (x : Replacement) → is_confirmed x ≡ true → is_steady x ≡ true → ⊥
confirmed_steady replacement.Steady e f = absurd cc
confirmed_steady replacement.Asked e f = absurd cc
confirmed_steady (replacement.Answered successor) e f = absurd cc
confirmed_steady replacement.Confirmed e f = absurd cc

-- a message on leg n is one more there
pub record Rises (n from asked more : ℕ) (m : Message) (asks mores : ℕ) : Type 0 where
  pub asked_so : asked ≤ asks
  pub more_so : more ≤ mores
  pub wish : n ≡ from → is_wish_in m ≡ true → 1 ≤ asks
  pub behind : n ≡ from → 1 ≤ asked → more + answers m ≤ mores

module _ (channel : Cookie) (least from most n : ℕ) (s : Server) (put asked more : ℕ)
    (stands : Stands channel least from most (view s) put asked more)
    (base : Base channel least 0 (seen channel least 0 s)) (ready : AreReady (view s))
    (none_under : is_steady s.replacement ≡ true → under (view s) ≡ false) where
  -- it isn't what is put
  abbrev pub IsGone : Message → View → Type 0
  IsGone m y =
      (is_acked channel m ≡ true → ⊥) → (asks mores : ℕ)
      → Rises n from asked more m asks mores
      → IsSo channel least from most (put + answers m) asks mores y

  abbrev StandsAt : View → ℕ → ℕ → ℕ → Type 0
  StandsAt y puts asks mores = Stands channel least from most y puts asks mores

  abbrev acks : List Due → ℕ
  acks dues = span channel true false dues

  module _ (place : ℕ) (leg : OutLeg) (is : IsAt n s place leg)
      (running : is_open s.stage ≡ true) (writes : leg.number ≡ s.writing) where
    at_number : n ≡ s.writing
    at_number = sym is.number ∙ writes

    begun : is_begun s.stage ≡ true
    begun = open_begun s.stage running

    base_at : IsBase channel least 0 (seen channel least 0 s) leg
    base_at =
        subst (λ o. IfSome o (IsBase channel least 0 (seen channel least 0 s))) is.at
        (each_got (IsBase channel least 0 (seen channel least 0 s)) s.outs place base.legs)

    held : IsHeld (view s)
    held = (begun, (let most_now = base_at.number in omega (arith, most_now, writes)))

    -- of the legs with the number of the writing channel this one alone
    one_so : (new : OutLeg) (P Q : Meter → Type 0) → (P leg.meter → Q new.meter)
        → AreSo P s.writing s.outs → AreSo Q s.writing (slice_set s.outs place new)
    one_so new P Q so all =
        others_so (λ (one : OutLeg). one.number ≡ s.writing → P one.meter)
        (λ (one : OutLeg). one.number ≡ s.writing → Q one.meter) s.outs place leg new is.at
        base.sorted (λ other apart was e. absurd (apart (e ∙ sym writes)))
        (λ was e. so (was writes)) all

    this_so : (new : OutLeg) (Q : Meter → Type 0) → Q new.meter
        → AreSo Q s.writing (slice_set s.outs place new)
    this_so new Q so =
        others_so (IsBase channel least 0 (seen channel least 0 s))
        (λ (one : OutLeg). one.number ≡ s.writing → Q one.meter) s.outs place leg new is.at
        base.sorted (λ other apart was e. absurd (apart (e ∙ sym writes)))
        (λ was e. so) base.legs

    got_so : (P : Meter → Type 0) → AreSo P s.writing s.outs → P leg.meter
    got_so P all =
        subst (λ o. IfSome o (λ (one : OutLeg). one.number ≡ s.writing → P one.meter)) is.at
        (each_got (λ (one : OutLeg). one.number ≡ s.writing → P one.meter) s.outs place all)
        writes

    -- ---- what the gate lets go

    lets_acks : leg.meter.count + 312 ≤ leg.meter.length → (due : Due)
        → is_for channel due ≡ true → lets (gate s leg) due ≡ true
    lets_acks wide due for = by (lets (gate s leg) due) refl
      where
        by : (b : Bool) → lets (gate s leg) due ≡ b → b ≡ true
        by true e = refl
        by false e =
            let short = short_of channel s leg due for e writes in
            absurd (omega (arith, wide, short))

    lets_wishes : leg.meter.count + 28 ≤ leg.meter.length → (due : Due)
        → is_wish due ≡ true → lets (gate s leg) due ≡ true
    lets_wishes fit due wish = by due.packet wish
      where
        by : (packet : Named) → is_out_r1_a1 packet ≡ true
            → lets_packet (gate s leg) packet ≡ true
        by (named.OutR1A1 to) e =
            both_true (leg.number == s.writing) (fits leg.meter 28)
            (subst (λ (k : ℕ). (k == s.writing) ≡ true) (sym writes) (test_same s.writing))
            (fits_then leg.meter 28 fit)
        by packet e = absurd cc

    -- ---- one that waited goes

    module _ (due : Due) (first : IsFirst s leg due) (other : is_for channel due ≡ false) where
      gone : ahead.Gone channel (lets (gate s leg)) s.waiting.due (rest s leg) (Some due)
      gone =
          subst (ahead.Gone channel (lets (gate s leg)) s.waiting.due (rest s leg)) first.found
          (ahead.gone channel (lets (gate s leg)) s.waiting.due stands.there)

      left : (ahead.is_there channel (rest s leg) ≡ true)
          × (ahead.count channel (rest s leg) ≤ ahead.count channel s.waiting.due)
      left = by gone
        where
          by : ahead.Gone channel (lets (gate s leg)) s.waiting.due (rest s leg) (Some due)
              → (ahead.is_there channel (rest s leg) ≡ true)
              × (ahead.count channel (rest s leg) ≤ ahead.count channel s.waiting.due)
          by (inl is_it) = absurd (other_way (sym is_it ∙ other))
          by (inr (inl before)) =
              let one = before.one in (before.there, omega (arith, one))
          by (inr (inr both)) = (both.1.there, both.1.fewer)

      one_fewer : leg.meter.count + 312 ≤ leg.meter.length
          → suc (ahead.count channel (rest s leg)) ≡ ahead.count channel s.waiting.due
      one_fewer wide = by gone
        where
          by : ahead.Gone channel (lets (gate s leg)) s.waiting.due (rest s leg) (Some due)
              → suc (ahead.count channel (rest s leg)) ≡ ahead.count channel s.waiting.due
          by (inl is_it) = absurd (other_way (sym is_it ∙ other))
          by (inr (inl before)) = before.one
          by (inr (inr both)) =
              let refused = both.0 in
              absurd (other_way (sym (lets_acks wide refused.0 refused.1) ∙ refused.2))

      less : acks (rest s leg) ≤ acks s.waiting.due
      less = less_ack channel (lets (gate s leg)) due true s.waiting.due first.found other

      room_left : 56 * ahead.count channel (rest s leg) + 312 ≤ least
      room_left =
          let fewer = left.1 in
          let room = stands.room in omega (arith, fewer, room)

      abbrev with_legs : List OutLeg → View
      with_legs legs = record (view s) { legs = legs; dues = rest s leg }

      standing : (legs : List OutLeg) (puts asks mores : ℕ) (phase : Phase)
          → IsPhase channel least from most phase (with_legs legs) puts asks mores
          → StandsAt (with_legs legs) puts asks mores
      standing legs puts asks mores phase h = record {
        there = left.0;
        room = room_left;
        phase = phase;
        holds = h;
      }

      -- ---- it asks the meter

      module _ (may : IsLet (gate s leg) due.packet) (asks mores : ℕ)
          (rise : Rises n from asked more (Packet due.packet) asks mores) where
        abbrev new : OutLeg
        new = counted leg (length_of due.packet)

        abbrev news : List OutLeg
        news = slice_set s.outs place (counted leg (length_of due.packet))

        short_now : leg.meter.length ≤ leg.meter.count + 311
            → IsShort (after_put leg.meter (length_of due.packet))
        short_now short = omega (arith, short)

        room_now : HasRoom (ahead.count channel s.waiting.due) leg.meter
            → HasRoom (ahead.count channel (rest s leg))
            (after_put leg.meter (length_of due.packet))
        room_now room =
            let one = one_fewer (omega (arith, room)) in
            let small = may.small in omega (arith, room, one, small)

        over : (puts : ℕ) → IsHeld (view s) × (nat_lt s.writing last_number ≡ false)
            × AreSo IsShort s.writing s.outs → StandsAt (with_legs news) puts asks mores
        over puts h =
            standing news puts asks mores Over
            (h.0, h.1, one_so new IsShort IsShort short_now h.2)

        -- an answer
        answer_goes : is_in_a3 due.packet ≡ true
            → StandsAt (with_legs news) (put + answers (Packet due.packet)) asks mores
        answer_goes is_one = by stands.phase stands.holds
          where
            ones : answers (Packet due.packet) ≡ 1
            ones = answers_one due.packet is_one

            in_it : leg.meter.count + length_of due.packet ≤ leg.meter.length
            in_it = may.in_it

            long : 28 ≤ length_of due.packet
            long = long_answer due.packet is_one

            exact : leg.meter.count + 312 ≤ leg.meter.length
                → suc (acks (rest s leg)) ≡ acks s.waiting.due
            exact wide =
                answer_span channel (lets (gate s leg)) due true false s.waiting.due first.found
                is_one (inl (refl, lets_acks wide))

            no_room : is_steady s.replacement ≡ true → may_put leg.meter 56 ≡ false
                → (b : Bool) → nat_lt s.writing last_number ≡ b
                → StandsAt (with_legs news) (put + answers (Packet due.packet)) asks mores
            no_room steady refused true below =
                at_leg (subst (λ o. IfSome o (IsReadyAt (view s))) is.at
                (each_got (IsReadyAt (view s)) s.outs place ready))
              where
                short : leg.meter.length ≤ leg.meter.count + 311
                short = short_so leg.meter refused

                none : IsShut leg.meter ⊎ IsWide leg.meter → ⊥
                none (inl shut) = absurd (omega (arith, shut, in_it, long))
                none (inr wide) = absurd (omega (arith, wide, short))

                at_leg : IsReadyAt (view s) leg
                    → StandsAt (with_legs news) (put + answers (Packet due.packet)) asks mores
                at_leg ready_leg =
                    absurd (none (ready_leg.1 (open_has s.stage running) (none_under steady) below
                    writes))
            no_room steady refused false below =
                standing news (put + answers (Packet due.packet)) asks mores Over (
                  held,
                  below,
                  this_so new IsShort (short_now (short_so leg.meter refused)),
                )

            early : (b : Bool) → may_put leg.meter 56 ≡ b
                → IsPhase channel least from most Early (view s) put asked more
                → StandsAt (with_legs news) (put + answers (Packet due.packet)) asks mores
            early true wide h =
                let sum = h.2 in
                let same = exact (wide_so leg.meter wide) in
                standing news (put + answers (Packet due.packet)) asks mores Early
                (h.0, h.1, omega (arith, sum, same, ones))
            early false refused h =
                no_room h.0 refused (nat_lt s.writing last_number) refl

            by : (phase : Phase) → IsPhase channel least from most phase (view s) put asked more
                → StandsAt (with_legs news) (put + answers (Packet due.packet)) asks mores
            by Early h = early (may_put leg.meter 56) refl h
            by Asking h =
                let sum = h.2 in
                let same = answer_span channel (lets (gate s leg)) due true true s.waiting.due
                first.found is_one
                (inr (refl, lets_wishes (omega (arith, in_it, long)))) in
                standing news (put + answers (Packet due.packet)) asks mores Asking (
                  there_gone is_wish (lets (gate s leg)) s.waiting.due due first.found
                      (answer_wish due.packet is_one) h.0,
                  h.1,
                  omega (arith, sum, same, ones),
                )
            by Wished h =
                let once = h.0 in
                let sum = h.2 in
                let up = rise.asked_so in
                let ups = rise.behind (at_number ∙ h.1) once in
                standing news (put + answers (Packet due.packet)) asks mores Wished
                (omega (arith, once, up), h.1, omega (arith, sum, less, ups))
            by Late h =
                let sum = h.1 in
                let up = rise.more_so in
                let room = got_so (HasRoom (ahead.count channel s.waiting.due)) h.2 in
                let same = exact (omega (arith, room)) in
                standing news (put + answers (Packet due.packet)) asks mores Late (
                  h.0,
                  omega (arith, sum, same, up, ones),
                  one_so new (HasRoom (ahead.count channel s.waiting.due))
                      (HasRoom (ahead.count channel (rest s leg))) room_now h.2,
                )
            by Over h = over (put + answers (Packet due.packet)) h

        -- another packet
        other_goes : is_in_a3 due.packet ≡ false
            → StandsAt (with_legs news) (put + answers (Packet due.packet)) asks mores
        other_goes is_none = by stands.phase stands.holds
          where
            zero_more : answers (Packet due.packet) ≡ 0
            zero_more = answers_none due.packet is_none

            asking : (b : Bool) → is_wish due ≡ b
                → IsPhase channel least from most Asking (view s) put asked more
                → StandsAt (with_legs news) (put + answers (Packet due.packet)) asks mores
            asking true wish h =
                let sum = h.2 in
                let most_acks = ack_span channel true true s.waiting.due in
                standing news (put + answers (Packet due.packet)) asks mores Wished (
                  rise.wish (at_number ∙ h.1) wish,
                  h.1,
                  omega (arith, sum, most_acks, less, zero_more),
                )
            asking false unlike h =
                let sum = h.2 in
                let fewer = less_span channel (lets (gate s leg)) due true true s.waiting.due
                first.found other unlike in
                standing news (put + answers (Packet due.packet)) asks mores Asking (
                  there_gone is_wish (lets (gate s leg)) s.waiting.due due first.found unlike h.0,
                  h.1,
                  omega (arith, sum, fewer, zero_more),
                )

            by : (phase : Phase) → IsPhase channel least from most phase (view s) put asked more
                → StandsAt (with_legs news) (put + answers (Packet due.packet)) asks mores
            by Early h =
                let sum = h.2 in
                standing news (put + answers (Packet due.packet)) asks mores Early
                (h.0, h.1, omega (arith, sum, less, zero_more))
            by Asking h = asking (is_wish due) refl h
            by Wished h =
                let once = h.0 in
                let sum = h.2 in
                let up = rise.asked_so in
                let ups = rise.more_so in
                standing news (put + answers (Packet due.packet)) asks mores Wished
                (omega (arith, once, up), h.1, omega (arith, sum, less, ups, zero_more))
            by Late h =
                let sum = h.1 in
                let up = rise.more_so in
                standing news (put + answers (Packet due.packet)) asks mores Late (
                  h.0,
                  omega (arith, sum, less, up, zero_more),
                  one_so new (HasRoom (ahead.count channel s.waiting.due))
                      (HasRoom (ahead.count channel (rest s leg))) room_now h.2,
                )
            by Over h = over (put + answers (Packet due.packet)) h

        counted_goes : (b : Bool) → is_in_a3 due.packet ≡ b
            → StandsAt (with_legs news) (put + answers (Packet due.packet)) asks mores
        counted_goes true e = answer_goes e
        counted_goes false e = other_goes e

      -- ---- OUT_R1/A9

      module _ (asks mores : ℕ) (mores_so : more ≤ mores)
          (confirmed : is_confirmed s.replacement ≡ true)
          (below : nat_lt s.writing last_number ≡ true) where
        abbrev next : View
        next = record (view s) {
          how = replacement.Steady;
          writing = s.writing + 1;
          legs = slice_set s.outs place (counted leg 24);
          dues = rest s leg;
        }

        answered : is_answered s.replacement ≡ true
        answered = confirmed_answered s.replacement confirmed

        rooms : AreSo (HasRoom (ahead.count channel (rest s leg))) (s.writing + 1)
            (slice_set s.outs place (counted leg 24))
        rooms =
            others_so (IsBase channel least 0 (seen channel least 0 s))
            (λ (one : OutLeg). one.number ≡ s.writing + 1
            → HasRoom (ahead.count channel (rest s leg)) one.meter) s.outs place leg
            (counted leg 24) is.at base.sorted
            (λ one apart was e. let both = was.next answered e in
            let none = both.0 in
            let long = both.1 in omega (arith, none, long, room_left))
            (λ was e. absurd (omega (arith, e, writes))) base.legs

        late : put + acks s.waiting.due ≤ most + 1 + more → StandsAt next (put + 0) asks mores
        late sum = record {
          there = left.0;
          room = room_left;
          phase = Late;
          holds = (
            (begun, (base.answered answered).1),
            omega (arith, sum, less, mores_so),
            rooms,
          );
        }

        hands_goes : StandsAt next (put + 0) asks mores
        hands_goes = by stands.phase stands.holds
          where
            by : (phase : Phase) → IsPhase channel least from most phase (view s) put asked more
                → StandsAt next (put + 0) asks mores
            by Early h = absurd (confirmed_steady s.replacement confirmed h.0)
            by Asking h =
                let sum = h.2 in
                let most_acks = ack_span channel true true s.waiting.due in
                late (omega (arith, sum, most_acks))
            by Wished h = let sum = h.2 in late (omega (arith, sum))
            by Late h = let sum = h.1 in late (omega (arith, sum))
            by Over h = absurd (other_way (sym below ∙ h.1))

    -- ---- what doesn't wait

    module _ (new : OutLeg) (len : ℕ) (number : new.number ≡ leg.number)
        (meter : new.meter ≡ after_put leg.meter len)
        (none : find (lets (gate s leg)) s.waiting.due ≡ None) (puts asks mores : ℕ)
        (puts_so : puts ≤ put) (asks_so : asked ≤ asks) (mores_so : more ≤ mores) where
      abbrev aside : View
      aside = record (view s) { legs = slice_set s.outs place new }

      refuses : ahead.Refuses channel (lets (gate s leg))
      refuses =
          subst (ahead.Gone channel (lets (gate s leg)) s.waiting.due (rest s leg)) none
          (ahead.gone channel (lets (gate s leg)) s.waiting.due stands.there)

      short : leg.meter.length ≤ leg.meter.count + 311
      short = short_of channel s leg refuses.0 refuses.1 refuses.2 writes

      short_new : IsShort leg.meter → IsShort new.meter
      short_new h = subst IsShort (sym meter) (short_more leg.meter h)
        where
          short_more : (m : Meter) → IsShort m → IsShort (after_put m len)
          short_more m h = omega (arith, h)

      with_phase : (phase : Phase) → IsPhase channel least from most phase aside puts asks mores
          → StandsAt aside puts asks mores
      with_phase phase h = record {
        there = stands.there;
        room = stands.room;
        phase = phase;
        holds = h;
      }

      beside_goes : StandsAt aside puts asks mores
      beside_goes = by stands.phase stands.holds
        where
          by : (phase : Phase) → IsPhase channel least from most phase (view s) put asked more
              → StandsAt aside puts asks mores
          by Early h =
              let sum = h.2 in with_phase Early (h.0, h.1, omega (arith, sum, puts_so))
          by Asking h =
              let sum = h.2 in with_phase Asking (h.0, h.1, omega (arith, sum, puts_so))
          by Wished h =
              let once = h.0 in
              let sum = h.2 in
              with_phase Wished
              (omega (arith, once, asks_so), h.1, omega (arith, sum, puts_so, mores_so))
          by Late h =
              let room = got_so (HasRoom (ahead.count channel s.waiting.due)) h.2 in
              absurd (omega (arith, room, short))
          by Over h = with_phase Over (h.0, h.1, one_so new IsShort IsShort short_new h.2)

  -- ---- one that asks no meter

  alone_goes : (place : ℕ) (leg : OutLeg) (due : Due) → IsFirst s leg due
      → is_for channel due ≡ false → is_wish due ≡ false → (puts asks mores : ℕ)
      → puts ≤ put → asked ≤ asks → more ≤ mores
      → StandsAt (record (view s) { dues = rest s leg }) puts asks mores
  alone_goes place leg due first other unlike puts asks mores a b c =
      dues_stand channel least from most (view s) (rest s leg) puts asks mores moved
      (rise_stand channel least from most (view s) put asked more puts asks mores a b c stands)
    where
      gone : ahead.Gone channel (lets (gate s leg)) s.waiting.due (rest s leg) (Some due)
      gone =
          subst (ahead.Gone channel (lets (gate s leg)) s.waiting.due (rest s leg)) first.found
          (ahead.gone channel (lets (gate s leg)) s.waiting.due stands.there)

      by : ahead.Gone channel (lets (gate s leg)) s.waiting.due (rest s leg) (Some due)
          → (ahead.is_there channel (rest s leg) ≡ true)
          × (ahead.count channel (rest s leg) ≤ ahead.count channel s.waiting.due)
      by (inl is_it) = absurd (other_way (sym is_it ∙ other))
      by (inr (inl before)) = let one = before.one in (before.there, omega (arith, one))
      by (inr (inr both)) = (both.1.there, both.1.fewer)

      moved : Moved channel least from most s.waiting.due (rest s leg)
      moved = record {
        there = (by gone).0;
        fewer = (by gone).1;
        wish = there_gone is_wish (lets (gate s leg)) s.waiting.due due first.found unlike;
        acks = less_ack channel (lets (gate s leg)) due true s.waiting.due first.found other;
        both = λ wish. less_span channel (lets (gate s leg)) due true true s.waiting.due
            first.found other unlike;
      }

  -- ---- all steps

  pub phase_put : ArePut n s IsGone IsGone
  phase_put = record {
    greets = λ place leg new is number meter cookie apart asks mores rise one.
        legs_stand channel least from most (view s) (slice_set s.outs place new) (put + 0) asks
        mores (set_so channel least from most (view s) place leg new is.at number meter)
        (rise_stand channel least from most (view s) put asked more (put + 0) asks mores
        (omega arith) rise.asked_so rise.more_so stands);
    alone = λ place leg is due first received window cookie same apart asks mores rise one.
        let none = answers_none due.packet (ap is_in_a3 same) in
        alone_goes place leg due first
        (not_true (is_ack_for channel due.packet) apart) (ap is_out_r1_a1 same)
        (put + answers (Packet due.packet)) asks mores (omega (arith, none)) rise.asked_so
        rise.more_so;
    counts_it = λ place leg is due first may not_last apart asks mores rise one.
        counted_goes place leg is first.running
        (same_number leg.number s.writing may.writing) due first
        (not_true (is_ack_for channel due.packet) apart) may asks mores rise
        (is_in_a3 due.packet) refl;
    hands = λ place leg is due first may same confirmed below apart asks mores rise one.
        hands_goes place leg is first.running
        (same_number leg.number s.writing may.writing) due first
        (ap (is_ack_for channel) same) asks mores rise.more_so confirmed below;
    beside = λ place leg new len m is running none writes number meter cookie in_it besides apart
        asks mores rise one.
        let zero_more = beside_none m besides in
        beside_goes place leg is running writes new len number meter none (put + answers m) asks
        mores (omega (arith, zero_more)) rise.asked_so rise.more_so;
    settles = λ m t running gone apart asks mores rise.
        settled_serves least (IsSo channel least from most (put + answers m) asks mores)
        (so_kept channel least from most (put + answers m) asks mores) t
        (gone apart asks mores rise);
  }
