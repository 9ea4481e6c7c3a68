-- how far an acknowledgement to the client has come that waits at a server: whether its meter
-- refused it, and where OUT_R1/A1 is then
use Rattle.law_order.proofs.Vocabulary.{◌≡◌, ℕ, ◌+◌, ◌*◌, ◌≤◌, Bool, true, false, nat_lt, if◌then◌else◌, List, [], ◌∷◌, ◌++◌, Some, refl, sym, ap, ◌∙◌, subst, arith, IfSome, slice_get, slice_set, remove, AllByRecursion, Option}
use Rattle.rh_sig.specs.declared.named.Named.TheVariants as named
use Rattle.rh_server.specs.declared.state.Replacement.TheVariants as replacement
use Rattle.rh_server.specs.declared.state.Stage.TheVariants as stage
use Rattle.law_moves.proofs.Vocabulary.{Meter, Cookie, Named, Due, Key, are_one, key_of, merged, own, to_forward, without_first}
use Rattle.law_moves.proofs.Lemmas.{all_append}
use Rattle.law_role_server.proofs.Vocabulary.{OutLeg, Replacement, Stage, is_ack_of, last_number, is_steady, waiting_of}
use Rattle.law_role_server.proofs.Counted.Dues.{push_waits}
use Rattle.law_role_server.proofs.Each.{each_got, each_removed, each_set}
use Rattle.law_peers_room.proofs.ServerRoom.Meters.{is_begun}
use Rattle.law_peers_room.proofs.ServerRoom.Views.{AreKept, View}
use Rattle.law_peers_room.proofs.InRoom.Turns.{one_is as same_keys}
use Rattle.law_peers_room.proofs.ServerRoom.Ahead as ahead
use Rattle.law_peers_room.specs.OutRoom.Waits.{is_in_a3}
use Rattle.law_peers_forwarding.proofs.Spans.{is_answer, is_for, is_there, is_wish, keyed_answer, keyed_wish, merged_all, merged_span, plain_all, plain_span, pushed_span, span, span_all, there_last, there_pushed, wish_merged}

-- the meter didn't refuse it; OUT_R1/A1 waits, or was put on the channel that wrote at first; the
-- next channel has room for it; or there is no next one
pub data Phase : Type 0 where
  Early : Phase
  Asking : Phase
  Wished : Phase
  Late : Phase
  Over : Phase

-- the meters of the legs with this number are so
abbrev pub AreSo : (Meter → Type 0) → ℕ → List OutLeg → Type 0
AreSo P writing legs =
    AllByRecursion (λ (leg : OutLeg). leg.number ≡ writing → P leg.meter) legs

abbrev pub HasRoom : ℕ → Meter → Type 0
HasRoom count m = m.count + 56 * count + 312 ≤ m.length

abbrev pub IsShort : Meter → Type 0
IsShort m = m.length ≤ m.count + 311

abbrev pub IsHeld : View → Type 0
IsHeld x = (is_begun x.at ≡ true) × (x.writing ≤ x.newest)

-- ---- tests
pub other_way : true ≡ false → ⊥
other_way e = absurd cc

module _ (channel : Cookie) (least from most : ℕ) where
  -- so many answers were put, OUT_R1/A1 so often on the channel that wrote at first, and so many
  -- answers behind it there
  abbrev pub IsPhase : Phase → View → ℕ → ℕ → ℕ → Type 0
  IsPhase Early x put asked more =
      (is_steady x.how ≡ true) × (x.writing ≡ from)
      × (put + span channel true false x.dues ≤ most)
  IsPhase Asking x put asked more =
      (is_there is_wish x.dues ≡ true) × (x.writing ≡ from)
      × (put + span channel true true x.dues ≤ most + 1)
  IsPhase Wished x put asked more =
      (1 ≤ asked) × (x.writing ≡ from)
      × (put + span channel true false x.dues ≤ most + 1 + more)
  IsPhase Late x put asked more =
      IsHeld x × (put + span channel true false x.dues ≤ most + 1 + more)
      × AreSo (HasRoom (ahead.count channel x.dues)) x.writing x.legs
  IsPhase Over x put asked more =
      IsHeld x × (nat_lt x.writing last_number ≡ false) × AreSo IsShort x.writing x.legs

  pub record Stands (x : View) (put asked more : ℕ) : Type 0 where
    pub there : ahead.is_there channel x.dues ≡ true
    pub room : 56 * ahead.count channel x.dues + 312 ≤ least
    pub phase : Phase
    pub holds : IsPhase phase x put asked more

  -- ---- other packets wait

  pub record Moved (dues others : List Due) : Type 0 where
    pub there : ahead.is_there channel others ≡ true
    pub fewer : ahead.count channel others ≤ ahead.count channel dues
    pub wish : is_there is_wish dues ≡ true → is_there is_wish others ≡ true
    pub acks : span channel true false others ≤ span channel true false dues
    pub both : is_there is_wish dues ≡ true
        → span channel true true others ≤ span channel true true dues

  pub fewer_so : (count fewer writing : ℕ) → fewer ≤ count → (legs : List OutLeg)
      → AreSo (HasRoom count) writing legs → AreSo (HasRoom fewer) writing legs
  fewer_so count fewer writing le [] h = tt
  fewer_so count fewer writing le (leg ∷ legs) h = (
    λ e. let room = h.0 e in omega (arith, room, le),
    fewer_so count fewer writing le legs h.1,
  )

  dues_hold : (x : View) (others : List Due) (put asked more : ℕ) → Moved x.dues others
      → (phase : Phase) → IsPhase phase x put asked more
      → IsPhase phase (record x { dues = others }) put asked more
  dues_hold x others put asked more m Early h =
      let less = m.acks in
      let sum = h.2 in
      (h.0, h.1, omega (arith, less, sum))
  dues_hold x others put asked more m Asking h =
      let less = m.both h.0 in
      let sum = h.2 in
      (m.wish h.0, h.1, omega (arith, less, sum))
  dues_hold x others put asked more m Wished h =
      let less = m.acks in
      let sum = h.2 in
      (h.0, h.1, omega (arith, less, sum))
  dues_hold x others put asked more m Late h =
      let less = m.acks in
      let sum = h.1 in (
        h.0,
        omega (arith, less, sum),
        fewer_so (ahead.count channel x.dues) (ahead.count channel others) x.writing m.fewer
            x.legs h.2,
      )
  dues_hold x others put asked more m Over h = h

  dues_room : (x : View) (others : List Due) → Moved x.dues others
      → 56 * ahead.count channel x.dues + 312 ≤ least
      → 56 * ahead.count channel others + 312 ≤ least
  dues_room x others m room = let fewer = m.fewer in omega (arith, fewer, room)

  pub dues_stand : (x : View) (others : List Due) (put asked more : ℕ) → Moved x.dues others
      → Stands x put asked more → Stands (record x { dues = others }) put asked more
  dues_stand x others put asked more m s = record {
    there = m.there;
    room = dues_room x others m s.room;
    phase = s.phase;
    holds = dues_hold x others put asked more m s.phase s.holds;
  }

  -- more were put, on the same legs
  rise_hold : (x : View) (put asked more puts asks mores : ℕ) → puts ≤ put → asked ≤ asks
      → more ≤ mores → (phase : Phase) → IsPhase phase x put asked more
      → IsPhase phase x puts asks mores
  rise_hold x put asked more puts asks mores a b c Early h =
      let sum = h.2 in (h.0, h.1, omega (arith, a, sum))
  rise_hold x put asked more puts asks mores a b c Asking h =
      let sum = h.2 in (h.0, h.1, omega (arith, a, sum))
  rise_hold x put asked more puts asks mores a b c Wished h =
      let once = h.0 in
      let sum = h.2 in
      (omega (arith, once, b), h.1, omega (arith, a, c, sum))
  rise_hold x put asked more puts asks mores a b c Late h =
      let sum = h.1 in (h.0, omega (arith, a, c, sum), h.2)
  rise_hold x put asked more puts asks mores a b c Over h = h

  pub rise_stand : (x : View) (put asked more puts asks mores : ℕ) → puts ≤ put
      → asked ≤ asks → more ≤ mores → Stands x put asked more → Stands x puts asks mores
  rise_stand x put asked more puts asks mores a b c s = record {
    there = s.there;
    room = s.room;
    phase = s.phase;
    holds = rise_hold x put asked more puts asks mores a b c s.phase s.holds;
  }

  -- ---- how the replacement is, and the legs

  how_hold : (x : View) (how : Replacement) (put asked more : ℕ) → is_steady x.how ≡ false
      → (phase : Phase) → IsPhase phase x put asked more
      → IsPhase phase (record x { how = how }) put asked more
  how_hold x how put asked more e Early h = absurd (other_way (sym h.0 ∙ e))
  how_hold x how put asked more e Asking h = h
  how_hold x how put asked more e Wished h = h
  how_hold x how put asked more e Late h = h
  how_hold x how put asked more e Over h = h

  how_stand : (x : View) (how : Replacement) (put asked more : ℕ) → is_steady x.how ≡ false
      → Stands x put asked more → Stands (record x { how = how }) put asked more
  how_stand x how put asked more e s = record {
    there = s.there;
    room = s.room;
    phase = s.phase;
    holds = how_hold x how put asked more e s.phase s.holds;
  }

  legs_hold : (x : View) (legs : List OutLeg) (put asked more : ℕ)
      → ((P : Meter → Type 0) → AreSo P x.writing x.legs → AreSo P x.writing legs)
      → (phase : Phase) → IsPhase phase x put asked more
      → IsPhase phase (record x { legs = legs }) put asked more
  legs_hold x legs put asked more so Early h = h
  legs_hold x legs put asked more so Asking h = h
  legs_hold x legs put asked more so Wished h = h
  legs_hold x legs put asked more so Late h =
      (h.0, h.1, so (HasRoom (ahead.count channel x.dues)) h.2)
  legs_hold x legs put asked more so Over h = (h.0, h.1, so IsShort h.2)

  pub legs_stand : (x : View) (legs : List OutLeg) (put asked more : ℕ)
      → ((P : Meter → Type 0) → AreSo P x.writing x.legs → AreSo P x.writing legs)
      → Stands x put asked more → Stands (record x { legs = legs }) put asked more
  legs_stand x legs put asked more so s = record {
    there = s.there;
    room = s.room;
    phase = s.phase;
    holds = legs_hold x legs put asked more so s.phase s.holds;
  }

  pub set_so : (x : View) (place : ℕ) (leg new : OutLeg) → slice_get x.legs place ≡ Some leg
      → new.number ≡ leg.number → new.meter ≡ leg.meter → (P : Meter → Type 0)
      → AreSo P x.writing x.legs → AreSo P x.writing (slice_set x.legs place new)
  set_so x place leg new at number meter P h =
      each_set (λ (one : OutLeg). one.number ≡ x.writing → P one.meter) x.legs place new
      (λ e. subst P (sym meter) (subst (λ o. IfSome o
      (λ (one : OutLeg). one.number ≡ x.writing → P one.meter)) at
      (each_got (λ (one : OutLeg). one.number ≡ x.writing → P one.meter) x.legs place h)
      (sym number ∙ e))) h

  -- before the server is open
  early_hold : (x : View) (now : Stage) (legs : List OutLeg) (put asked more : ℕ)
      → is_begun x.at ≡ false → (phase : Phase) → IsPhase phase x put asked more
      → IsPhase phase (record x { at = now; legs = legs }) put asked more
  early_hold x now legs put asked more e Early h = h
  early_hold x now legs put asked more e Asking h = h
  early_hold x now legs put asked more e Wished h = h
  early_hold x now legs put asked more e Late h = absurd (other_way (sym (h.0).0 ∙ e))
  early_hold x now legs put asked more e Over h = absurd (other_way (sym (h.0).0 ∙ e))

  early_stand : (x : View) (now : Stage) (legs : List OutLeg) (put asked more : ℕ)
      → is_begun x.at ≡ false → Stands x put asked more
      → Stands (record x { at = now; legs = legs }) put asked more
  early_stand x now legs put asked more e s = record {
    there = s.there;
    room = s.room;
    phase = s.phase;
    holds = early_hold x now legs put asked more e s.phase s.holds;
  }

  ended_hold : (x : View) (put asked more : ℕ) (phase : Phase)
      → IsPhase phase x put asked more
      → IsPhase phase (record x { at = stage.Ended }) put asked more
  ended_hold x put asked more Early h = h
  ended_hold x put asked more Asking h = h
  ended_hold x put asked more Wished h = h
  ended_hold x put asked more Late h = ((refl, (h.0).1), h.1, h.2)
  ended_hold x put asked more Over h = ((refl, (h.0).1), h.1, h.2)

  new_so : (x : View) (new : OutLeg) → new.number ≡ x.newest + 1 → x.writing ≤ x.newest
      → (P : Meter → Type 0) → AreSo P x.writing x.legs
      → AreSo P x.writing (x.legs ++ new ∷ [])
  new_so x new number le P h =
      all_append (λ (one : OutLeg). one.number ≡ x.writing → P one.meter) x.legs (new ∷ []) h
      (λ e. absurd (omega (arith, number, le, e)), tt)

  new_hold : (x : View) (new : OutLeg) (put asked more : ℕ) → new.number ≡ x.newest + 1
      → (phase : Phase) → IsPhase phase x put asked more
      → IsPhase phase (record x { newest = new.number; legs = x.legs ++ new ∷ [] }) put asked
      more
  new_hold x new put asked more number Early h = h
  new_hold x new put asked more number Asking h = h
  new_hold x new put asked more number Wished h = h
  new_hold x new put asked more number Late h =
      let le = (h.0).1 in (
        ((h.0).0, omega (arith, le, number)),
        h.1,
        new_so x new number le (HasRoom (ahead.count channel x.dues)) h.2,
      )
  new_hold x new put asked more number Over h =
      let le = (h.0).1 in
      (((h.0).0, omega (arith, le, number)), h.1, new_so x new number le IsShort h.2)

  -- ---- what becomes due

  pub pushed_moves : (dues : List Due) (due : Due) → ahead.is_there channel dues ≡ true
      → Moved dues (dues ++ due ∷ [])
  pushed_moves dues due there =
      let stays = ahead.pushed_stays channel dues due there in
      let same = pushed_span channel true false dues due (λ e. there) (λ e. absurd cc) in
      record {
        there = stays.there;
        fewer = stays.fewer;
        wish = there_pushed is_wish dues due;
        acks = omega (arith, same);
        both = λ wish.
            let all = pushed_span channel true true dues due (λ e. there) (λ e. wish) in
            omega (arith, all);
      }

  merged_moves : (dues : List Due) (packet : Named) (key : Key) → key_of packet ≡ Some key
      → ahead.is_there channel dues ≡ true → Moved dues (merged dues packet)
  merged_moves dues packet key is there =
      let stays = ahead.merged_stays channel dues packet key is there in
      let same = merged_span channel true false dues packet key is in
      record {
        there = stays.there;
        fewer = stays.fewer;
        wish = wish_merged dues packet key is;
        acks = omega (arith, same);
        both = λ wish. let all = merged_span channel true true dues packet key is in
            omega (arith, all);
      }

  -- an acknowledgement to an out proxy is none to the client
  ack_plain : (cookie : Cookie) (due : Due) → is_ack_of cookie due ≡ true
      → (is_for channel due ≡ false) × (is_wish due ≡ false) × (is_answer due ≡ false)
  ack_plain cookie due e =
      let same = same_keys (key_of due.packet)
      (Some (record { destination = 3; channel = cookie })) e in (
        ap (λ (k : Option Key). are_one k (Some (record { destination = 0; channel = channel })))
            same,
        keyed_wish due.packet (record { destination = 3; channel = cookie }) same,
        keyed_answer due.packet (record { destination = 3; channel = cookie }) same,
      )

  dropped_moves : (cookie : Cookie) (dues : List Due) → ahead.is_there channel dues ≡ true
      → Moved dues (without_first (is_ack_of cookie) dues)
  dropped_moves cookie dues there =
      let stays = ahead.dropped_stays channel (is_ack_of cookie) plain dues there in
      let same = plain_span channel (is_ack_of cookie) (ack_plain cookie) true false dues in
      record {
        there = stays.there;
        fewer = stays.fewer;
        wish = wish_stays dues;
        acks = omega (arith, same);
        both = λ wish.
            let all = plain_span channel (is_ack_of cookie) (ack_plain cookie) true true dues in
            omega (arith, all);
      }
    where
      plain : (due : Due) → is_ack_of cookie due ≡ true
          → (is_for channel due ≡ false) × (ahead.bytes_of due.packet ≡ 0)
      plain due e = (
        (ack_plain cookie due e).0,
        ahead.keyed_bytes due.packet (record { destination = 3; channel = cookie })
            (same_keys (key_of due.packet)
            (Some (record { destination = 3; channel = cookie })) e),
      )

      wish_stays : (others : List Due) → is_there is_wish others ≡ true
          → is_there is_wish (without_first (is_ack_of cookie) others) ≡ true
      wish_stays [] h = absurd cc
      wish_stays (first ∷ others) h =
          by (is_ack_of cookie first) refl (is_wish first) refl h (wish_stays others)
        where
          by : (b : Bool) → is_ack_of cookie first ≡ b → (w : Bool) → is_wish first ≡ w
              → (if w then true else is_there is_wish others) ≡ true
              → (is_there is_wish others ≡ true
              → is_there is_wish (without_first (is_ack_of cookie) others) ≡ true)
              → is_there is_wish
              (if b then others else first ∷ without_first (is_ack_of cookie) others) ≡ true
          by true e true f h rest =
              absurd (other_way (sym f ∙ (ack_plain cookie first e).1))
          by true e false f h rest = h
          by false e true f h rest = ap (λ (w : Bool).
              if w then true
              else is_there is_wish (without_first (is_ack_of cookie) others)) f
          by false e false f h rest = ap (λ (w : Bool).
              if w then true
              else is_there is_wish (without_first (is_ack_of cookie) others)) f ∙ rest h

  -- ---- a replacement is asked for

  asks_stand : (x : View) (put asked more : ℕ) → is_steady x.how ≡ true
      → waiting_of is_in_a3 (x.dues ++ own (named.OutR1A1 0) ∷ []) ≤ 1
      → Stands x put asked more
      → Stands (record x {
        how = replacement.Asked;
        dues = x.dues ++ own (named.OutR1A1 0) ∷ [];
      }) put asked more
  asks_stand x put asked more steady one s = by s.phase s.holds
    where
      moved : Moved x.dues (x.dues ++ own (named.OutR1A1 0) ∷ [])
      moved = pushed_moves x.dues (own (named.OutR1A1 0)) s.there

      y : View
      y = record x { how = replacement.Asked; dues = x.dues ++ own (named.OutR1A1 0) ∷ [] }

      with_phase : (phase : Phase) → IsPhase phase y put asked more → Stands y put asked more
      with_phase phase h = record {
        there = moved.there;
        room = dues_room x (x.dues ++ own (named.OutR1A1 0) ∷ []) moved s.room;
        phase = phase;
        holds = h;
      }

      by : (phase : Phase) → IsPhase phase x put asked more → Stands y put asked more
      by Early h =
          let all = span_all channel true true (x.dues ++ own (named.OutR1A1 0) ∷ []) in
          let sum = h.2 in
          with_phase Asking (
            there_last is_wish x.dues (own (named.OutR1A1 0)) refl,
            h.1,
            omega (arith, all, one, sum),
          )
      by Asking h =
          with_phase Asking (dues_hold x (x.dues ++ own (named.OutR1A1 0) ∷ []) put asked more
          moved Asking h)
      by Wished h =
          with_phase Wished (dues_hold x (x.dues ++ own (named.OutR1A1 0) ∷ []) put asked more
          moved Wished h)
      by Late h =
          with_phase Late (dues_hold x (x.dues ++ own (named.OutR1A1 0) ∷ []) put asked more
          moved Late h)
      by Over h = with_phase Over h

  -- ---- where one answer at most is due behind a step

  abbrev pub IsSo : ℕ → ℕ → ℕ → View → Type 0
  IsSo put asked more x = waiting_of is_in_a3 x.dues ≤ 1 → Stands x put asked more

  less_pushed : (dues : List Due) (due : Due)
      → waiting_of is_in_a3 (dues ++ due ∷ []) ≤ 1 → waiting_of is_in_a3 dues ≤ 1
  less_pushed dues due one =
      let more = push_waits is_in_a3 dues due in omega (arith, one, more)

  pushed_so : (put asked more : ℕ) (x : View) (due : Due) → IsSo put asked more x
      → IsSo put asked more (record x { dues = x.dues ++ due ∷ [] })
  pushed_so put asked more x due h one =
      let s = h (less_pushed x.dues due one) in
      dues_stand x (x.dues ++ due ∷ []) put asked more (pushed_moves x.dues due s.there) s

  dropped_so : (put asked more : ℕ) (x : View) (cookie : Cookie) → IsSo put asked more x
      → IsSo put asked more (record x { dues = without_first (is_ack_of cookie) x.dues })
  dropped_so put asked more x cookie h one =
      let same = plain_all (is_ack_of cookie) (λ due e. (ack_plain cookie due e).2) x.dues in
      let s = h (omega (arith, one, same)) in
      dues_stand x (without_first (is_ack_of cookie) x.dues) put asked more
      (dropped_moves cookie x.dues s.there) s

  gone_so : (put asked more : ℕ) (x : View) (place : ℕ) → IsSo put asked more x
      → IsSo put asked more (record x { legs = remove x.legs place })
  gone_so put asked more x place h one =
      legs_stand x (remove x.legs place) put asked more
      (λ P all. each_removed (λ (other : OutLeg). other.number ≡ x.writing → P other.meter)
      x.legs place all) (h one)

  pub so_kept : (put asked more : ℕ) → AreKept least (IsSo put asked more)
  so_kept put asked more = record {
    adds = λ x packet other none h. pushed_so put asked more x (own packet) h;
    forwards = λ x packet other ack owned none h. pushed_so put asked more x (to_forward packet) h;
    merges = λ x packet key ack is h one.
        let same = merged_all x.dues packet key is in
        let s = h (omega (arith, one, same)) in
        dues_stand x (merged x.dues packet) put asked more
        (merged_moves x.dues packet key is s.there) s;
    asks = λ x steady h one.
        asks_stand x put asked more steady one
        (h (less_pushed x.dues (own (named.OutR1A1 0)) one));
    answered = λ x successor timeout place leg new running at next number none long how not_yet h
        one.
        let due = own (named.OutR1A5 0 1 timeout) in
        let s = h (less_pushed x.dues due one) in
        let moved = dues_stand x (x.dues ++ due ∷ []) put asked more
        (pushed_moves x.dues due s.there) s in
        legs_stand (record x {
          how = replacement.Answered successor;
          dues = x.dues ++ own (named.OutR1A5 0 1 timeout) ∷ [];
        }) (slice_set x.legs place new) put asked more
        (λ P all. each_set (λ (other : OutLeg). other.number ≡ x.writing → P other.meter)
        x.legs place new (λ e. absurd (omega (arith, number, next, e))) all)
        (how_stand (record x { dues = x.dues ++ own (named.OutR1A5 0 1 timeout) ∷ [] })
        (replacement.Answered successor) put asked more how moved);
    confirms = λ x was how h one.
        let s = h (less_pushed x.dues (own named.OutR1A9) one) in
        how_stand (record x { dues = x.dues ++ own named.OutR1A9 ∷ [] }) replacement.Confirmed
        put asked more how
        (dues_stand x (x.dues ++ own named.OutR1A9 ∷ []) put asked more
        (pushed_moves x.dues (own named.OutR1A9) s.there) s);
    came_in = λ x now early has had h one.
        early_stand x now x.legs put asked more early (h one);
    came_out = λ x now early none had h one.
        early_stand x now x.legs put asked more early (h one);
    first_out = λ x now place leg new early none had at is_first number count long h one.
        early_stand x now (slice_set x.legs place new) put asked more early (h one);
    ended = λ x h one. let s = h one in record {
      there = s.there;
      room = s.room;
      phase = s.phase;
      holds = ended_hold x put asked more s.phase s.holds;
    };
    came_up = λ x new number meter bare h one. let s = h one in record {
      there = s.there;
      room = s.room;
      phase = s.phase;
      holds = new_hold x new put asked more number s.phase s.holds;
    };
    leg_set = λ x place leg new at number meter cookie h one.
        legs_stand x (slice_set x.legs place new) put asked more
        (set_so x place leg new at number meter) (h one);
    bare_gone = λ x place none h. gone_so put asked more x place h;
    leg_gone = λ x place leg cookie at is h.
        gone_so put asked more (record x { dues = without_first (is_ack_of cookie) x.dues }) place
        (dropped_so put asked more x cookie h);
  }
