-- a client receives within its windows, and acknowledges what came
use Rattle.law_order.proofs.Vocabulary.{◌≡◌, ◌⊎◌, ℕ, suc, ◌+◌, ◌≤◌, ◌<◌, ◌==◌, Bool, true, false, true≢false, not, ◌&&◌, ◌||◌, if◌then◌else◌, List, [], ◌∷◌, ◌++◌, length, Some, None, Ok, Err, inl, inr, arith, refl, rules, sym, ap, ◌∙◌, subst, and_parts, AllByRecursion, Option, Result}
use Rattle.rh_sig.specs.declared.named.Named.TheVariants as named
use Rattle.rh_line.specs.Lines as lines
use Rattle.law_moves.proofs.Vocabulary.{IsWindow, ack_verdict, BadAck, by_test, same_number, Cookie, Named, ClientConfig, Leg, LegKind, ClientOut, OutServer, ClientIn, InServer, LineFault, Window, Over, Which, Current, Next, Count, Message, Packet, same_leg, OnLeg, Up, EndMove, Moves, Passage, EndPassage, end_moved, MayEndMove, AreAllowedAtEnd, of_leg, pdu_bytes, Has, HasComeUp, WasUp, IsUpFirst, AreUpFirst}
use Rattle.law_moves.proofs.Lemmas.{ActsKeep}
use Rattle.law_role_client.proofs.Vocabulary.{InChannel, ClientRole, is_named, is_up, is_out, Done, co, unexpected, is_open, is_current, is_out_successor, first, is_switched, admit_row, pdu_channel, pdu_on, ack_row_by, ack_row, ack_named, on_ack_to, give, drawn, ping, packet_by, on_packet, acts as client_acts, rules as client_rules, AreAllowedMoves, client_moved, client_started}
use Rattle.law_role_client.proofs.Receiving.Along.{May, Past, AllMay, IsNoUp, LetStepsKeep, let_moves_keep}
use Rattle.law_role_client.proofs.Receiving.Windows.{IsBehind, refused_behind}
use Rattle.law_role_client.proofs.Receiving.Facts.{Known, Says, Acks, IsToldBy, kept_up}
use Rattle.law_role_client.proofs.Receiving.Replaced.{Same, seen, same_holds, recycle_holds, take_holds}
use Rattle.law_role_client.proofs.Receiving.Rows.{Fits, pdu_fits, packet_fits}
use Rattle.law_role_client.proofs.Receiving.Ups.{up_fits, first_up}
use Rattle.law_role_client.proofs.Receiving.Puts.{put_fits}
use Rattle.law_role_client.specs.Receiving.{IsBehindWindow, IsBehindAcks, RefusesBehind, IsNoWindow, IsTrueAck, CountsWhatCame, OpensWith, IsWithinWindow}

-- ---- the steps of a client

same_drawn : (s : ClientRole) (leg : Leg) → Same s (drawn s leg)
same_drawn s leg = search rules

same_ping : (s : ClientRole) (leg : Leg) → Same s (ping s leg)
same_ping s leg = search rules

same_give : (s : ClientRole) (bytes : List ℕ) → Same s (give s bytes).0
same_give s bytes = search rules

-- ---- legs come up

abbrev known : List EndMove → List EndMove → Known
known moves before = record {
  UpFirst = AreUpFirst [] moves;
  FirstUp = WasUp before (co 1);
  Comes = λ leg cookie. HasComeUp moves leg cookie;
}

-- it is one of these moves with which a leg comes up
abbrev IsOneOf : List EndMove → EndMove → Type 0
IsOneOf moves (Moves (Up leg cookie)) = HasComeUp moves leg cookie
IsOneOf moves move = Unit {0}

-- a move is allowed, is one of these, and is on a leg that came up before if they all are
abbrev Let : List EndMove → May ClientRole
Let moves before s move =
    MayEndMove client_rules s move × (AreUpFirst [] moves → IsUpFirst before move)
    × IsOneOf moves move

-- the leg comes up at the last move, or did before
up_last : (before : List EndMove) (move : EndMove) (leg : Leg) (cookie : Cookie)
    → HasComeUp (before ++ move ∷ []) leg cookie
    → WasUp before leg ⊎ (move ≡ Moves (Up leg cookie))
up_last [] move leg cookie (inl is) = inr is
up_last [] move leg cookie (inr rest) = absurd rest
up_last (one ∷ before) move leg cookie (inl is) = inl (cookie, inl is)
up_last (one ∷ before) move leg cookie (inr rest) = by (up_last before move leg cookie rest)
  where
    by : WasUp before leg ⊎ (move ≡ Moves (Up leg cookie))
        → WasUp (one ∷ before) leg ⊎ (move ≡ Moves (Up leg cookie))
    by (inl is) = inl (is.0, inr is.1)
    by (inr is) = inr is

-- the leg that comes up at a move
abbrev leg_of : EndMove → Leg
leg_of (Moves (Up leg cookie)) = leg
leg_of move = co 0

module _ (window : ℕ) (moves : List EndMove) (is : IsWindow window) where
  abbrev Holds : Past ClientRole
  Holds before s came put = Fits window (known moves before) s came put

  -- behind a move, at which the leg of the first channel may come up
  behind : (before : List EndMove) (move : EndMove) (s : ClientRole) (came put : List OnLeg)
      → ((cookie : Cookie) → move ≡ Moves (Up (co 1) cookie)
      → s.current.number ≡ 1 → is_up s.current.opening ≡ true)
      → Holds before s came put → Holds (before ++ move ∷ []) s came put
  behind before move s came put last h =
      kept_up window (known moves before) (seen s) came put h
      (WasUp (before ++ move ∷ []) (co 1))
      (λ so. by so.0 (up_last before move (co 1) so.0 so.1))
    where
      by : (cookie : Cookie)
          → WasUp before (co 1) ⊎ (move ≡ Moves (Up (co 1) cookie))
          → s.current.number ≡ 1 → is_up s.current.opening ≡ true
      by cookie (inl was) e = h.risen.first was e
      by cookie (inr now) e = last cookie now e

  steps : LetStepsKeep client_rules (Let moves) Holds
  steps = record {
    up = λ before s leg cookie came put may h.
        behind before (Moves (Up leg cookie)) (client_rules.up s leg cookie) came put
        (λ other e. first_up s leg cookie (ap leg_of e))
        (up_fits window (known moves before) s cookie came put h leg leg.kind refl may.0.1 may.2);
    past = λ before move s came put none h.
        behind before move s came put (λ cookie e. absurd (subst IsNoUp e none)) h;
    head = λ before s leg text came put h. h;
    pdu = λ before s leg count bytes came put may h.
        pdu_fits window (known moves before) s leg leg.kind bytes came put refl
        (λ so e. subst (λ (other : Leg). WasUp before other) e (may.1 so)) h;
    packet = λ before s leg count m came put h.
        packet_fits window (known moves before) s leg leg.kind count m came put refl h;
    put = λ before s leg came put h.
        put_fits window (known moves before) is leg came put s h;
    drawn = λ before s leg came put h.
        same_holds window (known moves before) came put s (drawn s leg) (same_drawn s leg) h;
    mark = λ before s leg came put h. h;
    ping = λ before s leg came put h.
        same_holds window (known moves before) came put s (ping s leg) (same_ping s leg) h;
  }

  calls : (before : List EndMove) → ActsKeep client_acts (Holds before)
  calls before = record {
    give = λ s bytes came put h.
        same_holds window (known moves before) came put s (give s bytes).0 (same_give s bytes) h;
    take = λ s came put h.
        take_holds window (known moves before) came put s s.line.current.pdus refl h;
    close = λ s came put h. h;
    recycle = λ s came put h.
        recycle_holds window (known moves before) came put s s.replacement refl h;
  }

one_of : (all : List EndMove) (move : EndMove)
    → ((leg : Leg) (cookie : Cookie) → move ≡ Moves (Up leg cookie) → HasComeUp all leg cookie)
    → IsOneOf all move
one_of all (Moves (Up leg cookie)) comes = comes leg cookie refl
one_of all move comes = tt

each_let : (all before : List EndMove) (p : EndPassage ClientRole) (moves : List EndMove)
    → AreAllowedAtEnd client_rules client_acts p moves
    → (AreUpFirst [] all → AreUpFirst before moves)
    → ((leg : Leg) (cookie : Cookie) → HasComeUp moves leg cookie → HasComeUp all leg cookie)
    → AllMay client_rules client_acts (Let all) before p moves
each_let all before p [] allowed first comes = tt
each_let all before p (move ∷ moves) allowed first comes = (
  (allowed.0, λ so. (first so).0, one_of all move (λ leg cookie is. comes leg cookie (inl is))),
  each_let all (before ++ move ∷ []) (end_moved client_rules client_acts p move) moves
      allowed.1 (λ so. (first so).1) (λ leg cookie later. comes leg cookie (inr later)),
)

starts : (config : ClientConfig) (moves : List EndMove)
    → Fits config.window (known moves []) (first config) [] []
starts config moves = record {
  numbered = record {
    window_is = refl;
    from_one = omega arith;
    follows = λ e. absurd (true≢false (sym e));
    later = λ e. absurd (omega (arith, e));
    next_up = λ e. absurd (true≢false (sym e));
  };
  lined = record {
    size = refl;
    told = omega arith;
    next_told = λ e. absurd (true≢false (sym e));
    next_held = refl;
    finished = refl;
    there = λ e. absurd (true≢false (sym e));
  };
  counted = record {
    now = record { received = omega arith; counted = refl; size = refl };
    next = record { received = omega arith; counted = refl; size = refl };
  };
  risen = record {
    now = λ e. absurd (true≢false (sym e));
    next = λ e. absurd (true≢false (sym e));
    first = λ so e. absurd so.1;
  };
  says = tt;
  up = λ so e. absurd (omega (arith, e));
  acks = λ so. tt;
}

-- ---- a message that was put on a leg

has_so : (P : OnLeg → Type 0) (leg : Leg) (m : Named) (log : List OnLeg)
    → AllByRecursion P log → Has m (of_leg leg log) → (other : Leg) × P (other, Packet m)
has_so P leg m [] all h = absurd h
has_so P leg m (one ∷ log) all h =
    by (same_leg one.0 leg) (λ rest. has_so P leg m log all.1 rest) h
  where
    by : (b : Bool) → (Has m (of_leg leg log) → (other : Leg) × P (other, Packet m))
        → Has m (if b then one.1 ∷ of_leg leg log else of_leg leg log)
        → (other : Leg) × P (other, Packet m)
    by true later (inl is) = (one.0, subst (λ (x : Message). P (one.0, x)) is all.0)
    by true later (inr rest) = later rest
    by false later rest = later rest

module _ (config : ClientConfig) (moves : List EndMove) (is : IsWindow config.window)
    (allowed : AreAllowedMoves config moves) where
  abbrev p : Passage ClientRole
  p = (client_moved config moves).passage

  -- behind all moves, whichever they were
  behind_all : (past : List EndMove) × Fits config.window (known moves past) p.role p.came p.put
  behind_all =
      let_moves_keep client_rules client_acts (Let moves) (Holds config.window moves is)
      (steps config.window moves is) (calls config.window moves is) [] (client_started config)
      moves
      (each_let moves [] (client_started config) moves allowed (λ so. so)
      (λ leg cookie comes. comes))
      (starts config moves)

  kept : Fits config.window (known moves behind_all.0) p.role p.came p.put
  kept = behind_all.1

  -- ---- what is refused

  -- for the window of the current channel, or of the next one
  refused : (k : ℕ) (bytes : List ℕ) (IsFar : ℕ → Type 0)
      → ((reached : ℕ) → k ≡ p.role.current.number
      → p.role.line.current.window.told < reached → IsFar reached)
      → ((reached : ℕ) → p.role.current.number < k
      → config.window < reached → IsFar reached)
      → RefusesBehind IsFar (pdu_bytes (of_leg (co k) p.came) + length bytes)
      (pdu_on p.role bytes (pdu_channel p.role k)).1
  refused k bytes IsFar now next =
      by_test On (not (is_open s.phase)) None _ (λ e. tt)
      (λ e. by_test On (is_current s k) (Some Current) _
      (λ f. let same = same_number k s.current.number f in
      by_verdict (lines.channel_verdict s.line.current bytes) s.line.current.window.told
      (now reached same)
      (subst (λ (n : ℕ). IsBehind s.line.current.window.told
      (pdu_bytes (of_leg (co n) p.came) + length bytes)
      (lines.channel_verdict s.line.current bytes)) (sym same)
      (refused_behind config.window s.line.current
      (pdu_bytes (of_leg (co s.current.number) p.came)) bytes kept.counted.now)))
      (λ f. by_test On (is_switched s && is_out_successor s k) (Some Next) None
      (λ g. let same = next_number g in
      let above : s.current.number < k = omega (arith, same) in
      by_verdict (lines.channel_verdict s.line.next bytes) s.line.next.window.told
      (λ far. next reached above
      (let told = kept.lined.next_told (there g) in omega (arith, far, told)))
      (subst (λ (n : ℕ). IsBehind s.line.next.window.told
      (pdu_bytes (of_leg (co n) p.came) + length bytes)
      (lines.channel_verdict s.line.next bytes)) (sym same)
      (refused_behind config.window s.line.next
      (pdu_bytes (of_leg (co (suc s.current.number)) p.came)) bytes kept.counted.next)))
      (λ g. tt)))
    where
      s : ClientRole
      s = p.role

      reached : ℕ
      reached = pdu_bytes (of_leg (co k) p.came) + length bytes

      On : Option Which → Type 0
      On which = RefusesBehind IsFar reached (pdu_on s bytes which).1

      by_verdict : (v : Result (Unit {0}) LineFault) (edge : ℕ)
          → (edge < reached → IsFar reached) → IsBehind edge reached v
          → RefusesBehind IsFar reached (admit_row v)
      by_verdict (Ok admitted) edge far h = tt
      by_verdict (Err Over) edge far h = tt
      by_verdict (Err (Window exceeded)) edge far h = far h

      there : is_switched s && is_out_successor s k ≡ true → s.line.has_next ≡ true
      there g =
          (and_parts _ s.line.has_next
          (and_parts (is_switched s) (is_out_successor s k) g).0).1

      next_number : is_switched s && is_out_successor s k ≡ true → k ≡ suc s.current.number
      next_number g =
          let is = and_parts (is_out s.replacement) (k == s.out_successor.number)
          (and_parts (is_switched s) (is_out_successor s k) g).1 in
          same_number k s.out_successor.number is.1 ∙ kept.numbered.follows is.0

  pub opens_with : OpensWith config.window p.put
  opens_with = record {
    first = λ leg version connection channel size h.
        (has_so (Says config.window) leg (named.ConnA1 version connection channel size) p.put
        kept.says h).1;
    later = λ leg version connection predecessor channel size h.
        (has_so (Says config.window) leg
        (named.OutR1A3 version connection predecessor channel size) p.put kept.says h).1;
  }

  behind_window : (k reached : ℕ) → config.window < reached → IsBehindWindow k p.put reached
  behind_window k reached far = record {
    first = λ version connection channel size h.
        let said = opens_with.first (co k) version connection channel size h in
        omega (arith, said, far);
    later = λ version connection predecessor channel size h.
        let said = opens_with.later (co k) version connection predecessor channel size h in
        omega (arith, said, far);
  }

  pub within_windows : (k : ℕ) (count : Count) (bytes : List ℕ)
      → RefusesBehind (IsBehindWindow k p.put)
      (pdu_bytes (of_leg (co k) p.came) + length bytes)
      (client_rules.pdu p.role (co k) count bytes).1
  within_windows k count bytes =
      refused k bytes (IsBehindWindow k p.put)
      (λ reached e far.
      behind_window k reached (let told = kept.lined.told in omega (arith, told, far)))
      (λ reached e far. behind_window k reached far)

  -- what is known of an acknowledgement on a leg
  an_ack : AreUpFirst [] moves → (leg : Leg) (destination received available : ℕ)
      (cookie : Cookie) → Has (named.AckTo destination received available cookie)
      (of_leg leg p.put)
      → Acks (λ other of. HasComeUp moves other of) p.role.current.number
      p.role.line.current.window.told p.came received available cookie
  an_ack first leg destination received available cookie has =
      (has_so (IsToldBy (known moves behind_all.0) (seen p.role) p.came) leg
      (named.AckTo destination received available cookie) p.put (kept.acks first) has).1

  pub within_acks : AreUpFirst [] moves → (k : ℕ) (count : Count) (bytes : List ℕ)
      → RefusesBehind (IsBehindAcks k moves p.put)
      (pdu_bytes (of_leg (co k) p.came) + length bytes)
      (client_rules.pdu p.role (co k) count bytes).1
  within_acks first k count bytes =
      refused k bytes (IsBehindAcks k moves p.put)
      (λ reached e far leg received available cookie has comes alone.
      let ack = an_ack first leg 3 received available cookie has in
      let told = ack.within (alone ack.channel ack.up ∙ e) in
      omega (arith, told, far))
      (λ reached e far leg received available cookie has comes alone.
      let ack = an_ack first leg 3 received available cookie has in
      let same = alone ack.channel ack.up in
      let low = ack.low in
      absurd (omega (arith, same, low, e)))

  -- ---- what is acknowledged

  says : (leg : Leg) (destination received available : ℕ) (cookie : Cookie)
      → Has (named.AckTo destination received available cookie) (of_leg leg p.put)
      → (destination ≡ 3) × (available ≤ config.window)
  says leg destination received available cookie h =
      (has_so (Says config.window) leg (named.AckTo destination received available cookie) p.put
      kept.says h).1

  pub to_out_proxies : (leg : Leg) (destination received available : ℕ) (cookie : Cookie)
      → Has (named.AckTo destination received available cookie) (of_leg leg p.put)
      → destination ≡ 3
  to_out_proxies leg destination received available cookie h =
      (says leg destination received available cookie h).0

  pub counts_what_came : CountsWhatCame p
  counts_what_came =
      record { current = kept.counted.now.received; next = kept.counted.next.received }

  pub acks_within : AreUpFirst [] moves
      → (leg : Leg) (destination received available : ℕ) (cookie : Cookie)
      → Has (named.AckTo destination received available cookie) (of_leg leg p.put)
      → IsWithinWindow config.window moves p received available cookie
  acks_within first leg destination received available cookie has =
      let ack = an_ack first leg destination received available cookie has in
      record {
        number = ack.channel;
        up = ack.up;
        arrived = ack.arrived;
        small = (says leg destination received available cookie has).1;
        low = ack.low;
        told = ack.within;
      }

  pub acks_are_true : AreUpFirst [] moves
      → (leg : Leg) (destination received available : ℕ) (cookie : Cookie)
      → Has (named.AckTo destination received available cookie) (of_leg leg p.put)
      → IsTrueAck moves p.came received available cookie
  acks_are_true first leg destination received available cookie has =
      let ack = an_ack first leg destination received available cookie has in
      record {
        number = ack.channel;
        up = ack.up;
        arrived = ack.arrived;
        window = ack.window;
      }

-- ---- no packet is refused for a window

ack_to_row : (s : ClientRole) (to received available : ℕ) (of : Cookie)
    → IsNoWindow (on_ack_to s to received available of).1
ack_to_row s to received available of =
    by_test No (is_open s.phase && to == 0) (ack_named s received available of) (unexpected s)
    (λ e. by_test No (is_named s.writing of) _ _ (λ f. told s.writing)
    (λ f. by_test No (is_named s.in_successor of) _ _ (λ g. told s.in_successor)
    (λ g. by_test No (is_named s.leaving of) _ _ (λ i. told s.leaving) (λ i. tt))))
    (λ e. tt)
  where
    No : Done → Type 0
    No x = IsNoWindow x.1

    told : (c : InChannel) → IsNoWindow (ack_row c received available)
    told c = by (ack_verdict c.window received available)
      where
        by : (v : Result (Unit {0}) BadAck) → IsNoWindow (ack_row_by v)
        by (Ok acked) = tt
        by (Err bad) = tt

packet_row : (s : ClientRole) (n : ℕ) (count : Count) (m : Named)
    → IsNoWindow (on_packet s n count m).1
packet_row s n count (named.ConnA3 v1) = search rules
packet_row s n count (named.ConnC2 v1 v2 v3) = search rules
packet_row s n count (named.AckTo v1 v2 v3 v4) = ack_to_row s v1 v2 v3 v4
packet_row s n count (named.InR1A4 v1 v2 v3 v4) = search rules
packet_row s n count (named.InR2A4 v1) = search rules
packet_row s n count (named.OutR1A2 v1) = search rules
packet_row s n count (named.OutR1A6 v1 v2 v3) = search rules
packet_row s n count named.OutR1A10 = search rules
packet_row s n count named.EndB2 = search rules
packet_row s n count m = tt

pub no_packet : (s : ClientRole) (leg : Leg) (count : Count) (m : Named)
    → IsNoWindow (client_rules.packet s leg count m).1
no_packet s leg count m = by leg.kind
  where
    by : (kind : LegKind) → IsNoWindow (packet_by s leg.number count m kind).1
    by ClientOut =
        by_test (λ (x : Done). IsNoWindow x.1)
        (is_current s leg.number || is_out_successor s leg.number)
        (on_packet s leg.number count m) (unexpected s) (λ e. packet_row s leg.number count m)
        (λ e. tt)
    by OutServer = tt
    by ClientIn = tt
    by InServer = tt
