-- a client names its OUT channels
use Rattle.law_order.proofs.Vocabulary.{◌≡◌, ◌⊎◌, ℕ, ◌+◌, ◌≤◌, Bool, true, false, true≢false, List, [], ◌∷◌, ◌++◌, inl, inr, arith, refl, sym, ap, ◌∙◌, subst}
use Rattle.law_moves.proofs.Vocabulary.{Cookie, ConnA1, OutR1A3, OutR1A7, PROTOCOL_VERSION, ClientConfig, Leg, ClientOut, ClientIn, Message, Text, Pdu, Packet, OnLeg, Passage, EndMove, end_started, all_end_moved, AreAllowedAtEnd, of_leg, Has, BeginsOut, HasBegunOut}
use Rattle.law_role_client.proofs.Vocabulary.{first, co, no_cookie, acts, rules, ClientRole, is_conn_a1, is_out_r1_a3, is_out_r1_a7, total, ReplacesOuts, EachBehind, NamesOut, NamesOuts}
use Rattle.law_role_client.proofs.ClientLogs.{of_kind}
use Rattle.law_role_client.proofs.Counted.Allowed.{allowed_moves_keep}
use Rattle.law_role_client.proofs.Counted.Standing.{passes, stands_on, total_stays, total_rises}
use Rattle.law_role_client.proofs.Counted.Behind.{one_more_behind, still_has_all, has_one, found}
use Rattle.law_role_client.proofs.Counted.Began.{Began, began_not, began_more, began_up, began_anew, began_first, began_asked, began_follows, began_before}
use Rattle.law_role_client.proofs.Counted.Views.{View, view, Way, Free, InIsAsked, InIsAnswered, OutIsAsked, OutIsAnswered, OutIsSwitched, OutIsFinished, is_out_way, Marks, marks, unmarked, Names, EventsKeep}
use Rattle.law_role_client.proofs.Counted.Moves.{client_keeps}
use Rattle.law_role_client.proofs.Counted.OutCounts.{replaces_outs}
use Rattle.law_role_client.proofs.Counted.OneCookie.{one_out_cookie}
use Rattle.law_role_client.proofs.Counted.Replacements as keeps

-- the successor has the next number, its first packet was put before it is answered, and so many
-- OUT_R1/A7 were put
abbrev IsNext : Way → Bool → ℕ → ℕ → ℕ → Type 0
IsNext OutIsAsked asked c n a7 = (n ≡ c + 1) × (c ≡ a7 + 1)
IsNext OutIsAnswered asked c n a7 = (n ≡ c + 1) × (c ≡ a7 + 1) × (asked ≡ true)
IsNext OutIsSwitched asked c n a7 = (n ≡ c + 1) × (c ≡ a7) × (asked ≡ true)
IsNext OutIsFinished asked c n a7 = (n ≡ c + 1) × (c ≡ a7) × (asked ≡ true)
IsNext way asked c n a7 = c ≡ a7 + 1

module _ (connection : Cookie) where
  -- of the connection, the current channel and its successor: their cookies, whether their first
  -- packets were put, and their numbers
  record Known (of cc oc : Cookie) (begun asked : Bool) (c n : ℕ) (way : Way)
      (put : List OnLeg) : Type 0 where
    config : of ≡ connection
    began : Began ClientOut is_conn_a1 BeginsOut cc oc begun asked c n put
    a7 : ℕ
    switches : total is_out_r1_a7 ClientIn put ≡ a7
    next : IsNext way asked c n a7
    names : EachBehind (NamesOut connection) [] put

  abbrev Holds : View → List OnLeg → List OnLeg → Type 0
  Holds v came put =
      Known v.connection v.current_cookie v.out_cookie v.current_begun v.out_asked v.current
      v.out_successor v.way put

  -- a message that names none
  other_names : (put : List OnLeg) (leg : Leg) (m : Message) → passes is_conn_a1 m ≡ false
      → passes is_out_r1_a3 m ≡ false → passes is_out_r1_a7 m ≡ false
      → NamesOut connection put (leg, m)
  other_names put leg (Text bytes) a1 a3 a7 = tt
  other_names put leg (Pdu pdu) a1 a3 a7 = tt
  other_names put leg (Packet (ConnA1 v of c w)) a1 a3 a7 = absurd (true≢false a1)
  other_names put leg (Packet (OutR1A3 v of p s w)) a1 a3 a7 = absurd (true≢false a3)
  other_names put leg (Packet (OutR1A7 to s)) a1 a3 a7 = absurd (true≢false a7)
  other_names put leg (Packet named) a1 a3 a7 = tt

  more : (of cc oc : Cookie) (b a : Bool) (c n : ℕ) (way : Way) (put : List OnLeg) (one : OnLeg)
      → passes is_conn_a1 one.1 ≡ false → passes is_out_r1_a7 one.1 ≡ false
      → NamesOut connection put one → Known of cc oc b a c n way put
      → Known of cc oc b a c n way (put ++ one ∷ [])
  more of cc oc b a c n way put one no_a1 no_a7 named h = record {
    config = h.config;
    began = began_more ClientOut is_conn_a1 BeginsOut cc oc b a c n put one no_a1 h.began;
    a7 = h.a7;
    switches = total_stays is_out_r1_a7 ClientIn h.a7 put one no_a7 h.switches;
    next = h.next;
    names = one_more_behind (NamesOut connection) put one h.names named;
  }

  goes : (v : View) (came put : List OnLeg) (one : OnLeg) → passes is_conn_a1 one.1 ≡ false
      → passes is_out_r1_a3 one.1 ≡ false → passes is_out_r1_a7 one.1 ≡ false
      → Holds v came put → Holds v came (put ++ one ∷ [])
  goes v came put one a1 a3 a7 h =
      more v.connection v.current_cookie v.out_cookie v.current_begun v.out_asked v.current
      v.out_successor v.way put one a1 a7 (other_names put one.0 one.1 a1 a3 a7) h

  goes_unmarked : (v : View) (came put : List OnLeg) (one : OnLeg) → marks one.1 ≡ unmarked
      → Holds v came put → Holds v came (put ++ one ∷ [])
  goes_unmarked v came put one q h =
      goes v came put one (ap (λ (m : Marks). m.begins_out) q) (ap (λ (m : Marks). m.asks_out) q)
      (ap (λ (m : Marks). m.switches) q) h

  -- on another way
  turns : (v : View) (way other : Way) (came put : List OnLeg)
      → ((a7 : ℕ) → IsNext way v.out_asked v.current v.out_successor a7
      → IsNext other v.out_asked v.current v.out_successor a7)
      → Holds (record v { way = way }) came put → Holds (record v { way = other }) came put
  turns v way other came put so h = record {
    config = h.config;
    began = h.began;
    a7 = h.a7;
    switches = h.switches;
    next = so h.a7 h.next;
    names = h.names;
  }

  -- another successor
  anew : (of cc oc jc : Cookie) (b a : Bool) (c n m : ℕ) (way other : Way) (put : List OnLeg)
      → ((a7 : ℕ) → IsNext way a c n a7 → IsNext other false c m a7)
      → Known of cc oc b a c n way put → Known of cc jc b false c m other put
  anew of cc oc jc b a c n m way other put so h = record {
    config = h.config;
    began = began_anew ClientOut is_conn_a1 BeginsOut cc oc jc b a c n m put h.began;
    a7 = h.a7;
    switches = h.switches;
    next = so h.a7 h.next;
    names = h.names;
  }

  -- it has another number
  apart : (way : Way) (a : Bool) (c n a7 : ℕ) → IsNext way a c n a7 → is_out_way way ≡ true
      → n ≡ c → ⊥
  apart OutIsAsked a c n a7 at is same = let next = at.0 in omega (arith, next, same)
  apart OutIsAnswered a c n a7 at is same = let next = at.0 in omega (arith, next, same)
  apart OutIsSwitched a c n a7 at is same = let next = at.0 in omega (arith, next, same)
  apart OutIsFinished a c n a7 at is same = let next = at.0 in omega (arith, next, same)
  apart Free a c n a7 at is same = absurd (true≢false (sym is))
  apart InIsAsked a c n a7 at is same = absurd (true≢false (sym is))
  apart InIsAnswered a c n a7 at is same = absurd (true≢false (sym is))

  -- the current channel is up
  ups : (of cc oc dc : Cookie) (b a : Bool) (c n : ℕ) (way : Way) (put : List OnLeg)
      → (b ≡ false) ⊎ ((is_out_way way ≡ true) × (n ≡ c)) → Known of cc oc b a c n way put
      → Known of dc oc false a c n way put
  ups of cc oc dc b a c n way put (inl down) h = record {
    config = h.config;
    began = began_up ClientOut is_conn_a1 BeginsOut cc oc dc b a c n put down h.began;
    a7 = h.a7;
    switches = h.switches;
    next = h.next;
    names = h.names;
  }
  ups of cc oc dc b a c n way put (inr (is, same)) h =
      absurd (apart way a c n h.a7 h.next is same)

  -- CONN/A1 of the connection names it
  first_names : (of : Cookie) (put : List OnLeg) (leg : Leg) (m : Message) → of ≡ connection
      → passes is_conn_a1 m ≡ true → Names of m → NamesOut connection put (leg, m)
  first_names of put leg (Packet (ConnA1 v o c w)) e is named = named ∙ e
  first_names of put leg (Packet (OutR1A3 v o p s w)) e is named = absurd (true≢false (sym is))
  first_names of put leg (Packet (OutR1A7 to s)) e is named = absurd (true≢false (sym is))
  first_names of put leg (Packet other) e is named = tt
  first_names of put leg (Text bytes) e is named = tt
  first_names of put leg (Pdu pdu) e is named = tt

  begins_first : (of cc oc : Cookie) (a : Bool) (c n : ℕ) (way : Way) (put : List OnLeg)
      (one : OnLeg) → passes is_conn_a1 one.1 ≡ true → passes is_out_r1_a7 one.1 ≡ false
      → Names of one.1 → HasBegunOut cc (one.1 ∷ []) → one.0.kind ≡ ClientOut
      → one.0.number ≡ c → Known of cc oc false a c n way put
      → Known of cc oc true a c n way (put ++ one ∷ [])
  begins_first of cc oc a c n way put one is no_a7 named begun k at h = record {
    config = h.config;
    began =
        began_first ClientOut is_conn_a1 BeginsOut cc oc a c n put one is begun k at h.began;
    a7 = h.a7;
    switches = total_stays is_out_r1_a7 ClientIn h.a7 put one no_a7 h.switches;
    next = h.next;
    names =
        one_more_behind (NamesOut connection) put one h.names
        (first_names of put one.0 one.1 h.config is named);
  }

  -- OUT_R1/A3
  asks : (of cc oc : Cookie) (window : ℕ) (b : Bool) (c n : ℕ) (way : Way) (put : List OnLeg)
      (one : OnLeg) → passes is_conn_a1 one.1 ≡ false → passes is_out_r1_a7 one.1 ≡ false
      → one.1 ≡ Packet (OutR1A3 PROTOCOL_VERSION of cc oc window) → one.0.kind ≡ ClientOut
      → one.0.number ≡ n → n ≡ c + 1
      → ((a7 : ℕ) → IsNext way false c n a7 → IsNext way true c n a7)
      → Known of cc oc b false c n way put → Known of cc oc b true c n way (put ++ one ∷ [])
  asks of cc oc window b c n way put (leg, m) no_a1 no_a7 is k at next so h = record {
    config = h.config;
    began =
        began_asked ClientOut is_conn_a1 BeginsOut cc oc b c n put (leg, m) no_a1
        (subst (λ (x : Message). HasBegunOut oc (x ∷ [])) (sym is) (inl refl)) k at h.began;
    a7 = h.a7;
    switches = total_stays is_out_r1_a7 ClientIn h.a7 put (leg, m) no_a7 h.switches;
    next = so h.a7 h.next;
    names =
        one_more_behind (NamesOut connection) put (leg, m) h.names
        (subst (λ (x : Message). NamesOut connection put (leg, x)) (sym is) (
          h.config,
          λ j number.
              began_before ClientOut is_conn_a1 BeginsOut cc oc b false c n put next h.began j
              (sym at ∙ number),
        ));
  }

  asks_at : (of cc oc : Cookie) (window : ℕ) (b : Bool) (c n : ℕ) (way : Way)
      (put : List OnLeg) (one : OnLeg) → passes is_conn_a1 one.1 ≡ false
      → passes is_out_r1_a7 one.1 ≡ false
      → one.1 ≡ Packet (OutR1A3 PROTOCOL_VERSION of cc oc window) → one.0.kind ≡ ClientOut
      → one.0.number ≡ n → is_out_way way ≡ true → Known of cc oc b false c n way put
      → Known of cc oc b true c n way (put ++ one ∷ [])
  asks_at of cc oc window b c n OutIsAsked put one no_a1 no_a7 is k on at h =
      asks of cc oc window b c n OutIsAsked put one no_a1 no_a7 is k on h.next.0 (λ a7 next. next)
      h
  asks_at of cc oc window b c n OutIsAnswered put one no_a1 no_a7 is k on at h =
      absurd (true≢false (sym h.next.2))
  asks_at of cc oc window b c n OutIsSwitched put one no_a1 no_a7 is k on at h =
      absurd (true≢false (sym h.next.2))
  asks_at of cc oc window b c n OutIsFinished put one no_a1 no_a7 is k on at h =
      absurd (true≢false (sym h.next.2))
  asks_at of cc oc window b c n Free put one no_a1 no_a7 is k on at h =
      absurd (true≢false (sym at))
  asks_at of cc oc window b c n InIsAsked put one no_a1 no_a7 is k on at h =
      absurd (true≢false (sym at))
  asks_at of cc oc window b c n InIsAnswered put one no_a1 no_a7 is k on at h =
      absurd (true≢false (sym at))

  -- OUT_R1/A7
  switches : (of cc oc : Cookie) (b a : Bool) (c n : ℕ) (put : List OnLeg) (one : OnLeg)
      → passes is_conn_a1 one.1 ≡ false → passes is_out_r1_a7 one.1 ≡ true
      → one.1 ≡ Packet (OutR1A7 2 oc) → one.0.kind ≡ ClientIn
      → Known of cc oc b a c n OutIsAnswered put
      → Known of cc oc b a c n OutIsSwitched (put ++ one ∷ [])
  switches of cc oc b a c n put (leg, m) no_a1 is_a7 is k h =
      let next = h.next.0 in
      let before = h.next.1 in
      let all = h.switches in
      let behind : total is_out_r1_a7 ClientIn put + 2 ≡ n = omega (arith, all, next, before) in
      record {
        config = h.config;
        began =
            began_more ClientOut is_conn_a1 BeginsOut cc oc b a c n put (leg, m) no_a1 h.began;
        a7 = h.a7 + 1;
        switches =
            total_rises is_out_r1_a7 ClientIn h.a7 put (leg, m) is_a7 (of_kind ClientIn leg k)
            h.switches;
        next = (h.next.0, h.next.1, h.next.2);
        names =
            one_more_behind (NamesOut connection) put (leg, m) h.names
            (subst (λ (x : Message). NamesOut connection put (leg, x)) (sym is)
            (subst (λ (x : ℕ). HasBegunOut oc (of_leg (co x) put)) (sym behind)
            (h.began.successor h.next.2)));
      }

  succeeds : (of cc oc : Cookie) (b a : Bool) (c n : ℕ) (put : List OnLeg)
      → Known of cc oc b a c n OutIsFinished put → Known of oc no_cookie a false n 0 Free put
  succeeds of cc oc b a c n put h =
      let next = h.next.0 in
      let before = h.next.1 in
      record {
        config = h.config;
        began =
            began_follows ClientOut is_conn_a1 BeginsOut cc oc no_cookie b a c n 0 put h.next.2
            next h.began;
        a7 = h.a7;
        switches = h.switches;
        next = omega (arith, next, before);
        names = h.names;
      }

  outs : EventsKeep Holds
  outs = record {
    comes = λ v came put one q h. h;
    goes = λ v came put one q o h. goes_unmarked v came put one q h;
    fills = λ v line came put past h. h;
    takes = λ v came put h. h;
    acks = λ v which ack came put one q is h. goes_unmarked v came put one q h;
    opens = λ v came put one q k o h. h;
    closes = λ v came put o h. h;
    ends = λ v came put e h. h;
    ups_writing = λ v cookie came put down h. h;
    ups_in = λ v cookie came put h. h;
    ups_current = λ v cookie came put down h.
        ups v.connection v.current_cookie v.out_cookie cookie v.current_begun v.out_asked v.current
        v.out_successor v.way put down h;
    ups_out = λ v cookie came put h.
        anew v.connection v.current_cookie v.out_cookie cookie v.current_begun false v.current
        v.out_successor v.out_successor v.way v.way put (λ a7 next. next) h;
    begins_writing = λ v came put one q greets of is k at h.
        goes v came put one (ap (λ (m : Marks). m.begins_out) q)
        (ap (λ (m : Marks). m.asks_out) q) (ap (λ (m : Marks). m.switches) q) h;
    begins_current = λ v came put one q greets of is k at h.
        begins_first v.connection v.current_cookie v.out_cookie v.out_asked v.current
        v.out_successor v.way put one (ap (λ (m : Marks). m.begins_out) q)
        (ap (λ (m : Marks). m.switches) q) of is k at h;
    wants_in = λ v came put o l h. h;
    wants_out = λ v came put one q k o w l h. h;
    begins_in = λ v came put w l h. turns v Free InIsAsked came put (λ a7 next. next) h;
    begins_out = λ v came put w l h.
        anew v.connection v.current_cookie v.out_cookie no_cookie v.current_begun v.out_asked
        v.current v.out_successor (v.current + 1) Free OutIsAsked put (λ a7 next. (refl, next)) h;
    drops_in = λ v came put w l h. h;
    drops_out = λ v came put w l h. h;
    asks_in = λ v came put one q is k on at h.
        goes v came put one (ap (λ (m : Marks). m.begins_out) q)
        (ap (λ (m : Marks). m.asks_out) q) (ap (λ (m : Marks). m.switches) q) h;
    answers_in = λ v came put one q k asked h.
        turns v InIsAsked InIsAnswered came put (λ a7 next. next) h;
    hands_over = λ v w e came put one q is k on h.
        goes (record v { way = Free }) came put one (ap (λ (m : Marks). m.begins_out) q)
        (ap (λ (m : Marks). m.asks_out) q) (ap (λ (m : Marks). m.switches) q)
        (turns v InIsAnswered Free came put (λ a7 next. next) h);
    asks_out = λ v window came put one q is k on at h.
        asks_at v.connection v.current_cookie v.out_cookie window v.current_begun v.current
        v.out_successor v.way put one (ap (λ (m : Marks). m.begins_out) q)
        (ap (λ (m : Marks). m.switches) q) is k on at h;
    answers_out = λ v came put one q k on asked h.
        turns v OutIsAsked OutIsAnswered came put (λ a7 next. (next.0, next.1, asked)) h;
    switches = λ v came put one q is k h.
        switches v.connection v.current_cookie v.out_cookie v.current_begun v.out_asked v.current
        v.out_successor put one (ap (λ (m : Marks). m.begins_out) q)
        (ap (λ (m : Marks). m.switches) q) is k h;
    finishes = λ v came put one q k on h.
        turns v OutIsSwitched OutIsFinished came put (λ a7 next. next) h;
    succeeds = λ v came put h.
        succeeds v.connection v.current_cookie v.out_cookie v.current_begun v.out_asked v.current
        v.out_successor put h;
  }

  asked : (n v : ℕ) (of predecessor successor : Cookie) (window : ℕ) (put : List OnLeg)
      → EachBehind (NamesOut connection) [] put
      → Has (OutR1A3 v of predecessor successor window) (of_leg (co n) put)
      → (of ≡ connection) × HasBegunOut successor (of_leg (co n) put)
      × ((k : ℕ) → n ≡ k + 1 → 2 ≤ k → HasBegunOut predecessor (of_leg (co k) put))
  asked n v of predecessor successor window put names has =
      let m = OutR1A3 v of predecessor successor window in
      let f = found (NamesOut connection) (co n) m [] put names has in (
        f.so.0,
        has_one (BeginsOut successor) m (of_leg (co n) put) refl has,
        λ k number low. subst (λ (log : List OnLeg). HasBegunOut predecessor (of_leg (co k) log))
            (sym f.joined)
            (still_has_all (BeginsOut predecessor) (co k) f.before f.rest
            (f.so.1 k (f.number ∙ number) (inl low))),
      )

  named : (p : Passage ClientRole) → Holds (view p.role) p.came p.put → ReplacesOuts p
      → NamesOuts connection p
  named p h replaces =
      let all = h.began.firsts.all in
      let most = h.began.most in
      let once : total is_conn_a1 ClientOut p.put ≤ 1 = omega (arith, all, most) in
      let on = stands_on is_conn_a1 ClientOut 1 h.began.count p.put h.began.firsts in
      record {
        names = h.names;
        once = once;
        begins_on = on;
        one = one_out_cookie p.put once on replaces.asks_on;
        asks = λ n v of pre suc window has. asked n v of pre suc window p.put h.names has;
      }

pub names_outs : (config : ClientConfig) (moves : List EndMove)
    → AreAllowedAtEnd rules acts (end_started (first config)) moves
    → NamesOuts config.connection
    (all_end_moved rules acts (end_started (first config)) moves).passage
names_outs config moves allowed =
    let of = config.connection in
    named of (all_end_moved rules acts (end_started (first config)) moves).passage
    (allowed_moves_keep rules acts (keeps.Holds (Holds of) (outs of))
    (client_keeps (Holds of) (outs of)) (end_started (first config)) moves allowed
    (record {
      config = refl;
      began = began_not ClientOut is_conn_a1 BeginsOut no_cookie no_cookie 0;
      a7 = 0;
      switches = refl;
      next = refl;
      names = tt;
    }))
    (replaces_outs config moves allowed)
