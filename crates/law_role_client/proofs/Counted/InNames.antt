-- a client names its IN channels
use Rattle.law_order.proofs.Vocabulary.{◌≡◌, ◌⊎◌, ℕ, ◌+◌, ◌≤◌, Bool, true, false, true≢false, List, [], ◌∷◌, ◌++◌, inl, inr, arith, refl, sym, ap, ◌∙◌, subst}
use Rattle.law_moves.proofs.Vocabulary.{Cookie, ConnB1, InR1A1, InR1A5, PROTOCOL_VERSION, ClientConfig, Leg, ClientIn, Message, Text, Pdu, Packet, OnLeg, Passage, EndMove, end_started, all_end_moved, AreAllowedAtEnd, of_leg, Has, BeginsIn, HasBegunIn}
use Rattle.law_role_client.proofs.Vocabulary.{first, ci, no_cookie, acts, rules, ClientRole, is_conn_b1, is_in_r1_a1, is_in_r1_a5, total, ReplacesIns, EachBehind, NamesIn, NamesIns}
use Rattle.law_role_client.proofs.Counted.Allowed.{allowed_moves_keep}
use Rattle.law_role_client.proofs.Counted.Standing.{passes, stands_on}
use Rattle.law_role_client.proofs.Counted.Behind.{one_more_behind, still_has_all, has_one, found}
use Rattle.law_role_client.proofs.Counted.Began.{Began, began_not, began_more, began_up, began_anew, began_first, began_asked, began_follows, began_before}
use Rattle.law_role_client.proofs.Counted.Views.{View, view, Way, Free, InIsAsked, InIsAnswered, OutIsAsked, OutIsAnswered, OutIsSwitched, OutIsFinished, is_in_way, Marks, marks, unmarked, Names, EventsKeep}
use Rattle.law_role_client.proofs.Counted.Moves.{client_keeps}
use Rattle.law_role_client.proofs.Counted.InCounts.{replaces_ins}
use Rattle.law_role_client.proofs.Counted.OneCookie.{one_in_cookie}
use Rattle.law_role_client.proofs.Counted.Replacements as keeps

-- the successor has the next number, and its first packet was put before it is answered
abbrev IsNext : Way → Bool → ℕ → ℕ → Type 0
IsNext InIsAsked asked w n = n ≡ w + 1
IsNext InIsAnswered asked w n = (n ≡ w + 1) × (asked ≡ true)
IsNext way asked w n = Unit {0}

module _ (connection : Cookie) where
  -- of the connection, the writing channel and its successor: their cookies, whether their first
  -- packets were put, and their numbers
  record Known (of wc ic : Cookie) (begun asked : Bool) (w n : ℕ) (way : Way)
      (put : List OnLeg) : Type 0 where
    config : of ≡ connection
    began : Began ClientIn is_conn_b1 BeginsIn wc ic begun asked w n put
    next : IsNext way asked w n
    names : EachBehind (NamesIn connection) [] put

  abbrev Holds : View → List OnLeg → List OnLeg → Type 0
  Holds v came put =
      Known v.connection v.writing_cookie v.in_cookie v.writing_begun v.in_asked v.writing
      v.in_successor v.way put

  -- a message that names none
  other_names : (put : List OnLeg) (leg : Leg) (m : Message) → passes is_conn_b1 m ≡ false
      → passes is_in_r1_a1 m ≡ false → passes is_in_r1_a5 m ≡ false
      → NamesIn connection put (leg, m)
  other_names put leg (Text bytes) b1 a1 a5 = tt
  other_names put leg (Pdu pdu) b1 a1 a5 = tt
  other_names put leg (Packet (ConnB1 v of c l k g)) b1 a1 a5 = absurd (true≢false b1)
  other_names put leg (Packet (InR1A1 v of p s)) b1 a1 a5 = absurd (true≢false a1)
  other_names put leg (Packet (InR1A5 s)) b1 a1 a5 = absurd (true≢false a5)
  other_names put leg (Packet named) b1 a1 a5 = tt

  -- one more that does not begin the first channel
  more : (of wc ic : Cookie) (b a : Bool) (w n : ℕ) (way : Way) (put : List OnLeg) (one : OnLeg)
      → passes is_conn_b1 one.1 ≡ false → NamesIn connection put one
      → Known of wc ic b a w n way put → Known of wc ic b a w n way (put ++ one ∷ [])
  more of wc ic b a w n way put one other named h = record {
    config = h.config;
    began = began_more ClientIn is_conn_b1 BeginsIn wc ic b a w n put one other h.began;
    next = h.next;
    names = one_more_behind (NamesIn connection) put one h.names named;
  }

  goes : (v : View) (came put : List OnLeg) (one : OnLeg) → passes is_conn_b1 one.1 ≡ false
      → passes is_in_r1_a1 one.1 ≡ false → passes is_in_r1_a5 one.1 ≡ false
      → Holds v came put → Holds v came (put ++ one ∷ [])
  goes v came put one b1 a1 a5 h =
      more v.connection v.writing_cookie v.in_cookie v.writing_begun v.in_asked v.writing
      v.in_successor v.way put one b1 (other_names put one.0 one.1 b1 a1 a5) h

  goes_unmarked : (v : View) (came put : List OnLeg) (one : OnLeg) → marks one.1 ≡ unmarked
      → Holds v came put → Holds v came (put ++ one ∷ [])
  goes_unmarked v came put one q h =
      goes v came put one (ap (λ (m : Marks). m.begins_in) q) (ap (λ (m : Marks). m.asks_in) q)
      (ap (λ (m : Marks). m.hands_over) q) h

  -- on another way
  turns : (v : View) (way other : Way) (came put : List OnLeg)
      → (IsNext way v.in_asked v.writing v.in_successor
      → IsNext other v.in_asked v.writing v.in_successor)
      → Holds (record v { way = way }) came put → Holds (record v { way = other }) came put
  turns v way other came put so h =
      record { config = h.config; began = h.began; next = so h.next; names = h.names }

  -- another successor
  anew : (of wc ic jc : Cookie) (b a : Bool) (w n m : ℕ) (way other : Way) (put : List OnLeg)
      → (IsNext way a w n → IsNext other false w m) → Known of wc ic b a w n way put
      → Known of wc jc b false w m other put
  anew of wc ic jc b a w n m way other put so h = record {
    config = h.config;
    began = began_anew ClientIn is_conn_b1 BeginsIn wc ic jc b a w n m put h.began;
    next = so h.next;
    names = h.names;
  }

  -- it has another number
  apart : (way : Way) (a : Bool) (w n : ℕ) → IsNext way a w n → is_in_way way ≡ true → n ≡ w → ⊥
  apart InIsAsked a w n next is same = omega (arith, next, same)
  apart InIsAnswered a w n at is same = let next = at.0 in omega (arith, next, same)
  apart Free a w n next is same = absurd (true≢false (sym is))
  apart OutIsAsked a w n next is same = absurd (true≢false (sym is))
  apart OutIsAnswered a w n next is same = absurd (true≢false (sym is))
  apart OutIsSwitched a w n next is same = absurd (true≢false (sym is))
  apart OutIsFinished a w n next is same = absurd (true≢false (sym is))

  -- the writing channel is up
  ups : (of wc ic c : Cookie) (b a : Bool) (w n : ℕ) (way : Way) (put : List OnLeg)
      → (b ≡ false) ⊎ ((is_in_way way ≡ true) × (n ≡ w)) → Known of wc ic b a w n way put
      → Known of c ic false a w n way put
  ups of wc ic c b a w n way put (inl down) h = record {
    config = h.config;
    began = began_up ClientIn is_conn_b1 BeginsIn wc ic c b a w n put down h.began;
    next = h.next;
    names = h.names;
  }
  ups of wc ic c b a w n way put (inr (is, same)) h = absurd (apart way a w n h.next is same)

  -- CONN/B1 of the connection names it
  first_names : (of : Cookie) (put : List OnLeg) (leg : Leg) (m : Message) → of ≡ connection
      → passes is_conn_b1 m ≡ true → Names of m → NamesIn connection put (leg, m)
  first_names of put leg (Packet (ConnB1 v o c l k g)) e is named = named ∙ e
  first_names of put leg (Packet (InR1A1 v o p s)) e is named = absurd (true≢false (sym is))
  first_names of put leg (Packet (InR1A5 s)) e is named = absurd (true≢false (sym is))
  first_names of put leg (Packet other) e is named = tt
  first_names of put leg (Text bytes) e is named = tt
  first_names of put leg (Pdu pdu) e is named = tt

  begins_first : (of wc ic : Cookie) (a : Bool) (w n : ℕ) (way : Way) (put : List OnLeg)
      (one : OnLeg) → passes is_conn_b1 one.1 ≡ true → Names of one.1
      → HasBegunIn wc (one.1 ∷ []) → one.0.kind ≡ ClientIn → one.0.number ≡ w
      → Known of wc ic false a w n way put → Known of wc ic true a w n way (put ++ one ∷ [])
  begins_first of wc ic a w n way put one is named begun k at h = record {
    config = h.config;
    began =
        began_first ClientIn is_conn_b1 BeginsIn wc ic a w n put one is begun k at h.began;
    next = h.next;
    names =
        one_more_behind (NamesIn connection) put one h.names
        (first_names of put one.0 one.1 h.config is named);
  }

  -- IN_R1/A1
  asks : (of wc ic : Cookie) (b : Bool) (w n : ℕ) (way : Way) (put : List OnLeg) (one : OnLeg)
      → passes is_conn_b1 one.1 ≡ false
      → one.1 ≡ Packet (InR1A1 PROTOCOL_VERSION of wc ic) → one.0.kind ≡ ClientIn
      → one.0.number ≡ n → n ≡ w + 1 → IsNext way true w n
      → Known of wc ic b false w n way put → Known of wc ic b true w n way (put ++ one ∷ [])
  asks of wc ic b w n way put (leg, m) other is k at next later h = record {
    config = h.config;
    began =
        began_asked ClientIn is_conn_b1 BeginsIn wc ic b w n put (leg, m) other
        (subst (λ (x : Message). HasBegunIn ic (x ∷ [])) (sym is) (inl refl)) k at h.began;
    next = later;
    names =
        one_more_behind (NamesIn connection) put (leg, m) h.names
        (subst (λ (x : Message). NamesIn connection put (leg, x)) (sym is) (
          h.config,
          λ j number.
              began_before ClientIn is_conn_b1 BeginsIn wc ic b false w n put next h.began j
              (sym at ∙ number),
        ));
  }

  asks_at : (of wc ic : Cookie) (b : Bool) (w n : ℕ) (way : Way) (put : List OnLeg) (one : OnLeg)
      → passes is_conn_b1 one.1 ≡ false
      → one.1 ≡ Packet (InR1A1 PROTOCOL_VERSION of wc ic) → one.0.kind ≡ ClientIn
      → one.0.number ≡ n → is_in_way way ≡ true → Known of wc ic b false w n way put
      → Known of wc ic b true w n way (put ++ one ∷ [])
  asks_at of wc ic b w n InIsAsked put one other is k on at h =
      asks of wc ic b w n InIsAsked put one other is k on h.next h.next h
  asks_at of wc ic b w n InIsAnswered put one other is k on at h =
      absurd (true≢false (sym h.next.1))
  asks_at of wc ic b w n Free put one other is k on at h = absurd (true≢false (sym at))
  asks_at of wc ic b w n OutIsAsked put one other is k on at h = absurd (true≢false (sym at))
  asks_at of wc ic b w n OutIsAnswered put one other is k on at h = absurd (true≢false (sym at))
  asks_at of wc ic b w n OutIsSwitched put one other is k on at h = absurd (true≢false (sym at))
  asks_at of wc ic b w n OutIsFinished put one other is k on at h = absurd (true≢false (sym at))

  -- IN_R1/A5
  hands : (of wc ic : Cookie) (b a : Bool) (w n : ℕ) (put : List OnLeg) (one : OnLeg)
      → passes is_conn_b1 one.1 ≡ false → one.1 ≡ Packet (InR1A5 ic) → one.0.number ≡ w
      → Known of wc ic b a w n InIsAnswered put
      → Known of ic no_cookie a false n 0 Free (put ++ one ∷ [])
  hands of wc ic b a w n put (leg, m) other is on h =
      let next = h.next.0 in
      let behind : leg.number + 1 ≡ n = omega (arith, on, next) in
      record {
        config = h.config;
        began =
            began_more ClientIn is_conn_b1 BeginsIn ic no_cookie a false n 0 put (leg, m) other
            (began_follows ClientIn is_conn_b1 BeginsIn wc ic no_cookie b a w n 0 put h.next.1
            next h.began);
        next = tt;
        names =
            one_more_behind (NamesIn connection) put (leg, m) h.names
            (subst (λ (x : Message). NamesIn connection put (leg, x)) (sym is)
            (subst (λ (x : ℕ). HasBegunIn ic (of_leg (ci x) put)) (sym behind)
            (h.began.successor h.next.1)));
      }

  ins : EventsKeep Holds
  ins = record {
    comes = λ v came put one q h. h;
    goes = λ v came put one q o h. goes_unmarked v came put one q h;
    fills = λ v line came put past h. h;
    takes = λ v came put h. h;
    acks = λ v which ack came put one q is h. goes_unmarked v came put one q h;
    opens = λ v came put one q k o h. h;
    closes = λ v came put o h. h;
    ends = λ v came put e h. h;
    ups_writing = λ v cookie came put down h.
        ups v.connection v.writing_cookie v.in_cookie cookie v.writing_begun v.in_asked v.writing
        v.in_successor v.way put down h;
    ups_in = λ v cookie came put h.
        anew v.connection v.writing_cookie v.in_cookie cookie v.writing_begun false v.writing
        v.in_successor v.in_successor v.way v.way put (λ next. next) h;
    ups_current = λ v cookie came put down h. h;
    ups_out = λ v cookie came put h. h;
    begins_writing = λ v came put one q greets of is k at h.
        begins_first v.connection v.writing_cookie v.in_cookie v.in_asked v.writing v.in_successor
        v.way put one (ap (λ (m : Marks). m.begins_in) q) of is k at h;
    begins_current = λ v came put one q greets of is k at h.
        goes v came put one (ap (λ (m : Marks). m.begins_in) q)
        (ap (λ (m : Marks). m.asks_in) q) (ap (λ (m : Marks). m.hands_over) q) h;
    wants_in = λ v came put o l h. h;
    wants_out = λ v came put one q k o w l h. h;
    begins_in = λ v came put w l h.
        anew v.connection v.writing_cookie v.in_cookie no_cookie v.writing_begun v.in_asked
        v.writing v.in_successor (v.writing + 1) Free InIsAsked put (λ next. refl) h;
    begins_out = λ v came put w l h. turns v Free OutIsAsked came put (λ next. tt) h;
    drops_in = λ v came put w l h. h;
    drops_out = λ v came put w l h. h;
    asks_in = λ v came put one q is k on at h.
        asks_at v.connection v.writing_cookie v.in_cookie v.writing_begun v.writing v.in_successor
        v.way put one (ap (λ (m : Marks). m.begins_in) q) is k on at h;
    answers_in = λ v came put one q k asked h.
        turns v InIsAsked InIsAnswered came put (λ next. (next, asked)) h;
    hands_over = λ v w e came put one q is k on h.
        hands v.connection v.writing_cookie v.in_cookie v.writing_begun v.in_asked v.writing
        v.in_successor put one (ap (λ (m : Marks). m.begins_in) q) is on h;
    asks_out = λ v window came put one q is k on at h.
        goes v came put one (ap (λ (m : Marks). m.begins_in) q)
        (ap (λ (m : Marks). m.asks_in) q) (ap (λ (m : Marks). m.hands_over) q) h;
    answers_out = λ v came put one q k on asked h.
        turns v OutIsAsked OutIsAnswered came put (λ next. tt) h;
    switches = λ v came put one q is k h.
        goes (record v { way = OutIsSwitched }) came put one (ap (λ (m : Marks). m.begins_in) q)
        (ap (λ (m : Marks). m.asks_in) q) (ap (λ (m : Marks). m.hands_over) q)
        (turns v OutIsAnswered OutIsSwitched came put (λ next. tt) h);
    finishes = λ v came put one q k on h.
        turns v OutIsSwitched OutIsFinished came put (λ next. tt) h;
    succeeds = λ v came put h. turns v OutIsFinished Free came put (λ next. tt) h;
  }

  asked : (n v : ℕ) (of predecessor successor : Cookie) (put : List OnLeg)
      → EachBehind (NamesIn connection) [] put
      → Has (InR1A1 v of predecessor successor) (of_leg (ci n) put)
      → (of ≡ connection) × HasBegunIn successor (of_leg (ci n) put)
      × ((k : ℕ) → n ≡ k + 1 → 2 ≤ k → HasBegunIn predecessor (of_leg (ci k) put))
  asked n v of predecessor successor put names has =
      let m = InR1A1 v of predecessor successor in
      let f = found (NamesIn connection) (ci n) m [] put names has in (
        f.so.0,
        has_one (BeginsIn successor) m (of_leg (ci n) put) refl has,
        λ k number low. subst (λ (log : List OnLeg). HasBegunIn predecessor (of_leg (ci k) log))
            (sym f.joined)
            (still_has_all (BeginsIn predecessor) (ci k) f.before f.rest
            (f.so.1 k (f.number ∙ number) (inl low))),
      )

  handed : (n : ℕ) (successor : Cookie) (put : List OnLeg)
      → EachBehind (NamesIn connection) [] put → Has (InR1A5 successor) (of_leg (ci n) put)
      → HasBegunIn successor (of_leg (ci (n + 1)) put)
  handed n successor put names has =
      let f = found (NamesIn connection) (ci n) (InR1A5 successor) [] put names has in
      subst (λ (log : List OnLeg). HasBegunIn successor (of_leg (ci (n + 1)) log)) (sym f.joined)
      (still_has_all (BeginsIn successor) (ci (n + 1)) f.before f.rest
      (subst (λ (x : ℕ). HasBegunIn successor (of_leg (ci (x + 1)) f.before)) f.number f.so))

  named : (p : Passage ClientRole) → Holds (view p.role) p.came p.put → ReplacesIns p
      → NamesIns connection p
  named p h replaces =
      let all = h.began.firsts.all in
      let most = h.began.most in
      let once : total is_conn_b1 ClientIn p.put ≤ 1 = omega (arith, all, most) in
      let on = stands_on is_conn_b1 ClientIn 1 h.began.count p.put h.began.firsts in
      record {
        names = h.names;
        once = once;
        begins_on = on;
        one = one_in_cookie p.put once on replaces.asks_on;
        asks = λ n v of pre suc has. asked n v of pre suc p.put h.names has;
        hands_over = λ n suc has. handed n suc p.put h.names has;
      }

pub names_ins : (config : ClientConfig) (moves : List EndMove)
    → AreAllowedAtEnd rules acts (end_started (first config)) moves
    → NamesIns config.connection
    (all_end_moved rules acts (end_started (first config)) moves).passage
names_ins config moves allowed =
    let of = config.connection in
    named of (all_end_moved rules acts (end_started (first config)) moves).passage
    (allowed_moves_keep rules acts (keeps.Holds (Holds of) (ins of))
    (client_keeps (Holds of) (ins of)) (end_started (first config)) moves allowed
    (record {
      config = refl;
      began = began_not ClientIn is_conn_b1 BeginsIn no_cookie no_cookie 0;
      next = tt;
      names = tt;
    }))
    (replaces_ins config moves allowed)
