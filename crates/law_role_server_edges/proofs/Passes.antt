-- each row of a server keeps the greatest edges of the acknowledgements that it passes on
use Rattle.rh_keep.specs.Meters.{started}
use Rattle.law_order.proofs.Vocabulary.{◌≡◌, ℕ, ◌+◌, ◌≤◌, ◌==◌, max, List, [], ◌∷◌, ◌++◌, Bool, true, false, true≢false, ◌&&◌, not, Some, None, Ok, Err, arith, refl, sym, ap, subst, and_parts, bytes_eq, eqb-true, if◌then◌else◌, nat_tests, slice_get, slice_set, Option}
use Rattle.rh_sig.specs.declared.named.Named.TheVariants as named
use Rattle.rh_shell.specs.declared.answers.Refused.TheVariants as refused
use Rattle.rh_server.specs.Servers.{pdu_by}
use Rattle.rh_server.specs.declared.out_line.Kind.TheVariants as kind
use Rattle.rh_server.specs.declared.state.Stage.TheVariants as stages
use Rattle.law_moves.proofs.Vocabulary.{unsent, after_acked, by_test, Cookie, Named, LegKind, ClientOut, OutServer, ClientIn, InServer, Count, Pdu, Packet, one_if, Waiting, Key, edge_of, forwarded, own, takes, OnLeg}
use Rattle.law_moves.proofs.Lemmas.{RowKeeps}
use Rattle.law_moves.specs.Merging.{Raises, acknowledges, greatest, told}
use Rattle.law_role_server.proofs.Vocabulary.{OutLeg, Stage, Server, has as waits_so, waits, same_cookie, out_at, out_place, out_cookie, Done, took, refuse, unexpected, is_first, opens, first_out_at, with_first_out, conn_a2_at, on_conn_a2, is_of_channel, out_server, is_full, forward_by, forwards, forwards_writing, forwards_to, channel_leg, on_ack_to, acked_at, acked_in, acked_cookie, on_ack, answered_by, answered_on, out_r1_a4_by, out_r1_a4_at, may_answer, on_out_r1_a4, on_conn_b2, on_in_r1_a2, on_in_r1_a6, on_in_r2_a2, on_out_r1_a8, on_end_a2, on_is, on_os, packet_by, leg_at}
use Rattle.law_role_edges.specs.Passing.{greatest_in, told_in}
use Rattle.law_role_server_edges.proofs.Adds.{Seen, seen, Adds, adds_conn_b2, adds_end_a2, adds_in_r1_a2, adds_in_r1_a6, adds_in_r2_a2, adds_out_r1_a8, adds_pdu}
use Rattle.law_role_server_edges.proofs.Begins.{same_so}
use Rattle.law_role_server_edges.proofs.Cookies.{kept, kept_set, none_leg}
use Rattle.law_role_server_edges.proofs.Edges.{Rises, rises_push, greatest_last, began, began_last, since_none, since_last}
use Rattle.law_role_server_edges.specs.Passing.{begins_on, since, to_client, to_out_proxy}

module _ (raising : (w : Waiting) (packet : Named) (key : Key) → Raises w packet key)
    (cookie : Cookie) where
  abbrev pub client : Key
  client = to_client cookie

  abbrev pub proxy : Key
  proxy = to_out_proxy cookie

  pub record Passes (x : Seen) (came put : List OnLeg) : Type 0 where
    pub for_client : greatest_in client came
        ≤ max (greatest client x.waiting.due) (greatest_in client put)
    -- each leg of the cookie had it from a packet that came
    pub few : kept cookie x.outs ≤ began cookie came
    pub for_proxy : began cookie came ≤ 1 → 1 ≤ kept cookie x.outs
        → greatest_in proxy (since cookie came)
        ≤ max (greatest proxy x.waiting.due) (greatest_in proxy put)

  abbrev pub Holds : Server → List OnLeg → List OnLeg → Type 0
  Holds s came put = Passes (seen s) came put

  -- ---- other states, and more that came or was put

  pub stays : (x y : Seen) (came put : List OnLeg)
      → greatest client x.waiting.due ≤ greatest client y.waiting.due
      → (began cookie came ≤ 1 → 1 ≤ kept cookie y.outs
      → greatest proxy x.waiting.due ≤ greatest proxy y.waiting.due)
      → kept cookie y.outs ≤ kept cookie x.outs → Passes x came put → Passes y came put
  stays x y came put rises rises_so fewer h = record {
    for_client = let was = h.for_client in grind (arith, nat_tests, was, rises);
    few = let was = h.few in omega (arith, was, fewer);
    for_proxy = λ once some.
        let was = h.for_proxy once (omega (arith, some, fewer)) in
        let more = rises_so once some in grind (arith, nat_tests, was, more);
  }

  -- what came tells no more than waits
  pub came_one : (x y : Seen) (came put : List OnLeg) (one : OnLeg)
      → Rises x.waiting.due y.waiting.due
      → kept cookie y.outs ≤ kept cookie x.outs + one_if (begins_on cookie one)
      → told_in client one.1 ≤ greatest client y.waiting.due
      → (1 ≤ kept cookie y.outs → told_in proxy one.1 ≤ greatest proxy y.waiting.due)
      → Passes x came put → Passes y (came ++ one ∷ []) put
  came_one x y came put one rises fewer reached reached_so h = record {
    for_client =
        let last = greatest_last client came one in
        let was = h.for_client in
        let more = rises client in grind (arith, nat_tests, last, was, more, reached);
    few = let was = h.few in omega (arith, was, fewer, all);
    for_proxy = λ once some. by once some (begins_on cookie one) refl;
  }
    where
      all : began cookie (came ++ one ∷ []) ≡ began cookie came + one_if (begins_on cookie one)
      all = began_last cookie came one

      by : began cookie (came ++ one ∷ []) ≤ 1 → 1 ≤ kept cookie y.outs → (b : Bool)
          → begins_on cookie one ≡ b
          → greatest_in proxy (since cookie (came ++ one ∷ []))
          ≤ max (greatest proxy y.waiting.due) (greatest_in proxy put)
      by once some true e =
          let is = ap one_if e in
          let none = ap (greatest_in proxy)
          (since_none cookie came (omega (arith, once, all, is))) in
          let last = since_last cookie proxy came one in
          let here = reached_so some in grind (arith, nat_tests, none, last, here)
      by once some false e =
          let is = ap one_if e in
          let was = h.for_proxy (omega (arith, once, all, is)) (omega (arith, some, fewer, is)) in
          let last = since_last cookie proxy came one in
          let more = rises proxy in
          let here = reached_so some in grind (arith, nat_tests, was, last, more, here)

  pub put_one : (x y : Seen) (came put : List OnLeg) (one : OnLeg)
      → ((key : Key)
      → greatest key x.waiting.due ≤ max (greatest key y.waiting.due) (told_in key one.1))
      → kept cookie y.outs ≤ kept cookie x.outs → Passes x came put
      → Passes y came (put ++ one ∷ [])
  put_one x y came put one goes fewer h = record {
    for_client =
        let last = greatest_last client put one in
        let was = h.for_client in
        let gone = goes client in grind (arith, nat_tests, last, was, gone);
    few = let was = h.few in omega (arith, was, fewer);
    for_proxy = λ once some.
        let last = greatest_last proxy put one in
        let was = h.for_proxy once (omega (arith, some, fewer)) in
        let gone = goes proxy in grind (arith, nat_tests, last, was, gone);
  }

  pub adds_stays : (s t : Server) (came put : List OnLeg) → Adds s t → Holds s came put
      → Holds t came put
  adds_stays s t came put adds =
      stays (seen s) (seen t) came put (adds.0 client) (λ once some. adds.0 proxy)
      (let same = ap (kept cookie) adds.1 in omega (arith, same))

  -- ---- rows

  -- one that tells nothing
  quiet_row : (s : Server) (one : OnLeg) (came put : List OnLeg) (x : Done)
      → Rises s.waiting.due x.0.waiting.due → kept cookie x.0.outs ≤ kept cookie s.outs
      → told_in client one.1 ≡ 0 → told_in proxy one.1 ≡ 0 → Holds s came put
      → RowKeeps Holds one came put x
  quiet_row s one came put (t, Ok taken) rises fewer none none_so h =
      came_one (seen s) (seen t) came put one rises (omega (arith, fewer)) (omega (arith, none))
      (λ some. omega (arith, none_so)) h
  quiet_row s one came put (t, Err why) rises fewer none none_so h =
      stays (seen s) (seen t) came put (rises client) (λ once some. rises proxy) fewer h

  adds_row : (s : Server) (one : OnLeg) (came put : List OnLeg) (x : Done) → Adds s x.0
      → told_in client one.1 ≡ 0 → told_in proxy one.1 ≡ 0 → Holds s came put
      → RowKeeps Holds one came put x
  adds_row s one came put x adds =
      quiet_row s one came put x adds.0
      (let same = ap (kept cookie) adds.1 in omega (arith, same))

  pub pdu_row : (s : Server) (n : ℕ) (k : LegKind) (bytes : List ℕ) (came put : List OnLeg)
      → Holds s came put
      → RowKeeps Holds (leg_at k n, Pdu bytes) came put (pdu_by s n bytes k)
  pdu_row s n k bytes came put =
      adds_row s (leg_at k n, Pdu bytes) came put (pdu_by s n bytes k) (adds_pdu s n bytes k) refl
      refl

  -- ---- acknowledgements that are passed on

  module _ (s : Server) (n : ℕ) (m : Named) (came put : List OnLeg) (h : Holds s came put) where
    abbrev Row : Done → Type 0
    Row x = RowKeeps Holds (leg_at InServer n, Packet m) came put x

    -- as another one that tells as much
    forward_row : (k : ℕ) (packet : Named) → ((key : Key) → told key m ≤ told key packet)
        → Row (forwards s k packet)
    forward_row k packet tells = by (forwarded s.waiting packet) refl
      where
        by : (r : Waiting × Bool) → forwarded s.waiting packet ≡ r → Row (forward_by s k r)
        by (w, true) e =
            came_one (seen s) (record { waiting = w; outs = s.outs }) came put
            (leg_at InServer n, Packet m)
            (λ key. subst (λ (r : Waiting × Bool). greatest key s.waiting.due
            ≤ greatest key r.0.due) e (raising s.waiting packet key).kept)
            (omega arith) (reached client) (λ some. reached proxy) h
          where
            reached : (key : Key) → told key m ≤ greatest key w.due
            reached key =
                let tells_so = tells key in
                let is = subst (λ (r : Waiting × Bool). r.1 ≡ true
                → told key packet ≤ greatest key r.0.due) e
                (raising s.waiting packet key).reached refl in omega (arith, tells_so, is)
        by (w, false) e = h

    writing_row : (packet : Named) → ((key : Key) → told key m ≤ told key packet)
        → Row (forwards_writing s packet)
    writing_row packet tells =
        by_test Row (is_full s && not (waits_so (takes packet) s.waiting))
        (refuse s (refused.Full (out_server s.writing))) (forwards s s.writing packet)
        (λ e. h) (λ e. forward_row s.writing packet tells)

    -- where the leg is found; else no leg has the cookie
    to_row : (packet : Named) → ((key : Key) → told key m ≤ told key packet)
        → told client m ≡ 0 → (o : Option ℕ)
        → (o ≡ None → 1 ≤ kept cookie s.outs → told proxy m ≡ 0) → Row (forwards_to s packet o)
    to_row packet tells none None over =
        came_one (seen s) (seen s) came put (leg_at InServer n, Packet m) (λ key. omega arith)
        (omega arith) (omega (arith, none))
        (λ some. let zero = over refl some in omega (arith, zero)) h
    to_row packet tells none (Some k) over =
        by_test Row (k == s.writing) (forwards_writing s packet) (forwards s k packet)
        (λ e. writing_row packet tells) (λ e. forward_row k packet tells)

  module _ (s : Server) (n : ℕ) (count : Count) (came put : List OnLeg) (h : Holds s came put)
    where
      -- of a cookie that no leg has
      passed_over : (received available : ℕ) (c : Cookie) → channel_leg c s.outs ≡ None
          → 1 ≤ kept cookie s.outs → told proxy (named.AckTo 3 received available c) ≡ 0
      passed_over received available c none some =
          by_test (λ (k : ℕ). k ≡ 0) (acknowledges proxy packet) (edge_of packet) 0
          (λ e.
          let is = same_so c cookie (and_parts (3 == 3) (bytes_eq c.0 cookie.0) e).1 in
          let zero = none_leg cookie s.outs
          (subst (λ (d : Cookie). channel_leg d s.outs ≡ None) is none) in
          absurd (omega (arith, zero, some)))
          (λ e. refl)
        where
          packet : Named
          packet = named.AckTo 3 received available c

      ack_row : (to received available : ℕ) (c : Cookie)
          → RowKeeps Holds (leg_at InServer n, Packet (named.AckTo to received available c)) came put
          (on_ack_to s count to received available c)
      ack_row to received available c =
          by_test (Row to) (is_first count) (unexpected s) other (λ e. h)
          (λ e. by_test (Row to) (to == 0) (forwards_writing s (named.AckTo 0 received available c))
          third
          (λ f. subst (λ (k : ℕ).
          Row k (forwards_writing s (named.AckTo 0 received available c)))
          (sym (eqb-true to 0 f))
          (writing_row s n (named.AckTo 0 received available c) came put h
          (named.AckTo 0 received available c) (λ key. omega arith)))
          (λ f. by_test (Row to) (to == 3)
          (forwards_to s (named.AckTo 3 received available c) (channel_leg c s.outs)) (unexpected s)
          (λ g. subst (λ (k : ℕ). Row k
          (forwards_to s (named.AckTo 3 received available c) (channel_leg c s.outs)))
          (sym (eqb-true to 3 g))
          (to_row s n (named.AckTo 3 received available c) came put h
          (named.AckTo 3 received available c) (λ key. omega arith) refl (channel_leg c s.outs)
          (passed_over received available c)))
          (λ g. h)))
        where
          Row : ℕ → Done → Type 0
          Row k x =
              RowKeeps Holds (leg_at InServer n, Packet (named.AckTo k received available c)) came put
              x

          third : Done
          third =
              if to == 3
              then forwards_to s (named.AckTo 3 received available c) (channel_leg c s.outs)
              else unexpected s

          other : Done
          other =
              if to == 0 then forwards_writing s (named.AckTo 0 received available c) else third

      is_row : (m : Named) → RowKeeps Holds (leg_at InServer n, Packet m) came put
          (on_is s n count m)
      is_row (named.ConnB2 v1 v2 v3 v4 v5 v6 v7 v8) =
          adds_row s (leg_at InServer n, Packet (named.ConnB2 v1 v2 v3 v4 v5 v6 v7 v8)) came put
          (on_conn_b2 s n count v2 v3 v4 v5) (adds_conn_b2 s n count v2 v3 v4 v5) refl refl h
      is_row (named.InR1A2 v1 v2 v3 v4 v5 v6) =
          adds_row s (leg_at InServer n, Packet (named.InR1A2 v1 v2 v3 v4 v5 v6)) came put
          (on_in_r1_a2 s n count v2 v3 v4 v5 v6) (adds_in_r1_a2 s n count v2 v3 v4 v5 v6) refl refl h
      is_row (named.InR1A6 v1) =
          adds_row s (leg_at InServer n, Packet (named.InR1A6 v1)) came put (on_in_r1_a6 s n v1)
          (adds_in_r1_a6 s n v1) refl refl h
      is_row (named.InR2A2 v1) =
          adds_row s (leg_at InServer n, Packet (named.InR2A2 v1)) came put
          (on_in_r2_a2 s n count v1) (adds_in_r2_a2 s n count v1) refl refl h
      is_row (named.AckTo v1 v2 v3 v4) = ack_row v1 v2 v3 v4
      is_row (named.OutR1A8 v1 v2) =
          adds_row s (leg_at InServer n, Packet (named.OutR1A8 v1 v2)) came put
          (on_out_r1_a8 s count v1 v2) (adds_out_r1_a8 s count v1 v2) refl refl h
      is_row named.EndA2 =
          adds_row s (leg_at InServer n, Packet named.EndA2) came put (on_end_a2 s n count)
          (adds_end_a2 s n count) refl refl h
      is_row m = h

  -- ---- CONN/A2 and OUT_R1/A4

  -- a leg has another cookie
  set_few : (legs : List OutLeg) (place : ℕ) (x y : OutLeg) (c : Cookie)
      → slice_get legs place ≡ Some x → y.cookie ≡ Some c
      → kept cookie (slice_set legs place y) ≤ kept cookie legs + one_if (same_cookie c cookie)
  set_few legs place x y c at is =
      let all = kept_set cookie legs place x y at in
      let one = ap (λ (o : Option Cookie). one_if (is_of_channel cookie o)) is in
      omega (arith, all, one)

  module _ (s : Server) (n : ℕ) (count : Count) (came put : List OnLeg) (h : Holds s came put)
    where
      first_few : (c : Cookie) (lifetime window : ℕ) (place : Option ℕ) (o : Option OutLeg)
          → out_at s.outs place ≡ o
          → kept cookie (first_out_at s c lifetime window place o).outs
          ≤ kept cookie s.outs + one_if (same_cookie c cookie)
      first_few c lifetime window None o at = omega arith
      first_few c lifetime window (Some place) None at = omega arith
      first_few c lifetime window (Some place) (Some x) at =
          set_few s.outs place x (record x {
            cookie = Some c;
            window = unsent window;
            meter = started lifetime 28;
          }) c at refl

      first_waits : (c : Cookie) (lifetime window : ℕ) (place : Option ℕ) (o : Option OutLeg)
          → (first_out_at s c lifetime window place o).waiting ≡ s.waiting
      first_waits c lifetime window None o = refl
      first_waits c lifetime window (Some place) None = refl
      first_waits c lifetime window (Some place) (Some x) = refl

      conn_a2_row : (v : ℕ) (a b : Cookie) (c d : ℕ)
          → RowKeeps Holds (leg_at OutServer n, Packet (named.ConnA2 v a b c d)) came put
          (on_conn_a2 s n count a b c d)
      conn_a2_row v a b c d =
          by_test Row (is_first count && ((n == 1) && not (waits kind.ConnC1 s.waiting)))
          (conn_a2_at s s.stage a b c d) (unexpected s) (λ e. by s.stage) (λ e. h)
        where
          one : OnLeg
          one = (leg_at OutServer n, Packet (named.ConnA2 v a b c d))

          Row : Done → Type 0
          Row x = RowKeeps Holds one came put x

          t : Server
          t = with_first_out s b c d

          few : kept cookie t.outs ≤ kept cookie s.outs + one_if (same_cookie b cookie)
          few = first_few b c d (out_place 1 s.outs) (out_at s.outs (out_place 1 s.outs)) refl

          same : t.waiting ≡ s.waiting
          same = first_waits b c d (out_place 1 s.outs) (out_at s.outs (out_place 1 s.outs))

          began_so : (w : Waiting) → Rises t.waiting.due w.due
              → Passes (record { waiting = w; outs = t.outs }) (came ++ one ∷ []) put
          began_so w rises =
              came_one (seen s) (record { waiting = w; outs = t.outs }) came put one
              (λ key.
              let more = rises key in
              let is = ap (λ (x : Waiting). greatest key x.due) same in omega (arith, more, is))
              few (omega arith) (λ some. omega arith) h

          by : (at : Stage) → Row (conn_a2_at s at a b c d)
          by stages.Waits = began_so t.waiting (λ key. omega arith)
          by (stages.InCame known in_window timeout) =
              by_test Row (same_cookie known a) (took (opens t known in_window timeout))
              (refuse s (refused.Cookie known a))
              (λ e. began_so (opens t known in_window timeout).waiting
              (rises_push t.waiting.due (own (named.ConnC1 1 in_window timeout))))
              (λ e. h)
          by (stages.OutCame known) = h
          by (stages.Open known) = h
          by stages.Ended = h

      a4_row : (v : ℕ) (a b c : Cookie) (d e f : ℕ)
          → RowKeeps Holds (leg_at OutServer n, Packet (named.OutR1A4 v a b c d e f)) came put
          (on_out_r1_a4 s n count a b c d e f)
      a4_row v a b c d e f =
          by_test Row (may_answer s n count) (out_r1_a4_at s s.stage n a b c d e f) (unexpected s)
          (λ g. by_stage s.stage) (λ g. h)
        where
          one : OnLeg
          one = (leg_at OutServer n, Packet (named.OutR1A4 v a b c d e f))

          Row : Done → Type 0
          Row x = RowKeeps Holds one came put x

          answers : (place : Option ℕ) (o : Option OutLeg) → out_at s.outs place ≡ o
              → Row (answered_by s c d e f place o)
          answers None o at = h
          answers (Some place) None at = h
          answers (Some place) (Some x) at =
              came_one (seen s) (record { waiting = w; outs = slice_set s.outs place y }) came put one
              (rises_push s.waiting.due (own (named.OutR1A5 0 1 f)))
              (set_few s.outs place x y c at refl) (omega arith) (λ some. omega arith) h
            where
              y : OutLeg
              y = record x { cookie = Some c; window = unsent e; meter = started d 0 }

              w : Waiting
              w = (answered_by s c d e f (Some place) (Some x)).0.waiting

          by_writing : (known : Cookie) (o : Option Cookie)
              → Row (out_r1_a4_by s n known a b c d e f o)
          by_writing known None = h
          by_writing known (Some writing) =
              by_test Row (not (same_cookie known a)) (refuse s (refused.Cookie known a)) _ (λ g. h)
              (λ g. by_test Row (not (same_cookie writing b)) (refuse s (refused.Cookie writing b))
              (answered_on s n c d e f) (λ i. h)
              (λ i. answers (out_place n s.outs) (out_at s.outs (out_place n s.outs)) refl))

          by_stage : (at : Stage) → Row (out_r1_a4_at s at n a b c d e f)
          by_stage (stages.Open known) = by_writing known (out_cookie s.writing s.outs)
          by_stage stages.Waits = h
          by_stage (stages.OutCame connection) = h
          by_stage (stages.InCame connection in_window timeout) = h
          by_stage stages.Ended = h

      -- ---- acknowledgements from an out proxy

      acked_row : (received available : ℕ) (c : Cookie)
          → RowKeeps Holds (leg_at OutServer n, Packet (named.Ack received available c)) came put
          (on_ack s n count received available c)
      acked_row received available c =
          by_test Row (is_first count) (unexpected s) _ (λ e. h)
          (λ e. by_cookie (out_cookie n s.outs))
        where
          one : OnLeg
          one = (leg_at OutServer n, Packet (named.Ack received available c))

          Row : Done → Type 0
          Row x = RowKeeps Holds one came put x

          by_leg : (place : ℕ) (o : Option OutLeg) → slice_get s.outs place ≡ o
              → Row (acked_at s place received available o)
          by_leg place None at = h
          by_leg place (Some x) at =
              quiet_row s one came put (acked_at s place received available (Some x))
              (λ key. omega arith)
              (let all = kept_set cookie s.outs place x
              (record x { window = after_acked x.window received available }) at in
              omega (arith, all)) refl refl h

          by_place : (place : Option ℕ) → Row (acked_in s received available place)
          by_place None = h
          by_place (Some place) = by_leg place (slice_get s.outs place) refl

          by_cookie : (o : Option Cookie) → Row (acked_cookie s n received available c o)
          by_cookie None = h
          by_cookie (Some channel) =
              by_test Row (same_cookie channel c) _ (refuse s (refused.Cookie channel c))
              (λ e. by_place (out_place n s.outs)) (λ e. h)

      os_row : (m : Named) → RowKeeps Holds (leg_at OutServer n, Packet m) came put
          (on_os s n count m)
      os_row (named.ConnA2 v1 v2 v3 v4 v5) = conn_a2_row v1 v2 v3 v4 v5
      os_row (named.OutR1A4 v1 v2 v3 v4 v5 v6 v7) = a4_row v1 v2 v3 v4 v5 v6 v7
      os_row (named.Ack v1 v2 v3) = acked_row v1 v2 v3
      os_row (named.PingTraffic v1) =
          by_test (RowKeeps Holds (leg_at OutServer n, Packet (named.PingTraffic v1)) came put)
          (is_first count) (unexpected s) (took s) (λ e. h)
          (λ e. quiet_row s (leg_at OutServer n, Packet (named.PingTraffic v1)) came put (took s)
          (λ key. omega arith) (omega arith) refl refl h)
      os_row m = h

  pub packet_row : (s : Server) (n : ℕ) (count : Count) (m : Named) (k : LegKind)
      (came put : List OnLeg) → Holds s came put
      → RowKeeps Holds (leg_at k n, Packet m) came put (packet_by s n count m k)
  packet_row s n count m InServer came put h = is_row s n count came put h m
  packet_row s n count m OutServer came put h = os_row s n count came put h m
  packet_row s n count m ClientIn came put h = h
  packet_row s n count m ClientOut came put h = h
