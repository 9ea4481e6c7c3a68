-- a server passes on the acknowledgements of in proxies and of the client
use Rattle.law_order.proofs.Vocabulary.{◌≡◌, ℕ, ◌==◌, Bool, true, false, not, ◌&&◌, List, [], ◌∷◌, ◌++◌, Some, None, refl, rules, ap, subst, eqb-true, if◌then◌else◌, IfSome, slice_get, AllByRecursion, Option}
use Rattle.rh_sig.specs.declared.named.Named.TheVariants as named
use Rattle.rh_shell.specs.declared.answers.Refused.TheVariants as refused
use Rattle.rh_server.specs.declared.state.Stage.{Stage}
use Rattle.rh_server.specs.declared.state.InLeg.{InLeg}
use Rattle.rh_server.specs.declared.state.OutLeg.{OutLeg}
use Rattle.rh_server.specs.OutLines.{Gate, lets, has, waits}
use Rattle.rh_server.specs.States.{Server, is_due, is_open, is_fresh, same_cookie, in_leg, out_place, with_in}
use Rattle.rh_server.specs.Opening.{Done, took, refuse, unexpected, is_first, up, opens, on_conn_a2, with_first_in, conn_b2_at, on_conn_b2}
use Rattle.rh_server.specs.Acknowledging.{forward_by, forwards, forwards_writing, forwards_to, channel_leg, is_full, out_server, on_ack_to, on_ack, on_ping_traffic}
use Rattle.rh_server.specs.InReplacement.{take, announced, in_r1_a2_by, in_r1_a2_at, on_in_r1_a2, has_fresh_below, on_in_r1_a6, on_in_r2_a2}
use Rattle.rh_server.specs.OutReplacement.{recycle, on_out_r1_a4, on_out_r1_a8}
use Rattle.rh_server.specs.Ending.{give, on_end_a2, settled, drawn, mark}
use Rattle.rh_server.specs.Putting.{Pick, or_else, told_by, was_current, put_in_greeting, put_tells_by, put_tells, put_b1_by, put_b1, put_ack_by, put_ack, ack_due, put_in_by, out_greeting_at, put_out_greeting, was_put, waiting_by, waiting_at, put_waiting, gate_at, pdu_by, put_pdu, put_end, put_pdu_or_end, next_out, settled_pick, put_open, put_out_at, put_by}
use Rattle.rh_server.specs.declared.state.Greeting.TheVariants.{Put}
use Rattle.rh_server.specs.declared.state.Leaving.{Leaving}
use Rattle.rh_server.specs.declared.state.Tells.{Tells}
use Rattle.rh_server.specs.Servers.{acts, first, pdu, packet_by, on_is, on_os, rules as server_rules}
use Rattle.rh_server.specs.declared.state.Stage.TheVariants as stage
use Rattle.rh_server.specs.declared.state.InStage.TheVariants as in_stage
use Rattle.rh_server.specs.declared.out_line.Kind.TheVariants as kind
use Rattle.rh_server.specs.declared.state.Leaving.TheVariants as leaving
use Rattle.rh_server.specs.declared.state.Tells.TheVariants as tells
use Rattle.law_moves.proofs.Vocabulary.{Ack, by_test, Cookie, Named, Leg, LegKind, ClientOut, OutServer, ClientIn, InServer, front_length, after_take, Count, Due, greeting as greeting_text, Message, Text, Pdu, Packet, kind_number, is_of, Waiting, takes, taken, forwarded, OnLeg, EndMove, end_started, all_end_moved, HasOn}
use Rattle.law_moves.proofs.Lemmas.{RowKeeps, PutKeeps, StepsKeep, ActsKeep, end_moves_keep}
use Rattle.law_role_windows.proofs.Acknowledging.Waiting.{Joins, forwarded_joins, others_are, found_is}
use Rattle.law_role_windows.proofs.Acknowledging.Sources.{IsFrom, has_on_last, tells_on_last, from_stays}
use Rattle.law_role_windows.proofs.Acknowledging.ServerSounds.{Seen, seen, OfLeg, found}
use Rattle.law_role_windows.proofs.Acknowledging.Passing as passing
use Rattle.law_role_windows.proofs.Acknowledging.ServerSounds as sounds
use Rattle.law_role_windows.specs.Acknowledging.Acks.{OfPacket}
use Rattle.law_role_windows.specs.Acknowledging.Windows.{TellsOn, ByConnB2, ByInR1A2}

of_server : (leg : Leg) → leg.kind ≡ InServer → is_of InServer leg ≡ true
of_server leg is = ap (λ (kind : LegKind). kind_number InServer == kind_number kind) is

module _ (to : ℕ) where
  abbrev Is : List OnLeg → Named → Type 0
  Is = sounds.Is to

  abbrev Sound : List OnLeg → Seen → Type 0
  Sound = sounds.Sound to

  abbrev Holds : Server → List OnLeg → List OnLeg → Type 0
  Holds = passing.Holds seen Is Sound

  abbrev Same : Server → Server → Type 0
  Same = sounds.Same to

  abbrev Keeps : Server → Server → Type 0
  Keeps = sounds.Keeps to

  keeps_holds : (s t : Server) (came put : List OnLeg) → Keeps s t → Holds s came put
      → Holds t came put
  keeps_holds = passing.keeps_holds seen Is Sound

  keeps_same : (s t : Server) → Same s t → Keeps s t
  keeps_same = sounds.keeps_same to

  -- ---- what leaves these alone

  same_ack : (s : Server) (number : ℕ) (count : Count) (received window : ℕ) (cookie : Cookie)
      → Same s (on_ack s number count received window cookie).0
  same_ack s number count received window cookie = search rules

  same_pdu : (s : Server) (leg : Leg) (count : Count) (bytes : List ℕ)
      → Same s (pdu s leg count bytes).0
  same_pdu s leg count bytes = search rules

  same_traffic : (s : Server) (count : Count) → Same s (on_ping_traffic s count).0
  same_traffic s count = search rules

  same_give : (s : Server) (bytes : List ℕ) → Same s (give s bytes).0
  same_give s bytes = search rules

  same_told : (s : Server) (number : ℕ) → Same s (told_by s number)
  same_told s number = search rules

  -- ---- a row

  module _ (leg : Leg) (m : Named) (came put : List OnLeg) where
    abbrev Row : Done → Type 0
    Row x = RowKeeps Holds (leg, Packet m) came put x

    abbrev after : List OnLeg
    after = came ++ (leg, Packet m) ∷ []

    keep_row : (s : Server) → Holds s came put → (x : Done) → Keeps s x.0 → Row x
    keep_row s h =
        passing.keep_row seen Is Sound (from_stays InServer to 0) (sounds.sound_stays to) s
        (leg, Packet m) came put h

    -- where it is taken and changes nothing
    more : (s : Server) → Holds s came put → Holds s after put
    more s h = keep_row s h (took s) (λ log all. all)

    forward_row : (s : Server) → Holds s came put → (n : ℕ) (named : Named) → Is after named
        → Row (forwards s n named)
    forward_row s h n named is =
        by (forwarded s.waiting named) (forwarded_joins (Is after) s.waiting named)
      where
        k : Holds s after put
        k = more s h

        by : (r : Waiting × Bool) → Joins (Is after) named s.waiting r → Row (forward_by s n r)
        by (w, true) joins = (
          record {
            packets = joins is k.0.packets;
            opening = k.0.opening;
            legs = k.0.legs;
          },
          k.1,
        )
        by (w, false) same = h

    writing_row : (s : Server) → Holds s came put → (named : Named)
        → Is after named → Row (forwards_writing s named)
    writing_row s h named is =
        by_test Row (is_full s && not (has (takes named) s.waiting))
        (refuse s (refused.Full (out_server s.writing))) (forwards s s.writing named)
        (λ t. h) (λ t. forward_row s h s.writing named is)

    to_row : (s : Server) → Holds s came put → (named : Named) → Is after named
        → (o : Option ℕ) → Row (forwards_to s named o)
    to_row s h named is None = more s h
    to_row s h named is (Some n) =
        by_test Row (n == s.writing) (forwards_writing s named) (forwards s n named)
        (λ t. writing_row s h named is) (λ t. forward_row s h n named is)

  ack_row : (s : Server) (leg : Leg) (count : Count) (destination received window : ℕ)
      (cookie : Cookie) (came put : List OnLeg) → leg.kind ≡ InServer → Holds s came put
      → Row leg (named.AckTo destination received window cookie) came put
      (on_ack_to s count destination received window cookie)
  ack_row s leg count destination received window cookie came put on h =
      by_test (Row leg m came put) (is_first count) (unexpected s) other (λ t. h)
      (λ t. by_test (Row leg m came put) (destination == 0)
      (forwards_writing s (named.AckTo 0 received window cookie)) third
      (λ e. writing_row leg m came put s h (named.AckTo 0 received window cookie)
      (λ f. here 0 (eqb-true destination 0 e)))
      (λ e. by_test (Row leg m came put) (destination == 3)
      (forwards_to s (named.AckTo 3 received window cookie) (channel_leg cookie s.outs))
      (unexpected s)
      (λ f. to_row leg m came put s h (named.AckTo 3 received window cookie)
      (λ g. here 3 (eqb-true destination 3 f)) (channel_leg cookie s.outs))
      (λ f. h)))
    where
      m : Named
      m = named.AckTo destination received window cookie

      third : Done
      third =
          if destination == 3
          then forwards_to s (named.AckTo 3 received window cookie) (channel_leg cookie s.outs)
          else unexpected s

      other : Done
      other =
          if destination == 0
          then forwards_writing s (named.AckTo 0 received window cookie)
          else third

      here : (n : ℕ) → destination ≡ n
          → HasOn InServer (named.AckTo n received window cookie) (came ++ (leg, Packet m) ∷ [])
      here n is =
          subst (λ (k : ℕ).
          HasOn InServer (named.AckTo k received window cookie) (came ++ (leg, Packet m) ∷ [])) is
          (has_on_last InServer leg m came (of_server leg on))

  -- the window that it tells is kept, or told on
  b2_row : (s : Server) (leg : Leg) (n : ℕ) (count : Count) (m : Named) (connection cookie : Cookie)
      (window timeout : ℕ) (came put : List OnLeg)
      → TellsOn ByConnB2 InServer window (came ++ (leg, Packet m) ∷ []) → Holds s came put
      → Row leg m came put (on_conn_b2 s n count connection cookie window timeout)
  b2_row s leg n count m connection cookie window timeout came put told h =
      by_test (Row leg m came put)
      (is_first count && ((n == 1) && not (waits kind.ConnC1 s.waiting)))
      (conn_b2_at s s.stage connection cookie window timeout) (unexpected s) (λ e. at s.stage)
      (λ e. h)
    where
      t : Server
      t = with_first_in s cookie

      after : List OnLeg
      after = came ++ (leg, Packet m) ∷ []

      k : Holds t after put
      k = keeps_holds s t after put (sounds.keeps_with_first_in to s cookie)
          (more leg m came put s h)

      at : (st : Stage) → Row leg m came put (conn_b2_at s st connection cookie window timeout)
      at stage.Waits = (
        sounds.stage_sound to after (seen t) (stage.InCame connection window timeout) told k.0,
        k.1,
      )
      at (stage.OutCame first') =
          by_test (Row leg m came put) (same_cookie first' connection)
          (took (opens t first' window timeout)) (refuse s (refused.Cookie first' connection))
          (λ e. (sounds.keeps_opened to after t first' window timeout told k.0, k.1)) (λ e. h)
      at (stage.InCame first' in_window in_timeout) = h
      at (stage.Open first') = h
      at stage.Ended = h

  a2_row : (s : Server) (leg : Leg) (n : ℕ) (count : Count) (m : Named)
      (connection predecessor successor : Cookie) (window timeout : ℕ) (came put : List OnLeg)
      → TellsOn ByInR1A2 InServer window (came ++ (leg, Packet m) ∷ []) → Holds s came put
      → Row leg m came put
      (on_in_r1_a2 s n count connection predecessor successor window timeout)
  a2_row s leg n count m connection predecessor successor window timeout came put told h =
      by_test (Row leg m came put) (is_first count && not (has_fresh_below n s.ins))
      (in_r1_a2_at s s.stage n connection predecessor successor window timeout) (unexpected s)
      (λ e. at s.stage) (λ e. h)
    where
      after : List OnLeg
      after = came ++ (leg, Packet m) ∷ []

      k : Holds s after put
      k = more leg m came put s h

      announces : (l : InLeg) → Holds (announced s l successor window timeout) after put
      announces l =
          let x : InLeg = record l {
            cookie = successor;
            stage = in_stage.Waits window timeout false;
          } in
          let t : Server = with_in
          (record s { newest = record { leg = l.number; cookie = successor } }) x in (
            sounds.keeps_next_opened to t after (sounds.leg_sound to after (seen s) x told k.0),
            k.1,
          )

      on : (first' : Cookie) (o : Option InLeg)
          → Row leg m came put
          (in_r1_a2_by s first' connection predecessor successor window timeout o)
      on first' None = h
      on first' (Some l) =
          by_test (Row leg m came put) (not (is_fresh l.stage)) (unexpected s) _ (λ e. h)
          (λ e. by_test (Row leg m came put) (not (same_cookie first' connection))
          (refuse s (refused.Cookie first' connection)) _ (λ f. h)
          (λ f. by_test (Row leg m came put) (not (same_cookie s.newest.cookie predecessor))
          (refuse s (refused.Cookie s.newest.cookie predecessor))
          (took (announced s l successor window timeout)) (λ g. h) (λ g. announces l)))

      at : (st : Stage) → Row leg m came put
          (in_r1_a2_at s st n connection predecessor successor window timeout)
      at (stage.Open first') = on first' (in_leg n s.ins)
      at opening = h

  is_row : (s : Server) (leg : Leg) (n : ℕ) (count : Count) (m : Named) (came put : List OnLeg)
      → leg.kind ≡ InServer → Holds s came put → Row leg m came put (on_is s n count m)
  is_row s leg n count (named.ConnB2 v connection cookie window timeout group address padding)
      came put on h =
      let m = named.ConnB2 v connection cookie window timeout group address padding in
      b2_row s leg n count m connection cookie window timeout came put
      (tells_on_last ByConnB2 InServer window leg m came (of_server leg on) refl) h
  is_row s leg n count (named.InR1A2 v connection predecessor successor window timeout) came put
      on h =
      let m = named.InR1A2 v connection predecessor successor window timeout in
      a2_row s leg n count m connection predecessor successor window timeout came put
      (tells_on_last ByInR1A2 InServer window leg m came (of_server leg on) refl) h
  is_row s leg n count (named.InR1A6 successor) came put on h =
      keep_row leg (named.InR1A6 successor) came put s h (on_in_r1_a6 s n successor)
      (sounds.keeps_in_r1_a6 to s n successor)
  is_row s leg n count (named.InR2A2 successor) came put on h =
      keep_row leg (named.InR2A2 successor) came put s h (on_in_r2_a2 s n count successor)
      (sounds.keeps_in_r2_a2 to s n count successor)
  is_row s leg n count (named.AckTo destination received window cookie) came put on h =
      ack_row s leg count destination received window cookie came put on h
  is_row s leg n count (named.OutR1A8 destination successor) came put on h =
      keep_row leg (named.OutR1A8 destination successor) came put s h
      (on_out_r1_a8 s count destination successor)
      (sounds.keeps_out_r1_a8 to s count destination successor)
  is_row s leg n count named.EndA2 came put on h =
      keep_row leg named.EndA2 came put s h (on_end_a2 s n count)
      (sounds.keeps_end_a2 to s n count)
  is_row s leg n count m came put on h = h

  os_row : (s : Server) (leg : Leg) (n : ℕ) (count : Count) (m : Named) (came put : List OnLeg)
      → Holds s came put → Row leg m came put (on_os s n count m)
  os_row s leg n count (named.ConnA2 v connection cookie lifetime window) came put h =
      keep_row leg (named.ConnA2 v connection cookie lifetime window) came put s h
      (on_conn_a2 s n count connection cookie lifetime window)
      (sounds.keeps_conn_a2 to s n count connection cookie lifetime window)
  os_row s leg n count (named.OutR1A4 v connection predecessor successor lifetime window timeout)
      came put h =
      keep_row leg (named.OutR1A4 v connection predecessor successor lifetime window timeout) came
      put s h (on_out_r1_a4 s n count connection predecessor successor lifetime window timeout)
      (sounds.keeps_out_r1_a4 to s n count connection predecessor successor lifetime window timeout)
  os_row s leg n count (named.Ack received window cookie) came put h =
      keep_row leg (named.Ack received window cookie) came put s h
      (on_ack s n count received window cookie)
      (keeps_same s (on_ack s n count received window cookie).0
      (same_ack s n count received window cookie))
  os_row s leg n count (named.PingTraffic bytes) came put h =
      keep_row leg (named.PingTraffic bytes) came put s h (on_ping_traffic s count)
      (keeps_same s (on_ping_traffic s count).0 (same_traffic s count))
  os_row s leg n count m came put h = h

  packet_row_by : (s : Server) (leg : Leg) (n : ℕ) (count : Count) (m : Named) (k : LegKind)
      (came put : List OnLeg) → leg.kind ≡ k → Holds s came put
      → Row leg m came put (packet_by s n count m k)
  packet_row_by s leg n count m InServer came put on h = is_row s leg n count m came put on h
  packet_row_by s leg n count m OutServer came put on h = os_row s leg n count m came put h
  packet_row_by s leg n count m ClientIn came put on h = h
  packet_row_by s leg n count m ClientOut came put on h = h

  -- ---- what is put

  module _ (leg : Leg) (came put : List OnLeg) where
    abbrev Puts : Pick → Type 0
    Puts pick = PutKeeps Holds leg came put pick

    abbrev Quiet : Server → Pick → Type 0
    Quiet = passing.Quiet seen Is Sound came leg

    quiet_put : (s : Server) (pick : Pick) → Quiet s pick → Holds s came put → Puts pick
    quiet_put = passing.quiet_put seen Is Sound leg came put

    or_put : (a b : Pick) → Puts a → Puts b → Puts (or_else a b)
    or_put None b h k = k
    or_put (Some pick) b h k = h

    -- a leg has changed
    leg_put : (s : Server) (l : InLeg) (m : Message) → OfLeg came l → OfPacket (Is came) (leg, m)
        → Holds s came put → Puts (Some (with_in s l, m))
    leg_put s l m of is h =
        passing.put_one seen Is Sound (with_in s l) came put (leg, m) is
        (sounds.leg_sound to came (seen s) l of h.0, h.1)

    in_greeting_put : (s : Server) (l : InLeg) → OfLeg came l → Holds s came put
        → Puts (put_in_greeting s l)
    in_greeting_put s l of h =
        by_test Puts (is_due l.greeting)
        (Some (with_in s (record l { greeting = Put }), Text greeting_text)) None
        (λ e. leg_put s (record l { greeting = Put }) (Text greeting_text) of tt h) (λ e. tt)

    tells_put : (s : Server) (l : InLeg) (t : Tells) → OfLeg came l → Holds s came put
        → Puts (put_tells_by s l t)
    tells_put s l tells.Nothing of h = tt
    tells_put s l tells.ConnB3 of h =
        by_test Puts (is_open s.stage) _ None
        (λ e. leg_put s (record l { tells = tells.Nothing })
        (Packet (named.ConnB3 s.line.size 1)) of tt h) (λ e. tt)
    tells_put s l tells.InR1B2 of h =
        by_test Puts (was_current s l) _ None
        (λ e. leg_put (told_by s l.number) (record l { tells = tells.Nothing })
        (Packet (named.InR1B2 s.line.size)) of tt
        (keeps_holds s (told_by s l.number) came put
        (keeps_same s (told_by s l.number) (same_told s l.number)) h)) (λ e. tt)

    b1_put : (s : Server) (l : InLeg) (x : Leaving) → OfLeg came l → Holds s came put
        → Puts (put_b1_by s l x)
    b1_put s l leaving.Stays of h = tt
    b1_put s l leaving.InR1B1 of h =
        leg_put s (record l { leaving = leaving.Left }) (Packet named.InR1B1) of tt h
    b1_put s l leaving.Left of h = tt
    b1_put s l leaving.Lost of h = tt

    quiet_ack : (s : Server) (o : Option Ack) → Quiet s (put_ack_by s o)
    quiet_ack s o = search rules

    in_put : (s : Server) (o : Option InLeg) → IfSome o (OfLeg came) → Holds s came put
        → Puts (put_in_by s o)
    in_put s None of h = tt
    in_put s (Some l) of h =
        or_put (put_in_greeting s l) _ (in_greeting_put s l of h)
        (or_put (put_tells s l) _ (tells_put s l l.tells of h)
        (or_put (put_b1 s l) (put_ack s l) (b1_put s l l.leaving of h)
        (quiet_put s (put_ack s l) (quiet_ack s (ack_due s l)) h)))

    quiet_out_greeting : (s : Server) (place : ℕ) (o : Option OutLeg)
        → Quiet s (out_greeting_at s place o)
    quiet_out_greeting s place o = search rules

    same_was_put : (s : Server) (place : ℕ) (m : Named) → Same s (was_put s place m)
    same_was_put s place m = search rules

    waiting_found : (s : Server) (place : ℕ) (w : Waiting) (o : Option Due)
        → IfSome o (λ (due : Due). Is came due.packet) → Holds (record s { waiting = w }) came put
        → Puts (waiting_by s place (w, o))
    waiting_found s place w None is h = tt
    waiting_found s place w (Some due) is h =
        let t : Server = record s { waiting = w } in
        let u : Server = was_put t place due.packet in
        passing.put_one seen Is Sound u came put (leg, Packet due.packet) is
        (keeps_holds t u came put (keeps_same t u (same_was_put t place due.packet)) h)

    waiting_put : (s : Server) (place : ℕ) (o : Option Gate) → Holds s came put
        → Puts (waiting_at s place o)
    waiting_put s place None h = tt
    waiting_put s place (Some gate) h =
        waiting_found s place (taken (lets gate) s.waiting).0 (taken (lets gate) s.waiting).1
        (found_is (Is came) (lets gate) s.waiting.due h.0.packets) (
          record {
            packets = others_are (Is came) (lets gate) s.waiting.due h.0.packets;
            opening = h.0.opening;
            legs = h.0.legs;
          },
          h.1,
        )

    quiet_pdu : (s : Server) (place : ℕ) (o : Option ℕ) → Quiet s (pdu_by s place o)
    quiet_pdu s place o = search rules

    quiet_end : (s : Server) (place : ℕ) → Quiet s (put_end s place)
    quiet_end s place = search rules

    next_put : (s : Server) (place : ℕ) → Holds s came put → Puts (next_out s place)
    next_put s place h =
        or_put (put_waiting s place) (put_pdu_or_end s place)
        (waiting_put s place (gate_at s (slice_get s.outs place)) h)
        (or_put (put_pdu s place) (put_end s place)
        (quiet_put s (put_pdu s place) (quiet_pdu s place (front_length s.queue)) h)
        (quiet_put s (put_end s place) (quiet_end s place) h))

    settled_put : (pick : Pick) → Puts pick → Puts (settled_pick pick)
    settled_put None h = tt
    settled_put (Some pick) h =
        keeps_holds pick.0 (settled pick.0) came (put ++ (leg, pick.1) ∷ [])
        (sounds.keeps_settled to pick.0) h

    out_put : (s : Server) (o : Option ℕ) → Holds s came put → Puts (put_out_at s o)
    out_put s None h = tt
    out_put s (Some place) h =
        or_put (put_out_greeting s place) (put_open s place)
        (quiet_put s (put_out_greeting s place)
        (quiet_out_greeting s place (slice_get s.outs place)) h)
        (by_test Puts (is_open s.stage) (settled_pick (next_out s place)) None
        (λ t. settled_put (next_out s place) (next_put s place h)) (λ t. tt))

    puts_by : (s : Server) (n : ℕ) (k : LegKind) → Holds s came put → Puts (put_by s n k)
    puts_by s n InServer h = in_put s (in_leg n s.ins) (found to came s n h.0) h
    puts_by s n OutServer h = out_put s (out_place n s.outs) h
    puts_by s n ClientIn h = tt
    puts_by s n ClientOut h = tt

  -- ---- the role

  keeps : StepsKeep server_rules Holds
  keeps = record {
    up = λ s leg cookie came put.
        keeps_holds s (up s leg cookie) came put (sounds.keeps_up to s leg cookie);
    head = λ s leg text came put h. h;
    pdu = λ s leg count bytes came put h.
        passing.same_row seen Is Sound (from_stays InServer to 0) (sounds.sound_stays to) s
        (leg, Pdu bytes) came put h (pdu s leg count bytes) (same_pdu s leg count bytes);
    packet = λ s leg count m came put.
        packet_row_by s leg leg.number count m leg.kind came put refl;
    put = λ s leg came put. puts_by leg came put s leg.number leg.kind;
    drawn = λ s leg came put.
        keeps_holds s (drawn s leg) came put (sounds.keeps_drawn to s leg.number leg.kind);
    mark = λ s leg came put.
        keeps_holds s (mark s leg) came put (sounds.keeps_mark to s leg.number leg.kind);
    ping = λ s leg came put h. h;
  }

  calls : ActsKeep acts Holds
  calls = record {
    give = λ s bytes came put.
        keeps_holds s (give s bytes).0 came put
        (keeps_same s (give s bytes).0 (same_give s bytes));
    take = λ s came put.
        keeps_holds s (take s) came put
        (sounds.keeps_moved to s.line.has_next (record s { line = after_take s.line }));
    close = λ s came put h. h;
    recycle = λ s came put. keeps_holds s (recycle s).0 came put (sounds.keeps_recycle to s);
  }

-- behind all moves
pub server_from : (window : ℕ) (moves : List EndMove) (to : ℕ)
    → AllByRecursion
    (OfPacket (IsFrom InServer to 0
    (all_end_moved server_rules acts (end_started (first window)) moves).passage.came))
    (all_end_moved server_rules acts (end_started (first window)) moves).passage.put
server_from window moves to =
    (end_moves_keep server_rules (Holds to) (keeps to) acts (calls to)
    (end_started (first window)) moves
    (record { packets = tt; opening = tt; legs = tt }, tt)).1
