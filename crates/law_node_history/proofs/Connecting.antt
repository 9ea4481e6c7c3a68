-- the lines and half steps that connect a leg are changes
use Rattle.rh_text.specs.declared.ends.Side.TheVariants as side
use Rattle.law_order.proofs.Vocabulary.{◌≡◌, ℕ, Bool, true, false, ◌&&◌, ◌||◌, not, if◌then◌else◌, get_or, IsTrue, refl, sym, subst, ap, ◌∙◌, inl, nat_lt, and_from, and_parts}
use Rattle.rh_record.specs.declared.answer.Who.TheVariants as who
use Rattle.rh_shell.specs.Shells as shell
use Rattle.rh_company.specs.Company as company
use Rattle.rh_company.specs.Places as places
use Rattle.law_moves.proofs.Vocabulary.{Side, Cookie, NO_COOKIE, Leg, LegKind, ClientOut, OutServer, ClientIn, InServer, Rules, Shell}
use Rattle.law_node_history.proofs.Vocabulary.{ask, change, reader_of, with_reader, Place, Absent, Here, Gone, Rulebook, draw, is_absent, Deeds, up_at, Makers, at_moment, with_in, with_out, connect, up_at_both, connect_client, may_make, is_wanted, open_server, open_leg, reader_before, may_open_same, read_on, open_same, leg_at, World, at, Change, GoesUp, OpensIn, OpensOut, OpensSame, Draws, may_have, is_led, is_quiet, is_whole, changed, WorksBy, DrawsBy}
use Rattle.law_node_history.proofs.Working.{all_wider}
use Rattle.law_node_history.proofs.Drawing.{DrawsQuietly, is_steady, draws_none, draws_one, draws_more, draws_leg}
use Rattle.law_node_history.proofs.Numbers.{put_here, asked, changed_here}

-- ---- tests

pub or_left : (a b : Bool) → a ≡ true → (a || b) ≡ true
or_left true b h = refl
or_left false b h = absurd cc

pub or_right : (a b : Bool) → b ≡ true → (a || b) ≡ true
or_right true b h = refl
or_right false b h = h

-- the node at one end wants the leg, and the one at the other may have it up, or the other way
-- round
wanted : (a b c d : Bool) → (a && b || c && d) ≡ true
    → (IsTrue (d || a)) × (IsTrue (b || c))
wanted true true c d h = (or_right d true refl, refl)
wanted true false true true h = (refl, refl)
wanted true false true false h = absurd cc
wanted true false false d h = absurd cc
wanted false b true true h = (refl, or_right b true refl)
wanted false b true false h = absurd cc
wanted false b false d h = absurd cc

there : {S : Type 0} (rules : Rules S) (leg : Leg) (cookie : Cookie) (place : Place S)
    → (places.may_up rules leg place || places.wants rules leg place) ≡ true
    → is_absent (places.up rules leg cookie place) ≡ false
there rules leg cookie Absent may = absurd cc
there rules leg cookie (Here node legs) may = refl
there rules leg cookie (Gone now) may = absurd cc

-- a change by which a leg comes up, or its cookie is drawn
abbrev pub connects : Change → Bool
connects (GoesUp node leg end cookie) = is_whole cookie
connects (OpensIn number cookie) = is_whole cookie
connects (OpensOut number cookie) = is_whole cookie
connects (OpensSame number cookie) = is_whole cookie
connects (Draws cookies) = true
connects change = false

pub quiet_connects : (change : Change) → connects change ≡ true → is_quiet change ≡ true
quiet_connects (GoesUp node leg end cookie) is = is
quiet_connects (OpensIn number cookie) is = is
quiet_connects (OpensOut number cookie) is = is
quiet_connects (OpensSame number cookie) is = is
quiet_connects (Draws cookies) is = refl
quiet_connects change is = absurd cc

module _ {K C S I O : Type 0} (r : Rulebook C S I O) (m : Makers K I O) (d : Deeds C S) where
  -- such changes lead to the world
  abbrev pub Connects : World K C S I O → World K C S I O → Type 0
  Connects w v = WorksBy connects r m d w v

  -- and the cookies of the client's legs are drawn for them
  abbrev pub Joins : World K C S I O → World K C S I O → Type 0
  Joins w v = DrawsBy connects r m d w v

  -- behind something that was done or refused
  abbrev JoinsOk : World K C S I O → World K C S I O × Bool → Type 0
  JoinsOk w did = Joins w did.0

  -- ---- a leg is up at both ends

  -- the other end's node isn't touched
  untouched : (kind : LegKind) (n : ℕ) (w : World K C S I O) (cookie : Cookie)
      → may_have r (up_at r w (at w (leg_at kind n) side.Client) (leg_at kind n) side.Client cookie)
      (at w (leg_at kind n) side.Server) (leg_at kind n)
      ≡ may_have r w (at w (leg_at kind n) side.Server) (leg_at kind n)
  untouched ClientOut n w cookie = refl
  untouched OutServer n w cookie = refl
  untouched ClientIn n w cookie = refl
  untouched InServer n w cookie = refl

  -- an in proxy that may have a leg, or asks for one, is there, and stays so as that comes up
  in_there : (w : World K C S I O) (n : ℕ) (leg : Leg) (cookie : Cookie)
      → IsTrue (may_have r w (who.In n) leg)
      → ask is_absent true (company.up r w.company (who.In n) leg cookie).ins n ≡ false
  in_there w n leg cookie may =
      let ins = w.company.ins in
      let to = places.up r.in_proxy leg cookie in
      let asks = ask (places.wants r.in_proxy leg) false ins n in
      asked Absent is_absent (change to ins n) n
      ∙ ap is_absent (changed_here Absent to refl ins n)
      ∙ there r.in_proxy leg cookie (get_or ins n Absent)
      (sym (ap (λ b. b || asks) (asked Absent (places.may_up r.in_proxy leg) ins n)
      ∙ ap (λ b. places.may_up r.in_proxy leg (get_or ins n Absent) || b)
      (asked Absent (places.wants r.in_proxy leg) ins n)) ∙ may)

  -- a leg leads to no client as to a server, and where it leads from an in proxy, that is there
  server_led : (w : World K C S I O) (kind : LegKind) (n : ℕ) (cookie : Cookie)
      → IsTrue (may_have r w (at w (leg_at kind n) side.Client) (leg_at kind n))
      → IsTrue (is_led (up_at r w (at w (leg_at kind n) side.Client) (leg_at kind n) side.Client
      cookie) (at w (leg_at kind n) side.Server) (leg_at kind n))
  server_led w ClientOut n cookie may = refl
  server_led w OutServer n cookie may = refl
  server_led w ClientIn n cookie may = refl
  server_led w InServer n cookie may =
      ap (λ b. not b) (in_there w n (leg_at InServer n) cookie may)

  -- the client stands at no end of the leg
  abbrev IsServers : World K C S I O → Leg → Cookie → Type 0
  IsServers w leg cookie =
      (end : Side) → is_steady (GoesUp (at w leg end) leg end cookie) ≡ true

  connect_leg : (w : World K C S I O) (leg : Leg) (cookie : Cookie)
      → IsTrue (may_have r w (at w leg side.Client) leg)
      → IsTrue (may_have r w (at w leg side.Server) leg)
      → IsTrue (is_led w (at w leg side.Client) leg) → is_whole cookie ≡ true
      → IsServers w leg cookie → Joins w (connect r w leg cookie)
  connect_leg w leg cookie client server led whole steady =
      let v = up_at r w (at w leg side.Client) leg side.Client cookie in
      draws_more r m d w v (GoesUp (at w leg side.Server) leg side.Server cookie)
      (draws_one r m d w (GoesUp (at w leg side.Client) leg side.Client cookie)
      (client, inl refl, led)
      (and_from (is_steady (GoesUp (at w leg side.Client) leg side.Client cookie))
      (is_whole cookie) (steady side.Client) whole)) (
        untouched leg.kind leg.number w cookie ∙ server,
        inl refl,
        server_led w leg.kind leg.number cookie client,
      )
      (and_from (is_steady (GoesUp (at w leg side.Server) leg side.Server cookie))
      (is_whole cookie) (steady side.Server) whole)

  -- what is done where both hold
  two_tests : (w v : World K C S I O) (a b : Bool) → (a ≡ true → b ≡ true → Joins w v)
      → JoinsOk w (if a then (if b then (v, true) else (w, false)) else (w, false))
  two_tests w v true true both = both refl refl
  two_tests w v true false both = draws_none r m d w
  two_tests w v false b both = draws_none r m d w

  -- ---- a leg of the client, to a proxy of its own

  module _ (w : World K C S I O) (n : ℕ) where
    abbrev out_leg : Leg
    out_leg = leg_at ClientOut n

    abbrev in_leg : Leg
    in_leg = leg_at ClientIn n

    abbrev new_out : Shell O
    new_out = at_moment r.out_proxy (m.out_proxy w.cast n) w.now

    abbrev new_in : Shell I
    new_in = at_moment r.in_proxy (m.in_proxy w.cast n) w.now

    -- what is known where a proxy may be made
    may_parts : (absent : Bool) (leg : Leg)
        → (nat_lt 0 n && company.wants r w.company who.Client leg && absent) ≡ true
        → IsTrue (nat_lt 0 n) × IsTrue absent × IsTrue (may_have r w who.Client leg)
    may_parts absent leg e =
        let first = and_parts (nat_lt 0 n && company.wants r w.company who.Client leg) absent e in
        let more = and_parts (nat_lt 0 n) (company.wants r w.company who.Client leg) first.0 in (
          more.0,
          first.1,
          or_right (company.may_up r w.company who.Client leg)
              (company.wants r w.company who.Client leg) more.1,
        )

    out_made : may_make r w w.company.outs out_leg ≡ true
        → shell.may_up r.out_proxy new_out out_leg ≡ true
        → Joins w (connect_client r (with_out w n new_out) out_leg)
    out_made e f =
        let drawn = draw w.cookies in
        let x = record w { cookies = drawn.0 } in
        let v = changed r m d x (OpensOut n drawn.1) in
        let up : company.may_up r v.company (who.Out n) out_leg ≡ true =
        asked Absent (places.may_up r.out_proxy out_leg) v.company.outs n
        ∙ ap (places.may_up r.out_proxy out_leg)
        (put_here Absent w.company.outs n (Here new_out 0)) ∙ f in
        draws_more r m d w v (GoesUp (who.Out n) out_leg side.Server drawn.1)
        (draws_leg r m d w out_leg (OpensOut n drawn.1) refl refl
        (may_parts (ask is_absent true w.company.outs n) out_leg e) refl refl) (
          or_left (company.may_up r v.company (who.Out n) out_leg)
              (company.wants r v.company (who.Out n) out_leg) up,
          inl refl,
          refl,
        ) refl

    in_made : may_make r w w.company.ins in_leg ≡ true
        → shell.may_up r.in_proxy new_in in_leg ≡ true
        → Joins w (connect_client r (with_in w n new_in) in_leg)
    in_made e f =
        let drawn = draw w.cookies in
        let x = record w { cookies = drawn.0 } in
        let v = changed r m d x (OpensIn n drawn.1) in
        let reader = who.In (reader_of v.readers n) in
        let is : reader_of v.readers n ≡ n =
        asked 0 (λ k. k) v.readers n ∙ put_here 0 w.readers n n in
        let up : company.may_up r v.company (who.In n) in_leg ≡ true =
        asked Absent (places.may_up r.in_proxy in_leg) v.company.ins n
        ∙ ap (places.may_up r.in_proxy in_leg)
        (put_here Absent w.company.ins n (Here new_in 0)) ∙ f in
        draws_more r m d w v (GoesUp reader in_leg side.Server drawn.1)
        (draws_leg r m d w in_leg (OpensIn n drawn.1) refl refl
        (may_parts (ask is_absent true w.company.ins n) in_leg e) refl refl) (
          or_left (company.may_up r v.company reader in_leg)
              (company.wants r v.company reader in_leg)
              (ap (λ k. company.may_up r v.company (who.In k) in_leg) is ∙ up),
          inl refl,
          refl,
        ) refl

    open_out : Joins w (open_leg r m w out_leg).0
    open_out =
        two_tests w (connect_client r (with_out w n new_out) out_leg)
        (may_make r w w.company.outs out_leg) (shell.may_up r.out_proxy new_out out_leg) out_made

    open_in : Joins w (open_leg r m w in_leg).0
    open_in =
        two_tests w (connect_client r (with_in w n new_in) in_leg)
        (may_make r w w.company.ins in_leg) (shell.may_up r.in_proxy new_in in_leg) in_made

    -- ---- to the proxy that reads the channel before it

    same_proxy : company.wants r w.company who.Client in_leg ≡ true
        → may_open_same r w in_leg ≡ true
        → Joins w (connect_client r (read_on w n) in_leg)
    same_proxy e f =
        let drawn = draw w.cookies in
        let x = record w { cookies = drawn.0 } in
        let before = reader_before w n in
        let readers = with_reader w.readers n before in
        let client = or_right (company.may_up r w.company who.Client in_leg)
        (company.wants r w.company who.Client in_leg) e in
        let server = or_left (company.may_up r w.company (who.In before) in_leg)
        (company.wants r w.company (who.In before) in_leg) f in
        let is : reader_of readers n ≡ before =
        asked 0 (λ k. k) readers n ∙ put_here 0 w.readers n before in
        subst (λ k. Joins w (up_at_both r (read_on x n) in_leg drawn.1 who.Client
        (who.In k))) (sym is)
        (draws_leg r m d w in_leg (OpensSame n drawn.1) refl refl (client, server) refl refl)

  -- ---- a leg of the server

  open_server_leg : (w : World K C S I O) (leg : Leg)
      → IsTrue (is_led w (at w leg side.Client) leg) → IsServers w leg NO_COOKIE
      → Joins w (open_server r w leg).0
  open_server_leg w leg led steady = by (nat_lt 0 leg.number && is_wanted r w leg) refl
    where
      by : (t : Bool) → (nat_lt 0 leg.number && is_wanted r w leg) ≡ t
          → JoinsOk w (if t then (connect r w leg NO_COOKIE, true) else (w, false))
      by true e =
          let client = at w leg side.Client in
          let server = at w leg side.Server in
          let may = wanted (company.wants r w.company client leg)
          (company.may_up r w.company server leg) (company.wants r w.company server leg)
          (company.may_up r w.company client leg)
          (and_parts (nat_lt 0 leg.number) (is_wanted r w leg) e).1 in
          connect_leg w leg NO_COOKIE may.0 may.1 led refl steady
      by false e = draws_none r m d w

  outs_servers : (w : World K C S I O) (n : ℕ) → IsServers w (leg_at OutServer n) NO_COOKIE
  outs_servers w n side.Client = refl
  outs_servers w n side.Server = refl

  ins_servers : (w : World K C S I O) (n : ℕ) → IsServers w (leg_at InServer n) NO_COOKIE
  ins_servers w n side.Client = refl
  ins_servers w n side.Server = refl

  -- ---- the lines

  open_by : (w : World K C S I O) (kind : LegKind) (n : ℕ)
      → Joins w (open_leg r m w (leg_at kind n)).0
  open_by w ClientOut n = open_out w n
  open_by w OutServer n = open_server_leg w (leg_at OutServer n) refl (outs_servers w n)
  open_by w ClientIn n = open_in w n
  open_by w InServer n = open_server_leg w (leg_at InServer n) refl (ins_servers w n)

  pub joins_open_leg : (w : World K C S I O) (leg : Leg) → Joins w (open_leg r m w leg).0
  joins_open_leg w leg = open_by w leg.kind leg.number

  same_by : (w : World K C S I O) (kind : LegKind) (n : ℕ)
      → Joins w (open_same r w (leg_at kind n)).0
  same_by w ClientOut n = draws_none r m d w
  same_by w OutServer n = draws_none r m d w
  same_by w InServer n = draws_none r m d w
  same_by w ClientIn n =
      by (company.wants r w.company who.Client (in_leg w n) && may_open_same r w (in_leg w n)) refl
    where
      by : (t : Bool)
          → (company.wants r w.company who.Client (in_leg w n) && may_open_same r w (in_leg w n))
          ≡ t
          → JoinsOk w (if t then (connect_client r (read_on w n) (in_leg w n), true)
          else (w, false))
      by true e =
          let may = and_parts (company.wants r w.company who.Client (in_leg w n))
          (may_open_same r w (in_leg w n)) e in
          same_proxy w n may.0 may.1
      by false e = draws_none r m d w

  pub joins_open_same : (w : World K C S I O) (leg : Leg) → Joins w (open_same r w leg).0
  joins_open_same w leg = same_by w leg.kind leg.number

  pub connects_open_leg : (w : World K C S I O) (leg : Leg) → Connects w (open_leg r m w leg).0
  connects_open_leg w leg = (joins_open_leg w leg).works

  pub connects_open_same : (w : World K C S I O) (leg : Leg) → Connects w (open_same r w leg).0
  connects_open_same w leg = (joins_open_same w leg).works

  -- ---- and so they are quiet

  quiet_of : (w v : World K C S I O) → Joins w v → DrawsQuietly r m d w v
  quiet_of w v a =
      let leads = a.works.leads in
      record {
        works = record {
          leads = leads;
          work = all_wider connects is_quiet quiet_connects leads.changes a.works.work;
        };
        drawn = a.drawn;
      }

  pub draws_open_leg : (w : World K C S I O) (leg : Leg)
      → DrawsQuietly r m d w (open_leg r m w leg).0
  draws_open_leg w leg = quiet_of w (open_leg r m w leg).0 (joins_open_leg w leg)

  pub draws_open_same : (w : World K C S I O) (leg : Leg)
      → DrawsQuietly r m d w (open_same r w leg).0
  draws_open_same w leg = quiet_of w (open_same r w leg).0 (joins_open_same w leg)
