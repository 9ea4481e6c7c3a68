-- the is legs that a server keeps came up, and on those of its channels a message came
use Rattle.law_order.proofs.Vocabulary.{◌≡◌, ◌⊎◌, ℕ, suc, ◌+◌, ◌==◌, ◌&&◌, ◌||◌, List, [], ◌∷◌, ◌++◌, length, Bool, true, false, not, Some, None, Ok, Err, refl, sym, subst, rules, arith, inl, inr, slice_get, position, IfSome, if◌then◌else◌, nat_lt, AllByRecursion, position_or_len, Option, Result}
use Rattle.rh_sig.specs.declared.named.Named.TheVariants as named
use Rattle.rh_line.specs.Lines.{taken as taken_line}
use Rattle.rh_shell.specs.declared.answers.Refused.TheVariants as refused
use Rattle.rh_server.specs.Servers.{pdu_by}
use Rattle.rh_server.specs.declared.state.Stage.TheVariants as stage
use Rattle.rh_server.specs.declared.out_line.Kind.TheVariants as kind
use Rattle.rh_server.specs.declared.state.Tells.TheVariants as tells
use Rattle.rh_server.specs.declared.state.Leaving.TheVariants as leaving
use Rattle.law_moves.proofs.Vocabulary.{by_test, same_number, Cookie, Named, Line, after_end, after_finish, after_take, admit_verdict, is_empty, moved_on, released, settled as settled_line, after_open_next, Leg, LineFault, Window, Over, Which, Current, Next, LegKind, ClientOut, OutServer, ClientIn, InServer, Count, Packet, added}
use Rattle.law_moves.proofs.Legible.Each.{each_so}
use Rattle.law_role_server.proofs.Vocabulary.{Shut, Stage, InStage, Fresh, Waits, Opened, InLeg, waits, Server, is_open, is_fresh, is_waiting, stays, without_out, same_cookie, in_place, in_at, in_leg, set_at, removed_at, with_in, without_in, Done, took, refuse, unexpected, is_first, opens, first_in, with_first_in, conn_b2_at, on_conn_a2, on_conn_b2, channel_at, admitted_by, admitted_on, on_pdu, on_ack_to, on_ack, on_ping_traffic, on_out_r1_a4, on_out_r1_a8, end_a2_on_leg}
use Rattle.law_role_server.proofs.Vocabulary.{end_a2_waiting, end_a2_at, on_end_a2, in_is_drawn, drawn_by, drawn, lost_in, mark_by, mark, settled, with_ack_dropped, on_is, on_os, packet, packet_by, ended_if, opens_next, opens_leg, waiting_place, first_waiting, next_opened, becomes_current, moved_if, take, has_fresh_below, announced, in_r1_a2_by, in_r1_a2_at, on_in_r1_a2, leaves_by, hands_over, on_in_r1_a6, in_r2_a2_on, on_in_r2_a2}
use Rattle.law_role_server.proofs.Each.{each_removed, each_got, each_set}
use Rattle.law_peers_routes.proofs.Upwards.Told.{tells}

-- ---- what holds of each element of a list

pub each_pushed : {X : Type 0} (P : X → Type 0) (xs : List X) (x : X) → AllByRecursion P xs → P x
    → AllByRecursion P (xs ++ x ∷ [])
each_pushed P [] x h is = (is, tt)
each_pushed P (y ∷ xs) x h is = (h.0, each_pushed P xs x h.1 is)

-- the first element that passes a test passes it
found_passes : {X : Type 0} (test : X → Bool) (xs : List X)
    → IfSome (slice_get xs (position_or_len test xs)) (λ (x : X). test x ≡ true)
found_passes test [] = tt
found_passes {X} test (x ∷ xs) = by (test x) refl (found_passes test xs)
  where
    by : (b : Bool) → test x ≡ b
        → IfSome (slice_get xs (position_or_len test xs)) (λ (y : X). test y ≡ true)
        → IfSome (slice_get (x ∷ xs) (if not b then 1 + position_or_len test xs else 0))
        (λ (y : X). test y ≡ true)
    by true e rest = e
    by false e rest =
        let same : suc (position_or_len test xs) ≡ 1 + position_or_len test xs = omega arith in
        subst (λ (k : ℕ). IfSome (slice_get (x ∷ xs) k) (λ (y : X). test y ≡ true)) same rest

place_passes : (test : InLeg → Bool) (legs : List InLeg)
    → IfSome (in_at legs (position test legs)) (λ (leg : InLeg). test leg ≡ true)
place_passes test legs =
    by_test (λ (o : Option ℕ). IfSome (in_at legs o) (λ (leg : InLeg). test leg ≡ true))
    (nat_lt (position_or_len test legs) (length legs)) (Some (position_or_len test legs)) None
    (λ e. found_passes test legs) (λ e. tt)

-- ---- legs that came up

or_more : (b p q : Bool) → (p ≡ true → q ≡ true) → b || p ≡ true → b || q ≡ true
or_more true p q more e = refl
or_more false p q more e = more e

-- where u tells which numbers came up, and x on which legs a message came: the leg came up, and one
-- came on it, or none may have
abbrev pub Stands : (ℕ → Bool) → (ℕ → Bool) → InLeg → Type 0
Stands u x leg = (u leg.number ≡ true) × (is_fresh leg.stage || x leg.number ≡ true)

-- a leg that is kept has its number, and came up
pub number_found : (n : ℕ) (legs : List InLeg)
    → IfSome (in_leg n legs) (λ (leg : InLeg). leg.number ≡ n)
number_found n legs = by (in_leg n legs) (place_passes (λ (leg : InLeg). leg.number == n) legs)
  where
    by : (o : Option InLeg) → IfSome o (λ (leg : InLeg). (leg.number == n) ≡ true)
        → IfSome o (λ (leg : InLeg). leg.number ≡ n)
    by None h = tt
    by (Some leg) h = same_number leg.number n h

leg_at : (P : InLeg → Type 0) (legs : List InLeg) (place : Option ℕ) → AllByRecursion P legs
    → IfSome (in_at legs place) P
leg_at P legs None h = tt
leg_at P legs (Some place) h = each_got P legs place h

leg_set : (P : InLeg → Type 0) (legs : List InLeg) (leg : InLeg) (place : Option ℕ) → P leg
    → AllByRecursion P legs → AllByRecursion P (set_at legs leg place)
leg_set P legs leg None is h = h
leg_set P legs leg (Some place) is h = each_set P legs place leg is h

leg_removed : (P : InLeg → Type 0) (legs : List InLeg) (place : Option ℕ)
    → AllByRecursion P legs → AllByRecursion P (removed_at legs place)
leg_removed P legs None h = h
leg_removed P legs (Some place) h = each_removed P legs place h

-- ---- what a server keeps

-- of the legs that it keeps; on that of the next channel, where there is one, a message came, and
-- on that of the current one, or this is the first; and the newest number is this one
pub record Placed (u x : ℕ → Bool) (n : ℕ) (legs : List InLeg) (here there : ℕ) (has_next : Bool)
    (number : ℕ) : Type 0 where
  pub ins : AllByRecursion (Stands u x) legs
  pub current : (x here ≡ true) ⊎ (here ≡ 1)
  pub next : has_next ≡ true → x there ≡ true
  pub newest : number ≡ n

abbrev pub Kept : (ℕ → Bool) → (ℕ → Bool) → ℕ → Server → Type 0
Kept u x n s = Placed u x n s.ins s.current.leg s.next.leg s.line.has_next s.newest_in

pub record Seen : Type 0 where
  pub ins : List InLeg
  pub current : ℕ
  pub next : ℕ
  pub has_next : Bool
  pub newest : ℕ

abbrev pub seen : Server → Seen
seen s = record {
  ins = s.ins;
  current = s.current.leg;
  next = s.next.leg;
  has_next = s.line.has_next;
  newest = s.newest_in;
}

abbrev pub Same : Server → Server → Type 0
Same s t = seen t ≡ seen s

pub same_kept : (u x : ℕ → Bool) (n : ℕ) (s t : Server) → Same s t → Kept u x n s → Kept u x n t
same_kept u x n s t same k =
    subst (λ (z : Seen). Placed u x n z.ins z.current z.next z.has_next z.newest) (sym same) k

pub more_kept : (u v x y : ℕ → Bool) (n : ℕ) (s : Server) → ((k : ℕ) → u k ≡ true → v k ≡ true)
    → ((k : ℕ) → x k ≡ true → y k ≡ true) → Kept u x n s → Kept v y n s
more_kept u v x y n s ups spoken k = record {
  ins = each_so (Stands u x) (Stands v y) (λ leg h. (
    ups leg.number h.0,
    or_more (is_fresh leg.stage) (x leg.number) (y leg.number) (spoken leg.number) h.1,
  )) s.ins k.ins;
  current = by k.current;
  next = λ e. spoken s.next.leg (k.next e);
  newest = k.newest;
}
  where
    by : (x s.current.leg ≡ true) ⊎ (s.current.leg ≡ 1)
        → (y s.current.leg ≡ true) ⊎ (s.current.leg ≡ 1)
    by (inl h) = inl (spoken s.current.leg h)
    by (inr h) = inr h

-- ---- lines

settled_next : (line : Line) → (settled_line line).has_next ≡ true → line.has_next ≡ true
settled_next line =
    by_test (λ (l : Line). l.has_next ≡ true → line.has_next ≡ true)
    (line.finished && is_empty line.current.pdus) (moved_on line) line (λ e f. absurd cc)
    (λ e f. f)

taken_next : (pdus : List (List ℕ)) (line : Line) → (taken_line pdus line).has_next ≡ true
    → line.has_next ≡ true
taken_next [] line f = f
taken_next (pdu ∷ pdus) line f =
    settled_next (record line { current = released (pdu ∷ pdus) line.current }) f

-- ---- rows that leave them

same_conn_a2 : (s : Server) (n : ℕ) (count : Count) (a b : Cookie) (c d : ℕ)
    → Same s (on_conn_a2 s n count a b c d).0
same_conn_a2 s n count a b c d = search rules

same_ack_to : (s : Server) (count : Count) (a b c : ℕ) (d : Cookie)
    → Same s (on_ack_to s count a b c d).0
same_ack_to s count a b c d = search rules

same_ack : (s : Server) (n : ℕ) (count : Count) (a b : ℕ) (c : Cookie)
    → Same s (on_ack s n count a b c).0
same_ack s n count a b c = search rules

same_ping_traffic : (s : Server) (count : Count) → Same s (on_ping_traffic s count).0
same_ping_traffic s count = search rules

same_out_r1_a8 : (s : Server) (count : Count) (a : ℕ) (b : Cookie)
    → Same s (on_out_r1_a8 s count a b).0
same_out_r1_a8 s count a b = search rules

same_out_r1_a4 : (s : Server) (n : ℕ) (count : Count) (a b c : Cookie) (d f g : ℕ)
    → Same s (on_out_r1_a4 s n count a b c d f g).0
same_out_r1_a4 s n count a b c d f g = search rules

pub same_settled : (s : Server) → Same s (settled s)
same_settled s = search rules

same_admitted : (s : Server) (which : Which) (bytes : List ℕ)
    → Same s (admitted_by s which bytes (admit_verdict s.line which bytes)).0
same_admitted s which bytes = by which (admit_verdict s.line which bytes)
  where
    by : (w : Which) (o : Result (Unit {0}) LineFault) → Same s (admitted_by s w bytes o).0
    by Current (Ok admitted) = refl
    by Next (Ok admitted) = refl
    by w (Err (Window exceeded)) = refl
    by w (Err Over) = refl

same_pdu : (s : Server) (n : ℕ) (bytes : List ℕ) → Same s (on_pdu s n bytes).0
same_pdu s n bytes =
    by_test (λ (d : Done). Same s d.0) (is_open s.stage)
    (admitted_on s bytes (channel_at s n)) (unexpected s) (λ e. by (channel_at s n)) (λ e. refl)
  where
    by : (o : Option Which) → Same s (admitted_on s bytes o).0
    by None = refl
    by (Some which) = same_admitted s which bytes

module _ (u x : ℕ → Bool) (newest : ℕ) where
  -- ---- a leg is changed, or goes

  pub with_kept : (s : Server) (leg : InLeg) → Stands u x leg → Kept u x newest s
      → Kept u x newest (with_in s leg)
  with_kept s leg is k = record {
    ins = leg_set (Stands u x) s.ins leg (in_place leg.number s.ins) is k.ins;
    current = k.current;
    next = k.next;
    newest = k.newest;
  }

  pub without_kept : (s : Server) (n : ℕ) → Kept u x newest s → Kept u x newest (without_in s n)
  without_kept s n k = record {
    ins = leg_removed (Stands u x) s.ins (in_place n s.ins) k.ins;
    current = k.current;
    next = k.next;
    newest = k.newest;
  }

  -- a leg that is kept came up
  pub found_up : (s : Server) (n : ℕ) → Kept u x newest s → IfSome (in_leg n s.ins) (Stands u x)
  found_up s n k = leg_at (Stands u x) s.ins (in_place n s.ins) k.ins

  -- ---- the next channel

  opens_kept : (s : Server) (leg : InLeg) (z : InStage) → u leg.number ≡ true
      → is_fresh z || x leg.number ≡ true → Kept u x newest s
      → Kept u x newest (opens_next s leg z)
  opens_kept s leg Fresh is spoke k = k
  opens_kept s leg Opened is spoke k = k
  opens_kept s leg (Waits window timeout ended) is spoke k =
      with_kept
      (record s {
        line = ended_if ended (after_open_next s.line true);
        next = record { leg = leg.number; number = leg.number; cookie = leg.cookie };
        waiting = added s.waiting (named.InR1A3 0 1 window timeout);
      })
      _ (is, spoke)
      (record { ins = k.ins; current = k.current; next = λ e. spoke; newest = k.newest })

  next_opened_kept : (s : Server) → Kept u x newest s → Kept u x newest (next_opened s)
  next_opened_kept s k =
      by_test (Kept u x newest) (s.line.has_next || waits kind.InR1A3 s.waiting) s
      (opens_leg s (first_waiting s.ins)) (λ e. k)
      (λ e. by (first_waiting s.ins) (leg_at (Stands u x) s.ins (waiting_place s.ins) k.ins))
    where
      by : (o : Option InLeg) → IfSome o (Stands u x) → Kept u x newest (opens_leg s o)
      by None is = k
      by (Some leg) is = opens_kept s leg leg.stage is.0 is.1 k

  moved_kept : (had : Bool) (s : Server) → (had ≡ true → x s.next.leg ≡ true) → Kept u x newest s
      → Kept u x newest (moved_if had s)
  moved_kept had s is k =
      by_test (Kept u x newest) (had && not s.line.has_next) (becomes_current s) s
      (λ e. by had e is) (λ e. k)
    where
      by : (h : Bool) → h && not s.line.has_next ≡ true → (h ≡ true → x s.next.leg ≡ true)
          → Kept u x newest (becomes_current s)
      by true e is =
          next_opened_kept (record s { current = s.next; edge = Shut })
          (record { ins = k.ins; current = inl (is refl); next = λ f. is refl; newest = k.newest })
      by false e is = absurd cc

  pub take_kept : (s : Server) → Kept u x newest s → Kept u x newest (take s)
  take_kept s k =
      moved_kept s.line.has_next (record s { line = after_take s.line }) k.next
      (record {
        ins = k.ins;
        current = k.current;
        next = λ e. k.next (taken_next s.line.current.pdus s.line e);
        newest = k.newest;
      })

  -- ---- rows that open no leg

  -- IN_R1/A6: a next channel is there
  in_r1_a6_kept : (s : Server) (n : ℕ) (a : Cookie) → Kept u x newest s
      → Kept u x newest (on_in_r1_a6 s n a).0
  in_r1_a6_kept s n a k =
      by_test (λ (r : Done). Kept u x newest r.0)
      ((n == s.current.leg)
      && (not s.line.finished && (s.line.has_next && not (waits kind.InR1A3 s.waiting))))
      (if same_cookie s.next.cookie a then took (hands_over s n)
      else refuse s (refused.Cookie s.next.cookie a)) (unexpected s)
      (λ e. by_test (λ (r : Done). Kept u x newest r.0) (same_cookie s.next.cookie a)
      (took (hands_over s n)) (refuse s (refused.Cookie s.next.cookie a))
      (λ f. by (in_leg n s.ins) (found_up s n k)
      (third (n == s.current.leg) (not s.line.finished) s.line.has_next
      (not (waits kind.InR1A3 s.waiting)) e))
      (λ f. k))
      (λ e. k)
    where
      third : (a b c d : Bool) → a && (b && (c && d)) ≡ true → c ≡ true
      third true true true d e = refl
      third true true false d e = absurd cc
      third true false c d e = absurd cc
      third false b c d e = absurd cc

      by : (o : Option InLeg) → IfSome o (Stands u x) → s.line.has_next ≡ true
          → Kept u x newest (moved_if true (record (leaves_by s o) { line = after_finish s.line }))
      by None is there =
          moved_kept true (record s { line = after_finish s.line }) (λ e. k.next there)
          (record { ins = k.ins; current = k.current; next = λ e. k.next there; newest = k.newest })
      by (Some leg) is there =
          let left = with_kept s (record leg { leaving = leaving.InR1B1 }) is k in
          moved_kept true
          (record (with_in s (record leg { leaving = leaving.InR1B1 })) {
            line = after_finish s.line;
          })
          (λ e. k.next there)
          (record {
            ins = left.ins;
            current = left.current;
            next = λ e. k.next there;
            newest = left.newest;
          })

  -- END/A2 on a channel of the line, or on a leg whose channel waits
  end_a2_kept : (s : Server) (n : ℕ) (count : Count) → Kept u x newest s
      → Kept u x newest (on_end_a2 s n count).0
  end_a2_kept s n count k =
      by_test (λ (r : Done). Kept u x newest r.0) (is_first count) (unexpected s)
      (end_a2_at s n (channel_at s n)) (λ e. k) (λ e. by_channel (channel_at s n))
    where
      by_stage : (leg : InLeg) (z : InStage) → u leg.number ≡ true
          → is_fresh z || x leg.number ≡ true → Kept u x newest (end_a2_on_leg s leg z).0
      by_stage leg Fresh is spoke = k
      by_stage leg Opened is spoke = k
      by_stage leg (Waits window timeout ended) is spoke =
          by_test (λ (r : Done). Kept u x newest r.0) ended (unexpected s)
          (took (with_in s (record leg { stage = Waits window timeout true }))) (λ e. k)
          (λ e. with_kept s (record leg { stage = Waits window timeout true }) (is, spoke) k)

      by_leg : (o : Option InLeg) → IfSome o (Stands u x) → Kept u x newest (end_a2_waiting s o).0
      by_leg None is = k
      by_leg (Some leg) is = by_stage leg leg.stage is.0 is.1

      by_channel : (o : Option Which) → Kept u x newest (end_a2_at s n o).0
      by_channel None = by_leg (in_leg n s.ins) (found_up s n k)
      by_channel (Some Current) =
          by_test (λ (r : Done). Kept u x newest r.0) s.line.current.ended (unexpected s)
          (took (record s { line = after_end s.line Current })) (λ e. k)
          (λ e. record { ins = k.ins; current = k.current; next = k.next; newest = k.newest })
      by_channel (Some Next) =
          by_test (λ (r : Done). Kept u x newest r.0) s.line.next.ended (unexpected s)
          (took (record s { line = after_end s.line Next })) (λ e. k)
          (λ e. record { ins = k.ins; current = k.current; next = k.next; newest = k.newest })

  pub pdu_kept : (s : Server) (leg : Leg) (bytes : List ℕ) → Kept u x newest s
      → Kept u x newest (pdu_by s leg.number bytes leg.kind).0
  pdu_kept s leg bytes k = by leg.kind
    where
      by : (kind : LegKind) → Kept u x newest (pdu_by s leg.number bytes kind).0
      by InServer =
          same_kept u x newest s (on_pdu s leg.number bytes).0 (same_pdu s leg.number bytes) k
      by OutServer = k
      by ClientIn = k
      by ClientOut = k

  -- ---- what is drawn and lost

  settled_kept : (s : Server) → Kept u x newest s → Kept u x newest (settled s)
  settled_kept s k = same_kept u x newest s (settled s) (same_settled s) k

  pub drawn_kept : (s : Server) (leg : Leg) → Kept u x newest s → Kept u x newest (drawn s leg)
  drawn_kept s leg k = by leg.kind
    where
      by : (kind : LegKind) → Kept u x newest (drawn_by s leg.number kind)
      by InServer =
          by_test (Kept u x newest) (in_is_drawn (in_leg leg.number s.ins))
          (settled (without_in s leg.number)) s
          (λ e. settled_kept (without_in s leg.number) (without_kept s leg.number k)) (λ e. k)
      by OutServer = k
      by ClientIn = k
      by ClientOut = k

  pub mark_kept : (s : Server) (leg : Leg) → Kept u x newest s → Kept u x newest (mark s leg)
  mark_kept s leg k = by leg.kind
    where
      lost : (o : Option InLeg) → IfSome o (Stands u x) → Kept u x newest (lost_in s leg.number o)
      lost None is = without_kept s leg.number k
      lost (Some one) is =
          by_test (Kept u x newest) (is_waiting one.stage && stays one.leaving)
          (with_in s (record one { leaving = leaving.Lost })) (without_in s leg.number)
          (λ e. with_kept s (record one { leaving = leaving.Lost }) is k)
          (λ e. without_kept s leg.number k)

      by : (kind : LegKind) → Kept u x newest (mark_by s leg.number kind)
      by InServer =
          settled_kept (lost_in s leg.number (in_leg leg.number s.ins))
          (lost (in_leg leg.number s.ins) (found_up s leg.number k))
      by OutServer =
          settled_kept (without_out (with_ack_dropped s leg.number) leg.number)
          (record { ins = k.ins; current = k.current; next = k.next; newest = k.newest })
      by ClientIn = k
      by ClientOut = k

-- ---- rows

-- y: the legs on which a message came, with that of the row
module _ (u x y : ℕ → Bool) (newest : ℕ) (spoken : (k : ℕ) → x k ≡ true → y k ≡ true) where
  -- the row takes what came and gives so many numbers, or refuses
  abbrev pub KeptBy : ℕ → Done → Type 0
  KeptBy count (t, Ok taken) = Kept u y (newest + count) t
  KeptBy count (t, Err why) = Kept u x newest t

  -- as many as the packet tells of
  abbrev pub KeptRow : Named → Done → Type 0
  KeptRow packet d = KeptBy (tells (Packet packet)) d

  later : (s : Server) → Kept u x newest s → Kept u y newest s
  later s k = more_kept u u x y newest s (λ n e. e) spoken k

  none_given : (legs : List InLeg) (here there : ℕ) (has_next : Bool) (number count : ℕ)
      → count ≡ 0 → Placed u y newest legs here there has_next number
      → Placed u y (newest + count) legs here there has_next number
  none_given legs here there has_next number count none k =
      let same : newest ≡ newest + count = omega (arith, none) in
      subst (λ (n : ℕ). Placed u y n legs here there has_next number) same k

  -- a row that opens no leg
  other_row : (packet : Named) (d : Done) → tells (Packet packet) ≡ 0 → Kept u x newest d.0
      → KeptRow packet d
  other_row packet (t, Ok taken) none k =
      none_given t.ins t.current.leg t.next.leg t.line.has_next t.newest_in (tells (Packet packet))
      none (later t k)
  other_row packet (t, Err why) none k = k

  -- the message came on this leg
  in_r1_a2_row : (s : Server) (n : ℕ) (count : Count) (a b c : Cookie) (d f : ℕ) → y n ≡ true
      → Kept u x newest s → KeptBy 0 (on_in_r1_a2 s n count a b c d f)
  in_r1_a2_row s n count a b c d f came k =
      by_test (KeptBy 0) (is_first count && not (has_fresh_below n s.ins))
      (in_r1_a2_at s s.stage n a b c d f) (unexpected s) (λ e. by_stage s.stage) (λ e. k)
    where
      tells_it : (leg : InLeg) → u leg.number ≡ true → leg.number ≡ n
          → Placed u y (newest + 0) (announced s leg c d f).ins (announced s leg c d f).current.leg
          (announced s leg c d f).next.leg (announced s leg c d f).line.has_next
          (announced s leg c d f).newest_in
      tells_it leg is same =
          let t = announced s leg c d f in
          let started = record s { newest = record { leg = leg.number; cookie = c } } in
          let now = later s k in
          none_given t.ins t.current.leg t.next.leg t.line.has_next t.newest_in 0 refl
          (next_opened_kept u y newest
          (with_in started (record leg { cookie = c; stage = Waits d f false }))
          (with_kept u y newest started (record leg { cookie = c; stage = Waits d f false })
          (is, subst (λ k. y k ≡ true) (sym same) came)
          (record {
            ins = now.ins;
            current = now.current;
            next = now.next;
            newest = now.newest;
          })))

      by_leg : (first : Cookie) (o : Option InLeg) → IfSome o (Stands u x)
          → IfSome o (λ (leg : InLeg). leg.number ≡ n)
          → KeptBy 0 (in_r1_a2_by s first a b c d f o)
      by_leg first None is same = k
      by_leg first (Some leg) is same =
          by_test (KeptBy 0) (not (is_fresh leg.stage)) (unexpected s)
          (if not (same_cookie first a) then refuse s (refused.Cookie first a)
          else (if not (same_cookie s.newest.cookie b)
          then refuse s (refused.Cookie s.newest.cookie b)
          else took (announced s leg c d f)))
          (λ e. k)
          (λ e. by_test (KeptBy 0) (not (same_cookie first a))
          (refuse s (refused.Cookie first a))
          (if not (same_cookie s.newest.cookie b)
          then refuse s (refused.Cookie s.newest.cookie b)
          else took (announced s leg c d f))
          (λ e. k)
          (λ e. by_test (KeptBy 0) (not (same_cookie s.newest.cookie b))
          (refuse s (refused.Cookie s.newest.cookie b)) (took (announced s leg c d f)) (λ e. k)
          (λ e. tells_it leg is.0 same)))

      by_stage : (z : Stage) → KeptBy 0 (in_r1_a2_at s z n a b c d f)
      by_stage (stage.Open first) =
          by_leg first (in_leg n s.ins) (found_up u x newest s n k) (number_found n s.ins)
      by_stage stage.Waits = k
      by_stage (stage.OutCame first) = k
      by_stage (stage.InCame first window timeout) = k
      by_stage stage.Ended = k

  -- CONN/B2: the first channel is that of leg 1
  first_kept : (s : Server) (cookie : Cookie) (o : Option InLeg) → IfSome o (Stands u y)
      → IfSome o (λ (leg : InLeg). leg.number ≡ 1) → y 1 ≡ true
      → Kept u y newest s → Kept u y newest (first_in s cookie o)
  first_kept s cookie None is same came k = k
  first_kept s cookie (Some leg) is same came k =
      with_kept u y newest
      (record s {
        current = record { leg = 1; number = 1; cookie = cookie };
        newest = record { leg = 1; cookie = cookie };
      })
      (record leg { cookie = cookie; stage = Opened; tells = tells.ConnB3 })
      (is.0, subst (λ k. y k ≡ true) (sym same) came)
      (record { ins = k.ins; current = inr refl; next = k.next; newest = k.newest })

  conn_b2_row : (s : Server) (n : ℕ) (count : Count) (a b : Cookie) (c d : ℕ) → y n ≡ true
      → Kept u x newest s → KeptBy 0 (on_conn_b2 s n count a b c d)
  conn_b2_row s n count a b c d came k =
      by_test (KeptBy 0) (is_first count && ((n == 1) && not (waits kind.ConnC1 s.waiting)))
      (conn_b2_at s s.stage a b c d) (unexpected s)
      (λ e. by (second (is_first count) (n == 1) (not (waits kind.ConnC1 s.waiting)) e) s.stage)
      (λ e. k)
    where
      second : (a b c : Bool) → a && (b && c) ≡ true → b ≡ true
      second true true c e = refl
      second true false c e = absurd cc
      second false b c e = absurd cc

      -- whatever the stage is
      staged : n == 1 ≡ true
          → Placed u y (newest + 0) (with_first_in s b).ins (with_first_in s b).current.leg
          (with_first_in s b).next.leg (with_first_in s b).line.has_next
          (with_first_in s b).newest_in
      staged e =
          let t = with_first_in s b in
          let now = later s k in
          none_given t.ins t.current.leg t.next.leg t.line.has_next t.newest_in 0 refl
          (first_kept s b (in_leg 1 s.ins) (found_up u y newest s 1 now) (number_found 1 s.ins)
          (subst (λ k. y k ≡ true) (same_number n 1 e) came) now)

      by : n == 1 ≡ true → (z : Stage) → KeptBy 0 (conn_b2_at s z a b c d)
      by e stage.Waits = staged e
      by e (stage.OutCame first) =
          by_test (KeptBy 0) (same_cookie first a)
          (took (opens (with_first_in s b) first c d)) (refuse s (refused.Cookie first a))
          (λ f. staged e)
          (λ f. k)
      by e (stage.InCame first window timeout) = k
      by e (stage.Open first) = k
      by e stage.Ended = k

  in_r2_a2_row : (s : Server) (n : ℕ) (count : Count) (a : Cookie) → Kept u x newest s
      → KeptRow (named.InR2A2 a) (on_in_r2_a2 s n count a)
  in_r2_a2_row s n count a k =
      by_test (KeptRow (named.InR2A2 a))
      (not (is_first count) && (is_open s.stage
      && (not (waits kind.InR2A3 s.waiting) && nat_lt s.newest_in 4294967295)))
      (in_r2_a2_on s n a (channel_at s n)) (unexpected s) (λ e. by (channel_at s n)) (λ e. k)
    where
      now : Kept u y newest s
      now = later s k

      carried : Placed u y (newest + 1) s.ins s.current.leg s.next.leg s.line.has_next
          (s.newest_in + 1)
      carried = record {
        ins = now.ins;
        current = now.current;
        next = now.next;
        newest = omega (arith, k.newest);
      }

      by : (o : Option Which) → KeptRow (named.InR2A2 a) (in_r2_a2_on s n a o)
      by None = k
      by (Some Current) = carried
      by (Some Next) = carried

  is_row : (s : Server) (n : ℕ) (count : Count) (packet : Named) → y n ≡ true
      → Kept u x newest s → KeptRow packet (on_is s n count packet)
  is_row s n count (named.ConnB2 v1 v2 v3 v4 v5 v6 v7 v8) came k =
      conn_b2_row s n count v2 v3 v4 v5 came k
  is_row s n count (named.InR1A2 v1 v2 v3 v4 v5 v6) came k =
      in_r1_a2_row s n count v2 v3 v4 v5 v6 came k
  is_row s n count (named.InR1A6 v1) came k =
      other_row (named.InR1A6 v1) (on_in_r1_a6 s n v1) refl (in_r1_a6_kept u x newest s n v1 k)
  is_row s n count (named.InR2A2 v1) came k = in_r2_a2_row s n count v1 k
  is_row s n count (named.OutR1A8 v1 v2) came k =
      other_row (named.OutR1A8 v1 v2) (on_out_r1_a8 s count v1 v2) refl
      (same_kept u x newest s (on_out_r1_a8 s count v1 v2).0 (same_out_r1_a8 s count v1 v2) k)
  is_row s n count named.EndA2 came k =
      other_row named.EndA2 (on_end_a2 s n count) refl (end_a2_kept u x newest s n count k)
  is_row s n count (named.AckTo v1 v2 v3 v4) came k =
      other_row (named.AckTo v1 v2 v3 v4) (on_ack_to s count v1 v2 v3 v4) refl
      (same_kept u x newest s (on_ack_to s count v1 v2 v3 v4).0 (same_ack_to s count v1 v2 v3 v4) k)
  is_row s n count packet came k = k

  os_row : (s : Server) (n : ℕ) (count : Count) (packet : Named) → Kept u x newest s
      → KeptRow packet (on_os s n count packet)
  os_row s n count (named.ConnA2 v1 v2 v3 v4 v5) k =
      other_row (named.ConnA2 v1 v2 v3 v4 v5) (on_conn_a2 s n count v2 v3 v4 v5) refl
      (same_kept u x newest s (on_conn_a2 s n count v2 v3 v4 v5).0
      (same_conn_a2 s n count v2 v3 v4 v5) k)
  os_row s n count (named.OutR1A4 v1 v2 v3 v4 v5 v6 v7) k =
      other_row (named.OutR1A4 v1 v2 v3 v4 v5 v6 v7) (on_out_r1_a4 s n count v2 v3 v4 v5 v6 v7) refl
      (same_kept u x newest s (on_out_r1_a4 s n count v2 v3 v4 v5 v6 v7).0
      (same_out_r1_a4 s n count v2 v3 v4 v5 v6 v7) k)
  os_row s n count (named.Ack v1 v2 v3) k =
      other_row (named.Ack v1 v2 v3) (on_ack s n count v1 v2 v3) refl
      (same_kept u x newest s (on_ack s n count v1 v2 v3).0 (same_ack s n count v1 v2 v3) k)
  os_row s n count (named.PingTraffic v1) k =
      other_row (named.PingTraffic v1) (on_ping_traffic s count) refl
      (same_kept u x newest s (on_ping_traffic s count).0 (same_ping_traffic s count) k)
  os_row s n count packet k = k

  pub packet_row : (s : Server) (leg : Leg) (count : Count) (named : Named)
      → (leg.kind ≡ InServer → y leg.number ≡ true) → Kept u x newest s
      → KeptRow named (packet s leg count named)
  packet_row s leg count named came k = by leg.kind came
    where
      by : (kind : LegKind) → (kind ≡ InServer → y leg.number ≡ true)
          → KeptRow named (packet_by s leg.number count named kind)
      by InServer here = is_row s leg.number count named (here refl) k
      by OutServer here = os_row s leg.number count named k
      by ClientIn here = k
      by ClientOut here = k
