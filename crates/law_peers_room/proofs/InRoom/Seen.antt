-- what is known of an in proxy of what waits and of its ci legs, and what leaves that alone
use Rattle.law_order.proofs.Vocabulary.{◌≡◌, ℕ, suc, ◌+◌, ◌≤◌, ◌<◌, ◌==◌, Bool, true, false, ◌&&◌, if◌then◌else◌, List, [], ◌∷◌, ◌++◌, Some, None, Ok, Err, arith, refl, sym, ap, ◌∙◌, subst, nat_tests, Option}
use Rattle.rh_inproxy.specs.declared.state.Successor.TheVariants as successors
use Rattle.law_moves.proofs.Vocabulary.{by_test, Leg, ClientIn, Which, Current, Next, FORWARDED_ROOM, Message, is_of, same_leg, Waiting, OnLeg, of_leg, count_of, of_kind}
use Rattle.law_moves.proofs.Lemmas.{count_append, leg_more, kind_more, RowKeeps}
use Rattle.law_role_inproxy.proofs.Vocabulary.{Successor, Done, InProxy, channel_of, has_opened, next_of, follows, followed, is_client_leg, is_leg}
use Rattle.law_role_client.proofs.Vocabulary.{ci, is_out_r1_a7}
use Rattle.law_role_server.proofs.Vocabulary.{is_out_r1_a8}
use Rattle.law_peers_room.proofs.InRoom.Turns.{wait_more}
use Rattle.law_peers_room.specs.InRoom.Waiting.{AreApart, WaitFrom, passed, switches}

-- ---- what the facts are about

abbrev pub behind_of : Successor → Option ℕ
behind_of successors.Absent = None
behind_of (successors.Up number) = Some number
behind_of (successors.Joined leg stage) = Some leg.number

pub record Seen : Type 0 where
  pub number : ℕ
  pub waiting : Waiting
  -- the ci leg of the current channel, and the one behind it
  pub current : ℕ
  pub behind : Option ℕ

abbrev pub seen : InProxy → Seen
seen s = record {
  number = s.config.number;
  waiting = s.waiting;
  current = s.current.number;
  behind = behind_of s.successor;
}

abbrev pub Same : InProxy → InProxy → Type 0
Same s t = seen t ≡ seen s

abbrev pub newest_of : ℕ → Option ℕ → ℕ
newest_of current None = current
newest_of current (Some number) = number

abbrev pub newest : Seen → ℕ
newest x = newest_of x.current x.behind

-- ---- the facts

pub record Sound (own : ℕ) (x : Seen) (came put : List OnLeg) : Type 0 where
  pub number : x.number ≡ own
  pub room : x.waiting.room ≡ FORWARDED_ROOM
  pub turn : WaitFrom (passed own put) came x.waiting.due
  pub apart : AreApart x.waiting.due
  pub low : x.current ≤ newest x
  pub high : newest x ≤ suc x.current
  pub none : (k : ℕ) → newest x < k → of_leg (ci k) came ≡ []

abbrev pub Holds : ℕ → InProxy → List OnLeg → List OnLeg → Type 0
Holds own s came put = Sound own (seen s) came put

pub same_holds : (own : ℕ) (s t : InProxy) (came put : List OnLeg) → Same s t
    → Holds own s came put → Holds own t came put
same_holds own s t came put same h =
    subst (λ (x : Seen). Sound own x came put) (sym same) h

-- ---- a message came

-- on a ci leg up to the newest one
abbrev pub IsUpTo : Seen → Leg → Type 0
IsUpTo x leg = is_client_leg leg ≡ true → leg.number ≤ newest x

pub none_more : (x : Seen) (came : List OnLeg) (one : OnLeg) → IsUpTo x one.0
    → ((k : ℕ) → newest x < k → of_leg (ci k) came ≡ [])
    → (k : ℕ) → newest x < k → of_leg (ci k) (came ++ one ∷ []) ≡ []
none_more x came one near none k above =
    leg_more (ci k) came one
    ∙ ap (λ (ms : List Message). ms ++ of_leg (ci k) (one ∷ [])) (none k above)
    ∙ by (same_leg one.0 (ci k)) refl
  where
    by : (b : Bool) → same_leg one.0 (ci k) ≡ b
        → (if b then one.1 ∷ [] else []) ≡ []
    by false e = refl
    by true e =
        let of : is_client_leg one.0 ≡ true = grind (arith, nat_tests, e) in
        let is : one.0.number ≡ k = grind (arith, nat_tests, e) in
        let low = near of in
        absurd (omega (arith, low, is, above))

-- how many OUT_R1/A7 it is
abbrev pub counts : OnLeg → ℕ
counts one = if is_client_leg one.0 then count_of is_out_r1_a7 (one.1 ∷ []) else 0

pub switches_more : (came : List OnLeg) (one : OnLeg)
    → switches (came ++ one ∷ []) ≡ switches came + counts one
switches_more came one =
    ap (count_of is_out_r1_a7) (kind_more ClientIn came one)
    ∙ count_append is_out_r1_a7 (of_kind ClientIn came) (of_kind ClientIn (one ∷ []))
    ∙ ap (λ (n : ℕ). switches came + n) (by (is_of ClientIn one.0))
  where
    by : (b : Bool) → count_of is_out_r1_a7 (if b then one.1 ∷ [] else [])
        ≡ (if b then count_of is_out_r1_a7 (one.1 ∷ []) else 0)
    by true = refl
    by false = refl

-- it is none
pub came_one : (own : ℕ) (s : InProxy) (one : OnLeg) (came put : List OnLeg)
    → IsUpTo (seen s) one.0 → counts one ≡ 0 → Holds own s came put
    → Holds own s (came ++ one ∷ []) put
came_one own s one came put near quiet h = record {
  number = h.number;
  room = h.room;
  turn =
      let more = switches_more came one in
      wait_more (passed own put) came one s.waiting.due (omega (arith, more, quiet)) h.turn;
  apart = h.apart;
  low = h.low;
  high = h.high;
  none = none_more (seen s) came one near h.none;
}

-- a row takes it so, or refuses it
pub same_row : (own : ℕ) (s : InProxy) (one : OnLeg) (came put : List OnLeg)
    → IsUpTo (seen s) one.0 → counts one ≡ 0 → Holds own s came put → (x : Done)
    → Same s x.0 → RowKeeps (Holds own) one came put x
same_row own s one came put near quiet h (t, Ok taken) same =
    same_holds own s t (came ++ one ∷ []) put same (came_one own s one came put near quiet h)
same_row own s one came put near quiet h (t, Err why) same =
    same_holds own s t came put same h

-- ---- a message is put

pub passed_more : (own : ℕ) (put : List OnLeg) (one : OnLeg)
    → count_of is_out_r1_a8 (one.1 ∷ []) ≡ 0
    → passed own (put ++ one ∷ []) ≡ passed own put
passed_more own put one quiet =
    let all = ap (count_of is_out_r1_a8) (leg_more (is_leg own) put one)
    ∙ count_append is_out_r1_a8 (of_leg (is_leg own) put) (of_leg (is_leg own) (one ∷ [])) in
    let none = by (same_leg one.0 (is_leg own)) in
    omega (arith, all, none)
  where
    by : (b : Bool) → count_of is_out_r1_a8 (if b then one.1 ∷ [] else []) ≡ 0
    by true = quiet
    by false = refl

pub put_one : (own : ℕ) (s : InProxy) (one : OnLeg) (came put : List OnLeg)
    → count_of is_out_r1_a8 (one.1 ∷ []) ≡ 0 → Holds own s came put
    → Holds own s came (put ++ one ∷ [])
put_one own s one came put quiet h = record {
  number = h.number;
  room = h.room;
  turn = subst (λ (n : ℕ). WaitFrom n came s.waiting.due) (sym (passed_more own put one quiet))
      h.turn;
  apart = h.apart;
  low = h.low;
  high = h.high;
  none = h.none;
}

-- ---- the channel of a leg

pub record IsAt (x : Seen) (n : ℕ) : Type 0 where
  pub low : x.current ≤ n
  pub high : n ≤ newest x

pub at_channel : (own : ℕ) (s : InProxy) (n : ℕ) (which : Which) (came put : List OnLeg)
    → Holds own s came put → channel_of s n ≡ Some which → IsAt (seen s) n
at_channel own s n which came put h =
    by_test (λ (o : Option Which). o ≡ Some which → IsAt (seen s) n)
    (has_opened s.opening && (s.current.number == n)) (Some Current) (next_of s.successor n)
    (λ e f. let is : s.current.number ≡ n = grind (arith, nat_tests, e) in
    let low = h.low in record { low = omega (arith, is); high = omega (arith, is, low) })
    (λ e. next s.successor refl)
  where
    next : (z : Successor) → s.successor ≡ z → next_of z n ≡ Some which → IsAt (seen s) n
    next successors.Absent e f = absurd cc
    next (successors.Up number) e f = absurd cc
    next (successors.Joined leg stage) e f =
        by_test (λ (o : Option Which). o ≡ Some which → IsAt (seen s) n) (leg.number == n)
        (Some Next) None
        (λ t g. let is : leg.number ≡ n = grind (arith, nat_tests, t) in
        let same = ap (λ (y : Successor). newest_of s.current.number (behind_of y)) e in
        let low = h.low in
        record { low = omega (arith, is, same, low); high = omega (arith, is, same) })
        (λ t g. absurd cc) f

-- ---- the next channel follows

pub followed_holds : (own : ℕ) (s : InProxy) (came put : List OnLeg) → Holds own s came put
    → Holds own (followed s) came put
followed_holds own s came put h = by s.line.has_next s.successor refl
  where
    by : (b : Bool) (z : Successor) → s.successor ≡ z
        → (let now = follows b s.current z in
        Holds own (record s { current = now.0; successor = now.1 }) came put)
    by true z e = subst (λ (y : Successor). Holds own (record s { successor = y }) came put) e h
    by false successors.Absent e =
        subst (λ (y : Successor). Holds own (record s { successor = y }) came put) e h
    by false (successors.Up number) e =
        subst (λ (y : Successor). Holds own (record s { successor = y }) came put) e h
    by false (successors.Joined leg stage) e =
        let same = ap (λ (y : Successor). newest_of s.current.number (behind_of y)) e in record {
          number = h.number;
          room = h.room;
          turn = h.turn;
          apart = h.apart;
          low = omega arith;
          high = omega arith;
          none = λ k above. h.none k (omega (arith, above, same));
        }
