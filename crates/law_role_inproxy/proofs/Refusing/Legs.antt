-- how an in proxy was opened, and on which ci legs packets came
use Rattle.law_order.proofs.Vocabulary.{◌≡◌, ℕ, suc, ◌+◌, ◌<◌, ◌≤◌, Bool, true, false, List, [], ◌∷◌, ◌++◌, Some, None, refl, sym, ap, subst, arith, if◌then◌else◌, nat_tests, Option}
use Rattle.rh_sig.specs.declared.named.Named.TheVariants as named
use Rattle.law_moves.proofs.Vocabulary.{by_test, Named, Leg, ClientIn, Message, Pdu, Packet, one_if, same_leg, OnLeg, of_leg, BeginsIn, HasOne, HasBegunIn, count_of, of_kind, packets, is_any, is_conn_b1, is_in_r1_a1, opens_server}
use Rattle.law_moves.proofs.Lemmas.{leg_more, count_append, one_more_so, last_one_so, here_more, leg_is, leg_at_most, leg_rises, kind_at_most}
use Rattle.law_role_inproxy.proofs.Vocabulary.{ClientLeg, Edge, Told, Opener, Successor, Absent, Up, Joined, is_some, is_connection, is_replacement, is_unknown, opener_of, InProxy, is_client_leg, is_joined, is_leg, any, ci_leg}

-- ---- what the facts are about

-- whether IN_R2/A2 was put doesn't matter
abbrev pub plain : Successor → Successor
plain (Joined leg stage) = Joined leg Told
plain successor = successor

pub record Seen : Type 0 where
  pub number : ℕ
  pub opener : Option Opener
  pub edge : Edge
  pub current : ClientLeg
  pub heir : Successor
  -- there is a next channel
  pub has_next : Bool

abbrev pub seen : InProxy → Seen
seen s = record {
  number = s.config.number;
  opener = opener_of s.opening;
  edge = s.edge;
  current = s.current;
  heir = plain s.successor;
  has_next = s.line.has_next;
}

abbrev pub Same : InProxy → InProxy → Type 0
Same s t = seen t ≡ seen s

-- ---- the facts

-- the last ci leg on which a packet came
abbrev pub last : ClientLeg → Successor → ℕ
last current (Joined leg stage) = leg.number
last current successor = current.number

-- none came on the legs from this number
abbrev pub bound : ℕ → Option Opener → ClientLeg → Successor → ℕ
bound first None current heir = first
bound first (Some o) current heir = suc (last current heir)

abbrev pub Starts : ℕ → Option Opener → ClientLeg → Successor → Type 0
Starts first None current heir = (current.number ≡ first) × (heir ≡ Absent)
Starts first (Some o) current heir = Unit {0}

abbrev pub IsBehind : ℕ → Successor → Type 0
IsBehind n Absent = Unit {0}
IsBehind n (Up number) = number ≡ suc n
IsBehind n (Joined leg stage) = leg.number ≡ suc n

-- CONN/B1 or IN_R1/A1 of this connection and channel
abbrev pub Opens : Opener → Named → Type 0
Opens o (named.ConnB1 version connection channel lifetime keepalive group) =
    (connection ≡ o.connection) × (channel ≡ o.channel)
Opens o (named.InR1A1 version connection predecessor channel) =
    (connection ≡ o.connection) × (channel ≡ o.channel)
Opens o packet = ⊥

-- the cookies of the first channel, of the current one, and of the next one
abbrev pub Opened : ℕ → Option Opener → ClientLeg → List OnLeg → Type 0
Opened first None current came = Unit {0}
Opened first (Some o) current came =
    HasOne (Opens o) (of_leg (ci_leg first) came)
    × HasBegunIn current.cookie (of_leg (ci_leg current.number) came)

abbrev pub Joins : Successor → List OnLeg → Type 0
Joins (Joined leg stage) came = HasBegunIn leg.cookie (of_leg (ci_leg leg.number) came)
Joins successor came = Unit {0}

pub record All (first : ℕ) (x : Seen) (came : List OnLeg) : Type 0 where
  pub number : x.number ≡ first
  pub from : first ≤ x.current.number
  pub start : Starts first x.opener x.current x.heir
  pub behind : IsBehind x.current.number x.heir
  pub joined : x.has_next ≡ is_joined x.heir
  pub used : (k : ℕ) → first ≤ k → k < bound first x.opener x.current x.heir
      → 1 ≤ packets (of_leg (ci_leg k) came)
  pub fresh : (k : ℕ) → bound first x.opener x.current x.heir ≤ k
      → packets (of_leg (ci_leg k) came) ≡ 0
  pub opened : Opened first x.opener x.current came
  pub joins : Joins x.heir came
  pub connects : is_connection x.opener ≡ false
      → count_of is_conn_b1 (of_kind ClientIn came) ≡ 0
  pub replaces : is_replacement x.opener ≡ false
      → count_of (is_in_r1_a1 any) (of_leg (ci_leg first) came) ≡ 0
  pub window : one_if (is_unknown x.edge)
      + count_of opens_server (of_leg (is_leg first) came) ≡ 1
  pub told : is_unknown x.edge ≡ false → is_some x.opener ≡ true

-- ---- a message more

module _ (leg : Leg) (came : List OnLeg) (one : OnLeg) where
  pub leg_sum : (test : Named → Bool) → count_of test (of_leg leg (came ++ one ∷ []))
      ≡ count_of test (of_leg leg came) + count_of test (of_leg leg (one ∷ []))
  leg_sum test =
      let all = ap (count_of test) (leg_more leg came one) in
      let both = count_append test (of_leg leg came) (of_leg leg (one ∷ [])) in
      omega (arith, all, both)

  pub one_more : (P : Named → Type 0) → HasOne P (of_leg leg came)
      → HasOne P (of_leg leg (came ++ one ∷ []))
  one_more P h =
      subst (HasOne P) (sym (leg_more leg came one))
      (one_more_so P (of_leg leg came) (of_leg leg (one ∷ [])) h)

pub one_last : (leg : Leg) (came : List OnLeg) (m : Named) (P : Named → Type 0) → P m
    → HasOne P (of_leg leg (came ++ (leg, Packet m) ∷ []))
one_last leg came m P is =
    subst (HasOne P) (sym (here_more leg came (Packet m))) (last_one_so P (of_leg leg came) m is)

pub client_is : (leg : Leg) → is_client_leg leg ≡ true → ci_leg leg.number ≡ leg
client_is leg e = leg_is (ci_leg leg.number) leg (same e)
  where
    same : is_client_leg leg ≡ true → same_leg (ci_leg leg.number) leg ≡ true
    same e = grind (arith, nat_tests)

-- packets come only on legs below a number
abbrev pub Within : ℕ → OnLeg → Type 0
Within bound one = (k : ℕ) → bound ≤ k → packets (of_leg (ci_leg k) (one ∷ [])) ≡ 0

-- neither CONN/B1 nor IN_R1/A1, nor what tells the server's window
pub record IsPlain (m : Message) : Type 0 where
  pub connects : count_of is_conn_b1 (m ∷ []) ≡ 0
  pub replaces : count_of (is_in_r1_a1 any) (m ∷ []) ≡ 0
  pub window : count_of opens_server (m ∷ []) ≡ 0

module _ (first : ℕ) (x : Seen) (came : List OnLeg) (one : OnLeg) (h : All first x came) where
  pub opened_more : (o : Option Opener) → Opened first o x.current came
      → Opened first o x.current (came ++ one ∷ [])
  opened_more None b = tt
  opened_more (Some o) b = (
    one_more (ci_leg first) came one (Opens o) b.0,
    one_more (ci_leg x.current.number) came one (BeginsIn x.current.cookie) b.1,
  )

  pub joins_more : (z : Successor) → Joins z came → Joins z (came ++ one ∷ [])
  joins_more Absent b = tt
  joins_more (Up number) b = tt
  joins_more (Joined leg stage) b =
      one_more (ci_leg leg.number) came one (BeginsIn leg.cookie) b

  -- where it may tell the window
  pub grows_to : (edge : Edge) → count_of is_conn_b1 (one.1 ∷ []) ≡ 0
      → count_of (is_in_r1_a1 any) (one.1 ∷ []) ≡ 0
      → Within (bound first x.opener x.current x.heir) one
      → one_if (is_unknown edge) + count_of opens_server (of_leg (is_leg first) (came ++ one ∷ []))
      ≡ 1 → (is_unknown edge ≡ false → is_some x.opener ≡ true)
      → All first (record x { edge = edge }) (came ++ one ∷ [])
  grows_to edge no_b1 no_a1 within window told = record {
    number = h.number;
    from = h.from;
    start = h.start;
    behind = h.behind;
    joined = h.joined;
    used = λ k a b.
        let some = h.used k a b in
        let more = leg_rises is_any (ci_leg k) came one in omega (arith, some, more);
    fresh = λ k a.
        let none = h.fresh k a in
        let here = within k a in
        let sum = leg_sum (ci_leg k) came one is_any in omega (arith, none, here, sum);
    opened = opened_more x.opener h.opened;
    joins = joins_more x.heir h.joins;
    connects = λ e.
        let none = h.connects e in
        let more = kind_at_most is_conn_b1 ClientIn came one in omega (arith, none, more, no_b1);
    replaces = λ e.
        let none = h.replaces e in
        let more = leg_at_most (is_in_r1_a1 any) (ci_leg first) came one in
        omega (arith, none, more, no_a1);
    window = window;
    told = told;
  }

  pub grows : IsPlain one.1 → Within (bound first x.opener x.current x.heir) one
      → All first x (came ++ one ∷ [])
  grows is within =
      let before = h.window in
      let more = leg_at_most opens_server (is_leg first) came one in
      let least = leg_rises opens_server (is_leg first) came one in
      let here = is.window in
      grows_to x.edge is.connects is.replaces within (omega (arith, before, more, least, here))
      h.told

-- ---- where a packet comes

pub on_client : (n k : ℕ) (m : Message) → (n ≡ k → ⊥) → of_leg (ci_leg k) ((ci_leg n, m) ∷ []) ≡ []
on_client n k m other = ap (λ (t : Bool). if t then m ∷ [] else []) (apart n k other)
  where
    apart : (n k : ℕ) → (n ≡ k → ⊥) → same_leg (ci_leg n) (ci_leg k) ≡ false
    apart n k other = grind (arith, nat_tests)

pub client_within : (n limit : ℕ) (m : Message) → n < limit → Within limit (ci_leg n, m)
client_within n limit m below k above =
    ap packets (on_client n k m (λ e. omega (arith, e, below, above)))

pub server_within : (n limit : ℕ) (m : Message) → Within limit (is_leg n, m)
server_within n limit m k above = refl

pub pdu_within : (leg : Leg) (limit : ℕ) (bytes : List ℕ) → Within limit (leg, Pdu bytes)
pdu_within leg limit bytes k above =
    by_test (λ (ms : List Message). packets ms ≡ 0) (same_leg leg (ci_leg k)) (Pdu bytes ∷ []) []
    (λ e. refl) (λ e. refl)
