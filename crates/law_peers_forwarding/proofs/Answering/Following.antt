-- where a wish for an OUT channel came to a client, at most one answer for an IN channel follows
use Rattle.law_order.proofs.Vocabulary.{◌≡◌, ◌⊎◌, inl, inr, ℕ, zero, suc, ◌+◌, ◌≤◌, Bool, true, false, List, [], ◌∷◌, ◌++◌, if◌then◌else◌, arith, refl, sym, ap, ◌∙◌, subst, append-nil}
use Rattle.rh_sig.specs.declared.named.Named.TheVariants as named
use Rattle.law_moves.proofs.Vocabulary.{Named, ClientConfig, Leg, ClientIn, ClientOut, OutServer, Message, Text, Pdu, Packet, is_of, same_leg, EndMove, EndPassage, OnLeg, Passage, all_end_moved, end_moved, of_leg, count_of, is_out_r1_a1, is_out_r1_a2}
use Rattle.law_moves.proofs.Lemmas.{count_append, count_rises, leg_more, leg_is}
use Rattle.law_role_client.proofs.Vocabulary.{acts, rules, first, ClientRole, client_moved, is_in_a4, in_answered, out_switched, out_wanted}
use Rattle.law_role_client.proofs.Counted.Standing.{passes, total_stays, total_rises}
use Rattle.law_role_client.specs.Counted.Counting as at_client
use Rattle.law_role_server.proofs.Vocabulary.{ArePutInTurn}
use Rattle.law_role_server.specs.Counted.Counting as at_server
use Rattle.law_role_outproxy.proofs.Vocabulary.{co_leg, os_leg}
use Rattle.law_peers_moments.proofs.Joining.{co_back, os_back}
use Rattle.law_peers_moments.proofs.Read.{front_count}
use Rattle.law_peers_moments.proofs.GoingRound.Rounding.{once, same_counts}
use Rattle.law_peers_moments.specs.Moments.{AreJoined, Passages}
use Rattle.law_peers_moments.specs.GoingRound.{GoRound}
use Rattle.law_peers_in_channels.proofs.ServerExpects.Fronts.{IsOneMore, all_fronts, one_more}
use Rattle.law_peers_room.specs.OutRoom.Waits.{WaitsInOrder}
use Rattle.law_peers_forwarding.proofs.Answering.Until.{until_rises}
use Rattle.law_peers_forwarding.specs.Answering.Passing.{count_until}

abbrev pub came_on : ℕ → Passage ClientRole → List Message
came_on n p = of_leg (co_leg n) p.came

abbrev pub wishes_on : ℕ → Passage ClientRole → ℕ
wishes_on n p = count_of is_out_r1_a2 (came_on n p)

-- ---- later no fewer came

pub record AreFewer (n : ℕ) (p q : Passage ClientRole) : Type 0 where
  pub answers : count_of is_in_a4 (came_on n p) ≤ count_of is_in_a4 (came_on n q)
  pub before : count_until is_in_a4 is_out_r1_a2 (came_on n p)
      ≤ count_until is_in_a4 is_out_r1_a2 (came_on n q)

longer : (n : ℕ) (p q : Passage ClientRole) (more : List Message)
    → came_on n q ≡ came_on n p ++ more → AreFewer n p q
longer n p q more e = record {
  answers = subst (λ (ms : List Message). count_of is_in_a4 (came_on n p) ≤ count_of is_in_a4 ms)
      (sym e) (count_rises is_in_a4 (came_on n p) more);
  before = subst (λ (ms : List Message).
      count_until is_in_a4 is_out_r1_a2 (came_on n p) ≤ count_until is_in_a4 is_out_r1_a2 ms)
      (sym e) (until_rises is_in_a4 is_out_r1_a2 (came_on n p) more);
}

one_fewer : (n : ℕ) (p q : Passage ClientRole) → IsOneMore rules acts p q → AreFewer n p q
one_fewer n p q (inl same) =
    longer n p q [] (ap (of_leg (co_leg n)) same ∙ sym (append-nil (came_on n p)))
one_fewer n p q (inr (one, more, put)) =
    longer n p q (of_leg (co_leg n) (one ∷ []))
    (ap (of_leg (co_leg n)) more ∙ leg_more (co_leg n) p.came one)

pub all_fewer : (n : ℕ) (p : EndPassage ClientRole) (later : List EndMove)
    → AreFewer n p.passage (all_end_moved rules acts p later).passage
all_fewer n p [] = record { answers = omega arith; before = omega arith }
all_fewer n p (move ∷ later) =
    let next = end_moved rules acts p move in
    let one = one_fewer n p.passage next.passage (one_more rules acts p move) in
    let rest = all_fewer n next later in
    let a = one.answers in
    let b = rest.answers in
    let c = one.before in
    let d = rest.before in
    record { answers = omega (arith, a, b); before = omega (arith, c, d) }

-- ---- the first wish on a leg

pub record IsWished (n : ℕ) (config : ClientConfig) (all : List EndMove) : Type 0 where
  pub front : List EndMove
  pub move : EndMove
  pub later : List EndMove
  pub is : all ≡ front ++ move ∷ later
  pub none : wishes_on n (client_moved config front).passage ≡ 0
  pub some : 1 ≤ wishes_on n (client_moved config (front ++ move ∷ [])).passage

pub find_wish : (n : ℕ) (config : ClientConfig) (all : List EndMove)
    → (wishes_on n (client_moved config all).passage ≡ 0) ⊎ IsWished n config all
find_wish n config all = all_fronts At all next (inl refl)
  where
    At : List EndMove → Type 0
    At front = (wishes_on n (client_moved config front).passage ≡ 0) ⊎ IsWished n config all

    next : (front : List EndMove) (move : EndMove) (later : List EndMove)
        → all ≡ front ++ move ∷ later → At front → At (front ++ move ∷ [])
    next front move later e (inr wished) = inr wished
    next front move later e (inl none) =
        by (wishes_on n (client_moved config (front ++ move ∷ [])).passage) refl
      where
        by : (k : ℕ) → wishes_on n (client_moved config (front ++ move ∷ [])).passage ≡ k
            → At (front ++ move ∷ [])
        by zero so = inl so
        by (suc k) so = inr (record {
          front = front;
          move = move;
          later = later;
          is = e;
          none = none;
          some = omega (arith, so);
        })

-- with it one more is wanted
pub record IsWish (p q : Passage ClientRole) : Type 0 where
  pub wanted : out_wanted q ≡ out_wanted p + 1
  pub answered : in_answered q ≡ in_answered p
  pub switched : out_switched q ≡ out_switched p

record IsOf (one : OnLeg) : Type 0 where
  kind : is_of ClientOut one.0 ≡ true
  wish : passes at_client.is_out_r1_a2 one.1 ≡ true
  other : passes is_in_a4 one.1 ≡ false

is_wish : (n : ℕ) (leg : Leg) (m : Message)
    → 1 ≤ count_of is_out_r1_a2 (of_leg (co_leg n) ((leg, m) ∷ [])) → IsOf (leg, m)
is_wish n leg m some = by (same_leg leg (co_leg n)) refl some
  where
    packet : (m : Message) → is_of ClientOut leg ≡ true → 1 ≤ count_of is_out_r1_a2 (m ∷ [])
        → IsOf (leg, m)
    packet (Text bytes) kind some = absurd (omega (arith, some))
    packet (Pdu bytes) kind some = absurd (omega (arith, some))
    packet (Packet (named.OutR1A2 to)) kind some =
        record { kind = kind; wish = refl; other = refl }
    packet (Packet other) kind some = absurd (omega (arith, some))

    by : (b : Bool) → same_leg leg (co_leg n) ≡ b
        → 1 ≤ count_of is_out_r1_a2 (if b then m ∷ [] else []) → IsOf (leg, m)
    by true e some =
        packet m
        (subst (λ (l : Leg). is_of ClientOut l ≡ true) (sym (leg_is leg (co_leg n) e)) refl) some
    by false e some = absurd (omega (arith, some))

pub wish_step : (n : ℕ) (p q : Passage ClientRole) → IsOneMore rules acts p q
    → wishes_on n p ≡ 0 → 1 ≤ wishes_on n q → IsWish p q
wish_step n p q (inl same) none some =
    let equal : wishes_on n q ≡ wishes_on n p =
    ap (λ (log : List OnLeg). count_of is_out_r1_a2 (of_leg (co_leg n) log)) same in
    absurd (omega (arith, equal, none, some))
wish_step n p q (inr (one, more, put)) none some =
    let all : wishes_on n q
    ≡ count_of is_out_r1_a2 (came_on n p ++ of_leg (co_leg n) (one ∷ [])) =
    ap (count_of is_out_r1_a2)
    (ap (of_leg (co_leg n)) more ∙ leg_more (co_leg n) p.came one) in
    let both = count_append is_out_r1_a2 (came_on n p) (of_leg (co_leg n) (one ∷ [])) in
    let is = is_wish n one.0 one.1 (omega (arith, all, both, none, some)) in
    record {
      wanted =
          ap (at_client.total at_client.is_out_r1_a2 ClientOut) more
          ∙ total_rises at_client.is_out_r1_a2 ClientOut (out_wanted p) p.came one is.wish is.kind
          refl;
      answered =
          ap (at_client.total is_in_a4 ClientOut) more
          ∙ total_stays is_in_a4 ClientOut (in_answered p) p.came one is.other refl;
      switched = ap (at_client.total at_client.is_out_r1_a7 ClientIn) put;
    }

-- ---- where a wish came on a leg, the channels before it were left

wants : (m : Named) → once (is_out_r1_a1 m) ≡ once (at_server.is_out_r1_a1 m)
wants (named.OutR1A1 to) = refl
wants m = refl

pub left_before : (reader : ℕ → ℕ) (all : Passages) → AreJoined reader all → (n : ℕ)
    → WaitsInOrder n (all.outs n) → ArePutInTurn all.server → GoRound all.client all.server
    → 1 ≤ wishes_on n all.client → n ≤ out_switched all.client + 1
left_before reader all joined n waits turn round some =
    let came =
    front_count is_out_r1_a2 (came_on n all.client) (of_leg (co_leg n) (all.outs n).put)
    (co_back reader all joined n) in
    let passed = waits.wishes in
    let put =
    front_count is_out_r1_a1 (of_leg (os_leg n) (all.outs n).came)
    (of_leg (os_leg n) all.server.put) (os_back reader all joined n) in
    let same =
    same_counts is_out_r1_a1 at_server.is_out_r1_a1 wants (of_leg (os_leg n) all.server.put) in
    let one : 1 ≤ at_server.often_at at_server.is_out_r1_a1 OutServer n all.server.put =
    omega (arith, some, came, passed, put, same) in
    let first = round.outs.a1_behind_a9 in
    let second = round.outs.a9_behind_a8 in
    let third = round.outs.a8_behind_a7 in
    by (at_least n (at_server.out_put at_server.is_out_r1_a1 all.server)) one first second third
  where
    at_least : (a b : ℕ) → (a ≤ b) ⊎ (1 + b ≤ a)
    at_least zero b = inl (omega arith)
    at_least (suc a) zero = inr (omega arith)
    at_least (suc a) (suc b) = step (at_least a b)
      where
        step : (a ≤ b) ⊎ (1 + b ≤ a) → (suc a ≤ suc b) ⊎ (1 + suc b ≤ suc a)
        step (inl h) = inl (omega (arith, h))
        step (inr h) = inr (omega (arith, h))

    by : (n ≤ at_server.out_put at_server.is_out_r1_a1 all.server)
        ⊎ (1 + at_server.out_put at_server.is_out_r1_a1 all.server ≤ n)
        → 1 ≤ at_server.often_at at_server.is_out_r1_a1 OutServer n all.server.put
        → at_server.out_put at_server.is_out_r1_a1 all.server
        ≤ at_server.out_put at_server.is_out_r1_a9 all.server + 1
        → at_server.out_put at_server.is_out_r1_a9 all.server
        ≤ at_server.in_came at_server.is_out_r1_a8 all.server
        → at_server.in_came at_server.is_out_r1_a8 all.server ≤ out_switched all.client
        → n ≤ out_switched all.client + 1
    by (inl most) one first second third = omega (arith, most, first, second, third)
    by (inr over) one first second third =
        let none = turn.a1.behind n over in absurd (omega (arith, one, none))
