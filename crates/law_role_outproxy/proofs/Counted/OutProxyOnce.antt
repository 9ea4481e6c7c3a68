-- where the moves of an out proxy are counted, its client opens one channel
use Rattle.law_order.proofs.Vocabulary.{◌≡◌, ℕ, suc, ◌≤◌, ◌&&◌, Bool, true, false, if◌then◌else◌, List, [], ◌∷◌, ◌++◌, Some, None, Ok, Err, refl, ap, subst, arith, and_parts}
use Rattle.rh_sig.specs.declared.named.Named.TheVariants as named
use Rattle.rh_shell.specs.declared.answers.Count.TheVariants as count
use Rattle.law_moves.proofs.Vocabulary.{by_test, Named, Leg, Count, Message, Text, Pdu, Packet, same_leg, one_if, OnLeg, Move, Up, HeadCame, PduCame, PacketCame, Puts, IsDrawn, Marks, Pings, Passage, started, moved, all_moved, taken_by, put_by, of_leg, count_of, Tells, IsCounted, AreCounted, packets, opens_client}
use Rattle.law_moves.proofs.Lemmas.{leg_is, one_counts, leg_at_most, leg_beside}
use Rattle.law_role_outproxy.proofs.Vocabulary.{OutProxyConfig, OutProxy, new_proxy, Done, is_co, is_os, is_first, unexpected, told_length, new_length, successor_length, pdu, packet, on_co, on_os, rules as proxy_rules, Pick, put as put_of}

-- no more packets pass a test than there are
pub at_most_all : (test : Named → Bool) (messages : List Message)
    → count_of test messages ≤ packets messages
at_most_all test [] = omega arith
at_most_all test (Text bytes ∷ messages) = at_most_all test messages
at_most_all test (Pdu pdu ∷ messages) = at_most_all test messages
at_most_all test (Packet named ∷ messages) =
    let rest = at_most_all test messages in
    by_test (λ (n : ℕ). n ≤ suc (packets messages)) (test named) (suc (count_of test messages))
    (count_of test messages) (λ e. omega (arith, rest)) (λ e. omega (arith, rest))

-- ---- rows

-- what opens a channel is taken where it is counted as the first
abbrev IsFirst : Count → Done → Type 0
IsFirst number (t, Ok taken) = number ≡ count.Zero
IsFirst number (t, Err why) = Unit {0}

pub is_zero : (number : Count) → is_first number ≡ true → number ≡ count.Zero
is_zero count.Zero e = refl
is_zero count.One e = absurd cc
is_zero count.More e = absurd cc

co_first : (s : OutProxy) (number : Count) (m : Named) → opens_client m ≡ true
    → IsFirst number (on_co s number m)
co_first s number (named.ConnA1 version connection cookie size) e =
    by_test (IsFirst number) (is_first number && told_length s.request new_length) _ (unexpected s)
    (λ f. is_zero number
    (and_parts (is_first number) (told_length s.request new_length) f).0) (λ f. tt)
co_first s number (named.OutR1A3 version connection predecessor cookie size) e =
    by_test (IsFirst number) (is_first number && told_length s.request successor_length) _
    (unexpected s)
    (λ f. is_zero number
    (and_parts (is_first number) (told_length s.request successor_length) f).0) (λ f. tt)
co_first s number m e = absurd cc

os_first : (s : OutProxy) (number : Count) (m : Named) → opens_client m ≡ true
    → IsFirst number (on_os s m)
os_first s number (named.ConnA1 version connection cookie size) e = tt
os_first s number (named.OutR1A3 version connection predecessor cookie size) e = tt
os_first s number m e = absurd cc

packet_first : (s : OutProxy) (leg : Leg) (number : Count) (m : Named) → opens_client m ≡ true
    → IsFirst number (packet s leg number m)
packet_first s leg number m opens =
    by_test (IsFirst number) (is_co s leg) (on_co s number m)
    (if is_os s leg then on_os s m else unexpected s) (λ e. co_first s number m opens)
    (λ e. by_test (IsFirst number) (is_os s leg) (on_os s m) (unexpected s)
    (λ f. os_first s number m opens) (λ f. tt))

-- ---- moves

-- on each leg at most one came
abbrev OpensOnce : Passage OutProxy → Type 0
OpensOnce p = (leg : Leg) → count_of opens_client (of_leg leg p.came) ≤ 1

-- another packet, or the first one
other_came : (p : Passage OutProxy) (one : OnLeg) → count_of opens_client (one.1 ∷ []) ≡ 0
    → OpensOnce p → (leg : Leg)
    → count_of opens_client (of_leg leg (p.came ++ one ∷ [])) ≤ 1
other_came p one none h leg =
    let before = h leg in
    let more = leg_at_most opens_client leg p.came one in omega (arith, none, before, more)

first_came : (p : Passage OutProxy) (on : Leg) (m : Named) → packets (of_leg on p.came) ≡ 0
    → OpensOnce p → (leg : Leg)
    → count_of opens_client (of_leg leg (p.came ++ (on, Packet m) ∷ [])) ≤ 1
first_came p on m none h leg = by (same_leg on leg) refl
  where
    by : (t : Bool) → same_leg on leg ≡ t
        → count_of opens_client (of_leg leg (p.came ++ (on, Packet m) ∷ [])) ≤ 1
    by true e =
        let most = at_most_all opens_client (of_leg leg p.came) in
        let nothing = subst (λ (l : Leg). packets (of_leg l p.came) ≡ 0) (leg_is on leg e) none in
        let more = leg_at_most opens_client leg p.came (on, Packet m) in
        let one = at_most_all opens_client (Packet m ∷ []) in
        omega (arith, most, nothing, more, one)
    by false e =
        let before = h leg in
        let same = leg_beside opens_client leg p.came (on, Packet m) e in
        omega (arith, before, same)

row_once : (p : Passage OutProxy) (leg : Leg) (number : Count) (m : Named) (x : Done)
    → (opens_client m ≡ true → IsFirst number x) → Tells number (packets (of_leg leg p.came))
    → OpensOnce p → OpensOnce (taken_by p leg (Packet m) x)
row_once p leg number m (t, Err why) is_first' tells h = h
row_once p leg number m (t, Ok taken) is_first' tells h = by (opens_client m) refl
  where
    by : (b : Bool) → opens_client m ≡ b
        → (on : Leg) → count_of opens_client (of_leg on (p.came ++ (leg, Packet m) ∷ [])) ≤ 1
    by true e =
        first_came p leg m
        (subst (λ (c : Count). Tells c (packets (of_leg leg p.came))) (is_first' e) tells) h
    by false e =
        let one = one_counts opens_client m in
        let is = ap one_if e in
        other_came p (leg, Packet m) (omega (arith, one, is)) h

pdu_once : (p : Passage OutProxy) (leg : Leg) (bytes : List ℕ) (x : Done) → OpensOnce p
    → OpensOnce (taken_by p leg (Pdu bytes) x)
pdu_once p leg bytes (t, Ok taken) h = other_came p (leg, Pdu bytes) refl h
pdu_once p leg bytes (t, Err why) h = h

put_once : (p : Passage OutProxy) (leg : Leg) (pick : Pick) → OpensOnce p
    → OpensOnce (put_by p leg pick)
put_once p leg None h = h
put_once p leg (Some one) h = h

move_once : (p : Passage OutProxy) (move : Move) → IsCounted p move → OpensOnce p
    → OpensOnce (moved proxy_rules p move)
move_once p (Up leg cookie) counted h = h
move_once p (HeadCame leg text) counted h = h
move_once p (PduCame leg number bytes) counted h =
    pdu_once p leg bytes (pdu p.role leg number bytes) h
move_once p (PacketCame leg number m) counted h =
    row_once p leg number m (packet p.role leg number m) (packet_first p.role leg number m) counted
    h
move_once p (Puts leg) counted h = put_once p leg (put_of p.role leg) h
move_once p (IsDrawn leg) counted h = h
move_once p (Marks leg) counted h = h
move_once p (Pings leg) counted h = h

moves_once : (p : Passage OutProxy) (moves : List Move) → AreCounted proxy_rules p moves
    → OpensOnce p → OpensOnce (all_moved proxy_rules p moves)
moves_once p [] counted h = h
moves_once p (move ∷ moves) counted h =
    moves_once (moved proxy_rules p move) moves counted.1 (move_once p move counted.0 h)

pub out_proxy_once : (config : OutProxyConfig) (moves : List Move)
    → AreCounted proxy_rules (started (new_proxy config)) moves → (leg : Leg)
    → count_of opens_client
    (of_leg leg (all_moved proxy_rules (started (new_proxy config)) moves).came) ≤ 1
out_proxy_once config moves counted =
    moves_once (started (new_proxy config)) moves counted (λ leg. omega arith)
