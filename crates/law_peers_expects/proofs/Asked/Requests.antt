-- where each head that came is the client's request, an out proxy was told the length of its
-- channel
use Rattle.law_order.proofs.Vocabulary.{◌≡◌, ℕ, zero, suc, true, false, List, [], ◌∷◌, Some, None, is_some, Ok, Err, refl, sym, ap, ◌∙◌, subst, arith, eq-eqb, AllByRecursion, nat_le, IfSome, Option, Result}
use Rattle.law_moves.proofs.Vocabulary.{by_test, HttpFault, greatest_echo, Asked, request_verdict, Leg, Message, same_leg, Move, Up, HeadCame, PduCame, PacketCame, Puts, IsDrawn, Marks, Pings, Passage, started, moved, all_moved, taken_by, put_by, Stages, none_up, stages_after, AreInTurn, AreInTurnFrom, IsInTurn}
use Rattle.law_moves.proofs.Lemmas.{itself}
use Rattle.law_role_outproxy.proofs.Vocabulary.{OutProxyConfig, OutProxy, new_proxy, Done, told_length, Pick, rules as proxy_rules, co_leg, asked_after, asked_by, last_asked}
use Rattle.law_role_outproxy.proofs.Refusing.Law.{moves_ask}
use Rattle.law_role_client_rows.specs.Putting.{out_length}
use Rattle.law_peers_expects.proofs.Asked.Standing.{Core, Seen, seen, IsQuiet, Stands, move_stands, starts}
use Rattle.law_peers_expects.specs.Asked.Asking.{AsksNoEcho}
use Rattle.law_peers_expects.specs.Asked.Requests.{AsksFor, IsRequest}

-- ---- no such request is one for an echo

no_echo : (below : ℕ) → nat_le (out_length below) greatest_echo ≡ false
no_echo zero = refl
no_echo (suc below) = refl

asks_no_echo : (n : ℕ) (move : Move) → IsRequest n move → AsksNoEcho (co_leg n) move
asks_no_echo n (HeadCame leg text) is = λ same asked reads.
    let one = is same in
    let both : Ok asked ≡ Ok one.asked = sym reads ∙ one.reads in
    let read : asked ≡ one.asked = cc in
    ap (λ (a : Asked). nat_le a.length greatest_echo) read
    ∙ ap (λ (l : ℕ). nat_le l greatest_echo) one.tells ∙ no_echo one.below
asks_no_echo n (Up leg cookie) is = tt
asks_no_echo n (PduCame leg count bytes) is = tt
asks_no_echo n (PacketCame leg count m) is = tt
asks_no_echo n (Puts leg) is = tt
asks_no_echo n (IsDrawn leg) is = tt
asks_no_echo n (Marks leg) is = tt
asks_no_echo n (Pings leg) is = tt

pub ask_no_echo : (n : ℕ) (moves : List Move) → AllByRecursion (IsRequest n) moves
    → AllByRecursion (AsksNoEcho (co_leg n)) moves
ask_no_echo n [] all = tt
ask_no_echo n (move ∷ moves) all = (asks_no_echo n move all.0, ask_no_echo n moves all.1)

-- ---- the request of the role is the last that its moves asked for

by_row : (p : Passage OutProxy) (leg : Leg) (m : Message) (x : Done) → seen x.0 ≡ seen p.role
    → (taken_by p leg m x).role.request ≡ p.role.request
by_row p leg m (t, Ok taken) same = ap (λ (k : Seen). k.request) same
by_row p leg m (t, Err why) same = ap (λ (k : Seen). k.request) same

by_put : (p : Passage OutProxy) (leg : Leg) (pick : Pick) → IsQuiet p.role pick
    → (put_by p leg pick).role.request ≡ p.role.request
by_put p leg None same = refl
by_put p leg (Some one) same = ap (λ (k : Core). k.request) same

-- ---- which tells the length of its channel

abbrev Told : ℕ → Option Asked → Type 0
Told n o = IfSome o (λ (a : Asked). (below : ℕ) → n ≡ suc below → a.length ≡ out_length below)

text_told : (n : ℕ) (text : List ℕ) → AsksFor n text → (o : Option Asked) → Told n o
    → Told n (asked_by o (request_verdict false text))
text_told n text one o told =
    subst (λ (v : Result Asked HttpFault). Told n (asked_by o v)) (sym one.reads)
    (by_test (Told n) (nat_le one.asked.length greatest_echo) o (Some one.asked) (λ e. told)
    (λ e below is. one.tells ∙ ap out_length (omega (arith, one.number, is))))

module _ (config : OutProxyConfig) where
  move_told : (g : Stages) (s : OutProxy) (move : Move) → IsInTurn proxy_rules s g move
      → IsRequest config.number move → Stands config g s → (o : Option Asked)
      → Told config.number o → Told config.number (asked_after o move)
  move_told g s (HeadCame leg text) turn is stands o told =
      text_told config.number text
      (is (subst (λ (l : Leg). same_leg l (co_leg config.number) ≡ true)
      (sym (stands.heads leg turn)) (itself (co_leg config.number)))) o told
  move_told g s (Up leg cookie) turn is stands o told = told
  move_told g s (PduCame leg count bytes) turn is stands o told = told
  move_told g s (PacketCame leg count m) turn is stands o told = told
  move_told g s (Puts leg) turn is stands o told = told
  move_told g s (IsDrawn leg) turn is stands o told = told
  move_told g s (Marks leg) turn is stands o told = told
  move_told g s (Pings leg) turn is stands o told = told

  all_told : (g : Stages) (p : Passage OutProxy) (moves : List Move)
      → AreInTurnFrom proxy_rules p g moves → AllByRecursion (IsRequest config.number) moves
      → Stands config g p.role → (o : Option Asked) → Told config.number o
      → Told config.number (last_asked o moves)
  all_told g p [] turn all stands o told = told
  all_told g p (move ∷ moves) turn all stands o told =
      all_told (stages_after proxy_rules p.role g move) (moved proxy_rules p move) moves turn.1
      all.1 (move_stands config g p move stands) (asked_after o move)
      (move_told g p.role move turn.0 all.0 stands o told)

  pub told_own : (moves : List Move) → AreInTurn proxy_rules (new_proxy config) moves
      → AllByRecursion (IsRequest config.number) moves
      → is_some (all_moved proxy_rules (started (new_proxy config)) moves).role.request ≡ true
      → (below : ℕ) → config.number ≡ suc below
      → told_length (last_asked None moves) (out_length below) ≡ true
  told_own moves turn all taken below number =
      by (last_asked None moves)
      (sym (ap is_some (moves_ask (started (new_proxy config)) moves)) ∙ taken)
      (all_told none_up (started (new_proxy config)) moves turn all (starts config) None tt)
    where
      by : (o : Option Asked) → is_some o ≡ true → Told config.number o
          → told_length o (out_length below) ≡ true
      by None e told = absurd cc
      by (Some a) e told = eq-eqb a.length (out_length below) (told below number)
