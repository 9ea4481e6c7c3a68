-- a server sends RPC PDUs on an os leg only where something came on it
use Rattle.law_order.proofs.Vocabulary.{◌≡◌, ◌⊎◌, ◌<◌, ◌≤◌, ◌+◌, ◌++◌, ℕ, zero, suc, nat_lt, Bool, true, false, if◌then◌else◌, List, [], ◌∷◌, inl, inr, refl, sym, ap, ap₂, ◌∙◌, subst, arith, nat_tests, AllByRecursion, Item, GiverLaw}
use Rattle.law_order.specs.Logs.{seen}
use Rattle.law_moves.proofs.Vocabulary.{Leg, OutServer, Message, Text, Pdu, Packet, is_of, same_leg, OnLeg, Passage, of_leg, count_of, HasOne, of_kind}
use Rattle.law_node_history.proofs.Lemmas.{cases_leg}
use Rattle.law_role_client_rows.specs.Putting.{OpensOutChannels}
use Rattle.law_role_outproxy.proofs.Vocabulary.{os_leg, PutsToServer}
use Rattle.law_role_server.proofs.Vocabulary.{Server, is_conn_a2, is_out_r1_a4, out_came, giver_of, out_items, sent, ArePutInTurn}
use Rattle.law_role_server.specs.Counted.Opening.{IsText, OpensOnce}
use Rattle.law_role_server.specs.Counted.Replacing.{AreReplaced}
use Rattle.law_peers_moments.specs.Moments.{IsMoment, Moves, Numbers, out_behind, server_behind}
use Rattle.law_peers_in_channels.proofs.ServerExpects.Logs.{some_counted, some_leg}
use Rattle.law_peers_in_channels.proofs.ServerExpects.Moment.{IsConnA2, OpensOuts, conn_a2_on_first, on_leg, passes_conn_a2}
use Rattle.law_peers_routes.proofs.Downwards.Sides.{server_sent}

-- ---- greetings

of_its_kind : (leg : Leg) (n : ℕ) → same_leg leg (os_leg n) ≡ true
    → is_of OutServer leg ≡ true
of_its_kind leg n e = by (cases_leg leg (os_leg n))
  where
    by : (leg ≡ os_leg n) ⊎ (same_leg leg (os_leg n) ≡ false) → is_of OutServer leg ≡ true
    by (inl same) = ap (is_of OutServer) same
    by (inr apart) = absurd (let both = sym e ∙ apart in cc)

text_none : (m : Message) → IsText m → out_items m ≡ []
text_none (Text bytes) is = refl
text_none (Pdu pdu) is = absurd is
text_none (Packet named) is = absurd is

-- among texts on legs of a kind nothing of order is on one of them
texts_none : (n : ℕ) (log : List OnLeg) → AllByRecursion IsText (of_kind OutServer log)
    → seen out_items (of_leg (os_leg n) log) ≡ []
texts_none n [] all = refl
texts_none n (one ∷ log) all =
    by (same_leg one.0 (os_leg n)) (is_of OutServer one.0) (of_its_kind one.0 n) all
    (texts_none n log)
  where
    by : (here kind : Bool) → (here ≡ true → kind ≡ true)
        → AllByRecursion IsText
        (if kind then one.1 ∷ of_kind OutServer log else of_kind OutServer log)
        → (AllByRecursion IsText (of_kind OutServer log)
        → seen out_items (of_leg (os_leg n) log) ≡ [])
        → seen out_items (if here then one.1 ∷ of_leg (os_leg n) log else of_leg (os_leg n) log)
        ≡ []
    by true true own all rest =
        ap₂ (λ (a b : List Item). a ++ b) (text_none one.1 all.0) (rest all.1)
    by true false own all rest = absurd (let no' = own refl in cc)
    by false true own all rest = rest all.1
    by false false own all rest = rest all

-- ---- a moment

pub record Sends (numbers : Numbers) (moves : Moves) : Type 0 where
  pub client : OpensOutChannels numbers.client moves.client
  pub outs : (n : ℕ) → PutsToServer (numbers.outs n) (out_behind numbers moves n)
  pub opens : OpensOnce (server_behind numbers moves).passage
  pub replaced : AreReplaced (server_behind numbers moves).passage
  pub in_turn : ArePutInTurn (server_behind numbers moves).passage
  pub gives : GiverLaw
      (giver_of (server_behind numbers moves).given (server_behind numbers moves).passage.role)
      (sent (server_behind numbers moves))

not_below : (k l : ℕ) → nat_lt k l ≡ false → l ≤ k
not_below k l e = grind (arith, nat_tests, e)

is_below : (k l : ℕ) → nat_lt k l ≡ true → k < l
is_below k l e = grind (arith, nat_tests, e)

module _ (numbers : Numbers) (reader : ℕ → ℕ) (moves : Moves)
    (moment : IsMoment numbers reader moves) (know : Sends numbers moves) where
  abbrev server : Passage Server
  server = (server_behind numbers moves).passage

  opens_outs : OpensOuts numbers moves
  opens_outs = record {
    client = know.client;
    outs = know.outs;
    number = moment.now.made.out_number;
  }

  -- CONN/A2 came on the first of them
  conn_a2_there : 1 ≤ out_came is_conn_a2 server
      → HasOne IsConnA2 (of_leg (os_leg 1) server.came)
  conn_a2_there some =
      let leg = some_leg IsConnA2 OutServer server.came
      (some_counted IsConnA2 is_conn_a2 passes_conn_a2 (of_kind OutServer server.came) some) in
      let first = conn_a2_on_first numbers reader moves moment.now.joined opens_outs leg.0
      (on_leg numbers reader moves moment.now.joined opens_outs IsConnA2
      (λ received available channel is. is) leg.0 leg.1) in
      subst (λ (k : ℕ). HasOne IsConnA2 (of_leg (os_leg k) server.came)) first leg.1

  on_first : of_leg (os_leg 1) server.came ≡ []
      → seen out_items (of_leg (os_leg 1) server.put) ≡ []
  on_first none = by (out_came is_conn_a2 server) refl
    where
      by : (k : ℕ) → out_came is_conn_a2 server ≡ k
          → seen out_items (of_leg (os_leg 1) server.put) ≡ []
      by zero e =
          let once = know.opens.conn_b2_once in
          texts_none 1 server.put (know.opens.early (omega (arith, e, once))).greetings
      by (suc k) e = absurd (subst (HasOne IsConnA2) none (conn_a2_there (omega (arith, e))))

  on_later : (k : ℕ) → of_leg (os_leg (suc (suc k))) server.came ≡ []
      → sent (server_behind numbers moves) (suc (suc k)) ≡ []
  on_later k none = by (nat_lt server.role.writing (suc (suc k))) refl
    where
      by : (b : Bool) → nat_lt server.role.writing (suc (suc k)) ≡ b
          → sent (server_behind numbers moves) (suc (suc k)) ≡ []
      by true e = know.gives.later (suc (suc k)) (is_below server.role.writing (suc (suc k)) e)
      by false e =
          let most = not_below server.role.writing (suc (suc k)) e in
          let writing = know.replaced.writing in
          let began = know.replaced.began in
          let enough : suc (suc k) < 2 + out_came is_out_r1_a4 server =
          omega (arith, most, writing, began) in
          let one = know.in_turn.a4.each (suc (suc k)) (omega arith) enough in
          let nothing = ap (count_of is_out_r1_a4) none in absurd (omega (arith, one, nothing))

  -- where nothing came, nothing is sent
  pub none_sent : (n : ℕ) → of_leg (os_leg n) server.came ≡ []
      → seen out_items (of_leg (os_leg n) server.put) ≡ []
  none_sent zero none = sym (server_sent 0 server.put) ∙ know.gives.unused
  none_sent (suc zero) none = on_first none
  none_sent (suc (suc k)) none =
      sym (server_sent (suc (suc k)) server.put) ∙ on_later k none
