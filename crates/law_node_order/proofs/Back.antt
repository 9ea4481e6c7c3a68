-- a proxy puts no RPC PDU on the legs by which it is fed
use Rattle.law_order.proofs.Vocabulary.{◌≡◌, ℕ, Bool, true, false, false≢true, List, [], ◌∷◌, ◌++◌, Some, None, Ok, Err, Option, IfSome, AllByRecursion, rules, refl, sym, ap, ◌∙◌, Item, pdus, seen}
use Rattle.law_order.proofs.ItemLists.{pdus-append}
use Rattle.rh_inproxy.specs.Machine as in_proxy
use Rattle.rh_inproxy.specs.Opening as in_opening
use Rattle.rh_outproxy.specs.Machine as out_proxy
use Rattle.rh_outproxy.specs.Putting as out_putting
use Rattle.rh_outproxy.specs.Rows.{is_os}
use Rattle.law_moves.proofs.Vocabulary.{by_test, Leg, LegKind, ClientOut, OutServer, ClientIn, InServer, Message, Text, Pdu, Packet, Rules, Row, is_of, OnLeg, of_leg, same_leg, Move, Up, HeadCame, PduCame, PacketCame, Puts, IsDrawn, Marks, Pings, Passage, all_moved, moved, put_by, started, taken_by}
use Rattle.law_moves.proofs.Lemmas.{all_append, leg_is}
use Rattle.law_role_inproxy.proofs.Vocabulary.{InProxyConfig, InProxy, first, is_client_leg, item_came}
use Rattle.law_role_outproxy.proofs.Vocabulary.{OutProxyConfig, OutProxy, from_server, new_proxy}
use Rattle.law_node_begins.specs.ProxiesBegin.Pipes.{ci, os}

abbrev IsNoPdu : Message → Type 0
IsNoPdu (Text bytes) = Unit {0}
IsNoPdu (Pdu pdu) = ⊥
IsNoPdu (Packet named) = Unit {0}

-- on these legs stands none
abbrev NoneOn : (Leg → Bool) → OnLeg → Type 0
NoneOn near one = near one.0 ≡ true → IsNoPdu one.1

module _ {S : Type 0} (r : Rules S) (near : Leg → Bool)
    (puts : (s : S) (leg : Leg)
    → IfSome (r.put s leg) (λ (x : S × Message). NoneOn near (leg, x.1))) where
  abbrev AreNone : List OnLeg → Type 0
  AreNone put = AllByRecursion (NoneOn near) put

  by_put : (p : Passage S) (leg : Leg) (o : Option (S × Message))
      → IfSome o (λ (x : S × Message). NoneOn near (leg, x.1)) → AreNone p.put
      → AreNone (put_by p leg o).put
  by_put p leg None is all = all
  by_put p leg (Some x) is all = all_append (NoneOn near) p.put ((leg, x.1) ∷ []) all (is, tt)

  by_row : (p : Passage S) (leg : Leg) (message : Message) (x : S × Row) → AreNone p.put
      → AreNone (taken_by p leg message x).put
  by_row p leg message (role, Ok taken) all = all
  by_row p leg message (role, Err refused) all = all

  move_none : (p : Passage S) (move : Move) → AreNone p.put → AreNone (moved r p move).put
  move_none p (Up leg cookie) all = all
  move_none p (HeadCame leg text) all = all
  move_none p (PduCame leg count pdu) all =
      by_row p leg (Pdu pdu) (r.pdu p.role leg count pdu) all
  move_none p (PacketCame leg count named) all =
      by_row p leg (Packet named) (r.packet p.role leg count named) all
  move_none p (Puts leg) all = by_put p leg (r.put p.role leg) (puts p.role leg) all
  move_none p (IsDrawn leg) all = all
  move_none p (Marks leg) all = all
  move_none p (Pings leg) all = all

  moves_none : (p : Passage S) (moves : List Move) → AreNone p.put
      → AreNone (all_moved r p moves).put
  moves_none p [] all = all
  moves_none p (move ∷ moves) all =
      moves_none (moved r p move) moves (move_none p move all)

-- so order sees none
none_back : (near : Leg → Bool) (view : Message → List Item)
    → ((m : Message) → IsNoPdu m → pdus (view m) ≡ []) → (leg : Leg) → near leg ≡ true
    → (put : List OnLeg) → AllByRecursion (NoneOn near) put
    → pdus (seen view (of_leg leg put)) ≡ []
none_back near view plain leg is [] all = refl
none_back near view plain leg is (one ∷ put) all =
    by_test (λ (ms : List Message). pdus (seen view ms) ≡ []) (same_leg one.0 leg)
    (one.1 ∷ of_leg leg put) (of_leg leg put)
    (λ e.
    pdus-append (view one.1) (seen view (of_leg leg put))
    ∙ ap (λ x. x ++ pdus (seen view (of_leg leg put)))
    (plain one.1 (all.0 (ap near (leg_is one.0 leg e) ∙ is)))
    ∙ none_back near view plain leg is put all.1)
    (λ e. none_back near view plain leg is put all.1)

-- ---- an in proxy

in_plain : (m : Message) → IsNoPdu m → pdus (item_came m) ≡ []
in_plain (Text bytes) is = refl
in_plain (Pdu pdu) is = absurd is
in_plain (Packet named) is = search rules

in_puts : (s : InProxy) (leg : Leg)
    → IfSome (in_proxy.rules.put s leg) (λ (x : InProxy × Message). NoneOn is_client_leg (leg, x.1))
in_puts s leg =
    by_test (λ pick. IfSome pick (λ (x : InProxy × Message). NoneOn is_client_leg (leg, x.1)))
    (is_client_leg leg) (in_opening.put_echo s leg.number) _ (λ e. search rules)
    (λ e. apart e _)
  where
    apart : is_client_leg leg ≡ false → (pick : Option (InProxy × Message))
        → IfSome pick (λ (x : InProxy × Message). NoneOn is_client_leg (leg, x.1))
    apart e None = tt
    apart e (Some x) = λ f. absurd (false≢true (sym e ∙ f))

pub in_back : (config : InProxyConfig) (moves : List Move) (n : ℕ)
    → pdus (seen item_came
    (of_leg (ci n) (all_moved in_proxy.rules (started (first config)) moves).put)) ≡ []
in_back config moves n =
    none_back is_client_leg item_came in_plain (ci n) refl
    (all_moved in_proxy.rules (started (first config)) moves).put
    (moves_none in_proxy.rules is_client_leg in_puts (started (first config)) moves tt)

-- ---- an out proxy

abbrev is_from_server : Leg → Bool
is_from_server leg = is_of OutServer leg

out_plain : (m : Message) → IsNoPdu m → pdus (from_server m) ≡ []
out_plain (Text bytes) is = refl
out_plain (Pdu pdu) is = absurd is
out_plain (Packet named) is = search rules

abbrev OutNone : Leg → Option (OutProxy × Message) → Type 0
OutNone leg pick = IfSome pick (λ (x : OutProxy × Message). NoneOn is_from_server (leg, x.1))

out_puts : (s : OutProxy) (leg : Leg) → OutNone leg (out_proxy.rules.put s leg)
out_puts s leg = by leg.kind leg.number
  where
    elsewhere : (other : Leg) → is_from_server other ≡ false
        → (pick : Option (OutProxy × Message)) → OutNone other pick
    elsewhere other e None = tt
    elsewhere other e (Some x) = λ f. absurd (false≢true (sym e ∙ f))

    opens : (other : Leg) → OutNone other (out_putting.put_first s)
    opens other = search rules

    ack : (other : Leg) → OutNone other (out_putting.put_ack s)
    ack other = search rules

    or : (other : Leg) (a b : Option (OutProxy × Message)) → OutNone other a → OutNone other b
        → OutNone other (out_putting.or_else a b)
    or other None b x y = y
    or other (Some a) b x y = x

    beside : (other : Leg) → is_from_server other ≡ false
        → OutNone other (out_putting.put s other)
    beside other e = elsewhere other e (out_putting.put s other)

    by : (kind : LegKind) (n : ℕ)
        → OutNone (record { kind = kind; number = n })
        (out_putting.put s (record { kind = kind; number = n }))
    by OutServer n =
        let other : Leg = record { kind = OutServer; number = n } in
        by_test (OutNone other) (is_os s other) (out_putting.next_os s) None
        (λ e. or other (out_putting.put_first s) (out_putting.put_ack s) (opens other) (ack other))
        (λ e. tt)
    by ClientOut n = beside (record { kind = ClientOut; number = n }) refl
    by ClientIn n = beside (record { kind = ClientIn; number = n }) refl
    by InServer n = beside (record { kind = InServer; number = n }) refl

pub out_back : (config : OutProxyConfig) (moves : List Move) (n : ℕ)
    → pdus (seen from_server
    (of_leg (os n) (all_moved out_proxy.rules (started (new_proxy config)) moves).put)) ≡ []
out_back config moves n =
    none_back is_from_server from_server out_plain (os n) refl
    (all_moved out_proxy.rules (started (new_proxy config)) moves).put
    (moves_none out_proxy.rules is_from_server out_puts (started (new_proxy config)) moves tt)
