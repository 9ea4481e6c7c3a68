-- behind END/A2 an in proxy puts neither an RPC PDU nor END/A2
use Rattle.law_order.proofs.Vocabulary.{ℕ, ◌==◌, Bool, true, false, if◌then◌else◌, List, [], ◌∷◌, ◌++◌, sym, subst, AllByRecursion, Item, IsBehindEnd, IsChannel}
use Rattle.rh_sig.specs.declared.named.Named.TheVariants as named
use Rattle.law_moves.proofs.Vocabulary.{behind_channel, LegKind, ClientOut, OutServer, ClientIn, InServer, Message, Text, Pdu, Packet, OnLeg, of_leg}
use Rattle.law_role_inproxy.proofs.Vocabulary.{item_put, put_items, MayFollowEnd, EndsLast}
use Rattle.law_role_inproxy.specs.Putting.Puts.{is_leg}

-- ---- a message, and the items behind it

-- behind END
behind_one : (m : Message) (items : List Item) → IsBehindEnd (item_put m ++ items)
    → MayFollowEnd m × IsBehindEnd items
behind_one (Text bytes) items h = (tt, h)
behind_one (Pdu pdu) items h = absurd h
behind_one (Packet named.EndA2) items h = absurd h
behind_one (Packet (named.InR1A6 successor)) items h = (tt, subst IsBehindEnd (sym h) tt)
behind_one (Packet packet) items h = (tt, h)

channel_rest : (m : Message) (items : List Item) → IsChannel (item_put m ++ items)
    → IsChannel items
channel_rest (Text bytes) items h = h
channel_rest (Pdu pdu) items h = h
channel_rest (Packet named.EndA2) items h = behind_channel items h
channel_rest (Packet (named.InR1A6 successor)) items h = subst IsChannel (sym h) tt
channel_rest (Packet packet) items h = h

ends_one : (m : Message) (items : List Item) (ms : List Message)
    → (IsBehindEnd items → AllByRecursion MayFollowEnd ms) → EndsLast ms
    → IsChannel (item_put m ++ items) → EndsLast (m ∷ ms)
ends_one (Text bytes) items ms behind rest h = rest
ends_one (Pdu pdu) items ms behind rest h = rest
ends_one (Packet named.EndA2) items ms behind rest h = behind h
ends_one (Packet packet) items ms behind rest h = rest

-- ---- the messages of one is leg

module _ (n : ℕ) where
  abbrev on : List OnLeg → List Message
  on log = of_leg (is_leg n) log

  abbrev one_at : LegKind → ℕ → Message → OnLeg
  one_at kind k m = (record { kind = kind; number = k }, m)

  all_behind : (log : List OnLeg) → IsBehindEnd (put_items log)
      → AllByRecursion MayFollowEnd (on log)
  all_behind [] h = tt
  all_behind (one ∷ log) h = by one.0.kind one.0.number one.1 (all_behind log) h
    where
      here : (b : Bool) (m : Message) → MayFollowEnd m → AllByRecursion MayFollowEnd (on log)
          → AllByRecursion MayFollowEnd (if b then m ∷ on log else on log)
      here true m may rest = (may, rest)
      here false m may rest = rest

      by : (kind : LegKind) (k : ℕ) (m : Message)
          → (IsBehindEnd (put_items log) → AllByRecursion MayFollowEnd (on log))
          → IsBehindEnd (put_items (one_at kind k m ∷ log))
          → AllByRecursion MayFollowEnd (on (one_at kind k m ∷ log))
      by ClientOut k m rest g = rest g
      by OutServer k m rest g = rest g
      by ClientIn k m rest g = rest g
      by InServer k m rest g =
          let both = behind_one m (put_items log) g in here (k == n) m both.0 (rest both.1)

  pub ends_last : (log : List OnLeg) → IsChannel (put_items log) → EndsLast (on log)
  ends_last [] h = tt
  ends_last (one ∷ log) h = by one.0.kind one.0.number one.1 (ends_last log) h
    where
      here : (b : Bool) (m : Message) → EndsLast (m ∷ on log) → EndsLast (on log)
          → EndsLast (if b then m ∷ on log else on log)
      here true m now rest = now
      here false m now rest = rest

      by : (kind : LegKind) (k : ℕ) (m : Message)
          → (IsChannel (put_items log) → EndsLast (on log))
          → IsChannel (put_items (one_at kind k m ∷ log))
          → EndsLast (on (one_at kind k m ∷ log))
      by ClientOut k m rest g = rest g
      by OutServer k m rest g = rest g
      by ClientIn k m rest g = rest g
      by InServer k m rest g =
          let others = rest (channel_rest m (put_items log) g) in
          here (k == n) m (ends_one m (put_items log) (on log) (all_behind log) others g) others
