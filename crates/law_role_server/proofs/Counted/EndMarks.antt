-- what ends a channel comes once at most on its is leg
use Rattle.law_order.proofs.Vocabulary.{◌≡◌, ℕ, suc, ◌≤◌, ◌==◌, ◌&&◌, Bool, true, false, nat_eq, if◌then◌else◌, List, [], ◌∷◌, ◌++◌, arith, refl, sym, ap, subst, nat_tests, Item, Piece, Stop, Handover, IsBehindEnd, IsChannel}
use Rattle.rh_sig.specs.declared.named.Named.TheVariants as named
use Rattle.law_moves.proofs.Vocabulary.{LegKind, ClientOut, OutServer, ClientIn, InServer, Message, Text, Pdu, Packet, same_leg, is_of, OnLeg, of_leg, count_of}
use Rattle.law_role_server.proofs.Vocabulary.{in_items, items_if, items_on, is_end_a2, is_in_r1_a6, often_at, leg_at}

-- how many of the items are handover marks, and how many END
abbrev handovers : List Item → ℕ
handovers [] = 0
handovers (Piece pdu ∷ items) = handovers items
handovers (Stop ∷ items) = handovers items
handovers (Handover ∷ items) = suc (handovers items)

abbrev stops : List Item → ℕ
stops [] = 0
stops (Piece pdu ∷ items) = stops items
stops (Stop ∷ items) = suc (stops items)
stops (Handover ∷ items) = stops items

-- ---- on one channel

behind_once : (items : List Item) → IsBehindEnd items
    → (handovers items ≤ 1) × (stops items ≡ 0)
behind_once [] h = (omega arith, refl)
behind_once (Piece pdu ∷ items) h = absurd h
behind_once (Stop ∷ items) h = absurd h
behind_once (Handover ∷ items) h =
    let none = ap handovers h in
    let over = ap stops h in (omega (arith, none), over)

channel_once : (items : List Item) → IsChannel items → (handovers items ≤ 1) × (stops items ≤ 1)
channel_once [] h = (omega arith, omega arith)
channel_once (Piece pdu ∷ items) h = channel_once items h
channel_once (Stop ∷ items) h =
    let rest = behind_once items h in
    let over = rest.1 in (rest.0, omega (arith, over))
channel_once (Handover ∷ items) h =
    let none = ap handovers h in
    let over = ap stops h in (omega (arith, none), omega (arith, over))

-- ---- on a leg

pub same_bool : (kind : LegKind) (k n : ℕ)
    → same_leg (leg_at kind k) (leg_at InServer n) ≡ is_of InServer (leg_at kind k) && nat_eq n k
same_bool ClientOut k n = refl
same_bool OutServer k n = refl
same_bool ClientIn k n = refl
same_bool InServer k n = flipped (k == n) (nat_eq n k) refl refl
  where
    flipped : (a b : Bool) → (k == n) ≡ a → nat_eq n k ≡ b → a ≡ b
    flipped true true e f = refl
    flipped false false e f = refl
    flipped true false e f = absurd (grind (arith, nat_tests, e, f))
    flipped false true e f = absurd (grind (arith, nat_tests, e, f))

pub handovers_came : (n : ℕ) (log : List OnLeg)
    → often_at is_in_r1_a6 InServer n log ≡ handovers (items_on in_items InServer log n)
handovers_came n [] = refl
handovers_came n ((leg, m) ∷ log) =
    subst (λ (b : Bool). (count_of is_in_r1_a6 (if b then m ∷ rest else rest))
    ≡ handovers (items_if (is_of InServer leg && nat_eq n leg.number) (in_items m) ++ items))
    (sym (same_bool leg.kind leg.number n))
    (by (is_of InServer leg && nat_eq n leg.number) m (handovers_came n log))
  where
    rest : List Message
    rest = of_leg (leg_at InServer n) log

    items : List Item
    items = items_on in_items InServer log n

    by : (b : Bool) (x : Message) → count_of is_in_r1_a6 rest ≡ handovers items
        → count_of is_in_r1_a6 (if b then x ∷ rest else rest)
        ≡ handovers (items_if b (in_items x) ++ items)
    by false x same = same
    by true (Text bytes) same = same
    by true (Pdu pdu) same = same
    by true (Packet (named.InR1A6 successor)) same = ap suc same
    by true (Packet named.EndA2) same = same
    by true (Packet packet) same = same

pub stops_came : (n : ℕ) (log : List OnLeg)
    → often_at is_end_a2 InServer n log ≡ stops (items_on in_items InServer log n)
stops_came n [] = refl
stops_came n ((leg, m) ∷ log) =
    subst (λ (b : Bool). (count_of is_end_a2 (if b then m ∷ rest else rest))
    ≡ stops (items_if (is_of InServer leg && nat_eq n leg.number) (in_items m) ++ items))
    (sym (same_bool leg.kind leg.number n))
    (by (is_of InServer leg && nat_eq n leg.number) m (stops_came n log))
  where
    rest : List Message
    rest = of_leg (leg_at InServer n) log

    items : List Item
    items = items_on in_items InServer log n

    by : (b : Bool) (x : Message) → count_of is_end_a2 rest ≡ stops items
        → count_of is_end_a2 (if b then x ∷ rest else rest)
        ≡ stops (items_if b (in_items x) ++ items)
    by false x same = same
    by true (Text bytes) same = same
    by true (Pdu pdu) same = same
    by true (Packet (named.InR1A6 successor)) same = same
    by true (Packet named.EndA2) same = ap suc same
    by true (Packet packet) same = same

-- so each comes once at most
pub end_once : (n : ℕ) (log : List OnLeg) → IsChannel (items_on in_items InServer log n)
    → (often_at is_in_r1_a6 InServer n log ≤ 1) × (often_at is_end_a2 InServer n log ≤ 1)
end_once n log h =
    let once = channel_once (items_on in_items InServer log n) h in
    let a6 = handovers_came n log in
    let over = stops_came n log in
    let first = once.0 in
    let last = once.1 in (omega (arith, first, a6), omega (arith, last, over))
