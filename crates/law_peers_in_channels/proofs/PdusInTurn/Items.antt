-- what order sees of an in proxy, in the messages of its legs
use Rattle.law_order.proofs.Vocabulary.{◌≡◌, ℕ, zero, suc, ◌<◌, ◌≤◌, ◌==◌, Bool, true, false, true≢false, if◌then◌else◌, List, [], ◌∷◌, ◌++◌, length, refl, sym, ap, ◌∙◌, subst, arith, nat_tests, IsPrefix, Item, has_handover, pdus, Log, below}
use Rattle.rh_sig.specs.declared.named.Named.TheVariants as named
use Rattle.law_moves.proofs.Vocabulary.{below_prefix, pdus-append, prefix_pdus, prefix_trans, LegKind, ClientOut, OutServer, ClientIn, InServer, Message, Text, Pdu, Packet, is_of, OnLeg, Passage, of_leg, count_of, of_kind, is_in_r1_a5}
use Rattle.law_role_inproxy.proofs.Vocabulary.{InProxy, KeepsOrder, came_log, is_on, item_came, item_put, put_items, ci}
use Rattle.law_role_inproxy.specs.Putting.Puts.{is_leg}
use Rattle.law_peers_in_channels.proofs.PdusInTurn.Legs.{same_bool}
use Rattle.law_peers_in_channels.specs.PdusInTurn.Passing.{HoldsBack, pdus_of, pdus_up_to}

-- ---- what was put on is legs

one_put : (m : Message) (items : List Item) (ms : List Message) → pdus items ≡ pdus_of ms
    → pdus (item_put m ++ items) ≡ pdus_of (m ∷ ms)
one_put (Text bytes) items ms same = same
one_put (Pdu pdu) items ms same = ap (λ (ps : List (List ℕ)). pdu ∷ ps) same
one_put (Packet named.EndA2) items ms same = same
one_put (Packet (named.InR1A6 successor)) items ms same = same
one_put (Packet packet) items ms same = same

pdus_put : (log : List OnLeg) → pdus (put_items log) ≡ pdus_of (of_kind InServer log)
pdus_put [] = refl
pdus_put (one ∷ log) = by (is_of InServer one.0) (pdus_put log)
  where
    by : (b : Bool) → pdus (put_items log) ≡ pdus_of (of_kind InServer log)
        → pdus ((if b then item_put one.1 else []) ++ put_items log)
        ≡ pdus_of (if b then one.1 ∷ of_kind InServer log else of_kind InServer log)
    by true rest = one_put one.1 (put_items log) (of_kind InServer log) rest
    by false rest = rest

-- on one of them are no more than on all
one_more : (m : Message) (a b : List Message) → length (pdus_of a) ≤ length (pdus_of b)
    → length (pdus_of (m ∷ a)) ≤ length (pdus_of (m ∷ b))
one_more (Text bytes) a b less = less
one_more (Pdu pdu) a b less = omega (arith, less)
one_more (Packet packet) a b less = less

one_beside : (m : Message) (a b : List Message) → length (pdus_of a) ≤ length (pdus_of b)
    → length (pdus_of a) ≤ length (pdus_of (m ∷ b))
one_beside (Text bytes) a b less = less
one_beside (Pdu pdu) a b less = omega (arith, less)
one_beside (Packet packet) a b less = less

few_on_leg : (n : ℕ) (log : List OnLeg)
    → length (pdus_of (of_leg (is_leg n) log)) ≤ length (pdus_of (of_kind InServer log))
few_on_leg n [] = omega arith
few_on_leg n (one ∷ log) = by one.0.kind one.0.number one.1 (few_on_leg n log)
  where
    at : LegKind → ℕ → Message → List OnLeg
    at kind k m = (record { kind = kind; number = k }, m) ∷ log

    here : (b : Bool) (m : Message)
        → length (pdus_of (of_leg (is_leg n) log)) ≤ length (pdus_of (of_kind InServer log))
        → length (pdus_of (if b then m ∷ of_leg (is_leg n) log else of_leg (is_leg n) log))
        ≤ length (pdus_of (m ∷ of_kind InServer log))
    here true m rest = one_more m (of_leg (is_leg n) log) (of_kind InServer log) rest
    here false m rest = one_beside m (of_leg (is_leg n) log) (of_kind InServer log) rest

    by : (kind : LegKind) (k : ℕ) (m : Message)
        → length (pdus_of (of_leg (is_leg n) log)) ≤ length (pdus_of (of_kind InServer log))
        → length (pdus_of (of_leg (is_leg n) (at kind k m)))
        ≤ length (pdus_of (of_kind InServer (at kind k m)))
    by InServer k m rest = here (k == n) m rest
    by ClientOut k m rest = rest
    by OutServer k m rest = rest
    by ClientIn k m rest = rest

-- ---- what came on ci legs

one_came : (m : Message) (items : List Item) (ms : List Message) → pdus items ≡ pdus_of ms
    → pdus (item_came m ++ items) ≡ pdus_of (m ∷ ms)
one_came (Text bytes) items ms same = same
one_came (Pdu pdu) items ms same = ap (λ (ps : List (List ℕ)). pdu ∷ ps) same
one_came (Packet named.EndA1) items ms same = same
one_came (Packet (named.InR1A5 successor)) items ms same = same
one_came (Packet packet) items ms same = same

pdus_came : (n : ℕ) (log : List OnLeg) → pdus (came_log log n) ≡ pdus_of (of_leg (ci n) log)
pdus_came n [] = refl
pdus_came n ((leg, m) ∷ log) =
    subst (λ (b : Bool). pdus (came_log ((leg, m) ∷ log) n)
    ≡ pdus_of (if b then m ∷ of_leg (ci n) log else of_leg (ci n) log))
    (sym (same_bool leg ClientIn n)) (by (is_on n (leg, m)) (pdus_came n log))
  where
    by : (b : Bool) → pdus (came_log log n) ≡ pdus_of (of_leg (ci n) log)
        → pdus ((if b then item_came m else []) ++ came_log log n)
        ≡ pdus_of (if b then m ∷ of_leg (ci n) log else of_leg (ci n) log)
    by true rest = one_came m (came_log log n) (of_leg (ci n) log) rest
    by false rest = rest

-- where the handover mark is among the items, IN_R1/A5 came
one_mark : (m : Message) (items : List Item) (ms : List Message)
    → (has_handover items ≡ true → 1 ≤ count_of is_in_r1_a5 ms)
    → has_handover (item_came m ++ items) ≡ true → 1 ≤ count_of is_in_r1_a5 (m ∷ ms)
one_mark (Text bytes) items ms rest has = rest has
one_mark (Pdu pdu) items ms rest has = rest has
one_mark (Packet named.EndA1) items ms rest has = rest has
one_mark (Packet (named.InR1A5 successor)) items ms rest has = omega arith
one_mark (Packet packet) items ms rest has = rest has

mark_came : (n : ℕ) (log : List OnLeg) → has_handover (came_log log n) ≡ true
    → 1 ≤ count_of is_in_r1_a5 (of_leg (ci n) log)
mark_came n [] = λ has. absurd (true≢false (sym has))
mark_came n ((leg, m) ∷ log) =
    subst (λ (b : Bool). has_handover (came_log ((leg, m) ∷ log) n) ≡ true
    → 1 ≤ count_of is_in_r1_a5 (if b then m ∷ of_leg (ci n) log else of_leg (ci n) log))
    (sym (same_bool leg ClientIn n)) (by (is_on n (leg, m)) (mark_came n log))
  where
    by : (b : Bool)
        → (has_handover (came_log log n) ≡ true → 1 ≤ count_of is_in_r1_a5 (of_leg (ci n) log))
        → has_handover ((if b then item_came m else []) ++ came_log log n) ≡ true
        → 1 ≤ count_of is_in_r1_a5 (if b then m ∷ of_leg (ci n) log else of_leg (ci n) log)
    by true rest has = one_mark m (came_log log n) (of_leg (ci n) log) rest has
    by false rest has = rest has

-- ---- on the legs up to one

pdus_below : (log : List OnLeg) (k : ℕ)
    → pdus (below (came_log log) k) ≡ below (λ n. pdus_of (of_leg (ci n) log)) k
pdus_below log zero = refl
pdus_below log (suc k) =
    pdus-append (below (came_log log) k) (came_log log k)
    ∙ ap (λ (ps : List (List ℕ)). ps ++ pdus (came_log log k)) (pdus_below log k)
    ∙ ap (λ (ps : List (List ℕ)). below (λ n. pdus_of (of_leg (ci n) log)) k ++ ps)
    (pdus_came k log)

module _ (number : ℕ) (p : Passage InProxy) (law : KeepsOrder number p) where
  abbrev log : Log
  log = came_log p.came

  abbrev current : ℕ
  current = p.role.current.number

  module _ (k : ℕ) (least : number ≤ k)
      (none : count_of is_in_r1_a5 (of_leg (ci k) p.came) ≡ 0) where
    reached : k < current → ⊥
    reached less =
        let some = mark_came k p.came
        (law.shelved.past k less (grind (arith, nat_tests, least))) in
        omega (arith, some, none)

    in_front : IsPrefix (pdus (put_items p.put)) (pdus (below log (suc k)))
    in_front =
        prefix_trans (pdus (put_items p.put)) (pdus (below log (suc current)))
        (pdus (below log (suc k)))
        (p.role.line.current.pdus, law.shelved.holds.all)
        (prefix_pdus (below log (suc current)) (below log (suc k))
        (below_prefix log (suc current) (suc k) most))
      where
        most : suc current ≤ suc k
        most = let not_less = reached in omega (arith, not_less)

    front : IsPrefix (pdus_of (of_kind InServer p.put)) (pdus_up_to k p.came)
    front =
        subst (λ (ps : List (List ℕ)). IsPrefix ps (pdus_up_to k p.came)) (pdus_put p.put)
        (subst (IsPrefix (pdus (put_items p.put))) (pdus_below p.came (suc k)) in_front)

  pub holds_back : HoldsBack number p
  holds_back = record {
    front = front;
    count = λ k least none.
        let few = few_on_leg number p.put in
        let all = front_length (pdus_of (of_kind InServer p.put)) (pdus_up_to k p.came)
        (front k least none) in
        omega (arith, few, all);
  }
    where
      front_length : (a b : List (List ℕ)) → IsPrefix a b → length a ≤ length b
      front_length [] b q = omega arith
      front_length (x ∷ a) b q =
          subst (λ (c : List (List ℕ)). length (x ∷ a) ≤ length c) q.1
          (let rest = front_length a (a ++ q.0) (q.0, refl) in omega (arith, rest))
