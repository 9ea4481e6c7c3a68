-- what holds of the moves of an end holds of each front of them, and the logs of a front are fronts
use Rattle.law_order.proofs.Vocabulary.{◌≡◌, ◌⊎◌, inl, inr, List, [], ◌∷◌, ◌++◌, Some, None, Ok, Err, refl, sym, ap, ◌∙◌, subst, Option, flat_map-append, IsPrefix}
use Rattle.law_moves.proofs.Vocabulary.{prefix_more, prefix_self, prefix_trans, Cookie, Leg, Acts, Message, Row, Rules, AreAllowedAtEnd, EndMove, EndPassage, OnLeg, all_end_moved, end_moved, of_leg, AreCountedAtEnd, AreUpFirst, HasComeUp, all_read_of, read_of}
use Rattle.law_moves.proofs.Lemmas.{ActsKeep, Fact, PutKeeps, RowKeeps, StepsKeep, end_moves_keep, of_append as leg_append}
use Rattle.law_node_streams.proofs.Streams.EndMoves.{all_end_moved_append}
use Rattle.law_node_streams.proofs.Streams.Rising.{come_up_more as rose_more}
use Rattle.law_peers_moments.specs.Moments.{HaveCookies}

-- ---- fronts

-- of two fronts of one list the one is a front of the other
pub one_front : {X : Type 0} (a b all : List X) → IsPrefix a all → IsPrefix b all
    → IsPrefix a b ⊎ IsPrefix b a
one_front [] b all p q = inl (b, refl)
one_front (x ∷ a) [] all p q = inr (x ∷ a, refl)
one_front (x ∷ a) (y ∷ b) [] p q = absurd (let bad = p.1 in cc)
one_front {X} (x ∷ a) (y ∷ b) (z ∷ all) p q =
    by (one_front a b all
    (p.0, let e = p.1 in cc) (q.0, let e = q.1 in cc))
  where
    same : x ≡ y
    same = let e = p.1 in let f = q.1 in cc

    by : IsPrefix a b ⊎ IsPrefix b a → IsPrefix (x ∷ a) (y ∷ b) ⊎ IsPrefix (y ∷ b) (x ∷ a)
    by (inl r) = inl (r.0, let e = r.1 in let s = same in cc)
    by (inr r) = inr (r.0, let e = r.1 in let s = same in cc)

pub leg_front : (leg : Leg) (front all : List OnLeg) → IsPrefix front all
    → IsPrefix (of_leg leg front) (of_leg leg all)
leg_front leg front all p =
    (of_leg leg p.0, sym (leg_append leg front p.0) ∙ ap (of_leg leg) p.1)

pub read_front : (front all : List Message) → IsPrefix front all
    → IsPrefix (all_read_of front) (all_read_of all)
read_front front all p =
    (all_read_of p.0, sym (flat_map-append read_of front p.0) ∙ ap all_read_of p.1)

-- ---- the logs of an end

module _ {S : Type 0} (rules : Rules S) (acts : Acts S) (came put : List OnLeg) where
  -- these came and were put before
  abbrev Behind : Fact S
  Behind s now_came now_put = IsPrefix came now_came × IsPrefix put now_put

  row : (one : OnLeg) (now_came now_put : List OnLeg)
      → IsPrefix came now_came × IsPrefix put now_put → (row : S × Row)
      → RowKeeps Behind one now_came now_put row
  row one now_came now_put h (s, Ok taken) =
      (prefix_trans came now_came (now_came ++ one ∷ []) h.0 (prefix_more now_came (one ∷ [])), h.1)
  row one now_came now_put h (s, Err refused) = h

  puts : (leg : Leg) (now_came now_put : List OnLeg)
      → IsPrefix came now_came × IsPrefix put now_put → (pick : Option (S × Message))
      → PutKeeps Behind leg now_came now_put pick
  puts leg now_came now_put h None = tt
  puts leg now_came now_put h (Some one) = (
    h.0,
    prefix_trans put now_put (now_put ++ (leg, one.1) ∷ []) h.1
        (prefix_more now_put ((leg, one.1) ∷ [])),
  )

  steps_keep : StepsKeep rules Behind
  steps_keep = record {
    up = λ s leg cookie now_came now_put h. h;
    head = λ s leg text now_came now_put h. h;
    pdu = λ s leg count bytes now_came now_put h.
        row _ now_came now_put h (rules.pdu s leg count bytes);
    packet = λ s leg count named now_came now_put h.
        row _ now_came now_put h (rules.packet s leg count named);
    put = λ s leg now_came now_put h. puts leg now_came now_put h (rules.put s leg);
    drawn = λ s leg now_came now_put h. h;
    mark = λ s leg now_came now_put h. h;
    ping = λ s leg now_came now_put h. h;
  }

  acts_keep : ActsKeep acts Behind
  acts_keep = record {
    give = λ s bytes now_came now_put h. h;
    take = λ s now_came now_put h. h;
    close = λ s now_came now_put h. h;
    recycle = λ s now_came now_put h. h;
  }

module _ {S : Type 0} (rules : Rules S) (acts : Acts S) where
  -- what came and was put by moves is a front of what came and was put by more
  pub logs_front : (p : EndPassage S) (front all : List EndMove) → IsPrefix front all
      → IsPrefix (all_end_moved rules acts p front).passage.came
      (all_end_moved rules acts p all).passage.came
      × IsPrefix (all_end_moved rules acts p front).passage.put
      (all_end_moved rules acts p all).passage.put
  logs_front p front all is =
      let q = all_end_moved rules acts p front in
      let came = q.passage.came in
      let put = q.passage.put in
      subst (λ (x : EndPassage S). IsPrefix came x.passage.came × IsPrefix put x.passage.put)
      (sym (all_end_moved_append rules acts p front is.0)
      ∙ ap (all_end_moved rules acts p) is.1)
      (end_moves_keep rules (Behind rules acts came put) (steps_keep rules acts came put) acts
      (acts_keep rules acts came put) q is.0 (prefix_self came, prefix_self put))

  -- ---- what holds of moves

  allowed_first : (p : EndPassage S) (front later : List EndMove)
      → AreAllowedAtEnd rules acts p (front ++ later) → AreAllowedAtEnd rules acts p front
  allowed_first p [] later all = tt
  allowed_first p (move ∷ front) later all =
      (all.0, allowed_first (end_moved rules acts p move) front later all.1)

  pub allowed_front : (p : EndPassage S) (front all : List EndMove) → IsPrefix front all
      → AreAllowedAtEnd rules acts p all → AreAllowedAtEnd rules acts p front
  allowed_front p front all is allowed =
      allowed_first p front is.0 (subst (AreAllowedAtEnd rules acts p) (sym is.1) allowed)

  counted_first : (p : EndPassage S) (front later : List EndMove)
      → AreCountedAtEnd rules acts p (front ++ later) → AreCountedAtEnd rules acts p front
  counted_first p [] later all = tt
  counted_first p (move ∷ front) later all =
      (all.0, counted_first (end_moved rules acts p move) front later all.1)

  pub counted_front : (p : EndPassage S) (front all : List EndMove) → IsPrefix front all
      → AreCountedAtEnd rules acts p all → AreCountedAtEnd rules acts p front
  counted_front p front all is counted =
      counted_first p front is.0 (subst (AreCountedAtEnd rules acts p) (sym is.1) counted)

up_first : (before front later : List EndMove) → AreUpFirst before (front ++ later)
    → AreUpFirst before front
up_first before [] later all = tt
up_first before (move ∷ front) later all =
    (all.0, up_first (before ++ move ∷ []) front later all.1)

pub up_front : (front all : List EndMove) → IsPrefix front all → AreUpFirst [] all
    → AreUpFirst [] front
up_front front all is up = up_first [] front is.0 (subst (AreUpFirst []) (sym is.1) up)

-- ---- legs that came up

pub rose_front : (front all : List EndMove) → IsPrefix front all → (leg : Leg) (cookie : Cookie)
    → HasComeUp front leg cookie → HasComeUp all leg cookie
rose_front front all is leg cookie rose =
    subst (λ x. HasComeUp x leg cookie) is.1 (rose_more front is.0 leg cookie rose)

pub cookies_front : (front all : List EndMove) → IsPrefix front all → HaveCookies all
    → HaveCookies front
cookies_front front all is have = record {
  one = λ leg a b rose other.
      have.one leg a b (rose_front front all is leg a rose) (rose_front front all is leg b other);
  own = λ kind l n cookie rose other.
      have.own kind l n cookie
      (rose_front front all is (record { kind = kind; number = l }) cookie rose)
      (rose_front front all is (record { kind = kind; number = n }) cookie other);
}
