-- what waits at an out proxy, with more that came, with a packet more to forward, and behind a put
use Rattle.law_order.proofs.Vocabulary.{◌≡◌, ℕ, ◌+◌, ◌≤◌, Bool, List, [], ◌∷◌, ◌++◌, refl, sym, subst, arith, AllByRecursion}
use Rattle.law_moves.proofs.Vocabulary.{Named, AckTo, Due, Message, Packet, one_if, Waiting, forwarded, to_forward, count_of, is_conn_c1, is_conn_c2, is_out_r1_a1, is_out_r1_a2, is_out_r1_a5, is_out_r1_a6}
use Rattle.law_moves.proofs.Lemmas.{all_append, count_append, count_rises, one_counts, IsNoAck, forwarded_waits, waits}
use Rattle.law_role_client.proofs.Vocabulary.{is_in_a4}
use Rattle.law_peers_room.proofs.OutRoom.Behind.{last_behind}
use Rattle.law_peers_room.proofs.OutRoom.Merging.{Follow, StandsBehind, differ_fewer, differ_pushed, follow_merged, follow_more, follow_pushed, forwarded_so, merged_cookies, merged_each}
use Rattle.law_peers_room.specs.OutRoom.Waits.{AcksFor, AreDifferent, IsForwarded, IsToForward, cookie_in, cookies_in, is_in_a3}

-- of a kind those that were put and those that wait are no more than came for them
abbrev pub AreWithin : (Named → Bool) → (Named → Bool) → List Due → List Message → List Message
    → Type 0
AreWithin before after dues came put =
    count_of after put + waits after dues ≤ count_of before came

pub record InOrder (dues : List Due) (came put : List Message) : Type 0 where
  pub each : AllByRecursion IsToForward dues
  pub connection : AreWithin is_conn_c1 is_conn_c2 dues came put
  pub ins : AreWithin is_in_a3 is_in_a4 dues came put
  pub wishes : AreWithin is_out_r1_a1 is_out_r1_a2 dues came put
  pub answers : AreWithin is_out_r1_a5 is_out_r1_a6 dues came put
  pub different : AreDifferent (cookies_in dues)
  pub follow : Follow (count_of is_in_a4 put) dues came

pub nothing_waits : InOrder [] [] []
nothing_waits = record {
  each = tt;
  connection = omega arith;
  ins = omega arith;
  wishes = omega arith;
  answers = omega arith;
  different = tt;
  follow = tt;
}

-- ---- more came

module _ (dues : List Due) (came put more : List Message) where
  more_within : (before after : Named → Bool) → AreWithin before after dues came put
      → AreWithin before after dues (came ++ more) put
  more_within before after within =
      let rise = count_rises before came more in omega (arith, within, rise)

  pub more_came : InOrder dues came put → InOrder dues (came ++ more) put
  more_came h = record {
    each = h.each;
    connection = more_within is_conn_c1 is_conn_c2 h.connection;
    ins = more_within is_in_a3 is_in_a4 h.ins;
    wishes = more_within is_out_r1_a1 is_out_r1_a2 h.wishes;
    answers = more_within is_out_r1_a5 is_out_r1_a6 h.answers;
    different = h.different;
    follow = follow_more (count_of is_in_a4 put) dues came more h.follow;
  }

-- ---- a packet to forward came

-- what is forwarded acknowledges the same
abbrev pub SameAck : Named → Named → Type 0
SameAck m (AckTo to received available of) = AcksFor of m
SameAck m other = Unit {0}

-- the one is forwarded as the other
pub record IsForwardedAs (m other : Named) : Type 0 where
  pub is : IsForwarded other
  pub connection : one_if (is_conn_c2 other) ≤ one_if (is_conn_c1 m)
  pub ins : one_if (is_in_a4 other) ≤ one_if (is_in_a3 m)
  pub wishes : one_if (is_out_r1_a2 other) ≤ one_if (is_out_r1_a1 m)
  pub answers : one_if (is_out_r1_a6 other) ≤ one_if (is_out_r1_a5 m)
  pub ack : SameAck m other

module _ (w : Waiting) (came put : List Message) (m other : Named) where
  abbrev came_now : List Message
  came_now = came ++ Packet m ∷ []

  one_within : (before after : Named → Bool) → IsNoAck after
      → one_if (after other) ≤ one_if (before m) → AreWithin before after w.due came put
      → AreWithin before after (forwarded w other).0.due came_now put
  one_within before after none worth within =
      let wait = forwarded_waits after none w other in
      let all = count_append before came (Packet m ∷ []) in
      let one = one_counts before m in
      omega (arith, worth, within, wait, all, one)

  stands : (k : ℕ) → SameAck m other → k ≤ count_of is_in_a3 came
      → StandsBehind other k came_now
  stands k ack most = by other ack
    where
      by : (q : Named) → SameAck m q → StandsBehind q k came_now
      by (AckTo to received available of) ack =
          last_behind is_in_a3 (AcksFor of) k came m ack most
      by q ack = tt

  pub one_more_waits : IsForwardedAs m other → InOrder w.due came put
      → InOrder (forwarded w other).0.due came_now put
  one_more_waits as_other h =
      let k = count_of is_in_a4 put in record {
        each = forwarded_so (λ (v : Waiting). AllByRecursion IsToForward v.due) w other
            (merged_each w.due other h.each)
            (λ e. all_append IsToForward w.due (to_forward other ∷ []) h.each (as_other.is, tt))
            h.each;
        connection = one_within is_conn_c1 is_conn_c2 (λ to received available of. refl)
            as_other.connection h.connection;
        ins = one_within is_in_a3 is_in_a4 (λ to received available of. refl) as_other.ins h.ins;
        wishes = one_within is_out_r1_a1 is_out_r1_a2 (λ to received available of. refl)
            as_other.wishes h.wishes;
        answers = one_within is_out_r1_a5 is_out_r1_a6 (λ to received available of. refl)
            as_other.answers h.answers;
        different = forwarded_so (λ (v : Waiting). AreDifferent (cookies_in v.due)) w other
            (subst AreDifferent (sym (merged_cookies w.due other)) h.different)
            (λ e. differ_pushed w.due other as_other.is h.each e h.different) h.different;
        follow = forwarded_so (λ (v : Waiting). Follow k v.due came_now) w other
            (follow_merged k w.due other came_now
            (follow_more k w.due came (Packet m ∷ []) h.follow))
            (λ e. follow_pushed k w.due other came_now
            (follow_more k w.due came (Packet m ∷ []) h.follow)
            (stands (k + waits is_in_a4 w.due) as_other.ack h.ins))
            (follow_more k w.due came (Packet m ∷ []) h.follow);
      }

-- ---- puts

-- a message that is not forwarded
abbrev pub CountsNone : Message → Type 0
CountsNone m =
    (count_of is_conn_c2 (m ∷ []) ≡ 0) × (count_of is_in_a4 (m ∷ []) ≡ 0)
    × (count_of is_out_r1_a2 (m ∷ []) ≡ 0) × (count_of is_out_r1_a6 (m ∷ []) ≡ 0)

module _ (came put : List Message) where
  other_within : (before after : Named → Bool) (dues : List Due) (m : Message)
      → count_of after (m ∷ []) ≡ 0 → AreWithin before after dues came put
      → AreWithin before after dues came (put ++ m ∷ [])
  other_within before after dues m none within =
      let all = count_append after put (m ∷ []) in omega (arith, none, within, all)

  pub other_put : (dues : List Due) (m : Message) → CountsNone m → InOrder dues came put
      → InOrder dues came (put ++ m ∷ [])
  other_put dues m none h =
      let all = count_append is_in_a4 put (m ∷ []) in
      let zeros = none.1 in
      let same : count_of is_in_a4 put ≡ count_of is_in_a4 (put ++ m ∷ [])
      = omega (arith, all, zeros) in record {
        each = h.each;
        connection = other_within is_conn_c1 is_conn_c2 dues m none.0 h.connection;
        ins = other_within is_in_a3 is_in_a4 dues m none.1 h.ins;
        wishes = other_within is_out_r1_a1 is_out_r1_a2 dues m none.2 h.wishes;
        answers = other_within is_out_r1_a5 is_out_r1_a6 dues m none.3 h.answers;
        different = h.different;
        follow = subst (λ (k : ℕ). Follow k dues came) same h.follow;
      }

  -- the first that waits
  first_within : (before after : Named → Bool) (due : Due) (dues : List Due)
      → AreWithin before after (due ∷ dues) came put
      → AreWithin before after dues came (put ++ Packet due.packet ∷ [])
  first_within before after due dues within =
      let all = count_append after put (Packet due.packet ∷ []) in
      let one = one_counts after due.packet in omega (arith, within, all, one)

  pub first_put : (due : Due) (dues : List Due) → InOrder (due ∷ dues) came put
      → InOrder dues came (put ++ Packet due.packet ∷ [])
  first_put due dues h =
      let all = count_append is_in_a4 put (Packet due.packet ∷ []) in
      let one = one_counts is_in_a4 due.packet in
      let next : count_of is_in_a4 put + one_if (is_in_a4 due.packet)
      ≡ count_of is_in_a4 (put ++ Packet due.packet ∷ []) = omega (arith, all, one) in record {
        each = h.each.1;
        connection = first_within is_conn_c1 is_conn_c2 due dues h.connection;
        ins = first_within is_in_a3 is_in_a4 due dues h.ins;
        wishes = first_within is_out_r1_a1 is_out_r1_a2 due dues h.wishes;
        answers = first_within is_out_r1_a5 is_out_r1_a6 due dues h.answers;
        different = differ_fewer (cookie_in due.packet) (cookies_in dues) h.different;
        follow = subst (λ (k : ℕ). Follow k dues came) next h.follow.1;
      }
