-- what a server forwards are acknowledgements, of each channel one, and it refuses one only where
-- there is no room
use Rattle.law_order.proofs.Vocabulary.{◌≡◌, inl, inr, ℕ, ◌+◌, ◌≤◌, ◌==◌, ◌&&◌, ◌||◌, Bool, true, false, nat_lt, not, if◌then◌else◌, List, [], ◌∷◌, Some, None, Err, refl, sym, ap, ◌∙◌, subst, rules, arith, false≢true, find, list_any, Option}
use Rattle.rh_sig.specs.declared.named.Named.TheVariants as named
use Rattle.rh_shell.specs.declared.answers.Refused.TheVariants as refused
use Rattle.rh_shell.specs.Waiting as waits
use Rattle.rh_server.specs.OutLines as lines
use Rattle.law_moves.proofs.Vocabulary.{by_test, same_number, Cookie, Named, Leg, LegKind, ClientOut, OutServer, ClientIn, InServer, Count, Due, Forwarded, Row, Waiting, merged, pushed, takes, to_forward, with_due, EndMove}
use Rattle.law_role_inproxy.proofs.LegibleKeeps.{at_most as at_least}
use Rattle.law_role_server.proofs.Vocabulary.{has, Server, is_some, Done, refuse, unexpected, is_first, channel_leg, elsewhere, forward_by, forwards, forwards_to, forwards_writing}
use Rattle.law_role_server.proofs.Vocabulary.{is_full, on_ack_to, out_server}
use Rattle.law_role_server.proofs.Vocabulary.{on_is, on_os, packet_by}
use Rattle.law_role_server.proofs.Vocabulary.{is_ack_to, waits_for}
use Rattle.law_role_server_in.proofs.Tests.{at_least as no_less}
use Rattle.law_role_server_in.specs.Handovers.{passed}
use Rattle.law_peers_room.proofs.ServerRoom.Apart.{forwarded_acks, none_waiting, once_waiting, taken_any}
use Rattle.law_peers_room.proofs.ServerRoom.KeptLegs.{Owns, owns}
use Rattle.law_peers_room.proofs.ServerRoom.Views.{view}
use Rattle.law_peers_room.specs.ServerRoom.Forwarding.{ForwardsAcks, IsFull, IsFullFor, is_ack_at}

-- a row refused for want of room
abbrev is_full_row : Row → Bool
is_full_row (Err (refused.Full at)) = true
is_full_row row = false

none_full : (row : Row) → is_full_row row ≡ false → (at : Leg) → row ≡ Err (refused.Full at) → ⊥
none_full row none at e = false≢true (sym none ∙ ap is_full_row e)

other_is : (s : Server) (n : ℕ) (count : Count) (m : Named) → lines.is_ack m ≡ false
    → is_full_row (on_is s n count m).1 ≡ false
other_is s n count (named.AckTo to received window cookie) e = absurd cc
other_is s n count m e = search rules

no_os : (s : Server) (n : ℕ) (count : Count) (m : Named)
    → is_full_row (on_os s n count m).1 ≡ false
no_os s n count m = search rules

has_none : (test : Due → Bool) (dues : List Due) → is_some (find test dues) ≡ false
    → list_any test dues ≡ false
has_none test [] e = refl
has_none test (due ∷ dues) e = by (test due) e (has_none test dues)
  where
    by : (b : Bool) → is_some (if b then Some due else find test dues) ≡ false
        → (is_some (find test dues) ≡ false → list_any test dues ≡ false)
        → b || list_any test dues ≡ false
    by true e rest = absurd cc
    by false e rest = rest e

both_so : (a b : Bool) → a && not b ≡ true → (a ≡ true) × (b ≡ false)
both_so false b e = absurd cc
both_so true true e = absurd cc
both_so true false e = (refl, refl)

module _ (s : Server) (h : Owns (view s)) (to received window : ℕ) (channel : Cookie) where
  abbrev packet_is : Named
  packet_is = named.AckTo to received window channel

  none_there : list_any (takes packet_is) s.waiting.due ≡ false
      → waits_for (is_ack_at to channel) s ≡ 0
  none_there none =
      none_waiting (record { destination = to; channel = channel }) s.waiting.due
      (sym (taken_any packet_is s.waiting.due) ∙ none)

  all_acks : waits.count Forwarded s.waiting.due
      ≤ waits_for (is_ack_to 0) s + waits_for (is_ack_to 3) s
  all_acks = forwarded_acks s.waiting.due (h.right).each

  abbrev Fills : Done → Type 0
  Fills x = (at : Leg) → x.1 ≡ Err (refused.Full at) → IsFull s to channel

  forward_fills : (n : ℕ) → Fills (forwards s n packet_is)
  forward_fills n =
      by_test Answers (list_any (takes packet_is) s.waiting.due)
      (with_due s.waiting (merged s.waiting.due packet_is), true)
      (if nat_lt (waits.count Forwarded s.waiting.due) s.waiting.room
      then (pushed s.waiting (to_forward packet_is), true) else (s.waiting, false))
      (λ e at f. absurd cc)
      (λ e. by_test Answers (nat_lt (waits.count Forwarded s.waiting.due) s.waiting.room)
      (pushed s.waiting (to_forward packet_is), true) (s.waiting, false)
      (λ f at g. absurd cc)
      (λ f at g. let most = no_less (waits.count Forwarded s.waiting.due) s.waiting.room f in
      let room = h.room in
      let acks = all_acks in (none_there e, inr (omega (arith, most, room, acks)))))
    where
      Answers : Waiting × Bool → Type 0
      Answers x = Fills (forward_by s n x)

  writing_fills : Fills (forwards_writing s packet_is)
  writing_fills =
      by_test Fills (is_full s && not (has (takes packet_is) s.waiting))
      (refuse s (refused.Full (out_server s.writing))) (forwards s s.writing packet_is)
      (λ e at f. let both = both_so (is_full s) (has (takes packet_is) s.waiting) e in
      let least = at_least (16 + elsewhere s) (waits.count Forwarded s.waiting.due) both.0 in
      let acks = all_acks in (
        none_there (has_none (takes packet_is) s.waiting.due both.1),
        inl (omega (arith, least, acks)),
      ))
      (λ e. forward_fills s.writing)

module _ (s : Server) (h : Owns (view s)) where
  ack_fills : (count : Count) (to received window : ℕ) (channel : Cookie) (at : Leg)
      → (on_ack_to s count to received window channel).1 ≡ Err (refused.Full at)
      → IsFull s to channel
  ack_fills count to received window channel =
      by_test Fill (is_first count) (unexpected s) _ (λ e at f. absurd cc)
      (λ e. by_test Fill (to == 0) (forwards_writing s (named.AckTo 0 received window channel)) _
      (λ f. subst (λ (n : ℕ). Fills s h n received window channel
      (forwards_writing s (named.AckTo 0 received window channel)))
      (sym (same_number to 0 f)) (writing_fills s h 0 received window channel))
      (λ f. by_test Fill (to == 3)
      (forwards_to s (named.AckTo 3 received window channel) (channel_leg channel s.outs))
      (unexpected s)
      (λ g. subst (λ (n : ℕ). Fills s h n received window channel
      (forwards_to s (named.AckTo 3 received window channel) (channel_leg channel s.outs)))
      (sym (same_number to 3 g)) (by (channel_leg channel s.outs)))
      (λ g at i. absurd cc)))
    where
      Fill : Done → Type 0
      Fill x = (at : Leg) → x.1 ≡ Err (refused.Full at) → IsFull s to channel

      by : (o : Option ℕ)
          → (at : Leg)
          → (forwards_to s (named.AckTo 3 received window channel) o).1 ≡ Err (refused.Full at)
          → IsFull s 3 channel
      by None = λ at e. absurd cc
      by (Some n) =
          by_test (Fills s h 3 received window channel) (n == s.writing)
          (forwards_writing s (named.AckTo 3 received window channel))
          (forwards s n (named.AckTo 3 received window channel))
          (λ e. writing_fills s h 3 received window channel)
          (λ e. forward_fills s h 3 received window channel n)

  is_fills : (n : ℕ) (count : Count) (m : Named) (at : Leg)
      → (on_is s n count m).1 ≡ Err (refused.Full at) → IsFullFor s m
  is_fills n count (named.AckTo to received window channel) at e =
      ack_fills count to received window channel at e
  is_fills n count m at e =
      absurd (none_full (on_is s n count m).1 (other_is s n count m refl) at e)

  packet_fills : (n : ℕ) (count : Count) (m : Named) (at : Leg) (k : LegKind)
      → (packet_by s n count m k).1 ≡ Err (refused.Full at) → IsFullFor s m
  packet_fills n count m at InServer e = is_fills n count m at e
  packet_fills n count m at OutServer e =
      absurd (none_full (on_os s n count m).1 (no_os s n count m) at e)
  packet_fills n count m at ClientIn e = absurd cc
  packet_fills n count m at ClientOut e = absurd cc

pub forwards_acks : (window : ℕ) (moves : List EndMove)
    → ForwardsAcks (passed window moves).role
forwards_acks window moves =
    let h = owns window moves in record {
      acks = forwarded_acks (passed window moves).role.waiting.due (h.right).each;
      once = λ to channel.
          once_waiting (record { destination = to; channel = channel })
          (passed window moves).role.waiting.due (h.right).apart;
      full = λ leg count packet at e.
          packet_fills (passed window moves).role h leg.number count packet at leg.kind e;
    }
