-- the moves by which a server put the first and the last acknowledgement to the client of a stretch
use Rattle.law_order.proofs.Vocabulary.{◌≡◌, ℕ, suc, ◌+◌, ◌<◌, ◌≤◌, Bool, if◌then◌else◌, List, [], ◌∷◌, ◌++◌, append_assoc, sym, ap, ◌∙◌, arith, Option}
use Rattle.law_moves.proofs.Vocabulary.{test_same, Cookie, Named, OutServer, Message, Packet, EndMove, EndPassage, Moves, OnLeg, Puts, all_end_moved, end_started, put_by, of_leg, count_of, HasOne}
use Rattle.law_moves.proofs.Lemmas.{count_append}
use Rattle.law_role_server.proofs.Vocabulary.{Server, acts, first, rules, is_ack_to, is_in_r1_a3, is_in_r2_a3, is_out_r1_a9, often, out_put}
use Rattle.law_role_server.proofs.Counted.Logs.{at_most_in}
use Rattle.law_role_outproxy.proofs.Vocabulary.{os_leg}
use Rattle.law_role_server_rows.proofs.InTurn.Splits.{Split, split}
use Rattle.law_role_server_rows.specs.InTurn.Channels.{WritesOnBegun}
use Rattle.law_node_streams.proofs.Streams.EndMoves.{all_end_moved_append}
use Rattle.law_peers_moments.specs.GoingRound.{taken_in}
use Rattle.law_role_server_in.specs.Handovers.{passed}
use Rattle.law_peers_in_channels.proofs.ServerExpects.Fronts.{behind_all}
use Rattle.law_peers_room.specs.OutRoom.Waits.{AcksFor, is_in_a3}
use Rattle.law_peers_room.specs.ServerRoom.Overtaking.{is_ack_for}
use Rattle.law_peers_forwarding.proofs.Between.{often_append, stand_here}
use Rattle.law_peers_forwarding.proofs.Cuts.{Cut, cut}
use Rattle.law_peers_forwarding.proofs.Gates.{AckMayGo, ack_goes}
use Rattle.law_peers_forwarding.proofs.Messages.{First, Last, acked_counts, acks_client, both_answers, counts_fewer, last_behind, no_in_r1_a3, no_in_r2_a3, not_to_proxy, r1_is_written, r2_is_written}

-- from the first to behind the last: one answer at most was put, and each acknowledgement of the
-- stretch
pub record Ends (window : ℕ) (moves : List EndMove) (stretch : List Message) : Type 0 where
  pub front : List EndMove
  pub later : List EndMove
  pub rest : List EndMove
  pub is : moves ≡ front ++ (later ++ rest)
  pub goes : AckMayGo (passed window front).role
  pub taken : taken_in (passed window (front ++ later)) ≤ taken_in (passed window front) + 1
  pub acked : (cookie : Cookie) → HasOne (AcksFor cookie) stretch
      → out_put (is_ack_for cookie) (passed window front)
      < out_put (is_ack_for cookie) (passed window (front ++ later))

module _ (window : ℕ) (moves : List EndMove) (writes : WritesOnBegun (passed window moves))
    (n : ℕ) (before stretch behind : List Message)
    (e : of_leg (os_leg n) (passed window moves).put ≡ before ++ (stretch ++ behind))
    (most : count_of is_in_a3 stretch ≤ 1) (one : First (is_ack_to 0) stretch) where
  abbrev start : EndPassage Server
  start = end_started (first window)

  abbrev put : List OnLeg
  put = (passed window moves).put

  last : Last (is_ack_to 0) (Packet one.it ∷ one.rest)
  last = last_behind (is_ack_to 0) one.it one.rest one.passes

  -- ---- in the log

  abbrev it : OnLeg
  it = (os_leg n, Packet last.it)

  a : Split OutServer n put (before ++ one.front) (Packet one.it) (one.rest ++ behind)
  a =
      split OutServer n put (before ++ one.front) (Packet one.it) (one.rest ++ behind)
      (e ∙ ap (λ (ms : List Message). before ++ (ms ++ behind)) one.is
      ∙ ap (λ (ms : List Message). before ++ ms)
      (append_assoc one.front (Packet one.it ∷ one.rest) behind)
      ∙ sym (append_assoc before one.front (Packet one.it ∷ (one.rest ++ behind))))

  b : Split OutServer n ((os_leg n, Packet one.it) ∷ a.back) last.front (Packet last.it)
      (last.rest ++ behind)
  b =
      split OutServer n ((os_leg n, Packet one.it) ∷ a.back) last.front (Packet last.it)
      (last.rest ++ behind)
      (ap (λ (t : Bool). if t then Packet one.it ∷ of_leg (os_leg n) a.back
      else of_leg (os_leg n) a.back) (test_same n)
      ∙ ap (λ (ms : List Message). Packet one.it ∷ ms) a.behind_is
      ∙ ap (λ (ms : List Message). ms ++ behind) last.is
      ∙ append_assoc last.front (Packet last.it ∷ last.rest) behind)

  whole : put ≡ a.front ++ (b.front ++ it ∷ b.back)
  whole = a.whole ∙ ap (λ (log : List OnLeg). a.front ++ log) b.whole

  -- ---- in the moves

  first_cut : Cut rules acts start moves a.front (os_leg n) (Packet one.it)
  first_cut = cut rules acts start moves a.front (os_leg n) (Packet one.it) a.back a.whole

  abbrev q : EndPassage Server
  q = all_end_moved rules acts start first_cut.front

  abbrev left : List EndMove
  left = Moves (Puts (os_leg n)) ∷ first_cut.later

  last_cut : Cut rules acts q left (q.passage.put ++ b.front) (os_leg n) (Packet last.it)
  last_cut =
      cut rules acts q left b.front (os_leg n) (Packet last.it) b.back
      (ap (λ (x : EndPassage Server). x.passage.put)
      (sym (all_end_moved_append rules acts start first_cut.front left)
      ∙ ap (all_end_moved rules acts start) (sym first_cut.is))
      ∙ whole
      ∙ ap (λ (log : List OnLeg). log ++ (b.front ++ it ∷ b.back)) (sym first_cut.before))

  abbrev later : List EndMove
  later = last_cut.front ++ Moves (Puts (os_leg n)) ∷ []

  put_then : (passed window (first_cut.front ++ later)).put ≡ a.front ++ (b.front ++ it ∷ [])
  put_then =
      ap (λ (x : EndPassage Server). x.passage.put)
      (all_end_moved_append rules acts start first_cut.front later
      ∙ behind_all rules acts q last_cut.front (Moves (Puts (os_leg n))))
      ∙ ap (λ (o : Option (Server × Message)).
      (put_by (all_end_moved rules acts q last_cut.front).passage (os_leg n) o).put) last_cut.picks
      ∙ ap (λ (log : List OnLeg). log ++ it ∷ [])
      (last_cut.before ∙ ap (λ (log : List OnLeg). log ++ b.front) first_cut.before)
      ∙ append_assoc a.front b.front (it ∷ [])

  -- ---- counts

  put_first : (test : Named → Bool)
      → out_put test (passed window first_cut.front) ≡ often test OutServer a.front
  put_first test = ap (often test OutServer) first_cut.before

  put_last : (test : Named → Bool)
      → out_put test (passed window (first_cut.front ++ later))
      ≡ often test OutServer a.front
      + (often test OutServer b.front + count_of test (Packet last.it ∷ []))
  put_last test =
      ap (often test OutServer) put_then
      ∙ often_append test a.front (b.front ++ it ∷ [])
      ∙ ap (λ (k : ℕ). often test OutServer a.front + k) (often_append test b.front (it ∷ []))

  turn : n ≡ suc (often is_out_r1_a9 OutServer a.front)
  turn =
      writes.in_turn n (Packet one.it) a.front a.back a.whole (not_to_proxy one.it one.passes)

  none_between : often is_out_r1_a9 OutServer b.front ≡ 0
  none_between =
      let then_turn = writes.in_turn n (Packet last.it) (a.front ++ b.front) b.back
      (whole ∙ sym (append_assoc a.front b.front (it ∷ b.back)))
      (not_to_proxy last.it last.passes) in
      let parts = often_append is_out_r1_a9 a.front b.front in
      let now = turn in omega (arith, then_turn, parts, now)

  counts_in : (test : Named → Bool)
      → count_of test stretch ≡ count_of test one.front
      + (count_of test last.front + (count_of test (Packet last.it ∷ [])
      + count_of test last.rest))
  counts_in test =
      ap (count_of test) one.is
      ∙ count_append test one.front (Packet one.it ∷ one.rest)
      ∙ ap (λ (k : ℕ). count_of test one.front + k)
      (ap (count_of test) last.is
      ∙ count_append test last.front (Packet last.it ∷ last.rest)
      ∙ ap (λ (k : ℕ). count_of test last.front + k)
      (count_append test (Packet last.it ∷ []) last.rest))

  few_taken : taken_in (passed window (first_cut.front ++ later))
      ≤ taken_in (passed window first_cut.front) + 1
  few_taken =
      let first_r1 = put_first is_in_r1_a3 in
      let first_r2 = put_first is_in_r2_a3 in
      let last_r1 = put_last is_in_r1_a3 in
      let last_r2 = put_last is_in_r2_a3 in
      let no_r1 = no_in_r1_a3 last.it last.passes in
      let no_r2 = no_in_r2_a3 last.it last.passes in
      let here_r1 = stand_here (passed window moves) writes n is_in_r1_a3 r1_is_written a.front
      b.front (it ∷ b.back) whole turn none_between in
      let here_r2 = stand_here (passed window moves) writes n is_in_r2_a3 r2_is_written a.front
      b.front (it ∷ b.back) whole turn none_between in
      let both = both_answers (of_leg (os_leg n) b.front) in
      let same = ap (count_of is_in_a3) b.before_is in
      let all = counts_in is_in_a3 in
      omega (
        arith,
        first_r1,
        first_r2,
        last_r1,
        last_r2,
        no_r1,
        no_r2,
        here_r1,
        here_r2,
        both,
        same,
        all,
        most,
      )

  all_acked : (cookie : Cookie) → HasOne (AcksFor cookie) stretch
      → out_put (is_ack_for cookie) (passed window first_cut.front)
      < out_put (is_ack_for cookie) (passed window (first_cut.front ++ later))
  all_acked cookie has =
      let then_first = put_first (is_ack_for cookie) in
      let then_last = put_last (is_ack_for cookie) in
      let some = acked_counts cookie stretch has in
      let all = counts_in (is_ack_for cookie) in
      let before_first = counts_fewer (is_ack_for cookie) (is_ack_to 0) (acks_client cookie)
      one.front in
      let none_before = one.none in
      let behind_last = counts_fewer (is_ack_for cookie) (is_ack_to 0) (acks_client cookie)
      last.rest in
      let none_behind = last.none in
      let same = ap (count_of (is_ack_for cookie)) b.before_is in
      let in_all = at_most_in (is_ack_for cookie) OutServer n b.front in
      omega (
        arith,
        then_first,
        then_last,
        some,
        all,
        before_first,
        none_before,
        behind_last,
        none_behind,
        same,
        in_all,
      )

  pub ends : Ends window moves stretch
  ends = record {
    front = first_cut.front;
    later = later;
    rest = last_cut.later;
    is =
        first_cut.is ∙ ap (λ (ms : List EndMove). first_cut.front ++ ms)
        (last_cut.is
        ∙ sym (append_assoc last_cut.front (Moves (Puts (os_leg n)) ∷ []) last_cut.later));
    goes =
        ack_goes q.passage.role n first_cut.next one.it first_cut.picks one.passes;
    taken = few_taken;
    acked = all_acked;
  }
