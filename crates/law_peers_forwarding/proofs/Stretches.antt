-- at most ten IN channels are acknowledged to the client in a stretch with one answer at most:
-- where the first of these acknowledgements goes, few answers were put since the move behind which
-- the one waited that waits longest, and one more until the last goes. All came since that move, so
-- they are of channels that were late there, which are few, or were announced since
use Rattle.law_order.proofs.Vocabulary.{◌≡◌, ◌⊎◌, inl, inr, ℕ, zero, suc, ◌+◌, ◌-◌, ◌*◌, ◌<◌, ◌≤◌, Bool, true, List, [], ◌∷◌, ◌++◌, append_assoc, length, Some, refl, sym, ap, ◌∙◌, subst, arith, length-append, AllByRecursion}
use Rattle.law_moves.proofs.Vocabulary.{may_put, Cookie, Named, InServer, Message, EndMove, EndPassage, OnLeg, Passage, all_end_moved, end_started, of_leg, BeginsIn, count_of, of_kind, HasOne, is_out_r1_a1}
use Rattle.law_moves.proofs.Lemmas.{count_append, of_append as leg_append}
use Rattle.law_role_client.proofs.Vocabulary.{ci, NamesIns}
use Rattle.law_role_server.proofs.Vocabulary.{OutLeg, Server, out_leg, acts, first, rules, in_came, is_ack_to, is_in_r1_a6, is_in_r2_a2, often, out_put, waits_for}
use Rattle.law_role_outproxy.proofs.Vocabulary.{os_leg}
use Rattle.law_role_server_rows.proofs.InTurn.Splits.{kind_append}
use Rattle.law_role_server_rows.specs.InTurn.Channels.{WritesOnBegun}
use Rattle.law_node_streams.proofs.Streams.EndMoves.{all_end_moved_append}
use Rattle.law_peers_moments.specs.GoingRound.{taken_in}
use Rattle.law_peers_moments.specs.Moments.{IsJoined, IsMoment, IsPast, Moves, Numbers, client_behind, server_behind}
use Rattle.law_role_server_in.specs.Handovers.{passed}
use Rattle.law_role_server_in.specs.Refusing.{came_at}
use Rattle.law_peers_in_channels.specs.InChannels.{IsAnnouncedOn, channels}
use Rattle.law_peers_room.specs.OutRoom.Room.{AcksFewBetween, AreAcked}
use Rattle.law_peers_room.specs.OutRoom.Waits.{AcksFor, AreDifferent, behind, is_in_a3}
use Rattle.law_peers_room.specs.ServerRoom.Overtaking.{AreLong, is_ack_for}
use Rattle.law_peers_forwarding.proofs.ServerFull.Grows.{came_grows}
use Rattle.law_peers_forwarding.proofs.Cuts.{grows}
use Rattle.law_peers_forwarding.proofs.Ends.{Ends, ends}
use Rattle.law_peers_forwarding.proofs.Messages.{First, acked_counts, acks_client, behind_rises, counts_fewer, first_that}
use Rattle.law_peers_forwarding.proofs.Numbers.{HaveNumbers, among_next, behind_number, no_more, so_many}
use Rattle.law_peers_forwarding.proofs.Lists.{among_front as among_first, among_behind as among_second}
use Rattle.law_peers_forwarding.specs.ServerFull.Few.{IsAmong}
use Rattle.law_peers_forwarding.specs.ServerFull.Keeping.{ForwardsWhatCame}
use Rattle.law_peers_forwarding.specs.ServerFull.Numbered.{AreLate, IsLate}
use Rattle.law_peers_forwarding.specs.ServerFull.Oldest.{HasOldest, Oldest}
use Rattle.law_peers_forwarding.specs.ServerFull.Taken.{due_in}

-- ---- fronts

long_before : (least : ℕ) (a b : List OnLeg) → AreLong least (a ++ b) → AreLong least a
long_before least [] b long = tt
long_before least (one ∷ a) b long = (long.0, long_before least a b long.1)

-- no less came later
came_rises : (test : Named → Bool) (numbers : Numbers) (front later : List EndMove)
    → in_came test (passed numbers.window front)
    ≤ in_came test (passed numbers.window (front ++ later))
came_rises test numbers front later =
    let grown = came_grows numbers front later in
    let all : in_came test (passed numbers.window (front ++ later))
    ≡ in_came test (passed numbers.window front) + often test InServer grown.0 =
    ap (often test InServer) (sym grown.1)
    ∙ ap (count_of test)
    (kind_append InServer (passed numbers.window front).came grown.0)
    ∙ count_append test (of_kind InServer (passed numbers.window front).came)
    (of_kind InServer grown.0) in
    omega (arith, all)

-- ---- what is known of a moment

module _ (numbers : Numbers) (reader : ℕ → ℕ) (moves : Moves)
    (moment : IsMoment numbers reader moves) where
  abbrev then_at : List EndMove → Passage Server
  then_at front = passed numbers.window front

  abbrev now : Passage Server
  now = (server_behind numbers moves).passage

  -- of each leg on which no IN_R1/A6 had come behind the front, the channels from the last but one
  -- that was announced there are behind all, or among these
  pub record Late (front later : List EndMove) : Type 0 where
    pub those : List ℕ
    pub few : length those + taken_in (then_at front) + due_in (then_at front).role
        ≤ channels (then_at front) + 3
    pub all : (leg number : ℕ) → IsAnnouncedOn (then_at (front ++ later)) leg number
        → leg + came_at is_in_r2_a2 (then_at front) leg ≤ suc number
        → came_at is_in_r1_a6 (then_at front) leg ≡ 0
        → (channels (then_at front) < number) ⊎ IsAmong number those

  -- the answers that a server puts while an acknowledgement waits, where it may go at last
  abbrev pub FewAnswers : ℕ → List EndMove → List EndMove → Type 0
  FewAnswers least front later =
      (channel : Cookie) (leg : OutLeg) → AreLong least (then_at (front ++ later)).came
      → 56 * length (then_at front).role.waiting.due + 312 ≤ least
      → ((some more : List EndMove) → front ++ later ≡ some ++ more
      → due_in (then_at some).role ≤ 1)
      → out_leg (then_at (front ++ later)).role.writing (then_at (front ++ later)).role.outs
      ≡ Some leg
      → may_put leg.meter 56 ≡ true
      → 1 ≤ waits_for (is_ack_for channel) (then_at front).role
      → out_put (is_ack_for channel) (then_at (front ++ later))
      ≤ out_put (is_ack_for channel) (then_at front)
      → taken_in (then_at (front ++ later))
      ≤ taken_in (then_at front) + due_in (then_at front).role + 1
      + count_of is_in_a3 (behind is_out_r1_a1 1
      (of_leg (os_leg (then_at front).role.writing) (then_at (front ++ later)).put))

  pub record Known (least : ℕ) : Type 1 where
    pub enough : 56 * 28 + 312 ≤ least
    pub long : AreLong least now.came
    pub few_wait : (front : List EndMove) → length (then_at front).role.waiting.due ≤ 28
    pub one_due : (front later : List EndMove) → moves.server ≡ front ++ later
        → due_in (then_at front).role ≤ 1
    pub one_follows : (n : ℕ)
        → count_of is_in_a3 (behind is_out_r1_a1 1 (of_leg (os_leg n) now.put)) ≤ 1
    pub writes : WritesOnBegun now
    pub forwards : (front later : List EndMove) → ForwardsWhatCame numbers.window front later
    pub oldest : (front : List EndMove) → HasOldest numbers.window front
    pub answers : (front later : List EndMove) → FewAnswers least front later
    pub are_late : (reader : ℕ → ℕ) (moves : Moves) → IsJoined numbers reader moves
        → (front later : List EndMove) → moves.server ≡ front ++ later
        → AreLate numbers reader moves front
    pub names : (reader : ℕ → ℕ) (moves : Moves) → IsJoined numbers reader moves
        → NamesIns numbers.client.connection (client_behind numbers moves).passage
    pub few_late : (front later rest : List EndMove)
        → moves.server ≡ front ++ later ++ rest → Late front later
    pub few_open : (front later : List EndMove) → moves.server ≡ front ++ later
        → channels (then_at front) ≤ taken_in (then_at front) + 2

  module _ (least : ℕ) (known : Known least) where
    -- ---- from the front of the oldest acknowledgement

    -- the channels that were acknowledged since, where few answers were put since
    module _ (front later rest : List EndMove) (is : moves.server ≡ front ++ later ++ rest)
        (taken : taken_in (then_at (front ++ later))
        ≤ taken_in (then_at front) + due_in (then_at front).role + 3) where
      past : (x : IsPast numbers moves) × (x.moves_then.server ≡ front ++ later)
      past = moment.server_past (front ++ later) rest is

      abbrev moves_then : Moves
      moves_then = past.0.moves_then

      abbrev Begins : Cookie → ℕ → Type 0
      Begins cookie n =
          HasOne (BeginsIn cookie)
          (of_leg (ci n) (client_behind numbers moves_then).passage.put)

      own : (n : ℕ) (one other : Cookie) → Begins one n → Begins other n → one ≡ other
      own n one other a b =
          (known.names past.0.reader_then moves_then past.0.then_joined).one n one other a b

      found : Late front later
      found = known.few_late front later rest is

      abbrev before : ℕ
      before = channels (then_at front)

      abbrev so_far : ℕ
      so_far = taken_in (then_at (front ++ later)) + 1

      abbrev all : List ℕ
      all = found.those ++ behind_number before (so_far - before)

      few_in_all : length all ≤ 10
      few_in_all =
          let sum = length-append found.those (behind_number before (so_far - before)) in
          let next = so_many before (so_far - before) in
          let some = found.few in
          let had = known.few_open front (later ++ rest) (is ∙ append_assoc front later rest) in
          omega (arith, sum, next, some, had, taken)

      numbered : (cookie : Cookie)
          → in_came (is_ack_for cookie) (then_at front)
          < in_came (is_ack_for cookie) (then_at (front ++ later))
          → (n : ℕ) × Begins cookie n × IsAmong n all
      numbered cookie more = (
        late.number,
        late.is.begun,
        by (found.all late.leg late.number announced late.near
            late.stays),
      )
        where
          late : IsLate numbers past.0.reader_then moves_then front cookie
          late =
              (known.are_late past.0.reader_then moves_then past.0.then_joined front later
              past.1).came cookie
              (subst (λ (ms : List EndMove). in_came (is_ack_for cookie) (then_at front)
              < in_came (is_ack_for cookie) (then_at ms)) (sym past.1) more)

          announced : IsAnnouncedOn (then_at (front ++ later)) late.leg late.number
          announced =
              subst (λ (ms : List EndMove). IsAnnouncedOn (then_at ms) late.leg late.number)
              past.1 late.announced

          answered : late.number ≤ so_far
          answered =
              subst (λ (ms : List EndMove). late.number ≤ taken_in (then_at ms) + 1) past.1
              late.is.answered

          by : (before < late.number) ⊎ IsAmong late.number found.those
              → IsAmong late.number all
          by (inl above) =
              among_second late.number found.those (behind_number before (so_far - before))
              (among_next before (so_far - before) late.number above
              (let most = answered in omega (arith, most, above)))
          by (inr among) =
              among_first late.number found.those (behind_number before (so_far - before)) among

      few_cookies : (cookies : List Cookie) → AreDifferent cookies
          → AllByRecursion (λ (cookie : Cookie).
          in_came (is_ack_for cookie) (then_at front)
          < in_came (is_ack_for cookie) (then_at (front ++ later))) cookies
          → length cookies ≤ 10
      few_cookies cookies different each =
          let fewer = no_more Begins own cookies all different (have cookies each) in
          let most = few_in_all in omega (arith, fewer, most)
        where
          have : (cs : List Cookie)
              → AllByRecursion (λ (cookie : Cookie).
              in_came (is_ack_for cookie) (then_at front)
              < in_came (is_ack_for cookie) (then_at (front ++ later))) cs
              → HaveNumbers Begins own all cs
          have [] each = tt
          have (c ∷ cs) each = (numbered c each.0, have cs each.1)

    -- ---- from the first acknowledgement to the last

    module _ (stretch : List Message) (ended : Ends numbers.window moves.server stretch) where
      abbrev F : List EndMove
      F = ended.front

      abbrev G : List EndMove
      G = ended.front ++ ended.later

      old : Oldest numbers.window F
      old = known.oldest F ended.goes.waits

      abbrev with_move : List EndMove
      with_move = old.front ++ old.move ∷ []

      same : F ≡ with_move ++ old.later
      same = old.is ∙ sym (append_assoc old.front (old.move ∷ []) old.later)

      abbrev since : List EndMove
      since = old.move ∷ (old.later ++ ended.later)

      same_then : G ≡ old.front ++ since
      same_then =
          ap (λ (ms : List EndMove). ms ++ ended.later) old.is
          ∙ append_assoc old.front (old.move ∷ old.later) ended.later

      whole : moves.server ≡ old.front ++ since ++ ended.rest
      whole =
          ended.is ∙ sym (append_assoc F ended.later ended.rest)
          ∙ ap (λ (ms : List EndMove). ms ++ ended.rest) same_then

      long_then : AreLong least (then_at F).came
      long_then =
          let grown = came_grows numbers F (ended.later ++ ended.rest) in
          long_before least (then_at F).came grown.0
          (subst (AreLong least)
          (sym (grown.1 ∙ ap (λ (ms : List EndMove). (then_at ms).came) (sym ended.is)))
          known.long)

      -- what follows the wish for a successor of a channel is as much later
      follows : (n : ℕ)
          → count_of is_in_a3 (behind is_out_r1_a1 1 (of_leg (os_leg n) (then_at F).put)) ≤ 1
      follows n =
          let grown = grows rules acts
          (all_end_moved rules acts (end_started (first numbers.window)) F)
          (ended.later ++ ended.rest) in
          let put : of_leg (os_leg n) now.put
          ≡ of_leg (os_leg n) (then_at F).put ++ of_leg (os_leg n) grown.more =
          ap (λ (ms : List EndMove). of_leg (os_leg n) (then_at ms).put) ended.is
          ∙ ap (λ (x : EndPassage Server). of_leg (os_leg n) x.passage.put)
          (all_end_moved_append rules acts (end_started (first numbers.window)) F
          (ended.later ++ ended.rest))
          ∙ ap (of_leg (os_leg n)) grown.is
          ∙ leg_append (os_leg n) (then_at F).put grown.more in
          let rise = behind_rises is_out_r1_a1 is_in_a3 1 (of_leg (os_leg n) (then_at F).put)
          (of_leg (os_leg n) grown.more) in
          let most = known.one_follows n in
          let counts = ap (λ (ms : List Message). count_of is_in_a3 (behind is_out_r1_a1 1 ms))
          put in
          omega (arith, rise, most, counts)

      few_then : taken_in (then_at F)
          ≤ taken_in (then_at with_move) + due_in (then_at with_move).role + 1
          + count_of is_in_a3 (behind is_out_r1_a1 1
          (of_leg (os_leg (then_at with_move).role.writing) (then_at F).put))
      few_then =
          subst (λ (ms : List EndMove). AreLong least (then_at ms).came
          → ((some more : List EndMove) → ms ≡ some ++ more → due_in (then_at some).role ≤ 1)
          → out_leg (then_at ms).role.writing (then_at ms).role.outs ≡ Some ended.goes.leg
          → out_put (is_ack_for old.channel) (then_at ms)
          ≤ out_put (is_ack_for old.channel) (then_at with_move)
          → taken_in (then_at ms)
          ≤ taken_in (then_at with_move) + due_in (then_at with_move).role + 1
          + count_of is_in_a3 (behind is_out_r1_a1 1
          (of_leg (os_leg (then_at with_move).role.writing) (then_at ms).put))) (sym same)
          (λ long one writes stays.
          known.answers with_move old.later old.channel ended.goes.leg long
          (let enough = known.enough in
          let few = known.few_wait with_move in omega (arith, enough, few))
          one writes ended.goes.may old.waited stays)
          long_then
          (λ some more e. known.one_due some (more ++ (ended.later ++ ended.rest))
          (ended.is ∙ ap (λ (ms : List EndMove). ms ++ (ended.later ++ ended.rest)) e
          ∙ append_assoc some more (ended.later ++ ended.rest)))
          ended.goes.writes old.stays

      few_since : taken_in (then_at (old.front ++ since))
          ≤ taken_in (then_at old.front) + due_in (then_at old.front).role + 3
      few_since =
          subst (λ (ms : List EndMove). taken_in (then_at ms)
          ≤ taken_in (then_at old.front) + due_in (then_at old.front).role + 3) same_then
          (let until_first = few_then in
          let follow = follows (then_at with_move).role.writing in
          let quiet = old.quiet in
          let until_last = ended.taken in
          omega (arith, until_first, follow, quiet, until_last))

      came_since : (cookie : Cookie) → HasOne (AcksFor cookie) stretch
          → in_came (is_ack_for cookie) (then_at old.front)
          < in_came (is_ack_for cookie) (then_at (old.front ++ since))
      came_since cookie has =
          subst (λ (ms : List EndMove). in_came (is_ack_for cookie) (then_at old.front)
          < in_came (is_ack_for cookie) (then_at ms)) same_then
          (by (waits_for (is_ack_for cookie) (then_at F).role) refl)
        where
          by : (k : ℕ) → waits_for (is_ack_for cookie) (then_at F).role ≡ k
              → in_came (is_ack_for cookie) (then_at old.front)
              < in_came (is_ack_for cookie) (then_at G)
          by zero none =
              let put = ended.acked cookie has in
              let all = known.forwards F ended.later cookie in
              let before : in_came (is_ack_for cookie) (then_at old.front)
              ≤ in_came (is_ack_for cookie) (then_at F) =
              subst (λ (ms : List EndMove). in_came (is_ack_for cookie) (then_at old.front)
              ≤ in_came (is_ack_for cookie) (then_at ms)) (sym old.is)
              (came_rises (is_ack_for cookie) numbers old.front (old.move ∷ old.later)) in
              omega (arith, none, put, all, before)
          by (suc k) some =
              let since_then = old.since cookie (omega (arith, some)) in
              let more = came_rises (is_ack_for cookie) numbers F ended.later in
              omega (arith, since_then, more)

      few_acked : (cookies : List Cookie) → AreDifferent cookies → AreAcked stretch cookies
          → length cookies ≤ 10
      few_acked cookies different acked =
          few_cookies old.front since ended.rest whole few_since cookies different
          (each cookies acked)
        where
          each : (cs : List Cookie) → AreAcked stretch cs
              → AllByRecursion (λ (cookie : Cookie).
              in_came (is_ack_for cookie) (then_at old.front)
              < in_came (is_ack_for cookie) (then_at (old.front ++ since))) cs
          each [] acked = tt
          each (c ∷ cs) acked = (came_since c acked.0, each cs acked.1)

    -- ---- the law

    pub few_between : (n : ℕ) → AcksFewBetween (of_leg (os_leg n) now.put)
    few_between n before stretch after e most cookies different acked =
        by (first_that (is_ack_to 0) stretch)
      where
        none_acked : count_of (is_ack_to 0) stretch ≡ 0 → (cs : List Cookie)
            → AreAcked stretch cs → length cs ≤ 10
        none_acked none [] acked = omega arith
        none_acked none (c ∷ cs) acked =
            let some = acked_counts c stretch acked.0 in
            let fewer = counts_fewer (is_ack_for c) (is_ack_to 0) (acks_client c) stretch in
            absurd (omega (arith, none, some, fewer))

        by : (count_of (is_ack_to 0) stretch ≡ 0) ⊎ First (is_ack_to 0) stretch
            → length cookies ≤ 10
        by (inl none) = none_acked none cookies acked
        by (inr one) =
            few_acked stretch
            (ends numbers.window moves.server known.writes n before stretch after
            (e ∙ append_assoc before stretch after) most one) cookies different acked
