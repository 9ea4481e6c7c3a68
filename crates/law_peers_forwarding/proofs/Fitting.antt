-- a server has room for what comes next: fifteen acknowledgements to the client wait there at most
use Rattle.law_order.proofs.Vocabulary.{◌≡◌, ◌⊎◌, inl, inr, ℕ, ◌+◌, ◌==◌, ◌<◌, ◌≤◌, List, [], ◌∷◌, ◌++◌, append_assoc, length, Err, sym, ◌∙◌, subst, arith, append-nil, length-append}
use Rattle.rh_shell.specs.declared.answers.Refused.TheVariants as refused
use Rattle.rh_server.specs.declared.state.Stage.TheVariants as stage
use Rattle.law_moves.proofs.Vocabulary.{LEAST_LIFETIME, by_test, same_number, Cookie, Named, AckTo, Leg, Count, Packet, EndMove, Passage, of_leg, all_read_of}
use Rattle.law_role_inproxy.proofs.Vocabulary.{is_leg}
use Rattle.law_role_server.proofs.Vocabulary.{channel_leg, forwards_to, forwards_writing, on_ack_to, Done, is_first, unexpected, rules, Server, is_ack_to, waits_for, OpensOnce}
use Rattle.law_peers_moments.specs.Expecting.{IsAhead}
use Rattle.law_peers_moments.specs.Moments.{IsJoined, IsMoment, Moves, Numbers, client_behind, in_behind, server_behind}
use Rattle.law_peers_moments.specs.GoingRound.{GoRound, taken_in}
use Rattle.law_peers_in_channels.specs.InChannels.{channels, passed}
use Rattle.law_peers_room.specs.ServerRoom.Forwarding.{ForwardsAcks, IsFullFor, is_ack_at}
use Rattle.law_peers_room.specs.ServerRoom.Overtaking.{AreLong, is_ack_for}
use Rattle.law_peers_forwarding.proofs.Lists.{UpTo, among_behind, among_front, among_next, as_many, next_ones, up_to}
use Rattle.law_peers_forwarding.proofs.Opened.{once as since_few}
use Rattle.law_peers_forwarding.specs.ServerFull.Few.{FewWait, IsAmong}
use Rattle.law_peers_forwarding.specs.ServerFull.Filled.{FillsFirst, IsFilled}
use Rattle.law_peers_forwarding.specs.ServerFull.Numbered.{IsLate}
use Rattle.law_peers_forwarding.specs.ServerFull.Oldest.{HasOldest, Oldest, due_in}
use Rattle.law_peers_forwarding.specs.ServerFull.Taken.{FewAreTaken}
use Rattle.law_peers_forwarding.specs.Late.{AreThese, FewAreLate}
use Rattle.law_peers_forwarding.specs.Passing.{OneIsDue}
use Rattle.law_peers_forwarding.specs.Fits.{HasRoom}

-- ---- a refused acknowledgement is for the client or for an out proxy

abbrev HasPlace : ℕ → Done → Type 0
HasPlace to x = (at : Leg) → x.1 ≡ Err (refused.Full at) → (to ≡ 0) ⊎ (to ≡ 3)

has_place : (s : Server) (count : Count) (to received window : ℕ) (channel : Cookie)
    → HasPlace to (on_ack_to s count to received window channel)
has_place s count to received window channel =
    by_test (HasPlace to) (is_first count) (unexpected s) _ (λ e at f. absurd cc)
    (λ e. by_test (HasPlace to) (to == 0) (forwards_writing s (AckTo 0 received window channel)) _
    (λ f at g. inl (same_number to 0 f))
    (λ f. by_test (HasPlace to) (to == 3)
    (forwards_to s (AckTo 3 received window channel) (channel_leg channel s.outs)) (unexpected s)
    (λ g at i. inr (same_number to 3 g))
    (λ g at i. absurd cc)))

-- ---- how many channels were announced

-- one more than were answered, and the first
abbrev pub AreAnswered : Passage Server → Type 0
AreAnswered p = channels p ≤ taken_in p + 2

pub are_answered : (numbers : Numbers) (reader : ℕ → ℕ) (moves : Moves)
    → IsMoment numbers reader moves
    → ((reader : ℕ → ℕ) (moves : Moves) → IsJoined numbers reader moves
    → GoRound (client_behind numbers moves).passage (server_behind numbers moves).passage)
    → ((moves : List EndMove) → OpensOnce (passed numbers moves))
    → (front later : List EndMove) → moves.server ≡ front ++ later
    → AreAnswered (passed numbers front)
are_answered numbers reader moves moment round opens front later e =
    let past = moment.server_past front later e in
    let then = past.0 in
    let ins = (round then.reader_then then.moves_then then.then_joined).ins in
    let a = ins.a2_behind_a1 in
    let b = ins.a1_behind_a4 in
    let c = ins.a4_behind_a3 in
    let once = (opens then.moves_then.server).conn_b2 in
    let few = since_few (passed numbers then.moves_then.server).role.stage in
    subst (λ (so : List EndMove). AreAnswered (passed numbers so)) past.1
    (omega (arith, a, b, c, once, few))

-- ---- sums

-- behind the front so many were taken, due and announced, behind the move and now so many
sums_fit : (those taken due announced taken_then due_then taken_now count : ℕ)
    → those + taken + due ≤ announced + 3 → taken_then + due_then ≤ taken + due
    → taken_now ≤ taken_then + due_then + 11 → announced ≤ taken + 2
    → (count ≡ 0) ⊎ (announced + count ≡ taken_now + 1) → those + count ≤ 15
sums_fit those taken due announced taken_then due_then taken_now count few quiet more most
    (inl none) =
    omega (arith, few, quiet, more, most, none)
sums_fit those taken due announced taken_then due_then taken_now count few quiet more most
    (inr is) =
    omega (arith, few, quiet, more, most, is)

-- ---- the law

-- what is known of a moment
pub record Known (numbers : Numbers) (reader : ℕ → ℕ) (moves : Moves) : Type 0 where
  pub forwards : ForwardsAcks (server_behind numbers moves).passage.role
  pub fills : FillsFirst (server_behind numbers moves).passage.role
  pub oldest : HasOldest numbers.window moves.server
  pub taken : FewAreTaken numbers.window moves.server
  pub wait : FewWait numbers reader moves
  pub late : FewAreLate numbers moves
  pub due : OneIsDue numbers.window moves.server
  pub long : AreLong LEAST_LIFETIME (server_behind numbers moves).passage.came
  pub packets : (front : List EndMove) → length (passed numbers front).role.waiting.due ≤ 28
  pub answered : (front later : List EndMove) → moves.server ≡ front ++ later
      → AreAnswered (passed numbers front)

module _ (numbers : Numbers) (reader : ℕ → ℕ) (moves : Moves)
    (known : Known numbers reader moves) where
  abbrev now : Passage Server
  now = (server_behind numbers moves).passage

  -- it stands next on an is leg
  abbrev IsNext : ℕ → Named → Type 0
  IsNext n m =
      IsAhead now (is_leg n) (all_read_of (of_leg (is_leg n) (in_behind numbers moves n).put))
      (Packet m)

  module _ (oldest : Oldest numbers.window moves.server) where
    abbrev behind : List EndMove
    behind = oldest.front ++ oldest.move ∷ []

    abbrev since : List EndMove
    since = oldest.move ∷ oldest.later

    abbrev before : Passage Server
    before = passed numbers oldest.front

    abbrev was : Passage Server
    was = passed numbers behind

    -- how many answers were put behind the move
    few_taken : taken_in now ≤ taken_in was + due_in was.role + 11
    few_taken =
        known.taken oldest LEAST_LIFETIME known.long
        (let most = known.packets behind in omega (arith, most))
        (known.due behind oldest.later
        (oldest.is ∙ sym (append_assoc oldest.front (oldest.move ∷ []) oldest.later)))

    -- which channels of those that were announced before are late
    found : (those : List ℕ) × AreThese before (passed numbers (oldest.front ++ since)) those
    found =
        known.late oldest.front since [] (oldest.is ∙ sym (append-nil (oldest.front ++ since)))

    these : AreThese before now found.0
    these =
        subst (λ (ms : List EndMove). AreThese before (passed numbers ms) found.0)
        (sym oldest.is) found.1

    -- and those that were announced since and may be answered
    gap : UpTo (channels before) (taken_in now + 1)
    gap = up_to (channels before) (taken_in now + 1)

    abbrev new_ones : List ℕ
    new_ones = next_ones (channels before) gap.count

    are_among : (channel : Cookie) (late : IsLate numbers reader moves oldest.front channel)
        → IsAmong late.number (found.0 ++ new_ones)
    are_among channel late =
        by (these.all late.leg late.number late.announced late.near late.stays)
      where
        by : (channels before < late.number) ⊎ IsAmong late.number found.0
            → IsAmong late.number (found.0 ++ new_ones)
        by (inl more) =
            among_behind late.number found.0 new_ones
            (among_next gap.count (channels before) late.number more
            (let most = late.is.answered in let reaches = gap.reaches in
            omega (arith, most, reaches)))
        by (inr there) = among_front late.number found.0 new_ones there

    few : length (found.0 ++ new_ones) ≤ 15
    few =
        let sum = length-append found.0 new_ones in
        let many = as_many (channels before) gap.count in
        let fit = sums_fit (length found.0) (taken_in before) (due_in before.role)
        (channels before) (taken_in was) (due_in was.role) (taken_in now) gap.count these.few
        oldest.quiet few_taken (known.answered oldest.front since oldest.is) gap.least in
        omega (arith, sum, many, fit)

    -- so one to the client has room where none of its channel waits
    to_client : (n received window : ℕ) (channel : Cookie)
        → IsNext n (AckTo 0 received window channel)
        → waits_for (is_ack_for channel) now.role ≡ 0
        → 15 ≤ waits_for (is_ack_to 0) now.role → ⊥
    to_client n received window channel next none least =
        let most = (known.wait oldest).next (found.0 ++ new_ones) are_among n received window
        channel next none in
        let all = few in absurd (omega (arith, most, all, least))

    -- and one to an out proxy
    to_proxy : 16 ≤ waits_for (is_ack_to 0) now.role → ⊥
    to_proxy least =
        let most = (known.wait oldest).waiting (found.0 ++ new_ones) are_among in
        let all = few in absurd (omega (arith, most, all, least))

  ack_has_room : (n : ℕ) (count : Count) (to received window : ℕ) (channel : Cookie) (at : Leg)
      → IsNext n (AckTo to received window channel)
      → (rules.packet now.role (is_leg n) count (AckTo to received window channel)).1
      ≡ Err (refused.Full at) → ⊥
  ack_has_room n count to received window channel at next full =
      by (has_place now.role count to received window channel at full)
    where
      filled : IsFilled now.role to channel
      filled = known.fills (is_leg n) count to received window channel at full

      oldest : Oldest numbers.window moves.server
      oldest = known.oldest (let least = filled.least in omega (arith, least))

      by : (to ≡ 0) ⊎ (to ≡ 3) → ⊥
      by (inl client) =
          to_client oldest n received window channel
          (subst (λ (k : ℕ). IsNext n (AckTo k received window channel)) client next)
          (subst (λ (k : ℕ). waits_for (is_ack_at k channel) now.role ≡ 0) client filled.none)
          filled.least
      by (inr proxy) = to_proxy oldest (filled.own proxy)

  pub has_room : HasRoom numbers moves
  has_room n count named at next full =
      by named (known.forwards.full (is_leg n) count named at full) next full
    where
      by : (m : Named) → IsFullFor now.role m → IsNext n m
          → (rules.packet now.role (is_leg n) count m).1 ≡ Err (refused.Full at) → ⊥
      by (AckTo to received window channel) so ahead refused_so =
          ack_has_room n count to received window channel at ahead refused_so
      by m so ahead refused_so = absurd so
