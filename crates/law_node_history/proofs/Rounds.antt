-- each round of settling is a list of changes, and reports no closed node
use Rattle.law_order.proofs.Vocabulary.{ℕ, zero, suc, ◌+◌, List, [], ◌∷◌, Bool, true, false, ◌&&◌, if◌then◌else◌, length, Some, None, refl, nat_le, Option}
use Rattle.rh_record.specs.declared.answer.Answer.TheVariants as answer
use Rattle.rh_record.specs.declared.answer.TakeAnswer.TheVariants as takes
use Rattle.rh_wires.specs.Legs as legs
use Rattle.law_moves.proofs.Vocabulary.{Dir, U, D, Side, Client, Server, Leg, LegKind, ClientOut, OutServer, ClientIn, InServer}
use Rattle.law_node_history.proofs.Vocabulary.{Answer, TakeAnswer, Rulebook, end_leg, send, feed, Deeds, take, has_ended, Makers, open_leg, open_same, may_open_same, and_then, each, leg_at, opened, opened_same, open_next, open_next_in, next_number, open_client_outs, open_client_ins, open_out_servers, open_in_servers, open_all, most_bytes, carry_bytes, carried, carry, carry_both, carry_kind, carry_all, took, take_one, take_both, ends_now, ended, end_where, end_one, end_kind}
use Rattle.law_node_history.proofs.Vocabulary.{end_all, round, behind_round, rounds_from, settle, World, Takes, GoesQuietly}
use Rattle.law_node_history.proofs.Drawing.{DrawsQuietly, DrawsWork, draws_none, draws_one, draws_then}
use Rattle.law_node_history.proofs.Answering.{Goes, GoesDrawing, QuietlyDrawing, goes_quietly, goes_none, goes_quiet, goes_one, goes_and_then, goes_plainly}
use Rattle.law_node_history.proofs.Losing.{draws_end_leg, draws_send, draws_feed}
use Rattle.law_node_history.proofs.Connecting.{draws_open_leg, draws_open_same}

-- ---- what holds of each step of a round, and of one behind another, holds of rounds

module _ {K C S I O : Type 0} (r : Rulebook C S I O) (m : Makers K I O) (d : Deeds C S)
    (Goes : World K C S I O → World K C S I O × List Answer → Type 0)
    (none : (w : World K C S I O) → Goes w (w, []))
    (behind : (w : World K C S I O) (did : World K C S I O × List Answer)
    (act : World K C S I O → World K C S I O × List Answer) → Goes w did
    → ((v : World K C S I O) → Goes v (act v)) → Goes w (and_then did act)) where
  for_each : (n : ℕ) (act : ℕ → World K C S I O → World K C S I O × List Answer)
      (w : World K C S I O) → ((k : ℕ) (v : World K C S I O) → Goes v (act k v))
      → Goes w (each n act w)
  for_each zero act w one = none w
  for_each (suc n) act w one = behind w (each n act w) (act n) (for_each n act w one) (one n)

  -- four steps behind one another
  four : (one two three last : World K C S I O → World K C S I O × List Answer)
      → ((w : World K C S I O) → Goes w (one w)) → ((w : World K C S I O) → Goes w (two w))
      → ((w : World K C S I O) → Goes w (three w)) → ((w : World K C S I O) → Goes w (last w))
      → (w : World K C S I O)
      → Goes w (and_then (and_then (and_then (one w) two) three) last)
  four one two three last a b c d w =
      behind w (and_then (and_then (one w) two) three) last
      (behind w (and_then (one w) two) three (behind w (one w) two (a w) b) c) d

  -- part 1
  module _ (opens : (w : World K C S I O) (leg : Leg) → Goes w (opened leg (open_leg r m w leg)))
      (opens_same : (w : World K C S I O) (leg : Leg)
      → Goes w (opened_same leg (open_same r w leg))) where
    next_goes : (leg : Leg) (w : World K C S I O) → Goes w (open_next r m leg w)
    next_goes leg w = opens w leg

    next_in_goes : (leg : Leg) (w : World K C S I O) → Goes w (open_next_in r m leg w)
    next_in_goes leg w = by (w.same && may_open_same r w leg)
      where
        by : (t : Bool) → Goes w (if t then opened_same leg (open_same r w leg)
            else open_next r m leg w)
        by true = opens_same w leg
        by false = next_goes leg w

    -- a number that is not too great
    next_number_goes : (n : ℕ) (w : World K C S I O) (did : World K C S I O × List Answer)
        → Goes w did → Goes w (if nat_le n 4294967295 then did else (w, []))
    next_number_goes n w did goes = by (nat_le n 4294967295)
      where
        by : (t : Bool) → Goes w (if t then did else (w, []))
        by true = goes
        by false = none w

    client_outs_go : (w : World K C S I O) → Goes w (open_client_outs r m w)
    client_outs_go w =
        let n = next_number (length w.legs.client_out) in
        next_number_goes n w (open_next r m (leg_at ClientOut n) w)
        (next_goes (leg_at ClientOut n) w)

    client_ins_go : (w : World K C S I O) → Goes w (open_client_ins r m w)
    client_ins_go w =
        let n = next_number (length w.legs.client_in) in
        next_number_goes n w (open_next_in r m (leg_at ClientIn n) w)
        (next_in_goes (leg_at ClientIn n) w)

    pub opens_go : (w : World K C S I O) → Goes w (open_all r m w)
    opens_go =
        four (open_client_outs r m) (open_out_servers r m) (open_client_ins r m)
        (open_in_servers r m) client_outs_go
        (λ w. for_each (length w.company.outs)
        (λ number. open_next r m (leg_at OutServer number)) w
        (λ number. next_goes (leg_at OutServer number))) client_ins_go
        (λ w. for_each (length w.company.ins)
        (λ number. open_next r m (leg_at InServer number)) w
        (λ number. next_goes (leg_at InServer number)))

  -- part 2
  module _ (carries : (leg : Leg) (dir : Dir) (w : World K C S I O)
      → Goes w (carry r leg dir w)) where
    both_go : (leg : Leg) (w : World K C S I O) → Goes w (carry_both r leg w)
    both_go leg w = behind w (carry r leg U w) (carry r leg D) (carries leg U w) (carries leg D)

    kind_carries : (kind : LegKind) (w : World K C S I O) → Goes w (carry_kind r kind w)
    kind_carries kind w =
        for_each (length (legs.of kind w.legs)) (λ number. carry_both r (leg_at kind number)) w
        (λ number. both_go (leg_at kind number))

    pub carries_go : (w : World K C S I O) → Goes w (carry_all r w)
    carries_go =
        four (carry_kind r ClientOut) (carry_kind r OutServer) (carry_kind r ClientIn)
        (carry_kind r InServer) (kind_carries ClientOut) (kind_carries OutServer)
        (kind_carries ClientIn) (kind_carries InServer)

  -- part 3
  takes_go : ((end : Side) (w : World K C S I O) → Goes w (take_one d end w))
      → (w : World K C S I O) → Goes w (take_both d w)
  takes_go takes w =
      behind w (take_one d Client w) (take_one d Server) (takes Client w) (takes Server)

  -- part 4
  module _ (ends : (leg : Leg) (dir : Dir) (w : World K C S I O)
      → Goes w (end_where r leg w (Some dir))) where
    where_goes : (leg : Leg) (w : World K C S I O) (o : Option Dir)
        → Goes w (end_where r leg w o)
    where_goes leg w None = none w
    where_goes leg w (Some dir) = ends leg dir w

    kind_ends : (kind : LegKind) (w : World K C S I O) → Goes w (end_kind r kind w)
    kind_ends kind w =
        for_each (length (legs.of kind w.legs)) (λ number. end_one r (leg_at kind number)) w
        (λ number v. where_goes (leg_at kind number) v (ends_now r (leg_at kind number) v))

    pub ends_go : (w : World K C S I O) → Goes w (end_all r w)
    ends_go =
        four (end_kind r ClientOut) (end_kind r OutServer) (end_kind r ClientIn)
        (end_kind r InServer) (kind_ends ClientOut) (kind_ends OutServer) (kind_ends ClientIn)
        (kind_ends InServer)

  -- all of them
  module _ (opens : (w : World K C S I O) → Goes w (open_all r m w))
      (carries : (w : World K C S I O) → Goes w (carry_all r w))
      (takes : (end : Side) (w : World K C S I O) → Goes w (take_one d end w))
      (ends : (w : World K C S I O) → Goes w (end_all r w)) where
    pub round_goes : (w : World K C S I O) → Goes w (round r m d w)
    round_goes =
        four (open_all r m) (carry_all r) (take_both d) (end_all r) opens carries (takes_go takes)
        ends

    module _ (quiet : (w v : World K C S I O) (count : ℕ) → Goes w (v, [])
        → Goes w (v, answer.Quiet count ∷ []))
        (spent : (w : World K C S I O) (count : ℕ) → Goes w (w, answer.Spent count ∷ [])) where
      behind_goes : (w : World K C S I O) (count : ℕ) (did : World K C S I O × List Answer)
          (rest : World K C S I O → World K C S I O × List Answer) → Goes w did
          → ((v : World K C S I O) → Goes v (rest v)) → Goes w (behind_round count did rest)
      behind_goes w count (v, []) rest a b = quiet w v count a
      behind_goes w count (v, one ∷ more) rest a b = behind w (v, one ∷ more) rest a b

      pub rounds_go : (n count : ℕ) (w : World K C S I O)
          → Goes w (rounds_from n count (round r m d) w)
      unfolding rounds_from
      rounds_go zero count w = spent w count
      rounds_go (suc n) count w =
          behind_goes w count (round r m d w)
          (λ next. rounds_from n (count + 1) (round r m d) next) (round_goes w)
          (rounds_go n (count + 1))

-- ---- each round is a list of changes that draw cookies, and reports no closed node

module _ {K C S I O : Type 0} (r : Rulebook C S I O) (m : Makers K I O) (d : Deeds C S) where
  opened_goes : (w : World K C S I O) (leg : Leg) (did : World K C S I O × Bool)
      → DrawsQuietly r m d w did.0 → QuietlyDrawing r m d w (opened leg did)
  opened_goes w leg (v, true) a = goes_one r m d w v (answer.OpenLeg leg true) a refl
  opened_goes w leg (v, false) a = goes_quiet r m d w v a

  opened_same_goes : (w : World K C S I O) (leg : Leg) (did : World K C S I O × Bool)
      → DrawsQuietly r m d w did.0 → QuietlyDrawing r m d w (opened_same leg did)
  opened_same_goes w leg (v, true) a = goes_one r m d w v (answer.OpenSame leg true) a refl
  opened_same_goes w leg (v, false) a = goes_quiet r m d w v a

  open_draws : (w : World K C S I O) → QuietlyDrawing r m d w (open_all r m w)
  open_draws =
      opens_go r m d (QuietlyDrawing r m d) (goes_none r m d) (goes_and_then r m d)
      (λ w leg. opened_goes w leg (open_leg r m w leg) (draws_open_leg r m d w leg))
      (λ w leg. opened_same_goes w leg (open_same r w leg) (draws_open_same r m d w leg))

  carried_goes : (w : World K C S I O) (leg : Leg) (dir : Dir)
      (did : World K C S I O × Option (List ℕ)) → DrawsQuietly r m d w did.0
      → QuietlyDrawing r m d w (carried leg dir did)
  carried_goes w leg dir (v, None) a = goes_quiet r m d w v a
  carried_goes w leg dir (v, Some []) a = goes_quiet r m d w v a
  carried_goes w leg dir (v, Some (b ∷ bytes)) a =
      goes_one r m d w v (answer.Move (Some leg) dir (Some (b ∷ bytes))) a refl

  carry_all_draws : (w : World K C S I O) → QuietlyDrawing r m d w (carry_all r w)
  carry_all_draws =
      carries_go r m d (QuietlyDrawing r m d) (goes_none r m d) (goes_and_then r m d)
      (λ leg dir w. let v = (send r w leg dir most_bytes).0 in
      carried_goes w leg dir (carry_bytes r leg dir w)
      (draws_then r m d w v (feed r v leg dir most_bytes).0
      (draws_send r m d w leg dir most_bytes) (draws_feed r m d v leg dir most_bytes)))

  took_goes : (w : World K C S I O) (end : Side) (ended : Bool)
      (did : World K C S I O × TakeAnswer) → DrawsWork r m d w did.0
      → GoesDrawing r m d w (took end ended did)
  took_goes w end ended (v, takes.Pdu pdu) a =
      goes_one r m d w v (answer.Take end (takes.Pdu pdu)) a refl
  took_goes w end ended (v, takes.Empty) a = goes_quiet r m d w v a
  took_goes w end false (v, takes.Ended) a =
      goes_one r m d w v (answer.Take end takes.Ended) a refl
  took_goes w end true (v, takes.Ended) a = goes_quiet r m d w v a
  took_goes w end ended (v, takes.Closed why) a = goes_quiet r m d w v a

  take_goes : (end : Side) (w : World K C S I O) → GoesDrawing r m d w (take_one d end w)
  take_goes end w =
      took_goes w end (has_ended w end) (take d w end) (draws_one r m d w (Takes end) tt refl)

  end_all_draws : (w : World K C S I O) → QuietlyDrawing r m d w (end_all r w)
  end_all_draws =
      ends_go r m d (QuietlyDrawing r m d) (goes_none r m d) (goes_and_then r m d)
      (λ leg dir w. let did = end_leg r w leg dir in
      goes_one r m d w did.0 (answer.EndLeg leg dir did.1) (draws_end_leg r m d w leg dir) refl)

  pub draws_round : (w : World K C S I O) → GoesDrawing r m d w (round r m d w)
  draws_round =
      round_goes r m d (GoesDrawing r m d) (goes_none r m d) (goes_and_then r m d)
      (λ w. goes_quietly r m d w (open_all r m w) (open_draws w))
      (λ w. goes_quietly r m d w (carry_all r w) (carry_all_draws w)) take_goes
      (λ w. goes_quietly r m d w (end_all r w) (end_all_draws w))

  pub draws_settle : (rounds : ℕ) (w : World K C S I O)
      → GoesDrawing r m d w (settle r m d rounds w)
  draws_settle rounds =
      rounds_go r m d (GoesDrawing r m d) (goes_none r m d) (goes_and_then r m d)
      (λ w. goes_quietly r m d w (open_all r m w) (open_draws w))
      (λ w. goes_quietly r m d w (carry_all r w) (carry_all_draws w)) take_goes
      (λ w. goes_quietly r m d w (end_all r w) (end_all_draws w))
      (λ w v count a. goes_one r m d w v (answer.Quiet count) a.draws refl)
      (λ w count. goes_one r m d w w (answer.Spent count) (draws_none r m d w) refl) rounds 0

  -- ---- whatever the cookies

  pub open_goes : (w : World K C S I O) → GoesQuietly r m d w (open_all r m w)
  open_goes w = goes_plainly r m d w (open_all r m w) (open_draws w)

  pub carry_all_goes : (w : World K C S I O) → GoesQuietly r m d w (carry_all r w)
  carry_all_goes w = goes_plainly r m d w (carry_all r w) (carry_all_draws w)

  pub end_all_goes : (w : World K C S I O) → GoesQuietly r m d w (end_all r w)
  end_all_goes w = goes_plainly r m d w (end_all r w) (end_all_draws w)

  pub goes_round : (w : World K C S I O) → Goes r m d w (round r m d w)
  goes_round w = goes_plainly r m d w (round r m d w) (draws_round w)
