-- each round of settling ends a leg only where it is over, and keeps each leg up for both of its
-- ends or for neither
use Rattle.std.proofs.Common.{◌≡◌, ℕ, zero, suc, List, [], ◌∷◌, Bool, true, false, if◌then◌else◌, length, Some, None, refl}
use Rattle.std.specs.declared.option.Option.{Option}
use Rattle.rh_text.specs.declared.ends.Dir.{Dir}
use Rattle.rh_text.specs.declared.ends.Dir.TheVariants.{U, D}
use Rattle.rh_text.specs.declared.ends.Side.{Side}
use Rattle.law_order.proofs.ByNumber.{by_test}
use Rattle.rh_line.specs.declared.leg.Leg.{Leg}
use Rattle.rh_line.specs.declared.leg.LegKind.{LegKind}
use Rattle.rh_line.specs.declared.leg.LegKind.TheVariants.{ClientOut, OutServer, ClientIn, InServer}
use Rattle.rh_record.specs.declared.answer.Answer.{Answer}
use Rattle.rh_record.specs.declared.answer.TakeAnswer.{TakeAnswer}
use Rattle.rh_record.specs.declared.answer.TakeAnswer.TheVariants as takes
use Rattle.rh_wires.specs.Legs as legs
use Rattle.rh_wires.specs.Wires.{sender}
use Rattle.rh_company.specs.Company.{Rulebook}
use Rattle.rh_nodes.specs.Breaking.{is_up}
use Rattle.rh_nodes.specs.Carrying.{send, feed}
use Rattle.rh_nodes.specs.Giving.{Deeds, take, has_ended}
use Rattle.rh_nodes.specs.Opening.{Makers, open_leg, open_same}
use Rattle.rh_nodes.specs.Reports.{and_then, each}
use Rattle.rh_nodes.specs.Settling.{leg_at, opened, opened_same, open_all, most_bytes, carry_bytes, carried, carry_all, took, take_one, is_finished, end_where, end_one, end_kind, end_all, round, settle}
use Rattle.rh_nodes.specs.World.{World}
use Rattle.law_node_history.specs.Changes.{Change, Takes, is_quiet, of_line}
use Rattle.law_node_history.proofs.Connecting.{connects_open_leg, connects_open_same}
use Rattle.law_node_history.proofs.Rounds.{opens_go, carries_go, round_goes, rounds_go}
use Rattle.law_world_ways.specs.EndsInTime.Both.{AreUpAtBoth}
use Rattle.law_world_ways.proofs.EndsInTime.Behind.{NoLeg}
use Rattle.law_world_ways.proofs.EndsInTime.Both.{up_for, take_keeps, end_keeps, send_keeps, feed_keeps, open_keeps, same_keeps}
use Rattle.law_world_ways.proofs.EndsInTime.Goes.{GoesBehind, goes_connecting, goes_none, goes_one, goes_then, quiet_in_time}
use Rattle.law_world_ways.proofs.EndsInTime.Losing.{end_in_time, send_in_time, feed_in_time}

module _ {K C S I O : Type 0} (kind : Change → Bool) (r : Rulebook C S I O) (m : Makers K I O)
    (d : Deeds C S) where
  -- where each leg is up for both of its ends or for neither, it is so behind that
  abbrev Keeps : World K C S I O → World K C S I O → Type 0
  Keeps w v = AreUpAtBoth w → AreUpAtBoth v × GoesBehind kind r m d NoLeg w v

  -- whatever is told
  abbrev Goes : World K C S I O → World K C S I O × List Answer → Type 0
  Goes w did = Keeps w did.0

  none : (w : World K C S I O) → Goes w (w, [])
  none w both = (both, goes_none r m d NoLeg w)

  keeps_then : (w v u : World K C S I O) → Keeps w v → Keeps v u → Keeps w u
  keeps_then w v u a b both =
      let first = a both in
      let next = b first.0 in (next.0, goes_then r m d NoLeg w v u first.1 next.1)

  behind : (w : World K C S I O) (did : World K C S I O × List Answer)
      (act : World K C S I O → World K C S I O × List Answer) → Goes w did
      → ((v : World K C S I O) → Goes v (act v)) → Goes w (and_then did act)
  behind w did act a b = keeps_then w did.0 (act did.0).0 a (b did.0)

  opened_goes : (w : World K C S I O) (leg : Leg) (did : World K C S I O × Bool)
      → Keeps w did.0 → Goes w (opened leg did)
  opened_goes w leg (v, true) a = a
  opened_goes w leg (v, false) a = a

  opened_same_goes : (w : World K C S I O) (leg : Leg) (did : World K C S I O × Bool)
      → Keeps w did.0 → Goes w (opened_same leg did)
  opened_same_goes w leg (v, true) a = a
  opened_same_goes w leg (v, false) a = a

  carried_goes : (w : World K C S I O) (leg : Leg) (dir : Dir)
      (did : World K C S I O × Option (List ℕ)) → Keeps w did.0
      → Goes w (carried leg dir did)
  carried_goes w leg dir (v, None) a = a
  carried_goes w leg dir (v, Some []) a = a
  carried_goes w leg dir (v, Some (b ∷ bytes)) a = a

  took_goes : (w : World K C S I O) (end : Side) (ended : Bool)
      (did : World K C S I O × TakeAnswer) → Keeps w did.0
      → Goes w (took end ended did)
  took_goes w end ended (v, takes.Pdu pdu) a = a
  took_goes w end ended (v, takes.Empty) a = a
  took_goes w end false (v, takes.Ended) a = a
  took_goes w end true (v, takes.Ended) a = a
  took_goes w end ended (v, takes.Closed why) a = a

module _ {K C S I O : Type 0} (r : Rulebook C S I O) (m : Makers K I O) (d : Deeds C S) where
  -- what is done by quiet changes
  abbrev pub GoesQuiet : World K C S I O → World K C S I O × List Answer → Type 0
  GoesQuiet w did = Goes is_quiet r m d w did

  -- ---- part 1

  pub open_in_time : (w : World K C S I O) → GoesQuiet w (open_all r m w)
  open_in_time =
      opens_go r m d GoesQuiet (none is_quiet r m d) (behind is_quiet r m d)
      (λ w leg. opened_goes is_quiet r m d w leg (open_leg r m w leg) (λ both. (
        open_keeps r m w leg both,
        goes_connecting r m d NoLeg w (open_leg r m w leg).0 (connects_open_leg r m d w leg),
      )))
      (λ w leg. opened_same_goes is_quiet r m d w leg (open_same r w leg) (λ both. (
        same_keeps r m w leg both,
        goes_connecting r m d NoLeg w (open_same r w leg).0 (connects_open_same r m d w leg),
      )))

  -- ---- part 2

  pub carry_in_time : (w : World K C S I O) → GoesQuiet w (carry_all r w)
  carry_in_time =
      carries_go r m d GoesQuiet (none is_quiet r m d) (behind is_quiet r m d)
      (λ leg dir w. let v = (send r w leg dir most_bytes).0 in
      carried_goes is_quiet r m d w leg dir (carry_bytes r leg dir w)
      (keeps_then is_quiet r m d w v (feed r v leg dir most_bytes).0
      (λ both. (
        send_keeps r w leg dir most_bytes both,
        send_in_time r m d w leg dir most_bytes,
      ))
      (λ both. (
        feed_keeps r v leg dir most_bytes both,
        feed_in_time r m d v leg dir most_bytes,
      ))))

  -- ---- part 3

  pub take_in_time : (end : Side) (w : World K C S I O) → Goes of_line r m d w (take_one d end w)
  take_in_time end w =
      took_goes of_line r m d w end (has_ended w end) (take d w end)
      (λ both. (take_keeps d w both end, goes_one r m d NoLeg w (Takes end) tt refl tt))

  -- ---- part 4: what ends is up for both ends, and finished in the direction in which it ends

  finished_goes : (leg : Leg) (dir : Dir) (w : World K C S I O) → is_up w leg ≡ true
      → is_finished r leg dir w ≡ true → GoesQuiet w (end_where r leg w (Some dir))
  finished_goes leg dir w up done both = (
    end_keeps r w leg dir both,
    end_in_time r m d w leg dir (λ ok. record {
      dir = dir;
      up = up_for w leg (sender dir) both up;
      done = done;
    }),
  )

  one_goes : (leg : Leg) (w : World K C S I O) → GoesQuiet w (end_one r leg w)
  one_goes leg w =
      by_test (λ (o : Option Dir). GoesQuiet w (end_where r leg w o)) (is_up w leg)
      (if is_finished r leg U w then Some U
      else (if is_finished r leg D w then Some D else None)) None
      (λ up. by_test (λ (o : Option Dir). GoesQuiet w (end_where r leg w o)) (is_finished r leg U w)
      (Some U) (if is_finished r leg D w then Some D else None) (finished_goes leg U w up)
      (λ e. by_test (λ (o : Option Dir). GoesQuiet w (end_where r leg w o)) (is_finished r leg D w)
      (Some D) None (finished_goes leg D w up) (λ f. none is_quiet r m d w)))
      (λ down. none is_quiet r m d w)

  each_goes : (n : ℕ) (act : ℕ → World K C S I O → World K C S I O × List Answer)
      (w : World K C S I O) → ((k : ℕ) (v : World K C S I O) → GoesQuiet v (act k v))
      → GoesQuiet w (each n act w)
  each_goes zero act w one = none is_quiet r m d w
  each_goes (suc n) act w one =
      behind is_quiet r m d w (each n act w) (act n) (each_goes n act w one) (one n)

  kind_goes : (kind : LegKind) (w : World K C S I O) → GoesQuiet w (end_kind r kind w)
  kind_goes kind w =
      each_goes (length (legs.of kind w.legs)) (λ number. end_one r (leg_at kind number)) w
      (λ number. one_goes (leg_at kind number))

  pub ends_in_time : (w : World K C S I O) → GoesQuiet w (end_all r w)
  ends_in_time w =
      let outs = end_kind r ClientOut w in
      let servers = and_then outs (end_kind r OutServer) in
      let ins = and_then servers (end_kind r ClientIn) in
      behind is_quiet r m d w ins (end_kind r InServer)
      (behind is_quiet r m d w servers (end_kind r ClientIn)
      (behind is_quiet r m d w outs (end_kind r OutServer) (kind_goes ClientOut w) (kind_goes OutServer))
      (kind_goes ClientIn)) (kind_goes InServer)

  -- ---- rounds

  abbrev GoesOn : World K C S I O → World K C S I O × List Answer → Type 0
  GoesOn w did = Goes of_line r m d w did

  quietly : (w : World K C S I O) (did : World K C S I O × List Answer) → GoesQuiet w did
      → GoesOn w did
  quietly w did goes both =
      let a = goes both in (a.0, quiet_in_time r m d w did.0 a.1)

  pub round_in_time : (w : World K C S I O) → GoesOn w (round r m d w)
  round_in_time =
      round_goes r m d GoesOn (none of_line r m d) (behind of_line r m d)
      (λ w. quietly w (open_all r m w) (open_in_time w))
      (λ w. quietly w (carry_all r w) (carry_in_time w)) take_in_time
      (λ w. quietly w (end_all r w) (ends_in_time w))

  pub settle_in_time : (rounds : ℕ) (w : World K C S I O) → GoesOn w (settle r m d rounds w)
  settle_in_time rounds =
      rounds_go r m d GoesOn (none of_line r m d) (behind of_line r m d)
      (λ w. quietly w (open_all r m w) (open_in_time w))
      (λ w. quietly w (carry_all r w) (carry_in_time w)) take_in_time
      (λ w. quietly w (end_all r w) (ends_in_time w))
      (λ w v count a. a) (λ w count. none of_line r m d w) rounds 0
