-- rounds of settling, and whole lines, tell what they feed
use Rattle.law_order.proofs.Vocabulary.{◌≡◌, ℕ, List, [], ◌∷◌, Bool, true, false, ◌&&◌, Some, None, Option, refl, ◌∙◌}
use Rattle.law_order.proofs.ByNumber.{by_test}
use Rattle.rh_record.specs.declared.answer.Answer.TheVariants as answer
use Rattle.rh_record.specs.declared.answer.TakeAnswer.{TakeAnswer}
use Rattle.rh_record.specs.declared.answer.TakeAnswer.TheVariants as takes
use Rattle.rh_record.specs.declared.line.Line.TheVariants as line
use Rattle.rh_shell.specs.Shells.{same_leg}
use Rattle.law_moves.proofs.Vocabulary.{Dir, Side, Leg}
use Rattle.law_node_history.proofs.Connecting.{joins_open_leg, joins_open_same}
use Rattle.law_node_history.proofs.Rounds.{carries_go, ends_go, opens_go, rounds_go}
use Rattle.law_node_history.proofs.Vocabulary.{Line, Closing, lines, Rulebook, Deeds, Makers, end_leg, send, feed, take, has_ended, open_leg, open_same, opened, opened_same, open_all, most_bytes, carry_bytes, carried, carry_all, took, take_one, end_all, settle, step, step_line, tell_closed, World, Takes, Reports}
use Rattle.law_world_audited.specs.Moving.Moved.{moved_by, moved_on, same_dir}
use Rattle.law_world_audited.proofs.Moving.Feeding.{Dry, Goes, dry_connecting, dry_none, dry_one, feeds_then, goes_behind, goes_none, goes_one}
use Rattle.law_world_audited.proofs.Moving.FedLines.{FeedsOn, answer_goes, end_dry, feed_feeds, send_dry}

module _ {K C S I O : Type 0} (r : Rulebook C S I O) (m : Makers K I O) (d : Deeds C S) where
  opened_goes : (w : World K C S I O) (leg : Leg) (did : World K C S I O × Bool)
      → Dry r m d w did.0 → Goes r m d w (opened leg did)
  opened_goes w leg (v, true) a = goes_one r m d w v (answer.OpenLeg leg true) a
  opened_goes w leg (v, false) a = a

  opened_same_goes : (w : World K C S I O) (leg : Leg) (did : World K C S I O × Bool)
      → Dry r m d w did.0 → Goes r m d w (opened_same leg did)
  opened_same_goes w leg (v, true) a = goes_one r m d w v (answer.OpenSame leg true) a
  opened_same_goes w leg (v, false) a = a

  opens : (w : World K C S I O) → Goes r m d w (open_all r m w)
  opens =
      opens_go r m d (Goes r m d) (goes_none r m d) (goes_behind r m d)
      (λ w leg. opened_goes w leg (open_leg r m w leg)
      (dry_connecting r m d w (open_leg r m w leg).0 (joins_open_leg r m d w leg)))
      (λ w leg. opened_same_goes w leg (open_same r w leg)
      (dry_connecting r m d w (open_same r w leg).0 (joins_open_same r m d w leg)))

  carried_goes : (w : World K C S I O) (leg : Leg) (dir : Dir)
      (did : World K C S I O × Option (List ℕ)) → FeedsOn r m d w leg dir did
      → Goes r m d w (carried leg dir did)
  carried_goes w leg dir (v, None) a = a
  carried_goes w leg dir (v, Some []) a = record {
    by = a.by;
    drawn = a.drawn;
    fed = λ other way.
        by_test (λ (l : List ℕ). [] ≡ l) (same_leg leg other && same_dir dir way) [] []
        (λ e. refl) (λ e. refl)
        ∙ a.fed other way;
  }
  carried_goes w leg dir (v, Some (b ∷ bytes)) a =
      goes_one r m d w v (answer.Move (Some leg) dir (Some (b ∷ bytes))) a

  carries : (w : World K C S I O) → Goes r m d w (carry_all r w)
  carries =
      carries_go r m d (Goes r m d) (goes_none r m d) (goes_behind r m d)
      (λ leg dir w.
      let v = (send r w leg dir most_bytes).0 in
      let did = feed r v leg dir most_bytes in
      carried_goes w leg dir (carry_bytes r leg dir w)
      (feeds_then r m d (λ other way. [])
      (λ other way. moved_by other way (answer.Move (Some leg) dir did.1)) w v did.0
      (send_dry r m d w leg dir most_bytes) (feed_feeds r m d v leg dir most_bytes)))

  took_goes : (w : World K C S I O) (end : Side) (ended : Bool)
      (did : World K C S I O × TakeAnswer) → Dry r m d w did.0
      → Goes r m d w (took end ended did)
  took_goes w end ended (v, takes.Pdu pdu) a =
      goes_one r m d w v (answer.Take end (takes.Pdu pdu)) a
  took_goes w end ended (v, takes.Empty) a = a
  took_goes w end false (v, takes.Ended) a = goes_one r m d w v (answer.Take end takes.Ended) a
  took_goes w end true (v, takes.Ended) a = a
  took_goes w end ended (v, takes.Closed why) a = a

  takes_one : (end : Side) (w : World K C S I O) → Goes r m d w (take_one d end w)
  takes_one end w =
      took_goes w end (has_ended w end) (take d w end)
      (dry_one r m d w (Takes end) tt refl (λ leg dir. refl))

  ends : (w : World K C S I O) → Goes r m d w (end_all r w)
  ends =
      ends_go r m d (Goes r m d) (goes_none r m d) (goes_behind r m d)
      (λ leg dir w. let did = end_leg r w leg dir in
      goes_one r m d w did.0 (answer.EndLeg leg dir did.1) (end_dry r m d w leg dir))

  settles : (rounds : ℕ) (w : World K C S I O) → Goes r m d w (settle r m d rounds w)
  settles rounds =
      rounds_go r m d (Goes r m d) (goes_none r m d) (goes_behind r m d) opens carries takes_one
      ends (λ w v count a. goes_one r m d w v (answer.Quiet count) a)
      (λ w count. goes_one r m d w w (answer.Spent count) (dry_none r m d w)) rounds 0

  -- ---- whole lines

  line_goes : (one : Line) (w : World K C S I O) → Goes r m d w (step_line r m d one w)
  line_goes (line.Settle rounds) w = settles rounds w
  line_goes one w = answer_goes r m d w one

  closings_move : (leg : Leg) (dir : Dir) (list : List Closing)
      → moved_on leg dir (lines list) ≡ []
  closings_move leg dir [] = refl
  closings_move leg dir (one ∷ list) = closings_move leg dir list

  tell_goes : (w : World K C S I O) → Goes r m d w (tell_closed w)
  tell_goes w =
      let a = dry_one r m d w Reports tt refl (λ leg dir. refl) in
      record {
        by = a.by;
        drawn = a.drawn;
        fed = λ leg dir. closings_move leg dir w.closed ∙ a.fed leg dir;
      }

  pub step_goes : (one : Line) (w : World K C S I O) → Goes r m d w (step r m d one w)
  step_goes one w =
      goes_behind r m d w (step_line r m d one w) tell_closed (line_goes one w) tell_goes
