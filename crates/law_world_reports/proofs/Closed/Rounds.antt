-- what each round of settling tells shows in what it reports
use Rattle.law_order.proofs.Vocabulary.{ℕ, List, [], ◌∷◌, Bool, true, false, Some, None, refl, sym, ap, subst, ◌≡◌, ◌⊎◌, inl, inr, Option}
use Rattle.rh_record.specs.declared.answer.Answer.TheVariants as answer
use Rattle.rh_record.specs.declared.answer.TakeAnswer.TheVariants as takes
use Rattle.law_moves.proofs.Vocabulary.{Dir, Side, Leg}
use Rattle.law_node_history.proofs.Vocabulary.{Answer, TakeAnswer, Rulebook, send, feed, Deeds, take, has_ended, Makers, open_leg, open_same, opened, opened_same, most_bytes, carry_bytes, carried, carry, took, take_one, ended, end_where, settle, World, Takes, IsOneOf}
use Rattle.law_node_history.proofs.Lemmas.{carries_go, ends_go, opens_go, rounds_go}
use Rattle.law_world_reports.proofs.Closed.Showing.{shown_none, shown_one, shown_then}
use Rattle.law_world_reports.proofs.Closed.Going.{Goes, Quiet, goes_none, goes_and_then}
use Rattle.law_world_reports.proofs.Closed.Losing.{shown_end_leg, shown_send, shown_feed}
use Rattle.law_world_reports.proofs.Closed.Connected.{shown_open_leg, shown_open_same}
use Rattle.law_world_reports.proofs.Vocabulary.{ShownWorks}

module _ {K C S I O : Type 0} (r : Rulebook C S I O) (m : Makers K I O) (d : Deeds C S) where
  opened_goes : (w : World K C S I O) (leg : Leg) (did : World K C S I O × Bool)
      → Quiet r m d w did.0 → Goes r m d w (opened leg did)
  opened_goes w leg (v, true) a = λ all are_in. a all
  opened_goes w leg (v, false) a = λ all are_in. a all

  opened_same_goes : (w : World K C S I O) (leg : Leg) (did : World K C S I O × Bool)
      → Quiet r m d w did.0 → Goes r m d w (opened_same leg did)
  opened_same_goes w leg (v, true) a = λ all are_in. a all
  opened_same_goes w leg (v, false) a = λ all are_in. a all

  -- the bytes that were fed, where there were some
  some_of : List ℕ → Option (List ℕ) → List ℕ
  some_of other None = other
  some_of other (Some bytes) = bytes

  carried_goes : (w : World K C S I O) (leg : Leg) (dir : Dir)
      (did : World K C S I O × Option (List ℕ))
      → ((all : List Answer) → ((bytes : List ℕ) → did.1 ≡ Some bytes
      → (bytes ≡ []) ⊎ IsOneOf (answer.Move (Some leg) dir (Some bytes)) all)
      → ShownWorks r m d all w did.0)
      → Goes r m d w (carried leg dir did)
  unfolding some_of
  carried_goes w leg dir (v, None) a = λ all are_in. a all (λ bytes e. absurd cc)
  carried_goes w leg dir (v, Some []) a = λ all are_in.
      a all (λ bytes e. inl (sym (ap (some_of []) e)))
  carried_goes w leg dir (v, Some (b ∷ more)) a = λ all are_in.
      a all (λ bytes e. inr (subst
      (λ (p : List ℕ). IsOneOf (answer.Move (Some leg) dir (Some p)) all) (ap (some_of []) e)
      (are_in (answer.Move (Some leg) dir (Some (b ∷ more))) (inl refl))))

  carry_goes : (leg : Leg) (dir : Dir) (w : World K C S I O)
      → Goes r m d w (carry r leg dir w)
  carry_goes leg dir w =
      let v = (send r w leg dir most_bytes).0 in
      carried_goes w leg dir (carry_bytes r leg dir w)
      (λ all told. shown_then r m d all w v (feed r v leg dir most_bytes).0
      (shown_send r m d all w leg dir most_bytes) (shown_feed r m d all v leg dir most_bytes told))

  took_goes : (w : World K C S I O) (end : Side) (ended : Bool)
      (did : World K C S I O × TakeAnswer) → Quiet r m d w did.0
      → Goes r m d w (took end ended did)
  took_goes w end ended (v, takes.Pdu pdu) a = λ all are_in. a all
  took_goes w end ended (v, takes.Empty) a = λ all are_in. a all
  took_goes w end false (v, takes.Ended) a = λ all are_in. a all
  took_goes w end true (v, takes.Ended) a = λ all are_in. a all
  took_goes w end ended (v, takes.Closed why) a = λ all are_in. a all

  take_goes : (end : Side) (w : World K C S I O) → Goes r m d w (take_one d end w)
  take_goes end w =
      took_goes w end (has_ended w end) (take d w end)
      (λ all. shown_one r m d all w (Takes end) tt refl tt)

  end_goes : (leg : Leg) (dir : Dir) (w : World K C S I O)
      → Goes r m d w (end_where r leg w (Some dir))
  end_goes leg dir w = λ all are_in.
      shown_end_leg r m d all w leg dir
      (λ e. are_in (answer.EndLeg leg dir true) (inl (ap (λ ok. answer.EndLeg leg dir ok) e)))

  pub goes_settle : (rounds : ℕ) (w : World K C S I O) → Goes r m d w (settle r m d rounds w)
  goes_settle rounds =
      rounds_go r m d (Goes r m d) (goes_none r m d) (goes_and_then r m d)
      (opens_go r m d (Goes r m d) (goes_none r m d) (goes_and_then r m d)
      (λ w leg. opened_goes w leg (open_leg r m w leg) (λ all. shown_open_leg r m d all w leg))
      (λ w leg.
      opened_same_goes w leg (open_same r w leg) (λ all. shown_open_same r m d all w leg)))
      (carries_go r m d (Goes r m d) (goes_none r m d) (goes_and_then r m d) carry_goes) take_goes
      (ends_go r m d (Goes r m d) (goes_none r m d) (goes_and_then r m d) end_goes)
      (λ w v count a. λ all are_in. a all (λ x h. absurd h))
      (λ w count. λ all are_in. shown_none r m d all w) rounds 0
