-- a proxy that is let go by a change is told nothing by it
use Rattle.law_order.proofs.Vocabulary.{◌≡◌, ◌⊎◌, inl, inr, ℕ, List, [], refl, sym, ◌∙◌, ap, get_or, cases_eq}
use Rattle.rh_record.specs.declared.answer.Who.TheVariants as who
use Rattle.rh_wires.specs.Legs as legs
use Rattle.rh_company.specs.Company as company
use Rattle.law_moves.proofs.Vocabulary.{Rules, Shell, ClientIn}
use Rattle.law_moves.specs.Moving as moving
use Rattle.law_node_history.proofs.Vocabulary.{put_at, receiver, sender, Comes, Place, Absent, Here, Gone, Rulebook, Deeds, Makers, at_moment, reader_before, leg_at, World, at, Change, IsTold, IsFed, IsDrawn, GoesUp, RaisesAlone, GoesDown, OpensIn, OpensOut, OpensSame, Gives, Takes, Closes, RecyclesIn, RecyclesOut, MovesTo, Draws, Reports, changed, at_place, in_place, made_by, out_place, told_to}
use Rattle.law_node_history.proofs.Lemmas.{Runs, draw_meets, put_elsewhere, put_here, tell_meets, up_meets}

from_runs : {S : Type 0} (rules : Rules S) (p q : Place S) (es made : List moving.Event) (now : ℕ)
    → Runs rules p q es → q ≡ Gone now → at_place p es made ≡ []
from_runs rules Absent q es made now run gone =
    absurd (let bad = sym run ∙ gone in cc)
from_runs rules (Here node count) q es made now run gone =
    absurd (let bad = sym run.1 ∙ gone in cc)
from_runs rules (Gone then_now) q es made now run gone = refl

none : {S : Type 0} (p : Place S) → at_place p [] [] ≡ []
none Absent = refl
none (Here node count) = refl
none (Gone now) = refl

-- a proxy that is made is not let go
made_none : {S : Type 0} (list : List (Place S)) (k n : ℕ) (node : Shell S) (now : ℕ)
    (made : List moving.Event)
    → get_or (put_at Absent list k (Here node 0)) n Absent ≡ Gone now
    → at_place (get_or list n Absent) [] made ≡ []
made_none {S} list k n node now made gone = by (get_or list n Absent) refl
  where
    absent : get_or list n Absent ≡ Absent → (n ≡ k) ⊎ (n ≡ k → ⊥) → ⊥
    absent is (inl same) =
        let bad = sym (put_here Absent list k (Here node 0))
        ∙ ap (λ (j : ℕ). get_or (put_at Absent list k (Here node 0)) j Absent) (sym same)
        ∙ gone in cc
    absent is (inr other) =
        let bad = sym is ∙ sym (put_elsewhere Absent list k n (Here node 0) other) ∙ gone in cc

    by : (p : Place S) → get_or list n Absent ≡ p → at_place p [] made ≡ []
    by Absent is = absurd (absent is (cases_eq n k))
    by (Here there count) is = refl
    by (Gone then_now) is = refl

module _ {K C S I O : Type 0} (r : Rulebook C S I O) (m : Makers K I O) (d : Deeds C S)
    (w : World K C S I O) (n now : ℕ) where
  pub in_quietly : (c : Change) → in_place (changed r m d w c).company n ≡ Gone now
      → at_place (in_place w.company n) (told_to w c (who.In n)) (made_by w c (who.In n))
      ≡ []
  in_quietly (IsTold node event) gone =
      from_runs r.in_proxy (in_place w.company n)
      (in_place (changed r m d w (IsTold node event)).company n)
      (told_to w (IsTold node event) (who.In n)) [] now
      ((tell_meets r w.company node event).ins n) gone
  in_quietly (IsFed leg dir count) gone =
      from_runs r.in_proxy (in_place w.company n)
      (in_place (changed r m d w (IsFed leg dir count)).company n)
      (told_to w (IsFed leg dir count) (who.In n)) [] now
      ((tell_meets r w.company (at w leg (receiver dir))
      (Comes leg (legs.take_out leg dir count w.legs).1)).ins n) gone
  in_quietly (IsDrawn leg dir count) gone =
      from_runs r.in_proxy (in_place w.company n)
      (in_place (changed r m d w (IsDrawn leg dir count)).company n)
      (told_to w (IsDrawn leg dir count) (who.In n)) [] now
      ((draw_meets r w.company (at w leg (sender dir)) leg count).ins n) gone
  in_quietly (GoesUp node leg end cookie) gone =
      from_runs r.in_proxy (in_place w.company n)
      (in_place (changed r m d w (GoesUp node leg end cookie)).company n)
      (told_to w (GoesUp node leg end cookie) (who.In n)) [] now
      ((up_meets r w.company node leg cookie).ins n) gone
  in_quietly (RaisesAlone node leg end cookie) gone =
      from_runs r.in_proxy (in_place w.company n)
      (in_place (changed r m d w (RaisesAlone node leg end cookie)).company n)
      (told_to w (RaisesAlone node leg end cookie) (who.In n)) [] now
      ((up_meets r w.company node leg cookie).ins n) gone
  in_quietly (GoesDown node leg end) gone = none (in_place w.company n)
  in_quietly (OpensIn k cookie) gone =
      made_none w.company.ins k n (at_moment r.in_proxy (m.in_proxy w.cast k) w.now) now
      (made_by w (OpensIn k cookie) (who.In n)) gone
  in_quietly (OpensOut k cookie) gone = none (in_place w.company n)
  in_quietly (OpensSame k cookie) gone =
      from_runs r.in_proxy (in_place w.company n)
      (in_place (changed r m d w (OpensSame k cookie)).company n)
      (told_to w (OpensSame k cookie) (who.In n)) [] now
      ((up_meets r (company.up r w.company who.Client (leg_at ClientIn k) cookie)
      (who.In (reader_before w k)) (leg_at ClientIn k) cookie).ins n) gone
  in_quietly (Gives end pdu) gone = none (in_place w.company n)
  in_quietly (Takes end) gone = none (in_place w.company n)
  in_quietly (Closes end) gone = none (in_place w.company n)
  in_quietly RecyclesIn gone = none (in_place w.company n)
  in_quietly RecyclesOut gone = none (in_place w.company n)
  in_quietly (MovesTo moment) gone = none (in_place w.company n)
  in_quietly (Draws cookies) gone = none (in_place w.company n)
  in_quietly Reports gone = none (in_place w.company n)

  pub out_quietly : (c : Change) → out_place (changed r m d w c).company n ≡ Gone now
      → at_place (out_place w.company n) (told_to w c (who.Out n)) (made_by w c (who.Out n))
      ≡ []
  out_quietly (IsTold node event) gone =
      from_runs r.out_proxy (out_place w.company n)
      (out_place (changed r m d w (IsTold node event)).company n)
      (told_to w (IsTold node event) (who.Out n)) [] now
      ((tell_meets r w.company node event).outs n) gone
  out_quietly (IsFed leg dir count) gone =
      from_runs r.out_proxy (out_place w.company n)
      (out_place (changed r m d w (IsFed leg dir count)).company n)
      (told_to w (IsFed leg dir count) (who.Out n)) [] now
      ((tell_meets r w.company (at w leg (receiver dir))
      (Comes leg (legs.take_out leg dir count w.legs).1)).outs n) gone
  out_quietly (IsDrawn leg dir count) gone =
      from_runs r.out_proxy (out_place w.company n)
      (out_place (changed r m d w (IsDrawn leg dir count)).company n)
      (told_to w (IsDrawn leg dir count) (who.Out n)) [] now
      ((draw_meets r w.company (at w leg (sender dir)) leg count).outs n) gone
  out_quietly (GoesUp node leg end cookie) gone =
      from_runs r.out_proxy (out_place w.company n)
      (out_place (changed r m d w (GoesUp node leg end cookie)).company n)
      (told_to w (GoesUp node leg end cookie) (who.Out n)) [] now
      ((up_meets r w.company node leg cookie).outs n) gone
  out_quietly (RaisesAlone node leg end cookie) gone =
      from_runs r.out_proxy (out_place w.company n)
      (out_place (changed r m d w (RaisesAlone node leg end cookie)).company n)
      (told_to w (RaisesAlone node leg end cookie) (who.Out n)) [] now
      ((up_meets r w.company node leg cookie).outs n) gone
  out_quietly (GoesDown node leg end) gone = none (out_place w.company n)
  out_quietly (OpensOut k cookie) gone =
      made_none w.company.outs k n (at_moment r.out_proxy (m.out_proxy w.cast k) w.now) now
      (made_by w (OpensOut k cookie) (who.Out n)) gone
  out_quietly (OpensIn k cookie) gone = none (out_place w.company n)
  out_quietly (OpensSame k cookie) gone = none (out_place w.company n)
  out_quietly (Gives end pdu) gone = none (out_place w.company n)
  out_quietly (Takes end) gone = none (out_place w.company n)
  out_quietly (Closes end) gone = none (out_place w.company n)
  out_quietly RecyclesIn gone = none (out_place w.company n)
  out_quietly RecyclesOut gone = none (out_place w.company n)
  out_quietly (MovesTo moment) gone = none (out_place w.company n)
  out_quietly (Draws cookies) gone = none (out_place w.company n)
  out_quietly Reports gone = none (out_place w.company n)
