-- what a node did on a leg, over events behind events
use Rattle.rh_text.specs.declared.ends.Side.TheVariants as side
use Rattle.law_order.proofs.Vocabulary.{◌≡◌, List, [], ◌∷◌, ◌++◌, ◌||◌, map, refl, sym, ap, ◌∙◌, subst, append_assoc, append-nil, list_any-append}
use Rattle.law_moves.proofs.Vocabulary.{Side, Leg, Rules, Acts, Shell, EndEvent, Happens, IsGiven, IsTaken, IsClosed, IsRecycled, after_event, after_events, after_end_event, after_end_events}
use Rattle.law_moves.specs.Moving as moving
use Rattle.law_node_history.proofs.Vocabulary.{Change, Gives, Takes, Closes, RecyclesIn, RecyclesOut, act_at, acts_by, drawn_in, drawn_on, drawn_at_end, end_drawn_on, heard_in, heard_on, is_up_of, came_up, happened, AreAccepted, AreAcceptedAtEnd}

-- ---- events behind events

pub drawn_append : {S : Type 0} (rules : Rules S) (leg : Leg) (s : Shell S)
    (es fs : List moving.Event)
    → drawn_on rules s leg (es ++ fs)
    ≡ drawn_on rules s leg es ++ drawn_on rules (after_events rules s es) leg fs
drawn_append rules leg s [] fs = refl
drawn_append rules leg s (e ∷ es) fs =
    let t = after_event rules s e in
    ap (λ x. drawn_in rules s leg e ++ x) (drawn_append rules leg t es fs)
    ∙ sym (append_assoc (drawn_in rules s leg e) (drawn_on rules t leg es)
    (drawn_on rules (after_events rules t es) leg fs))

pub end_drawn_append : {S : Type 0} (rules : Rules S) (acts : Acts S) (leg : Leg) (s : Shell S)
    (es fs : List EndEvent)
    → end_drawn_on rules acts s leg (es ++ fs)
    ≡ end_drawn_on rules acts s leg es
    ++ end_drawn_on rules acts (after_end_events rules acts s es) leg fs
end_drawn_append rules acts leg s [] fs = refl
end_drawn_append rules acts leg s (e ∷ es) fs =
    let t = after_end_event rules acts s e in
    ap (λ x. drawn_at_end rules acts s leg e ++ x) (end_drawn_append rules acts leg t es fs)
    ∙ sym (append_assoc (drawn_at_end rules acts s leg e) (end_drawn_on rules acts t leg es)
    (end_drawn_on rules acts (after_end_events rules acts t es) leg fs))

pub end_drawn_happens : {S : Type 0} (rules : Rules S) (acts : Acts S) (leg : Leg) (s : Shell S)
    (es : List moving.Event)
    → end_drawn_on rules acts s leg (map Happens es) ≡ drawn_on rules s leg es
end_drawn_happens rules acts leg s [] = refl
end_drawn_happens rules acts leg s (e ∷ es) =
    ap (λ x. drawn_in rules s leg e ++ x)
    (end_drawn_happens rules acts leg (after_event rules s e) es)

pub heard_append : (leg : Leg) (es fs : List moving.Event)
    → heard_on leg (es ++ fs) ≡ heard_on leg es ++ heard_on leg fs
heard_append leg [] fs = refl
heard_append leg (e ∷ es) fs =
    ap (λ x. heard_in leg e ++ x) (heard_append leg es fs)
    ∙ sym (append_assoc (heard_in leg e) (heard_on leg es) (heard_on leg fs))

pub came_append : (leg : Leg) (es fs : List moving.Event)
    → came_up leg (es ++ fs) ≡ (came_up leg es || came_up leg fs)
came_append leg es fs = list_any-append (is_up_of leg) es fs

pub happened_append : (es fs : List EndEvent) → happened (es ++ fs) ≡ happened es ++ happened fs
happened_append [] fs = refl
happened_append (Happens e ∷ es) fs = ap (λ x. e ∷ x) (happened_append es fs)
happened_append (IsGiven pdu ∷ es) fs = happened_append es fs
happened_append (IsTaken ∷ es) fs = happened_append es fs
happened_append (IsClosed ∷ es) fs = happened_append es fs
happened_append (IsRecycled ∷ es) fs = happened_append es fs

happened_map : (es : List moving.Event) → happened (map Happens es) ≡ es
happened_map [] = refl
happened_map (e ∷ es) = ap (λ x. e ∷ x) (happened_map es)

pub accepted_append : {S : Type 0} (rules : Rules S) (s : Shell S) (es fs : List moving.Event)
    → AreAccepted rules s es → AreAccepted rules (after_events rules s es) fs
    → AreAccepted rules s (es ++ fs)
accepted_append rules s [] fs a b = b
accepted_append rules s (e ∷ es) fs a b =
    (a.0, accepted_append rules (after_event rules s e) es fs a.1 b)

pub end_accepted_append : {S : Type 0} (rules : Rules S) (acts : Acts S) (s : Shell S)
    (es fs : List EndEvent) → AreAcceptedAtEnd rules acts s es
    → AreAcceptedAtEnd rules acts (after_end_events rules acts s es) fs
    → AreAcceptedAtEnd rules acts s (es ++ fs)
end_accepted_append rules acts s [] fs a b = b
end_accepted_append rules acts s (e ∷ es) fs a b =
    (a.0, end_accepted_append rules acts (after_end_event rules acts s e) es fs a.1 b)

end_accepted_map : {S : Type 0} (rules : Rules S) (acts : Acts S) (s : Shell S)
    (es : List moving.Event) → AreAccepted rules s es
    → AreAcceptedAtEnd rules acts s (map Happens es)
end_accepted_map rules acts s [] a = tt
end_accepted_map rules acts s (e ∷ es) a =
    (a.0, end_accepted_map rules acts (after_event rules s e) es a.1)

-- ---- the acts of an end are nothing to its legs

module _ {S : Type 0} (rules : Rules S) (acts : Acts S) where
  record IsAct (act : EndEvent) : Type 0 where
    drawn : (s : Shell S) (leg : Leg) → drawn_at_end rules acts s leg act ≡ []
    happened : happened (act ∷ []) ≡ []
    accepted : (s : Shell S) → AreAcceptedAtEnd rules acts s (act ∷ [])

  record AreActs (list : List EndEvent) : Type 0 where
    drawn : (s : Shell S) (leg : Leg) → end_drawn_on rules acts s leg list ≡ []
    none : happened list ≡ []
    accepted : (s : Shell S) → AreAcceptedAtEnd rules acts s list

  no_acts : AreActs []
  no_acts = record { drawn = λ s leg. refl; none = refl; accepted = λ s. tt }

  one_act : (end other : Side) (act : EndEvent) → IsAct act → AreActs (act_at end other act)
  one_act side.Client side.Client act is = record {
    drawn = λ s leg. append-nil (drawn_at_end rules acts s leg act) ∙ is.drawn s leg;
    none = is.happened;
    accepted = is.accepted;
  }
  one_act side.Client side.Server act is = no_acts
  one_act side.Server side.Client act is = no_acts
  one_act side.Server side.Server act is = record {
    drawn = λ s leg. append-nil (drawn_at_end rules acts s leg act) ∙ is.drawn s leg;
    none = is.happened;
    accepted = is.accepted;
  }

  are_acts : (change : Change) (other : Side) → AreActs (acts_by change other)
  are_acts (Gives end pdu) other =
      one_act end other (IsGiven pdu)
      (record { drawn = λ s leg. refl; happened = refl; accepted = λ s. (tt, tt) })
  are_acts (Takes end) other =
      one_act end other IsTaken
      (record { drawn = λ s leg. refl; happened = refl; accepted = λ s. (tt, tt) })
  are_acts (Closes end) other =
      one_act end other IsClosed
      (record { drawn = λ s leg. refl; happened = refl; accepted = λ s. (tt, tt) })
  are_acts RecyclesIn other =
      one_act side.Client other IsRecycled
      (record { drawn = λ s leg. refl; happened = refl; accepted = λ s. (tt, tt) })
  are_acts RecyclesOut other =
      one_act side.Server other IsRecycled
      (record { drawn = λ s leg. refl; happened = refl; accepted = λ s. (tt, tt) })
  are_acts change other = no_acts

  -- ---- an end, by what it was told and its acts

  module _ (first now : Shell S) (h : List EndEvent) (told : List moving.Event) (change : Change)
      (at : Side) (run : now ≡ after_end_events rules acts first h) where
    pub end_drawn_more : (leg : Leg)
        → end_drawn_on rules acts first leg (h ++ (map Happens told ++ acts_by change at))
        ≡ end_drawn_on rules acts first leg h ++ drawn_on rules now leg told
    end_drawn_more leg =
        let more = acts_by change at in
        end_drawn_append rules acts leg first h (map Happens told ++ more)
        ∙ ap (λ x. end_drawn_on rules acts first leg h ++ x)
        (ap (λ (s : Shell S). end_drawn_on rules acts s leg (map Happens told ++ more)) (sym run)
        ∙ end_drawn_append rules acts leg now (map Happens told) more
        ∙ ap (λ x. end_drawn_on rules acts now leg (map Happens told) ++ x)
        ((are_acts change at).drawn (after_end_events rules acts now (map Happens told)) leg)
        ∙ append-nil (end_drawn_on rules acts now leg (map Happens told))
        ∙ end_drawn_happens rules acts leg now told)

    pub happened_more : happened (h ++ (map Happens told ++ acts_by change at))
        ≡ happened h ++ told
    happened_more =
        let more = acts_by change at in
        happened_append h (map Happens told ++ more)
        ∙ ap (λ x. happened h ++ x)
        (happened_append (map Happens told) more
        ∙ ap (λ x. happened (map Happens told) ++ x) (are_acts change at).none
        ∙ append-nil (happened (map Happens told)) ∙ happened_map told)

    pub end_accepted_more : AreAcceptedAtEnd rules acts first h → AreAccepted rules now told
        → AreAcceptedAtEnd rules acts first (h ++ (map Happens told ++ acts_by change at))
    end_accepted_more a b =
        end_accepted_append rules acts first h (map Happens told ++ acts_by change at) a
        (subst (λ (s : Shell S).
        AreAcceptedAtEnd rules acts s (map Happens told ++ acts_by change at)) run
        (end_accepted_append rules acts now (map Happens told) (acts_by change at)
        (end_accepted_map rules acts now told b)
        ((are_acts change at).accepted (after_end_events rules acts now (map Happens told)))))
