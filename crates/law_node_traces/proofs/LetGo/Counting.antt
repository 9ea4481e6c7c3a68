-- every change counts the legs of each proxy: no more are up for it than its place says
use Rattle.rh_text.specs.declared.ends.Side.TheVariants as side
use Rattle.law_order.proofs.Vocabulary.{◌≡◌, ◌⊎◌, ℕ, ◌+◌, List, true, false, min, IsTrue, refl, sym, ap, ◌∙◌, subst, inl, inr, ⊎_elim, arith, ◌≢◌, true≢false, false≢true, cases_eq, cases_lt, cases_Bool}
use Rattle.rh_shell.specs.Shells as shell
use Rattle.rh_wires.specs.Legs as legs
use Rattle.rh_wires.specs.Wires as wires
use Rattle.rh_wires.specs.Legs as legs
use Rattle.rh_wires.specs.Wires as wires
use Rattle.rh_company.specs.Company as company
use Rattle.rh_company.specs.Company as company
use Rattle.law_moves.proofs.Vocabulary.{U, Side, Cookie, Leg, LegKind, ClientOut, OutServer, ClientIn, InServer, Shell}
use Rattle.law_node_history.proofs.Vocabulary.{Who, Client, In, Out, Legs, reader_of, with_reader, sender, receiver, Comes, Absent, Company, Rulebook, is_absent, most_legs, one_fewer, Deeds, is_same, Makers, at_moment, reader_before, leg_at, World, at, Change, IsTold, IsFed, IsDrawn, GoesUp, RaisesAlone, GoesDown, OpensIn, OpensOut, OpensSame, Gives, Takes, Closes, MayChange, StandsAt, changed, may_have, History, in_place, out_place, noted, wire_at, end_node, came_up}
use Rattle.law_node_history.proofs.Vocabulary.{events_of, is_of_client, IsTraced, LegsComeUpOnce}
use Rattle.law_node_history.proofs.Lemmas.{who_itself, same_who, may_come, never_up, absent_is, asked, is_up_at, client_end}
use Rattle.law_node_traces.proofs.LetGo.Lists.{AtMost, at_most_still, at_most_more, at_most_less}
use Rattle.law_node_traces.proofs.LetGo.Standing.{IsUp, raised, lowered, put_is_up, taken_is_up, reader_here, read_is_up}
use Rattle.law_node_traces.proofs.LetGo.Counts.{fewer_is, is_proxy, count_at, same_count, made_count, told_count, drawn_count, up_count, up_elsewhere, left_count, left_elsewhere}

-- the legs that are up for a node
abbrev pub AreUp : {K C S I O : Type 0} → World K C S I O → Who → Leg → Type 0
AreUp w x leg = IsUp w.legs w.readers x leg

-- no more are up for a proxy than it counts, while its count doesn't stand still
pub record IsCounted {K C S I O : Type 0} (w : World K C S I O) (x : Who) : Type 0 where
  pub counted : count_at w.company x ≢ most_legs → AtMost (AreUp w x) (count_at w.company x)

abbrev pub AreCounted : {K C S I O : Type 0} → World K C S I O → History → Type 0
AreCounted w h = (x : Who) → is_proxy x ≡ true → IsCounted w x

-- no proxy is the client
not_client : {A : Type 0} (x : Who) → is_proxy x ≡ true → Client ≡ x → A
not_client x is same = absurd (false≢true (ap is_proxy same ∙ is))

module _ {K C S I O : Type 0} (r : Rulebook C S I O) (m : Makers K I O) (d : Deeds C S)
    (first : Company C S I O) (w : World K C S I O) (h : History)
    (t : IsTraced r m d first w h) (once : LegsComeUpOnce r m d first w.cast) where
  abbrev after : Change → World K C S I O
  after change = changed r m d w change

  -- ---- what becomes of the count of one proxy

  module _ (v : World K C S I O) (x : Who) (k : IsCounted w x) where
    -- nothing
    stays : count_at v.company x ≡ count_at w.company x
        → ((leg : Leg) → AreUp v x leg → AreUp w x leg) → IsCounted v x
    stays same was = record {
      counted = λ moves. subst (AtMost (AreUp v x)) (sym same)
          (at_most_still (AreUp w x) (AreUp v x) (count_at w.company x)
          (k.counted (λ end. moves (same ∙ end))) was);
    }

    -- a leg comes up for it
    rises : (new : Leg) → count_at v.company x ≡ min (count_at w.company x + 1) most_legs
        → ((leg : Leg) → AreUp v x leg → (leg ≡ new) ⊎ AreUp w x leg) → IsCounted v x
    rises new one was = record {
      counted = λ moves.
          ⊎_elim
          (λ below.
          let whole : count_at w.company x + 1 ≡ count_at v.company x = omega (arith, one, below) in
          subst (AtMost (AreUp v x)) whole
          (at_most_more (AreUp w x) (AreUp v x) (count_at w.company x)
          (k.counted (λ end. omega (arith, below, end))) new was))
          (λ at_end. absurd (moves (omega (arith, one, at_end))))
          (cases_lt (count_at w.company x + 1) most_legs);
    }

    -- one goes down
    falls : (left : Leg) → AreUp w x left
        → count_at v.company x ≡ one_fewer (count_at w.company x)
        → ((leg : Leg) → AreUp v x leg → AreUp w x leg × (leg ≢ left)) → IsCounted v x
    falls left up one was = record {
      counted = λ moves.
          let moved : count_at w.company x ≢ most_legs =
          λ end. moves (one ∙ ap one_fewer end) in
          subst (AtMost (AreUp v x)) (sym (one ∙ fewer_is (count_at w.company x) moved))
          (at_most_less (AreUp w x) (AreUp v x) (count_at w.company x) (k.counted moved) left up
          was);
    }

  -- ---- where a leg comes up

  stands_there : (node : Who) (leg : Leg) (end : Side)
      → company.may_up r w.company node leg ≡ true → StandsAt w node leg end
      → end_node w.readers leg end ≡ node
  stands_there node leg end may (inl stands) = stands
  stands_there node leg end may (inr is) =
      ap (end_node w.readers leg) is.1
      ∙ client_end w.readers leg (once.own h.client leg t.accepted.client
      (ap (λ (s : Shell C). shell.may_up r.client s leg) (sym t.runs.client)
      ∙ subst (λ (x : Who). company.may_up r w.company x leg ≡ true) is.0 may))
      ∙ sym is.0

  up_once : (node : Who) (leg : Leg) → company.may_up r w.company node leg ≡ true
      → came_up leg (events_of h node) ≡ false
  up_once node leg may = never_up r m d first w h t.runs t.accepted once node leg may

  module _ (node : Who) (leg : Leg) (end : Side) (cookie : Cookie)
      (may : company.may_up r w.company node leg ≡ true)
      (stands : end_node w.readers leg end ≡ node) (x : Who) (is : is_proxy x ≡ true)
      (k : IsCounted w x) where
    abbrev up_now : World K C S I O
    up_now = record w {
      company = company.up r w.company node leg cookie;
      legs = legs.raise leg end w.legs;
    }

    up_here : is_same node x ≡ true → IsCounted up_now x
    up_here same =
        let it : node ≡ x = same_who node x same in
        let may_here : company.may_up r w.company x leg ≡ true =
        subst (λ (y : Who). company.may_up r w.company y leg ≡ true) it may in
        rises up_now x k leg
        (ap (λ (y : Who). count_at (company.up r w.company y leg cookie) x) it
        ∙ up_count r w.company x leg cookie is may_here)
        (λ other up. ⊎_elim (λ new. inl new.0) (λ old. inr old)
        (raised w.legs w.readers x leg end other up))

    up_beside : is_same node x ≡ false → IsCounted up_now x
    up_beside apart =
        stays up_now x k (up_elsewhere r w.company node leg cookie x apart)
        (λ other up. ⊎_elim
        (λ new. absurd (true≢false
        (sym (ap (λ y. is_same y x) (sym stands ∙ new.1) ∙ who_itself x) ∙ apart)))
        (λ old. old) (raised w.legs w.readers x leg end other up))

    up_counted : IsCounted up_now x
    up_counted = ⊎_elim up_here up_beside (cases_Bool (is_same node x))

  change_up : (node : Who) (leg : Leg) (end : Side) (cookie : Cookie)
      → MayChange r w (RaisesAlone node leg end cookie) → (x : Who) → is_proxy x ≡ true
      → IsCounted w x → IsCounted (after (RaisesAlone node leg end cookie)) x
  change_up node leg end cookie may =
      let up = may_come r m d first w h t.runs t.accepted once node leg may.0 in
      up_counted node leg end cookie up (stands_there node leg end up may.1)

  -- ---- where one goes down

  module _ (node : Who) (leg : Leg) (end : Side) (may : MayChange r w (GoesDown node leg end))
      (x : Who) (k : IsCounted w x) where
    abbrev down : Change
    down = GoesDown node leg end

    down_here : is_same node x ≡ true → IsCounted (after down) x
    down_here same =
        let it : node ≡ x = same_who node x same in
        let stands : end_node w.readers leg end ≡ x = may.stands ∙ it in
        falls (after down) x k leg
        (record { end = end; stands = stands; up = sym (is_up_at w.legs leg end) ∙ may.up })
        (ap (λ (y : Who). count_at (company.leave r w.company y) x) it
        ∙ left_count r w.company x)
        (λ other up. let was = lowered w.legs w.readers x leg end other up in
        (was.0, was.1 stands))

    down_beside : is_same node x ≡ false → IsCounted (after down) x
    down_beside apart =
        stays (after down) x k (left_elsewhere r w.company node x apart)
        (λ other up. (lowered w.legs w.readers x leg end other up).0)

    down_counted : IsCounted (after down) x
    down_counted = ⊎_elim down_here down_beside (cases_Bool (is_same node x))

  -- ---- where a leg of the client comes up

  -- an IN leg that the client may have has no reader, and is up for none
  unread : (n : ℕ) → IsTrue (may_have r w Client (leg_at ClientIn n))
      → reader_of w.readers n ≡ 0
  unread n may =
      let leg = leg_at ClientIn n in
      ⊎_elim (λ none. none) (λ some. absurd (true≢false (sym (t.carried.first n some)
      ∙ up_once Client leg (may_come r m d first w h t.runs t.accepted once Client leg may))))
      (cases_eq (reader_of w.readers n) 0)

  low : (n : ℕ) → IsTrue (may_have r w Client (leg_at ClientIn n))
      → wires.is_up side.Server (wire_at w.legs (leg_at ClientIn n)) ≡ false
  low n may =
      let leg = leg_at ClientIn n in
      ⊎_elim (λ up. absurd (true≢false (sym ((t.carried.each leg U).take_up up)
      ∙ ap (λ k. came_up leg (h.ins k)) (unread n may) ∙ t.carried.none leg))) (λ down. down)
      (cases_Bool (wires.is_up side.Server (wire_at w.legs leg)))

  -- a leg of the client comes up for no proxy
  opened_up : (leg : Leg) (readers : List ℕ) → end_node readers leg side.Client ≡ Client
      → (x : Who) → is_proxy x ≡ true → (other : Leg)
      → IsUp (legs.raise leg side.Client w.legs) readers x other → IsUp w.legs readers x other
  opened_up leg readers own x is other up =
      ⊎_elim (λ new. not_client x is (sym own ∙ new.1)) (λ old. old)
      (raised w.legs readers x leg side.Client other up)

  in_made : (n : ℕ) (cookie : Cookie) → MayChange r w (OpensIn n cookie) → (x : Who)
      → count_at (after (OpensIn n cookie)).company x ≡ count_at w.company x
  in_made n cookie may (In k) =
      made_count w.company.ins n (at_moment r.in_proxy (m.in_proxy w.cast n) w.now)
      (absent_is (in_place w.company n) (sym (asked Absent is_absent w.company.ins n) ∙ may.1)) k
  in_made n cookie may x = refl

  opens_in : (n : ℕ) (cookie : Cookie) → MayChange r w (OpensIn n cookie) → (x : Who)
      → is_proxy x ≡ true → IsCounted w x → IsCounted (after (OpensIn n cookie)) x
  opens_in n cookie may x is k =
      stays (after (OpensIn n cookie)) x k (in_made n cookie may x)
      (λ other up. read_is_up w.legs w.readers n n (low n may.2) x other
      (opened_up (leg_at ClientIn n) (with_reader w.readers n n) refl x is other up))

  out_made : (n : ℕ) (cookie : Cookie) → MayChange r w (OpensOut n cookie) → (x : Who)
      → count_at (after (OpensOut n cookie)).company x ≡ count_at w.company x
  out_made n cookie may (Out k) =
      made_count w.company.outs n (at_moment r.out_proxy (m.out_proxy w.cast n) w.now)
      (absent_is (out_place w.company n) (sym (asked Absent is_absent w.company.outs n) ∙ may.1))
      k
  out_made n cookie may x = refl

  opens_out : (n : ℕ) (cookie : Cookie) → MayChange r w (OpensOut n cookie) → (x : Who)
      → is_proxy x ≡ true → IsCounted w x → IsCounted (after (OpensOut n cookie)) x
  opens_out n cookie may x is k =
      stays (after (OpensOut n cookie)) x k (out_made n cookie may x)
      (opened_up (leg_at ClientOut n) w.readers refl x is)

  -- or to the in proxy that reads the channel before, for which it is up as well
  module _ (n : ℕ) (cookie : Cookie) (may : MayChange r w (OpensSame n cookie)) where
    abbrev opens : Change
    opens = OpensSame n cookie

    abbrev in_leg : Leg
    in_leg = leg_at ClientIn n

    abbrev reader : Who
    reader = In (reader_before w n)

    abbrev readers : List ℕ
    readers = with_reader w.readers n (reader_before w n)

    reader_stands : end_node readers in_leg side.Server ≡ reader
    reader_stands = ap In (reader_here w.readers n (reader_before w n))

    same_up : (x : Who) → is_proxy x ≡ true → (other : Leg) → AreUp (after opens) x other
        → ((other ≡ in_leg) × (reader ≡ x)) ⊎ AreUp w x other
    same_up x is other up =
        ⊎_elim (λ new. inl (new.0, sym reader_stands ∙ new.1))
        (λ old. inr (read_is_up w.legs w.readers n (reader_before w n) (low n may.0) x other
        (opened_up in_leg readers refl x is other old)))
        (raised (legs.raise in_leg side.Client w.legs) readers x in_leg side.Server other up)

    -- the client has the leg up first
    abbrev with_client : Company C S I O
    with_client = company.up r w.company Client in_leg cookie

    client_count : (x : Who) → count_at with_client x ≡ count_at w.company x
    client_count = same_count r w.company with_client refl refl

    same_here : IsCounted w reader → IsCounted (after opens) reader
    same_here k =
        let up : company.may_up r w.company reader in_leg ≡ true =
        may_come r m d first w h t.runs t.accepted once reader in_leg may.1 in
        rises (after opens) reader k in_leg
        (up_count r with_client reader in_leg cookie refl up)
        (λ other now. ⊎_elim (λ new. inl new.0) (λ old. inr old) (same_up reader refl other now))

    same_beside : (x : Who) → is_proxy x ≡ true → is_same reader x ≡ false → IsCounted w x
        → IsCounted (after opens) x
    same_beside x is apart k =
        stays (after opens) x k
        (up_elsewhere r with_client reader in_leg cookie x apart ∙ client_count x)
        (λ other up. ⊎_elim
        (λ new. absurd (true≢false
        (sym (ap (λ y. is_same y x) new.1 ∙ who_itself x) ∙ apart)))
        (λ old. old) (same_up x is other up))

    opens_same : (x : Who) → is_proxy x ≡ true → IsCounted w x → IsCounted (after opens) x
    opens_same x is k =
        ⊎_elim
        (λ it. let it_is = same_who reader x it in
        subst (λ y. IsCounted (after opens) y) it_is
        (same_here (subst (λ y. IsCounted w y) (sym it_is) k)))
        (λ apart. same_beside x is apart k) (cases_Bool (is_same reader x))

  -- ---- all changes

  module _ (k : AreCounted w h) where
    -- the proxies and the legs stay
    quiet : (v : World K C S I O) → v.company.ins ≡ w.company.ins
        → v.company.outs ≡ w.company.outs → v.legs ≡ w.legs → v.readers ≡ w.readers
        → (x : Who) → is_proxy x ≡ true → IsCounted v x
    quiet v ins outs legs_stay readers_stay x is =
        stays v x (k x is) (same_count r w.company v.company ins outs x)
        (λ leg up. subst (λ (all : Legs). IsUp all w.readers x leg) legs_stay
        (subst (λ (readers : List ℕ). IsUp v.legs readers x leg) readers_stay up))

    pub change_counted : (change : Change) → MayChange r w change
        → AreCounted (after change) (noted w h change)
    change_counted (IsTold node event) may x is =
        stays (after (IsTold node event)) x (k x is) (told_count r w.company node event x)
        (λ leg up. up)
    change_counted (IsFed leg dir count) may x is =
        stays (after (IsFed leg dir count)) x (k x is)
        (told_count r w.company (at w leg (receiver dir))
        (Comes leg (legs.take_out leg dir count w.legs).1) x)
        (taken_is_up w.legs w.readers x leg (receiver dir) dir count
        (sym (is_up_at w.legs leg (receiver dir)) ∙ may))
    change_counted (IsDrawn leg dir count) may x is =
        let node = at w leg (sender dir) in
        stays (after (IsDrawn leg dir count)) x (k x is) (drawn_count r w.company node leg count x)
        (put_is_up w.legs w.readers x leg (sender dir) dir
        (company.draw r w.company node leg count).1
        (sym (is_up_at w.legs leg (sender dir)) ∙ may))
    change_counted (GoesUp node leg end cookie) may x is =
        change_up node leg end cookie (may.0, may.1) x is (k x is)
    change_counted (RaisesAlone node leg end cookie) may x is =
        change_up node leg end cookie may x is (k x is)
    change_counted (GoesDown node leg end) may x is = down_counted node leg end may x (k x is)
    change_counted (OpensIn n cookie) may x is = opens_in n cookie may x is (k x is)
    change_counted (OpensOut n cookie) may x is = opens_out n cookie may x is (k x is)
    change_counted (OpensSame n cookie) may x is = opens_same n cookie may x is (k x is)
    change_counted (Gives side.Client pdu) may x is =
        quiet (after (Gives side.Client pdu)) refl refl refl refl x is
    change_counted (Gives side.Server pdu) may x is =
        quiet (after (Gives side.Server pdu)) refl refl refl refl x is
    change_counted (Takes side.Client) may x is =
        quiet (after (Takes side.Client)) refl refl refl refl x is
    change_counted (Takes side.Server) may x is =
        quiet (after (Takes side.Server)) refl refl refl refl x is
    change_counted (Closes side.Client) may x is =
        quiet (after (Closes side.Client)) refl refl refl refl x is
    change_counted (Closes side.Server) may x is =
        quiet (after (Closes side.Server)) refl refl refl refl x is
    change_counted change may x is = quiet (after change) refl refl refl refl x is
