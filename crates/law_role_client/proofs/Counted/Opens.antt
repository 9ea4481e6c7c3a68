-- a client opens once, and does little before
use Rattle.rh_window.specs.Receiving as windows
use Rattle.law_order.proofs.Vocabulary.{◌≡◌, ℕ, ◌+◌, Bool, true, false, true≢false, not, List, [], ◌∷◌, ◌++◌, Some, None, inl, inr, arith, refl, sym, ap, ◌∙◌, subst, nat_tests, IfSome, AllByRecursion, Option}
use Rattle.rh_shell.specs.declared.answers.Phase.TheVariants as phase
use Rattle.rh_client.specs.declared.replacement.InStage.TheVariants as in_stage
use Rattle.rh_client.specs.declared.replacement.OutStage.TheVariants as out_stage
use Rattle.rh_client.specs.declared.replacement.Waits.TheVariants as waits
use Rattle.law_moves.proofs.Vocabulary.{Ack, by_test, ClientConfig, Line, first_line, after_take, after_told, ClientOut, ClientIn, Which, Current, Next, Phase, Message, is_of, OnLeg, Passage, EndMove, end_started, all_end_moved, AreAllowedAtEnd, of_kind}
use Rattle.law_moves.proofs.Lemmas.{all_append, kind_more}
use Rattle.law_role_client.proofs.Vocabulary.{Replacement, NoneUnderWay, In, Out, Waits, ClientRole, first, is_open, is_opening, has_out, with_in, with_out, acts, rules, is_conn_c2, is_greeting, total, once_if, InIsAt, OutIsAt, ReplacesIns, ReplacesOuts, AsksWhereWanted, is_to_ask, out_waits, out_wanted, out_asked, opened, IsUnused, OpensOnce}
use Rattle.law_role_client.proofs.Counted.Allowed.{allowed_moves_keep}
use Rattle.law_role_client.proofs.Counted.Standing.{passes, total_stays, total_rises, once_at_most}
use Rattle.law_role_client.proofs.Counted.Views.{View, view, Way, way_of, Free, InIsAsked, InIsAnswered, OutIsAsked, OutIsAnswered, OutIsSwitched, OutIsFinished, is_in_way, is_out_way, out_if, has_in, first_is_in, behind_out, Marks, IsGreeting, IsPast, IsDue, EventsKeep}
use Rattle.law_role_client.proofs.Counted.Puts.{not_both}
use Rattle.law_role_client.proofs.Counted.Moves.{client_keeps}
use Rattle.law_role_client.proofs.Counted.InCounts.{replaces_ins}
use Rattle.law_role_client.proofs.Counted.OutCounts.{replaces_outs}
use Rattle.law_role_client.proofs.Counted.Wishes.{asks_where_wanted, not_yet_ended as live}
use Rattle.law_role_client.proofs.ClientLogs as logs
use Rattle.law_role_client.proofs.Counted.Replacements as keeps

abbrev Greets : Message → Type 0
Greets m = is_greeting m ≡ true

-- a client that is not open yet
record IsFresh (window : ℕ) (w : Way) (x : Waits) (n c : ℕ) (e : Bool) (l : Line)
    (put : List OnLeg) : Type 0 where
  way : w ≡ Free
  waiting : x ≡ waits.Nothing
  writing : n ≡ 1
  current : c ≡ 1
  closed : e ≡ false
  line : l ≡ first_line window
  greets : AllByRecursion Greets (of_kind ClientIn put)

record IsOpened (window : ℕ) (p : Phase) (w : Way) (x : Waits) (n c : ℕ) (e : Bool) (l : Line)
    (came put : List OnLeg) : Type 0 where
  counts : total is_conn_c2 ClientOut came ≡ once_if (not (is_opening p))
  fresh : is_opening p ≡ true → IsFresh window w x n c e l put

abbrev Fresh : ℕ → View → List OnLeg → Type 0
Fresh window v put = IsFresh window v.way v.waiting v.writing v.current v.end_put v.line put

abbrev Opened : ℕ → View → List OnLeg → List OnLeg → Type 0
Opened window v came put =
    IsOpened window v.phase v.way v.waiting v.writing v.current v.end_put v.line came put

not_free : (way : Way) → is_in_way way ≡ true → way ≡ Free → ⊥
not_free way is e = absurd (true≢false (sym is ∙ ap is_in_way e))

not_free_out : (way : Way) → is_out_way way ≡ true → way ≡ Free → ⊥
not_free_out way is e = absurd (true≢false (sym is ∙ ap is_out_way e))

once_past : (b : Bool) → (b ≡ true → ⊥) → once_if (not b) ≡ 1
once_past true so = absurd (so refl)
once_past false so = refl

-- nothing is due on a first line
first_due : (window : ℕ) (ack : Ack) → windows.due (windows.opened window) ≡ Some ack → ⊥
first_due window ack e =
    subst (λ (o : Option Ack). IfSome o (λ (a : Ack). ⊥)) e
    (by_test (λ (o : Option Ack). IfSome o (λ (a : Ack). ⊥))
    (windows.is_due (windows.opened window)) _ None
    (λ due. absurd (grind (arith, nat_tests, due))) (λ due. tt))

not_due : (window : ℕ) (v : View) (which : Which) (ack : Ack) → v.line ≡ first_line window
    → IsDue v which ack → ⊥
not_due window v Current ack e due =
    first_due window ack
    (subst (λ (l : Line). windows.due l.current.window ≡ Some ack) e due)
not_due window v Next ack e has_next =
    absurd (true≢false (sym has_next ∙ ap (λ (l : Line). l.has_next) e))

module _ (window : ℕ) where
  abbrev Holds : View → List OnLeg → List OnLeg → Type 0
  Holds v came put = Opened window v came put

  -- the client is not fresh any more
  past : (v u : View) (came put more : List OnLeg) → u.phase ≡ v.phase
      → (Fresh window v put → ⊥) → Holds v came put → Holds u came more
  past v u came put more e so h =
      let same : is_opening u.phase ≡ is_opening v.phase = ap is_opening e in
      record {
        counts = h.counts ∙ ap (λ (b : Bool). once_if (not b)) (sym same);
        fresh = λ o. absurd (so (h.fresh (sym same ∙ o)));
      }

  -- it is open
  open_past : (v u : View) (came put more : List OnLeg) → u.phase ≡ v.phase
      → is_open v.phase ≡ true → Holds v came put → Holds u came more
  open_past v u came put more e open' h =
      let same : is_opening u.phase ≡ is_opening v.phase = ap is_opening e in
      record {
        counts = h.counts ∙ ap (λ (b : Bool). once_if (not b)) (sym same);
        fresh = λ o. absurd (not_both v.phase open' (sym same ∙ o));
      }

  comes : (v : View) (came put : List OnLeg) (one : OnLeg) → passes is_conn_c2 one.1 ≡ false
      → Holds v came put → Holds v (came ++ one ∷ []) put
  comes v came put one other h = record {
    counts = total_stays is_conn_c2 ClientOut _ came one other h.counts;
    fresh = h.fresh;
  }

  goes : (v : View) (came put : List OnLeg) (one : OnLeg)
      → (is_opening v.phase ≡ true → IsGreeting one) → Holds v came put
      → Holds v came (put ++ one ∷ [])
  goes v came put (leg, m) greets h = record {
    counts = h.counts;
    fresh = λ o.
        let f = h.fresh o in
        record {
          way = f.way;
          waiting = f.waiting;
          writing = f.writing;
          current = f.current;
          closed = f.closed;
          line = f.line;
          greets =
              subst (AllByRecursion Greets) (sym (kind_more ClientIn put (leg, m)))
              (all_append Greets (of_kind ClientIn put) (of_kind ClientIn ((leg, m) ∷ [])) f.greets
              (by_test (AllByRecursion Greets) (is_of ClientIn leg) (m ∷ []) []
              (λ on. (greets o on, tt)) (λ on. tt)));
        };
  }

  fills : (v : View) (line : Line) (came put : List OnLeg) → IsPast v → Holds v came put
      → Holds (record v { line = line }) came put
  fills v line came put (inl open') h =
      open_past v (record v { line = line }) came put put refl open' h
  fills v line came put (inr is) h =
      past v (record v { line = line }) came put put refl (λ f. not_free_out v.way is f.way) h

  takes : (v : View) (came put : List OnLeg) → Holds v came put
      → Holds (record v { line = after_take v.line }) came put
  takes v came put h = record {
    counts = h.counts;
    fresh = λ o.
        let f = h.fresh o in
        record {
          way = f.way;
          waiting = f.waiting;
          writing = f.writing;
          current = f.current;
          closed = f.closed;
          line = ap after_take f.line;
          greets = f.greets;
        };
  }

  opens : (v : View) (came put : List OnLeg) (one : OnLeg) → passes is_conn_c2 one.1 ≡ true
      → is_of ClientOut one.0 ≡ true → is_opening v.phase ≡ true → Holds v came put
      → Holds (record v { phase = phase.Open }) (came ++ one ∷ []) put
  opens v came put one is on o h = record {
    counts =
        total_rises is_conn_c2 ClientOut 0 came one is on
        (h.counts ∙ ap (λ (b : Bool). once_if (not b)) o);
    fresh = λ e. absurd (cc);
  }

  ends : (v : View) (came put : List OnLeg) → v.end_put ≡ true
      → Holds (record v { way = Free }) came put
      → Holds (record v { phase = phase.Ended; way = Free; waiting = waits.Nothing }) came put
  ends v came put is h = record {
    counts =
        h.counts
        ∙ once_past (is_opening v.phase)
        (λ o. absurd (true≢false (sym is ∙ (h.fresh o).closed)));
    fresh = λ e. absurd (cc);
  }

  -- what waits isn't nothing
  waits_in : (v u : View) (came put : List OnLeg) → u.phase ≡ v.phase → has_in v.waiting ≡ true
      → Holds (record v { way = Free }) came put → Holds u came put
  waits_in v u came put e w h =
      past (record v { way = Free }) u came put put e
      (λ f. absurd (true≢false (sym w ∙ ap has_in f.waiting))) h

  waits_out : (v u : View) (came put : List OnLeg) → u.phase ≡ v.phase
      → has_out v.waiting ≡ true → Holds (record v { way = Free }) came put → Holds u came put
  waits_out v u came put e w h =
      past (record v { way = Free }) u came put put e
      (λ f. absurd (true≢false (sym w ∙ ap has_out f.waiting))) h

  once : EventsKeep Holds
  once = record {
    comes = λ v came put one q h. comes v came put one (ap (λ (m : Marks). m.opens) q) h;
    goes = λ v came put one q o h. goes v came put one o h;
    fills = fills;
    takes = takes;
    acks = λ v which ack came put one q is h.
        past v (record v { line = after_told v.line which ack }) came put (put ++ one ∷ []) refl
        (λ f. not_due window v which ack f.line is) h;
    opens = λ v came put one q k o h.
        opens v came put one (ap (λ (m : Marks). m.opens) q) (logs.of_kind ClientOut one.0 k) o h;
    closes = λ v came put o h.
        open_past v (record v { end_put = true }) came put put refl o h;
    ends = ends;
    ups_writing = λ v cookie came put down h. h;
    ups_in = λ v cookie came put h. h;
    ups_current = λ v cookie came put down h. h;
    ups_out = λ v cookie came put h. h;
    begins_writing = λ v came put one q greets of is k at h.
        goes v came put one (λ o. greets) h;
    begins_current = λ v came put one q greets of is k at h.
        goes v came put one (λ o. greets) h;
    wants_in = λ v came put o l h.
        open_past v (record v { waiting = with_in v.waiting }) came put put refl o h;
    wants_out = λ v came put one q k o w l h.
        open_past v (record v { waiting = with_out v.waiting }) (came ++ one ∷ []) put put refl o
        (comes v came put one (ap (λ (m : Marks). m.opens) q) h);
    begins_in = λ v came put w l h.
        waits_in v (record v {
          in_successor = v.writing + 1;
          in_asked = false;
          way = InIsAsked;
          waiting = out_if (has_out v.waiting);
        }) came put refl (first_is_in v.waiting w) h;
    begins_out = λ v came put w l h.
        waits_out v (record v {
          out_successor = v.current + 1;
          out_asked = false;
          way = OutIsAsked;
          waiting = behind_out v.waiting;
        }) came put refl w h;
    drops_in = λ v came put w l h.
        waits_in v (record v { way = Free; waiting = waits.Nothing }) came put refl w h;
    drops_out = λ v came put w l h.
        waits_out v (record v { way = Free; waiting = waits.Nothing }) came put refl w h;
    asks_in = λ v came put one q is k on at h.
        past (record v { in_asked = false }) (record v { in_asked = true }) came put
        (put ++ one ∷ []) refl (λ f. not_free v.way at f.way) h;
    answers_in = λ v came put one q k asked h.
        past (record v { way = InIsAsked }) (record v { way = InIsAnswered }) (came ++ one ∷ [])
        put put refl (λ f. not_free InIsAsked refl f.way)
        (comes (record v { way = InIsAsked }) came put one (ap (λ (m : Marks). m.opens) q) h);
    hands_over = λ v w e came put one q is k on h.
        past (record v { way = InIsAnswered; waiting = out_if w })
        (record v {
          writing = v.in_successor;
          in_successor = 0;
          in_asked = false;
          way = Free;
          waiting = out_if w;
          end_put = e;
        }) came put (put ++ one ∷ []) refl (λ f. not_free InIsAnswered refl f.way) h;
    asks_out = λ v window' came put one q is k on at h.
        past (record v { out_asked = false }) (record v { out_asked = true }) came put
        (put ++ one ∷ []) refl (λ f. not_free_out v.way at f.way) h;
    answers_out = λ v came put one q k on asked h.
        past (record v { way = OutIsAsked }) (record v { way = OutIsAnswered }) (came ++ one ∷ [])
        put put refl (λ f. not_free_out OutIsAsked refl f.way)
        (comes (record v { way = OutIsAsked }) came put one (ap (λ (m : Marks). m.opens) q) h);
    switches = λ v came put one q is k h.
        past (record v { way = OutIsAnswered }) (record v { way = OutIsSwitched }) came put
        (put ++ one ∷ []) refl (λ f. not_free_out OutIsAnswered refl f.way) h;
    finishes = λ v came put one q k on h.
        past (record v { way = OutIsSwitched }) (record v { way = OutIsFinished })
        (came ++ one ∷ []) put put refl (λ f. not_free_out OutIsSwitched refl f.way)
        (comes (record v { way = OutIsSwitched }) came put one (ap (λ (m : Marks). m.opens) q) h);
    succeeds = λ v came put h.
        past (record v { way = OutIsFinished })
        (record v {
          current = v.out_successor;
          out_successor = 0;
          out_asked = false;
          way = Free;
        }) came put put refl (λ f. not_free_out OutIsFinished refl f.way) h;
  }

-- ---- the law

none_is : (r : Replacement) → way_of r ≡ Free → r ≡ NoneUnderWay
none_is NoneUnderWay e = refl
none_is (In in_stage.Asked w) e = absurd (not_free InIsAsked refl e)
none_is (In in_stage.Answered w) e = absurd (not_free InIsAnswered refl e)
none_is (Out out_stage.Asked w) e = absurd (not_free_out OutIsAsked refl e)
none_is (Out out_stage.Answered w) e = absurd (not_free_out OutIsAnswered refl e)
none_is (Out out_stage.Switched w) e = absurd (not_free_out OutIsSwitched refl e)
none_is (Out out_stage.Finished w) e = absurd (not_free_out OutIsFinished refl e)

unused : (window : ℕ) (p : Passage ClientRole) → is_opening p.role.phase ≡ true
    → Fresh window (view p.role) p.put → ReplacesIns p → ReplacesOuts p → AsksWhereWanted p
    → IsUnused p
unused window p opening f ins outs asks =
    let none = none_is p.role.replacement f.way in
    let at = subst (InIsAt p) none ins.at in
    let stands = subst (OutIsAt p) none outs.at in
    let number = ins.writing in
    let writing = f.writing in
    let current = f.current in
    let out_number = stands.current in
    let answered = at.0 in
    let asked = at.1 in
    let out_asked' = stands.asked in
    let out_answered' = stands.answered in
    let out_switched' = stands.switched in
    let wanted : out_wanted p ≡ out_asked p + 0 + 0 =
    subst (λ (r : Replacement).
    out_wanted p ≡ out_asked p + once_if (is_to_ask p.role r) + once_if (out_waits r)) none
    (asks.waits (live p.role.phase opening)) in
    record {
      asked_in = omega (arith, number, writing, asked);
      answered_in = omega (arith, number, writing, answered);
      handed_over = omega (arith, number, writing);
      wanted_out = omega (arith, out_number, current, out_asked', wanted);
      asked_out = omega (arith, out_number, current, out_asked');
      answered_out = omega (arith, out_number, current, out_answered');
      switched_out = omega (arith, out_number, current, out_switched');
      finished_out = omega (arith, out_number, current);
      greets = f.greets;
    }

never_zero : (b : Bool) (n : ℕ) → n ≡ once_if (not b) → n ≡ 0 → b ≡ true
never_zero true n counts e = refl
never_zero false n counts e = absurd (omega (arith, counts, e))

opens_by : (window : ℕ) (p : Passage ClientRole) → Opened window (view p.role) p.came p.put
    → ReplacesIns p → ReplacesOuts p → AsksWhereWanted p → OpensOnce p
opens_by window p h ins outs asks = record {
  once =
      let counts = h.counts in
      let most = once_at_most (not (is_opening p.role.phase)) in
      omega (arith, counts, most);
  before = λ o. h.counts ∙ ap (λ (b : Bool). once_if (not b)) o;
  behind = λ o. h.counts ∙ ap (λ (b : Bool). once_if (not b)) o;
  unused = λ e.
      let opening = never_zero (is_opening p.role.phase) (opened p) h.counts e in
      unused window p opening (h.fresh opening) ins outs asks;
}

pub opens_once : (config : ClientConfig) (moves : List EndMove)
    → AreAllowedAtEnd rules acts (end_started (first config)) moves
    → OpensOnce (all_end_moved rules acts (end_started (first config)) moves).passage
opens_once config moves allowed =
    opens_by config.window (all_end_moved rules acts (end_started (first config)) moves).passage
    (allowed_moves_keep rules acts (keeps.Holds (Holds config.window) (once config.window))
    (client_keeps (Holds config.window) (once config.window))
    (end_started (first config)) moves allowed
    (record {
      counts = refl;
      fresh = λ o. record {
        way = refl;
        waiting = refl;
        writing = refl;
        current = refl;
        closed = refl;
        line = refl;
        greets = tt;
      };
    }))
    (replaces_ins config moves allowed) (replaces_outs config moves allowed)
    (asks_where_wanted config moves allowed)
