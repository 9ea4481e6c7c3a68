-- changes that lines make have each channel read, and each leg of an in proxy with one that was
-- made
use Rattle.law_order.proofs.Vocabulary.{◌≡◌, ℕ, Bool, true, false, not, ◌&&◌, ◌||◌, IsTrue, refl, sym, ap, ◌∙◌, subst, ⊎_elim, arith, ◌≢◌, ◌<◌, true≢false, and_parts, or_cases, eqb-true, lt-ltb}
use Rattle.rh_wires.specs.Legs as legs
use Rattle.law_moves.proofs.Vocabulary.{Side, Cookie, Leg, InServer, same_leg}
use Rattle.law_moves.specs.Moving as moving
use Rattle.law_node_history.proofs.Vocabulary.{Who, Client, Server, In, ask, reader_of, sender, receiver, Event, Comes, Ends, Breaks, Passes, Absent, Company, Rulebook, is_absent, Deeds, is_same, Makers, reader_before, leg_at, World, at, Change, is_led, of_line, IsTold, IsFed, IsDrawn, GoesUp, RaisesAlone, OpensIn, OpensOut, OpensSame, MayChange, changed, ByLines, History, heard, told_to, noted, all_noted, nothing, IsNew, came_up, events_of, IsTraced, LegsComeUpOnce}
use Rattle.law_node_history.proofs.Lemmas.{or_right, here_itself, same_who, is_comes, up_of, up_more, up_there, none_up, silent_up, may_come, asked, traced_first, change_is_traced, cases_leg}
use Rattle.law_node_traces.proofs.Traced.Along.{kept_by}
use Rattle.law_node_traces.proofs.Traced.Openings.{ci, made_stays, settled}
use Rattle.law_node_traces.proofs.Traced.Readers.{change_read, new_read}
use Rattle.law_node_traces.proofs.LetGo.Standing.{reader_here}
use Rattle.law_node_traces.proofs.Vocabulary.{is_made, AreRead, AreLed, AreJoined, ComeUpByLines}

abbrev is_leg : ℕ → Leg
is_leg n = leg_at InServer n

module _ {K C S I O : Type 0} (r : Rulebook C S I O) (m : Makers K I O) (d : Deeds C S)
    (first : Company C S I O) (w : World K C S I O) (h : History)
    (t : IsTraced r m d first w h) (once : LegsComeUpOnce r m d first w.cast)
    (a : AreRead w.readers (is_made w.company)) where
  abbrev after : Change → World K C S I O
  after change = changed r m d w change

  -- ---- a leg that comes up now

  told_quiet : (event : Event) → is_comes (heard event) ≡ false
  told_quiet (Comes leg piece) = refl
  told_quiet (Ends leg) = refl
  told_quiet (Breaks leg) = refl
  told_quiet (Passes now) = refl

  abbrev raises : Change → Bool
  raises (GoesUp node leg end cookie) = true
  raises (RaisesAlone node leg end cookie) = true
  raises (OpensIn n cookie) = true
  raises (OpensOut n cookie) = true
  raises (OpensSame n cookie) = true
  raises change = false

  none_now : (change : Change) → raises change ≡ false → (node : Who) (leg : Leg)
      → up_of r w.company (told_to w change) node leg ≡ false
  none_now (IsTold node event) is = none_up r w.company node (heard event) (told_quiet event)
  none_now (IsFed leg dir count) is =
      none_up r w.company (at w leg (receiver dir))
      (moving.Hears leg (legs.take_out leg dir count w.legs).1) refl
  none_now (IsDrawn leg dir count) is =
      none_up r w.company (at w leg (sender dir)) (moving.Draws leg count) refl
  none_now (GoesUp node leg end cookie) is = absurd (true≢false is)
  none_now (RaisesAlone node leg end cookie) is = absurd (true≢false is)
  none_now (OpensIn n cookie) is = absurd (true≢false is)
  none_now (OpensOut n cookie) is = absurd (true≢false is)
  none_now (OpensSame n cookie) is = absurd (true≢false is)
  none_now change is = silent_up r w.company

  -- the node at which a leg comes up may have it up there
  goes_led : (node : Who) (leg : Leg) (end : Side) (cookie : Cookie)
      → MayChange r w (GoesUp node leg end cookie) → (other : Who) (beside : Leg)
      → up_of r w.company (told_to w (GoesUp node leg end cookie)) other beside ≡ true
      → IsTrue (is_led w other beside)
  goes_led node leg end cookie may other beside up =
      let both = and_parts (same_leg leg beside) (is_same node other)
      (sym (up_there r w.company node leg cookie
      (may_come r m d first w h t.runs t.accepted once node leg may.0) other beside) ∙ up) in
      ⊎_elim (λ same. subst (λ x. IsTrue (is_led w other x)) same
      (subst (λ x. IsTrue (is_led w x leg)) (same_who node other both.1) may.2))
      (λ apart. absurd (true≢false (sym both.0 ∙ apart))) (cases_leg leg beside)

  -- where it may come up for the client alone its proxy was made
  led_made : (n : ℕ) → 0 < n → IsTrue (is_led w Client (ci n)) → is_made w.company n ≡ true
  led_made n above led =
      ap (λ b. not b) (sym (asked Absent is_absent w.company.ins n))
      ∙ ap (λ b. not (b && ask is_absent true w.company.ins n)) (sym (lt-ltb 0 n above)) ∙ led

  -- and so where it may for the server
  joined_made : (n : ℕ) → IsTrue (is_led w Server (is_leg n)) → is_made w.company n ≡ true
  joined_made n led = ap (λ b. not b) (sym (asked Absent is_absent w.company.ins n)) ∙ led

  same_number : (k n : ℕ) → (same_leg (ci k) (ci n) || false) ≡ true → k ≡ n
  same_number k n e =
      ⊎_elim (eqb-true k n) (λ f. absurd (true≢false (sym f)))
      (or_cases (same_leg (ci k) (ci n)) false e)

  -- ---- at the client

  same_read : (k : ℕ) (cookie : Cookie) → MayChange r w (OpensSame k cookie)
      → reader_of (after (OpensSame k cookie)).readers k ≢ 0
  same_read k cookie may none =
      let change = OpensSame k cookie in
      let b = reader_before w k in
      let up = may_come r m d first w h t.runs t.accepted once (In b) (ci k) may.1 in
      true≢false
      (sym (up_more r m d first w h t.runs change (In b) (ci k)
      ∙ or_right (came_up (ci k) (h.ins b)) (up_of r w.company (told_to w change) (In b) (ci k))
      (up_there r w.company (In b) (ci k) cookie up (In b) (ci k) ∙ here_itself (In b) (ci k)))
      ∙ ap (λ j. came_up (ci k) ((noted w h change).ins j)) (sym (reader_here w.readers k b) ∙ none)
      ∙ (change_is_traced r m d first w h t once change may).carried.none (ci k))

  now_led : (change : Change) → MayChange r w change → of_line change ≡ true → (n : ℕ) → 0 < n
      → up_of r w.company (told_to w change) Client (ci n) ≡ true
      → reader_of (after change).readers n ≢ 0
  now_led (GoesUp node leg end cookie) may line n above up none =
      let own = a.own n (led_made n above (goes_led node leg end cookie may Client (ci n) up)) in
      absurd (omega (arith, above, own, none))
  now_led (RaisesAlone node leg end cookie) may line n above up none =
      absurd (true≢false (sym line))
  now_led (OpensIn k cookie) may line n above up none =
      let same = same_number k n up in
      let here = reader_here w.readers k k in
      let zero : k ≡ 0 =
      sym here ∙ ap (reader_of (after (OpensIn k cookie)).readers) same ∙ none in
      absurd (omega (arith, above, same, zero))
  now_led (OpensOut k cookie) may line n above up none = absurd (true≢false (sym up))
  now_led (OpensSame k cookie) may line n above up none =
      same_read k cookie may
      (ap (reader_of (after (OpensSame k cookie)).readers) (same_number k n up) ∙ none)
  now_led change may line n above up none =
      absurd (true≢false (sym up ∙ none_now change refl Client (ci n)))

  pub change_led : AreLed w.readers h → (change : Change) → MayChange r w change
      → of_line change ≡ true → AreLed (after change).readers (noted w h change)
  change_led l change may line = λ n above up none.
      ⊎_elim
      (λ was. ⊎_elim (λ same. l n above was (sym same ∙ none)) (λ unread. l n above was unread)
      (settled r m d first w h t once a change may n))
      (λ now. now_led change may line n above now none)
      (or_cases (came_up (ci n) (events_of h Client))
      (up_of r w.company (told_to w change) Client (ci n))
      (sym (up_more r m d first w h t.runs change Client (ci n)) ∙ up))

  -- ---- at the server

  now_joined : (change : Change) → MayChange r w change → of_line change ≡ true → (n : ℕ)
      → up_of r w.company (told_to w change) Server (is_leg n) ≡ true
      → is_made w.company n ≡ true
  now_joined (GoesUp node leg end cookie) may line n up =
      joined_made n (goes_led node leg end cookie may Server (is_leg n) up)
  now_joined (RaisesAlone node leg end cookie) may line n up = absurd (true≢false (sym line))
  now_joined (OpensIn k cookie) may line n up = absurd (true≢false (sym up))
  now_joined (OpensOut k cookie) may line n up = absurd (true≢false (sym up))
  now_joined (OpensSame k cookie) may line n up = absurd (true≢false (sym up))
  now_joined change may line n up =
      absurd (true≢false (sym up ∙ none_now change refl Server (is_leg n)))

  pub change_joined : AreJoined (is_made w.company) h → (change : Change) → MayChange r w change
      → of_line change ≡ true → AreJoined (is_made (after change).company) (noted w h change)
  change_joined j change may line = λ n up.
      made_stays r m d first w h t once a change may n (⊎_elim (j n) (now_joined change may line n)
      (or_cases (came_up (is_leg n) (events_of h Server))
      (up_of r w.company (told_to w change) Server (is_leg n))
      (sym (up_more r m d first w h t.runs change Server (is_leg n)) ∙ up)))

-- ---- by the history

module _ {K C S I O : Type 0} (r : Rulebook C S I O) (m : Makers K I O) (d : Deeds C S) where
  -- what changes of lines keep
  record AreByLines (w : World K C S I O) (h : History) : Type 0 where
    read : AreRead w.readers (is_made w.company)
    led : AreLed w.readers h
    joined : AreJoined (is_made w.company) h

  change_by_lines : (first : Company C S I O) (w : World K C S I O) (h : History)
      → IsTraced r m d first w h → LegsComeUpOnce r m d first w.cast → AreByLines w h
      → (change : Change) → MayChange r w change → of_line change ≡ true
      → AreByLines (changed r m d w change) (noted w h change)
  change_by_lines first w h t once k change may line = record {
    read = change_read r m d first w h t once k.read change may;
    led = change_led r m d first w h t once k.read k.led change may line;
    joined = change_joined r m d first w h t once k.read k.joined change may line;
  }

  pub reached_by_lines : (w v : World K C S I O) → IsNew w
      → LegsComeUpOnce r m d w.company w.cast → (lines : ByLines r m d w v)
      → ComeUpByLines v (all_noted r m d w nothing lines.leads.changes)
  reached_by_lines w v new once lines =
      let kept = kept_by r m d w.company of_line AreByLines (change_by_lines w.company) w v nothing
      lines once (traced_first r m d w new) (record {
        read = new_read r m d w new;
        led = λ n above up. absurd (true≢false (sym up));
        joined = λ n up. absurd (true≢false (sym up));
      }) in
      record { led = kept.led; joined = kept.joined }
