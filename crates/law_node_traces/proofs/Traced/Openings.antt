-- each change keeps where channels came up
use Rattle.rh_text.specs.declared.ends.Side.TheVariants as side
use Rattle.law_order.proofs.Vocabulary.{◌≡◌, ◌⊎◌, ℕ, ◌-◌, List, [], ◌∷◌, ◌++◌, length, Bool, true, false, not, if◌then◌else◌, refl, sym, ap, ◌∙◌, subst, inl, inr, ⊎_elim, arith, ◌≢◌, true≢false, cases_eq, eqb-true, eq-eqb, ne_eqb}
use Rattle.rh_wires.specs.Legs as legs
use Rattle.law_moves.proofs.Vocabulary.{Side, Cookie, Leg, ClientIn, Rules, Shell}
use Rattle.law_moves.specs.Moving as moving
use Rattle.law_node_history.proofs.Vocabulary.{Who, Client, In, reader_of, with_reader, sender, receiver, Event, Comes, Ends, Breaks, Passes, Place, Absent, Here, Gone, Company, Rulebook, is_absent, Deeds, is_same, Makers, at_moment, reader_before, leg_at, World, at, Change, IsTold, IsFed, IsDrawn, GoesUp, RaisesAlone, OpensIn, OpensOut, OpensSame, Gives, Takes, Closes, MayChange, changed, History, heard, told_to, in_place, noted, all_noted, nothing, IsNew, IsRun, came_up}
use Rattle.law_node_history.proofs.Vocabulary.{end_node, happened, IsTraced, LegsComeUpOnce}
use Rattle.law_node_history.proofs.Lemmas.{or_left, or_right, here_itself, up_of, up_more, up_there, may_come, put_here, put_elsewhere, changes_are_traced, traced_first, happened_more}
use Rattle.law_node_traces.proofs.Traced.Along.{kept_by}
use Rattle.law_node_traces.proofs.Traced.Readers.{same_made, unread_at, change_read, new_read}
use Rattle.law_node_traces.proofs.LetGo.Standing.{reader_here, reader_elsewhere}
use Rattle.law_node_traces.proofs.Vocabulary.{ByChanges, has_whole_cookie, is_made, AreRead, AreOpened, HasWholeCookie, HaveWholeCookies, ComeUpInOrder}

abbrev pub ci : ℕ → Leg
ci n = leg_at ClientIn n

-- ---- cookies

one_whole : (e : moving.Event) → HasWholeCookie e → (b : Bool)
    → HaveWholeCookies (if b then e ∷ [] else [])
one_whole e whole true = (whole, tt)
one_whole e whole false = tt

whole_append : (before now : List moving.Event) → HaveWholeCookies before
    → HaveWholeCookies now → HaveWholeCookies (before ++ now)
whole_append [] now a b = b
whole_append (e ∷ before) now a b = (a.0, whole_append before now a.1 b)

abbrev in_number : Who → ℕ
in_number (In n) = n
in_number node = 0

module _ {K C S I O : Type 0} (r : Rulebook C S I O) (m : Makers K I O) (d : Deeds C S)
    (first : Company C S I O) (w : World K C S I O) (h : History)
    (t : IsTraced r m d first w h) (once : LegsComeUpOnce r m d first w.cast)
    (a : AreRead w.readers (is_made w.company)) where
  abbrev pub after : Change → World K C S I O
  after change = changed r m d w change

  -- it has its own proxy, or came up at the reader of the channel before it
  abbrev IsOpen : Change → ℕ → Type 0
  IsOpen change n =
      (is_made (after change).company n ≡ true)
      ⊎ ((reader_of (after change).readers n ≡ reader_of (after change).readers (n - 1))
      × (came_up (ci n) ((noted w h change).ins (reader_of (after change).readers n)) ≡ true))

  -- ---- what grows

  pub made_stays : (change : Change) → MayChange r w change → (n : ℕ)
      → is_made w.company n ≡ true → is_made (after change).company n ≡ true
  made_stays (OpensIn k cookie) may n is =
      let place = Here (at_moment r.in_proxy (m.in_proxy w.cast k) w.now) 0 in
      ⊎_elim (λ same. ap (is_made (after (OpensIn k cookie)).company) same
      ∙ ap (λ p. not (is_absent p)) (put_here Absent w.company.ins k place))
      (λ other. ap (λ p. not (is_absent p)) (put_elsewhere Absent w.company.ins k n place other)
      ∙ is) (cases_eq n k)
  made_stays change may n is = same_made r m d first w h t change refl n ∙ is

  up_stays : (change : Change) (leg : Leg) (n : ℕ) → came_up leg (h.ins n) ≡ true
      → came_up leg ((noted w h change).ins n) ≡ true
  up_stays change leg n up =
      up_more r m d first w h t.runs change (In n) leg
      ∙ or_left (came_up leg (h.ins n)) (up_of r w.company (told_to w change) (In n) leg) up

  -- ---- a channel that had a reader

  -- its reader is as it was, or it had none
  abbrev pub IsSettled : Change → ℕ → Type 0
  IsSettled change n =
      (reader_of (after change).readers n ≡ reader_of w.readers n)
      ⊎ (reader_of w.readers n ≡ 0)

  settled_at : (k b n : ℕ) → reader_of w.readers k ≡ 0
      → (reader_of (with_reader w.readers k b) n ≡ reader_of w.readers n)
      ⊎ (reader_of w.readers n ≡ 0)
  settled_at k b n unread =
      ⊎_elim (λ same. inr (ap (reader_of w.readers) same ∙ unread))
      (λ other. inl (reader_elsewhere w.readers k b n other)) (cases_eq n k)

  pub settled : (change : Change) → MayChange r w change → (n : ℕ) → IsSettled change n
  settled (OpensIn k cookie) may n = settled_at k k n (unread_at r m d first w h t once a k may.2)
  settled (OpensSame k cookie) may n =
      settled_at k (reader_before w k) n (unread_at r m d first w h t once a k may.0)
  settled (Gives side.Client pdu) may n = inl refl
  settled (Gives side.Server pdu) may n = inl refl
  settled (Takes side.Client) may n = inl refl
  settled (Takes side.Server) may n = inl refl
  settled (Closes side.Client) may n = inl refl
  settled (Closes side.Server) may n = inl refl
  settled change may n = inl refl

  still_open : AreOpened w.readers (is_made w.company) h → (change : Change)
      → MayChange r w change → (n : ℕ) → reader_of w.readers n ≢ 0 → IsOpen change n
  still_open o change may n was =
      ⊎_elim (λ its. inl (made_stays change may n its))
      (λ before. ⊎_elim
      (λ same. ⊎_elim
      (λ same_before. inr (
        same ∙ before.0 ∙ sym same_before,
        subst (λ k. came_up (ci n) ((noted w h change).ins k) ≡ true) (sym same)
            (up_stays change (ci n) (reader_of w.readers n) before.1),
      ))
      (λ none. absurd (was (before.0 ∙ none)))
      (settled change may (n - 1)))
      (λ none. absurd (was none))
      (settled change may n)) (o n was)

  -- ---- a channel that gets a reader

  made_open : (k : ℕ) (cookie : Cookie) → IsOpen (OpensIn k cookie) k
  made_open k cookie =
      inl (ap (λ p. not (is_absent p)) (put_here Absent w.company.ins k
      (Here (at_moment r.in_proxy (m.in_proxy w.cast k) w.now) 0)))

  same_open : (k : ℕ) (cookie : Cookie) → MayChange r w (OpensSame k cookie)
      → reader_before w k ≢ 0 → IsOpen (OpensSame k cookie) k
  same_open k cookie may some =
      let b = reader_before w k in
      let above : k ≢ 0 =
      (λ zero. some (ap (λ x. if x then 0 else reader_of w.readers (k - 1)) (eq-eqb k 0 zero))) in
      let here = reader_here w.readers k b in
      let is : b ≡ reader_of w.readers (k - 1) =
      ap (λ x. if x then 0 else reader_of w.readers (k - 1)) (ne_eqb k 0 above) in
      let up = may_come r m d first w h t.runs t.accepted once (In b) (ci k) may.1 in
      inr (
        here ∙ is ∙ sym (reader_elsewhere w.readers k b (k - 1)
            (λ e. above (omega (arith, e)))),
        subst (λ j. came_up (ci k) ((noted w h (OpensSame k cookie)).ins j) ≡ true) (sym here)
            (up_more r m d first w h t.runs (OpensSame k cookie) (In b) (ci k)
            ∙ or_right (came_up (ci k) (h.ins b))
            (up_of r w.company (told_to w (OpensSame k cookie)) (In b) (ci k))
            (up_there r w.company (In b) (ci k) cookie up (In b) (ci k)
            ∙ here_itself (In b) (ci k))),
      )

  now_open : (change : Change) → MayChange r w change → (n : ℕ) → reader_of w.readers n ≡ 0
      → reader_of (after change).readers n ≢ 0 → IsOpen change n
  now_open (OpensIn k cookie) may n unread some =
      ⊎_elim (λ same. subst (IsOpen (OpensIn k cookie)) (sym same) (made_open k cookie))
      (λ other. absurd (some (reader_elsewhere w.readers k k n other ∙ unread))) (cases_eq n k)
  now_open (OpensSame k cookie) may n unread some =
      let b = reader_before w k in
      ⊎_elim (λ same. subst (IsOpen (OpensSame k cookie)) (sym same)
      (same_open k cookie may
      (λ none. some (ap (reader_of (with_reader w.readers k b)) same
      ∙ reader_here w.readers k b ∙ none))))
      (λ other. absurd (some (reader_elsewhere w.readers k b n other ∙ unread))) (cases_eq n k)
  now_open (Gives side.Client pdu) may n unread some = absurd (some unread)
  now_open (Gives side.Server pdu) may n unread some = absurd (some unread)
  now_open (Takes side.Client) may n unread some = absurd (some unread)
  now_open (Takes side.Server) may n unread some = absurd (some unread)
  now_open (Closes side.Client) may n unread some = absurd (some unread)
  now_open (Closes side.Server) may n unread some = absurd (some unread)
  now_open change may n unread some = absurd (some unread)

  change_opened : AreOpened w.readers (is_made w.company) h → (change : Change)
      → MayChange r w change
      → AreOpened (after change).readers (is_made (after change).company) (noted w h change)
  change_opened o change may = λ n some.
      ⊎_elim (λ unread. now_open change may n unread some) (still_open o change may n)
      (cases_eq (reader_of w.readers n) 0)

  -- ---- cookies

  told_whole : (event : Event) → HasWholeCookie (heard event)
  told_whole (Comes leg piece) = tt
  told_whole (Ends leg) = tt
  told_whole (Breaks leg) = tt
  told_whole (Passes now) = tt

  whole_now : (change : Change) → has_whole_cookie change ≡ true
      → HaveWholeCookies (told_to w change Client)
  whole_now (IsTold node event) has =
      one_whole (heard event) (told_whole event) (is_same node Client)
  whole_now (IsFed leg dir count) has =
      one_whole (moving.Hears leg (legs.take_out leg dir count w.legs).1) tt
      (is_same (at w leg (receiver dir)) Client)
  whole_now (IsDrawn leg dir count) has =
      one_whole (moving.Draws leg count) tt (is_same (at w leg (sender dir)) Client)
  whole_now (GoesUp node leg end cookie) has =
      one_whole (moving.ComesUp leg cookie) (eqb-true (length cookie.0) 16 has)
      (is_same node Client)
  whole_now (RaisesAlone node leg end cookie) has =
      one_whole (moving.ComesUp leg cookie) (eqb-true (length cookie.0) 16 has)
      (is_same node Client)
  whole_now (OpensIn n cookie) has = (eqb-true (length cookie.0) 16 has, tt)
  whole_now (OpensOut n cookie) has = (eqb-true (length cookie.0) 16 has, tt)
  whole_now (OpensSame n cookie) has = (eqb-true (length cookie.0) 16 has, tt)
  whole_now change has = tt

  change_whole : HaveWholeCookies (happened h.client) → (change : Change)
      → has_whole_cookie change ≡ true → HaveWholeCookies (happened (noted w h change).client)
  change_whole k change has =
      subst HaveWholeCookies (sym (happened_more r.client d.client first.client w.company.client
      h.client (told_to w change Client) change side.Client t.runs.client))
      (whole_append (happened h.client) (told_to w change Client) k (whole_now change has))

-- ---- by the history

module _ {K C S I O : Type 0} (r : Rulebook C S I O) (m : Makers K I O) (d : Deeds C S) where
  -- what changes keep
  record IsInOrder (w : World K C S I O) (h : History) : Type 0 where
    read : AreRead w.readers (is_made w.company)
    opened : AreOpened w.readers (is_made w.company) h
    cookies : HaveWholeCookies (happened h.client)

  change_in_order : (first : Company C S I O) (w : World K C S I O) (h : History)
      → IsTraced r m d first w h → LegsComeUpOnce r m d first w.cast → IsInOrder w h
      → (change : Change) → MayChange r w change → has_whole_cookie change ≡ true
      → IsInOrder (changed r m d w change) (noted w h change)
  change_in_order first w h t once k change may has = record {
    read = change_read r m d first w h t once k.read change may;
    opened = change_opened r m d first w h t once k.read k.opened change may;
    cookies = change_whole r m d first w h t once k.read k.cookies change has;
  }

  -- nothing happened at an in proxy that was not made
  unmade : {T : Type 0} (rules : Rules T) (made : Shell T) (events : List moving.Event)
      (p : Place T) → IsRun rules made events p → not (is_absent p) ≡ false → events ≡ []
  unmade rules made events Absent run is = run
  unmade rules made events (Here node legs) run is = absurd (true≢false is)
  unmade rules made events (Gone now) run is = absurd (true≢false is)

  -- an IN leg came up at its reader alone
  stands_at : (readers : List ℕ) (m n : ℕ) (end : Side)
      → end_node readers (ci n) end ≡ In m → reader_of readers n ≡ m
  stands_at readers m n side.Client e = absurd cc
  stands_at readers m n side.Server e = ap in_number e

  in_order : (first : Company C S I O) (w : World K C S I O) (h : History)
      → IsTraced r m d first w h → IsInOrder w h → ComeUpInOrder w h
  in_order first w h t k = record {
    none = ap (λ (p : Place I). not (is_absent p)) t.zero;
    unmade = λ n is. unmade r.in_proxy (m.in_proxy w.cast n) (h.ins n) (in_place w.company n)
        (t.runs.ins n) is;
    own = k.read.own;
    reads = λ m n up. let at = t.carried.stands (In m) (ci n) up in
        stands_at w.readers m n at.0 at.1;
    opened = k.opened;
    unread = k.read.none;
    cookies = k.cookies;
  }

  pub reached_in_order : (w v : World K C S I O) → IsNew w
      → LegsComeUpOnce r m d w.company w.cast → (by : ByChanges r m d w v)
      → ComeUpInOrder v (all_noted r m d w nothing by.leads.changes)
  reached_in_order w v new once by =
      in_order w.company v (all_noted r m d w nothing by.leads.changes)
      (changes_are_traced r m d w.company w v nothing by.leads once (traced_first r m d w new))
      (kept_by r m d w.company has_whole_cookie IsInOrder (change_in_order w.company) w v nothing by
      once (traced_first r m d w new) (record {
        read = new_read r m d w new;
        opened = λ n some.
            absurd (some (ap (λ (readers : List ℕ). reader_of readers n) new.unread));
        cookies = tt;
      }))
