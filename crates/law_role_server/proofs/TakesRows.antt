-- what comes on the is legs, and what is taken, keeps the law of an end that takes
use Rattle.rh_window.specs.Receiving as windows
use Rattle.law_order.proofs.Vocabulary.{◌≡◌, ℕ, suc, ◌<◌, ◌≤◌, ◌==◌, ◌&&◌, ◌||◌, cond, List, [], ◌∷◌, ◌++◌, length, Bool, true, false, not, is_ok, Some, None, Ok, Err, arith, refl, sym, ap, ◌∙◌, subst, Option, Result, Piece, Stop, Handover, Log, more, change, PduNow, PduNext, EndNow, EndNext, EndLater, HandoverNow, MovesOn, Taker, Hears, TakesPdu}
use Rattle.rh_line.specs.Lines as lines
use Rattle.rh_line.specs.declared.line_fault.LineFault.TheVariants as line_fault
use Rattle.rh_server.specs.declared.state.Leaving.TheVariants as leaving
use Rattle.rh_server.specs.declared.out_line.Kind.TheVariants as kind
use Rattle.law_moves.proofs.Vocabulary.{by_test, same_number, more_none, change_here, change_other, taker_step, Cookie, Incoming, is_empty, channel_verdict, released, settled as settled_line, moved_on, after_end, after_finish, LineFault, Which, Current, Next, Count, Waiting, with_first, started}
use Rattle.law_role_server.proofs.Vocabulary.{none_counts, InStage, Fresh, Waits, Opened, Shut, InLeg, is_own, waits, Server, is_open, is_waiting, same_cookie, in_leg, with_in, took, unexpected, is_first, channel_at, admitted_by, admitted_on, on_pdu, becomes_current, moved_if, leaves_by, hands_over, on_in_r1_a6, end_a2_on_leg, end_a2_waiting, end_a2_at, on_end_a2}
use Rattle.law_role_server.proofs.InSpots.{Spot, spot, spots, spot_by, at, put_at, leg_spot, set_spot, at_number, IsSorted, sorted_put, in_range, waits_at, fresh_at, IsFirst, at_put}
use Rattle.law_role_server.proofs.TakesKept.{Read, reads, due_a3, ended_at, leaves_at, is_coming, LawAt, LawBy, top, next_number, AreBehind, Took, Ready, differ, falsely, not_both, coming_of, opened_took}
use Rattle.law_role_server.proofs.TakesQuiet.{RowTook, in_there}
use Rattle.law_role_server.proofs.Gives.{both, negated}
use Rattle.law_role_server.specs.Order.{waits_ended}

-- ---- tests

pub truly : (b : Bool) → (b ≡ false → ⊥) → b ≡ true
truly true none = refl
truly false none = absurd (none refl)

pub not_ended : (o : Option Spot) → waits_at o ≡ false → ended_at o ≡ false
not_ended None e = refl
not_ended (Some x) e = by x.stage e
  where
    by : (stage : InStage) → is_waiting stage ≡ false → waits_ended stage ≡ false
    by Fresh e = refl
    by Opened e = refl
    by (Waits window timeout ended) e = absurd (cc)

-- which channel it is
at_current : (a f h b : Bool)
    → (cond (a && not f) (Some Current) (cond (h && b) (Some Next) None)) ≡ Some Current
    → (a ≡ true) × (f ≡ false)
at_current true false h b e = (refl, refl)
at_current true true true true e = absurd (cc)
at_current true true true false e = absurd (cc)
at_current true true false b e = absurd (cc)
at_current false f true true e = absurd (cc)
at_current false f true false e = absurd (cc)
at_current false f false b e = absurd (cc)

pub at_next : (a f h b : Bool)
    → (cond (a && not f) (Some Current) (cond (h && b) (Some Next) None)) ≡ Some Next
    → (h ≡ true) × (b ≡ true)
at_next true false h b e = absurd (cc)
at_next true true true true e = (refl, refl)
at_next true true true false e = absurd (cc)
at_next true true false b e = absurd (cc)
at_next false f true true e = (refl, refl)
at_next false f true false e = absurd (cc)
at_next false f false b e = absurd (cc)

pub on_current : (s : Server) (n : ℕ) → channel_at s n ≡ Some Current
    → (n ≡ s.current.leg) × (s.line.finished ≡ false)
on_current s n e =
    let t = at_current (n == s.current.leg) s.line.finished s.line.has_next (n == s.next.leg) e in
    (same_number n s.current.leg t.0, t.1)

pub on_next : (s : Server) (n : ℕ) → channel_at s n ≡ Some Next
    → (s.line.has_next ≡ true) × (n ≡ s.next.leg)
on_next s n e =
    let t = at_next (n == s.current.leg) s.line.finished s.line.has_next (n == s.next.leg) e in
    (t.0, same_number n s.next.leg t.1)

-- ---- RPC PDUs

not_over : (c : Incoming) (pdu : List ℕ) → channel_verdict c pdu ≡ Ok tt → c.ended ≡ false
not_over c pdu e = by c.ended _ e
  where
    by : (b : Bool) (x : Result (Unit {0}) LineFault)
        → cond b (Err line_fault.Over) x ≡ Ok tt → b ≡ false
    by true x e = absurd (cc)
    by false x e = refl

abbrev with_pdu : Incoming → List ℕ → Incoming
with_pdu c pdu = record c {
  pdus = c.pdus ++ pdu ∷ [];
  window = windows.after_admit c.window (length pdu);
}

abbrev admitted_if : Incoming → List ℕ → Result (Unit {0}) LineFault → Incoming
admitted_if c pdu v = cond (is_ok v) (with_pdu c pdu) c

-- the taker, where the leg of the next channel is this one
abbrev pub taker_at : List (List ℕ) → Read → (ℕ → Bool) → ℕ → Taker
taker_at out d later following = record {
  taken = out;
  shelves = record {
    current = d.leg;
    now = d.now;
    was_ended = d.was_ended;
    following = following;
    next = d.next;
    later = later;
  };
}

abbrev with_now : Server → Incoming → Server
with_now s c = record s { line = record (s.line) { current = c } }

abbrev with_next : Server → Incoming → Server
with_next s c = record s { line = record (s.line) { next = c } }

-- the channel of the leg that follows is the next one
next_law : (out : List (List ℕ)) (d : Read) (later known : ℕ → Bool) (came : Log)
    → d.has_next ≡ true → LawBy out d later known came
    → LawAt out d d.next_leg d.next later known came
next_law out d later known came h l =
    subst (λ b. LawAt out d (next_number b d.leg d.next_leg) d.next later known came) h l

law_next : (out : List (List ℕ)) (d : Read) (later known : ℕ → Bool) (came : Log)
    → d.has_next ≡ true → LawAt out d d.next_leg d.next later known came
    → LawBy out d later known came
law_next out d later known came h l =
    subst (λ b. LawAt out d (next_number b d.leg d.next_leg) d.next later known came) (sym h) l

pdu_now : (out : List (List ℕ)) (up : ℕ → Bool) (came : Log) (s : Server) (pdu : List ℕ)
    → s.line.finished ≡ false → s.line.current.ended ≡ false
    → Took out up came (reads s) s.waiting
    → Took out up (more s.current.leg (Piece pdu ∷ []) came)
    (reads (with_now s (with_pdu s.line.current pdu))) s.waiting
pdu_now out up came s pdu f o l = record {
  later = l.later;
  known = l.known;
  law = taker_step (taker_at out (reads s) l.later
      (next_number s.line.has_next s.current.leg s.next.leg)) l.known came
      (Hears (PduNow pdu)) l.law (f, o);
  behind = l.behind;
  kept = l.kept;
  ended = l.ended;
  all = l.all;
  low = l.low;
  idle = l.idle;
  told = l.told;
}

pdu_next : (out : List (List ℕ)) (up : ℕ → Bool) (came : Log) (s : Server) (pdu : List ℕ)
    → s.line.has_next ≡ true → s.line.next.ended ≡ false → Took out up came (reads s) s.waiting
    → Took out up (more s.next.leg (Piece pdu ∷ []) came)
    (reads (with_next s (with_pdu s.line.next pdu))) s.waiting
pdu_next out up came s pdu h o l = record {
  later = l.later;
  known = l.known;
  law = law_next out (reads (with_next s (with_pdu s.line.next pdu))) l.later l.known
      (more s.next.leg (Piece pdu ∷ []) came) h
      (taker_step (taker_at out (reads s) l.later s.next.leg) l.known came (Hears (PduNext pdu))
      (next_law out (reads s) l.later l.known came h l.law) (refl, o));
  behind = l.behind;
  kept = record {
    waiting = l.kept.waiting;
    between = l.kept.between;
    nothing = λ e. absurd (differ s.line.has_next h e);
    followed = l.kept.followed;
    opening = l.kept.opening;
    reached = l.kept.reached;
    leaving = l.kept.leaving;
  };
  ended = l.ended;
  all = l.all;
  low = l.low;
  idle = l.idle;
  told = l.told;
}

pdu_on : (out : List (List ℕ)) (up : ℕ → Bool) (came : Log) (s : Server) (n : ℕ) (pdu : List ℕ)
    (which : Option Which) → channel_at s n ≡ which → Took out up came (reads s) s.waiting
    → RowTook out up came n (Piece pdu ∷ []) (admitted_on s pdu which)
pdu_on out up came s n pdu None e l = l
pdu_on out up came s n pdu (Some Current) e l =
    by (channel_verdict s.line.current pdu) refl
  where
    by : (v : Result (Unit {0}) LineFault) → channel_verdict s.line.current pdu ≡ v
        → RowTook out up came n (Piece pdu ∷ []) (admitted_by s Current pdu v)
    by (Ok tt) v =
        let at = on_current s n e in
        subst (λ w. Took out up (more n (Piece pdu ∷ []) came)
        (reads (with_now s (admitted_if s.line.current pdu w))) s.waiting) (sym v)
        (subst (λ k. Took out up (more k (Piece pdu ∷ []) came)
        (reads (with_now s (with_pdu s.line.current pdu))) s.waiting) (sym at.0)
        (pdu_now out up came s pdu at.1 (not_over s.line.current pdu v) l))
    by (Err line_fault.Over) v = l
    by (Err (line_fault.Window exceeded)) v = l
pdu_on out up came s n pdu (Some Next) e l =
    by (channel_verdict s.line.next pdu) refl
  where
    by : (v : Result (Unit {0}) LineFault) → channel_verdict s.line.next pdu ≡ v
        → RowTook out up came n (Piece pdu ∷ []) (admitted_by s Next pdu v)
    by (Ok tt) v =
        let at = on_next s n e in
        subst (λ w. Took out up (more n (Piece pdu ∷ []) came)
        (reads (with_next s (admitted_if s.line.next pdu w))) s.waiting) (sym v)
        (subst (λ k. Took out up (more k (Piece pdu ∷ []) came)
        (reads (with_next s (with_pdu s.line.next pdu))) s.waiting) (sym at.1)
        (pdu_next out up came s pdu at.0 (not_over s.line.next pdu v) l))
    by (Err line_fault.Over) v = l
    by (Err (line_fault.Window exceeded)) v = l

pub pdu_took : (out : List (List ℕ)) (up : ℕ → Bool) (came : Log) (s : Server) (n : ℕ)
    (pdu : List ℕ) → Took out up came (reads s) s.waiting
    → RowTook out up came n (Piece pdu ∷ []) (on_pdu s n pdu)
pdu_took out up came s n pdu l =
    by_test (RowTook out up came n (Piece pdu ∷ [])) (is_open s.stage)
    (admitted_on s pdu (channel_at s n)) (unexpected s)
    (λ e. pdu_on out up came s n pdu (channel_at s n) refl l) (λ e. l)

-- ---- END/A2

end_now : (out : List (List ℕ)) (up : ℕ → Bool) (came : Log) (s : Server)
    → s.line.finished ≡ false → s.line.current.ended ≡ false
    → Took out up came (reads s) s.waiting
    → Took out up (more s.current.leg (Stop ∷ []) came)
    (reads (record s { line = after_end s.line Current })) s.waiting
end_now out up came s f o l = record {
  later = l.later;
  known = l.known;
  law = taker_step (taker_at out (reads s) l.later
      (next_number s.line.has_next s.current.leg s.next.leg)) l.known came (Hears EndNow) l.law
      (f, o);
  behind = l.behind;
  kept = l.kept;
  ended = l.ended;
  all = l.all;
  low = l.low;
  idle = l.idle;
  told = l.told;
}

end_next : (out : List (List ℕ)) (up : ℕ → Bool) (came : Log) (s : Server)
    → s.line.has_next ≡ true → s.line.next.ended ≡ false → Took out up came (reads s) s.waiting
    → Took out up (more s.next.leg (Stop ∷ []) came)
    (reads (record s { line = after_end s.line Next })) s.waiting
end_next out up came s h o l = record {
  later = l.later;
  known = l.known;
  law = law_next out (reads (record s { line = after_end s.line Next })) l.later l.known
      (more s.next.leg (Stop ∷ []) came) h
      (taker_step (taker_at out (reads s) l.later s.next.leg) l.known came (Hears EndNext)
      (next_law out (reads s) l.later l.known came h l.law) (refl, o));
  behind = l.behind;
  kept = record {
    waiting = l.kept.waiting;
    between = l.kept.between;
    nothing = λ e. absurd (differ s.line.has_next h e);
    followed = l.kept.followed;
    opening = l.kept.opening;
    reached = l.kept.reached;
    leaving = l.kept.leaving;
  };
  ended = l.ended;
  all = l.all;
  low = l.low;
  idle = l.idle;
  told = l.told;
}

-- the number is behind what follows
behind_next : (h : Bool) (leg next_leg n : ℕ) → h ≡ true → top h leg next_leg < n
    → next_number h leg next_leg < n
behind_next true leg next_leg n e a = a
behind_next false leg next_leg n e a = absurd (cc)

abbrev pub with_legs : Read → List Spot → Read
with_legs d legs = record d { legs = legs }

-- END comes on a leg whose channel waits: y is x with END
end_later : (out : List (List ℕ)) (up : ℕ → Bool) (came : Log) (d : Read) (w : Waiting)
    (x y : Spot) → at y.number d.legs ≡ Some x → is_waiting x.stage ≡ true
    → waits_ended x.stage ≡ false → is_waiting y.stage ≡ true → waits_ended y.stage ≡ true
    → y.stays ≡ x.stays → Took out up came d w
    → Took out up (more y.number (Stop ∷ []) came) (with_legs d (put_at y d.legs)) w
end_later out up came d w x y there waits_x open_x waits_y ended_y same l =
    let old : waits_at (at y.number d.legs) ≡ true = ap waits_at there ∙ waits_x in
    let h = l.kept.waiting y.number old in
    let beyond = behind_next d.has_next d.leg d.next_leg y.number h
    (l.behind.waiting y.number old) in
    record {
      later = change y.number (λ e. true) l.later;
      known = l.known;
      law = taker_step
          (taker_at out d l.later (next_number d.has_next d.leg d.next_leg)) l.known came
          (Hears (EndLater y.number)) l.law
          (beyond, sym (l.ended y.number beyond) ∙ ap ended_at there ∙ open_x);
      behind = record {
        sorted = sorted_put 0 d.newest y d.legs l.behind.sorted;
        present = at_put y x d.legs there (λ n o. top d.has_next d.leg d.next_leg < n
            → n ≤ d.newest → l.known n ≡ true → is_coming o ≡ true)
            (λ a b k. ap (λ b. b || fresh_at (Some y)) waits_y)
            (λ n o a b k. l.behind.present n a b k);
        waiting = at_put y x d.legs there
            (λ n o. waits_at o ≡ true → top d.has_next d.leg d.next_leg < n)
            (λ e. l.behind.waiting y.number old) (λ n o e. l.behind.waiting n e);
        fresh = λ b. at_put y x d.legs there
            (λ n o. fresh_at o ≡ true → top d.has_next d.leg d.next_leg < n)
            (λ e. absurd (differ (fresh_at (Some y)) e (not_both (Some y) waits_y)))
            (λ n o e. l.behind.fresh b n e);
        order = λ n k. at_put y x d.legs there
            (λ n o. waits_at o ≡ true → fresh_at (at k (put_at y d.legs)) ≡ true → n < k)
            (λ a. fresh_old y.number old k)
            (λ n o a. fresh_old n a k) n;
      };
      kept = record {
        waiting = at_put y x d.legs there (λ n o. waits_at o ≡ true → d.has_next ≡ true)
            (λ e. h) (λ n o e. l.kept.waiting n e);
        between = l.kept.between;
        nothing = l.kept.nothing;
        followed = l.kept.followed;
        opening = l.kept.opening;
        reached = l.kept.reached;
        leaving = at_put y x d.legs there (λ n o. leaves_at o ≡ true → n ≤ d.leg)
            (λ e. l.kept.leaving y.number (ap leaves_at there ∙ ap not (sym same) ∙ e))
            (λ n o e. l.kept.leaving n e);
      };
      ended = at_put y x d.legs there
          (λ n o. next_number d.has_next d.leg d.next_leg < n
          → ended_at o ≡ change y.number (λ e. true) l.later n)
          (λ a. ended_y ∙ sym (change_here y.number (λ e. true) l.later))
          (λ n o a. l.ended n a ∙ sym (change_other y.number (λ e. true) l.later n o));
      all = l.all;
      low = l.low;
      idle = l.idle;
      told = l.told;
    }
  where
    fresh_old : (n : ℕ) → waits_at (at n d.legs) ≡ true → (k : ℕ)
        → fresh_at (at k (put_at y d.legs)) ≡ true → n < k
    fresh_old n a = at_put y x d.legs there (λ k p. fresh_at p ≡ true → n < k)
        (λ e. absurd (differ (fresh_at (Some y)) e (not_both (Some y) waits_y)))
        (λ k p b. l.behind.order n k a b)

end_on_leg : (out : List (List ℕ)) (up : ℕ → Bool) (came : Log) (s : Server) (n : ℕ) (leg : InLeg)
    → in_leg n s.ins ≡ Some leg → (stage : InStage) → leg.stage ≡ stage
    → Took out up came (reads s) s.waiting
    → RowTook out up came n (Stop ∷ []) (end_a2_on_leg s leg stage)
end_on_leg out up came s n leg e Fresh q l = l
end_on_leg out up came s n leg e Opened q l = l
end_on_leg out up came s n leg e (Waits window timeout true) q l = l
end_on_leg out up came s n leg e (Waits window timeout false) q l =
    let other : InLeg = record leg { stage = Waits window timeout true } in
    let there = in_there n s.ins leg e in
    let is : leg.number ≡ n = at_number n (spots s.ins) (spot leg)
    (sym (leg_spot n s.ins) ∙ ap spot_by e) in
    subst (λ xs. Took out up (more n (Stop ∷ []) came) (with_legs (reads s) xs) s.waiting)
    (sym (set_spot s.ins (record leg { stage = Waits window timeout true })))
    (subst (λ k. Took out up (more k (Stop ∷ []) came)
    (with_legs (reads s) (put_at (spot (record leg { stage = Waits window timeout true }))
    (spots s.ins))) s.waiting) is
    (end_later out up came (reads s) s.waiting (spot leg)
    (spot (record leg { stage = Waits window timeout true })) there (ap is_waiting q)
    (ap waits_ended q) refl refl refl l))

pub end_took : (out : List (List ℕ)) (up : ℕ → Bool) (came : Log) (s : Server) (n : ℕ)
    (count : Count) → Took out up came (reads s) s.waiting
    → RowTook out up came n (Stop ∷ []) (on_end_a2 s n count)
end_took out up came s n count l =
    by_test (RowTook out up came n (Stop ∷ [])) (is_first count) (unexpected s)
    (end_a2_at s n (channel_at s n)) (λ e. l) (λ e. by (channel_at s n) refl)
  where
    leg_by : (leg : Option InLeg) → in_leg n s.ins ≡ leg
        → RowTook out up came n (Stop ∷ []) (end_a2_waiting s leg)
    leg_by None e = l
    leg_by (Some leg) e = end_on_leg out up came s n leg e leg.stage refl l

    by : (which : Option Which) → channel_at s n ≡ which
        → RowTook out up came n (Stop ∷ []) (end_a2_at s n which)
    by None e = leg_by (in_leg n s.ins) refl
    by (Some Current) e =
        by_test (RowTook out up came n (Stop ∷ [])) s.line.current.ended (unexpected s)
        (took (record s { line = after_end s.line Current })) (λ o. l)
        (λ o. let at = on_current s n e in
        subst (λ k. Took out up (more k (Stop ∷ []) came)
        (reads (record s { line = after_end s.line Current })) s.waiting) (sym at.0)
        (end_now out up came s at.1 o l))
    by (Some Next) e =
        by_test (RowTook out up came n (Stop ∷ [])) s.line.next.ended (unexpected s)
        (took (record s { line = after_end s.line Next })) (λ o. l)
        (λ o. let at = on_next s n e in
        subst (λ k. Took out up (more k (Stop ∷ []) came)
        (reads (record s { line = after_end s.line Next })) s.waiting) (sym at.1)
        (end_next out up came s at.0 o l))

-- ---- the next channel is current

-- the numbers between an open channel and the first that waits have no leg
pub passed_over : (top newest : ℕ) (begun : Bool) (xs : List Spot) (known : ℕ → Bool) (x : Spot)
    (k : ℕ) → AreBehind top newest begun xs known → IsFirst xs x → top < k → k < x.number
    → known k ≡ false
passed_over top newest begun xs known x k b f above below =
    let waits_x : waits_at (at x.number xs) ≡ true = ap waits_at f.there ∙ f.waits in
    let range = in_range 0 newest x.number x xs b.sorted f.there in
    falsely (known k) (λ e. coming_of (waits_at (at k xs)) (fresh_at (at k xs)) (f.below k below)
    (falsely (fresh_at (at k xs)) (λ fresh. let o = b.order x.number k waits_x fresh in
    absurd (omega (arith, o, below))))
    (b.present k above (omega (arith, below, range.1)) e))

abbrev moved : Server → Server
moved s = record s { line = moved_on s.line; current = s.next; edge = Shut }

moves_on : (out : List (List ℕ)) (up : ℕ → Bool) (came : Log) (s : Server)
    → s.line.has_next ≡ true → s.line.finished ≡ true → s.line.current.pdus ≡ []
    → Took out up came (reads s) s.waiting
    → Ready out up came (reads (moved s)) s.waiting
moves_on out up came s h f e l = record {
  later = l.later;
  known = l.known;
  behind = behind;
  alone = refl;
  nothing = refl;
  reached = between.1;
  unfinished = refl;
  begun = truly (reads s).begun (λ o. differ s.line.has_next h (l.kept.opening o).1);
  leaving = λ n o. let low = l.kept.leaving n o in omega (arith, low, between.0);
  ended = λ n a. ended n (omega (arith, a));
  all = l.all;
  low = l.low;
  none = l.told f;
  still = λ none. subst (λ b. LawAt out (reads (moved s)) (suc s.next.leg)
      (record { held = []; ended = b; finished = false }) l.later l.known came)
      (sym (ended (suc s.next.leg) (omega arith))
      ∙ not_ended (at (suc s.next.leg) (spots s.ins)) (none (suc s.next.leg)))
      (on (suc s.next.leg) (omega arith) (λ k a b. absurd (omega (arith, a, b))));
  opened = λ x first.
      let waits_x : waits_at (at x.number (spots s.ins)) ≡ true = ap waits_at first.there
      ∙ first.waits in
      let beyond = behind.waiting x.number waits_x in
      subst (λ b. LawAt out (reads (moved s)) x.number
      (record { held = []; ended = b; finished = false }) l.later l.known came)
      (sym (ended x.number beyond) ∙ ap ended_at first.there)
      (on x.number beyond (λ k a b. (
        passed_over s.next.leg s.newest_in (reads s).begun
            (spots s.ins) l.known x k behind first a b,
        sym (ended k a) ∙ not_ended (at k (spots s.ins)) (first.below k b),
      )));
}
  where
    between : (s.current.leg < s.next.leg) × (s.next.leg ≤ s.newest_in)
    between = l.kept.between h

    behind : AreBehind s.next.leg s.newest_in (reads s).begun (spots s.ins) l.known
    behind = subst (λ b. AreBehind (top b s.current.leg s.next.leg) s.newest_in (reads s).begun
        (spots s.ins) l.known) h l.behind

    ended : (n : ℕ) → s.next.leg < n → ended_at (at n (spots s.ins)) ≡ l.later n
    ended = subst (λ b. (n : ℕ) → next_number b s.current.leg s.next.leg < n
        → ended_at (at n (spots s.ins)) ≡ l.later n) h l.ended

    on : (m : ℕ) → s.next.leg < m
        → ((k : ℕ) → s.next.leg < k → k < m → (l.known k ≡ false) × (l.later k ≡ false))
        → LawAt out (reads (moved s)) m
        (record { held = []; ended = l.later m; finished = false }) l.later l.known came
    on m a over =
        subst (LawAt out (reads (moved s)) m
        (record { held = []; ended = l.later m; finished = false }) l.later l.known)
        (more_none s.current.leg came)
        (taker_step (taker_at out (reads s) l.later s.next.leg) l.known came
        (Hears (MovesOn m)) (next_law out (reads s) l.later l.known came h l.law)
        (f, e, a, over))

nothing_there : (pdus : List (List ℕ)) → is_empty pdus ≡ true → pdus ≡ []
nothing_there [] e = refl
nothing_there (x ∷ xs) e = absurd (cc)

pub settles : (out : List (List ℕ)) (up : ℕ → Bool) (came : Log) (s : Server)
    → s.line.has_next ≡ true → Took out up came (reads s) s.waiting
    → Took out up came (reads (moved_if true (record s { line = settled_line s.line })))
    (moved_if true (record s { line = settled_line s.line })).waiting
settles out up came s h l =
    by_test (λ line. Took out up came (reads (moved_if true (record s { line = line })))
    (moved_if true (record s { line = line })).waiting)
    (s.line.finished && is_empty s.line.current.pdus) (moved_on s.line) s.line
    (λ e. let t = both s.line.finished (is_empty s.line.current.pdus) e in
    opened_took out up came (moved s) (moves_on out up came s h t.0
    (nothing_there s.line.current.pdus t.1) l))
    (λ e. by_test (λ t. Took out up came (reads t) t.waiting) (not s.line.has_next)
    (becomes_current s) s (λ o. absurd (differ s.line.has_next h (negated s.line.has_next o)))
    (λ o. l))

-- ---- IN_R1/A6

abbrev finished_line : Server → Server
finished_line s = record s { line = record (s.line) { finished = true } }

-- the mark came on the current leg, which is to be left
a6_kept : (out : List (List ℕ)) (up : ℕ → Bool) (came : Log) (d : Read) (w : Waiting)
    (xs : List Spot) → d.now.finished ≡ false → d.has_next ≡ true → due_a3 w ≡ 0
    → IsSorted 0 d.newest xs
    → ((n : ℕ) → waits_at (at n xs) ≡ waits_at (at n d.legs))
    → ((n : ℕ) → fresh_at (at n xs) ≡ fresh_at (at n d.legs))
    → ((n : ℕ) → ended_at (at n xs) ≡ ended_at (at n d.legs))
    → ((n : ℕ) → leaves_at (at n xs) ≡ true → n ≤ d.leg)
    → Took out up came d w
    → Took out up (more d.leg (Handover ∷ []) came) (record d {
      now = record (d.now) { finished = true };
      legs = xs;
    }) w
a6_kept out up came d w xs f h none sorted ws fs es low l = record {
  later = l.later;
  known = l.known;
  law = taker_step (taker_at out d l.later (next_number d.has_next d.leg d.next_leg)) l.known came
      (Hears HandoverNow) l.law f;
  behind = record {
    sorted = sorted;
    present = λ n a b k. coming (at n xs) (at n d.legs) (ws n) (fs n)
        (l.behind.present n a b k);
    waiting = λ n e. l.behind.waiting n (sym (ws n) ∙ e);
    fresh = λ b n e. l.behind.fresh b n (sym (fs n) ∙ e);
    order = λ n k a b. l.behind.order n k (sym (ws n) ∙ a) (sym (fs k) ∙ b);
  };
  kept = record {
    waiting = λ n e. h;
    between = l.kept.between;
    nothing = l.kept.nothing;
    followed = λ e. h;
    opening = l.kept.opening;
    reached = l.kept.reached;
    leaving = low;
  };
  ended = λ n a. es n ∙ l.ended n a;
  all = l.all;
  low = l.low;
  idle = λ e. none;
  told = λ e. none;
}
  where
    coming : (o p : Option Spot) → waits_at o ≡ waits_at p → fresh_at o ≡ fresh_at p
        → is_coming p ≡ true → is_coming o ≡ true
    coming o p a b e =
        ap (λ c. c || fresh_at o) a ∙ ap (λ c. waits_at p || c) b ∙ e

a6_took : (out : List (List ℕ)) (up : ℕ → Bool) (came : Log) (s : Server)
    → s.line.finished ≡ false → s.line.has_next ≡ true → due_a3 s.waiting ≡ 0
    → (leg : Option InLeg) → in_leg s.current.leg s.ins ≡ leg
    → Took out up came (reads s) s.waiting
    → Took out up (more s.current.leg (Handover ∷ []) came)
    (reads (finished_line (leaves_by s leg))) (leaves_by s leg).waiting
a6_took out up came s f h none None e l =
    a6_kept out up came (reads s) s.waiting (spots s.ins) f h none l.behind.sorted (λ n. refl)
    (λ n. refl) (λ n. refl) l.kept.leaving l
a6_took out up came s f h none (Some leg) e l =
    let there = in_there s.current.leg s.ins leg e in
    let is : leg.number ≡ s.current.leg = at_number s.current.leg (spots s.ins) (spot leg)
    (sym (leg_spot s.current.leg s.ins) ∙ ap spot_by e) in
    let y : Spot = record { number = leg.number; stage = leg.stage; stays = false } in
    subst (λ xs. Took out up (more s.current.leg (Handover ∷ []) came)
    (with_legs (reads (finished_line s)) xs) s.waiting)
    (sym (set_spot s.ins (record leg { leaving = leaving.InR1B1 })))
    (a6_kept out up came (reads s) s.waiting
    (put_at (record { number = leg.number; stage = leg.stage; stays = false }) (spots s.ins))
    f h none
    (sorted_put 0 s.newest_in
    (record { number = leg.number; stage = leg.stage; stays = false }) (spots s.ins)
    l.behind.sorted)
    (at_put y (spot leg) (spots s.ins) there
    (λ n o. waits_at o ≡ waits_at (at n (spots s.ins)))
    (sym (ap waits_at there)) (λ n o. refl))
    (at_put y (spot leg) (spots s.ins) there
    (λ n o. fresh_at o ≡ fresh_at (at n (spots s.ins)))
    (sym (ap fresh_at there)) (λ n o. refl))
    (at_put y (spot leg) (spots s.ins) there
    (λ n o. ended_at o ≡ ended_at (at n (spots s.ins)))
    (sym (ap ended_at there)) (λ n o. refl))
    (at_put y (spot leg) (spots s.ins) there (λ n o. leaves_at o ≡ true → n ≤ s.current.leg)
    (λ o. omega (arith, is)) (λ n o e. l.kept.leaving n e)) l)

-- and the next channel may be current at once
abbrev handed_by : Server → Option InLeg → Server
handed_by s leg = moved_if true (record (leaves_by s leg) { line = after_finish s.line })

a6_hands : (out : List (List ℕ)) (up : ℕ → Bool) (came : Log) (s : Server)
    → s.line.finished ≡ false → s.line.has_next ≡ true → due_a3 s.waiting ≡ 0
    → (leg : Option InLeg) → in_leg s.current.leg s.ins ≡ leg
    → Took out up came (reads s) s.waiting
    → Took out up (more s.current.leg (Handover ∷ []) came) (reads (handed_by s leg))
    (handed_by s leg).waiting
a6_hands out up came s f h none None e l =
    settles out up (more s.current.leg (Handover ∷ []) came) (finished_line s) h
    (a6_took out up came s f h none None e l)
a6_hands out up came s f h none (Some leg) e l =
    settles out up (more s.current.leg (Handover ∷ []) came)
    (finished_line (with_in s (record leg { leaving = leaving.InR1B1 }))) h
    (a6_took out up came s f h none (Some leg) e l)

pub a6_row : (out : List (List ℕ)) (up : ℕ → Bool) (came : Log) (s : Server) (n : ℕ)
    (successor : Cookie) → Took out up came (reads s) s.waiting
    → RowTook out up came n (Handover ∷ []) (on_in_r1_a6 s n successor)
a6_row out up came s n successor l =
    by_test (RowTook out up came n (Handover ∷ []))
    ((n == s.current.leg) && (not s.line.finished
    && (s.line.has_next && not (waits kind.InR1A3 s.waiting))))
    (cond (same_cookie s.next.cookie successor) (took (hands_over s n)) _) (unexpected s)
    (λ e. by_test (RowTook out up came n (Handover ∷ []))
    (same_cookie s.next.cookie successor) (took (hands_over s n)) _ (λ o. hands e) (λ o. l))
    (λ e. l)
  where
    hands : (n == s.current.leg) && (not s.line.finished
        && (s.line.has_next && not (waits kind.InR1A3 s.waiting))) ≡ true
        → Took out up (more n (Handover ∷ []) came) (reads (hands_over s n))
        (hands_over s n).waiting
    hands e =
        let a = both (n == s.current.leg) (not s.line.finished
        && (s.line.has_next && not (waits kind.InR1A3 s.waiting))) e in
        let b = both (not s.line.finished) (s.line.has_next
        && not (waits kind.InR1A3 s.waiting)) a.1 in
        let c = both s.line.has_next (not (waits kind.InR1A3 s.waiting)) b.1 in
        subst (λ k. Took out up (more k (Handover ∷ []) came) (reads (hands_over s k))
        (hands_over s k).waiting) (sym (same_number n s.current.leg a.0))
        (a6_hands out up came s (negated s.line.finished b.0) c.0
        (none_counts (is_own kind.InR1A3) s.waiting.due
        (negated (waits kind.InR1A3 s.waiting) c.1))
        (in_leg s.current.leg s.ins) refl l)

-- ---- a PDU is taken

pub take_took : (out : List (List ℕ)) (up : ℕ → Bool) (came : Log) (s : Server)
    (pdus : List (List ℕ)) → s.line.current.pdus ≡ pdus → Took out up came (reads s) s.waiting
    → Took (with_first (record { passage = started s; given = []; taken = out }) pdus).taken up came
    (reads (moved_if s.line.has_next (record s { line = lines.taken pdus s.line })))
    (moved_if s.line.has_next (record s { line = lines.taken pdus s.line })).waiting
take_took out up came s [] e l = by s.line.has_next
  where
    by : (b : Bool) → Took out up came (reads (cond (b && not b) (becomes_current s) s))
        (cond (b && not b) (becomes_current s) s).waiting
    by true = l
    by false = l
take_took out up came s (p ∷ ps) e l = by s.line.has_next refl
  where
    u : Server
    u = with_now s (released (p ∷ ps) s.line.current)

    freed : Took (out ++ p ∷ []) up came (reads u) s.waiting
    freed = record {
      later = l.later;
      known = l.known;
      law = taker_step (taker_at out (reads s) l.later
          (next_number s.line.has_next s.current.leg s.next.leg)) l.known came
          (TakesPdu p ps) l.law e;
      behind = l.behind;
      kept = l.kept;
      ended = l.ended;
      all = l.all;
      low = l.low;
      idle = l.idle;
      told = l.told;
    }

    by : (b : Bool) → s.line.has_next ≡ b
        → Took (out ++ p ∷ []) up came
        (reads (moved_if b (record u { line = settled_line u.line })))
        (moved_if b (record u { line = settled_line u.line })).waiting
    by true h = settles (out ++ p ∷ []) up came u h freed
    by false h =
        by_test (λ line. Took (out ++ p ∷ []) up came (reads (record u { line = line })) s.waiting)
        (s.line.finished && is_empty ps) (moved_on u.line) u.line
        (λ o. absurd (differ s.line.has_next
        (l.kept.followed (both s.line.finished (is_empty ps) o).0) h))
        (λ o. freed)
