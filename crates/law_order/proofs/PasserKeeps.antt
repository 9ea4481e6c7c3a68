-- whatever a proxy may do keeps its law
use Rattle.law_order.proofs.Vocabulary.{◌≡◌, ◌≢◌, ℕ, ◌≤◌, Bool, true, false, ◌||◌, List, [], ◌∷◌, ◌++◌, arith, refl, sym, ◌∙◌, append-nil, nat_tests, Item, Piece, Stop, Handover, pdus, has_end, has_handover, Log, empty, is_ended, Coming, PduNow, PduNext, EndNow, EndNext, EndLater, HandoverNow, HandoverNext, Follows, MovesOn, MayCome, comes, channel_of, items_of, came_by, Passer, PasserLaw, from_first, new_passer, Passing, Takes, PassesPdu, PassesEnd, PassesHandover, MayPass}
use Rattle.law_order.proofs.Vocabulary.{passes, came_at, passed_items}
use Rattle.law_order.proofs.ItemLists.{pdus-append, has_end-append, has_handover-append, channel_push, channel_push_handover}
use Rattle.law_order.proofs.ByNumber.{more_other}
use Rattle.law_order.proofs.ShelvesKeep.{shelves_step, shelves_start, passed_on}

-- what comes, comes on a near leg
at_least : (x : Passer) (first : ℕ) (came : Log) (put : List Item) (what : Coming)
    → MayCome x.shelves (from_first first) what → PasserLaw x first came put
    → first ≤ channel_of x.shelves what
at_least x first came put (PduNow pdu) may l = l.from
at_least x first came put (PduNext pdu) may l = omega (arith, l.from, l.shelved.above)
at_least x first came put EndNow may l = l.from
at_least x first came put EndNext may l = omega (arith, l.from, l.shelved.above)
at_least x first came put (EndLater n) may l = omega (arith, l.from, l.shelved.above, may.0)
at_least x first came put HandoverNow may l = l.from
at_least x first came put HandoverNext may l = omega (arith, l.from, l.shelved.above)
at_least x first came put (Follows n) may l = l.from
at_least x first came put (MovesOn n) may l = l.from

still_from : (x : Passer) (first : ℕ) (came : Log) (put : List Item) (what : Coming)
    → PasserLaw x first came put → first ≤ (comes x.shelves what).current
still_from x first came put (PduNow pdu) l = l.from
still_from x first came put (PduNext pdu) l = l.from
still_from x first came put EndNow l = l.from
still_from x first came put EndNext l = l.from
still_from x first came put (EndLater n) l = l.from
still_from x first came put HandoverNow l = l.from
still_from x first came put HandoverNext l = l.from
still_from x first came put (Follows n) l = l.from
still_from x first came put (MovesOn n) l = omega (arith, l.from, l.shelved.above)

-- END was put: nothing is held, and nothing comes any more
still_ended : (x : Passer) (first : ℕ) (came : Log) (put : List Item) (what : Coming)
    → MayPass x first (Takes what) → PasserLaw x first came put → x.end_put ≡ true
    → (is_ended (comes x.shelves what) ≡ true) × ((comes x.shelves what).now.held ≡ [])
still_ended x first came put (PduNow pdu) may l e =
    let ended = (l.end_came e).0 in let open_yet = may.1 in absurd (cc)
still_ended x first came put (PduNext pdu) may l e = l.end_came e
still_ended x first came put EndNow may l e = (or_true x.shelves.was_ended, (l.end_came e).1)
  where
    or_true : (b : Bool) → b || true ≡ true
    or_true true = refl
    or_true false = refl
still_ended x first came put EndNext may l e = l.end_came e
still_ended x first came put (EndLater n) may l e = l.end_came e
still_ended x first came put HandoverNow may l e = l.end_came e
still_ended x first came put HandoverNext may l e = l.end_came e
still_ended x first came put (Follows n) may l e = l.end_came e
still_ended x first came put (MovesOn n) may l e =
    let ended = (l.end_came e).0 in (rw ended refl, l.over ended)

-- the handover mark was put: the same
still_handed : (x : Passer) (first : ℕ) (came : Log) (put : List Item) (what : Coming)
    → MayPass x first (Takes what) → PasserLaw x first came put → x.handover_put ≡ true
    → ((comes x.shelves what).now.finished ≡ true) × ((comes x.shelves what).now.held ≡ [])
still_handed x first came put (PduNow pdu) may l e =
    let done = (l.handover_came e).0 in let open_yet = may.0.0 in absurd (cc)
still_handed x first came put (PduNext pdu) may l e = l.handover_came e
still_handed x first came put EndNow may l e = l.handover_came e
still_handed x first came put EndNext may l e = l.handover_came e
still_handed x first came put (EndLater n) may l e = l.handover_came e
still_handed x first came put HandoverNow may l e = (refl, (l.handover_came e).1)
still_handed x first came put HandoverNext may l e = l.handover_came e
still_handed x first came put (Follows n) may l e = l.handover_came e
still_handed x first came put (MovesOn n) may l e = let unput = may.1 in absurd (cc)

-- no PDU stands on the next channel behind END
still_over : (x : Passer) (first : ℕ) (came : Log) (put : List Item) (what : Coming)
    → MayPass x first (Takes what) → PasserLaw x first came put
    → is_ended (comes x.shelves what) ≡ true → (comes x.shelves what).next.held ≡ []
still_over x first came put (PduNow pdu) may l e = l.over e
still_over x first came put (PduNext pdu) may l e = let open_yet = may.1 in absurd (cc)
still_over x first came put EndNow may l e = may.1
still_over x first came put EndNext may l e = l.over e
still_over x first came put (EndLater n) may l e = l.over e
still_over x first came put HandoverNow may l e = l.over e
still_over x first came put HandoverNext may l e = l.over e
still_over x first came put (Follows n) may l e = refl
still_over x first came put (MovesOn n) may l e = refl

pub passer_takes : (x : Passer) (first : ℕ) (came : Log) (put : List Item) (what : Coming)
    → PasserLaw x first came put → MayPass x first (Takes what)
    → PasserLaw (passes x (Takes what)) first (came_by x.shelves what came) put
passer_takes x first came put what l may = record {
  shelved = shelves_step x.shelves (from_first first) (pdus put) came what l.shelved may.0;
  from = still_from x first came put what l;
  unused = λ n b.
      let at = at_least x first came put what may.0 l in
      let o : n ≢ channel_of x.shelves what = omega arith in
      rw (more_other (channel_of x.shelves what) (items_of what) came n o) (l.unused n b);
  channel = l.channel;
  end_put = l.end_put;
  handover_put = l.handover_put;
  end_came = still_ended x first came put what may l;
  handover_came = still_handed x first came put what may l;
  over = still_over x first came put what may l;
}

-- a mark was not put
unput : (a b : Bool) → a ≡ b → (a ≡ true → ⊥) → b ≡ false
unput true b e none = absurd (none refl)
unput false b e none = sym e

passes_pdu : (x : Passer) (first : ℕ) (came : Log) (put : List Item) (pdu : List ℕ)
    (rest : List (List ℕ)) → PasserLaw x first came put → x.shelves.now.held ≡ pdu ∷ rest
    → PasserLaw (passes x (PassesPdu pdu rest)) first came (put ++ Piece pdu ∷ [])
passes_pdu x first came put pdu rest l e =
    let no_end =
    unput x.end_put (has_end put) l.end_put (λ t. let h = (l.end_came t).1 in absurd (cc)) in
    let no_mark =
    unput x.handover_put (has_handover put) l.handover_put
    (λ t. let h = (l.handover_came t).1 in absurd (cc)) in
    record {
      shelved =
          rw (pdus-append put (Piece pdu ∷ []))
          (passed_on x.shelves (from_first first) (pdus put) came pdu rest e l.shelved);
      from = l.from;
      unused = l.unused;
      channel = channel_push put (Piece pdu) l.channel no_mark no_end;
      end_put = grind (arith, has_end-append, l.end_put);
      handover_put = grind (arith, has_handover-append, l.handover_put);
      end_came = λ t. absurd (let h = (l.end_came t).1 in cc);
      handover_came = λ t. absurd (let h = (l.handover_came t).1 in cc);
      over = l.over;
    }

passes_end : (x : Passer) (first : ℕ) (came : Log) (put : List Item) → PasserLaw x first came put
    → MayPass x first PassesEnd
    → PasserLaw (passes x PassesEnd) first came (put ++ Stop ∷ [])
passes_end x first came put l may = record {
  shelved = rw (pdus-append put (Stop ∷ []), append-nil) l.shelved;
  from = l.from;
  unused = l.unused;
  channel = channel_push put Stop l.channel (sym l.handover_put ∙ may.3) (sym l.end_put ∙ may.2);
  end_put = grind (arith, has_end-append);
  handover_put = grind (arith, has_handover-append, l.handover_put);
  end_came = λ t. (may.0, may.1);
  handover_came = l.handover_came;
  over = l.over;
}

passes_handover : (x : Passer) (first : ℕ) (came : Log) (put : List Item)
    → PasserLaw x first came put → MayPass x first PassesHandover
    → PasserLaw (passes x PassesHandover) first came (put ++ Handover ∷ [])
passes_handover x first came put l may = record {
  shelved = rw (pdus-append put (Handover ∷ []), append-nil) l.shelved;
  from = l.from;
  unused = l.unused;
  channel = channel_push_handover put l.channel (sym l.handover_put ∙ may.2);
  end_put = grind (arith, has_end-append, l.end_put);
  handover_put = grind (arith, has_handover-append);
  end_came = l.end_came;
  handover_came = λ t. (may.0, may.1);
  over = l.over;
}

pub passer_step : (x : Passer) (first : ℕ) (came : Log) (put : List Item) (act : Passing)
    → PasserLaw x first came put → MayPass x first act
    → PasserLaw (passes x act) first (came_at x act came) (put ++ passed_items act)
passer_step x first came put (Takes what) l may =
    rw (append-nil put) (passer_takes x first came put what l may)
passer_step x first came put (PassesPdu pdu rest) l may =
    passes_pdu x first came put pdu rest l may
passer_step x first came put PassesEnd l may = passes_end x first came put l may
passer_step x first came put PassesHandover l may = passes_handover x first came put l may

pub passer_starts : (first : ℕ) → PasserLaw (new_passer first) first empty []
passer_starts first = record {
  shelved = shelves_start first (from_first first) (λ n b. grind (arith, nat_tests));
  from = omega arith;
  unused = λ n b. refl;
  channel = tt;
  end_put = refl;
  handover_put = refl;
  end_came = λ t. absurd (cc);
  handover_came = λ t. absurd (cc);
  over = λ t. refl;
}
