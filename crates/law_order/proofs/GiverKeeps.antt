-- whatever an end that gives may do keeps its law
use Rattle.law_order.proofs.Vocabulary.{◌≡◌, ◌≢◌, ℕ, suc, Bool, true, false, nat_eq, List, [], ◌∷◌, ◌++◌, arith, refl, sym, ◌∙◌, subst, append_assoc, append-nil, Item, Piece, Stop, Handover, pdus, has_end, has_handover, IsChannel, IsJoined, Log, empty, more, below, Giver, GiverAt, GiverLaw, new_giver, Giving, Accepts, Closes, PutsPdu, PutsEnd, HandsOver, MayGive, gives, sent_by}
use Rattle.law_order.proofs.ItemLists.{pdus-append, has_end-append, has_handover-append, channel_push, channel_push_handover, joined_push, joined_push_pdu, neither}
use Rattle.law_order.proofs.ByNumber.{by_test, other_number, more_here, more_other, below_more, change_each}

-- before: what it put on the channels below the writing one; here: on that one
record Gave (g : Giver) (before here : List Item) : Type 0 where
  all : g.given ≡ pdus (before ++ here) ++ g.queue
  over : has_end (before ++ here) ≡ true → (g.closing ≡ true) × (g.queue ≡ [])
  joined : IsJoined (before ++ here)
  end_put : g.end_put ≡ has_end here
  unhanded : has_handover here ≡ false
  channel : IsChannel here

gave : (g : Giver) (sent : Log) → GiverLaw g sent → Gave g (below sent g.writing) (sent g.writing)
gave g sent l = record {
  all = l.all;
  over = l.over;
  joined = l.joined;
  end_put = l.end_put;
  unhanded = l.unhanded;
  channel = l.channel g.writing;
}

-- while PDUs are queued, END was not put
queued : (g : Giver) (b h : List Item) (t : Bool) (pdu : List ℕ) (rest : List (List ℕ))
    → g.queue ≡ pdu ∷ rest → has_end (b ++ h) ≡ t → Gave g b h → t ≡ false
queued g b h false pdu rest q e l = refl
queued g b h true pdu rest q e l = let over = (l.over e).1 in absurd (cc)

gave_pdu : (g : Giver) (b h : List Item) (pdu : List ℕ) (rest : List (List ℕ))
    → g.queue ≡ pdu ∷ rest → Gave g b h
    → Gave (gives g (PutsPdu pdu rest)) b (h ++ Piece pdu ∷ [])
gave_pdu g b h pdu rest q l =
    let open_yet = queued g b h (has_end (b ++ h)) pdu rest q refl l in
    let here = (neither (has_end b) (has_end h) (sym (has_end-append b h) ∙ open_yet)).1 in
    record {
      all = l.all ∙ simp (pdus-append, append_assoc, q);
      over = λ e. absurd (grind (arith, has_end-append));
      joined = rw (← append_assoc) (joined_push_pdu (b ++ h) pdu open_yet l.joined);
      end_put = grind (arith, has_end-append, l.end_put);
      unhanded = simp (has_handover-append, l.unhanded);
      channel = channel_push h (Piece pdu) l.channel l.unhanded here;
    }

gave_end : (g : Giver) (b h : List Item) → g.closing ≡ true → g.queue ≡ [] → g.end_put ≡ false
    → Gave g b h → Gave (gives g PutsEnd) b (h ++ Stop ∷ [])
gave_end g b h c q n l = record {
  all = l.all ∙ simp (pdus-append, append-nil);
  over = λ e. (c, q);
  joined = rw (← append_assoc) (joined_push (b ++ h) Stop refl l.joined);
  end_put = grind (arith, has_end-append);
  unhanded = simp (has_handover-append, l.unhanded);
  channel = channel_push h Stop l.channel l.unhanded (sym l.end_put ∙ n);
}

gave_handover : (g : Giver) (b h : List Item) → Gave g b h
    → Gave (gives g HandsOver) (b ++ (h ++ Handover ∷ [])) []
gave_handover g b h l = record {
  all = l.all ∙ simp (pdus-append, append-nil);
  over = λ e. l.over (grind (arith, has_end-append, append-nil));
  joined = simp append-nil (rw (← append_assoc) (joined_push (b ++ h) Handover refl l.joined));
  end_put = refl;
  unhanded = refl;
  channel = tt;
}

gave_more : (g : Giver) (b h : List Item) (pdu : List ℕ) → g.closing ≡ false → Gave g b h
    → Gave (gives g (Accepts pdu)) b h
gave_more g b h pdu c l = record {
  all = rw l.all (append_assoc (pdus (b ++ h)) g.queue (pdu ∷ []));
  over = λ e. let over = (l.over e).0 in absurd (cc);
  joined = l.joined;
  end_put = l.end_put;
  unhanded = l.unhanded;
  channel = l.channel;
}

gave_closing : (g : Giver) (b h : List Item) → Gave g b h → Gave (gives g Closes) b h
gave_closing g b h l = record {
  all = l.all;
  over = λ e. (refl, (l.over e).1);
  joined = l.joined;
  end_put = l.end_put;
  unhanded = l.unhanded;
  channel = l.channel;
}

-- it writes on the same channel
stays : (g f : Giver) (items : List Item) (sent : Log) → f.writing ≡ g.writing
    → Gave f (below sent g.writing) (sent g.writing ++ items) → GiverLaw g sent
    → GiverLaw f (more g.writing items sent)
stays g f items sent same h l =
    let up = below_more sent g.writing items g.writing (omega arith) in
    let here = more_here g.writing items sent in
    subst (GiverAt f (more g.writing items sent)) (sym same) (record {
      all = rw (up, here) h.all;
      over = rw (up, here) h.over;
      joined = rw (up, here) h.joined;
      end_put = rw here h.end_put;
      numbered = l.numbered;
      handed = λ n above b.
          let o : n ≢ g.writing = omega arith in
          rw (more_other g.writing items sent n o) (l.handed n above b);
      unhanded = rw here h.unhanded;
      unused =
          let o : 0 ≢ g.writing = omega (arith, l.numbered) in
          rw (more_other g.writing items sent 0 o) l.unused;
      later = λ n b.
          let o : n ≢ g.writing = omega arith in
          rw (more_other g.writing items sent n o) (l.later n b);
      channel = change_each (λ n here. IsChannel here) g.writing (λ before. before ++ items) sent
          l.channel h.channel;
    })

quiet : (g f : Giver) (sent : Log) → f.writing ≡ g.writing
    → Gave f (below sent g.writing) (sent g.writing) → GiverLaw g sent
    → GiverLaw f (more g.writing [] sent)
quiet g f sent same h l = stays g f [] sent same (rw append-nil h) l

handed_now : (a : List Item) → has_handover (a ++ Handover ∷ []) ≡ true
handed_now a = grind (arith, has_handover-append)

hands_over : (g : Giver) (sent : Log) → GiverLaw g sent
    → GiverLaw (gives g HandsOver) (more g.writing (Handover ∷ []) sent)
hands_over g sent l =
    let w = g.writing in
    let mark = Handover ∷ [] in
    let h = gave_handover g (below sent w) (sent w) (gave g sent l) in
    let o : suc w ≢ w = omega arith in
    let up = below_more sent w mark w (omega arith) in
    let here = more_here w mark sent in
    let next = more_other w mark sent (suc w) o ∙ l.later (suc w) (omega arith) in
    record {
      all = rw (up, here, next) h.all;
      over = rw (up, here, next) h.over;
      joined = rw (up, here, next) h.joined;
      end_put = rw next h.end_put;
      numbered = omega arith;
      handed = λ n above b.
          by_test (λ items. has_handover items ≡ true) (nat_eq n w) (sent n ++ mark) (sent n)
          (λ t. handed_now (sent n))
          (λ t. let d = other_number n w t in l.handed n above (omega arith));
      unhanded = rw next refl;
      unused =
          let d : 0 ≢ w = omega (arith, l.numbered) in
          rw (more_other w mark sent 0 d) l.unused;
      later = λ n b.
          let d : n ≢ w = omega arith in
          rw (more_other w mark sent n d) (l.later n (omega arith));
      channel = change_each (λ n items. IsChannel items) w (λ before. before ++ mark) sent
          l.channel (channel_push_handover (sent w) (l.channel w) l.unhanded);
    }

pub giver_step : (g : Giver) (sent : Log) (act : Giving) → GiverLaw g sent → MayGive g act
    → GiverLaw (gives g act) (sent_by g act sent)
giver_step g sent (Accepts pdu) l may =
    quiet g (gives g (Accepts pdu)) sent refl
    (gave_more g (below sent g.writing) (sent g.writing) pdu may (gave g sent l)) l
giver_step g sent Closes l may =
    quiet g (gives g Closes) sent refl
    (gave_closing g (below sent g.writing) (sent g.writing) (gave g sent l)) l
giver_step g sent (PutsPdu pdu rest) l may =
    stays g (gives g (PutsPdu pdu rest)) (Piece pdu ∷ []) sent refl
    (gave_pdu g (below sent g.writing) (sent g.writing) pdu rest may (gave g sent l)) l
giver_step g sent PutsEnd l may =
    stays g (gives g PutsEnd) (Stop ∷ []) sent refl
    (gave_end g (below sent g.writing) (sent g.writing) may.0 may.1 may.2 (gave g sent l)) l
giver_step g sent HandsOver l may = hands_over g sent l

pub giver_starts : GiverLaw new_giver empty
giver_starts = record {
  all = refl;
  over = λ e. absurd (cc);
  joined = tt;
  end_put = refl;
  numbered = omega arith;
  handed = λ n above b. absurd (omega arith);
  unhanded = refl;
  unused = refl;
  later = λ n b. refl;
  channel = λ n. tt;
}

-- what leaves the picture as it is, keeps its law
pub giver_same : (g f : Giver) (sent : Log) → f ≡ g → GiverLaw g sent → GiverLaw f sent
giver_same g f sent e l = subst (λ x. GiverLaw x sent) (sym e) l
