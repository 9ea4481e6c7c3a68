-- every move of an in proxy keeps its law of order
use Rattle.rh_window.specs.Receiving as windows
use Rattle.law_order.proofs.Vocabulary.{◌≡◌, ℕ, suc, Bool, true, false, not, ◌||◌, ◌&&◌, List, [], ◌∷◌, ◌++◌, length, arith, refl, sym, ◌∙◌, subst, append-nil, Some, None, Ok, Err, if◌then◌else◌, is_ok, nat_eq, Option, Result, Item, Piece, Stop, Log, more, PasserLaw, PduNow, PduNext, EndNow, EndNext, HandoverNow, HandoverNext, MovesOn}
use Rattle.law_order.specs.Items as items
use Rattle.rh_line.specs.Lines as line
use Rattle.rh_shell.specs.declared.answers.Refused.TheVariants as refused
use Rattle.rh_inproxy.specs.Passing.{pdu_by}
use Rattle.law_moves.proofs.Vocabulary.{Receiver, by_test, same_number, more_none, neither, passer_takes as law_takes, Cookie, Incoming, Line, LineFault, Window, Over, Which, Current, Next, Due, Packet}
use Rattle.law_role_inproxy.proofs.Vocabulary.{ClientLeg, Handover, Before, Came, Passed, Joining, TellsServer, Told, Follows, Successor, Absent, Up, Joined, Done, taken, refuse, unexpected, is_succeeded, has_later, on_end_a1, has_passed, finished, finish_by, on_in_r1_a5, on_pdu, InProxy, channel_of, next_of, has_a5, has_come, has_opened, hands_over, is_joined, follows, followed, same_cookie, item_put, next_shelf, passer_of}
use Rattle.law_role_inproxy.proofs.Refusing.Legs.{IsBehind}

-- ---- tests

pub both : (a b : Bool) → a && b ≡ true → (a ≡ true) × (b ≡ true)
both true b e = (refl, e)
both false b e = absurd cc

pub nothing_there : (pdus : List (List ℕ)) → line.is_empty pdus ≡ true → pdus ≡ []
nothing_there [] e = refl
nothing_there (pdu ∷ pdus) e = absurd cc

-- ---- what an in proxy keeps beside its law

-- while a later ci leg is there, no IN_R1/A6 was put; before its first packet, no IN_R1/A5 came
abbrev pub IsUnmarked : Handover → Successor → Type 0
IsUnmarked handover Absent = Unit {0}
IsUnmarked handover (Up number) = has_come handover ≡ false
IsUnmarked handover (Joined leg stage) = has_passed handover ≡ false

-- no packet that waits is a mark
abbrev pub ArePlain : List Due → Type 0
ArePlain [] = Unit {0}
ArePlain (due ∷ dues) = (item_put (Packet due.packet) ≡ []) × ArePlain dues

pub record Parts (has_next done over : Bool) (number : ℕ) (successor : Successor)
    (handover : Handover) (end_put : Bool) (dues : List Due) : Type 0 where
  pub joined : has_next ≡ is_joined successor
  pub behind : IsBehind number successor
  pub unmarked : IsUnmarked handover successor
  pub finished : done ≡ is_succeeded successor
  pub marked : has_passed handover ≡ true → over ≡ true → end_put ≡ true
  pub plain : ArePlain dues

abbrev pub IsSound : InProxy → Type 0
IsSound s =
    Parts s.line.has_next s.line.finished s.line.current.ended s.current.number s.successor
    s.handover s.end_put s.waiting.due

-- first: the number of the first ci leg
pub record Kept (first : ℕ) (came : Log) (put : List Item) (s : InProxy) : Type 0 where
  pub sound : IsSound s
  pub law : PasserLaw (passer_of s) first came put

-- a row on ci leg n, where it takes these items or refuses
abbrev pub KeptRow : ℕ → Log → List Item → ℕ → List Item → Done → Type 0
KeptRow first came put n items (t, Ok taken) = Kept first (more n items came) put t
KeptRow first came put n items (t, Err why) = Kept first came put t

-- ---- steps of the law

pub quiet_row : (first : ℕ) (came : Log) (put : List Item) (n : ℕ) (t : InProxy)
    → Kept first came put t → Kept first (more n [] came) put t
quiet_row first came put n t k = subst (λ log. Kept first log put t) (sym (more_none n came)) k

pub quiet_put : (first : ℕ) (came : Log) (put items : List Item) (t : InProxy) → items ≡ []
    → Kept first came put t → Kept first came (put ++ items) t
quiet_put first came put items t none k =
    subst (λ (more_items : List Item). Kept first came (put ++ more_items) t) (sym none)
    (subst (λ all. Kept first came all t) (sym (append-nil put)) k)

not_passed : (handover : Handover) → has_come handover ≡ false → has_passed handover ≡ false
not_passed Before e = refl
not_passed (Came cookie) e = absurd cc
not_passed Passed e = absurd cc

-- where no IN_R1/A5 came on the current ci leg, no IN_R1/A6 was put
unpassed : (successor : Successor) (handover : Handover) → hands_over successor handover ≡ false
    → IsUnmarked handover successor → has_passed handover ≡ false
unpassed Absent handover e u = not_passed handover e
unpassed (Up number) handover e u = not_passed handover e
unpassed (Joined leg stage) handover e u = u

-- ---- the next channel becomes current

follow_none : (s : InProxy) (successor : Successor) → s.line.has_next ≡ is_joined successor
    → followed (record s { successor = successor }) ≡ record s { successor = successor }
follow_none s successor e = by_next s.line.has_next successor e
  where
    by_next : (has_next : Bool) (z : Successor) → has_next ≡ is_joined z
        → record s {
          line = record (s.line) { has_next = has_next };
          current = (follows has_next s.current z).0;
          successor = (follows has_next s.current z).1;
        }
        ≡ record s { line = record (s.line) { has_next = has_next }; successor = z }
    by_next true Absent e = absurd cc
    by_next false Absent e = refl
    by_next true (Up number) e = absurd cc
    by_next false (Up number) e = refl
    by_next true (Joined leg stage) e = refl
    by_next false (Joined leg stage) e = absurd cc

-- the proxy behind a channel that is finished and empty
abbrev pub moved : InProxy → ClientLeg → InProxy
moved s leg = record s { line = line.moved_on s.line; current = leg; successor = Absent }

-- with this number for the current ci leg
abbrev pub numbered : InProxy → ClientLeg → ℕ → InProxy
numbered s leg n = moved s (record leg { number = n })

moves_on : (first : ℕ) (came : Log) (put : List Item) (s : InProxy) (leg : ClientLeg)
    → s.line.current.pdus ≡ []
    → Kept first came put (record s { successor = Joined leg Follows })
    → Kept first came put (moved s leg)
moves_on first came put s leg none k = record {
  sound = record {
    joined = refl;
    behind = tt;
    unmarked = tt;
    finished = refl;
    marked = λ passed. let u = k.sound.unmarked in absurd cc;
    plain = k.sound.plain;
  };
  law = subst (λ n. PasserLaw (passer_of (numbered s leg n)) first came put)
      (sym k.sound.behind)
      (subst (λ log. PasserLaw (passer_of (numbered s leg (suc s.current.number))) first log put)
      (more_none s.current.number came)
      (law_takes (passer_of (record s { successor = Joined leg Follows })) first came put
      (MovesOn (suc (suc s.current.number))) k.law (
        (
          refl,
          none,
          omega arith,
          λ j above below. absurd (omega (arith, above, below)),
        ),
        k.sound.unmarked,
      )));
}

-- a channel that is finished and empty is followed by the next one
settle_by : (first : ℕ) (came : Log) (put : List Item) (s : InProxy) (successor : Successor)
    → is_succeeded successor ≡ true → s.line.current.pdus ≡ []
    → Kept first came put (record s { successor = successor })
    → Kept first came put
    (followed (record s { line = line.moved_on s.line; successor = successor }))
settle_by first came put s Absent e none k = absurd cc
settle_by first came put s (Up number) e none k = absurd cc
settle_by first came put s (Joined leg (TellsServer behind)) e none k = absurd cc
settle_by first came put s (Joined leg Told) e none k = absurd cc
settle_by first came put s (Joined leg Follows) e none k = moves_on first came put s leg none k

pub settles : (first : ℕ) (came : Log) (put : List Item) (s : InProxy) → Kept first came put s
    → Kept first came put (followed (record s { line = line.settled s.line }))
settles first came put s k =
    by_test (λ (l : Line). Kept first came put (followed (record s { line = l })))
    (s.line.finished && line.is_empty s.line.current.pdus) (line.moved_on s.line) s.line
    (λ e. let done = both s.line.finished (line.is_empty s.line.current.pdus) e in
    settle_by first came put s s.successor (sym k.sound.finished ∙ done.0)
    (nothing_there s.line.current.pdus done.1) k)
    (λ e. subst (Kept first came put) (sym (follow_none s s.successor k.sound.joined)) k)

-- ---- by channel

pub by_channel : (P : InProxy → ℕ → Option Which → Type 0) (s : InProxy) (n : ℕ)
    → IsBehind s.current.number s.successor
    → ((z : Successor) → P (record s { successor = z }) n None)
    → P s s.current.number (Some Current)
    → ((leg : ClientLeg) (stage : Joining)
    → P (record s { successor = Joined leg stage }) (suc s.current.number) (Some Next))
    → P s n (channel_of s n)
by_channel P s n behind none current next =
    by_test (P s n) (has_opened s.opening && nat_eq s.current.number n) (Some Current)
    (next_of s.successor n)
    (λ e. subst (λ m. P s m (Some Current))
    (same_number s.current.number n
    (both (has_opened s.opening) (nat_eq s.current.number n) e).1) current)
    (λ e. by_next s.successor behind)
  where
    by_next : (z : Successor) → IsBehind s.current.number z
        → P (record s { successor = z }) n (next_of z n)
    by_next Absent b = none Absent
    by_next (Up number) b = none (Up number)
    by_next (Joined leg stage) b =
        by_test (P (record s { successor = Joined leg stage }) n) (nat_eq leg.number n)
        (Some Next) None
        (λ e. subst (λ m. P (record s { successor = Joined leg stage }) m (Some Next))
        (sym b ∙ same_number leg.number n e) (next leg stage))
        (λ e. none (Joined leg stage))

-- ---- RPC PDUs

abbrev pub grown : Incoming → List ℕ → Receiver → Bool → Incoming
grown c pdu window admitted =
    if admitted then record c { pdus = c.pdus ++ pdu ∷ []; window = window } else c

pdu_now : (first : ℕ) (came : Log) (put : List Item) (s : InProxy) (pdu : List ℕ)
    (window : Receiver) (verdict : Result (Unit {0}) LineFault)
    → hands_over s.successor s.handover ≡ false → line.is_ended s.line ≡ false
    → Kept first came put s
    → KeptRow first came put s.current.number (Piece pdu ∷ [])
    (pdu_by
    (record s {
      line = record (s.line) { current = grown s.line.current pdu window (is_ok verdict) };
    }) verdict)
pdu_now first came put s pdu window (Ok admitted) going unended k = record {
  sound = k.sound;
  law = law_takes (passer_of s) first came put (PduNow pdu) k.law
      ((going, (neither s.line.was_ended s.line.current.ended unended).1), unended);
}
pdu_now first came put s pdu window (Err (Window exceeded)) going unended k = k
pdu_now first came put s pdu window (Err Over) going unended k = k

-- a channel on which END came admits nothing
admits_open : (c : Incoming) (pdu : List ℕ) → is_ok (line.channel_verdict c pdu) ≡ true
    → c.ended ≡ false
admits_open c pdu e = by_end c.ended e
  where
    by_end : (ended : Bool)
        → is_ok (line.channel_verdict (record c { ended = ended }) pdu) ≡ true
        → ended ≡ false
    by_end true e = absurd cc
    by_end false e = refl

pdu_next : (first : ℕ) (came : Log) (put : List Item) (s : InProxy) (leg : ClientLeg)
    (stage : Joining) (pdu : List ℕ) (window : Receiver)
    (verdict : Result (Unit {0}) LineFault)
    → (is_ok verdict ≡ true → s.line.next.ended ≡ false)
    → has_come s.handover ≡ false → line.is_ended s.line ≡ false
    → Kept first came put (record s { successor = Joined leg stage })
    → KeptRow first came put (suc s.current.number) (Piece pdu ∷ [])
    (pdu_by
    (record s {
      line = record (s.line) { next = grown s.line.next pdu window (is_ok verdict) };
      successor = Joined leg stage;
    }) verdict)
pdu_next first came put s leg stage pdu window (Ok admitted) open_yet going unended k = record {
  sound = k.sound;
  law = law_takes (passer_of (record s { successor = Joined leg stage })) first came put
      (PduNext pdu) k.law ((going, open_yet refl), unended);
}
pdu_next first came put s leg stage pdu window (Err (Window exceeded)) open_yet going unended k = k
pdu_next first came put s leg stage pdu window (Err Over) open_yet going unended k = k

pub on_pdu_now : (first : ℕ) (came : Log) (put : List Item) (s : InProxy) (pdu : List ℕ)
    → Kept first came put s
    → KeptRow first came put s.current.number (Piece pdu ∷ []) (on_pdu s Current pdu)
on_pdu_now first came put s pdu k =
    by_test (KeptRow first came put s.current.number (Piece pdu ∷ []))
    (has_a5 s Current || line.is_ended s.line) (unexpected s)
    (pdu_by (record s { line = line.after_admit s.line Current pdu })
    (line.admit_verdict s.line Current pdu))
    (λ e. k)
    (λ e. let none = neither (has_a5 s Current) (line.is_ended s.line) e in
    pdu_now first came put s pdu (windows.after_admit s.line.current.window (length pdu))
    (line.admit_verdict s.line Current pdu) none.0 none.1 k)

pub on_pdu_next : (first : ℕ) (came : Log) (put : List Item) (s : InProxy) (leg : ClientLeg)
    (stage : Joining) (pdu : List ℕ)
    → Kept first came put (record s { successor = Joined leg stage })
    → KeptRow first came put (suc s.current.number) (Piece pdu ∷ [])
    (on_pdu (record s { successor = Joined leg stage }) Next pdu)
on_pdu_next first came put s leg stage pdu k =
    by_test (KeptRow first came put (suc s.current.number) (Piece pdu ∷ []))
    (has_come s.handover || line.is_ended s.line)
    (unexpected (record s { successor = Joined leg stage }))
    (pdu_by
    (record s {
      line = line.after_admit s.line Next pdu;
      successor = Joined leg stage;
    })
    (line.admit_verdict s.line Next pdu))
    (λ e. k)
    (λ e. let none = neither (has_come s.handover) (line.is_ended s.line) e in
    pdu_next first came put s leg stage pdu
    (windows.after_admit s.line.next.window (length pdu))
    (line.admit_verdict s.line Next pdu) (admits_open s.line.next pdu) none.0 none.1 k)

-- ---- END

none_of : (a b c : Bool) → a || b || c ≡ false → (a ≡ false) × (b ≡ false) × (c ≡ false)
none_of true b c e = absurd cc
none_of false true c e = absurd cc
none_of false false true e = absurd cc
none_of false false false e = (refl, refl, refl)

no_pdus : (pdus : List (List ℕ)) → not (line.is_empty pdus) ≡ false → pdus ≡ []
no_pdus [] e = refl
no_pdus (pdu ∷ pdus) e = absurd cc

-- no PDU came on a later ci leg
later_none : (next : Incoming) (successor : Successor) (handover : Handover) (has_next : Bool)
    → has_next ≡ is_joined successor → has_next && not (line.is_empty next.pdus) ≡ false
    → (next_shelf next successor handover).held ≡ []
later_none next Absent handover has_next j e = refl
later_none next (Up number) handover has_next j e = refl
later_none next (Joined leg stage) handover true j e = no_pdus next.pdus e
later_none next (Joined leg stage) handover false j e = absurd cc

end_now : (first : ℕ) (came : Log) (put : List Item) (s : InProxy)
    → hands_over s.successor s.handover ≡ false → s.line.current.ended ≡ false
    → (next_shelf s.line.next s.successor s.handover).held ≡ [] → Kept first came put s
    → Kept first (more s.current.number (Stop ∷ []) came) put
    (record s { line = line.after_end s.line Current })
end_now first came put s going unended none k = record {
  sound = record {
    joined = k.sound.joined;
    behind = k.sound.behind;
    unmarked = k.sound.unmarked;
    finished = k.sound.finished;
    marked = λ passed.
        let u = unpassed s.successor s.handover going k.sound.unmarked in absurd cc;
    plain = k.sound.plain;
  };
  law = law_takes (passer_of s) first came put EndNow k.law ((going, unended), none);
}

pub on_end_now : (first : ℕ) (came : Log) (put : List Item) (s : InProxy) → Kept first came put s
    → KeptRow first came put s.current.number (Stop ∷ []) (on_end_a1 s Current)
on_end_now first came put s k =
    by_test (KeptRow first came put s.current.number (Stop ∷ []))
    (has_a5 s Current || s.line.current.ended || has_later s Current) (unexpected s)
    (taken (record s { line = line.after_end s.line Current }))
    (λ e. k)
    (λ e. let none = none_of (has_a5 s Current) s.line.current.ended (has_later s Current) e in
    end_now first came put s none.0 none.1
    (later_none s.line.next s.successor s.handover s.line.has_next k.sound.joined none.2) k)

pub on_end_next : (first : ℕ) (came : Log) (put : List Item) (s : InProxy) (leg : ClientLeg)
    (stage : Joining) → Kept first came put (record s { successor = Joined leg stage })
    → KeptRow first came put (suc s.current.number) (Stop ∷ [])
    (on_end_a1 (record s { successor = Joined leg stage }) Next)
on_end_next first came put s leg stage k =
    by_test (KeptRow first came put (suc s.current.number) (Stop ∷ []))
    (has_come s.handover || s.line.next.ended || false)
    (unexpected (record s { successor = Joined leg stage }))
    (taken (record s {
      line = line.after_end s.line Next;
      successor = Joined leg stage;
    }))
    (λ e. k)
    (λ e. let none = none_of (has_come s.handover) s.line.next.ended false e in
    record {
      sound = k.sound;
      law = law_takes (passer_of (record s { successor = Joined leg stage })) first came put
          EndNext k.law ((none.0, none.1), tt);
    })

-- ---- IN_R1/A5

hand_now : (first : ℕ) (came : Log) (put : List Item) (s : InProxy) (handover : Handover)
    (cookie : Cookie) → has_come handover ≡ false
    → Kept first came put (record s { successor = Absent; handover = handover })
    → Kept first (more s.current.number (items.Handover ∷ []) came) put
    (record s { successor = Absent; handover = Came cookie })
hand_now first came put s Before cookie e k = record {
  sound = record {
    joined = k.sound.joined;
    behind = tt;
    unmarked = tt;
    finished = k.sound.finished;
    marked = λ passed. absurd cc;
    plain = k.sound.plain;
  };
  law = law_takes (passer_of (record s { successor = Absent; handover = Before })) first came
      put HandoverNow k.law (refl, tt);
}
hand_now first came put s (Came before) cookie e k = absurd cc
hand_now first came put s Passed cookie e k = absurd cc

hand_next : (first : ℕ) (came : Log) (put : List Item) (s : InProxy) (leg : ClientLeg)
    (stage : Joining) (handover : Handover) (cookie : Cookie) → has_come handover ≡ false
    → Kept first came put (record s { successor = Joined leg stage; handover = handover })
    → Kept first (more (suc s.current.number) (items.Handover ∷ []) came) put
    (record s { successor = Joined leg stage; handover = Came cookie })
hand_next first came put s leg stage Before cookie e k = record {
  sound = record {
    joined = k.sound.joined;
    behind = k.sound.behind;
    unmarked = refl;
    finished = k.sound.finished;
    marked = λ passed. absurd cc;
    plain = k.sound.plain;
  };
  law = law_takes (passer_of (record s { successor = Joined leg stage; handover = Before }))
      first came put HandoverNext k.law (refl, tt);
}
hand_next first came put s leg stage (Came before) cookie e k = absurd cc
hand_next first came put s leg stage Passed cookie e k = absurd cc

-- the current channel is finished
finish_now : (first : ℕ) (came : Log) (put : List Item) (s : InProxy) (leg : ClientLeg)
    → Kept first came put (record s { successor = Joined leg Told })
    → Kept first (more s.current.number (items.Handover ∷ []) came) put
    (finished (record s { successor = Joined leg Told }) leg)
finish_now first came put s leg k =
    settles first (more s.current.number (items.Handover ∷ []) came) put
    (record s {
      line = record (s.line) { finished = true };
      successor = Joined leg Follows;
    })
    (record {
      sound = record {
        joined = k.sound.joined;
        behind = k.sound.behind;
        unmarked = k.sound.unmarked;
        finished = refl;
        marked = k.sound.marked;
        plain = k.sound.plain;
      };
      law = law_takes (passer_of (record s { successor = Joined leg Told })) first came put
          HandoverNow k.law (refl, tt);
    })

finish_by_keeps : (first : ℕ) (came : Log) (put : List Item) (s : InProxy)
    (successor : Successor) (cookie : Cookie) → hands_over successor s.handover ≡ false
    → Kept first came put (record s { successor = successor })
    → KeptRow first came put s.current.number (items.Handover ∷ [])
    (finish_by (record s { successor = successor }) successor cookie)
finish_by_keeps first came put s Absent cookie going k =
    hand_now first came put s s.handover cookie going k
finish_by_keeps first came put s (Up number) cookie going k = k
finish_by_keeps first came put s (Joined leg (TellsServer behind)) cookie going k = k
finish_by_keeps first came put s (Joined leg Follows) cookie going k = k
finish_by_keeps first came put s (Joined leg Told) cookie going k =
    by_test (KeptRow first came put s.current.number (items.Handover ∷ []))
    (same_cookie leg.cookie cookie)
    (taken (finished (record s { successor = Joined leg Told }) leg))
    (refuse (record s { successor = Joined leg Told }) (refused.Cookie leg.cookie cookie))
    (λ e. finish_now first came put s leg k)
    (λ e. k)

pub on_a5_now : (first : ℕ) (came : Log) (put : List Item) (s : InProxy) (cookie : Cookie)
    → Kept first came put s
    → KeptRow first came put s.current.number (items.Handover ∷ []) (on_in_r1_a5 s Current cookie)
on_a5_now first came put s cookie k =
    by_test (KeptRow first came put s.current.number (items.Handover ∷ [])) (has_a5 s Current)
    (unexpected s) (finish_by s s.successor cookie)
    (λ e. k)
    (λ e. finish_by_keeps first came put s s.successor cookie e k)

pub on_a5_next : (first : ℕ) (came : Log) (put : List Item) (s : InProxy) (leg : ClientLeg)
    (stage : Joining) (cookie : Cookie)
    → Kept first came put (record s { successor = Joined leg stage })
    → KeptRow first came put (suc s.current.number) (items.Handover ∷ [])
    (on_in_r1_a5 (record s { successor = Joined leg stage }) Next cookie)
on_a5_next first came put s leg stage cookie k =
    by_test (KeptRow first came put (suc s.current.number) (items.Handover ∷ []))
    (has_come s.handover) (unexpected (record s { successor = Joined leg stage }))
    (taken (record s { successor = Joined leg stage; handover = Came cookie }))
    (λ e. k)
    (λ e. hand_next first came put s leg stage s.handover cookie e k)
