-- what was taken on a line stays a front of what came
use Rattle.std.proofs.Common.{◌≡◌, ℕ, List, [], ◌∷◌, ◌++◌, Bool, true, false, ◌&&◌, ◌||◌, Ok, Err, refl, sym, ◌∙◌, ap, append_assoc, rules}
use Rattle.std.specs.Prelude.{if◌then◌else◌}
use Rattle.std.proofs.lemmas.List.{append-nil}
use Rattle.rh_line.specs.declared.which.Which.TheVariants.{Current, Next}
use Rattle.rh_line.specs.Lines.{Incoming, Line, is_empty, is_ended, admitted, channel_verdict, take_answer, take_of, settled}
use Rattle.rh_line.specs.declared.line_take.LineTake.TheVariants.{Ended}
use Rattle.rh_line.specs.Histories.{Call, Admits, Ends, Finishes, OpensNext, Tells, Acknowledges, Takes, after}
use Rattle.rh_line.specs.Histories.{Past, History, begun, came, goes, history, joined, line_behind, settles, shifted, taking, with_finish, with_taken, some_ended, IsInOrder}

-- ---- lists of channels

joined-push : (past : List Past) (channel : Past)
    → joined (past ++ channel ∷ []) ≡ joined past ++ channel.admitted
joined-push [] channel = append-nil channel.admitted
joined-push (first ∷ past) channel =
    ap (λ (x : List (List ℕ)). first.admitted ++ x) (joined-push past channel)
    ∙ sym (append_assoc first.admitted (joined past) channel.admitted)

or_assoc : (a b c : Bool) → a || (b || c) ≡ (a || b) || c
or_assoc true b c = refl
or_assoc false b c = refl

or_false : (a : Bool) → a || false ≡ a
or_false true = refl
or_false false = refl

some_ended-push : (past : List Past) (channel : Past)
    → some_ended (past ++ channel ∷ []) ≡ some_ended past || channel.ended
some_ended-push [] channel = or_false channel.ended
some_ended-push (first ∷ past) channel =
    ap (λ (x : Bool). first.ended || x) (some_ended-push past channel)
    ∙ or_assoc first.ended (some_ended past) channel.ended

-- ---- one call

empty_is : (pdus : List (List ℕ)) → is_empty pdus ≡ true → pdus ≡ []
empty_is [] e = refl
empty_is (pdu ∷ pdus) e = absurd (cc)

both : (a b : Bool) → a && b ≡ true → b ≡ true
both true b e = e
both false b e = absurd (cc)

-- the next channel is behind the current one
shifts : (h : History) → h.line.current.pdus ≡ [] → IsInOrder h → IsInOrder (shifted h)
shifts h none order =
    let all : h.current ≡ order.given =
    order.current ∙ ap (λ (x : List (List ℕ)). order.given ++ x) none ∙ append-nil order.given in
    let channel : Past = record { admitted = h.current; ended = h.line.current.ended } in
    record {
      given = [];
      taken = order.taken ∙ ap (λ (x : List (List ℕ)). joined h.past ++ x) (sym all)
          ∙ sym (joined-push h.past channel)
          ∙ sym (append-nil (joined (h.past ++ channel ∷ [])));
      current = order.next;
      next = refl;
      marked = ap (λ (x : Bool). x || h.line.current.ended) order.marked
          ∙ sym (some_ended-push h.past channel);
    }

settles_in_order : (h : History) → IsInOrder h → IsInOrder (settles h)
settles_in_order h order =
    elim (h.line.finished && is_empty h.line.current.pdus)
    as (λ t. (h.line.finished && is_empty h.line.current.pdus) ≡ t
    → IsInOrder (if t then shifted h else h)) [
      | true ↦ λ e. shifts h (empty_is h.line.current.pdus (both h.line.finished _ e)) order
      | false ↦ λ e. order
    ] refl

takes_in_order : (pdus : List (List ℕ)) (h : History) → h.line.current.pdus ≡ pdus → IsInOrder h
    → IsInOrder (taking pdus h)
takes_in_order [] h is order = order
takes_in_order (pdu ∷ pdus) h is order =
    settles_in_order (with_taken pdu pdus h) (record {
      given = order.given ++ pdu ∷ [];
      taken = ap (λ (x : List (List ℕ)). x ++ pdu ∷ []) order.taken
          ∙ append_assoc (joined h.past) order.given (pdu ∷ []);
      current = order.current ∙ ap (λ (x : List (List ℕ)). order.given ++ x) is
          ∙ sym (append_assoc order.given (pdu ∷ []) pdus);
      next = order.next;
      marked = order.marked;
    })

-- what is admitted stands behind the others
admitted_pdus : (c : Incoming) (pdu : List ℕ)
    → (admitted c pdu).pdus ≡ c.pdus ++ came (channel_verdict c pdu) pdu
admitted_pdus c pdu =
    elim (channel_verdict c pdu)
    as (λ v. channel_verdict c pdu ≡ v → (admitted c pdu).pdus ≡ c.pdus ++ came v pdu) [
      | Ok admitted ↦ λ e. rw e
      | Err fault ↦ λ e. rw e (sym (append-nil c.pdus))
    ] refl

pub step_in_order : (h : History) (call : Call) → IsInOrder h → IsInOrder (goes h call)
step_in_order h (Admits Current pdu) order = record {
  given = order.given;
  taken = order.taken;
  current = ap (λ (x : List (List ℕ)). x ++ came (channel_verdict h.line.current pdu) pdu)
      order.current
      ∙ append_assoc order.given h.line.current.pdus (came (channel_verdict h.line.current pdu) pdu)
      ∙ ap (λ (x : List (List ℕ)). order.given ++ x) (sym (admitted_pdus h.line.current pdu));
  next = order.next;
  marked = order.marked;
}
step_in_order h (Admits Next pdu) order = record {
  given = order.given;
  taken = order.taken;
  current = order.current;
  next = ap (λ (x : List (List ℕ)). x ++ came (channel_verdict h.line.next pdu) pdu) order.next
      ∙ sym (admitted_pdus h.line.next pdu);
  marked = order.marked;
}
step_in_order h (Ends Current) order = search rules
step_in_order h (Ends Next) order = search rules
step_in_order h Finishes order =
    settles_in_order (with_finish h) (record {
      given = order.given;
      taken = order.taken;
      current = order.current;
      next = order.next;
      marked = order.marked;
    })
step_in_order h (OpensNext shut) order = record {
  given = order.given;
  taken = order.taken;
  current = order.current;
  next = refl;
  marked = order.marked;
}
step_in_order h (Tells Current) order = search rules
step_in_order h (Tells Next) order = search rules
step_in_order h (Acknowledges Current ack) order = search rules
step_in_order h (Acknowledges Next ack) order = search rules
step_in_order h Takes order = takes_in_order h.line.current.pdus h refl order

-- ---- all calls

pub begun_in_order : (size : ℕ) → IsInOrder (begun size)
begun_in_order size =
    record { given = []; taken = refl; current = refl; next = refl; marked = refl }

pub run_in_order : (calls : List Call) (h : History) → IsInOrder h → IsInOrder (history h calls)
run_in_order [] h order = order
run_in_order (call ∷ calls) h order =
    run_in_order calls (goes h call) (step_in_order h call order)

pub all_in_order : (calls : List Call) (size : ℕ) → IsInOrder (history (begun size) calls)
all_in_order calls size = run_in_order calls (begun size) (begun_in_order size)

-- the line of a history is the line behind its calls
settled_line : (h : History) → (settles h).line ≡ settled h.line
settled_line h =
    elim (h.line.finished && is_empty h.line.current.pdus)
    as (λ t. (if t then shifted h else h).line ≡ (if t then (shifted h).line else h.line)) [
      | true ↦ refl
      | false ↦ refl
    ]

taking_line : (pdus : List (List ℕ)) (h : History) → h.line.current.pdus ≡ pdus
    → (taking pdus h).line ≡ after h.line Takes
taking_line [] h is = rw is refl
taking_line (pdu ∷ pdus) h is = rw is (settled_line (with_taken pdu pdus h))

pub step_line : (h : History) (call : Call) → (goes h call).line ≡ after h.line call
step_line h (Admits Current pdu) = refl
step_line h (Admits Next pdu) = refl
step_line h (Ends which) = refl
step_line h Finishes = settled_line (with_finish h)
step_line h (OpensNext shut) = refl
step_line h (Tells which) = refl
step_line h (Acknowledges which ack) = refl
step_line h Takes = taking_line h.line.current.pdus h refl

pub run_line : (calls : List Call) (h : History)
    → (history h calls).line ≡ line_behind h.line calls
run_line [] h = refl
run_line (call ∷ calls) h =
    run_line calls (goes h call) ∙ ap (λ (x : Line). line_behind x calls) (step_line h call)

-- ---- what follows

-- all that was admitted is what was taken and then what is held, in order
pub all_there : (h : History) → IsInOrder h
    → joined h.past ++ (h.current ++ h.next)
    ≡ h.taken ++ (h.line.current.pdus ++ h.line.next.pdus)
all_there h order =
    let held = h.line.current.pdus ++ h.line.next.pdus in
    ap (λ (x : List (List ℕ)). joined h.past ++ (x ++ h.next)) order.current
    ∙ ap (λ (x : List (List ℕ)). joined h.past ++ ((order.given ++ h.line.current.pdus) ++ x))
    order.next
    ∙ ap (λ (x : List (List ℕ)). joined h.past ++ x)
    (append_assoc order.given h.line.current.pdus h.line.next.pdus)
    ∙ sym (append_assoc (joined h.past) order.given held)
    ∙ ap (λ (x : List (List ℕ)). x ++ held) (sym order.taken)

ended_of : (pdus : List (List ℕ)) (ended : Bool) → take_of pdus ended ≡ Ended
    → (pdus ≡ []) × (ended ≡ true)
ended_of [] true told = (refl, refl)
ended_of [] false told = absurd (cc)
ended_of (pdu ∷ pdus) ended told = absurd (cc)

-- where Ended is told nothing is left on the current channel, and END came
pub ended_is : (line : Line) → take_answer line ≡ Ended
    → (line.current.pdus ≡ []) × (is_ended line ≡ true)
ended_is line told = ended_of line.current.pdus (is_ended line) told

-- and all that came up to there was taken
pub ended_all : (h : History) → IsInOrder h → take_answer h.line ≡ Ended
    → (h.taken ≡ joined h.past ++ h.current)
    × ((some_ended h.past || h.line.current.ended) ≡ true)
ended_all h order told =
    let is = ended_is h.line told in (
      order.taken
          ∙ ap (λ (x : List (List ℕ)). joined h.past ++ x)
          (sym (order.current ∙ ap (λ (x : List (List ℕ)). order.given ++ x) is.0
          ∙ append-nil order.given)),
      ap (λ (x : Bool). x || h.line.current.ended) (sym order.marked) ∙ is.1,
    )
