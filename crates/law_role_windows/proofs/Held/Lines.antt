-- the calls of a line keep what it holds within its windows
use Rattle.law_order.proofs.Vocabulary.{◌≡◌, ℕ, List, [], ◌∷◌, Bool, true, false, ◌&&◌, Some, None, refl, ◌∙◌, subst, arith, if◌then◌else◌, IfSome, Option}
use Rattle.rh_line.proofs.Sound.{first_sound, step_sound, within}
use Rattle.rh_line.specs.Lines.{taken}
use Rattle.rh_line.specs.Histories.{Ends, Tells, Takes, after}
use Rattle.law_moves.proofs.Vocabulary.{IsWindow, Ack, by_test, Which, Current, Next, Incoming, Line, IsLine, with_channel, first_line, is_empty, released, settled, moved_on, Call, Admits, Finishes, OpensNext, Acknowledges, CanCall, IsWithin}
use Rattle.law_role_windows.specs.Held.{Holds, HoldsAtMost}

-- it counts what it holds, in windows of this size
pub record IsKept (window : ℕ) (line : Line) : Type 0 where
  pub sound : IsLine line
  pub size : line.size ≡ window

pub first_kept : (window : ℕ) → IsWindow window → IsKept window (first_line window)
first_kept window is = record { sound = first_sound window is; size = refl }

-- ---- the size stays

settled_size : (line : Line) → (settled line).size ≡ line.size
settled_size line =
    by_test (λ (l : Line). l.size ≡ line.size) (line.finished && is_empty line.current.pdus)
    (moved_on line) line (λ e. refl) (λ e. refl)

taken_size : (pdus : List (List ℕ)) (line : Line) → (taken pdus line).size ≡ line.size
taken_size [] line = refl
taken_size (pdu ∷ pdus) line =
    settled_size (record line { current = released (pdu ∷ pdus) line.current })

size_stays : (line : Line) (call : Call) → (after line call).size ≡ line.size
size_stays line (Admits Current pdu) = refl
size_stays line (Admits Next pdu) = refl
size_stays line (Ends Current) = refl
size_stays line (Ends Next) = refl
size_stays line Finishes = settled_size (record line { finished = true })
size_stays line (OpensNext shut) = refl
size_stays line (Tells Current) = refl
size_stays line (Tells Next) = refl
size_stays line (Acknowledges Current ack) = refl
size_stays line (Acknowledges Next ack) = refl
size_stays line Takes = taken_size line.current.pdus line

pub call_kept : (window : ℕ) (line : Line) (call : Call) → CanCall line call
    → IsKept window line → IsKept window (after line call)
call_kept window line call can k = record {
  sound = step_sound line call k.sound can;
  size = size_stays line call ∙ k.size;
}

-- ---- whether there is a next channel

pub next_with : (line : Line) (which : Which) (c : Incoming)
    → (with_channel line which c).has_next ≡ line.has_next
next_with line Current c = refl
next_with line Next c = refl

-- a next channel that is there behind a take was there before
pub next_taken : (pdus : List (List ℕ)) (line : Line) → (taken pdus line).has_next ≡ true
    → line.has_next ≡ true
next_taken [] line = λ e. e
next_taken (pdu ∷ pdus) line =
    let t : Line = record line { current = released (pdu ∷ pdus) line.current } in
    by_test (λ (l : Line). l.has_next ≡ true → line.has_next ≡ true)
    (t.finished && is_empty t.current.pdus) (moved_on t) t (λ e h. absurd cc) (λ e h. h)

-- ---- acknowledgements

pub due_else : (b : Bool) (o : Option Ack)
    → IfSome (if b then None else o) (λ (ack : Ack). o ≡ Some ack)
due_else true o = tt
due_else false None = tt
due_else false (Some ack) = refl

pub due_then : (b : Bool) (o : Option Ack)
    → IfSome (if b then o else None) (λ (ack : Ack). o ≡ Some ack)
due_then true None = tt
due_then true (Some ack) = refl
due_then false o = tt

-- ---- what is held

channel_holds : (window : ℕ) (c : Incoming) → IsWithin c window → HoldsAtMost window c
channel_holds window c w = record {
  within = w;
  bytes = omega (arith, w.told, w.advertised);
}

pub line_holds : (window : ℕ) (line : Line) → IsKept window line → Holds window line
line_holds window line k = record {
  size = k.size;
  current = channel_holds window line.current
      (subst (IsWithin line.current) k.size (within line Current k.sound));
  next = λ e. channel_holds window line.next
      (subst (IsWithin line.next) k.size (within line Next k.sound));
}
