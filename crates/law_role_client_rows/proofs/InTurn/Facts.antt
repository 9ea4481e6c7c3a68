-- what a client knows of its turn, by what it put, and one message more
use Rattle.law_order.proofs.Vocabulary.{◌≡◌, ℕ, suc, Bool, true, false, true≢false, List, [], ◌∷◌, ◌++◌, refl, sym, ◌∙◌, ap, subst, false≢true}
use Rattle.law_moves.proofs.Vocabulary.{is_empty, Leg, Message, OnLeg}
use Rattle.law_role_client.proofs.Vocabulary.{ClientRole, is_in}
use Rattle.law_role_client_rows.specs.InTurn.Turns.{Turn, behind, behind_all, first_turn, Stands, StandFrom}

behind_more : (t : Turn) (log : List OnLeg) (one : OnLeg)
    → behind_all t (log ++ one ∷ []) ≡ behind (behind_all t log) one.1
behind_more t [] one = refl
behind_more t (first ∷ log) one = behind_more (behind t first.1) log one

stand_more : (t : Turn) (log : List OnLeg) (one : OnLeg) → StandFrom t log
    → Stands (behind_all t log) one → StandFrom t (log ++ one ∷ [])
stand_more t [] one all stands = (stands, tt)
stand_more t (first ∷ log) one all stands =
    (all.0, stand_more (behind t first.1) log one all.1 stands)

-- ---- what the facts are about

pub record View : Type 0 where
  pub writing : ℕ
  pub ended : Bool
  pub closing : Bool
  pub queue : List (List ℕ)
  -- an IN channel is replaced; the number of its successor, and whether END/A1 was put there
  pub replaces : Bool
  pub successor : ℕ
  pub successor_ended : Bool

abbrev pub view : ClientRole → View
view s = record {
  writing = s.writing.number;
  ended = s.writing.is_end_put;
  closing = s.is_closing;
  queue = s.queue;
  replaces = is_in s.replacement;
  successor = s.in_successor.number;
  successor_ended = s.in_successor.is_end_put;
}

-- the client writes by the turn; behind END/A1 nothing is left to put, nor is given; and the
-- successor has the next number, and no END/A1
pub record IsSo (v : View) (put : List OnLeg) : Type 0 where
  pub stand : StandFrom first_turn put
  pub writing : v.writing ≡ (behind_all first_turn put).writing
  pub ended : v.ended ≡ (behind_all first_turn put).ended
  pub over : (behind_all first_turn put).over ≡ true
      → (v.closing ≡ true) × (is_empty v.queue ≡ true)
  pub next : v.replaces ≡ true → v.successor ≡ suc v.writing
  pub fresh : v.replaces ≡ true → v.successor_ended ≡ false

abbrev pub Holds : ClientRole → List OnLeg → List OnLeg → Type 0
Holds s came put = IsSo (view s) put

pub starts : (v : View) → v.writing ≡ 1 → v.ended ≡ false → v.replaces ≡ false → IsSo v []
starts v writing ended idle = record {
  stand = tt;
  writing = writing;
  ended = ended;
  over = λ e. absurd (false≢true e);
  next = λ e. absurd (true≢false (sym e ∙ idle));
  fresh = λ e. absurd (true≢false (sym e ∙ idle));
}

-- ---- the replacement

-- none of an IN channel is under way
abbrev pub idle : View → View
idle v = record v { replaces = false }

pub idles : {v : View} {put : List OnLeg} → IsSo v put → IsSo (idle v) put
idles h = record {
  stand = h.stand;
  writing = h.writing;
  ended = h.ended;
  over = h.over;
  next = λ e. absurd (false≢true e);
  fresh = λ e. absurd (false≢true e);
}

-- with this successor
pub replacing : {v : View} {put : List OnLeg} → IsSo v put → (number : ℕ)
    → number ≡ suc v.writing
    → IsSo (record v { replaces = true; successor = number; successor_ended = false }) put
replacing h number is = record {
  stand = h.stand;
  writing = h.writing;
  ended = h.ended;
  over = h.over;
  next = λ e. is;
  fresh = λ e. refl;
}

-- ---- a message more

module _ {v : View} {put : List OnLeg} (h : IsSo v put) (leg : Leg) (m : Message) where
  -- which is put by a client that is so behind it
  pub more : (w : View) → Stands (behind_all first_turn put) (leg, m)
      → w.writing ≡ (behind (behind_all first_turn put) m).writing
      → w.ended ≡ (behind (behind_all first_turn put) m).ended
      → ((behind (behind_all first_turn put) m).over ≡ true
      → (w.closing ≡ true) × (is_empty w.queue ≡ true))
      → (w.replaces ≡ true → w.successor ≡ suc w.writing)
      → (w.replaces ≡ true → w.successor_ended ≡ false) → IsSo w (put ++ (leg, m) ∷ [])
  more w stands writing ended over next fresh =
      let is = sym (behind_more first_turn put (leg, m)) in record {
        stand = stand_more first_turn put (leg, m) h.stand stands;
        writing = subst (λ (t : Turn). w.writing ≡ t.writing) is writing;
        ended = subst (λ (t : Turn). w.ended ≡ t.ended) is ended;
        over = subst (λ (t : Turn). t.over ≡ true
            → (w.closing ≡ true) × (is_empty w.queue ≡ true)) is over;
        next = next;
        fresh = fresh;
      }

  -- which leaves the turn alone
  pub quiet : ((t : Turn) → behind t m ≡ t)
      → ((t : Turn) → v.writing ≡ t.writing → Stands t (leg, m)) → IsSo v (put ++ (leg, m) ∷ [])
  quiet same stands =
      let t = behind_all first_turn put in
      more v (stands t h.writing) (h.writing ∙ ap (λ (u : Turn). u.writing) (sym (same t)))
      (h.ended ∙ ap (λ (u : Turn). u.ended) (sym (same t)))
      (λ e. h.over (ap (λ (u : Turn). u.over) (sym (same t)) ∙ e)) h.next h.fresh
