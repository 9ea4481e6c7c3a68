-- one message more, by whose turn it is
use Rattle.law_order.proofs.Vocabulary.{◌≡◌, ℕ, ◌==◌, ◌&&◌, Bool, true, false, if◌then◌else◌, List, [], ◌∷◌, ◌++◌, inl, inr, refl, sym, subst, false≢true, and_parts}
use Rattle.rh_sig.specs.declared.named.Named.TheVariants as named
use Rattle.rh_server.specs.declared.state.Giving.{Giving}
use Rattle.law_moves.proofs.Vocabulary.{may_put, same_number, Named, OnLeg}
use Rattle.law_role_server.proofs.Vocabulary.{EndMark, Gate, lets_packet, Server, same_cookie, is_closing, is_put, is_nil}
use Rattle.law_role_server_rows.specs.Putting.Puts.{Turn, behind, behind_all, first_turn, os, PacketStands, Stands, StandFrom}

pub behind_more : (t : Turn) (log : List OnLeg) (one : OnLeg)
    → behind_all t (log ++ one ∷ []) ≡ behind (behind_all t log) one.1
behind_more t [] one = refl
behind_more t (first ∷ log) one = behind_more (behind t first.1) log one

pub stand_more : (t : Turn) (log : List OnLeg) (one : OnLeg) → StandFrom t log
    → Stands (behind_all t log) one → StandFrom t (log ++ one ∷ [])
stand_more t [] one all stands = (stands, tt)
stand_more t (first ∷ log) one all stands =
    (all.0, stand_more (behind t first.1) log one all.1 stands)

-- ---- what waits

-- what a gate lets go stands where it may
pub let_stands : (g : Gate) (t : Turn) (n : ℕ) (packet : Named)
    → (g.is_writing ≡ true → os n ≡ os t.writing) → lets_packet g packet ≡ true
    → PacketStands t (os n) packet
let_stands g t n (named.ConnC1 version window timeout) now e =
    now (and_parts g.is_writing _ e).0
let_stands g t n (named.InR1A3 to version window timeout) now e =
    now (and_parts g.is_writing _ e).0
let_stands g t n (named.InR2A3 to) now e = now (and_parts g.is_writing _ e).0
let_stands g t n (named.OutR1A1 to) now e = now (and_parts g.is_writing _ e).0
let_stands g t n (named.OutR1A5 to version timeout) now e = now (and_parts g.is_writing _ e).0
let_stands g t n named.OutR1A9 now e = now (and_parts g.is_writing _ e).0
let_stands g t n (named.AckTo to received window cookie) now e = by (to == 3) refl e
  where
    by : (b : Bool) → (to == 3) ≡ b
        → (if b then same_cookie cookie g.cookie else g.is_writing && may_put g.meter 56) ≡ true
        → PacketStands t (os n) (named.AckTo to received window cookie)
    by true is e = inr (same_number to 3 is, refl)
    by false is e = inl (now (and_parts g.is_writing _ e).0)
let_stands g t n packet now e = absurd (false≢true (and_parts g.is_writing false e).1)

-- ---- what the facts are about

pub record Seen : Type 0 where
  pub writing : ℕ
  pub end_mark : EndMark
  pub giving : Giving
  pub queue : List (List ℕ)

abbrev pub seen : Server → Seen
seen s = record {
  writing = s.writing;
  end_mark = s.end_mark;
  giving = s.giving;
  queue = s.queue;
}

-- the server writes by the turn; behind END/B1 nothing is left to put, nor is given
pub record Kept (x : Seen) (put : List OnLeg) : Type 0 where
  pub stand : StandFrom first_turn put
  pub writing : x.writing ≡ (behind_all first_turn put).writing
  pub ended : is_put x.end_mark ≡ (behind_all first_turn put).ended
  pub over : (behind_all first_turn put).over ≡ true
      → (is_closing x.giving ≡ true) × (is_nil x.queue ≡ true)

abbrev pub Holds : Server → List OnLeg → List OnLeg → Type 0
Holds s came put = Kept (seen s) put

pub same_holds : (s t : Server) (came put : List OnLeg) → seen t ≡ seen s → Holds s came put
    → Holds t came put
same_holds s t came put same h = subst (λ (x : Seen). Kept x put) (sym same) h

-- a message more
pub more : (x y : Seen) (put : List OnLeg) (one : OnLeg) → Stands (behind_all first_turn put) one
    → y.writing ≡ (behind (behind_all first_turn put) one.1).writing
    → is_put y.end_mark ≡ (behind (behind_all first_turn put) one.1).ended
    → ((behind (behind_all first_turn put) one.1).over ≡ true
    → (is_closing y.giving ≡ true) × (is_nil y.queue ≡ true))
    → Kept x put → Kept y (put ++ one ∷ [])
more x y put one stands writing ended over h =
    let is = sym (behind_more first_turn put one) in record {
      stand = stand_more first_turn put one h.stand stands;
      writing = subst (λ (t : Turn). y.writing ≡ t.writing) is writing;
      ended = subst (λ (t : Turn). is_put y.end_mark ≡ t.ended) is ended;
      over = subst (λ (t : Turn). t.over ≡ true
          → (is_closing y.giving ≡ true) × (is_nil y.queue ≡ true)) is over;
    }
