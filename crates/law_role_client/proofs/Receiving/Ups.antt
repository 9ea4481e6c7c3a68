-- what is known of a client's OUT channels stays so where a leg is up
use Rattle.law_order.proofs.Vocabulary.{◌≡◌, ℕ, ◌==◌, Bool, true, false, true≢false, not, ◌&&◌, ◌||◌, List, IsTrue, arith, refl, sym, subst, and_parts, nat_tests}
use Rattle.law_moves.proofs.Vocabulary.{by_test, same_number, Cookie, Line, after_open_next, Leg, LegKind, ClientOut, OutServer, ClientIn, InServer, OnLeg}
use Rattle.law_role_client.proofs.Vocabulary.{ClientRole, is_up, out_up, is_out, co, is_writing, is_current, is_out_successor, wants_by, with_next, up_by, up}
use Rattle.law_role_client.proofs.Receiving.Facts.{Seen, Known}
use Rattle.law_role_client.proofs.Receiving.Replaced.{channel, seen, Of, next_opens}
use Rattle.law_role_client.proofs.Receiving.Rows.{Fits, leg_is}

module _ (window : ℕ) (known : Known) where
  module _ (s : ClientRole) (cookie : Cookie) (came put : List OnLeg)
      (h : Fits window known s came put) where
    current_up : known.Comes (co s.current.number) cookie
        → Fits window known (record s { current = out_up s.current cookie }) came put
    current_up comes = record {
      numbered = record {
        window_is = h.numbered.window_is;
        from_one = h.numbered.from_one;
        follows = h.numbered.follows;
        later = λ e. refl;
        next_up = h.numbered.next_up;
      };
      lined = h.lined;
      counted = h.counted;
      risen = record { now = λ e. comes; next = h.risen.next; first = λ so e. refl };
      says = h.says;
      up = λ so e. refl;
      acks = h.acks;
    }

    successor_up : known.Comes (co s.out_successor.number) cookie
        → Fits window known (record s {
          out_successor = out_up s.out_successor cookie;
          line = with_next s.line;
        }) came put
    successor_up comes =
        by_test (λ (l : Line). Of window known came put (record named_anew { line = l }))
        s.line.has_next s.line (after_open_next s.line false) (λ e. named_up)
        (λ e. next_opens window known came put named_anew named_up)
      where
        named_anew : Seen
        named_anew = record (seen s) { successor = channel (out_up s.out_successor cookie) }

        named_up : Of window known came put named_anew
        named_up = record {
          numbered = record {
            window_is = h.numbered.window_is;
            from_one = h.numbered.from_one;
            follows = h.numbered.follows;
            later = h.numbered.later;
            next_up = λ e. refl;
          };
          lined = h.lined;
          counted = h.counted;
          risen = record {
            now = h.risen.now;
            next = λ e f. comes;
            first = h.risen.first;
          };
          says = h.says;
          up = h.up;
          acks = h.acks;
        }

    -- it is the leg of the current channel, or of its successor
    pub up_fits : (leg : Leg) (kind : LegKind) → leg.kind ≡ kind
        → IsTrue (wants_by s leg.number kind) → known.Comes leg cookie
        → Fits window known (up_by s leg.number cookie kind) came put
    up_fits leg ClientOut kind wants comes =
        by_test (λ (t : ClientRole). Fits window known t came put) (is_current s n)
        (record s { current = out_up s.current cookie })
        (record s {
          out_successor = out_up s.out_successor cookie;
          line = with_next s.line;
        })
        (λ e. current_up (on_leg s.current.number (same_number n s.current.number e)))
        (λ e. successor_up (on_leg s.out_successor.number
        (same_number n s.out_successor.number
        (and_parts (is_out s.replacement) (n == s.out_successor.number)
        (second (is_current s n) (not (is_up s.current.opening)) (is_out_successor s n)
        (not (is_up s.out_successor.opening)) e wants)).1)))
      where
        n : ℕ
        n = leg.number

        on_leg : (k : ℕ) → n ≡ k → known.Comes (co k) cookie
        on_leg k e =
            subst (λ (other : Leg). known.Comes other cookie) (leg_is leg k kind e) comes

        second : (c u o v : Bool) → c ≡ false → IsTrue ((c && u) || (o && v)) → o ≡ true
        second true u o v f t = absurd (true≢false f)
        second false u true v f t = refl
        second false u false v f t = absurd (true≢false (sym t))
    up_fits leg ClientIn kind wants comes =
        by_test (λ (t : ClientRole). Fits window known t came put) (is_writing s leg.number) _ _
        (λ e. h) (λ e. h)
    up_fits leg OutServer kind wants comes = h
    up_fits leg InServer kind wants comes = h

-- the leg of the first channel comes up
pub first_up : (s : ClientRole) (leg : Leg) (cookie : Cookie) → leg ≡ co 1
    → (up s leg cookie).current.number ≡ 1 → is_up (up s leg cookie).current.opening ≡ true
first_up s leg cookie is =
    subst (λ (other : Leg). IsUp (up s other cookie)) (sym is)
    (by_test IsUp (is_current s 1) (record s { current = out_up s.current cookie })
    (record s {
      out_successor = out_up s.out_successor cookie;
      line = with_next s.line;
    })
    (λ e f. refl) (λ e f. absurd (grind (arith, nat_tests, e, f))))
  where
    IsUp : ClientRole → Type 0
    IsUp t = t.current.number ≡ 1 → is_up t.current.opening ≡ true
