-- one channel of a client changes
use Rattle.law_order.proofs.Vocabulary.{◌≡◌, ℕ, ◌<◌, false, true, true≢false, List, inl, refl, sym, ◌∙◌, subst, false≢true}
use Rattle.law_moves.proofs.Vocabulary.{Cookie, Leg, OnLeg, of_leg, HasBegunIn}
use Rattle.law_role_client.proofs.Vocabulary.{Opening, InChannel, OutChannel, ClientRole, is_up, is_put, unopened_in, is_in, ci, IsWithin}
use Rattle.law_role_client.proofs.Sending.Logs.{within_so}
use Rattle.law_role_client.proofs.Sending.Facts.{SeenIn, seen_in, seen_out, put_bytes, IsCookieOf, IsOfNone, IsKnownOut, IsKnownIn, IsNumbered, IsStill, Kept}

module _ (Comes : Leg → Cookie → Type 0) where
  -- ---- one channel changes

  -- none is there
  pub unknown : (number lifetime : ℕ) (came put : List OnLeg) → put_bytes put number ≡ 0
      → IsKnownIn Comes (seen_in (unopened_in number lifetime)) came put
  unknown number lifetime came put none = record {
    counted = sym none;
    edge = inl refl;
    told = inl refl;
    begun = λ e. absurd (false≢true e);
    comes = λ e. absurd (false≢true e);
  }

  -- it has come up
  pub known_up : (x : SeenIn) (cookie : Cookie) (opening : Opening) (came put : List OnLeg)
      → is_up x.opening ≡ false → is_put opening ≡ false → Comes (ci x.number) cookie
      → IsKnownIn Comes x came put
      → IsKnownIn Comes (record x { cookie = cookie; opening = opening }) came put
  known_up x cookie opening came put down unput comes h = record {
    counted = h.counted;
    edge = within_so (IsCookieOf x)
        (IsCookieOf (record x { cookie = cookie; opening = opening })) came x.window.edge
        (λ other is. absurd (true≢false (sym is.0 ∙ down))) h.edge;
    told = h.told;
    begun = λ e. absurd (true≢false (sym e ∙ unput));
    comes = λ e. comes;
  }

  -- more was put of what it begins with
  pub known_begun : (x : SeenIn) (opening : Opening) (came put : List OnLeg)
      → is_up x.opening ≡ true → is_up opening ≡ true
      → (is_put opening ≡ true → HasBegunIn x.cookie (of_leg (ci x.number) put))
      → IsKnownIn Comes x came put → IsKnownIn Comes (record x { opening = opening }) came put
  known_begun x opening came put up still_up begun h = record {
    counted = h.counted;
    edge = within_so (IsCookieOf x) (IsCookieOf (record x { opening = opening })) came
        x.window.edge
        (λ cookie is. (still_up, is.1)) h.edge;
    told = h.told;
    begun = begun;
    comes = λ e. h.comes up;
  }

  -- its in proxy told its window
  pub known_told : (x : SeenIn) (window : ℕ) (came put : List OnLeg)
      → put_bytes put x.number ≡ 0 → IsWithin IsOfNone came window → IsKnownIn Comes x came put
      → IsKnownIn Comes (record x {
        window = record { sent = 0; edge = window };
        told = window;
      }) came put
  known_told x window came put none is h = record {
    counted = sym none;
    edge = within_so IsOfNone (IsCookieOf x) came window (λ cookie never. absurd never) is;
    told = is;
    begun = h.begun;
    comes = h.comes;
  }

  -- its edge is told anew
  pub known_edge : (x : SeenIn) (edge : ℕ) (came put : List OnLeg)
      → IsWithin (IsCookieOf x) came edge → IsKnownIn Comes x came put
      → IsKnownIn Comes (record x { window = record (x.window) { edge = edge } }) came put
  known_edge x edge came put is h = record {
    counted = h.counted;
    edge = is;
    told = h.told;
    begun = h.begun;
    comes = h.comes;
  }

  -- ---- the client with the channel

  pub with_writing : (s : ClientRole) (c : InChannel) (came put : List OnLeg)
      → c.number ≡ s.writing.number → IsKnownIn Comes (seen_in c) came put
      → IsStill s.phase (seen_in c) → Kept Comes s came put
      → Kept Comes (record s { writing = c }) came put
  with_writing s c came put e known still h =
      let so = h.so in
      record {
        so = record {
          numbers = subst (λ (n : ℕ). IsNumbered n s.in_successor.number s.leaving.number
              (is_in s.replacement) put) (sym e) so.numbers;
          logs = so.logs;
          writing = known;
          in_successor = so.in_successor;
          leaving = so.leaving;
          current = so.current;
          out_successor = so.out_successor;
        };
        still = still;
      }

  pub with_successor : (s : ClientRole) (c : InChannel) (came put : List OnLeg)
      → c.number ≡ s.in_successor.number → IsKnownIn Comes (seen_in c) came put
      → Kept Comes s came put → Kept Comes (record s { in_successor = c }) came put
  with_successor s c came put e known h =
      let so = h.so in
      record {
        so = record {
          numbers = subst (λ (n : ℕ). IsNumbered s.writing.number n s.leaving.number
              (is_in s.replacement) put) (sym e) so.numbers;
          logs = so.logs;
          writing = so.writing;
          in_successor = known;
          leaving = so.leaving;
          current = so.current;
          out_successor = so.out_successor;
        };
        still = h.still;
      }

  pub with_leaving : (s : ClientRole) (c : InChannel) (came put : List OnLeg)
      → c.number < s.writing.number → IsKnownIn Comes (seen_in c) came put
      → Kept Comes s came put → Kept Comes (record s { leaving = c }) came put
  with_leaving s c came put l known h =
      let so = h.so in
      record {
        so = record {
          numbers = record {
            positive = so.numbers.positive;
            next = so.numbers.next;
            before = l;
            none = so.numbers.none;
            later = so.numbers.later;
          };
          logs = so.logs;
          writing = so.writing;
          in_successor = so.in_successor;
          leaving = known;
          current = so.current;
          out_successor = so.out_successor;
        };
        still = h.still;
      }

  pub with_current : (s : ClientRole) (c : OutChannel) (came put : List OnLeg)
      → IsKnownOut Comes (seen_out c) → Kept Comes s came put
      → Kept Comes (record s { current = c }) came put
  with_current s c came put known h =
      let so = h.so in
      record {
        so = record {
          numbers = so.numbers;
          logs = so.logs;
          writing = so.writing;
          in_successor = so.in_successor;
          leaving = so.leaving;
          current = known;
          out_successor = so.out_successor;
        };
        still = h.still;
      }

  pub with_out_successor : (s : ClientRole) (c : OutChannel) (came put : List OnLeg)
      → IsKnownOut Comes (seen_out c) → Kept Comes s came put
      → Kept Comes (record s { out_successor = c }) came put
  with_out_successor s c came put known h =
      let so = h.so in
      record {
        so = record {
          numbers = so.numbers;
          logs = so.logs;
          writing = so.writing;
          in_successor = so.in_successor;
          leaving = so.leaving;
          current = so.current;
          out_successor = known;
        };
        still = h.still;
      }
