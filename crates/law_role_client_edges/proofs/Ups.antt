-- what is known of a client's channels stays so where a leg is up
use Rattle.law_order.proofs.Vocabulary.{◌≡◌, ℕ, suc, ◌==◌, Bool, true, false, true≢false, not, ◌&&◌, ◌||◌, List, inl, arith, refl, sym, ap, ◌∙◌, subst, and_parts}
use Rattle.law_moves.proofs.Vocabulary.{by_test, same_number, Cookie, Line, after_open_next, Leg, LegKind, ClientOut, OutServer, ClientIn, InServer, OnLeg}
use Rattle.law_role_client.proofs.Vocabulary.{ClientRole, is_up, in_up, out_up, is_in, is_out, is_opening, ci, is_writing, is_in_successor, is_current, is_out_successor, wants_by, with_next, up_by}
use Rattle.law_role_client.proofs.Counted.Rows.{in_way_of, is_past}
use Rattle.law_role_client.proofs.Counted.Views.{Way, way_of, is_in_way, is_out_way, InIsAsked, InIsAnswered, OutIsAsked, OutIsAnswered, OutIsSwitched, OutIsFinished, Free}
use Rattle.law_role_client_edges.proofs.Facts.{seen, is_free, IsAcked, live}
use Rattle.law_role_client_edges.proofs.Replaced.{Of, Holds, next_opens}

-- what is wanted, where it is the first, and not the second; and where it is not the first
wanted_first : (a b c d : Bool) → (a && not b) || (c && not d) ≡ true → c ≡ false → b ≡ false
wanted_first true false c d e o = refl
wanted_first true true true d e o = absurd (true≢false o)
wanted_first true true false d e o = absurd (true≢false (sym e))
wanted_first false b true d e o = absurd (true≢false o)
wanted_first false b false d e o = absurd (true≢false (sym e))

wanted_second : (a b c d : Bool) → (a && not b) || (c && not d) ≡ true → a ≡ false
    → (c ≡ true) × (d ≡ false)
wanted_second true b c d e o = absurd (true≢false o)
wanted_second false b true true e o = absurd (true≢false (sym e))
wanted_second false b true false e o = (refl, refl)
wanted_second false b false d e o = absurd (true≢false (sym e))

-- the successor has another number
apart : (n m k : ℕ) (b : Bool) → n ≡ k → (b ≡ true → m ≡ suc k) → b && (n == m) ≡ false
apart n m k b same next = by (b && (n == m)) refl
  where
    by : (t : Bool) → b && (n == m) ≡ t → t ≡ false
    by true e =
        let parts = and_parts b (n == m) e in
        let number = next parts.0 in
        let is = same_number n m parts.1 in absurd (omega (arith, number, is, same))
    by false e = refl

free_of_out : (w : Way) → is_out_way w ≡ true → is_free w ≡ false
free_of_out Free e = absurd (true≢false (sym e))
free_of_out InIsAsked e = refl
free_of_out InIsAnswered e = refl
free_of_out OutIsAsked e = refl
free_of_out OutIsAnswered e = refl
free_of_out OutIsSwitched e = refl
free_of_out OutIsFinished e = refl

module _ (Answers Rises : Type 0) (Comes : Leg → Cookie → Type 0) where
  module _ (s : ClientRole) (cookie : Cookie) (came put : List OnLeg)
      (h : Holds Answers Rises Comes came put s) where
    abbrev Now : ClientRole → Type 0
    Now t = Holds Answers Rises Comes came put t

    -- ---- IN channels

    writing_up : is_up s.writing.opening ≡ false → Comes (ci s.writing.number) cookie
        → Now (record s { writing = in_up s.writing cookie })
    writing_up down comes = record {
      fresh = h.fresh;
      ins = record {
        follows = h.ins.follows;
        next_up = h.ins.next_up;
        next_in = h.ins.next_in;
        before = h.ins.before;
        comes = λ e. comes;
        next_comes = h.ins.next_comes;
        leaving_comes = h.ins.leaving_comes;
        counted = h.ins.counted;
        up = λ a o. refl;
        told = h.ins.told;
        next_told = h.ins.next_told;
        leaving_told = h.ins.leaving_told;
        knows = λ a o own. absurd (true≢false (sym (h.ins.up a o) ∙ down));
        knows_next = h.ins.knows_next;
        knows_leaving = h.ins.knows_leaving;
      };
      outs = h.outs;
      over = h.over;
    }

    in_successor_up : is_in_way (way_of s.replacement) ≡ true
        → is_up s.in_successor.opening ≡ false → Comes (ci s.in_successor.number) cookie
        → Now (record s { in_successor = in_up s.in_successor cookie })
    in_successor_up is down comes = record {
      fresh = h.fresh;
      ins = record {
        follows = h.ins.follows;
        next_up = λ e. refl;
        next_in = λ e. is;
        before = h.ins.before;
        comes = h.ins.comes;
        next_comes = λ e. comes;
        leaving_comes = h.ins.leaving_comes;
        counted = h.ins.counted;
        up = h.ins.up;
        told = h.ins.told;
        next_told = h.ins.next_told;
        leaving_told = h.ins.leaving_told;
        knows = h.ins.knows;
        knows_next = λ a e own. absurd (true≢false (sym (h.ins.next_up e) ∙ down));
        knows_leaving = h.ins.knows_leaving;
      };
      outs = h.outs;
      over = h.over;
    }

    in_fits : (n : ℕ) → wants_by s n ClientIn ≡ true → Comes (ci n) cookie
        → Now (up_by s n cookie ClientIn)
    in_fits n wants comes =
        by_test Now (is_writing s n) (record s { writing = in_up s.writing cookie })
        (record s { in_successor = in_up s.in_successor cookie })
        (λ e. let same = same_number n s.writing.number e in
        writing_up (wanted_first (is_writing s n) (is_up s.writing.opening) (is_in_successor s n)
        (is_up s.in_successor.opening) wants
        (apart n s.in_successor.number s.writing.number (is_in s.replacement) same
        (λ is. h.ins.follows (in_way_of s.replacement is))))
        (subst (λ (k : ℕ). Comes (ci k) cookie) same comes))
        (λ e. let is = wanted_second (is_writing s n) (is_up s.writing.opening)
        (is_in_successor s n) (is_up s.in_successor.opening) wants e in
        let parts = and_parts (is_in s.replacement) (n == s.in_successor.number) is.0 in
        in_successor_up (in_way_of s.replacement parts.0) is.1
        (subst (λ (k : ℕ). Comes (ci k) cookie) (same_number n s.in_successor.number parts.1)
        comes))

    -- ---- OUT channels

    current_up : is_up s.current.opening ≡ false
        → Now (record s { current = out_up s.current cookie })
    current_up down = record {
      fresh = h.fresh;
      ins = h.ins;
      outs = record {
        follows = h.outs.follows;
        next_up = h.outs.next_up;
        up = λ a o. refl;
        size_is = h.outs.size_is;
        acked = λ a. by a (is_opening s.phase) refl;
        next_window = h.outs.next_window;
        next_held = h.outs.next_held;
        next_size = h.outs.next_size;
        begun = λ e. absurd (true≢false (sym e));
        next_begun = h.outs.next_begun;
        finished = h.outs.finished;
        there = h.outs.there;
      };
      over = h.over;
    }
      where
        by : Rises → (b : Bool) → is_opening s.phase ≡ b
            → IsAcked s.config.window cookie s.line.current.window.told put
        by a true o =
            let told = ap (λ (l : Line). l.current.window.told) (h.fresh o).line_is in
            inl (omega (arith, told))
        by a false o = absurd (true≢false (sym (h.outs.up a o) ∙ down))

    named_anew : is_up s.out_successor.opening ≡ false
        → Now (record s { out_successor = out_up s.out_successor cookie })
    named_anew down = record {
      fresh = h.fresh;
      ins = h.ins;
      outs = record {
        follows = h.outs.follows;
        next_up = λ e. refl;
        up = h.outs.up;
        size_is = h.outs.size_is;
        acked = h.outs.acked;
        next_window = h.outs.next_window;
        next_held = h.outs.next_held;
        next_size = h.outs.next_size;
        begun = h.outs.begun;
        next_begun = λ e. absurd (true≢false (sym e));
        finished = h.outs.finished;
        there = h.outs.there;
      };
      over = h.over;
    }

    out_successor_up : is_opening s.phase ≡ false → is_up s.out_successor.opening ≡ false
        → Now (record s {
          out_successor = out_up s.out_successor cookie;
          line = with_next s.line;
        })
    out_successor_up o down =
        by_test (λ (l : Line). Of Answers Rises Comes came put
        (record (seen (record s { out_successor = out_up s.out_successor cookie })) { line = l }))
        s.line.has_next s.line (after_open_next s.line false) (λ e. named_anew down)
        (λ e. next_opens Answers Rises Comes came put
        (seen (record s { out_successor = out_up s.out_successor cookie })) o (named_anew down))

    out_fits : (n : ℕ) → wants_by s n ClientOut ≡ true → Now (up_by s n cookie ClientOut)
    out_fits n wants =
        by_test Now (is_current s n) (record s { current = out_up s.current cookie })
        (record s { out_successor = out_up s.out_successor cookie; line = with_next s.line })
        (λ e. let same = same_number n s.current.number e in
        current_up (wanted_first (is_current s n) (is_up s.current.opening)
        (is_out_successor s n) (is_up s.out_successor.opening) wants
        (apart n s.out_successor.number s.current.number (is_out s.replacement) same
        (λ is. h.outs.follows (is_past s.replacement is)))))
        (λ e. let is = wanted_second (is_current s n) (is_up s.current.opening)
        (is_out_successor s n) (is_up s.out_successor.opening) wants e in
        out_successor_up (live Answers Rises Comes (seen s) came put
        (free_of_out (way_of s.replacement) (is_past s.replacement
        (and_parts (is_out s.replacement) (n == s.out_successor.number) is.0).0)) h).0 is.1)

    -- it is the leg of a channel in use, or of its successor
    pub up_fits : (n : ℕ) (kind : LegKind) → wants_by s n kind ≡ true
        → Comes (record { kind = kind; number = n }) cookie → Now (up_by s n cookie kind)
    up_fits n ClientOut wants comes = out_fits n wants
    up_fits n ClientIn wants comes = in_fits n wants comes
    up_fits n OutServer wants comes = h
    up_fits n InServer wants comes = h
