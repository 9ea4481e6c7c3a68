-- the bytes of a piece, one after the other: what they make whole is taken by moves
use Rattle.law_order.proofs.Vocabulary.{◌≡◌, ℕ, List, [], ◌∷◌, ◌++◌, append_assoc, Bool, true, false, refl, sym, ap, ◌∙◌, subst, ◌&&◌, ◌||◌, not, IsTrue, concat, Option, append-nil, flat_map-append}
use Rattle.law_moves.proofs.Vocabulary.{each_append, Pipe, Leg, hear_none, NearEnd, is_over, is_ended, is_marked, Rules, Message, Turn, hear, hear_byte, heard, is_stopped, Passage, OnLeg, is_in_use, IsHeld, on_leg, messages_in, message_in, is_deaf}
use Rattle.law_moves.proofs.Leading.{leads_none, leads_then}
use Rattle.law_moves.proofs.Takings.{byte_takes}
use Rattle.law_moves.specs.Carrying.{Takes}

pub on_leg_append : (leg : Leg) (xs ys : List Message)
    → on_leg leg (xs ++ ys) ≡ on_leg leg xs ++ on_leg leg ys
on_leg_append leg [] ys = refl
on_leg_append leg (x ∷ xs) ys = ap (λ (l : List OnLeg). (leg, x) ∷ l) (on_leg_append leg xs ys)

pub concat_append : (fs gs : List (List ℕ)) → concat (fs ++ gs) ≡ concat fs ++ concat gs
concat_append [] gs = refl
concat_append (f ∷ fs) gs =
    ap (λ (x : List ℕ). f ++ x) (concat_append fs gs) ∙ sym (append_assoc f (concat fs) (concat gs))

-- what is logged of frames, and then of others
logged : (leg : Leg) (pipe : Option Pipe) (old : List OnLeg) (fs gs : List (List ℕ))
    → (old ++ on_leg leg (messages_in pipe fs)) ++ on_leg leg (messages_in pipe gs)
    ≡ old ++ on_leg leg (messages_in pipe (fs ++ gs))
logged leg pipe old fs gs =
    let xs = messages_in pipe fs in
    let ys = messages_in pipe gs in
    append_assoc old (on_leg leg xs) (on_leg leg ys)
    ∙ ap (λ (l : List OnLeg). old ++ l)
    (sym (on_leg_append leg xs ys)
    ∙ ap (on_leg leg) (sym (flat_map-append (message_in pipe) fs gs)))

module _ {S : Type 0} (rules : Rules S) where
  -- nothing is heard any more
  pub takes_none : (p : Passage S) (u : Turn S) (piece : List ℕ) → p.role ≡ u.role
      → is_deaf rules u ≡ true → IsHeld u.end → Takes rules p u.end u piece
  takes_none p u piece is deaf held = record {
    passage = p;
    leads = leads_none rules p;
    role = is;
    frames = [];
    each = tt;
    came = sym (append-nil p.came);
    put = refl;
    cut = λ fr. record {
      rest = u.end.intake.held ++ piece;
      joined = refl;
      left = λ h. absurd cc;
      stage = λ h. absurd cc;
    };
    leg = refl;
    pipe = refl;
    held = held;
  }

  -- no bytes
  takes_empty : (p : Passage S) (u : Turn S) → p.role ≡ u.role → IsHeld u.end
      → Takes rules p u.end u []
  takes_empty p u is held = record {
    passage = p;
    leads = leads_none rules p;
    role = is;
    frames = [];
    each = tt;
    came = sym (append-nil p.came);
    put = refl;
    cut = λ fr. record {
      rest = u.end.intake.held;
      joined = append-nil u.end.intake.held;
      left = λ h. refl;
      stage = λ h. fr;
    };
    leg = refl;
    pipe = refl;
    held = held;
  }

  -- a piece, and then another one on a leg that is still heard
  takes_then : (p : Passage S) (end : NearEnd) (u v : Turn S) (xs ys : List ℕ)
      → (first : Takes rules p end u xs) → is_deaf rules u ≡ false
      → Takes rules first.passage u.end v ys → Takes rules p end v (xs ++ ys)
  takes_then p end u v xs ys first heard_on next = record {
    passage = next.passage;
    leads = leads_then rules p first.passage next.passage first.leads next.leads;
    role = next.role;
    frames = first.frames ++ next.frames;
    each = each_append first.frames next.frames first.each next.each;
    came =
        next.came
        ∙ ap (λ (l : Leg). first.passage.came ++ on_leg l (messages_in u.end.pipe next.frames))
        first.leg
        ∙ ap (λ (k : Option Pipe). first.passage.came ++ on_leg end.leg
        (messages_in k next.frames)) first.pipe
        ∙ ap (λ (l : List OnLeg). l ++ on_leg end.leg (messages_in end.pipe next.frames))
        first.came
        ∙ logged end.leg end.pipe p.came first.frames next.frames;
    put = next.put ∙ first.put;
    cut = λ fr.
        let a = first.cut fr in
        let b = next.cut (a.stage heard_on) in
        record {
          rest = b.rest;
          joined =
              sym (append_assoc end.intake.held xs ys)
              ∙ ap (λ (l : List ℕ). l ++ ys) a.joined
              ∙ append_assoc (concat first.frames) a.rest ys
              ∙ ap (λ (l : List ℕ). concat first.frames ++ l)
              (ap (λ (l : List ℕ). l ++ ys) (a.left heard_on) ∙ b.joined)
              ∙ sym (append_assoc (concat first.frames) (concat next.frames) b.rest)
              ∙ ap (λ (l : List ℕ). l ++ b.rest)
              (sym (concat_append first.frames next.frames));
          left = b.left;
          stage = b.stage;
        };
    leg = next.leg ∙ first.leg;
    pipe = next.pipe ∙ first.pipe;
    held = next.held;
  }

  -- and another one that is not heard any more
  takes_deaf : (p : Passage S) (end : NearEnd) (u : Turn S) (xs ys : List ℕ)
      → Takes rules p end u xs → is_deaf rules u ≡ true → Takes rules p end u (xs ++ ys)
  takes_deaf p end u xs ys first deaf = record {
    passage = first.passage;
    leads = first.leads;
    role = first.role;
    frames = first.frames;
    each = first.each;
    came = first.came;
    put = first.put;
    cut = λ fr.
        let a = first.cut fr in
        record {
          rest = a.rest ++ ys;
          joined =
              sym (append_assoc end.intake.held xs ys)
              ∙ ap (λ (l : List ℕ). l ++ ys) a.joined
              ∙ append_assoc (concat first.frames) a.rest ys;
          left = λ h. absurd cc;
          stage = λ h. absurd cc;
        };
    leg = first.leg;
    pipe = first.pipe;
    held = first.held;
  }

  pub hear_deaf : (now : ℕ) (t : Turn S) (bs : List ℕ) → is_deaf rules t ≡ true
      → hear rules now t bs ≡ t
  unfolding hear hear_byte
  hear_deaf now t [] h = refl
  hear_deaf now t (b ∷ bs) h = rw h (hear_deaf now t bs h)

  -- a leg that is heard is in use
  pub in_use : (end : NearEnd) (role : S) → is_over rules end role ≡ false
      → IsTrue (is_in_use rules role end.leg)
  in_use end role h =
      by (is_marked end.standing) (rules.is_done role end.leg) (is_ended (rules.phase role)) h
    where
      by : (marked done ended : Bool) → (marked || (done || ended)) ≡ false
          → IsTrue (not ended && not done)
      by true done ended h = absurd cc
      by false true ended h = absurd cc
      by false false true h = absurd cc
      by false false false h = refl

  hear_on : (now : ℕ) (t : Turn S) (b : ℕ) (bs : List ℕ) → is_deaf rules t ≡ false
      → hear rules now t (b ∷ bs) ≡ hear rules now (heard rules now t.end t.role b) bs
  unfolding hear hear_byte
  hear_on now t b bs h = rw h refl

  over_of : (t : Turn S) → is_deaf rules t ≡ false → is_over rules t.end t.role ≡ false
  over_of t h = by (is_stopped t.stop) (is_over rules t.end t.role) h
    where
      by : (stopped over : Bool) → (stopped || over) ≡ false → over ≡ false
      by true over h = absurd cc
      by false over h = h

  first_byte : (now : ℕ) (p : Passage S) (t : Turn S) (b : ℕ) → p.role ≡ t.role
      → is_deaf rules t ≡ false → IsHeld t.end
      → Takes rules p t.end (heard rules now t.end t.role b) (b ∷ [])
  first_byte now p t b is heard_on held =
      subst (λ (r : S). Takes rules p t.end (heard rules now t.end r b) (b ∷ [])) is
      (byte_takes rules now p t.end b
      (subst (λ (r : S). IsTrue (is_in_use rules r t.end.leg)) (sym is)
      (in_use t.end t.role (over_of t heard_on))) held)

  pub piece_takes : (now : ℕ) (p : Passage S) (t : Turn S) (piece : List ℕ) → p.role ≡ t.role
      → IsHeld t.end → Takes rules p t.end (hear rules now t piece) piece
  piece_takes now p t [] is held = none (hear rules now t []) (hear_none rules now t)
    where
      none : (u : Turn S) → u ≡ t → Takes rules p t.end u []
      none u same = subst (λ (x : Turn S). Takes rules p t.end x []) (sym same)
          (takes_empty p t is held)
  piece_takes now p t (b ∷ bs) is held =
      elim (is_deaf rules t) as (λ d. is_deaf rules t ≡ d
      → Takes rules p t.end (hear rules now t (b ∷ bs)) (b ∷ bs)) [
        | true ↦ λ e.
            subst (λ (x : Turn S). Takes rules p t.end x (b ∷ bs))
            (sym (hear_deaf now t (b ∷ bs) e)) (takes_none p t (b ∷ bs) is e held)
        | false ↦ λ e.
            let u = heard rules now t.end t.role b in
            let first = first_byte now p t b is e held in
            subst (λ (x : Turn S). Takes rules p t.end x (b ∷ bs)) (sym (hear_on now t b bs e))
            (elim (is_deaf rules u) as (λ d. is_deaf rules u ≡ d
            → Takes rules p t.end (hear rules now u bs) (b ∷ bs)) [
              | true ↦ λ deaf.
                  subst (λ (x : Turn S). Takes rules p t.end x (b ∷ bs))
                  (sym (hear_deaf now u bs deaf))
                  (takes_deaf p t.end u (b ∷ []) bs first deaf)
              | false ↦ λ heard_on.
                  takes_then p t.end u (hear rules now u bs) (b ∷ []) bs first heard_on
                  (piece_takes now first.passage u bs first.role first.held)
            ] refl)
      ] refl
