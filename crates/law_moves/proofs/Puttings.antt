-- bytes are drawn: what is put goes by moves
use Rattle.law_order.proofs.Vocabulary.{◌≡◌, ℕ, zero, suc, List, [], ◌∷◌, ◌++◌, append_assoc, cond, Bool, true, false, Some, None, refl, sym, ap, ◌∙◌, subst, ◌&&◌, not, Option, append-nil, flat_map-append}
use Rattle.rh_shell.proofs.Draws.{behind}
use Rattle.rh_shell.specs.NearEnds.{is_empty}
use Rattle.law_moves.proofs.Vocabulary.{Leg, NearEnd, is_over, Rules, Message, put_into, spell, Drawn, drawn, put_on, filled, left_by, next_byte, draw, Passage, OnLeg, IsDrawn, put_by, moved, Puts as Putting, Leads, on_leg, spelled}
use Rattle.law_moves.proofs.Leading.{leads_none, leads_one, leads_then}
use Rattle.law_moves.proofs.TakenPieces.{on_leg_append, in_use}
use Rattle.law_moves.specs.Carrying.{Puts}

pub empty_is : (xs : List ℕ) → is_empty xs ≡ true → xs ≡ []
empty_is [] h = refl
empty_is (x ∷ xs) h = absurd cc

pub both : (a b : Bool) → (a && not b) ≡ true → (a ≡ true) × (b ≡ false)
both true true h = absurd cc
both true false h = (refl, refl)
both false b h = absurd cc

module _ {S : Type 0} (rules : Rules S) where
  -- nothing is put
  puts_none : (p : Passage S) (end : NearEnd) → Puts rules p end (drawn end p.role [])
  puts_none p end = record {
    passage = p;
    leads = leads_none rules p;
    role = refl;
    messages = [];
    put = sym (append-nil p.put);
    came = refl;
    spells = append-nil end.begun;
    leg = refl;
    intake = refl;
  }

  -- a message that is put where the last one is drawn to its end, or none
  puts_by : (now : ℕ) (p : Passage S) (end : NearEnd) (o : Option (S × Message))
      → Leads rules p (put_by p end.leg o) → end.begun ≡ []
      → Puts rules p end (put_on now end (put_into p.role o))
  puts_by now p end None leads empty = record {
    passage = p;
    leads = leads;
    role = refl;
    messages = [];
    put = sym (append-nil p.put);
    came = refl;
    spells = append-nil end.begun;
    leg = refl;
    intake = refl;
  }
  puts_by now p end (Some put) leads empty = by (spell put.1) refl
    where
      q : Passage S
      q = put_by p end.leg (Some put)

      by : (text : List ℕ) → spell put.1 ≡ text
          → Puts rules p end (put_on now end (put.0, text))
      by [] e = record {
        passage = put_by p end.leg (Some put);
        leads = leads;
        role = refl;
        messages = put.1 ∷ [];
        put = refl;
        came = refl;
        spells =
            ap (λ (x : List ℕ). end.begun ++ (x ++ [])) e ∙ append-nil end.begun;
        leg = refl;
        intake = refl;
      }
      by (b ∷ bs) e = record {
        passage = put_by p end.leg (Some put);
        leads = leads;
        role = refl;
        messages = put.1 ∷ [];
        put = refl;
        came = refl;
        spells =
            ap (λ (x : List ℕ). x ++ (spell put.1 ++ [])) empty
            ∙ append-nil (spell put.1) ∙ e;
        leg = refl;
        intake = refl;
      }

  filled_puts : (now : ℕ) (p : Passage S) (end : NearEnd)
      → Puts rules p end (filled rules now end p.role)
  filled_puts now p end = by (is_empty end.begun && not (is_over rules end p.role)) refl
    where
      by : (t : Bool) → (is_empty end.begun && not (is_over rules end p.role)) ≡ t
          → Puts rules p end (cond t (put_on now end (put_into p.role (rules.put p.role end.leg)))
          (drawn end p.role []))
      by true e =
          let two = both (is_empty end.begun) (is_over rules end p.role) e in
          puts_by now p end (rules.put p.role end.leg)
          (leads_one rules p (Putting end.leg) (in_use rules end p.role two.1))
          (empty_is end.begun two.0)
      by false e = puts_none p end

  -- what is drawn first, and what is drawn then
  puts_then : (p : Passage S) (end : NearEnd) (d e : Drawn S) → (first : Puts rules p end d)
      → Puts rules first.passage d.end e → Puts rules p end (behind d.bytes e)
  puts_then p end d e first next = record {
    passage = next.passage;
    leads = leads_then rules p first.passage next.passage first.leads next.leads;
    role = next.role;
    messages = first.messages ++ next.messages;
    put =
        next.put
        ∙ ap (λ (l : Leg). first.passage.put ++ on_leg l next.messages) first.leg
        ∙ ap (λ (l : List OnLeg). l ++ on_leg end.leg next.messages) first.put
        ∙ append_assoc p.put (on_leg end.leg first.messages) (on_leg end.leg next.messages)
        ∙ ap (λ (l : List OnLeg). p.put ++ l)
        (sym (on_leg_append end.leg first.messages next.messages));
    came = next.came ∙ first.came;
    spells =
        ap (λ (l : List ℕ). end.begun ++ l)
        (flat_map-append spell first.messages next.messages)
        ∙ sym (append_assoc end.begun (spelled first.messages) (spelled next.messages))
        ∙ ap (λ (l : List ℕ). l ++ spelled next.messages) first.spells
        ∙ append_assoc d.bytes d.end.begun (spelled next.messages)
        ∙ ap (λ (l : List ℕ). d.bytes ++ l) next.spells
        ∙ sym (append_assoc d.bytes e.bytes e.end.begun);
    leg = next.leg ∙ first.leg;
    intake = next.intake ∙ first.intake;
  }

  -- one byte goes of the message that is begun
  puts_byte : (p : Passage S) (end : NearEnd) (b : ℕ) (bs : List ℕ) → end.begun ≡ b ∷ bs
      → (let left = left_by rules end p.role bs in
      Puts rules p end (drawn left.end left.role (b ∷ [])))
  puts_byte p end b [] is = record {
    passage = moved rules p (IsDrawn end.leg);
    leads = leads_one rules p (IsDrawn end.leg) tt;
    role = refl;
    messages = [];
    put = sym (append-nil p.put);
    came = refl;
    spells = append-nil end.begun ∙ is;
    leg = refl;
    intake = refl;
  }
  puts_byte p end b (c ∷ cs) is = record {
    passage = p;
    leads = leads_none rules p;
    role = refl;
    messages = [];
    put = sym (append-nil p.put);
    came = refl;
    spells = append-nil end.begun ∙ is;
    leg = refl;
    intake = refl;
  }

  as_role : (p : Passage S) (end : NearEnd) (role : S) (d : S → Drawn S) → p.role ≡ role
      → Puts rules p end (d p.role) → Puts rules p end (d role)
  as_role p end role d is puts = subst (λ (r : S). Puts rules p end (d r)) is puts

  pub no_bytes : (now : ℕ) (end : NearEnd) (role : S) → (filled rules now end role).bytes ≡ []
  no_bytes now end role = by (is_empty end.begun && not (is_over rules end role))
    where
      by : (t : Bool) → (cond t (put_on now end (put_into role (rules.put role end.leg)))
          (drawn end role [])).bytes ≡ []
      by true = refl
      by false = refl

  pub draw_puts : (now n : ℕ) (p : Passage S) (end : NearEnd) (role : S) → p.role ≡ role
      → Puts rules p end (draw rules now n end role)
  unfolding draw
  draw_puts now zero p end role is =
      as_role p end role (λ (r : S). drawn end r []) is (puts_none p end)
  draw_puts now (suc n) p end role is =
      let f = filled rules now end role in
      by f (as_role p end role (λ (r : S). filled rules now end r) is (filled_puts now p end))
      (no_bytes now end role) f.end.begun refl (draw_puts now n)
    where
      by : (f : Drawn S) → Puts rules p end f → f.bytes ≡ [] → (bytes : List ℕ)
          → f.end.begun ≡ bytes
          → ((q : Passage S) (e : NearEnd) (r : S) → q.role ≡ r
          → Puts rules q e (draw rules now n e r))
          → Puts rules p end (next_byte rules f bytes (draw rules now n))
      by f first plain [] e more = first
      by f first plain (b ∷ bs) e more =
          let left = left_by rules f.end f.role bs in
          let begun : Puts rules p end (drawn f.end f.role []) =
          subst (λ (x : List ℕ). Puts rules p end (drawn f.end f.role x)) plain first in
          let one : Puts rules begun.passage f.end (drawn left.end left.role (b ∷ [])) =
          as_role begun.passage f.end f.role
          (λ (r : S). drawn (left_by rules f.end r bs).end (left_by rules f.end r bs).role
          (b ∷ [])) begun.role (puts_byte begun.passage f.end b bs e) in
          let rest = more one.passage left.end left.role one.role in
          let all = puts_then begun.passage f.end (drawn left.end left.role (b ∷ []))
          (draw rules now n left.end left.role) one rest in
          puts_then p end (drawn f.end f.role [])
          (behind (b ∷ []) (draw rules now n left.end left.role)) begun all
