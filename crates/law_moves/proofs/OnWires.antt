-- what a leg carries in one call, and then in another one
use Rattle.law_order.proofs.Vocabulary.{◌≡◌, ℕ, List, [], ◌∷◌, ◌++◌, append_assoc, cond, Bool, true, false, refl, sym, ap, ◌∙◌, concat, Option, append-nil, flat_map-append}
use Rattle.rh_shell.specs.declared.stage.Stage.TheVariants as stage
use Rattle.law_moves.proofs.Vocabulary.{each_append, Pipe, Leg, Rules, Message, spell, NearEnd, Turn, Drawn, same_leg, Passage, OnLeg, on_leg, spelled, message_in, messages_in, is_deaf, IsQuiet, of_leg, Out, In}
use Rattle.law_moves.proofs.TakenPieces.{concat_append}
use Rattle.law_moves.proofs.PacketKinds.Counts.{itself}
use Rattle.law_moves.specs.Carrying.{Puts, Takes}

pub of_append : (leg : Leg) (xs ys : List OnLeg)
    → of_leg leg (xs ++ ys) ≡ of_leg leg xs ++ of_leg leg ys
of_append leg [] ys = refl
of_append leg (x ∷ xs) ys = by (same_leg x.0 leg) (of_append leg xs ys)
  where
    by : (t : Bool) → of_leg leg (xs ++ ys) ≡ of_leg leg xs ++ of_leg leg ys
        → cond t (x.1 ∷ of_leg leg (xs ++ ys)) (of_leg leg (xs ++ ys))
        ≡ cond t (x.1 ∷ of_leg leg xs) (of_leg leg xs) ++ of_leg leg ys
    by true e = ap (λ (l : List Message). x.1 ∷ l) e
    by false e = e

of_here : (leg : Leg) (ms : List Message) → of_leg leg (on_leg leg ms) ≡ ms
of_here leg [] = refl
of_here leg (m ∷ ms) =
    ap (λ t. cond t (m ∷ of_leg leg (on_leg leg ms)) (of_leg leg (on_leg leg ms))) (itself leg)
    ∙ ap (λ (l : List Message). m ∷ l) (of_here leg ms)

of_other : (leg other : Leg) (ms : List Message) → same_leg other leg ≡ false
    → of_leg leg (on_leg other ms) ≡ []
of_other leg other [] apart = refl
of_other leg other (m ∷ ms) apart =
    ap (λ t. cond t (m ∷ of_leg leg (on_leg other ms)) (of_leg leg (on_leg other ms))) apart
    ∙ of_other leg other ms apart

module _ {S : Type 0} (rules : Rules S) where
  pub put_out : (p : Passage S) (end : NearEnd) (d : Drawn S) → (puts : Puts rules p end d)
      → Out p puts.passage end.leg end.begun d.bytes d.end.begun
  put_out p end d puts = record {
    messages = puts.messages;
    put =
        ap (of_leg end.leg) puts.put
        ∙ of_append end.leg p.put (on_leg end.leg puts.messages)
        ∙ ap (λ (l : List Message). of_leg end.leg p.put ++ l) (of_here end.leg puts.messages);
    spells = puts.spells;
  }

  pub put_elsewhere : (p : Passage S) (end : NearEnd) (d : Drawn S) (leg : Leg)
      (begun : List ℕ) → (puts : Puts rules p end d) → same_leg end.leg leg ≡ false
      → Out p puts.passage leg begun [] begun
  put_elsewhere p end d leg begun puts apart = record {
    messages = [];
    put =
        ap (of_leg leg) puts.put
        ∙ of_append leg p.put (on_leg end.leg puts.messages)
        ∙ ap (λ (l : List Message). of_leg leg p.put ++ l)
        (of_other leg end.leg puts.messages apart);
    spells = append-nil begun;
  }

  pub took_in : (p : Passage S) (end : NearEnd) (u : Turn S) (piece : List ℕ)
      → (takes : Takes rules p end u piece) → end.intake.stage ≡ stage.Frames
      → is_deaf rules u ≡ false
      → In p takes.passage end.leg end.pipe end.intake.held piece u.end.intake.held
  took_in p end u piece takes frames heard =
      let c = takes.cut frames in
      record {
        frames = takes.frames;
        each = takes.each;
        came =
            ap (of_leg end.leg) takes.came
            ∙ of_append end.leg p.came (on_leg end.leg (messages_in end.pipe takes.frames))
            ∙ ap (λ (l : List Message). of_leg end.leg p.came ++ l)
            (of_here end.leg (messages_in end.pipe takes.frames));
        joined = c.joined ∙ ap (λ (l : List ℕ). concat takes.frames ++ l) (c.left heard);
      }

  pub took_elsewhere : (p : Passage S) (end : NearEnd) (u : Turn S) (piece : List ℕ) (leg : Leg)
      (pipe : Option Pipe) (held : List ℕ) → (takes : Takes rules p end u piece)
      → same_leg end.leg leg ≡ false → In p takes.passage leg pipe held [] held
  took_elsewhere p end u piece leg pipe held takes apart = record {
    frames = [];
    each = tt;
    came =
        ap (of_leg leg) takes.came
        ∙ of_append leg p.came (on_leg end.leg (messages_in end.pipe takes.frames))
        ∙ ap (λ (l : List Message). of_leg leg p.came ++ l)
        (of_other leg end.leg (messages_in end.pipe takes.frames) apart);
    joined = append-nil held;
  }

module _ {S : Type 0} (p q r : Passage S) (leg : Leg) where
  pub out_then : (a xs b ys c : List ℕ) → Out p q leg a xs b → Out q r leg b ys c
      → Out p r leg a (xs ++ ys) c
  out_then a xs b ys c first next = record {
    messages = first.messages ++ next.messages;
    put =
        next.put ∙ ap (λ (l : List Message). l ++ next.messages) first.put
        ∙ append_assoc (of_leg leg p.put) first.messages next.messages;
    spells =
        ap (λ (l : List ℕ). a ++ l) (flat_map-append spell first.messages next.messages)
        ∙ sym (append_assoc a (spelled first.messages) (spelled next.messages))
        ∙ ap (λ (l : List ℕ). l ++ spelled next.messages) first.spells
        ∙ append_assoc xs b (spelled next.messages)
        ∙ ap (λ (l : List ℕ). xs ++ l) next.spells
        ∙ sym (append_assoc xs ys c);
  }

  pub in_then : (pipe : Option Pipe) (a xs b ys c : List ℕ) → In p q leg pipe a xs b
      → In q r leg pipe b ys c → In p r leg pipe a (xs ++ ys) c
  in_then pipe a xs b ys c first next = record {
    frames = first.frames ++ next.frames;
    each = each_append first.frames next.frames first.each next.each;
    came =
        next.came ∙ ap (λ (l : List Message). l ++ messages_in pipe next.frames) first.came
        ∙ append_assoc (of_leg leg p.came) (messages_in pipe first.frames)
        (messages_in pipe next.frames)
        ∙ ap (λ (l : List Message). of_leg leg p.came ++ l)
        (sym (flat_map-append (message_in pipe) first.frames next.frames));
    joined =
        sym (append_assoc a xs ys)
        ∙ ap (λ (l : List ℕ). l ++ ys) first.joined
        ∙ append_assoc (concat first.frames) b ys
        ∙ ap (λ (l : List ℕ). concat first.frames ++ l) next.joined
        ∙ sym (append_assoc (concat first.frames) (concat next.frames) c)
        ∙ ap (λ (l : List ℕ). l ++ c) (sym (concat_append first.frames next.frames));
  }

pub quiet_out : {S : Type 0} (p q : Passage S) (leg : Leg) (begun : List ℕ) → IsQuiet p q
    → Out p q leg begun [] begun
quiet_out p q leg begun quiet = record {
  messages = [];
  put = ap (of_leg leg) quiet.0 ∙ sym (append-nil (of_leg leg p.put));
  spells = append-nil begun;
}

pub quiet_in : {S : Type 0} (p q : Passage S) (leg : Leg) (pipe : Option Pipe) (held : List ℕ)
    → IsQuiet p q → In p q leg pipe held [] held
quiet_in p q leg pipe held quiet = record {
  frames = [];
  each = tt;
  came = ap (of_leg leg) quiet.1 ∙ sym (append-nil (of_leg leg p.came));
  joined = append-nil held;
}
