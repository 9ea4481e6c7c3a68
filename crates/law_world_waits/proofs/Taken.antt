-- where a take that reports nothing is of an end that goes on, its current list is empty
use Rattle.law_order.proofs.Vocabulary.{◌≡◌, ℕ, List, [], ◌∷◌, Bool, refl, ap, ◌∙◌, subst}
use Rattle.rh_line.specs.Lines as lines
use Rattle.rh_record.specs.declared.answer.TakeAnswer.TheVariants as takes
use Rattle.rh_shell.specs.Ends as ends
use Rattle.law_moves.proofs.Vocabulary.{Course, Going, Side, Client, Server, Acts, Shell, cause_of}
use Rattle.law_node_history.proofs.Vocabulary.{Deeds, TakeAnswer, World, has_ended, take_answer, take_from, take_one, taken_down, taken_up, took}
use Rattle.law_world_rest.specs.Rest.{IsSilent}

-- a PDU that is taken is reported
tells_pdu : {W : Type 0} (end : Side) (over : Bool) (w : W) (one : TakeAnswer) (pdu : List ℕ)
    → IsSilent (took end over (w, one)) → one ≡ takes.Pdu pdu → ⊥
tells_pdu end over w one pdu silent is =
    let told = subst (λ (o : TakeAnswer). IsSilent (took end over (w, o))) is silent in absurd cc

module _ {S W : Type 0} (acts : Acts S) (node : Shell S) (going : node.course ≡ Going)
    (end : Side) (over : Bool) (w : W)
    (silent : IsSilent (took end over (w, (take_from acts node).1))) where
  pub none_held : (acts.line node.role).current.pdus ≡ []
  none_held = by (acts.line node.role).current.pdus refl
    where
      by : (pdus : List (List ℕ)) → (acts.line node.role).current.pdus ≡ pdus → pdus ≡ []
      by [] is = refl
      by (pdu ∷ pdus) is =
          let line = acts.line node.role in
          absurd (tells_pdu end over w (take_from acts node).1 pdu silent
          (ap (λ (c : Course). take_answer (ends.take_answer_where acts node (cause_of c))
          line.current.pdus) going
          ∙ ap (λ (list : List (List ℕ)).
          take_answer (ends.take_of (lines.take_of list (lines.is_ended line))) list) is))

module _ {K C S I O : Type 0} (d : Deeds C S) (w : World K C S I O) where
  pub client_holds_none : IsSilent (take_one d Client w) → w.company.client.course ≡ Going
      → (d.client.line w.company.client.role).current.pdus ≡ []
  client_holds_none silent going =
      let did = take_from d.client w.company.client in
      none_held d.client w.company.client going Client (has_ended w Client)
      (taken_down w did).0 silent

  pub server_holds_none : IsSilent (take_one d Server w) → w.company.server.course ≡ Going
      → (d.server.line w.company.server.role).current.pdus ≡ []
  server_holds_none silent going =
      let did = take_from d.server w.company.server in
      none_held d.server w.company.server going Server (has_ended w Server)
      (taken_up w did).0 silent
