-- one call more, and further calls
use Rattle.std.proofs.Common.{◌≡◌, List, [], ◌∷◌, ◌++◌, append-nil, ap, refl, subst, sym, ◌∙◌}
use Rattle.std.proofs.lemmas.List.{append_assoc}
use Rattle.rh_turn.specs.Calls.{Acts}
use Rattle.rh_turn.specs.Values.{SeatValue}
use Rattle.rh_machines.specs.declared.event.NodeEvent.{NodeEvent}
use Rattle.rh_machines.specs.declared.event.NodeReply.{NodeReply}
use Rattle.rh_legs.specs.Legs.{Calls, joined, AllAre}

pub joined-on : {A : Type 0} (told : NodeEvent → NodeReply → List A) (calls more : Calls)
    → joined told (calls ++ more) ≡ joined told calls ++ joined told more
joined-on told [] more = refl
joined-on told (c ∷ calls) more =
    ap (λ l. told c.0 c.1 ++ l) (joined-on told calls more)
    ∙ sym (append_assoc (told c.0 c.1) (joined told calls) (joined told more))

pub joined-more : {A : Type 0} (told : NodeEvent → NodeReply → List A) (calls : Calls)
    (e : NodeEvent) (r : NodeReply)
    → joined told (calls ++ (e, r) ∷ []) ≡ joined told calls ++ told e r
joined-more told calls e r =
    joined-on told calls ((e, r) ∷ []) ∙ ap (λ l. joined told calls ++ l) (append-nil (told e r))

pub all-are-on : (such : NodeEvent → Type 0) (calls more : Calls)
    → AllAre such calls → AllAre such more → AllAre such (calls ++ more)
all-are-on such [] more all then = then
all-are-on such (c ∷ calls) more all then = (all.0, all-are-on such calls more all.1 then)

pub all-are-more : (such : NodeEvent → Type 0) (calls : Calls) (e : NodeEvent) (r : NodeReply)
    → AllAre such calls → such e → AllAre such (calls ++ (e, r) ∷ [])
all-are-more such calls e r all is = all-are-on such calls ((e, r) ∷ []) all (is, tt)

-- a call at the machine's first state, by another name of that state
pub acts-at : {S : Type 0} (next : S → NodeEvent → S) (reply_to : S → NodeEvent → NodeReply)
    (here first : S) (e : NodeEvent) (r : NodeReply) (old now : SeatValue NodeEvent)
    → here ≡ first → Acts next reply_to here e r old now → Acts next reply_to first e r old now
acts-at next reply_to here first e r old now same acts =
    subst (λ s. Acts next reply_to s e r old now) same acts
