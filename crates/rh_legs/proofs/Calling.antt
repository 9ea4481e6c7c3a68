-- one call more
use Rattle.std.proofs.Common.{◌≡◌, List, [], ◌∷◌, ◌++◌, append-nil, ap, sym, ◌∙◌}
use Rattle.std.proofs.lemmas.List.{append_assoc}
use Rattle.rh_machines.specs.declared.event.NodeEvent.{NodeEvent}
use Rattle.rh_machines.specs.declared.event.NodeReply.{NodeReply}
use Rattle.rh_legs.specs.Legs.{Calls, joined, AllAre}

pub joined-more : {A : Type 0} (told : NodeEvent → NodeReply → List A) (calls : Calls)
    (e : NodeEvent) (r : NodeReply)
    → joined told (calls ++ (e, r) ∷ []) ≡ joined told calls ++ told e r
joined-more told [] e r = append-nil (told e r)
joined-more told (c ∷ calls) e r =
    ap (λ l. told c.0 c.1 ++ l) (joined-more told calls e r)
    ∙ sym (append_assoc (told c.0 c.1) (joined told calls) (told e r))

pub all-are-more : (such : NodeEvent → Type 0) (calls : Calls) (e : NodeEvent) (r : NodeReply)
    → AllAre such calls → such e → AllAre such (calls ++ (e, r) ∷ [])
all-are-more such [] e r all is = (is, tt)
all-are-more such (c ∷ calls) e r all is = (all.0, all-are-more such calls e r all.1 is)
