-- the names of a packet on one pipe
use Rattle.std.proofs.Common.{◌≡◌, List, [], ◌∷◌, Some, None, refl, ◌∙◌, ap}
use Rattle.std.specs.declared.option.Option.{Option}
use Rattle.rh_rts.specs.Packets.{Parts}
use Rattle.rh_sig.specs.declared.name.Name.{Name}
use Rattle.rh_sig.specs.declared.name.Pipe.{Pipe}
use Rattle.rh_sig.specs.Names.{IsNamed, IsNameless}
use Rattle.rh_sig.proofs.Table.{name_found, none_found}
use Rattle.rh_name.specs.Telling.{added, is_told, names_of}

-- a name is the first
first : (name : Name) → added [] (Some name) ≡ name ∷ []
unfolding added is_told
first name = refl

no_more : (names : List Name) → added names None ≡ names
unfolding added
no_more names = refl

pub one_name : (p : Parts) (pipe : Pipe) (name : Name) → IsNamed p pipe name
    → names_of p (Some pipe) ≡ name ∷ []
one_name p pipe name is =
    ap (λ (found : Option Name). added [] found) (name_found p pipe name is) ∙ first name

pub no_name : (p : Parts) (pipe : Pipe) → IsNameless p pipe → names_of p (Some pipe) ≡ []
no_name p pipe is =
    ap (λ (found : Option Name). added [] found) (none_found p pipe is) ∙ no_more []
