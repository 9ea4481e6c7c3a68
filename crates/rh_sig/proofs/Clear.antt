-- a packet has one name and one value
use Rattle.std.proofs.Common.{◌≡◌, refl, sym, ap, ◌∙◌}
use Rattle.rh_rts.specs.Packets.{Parts}
use Rattle.rh_sig.specs.declared.name.Name.{Name}
use Rattle.rh_sig.specs.declared.name.Pipe.{Pipe}
use Rattle.rh_sig.specs.declared.named.Named.{Named}
use Rattle.rh_sig.specs.Names.{row_of, IsNamed, IsCarried}
use Rattle.rh_sig.specs.Values.{name_of_named, commands_of, parts_of, ReadsAs}
use Rattle.rh_sig.specs.Reading.{value}
use Rattle.rh_sig.proofs.Again.{same_value, same_types, plain}
use Rattle.rh_sig.proofs.Table.{one_row, some_same, name_found}

pub one_carried : (pipe : Pipe) (a b : Name) → IsCarried a pipe → IsCarried b pipe
    → (row_of a).flags ≡ (row_of b).flags → (row_of a).types ≡ (row_of b).types → a ≡ b
one_carried pipe a b p q flags types =
    one_row pipe (row_of b).flags (row_of b).types a b
    (record { carried = p; flags = flags; types = types })
    (record { carried = q; flags = refl; types = refl })

pub one_name : (p : Parts) (pipe : Pipe) (a b : Name) → IsNamed p pipe a → IsNamed p pipe b → a ≡ b
one_name p pipe a b x y =
    some_same a b (sym (name_found p pipe a x) ∙ name_found p pipe b y)

pub one_value : (a b : Named) → name_of_named a ≡ name_of_named b → commands_of a ≡ commands_of b
    → a ≡ b
one_value a b name commands =
    sym (same_value a)
    ∙ ap (λ (x : Name). value x (commands_of a)) name
    ∙ ap (value (name_of_named b)) commands
    ∙ same_value b

pub one_reading : (p : Parts) (pipe : Pipe) (a b : Named) → ReadsAs p pipe a → ReadsAs p pipe b
    → a ≡ b
one_reading p pipe a b x y =
    one_value a b (one_name p pipe (name_of_named a) (name_of_named b) x.0 y.0) (x.1 ∙ sym y.1)

-- a named packet reads as itself on each pipe that carries its name
pub reads_as : (n : Named) (pipe : Pipe) → IsCarried (name_of_named n) pipe
    → ReadsAs (parts_of n) pipe n
reads_as n pipe is = (record { carried = is; flags = refl; types = same_types n }, sym (plain n))
