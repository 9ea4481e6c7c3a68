-- the value of a name has the commands that it was read from
use Rattle.std.proofs.Common.{◌≡◌, ◌≤◌, ℕ, List, [], ◌∷◌, length, true, refl, sym, ap, ◌∙◌}
use Rattle.std.specs.Prelude.{nat_le, slice_get, Some, None}
use Rattle.std.proofs.lemmas.Bool.{leb-true}
use Rattle.std.specs.declared.option.Option.{Option}
use Rattle.rh_rts.specs.declared.command.Command.{Command}
use Rattle.rh_rts.specs.declared.command.Command.TheVariants as commands
use Rattle.rh_rts.specs.declared.layout.Layout.{Layout}
use Rattle.rh_rts.specs.declared.layout.Layout.TheVariants as layouts
use Rattle.rh_rts.specs.Layouts.{Values, Row, rows}
use Rattle.rh_rts.specs.Commands.{kind_of}
use Rattle.rh_sig.specs.declared.name.Name.{Name}
use Rattle.rh_sig.specs.declared.name.Name.TheVariants.{ConnA1}
use Rattle.rh_sig.specs.declared.named.Named.{Named}
use Rattle.rh_sig.specs.declared.named.Named.TheVariants as named
use Rattle.rh_sig.specs.Names.{types_of, unpadded, row_of}
use Rattle.rh_sig.specs.Values.{name_of_named, commands_of, value_of}
use Rattle.rh_sig.specs.Reading.{value, first, rest, cookie_of, received_of, window_of}
use Rattle.rh_sig.specs.Reading.{ack_cookie_of, address_of, padding_of}

-- ---- a command is made again from its fields

abbrev bytes_of : Command → List ℕ
bytes_of (commands.Padding bytes) = bytes
bytes_of _ = []

-- the values of fields of this layout, as a command has them
abbrev values_in : (layout : Layout) → Command → Values layout
values_in layouts.Nothing c = tt
values_in layouts.Number c = value_of c
values_in layouts.Destination c = value_of c
values_in layouts.Cookie c = cookie_of c
values_in layouts.Ack c = (received_of c, window_of c, ack_cookie_of c)
values_in layouts.Counted c = bytes_of c
values_in layouts.Address c = (address_of c, padding_of c)

abbrev rebuilt_by : Option Row → Command → Command
rebuilt_by None c = c
rebuilt_by (Some r) c = r.command (values_in r.layout c)

-- the command of this type with the fields of another
abbrev rebuilt : ℕ → Command → Command
rebuilt kind c = rebuilt_by (slice_get rows kind) c

abbrev all_rebuilt : List ℕ → List Command → List Command
all_rebuilt [] cs = []
all_rebuilt (k ∷ ks) cs = rebuilt k (first cs) ∷ all_rebuilt ks (rest cs)

rebuilt_same : (c : Command) → rebuilt (kind_of c) c ≡ c
rebuilt_same commands.Empty = refl
rebuilt_same c = refl

all_same : (cs : List Command) → all_rebuilt (types_of cs) cs ≡ cs
all_same [] = refl
all_same (c ∷ cs) =
    ap (λ (x : Command). x ∷ all_rebuilt (types_of cs) cs) (rebuilt_same c)
    ∙ ap (λ (xs : List Command). c ∷ xs) (all_same cs)

-- ---- over the table: each law computed once a name, the last clause being that of all other names

built : (name : Name) (cs : List Command)
    → commands_of (value name cs) ≡ all_rebuilt (row_of name).types cs
built ConnA1 cs = refl
built name cs = refl

-- the commands of a value are those that it was read from
pub same_commands : (name : Name) (cs : List Command) → types_of cs ≡ (row_of name).types
    → commands_of (value name cs) ≡ cs
same_commands name cs types =
    built name cs ∙ ap (λ (ks : List ℕ). all_rebuilt ks cs) (sym types) ∙ all_same cs

pub same_name : (name : Name) (cs : List Command) → name_of_named (value name cs) ≡ name
same_name ConnA1 cs = refl
same_name name cs = refl

-- a value is read again from its own name and commands
pub same_value : (n : Named) → value (name_of_named n) (commands_of n) ≡ n
same_value named.Ping = refl
same_value n = refl

-- and has its name's types, and no padding
pub same_types : (n : Named)
    → (row_of (name_of_named n)).types ≡ types_of (unpadded (commands_of n))
same_types named.Ping = refl
same_types n = refl

pub plain : (n : Named) → unpadded (commands_of n) ≡ commands_of n
plain named.Ping = refl
plain n = refl

few_types : (name : Name) → nat_le (length (row_of name).types) 7 ≡ true
few_types ConnA1 = refl
few_types name = refl

pub seven_types : (name : Name) → length (row_of name).types ≤ 7
seven_types name = leb-true _ _ (few_types name)
