-- the commands that stand at the front of bytes, one after the other
use Rattle.std.specs.Prelude.{◌≡◌, ◌+◌, ◌==◌, ℕ, zero, suc, List, [], ◌∷◌, length, take, drop}
use Rattle.std.specs.Prelude.{if◌then◌else◌, Some, None}
use Rattle.std.specs.declared.option.Option.{Option}
use Rattle.rh_rts.specs.declared.command.Cookie.{Cookie}
use Rattle.rh_rts.specs.declared.command.Address4or16.{Address4or16}
use Rattle.rh_rts.specs.declared.command.Address4or16.TheVariants.{V4, V6}
use Rattle.rh_rts.specs.declared.command.TheConstants.{COOKIE_LEN, V4_LEN, V6_LEN}
use Rattle.rh_rts.specs.declared.command.TheConstants.{ADDRESS_PADDING_LEN}
use Rattle.rh_rts.specs.declared.command.Command.{Command}
use Rattle.rh_rts.specs.declared.command.Command.TheVariants as commands
use Rattle.rh_rts.specs.declared.fault.RtsFault.{RtsFault}
use Rattle.rh_rts.specs.declared.layout.Layout.{Layout}
use Rattle.rh_rts.specs.declared.layout.Layout.TheVariants as layouts
use Rattle.rh_rts.specs.declared.layout.TheConstants.{NUMBER_LEN, FIELDS_AT, ACK_COOKIE_AT}
use Rattle.rh_rts.specs.declared.layout.TheConstants.{TYPE_OF_V4}
use Rattle.rh_rts.specs.Layouts.{Values, Row, row_of, layout_in}
use Rattle.rh_rts.specs.Commands.{spellings, AreCommands}
use Rattle.rh_rts.specs.Refusals.{command_fault, type_of, field_of, number_of, length_by}

-- the cookie from this place on
abbrev pub cookie_at : ℕ → List ℕ → Cookie
cookie_at at b = record { 0 = take COOKIE_LEN (drop at b) }

-- the bytes of an address of this type
abbrev pub address_len : ℕ → ℕ
address_len type = if type == TYPE_OF_V4 then V4_LEN else V6_LEN

-- the address of this type
abbrev pub address_by : ℕ → List ℕ → Address4or16
address_by type bytes = if type == TYPE_OF_V4 then V4 bytes else V6 bytes

-- the address of this type and of so many bytes, and the padding behind it
abbrev pub address_at : ℕ → ℕ → List ℕ → Values layouts.Address
address_at type n b =
    (address_by type (take n (drop FIELDS_AT b)), take ADDRESS_PADDING_LEN (drop (FIELDS_AT + n) b))

abbrev pub client_address_at : ℕ → ℕ → List ℕ → Command
client_address_at type n b = commands.ClientAddress (address_at type n b).0 (address_at type n b).1

-- the values that stand behind the type
abbrev pub values_at : (layout : Layout) → List ℕ → Values layout
values_at layouts.Nothing b = tt
values_at layouts.Number b = field_of b
values_at layouts.Destination b = field_of b
values_at layouts.Cookie b = cookie_at NUMBER_LEN b
values_at layouts.Ack b = (field_of b, number_of (drop FIELDS_AT b), cookie_at ACK_COOKIE_AT b)
values_at layouts.Counted b = take (field_of b) (drop FIELDS_AT b)
values_at layouts.Address b = address_at (field_of b) (address_len (field_of b)) b

-- the command in front, if its type has this row
abbrev pub command_by : Option Row → List ℕ → Command
command_by None b = commands.Empty
command_by (Some r) b = r.command (values_at r.layout b)

-- the command in front
unfoldable pub command_of : List ℕ → Command
command_of b = command_by (row_of (type_of b)) b

-- its length, if it is of this layout
abbrev pub length_in : Option Layout → List ℕ → ℕ
length_in None b = 0
length_in (Some layout) b = length_by layout (field_of b)

-- the bytes of the command in front
abbrev pub length_of : List ℕ → ℕ
length_of b = length_in (layout_in (row_of (type_of b))) b

-- the list, where nothing is wrong
abbrev pub unless : Option RtsFault → List Command → List Command
unless None cs = cs
unless (Some wrong) cs = []

-- so many commands, up to the first that is wrong
abbrev pub listed : ℕ → List ℕ → List Command
listed zero b = []
listed (suc n) b = unless (command_fault 0 b) (command_of b ∷ listed n (drop (length_of b) b))

-- so many commands are all of the bytes
pub record AreAll (n : ℕ) (cs : List Command) (b : List ℕ) : Type 0 where
  pub bytes : b ≡ spellings cs
  pub commands : AreCommands cs
  pub count : length cs ≡ n
