-- what stands behind the type of a command: seven layouts (MS-RPCH 2.2.3.5)
use Rattle.std.specs.Prelude.{◌+◌, ◌==◌, ℕ, List, [], ◌∷◌, if◌then◌else◌, slice_get, Some, None}
use Rattle.std.specs.declared.option.Option.{Option}
use Rattle.rh_rts.specs.declared.command.Address4or16.{Address4or16}
use Rattle.rh_rts.specs.declared.command.Cookie.{Cookie}
use Rattle.rh_rts.specs.declared.command.Command.{Command}
use Rattle.rh_rts.specs.declared.command.Command.TheVariants as commands
use Rattle.rh_rts.specs.declared.command.TheConstants.{COOKIE_LEN, V4_LEN, V6_LEN}
use Rattle.rh_rts.specs.declared.command.TheConstants.{ADDRESS_PADDING_LEN}
use Rattle.rh_rts.specs.declared.command.TheConstants.{GREATEST_DESTINATION}
use Rattle.rh_rts.specs.declared.fault.RtsKind.{RtsKind}
use Rattle.rh_rts.specs.declared.fault.RtsKind.TheVariants.{BadType, BadAddressType, BadCount}
use Rattle.rh_rts.specs.declared.layout.Layout.{Layout}
use Rattle.rh_rts.specs.declared.layout.Layout.TheVariants as layouts
use Rattle.rh_rts.specs.declared.layout.TheConstants.{NUMBER_LEN, TYPE_OF_V4, GREATEST_ADDRESS_TYPE}
use Rattle.rh_rts.specs.declared.layout.TheConstants.{GREATEST_COUNT}

-- ---- the table

-- the values of fields of that layout
abbrev pub Values : Layout → Type 0
Values layouts.Nothing = Unit {0}
Values layouts.Number = ℕ
Values layouts.Destination = ℕ
Values layouts.Cookie = Cookie
Values layouts.Ack = ℕ × ℕ × Cookie
Values layouts.Counted = List ℕ
Values layouts.Address = Address4or16 × List ℕ

-- a layout, and the command that values of it are of
pub record Row : Type 0 where
  pub layout : Layout
  pub command : Values layout → Command

abbrev pub row : (layout : Layout) → (Values layout → Command) → Row
row layout command = record { layout = layout; command = command }

-- the commands in the order of their types, which are 0 to 14
abbrev pub rows : List Row
rows =
    row layouts.Number commands.ReceiveWindowSize
    ∷ row layouts.Ack (λ v. commands.FlowControlAck v.0 v.1 v.2)
    ∷ row layouts.Number commands.ConnectionTimeout
    ∷ row layouts.Cookie commands.Cookie
    ∷ row layouts.Number commands.ChannelLifetime
    ∷ row layouts.Number commands.ClientKeepalive
    ∷ row layouts.Number commands.Version
    ∷ row layouts.Nothing (λ _. commands.Empty)
    ∷ row layouts.Counted commands.Padding
    ∷ row layouts.Nothing (λ _. commands.NegativeAnce)
    ∷ row layouts.Nothing (λ _. commands.Ance)
    ∷ row layouts.Address (λ v. commands.ClientAddress v.0 v.1)
    ∷ row layouts.Cookie commands.AssociationGroupId
    ∷ row layouts.Destination commands.Destination
    ∷ row layouts.Number commands.PingTrafficSentNotify
    ∷ []

-- the row of a type, if it is one
unfoldable pub row_of : ℕ → Option Row
row_of type = slice_get rows type

-- the layout of a row
abbrev pub layout_in : Option Row → Option Layout
layout_in None = None
layout_in (Some r) = Some r.layout

-- the layout behind a type, if it is one
abbrev pub layout_of : ℕ → Option Layout
layout_of type = layout_in (row_of type)

-- ---- lengths and ranges

-- the bytes of a type and of what stands behind it, as far as no field tells them
abbrev pub fixed_length : Layout → ℕ
fixed_length layouts.Nothing = NUMBER_LEN
fixed_length layouts.Number = NUMBER_LEN + NUMBER_LEN
fixed_length layouts.Destination = NUMBER_LEN + NUMBER_LEN
fixed_length layouts.Cookie = NUMBER_LEN + COOKIE_LEN
fixed_length layouts.Ack = NUMBER_LEN + NUMBER_LEN + NUMBER_LEN + COOKIE_LEN
fixed_length layouts.Counted = NUMBER_LEN + NUMBER_LEN
fixed_length layouts.Address = NUMBER_LEN + NUMBER_LEN

-- the bytes that a ConformanceCount or an AddressType asks for
abbrev pub asked_length : Layout → ℕ → ℕ
asked_length layouts.Counted count = count
asked_length layouts.Address type =
    (if type == TYPE_OF_V4 then V4_LEN else V6_LEN) + ADDRESS_PADDING_LEN
asked_length _ field = 0

-- the greatest number behind a type where it has a range, and how a greater one is told
abbrev pub greatest_field : Layout → Option (ℕ × RtsKind)
greatest_field layouts.Destination = Some (GREATEST_DESTINATION, BadType)
greatest_field layouts.Counted = Some (GREATEST_COUNT, BadCount)
greatest_field layouts.Address = Some (GREATEST_ADDRESS_TYPE, BadAddressType)
greatest_field _ = None
