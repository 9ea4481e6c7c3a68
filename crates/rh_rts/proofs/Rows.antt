-- the table of the commands holds together: type, layout and fields of each row are those of its
-- commands
use Rattle.std.proofs.Common.{rules, ◌≡◌, ℕ, zero, suc, List, [], ◌∷◌, refl, subst}
use Rattle.std.specs.Prelude.{Some, slice_get}
use Rattle.rh_rts.specs.declared.command.Command.{Command}
use Rattle.rh_rts.specs.declared.command.Command.TheVariants as commands
use Rattle.rh_rts.specs.Layouts.{Values, Row, row, rows, row_of}
use Rattle.rh_rts.specs.declared.layout.Layout.{Layout}
use Rattle.rh_rts.specs.Commands.{kind_of, by_fields, field_bytes, AreFields, IsCommand}

-- fields of a command of this type, and what they make it
pub record Makes (k : ℕ) (layout : Layout) (v : Values layout) (c : Command) : Type 0 where
  pub kind : kind_of c ≡ k
  pub bytes : by_fields field_bytes c ≡ field_bytes layout v
  pub sound : AreFields layout v → IsCommand c
  pub fields : IsCommand c → AreFields layout v

-- the commands of the row have this type, and its layout
abbrev pub Fits : ℕ → Row → Type 0
Fits k r = (v : Values r.layout) → Makes k r.layout v (r.command v)

-- each row at its place
abbrev AllHold : (ℕ → Row → Type 0) → List Row → Type 0
AllHold P [] = Unit {0}
AllHold P (r ∷ rs) = P zero r × AllHold (λ k. P (suc k)) rs

at_place : (P : ℕ → Row → Type 0) (rs : List Row) (k : ℕ) (r : Row) → AllHold P rs
    → slice_get rs k ≡ Some r → P k r
at_place P [] k r all e = absurd cc
at_place P (x ∷ rs) zero r all e = let same : x ≡ r = cc in subst (λ (y : Row). P zero y) same all.0
at_place P (x ∷ rs) (suc k) r all e = at_place (λ (i : ℕ). P (suc i)) rs k r all.1 e

all_fit : AllHold Fits rows
all_fit = search rules

pub row_fits : (k : ℕ) (r : Row) → row_of k ≡ Some r → Fits k r
unfolding row_of
row_fits k r e = at_place Fits rows k r all_fit e

-- a command is of the row of its type, which makes it of some values
abbrev pub HasRow : Command → Type 0
HasRow c =
    (layout : Layout) × (values : Values layout) × (command : Values layout → Command)
    × (row_of (kind_of c) ≡ Some (row layout command)) × (command values ≡ c)

pub has_row : (c : Command) → HasRow c
unfolding row_of
has_row (commands.ReceiveWindowSize n) = (_, _, _, refl, refl)
has_row (commands.FlowControlAck received window cookie) = (_, _, _, refl, refl)
has_row (commands.ConnectionTimeout n) = (_, _, _, refl, refl)
has_row (commands.Cookie cookie) = (_, _, _, refl, refl)
has_row (commands.ChannelLifetime n) = (_, _, _, refl, refl)
has_row (commands.ClientKeepalive n) = (_, _, _, refl, refl)
has_row (commands.Version n) = (_, _, _, refl, refl)
has_row commands.Empty = (_, _, _, refl, refl)
has_row (commands.Padding bytes) = (_, _, _, refl, refl)
has_row commands.NegativeAnce = (_, _, _, refl, refl)
has_row commands.Ance = (_, _, _, refl, refl)
has_row (commands.ClientAddress address padding) = (_, _, _, refl, refl)
has_row (commands.AssociationGroupId cookie) = (_, _, _, refl, refl)
has_row (commands.Destination n) = (_, _, _, refl, refl)
has_row (commands.PingTrafficSentNotify n) = (_, _, _, refl, refl)
