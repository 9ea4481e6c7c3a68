-- how much of a channel's lifetime is used (MS-RPCH 3.2); its reserve, and when a successor is
-- wanted (profile)
use Rattle.std.specs.Prelude.{ℕ, ◌+◌, nat_le, Bool, IsTrue, List, [], ◌∷◌}
use Rattle.rh_keep.specs.declared.meter.TheConstants.{RESERVE, REPLACED_BEFORE}

-- the lifetime, and the bytes of it that are used
pub record Meter : Type 0 where
  pub length : ℕ
  pub count : ℕ

abbrev pub started : ℕ → ℕ → Meter
started length start = record { length = length; count = start }

-- so many bytes more are within the lifetime, and leave the reserve
abbrev pub may_put : Meter → ℕ → Bool
may_put m len = nat_le (m.count + len + RESERVE) m.length

-- so many bytes more are within the lifetime
abbrev pub fits : Meter → ℕ → Bool
fits m len = nat_le (m.count + len) m.length

-- a successor is wanted: at most so many bytes of the lifetime are left
abbrev pub wanted : Meter → Bool
wanted m = nat_le m.length (m.count + REPLACED_BEFORE)

abbrev pub after_put : Meter → ℕ → Meter
after_put m len = record m { count = m.count + len }

-- ---- packets one after the other

abbrev pub after_puts : Meter → List ℕ → Meter
after_puts m [] = m
after_puts m (len ∷ lens) = after_puts (after_put m len) lens

-- each fits when its turn comes
abbrev pub CanPut : Meter → List ℕ → Type 0
CanPut m [] = Unit {0}
CanPut m (len ∷ lens) = IsTrue (fits m len) × CanPut (after_put m len) lens
