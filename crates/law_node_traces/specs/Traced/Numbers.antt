-- which in proxy reads which IN channel of the client (MS-RPCH 3.2; the numbers are this profile's)
use Rattle.std.specs.Prelude.{◌≡◌, ◌≢◌, ◌<◌, ◌≤◌, ◌⊎◌, ◌-◌, ℕ, List, [], length, Bool, true, false, not}
use Rattle.std.specs.List.{AllByRecursion}
use Rattle.rh_rts.specs.declared.command.TheConstants.{COOKIE_LEN}
use Rattle.rh_line.specs.declared.leg.LegKind.TheVariants.{ClientIn, InServer}
use Rattle.rh_wires.specs.Readers.{reader_of}
use Rattle.rh_company.specs.Company.{Company}
use Rattle.rh_company.specs.Places.{is_absent}
use Rattle.rh_nodes.specs.Settling.{leg_at}
use Rattle.rh_nodes.specs.World.{World}
use Rattle.law_moves.specs.Moving.{Event, ComesUp}
use Rattle.law_node_history.specs.Carried.{came_up, happened}
use Rattle.law_node_history.specs.Histories.{History, in_place}

-- the in proxy of a number was made
abbrev pub is_made : {C S I O : Type 0} → Company C S I O → ℕ → Bool
is_made c n = not (is_absent (in_place c n))

-- the channel's reader is an in proxy that was made: the one of its own number, or the one that
-- reads the channel before it
pub record IsRead (readers : List ℕ) (made : ℕ → Bool) (n : ℕ) : Type 0 where
  pub reader : made (reader_of readers n) ≡ true
  pub below : reader_of readers n ≤ n
  pub either : ((reader_of readers n ≡ n) × (made n ≡ true))
      ⊎ (reader_of readers n ≡ reader_of readers (n - 1))

-- an in proxy that was made reads the channel of its number, and each channel that has a reader is
-- read so
pub record AreRead (readers : List ℕ) (made : ℕ → Bool) : Type 0 where
  pub own : (n : ℕ) → made n ≡ true → reader_of readers n ≡ n
  pub each : (n : ℕ) → reader_of readers n ≢ 0 → IsRead readers made n
  -- there is no channel 0
  pub none : reader_of readers 0 ≡ 0

-- ---- where legs come up

-- a channel that has a reader has an in proxy of its own; or it has the reader of the channel
-- before it, and came up there
abbrev pub AreOpened : List ℕ → (ℕ → Bool) → History → Type 0
AreOpened readers made h =
    (n : ℕ) → reader_of readers n ≢ 0
    → (made n ≡ true) ⊎ ((reader_of readers n ≡ reader_of readers (n - 1))
    × (came_up (leg_at ClientIn n) (h.ins (reader_of readers n)) ≡ true))

-- a leg comes up under a whole cookie (MS-RPCH 2.2.3.1)
abbrev pub HasWholeCookie : Event → Type 0
HasWholeCookie (ComesUp leg cookie) = length cookie.0 ≡ COOKIE_LEN
HasWholeCookie event = Unit {0}

abbrev pub HaveWholeCookies : List Event → Type 0
HaveWholeCookies events = AllByRecursion HasWholeCookie events

-- which channels came up where, in a world that changes led to
pub record ComeUpInOrder {K C S I O : Type 0} (v : World K C S I O) (h : History)
    : Type 0 where
  -- there is no in proxy 0, and nothing happens at one that was not made
  pub none : is_made v.company 0 ≡ false
  pub unmade : (n : ℕ) → is_made v.company n ≡ false → h.ins n ≡ []
  -- one that was made reads the channel of its number, and channels come up at their reader alone
  pub own : (n : ℕ) → is_made v.company n ≡ true → reader_of v.readers n ≡ n
  pub reads : (m n : ℕ) → came_up (leg_at ClientIn n) (h.ins m) ≡ true
      → reader_of v.readers n ≡ m
  pub opened : AreOpened v.readers (is_made v.company) h
  -- there is no channel 0
  pub unread : reader_of v.readers 0 ≡ 0
  -- the client has the cookies of its legs
  pub cookies : HaveWholeCookies (happened h.client)

-- ---- where lines have legs up

-- a channel that came up at the client is read
abbrev pub AreLed : List ℕ → History → Type 0
AreLed readers h =
    (n : ℕ) → 0 < n → came_up (leg_at ClientIn n) (happened h.client) ≡ true
    → reader_of readers n ≢ 0

-- a leg of an in proxy that came up at the server is of one that was made
abbrev pub AreJoined : (ℕ → Bool) → History → Type 0
AreJoined made h =
    (n : ℕ) → came_up (leg_at InServer n) (happened h.server) ≡ true → made n ≡ true

-- in a world that lines led to; half steps need not keep it
pub record ComeUpByLines {K C S I O : Type 0} (v : World K C S I O) (h : History)
    : Type 0 where
  pub led : AreLed v.readers h
  pub joined : AreJoined (is_made v.company) h
