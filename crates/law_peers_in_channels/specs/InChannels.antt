-- the IN channels that a server is told of: the first one by CONN/B2, each other one by IN_R1/A2 on
-- an is leg of its own or by IN_R2/A2 on that of the one before (MS-RPCH 3.2.5; successors are this
-- profile's)
use Rattle.std.specs.Prelude.{ℕ, suc, ◌≡◌, ◌+◌, ◌≤◌, ◌++◌, List}
use Rattle.rh_rts.specs.declared.command.Cookie.{Cookie}
use Rattle.rh_sig.specs.declared.named.Named.TheVariants.{InR1A2, InR2A2}
use Rattle.rh_shell.specs.Rules.{Packet}
use Rattle.rh_server.specs.Servers.{acts, first, rules}
use Rattle.rh_server.specs.States.{Server}
use Rattle.law_moves.specs.Moves.{EndMove, Passage, all_end_moved, end_started}
use Rattle.law_moves.specs.Wires.{of_leg}
use Rattle.law_moves.specs.ReadBack.Reading.{all_read_of}
use Rattle.law_role_inproxy.specs.Counted.{is_leg}
use Rattle.law_role_server.specs.Counted.Counting.{in_came, is_conn_b2, is_in_r1_a2, is_in_r1_a3, is_in_r2_a2, out_put}
use Rattle.law_peers_moments.specs.GoingRound.{announced, taken_in}
use Rattle.law_peers_moments.specs.Expecting.{IsAhead}
use Rattle.law_peers_moments.specs.Moments.{Moves, Numbers, in_behind, server_behind}
use Rattle.law_role_server_in.specs.Refusing.{came_at, first_at}

-- how many channels were announced
abbrev pub channels : Passage Server → ℕ
channels p = in_came is_conn_b2 p + announced p

-- channel k was announced on is leg m: those from m on were, in order
pub record IsAnnouncedOn (p : Passage Server) (m k : ℕ) : Type 0 where
  pub began : 1 ≤ first_at p m
  pub least : m ≤ k
  pub most : k ≤ m + came_at is_in_r2_a2 p m

-- ---- in order

-- the channels that were announced are the first so many, each by the in proxy that reads it
pub record AreAnnounced (reader : ℕ → ℕ) (p : Passage Server) : Type 0 where
  pub each : (k : ℕ) → 1 ≤ k → k ≤ channels p → (m : ℕ) × IsAnnouncedOn p m k
  pub only : (m k : ℕ) → IsAnnouncedOn p m k → (1 ≤ k) × (k ≤ channels p)
  pub read : (m k : ℕ) → IsAnnouncedOn p m k → reader k ≡ m
  -- a leg begins with one of them
  pub once : (m : ℕ) → first_at p m ≤ 1

-- the next one is announced only behind the answers to all before
pub record IsNextChannel (p : Passage Server) (n : ℕ) : Type 0 where
  pub next : n ≡ suc (channels p)
  pub answered : announced p ≤ taken_in p

-- what stands next on an is leg announces the next channel
pub record AnnounceNext (numbers : Numbers) (moves : Moves) : Type 0 where
  pub in_r1_a2 : (n version : ℕ) (connection predecessor successor : Cookie) (window timeout : ℕ)
      → IsAhead (server_behind numbers moves).passage (is_leg n)
      (all_read_of (of_leg (is_leg n) (in_behind numbers moves n).put))
      (Packet (InR1A2 version connection predecessor successor window timeout))
      → IsNextChannel (server_behind numbers moves).passage n
  pub in_r2_a2 : (n : ℕ) (successor : Cookie)
      → IsAhead (server_behind numbers moves).passage (is_leg n)
      (all_read_of (of_leg (is_leg n) (in_behind numbers moves n).put)) (Packet (InR2A2 successor))
      → (1 ≤ first_at (server_behind numbers moves).passage n)
      × IsNextChannel (server_behind numbers moves).passage
      (suc (n + came_at is_in_r2_a2 (server_behind numbers moves).passage n))

-- ---- answered

abbrev pub passed : Numbers → List EndMove → Passage Server
passed numbers moves = (all_end_moved rules acts (end_started (first numbers.window)) moves).passage

-- the answers come in the order of the announcements: once so many were put as channels had been
-- announced behind a front, each IN_R1/A2 that had come there has its IN_R1/A3
abbrev pub AreAnswered : Numbers → List EndMove → Type 0
AreAnswered numbers moves =
    (front later : List EndMove) → moves ≡ front ++ later
    → announced (passed numbers front) ≤ taken_in (passed numbers moves)
    → in_came is_in_r1_a2 (passed numbers front) ≤ out_put is_in_r1_a3 (passed numbers moves)
