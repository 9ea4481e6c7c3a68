-- what an out proxy keeps, so that all that it puts reads back
use Rattle.law_order.proofs.Vocabulary.{◌≡◌, ◌≤◌, Bool, false, List, Some, None, Ok, Err, arith, refl, AllByRecursion, Option}
use Rattle.rh_outproxy.specs.declared.state.Channel.TheVariants as channels
use Rattle.law_moves.proofs.Vocabulary.{IsPdu, Pipe, CoD, each_push, Leg, Incoming, Due, Message, Row, MayGo, MayGoOn, AllMayGo, AllReadBack, IsFineMessage, AreFine, IsLegible, OnLeg, Passage, started, taken_by, put_by}
use Rattle.law_moves.proofs.Lemmas.{each_parted}
use Rattle.law_role_outproxy.proofs.Vocabulary.{OutProxyConfig, Channel, OutProxy, new_proxy, Pick, Done, IsConfig, pipe_put}
use Rattle.law_role_outproxy.proofs.FinePackets.{IsSized}

-- ---- what is asked of a state

-- the cookies of a channel have their sizes
abbrev pub HasCookies : Channel → Type 0
HasCookies channels.Unknown = Unit {0}
HasCookies (channels.New connection cookie) = IsSized connection × IsSized cookie
HasCookies (channels.Joined connection cookie) = IsSized connection × IsSized cookie
HasCookies (channels.Successor connection predecessor cookie) =
    IsSized connection × IsSized predecessor × IsSized cookie

-- what came is within what the server was told, and what is held of it is PDUs
pub record IsHeld (c : Incoming) : Type 0 where
  pub each : AllByRecursion IsPdu c.pdus
  pub within : c.window.received ≤ c.window.told

-- what waits may go to the client
abbrev pub MayWait : List Due → Type 0
MayWait dues = AllByRecursion (λ (due : Due). MayGo CoD due.packet) dues

pub record Sound (config : OutProxyConfig) (channel : Channel) (incoming : Incoming)
    (finished : Bool) (dues : List Due) : Type 0 where
  pub own : IsConfig config
  pub cookies : HasCookies channel
  pub held : IsHeld incoming
  -- the line never goes on to another channel
  pub single : finished ≡ false
  pub waits : MayWait dues

abbrev pub IsSound : OutProxy → Type 0
IsSound s = Sound s.config s.channel s.line.current s.line.finished s.waiting.due

-- ---- and of what passed it

abbrev pub MayGoThere : OnLeg → Type 0
MayGoThere one = MayGoOn (pipe_put one.0) one.1

-- where all that came is fine, the proxy is sound and all that it put may go
abbrev pub Kept : Passage OutProxy → Type 0
Kept p = AreFine p.came → IsSound p.role × AllMayGo pipe_put p.put

pub kept_starts : (config : OutProxyConfig) → IsConfig config → Kept (started (new_proxy config))
kept_starts config own = λ fine. (
  record {
    own = own;
    cookies = tt;
    held = record { each = tt; within = omega arith };
    single = refl;
    waits = tt;
  },
  tt,
)

-- ---- rows

-- a row that takes a message keeps the proxy sound where the message is fine, and one that refuses
-- it does so anyhow
abbrev pub Keeps : OutProxy → Message → Done → Type 0
Keeps s m (t, Ok taken) = IsFineMessage m → IsSound s → IsSound t
Keeps s m (t, Err why) = IsSound s → IsSound t

pub kept_taken : (p : Passage OutProxy) (leg : Leg) (m : Message) (row : Done)
    → Keeps p.role m row → Kept p → Kept (taken_by p leg m row)
kept_taken p leg m (s, Ok taken) keeps kept = λ fine.
    let came = each_parted (λ (one : OnLeg). IsFineMessage one.1) p.came (leg, m) fine in
    let before = kept came.0 in
    (keeps came.1 before.0, before.1)
kept_taken p leg m (s, Err why) keeps kept = λ fine.
    let before = kept fine in (keeps before.0, before.1)

-- whatever the row answers
pub keeps_anyhow : (s t : OutProxy) (m : Message) (row : Row) → (IsSound s → IsSound t)
    → Keeps s m (t, row)
keeps_anyhow s t m (Ok taken) sound = λ fine. sound
keeps_anyhow s t m (Err why) sound = sound

-- from a state that is sound where the first one is
pub keeps_from : (s now : OutProxy) (m : Message) (row : Done) → (IsSound s → IsSound now)
    → Keeps now m row → Keeps s m row
keeps_from s now m (t, Ok taken) sound keeps = λ fine before. keeps fine (sound before)
keeps_from s now m (t, Err why) sound keeps = λ before. keeps (sound before)

-- ---- puts

-- what is put may go on that pipe, and the proxy behind it is sound
abbrev pub PutsWell : Option Pipe → Pick → Type 0
PutsWell pipe None = Unit {0}
PutsWell pipe (Some put) = IsSound put.0 × MayGoOn pipe put.1

pub kept_put : (p : Passage OutProxy) (leg : Leg) (pick : Pick)
    → (IsSound p.role → PutsWell (pipe_put leg) pick) → Kept p → Kept (put_by p leg pick)
kept_put p leg None well kept = kept
kept_put p leg (Some put) well kept = λ fine.
    let before = kept fine in
    let behind = well before.0 in
    (behind.0, each_push MayGoThere p.put (leg, put.1) before.1 behind.1)

-- ---- what may go reads back

pub kept_reads : (p : Passage OutProxy)
    → ((pipe : Leg → Option Pipe) (log : List OnLeg) → AllMayGo pipe log
    → AllReadBack pipe log)
    → Kept p → IsLegible pipe_put p
kept_reads p reads kept = λ fine.
    record { may_go = (kept fine).1; read_back = reads pipe_put p.put (kept fine).1 }
