-- what a server keeps of what came, to copy it
use Rattle.law_order.proofs.Vocabulary.{◌≡◌, ◌⊎◌, ℕ, ◌&&◌, ◌||◌, Bool, true, false, not, List, ◌++◌, [], ◌∷◌, Some, None, inl, inr, refl, rules, ◌∙◌, IfSome, AllByRecursion, Option}
use Rattle.rh_sig.specs.declared.named.Named.TheVariants as named
use Rattle.rh_server.specs.declared.out_line.Kind.TheVariants as kinds
use Rattle.rh_server.specs.declared.state.Stage.TheVariants as stage
use Rattle.rh_server.specs.declared.state.InStage.TheVariants as in_stage
use Rattle.rh_server.specs.declared.state.Tells.TheVariants as tells
use Rattle.law_moves.proofs.Vocabulary.{by_test, Cookie, Named, each_push, Line, after_open_next, after_take, after_finish, LegKind, InServer, Due, Waiting, added, own, OnLeg}
use Rattle.law_role_server.proofs.Vocabulary.{Stage, Shut, InStage, InLeg, waits, Server, no_cookie, in_leg, in_place, set_at, removed_at, with_in, without_in, ended_if, opens_next, opens_leg, first_waiting, waiting_place, next_opened, becomes_current, moved_if, take, asks, wishes, wished, is_complete, completed, settled}
use Rattle.law_role_server_rows.proofs.Putting.Each.{each_in, each_set, each_removed, came_more, copies_more}
use Rattle.law_role_server_rows.specs.Putting.Copying.{IsConnB2, IsInR1A2, Begins, CameAt, CopiesAt}

-- ---- what is kept

abbrev pub StageHas : List OnLeg → Stage → Type 0
StageHas came stage.Waits = Unit {0}
StageHas came (stage.OutCame connection) = Unit {0}
StageHas came (stage.InCame connection window timeout) =
    CameAt InServer 1 (IsConnB2 window timeout) came
StageHas came (stage.Open connection) = Unit {0}
StageHas came stage.Ended = Unit {0}

abbrev pub WaitHas : List OnLeg → ℕ → Cookie → InStage → Type 0
WaitHas came n cookie in_stage.Fresh = Unit {0}
WaitHas came n cookie (in_stage.Waits window timeout ended) =
    CameAt InServer n (IsInR1A2 window timeout) came × CameAt InServer n (Begins cookie) came
WaitHas came n cookie in_stage.Opened = Unit {0}

abbrev pub LegHas : List OnLeg → InLeg → Type 0
LegHas came leg = WaitHas came leg.number leg.cookie leg.stage

abbrev pub DueCopies : ℕ → List OnLeg → Due → Type 0
DueCopies size came due = (kind : LegKind) (n : ℕ) → CopiesAt size came kind n due.packet

-- the cookie of a channel came on its leg
abbrev pub ChannelHas : List OnLeg → ℕ → Cookie → Type 0
ChannelHas came n cookie = CameAt InServer n (Begins cookie) came ⊎ (cookie ≡ no_cookie)

pub record Held (size : ℕ) (came : List OnLeg) (at : Stage) (window : ℕ) (n : ℕ) (cookie : Cookie)
    (next : ℕ) (next_cookie : Cookie) (ins : List InLeg) (dues : List Due) : Type 0 where
  pub window_is : window ≡ size
  pub staged : StageHas came at
  pub current : ChannelHas came n cookie
  pub following : ChannelHas came next next_cookie
  pub legs : AllByRecursion (LegHas came) ins
  pub packets : AllByRecursion (DueCopies size came) dues

-- ---- more came

leg_more : (came : List OnLeg) (one : OnLeg) (n : ℕ) (cookie : Cookie) (x : InStage)
    → WaitHas came n cookie x → WaitHas (came ++ one ∷ []) n cookie x
leg_more came one n cookie in_stage.Fresh h = tt
leg_more came one n cookie (in_stage.Waits window timeout ended) h =
    (came_more InServer n _ came one h.0, came_more InServer n _ came one h.1)
leg_more came one n cookie in_stage.Opened h = tt

legs_more : (came : List OnLeg) (one : OnLeg) (legs : List InLeg)
    → AllByRecursion (LegHas came) legs → AllByRecursion (LegHas (came ++ one ∷ [])) legs
legs_more came one [] h = tt
legs_more came one (leg ∷ legs) h =
    (leg_more came one leg.number leg.cookie leg.stage h.0, legs_more came one legs h.1)

dues_more : (size : ℕ) (came : List OnLeg) (one : OnLeg) (dues : List Due)
    → AllByRecursion (DueCopies size came) dues
    → AllByRecursion (DueCopies size (came ++ one ∷ [])) dues
dues_more size came one [] h = tt
dues_more size came one (due ∷ dues) h = (
  λ kind n. copies_more size came one kind n due.packet (h.0 kind n),
  dues_more size came one dues h.1,
)

channel_more : (came : List OnLeg) (one : OnLeg) (n : ℕ) (cookie : Cookie)
    → ChannelHas came n cookie → ChannelHas (came ++ one ∷ []) n cookie
channel_more came one n cookie (inl h) = inl (came_more InServer n _ came one h)
channel_more came one n cookie (inr h) = inr h

stage_more : (came : List OnLeg) (one : OnLeg) (x : Stage) → StageHas came x
    → StageHas (came ++ one ∷ []) x
stage_more came one stage.Waits h = tt
stage_more came one (stage.OutCame connection) h = tt
stage_more came one (stage.InCame connection window timeout) h =
    came_more InServer 1 _ came one h
stage_more came one (stage.Open connection) h = tt
stage_more came one stage.Ended h = tt

abbrev pub Fine : ℕ → List OnLeg → Server → Type 0
Fine size came s =
    Held size came s.stage s.line.size s.current.leg s.current.cookie s.next.leg s.next.cookie
    s.ins s.waiting.due

pub fine_more : (size : ℕ) (came : List OnLeg) (one : OnLeg) (s : Server) → Fine size came s
    → Fine size (came ++ one ∷ []) s
fine_more size came one s h = record {
  window_is = h.window_is;
  staged = stage_more came one s.stage h.staged;
  current = channel_more came one s.current.leg s.current.cookie h.current;
  following = channel_more came one s.next.leg s.next.cookie h.following;
  legs = legs_more came one s.ins h.legs;
  packets = dues_more size came one s.waiting.due h.packets;
}

-- ---- the window of a line stays

pub opened_size : (line : Line) (ended : Bool)
    → (ended_if ended (after_open_next line true)).size ≡ line.size
opened_size line true = refl
opened_size line false = refl

pub take_size : (line : Line) → (after_take line).size ≡ line.size
take_size line = search rules

pub finish_size : (line : Line) → (after_finish line).size ≡ line.size
finish_size line = search rules

module _ (size : ℕ) (came : List OnLeg) where
  -- ---- a part is changed

  pub stage_is : (s : Server) (new : Stage) → Fine size came s → StageHas came new
      → Fine size came (record s { stage = new })
  stage_is s new h is = record {
    window_is = h.window_is;
    staged = is;
    current = h.current;
    following = h.following;
    legs = h.legs;
    packets = h.packets;
  }

  pub line_is : (s : Server) (new : Line) → Fine size came s → new.size ≡ s.line.size
      → Fine size came (record s { line = new })
  line_is s new h is = record {
    window_is = is ∙ h.window_is;
    staged = h.staged;
    current = h.current;
    following = h.following;
    legs = h.legs;
    packets = h.packets;
  }

  pub legs_are : (s : Server) (new : List InLeg) → Fine size came s
      → AllByRecursion (LegHas came) new → Fine size came (record s { ins = new })
  legs_are s new h are = record {
    window_is = h.window_is;
    staged = h.staged;
    current = h.current;
    following = h.following;
    legs = are;
    packets = h.packets;
  }

  pub packets_are : (s : Server) (new : Waiting) → Fine size came s
      → AllByRecursion (DueCopies size came) new.due
      → Fine size came (record s { waiting = new })
  packets_are s new h are = record {
    window_is = h.window_is;
    staged = h.staged;
    current = h.current;
    following = h.following;
    legs = h.legs;
    packets = are;
  }

  pub packet_added : (s : Server) (packet : Named) → Fine size came s
      → ((kind : LegKind) (n : ℕ) → CopiesAt size came kind n packet)
      → Fine size came (record s { waiting = added s.waiting packet })
  packet_added s packet h is =
      packets_are s (added s.waiting packet) h
      (each_push (DueCopies size came) s.waiting.due (own packet) h.packets is)

  -- ---- is legs

  pub leg_found : (s : Server) (n : ℕ) → Fine size came s
      → IfSome (in_leg n s.ins) (LegHas came)
  leg_found s n h = each_in (LegHas came) s.ins (in_place n s.ins) h.legs

  pub leg_set : (s : Server) (leg : InLeg) → Fine size came s → LegHas came leg
      → Fine size came (with_in s leg)
  leg_set s leg h is =
      legs_are s (set_at s.ins leg (in_place leg.number s.ins)) h
      (each_set (LegHas came) s.ins (in_place leg.number s.ins) leg is h.legs)

  pub leg_gone : (s : Server) (n : ℕ) → Fine size came s → Fine size came (without_in s n)
  leg_gone s n h =
      legs_are s (removed_at s.ins (in_place n s.ins)) h
      (each_removed (LegHas came) s.ins (in_place n s.ins) h.legs)

  -- ---- channels

  opens : (s : Server) (leg : InLeg) (x : InStage) → Fine size came s
      → WaitHas came leg.number leg.cookie x → Fine size came (opens_next s leg x)
  opens s leg in_stage.Fresh h is = h
  opens s leg in_stage.Opened h is = h
  opens s leg (in_stage.Waits window timeout ended) h is =
      leg_set (record s {
        line = ended_if ended (after_open_next s.line true);
        next = record { leg = leg.number; number = leg.number; cookie = leg.cookie };
        waiting = added s.waiting (named.InR1A3 0 1 window timeout);
      })
      (record leg { stage = in_stage.Opened; tells = tells.InR1B2 })
      (record {
        window_is = opened_size s.line ended ∙ h.window_is;
        staged = h.staged;
        current = h.current;
        following = inl is.1;
        legs = h.legs;
        packets = each_push (DueCopies size came) s.waiting.due
            (own (named.InR1A3 0 1 window timeout)) h.packets
            (λ kind n. ((refl, refl), (leg.number, is.0)));
      })
      tt

  pub next_opens : (s : Server) → Fine size came s → Fine size came (next_opened s)
  next_opens s h =
      by_test (Fine size came) (s.line.has_next || waits kinds.InR1A3 s.waiting) s
      (opens_leg s (first_waiting s.ins)) (λ e. h)
      (λ e. by (first_waiting s.ins)
      (each_in (LegHas came) s.ins (waiting_place s.ins) h.legs))
    where
      by : (leg : Option InLeg) → IfSome leg (LegHas came) → Fine size came (opens_leg s leg)
      by None is = h
      by (Some leg) is = opens s leg leg.stage h is

  -- the next channel may become current
  pub moves : (had_next : Bool) (s : Server) → Fine size came s
      → Fine size came (moved_if had_next s)
  moves had_next s h =
      by_test (Fine size came) (had_next && not s.line.has_next) (becomes_current s) s
      (λ e. next_opens (record s { current = s.next; edge = Shut }) (record {
        window_is = h.window_is;
        staged = h.staged;
        current = h.following;
        following = h.following;
        legs = h.legs;
        packets = h.packets;
      }))
      (λ e. h)

  pub takes_kept : (s : Server) → Fine size came s → Fine size came (take s)
  takes_kept s h =
      moves s.line.has_next (record s { line = after_take s.line })
      (line_is s (after_take s.line) h (take_size s.line))

  -- ---- behind each put, and where a leg is lost

  pub asks_kept : (s : Server) → Fine size came s → Fine size came (asks s)
  asks_kept s h = packet_added s (named.OutR1A1 0) h (λ kind n. refl)

  pub settles : (s : Server) → Fine size came s → Fine size came (settled s)
  settles s h =
      wish (completed s)
      (by_test (Fine size came) (is_complete s) (record s { stage = stage.Ended }) s
      (λ e. stage_is s stage.Ended h tt) (λ e. h))
    where
      wish : (t : Server) → Fine size came t → Fine size came (wished t)
      wish t q = by_test (Fine size came) (wishes t) (asks t) t (λ e. asks_kept t q) (λ e. q)
