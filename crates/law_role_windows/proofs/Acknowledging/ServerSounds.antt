-- what a server keeps of acknowledgements and windows came to it
use Rattle.law_order.proofs.Vocabulary.{ℕ, ◌+◌, ◌==◌, Bool, true, not, ◌&&◌, ◌||◌, List, [], ◌∷◌, ◌++◌, Some, None, Ok, Err, rules, if◌then◌else◌, IfSome, nat_lt, AllByRecursion, Option, Result}
use Rattle.rh_sig.specs.declared.named.Named.TheVariants as named
use Rattle.rh_shell.specs.declared.answers.Refused.TheVariants as refused
use Rattle.rh_server.specs.declared.state.Stage.{Stage}
use Rattle.rh_server.specs.declared.state.Edge.TheVariants.{Shut}
use Rattle.rh_server.specs.declared.state.InStage.{InStage}
use Rattle.rh_server.specs.declared.state.InLeg.{InLeg}
use Rattle.rh_server.specs.declared.state.OutLeg.{OutLeg}
use Rattle.rh_server.specs.declared.state.Replacement.{Replacement}
use Rattle.rh_server.specs.declared.state.Replacement.TheVariants.{Steady, Asked, Answered, Confirmed}
use Rattle.rh_server.specs.OutLines.{waits, is_ack_of}
use Rattle.rh_server.specs.States.{Server, is_open, is_waiting, stays, in_at, in_place, set_at, removed_at, same_cookie, in_leg, out_at, out_place, out_cookie, with_in, without_in, without_out}
use Rattle.rh_server.specs.Opening.{Done, took, refuse, unexpected, is_first, may_up, up, up_by, in_leg_up, first_in, opens, with_first_out, conn_a2_at, on_conn_a2, with_first_in}
use Rattle.rh_server.specs.Acknowledging.{channel_at, out_server}
use Rattle.rh_server.specs.InReplacement.{opens_next, opens_leg, first_waiting, waiting_place, next_opened, becomes_current, moved_if, leaves_by, leaves, hands_over, on_in_r1_a6, in_r2_a2_on, on_in_r2_a2}
use Rattle.rh_server.specs.OutReplacement.{asks, recycle, is_under_way, last_number, wishes, wished, answered_by, answered_on, out_r1_a4_by, out_r1_a4_at, may_answer, on_out_r1_a4, confirms, out_r1_a8_at, on_out_r1_a8}
use Rattle.rh_server.specs.Ending.{is_over_on, end_a2_on_leg, end_a2_waiting, end_a2_at, on_end_a2, is_complete, completed, settled, drawn_by, in_is_drawn, mark_by, lost_in, without_ack_of, with_ack_dropped}
use Rattle.rh_server.specs.declared.state.Stage.TheVariants as stage
use Rattle.rh_server.specs.declared.state.InStage.TheVariants as in_stage
use Rattle.rh_server.specs.declared.out_line.Kind.TheVariants as kind
use Rattle.rh_server.specs.declared.state.Tells.TheVariants as tells
use Rattle.rh_server.specs.declared.state.Leaving.TheVariants as leaving
use Rattle.law_moves.proofs.Vocabulary.{by_test, Cookie, Named, each_push, Leg, LegKind, ClientOut, OutServer, ClientIn, InServer, Which, Current, Next, after_end, after_finish, Count, Due, RecycleRefused, Busy, Last, Waiting, own, added, OnLeg}
use Rattle.law_moves.proofs.Lemmas.{each_so}
use Rattle.law_role_windows.proofs.Acknowledging.Lists.{all_at, all_set, all_removed}
use Rattle.law_role_windows.proofs.Acknowledging.Waiting.{EachIs, others_are}
use Rattle.law_role_windows.proofs.Acknowledging.Sources.{IsFrom, tells_on_stays, from_stays}
use Rattle.law_role_windows.proofs.Acknowledging.Passing.{Of, each_stays}
use Rattle.law_role_windows.proofs.Acknowledging.Passing as passing
use Rattle.law_role_windows.specs.Acknowledging.Windows.{TellsOn, ByConnB2, ByInR1A2}

-- what the facts are about: what waits, the window of CONN/B2 while that is not told, and those of
-- IN_R1/A2
pub record Seen : Type 0 where
  pub waiting : Waiting
  pub opening : Stage
  pub legs : List InLeg

abbrev pub seen : Server → Seen
seen s = record { waiting = s.waiting; opening = s.stage; legs = s.ins }

abbrev pub OfStage : List OnLeg → Stage → Type 0
OfStage came (stage.InCame connection window timeout) = TellsOn ByConnB2 InServer window came
OfStage came at = Unit {0}

abbrev pub OfInStage : List OnLeg → InStage → Type 0
OfInStage came (in_stage.Waits window timeout ended) = TellsOn ByInR1A2 InServer window came
OfInStage came at = Unit {0}

abbrev pub OfLeg : List OnLeg → InLeg → Type 0
OfLeg came leg = OfInStage came leg.stage

-- ---- legs

pub leg_at : (came : List OnLeg) (ins : List InLeg) (place : Option ℕ)
    → AllByRecursion (OfLeg came) ins → IfSome (in_at ins place) (OfLeg came)
leg_at came ins None all = tt
leg_at came ins (Some place) all = all_at (OfLeg came) ins place all

pub legs_set : (came : List OnLeg) (ins : List InLeg) (leg : InLeg) (place : Option ℕ)
    → OfLeg came leg → AllByRecursion (OfLeg came) ins
    → AllByRecursion (OfLeg came) (set_at ins leg place)
legs_set came ins leg None is all = all
legs_set came ins leg (Some place) is all = all_set (OfLeg came) ins place leg is all

pub legs_removed : (came : List OnLeg) (ins : List InLeg) (place : Option ℕ)
    → AllByRecursion (OfLeg came) ins → AllByRecursion (OfLeg came) (removed_at ins place)
legs_removed came ins None all = all
legs_removed came ins (Some place) all = all_removed (OfLeg came) ins place all

-- ---- what is so of a state

module _ (to : ℕ) where
  abbrev pub Is : Of Named
  Is = IsFrom InServer to 0

  pub record Sound (came : List OnLeg) (x : Seen) : Type 0 where
    pub packets : EachIs (Is came) x.waiting.due
    pub opening : OfStage came x.opening
    pub legs : AllByRecursion (OfLeg came) x.legs

  pub sound_stays : (came : List OnLeg) (one : OnLeg) (x : Seen) → Sound came x
      → Sound (came ++ one ∷ []) x
  sound_stays came one x h = record {
    packets = each_stays Is (from_stays InServer to 0) came one x.waiting.due h.packets;
    opening = at_stage x.opening h.opening;
    legs = each_so (OfLeg came) (OfLeg (came ++ one ∷ [])) (λ leg. at_leg leg.stage) x.legs h.legs;
  }
    where
      at_stage : (at : Stage) → OfStage came at → OfStage (came ++ one ∷ []) at
      at_stage (stage.InCame connection window timeout) told =
          tells_on_stays ByConnB2 InServer window came one told
      at_stage at told = tt

      at_leg : (at : InStage) → OfInStage came at → OfInStage (came ++ one ∷ []) at
      at_leg (in_stage.Waits window timeout ended) told =
          tells_on_stays ByInR1A2 InServer window came one told
      at_leg at told = tt

  abbrev pub SoundOf : List OnLeg → Server → Type 0
  SoundOf came s = Sound came (seen s)

  abbrev pub Same : Server → Server → Type 0
  Same = passing.Same seen Is Sound

  abbrev pub Keeps : Server → Server → Type 0
  Keeps = passing.Keeps seen Is Sound

  pub keeps_same : (s t : Server) → Same s t → Keeps s t
  keeps_same = passing.keeps_same seen Is Sound

  -- one more of its own
  pub added_sound : (came : List OnLeg) (x : Seen) (packet : Named) → Is came packet
      → Sound came x → Sound came (record x { waiting = added x.waiting packet })
  added_sound came x packet is h = record {
    packets = each_push (λ (due : Due). Is came due.packet) x.waiting.due (own packet) h.packets is;
    opening = h.opening;
    legs = h.legs;
  }

  -- a leg has changed, or is none any more
  pub leg_sound : (came : List OnLeg) (x : Seen) (leg : InLeg) → OfLeg came leg → Sound came x
      → Sound came (record x { legs = set_at x.legs leg (in_place leg.number x.legs) })
  leg_sound came x leg is h = record {
    packets = h.packets;
    opening = h.opening;
    legs = legs_set came x.legs leg (in_place leg.number x.legs) is h.legs;
  }

  pub keeps_without : (s : Server) (number : ℕ) → Keeps s (without_in s number)
  keeps_without s number came h = record {
    packets = h.packets;
    opening = h.opening;
    legs = legs_removed came s.ins (in_place number s.ins) h.legs;
  }

  pub found : (came : List OnLeg) (s : Server) (number : ℕ) → SoundOf came s
      → IfSome (in_leg number s.ins) (OfLeg came)
  found came s number h = leg_at came s.ins (in_place number s.ins) h.legs

  keeps_if : (s : Server) (b : Bool) (x y : Done) → Keeps s x.0 → Keeps s y.0
      → Keeps s (if b then x else y).0
  keeps_if s b x y h k = by_test (λ (z : Done). Keeps s z.0) b x y (λ e. h) (λ e. k)

  pub keeps_test : (s : Server) (b : Bool) (t u : Server) → Keeps s t → Keeps s u
      → Keeps s (if b then t else u)
  keeps_test s b t u h k = by_test (Keeps s) b t u (λ e. h) (λ e. k)

  -- ---- legs come up

  keeps_up_by : (s : Server) (number : ℕ) (kind : LegKind) → Keeps s (up_by s number kind)
  keeps_up_by s number InServer came h = record {
    packets = h.packets;
    opening = h.opening;
    legs = each_push (OfLeg came) s.ins (in_leg_up number) h.legs tt;
  }
  keeps_up_by s number OutServer came h = h
  keeps_up_by s number ClientIn came h = h
  keeps_up_by s number ClientOut came h = h

  pub keeps_up : (s : Server) (leg : Leg) (cookie : Cookie) → Keeps s (up s leg cookie)
  keeps_up s leg cookie =
      keeps_test s (may_up s leg) (up_by s leg.number leg.kind) s
      (keeps_up_by s leg.number leg.kind) (λ came h. h)

  -- ---- behind puts

  keeps_asks : (s : Server) → Keeps s (asks s)
  keeps_asks s came h = added_sound came (seen s) (named.OutR1A1 0) tt h

  keeps_completed : (s : Server) → Keeps s (completed s)
  keeps_completed s =
      keeps_test s (is_complete s) (record s { stage = stage.Ended }) s
      (λ came h. record { packets = h.packets; opening = tt; legs = h.legs })
      (λ came h. h)

  keeps_wished : (s : Server) → Keeps s (wished s)
  keeps_wished s = keeps_test s (wishes s) (asks s) s (keeps_asks s) (λ came h. h)

  pub keeps_settled : (s : Server) → Keeps s (settled s)
  keeps_settled s came h = keeps_wished (completed s) came (keeps_completed s came h)

  -- ---- the next channel

  keeps_opens : (came : List OnLeg) (s : Server) (leg : InLeg) (at : InStage)
      → OfInStage came at → SoundOf came s → SoundOf came (opens_next s leg at)
  keeps_opens came s leg in_stage.Fresh told h = h
  keeps_opens came s leg in_stage.Opened told h = h
  keeps_opens came s leg (in_stage.Waits window timeout ended) told h =
      let packet = named.InR1A3 0 1 window timeout in
      leg_sound came (record (seen s) { waiting = added s.waiting packet })
      (record leg { stage = in_stage.Opened; tells = tells.InR1B2 }) tt
      (added_sound came (seen s) packet told h)

  keeps_opens_leg : (came : List OnLeg) (s : Server) (o : Option InLeg)
      → IfSome o (OfLeg came) → SoundOf came s → SoundOf came (opens_leg s o)
  keeps_opens_leg came s None told h = h
  keeps_opens_leg came s (Some leg) told h = keeps_opens came s leg leg.stage told h

  pub keeps_next_opened : (s : Server) → Keeps s (next_opened s)
  keeps_next_opened s =
      keeps_test s (s.line.has_next || waits kind.InR1A3 s.waiting) s
      (opens_leg s (first_waiting s.ins)) (λ came h. h)
      (λ came h. keeps_opens_leg came s (first_waiting s.ins)
      (leg_at came s.ins (waiting_place s.ins) h.legs) h)

  pub keeps_moved : (had_next : Bool) (s : Server) → Keeps s (moved_if had_next s)
  keeps_moved had_next s =
      keeps_test s (had_next && not s.line.has_next) (becomes_current s) s
      (keeps_next_opened (record s { current = s.next; edge = Shut })) (λ came h. h)

  -- ---- the server opens

  same_first_out : (s : Server) (cookie : Cookie) (lifetime window : ℕ)
      → Same s (with_first_out s cookie lifetime window)
  same_first_out s cookie lifetime window = search rules

  keeps_first_in : (came : List OnLeg) (s : Server) (cookie : Cookie) (o : Option InLeg)
      → SoundOf came s → SoundOf came (first_in s cookie o)
  keeps_first_in came s cookie None h = h
  keeps_first_in came s cookie (Some leg) h =
      leg_sound came (seen s)
      (record leg { cookie = cookie; stage = in_stage.Opened; tells = tells.ConnB3 }) tt h

  pub keeps_with_first_in : (s : Server) (cookie : Cookie) → Keeps s (with_first_in s cookie)
  keeps_with_first_in s cookie came h = keeps_first_in came s cookie (in_leg 1 s.ins) h

  -- another stage, in which no window waits
  pub stage_sound : (came : List OnLeg) (x : Seen) (at : Stage) → OfStage came at
      → Sound came x → Sound came (record x { opening = at })
  stage_sound came x at told h = record { packets = h.packets; opening = told; legs = h.legs }

  pub keeps_opened : (came : List OnLeg) (s : Server) (connection : Cookie) (window timeout : ℕ)
      → TellsOn ByConnB2 InServer window came → SoundOf came s
      → SoundOf came (opens s connection window timeout)
  keeps_opened came s connection window timeout told h =
      added_sound came (record (seen s) { opening = stage.Open connection })
      (named.ConnC1 1 window timeout) told
      (stage_sound came (seen s) (stage.Open connection) tt h)

  keeps_a2_at : (came : List OnLeg) (s : Server) (at : Stage) (connection cookie : Cookie)
      (lifetime window : ℕ) → OfStage came at → SoundOf came s
      → SoundOf came (conn_a2_at s at connection cookie lifetime window).0
  keeps_a2_at came s stage.Waits connection cookie lifetime window told h =
      stage_sound came (seen (with_first_out s cookie lifetime window))
      (stage.OutCame connection) tt
      (keeps_same s (with_first_out s cookie lifetime window)
      (same_first_out s cookie lifetime window) came h)
  keeps_a2_at came s (stage.InCame first' in_window timeout) connection cookie lifetime window told
      h =
      by_test (λ (x : Done). SoundOf came x.0) (same_cookie first' connection)
      (took (opens (with_first_out s cookie lifetime window) first' in_window timeout))
      (refuse s (refused.Cookie first' connection))
      (λ e. keeps_opened came (with_first_out s cookie lifetime window) first' in_window timeout
      told
      (keeps_same s (with_first_out s cookie lifetime window)
      (same_first_out s cookie lifetime window) came h))
      (λ e. h)
  keeps_a2_at came s (stage.OutCame first') connection cookie lifetime window told h = h
  keeps_a2_at came s (stage.Open first') connection cookie lifetime window told h = h
  keeps_a2_at came s stage.Ended connection cookie lifetime window told h = h

  pub keeps_conn_a2 : (s : Server) (number : ℕ) (count : Count) (connection cookie : Cookie)
      (lifetime window : ℕ)
      → Keeps s (on_conn_a2 s number count connection cookie lifetime window).0
  keeps_conn_a2 s number count connection cookie lifetime window =
      keeps_if s (is_first count && ((number == 1) && not (waits kind.ConnC1 s.waiting)))
      (conn_a2_at s s.stage connection cookie lifetime window) (unexpected s)
      (λ came h. keeps_a2_at came s s.stage connection cookie lifetime window h.opening h)
      (λ came h. h)

  -- ---- other rows on is legs

  keeps_leaves : (came : List OnLeg) (s : Server) (o : Option InLeg) → IfSome o (OfLeg came)
      → SoundOf came s → SoundOf came (leaves_by s o)
  keeps_leaves came s None told h = h
  keeps_leaves came s (Some leg) told h =
      leg_sound came (seen s) (record leg { leaving = leaving.InR1B1 }) told h

  keeps_hands_over : (s : Server) (number : ℕ) → Keeps s (hands_over s number)
  keeps_hands_over s number came h =
      keeps_moved true (record (leaves s number) { line = after_finish s.line }) came
      (keeps_leaves came s (in_leg number s.ins) (found came s number h) h)

  pub keeps_in_r1_a6 : (s : Server) (number : ℕ) (successor : Cookie)
      → Keeps s (on_in_r1_a6 s number successor).0
  keeps_in_r1_a6 s number successor =
      keeps_if s ((number == s.current.leg)
      && (not s.line.finished && (s.line.has_next && not (waits kind.InR1A3 s.waiting))))
      (if same_cookie s.next.cookie successor then took (hands_over s number)
      else refuse s (refused.Cookie s.next.cookie successor)) (unexpected s)
      (keeps_if s (same_cookie s.next.cookie successor) (took (hands_over s number))
      (refuse s (refused.Cookie s.next.cookie successor)) (keeps_hands_over s number)
      (λ came h. h))
      (λ came h. h)

  keeps_in_r2_a2_on : (s : Server) (number : ℕ) (successor : Cookie) (o : Option Which)
      → Keeps s (in_r2_a2_on s number successor o).0
  keeps_in_r2_a2_on s number successor None came h = h
  keeps_in_r2_a2_on s number successor (Some Current) came h =
      added_sound came (seen s) (named.InR2A3 0) tt h
  keeps_in_r2_a2_on s number successor (Some Next) came h =
      added_sound came (seen s) (named.InR2A3 0) tt h

  pub keeps_in_r2_a2 : (s : Server) (number : ℕ) (count : Count) (successor : Cookie)
      → Keeps s (on_in_r2_a2 s number count successor).0
  keeps_in_r2_a2 s number count successor =
      keeps_if s (not (is_first count) && (is_open s.stage
      && (not (waits kind.InR2A3 s.waiting) && nat_lt s.newest_in 4294967295)))
      (in_r2_a2_on s number successor (channel_at s number)) (unexpected s)
      (keeps_in_r2_a2_on s number successor (channel_at s number)) (λ came h. h)

  keeps_a8_at : (s : Server) (successor : Cookie) (r : Replacement)
      → Keeps s (out_r1_a8_at s successor r).0
  keeps_a8_at s successor (Answered cookie) =
      keeps_if s (same_cookie cookie successor) (took (confirms s))
      (refuse s (refused.Cookie cookie successor))
      (λ came h. added_sound came (seen s) named.OutR1A9 tt h) (λ came h. h)
  keeps_a8_at s successor Steady = λ came h. h
  keeps_a8_at s successor Asked = λ came h. h
  keeps_a8_at s successor Confirmed = λ came h. h

  pub keeps_out_r1_a8 : (s : Server) (count : Count) (destination : ℕ) (successor : Cookie)
      → Keeps s (on_out_r1_a8 s count destination successor).0
  keeps_out_r1_a8 s count destination successor =
      keeps_if s (not (is_first count) && ((destination == 2)
      && not (waits kind.OutR1 s.waiting)))
      (out_r1_a8_at s successor s.replacement) (unexpected s)
      (keeps_a8_at s successor s.replacement) (λ came h. h)

  keeps_end_on : (came : List OnLeg) (s : Server) (leg : InLeg) (at : InStage)
      → OfInStage came at → SoundOf came s → SoundOf came (end_a2_on_leg s leg at).0
  keeps_end_on came s leg in_stage.Fresh told h = h
  keeps_end_on came s leg in_stage.Opened told h = h
  keeps_end_on came s leg (in_stage.Waits window timeout ended) told h =
      by_test (λ (x : Done). SoundOf came x.0) ended (unexpected s)
      (took (with_in s (record leg { stage = in_stage.Waits window timeout true }))) (λ e. h)
      (λ e. leg_sound came (seen s) (record leg { stage = in_stage.Waits window timeout true })
      told h)

  keeps_end_waiting : (came : List OnLeg) (s : Server) (o : Option InLeg)
      → IfSome o (OfLeg came) → SoundOf came s → SoundOf came (end_a2_waiting s o).0
  keeps_end_waiting came s None told h = h
  keeps_end_waiting came s (Some leg) told h = keeps_end_on came s leg leg.stage told h

  keeps_end_at : (s : Server) (number : ℕ) (o : Option Which)
      → Keeps s (end_a2_at s number o).0
  keeps_end_at s number (Some which) =
      keeps_if s (is_over_on s which) (unexpected s)
      (took (record s { line = after_end s.line which })) (λ came h. h) (λ came h. h)
  keeps_end_at s number None = λ came h.
      keeps_end_waiting came s (in_leg number s.ins) (found came s number h) h

  pub keeps_end_a2 : (s : Server) (number : ℕ) (count : Count)
      → Keeps s (on_end_a2 s number count).0
  keeps_end_a2 s number count =
      keeps_if s (is_first count) (unexpected s) (end_a2_at s number (channel_at s number))
      (λ came h. h) (keeps_end_at s number (channel_at s number))

  -- ---- rows on os legs

  keeps_answered_by : (s : Server) (successor : Cookie) (lifetime window timeout : ℕ)
      (place : Option ℕ) (leg : Option OutLeg)
      → Keeps s (answered_by s successor lifetime window timeout place leg).0
  keeps_answered_by s successor lifetime window timeout (Some place) (Some leg) came h =
      added_sound came (seen s) (named.OutR1A5 0 1 timeout) tt h
  keeps_answered_by s successor lifetime window timeout (Some place) None came h = h
  keeps_answered_by s successor lifetime window timeout None leg came h = h

  keeps_a4_by : (s : Server) (number : ℕ) (first' connection predecessor successor : Cookie)
      (lifetime window timeout : ℕ) (o : Option Cookie)
      → Keeps s
      (out_r1_a4_by s number first' connection predecessor successor lifetime window timeout o).0
  keeps_a4_by s number first' connection predecessor successor lifetime window timeout None =
      λ came h. h
  keeps_a4_by s number first' connection predecessor successor lifetime window timeout
      (Some writing) =
      keeps_if s (not (same_cookie first' connection)) (refuse s (refused.Cookie first' connection))
      (if not (same_cookie writing predecessor) then refuse s (refused.Cookie writing predecessor)
      else answered_on s number successor lifetime window timeout)
      (λ came h. h)
      (keeps_if s (not (same_cookie writing predecessor))
      (refuse s (refused.Cookie writing predecessor))
      (answered_on s number successor lifetime window timeout) (λ came h. h)
      (keeps_answered_by s successor lifetime window timeout (out_place number s.outs)
      (out_at s.outs (out_place number s.outs))))

  keeps_a4_at : (s : Server) (at : Stage) (number : ℕ) (connection predecessor successor : Cookie)
      (lifetime window timeout : ℕ)
      → Keeps s
      (out_r1_a4_at s at number connection predecessor successor lifetime window timeout).0
  keeps_a4_at s (stage.Open first') number connection predecessor successor lifetime window
      timeout =
      keeps_a4_by s number first' connection predecessor successor lifetime window timeout
      (out_cookie s.writing s.outs)
  keeps_a4_at s opening number connection predecessor successor lifetime window timeout =
      λ came h. h

  pub keeps_out_r1_a4 : (s : Server) (number : ℕ) (count : Count)
      (connection predecessor successor : Cookie) (lifetime window timeout : ℕ)
      → Keeps s
      (on_out_r1_a4 s number count connection predecessor successor lifetime window timeout).0
  keeps_out_r1_a4 s number count connection predecessor successor lifetime window timeout =
      keeps_if s (may_answer s number count)
      (out_r1_a4_at s s.stage number connection predecessor successor lifetime window timeout)
      (unexpected s)
      (keeps_a4_at s s.stage number connection predecessor successor lifetime window timeout)
      (λ came h. h)

  -- ---- ends, breaks and calls

  pub keeps_drawn : (s : Server) (n : ℕ) (k : LegKind) → Keeps s (drawn_by s n k)
  keeps_drawn s n InServer =
      keeps_test s (in_is_drawn (in_leg n s.ins)) (settled (without_in s n)) s
      (λ came h. keeps_settled (without_in s n) came (keeps_without s n came h)) (λ came h. h)
  keeps_drawn s n OutServer = λ came h. h
  keeps_drawn s n ClientIn = λ came h. h
  keeps_drawn s n ClientOut = λ came h. h

  keeps_lost : (came : List OnLeg) (s : Server) (n : ℕ) (o : Option InLeg)
      → IfSome o (OfLeg came) → SoundOf came s → SoundOf came (lost_in s n o)
  keeps_lost came s n None told h = keeps_without s n came h
  keeps_lost came s n (Some leg) told h =
      by_test (SoundOf came) (is_waiting leg.stage && stays leg.leaving)
      (with_in s (record leg { leaving = leaving.Lost })) (without_in s n)
      (λ e. leg_sound came (seen s) (record leg { leaving = leaving.Lost }) told h)
      (λ e. keeps_without s n came h)

  keeps_dropped : (w : Waiting) (o : Option Cookie) (came : List OnLeg)
      → EachIs (Is came) w.due → EachIs (Is came) (without_ack_of w o).due
  keeps_dropped w None came h = h
  keeps_dropped w (Some cookie) came h = others_are (Is came) (is_ack_of cookie) w.due h

  pub keeps_mark : (s : Server) (n : ℕ) (k : LegKind) → Keeps s (mark_by s n k)
  keeps_mark s n InServer came h =
      keeps_settled (lost_in s n (in_leg n s.ins)) came
      (keeps_lost came s n (in_leg n s.ins) (found came s n h) h)
  keeps_mark s n OutServer came h =
      keeps_settled (without_out (with_ack_dropped s n) n) came (record {
        packets = keeps_dropped s.waiting (out_cookie n s.outs) came h.packets;
        opening = h.opening;
        legs = h.legs;
      })
  keeps_mark s n ClientIn came h = h
  keeps_mark s n ClientOut came h = h

  pub keeps_recycle : (s : Server) → Keeps s (recycle s).0
  keeps_recycle s =
      by_test Recycles (s.writing == last_number) (s, Err Last) other (λ t came h. h)
      (λ t. by_test Recycles (is_under_way s) (s, Err (Busy (out_server (s.writing + 1))))
      (asks s, Ok tt) (λ u came h. h) (λ u. keeps_asks s))
    where
      Recycles : Server × Result (Unit {0}) RecycleRefused → Type 0
      Recycles x = Keeps s x.0

      other : Server × Result (Unit {0}) RecycleRefused
      other =
          if is_under_way s then (s, Err (Busy (out_server (s.writing + 1))))
          else (asks s, Ok tt)
