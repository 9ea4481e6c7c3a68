-- what each event makes of the legs that a node keeps: they stay, one is changed, or one comes up
use Rattle.law_order.proofs.Vocabulary.{◌≡◌, ◌⊎◌, inl, inr, ℕ, zero, suc, List, [], ◌∷◌, ◌++◌, length, take, drop, cond, Bool, true, false, nat_lt, Some, None, Ok, Err, refl, sym, ap, ◌∙◌, subst, ◌&&◌, ◌||◌, not, nat_le, slice_set, Option, Result}
use Rattle.rh_line.specs.declared.cause.Cause.TheVariants as cause
use Rattle.rh_line.specs.declared.state.State.TheVariants as state
use Rattle.rh_shell.specs.Intakes.{Over}
use Rattle.rh_shell.specs.NearEnds.{is_empty}
use Rattle.rh_shell.specs.declared.answers.Behind.TheVariants as behinds
use Rattle.rh_shell.specs.declared.stage.Stage.TheVariants as stage
use Rattle.law_moves.proofs.Vocabulary.{HeadFault, header_length, frag_of, head_fault, Cookie, Refusal, Unavailable, Cause, Leg, State, Count, HeadRefused, HeadTaken, Course, Going, Closed, Refusing, Stop, Behind, Stage, Intake, Came, Nothing, Head, Greeting, Frame, Fault, on_byte, byte_by, text_by, frame_by, frame_byte, is_whole_head, is_whole_greeting, is_full, counted, Rules, Acts, put_into, NearEnd, new_end, marked, is_marked, is_ended, is_finished, is_over, Turn, goes}
use Rattle.law_moves.proofs.Vocabulary.{touched, with_intake, heading, head_row, stage_of, behind_head, behind_frame, take_frame, is_greeting, is_stopped, hear, hear_byte, take_next, take as taken, Drawn, drawn, put_on, begun_now, filled, left_by, next_byte, draw, Shell, same_leg, end_at, with_end, place, close, refuse, stop_by, stopped, may_up, with_leg, seated, up, bytes_at, bytes_by, lose, lost, ended_at, ended_by, wants, is_heard, unreached_by, unreached, broken_at}
use Rattle.law_moves.proofs.Vocabulary.{broken_by, put_back, drawn_at, drawn_by, first_silent, passed_by, passed, is_working, give_where, take_where, close_where, recycle_where, Event, ComesUp, Hears, Ends, Breaks, Draws, Ticks, after_event}
use Rattle.law_node_causes.proofs.HeardBytes.{hear_over, hear_first}
use Rattle.law_node_causes.proofs.Sorts.{and_false, and_true}
use Rattle.law_node_causes.specs.Moments.{hears_bytes, touches}

-- ---- the leg of an end stays where bytes are heard, and its moment is the last one

-- of the same leg, last heard at the same moment; it waits for a head only where the other does
record IsLike (a b : NearEnd) : Type 0 where
  leg : a.leg ≡ b.leg
  since : a.since ≡ b.since
  head : a.intake.stage ≡ stage.Head → b.intake.stage ≡ stage.Head

like_self : (a : NearEnd) → IsLike a a
like_self a = record { leg = refl; since = refl; head = λ h. h }

like_then : (a b c : NearEnd) → IsLike a b → IsLike b c → IsLike a c
like_then a b c p q = record {
  leg = p.leg ∙ q.leg;
  since = p.since ∙ q.since;
  head = λ h. q.head (p.head h);
}

-- ---- what a leg waits for

module _ (i : Intake) where
  -- no head is waited for behind a byte that was not before it
  abbrev Waits : Intake × Came → Type 0
  Waits n = n.0.stage ≡ stage.Head → i.stage ≡ stage.Head

  waits_by : (b : Bool) (m n : Intake × Came) → Waits m → Waits n → Waits (cond b m n)
  waits_by true m n p q = p
  waits_by false m n p q = q

  header_waits : (j : Intake) (all : List ℕ) (o : Option HeadFault) → j.stage ≡ i.stage
      → Waits (frame_by j all o)
  header_waits j all (Some fault) same = λ h. absurd cc
  header_waits j all None same =
      waits_by (nat_lt (length all) (frag_of all)) _ _ (λ h. sym same ∙ h) (λ h. sym same ∙ h)

  frame_waits : (j : Intake) (all : List ℕ) → j.stage ≡ i.stage → Waits (frame_byte j all)
  frame_waits j all same =
      waits_by (nat_lt (length all) header_length) _ _ (λ h. sym same ∙ h)
      (header_waits j all (head_fault all) same)

  text_waits : (all : List ℕ) (came : Came) (b : Bool) → Waits (text_by i all came b)
  text_waits all came true = λ h. h
  text_waits all came false = λ h. h

  byte_waits : (s : Stage) (all : List ℕ) → Waits (byte_by s i all)
  byte_waits stage.Head all = text_waits all (Head all) (is_whole_head all)
  byte_waits stage.Greeting all = text_waits all (Greeting all) (is_whole_greeting all)
  byte_waits stage.Frames all =
      waits_by (is_full i.body) _ _ (λ h. absurd cc)
      (frame_waits (record i { body = counted 1 i.body }) all refl)
  byte_waits stage.PassedOver all =
      waits_by (is_full i.body) _ _ (λ h. absurd cc) (λ h. h)
  byte_waits stage.Shut all = λ h. h

  on_byte_waits : (b : ℕ) → Waits (on_byte i b)
  unfolding on_byte
  on_byte_waits b = byte_waits i.stage (i.held ++ b ∷ [])

-- ---- bytes

head_like : {S : Type 0} (end : NearEnd) (leg : Leg) (n : ℕ) (x : S × Result HeadTaken HeadRefused)
    → IsLike (behind_head end (head_row leg n x)).end end
head_like end leg n (role, Ok t) =
    record { leg = refl; since = refl; head = λ h. absurd (not_head t.behind h) }
  where
    not_head : (behind : Behind) → stage_of behind ≡ stage.Head → ⊥
    not_head behinds.Frames h = absurd cc
    not_head behinds.PassedOver h = absurd cc
head_like end leg n (role, Err why) = like_self end

frame_like : {S : Type 0} (end : NearEnd) (x : S × Result Count Cause)
    → IsLike (behind_frame end x).end end
frame_like end (role, Ok next) = record { leg = refl; since = refl; head = λ h. h }
frame_like end (role, Err why) = like_self end

either_like : {S : Type 0} (t : Bool) (a b : Turn S) (end : NearEnd) → IsLike a.end end
    → IsLike b.end end → IsLike (cond t a b).end end
either_like true a b end p q = p
either_like false a b end p q = q

module _ {S : Type 0} (rules : Rules S) where
  came_like : (end : NearEnd) (role : S) (c : Came) → IsLike (taken rules end role c).end end
  unfolding taken
  came_like end role Nothing = like_self end
  came_like end role (Head text) =
      head_like end end.leg (length text) (rules.head role end.leg text)
  came_like end role (Greeting text) =
      either_like (is_greeting text) _ _ end
      (record { leg = refl; since = refl; head = λ h. absurd cc }) (like_self end)
  came_like end role (Frame at frame) =
      frame_like end (take_frame rules (heading end at) role frame)
  came_like end role (Fault at fault) = like_self end
  came_like end role (Over told) = like_self end

  next_like : (end : NearEnd) (role : S) (b : ℕ)
      → IsLike (take_next rules end role (on_byte end.intake b)).end end
  next_like end role b =
      let next = on_byte end.intake b in
      let e = with_intake end next.0 in
      like_then _ e end (came_like e role next.1)
      (record { leg = refl; since = refl; head = on_byte_waits end.intake b })

  module _ (now : ℕ) where
    byte_like : (t : Turn S) (b : ℕ) → t.end.since ≡ now
        → IsLike (hear_byte rules now t b).end t.end
    unfolding hear_byte
    byte_like t b is = by (is_stopped t.stop) (is_over rules t.end t.role)
      where
        heard : IsLike (take_next rules (touched t.end now) t.role (on_byte t.end.intake b)).end
            t.end
        heard = like_then _ (touched t.end now) t.end (next_like (touched t.end now) t.role b)
            (record { leg = refl; since = sym is; head = λ h. h })

        by : (stops over : Bool) → IsLike (cond (stops || over) t
            (take_next rules (touched t.end now) t.role (on_byte t.end.intake b))).end t.end
        by true over = like_self t.end
        by false true = like_self t.end
        by false false = heard

    -- where bytes were heard just now, those behind them change nothing of that
    rest_like : (t : Turn S) (bs : List ℕ) → t.end.since ≡ now
        → IsLike (hear rules now t bs).end t.end
    unfolding hear
    rest_like t [] is = like_self t.end
    rest_like t (b ∷ bs) is =
        let next = hear_byte rules now t b in
        let one = byte_like t b is in
        like_then _ next.end t.end (rest_like next bs (one.since ∙ is)) one

    hear_none : (end : NearEnd) (role : S) → hear rules now (goes end role) [] ≡ goes end role
    unfolding hear
    hear_none end role = refl

    -- the end behind a piece
    pub record HeardEnd (end new : NearEnd) (flag : Bool) : Type 0 where
      pub leg : new.leg ≡ end.leg
      pub since : new.since ≡ cond flag now end.since
      pub head : new.intake.stage ≡ stage.Head → end.intake.stage ≡ stage.Head

    pub piece_end : (end : NearEnd) (role : S) (piece : List ℕ)
        → HeardEnd end (hear rules now (goes end role) piece).end
        (not (is_empty piece) && not (is_over rules end role))
    piece_end end role [] =
        rw (hear_none end role) (record { leg = refl; since = refl; head = λ h. h })
    piece_end end role (b ∷ bs) = by (is_over rules end role) refl
      where
        by : (t : Bool) → is_over rules end role ≡ t
            → HeardEnd end (hear rules now (goes end role) (b ∷ bs)).end (not t)
        by true e =
            subst (λ (u : Turn S). HeardEnd end u.end false)
            (sym (hear_over rules now end role (b ∷ bs) e))
            (record { leg = refl; since = refl; head = λ h. h })
        by false e =
            let first = touched end now in
            let next = take_next rules first role (on_byte end.intake b) in
            let one = next_like first role b in
            let all = rest_like next bs one.since in
            subst (λ (u : Turn S). HeardEnd end u.end true)
            (sym (hear_first rules now end role b bs e))
            (record {
              leg = all.leg ∙ one.leg;
              since = all.since ∙ one.since;
              head = λ h. one.head (all.head h);
            })

    -- what is not heard changes nothing
    pub piece_unheard : (end : NearEnd) (role : S) (piece : List ℕ)
        → (not (is_empty piece) && not (is_over rules end role)) ≡ false
        → hear rules now (goes end role) piece ≡ goes end role
    piece_unheard end role [] h = hear_none end role
    piece_unheard end role (b ∷ bs) h = by (is_over rules end role) refl h
      where
        by : (t : Bool) → is_over rules end role ≡ t → not t ≡ false
            → hear rules now (goes end role) (b ∷ bs) ≡ goes end role
        by true e n = hear_over rules now end role (b ∷ bs) e
        by false e n = absurd cc

    -- ---- what is drawn

    begun_like : (end : NearEnd) (text : List ℕ) → IsLike (begun_now now end text) end
    begun_like end [] = like_self end
    begun_like end (b ∷ bs) = record { leg = refl; since = refl; head = λ h. h }

    filled_like : (end : NearEnd) (role : S) → IsLike (filled rules now end role).end end
    filled_like end role = by (is_empty end.begun && not (is_over rules end role))
      where
        put : S × List ℕ
        put = put_into role (rules.put role end.leg)

        by : (t : Bool) → IsLike (cond t (put_on now end put) (drawn end role [])).end end
        by true = begun_like end put.1
        by false = like_self end

    left_like : (end : NearEnd) (role : S) (bs : List ℕ)
        → IsLike (left_by rules end role bs).end end
    left_like end role [] = record { leg = refl; since = refl; head = λ h. h }
    left_like end role (b ∷ bs) = record { leg = refl; since = refl; head = λ h. h }

    more_like : (end : NearEnd) (f : Drawn S) (bytes : List ℕ) (more : NearEnd → S → Drawn S)
        → IsLike f.end end → ((e : NearEnd) (r : S) → IsLike (more e r).end e)
        → IsLike (next_byte rules f bytes more).end end
    more_like end f [] more first rest = first
    more_like end f (b ∷ bs) more first rest =
        let left = left_by rules f.end f.role bs in
        like_then _ left.end end (rest left.end left.role)
        (like_then _ f.end end (left_like f.end f.role bs) first)

    draw_like : (n : ℕ) (end : NearEnd) (role : S) → IsLike (draw rules now n end role).end end
    unfolding draw
    draw_like zero end role = like_self end
    draw_like (suc n) end role =
        let f = filled rules now end role in
        more_like end f f.end.begun (draw rules now n) (filled_like end role) (draw_like n)

-- ---- what an event makes of the legs

module _ {S : Type 0} (rules : Rules S) (s : Shell S) (event : Event) where
  -- no leg is touched
  abbrev pub IsUntouched : Type 0
  IsUntouched = (leg : Leg) → touches rules s leg event ≡ false

  pub record Stay (t : Shell S) : Type 0 where
    pub legs : t.legs ≡ s.legs
    pub touch : IsUntouched

  -- one end is another one of the same leg, which is touched or is not
  pub record Changes (t : Shell S) : Type 0 where
    pub leg : Leg
    pub old : NearEnd
    pub new : NearEnd
    pub flag : Bool
    pub at : end_at s leg ≡ Some old
    pub same : new.leg ≡ old.leg
    pub legs : t.legs ≡ slice_set s.legs (place leg s.legs) new
    pub since : new.since ≡ cond flag s.now old.since
    pub head : new.intake.stage ≡ stage.Head → old.intake.stage ≡ stage.Head
    pub touch : (other : Leg) → touches rules s other event ≡ (same_leg leg other && flag)

  pub record Comes (t : Shell S) : Type 0 where
    pub leg : Leg
    pub cookie : Cookie
    pub is : event ≡ ComesUp leg cookie
    pub may : may_up rules s leg ≡ true
    pub role : t.role ≡ rules.up s.role leg cookie
    pub legs : t.legs ≡ seated rules s.role (new_end leg (rules.pipe s.role leg) s.now) s.legs
    pub touch : (other : Leg) → touches rules s other event ≡ same_leg leg other

  abbrev pub Makes : Shell S → Type 0
  Makes t = Stay t ⊎ (Changes t ⊎ Comes t)

  stay : IsUntouched → (t : Shell S) → t.legs ≡ s.legs → Makes t
  stay none t same = inl (record { legs = same; touch = none })

  pair_by : (b : Bool) (t u : Shell S × List ℕ) → Makes t.0 → Makes u.0
      → Makes (cond b t u).0
  pair_by true t u p q = p
  pair_by false t u p q = q

  -- an end that is untouched
  one : IsUntouched → (leg : Leg) (end new : NearEnd) (role : S) → end_at s leg ≡ Some end
      → IsLike new end → Makes (with_end s leg new role)
  one none leg end new role at like = inr (inl (record {
    leg = leg;
    old = end;
    new = new;
    flag = false;
    at = at;
    same = like.leg;
    legs = refl;
    since = like.since;
    head = like.head;
    touch = λ other. none other ∙ sym (and_false (same_leg leg other));
  }))

  loses : IsUntouched → (leg : Leg) (end : NearEnd) (why : Cause) → end_at s leg ≡ Some end
      → Makes (lost rules s leg end why)
  loses none leg end why at = by (is_finished rules s.role end)
    where
      lost : IsLike (marked end) end
      lost = record { leg = refl; since = refl; head = λ h. h }

      by_mark : (t : Bool) → Makes
          (cond t (with_end s leg (marked end) (rules.mark s.role leg)) (close s why))
      by_mark true = one none leg end (marked end) (rules.mark s.role leg) at lost
      by_mark false = stay none (close s why) refl

      by_phase : (t : Bool) → Makes (cond t (with_end s leg (marked end) s.role)
          (cond (rules.only_marks s.role leg)
          (with_end s leg (marked end) (rules.mark s.role leg)) (close s why)))
      by_phase true = one none leg end (marked end) s.role at lost
      by_phase false = by_mark (rules.only_marks s.role leg)

      by : (t : Bool) → Makes (cond t s (lose rules s leg end why))
      by true = stay none s refl
      by false = by_phase (is_ended (rules.phase s.role))

  stop_legs : (t : Shell S) (leg : Leg) (o : Option Stop) → (stopped t leg o).legs ≡ t.legs
  stop_legs t leg None = refl
  stop_legs t leg (Some why) = by why.refusal
    where
      by : (o : Option Refusal) → (stop_by t leg why.cause o).legs ≡ t.legs
      by None = refl
      by (Some refusal) = refl

module _ {S : Type 0} (rules : Rules S) (s : Shell S) where
  comes_up : (leg : Leg) (cookie : Cookie)
      → Makes rules s (ComesUp leg cookie) (up rules s leg cookie)
  comes_up leg cookie = by (may_up rules s leg) refl
    where
      by : (t : Bool) → may_up rules s leg ≡ t
          → Makes rules s (ComesUp leg cookie) (cond t (with_leg rules s leg cookie) s)
      by false e = inl (record {
        legs = refl;
        touch = λ other.
            ap (λ t. same_leg leg other && t) e ∙ and_false (same_leg leg other);
      })
      by true e = inr (inr (record {
        leg = leg;
        cookie = cookie;
        is = refl;
        may = e;
        role = refl;
        legs = refl;
        touch = λ other.
            ap (λ t. same_leg leg other && t) e ∙ and_true (same_leg leg other);
      }))

  hears : (leg : Leg) (piece : List ℕ)
      → Makes rules s (Hears leg piece) (bytes_by rules s leg piece s.course)
  hears leg piece = by_course s.course refl
    where
      unheard : hears_bytes rules s leg piece ≡ false → IsUntouched rules s (Hears leg piece)
      unheard e = λ other.
          ap (λ t. same_leg leg other && t) e ∙ and_false (same_leg leg other)

      by_end : (o : Option NearEnd) → s.course ≡ Going → end_at s leg ≡ o
          → Makes rules s (Hears leg piece) (bytes_at rules s leg piece o)
      by_end None is e =
          stay rules s (Hears leg piece) (unheard (rw (is, e) (and_false (not (is_empty piece)))))
          s refl
      by_end (Some end) is e =
          let t = hear rules s.now (goes end s.role) piece in
          let flag = not (is_empty piece) && not (is_over rules end s.role) in
          let h = piece_end rules s.now end s.role piece in
          let hears : hears_bytes rules s leg piece ≡ flag = rw (is, e) refl in
          inr (inl (record {
            leg = leg;
            old = end;
            new = t.end;
            flag = flag;
            at = e;
            same = h.leg;
            legs = stop_legs rules s (Hears leg piece) (with_end s leg t.end t.role) leg t.stop;
            since = h.since;
            head = h.head;
            touch = λ other. ap (λ t. same_leg leg other && t) hears;
          }))

      by_course : (c : Course) → s.course ≡ c
          → Makes rules s (Hears leg piece) (bytes_by rules s leg piece c)
      by_course Going is = by_end (end_at s leg) is refl
      by_course (Closed why) is =
          stay rules s (Hears leg piece) (unheard (rw is (and_false (not (is_empty piece))))) s refl
      by_course (Refusing why client rest) is =
          stay rules s (Hears leg piece) (unheard (rw is (and_false (not (is_empty piece))))) s refl

  ends : (leg : Leg) → Makes rules s (Ends leg) (ended_by rules s leg s.course)
  ends leg = by_course s.course
    where
      by_end : (o : Option NearEnd) → end_at s leg ≡ o
          → Makes rules s (Ends leg) (ended_at rules s leg o)
      by_end None e = stay rules s (Ends leg) (λ other. refl) s refl
      by_end (Some end) e =
          loses rules s (Ends leg) (λ other. refl) leg end
          (cause.LegEnded leg (length end.intake.held)) e

      by_course : (c : Course) → Makes rules s (Ends leg) (ended_by rules s leg c)
      by_course Going = by_end (end_at s leg) refl
      by_course (Closed why) = stay rules s (Ends leg) (λ other. refl) s refl
      by_course (Refusing why client rest) = stay rules s (Ends leg) (λ other. refl) s refl

  breaks : (leg : Leg) → Makes rules s (Breaks leg) (broken_by rules s leg s.course)
  breaks leg = by_course s.course
    where
      same : (t : Shell S) → t.legs ≡ s.legs → Makes rules s (Breaks leg) t
      same t legs = stay rules s (Breaks leg) (λ other. refl) t legs

      heard : (client : Leg) (t : Bool) → Makes rules s (Breaks leg)
          (cond t (refuse s (cause.LegBroken leg) client Unavailable)
          (close s (cause.LegBroken leg)))
      heard client true = same _ refl
      heard client false = same _ refl

      by_client : (o : Option Leg)
          → Makes rules s (Breaks leg) (unreached_by s (cause.LegBroken leg) o)
      by_client None = same (close s (cause.LegBroken leg)) refl
      by_client (Some client) = heard client (is_heard (end_at s client))

      wanted : (t : Bool) → Makes rules s (Breaks leg) (cond t (unreached rules s leg) s)
      wanted true = by_client (rules.answers_on s.role)
      wanted false = same s refl

      by_end : (o : Option NearEnd) → end_at s leg ≡ o
          → Makes rules s (Breaks leg) (broken_at rules s leg o)
      by_end None e = wanted (wants rules s leg)
      by_end (Some end) e =
          loses rules s (Breaks leg) (λ other. refl) leg end (cause.LegBroken leg) e

      by_course : (c : Course) → Makes rules s (Breaks leg) (broken_by rules s leg c)
      by_course Going = by_end (end_at s leg) refl
      by_course (Closed why) = same s refl
      by_course (Refusing why client rest) = same s refl

  draws : (leg : Leg) (n : ℕ) → Makes rules s (Draws leg n) (drawn_by rules s leg n s.course).0
  draws leg n = by_course s.course
    where
      same : (t : Shell S) → t.legs ≡ s.legs → Makes rules s (Draws leg n) t
      same t legs = stay rules s (Draws leg n) (λ other. refl) t legs

      by_end : (o : Option NearEnd) → end_at s leg ≡ o
          → Makes rules s (Draws leg n) (drawn_at rules s leg n o).0
      by_end None e = same s refl
      by_end (Some end) e =
          let d = draw rules s.now n end s.role in
          let like = draw_like rules s.now n end s.role in
          pair_by rules s (Draws leg n) (is_marked end.standing) (s, []) (put_back s leg d)
          (same s refl)
          (one rules s (Draws leg n) (λ other. refl) leg end d.end d.role e like)

      by_course : (c : Course) → Makes rules s (Draws leg n) (drawn_by rules s leg n c).0
      by_course Going = by_end (end_at s leg) refl
      by_course (Closed why) = same s refl
      by_course (Refusing why client rest) =
          pair_by rules s (Draws leg n) (same_leg client leg)
          (record s { course = Refusing why client (drop n rest) }, take n rest) (s, [])
          (same _ refl) (same s refl)

  ticks : (now : ℕ) → Makes rules s (Ticks now) (after_event rules s (Ticks now))
  ticks now = by_time (is_working rules s && nat_le s.now now)
    where
      same : (t : Shell S) → t.legs ≡ s.legs → Makes rules s (Ticks now) t
      same t legs = stay rules s (Ticks now) (λ other. refl) t legs

      by : (o : Option (Leg × ℕ))
          → Makes rules s (Ticks now) (passed_by rules (record s { now = now }) o)
      by None = same _ refl
      by (Some silent) = same _ refl

      by_time : (t : Bool)
          → Makes rules s (Ticks now) (cond t (passed rules (record s { now = now })) s)
      by_time true = by (first_silent rules s.role now s.legs None)
      by_time false = same s refl

  pub makes : (event : Event) → Makes rules s event (after_event rules s event)
  makes (ComesUp leg cookie) = comes_up leg cookie
  makes (Hears leg piece) = hears leg piece
  makes (Ends leg) = ends leg
  makes (Breaks leg) = breaks leg
  makes (Draws leg n) = draws leg n
  makes (Ticks now) = ticks now

  -- ---- the calls of an end leave the legs as they are

  module _ (acts : Acts S) where
    pub given_legs : (pdu : List ℕ) (o : Option Cause) → (give_where acts s pdu o).0.legs ≡ s.legs
    given_legs pdu None = refl
    given_legs pdu (Some why) = refl

    pub taken_legs : (o : Option Cause) → (take_where acts s o).legs ≡ s.legs
    taken_legs None = refl
    taken_legs (Some why) = refl

    pub closed_legs : (o : Option Cause) → (close_where acts s o).legs ≡ s.legs
    closed_legs None = refl
    closed_legs (Some why) = refl

    pub recycled_legs : (st : State) → (recycle_where acts s st).0.legs ≡ s.legs
    recycled_legs state.Open = refl
    recycled_legs state.Opening = refl
    recycled_legs state.Ended = refl
    recycled_legs (state.Closed why) = refl
