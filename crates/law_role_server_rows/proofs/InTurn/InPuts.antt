-- what a server puts keeps what it knows of its is legs
use Rattle.law_order.proofs.Vocabulary.{◌≡◌, ℕ, ◌==◌, ◌&&◌, Bool, true, false, not, List, [], ◌∷◌, ◌++◌, Some, None, refl, rules, sym, ap, ◌∙◌, subst, false≢true, true≢false, and_parts, or_parts, append-nil, IfSome, slice_get, Option}
use Rattle.rh_sig.specs.declared.named.Named.TheVariants as named
use Rattle.rh_server.specs.declared.state.InStage.TheVariants as in_stage
use Rattle.rh_server.specs.declared.state.Leaving.TheVariants as leaving
use Rattle.rh_server.specs.declared.state.Stage.TheVariants as stage
use Rattle.rh_server.specs.declared.state.Tells.TheVariants as tells
use Rattle.law_moves.proofs.Vocabulary.{Ack, by_test, same_number, test_same, other_number, Cookie, after_tell, after_told, due, LegKind, ClientOut, OutServer, ClientIn, InServer, Current, greeting as greeting_text, is_ended, Message, Text, Packet, OnLeg, is_at_work, of_leg}
use Rattle.law_moves.proofs.Lemmas.{PutKeeps, leg_more}
use Rattle.law_role_server.proofs.Vocabulary.{Told, Greeting, Due, Put, InLeg, InStage, Leaving, OutLeg, Stage, Tells, Server, has_left, is_due, is_open, is_shut, phase_of, stays, in_leg, in_place, out_place, with_in, wished, completed, is_complete, settled, Pick, or_else, told_by, was_current, put_tells_by, put_tells, put_b1_by, put_b1, ack_due, put_ack_by, put_ack, put_in_by, out_greeting_at, put_out_greeting, next_out, settled_pick, put_open, put_out_at}
use Rattle.law_role_server.proofs.Vocabulary.{put_by as put_by_kind, rules as server_rules, leg_at}
use Rattle.law_role_server.proofs.Numbered.{once_map}
use Rattle.law_role_server.proofs.TakesKept.{has_begun as is_begun}
use Rattle.law_role_server_rows.proofs.Putting.Each.{number_found}
use Rattle.law_role_server_rows.proofs.InTurn.InView.{Alone, view, out_alone}
use Rattle.law_role_server_rows.proofs.InTurn.InLogs.{Base, IsTold, Written, acked, base_answers, greeted, left, told, told_answers}
use Rattle.law_role_server_rows.proofs.InTurn.InPlaces.{Found, found_at}
use Rattle.law_role_server_rows.proofs.InTurn.InKept.{is_opened, is_nothing, is_told, BegunBy, Kept, LeavesBy, So, TellsBy, Top, begun_if, leg_at_place, number_of, put_kept, set_kept, top_of}
use Rattle.law_role_server_rows.proofs.InTurn.InRows.{Alive, Fine, same_fine, stage_fine}
use Rattle.law_role_server_rows.proofs.InTurn.InTakes.{Holds}
use Rattle.law_role_server_rows.proofs.InTurn.Quiet.{is_opening, no_ack, Quiet}
use Rattle.law_role_server_rows.specs.Putting.Copying.{Begins, CameAt}
use Rattle.law_role_server_rows.specs.Putting.Greeting.{is}
use Rattle.law_role_server_rows.specs.InTurn.Answers.{AcksAt, AnswersOn, TellsAt}

due_is : (g : Greeting) → is_due g ≡ true → g ≡ Due
due_is Due e = refl
due_is Put e = absurd (false≢true e)

put_is : (g : Greeting) → is_due g ≡ false → g ≡ Put
put_is Due e = absurd (true≢false e)
put_is Put e = refl

-- it is open, or opens
opening_if : (x : Stage) → not (is_ended (phase_of x)) ≡ true → is_open x ≡ false
    → is_opening x ≡ true
opening_if stage.Waits work shut = refl
opening_if (stage.OutCame connection) work shut = refl
opening_if (stage.InCame connection window timeout) work shut = refl
opening_if (stage.Open connection) work shut = absurd (true≢false shut)
opening_if stage.Ended work shut = absurd (false≢true work)

pub open_begun : (x : Stage) → is_open x ≡ true → true ≡ is_begun x
open_begun stage.Waits e = absurd (false≢true e)
open_begun (stage.OutCame connection) e = absurd (false≢true e)
open_begun (stage.InCame connection window timeout) e = absurd (false≢true e)
open_begun (stage.Open connection) e = refl
open_begun stage.Ended e = absurd (false≢true e)

-- an acknowledgement is due on the current leg
ack_on : (s : Server) (leg : InLeg)
    → IfSome (ack_due s leg) (λ (a : Ack). leg.number ≡ s.current.leg)
ack_on s leg =
    by_test (λ (found : Option Ack). IfSome found (λ (a : Ack). leg.number ≡ s.current.leg))
    ((leg.number == s.current.leg) && (not s.line.finished && not s.line.current.ended))
    (due s.line Current) None
    (λ e. by (same_number leg.number s.current.leg
    (and_parts (leg.number == s.current.leg) _ e).0) (due s.line Current)) (λ e. tt)
  where
    by : leg.number ≡ s.current.leg → (o : Option Ack)
        → IfSome o (λ (a : Ack). leg.number ≡ s.current.leg)
    by at None = tt
    by at (Some a) = at

module _ (n : ℕ) where
  log_more : (m : ℕ) (came put : List OnLeg) (one : Message) (t : Server)
      → (n ≡ m → Fine n t came (of_leg (is n) put ++ one ∷ []))
      → ((n ≡ m → ⊥) → Fine n t came (of_leg (is n) put))
      → Holds n t came (put ++ (is m, one) ∷ [])
  log_more m came put one t here other =
      subst (λ (ms : List Message). Fine n t came ms) (sym (leg_more (is n) put (is m, one)))
      (by_test (λ (ms : List Message). Fine n t came (of_leg (is n) put ++ ms)) (m == n)
      (one ∷ []) [] (λ e. here (sym (same_number m n e)))
      (λ e. subst (λ (ms : List Message). Fine n t came ms)
      (sym (append-nil (of_leg (is n) put)))
      (other (λ at. true≢false (sym (test_same n) ∙ ap (λ (k : ℕ). k == n) at ∙ e)))))

  module _ (came : List OnLeg) where
    either : (b : Bool) (log : List Message) → IsTold n came log → Written n came b log
    either true log h = told_answers n came log h
    either false log h = h

    base_told : (g : Greeting) (log : List Message) → Base g log → IsTold n came log → ⊥
    base_told Due log base h = subst (IsTold n came) base h
    base_told Put log base h = (subst (IsTold n came) base h).1

    begun_at : (cookie : Cookie) (x : InStage) → is_opened x ≡ true → BegunBy n came cookie x
        → CameAt InServer n (Begins cookie) came
    begun_at cookie in_stage.Fresh e h = absurd (false≢true e)
    begun_at cookie (in_stage.Waits window timeout ended) e h = absurd (false≢true e)
    begun_at cookie in_stage.Opened e h = h

    opened_tells : (x : InStage) (t : Tells) → is_nothing t ≡ false → TellsBy n came x t
        → is_opened x ≡ true
    opened_tells x tells.Nothing e h = absurd (true≢false e)
    opened_tells x tells.ConnB3 e h = h.0
    opened_tells x tells.InR1B2 e h = h.0

    -- an acknowledgement behind others
    ack_kept : (x : Top) (newest : ℕ) (ins : List InLeg) (log : List Message) (m : Message)
        → IsTold n came log → AcksAt n came m → Kept n came x newest ins log
        → Kept n came x newest ins (log ++ m ∷ [])
    ack_kept x newest ins log m was acks h = record {
      may = told_answers n came (log ++ m ∷ []) (acked n came log m was acks);
      unborn = λ less. absurd (subst (IsTold n came) (h.unborn less).none was);
      legs = once_map number_of n (So n came x log) (So n came x (log ++ m ∷ [])) ins
          (λ w q. record {
            early = λ e. absurd (base_told w.greeting log (q.early e) was);
            told = λ e. (
              (q.told e).0,
              either (has_left w.leaving) (log ++ m ∷ [])
                  (acked n came log m was acks),
            );
            begun = q.begun;
            tells = q.tells;
            leaves = q.leaves;
            next = q.next;
            current = q.current;
            fresh = q.fresh;
          }) h.legs;
    }

  -- ---- a put on the leg x, whose number is m

  module _ (s : Server) (m : ℕ) (x : InLeg) (f : Found s.ins x) (number : x.number ≡ m)
      (came put : List OnLeg) (h : Holds n s came put) where
    abbrev top : Top
    top = top_of (view s)

    abbrev log : List Message
    log = of_leg (is n) put

    abbrev InPuts : Pick → Type 0
    InPuts pick = PutKeeps (Holds n) (is m) came put pick

    -- the leg changes
    leg_put : (y : InLeg) (one : Message) → y.number ≡ x.number
        → (So n came top log x
        → AnswersOn n came (log ++ one ∷ []) × So n came top (log ++ one ∷ []) y)
        → Holds n (with_in s y) came (put ++ (is m, one) ∷ [])
    leg_put y one same so =
        log_more m came put one (with_in s y)
        (λ e. put_kept n came top s.newest_in s.ins log one x y f same (e ∙ sym number) so h)
        (λ apart. set_kept n came top top s.newest_in s.ins log x y f same
        (λ at q. absurd (apart (at ∙ number))) (λ other w q. q) (λ other a. a) h)

    greeting_put : is_due x.greeting ≡ true
        → Holds n (with_in s (record x { greeting = Put })) came
        (put ++ (is m, Text greeting_text) ∷ [])
    greeting_put e =
        leg_put (record x { greeting = Put }) (Text greeting_text) refl
        (λ q.
        let none = untold (is_told x) refl q in
        let base = greeted n came log (subst (λ (g : Greeting). Base g log) (due_is x.greeting e)
        (q.early none)) in (
          base_answers n came Put (log ++ Text greeting_text ∷ []) base,
          record {
            early = λ f. base;
            told = λ f. absurd (true≢false (sym f ∙ none));
            begun = q.begun;
            tells = q.tells;
            leaves = q.leaves;
            next = q.next;
            current = q.current;
            fresh = q.fresh;
          },
        ))
      where
        apart : Due ≡ Put → ⊥
        apart e = cc

        untold : (b : Bool) → is_told x ≡ b → So n came top log x → b ≡ false
        untold false is q = refl
        untold true is q = absurd (apart (sym (due_is x.greeting e) ∙ (q.told is).0))

    -- CONN/B3 or IN_R1/B2
    tells_put : (one : Message) → x.greeting ≡ Put → is_nothing x.tells ≡ false
        → (TellsBy n came x.stage x.tells → TellsAt n came one)
        → Holds n (with_in s (record x { tells = tells.Nothing })) came
        (put ++ (is m, one) ∷ [])
    tells_put one greets what tells_at =
        leg_put (record x { tells = tells.Nothing }) one refl
        (λ q.
        let opened = opened_tells came x.stage x.tells what q.tells in
        let base = subst (λ (g : Greeting). Base g log) greets
        (q.early (untold (is_opened x.stage))) in
        let new = told n came log one base (tells_at q.tells) in (
          told_answers n came (log ++ one ∷ []) new,
          record {
            early = λ e. absurd (true≢false (sym (ap (λ (b : Bool). b && true) opened) ∙ e));
            told = λ e. (greets, either came (has_left x.leaving) (log ++ one ∷ []) new);
            begun = q.begun;
            tells = tt;
            leaves = q.leaves;
            next = q.next;
            current = q.current;
            fresh = q.fresh;
          },
        ))
      where
        untold : (b : Bool) → b && is_nothing x.tells ≡ false
        untold true = what
        untold false = refl

    -- IN_R1/B1
    in_r1_b1_put : x.leaving ≡ leaving.InR1B1 → (So n came top log x → is_nothing x.tells ≡ true)
        → Holds n (with_in s (record x { leaving = leaving.Left })) came
        (put ++ (is m, Packet named.InR1B1) ∷ [])
    in_r1_b1_put at plain =
        leg_put (record x { leaving = leaving.Left }) (Packet named.InR1B1) refl
        (λ q.
        let leaves = subst (LeavesBy n came s.stage x.stage) at q.leaves in
        let is_told_now = both (is_opened x.stage) (is_nothing x.tells) leaves.2 (plain q) in
        let was = q.told is_told_now in
        let new = left n came log (Packet named.InR1B1)
        (subst (λ (l : Leaving). Written n came (has_left l) log) at was.1) leaves.0 in (
          new,
          record {
            early = λ e. absurd (true≢false (sym is_told_now ∙ e));
            told = λ e. (was.0, new);
            begun = q.begun;
            tells = q.tells;
            leaves = tt;
            next = q.next;
            current = q.current;
            fresh = q.fresh;
          },
        ))
      where
        both : (a b : Bool) → a ≡ true → b ≡ true → a && b ≡ true
        both a b e f = ap (λ (y : Bool). y && b) e ∙ f

    -- an acknowledgement
    module _ (alive : has_left x.leaving ≡ false)
        (quiet : is_opening s.stage ≡ true → Quiet s.line) where
      ack_put : (o : Option Ack) → ack_due s x ≡ o
          → IfSome o (λ (a : Ack). x.number ≡ s.current.leg)
          → (x.number ≡ s.current.leg → is_opening s.stage ≡ false → is_nothing x.tells ≡ true)
          → InPuts (put_ack_by s o)
      ack_put None is_due on plain = tt
      ack_put (Some a) is_due on plain = by (is_opening s.stage) refl
        where
          apart : Some a ≡ None → ⊥
          apart e = cc

          one : Message
          one = Packet (named.Ack a.received a.available s.current.cookie)

          t : Server
          t = record s { line = after_told s.line Current a }

          both : (a b : Bool) → a ≡ true → b ≡ true → a && b ≡ true
          both a b e f = ap (λ (y : Bool). y && b) e ∙ f

          goes : is_opening s.stage ≡ false → n ≡ m
              → Fine n t came (of_leg (is n) put ++ one ∷ [])
          goes shut e =
              let q = leg_at_place n came top s.newest_in s.ins log x f (e ∙ sym number) h in
              let current = q.current (begun_if s.stage shut) (e ∙ sym number ∙ on) in
              let was = q.told (both (is_opened x.stage) (is_nothing x.tells) current.0
              (plain on shut)) in
              ack_kept came top s.newest_in s.ins log one
              (subst (λ (b : Bool). Written n came b log) alive was.1)
              (subst (λ (c : Cookie). CameAt InServer n (Begins c) came) current.1
              (begun_at came x.cookie x.stage current.0 q.begun)) h

          by : (b : Bool) → is_opening s.stage ≡ b → InPuts (put_ack_by s (Some a))
          by true opening = absurd (apart (sym is_due ∙ no_ack s x (quiet opening)))
          by false shut = log_more m came put one t (goes shut) (λ apart. h)

      -- behind what is told
      rest_put : (So n came top log x → x.leaving ≡ leaving.InR1B1 → is_nothing x.tells ≡ true)
          → (x.number ≡ s.current.leg → is_opening s.stage ≡ false → is_nothing x.tells ≡ true)
          → InPuts (or_else (put_b1 s x) (put_ack s x))
      rest_put plain_left plain_acked = by x.leaving refl
        where
          acks : InPuts (put_ack s x)
          acks = ack_put (ack_due s x) refl (ack_on s x) plain_acked

          by : (l : Leaving) → x.leaving ≡ l → InPuts (or_else (put_b1_by s x l) (put_ack s x))
          by leaving.Stays at = acks
          by leaving.InR1B1 at = in_r1_b1_put at (λ q. plain_left q at)
          by leaving.Left at = acks
          by leaving.Lost at = acks

      frames_put : is_at_work server_rules s ≡ true → x.greeting ≡ Put
          → InPuts (or_else (put_tells s x) (or_else (put_b1 s x) (put_ack s x)))
      frames_put work greets = by x.tells refl
        where
          rest : Pick
          rest = or_else (put_b1 s x) (put_ack s x)

          by : (t : Tells) → x.tells ≡ t → InPuts (or_else (put_tells_by s x t) rest)
          by tells.Nothing what =
              rest_put (λ q at. ap is_nothing what) (λ on shut. ap is_nothing what)
          by tells.ConnB3 what =
              by_test (λ (pick : Pick). InPuts (or_else pick rest)) (is_open s.stage)
              (Some (
                with_in s (record x { tells = tells.Nothing }),
                Packet (named.ConnB3 s.line.size 1),
              )) None
              (λ e. tells_put (Packet (named.ConnB3 s.line.size 1)) greets (ap is_nothing what)
              (λ q. let is = subst (TellsBy n came x.stage) what q in (is.1, is.2)))
              (λ e.
              let opening = opening_if s.stage work e in
              rest_put
              (λ q at. absurd (true≢false (sym opening
              ∙ (subst (LeavesBy n came s.stage x.stage) at q.leaves).1)))
              (λ on shut. absurd (true≢false (sym opening ∙ shut))))
          by tells.InR1B2 what =
              by_test (λ (pick : Pick). InPuts (or_else pick rest)) (was_current s x)
              (Some (
                with_in (told_by s x.number) (record x { tells = tells.Nothing }),
                Packet (named.InR1B2 s.line.size),
              )) None
              (λ e. by_test (λ (u : Server).
              Holds n (with_in u (record x { tells = tells.Nothing })) came
              (put ++ (is m, Packet (named.InR1B2 s.line.size)) ∷ []))
              ((x.number == s.current.leg) && is_shut s.edge)
              (record s { line = after_tell s.line Current; edge = Told }) s
              (λ g. told_put) (λ g. told_put))
              (λ e.
              let no = or_parts (x.number == s.current.leg) (not (stays x.leaving)) e in
              rest_put
              (λ q at. absurd (true≢false (sym (ap (λ (l : Leaving). not (stays l)) at) ∙ no.1)))
              (λ on shut. absurd (other_number x.number s.current.leg no.0 on)))
            where
              told_put : Holds n (with_in s (record x { tells = tells.Nothing })) came
                  (put ++ (is m, Packet (named.InR1B2 s.line.size)) ∷ [])
              told_put =
                  tells_put (Packet (named.InR1B2 s.line.size)) greets (ap is_nothing what)
                  (λ q. (subst (TellsBy n came x.stage) what q).1)

      leg_puts : is_at_work server_rules s ≡ true → InPuts (put_in_by s (Some x))
      leg_puts work =
          by_test (λ (pick : Pick). InPuts (or_else pick
          (or_else (put_tells s x) (or_else (put_b1 s x) (put_ack s x)))))
          (is_due x.greeting)
          (Some (with_in s (record x { greeting = Put }), Text greeting_text)) None
          (λ e. greeting_put e) (λ e. frames_put work (put_is x.greeting e))

  in_puts : (s : Server) (m : ℕ) (o : Option InLeg) → IfSome o (Found s.ins)
      → IfSome o (λ (x : InLeg). x.number ≡ m) → Alive o → is_at_work server_rules s ≡ true
      → (is_opening s.stage ≡ true → Quiet s.line) → (came put : List OnLeg)
      → Holds n s came put → PutKeeps (Holds n) (is m) came put (put_in_by s o)
  in_puts s m None f number alive work quiet came put h = tt
  in_puts s m (Some x) f number alive work quiet came put h =
      leg_puts s m x f number came put h alive quiet work

  -- ---- on os legs

  wished_same : (s : Server) → view (wished s) ≡ view s
  wished_same s = search rules

  pub settled_fine : (s : Server) (came : List OnLeg) (log : List Message) → Fine n s came log
      → Fine n (settled s) came log
  settled_fine s came log h =
      same_fine n (completed s) (settled s) came log (wished_same (completed s))
      (by_test (λ (t : Server). Fine n t came log) (is_complete s)
      (record s { stage = stage.Ended }) s
      (λ e. stage_fine n s (record s { stage = stage.Ended }) stage.Ended came log refl
      (λ f. refl) (open_begun s.stage (and_parts (is_open s.stage) _ e).0) h)
      (λ e. h))

  module _ (s : Server) (came : List OnLeg) (log : List Message) (h : Fine n s came log) where
    abbrev PickFine : Pick → Type 0
    PickFine pick = IfSome pick (λ (one : Server × Message). Fine n one.0 came log)

    or_fine : (a b : Pick) → PickFine a → PickFine b → PickFine (or_else a b)
    or_fine None b p q = q
    or_fine (Some pick) b p q = p

    alone_fine : (pick : Pick) → Alone s pick → PickFine (settled_pick pick)
    alone_fine None same = tt
    alone_fine (Some one) same =
        settled_fine one.0 came log (same_fine n s one.0 came log same h)

    out_fine : (place : Option ℕ) → PickFine (put_out_at s place)
    out_fine None = tt
    out_fine (Some place) =
        or_fine (put_out_greeting s place) (put_open s place) (greets (slice_get s.outs place))
        (by_test PickFine (is_open s.stage) (settled_pick (next_out s place)) None
        (λ e. alone_fine (next_out s place) (out_alone s place)) (λ e. tt))
      where
        greets : (o : Option OutLeg) → PickFine (out_greeting_at s place o)
        greets None = tt
        greets (Some leg) = by_test PickFine (is_due leg.greeting) _ None (λ e. h) (λ e. tt)

  out_puts : (m : ℕ) (came put : List OnLeg) (pick : Pick)
      → IfSome pick (λ (one : Server × Message). Fine n one.0 came (of_leg (is n) put))
      → PutKeeps (Holds n) (leg_at OutServer m) came put pick
  out_puts m came put None fine = tt
  out_puts m came put (Some one) fine =
      subst (λ (ms : List Message). Fine n one.0 came ms)
      (sym (leg_more (is n) put (leg_at OutServer m, one.1) ∙ append-nil (of_leg (is n) put)))
      fine

  pub puts : (s : Server) (m : ℕ) (k : LegKind) → (k ≡ InServer → Alive (in_leg m s.ins))
      → is_at_work server_rules s ≡ true → (is_opening s.stage ≡ true → Quiet s.line)
      → (came put : List OnLeg) → Holds n s came put
      → PutKeeps (Holds n) (leg_at k m) came put (put_by_kind s m k)
  puts s m InServer alive work quiet came put h =
      in_puts s m (in_leg m s.ins) (found_at s.ins (in_place m s.ins))
      (number_found m s.ins (in_place m s.ins) refl) (alive refl) work quiet came put h
  puts s m OutServer alive work quiet came put h =
      out_puts m came put (put_out_at s (out_place m s.outs))
      (out_fine s came (of_leg (is n) put) h (out_place m s.outs))
  puts s m ClientIn alive work quiet came put h = tt
  puts s m ClientOut alive work quiet came put h = tt
