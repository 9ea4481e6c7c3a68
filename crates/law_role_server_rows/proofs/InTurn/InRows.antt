-- a server's rows keep what it knows of its is legs
use Rattle.law_order.proofs.Vocabulary.{◌≡◌, ℕ, ◌+◌, ◌&&◌, ◌||◌, Bool, true, false, not, if◌then◌else◌, List, [], ◌∷◌, ◌++◌, Some, None, arith, refl, sym, ap, ◌∙◌, subst, false≢true, true≢false, IfSome, IsTrue, Option}
use Rattle.rh_server.specs.declared.state.InStage.TheVariants as in_stage
use Rattle.rh_server.specs.declared.state.Leaving.TheVariants as leaving
use Rattle.rh_server.specs.declared.state.Tells.TheVariants as tells
use Rattle.rh_server.specs.declared.out_line.Kind.TheVariants as kinds
use Rattle.law_moves.proofs.Vocabulary.{by_test, Cookie, Named, InServer, Message, Packet, count_of, OnLeg, is_at_work, is_in_use, of_leg}
use Rattle.law_moves.proofs.Lemmas.{count_append, leg_more}
use Rattle.law_role_server.proofs.Vocabulary.{Shut, InLeg, InStage, Leaving, Stage, Tells, waits, Server, has_left, is_fresh, is_lost, in_leg, with_in, first_in, opens_next, opens_leg, first_waiting, waiting_place, next_opened, becomes_current, moved_if, announced, in_is_done, rules as server_rules, is_conn_b2, is_in_r1_a2, is_in_r1_a6, leg_at, often_at}
use Rattle.law_role_server.proofs.TakesKept.{has_begun as is_begun}
use Rattle.law_role_server_rows.proofs.Putting.Each.{came_last, has_one, own_leg}
use Rattle.law_role_server_rows.proofs.InTurn.InView.{InView, view, view_at}
use Rattle.law_role_server_rows.proofs.InTurn.InPlaces.{Found, found_at}
use Rattle.law_role_server_rows.proofs.InTurn.InLogs.{Written}
use Rattle.law_role_server_rows.proofs.InTurn.InKept.{is_opened, is_nothing, is_told, Top, top_of, BegunBy, TellsBy, LeavesBy, So, Kept, leaves_on, top_kept, stage_kept, set_kept}
use Rattle.law_role_server_rows.proofs.InTurn.Quiet.{is_opening}
use Rattle.law_role_server_rows.specs.Putting.Copying.{Begins, CameAt}
use Rattle.law_role_server_rows.specs.InTurn.Answers.{Came}

pub fresh_unopened : (x : InStage) → is_fresh x ≡ true → is_opened x ≡ false
fresh_unopened in_stage.Fresh e = refl
fresh_unopened (in_stage.Waits window timeout ended) e = refl
fresh_unopened in_stage.Opened e = absurd (false≢true e)

untold : (leg : InLeg) → is_opened leg.stage ≡ false → is_told leg ≡ false
untold leg e = ap (λ (b : Bool). b && is_nothing leg.tells) e

-- what comes now
pub came_now : (test : Named → Bool) (m : ℕ) (packet : Named) (came : List OnLeg)
    → test packet ≡ true → Came test m (came ++ (leg_at InServer m, Packet packet) ∷ [])
came_now test m packet came passes =
    let all : often_at test InServer m (came ++ one ∷ [])
    ≡ often_at test InServer m came + count_of test (of_leg (leg_at InServer m) (one ∷ [])) =
    ap (count_of test) (leg_more (leg_at InServer m) came one)
    ∙ count_append test (of_leg (leg_at InServer m) came) (of_leg (leg_at InServer m) (one ∷ [])) in
    let here : count_of test (of_leg (leg_at InServer m) (one ∷ [])) ≡ 1 =
    ap (count_of test) (own_leg InServer m (Packet packet))
    ∙ ap {B = ℕ} (λ (b : Bool). if b then 1 else 0) passes in
    omega (arith, all, here)
  where
    one : OnLeg
    one = (leg_at InServer m, Packet packet)

pub begins_now : (cookie : Cookie) (m : ℕ) (packet : Named) (came : List OnLeg)
    → Begins cookie packet
    → CameAt InServer m (Begins cookie) (came ++ (leg_at InServer m, Packet packet) ∷ [])
begins_now cookie m packet came begins =
    has_one (Begins cookie) packet
    (of_leg (leg_at InServer m) (came ++ (leg_at InServer m, Packet packet) ∷ [])) begins
    (came_last InServer m packet came)

-- ---- a leg that is in use

abbrev pub Alive : Option InLeg → Type 0
Alive None = ⊥
Alive (Some leg) = has_left leg.leaving ≡ false

pub in_use : (s : Server) (m : ℕ) → IsTrue (is_in_use server_rules s (leg_at InServer m))
    → (is_at_work server_rules s ≡ true) × Alive (in_leg m s.ins)
in_use s m used = by (is_at_work server_rules s) (in_leg m s.ins) used
  where
    alive : (leg : InLeg) (a b : Bool) → IsTrue (not (a || b)) → a ≡ false
    alive leg true b used = absurd (false≢true used)
    alive leg false b used = refl

    by : (a : Bool) (o : Option InLeg) → IsTrue (a && not (in_is_done o))
        → (a ≡ true) × Alive o
    by true None used = absurd (false≢true used)
    by true (Some leg) used =
        (refl, alive leg (has_left leg.leaving) (is_lost leg.leaving) used)
    by false o used = absurd (false≢true used)

module _ (n : ℕ) where
  abbrev pub Fine : Server → List OnLeg → List Message → Type 0
  Fine s came log = Kept n came (top_of (view s)) s.newest_in s.ins log

  pub same_fine : (s t : Server) (came : List OnLeg) (log : List Message) → view t ≡ view s
      → Fine s came log → Fine t came log
  same_fine s t came log same h =
      subst (λ (v : InView). Kept n came (top_of v) v.newest v.ins log) (sym same) h

  -- the stage moves on
  pub stage_fine : (s t : Server) (new : Stage) (came : List OnLeg) (log : List Message)
      → view t ≡ view_at new s → (is_opening s.stage ≡ false → is_opening new ≡ false)
      → is_begun new ≡ is_begun s.stage → Fine s came log → Fine t came log
  stage_fine s t new came log same moves begun h =
      subst (λ (v : InView). Kept n came (top_of v) v.newest v.ins log) (sym same)
      (stage_kept n came (top_of (view s)) new s.newest_in s.ins log moves begun h)

  module _ (came : List OnLeg) (log : List Message) where
    abbrev FineNow : Server → Type 0
    FineNow s = Fine s came log

    no_tells : (x y : InStage) (t : Tells) → is_opened x ≡ false → TellsBy n came x t
        → TellsBy n came y t
    no_tells x y tells.Nothing shut h = tt
    no_tells x y tells.ConnB3 shut h = absurd (false≢true (sym shut ∙ h.0))
    no_tells x y tells.InR1B2 shut h = absurd (false≢true (sym shut ∙ h.0))

    no_leaves : (at new : Stage) (x y : InStage) (l : Leaving) → is_opened x ≡ false
        → LeavesBy n came at x l → LeavesBy n came new y l
    no_leaves at new x y leaving.Stays shut h = tt
    no_leaves at new x y leaving.InR1B1 shut h = absurd (false≢true (sym shut ∙ h.2))
    no_leaves at new x y leaving.Left shut h = tt
    no_leaves at new x y leaving.Lost shut h = tt

    -- the channel of a leg waits
    pub waits_so : (x : Top) (leg : InLeg) (cookie : Cookie) (window timeout : ℕ) (ended : Bool)
        → is_opened leg.stage ≡ false → (is_begun x.at ≡ false → ⊥)
        → CameAt InServer n (Begins cookie) came × Came is_in_r1_a2 n came
        → So n came x log leg
        → So n came x log (record leg {
          cookie = cookie;
          stage = in_stage.Waits window timeout ended;
        })
    waits_so x leg cookie window timeout ended shut begun begins q = record {
      early = λ e. q.early (untold leg shut);
      told = λ e. absurd (false≢true e);
      begun = begins;
      tells = no_tells leg.stage (in_stage.Waits window timeout ended) leg.tells shut q.tells;
      leaves = no_leaves x.at x.at leg.stage (in_stage.Waits window timeout ended) leg.leaving
          shut q.leaves;
      next = λ e. absurd (false≢true (sym shut ∙ (q.next e).0));
      current = λ e f. absurd (false≢true (sym shut ∙ (q.current e f).0));
      fresh = λ e. absurd (begun e);
    }

    -- ---- channels

    opens_fine : (s : Server) (leg : InLeg) (x : InStage) → leg.stage ≡ x → Found s.ins leg
        → FineNow s → FineNow (opens_next s leg x)
    opens_fine s leg in_stage.Fresh st f h = h
    opens_fine s leg in_stage.Opened st f h = h
    opens_fine s leg (in_stage.Waits window timeout ended) st f h =
        set_kept n came (top_of (view s))
        (record (top_of (view s)) { next = leg.number; next_cookie = leg.cookie })
        s.newest_in s.ins log leg
        (record leg { stage = in_stage.Opened; tells = tells.InR1B2 }) f refl
        (λ is q.
        let begins = subst (BegunBy n came leg.cookie) st q.begun in record {
          early = λ e. q.early (untold leg shut);
          told = λ e. absurd (false≢true e);
          begun = begins.0;
          tells = (refl, begins.1);
          leaves = no_leaves s.stage s.stage leg.stage in_stage.Opened leg.leaving shut q.leaves;
          next = λ e. (refl, refl);
          current = λ e k. (refl, (q.current e k).1);
          fresh = λ e. absurd (false≢true (sym (ap is_fresh st) ∙ q.fresh e));
        })
        (λ apart w q. record {
          early = q.early;
          told = q.told;
          begun = q.begun;
          tells = q.tells;
          leaves = q.leaves;
          next = λ e. absurd (apart e);
          current = q.current;
          fresh = q.fresh;
        })
        (λ apart a. record { next = apart; current = a.current }) h
      where
        shut : is_opened leg.stage ≡ false
        shut = ap is_opened st

    next_fine : (s : Server) → FineNow s → FineNow (next_opened s)
    next_fine s h =
        by_test FineNow (s.line.has_next || waits kinds.InR1A3 s.waiting) s
        (opens_leg s (first_waiting s.ins)) (λ e. h)
        (λ e. by (first_waiting s.ins) (found_at s.ins (waiting_place s.ins)))
      where
        by : (o : Option InLeg) → IfSome o (Found s.ins) → FineNow (opens_leg s o)
        by None f = h
        by (Some leg) f = opens_fine s leg leg.stage refl f h

    pub moved_fine : (had_next : Bool) (s : Server) → FineNow s → FineNow (moved_if had_next s)
    moved_fine had_next s h =
        by_test FineNow (had_next && not s.line.has_next) (becomes_current s) s
        (λ e. next_fine (record s { current = s.next; edge = Shut })
        (top_kept n came (top_of (view s))
        (record (top_of (view s)) { current = s.next.leg; cookie = s.next.cookie })
        s.newest_in s.ins log
        (λ leg q. record {
          early = q.early;
          told = q.told;
          begun = q.begun;
          tells = q.tells;
          leaves = q.leaves;
          next = q.next;
          current = λ f. q.next;
          fresh = q.fresh;
        })
        (λ a. record { next = a.next; current = λ f. a.next }) h))
        (λ e. h)

    -- the first channel begins
    pub first_fine : (s : Server) (new : Stage) (cookie : Cookie) (o : Option InLeg) → Alive o
        → IfSome o (Found s.ins) → IfSome o (λ (leg : InLeg). leg.number ≡ 1)
        → is_opening s.stage ≡ true → is_begun s.stage ≡ false → is_begun new ≡ true
        → CameAt InServer 1 (Begins cookie) came → Came is_conn_b2 1 came → FineNow s
        → Kept n came (top_of (view_at new (first_in s cookie o)))
        (first_in s cookie o).newest_in (first_in s cookie o).ins log
    first_fine s new cookie None alive f number opening begun goes begins conn_b2 h = absurd alive
    first_fine s new cookie (Some leg) alive f number opening begun goes begins conn_b2 h =
        set_kept n came (top_of (view s))
        (record (top_of (view s)) { at = new; current = 1; cookie = cookie })
        s.newest_in s.ins log leg
        (record leg { cookie = cookie; stage = in_stage.Opened; tells = tells.ConnB3 }) f refl
        (λ is q.
        let shut = fresh_unopened leg.stage (q.fresh begun) in record {
          early = λ e. q.early (untold leg shut);
          told = λ e. absurd (false≢true e);
          begun = subst (λ (k : ℕ). CameAt InServer k (Begins cookie) came)
              (sym (is ∙ number)) begins;
          tells = (
            refl,
            is ∙ number,
            subst (λ (k : ℕ). Came is_conn_b2 k came) (sym (is ∙ number)) conn_b2,
          );
          leaves = no_leaves s.stage new leg.stage in_stage.Opened leg.leaving shut q.leaves;
          next = λ e. absurd (false≢true (sym shut ∙ (q.next e).0));
          current = λ e k. (refl, refl);
          fresh = λ e. absurd (false≢true (sym e ∙ goes));
        })
        (λ apart w q. record {
          early = q.early;
          told = q.told;
          begun = q.begun;
          tells = q.tells;
          leaves = leaves_on n came s.stage new w.stage w.leaving
              (λ e. absurd (true≢false (sym opening ∙ e))) q.leaves;
          next = q.next;
          current = λ e k. absurd (apart (k ∙ sym number));
          fresh = λ e. absurd (false≢true (sym e ∙ goes));
        })
        (λ apart a. record { next = a.next; current = λ e k. apart (k ∙ sym number) }) h

    -- IN_R1/A2 was taken
    pub announces : (s : Server) (leg : InLeg) (cookie : Cookie) (window timeout : ℕ)
        → Found s.ins leg → is_fresh leg.stage ≡ true → is_begun s.stage ≡ true
        → CameAt InServer leg.number (Begins cookie) came × Came is_in_r1_a2 leg.number came
        → FineNow s → FineNow (announced s leg cookie window timeout)
    announces s leg cookie window timeout f fresh begun begins h =
        next_fine (with_in
        (record s { newest = record { leg = leg.number; cookie = cookie } })
        (record leg { cookie = cookie; stage = in_stage.Waits window timeout false }))
        (set_kept n came (top_of (view s)) (top_of (view s)) s.newest_in s.ins log leg
        (record leg { cookie = cookie; stage = in_stage.Waits window timeout false }) f refl
        (λ is q. waits_so (top_of (view s)) leg cookie window timeout false
        (fresh_unopened leg.stage fresh) (λ e. false≢true (sym e ∙ begun))
        (subst (λ (k : ℕ). CameAt InServer k (Begins cookie) came × Came is_in_r1_a2 k came)
        (sym is) begins) q)
        (λ apart w q. q) (λ apart a. a) h)

    -- IN_R1/A6 was taken
    pub leaves_fine : (s : Server) (leg : InLeg) → Found s.ins leg → has_left leg.leaving ≡ false
        → leg.number ≡ s.current.leg → is_opening s.stage ≡ false → is_begun s.stage ≡ true
        → Came is_in_r1_a6 leg.number came → FineNow s
        → FineNow (with_in s (record leg { leaving = leaving.InR1B1 }))
    leaves_fine s leg f stays current opening begun in_r1_a6 h =
        set_kept n came (top_of (view s)) (top_of (view s)) s.newest_in s.ins log leg
        (record leg { leaving = leaving.InR1B1 }) f refl
        (λ is q. record {
          early = q.early;
          told = λ e. let t = q.told e in
              (t.0, subst (λ (b : Bool). Written n came b log) stays t.1);
          begun = q.begun;
          tells = q.tells;
          leaves = (
            subst (λ (k : ℕ). Came is_in_r1_a6 k came) (sym is) in_r1_a6,
            opening,
            (q.current begun (is ∙ current)).0,
          );
          next = q.next;
          current = q.current;
          fresh = q.fresh;
        })
        (λ apart w q. q) (λ apart a. a) h
