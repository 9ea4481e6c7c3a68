-- what was put on an is leg, by what the server keeps of it
use Rattle.law_order.proofs.Vocabulary.{◌≡◌, ℕ, ◌==◌, ◌<◌, ◌+◌, ◌&&◌, Bool, true, false, true≢false, List, [], ◌∷◌, ◌++◌, Some, None, arith, refl, sym, ap, ◌∙◌, subst, false≢true, Option}
use Rattle.rh_server.specs.declared.state.InStage.TheVariants as in_stage
use Rattle.rh_server.specs.declared.state.Leaving.TheVariants as leaving
use Rattle.rh_server.specs.declared.state.Stage.TheVariants as stage
use Rattle.rh_server.specs.declared.state.Tells.TheVariants as tells
use Rattle.law_moves.proofs.Vocabulary.{same_number, test_same, test_other, Cookie, InServer, Message, OnLeg}
use Rattle.law_role_server.proofs.Vocabulary.{Put, InLeg, InStage, Leaving, Stage, Tells, has_left, is_fresh, in_place, removed_at, set_at, in_leg_up, is_conn_b2, is_in_r1_a2, is_in_r1_a6}
use Rattle.law_role_server.proofs.Numbered.{Absent, Once, absent_at, absent_push, absent_removed, absent_set, once_at, once_first, once_map, once_push, once_removed, once_set}
use Rattle.law_role_server.proofs.TakesKept.{has_begun as is_begun}
use Rattle.law_role_server_rows.proofs.Putting.Each.{came_more}
use Rattle.law_role_server_rows.proofs.InTurn.InLogs.{Base, Written, answers_so, came_so, written_so}
use Rattle.law_role_server_rows.proofs.InTurn.InPlaces.{Found, Placed, placed}
use Rattle.law_role_server_rows.proofs.InTurn.InView.{InView}
use Rattle.law_role_server_rows.proofs.InTurn.Quiet.{is_opening}
use Rattle.law_role_server_rows.specs.Putting.Copying.{Begins, CameAt}
use Rattle.law_role_server_rows.specs.InTurn.Answers.{Came, AnswersOn}

pub begun_if : (x : Stage) → is_opening x ≡ false → is_begun x ≡ true
begun_if stage.Waits e = absurd (true≢false e)
begun_if (stage.OutCame connection) e = absurd (true≢false e)
begun_if (stage.InCame connection window timeout) e = refl
begun_if (stage.Open connection) e = refl
begun_if stage.Ended e = refl

abbrev pub is_opened : InStage → Bool
is_opened in_stage.Fresh = false
is_opened (in_stage.Waits window timeout ended) = false
is_opened in_stage.Opened = true

abbrev pub is_nothing : Tells → Bool
is_nothing tells.Nothing = true
is_nothing tells.ConnB3 = false
is_nothing tells.InR1B2 = false

-- CONN/B3 or IN_R1/B2 was put
abbrev pub is_told : InLeg → Bool
is_told leg = is_opened leg.stage && is_nothing leg.tells

-- the stage, and the legs and cookies of the current channel and of the next
pub record Top : Type 0 where
  pub at : Stage
  pub current : ℕ
  pub cookie : Cookie
  pub next : ℕ
  pub next_cookie : Cookie

abbrev pub top_of : InView → Top
top_of v = record {
  at = v.at;
  current = v.current.leg;
  cookie = v.current.cookie;
  next = v.next.leg;
  next_cookie = v.next.cookie;
}

abbrev pub number_of : InLeg → ℕ
number_of leg = leg.number

module _ (n : ℕ) (came : List OnLeg) where
  abbrev pub BegunBy : Cookie → InStage → Type 0
  BegunBy cookie in_stage.Fresh = Unit {0}
  BegunBy cookie (in_stage.Waits window timeout ended) =
      CameAt InServer n (Begins cookie) came × Came is_in_r1_a2 n came
  BegunBy cookie in_stage.Opened = CameAt InServer n (Begins cookie) came

  abbrev pub TellsBy : InStage → Tells → Type 0
  TellsBy x tells.Nothing = Unit {0}
  TellsBy x tells.ConnB3 = (is_opened x ≡ true) × (n ≡ 1) × Came is_conn_b2 n came
  TellsBy x tells.InR1B2 = (is_opened x ≡ true) × Came is_in_r1_a2 n came

  abbrev pub LeavesBy : Stage → InStage → Leaving → Type 0
  LeavesBy at x leaving.Stays = Unit {0}
  LeavesBy at x leaving.InR1B1 =
      Came is_in_r1_a6 n came × (is_opening at ≡ false) × (is_opened x ≡ true)
  LeavesBy at x leaving.Left = Unit {0}
  LeavesBy at x leaving.Lost = Unit {0}

  -- the leg of that number is as far as its log
  pub record So (x : Top) (log : List Message) (leg : InLeg) : Type 0 where
    pub early : is_told leg ≡ false → Base leg.greeting log
    pub told : is_told leg ≡ true
        → (leg.greeting ≡ Put) × Written n came (has_left leg.leaving) log
    pub begun : BegunBy leg.cookie leg.stage
    pub tells : TellsBy leg.stage leg.tells
    pub leaves : LeavesBy x.at leg.stage leg.leaving
    pub next : n ≡ x.next → (is_opened leg.stage ≡ true) × (leg.cookie ≡ x.next_cookie)
    pub current : is_begun x.at ≡ true → n ≡ x.current
        → (is_opened leg.stage ≡ true) × (leg.cookie ≡ x.cookie)
    pub fresh : is_begun x.at ≡ false → is_fresh leg.stage ≡ true

  pub record Apart (x : Top) : Type 0 where
    pub next : n ≡ x.next → ⊥
    pub current : is_begun x.at ≡ true → n ≡ x.current → ⊥

  pub record Unborn (x : Top) (ins : List InLeg) (log : List Message) : Type 0 where
    pub none : log ≡ []
    pub absent : Absent number_of n ins
    pub apart : Apart x

  pub record Kept (x : Top) (newest : ℕ) (ins : List InLeg) (log : List Message) : Type 0 where
    pub may : AnswersOn n came log
    pub unborn : newest < n → Unborn x ins log
    pub legs : Once number_of n (So x log) ins

  -- ---- no leg changes

  -- but the stage, or which channel is the current one
  pub top_kept : (x y : Top) (newest : ℕ) (ins : List InLeg) (log : List Message)
      → ((leg : InLeg) → So x log leg → So y log leg) → (Apart x → Apart y)
      → Kept x newest ins log → Kept y newest ins log
  top_kept x y newest ins log so apart h = record {
    may = h.may;
    unborn = λ less. let u = h.unborn less in
        record { none = u.none; absent = u.absent; apart = apart u.apart };
    legs = once_map number_of n (So x log) (So y log) ins so h.legs;
  }

  pub leaves_on : (at new : Stage) (s : InStage) (l : Leaving)
      → (is_opening at ≡ false → is_opening new ≡ false) → LeavesBy at s l → LeavesBy new s l
  leaves_on at new s leaving.Stays moves h = tt
  leaves_on at new s leaving.InR1B1 moves h = (h.0, moves h.1, h.2)
  leaves_on at new s leaving.Left moves h = tt
  leaves_on at new s leaving.Lost moves h = tt

  -- the stage moves on, CONN/B2 apart
  pub stage_kept : (x : Top) (new : Stage) (newest : ℕ) (ins : List InLeg) (log : List Message)
      → (is_opening x.at ≡ false → is_opening new ≡ false) → is_begun new ≡ is_begun x.at
      → Kept x newest ins log → Kept (record x { at = new }) newest ins log
  stage_kept x new newest ins log moves same h =
      top_kept x (record x { at = new }) newest ins log
      (λ leg q. record {
        early = q.early;
        told = q.told;
        begun = q.begun;
        tells = q.tells;
        leaves = leaves_on x.at new leg.stage leg.leaving moves q.leaves;
        next = q.next;
        current = λ e. q.current (sym same ∙ e);
        fresh = λ e. q.fresh (sym same ∙ e);
      })
      (λ a. record { next = a.next; current = λ e. a.current (sym same ∙ e) }) h

  -- a greater number was given
  pub newer_kept : (x : Top) (newest : ℕ) (ins : List InLeg) (log : List Message)
      → Kept x newest ins log → Kept x (newest + 1) ins log
  newer_kept x newest ins log h = record {
    may = h.may;
    unborn = λ less. h.unborn (omega (arith, less));
    legs = h.legs;
  }

  -- ---- a leg changes

  absurd_at : (ins : List InLeg) (leg : InLeg) → Found ins leg → Absent number_of n ins
      → n ≡ leg.number → ⊥
  absurd_at ins leg f none e =
      true≢false (sym (test_same n)
      ∙ ap (λ (k : ℕ). k == n) e ∙ absent_at number_of n ins f.place leg f.at none)

  pub leg_at_place : (x : Top) (newest : ℕ) (ins : List InLeg) (log : List Message) (leg : InLeg)
      → Found ins leg → n ≡ leg.number → Kept x newest ins log → So x log leg
  leg_at_place x newest ins log leg f is h =
      once_at number_of n (So x log) ins f.place leg f.at
      (ap (λ (k : ℕ). k == n) (sym is) ∙ test_same n) h.legs

  pub set_kept : (x y : Top) (newest : ℕ) (ins : List InLeg) (log : List Message) (leg z : InLeg)
      → Found ins leg → z.number ≡ leg.number → (n ≡ leg.number → So x log leg → So y log z)
      → ((n ≡ leg.number → ⊥) → (w : InLeg) → So x log w → So y log w)
      → ((n ≡ leg.number → ⊥) → Apart x → Apart y) → Kept x newest ins log
      → Kept y newest (set_at ins z (in_place z.number ins)) log
  set_kept x y newest ins log leg z f same here other apart h =
      subst (λ (o : Option ℕ). Kept y newest (set_at ins z o) log)
      (sym (ap (λ (k : ℕ). in_place k ins) same ∙ p.is)) (record {
        may = h.may;
        unborn = λ less. let u = h.unborn less in record {
          none = u.none;
          absent = absent_set number_of n ins p.place p.leg z p.at (same ∙ sym p.same) u.absent;
          apart = apart (absurd_at ins leg f u.absent) u.apart;
        };
        legs = once_set number_of n (So x log) (So y log) ins p.place p.leg z p.at
            (same ∙ sym p.same)
            (λ e was. here (at e)
            (once_at number_of n (So x log) ins f.place leg f.at
            (ap (λ (k : ℕ). k == n) (sym p.same) ∙ e) h.legs))
            (λ e w was. other
            (λ is. true≢false (sym (test_same n)
            ∙ ap (λ (k : ℕ). k == n) (is ∙ sym p.same) ∙ e)) w was) h.legs;
      })
    where
      p : Placed ins leg.number
      p = placed ins leg f

      at : p.leg.number == n ≡ true → n ≡ leg.number
      at e = sym (same_number p.leg.number n e) ∙ p.same

  -- and a message is put on it
  pub put_kept : (x : Top) (newest : ℕ) (ins : List InLeg) (log : List Message) (m : Message)
      (leg z : InLeg) → Found ins leg → z.number ≡ leg.number → n ≡ leg.number
      → (So x log leg → AnswersOn n came (log ++ m ∷ []) × So x (log ++ m ∷ []) z)
      → Kept x newest ins log
      → Kept x newest (set_at ins z (in_place z.number ins)) (log ++ m ∷ [])
  put_kept x newest ins log m leg z f same is here h =
      subst (λ (o : Option ℕ). Kept x newest (set_at ins z o) (log ++ m ∷ []))
      (sym (ap (λ (k : ℕ). in_place k ins) same ∙ p.is)) (record {
        may = both.0;
        unborn = λ less. absurd (absurd_at ins leg f (h.unborn less).absent is);
        legs = once_set number_of n (So x log) (So x (log ++ m ∷ [])) ins p.place p.leg z p.at
            (same ∙ sym p.same) (λ e was. both.1)
            (λ e w was. absurd (true≢false (sym (test_same n)
            ∙ ap (λ (k : ℕ). k == n) (is ∙ sym p.same) ∙ e))) h.legs;
      })
    where
      p : Placed ins leg.number
      p = placed ins leg f

      both : AnswersOn n came (log ++ m ∷ []) × So x (log ++ m ∷ []) z
      both = here (leg_at_place x newest ins log leg f is h)

  -- a leg goes
  pub gone_kept : (x : Top) (newest : ℕ) (ins : List InLeg) (log : List Message)
      (place : Option ℕ) → Kept x newest ins log → Kept x newest (removed_at ins place) log
  gone_kept x newest ins log None h = h
  gone_kept x newest ins log (Some place) h = record {
    may = h.may;
    unborn = λ less. let u = h.unborn less in record {
      none = u.none;
      absent = absent_removed number_of n ins place u.absent;
      apart = u.apart;
    };
    legs = once_removed number_of n (So x log) ins place h.legs;
  }

  -- a leg comes up
  pub up_kept : (x : Top) (newest m : ℕ) (ins : List InLeg) (log : List Message)
      → m ≡ newest + 1 → Kept x newest ins log → Kept x m (ins ++ in_leg_up m ∷ []) log
  up_kept x newest m ins log next h = record {
    may = h.may;
    unborn = λ less. let u = h.unborn (omega (arith, next, less)) in record {
      none = u.none;
      absent = absent_push number_of n ins (in_leg_up m)
          (test_other m n (λ is. absurd (omega (arith, is, less)))) u.absent;
      apart = u.apart;
    };
    legs = by (m == n) refl;
  }
    where
      by : (b : Bool) → (m == n) ≡ b → Once number_of n (So x log) (ins ++ in_leg_up m ∷ [])
      by true e =
          let is = same_number m n e in
          let u = h.unborn (omega (arith, next, is)) in
          once_first number_of n (So x log) ins (in_leg_up m) u.absent (record {
            early = λ f. u.none;
            told = λ f. absurd (false≢true f);
            begun = tt;
            tells = tt;
            leaves = tt;
            next = λ f. absurd (u.apart.next f);
            current = λ f g. absurd (u.apart.current f g);
            fresh = λ f. refl;
          })
      by false e = once_push number_of n (So x log) ins (in_leg_up m) e h.legs

  pub kept_start : (x : Top) → is_begun x.at ≡ false → x.next ≡ 0 → Kept x 0 [] []
  kept_start x early next = record {
    may = tt;
    unborn = λ less. record {
      none = refl;
      absent = tt;
      apart = record {
        next = λ e. omega (arith, e, next, less);
        current = λ e. absurd (true≢false (sym e ∙ early));
      };
    };
    legs = tt;
  }

-- ---- more came

module _ (n : ℕ) (came : List OnLeg) (one : OnLeg) where
  begun_so : (cookie : Cookie) (x : InStage) → BegunBy n came cookie x
      → BegunBy n (came ++ one ∷ []) cookie x
  begun_so cookie in_stage.Fresh h = tt
  begun_so cookie (in_stage.Waits window timeout ended) h =
      (came_more InServer n (Begins cookie) came one h.0, came_so n came one is_in_r1_a2 h.1)
  begun_so cookie in_stage.Opened h = came_more InServer n (Begins cookie) came one h

  tells_so : (x : InStage) (t : Tells) → TellsBy n came x t → TellsBy n (came ++ one ∷ []) x t
  tells_so x tells.Nothing h = tt
  tells_so x tells.ConnB3 h = (h.0, h.1, came_so n came one is_conn_b2 h.2)
  tells_so x tells.InR1B2 h = (h.0, came_so n came one is_in_r1_a2 h.1)

  leaves_so : (at : Stage) (x : InStage) (l : Leaving) → LeavesBy n came at x l
      → LeavesBy n (came ++ one ∷ []) at x l
  leaves_so at x leaving.Stays h = tt
  leaves_so at x leaving.InR1B1 h = (came_so n came one is_in_r1_a6 h.0, h.1, h.2)
  leaves_so at x leaving.Left h = tt
  leaves_so at x leaving.Lost h = tt

  pub more_kept : (x : Top) (newest : ℕ) (ins : List InLeg) (log : List Message)
      → Kept n came x newest ins log → Kept n (came ++ one ∷ []) x newest ins log
  more_kept x newest ins log h = record {
    may = answers_so n came one log h.may;
    unborn = λ less. let u = h.unborn less in record {
      none = u.none;
      absent = u.absent;
      apart = record { next = u.apart.next; current = u.apart.current };
    };
    legs = once_map number_of n (So n came x log) (So n (came ++ one ∷ []) x log) ins
        (λ leg q. record {
          early = q.early;
          told = λ e. let t = q.told e in
              (t.0, written_so n came one (has_left leg.leaving) log t.1);
          begun = begun_so leg.cookie leg.stage q.begun;
          tells = tells_so leg.stage leg.tells q.tells;
          leaves = leaves_so x.at leg.stage leg.leaving q.leaves;
          next = q.next;
          current = q.current;
          fresh = q.fresh;
        }) h.legs;
  }
