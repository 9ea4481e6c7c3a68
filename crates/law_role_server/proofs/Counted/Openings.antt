-- how far the opening of a connection is, by what came, what was put, and what waits
use Rattle.law_order.proofs.Vocabulary.{◌≡◌, ◌+◌, ◌≤◌, Bool, true, false, List, [], ◌∷◌, ◌++◌, arith, sym, ◌∙◌, subst, AllByRecursion}
use Rattle.rh_server.specs.declared.state.Stage.TheVariants as stage
use Rattle.rh_server.specs.declared.state.Tells.TheVariants as tells
use Rattle.law_moves.proofs.Vocabulary.{OutServer, InServer, Due, OnLeg, of_kind}
use Rattle.law_moves.proofs.Lemmas.{all_append, kind_more}
use Rattle.law_role_server.proofs.Vocabulary.{Stage, InLeg, Tells, is_conn_a2, is_conn_b2, is_conn_b3, is_conn_c1, is_in_r1_a2, is_in_r2_a2, often, waiting_of, how_many, since_conn_a2, since_conn_b2, since_open, IsText}
use Rattle.law_role_server.proofs.Counted.Logs.{often_more}

-- CONN/B3 is still to be put on the leg
abbrev pub is_conn_b3_due : Tells → Bool
is_conn_b3_due tells.Nothing = false
is_conn_b3_due tells.ConnB3 = true
is_conn_b3_due tells.InR1B2 = false

abbrev pub owes_b3 : InLeg → Bool
owes_b3 leg = is_conn_b3_due leg.tells

-- while the server opens
pub record Early (came put : List OnLeg) : Type 0 where
  pub greetings : AllByRecursion IsText (of_kind OutServer put)
  pub conn_b3 : often is_conn_b3 InServer put ≡ 0
  pub in_r1_a2 : often is_in_r1_a2 InServer came ≡ 0
  pub in_r2_a2 : often is_in_r2_a2 InServer came ≡ 0

pub record Opening (at : Stage) (dues : List Due) (ins : List InLeg) (came put : List OnLeg)
    : Type 0 where
  pub conn_a2 : often is_conn_a2 OutServer came ≡ since_conn_a2 at
  pub conn_b2 : often is_conn_b2 InServer came ≡ since_conn_b2 at
  pub conn_c1 : often is_conn_c1 OutServer put + waiting_of is_conn_c1 dues ≡ since_open at
  pub conn_b3 : often is_conn_b3 InServer put + how_many owes_b3 ins ≤ since_conn_b2 at
  pub early : since_open at ≡ 0 → Early came put

pub opening_starts : Opening stage.Waits [] [] [] []
opening_starts = grind arith

-- no packet passed: the stage counts as before, as many CONN/C1 wait, and no more CONN/B3
pub record Stays (at new : Stage) (dues others : List Due) (ins legs : List InLeg) : Type 0 where
  pub conn_a2 : since_conn_a2 new ≡ since_conn_a2 at
  pub conn_b2 : since_conn_b2 new ≡ since_conn_b2 at
  pub opens : since_open new ≡ since_open at
  pub conn_c1 : waiting_of is_conn_c1 others ≡ waiting_of is_conn_c1 dues
  pub conn_b3 : how_many owes_b3 legs ≤ how_many owes_b3 ins

pub opening_stays : (at new : Stage) (dues others : List Due) (ins legs : List InLeg)
    (came put : List OnLeg) → Stays at new dues others ins legs → Opening at dues ins came put
    → Opening new others legs came put
opening_stays at new dues others ins legs came put stays h = record {
  conn_a2 = h.conn_a2 ∙ sym stays.conn_a2;
  conn_b2 = h.conn_b2 ∙ sym stays.conn_b2;
  conn_c1 = omega (arith, h.conn_c1, stays.conn_c1, stays.opens);
  conn_b3 = omega (arith, h.conn_b3, stays.conn_b3, stays.conn_b2);
  early = λ e. h.early (sym stays.opens ∙ e);
}

-- a packet came, and the stage counts it
pub record Comes (at new : Stage) (dues others : List Due) (ins legs : List InLeg) (one : OnLeg)
    : Type 0 where
  pub conn_a2 : since_conn_a2 new ≡ since_conn_a2 at + often is_conn_a2 OutServer (one ∷ [])
  pub conn_b2 : since_conn_b2 new ≡ since_conn_b2 at + often is_conn_b2 InServer (one ∷ [])
  pub conn_c1 : waiting_of is_conn_c1 others + since_open at
      ≡ waiting_of is_conn_c1 dues + since_open new
  pub conn_b3 : how_many owes_b3 legs + since_conn_b2 at
      ≤ how_many owes_b3 ins + since_conn_b2 new
  pub opens : since_open at ≤ since_open new
  pub in_r1_a2 : since_open new ≡ 0 → often is_in_r1_a2 InServer (one ∷ []) ≡ 0
  pub in_r2_a2 : since_open new ≡ 0 → often is_in_r2_a2 InServer (one ∷ []) ≡ 0

pub opening_came : (at new : Stage) (dues others : List Due) (ins legs : List InLeg)
    (came put : List OnLeg) (one : OnLeg) → Comes at new dues others ins legs one
    → Opening at dues ins came put → Opening new others legs (came ++ one ∷ []) put
opening_came at new dues others ins legs came put one comes h = record {
  conn_a2 =
      let more = often_more is_conn_a2 OutServer came one in
      omega (arith, more, comes.conn_a2, h.conn_a2);
  conn_b2 =
      let more = often_more is_conn_b2 InServer came one in
      omega (arith, more, comes.conn_b2, h.conn_b2);
  conn_c1 = omega (arith, h.conn_c1, comes.conn_c1);
  conn_b3 = omega (arith, h.conn_b3, comes.conn_b3);
  early = λ e.
      let was = h.early (omega (arith, e, comes.opens)) in record {
        greetings = was.greetings;
        conn_b3 = was.conn_b3;
        in_r1_a2 =
            let more = often_more is_in_r1_a2 InServer came one in
            omega (arith, more, comes.in_r1_a2 e, was.in_r1_a2);
        in_r2_a2 =
            let more = often_more is_in_r2_a2 InServer came one in
            omega (arith, more, comes.in_r2_a2 e, was.in_r2_a2);
      };
}

-- a message was put; before the server is open none but a greeting on an os leg
pub record Goes (at : Stage) (dues others : List Due) (ins legs : List InLeg) (one : OnLeg)
    : Type 0 where
  pub conn_c1 : often is_conn_c1 OutServer (one ∷ []) + waiting_of is_conn_c1 others
      ≡ waiting_of is_conn_c1 dues
  pub conn_b3 : often is_conn_b3 InServer (one ∷ []) + how_many owes_b3 legs
      ≤ how_many owes_b3 ins
  pub greetings : since_open at ≡ 0 → AllByRecursion IsText (of_kind OutServer (one ∷ []))
  pub early_b3 : since_open at ≡ 0 → often is_conn_b3 InServer (one ∷ []) ≡ 0

pub opening_put : (at : Stage) (dues others : List Due) (ins legs : List InLeg)
    (came put : List OnLeg) (one : OnLeg) → Goes at dues others ins legs one
    → Opening at dues ins came put → Opening at others legs came (put ++ one ∷ [])
opening_put at dues others ins legs came put one goes h = record {
  conn_a2 = h.conn_a2;
  conn_b2 = h.conn_b2;
  conn_c1 =
      let more = often_more is_conn_c1 OutServer put one in
      omega (arith, more, goes.conn_c1, h.conn_c1);
  conn_b3 =
      let more = often_more is_conn_b3 InServer put one in
      omega (arith, more, goes.conn_b3, h.conn_b3);
  early = λ e.
      let was = h.early e in record {
        greetings = subst (AllByRecursion IsText) (sym (kind_more OutServer put one))
            (all_append IsText (of_kind OutServer put) (of_kind OutServer (one ∷ []))
            was.greetings (goes.greetings e));
        conn_b3 =
            let more = often_more is_conn_b3 InServer put one in
            omega (arith, more, goes.early_b3 e, was.conn_b3);
        in_r1_a2 = was.in_r1_a2;
        in_r2_a2 = was.in_r2_a2;
      };
}
