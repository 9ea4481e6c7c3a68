-- CONN/A2 and CONN/B2 come to a server
use Rattle.law_order.proofs.Vocabulary.{◌≡◌, ℕ, ◌+◌, ◌≤◌, ◌==◌, ◌&&◌, not, List, [], ◌∷◌, ◌++◌, Some, None, arith, refl, rules, sym, ap, ◌∙◌, subst, Option}
use Rattle.rh_sig.specs.declared.named.Named.TheVariants as named
use Rattle.rh_shell.specs.declared.answers.Refused.TheVariants as refused
use Rattle.rh_server.specs.declared.state.Stage.TheVariants as stage
use Rattle.rh_server.specs.declared.state.InStage.TheVariants as in_stage
use Rattle.rh_server.specs.declared.state.Tells.TheVariants as tells
use Rattle.rh_server.specs.declared.out_line.Kind.TheVariants as kind
use Rattle.law_moves.proofs.Vocabulary.{by_test, Cookie, Named, each_push, OutServer, InServer, Count, Packet, Waiting, own, OnLeg}
use Rattle.law_moves.proofs.Lemmas.{RowKeeps}
use Rattle.law_role_server.proofs.Vocabulary.{Stage, InLeg, waits, Server, same_cookie, in_leg, Done, took, refuse, unexpected, is_first, opens, with_first_out, conn_a2_at, on_conn_a2, first_in, with_first_in, conn_b2_at, on_conn_b2, is_conn_a2, is_conn_b2, is_conn_c1, is_in_r1_a2, is_in_r1_a3, is_in_r2_a2, is_in_r2_a3, often, leg_at, waiting_of, how_many}
use Rattle.law_role_server.proofs.Counted.Dues.{HasOrigin, push_waits}
use Rattle.law_role_server.proofs.Counted.InLegs.{IsFoundAs, found, one_leg, many_joined}
use Rattle.law_role_server.proofs.Counted.Openings.{owes_b3, Opening, Comes, opening_came}
use Rattle.law_role_server.proofs.Counted.Announcing.{Look, look, Answering}
use Rattle.law_role_server.proofs.Counted.Announced.{came_other, dues_keep}
use Rattle.law_role_server.proofs.Counted.LegsKept.{first_opens}
use Rattle.law_role_server.proofs.Counted.Connecting.{Holds, has_number, its_number, set_legs, owes_joined}

-- ---- CONN/A2 and CONN/B2

-- a packet begins a channel, and the server opens
began_row : (s t : Server) (at : Stage) (one : OnLeg) (came put : List OnLeg) → s.stage ≡ at
    → Comes at t.stage s.waiting.due t.waiting.due s.ins t.ins one
    → Answering (look t) came put → often is_in_r1_a2 InServer (one ∷ []) ≡ 0
    → often is_in_r2_a2 InServer (one ∷ []) ≡ 0 → Holds s came put
    → Holds t (came ++ one ∷ []) put
began_row s t at one came put is comes answering none1 none2 h = record {
  opening = opening_came at t.stage s.waiting.due t.waiting.due s.ins t.ins came put one comes
      (subst (λ (z : Stage). Opening z s.waiting.due s.ins came put) is h.opening);
  answering = came_other (look t) came put one none1 none2 answering;
}

-- CONN/C1 is due
opens_answering : (u : Server) (connection : Cookie) (window timeout : ℕ) (came put : List OnLeg)
    → Answering (look u) came put
    → Answering (look (opens u connection window timeout)) came put
opens_answering u connection window timeout came put h =
    dues_keep (look u) (u.waiting.due ++ own c1 ∷ []) came put
    (each_push HasOrigin u.waiting.due (own c1) h.origins refl)
    (omega (arith, same1)) (omega (arith, same2)) h
  where
    c1 : Named
    c1 = named.ConnC1 1 window timeout

    same1 : waiting_of is_in_r1_a3 (u.waiting.due ++ own (named.ConnC1 1 window timeout) ∷ [])
        ≡ waiting_of is_in_r1_a3 u.waiting.due + 0
    same1 = push_waits is_in_r1_a3 u.waiting.due (own (named.ConnC1 1 window timeout))

    same2 : waiting_of is_in_r2_a3 (u.waiting.due ++ own (named.ConnC1 1 window timeout) ∷ [])
        ≡ waiting_of is_in_r2_a3 u.waiting.due + 0
    same2 = push_waits is_in_r2_a3 u.waiting.due (own (named.ConnC1 1 window timeout))

one_c1 : (u : Server) (connection : Cookie) (window timeout : ℕ)
    → waiting_of is_conn_c1 (opens u connection window timeout).waiting.due
    ≡ waiting_of is_conn_c1 u.waiting.due + 1
one_c1 u connection window timeout =
    push_waits is_conn_c1 u.waiting.due (own (named.ConnC1 1 window timeout))

first_out_look : (s : Server) (cookie : Cookie) (lifetime window : ℕ)
    → look (with_first_out s cookie lifetime window) ≡ look s
first_out_look s cookie lifetime window = search rules

pub conn_a2_row : (s : Server) (n : ℕ) (count : Count) (v : ℕ) (a b : Cookie) (c d : ℕ)
    (came put : List OnLeg) → Holds s came put
    → RowKeeps Holds (leg_at OutServer n, Packet (named.ConnA2 v a b c d)) came put
    (on_conn_a2 s n count a b c d)
conn_a2_row s n count v a b c d came put h =
    by_test Row (is_first count && ((n == 1) && not (waits kind.ConnC1 s.waiting)))
    (conn_a2_at s s.stage a b c d) (unexpected s) (λ e. by s.stage refl) (λ e. h)
  where
    one : OnLeg
    one = (leg_at OutServer n, Packet (named.ConnA2 v a b c d))

    Row : Done → Type 0
    Row x = RowKeeps Holds (leg_at OutServer n, Packet (named.ConnA2 v a b c d)) came put x

    u : Server
    u = with_first_out s b c d

    same : look u ≡ look s
    same = first_out_look s b c d

    answering : Answering (look u) came put
    answering = subst (λ (x : Look). Answering x came put) (sym same) h.answering

    owes : how_many owes_b3 u.ins ≡ how_many owes_b3 s.ins
    owes = ap (λ (x : Look). how_many owes_b3 x.ins) same

    dues : waiting_of is_conn_c1 u.waiting.due ≡ waiting_of is_conn_c1 s.waiting.due
    dues = ap (λ (x : Look). waiting_of is_conn_c1 x.dues) same

    by : (at : Stage) → s.stage ≡ at → Row (conn_a2_at s at a b c d)
    by stage.Waits e =
        began_row s (record u { stage = stage.OutCame a }) stage.Waits one came put e (record {
          conn_a2 = refl;
          conn_b2 = refl;
          conn_c1 = omega (arith, dues);
          conn_b3 = omega (arith, owes);
          opens = omega arith;
          in_r1_a2 = λ f. refl;
          in_r2_a2 = λ f. refl;
        }) answering refl refl h
    by (stage.InCame known window timeout) e =
        by_test Row (same_cookie known a) (took (opens u known window timeout))
        (refuse s (refused.Cookie known a))
        (λ f. began_row s (opens u known window timeout) (stage.InCame known window timeout) one
        came put e (record {
          conn_a2 = refl;
          conn_b2 = refl;
          conn_c1 = let more = one_c1 u known window timeout in omega (arith, dues, more);
          conn_b3 = omega (arith, owes);
          opens = omega arith;
          in_r1_a2 = λ g. refl;
          in_r2_a2 = λ g. refl;
        }) (opens_answering u known window timeout came put answering) refl refl h)
        (λ f. h)
    by (stage.OutCame known) e = h
    by (stage.Open known) e = h
    by stage.Ended e = h

-- the first IN channel opens on is 1, if that is up
record OpensIn (s u : Server) (came put : List OnLeg) : Type 0 where
  answering : Answering (look u) came put
  owes : how_many owes_b3 u.ins ≤ how_many owes_b3 s.ins + 1
  dues : u.waiting ≡ s.waiting

first_in_opens : (s : Server) (cookie : Cookie) (came put : List OnLeg) → Holds s came put
    → OpensIn s (with_first_in s cookie) came put
first_in_opens s cookie came put h = by (in_leg 1 s.ins) (found (has_number 1) s.ins)
  where
    by : (o : Option InLeg) → IsFoundAs (has_number 1) s.ins o
        → OpensIn s (first_in s cookie o) came put
    by None none = record { answering = h.answering; owes = omega arith; dues = refl }
    by (Some leg) f = record {
      answering = subst (λ (legs : List InLeg).
          Answering (record (look s) { now = 1; ins = legs }) came put)
          (sym (set_legs s 1 leg y f refl))
          (first_opens (look s) leg y f.before f.behind came put f.joined refl
          (its_number s 1 leg f) refl refl h.answering);
      owes =
          let was = owes_joined s 1 leg f in
          let are = ap (how_many owes_b3) (set_legs s 1 leg y f refl)
          ∙ many_joined owes_b3 y f.before f.behind in
          omega (arith, was, are, one);
      dues = refl;
    }
      where
        y : InLeg
        y = record leg { cookie = cookie; stage = in_stage.Opened; tells = tells.ConnB3 }

        one : one_leg owes_b3 y ≡ 1
        one = refl

pub conn_b2_row : (s : Server) (n : ℕ) (count : Count) (v : ℕ) (a b : Cookie) (c d : ℕ)
    (m : Named) (came put : List OnLeg) → Holds s came put
    → often is_conn_a2 OutServer ((leg_at InServer n, Packet m) ∷ []) ≡ 0
    → often is_conn_b2 InServer ((leg_at InServer n, Packet m) ∷ []) ≡ 1
    → often is_in_r1_a2 InServer ((leg_at InServer n, Packet m) ∷ []) ≡ 0
    → often is_in_r2_a2 InServer ((leg_at InServer n, Packet m) ∷ []) ≡ 0
    → RowKeeps Holds (leg_at InServer n, Packet m) came put (on_conn_b2 s n count a b c d)
conn_b2_row s n count v a b c d m came put h no_a2 is_b2 none1 none2 =
    by_test Row (is_first count && ((n == 1) && not (waits kind.ConnC1 s.waiting)))
    (conn_b2_at s s.stage a b c d) (unexpected s) (λ e. by s.stage refl) (λ e. h)
  where
    one : OnLeg
    one = (leg_at InServer n, Packet m)

    Row : Done → Type 0
    Row x = RowKeeps Holds (leg_at InServer n, Packet m) came put x

    u : Server
    u = with_first_in s b

    first : OpensIn s u came put
    first = first_in_opens s b came put h

    dues : waiting_of is_conn_c1 u.waiting.due ≡ waiting_of is_conn_c1 s.waiting.due
    dues = ap (λ (w : Waiting). waiting_of is_conn_c1 w.due) first.dues

    by : (at : Stage) → s.stage ≡ at → Row (conn_b2_at s at a b c d)
    by stage.Waits e =
        began_row s (record u { stage = stage.InCame a c d }) stage.Waits one came put e (record {
          conn_a2 = omega (arith, no_a2);
          conn_b2 = omega (arith, is_b2);
          conn_c1 = omega (arith, dues);
          conn_b3 = omega (arith, first.owes);
          opens = omega arith;
          in_r1_a2 = λ f. none1;
          in_r2_a2 = λ f. none2;
        }) first.answering none1 none2 h
    by (stage.OutCame known) e =
        by_test Row (same_cookie known a) (took (opens u known c d))
        (refuse s (refused.Cookie known a))
        (λ f. began_row s (opens u known c d) (stage.OutCame known) one came put e (record {
          conn_a2 = omega (arith, no_a2);
          conn_b2 = omega (arith, is_b2);
          conn_c1 = let more = one_c1 u known c d in omega (arith, dues, more);
          conn_b3 = omega (arith, first.owes);
          opens = omega arith;
          in_r1_a2 = λ g. none1;
          in_r2_a2 = λ g. none2;
        }) (opens_answering u known c d came put first.answering) none1 none2 h)
        (λ f. h)
    by (stage.InCame known window timeout) e = h
    by (stage.Open known) e = h
    by stage.Ended e = h
