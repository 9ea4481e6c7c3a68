-- the state of a server, how far it is with its opening, and with its IN channels
use Rattle.law_order.proofs.Vocabulary.{◌≡◌, ℕ, suc, ◌+◌, ◌≤◌, ◌<◌, ◌==◌, ◌&&◌, ◌||◌, not, Bool, true, false, if◌then◌else◌, List, [], ◌∷◌, ◌++◌, zero, Some, None, Ok, Err, arith, refl, rules, sym, ap, ◌∙◌, subst, false≢true, and_parts, slice_set, IfSome, AllByRecursion, Option}
use Rattle.rh_sig.specs.declared.named.Named.TheVariants as named
use Rattle.rh_server.specs.declared.state.Stage.TheVariants as stage
use Rattle.rh_server.specs.declared.state.InStage.TheVariants as in_stage
use Rattle.rh_server.specs.declared.state.Tells.TheVariants as tells
use Rattle.rh_server.specs.declared.out_line.Kind.TheVariants as kind
use Rattle.law_moves.proofs.Vocabulary.{by_test, same_number, Named, after_take, OutServer, InServer, OnLeg, of_kind}
use Rattle.law_moves.proofs.Lemmas.{RowKeeps}
use Rattle.law_role_server.proofs.Vocabulary.{Stage, Shut, InStage, InLeg, is_ack, waits, Server, is_open, is_fresh, is_waiting, stays, in_place, set_at, with_in, without_in, Done, opens_next, opens_leg, first_waiting, next_opened, becomes_current, moved_if, take, is_complete, completed, settled, is_conn_a2, is_conn_b2, is_conn_b3, is_conn_c1, is_in_r1_a2, is_in_r1_a3, is_in_r2_a2, is_in_r2_a3, often, how_many, since_conn_a2, since_conn_b2, since_open, IsText}
use Rattle.law_role_server.proofs.Counted.Dues.{Apart}
use Rattle.law_role_server.proofs.Counted.InLegs.{IsFound, IsFoundAs, all_of, one_leg, many_step, many_joined}
use Rattle.law_role_server.proofs.Counted.Openings.{owes_b3, Opening, opening_stays, opening_came, opening_put}
use Rattle.law_role_server.proofs.Counted.Announcing.{Look, look, heard, Placed, Answering, line_keeps, takes_on}
use Rattle.law_role_server.proofs.Counted.Announced.{came_other, put_keeps, dues_keep}
use Rattle.law_role_server.proofs.Counted.LegsKept.{leg_set, leg_gone}
use Rattle.law_role_server.proofs.Counted.Adding.{MayAdd, of_out, settled_adds, take_adds}
use Rattle.law_role_server.proofs.Counted.BeforeC1Open.{take_stage}

-- ---- what the facts are about

pub record Seen : Type 0 where
  pub at : Stage
  pub seen_as : Look

abbrev pub seen : Server → Seen
seen s = record { at = s.stage; seen_as = look s }

pub record Holds (s : Server) (came put : List OnLeg) : Type 0 where
  pub opening : Opening s.stage s.waiting.due s.ins came put
  pub answering : Answering (look s) came put

pub same_holds : (s t : Server) (came put : List OnLeg) → seen t ≡ seen s → Holds s came put
    → Holds t came put
same_holds s t came put same h = record {
  opening = subst (λ (x : Seen). Opening x.at x.seen_as.dues x.seen_as.ins came put) (sym same)
      h.opening;
  answering = subst (λ (x : Seen). Answering x.seen_as came put) (sym same) h.answering;
}

-- ---- packets that count for neither

-- that came
abbrev pub IsQuiet : OnLeg → Type 0
IsQuiet one = (often is_conn_a2 OutServer (one ∷ []) ≡ 0)
    × (often is_conn_b2 InServer (one ∷ []) ≡ 0)
    × (often is_in_r1_a2 InServer (one ∷ []) ≡ 0)
    × (often is_in_r2_a2 InServer (one ∷ []) ≡ 0)

pub came_quiet : (s : Server) (came put : List OnLeg) (one : OnLeg) → IsQuiet one
    → Holds s came put → Holds s (came ++ one ∷ []) put
came_quiet s came put one quiet h = record {
  opening = opening_came s.stage s.stage s.waiting.due s.waiting.due s.ins s.ins came put one
      (record {
        conn_a2 = omega (arith, quiet.0);
        conn_b2 = omega (arith, quiet.1);
        conn_c1 = refl;
        conn_b3 = omega arith;
        opens = omega arith;
        in_r1_a2 = λ e. quiet.2;
        in_r2_a2 = λ e. quiet.3;
      })
      h.opening;
  answering = came_other (look s) came put one quiet.2 quiet.3 h.answering;
}

-- a row that keeps the state right
abbrev pub Keeps : Server → Server → Type 0
Keeps s t = (came put : List OnLeg) → Holds s came put → Holds t came put

pub row_keeps : (s : Server) (one : OnLeg) (came put : List OnLeg) → IsQuiet one
    → (x : Done) → Keeps s x.0 → Holds s came put → RowKeeps Holds one came put x
row_keeps s one came put quiet (t, Ok took) keeps h =
    keeps (came ++ one ∷ []) put (came_quiet s came put one quiet h)
row_keeps s one came put quiet (t, Err why) keeps h = keeps came put h

-- that was put
abbrev pub IsQuietPut : OnLeg → Type 0
IsQuietPut one = (often is_conn_c1 OutServer (one ∷ []) ≡ 0)
    × (often is_conn_b3 InServer (one ∷ []) ≡ 0)
    × (often is_in_r1_a3 OutServer (one ∷ []) ≡ 0)
    × (often is_in_r2_a3 OutServer (one ∷ []) ≡ 0)

-- before the server is open greetings alone are put on os legs
abbrev pub IsGreeting : Stage → OnLeg → Type 0
IsGreeting at one = since_open at ≡ 0 → AllByRecursion IsText (of_kind OutServer (one ∷ []))

pub put_quiet : (s : Server) (came put : List OnLeg) (one : OnLeg) → IsQuietPut one
    → IsGreeting s.stage one → Holds s came put → Holds s came (put ++ one ∷ [])
put_quiet s came put one quiet greeting h = record {
  opening = opening_put s.stage s.waiting.due s.waiting.due s.ins s.ins came put one
      (record {
        conn_c1 = omega (arith, quiet.0);
        conn_b3 = omega (arith, quiet.1);
        greetings = greeting;
        early_b3 = λ e. quiet.1;
      })
      h.opening;
  answering = put_keeps (look s) s.waiting.due came put one h.answering.origins
      (omega (arith, quiet.2)) (omega (arith, quiet.3)) h.answering;
}

-- ---- others wait besides

-- packets of this kind neither open nor answer
pub record LeavesAlone (kind : Named → Bool) : Type 0 where
  pub conn_c1 : Apart kind is_conn_c1
  pub in_r1_a3 : Apart kind is_in_r1_a3
  pub in_r2_a3 : Apart kind is_in_r2_a3

pub ack_alone : LeavesAlone is_ack
ack_alone = record { conn_c1 = conn; in_r1_a3 = first; in_r2_a3 = second }
  where
    conn : Apart is_ack is_conn_c1
    conn (named.AckTo a b c d) e = refl
    conn p e = absurd (false≢true e)

    first : Apart is_ack is_in_r1_a3
    first (named.AckTo a b c d) e = refl
    first p e = absurd (false≢true e)

    second : Apart is_ack is_in_r2_a3
    second (named.AckTo a b c d) e = refl
    second p e = absurd (false≢true e)

pub out_alone : LeavesAlone of_out
out_alone = record { conn_c1 = conn; in_r1_a3 = first; in_r2_a3 = second }
  where
    conn : Apart of_out is_conn_c1
    conn (named.ConnC1 a b c) e = absurd (false≢true e)
    conn p e = refl

    first : Apart of_out is_in_r1_a3
    first (named.InR1A3 a b c d) e = absurd (false≢true e)
    first p e = refl

    second : Apart of_out is_in_r2_a3
    second (named.InR2A3 a) e = absurd (false≢true e)
    second p e = refl

-- the stages count alike
pub record AreAlike (at new : Stage) : Type 0 where
  pub conn_a2 : since_conn_a2 new ≡ since_conn_a2 at
  pub conn_b2 : since_conn_b2 new ≡ since_conn_b2 at
  pub opens : since_open new ≡ since_open at

pub alike : (at new : Stage) → new ≡ at → AreAlike at new
alike at new same = record {
  conn_a2 = ap since_conn_a2 same;
  conn_b2 = ap since_conn_b2 same;
  opens = ap since_open same;
}

abbrev pub rest : Server → Look
rest s = record (look s) { dues = [] }

pub added_keeps : (kind : Named → Bool) → LeavesAlone kind → (s t : Server) → rest t ≡ rest s
    → AreAlike s.stage t.stage → MayAdd kind s t → Keeps s t
added_keeps kind alone s t same at adds came put h = record {
  opening = opening_stays s.stage t.stage s.waiting.due t.waiting.due s.ins t.ins came put
      (record {
        conn_a2 = at.conn_a2;
        conn_b2 = at.conn_b2;
        opens = at.opens;
        conn_c1 = adds.counts is_conn_c1 alone.conn_c1;
        conn_b3 =
            let legs = ap (λ (x : Look). how_many owes_b3 x.ins) same in omega (arith, legs);
      })
      h.opening;
  answering = subst (λ (x : Look). Answering (record x { dues = t.waiting.due }) came put)
      (sym same)
      (dues_keep (look s) t.waiting.due came put (adds.origins h.answering.origins)
      (adds.counts is_in_r1_a3 alone.in_r1_a3) (adds.counts is_in_r2_a3 alone.in_r2_a3)
      h.answering);
}

completed_alike : (s : Server) → AreAlike s.stage (completed s).stage
completed_alike s =
    by_test (λ (t : Server). AreAlike s.stage t.stage) (is_complete s)
    (record s { stage = stage.Ended }) s
    (λ e. ends s.stage (and_parts (is_open s.stage) _ e).0) (λ e. alike s.stage s.stage refl)
  where
    ends : (at : Stage) → is_open at ≡ true → AreAlike at stage.Ended
    ends (stage.Open connection) e = record { conn_a2 = refl; conn_b2 = refl; opens = refl }
    ends stage.Waits e = absurd (false≢true e)
    ends (stage.OutCame connection) e = absurd (false≢true e)
    ends (stage.InCame connection window timeout) e = absurd (false≢true e)
    ends stage.Ended e = absurd (false≢true e)

settled_stage : (s : Server) → (settled s).stage ≡ (completed s).stage
settled_stage s = search rules

settled_rest : (s : Server) → rest (settled s) ≡ rest s
settled_rest s = search rules

pub settled_opens : (s : Server) → since_open (settled s).stage ≡ since_open s.stage
settled_opens s = ap since_open (settled_stage s) ∙ (completed_alike s).opens

pub settled_keeps : (s : Server) → Keeps s (settled s)
settled_keeps s =
    added_keeps of_out out_alone s (settled s) (settled_rest s)
    (subst (AreAlike s.stage) (sym (settled_stage s)) (completed_alike s)) (settled_adds s)

-- ---- a leg changes

abbrev pub has_number : ℕ → InLeg → Bool
has_number n leg = leg.number == n

abbrev pub IsLeg : Server → ℕ → InLeg → Type 0
IsLeg s n leg = IsFound (has_number n) s.ins leg

pub its_number : (s : Server) (n : ℕ) (leg : InLeg) → IsLeg s n leg → leg.number ≡ n
its_number s n leg f = same_number leg.number n f.passes

pub set_legs : (s : Server) (n : ℕ) (leg y : InLeg) (f : IsLeg s n leg) → y.number ≡ leg.number
    → set_at s.ins y (in_place y.number s.ins) ≡ f.before ++ y ∷ f.behind
set_legs s n leg y f same =
    ap (λ (k : ℕ). set_at s.ins y (in_place k s.ins)) (same ∙ its_number s n leg f) ∙ f.set y

pub owes_joined : (s : Server) (n : ℕ) (leg : InLeg) (f : IsLeg s n leg)
    → how_many owes_b3 s.ins ≡ how_many owes_b3 (f.before ++ f.behind) + one_leg owes_b3 leg
owes_joined s n leg f =
    ap (how_many owes_b3) f.joined ∙ many_joined owes_b3 leg f.before f.behind

-- as the server sees it
pub record MayBe (s : Server) (came : List OnLeg) (leg y : InLeg) : Type 0 where
  pub number : y.number ≡ leg.number
  pub fresh : is_fresh y.stage ≡ true → is_fresh leg.stage ≡ true
  pub waits : is_waiting y.stage ≡ is_waiting leg.stage
  pub placed : Placed s.line.has_next s.current.leg s.next.leg came y

pub is_placed : (s : Server) (n : ℕ) (leg : InLeg) (came put : List OnLeg) → IsLeg s n leg
    → Answering (look s) came put → Placed s.line.has_next s.current.leg s.next.leg came leg
is_placed s n leg came put f h =
    (all_of (Placed s.line.has_next s.current.leg s.next.leg came) leg f.before f.behind
    (subst (AllByRecursion (Placed s.line.has_next s.current.leg s.next.leg came)) f.joined
    h.legs)).1

-- the leg itself, where its channel is as it was
pub stays_placed : (s : Server) (n : ℕ) (leg y : InLeg) (came put : List OnLeg) → IsLeg s n leg
    → y.number ≡ leg.number → y.stage ≡ leg.stage
    → (stays leg.leaving ≡ true → stays y.leaving ≡ true) → Answering (look s) came put
    → MayBe s came leg y
stays_placed s n leg y came put f same at stay h =
    let is = is_placed s n leg came put f h in record {
      number = same;
      fresh = λ e. ap is_fresh (sym at) ∙ e;
      waits = ap is_waiting at;
      placed = record {
        fresh = λ e.
            let was = is.fresh (ap is_fresh (sym at) ∙ e) in (
              subst (λ (k : ℕ). s.current.leg ≤ k) (sym same) was.0,
              (λ g. subst (λ (k : ℕ). s.next.leg < k) (sym same) (was.1 g)),
              subst (λ (k : ℕ). heard came k ≡ 0) (sym same) was.2,
              stay was.3,
            );
        waits = λ e.
            let was = is.waits (ap is_waiting (sym at) ∙ e) in (
              was.0,
              subst (λ (k : ℕ). s.next.leg < k) (sym same) was.1,
              stay was.2,
            );
      };
    }

set_answering : (s : Server) (n : ℕ) (leg y : InLeg) (came put : List OnLeg) → IsLeg s n leg
    → MayBe s came leg y → Answering (look s) came put → Answering (look (with_in s y)) came put
set_answering s n leg y came put f may h =
    subst (λ (legs : List InLeg). Answering (record (look s) { ins = legs }) came put)
    (sym (set_legs s n leg y f may.number))
    (leg_set (look s) leg y f.before f.behind came put f.joined may.number may.fresh may.waits
    may.placed h)

set_opening : (s : Server) (n : ℕ) (leg y : InLeg) (came put : List OnLeg) → IsLeg s n leg
    → y.number ≡ leg.number → one_leg owes_b3 y ≤ one_leg owes_b3 leg
    → Opening s.stage s.waiting.due s.ins came put
    → Opening s.stage s.waiting.due (with_in s y).ins came put
set_opening s n leg y came put f same owes h =
    opening_stays s.stage s.stage s.waiting.due s.waiting.due s.ins (with_in s y).ins came put
    (record {
      conn_a2 = refl;
      conn_b2 = refl;
      opens = refl;
      conn_c1 = refl;
      conn_b3 =
          let was = owes_joined s n leg f in
          let are = ap (how_many owes_b3) (set_legs s n leg y f same)
          ∙ many_joined owes_b3 y f.before f.behind in omega (arith, was, are, owes);
    })
    h

-- the leg changes so
pub leg_keeps : (s : Server) (n : ℕ) (leg y : InLeg) (came put : List OnLeg) → IsLeg s n leg
    → MayBe s came leg y → one_leg owes_b3 y ≤ one_leg owes_b3 leg → Holds s came put
    → Holds (with_in s y) came put
leg_keeps s n leg y came put f may owes h = record {
  opening = set_opening s n leg y came put f may.number owes h.opening;
  answering = set_answering s n leg y came put f may h.answering;
}

-- a leg that doesn't wait is gone
pub gone_keeps : (s : Server) (n : ℕ) (o : Option InLeg) → IsFoundAs (has_number n) s.ins o
    → (came put : List OnLeg) → IfSome o (λ (leg : InLeg). is_waiting leg.stage ≡ false)
    → Holds s came put → Holds (without_in s n) came put
gone_keeps s n None none came put calm h =
    same_holds s (without_in s n) came put
    (ap (λ (legs : List InLeg). seen (record s { ins = legs })) none.1) h
gone_keeps s n (Some leg) f came put calm h = record {
  opening = opening_stays s.stage s.stage s.waiting.due s.waiting.due s.ins (without_in s n).ins
      came
      put
      (record {
        conn_a2 = refl;
        conn_b2 = refl;
        opens = refl;
        conn_c1 = refl;
        conn_b3 =
            let was = owes_joined s n leg f in
            let are = ap (how_many owes_b3) f.removed in omega (arith, was, are);
      })
      h.opening;
  answering = subst (λ (legs : List InLeg). Answering (record (look s) { ins = legs }) came put)
      (sym f.removed)
      (leg_gone (look s) leg f.before f.behind came put f.joined calm h.answering);
}

-- ---- the next channel opens, and becomes current

-- no more CONN/B3 are due
owes_set : (y : InLeg) → owes_b3 y ≡ false → (legs : List InLeg) (place : ℕ)
    → how_many owes_b3 (slice_set legs place y) ≤ how_many owes_b3 legs
owes_set y none [] place = omega arith
owes_set y none (leg ∷ legs) zero =
    let step = many_step owes_b3 leg legs in
    let new = many_step owes_b3 y legs in
    let is : one_leg owes_b3 y ≡ 0 = ap {B = ℕ} (λ (t : Bool). if t then 1 else 0) none in
    omega (arith, step, new, is)
owes_set y none (leg ∷ legs) (suc place) =
    let step = many_step owes_b3 leg legs in
    let new = many_step owes_b3 leg (slice_set legs place y) in
    let less = owes_set y none legs place in omega (arith, step, new, less)

owes_set_at : (y : InLeg) → owes_b3 y ≡ false → (legs : List InLeg) (place : Option ℕ)
    → how_many owes_b3 (set_at legs y place) ≤ how_many owes_b3 legs
owes_set_at y none legs None = omega arith
owes_set_at y none legs (Some place) = owes_set y none legs place

abbrev pub OwesLess : Server → Server → Type 0
OwesLess s t = how_many owes_b3 t.ins ≤ how_many owes_b3 s.ins

opens_owes : (s : Server) (o : Option InLeg) → OwesLess s (opens_leg s o)
opens_owes s None = omega arith
opens_owes s (Some leg) = by leg.stage
  where
    by : (at : InStage) → OwesLess s (opens_next s leg at)
    by in_stage.Fresh = omega arith
    by in_stage.Opened = omega arith
    by (in_stage.Waits window timeout ended) =
        owes_set_at (record leg { stage = in_stage.Opened; tells = tells.InR1B2 }) refl s.ins
        (in_place leg.number s.ins)

pub next_owes : (s : Server) → OwesLess s (next_opened s)
next_owes s =
    by_test (OwesLess s) (s.line.has_next || waits kind.InR1A3 s.waiting) s
    (opens_leg s (first_waiting s.ins)) (λ e. omega arith)
    (λ e. opens_owes s (first_waiting s.ins))

pub moved_owes : (had_next : Bool) (s : Server) → OwesLess s (moved_if had_next s)
moved_owes had_next s =
    by_test (OwesLess s) (had_next && not s.line.has_next) (becomes_current s) s
    (λ e. next_owes (record s { current = s.next; edge = Shut })) (λ e. omega arith)

pub a3_alone : Apart is_in_r1_a3 is_conn_c1
a3_alone (named.InR1A3 a b c d) e = refl
a3_alone p e = absurd (false≢true e)

-- where IN_R1/A3 is added, and no CONN/B3
pub opening_opens : (s t : Server) (came put : List OnLeg) → t.stage ≡ s.stage
    → MayAdd is_in_r1_a3 s t → OwesLess s t → Opening s.stage s.waiting.due s.ins came put
    → Opening t.stage t.waiting.due t.ins came put
opening_opens s t came put at adds owes h =
    opening_stays s.stage t.stage s.waiting.due t.waiting.due s.ins t.ins came put
    (record {
      conn_a2 = ap since_conn_a2 at;
      conn_b2 = ap since_conn_b2 at;
      opens = ap since_open at;
      conn_c1 = adds.counts is_conn_c1 a3_alone;
      conn_b3 = owes;
    })
    h

pub take_keeps : (s : Server) → Keeps s (take s)
take_keeps s came put h = record {
  opening = opening_opens s (take s) came put (take_stage s) (take_adds s)
      (moved_owes s.line.has_next (record s { line = after_take s.line })) h.opening;
  answering = line_keeps s.line.has_next s (after_take s.line) came put refl
      (takes_on s came put h.answering) h.answering;
}
