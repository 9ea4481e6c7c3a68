-- the rows of an open server before CONN/C1 is put
use Rattle.law_order.proofs.Vocabulary.{◌≡◌, ◌⊎◌, inl, inr, ℕ, ◌+◌, ◌==◌, ◌&&◌, not, Bool, true, false, true≢false, nat_lt, List, [], ◌∷◌, ◌++◌, Some, None, Ok, Err, arith, refl, rules, sym, ap, ◌∙◌, subst, false≢true, and_parts, AllByRecursion, Option}
use Rattle.rh_shell.specs.declared.answers.Refused.TheVariants as refused
use Rattle.rh_server.specs.declared.state.Stage.TheVariants as stage
use Rattle.rh_server.specs.declared.out_line.Kind.TheVariants as kind
use Rattle.law_moves.proofs.Vocabulary.{by_test, same_number, Cookie, Named, after_take, OutServer, InServer, Count, OnLeg}
use Rattle.law_moves.proofs.Lemmas.{RowKeeps}
use Rattle.law_role_server.proofs.Vocabulary.{Stage, OutLeg, Replacement, Steady, Asked, Answered, Confirmed, waits, Server, is_open, is_steady, same_cookie, out_place, out_at, out_cookie, Done, refuse, unexpected, is_first, moved_if, take, in_r1_a2_at, on_in_r1_a2, has_fresh_below, on_in_r1_a6, on_in_r2_a2, answered_by, answered_on, out_r1_a4_by, out_r1_a4_at, may_answer, on_out_r1_a4, out_r1_a8_at, on_out_r1_a8, is_ack_to, is_conn_c1, is_in_r1_a3, often, since_open}
use Rattle.law_role_server.proofs.Vocabulary.{HasRoomIn, HaveRoom}
use Rattle.law_role_server.proofs.Counted.Logs.{often_more}
use Rattle.law_role_server.proofs.Counted.Replacing.{found_number}
use Rattle.law_role_server.proofs.Counted.Adding.{MayAdd, of_out, take_adds, in_r1_a6_adds, out_r1_a4_adds, out_r1_a8_adds}
use Rattle.law_role_server.proofs.Counted.Announcing.{take_step, LineStep}
use Rattle.law_role_server.proofs.Counted.BeforeC1.{LetsC1, legs_set, Before, view, same_before, open_or_not, open_before}

-- ---- the fact

-- where no acknowledgement to the client came, CONN/A2 told room, and CONN/C1 was not put
pub record Applies (came put : List OnLeg) : Type 0 where
  pub room : HaveRoom came
  pub no_ack : often (is_ack_to 0) InServer came ≡ 0
  pub no_c1 : often is_conn_c1 OutServer put ≡ 0

abbrev pub Holds : Server → List OnLeg → List OnLeg → Type 0
Holds s came put = Applies came put → Before s put

pub front_room : (came : List OnLeg) (one : OnLeg) → HaveRoom (came ++ one ∷ [])
    → HaveRoom came × HasRoomIn one
front_room [] one all = (tt, all.0)
front_room (first ∷ came) one all =
    let rest = front_room came one all.1 in ((all.0, rest.0), rest.1)

-- it applied before
pub came_before : (came put : List OnLeg) (one : OnLeg) → Applies (came ++ one ∷ []) put
    → Applies came put
came_before came put one a = record {
  room = (front_room came one a.room).0;
  no_ack =
      let more = often_more (is_ack_to 0) InServer came one in
      let none = a.no_ack in omega (arith, more, none);
  no_c1 = a.no_c1;
}

pub put_applied : (came put : List OnLeg) (one : OnLeg) → Applies came (put ++ one ∷ [])
    → Applies came put × (often is_conn_c1 OutServer (one ∷ []) ≡ 0)
put_applied came put one a =
    let more = often_more is_conn_c1 OutServer put one in
    let none = a.no_c1 in (
      record { room = a.room; no_ack = a.no_ack; no_c1 = omega (arith, more, none) },
      omega (arith, more, none),
    )

-- ---- a step that keeps the state right

abbrev pub Keeps : Server → Server → Type 0
Keeps s t = (put : List OnLeg) → Before s put → Before t put

pub keeps_same : (s t : Server) → view t ≡ view s → Keeps s t
keeps_same s t same put = same_before s t put same

pub row_keeps : (s : Server) (one : OnLeg) (came put : List OnLeg) (x : Done) → Keeps s x.0
    → Holds s came put → RowKeeps Holds one came put x
row_keeps s one came put (t, Ok took') keeps h =
    λ a. keeps put (h (came_before came put one a))
row_keeps s one came put (t, Err why) keeps h = λ a. keeps put (h a)

-- of an open server that adds to what waits, or of one that is none and refuses
pub record Parts : Type 0 where
  pub writing : ℕ
  pub outs : List OutLeg

abbrev pub parts : Server → Parts
parts s = record { writing = s.writing; outs = s.outs }

pub keeps_adds : (kind : Named → Bool) (s t : Server) → (since_open s.stage ≡ 0 → view t ≡ view s)
    → since_open t.stage ≡ since_open s.stage → parts t ≡ parts s → MayAdd kind s t → Keeps s t
keeps_adds kind s t early at same adds put h = by (open_or_not s.stage)
  where
    by : (since_open s.stage ≡ 0) ⊎ (since_open s.stage ≡ 1) → Before t put
    by (inl e) = same_before s t put (early e) h
    by (inr e) =
        open_before s t put e (at ∙ e) (ap (λ (x : Parts). x.writing) same)
        (subst (λ (x : Parts). AllByRecursion LetsC1 x.outs) (sym same) h.legs) adds.firsts h

-- ---- rows of an open server

-- no row of it is taken before
abbrev pub Refuses : Server → Done → Type 0
Refuses s x = view x.0 ≡ view s

pub in_r1_a2_early : (s : Server) (n : ℕ) (count : Count) (a b c : Cookie) (d e : ℕ)
    → since_open s.stage ≡ 0 → Refuses s (on_in_r1_a2 s n count a b c d e)
in_r1_a2_early s n count a b c d e early =
    by_test (Refuses s) (is_first count && not (has_fresh_below n s.ins))
    (in_r1_a2_at s s.stage n a b c d e) (unexpected s) (λ f. by s.stage early) (λ f. refl)
  where
    by : (at : Stage) → since_open at ≡ 0 → Refuses s (in_r1_a2_at s at n a b c d e)
    by stage.Waits f = refl
    by (stage.OutCame known) f = refl
    by (stage.InCame known window timeout) f = refl
    by (stage.Open known) f = absurd (omega (arith, f))
    by stage.Ended f = refl

pub not_open : (at : Stage) → since_open at ≡ 0 → is_open at ≡ true → ⊥
not_open stage.Waits e f = false≢true f
not_open (stage.OutCame known) e f = false≢true f
not_open (stage.InCame known window timeout) e f = false≢true f
not_open (stage.Open known) e f = absurd (omega (arith, e))
not_open stage.Ended e f = false≢true f

pub in_r2_a2_early : (s : Server) (n : ℕ) (count : Count) (a : Cookie) → since_open s.stage ≡ 0
    → Refuses s (on_in_r2_a2 s n count a)
in_r2_a2_early s n count a early =
    by_test (Refuses s) (not (is_first count) && (is_open s.stage
    && (not (waits kind.InR2A3 s.waiting) && nat_lt s.newest_in 4294967295))) _ (unexpected s)
    (λ e. absurd (not_open s.stage early (and_parts (is_open s.stage) _
    (and_parts (not (is_first count)) _ e).1).0))
    (λ e. refl)

-- nor is there a next channel
pub in_r1_a6_keeps : (s : Server) (n : ℕ) (a : Cookie) → Keeps s (on_in_r1_a6 s n a).0
in_r1_a6_keeps s n a put h =
    keeps_adds is_in_r1_a3 s (on_in_r1_a6 s n a).0 (λ e. early (h.lone e))
    (ap since_open (stage_same s n a)) (parts_same s n a) (in_r1_a6_adds s n a) put h
  where
    stage_same : (s : Server) (n : ℕ) (a : Cookie) → (on_in_r1_a6 s n a).0.stage ≡ s.stage
    stage_same s n a = search rules

    parts_same : (s : Server) (n : ℕ) (a : Cookie) → parts (on_in_r1_a6 s n a).0 ≡ parts s
    parts_same s n a = search rules

    early : s.line.has_next ≡ false → Refuses s (on_in_r1_a6 s n a)
    early none =
        by_test (Refuses s) ((n == s.current.leg)
        && (not s.line.finished && (s.line.has_next && not (waits kind.InR1A3 s.waiting)))) _
        (unexpected s)
        (λ e. absurd (true≢false (sym (and_parts s.line.has_next _
        (and_parts (not s.line.finished) _ (and_parts (n == s.current.leg) _ e).1).1).0 ∙ none)))
        (λ e. refl)

pub take_stage : (s : Server) → (take s).stage ≡ s.stage
take_stage s = search rules

take_parts : (s : Server) → parts (take s) ≡ parts s
take_parts s = search rules

pub take_keeps : (s : Server) → Keeps s (take s)
take_keeps s put h =
    keeps_adds is_in_r1_a3 s (take s) (λ e. early (h.lone e)) (ap since_open (take_stage s))
    (take_parts s) (take_adds s) put h
  where
    still : LineStep s.line (after_take s.line) → s.line.has_next ≡ false
        → (after_take s.line).has_next ≡ s.line.has_next
    still (inl same) none = same.0
    still (inr moved) none = moved.1 ∙ sym none

    early : s.line.has_next ≡ false → view (take s) ≡ view s
    early none =
        let t : Server = record s { line = after_take s.line } in
        let same : view t ≡ view s =
        ap (λ (b : Bool). record (view s) { has_next = b }) (still (take_step s.line) none) in
        subst (λ (b : Bool). view (moved_if b t) ≡ view s) (sym none) same

-- ---- OUT_R1/A4 and OUT_R1/A8

-- OUT_R1/A4 begins another channel than the first
a4_legs : (s : Server) (n : ℕ) (count : Count) (a b c : Cookie) (d e f : ℕ) → s.writing ≡ 1
    → AllByRecursion LetsC1 s.outs
    → AllByRecursion LetsC1 (on_out_r1_a4 s n count a b c d e f).0.outs
a4_legs s n count a b c d e f writes all =
    by_test Legs (may_answer s n count) (out_r1_a4_at s s.stage n a b c d e f) (unexpected s)
    (λ g. by_stage (same_number n (s.writing + 1)
    (and_parts (n == s.writing + 1) _ (and_parts (is_first count) _ g).1).0) s.stage)
    (λ g. all)
  where
    Legs : Done → Type 0
    Legs x = AllByRecursion LetsC1 x.0.outs

    answers : n ≡ s.writing + 1 → (place : Option ℕ) (o : Option OutLeg)
        → out_place n s.outs ≡ place → out_at s.outs place ≡ o
        → Legs (answered_by s c d e f place o)
    answers next (Some place) (Some leg) is at =
        legs_set LetsC1 s.outs place _
        (λ one. let same = found_number n place s.outs leg is at in
        absurd (omega (arith, one, same, next, writes))) all
    answers next (Some place) None is at = all
    answers next None o is at = all

    by_writing : n ≡ s.writing + 1 → (known : Cookie) (o : Option Cookie)
        → Legs (out_r1_a4_by s n known a b c d e f o)
    by_writing next known None = all
    by_writing next known (Some writing) =
        by_test Legs (not (same_cookie known a)) (refuse s (refused.Cookie known a)) _ (λ g. all)
        (λ g. by_test Legs (not (same_cookie writing b)) (refuse s (refused.Cookie writing b))
        (answered_on s n c d e f) (λ i. all)
        (λ i. answers next (out_place n s.outs) (out_at s.outs (out_place n s.outs)) refl refl))

    by_stage : n ≡ s.writing + 1 → (at : Stage) → Legs (out_r1_a4_at s at n a b c d e f)
    by_stage next (stage.Open known) = by_writing next known (out_cookie s.writing s.outs)
    by_stage next stage.Waits = all
    by_stage next (stage.OutCame known) = all
    by_stage next (stage.InCame known window timeout) = all
    by_stage next stage.Ended = all

a4_stage : (s : Server) (n : ℕ) (count : Count) (a b c : Cookie) (d e f : ℕ)
    → (on_out_r1_a4 s n count a b c d e f).0.stage ≡ s.stage
a4_stage s n count a b c d e f = search rules

a4_writing : (s : Server) (n : ℕ) (count : Count) (a b c : Cookie) (d e f : ℕ)
    → (on_out_r1_a4 s n count a b c d e f).0.writing ≡ s.writing
a4_writing s n count a b c d e f = search rules

pub a4_keeps : (s : Server) (n : ℕ) (count : Count) (a b c : Cookie) (d e f : ℕ)
    → Keeps s (on_out_r1_a4 s n count a b c d e f).0
a4_keeps s n count a b c d e f put h = by (open_or_not s.stage)
  where
    t : Server
    t = (on_out_r1_a4 s n count a b c d e f).0

    early : (at : Stage) → since_open at ≡ 0 → Refuses s (out_r1_a4_at s at n a b c d e f)
    early stage.Waits g = refl
    early (stage.OutCame known) g = refl
    early (stage.InCame known window timeout) g = refl
    early (stage.Open known) g = absurd (omega (arith, g))
    early stage.Ended g = refl

    by : (since_open s.stage ≡ 0) ⊎ (since_open s.stage ≡ 1) → Before t put
    by (inl g) =
        same_before s t put
        (by_test (Refuses s) (may_answer s n count) (out_r1_a4_at s s.stage n a b c d e f)
        (unexpected s) (λ i. early s.stage g) (λ i. refl)) h
    by (inr g) =
        open_before s t put g (ap since_open (a4_stage s n count a b c d e f) ∙ g)
        (a4_writing s n count a b c d e f) (a4_legs s n count a b c d e f h.writes h.legs)
        (out_r1_a4_adds s n count a b c d e f).firsts h

a8_stage : (s : Server) (count : Count) (to : ℕ) (a : Cookie)
    → (on_out_r1_a8 s count to a).0.stage ≡ s.stage
a8_stage s count to a = search rules

a8_parts : (s : Server) (count : Count) (to : ℕ) (a : Cookie)
    → parts (on_out_r1_a8 s count to a).0 ≡ parts s
a8_parts s count to a = search rules

pub a8_keeps : (s : Server) (count : Count) (to : ℕ) (a : Cookie)
    → Keeps s (on_out_r1_a8 s count to a).0
a8_keeps s count to a put h =
    keeps_adds of_out s (on_out_r1_a8 s count to a).0 (λ e. early (h.steady e))
    (ap since_open (a8_stage s count to a)) (a8_parts s count to a) (out_r1_a8_adds s count to a)
    put h
  where
    by : (at : Replacement) → is_steady at ≡ true → Refuses s (out_r1_a8_at s a at)
    by Steady e = refl
    by Asked e = refl
    by Confirmed e = refl
    by (Answered cookie) e = absurd (false≢true e)

    early : is_steady s.replacement ≡ true → Refuses s (on_out_r1_a8 s count to a)
    early steady =
        by_test (Refuses s)
        (not (is_first count) && ((to == 2) && not (waits kind.OutR1 s.waiting)))
        (out_r1_a8_at s a s.replacement) (unexpected s) (λ e. by s.replacement steady) (λ e. refl)
