-- an is leg that a server left is left for good: no step of it has that leg stay again
use Rattle.law_order.proofs.Vocabulary.{◌≡◌, ℕ, ◌+◌, ◌≤◌, ◌==◌, ◌&&◌, ◌||◌, Bool, true, false, true≢false, not, if◌then◌else◌, List, [], ◌∷◌, ◌++◌, Some, None, arith, refl, sym, ap, ◌∙◌, subst, IfSome, Option}
use Rattle.rh_line.specs.Lines.{after_take}
use Rattle.rh_server.specs.declared.state.InStage.TheVariants as in_stage
use Rattle.rh_server.specs.declared.state.Leaving.TheVariants as leaving
use Rattle.rh_server.specs.declared.state.Stage.TheVariants as stage
use Rattle.rh_server.specs.declared.state.Tells.TheVariants as tells
use Rattle.rh_server.specs.declared.out_line.Kind.TheVariants as kinds
use Rattle.law_moves.proofs.Vocabulary.{by_test, test_other, Cookie, Which, Current, Next, after_end, after_finish, Count}
use Rattle.law_role_server.proofs.Vocabulary.{Shut, InLeg, InStage, Stage, Server, Done, stays, waits, same_cookie, is_first, in_leg, in_place, in_leg_up, set_at, removed_at, with_in, without_in, first_in, with_first_in, opens, conn_b2_at, on_conn_b2, opens_next, opens_leg, first_waiting, waiting_place, next_opened, becomes_current, moved_if, take, announced, in_r1_a2_by, in_r1_a2_at, has_fresh_below, on_in_r1_a2, leaves, leaves_by, hands_over, on_in_r1_a6, in_r2_a2_on, on_in_r2_a2, channel_at, is_over_on, end_a2_on_leg, end_a2_waiting, end_a2_at, on_end_a2, lost_in, is_fresh, is_waiting, took, unexpected}
use Rattle.law_role_server.proofs.Numbered.{Once, once_at, once_push, once_removed, once_set}
use Rattle.law_role_server_rows.proofs.InTurn.InPlaces.{Found, Placed, found_at, placed}
use Rattle.law_role_server_rows.proofs.InTurn.InKept.{number_of}
use Rattle.law_role_server_in.proofs.Kept.{Look, look}

abbrev pub Leaves : InLeg → Type 0
Leaves leg = stays leg.leaving ≡ false

-- leg n came up, and where it is kept, it leaves
abbrev pub IsLeft : ℕ → Server → Type 0
IsLeft n s = (n ≤ s.newest_in) × Once number_of n Leaves s.ins

-- each leg that was left is
abbrev pub Keeps : Server → Server → Type 0
Keeps s t = (n : ℕ) → IsLeft n s → IsLeft n t

-- ---- no leg changes

pub record Seen : Type 0 where
  pub newest : ℕ
  pub ins : List InLeg

abbrev pub seen : Server → Seen
seen s = record { newest = s.newest_in; ins = s.ins }

pub seen_keeps : (s t : Server) → seen t ≡ seen s → Keeps s t
seen_keeps s t same n left =
    subst (λ (v : Seen). (n ≤ v.newest) × Once number_of n Leaves v.ins) (sym same) left

pub look_keeps : (s t : Server) → look t ≡ look s → Keeps s t
look_keeps s t same n left =
    subst (λ (v : Look). (n ≤ v.newest) × Once number_of n Leaves v.ins) (sym same) left

-- ---- legs change, go and come

pub set_keeps : (s : Server) (leg z : InLeg) → Found s.ins leg → z.number ≡ leg.number
    → (Leaves leg → Leaves z) → Keeps s (with_in s z)
set_keeps s leg z f same goes n left = (
  left.0,
  subst (λ (o : Option ℕ). Once number_of n Leaves (set_at s.ins z o))
      (sym (ap (λ (k : ℕ). in_place k s.ins) same ∙ p.is))
      (once_set number_of n Leaves Leaves s.ins p.place p.leg z p.at (same ∙ sym p.same)
      (λ e was. goes (once_at number_of n Leaves s.ins f.place leg f.at
      (ap (λ (k : ℕ). k == n) (sym p.same) ∙ e) left.1))
      (λ e w was. was) left.1),
)
  where
    p : Placed s.ins leg.number
    p = placed s.ins leg f

pub gone_keeps : (s : Server) (m : ℕ) → Keeps s (without_in s m)
gone_keeps s m n left = (left.0, by (in_place m s.ins))
  where
    by : (o : Option ℕ) → Once number_of n Leaves (removed_at s.ins o)
    by None = left.1
    by (Some place) = once_removed number_of n Leaves s.ins place left.1

pub up_keeps : (s : Server) (m : ℕ) → m ≡ s.newest_in + 1
    → Keeps s (record s { newest_in = m; ins = s.ins ++ in_leg_up m ∷ [] })
up_keeps s m next n left = (
  omega (arith, next, left.0),
  once_push number_of n Leaves s.ins (in_leg_up m)
      (test_other m n (λ is. absurd (omega (arith, is, next, left.0)))) left.1,
)

pub lost_keeps : (s : Server) (m : ℕ) (o : Option InLeg) → IfSome o (Found s.ins)
    → Keeps s (lost_in s m o)
lost_keeps s m None f = gone_keeps s m
lost_keeps s m (Some leg) f =
    by_test (λ (t : Server). Keeps s t) (is_waiting leg.stage && stays leg.leaving)
    (with_in s (record leg { leaving = leaving.Lost })) (without_in s m)
    (λ e. set_keeps s leg (record leg { leaving = leaving.Lost }) f refl
    (λ left. absurd (true≢false (sym (staying (is_waiting leg.stage) (stays leg.leaving) e)
    ∙ left))))
    (λ e. gone_keeps s m)
  where
    staying : (a b : Bool) → a && b ≡ true → b ≡ true
    staying true true e = refl
    staying true false e = absurd (true≢false (sym e))
    staying false b e = absurd (true≢false (sym e))

-- ---- channels open

pub next_keeps : (s : Server) → Keeps s (next_opened s)
next_keeps s =
    by_test (λ (t : Server). Keeps s t) (s.line.has_next || waits kinds.InR1A3 s.waiting) s
    (opens_leg s (first_waiting s.ins)) (λ e n left. left)
    (λ e. by (first_waiting s.ins) (found_at s.ins (waiting_place s.ins)))
  where
    staged : (leg : InLeg) (x : InStage) → Found s.ins leg → Keeps s (opens_next s leg x)
    staged leg in_stage.Fresh f = λ n left. left
    staged leg in_stage.Opened f = λ n left. left
    staged leg (in_stage.Waits window timeout ended) f =
        set_keeps s leg (record leg { stage = in_stage.Opened; tells = tells.InR1B2 }) f refl
        (λ left. left)

    by : (o : Option InLeg) → IfSome o (Found s.ins) → Keeps s (opens_leg s o)
    by None f = λ n left. left
    by (Some leg) f = staged leg leg.stage f

pub moved_keeps : (had_next : Bool) (s : Server) → Keeps s (moved_if had_next s)
moved_keeps had_next s =
    by_test (λ (t : Server). Keeps s t) (had_next && not s.line.has_next) (becomes_current s) s
    (λ e. next_keeps (record s { current = s.next; edge = Shut })) (λ e n left. left)

pub take_keeps : (s : Server) → Keeps s (take s)
take_keeps s = moved_keeps s.line.has_next (record s { line = after_take s.line })

-- ---- the rows of is legs

abbrev DoneKeeps : Server → Done → Type 0
DoneKeeps s x = Keeps s x.0

pub conn_b2_keeps : (s : Server) (m : ℕ) (count : Count) (a b : Cookie) (c d : ℕ)
    → Keeps s (on_conn_b2 s m count a b c d).0
conn_b2_keeps s m count a b c d =
    by_test (DoneKeeps s) (is_first count && ((m == 1) && not (waits kinds.ConnC1 s.waiting)))
    (conn_b2_at s s.stage a b c d) (unexpected s) (λ e. by s.stage) (λ e n left. left)
  where
    on_leg : (o : Option InLeg) → IfSome o (Found s.ins) → Keeps s (first_in s b o)
    on_leg None f = λ n left. left
    on_leg (Some leg) f =
        set_keeps s leg
        (record leg { cookie = b; stage = in_stage.Opened; tells = tells.ConnB3 }) f refl
        (λ left. left)

    first : Keeps s (with_first_in s b)
    first = on_leg (in_leg 1 s.ins) (found_at s.ins (in_place 1 s.ins))

    by : (x : Stage) → Keeps s (conn_b2_at s x a b c d).0
    by stage.Waits = first
    by (stage.OutCame known) =
        by_test (DoneKeeps s) (same_cookie known a) (took (opens (with_first_in s b) known c d)) _
        (λ e. first) (λ e n left. left)
    by (stage.InCame known window timeout) = λ n left. left
    by (stage.Open known) = λ n left. left
    by stage.Ended = λ n left. left

pub in_r1_a2_keeps : (s : Server) (m : ℕ) (count : Count) (a b c : Cookie) (d e : ℕ)
    → Keeps s (on_in_r1_a2 s m count a b c d e).0
in_r1_a2_keeps s m count a b c d e =
    by_test (DoneKeeps s) (is_first count && not (has_fresh_below m s.ins))
    (in_r1_a2_at s s.stage m a b c d e) (unexpected s) (λ t. by s.stage) (λ t n left. left)
  where
    announces : (leg : InLeg) → Found s.ins leg → Keeps s (announced s leg c d e)
    announces leg f n left =
        let z : InLeg = record leg { cookie = c; stage = in_stage.Waits d e false } in
        next_keeps
        (with_in (record s { newest = record { leg = leg.number; cookie = c } }) z) n
        (set_keeps s leg z f refl (λ l. l) n left)

    on_leg : (known : Cookie) (o : Option InLeg) → IfSome o (Found s.ins)
        → Keeps s (in_r1_a2_by s known a b c d e o).0
    on_leg known None f = λ n left. left
    on_leg known (Some leg) f =
        by_test (DoneKeeps s) (not (is_fresh leg.stage)) _ _ (λ t n left. left)
        (λ t. by_test (DoneKeeps s) (not (same_cookie known a)) _ _ (λ u n left. left)
        (λ u. by_test (DoneKeeps s) (not (same_cookie s.newest.cookie b)) _
        (took (announced s leg c d e)) (λ w n left. left) (λ w. announces leg f)))

    by : (x : Stage) → Keeps s (in_r1_a2_at s x m a b c d e).0
    by (stage.Open known) =
        on_leg known (in_leg m s.ins) (found_at s.ins (in_place m s.ins))
    by stage.Waits = λ n left. left
    by (stage.OutCame known) = λ n left. left
    by (stage.InCame known window timeout) = λ n left. left
    by stage.Ended = λ n left. left

pub in_r2_a2_keeps : (s : Server) (m : ℕ) (count : Count) (successor : Cookie)
    → Keeps s (on_in_r2_a2 s m count successor).0
in_r2_a2_keeps s m count successor =
    by_test (DoneKeeps s) _ (in_r2_a2_on s m successor (channel_at s m)) (unexpected s)
    (λ e. by (channel_at s m)) (λ e n left. left)
  where
    by : (which : Option Which) → Keeps s (in_r2_a2_on s m successor which).0
    by None = λ n left. left
    by (Some Current) = λ n left. (omega (arith, left.0), left.1)
    by (Some Next) = λ n left. (omega (arith, left.0), left.1)

pub end_a2_keeps : (s : Server) (m : ℕ) (count : Count) → Keeps s (on_end_a2 s m count).0
end_a2_keeps s m count =
    by_test (DoneKeeps s) (is_first count) (unexpected s) (end_a2_at s m (channel_at s m))
    (λ e n left. left) (λ e. by (channel_at s m))
  where
    staged : (leg : InLeg) (x : InStage) → Found s.ins leg
        → Keeps s (end_a2_on_leg s leg x).0
    staged leg in_stage.Fresh f = λ n left. left
    staged leg in_stage.Opened f = λ n left. left
    staged leg (in_stage.Waits window timeout ended) f =
        by_test (DoneKeeps s) ended (unexpected s) _ (λ e n left. left)
        (λ e. set_keeps s leg (record leg { stage = in_stage.Waits window timeout true }) f refl
        (λ left. left))

    on_leg : (o : Option InLeg) → IfSome o (Found s.ins) → Keeps s (end_a2_waiting s o).0
    on_leg None f = λ n left. left
    on_leg (Some leg) f = staged leg leg.stage f

    by : (o : Option Which) → Keeps s (end_a2_at s m o).0
    by None = on_leg (in_leg m s.ins) (found_at s.ins (in_place m s.ins))
    by (Some which) =
        by_test (DoneKeeps s) (is_over_on s which) (unexpected s)
        (took (record s { line = after_end s.line which })) (λ e n left. left)
        (λ e n left. left)

-- IN_R1/A6 has its leg leave
pub leaves_keeps : (s : Server) (m : ℕ) → Keeps s (leaves s m)
leaves_keeps s m = by (in_leg m s.ins) (found_at s.ins (in_place m s.ins))
  where
    by : (o : Option InLeg) → IfSome o (Found s.ins) → Keeps s (leaves_by s o)
    by None f = λ n left. left
    by (Some leg) f =
        set_keeps s leg (record leg { leaving = leaving.InR1B1 }) f refl (λ left. refl)

pub hands_keeps : (s : Server) (m n : ℕ) → IsLeft n (leaves s m) → IsLeft n (hands_over s m)
hands_keeps s m n left =
    moved_keeps true (record (leaves s m) { line = after_finish s.line }) n left

pub in_r1_a6_keeps : (s : Server) (m : ℕ) (successor : Cookie)
    → Keeps s (on_in_r1_a6 s m successor).0
in_r1_a6_keeps s m successor =
    by_test (DoneKeeps s) _
    (if same_cookie s.next.cookie successor then took (hands_over s m) else _) (unexpected s)
    (λ e. by_test (DoneKeeps s) (same_cookie s.next.cookie successor) (took (hands_over s m)) _
    (λ f n left. hands_keeps s m n (leaves_keeps s m n left)) (λ f n left. left))
    (λ e n left. left)
