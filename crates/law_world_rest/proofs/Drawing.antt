-- a node that draws no byte is as it was, where each message that its role puts has one
use Rattle.std.proofs.Math.Seq.{drop-nil}
use Rattle.law_order.proofs.Vocabulary.{◌≡◌, ℕ, zero, suc, ◌<◌, ◌&&◌, not, List, [], ◌∷◌, Bool, true, false, if◌then◌else◌, take, drop, get_or, slice_get, slice_set, Some, None, IfSome, Option, refl, sym, ap, ◌∙◌, arith}
use Rattle.rh_record.specs.declared.answer.Who.TheVariants as who
use Rattle.rh_shell.specs.NearEnds.{is_empty}
use Rattle.rh_shell.specs.Shells as shell
use Rattle.rh_company.specs.Company as company
use Rattle.rh_company.specs.Places as places
use Rattle.rh_nodes.proofs.Idles.{act_kept}
use Rattle.law_moves.proofs.Vocabulary.{Cause, Leg, Course, Going, Closed, Refusing, NearEnd, is_marked, is_over, Rules, Message, put_into, spell, Drawn, drawn, draw, filled, next_byte, put_on, Shell, drawn_at, drawn_by, end_at, place, put_back, same_leg}
use Rattle.law_node_history.proofs.Vocabulary.{Who, Company, Rulebook, Place, Absent, Here, Gone, act, Deeds}
use Rattle.law_node_history.proofs.Numbers.{answered}
use Rattle.law_world_rest.specs.Steady.{AreSteady, PutsBytes, PutsBytesThere}

-- ---- at the end of a leg

module _ {S : Type 0} (rules : Rules S) (now : ℕ) (end : NearEnd) (role : S) where
  -- the put has bytes, if there is one
  abbrev HasBytes : Option (S × Message) → Type 0
  HasBytes o = IfSome o (λ (put : S × Message). is_empty (spell put.1) ≡ false)

  begun_none : (next : S) (bytes : List ℕ) → is_empty bytes ≡ false
      → (put_on now end (next, bytes)).end.begun ≡ []
      → put_on now end (next, bytes) ≡ drawn end role []
  begun_none next [] some none = absurd cc
  begun_none next (b ∷ bs) some none = absurd cc

  -- where nothing is begun behind it, nothing was put
  filled_by : (test : Bool) (o : Option (S × Message)) → HasBytes o
      → (if test then put_on now end (put_into role o) else drawn end role []).end.begun ≡ []
      → (if test then put_on now end (put_into role o) else drawn end role [])
      ≡ drawn end role []
  filled_by false o some none = refl
  filled_by true None some none = refl
  filled_by true (Some put) some none = begun_none put.0 (spell put.1) some none

  has_bytes : PutsBytes rules role → HasBytes (rules.put role end.leg)
  has_bytes puts = by (rules.put role end.leg) refl
    where
      by : (o : Option (S × Message)) → rules.put role end.leg ≡ o → HasBytes o
      by None is = tt
      by (Some put) is = puts end.leg put is

  module _ (puts : PutsBytes rules role) (n : ℕ) where
    by_bytes : (bytes : List ℕ) → (filled rules now end role).end.begun ≡ bytes
        → (next_byte rules (filled rules now end role) bytes (draw rules now n)).bytes ≡ []
        → next_byte rules (filled rules now end role) bytes (draw rules now n)
        ≡ drawn end role []
    by_bytes [] begun none =
        filled_by (is_empty end.begun && not (is_over rules end role)) (rules.put role end.leg)
        (has_bytes puts) begun
    by_bytes (b ∷ bs) begun none = absurd cc

    draw_none : (draw rules now (suc n) end role).bytes ≡ []
        → draw rules now (suc n) end role ≡ drawn end role []
    unfolding draw
    draw_none none = by_bytes (filled rules now end role).end.begun refl none

-- ---- at a node

set_same : {X : Type 0} (list : List X) (k : ℕ) (x : X) → slice_get list k ≡ Some x
    → slice_set list k x ≡ list
set_same [] k x is = refl
set_same (y ∷ list) zero x is = let same : y ≡ x = cc in ap (λ z. z ∷ list) (sym same)
set_same (y ∷ list) (suc k) x is = ap (λ l. y ∷ l) (set_same list k x is)

module _ {S : Type 0} (rules : Rules S) (s : Shell S) (leg : Leg) (puts : PutsBytes rules s.role)
    (n : ℕ) where
  abbrev IsUnchanged : Shell S × List ℕ → Type 0
  IsUnchanged did = did.1 ≡ [] → did ≡ (s, [])

  put_back_none : (end : NearEnd) → end_at s leg ≡ Some end
      → IsUnchanged (put_back s leg (draw rules s.now (suc n) end s.role))
  put_back_none end at none =
      ap (λ (d : Drawn S). put_back s leg d)
      (draw_none rules s.now end s.role puts n none)
      ∙ ap (λ (ends : List NearEnd). (record s { legs = ends }, []))
      (set_same s.legs (place leg s.legs) end at)

  marked_or : (end : NearEnd) (marked : Bool) → end_at s leg ≡ Some end
      → IsUnchanged (if marked then (s, [])
      else put_back s leg (draw rules s.now (suc n) end s.role))
  marked_or end true at none = refl
  marked_or end false at none = put_back_none end at none

  at_end : (o : Option NearEnd) → end_at s leg ≡ o
      → IsUnchanged (drawn_at rules s leg (suc n) o)
  at_end None at none = refl
  at_end (Some end) at none = marked_or end (is_marked end.standing) at none

  refusing : (why : Cause) (client : Leg) (rest : List ℕ) (here : Bool)
      → s.course ≡ Refusing why client rest
      → IsUnchanged (if here
      then (record s { course = Refusing why client (drop (suc n) rest) }, take (suc n) rest)
      else (s, []))
  refusing why client rest false is none = refl
  refusing why client [] true is none =
      ap (λ (bytes : List ℕ). (record s { course = Refusing why client bytes }, []))
      (drop-nil (suc n))
      ∙ ap (λ (c : Course). (record s { course = c }, [])) (sym is)
  refusing why client (b ∷ bs) true is none = absurd cc

  by_course : (course : Course) → s.course ≡ course
      → IsUnchanged (drawn_by rules s leg (suc n) course)
  by_course Going is = at_end (end_at s leg) refl
  by_course (Closed why) is = λ none. refl
  by_course (Refusing why client rest) is =
      refusing why client rest (same_leg client leg) is

  node_unchanged : IsUnchanged (shell.drawn rules s leg (suc n))
  node_unchanged = by_course s.course refl

-- ---- at all nodes

module _ {S : Type 0} (rules : Rules S) (leg : Leg) (n : ℕ) where
  place_unchanged : (p : Place S) → PutsBytesThere rules p
      → (places.draw rules leg (suc n) p).1 ≡ [] → places.draw rules leg (suc n) p ≡ (p, [])
  place_unchanged Absent puts none = refl
  place_unchanged (Here node legs) puts none =
      ap (λ did. places.drawn_here legs did) (node_unchanged rules node leg puts n none)
  place_unchanged (Gone now) puts none = refl

  list_unchanged : (list : List (Place S)) (k : ℕ) → PutsBytesThere rules (get_or list k Absent)
      → (act (places.draw rules leg (suc n)) [] list k).1 ≡ []
      → act (places.draw rules leg (suc n)) [] list k ≡ (list, [])
  list_unchanged list k puts none =
      act_kept (places.draw rules leg (suc n)) [] Absent list k
      (place_unchanged (get_or list k Absent) puts
      (sym (answered Absent (places.draw rules leg (suc n)) [] refl list k) ∙ none))

module _ {C S I O : Type 0} (r : Rulebook C S I O) (d : Deeds C S) (c : Company C S I O)
    (steady : AreSteady r d c) (leg : Leg) where
  by_node : (node : Who) (n : ℕ) → (company.draw r c node leg (suc n)).1 ≡ []
      → company.draw r c node leg (suc n) ≡ (c, [])
  by_node who.Client n none =
      ap (λ did. company.with_client c did)
      (node_unchanged r.client c.client leg steady.client n none)
  by_node who.Server n none =
      ap (λ did. company.with_server c did)
      (node_unchanged r.server c.server leg steady.server n none)
  by_node (who.In k) n none =
      ap (λ did. company.with_ins c did)
      (list_unchanged r.in_proxy leg n c.ins k (steady.ins k) none)
  by_node (who.Out k) n none =
      ap (λ did. company.with_outs c did)
      (list_unchanged r.out_proxy leg n c.outs k (steady.outs k) none)

  -- where some are asked for
  pub none_drawn : (node : Who) (room : ℕ) → 0 < room → (company.draw r c node leg room).1 ≡ []
      → company.draw r c node leg room ≡ (c, [])
  none_drawn node zero some none = absurd (omega (arith, some))
  none_drawn node (suc n) some none = by_node node n none
