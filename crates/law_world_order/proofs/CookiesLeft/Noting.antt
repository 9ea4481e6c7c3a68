-- each leg of the client that comes up by a change comes up by an event of the client
use Rattle.std.proofs.Common.{length-append}
use Rattle.rh_text.specs.declared.ends.Side.TheVariants as side
use Rattle.law_order.proofs.Vocabulary.{◌≡◌, ℕ, ◌+◌, List, [], ◌∷◌, ◌++◌, length, map, arith, refl, ap, ◌∙◌}
use Rattle.rh_record.specs.declared.answer.Who.TheVariants as who
use Rattle.law_moves.proofs.Vocabulary.{Leg, EndEvent, Happens}
use Rattle.law_moves.specs.Moving as moving
use Rattle.law_node_history.proofs.Vocabulary.{Who, receiver, sender, Event, Comes, Ends, Breaks, Passes, Rulebook, Deeds, Makers, World, at, happened, Change, IsTold, IsFed, IsDrawn, GoesUp, RaisesAlone, GoesDown, OpensIn, OpensOut, OpensSame, Gives, Takes, Closes, RecyclesIn, RecyclesOut, MovesTo, Draws, Reports, changed, all_risen, risen, History, acts_by, all_noted, heard, noted, to_node, told_to}
use Rattle.law_node_history.proofs.Lemmas.{happened_append}
use Rattle.law_world_order.proofs.Vocabulary.{legs_up}

abbrev ups : List moving.Event → ℕ
ups events = length (legs_up events)

ups_append : (es fs : List moving.Event) → ups (es ++ fs) ≡ ups es + ups fs
ups_append [] fs = omega arith
ups_append (moving.ComesUp leg cookie ∷ es) fs =
    let rest = ups_append es fs in omega (arith, rest)
ups_append (moving.Hears leg piece ∷ es) fs = ups_append es fs
ups_append (moving.Ends leg ∷ es) fs = ups_append es fs
ups_append (moving.Breaks leg ∷ es) fs = ups_append es fs
ups_append (moving.Draws leg room ∷ es) fs = ups_append es fs
ups_append (moving.Ticks now ∷ es) fs = ups_append es fs

told_happened : (es : List moving.Event) (acts : List EndEvent)
    → happened (map Happens es ++ acts) ≡ es ++ happened acts
told_happened [] acts = refl
told_happened (event ∷ es) acts = ap (λ x. event ∷ x) (told_happened es acts)

no_acts : (change : Change) → happened (acts_by change side.Client) ≡ []
no_acts (IsTold node event) = refl
no_acts (IsFed leg dir count) = refl
no_acts (IsDrawn leg dir count) = refl
no_acts (GoesUp node leg end cookie) = refl
no_acts (RaisesAlone node leg end cookie) = refl
no_acts (GoesDown node leg end) = refl
no_acts (OpensIn number cookie) = refl
no_acts (OpensOut number cookie) = refl
no_acts (OpensSame number cookie) = refl
no_acts (Gives side.Client pdu) = refl
no_acts (Gives side.Server pdu) = refl
no_acts (Takes side.Client) = refl
no_acts (Takes side.Server) = refl
no_acts (Closes side.Client) = refl
no_acts (Closes side.Server) = refl
no_acts RecyclesIn = refl
no_acts RecyclesOut = refl
no_acts (MovesTo now) = refl
no_acts (Draws cookies) = refl
no_acts Reports = refl

-- no leg comes up by what a node is told of others
told_none : (node : Who) (event : Event) → ups (to_node node who.Client (heard event)) ≡ 0
told_none who.Client (Comes leg piece) = refl
told_none who.Client (Ends leg) = refl
told_none who.Client (Breaks leg) = refl
told_none who.Client (Passes now) = refl
told_none who.Server event = refl
told_none (who.In n) event = refl
told_none (who.Out n) event = refl

fed_none : (node : Who) (leg : Leg) (piece : List ℕ)
    → ups (to_node node who.Client (moving.Hears leg piece)) ≡ 0
fed_none who.Client leg piece = refl
fed_none who.Server leg piece = refl
fed_none (who.In n) leg piece = refl
fed_none (who.Out n) leg piece = refl

drawn_none : (node : Who) (leg : Leg) (count : ℕ)
    → ups (to_node node who.Client (moving.Draws leg count)) ≡ 0
drawn_none who.Client leg count = refl
drawn_none who.Server leg count = refl
drawn_none (who.In n) leg count = refl
drawn_none (who.Out n) leg count = refl

module _ {K C S I O : Type 0} (r : Rulebook C S I O) (m : Makers K I O) (d : Deeds C S) where
  told_ups : (w : World K C S I O) (change : Change)
      → ups (told_to w change who.Client) ≡ length (risen change)
  told_ups w (IsTold node event) = told_none node event
  told_ups w (IsFed leg dir count) = fed_none (at w leg (receiver dir)) leg _
  told_ups w (IsDrawn leg dir count) = drawn_none (at w leg (sender dir)) leg count
  told_ups w (GoesUp who.Client leg end cookie) = refl
  told_ups w (GoesUp who.Server leg end cookie) = refl
  told_ups w (GoesUp (who.In n) leg end cookie) = refl
  told_ups w (GoesUp (who.Out n) leg end cookie) = refl
  told_ups w (RaisesAlone who.Client leg end cookie) = refl
  told_ups w (RaisesAlone who.Server leg end cookie) = refl
  told_ups w (RaisesAlone (who.In n) leg end cookie) = refl
  told_ups w (RaisesAlone (who.Out n) leg end cookie) = refl
  told_ups w (GoesDown node leg end) = refl
  told_ups w (OpensIn number cookie) = refl
  told_ups w (OpensOut number cookie) = refl
  told_ups w (OpensSame number cookie) = refl
  told_ups w (Gives end pdu) = refl
  told_ups w (Takes end) = refl
  told_ups w (Closes end) = refl
  told_ups w RecyclesIn = refl
  told_ups w RecyclesOut = refl
  told_ups w (MovesTo now) = refl
  told_ups w (Draws cookies) = refl
  told_ups w Reports = refl

  noted_ups : (w : World K C S I O) (h : History) (change : Change)
      → ups (happened (noted w h change).client)
      ≡ ups (happened h.client) + length (risen change)
  noted_ups w h change =
      let told = told_to w change who.Client in
      let acts = acts_by change side.Client in
      let all = ap ups (happened_append h.client (map Happens told ++ acts)
      ∙ ap (λ (es : List moving.Event). happened h.client ++ es)
      (told_happened told acts ∙ ap (λ (es : List moving.Event). told ++ es) (no_acts change))) in
      let first = ups_append (happened h.client) (told ++ []) in
      let rest = ups_append told [] in
      let here = told_ups w change in
      omega (arith, all, first, rest, here)

  -- behind all changes
  pub all_ups : (w : World K C S I O) (h : History) (changes : List Change)
      → ups (happened (all_noted r m d w h changes).client)
      ≡ ups (happened h.client) + length (all_risen changes)
  all_ups w h [] = omega arith
  all_ups w h (change ∷ changes) =
      let rest = all_ups (changed r m d w change) (noted w h change) changes in
      let here = noted_ups w h change in
      let sum = length-append (risen change) (all_risen changes) in
      omega (arith, rest, here, sum)
