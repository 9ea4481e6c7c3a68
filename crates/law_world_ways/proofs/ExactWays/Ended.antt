-- behind END no PDU is put
use Rattle.law_order.proofs.Vocabulary.{◌≡◌, ◌<◌, ◌≤◌, ℕ, zero, suc, Bool, true, false, nat_le, ◌||◌, List, [], ◌++◌, append_assoc, arith, refl, sym, ap, ◌∙◌, subst, nat_tests, IsPrefix, IsJoined, Item, has_end, pdus, Log, below, through, reader, IsRoute, Route}
use Rattle.law_moves.proofs.Vocabulary.{below_prefix, all_ended, has_end-append, nil_front, pdus-append, reader_at, below_next, end_stays as end_in}
use Rattle.law_node_causes.proofs.Sorts.{or_true}
use Rattle.law_world_ways.specs.ExactWays.Pdus.{IsBehindEnd}

-- one channel more
one_more : (came sent : Log) (n : ℕ) → IsPrefix (came n) (sent n)
    → (has_end (below came n) ≡ true → has_end (below sent n) ≡ true) → (t : Bool)
    → has_end (below came n) ≡ t → has_end (below came (suc n)) ≡ true
    → has_end (below sent (suc n)) ≡ true
one_more came sent n front before true f e =
    end_in (below sent n) (below sent (suc n)) (sent n, refl) (before f)
one_more came sent n front before false f e =
    has_end-append (below sent n) (sent n)
    ∙ ap (λ (t : Bool). has_end (below sent n) || t)
    (end_in (came n) (sent n) front
    (ap (λ (t : Bool). t || has_end (came n)) (sym f)
    ∙ sym (has_end-append (below came n) (came n)) ∙ e))
    ∙ or_true (has_end (below sent n))

end_below : (came sent : Log) → ((k : ℕ) → IsPrefix (came k) (sent k)) → (n : ℕ)
    → has_end (below came n) ≡ true → has_end (below sent n) ≡ true
end_below came sent fronts zero e = e
end_below came sent fronts (suc n) e =
    one_more came sent n (fronts n) (end_below came sent fronts n) (has_end (below came n)) refl e

module _ (r : Route) (l : IsRoute r) (n : ℕ) (some : 0 < n) (behind : IsBehindEnd r n) where
  abbrev all : List Item
  all = through r.sent r.giver.writing

  ended : has_end (below r.sent n) ≡ true
  ended =
      let m = reader r.legs n in
      end_below (r.came m) r.sent (λ k. l.near m k (reader_at r l n some).is_leg) n behind

  -- of a channel up to the writing one
  within : n ≤ r.giver.writing
      → (pdus (r.sent n) ≡ []) × (has_end all ≡ true)
  within up =
      let front : IsPrefix (below r.sent n ++ r.sent n) all =
      below_prefix r.sent (suc n) (suc r.giver.writing) (omega (arith, up)) in
      let joined : IsJoined (below r.sent n ++ (r.sent n ++ front.0)) =
      subst IsJoined (sym front.1 ∙ append_assoc (below r.sent n) (r.sent n) front.0)
      l.giver.joined in (
        nil_front (pdus (r.sent n)) (pdus front.0)
            (sym (pdus-append (r.sent n) front.0)
            ∙ all_ended (below r.sent n) (r.sent n ++ front.0) ended joined),
        end_in (below r.sent n ++ r.sent n) all front
            (end_in (below r.sent n) (below r.sent n ++ r.sent n) (r.sent n, refl) ended),
      )

  -- and behind that nothing was put
  beyond : r.giver.writing < n → (pdus (r.sent n) ≡ []) × (has_end all ≡ true)
  beyond above = (
    ap pdus (l.giver.later n above),
    subst (λ (items : List Item). has_end items ≡ true)
        (below_next r.sent r.giver.writing n above (λ k over under. l.giver.later k over)) ended,
  )

  by_order : (t : Bool) → nat_le n r.giver.writing ≡ t
      → (pdus (r.sent n) ≡ []) × (has_end all ≡ true)
  by_order true e = within (grind (arith, nat_tests))
  by_order false e = beyond (grind (arith, nat_tests))

  pub none_behind : (pdus (r.sent n) ≡ []) × (r.giver.closing ≡ true) × (r.giver.queue ≡ [])
  none_behind =
      let both = by_order (nat_le n r.giver.writing) refl in
      let over = l.giver.over both.1 in (both.0, over.0, over.1)
