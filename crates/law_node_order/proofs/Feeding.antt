-- what the laws of order say of what came is so of what was fed
use Rattle.law_order.proofs.Vocabulary.{◌≡◌, ℕ, ◌<◌, Bool, true, false, true≢false, List, [], ◌∷◌, ◌++◌, if◌then◌else◌, refl, sym, ap, ◌∙◌, subst, append-nil, IsPrefix, Giver, GiverLaw, Item, Piece, Stop, Handover, pdus, has_end, has_handover, IsChannel, Log, below, through, Passer, PasserLaw, from_first, Shelves, Shelved}
use Rattle.law_order.proofs.ItemLists.{behind_channel, has_end-append, has_handover-append}
use Rattle.law_order.proofs.Prefixes.{prefix_behind, prefix_pdus, prefix_trans}
use Rattle.law_order.proofs.ByNumber.{below_same}
use Rattle.law_node_order.specs.Feeds.{AreMarked, GivesOut, IsOfFed, PassesOn, joined, on_legs, to_end, to_mark}

-- ---- one leg

cut_front : (a rest : List Item) → IsChannel a → IsPrefix a (to_mark (a ++ rest))
cut_front [] rest c = (to_mark rest, refl)
cut_front (Piece p ∷ a) rest c =
    let q = cut_front a rest c in (q.0, ap (λ (x : List Item). Piece p ∷ x) q.1)
cut_front (Stop ∷ a) rest c =
    let q = cut_front a rest (behind_channel a c) in (q.0, ap (λ (x : List Item). Stop ∷ x) q.1)
cut_front (Handover ∷ a) rest c = ([], rw c refl)

cut_whole : (a rest : List Item) → IsChannel a → has_handover a ≡ true → to_mark (a ++ rest) ≡ a
cut_whole [] rest c h = absurd cc
cut_whole (Piece p ∷ a) rest c h = ap (λ (x : List Item). Piece p ∷ x) (cut_whole a rest c h)
cut_whole (Stop ∷ a) rest c h =
    ap (λ (x : List Item). Stop ∷ x) (cut_whole a rest (behind_channel a c) h)
cut_whole (Handover ∷ a) rest c h = ap (λ (x : List Item). Handover ∷ x) (sym c)

front_has : (a b : List Item) → IsPrefix a b → has_handover a ≡ true → has_handover b ≡ true
front_has a b p h = rw (sym p.1, has_handover-append, h) refl

front_ends : (a b : List Item) → IsPrefix a b → has_end a ≡ true → has_end b ≡ true
front_ends a b p h = rw (sym p.1, has_end-append, h) refl

end_more : (a b : List Item) → has_end a ≡ true → to_end (a ++ b) ≡ to_end a
end_more [] b h = absurd cc
end_more (Piece p ∷ a) b h = ap (λ (x : List Item). Piece p ∷ x) (end_more a b h)
end_more (Stop ∷ a) b h = refl
end_more (Handover ∷ a) b h = ap (λ (x : List Item). Handover ∷ x) (end_more a b h)

end_front : (a : List Item) → IsPrefix (pdus (to_end a)) (pdus a)
end_front [] = ([], refl)
end_front (Piece p ∷ a) =
    let q = end_front a in (q.0, ap (λ (x : List (List ℕ)). p ∷ x) q.1)
end_front (Stop ∷ a) = (pdus a, refl)
end_front (Handover ∷ a) = end_front a

-- ---- all legs

-- what came on each leg is of what was fed there, and nothing came where there is no leg
pub record AreFronts (legs : ℕ → Bool) (fed came : Log) : Type 0 where
  pub front : (n : ℕ) → IsPrefix (came n) (fed n)
  pub none : (n : ℕ) → legs n ≡ false → came n ≡ []

module _ (legs : ℕ → Bool) (fed came : Log) (are : AreFronts legs fed came)
    (channel : (n : ℕ) → IsChannel (came n)) where
  here : (n : ℕ) → IsPrefix (came n) (on_legs legs fed n)
  here n = by (legs n) refl
    where
      by : (b : Bool) → legs n ≡ b → IsPrefix (came n) (if b then to_mark (fed n) else [])
      by true e =
          subst (λ (x : List Item). IsPrefix (came n) (to_mark x)) (are.front n).1
          (cut_front (came n) (are.front n).0 (channel n))
      by false e = ([], append-nil (came n) ∙ are.none n e)

  whole : (n : ℕ) → has_handover (came n) ≡ true → on_legs legs fed n ≡ came n
  whole n h = by (legs n) refl
    where
      by : (b : Bool) → legs n ≡ b → (if b then to_mark (fed n) else []) ≡ came n
      by true e =
          ap to_mark (sym (are.front n).1) ∙ cut_whole (came n) (are.front n).0 (channel n) h
      by false e = absurd (true≢false (sym h ∙ ap has_handover (are.none n e)))

  module _ (current : ℕ)
      (past : (n : ℕ) → n < current → legs n ≡ true → has_handover (came n) ≡ true) where
    same : (n : ℕ) → n < current → came n ≡ on_legs legs fed n
    same n l = by (legs n) refl
      where
        by : (b : Bool) → legs n ≡ b → came n ≡ on_legs legs fed n
        by true e = sym (whole n (past n l e))
        by false e = are.none n e ∙ sym (ap (λ b. if b then to_mark (fed n) else []) e)

    marked : AreMarked legs fed current
    marked n l e = front_has (came n) (fed n) (are.front n) (past n l e)

    through_front : IsPrefix (through came current) (joined legs fed current)
    through_front =
        subst (λ (x : List Item). IsPrefix (through came current) (x ++ on_legs legs fed current))
        (below_same came (on_legs legs fed) current same)
        (prefix_behind (below came current) (came current) (on_legs legs fed current)
        (here current))

    through_whole : has_handover (came current) ≡ true
        → through came current ≡ joined legs fed current
    through_whole h =
        ap (λ (x : List Item). x ++ came current)
        (below_same came (on_legs legs fed) current same)
        ∙ ap (λ (x : List Item). below (on_legs legs fed) current ++ x) (sym (whole current h))

    out_front : (out held : List (List ℕ)) → out ++ held ≡ pdus (through came current)
        → IsPrefix out (pdus (joined legs fed current))
    out_front out held all =
        prefix_trans out (pdus (through came current)) (pdus (joined legs fed current))
        (held, all)
        (prefix_pdus (through came current) (joined legs fed current) through_front)

-- ---- the machines

-- the numbers at which the law of an end that takes knows a leg are among those that it knows
pub is_of_fed : (s : Shelves) (legs known : ℕ → Bool) (fed came : Log) (out : List (List ℕ))
    → Shelved s known out came → ((n : ℕ) → legs n ≡ true → known n ≡ true)
    → AreFronts legs fed came → IsOfFed legs fed out
is_of_fed s legs known fed came out law knows are =
    let past : (n : ℕ) → n < s.current → legs n ≡ true → has_handover (came n) ≡ true =
    λ n l e. law.past n l (knows n e) in
    record {
      last = s.current;
      marked = marked legs fed came are law.channel s.current past;
      front = out_front legs fed came are law.channel s.current past out s.now.held
          law.holds.all;
    }

pub passes_on : (x : Passer) (first : ℕ) (fed came : Log) (put : List Item)
    → PasserLaw x first came put → AreFronts (from_first first) fed came
    → PassesOn (from_first first) fed put
passes_on x first fed came put law are = record {
  last = current;
  marked = marked legs fed came are law.shelved.channel current law.shelved.past;
  front = out_front legs fed came are law.shelved.channel current law.shelved.past (pdus put)
      x.shelves.now.held law.shelved.holds.all;
  channel = law.channel;
  handed = λ h.
      let done = law.handover_came (law.handover_put ∙ h) in
      let has : has_handover (came current) ≡ true = sym law.shelved.holds.finished ∙ done.0 in (
        front_has (came current) (fed current) (are.front current) has,
        all_out done.1
            ∙ ap pdus (through_whole legs fed came are law.shelved.channel current
            law.shelved.past has),
      );
  ended = λ h.
      let done = law.end_came (law.end_put ∙ h) in
      let all = through_front legs fed came are law.shelved.channel current law.shelved.past in
      let has : has_end (through came current) ≡ true =
      has_end-append (below came current) (came current)
      ∙ rw (← law.shelved.holds.was_ended, ← law.shelved.holds.ended) done.0 in (
        front_ends (through came current) (joined legs fed current) all has,
        subst (λ (y : List Item). IsPrefix (pdus y) (pdus put))
            (sym (end_more (through came current) all.0 has) ∙ ap to_end all.1)
            (subst (IsPrefix (pdus (to_end (through came current)))) (sym (all_out done.1))
            (end_front (through came current))),
      );
}
  where
    legs : ℕ → Bool
    legs = from_first first

    current : ℕ
    current = x.shelves.current

    all_out : x.shelves.now.held ≡ [] → pdus put ≡ pdus (through came current)
    all_out empty =
        sym (append-nil (pdus put)) ∙ ap (λ y. pdus put ++ y) (sym empty)
        ∙ law.shelved.holds.all

pub gives_out : (g : Giver) (put : Log) → GiverLaw g put → GivesOut g.given g.closing put
gives_out g put law = record {
  last = g.writing;
  marked = law.handed;
  later = law.later;
  front = (g.queue, sym law.all);
  channel = law.channel;
  ended = λ h.
      let over = law.over h in (
        over.0,
        sym (append-nil (pdus (through put g.writing)))
            ∙ ap (λ x. pdus (through put g.writing) ++ x) (sym over.1) ∙ sym law.all,
      );
}
