-- what was put on a leg is what came and what stands on it
use Rattle.law_order.proofs.Vocabulary.{◌≡◌, ℕ, Bool, true, false, List, ◌++◌, append_assoc, Some, None, refl, sym, ap, ◌∙◌, subst, AllByRecursion, Option, Item, seen}
use Rattle.law_moves.proofs.Vocabulary.{seen-append, Pipe, some_is, Message, spelled, ReadsBack, Begins, Reading, all_read_of, begin, messages_from, messages_read, read_of, reading_after}
use Rattle.law_moves.proofs.Lemmas.{seen_read}
use Rattle.law_world_ways.specs.OnPaths.OnWay.{is_lost, items_on_way, on_way}

-- ---- the law that this stands on

pub record AllRead : Type 0 where
  pub whole : (pipe : Option Pipe) (put : List Message) → Begins pipe put
      → AllByRecursion (ReadsBack pipe) put → messages_read pipe (spelled put) ≡ all_read_of put
  pub parts : (pipe : Option Pipe) (a b : List ℕ) → messages_read pipe (a ++ b)
      ≡ messages_read pipe a ++ messages_from pipe (reading_after pipe (begin pipe) a) b

-- ---- one direction of a leg

-- what came is all that is read in the bytes that were heard, behind which the reading stands
pub record StandsAt (pipe : Option Pipe) (came : List Message) (heard : List ℕ) (r : Reading)
    : Type 0 where
  pub all : came ≡ messages_read pipe heard
  pub after : reading_after pipe (begin pipe) heard ≡ r

-- both ends, and the bytes between them while none is cut off
pub record IsJoined (pipe : Option Pipe) (put came : List Message) (drawn heard flight : List ℕ)
    (cut : Bool) (read : Option Reading) (left : Option (List ℕ)) : Type 0 where
  pub spells : (begun : List ℕ) → left ≡ Some begun → spelled put ≡ drawn ++ begun
  pub stands : (r : Reading) → read ≡ Some r → StandsAt pipe came heard r
  pub carried : (r : Reading) → read ≡ Some r → cut ≡ false → drawn ≡ heard ++ flight

module _ (law : AllRead) (pipe : Option Pipe) (put : List Message) (begins : Begins pipe put)
    (back : AllByRecursion (ReadsBack pipe) put) where
  whole_leg : (came : List Message) (drawn heard flight begun : List ℕ) (r : Reading)
      → spelled put ≡ drawn ++ begun → StandsAt pipe came heard r → drawn ≡ heard ++ flight
      → all_read_of put ≡ came ++ messages_from pipe r (flight ++ begun)
  whole_leg came drawn heard flight begun r spells stands carried =
      let bytes : spelled put ≡ heard ++ (flight ++ begun) =
      spells ∙ ap (λ (l : List ℕ). l ++ begun) carried ∙ append_assoc heard flight begun in
      sym (law.whole pipe put begins back) ∙ ap (messages_read pipe) bytes
      ∙ law.parts pipe heard (flight ++ begun)
      ∙ ap (λ (ms : List Message). ms
      ++ messages_from pipe (reading_after pipe (begin pipe) heard) (flight ++ begun))
      (sym stands.all)
      ∙ ap (λ (s : Reading). came ++ messages_from pipe s (flight ++ begun)) stands.after

  -- by what stands on it
  by_way : (came : List Message) (drawn heard flight : List ℕ) (cut : Bool)
      (read : Option Reading) (left : Option (List ℕ)) (ms : List Message)
      → IsJoined pipe put came drawn heard flight cut read left
      → on_way pipe cut read flight left ≡ Some ms → all_read_of put ≡ came ++ ms
  by_way came drawn heard flight true read left ms j e = absurd (cc)
  by_way came drawn heard flight false None left ms j e = absurd (cc)
  by_way came drawn heard flight false (Some r) None ms j e = absurd (cc)
  by_way came drawn heard flight false (Some r) (Some begun) ms j e =
      subst (λ (o : List Message). all_read_of put ≡ came ++ o)
      (some_is (messages_from pipe r (flight ++ begun)) ms e)
      (whole_leg came drawn heard flight begun r (j.spells begun refl) (j.stands r refl)
      (j.carried r refl refl))

-- and what order sees of it
pub leg_arrives : (law : AllRead) (put_view came_view : Message → List Item)
    → ((message : Message) → seen came_view (read_of message) ≡ put_view message)
    → (pipe : Option Pipe) (put came : List Message) (drawn heard flight : List ℕ) (cut : Bool)
    (read : Option Reading) (left : Option (List ℕ)) → Begins pipe put
    → AllByRecursion (ReadsBack pipe) put
    → IsJoined pipe put came drawn heard flight cut read left
    → is_lost (on_way pipe cut read flight left) ≡ false
    → seen put_view put
    ≡ seen came_view came ++ items_on_way came_view (on_way pipe cut read flight left)
leg_arrives law put_view came_view same pipe put came drawn heard flight cut read left begins back
    joined kept =
    by (on_way pipe cut read flight left) refl kept
  where
    by : (way : Option (List Message)) → on_way pipe cut read flight left ≡ way
        → is_lost way ≡ false
        → seen put_view put ≡ seen came_view came ++ items_on_way came_view way
    by None e lost = absurd (cc)
    by (Some ms) e lost =
        sym (seen_read put_view came_view same put)
        ∙ ap (seen came_view)
        (by_way law pipe put begins back came drawn heard flight cut read left ms joined e)
        ∙ seen-append came_view came ms
