-- a client put IN_R1/A5 or END/A1 on each ci leg that came up and is in use no more
use Rattle.law_order.proofs.Vocabulary.{◌≡◌, ℕ, ◌≤◌, ◌<◌, ◌==◌, ◌&&◌, ◌||◌, List, [], ◌∷◌, Bool, true, false, true≢false, not, nat_lt, arith, refl, sym, ap, ◌∙◌, subst, list_any, nat_tests, Item, has_end}
use Rattle.rh_shell.specs.declared.answers.Phase.TheVariants as phase
use Rattle.rh_client.specs.declared.replacement.InStage.TheVariants as in_stage
use Rattle.rh_client.specs.declared.replacement.Waits.TheVariants as waits
use Rattle.law_moves.proofs.Vocabulary.{ClientConfig, Leg, Phase, is_ended, Acts, Rules, OnLeg, Up, EndMove, EndPassage, Moves, AreAllowedAtEnd, MayEndMove, all_end_moved, end_moved}
use Rattle.law_moves.proofs.Lemmas.{leg_is}
use Rattle.law_role_client.proofs.Vocabulary.{Replacement, NoneUnderWay, In, Out, Waits, ClientRole, is_up, acts, rules, has_out, is_in, ci, is_open, AreAllowedMoves, GivesInOrder, client_moved, client_started, put_log}
use Rattle.law_role_client.proofs.Counted.Allowed.{allowed_moves_keep}
use Rattle.law_role_client.proofs.Counted.Moves.{client_keeps}
use Rattle.law_role_client.proofs.Counted.Views.{EventsKeep, Free, InIsAnswered, InIsAsked, OutIsAnswered, OutIsAsked, OutIsFinished, OutIsSwitched, View, Way, has_in, is_in_first, is_in_way, is_out_way, waits_of, way_of}
use Rattle.law_role_client.proofs.Counted.Rows.{not_false as not_not}
use Rattle.law_role_client.proofs.Counted.Replacements as views
use Rattle.law_node_causes.proofs.ClientLegs.{first_is}
use Rattle.law_node_causes.specs.Numbers.{ClientIsNumbered}
use Rattle.law_node_causes.specs.Once.{ComesUpOnce, KeepsUp}
use Rattle.law_node_streams.specs.Streams.{is_end_up_on}
use Rattle.law_node_ends.specs.Passed.{IsDoneBehindEnd}
use Rattle.law_world_ways.proofs.ExactWays.ClientOver.{ended_there as ended, Passed as IsMarked, handed}

-- ---- where its work is done END/A1 was put on the writing channel, and no replacement goes on

record IsOver (end_put : Bool) (w : Way) (x : Waits) : Type 0 where
  put : end_put ≡ true
  way : w ≡ Free
  waiting : x ≡ waits.Nothing

abbrev Holds : View → List OnLeg → List OnLeg → Type 0
Holds v came put = v.phase ≡ phase.Ended → IsOver v.end_put v.way v.waiting

-- what a test tells apart is not the same
apart : {A B : Type 0} (test : A → Bool) (x y : A) → test x ≡ true → test y ≡ false → x ≡ y → B
apart test x y e f same = absurd (true≢false (sym e ∙ (ap test same ∙ f)))

over_stays : EventsKeep Holds
over_stays = record {
  comes = λ v came put one q h. h;
  goes = λ v came put one q greets h. h;
  fills = λ v line came put past h. h;
  takes = λ v came put h. h;
  acks = λ v which ack came put one q is h. h;
  opens = λ v came put one q k o h ended. absurd cc;
  closes = λ v came put o h ended. apart is_open v.phase phase.Ended o refl ended;
  ends = λ v came put is h ended. record { put = is; way = refl; waiting = refl };
  ups_writing = λ v cookie came put down h. h;
  ups_in = λ v cookie came put h. h;
  ups_current = λ v cookie came put down h. h;
  ups_out = λ v cookie came put h. h;
  begins_writing = λ v came put one q greets of is k at h. h;
  begins_current = λ v came put one q greets of is k at h. h;
  wants_in = λ v came put o l h ended. apart is_open v.phase phase.Ended o refl ended;
  wants_out = λ v came put one q k o w l h ended.
      apart is_open v.phase phase.Ended o refl ended;
  begins_in = λ v came put w l h ended.
      apart is_in_first v.waiting waits.Nothing w refl (h ended).waiting;
  begins_out = λ v came put w l h ended.
      apart has_out v.waiting waits.Nothing w refl (h ended).waiting;
  drops_in = λ v came put w l h ended.
      apart has_in v.waiting waits.Nothing w refl (h ended).waiting;
  drops_out = λ v came put w l h ended.
      apart has_out v.waiting waits.Nothing w refl (h ended).waiting;
  asks_in = λ v came put one q is k on at h. h;
  answers_in = λ v came put one q k asked h ended.
      apart is_in_way InIsAsked Free refl refl (h ended).way;
  hands_over = λ v w e came put one q is k on h ended.
      apart is_in_way InIsAnswered Free refl refl (h ended).way;
  asks_out = λ v window came put one q is k on at h. h;
  answers_out = λ v came put one q k on asked h ended.
      apart is_out_way OutIsAsked Free refl refl (h ended).way;
  switches = λ v came put one q is k h ended.
      apart is_out_way OutIsAnswered Free refl refl (h ended).way;
  finishes = λ v came put one q k on h ended.
      apart is_out_way OutIsSwitched Free refl refl (h ended).way;
  succeeds = λ v came put h ended.
      apart is_out_way OutIsFinished Free refl refl (h ended).way;
}

over_behind : (config : ClientConfig) (moves : List EndMove) → AreAllowedMoves config moves
    → (let s = (client_moved config moves).passage.role in
    s.phase ≡ phase.Ended
    → IsOver s.writing.is_end_put (way_of s.replacement) (waits_of s.replacement))
over_behind config moves allowed =
    allowed_moves_keep rules acts (views.Holds Holds over_stays) (client_keeps Holds over_stays)
    (client_started config) moves allowed (λ ended. absurd cc)

none_in : (r : Replacement) → way_of r ≡ Free → is_in r ≡ false
none_in NoneUnderWay e = refl
none_in (In in_stage.Asked w) e = apart is_in_way InIsAsked Free refl refl e
none_in (In in_stage.Answered w) e = apart is_in_way InIsAnswered Free refl refl e
none_in (Out stage w) e = refl

-- ---- a leg that came up by moves was up from then on

module _ {S : Type 0} (rules : Rules S) (acts : Acts S) (Keeps : S → Type 0)
    (calls : KeepsUp rules acts Keeps) where
  kept : (p : EndPassage S) (moves : List EndMove) → Keeps p.passage.role
      → AreAllowedAtEnd rules acts p moves
      → Keeps (all_end_moved rules acts p moves).passage.role
  kept p [] keeps may = keeps
  kept p (move ∷ moves) keeps may =
      kept (end_moved rules acts p move) moves (calls.kept p move keeps may.0) may.1

  module _ (once : ComesUpOnce rules Keeps) (leg : Leg) where
    stays : (p : EndPassage S) (moves : List EndMove) → Keeps p.passage.role
        → AreAllowedAtEnd rules acts p moves → rules.was_up p.passage.role leg ≡ true
        → rules.was_up (all_end_moved rules acts p moves).passage.role leg ≡ true
    stays p [] keeps may was = was
    stays p (move ∷ moves) keeps may was =
        stays (end_moved rules acts p move) moves (calls.kept p move keeps may.0) may.1
        (calls.stays p move leg keeps may.0 was)

    rises : (p : EndPassage S) (move : EndMove) → Keeps p.passage.role
        → MayEndMove rules p.passage.role move → is_end_up_on leg move ≡ true
        → rules.was_up (end_moved rules acts p move).passage.role leg ≡ true
    rises p (Moves (Up other cookie)) keeps may up =
        subst (λ (l : Leg). rules.was_up (rules.up p.passage.role other cookie) l ≡ true)
        (leg_is other leg up) (once.up p.passage.role other cookie keeps may)
    rises p move keeps may up = absurd cc

    was_up : (p : EndPassage S) (moves : List EndMove) → Keeps p.passage.role
        → AreAllowedAtEnd rules acts p moves → list_any (is_end_up_on leg) moves ≡ true
        → rules.was_up (all_end_moved rules acts p moves).passage.role leg ≡ true
    was_up p [] keeps may came = absurd cc
    was_up p (move ∷ moves) keeps may came =
        let q = end_moved rules acts p move in
        let next = calls.kept p move keeps may.0 in
        by (is_end_up_on leg move) refl came (was_up q moves next may.1)
      where
        by : (b : Bool) → is_end_up_on leg move ≡ b
            → (b || list_any (is_end_up_on leg) moves) ≡ true
            → (list_any (is_end_up_on leg) moves ≡ true
            → rules.was_up (all_end_moved rules acts p (move ∷ moves)).passage.role leg ≡ true)
            → rules.was_up (all_end_moved rules acts p (move ∷ moves)).passage.role leg ≡ true
        by true up came_up later =
            stays (end_moved rules acts p move) moves (calls.kept p move keeps may.0) may.1
            (rises p move keeps may.0 up)
        by false up came_up later = later came_up

-- ---- the numbers of legs that were up

-- as was_in_up says it
abbrev was : (n now next : ℕ) → Bool → Bool → Bool → Bool
was n now next now_up next_up under_way =
    (nat_lt 0 n && nat_lt n now) || ((n == now && now_up) || ((under_way && n == next) && next_up))

-- such a leg has a number; and where no replacement is under way, no higher one than its channel
has_number : (n now next : ℕ) (u v w : Bool) → 0 < now → (w ≡ true → now < next)
    → was n now next u v w ≡ true → 0 < n
has_number n now next u v true first behind h =
    let higher = behind refl in
    grind (arith, nat_tests, first, higher, h)
has_number n now next u v false first behind h = grind (arith, nat_tests, first, h)

within : (n now next : ℕ) (u v w : Bool) → w ≡ false → was n now next u v w ≡ true → n ≤ now
within n now next u v w e h = grind (arith, nat_tests, e, h)

-- ---- the law

module _ (once : ComesUpOnce rules ClientIsNumbered) (calls : KeepsUp rules acts ClientIsNumbered)
    (config : ClientConfig) (moves : List EndMove) (allowed : AreAllowedMoves config moves) where
  abbrev s : ClientRole
  s = (client_moved config moves).passage.role

  abbrev log : ℕ → List Item
  log = put_log (client_moved config moves).passage.put

  numbered : ClientIsNumbered s
  numbered =
      kept rules acts ClientIsNumbered calls (client_started config) moves (first_is config)
      allowed

  module _ (law : GivesInOrder (client_moved config moves)) (n : ℕ)
      (came : list_any (is_end_up_on (ci n)) moves ≡ true) where
    was_there : rules.was_up s (ci n) ≡ true
    was_there =
        was_up rules acts ClientIsNumbered calls once (ci n) (client_started config) moves
        (first_is config) allowed came

    below_writing : nat_lt n s.writing.number ≡ true → IsMarked (log n)
    below_writing below =
        handed (log n)
        (law.handed n
        (has_number n s.writing.number s.in_successor.number (is_up s.writing.opening)
        (is_up s.in_successor.opening) (is_in s.replacement) numbered.ins.first
        numbered.ins.behind was_there)
        (grind (arith, nat_tests, below)))

    at_end : s.phase ≡ phase.Ended → IsMarked (log n)
    at_end is = by (nat_lt n s.writing.number) refl
      where
        done : IsOver s.writing.is_end_put (way_of s.replacement) (waits_of s.replacement)
        done = over_behind config moves allowed is

        most : n ≤ s.writing.number
        most =
            within n s.writing.number s.in_successor.number (is_up s.writing.opening)
            (is_up s.in_successor.opening) (is_in s.replacement) (none_in s.replacement done.way)
            was_there

        by : (t : Bool) → nat_lt n s.writing.number ≡ t → IsMarked (log n)
        by true below = below_writing below
        by false above =
            let here : n ≡ s.writing.number = grind (arith, nat_tests, above, most) in
            ended (log n)
            (ap (λ (k : ℕ). has_end (log k)) here ∙ (sym law.end_put ∙ done.put))

    pub marks : IsDoneBehindEnd rules s (ci n) (log n)
    marks unused = by s.phase refl unused
      where
        by : (f : Phase) → s.phase ≡ f
            → (not (is_ended f) && not (nat_lt n s.writing.number)) ≡ false → IsMarked (log n)
        by phase.Opening e f = below_writing (not_not (nat_lt n s.writing.number) f)
        by phase.Open e f = below_writing (not_not (nat_lt n s.writing.number) f)
        by phase.Ended e f = at_end e
