-- what a world counts, and what its answers tell of gives and takes
use Rattle.law_order.proofs.Vocabulary.{◌≡◌, ◌++◌, ℕ, List, [], ◌∷◌, Bool, true, false, refl, sym, ap, ◌∙◌, append_assoc, list_all, and_parts}
use Rattle.rh_record.specs.Events.Events.{Event, Gives, Takes}
use Rattle.law_moves.proofs.Vocabulary.{Side, Client, Server}
use Rattle.law_node_history.proofs.Vocabulary.{Refuses, given, taken, Counts, one_more, World}

-- a count after these PDUs more
abbrev pub count_more : List (List ℕ) → ℕ → ℕ
count_more [] count = count
count_more (pdu ∷ pdus) count = count_more pdus (one_more count)

more_append : (xs ys : List (List ℕ)) (count : ℕ)
    → count_more ys (count_more xs count) ≡ count_more (xs ++ ys) count
more_append [] ys count = refl
more_append (x ∷ xs) ys count = more_append xs ys (one_more count)

abbrev pub counts_of : ℕ → ℕ → Counts
counts_of given taken = record { given = given; taken = taken }

-- the counts of a direction after these were given and taken
abbrev pub counted : Counts → List (List ℕ) → List (List ℕ) → Counts
counted counts gave took = counts_of (count_more gave counts.given) (count_more took counts.taken)

counted_then : (counts : Counts) (gave took given_then taken_then : List (List ℕ))
    → counted (counted counts gave took) given_then taken_then
    ≡ counted counts (gave ++ given_then) (took ++ taken_then)
counted_then counts gave took given_then taken_then =
    ap (λ n. counts_of n (count_more taken_then (count_more took counts.taken)))
    (more_append gave given_then counts.given)
    ∙ ap (counts_of (count_more (gave ++ given_then) counts.given))
    (more_append took taken_then counts.taken)

module _ {K C S I O : Type 0} where
  -- from one world to the other these events tell of what both count; of what is offered, others
  -- are left
  pub record Passes (w v : World K C S I O) (pdus rest : List (List ℕ)) (told : List Event)
      : Type 0 where
    pub gave : Side → List (List ℕ)
    pub took : Side → List (List ℕ)
    pub gives : (end : Side) (later : List Event)
        → given end pdus (told ++ later) ≡ gave end ++ given end rest later
    pub takes : (end : Side) (later : List Event)
        → taken end (told ++ later) ≡ took end ++ taken end later
    pub up : v.up ≡ counted w.up (gave Client) (took Server)
    pub down : v.down ≡ counted w.down (gave Server) (took Client)

  pub passes_then : (w v u : World K C S I O) (pdus rest last : List (List ℕ))
      (xs ys : List Event) → Passes w v pdus rest xs → Passes v u rest last ys
      → Passes w u pdus last (xs ++ ys)
  passes_then w v u pdus rest last xs ys a b = record {
    gave = λ end. a.gave end ++ b.gave end;
    took = λ end. a.took end ++ b.took end;
    gives = λ end later.
        ap (given end pdus) (append_assoc xs ys later) ∙ a.gives end (ys ++ later)
        ∙ ap (λ more. a.gave end ++ more) (b.gives end later)
        ∙ sym (append_assoc (a.gave end) (b.gave end) (given end last later));
    takes = λ end later.
        ap (taken end) (append_assoc xs ys later) ∙ a.takes end (ys ++ later)
        ∙ ap (λ more. a.took end ++ more) (b.takes end later)
        ∙ sym (append_assoc (a.took end) (b.took end) (taken end later));
    up = b.up ∙ ap (λ counts. counted counts (b.gave Client) (b.took Server)) a.up
        ∙ counted_then w.up (a.gave Client) (a.took Server) (b.gave Client) (b.took Server);
    down = b.down ∙ ap (λ counts. counted counts (b.gave Server) (b.took Client)) a.down
        ∙ counted_then w.down (a.gave Server) (a.took Client) (b.gave Server) (b.took Client);
  }

-- ---- events that tell of no give and no take

abbrev pub passes_none : Event → Bool
passes_none (Gives at) = false
passes_none (Refuses at) = false
passes_none (Takes at pdu) = false
passes_none event = true

pub given_none : (end : Side) (events : List Event) → given end [] events ≡ []
given_none end [] = refl
given_none end (event ∷ events) = refl

one_given : (end : Side) (pdus : List (List ℕ)) (event : Event) (later : List Event)
    → passes_none event ≡ true → given end pdus (event ∷ later) ≡ given end pdus later
one_given end [] event later none = sym (given_none end later)
one_given end (pdu ∷ pdus) (Gives at) later none = absurd cc
one_given end (pdu ∷ pdus) (Refuses at) later none = absurd cc
one_given end (pdu ∷ pdus) (Takes at taken) later none = absurd cc
one_given end (pdu ∷ pdus) event later none = refl

one_taken : (end : Side) (event : Event) (later : List Event) → passes_none event ≡ true
    → taken end (event ∷ later) ≡ taken end later
one_taken end (Gives at) later none = absurd cc
one_taken end (Refuses at) later none = absurd cc
one_taken end (Takes at pdu) later none = absurd cc
one_taken end event later none = refl

all_given : (end : Side) (pdus : List (List ℕ)) (events later : List Event)
    → list_all passes_none events ≡ true
    → given end pdus (events ++ later) ≡ given end pdus later
all_given end pdus [] later none = refl
all_given end pdus (event ∷ events) later none =
    let parts = and_parts (passes_none event) (list_all passes_none events) none in
    one_given end pdus event (events ++ later) parts.0
    ∙ all_given end pdus events later parts.1

all_taken : (end : Side) (events later : List Event) → list_all passes_none events ≡ true
    → taken end (events ++ later) ≡ taken end later
all_taken end [] later none = refl
all_taken end (event ∷ events) later none =
    let parts = and_parts (passes_none event) (list_all passes_none events) none in
    one_taken end event (events ++ later) parts.0 ∙ all_taken end events later parts.1

module _ {K C S I O : Type 0} where
  -- the counts of both directions
  abbrev pub both : World K C S I O → Counts × Counts
  both w = (w.up, w.down)

  -- where the counts stay
  pub still : (w v : World K C S I O) (pdus : List (List ℕ)) (told : List Event)
      → both v ≡ both w → list_all passes_none told ≡ true → Passes w v pdus pdus told
  still w v pdus told same none = record {
    gave = λ end. [];
    took = λ end. [];
    gives = λ end later. all_given end pdus told later none;
    takes = λ end later. all_taken end told later none;
    up = ap (λ (counts : Counts × Counts). counts.0) same;
    down = ap (λ (counts : Counts × Counts). counts.1) same;
  }
