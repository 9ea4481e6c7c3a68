-- what an act at an end is to its passage
use Rattle.law_order.proofs.Vocabulary.{◌≡◌, ℕ, List, [], ◌∷◌, ◌++◌, Ok, Err, refl, sym, ap, ◌∙◌, subst, Result, append-nil}
use Rattle.rh_shell.specs.Ends as ends
use Rattle.law_moves.proofs.Vocabulary.{GiveRefused, Rules, Acts, accepted, first_in, EndMove, EndPassage, Gives, Takes, Closes, Recycles, AreAllowedAtEnd, MayEndMove, all_end_moved, end_moved, end_now_at, given_by, with_first, EndLeads}

module _ {S : Type 0} (rules : Rules S) (acts : Acts S) where
  pub all_end_moved_append : (p : EndPassage S) (ms ns : List EndMove)
      → all_end_moved rules acts p (ms ++ ns)
      ≡ all_end_moved rules acts (all_end_moved rules acts p ms) ns
  all_end_moved_append p [] ns = refl
  all_end_moved_append p (m ∷ ms) ns = all_end_moved_append (end_moved rules acts p m) ms ns

  pub all_end_allowed_append : (p : EndPassage S) (ms ns : List EndMove)
      → AreAllowedAtEnd rules acts p ms
      → AreAllowedAtEnd rules acts (all_end_moved rules acts p ms) ns
      → AreAllowedAtEnd rules acts p (ms ++ ns)
  all_end_allowed_append p [] ns a b = b
  all_end_allowed_append p (m ∷ ms) ns a b =
      (a.0, all_end_allowed_append (end_moved rules acts p m) ms ns a.1 b)

  -- one move more
  abbrev pub leads_one : (p q : EndPassage S) (move : EndMove) → EndLeads rules acts p q
      → MayEndMove rules q.passage.role move
      → EndLeads rules acts p (end_moved rules acts q move)
  leads_one p q move leads may = record {
    moves = leads.moves ++ move ∷ [];
    allowed =
        all_end_allowed_append p leads.moves (move ∷ []) leads.allowed (
          subst (λ (x : EndPassage S). MayEndMove rules x.passage.role move) (sym leads.reached)
              may,
          tt,
        );
    reached =
        all_end_moved_append p leads.moves (move ∷ [])
        ∙ ap (λ x. end_moved rules acts x move) leads.reached;
  }

-- the role goes on, nothing is logged of the legs, and these were given and taken
pub record Did {S : Type 0} (p q : EndPassage S) (next : S) (more out : List (List ℕ)) : Type 0
  where
    pub role : q.passage.role ≡ next
    pub came : q.passage.came ≡ p.passage.came
    pub put : q.passage.put ≡ p.passage.put
    pub given : q.given ≡ p.given ++ more
    pub taken : q.taken ≡ p.taken ++ out

module _ {S : Type 0} (rules : Rules S) (acts : Acts S) (p : EndPassage S) where
  did_role : (next : S) → Did p (end_now_at p next) next [] []
  did_role next = record {
    role = refl;
    came = refl;
    put = refl;
    given = sym (append-nil p.given);
    taken = sym (append-nil p.taken);
  }

  pub did_give : (pdu : List ℕ) (x : S × Result (Unit {0}) GiveRefused)
      → acts.give p.passage.role pdu ≡ x
      → Did p (end_moved rules acts p (Gives pdu)) x.0 (accepted pdu (ends.given_by x.1)) []
  did_give pdu x e =
      subst (λ y. Did p (given_by p pdu y) x.0 (accepted pdu (ends.given_by x.1)) []) (sym e)
      (by x)
    where
      by : (y : S × Result (Unit {0}) GiveRefused)
          → Did p (given_by p pdu y) y.0 (accepted pdu (ends.given_by y.1)) []
      by (role, Ok given) = record {
        role = refl;
        came = refl;
        put = refl;
        given = refl;
        taken = sym (append-nil p.taken);
      }
      by (role, Err refused) = did_role role

  pub did_take : (role : S) → p.passage.role ≡ role
      → Did p (end_moved rules acts p Takes) (acts.take role) []
      (first_in (acts.line role).current.pdus)
  did_take role e =
      subst (λ (r : S). Did p (end_moved rules acts p Takes) (acts.take r) []
      (first_in (acts.line r).current.pdus)) e (by (acts.line p.passage.role).current.pdus)
    where
      by : (pdus : List (List ℕ))
          → Did p (with_first (end_now_at p (acts.take p.passage.role)) pdus)
          (acts.take p.passage.role) [] (first_in pdus)
      by [] = did_role (acts.take p.passage.role)
      by (pdu ∷ pdus) = record {
        role = refl;
        came = refl;
        put = refl;
        given = sym (append-nil p.given);
        taken = refl;
      }

  pub did_close : (role : S) → p.passage.role ≡ role
      → Did p (end_moved rules acts p Closes) (acts.close role) [] []
  did_close role e =
      subst (λ (r : S). Did p (end_moved rules acts p Closes) (acts.close r) [] []) e
      (did_role (acts.close p.passage.role))

  pub did_recycle : (role : S) → p.passage.role ≡ role
      → Did p (end_moved rules acts p Recycles) (acts.recycle role).0 [] []
  did_recycle role e =
      subst (λ (r : S). Did p (end_moved rules acts p Recycles) (acts.recycle r).0 [] []) e
      (did_role (acts.recycle p.passage.role).0)
