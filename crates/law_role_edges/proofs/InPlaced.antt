-- where an in proxy's ci legs and channels stand, at each moment
use Rattle.law_order.proofs.Vocabulary.{◌≡◌, ℕ, suc, ◌==◌, true, List, [], ◌∷◌, Some, None, refl, sym, ◌∙◌, subst, arith, and_parts, eqb-true, Option}
use Rattle.law_moves.proofs.Vocabulary.{OnLeg, Move, Passage, moved}
use Rattle.law_moves.proofs.Lemmas.{moves_keep}
use Rattle.law_role_inproxy.proofs.Vocabulary.{ClientLeg, InProxyConfig, Joining, Told, Opener, Successor, Up, Joined, InProxy, is_first, is_joined, is_some, is_succeeded, has_opened, opener_of, awaits_packet, first, rules as proxy_rules}
use Rattle.law_role_inproxy.proofs.Refusing.Legs.{IsBehind, Starts, plain}
use Rattle.law_role_inproxy.proofs.Refusing.Steps.{awaits_none, is_opened}
use Rattle.law_role_inproxy.proofs.Refusing.Keeps as legs
use Rattle.law_role_inproxy.proofs.Refusing.Telling as telling

-- of the proxy whose first ci leg has this number
abbrev pub Stands : ℕ → InProxy → List OnLeg → List OnLeg → Type 0
Stands n s came put = legs.Fact n s came put × telling.Fact n s came put

pub stands_always : (n : ℕ) (p : Passage InProxy) (move : Move) → Stands n p.role p.came p.put
    → Stands n (moved proxy_rules p move).role (moved proxy_rules p move).came
    (moved proxy_rules p move).put
stands_always n p move h = (
  moves_keep proxy_rules (legs.Fact n) (legs.steps n) p (move ∷ []) h.0,
  moves_keep proxy_rules (telling.Fact n) (telling.steps n) p (move ∷ []) h.1,
)

pub stands_first : (config : InProxyConfig) → Stands config.number (first config) [] []
stands_first config = (legs.start config, telling.start config)

-- what is read of it
pub record Placed (n : ℕ) (s : InProxy) : Type 0 where
  pub number : s.config.number ≡ n
  -- the first packet of all comes on the first ci leg
  pub first : (k : ℕ) → is_first s k ≡ true → k ≡ n
  -- others on later ones
  pub later : (k : ℕ) → s.successor ≡ Up k → k ≡ n → ⊥
  -- and a next channel begins only behind it
  pub opened : (leg : ClientLeg) (stage : Joining) → s.successor ≡ Joined leg stage
      → has_opened s.opening ≡ true
  pub joined : s.line.has_next ≡ is_joined s.successor
  pub done : s.line.finished ≡ is_succeeded s.successor

behind_opened : (n : ℕ) (o : Option Opener) (current leg : ClientLeg)
    → Starts n o current (Joined leg Told) → is_some o ≡ true
behind_opened n None current leg b = absurd (let c = b.1 in cc)
behind_opened n (Some o) current leg b = refl

pub placed : (n : ℕ) (s : InProxy) (came put : List OnLeg) → Stands n s came put → Placed n s
placed n s came put h = record {
  number = h.0.number;
  first = λ k e.
      let parts = and_parts (awaits_packet s.opening) (s.current.number == k) e in
      let start = subst (λ (o : Option Opener). Starts n o s.current (plain s.successor))
      (awaits_none s.opening parts.0) h.0.start in
      let is : s.current.number ≡ k = eqb-true s.current.number k parts.1 in
      sym is ∙ start.0;
  later = λ k e is.
      let behind : k ≡ suc s.current.number =
      subst (λ (z : Successor). IsBehind s.current.number (plain z)) e h.0.behind in
      let from = h.0.from in omega (arith, behind, from, is);
  opened = λ leg stage e.
      is_opened s.opening
      ∙ behind_opened n (opener_of s.opening) s.current leg
      (subst (λ (z : Successor). Starts n (opener_of s.opening) s.current (plain z)) e h.0.start);
  joined = h.1.joined;
  done = h.1.done;
}
