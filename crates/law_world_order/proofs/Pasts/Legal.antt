-- what the nodes put may go on its pipe, as long as what came to them is fine
use Rattle.law_order.proofs.Vocabulary.{◌≡◌, ℕ, zero, suc, List, [], ◌∷◌, if◌then◌else◌, refl, sym, ap, subst, AllByRecursion}
use Rattle.rh_server.specs.Servers as server
use Rattle.law_moves.proofs.Vocabulary.{Leg, EndMove, EndPassage, Moves, Up, HeadCame, PduCame, PacketCame, Puts, IsDrawn, Marks, Pings, Gives, Takes, Closes, Recycles, OnLeg, Passage, of_leg, AreLegible, IsLegible}
use Rattle.law_role_inproxy.proofs.Vocabulary.{InProxy}
use Rattle.law_role_inproxy.specs.Legible as in_legible
use Rattle.law_role_client.proofs.Vocabulary.{ClientRole, HasCookieAtEnd, HaveCookies}
use Rattle.law_role_client.specs.Legible as client_legible
use Rattle.law_role_server.proofs.Vocabulary.{Server}
use Rattle.law_role_server.specs.Legible as server_legible
use Rattle.law_node_history.proofs.Lemmas.{same_itself}
use Rattle.law_node_history.proofs.Vocabulary.{came_up, History}
use Rattle.law_role_outproxy.proofs.Vocabulary.{OutProxy}
use Rattle.law_role_outproxy.specs.Legible as out_legible
use Rattle.law_node_streams.specs.Streams.{IsCookie, RisesWith}
use Rattle.law_world_order.proofs.Legal.{Legalities}
use Rattle.law_world_order.proofs.Vocabulary.{AllFine, AllLegible, Flows, Numbers, AreInRange}

-- cookies of 16 bytes
has_cookie : (move : EndMove) → RisesWith IsCookie move → HasCookieAtEnd move
has_cookie (Moves (Up leg cookie)) is = is
has_cookie (Moves (HeadCame leg text)) is = tt
has_cookie (Moves (PduCame leg count pdu)) is = tt
has_cookie (Moves (PacketCame leg count named)) is = tt
has_cookie (Moves (Puts leg)) is = tt
has_cookie (Moves (IsDrawn leg)) is = tt
has_cookie (Moves (Marks leg)) is = tt
has_cookie (Moves (Pings leg)) is = tt
has_cookie (Gives pdu) is = tt
has_cookie Takes is = tt
has_cookie Closes is = tt
has_cookie Recycles is = tt

pub have_cookies : (moves : List EndMove) → AllByRecursion (RisesWith IsCookie) moves
    → HaveCookies moves
have_cookies [] all = tt
have_cookies (move ∷ moves) all = (has_cookie move all.0, have_cookies moves all.1)

-- where nothing was put on any leg nothing was put
none_put : (log : List OnLeg) → ((leg : Leg) → of_leg leg log ≡ []) → log ≡ []
none_put [] none = refl
none_put (one ∷ log) none =
    absurd (let here = none one.0 in let same = same_itself one.0 in
    let bad : one.1 ∷ of_leg one.0 log ≡ [] =
    subst (λ b. (if b then one.1 ∷ of_leg one.0 log else of_leg one.0 log) ≡ []) same here in cc)

-- there is no in proxy 0, and none puts anything
in_legible_at : Legalities → (numbers : Numbers) (h : History) (f : Flows numbers h)
    → AreInRange numbers → h.ins 0 ≡ [] → AllFine numbers h f → (n : ℕ)
    → AreLegible in_legible.pipe_put (f.ins n).passage.put
in_legible_at law numbers h f ranges none fine zero =
    subst (AreLegible in_legible.pipe_put)
    (sym (none_put (f.ins 0).passage.put
    (λ leg. (f.ins 0).unput leg (ap (came_up leg) none))))
    (record { may_go = tt; read_back = tt })
in_legible_at law numbers h f ranges none fine (suc n) =
    subst (λ (p : Passage InProxy). IsLegible in_legible.pipe_put p) (f.ins (suc n)).leads.reached
    (law.ins (numbers.ins (suc n)) (f.ins (suc n)).leads.moves (ranges.ins n)
    (ranges.sizes (suc n))) (fine.ins (suc n))

pub all_legible : Legalities → (numbers : Numbers) (h : History) (f : Flows numbers h)
    → AreInRange numbers → HaveCookies f.client.leads.moves → h.ins 0 ≡ []
    → AllFine numbers h f → AllLegible numbers h f
all_legible law numbers h f ranges cookies none fine = record {
  client =
      subst (λ (p : EndPassage ClientRole). AreLegible client_legible.pipe_put p.passage.put)
      f.client.leads.reached
      (law.client numbers.client f.client.leads.moves ranges.client ranges.cookies cookies);
  server =
      subst (λ (p : EndPassage Server). IsLegible server_legible.pipe_put p.passage)
      f.server.leads.reached (law.server numbers.window f.server.leads.moves ranges.window)
      fine.server;
  ins = in_legible_at law numbers h f ranges none fine;
  outs = λ n.
      subst (λ (p : Passage OutProxy). IsLegible out_legible.pipe_put p) (f.outs n).leads.reached
      (law.outs (numbers.outs n) (f.outs n).leads.moves (ranges.outs n)) (fine.outs n);
}
