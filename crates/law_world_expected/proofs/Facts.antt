-- what the roles' laws ask of a moment, as it is in each world of roles
use Rattle.rh_text.specs.declared.ends.Side.TheVariants as side
use Rattle.law_order.proofs.Vocabulary.{◌≡◌, ℕ, Bool, List, [], ◌∷◌, refl, sym, ap, ◌∙◌, subst}
use Rattle.rh_record.specs.declared.answer.Who.TheVariants as who
use Rattle.rh_wires.specs.Legs as legs
use Rattle.rh_wires.specs.Legs as legs
use Rattle.law_moves.proofs.Vocabulary.{Dir, Side, Cookie, Leg, Message, Text, Pdu, Packet, Shell, Event, Hears, after_end_events, CameUpWith}
use Rattle.law_role_inproxy.proofs.Vocabulary.{InProxy}
use Rattle.law_role_client.proofs.Vocabulary.{ClientRole, ci}
use Rattle.law_role_server.proofs.Vocabulary.{Server, no_cookie}
use Rattle.law_node_history.proofs.Vocabulary.{reader_of, receiver, is_same, Makers, World, at, IsTraced, end_node, happened, IsFed, Leads, MayChange, changed, History, noted, nothing, told_to}
use Rattle.law_node_history.proofs.Lemmas.{happened_more, works_more}
use Rattle.law_role_outproxy.proofs.Vocabulary.{OutProxy}
use Rattle.law_role_client_rows.specs.InTurn.Pings as client_turns
use Rattle.law_peers_moments.specs.Expecting.{HasNoPingFirst}
use Rattle.law_peers_expects.specs.InProxyExpects.Expected.{AreReadWhereUp}
use Rattle.law_node_traces.proofs.Vocabulary.{ByChanges, AreOurs, deeds, rules, IsKnown, history_at}
use Rattle.law_world_order.proofs.Vocabulary.{IsFlowing, numbers_of, AreDistinct, moves_of}
use Rattle.law_world_windows.proofs.Moment.{noted_append}
use Rattle.law_world_windows.proofs.ClientHops.Honest.{up_before}
use Rattle.law_world_expected.specs.Roles.{HaveCookies, IsByLines, OfClient, Premise}

-- no Ping goes first, as is said in either crate
pub no_ping : (messages : List Message) → client_turns.HasNoPingFirst messages
    → HasNoPingFirst messages
no_ping [] first = tt
no_ping (Text bytes ∷ messages) first = no_ping messages first
no_ping (Pdu pdu ∷ messages) first = no_ping messages first
no_ping (Packet named ∷ messages) first = first

-- a ci leg that came up at an in proxy is one that it reads, since it stands at its end
pub are_read : {K : Type 0} (m : Makers K InProxy OutProxy)
    (w v : World K ClientRole Server InProxy OutProxy) (ours : AreOurs m w.company w.cast)
    (h : History) → IsTraced rules m deeds w.company v h
    → (f : IsFlowing (numbers_of ours) w v h) → AreReadWhereUp (reader_of v.readers) (moves_of f)
are_read m w v ours h traced f k n rose =
    let stands = traced.carried.stands (who.In k) (ci n)
    (sym ((f.flows.ins k).ups (ci n)) ∙ rose) in
    by stands.0 stands.1
  where
    by : (end : Side) → end_node v.readers (ci n) end ≡ who.In k → reader_of v.readers n ≡ k
    by side.Client e = absurd cc
    by side.Server e = cc

-- ---- cookies of the client's legs

-- it holds as well where no more legs came up, whatever their cookies
abbrev pub IsOfCookies : (List Event → Type 0) → Type 0
IsOfCookies Fits =
    (events later : List Event)
    → ((leg : Leg) (cookie : Cookie) → CameUpWith later leg cookie → CameUpWith events leg cookie)
    → Fits events → Fits later

pub distinct_of_cookies : IsOfCookies AreDistinct
distinct_of_cookies events later before distinct kind l n cookie here there =
    distinct kind l n cookie (before _ cookie here) (before _ cookie there)

pub have_of_cookies : IsOfCookies HaveCookies
have_of_cookies events later before have = record {
  distinct = distinct_of_cookies events later before have.distinct;
  some = λ n came. have.some n (before _ no_cookie came);
}

-- what is fed brings no leg up
pub came_before : {K : Type 0} (first : Shell ClientRole)
    (v : World K ClientRole Server InProxy OutProxy) (h : History) (leg : Leg) (dir : Dir)
    (count : ℕ)
    → v.company.client ≡ after_end_events rules.client deeds.client first h.client
    → (other : Leg) (cookie : Cookie)
    → CameUpWith (happened (noted v h (IsFed leg dir count)).client) other cookie
    → CameUpWith (happened h.client) other cookie
came_before first v h leg dir count run other cookie has =
    up_before other leg cookie (legs.take_out leg dir count v.legs).1 fed (happened h.client)
    (subst (λ (es : List Event). CameUpWith es other cookie)
    (happened_more rules.client deeds.client first v.company.client h.client
    (told_to v (IsFed leg dir count) who.Client) (IsFed leg dir count) side.Client run) has)
  where
    fed : Bool
    fed = is_same (at v leg (receiver dir)) who.Client

-- ---- premises that hold behind bytes as well

-- what is said of a world that changes led to is said of it behind bytes that are fed there
abbrev pub IsKept : {K : Type 0} → Makers K InProxy OutProxy
    → World K ClientRole Server InProxy OutProxy → Premise K → Type 0
IsKept {K} m w Fits =
    (v : World K ClientRole Server InProxy OutProxy) (by : ByChanges rules m deeds w v) (leg : Leg)
    (dir : Dir) (count : ℕ) → MayChange rules v (IsFed leg dir count)
    → Fits m w v (history_at m w v by.leads)
    → Fits m w (changed rules m deeds v (IsFed leg dir count))
    (noted v (history_at m w v by.leads) (IsFed leg dir count))

module _ {K : Type 0} (m : Makers K InProxy OutProxy)
    (w : World K ClientRole Server InProxy OutProxy)
    (known : (v : World K ClientRole Server InProxy OutProxy) (leads : Leads rules m deeds w v)
    → IsKnown m w v leads) where
  pub client_kept : (Fits : List Event → Type 0) → IsOfCookies Fits → IsKept m w (OfClient Fits)
  client_kept Fits cookies v by leg dir count may fits =
      let h = history_at m w v by.leads in
      cookies (happened h.client) (happened (noted v h (IsFed leg dir count)).client)
      (came_before w.company.client v h leg dir count (known v by.leads).traced.runs.client) fits

  -- feeding bytes is a change of lines
  pub lines_kept : IsKept m w IsByLines
  lines_kept v by leg dir count may was =
      let h = history_at m w v by.leads in
      let fed = IsFed leg dir count in
      record {
        lines = works_more rules m deeds w v fed was.lines may refl;
        same =
            noted_append rules m deeds w nothing was.lines.leads.changes fed
            ∙ ap (λ (u : World K ClientRole Server InProxy OutProxy).
            noted u (history_at m w v was.lines.leads) fed) was.lines.leads.reached
            ∙ ap (λ (x : History). noted v x fed) was.same;
        distinct = client_kept AreDistinct distinct_of_cookies v by leg dir count may was.distinct;
      }
