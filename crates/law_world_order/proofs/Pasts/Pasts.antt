-- along changes each front of the moves of an end was all of them at a moment before
use Rattle.rh_text.specs.declared.ends.Side.TheVariants as side
use Rattle.law_order.proofs.Vocabulary.{◌≡◌, ◌≢◌, ◌⊎◌, inl, inr, ℕ, suc, ◌-◌, List, [], ◌∷◌, Bool, true, arith, refl, sym, ap, ◌∙◌, subst, Option, cases_eq, IsPrefix}
use Rattle.rh_inproxy.specs.Machine as in_proxy
use Rattle.rh_inproxy.specs.State as in_state
use Rattle.rh_outproxy.specs.Machine as out_proxy
use Rattle.rh_client.specs.Client as client
use Rattle.rh_client.specs.State as client_state
use Rattle.rh_server.specs.Servers as server
use Rattle.law_moves.proofs.Vocabulary.{Dir, Side, prefix_self, Pipe, Leg, EndMove, EndPassage, OnLeg, Passage, all_end_moved, all_moved, end_started, started, AreLegible}
use Rattle.law_role_inproxy.proofs.Vocabulary.{InProxy}
use Rattle.law_role_inproxy.specs.Legible as in_legible
use Rattle.law_role_client.proofs.Vocabulary.{ClientRole}
use Rattle.law_role_client.specs.Legible as client_legible
use Rattle.law_role_server.proofs.Vocabulary.{Server}
use Rattle.law_role_server.specs.Legible as server_legible
use Rattle.law_node_history.proofs.Vocabulary.{reader_of, receiver, sender, Place, Makers, World, IsTraced, LegsComeUpOnce, drawn_by, end_node, events_of, heard_on, AreAllowed, Change, MayChange, all_changed, changed, History, IsRun, all_noted, noted, nothing}
use Rattle.law_node_history.proofs.Lemmas.{cast_stays, change_is_traced}
use Rattle.law_role_outproxy.proofs.Vocabulary.{OutProxy, new_proxy}
use Rattle.law_role_outproxy.specs.Legible as out_legible
use Rattle.law_node_streams.proofs.Streams.Ways.{each_of}
use Rattle.law_peers_moments.specs.Moments.{AreJoined, HaveCookies, IsJoined, IsPast, Moves, ReadInTurn, passages}
use Rattle.law_node_traces.proofs.Vocabulary.{AreRead, is_made, AreOurs, deeds, rules}
use Rattle.law_world_order.proofs.Heard.{heard_fine}
use Rattle.law_world_order.proofs.Starting.{Beginning, starts}
use Rattle.law_world_order.proofs.Legs.{Reads}
use Rattle.law_world_order.proofs.Joined.{AreAlone}
use Rattle.law_world_order.proofs.Pasts.Family.{AllGrow, AllRise, Grown, grown_last, last}
use Rattle.law_world_order.proofs.Pasts.Joins.{HeardOf, are_joined}
use Rattle.law_world_order.proofs.Pasts.Legal.{all_legible}
use Rattle.law_world_order.proofs.Pasts.Lists.{cookies_front, one_front}
use Rattle.law_world_order.proofs.Pasts.Made.{made, moves_with}
use Rattle.law_world_order.proofs.Moments.{OurWorld}
use Rattle.law_world_order.proofs.Legal.{Legalities}
use Rattle.law_world_order.proofs.Vocabulary.{AllLegible, Flows, IsFlowing, numbers_of, AreInRange, numbers}

-- ---- the readers of IN channels

pub read_in_turn : (readers : List ℕ) (is_there : ℕ → Bool) → AreRead readers is_there
    → ReadInTurn (reader_of readers)
read_in_turn readers is_there read = record { none = read.none; next = next }
  where
    before : (n : ℕ) → suc n - 1 ≡ n
    before n = omega arith

    by : (n : ℕ) → (reader_of readers (suc n) ≡ 0) ⊎ (reader_of readers (suc n) ≢ 0)
        → (reader_of readers (suc n) ≡ 0) ⊎ ((reader_of readers (suc n) ≡ suc n)
        ⊎ (reader_of readers (suc n) ≡ reader_of readers n))
    by n (inl none) = inl none
    by n (inr some) = inr (one ((read.each (suc n) some).either))
      where
        one : ((reader_of readers (suc n) ≡ suc n) × (is_there (suc n) ≡ true))
            ⊎ (reader_of readers (suc n) ≡ reader_of readers (suc n - 1))
            → (reader_of readers (suc n) ≡ suc n)
            ⊎ (reader_of readers (suc n) ≡ reader_of readers n)
        one (inl own) = inl own.0
        one (inr other) = inr (other ∙ ap (reader_of readers) (before n))

    next : (n : ℕ) → (reader_of readers (suc n) ≡ 0) ⊎ ((reader_of readers (suc n) ≡ suc n)
        ⊎ (reader_of readers (suc n) ≡ reader_of readers n))
    next n = by n (cases_eq (reader_of readers (suc n)) 0)

-- ---- before anything was put

nothing_legible : (pipe : Leg → Option Pipe) (log : List OnLeg) → log ≡ [] → AreLegible pipe log
nothing_legible pipe log none =
    subst (AreLegible pipe) (sym none) (record { may_go = tt; read_back = tt })

-- ---- the laws that this stands on

module _ {K : Type 0} (m : Makers K InProxy OutProxy) (w : OurWorld K)
    (ours : AreOurs m w.company w.cast) where
  pub record Laws : Type 0 where
    pub rise : AllRise
    pub reads : Reads
    pub begins : Beginning
    pub legal : Legalities
    pub ranges : AreInRange (numbers_of ours)
    pub before : (u : OurWorld K) (h : History) → IsTraced rules m deeds w.company u h
        → LegsComeUpOnce rules m deeds w.company u.cast → (change : Change)
        → MayChange rules u change → (leg : Leg) (dir : Dir)
        → IsPrefix (heard_on leg (events_of (noted u h change)
        (end_node (changed rules m deeds u change).readers leg (receiver dir))))
        (drawn_by rules m deeds w.company u.cast h (end_node u.readers leg (sender dir)) leg)
    pub drawn : (u : OurWorld K) (h : History) → IsTraced rules m deeds w.company u h
        → (leg : Leg) (dir : Dir)
        → IsPrefix (heard_on leg (events_of h (end_node u.readers leg (receiver dir))))
        (drawn_by rules m deeds w.company u.cast h (end_node u.readers leg (sender dir)) leg)
    pub alone : AreAlone m w
    pub numbered : (u : OurWorld K) (h : History) → IsTraced rules m deeds w.company u h
        → LegsComeUpOnce rules m deeds w.company u.cast
        → AreRead u.readers (is_made u.company) → (change : Change) → MayChange rules u change
        → (let v = changed rules m deeds u change in AreRead v.readers (is_made v.company))

  module _ (law : Laws) where
    abbrev pub after : OurWorld K → Change → OurWorld K
    after u change = changed rules m deeds u change

    -- ---- what is known on the way

    pub record Here (u : OurWorld K) (h : History) (f : Flows (numbers_of ours) h) : Type 0 where
      pub traced : IsTraced rules m deeds w.company u h
      pub once : LegsComeUpOnce rules m deeds w.company u.cast
      pub cast : u.cast ≡ w.cast
      pub legible : AllLegible (numbers_of ours) h f
      pub read : AreRead u.readers (is_made u.company)

    abbrev pub flowing_at : (u : OurWorld K) (h : History) (f : Flows (numbers_of ours) h)
        → Here u h f → IsFlowing (numbers_of ours) w u h
    flowing_at u h f is = record {
      cast = is.cast;
      flows = f;
      begun = starts law.rise.streaming law.begins m w.company w.cast ours h f;
      legible = is.legible;
    }

    -- there is no in proxy 0
    none_there : (u : OurWorld K) (h : History) → IsTraced rules m deeds w.company u h
        → h.ins 0 ≡ []
    none_there u h traced =
        subst (λ (place : Place InProxy).
        IsRun in_proxy.rules (m.in_proxy u.cast 0) (h.ins 0) place) traced.zero (traced.runs.ins 0)

    module _ (u : OurWorld K) (h : History) (f : Flows (numbers_of ours) h) (is : Here u h f)
      where
        abbrev pub flowing : IsFlowing (numbers_of ours) w u h
        flowing = flowing_at u h f is

        pub drew_here : (leg : Leg) (dir : Dir)
            → IsPrefix (heard_on leg (events_of h (end_node u.readers leg (receiver dir))))
            (drawn_by rules m deeds w.company w.cast h (end_node u.readers leg (sender dir)) leg)
        drew_here leg dir =
            subst (λ (c : K).
            IsPrefix (heard_on leg (events_of h (end_node u.readers leg (receiver dir))))
            (drawn_by rules m deeds w.company c h (end_node u.readers leg (sender dir)) leg))
            is.cast
            (law.drawn u h is.traced leg dir)

        -- all that was heard by now
        abbrev pub heard_now : HeardOf law.reads m w u ours h flowing h
        heard_now = record {
          readers = u.readers;
          drew = drew_here;
          alone = law.alone u h is.traced;
        }

        module _ (change : Change) (may : MayChange rules u change) where
          abbrev pub v : OurWorld K
          v = after u change

          abbrev pub g : History
          g = noted u h change

          pub traced_next : IsTraced rules m deeds w.company v g
          traced_next = change_is_traced rules m deeds w.company u h is.traced is.once change may

          pub drew_before : (leg : Leg) (dir : Dir)
              → IsPrefix (heard_on leg (events_of g (end_node v.readers leg (receiver dir))))
              (drawn_by rules m deeds w.company w.cast h (end_node u.readers leg (sender dir)) leg)
          drew_before leg dir =
              subst (λ (c : K).
              IsPrefix (heard_on leg (events_of g (end_node v.readers leg (receiver dir))))
              (drawn_by rules m deeds w.company c h (end_node u.readers leg (sender dir)) leg))
              is.cast (law.before u h is.traced is.once change may leg dir)

          -- and by the next change
          abbrev pub heard_next : HeardOf law.reads m w u ours h flowing g
          heard_next = record {
            readers = v.readers;
            drew = drew_before;
            alone = law.alone v g traced_next;
          }

          next_is : (next : Flows (numbers_of ours) g)
              → client_legible.HaveCookies next.client.leads.moves → Here v g next
          next_is next cookies = record {
            traced = traced_next;
            once = subst (λ (c : K). LegsComeUpOnce rules m deeds w.company c)
                (sym (cast_stays rules m deeds u change)) is.once;
            cast = cast_stays rules m deeds u change ∙ is.cast;
            legible =
                all_legible law.legal (numbers_of ours) g next law.ranges cookies
                (none_there v g traced_next)
                (heard_fine law.reads m w.company w.cast ours h g u.readers v.readers drew_before
                (law.alone v g traced_next) f flowing.begun is.legible next);
            read = law.numbered u h is.traced is.once is.read change may;
          }

        -- ---- a moment on the way, at which an end may have gone on

        module _ (k j : History) (at_client : HeardOf law.reads m w u ours h flowing k)
            (at_server : HeardOf law.reads m w u ours h flowing j)
            (of_client of_server : List EndMove) (later : Flows (numbers_of ours) k)
            (later_server : Flows (numbers_of ours) j)
            (on_client : IsPrefix f.client.leads.moves of_client)
            (within_client : IsPrefix of_client later.client.leads.moves)
            (on_server : IsPrefix f.server.leads.moves of_server)
            (within_server : IsPrefix of_server later_server.server.leads.moves) (e : History)
            (end : Flows (numbers_of ours) e) (grown : Grown (numbers_of ours) h e f end)
            (in_client : IsPrefix of_client end.client.leads.moves)
            (in_server : IsPrefix of_server end.server.leads.moves) where
          abbrev then_moves : Moves
          then_moves = moves_with ours h f of_client of_server

          pub legs_then : AreJoined (reader_of u.readers) (passages (numbers ours) then_moves)
          legs_then =
              are_joined law.reads m w u ours h flowing drew_here (law.alone u h is.traced) k j
              at_client at_server of_client of_server later later_server on_client within_client
              on_server within_server

          module _ (cookies : HaveCookies end.client.leads.moves) where
            pub joined_then : IsJoined (numbers ours) (reader_of u.readers) then_moves
            joined_then = record {
              made = made ours h e f end of_client of_server in_client in_server;
              joined = legs_then;
              read = read_in_turn u.readers (is_made u.company) is.read;
              cookies = cookies_front of_client end.client.leads.moves in_client cookies;
            }

            abbrev pub past : IsPast (numbers ours)
                (moves_with ours e end end.client.leads.moves end.server.leads.moves)
            past = record {
              moves_then = then_moves;
              reader_then = reader_of u.readers;
              then_joined = joined_then;
              client = in_client;
              server = in_server;
              ins = grown.ins;
              outs = grown.outs;
            }

    -- ---- along changes

    abbrev pub Whole : (e : History) → Flows (numbers_of ours) e → Moves
    Whole e end = moves_with ours e end end.client.leads.moves end.server.leads.moves

    -- the moves of an end, by its stream and at a moment
    abbrev pub end_moves : Side → (h : History) → Flows (numbers_of ours) h → List EndMove
    end_moves side.Client h f = f.client.leads.moves
    end_moves side.Server h f = f.server.leads.moves

    abbrev pub moves_at : Side → Moves → List EndMove
    moves_at side.Client moves = moves.client
    moves_at side.Server moves = moves.server

    end_grown : (which : Side) (h g : History) (f : Flows (numbers_of ours) h)
        (next : Flows (numbers_of ours) g) → Grown (numbers_of ours) h g f next
        → IsPrefix (end_moves which h f) (end_moves which g next)
    end_grown side.Client h g f next grown = grown.client
    end_grown side.Server h g f next grown = grown.server

    -- these were all moves of the end at a moment before
    abbrev pub EndPast : Side → (e : History) → Flows (numbers_of ours) e → List EndMove → Type 0
    EndPast which e end front =
        (past : IsPast (numbers ours) (Whole e end)) × (moves_at which past.moves_then ≡ front)

    -- at one on the way, where the end had gone on
    past_by : (which : Side) (u : OurWorld K) (h : History) (f : Flows (numbers_of ours) h)
        (is : Here u h f) (k : History)
        (heard : HeardOf law.reads m w u ours h (flowing_at u h f is) k)
        (later : Flows (numbers_of ours) k) (front : List EndMove)
        → IsPrefix (end_moves which h f) front → IsPrefix front (end_moves which k later)
        → (e : History) (end : Flows (numbers_of ours) e) → Grown (numbers_of ours) h e f end
        → IsPrefix front (end_moves which e end) → HaveCookies end.client.leads.moves
        → EndPast which e end front
    past_by side.Client u h f is k heard later front on within e end grown inside cookies =
        let served = f.server.leads.moves in (
          past u h f is k h heard (heard_now u h f is) front served later f on within
              (prefix_self served) (prefix_self served) e end grown inside grown.server cookies,
          refl,
        )
    past_by side.Server u h f is k heard later front on within e end grown inside cookies =
        let asked = f.client.leads.moves in (
          past u h f is h k (heard_now u h f is) heard asked front f later (prefix_self asked)
              (prefix_self asked) on within e end grown grown.client inside cookies,
          refl,
        )

    -- the cookies of the client's legs have 16 bytes
    abbrev pub AreSized : (e : History) → Flows (numbers_of ours) e → Type 0
    AreSized e end = client_legible.HaveCookies end.client.leads.moves

    sized_front : (front all : List EndMove) → IsPrefix front all
        → client_legible.HaveCookies all → client_legible.HaveCookies front
    sized_front front all is sized =
        (each_of client_legible.HasCookieAtEnd front is.0
        (subst client_legible.HaveCookies (sym is.1) sized)).0

    abbrev pub Growth : (u : OurWorld K) (h : History) → List Change → Flows (numbers_of ours) h
        → Type 0
    Growth u h changes f = AllGrow m (numbers_of ours) u h changes f

    abbrev pub end_of : (u : OurWorld K) (h : History) (changes : List Change)
        (f : Flows (numbers_of ours) h) → Growth u h changes f
        → Flows (numbers_of ours) (all_noted rules m deeds u h changes)
    end_of u h changes f all = last m (numbers_of ours) u h changes f all

    grows_to : (u : OurWorld K) (h : History) (changes : List Change)
        (f : Flows (numbers_of ours) h) (all : Growth u h changes f)
        → Grown (numbers_of ours) h (all_noted rules m deeds u h changes) f
        (end_of u h changes f all)
    grows_to u h changes f all = grown_last m (numbers_of ours) u h changes f all

    module _ (u : OurWorld K) (h : History) (change : Change) (changes : List Change)
        (f : Flows (numbers_of ours) h) (all : Growth u h (change ∷ changes) f) (is : Here u h f)
        (may : MayChange rules u change)
        (sized : AreSized (all_noted rules m deeds u h (change ∷ changes))
        (end_of u h (change ∷ changes) f all)) where
      then_is : Here (after u change) (noted u h change) all.0
      then_is =
          next_is u h f is change may all.0
          (sized_front all.0.client.leads.moves
          (end_of u h (change ∷ changes) f all).client.leads.moves
          (grows_to (after u change) (noted u h change) changes all.0 all.2).client sized)

    pub last_is : (u : OurWorld K) (h : History) (changes : List Change)
        (f : Flows (numbers_of ours) h) (all : Growth u h changes f) → Here u h f
        → AreAllowed rules m deeds u changes
        → AreSized (all_noted rules m deeds u h changes) (end_of u h changes f all)
        → Here (all_changed rules m deeds u changes) (all_noted rules m deeds u h changes)
        (end_of u h changes f all)
    last_is u h [] f all is allowed sized = is
    last_is u h (change ∷ changes) f all is allowed sized =
        last_is (after u change) (noted u h change) changes all.0 all.2
        (then_is u h change changes f all is allowed.0 sized) allowed.1 sized

    pub pasts : (which : Side) (u : OurWorld K) (h : History) (changes : List Change)
        (f : Flows (numbers_of ours) h) (all : Growth u h changes f) → Here u h f
        → AreAllowed rules m deeds u changes
        → AreSized (all_noted rules m deeds u h changes) (end_of u h changes f all)
        → HaveCookies (end_of u h changes f all).client.leads.moves → (front : List EndMove)
        → IsPrefix (end_moves which h f) front
        → IsPrefix front (end_moves which (all_noted rules m deeds u h changes)
        (end_of u h changes f all))
        → EndPast which (all_noted rules m deeds u h changes) (end_of u h changes f all) front
    pasts which u h [] f all is allowed sized cookies front on within =
        past_by which u h f is h (heard_now u h f is) f front on within h f
        (grows_to u h [] f all) within cookies
    pasts which u h (change ∷ changes) f all is allowed sized cookies front on within =
        by (one_front front (end_moves which (noted u h change) all.0) (end_moves which
        (all_noted rules m deeds u h (change ∷ changes)) (end_of u h (change ∷ changes) f all))
        within (end_grown which (noted u h change)
        (all_noted rules m deeds u h (change ∷ changes)) all.0
        (end_of u h (change ∷ changes) f all)
        (grows_to (after u change) (noted u h change) changes all.0 all.2)))
        (λ behind.
        pasts which (after u change) (noted u h change) changes all.0 all.2
        (then_is u h change changes f all is allowed.0 sized) allowed.1 sized cookies front behind
        within)
      where
        by : IsPrefix front (end_moves which (noted u h change) all.0)
            ⊎ IsPrefix (end_moves which (noted u h change) all.0) front
            → (IsPrefix (end_moves which (noted u h change) all.0) front
            → EndPast which (all_noted rules m deeds u h (change ∷ changes))
            (end_of u h (change ∷ changes) f all) front)
            → EndPast which (all_noted rules m deeds u h (change ∷ changes))
            (end_of u h (change ∷ changes) f all) front
        by (inl before) later =
            past_by which u h f is (noted u h change) (heard_next u h f is change allowed.0) all.0
            front on before (all_noted rules m deeds u h (change ∷ changes))
            (end_of u h (change ∷ changes) f all) (grows_to u h (change ∷ changes) f all) within
            cookies
        by (inr behind) later = later behind

    -- ---- before any change

    module _ (once : LegsComeUpOnce rules m deeds w.company w.cast)
        (traced : IsTraced rules m deeds w.company w nothing)
        (read : AreRead w.readers (is_made w.company)) (f : Flows (numbers_of ours) nothing)
        (no_client : f.client.leads.moves ≡ []) (no_server : f.server.leads.moves ≡ [])
        (no_in : (n : ℕ) → (f.ins n).leads.moves ≡ [])
        (no_out : (n : ℕ) → (f.outs n).leads.moves ≡ []) where
      pub first_is : Here w nothing f
      first_is = record {
        traced = traced;
        once = once;
        cast = refl;
        legible = record {
          client =
              nothing_legible client_legible.pipe_put f.client.passage.passage.put
              (ap (λ (p : EndPassage ClientRole). p.passage.put) (sym f.client.leads.reached)
              ∙ ap (λ ms. (all_end_moved client.rules client.acts
              (end_started (client_state.first ours.config)) ms).passage.put) no_client);
          server =
              nothing_legible server_legible.pipe_put f.server.passage.passage.put
              (ap (λ (p : EndPassage Server). p.passage.put) (sym f.server.leads.reached)
              ∙ ap (λ ms. (all_end_moved server.rules server.acts
              (end_started (server.first ours.window)) ms).passage.put) no_server);
          ins = λ n.
              nothing_legible in_legible.pipe_put (f.ins n).passage.put
              (ap (λ (p : Passage InProxy). p.put) (sym (f.ins n).leads.reached)
              ∙ ap (λ ms. (all_moved in_proxy.rules
              (started (in_state.first (ours.in_config n))) ms).put) (no_in n));
          outs = λ n.
              nothing_legible out_legible.pipe_put (f.outs n).passage.put
              (ap (λ (p : Passage OutProxy). p.put) (sym (f.outs n).leads.reached)
              ∙ ap (λ ms. (all_moved out_proxy.rules
              (started (new_proxy (ours.out_config n))) ms).put) (no_out n));
        };
        read = read;
      }
