-- the streams of a recording go down and up
use Rattle.rh_text.specs.declared.ends.Side.TheVariants as side
use Rattle.law_order.proofs.Vocabulary.{◌≡◌, ℕ, List, [], refl, sym, subst, inl, inr, ◌⊎◌, cases_eq, IsPrefix}
use Rattle.rh_record.specs.declared.answer.Who.TheVariants as who
use Rattle.rh_client.specs.Client as client
use Rattle.law_moves.proofs.Vocabulary.{Dir, U, D, Side, Leg, ClientOut, OutServer, ClientIn, InServer}
use Rattle.law_role_inproxy.proofs.Vocabulary.{InProxy}
use Rattle.law_role_client.proofs.Vocabulary.{ClientRole}
use Rattle.law_role_server.proofs.Vocabulary.{Server}
use Rattle.law_node_history.proofs.Vocabulary.{Who, reader_of, receiver, sender, Company, Makers, leg_at, World, drawn_by, end_drawn_on, end_node, events_of, happened, heard_on, History}
use Rattle.law_role_outproxy.proofs.Vocabulary.{OutProxy}
use Rattle.law_node_traces.proofs.Vocabulary.{ComeUpInOrder, is_made, AreOurs, deeds, rules}
use Rattle.law_peers_routes.specs.Downwards.{GoesDown}
use Rattle.law_peers_routes.specs.Upwards.{GoesUp}
use Rattle.law_world_order.proofs.Heard.{from_client, from_in, from_out, from_server}
use Rattle.law_world_order.proofs.Vocabulary.{AllLegible, AreBegun, Flows, numbers_of}

module _ {K : Type 0} (m : Makers K InProxy OutProxy)
    (first : Company ClientRole Server InProxy OutProxy) (cast : K)
    (ours : AreOurs m first cast) (v : World K ClientRole Server InProxy OutProxy) (h : History)
    (drew : (leg : Leg) (dir : Dir)
    → IsPrefix (heard_on leg (events_of h (end_node v.readers leg (receiver dir))))
    (drawn_by rules m deeds first cast h (end_node v.readers leg (sender dir)) leg))
    (alone : (node : Who) (leg : Leg) → ((end : Side) → end_node v.readers leg end ≡ node → ⊥)
    → heard_on leg (events_of h node) ≡ [])
    (order : ComeUpInOrder v h)
    (f : Flows (numbers_of ours) h) (starts : AreBegun (numbers_of ours) h f)
    (legible : AllLegible (numbers_of ours) h f) where
  -- an out proxy hears nothing on a leg of another
  out_alone : (k n : ℕ) → (k ≡ n → ⊥) → heard_on (leg_at OutServer n) (h.outs k) ≡ []
  out_alone k n apart = alone (who.Out k) (leg_at OutServer n) (λ end. at end)
    where
      at : (end : Side) → end_node v.readers (leg_at OutServer n) end ≡ who.Out k → ⊥
      at side.Client e = apart (sym (let same = e in cc))
      at side.Server e = absurd (cc)

  pub goes_down : GoesDown ours.config ours.window ours.out_config h.client h.server h.outs
  goes_down = record {
    taker = f.client;
    giver = f.server;
    proxies = f.outs;
    numbered = ours.out_number;
    near = λ n. from_server m first cast ours h (leg_at OutServer n)
        (heard_on (leg_at OutServer n) (h.outs n)) (drew (leg_at OutServer n) D);
    far = λ n. from_out m first cast ours h n (leg_at ClientOut n)
        (heard_on (leg_at ClientOut n) (happened h.client)) (drew (leg_at ClientOut n) D);
    alone = out_alone;
    server_begins = starts.server_out;
    proxies_begin = starts.out_client;
    server_legible = legible.server;
    proxies_legible = legible.outs;
    proxies_drew = starts.out_client_drew;
  }

  -- an in proxy hears the client on the legs that it reads
  in_near : (k n : ℕ) → IsPrefix (heard_on (leg_at ClientIn n) (h.ins k))
      (end_drawn_on client.rules client.acts (client.first_client ours.config)
      (leg_at ClientIn n) h.client)
  in_near k n = by (cases_eq (reader_of v.readers n) k)
    where
      by : (reader_of v.readers n ≡ k) ⊎ (reader_of v.readers n ≡ k → ⊥)
          → IsPrefix (heard_on (leg_at ClientIn n) (h.ins k))
          (end_drawn_on client.rules client.acts (client.first_client ours.config)
          (leg_at ClientIn n) h.client)
      by (inl e) =
          let leg = leg_at ClientIn n in
          from_client m first cast ours h leg (heard_on leg (h.ins k))
          (subst (λ (i : ℕ). IsPrefix (heard_on leg (h.ins i))
          (drawn_by rules m deeds first cast h who.Client leg)) e (drew leg U))
      by (inr apart) =
          let leg = leg_at ClientIn n in
          let drawn = end_drawn_on client.rules client.acts (client.first_client ours.config) leg
          h.client in
          subst (λ (bytes : List ℕ). IsPrefix bytes drawn)
          (sym (alone (who.In k) leg (λ end. at end))) (drawn, refl)
        where
          at : (end : Side) → end_node v.readers (leg_at ClientIn n) end ≡ who.In k → ⊥
          at side.Client e = absurd (cc)
          at side.Server e = apart (let same = e in cc)

  pub goes_up : GoesUp ours.config ours.window ours.in_config h.client h.server h.ins
      (is_made v.company) (reader_of v.readers)
  goes_up = record {
    giver = f.client;
    taker = f.server;
    proxies = f.ins;
    numbered = ours.in_number;
    near = in_near;
    far = λ n. from_in m first cast ours h n (leg_at InServer n)
        (heard_on (leg_at InServer n) (happened h.server)) (drew (leg_at InServer n) U);
    readers = record {
      none = order.none;
      unmade = order.unmade;
      own = order.own;
      reads = order.reads;
      opened = order.opened;
      unread = order.unread;
    };
    client_legible = legible.client;
    proxies_legible = legible.ins;
  }
