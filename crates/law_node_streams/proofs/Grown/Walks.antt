-- along streams that grow: that behind more events, and how it goes on
use Rattle.law_order.proofs.Vocabulary.{List, [], ◌∷◌, ◌++◌, append_assoc, sym, subst, Option, append-nil, IsPrefix}
use Rattle.law_moves.proofs.Vocabulary.{prefix_self, prefix_trans, Pipe, Leg, Rooms, Acts, Rules, EndEvent, Event}
use Rattle.law_node_streams.specs.Streams.{EndStream, Stream}
use Rattle.law_node_streams.specs.Grown.{EndGrows, Grows}

module _ {S : Type 0} (rules : Rules S) (first : S) (rooms : Rooms) (pipe : Leg → Option Pipe)
  where
    -- a stream behind these, whose moves begin with those of the other, and then these come
    abbrev pub Goes : (events behind later : List Event) → Stream rules first rooms pipe events
        → Type 0
    Goes events behind later stream =
        (next : Stream rules first rooms pipe behind)
        × IsPrefix stream.leads.moves next.leads.moves
        × Grows rules first rooms pipe behind later next

    pub walk : (events more later : List Event) (stream : Stream rules first rooms pipe events)
        → Grows rules first rooms pipe events (more ++ later) stream
        → Goes events (events ++ more) later stream
    walk events [] later stream grows =
        subst (λ x. Goes events x later stream) (sym (append-nil events))
        (stream, prefix_self stream.leads.moves, grows)
    walk events (event ∷ more) later stream grows =
        let rest = walk (events ++ event ∷ []) more later grows.0 grows.2 in
        subst (λ x. Goes events x later stream) (append_assoc events (event ∷ []) more) (
          rest.0,
          prefix_trans stream.leads.moves grows.0.leads.moves rest.0.leads.moves grows.1 rest.1,
          rest.2,
        )

module _ {S : Type 0} (rules : Rules S) (acts : Acts S) (first : S) (rooms : Rooms)
    (pipe : Leg → Option Pipe) where
  abbrev pub EndGoes : (events behind later : List EndEvent)
      → EndStream rules acts first rooms pipe events → Type 0
  EndGoes events behind later stream =
      (next : EndStream rules acts first rooms pipe behind)
      × IsPrefix stream.leads.moves next.leads.moves
      × EndGrows rules acts first rooms pipe behind later next

  pub end_walk : (events more later : List EndEvent)
      (stream : EndStream rules acts first rooms pipe events)
      → EndGrows rules acts first rooms pipe events (more ++ later) stream
      → EndGoes events (events ++ more) later stream
  end_walk events [] later stream grows =
      subst (λ x. EndGoes events x later stream) (sym (append-nil events))
      (stream, prefix_self stream.leads.moves, grows)
  end_walk events (event ∷ more) later stream grows =
      let rest = end_walk (events ++ event ∷ []) more later grows.0 grows.2 in
      subst (λ x. EndGoes events x later stream) (append_assoc events (event ∷ []) more) (
        rest.0,
        prefix_trans stream.leads.moves grows.0.leads.moves rest.0.leads.moves grows.1 rest.1,
        rest.2,
      )
