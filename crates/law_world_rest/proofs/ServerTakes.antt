-- a server takes nothing where no PDU is there
use Rattle.law_order.proofs.Vocabulary.{◌≡◌, ℕ, List, Bool, true, false, ◌&&◌, not, if◌then◌else◌, refl, ap, ◌∙◌}
use Rattle.rh_line.specs.Lines as lines
use Rattle.law_role_server.proofs.Vocabulary.{Server, acts, becomes_current, moved_if}
use Rattle.law_world_rest.specs.Steady.{TakesNothing}

-- the channel in use is the same
stays : (s : Server) (had_next : Bool) → s.line.has_next ≡ had_next → moved_if had_next s ≡ s
stays s true has =
    ap (λ (b : Bool). if true && not b then becomes_current s else s) has
stays s false none = refl

pub server_takes : (s : Server) → TakesNothing acts s
server_takes s none =
    ap (λ (pdus : List (List ℕ)).
    moved_if s.line.has_next (record s { line = lines.taken pdus s.line })) none
    ∙ stays s s.line.has_next refl
