-- what stood at the key is taken, and nothing is put there
use Rattle.std.proofs.Common.{ℕ, List, [], ap, ◌∙◌}
use Rattle.std.specs.Global.{Global}
use Rattle.std.specs.declared.vec.Vec.{Vec}
use Rattle.rh_story.specs.Streams.{bytes_in, held_of, seen_as, with_held}
use Rattle.rh_story.proofs.Places.{found_there, put_there}
use Rattle.rh_story.proofs.held.Held.take.Goals as goal

-- the bytes of a vector
abbrev bytes_of : Vec ℕ Global → List ℕ
bytes_of bytes = bytes.items

pub returns-clause-bytes : goal.returns-clause-bytes
returns-clause-bytes c =
    c.or_none.ensures
    ∙ ap (bytes_in bytes_of) c.in_ok-before.ensures.old
    ∙ found_there bytes_of c.self.inside.streams.entries c.args.key
    ∙ ap (λ (held : List (List ℕ × List ℕ)). held_of held c.args.key) c.self.view_is

pub returns-clause-out : goal.returns-clause-out
returns-clause-out c =
    ap (λ (entries : List (List ℕ × Vec ℕ Global)). seen_as bytes_of entries)
    c.in_ok-before.ensures.entries
    ∙ put_there bytes_of c.self.inside.streams.entries c.args.key c.new.result
    ∙ ap (λ (bytes : List ℕ). with_held
    (seen_as bytes_of c.self.inside.streams.entries) c.args.key bytes)
    c.new.ensures.items
    ∙ ap (λ (held : List (List ℕ × List ℕ)). with_held held c.args.key []) c.self.view_is
