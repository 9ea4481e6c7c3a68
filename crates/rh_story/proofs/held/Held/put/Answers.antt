-- the bytes are put at the key
use Rattle.std.proofs.Common.{ℕ, List, ap, ◌∙◌}
use Rattle.std.specs.Global.{Global}
use Rattle.std.specs.declared.vec.Vec.{Vec}
use Rattle.rh_story.specs.Streams.{seen_as, with_held}
use Rattle.rh_story.proofs.Places.{put_there}
use Rattle.rh_story.proofs.held.Held.put.Goals as goal

-- the bytes of a vector
abbrev bytes_of : Vec ℕ Global → List ℕ
bytes_of bytes = bytes.items

pub returns : goal.returns
returns c =
    ap (λ (entries : List (List ℕ × Vec ℕ Global)). seen_as bytes_of entries)
    c.in_ok-insert.ensures.entries
    ∙ put_there bytes_of c.self.inside.streams.entries c.args.key c.args.bytes
    ∙ ap (λ (held : List (List ℕ × List ℕ)). with_held held c.args.key c.args.bytes.items)
    c.self.view_is
