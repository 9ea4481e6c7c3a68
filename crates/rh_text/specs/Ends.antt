-- the words for the ends of a virtual connection, and for the directions of a leg
use Rattle.std.specs.Prelude.{ℕ, List, codes}
use Rattle.rh_text.specs.declared.ends.Side.{Side}
use Rattle.rh_text.specs.declared.ends.Side.TheVariants.{Client, Server}
use Rattle.rh_text.specs.declared.ends.Dir.{Dir}
use Rattle.rh_text.specs.declared.ends.Dir.TheVariants.{U, D}

-- the word for an end
abbrev pub side_word : Side → List ℕ
side_word Client = codes "c"
side_word Server = codes "s"

-- the word for a direction
abbrev pub dir_word : Dir → List ℕ
dir_word U = codes "u"
dir_word D = codes "d"
