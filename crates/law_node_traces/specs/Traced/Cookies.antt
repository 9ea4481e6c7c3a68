-- changes and turns whose cookies have 16 bytes, as each cookie of its type has (MS-RPCH 2.2.3.1)
use Rattle.std.specs.Prelude.{◌≡◌, List, Bool, true}
use Rattle.std.specs.List.{list_all}
use Rattle.rh_company.specs.Company.{Rulebook}
use Rattle.rh_nodes.specs.declared.half.Half.{Half}
use Rattle.rh_nodes.specs.declared.half.Half.TheVariants.{Up}
use Rattle.rh_nodes.specs.Giving.{Deeds}
use Rattle.rh_nodes.specs.Opening.{Makers}
use Rattle.rh_nodes.specs.World.{World}
use Rattle.law_node_history.specs.Changes.{Change, RaisesAlone, Turn, IsLine, IsHalf, WorksBy, is_whole, of_line}

-- a change that lines make has; so has one of a half step whose cookie has
abbrev pub has_whole_cookie : Change → Bool
has_whole_cookie (RaisesAlone node leg end cookie) = is_whole cookie
has_whole_cookie change = of_line change

-- such changes, of lines and half steps, lead from one world to the other
abbrev pub ByChanges : {K C S I O : Type 0} → Rulebook C S I O → Makers K I O → Deeds C S
    → World K C S I O → World K C S I O → Type 0
ByChanges r m d w v = WorksBy has_whole_cookie r m d w v

-- ---- turns

abbrev pub is_whole_half : Half → Bool
is_whole_half (Up who leg cookie) = is_whole cookie
is_whole_half one = true

abbrev pub is_whole_turn : Turn → Bool
is_whole_turn (IsLine line) = true
is_whole_turn (IsHalf one) = is_whole_half one

abbrev pub AreWhole : List Turn → Type 0
AreWhole turns = list_all is_whole_turn turns ≡ true
