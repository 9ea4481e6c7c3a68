-- what a story tells of a recording, line by line and answer by answer, with or without hex
use Rattle.std.specs.Prelude.{Bool}
use Rattle.rh_teller.specs.Tales.{Tale}
use Rattle.rh_story.specs.Stories.{Telling, after, begun, heard, line_told, told}

abbrev pub story : Bool → Tale Telling
story hex = record {
  first = begun hex;
  line = line_told;
  heard = heard;
  answer = told;
  after = after;
}
