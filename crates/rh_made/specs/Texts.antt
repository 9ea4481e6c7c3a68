-- the text of the summary of a generated recording (profile)
use Rattle.std.specs.Prelude.{ℕ, List, ◌++◌, codes}
use Rattle.std.specs.Fmt.{decimal}
use Rattle.rh_record.specs.Report.{report_text}
use Rattle.rh_made.specs.declared.summary.Summary.{Summary}

-- the last lines of the report, and a line for each sum
abbrev pub summary_text : Summary → List ℕ
summary_text s =
    report_text s.last
    ++ (codes "moved " ++ (decimal s.moved
    ++ (codes "\nrounds " ++ (decimal s.rounds ++ codes "\n"))))
