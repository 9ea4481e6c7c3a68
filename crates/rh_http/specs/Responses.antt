-- the responses to such requests (MS-RPCH 2.1.2), and the order in which one is judged (profile)
use Rattle.std.specs.Prelude.{◌≡◌, ◌≤◌, ℕ, List, [], length, map, Ok, Err}
use Rattle.std.specs.declared.result.Result.{Result}
use Rattle.httparse.specs.Grammar.{ResponseHead, ReadsResponse, status_code}
use Rattle.httparse.specs.Spans.{name_and_value}
use Rattle.rh_http.specs.declared.fault.HttpFault.{HttpFault}
use Rattle.rh_http.specs.declared.fault.HttpFault.TheVariants.{TooLong, Syntax, Method, Path, Target, Length}
use Rattle.rh_http.specs.declared.response.Response.{Response}
use Rattle.rh_http.specs.Lengths.{Fields, TellsLength}
use Rattle.rh_http.specs.Requests.{greatest_fields}

-- the text is this response head, which has no more fields than that
pub record IsResponseText (text : List ℕ) (head : ResponseHead) : Type 0 where
  pub reads : ReadsResponse text head []
  pub few : length head.fields ≤ greatest_fields

-- its status, and a length that is taken; else the fault of the length
abbrev pub Tells : ℕ → Fields → Result Response HttpFault → Type 0
Tells status fields (Ok response) =
    (response.status ≡ status) × TellsLength status fields response.length
Tells status fields (Err Length) = (n : ℕ) → ¬ TellsLength status fields n
Tells status fields (Err TooLong) = ⊥
Tells status fields (Err Syntax) = ⊥
Tells status fields (Err Method) = ⊥
Tells status fields (Err Path) = ⊥
Tells status fields (Err Target) = ⊥

-- the text is a head that tells them; else the first that is wrong with it
abbrev pub JudgesResponse : List ℕ → Result Response HttpFault → Type 0
JudgesResponse text (Err Syntax) = (head : ResponseHead) → ¬ IsResponseText text head
JudgesResponse text verdict =
    (head : ResponseHead) × IsResponseText text head
    × Tells (status_code head) (map name_and_value head.fields) verdict
