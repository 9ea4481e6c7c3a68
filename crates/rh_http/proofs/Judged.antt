-- what the parser answers of a text that is one head
use Rattle.std.proofs.Common.{◌≡◌, ℕ, ◌≤◌, Bool, List, [], length, map, take, drop, sym, ap, ◌∙◌, subst, arith, Ok, Err}
use Rattle.std.specs.declared.result.Result.{Result}
use Rattle.std.proofs.lemmas.List.{drop_all, length-map, length-take}
use Rattle.httparse.specs.declared.spans.HeaderSpan.{HeaderSpan}
use Rattle.httparse.specs.declared.spans.RequestSpans.{RequestSpans}
use Rattle.httparse.specs.declared.spans.ResponseSpans.{ResponseSpans}
use Rattle.httparse.specs.Grammar.{Field, RequestHead, ReadsRequest, ResponseHead, ReadsResponse, status_code}
use Rattle.httparse.specs.Spans.{AreFieldsAt, IsRequestOf, IsResponseOf, header_bytes, name_and_value, span_bytes}
use Rattle.rh_http.specs.declared.fault.HttpFault.{HttpFault}
use Rattle.rh_http.specs.declared.fault.HttpFault.TheVariants.{TooLong, Syntax, Method, Path, Target, Length}
use Rattle.rh_http.specs.declared.request.Request.{Request}
use Rattle.rh_http.specs.Lengths.{Fields}
use Rattle.rh_http.specs.Requests.{IsRequestText, Parts, parts_of, Passes, JudgesRequest, greatest_fields}
use Rattle.rh_http.specs.Responses.{IsResponseText}

-- fields that 64 spans cover are 64 at most
few_fields : (text : List ℕ) (headers : List HeaderSpan) (count : ℕ) (fields : List Field)
    → length headers ≡ 64
    → AreFieldsAt text headers count fields → length fields ≤ greatest_fields
few_fields text headers count fields room h =
    omega (
      arith,
      room,
      sym (length-map (take count headers) (header_bytes text)) ∙ ap length h
          ∙ length-map fields name_and_value,
      length-take count headers,
    )

-- ---- requests

-- the parts that the spans cover
abbrev pub covered : List ℕ → RequestSpans → List HeaderSpan → Parts
covered text spans fields = record {
  method = span_bytes text spans.method;
  target = span_bytes text spans.path;
  fields = map (header_bytes text) fields;
}

-- a verdict on these is one on the head
request_head : (inbound : Bool) (text : List ℕ) (headers fields : List HeaderSpan)
    (spans : RequestSpans)
    (verdict : Result Request HttpFault) → length headers ≡ 64 → spans.len ≡ length text
    → fields ≡ take spans.headers headers → IsRequestOf text headers spans
    → Passes inbound (covered text spans fields) verdict
    → (head : RequestHead) × IsRequestText text head × Passes inbound (parts_of head) verdict
request_head inbound text headers fields spans verdict room whole front (head, at) passes =
    let nothing : drop spans.len text ≡ [] = drop_all spans.len text (omega (arith, whole)) in
    let R : List ℕ → Type 0 = λ rest. ReadsRequest text head rest in
    let names : map (header_bytes text) fields ≡ map name_and_value head.fields =
    ap (λ (x : List HeaderSpan). map (header_bytes text) x) front ∙ at.fields in
    let same : covered text spans fields ≡ parts_of head = cc (at.method, at.path, names) in
    let P : Parts → Type 0 = λ parts. Passes inbound parts verdict in (
      head,
      record {
        reads = subst R nothing at.reads;
        few =
            few_fields text headers spans.headers head.fields room at.fields;
      },
      subst P same passes,
    )

pub request_judged : (inbound : Bool) (text : List ℕ) (headers fields : List HeaderSpan)
    (spans : RequestSpans)
    (verdict : Result Request HttpFault) → length headers ≡ 64 → spans.len ≡ length text
    → fields ≡ take spans.headers headers → IsRequestOf text headers spans
    → Passes inbound (covered text spans fields) verdict → JudgesRequest inbound text verdict
request_judged inbound text headers fields spans (Err Syntax) room whole front of passes =
    absurd passes
request_judged inbound text headers fields spans (Err TooLong) room whole front of passes =
    absurd passes
request_judged inbound text headers fields spans (Ok request) room whole front of passes =
    request_head inbound text headers fields spans (Ok request) room whole front of passes
request_judged inbound text headers fields spans (Err Method) room whole front of passes =
    request_head inbound text headers fields spans (Err Method) room whole front of passes
request_judged inbound text headers fields spans (Err Path) room whole front of passes =
    request_head inbound text headers fields spans (Err Path) room whole front of passes
request_judged inbound text headers fields spans (Err Target) room whole front of passes =
    request_head inbound text headers fields spans (Err Target) room whole front of passes
request_judged inbound text headers fields spans (Err Length) room whole front of passes =
    request_head inbound text headers fields spans (Err Length) room whole front of passes

-- ---- responses

pub response_judged : (text : List ℕ) (headers fields : List HeaderSpan) (spans : ResponseSpans)
    (P : ℕ → Fields → Type 0) → length headers ≡ 64 → spans.len ≡ length text
    → fields ≡ take spans.headers headers → IsResponseOf text headers spans
    → P spans.code (map (header_bytes text) fields)
    → (head : ResponseHead) × IsResponseText text head × (spans.code ≡ status_code head)
    × P (status_code head) (map name_and_value head.fields)
response_judged text headers fields spans P room whole front (head, at) told =
    let nothing : drop spans.len text ≡ [] = drop_all spans.len text (omega (arith, whole)) in
    let R : List ℕ → Type 0 = λ rest. ReadsResponse text head rest in
    let names : map (header_bytes text) fields ≡ map name_and_value head.fields =
    ap (λ (x : List HeaderSpan). map (header_bytes text) x) front ∙ at.fields in
    let Q : ℕ → Type 0 = λ code. P code (map (header_bytes text) fields) in
    let S : Fields → Type 0 = λ x. P (status_code head) x in (
      head,
      record {
        reads = subst R nothing at.reads;
        few =
            few_fields text headers spans.headers head.fields room at.fields;
      },
      at.code,
      subst S names (subst Q at.code told),
    )
