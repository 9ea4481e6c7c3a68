-- the texts that are written are fine
use Rattle.law_order.proofs.Vocabulary.{◌≤◌, ◌++◌, ℕ, Bool, List, [], length, take, sym, ap, subst, arith, ◌-◌, Ok, is_ok, IsTrue, append-nil, length-take, take_all, IsPrefix}
use Rattle.std.proofs.Math.Seq.{take-length}
use Rattle.rh_http.proofs.EndLemmas.{fits}
use Rattle.rh_http.proofs.Heads.EndLemmas.{whole_from}
use Rattle.rh_http.proofs.Heads.Judged.{whole_request, whole_response}
use Rattle.rh_http.proofs.Written.{request_read}
use Rattle.rh_http.proofs.WrittenResponses.{refusal_told, response_told}
use Rattle.rh_http.specs.declared.config.ClientConfig.{ClientConfig}
use Rattle.rh_http.specs.declared.got.Got.TheVariants.{Head}
use Rattle.rh_http.specs.declared.numbers.TheConstants.{LEAST_PORT, GREATEST_PORT}
use Rattle.rh_http.specs.declared.refusal.Refusal.{Refusal}
use Rattle.rh_http.specs.declared.request.Request.{Request}
use Rattle.rh_http.specs.declared.response.Response.{Response}
use Rattle.rh_http.specs.Ends.{FirstEnd}
use Rattle.rh_http.specs.Heads.Verdicts.{request_verdict, response_verdict}
use Rattle.rh_http.specs.Lengths.{may_ask}
use Rattle.rh_http.specs.Reading.{IsAnswer, greatest_head}
use Rattle.rh_http.specs.Requests.{JudgesRequest, method_of}
use Rattle.rh_http.specs.Responses.{JudgesResponse}
use Rattle.rh_http.specs.Texts.{refusal_text, request_text, response_text, status_of}
use Rattle.rh_sig.specs.declared.name.Pipe.TheVariants.{CoD}
use Rattle.law_audit.specs.Streams.Texts.{IsFineHead, IsFineText}
use Rattle.law_audit.specs.Streams.Whole.{IsFrontOf}
use Rattle.law_audit.proofs.Streams.FrameFronts.{unbroken}

-- the first blank line of a text, found in its first bytes, is its end
record IsAlone (text : List ℕ) : Type 0 where
  short : length text ≤ greatest_head
  first : FirstEnd text (length text)

alone : (text : List ℕ) → FirstEnd (take greatest_head text) (length text) → IsAlone text
alone text h =
    let room = fits (take greatest_head text) (length text - 4) h.ends.1 in
    let short : length text ≤ greatest_head =
    omega (arith, room, h.ends.0, length-take greatest_head text) in
    record {
      short = short;
      first = subst (λ (x : List ℕ). FirstEnd x (length text)) (take_all greatest_head text short) h;
    }

fine_response : (text : List ℕ) (response : Response)
    → IsAnswer JudgesResponse (text ++ []) (Head response (length text))
    → IsFineHead (is_ok (response_verdict text)) text
fine_response text response h =
    let answer = subst (λ (x : List ℕ). IsAnswer JudgesResponse x (Head response (length text)))
    (append-nil text) h in
    let is = alone text answer.0 in
    let judged = subst (λ (x : List ℕ). JudgesResponse x (Ok response)) (take-length text)
    answer.1 in
    record {
      whole = whole_from text is.first;
      short = is.short;
      fine = ap is_ok (sym (whole_response text (Ok response) is.first judged));
    }

fine_request : (inbound : Bool) (text : List ℕ) (request : Request)
    → IsAnswer (JudgesRequest inbound) (text ++ []) (Head request (length text))
    → IsFineHead (is_ok (request_verdict inbound text)) text
fine_request inbound text request h =
    let answer = subst (λ (x : List ℕ). IsAnswer (JudgesRequest inbound) x
    (Head request (length text))) (append-nil text) h in
    let is = alone text answer.0 in
    let judged = subst (λ (x : List ℕ). JudgesRequest inbound x (Ok request)) (take-length text)
    answer.1 in
    record {
      whole = whole_from text is.first;
      short = is.short;
      fine = ap is_ok (sym (whole_request inbound text (Ok request) is.first judged));
    }

pub response_is_fine : (n : ℕ) → n ≤ 2147549184 → IsFineText CoD (response_text n)
response_is_fine n most =
    fine_response (response_text n) (record { status = 200; length = n }) (response_told n most [])

pub refusal_is_fine : (refusal : Refusal) → IsFineText CoD (refusal_text refusal)
refusal_is_fine refusal =
    fine_response (refusal_text refusal) (record { status = status_of refusal; length = 0 })
    (refusal_told refusal [])

pub request_is_fine : (inbound : Bool) (config : ClientConfig) (n : ℕ)
    → LEAST_PORT ≤ config.port → config.port ≤ GREATEST_PORT → IsTrue (may_ask inbound n)
    → IsFineHead (is_ok (request_verdict inbound (request_text (method_of inbound) config n)))
    (request_text (method_of inbound) config n)
request_is_fine inbound config n least most asks =
    fine_request inbound (request_text (method_of inbound) config n)
    (record { host = config.host; port = config.port; length = n })
    (request_read inbound config n least most asks [])

-- a refusal alone
pub refused : (refusal : Refusal) (bytes : List ℕ) → IsPrefix bytes (refusal_text refusal)
    → IsFrontOf CoD [] bytes
refused refusal bytes p =
    unbroken CoD (refusal_text refusal) [] bytes (refusal_is_fine refusal) tt tt
    (subst (λ (x : List ℕ). IsPrefix bytes x) (sym (append-nil (refusal_text refusal))) p)
