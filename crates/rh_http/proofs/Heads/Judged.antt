-- the verdicts that the relations give are those of the functions
use Rattle.std.proofs.Common.{◌≡◌, ℕ, ◌≤◌, Bool, true, false, List, length, map, take, Option, Some, None, Ok, Err, refl, sym, ap, ◌∙◌, subst, arith}
use Rattle.std.specs.Prelude.{◌==◌, bytes_eq, if◌then◌else◌}
use Rattle.std.specs.declared.result.Result.{Result}
use Rattle.std.proofs.lemmas.Bool.{cond-true, cond-false, false_from_ne_true}
use Rattle.std.proofs.lemmas.Bool.Decides.{Decides-eqb, not_from_Decides}
use Rattle.std.proofs.lemmas.List.{take_all}
use Rattle.std.proofs.lemmas.Slice.Eq.{bytes_eq-Decides}
use Rattle.httparse.specs.Grammar.{RequestHead, ResponseHead, status_code}
use Rattle.httparse.specs.Spans.{name_and_value}
use Rattle.rh_http.specs.declared.fault.HttpFault.{HttpFault}
use Rattle.rh_http.specs.declared.fault.HttpFault.TheVariants.{TooLong, Syntax, Method, Path, Target, Length}
use Rattle.rh_http.specs.declared.got.Got.{Got}
use Rattle.rh_http.specs.declared.got.Got.TheVariants.{Need, Head, Fault}
use Rattle.rh_http.specs.declared.request.Request.{Request}
use Rattle.rh_http.specs.declared.response.Response.{Response}
use Rattle.rh_http.specs.Ends.{IsOpen, FirstEnd}
use Rattle.rh_http.specs.Lengths.{Fields}
use Rattle.rh_http.specs.Reading.{IsAnswer}
use Rattle.rh_http.specs.Requests.{HasTarget, IsPath, IsRequestText, JudgesRequest, Parts, Passes, host_text, method_of, parts_of, path_of}
use Rattle.rh_http.specs.Responses.{IsResponseText, JudgesResponse, Tells}
use Rattle.rh_http.specs.Heads.Answers.{verdict_of}
use Rattle.rh_http.specs.Heads.Ends.{is_whole}
use Rattle.rh_http.specs.Heads.Heads.{request_head, response_head}
use Rattle.rh_http.specs.Heads.Readers.{all_of}
use Rattle.rh_http.specs.Heads.Steps.{is_path, request_length, response_length, server_behind}
use Rattle.rh_http.specs.Heads.Verdicts.{Asked, asked_of, asks, request_judged, request_verdict, response_judged, response_verdict, told, tried}
use Rattle.rh_http.proofs.Heads.Finds.{finds_none}
use Rattle.rh_http.proofs.Heads.EndLemmas.{whole_from, whole_to}
use Rattle.rh_http.proofs.Heads.HeadLemmas.{Finds-request, Finds-response}
use Rattle.rh_http.proofs.Heads.StepLemmas.{Decides-path, Finds-request_length, Finds-response_length, Finds-target}

-- ---- requests

-- the steps of a request, from their answers
abbrev steps : Bool → Bool → Option (List ℕ × ℕ) → Option ℕ → Result Asked HttpFault
steps method path server n =
    if method then (if path then asks server n else Err Path) else Err Method

module _ (inbound : Bool) (p : Parts) where
  by_method : p.method ≡ method_of inbound → bytes_eq p.method (method_of inbound) ≡ true
  by_method = (bytes_eq-Decides p.method (method_of inbound)).1

  -- past the method and the path
  at_target : p.method ≡ method_of inbound → IsPath (path_of p.target)
      → asks (server_behind p.target) (request_length inbound p.fields) ≡ tried inbound p
  at_target method path =
      let server = server_behind p.target in
      let n = request_length inbound p.fields in
      sym (
      ap (λ b. steps b (is_path (path_of p.target)) server n) (by_method method)
      ∙ ap (λ b. steps true b server n) ((Decides-path (path_of p.target)).1 path)
      )

  -- some server is there
  with_target : HasTarget p.target
      → (s : List ℕ × ℕ) × (server_behind p.target ≡ Some s)
  with_target h = ((h.0, h.1), (Finds-target p.target).finds (h.0, h.1) h.2)

  no_target : ¬ HasTarget p.target → server_behind p.target ≡ None
  no_target none =
      finds_none (server_behind p.target) (Finds-target p.target) (λ s h. none (s.0, s.1, h))

  passes_tried : (r : Result Request HttpFault) → Passes inbound p r
      → asked_of r ≡ tried inbound p
  passes_tried (Ok request) h =
      let server = (Finds-target p.target).finds (host_text request.host, request.port) h.2 in
      let n = (Finds-request_length inbound p.fields).finds request.length h.3 in
      sym (
      ap (λ s. asks s (request_length inbound p.fields)) server
      ∙ ap (asks (Some (host_text request.host, request.port))) n
      )
      ∙ at_target h.0 h.1
  passes_tried (Err TooLong) h = absurd h
  passes_tried (Err Syntax) h = absurd h
  passes_tried (Err Method) h =
      let wrong : bytes_eq p.method (method_of inbound) ≡ false =
      false_from_ne_true (bytes_eq p.method (method_of inbound))
      (λ e. h ((bytes_eq-Decides p.method (method_of inbound)).0 e)) in
      sym (
      ap (λ b. steps b (is_path (path_of p.target)) (server_behind p.target)
      (request_length inbound p.fields)) wrong
      )
  passes_tried (Err Path) h =
      let wrong : is_path (path_of p.target) ≡ false =
      false_from_ne_true (is_path (path_of p.target))
      (λ e. h.1 ((Decides-path (path_of p.target)).0 e)) in
      sym (
      ap (λ b. steps b (is_path (path_of p.target)) (server_behind p.target)
      (request_length inbound p.fields)) (by_method h.0)
      ∙ ap (λ b. steps true b (server_behind p.target) (request_length inbound p.fields)) wrong
      )
  passes_tried (Err Target) h =
      sym (ap (λ s. asks s (request_length inbound p.fields)) (no_target h.2))
      ∙ at_target h.0 h.1
  passes_tried (Err Length) h =
      let some = with_target h.2 in
      let none =
      finds_none (request_length inbound p.fields) (Finds-request_length inbound p.fields) h.3 in
      sym (
      ap (λ s. asks s (request_length inbound p.fields)) some.1
      ∙ ap (asks (Some some.0)) none
      )
      ∙ at_target h.0 h.1

-- a verdict on the head is that of the function
on_request : (inbound : Bool) (text : List ℕ) (r : Result Request HttpFault)
    → (head : RequestHead) × IsRequestText text head × Passes inbound (parts_of head) r
    → asked_of r ≡ request_judged inbound (all_of (request_head text))
on_request inbound text r h =
    passes_tried inbound (parts_of h.0) r h.2
    ∙ sym (ap (request_judged inbound) ((Finds-request text).finds h.0 h.1))

judges_request : (inbound : Bool) (text : List ℕ) (r : Result Request HttpFault)
    → JudgesRequest inbound text r
    → asked_of r ≡ request_judged inbound (all_of (request_head text))
judges_request inbound text (Err Syntax) h =
    let none = finds_none (all_of (request_head text)) (Finds-request text) h in
    sym (ap (request_judged inbound) none)
judges_request inbound text (Ok request) h = on_request inbound text (Ok request) h
judges_request inbound text (Err TooLong) h = on_request inbound text (Err TooLong) h
judges_request inbound text (Err Method) h = on_request inbound text (Err Method) h
judges_request inbound text (Err Path) h = on_request inbound text (Err Path) h
judges_request inbound text (Err Target) h = on_request inbound text (Err Target) h
judges_request inbound text (Err Length) h = on_request inbound text (Err Length) h

-- ---- responses

tells_told : (status : ℕ) (fields : Fields) (r : Result Response HttpFault)
    → Tells status fields r → r ≡ told status (response_length status fields)
tells_told status fields (Ok response) h =
    let n = (Finds-response_length status fields).finds response.length h.1 in
    ap (λ s. Ok (record { status = s; length = response.length })) h.0
    ∙ sym (ap (told status) n)
tells_told status fields (Err Length) h =
    let none =
    finds_none (response_length status fields) (Finds-response_length status fields) h in
    sym (ap (told status) none)
tells_told status fields (Err TooLong) h = absurd h
tells_told status fields (Err Syntax) h = absurd h
tells_told status fields (Err Method) h = absurd h
tells_told status fields (Err Path) h = absurd h
tells_told status fields (Err Target) h = absurd h

on_response : (text : List ℕ) (r : Result Response HttpFault)
    → (head : ResponseHead) × IsResponseText text head
    × Tells (status_code head) (map name_and_value head.fields) r
    → r ≡ response_judged (all_of (response_head text))
on_response text r h =
    tells_told (status_code h.0) (map name_and_value h.0.fields) r h.2
    ∙ sym (ap response_judged ((Finds-response text).finds h.0 h.1))

judges_response : (text : List ℕ) (r : Result Response HttpFault) → JudgesResponse text r
    → r ≡ response_judged (all_of (response_head text))
judges_response text (Err Syntax) h =
    let none = finds_none (all_of (response_head text)) (Finds-response text) h in
    sym (ap response_judged none)
judges_response text (Ok response) h = on_response text (Ok response) h
judges_response text (Err TooLong) h = on_response text (Err TooLong) h
judges_response text (Err Method) h = on_response text (Err Method) h
judges_response text (Err Path) h = on_response text (Err Path) h
judges_response text (Err Target) h = on_response text (Err Target) h
judges_response text (Err Length) h = on_response text (Err Length) h

-- ---- texts

-- a text that does not end with its first blank line
not_whole : (text : List ℕ) → ¬ FirstEnd text (length text) → is_whole text ≡ false
not_whole text none = false_from_ne_true (is_whole text) (λ e. none (whole_to text e))

-- of answers to the bytes at the front, only one that ends with the text is the verdict
module _ {T S : Type 0} (judges : List ℕ → Result T HttpFault → Type 0)
    (seen : Result T HttpFault → Result S HttpFault) (judged : List ℕ → Result S HttpFault)
    (late : seen (Err TooLong) ≡ Err TooLong)
    (meets : (text : List ℕ) (r : Result T HttpFault) → judges text r
    → seen r ≡ judged text) where
  too_long : (text : List ℕ) → ¬ FirstEnd text (length text)
      → seen (Err TooLong) ≡ (if is_whole text then judged text else Err TooLong)
  too_long text none =
      late ∙ sym (cond-false (is_whole text) (judged text) (Err TooLong) (not_whole text none))

  on_whole : (text : List ℕ) (r : Result T HttpFault) → FirstEnd text (length text)
      → judges text r → seen r ≡ (if is_whole text then judged text else Err TooLong)
  on_whole text r whole h =
      meets text r h
      ∙ sym (cond-true (is_whole text) (judged text) (Err TooLong) (whole_from text whole))

  -- a head of this length with this verdict
  on_head : (text : List ℕ) (len : ℕ) (r : Result T HttpFault) → FirstEnd text len
      → judges (take len text) r
      → seen (if len == length text then r else Err TooLong)
      ≡ (if is_whole text then judged text else Err TooLong)
  on_head text len r end h = by (len == length text) refl
    where
      by : (t : Bool) → (len == length text) ≡ t
          → seen (if t then r else Err TooLong)
          ≡ (if is_whole text then judged text else Err TooLong)
      by true e =
          let all : len ≡ length text = (Decides-eqb len (length text)).0 e in
          let P : ℕ → Type 0 = λ n. FirstEnd text n in
          let J : List ℕ → Type 0 = λ x. judges x r in
          let whole : take len text ≡ text = take_all len text (omega (arith, all)) in
          on_whole text r (subst P all end) (subst J whole h)
      by false e =
          let less = not_from_Decides (len == length text) (Decides-eqb len (length text)) e in
          too_long text
          (λ whole.
          less (omega (arith, whole.first len end.ends, end.first (length text) whole.ends)))

  -- a text with no blank line, whatever place is told
  on_open : (text : List ℕ) (b : Bool) → IsOpen text
      → seen (if b then Err TooLong else Err TooLong)
      ≡ (if is_whole text then judged text else Err TooLong)
  on_open text true open_text = too_long text (λ whole. open_text (length text) whole.ends)
  on_open text false open_text = too_long text (λ whole. open_text (length text) whole.ends)

  module _ (text : List ℕ) (few : length text ≤ 16384) where
    front : take 16384 text ≡ text
    front = take_all 16384 text few

    open_front : IsOpen (take 16384 text) → IsOpen text
    open_front h = let P : List ℕ → Type 0 = λ x. IsOpen x in subst P front h

    end_front : (n : ℕ) → FirstEnd (take 16384 text) n → FirstEnd text n
    end_front n h = let P : List ℕ → Type 0 = λ x. FirstEnd x n in subst P front h

    answered : (got : Got T) → IsAnswer judges text got
        → seen (verdict_of got (length text))
        ≡ (if is_whole text then judged text else Err TooLong)
    answered Need h = on_open text true (open_front h.0)
    answered (Head value len) h = on_head text len (Ok value) (end_front len h.0) h.1
    answered (Fault place TooLong) h =
        on_open text (place == length text) (open_front h.1)
    answered (Fault place Syntax) h =
        on_head text place (Err Syntax) (end_front place h.0) h.1
    answered (Fault place Method) h =
        on_head text place (Err Method) (end_front place h.0) h.1
    answered (Fault place Path) h =
        on_head text place (Err Path) (end_front place h.0) h.1
    answered (Fault place Target) h =
        on_head text place (Err Target) (end_front place h.0) h.1
    answered (Fault place Length) h =
        on_head text place (Err Length) (end_front place h.0) h.1

-- ---- verdicts

abbrev request_of : Bool → List ℕ → Result Asked HttpFault
request_of inbound text = request_judged inbound (all_of (request_head text))

abbrev response_of : List ℕ → Result Response HttpFault
response_of text = response_judged (all_of (response_head text))

pub request_answered : (inbound : Bool) (text : List ℕ) (got : Got Request)
    → length text ≤ 16384 → IsAnswer (JudgesRequest inbound) text got
    → asked_of (verdict_of got (length text)) ≡ request_verdict inbound text
unfolding request_verdict
request_answered inbound text got few h =
    answered (JudgesRequest inbound) asked_of (request_of inbound) refl (judges_request inbound)
    text few got h

pub response_answered : (text : List ℕ) (got : Got Response) → length text ≤ 16384
    → IsAnswer JudgesResponse text got → verdict_of got (length text) ≡ response_verdict text
unfolding response_verdict
response_answered text got few h =
    answered JudgesResponse (λ r. r) response_of refl judges_response text few got h

-- a whole text has the verdict that the relation gives
pub whole_request : (inbound : Bool) (text : List ℕ) (r : Result Request HttpFault)
    → FirstEnd text (length text) → JudgesRequest inbound text r
    → asked_of r ≡ request_verdict inbound text
unfolding request_verdict
whole_request inbound text r whole h =
    on_whole (JudgesRequest inbound) asked_of (request_of inbound) refl (judges_request inbound)
    text r whole h

pub whole_response : (text : List ℕ) (r : Result Response HttpFault)
    → FirstEnd text (length text) → JudgesResponse text r → r ≡ response_verdict text
unfolding response_verdict
whole_response text r whole h =
    on_whole JudgesResponse (λ r. r) response_of refl judges_response text r whole h

-- and another text is too long
pub other_request : (inbound : Bool) (text : List ℕ) → ¬ FirstEnd text (length text)
    → request_verdict inbound text ≡ Err TooLong
unfolding request_verdict
other_request inbound text none =
    cond-false (is_whole text) (request_of inbound text) (Err TooLong) (not_whole text none)

pub other_response : (text : List ℕ) → ¬ FirstEnd text (length text)
    → response_verdict text ≡ Err TooLong
unfolding response_verdict
other_response text none =
    cond-false (is_whole text) (response_of text) (Err TooLong) (not_whole text none)
