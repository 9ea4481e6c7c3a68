-- bytes have one answer
use Rattle.std.proofs.Common.{◌≡◌, ◌≤◌, ◌⊎◌, ℕ, Bool, List, [], length, map, take, refl, sym, ap, ◌∙◌, subst, arith, inl, inr, ⊎_elim, Ok, Err}
use Rattle.std.specs.declared.result.Result.{Result}
use Rattle.httparse.specs.Grammar.{RequestHead, ResponseHead, status_code}
use Rattle.httparse.specs.Spans.{name_and_value}
use Rattle.httparse.proofs.GrammarLemmas.{request_unique, response_unique}
use Rattle.rh_http.specs.declared.fault.HttpFault.{HttpFault}
use Rattle.rh_http.specs.declared.fault.HttpFault.TheVariants.{TooLong, Syntax, Method, Path, Target, Length}
use Rattle.rh_http.specs.declared.got.Got.{Got}
use Rattle.rh_http.specs.declared.got.Got.TheVariants.{Need, Head, Fault}
use Rattle.rh_http.specs.declared.host.Host.{Host}
use Rattle.rh_http.specs.declared.request.Request.{Request}
use Rattle.rh_http.specs.declared.response.Response.{Response}
use Rattle.rh_http.specs.Ends.{IsOpen, FirstEnd}
use Rattle.rh_http.specs.Lengths.{Fields, HasLength, TellsLength}
use Rattle.rh_http.specs.Numbers.{IsLengthText}
use Rattle.rh_http.specs.Reading.{greatest_head, IsAnswer}
use Rattle.rh_http.specs.Requests.{host_text, path_of, IsServer, IsTarget, Parts, parts_of, Passes, IsRequestText, JudgesRequest}
use Rattle.rh_http.specs.Responses.{IsResponseText, Tells, JudgesResponse}
use Rattle.rh_http.proofs.NumberLemmas.{one_length}
use Rattle.rh_http.proofs.HostLemmas.{host_once}
use Rattle.rh_http.proofs.Servers.{same_server, query_behind}

-- ---- lengths

-- fields have one length
same_length : (fields : Fields) (m n : ℕ) → HasLength fields m → HasLength fields n → m ≡ n
same_length fields m n (text, one, h) (other, again, k) =
    let same : text ≡ other = cc in
    let P : List ℕ → Type 0 = λ x. IsLengthText x m in
    one_length other m n (subst P same h) k

-- no length is told where there is none and where there is one
same_told : (status : ℕ) (fields : Fields) (m n : ℕ) → TellsLength status fields m
    → TellsLength status fields n → m ≡ n
same_told status fields m n h k =
    ⊎_elim
    (λ has. ⊎_elim (λ other. same_length fields m n has.0 other.0)
    (λ none. absurd (cc (has.0.1, none.1))) k)
    (λ none. ⊎_elim (λ other. absurd (cc (other.0.1, none.1))) (λ other. none.2 ∙ sym other.2) k)
    h

-- ---- requests

-- a target names one server
same_request : (target : List ℕ) (a b : Request) → IsTarget target (host_text a.host) a.port
    → IsTarget target (host_text b.host) b.port → a.length ≡ b.length → a ≡ b
same_request target a b h k lengths =
    let query : h.0 ≡ k.0 = query_behind target (path_of target) h.0 k.0 refl h.1 k.1 in
    let P : List ℕ → Type 0 = λ x. IsServer x (host_text a.host) a.port in
    let servers =
    same_server k.0 (host_text a.host) (host_text b.host) a.port b.port
    (subst P query h.2) k.2 in
    let make : Host → ℕ → ℕ
    → Request = λ host port n. record { host = host; port = port; length = n } in
    ap (λ (x : Host). make x a.port a.length) (host_once a.host b.host servers.0)
    ∙ ap (λ (n : ℕ). make b.host n a.length) servers.1
    ∙ ap (λ (n : ℕ). make b.host b.port n) lengths

-- the parts of a head have one verdict
same_passes : (inbound : Bool) (p : Parts) (a b : Result Request HttpFault) → Passes inbound p a
    → Passes inbound p b → a ≡ b
same_passes inbound p (Err TooLong) b h k = absurd h
same_passes inbound p (Err Syntax) b h k = absurd h
same_passes inbound p a (Err TooLong) h k = absurd k
same_passes inbound p a (Err Syntax) h k = absurd k
same_passes inbound p (Ok a) (Ok b) h k =
    ap Ok (same_request p.target a b h.2 k.2 (same_length p.fields a.length b.length h.3.0 k.3.0))
same_passes inbound p (Ok a) (Err Method) h k = absurd (k h.0)
same_passes inbound p (Ok a) (Err Path) h k = absurd (k.1 h.1)
same_passes inbound p (Ok a) (Err Target) h k = absurd (k.2 (host_text a.host, a.port, h.2))
same_passes inbound p (Ok a) (Err Length) h k = absurd (k.3 a.length h.3)
same_passes inbound p (Err Method) (Ok b) h k = absurd (h k.0)
same_passes inbound p (Err Method) (Err Method) h k = refl
same_passes inbound p (Err Method) (Err Path) h k = absurd (h k.0)
same_passes inbound p (Err Method) (Err Target) h k = absurd (h k.0)
same_passes inbound p (Err Method) (Err Length) h k = absurd (h k.0)
same_passes inbound p (Err Path) (Ok b) h k = absurd (h.1 k.1)
same_passes inbound p (Err Path) (Err Method) h k = absurd (k h.0)
same_passes inbound p (Err Path) (Err Path) h k = refl
same_passes inbound p (Err Path) (Err Target) h k = absurd (h.1 k.1)
same_passes inbound p (Err Path) (Err Length) h k = absurd (h.1 k.1)
same_passes inbound p (Err Target) (Ok b) h k = absurd (h.2 (host_text b.host, b.port, k.2))
same_passes inbound p (Err Target) (Err Method) h k = absurd (k h.0)
same_passes inbound p (Err Target) (Err Path) h k = absurd (k.1 h.1)
same_passes inbound p (Err Target) (Err Target) h k = refl
same_passes inbound p (Err Target) (Err Length) h k = absurd (h.2 k.2)
same_passes inbound p (Err Length) (Ok b) h k = absurd (h.3 b.length k.3)
same_passes inbound p (Err Length) (Err Method) h k = absurd (k h.0)
same_passes inbound p (Err Length) (Err Path) h k = absurd (k.1 h.1)
same_passes inbound p (Err Length) (Err Target) h k = absurd (k.2 h.2)
same_passes inbound p (Err Length) (Err Length) h k = refl

-- a verdict on a text is that it is no head, or one on the head
abbrev RequestVerdict : Bool → List ℕ → Result Request HttpFault → Type 0
RequestVerdict inbound text a =
    ((a ≡ Err Syntax) × ((head : RequestHead) → ¬ IsRequestText text head))
    ⊎ ((head : RequestHead) × IsRequestText text head × Passes inbound (parts_of head) a)

request_verdict : (inbound : Bool) (text : List ℕ) (a : Result Request HttpFault)
    → JudgesRequest inbound text a
    → RequestVerdict inbound text a
request_verdict inbound text (Ok a) h = inr h
request_verdict inbound text (Err TooLong) h = inr h
request_verdict inbound text (Err Syntax) h = inl (refl, h)
request_verdict inbound text (Err Method) h = inr h
request_verdict inbound text (Err Path) h = inr h
request_verdict inbound text (Err Target) h = inr h
request_verdict inbound text (Err Length) h = inr h

-- a text has one verdict as a request
one_request : (inbound : Bool) (text : List ℕ) (a b : Result Request HttpFault)
    → JudgesRequest inbound text a
    → JudgesRequest inbound text b → a ≡ b
one_request inbound text a b h k =
    ⊎_elim
    (λ none. ⊎_elim (λ other. none.0
    ∙ sym other.0) (λ one. absurd (none.1 one.0 one.1)) (request_verdict inbound text b k))
    (λ one. ⊎_elim (λ none. absurd (none.1 one.0 one.1))
    (λ other.
    let heads = (request_unique text one.0 other.0 [] [] one.1.reads other.1.reads).0 in
    let P : RequestHead → Type 0 = λ head. Passes inbound (parts_of head) a in
    same_passes inbound (parts_of other.0) a b (subst P heads one.2) other.2)
    (request_verdict inbound text b k))
    (request_verdict inbound text a h)

-- ---- responses

-- a status and fields have one verdict
same_tells : (status : ℕ) (fields : Fields) (a b : Result Response HttpFault)
    → Tells status fields a → Tells status fields b → a ≡ b
same_tells status fields (Err TooLong) b h k = absurd h
same_tells status fields (Err Syntax) b h k = absurd h
same_tells status fields (Err Method) b h k = absurd h
same_tells status fields (Err Path) b h k = absurd h
same_tells status fields (Err Target) b h k = absurd h
same_tells status fields a (Err TooLong) h k = absurd k
same_tells status fields a (Err Syntax) h k = absurd k
same_tells status fields a (Err Method) h k = absurd k
same_tells status fields a (Err Path) h k = absurd k
same_tells status fields a (Err Target) h k = absurd k
same_tells status fields (Ok a) (Ok b) h k =
    let make : ℕ → ℕ → Response = λ s n. record { status = s; length = n } in
    ap Ok (
    ap (λ (s : ℕ). make s a.length) (h.0 ∙ sym k.0)
    ∙ ap (λ (n : ℕ). make b.status n) (same_told status fields a.length b.length h.1 k.1)
    )
same_tells status fields (Ok a) (Err Length) h k = absurd (k a.length h.1)
same_tells status fields (Err Length) (Ok b) h k = absurd (h b.length k.1)
same_tells status fields (Err Length) (Err Length) h k = refl

-- a verdict on a text is that it is no head, or one on the head
abbrev ResponseVerdict : List ℕ → Result Response HttpFault → Type 0
ResponseVerdict text a =
    ((a ≡ Err Syntax) × ((head : ResponseHead) → ¬ IsResponseText text head))
    ⊎ ((head : ResponseHead) × IsResponseText text head
    × Tells (status_code head) (map name_and_value head.fields) a)

response_verdict : (text : List ℕ) (a : Result Response HttpFault) → JudgesResponse text a
    → ResponseVerdict text a
response_verdict text (Ok a) h = inr h
response_verdict text (Err TooLong) h = inr h
response_verdict text (Err Syntax) h = inl (refl, h)
response_verdict text (Err Method) h = inr h
response_verdict text (Err Path) h = inr h
response_verdict text (Err Target) h = inr h
response_verdict text (Err Length) h = inr h

-- a text has one verdict as a response
one_response : (text : List ℕ) (a b : Result Response HttpFault) → JudgesResponse text a
    → JudgesResponse text b → a ≡ b
one_response text a b h k =
    ⊎_elim
    (λ none. ⊎_elim (λ other. none.0
    ∙ sym other.0) (λ one. absurd (none.1 one.0 one.1)) (response_verdict text b k))
    (λ one. ⊎_elim (λ none. absurd (none.1 one.0 one.1))
    (λ other.
    let heads = (response_unique text one.0 other.0 [] [] one.1.reads other.1.reads).0 in
    let P : ResponseHead
    → Type 0 = λ head. Tells (status_code head) (map name_and_value head.fields) a in
    same_tells (status_code other.0) (map name_and_value other.0.fields) a b
    (subst P heads one.2) other.2)
    (response_verdict text b k))
    (response_verdict text a h)

-- ---- answers

-- the first end is one place
same_end : (bytes : List ℕ) (m n : ℕ) → FirstEnd bytes m → FirstEnd bytes n → m ≡ n
same_end bytes m n h k = omega (arith, h.first n k.ends, k.first m h.ends)

-- a fault is that of bytes that are too long, or of a head
abbrev FaultView : {T : Type 0} → (List ℕ → Result T HttpFault → Type 0) → List ℕ → ℕ → HttpFault
    → Type 0
FaultView judges bytes place fault =
    ((fault ≡ TooLong) × (place ≡ greatest_head) × IsOpen (take greatest_head bytes)
    × (greatest_head ≤ length bytes))
    ⊎ (FirstEnd (take greatest_head bytes) place × judges (take place bytes) (Err fault))

fault_view : {T : Type 0} (judges : List ℕ → Result T HttpFault
    → Type 0) (bytes : List ℕ) (place : ℕ) (fault : HttpFault)
    → IsAnswer judges bytes (Fault place fault) → FaultView judges bytes place fault
fault_view judges bytes place TooLong h = inl (refl, h.0, h.1, h.2)
fault_view judges bytes place Syntax h = inr h
fault_view judges bytes place Method h = inr h
fault_view judges bytes place Path h = inr h
fault_view judges bytes place Target h = inr h
fault_view judges bytes place Length h = inr h

-- two verdicts at the first end are on one text
module _ {T : Type 0} (judges : List ℕ → Result T HttpFault → Type 0)
    (one : (text : List ℕ) (a b : Result T HttpFault) → judges text a → judges text b → a ≡ b) where
  same_verdict : (bytes : List ℕ) (m n : ℕ) (a b : Result T HttpFault) → m ≡ n
      → judges (take m bytes) a
      → judges (take n bytes) b → a ≡ b
  same_verdict bytes m n a b e h k =
      let P : ℕ → Type 0 = λ i. judges (take i bytes) a in one (take n bytes) a b (subst P e h) k

  -- bytes that are to be followed by more are no fault
  open_no_fault : (bytes : List ℕ) (place : ℕ) (fault : HttpFault) → IsAnswer judges bytes Need
      → IsAnswer judges bytes (Fault place fault) → ⊥
  open_no_fault bytes place fault h k =
      ⊎_elim (λ over. omega (arith, h.1, over.3)) (λ head. h.0 place head.0.ends)
      (fault_view judges bytes place fault k)

  -- and a head is none
  head_no_fault : (bytes : List ℕ) (value : T) (len place : ℕ) (fault : HttpFault)
      → IsAnswer judges bytes (Head value len) → IsAnswer judges bytes (Fault place fault) → ⊥
  head_no_fault bytes value len place fault h k =
      ⊎_elim (λ over. over.2 len h.0.ends)
      (λ head.
      let ends = same_end (take greatest_head bytes) len place h.0 head.0 in
      cc (same_verdict bytes len place (Ok value) (Err fault) ends h.1 head.1))
      (fault_view judges bytes place fault k)

  -- bytes have one answer, where a text has one verdict
  pub one_answer : (bytes : List ℕ) (a b : Got T) → IsAnswer judges bytes a
      → IsAnswer judges bytes b → a ≡ b
  one_answer bytes Need Need h k = refl
  one_answer bytes Need (Head w n) h k = absurd (h.0 n k.0.ends)
  one_answer bytes Need (Fault q g) h k = absurd (open_no_fault bytes q g h k)
  one_answer bytes (Head v m) Need h k = absurd (k.0 m h.0.ends)
  one_answer bytes (Head v m) (Head w n) h k =
      let ends = same_end (take greatest_head bytes) m n h.0 k.0 in
      let verdicts = same_verdict bytes m n (Ok v) (Ok w) ends h.1 k.1 in
      let values : v ≡ w = cc in cc
  one_answer bytes (Head v m) (Fault q g) h k = absurd (head_no_fault bytes v m q g h k)
  one_answer bytes (Fault p f) Need h k = absurd (open_no_fault bytes p f k h)
  one_answer bytes (Fault p f) (Head w n) h k = absurd (head_no_fault bytes w n p f k h)
  one_answer bytes (Fault p f) (Fault q g) h k =
      ⊎_elim
      (λ over. ⊎_elim
      (λ other. let faults : f ≡ g = over.0 ∙ sym other.0 in let places : p ≡ q = over.1
      ∙ sym other.1 in cc)
      (λ head. absurd (over.2 q head.0.ends)) (fault_view judges bytes q g k))
      (λ head. ⊎_elim (λ over. absurd (over.2 p head.0.ends))
      (λ other.
      let ends = same_end (take greatest_head bytes) p q head.0 other.0 in
      let verdicts = same_verdict bytes p q (Err f) (Err g) ends head.1 other.1 in
      let faults : f ≡ g = cc in cc)
      (fault_view judges bytes q g k))
      (fault_view judges bytes p f h)

-- for requests, and for responses
pub one_request_answer : (inbound : Bool) (bytes : List ℕ) (a b : Got Request)
    → IsAnswer (JudgesRequest inbound) bytes a
    → IsAnswer (JudgesRequest inbound) bytes b → a ≡ b
one_request_answer inbound = one_answer (JudgesRequest inbound) (one_request inbound)

pub one_response_answer : (bytes : List ℕ) (a b : Got Response) → IsAnswer JudgesResponse bytes a
    → IsAnswer JudgesResponse bytes b → a ≡ b
one_response_answer = one_answer JudgesResponse one_response
