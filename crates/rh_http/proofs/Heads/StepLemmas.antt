-- each step as a function finds what the rules say
use Rattle.std.proofs.Common.{◌≡◌, ◌≢◌, ℕ, ◌≤◌, Bool, true, false, List, [], ◌∷◌, ◌++◌, length, Option, Some, None, refl, sym, ap, ◌∙◌, subst, arith, inl, inr, ◌⊎◌, ⊎_elim, append_assoc}
use Rattle.std.specs.Prelude.{◌==◌, ◌&&◌, nat_le, Decides, IsTrue, if◌then◌else◌, codes, decimal, bytes_eq, option_and_then}
use Rattle.std.specs.List.{list_all}
use Rattle.std.specs.Str.{all_ascii_digits, str_to_ascii_lowercase}
use Rattle.std.specs.Str.Parse.{digits_value}
use Rattle.std.proofs.lemmas.Bool.{leb-true, le-leb, cond-true}
use Rattle.std.proofs.lemmas.Bool.Decides.{Decides-eqb, Decides-and, Decides-or, Decides-like, not_from_Decides}
use Rattle.std.proofs.lemmas.Fmt.{digits_value-decimal}
use Rattle.std.proofs.lemmas.Option.{option_and_then_some}
use Rattle.std.proofs.lemmas.Slice.Eq.{bytes_eq-Decides}
use Rattle.rh_http.specs.Hosts.{IsHost, greatest_host, is_host_byte}
use Rattle.rh_http.specs.Lengths.{Fields, AsksLength, TellsLength, greatest_response, lengths_of, may_ask, success}
use Rattle.rh_http.specs.Numbers.{IsLengthText, IsPortText}
use Rattle.rh_http.specs.Requests.{IsPath, IsServer, IsTarget, path_of}
use Rattle.rh_http.proofs.NumberLemmas.{own}
use Rattle.rh_http.proofs.Servers.{host_before as before_colon}
use Rattle.rh_http.specs.Heads.Readers.{behind}
use Rattle.rh_http.specs.Heads.Steps.{asked_length, host_before, is_host, is_length_text, is_path, is_port, length_in, only_if, port_behind, port_of, query_of, request_length, response_length, server_behind, server_of, taken, told_length, with_port}
use Rattle.rh_http.proofs.Heads.Finds.{Finds, Finds-like, Finds-taken, none_is_some, some_is, only_if_some}
use Rattle.rh_http.proofs.Heads.Meets.{Finds-behind}

decides_le : (a b : ℕ) → Decides (nat_le a b) (a ≤ b)
decides_le a b = (leb-true a b, le-leb a b)

decides_true : (b : Bool) → Decides b (b ≡ true)
decides_true b = (λ e. e, λ e. e)

-- what is there if a test passes
pub Finds-only_if : {A : Type 0} {P : A → Type 0} (b : Bool) (x : A)
    → ((a : A) → P a → (b ≡ true) × (x ≡ a)) → (b ≡ true → P x) → Finds (only_if b x) P
Finds-only_if {A} {P} b x there back = record {
  finds = λ a p.
      let both = there a p in cond-true b (Some x) None both.0 ∙ ap Some both.1;
  found = λ a e.
      let both = only_if_some b x a e in subst P both.1 (back both.0);
}

-- ---- targets

pub Decides-path : (path : List ℕ) → Decides (is_path path) (IsPath path)
Decides-path path =
    let low = str_to_ascii_lowercase path in
    Decides-or
    (bytes_eq low (codes "/rpc/rpcproxy.dll"))
    (bytes_eq low (codes "/rpcwithcert/rpcproxy.dll"))
    (bytes_eq-Decides low (codes "/rpc/rpcproxy.dll"))
    (bytes_eq-Decides low (codes "/rpcwithcert/rpcproxy.dll"))

-- what stands behind a front and one more byte
Finds-after : (front text : List ℕ) (byte : ℕ)
    → Finds (behind (front ++ byte ∷ []) text) (λ rest. text ≡ front ++ byte ∷ rest)
Finds-after front text byte =
    Finds-like (behind (front ++ byte ∷ []) text) (Finds-behind (front ++ byte ∷ []) text)
    (λ rest e. e ∙ sym (append_assoc front (byte ∷ []) rest))
    (λ rest e. e ∙ append_assoc front (byte ∷ []) rest)

Decides-host : (text : List ℕ) → Decides (is_host text) (IsHost text)
Decides-host text =
    let most = nat_le (length text) greatest_host in
    let characters = list_all is_host_byte text in
    Decides-like (is_host text)
    (λ h. record { some = h.0; most = h.1.0; characters = h.1.1 })
    (λ h. (h.some, (h.most, h.characters)))
    (Decides-and (nat_le 1 (length text)) (most && characters)
    (decides_le 1 (length text))
    (Decides-and most characters (decides_le (length text) greatest_host)
    (decides_true characters)))

Decides-port : (digits : List ℕ) (n : ℕ) → Decides (is_port digits n) (IsPortText digits n)
Decides-port digits n =
    let least = nat_le 1 n in
    let most = nat_le n 65535 in
    Decides-like (is_port digits n)
    (λ h. record { digits = h.0; least = h.1.0; most = h.1.1 })
    (λ h. (h.digits, (h.least, h.most)))
    (Decides-and (bytes_eq digits (decimal n)) (least && most)
    (bytes_eq-Decides digits (decimal n))
    (Decides-and least most (decides_le 1 n) (decides_le n 65535)))

-- digits spell the port that they are
port_value : (digits : List ℕ) (n : ℕ) → IsPortText digits n → digits_value 10 digits ≡ n
port_value digits n h =
    ap (digits_value 10) h.digits ∙ digits_value-decimal own n (omega (arith, h.most))

pub Finds-port : (digits : List ℕ) → Finds (port_of digits) (IsPortText digits)
Finds-port digits =
    let v = digits_value 10 digits in
    Finds-only_if (is_port digits v) v
    (λ n h.
    let same : v ≡ n = port_value digits n h in
    let P : ℕ → Type 0 = λ x. IsPortText digits x in
    ((Decides-port digits v).1 (subst P (sym same) h), same))
    (Decides-port digits v).0

with_port_some : (host : List ℕ) (o : Option ℕ) (s : List ℕ × ℕ) → with_port host o ≡ Some s
    → (o ≡ Some s.1) × (host ≡ s.0) × (is_host host ≡ true)
with_port_some host None s e = absurd (none_is_some s e)
with_port_some host (Some port) s e =
    let both = only_if_some (is_host host) (host, port) s e in
    (ap (λ x. Some x.1) both.1, ap (λ x. x.0) both.1, both.0)

-- a query's host, colon and port
server_finds : (query host : List ℕ) (port : ℕ) → IsServer query host port
    → server_of query ≡ Some (host, port)
server_finds query host port h =
    let same : host_before query ≡ host = before_colon query host port h in
    let there : behind (host ++ 58 ∷ []) query ≡ Some h.digits =
    (Finds-after host query 58).finds h.digits h.joined in
    let ports : port_behind query ≡ Some port =
    ap (λ x. option_and_then port_of (behind (x ++ 58 ∷ []) query)) same
    ∙ ap (option_and_then port_of) there ∙ (Finds-port h.digits).finds port h.is_port in
    ap (λ x. with_port x (port_behind query)) same ∙ ap (with_port host) ports
    ∙ cond-true (is_host host) (Some (host, port)) None ((Decides-host host).1 h.is_host)

server_found : (query : List ℕ) (s : List ℕ × ℕ) → server_of query ≡ Some s
    → IsServer query s.0 s.1
server_found query s e =
    let front = host_before query in
    let read = with_port_some front (port_behind query) s e in
    option_and_then_some port_of (behind (front ++ 58 ∷ []) query) s.1 read.0
    (λ digits there port.
    let H : List ℕ → Type 0 = λ x. IsHost x in
    record {
      is_host = subst H read.1 ((Decides-host front).0 read.2);
      digits = digits;
      is_port = (Finds-port digits).found s.1 port;
      joined = (Finds-after front query 58).found digits there
          ∙ ap (λ x. x ++ 58 ∷ digits) read.1;
    })

pub Finds-server : (query : List ℕ) → Finds (server_of query) (λ s. IsServer query s.0 s.1)
Finds-server query = record {
  finds = λ s h. server_finds query s.0 s.1 h;
  found = λ s e. server_found query s e;
}

pub Finds-target : (target : List ℕ) → Finds (server_behind target) (λ s. IsTarget target s.0 s.1)
Finds-target target =
    let queries = Finds-after (path_of target) target 63 in
    record {
      finds = λ s h.
          ap (option_and_then server_of) (queries.finds h.0 h.1)
          ∙ server_finds h.0 s.0 s.1 h.2;
      found = λ s e.
          option_and_then_some server_of (query_of target) s e
          (λ query there server.
          (query, queries.found query there, server_found query s server));
    }

-- ---- lengths

Decides-length : (text : List ℕ)
    → Decides (is_length_text text)
    ((1 ≤ length text) × ((length text ≤ 10) × (all_ascii_digits text ≡ true)))
Decides-length text =
    let most = nat_le (length text) 10 in
    let digits = all_ascii_digits text in
    Decides-and (nat_le 1 (length text)) (most && digits) (decides_le 1 (length text))
    (Decides-and most digits (decides_le (length text) 10) (decides_true digits))

pub Finds-length : (text : List ℕ) → Finds (length_in text) (IsLengthText text)
Finds-length text =
    Finds-only_if (is_length_text text) (digits_value 10 text)
    (λ n h. ((Decides-length text).1 (h.some, (h.most, h.digits)), sym h.value))
    (λ passes.
    let h = (Decides-length text).0 passes in
    record { some = h.0; most = h.1.0; digits = h.1.1; value = refl })

-- the value that is there once spells this number
abbrev SpelledOnce : List (List ℕ) → ℕ → Type 0
SpelledOnce values n = (text : List ℕ) × (values ≡ text ∷ []) × IsLengthText text n

Finds-once : (text : List ℕ) (may : ℕ → Bool)
    → Finds (taken may (length_in text)) (λ n. SpelledOnce (text ∷ []) n × (may n ≡ true))
Finds-once text may =
    Finds-like (taken may (length_in text)) (Finds-taken may (length_in text) (Finds-length text))
    (λ n h.
    let same : h.0.0 ≡ text = cc (h.0.1) in
    let P : List ℕ → Type 0 = λ x. IsLengthText x n in
    (subst P same h.0.2, h.1))
    (λ n h. ((text, refl, h.0), h.1))

pub Finds-asked : (inbound : Bool) (values : List (List ℕ))
    → Finds (asked_length inbound values)
    (λ n. SpelledOnce values n × IsTrue (may_ask inbound n))
Finds-asked inbound [] = record {
  finds = λ n h. absurd (cc (h.0.1));
  found = λ n e. absurd (none_is_some n e);
}
Finds-asked inbound (text ∷ []) = Finds-once text (may_ask inbound)
Finds-asked inbound (text ∷ again ∷ values) = record {
  finds = λ n h. absurd (cc (h.0.1));
  found = λ n e. absurd (none_is_some n e);
}

pub Finds-request_length : (inbound : Bool) (fields : Fields)
    → Finds (request_length inbound fields) (AsksLength inbound fields)
Finds-request_length inbound fields = Finds-asked inbound (lengths_of fields)

-- a length that is told, or 0
abbrev IsTold : ℕ → List (List ℕ) → ℕ → Type 0
IsTold status values n =
    (SpelledOnce values n × (n ≤ greatest_response))
    ⊎ ((status ≢ success) × (values ≡ []) × (n ≡ 0))

Finds-untold : (status : ℕ) (b : Bool) → (status == success) ≡ b
    → Finds (if b then None else Some 0) (IsTold status [])
Finds-untold status true is = record {
  finds = λ n h.
      ⊎_elim (λ once. absurd (cc (once.0.1)))
      (λ none. absurd (none.0 ((Decides-eqb status success).0 is))) h;
  found = λ n e. absurd (none_is_some n e);
}
Finds-untold status false is = record {
  finds = λ n h. ⊎_elim (λ once. absurd (cc (once.0.1))) (λ none. ap Some (sym none.2)) h;
  found = λ n e.
      inr (
        not_from_Decides (status == success) (Decides-eqb status success) is,
        refl,
        sym (some_is 0 n e),
      );
}

pub Finds-told : (status : ℕ) (values : List (List ℕ))
    → Finds (told_length status values) (IsTold status values)
Finds-told status [] = Finds-untold status (status == success) refl
Finds-told status (text ∷ []) =
    Finds-like (told_length status (text ∷ [])) (Finds-once text (λ n. nat_le n greatest_response))
    (λ n h.
    ⊎_elim (λ once. (once.0, le-leb n greatest_response once.1)) (λ none. absurd (cc (none.1))) h)
    (λ n h. inl (h.0, leb-true n greatest_response h.1))
Finds-told status (text ∷ again ∷ values) = record {
  finds = λ n h.
      ⊎_elim (λ once. absurd (cc (once.0.1))) (λ none. absurd (cc (none.1))) h;
  found = λ n e. absurd (none_is_some n e);
}

pub Finds-response_length : (status : ℕ) (fields : Fields)
    → Finds (response_length status fields) (TellsLength status fields)
Finds-response_length status fields = Finds-told status (lengths_of fields)
