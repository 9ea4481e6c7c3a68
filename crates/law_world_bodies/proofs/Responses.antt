-- what an out proxy drew on its client's leg is no response that is too long
use Rattle.std.proofs.Common.{length-append}
use Rattle.law_order.proofs.Vocabulary.{◌≡◌, ℕ, suc, ◌+◌, ◌≤◌, ◌==◌, ◌⊎◌, inl, inr, List, [], ◌∷◌, ◌++◌, append_assoc, length, Some, Ok, Err, arith, refl, sym, ap, ◌∙◌, subst, AllByRecursion, Option, Result, append-nil, IsPrefix}
use Rattle.rh_client.specs.Client as client
use Rattle.law_moves.proofs.Vocabulary.{by_test, prefix_trans, Pipe, CoD, refusal_told, response_told, HttpFault, Refusal, Response, IsToldAs, refusal_text, response_text, status_of, response_verdict, Leg, LegKind, ClientOut, OutServer, ClientIn, InServer, HeadRefused, HeadTaken, is_whole_head, Message, Text, Pdu, Packet, spelled, MayGoOn, AreNoTexts, Begins, IsWholeText}
use Rattle.law_role_client.proofs.Vocabulary.{head_by, opened_by, success}
use Rattle.law_role_outproxy.proofs.Vocabulary.{OutProxyConfig, ping_room, IsConfig}
use Rattle.law_node_streams.specs.Streams.{IsDrawn}
use Rattle.law_world_order.proofs.FirstTexts.OutTexts.{IsSuccess, Succeeds}
use Rattle.law_world_order.proofs.FirstTexts.Requests.{same_head}
use Rattle.law_world_order.proofs.FirstTexts.Told.{front_told, told_length}
use Rattle.law_world_bodies.proofs.Lengths.{length_of}
use Rattle.law_world_bodies.proofs.OutMoves.{sum}
use Rattle.law_world_bodies.proofs.OutPuts.{behind}
use Rattle.law_world_bodies.proofs.Sizes.{spelled_total, total}
use Rattle.law_world_bodies.specs.Behind.{HasBody}

-- ---- a response that a client took

record Took (verdict : Result Response HttpFault) (taken : HeadTaken) : Type 0 where
  response : Response
  read : verdict ≡ Ok response
  told : taken.length ≡ response.length

opened_takes : (response : Response) (taken : HeadTaken) → opened_by response ≡ Ok taken
    → taken.length ≡ response.length
opened_takes response taken =
    by_test (λ (r : Result HeadTaken HeadRefused). r ≡ Ok taken → taken.length ≡ response.length)
    (response.status == success) _ _ (λ t e. length_of _ taken e) (λ t e. absurd (cc))

takes : (kind : LegKind) (verdict : Result Response HttpFault) (taken : HeadTaken)
    → head_by kind verdict ≡ Ok taken → Took verdict taken
takes ClientOut (Ok response) taken e =
    record { response = response; read = refl; told = opened_takes response taken e }
takes kind (Err fault) taken e = absurd (cc)
takes OutServer (Ok response) taken e = absurd (cc)
takes ClientIn (Ok response) taken e = absurd (cc)
takes InServer (Ok response) taken e = absurd (cc)

-- messages without texts are all behind the head
total_behind : (ms : List Message) → AreNoTexts ms → total ms ≡ sum behind ms
total_behind [] none = refl
total_behind (Text text ∷ ms) none = absurd none.0
total_behind (Pdu pdu ∷ ms) none = let rest = total_behind ms none.1 in omega (arith, rest)
total_behind (Packet packet ∷ ms) none = let rest = total_behind ms none.1 in omega (arith, rest)

module _ (config : OutProxyConfig) (range : IsConfig config) (pipe : Option Pipe) (leg : Leg)
    (heard : List ℕ) (told : ℕ) (h : HasBody client.rules pipe leg heard (suc told) told) where
  took : Took (response_verdict h.text) h.takes.taken
  took = takes leg.kind (response_verdict h.text) h.takes.taken h.takes.takes

  -- the head is the response that was put, which told so many bytes
  record Heads (status number : ℕ) (text rest : List ℕ) : Type 0 where
    same : h.text ≡ text
    counts : number ≡ told
    within : length h.rest ≤ length rest

  heads : (status number : ℕ) (text rest : List ℕ) → IsToldAs status number text
      → IsPrefix heard (text ++ rest) → Heads status number text rest
  heads status number text rest is front =
      let at : h.text ++ (h.rest ++ front.0) ≡ text ++ rest =
      sym (append_assoc h.text h.rest front.0)
      ∙ ap (λ (x : List ℕ). x ++ front.0) (sym h.split) ∙ front.1 in
      let same = (front_told status number text is h.text rest took.response
      (h.rest ++ front.0, at) took.read).0 in
      let length_is = told_length status number text is h.text rest took.response
      (h.rest ++ front.0, at) took.read in
      let sum = length-append h.text (h.rest ++ front.0) in
      let more = length-append h.rest front.0 in
      let all = length-append text rest in
      let whole : length (h.text ++ (h.rest ++ front.0)) ≡ length (text ++ rest) =
      ap (λ (x : List ℕ). length x) at in
      let as_long : length h.text ≡ length text = ap (λ (x : List ℕ). length x) same in
      record {
        same = same;
        counts = sym length_is ∙ sym took.told ∙ h.takes.tells;
        within = omega (arith, sum, more, all, whole, as_long);
      }

  -- a refusal has no body
  refusal_none : (refusal : Refusal) → IsPrefix heard (refusal_text refusal) → ⊥
  refusal_none refusal front =
      let is = heads (status_of refusal) 0 (refusal_text refusal) [] (refusal_told refusal)
      (subst (IsPrefix heard) (sym (append-nil (refusal_text refusal))) front) in
      let short = is.within in
      let long = h.within in
      absurd (omega (arith, short, long))

  in_range : (k : ℕ) → (k ≡ 20) ⊎ (k ≡ config.lifetime + ping_room) → k ≤ 2147549184
  in_range k (inl is) = omega (arith, is)
  in_range k (inr is) = omega (arith, is, range.lifetime.1)

  -- the answer to an echo is no head alone
  echo_none : (bytes after : List ℕ) → bytes ≡ h.text ++ after → length after ≡ 20
      → IsWholeText is_whole_head bytes → ⊥
  echo_none bytes after is long whole =
      let same : h.text ≡ bytes =
      same_head h.text bytes after [] h.whole whole (sym is ∙ sym (append-nil bytes)) in
      let sum = length-append h.text after in
      let all : length bytes ≡ length (h.text ++ after) = ap (λ (x : List ℕ). length x) is in
      let short : length h.text ≡ length bytes = ap (λ (x : List ℕ). length x) same in
      absurd (omega (arith, sum, all, short, long))

  put_none : (put : List Message) → AllByRecursion (Succeeds config) put
      → AllByRecursion (MayGoOn (Some CoD)) put → Begins (Some CoD) put
      → sum behind put ≤ config.lifetime + ping_room → IsPrefix heard (spelled put) → ⊥
  put_none [] all may begins most front =
      let none : length (heard ++ front.0) ≡ 0 = ap (λ (x : List ℕ). length x) front.1 in
      let sum = length-append heard front.0 in
      let split : length heard ≡ length (h.text ++ h.rest) =
      ap (λ (x : List ℕ). length x) h.split in
      let both = length-append h.text h.rest in
      let long = h.within in
      absurd (omega (arith, none, sum, split, both, long))
  put_none (Text bytes ∷ put) all may begins most front = by s.told begins
    where
      s : IsSuccess config bytes
      s = all.0

      is : Heads 200 s.number (response_text s.number) (s.behind ++ spelled put)
      is =
          heads 200 s.number (response_text s.number) (s.behind ++ spelled put)
          (response_told s.number (in_range s.number s.told))
          (subst (IsPrefix heard)
          (ap (λ (x : List ℕ). x ++ spelled put) s.is
          ∙ append_assoc (response_text s.number) s.behind (spelled put)) front)

      at : bytes ≡ h.text ++ s.behind
      at = s.is ∙ ap (λ (x : List ℕ). x ++ s.behind) (sym is.same)

      sums : length (s.behind ++ spelled put) ≡ length s.behind + length (spelled put)
      sums = length-append s.behind (spelled put)

      begun : Begins (Some CoD) (Text bytes ∷ put) → length (spelled put) ≤ sum behind put
      begun (inl begins) =
          let long = spelled_total (Some CoD) put may.1 in
          let same = total_behind put begins.1 in
          omega (arith, long, same)
      begun (inr begins) =
          let none : length (spelled put) ≡ 0 =
          ap (λ (x : List Message). length (spelled x)) begins.1 in
          omega (arith, none)

      echo : s.number ≡ 20 → Begins (Some CoD) (Text bytes ∷ put) → ⊥
      echo e (inl begins) = echo_none bytes s.behind at (s.echo e) begins.0
      echo e (inr begins) =
          let rest : length (spelled put) ≡ 0 =
          ap (λ (x : List Message). length (spelled x)) begins.1 in
          let after = s.echo e in
          let number = is.counts in
          let short = is.within in
          let long = h.within in
          absurd (omega (arith, e, rest, after, number, short, long, sums))

      by : (s.number ≡ 20) ⊎ (s.number ≡ config.lifetime + ping_room)
          → Begins (Some CoD) (Text bytes ∷ put) → ⊥
      by (inl e) begins = echo e begins
      by (inr e) begins =
          let after : length s.behind ≡ 0 = ap (λ (x : List ℕ). length x) (s.alone e) in
          let rest = begun begins in
          let number = is.counts in
          let short = is.within in
          let long = h.within in
          absurd (omega (arith, e, rest, after, number, short, long, sums, most))
  put_none (Pdu pdu ∷ put) all may begins most front = absurd begins
  put_none (Packet packet ∷ put) all may begins most front = absurd begins

  -- whatever was drawn
  pub drawn_none : (put : List Message) (drawn : List ℕ) → AllByRecursion (Succeeds config) put
      → AllByRecursion (MayGoOn (Some CoD)) put → Begins (Some CoD) put
      → sum behind put ≤ config.lifetime + ping_room → IsDrawn put drawn
      → IsPrefix heard drawn → ⊥
  drawn_none put drawn all may begins most (inl drew) front =
      put_none put all may begins most (prefix_trans heard drawn (spelled put) front drew)
  drawn_none put drawn all may begins most (inr refused) front =
      refusal_none refused.1
      (prefix_trans heard drawn (refusal_text refused.1) front refused.2)
