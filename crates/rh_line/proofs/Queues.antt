-- laws of queues
use Rattle.std.proofs.Common.{◌≡◌, ℕ, ◌+◌, List, [], ◌∷◌, ◌++◌, length, arith, refl, sym, ◌∙◌, ap, append_assoc}
use Rattle.std.proofs.lemmas.List.{append-nil, length-append}
use Rattle.std.specs.List.{concat, AllByRecursion}
use Rattle.rh_line.specs.Queue.{total}

-- a PDU more at the end counts its bytes
pub total_push : (pdus : List (List ℕ)) (pdu : List ℕ)
    → total (pdus ++ pdu ∷ []) ≡ total pdus + length pdu
total_push [] pdu = omega arith
total_push (p ∷ pdus) pdu = omega (arith, total_push pdus pdu)

-- the bytes of PDUs end to end
pub length-concat : (pdus : List (List ℕ)) → length (concat pdus) ≡ total pdus
length-concat [] = refl
length-concat (pdu ∷ pdus) =
    length-append pdu (concat pdus) ∙ ap (λ (n : ℕ). length pdu + n) (length-concat pdus)

-- one more stands behind the others
pub concat_push : (pdus : List (List ℕ)) (pdu : List ℕ)
    → concat (pdus ++ pdu ∷ []) ≡ concat pdus ++ pdu
concat_push [] pdu = append-nil pdu
concat_push (first ∷ pdus) pdu =
    ap (λ (x : List ℕ). first ++ x) (concat_push pdus pdu)
    ∙ sym (append_assoc first (concat pdus) pdu)

-- what holds of each and of one more holds of all
pub each_push : {X : Type 0} (P : X → Type 0) (xs : List X) (x : X) → AllByRecursion P xs → P x
    → AllByRecursion P (xs ++ x ∷ [])
each_push P [] x h p = (p, tt)
each_push P (y ∷ xs) x h p = (h.0, each_push P xs x h.1 p)
