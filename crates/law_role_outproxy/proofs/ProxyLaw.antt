-- the law of a proxy, of an out proxy with what it took and put; and what keeps it
use Rattle.law_order.proofs.Vocabulary.{◌≡◌, ℕ, Bool, false, List, [], ◌∷◌, ◌++◌, sym, ap, ◌∙◌, subst, Item, Log, Passer, PasserLaw, Passing, MayPass, passes, came_at, passed_items}
use Rattle.law_moves.proofs.Vocabulary.{passer_step, Due, Packet, Passage}
use Rattle.law_role_outproxy.proofs.Vocabulary.{OutProxy, passer_of, to_client, came_log, put_items, KeepsOrder}

-- what order sees of a state
pub record Picture : Type 0 where
  pub passer : Passer
  pub finished : Bool

abbrev pub picture_of : OutProxy → Picture
picture_of s = record { passer = passer_of s; finished = s.line.finished }

-- what waits is no item
abbrev pub AreOther : List Due → Type 0
AreOther [] = Unit {0}
AreOther (due ∷ dues) = (to_client (Packet due.packet) ≡ []) × AreOther dues

pub record Law (n : ℕ) (p : Passage OutProxy) : Type 0 where
  pub number : p.role.config.number ≡ n
  pub single : p.role.line.finished ≡ false
  pub other : AreOther p.role.waiting.due
  pub order : KeepsOrder p.role.config.number p

-- what comes to this picture and these logs
pub lands : (n : ℕ) (p q : Passage OutProxy) (x : Passer) (log : Log) (items : List Item)
    → passer_of q.role ≡ x → q.role.config.number ≡ p.role.config.number
    → q.role.line.finished ≡ false → AreOther q.role.waiting.due → came_log q.came ≡ log
    → put_items p.role.config.number q.put ≡ items
    → PasserLaw x p.role.config.number log items → p.role.config.number ≡ n → Law n q
lands n p q x log items passer number single other came put law is_n =
    let k = p.role.config.number in
    let a = subst (λ (xs : List Item). PasserLaw x k log xs) (sym put) law in
    let b = subst (λ (f : Log). PasserLaw x k f (put_items k q.put)) (sym came) a in
    let d =
    subst (λ (y : Passer). PasserLaw y k (came_log q.came) (put_items k q.put)) (sym passer) b in
    record {
      number = number ∙ is_n;
      single = single;
      other = other;
      order = subst (λ (j : ℕ). KeepsOrder j q) (sym number) d;
    }

-- the picture and the logs stay
pub stays : (n : ℕ) (p q : Passage OutProxy) → picture_of q.role ≡ picture_of p.role
    → AreOther q.role.waiting.due → came_log q.came ≡ came_log p.came
    → put_items p.role.config.number q.put ≡ put_items p.role.config.number p.put
    → Law n p → Law n q
stays n p q same other came put l =
    lands n p q (passer_of p.role) (came_log p.came) (put_items p.role.config.number p.put)
    (ap (λ x. x.passer) same) (ap (λ x. x.passer.shelves.current) same)
    (ap (λ x. x.finished) same ∙ l.single) other came put l.order l.number

-- what a proxy may do
pub acts : (n : ℕ) (p q : Passage OutProxy) (act : Passing)
    → passer_of q.role ≡ passes (passer_of p.role) act
    → q.role.config.number ≡ p.role.config.number → q.role.line.finished ≡ false
    → AreOther q.role.waiting.due
    → came_log q.came ≡ came_at (passer_of p.role) act (came_log p.came)
    → put_items p.role.config.number q.put
    ≡ put_items p.role.config.number p.put ++ passed_items act
    → MayPass (passer_of p.role) p.role.config.number act → Law n p → Law n q
acts n p q act passer number single other came put may l =
    let k = p.role.config.number in
    let step =
    passer_step (passer_of p.role) k (came_log p.came) (put_items k p.put) act l.order may in
    lands n p q (passes (passer_of p.role) act) (came_at (passer_of p.role) act (came_log p.came))
    (put_items k p.put ++ passed_items act) passer number single other came put step l.number
