-- what an out proxy puts to its client where no head asks for an echo, and how it reads
use Rattle.law_order.proofs.Vocabulary.{◌≡◌, inl, inr, ℕ, ◌+◌, Bool, true, false, if◌then◌else◌, List, [], ◌∷◌, Some, refl, sym, subst, AllByRecursion}
use Rattle.law_moves.proofs.Vocabulary.{CoD, response_text, Leg, Message, Text, Pdu, Packet, same_leg, OnLeg, of_leg, Answers, IsWellText, TextIsWell}
use Rattle.law_role_outproxy.proofs.Vocabulary.{OutProxyConfig, ping_room, IsEcho, IsNew, IsOpening, IsPassed, IsSuccessor, IsToClient, response}
use Rattle.law_peers_expects.proofs.Asked.EchoTexts.{IsNoEcho}
use Rattle.law_peers_expects.proofs.Asked.Serving.{NoEchoes}
use Rattle.law_peers_expects.specs.Asked.Asking.{IsServed}

-- ---- no answer to an echo request

on_leg : (leg : Leg) (put : List OnLeg) → NoEchoes put → AllByRecursion IsNoEcho (of_leg leg put)
on_leg leg [] all = tt
on_leg leg (one ∷ put) all = by (same_leg one.0 leg) (on_leg leg put all.1)
  where
    by : (t : Bool) → AllByRecursion IsNoEcho (of_leg leg put)
        → AllByRecursion IsNoEcho (if t then one.1 ∷ of_leg leg put else of_leg leg put)
    by true rest = (all.0, rest)
    by false rest = rest

no_answer : (put : List Message) → AllByRecursion IsNoEcho put → IsEcho put → put ≡ []
no_answer [] all is = refl
no_answer (text ∷ []) all is = absurd (all.0 is)
no_answer (text ∷ other ∷ rest) all is = absurd is

pub serves : (config : OutProxyConfig) (asked came : List Message) (leg : Leg) (put : List OnLeg)
    → NoEchoes put → IsToClient config asked came (of_leg leg put)
    → IsServed config asked came (of_leg leg put)
serves config asked came leg put none (inl is) =
    inl (no_answer (of_leg leg put) (on_leg leg put none) is)
serves config asked came leg put none (inr is) = inr is

-- ---- how it reads

module _ (config : OutProxyConfig) (well : Answers)
    (reads : (n : ℕ) → TextIsWell well (Some CoD) (response_text n)) where
  abbrev Well : Message → Type 0
  Well = IsWellText well (Some CoD)

  first_well : (m : Message) → m ≡ response config → Well m
  first_well m is = subst Well (sym is) (reads (config.lifetime + ping_room))

  passed_well : (came put : List Message) → AllByRecursion (IsPassed came) put
      → AllByRecursion Well put
  passed_well came [] all = tt
  passed_well came (Text bytes ∷ put) all = absurd all.0
  passed_well came (Pdu pdu ∷ put) all = (tt, passed_well came put all.1)
  passed_well came (Packet packet ∷ put) all = (tt, passed_well came put all.1)

  opening_well : (came put : List Message) → IsOpening came put → AllByRecursion Well put
  opening_well came [] is = tt
  opening_well came (Text bytes ∷ put) is = absurd is
  opening_well came (Pdu pdu ∷ put) is = absurd is
  opening_well came (Packet packet ∷ put) (inl is) = (tt, opening_well came put is.1)
  opening_well came (Packet packet ∷ put) (inr is) = (tt, passed_well came put is.1)

  new_well : (came put : List Message) → IsNew config came put → AllByRecursion Well put
  new_well came [] is = tt
  new_well came (text ∷ []) is = (first_well text is, tt)
  new_well came (text ∷ first ∷ rest) is =
      (first_well text is.0, (subst Well (sym is.1) tt, opening_well came rest is.2))

  successor_well : (came put : List Message) → IsSuccessor config came put
      → AllByRecursion Well put
  successor_well came [] is = tt
  successor_well came (text ∷ rest) is = (first_well text is.0, passed_well came rest is.1)

  pub served_well : (asked came put : List Message) → IsServed config asked came put
      → AllByRecursion Well put
  served_well asked came put (inl none) = subst (AllByRecursion Well) (sym none) tt
  served_well asked came put (inr (inl is)) = new_well came put is.1
  served_well asked came put (inr (inr is)) = successor_well came put is.1
