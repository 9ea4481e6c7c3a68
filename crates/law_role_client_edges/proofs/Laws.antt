-- what a client told of its windows, and what it knows of those of its in proxies
use Rattle.law_order.proofs.Vocabulary.{◌≡◌, ℕ, ◌≤◌, true, true≢false, List, [], inl, inr, arith, refl, sym}
use Rattle.rh_client.specs.declared.replacement.InStage.TheVariants as in_stage
use Rattle.law_moves.proofs.Vocabulary.{Cookie, Named, ConnA1, OutR1A3, ClientConfig, EndMove, OnLeg, AreUpFirst, HasOne, of_leg}
use Rattle.law_moves.proofs.Lemmas.{one_so}
use Rattle.law_role_client.proofs.Vocabulary.{Replacement, NoneUnderWay, In, Out, co, AreAllowedMoves, client_moved}
use Rattle.law_role_client.proofs.Counted.Views.{way_of}
use Rattle.law_role_client_edges.specs.Telling.{OpensTo, IsToldOf, TellsWindows}
use Rattle.law_role_client_edges.specs.Knowing.{AreAnswers, KnowsWindows, is_in_answered}
use Rattle.law_role_client_edges.proofs.Facts.{is_answered_way, IsAcked}
use Rattle.law_role_client_edges.proofs.Steps.{known_behind}

-- a packet that opens a channel with this window tells less, too
opens_low : (low high : ℕ) → low ≤ high → (m : Named) → OpensTo high m → OpensTo low m
opens_low low high less (ConnA1 version connection channel window) is = omega (arith, less, is)
opens_low low high less (OutR1A3 version connection predecessor channel window) is =
    omega (arith, less, is)
opens_low low high less m is = absurd is

told_of : (size n : ℕ) (cookie : Cookie) (told : ℕ) (put : List OnLeg)
    → HasOne (OpensTo size) (of_leg (co n) put) → IsAcked size cookie told put
    → IsToldOf n cookie told put
told_of size n cookie told put opened (inl low) =
    inl (one_so (OpensTo size) (OpensTo told) (opens_low told size low) (of_leg (co n) put) opened)
told_of size n cookie told put opened (inr acked) = inr acked

pub client_told : (config : ClientConfig) (moves : List EndMove) → AreAllowedMoves config moves
    → AreUpFirst [] moves → TellsWindows (client_moved config moves).passage
client_told config moves allowed first =
    let p = (client_moved config moves).passage in
    let h = known_behind config moves allowed in
    record {
      current = λ asked.
          told_of p.role.config.window p.role.current.number p.role.current.cookie
          p.role.line.current.window.told p.put (h.outs.begun asked) (h.outs.acked first);
      next = λ there asked.
          told_of p.role.config.window p.role.out_successor.number p.role.out_successor.cookie
          p.role.line.next.window.told p.put (h.outs.next_begun asked)
          (inl (let told = h.outs.next_window there in omega (arith, told)));
    }

answered_way : (r : Replacement) → is_in_answered r ≡ true → is_answered_way (way_of r) ≡ true
answered_way NoneUnderWay e = absurd (true≢false (sym e))
answered_way (In in_stage.Asked w) e = absurd (true≢false (sym e))
answered_way (In in_stage.Answered w) e = refl
answered_way (Out stage w) e = absurd (true≢false (sym e))

pub client_knows : (config : ClientConfig) (moves : List EndMove) → AreAllowedMoves config moves
    → AreAnswers [] moves → KnowsWindows moves (client_moved config moves).passage
client_knows config moves allowed answers =
    let p = (client_moved config moves).passage in
    let h = known_behind config moves allowed in
    record {
      writing = λ open' own. record {
        told = h.ins.told open';
        within = h.ins.knows answers open' own;
      };
      successor = λ e own. record {
        told = h.ins.next_told (answered_way p.role.replacement e);
        within = h.ins.knows_next answers (answered_way p.role.replacement e) own;
      };
      leaving = λ up own. record {
        told = h.ins.leaving_told up;
        within = h.ins.knows_leaving answers up own;
      };
    }
