-- a node that closes by a byte, between what was put at both ends of the leg
use Rattle.law_order.proofs.Vocabulary.{◌≡◌, ℕ, List, [], ◌∷◌, ◌++◌, false, Some, None, Err, refl, sym, ◌∙◌, subst, AllByRecursion, Option, IsPrefix}
use Rattle.rh_sig.specs.declared.fault.SigFault.TheVariants as sig
use Rattle.rh_shell.specs.declared.reading.PacketFault.TheVariants as unread
use Rattle.law_moves.proofs.Vocabulary.{prefix_trans, Pipe, Cause, Leg, Refused, Course, Going, NearEnd, Message, Rules, Shell, bytes, bytes_at, bytes_by, end_at, spelled, ClosedWith, ReadsBack, Begins, all_read_of, messages_read, Answers, ReadsWell}
use Rattle.law_moves.proofs.Lemmas.{leg_is}
use Rattle.law_node_streams.proofs.Streams.Ends.{end_is, end_leg}
use Rattle.law_node_streams.specs.Streams.{Seated}
use Rattle.law_world_windows.proofs.Hop.{IsJoined}
use Rattle.law_world_windows.proofs.NextRefused.{byte_refused}
use Rattle.law_world_windows.specs.Known.{Readings}
use Rattle.law_world_windows.specs.Refusing.{refused_by, RefusesMessage, RefusesNext}

-- ---- what is read

-- the bytes that were heard are of what was put
pub record Way (pipe : Option Pipe) (put : List Message) (heard : List ℕ) : Type 0 where
  pub begins : Begins pipe put
  pub reads_back : AllByRecursion (ReadsBack pipe) put
  pub drawn : List ℕ
  pub spells : IsPrefix drawn (spelled put)
  pub front : IsPrefix heard drawn

pub way_read : Readings → (pipe : Option Pipe) (put : List Message) (heard : List ℕ)
    → Way pipe put heard → IsPrefix (messages_read pipe heard) (all_read_of put)
way_read law pipe put heard way =
    law.put pipe put way.drawn heard way.begins way.reads_back way.spells way.front

-- ---- a byte closes it

-- a message is the next of what was put at the other end, and a row refuses it
pub record StopsAt {S : Type 0} (rules : Rules S) (role : S) (leg : Leg) (r : Refused)
    (came put other_came other_put : List Message) : Type 0 where
  pub message : Message
  pub joined : IsJoined came put other_came other_put message
  pub refuses : RefusesMessage rules role leg r message

module _ (law : Readings) (well : Answers)
    (strict : (command value : ℕ) → well (Err (unread.Sig (sig.OutOfRange command value))) ≡ false)
    {S : Type 0} (rules : Rules S) (leg : Leg) (pipe back_pipe : Option Pipe) (r : Refused)
    (why : Cause) (tells : refused_by why ≡ Some r) where
  pub stops_at : (s : Shell S) (b : ℕ) (came put other_came other_put : List Message)
      (heard other_heard drawn : List ℕ) → s.course ≡ Going
      → ClosedWith why (bytes rules s leg (b ∷ [])).0.course
      → ((end : NearEnd) → s.course ≡ Going → end_at s leg ≡ Some end
      → Seated rules s.role pipe came put heard drawn end)
      → ReadsWell well pipe (heard ++ b ∷ []) → Way pipe other_put (heard ++ b ∷ [])
      → IsPrefix other_came (messages_read back_pipe other_heard)
      → Way back_pipe put other_heard
      → StopsAt rules s.role leg r came put other_came other_put
  stops_at s b came put other_came other_put heard other_heard drawn going closed seats fits ahead
      back_came back =
      by (end_at s leg) refl
      (subst (λ (c : Course). ClosedWith why (bytes_by rules s leg (b ∷ []) c).course) going closed)
    where
      refused : RefusesNext rules s.role leg r pipe came (heard ++ b ∷ [])
          → StopsAt rules s.role leg r came put other_came other_put
      refused next = record {
        message = next.message;
        joined = record {
          ahead = subst (λ (ms : List Message). IsPrefix ms (all_read_of other_put)) next.next
              (way_read law pipe other_put (heard ++ b ∷ []) ahead);
          back = prefix_trans other_came (messages_read back_pipe other_heard) (all_read_of put)
              back_came (way_read law back_pipe put other_heard back);
        };
        refuses = next.refuses;
      }

      by : (o : Option NearEnd) → end_at s leg ≡ o
          → ClosedWith why (bytes_at rules s leg (b ∷ []) o).course
          → StopsAt rules s.role leg r came put other_came other_put
      by None at closes = absurd (subst (ClosedWith why) going closes)
      by (Some end) at closes =
          refused (byte_refused well strict rules leg pipe r b s why end came put heard drawn going
          at (leg_is end.leg leg (end_leg leg s.legs end (sym (end_is leg s.legs) ∙ at)))
          (seats end going at)
          (law.piece well pipe heard (b ∷ []) fits).0 (law.parts pipe) closed tells)
